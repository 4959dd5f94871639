-- A response that no call takes: no current call has the tag of its request, or its request no longer waits.
use Rattle.std.proofs.Common.{◌≡◌, ◌∙◌, ℕ, ◌+◌, Bool, true, false, cond, List, [], ◌∷◌, length, ltb, suc, Option, Some, None, ◌<◌, ◌≤◌, ltb-false, ltb-true, not, refl, sym, subst, inl, inr, arith}
use Rattle.std.specs.Prelude.{slice_get}
use Rattle.std.specs.List.{position_or_len}
use Rattle.std.proofs.lemmas.Option.{none-some, same_Some, slice_get_cases}
use Rattle.sip_message.specs.declared.message.Parts.{Parts}
use Rattle.sip_message.specs.declared.message.Response.{Response}
use Rattle.sip_message.specs.declared.words.Class.{Class}
use Rattle.sip_message.specs.declared.words.Class.TheVariants.{Failure, Provisional, Success}
use Rattle.sip_message.specs.Words.{class_of, tag_text}
use Rattle.calls.specs.Finding.{has_tag, place_by_tag}
use Rattle.calls.specs.declared.standing_call.StandingCall.{StandingCall}
use Rattle.call_rules.specs.Responses.{asked_place, at_place, in_call, is_open, late_rule, open_rule, response_rule}
use Rattle.call_rules.specs.Speaking.{may_offer}
use Rattle.call_rules.specs.declared.responses.ResponseRule.{ResponseRule}
use Rattle.call_rules.specs.declared.responses.ResponseRule.TheVariants.{Silent}
use Rattle.call_trace.specs.Listed.{AllOf}
use Rattle.message_laws.proofs.Messages.ResponseViews.{tag_at}
use Rattle.media_laws.specs.Lateness.{HaveNot, IsLate, IsPassedOver}

-- ---- none has the tag

module _ (tag : List ℕ) where
  none_by : (b : Bool) (n : ℕ) → cond b (Some n) None ≡ None → b ≡ false
  none_by true n e = absurd (none-some n (sym e))
  none_by false n e = refl

  none_head : (c : StandingCall) (calls : List StandingCall) (b : Bool) → has_tag tag c ≡ b → (length calls ≤ position_or_len (has_tag tag) calls → AllOf (HaveNot tag) calls)
      → suc (length calls) ≤ cond (not b) (1 + position_or_len (has_tag tag) calls) 0 → AllOf (HaveNot tag) (c ∷ calls)
  none_head c calls true is rest past = absurd (omega (arith, past))
  none_head c calls false is rest past = (is, rest (omega (arith, past)))

  none_past : (calls : List StandingCall) → length calls ≤ position_or_len (has_tag tag) calls → AllOf (HaveNot tag) calls
  none_past [] e = tt
  none_past (c ∷ calls) e = none_head c calls (has_tag tag c) refl (none_past calls) e

  pub none_named : (calls : List StandingCall) → place_by_tag tag calls ≡ None → AllOf (HaveNot tag) calls
  none_named calls e = none_past calls (ltb-false _ _ (none_by (ltb (position_or_len (has_tag tag) calls) (length calls)) _ e))

pub none_by_place : (calls : List StandingCall) (asked : Parts) → asked_place calls asked ≡ None → AllOf (HaveNot (tag_text asked.from.params)) calls
unfolding asked_place
none_by_place calls asked e = none_named (tag_text asked.from.params) calls e

-- the place of one that has it is in the list
pub stands_at : (calls : List StandingCall) (asked : Parts) (place : ℕ) → asked_place calls asked ≡ Some place → place < length calls
unfolding asked_place
stands_at calls asked place e = by_cond (ltb (position_or_len (has_tag (tag_text asked.from.params)) calls) (length calls)) _ place refl e
  where
    by_cond : (b : Bool) (n k : ℕ) → ltb n (length calls) ≡ b → cond b (Some n) None ≡ Some k → k < length calls
    by_cond true n k is same = subst (λ j. j < length calls) (same_Some n k same) (ltb-true n (length calls) is)
    by_cond false n k is same = absurd (none-some k same)

pub none_within : (calls : List StandingCall) (place : ℕ) → place < length calls → slice_get calls place ≡ None → ⊥
none_within calls place within e = elim (slice_get_cases calls place).1 [
  | inl some ↦ none-some some.0 (sym e ∙ some.2)
  | inr past ↦ (let le = past.0 in omega (arith, within, le))
]

-- ---- by the rule

-- a response that a call waits for is taken
open_taken : (place status : ℕ) (class : Class) → ¬ IsPassedOver (open_rule place status class)
open_taken place status Provisional h = h
open_taken place status Success h = h
open_taken place status Failure h = h

open_by : (asked : Parts) (r : Response) (place : ℕ) (late : ResponseRule) (b : Bool) → IsPassedOver (cond b (open_rule place r.status (class_of r.status)) late) → b ≡ false
open_by asked r place late true h = absurd (open_taken place r.status (class_of r.status) h)
open_by asked r place late false h = refl

late_in : (calls : List StandingCall) (asked : Parts) (r : Response) (place : ℕ) (c : Option StandingCall) → slice_get calls place ≡ c → asked_place calls asked ≡ Some place → IsPassedOver (in_call asked r place c)
    → IsLate calls asked
late_in calls asked r place None there named h = absurd (none_within calls place (stands_at calls asked place named) there)
late_in calls asked r place (Some c) there named h = inr (record {
  place = place;
  call = c;
  there = there;
  tag = tag_at calls asked place c named there;
  closed = open_by asked r place (late_rule asked r place c) (is_open asked c) h;
})

late_at : (calls : List StandingCall) (asked : Parts) (r : Response) (place : Option ℕ) → asked_place calls asked ≡ place → IsPassedOver (at_place calls asked r place) → IsLate calls asked
unfolding at_place
late_at calls asked r None named h = inl (none_by_place calls asked named)
late_at calls asked r (Some place) named h = late_in calls asked r place (slice_get calls place) refl named h

pub passed_late : (calls : List StandingCall) (asked : Parts) (r : Response) → may_offer asked ≡ true → IsPassedOver (response_rule calls asked r) → IsLate calls asked
unfolding response_rule
passed_late calls asked r offers h =
    late_at calls asked r (asked_place calls asked) refl (subst (λ b. IsPassedOver (cond b (at_place calls asked r (asked_place calls asked)) Silent)) offers h)
