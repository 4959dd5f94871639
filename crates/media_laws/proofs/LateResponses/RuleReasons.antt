-- Why a response has the rule that it has, where something is said in a dialog: a 2xx to a first INVITE, in another
-- dialog than the call's, or whose call is gone; and one to a later INVITE whose call is gone.
use Rattle.std.proofs.Common.{◌≡◌, ◌∙◌, ℕ, ◌==◌, Bool, true, false, cond, List, Option, Some, None, refl, ap, sym, subst}
use Rattle.std.specs.Prelude.{slice_get}
use Rattle.std.proofs.lemmas.Bool.{and_parts, eqb-true, false≢true}
use Rattle.std.proofs.lemmas.Option.{none-some, same_Some}
use Rattle.sip_message.specs.declared.message.Parts.{Parts}
use Rattle.sip_message.specs.declared.message.Response.{Response}
use Rattle.sip_message.specs.declared.words.Class.{Class}
use Rattle.sip_message.specs.declared.words.Class.TheVariants.{Failure, Provisional as Early, Success}
use Rattle.sip_message.specs.Words.{class_of, tag_text}
use Rattle.call_media.specs.declared.end.End.{End}
use Rattle.call_media.specs.declared.end.End.TheVariants.{Callee, Caller}
use Rattle.calls.specs.declared.standing_call.StandingCall.{StandingCall}
use Rattle.call_rules.specs.Responses.{asked_end, asked_place, at_place, callless_rule, further_rule, gone_rule, in_call, is_first, is_first_to, is_of_known_dialog, is_open, late_rule, open_rule, response_rule}
use Rattle.call_rules.specs.Speaking.{is_acknowledged, may_offer}
use Rattle.call_rules.specs.declared.responses.ResponseRule.{ResponseRule}
use Rattle.call_rules.specs.declared.responses.ResponseRule.TheVariants.{AckAlone, Again, Answer, Fork, Provisional, Refusal, Silent}
use Rattle.call_trace.specs.Listed.{AllOf}
use Rattle.message_laws.proofs.Messages.RequestViews.{by_if}
use Rattle.message_laws.proofs.Messages.ResponseViews.{IsAsked, IsForked, tag_at}
use Rattle.media_laws.specs.Lateness.{HaveNot}
use Rattle.media_laws.proofs.Copies.Lateness.{none_by_place, none_within, stands_at}

-- a 2xx to a first INVITE, in no dialog that a call has
pub record ForkReason (calls : List StandingCall) (asked : Parts) (r : Response) : Type 0 where
  pub first : asked.cseq.number ≡ 1
  pub accepts : is_acknowledged asked r ≡ true
  pub forked : IsForked calls asked r

-- a 2xx to a later one, whose call is gone
pub record AckReason (calls : List StandingCall) (asked : Parts) (r : Response) : Type 0 where
  pub later : is_first asked ≡ false
  pub accepts : is_acknowledged asked r ≡ true
  pub gone : AllOf (HaveNot (tag_text asked.from.params)) calls

-- one that the call at this place waits for
pub record OpenReason (calls : List StandingCall) (asked : Parts) (r : Response) (place : ℕ) (class : Class) : Type 0 where
  pub call : StandingCall
  pub there : slice_get calls place ≡ Some call
  pub waits : IsAsked asked call
  pub is : class_of r.status ≡ class

module _ (calls : List StandingCall) (asked : Parts) (r : Response) where
  abbrev pub Reason : ResponseRule → Type 0
  Reason Silent = Unit {0}
  Reason (Provisional place status) = OpenReason calls asked r place Early × (status ≡ r.status)
  Reason (Answer place) = OpenReason calls asked r place Success
  Reason (Again place) = Unit {0}
  Reason Fork = ForkReason calls asked r
  Reason AckAlone = AckReason calls asked r
  Reason (Refusal place status) = OpenReason calls asked r place Failure × (status ≡ r.status)

  first_one : is_first asked ≡ true → asked.cseq.number ≡ 1
  first_one e = eqb-true asked.cseq.number 1 (and_parts _ _ e).1

  gone_reason : asked_place calls asked ≡ None → Reason (callless_rule asked r)
  gone_reason none =
      by_if Reason (is_acknowledged asked r) (gone_rule asked) Silent
      (λ a. by_if Reason (is_first asked) Fork AckAlone (λ f. record { first = first_one f; accepts = a; forked = λ place c named there. absurd (none-some place (sym none ∙ named)) })
      (λ n. record { later = n; accepts = a; gone = none_by_place calls asked none })) (λ n. tt)

  known_not : (place : ℕ) (c : StandingCall) → slice_get calls place ≡ Some c → asked_place calls asked ≡ Some place → is_of_known_dialog asked r c (asked_end asked c) ≡ false → IsForked calls asked r
  known_not place c there named unknown = λ i d at_i at_d.
      let place_is : i ≡ place = same_Some i place (sym at_i ∙ named) in
      let call_is : c ≡ d = same_Some c d (sym there ∙ ap (slice_get calls) (sym place_is) ∙ at_d) in
      subst (λ y. is_of_known_dialog asked r y (asked_end asked y) ≡ false) call_is unknown

  -- only the first INVITE makes a dialog
  number_one : (end : End) (number : ℕ) (b : Bool) → cond (is_first_to end number) b true ≡ false → number ≡ 1
  number_one Caller number b e = absurd (false≢true (sym e))
  number_one Callee number b e = by_number (number == 1) refl e
    where
      by_number : (one : Bool) → (number == 1) ≡ one → cond one b true ≡ false → number ≡ 1
      by_number true is e = eqb-true number 1 is
      by_number false is e = absurd (false≢true (sym e))

  late_reason : (place : ℕ) (c : StandingCall) → slice_get calls place ≡ Some c → asked_place calls asked ≡ Some place → Reason (late_rule asked r place c)
  late_reason place c there named =
      by_if Reason (is_acknowledged asked r) (further_rule asked r place c) Silent
      (λ a. by_if Reason (is_of_known_dialog asked r c (asked_end asked c)) (Again place) Fork (λ k. tt)
      (λ u. record { first = number_one (asked_end asked c) asked.cseq.number _ u; accepts = a; forked = known_not place c there named u })) (λ n. tt)

  open_reason : (place : ℕ) (class : Class) → OpenReason calls asked r place class → Reason (open_rule place r.status class)
  open_reason place Early h = (h, refl)
  open_reason place Success h = h
  open_reason place Failure h = (h, refl)

  in_reason : (place : ℕ) (c : Option StandingCall) → may_offer asked ≡ true → slice_get calls place ≡ c → asked_place calls asked ≡ Some place → Reason (in_call asked r place c)
  in_reason place None offers there named = absurd (none_within calls place (stands_at calls asked place named) there)
  in_reason place (Some c) offers there named =
      by_if Reason (is_open asked c) (open_rule place r.status (class_of r.status)) (late_rule asked r place c)
      (λ o. open_reason place (class_of r.status) (record { call = c; there = there; waits = record { offers = offers; tag = tag_at calls asked place c named there; waits = o }; is = refl }))
      (λ n. late_reason place c there named)

  at_reason : (place : Option ℕ) → may_offer asked ≡ true → asked_place calls asked ≡ place → Reason (at_place calls asked r place)
  unfolding at_place
  at_reason None offers named = gone_reason named
  at_reason (Some place) offers named = in_reason place (slice_get calls place) offers refl named

  pub rule_reason : Reason (response_rule calls asked r)
  unfolding response_rule
  rule_reason = by_if Reason (may_offer asked) (at_place calls asked r (asked_place calls asked)) Silent (λ b. at_reason (asked_place calls asked) b refl) (λ n. tt)

  pub fork_reason : response_rule calls asked r ≡ Fork → ForkReason calls asked r
  fork_reason is = subst Reason is rule_reason

  pub ack_reason : response_rule calls asked r ≡ AckAlone → AckReason calls asked r
  ack_reason is = subst Reason is rule_reason
