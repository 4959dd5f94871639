-- The tags of the server's in the legs of a call, and the calls that they name.
use Rattle.std.proofs.Common.{◌≡◌, ◌≢◌, ◌∙◌, ℕ, zero, suc, ◌≤◌, Bool, true, false, cond, not, ◌||◌, List, [], ◌∷◌, get_or, length, nat_lt, position, Option, Some, None, option_map, refl, ap, sym, subst, inl, inr, arith}
use Rattle.std.specs.Prelude.{slice_get, slice_set}
use Rattle.std.specs.Cmp.Lexicographic.{bytes_decides}
use Rattle.std.specs.List.{All, position_or_len}
use Rattle.std.specs.Option.{option_copied}
use Rattle.std.proofs.lemmas.Bool.{cases_eq, cases_lt, false≢true, lt-ltb}
use Rattle.std.proofs.lemmas.List.{get_or-set_other, get_or-set_same, length-set}
use Rattle.std.proofs.lemmas.List.Quantifiers.{position-Some}
use Rattle.std.proofs.lemmas.List.Sums.{prefix_len_passes}
use Rattle.std.proofs.lemmas.Option.{get_or_from_slice_get, none-some, same_Some, slice_get-get_or, slice_get_within}
use Rattle.sip_message.specs.declared.message.Parts.{Parts}
use Rattle.sip_message.specs.Words.{tag_text}
use Rattle.sdp.specs.declared.description.Description.{Description}
use Rattle.dialogs.specs.declared.state.Dialog.{Dialog}
use Rattle.transactions.specs.Contents as transactions
use Rattle.call_media.specs.declared.end.End.{End}
use Rattle.call_media.specs.declared.end.End.TheVariants.{Caller, Callee}
use Rattle.call_core.specs.Calls.{dialog_of}
use Rattle.calls.specs.Finding.{has_tag, is_tag_in, is_text}
use Rattle.calls.specs.declared.standing_call.StandingCall.{StandingCall}
use Rattle.call_rules.specs.Responses.{asked_end}
use Rattle.call_steps.specs.declared.occasion.Occasion.{Occasion}
use Rattle.call_steps.specs.Scenes.{dialog_in, scene, tag_to}
use Rattle.call_steps.specs.Values.{ComingValue, lent, lent_scene}
use Rattle.call_messages.specs.Dressing.{dialog_with}
use Rattle.message_laws.specs.Knowing.{Apart, ApartFrom, AreApart, HasLegTag, HasMadeTags, IsTagOf}

tagged_by : (tag : List ℕ) (c : StandingCall) (b : Bool) → is_text c.callee_tag tag ≡ b → (b || is_tag_in (dialog_of Caller c.call) tag) ≡ true → IsTagOf c tag
tagged_by tag c true is has = inr (sym ((bytes_decides c.callee_tag tag).0 is))
tagged_by tag c false is has = inl (sym ((bytes_decides c.call.caller.id.ours tag).0 has))

pub tagged : (tag : List ℕ) (c : StandingCall) → has_tag tag c ≡ true → IsTagOf c tag
tagged tag c has = tagged_by tag c (is_text c.callee_tag tag) refl has

pub asked_callee : (p : Parts) (c : StandingCall) → tag_text p.from.params ≡ c.callee_tag → asked_end p c ≡ Callee
asked_callee p c is = rw ((bytes_decides c.callee_tag (tag_text p.from.params)).1 (sym is)) refl

pub leg_tag : (made : ℕ) (x : End) (c : StandingCall) (d : Dialog) → HasMadeTags made c → dialog_of x c.call ≡ Some d → d.id.ours ≡ tag_to x c
leg_tag made Caller c d tags is = ap (λ (e : Dialog). e.id.ours) (same_Some d c.call.caller (sym is))
leg_tag made Callee c d tags is = callee_tag c.call.callee d is tags.leg
  where
    callee_tag : (o : Option Dialog) (d : Dialog) → o ≡ Some d → HasLegTag c.callee_tag o → d.id.ours ≡ c.callee_tag
    callee_tag None d is h = absurd (none-some d is)
    callee_tag (Some e) d is h = ap (λ (x : Dialog). x.id.ours) (same_Some d e (sym is)) ∙ h

pub tag_of_end : (x : End) (c : StandingCall) (tag : List ℕ) → tag ≡ tag_to x c → IsTagOf c tag
tag_of_end Caller c tag is = inl is
tag_of_end Callee c tag is = inr is

or_true : (b : Bool) → (b || true) ≡ true
or_true true = refl
or_true false = refl

pub has_tag_of : (c : StandingCall) (tag : List ℕ) → IsTagOf c tag → has_tag tag c ≡ true
has_tag_of c tag (inl is) = rw ((bytes_decides c.call.caller.id.ours tag).1 (sym is)) (or_true (is_text c.callee_tag tag))
has_tag_of c tag (inr is) = rw ((bytes_decides c.callee_tag tag).1 (sym is)) refl

from_apart : (x : StandingCall) (calls : List StandingCall) (i : ℕ) (e : StandingCall) → ApartFrom x calls → slice_get calls i ≡ Some e → Apart x e
from_apart x [] i e h there = absurd (none-some e there)
from_apart x (y ∷ calls) zero e h there = subst (Apart x) (same_Some y e there) h.0
from_apart x (y ∷ calls) (suc i) e h there = from_apart x calls i e h.1 there

-- no tag is of two calls
pub one_tagged : (tag : List ℕ) (calls : List StandingCall) (i j : ℕ) (c d : StandingCall) → AreApart calls → slice_get calls i ≡ Some c → slice_get calls j ≡ Some d → IsTagOf c tag → IsTagOf d tag → i ≡ j
one_tagged tag [] i j c d apart at_c at_d one two = absurd (none-some c at_c)
one_tagged tag (y ∷ calls) zero zero c d apart at_c at_d one two = refl
one_tagged tag (y ∷ calls) zero (suc j) c d apart at_c at_d one two = absurd (from_apart y calls j d apart.1 at_d tag (subst (λ x. IsTagOf x tag) (sym (same_Some y c at_c)) one) two)
one_tagged tag (y ∷ calls) (suc i) zero c d apart at_c at_d one two = absurd (from_apart y calls i c apart.1 at_c tag (subst (λ x. IsTagOf x tag) (sym (same_Some y d at_d)) two) one)
one_tagged tag (y ∷ calls) (suc i) (suc j) c d apart at_c at_d one two = ap suc (one_tagged tag calls i j c d apart.2 at_c at_d one two)

pub differs_at : (calls : List StandingCall) (place : ℕ) (c : StandingCall) → AreApart calls → slice_get calls place ≡ Some c → c.call.caller.id.ours ≢ c.callee_tag
differs_at [] place c apart there = absurd (none-some c there)
differs_at (y ∷ calls) zero c apart there = subst (λ (x : StandingCall). x.call.caller.id.ours ≢ x.callee_tag) (same_Some y c there) apart.0
differs_at (y ∷ calls) (suc place) c apart there = differs_at calls place c apart.2 there

caller_by : (tag : List ℕ) (c : StandingCall) (b : Bool) → is_text c.callee_tag tag ≡ b → tag ≡ c.call.caller.id.ours → c.call.caller.id.ours ≢ c.callee_tag → cond b Callee Caller ≡ Caller
caller_by tag c true is tag_is differ = absurd (differ (sym tag_is ∙ sym ((bytes_decides c.callee_tag tag).0 is)))
caller_by tag c false is tag_is differ = refl

pub asked_at : (p : Parts) (x : End) (c : StandingCall) → tag_text p.from.params ≡ tag_to x c → c.call.caller.id.ours ≢ c.callee_tag → asked_end p c ≡ x
asked_at p Caller c is differ = caller_by (tag_text p.from.params) c (is_text c.callee_tag (tag_text p.from.params)) refl is differ
asked_at p Callee c is differ = asked_callee p c is

-- of the calls once this one was put, it is of that one or none
pub alone_tagged : (Q : StandingCall → Type 0) (tag : List ℕ) (calls : List StandingCall) (place : ℕ) (c d : StandingCall) → AreApart calls → slice_get calls place ≡ Some c → IsTagOf c tag → (has_tag tag d ≡ true → Q d)
    → All (λ y. has_tag tag y ≡ true → Q y) (slice_set calls place d)
alone_tagged Q tag calls place c d apart there is h i e within =
    let P : StandingCall → Type 0 = λ y. has_tag tag y ≡ true → Q y in
    elim (cases_eq i place) [
      | inl at_place ↦ subst (λ n. P (get_or (slice_set calls place d) n e)) (sym at_place) (subst P (sym (get_or-set_same calls place d e (slice_get_within calls place c there))) h)
      | inr elsewhere ↦ subst P (sym (get_or-set_other calls place i d e elsewhere))
          (λ has. absurd (elsewhere (one_tagged tag calls i place (get_or calls i e) c apart (slice_get-get_or calls i e (omega (arith, within, length-set calls place d))) there (tagged tag (get_or calls i e) has) is)))
    ]

-- ---- the place of the call that a tag names

not_before : {X : Type 0} (p : X → Bool) (xs : List X) (i : ℕ) (d : X) → p (get_or xs i d) ≡ true → position_or_len p xs ≤ i
not_before p xs i d h = elim (cases_lt i (position_or_len p xs)) [
  | inl lt ↦ absurd (false≢true (sym (ap not h) ∙ prefix_len_passes (λ x. not (p x)) xs i d lt))
  | inr le ↦ le
]

some_if : (b : Bool) (m : ℕ) → b ≡ true → cond b (Some m) None ≡ Some m
some_if true m is = refl
some_if false m is = absurd (false≢true is)

pub named_place : (tag : List ℕ) (calls : List StandingCall) (place : ℕ) (c : StandingCall) → AreApart calls → slice_get calls place ≡ Some c → has_tag tag c ≡ true → position (has_tag tag) calls ≡ Some place
named_place tag calls place c apart there has =
    let m = position_or_len (has_tag tag) calls in
    let at_place : has_tag tag (get_or calls place c) ≡ true = subst (λ x. has_tag tag x ≡ true) (sym (get_or_from_slice_get calls place c c there)) has in
    let le : m ≤ place = not_before (has_tag tag) calls place c at_place in
    let found : position (has_tag tag) calls ≡ Some m = some_if (nat_lt m (length calls)) m (lt-ltb m (length calls) (omega (arith, le, slice_get_within calls place c there))) in
    let first = position-Some (has_tag tag) calls m c found in
    let same : m ≡ place = one_tagged tag calls m place (get_or calls m c) c apart (slice_get-get_or calls m c first.0) there (tagged tag (get_or calls m c) first.1) (tagged tag c has) in
    found ∙ ap Some same

-- ---- the dialogs of a scene

lent_back : (d : Option Dialog) → option_copied (option_map lent d) ≡ d
lent_back None = refl
lent_back (Some d) = refl

pub scene_dialog : (table : transactions.Contents) (o : Occasion) (w : ComingValue) (c : StandingCall) (description : Option Description) (x : End)
    → dialog_with x (lent_scene (scene table o w c description)) ≡ dialog_in x w.leg c.call
scene_dialog table o w c description Caller = lent_back (dialog_in Caller w.leg c.call)
scene_dialog table o w c description Callee = lent_back (dialog_in Callee w.leg c.call)
