-- A call that takes an input other than an offer: what waits afterwards, what was counted, and what its open offer
-- carries.
use Rattle.std.proofs.Common.{◌≡◌, ◌∙◌, ℕ, Bool, true, false, cond, ◌||◌, List, Option, Some, None, is_some, refl, ap, sym}
use Rattle.std.specs.Prelude.{slice_get}
use Rattle.std.specs.List.{All}
use Rattle.std.specs.Cmp.Lexicographic.{bytes_decides}
use Rattle.std.proofs.lemmas.Bool.{eqb-true, false≢true}
use Rattle.std.proofs.lemmas.Option.{same_Some}
use Rattle.sip_message.specs.declared.message.Parts.{Parts}
use Rattle.sip_message.specs.Words.{tag_text}
use Rattle.dialogs.specs.declared.state.Dialog.{Dialog}
use Rattle.dialogs.specs.Counting.{last_number}
use Rattle.transactions.specs.declared.transaction.Transaction.{Transaction}
use Rattle.transactions.specs.Contents as transactions
use Rattle.call_media.specs.declared.end.End.{End}
use Rattle.call_media.specs.declared.end.End.TheVariants.{Caller, Callee}
use Rattle.call_media.specs.Ends.{is_same, other}
use Rattle.call_core.specs.declared.input.Input.{Input}
use Rattle.call_core.specs.declared.stage.Standing as stage
use Rattle.call_core.specs.CallRows.{call_row}
use Rattle.call_core.specs.Calls.{dialog_of}
use Rattle.call_core.specs.Plans.{Step}
use Rattle.calls.specs.State.{Standing}
use Rattle.calls.specs.Finding.{has_tag, is_tag_in, is_text}
use Rattle.calls.specs.declared.change.Beside.{Beside}
use Rattle.calls.specs.declared.change.LegDialog.{LegDialog}
use Rattle.calls.specs.declared.standing_call.StandingCall.{StandingCall}
use Rattle.call_rules.specs.Responses.{asked_end, is_last_in, is_open}
use Rattle.call_steps.specs.declared.occasion.Occasion.{Occasion}
use Rattle.call_steps.specs.Effects as steps
use Rattle.call_steps.specs.Effects.{no_effect}
use Rattle.call_steps.specs.Rows.{does, messages_of, put_with, takes_by, takes_row}
use Rattle.call_steps.specs.Scenes.{passed_id, scene, tag_to}
use Rattle.call_steps.specs.Values.{AskerValue, ComingValue, lent_scene, without_offer}
use Rattle.message_laws.specs.Carried.{CarriesOpen}
use Rattle.message_laws.specs.Knowing.{KnowsCalls}
use Rattle.message_laws.specs.Waiting.{FitsCall, IsCounted, from_tag, waits}
use Rattle.calls.specs.Carrying.{with_step}
use Rattle.calls.specs.Changes.{beside}
use Rattle.message_laws.proofs.AwaitedOffers.Awaiting.{LegGrows, LegKeeps, all_at, fits_at, later_all, opened, put_or_gone}
use Rattle.message_laws.proofs.AwaitedOffers.Byes.{ByesAbove, does_byes}
use Rattle.message_laws.proofs.TokenUse.Calls.{FitsLeg, KeepsIds, call_ids}
use Rattle.message_laws.proofs.AwaitedOffers.Coming.{IsLater}
use Rattle.message_laws.proofs.AwaitedOffers.InOrder.{AreSent, messages_sent}
use Rattle.message_laws.proofs.AwaitedOffers.Keeping.{carries_after, step_open}
use Rattle.message_laws.proofs.AwaitedOffers.Offering.{none_offered, said_offered}
use Rattle.message_laws.proofs.AwaitedOffers.Once.{IsSameNumber, NoneOffers}
use Rattle.message_laws.proofs.AwaitedOffers.Tables.{IsNoOfferInput, TakesFits, consumes_input, takes_fits}
use Rattle.message_laws.proofs.AwaitedOffers.WaitSteps.{calm_fits, step_fits}

-- ---- two requests that are the open offer of one call are one

pub same_is : (a b : End) → is_same a b ≡ true → a ≡ b
same_is Caller Caller h = refl
same_is Caller Callee h = absurd (false≢true h)
same_is Callee Caller h = absurd (false≢true h)
same_is Callee Callee h = refl

same_asked : (p q : Parts) (c : StandingCall) → is_open p c ≡ true → is_open q c ≡ true → asked_end p c ≡ asked_end q c
same_asked p q c one two =
    let a = opened p c one in
    let b = opened q c two in
    let stands : a.0 ≡ b.0 = same_Some a.0 b.0 (sym a.1.stands ∙ b.1.stands) in
    same_is (asked_end p c) (other a.0.offerer) a.1.end ∙ ap (λ (s : stage.Standing). other s.offerer) stands ∙ sym (same_is (asked_end q c) (other b.0.offerer) b.1.end)

tag_by : (tag : List ℕ) (c : StandingCall) (b : Bool) → is_text c.callee_tag tag ≡ b → (b || is_tag_in (dialog_of Caller c.call) tag) ≡ true → tag ≡ tag_to (cond b Callee Caller) c
tag_by tag c true is has = sym ((bytes_decides c.callee_tag tag).0 is)
tag_by tag c false is has = sym ((bytes_decides c.call.caller.id.ours tag).0 has)

pub asked_tag : (p : Parts) (c : StandingCall) → has_tag (tag_text p.from.params) c ≡ true → tag_text p.from.params ≡ tag_to (asked_end p c) c
asked_tag p c has = tag_by (tag_text p.from.params) c (is_text c.callee_tag (tag_text p.from.params)) refl has

-- the number that was given last in a dialog, and 1 before there is one
abbrev number_in : Option Dialog → ℕ
number_in None = 1
number_in (Some d) = last_number d

numbered : (n : ℕ) (d : Option Dialog) → is_last_in n d ≡ true → IsCounted n d → n ≡ number_in d
numbered n None last counted = counted
numbered n (Some d) last counted = sym (eqb-true (last_number d) n last)

open_number : (t : Transaction) (c : StandingCall) → has_tag (from_tag t) c ≡ true → is_open t.parts c ≡ true → FitsCall t c → t.parts.cseq.number ≡ number_in (dialog_of (asked_end t.parts c) c.call)
open_number t c has h fits = numbered t.parts.cseq.number (dialog_of (asked_end t.parts c) c.call) (opened t.parts c h).1.last (fits has).counted

pub same_number : (t u : Transaction) (c : StandingCall) → has_tag (from_tag t) c ≡ true → has_tag (from_tag u) c ≡ true → is_open t.parts c ≡ true → is_open u.parts c ≡ true → FitsCall t c → FitsCall u c
    → IsSameNumber t u
same_number t u c has_t has_u open_t open_u fits_t fits_u =
    let end = same_asked t.parts u.parts c open_t open_u in
    record {
      tag = asked_tag t.parts c has_t ∙ ap (λ x. tag_to x c) end ∙ sym (asked_tag u.parts c has_u);
      number = open_number t c has_t open_t fits_t ∙ ap (λ x. number_in (dialog_of x c.call)) end ∙ sym (open_number u c has_u open_u fits_u);
    }

-- ---- a step of a call

-- the request no longer waits afterwards, where the call at this place had it open
abbrev pub IsLost : List StandingCall → ℕ → Transaction → Transaction → Type 0
IsLost calls place t u = (c : StandingCall) → slice_get calls place ≡ Some c → has_tag (from_tag t) c ≡ true → waits u.state ≡ true → is_open t.parts c ≡ true → ⊥

pub record StepWaits (final : Bool) (place : ℕ) (calls : List StandingCall) (x : steps.Effect) : Type 0 where
  pub none : NoneOffers x.dressed.changes
  pub fits : (t u : Transaction) → IsLater t u → All (FitsCall t) calls → (final ≡ true → IsLost calls place t u) → All (FitsCall u) x.outcome.standing.calls
  pub byes : (made : ℕ) → KnowsCalls made calls → ByesAbove made calls x.dressed.changes
  pub keeps : (t : Transaction) → All (CarriesOpen t) calls → All (CarriesOpen t) x.outcome.standing.calls
  pub sent : AreSent x.dressed.changes x.dressed.sends

-- a dialog that comes with an input keeps the server's number, or counts the one that was asked, where a final response
-- came
pub record LegFits (final : Bool) (made : ℕ) (leg : Option LegDialog) (c : StandingCall) : Type 0 where
  pub tags : FitsLeg made c leg
  pub grows : LegGrows c.call leg
  pub keeps : final ≡ false → LegKeeps c.call leg

final_fits : (t u : Transaction) (made : ℕ) (calls : List StandingCall) (place : ℕ) (c : StandingCall) (step : Step) (kept : Beside) → KeepsIds c.call step.call → LegFits true made kept.leg c
    → TakesFits c.call true step → IsLater t u → FitsCall t c → slice_get calls place ≡ Some c → IsLost calls place t u → FitsCall u (beside kept (with_step c step))
final_fits t u made calls place c step kept keeps leg fits later h there lost =
    step_fits t u made c true step kept keeps leg.tags leg.grows fits later (λ tag w open_before. absurd (lost c there tag w open_before)) h

after_fits : (final : Bool) (t u : Transaction) (made : ℕ) (calls : List StandingCall) (place : ℕ) (c : StandingCall) (step : Step) (kept : Beside) → KeepsIds c.call step.call → LegFits final made kept.leg c
    → TakesFits c.call final step → IsLater t u → FitsCall t c → slice_get calls place ≡ Some c → (final ≡ true → IsLost calls place t u) → is_some step.call.standing ≡ true
    → FitsCall u (beside kept (with_step c step))
after_fits true t u made calls place c step kept keeps leg fits later h there lost stands = final_fits t u made calls place c step kept keeps leg fits later h there (lost refl)
after_fits false t u made calls place c step kept keeps leg fits later h there lost stands = calm_fits t u made c step kept keeps leg.tags (leg.keeps refl) fits later h stands

does_waits : (calls : Standing) (table : transactions.Contents) (o : Occasion) (place made : ℕ) (w : ComingValue) (c : StandingCall) (final : Bool) (step : Step) → KeepsIds c.call step.call
    → LegFits final made w.leg c → TakesFits c.call final step → slice_get calls.calls place ≡ Some c → StepWaits final place calls.calls (does calls table o place w c step)
does_waits calls table o place made w c final step keeps leg fits there =
    let said = messages_of table o w c step in
    let s = scene table o w c step.description in
    record {
      none = λ t opens offers. none_offered (lent_scene s) step.actions t fits.none_offered (said_offered s (passed_id table c) step.actions t opens offers);
      fits = λ t u later each lost.
          put_or_gone (FitsCall u) calls.calls place (beside (put_with w said) (with_step c step)) (is_some step.call.standing)
          (after_fits final t u made calls.calls place c step (put_with w said) keeps leg fits later (fits_at t calls.calls place c each there) there lost) (later_all t u calls.calls later each);
      byes = λ m knows. does_byes m made calls table o place w c step knows there leg.tags leg.grows;
      keeps = λ t each.
          let d = beside (put_with w said) (with_step c step) in
          put_or_gone (CarriesOpen t) calls.calls place d (is_some step.call.standing)
          (λ stands. carries_after t c d (step_open made c final step (put_with w said) keeps leg.tags leg.keeps fits) (all_at (CarriesOpen t) calls.calls place c each there)) each;
      sent = messages_sent s (passed_id table c) step.actions;
    }

nothing_waits : (final : Bool) (calls : Standing) (place : ℕ) → StepWaits final place calls.calls (no_effect calls)
nothing_waits final calls place = record { none = λ t opens offers. opens; fits = λ t u later each lost. later_all t u calls.calls later each; byes = λ m knows t opens. absurd opens; keeps = λ t each. each; sent = tt }

takes_by_waits : (calls : Standing) (table : transactions.Contents) (o : Occasion) (place made : ℕ) (input : Input) (leg : Option LegDialog) (request : Option AskerValue) (c : Option StandingCall)
    → IsNoOfferInput input → slice_get calls.calls place ≡ c → ((d : StandingCall) → slice_get calls.calls place ≡ Some d → LegFits (consumes_input input) made leg d)
    → StepWaits (consumes_input input) place calls.calls (takes_by calls table o place input leg request c)
takes_by_waits calls table o place made input leg request None n there fits = nothing_waits (consumes_input input) calls place
takes_by_waits calls table o place made input leg request (Some c) n there fits =
    does_waits calls table o place made (without_offer leg request) c (consumes_input input) (call_row c.call input calls.pool o.now) (call_ids c.call input calls.pool o.now) (fits c there)
    (takes_fits c.call input calls.pool o.now n) there

pub takes_waits : (calls : Standing) (table : transactions.Contents) (o : Occasion) (place made : ℕ) (input : Input) (leg : Option LegDialog) (request : Option AskerValue) → IsNoOfferInput input
    → ((d : StandingCall) → slice_get calls.calls place ≡ Some d → LegFits (consumes_input input) made leg d)
    → StepWaits (consumes_input input) place calls.calls (takes_row calls table o place input leg request)
unfolding takes_row
takes_waits calls table o place made input leg request n fits = takes_by_waits calls table o place made input leg request (slice_get calls.calls place) n refl fits
