-- What a planned answer results in, and an input that no description comes with.
use Rattle.std.proofs.Common.{◌≡◌, ℕ, true, Option, Some, None, refl}
use Rattle.std.specs.Prelude.{is_some}
use Rattle.port_pool.specs.Pool.{Contents}
use Rattle.sdp.specs.declared.description.Description.{Description}
use Rattle.offer_answer.specs.Checks.{answer_fault}
use Rattle.call_media.specs.declared.answer_plan.PlannedAnswer.{PlannedAnswer}
use Rattle.call_media.specs.declared.session.OpenOffer.{OpenOffer}
use Rattle.call_media.specs.Answers.{IsFit}
use Rattle.call_core.specs.declared.call.Call.{Call}
use Rattle.call_core.specs.declared.plan.MediaPlan.TheVariants.{Puts}
use Rattle.call_core.specs.declared.row.Row.{Row}
use Rattle.call_core.specs.declared.signal.Signal.TheVariants as signals
use Rattle.call_core.specs.declared.stage.Standing.{Standing}
use Rattle.call_media.specs.declared.end.End.{End}
use Rattle.call_core.specs.declared.input.Input.{Input}
use Rattle.call_core.specs.declared.input.Input.TheVariants as inputs
use Rattle.call_core.specs.declared.signal.OfferMethod.{OfferMethod}
use Rattle.call_core.specs.CallRows.{answer_at, signal_at, step_at}
use Rattle.call_core.specs.Inputs.{signal_of}
use Rattle.call_core.specs.Refusals.{MayTake}
use Rattle.call_core.specs.Calls.{none_counted}
use Rattle.call_core.specs.Plans.{carried}
use Rattle.call_core.specs.Table.{row_of}

answered_over : (c : Call) (s : Standing) (pool : Contents) (now : ℕ) (o : OpenOffer) (answer : Description) (row : Row) (p : PlannedAnswer)
    → c.media.offer ≡ Some o → answer_fault c.media.range o.offer_sent answer ≡ None → p.taken ≡ answer → IsFit c.media pool o p
    → row_of s signals.FitAnswer ≡ Some row
    → carried c pool now (record { actions = row.actions; next = row.next; numbers = none_counted; media = Puts p }) ≡ answer_at c s (Some answer) pool now
answered_over c s pool now o answer row p is fault taken fits line =
    rw (is, fault, line, fits.rows.pairs, fits.rows.changes, fits.sent, taken) refl

pub answered_by_plan : (c : Call) (s : Standing) (pool : Contents) (now : ℕ) (answer : Description) (row : Row) (p : PlannedAnswer)
    → is_some c.media.offer ≡ true
    → ((o : OpenOffer) → c.media.offer ≡ Some o → answer_fault c.media.range o.offer_sent answer ≡ None)
    → p.taken ≡ answer
    → ((o : OpenOffer) → c.media.offer ≡ Some o → IsFit c.media pool o p)
    → row_of s signals.FitAnswer ≡ Some row
    → carried c pool now (record { actions = row.actions; next = row.next; numbers = none_counted; media = Puts p }) ≡ answer_at c s (Some answer) pool now
answered_by_plan c s pool now answer row p asked fault taken fits line = cases c.media.offer refl asked where
  cases : (offer : Option OpenOffer) → c.media.offer ≡ offer → is_some offer ≡ true
      → carried c pool now (record { actions = row.actions; next = row.next; numbers = none_counted; media = Puts p }) ≡ answer_at c s (Some answer) pool now
  cases None is h = absurd cc
  cases (Some o) is h = answered_over c s pool now o answer row p is (fault o is) taken (fits o is) line

-- ---- inputs that no description comes with

pub plain_step : (c : Call) (s : Standing) (input : Input) (pool : Contents) (now : ℕ)
    → ((x : End) (method : OfferMethod) (offer : Option Description) → input ≡ inputs.Offer x method offer → ⊥) → ((answer : Option Description) → input ≡ inputs.Answer answer → ⊥)
    → signal_at c s (signal_of input) pool now ≡ step_at c s input pool now
plain_step c s (inputs.Offer x method offer) pool now h k = absurd (h x method offer refl)
plain_step c s (inputs.Answer answer) pool now h k = absurd (k answer refl)
plain_step c s input pool now h k = refl

pub plain_may : (c : Call) (s : Standing) (pool : Contents) (input : Input) (now : ℕ)
    → ((x : End) (method : OfferMethod) (offer : Option Description) → input ≡ inputs.Offer x method offer → ⊥) → ((answer : Option Description) → input ≡ inputs.Answer answer → ⊥)
    → MayTake c s pool input now
plain_may c s pool (inputs.Offer x method offer) now h k = absurd (h x method offer refl)
plain_may c s pool (inputs.Answer answer) now h k = absurd (k answer refl)
plain_may c s pool input now h k = tt
