-- What a step of a call does to the count of calls, and that it can be entered.
use Rattle.std.proofs.Common.{◌≡◌, ℕ, ◌+◌, ◌<◌, ◌≤◌, ◌^◌, Option, Some, None, refl, ap, ◌∙◌, arith}
use Rattle.std.specs.Prelude.{slice_get}
use Rattle.sip_uri.specs.declared.uri.Addr.{Addr}
use Rattle.sip_message.specs.declared.message.Request.{Request}
use Rattle.call_media.specs.declared.end.End.{End}
use Rattle.transactions.specs.Contents as transactions
use Rattle.call_core.specs.declared.input.Input.{Input}
use Rattle.calls.specs.State.{Standing}
use Rattle.calls.specs.Changes.{FitsChange, entered}
use Rattle.calls.specs.declared.change.LegDialog.{LegDialog}
use Rattle.calls.specs.declared.standing_call.StandingCall.{StandingCall}
use Rattle.call_steps.specs.declared.occasion.Occasion.{Occasion}
use Rattle.call_steps.specs.Effects as steps
use Rattle.call_steps.specs.Effects.{Effect}
use Rattle.call_steps.specs.Rows.{counts, offers_by, offers_row, takes_by, takes_row}
use Rattle.call_steps.specs.declared.call_step.CallStep.{CallStep}
use Rattle.call_steps.specs.Values.{AskerValue}
use Rattle.plans.specs.Effect.{CanEnter}

-- an input leaves it as it was
taken_by : (s : Standing) (table : transactions.Contents) (o : Occasion) (place : ℕ) (input : Input) (leg : Option LegDialog) (request : Option AskerValue) (c : Option StandingCall)
    → (takes_by s table o place input leg request c).outcome.standing.begun ≡ s.begun
taken_by s table o place input leg request None = refl
taken_by s table o place input leg request (Some c) = refl

pub takes_begun : (s : Standing) (table : transactions.Contents) (o : Occasion) (place : ℕ) (input : Input) (leg : Option LegDialog) (request : Option AskerValue)
    → (takes_row s table o place input leg request).outcome.standing.begun ≡ s.begun
unfolding takes_row
takes_begun s table o place input leg request = taken_by s table o place input leg request (slice_get s.calls place)

-- it was planned on these calls
pub can_enter : (s : Standing) (now : ℕ) (step : CallStep) (table : transactions.Contents) (o : Occasion) (place : ℕ) (input : Input) (leg : Option LegDialog) (request : Option AskerValue)
    → steps.effect s now step ≡ takes_row s table o place input leg request → FitsChange s now step.change → step.dressed.made < 2 ^ 63 → CanEnter s now step
can_enter s now step table o place input leg request row fits few =
    let same : (entered s now step.change).standing.begun ≡ s.begun = ap (λ (x : Effect). x.outcome.standing.begun) row ∙ takes_begun s table o place input leg request in
    record { change = fits; few = few; begun = omega (arith, same) }

-- ---- an offer leaves the count as it was too

offered_by : (s : Standing) (table : transactions.Contents) (o : Occasion) (place : ℕ) (input : Input) (end : End) (r : Request) (id : ℕ) (source : Addr)
    (leg : Option LegDialog) (c : Option StandingCall)
    → (offers_by s table o place input end r id source leg c).outcome.standing.begun ≡ s.begun
offered_by s table o place input end r id source leg None = refl
offered_by s table o place input end r id source leg (Some c) = refl

offers_begun : (s : Standing) (table : transactions.Contents) (o : Occasion) (place : ℕ) (input : Input) (end : End) (r : Request) (id : ℕ) (source : Addr)
    → (offers_row s table o place input end r id source).outcome.standing.begun ≡ s.begun
unfolding offers_row
offers_begun s table o place input end r id source =
    offered_by s table o place input end r id source (counts s.calls place end r.parts.cseq.number) (slice_get s.calls place)

pub can_enter_offer : (s : Standing) (now : ℕ) (step : CallStep) (table : transactions.Contents) (o : Occasion) (place : ℕ) (input : Input) (end : End) (r : Request) (id : ℕ) (source : Addr)
    → steps.effect s now step ≡ offers_row s table o place input end r id source → FitsChange s now step.change → step.dressed.made < 2 ^ 63 → CanEnter s now step
can_enter_offer s now step table o place input end r id source row fits few =
    let same : (entered s now step.change).standing.begun ≡ s.begun = ap (λ (x : Effect). x.outcome.standing.begun) row ∙ offers_begun s table o place input end r id source in
    record { change = fits; few = few; begun = omega (arith, same) }
