-- Where a call that the trace lists takes an input that is a signal, the event is a move, and the trace's calls show
-- the server's afterwards.
use Rattle.std.proofs.Common.{◌≡◌, ◌⊎◌, ◌∙◌, ℕ, true, cond, is_some, List, [], ◌++◌, Option, Some, None, ap, sym, subst, refl, inl, inr}
use Rattle.std.proofs.lemmas.Option.{none-some}
use Rattle.std.specs.Prelude.{remove, slice_get, slice_set}
use Rattle.transactions.specs.declared.transaction.Transaction.{Transaction}
use Rattle.call_core.specs.CallRows.{call_row}
use Rattle.call_core.specs.Plans.{Step}
use Rattle.call_core.specs.Table.{row_of}
use Rattle.call_core.specs.declared.action.Action.TheVariants.{AnswerAgain}
use Rattle.call_core.specs.declared.input.Input.{Input}
use Rattle.call_core.specs.declared.signal.Signal.{Signal}
use Rattle.call_core.specs.declared.stage.Standing.{Standing}
use Rattle.call_steps.specs.Rows.{messages_of, takes_by, takes_row}
use Rattle.call_steps.specs.Values.{AskerValue, ComingValue, without_offer}
use Rattle.calls.specs.declared.change.LegDialog.{LegDialog}
use Rattle.calls.specs.declared.standing_call.StandingCall.{StandingCall}
use Rattle.plans.specs.CallRows.{occasion}
use Rattle.plans.specs.Office.{Office}
use Rattle.plans.specs.declared.setting.Setting.{Setting}
use Rattle.call_trace.specs.declared.call.Call.{Call}
use Rattle.call_trace.specs.declared.datagram.Datagram.{Datagram}
use Rattle.call_trace.specs.declared.datagram.Message.{Message}
use Rattle.call_trace.specs.Events.{IsIdle, passed}
use Rattle.call_trace.specs.Listed.{AllOf}
use Rattle.call_trace.specs.Lives.{Stands}
use Rattle.call_trace.specs.Messages.{offering}
use Rattle.call_trace.specs.Moves.{Move}
use Rattle.call_trace.specs.Stands.{AllApart, HasTags}
use Rattle.call_trace.proofs.Members.{all_at}
use Rattle.message_laws.proofs.QuietEvents.Describing.{BodiesDescribe}
use Rattle.message_laws.proofs.Messages.ReadBack.{SentIsRead}
use Rattle.message_laws.specs.OpenRequests.{HasAsked}
use Rattle.message_laws.proofs.Askers.AskedCalls.{at_place}
use Rattle.message_laws.specs.Comings.{CanCome}
use Rattle.media_laws.specs.Coming.{FitsComing, scene_at}
use Rattle.media_laws.specs.Going.{put_as}
use Rattle.message_laws.specs.Serving.{IsStaged}
use Rattle.media_laws.specs.Taking.{TakesSignal}
use Rattle.message_laws.specs.Messages.{AreMessages}
use Rattle.media_laws.specs.Afterwards.{HasSpot}
use Rattle.media_laws.specs.Heard.{HearsActions}
use Rattle.media_laws.specs.Inputs.{is_bye_signal}
use Rattle.media_laws.specs.Lines.{SaysNone, next_in}
use Rattle.media_laws.specs.Listing.{is_listed}
use Rattle.media_laws.specs.Shows.{ShowsCall}
use Rattle.media_laws.proofs.Scenes.Reading.{Reading}
use Rattle.media_laws.proofs.OtherCalls.Spots.{has_spot}
use Rattle.media_laws.proofs.CallLines.Stages.{stage_moves}
use Rattle.media_laws.specs.Steps.{GoOn, GoesOnAt, IsAfter, IsSignalOf, StandsShown, calls_after}
use Rattle.media_laws.proofs.CallLines.StepsOn.{goes_on_at}
use Rattle.media_laws.proofs.EndTags.HeardSteps.{step_heard}
use Rattle.media_laws.proofs.CallLines.LineSteps.{got_set, line_goes_on}
use Rattle.media_laws.proofs.CallLines.SignalSteps.{signal_row}

-- the list of calls that a step leaves
pub list_after : (cs : List StandingCall) (place : ℕ) (new : StandingCall) (standing next : Option Standing) → standing ≡ next → cond (is_some standing) (slice_set cs place new) (remove cs place) ≡ calls_after cs place new next
list_after cs place new None next is = ap (calls_after cs place new) is
list_after cs place new (Some m) next is = ap (calls_after cs place new) is

-- the call in no place
abbrev gone_as : StandingCall → Option Standing → StandingCall
gone_as c next = record c { call = record c.call { standing = next } }

goes_nowhere : (c : StandingCall) (next : Option Standing) → next ≡ None → GoesOnAt c (gone_as c next) next
goes_nowhere c next gone = record {
  standing = refl;
  dialogs = record { caller = refl; callee = refl; tag = refl };
  media = record { session = inl refl; offer = inl refl };
  asked = refl;
  opens = λ n m is next_m. absurd (none-some m (sym gone ∙ next_m));
}

module _ (reads : Reading) (describes : BodiesDescribe) (law : SentIsRead) (keep : (k : ℕ) (t : List Datagram) (old new : List Call) (taken : Option Message) (sent : List Message) → Move offering t old taken sent new → Stands offering old k t → AllApart new) (s after : Office) (begun more : List Transaction) (t : List Datagram) (old : List Call) (k : ℕ) (before : StandsShown s begun t old k) (later : IsAfter s after (begun ++ more)) (e : Setting) (place : ℕ) (c : StandingCall) (n : Standing) (input : Input) (signal : Signal) (leg : Option LegDialog) (request : Option AskerValue) (there : slice_get s.calls.calls place ≡ Some c) (stands : c.call.standing ≡ Some n) (listed : is_listed c ≡ true) (is_signal : IsSignalOf c.call input signal) (can : CanCome input (without_offer leg request)) where
  abbrev w : ComingValue
  w = without_offer leg request

  abbrev step : Step
  step = call_row c.call input s.calls.pool e.now

  abbrev new : StandingCall
  new = put_as w (messages_of s.table (occasion s e) w c step) step.call c

  abbrev next : Option Standing
  next = next_in n (row_of n signal)

  abbrev Shows : List Datagram → StandingCall → Call → Type 0
  Shows sent = ShowsCall after.table.slots (begun ++ more) (t ++ sent)

  spot : HasSpot s.table.slots begun t s.calls.calls old place c
  spot = has_spot s.table.slots begun t s.calls.calls old place c before.listed before.asked there listed

  staged_put : (put : StandingCall) → after.calls.calls ≡ calls_after s.calls.calls place put next → (m : Standing) → next ≡ Some m → IsStaged put.call
  staged_put put calls m is =
      let at_put : slice_get after.calls.calls place ≡ Some put = subst (λ l. slice_get l place ≡ Some put) (sym (calls ∙ ap (calls_after s.calls.calls place put) is)) (got_set s.calls.calls place c put there) in
      all_at (λ (x : StandingCall). IsStaged x.call) after.calls.calls place put later.staged at_put

  module _ (taken : Option Message) (first ms : List Message) (idle : AllOf (IsIdle offering t taken) first) (alone : is_bye_signal signal ≡ true → first ≡ []) (again : SaysNone t taken (scene_at s e w c step.description) (AnswerAgain n.offerer)) (takes : (d : Call) (j : ℕ) → slice_get old j ≡ Some d → ShowsCall s.table.slots begun t c d → TakesSignal n (scene_at s e w c step.description) d taken signal) where
    -- the call goes on here, or is gone
    by_step : (put : StandingCall) → GoesOnAt c put next → AreMessages (messages_of s.table (occasion s e) w c step).dressed.sends ms → after.calls.calls ≡ calls_after s.calls.calls place put next
        → GoOn (Shows (passed k taken (first ++ ms))) after.calls.calls t old taken (first ++ ms)
    by_step put on are list =
        let line = signal_row c.call n input signal s.calls.pool e.now stands is_signal in
        let took = takes spot.call spot.place_there spot.there spot.shows in
        let apart = before.stands.sessions.apart in
        let hears = subst (λ actions. HearsActions (scene_at s e w c step.description) s.tokens actions ms) line.actions (step_heard reads describes law s e place c input w before.scenes there can ms are) in
        line_goes_on s.table.slots begun t s.calls.calls old place c n stands there spot (at_place (HasAsked begun) s.calls.calls place c before.asked there)
        (all_at (λ (x : StandingCall). IsStaged x.call) s.calls.calls place c before.staged there) put next on after more k taken (first ++ ms)
        (λ calls m. keep k t old calls taken (first ++ ms) m before.stands) later.numbers later.keeps list (staged_put put list)
        (stage_moves t old spot.place_there spot.call apart spot.there (all_at HasTags old spot.place_there spot.call before.stands.sessions.tags spot.there) taken first idle (scene_at s e w c step.description) s.tokens n.offerer n.stage signal alone again
        took.legs took.at took.awaited took.took ms hears)

    -- what the row results in
    abbrev Takes : Type 0
    Takes = AreMessages (takes_row s.calls s.table (occasion s e) place input leg request).dressed.sends ms → after.calls.calls ≡ (takes_row s.calls s.table (occasion s e) place input leg request).outcome.standing.calls
        → GoOn (Shows (passed k taken (first ++ ms))) after.calls.calls t old taken (first ++ ms)

    by_row : (put : StandingCall) → GoesOnAt c put next → calls_after s.calls.calls place new next ≡ calls_after s.calls.calls place put next → Takes
    unfolding takes_row
    by_row put on same are calls =
        let line = signal_row c.call n input signal s.calls.pool e.now stands is_signal in
        by_step put on (subst (λ o. AreMessages (takes_by s.calls s.table (occasion s e) place input leg request o).dressed.sends ms) there are)
        ((calls ∙ ap (λ o. (takes_by s.calls s.table (occasion s e) place input leg request o).outcome.standing.calls) there) ∙ (list_after s.calls.calls place new step.call.standing next line.next ∙ same))

    -- with a dialog of its own, if one comes
    pub takes_go_on : FitsComing c leg → Takes
    takes_go_on fits = by_row new (goes_on_at w (messages_of s.table (occasion s e) w c step) c n input signal s.calls.pool e.now stands is_signal fits refl) refl

    -- or where it is gone then, whatever dialog comes
    gone_goes_on : next ≡ None → Takes
    gone_goes_on gone = by_row (gone_as c next) (goes_nowhere c next gone) (ap (calls_after s.calls.calls place new) gone ∙ ap (calls_after s.calls.calls place (gone_as c next)) (sym gone))

    pub fits_or_gone : FitsComing c leg ⊎ (next ≡ None) → Takes
    fits_or_gone (inl fits) = takes_go_on fits
    fits_or_gone (inr gone) = gone_goes_on gone
