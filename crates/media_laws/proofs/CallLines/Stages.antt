-- Each line of the table of a call that a trace lists, but those of an offer and of a fit answer, is a move of the
-- trace's calls.
use Rattle.std.proofs.Common.{◌≡◌, ◌∙◌, ℕ, Bool, true, false, not, List, [], ◌++◌, Option, Some, None, refl, ap, sym, subst}
use Rattle.std.specs.Prelude.{slice_get}
use Rattle.std.proofs.lemmas.Bool.{false≢true}
use Rattle.call_media.specs.declared.end.End.{End}
use Rattle.call_media.specs.declared.end.End.TheVariants.{Caller, Callee}
use Rattle.call_media.specs.Ends.{other}
use Rattle.call_core.specs.declared.action.Action.TheVariants.{AnswerAgain}
use Rattle.call_core.specs.declared.row.Row.{Row}
use Rattle.call_core.specs.declared.signal.Signal.{Signal}
use Rattle.call_core.specs.declared.signal.Signal.TheVariants as signals
use Rattle.call_core.specs.declared.stage.Cancelled.{Cancelled}
use Rattle.call_core.specs.declared.stage.Stage.{Stage}
use Rattle.call_core.specs.declared.stage.Stage.TheVariants as stages
use Rattle.call_core.specs.declared.stage.Standing.{Standing}
use Rattle.call_core.specs.Answered.{answered_row, waiting}
use Rattle.call_core.specs.Asked.{asked_row}
use Rattle.call_core.specs.Ending.{ending_row}
use Rattle.call_core.specs.Reasked.{reasked_row}
use Rattle.call_core.specs.Settled.{settled_row}
use Rattle.call_core.specs.Table.{row_of}
use Rattle.call_core.specs.Updating.{updating_row}
use Rattle.call_messages.specs.declared.scene.Scene.{Scene}
use Rattle.call_trace.specs.declared.call.Call.{Call}
use Rattle.call_trace.specs.declared.call.Stage.TheVariants as traces
use Rattle.call_trace.specs.declared.datagram.Datagram.{Datagram}
use Rattle.call_trace.specs.declared.datagram.Message.{Message}
use Rattle.call_trace.specs.Events.{IsIdle, IsIdleTaken}
use Rattle.call_trace.specs.Listed.{AllOf}
use Rattle.call_trace.specs.Messages.{offering}
use Rattle.call_trace.specs.Stands.{AllApart, HasTags, leg}
use Rattle.media_laws.specs.Inputs.{IsAwaitedBy, Took, TookBye, TookRequest, TookRinging, is_bye_signal}
use Rattle.media_laws.specs.Scenes.{LegIn}
use Rattle.media_laws.specs.Shows.{is_caller}
use Rattle.media_laws.proofs.CallLines.ByeLines as byes
use Rattle.media_laws.proofs.CallLines.LaterLines as later
use Rattle.media_laws.specs.Lines.{Answered, HasLegs, IsAt, Legs, LineMove, Offering, SaysNone, next_in, standing}
use Rattle.media_laws.proofs.CallLines.StageLines.{LineOf, asked_cancelled, asked_left, asked_limit, asked_refused, asked_rings, asked_timed_out, asked_unfit, no_line, none_idle_taken, request_idle_taken, ringing_idle_taken}

pub other_is : (x : End) → is_caller (other x) ≡ not (is_caller x)
other_is Caller = refl
other_is Callee = refl

module _ (t : List Datagram) (ds : List Call) (k : ℕ) (d : Call) (apart : AllApart ds) (there : slice_get ds k ≡ Some d) (has : HasTags d) (taken : Option Message) (before : List Message) (idle : AllOf (IsIdle offering t taken) before) (s : Scene) (tokens : ℕ) where
  abbrev Line : Standing → Option Row → Type 0
  Line n line = LineOf t ds k d apart there has taken before idle s tokens n line

  nothing : (n : Standing) → IsIdleTaken offering t taken → Line n None
  nothing n took = no_line t ds k d apart there has taken before idle s tokens n took

  rung_idle : (status : ℕ) → TookRinging taken status → IsIdleTaken offering t taken
  rung_idle status took = ringing_idle_taken t taken status took

  asked_idle : TookRequest taken → IsIdleTaken offering t taken
  asked_idle took = request_idle_taken t taken took

  due_idle : taken ≡ None → IsIdleTaken offering t taken
  due_idle took = none_idle_taken t taken took

  at_asked : (rung : Bool) (signal : Signal) → d.stage ≡ traces.Asked → HasLegs (stages.Asked rung) s d signal → Took taken s d signal → Line (standing Caller (stages.Asked rung)) (asked_row rung Caller signal)
  unfolding asked_row
  at_asked rung (signals.Offer end method) asked legs took = absurd took
  at_asked rung (signals.Provisional status) asked legs took = asked_rings t ds k d apart there has taken before idle s tokens rung Caller asked status took
  at_asked rung signals.FitAnswer asked legs took = absurd took
  at_asked rung signals.UnfitAnswer asked legs took = asked_unfit t ds k d apart there has taken before idle s tokens rung Caller asked legs.callee took legs.leg legs.ours
  at_asked rung (signals.Refusal status) asked legs took = asked_refused t ds k d apart there has taken before idle s tokens rung Caller asked status took
  at_asked rung signals.TimedOut asked legs took = asked_timed_out t ds k d apart there has taken before idle s tokens rung Caller asked took
  at_asked rung signals.Ack asked legs took = nothing (standing Caller (stages.Asked rung)) (asked_idle took)
  at_asked rung signals.Cancel asked legs took = asked_cancelled t ds k d apart there has taken before idle s tokens rung Caller asked took
  at_asked rung (signals.Bye end) asked legs took = asked_left t ds k d apart there has taken before idle s tokens rung Caller asked end took
  at_asked rung signals.Limit asked legs took = asked_limit t ds k d apart there has taken before idle s tokens rung Caller asked took
  at_asked rung signals.Repeat asked legs took = nothing (standing Caller (stages.Asked rung)) (due_idle took)
  at_asked rung signals.Wait asked legs took = nothing (standing Caller (stages.Asked rung)) (due_idle took)
  at_asked rung signals.Lifetime asked legs took = nothing (standing Caller (stages.Asked rung)) (due_idle took)

  -- a BYE comes alone
  left_by : (n : Standing) (line : Option Row) (end : End) (took : TookBye taken s d (is_caller end)) → before ≡ [] → LineOf t ds k d apart there has (Some took.request.message) [] tt s tokens n line → Line n line
  left_by n line end took alone f = λ ms h.
      subst (λ v. LineMove t ds k d v (before ++ ms) n (next_in n line)) (sym took.request.is) (subst (λ l. LineMove t ds k d (Some took.request.message) (l ++ ms) n (next_in n line)) (sym alone) (f ms h))

  module _ (x : End) (again : SaysNone t taken s (AnswerAgain x)) (legs : Legs s d) where
    across : LegIn s (other x) (leg d (not (is_caller x)))
    across = subst (λ b. LegIn s (other x) (leg d b)) (other_is x) (legs (other x))

    at_answered : (inside : Bool) (interval : ℕ) (signal : Signal) → Answered d → IsAwaitedBy (waiting inside interval) signal → (is_bye_signal signal ≡ true → before ≡ []) → Took taken s d signal → Line (standing x (waiting inside interval)) (answered_row inside interval x signal)
    unfolding answered_row
    at_answered inside interval (signals.Offer end method) at awaited alone took = absurd took
    at_answered inside interval (signals.Provisional status) at awaited alone took = nothing (standing x (waiting inside interval)) (rung_idle status took)
    at_answered inside interval signals.FitAnswer at awaited alone took = absurd took
    at_answered true interval signals.UnfitAnswer at awaited alone took = absurd (false≢true awaited)
    at_answered false interval signals.UnfitAnswer at awaited alone took = absurd (false≢true awaited)
    at_answered true interval (signals.Refusal status) at awaited alone took = absurd (false≢true awaited)
    at_answered false interval (signals.Refusal status) at awaited alone took = absurd (false≢true awaited)
    at_answered inside interval signals.TimedOut at awaited alone took = nothing (standing x (waiting inside interval)) (due_idle took)
    at_answered inside interval signals.Ack at awaited alone took = later.answered_acked t ds k d apart there has taken before idle s tokens inside interval x took
    at_answered inside interval signals.Cancel at awaited alone took = nothing (standing x (waiting inside interval)) (asked_idle took.request)
    at_answered inside interval (signals.Bye end) at awaited alone took =
        left_by (standing x (waiting inside interval)) (answered_row inside interval x (signals.Bye end)) end took (alone refl)
        (byes.answered_left t ds k d apart there has took.request.message took.request.kind s tokens inside interval end x at.settled at.stage took.bye (legs (other end)))
    at_answered inside interval signals.Limit at awaited alone took = nothing (standing x (waiting inside interval)) (due_idle took)
    at_answered inside interval signals.Repeat at awaited alone took = later.answered_again t ds k d apart there has taken before idle s tokens inside interval x took again
    at_answered inside interval signals.Wait at awaited alone took = later.answered_silent t ds k d apart there has taken before idle s tokens inside interval x took (legs x) across
    at_answered inside interval signals.Lifetime at awaited alone took = later.answered_outlasts t ds k d apart there has taken before idle s tokens inside interval x took

    at_settled : (signal : Signal) → IsAwaitedBy stages.Settled signal → (is_bye_signal signal ≡ true → before ≡ []) → Took taken s d signal → Line (standing x stages.Settled) (settled_row signal)
    unfolding settled_row
    at_settled (signals.Offer end method) awaited alone took = absurd took
    at_settled (signals.Provisional status) awaited alone took = nothing (standing x stages.Settled) (rung_idle status took)
    at_settled signals.FitAnswer awaited alone took = absurd took
    at_settled signals.UnfitAnswer awaited alone took = absurd (false≢true awaited)
    at_settled (signals.Refusal status) awaited alone took = absurd (false≢true awaited)
    at_settled signals.TimedOut awaited alone took = nothing (standing x stages.Settled) (due_idle took)
    at_settled signals.Ack awaited alone took = nothing (standing x stages.Settled) (asked_idle took)
    at_settled signals.Cancel awaited alone took = nothing (standing x stages.Settled) (asked_idle took.request)
    at_settled (signals.Bye end) awaited alone took =
        left_by (standing x stages.Settled) (settled_row (signals.Bye end)) end took (alone refl)
        (byes.settled_left t ds k d apart there has took.request.message took.request.kind s tokens end x took.bye (legs (other end)))
    at_settled signals.Limit awaited alone took = nothing (standing x stages.Settled) (due_idle took)
    at_settled signals.Repeat awaited alone took = nothing (standing x stages.Settled) (due_idle took)
    at_settled signals.Wait awaited alone took = nothing (standing x stages.Settled) (due_idle took)
    at_settled signals.Lifetime awaited alone took = later.settled_expires t ds k d apart there has taken before idle s tokens x took (legs Caller) (legs Callee)

    at_reasked : (rung : Bool) (cancelled : Cancelled) (signal : Signal) → Offering d → (is_bye_signal signal ≡ true → before ≡ []) → Took taken s d signal → Line (standing x (stages.Reasked rung cancelled)) (reasked_row rung cancelled x signal)
    unfolding reasked_row
    at_reasked rung cancelled (signals.Offer end method) at alone took = absurd took
    at_reasked rung cancelled (signals.Provisional status) at alone took = later.reasked_rings t ds k d apart there has taken before idle s tokens rung cancelled x status took
    at_reasked rung cancelled signals.FitAnswer at alone took = absurd took
    at_reasked rung cancelled signals.UnfitAnswer at alone took = later.reasked_unfit t ds k d apart there has taken before idle s tokens rung cancelled x took (legs x) across
    at_reasked rung cancelled (signals.Refusal status) at alone took =
        later.reasked_refused t ds k d apart there has taken before idle s tokens x at.answered.settled at.offer at.answered.stage at.open_is rung cancelled status took (legs x) across
    at_reasked rung cancelled signals.TimedOut at alone took = later.reasked_timed_out t ds k d apart there has taken before idle s tokens rung cancelled x took (legs x) across
    at_reasked rung cancelled signals.Ack at alone took = nothing (standing x (stages.Reasked rung cancelled)) (asked_idle took)
    at_reasked rung cancelled signals.Cancel at alone took = later.reasked_cancelled t ds k d apart there has taken before idle s tokens rung cancelled x took
    at_reasked rung cancelled (signals.Bye end) at alone took =
        left_by (standing x (stages.Reasked rung cancelled)) (reasked_row rung cancelled x (signals.Bye end)) end took (alone refl)
        (byes.reasked_left t ds k d apart there has took.request.message took.request.kind s tokens rung cancelled end x took.bye (legs (other end)))
    at_reasked rung cancelled signals.Limit at alone took = later.reasked_limit t ds k d apart there has taken before idle s tokens rung cancelled x took (legs x) across
    at_reasked rung cancelled signals.Repeat at alone took = nothing (standing x (stages.Reasked rung cancelled)) (due_idle took)
    at_reasked rung cancelled signals.Wait at alone took = nothing (standing x (stages.Reasked rung cancelled)) (due_idle took)
    at_reasked rung cancelled signals.Lifetime at alone took = later.reasked_outlasts t ds k d apart there has taken before idle s tokens rung cancelled x took

    at_updating : (signal : Signal) → Offering d → (is_bye_signal signal ≡ true → before ≡ []) → Took taken s d signal → Line (standing x stages.Updating) (updating_row x signal)
    unfolding updating_row
    at_updating (signals.Offer end method) at alone took = absurd took
    at_updating (signals.Provisional status) at alone took = nothing (standing x stages.Updating) (rung_idle status took)
    at_updating signals.FitAnswer at alone took = absurd took
    at_updating signals.UnfitAnswer at alone took = later.update_unfit t ds k d apart there has taken before idle s tokens x at.answered.settled at.offer at.answered.stage at.open_is took (legs x) across
    at_updating (signals.Refusal status) at alone took = later.update_refused_line t ds k d apart there has taken before idle s tokens x at.answered.settled at.offer at.answered.stage at.open_is status took (legs x) across
    at_updating signals.TimedOut at alone took = later.update_timed_out t ds k d apart there has taken before idle s tokens x at.answered.settled at.offer at.answered.stage at.open_is took (legs x) across
    at_updating signals.Ack at alone took = nothing (standing x stages.Updating) (asked_idle took)
    at_updating signals.Cancel at alone took = nothing (standing x stages.Updating) (asked_idle took.request)
    at_updating (signals.Bye end) at alone took =
        left_by (standing x stages.Updating) (updating_row x (signals.Bye end)) end took (alone refl)
        (byes.update_left t ds k d apart there has took.request.message took.request.kind s tokens end x took.bye (legs (other end)))
    at_updating signals.Limit at alone took = nothing (standing x stages.Updating) (due_idle took)
    at_updating signals.Repeat at alone took = nothing (standing x stages.Updating) (due_idle took)
    at_updating signals.Wait at alone took = nothing (standing x stages.Updating) (due_idle took)
    at_updating signals.Lifetime at alone took = later.updating_outlasts t ds k d apart there has taken before idle s tokens x took

    at_ending : (interval : ℕ) (signal : Signal) → d.stage ≡ traces.Ending (is_caller (other x)) → IsAwaitedBy (stages.Ending interval) signal → (is_bye_signal signal ≡ true → before ≡ []) → Took taken s d signal → Line (standing x (stages.Ending interval)) (ending_row interval x signal)
    unfolding ending_row
    at_ending interval (signals.Offer end method) stage awaited alone took = absurd took
    at_ending interval (signals.Provisional status) stage awaited alone took = nothing (standing x (stages.Ending interval)) (rung_idle status took)
    at_ending interval signals.FitAnswer stage awaited alone took = absurd took
    at_ending interval signals.UnfitAnswer stage awaited alone took = absurd (false≢true awaited)
    at_ending interval (signals.Refusal status) stage awaited alone took = absurd (false≢true awaited)
    at_ending interval signals.TimedOut stage awaited alone took = nothing (standing x (stages.Ending interval)) (due_idle took)
    at_ending interval signals.Ack stage awaited alone took = later.ending_acked t ds k d apart there has taken before idle s tokens interval x (stage ∙ ap traces.Ending (other_is x)) took (legs x)
    at_ending interval signals.Cancel stage awaited alone took = nothing (standing x (stages.Ending interval)) (asked_idle took.request)
    at_ending interval (signals.Bye end) stage awaited alone took =
        left_by (standing x (stages.Ending interval)) (ending_row interval x (signals.Bye end)) end took (alone refl)
        (byes.ending_left t ds k d apart there has took.request.message took.request.kind s tokens interval end x (stage ∙ ap traces.Ending (other_is x)) took.bye)
    at_ending interval signals.Limit stage awaited alone took = nothing (standing x (stages.Ending interval)) (due_idle took)
    at_ending interval signals.Repeat stage awaited alone took = later.ending_again t ds k d apart there has taken before idle s tokens interval x (stage ∙ ap traces.Ending (other_is x)) took again
    at_ending interval signals.Wait stage awaited alone took = later.ending_silent t ds k d apart there has taken before idle s tokens interval x (stage ∙ ap traces.Ending (other_is x)) took (legs x)
    at_ending interval signals.Lifetime stage awaited alone took = nothing (standing x (stages.Ending interval)) (due_idle took)

  -- ---- every stage that a trace lists

  pub stage_moves : (x : End) (stage : Stage) (signal : Signal) → (is_bye_signal signal ≡ true → before ≡ []) → SaysNone t taken s (AnswerAgain x) → HasLegs stage s d signal → IsAt x stage d → IsAwaitedBy stage signal
      → Took taken s d signal → Line (standing x stage) (row_of (standing x stage) signal)
  unfolding row_of
  stage_moves x (stages.Asked rung) signal alone again legs at awaited took =
      subst (λ (e : End). Line (standing e (stages.Asked rung)) (asked_row rung e signal)) (sym at.1) (at_asked rung signal at.0 legs took)
  stage_moves x (stages.Cancelling sent) signal alone again legs at awaited took = absurd at
  stage_moves x (stages.Answered interval) signal alone again legs at awaited took = at_answered x again legs false interval signal at awaited alone took
  stage_moves x stages.Settled signal alone again legs at awaited took = at_settled x again legs signal awaited alone took
  stage_moves x (stages.Reasked rung cancelled) signal alone again legs at awaited took = at_reasked x again legs rung cancelled signal at alone took
  stage_moves x (stages.Reanswered interval) signal alone again legs at awaited took = at_answered x again legs true interval signal at awaited alone took
  stage_moves x stages.Updating signal alone again legs at awaited took = at_updating x again legs signal at alone took
  stage_moves x (stages.Ending interval) signal alone again legs at awaited took = at_ending x again legs interval signal at awaited alone took
