-- The lines of each stage of a call, for what is neither an offer nor a fit answer, as moves of the trace's calls.
use Rattle.std.proofs.Common.{◌≡◌, ℕ, ◌==◌, ◌≤◌, ◌<◌, nat_le, nat_lt, Bool, true, false, cond, ◌&&◌, ◌||◌, List, [], ◌∷◌, ◌++◌, Option, Some, None, refl, sym, subst, arith}
use Rattle.std.specs.Prelude.{IsTrue, slice_get}
use Rattle.std.proofs.lemmas.Bool.{le-leb}
use Rattle.std.proofs.lemmas.Option.{same_Some}
use Rattle.call_media.specs.declared.end.End.{End}
use Rattle.call_media.specs.Ends.{is_same, other}
use Rattle.call_core.specs.declared.action.Action.{Action}
use Rattle.call_core.specs.declared.action.Action.TheVariants.{Okay, Provisional, Set}
use Rattle.call_core.specs.declared.action.CallTimer.TheVariants as timers
use Rattle.call_core.specs.declared.row.Row.{Row}
use Rattle.call_core.specs.declared.signal.Signal.TheVariants as signals
use Rattle.call_core.specs.declared.stage.Stage.{Stage}
use Rattle.call_core.specs.declared.stage.Stage.TheVariants as stages
use Rattle.call_core.specs.declared.stage.Standing.{Standing}
use Rattle.call_core.specs.Asked.{asked_row, given_up, rings}
use Rattle.call_core.specs.Passing.{status_passed_on}
use Rattle.call_core.specs.Rows.{ringing_time, short_time}
use Rattle.call_messages.specs.declared.scene.Scene.{Scene}
use Rattle.call_trace.specs.declared.call.Call.{Call}
use Rattle.call_trace.specs.declared.call.Stage.TheVariants as traces
use Rattle.call_trace.specs.declared.datagram.Datagram.{Datagram}
use Rattle.call_trace.specs.declared.datagram.Dialog.{Dialog}
use Rattle.call_trace.specs.declared.datagram.Message.{Message}
use Rattle.call_trace.specs.Events as events
use Rattle.call_trace.specs.Events.{IsIdle, IsIdleTaken, IsPartingTaken}
use Rattle.call_trace.specs.Listed.{AllOf}
use Rattle.call_trace.specs.Messages.{is_final, is_request, offering}
use Rattle.call_trace.specs.Moves.{Move}
use Rattle.call_trace.specs.Stands.{AllApart, HasTags, leg}
use Rattle.call_trace.proofs.Apart.{leg_tag}
use Rattle.call_trace.proofs.Idle.{provisional_taken, request_taken}
use Rattle.media_laws.specs.Lines.{LineMove, SaysNone, actions_in, goes, next_in, standing, waits_on}
use Rattle.media_laws.specs.Listing.{hidden, listing}
use Rattle.media_laws.specs.Heard.{HearsActions}
use Rattle.media_laws.specs.Inputs.{TookBye, TookCancel, TookFinal, TookRefusal, TookRequest, TookRinging, TookSuccess}
use Rattle.media_laws.specs.Said.{EndSaid, EndTaken, answered, moves_none, unmoved}
use Rattle.media_laws.specs.Scenes.{LegIn}
use Rattle.media_laws.specs.Shows.{is_caller}
use Rattle.media_laws.proofs.CallLines.LineMoves.{SaysEnd, all_behind, stays}
use Rattle.media_laws.proofs.OfferPairs.SaidActions.{left_said, okay_moves_none, ringing_moves_none}
use Rattle.media_laws.proofs.CallLines.TableMoves.{first_given_up, first_given_up_early, first_limit, first_refused, first_unfit, idle_said}

-- ---- what is taken

pub ringing_idle_taken : (t : List Datagram) (taken : Option Message) (status : ℕ) → TookRinging taken status → IsIdleTaken offering t taken
ringing_idle_taken t taken status h = subst (IsIdleTaken offering t) (sym h.is) (provisional_taken offering t h.message status h.kind h.early)

pub request_idle_taken : (t : List Datagram) (taken : Option Message) → TookRequest taken → IsIdleTaken offering t taken
request_idle_taken t taken h = subst (IsIdleTaken offering t) (sym h.is) (request_taken offering t h.message (subst (λ k. IsTrue (is_request k)) (sym h.kind) refl))

pub none_idle_taken : (t : List Datagram) (taken : Option Message) → taken ≡ None → IsIdleTaken offering t taken
none_idle_taken t taken h = events.due h

at_least : (status : ℕ) → 200 ≤ status → IsTrue (nat_le 200 status)
at_least status h = le-leb 200 status h

pub final_taken : (t : List Datagram) (taken : Option Message) (d : Call) (status : ℕ) → TookFinal taken d status → EndTaken t taken d
final_taken t taken d status h = answered h.message h.is (subst (λ k. IsTrue (is_final k)) (sym h.kind) (at_least status h.late)) h.tag

-- ---- statuses

passed_high : (a b : Bool) (status : ℕ) → 300 ≤ status → 300 ≤ cond a 480 (cond b 500 status)
passed_high true b status h = omega arith
passed_high false true status h = omega arith
passed_high false false status h = h

pub refusal_high : (status : ℕ) → 300 ≤ status → 300 ≤ status_passed_on status
refusal_high status h = passed_high (nat_lt 299 status && nat_lt status 400) (status == 401 || status == 407) status h

hidden_of : (x : End) (stage : Stage) (m : Standing) → Some (standing x stage) ≡ Some m → listing stage ≡ hidden → listing m.stage ≡ hidden
hidden_of x stage m e is = subst (λ (y : Standing). listing y.stage ≡ hidden) (same_Some (standing x stage) m e) is

-- ---- a line

pub is_idle_end : (t : List Datagram) (taken : Option Message) (sent : List Message) (d : Call) (ms : List Message) → AllOf (IsIdle offering t taken) ms → AllOf (EndSaid t taken sent d) ms
is_idle_end t taken sent d [] all = tt
is_idle_end t taken sent d (m ∷ ms) all = (moves_none all.0, is_idle_end t taken sent d ms all.1)

module _ (t : List Datagram) (ds : List Call) (k : ℕ) (d : Call) (apart : AllApart ds) (there : slice_get ds k ≡ Some d) (has : HasTags d) (taken : Option Message) (before : List Message) (idle : AllOf (IsIdle offering t taken) before) (s : Scene) (tokens : ℕ) where
  -- what this line does
  abbrev pub LineOf : Standing → Option Row → Type 0
  LineOf n line = (ms : List Message) → HearsActions s tokens (actions_in line) ms → LineMove t ds k d taken (before ++ ms) n (next_in n line)

  -- nothing of what is said moves a call
  pub quiet_line : (actions : List Action) (ms : List Message) → IsIdleTaken offering t taken → AllOf (SaysNone t taken s) actions → HearsActions s tokens actions ms → Move offering t ds taken (before ++ ms) ds
  quiet_line actions ms took each h = stays t ds taken (before ++ ms) (events.unmoved took) (all_behind (IsIdle offering t taken) before ms idle (idle_said t taken s tokens actions ms each h))

  -- a signal without a line
  pub no_line : (n : Standing) → IsIdleTaken offering t taken → LineOf n None
  no_line n took = λ ms h. waits_on n refl refl refl (quiet_line [] ms took tt h)

  either : (n : Standing) (b : Bool) (one two : Option Row) → LineOf n one → LineOf n two → LineOf n (cond b one two)
  either n true one two f g = f
  either n false one two f g = g

  pub rings_none : (rung : Bool) (limit : ℕ) (x : End) (status : ℕ) → status < 200 → AllOf (SaysNone t taken s) (rings rung limit x status)
  rings_none true limit x status low = by_status (status == 100)
    where
      by_status : (b : Bool) → AllOf (SaysNone t taken s) (cond b [] (Provisional x status ∷ []))
      by_status true = tt
      by_status false = (ringing_moves_none t taken s x status low, tt)
  rings_none false limit x status low = by_status (status == 100)
    where
      by_status : (b : Bool) → AllOf (SaysNone t taken s) (cond b (Set timers.Limit limit ∷ []) (Provisional x status ∷ Set timers.Limit limit ∷ []))
      by_status true = ((λ count m e. absurd e), tt)
      by_status false = (ringing_moves_none t taken s x status low, ((λ count m e. absurd e), tt))

  earlier : (ms : List Message) → AllOf (EndSaid t taken (before ++ ms) d) before
  earlier ms = is_idle_end t taken (before ++ ms) d before idle

  -- ---- the first INVITE waits for its final response

  module _ (rung : Bool) (x : End) (asked : d.stage ≡ traces.Asked) where
    abbrev n : Standing
    n = standing x (stages.Asked rung)

    pub asked_rings : (status : ℕ) → TookRinging taken status → LineOf n (asked_row rung x (signals.Provisional status))
    unfolding asked_row
    asked_rings status took = λ ms h. waits_on (standing x (stages.Asked true)) refl refl refl (quiet_line (rings rung ringing_time x status) ms (ringing_idle_taken t taken status took) (rings_none rung ringing_time x status took.early) h)

    pub asked_unfit : (callee : Dialog) → TookSuccess taken d → LegIn s (other x) callee → callee.ours ≡ d.callee.ours → LineOf n (asked_row rung x signals.UnfitAnswer)
    unfolding asked_row
    asked_unfit callee took l ours = λ ms h. goes (λ m e. absurd (cc)) (first_unfit t ds k d apart there has taken before s tokens (final_taken t taken d took.status took.final) x (other x) 500 callee ms (omega arith) asked l ours (earlier ms) h)

    pub asked_refused : (status : ℕ) → TookRefusal taken d status → LineOf n (asked_row rung x (signals.Refusal status))
    unfolding asked_row
    asked_refused status took = λ ms h. goes (λ m e. absurd (cc)) (first_refused t ds k d apart there has taken before s tokens (final_taken t taken d status took.final) x (status_passed_on status) ms (refusal_high status took.refuses) asked (earlier ms) h)

    pub asked_timed_out : taken ≡ None → LineOf n (asked_row rung x signals.TimedOut)
    unfolding asked_row
    asked_timed_out took = λ ms h. goes (λ m e. absurd (cc)) (first_refused t ds k d apart there has taken before s tokens (unmoved (none_idle_taken t taken took)) x 408 ms (omega arith) asked (earlier ms) h)

    pub asked_limit : taken ≡ None → LineOf n (asked_row rung x signals.Limit)
    unfolding asked_row
    asked_limit took = by_rung rung
      where
        by_rung : (r : Bool) → LineOf (standing x (stages.Asked r)) (asked_row r x signals.Limit)
        by_rung false = no_line (standing x (stages.Asked false)) (none_idle_taken t taken took)
        by_rung true = λ ms h. goes (λ m e. hidden_of x (stages.Cancelling true) m e refl) (first_limit t ds k d apart there has taken before s tokens (unmoved (none_idle_taken t taken took)) x (other x) 480 short_time timers.Limit ms (omega arith) asked (earlier ms) h)

    given_up_line : (r : Bool) → EndTaken t taken d → ((sent : List Message) → SaysEnd t taken sent d s (Okay x)) → LineOf (standing x (stages.Asked r)) (Some (given_up r x))
    given_up_line true took okay = λ ms h. goes (λ m e. hidden_of x (stages.Cancelling true) m e refl) (first_given_up t ds k d apart there has taken before s tokens took x (other x) 487 short_time timers.Limit ms (omega arith) asked (okay (before ++ ms)) (earlier ms) h)
    given_up_line false took okay = λ ms h. goes (λ m e. hidden_of x (stages.Cancelling false) m e refl) (first_given_up_early t ds k d apart there has taken before s tokens took x 487 ms (omega arith) asked (okay (before ++ ms)) (earlier ms) h)

    pub asked_cancelled : TookCancel taken s → LineOf n (asked_row rung x signals.Cancel)
    unfolding asked_row
    asked_cancelled took =
        given_up_line rung (unmoved (request_idle_taken t taken took.request)) (λ sent count m e. moves_none (okay_moves_none t taken s x took.asker took.has took.method count m e))

    pub asked_left : (end : End) → TookBye taken s d (is_caller end) → LineOf n (asked_row rung x (signals.Bye end))
    unfolding asked_row
    asked_left end took = either n (is_same end x) (Some (given_up rung x)) None
        (given_up_line rung (unmoved (request_idle_taken t taken took.request)) (λ sent. left_said t taken sent d s x (leg d (is_caller end)) took.request.message took.bye took.request.is (leg_tag d (is_caller end))))
        (no_line n (request_idle_taken t taken took.request))

    -- what no line is for
    pub asked_none : IsIdleTaken offering t taken → LineOf n None
    asked_none took = no_line n took
