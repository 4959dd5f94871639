-- The lines of a call that was answered, for what is neither an offer nor a fit answer, as moves of the trace's
-- calls. x is the offerer, and b whether it is the caller.
use Rattle.std.proofs.Common.{◌≡◌, ℕ, ◌≤◌, nat_le, nat_lt, Bool, true, false, cond, not, ◌&&◌, List, [], ◌∷◌, ◌++◌, Option, Some, None, refl, sym, subst, arith}
use Rattle.std.specs.Prelude.{IsTrue, slice_get}
use Rattle.std.proofs.lemmas.Bool.{le-leb, le-ltb}
use Rattle.call_media.specs.declared.end.End.{End}
use Rattle.call_media.specs.declared.end.End.TheVariants.{Callee, Caller}
use Rattle.call_media.specs.Ends.{other}
use Rattle.call_core.specs.declared.action.Action.{Action}
use Rattle.call_core.specs.declared.action.Action.TheVariants.{Abandon, AnswerAgain, Bye, Cancel, Okay, Refusal, Release, Set, Stop}
use Rattle.call_core.specs.declared.action.CallTimer.TheVariants as timers
use Rattle.call_core.specs.declared.row.Row.{Row}
use Rattle.call_core.specs.declared.signal.Signal.TheVariants as signals
use Rattle.call_core.specs.declared.stage.Cancelled.{Cancelled}
use Rattle.call_core.specs.declared.stage.Cancelled.TheVariants.{Never, PassedOn, Waits}
use Rattle.call_core.specs.declared.stage.Stage.TheVariants as stages
use Rattle.call_core.specs.declared.stage.Standing.{Standing}
use Rattle.call_core.specs.Answered.{answered_row, waiting}
use Rattle.call_core.specs.Asked.{rings}
use Rattle.call_core.specs.Ending.{ending_row}
use Rattle.call_core.specs.Passing.{status_passed_on}
use Rattle.call_core.specs.Reasked.{cancelled_inside, has_lost_the_call, reasked_row}
use Rattle.call_core.specs.Rows.{gone, row, short_time, twice_to_t2}
use Rattle.call_core.specs.Settled.{settled_row}
use Rattle.call_core.specs.Updating.{updating_row}
use Rattle.call_messages.specs.declared.scene.Scene.{Scene}
use Rattle.call_trace.specs.declared.call.Call.{Call}
use Rattle.call_trace.specs.declared.call.Offer.{Offer}
use Rattle.call_trace.specs.declared.call.Settled.{Settled}
use Rattle.call_trace.specs.declared.call.Stage.TheVariants.{Answered, Ending}
use Rattle.call_trace.specs.declared.datagram.Datagram.{Datagram}
use Rattle.call_trace.specs.declared.datagram.Kind.{Kind}
use Rattle.call_trace.specs.declared.datagram.Kind.TheVariants.{Response}
use Rattle.call_trace.specs.declared.datagram.Message.{Message}
use Rattle.call_trace.specs.Events.{IsIdle, IsIdleTaken}
use Rattle.call_trace.specs.Listed.{AllOf}
use Rattle.call_trace.specs.Messages.{is_final, is_success, offering}
use Rattle.call_trace.specs.Moves.{Move, release}
use Rattle.call_trace.specs.Stands.{AllApart, HasTags, leg}
use Rattle.media_laws.specs.Heard.{HearsActions}
use Rattle.media_laws.specs.Inputs.{TookCancel, TookRefusal, TookRequest, TookRinging, TookSuccess}
use Rattle.media_laws.specs.Said.{unmoved}
use Rattle.media_laws.specs.Scenes.{LegIn}
use Rattle.media_laws.specs.Shows.{is_caller}
use Rattle.media_laws.proofs.CallLines.LineMoves.{all_behind}
use Rattle.media_laws.proofs.OfferPairs.SaidActions.{cancel_moves_none, okay_moves_none, refusal_moves_none}
use Rattle.media_laws.specs.Lines.{SaysNone, goes, released, standing, waits_on}
use Rattle.media_laws.proofs.CallLines.StageLines.{LineOf, final_taken, is_idle_end, no_line, none_idle_taken, quiet_line, refusal_high, request_idle_taken, ringing_idle_taken, rings_none}
use Rattle.media_laws.proofs.CallLines.TableMoves.{both_told, idle_said, last_told, later_failed, later_unfit}

is_final_of : (k : Kind) (status : ℕ) → k ≡ Response status → 200 ≤ status → IsTrue (is_final k)
is_final_of k status is late = subst (λ v. IsTrue (is_final v)) (sym is) (le-leb 200 status late)

high_is_no_success : (status : ℕ) → 300 ≤ status → IsTrue (not (nat_le 200 status && nat_lt status 300))
high_is_no_success status h = by_parts (nat_le 200 status) (nat_lt status 300) (le-ltb status 300 h)
  where
    by_parts : (a b : Bool) → b ≡ false → IsTrue (not (a && b))
    by_parts true b e = subst (λ v. IsTrue (not v)) (sym e) refl
    by_parts false b e = refl

is_refusal : (k : Kind) (status : ℕ) → k ≡ Response status → 300 ≤ status → IsTrue (not (is_success k))
is_refusal k status is high = subst (λ v. IsTrue (not (is_success v))) (sym is) (high_is_no_success status high)

module _ (t : List Datagram) (ds : List Call) (k : ℕ) (d : Call) (apart : AllApart ds) (there : slice_get ds k ≡ Some d) (has : HasTags d) (taken : Option Message) (before : List Message) (idle : AllOf (IsIdle offering t taken) before) (s : Scene) (tokens : ℕ) where
  abbrev Line : Standing → Option Row → Type 0
  Line n line = LineOf t ds k d apart there has taken before idle s tokens n line

  none : IsIdleTaken offering t taken → (n : Standing) → Line n None
  none took n = no_line t ds k d apart there has taken before idle s tokens n took

  -- ---- the call has lived long enough, while an offer or its ACK is open

  later_set : taken ≡ None → (ms : List Message) → HearsActions s tokens (Set timers.Lifetime short_time ∷ []) ms → Move offering t ds taken (before ++ ms) ds
  later_set took ms h = quiet_line t ds k d apart there has taken before idle s tokens (Set timers.Lifetime short_time ∷ []) ms (none_idle_taken t taken took) ((λ count m e. absurd e), tt) h

  pub reasked_outlasts : (rung : Bool) (cancelled : Cancelled) (x : End) → taken ≡ None → Line (standing x (stages.Reasked rung cancelled)) (reasked_row rung cancelled x signals.Lifetime)
  unfolding reasked_row
  reasked_outlasts rung cancelled x took = λ ms h. waits_on (standing x (stages.Reasked rung cancelled)) refl refl refl (later_set took ms h)

  pub updating_outlasts : (x : End) → taken ≡ None → Line (standing x stages.Updating) (updating_row x signals.Lifetime)
  unfolding updating_row
  updating_outlasts x took = λ ms h. waits_on (standing x stages.Updating) refl refl refl (later_set took ms h)

  -- ---- its 200 waits for an ACK

  module _ (inside : Bool) (interval : ℕ) (x : End) where
    abbrev n : Standing
    n = standing x (waiting inside interval)

    pub answered_acked : TookRequest taken → Line n (answered_row inside interval x signals.Ack)
    unfolding answered_row
    answered_acked took = by_inside inside
      where
        by_inside : (i : Bool) → Line (standing x (waiting i interval)) (answered_row i interval x signals.Ack)
        by_inside true = λ ms h. waits_on (standing x stages.Settled) refl refl refl (quiet_line t ds k d apart there has taken before idle s tokens (Stop timers.Repeat ∷ Stop timers.Wait ∷ []) ms (request_idle_taken t taken took) ((λ count m e. absurd e), ((λ count m e. absurd e), tt)) h)
        by_inside false = λ ms h. waits_on (standing x stages.Settled) refl refl refl (quiet_line t ds k d apart there has taken before idle s tokens (Stop timers.Repeat ∷ Stop timers.Wait ∷ []) ms (request_idle_taken t taken took) ((λ count m e. absurd e), ((λ count m e. absurd e), tt)) h)

    pub answered_again : taken ≡ None → SaysNone t taken s (AnswerAgain x) → Line n (answered_row inside interval x signals.Repeat)
    unfolding answered_row
    answered_again took again = by_inside inside
      where
        by_inside : (i : Bool) → Line (standing x (waiting i interval)) (answered_row i interval x signals.Repeat)
        by_inside true = λ ms h. waits_on (standing x (waiting true (twice_to_t2 interval))) refl refl refl (quiet_line t ds k d apart there has taken before idle s tokens (AnswerAgain x ∷ Set timers.Repeat (twice_to_t2 interval) ∷ []) ms (none_idle_taken t taken took) (again, ((λ count m e. absurd e), tt)) h)
        by_inside false = λ ms h. waits_on (standing x (waiting false (twice_to_t2 interval))) refl refl refl (quiet_line t ds k d apart there has taken before idle s tokens (AnswerAgain x ∷ Set timers.Repeat (twice_to_t2 interval) ∷ []) ms (none_idle_taken t taken took) (again, ((λ count m e. absurd e), tt)) h)

    pub answered_silent : taken ≡ None → LegIn s x (leg d (is_caller x)) → LegIn s (other x) (leg d (not (is_caller x))) → Line n (answered_row inside interval x signals.Wait)
    unfolding answered_row
    answered_silent took lx ly = λ ms h. goes (λ m e. absurd (cc)) (both_told t ds k d apart there has taken before s tokens (unmoved (none_idle_taken t taken took)) (is_caller x) x (other x) ms lx ly (is_idle_end t taken (before ++ ms) d before idle) h)

    pub answered_outlasts : taken ≡ None → Line n (answered_row inside interval x signals.Lifetime)
    unfolding answered_row
    answered_outlasts took = by_inside inside
      where
        by_inside : (i : Bool) → Line (standing x (waiting i interval)) (answered_row i interval x signals.Lifetime)
        by_inside true = λ ms h. waits_on (standing x (waiting true interval)) refl refl refl (later_set took ms h)
        by_inside false = λ ms h. waits_on (standing x (waiting false interval)) refl refl refl (later_set took ms h)

  -- ---- no offer is open

  pub settled_expires : (x : End) → taken ≡ None → LegIn s Caller (leg d true) → LegIn s Callee (leg d false) → Line (standing x stages.Settled) (settled_row signals.Lifetime)
  unfolding settled_row
  settled_expires x took caller callee = λ ms h. goes (λ m e. absurd (cc)) (both_told t ds k d apart there has taken before s tokens (unmoved (none_idle_taken t taken took)) true Caller Callee ms caller callee (is_idle_end t taken (before ++ ms) d before idle) h)

  -- ---- one end has left it

  module _ (interval : ℕ) (x : End) (stage : d.stage ≡ Ending (not (is_caller x))) where
    told : IsIdleTaken offering t taken → LegIn s x (leg d (is_caller x)) → Line (standing x (stages.Ending interval)) (Some (gone (Bye x ∷ [])))
    told took lx = λ ms h. goes (λ m e. absurd (cc)) (last_told t ds k d apart there has taken before s tokens (unmoved took) (is_caller x) x (other x) ms stage lx (is_idle_end t taken (before ++ ms) d before idle) h)

    pub ending_acked : TookRequest taken → LegIn s x (leg d (is_caller x)) → Line (standing x (stages.Ending interval)) (ending_row interval x signals.Ack)
    unfolding ending_row
    ending_acked took lx = told (request_idle_taken t taken took) lx

    pub ending_silent : taken ≡ None → LegIn s x (leg d (is_caller x)) → Line (standing x (stages.Ending interval)) (ending_row interval x signals.Wait)
    unfolding ending_row
    ending_silent took lx = told (none_idle_taken t taken took) lx

    pub ending_again : taken ≡ None → SaysNone t taken s (AnswerAgain x) → Line (standing x (stages.Ending interval)) (ending_row interval x signals.Repeat)
    unfolding ending_row
    ending_again took again = λ ms h. waits_on (standing x (stages.Ending (twice_to_t2 interval))) refl refl refl (quiet_line t ds k d apart there has taken before idle s tokens (AnswerAgain x ∷ Set timers.Repeat (twice_to_t2 interval) ∷ []) ms (none_idle_taken t taken took) (again, ((λ count m e. absurd e), tt)) h)

  -- ---- a later INVITE waits for its final response

  module _ (rung : Bool) (cancelled : Cancelled) (x : End) where
    abbrev asking_n : Standing
    asking_n = standing x (stages.Reasked rung cancelled)

    pub reasked_rings : (status : ℕ) → TookRinging taken status → Line asking_n (reasked_row rung cancelled x (signals.Provisional status))
    unfolding reasked_row
    reasked_rings status took = by_cancelled cancelled
      where
        took_idle : IsIdleTaken offering t taken
        took_idle = ringing_idle_taken t taken status took

        ring : (r : Bool) → AllOf (SaysNone t taken s) (rings r short_time x status)
        ring r = rings_none t ds k d apart there has taken before idle s tokens r short_time x status took.early

        joined : (xs ys : List Action) → AllOf (SaysNone t taken s) xs → AllOf (SaysNone t taken s) ys → AllOf (SaysNone t taken s) (xs ++ ys)
        joined [] ys a b = b
        joined (z ∷ xs) ys a b = (a.0, joined xs ys a.1 b)

        by_cancelled : (c : Cancelled) → Line (standing x (stages.Reasked rung c)) (reasked_row rung c x (signals.Provisional status))
        by_cancelled Never = λ ms h. waits_on (standing x (stages.Reasked true Never)) refl refl refl (quiet_line t ds k d apart there has taken before idle s tokens (rings rung short_time x status) ms took_idle (ring rung) h)
        by_cancelled Waits = λ ms h.
            waits_on (standing x (stages.Reasked true PassedOn)) refl refl refl
            (quiet_line t ds k d apart there has taken before idle s tokens (rings true short_time x status ++ Cancel (other x) ∷ Set timers.Limit short_time ∷ []) ms took_idle (joined (rings true short_time x status) (Cancel (other x) ∷ Set timers.Limit short_time ∷ []) (ring true) (cancel_moves_none t taken s (other x), ((λ count m e. absurd e), tt))) h)
        by_cancelled PassedOn = λ ms h. waits_on (standing x (stages.Reasked true PassedOn)) refl refl refl (quiet_line t ds k d apart there has taken before idle s tokens (rings rung short_time x status) ms took_idle (ring rung) h)

    pub reasked_unfit : TookSuccess taken d → LegIn s x (leg d (is_caller x)) → LegIn s (other x) (leg d (not (is_caller x))) → Line asking_n (reasked_row rung cancelled x signals.UnfitAnswer)
    unfolding reasked_row
    reasked_unfit took lx ly = λ ms h. goes (λ m e. absurd (cc)) (later_unfit t ds k d apart there has taken before s tokens (final_taken t taken d took.status took.final) (is_caller x) x (other x) 500 ms (omega arith) lx ly (is_idle_end t taken (before ++ ms) d before idle) h)

    pub reasked_timed_out : taken ≡ None → LegIn s x (leg d (is_caller x)) → LegIn s (other x) (leg d (not (is_caller x))) → Line asking_n (reasked_row rung cancelled x signals.TimedOut)
    unfolding reasked_row
    reasked_timed_out took lx ly = λ ms h. goes (λ m e. absurd (cc)) (later_failed t ds k d apart there has taken before s tokens (unmoved (none_idle_taken t taken took)) (is_caller x) x (other x) 408 [] ms (omega arith) lx ly tt (is_idle_end t taken (before ++ ms) d before idle) h)

    pub reasked_limit : taken ≡ None → LegIn s x (leg d (is_caller x)) → LegIn s (other x) (leg d (not (is_caller x))) → Line asking_n (reasked_row rung cancelled x signals.Limit)
    unfolding reasked_row
    reasked_limit took lx ly = by_rung rung
      where
        by_rung : (r : Bool) → Line (standing x (stages.Reasked r cancelled)) (reasked_row r cancelled x signals.Limit)
        by_rung false = none (none_idle_taken t taken took) (standing x (stages.Reasked false cancelled))
        by_rung true = λ ms h.
            goes (λ m e. absurd (cc))
            (later_failed t ds k d apart there has taken before s tokens (unmoved (none_idle_taken t taken took)) (is_caller x) x (other x) 408 (Abandon (other x) ∷ []) ms (omega arith) lx ly ((λ count m e. absurd e), tt) (is_idle_end t taken (before ++ ms) d before idle) h)

    pub reasked_cancelled : TookCancel taken s → Line asking_n (reasked_row rung cancelled x signals.Cancel)
    unfolding reasked_row
    reasked_cancelled took = by_cancelled rung cancelled
      where
        okay : SaysNone t taken s (Okay x)
        okay count m e = okay_moves_none t taken s x took.asker took.has took.method count m e

        took_idle : IsIdleTaken offering t taken
        took_idle = request_idle_taken t taken took.request

        by_cancelled : (r : Bool) (c : Cancelled) → Line (standing x (stages.Reasked r c)) (Some (cancelled_inside r c x))
        by_cancelled true Never = λ ms h.
            waits_on (standing x (stages.Reasked true PassedOn)) refl refl refl
            (quiet_line t ds k d apart there has taken before idle s tokens (Okay x ∷ Cancel (other x) ∷ Set timers.Limit short_time ∷ []) ms took_idle (okay, (cancel_moves_none t taken s (other x), ((λ count m e. absurd e), tt))) h)
        by_cancelled false Never = λ ms h. waits_on (standing x (stages.Reasked false Waits)) refl refl refl (quiet_line t ds k d apart there has taken before idle s tokens (Okay x ∷ []) ms took_idle (okay, tt) h)
        by_cancelled r Waits = λ ms h. waits_on (standing x (stages.Reasked r Waits)) refl refl refl (quiet_line t ds k d apart there has taken before idle s tokens (Okay x ∷ []) ms took_idle (okay, tt) h)
        by_cancelled r PassedOn = λ ms h. waits_on (standing x (stages.Reasked r PassedOn)) refl refl refl (quiet_line t ds k d apart there has taken before idle s tokens (Okay x ∷ []) ms took_idle (okay, tt) h)

  -- ---- a later offer is refused

  module _ (x : End) (z : Settled) (p : Offer) (settled : d.stage ≡ Answered z) (open_is : d.offer ≡ Some p) where
    -- by an end that has lost the call, or by one that keeps it
    refused_by : (n : Standing) (lost : Bool) (status : ℕ) (later : List Action) → AllOf (SaysNone t taken s) later → TookRefusal taken d status → LegIn s x (leg d (is_caller x)) → LegIn s (other x) (leg d (not (is_caller x)))
        → Line n (Some (cond lost (gone (Refusal x status ∷ Bye (other x) ∷ Bye x ∷ [])) (row (Refusal x (status_passed_on status) ∷ Release ∷ later) x stages.Settled)))
    refused_by n true status later each took lx ly = λ ms h.
        goes (λ m e. absurd (cc))
        (later_failed t ds k d apart there has taken before s tokens (final_taken t taken d status took.final) (is_caller x) x (other x) status [] ms took.refuses lx ly tt (is_idle_end t taken (before ++ ms) d before idle) h)
    refused_by n false status later each took lx ly = λ ms h.
        released (standing x stages.Settled) refl refl
        (release k d z p took.final.message there settled open_is (is_final_of took.final.message.kind status took.final.kind took.final.late) (is_refusal took.final.message.kind status took.final.kind took.refuses) (took.final.replies p open_is) took.final.is
        (all_behind (IsIdle offering t taken) before ms idle
        (idle_said t taken s tokens (Refusal x (status_passed_on status) ∷ Release ∷ later) ms (refusal_moves_none t taken s x (status_passed_on status) (refusal_high status took.refuses), ((λ count m e. absurd e), each)) h)) refl)

    pub reasked_refused : (rung : Bool) (cancelled : Cancelled) (status : ℕ) → TookRefusal taken d status → LegIn s x (leg d (is_caller x)) → LegIn s (other x) (leg d (not (is_caller x)))
        → Line (standing x (stages.Reasked rung cancelled)) (reasked_row rung cancelled x (signals.Refusal status))
    unfolding reasked_row
    reasked_refused rung cancelled status took lx ly = refused_by (standing x (stages.Reasked rung cancelled)) (has_lost_the_call status) status (Stop timers.Limit ∷ []) ((λ count m e. absurd e), tt) took lx ly

    pub update_refused_line : (status : ℕ) → TookRefusal taken d status → LegIn s x (leg d (is_caller x)) → LegIn s (other x) (leg d (not (is_caller x))) → Line (standing x stages.Updating) (updating_row x (signals.Refusal status))
    unfolding updating_row
    update_refused_line status took lx ly = refused_by (standing x stages.Updating) (has_lost_the_call status) status [] tt took lx ly

    pub update_unfit : TookSuccess taken d → LegIn s x (leg d (is_caller x)) → LegIn s (other x) (leg d (not (is_caller x))) → Line (standing x stages.Updating) (updating_row x signals.UnfitAnswer)
    unfolding updating_row
    update_unfit took lx ly = λ ms h.
        goes (λ m e. absurd (cc))
        (later_failed t ds k d apart there has taken before s tokens (final_taken t taken d took.status took.final) (is_caller x) x (other x) 500 [] ms (omega arith) lx ly tt (is_idle_end t taken (before ++ ms) d before idle) h)

    pub update_timed_out : taken ≡ None → LegIn s x (leg d (is_caller x)) → LegIn s (other x) (leg d (not (is_caller x))) → Line (standing x stages.Updating) (updating_row x signals.TimedOut)
    unfolding updating_row
    update_timed_out took lx ly = λ ms h.
        goes (λ m e. absurd (cc))
        (later_failed t ds k d apart there has taken before s tokens (unmoved (none_idle_taken t taken took)) (is_caller x) x (other x) 408 [] ms (omega arith) lx ly tt (is_idle_end t taken (before ++ ms) d before idle) h)
