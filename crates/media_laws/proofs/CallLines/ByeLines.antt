-- The lines of a call for the BYE of one of its ends, as moves of the trace's calls (RFC 3261 section 15.1.2).
use Rattle.std.proofs.Common.{◌≡◌, ℕ, Bool, true, false, not, List, [], ◌∷◌, Option, Some, refl, sym, subst, arith}
use Rattle.std.specs.Prelude.{IsTrue, slice_get}
use Rattle.call_media.specs.declared.end.End.{End}
use Rattle.call_media.specs.declared.end.End.TheVariants.{Caller, Callee}
use Rattle.call_media.specs.Ends.{other}
use Rattle.call_core.specs.declared.action.Action.TheVariants.{Abandon, RemoveRows}
use Rattle.call_core.specs.declared.row.Row.{Row}
use Rattle.call_core.specs.declared.signal.Signal.TheVariants as signals
use Rattle.call_core.specs.declared.stage.Cancelled.{Cancelled}
use Rattle.call_core.specs.declared.stage.Stage.TheVariants as stages
use Rattle.call_core.specs.declared.stage.Standing.{Standing}
use Rattle.call_core.specs.Answered.{answered_row, waiting}
use Rattle.call_core.specs.Ending.{ending_row}
use Rattle.call_core.specs.Reasked.{reasked_row}
use Rattle.call_core.specs.Settled.{settled_row}
use Rattle.call_core.specs.Updating.{updating_row}
use Rattle.call_messages.specs.declared.scene.Scene.{Scene}
use Rattle.call_trace.specs.declared.call.Call.{Call}
use Rattle.call_trace.specs.declared.call.Settled.{Settled}
use Rattle.call_trace.specs.declared.call.Stage.TheVariants.{Answered, Ending}
use Rattle.call_trace.specs.declared.datagram.Datagram.{Datagram}
use Rattle.call_trace.specs.declared.datagram.Kind.TheVariants.{Request}
use Rattle.call_trace.specs.declared.datagram.Message.{Message}
use Rattle.call_trace.specs.Events.{IsIdleTaken}
use Rattle.call_trace.specs.Messages.{is_request, offering}
use Rattle.call_trace.specs.Stands.{AllApart, HasTags, leg}
use Rattle.call_trace.proofs.Idle.{request_taken}
use Rattle.media_laws.specs.Said.{EndTaken, unmoved}
use Rattle.media_laws.specs.Scenes.{ByeIn, LegIn}
use Rattle.media_laws.specs.Shows.{is_caller}
use Rattle.media_laws.specs.Lines.{goes, parts, standing}
use Rattle.media_laws.proofs.CallLines.StageLines.{LineOf, no_line}
use Rattle.media_laws.proofs.OfferPairs.Taking.{removes_none}
use Rattle.media_laws.proofs.CallLines.TableMoves.{last_left, one_leaves_early, one_left, one_left_inside}

module _ (t : List Datagram) (ds : List Call) (k : ℕ) (d : Call) (apart : AllApart ds) (there : slice_get ds k ≡ Some d) (has : HasTags d) (came : Message) (kind : came.kind ≡ Request) (s : Scene) (tokens : ℕ) where
  abbrev Line : Standing → Option Row → Type 0
  Line n line = LineOf t ds k d apart there has (Some came) [] tt s tokens n line

  took_idle : IsIdleTaken offering t (Some came)
  took_idle = request_taken offering t came (subst (λ k. IsTrue (is_request k)) (sym kind) refl)

  took : EndTaken t (Some came) d
  took = unmoved took_idle

  -- ---- after its first answer, while no offer is open

  pub answered_left : (inside : Bool) (interval : ℕ) (end x : End) (z : Settled) → d.stage ≡ Answered z → ByeIn s (leg d (is_caller end)) came → LegIn s (other end) (leg d (is_caller (other end)))
      → Line (standing x (waiting inside interval)) (answered_row inside interval x (signals.Bye end))
  unfolding answered_row
  answered_left inside interval Caller Caller z stage bye l = λ ms h. goes (λ m e. absurd (cc)) (one_left t ds k d apart there has came s tokens took true Caller Callee bye ms l h)
  answered_left inside interval Callee Callee z stage bye l = λ ms h. goes (λ m e. absurd (cc)) (one_left t ds k d apart there has came s tokens took false Callee Caller bye ms l h)
  answered_left true interval Callee Caller z stage bye l = λ ms h.
      parts (standing Caller (stages.Ending interval)) refl refl refl (one_leaves_early t ds k d apart there has came s tokens took false Callee Caller bye z (RemoveRows ∷ []) ms stage ((λ count. removes_none s count), tt) took_idle h)
  answered_left false interval Callee Caller z stage bye l = λ ms h.
      parts (standing Caller (stages.Ending interval)) refl refl refl (one_leaves_early t ds k d apart there has came s tokens took false Callee Caller bye z (RemoveRows ∷ []) ms stage ((λ count. removes_none s count), tt) took_idle h)
  answered_left true interval Caller Callee z stage bye l = λ ms h.
      parts (standing Callee (stages.Ending interval)) refl refl refl (one_leaves_early t ds k d apart there has came s tokens took true Caller Callee bye z (RemoveRows ∷ []) ms stage ((λ count. removes_none s count), tt) took_idle h)
  answered_left false interval Caller Callee z stage bye l = λ ms h.
      parts (standing Callee (stages.Ending interval)) refl refl refl (one_leaves_early t ds k d apart there has came s tokens took true Caller Callee bye z (RemoveRows ∷ []) ms stage ((λ count. removes_none s count), tt) took_idle h)

  pub settled_left : (end x : End) → ByeIn s (leg d (is_caller end)) came → LegIn s (other end) (leg d (is_caller (other end))) → Line (standing x stages.Settled) (settled_row (signals.Bye end))
  unfolding settled_row
  settled_left Caller x bye l = λ ms h. goes (λ m e. absurd (cc)) (one_left t ds k d apart there has came s tokens took true Caller Callee bye ms l h)
  settled_left Callee x bye l = λ ms h. goes (λ m e. absurd (cc)) (one_left t ds k d apart there has came s tokens took false Callee Caller bye ms l h)

  -- ---- while an offer is open

  pub reasked_left : (rung : Bool) (cancelled : Cancelled) (end x : End) → ByeIn s (leg d (is_caller end)) came → LegIn s (other end) (leg d (is_caller (other end)))
      → Line (standing x (stages.Reasked rung cancelled)) (reasked_row rung cancelled x (signals.Bye end))
  unfolding reasked_row
  reasked_left rung cancelled Caller x bye l = λ ms h. goes (λ m e. absurd (cc)) (one_left_inside t ds k d apart there has came s tokens took true Caller Callee bye x 487 (Abandon (other x) ∷ []) ms (omega arith) l ((λ count m e. absurd e), tt) h)
  reasked_left rung cancelled Callee x bye l = λ ms h. goes (λ m e. absurd (cc)) (one_left_inside t ds k d apart there has came s tokens took false Callee Caller bye x 487 (Abandon (other x) ∷ []) ms (omega arith) l ((λ count m e. absurd e), tt) h)

  pub update_left : (end x : End) → ByeIn s (leg d (is_caller end)) came → LegIn s (other end) (leg d (is_caller (other end))) → Line (standing x stages.Updating) (updating_row x (signals.Bye end))
  unfolding updating_row
  update_left Caller x bye l = λ ms h. goes (λ m e. absurd (cc)) (one_left_inside t ds k d apart there has came s tokens took true Caller Callee bye x 487 [] ms (omega arith) l tt h)
  update_left Callee x bye l = λ ms h. goes (λ m e. absurd (cc)) (one_left_inside t ds k d apart there has came s tokens took false Callee Caller bye x 487 [] ms (omega arith) l tt h)

  -- ---- once the other end has left it

  pub ending_left : (interval : ℕ) (end x : End) → d.stage ≡ Ending (not (is_caller x)) → ByeIn s (leg d (is_caller end)) came → Line (standing x (stages.Ending interval)) (ending_row interval x (signals.Bye end))
  unfolding ending_row
  ending_left interval Caller Caller stage bye = λ ms h. goes (λ m e. absurd (cc)) (last_left t ds k d apart there has came s tokens took true Caller Callee bye ms stage h)
  ending_left interval Callee Callee stage bye = λ ms h. goes (λ m e. absurd (cc)) (last_left t ds k d apart there has came s tokens took false Callee Caller bye ms stage h)
  ending_left interval Caller Callee stage bye = no_line t ds k d apart there has (Some came) [] tt s tokens (standing Callee (stages.Ending interval)) took_idle
  ending_left interval Callee Caller stage bye = no_line t ds k d apart there has (Some came) [] tt s tokens (standing Caller (stages.Ending interval)) took_idle
