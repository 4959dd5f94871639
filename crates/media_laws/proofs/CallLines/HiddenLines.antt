-- The lines of a call that a trace no longer lists: its first INVITE was given up, and has no final response. They
-- move none of the trace's calls.
use Rattle.std.proofs.Common.{◌≡◌, ◌∙◌, ℕ, Bool, true, false, List, [], ◌∷◌, ◌++◌, Option, Some, None, refl, ap, sym, subst, inl, inr}
use Rattle.std.specs.Prelude.{IsTrue}
use Rattle.std.proofs.lemmas.Option.{same_Some}
use Rattle.call_media.specs.declared.end.End.{End}
use Rattle.call_media.specs.Ends.{other}
use Rattle.call_core.specs.declared.action.Action.{Action}
use Rattle.call_core.specs.declared.action.Action.TheVariants.{Ack, Bye, Cancel, Set}
use Rattle.call_core.specs.declared.action.CallTimer.TheVariants as timers
use Rattle.call_core.specs.declared.row.Row.{Row}
use Rattle.call_core.specs.declared.signal.Signal.TheVariants as signals
use Rattle.call_core.specs.declared.stage.Stage.TheVariants as stages
use Rattle.call_core.specs.declared.stage.Standing.{Standing}
use Rattle.call_core.specs.Cancelling.{cancelling_row}
use Rattle.call_core.specs.Rows.{short_time}
use Rattle.call_messages.specs.declared.scene.Scene.{Scene}
use Rattle.call_trace.specs.declared.call.Call.{Call}
use Rattle.call_trace.specs.declared.datagram.Datagram.{Datagram}
use Rattle.call_trace.specs.declared.datagram.Dialog.{Dialog}
use Rattle.call_trace.specs.declared.datagram.Message.{Message}
use Rattle.call_trace.specs.Events as events
use Rattle.call_trace.specs.Events.{IsIdle, IsIdleTaken, IsParting, IsPartingTaken, dialog_sent, sent_at}
use Rattle.call_trace.specs.Listed.{AllOf}
use Rattle.call_trace.specs.Lives.{SparesCall}
use Rattle.call_trace.specs.Messages.{ack, bye, is_request_of, offering}
use Rattle.call_trace.specs.Moves.{Move, quiet}
use Rattle.call_trace.specs.Stands.{IsTagOf}
use Rattle.call_trace.proofs.Members.{all_weaker}
use Rattle.media_laws.specs.Heard.{HearsActions}
use Rattle.media_laws.specs.Said.{AcksIn, Leaves}
use Rattle.media_laws.specs.Scenes.{LegIn}
use Rattle.media_laws.proofs.CallLines.Ends.{ends_by_bye, is_bye, leaves_in}
use Rattle.media_laws.proofs.CallLines.LineMoves.{all_behind, stays}
use Rattle.media_laws.proofs.OfferPairs.SaidActions.{acks_of, all_said, behind, cancel_moves_none, leaves_of, slice_right, stands_behind}
use Rattle.media_laws.proofs.OfferPairs.SeenWords.{request_dialog, request_of}
use Rattle.media_laws.specs.Listing.{hidden, listing}
use Rattle.media_laws.specs.Lines.{HiddenMove, IsTagOfNone, SaysNone, actions_in, next_in, standing}
use Rattle.media_laws.proofs.CallLines.TableMoves.{idle_said}
use Rattle.media_laws.proofs.OfferPairs.Taking.{bye_one}

-- ---- what is said in a dialog of none of them

spares_one : (m : Message) (y : Dialog) (c : Call) → dialog_sent m ≡ y → IsTrue (is_request_of bye m) → m.from_tag ≡ y.ours → ¬ IsTagOf c y.ours → SparesCall (sent_at 0 m) c
spares_one m y c in_y ends from other_tag = record {
  caller = λ listed same. other_tag (inl (ap (λ (x : Dialog). x.ours) (sym in_y ∙ same)));
  callee = λ listed same. other_tag (inr (ap (λ (x : Dialog). x.ours) (sym in_y ∙ same)));
  first = λ asked same. other_tag (inr (sym from ∙ same));
}

pub bye_to_none : (t : List Datagram) (taken : Option Message) (sent : List Message) (ds : List Call) (y : Dialog) (m : Message) → IsTagOfNone ds y.ours → Leaves y m → IsParting offering t taken sent ds m
bye_to_none t taken sent ds y m none h =
    events.bye_sent (is_bye y m h)
    (all_weaker (λ c. ¬ IsTagOf c y.ours) (SparesCall (sent_at 0 m)) (λ c other_tag. spares_one m y c (leaves_in y m h) (is_bye y m h) (h.seen.from_tag ∙ ap (λ (x : Dialog). x.ours) h.in_leg) other_tag) ds none)

pub ack_to_none : (t : List Datagram) (taken : Option Message) (sent : List Message) (ds : List Call) (y : Dialog) (m : Message) → events.EndsNow t taken sent y → AcksIn y m → IsParting offering t taken sent ds m
ack_to_none t taken sent ds y m ends h =
    events.acknowledged (request_of ack m h.seen.kind h.seen.method refl) (subst (events.EndsNow t taken sent) (sym (request_dialog h.leg h.token h.number ack None m h.seen ∙ h.in_leg)) ends)

-- ---- the lines

idle_parts : (t : List Datagram) (taken : Option Message) (sent : List Message) (calls : List Call) (ms : List Message) → AllOf (IsIdle offering t taken) ms → AllOf (IsParting offering t taken sent calls) ms
idle_parts t taken sent calls [] all = tt
idle_parts t taken sent calls (m ∷ ms) all = (events.idle all.0, idle_parts t taken sent calls ms all.1)

module _ (t : List Datagram) (ds : List Call) (taken : Option Message) (before : List Message) (idle : AllOf (IsIdle offering t taken) before) (s : Scene) (tokens : ℕ) where
  abbrev pub HiddenLine : Standing → Option Row → Type 0
  HiddenLine n line = (ms : List Message) → HearsActions s tokens (actions_in line) ms → HiddenMove t ds taken (before ++ ms) (next_in n line)

  quiet_hidden : (actions : List Action) (ms : List Message) → IsPartingTaken offering t taken ds → AllOf (SaysNone t taken s) actions → HearsActions s tokens actions ms → Move offering t ds taken (before ++ ms) ds
  quiet_hidden actions ms took each h = stays t ds taken (before ++ ms) took (all_behind (IsIdle offering t taken) before ms idle (idle_said t taken s tokens actions ms each h))

  hidden_stage : (x : End) (sent : Bool) (m : Standing) → Some (standing x (stages.Cancelling sent)) ≡ Some m → listing m.stage ≡ hidden
  hidden_stage x sent m e = subst (λ (y : Standing). listing y.stage ≡ hidden) (same_Some (standing x (stages.Cancelling sent)) m e) refl

  -- the CANCEL that waits for a provisional response
  pub hidden_rings : (sent : Bool) (x : End) (status : ℕ) → IsIdleTaken offering t taken → HiddenLine (standing x (stages.Cancelling sent)) (cancelling_row sent x (signals.Provisional status))
  unfolding cancelling_row
  hidden_rings false x status took = λ ms h.
      record {
        hides = hidden_stage x true;
        move = quiet_hidden (Cancel (other x) ∷ Set timers.Limit short_time ∷ []) ms (events.unmoved took) (cancel_moves_none t taken s (other x), ((λ count m e. absurd e), tt)) h;
      }
  hidden_rings true x status took = λ ms h. record { hides = hidden_stage x true; move = quiet_hidden [] ms (events.unmoved took) tt h }

  -- the call is gone, and nothing is said, or nothing that moves a call
  pub hidden_gone : (n : Standing) (actions : List Action) → IsPartingTaken offering t taken ds → AllOf (SaysNone t taken s) actions → HiddenLine n (Some (record { actions = actions; next = None }))
  hidden_gone n actions took each = λ ms h. record { hides = λ m e. absurd (cc); move = quiet_hidden actions ms took each h }

  -- a 2xx: ACK and BYE in its dialog
  pub hidden_accepted : (n : Standing) (y : End) (callee : Dialog) → IsPartingTaken offering t taken ds → LegIn s y callee → IsTagOfNone ds callee.ours → HiddenLine n (Some (record { actions = Ack y ∷ Bye y ∷ []; next = None }))
  hidden_accepted n y callee took l none = λ ms h.
      let sent = before ++ ms in
      let found = stands_behind s tokens (Ack y ∷ []) (Bye y) [] ms (λ count. bye_one s count y l.leg l.has l.numbered l.leads) h in
      let ends = ends_by_bye t taken sent (behind before found.place) callee found.message (slice_right before ms found.place found.message found.there) (leaves_of s y callee l found.count found.message found.heard) in
      record {
        hides = λ m e. absurd (cc);
        move = quiet took (all_behind (IsParting offering t taken sent ds) before ms (idle_parts t taken sent ds before idle)
            (all_said (IsParting offering t taken sent ds) s tokens (Ack y ∷ Bye y ∷ []) ms
            ((λ count m e. ack_to_none t taken sent ds callee m ends (acks_of s y callee l count m e)), ((λ count m e. bye_to_none t taken sent ds callee m none (leaves_of s y callee l count m e)), tt)) h)) refl;
      }
