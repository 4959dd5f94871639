-- A turn, by only what the wire was asked to send.
use Rattle.std.proofs.Common.{◌≡◌, ◌∙◌, subst}
use Rattle.events.specs.declared.event.Event.{Event}
use Rattle.event_rows.specs.Rows.{row}
use Rattle.live.specs.Sending.{Sends, Tried}
use Rattle.live.specs.States.{State, WireState}
use Rattle.live.specs.Turns.{Turns}
use Rattle.live.specs.declared.turn.Turned.{Turned}
use Rattle.live.specs.declared.turn.Turned.TheVariants.{Done, Lost, Behind}

-- before it the wire took a datagram
pub turns_from : (e : Event) (a b : State) (w : WireState) (turned : Turned) → w.tried ≡ a.wire.tried → Turns e (record a { wire = w }) b turned → Turns e a b turned
turns_from e a b w (Done taken failed) same h = record {
  agent = h.agent;
  answer = h.answer;
  board = h.board;
  table = h.table;
  wire = subst (λ (t : Tried). Sends t b.wire.tried (row a.agent e).plan.sends failed) same h.wire;
  source = h.source;
}
turns_from e a b w Lost same h = (h.0, record { board = h.1.board; wire = h.1.wire ∙ same })
turns_from e a b w Behind same h = (h.0, record { board = h.1.board; wire = h.1.wire ∙ same })
