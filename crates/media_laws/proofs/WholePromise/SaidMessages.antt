-- What an agent that stands after a trace sends is messages by the grammar.
use Rattle.std.proofs.Common.{◌≡◌, List, [], ◌∷◌, ◌++◌, refl, sym, subst, ◌∙◌}
use Rattle.std.specs.List.{All}
use Rattle.std.proofs.lemmas.List.{append_cancel_left}
use Rattle.std.proofs.lemmas.List.Elements.{All-head, All-tail}
use Rattle.call_trace.specs.declared.datagram.Message.{Message}
use Rattle.event_rows.specs.Rows.{row}
use Rattle.event_rows.specs.State.{Contents}
use Rattle.events.specs.declared.event.Event.{Event}
use Rattle.events.specs.declared.sent.Sent.{Sent}
use Rattle.message_laws.specs.Datagrams.{ComesFromSource}
use Rattle.media_laws.specs.Standing.{SaysMessages}
use Rattle.media_laws.proofs.WholePromise.Knowing.{Laws}
use Rattle.message_laws.specs.ReadDatagrams.{IsReadDatagram}
use Rattle.trace_reading.specs.Message.{trace_message}
use Rattle.message_laws.specs.Messages.{AreMessages}

-- those after
last_read : (sent sends : List Sent) → All IsReadDatagram (sent ++ sends) → All IsReadDatagram sends
last_read [] sends each = each
last_read (d ∷ sent) sends each = last_read sent sends (All-tail IsReadDatagram d (sent ++ sends) each)

-- the message of each
messages_of : Laws → (sends : List Sent) → All IsReadDatagram sends → (ms : List Message) × AreMessages sends ms
messages_of laws [] each = ([], tt)
messages_of laws (d ∷ sends) each =
    let read = All-head IsReadDatagram d sends each in
    let rest = messages_of laws sends (All-tail IsReadDatagram d sends each) in
    (trace_message d.bytes read.0 ∷ rest.0, (record { message = read.0; reads = laws.back d.bytes read; seen = refl }, rest.1))

pub says_messages : Laws → (s : Contents) (event : Event) (before now : List Sent) → ComesFromSource event.what → now ≡ before ++ (row s event).plan.sends → SaysMessages s before now
says_messages laws s event before now from sent = λ t k h sends whole.
    let same : sends ≡ (row s event).plan.sends = append_cancel_left before sends (row s event).plan.sends (sym whole ∙ sent) in
    let known = h.2.1.known in
    subst (λ (l : List Sent). (ms : List Message) × AreMessages l ms) (sym same)
    (messages_of laws (row s event).plan.sends
    (last_read h.1 (row s event).plan.sends (laws.reads s event h.1 from known.dialogs known.clients known.media known.askers known.tokens known.again known.reads)))
