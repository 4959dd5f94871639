-- Any entries of an agent that stands after a trace have a trace.
use Rattle.std.proofs.Common.{ℕ, suc, List, [], ◌∷◌, ◌++◌, Option, Some, None, refl, sym, subst}
use Rattle.std.specs.List.{All}
use Rattle.std.proofs.lemmas.List.Elements.{All-head, All-tail}
use Rattle.call_trace.specs.declared.datagram.Datagram.{Datagram}
use Rattle.call_trace.specs.declared.datagram.Message.{Message}
use Rattle.call_trace.specs.Events.{passed}
use Rattle.event_rows.specs.Rows.{row}
use Rattle.event_rows.specs.State.{Contents}
use Rattle.event_rows.specs.Trace.{AreEntries, Entry, IsEntryWith, after_entry}
use Rattle.events.specs.declared.event.What.{What}
use Rattle.events.specs.declared.event.What.TheVariants as whats
use Rattle.events.specs.declared.sent.Sent.{Sent}
use Rattle.plans.specs.declared.taken.Taken.{Taken}
use Rattle.plans.specs.declared.taken.Taken.TheVariants.{Done, Dropped, Idle, Shed}
use Rattle.message_laws.specs.Datagrams.{EntersFromSource}
use Rattle.message_laws.specs.Messages.{AreMessages}
use Rattle.message_laws.specs.Numbers.{begun_at}
use Rattle.message_laws.specs.Traces.{AreTrace, IsShownWith, IsTaken}
use Rattle.media_laws.specs.Standing.{AgentStands}
use Rattle.media_laws.proofs.EntryTraces.Texts.{bytes_taken}
use Rattle.media_laws.proofs.WholePromise.AllEntries.{one_entry}
use Rattle.media_laws.proofs.WholePromise.Invariant.{EventsAreMoves}
use Rattle.media_laws.proofs.WholePromise.Knowing.{Laws}
use Rattle.media_laws.proofs.WholePromise.SaidMessages.{says_messages}

-- ---- an entry

taken_of : (what : What) (answer : Taken) → (taken : Option Message) × IsTaken what answer taken
taken_of (whats.Datagram source bytes) Done = bytes_taken bytes
taken_of (whats.Datagram source bytes) (Dropped why) = (None, refl)
taken_of (whats.Datagram source bytes) Shed = (None, refl)
taken_of (whats.Datagram source bytes) Idle = (None, refl)
taken_of whats.Due answer = (None, refl)
taken_of (whats.Silent number) answer = (None, refl)
taken_of (whats.Users users) answer = (None, refl)

shown_with : Laws → (s : Contents) (x : Entry) (answer : Option Taken) (t : List Datagram) (k : ℕ) → AgentStands s t k → IsEntryWith s x answer → EntersFromSource x
    → (taken : Option Message) × (ms : List Message) × IsShownWith answer x.event.what x.sends taken ms
shown_with laws s x None t k h is from = (None, [], record { took = refl; went = refl })
shown_with laws s x (Some answer) t k h is from =
    let took = taken_of x.event.what answer in
    let said = says_messages laws s x.event [] (row s x.event).plan.sends from refl t k h (row s x.event).plan.sends refl in
    (took.0, said.0, record { took = took.1; went = subst (λ (l : List Sent). AreMessages l said.0) (sym is.sends) said.1 })

-- ---- a list of entries

pub trace_of : Laws → EventsAreMoves → (s : Contents) (xs : List Entry) (t : List Datagram) (k : ℕ) → AgentStands s t k → AreEntries s xs → All EntersFromSource xs → (rest : List Datagram) × AreTrace k xs rest
trace_of laws law s [] t k h are from = ([], refl)
trace_of laws law s (x ∷ xs) t k h are from =
    let here : EntersFromSource x = All-head EntersFromSource x xs from in
    let first = shown_with laws s x x.answer t k h are.0 here in
    let next : AgentStands (after_entry s x) (t ++ passed k first.0 first.1) (suc k) =
    (h.0 ++ begun_at s x.event x.answer, h.1 ++ x.sends, one_entry laws law s x x.answer h.0 h.1 t h.2.0 k first.0 first.1 are.0 here first.2 h.2.1) in
    let more = trace_of laws law (after_entry s x) xs (t ++ passed k first.0 first.1) (suc k) next are.1 (All-tail EntersFromSource x xs from) in
    (passed k first.0 first.1 ++ more.0, (first.0, first.1, more.0, record { shown = record { shown = first.2 }; whole = refl }, more.1))
