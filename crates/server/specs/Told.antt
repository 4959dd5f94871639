-- What is logged of an event of a script.
use Rattle.std.specs.Prelude.{ℕ, Bool, true, false, List, [], Option, Some, None}
use Rattle.sip_uri.specs.declared.uri.Addr.{Addr}
use Rattle.events.specs.declared.event.What.{What}
use Rattle.events.specs.declared.event.What.TheVariants.{Datagram, Due, Silent, Users}
use Rattle.event_rows.specs.State.{Contents}
use Rattle.note_lines.specs.declared.ledger.Entry.{Entry}
use Rattle.note_lines.specs.Lines.{said}
use Rattle.note_lines.specs.NoteLines.{Noted, note_line}

-- where an event came from; none for a timer, silence or users
abbrev pub source_of : What → Option Addr
source_of (Datagram source bytes) = Some source
source_of Due = None
source_of (Silent number) = None
source_of (Users users) = None

-- an event that left the agent like this; nobody counts media
abbrev pub noted_of : Contents → What → Noted
noted_of agent what = record { note = agent.note; calls = agent.calls.calls; registrar = agent.registrar; user = agent.registered; moment = agent.moment; source = source_of what; media = None }

-- its line, if notes are asked for
abbrev pub note_text : Bool → List Entry → Contents → What → List ℕ
note_text false ledger agent what = []
note_text true ledger agent what = said (note_line ledger (noted_of agent what))
