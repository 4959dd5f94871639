-- The line of an event, as docs/OPERATORS.md lists them.
use Rattle.std.specs.Prelude.{ℕ, ◌-◌, max, List, [], ◌∷◌, codes, Option, Some, None}
use Rattle.std.specs.Int.{div_ceil}
use Rattle.std.specs.Option.{option_copied}
use Rattle.sip_uri.specs.declared.uri.Addr.{Addr}
use Rattle.sip_uri.specs.declared.uri.Uri.{Uri}
use Rattle.sip_uri.specs.Writing.{uri_text}
use Rattle.registrar.specs.declared.binding.Binding.{Binding}
use Rattle.registrar.specs.Bound.{target_of}
use Rattle.registrar.specs.Registrar.{Contents, bindings_at}
use Rattle.plans.specs.declared.note.Note.{Note}
use Rattle.plans.specs.declared.note.Note.TheVariants.{Quiet, Call, Refused, Registered, Dropped, Shed}
use Rattle.plans.specs.declared.reason.Reason.{Reason}
use Rattle.plans.specs.declared.taken.Why.{Why}
use Rattle.plans.specs.Reasons.{status}
use Rattle.call_media.specs.declared.end.End.{End}
use Rattle.calls.specs.declared.standing_call.StandingCall.{StandingCall}
use Rattle.note_lines.specs.declared.ledger.Entry.{Entry}
use Rattle.note_lines.specs.declared.media_counts.MediaCounts.{MediaCounts}
use Rattle.note_lines.specs.declared.noted_event.NotedEvent.{NotedEvent}
use Rattle.note_lines.specs.CallLines.{begun_in, call_field, ledger_of_call, line_of_call, status_field, why_field}
use Rattle.note_lines.specs.Ledger.{user_at}
use Rattle.note_lines.specs.Lines.{Field, Line, line, number_field, place_field, text_field, words_field}
use Rattle.note_lines.specs.Reasons.{reason_words, why_word}

-- ---- what is sent by strangers

-- where the event came from, if it was a datagram
abbrev pub source_fields : Option Addr → List Field
source_fields None = []
source_fields (Some source) = place_field (codes "source") source ∷ []

abbrev pub refused_line : Reason → Option Addr → Line
refused_line reason source = line (codes "refused") (status_field (status reason) ∷ words_field (codes "reason") (reason_words reason) ∷ source_fields source)

abbrev pub dropped_line : Why → Option Addr → Line
dropped_line why source = line (codes "dropped") (why_field (why_word why) ∷ source_fields source)

abbrev pub shed_line : Option Addr → Line
shed_line source = line (codes "shed") (source_fields source)

-- ---- who is bound where

-- the whole seconds, rounded up, that the longest-lasting binding has left
abbrev pub seconds_left : List Binding → ℕ → ℕ
seconds_left [] now = 0
seconds_left (b ∷ bindings) now = max (div_ceil (b.expires_at - now) 1000) (seconds_left bindings now)

abbrev pub unbound_line : List ℕ → Line
unbound_line user = line (codes "unregistered") (text_field (codes "user") user ∷ [])

-- where calls to a user go from now on
abbrev pub bound_line : List ℕ → Option Uri → ℕ → Line
bound_line user None seconds = unbound_line user
bound_line user (Some target) seconds = line (codes "registered") (text_field (codes "user") user ∷ text_field (codes "contact") (uri_text target) ∷ number_field (codes "seconds") seconds ∷ [])

abbrev pub registration_line : Contents → Option (List ℕ) → ℕ → Option Line
registration_line registrar None now = None
registration_line registrar (Some user) now = Some (bound_line user (target_of (bindings_at registrar user now)) (seconds_left (bindings_at registrar user now) now))

-- ---- an event

-- what it was about, the calls and the registrar after it, whose bindings it set, the agent's moment, where it came
-- from, and how much media a call that it ended carried
pub record Noted : Type 0 where
  pub note : Note
  pub calls : List StandingCall
  pub registrar : Contents
  pub user : Option (List ℕ)
  pub moment : ℕ
  pub source : Option Addr
  pub media : Option MediaCounts

-- as it is handed in
abbrev pub noted : NotedEvent → Noted
noted e = record { note = e.note; calls = e.calls.now; registrar = e.registrar.now; user = option_copied e.user; moment = e.moment; source = e.source; media = e.media }

abbrev pub line_by : Note → List Entry → Noted → Option Line
line_by Quiet ledger e = None
line_by (Call note) ledger e = line_of_call ledger e.calls note e.media e.moment
line_by (Refused reason) ledger e = Some (refused_line reason e.source)
line_by Registered ledger e = registration_line e.registrar e.user e.moment
line_by (Dropped why) ledger e = Some (dropped_line why e.source)
line_by Shed ledger e = Some (shed_line e.source)

-- with the ledger before it
abbrev pub note_line : List Entry → Noted → Option Line
note_line ledger e = line_by e.note ledger e

-- the ledger after it
abbrev pub ledger_by : Note → List Entry → Noted → List Entry
ledger_by Quiet ledger e = ledger
ledger_by (Call note) ledger e = ledger_of_call ledger e.calls note e.moment
ledger_by (Refused reason) ledger e = ledger
ledger_by Registered ledger e = ledger
ledger_by (Dropped why) ledger e = ledger
ledger_by Shed ledger e = ledger

abbrev pub ledger_after : List Entry → Noted → List Entry
ledger_after ledger e = ledger_by e.note ledger e

-- the ledger before it, with the call that it began, if it began one
abbrev pub begun_by_event : Note → List Entry → Noted → List Entry
begun_by_event Quiet ledger e = ledger
begun_by_event (Call note) ledger e = begun_in ledger e.calls note e.moment
begun_by_event (Refused reason) ledger e = ledger
begun_by_event Registered ledger e = ledger
begun_by_event (Dropped why) ledger e = ledger
begun_by_event Shed ledger e = ledger

abbrev pub with_begun : List Entry → Noted → List Entry
with_begun ledger e = begun_by_event e.note ledger e

-- ---- what belongs to no event

-- the end that isn't heard, and the place that its description names
abbrev pub silent_field : Entry → End → Field
silent_field e end = text_field (codes "from") (user_at end e)

abbrev pub expected_field : Addr → Field
expected_field place = place_field (codes "expected") place

-- of a call that the ledger knows
abbrev pub silent_line : Option Entry → End → Addr → Option Line
silent_line None end expected = None
silent_line (Some entry) end expected = Some (line (codes "call-silent-way") (call_field entry ∷ silent_field entry end ∷ expected_field expected ∷ []))

abbrev pub count_line : List ℕ → ℕ → Line
count_line word count = line word (number_field (codes "count") count ∷ [])
