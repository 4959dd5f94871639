-- The line of what happened to a call: its word and its fields in order, as docs/OPERATORS.md lists them.
use Rattle.std.specs.Prelude.{ℕ, ◌-◌, Bool, true, false, List, [], ◌∷◌, codes, Option, Some, None, find, unwrap_or}
use Rattle.call_media.specs.declared.end.End.{End}
use Rattle.call_media.specs.declared.session.Session.{Session}
use Rattle.call_core.specs.declared.signal.OfferMethod.{OfferMethod}
use Rattle.call_core.specs.declared.signal.OfferMethod.TheVariants.{Invite, Update}
use Rattle.call_core.specs.declared.note.CallNote.{CallNote}
use Rattle.call_core.specs.declared.note.CallNote.TheVariants.{Begun, Ringing, Answered, Refused, GivenUp, Offered, Reanswered, OfferRefused, OfferGivenUp, Left, Failed, Unacknowledged, Expired}
use Rattle.call_core.specs.declared.note.NoteOfCall.{NoteOfCall}
use Rattle.calls.specs.declared.standing_call.StandingCall.{StandingCall}
use Rattle.note_lines.specs.declared.ledger.Entry.{Entry}
use Rattle.note_lines.specs.declared.media_counts.MediaCounts.{MediaCounts}
use Rattle.note_lines.specs.Holds.{is_held}
use Rattle.note_lines.specs.Ledger.{is_call, is_entry, user_at, with_answer, with_call, with_hold, without_call}
use Rattle.note_lines.specs.Lines.{Field, Line, line, number_field, text_field, time_field, words_field}

-- ---- fields

abbrev pub call_field : Entry → Field
call_field e = number_field (codes "call") e.number

abbrev pub from_field : Entry → Field
from_field e = text_field (codes "from") e.from

abbrev pub to_field : Entry → Field
to_field e = text_field (codes "to") e.to

-- which end did it
abbrev pub by_field : Entry → End → Field
by_field e end = text_field (codes "by") (user_at end e)

abbrev pub status_field : ℕ → Field
status_field status = number_field (codes "status") status

abbrev pub why_field : List ℕ → Field
why_field words = words_field (codes "why") words

-- how long it took since the call began
abbrev pub after_field : Entry → ℕ → Field
after_field e now = time_field (codes "after") (now - e.begun)

-- how long the call lasted: since it was answered, if it was, or else since it began
abbrev pub stood_field : Entry → ℕ → Field
stood_field e now = time_field (codes "stood") (now - unwrap_or e.answered e.begun)

abbrev pub method_name : OfferMethod → List ℕ
method_name Invite = codes "INVITE"
method_name Update = codes "UPDATE"

abbrev pub method_field : OfferMethod → Field
method_field method = text_field (codes "method") (method_name method)

-- how many datagrams of media came from each end, if anyone counts them
abbrev pub media_fields : Option MediaCounts → List Field
media_fields None = []
media_fields (Some m) = number_field (codes "media-from-caller") m.from_caller ∷ number_field (codes "media-from-callee") m.from_callee ∷ []

-- ---- lines

-- an offer inside a call was answered: whether the call is held from now on, and whether it was
abbrev pub word_of_change : Bool → Bool → List ℕ
word_of_change true was_held = codes "call-held"
word_of_change false true = codes "call-resumed"
word_of_change false false = codes "call-changed"

abbrev pub change_line : Entry → Session → Line
change_line e s = line (word_of_change (is_held s.offer_taken s.answer_taken) e.is_held) (call_field e ∷ by_field e s.offerer ∷ [])

abbrev pub reanswer_line : Entry → Option Session → Option Line
reanswer_line e None = None
reanswer_line e (Some s) = Some (change_line e s)

-- the end of a call by this end, by a status, or by neither
abbrev pub left_line : Entry → End → Option MediaCounts → ℕ → Line
left_line e end media now = line (codes "call-ended") (call_field e ∷ from_field e ∷ to_field e ∷ by_field e end ∷ why_field (codes "bye") ∷ stood_field e now ∷ media_fields media)

abbrev pub failed_line : Entry → List ℕ → ℕ → Option MediaCounts → ℕ → Line
failed_line e why status media now = line (codes "call-ended") (call_field e ∷ from_field e ∷ to_field e ∷ why_field why ∷ status_field status ∷ stood_field e now ∷ media_fields media)

abbrev pub over_line : Entry → List ℕ → Option MediaCounts → ℕ → Line
over_line e why media now = line (codes "call-ended") (call_field e ∷ from_field e ∷ to_field e ∷ why_field why ∷ stood_field e now ∷ media_fields media)

-- of a call that the ledger knows, given the session in which it is from now on
abbrev pub call_line : Entry → Option Session → CallNote → Option MediaCounts → ℕ → Option Line
call_line e session Begun media now = Some (line (codes "call-begun") (call_field e ∷ from_field e ∷ to_field e ∷ []))
call_line e session (Ringing status) media now = Some (line (codes "call-ringing") (call_field e ∷ status_field status ∷ []))
call_line e session Answered media now = Some (line (codes "call-answered") (call_field e ∷ from_field e ∷ to_field e ∷ after_field e now ∷ []))
call_line e session (Refused status) media now = Some (line (codes "call-refused") (call_field e ∷ from_field e ∷ to_field e ∷ status_field status ∷ []))
call_line e session GivenUp media now = Some (line (codes "call-cancelled") (call_field e ∷ from_field e ∷ to_field e ∷ after_field e now ∷ []))
call_line e session (Offered end method) media now = Some (line (codes "call-offered") (call_field e ∷ by_field e end ∷ method_field method ∷ []))
call_line e session Reanswered media now = reanswer_line e session
call_line e session (OfferRefused status) media now = Some (line (codes "call-offer-refused") (call_field e ∷ status_field status ∷ []))
call_line e session OfferGivenUp media now = Some (line (codes "call-offer-cancelled") (call_field e ∷ []))
call_line e session (Left end) media now = Some (left_line e end media now)
call_line e session (Failed status) media now = Some (failed_line e (codes "offer failed") status media now)
call_line e session Unacknowledged media now = Some (over_line e (codes "no ack") media now)
call_line e session Expired media now = Some (over_line e (codes "expired") media now)

-- nothing is said of one that it doesn't know
abbrev pub known_line : Option Entry → Option Session → CallNote → Option MediaCounts → ℕ → Option Line
known_line None session note media now = None
known_line (Some e) session note media now = call_line e session note media now

-- ---- the ledger

-- the session of the call of a number, if it has one
abbrev pub session_of : Option StandingCall → Option Session
session_of None = None
session_of (Some c) = c.call.media.session

abbrev pub session_in : List StandingCall → ℕ → Option Session
session_in calls number = session_of (find (is_call number) calls)

-- a call is in it from its beginning on, also as its first line is written
abbrev pub begun_by : List Entry → Option StandingCall → CallNote → ℕ → List Entry
begun_by ledger call Begun now = with_call call now ledger
begun_by ledger call (Ringing status) now = ledger
begun_by ledger call Answered now = ledger
begun_by ledger call (Refused status) now = ledger
begun_by ledger call GivenUp now = ledger
begun_by ledger call (Offered end method) now = ledger
begun_by ledger call Reanswered now = ledger
begun_by ledger call (OfferRefused status) now = ledger
begun_by ledger call OfferGivenUp now = ledger
begun_by ledger call (Left end) now = ledger
begun_by ledger call (Failed status) now = ledger
begun_by ledger call Unacknowledged now = ledger
begun_by ledger call Expired now = ledger

abbrev pub begun_in : List Entry → List StandingCall → NoteOfCall → ℕ → List Entry
begun_in ledger calls note now = begun_by ledger (find (is_call note.number) calls) note.note now

-- it is held as its session says, if it has one
abbrev pub held_by : Option Session → ℕ → List Entry → List Entry
held_by None number ledger = ledger
held_by (Some s) number ledger = with_hold number (is_held s.offer_taken s.answer_taken) ledger

-- what the note changes of a ledger that has its call
abbrev pub kept_by : List Entry → Option Session → ℕ → CallNote → ℕ → List Entry
kept_by ledger session number Begun now = ledger
kept_by ledger session number (Ringing status) now = ledger
kept_by ledger session number Answered now = held_by session number (with_answer number now ledger)
kept_by ledger session number (Refused status) now = without_call number ledger
kept_by ledger session number GivenUp now = without_call number ledger
kept_by ledger session number (Offered end method) now = ledger
kept_by ledger session number Reanswered now = held_by session number ledger
kept_by ledger session number (OfferRefused status) now = ledger
kept_by ledger session number OfferGivenUp now = ledger
kept_by ledger session number (Left end) now = without_call number ledger
kept_by ledger session number (Failed status) now = without_call number ledger
kept_by ledger session number Unacknowledged now = without_call number ledger
kept_by ledger session number Expired now = without_call number ledger

-- ---- both

abbrev pub line_of_call : List Entry → List StandingCall → NoteOfCall → Option MediaCounts → ℕ → Option Line
line_of_call ledger calls note media now = known_line (find (is_entry note.number) (begun_in ledger calls note now)) (session_in calls note.number) note.note media now

abbrev pub ledger_of_call : List Entry → List StandingCall → NoteOfCall → ℕ → List Entry
ledger_of_call ledger calls note now = kept_by (begun_in ledger calls note now) (session_in calls note.number) note.number note.note now
