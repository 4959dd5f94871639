-- A note's line begins with a word of the note, and has few fields.
use Rattle.std.proofs.Common.{◌≡◌, ◌≤◌, ◌++◌, ℕ, Bool, true, false, List, [], length, refl, inl, inr, Option, Some, None, Result, Ok, Err, OnOk, find, arith}
use Rattle.std.specs.Prelude.{codes}
use Rattle.std.specs.declared.alloc.AllocError.{AllocError}
use Rattle.sip_uri.specs.declared.uri.Addr.{Addr}
use Rattle.sip_uri.specs.declared.uri.Uri.{Uri}
use Rattle.registrar.specs.Bound.{target_of}
use Rattle.registrar.specs.Registrar.{Contents, bindings_at}
use Rattle.call_media.specs.declared.end.End.{End}
use Rattle.call_media.specs.declared.session.Session.{Session}
use Rattle.call_core.specs.declared.note.CallNote.{CallNote}
use Rattle.call_core.specs.declared.note.CallNote.TheVariants as calls
use Rattle.plans.specs.declared.note.Note.{Note}
use Rattle.plans.specs.declared.note.Note.TheVariants.{Quiet, Call, Refused, Registered, Dropped, Shed}
use Rattle.note_lines.specs.declared.ledger.Entry.{Entry}
use Rattle.note_lines.specs.declared.media_counts.MediaCounts.{MediaCounts}
use Rattle.note_lines.specs.CallLines.{begun_in, call_line, known_line, media_fields, session_in, word_of_change}
use Rattle.note_lines.specs.Holds.{is_held}
use Rattle.note_lines.specs.Ledger.{is_entry}
use Rattle.note_lines.specs.Lines.{Line, line_text, max_fields, said}
use Rattle.note_lines.specs.NoteLines.{bound_line, count_line, line_by, note_line, registration_line, seconds_left, silent_line, source_fields, Noted}
use Rattle.note_lines.specs.Notes.{IsLineOf, IsWordOf, IsWordOfCall, Says}
use Rattle.note_lines.proofs.LineLaws.{is_line}

-- no line, or one that a word of this kind begins, of few fields
pub Fits : (List ℕ → Type 0) → Option Line → Type 0
Fits IsWord None = Unit {0}
Fits IsWord (Some l) = IsWord l.word × (length l.fields ≤ max_fields)

pub says_said : (IsWord : List ℕ → Type 0) (r : Result (Unit {0}) AllocError) (before behind : List ℕ) (o : Option Line) → Fits IsWord o
    → OnOk r (behind ≡ before ++ said o) → OnOk r (Says IsWord before behind)
unfolding Fits
says_said IsWord (Err e) before behind o fits is = tt
says_said IsWord (Ok done) before behind None fits is = ([], inl refl, is)
says_said IsWord (Ok done) before behind (Some l) fits is = (line_text l.word l.fields, inr told, is) where
  told : IsLineOf IsWord (line_text l.word l.fields)
  told = record { word = l.word; fields = l.fields; named = fits.0; written = refl; line = is_line l.word l.fields fits.1 }

-- ---- calls

few_media : (m : Option MediaCounts) → length (media_fields m) ≤ 2
few_media None = omega arith
few_media (Some m) = omega arith

change_fits : (held was : Bool) → IsWordOfCall calls.Reanswered (word_of_change held was)
change_fits true was = inl refl
change_fits false true = inr (inl refl)
change_fits false false = inr (inr refl)

call_fits : (e : Entry) (s : Option Session) (note : CallNote) (m : Option MediaCounts) (now : ℕ) → Fits (IsWordOfCall note) (call_line e s note m now)
unfolding Fits
call_fits e s calls.Begun m now = (refl, omega arith)
call_fits e s (calls.Ringing status) m now = (refl, omega arith)
call_fits e s calls.Answered m now = (refl, omega arith)
call_fits e s (calls.Refused status) m now = (refl, omega arith)
call_fits e s calls.GivenUp m now = (refl, omega arith)
call_fits e s (calls.Offered end method) m now = (refl, omega arith)
call_fits e None calls.Reanswered m now = tt
call_fits e (Some s) calls.Reanswered m now = (change_fits (is_held s.offer_taken s.answer_taken) e.is_held, omega arith)
call_fits e s (calls.OfferRefused status) m now = (refl, omega arith)
call_fits e s calls.OfferGivenUp m now = (refl, omega arith)
call_fits e s (calls.Left end) m now = let few = few_media m in (refl, omega (arith, few))
call_fits e s (calls.Failed status) m now = let few = few_media m in (refl, omega (arith, few))
call_fits e s calls.Unacknowledged m now = let few = few_media m in (refl, omega (arith, few))
call_fits e s calls.Expired m now = let few = few_media m in (refl, omega (arith, few))

known_fits : (o : Option Entry) (s : Option Session) (note : CallNote) (m : Option MediaCounts) (now : ℕ) → Fits (IsWordOfCall note) (known_line o s note m now)
unfolding Fits
known_fits None s note m now = tt
known_fits (Some e) s note m now = call_fits e s note m now

-- ---- the others

few_of_source : (source : Option Addr) → length (source_fields source) ≤ 1
few_of_source None = omega arith
few_of_source (Some source) = omega arith

bound_fits : (user : List ℕ) (target : Option Uri) (seconds : ℕ) → Fits (IsWordOf Registered) (Some (bound_line user target seconds))
unfolding Fits
bound_fits user None seconds = (inr refl, omega arith)
bound_fits user (Some target) seconds = (inl refl, omega arith)

registration_fits : (r : Contents) (user : Option (List ℕ)) (now : ℕ) → Fits (IsWordOf Registered) (registration_line r user now)
unfolding Fits
registration_fits r None now = tt
registration_fits r (Some user) now = bound_fits user (target_of (bindings_at r user now)) (seconds_left (bindings_at r user now) now)

event_fits : (note : Note) (ledger : List Entry) (e : Noted) → Fits (IsWordOf note) (line_by note ledger e)
unfolding Fits
event_fits Quiet ledger e = tt
event_fits (Call note) ledger e = known_fits (find (is_entry note.number) (begun_in ledger e.calls note e.moment)) (session_in e.calls note.number) note.note e.media e.moment
event_fits (Refused reason) ledger e = let few = few_of_source e.source in (refl, omega (arith, few))
event_fits Registered ledger e = registration_fits e.registrar e.user e.moment
event_fits (Dropped why) ledger e = let few = few_of_source e.source in (refl, omega (arith, few))
event_fits Shed ledger e = let few = few_of_source e.source in (refl, omega (arith, few))

-- ---- what is appended

pub note_says : (r : Result (Unit {0}) AllocError) (before behind : List ℕ) (ledger : List Entry) (e : Noted)
    → OnOk r (behind ≡ before ++ said (note_line ledger e)) → OnOk r (Says (IsWordOf e.note) before behind)
note_says r before behind ledger e is = says_said (IsWordOf e.note) r before behind (note_line ledger e) (event_fits e.note ledger e) is

silent_fits : (o : Option Entry) (end : End) (place : Addr) → Fits (λ w. w ≡ codes "call-silent-way") (silent_line o end place)
unfolding Fits
silent_fits None end place = tt
silent_fits (Some e) end place = (refl, omega arith)

pub silent_says : (r : Result (Unit {0}) AllocError) (before behind : List ℕ) (o : Option Entry) (end : End) (place : Addr)
    → OnOk r (behind ≡ before ++ said (silent_line o end place)) → OnOk r (Says (λ w. w ≡ codes "call-silent-way") before behind)
silent_says r before behind o end place is = says_said (λ w. w ≡ codes "call-silent-way") r before behind (silent_line o end place) (silent_fits o end place) is

pub count_says : (r : Result (Unit {0}) AllocError) (before behind word : List ℕ) (count : ℕ)
    → OnOk r (behind ≡ before ++ said (Some (count_line word count))) → OnOk r (Says (λ w. w ≡ word) before behind)
unfolding Fits
count_says r before behind word count is = says_said (λ w. w ≡ word) r before behind (Some (count_line word count)) fits is where
  fits : Fits (λ w. w ≡ word) (Some (count_line word count))
  fits = (refl, omega arith)
