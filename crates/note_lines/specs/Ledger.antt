-- The live calls, as lines name them, in the order in which they began.
use Rattle.std.specs.Prelude.{ℕ, ◌==◌, ◌-◌, Bool, false, not, List, [], ◌∷◌, ◌++◌, length, drop, map, filter, Option, Some, None, if◌then◌else◌}
use Rattle.call_media.specs.declared.end.End.{End}
use Rattle.call_media.specs.declared.end.End.TheVariants.{Caller, Callee}
use Rattle.calls.specs.declared.standing_call.StandingCall.{StandingCall}
use Rattle.note_lines.specs.declared.ledger.Entry.{Entry}
use Rattle.note_lines.specs.Limits.{max_calls}

abbrev pub is_call : ℕ → StandingCall → Bool
is_call number c = c.call.number == number

abbrev pub is_entry : ℕ → Entry → Bool
is_entry number e = e.number == number

-- the user of a URI; empty if it has none
abbrev pub user_text : Option (List ℕ) → List ℕ
user_text None = []
user_text (Some user) = user

-- the users of the From and To of the first INVITE
abbrev pub entry_of : StandingCall → ℕ → Entry
entry_of c now = record { number = c.call.number; from = user_text c.call.caller.theirs.uri.user; to = user_text c.call.caller.ours.uri.user; begun = now; answered = None; is_held = false }

-- at most so many of them: the last
abbrev pub last_of : ℕ → List Entry → List Entry
last_of most entries = drop (length entries - most) entries

abbrev pub with_entry : Entry → List Entry → List Entry
with_entry e entries = last_of max_calls (entries ++ e ∷ [])

-- ---- what changes it

-- a call began; one that isn't there changes nothing
abbrev pub with_call : Option StandingCall → ℕ → List Entry → List Entry
with_call None now entries = entries
with_call (Some c) now entries = with_entry (entry_of c now) entries

-- it was answered
abbrev pub answer_entry : ℕ → ℕ → Entry → Entry
answer_entry number now e = if is_entry number e then record e { answered = Some now } else e

abbrev pub with_answer : ℕ → ℕ → List Entry → List Entry
with_answer number now entries = map (answer_entry number now) entries

-- it was put on hold, or taken off hold
abbrev pub hold_entry : ℕ → Bool → Entry → Entry
hold_entry number is_held e = if is_entry number e then record e { is_held = is_held } else e

abbrev pub with_hold : ℕ → Bool → List Entry → List Entry
with_hold number is_held entries = map (hold_entry number is_held) entries

-- it is over
abbrev pub without_call : ℕ → List Entry → List Entry
without_call number entries = filter (λ e. not (is_entry number e)) entries

-- ---- what is read of it

-- the user at this end
abbrev pub user_at : End → Entry → List ℕ
user_at Caller e = e.from
user_at Callee e = e.to
