-- The events that lines say.
use Rattle.std.specs.Prelude.{ℕ, ◌==◌, List}
use Rattle.std.specs.List.{slice_split}
use Rattle.sip_uri.specs.declared.uri.Addr.{Addr}
use Rattle.events.specs.declared.event.Event.{Event}
use Rattle.events.specs.declared.event.What.TheVariants.{Datagram, Due, Silent, Users}
use Rattle.scripts.specs.declared.entry.Told.{Told}
use Rattle.scripts.specs.declared.entry.Told.TheVariants as told

abbrev pub due_at : ℕ → ℕ → Event
due_at now salt = record { now = now; salt = salt; what = Due }

-- for a long time no media have come in the call of this number
abbrev pub silent_at : ℕ → ℕ → ℕ → Event
silent_at now salt call = record { now = now; salt = salt; what = Silent call }

-- the names of a text, which is cut at its commas: one name or more
abbrev pub names_of : List ℕ → List (List ℕ)
names_of text = slice_split (λ b. b == 44) text

-- these are the office's users from now on
abbrev pub users_at : ℕ → ℕ → List (List ℕ) → Event
users_at now salt users = record { now = now; salt = salt; what = Users users }

abbrev pub datagram_at : ℕ → ℕ → Addr → List ℕ → Event
datagram_at now salt source bytes = record { now = now; salt = salt; what = Datagram source bytes }

-- what a line is about, at this moment and with this salt
abbrev pub event_of : ℕ → ℕ → Told → Event
event_of now salt told.Due = due_at now salt
event_of now salt (told.Silent call) = silent_at now salt call
event_of now salt (told.Users names) = users_at now salt (names_of names.now)
event_of now salt (told.Datagram source bytes) = datagram_at now salt source bytes.now

-- the first event of a text, and what comes after it
pub record Entry : Type 0 where
  pub event : Event
  pub rest : List ℕ
