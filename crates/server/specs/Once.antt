-- What `once` writes for a datagram: all that the agent sends for it, on an office to which nothing has happened yet.
use Rattle.std.specs.Prelude.{◌≡◌, ℕ, List, [], ◌∷◌, Option}
use Rattle.std.specs.List.{flat_map}
use Rattle.std.specs.Io.KnownBytes.{Appends}
use Rattle.sip_uri.specs.declared.uri.Addr.{Addr}
use Rattle.configuration.specs.Example.{example}
use Rattle.events.specs.declared.event.Event.{Event}
use Rattle.events.specs.declared.event.What.TheVariants as whats
use Rattle.events.specs.declared.sent.Sent.{Sent}
use Rattle.event_rows.specs.Rows.{row}
use Rattle.event_rows.specs.State.{Contents, IsNew}
use Rattle.server.specs.Input.{Reads}

-- where the datagram counts as sent from
abbrev pub source : Addr
source = record { ip = 192 ∷ 0 ∷ 2 ∷ 11 ∷ []; port = 6000 }

-- it comes at moment 0, with salt 1
abbrev pub single : List ℕ → Event
single datagram = record { now = 0; salt = 1; what = whats.Datagram source datagram }

-- the bytes of these, one after the other
abbrev pub bytes_of : List Sent → List ℕ
bytes_of sent = flat_map (λ s. s.bytes) sent

-- these bytes are what an office of the example sends for the datagram, to which nothing has happened
abbrev pub SendsFor : List ℕ → List Sent → Type 0
SendsFor datagram sent = (agent : Contents) × IsNew example agent × (sent ≡ (row agent (single datagram)).plan.sends)

-- all that the reader had was taken, and what is sent for the kept bytes was appended to what the writer held
abbrev pub Answers : Option (List ℕ) → Option (List ℕ) → Option (List ℕ) → Option (List ℕ) → Type 0
Answers left left_after held held_after =
    (datagram : List ℕ) × (sent : List Sent) × Reads left left_after datagram × SendsFor datagram sent × Appends held held_after (bytes_of sent)
