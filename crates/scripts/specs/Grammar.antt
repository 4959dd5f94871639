-- What a script is.
use Rattle.std.specs.Prelude.{◌≡◌, ℕ, Bool, true, not, ◌||◌, ◌==◌, List, [], ◌∷◌, ◌++◌, ◌+◌, ◌≢◌, length, codes, Some, None, ◌⊎◌}
use Rattle.std.specs.List.{list_all, join_with_byte}
use Rattle.text.specs.Cut.{after}
use Rattle.sip_uri.specs.Hosts.{ip4_of}
use Rattle.events.specs.declared.event.Event.{Event}
use Rattle.scripts.specs.declared.error.ScriptError.{ScriptError}
use Rattle.scripts.specs.declared.error.ScriptError.TheVariants.{OutOfMemory, Malformed}
use Rattle.scripts.specs.Limits.{max_number, max_bytes}
use Rattle.scripts.specs.Numbers.{number_of, port_of}
use Rattle.scripts.specs.Values.{due_at, silent_at, users_at, datagram_at}

-- a word, one space, and more
abbrev pub spaced : List ℕ → List ℕ → List ℕ
spaced text more = text ++ 32 ∷ more

-- a line, its line feed, and what comes after it
abbrev pub lined : List ℕ → List ℕ → List ℕ
lined line behind = line ++ 10 ∷ behind

-- the text is `T now salt`, a line feed, and the rest
pub record BeginsDue (text : List ℕ) (e : Event) (rest : List ℕ) : Type 0 where
  pub now_text : List ℕ
  pub salt_text : List ℕ
  pub now : ℕ
  pub salt : ℕ
  pub spelled : text ≡ lined (spaced (codes "T") (spaced now_text salt_text)) rest
  pub now_is : number_of max_number now_text ≡ Some now
  pub salt_is : number_of max_number salt_text ≡ Some salt
  pub event : e ≡ due_at now salt

-- the text is `Q now salt number`, a line feed, and the rest
pub record BeginsSilent (text : List ℕ) (e : Event) (rest : List ℕ) : Type 0 where
  pub now_text : List ℕ
  pub salt_text : List ℕ
  pub call_text : List ℕ
  pub now : ℕ
  pub salt : ℕ
  pub call : ℕ
  pub spelled : text ≡ lined (spaced (codes "Q") (spaced now_text (spaced salt_text call_text))) rest
  pub now_is : number_of max_number now_text ≡ Some now
  pub salt_is : number_of max_number salt_text ≡ Some salt
  pub call_is : number_of max_number call_text ≡ Some call
  pub event : e ≡ silent_at now salt call

-- any bytes but a comma and a line feed
abbrev pub is_name : List ℕ → Bool
is_name text = list_all (λ b. not (b == 44 || b == 10)) text

-- the text is `U now salt names`, a line feed, and the rest: one name or more, separated by one comma each
pub record BeginsUsers (text : List ℕ) (e : Event) (rest : List ℕ) : Type 0 where
  pub now_text : List ℕ
  pub salt_text : List ℕ
  pub users : List (List ℕ)
  pub now : ℕ
  pub salt : ℕ
  pub spelled : text ≡ lined (spaced (codes "U") (spaced now_text (spaced salt_text (join_with_byte 44 users)))) rest
  pub now_is : number_of max_number now_text ≡ Some now
  pub salt_is : number_of max_number salt_text ≡ Some salt
  pub some : users ≢ []
  pub names : list_all is_name users ≡ true
  pub event : e ≡ users_at now salt users

-- the text is `D now salt ip port length`, a line feed, that many bytes, a line feed, and the rest
pub record BeginsDatagram (text : List ℕ) (e : Event) (rest : List ℕ) : Type 0 where
  pub now_text : List ℕ
  pub salt_text : List ℕ
  pub ip_text : List ℕ
  pub port_text : List ℕ
  pub length_text : List ℕ
  pub now : ℕ
  pub salt : ℕ
  pub ip : List ℕ
  pub port : ℕ
  pub bytes : List ℕ
  pub spelled : text ≡ lined (spaced (codes "D") (spaced now_text (spaced salt_text (spaced ip_text (spaced port_text length_text))))) (lined bytes rest)
  pub now_is : number_of max_number now_text ≡ Some now
  pub salt_is : number_of max_number salt_text ≡ Some salt
  pub ip_is : ip4_of ip_text ≡ Some ip
  pub port_is : port_of port_text ≡ Some port
  pub length_is : number_of max_bytes length_text ≡ Some (length bytes)
  pub event : e ≡ datagram_at now salt (record { ip = ip; port = port }) bytes

-- the text begins with this event, and the rest comes after it
abbrev pub Begins : List ℕ → Event → List ℕ → Type 0
Begins text e rest = BeginsDue text e rest ⊎ (BeginsSilent text e rest ⊎ (BeginsUsers text e rest ⊎ BeginsDatagram text e rest))

-- the text is these events, one after the other
abbrev pub ReadsScript : List ℕ → List Event → Type 0
ReadsScript text [] = text ≡ []
ReadsScript text (e ∷ es) = (rest : List ℕ) × Begins text e rest × ReadsScript rest es

-- why a text is refused: it is no list of events
abbrev pub Refuses : List ℕ → ScriptError → Type 0
Refuses text OutOfMemory = Unit {0}
Refuses text Malformed = (es : List Event) → ¬ (ReadsScript text es)

-- these events are at the head of the text, one after the other, and the rest comes after them
abbrev pub LeadsTo : List ℕ → List Event → List ℕ → Type 0
LeadsTo text [] rest = text ≡ rest
LeadsTo text (e ∷ es) rest = (behind : List ℕ) × Begins text e behind × LeadsTo behind es rest

-- after these events there is something at this place that begins no event
pub record IsMalformedAt (text : List ℕ) (at : ℕ) : Type 0 where
  pub events : List Event
  pub rest : List ℕ
  pub leads : LeadsTo text events rest
  pub place : at + length rest ≡ length text
  pub more : rest ≢ []
  pub none : (e : Event) (behind : List ℕ) → ¬ (Begins rest e behind)

-- ---- a text to which more may be added

-- there is no event at its head
abbrev pub BeginsNone : List ℕ → Type 0
BeginsNone text = (e : Event) (rest : List ℕ) → ¬ (Begins text e rest)

-- and there never is, whatever comes after it
abbrev pub NeverBegins : List ℕ → Type 0
NeverBegins text = (more : List ℕ) → BeginsNone (text ++ more)

-- what comes after it can make it an event
abbrev pub IsFront : List ℕ → Type 0
IsFront text = (more : List ℕ) × (e : Event) × Begins (text ++ more) e []

-- no event is whole, and the first line has no end, or the bytes of its datagram have none
abbrev pub NeedsMore : List ℕ → Type 0
NeedsMore text = BeginsNone text × ((after 10 text ≡ None) ⊎ IsFront text)

-- why a text to which more may be added is refused: there is something, and it never begins an event
abbrev pub RefusesFirst : List ℕ → ScriptError → Type 0
RefusesFirst text OutOfMemory = Unit {0}
RefusesFirst text Malformed = (text ≢ []) × NeverBegins text
