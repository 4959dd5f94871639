-- The ports of the datagrams that a worker passed on, and the words that count them.
use Rattle.std.specs.Prelude.{◌≡◌, ◌==◌, ◌+◌, ◌%◌, ◌^◌, ◌<◌, ℕ, List, [], ◌∷◌, ◌++◌, length, slice_index, if◌then◌else◌}
use mathlib.Core.Option.{some}
use lib.ListN.{get_elem?}
use Rattle.atomic_table.specs.Seated.{TableId}
use Rattle.atomic_table.specs.Table.{Me, State, Step}

-- as many as there are ports: each is a place of its own
abbrev pub port_count : ℕ
port_count = 65536

-- how often a port is among these
abbrev pub times : ℕ → List ℕ → ℕ
times port [] = 0
times port (p ∷ ports) = (if p == port then 1 else 0) + times port ports

-- the number that is read for a port: it wraps around after 2^64 datagrams
abbrev pub number_of : ℕ → List ℕ → ℕ
number_of port ports = times port ports % 2 ^ 64

-- the ports go on from those known
abbrev pub GoOn : List ℕ → List ℕ → Type 0
GoOn ports known = (rest : List ℕ) × (ports ≡ known ++ rest)

-- whose counts they are, and the ports that were counted, in order
pub record Counted : Type 0 where
  pub table : TableId
  pub ports : List ℕ

-- one datagram more of this port
abbrev pub one_more_of : ℕ → Counted → Counted
one_more_of port c = record { table = c.table; ports = c.ports ++ port ∷ [] }

-- ---- the rule of the words

abbrev pub AreNumbers : List ℕ → List ℕ → Type 0
AreNumbers words ports = (port : ℕ) → port < length words → slice_index words port ≡ number_of port ports

abbrev pub Begin : List (List ℕ) → List ℕ → Type 0
Begin views ports = (seat : ℕ) (known : List ℕ) → get_elem? views seat ≡ some known → GoOn ports known

-- the words count the ports that the first seat counted, and what any other knows begins these
abbrev pub Keeps : State (Unit {0}) (List ℕ) → Type 0
Keeps s = (ports : List ℕ) × (length s.words ≡ port_count) × AreNumbers s.words ports × (get_elem? s.views 0 ≡ some ports) × Begin s.views ports

-- ---- what the steps report

abbrev Knows : Type 0
Knows = Me (Unit {0}) (List ℕ)

-- one datagram more was counted
abbrev pub Adds : Step (Unit {0}) → Knows → ℕ → Knows → Type 0
Adds step before found after = after.0 ≡ before.0 ++ step.word ∷ []

-- the number is that of the ports that are known now
abbrev pub Reads : Step (Unit {0}) → Knows → ℕ → Knows → Type 0
Reads step before found after = (found ≡ number_of step.word after.0) × GoOn after.0 before.0

-- the number is that of the ports that were known before: the first seat knows all
abbrev pub ReadsOwn : Step (Unit {0}) → Knows → ℕ → Knows → Type 0
ReadsOwn step before found after = (found ≡ number_of step.word before.0) × (after.0 ≡ before.0)

-- nothing is known yet
abbrev pub Sits : Step (Unit {0}) → Knows → ℕ → Knows → Type 0
Sits step before found after = after.0 ≡ []
