-- What passes through the rings between the signalling and the page.
use Rattle.std.specs.Prelude.{◌≡◌, ◌⊎◌, ◌<◌, ◌≤◌, ℕ, List, ◌∷◌, [], ◌++◌, take, length, Some}
use Rattle.std.specs.List.{last_or}
use Rattle.rtrb.specs.declared.producer.Producer.{Producer}
use Rattle.rtrb.specs.declared.consumer.Consumer.{Consumer}
use Rattle.rtrb.specs.Ring.{known_free, known_items, received, sent}
use Rattle.status.specs.declared.status.Status.{Status}
use Rattle.page_desk.specs.declared.latest.Latest.{Latest}
use Rattle.page_desk.specs.Lines.{Contents, Keeps}

-- these are passed on, or there is too little room for them
abbrev pub IsPassedOn : {T A P : Type 0} → List T → Producer T A P → Producer T A P → Type 0
IsPassedOn items before after = (sent after ≡ sent before ++ items) ⊎ (sent after ≡ sent before) × (known_free after < length items)

-- this many moments wait for the page at most, and this many are taken at once
abbrev pub room_of_moments : ℕ
room_of_moments = 16

-- this many bytes of lines wait for the page at most
abbrev pub room_of_lines : ℕ
room_of_lines = 65536

-- this many bytes of lines are taken at once
abbrev pub block_of_lines : ℕ
block_of_lines = 4096

-- what is known to wait was taken whole, or as much of it as is taken at once
abbrev pub IsAll : {T : Type 0} → ℕ → List T → List T → Type 0
IsAll most taken left = (left ≡ []) ⊎ (length taken ≡ most)

-- one was taken
abbrev pub TakesOne : List ℕ → List ℕ → Type 0
TakesOne before after = (item : ℕ) × (after ≡ before ++ item ∷ [])

-- the last of those that were taken, or else the one before them
pub record IsLastOf (one : ℕ) (before after left : List ℕ) (last : ℕ) : Type 0 where
  pub items : List ℕ
  pub taken : after ≡ before ++ items
  pub all : IsAll room_of_moments items left
  pub is_last : Some last ≡ last_or (Some one) items

-- the lines kept are the last of a text that goes on with what was taken, or with its first bytes if memory was refused
pub record GoesOn (before after left : List ℕ) (kept_before kept_after : Contents) : Type 0 where
  pub items : List ℕ
  pub count : ℕ
  pub taken : after ≡ before ++ items
  pub all : IsAll block_of_lines items left
  pub few : count ≤ length items
  pub goes_on : (text : List ℕ) → Keeps text kept_before → Keeps (text ++ take count items) kept_after

-- the snapshot that was passed on is the latest, if there was one, and its moment is this one
abbrev pub TakesStatus : {A P : Type 0} → Consumer Status A P → Consumer Status A P → Latest → Latest → ℕ → Type 0
TakesStatus before after latest taken now =
    ((status : Status) × (received after ≡ received before ++ status ∷ []) × (taken ≡ record { status = Some status; came = now; moment = now }))
    ⊎ ((received after ≡ received before) × (known_items after ≡ []) × (taken ≡ record { status = latest.status; came = latest.came; moment = now }))
