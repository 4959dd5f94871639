-- What the thread does that looks at the configuration's file.
use Rattle.std.specs.Prelude.{◌≡◌, ◌≢◌, ◌⊎◌, ◌∷◌, [], ◌++◌, ◌-◌, ◌==◌, ℕ, Some, None, if◌then◌else◌}
use Rattle.rtrb.specs.Ring.{known_items, received}
use Rattle.live_users.specs.declared.file_thread.FileThread.{FileThread}
use Rattle.live_users.specs.FileLooks.{HandsOver}
use Rattle.live_users.specs.Reports.{Contents}

-- looks are this many waits apart
abbrev pub waits_between_looks : ℕ
waits_between_looks = 20

-- the waits that are left after one more
abbrev pub next_wait : ℕ → ℕ
next_wait left = if left == 0 then waits_between_looks - 1 else left - 1

-- the file that was handed in is looked at from now on, if there was one
pub record Takes (before after : FileThread) : Type 0 where
  pub file : Contents
  pub taken : received after.begun ≡ received before.begun ++ file ∷ []
  pub begun : after.file ≡ Some file
  pub due : after.left ≡ 0

pub record TakesNone (before after : FileThread) : Type 0 where
  pub taken : received after.begun ≡ received before.begun
  pub none : known_items after.begun ≡ []
  pub same : after.file ≡ before.file
  pub left : after.left ≡ before.left

pub record Begins (before after : FileThread) : Type 0 where
  pub file : Takes before after ⊎ TakesNone before after
  pub watch : after.watch ≡ before.watch
  pub news : after.news ≡ before.news

-- a look that is due, at a file that there is, hands over what it finds
pub record LooksAt (before after : FileThread) : Type 0 where
  pub old : Contents
  pub new : Contents
  pub due : before.left ≡ 0
  pub file : before.file ≡ Some old
  pub kept : after.file ≡ Some new
  pub handed : HandsOver before.watch.last after.watch.last old new before.news after.news
  pub begun : after.begun ≡ before.begun
  pub left : after.left ≡ before.left
  pub path : after.watch.path ≡ before.watch.path

-- and otherwise nothing happens
abbrev pub IsIdle : FileThread → FileThread → Type 0
IsIdle before after = ((before.left ≢ 0) ⊎ (before.file ≡ None)) × (after ≡ before)

abbrev pub LooksIfDue : FileThread → FileThread → Type 0
LooksIfDue before after = LooksAt before after ⊎ IsIdle before after

-- what is done between two waits
pub record IsTurn (before after : FileThread) : Type 0 where
  pub begun : FileThread
  pub looked : FileThread
  pub begins : Begins before begun
  pub looks : LooksIfDue begun looked
  pub counts : after ≡ record looked { left = next_wait looked.left }

-- one turn after the other, each from what the one before left
pub data Turns (first : FileThread) : FileThread → Type 0 where
  none : Turns first first
  more : {between last : FileThread} → Turns first between → IsTurn between last → Turns first last
