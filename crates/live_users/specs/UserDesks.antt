-- What the signalling has of the configuration's file.
use Rattle.std.specs.Prelude.{◌≡◌, ◌⊎◌, ◌∷◌, [], ◌++◌, ℕ, false, List, Option, Some, None, codes, decimal}
use Rattle.rtrb.specs.declared.consumer.Consumer.{Consumer}
use Rattle.rtrb.specs.declared.producer.Producer.{Producer}
use Rattle.rtrb.specs.Ring.{known_free, known_items, received, sent}
use Rattle.live_users.specs.declared.news.FileNews.{FileNews}
use Rattle.live_users.specs.declared.news.OtherUsers.{OtherUsers}
use Rattle.live_users.specs.declared.waiting_users.UsersChange.{UsersChange}
use Rattle.live_users.specs.Reports.{Contents as FileContents}
use Rattle.live_users.specs.Waiting.{Contents, wanting}

-- the line for users that the agent took
abbrev pub change_line : UsersChange → List ℕ
change_line change =
    codes "users-changed added=" ++ (decimal change.added ++ (codes " removed=" ++ (decimal change.removed ++ (codes " count=" ++ (decimal change.count ++ codes "\n")))))

-- the thread is handed a file that is right and has these users, unless one waits there already
pub record HandsFile {A P : Type 0} (users : List (List ℕ)) (before after : Producer FileContents A P) : Type 0 where
  pub file : FileContents
  pub named : file.users ≡ users
  pub right : file.is_refused ≡ false
  pub handed : (sent after ≡ sent before ++ file ∷ []) ⊎ (sent after ≡ sent before) × (known_free before ≡ 0)

-- other users are wanted
abbrev pub wanted_by : Option OtherUsers → Contents → Contents
wanted_by None waiting = waiting
wanted_by (Some other) waiting = wanting waiting other.users other.added other.removed

-- news were received: their users are wanted, and their line is told
pub record Receives {A P : Type 0} (before after : Consumer FileNews A P) (old new : Contents) (line : Option (List ℕ)) : Type 0 where
  pub news : FileNews
  pub received : received after ≡ received before ++ news ∷ []
  pub told : line ≡ news.line
  pub wanted : new ≡ wanted_by news.users old

-- or there are none
pub record ReceivesNone {A P : Type 0} (before after : Consumer FileNews A P) (old new : Contents) (line : Option (List ℕ)) : Type 0 where
  pub received : received after ≡ received before
  pub none : known_items after ≡ []
  pub told : line ≡ None
  pub same : new ≡ old

abbrev pub TakesNews : {A P : Type 0} → Consumer FileNews A P → Consumer FileNews A P → Contents → Contents → Option (List ℕ) → Type 0
TakesNews before after old new line = Receives before after old new line ⊎ ReceivesNone before after old new line
