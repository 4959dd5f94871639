-- What each level logs.
use Rattle.std.specs.Prelude.{ℕ, Bool, true, false, nat_le, Option, Some, None}
use Rattle.configuration.specs.declared.level.LogLevel.{LogLevel}
use Rattle.configuration.specs.declared.level.LogLevel.TheVariants.{Nothing, Trouble, Calls, All}
use Rattle.plans.specs.declared.note.Note.{Note}
use Rattle.plans.specs.declared.note.Note.TheVariants as notes

-- each level logs all that those before it log
abbrev pub rank : LogLevel → ℕ
rank Nothing = 0
rank Trouble = 1
rank Calls = 2
rank All = 3

abbrev pub is_up_to : LogLevel → LogLevel → Bool
is_up_to least level = nat_le (rank least) (rank level)

-- the first level that logs an event: one for which no transaction is left is trouble, and what sends nothing is told
-- at the last level
abbrev pub least_level : Note → Option LogLevel
least_level notes.Quiet = None
least_level notes.Shed = Some Trouble
least_level (notes.Call note) = Some Calls
least_level notes.Registered = Some Calls
least_level (notes.Refused reason) = Some Calls
least_level (notes.Dropped why) = Some All

abbrev pub is_logged_from : LogLevel → Option LogLevel → Bool
is_logged_from level None = false
is_logged_from level (Some least) = is_up_to least level

abbrev pub logs_note : LogLevel → Note → Bool
logs_note level note = is_logged_from level (least_level note)

-- a request that the server refuses, and a datagram that it drops: anyone can send as many as he likes
abbrev pub is_of_strangers : Note → Bool
is_of_strangers notes.Quiet = false
is_of_strangers notes.Shed = true
is_of_strangers (notes.Call note) = false
is_of_strangers notes.Registered = false
is_of_strangers (notes.Refused reason) = true
is_of_strangers (notes.Dropped why) = true
