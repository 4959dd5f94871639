-- The table of the keys of a configuration's file.
use Rattle.std.specs.Prelude.{ℕ, Bool, true, false, nat_eq, List, [], ◌∷◌, codes}
use Rattle.std.specs.List.{list_any}
use Rattle.std.specs.Cmp.Lexicographic.{pointwise}
use Rattle.configuration.specs.Limits.{max_answer_within, max_workers}
use Rattle.configuration.specs.declared.error.ConfigError.{ConfigError}
use Rattle.configuration.specs.declared.error.ConfigError.TheVariants as rules
use Rattle.configuration.specs.declared.key.Key.{Key}
use Rattle.configuration.specs.declared.key.Key.TheVariants as keys
use Rattle.configuration.specs.declared.key.Measure.TheVariants.{Things, Seconds}
use Rattle.configuration.specs.declared.key.Kind.{Kind}
use Rattle.configuration.specs.declared.key.Kind.TheVariants.{Whole, Between, Truth, Text, Digits, Level, Page, Texts}

abbrev pub is_same : List ℕ → List ℕ → Bool
is_same text other = pointwise nat_eq text other

-- how a file spells the key, whether the key has to be there, and what its value has to be by itself
pub record Row : Type 0 where
  pub name : List ℕ
  pub is_required : Bool
  pub kind : Kind

abbrev pub required : List ℕ → Kind → Row
required name kind = record { name = name; is_required = true; kind = kind }

abbrev pub optional : List ℕ → Kind → Row
optional name kind = record { name = name; is_required = false; kind = kind }

abbrev pub row_of : Key → Row
row_of keys.RelayFirst = required (codes "relay_first") (Whole rules.RelayPorts)
row_of keys.RelayPairs = required (codes "relay_pairs") (Whole rules.RelayPorts)
row_of keys.SipPort = required (codes "sip_port") (Whole rules.Address)
row_of keys.MinExpires = required (codes "min_expires") (Whole rules.MinExpires)
row_of keys.MaxExpires = optional (codes "max_expires") (Whole rules.MinExpires)
row_of keys.SilentMinutes = optional (codes "silent_minutes") (Whole rules.CallDuration)
row_of keys.LongestCallHours = optional (codes "longest_call_hours") (Whole rules.CallDuration)
row_of keys.SourceShare = optional (codes "source_share") (Whole rules.SourceShare)
row_of keys.Workers = optional (codes "workers") (Between Things 1 max_workers)
row_of keys.AnswerWithin = optional (codes "answer_within") (Between Seconds 1 max_answer_within)
row_of keys.OldestLeaves = optional (codes "oldest_leaves") Truth
row_of keys.Ip = required (codes "ip") (Text rules.Address)
row_of keys.RandomKey = required (codes "random_key") Digits
row_of keys.Domain = optional (codes "domain") (Text rules.Domain)
row_of keys.Users = required (codes "users") (Texts rules.Users)
row_of keys.Log = optional (codes "log") Level
row_of keys.StatusOpen = optional (codes "status_open") Truth
row_of keys.Status = optional (codes "status") Page

-- the keys, in the order in which their values are judged
abbrev pub all_keys : List Key
all_keys =
    keys.RelayFirst ∷ keys.RelayPairs ∷ keys.SipPort ∷ keys.MinExpires ∷ keys.MaxExpires ∷ keys.SilentMinutes
    ∷ keys.LongestCallHours ∷ keys.SourceShare ∷ keys.Workers ∷ keys.AnswerWithin ∷ keys.OldestLeaves ∷ keys.Ip
    ∷ keys.RandomKey ∷ keys.Domain ∷ keys.Users ∷ keys.Log ∷ keys.StatusOpen ∷ keys.Status ∷ []

abbrev pub key_name : Key → List ℕ
key_name key = (row_of key).name

-- the rule of a value of this kind: one of a file that has other values, or the rule that says more
abbrev pub kind_rule : Kind → ConfigError
kind_rule (Whole rule) = rule
kind_rule (Between unit least most) = rules.File
kind_rule Truth = rules.File
kind_rule (Text rule) = rule
kind_rule Digits = rules.File
kind_rule Level = rules.File
kind_rule Page = rules.File
kind_rule (Texts rule) = rule

abbrev pub key_rule : Key → ConfigError
key_rule key = kind_rule (row_of key).kind

abbrev pub is_among : List Key → List ℕ → Bool
is_among some name = list_any (λ key. is_same name (key_name key)) some

abbrev pub is_known_key : List ℕ → Bool
is_known_key name = is_among all_keys name
