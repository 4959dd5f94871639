-- Which configuration a file says, and why it is refused.
use Rattle.std.specs.Prelude.{◌≡◌, ℕ, List, Some, None, option_map, IsUtf8, pos}
use Rattle.toml.specs.Data.{Members}
use Rattle.toml.specs.Parse.{parse_document}
use Rattle.toml.specs.Errors.{IsMemory}
use Rattle.toml.specs.declared.de.error.Error.{Error}
use Rattle.configuration.specs.declared.config.Config.{Config}
use Rattle.configuration.specs.declared.error.ConfigError.{ConfigError}
use Rattle.configuration.specs.declared.error.ConfigError.TheVariants.{OutOfMemory, RelayPorts, Address, Users, MinExpires, Domain, File, CallDuration, SourceShare}
use Rattle.configuration.specs.Rules.{first_broken}
use Rattle.sip_uri.specs.Hosts.{ip4_of}
use Rattle.configuration.specs.declared.key.Key.TheVariants as keys
use Rattle.configuration.specs.Files.{number_at, text_at}
use Rattle.configuration.specs.Flaws.{config_of}

-- the bytes are UTF-8, and the text of this table (TOML 1.1)
abbrev pub IsTextOf : List ℕ → Members → Type 0
IsTextOf bytes ms = IsUtf8 bytes × (parse_document bytes ≡ Some ms)

-- of an error of TOML's reader: a lack of memory, or a text without a table
abbrev pub IsErrorOf : Error → ConfigError → Type 0
IsErrorOf error OutOfMemory = IsMemory error
IsErrorOf error RelayPorts = ⊥
IsErrorOf error Address = ⊥
IsErrorOf error Users = ⊥
IsErrorOf error MinExpires = ⊥
IsErrorOf error Domain = ⊥
IsErrorOf error File = ¬ (IsMemory error)
IsErrorOf error CallDuration = ⊥
IsErrorOf error SourceShare = ⊥

-- why bytes have no table
abbrev pub RefusesText : List ℕ → ConfigError → Type 0
RefusesText bytes OutOfMemory = Unit {0}
RefusesText bytes RelayPorts = ⊥
RefusesText bytes Address = ⊥
RefusesText bytes Users = ⊥
RefusesText bytes MinExpires = ⊥
RefusesText bytes Domain = ⊥
RefusesText bytes File = (ms : Members) → ¬ (IsTextOf bytes ms)
RefusesText bytes CallDuration = ⊥
RefusesText bytes SourceShare = ⊥

-- the bytes say this configuration, whether or not it keeps the rules
abbrev pub Says : List ℕ → Config → Type 0
Says bytes c = (ms : Members) × IsTextOf bytes ms × (config_of ms ≡ Some c)

-- the bytes say this configuration, and it keeps the rules
pub record ReadsConfig (bytes : List ℕ) (c : Config) : Type 0 where
  pub says : Says bytes c
  pub rules : first_broken c ≡ None

-- the bytes say a configuration, and this is the first rule that it breaks
pub record BreaksFirst (bytes : List ℕ) (e : ConfigError) : Type 0 where
  pub config : Config
  pub says : Says bytes config
  pub broken : first_broken config ≡ Some e

-- why bytes are refused: they say no configuration, or one that breaks a rule
abbrev pub Refuses : List ℕ → ConfigError → Type 0
Refuses bytes OutOfMemory = Unit {0}
Refuses bytes RelayPorts = BreaksFirst bytes RelayPorts
Refuses bytes Address = BreaksFirst bytes Address
Refuses bytes Users = BreaksFirst bytes Users
Refuses bytes MinExpires = BreaksFirst bytes MinExpires
Refuses bytes Domain = BreaksFirst bytes Domain
Refuses bytes File = (c : Config) → ¬ (Says bytes c)
Refuses bytes CallDuration = BreaksFirst bytes CallDuration
Refuses bytes SourceShare = BreaksFirst bytes SourceShare

-- what a table says of a configuration, key by key: the exact numbers, and the address of the exact text
pub record IsWritten (ms : Members) (c : Config) : Type 0 where
  pub relay_first : number_at keys.RelayFirst ms ≡ Some (pos c.relay_first)
  pub relay_pairs : number_at keys.RelayPairs ms ≡ Some (pos c.relay_pairs)
  pub sip_port : number_at keys.SipPort ms ≡ Some (pos c.sip_port)
  pub min_expires : number_at keys.MinExpires ms ≡ Some (pos c.min_expires)
  pub max_expires : number_at keys.MaxExpires ms ≡ option_map pos c.max_expires
  pub silent_minutes : number_at keys.SilentMinutes ms ≡ option_map pos c.silent_minutes
  pub longest_call_hours : number_at keys.LongestCallHours ms ≡ option_map pos c.longest_call_hours
  pub source_share : number_at keys.SourceShare ms ≡ option_map pos c.source_share
  pub ip : (text : List ℕ) × (text_at keys.Ip ms ≡ Some text) × (ip4_of text ≡ Some c.ip)

abbrev pub IsWrittenIn : List ℕ → Config → Type 0
IsWrittenIn bytes c = (ms : Members) × IsTextOf bytes ms × IsWritten ms c
