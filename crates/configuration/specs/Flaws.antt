-- What is wrong with a configuration's file: the first flaw, in the order in which its keys are judged, and then the
-- rules.
use Rattle.std.specs.Prelude.{◌==◌, ◌%◌, ℕ, ℤ, pos, Bool, true, false, not, ◌&&◌, nat_eq, nat_le, List, [], ◌∷◌, length, Option, Some, None, is_some, option_map, unwrap_or, if◌then◌else◌}
use Rattle.std.specs.List.{list_any}
use Rattle.std.specs.Option.{option_or}
use Rattle.std.specs.Cmp.Lexicographic.{pointwise}
use Rattle.toml.specs.Data.{Data, Items, no_items, item, Members, no_members, member, as_integer, as_str, as_bool, as_array}
use Rattle.registrar.specs.Limits.{max_users}
use Rattle.configuration.specs.Limits.{min_relay_port, max_relay_pairs}
use Rattle.configuration.specs.Names.{is_user}
use Rattle.configuration.specs.Rules.{has_room_for_ports, is_relay_port, is_server_address, has_lifetime, has_longest_lifetime, has_domain, has_silence_limit, has_length_limit, has_share}
use Rattle.configuration.specs.Keys.{Row, row_of, all_keys, key_rule, is_known_key}
use Rattle.configuration.specs.Files.{natural, value_at, text_at, flag_at, said_number, key_of, level_named, config_in}
use Rattle.configuration.specs.Status.{page_at}
use Rattle.configuration.specs.declared.config.Config.{Config}
use Rattle.configuration.specs.declared.error.ConfigError.{ConfigError}
use Rattle.configuration.specs.declared.error.ConfigError.TheVariants as rules
use Rattle.configuration.specs.declared.key.Key.{Key}
use Rattle.configuration.specs.declared.key.Key.TheVariants as keys
use Rattle.configuration.specs.declared.key.Kind.{Kind}
use Rattle.configuration.specs.declared.key.Kind.TheVariants.{Whole, Between, Truth, Text, Digits, Level, Page, Texts}
use Rattle.configuration.specs.declared.flaw.Flaw.{Flaw}
use Rattle.configuration.specs.declared.flaw.Flaw.TheVariants.{NoToml, UnknownKey, Missing, OtherType, OutOfRange, Odd, PastLastPort, RelayPort, Malformed, RandomKey, UserCount, UserTwice}

-- the rule that a flaw breaks
abbrev pub rule_of : Flaw → ConfigError
rule_of (NoToml words) = rules.File
rule_of (UnknownKey key) = rules.File
rule_of (Missing key) = rules.File
rule_of (OtherType key) = rules.File
rule_of (OutOfRange key z) = key_rule key
rule_of (Odd z) = rules.RelayPorts
rule_of (PastLastPort z) = rules.RelayPorts
rule_of (RelayPort z) = rules.RelayPorts
rule_of (Malformed key text) = key_rule key
rule_of (RandomKey count) = rules.File
rule_of (UserCount count) = rules.Users
rule_of (UserTwice user) = rules.Users

-- ---- the keys

-- the first key that is unknown
abbrev pub unknown_key : Members → Option (List ℕ)
unknown_key no_members = None
unknown_key (member key value rest) = if is_known_key key then unknown_key rest else Some key

abbrev pub unknown_flaw : Option (List ℕ) → Option Flaw
unknown_flaw None = None
unknown_flaw (Some key) = Some (UnknownKey key)

-- no flaw where this holds
abbrev pub unless : Bool → Flaw → Option Flaw
unless holds flaw = if holds then None else Some flaw

-- from the least to the most
abbrev pub is_within : ℕ → ℕ → Option ℕ → Bool
is_within least most None = false
is_within least most (Some n) = nat_le least n && nat_le n most

abbrev pub number_flaw : Key → ℕ → ℕ → Option ℤ → Option Flaw
number_flaw key least most None = Some (OtherType key)
number_flaw key least most (Some z) = unless (is_within least most (natural 4294967295 z)) (OutOfRange key z)

abbrev pub digits_flaw : Key → Option (List ℕ) → Option Flaw
digits_flaw key None = Some (OtherType key)
digits_flaw key (Some text) = unless (is_some (key_of text)) (RandomKey (length text))

abbrev pub level_flaw : Key → Option (List ℕ) → Option Flaw
level_flaw key None = Some (OtherType key)
level_flaw key (Some text) = unless (is_some (level_named text)) (Malformed key text)

abbrev pub page_flaw : Key → Bool → Option (List ℕ) → Option Flaw
page_flaw key is_open None = Some (OtherType key)
page_flaw key is_open (Some text) = unless (is_some (page_at is_open text)) (Malformed key text)

abbrev pub are_texts : Items → Bool
are_texts no_items = true
are_texts (item value rest) = is_some (as_str value) && are_texts rest

abbrev pub texts_flaw : Key → Option Items → Option Flaw
texts_flaw key None = Some (OtherType key)
texts_flaw key (Some items) = unless (are_texts items) (OtherType key)

-- what is wrong with a value by itself
abbrev pub value_flaw : Key → Bool → Kind → Data → Option Flaw
value_flaw key is_open (Whole rule) value = unless (is_some (as_integer value)) (OtherType key)
value_flaw key is_open (Between measure least most) value = number_flaw key least most (as_integer value)
value_flaw key is_open Truth value = unless (is_some (as_bool value)) (OtherType key)
value_flaw key is_open (Text rule) value = unless (is_some (as_str value)) (OtherType key)
value_flaw key is_open Digits value = digits_flaw key (as_str value)
value_flaw key is_open Level value = level_flaw key (as_str value)
value_flaw key is_open Page value = page_flaw key is_open (as_str value)
value_flaw key is_open (Texts rule) value = texts_flaw key (as_array value)

-- a value of the key's kind has to be there, or may be
abbrev pub row_flaw : Key → Row → Bool → Option Data → Option Flaw
row_flaw key row is_open None = unless (not row.is_required) (Missing key)
row_flaw key row is_open (Some value) = value_flaw key is_open row.kind value

abbrev pub key_flaw : Members → Key → Option Flaw
key_flaw ms key = row_flaw key (row_of key) (flag_at keys.StatusOpen ms) (value_at key ms)

-- the first flaw of these keys
abbrev pub first_flaw : Members → List Key → Option Flaw
first_flaw ms [] = None
first_flaw ms (key ∷ rest) = option_or (key_flaw ms key) (first_flaw ms rest)

-- the first flaw for which a table is no configuration
unfoldable pub said_flaw : Members → Option Flaw
said_flaw ms = option_or (unknown_flaw (unknown_key ms)) (first_flaw ms all_keys)

-- ---- the rules

unfoldable pub relay_flaw : Config → Option Flaw
relay_flaw c =
    if c.relay_first % 2 == 0
    then (if nat_le min_relay_port c.relay_first
    then (if nat_le 1 c.relay_pairs && nat_le c.relay_pairs max_relay_pairs
    then (if has_room_for_ports c
    then (if is_relay_port c c.sip_port then Some (RelayPort (pos c.sip_port)) else None)
    else Some (PastLastPort (pos c.relay_pairs)))
    else Some (OutOfRange keys.RelayPairs (pos c.relay_pairs)))
    else Some (OutOfRange keys.RelayFirst (pos c.relay_first)))
    else Some (Odd (pos c.relay_first))

unfoldable pub address_flaw : Config → Option Flaw
address_flaw c =
    if is_server_address c.ip
    then (if c.sip_port == 0 then Some (OutOfRange keys.SipPort (pos c.sip_port)) else None)
    else Some (Malformed keys.Ip [])

-- the first user that is malformed
abbrev pub malformed_user : List (List ℕ) → Option Flaw
malformed_user [] = None
malformed_user (u ∷ us) = if is_user u then malformed_user us else Some (Malformed keys.Users u)

-- the first user that occurs again later
abbrev pub user_twice : List (List ℕ) → Option Flaw
user_twice [] = None
user_twice (u ∷ us) = if list_any (λ v. pointwise nat_eq v u) us then Some (UserTwice u) else user_twice us

unfoldable pub users_flaw : Config → Option Flaw
users_flaw c =
    if nat_le 1 (length c.users) && nat_le (length c.users) max_users
    then option_or (malformed_user c.users) (user_twice c.users)
    else Some (UserCount (length c.users))

unfoldable pub lifetime_flaw : Config → Option Flaw
lifetime_flaw c =
    if has_lifetime c
    then (if has_longest_lifetime c then None else Some (OutOfRange keys.MaxExpires (pos (unwrap_or c.max_expires 0))))
    else Some (OutOfRange keys.MinExpires (pos c.min_expires))

unfoldable pub domain_flaw : Config → Option Flaw
domain_flaw c = if has_domain c then None else Some (Malformed keys.Domain (unwrap_or c.domain []))

unfoldable pub duration_flaw : Config → Option Flaw
duration_flaw c =
    if has_silence_limit c
    then (if has_length_limit c then None else Some (OutOfRange keys.LongestCallHours (pos (unwrap_or c.longest_call_hours 0))))
    else Some (OutOfRange keys.SilentMinutes (pos (unwrap_or c.silent_minutes 0)))

unfoldable pub share_flaw : Config → Option Flaw
share_flaw c = if has_share c then None else Some (OutOfRange keys.SourceShare (pos (unwrap_or c.source_share 0)))

-- the first flaw for which a configuration breaks a rule
unfoldable pub rules_flaw : Config → Option Flaw
rules_flaw c =
    option_or (relay_flaw c) (option_or (address_flaw c) (option_or (users_flaw c) (option_or (lifetime_flaw c)
    (option_or (domain_flaw c) (option_or (duration_flaw c) (share_flaw c))))))

-- ---- both

-- the flaw with the number or the text that the file has: one that doesn't fit its field reads as 0
abbrev pub in_file : Members → Flaw → Flaw
in_file ms (NoToml words) = NoToml words
in_file ms (UnknownKey key) = UnknownKey key
in_file ms (Missing key) = Missing key
in_file ms (OtherType key) = OtherType key
in_file ms (OutOfRange key z) = OutOfRange key (said_number key ms)
in_file ms (Odd z) = Odd z
in_file ms (PastLastPort z) = PastLastPort z
in_file ms (RelayPort z) = RelayPort z
in_file ms (Malformed key text) = Malformed key (unwrap_or (text_at key ms) text)
in_file ms (RandomKey count) = RandomKey count
in_file ms (UserCount count) = UserCount count
in_file ms (UserTwice user) = UserTwice user

-- the first flaw for which the configuration in a table breaks a rule
abbrev pub broken_in : Members → Config → Option Flaw
broken_in ms c = option_map (in_file ms) (rules_flaw c)

-- the first flaw of a table
abbrev pub flaw_in : Members → Option Flaw
flaw_in ms = option_or (said_flaw ms) (broken_in ms (config_in ms))

abbrev pub config_without : Option Flaw → Config → Option Config
config_without None c = Some c
config_without (Some flaw) c = None

-- the configuration in a table, whether or not it keeps the rules: none if a key is unknown or missing, or has a wrong
-- value
abbrev pub config_of : Members → Option Config
config_of ms = config_without (said_flaw ms) (config_in ms)
