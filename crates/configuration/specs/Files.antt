-- The configuration that a table of TOML has, key by key.
use Rattle.std.specs.Prelude.{ℕ, ℤ, pos, negsuc, Bool, false, nat_le, List, [], ◌∷◌, codes, replicate, Option, Some, None, option_map, option_and_then, unwrap_or, if◌then◌else◌}
use Rattle.std.specs.Result.{result_ok}
use Rattle.toml.specs.Data.{Data, Items, no_items, item, Members, as_integer, as_bool, as_str, as_array, get_member}
use Rattle.hex.specs.Hex.{decode_sized}
use Rattle.sip_uri.specs.Hosts.{ip4_of}
use Rattle.sip_uri.specs.declared.uri.Addr.{Addr}
use Rattle.configuration.specs.Limits.{max_answer_within, usual_workers}
use Rattle.configuration.specs.Keys.{is_same, key_name}
use Rattle.configuration.specs.Ranges.{expanded}
use Rattle.configuration.specs.Status.{page_at}
use Rattle.configuration.specs.declared.config.Config.{Config}
use Rattle.configuration.specs.declared.key.Key.{Key}
use Rattle.configuration.specs.declared.key.Key.TheVariants as keys
use Rattle.configuration.specs.declared.level.LogLevel.{LogLevel}
use Rattle.configuration.specs.declared.level.LogLevel.TheVariants as levels

-- ---- the value of a key, if there is one of this type

abbrev pub value_at : Key → Members → Option Data
value_at key ms = get_member (key_name key) ms

abbrev pub number_at : Key → Members → Option ℤ
number_at key ms = option_and_then as_integer (value_at key ms)

abbrev pub text_at : Key → Members → Option (List ℕ)
text_at key ms = option_and_then as_str (value_at key ms)

abbrev pub array_at : Key → Members → Option Items
array_at key ms = option_and_then as_array (value_at key ms)

-- whether the value is true
abbrev pub flag_at : Key → Members → Bool
flag_at key ms = unwrap_or (option_and_then as_bool (value_at key ms)) false

-- ---- whole numbers

-- a whole number from 0 to the most
abbrev pub natural : ℕ → ℤ → Option ℕ
natural most (pos n) = if nat_le n most then Some n else None
natural most (negsuc n) = None

-- the number, if it fits its field; any other reads as 0, which the rule of its key refuses as it refuses the number
abbrev pub fitting : ℕ → ℤ → ℕ
fitting most z = unwrap_or (natural most z) 0

abbrev pub port_of : ℤ → ℕ
port_of z = fitting 65535 z

-- seconds, minutes, hours or transactions
abbrev pub number_of : ℤ → ℕ
number_of z = fitting 4294967295 z

-- the number that has to be there
abbrev pub said_number : Key → Members → ℤ
said_number key ms = unwrap_or (number_at key ms) (pos 0)

abbrev pub port_at : Key → Members → ℕ
port_at key ms = port_of (said_number key ms)

abbrev pub seconds_at : Key → Members → ℕ
seconds_at key ms = number_of (said_number key ms)

-- a number that may be missing
abbrev pub limit_at : Key → Members → Option ℕ
limit_at key ms = option_map number_of (number_at key ms)

-- a number below 256, and the usual one where the key is missing
abbrev pub small_at : Key → ℕ → Members → ℕ
small_at key usual ms = unwrap_or (option_and_then (natural 255) (number_at key ms)) usual

-- ---- texts

-- the octets of an address in dotted form; any other text reads as 0.0.0.0, which the rule of addresses refuses as it
-- refuses the text
abbrev pub ip_at : Members → List ℕ
ip_at ms = unwrap_or (option_and_then ip4_of (text_at keys.Ip ms)) (0 ∷ 0 ∷ 0 ∷ 0 ∷ [])

-- 64 hexadecimal digits of either case
abbrev pub key_of : List ℕ → Option (List ℕ)
key_of text = result_ok (decode_sized text 32)

abbrev pub random_key_at : Members → List ℕ
random_key_at ms = unwrap_or (option_and_then key_of (text_at keys.RandomKey ms)) (replicate 32 0)

abbrev pub text_in : Data → List ℕ
text_in value = unwrap_or (as_str value) []

abbrev pub texts_in : Items → List (List ℕ)
texts_in no_items = []
texts_in (item value rest) = text_in value ∷ texts_in rest

-- the names that the texts of a list mean
abbrev pub users_in : Option Items → List (List ℕ)
users_in None = []
users_in (Some items) = expanded (texts_in items)

-- how much is logged
abbrev pub level_named : List ℕ → Option LogLevel
level_named word =
    if is_same word (codes "none") then Some levels.Nothing
    else if is_same word (codes "trouble") then Some levels.Trouble
    else if is_same word (codes "calls") then Some levels.Calls
    else if is_same word (codes "all") then Some levels.All
    else None

abbrev pub log_at : Members → LogLevel
log_at ms = unwrap_or (option_and_then level_named (text_at keys.Log ms)) levels.Calls

-- the page's address: a loopback address, or any address if the page is open
abbrev pub status_at : Members → Option Addr
status_at ms = option_and_then (page_at (flag_at keys.StatusOpen ms)) (text_at keys.Status ms)

-- ---- all of them

-- the configuration in a table none of whose keys is at fault, whether or not it keeps the rules
unfoldable pub config_in : Members → Config
config_in ms = record {
  relay_first = port_at keys.RelayFirst ms;
  relay_pairs = port_at keys.RelayPairs ms;
  ip = ip_at ms;
  sip_port = port_at keys.SipPort ms;
  users = users_in (array_at keys.Users ms);
  min_expires = seconds_at keys.MinExpires ms;
  max_expires = limit_at keys.MaxExpires ms;
  oldest_leaves = flag_at keys.OldestLeaves ms;
  silent_minutes = limit_at keys.SilentMinutes ms;
  longest_call_hours = limit_at keys.LongestCallHours ms;
  source_share = limit_at keys.SourceShare ms;
  domain = text_at keys.Domain ms;
  workers = small_at keys.Workers usual_workers ms;
  random_key = random_key_at ms;
  log = log_at ms;
  answer_within = small_at keys.AnswerWithin max_answer_within ms;
  status = status_at ms;
}
