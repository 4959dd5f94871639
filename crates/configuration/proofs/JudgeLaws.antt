-- A table has a flaw exactly if it is refused, and by the flaw's rule.
use Rattle.std.proofs.Common.{◌≡◌, ℕ, ℤ, pos, Bool, true, false, not, ◌&&◌, cond, List, [], ◌∷◌, Option, Some, None, option_map, unwrap_or, inl, inr, refl, sym, ap, ap₂, ◌∙◌}
use Rattle.std.specs.Prelude.{◌⊎◌, is_some, nat_eq, nat_le, ◌==◌, ◌%◌, length}
use Rattle.std.specs.Option.{option_or}
use Rattle.std.specs.List.{list_all, list_any}
use Rattle.std.specs.Cmp.Lexicographic.{pointwise}
use Rattle.toml.specs.Data.{Data, Items, Members, as_integer, as_bool, as_str, as_array}
use Rattle.registrar.specs.Registering.{are_distinct}
use Rattle.registrar.specs.Limits.{max_users}
use Rattle.configuration.specs.Limits.{min_relay_port, max_relay_pairs}
use Rattle.configuration.specs.Names.{is_user}
use Rattle.configuration.specs.declared.config.Config.{Config}
use Rattle.configuration.specs.declared.error.ConfigError.{ConfigError}
use Rattle.configuration.specs.declared.error.ConfigError.TheVariants as rules
use Rattle.configuration.specs.declared.key.Key.{Key}
use Rattle.configuration.specs.declared.key.Key.TheVariants as keys
use Rattle.configuration.specs.declared.key.Kind.{Kind}
use Rattle.configuration.specs.declared.key.Kind.TheVariants.{Whole, Between, Truth, Text, Digits, Level, Page, Texts}
use Rattle.configuration.specs.declared.flaw.Flaw.{Flaw}
use Rattle.configuration.specs.declared.flaw.Flaw.TheVariants.{NoToml, UnknownKey, Missing, OtherType, OutOfRange, Odd, PastLastPort, RelayPort, Malformed, RandomKey, UserCount, UserTwice}
use Rattle.configuration.specs.Rules.{has_room_for_ports, is_relay_port, is_server_address, has_relay_ports, has_address, is_user_list, has_users, has_lifetime, has_longest_lifetime, has_domain, has_silence_limit, has_length_limit, has_share, first_broken}
use Rattle.configuration.specs.Keys.{row_of, all_keys, kind_rule}
use Rattle.configuration.specs.Files.{natural, value_at, flag_at, key_of, level_named, config_in}
use Rattle.configuration.specs.Status.{page_at}
use Rattle.configuration.specs.Flaws.{rule_of, unknown_key, unknown_flaw, unless, is_within, number_flaw, digits_flaw, level_flaw, page_flaw, are_texts, texts_flaw, value_flaw, row_flaw, key_flaw, first_flaw, said_flaw, relay_flaw, address_flaw, malformed_user, user_twice, users_flaw, lifetime_flaw, domain_flaw, duration_flaw, share_flaw, rules_flaw, in_file, broken_in, flaw_in, config_without, config_of}

-- ---- a flaw of a key is one of the file

-- if there is a flaw, it is of this rule
abbrev pub IsOfFile : Option Flaw → Type 0
IsOfFile None = Unit {0}
IsOfFile (Some flaw) = rule_of flaw ≡ rules.File

of_file_or : (f g : Option Flaw) → IsOfFile f → IsOfFile g → IsOfFile (option_or f g)
of_file_or None g h i = i
of_file_or (Some flaw) g h i = h

of_file_unless : (holds : Bool) (flaw : Flaw) → rule_of flaw ≡ rules.File → IsOfFile (unless holds flaw)
of_file_unless true flaw h = tt
of_file_unless false flaw h = h

number_of_file : (key : Key) (least most : ℕ) (z : Option ℤ) → kind_rule (row_of key).kind ≡ rules.File → IsOfFile (number_flaw key least most z)
number_of_file key least most None h = refl
number_of_file key least most (Some z) h = of_file_unless (is_within least most (natural 4294967295 z)) (OutOfRange key z) h

digits_of_file : (key : Key) (text : Option (List ℕ)) → IsOfFile (digits_flaw key text)
digits_of_file key None = refl
digits_of_file key (Some text) = of_file_unless (is_some (key_of text)) (RandomKey (length text)) refl

level_of_file : (key : Key) (text : Option (List ℕ)) → kind_rule (row_of key).kind ≡ rules.File → IsOfFile (level_flaw key text)
level_of_file key None h = refl
level_of_file key (Some text) h = of_file_unless (is_some (level_named text)) (Malformed key text) h

page_of_file : (key : Key) (is_open : Bool) (text : Option (List ℕ)) → kind_rule (row_of key).kind ≡ rules.File → IsOfFile (page_flaw key is_open text)
page_of_file key is_open None h = refl
page_of_file key is_open (Some text) h = of_file_unless (is_some (page_at is_open text)) (Malformed key text) h

texts_of_file : (key : Key) (items : Option Items) → IsOfFile (texts_flaw key items)
texts_of_file key None = refl
texts_of_file key (Some items) = of_file_unless (are_texts items) (OtherType key) refl

value_of_file : (key : Key) (is_open : Bool) (kind : Kind) (value : Data) → (row_of key).kind ≡ kind → IsOfFile (value_flaw key is_open kind value)
value_of_file key is_open (Whole rule) value h = of_file_unless (is_some (as_integer value)) (OtherType key) refl
value_of_file key is_open (Between measure least most) value h = number_of_file key least most (as_integer value) (ap kind_rule h)
value_of_file key is_open Truth value h = of_file_unless (is_some (as_bool value)) (OtherType key) refl
value_of_file key is_open (Text rule) value h = of_file_unless (is_some (as_str value)) (OtherType key) refl
value_of_file key is_open Digits value h = digits_of_file key (as_str value)
value_of_file key is_open Level value h = level_of_file key (as_str value) (ap kind_rule h)
value_of_file key is_open Page value h = page_of_file key is_open (as_str value) (ap kind_rule h)
value_of_file key is_open (Texts rule) value h = texts_of_file key (as_array value)

key_of_file : (ms : Members) (key : Key) → IsOfFile (key_flaw ms key)
key_of_file ms key = step (value_at key ms) where
  step : (value : Option Data) → IsOfFile (row_flaw key (row_of key) (flag_at keys.StatusOpen ms) value)
  step None = of_file_unless (not (row_of key).is_required) (Missing key) refl
  step (Some value) = value_of_file key (flag_at keys.StatusOpen ms) (row_of key).kind value refl

first_of_file : (ms : Members) (some : List Key) → IsOfFile (first_flaw ms some)
first_of_file ms [] = tt
first_of_file ms (key ∷ rest) = of_file_or (key_flaw ms key) (first_flaw ms rest) (key_of_file ms key) (first_of_file ms rest)

unknown_of_file : (key : Option (List ℕ)) → IsOfFile (unknown_flaw key)
unknown_of_file None = tt
unknown_of_file (Some key) = refl

said_of_file : (ms : Members) → IsOfFile (said_flaw ms)
unfolding said_flaw
said_of_file ms = of_file_or (unknown_flaw (unknown_key ms)) (first_flaw ms all_keys) (unknown_of_file (unknown_key ms)) (first_of_file ms all_keys)

-- ---- the rules

map_or : (f g : Option Flaw) → option_map rule_of (option_or f g) ≡ option_or (option_map rule_of f) (option_map rule_of g)
map_or None g = refl
map_or (Some f) g = refl

-- no rule is broken if this holds
abbrev broken_unless : Bool → ConfigError → Option ConfigError
broken_unless b e = cond b None (Some e)

relay : (c : Config) → option_map rule_of (relay_flaw c) ≡ broken_unless (has_relay_ports c) rules.RelayPorts
unfolding relay_flaw has_relay_ports
relay c = parts (c.relay_first % 2 == 0) (nat_le min_relay_port c.relay_first) (nat_le 1 c.relay_pairs) (nat_le c.relay_pairs max_relay_pairs) (has_room_for_ports c) (is_relay_port c c.sip_port) where
  parts : (a b d e f g : Bool)
      → option_map rule_of (cond a (cond b (cond (d && e) (cond f (cond g (Some (RelayPort (pos c.sip_port))) None) (Some (PastLastPort (pos c.relay_pairs))))
      (Some (OutOfRange keys.RelayPairs (pos c.relay_pairs)))) (Some (OutOfRange keys.RelayFirst (pos c.relay_first)))) (Some (Odd (pos c.relay_first))))
      ≡ broken_unless (a && b && d && e && f && not g) rules.RelayPorts
  parts true true true true true true = refl
  parts true true true true true false = refl
  parts true true true true false g = refl
  parts true true true false f g = refl
  parts true true false e f g = refl
  parts true false d e f g = refl
  parts false b d e f g = refl

address : (c : Config) → option_map rule_of (address_flaw c) ≡ broken_unless (has_address c) rules.Address
unfolding address_flaw has_address
address c = parts (is_server_address c.ip) (c.sip_port == 0) where
  parts : (a b : Bool)
      → option_map rule_of (cond a (cond b (Some (OutOfRange keys.SipPort (pos c.sip_port))) None) (Some (Malformed keys.Ip [])))
      ≡ broken_unless (a && not b) rules.Address
  parts true true = refl
  parts true false = refl
  parts false b = refl

formed : (us : List (List ℕ)) → option_map rule_of (malformed_user us) ≡ broken_unless (list_all is_user us) rules.Users
formed [] = refl
formed (u ∷ us) = step (is_user u) (formed us) where
  step : (b : Bool) → option_map rule_of (malformed_user us) ≡ broken_unless (list_all is_user us) rules.Users
      → option_map rule_of (cond b (malformed_user us) (Some (Malformed keys.Users u))) ≡ broken_unless (b && list_all is_user us) rules.Users
  step true below = below
  step false below = refl

once : (us : List (List ℕ)) → option_map rule_of (user_twice us) ≡ broken_unless (are_distinct us) rules.Users
once [] = refl
once (u ∷ us) = step (list_any (λ v. pointwise nat_eq v u) us) (once us) where
  step : (b : Bool) → option_map rule_of (user_twice us) ≡ broken_unless (are_distinct us) rules.Users
      → option_map rule_of (cond b (Some (UserTwice u)) (user_twice us)) ≡ broken_unless (not b && are_distinct us) rules.Users
  step true below = refl
  step false below = below

users : (c : Config) → option_map rule_of (users_flaw c) ≡ broken_unless (has_users c) rules.Users
unfolding users_flaw has_users is_user_list
users c = parts (nat_le 1 (length c.users)) (nat_le (length c.users) max_users) where
  both : (a b : Bool) → option_or (broken_unless a rules.Users) (broken_unless b rules.Users) ≡ broken_unless (a && b) rules.Users
  both true b = refl
  both false b = refl

  parts : (a b : Bool)
      → option_map rule_of (cond (a && b) (option_or (malformed_user c.users) (user_twice c.users)) (Some (UserCount (length c.users))))
      ≡ broken_unless (a && b && list_all is_user c.users && are_distinct c.users) rules.Users
  parts true true = map_or (malformed_user c.users) (user_twice c.users) ∙ ap₂ option_or (formed c.users) (once c.users) ∙ both (list_all is_user c.users) (are_distinct c.users)
  parts true false = refl
  parts false b = refl

lifetime : (c : Config) → option_map rule_of (lifetime_flaw c) ≡ broken_unless (has_lifetime c && has_longest_lifetime c) rules.MinExpires
unfolding lifetime_flaw
lifetime c = parts (has_lifetime c) (has_longest_lifetime c) where
  parts : (a b : Bool)
      → option_map rule_of (cond a (cond b None (Some (OutOfRange keys.MaxExpires (pos (unwrap_or c.max_expires 0))))) (Some (OutOfRange keys.MinExpires (pos c.min_expires))))
      ≡ broken_unless (a && b) rules.MinExpires
  parts true true = refl
  parts true false = refl
  parts false b = refl

domain : (c : Config) → option_map rule_of (domain_flaw c) ≡ broken_unless (has_domain c) rules.Domain
unfolding domain_flaw
domain c = parts (has_domain c) where
  parts : (a : Bool) → option_map rule_of (cond a None (Some (Malformed keys.Domain (unwrap_or c.domain [])))) ≡ broken_unless a rules.Domain
  parts true = refl
  parts false = refl

duration_rule : (c : Config) → option_map rule_of (duration_flaw c) ≡ broken_unless (has_silence_limit c && has_length_limit c) rules.CallDuration
unfolding duration_flaw
duration_rule c = parts (has_silence_limit c) (has_length_limit c) where
  parts : (a b : Bool)
      → option_map rule_of (cond a (cond b None (Some (OutOfRange keys.LongestCallHours (pos (unwrap_or c.longest_call_hours 0))))) (Some (OutOfRange keys.SilentMinutes (pos (unwrap_or c.silent_minutes 0)))))
      ≡ broken_unless (a && b) rules.CallDuration
  parts true true = refl
  parts true false = refl
  parts false b = refl

share_rule : (c : Config) → option_map rule_of (share_flaw c) ≡ broken_unless (has_share c) rules.SourceShare
unfolding share_flaw
share_rule c = parts (has_share c) where
  parts : (a : Bool) → option_map rule_of (cond a None (Some (OutOfRange keys.SourceShare (pos (unwrap_or c.source_share 0))))) ≡ broken_unless a rules.SourceShare
  parts true = refl
  parts false = refl

pub rules_agree : (c : Config) → option_map rule_of (rules_flaw c) ≡ first_broken c
unfolding rules_flaw first_broken
rules_agree c =
    map_or (relay_flaw c) _ ∙ ap₂ option_or (relay c)
    (map_or (address_flaw c) _ ∙ ap₂ option_or (address c)
    (map_or (users_flaw c) _ ∙ ap₂ option_or (users c)
    (map_or (lifetime_flaw c) _ ∙ ap₂ option_or (lifetime c)
    (map_or (domain_flaw c) _ ∙ ap₂ option_or (domain c)
    (map_or (duration_flaw c) (share_flaw c) ∙ ap₂ option_or (duration_rule c) (share_rule c))))))
    ∙ first (has_relay_ports c) (has_address c) (has_users c) (has_lifetime c && has_longest_lifetime c) (has_domain c) (has_silence_limit c && has_length_limit c) (has_share c) where
      first : (a b d e f g h : Bool)
          → option_or (broken_unless a rules.RelayPorts) (option_or (broken_unless b rules.Address) (option_or (broken_unless d rules.Users) (option_or (broken_unless e rules.MinExpires)
          (option_or (broken_unless f rules.Domain) (option_or (broken_unless g rules.CallDuration) (broken_unless h rules.SourceShare))))))
          ≡ cond a (cond b (cond d (cond e (cond f (cond g (cond h None (Some rules.SourceShare)) (Some rules.CallDuration)) (Some rules.Domain)) (Some rules.MinExpires)) (Some rules.Users)) (Some rules.Address)) (Some rules.RelayPorts)
      first true true true true true true true = refl
      first true true true true true true false = refl
      first true true true true true false h = refl
      first true true true true false g h = refl
      first true true true false f g h = refl
      first true true false e f g h = refl
      first true false d e f g h = refl
      first false b d e f g h = refl

pub keeps : (c : Config) → rules_flaw c ≡ None → first_broken c ≡ None
keeps c h = sym (rules_agree c) ∙ ap (option_map rule_of) h

pub breaks : (c : Config) (flaw : Flaw) → rules_flaw c ≡ Some flaw → first_broken c ≡ Some (rule_of flaw)
breaks c flaw h = sym (rules_agree c) ∙ ap (option_map rule_of) h

-- the rule doesn't depend on what the file has
same_rule : (ms : Members) (flaw : Flaw) → rule_of (in_file ms flaw) ≡ rule_of flaw
same_rule ms (NoToml words) = refl
same_rule ms (UnknownKey key) = refl
same_rule ms (Missing key) = refl
same_rule ms (OtherType key) = refl
same_rule ms (OutOfRange key z) = refl
same_rule ms (Odd z) = refl
same_rule ms (PastLastPort z) = refl
same_rule ms (RelayPort z) = refl
same_rule ms (Malformed key text) = refl
same_rule ms (RandomKey count) = refl
same_rule ms (UserCount count) = refl
same_rule ms (UserTwice user) = refl

-- ---- both

pub first_told : (ms : Members) (flaw : Flaw) → said_flaw ms ≡ Some flaw → flaw_in ms ≡ Some flaw
first_told ms flaw h = ap (λ (f : Option Flaw). option_or f (broken_in ms (config_in ms))) h

pub then_told : (ms : Members) (c : Config) (f : Option Flaw) → said_flaw ms ≡ None → c ≡ config_in ms → f ≡ broken_in ms c → flaw_in ms ≡ f
then_told ms c f none is broken =
    ap (λ (g : Option Flaw). option_or g (broken_in ms (config_in ms))) none ∙ sym (broken ∙ ap (λ (d : Config). broken_in ms d) is)

some_is : {X : Type 0} (x y : X) → Some x ≡ Some y → x ≡ y
some_is x y h = cc

-- a table without a flaw says a configuration that keeps the rules
pub flawless : (ms : Members) → flaw_in ms ≡ None → (config_of ms ≡ Some (config_in ms)) × (first_broken (config_in ms) ≡ None)
flawless ms h = step (said_flaw ms) (rules_flaw (config_in ms)) (keeps (config_in ms)) h where
  step : (f g : Option Flaw) → (g ≡ None → first_broken (config_in ms) ≡ None) → option_or f (option_map (in_file ms) g) ≡ None
      → (config_without f (config_in ms) ≡ Some (config_in ms)) × (first_broken (config_in ms) ≡ None)
  step None None keeps h = (refl, keeps refl)
  step None (Some g) keeps h = absurd cc
  step (Some f) g keeps h = absurd cc

-- a table with a flaw says no configuration, or one that breaks the flaw's rule first
pub flawed : (ms : Members) (flaw : Flaw) → flaw_in ms ≡ Some flaw
    → ((config_of ms ≡ None) × (rule_of flaw ≡ rules.File)) ⊎ ((c : Config) × (config_of ms ≡ Some c) × (first_broken c ≡ Some (rule_of flaw)))
flawed ms flaw h = step (said_flaw ms) (said_of_file ms) (rules_flaw (config_in ms)) (breaks (config_in ms)) h where
  step : (f : Option Flaw) → IsOfFile f → (g : Option Flaw) → ((b : Flaw) → g ≡ Some b → first_broken (config_in ms) ≡ Some (rule_of b)) → option_or f (option_map (in_file ms) g) ≡ Some flaw
      → ((config_without f (config_in ms) ≡ None) × (rule_of flaw ≡ rules.File)) ⊎ ((c : Config) × (config_without f (config_in ms) ≡ Some c) × (first_broken c ≡ Some (rule_of flaw)))
  step None file None breaks found = absurd cc
  step None file (Some b) breaks found =
      inr (config_in ms, refl, breaks b refl ∙ ap (λ (r : ConfigError). Some r) (sym (same_rule ms b) ∙ ap rule_of (some_is (in_file ms b) flaw found)))
  step (Some f) file g breaks found = inl (refl, ap rule_of (sym (some_is f flaw found)) ∙ file)
