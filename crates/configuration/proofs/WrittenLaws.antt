-- A configuration that keeps the rules is what its table says, key by key.
use Rattle.std.proofs.Common.{◌≡◌, ◌≤◌, ℕ, ℤ, pos, negsuc, Bool, true, false, cond, leb, List, [], ◌∷◌, Option, Some, None, option_map, unwrap_or, Result, Ok, Err, IfOk, IfSome, refl, sym, ap, subst, arith}
use Rattle.std.specs.Prelude.{option_and_then}
use Rattle.toml.specs.Data.{Members}
use Rattle.sip_uri.specs.Hosts.{ip4_of}
use Rattle.configuration.specs.declared.config.Config.{Config}
use Rattle.configuration.specs.declared.error.ConfigError.{ConfigError}
use Rattle.configuration.specs.declared.flaw.Flaw.{Flaw}
use Rattle.configuration.specs.declared.key.Key.TheVariants as keys
use Rattle.configuration.specs.Limits.{max_silent_minutes, max_longest_call_hours, max_source_share}
use Rattle.configuration.specs.Rules.{is_server_address, KeepsRules}
use Rattle.configuration.specs.Files.{number_at, fitting, number_of, text_at, seconds_at, limit_at, config_in}
use Rattle.configuration.specs.Flaws.{said_flaw, config_without, config_of}
use Rattle.configuration.specs.Reading.{ReadsConfig, IsWritten, IsWrittenIn}
use Rattle.configuration.proofs.RuleLaws.{kept}

-- a number that is not read as 0 fits its field
fitting_is : (most : ℕ) (z : ℤ) → 1 ≤ fitting most z → z ≡ pos (fitting most z)
fitting_is most (pos n) h = step (leb n most) h where
  step : (b : Bool) → 1 ≤ unwrap_or (cond b (Some n) None) 0 → pos n ≡ pos (unwrap_or (cond b (Some n) None) 0)
  step true h = refl
  step false h = absurd (omega arith)
fitting_is most (negsuc n) h = absurd (omega arith)

-- a number that is not read as 0 is there, and fits its field
number_is : (most : ℕ) (o : Option ℤ) → 1 ≤ fitting most (unwrap_or o (pos 0)) → o ≡ Some (pos (fitting most (unwrap_or o (pos 0))))
number_is most (Some z) h = ap Some (fitting_is most z h)
number_is most None h = absurd (zero most h) where
  zero : (most : ℕ) → 1 ≤ fitting most (pos 0) → ⊥
  zero most h = step (leb 0 most) h where
    step : (b : Bool) → 1 ≤ unwrap_or (cond b (Some 0) None) 0 → ⊥
    step true h = omega arith
    step false h = omega arith

-- so is one that may be missing
limit_is : (o : Option ℤ) → IfSome (option_map number_of o) (λ m. 1 ≤ m) → o ≡ option_map pos (option_map number_of o)
limit_is None h = refl
limit_is (Some z) h = ap Some (fitting_is 4294967295 z h)

-- a text that is not read as 0.0.0.0 is there, and is an address
octets_are : (o : Option (List ℕ)) → is_server_address (unwrap_or (option_and_then ip4_of o) (0 ∷ 0 ∷ 0 ∷ 0 ∷ [])) ≡ true
    → (text : List ℕ) × (o ≡ Some text) × (ip4_of text ≡ Some (unwrap_or (option_and_then ip4_of o) (0 ∷ 0 ∷ 0 ∷ 0 ∷ [])))
octets_are None h = absurd cc
octets_are (Some text) h = (text, refl, step (ip4_of text) h) where
  step : (r : Option (List ℕ)) → is_server_address (unwrap_or r (0 ∷ 0 ∷ 0 ∷ 0 ∷ [])) ≡ true → r ≡ Some (unwrap_or r (0 ∷ 0 ∷ 0 ∷ 0 ∷ []))
  step None h = absurd cc
  step (Some os) h = refl

-- one that is no less than the least is no less than 1
some_above : (least : ℕ) (o : Option ℕ) → 1 ≤ least → IfSome o (λ m. least ≤ m) → IfSome o (λ m. 1 ≤ m)
some_above least None some h = tt
some_above least (Some m) some h = omega (arith, some, h)

some_upto : (most : ℕ) (o : Option ℕ) → IfSome o (λ m. (1 ≤ m) × (m ≤ most)) → IfSome o (λ m. 1 ≤ m)
some_upto most None h = tt
some_upto most (Some m) h = h.0

written : (ms : Members) → KeepsRules (config_in ms) → IsWritten ms (config_in ms)
unfolding config_in
written ms keeps = record {
  relay_first = number_is 65535 (number_at keys.RelayFirst ms) (omega (arith, keeps.least));
  relay_pairs = number_is 65535 (number_at keys.RelayPairs ms) keeps.some_pairs;
  sip_port = number_is 65535 (number_at keys.SipPort ms) keeps.port;
  min_expires = number_is 4294967295 (number_at keys.MinExpires ms) keeps.least_lifetime;
  max_expires = limit_is (number_at keys.MaxExpires ms) (some_above (seconds_at keys.MinExpires ms) (limit_at keys.MaxExpires ms) keeps.least_lifetime keeps.longest_lifetime);
  silent_minutes = limit_is (number_at keys.SilentMinutes ms) (some_upto max_silent_minutes (limit_at keys.SilentMinutes ms) keeps.silent_minutes);
  longest_call_hours = limit_is (number_at keys.LongestCallHours ms) (some_upto max_longest_call_hours (limit_at keys.LongestCallHours ms) keeps.longest_call_hours);
  source_share = limit_is (number_at keys.SourceShare ms) (some_upto max_source_share (limit_at keys.SourceShare ms) keeps.source_share);
  ip = octets_are (text_at keys.Ip ms) keeps.address;
}

by_table : (ms : Members) (c : Config) → config_of ms ≡ Some c → KeepsRules c → IsWritten ms c
by_table ms c h keeps = step (said_flaw ms) h where
  step : (f : Option Flaw) → config_without f (config_in ms) ≡ Some c → IsWritten ms c
  step None h =
      let same : config_in ms ≡ c = cc in
      subst (λ (d : Config). IsWritten ms d) same (written ms (subst (λ (d : Config). KeepsRules d) (sym same) keeps))
  step (Some f) h = absurd cc

pub written_at : (bytes : List ℕ) (r : Result Config ConfigError) → IfOk r (λ c. ReadsConfig bytes c) → IfOk r (λ c. IsWrittenIn bytes c)
written_at bytes (Ok c) found = let says = found.says in (says.0, says.1, by_table says.0 c says.2 (kept c found.rules))
written_at bytes (Err e) found = tt
