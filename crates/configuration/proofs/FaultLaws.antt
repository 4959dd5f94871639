-- Why a text is refused.
use Rattle.std.proofs.Common.{◌≡◌, ◌≤◌, ℕ, true, List, length, take, Option, Some, None, option_map, Result, Ok, Err, IfOk, inl, inr, refl, sym, ap, subst, ◌∙◌}
use Rattle.std.specs.Prelude.{IfSome, IfNone, ◌⊎◌}
use Rattle.std.specs.declared.alloc.AllocError.{AllocError}
use Rattle.toml.specs.Data.{Members}
use Rattle.configuration.specs.declared.config.Config.{Config}
use Rattle.configuration.specs.declared.error.ConfigError.{ConfigError}
use Rattle.configuration.specs.declared.error.ConfigError.TheVariants as rules
use Rattle.configuration.specs.declared.flaw.Flaw.{Flaw}
use Rattle.configuration.specs.declared.flaw.Flaw.TheVariants.{NoToml, UnknownKey, Missing, OtherType, OutOfRange, Odd, PastLastPort, RelayPort, Malformed, RandomKey, UserCount, UserTwice}
use Rattle.configuration.specs.declared.fault.ConfigFault.{ConfigFault}
use Rattle.configuration.specs.Rules.{first_broken}
use Rattle.configuration.specs.Flaws.{rule_of, flaw_in, config_of}
use Rattle.configuration.specs.Files.{config_in}
use Rattle.configuration.specs.Reading.{IsTextOf, Says, ReadsConfig, Refuses}
use Rattle.configuration.specs.Lines.{line_behind}
use Rattle.configuration.specs.FaultOf.{key_of_flaw, is_no_toml, IsKeyLine, IsFaultOf}
use Rattle.configuration.proofs.ReadingLaws.{refused_by_rule}
use Rattle.configuration.proofs.JudgeLaws.{flawless, flawed}

some_is : {X : Type 0} (x y : X) → Some x ≡ Some y → x ≡ y
some_is x y h = cc

-- a text whose table is no configuration is none
says_none : (bytes : List ℕ) (ms : Members) → IsTextOf bytes ms → config_of ms ≡ None → (c : Config) → ¬ (Says bytes c)
says_none bytes ms text none c (ns, other, said) = clash (sym none ∙ ap config_of (some_is ms ns (sym text.1 ∙ other.1)) ∙ said) where
  clash : None ≡ Some c → ⊥
  clash h = cc

refuses_table : (bytes : List ℕ) (ms : Members) (flaw : Flaw) → IsTextOf bytes ms → flaw_in ms ≡ Some flaw → Refuses bytes (rule_of flaw)
refuses_table bytes ms flaw text first = step (flawed ms flaw first) where
  step : ((config_of ms ≡ None) × (rule_of flaw ≡ rules.File)) ⊎ ((c : Config) × (config_of ms ≡ Some c) × (first_broken c ≡ Some (rule_of flaw))) → Refuses bytes (rule_of flaw)
  step (inl (none, file)) = subst (λ (e : ConfigError). Refuses bytes e) (sym file) (says_none bytes ms text none)
  step (inr (c, says, broken)) = refused_by_rule bytes c (rule_of flaw) (ms, text, says) broken

reads_table : (bytes : List ℕ) (ms : Members) → IsTextOf bytes ms → flaw_in ms ≡ None → ReadsConfig bytes (config_in ms)
reads_table bytes ms text none = let p = flawless ms none in record { says = (ms, text, p.0); rules = p.1 }

-- of a table that is judged
pub reads_judged : (bytes : List ℕ) (ms : Members) (c : Config) → IsTextOf bytes ms → (flaw_in ms ≡ None) × (c ≡ config_in ms) → ReadsConfig bytes c
reads_judged bytes ms c text (none, is) = subst (λ (d : Config). ReadsConfig bytes d) (sym is) (reads_table bytes ms text none)

pub refuses_judged : (bytes : List ℕ) (ms : Members) (flaw : Flaw) (e : ConfigError) → IsTextOf bytes ms → flaw_in ms ≡ Some flaw → e ≡ rule_of flaw → Refuses bytes e
refuses_judged bytes ms flaw e text first is = subst (λ (r : ConfigError). Refuses bytes r) (sym is) (refuses_table bytes ms flaw text first)

-- of a text with a table
pub found_in : (bytes : List ℕ) (ms : Members) (r : Result (Option ConfigFault) AllocError) → IsTextOf bytes ms
    → IfOk r (λ fault. option_map (λ f. f.flaw) fault ≡ flaw_in ms) → IfOk r (λ fault. IfSome fault (λ f. IsKeyLine bytes (key_of_flaw f.flaw) f.line))
    → IfOk r (λ fault. IfSome fault (IsFaultOf bytes))
found_in bytes ms (Err e) text found line = tt
found_in bytes ms (Ok None) text found line = tt
found_in bytes ms (Ok (Some f)) text found line = inr (record { table = ms; text = text; first = sym found; line = line })

pub rule_in : (bytes : List ℕ) (ms : Members) (r : Result (Option ConfigFault) AllocError) → IsTextOf bytes ms
    → IfOk r (λ fault. option_map (λ f. f.flaw) fault ≡ flaw_in ms) → IfOk r (λ fault. IfSome fault (λ f. Refuses bytes (rule_of f.flaw)))
rule_in bytes ms (Err e) text found = tt
rule_in bytes ms (Ok None) text found = tt
rule_in bytes ms (Ok (Some f)) text found = refuses_table bytes ms f.flaw text (sym found)

pub none_in : (bytes : List ℕ) (ms : Members) (r : Result (Option ConfigFault) AllocError) → IsTextOf bytes ms
    → IfOk r (λ fault. option_map (λ f. f.flaw) fault ≡ flaw_in ms) → IfOk r (λ fault. IfNone fault ((c : Config) × ReadsConfig bytes c))
none_in bytes ms (Err e) text found = tt
none_in bytes ms (Ok (Some f)) text found = tt
none_in bytes ms (Ok None) text found = (config_in ms, reads_table bytes ms text (sym found))

-- of a text without one
no_toml_rule : (flaw : Flaw) → is_no_toml flaw ≡ true → rule_of flaw ≡ rules.File
no_toml_rule (NoToml words) h = refl
no_toml_rule (UnknownKey key) h = refl
no_toml_rule (Missing key) h = refl
no_toml_rule (OtherType key) h = refl
no_toml_rule (OutOfRange key z) h = absurd cc
no_toml_rule (Odd z) h = absurd cc
no_toml_rule (PastLastPort z) h = absurd cc
no_toml_rule (RelayPort z) h = absurd cc
no_toml_rule (Malformed key text) h = absurd cc
no_toml_rule (RandomKey count) h = refl
no_toml_rule (UserCount count) h = absurd cc
no_toml_rule (UserTwice user) h = absurd cc

pub no_table_found : (bytes : List ℕ) (f : ConfigFault) → is_no_toml f.flaw ≡ true → ((ms : Members) → ¬ (IsTextOf bytes ms))
    → (at : ℕ) × (at ≤ length bytes) × (f.line ≡ Some (line_behind (take at bytes))) → IsFaultOf bytes f
no_table_found bytes f kind none line = inl (record { no_toml = kind; none = none; line = line })

pub no_table_rule : (bytes : List ℕ) (f : ConfigFault) → is_no_toml f.flaw ≡ true → ((ms : Members) → ¬ (IsTextOf bytes ms)) → Refuses bytes (rule_of f.flaw)
no_table_rule bytes f kind none = subst (λ (e : ConfigError). Refuses bytes e) (sym (no_toml_rule f.flaw kind)) (λ c says. none says.0 says.1)
