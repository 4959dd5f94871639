-- What is read and why bytes are refused.
use Rattle.std.proofs.Common.{◌≡◌, ◌&&◌, ℕ, Bool, true, false, cond, List, Some, None, Result, Ok, Err, IfOk, IfErr, MatchResult, refl, sym, ap, ◌∙◌}
use Rattle.configuration.specs.declared.config.Config.{Config}
use Rattle.configuration.specs.declared.error.ConfigError.{ConfigError}
use Rattle.configuration.specs.declared.error.ConfigError.TheVariants.{OutOfMemory, RelayPorts, Address, Users, MinExpires, Domain, File, CallDuration, SourceShare}
use Rattle.configuration.specs.Rules.{has_relay_ports, has_address, has_users, has_lifetime, has_longest_lifetime, has_domain, has_silence_limit, has_length_limit, has_share, first_broken, KeepsRules}
use Rattle.configuration.specs.Flaws.{config_of}
use Rattle.configuration.proofs.RuleLaws.{kept}
use Rattle.configuration.specs.Reading.{Says, ReadsConfig, BreaksFirst, Refuses}

-- a file is refused before any rule is checked
never_file : (a b c d e f g : Bool)
    → cond a (cond b (cond c (cond d (cond e (cond f (cond g None (Some SourceShare)) (Some CallDuration)) (Some Domain)) (Some MinExpires)) (Some Users)) (Some Address)) (Some RelayPorts) ≡ Some File
    → ⊥
never_file true true true true true true true h = cc
never_file true true true true true true false h = cc
never_file true true true true true false g h = cc
never_file true true true true false f g h = cc
never_file true true true false e f g h = cc
never_file true true false d e f g h = cc
never_file true false c d e f g h = cc
never_file false b c d e f g h = cc

no_rule_of_files : (c : Config) → first_broken c ≡ Some File → ⊥
unfolding first_broken
no_rule_of_files c h = never_file (has_relay_ports c) (has_address c) (has_users c) (has_lifetime c && has_longest_lifetime c) (has_domain c) (has_silence_limit c && has_length_limit c) (has_share c) h

-- the bytes describe at most one configuration
pub one_said : (bytes : List ℕ) (c d : Config) → Says bytes c → Says bytes d → c ≡ d
one_said bytes c d (ms, text, said) (ns, other_text, other_said) =
    let table : ms ≡ ns = some_is _ _ (sym text.1 ∙ other_text.1) in
    some_is _ _ (sym said ∙ ap config_of table ∙ other_said) where
      some_is : {X : Type 0} (x y : X) → Some x ≡ Some y → x ≡ y
      some_is x y h = cc

-- a rule that is broken is the reason
pub refused_by_rule : (bytes : List ℕ) (c : Config) (e : ConfigError) → Says bytes c → first_broken c ≡ Some e → Refuses bytes e
refused_by_rule bytes c OutOfMemory says broken = tt
refused_by_rule bytes c RelayPorts says broken = record { config = c; says = says; broken = broken }
refused_by_rule bytes c Address says broken = record { config = c; says = says; broken = broken }
refused_by_rule bytes c Users says broken = record { config = c; says = says; broken = broken }
refused_by_rule bytes c MinExpires says broken = record { config = c; says = says; broken = broken }
refused_by_rule bytes c Domain says broken = record { config = c; says = says; broken = broken }
refused_by_rule bytes c File says broken = absurd (no_rule_of_files c broken)
refused_by_rule bytes c CallDuration says broken = record { config = c; says = says; broken = broken }
refused_by_rule bytes c SourceShare says broken = record { config = c; says = says; broken = broken }

-- what is read keeps the rules
pub kept_at : (bytes : List ℕ) (r : Result Config ConfigError) → IfOk r (λ c. ReadsConfig bytes c) → IfOk r (λ c. KeepsRules c)
kept_at bytes (Ok c) found = kept c found.rules
kept_at bytes (Err e) found = tt

-- what is said and keeps the rules is not refused by a rule
breaks_none : (bytes : List ℕ) (c : Config) (e : ConfigError) → BreaksFirst bytes e → ReadsConfig bytes c → ⊥
breaks_none bytes c e breaks reads = none_some (sym reads.rules ∙ ap first_broken (one_said bytes c breaks.config reads.says breaks.says) ∙ breaks.broken) where
  none_some : None ≡ Some e → ⊥
  none_some h = cc

pub only_at : (bytes : List ℕ) (r : Result Config ConfigError) → IfOk r (λ c. ReadsConfig bytes c) → IfErr r (Refuses bytes)
    → (c : Config) → ReadsConfig bytes c → MatchResult r (λ d. d ≡ c) (λ e. e ≡ OutOfMemory)
only_at bytes (Ok d) found refused c reads = one_said bytes d c found.says reads.says
only_at bytes (Err OutOfMemory) found refused c reads = refl
only_at bytes (Err RelayPorts) found refused c reads = absurd (breaks_none bytes c RelayPorts refused reads)
only_at bytes (Err Address) found refused c reads = absurd (breaks_none bytes c Address refused reads)
only_at bytes (Err Users) found refused c reads = absurd (breaks_none bytes c Users refused reads)
only_at bytes (Err MinExpires) found refused c reads = absurd (breaks_none bytes c MinExpires refused reads)
only_at bytes (Err Domain) found refused c reads = absurd (breaks_none bytes c Domain refused reads)
only_at bytes (Err File) found refused c reads = absurd (refused c reads.says)
only_at bytes (Err CallDuration) found refused c reads = absurd (breaks_none bytes c CallDuration refused reads)
only_at bytes (Err SourceShare) found refused c reads = absurd (breaks_none bytes c SourceShare refused reads)
