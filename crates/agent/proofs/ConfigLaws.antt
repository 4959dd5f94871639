-- Which faults a configuration can have.
use Rattle.std.proofs.Common.{◌≡◌, ◌&&◌, Bool, true, false, cond, Some, None, subst}
use Rattle.configuration.specs.declared.config.Config.{Config}
use Rattle.configuration.specs.declared.error.ConfigError.{ConfigError}
use Rattle.configuration.specs.declared.error.ConfigError.TheVariants.{OutOfMemory, RelayPorts, Address, Users, MinExpires, Domain, CallDuration, SourceShare, File}
use Rattle.configuration.specs.Rules.{has_relay_ports, has_address, has_users, has_lifetime, has_longest_lifetime, has_domain, has_silence_limit, has_length_limit, has_share, first_broken}
use Rattle.event_rows.specs.State.{RefusesConfig}

-- a rule is broken, and neither memory is out nor a file ill formed
abbrev IsRule : ConfigError → Type 0
IsRule OutOfMemory = ⊥
IsRule RelayPorts = Unit {0}
IsRule Address = Unit {0}
IsRule Users = Unit {0}
IsRule MinExpires = Unit {0}
IsRule Domain = Unit {0}
IsRule CallDuration = Unit {0}
IsRule SourceShare = Unit {0}
IsRule File = ⊥

same_rule : (x e : ConfigError) → IsRule x → Some x ≡ Some e → IsRule e
same_rule x e is h = let same : x ≡ e = cc in subst IsRule same is

told : (a b c d f g i : Bool) (e : ConfigError)
    → cond a (cond b (cond c (cond d (cond f (cond g (cond i None (Some SourceShare)) (Some CallDuration)) (Some Domain)) (Some MinExpires)) (Some Users)) (Some Address)) (Some RelayPorts) ≡ Some e → IsRule e
told false b c d f g i e h = same_rule RelayPorts e tt h
told true false c d f g i e h = same_rule Address e tt h
told true true false d f g i e h = same_rule Users e tt h
told true true true false f g i e h = same_rule MinExpires e tt h
told true true true true false g i e h = same_rule Domain e tt h
told true true true true true false i e h = same_rule CallDuration e tt h
told true true true true true true false e h = same_rule SourceShare e tt h
told true true true true true true true e h = absurd cc

broken : (c : Config) (e : ConfigError) → first_broken c ≡ Some e → IsRule e
unfolding first_broken
broken c e h = told (has_relay_ports c) (has_address c) (has_users c) (has_lifetime c && has_longest_lifetime c) (has_domain c) (has_silence_limit c && has_length_limit c) (has_share c) e h

pub refuses : (c : Config) (e : ConfigError) → first_broken c ≡ Some e → RefusesConfig c e
refuses c OutOfMemory h = absurd (broken c OutOfMemory h)
refuses c RelayPorts h = h
refuses c Address h = h
refuses c Users h = h
refuses c MinExpires h = h
refuses c Domain h = h
refuses c CallDuration h = h
refuses c SourceShare h = h
refuses c File h = broken c File h
