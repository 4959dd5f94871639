-- What follows from the rules that are kept.
use Rattle.std.proofs.Common.{◌≡◌, ◌≢◌, ◌≤◌, ℕ, Bool, true, false, not, ◌&&◌, ◌==◌, cond, eqb, Option, Some, None, IfSome, refl, arith, List, [], ◌∷◌, subst}
use Rattle.std.proofs.lemmas.Bool.{leb-true, eqb-true, eqb-false}
use Rattle.configuration.specs.declared.config.Config.{Config}
use Rattle.configuration.specs.declared.error.ConfigError.{ConfigError}
use Rattle.configuration.specs.Limits.{max_silent_minutes, max_longest_call_hours, max_source_share}
use Rattle.configuration.specs.Rules.{is_server_address, has_relay_ports, has_address, is_user_list, has_users, has_lifetime, has_longest_lifetime, reaches, has_domain, is_upto, has_silence_limit, has_length_limit, has_share, first_broken, KeepsRules}

-- no rule is broken if each of them is kept
pub all_kept : (a b c d e f g : Bool) (t u v w x y z : ConfigError)
    → cond a (cond b (cond c (cond d (cond e (cond f (cond g None (Some z)) (Some y)) (Some x)) (Some w)) (Some v)) (Some u)) (Some t) ≡ None
    → (a ≡ true) × (b ≡ true) × (c ≡ true) × (d ≡ true) × (e ≡ true) × (f ≡ true) × (g ≡ true)
all_kept true true true true true true true t u v w x y z h = (refl, refl, refl, refl, refl, refl, refl)
all_kept true true true true true true false t u v w x y z h = absurd cc
all_kept true true true true true false g t u v w x y z h = absurd cc
all_kept true true true true false f g t u v w x y z h = absurd cc
all_kept true true true false e f g t u v w x y z h = absurd cc
all_kept true true false d e f g t u v w x y z h = absurd cc
all_kept true false c d e f g t u v w x y z h = absurd cc
all_kept false b c d e f g t u v w x y z h = absurd cc

two : (a b : Bool) → (a && b) ≡ true → (a ≡ true) × (b ≡ true)
two true true h = (refl, refl)
two true false h = absurd cc
two false b h = absurd cc

pub four : (a b c d : Bool) → (a && b && c && d) ≡ true → (a ≡ true) × (b ≡ true) × (c ≡ true) × (d ≡ true)
four true true true true h = (refl, refl, refl, refl)
four true true true false h = absurd cc
four true true false d h = absurd cc
four true false c d h = absurd cc
four false b c d h = absurd cc

six : (a b c d e f : Bool) → (a && b && c && d && e && f) ≡ true
    → (a ≡ true) × (b ≡ true) × (c ≡ true) × (d ≡ true) × (e ≡ true) × (f ≡ true)
six true true true true true true h = (refl, refl, refl, refl, refl, refl)
six true true true true true false h = absurd cc
six true true true true false f h = absurd cc
six true true true false e f h = absurd cc
six true true false d e f h = absurd cc
six true false c d e f h = absurd cc
six false b c d e f h = absurd cc

not_zero : (n : ℕ) → not (n == 0) ≡ true → 1 ≤ n
not_zero n h = step (eqb n 0) (λ e. eqb-false n 0 e) h where
  step : (b : Bool) → (b ≡ false → n ≢ 0) → not b ≡ true → 1 ≤ n
  step true other h = absurd cc
  step false other h = let apart = other refl in omega (arith, apart)

never_zero : is_server_address (0 ∷ 0 ∷ 0 ∷ 0 ∷ []) ≡ true → ⊥
never_zero h = cc

reached : (least : ℕ) (o : Option ℕ) → reaches least o ≡ true → IfSome o (λ most. least ≤ most)
reached least None h = tt
reached least (Some most) h = leb-true least most h

upto : (most : ℕ) (o : Option ℕ) → is_upto most o ≡ true → IfSome o (λ n. (1 ≤ n) × (n ≤ most))
upto most None h = tt
upto most (Some n) h = let both = two _ _ h in (leb-true 1 n both.0, leb-true n most both.1)

pub kept : (c : Config) → first_broken c ≡ None → KeepsRules c
unfolding first_broken has_relay_ports has_address has_users is_user_list has_lifetime has_longest_lifetime has_domain has_silence_limit has_length_limit has_share
kept c h =
    let rules = all_kept (has_relay_ports c) (has_address c) (has_users c) (has_lifetime c && has_longest_lifetime c) (has_domain c) (has_silence_limit c && has_length_limit c) (has_share c) _ _ _ _ _ _ _ h in
    let ports = six _ _ _ _ _ _ rules.0 in
    let place = two _ _ rules.1 in
    let users = four _ _ _ _ rules.2 in
    let lifetimes = two _ _ rules.3 in
    let lifetime = two _ _ lifetimes.0 in
    let durations = two _ _ rules.5 in
    record {
      even = eqb-true _ _ ports.0;
      least = leb-true _ _ ports.1;
      some_pairs = leb-true _ _ ports.2;
      max_pairs = leb-true _ _ ports.3;
      last = leb-true _ _ ports.4;
      apart = ports.5;
      address = place.0;
      real = λ same. never_zero (subst (λ (ip : List ℕ). is_server_address ip ≡ true) same place.0);
      unicast = (two _ _ place.0).1;
      port = not_zero _ place.1;
      some_users = leb-true _ _ users.0;
      room = leb-true _ _ users.1;
      formed = users.2;
      distinct = users.3;
      least_lifetime = leb-true _ _ lifetime.0;
      bounded_lifetime = leb-true _ _ lifetime.1;
      longest_lifetime = reached c.min_expires c.max_expires lifetimes.1;
      domain = rules.4;
      silent_minutes = upto max_silent_minutes c.silent_minutes durations.0;
      longest_call_hours = upto max_longest_call_hours c.longest_call_hours durations.1;
      source_share = upto max_source_share c.source_share rules.6;
    }
