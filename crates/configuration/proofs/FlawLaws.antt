-- The flaws of a table, and the refusals of it.
use Rattle.std.proofs.Common.{◌≡◌, ◌<◌, ◌+◌, ℕ, zero, suc, Bool, nat_eq, cond, List, [], ◌∷◌, length, drop, slice_index_or, Option, Some, None, String, Global, string_bytes, refl, sym, ap, subst, arith}
use Rattle.std.specs.List.{list_any}
use Rattle.std.specs.Option.{option_or}
use Rattle.std.specs.Cmp.Lexicographic.{pointwise}
use Rattle.std.specs.Map.{keys_of}
use Rattle.toml.specs.declared.value.Value.{Value}
use Rattle.toml.specs.View.{members_view}
use Rattle.configuration.specs.Keys.{is_known_key}
use Rattle.configuration.specs.declared.flaw.Flaw.{Flaw}
use Rattle.configuration.specs.declared.flaw.Flaw.TheVariants.{UserTwice}
use Rattle.configuration.specs.Flaws.{unknown_key, user_twice}

-- ---- the keys of a table, as the map has them and as its members do

abbrev pub unknown_among : List (String Global) → Option (List ℕ)
unknown_among [] = None
unknown_among (key ∷ keys) = cond (is_known_key (string_bytes key)) (unknown_among keys) (Some (string_bytes key))

pub unknown_keys : (entries : List (String Global × Value)) → unknown_among (keys_of entries) ≡ unknown_key (members_view entries)
unknown_keys [] = refl
unknown_keys (entry ∷ entries) =
    ap (λ (found : Option (List ℕ)). cond (is_known_key (string_bytes entry.0)) found (Some (string_bytes entry.0))) (unknown_keys entries)

-- ---- users

-- the user of a place, and those after it
twice_at : (us : List (List ℕ)) (i : ℕ) (b : Bool) → i < length us → b ≡ list_any (λ v. pointwise nat_eq v (slice_index_or us i [])) (drop (suc i) us)
    → user_twice (drop i us) ≡ cond b (Some (UserTwice (slice_index_or us i []))) (user_twice (drop (suc i) us))
twice_at [] i b less looked = absurd (omega (arith, less))
twice_at (x ∷ xs) zero b less looked = ap (λ (found : Bool). cond found (Some (UserTwice x)) (user_twice xs)) (sym looked)
twice_at (x ∷ xs) (suc i) b less looked = twice_at xs i b (omega (arith, less)) looked

pub twice_behind : (us : List (List ℕ)) (i : ℕ) (b : Bool) → i < length us → b ≡ list_any (λ v. pointwise nat_eq v (slice_index_or us i [])) (drop (i + 1) us)
    → user_twice (drop i us) ≡ cond b (Some (UserTwice (slice_index_or us i []))) (user_twice (drop (i + 1) us))
twice_behind us i b less looked =
    let next : suc i ≡ i + 1 = omega arith in
    subst (λ (n : ℕ). b ≡ list_any (λ v. pointwise nat_eq v (slice_index_or us i [])) (drop n us) → user_twice (drop i us) ≡ cond b (Some (UserTwice (slice_index_or us i []))) (user_twice (drop n us))) next
    (twice_at us i b less) looked

pub any_default : (us : List (List ℕ)) (i : ℕ) (d e : List ℕ) → i < length us → slice_index_or us i d ≡ slice_index_or us i e
any_default [] i d e less = absurd (omega (arith, less))
any_default (x ∷ xs) zero d e less = refl
any_default (x ∷ xs) (suc i) d e less = any_default xs i d e (omega (arith, less))

-- ---- the first of some flaws

-- however they are grouped
pub grouped_rules : (a b c d e f g : Option Flaw)
    → option_or (option_or (option_or (option_or (option_or (option_or a b) c) d) e) f) g ≡ option_or a (option_or b (option_or c (option_or d (option_or e (option_or f g)))))
grouped_rules (Some x) b c d e f g = refl
grouped_rules None (Some x) c d e f g = refl
grouped_rules None None (Some x) d e f g = refl
grouped_rules None None None (Some x) e f g = refl
grouped_rules None None None None (Some x) f g = refl
grouped_rules None None None None None (Some x) g = refl
grouped_rules None None None None None None g = refl
