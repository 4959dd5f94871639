-- Timers in the order of their keys, alongside the same timers in the order in which they are due.
use Rattle.std.specs.Prelude.{◌≡◌, ℕ, Bool, List, [], ◌∷◌, Option, Some, None, if◌then◌else◌}
use Rattle.std.specs.List.{AllByRecursion, prefix_len}
use Rattle.std.specs.Ordering.{is_lt}
use Rattle.std.specs.declared.cmp.Ordering.{Ordering}
use Rattle.std.specs.declared.cmp.Ordering.TheVariants.{Less, Equal, Greater}
use Rattle.timers.specs.declared.timers.Timer.{Timer}
use Rattle.timers.specs.Queue.{IsQueue, moment}

-- each key is below those after it
abbrev pub KeysRise : {K : Type 0} → (K → K → Ordering) → List (Timer K) → Type 0
KeysRise cmp [] = Unit {0}
KeysRise cmp (t ∷ ts) = AllByRecursion (λ other. cmp t.key other.key ≡ Less) ts × KeysRise cmp ts

-- the keys of the timers in their order, each with its moment
pub record IsByKey {K : Type 0} (eq : K → K → Bool) (cmp : K → K → Ordering) (keys timers : List (Timer K)) : Type 0 where
  pub rise : KeysRise cmp keys
  pub moments : (key : K) → moment eq keys key ≡ moment eq timers key

-- timers in both orders
pub record AreInBoth {K : Type 0} (eq : K → K → Bool) (cmp : K → K → Ordering) (timers keys : List (Timer K)) : Type 0 where
  pub queue : IsQueue eq timers
  pub by_key : IsByKey eq cmp keys timers

-- how many keys are below the key
abbrev pub place_by_key : {K : Type 0} → (K → K → Ordering) → List (Timer K) → K → ℕ
place_by_key cmp keys key = prefix_len (λ t. is_lt (cmp t.key key)) keys

-- the moment of the timer, if it is the key's
abbrev pub moment_of : {K : Type 0} → (K → K → Bool) → Option (Timer K) → K → Option ℕ
moment_of eq None key = None
moment_of eq (Some t) key = if eq t.key key then Some t.at else None

-- before, at or after the first key, as that compares
abbrev pub put_by_order : {K : Type 0} → Ordering → Timer K → List (Timer K) → Timer K → List (Timer K) → List (Timer K)
put_by_order Less t ts timer rest = t ∷ rest
put_by_order Equal t ts timer rest = timer ∷ ts
put_by_order Greater t ts timer rest = timer ∷ t ∷ ts

-- a timer goes to the place of its key, replacing an old one
abbrev pub put_key : {K : Type 0} → (K → K → Ordering) → List (Timer K) → Timer K → List (Timer K)
put_key cmp [] timer = timer ∷ []
put_key cmp (t ∷ ts) timer = put_by_order (cmp t.key timer.key) t ts timer (put_key cmp ts timer)
