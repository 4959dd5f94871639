-- Timers in the order of their keys: places in them, and what calls leave.
use Rattle.std.proofs.Common.{◌≡◌, ℕ, ◌+◌, ◌<◌, Bool, true, false, not, cond, List, [], ◌∷◌, ◌||◌, filter, length, Option, Some, None, option_map, refl, sym, ap, ◌∙◌, true≢false, arith}
use Prim.Native.Nat.{suc}
use Rattle.std.specs.Cmp.{IsEquivalence, IsTotalOrder}
use Rattle.std.specs.Ordering.{is_lt, is_eq, is_some_and, partial_lt, ordering_reverse}
use Rattle.std.specs.declared.cmp.Ordering.{Ordering}
use Rattle.std.specs.declared.cmp.Ordering.TheVariants.{Less, Equal, Greater}
use Rattle.std.specs.List.{AllByRecursion, insert, remove, find, position_or_len, slice_get, slice_set as set}
use Rattle.std.specs.Prelude.{is_some}
use Rattle.std.proofs.lemmas.Bool.{or_parts, or_from}
use Rattle.std.proofs.lemmas.Cmp.{alike_right, tied_itself}
use Rattle.timers.specs.declared.timers.Timer.{Timer}
use Rattle.timers.specs.Queue.{EachKeyOnce, stands, moment, without}
use Rattle.timers.specs.ByKey.{KeysRise, place_by_key, moment_of, put_by_order, put_key}
use Rattle.timers.proofs.Halving.{AllFail, IsParted}
use Rattle.timers.proofs.ByMoment.{insert_behind, set_behind, get_behind, remove_is}
use Rattle.timers.proofs.Keys.{moment_stands, cond_swap, one_key}

cond_over : {X : Type 0} (b : Bool) (x y z : X) → cond b x z ≡ cond b x (cond b y z)
cond_over true x y z = refl
cond_over false x y z = refl

module _ {K : Type 0} (eq : K → K → Bool) (cmp : K → K → Ordering) (order : IsTotalOrder cmp) (alike : (x y : K) → eq x y ≡ is_eq (cmp x y)) where
  abbrev AreBehind : K → List (Timer K) → Type 0
  AreBehind key ts = AllByRecursion (λ t. cmp key t.key ≡ Less) ts

  -- what comes after one that is not below a key is above that key
  not_below : (j i k : K) → cmp j i ≡ Less → is_lt (cmp j k) ≡ false → is_lt (cmp i k) ≡ false
  not_below j i k ji jk =
      elim (cmp i k) as (λ o. cmp i k ≡ o → is_lt o ≡ false) [
        | Less ↦ λ ik. absurd (true≢false (sym (ap is_lt (order.trans j i k ji ik)) ∙ jk))
        | Equal ↦ λ _. refl
        | Greater ↦ λ _. refl
      ] refl

  not_it : (j i k : K) → cmp j i ≡ Less → is_lt (cmp j k) ≡ false → eq i k ≡ false
  not_it j i k ji jk =
      alike i k ∙ (elim (cmp i k) as (λ o. cmp i k ≡ o → is_eq o ≡ false) [
        | Less ↦ λ _. refl
        | Equal ↦ λ ik. absurd (true≢false (sym (ap is_lt (sym (alike_right order i k j ik) ∙ ji)) ∙ jk))
        | Greater ↦ λ _. refl
      ] refl)

  all_above : (j k : K) (ts : List (Timer K)) → AreBehind j ts → is_lt (cmp j k) ≡ false → AllFail (λ t. is_lt (cmp t.key k)) ts
  all_above j k [] h above = tt
  all_above j k (t ∷ ts) h above = (not_below j t.key k h.0 above, all_above j k ts h.1 above)

  pub parted_by_key : (k : K) (ts : List (Timer K)) → KeysRise cmp ts → IsParted (λ t. is_lt (cmp t.key k)) ts
  parted_by_key k [] h = tt
  parted_by_key k (t ∷ ts) h = (all_above t.key k ts h.0, parted_by_key k ts h.1)

  none_stands : (j k : K) (ts : List (Timer K)) → AreBehind j ts → is_lt (cmp j k) ≡ false → stands eq ts k ≡ false
  none_stands j k [] h above = refl
  none_stands j k (t ∷ ts) h above = or_from _ _ (not_it j t.key k h.0 above) (none_stands j k ts h.1 above)

  none_found : (j k : K) (ts : List (Timer K)) → AreBehind j ts → is_lt (cmp j k) ≡ false → find (λ t. eq t.key k) ts ≡ None
  none_found j k [] h above = refl
  none_found j k (t ∷ ts) h above = rw (not_it j t.key k h.0 above) (none_found j k ts h.1 above)

  below_other : (j k : K) → is_lt (cmp j k) ≡ true → eq j k ≡ false
  below_other j k below =
      alike j k ∙ (elim (cmp j k) as (λ o. is_lt o ≡ true → is_eq o ≡ false) [
        | Less ↦ λ _. refl
        | Equal ↦ λ e. absurd (true≢false (sym e))
        | Greater ↦ λ e. absurd (true≢false (sym e))
      ] below)

  -- ---- where a key is

  pub moment_is : (ts : List (Timer K)) (k : K) → KeysRise cmp ts → moment_of eq (slice_get ts (place_by_key cmp ts k)) k ≡ moment eq ts k
  moment_is [] k h = refl
  moment_is (t ∷ ts) k h =
      let n = place_by_key cmp ts k in
      elim (is_lt (cmp t.key k)) as (λ b. is_lt (cmp t.key k) ≡ b → moment_of eq (slice_get (t ∷ ts) (cond b (1 + n) 0)) k ≡ moment eq (t ∷ ts) k) [
        | true ↦ λ below. rw (get_behind t ts n, below_other t.key k below) (moment_is ts k h.1)
        | false ↦ λ above. elim (eq t.key k) as (λ b. cond b (Some t.at) None ≡ option_map (λ s. s.at) (cond b (Some t) (find (λ s. eq s.key k) ts))) [
          | true ↦ refl
          | false ↦ rw (none_found t.key k ts h.0 above) refl
        ]
      ] refl

  stands_is : (ts : List (Timer K)) (k : K) → KeysRise cmp ts → is_some (moment_of eq (slice_get ts (place_by_key cmp ts k)) k) ≡ stands eq ts k
  stands_is ts k h = ap is_some (moment_is ts k h) ∙ moment_stands eq ts k

  -- as what was found there says
  pub stood_by : (ts : List (Timer K)) (k : K) (o : Option ℕ) → KeysRise cmp ts → o ≡ moment_of eq (slice_get ts (place_by_key cmp ts k)) k → stands eq ts k ≡ is_some o
  stood_by ts k o h e = sym (stands_is ts k h) ∙ ap is_some (sym e)

  pub place_is : (ts : List (Timer K)) (k : K) → KeysRise cmp ts → stands eq ts k ≡ true → place_by_key cmp ts k ≡ position_or_len (λ t. eq t.key k) ts
  place_is [] k h stood = refl
  place_is (t ∷ ts) k h stood =
      let m = position_or_len (λ s. eq s.key k) ts in
      elim (is_lt (cmp t.key k)) as (λ b. is_lt (cmp t.key k) ≡ b → cond b (1 + place_by_key cmp ts k) 0 ≡ cond (not (eq t.key k)) (1 + m) 0) [
        | true ↦ λ below.
            let other = below_other t.key k below in
            rw other (ap (λ n. 1 + n) (place_is ts k h.1 (sym (ap (λ b. b || stands eq ts k) other) ∙ stood)))
        | false ↦ λ above. elim (eq t.key k) as (λ b. (b || stands eq ts k) ≡ true → 0 ≡ cond (not b) (1 + m) 0) [
          | true ↦ λ _. refl
          | false ↦ λ later. absurd (true≢false (sym later ∙ none_stands t.key k ts h.0 above))
        ] stood
      ] refl

  pub place_within : (ts : List (Timer K)) (k : K) → KeysRise cmp ts → stands eq ts k ≡ true → place_by_key cmp ts k < length ts
  place_within [] k h stood = absurd (true≢false (sym stood))
  place_within (t ∷ ts) k h stood =
      elim (is_lt (cmp t.key k)) as (λ b. is_lt (cmp t.key k) ≡ b → cond b (1 + place_by_key cmp ts k) 0 < suc (length ts)) [
        | true ↦ λ below.
            let rest = place_within ts k h.1 (sym (ap (λ b. b || stands eq ts k) (below_other t.key k below)) ∙ stood) in
            omega (arith, rest)
        | false ↦ λ above. omega arith
      ] refl

  -- ---- what is done at its place

  rise_once : IsEquivalence eq → (ts : List (Timer K)) → KeysRise cmp ts → EachKeyOnce eq ts
  rise_once laws [] h = tt
  rise_once laws (t ∷ ts) h = (none_stands t.key t.key ts h.0 (ap is_lt (tied_itself order t.key)), rise_once laws ts h.1)

  pub remove_at : IsEquivalence eq → (ts : List (Timer K)) (k : K) → KeysRise cmp ts → stands eq ts k ≡ true → remove ts (place_by_key cmp ts k) ≡ without eq ts k
  remove_at laws ts k h stood = rw (place_is ts k h stood) (remove_is eq k laws ts (rise_once laws ts h))

  -- how the first key compares, and what it leaves set
  less_other : (j k : K) → cmp j k ≡ Less → eq j k ≡ false
  less_other j k e = below_other j k (ap is_lt e)

  pub set_at : (ts : List (Timer K)) (timer : Timer K) → KeysRise cmp ts → stands eq ts timer.key ≡ true → set ts (place_by_key cmp ts timer.key) timer ≡ put_key cmp ts timer
  set_at [] timer h stood = absurd (true≢false (sym stood))
  set_at (t ∷ ts) timer h stood =
      let n = place_by_key cmp ts timer.key in
      elim (cmp t.key timer.key) as (λ o. cmp t.key timer.key ≡ o → set (t ∷ ts) (cond (is_lt o) (1 + n) 0) timer ≡ put_by_order o t ts timer (put_key cmp ts timer)) [
        | Less ↦ λ e. set_behind t timer ts n ∙ ap (λ xs. t ∷ xs) (set_at ts timer h.1 (sym (ap (λ b. b || stands eq ts timer.key) (less_other t.key timer.key e)) ∙ stood))
        | Equal ↦ λ _. refl
        | Greater ↦ λ e.
            let other : eq t.key timer.key ≡ false = alike t.key timer.key ∙ ap is_eq e in
            absurd (true≢false (sym stood ∙ or_from _ _ other (none_stands t.key timer.key ts h.0 (ap is_lt e))))
      ] refl

  pub insert_at : (ts : List (Timer K)) (timer : Timer K) → stands eq ts timer.key ≡ false → insert ts (place_by_key cmp ts timer.key) timer ≡ put_key cmp ts timer
  insert_at [] timer none = refl
  insert_at (t ∷ ts) timer none =
      let n = place_by_key cmp ts timer.key in
      let parts = or_parts (eq t.key timer.key) (stands eq ts timer.key) none in
      elim (cmp t.key timer.key) as (λ o. cmp t.key timer.key ≡ o → insert (t ∷ ts) (cond (is_lt o) (1 + n) 0) timer ≡ put_by_order o t ts timer (put_key cmp ts timer)) [
        | Less ↦ λ _. insert_behind t timer ts n ∙ ap (λ xs. t ∷ xs) (insert_at ts timer parts.1)
        | Equal ↦ λ e. absurd (true≢false (sym (alike t.key timer.key ∙ ap is_eq e) ∙ parts.0))
        | Greater ↦ λ _. refl
      ] refl

  pub by_partial : {Q : Type 0} (partial : K → K → Option Ordering) → ((x y : K) → partial x y ≡ Some (cmp x y)) → (x y : K) (r : Bool) → (r ≡ partial_lt partial x y) × Q → (r ≡ is_lt (cmp x y)) × Q
  by_partial partial same x y r h = (h.0 ∙ ap (is_some_and is_lt) (same x y), h.1)

  -- ---- what calls leave

  behind_filter : (p : Timer K → Bool) (k : K) (ts : List (Timer K)) → AreBehind k ts → AreBehind k (filter p ts)
  behind_filter p k [] h = tt
  behind_filter p k (t ∷ ts) h =
      elim (p t) as (λ b. AreBehind k (cond b (t ∷ filter p ts) (filter p ts))) [
        | true ↦ (h.0, behind_filter p k ts h.1)
        | false ↦ behind_filter p k ts h.1
      ]

  pub rise_filter : (p : Timer K → Bool) (ts : List (Timer K)) → KeysRise cmp ts → KeysRise cmp (filter p ts)
  rise_filter p [] h = tt
  rise_filter p (t ∷ ts) h =
      elim (p t) as (λ b. KeysRise cmp (cond b (t ∷ filter p ts) (filter p ts))) [
        | true ↦ (behind_filter p t.key ts h.0, rise_filter p ts h.1)
        | false ↦ rise_filter p ts h.1
      ]

  behind_put : (k : K) (ts : List (Timer K)) (timer : Timer K) → AreBehind k ts → cmp k timer.key ≡ Less → AreBehind k (put_key cmp ts timer)
  behind_put k [] timer h less = (less, tt)
  behind_put k (t ∷ ts) timer h less =
      elim (cmp t.key timer.key) as (λ o. AreBehind k (put_by_order o t ts timer (put_key cmp ts timer))) [
        | Less ↦ (h.0, behind_put k ts timer h.1 less)
        | Equal ↦ (less, h.1)
        | Greater ↦ (less, h)
      ]

  behind_equal : (j k : K) (ts : List (Timer K)) → cmp j k ≡ Equal → AreBehind j ts → AreBehind k ts
  behind_equal j k [] e h = tt
  behind_equal j k (t ∷ ts) e h = (sym (order.congr j k t.key e) ∙ h.0, behind_equal j k ts e h.1)

  behind_less : (k j : K) (ts : List (Timer K)) → cmp k j ≡ Less → AreBehind j ts → AreBehind k ts
  behind_less k j [] less h = tt
  behind_less k j (t ∷ ts) less h = (order.trans k j t.key less h.0, behind_less k j ts less h.1)

  pub rise_put : (ts : List (Timer K)) (timer : Timer K) → KeysRise cmp ts → KeysRise cmp (put_key cmp ts timer)
  rise_put [] timer h = (tt, tt)
  rise_put (t ∷ ts) timer h =
      elim (cmp t.key timer.key) as (λ o. cmp t.key timer.key ≡ o → KeysRise cmp (put_by_order o t ts timer (put_key cmp ts timer))) [
        | Less ↦ λ e. (behind_put t.key ts timer h.0 e, rise_put ts timer h.1)
        | Equal ↦ λ e. (behind_equal t.key timer.key ts e h.0, h.1)
        | Greater ↦ λ e.
            let less : cmp timer.key t.key ≡ Less = order.antisymm timer.key t.key ∙ ap ordering_reverse e in
            ((less, behind_less timer.key t.key ts less h.0), h)
      ] refl

  pub find_put_key : IsEquivalence eq → (ts : List (Timer K)) (timer : Timer K) (k : K)
      → find (λ s. eq s.key k) (put_key cmp ts timer) ≡ cond (eq timer.key k) (Some timer) (find (λ s. eq s.key k) ts)
  find_put_key laws [] timer k = refl
  find_put_key laws (t ∷ ts) timer k =
      let here : Timer K → Bool = λ s. eq s.key k in
      elim (cmp t.key timer.key) as (λ o. cmp t.key timer.key ≡ o
      → find here (put_by_order o t ts timer (put_key cmp ts timer)) ≡ cond (eq timer.key k) (Some timer) (cond (eq t.key k) (Some t) (find here ts))) [
        | Less ↦ λ e.
            ap (λ o. cond (eq t.key k) (Some t) o) (find_put_key laws ts timer k)
            ∙ cond_swap (eq t.key k) (eq timer.key k) (Some t) (Some timer) (find here ts) (one_key eq laws t timer k (less_other t.key timer.key e))
        | Equal ↦ λ e. rw (laws.congr t.key timer.key k (alike t.key timer.key ∙ ap is_eq e)) (cond_over (eq timer.key k) (Some timer) (Some t) (find here ts))
        | Greater ↦ λ _. refl
      ] refl
