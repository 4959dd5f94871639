-- What calls leave of a queue: moments rise, and each key occurs once.
use Rattle.std.proofs.Common.{◌≡◌, ℕ, Bool, not, List, [], ◌∷◌, filter, option_map, refl, ap, ◌∙◌, subst}
use Rattle.std.specs.Cmp.{IsEquivalence}
use Rattle.std.proofs.lemmas.Bool.{le-leb}
use Rattle.timers.specs.declared.timers.Timer.{Timer}
use Rattle.timers.specs.Queue.{EachKeyOnce, MomentsRise, IsQueue, set, without, first, first_due}
use Rattle.timers.specs.Settings.{IsDue, IsNext, set_last, put_before, due_order}
use Rattle.timers.proofs.DueOrder.{NoSooner, in_order, filter_is, set_is}
use Rattle.timers.proofs.Firsts.{first_is_due, next_is}
use Rattle.timers.proofs.Keys.{once_order, once_filter, once_set}

module _ {K : Type 0} where
  goes_before : (t : Timer K) (ts : List (Timer K)) → NoSooner t ts → put_before ts t ≡ t ∷ ts
  goes_before t [] h = refl
  goes_before t (d ∷ ds) h = simp (le-leb t.at d.at h.0)

  -- timers whose moments rise are in the order in which they are due
  order_is : (ts : List (Timer K)) → MomentsRise ts → due_order ts ≡ ts
  order_is [] h = refl
  order_is (t ∷ ts) h = ap (λ ds. put_before ds t) (order_is ts h.1) ∙ goes_before t ts h.0

  pub first_of_rising : (ts : List (Timer K)) (now : ℕ) → MomentsRise ts → IsDue ts now (first_due ts now)
  first_of_rising ts now rise = subst (λ ds. IsDue ts now (first_due ds now)) (order_is ts rise) (first_is_due ts now)

  pub next_of_rising : (ts : List (Timer K)) → MomentsRise ts → IsNext ts (option_map (λ t. t.at) (first ts))
  next_of_rising ts rise = subst (λ ds. IsNext ts (option_map (λ t. t.at) (first ds))) (order_is ts rise) (next_is ts)

module _ {K : Type 0} (eq : K → K → Bool) (laws : IsEquivalence eq) where
  queue_order : (ts : List (Timer K)) → EachKeyOnce eq ts → IsQueue eq (due_order ts)
  queue_order ts once = record { rise = in_order ts; once = once_order eq laws ts once }

  pub queue_without : (ts : List (Timer K)) (key : K) → IsQueue eq ts → IsQueue eq (without eq ts key)
  queue_without ts key queue =
      let p = λ (t : Timer K). not (eq t.key key) in
      subst (IsQueue eq) (filter_is p ts ∙ ap (filter p) (order_is ts queue.rise)) (queue_order (filter p ts) (once_filter eq laws p ts queue.once))

  pub queue_set : (ts : List (Timer K)) (key : K) (at : ℕ) → IsQueue eq ts → IsQueue eq (set eq ts key at)
  queue_set ts key at queue =
      subst (IsQueue eq) (set_is eq ts key at ∙ ap (λ ds. set eq ds key at) (order_is ts queue.rise)) (queue_order (set_last eq ts key at) (once_set eq laws ts key at queue.once))
