-- Each timer's key once, by whichever test of keys.
use Rattle.std.proofs.Common.{◌≡◌, Bool, List, [], ◌∷◌, ◌||◌, refl, ap, sym, ◌∙◌}
use Rattle.timers.specs.declared.timers.Timer.{Timer}
use Rattle.timers.specs.Queue.{EachKeyOnce, stands}

module _ {K : Type 0} (p q : K → K → Bool) (agree : (a b : K) → p a b ≡ q a b) where
  stands_agree : (ts : List (Timer K)) (key : K) → stands p ts key ≡ stands q ts key
  stands_agree [] key = refl
  stands_agree (t ∷ ts) key = rw (agree t.key key) (ap (λ b. q t.key key || b) (stands_agree ts key))

  pub once_agree : (ts : List (Timer K)) → EachKeyOnce p ts → EachKeyOnce q ts
  once_agree [] once = tt
  once_agree (t ∷ ts) once = (sym (stands_agree ts t.key) ∙ once.0, once_agree ts once.1)
