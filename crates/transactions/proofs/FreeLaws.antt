-- Numbers in their order, where one is put.
use Rattle.std.proofs.Common.{◌≡◌, ℕ, ◌+◌, true, false, cond, ltb, List, [], ◌∷◌, refl, ap, ◌∙◌, arith}
use Rattle.std.specs.List.{AllByRecursion, insert, prefix_len}
use Rattle.std.proofs.lemmas.Bool.Decides.{nat_tests}
use Rattle.timers.proofs.ByMoment.{insert_behind}
use Rattle.timers.proofs.Halving.{IsParted}
use Rattle.index.specs.Numbers.{put_number}
use Rattle.transactions.specs.FreeNumbers.{NumbersRise}

abbrev AreBehind : ℕ → List ℕ → Type 0
AreBehind n ns = AllByRecursion (λ m. ltb m n ≡ false) ns

behind : (k n m : ℕ) → ltb n m ≡ false → ltb k n ≡ false → ltb k m ≡ false
behind k n m first second = grind (arith, nat_tests)

before_not : (n m : ℕ) → ltb n m ≡ true → ltb m n ≡ false
before_not n m h = grind (arith, nat_tests)

all_behind : (n m : ℕ) (ns : List ℕ) → ltb n m ≡ false → AreBehind n ns → AreBehind m ns
all_behind n m [] h rest = tt
all_behind n m (k ∷ ns) h rest = (behind k n m h rest.0, all_behind n m ns h rest.1)

pub parted : (m : ℕ) (ns : List ℕ) → NumbersRise ns → IsParted (λ n. ltb n m) ns
parted m [] h = tt
parted m (n ∷ ns) h = (λ fails. all_behind n m ns fails h.0, parted m ns h.1)

pub put_is : (ns : List ℕ) (m : ℕ) → insert ns (prefix_len (λ n. ltb n m) ns) m ≡ put_number ns m
put_is [] m = refl
put_is (n ∷ ns) m =
    let place = prefix_len (λ k. ltb k m) ns in
    elim (ltb n m) as (λ b. insert (n ∷ ns) (cond b (1 + place) 0) m ≡ cond b (n ∷ put_number ns m) (m ∷ n ∷ ns)) [
      | true ↦ insert_behind n m ns place ∙ ap (λ xs. n ∷ xs) (put_is ns m)
      | false ↦ refl
    ]

behind_put : (n m : ℕ) (ns : List ℕ) → AreBehind n ns → ltb m n ≡ false → AreBehind n (put_number ns m)
behind_put n m [] h here = (here, tt)
behind_put n m (k ∷ ns) h here =
    elim (ltb k m) as (λ b. AreBehind n (cond b (k ∷ put_number ns m) (m ∷ k ∷ ns))) [
      | true ↦ (h.0, behind_put n m ns h.1 here)
      | false ↦ (here, h)
    ]

pub rise_put : (ns : List ℕ) (m : ℕ) → NumbersRise ns → NumbersRise (put_number ns m)
rise_put [] m h = (tt, tt)
rise_put (n ∷ ns) m h =
    elim (ltb n m) as (λ b. ltb n m ≡ b → NumbersRise (cond b (n ∷ put_number ns m) (m ∷ n ∷ ns))) [
      | true ↦ λ first. (behind_put n m ns h.0 (before_not n m first), rise_put ns m h.1)
      | false ↦ λ later. ((later, all_behind n m ns later h.0), h)
    ] refl
