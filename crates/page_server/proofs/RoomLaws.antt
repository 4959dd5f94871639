-- What is kept of bytes for which there is little room.
use Rattle.std.proofs.Common.{◌≡◌, ℕ, ◌+◌, ◌-◌, ◌≤◌, List, ◌++◌, length, take, sym, ap, ◌∙◌, arith, length-append}
use Rattle.std.proofs.Math.Seq.{take-append-add}
use Rattle.std.proofs.lemmas.List.{take_all}

-- all, if there is room for all
pub take_fits : (n : ℕ) (xs ys : List ℕ) → length xs + length ys ≤ n → xs ++ ys ≡ take n (xs ++ ys)
take_fits n xs ys le = sym (take_all n (xs ++ ys) (omega (arith, length-append xs ys)))

-- as much of the second list as there is room for
pub take_room : (n : ℕ) (xs ys : List ℕ) → length xs ≤ n → xs ++ take (n - length xs) ys ≡ take n (xs ++ ys)
take_room n xs ys le =
    let room : length xs + (n - length xs) ≡ n = omega arith in
    sym (take-append-add xs ys (n - length xs)) ∙ ap (λ (k : ℕ). take k (xs ++ ys)) room
