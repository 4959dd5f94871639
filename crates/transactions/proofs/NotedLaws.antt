-- The prints that are kept with the places, after a change of these.
use Rattle.std.proofs.Common.{◌≡◌, ℕ, ◌+◌, ◌-◌, ◌<◌, ◌≤◌, Bool, true, false, cond, ltb, List, [], ◌∷◌, ◌++◌, length, map, get_or, set, Option, Some, None, option_map, refl, sym, ap, ◌∙◌, arith}
use Rattle.std.proofs.lemmas.List.{get_or-map, length-map, map-append, map-set}
use Rattle.std.proofs.Math.Seq.{map-set_same}
use Rattle.index.specs.declared.print.PrintKey.{PrintKey}
use Rattle.transaction_machines.specs.declared.state.State.{State}
use Rattle.transactions.specs.declared.print.Prints.{Prints}
use Rattle.transactions.specs.declared.transaction.Transaction.{Transaction}
use Rattle.transactions.specs.KeptPrints.{AreNoted}
use Rattle.index.specs.PrintKeys.{print_of}
use Rattle.std.specs.Prelude.{IfSome}
use Rattle.transaction_machines.specs.Machines.{is_server}
use Rattle.transactions.specs.Prints.{branch_print, ip_print, prints_at, tag_print}
use Rattle.transactions.specs.Transactions.{went}

-- ---- what is made of each element, after a change of one

module _ {X Y : Type 0} (f : X → Y) where
  set_both : (xs : List X) (ys : List Y) (i : ℕ) (x : X) (y : Y) → ys ≡ map f xs → y ≡ f x → set ys i y ≡ map f (set xs i x)
  set_both xs ys i x y stood is = ap (λ (l : List Y). set l i y) stood ∙ ap (λ v. set (map f xs) i v) is ∙ sym (map-set f xs i x)

  pushed_both : (xs : List X) (ys : List Y) (x : X) (y : Y) → ys ≡ map f xs → y ≡ f x → ys ++ y ∷ [] ≡ map f (xs ++ x ∷ [])
  pushed_both xs ys x y stood is = ap (λ (l : List Y). l ++ y ∷ []) stood ∙ ap (λ v. map f xs ++ v ∷ []) is ∙ sym (map-append f xs (x ∷ []))

  placed_if : (b : Bool) (xs : List X) (ys : List Y) (i : ℕ) (x : X) (y : Y) → ys ≡ map f xs → y ≡ f x
      → cond b (set ys i y) (ys ++ y ∷ []) ≡ map f (cond b (set xs i x) (xs ++ x ∷ []))
  placed_if true xs ys i x y stood is = set_both xs ys i x y stood is
  placed_if false xs ys i x y stood is = pushed_both xs ys x y stood is

  same_length : (xs : List X) (ys : List Y) → ys ≡ map f xs → length ys ≡ length xs
  same_length xs ys stood = ap length stood ∙ length-map xs f

  placed_both : (xs after : List X) (ys after_ys : List Y) (i : ℕ) (x : X) (y : Y) → ys ≡ map f xs → y ≡ f x
      → after ≡ cond (ltb i (length xs)) (set xs i x) (xs ++ x ∷ []) → after_ys ≡ cond (ltb i (length ys)) (set ys i y) (ys ++ y ∷ [])
      → after_ys ≡ map f after
  placed_both xs after ys after_ys i x y stood is after_e ys_e =
      ys_e ∙ ap (λ n. cond (ltb i n) (set ys i y) (ys ++ y ∷ [])) (same_length xs ys stood)
      ∙ placed_if (ltb i (length xs)) xs ys i x y stood is ∙ sym (ap (map f) after_e)

-- ---- the prints of places

pub same_count : (key : PrintKey) (slots : List (Option Transaction)) (prints : List Prints) (used capacity room : ℕ) → AreNoted key slots prints used capacity room
    → length prints ≡ length slots
same_count key slots prints used capacity room h = same_length (prints_at key) slots prints h.noted

-- the prints that are kept of a place are those of its transaction
pub noted_at : (key : PrintKey) (slots : List (Option Transaction)) (prints : List Prints) (used capacity room id : ℕ) (p q : Prints) (d : Option Transaction)
    → AreNoted key slots prints used capacity room → id < length slots → p ≡ get_or prints id q → p ≡ prints_at key (get_or slots id d)
noted_at key slots prints used capacity room id p q d h less is =
    is ∙ ap (λ (l : List Prints). get_or l id q) h.noted ∙ get_or-map (prints_at key) slots id d q less

-- a transaction begins
pub begun_noted : (key : PrintKey) (slots after : List (Option Transaction)) (prints after_prints : List Prints) (used used' capacity capacity' room id : ℕ) (slot : Option Transaction) (p : Prints)
    → AreNoted key slots prints used capacity room → 0 < room → p ≡ prints_at key slot
    → after ≡ cond (ltb id (length slots)) (set slots id slot) (slots ++ slot ∷ []) → after_prints ≡ cond (ltb id (length prints)) (set prints id p) (prints ++ p ∷ [])
    → used' ≤ used + 1 → capacity ≤ capacity'
    → AreNoted key after after_prints used' capacity' (room - 1)
begun_noted key slots after prints after_prints used used' capacity capacity' room id slot p h some is after_e prints_e more most = record {
  noted = placed_both (prints_at key) slots after prints after_prints id slot p h.noted is after_e prints_e;
  for_prints = omega (arith, h.for_prints, some, more, most);
}

-- one goes on, with the same prints
same_prints : (key : PrintKey) (o : Option Transaction) (fresh : Option (List ℕ)) (state : State) → IfSome o (λ t. is_server state ≡ is_server t.state)
    → prints_at key (option_map (λ t. went t fresh state) o) ≡ prints_at key o
same_prints key None fresh state side = refl
same_prints key (Some t) fresh state side = ap (λ b. record { branch = branch_print key t.parts.vias; call = print_of key t.parts.call_id; tag = tag_print key t.parts.from.params; source = cond b (ip_print t.place.ip) 0 }) side

pub advanced_noted : (key : PrintKey) (slots : List (Option Transaction)) (prints : List Prints) (used capacity room id : ℕ) (d new : Option Transaction) (fresh : Option (List ℕ)) (state : State)
    → AreNoted key slots prints used capacity room → IfSome (get_or slots id d) (λ t. is_server state ≡ is_server t.state) → new ≡ option_map (λ t. went t fresh state) (get_or slots id d)
    → AreNoted key (set slots id new) prints used capacity room
advanced_noted key slots prints used capacity room id d new fresh state h side is = record {
  noted = h.noted ∙ sym (map-set_same (prints_at key) slots id new d (ap (prints_at key) is ∙ same_prints key (get_or slots id d) fresh state side));
  for_prints = h.for_prints;
}

-- one ends, and its place has no prints
pub ended_noted : (key : PrintKey) (slots : List (Option Transaction)) (prints : List Prints) (used capacity room id : ℕ) (new : Option Transaction) (p : Prints)
    → AreNoted key slots prints used capacity room → p ≡ prints_at key new → AreNoted key (set slots id new) (set prints id p) used capacity room
ended_noted key slots prints used capacity room id new p h is = record {
  noted = set_both (prints_at key) slots prints id new p h.noted is;
  for_prints = h.for_prints;
}
