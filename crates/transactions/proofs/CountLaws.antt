-- How many transactions there are of which something holds that their side and their place decide.
use Rattle.std.proofs.Common.{◌≡◌, ◌∙◌, ◌+◌, ◌<◌, ◌≤◌, ℕ, Bool, true, false, cond, List, [], ◌∷◌, ◌++◌, length, set, count_by, Option, Some, None, option_map, nat_lt, ap, refl, subst, arith}
use Rattle.std.proofs.lemmas.Bool.{ltb-true}
use Rattle.std.proofs.lemmas.List.{get_or-set_same}
use Rattle.std.proofs.lemmas.List.Sums.{sum_by-set, sum_by-append, sum_by-cons}
use Rattle.transaction_machines.specs.Machines.{is_server, row_of}
use Rattle.transaction_machines.specs.declared.input.Input.{Input}
use Rattle.transaction_machines.specs.declared.step.Step.{Step}
use Rattle.transactions.specs.Calls.{is_end}
use Rattle.transactions.specs.Contents.{Contents, placed, stepped_by, table_at}
use Rattle.transactions.specs.Once.{IsLeftBy}
use Rattle.transactions.specs.Slots.{at, free_number}
use Rattle.transactions.specs.Transactions.{went}
use Rattle.transactions.specs.declared.transaction.Transaction.{Transaction}
use Rattle.transactions.proofs.LastingLaws.{own_left, within}

-- one for each of which it holds
abbrev pub one : (Option Transaction → Bool) → Option Transaction → ℕ
one p o = cond (p o) 1 0

module _ (p : Option Transaction → Bool) where
  -- one that begins is one more at most
  one_more_by : (slots : List (Option Transaction)) (place : ℕ) (t : Transaction) (b : Bool) → (b ≡ true → place < length slots)
      → count_by p (cond b (set slots place (Some t)) (slots ++ Some t ∷ [])) ≤ count_by p slots + one p (Some t)
  one_more_by slots place t true lt = omega (arith, sum_by-set (one p) slots place (Some t) None (lt refl))
  one_more_by slots place t false lt = omega (arith, sum_by-append (one p) slots (Some t ∷ []), sum_by-cons (one p) (Some t) [])

  pub one_more : (slots : List (Option Transaction)) (t : Transaction) → count_by p (placed slots (free_number slots) t) ≤ count_by p slots + one p (Some t)
  one_more slots t = one_more_by slots (free_number slots) t (nat_lt (free_number slots) (length slots)) (λ e. ltb-true (free_number slots) (length slots) e)

  module _ (nobody : p None ≡ false) (stays : (t u : Transaction) → is_server u.state ≡ is_server t.state → u.place ≡ t.place → p (Some u) ≡ p (Some t)) where
    -- one that gets an input counts at most as much as before
    one_left : (t : Transaction) (b : Bool) (o : Option Transaction) → IsLeftBy t b o → one p o ≤ one p (Some t)
    one_left t true o left =
        let none : one p o ≡ 0 = ap (one p) left ∙ ap (λ s. cond s 1 0) nobody in
        omega (arith, none)
    one_left t false None left = absurd left
    one_left t false (Some u) left =
        let same : one p (Some u) ≡ one p (Some t) = ap (λ s. cond s 1 0) (stays t u left.side left.place) in
        omega (arith, same)

    stepped_few : (table : Contents) (id : ℕ) (t : Transaction) (fresh : Option (List ℕ)) (now : ℕ) (line : Option Step) → at table.slots id ≡ Some t
        → IsLeftBy t (is_end line) (at (stepped_by table id t fresh now line).slots id) → count_by p (stepped_by table id t fresh now line).slots ≤ count_by p table.slots
    stepped_few table id t fresh now None there left = omega arith
    stepped_few table id t fresh now (Some step) there left =
        let y : Option Transaction = option_map (went t fresh) step.next in
        let lt = within table.slots id t there in
        let here : at (set table.slots id y) id ≡ y = get_or-set_same table.slots id y None lt in
        let less : one p y ≤ one p (Some t) = one_left t (is_end (Some step)) y (subst (λ o. IsLeftBy t (is_end (Some step)) o) here left) in
        let sums = sum_by-set (one p) table.slots id y None lt in
        let was : one p (at table.slots id) ≡ one p (Some t) = ap (one p) there in
        omega (arith, less, sums, was)

    pub told_few : (table : Contents) (id : ℕ) (o : Option Transaction) (input : Input) (fresh : Option (List ℕ)) (now : ℕ) → at table.slots id ≡ o
        → count_by p (table_at table id o input fresh now).slots ≤ count_by p table.slots
    told_few table id None input fresh now there = omega arith
    told_few table id (Some t) input fresh now there =
        stepped_few table id t fresh now (row_of t.state input) there
        (own_left table id t (Some t) input fresh now (is_end (row_of t.state input)) there refl refl)
