-- Numbers with their prints, in the order of prints, and those of a print in their own order.
use Rattle.std.specs.Prelude.{◌≡◌, ℕ, Bool, false, ◌&&◌, ◌||◌, List, [], ◌∷◌, map, Option, Some, None, filter, nat_lt, nat_eq, if◌then◌else◌}
use Rattle.std.specs.List.{AllByRecursion, prefix_len}
use Rattle.index.specs.declared.index.Entry.{Entry}

-- the entry comes before one with this print and number
abbrev pub is_before : Entry → ℕ → ℕ → Bool
is_before e print number = nat_lt e.print print || (nat_eq e.print print && nat_lt e.number number)

-- no entry comes before one that precedes it in the list
abbrev pub EntriesRise : List Entry → Type 0
EntriesRise [] = Unit {0}
EntriesRise (e ∷ es) = AllByRecursion (λ other. is_before other e.print e.number ≡ false) es × EntriesRise es

-- how many entries come before one with this print and number
abbrev pub place_of : List Entry → ℕ → ℕ → ℕ
place_of es print number = prefix_len (λ e. is_before e print number) es

-- the entries of a print
abbrev pub of_print : List Entry → ℕ → List Entry
of_print es print = filter (λ e. nat_eq e.print print) es

-- the numbers of a print
abbrev pub numbers_of : List Entry → ℕ → List ℕ
numbers_of es print = map (λ e. e.number) (of_print es print)

-- an entry goes before the first that does not come before it
abbrev pub put_entry : List Entry → Entry → List Entry
put_entry [] entry = entry ∷ []
put_entry (e ∷ es) entry = if is_before e entry.print entry.number then e ∷ put_entry es entry else entry ∷ e ∷ es

abbrev pub same_entry : Entry → Entry → Bool
same_entry a b = nat_eq a.print b.print && nat_eq a.number b.number

-- what is at a place is the entry
abbrev pub stands_in : Option Entry → Entry → Bool
stands_in None entry = false
stands_in (Some e) entry = same_entry e entry

-- the entry is removed from its place, if it is there
abbrev pub remove_entry : List Entry → Entry → List Entry
remove_entry [] entry = []
remove_entry (e ∷ es) entry =
    if is_before e entry.print entry.number then e ∷ remove_entry es entry else if same_entry e entry then es else e ∷ es
