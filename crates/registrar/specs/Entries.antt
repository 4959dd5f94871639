-- The entries of the users, and the index by which one is found.
use Rattle.std.specs.Prelude.{◌≡◌, ℕ, Bool, false, List, nat_eq, Option, Some, None}
use Rattle.index.specs.declared.index.Entry.{Entry}
use Rattle.index.specs.Entries.{numbers_of}
use Rattle.index.specs.Passing.{numbers_from}
use Rattle.index.specs.declared.print.PrintKey.{PrintKey}
use Rattle.index.specs.PrintKeys.{print_of}
use Rattle.registrar.specs.declared.user_bindings.UserBindings.{UserBindings}
use Rattle.registrar.specs.Registrar.{is_for}

abbrev pub has_print : PrintKey → ℕ → UserBindings → Bool
has_print key print entry = nat_eq (print_of key entry.user) print

-- the places of the entries with this print, the least first, where the first place has the number n
abbrev pub places_of : PrintKey → ℕ → ℕ → List UserBindings → List ℕ
places_of key print n es = numbers_from (has_print key print) n es

-- under each print are the places of the users who have it, and no other
abbrev pub IsIndexed : PrintKey → List UserBindings → List Entry → Type 0
IsIndexed key entries names = (print : ℕ) → numbers_of names print ≡ places_of key print 0 entries

-- what is at a place is the entry of this user
abbrev pub is_at : List ℕ → Option UserBindings → Bool
is_at user None = false
is_at user (Some entry) = is_for user entry
