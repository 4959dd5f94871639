-- The relay table: a finite map from a port of the server to a place and a sending port.
use Rattle.std.specs.Prelude.{ℕ, ◌+◌, List, [], ◌∷◌, Option, Some, None, refl, fold}
use Rattle.std.specs.Coded.{Coded, code_by, coded×, coded_ℕ, coded_list}
use Rattle.std.specs.Ordering.{nat_cmp}
use Rattle.std.specs.FinMap.{FinMap, code, insert, remove}
use Rattle.port_pool.specs.declared.hop.Hop.{Hop}
use Rattle.port_pool.specs.declared.changes.Change.{Change}
use Rattle.port_pool.specs.declared.changes.Change.TheVariants.{Put, Remove}

-- where a datagram that comes in at a port goes next
abbrev pub Rows : Type 0
Rows = FinMap nat_cmp Hop

abbrev pub coded_hop : Coded Hop
coded_hop =
    code_by (List ℕ × (ℕ × ℕ)) (coded× (coded_list coded_ℕ) (coded× coded_ℕ coded_ℕ)) (λ h. (h.to.ip, (h.to.port, h.from)))
    (λ p. record { to = record { ip = p.0; port = p.1.0 }; from = p.1.1 }) (λ _. refl)

abbrev pub coded_rows : Coded Rows
coded_rows = code coded_ℕ coded_hop

-- the rows of these slots, of which the first is that of port k
abbrev pub rows_from : ℕ → List (Option Hop) → List (ℕ × Hop)
rows_from k [] = []
rows_from k (None ∷ slots) = rows_from (k + 1) slots
rows_from k (Some hop ∷ slots) = (k, hop) ∷ rows_from (k + 1) slots

-- the table after one change
abbrev pub changed : Rows → Change → Rows
changed rows (Put port hop) = insert rows port hop
changed rows (Remove port) = remove rows port

-- the table after these changes, one by one
abbrev pub changed_by : Rows → List Change → Rows
changed_by rows changes = fold changed rows changes
