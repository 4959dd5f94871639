-- The board's table once it has the changes of an event.
use Rattle.std.proofs.Common.{◌≡◌, ◌∙◌, List, [], ◌∷◌, refl, ap}
use Rattle.std.proofs.lemmas.List.Sums.{fold-append}
use Rattle.std.specs.FinMap.{empty}
use Rattle.port_pool.specs.declared.changes.Change.{Change}
use Rattle.port_pool.specs.RelayTable.{Rows, changed_by}
use Rattle.relay.specs.Lists.{Lists, table_after}
use Rattle.event_rows.specs.State.{Contents}
use Rattle.live.specs.Turns.{HasTable, published}

pub published_leads : (lists : Lists) (changes : List Change) → table_after (published lists changes) ≡ changed_by (table_after lists) changes
published_leads lists [] = refl
published_leads lists (c ∷ cs) = fold-append changed_by empty lists ((c ∷ cs) ∷ [])

-- it is the agent's again, since the agent's changes lead from its table before to the one after
pub has_table_again : (s s_after : Contents) (lists lists_after : Lists) → HasTable lists s → changed_by s.calls.pool.rows s_after.changes ≡ s_after.calls.pool.rows
    → lists_after ≡ published lists s_after.changes → HasTable lists_after s_after
has_table_again s s_after lists lists_after has leads board =
    ap table_after board ∙ published_leads lists s_after.changes ∙ ap (λ (rows : Rows). changed_by rows s_after.changes) has ∙ leads
