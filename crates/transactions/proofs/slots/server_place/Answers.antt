use Rattle.std.proofs.Common.{◌≡◌, ◌∙◌, map, ap, subst}
use Rattle.index.specs.Passing.{numbers_from}
use Rattle.transactions.specs.Places.{has_branch}
use Rattle.transactions.specs.Prints.{branch_print}
use Rattle.transactions.specs.Slots.{is_asked}
use Rattle.transactions.proofs.PlaceLaws.{first_found}
use Rattle.transactions.proofs.PrintLaws.{asked_has}
use Rattle.transactions.proofs.slots.server_place.Goals as goal

pub returns : goal.returns
returns c =
    let slots = c.args.places.now.slots in
    let key = c.args.places.now.key in
    let entries = subst (λ print. map (λ e. e.number) c.of_branch-entries.result.now ≡ numbers_from (has_branch key print) 0 slots) c.requires c.of_branch-entries.ensures in
    c.first_asked.ensures
    ∙ first_found (is_asked c.args.parts.now) (has_branch key (branch_print key c.args.parts.now.vias)) (asked_has key c.args.parts.now) slots c.slots.result.now c.of_branch-entries.result.now c.slots.ensures entries
