use Rattle.std.proofs.Common.{◌≡◌, ◌∙◌, map, ap, refl, sym, subst}
use Rattle.index.specs.Passing.{numbers_from}
use Rattle.transactions.specs.Places.{has_branch}
use Rattle.transactions.specs.Prints.{branch_print}
use Rattle.transactions.specs.Slots.{is_named_invite, is_named}
use Rattle.transactions.proofs.PlaceLaws.{first_found}
use Rattle.transactions.proofs.PrintLaws.{named_invite_has, named_has}
use Rattle.transactions.proofs.slots.cancelled_place.Goals as goal

pub returns-in-Some : goal.returns-in-Some
returns-in-Some c =
    let slots = c.args.places.now.slots in
    let key = c.args.places.now.key in
    let parts = c.args.parts.now in
    let entries = subst (λ print. map (λ e. e.number) c.of_branch-entries.result.now ≡ numbers_from (has_branch key print) 0 slots) (c.branch_print.ensures ∙ ap (λ k. branch_print k c.args.parts.now.vias) c.key.ensures) c.of_branch-entries.ensures in
    let invite = c.named_invite.ensures ∙ first_found (is_named_invite parts) (has_branch key (branch_print key parts.vias)) (named_invite_has key parts) slots c.slots-slots.result.now c.of_branch-entries.result.now c.slots-slots.ensures entries in
    rw (sym invite ∙ c.in-Some.is) refl

pub returns-in-None : goal.returns-in-None
returns-in-None c =
    let slots = c.args.places.now.slots in
    let key = c.args.places.now.key in
    let parts = c.args.parts.now in
    let entries = subst (λ print. map (λ e. e.number) c.of_branch-entries.result.now ≡ numbers_from (has_branch key print) 0 slots) (c.branch_print.ensures ∙ ap (λ k. branch_print k c.args.parts.now.vias) c.key.ensures) c.of_branch-entries.ensures in
    let invite = c.named_invite.ensures ∙ first_found (is_named_invite parts) (has_branch key (branch_print key parts.vias)) (named_invite_has key parts) slots c.slots-slots.result.now c.of_branch-entries.result.now c.slots-slots.ensures entries in
    let other = c.named_other.ensures ∙ first_found (is_named parts) (has_branch key (branch_print key parts.vias)) (named_has key parts) slots c.slots-slots.result.now c.of_branch-entries.result.now c.slots-slots.ensures entries in
    rw (sym invite ∙ c.in-None.is) other
