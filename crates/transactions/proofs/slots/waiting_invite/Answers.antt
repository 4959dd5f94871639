use Rattle.std.proofs.Common.{◌≡◌, ◌∙◌, map, ap, subst}
use Rattle.index.specs.Passing.{numbers_from}
use Rattle.transactions.specs.Places.{has_tag}
use Rattle.index.specs.PrintKeys.{print_of}
use Rattle.transactions.specs.Slots.{is_waiting_invite}
use Rattle.transactions.proofs.PlaceLaws.{first_found}
use Rattle.transactions.proofs.PrintLaws.{waiting_has}
use Rattle.transactions.proofs.slots.waiting_invite.Goals as goal

pub returns : goal.returns
returns c =
    let slots = c.args.places.now.slots in
    let key = c.args.places.now.key in
    let print = c.print_of.ensures ∙ ap (λ k. print_of k c.as_bytes.result.now) c.key.ensures ∙ ap (print_of key) c.as_bytes.ensures in
    let entries = subst (λ n. map (λ e. e.number) c.of_tag-entries.result.now ≡ numbers_from (has_tag key n) 0 slots) print c.of_tag-entries.ensures in
    c.first_waiting.ensures
    ∙ first_found (is_waiting_invite c.args.tag.now) (has_tag key (print_of key c.args.tag.now)) (waiting_has key c.args.tag.now) slots c.slots.result.now c.of_tag-entries.result.now c.slots.ensures entries
