use Rattle.std.proofs.Common.{◌≡◌, ◌∙◌, map, ap, subst}
use Rattle.index.specs.Passing.{numbers_from}
use Rattle.transactions.specs.Places.{has_call}
use Rattle.index.specs.PrintKeys.{print_of}
use Rattle.transactions.specs.Slots.{is_merged}
use Rattle.transactions.proofs.PlaceLaws.{any_found}
use Rattle.transactions.proofs.PrintLaws.{merged_has}
use Rattle.transactions.proofs.slots.any_merged.Goals as goal

pub returns : goal.returns
returns c =
    let slots = c.args.places.now.slots in
    let key = c.args.places.now.key in
    let print = c.print_of.ensures ∙ ap (λ k. print_of k c.as_bytes.result.now) c.key.ensures ∙ ap (print_of key) c.as_bytes.ensures in
    let entries = subst (λ n. map (λ e. e.number) c.of_call-entries.result.now ≡ numbers_from (has_call key n) 0 slots) print c.of_call-entries.ensures in
    c.merges_any.ensures
    ∙ any_found (is_merged c.args.parts.now) (has_call key (print_of key c.args.parts.now.call_id)) (merged_has key c.args.parts.now) slots c.slots.result.now c.of_call-entries.result.now c.slots.ensures entries
