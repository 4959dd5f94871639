use Rattle.std.proofs.Common.{◌∙◌, ◌<◌, List, ap, arith, is_some, length, map, sym}
use Rattle.std.specs.List.{remove}
use Rattle.calls.specs.declared.tags.TagPrints.{TagPrints}
use Rattle.calls.specs.Carrying.{without_gone}
use Rattle.calls.specs.Tags.{prints_of}
use Rattle.calls.proofs.KeptLaws.{read_at}
use Rattle.calls.proofs.TagLaws.{map_removed, stays}
use Rattle.calls.proofs.carry_out.take_off.Goals as goal

pub returns-then-is_none-clause-noted : goal.returns-then-is_none-clause-noted
returns-then-is_none-clause-noted c =
    let place = c.args.place in
    c.remove-then-is_none.ensures.items ∙ ap (λ (tags : List TagPrints). remove tags place) c.requires.noted
    ∙ sym (map_removed c.args.key c.args.calls.now.items place) ∙ sym (ap (map (prints_of c.args.key)) c.remove.ensures.items)

pub returns-else-is_none-clause-calls : goal.returns-else-is_none-clause-calls
returns-else-is_none-clause-calls c =
    let cs = c.args.calls.now.items in
    let within : c.args.place < length cs = omega (arith, c.requires.there, c.args.calls.now.ok.0) in
    let read = read_at cs c.args.place c.index.result.now within c.index.ensures in
    let stands = ap (λ s. is_some s) (sym c.standing.ensures) ∙ c.if-is_none.ensures in
    sym (ap (without_gone cs c.args.place) read ∙ stays cs c.args.place c.index.result.now stands)
