use Rattle.std.proofs.Common.{◌≡◌, ◌∙◌, ap, drop}
use Rattle.index.specs.Entries.{place_of, of_print}
use Rattle.index.proofs.Prints.{rest_rises, rest_not_below, rest_of_print}
use Rattle.index.proofs.entries.of_print.Goals as goal

pub run_of-requires-clause-rise : goal.run_of-requires-clause-rise
run_of-requires-clause-rise c =
    let es = c.args.entries.now in
    rw (c.rest_from.ensures, c.place_of.ensures.place) (rest_rises es c.args.print 0 c.requires)

pub run_of-requires-clause-not_below : goal.run_of-requires-clause-not_below
run_of-requires-clause-not_below c =
    let es = c.args.entries.now in
    rw (c.rest_from.ensures, c.place_of.ensures.place) (rest_not_below es c.args.print c.requires)

pub returns : goal.returns
returns c =
    let es = c.args.entries.now in
    let p = c.args.print in
    let rest : c.rest_from.result.now ≡ drop (place_of es p 0) es = c.rest_from.ensures ∙ ap (λ k. drop k es) c.place_of.ensures.place in
    c.run_of.ensures ∙ ap (λ xs. of_print xs p) rest ∙ rest_of_print es p
