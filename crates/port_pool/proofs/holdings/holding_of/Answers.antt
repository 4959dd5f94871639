use Rattle.std.proofs.Common.{◌∙◌, sym}
use Rattle.index.proofs.NumberLaws.{find_placed, find_none}
use Rattle.port_pool.specs.Holdings.{has_even}
use Rattle.port_pool.specs.Places.{no_holding}
use Rattle.port_pool.proofs.holdings.holding_of.Goals as goal

pub returns-in_err-place_of : goal.returns-in_err-place_of
returns-in_err-place_of c = rw c.from_residual.ensures (sym (find_none (has_even c.args.even) c.args.holdings.now (sym c.place_of.ensures ∙ c.in_err-place_of.was)))

pub returns : goal.returns
returns c = sym (find_placed (has_even c.args.even) c.args.holdings.now c.in_ok-place_of.field-0 no_holding (sym c.place_of.ensures ∙ c.in_ok-place_of.was))
