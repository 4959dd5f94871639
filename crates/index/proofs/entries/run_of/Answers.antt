use Rattle.std.proofs.Common.{◌≡◌, ◌∙◌, rules, eqb, take, ap}
use Rattle.std.specs.List.{prefix_len}
use Rattle.timers.proofs.Halving.{halved}
use Rattle.index.proofs.Prints.{run_parted, run_is}
use Rattle.index.proofs.entries.run_of.Goals as goal

pub returns : goal.returns
returns c =
    let es = c.args.entries.now in
    let p = c.args.print in
    let point = c.partition_point.ensures in
    let n : c.partition_point.result ≡ prefix_len (λ e. eqb e.print p) es =
    halved (λ e. eqb e.print p) _ _ point.bound point.partitioned (run_parted p es c.requires.rise c.requires.not_below) (λ a r f k. search rules) in
    ap (λ k. take k es) n ∙ run_is p es c.requires.rise c.requires.not_below
