use Rattle.std.proofs.Common.{◌≤◌, refl, take, length, arith}
use Rattle.rtrb.specs.Ring.{known_items, received}
use Rattle.page_desk.proofs.LineLaws.{all_known, going_on}
use Rattle.page_desk.proofs.page_desk.PageDesk.take_lines.Goals as goal

pub returns-clause-lines : goal.returns-clause-lines
returns-clause-lines c =
    let count = c.pop_partial_slice-count.result in
    let slice = c.pop_partial_slice-count.new.slice in
    let left = known_items c.pop_partial_slice-count.new.self in
    let within : count ≤ length slice = omega (arith, c.pop_partial_slice-count.ensures.received.0, c.pop_partial_slice-count.auto.slice) in
    going_on c.put.result (received c.args.self.now.lines) (received c.pop_partial_slice-count.new.self) left (take count slice) (take count slice)
    c.args.self.now.log c.put.new.self refl c.pop_partial_slice-count.ensures.received.1
    (all_known count slice left within (omega (arith, c.pop_partial_slice-count.auto.slice)) (λ fewer. c.pop_partial_slice-count.ensures.most (omega (arith, fewer, c.pop_partial_slice-count.auto.slice)))) c.put.ensures.ok c.put.ensures.err
