use Rattle.std.proofs.Common.{◌≡◌, ◌∙◌, rules, tests, drop}
use Rattle.std.specs.VecDeque.Iter.{deque_iter_rest}
use Rattle.std.proofs.lemmas.Iterator.Consumers.{YieldsList-from_deque}
use Rattle.std.proofs.lemmas.Iterator.Search.{position_from_yields_List}
use Rattle.std.proofs.lemmas.List.{take_rest}
use Rattle.timers.proofs.by_moment.first_from.Goals as goal

pub returns : goal.returns
returns g c =
    let queue = c.args.timers.now in
    let rest : deque_iter_rest c.range.result ≡ drop c.args.start queue.items = c.range.ensures.rest ∙ rw queue.ok.0 (take_rest queue.items c.args.start) in
    position_from_yields_List (λ t. g.K.PartialEq.eq t.key c.args.key) _ _ c.position.result c.position.ensures.ran (YieldsList-from_deque (drop c.args.start queue.items) rest) (λ x b q k. search (rules, tests))
