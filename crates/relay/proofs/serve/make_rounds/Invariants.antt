use Rattle.relay.proofs.Rounds.{Going}
use Rattle.relay.proofs.serve.make_rounds.Given as goal

-- these rounds were made so far
abbrev pub invariant-loop : goal.invariant-loop
invariant-loop g l =
    Going (record { lists = l.fn.worker.viewer; taken = g.S.MediaSocket.taken l.fn.worker.socket; sent = g.S.MediaSocket.sent l.fn.worker.socket; counted = l.fn.worker.counter; failed = g.S.MediaSocket.failed l.fn.worker.socket })
    (record { lists = l.worker.viewer; taken = g.S.MediaSocket.taken l.worker.socket; sent = g.S.MediaSocket.sent l.worker.socket; counted = l.worker.counter; failed = g.S.MediaSocket.failed l.worker.socket })
    l.failures
