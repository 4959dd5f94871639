use Rattle.std.proofs.Common.{List, subst}
use Rattle.page_server.specs.Held.{AreLeft, Held}
use Rattle.page_server.proofs.server.PageServer.turn.Goals as goal

pub returns-clause-kept : goal.returns-clause-kept
returns-clause-kept g c =
    let came = c.accept.ensures in
    rw (← c.self.view_is)
    (came.0, came.2 c.self.invariant, subst (λ (held : List Held). AreLeft c.args.now held c.turn.new.self) came.1 c.turn.ensures.kept)
