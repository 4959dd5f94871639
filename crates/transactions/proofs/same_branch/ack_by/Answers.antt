use Rattle.std.proofs.Common.{codes, refl, rules}
use Rattle.transactions.specs.SameBranch.{ack_to}
use Rattle.transactions.proofs.SameBranchLaws.{written_of}
use Rattle.transactions.proofs.same_branch.ack_by.Goals as goal

pub returns-clause-written : goal.returns-clause-written
returns-clause-written c =
    written_of c.request_like.result c.args.uri.now c.args.via.now c.args.invite.now c.in_ok-to.to (ack_to c.args.to.now) (codes "ACK") refl tt (search rules)
    c.request_like.ensures.written
