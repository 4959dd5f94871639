use Rattle.std.proofs.Common.{codes, refl}
use Rattle.transactions.proofs.SameBranchLaws.{written_of}
use Rattle.transactions.proofs.same_branch.cancel_by.Goals as goal

pub returns-clause-written : goal.returns-clause-written
returns-clause-written c =
    written_of c.request_like.result c.args.uri.now c.args.via.now c.args.invite.now c.args.invite.now.to c.args.invite.now.to (codes "CANCEL") refl tt refl
    c.request_like.ensures.written
