use Rattle.std.proofs.Common.{refl}
use Rattle.transactions.proofs.SameBranchLaws.{written_from}
use Rattle.transactions.proofs.same_branch.request_like.Goals as goal

pub returns-clause-written : goal.returns-clause-written
returns-clause-written c =
    written_from c.build_request.result _ c.args.uri.now c.args.via.now c.args.invite.now c.args.to.now c.args.method.now
    (record {
      same_method = refl;
      same_uri = refl;
      same_via = refl;
      same_from = refl;
      same_to = refl;
      same_call_id = c.as_bytes.ensures;
      same_number = refl;
      same_further = refl;
      same_body = refl;
    })
    c.build_request.ensures.written
