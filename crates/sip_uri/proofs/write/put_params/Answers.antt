use Rattle.std.proofs.Common.{◌≡◌, ◌++◌, ◌∙◌, ℕ, List, [], ◌∷◌, append_assoc}
use Rattle.sip_uri.proofs.BeginLaws.{on_err}
use Rattle.sip_uri.proofs.write.put_params.Goals as goal

-- a mark and a part after what was written before
behind : (old written part : List ℕ) (mark : ℕ) → ((old ++ written) ++ mark ∷ []) ++ part ≡ old ++ (written ++ mark ∷ part)
behind old written part mark = append_assoc (old ++ written) (mark ∷ []) part ∙ append_assoc old written (mark ∷ part)

pub returns-in_err-put_param-clause-err : goal.returns-in_err-put_param-clause-err
returns-in_err-put_param-clause-err c =
    let before = c.loop-param.invariant.1 in
    let part = c.in_err-put_param.ensures.err in
    on_err c.from_residual-in_err-put_param.result _
    (before.0 ++ c.loop-param.mark ∷ part.0, part.1 ∙ rw (c.in_ok-push.ensures.items, before.1) (behind c.args.out.now.items before.0 part.0 c.loop-param.mark))
