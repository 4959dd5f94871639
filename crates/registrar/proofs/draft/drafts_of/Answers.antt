use Rattle.std.proofs.Common.{◌∙◌, take, nat_lt, sym, subst, arith}
use Rattle.std.proofs.lemmas.List.Elements.{filter_passes}
use Rattle.registrar.specs.Registering.{AllLast}
use Rattle.registrar.proofs.PresentLaws.{present_more}
use Rattle.registrar.proofs.draft.drafts_of.Goals as goal

pub loop-binding-preserved : goal.loop-binding-preserved
loop-binding-preserved c =
    let more = present_more c.args.now c.args.bindings.now c.loop-binding.binding-index c.binding-item.result (omega arith) c.binding-item.is (sym c.is_present.ensures ∙ c.if-not-is_present.false) in
    cc (more, c.in_ok-draft_of.ensures, c.in_ok-push.ensures.items)

pub returns-clause-last : goal.returns-clause-last
returns-clause-last c = subst (λ bs. AllLast c.args.now bs) (sym c.loop-binding.invariant) (filter_passes (λ b. nat_lt c.args.now b.expires_at) (take c.loop-binding.binding-index c.args.bindings.now))
