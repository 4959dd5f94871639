use Rattle.std.proofs.Common.{◌∙◌, ap}
use Rattle.std.specs.Prelude.{slice_get}
use Rattle.calls.proofs.KeptLaws.{served_if}
use Rattle.calls.proofs.state.Calls.get.Goals as goal

pub returns-clause-served : goal.returns-clause-served
returns-clause-served c =
    rw (← c.self.view_is) (served_if (λ r. r.now) c.self.inside.pool c.self.inside.calls.items c.args.place c.call_at.result c.self.invariant.0.served
    (c.call_at.ensures ∙ ap (λ cs. slice_get cs c.args.place) c.as_slice.ensures.value))
