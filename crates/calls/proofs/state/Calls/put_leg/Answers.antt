use Rattle.std.proofs.Common.{◌∙◌, ◌<◌, ap, arith, length, refl, set, sym}
use Rattle.call_core.specs.Calls.{with_dialog}
use Rattle.call_core.specs.declared.call.Call.{Call}
use Rattle.dialogs.specs.declared.state.Dialog.{Dialog}
use Rattle.calls.specs.Carrying.{changed_at, with_call, with_dialog_at}
use Rattle.calls.proofs.KeptLaws.{kept_put, read_at, served_at, number_kept}
use Rattle.calls.proofs.TagLaws.{noted}
use Rattle.calls.proofs.state.Calls.put_leg.Goals as goal

pub invariant_of-self : goal.invariant_of-self
invariant_of-self c =
    let cs = c.self.inside.calls.items in
    let stood = c.index_mut.result.now in
    let within : c.args.place < length cs = omega (arith, c.if-place-len.false, c.len.ensures, c.self.inside.calls.ok.0) in
    let here = read_at cs c.args.place stood within c.index_mut.ensures.value in
    let put = c.put_dialog.ensures.call ∙ ap (λ (d : Dialog). with_dialog c.args.leg.end d stood.call) c.into_inner.ensures in
    let served = served_at c.self.inside.pool cs c.args.place stood c.self.invariant.0.served here in (
      kept_put cs c.args.place stood _ c.self.inside.pool c.self.inside.begun c.self.invariant.0 here (ap (λ (call : Call). call.number) put ∙ number_kept c.args.leg.end c.args.leg.dialog stood.call) (c.put_dialog.ensures.serves c.self.inside.pool served),
      ap (λ t. set c.self.inside.tags.items c.args.place t) c.prints_of.ensures
          ∙ noted c.self.inside.key cs _ c.args.place _ c.index.result.now c.self.inside.tags.items within c.self.invariant.1 refl c.index.ensures,
    )

pub returns-clause-calls : goal.returns-clause-calls
returns-clause-calls c =
    let cs = c.self.inside.calls.items in
    let stood = c.index_mut.result.now in
    let within : c.args.place < length cs = omega (arith, c.if-place-len.false, c.len.ensures, c.self.inside.calls.ok.0) in
    let here = read_at cs c.args.place stood within c.index_mut.ensures.value in
    let put = c.put_dialog.ensures.call ∙ ap (λ (d : Dialog). with_dialog c.args.leg.end d stood.call) c.into_inner.ensures in
    rw (← c.self.view_is) (ap (λ (call : Call). set cs c.args.place (with_call call stood)) put ∙ sym (ap (changed_at (with_dialog_at c.args.leg.end c.args.leg.dialog) c.args.place cs) here))
