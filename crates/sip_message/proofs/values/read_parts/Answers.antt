use Rattle.sip_message.specs.Values.{parts_of}
use Rattle.sip_message.proofs.FaultLaws.{failed_then, handed_out}
use Rattle.sip_message.proofs.values.read_parts.Goals as goal

pub returns-in_err-from : goal.returns-in_err-from
unfolding parts_of
returns-in_err-from c =
    handed_out c.from_residual-in_err-from.result c.in_err-from.field-0.0 (parts_of c.args.start.now c.args.found.now.headers.now) c.from_residual-in_err-from.ensures.1
    (rw c.in_ok-vias.ensures (failed_then c.in_err-from.field-0.0 _ _ (failed_then c.in_err-from.field-0.0 _ _ c.in_err-from.ensures)))

pub returns-in_err-to : goal.returns-in_err-to
unfolding parts_of
returns-in_err-to c =
    handed_out c.from_residual-in_err-to.result c.in_err-to.field-0.0 (parts_of c.args.start.now c.args.found.now.headers.now) c.from_residual-in_err-to.ensures.1
    (rw (c.in_ok-vias.ensures, c.in_ok-from.ensures) (failed_then c.in_err-to.field-0.0 _ _ (failed_then c.in_err-to.field-0.0 _ _ c.in_err-to.ensures)))

pub returns-in_err-call_id : goal.returns-in_err-call_id
unfolding parts_of
returns-in_err-call_id c =
    handed_out c.from_residual-in_err-call_id.result c.in_err-call_id.field-0.0 (parts_of c.args.start.now c.args.found.now.headers.now) c.from_residual-in_err-call_id.ensures.1
    (rw (c.in_ok-vias.ensures, c.in_ok-from.ensures, c.in_ok-to.ensures) (failed_then c.in_err-call_id.field-0.0 _ _ c.in_err-call_id.ensures))

pub returns-in_err-sequence : goal.returns-in_err-sequence
unfolding parts_of
returns-in_err-sequence c =
    handed_out c.from_residual-in_err-sequence.result c.in_err-sequence.field-0.0 (parts_of c.args.start.now c.args.found.now.headers.now) c.from_residual-in_err-sequence.ensures.1
    (rw (c.in_ok-vias.ensures, c.in_ok-from.ensures, c.in_ok-to.ensures, c.in_ok-call_id.ensures) (failed_then c.in_err-sequence.field-0.0 _ _ c.in_err-sequence.ensures))
