use Rattle.sip_message.specs.Values.{hops_behind}
use Rattle.sip_message.proofs.FaultLaws.{failed_then, handed_out}
use Rattle.sip_message.proofs.values.read_hops_behind.Goals as goal

pub returns-in_err-max_forwards : goal.returns-in_err-max_forwards
returns-in_err-max_forwards c =
    handed_out c.from_residual-in_err-max_forwards.result c.in_err-max_forwards.field-0.0 (hops_behind c.args.start.now c.args.method.now c.args.found.now.headers.now) c.from_residual-in_err-max_forwards.ensures.1
    (rw c.in_ok-check_contact.ensures (failed_then c.in_err-max_forwards.field-0.0 _ _ c.in_err-max_forwards.ensures))

pub returns-in_err-_content_type : goal.returns-in_err-_content_type
returns-in_err-_content_type c =
    handed_out c.from_residual-in_err-_content_type.result c.in_err-_content_type.field-0.0 (hops_behind c.args.start.now c.args.method.now c.args.found.now.headers.now) c.from_residual-in_err-_content_type.ensures.1
    (rw (c.in_ok-check_contact.ensures, c.in_ok-max_forwards.ensures) (failed_then c.in_err-_content_type.field-0.0 _ _ c.in_err-_content_type.ensures))
