use Rattle.sip_message.specs.Read.{contents_of}
use Rattle.sip_message.specs.Values.{values_of}
use Rattle.sip_message.proofs.FaultLaws.{failed_then, handed_out}
use Rattle.sip_message.proofs.read.read_contents.Goals as goal

pub returns-in_err-parts : goal.returns-in_err-parts
unfolding contents_of values_of
returns-in_err-parts c =
    handed_out c.from_residual.result c.in_err-parts.field-0.0 (contents_of c.args.start.now c.args.found.now.headers.now c.args.rest.now) c.from_residual.ensures.1
    (failed_then c.in_err-parts.field-0.0 _ _ (failed_then c.in_err-parts.field-0.0 _ _ c.in_err-parts.ensures))

pub returns-in_err-max_forwards : goal.returns-in_err-max_forwards
unfolding contents_of values_of
returns-in_err-max_forwards c =
    handed_out c.from_residual-in_err-max_forwards.result c.in_err-max_forwards.field-0.0 (contents_of c.args.start.now c.args.found.now.headers.now c.args.rest.now) c.from_residual-in_err-max_forwards.ensures.1
    (rw c.in_ok-parts.ensures (failed_then c.in_err-max_forwards.field-0.0 _ _ (failed_then c.in_err-max_forwards.field-0.0 _ _ c.in_err-max_forwards.ensures)))

pub returns-in_err-body : goal.returns-in_err-body
unfolding contents_of values_of
returns-in_err-body c =
    handed_out c.from_residual-in_err-body.result c.in_err-body.field-0.0 (contents_of c.args.start.now c.args.found.now.headers.now c.args.rest.now) c.from_residual-in_err-body.ensures.1
    (rw (c.in_ok-parts.ensures, c.in_ok-max_forwards.ensures) (failed_then c.in_err-body.field-0.0 _ _ c.in_err-body.ensures))
