use Rattle.std.proofs.Common.{◌∙◌, ap}
use Rattle.sip_writing.specs.Reply.{asks_port}
use Rattle.sip_writing.proofs.MarkedText.{via_written}
use Rattle.sip_writing.proofs.marked_text.put_marked_via.Goals as goal

pub returns : goal.returns
returns c =
    rw (c.in_ok-extend_from_slice-3.ensures.items, c.in_ok-put_received.ensures, c.in_ok-put_marked_params.ensures, c.in_ok-extend_from_slice-2.ensures.items, c.in_ok-extend_from_slice.ensures.items, c.as_bytes.ensures, c.as_slice-params.ensures)
    (via_written c.args.out.now.items c.args.source c.args.via.now c.asks_port-asked.result c.needs_received-needed.result
    (c.asks_port-asked.ensures ∙ ap asks_port c.as_slice-params.ensures) c.needs_received-needed.ensures)
