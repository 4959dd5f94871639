use Rattle.std.proofs.Common.{◌++◌, ◌∷◌, [], codes, decimal}
use Rattle.sip_message.specs.Lookup.{named}
use Rattle.sip_writing.specs.Reply.{via_headers}
use Rattle.sip_writing.proofs.RequiredLines.{joined_lines, list_is, one}
use Rattle.sip_writing.proofs.request_text.put_required.Goals as goal

pub returns : goal.returns
returns c =
    let p = c.args.parts.now in
    let front = c.args.out.now.items in
    let vias = via_headers p.vias in
    let hops = named (codes "Max-Forwards") (decimal c.args.hops) in
    rw (c.in_ok-put_call.ensures, c.in_ok-extend_from_slice-4.ensures.items, c.in_ok-extend_from_slice-3.ensures.items, c.in_ok-extend_from_slice-2.ensures.items, c.in_ok-extend_from_slice.ensures.items, c.in_ok-put_hops.ensures, c.in_ok-put_vias.ensures, c.as_bytes.ensures, c.as_bytes-2.ensures, c.as_slice.ensures, list_is c.args.hops p, one front vias hops)
    (joined_lines front (vias ++ hops ∷ []) p.from_text p.to_text p.call_id p.cseq_text)
