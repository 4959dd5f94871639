use Rattle.sip_writing.specs.Reply.{marked_top, reply_headers, replied, tagged_text, via_headers}
use Rattle.sip_writing.proofs.RequiredLines.{joined_lines}
use Rattle.sip_writing.proofs.reply_text.put_repeated.Goals as goal

pub returns : goal.returns
unfolding reply_headers replied
returns c =
    let r = c.args.reply.now in
    let p = r.parts.now in
    rw (c.in_ok-put_call.ensures, c.in_ok-put_to.ensures, c.in_ok-extend_from_slice-3.ensures.items, c.in_ok-extend_from_slice-2.ensures.items, c.in_ok-extend_from_slice.ensures.items, c.in_ok-put_marked.ensures, c.as_bytes.ensures, c.as_slice.ensures)
    (joined_lines c.args.out.now.items (via_headers (marked_top r.source p.vias)) p.from_text (tagged_text r.status p.to p.to_text r.tag.now) p.call_id p.cseq_text)
