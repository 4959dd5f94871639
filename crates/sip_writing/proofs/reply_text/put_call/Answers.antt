use Rattle.std.proofs.Common.{◌∙◌, ◌++◌, codes, append_assoc}
use Rattle.sip_writing.proofs.reply_text.put_call.Goals as goal

pub returns : goal.returns
returns c =
    let front = c.args.out.now.items in
    let p = c.args.parts.now in
    let name = codes "\r\nCall-ID: " in
    let next = codes "\r\nCSeq: " in
    let last = p.cseq_text ++ codes "\r\n" in
    rw (c.in_ok-extend_from_slice-5.ensures.items, c.in_ok-extend_from_slice-4.ensures.items, c.in_ok-extend_from_slice-3.ensures.items, c.in_ok-extend_from_slice-2.ensures.items, c.in_ok-extend_from_slice.ensures.items, c.as_bytes.ensures, c.as_bytes-2.ensures)
    (append_assoc (((front ++ name) ++ p.call_id) ++ next) p.cseq_text (codes "\r\n") ∙ append_assoc ((front ++ name) ++ p.call_id) next last
    ∙ append_assoc (front ++ name) p.call_id (next ++ last) ∙ append_assoc front name (p.call_id ++ (next ++ last)))
