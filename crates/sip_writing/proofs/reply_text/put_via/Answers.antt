use Rattle.std.proofs.Common.{◌∙◌, ◌++◌, ap, codes, append_assoc}
use Rattle.sip_uri.specs.Writing.{params_text}
use Rattle.sip_writing.proofs.reply_text.put_via.Goals as goal

pub returns : goal.returns
returns c =
    let via = c.args.via.now in
    let front = c.args.out.now.items in
    let name = codes "Via: SIP/2.0/UDP " in
    let params = params_text 59 59 via.params in
    rw (c.in_ok-extend_from_slice-3.ensures.items, c.in_ok-put_params.ensures.ok, c.in_ok-extend_from_slice-2.ensures.items, c.in_ok-extend_from_slice.ensures.items, c.as_bytes.ensures, c.as_slice.ensures)
    (ap (λ t. t ++ codes "\r\n") (append_assoc (front ++ name) via.sent_by params) ∙ append_assoc (front ++ name) (via.sent_by ++ params) (codes "\r\n")
    ∙ append_assoc front name ((via.sent_by ++ params) ++ codes "\r\n"))
