use Rattle.std.proofs.Common.{◌∷◌, [], codes, decimal}
use Rattle.sip_uri.specs.NameAddr.{name_addr_text}
use Rattle.sip_message.specs.Lookup.{named}
use Rattle.sip_writing.specs.Reply.{via_text}
use Rattle.sip_writing.specs.Requests.{cseq_text}
use Rattle.sip_writing.specs.Unkept.{end_name, unkept_parts}
use Rattle.sip_writing.proofs.RequiredLines.{first_line, list_is, lines}
use Rattle.sip_writing.proofs.unkept.put_required.Goals as goal

pub returns : goal.returns
returns c =
    let r = c.args.request.now in
    let via = named (codes "Via") (via_text r.via.now) in
    rw (c.in_ok-put_cseq.ensures, c.in_ok-put_line.ensures, c.in_ok-put_end-2.ensures, c.in_ok-put_end.ensures, c.in_ok-put_hops.ensures, c.in_ok-put_via.ensures, list_is r.max_forwards (unkept_parts r), first_line c.args.out.now.items via)
    (lines c.args.out.now.items (via ∷ []) (named (codes "Max-Forwards") (decimal r.max_forwards)) (named (codes "From") (name_addr_text (end_name r.from))) (named (codes "To") (name_addr_text (end_name r.to)))
    (named (codes "Call-ID") r.call_id.now) (named (codes "CSeq") (cseq_text r.number r.method.now)))
