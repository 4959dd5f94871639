use Rattle.std.proofs.Common.{◌∙◌, ◌++◌, ◌∷◌, [], codes, decimal, append_assoc}
use Rattle.sip_writing.proofs.request_text.put_hops.Goals as goal

pub returns : goal.returns
returns c =
    let front = c.args.out.now.items in
    let name = codes "Max-Forwards: " in
    let hops = decimal c.args.hops in
    rw (c.in_ok-extend_from_slice-2.ensures.items, c.in_ok-put_number.ensures.ok, c.from.ensures, c.in_ok-extend_from_slice.ensures.items)
    (append_assoc (front ++ name) hops (13 ∷ 10 ∷ []) ∙ append_assoc front name (hops ++ 13 ∷ 10 ∷ []))
