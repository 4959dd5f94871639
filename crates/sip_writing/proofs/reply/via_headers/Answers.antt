use Rattle.std.proofs.Common.{◌≡◌, ◌∙◌, ◌+◌, ◌∷◌, ◌++◌, [], List, drop, codes, ap, sym, arith, append_assoc}
use Rattle.std.proofs.lemmas.List.{at_drop_more}
use Rattle.sip_message.specs.Lookup.{named}
use Rattle.sip_writing.specs.Reply.{via_text, via_headers}
use Rattle.sip_message.specs.declared.headers.Header.{Header}
use Rattle.sip_message.specs.declared.via.Via.{Via}
use Rattle.sip_writing.proofs.reply.via_headers.Goals as goal

pub loop-via-preserved : goal.loop-via-preserved
loop-via-preserved c =
    let more : List Header = via_headers (drop (c.loop-via.via-index + 1) c.args.vias.now) in
    let here : via_headers (drop c.loop-via.via-index c.args.vias.now) ≡ named (codes "Via") (via_text c.via-item.result) ∷ more =
    at_drop_more via_headers c.args.vias.now c.loop-via.via-index c.via-item.result (omega arith) ∙ ap (λ (v : Via). named (codes "Via") (via_text v) ∷ more) (sym c.via-item.is) in
    rw (c.in_ok-push.ensures.items, c.in_ok-via_header.ensures)
    (append_assoc c.loop-via.headers.items (named (codes "Via") (via_text c.via-item.result) ∷ []) more ∙ ap (λ (hs : List Header). c.loop-via.headers.items ++ hs) (sym here) ∙ c.loop-via.invariant)
