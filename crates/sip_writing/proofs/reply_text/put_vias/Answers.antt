use Rattle.std.proofs.Common.{◌≡◌, ◌∙◌, ◌+◌, ◌++◌, List, ℕ, drop, codes, ap, sym, arith, append_assoc}
use Rattle.std.proofs.lemmas.List.{at_drop_more}
use Rattle.sip_message.specs.Lookup.{named}
use Rattle.sip_message.specs.declared.via.Via.{Via}
use Rattle.sip_writing.specs.Reply.{via_text, via_headers}
use Rattle.sip_writing.specs.Writing.{header_text, headers_text}
use Rattle.sip_writing.proofs.reply_text.put_vias.Goals as goal

pub loop-via-preserved : goal.loop-via-preserved
loop-via-preserved c =
    let line : Via → List ℕ = λ via. header_text (named (codes "Via") (via_text via)) in
    let more : List ℕ = headers_text (via_headers (drop (c.loop-via.via-index + 1) c.args.vias.now)) in
    let here : headers_text (via_headers (drop c.loop-via.via-index c.args.vias.now)) ≡ line c.via-item.result ++ more =
    at_drop_more (λ vias. headers_text (via_headers vias)) c.args.vias.now c.loop-via.via-index c.via-item.result (omega arith) ∙ ap (λ (v : Via). line v ++ more) (sym c.via-item.is) in
    rw c.in_ok-put_via.ensures
    (append_assoc c.loop-via.out.items (line c.via-item.result) more ∙ ap (λ t. c.loop-via.out.items ++ t) (sym here) ∙ c.loop-via.invariant)
