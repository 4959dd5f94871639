use Rattle.std.proofs.Common.{◌∙◌, ◌+◌, List, drop, ap, sym, arith, rules}
use Rattle.header_fields.specs.declared.headers.Header.{Header}
use Rattle.sip_message.specs.Via.{each_via, via_texts, put_before}
use Rattle.sip_message.proofs.ViaLaws.{fields_from, field_passed, field_put, field_refused}
use Rattle.sip_message.proofs.via.read_each.Goals as goal

pub loop-header-preserved-then-not-is_named : goal.loop-header-preserved-then-not-is_named
loop-header-preserved-then-not-is_named c =
    let here = fields_from c.args.headers.now c.loop-header.header-index c.header-item.result (omega arith) c.header-item.is in
    field_passed c.loop-header.vias.items c.header-item.result (drop (c.loop-header.header-index + 1) c.args.headers.now) _ (sym c.if-not-is_named.ensures) (ap (λ (hs : List Header). put_before c.loop-header.vias.items (each_via (via_texts hs))) (sym here) ∙ c.loop-header.invariant)

pub returns-then-not-all : goal.returns-then-not-all
returns-then-not-all c =
    let here = fields_from c.args.headers.now c.loop-header.header-index c.header-item.result (omega arith) c.header-item.is in
    field_refused c.loop-header.vias.items c.header-item.result (drop (c.loop-header.header-index + 1) c.args.headers.now) _ (sym c.if-not-is_named.ensures) _ _ c.in_ok-all.ensures (search rules) (ap (λ (hs : List Header). put_before c.loop-header.vias.items (each_via (via_texts hs))) (sym here) ∙ c.loop-header.invariant)

pub loop-header-preserved : goal.loop-header-preserved
loop-header-preserved c =
    let here = fields_from c.args.headers.now c.loop-header.header-index c.header-item.result (omega arith) c.header-item.is in
    field_put c.loop-header.vias.items _ c.header-item.result (drop (c.loop-header.header-index + 1) c.args.headers.now) _ (sym c.if-not-is_named.ensures) _ c.in_ok-all.ensures (search rules) (ap (λ (hs : List Header). put_before c.loop-header.vias.items (each_via (via_texts hs))) (sym here) ∙ c.loop-header.invariant)
