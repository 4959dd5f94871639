use Rattle.std.proofs.Common.{◌≡◌, drop}
use Rattle.sip_message.specs.Via.{each_via, via_texts, put_before}
use Rattle.sip_message.proofs.via.read_each.Given as goal

-- the values so far and those of what is left are all
abbrev pub invariant-loop-header : goal.invariant-loop-header
invariant-loop-header l = put_before l.vias.items (each_via (via_texts (drop l.header-index l.headers))) ≡ each_via (via_texts l.headers)
