use Rattle.std.proofs.Common.{◌≡◌, ◌++◌, codes, map, drop}
use Rattle.sip_message.specs.Lookup.{values_named}
use Rattle.responses.proofs.tags.required_texts.Given as goal

-- the texts so far and those that are left are all
abbrev pub invariant-loop-value : goal.invariant-loop-value
invariant-loop-value l = l.texts.items ++ map (λ v. v.now) (drop l.value-index l.value-items) ≡ values_named (codes "Require") l.headers
