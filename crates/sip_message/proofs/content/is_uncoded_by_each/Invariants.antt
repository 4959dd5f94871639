use Rattle.std.proofs.Common.{◌≡◌, drop, map}
use Rattle.std.specs.List.{list_all}
use Rattle.sip_message.specs.Content.{is_uncoded_by}
use Rattle.sip_message.proofs.content.is_uncoded_by_each.Given as goal

-- all pass if those that are left do
abbrev pub invariant-loop-value : goal.invariant-loop-value
invariant-loop-value l = list_all is_uncoded_by (map (λ v. v.now) (drop l.value-index l.values)) ≡ list_all is_uncoded_by (map (λ v. v.now) l.values)
