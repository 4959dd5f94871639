use Rattle.std.proofs.Common.{◌≡◌, drop, map}
use Rattle.std.specs.List.{list_all}
use Rattle.sip_message.specs.Content.{is_identity}
use Rattle.sip_message.proofs.content.are_identities.Given as goal

-- all pass if those that are left do
abbrev pub invariant-loop-coding : goal.invariant-loop-coding
invariant-loop-coding l = list_all is_identity (map (λ c. c.now) (drop l.coding-index l.codings)) ≡ list_all is_identity (map (λ c. c.now) l.codings)
