use Rattle.std.proofs.Common.{◌≡◌, ◌++◌, map, drop}
use Rattle.responses.specs.Responding.{contact_header}
use Rattle.responses.proofs.own_responses.contact_headers.Given as goal

-- the headers so far and those of what is left are all
abbrev pub invariant-loop-binding : goal.invariant-loop-binding
invariant-loop-binding l = l.headers.items ++ map (contact_header l.now) (drop l.binding-index l.bindings) ≡ map (contact_header l.now) l.bindings
