use Rattle.std.proofs.Common.{◌≡◌, ◌++◌, drop}
use Rattle.sip_message.proofs.via.put_kept.Given as goal

-- the values so far and those that are left are all
abbrev pub invariant-loop-via : goal.invariant-loop-via
invariant-loop-via l = l.vias.items ++ drop l.via-index l.more ≡ l.initial.vias.items ++ l.more
