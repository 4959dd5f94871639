use Rattle.std.proofs.Common.{◌≤◌, All, length, map}
use Rattle.page_server.specs.Connections.{IsBriefNow, IsTimelyNow, held_of}
use Rattle.page_server.specs.Held.{AreLeft}
use Rattle.page_server.proofs.connections.turn_all.Given as goal

-- those that are left so far are timely and brief, they go on, and are at most as many as were taken
abbrev pub invariant-loop-connection : goal.invariant-loop-connection
invariant-loop-connection g l =
    All (IsTimelyNow l.now) l.kept.items × All (IsBriefNow l.now) l.kept.items
    × AreLeft l.now (map held_of l.yielded) (map held_of l.kept.items)
    × (length l.kept.items ≤ length l.yielded)
