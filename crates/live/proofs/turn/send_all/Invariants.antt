use Rattle.std.proofs.Common.{◌≤◌, take}
use Rattle.live.specs.Sending.{Sends}
use Rattle.live.specs.States.{OnlySends}
use Rattle.live.proofs.turn.send_all.Given as goal

-- `failed` of the datagrams so far failed
abbrev pub invariant-loop-datagram : goal.invariant-loop-datagram
invariant-loop-datagram g l = record {
  sends : Sends (g.W.Wire.seen l.fn.wire).tried (g.W.Wire.seen l.wire).tried (take l.datagram-index l.datagrams) l.failed;
  bound : l.failed ≤ l.datagram-index;
  only_sends : OnlySends (g.W.Wire.seen l.fn.wire) (g.W.Wire.seen l.wire);
}
