use Rattle.std.proofs.Common.{◌≡◌, ◌+◌, ◌≤◌, length}
use Rattle.sockets.proofs.error_stream.ErrorStream.wait_for_room.Given as goal

-- each loss of patience was a wait
abbrev pub invariant-loop : goal.invariant-loop
invariant-loop g l = record {
  texts : l.self.texts ≡ l.fn.self.texts;
  parts : l.self.parts ≡ l.fn.self.parts;
  patience : l.self.patience ≤ l.fn.self.patience;
  waited : length l.fn.self.waited + l.fn.self.patience ≤ length l.self.waited + l.self.patience;
}
