use Rattle.std.proofs.Common.{◌≡◌, ◌+◌, ◌≤◌, ◌∷◌, ◌++◌, [], length}
use Rattle.sockets.specs.ErrorStreams.{Follow, left_after}
use Rattle.sockets.proofs.error_stream.ErrorStream.write.Given as goal

-- the parts so far follow each other, and this is left of the text
abbrev pub invariant-loop : goal.invariant-loop
invariant-loop g l = record {
  texts : l.self.texts ≡ l.fn.self.texts ++ l.text ∷ [];
  parts : Follow l.text l.self.parts;
  left : left_after l.text l.self.parts ≡ l.left;
  patience : l.self.patience ≤ l.fn.self.patience;
  waited : length l.fn.self.waited + l.fn.self.patience ≤ length l.self.waited + l.self.patience;
}
