use Rattle.std.proofs.Common.{◌≡◌, ◌+◌, ◌≤◌, take, drop, find, is_some}
use Rattle.call_messages.specs.Dressed.{behind}
use Rattle.call_messages.specs.Dressing.{dressed}
use Rattle.call_steps.specs.Messages.{ack_kept, answer_kept, is_answer}
use Rattle.call_steps.specs.Values.{scene_value}
use Rattle.call_steps.proofs.messages.with_copies.Given as goal

-- what the remaining actions result in, after what was put; and what is kept of those that were dressed
abbrev pub invariant-loop-at : goal.invariant-loop-at
invariant-loop-at l = record {
  whole : behind l.said.dressed (dressed l.scene (l.scene.tokens + l.said.dressed.made) (drop l.at l.actions)) ≡ dressed l.scene l.scene.tokens l.actions;
  few : l.said.dressed.made ≤ l.at;
  answered : l.answered ≡ is_some (find is_answer (take l.at l.actions));
  answer : l.said.answer ≡ answer_kept (scene_value l.scene) (find is_answer (take l.at l.actions));
  ack : l.said.ack ≡ ack_kept (scene_value l.scene) (take l.at l.actions);
}
