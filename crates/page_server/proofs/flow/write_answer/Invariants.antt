use Rattle.std.proofs.Common.{◌≡◌, ◌≤◌}
use Rattle.page_server.proofs.flow.write_answer.Given as goal

-- the text stays, and what was sent stays sent
abbrev pub invariant-loop : goal.invariant-loop
invariant-loop g l = (l.answer.text ≡ l.initial.answer.text) × (l.initial.answer.sent ≤ l.answer.sent)
