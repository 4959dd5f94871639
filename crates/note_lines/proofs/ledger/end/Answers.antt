use Rattle.std.proofs.Common.{rules}
use Rattle.std.proofs.lemmas.Fn.{filter_same}
use Rattle.note_lines.proofs.ledger.end.Goals as goal

pub returns-clause-entries : goal.returns-clause-entries
returns-clause-entries c = filter_same _ _ _ (λ x b f' k. search rules) _ _ c.retain.ensures.filtered
