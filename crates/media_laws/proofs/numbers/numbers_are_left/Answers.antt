use Rattle.media_laws.proofs.Scenes.CountingRows.{after_leaves, known_leaves, new_leaves}
use Rattle.media_laws.proofs.numbers.numbers_are_left.Goals as goal

pub returns-clause-begins : goal.returns-clause-begins
returns-clause-begins c = new_leaves

pub returns-clause-step : goal.returns-clause-step
returns-clause-step c = after_leaves

pub returns-clause-known : goal.returns-clause-known
returns-clause-known c = known_leaves
