use Rattle.message_laws.proofs.QuietEvents.SeenMessages.{answer_says, answer_sees, response_sees}
use Rattle.message_laws.proofs.message_views.responses_are_seen.Goals as goal

pub returns-clause-describes : goal.returns-clause-describes
returns-clause-describes c = answer_says c.bodies_describe.ensures

pub returns-clause-any : goal.returns-clause-any
returns-clause-any c = response_sees

pub returns-clause-trying : goal.returns-clause-trying
returns-clause-trying c = λ bytes a. response_sees bytes a.parts.now a.source 100 a.tag.now _

pub returns-clause-provisional : goal.returns-clause-provisional
returns-clause-provisional c = λ bytes server a status. response_sees bytes a.parts.now a.source status a.tag.now _

pub returns-clause-answer : goal.returns-clause-answer
returns-clause-answer c = answer_sees c.bodies_describe.ensures

pub returns-clause-refusal : goal.returns-clause-refusal
returns-clause-refusal c = λ bytes a status. response_sees bytes a.parts.now a.source status a.tag.now _

pub returns-clause-okay : goal.returns-clause-okay
returns-clause-okay c = λ bytes server a. response_sees bytes a.parts.now a.source 200 a.tag.now _
