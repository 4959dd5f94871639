use Rattle.step_laws.proofs.RepeatEvents.{absorbed, request, response, success}
use Rattle.step_laws.proofs.repeats.repeats_get_what_went_before.Goals as goal

pub returns-clause-request : goal.returns-clause-request
returns-clause-request c = request

pub returns-clause-absorbed : goal.returns-clause-absorbed
returns-clause-absorbed c = absorbed

pub returns-clause-response : goal.returns-clause-response
returns-clause-response c = response

pub returns-clause-success : goal.returns-clause-success
returns-clause-success c = success
