use Rattle.trace_reading.proofs.DialogLaws.{request_taken, response_taken, request_sent, response_sent, made_sent}
use Rattle.trace_reading.proofs.laws.dialogs_agree.Goals as goal

pub returns-clause-request_taken : goal.returns-clause-request_taken
returns-clause-request_taken c = request_taken

pub returns-clause-response_taken : goal.returns-clause-response_taken
returns-clause-response_taken c = response_taken

pub returns-clause-request_sent : goal.returns-clause-request_sent
returns-clause-request_sent c = request_sent

pub returns-clause-response_sent : goal.returns-clause-response_sent
returns-clause-response_sent c = response_sent

pub returns-clause-made : goal.returns-clause-made
returns-clause-made c = made_sent
