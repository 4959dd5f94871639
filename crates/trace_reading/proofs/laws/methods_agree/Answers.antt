use Rattle.std.proofs.Common.{refl}
use Rattle.trace_reading.proofs.DialogLaws.{request_method, method_test}
use Rattle.trace_reading.proofs.laws.methods_agree.Goals as goal

pub returns-clause-request : goal.returns-clause-request
returns-clause-request c = request_method

pub returns-clause-test : goal.returns-clause-test
returns-clause-test c = method_test

pub returns-clause-invite : goal.returns-clause-invite
returns-clause-invite c = refl

pub returns-clause-update : goal.returns-clause-update
returns-clause-update c = refl

pub returns-clause-bye : goal.returns-clause-bye
returns-clause-bye c = refl

pub returns-clause-ack : goal.returns-clause-ack
returns-clause-ack c = refl
