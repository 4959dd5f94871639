use Rattle.transactions.proofs.ServerLaws.{no_servers, entered_servers, foreseen_may, calls_servers}
use Rattle.transactions.proofs.ShareLaws.{empty_shared, calls_shared}
use Rattle.transactions.proofs.laws.servers.Goals as goal

pub returns-clause-none : goal.returns-clause-none
returns-clause-none c = no_servers

pub returns-clause-change : goal.returns-clause-change
returns-clause-change c = λ now table change. entered_servers now table change

pub returns-clause-message : goal.returns-clause-message
returns-clause-message c = λ table message source. foreseen_may table message source

pub returns-clause-calls : goal.returns-clause-calls
returns-clause-calls c = λ table calls. calls_servers table calls

pub returns-clause-empty : goal.returns-clause-empty
returns-clause-empty c = λ table. empty_shared table

pub returns-clause-shared : goal.returns-clause-shared
returns-clause-shared c = λ table calls. calls_shared table calls
