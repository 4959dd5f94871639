use Rattle.sip_uri.proofs.GrammarLaws.{one_value}
use Rattle.sip_uri.proofs.NameLaws.{one_name}
use Rattle.sip_uri.proofs.laws.one_value.Goals as goal

pub returns-clause-uri : goal.returns-clause-uri
returns-clause-uri c = one_value

pub returns-clause-name : goal.returns-clause-name
returns-clause-name c = one_name
