use Rattle.call_media.proofs.ServeLaws.{spared_serves}
use Rattle.call_media.proofs.laws.spared_call_serves.Goals as goal

pub returns : goal.returns
returns c = spared_serves c.rows_of_session_stand.ensures.own
