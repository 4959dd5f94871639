use Rattle.media_laws.proofs.Scenes.NewRequests.{request_stands}
use Rattle.media_laws.proofs.new_requests.new_requests_stand.Goals as goal

pub returns : goal.returns
returns c = request_stands
