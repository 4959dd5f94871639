use Rattle.std.proofs.lemmas.List.Elements.{All-map}
use Rattle.page_server.specs.Connections.{held_of}
use Rattle.page_server.specs.Held.{IsBrief, IsTimely}
use Rattle.page_server.proofs.connections.Connections.turn.Goals as goal

pub returns-clause-timely : goal.returns-clause-timely
returns-clause-timely g c = All-map (IsTimely c.args.now) held_of c.turn_all.result.items c.turn_all.ensures.timely

pub returns-clause-brief : goal.returns-clause-brief
returns-clause-brief g c = All-map (IsBrief c.args.now) held_of c.turn_all.result.items c.turn_all.ensures.brief
