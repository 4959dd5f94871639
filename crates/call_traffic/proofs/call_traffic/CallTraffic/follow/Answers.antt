use Rattle.std.proofs.Common.{List, subst, sym}
use Rattle.call_traffic.specs.Following.{HasGotPorts, LacksPorts}
use Rattle.call_traffic.specs.Reading.{Reading}
use Rattle.call_traffic.proofs.call_traffic.CallTraffic.follow.Goals as goal

pub returns-in-Ok-clause-ok : goal.returns-in-Ok-clause-ok
returns-in-Ok-clause-ok g c = record {
  read = c.read.new.self;
  got = c.get_ports.new.self;
  is_read = c.read.ensures.call;
  has_got = subst (λ (rs : List Reading). HasGotPorts c.args.call.now rs (g.C.PortCounter.readings c.get_ports.new.counter) c.read.new.self c.get_ports.new.self) c.read.ensures.told c.in-Ok.ensures.ok;
  expects = c.expect_after.ensures;
}

pub returns-in-Err-clause-err : goal.returns-in-Err-clause-err
returns-in-Err-clause-err g c = record {
  read = c.read.new.self;
  is_read = c.read.ensures.call;
  lacks = subst (LacksPorts c.read.new.self) (sym c.miss_ports.ensures) c.in-Err.ensures.err;
}
