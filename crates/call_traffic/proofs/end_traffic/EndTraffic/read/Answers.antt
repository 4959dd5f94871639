use Rattle.std.proofs.Common.{◌<◌, length, arith}
use Rattle.call_traffic.specs.Readings.{IsPortRead, readings_of}
use Rattle.call_traffic.proofs.EachLaws.{gives_more, rest_more, zip_more}
use Rattle.call_traffic.proofs.end_traffic.EndTraffic.read.Goals as goal

pub loop-port-preserved : goal.loop-port-preserved
loop-port-preserved g c =
    let befores = c.args.self.now.ports.items in
    let nows = c.loop-port.port-items in
    let i = c.loop-port.port-index in
    let less : i < length nows = omega arith in
    record {
      read = zip_more IsPortRead befores nows i _ c.read.new.self less c.loop-port.invariant.rest c.loop-port.invariant.read c.read.ensures.port;
      rest = rest_more befores nows i c.read.new.self c.loop-port.invariant.rest;
      told = gives_more readings_of (g.C.PortCounter.readings c.args.counter.now) (g.C.PortCounter.readings c.loop-port.counter) (g.C.PortCounter.readings c.read.new.counter) nows i c.read.new.self less c.loop-port.invariant.told c.read.ensures.told;
    }
