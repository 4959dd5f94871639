use Rattle.std.proofs.Common.{◌<◌, length, arith}
use Rattle.call_traffic.specs.Readings.{IsCallRead, call_readings}
use Rattle.call_traffic.proofs.EachLaws.{gives_more, rest_more, zip_more}
use Rattle.call_traffic.proofs.media_log.read_all.Goals as goal

pub loop-call-preserved : goal.loop-call-preserved
loop-call-preserved g c =
    let befores = c.args.calls.now in
    let nows = c.loop-call.calls in
    let i = c.loop-call.call-index in
    let less : i < length nows = omega arith in
    record {
      read = zip_more IsCallRead befores nows i c.call-item.result c.read.new.self less c.loop-call.invariant.rest c.loop-call.invariant.read c.read.ensures.call;
      rest = rest_more befores nows i c.read.new.self c.loop-call.invariant.rest;
      told = gives_more call_readings (g.C.PortCounter.readings c.args.counter.now) (g.C.PortCounter.readings c.loop-call.counter) (g.C.PortCounter.readings c.read.new.counter) nows i c.read.new.self less c.loop-call.invariant.told c.read.ensures.told;
    }
