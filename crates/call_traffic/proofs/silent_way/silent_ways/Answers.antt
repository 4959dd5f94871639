use Rattle.std.proofs.Common.{◌<◌, length, arith, length-set}
use Rattle.call_traffic.proofs.EachLaws.{rest_more}
use Rattle.call_traffic.proofs.WayLaws.{tells_more}
use Rattle.call_traffic.proofs.silent_way.silent_ways.Goals as goal

pub loop-call-preserved : goal.loop-call-preserved
loop-call-preserved c =
    let befores = c.args.calls.now in
    let nows = c.loop-call.calls in
    let i = c.loop-call.call-index in
    let is = c.put_of_call.new.call in
    let told = c.put_of_call.ensures.tells in
    let count = length-set nows i is in
    let less : i < length nows = omega arith in
    record {
      tells = tells_more c.args.now befores nows i c.call-item.result is c.loop-call.ways.items told.0 c.put_of_call.new.ways.items less c.loop-call.invariant.rest c.loop-call.invariant.tells
          told.1 told.2;
      rest = rest_more befores nows i is c.loop-call.invariant.rest;
      used = omega (arith, c.put_of_call.ensures.len, c.loop-call.invariant.used);
      room = omega (arith, count, c.put_of_call.ensures.capacity, c.loop-call.invariant.room);
    }
