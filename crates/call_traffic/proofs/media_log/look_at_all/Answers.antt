use Rattle.std.proofs.Common.{◌<◌, length, get_or, arith}
use Rattle.call_traffic.specs.Calls.{IsSeen}
use Rattle.call_traffic.proofs.EachLaws.{rest_more, zip_more}
use Rattle.call_traffic.proofs.media_log.look_at_all.Goals as goal

pub loop-call-preserved : goal.loop-call-preserved
loop-call-preserved c =
    let befores = c.args.calls.now in
    let nows = c.loop-call.calls in
    let i = c.loop-call.call-index in
    let less : i < length nows = omega arith in
    let seen : IsSeen c.args.now (get_or nows i c.call-item.result) c.look.new.self = record {
      looks = c.look.ensures.looks;
      caller = c.look.ensures.caller;
      callee = c.look.ensures.callee;
      others = c.look.ensures.others;
    } in
    record {
      seen = zip_more (IsSeen c.args.now) befores nows i c.call-item.result c.look.new.self less c.loop-call.invariant.rest c.loop-call.invariant.seen seen;
      rest = rest_more befores nows i c.look.new.self c.loop-call.invariant.rest;
    }
