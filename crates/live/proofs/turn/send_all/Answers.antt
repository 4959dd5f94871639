use Rattle.std.proofs.Common.{rules, ◌≡◌, ◌≤◌, ◌++◌, ◌∷◌, ◌+◌, [], List, arith, subst, sym, take}
use Rattle.std.proofs.lemmas.List.{take_more}
use Rattle.events.specs.declared.sent.Sent.{Sent}
use Rattle.live.specs.Sending.{Sends}
use Rattle.live.proofs.SendLaws.{only_sends_more, sends_more}
use Rattle.live.proofs.turn.send_all.Goals as goal

pub loop-datagram-preserved : goal.loop-datagram-preserved
loop-datagram-preserved g c =
    let done = take c.loop-datagram.datagram-index c.args.datagrams.now in
    let d = c.datagram-item.result in
    let more : take (c.loop-datagram.datagram-index + 1) c.args.datagrams.now ≡ done ++ d ∷ [] = search (rules, take_more) in
    let so_far : c.loop-datagram.failed ≤ c.loop-datagram.datagram-index = c.loop-datagram.invariant.bound in
    let one : c.send_one-failed.result ≤ 1 = c.send_one-failed.ensures.bound in
    record {
      sends = subst (λ (ds : List Sent). Sends (g.W.Wire.seen c.args.wire.now).tried (g.W.Wire.seen c.send_one-failed.new.wire).tried ds (c.loop-datagram.failed + c.send_one-failed.result)) (sym more)
          (sends_more (g.W.Wire.seen c.args.wire.now).tried (g.W.Wire.seen c.loop-datagram.wire).tried (g.W.Wire.seen c.send_one-failed.new.wire).tried done (d ∷ []) c.loop-datagram.failed c.send_one-failed.result
          c.loop-datagram.invariant.sends c.send_one-failed.ensures.sends);
      bound = omega (arith, so_far, one);
      only_sends = only_sends_more _ _ _ c.loop-datagram.invariant.only_sends c.send_one-failed.ensures.only_sends;
    }
