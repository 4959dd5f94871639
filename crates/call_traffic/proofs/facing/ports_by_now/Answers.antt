use Rattle.std.proofs.Common.{◌≡◌, ◌+◌, [], ◌∷◌, ◌++◌, get_or, take, sym, subst, ◌∙◌, ap}
use Rattle.std.specs.List.{AllZip, flat_map}
use Rattle.std.proofs.lemmas.List.{take_more}
use Rattle.call_traffic.specs.Readings.{readings_of}
use Rattle.call_traffic.specs.RelayPorts.{IsJustGot}
use Rattle.call_traffic.proofs.EachLaws.{gives_push, zip_push}
use Rattle.call_traffic.proofs.facing.ports_by_now.Goals as goal

pub loop-number-preserved : goal.loop-number-preserved
loop-number-preserved g c =
    let numbers = c.deref-number-items.result.now in
    let ports = c.loop-number.ports.items in
    let i = c.loop-number.number-index in
    let port = c.first.result in
    let start = g.C.PortCounter.readings c.args.counter.now in
    let pushed : c.push.new.self.items ≡ ports ++ port ∷ [] = c.in_ok-push.ensures.items in
    record {
      got = subst (AllZip IsJustGot (take (i + 1) numbers)) (sym pushed)
          (subst (λ ns. AllZip IsJustGot ns (ports ++ port ∷ [])) (sym (take_more numbers i 0 c.loop-number-test.true))
          (zip_push IsJustGot (take i numbers) ports (get_or numbers i 0) port c.loop-number.invariant.got c.first.ensures.port));
      told = gives_push readings_of start (g.C.PortCounter.readings c.loop-number.counter) (g.C.PortCounter.readings c.first.new.counter) ports port c.loop-number.invariant.told c.first.ensures.told
          ∙ ap (λ ps. start ++ flat_map readings_of ps) (sym pushed);
    }
