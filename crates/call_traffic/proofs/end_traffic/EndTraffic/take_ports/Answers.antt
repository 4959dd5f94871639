use Rattle.std.proofs.Common.{◌≡◌, true, All, filter, ap, sym, subst, ◌∙◌}
use Rattle.std.proofs.lemmas.List.{take_all}
use Rattle.std.proofs.lemmas.List.Elements.{All-nil, filter_passes}
use Rattle.call_traffic.specs.EndTraffic.{is_among, with_ports}
use Rattle.call_traffic.proofs.PortLaws.{next_faces, next_only, next_taken}
use Rattle.call_traffic.proofs.end_traffic.EndTraffic.take_ports.Goals as goal

pub loop-port-init : goal.loop-port-init
loop-port-init c = record {
  faces = All-nil (λ p. is_among c.leave_others.new.self.ports.items p ≡ true);
  only = subst (All (λ p. is_among c.args.ports.now p ≡ true)) (sym c.leave_others.ensures.ports) (filter_passes (is_among c.args.ports.now) c.args.self.now.ports.items);
  taken = c.leave_others.ensures.ports;
  total = c.leave_others.ensures.total;
  recent = c.leave_others.ensures.recent;
  way = c.leave_others.ensures.way;
}

pub loop-port-preserved : goal.loop-port-preserved
loop-port-preserved c = record {
  faces = next_faces c.args.ports.now c.loop-port.self.ports.items c.add_port.new.self.ports.items c.loop-port.port-index _ c.loop-port-test.true c.in_ok-add_port.ensures.ok c.loop-port.invariant.faces;
  only = next_only c.args.ports.now c.loop-port.self.ports.items c.add_port.new.self.ports.items c.loop-port.port-index _ c.loop-port-test.true c.in_ok-add_port.ensures.ok c.loop-port.invariant.only;
  taken = next_taken (filter (is_among c.args.ports.now) c.args.self.now.ports.items) c.args.ports.now c.loop-port.self.ports.items c.add_port.new.self.ports.items c.loop-port.port-index _ c.loop-port-test.true c.in_ok-add_port.ensures.ok c.loop-port.invariant.taken;
  total = c.add_port.ensures.total ∙ c.loop-port.invariant.total;
  recent = c.add_port.ensures.recent ∙ c.loop-port.invariant.recent;
  way = c.add_port.ensures.way ∙ c.loop-port.invariant.way;
}

pub returns-clause-faces : goal.returns-clause-faces
returns-clause-faces c =
    subst (All (λ p. is_among c.loop-port.self.ports.items p ≡ true)) (take_all c.loop-port.port-index c.args.ports.now c.loop-port-test.false) c.loop-port.invariant.faces

pub returns-clause-ports : goal.returns-clause-ports
returns-clause-ports c =
    c.loop-port.invariant.taken
    ∙ ap (with_ports (filter (is_among c.args.ports.now) c.args.self.now.ports.items)) (take_all c.loop-port.port-index c.args.ports.now c.loop-port-test.false)
