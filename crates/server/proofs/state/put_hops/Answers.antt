use Rattle.std.proofs.Common.{arith}
use Rattle.server.proofs.StateLaws.{no_port, one_port_more, all_ports}
use Rattle.server.proofs.state.put_hops.Goals as goal

pub loop-port-init : goal.loop-port-init
loop-port-init c = no_port c.args.relay.now c.args.out.now.items

pub loop-port-preserved : goal.loop-port-preserved
loop-port-preserved c =
    one_port_more c.args.relay.now c.loop-port.port c.args.out.now.items c.loop-port.out.items c.put_hop_line.new.out.items
    c.loop-port.invariant c.in_ok-put_hop_line.ensures.ok

pub returns : goal.returns
returns c =
    record {
      ok = all_ports c.put_hop_line-2.result c.args.relay.now c.loop-port.port c.args.out.now.items c.loop-port.out.items
          c.put_hop_line-2.new.out.items (omega (arith, c.loop-port-test.false, c.loop-port.auto.port-end)) c.loop-port.invariant c.put_hop_line-2.ensures.ok;
    }
