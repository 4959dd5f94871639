use Rattle.std.proofs.Common.{rules, take}
use Rattle.server.proofs.InputLaws.{takes_more, takes_same}
use Rattle.server.proofs.input.read_datagram.Goals as goal

pub returns-then-count-eq0-clause-read : goal.returns-then-count-eq0-clause-read
returns-then-count-eq0-clause-read g c =
    let bytes = rw c.if-count-eq0.true at c.in_ok-count.ensures.bytes.0 in (
      takes_same (g.R.Read.remaining c.args.reader.now) (g.R.Read.remaining c.loop.reader) (g.R.Read.remaining c.read_some.new.reader) c.loop.whole.items c.loop.invariant.taken bytes,
      c.in_ok-count.ensures.bytes.1 c.if-count-eq0.true (search rules),
    )

pub loop-preserved : goal.loop-preserved
loop-preserved g c = record {
  room = c.in_ok-keep.ensures.room;
  taken = takes_more (g.R.Read.remaining c.args.reader.now) (g.R.Read.remaining c.loop.reader) (g.R.Read.remaining c.read_some.new.reader) c.loop.whole.items (take c.in_ok-count.count c.read_some.new.chunk) c.keep.new.whole.items c.loop.invariant.taken c.in_ok-count.ensures.bytes.0 c.in_ok-keep.ensures.ok;
}
