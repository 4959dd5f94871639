use Rattle.std.proofs.Common.{rules, ◌++◌, List, ℕ, subst, sym, take}
use Rattle.std.specs.Io.KnownBytes.{Consumes}
use Rattle.server.proofs.InputLaws.{consumes_more, consumes_same}
use Rattle.server.proofs.input.read_whole.Goals as goal

pub returns-then-count-eq0-clause-read : goal.returns-then-count-eq0-clause-read
returns-then-count-eq0-clause-read g c =
    let bytes = rw c.if-count-eq0.true at c.in_ok-count.ensures.bytes.0 in (
      consumes_same (g.R.Read.remaining c.args.reader.now) (g.R.Read.remaining c.loop.reader) (g.R.Read.remaining c.read_some.new.reader) c.loop.whole.items c.loop.invariant bytes,
      c.in_ok-count.ensures.bytes.1 c.if-count-eq0.true (search rules),
    )
