use Rattle.std.proofs.Common.{sym}
use Rattle.header_fields.proofs.HeaderLineLaws.{line_parts}
use Rattle.header_fields.proofs.HeadSteps.{head_begins, nothing_open, head_on, head_off, head_stops, head_found, head_runs_out, line_refused}
use Rattle.header_fields.proofs.head.read_fields.Goals as goal

pub loop-init : goal.loop-init
loop-init c = record { whole = head_begins c.in_ok-headers.headers.items c.args.limit c.args.text.now c.in_ok-headers.ensures.items; open_ = nothing_open c.in_ok-headers.headers.items c.args.text.now c.args.text.now c.in_ok-headers.ensures.items }

pub returns-in_default : goal.returns-in_default
returns-in_default c = record { exact = head_stops c.loop.headers.items c.args.limit c.loop.counter c.loop.rest.now _ c.loop-test.true (sym c.in_default.ensures) c.loop.invariant.whole }

pub returns-then-is_empty : goal.returns-then-is_empty
returns-then-is_empty c =
    record {
      exact = rw c.from_vec.ensures (head_found c.loop.headers.items c.args.limit c.loop.counter c.loop.rest.now c.in-Some.line.now c.in-Some.after.now _ c.loop-test.true (sym c.in-Some.ensures) (sym c.if-is_empty.ensures) c.loop.invariant.whole);
    }

pub add_line-requires-clause-parts : goal.add_line-requires-clause-parts
add_line-requires-clause-parts c = (line_parts c.loop.rest.now c.in-Some.line.now c.in-Some.after.now (sym c.in-Some.ensures)).0

pub returns : goal.returns
returns c = record { exact = head_runs_out c.loop.headers.items c.args.limit c.loop.counter c.loop.rest.now _ c.loop-test.false c.loop.invariant.whole }

pub loop-preserved : goal.loop-preserved
loop-preserved c =
    record {
      whole = head_on c.loop.headers.items c.add_line.new.headers.items c.args.limit c.loop.counter c.loop.rest.now c.in-Some.line.now c.in-Some.after.now _ c.loop-test.true (sym c.in-Some.ensures) (sym c.if-is_empty.ensures)
          c.in-Ok.ensures.added c.loop.invariant.whole;
      open_ = c.in-Ok.ensures.open;
    }

pub returns-in-Err-Line : goal.returns-in-Err-Line
returns-in-Err-Line c =
    record {
      exact = head_off c.loop.headers.items c.args.limit c.loop.counter c.loop.rest.now c.in-Some.line.now c.in-Some.after.now _ c.loop-test.true (sym c.in-Some.ensures) (sym c.if-is_empty.ensures) (line_refused c.in-Err-Line.field-0 _ _ c.in-Err-Line.field-0-is c.in-Err-Line.ensures.added)
          c.loop.invariant.whole;
    }
