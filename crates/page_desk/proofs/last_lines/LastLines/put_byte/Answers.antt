use Rattle.page_desk.proofs.LineLaws.{line_ended}
use Rattle.page_desk.proofs.last_lines.LastLines.put_byte.Goals as goal

pub returns-then-byte-eq-LINE_FEED-clause-ok : goal.returns-then-byte-eq-LINE_FEED-clause-ok
returns-then-byte-eq-LINE_FEED-clause-ok c =
    line_ended c.end_line.result c.args.self.now c.end_line.new.self c.args.byte c.if-byte-eq-LINE_FEED.true c.end_line.ensures.ok
