use Rattle.log_pipe.proofs.WritingLaws.{both}
use Rattle.log_pipe.proofs.log_writer.LogWriter.write_both.Goals as goal

pub returns-then-of_events : goal.returns-then-of_events
returns-then-of_events g c =
    both c.args.self.now
    (record { events = c.write_all-of_events.new.ring; sending = c.write_all-of_sending.new.ring; stream = c.write_all-of_sending.new.stream })
    c.write_all-of_events.new.stream c.write_all-of_events.ensures c.write_all-of_sending.ensures

pub returns-else-of_events : goal.returns-else-of_events
returns-else-of_events g c =
    both c.args.self.now
    (record { events = c.write_all-of_events.new.ring; sending = c.write_all-of_sending.new.ring; stream = c.write_all-of_sending.new.stream })
    c.write_all-of_events.new.stream c.write_all-of_events.ensures c.write_all-of_sending.ensures
