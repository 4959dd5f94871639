use Rattle.trace_reading.proofs.ReadLaws.{one_seen, same_bytes, shown_is_read}
use Rattle.trace_reading.proofs.laws.bytes_say_all.Goals as goal

pub returns-clause-one : goal.returns-clause-one
returns-clause-one c = one_seen

pub returns-clause-bytes : goal.returns-clause-bytes
returns-clause-bytes c = same_bytes

pub returns-clause-read : goal.returns-clause-read
returns-clause-read c = shown_is_read
