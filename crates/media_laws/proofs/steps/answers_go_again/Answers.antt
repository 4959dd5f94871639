use Rattle.media_laws.proofs.CallLines.Again.{again_none}
use Rattle.media_laws.proofs.steps.answers_go_again.Goals as goal

pub returns : goal.returns
returns c = again_none (record { same = c.bytes_say_all.ensures.one; bytes = c.bytes_say_all.ensures.bytes; back = c.written_is_read.ensures })
