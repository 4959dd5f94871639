use Rattle.call_trace.specs.Messages.{offering}
use Rattle.media_laws.proofs.EndTags.Timers.{timer_goes_on}
use Rattle.media_laws.proofs.takes_on.timers_go_on.Goals as goal

pub returns : goal.returns
returns c = λ s after begun more sent t old k before later known was knows e place c' n entries there stands listed input signal due.
    timer_goes_on (record { same = c.bytes_say_all.ensures.one; bytes = c.bytes_say_all.ensures.bytes; back = c.written_is_read.ensures }) c.bodies_describe.ensures c.sent_is_read.ensures
    (λ k t old new taken sent m h. (c.moves_keep.ensures.one offering k t old new taken sent m h).sessions.apart) s after begun more sent t old k before later known was knows e place c' n entries there stands listed input signal due
