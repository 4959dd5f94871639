use Rattle.call_trace.specs.Messages.{offering}
use Rattle.media_laws.proofs.EndTags.RequestSteps.{ack_goes_on, bye_goes_on, cancel_goes_on}
use Rattle.media_laws.proofs.requests_on.requests_go_on.Goals as goal

pub returns-clause-bye : goal.returns-clause-bye
returns-clause-bye c = λ s after begun more sent t old k before later known was knows e from place c' n entries there stands listed bytes r id taken read took.
    bye_goes_on (record { same = c.bytes_say_all.ensures.one; bytes = c.bytes_say_all.ensures.bytes; back = c.written_is_read.ensures }) c.bodies_describe.ensures c.sent_is_read.ensures (λ k t old new taken sent m h. (c.moves_keep.ensures.one offering k t old new taken sent m h).sessions.apart) s after begun more sent t old k before later known was knows e from place c' n entries there stands listed bytes r id taken read took

pub returns-clause-cancel : goal.returns-clause-cancel
returns-clause-cancel c = λ s after begun more sent t old k before later known was knows e from place c' n entries there stands listed bytes r id taken read took.
    cancel_goes_on (record { same = c.bytes_say_all.ensures.one; bytes = c.bytes_say_all.ensures.bytes; back = c.written_is_read.ensures }) c.bodies_describe.ensures c.sent_is_read.ensures (λ k t old new taken sent m h. (c.moves_keep.ensures.one offering k t old new taken sent m h).sessions.apart) s after begun more sent t old k before later known was knows e from place c' n entries there stands listed bytes r id taken read took

pub returns-clause-ack : goal.returns-clause-ack
returns-clause-ack c = λ s after begun more sent t old k before later known was knows e from place c' n entries there stands listed bytes r taken read took.
    ack_goes_on (record { same = c.bytes_say_all.ensures.one; bytes = c.bytes_say_all.ensures.bytes; back = c.written_is_read.ensures }) c.bodies_describe.ensures c.sent_is_read.ensures (λ k t old new taken sent m h. (c.moves_keep.ensures.one offering k t old new taken sent m h).sessions.apart) s after begun more sent t old k before later known was knows e from place c' n entries there stands listed bytes r 0 taken read took
