use Rattle.call_trace.specs.Messages.{offering}
use Rattle.media_laws.proofs.EndTags.Takes.{takes_go_on}
use Rattle.media_laws.proofs.takes_on.takes_go_on.Goals as goal

pub returns : goal.returns
returns c = λ s after begun more t old k before later e place c' n input signal leg request there stands listed is can fits taken first ms idle alone again takes are calls.
    takes_go_on (record { same = c.bytes_say_all.ensures.one; bytes = c.bytes_say_all.ensures.bytes; back = c.written_is_read.ensures }) c.bodies_describe.ensures c.sent_is_read.ensures
    (λ k t old new taken sent m h. (c.moves_keep.ensures.one offering k t old new taken sent m h).sessions.apart) s after begun more t old k before later e place c' n input signal leg request there stands listed is can taken first ms idle alone again
    takes fits are calls
