use Rattle.call_trace.specs.Messages.{offering}
use Rattle.media_laws.proofs.OfferPairs.First.{first_goes_on}
use Rattle.media_laws.proofs.OfferPairs.FirstSteps.{first_reached}
use Rattle.media_laws.proofs.OfferPairs.Later.{later_goes_on}
use Rattle.message_laws.proofs.StandingCalls.Reading.{Reading}
use Rattle.message_laws.proofs.Messages.ReadMessages.{message_reads, name_reads}
use Rattle.media_laws.proofs.offers_on.offers_go_on.Goals as goal

pub returns-clause-first : goal.returns-clause-first
returns-clause-first c = λ s after begun more sent t old k before later tied answers tags e from bytes r id taken read took to offer p.
    let names : Reading = record { message = message_reads; name = name_reads; callee = c.dialogs_are_sound.ensures.callee; contact = c.contacts_are_read.ensures } in
    let found = first_reached c.invites_name_a_contact.ensures.request names bytes r s e.now to offer read p in
    first_goes_on (record { same = c.bytes_say_all.ensures.one; bytes = c.bytes_say_all.ensures.bytes; back = c.written_is_read.ensures }) names c.bodies_describe.ensures c.sent_is_read.ensures
    (λ k t old new taken sent m h. (c.moves_keep.ensures.one offering k t old new taken sent m h).sessions.apart) s after begun more sent t old k before later tied answers tags e from bytes r id taken read took to found.0 offer p found.1

pub returns-clause-later : goal.returns-clause-later
returns-clause-later c = λ s after begun more sent t old k before later tied knows answers e from bytes r id taken read took place end c' offer p.
    later_goes_on (record { same = c.bytes_say_all.ensures.one; bytes = c.bytes_say_all.ensures.bytes; back = c.written_is_read.ensures }) (record { message = message_reads; name = name_reads; callee = c.dialogs_are_sound.ensures.callee; contact = c.contacts_are_read.ensures }) c.bodies_describe.ensures c.sent_is_read.ensures
    (λ k t old new taken sent m h. (c.moves_keep.ensures.one offering k t old new taken sent m h).sessions.apart) s after begun more sent t old k before later tied knows answers e from bytes r id taken read took place end c' offer p
