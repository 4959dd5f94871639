use Rattle.std.proofs.Common.{◌≡◌, codes}
use Rattle.sip_message.specs.Seen.{seen}
use Rattle.sip_message.proofs.SeenLaws.{IsSeenBefore}
use Rattle.sip_message.proofs.lookup.found_in.Given as goal

-- what was found, with those that are left to look at, is all
abbrev pub invariant-loop-header : goal.invariant-loop-header
invariant-loop-header l =
    (l.found.headers.now ≡ l.headers)
    × IsSeenBefore l.header-index l.headers (codes "From") (seen l.found.from)
    × IsSeenBefore l.header-index l.headers (codes "To") (seen l.found.to)
    × IsSeenBefore l.header-index l.headers (codes "Call-ID") (seen l.found.call_id)
    × IsSeenBefore l.header-index l.headers (codes "CSeq") (seen l.found.cseq)
    × IsSeenBefore l.header-index l.headers (codes "Max-Forwards") (seen l.found.max_forwards)
    × IsSeenBefore l.header-index l.headers (codes "Content-Type") (seen l.found.content_type)
    × IsSeenBefore l.header-index l.headers (codes "Content-Length") (seen l.found.content_length)
