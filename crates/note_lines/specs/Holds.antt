-- Whether a call is held (RFC 3264 section 8.4).
use Rattle.std.specs.Prelude.{Bool, false, ◌&&◌, not}
use Rattle.std.specs.List.{list_any}
use Rattle.sdp.specs.declared.description.Description.{Description}
use Rattle.offer_answer.specs.declared.stream.Stream.{Stream}
use Rattle.offer_answer.specs.declared.stream.Stream.TheVariants.{Rejected, Used}
use Rattle.offer_answer.specs.Direct.{direct}

-- media are sent to both ends
abbrev pub goes_both_ways : Stream → Bool
goes_both_ways Rejected = false
goes_both_ways (Used kind proto to_answerer to_offerer) = to_answerer.on && to_offerer.on

-- what the offer and its answer mean has no stream that goes both ways
abbrev pub is_held : Description → Description → Bool
is_held offer answer = not (list_any goes_both_ways (direct offer answer))
