-- Which way a medium of a description goes (RFC 4566 section 6, RFC 3264 section 5.1).
use Rattle.std.specs.Prelude.{ℕ, Bool, true, false, ◌==◌, nat_eq, List, [], ◌∷◌, codes, Option, Some, None, unwrap_or, if◌then◌else◌}
use Rattle.std.specs.Option.{option_or}
use Rattle.std.specs.Cmp.Lexicographic.{pointwise}
use Rattle.sdp.specs.declared.description.Description.{Description}
use Rattle.sdp.specs.declared.description.Media.{Media}
use Rattle.sdp.specs.declared.line.Line.{Line}
use Rattle.sdp.specs.declared.way.Way.{Way}
use Rattle.sdp.specs.declared.way.Way.TheVariants.{SendReceive, SendOnly, ReceiveOnly, Inactive}

-- a direction attribute is the whole value, and its case matters
abbrev pub way_named : List ℕ → Option Way
way_named text =
    if pointwise nat_eq text (codes "sendrecv") then Some SendReceive
    else (if pointwise nat_eq text (codes "sendonly") then Some SendOnly
    else (if pointwise nat_eq text (codes "recvonly") then Some ReceiveOnly
    else (if pointwise nat_eq text (codes "inactive") then Some Inactive
    else None)))

-- the direction that a line says, if it is an attribute `a=`
abbrev pub way_on : Line → Option Way
way_on line = if line.letter == 97 then way_named line.value else None

-- the direction that the first of these lines says
abbrev pub first_way : List Line → Option Way
first_way [] = None
first_way (line ∷ lines) = option_or (way_on line) (first_way lines)

-- the medium's own direction, or otherwise the session's, or otherwise both ways
unfoldable pub way_of : Description → Media → Way
way_of d m = unwrap_or (option_or (first_way m.after) (first_way d.after)) SendReceive

-- whether the side that wrote the description sends, and whether it receives
abbrev pub sends : Way → Bool
sends SendReceive = true
sends SendOnly = true
sends ReceiveOnly = false
sends Inactive = false

abbrev pub receives : Way → Bool
receives SendReceive = true
receives SendOnly = false
receives ReceiveOnly = true
receives Inactive = false
