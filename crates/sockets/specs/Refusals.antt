-- Addresses to which the system refuses to send, in the order in which that began.
use Rattle.std.specs.Prelude.{ℕ, ◌==◌, ◌&&◌, Bool, List, [], ◌∷◌, ◌++◌, drop, length, nat_eq, nat_lt, position, remove, slice_get, Option, Some, None, if◌then◌else◌}
use Rattle.std.specs.Cmp.Lexicographic.{pointwise}
use Rattle.sip_uri.specs.declared.uri.Addr.{Addr}
use Rattle.sockets.specs.declared.refusals.Refusal.{Refusal}

-- the maximum number of current refusals
abbrev pub max_refusals : ℕ
max_refusals = 16

abbrev pub is_at : Addr → Refusal → Bool
is_at to r = pointwise nat_eq r.to.ip to.ip && (r.to.port == to.port)

-- the place of the refusal for this address
abbrev pub place_of : Addr → List Refusal → Option ℕ
place_of to refusals = position (is_at to) refusals

-- ---- a datagram went to an address, whose place is this

abbrev pub behind_sent : List Refusal → Option ℕ → List Refusal
behind_sent refusals None = refusals
behind_sent refusals (Some place) = remove refusals place

abbrev pub ended : List Refusal → Option ℕ → Option Refusal
ended refusals None = None
ended refusals (Some place) = slice_get refusals place

-- ---- a datagram was refused, whose address has this place

-- the earliest is forgotten if there are as many as there may be
abbrev pub with_room : List Refusal → List Refusal
with_room refusals = if nat_lt (length refusals) max_refusals then refusals else drop 1 refusals

abbrev pub behind_refusal : List Refusal → Refusal → Option ℕ → List Refusal
behind_refusal refusals refusal None = with_room refusals ++ refusal ∷ []
behind_refusal refusals refusal (Some place) = refusals

abbrev pub begun : Refusal → Option ℕ → Option Refusal
begun refusal None = Some refusal
begun refusal (Some place) = None
