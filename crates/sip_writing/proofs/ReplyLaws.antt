-- The top Via of a response.
use Rattle.std.proofs.Common.{◌≡◌, ◌<◌, List, [], ◌∷◌, length, get_or, set, ap, arith}
use Rattle.sip_uri.specs.declared.uri.Addr.{Addr}
use Rattle.sip_message.specs.declared.via.Via.{Via}
use Rattle.sip_writing.specs.Reply.{marked, marked_top}

-- the first is marked in its place
pub top_marked : (source : Addr) (vias : List Via) (top : Via) → 0 < length vias → top ≡ marked source (get_or vias 0 top) → set vias 0 top ≡ marked_top source vias
top_marked source [] top some is = absurd (omega arith)
top_marked source (via ∷ vias) top some is = ap (λ (v : Via). v ∷ vias) is
