-- The rows that a session asks of the relay table, and the table that has them.
use Rattle.std.specs.Prelude.{◌≡◌, ℕ, Bool, true, not, ◌&&◌, ◌+◌, ◌%◌, ◌||◌, ◌==◌, nat_lt, List, [], ◌∷◌, ◌++◌, All, Option, Some, None, if◌then◌else◌}
use Rattle.std.specs.List.{filter_map, list_any}
use Rattle.sip_uri.specs.declared.uri.Addr.{Addr}
use Rattle.sdp.specs.declared.description.Media.{Media}
use Rattle.sdp.specs.declared.description.Description.{Description}
use Rattle.offer_answer.specs.Direct.{destination}

-- a port of the server that a session names: where what comes in there goes, if anywhere, and the port from which it is
-- sent
pub record Named : Type 0 where
  pub port : ℕ
  pub to : Option Addr
  pub from : ℕ

-- a port that leads to a place
pub record Row : Type 0 where
  pub port : ℕ
  pub to : Addr
  pub from : ℕ

-- the port above a place, for reports (RFC 3264 sections 5.1 and 6.1): none above 65535
abbrev pub above : Option Addr → Option Addr
above None = None
above (Some a) = if nat_lt a.port 65535 then Some (record { ip = a.ip; port = a.port + 1 }) else None

-- a port for media and the port above it for their reports
abbrev pub pair_named : ℕ → Option Addr → ℕ → List Named
pair_named port to from = record { port = port; to = to; from = from } ∷ record { port = port + 1; to = above to; from = from + 1 } ∷ []

-- for a medium that neither end rejects: the port given to the offerer leads to the answerer, from the port given to
-- the answerer; and the port given to the answerer leads to the offerer, from the port given to the offerer
abbrev pub medium_named : Description → Media → ℕ → ℕ → Description → Media → List Named
medium_named OX ox to_offerer to_answerer SY sy =
    if ox.port == 0 || sy.port == 0 then []
    else pair_named to_offerer (destination SY sy) to_answerer ++ pair_named to_answerer (destination OX ox) to_offerer

abbrev pub media_named : Description → List Media → List Media → List Media → Description → List Media → List Named
media_named OX (ox ∷ oxs) (sx ∷ sxs) (oy ∷ oys) SY (sy ∷ sys) = medium_named OX ox sx.port oy.port SY sy ++ media_named OX oxs sxs oys SY sys
media_named OX _ _ _ SY _ = []

-- the ports that are named by the offer taken OX, the answer sent SX, the offer sent OY and the answer taken SY
abbrev pub ports_named : Description → Description → Description → Description → List Named
ports_named OX SX OY SY = media_named OX OX.media SX.media OY.media SY SY.media

-- the pairs of ports that the session names, by their even ports: for each medium that is not rejected, the one given
-- to the offerer and the one given to the answerer
abbrev pub medium_pairs : Media → Media → Media → Media → List ℕ
medium_pairs ox sx oy sy = if ox.port == 0 || sy.port == 0 then [] else sx.port ∷ oy.port ∷ []

abbrev pub media_pairs : List Media → List Media → List Media → List Media → List ℕ
media_pairs (ox ∷ oxs) (sx ∷ sxs) (oy ∷ oys) (sy ∷ sys) = medium_pairs ox sx oy sy ++ media_pairs oxs sxs oys sys
media_pairs _ _ _ _ = []

abbrev pub pairs_named : Description → Description → Description → Description → List ℕ
pairs_named OX SX OY SY = media_pairs OX.media SX.media OY.media SY.media

abbrev pub row_to : ℕ → Option Addr → ℕ → Option Row
row_to port None from = None
row_to port (Some a) from = Some (record { port = port; to = a; from = from })

-- the rows of the session: of those ports, the ones that lead to a place
abbrev pub rows_of : Description → Description → Description → Description → List Row
rows_of OX SX OY SY = filter_map (λ n. row_to n.port n.to n.from) (ports_named OX SX OY SY)

-- a table that leads each of these ports where it is asked to, or nowhere
abbrev pub LeadsAll : (ℕ → Option Addr) → List Named → Type 0
LeadsAll table named = All (λ n. table n.port ≡ n.to) named

-- the table has the rows of the session, and none at the other ports that the session names
abbrev pub HasRows : (ℕ → Option Addr) → Description → Description → Description → Description → Type 0
HasRows table OX SX OY SY = LeadsAll table (ports_named OX SX OY SY)

-- the table with these rows alone
abbrev pub table_of : List Row → ℕ → Option Addr
table_of [] port = None
table_of (r ∷ rs) port = if r.port == port then Some r.to else table_of rs port

abbrev pub is_even : ℕ → Bool
is_even n = n % 2 == 0

-- no number occurs twice
abbrev pub are_distinct : List ℕ → Bool
are_distinct [] = true
are_distinct (n ∷ ns) = not (list_any (λ q. q == n) ns) && are_distinct ns
