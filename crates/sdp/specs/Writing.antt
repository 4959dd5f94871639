-- The lines that are written for a description (RFC 4566 section 5).
use Rattle.std.specs.Prelude.{ℕ, List, [], ◌∷◌, ◌++◌, map, codes, Option, Some, None, decimal, slice_index}
use Rattle.std.specs.List.{flat_map}
use Rattle.sdp.specs.declared.address.Address.{Address}
use Rattle.sdp.specs.declared.address.Address.TheVariants.{Ip4, Multicast, Ip6, Name}
use Rattle.sdp.specs.declared.description.Description.{Description}
use Rattle.sdp.specs.declared.description.Media.{Media}
use Rattle.sdp.specs.declared.description.Origin.{Origin}
use Rattle.sdp.specs.declared.line.Line.{Line}

-- ---- lines

-- `type=value`
abbrev pub line_text : Line → List ℕ
line_text line = line.letter ∷ 61 ∷ line.value

-- lines, each followed by CR LF
abbrev pub ended : List (List ℕ) → List ℕ
ended lines = flat_map (λ line. line ++ 13 ∷ 10 ∷ []) lines

-- ---- o= (section 5.2)

-- six fields separated by single spaces
abbrev pub origin_text : Origin → List ℕ
origin_text o =
    o.username ++ 32 ∷ (o.id ++ 32 ∷ (o.version ++ 32 ∷ (o.network_type ++ 32 ∷ (o.address_type ++ 32 ∷ o.address))))

abbrev pub origin_line : Origin → List ℕ
origin_line o = codes "o=" ++ origin_text o

-- ---- c= (section 5.7)

-- four numbers with dots between them
abbrev pub ip4_text : List ℕ → List ℕ
ip4_text octets = decimal (slice_index octets 0) ++ 46 ∷ (decimal (slice_index octets 1) ++ 46 ∷ (decimal (slice_index octets 2) ++ 46 ∷ decimal (slice_index octets 3)))

abbrev pub address_text : Address → List ℕ
address_text (Ip4 octets) = codes "IN IP4 " ++ ip4_text octets
address_text (Multicast text) = codes "IN IP4 " ++ text
address_text (Ip6 text) = codes "IN IP6 " ++ text
address_text (Name text) = codes "IN IP4 " ++ text

abbrev pub connection_lines : Option Address → List (List ℕ)
connection_lines None = []
connection_lines (Some address) = (codes "c=" ++ address_text address) ∷ []

-- ---- m= and what is under it (section 5.14)

-- `/count`
abbrev pub count_text : Option ℕ → List ℕ
count_text None = []
count_text (Some count) = 47 ∷ decimal count

-- each after a space
abbrev pub formats_text : List (List ℕ) → List ℕ
formats_text formats = flat_map (λ format. 32 ∷ format) formats

-- `m=kind port/count protocol format format`
abbrev pub medium_line : Media → List ℕ
medium_line m = codes "m=" ++ (m.kind ++ 32 ∷ (decimal m.port ++ (count_text m.count ++ 32 ∷ (m.proto ++ formats_text m.formats))))

abbrev pub info_lines : Option (List ℕ) → List (List ℕ)
info_lines None = []
info_lines (Some info) = (codes "i=" ++ info) ∷ []

abbrev pub media_lines : Media → List (List ℕ)
media_lines m = medium_line m ∷ (info_lines m.info ++ (connection_lines m.connection ++ map line_text m.after))

-- ---- all

unfoldable pub description_lines : Description → List (List ℕ)
description_lines d =
    codes "v=0" ∷ origin_line d.origin ∷ (map line_text d.before ++ (connection_lines d.connection ++ (map line_text d.after ++ flat_map media_lines d.media)))

unfoldable pub description_text : Description → List ℕ
description_text d = ended (description_lines d)
