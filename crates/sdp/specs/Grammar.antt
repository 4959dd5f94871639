-- Which texts are descriptions, by the lines that they are made of, to be read alongside RFC 4566 section 5.
use Rattle.std.specs.Prelude.{◌≡◌, ℕ, IsTrue, List, [], ◌∷◌, ◌++◌, map, codes, Option, Some, None}
use Rattle.std.specs.List.{list_all}
use Rattle.sdp.specs.declared.address.Address.{Address}
use Rattle.sdp.specs.declared.description.Description.{Description}
use Rattle.sdp.specs.declared.description.Media.{Media}
use Rattle.sdp.specs.declared.error.DescriptionError.{DescriptionError}
use Rattle.sdp.specs.declared.error.DescriptionError.TheVariants.{OutOfMemory, Order, LineForm, Version, Origin, Connection, Medium, NoConnection, TooManyMedia, TooManyFormats}
use Rattle.sdp.specs.Addresses.{IsAddress}
use Rattle.sdp.specs.Lines.{IsLines, lines_of, is_formed}
use Rattle.sdp.specs.MediumLines.{RawMedium, raw_medium_text, is_raw_medium, port_of, count_of, formats_of}
use Rattle.sdp.specs.Order.{is_before, is_after, is_media_after, is_ordered}
use Rattle.sdp.specs.Origins.{IsOrigin}
use Rattle.sdp.specs.Reading.{is_version, has_origin, is_good_connection, is_good_medium, value_of, has_places, has_few_media, has_few_formats}
use Rattle.sdp.specs.Writing.{line_text, info_lines}

-- ---- connections

-- no line, or a line c= with the address
abbrev pub SaysConnection : List (List ℕ) → Option Address → Type 0
SaysConnection lines None = lines ≡ []
SaysConnection lines (Some address) = (value : List ℕ) × (lines ≡ (codes "c=" ++ value) ∷ []) × IsAddress value address

-- ---- media

-- the value of a line m= says kind, port, count, protocol and formats of this medium
pub record SaysMedium (value : List ℕ) (m : Media) : Type 0 where
  pub raw : RawMedium
  pub whole : value ≡ raw_medium_text raw
  pub form : IsTrue (is_raw_medium raw)
  pub kind : m.kind ≡ raw.kind
  pub port : m.port ≡ port_of raw
  pub count : m.count ≡ count_of raw
  pub proto : m.proto ≡ raw.proto
  pub formats : m.formats ≡ formats_of raw.formats

-- lines under m=: i=, c=, and b k a
pub record SaysUnder (lines : List (List ℕ)) (m : Media) : Type 0 where
  pub connection : List (List ℕ)
  pub whole : lines ≡ info_lines m.info ++ (connection ++ map line_text m.after)
  pub says_connection : SaysConnection connection m.connection
  pub after : IsTrue (is_media_after (map line_text m.after))

-- a line m=, the lines under it, and more lines
pub record BeginsMedium (lines more : List (List ℕ)) (m : Media) : Type 0 where
  pub value : List ℕ
  pub under : List (List ℕ)
  pub whole : lines ≡ (codes "m=" ++ value) ∷ (under ++ more)
  pub says_medium : SaysMedium value m
  pub says_under : SaysUnder under m

-- the lines are these media, one after the other
abbrev pub SaysMedia : List (List ℕ) → List Media → Type 0
SaysMedia lines [] = lines ≡ []
SaysMedia lines (m ∷ ms) = (more : List (List ℕ)) × BeginsMedium lines more m × SaysMedia more ms

-- ---- descriptions

-- the lines are this description
pub record SaysDescription (lines : List (List ℕ)) (d : Description) : Type 0 where
  pub origin_value : List ℕ
  pub connection : List (List ℕ)
  pub media : List (List ℕ)
  pub whole : lines ≡ codes "v=0" ∷ (codes "o=" ++ origin_value) ∷ (map line_text d.before ++ (connection ++ (map line_text d.after ++ media)))
  pub says_origin : IsOrigin origin_value d.origin
  pub before : IsTrue (is_before (map line_text d.before))
  pub says_connection : SaysConnection connection d.connection
  pub after : IsTrue (is_after (map line_text d.after))
  pub says_media : SaysMedia media d.media

-- the text is this description
pub record ReadsDescription (text : List ℕ) (d : Description) : Type 0 where
  pub lines : List (List ℕ)
  pub are_lines : IsLines lines text
  pub formed : IsTrue (list_all is_formed lines)
  pub says : SaysDescription lines d
  pub places : IsTrue (has_places d)
  pub few_media : IsTrue (has_few_media d)
  pub few_formats : IsTrue (has_few_formats d)

-- ---- refusals

-- the lines of the text are in order, and each is well formed
pub record HasForm (text : List ℕ) : Type 0 where
  pub ordered : IsTrue (is_ordered (lines_of text))
  pub formed : IsTrue (list_all is_formed (lines_of text))

-- and the first two say version and origin
pub record HasHead (text : List ℕ) : Type 0 where
  pub form : HasForm text
  pub version : IsTrue (is_version (lines_of text))
  pub origin : IsTrue (has_origin (lines_of text))

-- and each c= and m= is well formed
pub record HasParts (text : List ℕ) : Type 0 where
  pub head : HasHead text
  pub connections : IsTrue (list_all is_good_connection (lines_of text))
  pub media : IsTrue (list_all is_good_medium (lines_of text))

-- the text has this fault, and none before it
abbrev pub Refuses : List ℕ → DescriptionError → Type 0
Refuses text OutOfMemory = Unit {0}
Refuses text Order = ¬ (IsTrue (is_ordered (lines_of text)))
Refuses text LineForm = IsTrue (is_ordered (lines_of text)) × ¬ (IsTrue (list_all is_formed (lines_of text)))
Refuses text Version = HasForm text × ¬ (IsTrue (is_version (lines_of text)))
Refuses text Origin = HasForm text × IsTrue (is_version (lines_of text)) × ¬ (IsTrue (has_origin (lines_of text)))
Refuses text Connection = HasHead text × ¬ (IsTrue (list_all is_good_connection (lines_of text)))
Refuses text Medium =
    HasHead text × IsTrue (list_all is_good_connection (lines_of text)) × ¬ (IsTrue (list_all is_good_medium (lines_of text)))
Refuses text NoConnection = HasParts text × ¬ (IsTrue (has_places (value_of (lines_of text))))
Refuses text TooManyMedia = HasParts text × IsTrue (has_places (value_of (lines_of text))) × ¬ (IsTrue (has_few_media (value_of (lines_of text))))
Refuses text TooManyFormats =
    HasParts text × IsTrue (has_places (value_of (lines_of text))) × IsTrue (has_few_media (value_of (lines_of text)))
    × ¬ (IsTrue (has_few_formats (value_of (lines_of text))))
