-- What a text says of media, and its first fault (RFC 4566).
use Rattle.std.specs.Prelude.{ℕ, Bool, false, not, ◌&&◌, ◌||◌, ◌==◌, nat_eq, nat_le, List, [], ◌∷◌, length, drop, map, codes, Option, is_some, option_map, option_and_then, Result, Ok, Err, if◌then◌else◌}
use Rattle.std.specs.List.{list_all}
use Rattle.std.specs.Cmp.Lexicographic.{pointwise}
use Rattle.sdp.specs.declared.address.Address.{Address}
use Rattle.sdp.specs.declared.description.Description.{Description}
use Rattle.sdp.specs.declared.description.Media.{Media}
use Rattle.sdp.specs.declared.error.DescriptionError.{DescriptionError}
use Rattle.sdp.specs.declared.error.DescriptionError.TheVariants as Faults
use Rattle.sdp.specs.Addresses.{address_of}
use Rattle.sdp.specs.Classes.{begins}
use Rattle.sdp.specs.Limits.{max_media, max_formats}
use Rattle.sdp.specs.Lines.{lines_of, is_formed, value_on, line_of}
use Rattle.sdp.specs.MediumLines.{raw_medium_of, is_raw_medium, port_of, count_of, formats_of}
use Rattle.sdp.specs.Order.{Group, upto_medium, groups, before_lines, connection_in, after_lines, info_under, connection_under, after_under, is_ordered}
use Rattle.sdp.specs.Origins.{origin_of, is_origin}
use Rattle.sdp.specs.PlaceOf.{address_of_medium}

-- ---- tests of lines

-- the first line is v=0
abbrev pub is_version : List (List ℕ) → Bool
is_version [] = false
is_version (line ∷ lines) = pointwise nat_eq line (codes "v=0")

-- the second line has an origin
abbrev pub has_origin : List (List ℕ) → Bool
has_origin [] = false
has_origin (version ∷ []) = false
has_origin (version ∷ line ∷ lines) = is_origin (origin_of (value_on line))

-- a line c= has an address
abbrev pub is_good_connection : List ℕ → Bool
is_good_connection line = not (begins (codes "c") line) || is_some (address_of (value_on line))

-- a line m= has the parts of a medium
abbrev pub is_good_medium : List ℕ → Bool
is_good_medium line = not (begins (codes "m") line) || is_raw_medium (raw_medium_of (value_on line))

-- ---- what lines mean

abbrev pub connection_of : Option (List ℕ) → Option Address
connection_of line = option_and_then (λ l. address_of (value_on l)) line

unfoldable pub media_of : Group → Media
media_of group =
    let raw = raw_medium_of (value_on group.medium) in
    record {
      kind = raw.kind;
      port = port_of raw;
      count = count_of raw;
      proto = raw.proto;
      formats = formats_of raw.formats;
      info = option_map value_on (info_under group.under);
      connection = connection_of (connection_under group.under);
      after = map line_of (after_under group.under);
    }

-- the line after the first
abbrev pub second : List (List ℕ) → List ℕ
second [] = []
second (version ∷ []) = []
second (version ∷ line ∷ lines) = line

unfoldable pub value_of : List (List ℕ) → Description
value_of lines =
    let rest = drop 2 (upto_medium lines) in
    record {
      origin = origin_of (value_on (second lines));
      before = map line_of (before_lines rest);
      connection = connection_of (connection_in rest);
      after = map line_of (after_lines rest);
      media = map media_of (groups lines);
    }

-- ---- tests of the value

-- a medium that is used has an address
abbrev pub is_placed : Description → Media → Bool
is_placed d m = m.port == 0 || is_some (address_of_medium d m)

abbrev pub has_places : Description → Bool
has_places d = list_all (is_placed d) d.media

abbrev pub has_few_media : Description → Bool
has_few_media d = nat_le (length d.media) max_media

abbrev pub has_few_formats : Description → Bool
has_few_formats d = list_all (λ m. nat_le (length m.formats) max_formats) d.media

unfoldable pub judgment : Description → Result Description DescriptionError
judgment d =
    if has_places d
    then (if has_few_media d
    then (if has_few_formats d then Ok d else Err Faults.TooManyFormats)
    else Err Faults.TooManyMedia)
    else Err Faults.NoConnection

-- ---- all

-- the lines say version and origin, and each c= and m= is well formed
abbrev pub is_sound : List (List ℕ) → Bool
is_sound lines = is_version lines && has_origin lines && list_all is_good_connection lines && list_all is_good_medium lines

-- the faults of lines, in their order, before those of the value
unfoldable pub said_by : List (List ℕ) → Result Description DescriptionError
said_by lines =
    if is_version lines
    then (if has_origin lines
    then (if list_all is_good_connection lines
    then (if list_all is_good_medium lines then judgment (value_of lines)
    else Err Faults.Medium)
    else Err Faults.Connection)
    else Err Faults.Origin)
    else Err Faults.Version

unfoldable pub description_of : List ℕ → Result Description DescriptionError
description_of text =
    let lines = lines_of text in
    if is_ordered lines
    then (if list_all is_formed lines then said_by lines else Err Faults.LineForm)
    else Err Faults.Order
