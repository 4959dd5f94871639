-- When two descriptions are alike: they say the same about media, and differ only in who and where.
use Rattle.std.specs.Prelude.{◌≡◌, ℕ, Bool, not, ◌&&◌, ◌||◌, ◌==◌, nat_eq, List, map, filter, codes, Option, option_map}
use Rattle.std.specs.List.{starts_with}
use Rattle.std.specs.Cmp.Lexicographic.{pointwise}
use Rattle.text.specs.Cut.{before}
use Rattle.sdp.specs.declared.line.Line.{Line}
use Rattle.sdp.specs.declared.description.Media.{Media}
use Rattle.sdp.specs.declared.description.Description.{Description}
use Rattle.offer_answer.specs.Direct.{is_hold}

-- the names of attributes that name addresses and ports of their own: those of RFC 3605 and of ICE (RFC 8839)
abbrev pub tells_place : List ℕ → Bool
tells_place name =
    pointwise nat_eq name (codes "rtcp") || pointwise nat_eq name (codes "candidate") || pointwise nat_eq name (codes "remote-candidates") || starts_with nat_eq name (codes "ice-")

abbrev pub is_kept : Line → Bool
is_kept l = not (l.letter == 97 && tells_place (before 58 l.value))

abbrev pub kept_lines : List Line → List Line
kept_lines ls = filter is_kept ls

-- of a medium: of its port, whether it is 0, and of its address, whether it is there and is 0.0.0.0
pub record BareMedia : Type 0 where
  pub kind : List ℕ
  pub is_refused : Bool
  pub count : Option ℕ
  pub proto : List ℕ
  pub formats : List (List ℕ)
  pub info : Option (List ℕ)
  pub connection : Option Bool
  pub after : List Line

pub record Bare : Type 0 where
  pub before : List Line
  pub connection : Option Bool
  pub after : List Line
  pub media : List BareMedia

abbrev pub bare_media : Media → BareMedia
bare_media m = record {
  kind = m.kind;
  is_refused = m.port == 0;
  count = m.count;
  proto = m.proto;
  formats = m.formats;
  info = m.info;
  connection = option_map is_hold m.connection;
  after = kept_lines m.after;
}

-- what is left of a description without its `o=` line, its addresses and its ports
abbrev pub bare : Description → Bare
bare d = record {
  before = d.before;
  connection = option_map is_hold d.connection;
  after = kept_lines d.after;
  media = map bare_media d.media;
}

-- equal except for the `o=` line, addresses, ports and the attributes that name them; port 0 and 0.0.0.0 are at the
-- same places
abbrev pub Alike : Description → Description → Type 0
Alike d e = bare d ≡ bare e
