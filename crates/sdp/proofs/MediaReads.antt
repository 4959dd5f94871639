-- Lines that say media are read as these media.
use Rattle.std.proofs.Common.{◌≡◌, ℕ, true, false, List, [], ◌∷◌, ◌++◌, map, Option, Some, None, refl, sym, ap, subst, ◌∙◌, codes}
use Rattle.std.specs.Prelude.{option_map}
use Rattle.std.specs.List.{list_all}
use Rattle.std.proofs.lemmas.Bool.{and_from}
use Rattle.sdp.specs.declared.address.Address.{Address}
use Rattle.sdp.specs.declared.description.Media.{Media}
use Rattle.sdp.specs.Grammar.{SaysConnection, SaysMedium, SaysUnder, SaysMedia}
use Rattle.sdp.specs.Lines.{value_on, line_of}
use Rattle.sdp.specs.MediumLines.{is_raw_medium}
use Rattle.sdp.specs.Order.{Group, first_of, less_one, begin, upto_medium, groups, info_under, connection_under, after_under, is_media_after, is_group}
use Rattle.sdp.specs.Reading.{is_good_connection, is_good_medium, connection_of, media_of}
use Rattle.sdp.specs.Writing.{line_text, info_lines}
use Rattle.sdp.proofs.FrontLaws.{no_first, none_less, begin_apart}
use Rattle.sdp.proofs.GroupLaws.{lines_again, connection_read}
use Rattle.sdp.proofs.MediaLaws.{all_joined, others_connect, others_good}
use Rattle.sdp.proofs.MediumLaws.{raw_read}
use Rattle.sdp.proofs.OrderLaws.{media_after_types, is_media_part, no_medium, no_medium_among, upto_again, groups_again}

-- ---- i=

pub record InfoIs (info : Option (List ℕ)) (more : List (List ℕ)) : Type 0 where
  pub first : option_map value_on (first_of (codes "i") (info_lines info ++ more)) ≡ info
  pub rest : less_one (codes "i") (info_lines info ++ more) ≡ more
  pub no_medium_in : no_medium (info_lines info) ≡ true
  pub good : list_all is_good_connection (info_lines info) ≡ true

info_read : (info : Option (List ℕ)) (more : List (List ℕ)) → begin (codes "i") more ≡ false → InfoIs info more
info_read None more other = record { first = ap (option_map value_on) (no_first (codes "i") more other); rest = none_less (codes "i") more other; no_medium_in = refl; good = refl }
info_read (Some info) more other = record { first = refl; rest = refl; no_medium_in = refl; good = refl }

-- a c=, or lines of other types, begin with no i= and are no m=
connection_no_info : (lines more : List (List ℕ)) (c : Option Address) → SaysConnection lines c → begin (codes "i") more ≡ false → begin (codes "i") (lines ++ more) ≡ false
connection_no_info lines more None h other = ap (λ (ls : List (List ℕ)). begin (codes "i") (ls ++ more)) h ∙ other
connection_no_info lines more (Some a) h other = ap (λ (ls : List (List ℕ)). begin (codes "i") (ls ++ more)) h.1

pub connection_no_medium : (lines : List (List ℕ)) (c : Option Address) → SaysConnection lines c → no_medium lines ≡ true
connection_no_medium lines None h = ap no_medium h
connection_no_medium lines (Some a) h = ap no_medium h.1

-- ---- under m=

pub record UnderIs (under : List (List ℕ)) (m : Media) : Type 0 where
  pub info : option_map value_on (info_under under) ≡ m.info
  pub connection : connection_of (connection_under under) ≡ m.connection
  pub after : map line_of (after_under under) ≡ m.after
  pub ordered : is_media_after (after_under under) ≡ true
  pub no_medium_in : no_medium under ≡ true
  pub good : list_all is_good_connection under ≡ true

under_is : (m : Media) (connection : List (List ℕ)) → SaysConnection connection m.connection → is_media_after (map line_text m.after) ≡ true
    → UnderIs (info_lines m.info ++ (connection ++ map line_text m.after)) m
under_is m connection says ordered =
    let after = map line_text m.after in
    let types = media_after_types after ordered in
    let c = connection_read connection after m.connection says (begin_apart (codes "bka") (codes "c") refl after types) in
    let i = info_read m.info (connection ++ after) (connection_no_info connection after m.connection says (begin_apart (codes "bka") (codes "i") refl after types)) in
    let behind : after_under (info_lines m.info ++ (connection ++ after)) ≡ after = ap (less_one (codes "c")) i.rest ∙ c.rest in
    record {
      info = i.first;
      connection = ap (λ (ls : List (List ℕ)). connection_of (first_of (codes "c") ls)) i.rest ∙ c.first;
      after = ap (map line_of) behind ∙ lines_again m.after;
      ordered = ap is_media_after behind ∙ ordered;
      no_medium_in = all_joined _ (info_lines m.info) (connection ++ after) i.no_medium_in (all_joined _ connection after (connection_no_medium connection m.connection says) (no_medium_among (codes "bka") refl after types));
      good = all_joined is_good_connection (info_lines m.info) (connection ++ after) i.good (all_joined is_good_connection connection after c.good (others_connect (codes "bka") refl after types));
    }

under_read : (under : List (List ℕ)) (m : Media) → SaysUnder under m → UnderIs under m
under_read under m h = subst (λ (ls : List (List ℕ)). UnderIs ls m) (sym h.whole) (under_is m h.connection h.says_connection h.after)

-- ---- media

pub record MediaAre (lines : List (List ℕ)) (ms : List Media) : Type 0 where
  pub start : is_media_part lines ≡ true
  pub ordered : list_all is_group (groups lines) ≡ true
  pub value : map media_of (groups lines) ≡ ms
  pub good : list_all is_good_connection lines ≡ true
  pub good_media : list_all is_good_medium lines ≡ true

abbrev group : List ℕ → List (List ℕ) → Group
group l under = record { medium = l; under = under }

media_is : (value : List ℕ) (under : List (List ℕ)) (m : Media) → SaysMedium value m → UnderIs under m → media_of (group (109 ∷ 61 ∷ value) under) ≡ m
unfolding media_of
media_is value under m s u =
    rw (raw_read value s.raw s.whole s.form, u.info, u.connection, u.after, sym s.kind, sym s.port, sym s.count, sym s.proto, sym s.formats) refl

one_more : (value : List ℕ) (under more : List (List ℕ)) (m : Media) (ms : List Media) → SaysMedium value m → UnderIs under m → MediaAre more ms → MediaAre ((109 ∷ 61 ∷ value) ∷ (under ++ more)) (m ∷ ms)
one_more value under more m ms s u h =
    let line : List ℕ = 109 ∷ 61 ∷ value in
    let below : upto_medium (under ++ more) ≡ under = upto_again under more u.no_medium_in h.start in
    let next : groups (under ++ more) ≡ groups more = groups_again under more u.no_medium_in in
    let all : groups (line ∷ (under ++ more)) ≡ group line under ∷ groups more =
    ap (λ (x : List (List ℕ)). group line x ∷ groups (under ++ more)) below ∙ ap (λ (x : List Group). group line under ∷ x) next in
    let good_line : is_good_medium line ≡ true = ap is_raw_medium (raw_read value s.raw s.whole s.form) ∙ s.form in
    record {
      start = refl;
      ordered = ap (list_all is_group) all ∙ and_from _ _ u.ordered h.ordered;
      value = ap (map media_of) all ∙ ap (λ (x : Media). x ∷ map media_of (groups more)) (media_is value under m s u) ∙ ap (λ (x : List Media). m ∷ x) h.value;
      good = all_joined is_good_connection under more u.good h.good;
      good_media = and_from _ _ good_line (all_joined is_good_medium under more (others_good under u.no_medium_in) h.good_media);
    }

pub media_read : (ms : List Media) (lines : List (List ℕ)) → SaysMedia lines ms → MediaAre lines ms
media_read [] lines h = subst (λ (ls : List (List ℕ)). MediaAre ls []) (sym h) (record { start = refl; ordered = refl; value = refl; good = refl; good_media = refl })
media_read (m ∷ ms) lines h =
    let b = h.1 in
    subst (λ (ls : List (List ℕ)). MediaAre ls (m ∷ ms)) (sym b.whole) (one_more b.value b.under h.0 m ms b.says_medium (under_read b.under m b.says_under) (media_read ms h.0 h.2))
