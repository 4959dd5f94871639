-- The form of a description that is written: what was read has it, and what has it reads back.
use Rattle.std.proofs.Common.{◌≡◌, ℕ, true, false, eqb, List, [], ◌∷◌, ◌++◌, map, Option, refl, sym, ap, codes}
use Rattle.std.specs.List.{list_all, flat_map}
use Rattle.std.specs.Char.{is_ascii_digit}
use Rattle.std.proofs.lemmas.Bool.{and_from}
use Rattle.text.proofs.CutLaws.{Lacks, Lacks-append}
use Rattle.text.proofs.Lists.{run_lacks}
use Rattle.sdp.specs.declared.address.Address.{Address}
use Rattle.sdp.specs.declared.description.Description.{Description}
use Rattle.sdp.specs.declared.description.Media.{Media}
use Rattle.sdp.specs.declared.description.Origin.{Origin}
use Rattle.sdp.specs.Classes.{is_text_byte, is_token_char, is_visible}
use Rattle.sdp.specs.Grammar.{SaysConnection, SaysMedium, SaysUnder, SaysMedia, SaysDescription, ReadsDescription}
use Rattle.sdp.specs.Lines.{is_formed}
use Rattle.sdp.specs.Order.{is_before, is_after, is_media_after}
use Rattle.sdp.specs.Origins.{is_origin}
use Rattle.sdp.specs.Reading.{has_places, has_few_media, has_few_formats}
use Rattle.sdp.specs.Writing.{line_text, origin_text, origin_line, connection_lines, info_lines, media_lines, description_lines, description_text}
use Rattle.sdp.proofs.MediaLaws.{all_parts, all_joined}
use Rattle.sdp.proofs.OriginLaws.{IsForm, form_of}
use Rattle.sdp.proofs.RoundTrip.{ended_lines, text_from_lacks, Written, connection_written, MediumAgain, medium_written}

-- ---- the form

-- a connection that is read back as written
abbrev pub ConnectionForm : Option Address → Type 0
ConnectionForm c = Written (SaysConnection (connection_lines c) c) (connection_lines c)

pub record MediumForm (m : Media) : Type 0 where
  pub line : MediumAgain m
  pub info : list_all is_formed (info_lines m.info) ≡ true
  pub connection : ConnectionForm m.connection
  pub after : is_media_after (map line_text m.after) ≡ true
  pub after_formed : list_all is_formed (map line_text m.after) ≡ true

abbrev pub MediaForm : List Media → Type 0
MediaForm [] = Unit {0}
MediaForm (m ∷ ms) = MediumForm m × MediaForm ms

pub record DescriptionForm (d : Description) : Type 0 where
  pub origin : is_origin d.origin ≡ true
  pub before : is_before (map line_text d.before) ≡ true
  pub before_formed : list_all is_formed (map line_text d.before) ≡ true
  pub connection : ConnectionForm d.connection
  pub after : is_after (map line_text d.after) ≡ true
  pub after_formed : list_all is_formed (map line_text d.after) ≡ true
  pub media : MediaForm d.media
  pub places : has_places d ≡ true
  pub few_media : has_few_media d ≡ true
  pub few_formats : has_few_formats d ≡ true

-- ---- what was read has it

medium_form : (value : List ℕ) (under : List (List ℕ)) (m : Media) → SaysMedium value m → SaysUnder under m → list_all is_formed under ≡ true → MediumForm m
medium_form value under m says s formed =
    let after = map line_text m.after in
    let f = all_parts is_formed (info_lines m.info) (s.connection ++ after) under (sym s.whole) formed in
    let g = all_parts is_formed s.connection after (s.connection ++ after) refl f.1 in
    record { line = medium_written value m says; info = f.0; connection = connection_written s.connection m.connection s.says_connection g.0; after = s.after; after_formed = g.1 }

media_form : (ms : List Media) (lines : List (List ℕ)) → SaysMedia lines ms → list_all is_formed lines ≡ true → MediaForm ms
media_form [] lines h formed = tt
media_form (m ∷ ms) lines h formed =
    let b = h.1 in
    let more = h.0 in
    let f = (all_parts is_formed ((codes "m=" ++ b.value) ∷ []) (b.under ++ more) lines (sym b.whole) formed).1 in
    let g = all_parts is_formed b.under more (b.under ++ more) refl f in (
      medium_form b.value b.under m b.says_medium b.says_under g.0,
      media_form ms more h.2 g.1,
    )

pub form_of_read : (text : List ℕ) (d : Description) → ReadsDescription text d → DescriptionForm d
form_of_read text d h =
    let s = h.says in
    let before = map line_text d.before in
    let after = map line_text d.after in
    let head : List (List ℕ) = codes "v=0" ∷ (codes "o=" ++ s.origin_value) ∷ [] in
    let f1 = all_parts is_formed head (before ++ (s.connection ++ (after ++ s.media))) h.lines (sym s.whole) h.formed in
    let f2 = all_parts is_formed before (s.connection ++ (after ++ s.media)) _ refl f1.1 in
    let f3 = all_parts is_formed s.connection (after ++ s.media) _ refl f2.1 in
    let f4 = all_parts is_formed after s.media _ refl f3.1 in
    record {
      origin = s.says_origin.form;
      before = s.before;
      before_formed = f2.0;
      connection = connection_written s.connection d.connection s.says_connection f3.0;
      after = s.after;
      after_formed = f4.0;
      media = media_form d.media s.media s.says_media f4.1;
      places = h.places;
      few_media = h.few_media;
      few_formats = h.few_formats;
    }

-- ---- what has it reads back

origin_lacks : (c : ℕ) → is_visible c ≡ false → is_ascii_digit c ≡ false → is_token_char c ≡ false → eqb 32 c ≡ false → (o : Origin) → IsForm o → Lacks c (origin_text o)
origin_lacks c visible digit token space o f =
    let address = run_lacks is_visible c visible o.address f.address in
    let address_type = run_lacks is_token_char c token o.address_type f.address_type in
    let network_type = run_lacks is_token_char c token o.network_type f.network_type in
    let version = run_lacks is_ascii_digit c digit o.version f.version in
    let id = run_lacks is_ascii_digit c digit o.id f.id in
    let username = run_lacks is_visible c visible o.username f.username in
    Lacks-append c o.username _ username (space, Lacks-append c o.id _ id (space, Lacks-append c o.version _ version (space, Lacks-append c o.network_type _ network_type (space, Lacks-append c o.address_type _ address_type (space, address)))))

origin_formed : (o : Origin) → is_origin o ≡ true → is_formed (origin_line o) ≡ true
origin_formed o h =
    let f = form_of o h in
    let bytes : list_all is_text_byte (origin_text o) ≡ true = text_from_lacks (origin_text o) (origin_lacks 13 refl refl refl refl o f) (origin_lacks 10 refl refl refl refl o f) (origin_lacks 0 refl refl refl refl o f) in
    bytes

abbrev under_text : Media → List (List ℕ)
under_text m = info_lines m.info ++ (connection_lines m.connection ++ map line_text m.after)

under_again : (m : Media) → MediumForm m → Written (SaysUnder (under_text m) m) (under_text m)
under_again m f =
    let after = map line_text m.after in
    record {
      said = record { connection = connection_lines m.connection; whole = refl; says_connection = f.connection.said; after = f.after };
      formed = all_joined is_formed (info_lines m.info) (connection_lines m.connection ++ after) f.info (all_joined is_formed (connection_lines m.connection) after f.connection.formed f.after_formed);
    }

media_again : (ms : List Media) → MediaForm ms → Written (SaysMedia (flat_map media_lines ms) ms) (flat_map media_lines ms)
media_again [] f = record { said = refl; formed = refl }
media_again (m ∷ ms) f =
    let line = f.0.line in
    let under = under_again m f.0 in
    let rest = media_again ms f.1 in
    let next = flat_map media_lines ms in
    record {
      said = (next, record { value = line.value; under = under_text m; whole = ap (λ (x : List ℕ). x ∷ (under_text m ++ next)) line.line; says_medium = line.said; says_under = under.said }, rest.said);
      formed = and_from _ _ line.formed (all_joined is_formed (under_text m) next under.formed rest.formed);
    }

lines_again : (d : Description) → DescriptionForm d → Written (SaysDescription (description_lines d) d) (description_lines d)
unfolding description_lines
lines_again d f =
    let before = map line_text d.before in
    let after = map line_text d.after in
    let connection = connection_lines d.connection in
    let m = media_again d.media f.media in
    let media = flat_map media_lines d.media in
    record {
      said = record {
        origin_value = origin_text d.origin;
        connection = connection;
        media = media;
        whole = refl;
        says_origin = record { whole = refl; form = f.origin };
        before = f.before;
        says_connection = f.connection.said;
        after = f.after;
        says_media = m.said;
      };
      formed = and_from _ _ (origin_formed d.origin f.origin) (all_joined is_formed before (connection ++ (after ++ media)) f.before_formed (all_joined is_formed connection (after ++ media) f.connection.formed (all_joined is_formed after media f.after_formed m.formed)));
    }

pub form_reads : (d : Description) → DescriptionForm d → ReadsDescription (description_text d) d
unfolding description_text
form_reads d f =
    let w = lines_again d f in
    record {
      lines = description_lines d;
      are_lines = ended_lines (description_lines d);
      formed = w.formed;
      says = w.said;
      places = f.places;
      few_media = f.few_media;
      few_formats = f.few_formats;
    }

pub written_again : (from : List ℕ) (d : Description) → ReadsDescription from d → ReadsDescription (description_text d) d
written_again from d h = form_reads d (form_of_read from d h)
