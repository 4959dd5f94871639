-- Lines of a description: what is found of them is said by them, and what they say is found.
use Rattle.std.proofs.Common.{◌≡◌, ℕ, true, false, ◌&&◌, List, [], ◌∷◌, ◌++◌, drop, map, Option, Some, None, refl, sym, ap, subst, ◌∙◌, append_assoc, codes}
use Rattle.std.specs.List.{list_all}
use Rattle.std.specs.Cmp.Lexicographic.{same_text}
use Rattle.std.proofs.lemmas.Bool.{and_parts, and_from, true≢false}
use Rattle.sdp.specs.declared.address.Address.{Address}
use Rattle.sdp.specs.declared.description.Description.{Description}
use Rattle.sdp.specs.Classes.{begins}
use Rattle.sdp.specs.Grammar.{SaysConnection, SaysMedia, SaysDescription}
use Rattle.sdp.specs.Lines.{is_formed, value_on, line_of}
use Rattle.sdp.specs.Order.{first_of, less_one, front_of, less_all, begin, is_before, is_after, before_lines, connection_in, after_lines, is_session, upto_medium, groups, is_group, is_ordered}
use Rattle.sdp.specs.Origins.{origin_of, is_origin, IsOrigin}
use Rattle.sdp.specs.Reading.{is_version, has_origin, is_good_connection, is_good_medium, connection_of, media_of, second, value_of}
use Rattle.sdp.specs.Writing.{line_text}
use Rattle.sdp.proofs.FrontLaws.{if_there, front_joined, one_joined, first_begins, front_again, less_all_again, begin_apart}
use Rattle.sdp.proofs.GroupLaws.{formed_lines, lines_again, typed_line, connection_found, connection_read}
use Rattle.sdp.proofs.MediaLaws.{all_joined, one_passes, others_connect, others_good, Passed, passed_parts, media_found}
use Rattle.sdp.proofs.MediaReads.{connection_no_medium, media_read}
use Rattle.sdp.proofs.OrderLaws.{before_types, after_types, part, upto_joined, no_medium, no_medium_among, upto_again, groups_again}
use Rattle.sdp.proofs.OriginLaws.{origin_found, origin_read}

-- the tests that the lines of a description pass
pub record Tests (lines : List (List ℕ)) : Type 0 where
  pub ordered : is_ordered lines ≡ true
  pub version : is_version lines ≡ true
  pub origin : has_origin lines ≡ true
  pub connections : list_all is_good_connection lines ≡ true
  pub media : list_all is_good_medium lines ≡ true

-- ---- what is said is found

says_tests : (d : Description) (origin_value : List ℕ) (connection media : List (List ℕ)) → IsOrigin origin_value d.origin → is_before (map line_text d.before) ≡ true → SaysConnection connection d.connection → is_after (map line_text d.after) ≡ true → SaysMedia media d.media
    → Tests (codes "v=0" ∷ (111 ∷ 61 ∷ origin_value) ∷ (map line_text d.before ++ (connection ++ (map line_text d.after ++ media))))
    × (value_of (codes "v=0" ∷ (111 ∷ 61 ∷ origin_value) ∷ (map line_text d.before ++ (connection ++ (map line_text d.after ++ media)))) ≡ d)
unfolding is_ordered value_of
says_tests d origin_value connection media origin is_b says is_a says_media =
    let before = map line_text d.before in
    let after = map line_text d.after in
    let rest = before ++ (connection ++ after) in
    let line : List ℕ = 111 ∷ 61 ∷ origin_value in
    let head : List (List ℕ) = codes "v=0" ∷ line ∷ rest in
    let lines : List (List ℕ) = codes "v=0" ∷ line ∷ (before ++ (connection ++ (after ++ media))) in
    let bt = before_types before is_b in
    let at = after_types after is_a in
    let m = media_read d.media media says_media in
    let c = connection_read connection after d.connection says (begin_apart (codes "btrzka") (codes "c") refl after at) in
    let behind : begin (codes "siuep") (connection ++ after) ≡ false = begin_connection connection after d.connection says (begin_apart (codes "btrzka") (codes "siuep") refl after at) in
    let front : front_of (codes "siuep") rest ≡ before = front_again (codes "siuep") before (connection ++ after) bt behind in
    let less : less_all (codes "siuep") rest ≡ connection ++ after = less_all_again (codes "siuep") before (connection ++ after) bt behind in
    let after_is : after_lines rest ≡ after = ap (less_one (codes "c")) less ∙ c.rest in
    let connection_is : connection_of (connection_in rest) ≡ d.connection = ap (λ (ls : List (List ℕ)). connection_of (first_of (codes "c") ls)) less ∙ c.first in
    let rest_none : no_medium rest ≡ true = all_joined _ before (connection ++ after) (no_medium_among (codes "siuep") refl before bt) (all_joined _ connection after (connection_no_medium connection d.connection says) (no_medium_among (codes "btrzka") refl after at)) in
    let head_none : no_medium head ≡ true = rest_none in
    let whole : head ++ media ≡ lines = ap (λ (ls : List (List ℕ)). codes "v=0" ∷ line ∷ ls) (append_assoc before (connection ++ after) media ∙ ap (λ (ls : List (List ℕ)). before ++ ls) (append_assoc connection after media)) in
    let upto : upto_medium lines ≡ head = ap upto_medium (sym whole) ∙ upto_again head media head_none m.start in
    let grouped : groups lines ≡ groups media = ap groups (sym whole) ∙ groups_again head media head_none in
    let session : is_session head ≡ true = and_from _ _ (ap is_before front ∙ is_b) (ap is_after after_is ∙ is_a) in
    let origin_is : origin_of origin_value ≡ d.origin = origin_read origin_value d.origin origin in
    let good_rest : list_all is_good_connection rest ≡ true = all_joined is_good_connection before (connection ++ after) (others_connect (codes "siuep") refl before bt) (all_joined is_good_connection connection after c.good (others_connect (codes "btrzka") refl after at)) in (
      record {
        ordered = and_from _ _ (ap is_session upto ∙ session) (ap (list_all is_group) grouped ∙ m.ordered);
        version = refl;
        origin = ap is_origin origin_is ∙ origin.form;
        connections = ap (list_all is_good_connection) (sym whole) ∙ all_joined is_good_connection head media good_rest m.good;
        media = ap (list_all is_good_medium) (sym whole) ∙ all_joined is_good_medium head media (others_good head head_none) m.good_media;
      },
      rw (upto, grouped, front, connection_is, after_is, origin_is, lines_again d.before, lines_again d.after, m.value) refl,
    ) where
      begin_connection : (lines more : List (List ℕ)) (c : Option Address) → SaysConnection lines c → begin (codes "siuep") more ≡ false → begin (codes "siuep") (lines ++ more) ≡ false
      begin_connection lines more None h other = ap (λ (ls : List (List ℕ)). begin (codes "siuep") (ls ++ more)) h ∙ other
      begin_connection lines more (Some a) h other = ap (λ (ls : List (List ℕ)). begin (codes "siuep") (ls ++ more)) h.1

pub lines_read : (lines : List (List ℕ)) (d : Description) → SaysDescription lines d → Tests lines × (value_of lines ≡ d)
lines_read lines d h =
    subst (λ (ls : List (List ℕ)). Tests ls × (value_of ls ≡ d)) (sym h.whole) (says_tests d h.origin_value h.connection h.media h.says_origin h.before h.says_connection h.after h.says_media)

-- ---- what is found is said

parts_say : (v o : List ℕ) (rest media : List (List ℕ)) (lines : List (List ℕ)) → Tests lines → Passed lines → lines ≡ v ∷ o ∷ (rest ++ media) → upto_medium lines ≡ v ∷ o ∷ rest → media ≡ part lines
    → is_session (v ∷ o ∷ rest) ≡ true → list_all is_group (groups lines) ≡ true → SaysDescription lines (value_of lines)
unfolding value_of
parts_say v o rest media lines t p whole upto media_is session ordered =
    let f1 = and_parts (begins (codes "v") v && begins (codes "o") o && is_before (before_lines rest)) (is_after (after_lines rest)) session in
    let f2 = and_parts (begins (codes "v") v && begins (codes "o") o) (is_before (before_lines rest)) f1.0 in
    let f3 = and_parts (begins (codes "v") v) (begins (codes "o") o) f2.0 in
    let inside : Passed rest = (passed_parts rest media (rest ++ media) refl ((passed_parts (v ∷ o ∷ []) (rest ++ media) lines (sym whole) p).1)).0 in
    let formed_o : is_formed o ≡ true = (and_parts (is_formed o) _ (and_parts (is_formed v) _ (ap (list_all is_formed) (sym whole) ∙ p.formed)).1).0 in
    let front = before_lines rest in
    let behind = less_all (codes "siuep") rest in
    let c = first_of (codes "c") behind in
    let after = less_one (codes "c") behind in
    let one = front_joined (codes "siuep") rest in
    let two = one_joined (codes "c") behind in
    let p1 = passed_parts front behind rest one inside in
    let p2 = passed_parts (if_there c) after behind two p1.1 in
    let b_same : map line_text (map line_of front) ≡ front = formed_lines front p1.0.formed in
    let a_same : map line_text (map line_of after) ≡ after = formed_lines after p2.1.formed in
    let v_is : v ≡ codes "v=0" = same_text v (codes "v=0") (sym (ap is_version (sym whole) ∙ t.version)) in
    let o_is : o ≡ 111 ∷ 61 ∷ value_on o = typed_line 111 o f3.1 formed_o in
    let o_form : is_origin (origin_of (value_on o)) ≡ true = ap has_origin (sym whole) ∙ t.origin in
    let o_second : second lines ≡ o = ap second whole in
    let rest_is : drop 2 (upto_medium lines) ≡ rest = ap (drop 2) upto in
    let spelled : lines ≡ codes "v=0" ∷ (111 ∷ 61 ∷ value_on o) ∷ (map line_text (map line_of front) ++ (if_there c ++ (map line_text (map line_of after) ++ media))) =
    whole ∙ ap (λ (x : List ℕ). x ∷ o ∷ (rest ++ media)) v_is ∙ ap (λ (x : List ℕ). codes "v=0" ∷ x ∷ (rest ++ media)) o_is
    ∙ ap (λ (x : List (List ℕ)). codes "v=0" ∷ (111 ∷ 61 ∷ value_on o) ∷ x) (
    ap (λ (x : List (List ℕ)). x ++ media) (sym one) ∙ append_assoc front behind media
    ∙ ap (λ (x : List (List ℕ)). front ++ (x ++ media)) (sym two) ∙ ap (λ (x : List (List ℕ)). front ++ x) (append_assoc (if_there c) after media)
    ∙ ap (λ (x : List (List ℕ)). x ++ (if_there c ++ (after ++ media))) (sym b_same)
    ∙ ap (λ (x : List (List ℕ)). map line_text (map line_of front) ++ (if_there c ++ (x ++ media))) (sym a_same)
    ) in
    rw (rest_is, o_second) (record {
      origin_value = value_on o;
      connection = if_there c;
      media = media;
      whole = spelled;
      says_origin = origin_found (value_on o) o_form;
      before = ap is_before b_same ∙ f2.1;
      says_connection = connection_found c (λ x e. (first_begins (codes "c") behind x e, one_passes is_formed c p2.0.formed x e, one_passes is_good_connection c p2.0.connections x e));
      after = ap is_after a_same ∙ f1.1;
      says_media = subst (λ (ls : List (List ℕ)). SaysMedia ls (map media_of (groups lines))) (sym media_is) (media_found lines p ordered);
    })

pub lines_say : (lines : List (List ℕ)) → Tests lines → list_all is_formed lines ≡ true → SaysDescription lines (value_of lines)
unfolding is_ordered
lines_say lines t formed = step (upto_medium lines) refl (and_parts (is_session (upto_medium lines)) (list_all is_group (groups lines)) t.ordered).0 where
  ordered : list_all is_group (groups lines) ≡ true
  ordered = (and_parts (is_session (upto_medium lines)) (list_all is_group (groups lines)) t.ordered).1

  passed : Passed lines
  passed = record { formed = formed; connections = t.connections; media = t.media }

  step : (s : List (List ℕ)) → upto_medium lines ≡ s → is_session s ≡ true → SaysDescription lines (value_of lines)
  step [] e h = absurd (true≢false (sym h))
  step (v ∷ []) e h = absurd (true≢false (sym h))
  step (v ∷ o ∷ rest) e h = parts_say v o rest (part lines) lines t passed (sym (upto_joined lines) ∙ ap (λ (ls : List (List ℕ)). ls ++ part lines) e) e refl h ordered
