-- What is written for a URI that was read is read again as that URI.
use Rattle.std.proofs.Common.{◌≡◌, ℕ, zero, suc, ◌<◌, ◌≤◌, true, not, ◌&&◌, eqb, List, [], ◌∷◌, ◌++◌, length, map, Option, Some, None, refl, sym, ap, subst, ◌∙◌, arith, codes}
use Rattle.std.specs.List.{list_all, slice_split, join_with_byte}
use Rattle.std.proofs.lemmas.List.{append-nil}
use Rattle.std.proofs.lemmas.List.Splits.{length-slice_split, join_with_byte-slice_split}
use Rattle.std.specs.Prelude.{IsTrue, option_map, option_and_then, unwrap_or, nat_lt, decimal}
use Rattle.std.specs.List.{AllByRecursion}
use Rattle.std.specs.Char.{is_ascii_digit}
use Rattle.std.proofs.lemmas.Bool.{and_parts, and_from, ne_eqb, true≢false}
use Rattle.std.proofs.lemmas.List.Elements.{recursion_from_All, All-from_recursion}
use Rattle.percent_encoding.specs.Percent.{percent_decode}
use Rattle.percent_encoding.proofs.PercentLemmas.{IsByte, All-percent_decode, length-percent_decode}
use Rattle.sip_uri.specs.declared.uri.Uri.{Uri}
use Rattle.text.specs.Class.{is_run_of, passes_if_there}
use Rattle.text.specs.Cut.{led_by}
use Rattle.text.specs.Number.{number_upto}
use Rattle.sip_uri.specs.Classes.{is_user_byte}
use Rattle.sip_uri.specs.RawUri.{RawUri, user_text, raw_text, is_raw, escapes_well, has_good_escapes, has_good_port}
use Rattle.sip_uri.specs.Reading.{param_of, fields_of, host_of, value_of}
use Rattle.sip_uri.specs.Grammar.{ReadsUri}
use Rattle.sip_uri.specs.Writing.{param_text, params_text, escaped, user_part, port_part, host_text, uri_text}
use Rattle.text.proofs.CutLaws.{joined}
use Rattle.text.proofs.Numbers.{number_is, number_again, decimal_run}
use Rattle.sip_uri.proofs.Escapes.{AreBytes, decode_escaped, escaped_user, escaped_well, escaped_some}
use Rattle.sip_uri.proofs.HostLaws.{host_again}
use Rattle.sip_uri.proofs.RawLaws.{IsRaw, IsRaw-from_test, test_from_IsRaw, user_small}

-- ---- parameters

pieces_text : (first next : ℕ) (ps : List (List ℕ)) → 0 < length ps → params_text first next (map param_of ps) ≡ first ∷ join_with_byte next ps
pieces_text first next [] some = absurd (omega arith)
pieces_text first next (p ∷ []) some = append-nil (first ∷ param_text (param_of p)) ∙ ap (λ (t : List ℕ). first ∷ t) (joined 61 p)
pieces_text first next (p ∷ q ∷ ps) some =
    ap (λ (t : List ℕ). (first ∷ param_text (param_of p)) ++ t) (pieces_text next next (q ∷ ps) (omega arith)) ∙ ap (λ (t : List ℕ). (first ∷ t) ++ (next ∷ join_with_byte next (q ∷ ps))) (joined 61 p)

pub fields_text : (first next : ℕ) (o : Option (List ℕ)) → params_text first next (fields_of next o) ≡ led_by first o
fields_text first next None = refl
fields_text first next (Some t) =
    pieces_text first next (slice_split (λ b. eqb b next) t) (omega (arith, length-slice_split (λ b. eqb b next) t)) ∙ ap (λ (x : List ℕ). first ∷ x) (join_with_byte-slice_split next t)

-- ---- users

are_bytes : (t : List ℕ) → list_all is_user_byte t ≡ true → AllByRecursion IsByte t
are_bytes [] h = tt
are_bytes (b ∷ bs) h =
    let parts = and_parts (is_user_byte b) (list_all is_user_byte bs) h in
    (user_small b parts.0, are_bytes bs parts.1)

user_fits : (t : List ℕ) → is_run_of is_user_byte t ≡ true → AreBytes (percent_decode t)
user_fits t h =
    let all = (and_parts (not (eqb (length t) 0)) (list_all is_user_byte t) h).1 in
    recursion_from_All IsByte (percent_decode t) (All-percent_decode t (All-from_recursion IsByte t (are_bytes t all)))

is_some_length : (n : ℕ) → not (eqb n 0) ≡ true → 0 < n
is_some_length zero h = absurd (true≢false (sym h))
is_some_length (suc n) h = omega arith

user_some : (t : List ℕ) → is_run_of is_user_byte t ≡ true → is_run_of is_user_byte (escaped (percent_decode t)) ≡ true
user_some t h =
    let long = is_some_length (length t) (and_parts (not (eqb (length t) 0)) (list_all is_user_byte t) h).0 in
    let decoded : 0 < length (percent_decode t) = omega (arith, length-percent_decode t) in
    let some = escaped_some (percent_decode t) decoded in
    and_from _ _ (rw (ne_eqb (length (escaped (percent_decode t))) 0 (λ e. omega arith)) refl) (escaped_user (percent_decode t))

abbrev user_raw : Option (List ℕ) → Option (List ℕ)
user_raw o = option_map (λ t. escaped (percent_decode t)) o

user_text_is : (o : Option (List ℕ)) → user_part (option_map percent_decode o) ≡ user_text (user_raw o)
unfolding user_part
user_text_is None = refl
user_text_is (Some t) = refl

user_form : (o : Option (List ℕ)) → passes_if_there (is_run_of is_user_byte) o ≡ true → passes_if_there (is_run_of is_user_byte) (user_raw o) ≡ true
user_form None h = refl
user_form (Some t) h = user_some t h

user_well : (o : Option (List ℕ)) → passes_if_there escapes_well (user_raw o) ≡ true
user_well None = refl
user_well (Some t) = escaped_well (percent_decode t)

user_value : (o : Option (List ℕ)) → passes_if_there (is_run_of is_user_byte) o ≡ true → option_map percent_decode (user_raw o) ≡ option_map percent_decode o
user_value None h = refl
user_value (Some t) h = ap (λ (x : List ℕ). Some x) (decode_escaped (percent_decode t) (user_fits t h))

-- ---- ports

abbrev port_of : Option (List ℕ) → Option ℕ
port_of o = option_and_then (number_upto 65535) o

abbrev port_raw : Option ℕ → Option (List ℕ)
port_raw o = option_map decimal o

port_text_is : (o : Option ℕ) → port_part o ≡ led_by 58 (port_raw o)
port_text_is None = refl
port_text_is (Some n) = refl

-- what a written port is, given that it is a port
pub record IsPort (o : Option ℕ) : Type 0 where
  pub form : passes_if_there (is_run_of is_ascii_digit) (port_raw o) ≡ true
  pub good : passes_if_there (λ p. nat_lt 0 (unwrap_or (number_upto 65535 p) 0)) (port_raw o) ≡ true
  pub value : port_of (port_raw o) ≡ o

some_port : (n : ℕ) → n ≤ 65535 → nat_lt 0 n ≡ true → IsPort (Some n)
some_port n le some =
    let again = number_again 65535 n le (omega arith) in
    record { form = decimal_run n (omega arith); good = rw again some; value = again }

port_fits : (o : Option (List ℕ)) → passes_if_there (λ p. nat_lt 0 (unwrap_or (number_upto 65535 p) 0)) o ≡ true → IsPort (port_of o)
port_fits None h = record { form = refl; good = refl; value = refl }
port_fits (Some p) h = step (number_upto 65535 p) (λ n e. number_is 65535 n p e) h where
  step : (r : Option ℕ) → ((n : ℕ) → r ≡ Some n → n ≤ 65535) → nat_lt 0 (unwrap_or r 0) ≡ true → IsPort r
  step None le k = record { form = refl; good = refl; value = refl }
  step (Some n) le k = some_port n (le n refl) k

-- ---- the whole

abbrev raw_again : RawUri → RawUri
raw_again r = record { user = user_raw r.user; host = host_text (host_of r.host); port = port_raw (port_of r.port); params = r.params; headers = r.headers }

text_is : (r : RawUri) → uri_text (value_of r) ≡ codes "sip:" ++ raw_text (raw_again r)
unfolding uri_text value_of
text_is r = rw (user_text_is r.user, port_text_is (port_of r.port), fields_text 59 59 r.params, fields_text 63 38 r.headers) refl

value_again : (r : RawUri) → IsRaw r → IsPort (port_of r.port) → value_of (raw_again r) ≡ value_of r
unfolding value_of
value_again r h port = rw (user_value r.user h.user, (host_again r.host h.host).1, port.value) refl

good_again : (r : RawUri) → IsTrue (has_good_escapes r) → IsTrue (has_good_escapes (raw_again r))
unfolding has_good_escapes
good_again r h =
    let a = and_parts (passes_if_there escapes_well r.user && passes_if_there escapes_well r.params) (passes_if_there escapes_well r.headers) h in
    let b = and_parts (passes_if_there escapes_well r.user) (passes_if_there escapes_well r.params) a.0 in
    and_from _ _ (and_from _ _ (user_well r.user) b.1) a.1

port_is : (r : RawUri) → IsTrue (has_good_port r) → IsPort (port_of r.port)
unfolding has_good_port
port_is r h = port_fits r.port h

port_again : (r : RawUri) → IsPort (port_of r.port) → IsTrue (has_good_port (raw_again r))
unfolding has_good_port
port_again r h = h.good

-- what is written for a URI that some text is, is that URI
pub written_again : (text : List ℕ) (uri : Uri) → ReadsUri text uri → ReadsUri (uri_text uri) uri
written_again text uri h =
    let r : RawUri = h.raw in
    let parts = IsRaw-from_test r h.spelled.form in
    let port = port_is r h.port in
    let form : is_raw (raw_again r) ≡ true = test_from_IsRaw (raw_again r) (record { user = user_form r.user parts.user; host = (host_again r.host parts.host).0; port = port.form; params = parts.params; headers = parts.headers }) in
    let again : ReadsUri (uri_text (value_of r)) (value_of r) = record {
      raw = raw_again r;
      spelled = record { begins = record { scheme = codes "sip:"; is_sip = refl; whole = text_is r }; form = form };
      escapes = good_again r h.escapes;
      port = port_again r port;
      value = sym (value_again r parts port);
    } in
    subst (λ (u : Uri). ReadsUri (uri_text u) u) (sym h.value) again
