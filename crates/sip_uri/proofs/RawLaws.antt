-- The parts of a text are the text, and the text of parts has these parts.
use Rattle.std.proofs.Common.{◌≡◌, ℕ, Bool, true, false, not, ◌&&◌, ◌||◌, ◌<◌, cond, eqb, leb, inl, inr, arith, codes, List, [], ◌∷◌, ◌++◌, length, Option, Some, None, refl, sym, ap, ◌∙◌, append_assoc}
use Rattle.std.specs.Prelude.{is_some, unwrap_or}
use Rattle.std.specs.List.{list_all, slice_split}
use Rattle.std.specs.Char.{is_ascii_digit, is_ascii_alphanumeric}
use Rattle.std.specs.Int.{is_in_range}
use Rattle.std.proofs.lemmas.Bool.{and_parts, or_cases, leb-true, eqb-true}
use Rattle.text.specs.Class.{is_run_of, passes_if_there, is_one_of}
use Rattle.text.specs.Cut.{before, after, led_by}
use Rattle.sip_uri.specs.Classes.{is_unreserved, is_plain_user, is_user_byte, is_label_byte, is_param_byte, is_header_byte}
use Rattle.sip_uri.specs.Hosts.{is_host}
use Rattle.sip_uri.specs.RawUri.{RawUri, user_text, raw_text, raw_of, parts_from, is_raw, is_param, is_params, is_header, is_headers}
use Rattle.sip_uri.proofs.HostLaws.{host_lacks}
use Rattle.text.proofs.CutLaws.{one_of_small, joined, after_none, Lacks, Lacks-append, Lacks-from_class, before_at, after_at, Lacks-from_pieces, AllLack-from_test, Lacks-led_by, Lacks-from_cut}
use Rattle.text.proofs.Lists.{run_lacks}

-- ---- the text of the parts

user_joined : (t front : List ℕ) (o : Option (List ℕ)) → front ++ led_by 64 o ≡ t → user_text (cond (is_some o) (Some front) None) ++ unwrap_or o t ≡ t
user_joined t front None h = refl
user_joined t front (Some rest) h = append_assoc front (64 ∷ []) rest ∙ h

pub raw_text-raw_of : (t : List ℕ) → raw_text (raw_of t) ≡ t
unfolding raw_of
raw_text-raw_of t =
    let rest : List ℕ = unwrap_or (after 64 t) t in
    let front : List ℕ = before 63 rest in
    let place : List ℕ = before 59 front in
    let user : List ℕ = user_text (cond (is_some (after 64 t)) (Some (before 64 t)) None) in
    let tail : List ℕ = led_by 63 (after 63 rest) in
    let one : before 58 place ++ (led_by 58 (after 58 place) ++ (led_by 59 (after 59 front) ++ tail)) ≡ place ++ (led_by 59 (after 59 front) ++ tail) =
    sym (append_assoc (before 58 place) (led_by 58 (after 58 place)) (led_by 59 (after 59 front) ++ tail)) ∙ ap (λ (x : List ℕ). x ++ (led_by 59 (after 59 front) ++ tail)) (joined 58 place) in
    let two : place ++ (led_by 59 (after 59 front) ++ tail) ≡ front ++ tail =
    sym (append_assoc place (led_by 59 (after 59 front)) tail) ∙ ap (λ (x : List ℕ). x ++ tail) (joined 59 front) in
    ap (λ (x : List ℕ). user ++ x) (one ∙ two ∙ joined 63 rest) ∙ user_joined t (before 64 t) (after 64 t) (joined 64 t)

-- ---- the parts of the text

-- a well-formed part
part_all : (p : ℕ → Bool) (t : List ℕ) → is_run_of p t ≡ true → list_all p t ≡ true
part_all p t h = (and_parts (not (eqb (length t) 0)) (list_all p t) h).1

param_lacks : (c : ℕ) → is_param_byte c ≡ false → eqb 61 c ≡ false → (t : List ℕ) → is_param t ≡ true → Lacks c t
param_lacks c out apart t h =
    let parts = and_parts (is_run_of is_param_byte (before 61 t)) (passes_if_there (is_run_of is_param_byte) (after 61 t)) h in
    Lacks-from_cut c 61 apart t (run_lacks is_param_byte c out (before 61 t) parts.0) (Lacks-led_by c 61 apart (after 61 t) (is_run_of is_param_byte) (run_lacks is_param_byte c out) parts.1)

params_lack : (c : ℕ) → is_param_byte c ≡ false → eqb 61 c ≡ false → eqb 59 c ≡ false → (t : List ℕ) → is_params t ≡ true → Lacks c t
params_lack c out apart apart' t h = Lacks-from_pieces c 59 apart' t (AllLack-from_test is_param c (param_lacks c out apart) (slice_split (λ b. eqb b 59) t) h)

header_lacks : (c : ℕ) → is_header_byte c ≡ false → eqb 61 c ≡ false → (t : List ℕ) → is_header t ≡ true → Lacks c t
header_lacks c out apart t h =
    let parts = and_parts (is_run_of is_header_byte (before 61 t) && is_some (after 61 t)) (passes_if_there (list_all is_header_byte) (after 61 t)) h in
    let name = and_parts (is_run_of is_header_byte (before 61 t)) (is_some (after 61 t)) parts.0 in
    Lacks-from_cut c 61 apart t (run_lacks is_header_byte c out (before 61 t) name.0) (Lacks-led_by c 61 apart (after 61 t) (list_all is_header_byte) (Lacks-from_class is_header_byte c out) parts.1)

headers_lack : (c : ℕ) → is_header_byte c ≡ false → eqb 61 c ≡ false → eqb 38 c ≡ false → (t : List ℕ) → is_headers t ≡ true → Lacks c t
headers_lack c out apart apart' t h = Lacks-from_pieces c 38 apart' t (AllLack-from_test is_header c (header_lacks c out apart) (slice_split (λ b. eqb b 38) t) h)

pub record IsRaw (r : RawUri) : Type 0 where
  pub user : passes_if_there (is_run_of is_user_byte) r.user ≡ true
  pub host : is_host r.host ≡ true
  pub port : passes_if_there (is_run_of is_ascii_digit) r.port ≡ true
  pub params : passes_if_there is_params r.params ≡ true
  pub headers : passes_if_there is_headers r.headers ≡ true

pub IsRaw-from_test : (r : RawUri) → is_raw r ≡ true → IsRaw r
unfolding is_raw
IsRaw-from_test r h =
    let a = and_parts (passes_if_there (is_run_of is_user_byte) r.user && is_host r.host && passes_if_there (is_run_of is_ascii_digit) r.port && passes_if_there is_params r.params) (passes_if_there is_headers r.headers) h in
    let b = and_parts (passes_if_there (is_run_of is_user_byte) r.user && is_host r.host && passes_if_there (is_run_of is_ascii_digit) r.port) (passes_if_there is_params r.params) a.0 in
    let c = and_parts (passes_if_there (is_run_of is_user_byte) r.user && is_host r.host) (passes_if_there (is_run_of is_ascii_digit) r.port) b.0 in
    let d = and_parts (passes_if_there (is_run_of is_user_byte) r.user) (is_host r.host) c.0 in
    record { user = d.0; host = d.1; port = c.1; params = b.1; headers = a.1 }

port_lacks : (c : ℕ) → is_ascii_digit c ≡ false → eqb 58 c ≡ false → (o : Option (List ℕ)) → passes_if_there (is_run_of is_ascii_digit) o ≡ true → Lacks c (led_by 58 o)
port_lacks c out apart o h = Lacks-led_by c 58 apart o (is_run_of is_ascii_digit) (run_lacks is_ascii_digit c out) h

abbrev behind_user : RawUri → List ℕ
behind_user r = r.host ++ (led_by 58 r.port ++ (led_by 59 r.params ++ led_by 63 r.headers))

-- a byte that no part after the user has
pub record Foreign (c : ℕ) : Type 0 where
  pub label : is_label_byte c ≡ false
  pub digit : is_ascii_digit c ≡ false
  pub param : is_param_byte c ≡ false
  pub header : is_header_byte c ≡ false
  pub dot : eqb 46 c ≡ false
  pub colon : eqb 58 c ≡ false
  pub semicolon : eqb 59 c ≡ false
  pub equals : eqb 61 c ≡ false
  pub question : eqb 63 c ≡ false
  pub ampersand : eqb 38 c ≡ false

behind_user_lacks : (c : ℕ) → Foreign c → (r : RawUri) → IsRaw r → Lacks c (behind_user r)
behind_user_lacks c f r h =
    let host = host_lacks c f.label f.digit f.dot r.host h.host in
    let port = port_lacks c f.digit f.colon r.port h.port in
    let params = Lacks-led_by c 59 f.semicolon r.params is_params (params_lack c f.param f.equals f.semicolon) h.params in
    let headers = Lacks-led_by c 63 f.question r.headers is_headers (headers_lack c f.header f.equals f.ampersand) h.headers in
    Lacks-append c r.host _ host (Lacks-append c (led_by 58 r.port) _ port (Lacks-append c (led_by 59 r.params) (led_by 63 r.headers) params headers))

user_text_lacks : (c : ℕ) → is_user_byte c ≡ false → eqb 64 c ≡ false → (o : Option (List ℕ)) → passes_if_there (is_run_of is_user_byte) o ≡ true → Lacks c (user_text o)
user_text_lacks c out apart None h = tt
user_text_lacks c out apart (Some user) h = Lacks-append c user (64 ∷ []) (run_lacks is_user_byte c out user h) (apart, tt)

-- a byte that no part has
pub raw_text_lacks : (c : ℕ) → Foreign c → is_user_byte c ≡ false → eqb 64 c ≡ false → (r : RawUri) → is_raw r ≡ true → Lacks c (raw_text r)
raw_text_lacks c f out apart r test =
    let h = IsRaw-from_test r test in
    Lacks-append c (user_text r.user) (behind_user r) (user_text_lacks c out apart r.user h.user) (behind_user_lacks c f r h)

parts_again : (user : Option (List ℕ)) (r : RawUri) → IsRaw r → parts_from user (behind_user r) ≡ record r { user = user }
parts_again user r h =
    let p : List ℕ = led_by 58 r.port in
    let q : List ℕ = led_by 59 r.params in
    let place : List ℕ = r.host ++ p in
    let front : List ℕ = place ++ q in
    let whole : behind_user r ≡ front ++ led_by 63 r.headers =
    sym (append_assoc place q (led_by 63 r.headers) ∙ append_assoc r.host p (q ++ led_by 63 r.headers)) in
    let front_lacks : Lacks 63 front = Lacks-append 63 place q (Lacks-append 63 r.host p (host_lacks 63 refl refl refl r.host h.host) (port_lacks 63 refl refl r.port h.port)) (Lacks-led_by 63 59 refl r.params is_params (params_lack 63 refl refl refl) h.params) in
    let place_lacks : Lacks 59 place = Lacks-append 59 r.host p (host_lacks 59 refl refl refl r.host h.host) (port_lacks 59 refl refl r.port h.port) in
    let name_lacks : Lacks 58 r.host = host_lacks 58 refl refl refl r.host h.host in
    rw (whole, before_at 63 front r.headers front_lacks, after_at 63 front r.headers front_lacks, before_at 59 place r.params place_lacks, after_at 59 place r.params place_lacks, before_at 58 r.host r.port name_lacks, after_at 58 r.host r.port name_lacks) refl

abbrev user_in : List ℕ → Option (List ℕ)
user_in t = cond (is_some (after 64 t)) (Some (before 64 t)) None

abbrev behind : List ℕ → List ℕ
behind t = unwrap_or (after 64 t) t

user_again : (o : Option (List ℕ)) (rest : List ℕ) → passes_if_there (is_run_of is_user_byte) o ≡ true → Lacks 64 rest → (user_in (user_text o ++ rest) ≡ o) × (behind (user_text o ++ rest) ≡ rest)
user_again None rest h lacks = let e = after_none 64 rest lacks in (rw e refl, rw e refl)
user_again (Some user) rest h lacks =
    let user_lacks : Lacks 64 user = run_lacks is_user_byte 64 refl user h in
    let regrouped : (user ++ 64 ∷ []) ++ rest ≡ user ++ led_by 64 (Some rest) = append_assoc user (64 ∷ []) rest in
    (rw (regrouped, after_at 64 user (Some rest) user_lacks, before_at 64 user (Some rest) user_lacks) refl, rw (regrouped, after_at 64 user (Some rest) user_lacks) refl)

at_sign : Foreign 64
at_sign = record { label = refl; digit = refl; param = refl; header = refl; dot = refl; colon = refl; semicolon = refl; equals = refl; question = refl; ampersand = refl }

pub raw_of-raw_text : (r : RawUri) → is_raw r ≡ true → raw_of (raw_text r) ≡ r
unfolding raw_of
raw_of-raw_text r test =
    let h = IsRaw-from_test r test in
    let front = user_again r.user (behind_user r) h.user (behind_user_lacks 64 at_sign r h) in
    rw (front.0, front.1) (parts_again r.user r h)

pub test_from_IsRaw : (r : RawUri) → IsRaw r → is_raw r ≡ true
unfolding is_raw
test_from_IsRaw r h = rw (h.user, h.host, h.port, h.params, h.headers) refl

alphanumeric_small : (b : ℕ) → is_ascii_alphanumeric b ≡ true → b < 256
alphanumeric_small b h =
    elim (or_cases (is_in_range 48 57 b || is_in_range 65 90 b) (is_in_range 97 122 b) h) [
      | inl e ↦ elim (or_cases (is_in_range 48 57 b) (is_in_range 65 90 b) e) [ inl k ↦ small 48 57 b (omega arith) k | inr k ↦ small 65 90 b (omega arith) k ]
      | inr e ↦ small 97 122 b (omega arith) e
    ] where
      small : (lo hi x : ℕ) → hi < 256 → is_in_range lo hi x ≡ true → x < 256
      small lo hi x le e = let r = and_parts (leb lo x) (leb x hi) e in omega (arith, leb-true x hi r.1)

-- a byte of a user is a byte
pub user_small : (b : ℕ) → is_user_byte b ≡ true → b < 256
user_small b h =
    elim (or_cases (is_plain_user b) (eqb b 37) h) [
      | inl plain ↦ elim (or_cases (is_unreserved b) (is_one_of (codes "&=+$,;?/:") b) plain) [
        | inl unreserved ↦ elim (or_cases (is_ascii_alphanumeric b) (is_one_of (codes "-_.!~*'()") b) unreserved) [
          | inl letter ↦ alphanumeric_small b letter
          | inr mark ↦ one_of_small (codes "-_.!~*'()") 256 b refl mark
        ]
        | inr other ↦ one_of_small (codes "&=+$,;?/:") 256 b refl other
      ]
      | inr percent ↦ omega (arith, eqb-true b 37 percent)
    ]
