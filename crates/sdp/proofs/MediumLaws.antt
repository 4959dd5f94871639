-- The parts of an m= line: cut, and put together.
use Rattle.std.proofs.Common.{◌≡◌, ℕ, true, false, ◌&&◌, eqb, List, [], ◌∷◌, ◌++◌, refl, sym, ap, ◌∙◌, append_assoc}
use Rattle.std.specs.Prelude.{is_some}
use Rattle.std.specs.List.{list_all, slice_split}
use Rattle.std.specs.Char.{is_ascii_digit}
use Rattle.std.proofs.lemmas.Bool.{and_parts, true≢false}
use Rattle.text.specs.Class.{is_run_of, passes_if_there}
use Rattle.text.specs.Cut.{before, led_by}
use Rattle.text.specs.Number.{number_upto}
use Rattle.text.proofs.CutLaws.{joined, Lacks, Lacks-append, Lacks-led_by, Lacks-from_pieces, AllLack-from_test, before_at, after_at}
use Rattle.text.proofs.Lists.{run_lacks}
use Rattle.sdp.specs.Classes.{is_token_char, is_token, is_number, is_integer, is_proto}
use Rattle.sdp.specs.MediumLines.{RawMedium, raw_medium_text, raw_medium_of, max_media_port, is_port, is_count, formats_of, is_raw_medium}
use Rattle.sdp.specs.Origins.{behind_space}
use Rattle.sdp.proofs.OriginLaws.{run_some, space_joined, front_some, front_at, back_at}

pub record IsForm (r : RawMedium) : Type 0 where
  pub kind : is_run_of is_token_char r.kind ≡ true
  pub port : is_run_of is_ascii_digit r.port ≡ true
  pub port_number : is_some (number_upto max_media_port r.port) ≡ true
  pub count : passes_if_there is_count r.count ≡ true
  pub proto : is_proto r.proto ≡ true
  pub formats : list_all is_token (formats_of r.formats) ≡ true

pub form_of : (r : RawMedium) → is_raw_medium r ≡ true → IsForm r
unfolding is_raw_medium is_token is_number
form_of r h =
    let a = and_parts (is_token r.kind && is_port r.port && passes_if_there is_count r.count && is_proto r.proto) (list_all is_token (formats_of r.formats)) h in
    let b = and_parts (is_token r.kind && is_port r.port && passes_if_there is_count r.count) (is_proto r.proto) a.0 in
    let c = and_parts (is_token r.kind && is_port r.port) (passes_if_there is_count r.count) b.0 in
    let d = and_parts (is_token r.kind) (is_port r.port) c.0 in
    let e = and_parts (is_number r.port) (is_some (number_upto max_media_port r.port)) d.1 in
    record { kind = d.0; port = e.0; port_number = e.1; count = c.1; proto = b.1; formats = a.1 }

-- ---- tokens between separators

token_lacks : (c : ℕ) → is_token_char c ≡ false → (t : List ℕ) → is_token t ≡ true → Lacks c t
unfolding is_token
token_lacks c out t h = run_lacks is_token_char c out t h

pub tokens_lack : (c s : ℕ) → is_token_char c ≡ false → eqb s c ≡ false → (t : List ℕ) → list_all is_token (slice_split (λ b. eqb b s) t) ≡ true → Lacks c t
tokens_lack c s out apart t h = Lacks-from_pieces c s apart t (AllLack-from_test is_token c (token_lacks c out) (slice_split (λ b. eqb b s) t) h)

proto_lacks : (t : List ℕ) → is_proto t ≡ true → Lacks 32 t
unfolding is_proto
proto_lacks t h = tokens_lack 32 47 refl refl t h

no_tokens : (s : ℕ) (t : List ℕ) → list_all is_token (slice_split (λ b. eqb b s) t) ≡ true → t ≡ [] → ⊥
unfolding is_token
no_tokens s t h e = true≢false (sym h ∙ ap (λ (x : List ℕ). list_all is_token (slice_split (λ b. eqb b s) x)) e)

no_proto : (t : List ℕ) → is_proto t ≡ true → t ≡ [] → ⊥
unfolding is_proto
no_proto t h e = no_tokens 47 t h e

count_lacks : (t : List ℕ) → is_count t ≡ true → Lacks 32 t
unfolding is_integer
count_lacks t h =
    let run = (and_parts (is_run_of is_ascii_digit t) _ (and_parts (is_integer t) _ h).0).0 in
    run_lacks is_ascii_digit 32 refl t run

-- ---- the parts

abbrev ports_text : RawMedium → List ℕ
ports_text r = r.port ++ led_by 47 r.count

ports_lack : (r : RawMedium) → IsForm r → Lacks 32 (ports_text r)
ports_lack r f = Lacks-append 32 r.port (led_by 47 r.count) (run_lacks is_ascii_digit 32 refl r.port f.port) (Lacks-led_by 32 47 refl r.count is_count count_lacks f.count)

regrouped : (r : RawMedium) → raw_medium_text r ≡ r.kind ++ 32 ∷ (ports_text r ++ 32 ∷ (r.proto ++ 32 ∷ r.formats))
regrouped r = ap (λ (x : List ℕ). r.kind ++ 32 ∷ x) (sym (append_assoc r.port (led_by 47 r.count) (32 ∷ (r.proto ++ 32 ∷ r.formats))))

raw_again : (r : RawMedium) → IsForm r → raw_medium_of (raw_medium_text r) ≡ r
unfolding raw_medium_of
raw_again r f =
    let r2 = r.proto ++ 32 ∷ r.formats in
    let r1 = ports_text r ++ 32 ∷ r2 in
    let l1 = run_lacks is_token_char 32 refl r.kind f.kind in
    let l2 = ports_lack r f in
    let l3 = proto_lacks r.proto f.proto in
    let l4 = run_lacks is_ascii_digit 47 refl r.port f.port in
    rw (regrouped r, front_at r.kind r1 l1, back_at r.kind r1 l1, front_at (ports_text r) r2 l2, back_at (ports_text r) r2 l2, front_at r.proto r.formats l3, back_at r.proto r.formats l3, before_at 47 r.port r.count l4, after_at 47 r.port r.count l4) refl

pub raw_read : (t : List ℕ) (r : RawMedium) → t ≡ raw_medium_text r → is_raw_medium r ≡ true → raw_medium_of t ≡ r
raw_read t r h form = ap raw_medium_of h ∙ raw_again r (form_of r form)

pub raw_found : (t : List ℕ) → is_raw_medium (raw_medium_of t) ≡ true → t ≡ raw_medium_text (raw_medium_of t)
unfolding raw_medium_of
raw_found t h =
    let r = raw_medium_of t in
    let f = form_of r h in
    let a = behind_space t in
    let b = behind_space a in
    let ports = before 32 a in
    let port_some = run_some is_ascii_digit (before 47 ports) f.port in
    let e3 : b ≡ before 32 b ++ 32 ∷ behind_space b = space_joined b (no_tokens 32 (behind_space b) f.formats) in
    let e2 : a ≡ ports ++ 32 ∷ b = space_joined a (front_some b (no_proto (before 32 b) f.proto)) in
    let e1 : t ≡ before 32 t ++ 32 ∷ a = space_joined t (front_some a (λ none. port_some (ap (before 47) none))) in
    e1 ∙ ap (λ (x : List ℕ). before 32 t ++ 32 ∷ x) (e2 ∙ ap (λ (x : List ℕ). ports ++ 32 ∷ x) e3 ∙ ap (λ (x : List ℕ). x ++ 32 ∷ (before 32 b ++ 32 ∷ behind_space b)) (sym (joined 47 ports))) ∙ sym (regrouped r)
