-- The fields of an o= line: cut, and put together.
use Rattle.std.proofs.Common.{◌≡◌, ℕ, Bool, true, ◌&&◌, List, [], ◌∷◌, ◌++◌, Option, Some, None, refl, sym, ap, ◌∙◌}
use Rattle.std.specs.Prelude.{unwrap_or}
use Rattle.std.specs.Char.{is_ascii_digit}
use Rattle.std.proofs.lemmas.Bool.{and_parts, true≢false}
use Rattle.text.specs.Class.{is_run_of}
use Rattle.text.specs.Cut.{before, after, led_by}
use Rattle.text.proofs.CutLaws.{joined, Lacks, before_at, after_at}
use Rattle.text.proofs.Lists.{run_lacks}
use Rattle.sdp.specs.declared.description.Origin.{Origin}
use Rattle.sdp.specs.Classes.{is_token_char, is_token, is_visible, is_word, is_number}
use Rattle.sdp.specs.Origins.{behind_space, origin_of, is_origin, IsOrigin}
use Rattle.sdp.specs.Writing.{origin_text}

-- ---- texts with a first space

pub run_some : (p : ℕ → Bool) (t : List ℕ) → is_run_of p t ≡ true → t ≡ [] → ⊥
run_some p t h e = true≢false (sym h ∙ ap (is_run_of p) e)

pub space_joined : (t : List ℕ) → (behind_space t ≡ [] → ⊥) → t ≡ before 32 t ++ 32 ∷ behind_space t
space_joined t some = step (after 32 t) refl where
  step : (o : Option (List ℕ)) → after 32 t ≡ o → t ≡ before 32 t ++ 32 ∷ behind_space t
  step None e = absurd (some (ap (λ (x : Option (List ℕ)). unwrap_or x []) e))
  step (Some rest) e =
      let behind : behind_space t ≡ rest = ap (λ (x : Option (List ℕ)). unwrap_or x []) e in
      sym (joined 32 t) ∙ ap (λ (x : Option (List ℕ)). before 32 t ++ led_by 32 x) e ∙ ap (λ (x : List ℕ). before 32 t ++ 32 ∷ x) (sym behind)

-- if what comes before the first space is not empty, the whole is not either
pub front_some : (t : List ℕ) → (before 32 t ≡ [] → ⊥) → t ≡ [] → ⊥
front_some t some e = some (ap (before 32) e)

pub front_at : (x y : List ℕ) → Lacks 32 x → before 32 (x ++ 32 ∷ y) ≡ x
front_at x y h = let o : Option (List ℕ) = Some y in before_at 32 x o h

pub back_at : (x y : List ℕ) → Lacks 32 x → behind_space (x ++ 32 ∷ y) ≡ y
back_at x y h = let o : Option (List ℕ) = Some y in ap (λ (r : Option (List ℕ)). unwrap_or r []) (after_at 32 x o h)

-- ---- the fields

pub record IsForm (o : Origin) : Type 0 where
  pub username : is_run_of is_visible o.username ≡ true
  pub id : is_run_of is_ascii_digit o.id ≡ true
  pub version : is_run_of is_ascii_digit o.version ≡ true
  pub network_type : is_run_of is_token_char o.network_type ≡ true
  pub address_type : is_run_of is_token_char o.address_type ≡ true
  pub address : is_run_of is_visible o.address ≡ true

pub form_of : (o : Origin) → is_origin o ≡ true → IsForm o
unfolding is_origin is_word is_number is_token
form_of o h =
    let a = and_parts (is_word o.username && is_number o.id && is_number o.version && is_token o.network_type && is_token o.address_type) (is_word o.address) h in
    let b = and_parts (is_word o.username && is_number o.id && is_number o.version && is_token o.network_type) (is_token o.address_type) a.0 in
    let c = and_parts (is_word o.username && is_number o.id && is_number o.version) (is_token o.network_type) b.0 in
    let d = and_parts (is_word o.username && is_number o.id) (is_number o.version) c.0 in
    let e = and_parts (is_word o.username) (is_number o.id) d.0 in
    record { username = e.0; id = e.1; version = d.1; network_type = c.1; address_type = b.1; address = a.1 }

pub origin_found : (t : List ℕ) → is_origin (origin_of t) ≡ true → IsOrigin t (origin_of t)
unfolding origin_of
origin_found t h =
    let f = form_of (origin_of t) h in
    let a = behind_space t in
    let b = behind_space a in
    let c = behind_space b in
    let d = behind_space c in
    let e5 : d ≡ before 32 d ++ 32 ∷ behind_space d = space_joined d (run_some is_visible (behind_space d) f.address) in
    let e4 : c ≡ before 32 c ++ 32 ∷ d = space_joined c (front_some d (run_some is_token_char (before 32 d) f.address_type)) in
    let e3 : b ≡ before 32 b ++ 32 ∷ c = space_joined b (front_some c (run_some is_token_char (before 32 c) f.network_type)) in
    let e2 : a ≡ before 32 a ++ 32 ∷ b = space_joined a (front_some b (run_some is_ascii_digit (before 32 b) f.version)) in
    let e1 : t ≡ before 32 t ++ 32 ∷ a = space_joined t (front_some a (run_some is_ascii_digit (before 32 a) f.id)) in
    record {
      whole = e1 ∙ ap (λ (x : List ℕ). before 32 t ++ 32 ∷ x) (e2 ∙ ap (λ (x : List ℕ). before 32 a ++ 32 ∷ x) (e3 ∙ ap (λ (x : List ℕ). before 32 b ++ 32 ∷ x) (e4 ∙ ap (λ (x : List ℕ). before 32 c ++ 32 ∷ x) e5)));
      form = h;
    }

origin_again : (o : Origin) → IsForm o → origin_of (origin_text o) ≡ o
unfolding origin_of
origin_again o f =
    let r5 = o.address in
    let r4 = o.address_type ++ 32 ∷ r5 in
    let r3 = o.network_type ++ 32 ∷ r4 in
    let r2 = o.version ++ 32 ∷ r3 in
    let r1 = o.id ++ 32 ∷ r2 in
    let l1 = run_lacks is_visible 32 refl o.username f.username in
    let l2 = run_lacks is_ascii_digit 32 refl o.id f.id in
    let l3 = run_lacks is_ascii_digit 32 refl o.version f.version in
    let l4 = run_lacks is_token_char 32 refl o.network_type f.network_type in
    let l5 = run_lacks is_token_char 32 refl o.address_type f.address_type in
    rw (front_at o.username r1 l1, back_at o.username r1 l1, front_at o.id r2 l2, back_at o.id r2 l2, front_at o.version r3 l3, back_at o.version r3 l3, front_at o.network_type r4 l4, back_at o.network_type r4 l4, front_at o.address_type r5 l5, back_at o.address_type r5 l5) refl

pub origin_read : (t : List ℕ) (o : Origin) → IsOrigin t o → origin_of t ≡ o
origin_read t o h = ap origin_of h.whole ∙ origin_again o (form_of o h.form)
