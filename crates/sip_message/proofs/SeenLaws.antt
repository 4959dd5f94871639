-- What is there of a header field, value by value.
use Rattle.std.proofs.Common.{◌≡◌, ℕ, ◌+◌, ◌<◌, ◌≤◌, get_or, drop, Bool, true, false, cond, List, [], ◌∷◌, map, refl, sym, ap, ◌∙◌}
use Rattle.std.specs.Prelude.{filter, length}
use Rattle.std.specs.Char.{to_ascii_lowercase}
use Rattle.std.specs.Str.{str_to_ascii_lowercase}
use Rattle.std.specs.Cmp.Lexicographic.{bytes_decides}
use Rattle.std.proofs.lemmas.List.{drop_all, length-map}
use Rattle.header_fields.specs.declared.headers.Header.{Header}
use Rattle.sip_message.specs.Lookup.{is_named, values_named}
use Rattle.sip_message.specs.Seen.{Standing, absent, repeated, standing_of, and_value, and_header}
use Rattle.sip_message.proofs.ViaLaws.{fields_from}

-- with all these values added
abbrev pub and_values : Standing → List (List ℕ) → Standing
and_values standing [] = standing
and_values standing (v ∷ vs) = and_values (and_value v standing) vs

repeated_stays : (vs : List (List ℕ)) → and_values repeated vs ≡ repeated
repeated_stays [] = refl
repeated_stays (v ∷ vs) = repeated_stays vs

all_values : (vs : List (List ℕ)) → and_values absent vs ≡ standing_of vs
all_values [] = refl
all_values (v ∷ []) = refl
all_values (v ∷ w ∷ vs) = repeated_stays vs

-- one header field more
pub next_header : (name : List ℕ) (h : Header) (hs : List Header) (standing : Standing) → and_values (and_header name h standing) (values_named name hs) ≡ and_values standing (values_named name (h ∷ hs))
next_header name h hs standing = step (is_named name h) where
  step : (e : Bool) → and_values (cond e (and_value h.value standing) standing) (values_named name hs) ≡ and_values standing (map (λ (x : Header). x.value) (cond e (h ∷ filter (is_named name) hs) (filter (is_named name) hs)))
  step true = refl
  step false = refl

-- what there is, with the header fields from i on, is what there is in all
abbrev pub IsSeenBefore : ℕ → List Header → List ℕ → Standing → Type 0
IsSeenBefore i headers name standing = and_values standing (values_named name (drop i headers)) ≡ and_values absent (values_named name headers)

pub seen_before_next : (headers : List Header) (i : ℕ) (h : Header) (name : List ℕ) (standing next : Standing) → i < length headers → h ≡ get_or headers i h
    → next ≡ and_header name h standing → IsSeenBefore i headers name standing → IsSeenBefore (i + 1) headers name next
seen_before_next headers i h name standing next lt at is so_far =
    ap (λ (s : Standing). and_values s (values_named name (drop (i + 1) headers))) is ∙ next_header name h (drop (i + 1) headers) standing
    ∙ ap (λ (hs : List Header). and_values standing (values_named name hs)) (sym (fields_from headers i h lt at)) ∙ so_far

pub seen_at_end : (headers kept : List Header) → kept ≡ headers → (i : ℕ) (name : List ℕ) (standing : Standing) → length headers ≤ i → IsSeenBefore i headers name standing → standing ≡ standing_of (values_named name kept)
seen_at_end headers kept same i name standing none so_far =
    ap (λ (hs : List Header). and_values standing (values_named name hs)) (sym (drop_all i headers none)) ∙ so_far ∙ all_values (values_named name headers)
    ∙ ap (λ (hs : List Header). standing_of (values_named name hs)) (sym same)

-- ---- names

-- a name of another length is another name
pub other_length : (name : List ℕ) (h : Header) → (length h.name ≡ length name → ⊥) → is_named name h ≡ false
other_length name h apart = step (is_named name h) (λ same. same_length h.name name ((bytes_decides (str_to_ascii_lowercase h.name) (str_to_ascii_lowercase name)).0 same)) where
  same_length : (a b : List ℕ) → str_to_ascii_lowercase a ≡ str_to_ascii_lowercase b → length a ≡ length b
  same_length a b same = sym (length-map a to_ascii_lowercase) ∙ ap (λ (t : List ℕ). length t) same ∙ length-map b to_ascii_lowercase

  step : (e : Bool) → (e ≡ true → length h.name ≡ length name) → e ≡ false
  step true same = absurd (apart (same refl))
  step false same = refl
