-- A parameter that is a token, `=` and a token.
use Rattle.std.proofs.Common.{◌≡◌, ℕ, zero, suc, ◌+◌, ◌-◌, ◌<◌, ◌≤◌, Bool, true, false, not, ◌&&◌, ◌||◌, cond, eqb, ltb, List, [], ◌∷◌, ◌++◌, length, get_or, take, drop, Option, Some, refl, sym, ap, ◌∙◌, arith}
use Rattle.std.specs.Borrow.{Bor}
use Rattle.std.specs.List.{list_all, position, position_or_len, onto_first}
use Rattle.std.specs.Option.{option_copied}
use Rattle.std.proofs.lemmas.Bool.{and_parts, and_from, ltb-true, ne_eqb}
use Rattle.std.proofs.lemmas.List.{take_rest, take-append-drop, drop_more}
use Rattle.std.proofs.lemmas.List.Folds.{list_all-append}
use Rattle.text.specs.Class.{is_token_byte, is_blank, is_run_of}
use Rattle.text.specs.Cut.{before, after}
use Rattle.text.specs.Pieces.{pieces}
use Rattle.text.specs.Trim.{kept, without_blanks, without_end, trimmed}
use Rattle.text.specs.declared.split.Within.TheVariants.{Nothing}
use Rattle.text.proofs.CutSteps.{at_place}
use Rattle.text.proofs.CutLaws.{differs, Lacks-from_class, before_at, after_at}
use Rattle.sip_uri.specs.declared.uri.Param.{Param}
use Rattle.sip_uri.specs.FieldParams.{is_field_value, is_field_param, is_field_params, field_params_of, field_params_read}
use Rattle.sip_uri.proofs.FieldLaws.{resumed, read_behind}

-- ---- the bytes of a token

abbrev is_out : ℕ → Bool
is_out b = not (is_token_byte b)

tokens_before : (n : ℕ) (text : List ℕ) → n ≤ position_or_len is_out text → list_all is_token_byte (take n text) ≡ true
tokens_before zero text le = refl
tokens_before (suc n) [] le = refl
tokens_before (suc n) (b ∷ bs) le = step (is_token_byte b) le (λ k. tokens_before n bs k) where
  step : (e : Bool) → suc n ≤ cond (not (not e)) (1 + position_or_len is_out bs) 0 → (n ≤ position_or_len is_out bs → list_all is_token_byte (take n bs) ≡ true) → (e && list_all is_token_byte (take n bs)) ≡ true
  step true h more = more (omega (arith, h))
  step false h more = absurd (omega (arith, h))

front_is_some : (at : ℕ) (text : List ℕ) → 0 < at → at < length text → eqb (length (take at text)) 0 ≡ false
front_is_some zero text some lt = absurd (omega arith)
front_is_some (suc n) [] some lt = absurd (omega arith)
front_is_some (suc n) (b ∷ bs) some lt = ne_eqb (suc (length (take n bs))) 0 (λ e. omega arith)

not_blank : (b : ℕ) → is_token_byte b ≡ true → is_blank b ≡ false
not_blank b h = rw (differs is_token_byte 32 b refl h, differs is_token_byte 9 b refl h) refl

no_front : (t : List ℕ) → list_all is_token_byte t ≡ true → without_blanks t ≡ t
no_front [] h = refl
no_front (b ∷ bs) h = rw (not_blank b (and_parts (is_token_byte b) (list_all is_token_byte bs) h).0) refl

no_end : (t : List ℕ) → list_all is_token_byte t ≡ true → without_end t ≡ t
no_end [] h = refl
no_end (b ∷ bs) h =
    let parts = and_parts (is_token_byte b) (list_all is_token_byte bs) h in
    ap (kept b) (no_end bs parts.1) ∙ rw (not_blank b parts.0) refl

not_trimmed : (t : List ℕ) → list_all is_token_byte t ≡ true → trimmed t ≡ t
not_trimmed t h = ap without_end (no_front t h) ∙ no_end t h

-- ---- one piece

abbrev is_plain : ℕ → Bool
is_plain b = is_token_byte b || eqb b 61

or_true : (e : Bool) → (true || e) ≡ true
or_true e = refl

plain_tokens : (t : List ℕ) → list_all is_token_byte t ≡ true → list_all is_plain t ≡ true
plain_tokens [] h = refl
plain_tokens (b ∷ bs) h =
    let parts = and_parts (is_token_byte b) (list_all is_token_byte bs) h in
    and_from _ _ (rw parts.0 (or_true (eqb b 61))) (plain_tokens bs parts.1)

one_piece : (bs : List ℕ) → list_all is_plain bs ≡ true → pieces 59 Nothing bs ≡ bs ∷ []
one_piece [] h = refl
one_piece (b ∷ bs) h =
    let parts = and_parts (is_plain b) (list_all is_plain bs) h in
    rw (differs is_plain 59 b refl parts.0, differs is_plain 34 b refl parts.0, differs is_plain 60 b refl parts.0) (ap (onto_first b) (one_piece bs parts.1))

-- ---- the parameter

abbrev two_tokens : List ℕ → List ℕ → Param
two_tokens name value = record { name = name; value = Some value }

read_plain : (name value : List ℕ) → list_all is_token_byte name ≡ true → eqb (length name) 0 ≡ false → is_run_of is_token_byte value ≡ true
    → field_params_read (Some (name ++ 61 ∷ value)) ≡ Some (two_tokens name value ∷ [])
unfolding field_params_read is_field_params is_field_param is_field_value field_params_of
read_plain name value tokens some run =
    let parts = and_parts (not (eqb (length value) 0)) (list_all is_token_byte value) run in
    let lacks = Lacks-from_class is_token_byte 61 refl name tokens in
    let front : before 61 (name ++ 61 ∷ value) ≡ name = before_at 61 name (Some value) lacks in
    let behind : after 61 (name ++ 61 ∷ value) ≡ Some value = after_at 61 name (Some value) lacks in
    let plain : list_all is_plain (name ++ 61 ∷ value) ≡ true = list_all-append is_plain name (61 ∷ value) ∙ and_from _ _ (plain_tokens name tokens) (plain_tokens value parts.1) in
    rw (one_piece (name ++ 61 ∷ value) plain, front, behind, not_trimmed name tokens, not_trimmed value parts.1, some, tokens, parts.0, parts.1) refl

-- after one or more token bytes there is `=`, and all of the rest is a token
pub plain_there : (text : List ℕ) (at : ℕ) → position is_out text ≡ Some at → 0 < at → get_or text at 0 ≡ 61 → is_run_of is_token_byte (take (length text - (at + 1)) (drop (at + 1) text)) ≡ true
    → field_params_read (Some text) ≡ Some (two_tokens (take at text) (take (length text - (at + 1)) (drop (at + 1) text)) ∷ [])
plain_there text at h some equals run =
    let place : ℕ = position_or_len is_out text in
    let p = at_place place at (ltb place (length text)) h in
    let lt : at < length text = omega (arith, p.1, ltb-true place (length text) p.0) in
    let rest : List ℕ = drop (at + 1) text in
    let tokens : list_all is_token_byte (take at text) ≡ true = tokens_before at text (omega (arith, p.1)) in
    let whole : text ≡ take at text ++ 61 ∷ rest = sym (take-append-drop at text) ∙ ap (λ (t : List ℕ). take at text ++ t) (drop_more text at 0 lt) ∙ ap (λ (b : ℕ). take at text ++ b ∷ rest) equals in
    let all : take (length text - (at + 1)) rest ≡ rest = take_rest text (at + 1) in
    let value : is_run_of is_token_byte rest ≡ true = ap (is_run_of is_token_byte) (sym all) ∙ run in
    ap (λ (t : List ℕ). field_params_read (Some t)) whole ∙ read_plain (take at text) rest tokens (front_is_some at text some lt) value
    ∙ ap (λ (v : List ℕ). Some (two_tokens (take at text) v ∷ [])) (sym all)

-- such a parameter ends the list
pub plain_here : (front more : List Param) (left : Option (Bor (List ℕ))) (text : Bor (List ℕ)) (param : Param) (all : Option (List Param)) → left ≡ Some text
    → field_params_read (Some text.now) ≡ Some (param ∷ []) → more ≡ front ++ param ∷ [] → read_behind front (option_copied left) ≡ all → Some more ≡ all
plain_here front more left text param all is read put so_far =
    ap (λ (ps : List Param). Some ps) put ∙ sym (ap (resumed front) read) ∙ ap (λ (o : Option (Bor (List ℕ))). read_behind front (option_copied o)) (sym is) ∙ so_far
