-- A field's name right before its colon.
use Rattle.std.proofs.Common.{◌≡◌, ℕ, zero, suc, ◌+◌, ◌-◌, ◌<◌, ◌≤◌, Bool, true, false, not, ◌&&◌, cond, eqb, ltb, List, [], ◌∷◌, ◌++◌, length, get_or, take, drop, Some, refl, sym, ap, ◌∙◌, arith}
use Rattle.std.specs.List.{list_all, position, position_or_len}
use Rattle.std.proofs.lemmas.Bool.{ltb-true, ne_eqb}
use Rattle.std.proofs.lemmas.List.{take_rest, take-append-drop, drop_more}
use Rattle.text.specs.Class.{is_token_byte}
use Rattle.text.specs.Cut.{before, after}
use Rattle.text.proofs.CutSteps.{at_place}
use Rattle.text.proofs.CutLaws.{Lacks-from_class, before_at, after_at}
use Rattle.header_fields.specs.Fields.{name_and_value}
use Rattle.header_fields.proofs.TokenLaws.{token_trimmed}

abbrev is_out : ℕ → Bool
is_out b = not (is_token_byte b)

-- the bytes before the first that is in no token
tokens_before : (n : ℕ) (line : List ℕ) → n ≤ position_or_len is_out line → list_all is_token_byte (take n line) ≡ true
tokens_before zero line le = refl
tokens_before (suc n) [] le = refl
tokens_before (suc n) (b ∷ bs) le = step (is_token_byte b) le (λ k. tokens_before n bs k) where
  step : (e : Bool) → suc n ≤ cond (not (not e)) (1 + position_or_len is_out bs) 0 → (n ≤ position_or_len is_out bs → list_all is_token_byte (take n bs) ≡ true) → (e && list_all is_token_byte (take n bs)) ≡ true
  step true h more = more (omega (arith, h))
  step false h more = absurd (omega (arith, h))

front_is_some : (at : ℕ) (line : List ℕ) → 0 < at → at < length line → eqb (length (take at line)) 0 ≡ false
front_is_some zero line some lt = absurd (omega arith)
front_is_some (suc n) [] some lt = absurd (omega arith)
front_is_some (suc n) (b ∷ bs) some lt = ne_eqb (suc (length (take n bs))) 0 (λ e. omega arith)

-- a colon after one or more token bytes, at the beginning of the line
pub name_there : (line : List ℕ) (at : ℕ) → position is_out line ≡ Some at → 0 < at → get_or line at 0 ≡ 58 → name_and_value line ≡ Some (take at line, take (length line - (at + 1)) (drop (at + 1) line))
name_there line at h some colon =
    let place : ℕ = position_or_len is_out line in
    let p = at_place place at (ltb place (length line)) h in
    let lt : at < length line = omega (arith, p.1, ltb-true place (length line) p.0) in
    let rest : List ℕ = drop (at + 1) line in
    let tokens : list_all is_token_byte (take at line) ≡ true = tokens_before at line (omega (arith, p.1)) in
    let lacks = Lacks-from_class is_token_byte 58 refl (take at line) tokens in
    let whole : line ≡ take at line ++ 58 ∷ rest = sym (take-append-drop at line) ∙ ap (λ (t : List ℕ). take at line ++ t) (drop_more line at 0 lt) ∙ ap (λ (b : ℕ). take at line ++ b ∷ rest) colon in
    let front : before 58 line ≡ take at line = ap (before 58) whole ∙ before_at 58 (take at line) (Some rest) lacks in
    let behind : after 58 line ≡ Some rest = ap (after 58) whole ∙ after_at 58 (take at line) (Some rest) lacks in
    rw (front, behind, token_trimmed (take at line) tokens, front_is_some at line some lt, tokens, take_rest line (at + 1)) refl
