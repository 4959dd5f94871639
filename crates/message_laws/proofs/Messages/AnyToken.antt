-- Each decimal number is digits alone, and each token is a run of token bytes, however many were made before it.
use Rattle.std.proofs.Common.{◌≡◌, ◌∙◌, ℕ, zero, suc, ◌+◌, ◌<◌, ◌/◌, ◌%◌, ◌==◌, Bool, true, false, cond, List, [], ◌∷◌, ◌++◌, codes, decimal, length, refl, sym, arith}
use Rattle.std.specs.Int.{to_be_bytes, w64}
use Rattle.std.specs.List.{list_all}
use Rattle.std.specs.Fmt.{digit_glyph, digits, digits_onto}
use Rattle.std.proofs.lemmas.Bool.{agree_below_at, and_from, and_parts, lt-ltb, ne_eqb}
use Rattle.std.proofs.lemmas.List.Folds.{list_all-append}
use Rattle.hex.specs.Hex.{encode_with, lower_digits}
use Rattle.text.specs.Class.{is_run_of, is_token_byte}
use Rattle.responses.specs.Tokens.{token}
use Rattle.message_laws.proofs.TokenUse.TokenRuns.{DigitsPass, token_run}

-- ---- decimal numbers

glyph_passes : (p : ℕ → Bool) → DigitsPass p → (d : ℕ) → d < 10 → p (digit_glyph false d) ≡ true
glyph_passes p digits d lt = rw (lt-ltb d 10 lt) (agree_below_at (λ i. p (48 + i)) (λ i. true) 10 d digits lt)

cond_passes : (p : ℕ → Bool) (b : Bool) (xs ys : List ℕ) → list_all p xs ≡ true → list_all p ys ≡ true → list_all p (cond b xs ys) ≡ true
cond_passes p true xs ys h k = h
cond_passes p false xs ys h k = k

digits_pass : (p : ℕ → Bool) → DigitsPass p → (k n : ℕ) (behind : List ℕ) → list_all p behind ≡ true → list_all p (digits_onto k 10 false n behind) ≡ true
digits_pass p good zero n behind h = h
digits_pass p good (suc k) n behind h =
    let longer = digit_glyph false (n % 10) ∷ behind in
    let digit : list_all p longer ≡ true = and_from _ _ (glyph_passes p good (n % 10) (omega arith)) h in
    cond_passes p (n / 10 == 0) longer (digits_onto k 10 false (n / 10) longer) digit (digits_pass p good k (n / 10) longer digit)

-- each byte passes, where the ten digits do
pub any_decimal_passes : (p : ℕ → Bool) → DigitsPass p → (n : ℕ) → list_all p (decimal n) ≡ true
unfolding digits
any_decimal_passes p good n = digits_pass p good 64 n [] refl

-- ---- tokens

-- the salt's part of it
salt_passes : (salt : ℕ) → list_all is_token_byte (encode_with lower_digits (to_be_bytes w64 salt)) ≡ true
unfolding token encode_with
salt_passes salt =
    let first : list_all is_token_byte (token salt 0) ≡ true = (and_parts _ _ (token_run salt 0 (omega arith))).1 in
    (and_parts _ _ (sym (list_all-append is_token_byte (encode_with lower_digits (to_be_bytes w64 salt)) (codes "." ++ decimal 0)) ∙ first)).0

token_passes : (salt count : ℕ) → list_all is_token_byte (token salt count) ≡ true
unfolding token encode_with digits
token_passes salt count =
    list_all-append is_token_byte (encode_with lower_digits (to_be_bytes w64 salt)) (codes "." ++ decimal count) ∙ and_from _ _ (salt_passes salt) (and_from _ _ refl (any_decimal_passes is_token_byte refl count))

run_from : (text : List ℕ) → (length text ≡ 0 → ⊥) → list_all is_token_byte text ≡ true → is_run_of is_token_byte text ≡ true
run_from text some h = and_from _ _ (rw (ne_eqb (length text) 0 some) refl) h

pub any_token_run : (salt count : ℕ) → is_run_of is_token_byte (token salt count) ≡ true
unfolding token encode_with
any_token_run salt count = run_from (token salt count) (λ e. cc) (token_passes salt count)
