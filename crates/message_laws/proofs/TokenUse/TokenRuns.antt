-- Tokens are runs of token bytes, and so are decimal numbers.
use Rattle.std.proofs.Common.{◌≡◌, ◌∙◌, ℕ, zero, suc, ◌+◌, ◌<◌, ◌^◌, ◌/◌, ◌%◌, Bool, true, List, [], ◌∷◌, ◌++◌, codes, decimal, get_or, length, refl, sym, subst, arith}
use Rattle.std.specs.Prelude.{IsTrue}
use Rattle.std.specs.Int.{byte_at, bytes_high_first, to_be_bytes, w64}
use Rattle.std.specs.List.{list_all}
use Rattle.std.proofs.lemmas.Bool.{agree_below, agree_below_at, and_from, ne_eqb}
use Rattle.std.proofs.lemmas.Fmt.{decimal_by_steps}
use Rattle.std.proofs.lemmas.List.Folds.{list_all-append}
use Rattle.hex.specs.Hex.{encode_with, lower_digits}
use Rattle.text.specs.Class.{is_run_of, is_token_byte}
use Rattle.responses.specs.Tokens.{token}
use Rattle.message_laws.specs.Tokens.{IsMade}

-- ---- decimal numbers

-- each byte of them passes, where the ten digits do
abbrev pub DigitsPass : (ℕ → Bool) → Type 0
DigitsPass p = agree_below (λ k. p (48 + k)) (λ k. true) 10 ≡ true

one_digit : (p : ℕ → Bool) → DigitsPass p → (k : ℕ) → k < 10 → p (48 + k) ≡ true
one_digit p digits k lt = agree_below_at (λ i. p (48 + i)) (λ i. true) 10 k digits lt

pub decimal_passes : (p : ℕ → Bool) → DigitsPass p → (n : ℕ) → n < 2 ^ 64 → list_all p (decimal n) ≡ true
decimal_passes p digits n small =
    decimal_by_steps (λ k ds. list_all p ds ≡ true) (λ k lt. and_from _ _ (one_digit p digits k lt) refl)
    (λ k ds more h. list_all-append p ds ((48 + k % 10) ∷ []) ∙ and_from _ _ h (and_from _ _ (one_digit p digits (k % 10) (omega arith)) refl)) n small

-- ---- tokens

high_digit : (b : ℕ) → b < 256 → is_token_byte (get_or lower_digits (b / 16) 0) ≡ true
high_digit b lt = agree_below_at (λ i. is_token_byte (get_or lower_digits i 0)) (λ i. true) 16 (b / 16) refl (omega arith)

low_digit : (b : ℕ) → is_token_byte (get_or lower_digits (b % 16) 0) ≡ true
low_digit b = agree_below_at (λ i. is_token_byte (get_or lower_digits i 0)) (λ i. true) 16 (b % 16) refl (omega arith)

small_byte : (i n : ℕ) → byte_at i n < 256
small_byte zero n = omega arith
small_byte (suc i) n = omega arith

bytes_pass : (k n : ℕ) → list_all is_token_byte (encode_with lower_digits (bytes_high_first k n)) ≡ true
unfolding encode_with
bytes_pass zero n = refl
bytes_pass (suc k) n = and_from _ _ (high_digit (byte_at k n) (small_byte k n)) (and_from _ _ (low_digit (byte_at k n)) (bytes_pass k n))

run_from : (text : List ℕ) → (length text ≡ 0 → ⊥) → list_all is_token_byte text ≡ true → is_run_of is_token_byte text ≡ true
run_from text some h = and_from _ _ (rw (ne_eqb (length text) 0 some) refl) h

token_passes : (salt count : ℕ) → count < 2 ^ 64 → list_all is_token_byte (token salt count) ≡ true
unfolding token encode_with
token_passes salt count small =
    list_all-append is_token_byte (encode_with lower_digits (to_be_bytes w64 salt)) (codes "." ++ decimal count) ∙ and_from _ _ (bytes_pass 8 salt) (and_from _ _ refl (decimal_passes is_token_byte refl count small))

pub token_run : (salt count : ℕ) → count < 2 ^ 64 → is_run_of is_token_byte (token salt count) ≡ true
unfolding token encode_with
token_run salt count small = run_from (token salt count) (λ e. cc) (token_passes salt count small)

-- a token that was made
pub made_run : (made : ℕ) (text : List ℕ) → made < 2 ^ 64 → IsMade made text → IsTrue (is_run_of is_token_byte text)
made_run made text few h = subst (λ (t : List ℕ). is_run_of is_token_byte t ≡ true) (sym h.said) (token_run h.salt h.count (omega (arith, h.early, few)))
