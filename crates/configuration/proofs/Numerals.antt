-- Numbers with a given number of digits.
use Rattle.std.proofs.Common.{◌≡◌, ◌≤◌, ◌<◌, ◌+◌, ◌*◌, ◌/◌, ◌%◌, ◌^◌, ◌++◌, ℕ, zero, suc, Bool, true, false, leb, List, [], ◌∷◌, length, take, get_or, refl, sym, ap, subst, ◌∙◌, arith}
use Rattle.std.specs.List.{list_all}
use Rattle.std.specs.Char.{is_ascii_digit, digit_value}
use Rattle.std.specs.Str.Parse.{digits_value}
use Rattle.std.proofs.lemmas.Bool.{and_from, and_parts, le-leb, leb-true, true≢false}
use Rattle.std.proofs.lemmas.List.{length-append}
use Rattle.std.proofs.lemmas.List.Folds.{list_all-append, list_all_at}
use Rattle.std.proofs.lemmas.Int.Digits.{digits_value_push, digits_value_more}
use Rattle.std.proofs.lemmas.Nat.{div-mul-add, div-add-mod'}
use Rattle.std.proofs.Math.Nat.{mod-lt}
use Rattle.text.proofs.Numbers.{digit_is}
use Rattle.configuration.specs.Ranges.{numeral}

less_ten : (n : ℕ) → n % 10 < 10
less_ten n = mod-lt n (omega arith)

digit_byte : (d : ℕ) → d < 10 → is_ascii_digit (48 + d) ≡ true
digit_byte d h = and_from _ _ (le-leb 48 (48 + d) (omega arith)) (le-leb (48 + d) 57 (omega (arith, h)))

byte_value : (d : ℕ) → d < 10 → digit_value (48 + d) ≡ d
byte_value d h = let e = digit_is (48 + d) (digit_byte d h) in omega (arith, e)

pub digit_upto : (c : ℕ) → is_ascii_digit c ≡ true → c ≤ 57
digit_upto c h = leb-true c 57 (and_parts (leb 48 c) (leb c 57) h).1

pub long : (digits n : ℕ) → length (numeral digits n) ≡ digits
long zero n = refl
long (suc digits) n = let e = length-append (numeral digits (n / 10)) ((48 + n % 10) ∷ []) in let below = long digits (n / 10) in omega (arith, e, below)

pub all_digits : (digits n : ℕ) → list_all is_ascii_digit (numeral digits n) ≡ true
all_digits zero n = refl
all_digits (suc digits) n =
    list_all-append is_ascii_digit (numeral digits (n / 10)) ((48 + n % 10) ∷ []) ∙ and_from _ _ (all_digits digits (n / 10)) (and_from _ _ (digit_byte (n % 10) (less_ten n)) refl)

tenth : (digits n : ℕ) → n < 10 ^ suc digits → n / 10 < 10 ^ digits
tenth digits n h =
    let parts = div-add-mod' n 10 in
    let power : 10 ^ suc digits ≡ 10 ^ digits * 10 = omega arith in
    omega (arith, parts, power, h)

-- a number with at most this many digits is read back
pub value : (digits n : ℕ) → n < 10 ^ digits → digits_value 10 (numeral digits n) ≡ n
value zero n h = omega (arith, h)
value (suc digits) n h =
    let below = value digits (n / 10) (tenth digits n h) in
    let last = byte_value (n % 10) (less_ten n) in
    let more = digits_value_push 10 (numeral digits (n / 10)) (48 + n % 10) in
    let parts = div-add-mod' n 10 in
    omega (arith, below, last, more, parts)

take_more : (xs : List ℕ) (i : ℕ) → i < length xs → take i xs ++ (get_or xs i 0 ∷ []) ≡ take (suc i) xs
take_more [] i h = absurd (omega (arith, h))
take_more (x ∷ xs) zero h = refl
take_more (x ∷ xs) (suc i) h = ap (λ (t : List ℕ). x ∷ t) (take_more xs i (omega (arith, h)))

digit_at : (xs : List ℕ) (i : ℕ) → i < length xs → list_all is_ascii_digit xs ≡ true → is_ascii_digit (get_or xs i 0) ≡ true
digit_at xs i h all = step (is_ascii_digit (get_or xs i 0)) (λ e. list_all_at is_ascii_digit xs i 0 h e) where
  step : (b : Bool) → (b ≡ false → list_all is_ascii_digit xs ≡ false) → b ≡ true
  step true other = refl
  step false other = absurd (true≢false (sym all ∙ other refl))

-- digits are those of their number
pub again : (xs : List ℕ) (i : ℕ) → i ≤ length xs → list_all is_ascii_digit xs ≡ true → numeral i (digits_value 10 (take i xs)) ≡ take i xs
again xs zero h all = refl
again xs (suc i) h all =
    let less : i < length xs = omega (arith, h) in
    let next : suc i ≡ i + 1 = omega arith in
    let byte = digit_is (get_or xs i 0) (digit_at xs i less all) in
    let small : digit_value (get_or xs i 0) < 10 = omega (arith, byte, digit_upto (get_or xs i 0) (digit_at xs i less all)) in
    let more : digits_value 10 (take (suc i) xs) ≡ digits_value 10 (take i xs) * 10 + digit_value (get_or xs i 0) =
    subst (λ (n : ℕ). digits_value 10 (take n xs) ≡ digits_value 10 (take i xs) * 10 + digit_value (get_or xs i 0)) (sym next) (digits_value_more 10 xs i less) in
    let tens = div-mul-add (digits_value 10 (take i xs)) 10 (digit_value (get_or xs i 0)) small in
    let whole = div-add-mod' (digits_value 10 (take i xs) * 10 + digit_value (get_or xs i 0)) 10 in
    let front : digits_value 10 (take (suc i) xs) / 10 ≡ digits_value 10 (take i xs) = ap (λ (n : ℕ). n / 10) more ∙ tens in
    let back : 48 + digits_value 10 (take (suc i) xs) % 10 ≡ get_or xs i 0 = ap (λ (n : ℕ). 48 + n % 10) more ∙ omega (arith, tens, whole, byte) in
    ap (λ (n : ℕ). numeral i n ++ ((48 + digits_value 10 (take (suc i) xs) % 10) ∷ [])) front
    ∙ (ap (λ (t : List ℕ). t ++ ((48 + digits_value 10 (take (suc i) xs) % 10) ∷ [])) (again xs i (omega (arith, h)) all)
    ∙ (ap (λ (b : ℕ). take i xs ++ (b ∷ [])) back ∙ take_more xs i less))
