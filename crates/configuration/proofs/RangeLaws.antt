-- What a range means.
use Rattle.std.proofs.Common.{◌≡◌, ◌<◌, ◌+◌, ◌-◌, ◌^◌, ℕ, zero, suc, Bool, true, false, ◌&&◌, cond, leb, eqb, List, [], ◌∷◌, length, take_all, slice_index_or, Option, Some, None, refl, sym, ap, subst, ◌∙◌, arith}
use Rattle.std.specs.Prelude.{option_and_then}
use Rattle.std.specs.List.{Contains, list_all}
use Rattle.std.specs.Char.{is_ascii_digit, digit_value}
use Rattle.std.specs.Str.Parse.{digits_value, AllDigits}
use Rattle.std.proofs.lemmas.Bool.{and_parts, eqb-true}
use Rattle.std.proofs.lemmas.Int.Digits.{digits_value-lt}
use Rattle.text.specs.Cut.{before}
use Rattle.text.specs.Number.{number_upto}
use Rattle.text.proofs.Numbers.{digit_is}
use Rattle.configuration.specs.Limits.{max_range_digits}
use Rattle.configuration.specs.Ranges.{last_of, ordered, range_between, range_of, numeral, numerals, names_in, names_or}
use Rattle.configuration.specs.RangeLaws.{IsBetween, RangeHolds}
use Rattle.configuration.specs.declared.ranges.Range.{Range}
use Rattle.configuration.proofs.Numerals.{digit_upto, long, all_digits, value, again}

-- ---- its last number has at most as many digits

are_all : (ds : List ℕ) → list_all is_ascii_digit ds ≡ true → AllDigits 10 ds
are_all [] h = tt
are_all (c ∷ cs) h =
    let parts = and_parts (is_ascii_digit c) (list_all is_ascii_digit cs) h in
    let byte = digit_is c parts.0 in
    let most = digit_upto c parts.0 in
    let small : digit_value c < 10 = omega (arith, byte, most) in
    (small, are_all cs parts.1)

short : (limit : ℕ) (ds : List ℕ) (n : ℕ) → number_upto limit ds ≡ Some n → n < 10 ^ length ds
short limit ds n h = step (list_all is_ascii_digit ds) (leb (digits_value 10 ds) limit) (λ e. digits_value-lt 10 ds (are_all ds e)) h where
  step : (a b : Bool) → (a ≡ true → digits_value 10 ds < 10 ^ length ds) → cond (a && b) (Some (digits_value 10 ds)) None ≡ Some n → n < 10 ^ length ds
  step true true less e = let same : digits_value 10 ds ≡ n = cc in subst (λ (m : ℕ). m < 10 ^ length ds) same (less refl)
  step true false less e = absurd cc
  step false b less e = absurd cc

ordered_is : (digits first last : ℕ) (r : Range) → last < 10 ^ digits → ordered digits first last ≡ Some r → r.last < 10 ^ r.digits
ordered_is digits first last r less h = step (leb first last) h where
  step : (b : Bool) → cond b (Some (record { digits = digits; first = first; last = last })) None ≡ Some r → r.last < 10 ^ r.digits
  step true e = let same : record { digits = digits; first = first; last = last } ≡ r = cc in subst (λ (s : Range). s.last < 10 ^ s.digits) same less
  step false e = absurd cc

between_is : (first last : List ℕ) (r : Range) → range_between first last ≡ Some r → r.last < 10 ^ r.digits
between_is first last r h =
    step (leb 1 (length first)) (eqb (length first) (length last)) (leb (length first) max_range_digits) (number_upto (10 ^ max_range_digits - 1) first) (number_upto (10 ^ max_range_digits - 1) last)
    (λ e. eqb-true (length first) (length last) e) (λ n e. short (10 ^ max_range_digits - 1) last n e) h where
      step : (a b d : Bool) (f l : Option ℕ) → (b ≡ true → length first ≡ length last) → ((n : ℕ) → l ≡ Some n → n < 10 ^ length last)
          → cond (a && b && d) (option_and_then (λ from. option_and_then (λ to. ordered (length first) from to) l) f) None ≡ Some r → r.last < 10 ^ r.digits
      step true true true (Some from) (Some to) same less e =
          ordered_is (length first) from to r (subst (λ (n : ℕ). to < 10 ^ n) (sym (same refl)) (less to refl)) e
      step true true true (Some from) None same less e = absurd cc
      step true true true None l same less e = absurd cc
      step true true false f l same less e = absurd cc
      step true false d f l same less e = absurd cc
      step false b d f l same less e = absurd cc

range_is : (text : List ℕ) (r : Range) → range_of text ≡ Some r → r.last < 10 ^ r.digits
range_is text r h = step (last_of text) h where
  step : (o : Option (List ℕ)) → option_and_then (λ last. range_between (before 46 text) last) o ≡ Some r → r.last < 10 ^ r.digits
  step None e = absurd cc
  step (Some last) e = between_is (before 46 text) last r e

-- ---- its names

many : (digits first count : ℕ) → length (numerals digits first count) ≡ count
many digits first zero = refl
many digits first (suc count) = let below = many digits (first + 1) count in omega (arith, below)

at_place : (digits first count k : ℕ) (name : List ℕ) → k < count → slice_index_or (numerals digits first count) k name ≡ numeral digits (first + k)
at_place digits first zero k name h = absurd (omega (arith, h))
at_place digits first (suc count) zero name h = let same : first ≡ first + 0 = omega arith in ap (numeral digits) same
at_place digits first (suc count) (suc k) name h =
    let same : first + 1 + k ≡ first + suc k = omega arith in at_place digits (first + 1) count k name (omega (arith, h)) ∙ ap (numeral digits) same

from_names : (r : Range) (name : List ℕ) → r.last < 10 ^ r.digits → Contains (names_in r) name → IsBetween r name
from_names r name most (k, less, is) =
    let count = many r.digits r.first (r.last + 1 - r.first) in
    let within : k < r.last + 1 - r.first = omega (arith, less, count) in
    let same : numeral r.digits (r.first + k) ≡ name = sym (at_place r.digits r.first (r.last + 1 - r.first) k name within) ∙ is in
    let number = value r.digits (r.first + k) (omega (arith, most, within)) in
    subst (λ (n : List ℕ). IsBetween r n) same (record {
      digits = all_digits r.digits (r.first + k);
      long = long r.digits (r.first + k);
      from = omega (arith, number);
      to = omega (arith, number, within);
    })

to_names : (r : Range) (name : List ℕ) → IsBetween r name → Contains (names_in r) name
to_names r name b =
    let n = digits_value 10 name in
    let count = many r.digits r.first (r.last + 1 - r.first) in
    let within : n - r.first < r.last + 1 - r.first = omega (arith, b.from, b.to) in
    let whole = take_all (length name) name (omega arith) in
    let spelled : numeral (length name) n ≡ name = subst (λ (t : List ℕ). numeral (length name) (digits_value 10 t) ≡ t) whole (again name (length name) (omega arith) b.digits) in
    let number : r.first + (n - r.first) ≡ n = omega (arith, b.from) in
    let named = at_place r.digits r.first (r.last + 1 - r.first) (n - r.first) name within ∙ (ap (numeral r.digits) number ∙ (ap (λ (d : ℕ). numeral d n) (sym b.long) ∙ spelled)) in
    (n - r.first, omega (arith, within, count), named)

pub holds : RangeHolds
holds text name r is =
    subst (λ (ns : List (List ℕ)). (Contains ns name → IsBetween r name) × (IsBetween r name → Contains ns name)) (sym (ap (names_or text) is))
    ((λ c. from_names r name (range_is text r is) c), (λ b. to_names r name b))
