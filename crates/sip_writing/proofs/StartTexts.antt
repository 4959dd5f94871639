-- The texts of a start line: three digits of a status, and the bytes of a Request-URI.
use Rattle.std.proofs.Common.{◌≡◌, ℕ, ◌+◌, ◌%◌, ◌/◌, ◌≤◌, ◌<◌, ◌^◌, true, not, eqb, List, [], ◌∷◌, ◌++◌, length, Some, refl, ap, length-append, arith}
use Rattle.std.specs.Prelude.{decimal}
use Rattle.std.proofs.lemmas.Bool.{and_from, eq-eqb, le-leb}
use Rattle.std.proofs.lemmas.Fmt.{decimal_by_steps, length-decimal-le}
use Rattle.text.proofs.CutLaws.{Lacks}
use Rattle.text.proofs.Numbers.{decimal_run, number_again}
use Rattle.sip_uri.specs.declared.uri.Uri.{Uri}
use Rattle.sip_uri.specs.Grammar.{ReadsUri}
use Rattle.sip_uri.proofs.UriBytes.{lacks_space, lacks_return, lacks_feed, lacks_nul}
use Rattle.sip_message.specs.Lines.{is_clean, is_text_byte}
use Rattle.sip_message.specs.Start.{has_no_space, status_read}

-- ---- a status

-- the minimum number of digits of a number
record Digits (n : ℕ) (digits : List ℕ) : Type 0 where
  one : 1 ≤ length digits
  two : 10 ≤ n → 2 ≤ length digits
  three : 100 ≤ n → 3 ≤ length digits

digits_are : (n : ℕ) → n < 2 ^ 64 → Digits n (decimal n)
digits_are = decimal_by_steps Digits (λ m l. record { one = omega arith; two = λ a. omega arith; three = λ a. omega arith }) (λ m ds l h. more m ds l h) where
  more : (m : ℕ) (ds : List ℕ) → 10 ≤ m → Digits (m / 10) ds → Digits m (ds ++ (48 + m % 10) ∷ [])
  more m ds l h =
      let size = length-append ds ((48 + m % 10) ∷ []) in
      record { one = omega (arith, size); two = λ a. omega (arith, size, h.one); three = λ a. omega (arith, size, h.two (omega arith)) }

-- a status that is written is read again
pub status_again : (n : ℕ) → 100 ≤ n → n ≤ 699 → status_read (decimal n) ≡ Some n
unfolding status_read
status_again n low high =
    let small : n < 2 ^ 64 = omega (arith, high) in
    let three : length (decimal n) ≡ 3 = omega (arith, (digits_are n small).three low, length-decimal-le 3 n (omega arith) (omega (arith, high)) small) in
    rw (eq-eqb (length (decimal n)) 3 three, decimal_run n small, number_again 699 n high small, le-leb 100 n low) refl

-- ---- a Request-URI

unbroken : (text : List ℕ) → Lacks 32 text → has_no_space text ≡ true
unbroken [] h = refl
unbroken (b ∷ bs) h = and_from (not (eqb b 32)) (has_no_space bs) (ap not h.0) (unbroken bs h.1)

pub clean_from_lacks : (text : List ℕ) → Lacks 13 text → Lacks 10 text → Lacks 0 text → is_clean text ≡ true
clean_from_lacks [] h i j = refl
clean_from_lacks (b ∷ bs) h i j = and_from (is_text_byte b) (is_clean bs) (rw (h.0, i.0, j.0) refl) (clean_from_lacks bs h.1 i.1 j.1)

pub uri_unbroken : (text : List ℕ) (uri : Uri) → ReadsUri text uri → has_no_space text ≡ true
uri_unbroken text uri h = unbroken text (lacks_space text h.raw h.spelled)

pub uri_clean : (text : List ℕ) (uri : Uri) → ReadsUri text uri → is_clean text ≡ true
uri_clean text uri h = clean_from_lacks text (lacks_return text h.raw h.spelled) (lacks_feed text h.raw h.spelled) (lacks_nul text h.raw h.spelled)
