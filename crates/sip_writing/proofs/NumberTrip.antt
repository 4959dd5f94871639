-- CSeq and Max-Forwards of a request that is written are read again.
use Rattle.std.proofs.Common.{◌≡◌, ℕ, ◌+◌, ◌<◌, ◌≤◌, ◌^◌, true, false, not, eqb, List, [], ◌∷◌, ◌++◌, length, take, drop, Some, refl, ap, ◌∙◌, arith}
use Rattle.std.specs.Prelude.{decimal}
use Rattle.std.specs.Char.{is_ascii_digit}
use Rattle.std.specs.List.{list_all, position_or_len}
use Rattle.std.proofs.lemmas.Bool.{and_parts, and_from}
use Rattle.std.proofs.Math.Seq.{take-append_seam, drop-append-add}
use Rattle.text.specs.Class.{is_blank, is_run_of, is_token_byte}
use Rattle.text.specs.Cut.{word, behind_word}
use Rattle.text.specs.Trim.{without_blanks, without_end}
use Rattle.text.proofs.Numbers.{decimal_digits, decimal_run, number_again}
use Rattle.sip_message.specs.CSeq.{cseq_of, max_cseq}
use Rattle.sip_message.specs.Fields.{begins_blank}
use Rattle.sip_message.specs.MaxForwards.{max_forwards_of}
use Rattle.sip_message.specs.Lines.{is_clean}
use Rattle.sip_message.specs.Repeatable.{IsValue}
use Rattle.sip_writing.proofs.MessageRoundTrip.{digits_token}
use Rattle.sip_writing.specs.Requests.{cseq_text}
use Rattle.sip_message.proofs.ValueLaws.{token_not_blank, token_clean, token_front, token_end, token_trimmed, clean_joined, trim_same, end_behind}

first_blank : (ds rest : List ℕ) → list_all is_token_byte ds ≡ true → position_or_len is_blank (ds ++ 32 ∷ rest) ≡ length ds
first_blank [] rest h = refl
first_blank (d ∷ ds) rest h =
    let parts = and_parts (is_token_byte d) (list_all is_token_byte ds) h in
    let more = first_blank ds rest parts.1 in
    rw (token_not_blank d parts.0) (omega arith)

word_again : (ds rest : List ℕ) → list_all is_token_byte ds ≡ true → word (ds ++ 32 ∷ rest) ≡ ds
word_again ds rest h = ap (λ (n : ℕ). take n (ds ++ 32 ∷ rest)) (first_blank ds rest h) ∙ take-append_seam ds (32 ∷ rest)

behind_again : (ds rest : List ℕ) → list_all is_token_byte ds ≡ true → behind_word (ds ++ 32 ∷ rest) ≡ rest
behind_again ds rest h = ap (λ (n : ℕ). drop (n + 1) (ds ++ 32 ∷ rest)) (first_blank ds rest h) ∙ drop-append-add ds (32 ∷ rest) 1

-- ---- the whole

digits_of : (number : ℕ) → number < 2 ^ 64 → list_all is_token_byte (decimal number) ≡ true
digits_of number small = digits_token (decimal number) (decimal_digits number small)

run_all : (t : List ℕ) → is_run_of is_token_byte t ≡ true → list_all is_token_byte t ≡ true
run_all t h = (and_parts (not (eqb (length t) 0)) (list_all is_token_byte t) h).1

method_front : (t : List ℕ) → is_run_of is_token_byte t ≡ true → without_blanks t ≡ t
method_front [] h = absurd cc
method_front (b ∷ t) h = rw (token_front (b ∷ t) (run_all (b ∷ t) h)) refl

method_end : (t : List ℕ) → is_run_of is_token_byte t ≡ true → without_end (32 ∷ t) ≡ 32 ∷ t
method_end [] h = absurd cc
method_end (b ∷ t) h = end_behind (32 ∷ []) b t (token_end (b ∷ t) (run_all (b ∷ t) h))

pub cseq_again : (number : ℕ) (method : List ℕ) → number ≤ max_cseq → is_run_of is_token_byte method ≡ true → cseq_of (cseq_text number method) ≡ Some (record { number = number; method = method })
unfolding cseq_of
cseq_again number method low run =
    let small : number < 2 ^ 64 = omega (arith, low) in
    let token = digits_of number small in
    rw (word_again (decimal number) method token, behind_again (decimal number) method token, method_front method run, decimal_run number small, run, number_again max_cseq number low small) refl

begins : (ds rest : List ℕ) → is_run_of is_token_byte ds ≡ true → begins_blank (ds ++ rest) ≡ false
begins [] rest h = absurd cc
begins (d ∷ ds) rest h = token_not_blank d (and_parts (is_token_byte d) (list_all is_token_byte ds) (run_all (d ∷ ds) h)).0

number_run : (number : ℕ) → number < 2 ^ 64 → is_run_of is_token_byte (decimal number) ≡ true
number_run number small =
    let run = and_parts (not (eqb (length (decimal number)) 0)) (list_all is_ascii_digit (decimal number)) (decimal_run number small) in
    and_from (not (eqb (length (decimal number)) 0)) (list_all is_token_byte (decimal number)) run.0 (digits_of number small)

pub cseq_value : (number : ℕ) (method : List ℕ) → number ≤ max_cseq → is_run_of is_token_byte method ≡ true → IsValue (cseq_text number method)
cseq_value number method low run =
    let small : number < 2 ^ 64 = omega (arith, low) in
    record {
      clean = clean_joined (decimal number) (32 ∷ method) (token_clean (decimal number) (digits_of number small)) (clean_joined (32 ∷ []) method refl (token_clean method (run_all method run)));
      ends = trim_same (cseq_text number method) (record { front = begins (decimal number) (32 ∷ method) (number_run number small); back = end_behind (decimal number) 32 method (method_end method run) });
    }

-- ---- hops

pub hops_again : (hops : ℕ) → hops ≤ 255 → max_forwards_of (decimal hops) ≡ Some hops
hops_again hops low = let small : hops < 2 ^ 64 = omega (arith, low) in rw (decimal_run hops small, number_again 255 hops low small) refl

pub hops_value : (hops : ℕ) → hops ≤ 255 → IsValue (decimal hops)
hops_value hops low =
    let token : list_all is_token_byte (decimal hops) ≡ true = digits_of hops (omega (arith, low)) in
    record { clean = token_clean (decimal hops) token; ends = token_trimmed (decimal hops) token }
