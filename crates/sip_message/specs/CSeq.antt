-- The value of a CSeq header field: digits, blanks and a method (RFC 3261 sections 20.16 and 25.1).
use Rattle.std.specs.Prelude.{ℕ, Bool, true, ◌&&◌, nat_eq, List, Option, None, option_map, if◌then◌else◌}
use Rattle.std.specs.Char.{is_ascii_digit}
use Rattle.std.specs.Cmp.Lexicographic.{pointwise}
use Rattle.text.specs.Class.{is_run_of, is_token_byte}
use Rattle.text.specs.Cut.{word, behind_word}
use Rattle.text.specs.Number.{number_upto}
use Rattle.text.specs.Trim.{without_blanks}
use Rattle.sip_message.specs.declared.cseq.CSeq.{CSeq}
use Rattle.sip_message.specs.declared.start.Start.{Start}
use Rattle.sip_message.specs.declared.start.Start.TheVariants.{Asking, Answering}

-- a sequence number is below 2^31 (section 8.1.1.5)
abbrev pub max_cseq : ℕ
max_cseq = 2147483647

abbrev pub cseq_from : List ℕ → List ℕ → Option CSeq
cseq_from digits method = option_map (λ n. record { number = n; method = method }) (number_upto max_cseq digits)

unfoldable pub cseq_of : List ℕ → Option CSeq
cseq_of text =
    let method = without_blanks (behind_word text) in
    if is_run_of is_ascii_digit (word text) && is_run_of is_token_byte method then cseq_from (word text) method else None

-- the method of a request's CSeq is the request's (section 8.1.1.5)
abbrev pub is_method_for : Start → List ℕ → Bool
is_method_for (Asking line) method = pointwise nat_eq method line.method
is_method_for (Answering line) method = true
