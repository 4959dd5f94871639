-- Tokens that are made, and the Call-IDs that are made of them, are texts of their form.
use Rattle.std.proofs.Common.{◌≡◌, ◌∙◌, ℕ, zero, suc, ◌+◌, ◌/◌, ◌%◌, ◌<◌, ◌≤◌, ◌^◌, ◌==◌, Bool, true, false, not, ◌&&◌, ◌||◌, List, [], ◌∷◌, ◌++◌, codes, length, Some, refl, ap, sym, subst, inl, inr, arith}
use Rattle.std.specs.Prelude.{decimal, slice_index}
use Rattle.std.specs.Char.{is_ascii_alphanumeric}
use Rattle.std.specs.List.{list_all}
use Rattle.std.proofs.lemmas.Bool.{and_from, and_parts, cases_lt, false≢true, ne_eqb}
use Rattle.std.proofs.lemmas.Fmt.{decimal_by_steps}
use Rattle.std.proofs.lemmas.List.{append_assoc}
use Rattle.std.proofs.lemmas.List.Folds.{list_all-append, list_any-append}
use Rattle.hex.specs.Hex.{lower_digits}
use Rattle.text.specs.Class.{is_blank, is_one_of, is_run_of, is_token_byte}
use Rattle.text.specs.Cut.{after, before}
use Rattle.text.specs.Trim.{kept, without_blanks, without_end}
use Rattle.sip_uri.specs.declared.uri.Addr.{Addr}
use Rattle.sip_uri.specs.Writing.{ip4_text}
use Rattle.sip_message.specs.CallId.{is_call_id, is_word, is_word_byte}
use Rattle.sip_message.specs.Lines.{is_text_byte}
use Rattle.sip_message.specs.Repeatable.{IsValue}
use Rattle.call_messages.specs.Messages.{leg_call_id}
use Rattle.responses.specs.Tokens.{token}
use Rattle.message_laws.proofs.TokenUse.TokenRuns.{token_run}
use Rattle.message_laws.specs.Addresses.{HasOctets}

-- ---- tests of bytes

abbrev passes_all : (ℕ → Bool) → ℕ → Bool
passes_all p zero = true
passes_all p (suc n) = p n && passes_all p n

passes_below : (p : ℕ → Bool) (n k : ℕ) → passes_all p n ≡ true → k < n → p k ≡ true
passes_below p zero k h lt = absurd (omega (arith, lt))
passes_below p (suc n) k h lt =
    let parts = and_parts (p n) (passes_all p n) h in
    elim (cases_lt k n) [
      | inl below ↦ passes_below p n k parts.1 below
      | inr top ↦ let is : k ≡ n = omega (arith, lt, top) in subst (λ m. p m ≡ true) (sym is) parts.0
    ]

digit_token : (d : ℕ) → d < 10 → is_token_byte (48 + d) ≡ true
digit_token d lt = passes_below (λ n. is_token_byte (48 + n)) 10 d refl lt

hex_token : (d : ℕ) → d < 16 → is_token_byte (slice_index lower_digits d) ≡ true
hex_token d lt = passes_below (λ n. is_token_byte (slice_index lower_digits n)) 16 d refl lt

-- a byte that passes is no byte that doesn't
differs : (p : ℕ → Bool) (c b : ℕ) → p c ≡ false → p b ≡ true → (b == c) ≡ false
differs p c b none some = ne_eqb b c (λ same. false≢true (sym none ∙ ap p (sym same) ∙ some))

-- ---- runs

abbrev IsTokens : List ℕ → Type 0
IsTokens text = list_all is_token_byte text ≡ true

joined : (p : ℕ → Bool) (xs ys : List ℕ) → list_all p xs ≡ true → list_all p ys ≡ true → list_all p (xs ++ ys) ≡ true
joined p xs ys h k = list_all-append p xs ys ∙ and_from (list_all p xs) (list_all p ys) h k

pub run_from : (p : ℕ → Bool) (x : ℕ) (xs : List ℕ) → list_all p (x ∷ xs) ≡ true → is_run_of p (x ∷ xs) ≡ true
run_from p x xs h = and_from (not (length (x ∷ xs) == 0)) (list_all p (x ∷ xs)) (ap not (ne_eqb (suc (length xs)) 0 (λ e. omega (arith, e)))) h

-- a text with a byte at its end is a run, where all of its bytes pass
run_before : (p : ℕ → Bool) (xs : List ℕ) (y : ℕ) → list_all p (xs ++ y ∷ []) ≡ true → is_run_of p (xs ++ y ∷ []) ≡ true
run_before p [] y h = run_from p y [] h
run_before p (x ∷ xs) y h = run_from p x (xs ++ y ∷ []) h

pub all_of_run : (p : ℕ → Bool) (xs : List ℕ) → is_run_of p xs ≡ true → list_all p xs ≡ true
all_of_run p xs h = (and_parts (not (length xs == 0)) (list_all p xs) h).1

run_joined : (p : ℕ → Bool) (xs ys : List ℕ) → is_run_of p xs ≡ true → list_all p ys ≡ true → is_run_of p (xs ++ ys) ≡ true
run_joined p [] ys h k = absurd (false≢true h)
run_joined p (x ∷ xs) ys h k = run_from p x (xs ++ ys) (joined p (x ∷ xs) ys (all_of_run p (x ∷ xs) h) k)

weaker_all : (p q : ℕ → Bool) (xs : List ℕ) → ((b : ℕ) → p b ≡ true → q b ≡ true) → list_all p xs ≡ true → list_all q xs ≡ true
weaker_all p q [] weaker h = refl
weaker_all p q (x ∷ xs) weaker h =
    let parts = and_parts (p x) (list_all p xs) h in
    and_from (q x) (list_all q xs) (weaker x parts.0) (weaker_all p q xs weaker parts.1)

-- ---- numbers and tokens

abbrev TokenRun : ℕ → List ℕ → Type 0
TokenRun n text = IsTokens text × (is_run_of is_token_byte text ≡ true)

one_digit : (n : ℕ) → n < 10 → TokenRun n ((48 + n) ∷ [])
one_digit n lt =
    let all : IsTokens ((48 + n) ∷ []) = and_from (is_token_byte (48 + n)) true (digit_token n lt) refl in
    (all, run_from is_token_byte (48 + n) [] all)

more_digits : (n : ℕ) (ds : List ℕ) → 10 ≤ n → TokenRun (n / 10) ds → TokenRun n (ds ++ ((48 + n % 10) ∷ []))
more_digits n ds le h =
    let last = one_digit (n % 10) (omega arith) in
    let all = joined is_token_byte ds ((48 + n % 10) ∷ []) h.0 last.0 in
    (all, run_before is_token_byte ds (48 + n % 10) all)

number_run : (n : ℕ) → n < 2 ^ 64 → TokenRun n (decimal n)
number_run n small = decimal_by_steps TokenRun one_digit more_digits n small

-- ---- an address

abbrev IsRun : List ℕ → Type 0
IsRun text = is_run_of is_token_byte text ≡ true

dotted : (xs : List ℕ) (octet : ℕ) → IsRun xs → octet ≤ 255 → IsRun (xs ++ 46 ∷ [] ++ decimal octet)
dotted xs octet h le = run_joined is_token_byte (xs ++ 46 ∷ []) (decimal octet) (run_joined is_token_byte xs (46 ∷ []) h refl) (number_run octet (omega (arith, le))).0

address_run : (ip : List ℕ) → HasOctets ip → IsRun (ip4_text ip)
address_run ip octets =
    let one : IsRun (decimal (slice_index ip 0)) = (number_run (slice_index ip 0) (omega (arith, octets 0))).1 in
    let two = dotted (decimal (slice_index ip 0)) (slice_index ip 1) one (octets 1) in
    let three = dotted (decimal (slice_index ip 0) ++ 46 ∷ [] ++ decimal (slice_index ip 1)) (slice_index ip 2) two (octets 2) in
    dotted (decimal (slice_index ip 0) ++ 46 ∷ [] ++ decimal (slice_index ip 1) ++ 46 ∷ [] ++ decimal (slice_index ip 2)) (slice_index ip 3) three (octets 3)

-- ---- Call-IDs

or_from : (a b c : Bool) → (b ≡ true → c ≡ true) → (a || b) ≡ true → (a || c) ≡ true
or_from true b c f h = refl
or_from false b c f h = f h

or_left : (a b : Bool) → a ≡ true → (a || b) ≡ true
or_left true b h = refl
or_left false b h = absurd (false≢true h)

token_word : (b : ℕ) → is_token_byte b ≡ true → is_word_byte b ≡ true
token_word b h =
    or_from (is_ascii_alphanumeric b) (is_one_of (codes "-.!%*_+`'~") b) (is_one_of (codes "-.!%*_+`'~()<>:\\\"/[]?{}") b)
    (λ one. list_any-append (λ y. y == b) (codes "-.!%*_+`'~") (codes "()<>:\\\"/[]?{}") ∙ or_left _ _ one) h

word_from : (text : List ℕ) → IsRun text → is_word text ≡ true
word_from text h =
    let parts = and_parts (not (length text == 0)) (list_all is_token_byte text) h in
    and_from (not (length text == 0)) (list_all is_word_byte text) parts.0 (weaker_all is_token_byte is_word_byte text token_word parts.1)

before_at : (xs ys : List ℕ) → IsTokens xs → before 64 (xs ++ 64 ∷ ys) ≡ xs
before_at [] ys h = refl
before_at (x ∷ xs) ys h =
    let parts = and_parts (is_token_byte x) (list_all is_token_byte xs) h in
    rw (differs is_token_byte 64 x refl parts.0) (ap (λ (t : List ℕ). x ∷ t) (before_at xs ys parts.1))

after_at : (xs ys : List ℕ) → IsTokens xs → after 64 (xs ++ 64 ∷ ys) ≡ Some ys
after_at [] ys h = refl
after_at (x ∷ xs) ys h =
    let parts = and_parts (is_token_byte x) (list_all is_token_byte xs) h in
    rw (differs is_token_byte 64 x refl parts.0) (after_at xs ys parts.1)

joined_id : (xs ys : List ℕ) → IsRun xs → IsRun ys → is_call_id (xs ++ 64 ∷ ys) ≡ true
joined_id xs ys h k =
    let all = all_of_run is_token_byte xs h in
    rw (before_at xs ys all, after_at xs ys all) (and_from (is_word xs) (is_word ys) (word_from xs h) (word_from ys k))

-- ---- values of header fields

-- a byte of a line that is no blank
abbrev is_solid : ℕ → Bool
is_solid b = is_text_byte b && not (is_blank b)

token_solid : (b : ℕ) → is_token_byte b ≡ true → is_solid b ≡ true
token_solid b h =
    rw (differs is_token_byte 13 b refl h, differs is_token_byte 10 b refl h, differs is_token_byte 0 b refl h, differs is_token_byte 32 b refl h, differs is_token_byte 9 b refl h) refl

not_blank : (b : ℕ) → is_solid b ≡ true → is_blank b ≡ false
not_blank b h = is_not (is_blank b) (and_parts (is_text_byte b) (not (is_blank b)) h).1
  where
    is_not : (x : Bool) → not x ≡ true → x ≡ false
    is_not true e = absurd (false≢true e)
    is_not false e = refl

solid_end : (text : List ℕ) → list_all is_solid text ≡ true → without_end text ≡ text
solid_end [] h = refl
solid_end (b ∷ text) h =
    let parts = and_parts (is_solid b) (list_all is_solid text) h in
    ap (kept b) (solid_end text parts.1) ∙ rw (not_blank b parts.0) refl

solid_front : (text : List ℕ) → list_all is_solid text ≡ true → without_blanks text ≡ text
solid_front [] h = refl
solid_front (b ∷ text) h = rw (not_blank b (and_parts (is_solid b) (list_all is_solid text) h).0) refl

solid_value : (text : List ℕ) → list_all is_solid text ≡ true → IsValue text
solid_value text h = record {
  clean = weaker_all is_solid is_text_byte text (λ b s. (and_parts (is_text_byte b) (not (is_blank b)) s).0) h;
  ends = ap without_end (solid_front text h) ∙ solid_end text h;
}

joined_value : (xs ys : List ℕ) → IsTokens xs → IsTokens ys → IsValue (xs ++ 64 ∷ ys)
joined_value xs ys h k =
    solid_value (xs ++ 64 ∷ ys)
    (joined is_solid xs (64 ∷ ys) (weaker_all is_token_byte is_solid xs token_solid h) (weaker_all is_token_byte is_solid ys token_solid k))

-- the Call-ID of a new leg: a token at the server's address (section 8.1.1.4)
at_server : (server : Addr) (text : List ℕ) → text ++ 64 ∷ ip4_text server.ip ≡ leg_call_id server text
at_server server text = sym (append_assoc text (64 ∷ []) (ip4_text server.ip))

pub leg_call_id_is : (server : Addr) (salt count : ℕ) → HasOctets server.ip → count < 2 ^ 64 → is_call_id (leg_call_id server (token salt count)) ≡ true
leg_call_id_is server salt count octets few =
    subst (λ text. is_call_id text ≡ true) (at_server server (token salt count)) (joined_id (token salt count) (ip4_text server.ip) (token_run salt count few) (address_run server.ip octets))

pub leg_call_id_value : (server : Addr) (salt count : ℕ) → HasOctets server.ip → count < 2 ^ 64 → IsValue (leg_call_id server (token salt count))
leg_call_id_value server salt count octets few =
    subst IsValue (at_server server (token salt count))
    (joined_value (token salt count) (ip4_text server.ip) (all_of_run is_token_byte (token salt count) (token_run salt count few)) (all_of_run is_token_byte (ip4_text server.ip) (address_run server.ip octets)))
