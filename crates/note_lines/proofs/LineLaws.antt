-- A line is one line, printable and not long.
use Rattle.std.proofs.Common.{◌≡◌, ◌≤◌, ◌<◌, ◌+◌, ◌*◌, ◌/◌, ◌%◌, ℕ, Bool, true, false, ◌&&◌, cond, List, [], ◌∷◌, ◌++◌, length, zero, suc, take, refl, Result, Ok, Err, OnOk, inl, inr, ◌∙◌, arith, leb}
use Rattle.std.proofs.lemmas.Bool.{leb-true, ltb-true, le-leb}
use Rattle.std.proofs.Math.Nat.{mod-lt}
use Rattle.std.proofs.lemmas.List.{length-append}
use Rattle.std.proofs.lemmas.List.Folds.{list_all-append}
use Rattle.std.specs.Prelude.{codes, decimal, nat_lt}
use Rattle.std.specs.List.{flat_map, list_all}
use Rattle.std.specs.declared.alloc.AllocError.{AllocError}
use Rattle.note_lines.specs.Notes.{Says}
use Rattle.note_lines.specs.Lines.{max_word, max_shown, max_fields, is_plain, last_digit, shown_byte, shown, dashed, dashed_text, words_text, seconds_text, Value, Number, Text, Words, Time, Field, value_text, field_text, word_text, line_text, is_printable, IsLine, Tells}

-- printable, and at most `most` bytes
pub record Fits (most : ℕ) (text : List ℕ) : Type 0 where
  pub printable : list_all is_printable text ≡ true
  pub bounded : length text ≤ most

both_true : (a b : Bool) → a ≡ true → b ≡ true → (a && b) ≡ true
both_true a b h i = cc

joined : (m n : ℕ) (s t : List ℕ) → Fits m s → Fits n t → Fits (m + n) (s ++ t)
joined m n s t f g = record {
  printable = list_all-append is_printable s t ∙ both_true _ _ f.printable g.printable;
  bounded = let e = length-append s t in omega (arith, f.bounded, g.bounded, e);
}

wider : (m n : ℕ) (t : List ℕ) → m ≤ n → Fits m t → Fits n t
wider m n t less f = record { printable = f.printable; bounded = omega (arith, less, f.bounded) }

printable_at : (b : ℕ) → 32 ≤ b → b ≤ 126 → is_printable b ≡ true
printable_at b low high = both_true _ _ (le-leb 32 b low) (le-leb b 126 high)

nothing : Fits 0 []
nothing = record { printable = refl; bounded = omega arith }

-- ---- bytes

plain_first : (a b c : Bool) → (a && b && c) ≡ true → (a ≡ true) × (b ≡ true)
plain_first true true c h = (refl, refl)
plain_first true false c h = absurd cc
plain_first false b c h = absurd cc

plain_is_printable : (b : ℕ) → is_plain b ≡ true → is_printable b ≡ true
plain_is_printable b h =
    let parts = plain_first _ _ _ h in
    let low = ltb-true 32 b parts.0 in
    let high = ltb-true b 127 parts.1 in
    printable_at b (omega (arith, low)) (omega (arith, high))

digit_is_printable : (n : ℕ) → is_printable (last_digit n) ≡ true
digit_is_printable n = step (n % 16) (nat_lt (n % 16) 10) (mod-lt n (omega arith)) where
  step : (d : ℕ) (t : Bool) → d < 16 → is_printable (cond t (48 + d) (87 + d)) ≡ true
  step d true less = printable_at (48 + d) (omega arith) (omega (arith, less))
  step d false less = printable_at (87 + d) (omega arith) (omega (arith, less))

one_byte : (b : ℕ) → Fits 4 (shown_byte b)
one_byte b = step (is_plain b) (plain_is_printable b) where
  step : (t : Bool) → (t ≡ true → is_printable b ≡ true) → Fits 4 (cond t (b ∷ []) (codes "\\x" ++ last_digit (b / 16) ∷ last_digit b ∷ []))
  step true plain = record { printable = both_true _ _ (plain refl) refl; bounded = omega arith }
  step false plain = record {
    printable = both_true _ _ (digit_is_printable (b / 16)) (both_true _ _ (digit_is_printable b) refl);
    bounded = omega arith;
  }

-- ---- texts

bytes_fit : (text : List ℕ) → Fits (4 * length text) (flat_map shown_byte text)
bytes_fit [] = nothing
bytes_fit (b ∷ bs) = wider (4 + 4 * length bs) (4 * length (b ∷ bs)) _ (omega arith) (joined 4 (4 * length bs) _ _ (one_byte b) (bytes_fit bs))

take_is_short : (n : ℕ) (text : List ℕ) → length (take n text) ≤ n
take_is_short zero text = omega arith
take_is_short (suc n) [] = omega arith
take_is_short (suc n) (b ∷ bs) = let below = take_is_short n bs in omega (arith, below)

dots : Fits 3 (codes "...")
dots = record { printable = refl; bounded = omega arith }

shown_fits : (most : ℕ) (text : List ℕ) → Fits (4 * most + 3) (shown most text)
shown_fits most text = step (leb (length text) most) (leb-true (length text) most) where
  step : (t : Bool) → (t ≡ true → length text ≤ most) → Fits (4 * most + 3) (cond t (flat_map shown_byte text) (flat_map shown_byte (take most text) ++ codes "..."))
  step true less = let within = less refl in wider (4 * length text) _ _ (omega (arith, within)) (bytes_fit text)
  step false less =
      let short = take_is_short most text in
      wider (4 * length (take most text) + 3) _ _ (omega (arith, short)) (joined _ 3 _ _ (bytes_fit (take most text)) dots)

-- ---- lines

sign : (b : ℕ) → is_printable b ≡ true → Fits 1 (b ∷ [])
sign b h = record { printable = both_true _ _ h refl; bounded = omega arith }

seconds_fit : (n : ℕ) → Fits 168 (seconds_text n)
unfolding seconds_text
seconds_fit n =
    joined 167 1 _ _ (joined 84 83 _ _ (joined 83 1 _ _ (shown_fits max_word (decimal (n / 1000))) (sign 46 refl)) (shown_fits max_word (decimal (n / 100 % 10)))) (sign 115 refl)

dashed_fit : (words : List ℕ) → Fits (4 * length words) (dashed_text words)
dashed_fit [] = nothing
dashed_fit (b ∷ bs) = wider (4 + 4 * length bs) (4 * length (b ∷ bs)) _ (omega arith) (joined 4 (4 * length bs) _ _ (one_byte (dashed b)) (dashed_fit bs))

words_fit : (words : List ℕ) → Fits 400 (words_text max_shown words)
words_fit words = step (leb (length words) max_shown) (leb-true (length words) max_shown) where
  step : (t : Bool) → (t ≡ true → length words ≤ max_shown) → Fits 400 (cond t (dashed_text words) (dashed_text (take max_shown words)))
  step true less = let within = less refl in wider (4 * length words) 400 _ (omega (arith, within)) (dashed_fit words)
  step false less = let short = take_is_short max_shown words in wider (4 * length (take max_shown words)) 400 _ (omega (arith, short)) (dashed_fit (take max_shown words))

value_fits : (v : Value) → Fits 403 (value_text v)
value_fits (Number n) = wider 83 403 _ (omega arith) (shown_fits max_word (decimal n))
value_fits (Text text) = shown_fits max_shown text
value_fits (Words words) = wider 400 403 _ (omega arith) (words_fit words)
value_fits (Time n) = wider 168 403 _ (omega arith) (seconds_fit n)

field_fits : (field : Field) → Fits 488 (field_text field)
unfolding field_text
field_fits field =
    joined 85 403 _ _ (joined 84 1 _ _ (joined 1 83 _ _ (sign 32 refl) (shown_fits max_word field.key)) (sign 61 refl)) (value_fits field.value)

fields_fit : (fields : List Field) → Fits (488 * length fields) (flat_map field_text fields)
fields_fit [] = nothing
fields_fit (field ∷ fields) =
    wider (488 + 488 * length fields) (488 * length (field ∷ fields)) _ (omega arith) (joined 488 (488 * length fields) _ _ (field_fits field) (fields_fit fields))

pub is_line : (word : List ℕ) (fields : List Field) → length fields ≤ max_fields → IsLine (line_text word fields)
unfolding line_text word_text
is_line word fields few =
    let fits = joined 83 (488 * length fields) _ _ (shown_fits max_word word) (fields_fit fields) in
    let long = length-append (shown max_word word ++ flat_map field_text fields) (codes "\n") in
    record {
      body = shown max_word word ++ flat_map field_text fields;
      ended = refl;
      printable = fits.printable;
      bounded = omega (arith, few, fits.bounded, long);
    }

-- ---- what is logged

pub says_tells : (IsWord : List ℕ → Type 0) (r : Result (Unit {0}) AllocError) (before behind : List ℕ)
    → OnOk r (Says IsWord before behind) → OnOk r (Tells before behind)
says_tells IsWord (Err e) before behind is = tt
says_tells IsWord (Ok done) before behind (text, inl none, is) = (text, inl none, is)
says_tells IsWord (Ok done) before behind (text, inr said, is) = (text, inr said.line, is)
