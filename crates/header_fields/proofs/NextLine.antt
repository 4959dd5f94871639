-- A clean line ends at the first CR, LF or NUL.
use Rattle.std.proofs.Common.{◌≡◌, ℕ, zero, suc, ◌+◌, ◌<◌, ◌≤◌, Bool, true, false, not, ◌&&◌, ◌||◌, cond, eqb, List, [], ◌∷◌, length, take, drop, slice_index, Option, Some, None, refl, sym, ap, ◌∙◌, arith}
use Rattle.std.specs.Prelude.{option_and_then}
use Rattle.std.proofs.lemmas.Bool.{and_parts, and_from, eqb-true, true≢false}
use Rattle.std.proofs.lemmas.List.{take_all}
use Rattle.memchr.specs.Find.{Passes, Nowhere, is_byte3}
use Rattle.header_fields.specs.Lines.{begins_line_end, before_line_end, after_line_end, is_text_byte, is_clean, line_of}

text_byte_is : (b : ℕ) → is_text_byte b ≡ not (is_byte3 13 10 0 b)
text_byte_is b = step (eqb b 13) (eqb b 10) (eqb b 0) where
  step : (x y z : Bool) → (not x && not y && not z) ≡ not (x || y || z)
  step true y z = refl
  step false true z = refl
  step false false z = refl

-- the bytes before the first mark are clean
pub clean_upto : (text : List ℕ) (at : ℕ) → at ≤ length text → Nowhere (Passes (is_byte3 13 10 0) text) 0 at → is_clean (take at text) ≡ true
clean_upto text zero le unmarked = refl
clean_upto [] (suc n) le unmarked = absurd (omega arith)
clean_upto (b ∷ bs) (suc n) le unmarked =
    and_from (is_text_byte b) (is_clean (take n bs)) (text_byte_is b ∙ first (is_byte3 13 10 0 b) (λ h. unmarked 0 (omega arith) (omega arith) h))
    (clean_upto bs n (omega arith) (λ k l h p. unmarked (suc k) (omega arith) (omega arith) p)) where
      first : (e : Bool) → (e ≡ true → ⊥) → not e ≡ true
      first true none = absurd (none refl)
      first false none = refl

not_here : (b : ℕ) (bs : List ℕ) → is_text_byte b ≡ true → begins_line_end (b ∷ bs) ≡ false
not_here b bs h = none bs (step (eqb 13 b) (λ e. eqb-true 13 b e)) where
  step : (e : Bool) → (e ≡ true → 13 ≡ b) → e ≡ false
  step false same = refl
  step true same = absurd (true≢false (sym h ∙ ap is_text_byte (sym (same refl))))

  none : (cs : List ℕ) → eqb 13 b ≡ false → begins_line_end (b ∷ cs) ≡ false
  none [] e = rw e refl
  none (c ∷ cs) e = rw e refl

line_parts : (text : List ℕ) (at : ℕ) → at < length text → is_clean (take at text) ≡ true → begins_line_end (drop at text) ≡ true
    → (before_line_end text ≡ take at text) × (after_line_end text ≡ Some (drop (at + 2) text))
line_parts [] at lt clean ends = absurd (omega arith)
line_parts (b ∷ bs) zero lt clean ends = rw ends (refl, refl)
line_parts (b ∷ bs) (suc n) lt clean ends =
    let parts = and_parts (is_text_byte b) (is_clean (take n bs)) clean in
    let more = line_parts bs n (omega arith) parts.1 ends in
    let next : suc n + 2 ≡ suc (n + 2) = omega arith in
    rw (not_here b bs parts.0, next) (ap (λ (t : List ℕ). b ∷ t) more.0, more.1)

-- if the first mark begins CR LF, the line ends there
pub line_found : (text : List ℕ) (at : ℕ) → at < length text → Nowhere (Passes (is_byte3 13 10 0) text) 0 at → begins_line_end (drop at text) ≡ true → Some (take at text, drop (at + 2) text) ≡ line_of text
line_found text at lt unmarked ends =
    let clean = clean_upto text at (omega arith) unmarked in
    let parts = line_parts text at lt clean ends in
    rw (parts.1, parts.0, clean) refl

-- a mark that begins no CR LF is in the line, if there is a line
stands_in_line : (text : List ℕ) (at : ℕ) → at < length text → is_clean (take at text) ≡ true → is_byte3 13 10 0 (slice_index text at) ≡ true → begins_line_end (drop at text) ≡ false
    → (rest : List ℕ) → after_line_end text ≡ Some rest → is_clean (before_line_end text) ≡ false
stands_in_line [] at lt clean mark ends rest h = absurd (omega arith)
stands_in_line (b ∷ bs) zero lt clean mark ends rest h = let bad : is_text_byte b ≡ false = text_byte_is b ∙ ap not mark in rw (ends, bad) refl
stands_in_line (b ∷ bs) (suc n) lt clean mark ends rest h =
    let parts = and_parts (is_text_byte b) (is_clean (take n bs)) clean in
    let behind : after_line_end bs ≡ Some rest = (rw (not_here b bs parts.0) at h) in
    rw (not_here b bs parts.0, parts.0) (stands_in_line bs n (omega arith) parts.1 mark ends rest behind)

no_line : (text : List ℕ) → ((rest : List ℕ) → after_line_end text ≡ Some rest → is_clean (before_line_end text) ≡ false) → line_of text ≡ None
no_line text bad = step (after_line_end text) bad where
  step : (o : Option (List ℕ)) → ((rest : List ℕ) → o ≡ Some rest → is_clean (before_line_end text) ≡ false)
      → option_and_then {U = List ℕ × List ℕ} (λ rest. cond (is_clean (before_line_end text)) (Some (before_line_end text, rest)) None) o ≡ None
  step None h = refl
  step (Some rest) h = rw (h rest refl) refl

pub line_refused : (text : List ℕ) (at : ℕ) → at < length text → Nowhere (Passes (is_byte3 13 10 0) text) 0 at → is_byte3 13 10 0 (slice_index text at) ≡ true → begins_line_end (drop at text) ≡ false
    → None ≡ line_of text
line_refused text at lt unmarked mark ends = sym (no_line text (stands_in_line text at lt (clean_upto text at (omega arith) unmarked) mark ends))

-- if there is no mark, there is no line
endless : (text : List ℕ) → is_clean text ≡ true → after_line_end text ≡ None
endless [] clean = refl
endless (b ∷ bs) clean = let parts = and_parts (is_text_byte b) (is_clean bs) clean in rw (not_here b bs parts.0) (endless bs parts.1)

pub line_missing : (text : List ℕ) → Nowhere (Passes (is_byte3 13 10 0) text) 0 (length text) → None ≡ line_of text
line_missing text unmarked = let clean : is_clean text ≡ true = rw (← take_all (length text) text (omega arith)) (clean_upto text (length text) (omega arith) unmarked) in rw (endless text clean) refl

-- what a clean line that was found is of the text
pub first_line_is : (text : List ℕ) (x : List ℕ × List ℕ) → Some x ≡ line_of text → (x.0 ≡ before_line_end text) × (Some x.1 ≡ after_line_end text) × (true ≡ is_clean (before_line_end text))
first_line_is text x h = step (after_line_end text) (is_clean (before_line_end text)) h where
  step : (o : Option (List ℕ)) (e : Bool) → Some x ≡ option_and_then {U = List ℕ × List ℕ} (λ rest. cond e (Some (before_line_end text, rest)) None) o → (x.0 ≡ before_line_end text) × (Some x.1 ≡ o) × (true ≡ e)
  step None e k = absurd cc
  step (Some rest) true k = let same : x ≡ (before_line_end text, rest) = cc in rw same (refl, refl, refl)
  step (Some rest) false k = absurd cc
