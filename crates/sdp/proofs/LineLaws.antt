-- The lines of a text spell it, and lines that spell a text are its lines.
use Rattle.std.proofs.Common.{◌≡◌, ℕ, Bool, true, false, ◌&&◌, cond, eqb, inl, inr, ◌⊎◌, List, [], ◌∷◌, ◌++◌, length, Option, Some, refl, sym, ap, subst, ◌∙◌, append_assoc, arith}
use Rattle.std.specs.List.{list_all, slice_split, join_with_byte}
use Rattle.std.proofs.lemmas.Bool.{and_parts, eqb-true, ne_eqb, true≢false}
use Rattle.std.proofs.lemmas.List.{nil_from_length}
use Rattle.std.proofs.lemmas.List.Splits.{join_with_byte-slice_split}
use Rattle.text.specs.Cut.{before, after, led_by}
use Rattle.text.proofs.CutLaws.{Lacks, Lacks-from_class, Lacks-append, before_at, after_at, after_none}
use Rattle.sdp.specs.Classes.{is_text_byte}
use Rattle.sdp.specs.Lines.{Ends, IsLines, without_cr, lines_from, lines_of, has_mark, is_clean, is_formed}
use Rattle.sdp.proofs.LineCuts.{line_ended, line_not_ended, cr_at_end}

-- ---- the lines of a text spell it

cr_or_not : (p : List ℕ) → (p ≡ without_cr p) ⊎ (p ≡ without_cr p ++ 13 ∷ [])
cr_or_not [] = inl refl
cr_or_not (b ∷ bs) = step (eqb b 13) (eqb (length bs) 0) (λ e. eqb-true b 13 e) (λ e. nil_from_length bs (eqb-true _ _ e)) (cr_or_not bs) where
  step : (e f : Bool) → (e ≡ true → b ≡ 13) → (f ≡ true → bs ≡ []) → (bs ≡ without_cr bs) ⊎ (bs ≡ without_cr bs ++ 13 ∷ [])
      → (b ∷ bs ≡ cond (e && f) [] (b ∷ without_cr bs)) ⊎ (b ∷ bs ≡ cond (e && f) [] (b ∷ without_cr bs) ++ 13 ∷ [])
  step true true is empty more = inr (ap (λ (x : ℕ). x ∷ bs) (is refl) ∙ ap (λ (t : List ℕ). 13 ∷ t) (empty refl))
  step true false is empty (inl h) = inl (ap (λ (t : List ℕ). b ∷ t) h)
  step true false is empty (inr h) = inr (ap (λ (t : List ℕ). b ∷ t) h)
  step false f is empty (inl h) = inl (ap (λ (t : List ℕ). b ∷ t) h)
  step false f is empty (inr h) = inr (ap (λ (t : List ℕ). b ∷ t) h)

piece_ends : (p rest : List ℕ) → Ends (without_cr p) rest (p ++ 10 ∷ rest)
piece_ends p rest = step (cr_or_not p) where
  step : (p ≡ without_cr p) ⊎ (p ≡ without_cr p ++ 13 ∷ []) → Ends (without_cr p) rest (p ++ 10 ∷ rest)
  step (inl h) = inl (ap (λ (t : List ℕ). t ++ 10 ∷ rest) h)
  step (inr h) = inr (ap (λ (t : List ℕ). t ++ 10 ∷ rest) h ∙ append_assoc (without_cr p) (13 ∷ []) (10 ∷ rest))

lines_spell : (ps : List (List ℕ)) → IsLines (lines_from ps) (join_with_byte 10 ps)
lines_spell [] = refl
lines_spell (last ∷ []) = step (eqb (length last) 0) (λ e. nil_from_length last (eqb-true _ _ e)) where
  step : (e : Bool) → (e ≡ true → last ≡ []) → IsLines (cond e [] (last ∷ [])) last
  step true empty = empty refl
  step false empty = inl (refl, refl)
lines_spell (p ∷ q ∷ ps) = inr (join_with_byte 10 (q ∷ ps), piece_ends p (join_with_byte 10 (q ∷ ps)), lines_spell (q ∷ ps))

pub are_lines : (text : List ℕ) → IsLines (lines_of text) text
unfolding lines_of
are_lines text = subst (λ (t : List ℕ). IsLines (lines_of text) t) (join_with_byte-slice_split 10 text) (lines_spell (slice_split (λ b. eqb b 10) text))

-- ---- lines that spell a text

abbrev IsWhole : List ℕ → Type 0
IsWhole line = Lacks 10 line × Lacks 13 line × (eqb (length line) 0 ≡ false)

formed_whole : (line : List ℕ) → is_formed line ≡ true → IsWhole line
formed_whole [] h = absurd (true≢false (sym h))
formed_whole (b ∷ bs) h =
    let parts = and_parts (has_mark (b ∷ bs)) (list_all is_text_byte (b ∷ bs)) h in
    (Lacks-from_class is_text_byte 10 refl (b ∷ bs) parts.1, Lacks-from_class is_text_byte 13 refl (b ∷ bs) parts.1, ne_eqb (length (b ∷ bs)) 0 (λ e. omega arith))

no_cr : (line : List ℕ) → Lacks 13 line → without_cr line ≡ line
no_cr [] h = refl
no_cr (b ∷ bs) h = rw h.0 (ap (λ (t : List ℕ). b ∷ t) (no_cr bs h.1))

first_is : (line rest text : List ℕ) → Lacks 10 line → Lacks 13 line → Ends line rest text → lines_of text ≡ line ∷ lines_of rest
first_is line rest text lf cr (inl h) =
    let o : Option (List ℕ) = Some rest in
    let back : Some rest ≡ after 10 text = sym (ap (after 10) h ∙ after_at 10 line o lf) in
    let front : without_cr (before 10 text) ≡ line = ap without_cr (ap (before 10) h ∙ before_at 10 line o lf) ∙ no_cr line cr in
    line_ended text rest back ∙ ap (λ (l : List ℕ). l ∷ lines_of rest) front
first_is line rest text lf cr (inr h) =
    let o : Option (List ℕ) = Some rest in
    let apart : eqb 13 10 ≡ false = refl in
    let lacks : Lacks 10 (line ++ 13 ∷ []) = Lacks-append 10 line (13 ∷ []) lf (apart, tt) in
    let same : text ≡ (line ++ 13 ∷ []) ++ led_by 10 o = h ∙ sym (append_assoc line (13 ∷ []) (10 ∷ rest)) in
    let back : Some rest ≡ after 10 text = sym (ap (after 10) same ∙ after_at 10 (line ++ 13 ∷ []) o lacks) in
    let front : without_cr (before 10 text) ≡ line = ap without_cr (ap (before 10) same ∙ before_at 10 (line ++ 13 ∷ []) o lacks) ∙ cr_at_end line in
    line_ended text rest back ∙ ap (λ (l : List ℕ). l ∷ lines_of rest) front

-- a line without CR and LF, and its end
pub clean_first : (line rest text : List ℕ) → is_clean line ≡ true → Ends line rest text → lines_of text ≡ line ∷ lines_of rest
clean_first line rest text clean ends = first_is line rest text (Lacks-from_class is_text_byte 10 refl line clean) (Lacks-from_class is_text_byte 13 refl line clean) ends

last_is : (line text : List ℕ) → IsWhole line → text ≡ line → lines_of text ≡ line ∷ []
last_is line text whole h = ap lines_of h ∙ line_not_ended line (sym (after_none 10 line whole.0)) ∙ rw whole.2 refl

pub lines_are : (lines : List (List ℕ)) (text : List ℕ) → list_all is_formed lines ≡ true → IsLines lines text → lines_of text ≡ lines
unfolding lines_of
lines_are [] text formed h = ap lines_of h
lines_are (line ∷ lines) text formed h = step (and_parts (is_formed line) (list_all is_formed lines) formed) (λ rest formed' k. lines_are lines rest formed' k) h where
  step : (is_formed line ≡ true) × (list_all is_formed lines ≡ true) → ((rest : List ℕ) → list_all is_formed lines ≡ true → IsLines lines rest → lines_of rest ≡ lines)
      → ((lines ≡ []) × (text ≡ line)) ⊎ ((rest : List ℕ) × Ends line rest text × IsLines lines rest) → lines_of text ≡ line ∷ lines
  step parts more (inl k) = last_is line text (formed_whole line parts.0) k.1 ∙ ap (λ (ls : List (List ℕ)). line ∷ ls) (sym k.0)
  step parts more (inr k) = (let whole = formed_whole line parts.0 in first_is line k.0 text whole.0 whole.1 k.1) ∙ ap (λ (ls : List (List ℕ)). line ∷ ls) (more k.0 parts.1 k.2)
