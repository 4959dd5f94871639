-- Steps of the loops over the lines of a raw text.
use Rattle.std.proofs.Common.{◌≡◌, ℕ, suc, ◌+◌, ◌<◌, Bool, true, false, ◌&&◌, cond, List, [], ◌∷◌, ◌++◌, length, map, Option, Some, None, refl, sym, ap, ◌∙◌, append_assoc, length-append, arith}
use Rattle.std.specs.Prelude.{option_and_then}
use Rattle.std.specs.Char.{eq_ignore_ascii_case}
use Rattle.std.specs.Str.{str_eq_ignore_ascii_case}
use Rattle.std.proofs.lemmas.List.{append-nil}
use Rattle.text.specs.Trim.{trimmed}
use Rattle.header_fields.specs.Glue.{glue, unfolded}
use Rattle.header_fields.specs.Lines.{before_line_end, after_line_end}
use Rattle.header_fields.specs.Folded.{raw_lines, lines_in, behind_piece, behind_next, begun_by, glued, unfolded_text}
use Rattle.header_fields.proofs.LineLaws.{first_line_joined}
use Rattle.header_fields.proofs.RawLaws.{glue_assoc, first_and_rest}

-- ---- the measure

abbrev pub bytes_left : Option (List ℕ) → ℕ
bytes_left None = 0
bytes_left (Some text) = length text + 1

pub fewer : (text : List ℕ) (o : Option (List ℕ)) → o ≡ after_line_end text → bytes_left o < length text + 1
fewer text None h = omega arith
fewer text (Some rest) h =
    let whole : length text ≡ length (before_line_end text) + suc (suc (length rest)) = ap length (first_line_joined text rest (sym h)) ∙ length-append (before_line_end text) (13 ∷ 10 ∷ rest) in
    omega (arith, whole)

-- ---- writing

pub glued_is : (value piece : List ℕ) → value ++ glued (begun_by false value) piece ≡ glue value piece
glued_is [] piece = refl
glued_is (x ∷ a) [] = append-nil (x ∷ a)
glued_is (x ∷ a) (y ∷ b) = refl

pub put_on : (front value piece old new : List ℕ) (begun : Bool) → old ≡ front ++ value → begun ≡ begun_by false value → new ≡ old ++ glued begun piece → new ≡ front ++ glue value piece
put_on front value piece old new begun h k e =
    e ∙ ap (λ (t : List ℕ). t ++ glued begun piece) h ∙ append_assoc front value (glued begun piece) ∙ ap (λ (b : Bool). front ++ (value ++ glued b piece)) k ∙ ap (λ (t : List ℕ). front ++ t) (glued_is value piece)

pub begun_more : (value piece : List ℕ) → begun_by (begun_by false value) piece ≡ begun_by false (glue value piece)
begun_more [] piece = refl
begun_more (x ∷ a) [] = refl
begun_more (x ∷ a) (y ∷ b) = refl

rest_of : (text : List ℕ) → unfolded (map trimmed (raw_lines text)) ≡ glue (trimmed (before_line_end text)) (unfolded (map trimmed (lines_in (after_line_end text))))
rest_of text = ap (λ (ls : List (List ℕ)). unfolded (map trimmed ls)) (first_and_rest text)

pub glue_on : (value text whole : List ℕ) → glue value (unfolded (map trimmed (raw_lines text))) ≡ whole
    → glue (glue value (trimmed (before_line_end text))) (unfolded (map trimmed (lines_in (after_line_end text)))) ≡ whole
glue_on value text whole h =
    let more : List ℕ = unfolded (map trimmed (lines_in (after_line_end text))) in
    glue_assoc value (trimmed (before_line_end text)) more ∙ ap (glue value) (sym (rest_of text)) ∙ h

-- ---- comparing

-- what is still to come, with the space before it if the value has begun
abbrev pub tail : Bool → List ℕ → List ℕ
tail false more = more
tail true [] = []
tail true (x ∷ more) = 32 ∷ x ∷ more

glue_tail : (x : ℕ) (a more : List ℕ) → glue (x ∷ a) more ≡ (x ∷ a) ++ tail true more
glue_tail x a [] = sym (append-nil (x ∷ a))
glue_tail x a (y ∷ more) = refl

piece_on : (piece left rest more : List ℕ) → behind_piece piece left ≡ Some rest → str_eq_ignore_ascii_case (piece ++ more) left ≡ str_eq_ignore_ascii_case more rest
piece_on [] left rest more h = let same : left ≡ rest = cc in ap (str_eq_ignore_ascii_case more) same
piece_on (b ∷ bs) [] rest more h = absurd cc
piece_on (b ∷ bs) (c ∷ cs) rest more h = step (eq_ignore_ascii_case b c) h (λ k. piece_on bs cs rest more k) where
  step : (e : Bool) → cond e (behind_piece bs cs) None ≡ Some rest → (behind_piece bs cs ≡ Some rest → str_eq_ignore_ascii_case (bs ++ more) cs ≡ str_eq_ignore_ascii_case more rest) → (e && str_eq_ignore_ascii_case (bs ++ more) cs) ≡ str_eq_ignore_ascii_case more rest
  step true k on = on k
  step false k on = absurd cc

piece_off : (piece left more : List ℕ) → behind_piece piece left ≡ None → str_eq_ignore_ascii_case (piece ++ more) left ≡ false
piece_off [] left more h = absurd cc
piece_off (b ∷ bs) [] more h = refl
piece_off (b ∷ bs) (c ∷ cs) more h = step (eq_ignore_ascii_case b c) h (λ k. piece_off bs cs more k) where
  step : (e : Bool) → cond e (behind_piece bs cs) None ≡ None → (behind_piece bs cs ≡ None → str_eq_ignore_ascii_case (bs ++ more) cs ≡ false) → (e && str_eq_ignore_ascii_case (bs ++ more) cs) ≡ false
  step true k on = on k
  step false k on = refl

next_on : (begun : Bool) (piece left rest more : List ℕ) → behind_next begun piece left ≡ Some rest
    → str_eq_ignore_ascii_case (tail begun (glue piece more)) left ≡ str_eq_ignore_ascii_case (tail (begun_by begun piece) more) rest
next_on true [] left rest more h = let same : left ≡ rest = cc in ap (str_eq_ignore_ascii_case (tail true more)) same
next_on false [] left rest more h = let same : left ≡ rest = cc in ap (str_eq_ignore_ascii_case more) same
next_on false (b ∷ bs) left rest more h = ap (λ (t : List ℕ). str_eq_ignore_ascii_case t left) (glue_tail b bs more) ∙ piece_on (b ∷ bs) left rest (tail true more) h
next_on true (b ∷ bs) left rest more h =
    ap (λ (t : List ℕ). str_eq_ignore_ascii_case (tail true t) left) (glue_tail b bs more) ∙ step (behind_piece (32 ∷ []) left) refl h where
      step : (o : Option (List ℕ)) → behind_piece (32 ∷ []) left ≡ o → option_and_then (behind_piece (b ∷ bs)) o ≡ Some rest → str_eq_ignore_ascii_case (32 ∷ ((b ∷ bs) ++ tail true more)) left ≡ str_eq_ignore_ascii_case (tail true more) rest
      step None e k = absurd cc
      step (Some t) e k = piece_on (32 ∷ []) left t ((b ∷ bs) ++ tail true more) e ∙ piece_on (b ∷ bs) t rest (tail true more) k

next_off : (begun : Bool) (piece left more : List ℕ) → behind_next begun piece left ≡ None → str_eq_ignore_ascii_case (tail begun (glue piece more)) left ≡ false
next_off begun [] left more h = absurd cc
next_off false (b ∷ bs) left more h = ap (λ (t : List ℕ). str_eq_ignore_ascii_case t left) (glue_tail b bs more) ∙ piece_off (b ∷ bs) left (tail true more) h
next_off true (b ∷ bs) left more h =
    ap (λ (t : List ℕ). str_eq_ignore_ascii_case (tail true t) left) (glue_tail b bs more) ∙ step (behind_piece (32 ∷ []) left) refl h where
      step : (o : Option (List ℕ)) → behind_piece (32 ∷ []) left ≡ o → option_and_then (behind_piece (b ∷ bs)) o ≡ None → str_eq_ignore_ascii_case (32 ∷ ((b ∷ bs) ++ tail true more)) left ≡ false
      step None e k = piece_off (32 ∷ []) left ((b ∷ bs) ++ tail true more) e
      step (Some t) e k = piece_on (32 ∷ []) left t ((b ∷ bs) ++ tail true more) e ∙ piece_off (b ∷ bs) t (tail true more) k

pub compared_on : (begun : Bool) (text left rest : List ℕ) (whole : Bool) → behind_next begun (trimmed (before_line_end text)) left ≡ Some rest
    → str_eq_ignore_ascii_case (tail begun (unfolded (map trimmed (raw_lines text)))) left ≡ whole
    → str_eq_ignore_ascii_case (tail (begun_by begun (trimmed (before_line_end text))) (unfolded (map trimmed (lines_in (after_line_end text))))) rest ≡ whole
compared_on begun text left rest whole h so_far =
    let more : List ℕ = unfolded (map trimmed (lines_in (after_line_end text))) in
    sym (next_on begun (trimmed (before_line_end text)) left rest more h) ∙ ap (λ (t : List ℕ). str_eq_ignore_ascii_case (tail begun t) left) (sym (rest_of text)) ∙ so_far

pub compared_off : (begun : Bool) (text left : List ℕ) (whole : Bool) → behind_next begun (trimmed (before_line_end text)) left ≡ None
    → str_eq_ignore_ascii_case (tail begun (unfolded (map trimmed (raw_lines text)))) left ≡ whole → false ≡ whole
compared_off begun text left whole h so_far =
    let more : List ℕ = unfolded (map trimmed (lines_in (after_line_end text))) in
    sym (next_off begun (trimmed (before_line_end text)) left more h) ∙ ap (λ (t : List ℕ). str_eq_ignore_ascii_case (tail begun t) left) (sym (rest_of text)) ∙ so_far

-- ---- the loops

pub loop_fewer : (text : List ℕ) (rest later : Option (List ℕ)) → rest ≡ Some text → later ≡ after_line_end text → bytes_left later < bytes_left rest
loop_fewer text rest later h e = rw h (fewer text later e)

pub put_loop : (front old new raw text line piece : List ℕ) (rest later : Option (List ℕ)) (begun next : Bool)
    → rest ≡ Some text → line ≡ before_line_end text → later ≡ after_line_end text → piece ≡ trimmed line → new ≡ old ++ glued begun piece → next ≡ begun_by begun piece
    → ((value : List ℕ) × (old ≡ front ++ value) × (begun ≡ begun_by false value) × (glue value (unfolded (map trimmed (lines_in rest))) ≡ unfolded_text raw))
    → (value : List ℕ) × (new ≡ front ++ value) × (next ≡ begun_by false value) × (glue value (unfolded (map trimmed (lines_in later))) ≡ unfolded_text raw)
put_loop front old new raw text line piece rest later begun next some first behind cut put more so_far =
    let value : List ℕ = so_far.0 in
    let here : piece ≡ trimmed (before_line_end text) = cut ∙ ap trimmed first in
    let whole : glue value (unfolded (map trimmed (raw_lines text))) ≡ unfolded_text raw = ap (λ (o : Option (List ℕ)). glue value (unfolded (map trimmed (lines_in o)))) (sym some) ∙ so_far.3 in (
      glue value piece,
      put_on front value piece old new begun so_far.1 so_far.2 put,
      more ∙ ap (λ (b : Bool). begun_by b piece) so_far.2 ∙ begun_more value piece,
      rw (here, behind) (glue_on value text (unfolded_text raw) whole),
    )

pub compare_loop : (left next_left text line piece : List ℕ) (rest later : Option (List ℕ)) (begun next whole : Bool)
    → rest ≡ Some text → line ≡ before_line_end text → later ≡ after_line_end text → piece ≡ trimmed line → behind_next begun piece left ≡ Some next_left → next ≡ begun_by begun piece
    → str_eq_ignore_ascii_case (tail begun (unfolded (map trimmed (lines_in rest)))) left ≡ whole → str_eq_ignore_ascii_case (tail next (unfolded (map trimmed (lines_in later)))) next_left ≡ whole
compare_loop left next_left text line piece rest later begun next whole some first behind cut found more so_far =
    let here : piece ≡ trimmed (before_line_end text) = cut ∙ ap trimmed first in
    rw (more, here, behind) (compared_on begun text left next_left whole (ap (λ (p : List ℕ). behind_next begun p left) (sym here) ∙ found)
    (ap (λ (o : Option (List ℕ)). str_eq_ignore_ascii_case (tail begun (unfolded (map trimmed (lines_in o)))) left) (sym some) ∙ so_far))

pub compare_stop : (left text line piece : List ℕ) (rest : Option (List ℕ)) (begun whole : Bool) → rest ≡ Some text → line ≡ before_line_end text → piece ≡ trimmed line → behind_next begun piece left ≡ None
    → str_eq_ignore_ascii_case (tail begun (unfolded (map trimmed (lines_in rest)))) left ≡ whole → false ≡ whole
compare_stop left text line piece rest begun whole some first cut none so_far =
    let here : piece ≡ trimmed (before_line_end text) = cut ∙ ap trimmed first in
    compared_off begun text left whole (ap (λ (p : List ℕ). behind_next begun p left) (sym here) ∙ none)
    (ap (λ (o : Option (List ℕ)). str_eq_ignore_ascii_case (tail begun (unfolded (map trimmed (lines_in o)))) left) (sym some) ∙ so_far)
