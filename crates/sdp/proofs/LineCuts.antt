-- The first line of a text, and the lines after it.
use Rattle.std.proofs.Common.{◌≡◌, ℕ, suc, ◌<◌, Bool, true, false, ◌&&◌, cond, eqb, List, [], ◌∷◌, ◌++◌, length, Some, None, refl, sym, ap, ◌∙◌, arith}
use Rattle.std.specs.List.{slice_split, onto_first}
use Rattle.text.specs.Cut.{before, after}
use Rattle.text.proofs.Lists.{more_than_nothing}
use Rattle.sdp.specs.Lines.{without_cr, lines_from, lines_of}

abbrev parts : List ℕ → List (List ℕ)
parts text = slice_split (λ b. eqb b 10) text

-- the first piece, and the pieces after it
pub pieces_at : (text rest : List ℕ) → after 10 text ≡ Some rest → parts text ≡ before 10 text ∷ parts rest
pieces_at [] rest h = absurd cc
pieces_at (b ∷ bs) rest h = step (eqb b 10) h (λ k. pieces_at bs rest k) where
  step : (e : Bool) → cond e (Some bs) (after 10 bs) ≡ Some rest → (after 10 bs ≡ Some rest → parts bs ≡ before 10 bs ∷ parts rest)
      → cond e ([] ∷ parts bs) (onto_first b (parts bs)) ≡ cond e [] (b ∷ before 10 bs) ∷ parts rest
  step true k more = let same : bs ≡ rest = cc in ap (λ (t : List ℕ). [] ∷ parts t) same
  step false k more = ap (onto_first b) (more k)

pub one_piece : (text : List ℕ) → after 10 text ≡ None → parts text ≡ text ∷ []
one_piece [] h = refl
one_piece (b ∷ bs) h = step (eqb b 10) h (λ k. one_piece bs k) where
  step : (e : Bool) → cond e (Some bs) (after 10 bs) ≡ None → (after 10 bs ≡ None → parts bs ≡ bs ∷ []) → cond e ([] ∷ parts bs) (onto_first b (parts bs)) ≡ (b ∷ bs) ∷ []
  step true k more = absurd cc
  step false k more = ap (onto_first b) (more k)

-- there is a piece
some_piece : (text : List ℕ) → (p : List ℕ) × (ps : List (List ℕ)) × (parts text ≡ p ∷ ps)
some_piece [] = ([], [], refl)
some_piece (b ∷ bs) = step (eqb b 10) (parts bs) where
  step : (e : Bool) (ps : List (List ℕ)) → (q : List ℕ) × (qs : List (List ℕ)) × (cond e ([] ∷ ps) (onto_first b ps) ≡ q ∷ qs)
  step true ps = ([], ps, refl)
  step false [] = (b ∷ [], [], refl)
  step false (p ∷ ps) = (b ∷ p, ps, refl)

lines_behind : (piece text : List ℕ) → lines_from (piece ∷ parts text) ≡ without_cr piece ∷ lines_from (parts text)
lines_behind piece text = let p = some_piece text in rw (p.2) refl

pub line_ended : (text rest : List ℕ) → Some rest ≡ after 10 text → lines_of text ≡ without_cr (before 10 text) ∷ lines_of rest
unfolding lines_of
line_ended text rest h = ap lines_from (pieces_at text rest (sym h)) ∙ lines_behind (before 10 text) rest

pub line_not_ended : (text : List ℕ) → None ≡ after 10 text → lines_of text ≡ cond (eqb (length text) 0) [] (text ∷ [])
unfolding lines_of
line_not_ended text h = ap lines_from (one_piece text (sym h))

pub rest_is_shorter : (text rest : List ℕ) → Some rest ≡ after 10 text → length rest < length text
rest_is_shorter [] rest h = absurd cc
rest_is_shorter (b ∷ bs) rest h = step (eqb b 10) h (λ k. rest_is_shorter bs rest k) where
  step : (e : Bool) → Some rest ≡ cond e (Some bs) (after 10 bs) → (Some rest ≡ after 10 bs → length rest < length bs) → length rest < suc (length bs)
  step true k more = let same : rest ≡ bs = cc in rw same (omega arith)
  step false k more = let lt = more k in omega arith

-- ---- a CR at the end

inner : (x : ℕ) (rest : List ℕ) → eqb (length rest) 0 ≡ false → without_cr (x ∷ rest) ≡ x ∷ without_cr rest
inner x rest h = step (eqb x 13) (eqb (length rest) 0) h where
  step : (e f : Bool) → f ≡ false → cond (e && f) [] (x ∷ without_cr rest) ≡ x ∷ without_cr rest
  step true false k = refl
  step true true k = absurd cc
  step false f k = refl

pub cr_at_end : (xs : List ℕ) → without_cr (xs ++ 13 ∷ []) ≡ xs
cr_at_end [] = refl
cr_at_end (x ∷ xs) = inner x (xs ++ 13 ∷ []) (more_than_nothing xs 13) ∙ ap (λ (t : List ℕ). x ∷ t) (cr_at_end xs)

pub other_at_end : (xs : List ℕ) (b : ℕ) → eqb b 13 ≡ false → without_cr (xs ++ b ∷ []) ≡ xs ++ b ∷ []
other_at_end [] b h = rw h refl
other_at_end (x ∷ xs) b h = inner x (xs ++ b ∷ []) (more_than_nothing xs b) ∙ ap (λ (t : List ℕ). x ∷ t) (other_at_end xs b h)
