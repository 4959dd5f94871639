-- The first line that ends and those after it; steps of the loop over well-formed lines.
use Rattle.std.proofs.Common.{◌≡◌, ℕ, suc, ◌+◌, ◌<◌, Bool, true, false, ◌&&◌, cond, eqb, List, [], ◌∷◌, ◌++◌, length, map, drop, get_or, Some, None, refl, sym, ap, ◌∙◌, append_assoc, arith}
use Rattle.std.specs.Prelude.{filter}
use Rattle.std.specs.Borrow.{Bor}
use Rattle.std.specs.List.{onto_first}
use Rattle.std.proofs.lemmas.List.{length-append}
use Rattle.header_fields.specs.Lines.{between_ends, upto_empty, ended_pieces, ended_lines, texts, begins_line_end, before_line_end, after_line_end}
use Rattle.header_fields.specs.Fields.{readable_headers}
use Rattle.header_fields.specs.Fields.{RawField, begins_blank, fields_of, is_raw_field, field_of, readable_of}
use Rattle.header_fields.specs.declared.headers.Header.{Header}
use Rattle.header_fields.proofs.FieldLoop.{field_at, fields_at}
use Rattle.header_fields.proofs.LineLaws.{first_line_joined}

-- ---- lines that end

-- the first piece, and the pieces after it
pieces_at : (text rest : List ℕ) → after_line_end text ≡ Some rest → between_ends text ≡ before_line_end text ∷ between_ends rest
pieces_at [] rest h = absurd cc
pieces_at (b ∷ []) rest h = absurd (step (eqb 13 b) h) where
  step : (e : Bool) → cond (e && false) (Some []) None ≡ Some rest → ⊥
  step true k = cc
  step false k = cc
pieces_at (b ∷ c ∷ bs) rest h = step (begins_line_end (b ∷ c ∷ bs)) h (λ k. pieces_at (c ∷ bs) rest k) where
  step : (e : Bool) → cond e (Some bs) (after_line_end (c ∷ bs)) ≡ Some rest → (after_line_end (c ∷ bs) ≡ Some rest → between_ends (c ∷ bs) ≡ before_line_end (c ∷ bs) ∷ between_ends rest)
      → cond e ([] ∷ between_ends bs) (onto_first b (between_ends (c ∷ bs))) ≡ cond e [] (b ∷ before_line_end (c ∷ bs)) ∷ between_ends rest
  step true k more = let same : bs ≡ rest = cc in ap (λ (t : List ℕ). [] ∷ between_ends t) same
  step false k more = ap (onto_first b) (more k)

one_piece : (text : List ℕ) → after_line_end text ≡ None → between_ends text ≡ text ∷ []
one_piece [] h = refl
one_piece (b ∷ []) h = refl
one_piece (b ∷ c ∷ bs) h = step (begins_line_end (b ∷ c ∷ bs)) h (λ k. one_piece (c ∷ bs) k) where
  step : (e : Bool) → cond e (Some bs) (after_line_end (c ∷ bs)) ≡ None → (after_line_end (c ∷ bs) ≡ None → between_ends (c ∷ bs) ≡ (c ∷ bs) ∷ [])
      → cond e ([] ∷ between_ends bs) (onto_first b (between_ends (c ∷ bs))) ≡ (b ∷ c ∷ bs) ∷ []
  step true k more = absurd cc
  step false k more = ap (onto_first b) (more k)

-- there is a piece
some_piece : (text : List ℕ) → (p : List ℕ) × (ps : List (List ℕ)) × (between_ends text ≡ p ∷ ps)
some_piece [] = ([], [], refl)
some_piece (b ∷ []) = (b ∷ [], [], refl)
some_piece (b ∷ c ∷ bs) = step (begins_line_end (b ∷ c ∷ bs)) (between_ends (c ∷ bs)) where
  step : (e : Bool) (ps : List (List ℕ)) → (q : List ℕ) × (qs : List (List ℕ)) × (cond e ([] ∷ between_ends bs) (onto_first b ps) ≡ q ∷ qs)
  step true ps = ([], between_ends bs, refl)
  step false [] = (b ∷ [], [], refl)
  step false (p ∷ ps) = (b ∷ p, ps, refl)

pub line_ended : (text rest : List ℕ) → Some rest ≡ after_line_end text → ended_lines text ≡ upto_empty (before_line_end text) (ended_lines rest)
unfolding ended_lines
line_ended text rest h =
    let p = some_piece rest in
    let more : ended_pieces (before_line_end text ∷ between_ends rest) ≡ upto_empty (before_line_end text) (ended_pieces (between_ends rest)) = rw (p.2) refl in
    ap ended_pieces (pieces_at text rest (sym h)) ∙ more

pub line_not_ended : (text : List ℕ) → None ≡ after_line_end text → ended_lines text ≡ []
unfolding ended_lines
line_not_ended text h = ap ended_pieces (one_piece text (sym h))

pub rest_is_shorter : (text rest : List ℕ) → Some rest ≡ after_line_end text → length rest < length text
rest_is_shorter text rest h =
    let whole : length text ≡ length (before_line_end text) + suc (suc (length rest)) = ap length (first_line_joined text rest (sym h)) ∙ length-append (before_line_end text) (13 ∷ 10 ∷ rest) in
    omega (arith, whole)

-- ---- well-formed fields

one_more : (f : RawField) (fs : List RawField) (h : Header) → readable_of f ≡ Some h → map field_of (filter is_raw_field (f ∷ fs)) ≡ h ∷ map field_of (filter is_raw_field fs)
one_more f fs h e = step (is_raw_field f) e where
  step : (b : Bool) → cond b (Some (field_of f)) None ≡ Some h → map field_of (cond b (f ∷ filter is_raw_field fs) (filter is_raw_field fs)) ≡ h ∷ map field_of (filter is_raw_field fs)
  step true k = let same : field_of f ≡ h = cc in ap (λ (x : Header). x ∷ map field_of (filter is_raw_field fs)) same
  step false k = absurd cc

none_more : (f : RawField) (fs : List RawField) → readable_of f ≡ None → map field_of (filter is_raw_field (f ∷ fs)) ≡ map field_of (filter is_raw_field fs)
none_more f fs e = step (is_raw_field f) e where
  step : (b : Bool) → cond b (Some (field_of f)) None ≡ None → map field_of (cond b (f ∷ filter is_raw_field fs) (filter is_raw_field fs)) ≡ map field_of (filter is_raw_field fs)
  step true k = absurd cc
  step false k = refl

pub readable_go_on : (front all : List Header) (lines : List (Bor (List ℕ))) (at : ℕ) (d : Bor (List ℕ)) (h : Header) → at < length lines → begins_blank (get_or lines at d).now ≡ false
    → readable_of (field_at lines at d) ≡ Some h → front ++ readable_headers (texts (drop at lines)) ≡ all → (front ++ h ∷ []) ++ readable_headers (texts (drop (at + 1) lines)) ≡ all
readable_go_on front all lines at d h lt some made so_far =
    let rest : List Header = readable_headers (texts (drop (at + 1) lines)) in
    let one : readable_headers (texts (drop at lines)) ≡ h ∷ rest =
    ap (λ (fs : List RawField). map field_of (filter is_raw_field fs)) (fields_at lines at d lt some) ∙ one_more (field_at lines at d) (fields_of (texts (drop (at + 1) lines))) h made in
    append_assoc front (h ∷ []) rest ∙ ap (λ (hs : List Header). front ++ hs) (sym one) ∙ so_far

pub readable_pass : (front all : List Header) (lines : List (Bor (List ℕ))) (at : ℕ) (d : Bor (List ℕ)) → at < length lines → begins_blank (get_or lines at d).now ≡ false
    → readable_of (field_at lines at d) ≡ None → front ++ readable_headers (texts (drop at lines)) ≡ all → front ++ readable_headers (texts (drop (at + 1) lines)) ≡ all
readable_pass front all lines at d lt some none so_far =
    let one : readable_headers (texts (drop at lines)) ≡ readable_headers (texts (drop (at + 1) lines)) =
    ap (λ (fs : List RawField). map field_of (filter is_raw_field fs)) (fields_at lines at d lt some) ∙ none_more (field_at lines at d) (fields_of (texts (drop (at + 1) lines))) none in
    ap (λ (hs : List Header). front ++ hs) (sym one) ∙ so_far
