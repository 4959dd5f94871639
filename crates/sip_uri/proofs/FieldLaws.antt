-- Parameters that are read piece by piece.
use Rattle.std.proofs.Common.{◌≡◌, ℕ, ◌+◌, ◌<◌, Bool, true, false, cond, List, [], ◌∷◌, ◌++◌, length, map, Option, Some, None, IfSome, refl, sym, ap, ◌∙◌, append_assoc, arith}
use Rattle.std.specs.Borrow.{Bor}
use Rattle.std.specs.List.{list_all}
use Rattle.std.specs.Option.{option_copied}
use Rattle.text.specs.Pieces.{pieces, pieces_behind}
use Rattle.text.specs.declared.split.Within.TheVariants.{Nothing}
use Rattle.sip_uri.specs.declared.uri.Param.{Param}
use Rattle.sip_uri.specs.FieldParams.{is_field_param, is_field_params, field_param_of, field_param_read, field_params_of, field_params_read}

-- the bytes that are left, and one more where some piece is
abbrev pub left_length : Option (List ℕ) → ℕ
left_length None = 0
left_length (Some text) = 1 + length text

-- parameters in front of others, if these could be read
abbrev pub resumed : List Param → Option (List Param) → Option (List Param)
resumed front None = None
resumed front (Some more) = Some (front ++ more)

-- what is read in all, once some parameters were read and this text is left
abbrev pub read_behind : List Param → Option (List ℕ) → Option (List Param)
read_behind front None = Some front
read_behind front (Some text) = resumed front (field_params_read (Some text))

pub nothing_read : (text : List ℕ) → read_behind [] (Some text) ≡ field_params_read (Some text)
nothing_read text = same (field_params_read (Some text)) where
  same : (o : Option (List Param)) → resumed [] o ≡ o
  same None = refl
  same (Some ps) = refl

-- the parameters of pieces
abbrev found_in : List (List ℕ) → Option (List Param)
found_in ps = cond (list_all is_field_param ps) (Some (map field_param_of ps)) None

read_is : (text : List ℕ) → field_params_read (Some text) ≡ found_in (pieces 59 Nothing text)
unfolding field_params_read is_field_params field_params_of
read_is text = refl

-- a piece that is none
pub piece_refused : (front : List Param) (text piece : List ℕ) (behind : Option (List ℕ)) → pieces_behind 59 piece behind ≡ pieces 59 Nothing text
    → is_field_param piece ≡ false → read_behind front (Some text) ≡ None
piece_refused front text piece behind cuts bad = ap (resumed front) (read_is text ∙ ap found_in (sym cuts) ∙ none behind) where
  none : (o : Option (List ℕ)) → found_in (pieces_behind 59 piece o) ≡ None
  none None = rw bad refl
  none (Some rest) = rw bad refl

-- one piece more
pub piece_read : (front : List Param) (text piece : List ℕ) (behind : Option (List ℕ)) → pieces_behind 59 piece behind ≡ pieces 59 Nothing text
    → is_field_param piece ≡ true → read_behind (front ++ field_param_of piece ∷ []) behind ≡ read_behind front (Some text)
piece_read front text piece behind cuts good = more behind ∙ ap (resumed front) (sym (read_is text ∙ ap found_in (sym cuts))) where
  joined : (ps : List (List ℕ)) → resumed (front ++ field_param_of piece ∷ []) (found_in ps) ≡ resumed front (found_in (piece ∷ ps))
  joined ps = rw good (each (list_all is_field_param ps)) where
    each : (b : Bool) → resumed (front ++ field_param_of piece ∷ []) (cond b (Some (map field_param_of ps)) None) ≡ resumed front (cond b (Some (field_param_of piece ∷ map field_param_of ps)) None)
    each true = ap (λ (all : List Param). Some all) (append_assoc front (field_param_of piece ∷ []) (map field_param_of ps))
    each false = refl

  more : (o : Option (List ℕ)) → read_behind (front ++ field_param_of piece ∷ []) o ≡ resumed front (found_in (pieces_behind 59 piece o))
  more None = rw good refl
  more (Some rest) = ap (resumed (front ++ field_param_of piece ∷ [])) (read_is rest) ∙ joined (pieces 59 Nothing rest)

-- less is left after a piece
pub left_shrinks : (behind : Option (Bor (List ℕ))) (text : List ℕ) → IfSome behind (λ rest. length rest.now < length text) → left_length (option_copied behind) < left_length (Some text)
left_shrinks None text h = omega arith
left_shrinks (Some rest) text h = omega (arith, h)

-- ---- at a text that is left

is_refused : (piece : List ℕ) → field_param_read piece ≡ None → is_field_param piece ≡ false
unfolding field_param_read
is_refused piece h = step (is_field_param piece) h where
  step : (b : Bool) → cond b (Some (field_param_of piece)) None ≡ None → b ≡ false
  step true e = absurd cc
  step false e = refl

is_read : (piece : List ℕ) (param : Param) → field_param_read piece ≡ Some param → (is_field_param piece ≡ true) × (param ≡ field_param_of piece)
unfolding field_param_read
is_read piece param h = step (is_field_param piece) h where
  step : (b : Bool) → cond b (Some (field_param_of piece)) None ≡ Some param → (b ≡ true) × (param ≡ field_param_of piece)
  step true e = (refl, cc)
  step false e = absurd cc

pub refused_here : (front : List Param) (left : Option (Bor (List ℕ))) (text : Bor (List ℕ)) (piece : List ℕ) (behind : Option (List ℕ)) (all : Option (List Param)) → left ≡ Some text
    → pieces_behind 59 piece behind ≡ pieces 59 Nothing text.now → field_param_read piece ≡ None → read_behind front (option_copied left) ≡ all → None ≡ all
refused_here front left text piece behind all is cuts bad so_far =
    sym (piece_refused front text.now piece behind cuts (is_refused piece bad)) ∙ ap (λ (o : Option (Bor (List ℕ))). read_behind front (option_copied o)) (sym is) ∙ so_far

pub read_here : (front more : List Param) (left : Option (Bor (List ℕ))) (text : Bor (List ℕ)) (piece : List ℕ) (behind : Option (List ℕ)) (param : Param) (all : Option (List Param)) → left ≡ Some text
    → pieces_behind 59 piece behind ≡ pieces 59 Nothing text.now → field_param_read piece ≡ Some param → more ≡ front ++ param ∷ [] → read_behind front (option_copied left) ≡ all
    → read_behind more behind ≡ all
read_here front more left text piece behind param all is cuts good put so_far =
    let read = is_read piece param good in
    ap (λ (ps : List Param). read_behind ps behind) (put ∙ ap (λ (p : Param). front ++ p ∷ []) read.1) ∙ piece_read front text.now piece behind cuts read.0
    ∙ ap (λ (o : Option (Bor (List ℕ))). read_behind front (option_copied o)) (sym is) ∙ so_far
