-- Pieces that are cut off one by one.
use Rattle.std.proofs.Common.{◌≡◌, ℕ, ◌+◌, ◌<◌, List, [], ◌∷◌, length, Option, Some, None, IfSome, sym, ap, ◌∙◌, arith}
use Rattle.std.specs.Borrow.{Bor}
use Rattle.std.specs.Option.{option_copied}
use Rattle.text.specs.Pieces.{next_within, pieces, pieces_behind}
use Rattle.text.specs.declared.split.Within.{Within}
use Rattle.text.specs.declared.split.Within.TheVariants.{Nothing}

-- the pieces of what is left: none if nothing is left
abbrev pub pieces_left : ℕ → Option (List ℕ) → List (List ℕ)
pieces_left c None = []
pieces_left c (Some text) = pieces c Nothing text

-- a piece that is cut off, and those after it, if the separator opens nothing
pub next_piece : (c : ℕ) → next_within Nothing c ≡ Nothing → (text piece : List ℕ) (behind : Option (List ℕ)) → pieces_behind c piece behind ≡ pieces c Nothing text
    → pieces c Nothing text ≡ piece ∷ pieces_left c behind
next_piece c opens text piece None cuts = sym cuts
next_piece c opens text piece (Some rest) cuts = sym cuts ∙ ap (λ (w : Within). piece ∷ pieces c w rest) opens

-- the bytes that are left, and one more if some piece is
abbrev pub left_length : Option (List ℕ) → ℕ
left_length None = 0
left_length (Some text) = 1 + length text

-- fewer are left after a piece
pub left_shrinks : (behind : Option (Bor (List ℕ))) (text : List ℕ) → IfSome behind (λ rest. length rest.now < length text) → left_length (option_copied behind) < left_length (Some text)
left_shrinks None text h = omega arith
left_shrinks (Some rest) text h = omega (arith, h)

-- the same at a text that is left
pub left_here : (left behind : Option (Bor (List ℕ))) (text : Bor (List ℕ)) → left ≡ Some text → IfSome behind (λ rest. length rest.now < length text.now)
    → left_length (option_copied behind) < left_length (option_copied left)
left_here left behind text is h = rw is (left_shrinks behind text.now h)

pub next_here : (c : ℕ) → next_within Nothing c ≡ Nothing → (left : Option (Bor (List ℕ))) (text : Bor (List ℕ)) (piece : List ℕ) (behind : Option (List ℕ)) → left ≡ Some text
    → pieces_behind c piece behind ≡ pieces c Nothing text.now → pieces_left c (option_copied left) ≡ piece ∷ pieces_left c behind
next_here c opens left text piece behind is cuts = ap (λ (o : Option (Bor (List ℕ))). pieces_left c (option_copied o)) is ∙ next_piece c opens text.now piece behind cuts
