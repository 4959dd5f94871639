use Rattle.std.proofs.Common.{◌≡◌, ◌++◌, drop}
use Rattle.std.specs.List.{flat_map}
use Rattle.pages.specs.Pieces.{piece_text}
use Rattle.pages.proofs.piece.put_pieces.Given as goal

-- what was written and what is left are all
abbrev pub invariant-loop-piece : goal.invariant-loop-piece
invariant-loop-piece l = l.out.items ++ flat_map (piece_text l.place) (drop l.piece-index l.pieces) ≡ l.fn.out.items ++ flat_map (piece_text l.place) l.pieces
