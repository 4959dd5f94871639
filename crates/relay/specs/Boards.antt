-- A board that could not be opened.
use Rattle.std.specs.Prelude.{◌≡◌, []}
use Rattle.relay.specs.declared.board.Unopened.{Unopened}
use Rattle.relay.specs.declared.board.Unopened.TheVariants.{Memory, NoViewer}

-- what is returned is a board on which nothing was published
abbrev pub LeavesNew : Unopened → Type 0
LeavesNew Memory = Unit {0}
LeavesNew (NoViewer board) = board ≡ []
