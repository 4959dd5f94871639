pub mod AckMoves
pub mod AloneSaid
pub mod ForkMoves
pub mod ForkSpares
pub mod LaterKnown
pub mod LegsKept
pub mod RuleReasons
