-- The stages of a connection, and how long it may stay at each.
use Rattle.std.specs.Prelude.{ℕ, List, Option, Some, None}
use Rattle.page_server.specs.declared.head.Head.{Head}
use Rattle.page_server.specs.declared.head.Head.TheVariants.{Incomplete, Asked, Refused}
use Rattle.page_server.specs.declared.refusal.Refusal.{Refusal}
use Rattle.page_server.specs.declared.refusal.Refusal.TheVariants.{RequestTimeout, ServiceUnavailable}
use Rattle.page_server.specs.declared.stages.Stage.{Stage}
use Rattle.page_server.specs.declared.stages.Stage.TheVariants.{Reading, Waiting, Writing, Closing}
use Rattle.page_server.specs.Responses.{refusal_text, unsent}

-- in milliseconds
abbrev pub patience_of : Stage → ℕ
patience_of (Reading request) = 5000
patience_of (Waiting path) = 5000
patience_of (Writing answer) = 5000
patience_of Closing = 1000

-- how many stages a connection passed before this one, or left out
abbrev pub passed_of : Stage → ℕ
passed_of (Reading request) = 0
passed_of (Waiting path) = 1
passed_of (Writing answer) = 2
passed_of Closing = 3

-- the response to a client whose time is up, unless it has its response or a part of it
abbrev pub refusal_of : Stage → Option Refusal
refusal_of (Reading request) = Some RequestTimeout
refusal_of (Waiting path) = Some ServiceUnavailable
refusal_of (Writing answer) = None
refusal_of Closing = None

-- a refusal is sent from its beginning
abbrev pub refused : Refusal → Stage
refused refusal = Writing (unsent (refusal_text refusal))

-- the stage that follows when this is known of a request
abbrev pub stage_behind : Head → List ℕ → Stage
stage_behind Incomplete request = Reading request
stage_behind (Asked path) request = Waiting path
stage_behind (Refused refusal) request = refused refusal
