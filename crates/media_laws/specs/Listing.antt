-- Which of the current calls a trace lists, and the list of a trace next to that of the server.
use Rattle.std.specs.Prelude.{◌≡◌, Bool, true, false, List, [], ◌∷◌, ◌⊎◌}
use Rattle.call_core.specs.declared.stage.Stage.{Stage}
use Rattle.call_core.specs.declared.stage.Stage.TheVariants.{Asked, Cancelling, Answered, Settled, Reasked, Reanswered, Updating, Ending}
use Rattle.call_core.specs.Calls.{holds_in}
use Rattle.calls.specs.declared.standing_call.StandingCall.{StandingCall}
use Rattle.call_trace.specs.declared.call.Call.{Call}

-- a call whose first offer was given up is listed by the server until its final response comes, and no longer by a
-- trace (RFC 3261 section 9.1)
abbrev pub is_listed_stage : Stage → Bool
is_listed_stage (Asked rung) = true
is_listed_stage (Cancelling sent) = false
is_listed_stage (Answered interval) = true
is_listed_stage Settled = true
is_listed_stage (Reasked rung cancelled) = true
is_listed_stage (Reanswered interval) = true
is_listed_stage Updating = true
is_listed_stage (Ending interval) = true

-- what a trace lists of it: its first offer; the session that was settled last; an INVITE or an UPDATE inside it beside
-- that; that one end has left it; nothing
pub data Listing : Type 0 where
  first : Listing
  talking : Listing
  asking : Listing
  updating : Listing
  ending_by : Listing
  hidden : Listing

abbrev pub listing : Stage → Listing
listing (Asked rung) = first
listing (Cancelling sent) = hidden
listing (Answered interval) = talking
listing Settled = talking
listing (Reasked rung cancelled) = asking
listing (Reanswered interval) = talking
listing Updating = updating
listing (Ending interval) = ending_by

abbrev pub is_listed : StandingCall → Bool
is_listed c = holds_in is_listed_stage c.call.standing

-- the calls of a trace are those of the server that it lists, in their order, each as P says
abbrev pub Listed : (StandingCall → Call → Type 0) → List StandingCall → List Call → Type 0
Listed P [] ds = ds ≡ []
Listed P (c ∷ cs) ds = ((is_listed c ≡ false) × Listed P cs ds) ⊎ ((is_listed c ≡ true) × (d : Call) × (rest : List Call) × (ds ≡ d ∷ rest) × P c d × Listed P cs rest)
