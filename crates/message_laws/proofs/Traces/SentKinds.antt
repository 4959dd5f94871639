-- The kinds of what is sent, by what the agent knows.
use Rattle.std.proofs.Common.{◌+◌, List}
use Rattle.events.specs.declared.event.Event.{Event}
use Rattle.events.specs.declared.sent.Sent.{Sent}
use Rattle.plans.specs.Office.{Office}
use Rattle.event_rows.specs.Rows.{row}
use Rattle.event_rows.specs.State.{Contents, office}
use Rattle.call_trace.specs.Listed.{AllOf}
use Rattle.message_laws.specs.Askers.{KnowsAskers}
use Rattle.message_laws.specs.Bodies.{KnowsDescriptions}
use Rattle.message_laws.specs.Knowing.{KnowsTokens}
use Rattle.message_laws.specs.Sending.{KnowsSent}
use Rattle.message_laws.specs.Sound.{KnowsDialogs}
use Rattle.message_laws.proofs.QuietEvents.Describing.{BodiesDescribe}
use Rattle.message_laws.proofs.StandingCalls.Reading.{Reading}
use Rattle.message_laws.specs.Kinds.{AreBegun, IsOfKind}
use Rattle.message_laws.specs.SoundClients.{KnowsClients}
use Rattle.message_laws.proofs.Traces.Effects.{IsKnown}
use Rattle.message_laws.proofs.Traces.TraceRows.{row_says}

pub known : (before : List Sent) (s : Office) → KnowsTokens s → KnowsSent s before → KnowsAskers s → KnowsDialogs s → KnowsDescriptions s → KnowsClients s → IsKnown before s
known before s tokens was askers dialogs media values = record { tokens = tokens; dialogs = dialogs; values = values; was = was; media = media; server = askers.server }

pub sent_kinds : Reading → BodiesDescribe → (s : Contents) (e : Event) (before : List Sent) → KnowsTokens (office s) → KnowsSent (office s) before → KnowsAskers (office s) → KnowsDialogs (office s) → KnowsDescriptions (office s) → KnowsClients (office s)
    → AllOf (IsOfKind before (s.tokens + (row s e).plan.made) (row s e).plan.changes) (row s e).plan.sends
sent_kinds reading describes s e before tokens was askers dialogs media values = (row_says reading describes before s (known before (office s) tokens was askers dialogs media values) e).says.kinds

pub sent_begun : Reading → BodiesDescribe → (s : Contents) (e : Event) (before : List Sent) → KnowsTokens (office s) → KnowsSent (office s) before → KnowsAskers (office s) → KnowsDialogs (office s) → KnowsDescriptions (office s) → KnowsClients (office s)
    → AreBegun (row s e).plan.changes (row s e).plan.sends
sent_begun reading describes s e before tokens was askers dialogs media values = (row_says reading describes before s (known before (office s) tokens was askers dialogs media values) e).says.begun
