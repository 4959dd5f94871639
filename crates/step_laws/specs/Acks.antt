-- What a step does for a 200 with an answer, until its ACK comes.
use Rattle.std.specs.Prelude.{◌≡◌, ℕ, List, [], ◌∷◌, Option, Some, None}
use Rattle.sip_uri.specs.declared.uri.Addr.{Addr}
use Rattle.sip_message.specs.declared.message.Message.TheVariants as Kinds
use Rattle.sip_message.specs.declared.message.Request.{Request}
use Rattle.dialogs.specs.declared.state.Dialog.{Dialog}
use Rattle.transactions.specs.Contents.{reception_of}
use Rattle.events.specs.declared.event.Event.{Event}
use Rattle.events.specs.declared.sent.Sent.{Sent}
use Rattle.call_core.specs.Calls.{dialog_of}
use Rattle.call_media.specs.Ends.{other}
use Rattle.call_media.specs.declared.end.End.{End}
use Rattle.calls.specs.Finding.{place_by_ack}
use Rattle.calls.specs.declared.standing_call.StandingCall.{StandingCall}
use Rattle.event_rows.specs.State.{Contents}
use Rattle.plans.specs.Effect.{Effect}
use Rattle.step_laws.specs.Coming.{Comes}
use Rattle.step_laws.specs.Dropping.{NoneTakes}
use Rattle.step_laws.specs.Leaving.{bye}
use Rattle.step_laws.specs.Sending.{Going, Sends, again}

-- an ACK that no transaction takes for itself, and for which the call at this place waits (RFC 3261 sections 13.3.1.4
-- and 17.2.1)
pub record IsAwaitedAck (s : Contents) (event : Event) (source : Addr) (bytes : List ℕ) (r : Request) (place : ℕ) : Type 0 where
  pub comes : Comes s event source bytes (Kinds.Request r)
  pub passes : NoneTakes (reception_of s.table (Kinds.Request r)).verdict
  pub call : place_by_ack r.parts s.calls.calls ≡ Some place

-- the datagram with the 200 that the call keeps
abbrev pub answer_again : Option Sent → List Going
answer_again None = []
answer_again (Some answer) = again answer ∷ []

-- the offerer, who was sent the 200, gets a BYE (section 15)
pub record LeavesOfferer (c : StandingCall) (offerer : End) (x : Effect) : Type 0 where
  pub own : Dialog
  pub with_own : dialog_of offerer c.call ≡ Some own
  pub sends : Sends (bye own ∷ []) x

-- so do both ends, first the offerer
pub record LeavesOffererFirst (c : StandingCall) (offerer : End) (x : Effect) : Type 0 where
  pub own : Dialog
  pub across : Dialog
  pub with_own : dialog_of offerer c.call ≡ Some own
  pub with_other : dialog_of (other offerer) c.call ≡ Some across
  pub sends : Sends (bye own ∷ bye across ∷ []) x
