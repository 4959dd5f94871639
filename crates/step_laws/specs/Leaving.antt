-- What a step does for an end that leaves a call: its BYE, or the CANCEL of its INVITE.
use Rattle.std.specs.Prelude.{◌≡◌, ℕ, codes, true, is_some, List, [], ◌∷◌, ◌++◌, Some, slice_get}
use Rattle.sip_uri.specs.Address.{address_of}
use Rattle.sip_uri.specs.declared.uri.Addr.{Addr}
use Rattle.sip_message.specs.Words.{tag_text}
use Rattle.sip_message.specs.declared.message.Parts.{Parts}
use Rattle.sip_message.specs.declared.message.Request.{Request}
use Rattle.dialogs.specs.declared.state.Dialog.{Dialog}
use Rattle.call_core.specs.Calls.{dialog_of}
use Rattle.call_core.specs.declared.stage.Standing.{Standing}
use Rattle.call_media.specs.Ends.{other}
use Rattle.call_media.specs.declared.end.End.{End}
use Rattle.call_steps.specs.Scenes.{passed_id}
use Rattle.calls.specs.declared.standing_call.StandingCall.{StandingCall}
use Rattle.event_rows.specs.Rules.{request_rule}
use Rattle.event_rows.specs.State.{Contents, moment_at, office}
use Rattle.event_rows.specs.Rule.{Call}
use Rattle.events.specs.declared.event.Event.{Event}
use Rattle.plans.specs.Effect.{Effect}
use Rattle.plans.specs.CallRule as calls
use Rattle.transactions.specs.Slots.{at}
use Rattle.transactions.specs.declared.transaction.Transaction.{Transaction}
use Rattle.responses.specs.Words.{is_method}
use Rattle.step_laws.specs.Sending.{Going, Sends, asks, responds}

-- ---- the call

-- a call is at this place
pub record StandsAt (s : Contents) (place : ℕ) (c : StandingCall) (n : Standing) : Type 0 where
  pub there : slice_get s.calls.calls place ≡ Some c
  pub stands : c.call.standing ≡ Some n

-- the request with these parts is one of the dialog with this end (RFC 3261 section 12.2.2)
pub record IsOfDialog (request : Parts) (c : StandingCall) (end : End) : Type 0 where
  pub dialog : Dialog
  pub with_it : dialog_of end c.call ≡ Some dialog
  pub call_id : request.call_id ≡ dialog.id.call_id
  pub ours : tag_text request.to.params ≡ dialog.id.ours
  pub theirs : tag_text request.from.params ≡ dialog.id.theirs

-- the INVITE that was passed on for the call's offer waits for its final response in this transaction, and went to an
-- address (section 17.1.1)
pub record IsGoingOn (s : Contents) (c : StandingCall) (went : Transaction) : Type 0 where
  pub id : ℕ
  pub waits : passed_id s.table c ≡ Some id
  pub stands : at s.table.slots id ≡ Some went
  pub leads : is_some (address_of went.uri) ≡ true

-- ---- a request

-- a BYE in the dialog with this end, which no rule refuses (section 15.1.2)
abbrev pub IsBye : Contents → Event → Request → ℕ → End → Type 0
IsBye s event r place end = request_rule (office s) r (moment_at s event.now) ≡ Call (calls.Leaves place end)

-- a CANCEL of the INVITE whose offer is the call's, and has no final response (section 9.2)
pub record IsCancel (s : Contents) (event : Event) (r : Request) (place : ℕ) : Type 0 where
  pub method : is_method (codes "CANCEL") r ≡ true
  pub rule : request_rule (office s) r (moment_at s event.now) ≡ Call (calls.Cancels place)

-- ---- what goes

-- 200 to the request itself
abbrev pub okay : Request → Addr → Going
okay r source = responds r.parts source 200

-- the response with this status to the request in which the call's offer came
abbrev pub to_offerer : StandingCall → Transaction → ℕ → Going
to_offerer c offered status = responds offered.parts c.asked.source status

abbrev pub bye : Dialog → Going
bye d = asks d (codes "BYE")

-- the BYE came in the dialog with its end, and the other end gets one in its own dialog, after this (section 15)
pub record PassesBye (before : List Going) (r : Request) (c : StandingCall) (end : End) (x : Effect) : Type 0 where
  pub came : IsOfDialog r.parts c end
  pub across : Dialog
  pub with_other : dialog_of (other end) c.call ≡ Some across
  pub sends : Sends (before ++ bye across ∷ []) x

-- for the request in which the call's offer came
abbrev pub WithOffer : Contents → StandingCall → (Transaction → Type 0) → Type 0
WithOffer s c does = (offered : Transaction) × (at s.table.slots c.asked.id ≡ Some offered) × does offered
