-- What a call does for an event.
use Rattle.std.specs.Prelude.{ℕ, ◌+◌, List, [], ◌∷◌, slice_get, Option, Some, None}
use Rattle.sip_uri.specs.declared.uri.Addr.{Addr}
use Rattle.sip_uri.specs.declared.uri.Uri.{Uri}
use Rattle.sip_message.specs.declared.message.Parts.{Parts}
use Rattle.sip_message.specs.declared.message.Request.{Request}
use Rattle.sip_message.specs.declared.message.Response.{Response}
use Rattle.sip_message.specs.Contact.{contacts_of}
use Rattle.sip_message.specs.Words.{tag_text}
use Rattle.sdp.specs.declared.description.Description.{Description}
use Rattle.dialogs.specs.declared.state.Dialog.{Dialog}
use Rattle.dialogs.specs.Making.{callees_dialog, callers_dialog, reached_at}
use Rattle.transactions.specs.Contents as transactions
use Rattle.call_media.specs.declared.end.End.{End}
use Rattle.call_media.specs.declared.end.End.TheVariants.{Callee}
use Rattle.call_media.specs.Ends.{other}
use Rattle.call_core.specs.declared.action.Action.TheVariants.{Ack, Bye}
use Rattle.call_core.specs.declared.call.Call.{Call}
use Rattle.call_core.specs.declared.input.Input.{Input}
use Rattle.call_core.specs.declared.note.NoteOfCall.{NoteOfCall}
use Rattle.call_core.specs.CallRows.{call_row, first_call_row}
use Rattle.call_core.specs.Calls.{dialog_of, new_call, to_target}
use Rattle.call_core.specs.Notes.{call_note}
use Rattle.call_core.specs.Plans.{Step}
use Rattle.calls.specs.State.{Standing}
use Rattle.calls.specs.Changes.{after_first_step, after_step, unchanged}
use Rattle.calls.specs.Carrying.{offerer_of}
use Rattle.calls.specs.declared.change.Beside.{Beside}
use Rattle.calls.specs.declared.change.LegDialog.{LegDialog}
use Rattle.calls.specs.declared.standing_call.OfferRequest.{OfferRequest}
use Rattle.calls.specs.declared.standing_call.TakenOffer.{TakenOffer}
use Rattle.calls.specs.declared.standing_call.StandingCall.{StandingCall}
use Rattle.call_messages.specs.Messages.{new_leg}
use Rattle.call_steps.specs.declared.messages.StepMessages.{StepMessages}
use Rattle.call_steps.specs.declared.occasion.Occasion.{Occasion}
use Rattle.call_steps.specs.Effects.{Effect, no_effect, with_messages}
use Rattle.call_steps.specs.Messages.{messages, with_made}
use Rattle.call_steps.specs.Scenes.{first_scene, fork_scene, fresh, passed_id, scene, tag_with}
use Rattle.call_steps.specs.Values.{AskerValue, ComingValue, without_offer}

-- ---- a live call

-- the messages of what it does
abbrev pub messages_of : transactions.Contents → Occasion → ComingValue → StandingCall → Step → StepMessages
messages_of table o w c step = messages (scene table o w c step.description) (passed_id table c) step.actions

-- what is put beside it
abbrev pub put_with : ComingValue → StepMessages → Beside
put_with w said = record { leg = w.leg; taken = w.taken; answer = said.answer }

-- what happened to the call
abbrev pub step_note : StandingCall → Step → Option NoteOfCall
step_note c step = call_note c.call step.actions step.call.standing

abbrev pub stepped : Standing → Occasion → ℕ → ComingValue → StandingCall → Step → StepMessages → Effect
stepped calls o place w c step said = with_messages (after_step calls o.now place (put_with w said) c step) said (step_note c step)

abbrev pub does : Standing → transactions.Contents → Occasion → ℕ → ComingValue → StandingCall → Step → Effect
does calls table o place w c step = stepped calls o place w c step (messages_of table o w c step)

abbrev pub takes_by : Standing → transactions.Contents → Occasion → ℕ → Input → Option LegDialog → Option AskerValue → Option StandingCall → Effect
takes_by calls table o place input leg request None = no_effect calls
takes_by calls table o place input leg request (Some c) =
    does calls table o place (without_offer leg request) c (call_row c.call input calls.pool o.now)

-- the call at this place takes an input that is no offer, with the dialog and the request that come with it
unfoldable pub takes_row : Standing → transactions.Contents → Occasion → ℕ → Input → Option LegDialog → Option AskerValue → Effect
takes_row calls table o place input leg request = takes_by calls table o place input leg request (slice_get calls.calls place)

-- ---- an offer inside a call, which came in a request of this end

abbrev pub offer_request : Request → ℕ → Addr → OfferRequest
offer_request request id source = record { id = id; source = source; number = request.parts.cseq.number }

-- its sender says where it is reached, or is reached where it was (RFC 3261 section 12.2.2, RFC 3311 section 5.1)
abbrev pub taken_offer : Request → ℕ → Addr → TakenOffer
taken_offer request id source = record { asked = offer_request request id source; target = reached_at (contacts_of request.headers) }

abbrev pub offer_coming : Option LegDialog → End → Request → ℕ → Addr → StandingCall → ComingValue
offer_coming leg end request id source c = record {
  leg = leg;
  offer = Some (record { id = id; parts = request.parts; source = source; tag = tag_with end c.call });
  request = None;
  hops = request.max_forwards;
  taken = Some (taken_offer request id source);
}

abbrev pub offers_by : Standing → transactions.Contents → Occasion → ℕ → Input → End → Request → ℕ → Addr → Option LegDialog → Option StandingCall → Effect
offers_by calls table o place input end request id source leg None = no_effect calls
offers_by calls table o place input end request id source leg (Some c) =
    does calls table o place (offer_coming leg end request id source c) c (call_row c.call input calls.pool o.now)

-- ---- a call that begins: tokens are made for the server's tag in the dialog with the caller, and for the Call-ID and
-- the From tag of the new leg; then for branches

abbrev pub first_asker : Occasion → Request → ℕ → Addr → AskerValue
first_asker o request id source = record { id = id; parts = request.parts; source = source; tag = fresh o 1 }

abbrev pub first_leg : Occasion → Request → Uri → Dialog
first_leg o request target = new_leg o.server request.parts target (fresh o 2) (fresh o 3)

abbrev pub first_messages : Occasion → Request → ℕ → Addr → Uri → Step → StepMessages
first_messages o request id source target step =
    messages (first_scene o (first_asker o request id source) request.max_forwards (first_leg o request target) step.description) None step.actions

abbrev pub standing_as : Call → Occasion → Request → ℕ → Addr → StandingCall
standing_as call o request id source = record {
  call = call;
  callee_tag = fresh o 3;
  asked = offer_request request id source;
  target = None;
  answer = None;
}

-- it has this number, and the caller is reached at this contact
abbrev pub first_standing : ℕ → Occasion → Request → ℕ → Addr → Uri → StandingCall
first_standing number o request id source contact =
    standing_as (new_call number o.range (callees_dialog request (fresh o 1) contact)) o request id source

abbrev pub begun : Standing → Occasion → StandingCall → Step → StepMessages → Effect
begun calls o c step said = record {
  outcome = after_first_step calls o.now c step;
  dressed = with_made 3 said.dressed;
  ack = said.ack;
  note = step_note c step;
}

abbrev pub begins_with : Standing → Occasion → Request → ℕ → Addr → Uri → StandingCall → Step → Effect
begins_with calls o request id source target c step = begun calls o c step (first_messages o request id source target step)

abbrev pub begins_as : Standing → Occasion → Request → ℕ → Addr → Uri → Description → StandingCall → Effect
begins_as calls o request id source target offer c =
    begins_with calls o request id source target c (first_call_row c.call offer calls.pool o.now)

-- a request that names no one Contact begins no call (RFC 3261 section 8.1.1.8)
abbrev pub begins_by : Standing → Occasion → Request → ℕ → Addr → Uri → Description → Option Uri → Effect
begins_by calls o request id source target offer None = no_effect calls
begins_by calls o request id source target offer (Some contact) =
    begins_as calls o request id source target offer (first_standing (calls.begun + 1) o request id source contact)

-- a first INVITE, whose callee is bound at this target and whose transaction has this number, begins a call
unfoldable pub first_row : Standing → Occasion → Request → ℕ → Addr → Uri → Description → Effect
first_row calls o request id source target offer =
    begins_by calls o request id source target offer (reached_at (contacts_of request.headers))

-- ---- a 2xx to an INVITE with these parts

-- one that no call takes: ACK, and BYE, in the dialog that it makes (section 13.2.2.4)
abbrev pub fork_messages : Occasion → Dialog → StepMessages
fork_messages o leg = messages (fork_scene o leg) None (Ack Callee ∷ Bye Callee ∷ [])

abbrev pub forked : Standing → StepMessages → Effect
forked calls said = with_messages (unchanged calls) said None

abbrev pub fork_by : Standing → Occasion → Parts → Response → Option Uri → Effect
fork_by calls o asked response None = no_effect calls
fork_by calls o asked response (Some target) = forked calls (fork_messages o (callers_dialog asked response target))

unfoldable pub fork_row : Standing → Occasion → Parts → Response → Effect
fork_row calls o asked response = fork_by calls o asked response (reached_at (contacts_of response.headers))

-- ---- a 2xx to a later INVITE, with these parts, whose call is gone: ACK alone, with that INVITE's own To (section
-- 13.2.2.4)

abbrev pub with_their_tag : List ℕ → Dialog → Dialog
with_their_tag tag d = record d { id = record { call_id = d.id.call_id; ours = d.id.ours; theirs = tag } }

abbrev pub later_dialog : Parts → Response → Uri → Dialog
later_dialog asked response target = with_their_tag (tag_text asked.to.params) (callers_dialog asked response target)

abbrev pub late_messages : Occasion → Dialog → StepMessages
late_messages o leg = messages (fork_scene o leg) None (Ack Callee ∷ [])

abbrev pub late_by : Standing → Occasion → Parts → Response → Option Uri → Effect
late_by calls o asked response None = no_effect calls
late_by calls o asked response (Some target) = forked calls (late_messages o (later_dialog asked response target))

unfoldable pub late_row : Standing → Occasion → Parts → Response → Effect
late_row calls o asked response = late_by calls o asked response (reached_at (contacts_of response.headers))

-- ---- the dialog of a 2xx that a call takes, to a request with these parts: that which it makes (section 12.1.2), or
-- the existing one, whose other side is reached where the 2xx says (section 12.2.1.2)

abbrev pub dialog_after : Parts → Response → Uri → Option Dialog → Dialog
dialog_after asked response target None = callers_dialog asked response target
dialog_after asked response target (Some d) = to_target target d

abbrev pub leg_after : Parts → Response → Uri → End → Call → LegDialog
leg_after asked response target end c = record { end = end; dialog = dialog_after asked response target (dialog_of end c) }

abbrev pub leg_by : Parts → Response → Option Uri → Option StandingCall → Option LegDialog
leg_by asked response None c = None
leg_by asked response (Some target) None = None
leg_by asked response (Some target) (Some c) = Some (leg_after asked response target (other (offerer_of c.call.standing)) c.call)

-- of the end across from the offerer, where its Contact says where that is reached
unfoldable pub answers_leg : List StandingCall → ℕ → Parts → Response → Option LegDialog
answers_leg calls place asked response = leg_by asked response (reached_at (contacts_of response.headers)) (slice_get calls place)

-- ---- a request in a dialog counts its number there, whatever it is answered (section 12.2.2)

abbrev pub counts_in : End → ℕ → Option Dialog → Option LegDialog
counts_in end number None = None
counts_in end number (Some d) = Some (record { end = end; dialog = record d { remote_number = Some number } })

abbrev pub counts_by : End → ℕ → Option StandingCall → Option LegDialog
counts_by end number None = None
counts_by end number (Some c) = counts_in end number (dialog_of end c.call)

unfoldable pub counts : List StandingCall → ℕ → End → ℕ → Option LegDialog
counts calls place end number = counts_by end number (slice_get calls place)

-- ---- an UPDATE without an offer: its sender may say where it is reached from then on (RFC 3311 section 5.1)

abbrev pub leg_at : Option Uri → Option LegDialog → Option LegDialog
leg_at None leg = leg
leg_at (Some target) None = None
leg_at (Some target) (Some leg) = Some (record { end = leg.end; dialog = to_target target leg.dialog })

unfoldable pub refreshes : List StandingCall → ℕ → End → Request → Option LegDialog
refreshes calls place end request = leg_at (reached_at (contacts_of request.headers)) (counts calls place end request.parts.cseq.number)

-- ---- what an offer inside a call results in

unfoldable pub offers_row : Standing → transactions.Contents → Occasion → ℕ → Input → End → Request → ℕ → Addr → Effect
offers_row calls table o place input end request id source =
    offers_by calls table o place input end request id source (counts calls.calls place end request.parts.cseq.number) (slice_get calls.calls place)
