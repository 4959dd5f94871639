-- What a call's actions are dressed with.
use Rattle.std.specs.Prelude.{ℕ, ◌+◌, List, Option, Some, None}
use Rattle.responses.specs.Tokens.{token}
use Rattle.sdp.specs.declared.description.Description.{Description}
use Rattle.dialogs.specs.declared.state.Dialog.{Dialog}
use Rattle.transactions.specs.declared.transaction.Transaction.{Transaction}
use Rattle.transactions.specs.Contents as transactions
use Rattle.transactions.specs.Slots.{at, waiting_invite}
use Rattle.call_media.specs.declared.end.End.{End}
use Rattle.call_media.specs.declared.end.End.TheVariants.{Caller, Callee}
use Rattle.call_media.specs.Ends.{other}
use Rattle.call_core.specs.declared.call.Call.{Call}
use Rattle.call_core.specs.Calls.{dialog_of, with_dialog}
use Rattle.calls.specs.Carrying.{offerer_of}
use Rattle.calls.specs.declared.change.LegDialog.{LegDialog}
use Rattle.calls.specs.declared.standing_call.StandingCall.{StandingCall}
use Rattle.call_steps.specs.declared.occasion.Occasion.{Occasion}
use Rattle.call_steps.specs.Values.{AskerValue, ComingValue, SceneValue}

-- the nth token of those that the step makes
abbrev pub fresh : Occasion → ℕ → List ℕ
fresh o nth = token o.salt (o.tokens + nth)

-- ---- dialogs

abbrev pub tag_or : List ℕ → Option Dialog → List ℕ
tag_or tag None = tag
tag_or tag (Some d) = d.id.ours

-- the server's tag in the dialog with this end; in that with the caller where the callee has none
abbrev pub tag_with : End → Call → List ℕ
tag_with Caller c = c.caller.id.ours
tag_with Callee c = tag_or c.caller.id.ours c.callee

-- the server's tag in the dialog with the offerer
abbrev pub offerer_tag : Call → List ℕ
offerer_tag c = tag_with (offerer_of c.standing) c

-- a dialog that comes with the event is put in place of the call's own
abbrev pub dialog_in : End → Option LegDialog → Call → Option Dialog
dialog_in end None c = dialog_of end c
dialog_in end (Some leg) c = dialog_of end (with_dialog leg.end leg.dialog c)

-- ---- transactions

-- the tag of From in what the server asks this end, before there is a dialog too
abbrev pub tag_to : End → StandingCall → List ℕ
tag_to Caller c = c.call.caller.id.ours
tag_to Callee c = c.callee_tag

-- the INVITE that was passed on to the end across from the offerer, while it waits for a final response
abbrev pub passed_id : transactions.Contents → StandingCall → Option ℕ
passed_id table c = waiting_invite table.slots (tag_to (other (offerer_of c.call.standing)) c)

abbrev pub at_id : List (Option Transaction) → Option ℕ → Option Transaction
at_id slots None = None
at_id slots (Some id) = at slots id

-- the offer that was taken last, while its transaction is live
abbrev pub asker_by : StandingCall → Option Transaction → Option AskerValue
asker_by c None = None
asker_by c (Some t) = Some (record { id = c.asked.id; parts = t.parts; source = c.asked.source; tag = offerer_tag c.call })

-- the offer that comes with the event, or the one before
abbrev pub asker_in : Option AskerValue → StandingCall → Option Transaction → Option AskerValue
asker_in None c t = asker_by c t
asker_in (Some asker) c t = Some asker

-- ---- the scene of a live call, with what comes with the event, and the description that is passed on

abbrev pub scene : transactions.Contents → Occasion → ComingValue → StandingCall → Option Description → SceneValue
scene table o w c description = record {
  server = o.server;
  salt = o.salt;
  tokens = o.tokens;
  offer = asker_in w.offer c (at table.slots c.asked.id);
  request = w.request;
  caller = dialog_in Caller w.leg c.call;
  callee = dialog_in Callee w.leg c.call;
  passed = at_id table.slots (passed_id table c);
  description = description;
  again = c.answer;
  hops = w.hops;
}

-- ---- the scene of a call that begins, after the three tokens of its tags and of the new leg's Call-ID

abbrev pub first_scene : Occasion → AskerValue → ℕ → Dialog → Option Description → SceneValue
first_scene o asker hops leg description = record {
  server = o.server;
  salt = o.salt;
  tokens = o.tokens + 3;
  offer = Some asker;
  request = None;
  caller = None;
  callee = Some leg;
  passed = None;
  description = description;
  again = None;
  hops = hops;
}

-- ---- the scene of a 2xx that no call takes: the dialog that it makes

abbrev pub fork_scene : Occasion → Dialog → SceneValue
fork_scene o leg = record {
  server = o.server;
  salt = o.salt;
  tokens = o.tokens;
  offer = None;
  request = None;
  caller = None;
  callee = Some leg;
  passed = None;
  description = None;
  again = None;
  hops = 0;
}
