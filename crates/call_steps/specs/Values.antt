-- What actions are dressed with, as values. The dressing itself is defined for references: a value represents each
-- reference to it.
use Rattle.std.specs.Prelude.{ℕ, List, Option, None, option_map}
use Rattle.std.specs.Option.{option_copied}
use Rattle.std.specs.Borrow.{Bor}
use Rattle.sip_uri.specs.declared.uri.Addr.{Addr}
use Rattle.sip_message.specs.declared.message.Parts.{Parts}
use Rattle.sdp.specs.declared.description.Description.{Description}
use Rattle.events.specs.declared.sent.Sent.{Sent}
use Rattle.dialogs.specs.declared.state.Dialog.{Dialog}
use Rattle.transactions.specs.declared.transaction.Transaction.{Transaction}
use Rattle.call_core.specs.declared.action.Action.{Action}
use Rattle.calls.specs.declared.change.LegDialog.{LegDialog}
use Rattle.calls.specs.declared.standing_call.TakenOffer.{TakenOffer}
use Rattle.call_messages.specs.declared.scene.Asker.{Asker}
use Rattle.call_messages.specs.declared.scene.Scene.{Scene}
use Rattle.call_messages.specs.Dressed.{Dressed}
use Rattle.call_messages.specs.Dressing.{dressed}
use Rattle.call_steps.specs.declared.arrival.Coming.{Coming}

-- a request of an end's, which waits for a response of the server's: the number of its transaction, where it came from,
-- and the tag that To has in its responses
pub record AskerValue : Type 0 where
  pub id : ℕ
  pub parts : Parts
  pub source : Addr
  pub tag : List ℕ

-- what comes with an event to a call: a dialog that is put in place of one of the call's; the request that offers,
-- where one comes; a request that gets a 200 now; the hops of an offer; and the offer that is taken
pub record ComingValue : Type 0 where
  pub leg : Option LegDialog
  pub offer : Option AskerValue
  pub request : Option AskerValue
  pub hops : ℕ
  pub taken : Option TakenOffer

-- no offer comes
abbrev pub without_offer : Option LegDialog → Option AskerValue → ComingValue
without_offer leg request = record { leg = leg; offer = None; request = request; hops = 0; taken = None }

-- all that actions may need
pub record SceneValue : Type 0 where
  pub server : Addr
  pub salt : ℕ
  pub tokens : ℕ
  pub offer : Option AskerValue
  pub request : Option AskerValue
  pub caller : Option Dialog
  pub callee : Option Dialog
  pub passed : Option Transaction
  pub description : Option Description
  pub again : Option Sent
  pub hops : ℕ

-- ---- from references to values, and back

abbrev pub asker_value : Asker → AskerValue
asker_value a = record { id = a.id; parts = a.parts.now; source = a.source; tag = a.tag.now }

abbrev pub coming_value : Coming → ComingValue
coming_value w = record {
  leg = w.leg;
  offer = option_map asker_value w.offer;
  request = option_map asker_value w.request;
  hops = w.hops;
  taken = w.taken;
}

abbrev pub scene_value : Scene → SceneValue
scene_value s = record {
  server = s.server;
  salt = s.salt;
  tokens = s.tokens;
  offer = option_map asker_value s.offer;
  request = option_map asker_value s.request;
  caller = option_copied s.caller;
  callee = option_copied s.callee;
  passed = option_copied s.passed;
  description = option_copied s.description;
  again = option_copied s.again;
  hops = s.hops;
}

-- a reference to this value: where it points says nothing
abbrev pub lent : {X : Type 0} → X → Bor X
lent x = record { ref_ptr = (0, 0); now = x }

abbrev pub lent_asker : AskerValue → Asker
lent_asker a = record { id = a.id; parts = lent a.parts; source = a.source; tag = lent a.tag }

abbrev pub lent_scene : SceneValue → Scene
lent_scene s = record {
  server = s.server;
  salt = s.salt;
  tokens = s.tokens;
  offer = option_map lent_asker s.offer;
  request = option_map lent_asker s.request;
  caller = option_map lent s.caller;
  callee = option_map lent s.callee;
  passed = option_map lent s.passed;
  description = option_map lent s.description;
  again = option_map lent s.again;
  hops = s.hops;
}

-- these actions as messages
abbrev pub dressed_in : SceneValue → List Action → Dressed
dressed_in s actions = dressed (lent_scene s) s.tokens actions
