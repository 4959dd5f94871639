-- The live dialogs, and those that come with an event: in each of them each request can be written.
use Rattle.std.proofs.Common.{◌≡◌, ℕ, true, false, List, Option, Some, None, position, refl}
use Rattle.std.proofs.lemmas.Bool.{and_parts}
use Rattle.std.proofs.lemmas.List.Quantifiers.{position-Some}
use Rattle.dialogs.specs.declared.state.Dialog.{Dialog}
use Rattle.transaction_machines.specs.Machines.{is_server}
use Rattle.transactions.specs.Slots.{at, is_waiting_invite}
use Rattle.transactions.specs.declared.transaction.Transaction.{Transaction}
use Rattle.call_media.specs.declared.end.End.{End}
use Rattle.plans.specs.Office.{Office}
use Rattle.calls.specs.declared.change.LegDialog.{LegDialog}
use Rattle.calls.specs.declared.standing_call.StandingCall.{StandingCall}
use Rattle.call_steps.specs.Scenes.{at_id, dialog_in}
use Rattle.message_laws.specs.Sound.{HasSoundLegs, IsSoundLegIf}
use Rattle.message_laws.proofs.StandingCalls.SoundCalls.{IsSoundPut, coming_sound}
use Rattle.message_laws.proofs.TokenUse.TaggedSteps.{awaits_client}
use Rattle.message_laws.specs.SoundClients.{CountsLowIf, HasLowNumbers, KnowsClients}
use Rattle.message_laws.specs.SoundScenes.{IsSoundRequest, IsSoundRequestIf}
use Rattle.message_laws.proofs.StandingCalls.ClientSlots.{client_at}
use Rattle.message_laws.proofs.StandingCalls.LowCalls.{IsLowPut, coming_low}
use Rattle.message_laws.proofs.Traces.ReadActions.{IsLegIf}

-- ---- dialogs

leg_of : (d : Option Dialog) → IsSoundLegIf d → CountsLowIf d → IsLegIf d
leg_of None h low = tt
leg_of (Some d) h low = record { sound = h.sound; low = low }

-- what comes with the event
pub record IsPut (leg : Option LegDialog) : Type 0 where
  pub sound : IsSoundPut leg
  pub low : IsLowPut leg

pub coming_leg : (c : StandingCall) (end : End) (leg : Option LegDialog) → IsPut leg → HasSoundLegs c → HasLowNumbers c → IsLegIf (dialog_in end leg c.call)
coming_leg c end leg put sound low = leg_of (dialog_in end leg c.call) (coming_sound c end leg put.sound sound) (coming_low c end leg put.low low)

-- ---- the INVITE that was passed on

-- of each client transaction
abbrev pub AreRead : List (Option Transaction) → Type 0
AreRead slots = (id : ℕ) (t : Transaction) → at slots id ≡ Some t → is_server t.state ≡ false → IsSoundRequest t.uri t.parts

pub clients_read : (s : Office) → KnowsClients s → AreRead s.table.slots
clients_read s k = λ id t there client. client_at s.table.slots id t k.slots there client

waiting_read : (slots : List (Option Transaction)) (tag : List ℕ) (id : ℕ) (t : Option Transaction) → AreRead slots → at slots id ≡ t → is_waiting_invite tag t ≡ true → IsSoundRequestIf t
unfolding is_waiting_invite
waiting_read slots tag id None read there waits = tt
waiting_read slots tag id (Some t) read there waits = read id t there (awaits_client t.state (and_parts _ _ waits).0)

pub passed_read : (slots : List (Option Transaction)) (tag : List ℕ) (id : Option ℕ) → AreRead slots → position (is_waiting_invite tag) slots ≡ id → IsSoundRequestIf (at_id slots id)
passed_read slots tag None read there = tt
passed_read slots tag (Some id) read there = waiting_read slots tag id (at slots id) read refl (position-Some (is_waiting_invite tag) slots id None there).1
