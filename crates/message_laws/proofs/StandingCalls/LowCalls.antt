-- The dialogs of the calls count low, whatever is put beside a call.
use Rattle.std.proofs.Common.{◌≡◌, ◌≤◌, ℕ, Bool, true, false, cond, List, [], ◌∷◌, ◌++◌, Option, Some, None, option_map, refl}
use Rattle.std.specs.Prelude.{slice_get}
use Rattle.std.specs.List.{All}
use Rattle.std.proofs.lemmas.List.Elements.{All-push, All-set}
use Rattle.events.specs.declared.sent.Sent.{Sent}
use Rattle.sip_uri.specs.declared.uri.Uri.{Uri}
use Rattle.sip_message.specs.CSeq.{max_cseq}
use Rattle.sip_message.specs.Contact.{contacts_of}
use Rattle.sip_message.specs.declared.message.Parts.{Parts}
use Rattle.sip_message.specs.declared.message.Request.{Request}
use Rattle.sip_message.specs.declared.message.Response.{Response}
use Rattle.dialogs.specs.declared.state.Dialog.{Dialog}
use Rattle.dialogs.specs.Making.{reached_at}
use Rattle.call_media.specs.Ends.{other}
use Rattle.call_media.specs.declared.end.End.{End}
use Rattle.call_media.specs.declared.end.End.TheVariants.{Callee, Caller}
use Rattle.call_core.specs.Calls.{dialog_of, to_target, with_target}
use Rattle.call_core.specs.declared.call.Call.{Call}
use Rattle.calls.specs.Carrying.{changed_at, offerer_of, reached_call, with_call, with_dialog_at}
use Rattle.calls.specs.Changes.{beside, with_last, with_leg, with_taken_if}
use Rattle.calls.specs.State.{Standing}
use Rattle.calls.specs.declared.change.Beside.{Beside}
use Rattle.calls.specs.declared.change.LegDialog.{LegDialog}
use Rattle.calls.specs.declared.standing_call.StandingCall.{StandingCall}
use Rattle.calls.specs.declared.standing_call.TakenOffer.{TakenOffer}
use Rattle.call_steps.specs.Rows.{answers_leg, counts, counts_by, counts_in, dialog_after, leg_at, leg_by, refreshes}
use Rattle.call_steps.specs.Scenes.{dialog_in}
use Rattle.plans.specs.CallRows.{puts_if}
use Rattle.message_laws.proofs.AwaitedOffers.Awaiting.{all_at}
use Rattle.message_laws.specs.SoundClients.{CountsLowIf, HasLowNumbers}
use Rattle.message_laws.specs.SoundScenes.{CountsLow}
use Rattle.message_laws.proofs.StandingCalls.LowNumbers.{KeepsLow}

abbrev pub IsLowPut : Option LegDialog → Type 0
IsLowPut None = Unit {0}
IsLowPut (Some leg) = CountsLow leg.dialog

-- ---- what is put beside a call

pub step_low : (c : StandingCall) (call : Call) → KeepsLow c.call call → HasLowNumbers c → HasLowNumbers (with_call call c)
step_low c call keeps h = record { caller = keeps.caller h.caller; callee = keeps.callee h.callee }

put_at : (c : StandingCall) (end : End) (d : Dialog) → CountsLow d → HasLowNumbers c → HasLowNumbers (with_dialog_at end d c)
put_at c Caller d low h = record { caller = low; callee = h.callee }
put_at c Callee d low h = record { caller = h.caller; callee = low }

leg_put : (c : StandingCall) (leg : Option LegDialog) → IsLowPut leg → HasLowNumbers c → HasLowNumbers (with_leg leg c)
leg_put c None low h = h
leg_put c (Some leg) low h = put_at c leg.end leg.dialog low h

taken_put : (c : StandingCall) (taken : Option TakenOffer) → HasLowNumbers c → HasLowNumbers (with_taken_if taken c)
taken_put c None h = h
taken_put c (Some offer) h = record { caller = h.caller; callee = h.callee }

target_leg : (target : Uri) (d : Option Dialog) → CountsLowIf d → CountsLowIf (option_map (to_target target) d)
target_leg target None h = h
target_leg target (Some d) h = h

target_low : (end : End) (target : Uri) (c : Call) → KeepsLow c (with_target end target c)
target_low Caller target c = record { caller = λ h. h; callee = λ h. h }
target_low Callee target c = record { caller = λ h. h; callee = target_leg target c.callee }

reached_low : (target : Option Uri) (c : Call) → KeepsLow c (reached_call target c)
reached_low None c = record { caller = λ h. h; callee = λ h. h }
reached_low (Some target) c = target_low (offerer_of c.standing) target c

last_put : (c : StandingCall) (answer : Option Sent) → HasLowNumbers c → HasLowNumbers (with_last answer c)
last_put c None h = h
last_put c (Some answer) h =
    let keeps = reached_low c.target c.call in
    record { caller = keeps.caller h.caller; callee = keeps.callee h.callee }

pub beside_low : (c : StandingCall) (kept : Beside) → IsLowPut kept.leg → HasLowNumbers c → HasLowNumbers (beside kept c)
beside_low c kept leg h =
    last_put (with_taken_if kept.taken (with_leg kept.leg c)) kept.answer (taken_put (with_leg kept.leg c) kept.taken (leg_put c kept.leg leg h))

-- ---- the dialogs of a call, where one comes with an event

pub dialog_low : (c : StandingCall) (end : End) → HasLowNumbers c → CountsLowIf (dialog_of end c.call)
dialog_low c Caller h = h.caller
dialog_low c Callee h = h.callee

pub coming_low : (c : StandingCall) (end : End) (leg : Option LegDialog) → IsLowPut leg → HasLowNumbers c → CountsLowIf (dialog_in end leg c.call)
coming_low c end None low h = dialog_low c end h
coming_low c end (Some leg) low h = dialog_low (with_dialog_at leg.end leg.dialog c) end (put_at c leg.end leg.dialog low h)

-- a request in a dialog counts another number
counts_in_low : (end : End) (number : ℕ) (d : Option Dialog) → CountsLowIf d → IsLowPut (counts_in end number d)
counts_in_low end number None h = tt
counts_in_low end number (Some d) h = h

counts_by_low : (end : End) (number : ℕ) (calls : List StandingCall) (place : ℕ) (c : Option StandingCall) → slice_get calls place ≡ c → All HasLowNumbers calls → IsLowPut (counts_by end number c)
counts_by_low end number calls place None there all = tt
counts_by_low end number calls place (Some c) there all = counts_in_low end number (dialog_of end c.call) (dialog_low c end (all_at HasLowNumbers calls place c all there))

pub counts_low : (calls : List StandingCall) (place : ℕ) (end : End) (number : ℕ) → All HasLowNumbers calls → IsLowPut (counts calls place end number)
unfolding counts
counts_low calls place end number all = counts_by_low end number calls place (slice_get calls place) refl all

leg_at_low : (target : Option Uri) (leg : Option LegDialog) → IsLowPut leg → IsLowPut (leg_at target leg)
leg_at_low None leg h = h
leg_at_low (Some target) None h = tt
leg_at_low (Some target) (Some leg) h = h

pub refreshes_low : (calls : List StandingCall) (place : ℕ) (end : End) (r : Request) → All HasLowNumbers calls → IsLowPut (refreshes calls place end r)
unfolding refreshes
refreshes_low calls place end r all = leg_at_low (reached_at (contacts_of r.headers)) (counts calls place end r.parts.cseq.number) (counts_low calls place end r.parts.cseq.number all)

-- the dialog of a 2xx counts the number of its request, or goes on
after_low : (asked : Parts) (r : Response) (target : Uri) (d : Option Dialog) → asked.cseq.number ≤ max_cseq → CountsLowIf d → CountsLow (dialog_after asked r target d)
after_low asked r target None low h = low
after_low asked r target (Some d) low h = h

leg_by_low : (asked : Parts) (r : Response) (target : Option Uri) (calls : List StandingCall) (place : ℕ) (c : Option StandingCall) → asked.cseq.number ≤ max_cseq → slice_get calls place ≡ c
    → All HasLowNumbers calls → IsLowPut (leg_by asked r target c)
leg_by_low asked r None calls place c low there all = tt
leg_by_low asked r (Some target) calls place None low there all = tt
leg_by_low asked r (Some target) calls place (Some c) low there all =
    let end = other (offerer_of c.call.standing) in
    after_low asked r target (dialog_of end c.call) low (dialog_low c end (all_at HasLowNumbers calls place c all there))

pub answers_low : (asked : Parts) (r : Response) (calls : List StandingCall) (place : ℕ) → asked.cseq.number ≤ max_cseq → All HasLowNumbers calls → IsLowPut (answers_leg calls place asked r)
unfolding answers_leg
answers_low asked r calls place low all = leg_by_low asked r (reached_at (contacts_of r.headers)) calls place (slice_get calls place) low refl all

-- ---- the list of calls

changed_low : (leg : LegDialog) (place : ℕ) (calls : List StandingCall) (c : Option StandingCall) → slice_get calls place ≡ c → CountsLow leg.dialog → All HasLowNumbers calls
    → All HasLowNumbers (changed_at (with_dialog_at leg.end leg.dialog) place calls c)
changed_low leg place calls None there low all = all
changed_low leg place calls (Some c) there low all =
    All-set HasLowNumbers calls place (with_dialog_at leg.end leg.dialog c) (put_at c leg.end leg.dialog low (all_at HasLowNumbers calls place c all there)) all

pub puts_low : (calls : Standing) (place : ℕ) (leg : Option LegDialog) → IsLowPut leg → All HasLowNumbers calls.calls → All HasLowNumbers (puts_if calls place leg).calls
puts_low calls place None low all = all
puts_low calls place (Some leg) low all = changed_low leg place calls.calls (slice_get calls.calls place) refl low all

pub pushed_low : (c : StandingCall) (calls : List StandingCall) (b : Bool) → HasLowNumbers c → All HasLowNumbers calls → All HasLowNumbers (cond b (calls ++ c ∷ []) calls)
pushed_low c calls true h all = All-push HasLowNumbers calls c all h
pushed_low c calls false h all = all
