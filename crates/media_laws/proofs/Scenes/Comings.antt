-- Timers, and requests that a call takes: ACK, CANCEL and BYE.
use Rattle.std.proofs.Common.{◌≡◌, ◌≢◌, ◌∙◌, ℕ, true, codes, List, Option, Some, None, Ok, refl, sym, ap}
use Rattle.std.proofs.lemmas.Bool.{false≢true}
use Rattle.sdp.specs.declared.description.Description.{Description}
use Rattle.sip_message.specs.Read.{message_of}
use Rattle.sip_message.specs.declared.message.Message.{Message}
use Rattle.sip_message.specs.declared.message.Message.TheVariants as Kinds
use Rattle.sip_message.specs.declared.message.Request.{Request}
use Rattle.transactions.specs.declared.transaction.Transaction.{Transaction}
use Rattle.call_media.specs.declared.end.End.{End}
use Rattle.call_core.specs.declared.signal.Signal.{Signal}
use Rattle.call_core.specs.declared.signal.Signal.TheVariants as signals
use Rattle.call_core.specs.declared.stage.Stage.{Stage}
use Rattle.call_core.specs.declared.stage.Standing.{Standing}
use Rattle.calls.specs.declared.standing_call.StandingCall.{StandingCall}
use Rattle.call_rules.specs.Requests.{dialog_rule}
use Rattle.call_rules.specs.DialogRule as rules
use Rattle.call_steps.specs.Rows.{counts}
use Rattle.call_steps.specs.Values.{ComingValue, without_offer}
use Rattle.call_messages.specs.declared.scene.Scene.{Scene}
use Rattle.plans.specs.CallRows.{asker}
use Rattle.plans.specs.Office.{Office}
use Rattle.plans.specs.declared.setting.Setting.{Setting}
use Rattle.responses.specs.Words.{is_method}
use Rattle.call_trace.specs.declared.call.Call.{Call}
use Rattle.call_trace.specs.declared.datagram.Datagram.{Datagram}
use Rattle.call_trace.specs.declared.datagram.Message.{Message as TraceMessage}
use Rattle.trace_reading.specs.Message.{trace_message}
use Rattle.message_laws.specs.Sound.{HasSoundLegs}
use Rattle.message_laws.proofs.AwaitedOffers.Awaiting.{all_at}
use Rattle.message_laws.proofs.Messages.ReadMessages.{message_reads}
use Rattle.message_laws.specs.Messages.{IsMessage, IsTakenOf}
use Rattle.message_laws.proofs.Traces.ReadTexts.{read_as}
use Rattle.media_laws.specs.Inputs.{IsAwaitedBy, Took, TookRequest}
use Rattle.media_laws.specs.Coming.{FitsComing, scene_at}
use Rattle.media_laws.proofs.Scenes.Fitting.{counts_fits}
use Rattle.media_laws.proofs.Scenes.Leaving.{bye_in, cancel_in, request_of}
use Rattle.media_laws.specs.Taking.{IsShownAt, KnowsLegs, TakesSignal, is_due_signal}
use Rattle.media_laws.proofs.Scenes.ListedStages.{has_legs, is_at}

-- ---- what was taken

is_message : (bytes : List ℕ) (m : Message) → message_of bytes ≡ Ok m → IsMessage bytes (trace_message bytes m)
is_message bytes m read = record { message = m; reads = message_reads bytes m read; seen = refl }

pub taken_as : (bytes : List ℕ) (m : Message) (taken : Option TraceMessage) → message_of bytes ≡ Ok m → IsTakenOf bytes taken → taken ≡ Some (trace_message bytes m)
taken_as bytes m None read h = absurd (h (trace_message bytes m) (is_message bytes m read))
taken_as bytes m (Some x) read h = ap Some (read_as bytes x m h (message_reads bytes m read))

request_taken : (bytes : List ℕ) (r : Request) (taken : Option TraceMessage) → message_of bytes ≡ Ok (Kinds.Request r) → IsTakenOf bytes taken → TookRequest taken
request_taken bytes r taken read h = record { message = trace_message bytes (Kinds.Request r); is = taken_as bytes (Kinds.Request r) taken read h; kind = (request_of bytes r).kind }

-- ---- a signal

pub takes_signal : (s : Office) (e : Setting) (w : ComingValue) (place : ℕ) (c : StandingCall) (description : Option Description) (begun : List Transaction) (t : List Datagram) (n : Standing) (d : Call) (taken : Option TraceMessage) (signal : Signal)
    → KnowsLegs s → IsShownAt s begun t place c n d → FitsComing c w.leg → signal ≢ signals.UnfitAnswer → Took taken (scene_at s e w c description) d signal → IsAwaitedBy n.stage signal
    → TakesSignal n (scene_at s e w c description) d taken signal
takes_signal s e w place c description begun t n d taken signal knows h fits other took awaited = record {
  at = is_at s.table.slots begun t c n d h.stands h.shows;
  legs = has_legs s e w place c description begun t n d signal knows h fits other;
  took = took;
  awaited = awaited;
}

-- ---- timers

no_answer : (signal : Signal) → is_due_signal signal ≡ true → signal ≢ signals.UnfitAnswer
no_answer signal due is = false≢true (sym (ap is_due_signal is) ∙ due)

due_took : (scene : Scene) (d : Call) (signal : Signal) → is_due_signal signal ≡ true → Took None scene d signal
due_took scene d (signals.Offer end method) due = absurd (false≢true due)
due_took scene d (signals.Provisional status) due = absurd (false≢true due)
due_took scene d signals.FitAnswer due = absurd (false≢true due)
due_took scene d signals.UnfitAnswer due = absurd (false≢true due)
due_took scene d (signals.Refusal status) due = absurd (false≢true due)
due_took scene d signals.TimedOut due = refl
due_took scene d signals.Ack due = absurd (false≢true due)
due_took scene d signals.Cancel due = absurd (false≢true due)
due_took scene d (signals.Bye end) due = absurd (false≢true due)
due_took scene d signals.Limit due = refl
due_took scene d signals.Repeat due = refl
due_took scene d signals.Wait due = refl
due_took scene d signals.Lifetime due = refl

due_awaited : (stage : Stage) (signal : Signal) → is_due_signal signal ≡ true → IsAwaitedBy stage signal
due_awaited stage (signals.Offer end method) due = tt
due_awaited stage (signals.Provisional status) due = tt
due_awaited stage signals.FitAnswer due = tt
due_awaited stage signals.UnfitAnswer due = absurd (false≢true due)
due_awaited stage (signals.Refusal status) due = absurd (false≢true due)
due_awaited stage signals.TimedOut due = tt
due_awaited stage signals.Ack due = tt
due_awaited stage signals.Cancel due = tt
due_awaited stage (signals.Bye end) due = tt
due_awaited stage signals.Limit due = tt
due_awaited stage signals.Repeat due = tt
due_awaited stage signals.Wait due = tt
due_awaited stage signals.Lifetime due = tt

pub due_signals : (s : Office) (e : Setting) (place : ℕ) (c : StandingCall) (description : Option Description) (begun : List Transaction) (t : List Datagram) (n : Standing) (d : Call) (signal : Signal) → KnowsLegs s → IsShownAt s begun t place c n d
    → is_due_signal signal ≡ true → TakesSignal n (scene_at s e (without_offer None None) c description) d None signal
due_signals s e place c description begun t n d signal knows h due =
    takes_signal s e (without_offer None None) place c description begun t n d None signal knows h tt (no_answer signal due) (due_took (scene_at s e (without_offer None None) c description) d signal due) (due_awaited n.stage signal due)

-- ---- requests

pub ack_signals : (s : Office) (e : Setting) (place : ℕ) (c : StandingCall) (description : Option Description) (begun : List Transaction) (t : List Datagram) (n : Standing) (d : Call) (r : Request) (bytes : List ℕ) (taken : Option TraceMessage) → KnowsLegs s
    → IsShownAt s begun t place c n d → message_of bytes ≡ Ok (Kinds.Request r) → IsTakenOf bytes taken → TakesSignal n (scene_at s e (without_offer None None) c description) d taken signals.Ack
ack_signals s e place c description begun t n d r bytes taken knows h read took =
    takes_signal s e (without_offer None None) place c description begun t n d taken signals.Ack knows h tt (λ is. cc) (request_taken bytes r taken read took) tt

pub cancel_signals : (s : Office) (e : Setting) (place : ℕ) (c : StandingCall) (description : Option Description) (begun : List Transaction) (t : List Datagram) (n : Standing) (d : Call) (r : Request) (id : ℕ) (tag bytes : List ℕ)
    (taken : Option TraceMessage) → KnowsLegs s → IsShownAt s begun t place c n d → message_of bytes ≡ Ok (Kinds.Request r) → IsTakenOf bytes taken → is_method (codes "CANCEL") r ≡ true
    → TakesSignal n (scene_at s e (without_offer None (Some (asker r e id tag))) c description) d taken signals.Cancel
cancel_signals s e place c description begun t n d r id tag bytes taken knows h read took is =
    let w = without_offer None (Some (asker r e id tag)) in
    let found = cancel_in s e w c description r id tag bytes read is refl in
    takes_signal s e w place c description begun t n d taken signals.Cancel knows h tt (λ is. cc) (record { request = request_taken bytes r taken read took; asker = found.asker; has = found.has; method = found.method }) tt

pub bye_signals : (s : Office) (e : Setting) (place : ℕ) (c : StandingCall) (description : Option Description) (begun : List Transaction) (t : List Datagram) (n : Standing) (d : Call) (r : Request) (id : ℕ) (end : End) (tag bytes : List ℕ)
    (taken : Option TraceMessage) → KnowsLegs s → IsShownAt s begun t place c n d → message_of bytes ≡ Ok (Kinds.Request r) → IsTakenOf bytes taken → dialog_rule s.calls.calls r ≡ rules.Leaves place end
    → TakesSignal n (scene_at s e (without_offer (counts s.calls.calls place end r.parts.cseq.number) (Some (asker r e id tag))) c description) d taken (signals.Bye end)
bye_signals s e place c description begun t n d r id end tag bytes taken knows h read took rule =
    let w = without_offer (counts s.calls.calls place end r.parts.cseq.number) (Some (asker r e id tag)) in
    let sound = all_at HasSoundLegs s.calls.calls place c knows.dialogs.calls h.there in
    takes_signal s e w place c description begun t n d taken (signals.Bye end) knows h (counts_fits s.calls.calls place end r.parts.cseq.number c h.there sound) (λ is. cc)
    (record { request = record { message = trace_message bytes (Kinds.Request r); is = taken_as bytes (Kinds.Request r) taken read took; kind = (request_of bytes r).kind }; bye = bye_in s e w c description d r id place end tag bytes rule h.there h.shows.legs refl }) tt
