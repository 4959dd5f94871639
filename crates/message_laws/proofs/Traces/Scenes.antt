-- The scenes at an event are sound, and so what is said in them is of the form that is written and read again.
use Rattle.std.proofs.Common.{◌≡◌, ◌∙◌, ℕ, ◌+◌, ◌≤◌, Bool, true, false, cond, ◌||◌, List, [], ◌∷◌, codes, Option, Some, None, Ok, is_some, option_map, refl, sym, subst, inl, inr, arith}
use Rattle.std.specs.Prelude.{slice_get}
use Rattle.std.specs.Option.{option_copied}
use Rattle.std.proofs.lemmas.Bool.{false≢true}
use Rattle.std.proofs.lemmas.Option.{none-some, same_Some}
use Rattle.std.specs.Char.{is_ascii_digit}
use Rattle.text.specs.Class.{is_run_of}
use Rattle.text.specs.Number.{number_upto}
use Rattle.text.proofs.Numbers.{number_is}
use Rattle.sip_uri.specs.declared.uri.Uri.{Uri}
use Rattle.sip_message.specs.Contact.{contacts_of}
use Rattle.sip_message.specs.Grammar.{SaysHops}
use Rattle.sip_message.specs.Lookup.{values_named}
use Rattle.sip_message.specs.Read.{message_of}
use Rattle.sip_message.specs.Repeatable.{CanBeRepeated}
use Rattle.sip_message.specs.declared.message.Message.TheVariants as Kinds
use Rattle.sip_message.specs.declared.message.Request.{Request}
use Rattle.sdp.specs.declared.description.Description.{Description}
use Rattle.dialogs.specs.Making.{reached_at}
use Rattle.dialogs.specs.declared.state.Dialog.{Dialog}
use Rattle.transactions.specs.Slots.{at}
use Rattle.transactions.specs.declared.transaction.Transaction.{Transaction}
use Rattle.call_media.specs.declared.end.End.{End}
use Rattle.call_media.specs.declared.end.End.TheVariants.{Callee, Caller}
use Rattle.call_core.specs.CallRows.{call_row, first_call_row}
use Rattle.call_core.specs.Calls.{dialog_of, with_dialog}
use Rattle.call_core.specs.Plans.{Step}
use Rattle.call_core.specs.declared.action.Action.{Action}
use Rattle.call_core.specs.declared.action.Action.TheVariants as actions
use Rattle.call_core.specs.declared.call.Call.{Call}
use Rattle.call_core.specs.declared.input.Input.{Input}
use Rattle.call_core.specs.declared.input.Input.TheVariants as inputs
use Rattle.calls.specs.Carrying.{offerer_of}
use Rattle.calls.specs.declared.change.LegDialog.{LegDialog}
use Rattle.calls.specs.declared.standing_call.StandingCall.{StandingCall}
use Rattle.call_rules.specs.Content.{described}
use Rattle.call_steps.specs.Messages.{messages}
use Rattle.call_steps.specs.Rows.{first_asker, first_leg, first_messages, first_standing, messages_of}
use Rattle.call_steps.specs.Scenes.{asker_by, asker_in, dialog_in, first_scene, fork_scene, offerer_tag, passed_id, scene}
use Rattle.call_steps.specs.Values.{AskerValue, ComingValue, SceneValue, lent, lent_asker, lent_scene}
use Rattle.call_steps.specs.declared.occasion.Occasion.{Occasion}
use Rattle.plans.specs.CallRows.{occasion, without_call_timer}
use Rattle.event_rows.specs.Rules.{target}
use Rattle.plans.specs.Office.{Office}
use Rattle.plans.specs.declared.setting.Setting.{Setting}
use Rattle.message_laws.specs.Addresses.{IsServerAddress, IsSource}
use Rattle.message_laws.specs.Askers.{CameFromSource, IsServed, waits_for}
use Rattle.message_laws.specs.Bodies.{IsOfReadIf, KnowsStep}
use Rattle.message_laws.specs.Knowing.{HasMadeTags}
use Rattle.message_laws.specs.Saying.{ReadsBackIf}
use Rattle.message_laws.specs.Sound.{HasSoundLegs}
use Rattle.message_laws.proofs.Askers.AskedCalls.{at_place}
use Rattle.message_laws.proofs.AwaitedOffers.Awaiting.{all_at}
use Rattle.message_laws.proofs.Messages.BodyCalls.{call_known, first_known}
use Rattle.message_laws.proofs.Messages.BodySteps.{call_at}
use Rattle.message_laws.proofs.QuietEvents.Describing.{BodiesDescribe}
use Rattle.message_laws.proofs.TokenUse.Grounds.{read_repeats}
use Rattle.message_laws.proofs.Messages.ReadBack.{SentIsRead, reads_back}
use Rattle.message_laws.proofs.Messages.ReadBodies.{body_read}
use Rattle.message_laws.proofs.Messages.ReadParts.{IsTokenRun}
use Rattle.message_laws.proofs.StandingCalls.Reading.{Reading}
use Rattle.message_laws.proofs.Askers.ServedRequests.{served_asked, unanswered_server}
use Rattle.message_laws.proofs.StandingCalls.SoundRows.{known_leg}
use Rattle.message_laws.proofs.Askers.Speaking as speaking
use Rattle.message_laws.proofs.Askers.SpokenLines as lines
use Rattle.message_laws.proofs.Askers.SpokenLines.{CallSpeaks, FitsInput, call_speaks}
use Rattle.message_laws.proofs.Askers.SpokenSteps.{tag_run}
use Rattle.message_laws.proofs.Messages.WrittenLengths.{written_short}
use Rattle.message_laws.specs.Comings.{CanSayTo, CanAskPut, CanCome, CanOkayTo, ComesWithFitStatus, KnowsScenes, is_offer_input}
use Rattle.message_laws.specs.Said.{SaysActions}
use Rattle.message_laws.specs.SoundClients.{HasLowNumbers}
use Rattle.message_laws.specs.SoundScenes.{CanSayIf, CanAskIn, CanAskInIf, CanOkay, HasFitStatus, HaveFitStatuses, IsShortIf, IsSoundScene, answer_offer, answers_offer}
use Rattle.message_laws.proofs.Messages.AnyToken.{any_token_run}
use Rattle.message_laws.proofs.StandingCalls.ClientSteps.{can_ask_in, first_scene_asks, fork_scene_asks, passed_sound}
use Rattle.message_laws.proofs.StandingCalls.LowCalls.{dialog_low}
use Rattle.message_laws.proofs.StandingCalls.SoundCalls.{dialog_sound}
use Rattle.message_laws.proofs.Messages.SaidActions.{actions_said}
use Rattle.message_laws.proofs.StandingCalls.SoundAsks.{lent_asks}

-- ---- what is said of a call, in the words of its lines

same_answers_offer : (action : Action) → answers_offer action ≡ speaking.answers_offer action
same_answers_offer (actions.Trying end) = refl
same_answers_offer (actions.Offer end method) = refl
same_answers_offer (actions.Provisional end status) = refl
same_answers_offer (actions.Ack end) = refl
same_answers_offer (actions.Answer end) = refl
same_answers_offer (actions.AnswerAgain end) = refl
same_answers_offer (actions.Refusal end status) = refl
same_answers_offer (actions.Okay end) = refl
same_answers_offer (actions.Cancel end) = refl
same_answers_offer (actions.Bye end) = refl
same_answers_offer actions.PutRows = refl
same_answers_offer actions.Release = refl
same_answers_offer actions.RemoveRows = refl
same_answers_offer (actions.Set timer after) = refl
same_answers_offer (actions.Stop timer) = refl
same_answers_offer (actions.Abandon end) = refl

same_answer_offer : (list : List Action) → answer_offer list ≡ speaking.answer_offer list
same_answer_offer [] = refl
same_answer_offer (action ∷ later) = λ i. same_answers_offer action i || same_answer_offer later i

fit_status : (action : Action) → speaking.FitsAction action → HasFitStatus action
fit_status (actions.Trying end) h = tt
fit_status (actions.Offer end method) h = tt
fit_status (actions.Provisional end status) h = h
fit_status (actions.Ack end) h = tt
fit_status (actions.Answer end) h = tt
fit_status (actions.AnswerAgain end) h = tt
fit_status (actions.Refusal end status) h = h
fit_status (actions.Okay end) h = tt
fit_status (actions.Cancel end) h = tt
fit_status (actions.Bye end) h = tt
fit_status actions.PutRows h = tt
fit_status actions.Release h = tt
fit_status actions.RemoveRows h = tt
fit_status (actions.Set timer after) h = tt
fit_status (actions.Stop timer) h = tt
fit_status (actions.Abandon end) h = tt

fit_statuses : (list : List Action) → speaking.FitActions list → HaveFitStatuses list
fit_statuses [] h = tt
fit_statuses (action ∷ later) h = (fit_status action h.0, fit_statuses later h.1)

fits_input : (input : Input) → ComesWithFitStatus input → FitsInput input
fits_input (inputs.Offer end method offer) h = tt
fits_input (inputs.Provisional status) h = h
fits_input (inputs.Answer answer) h = tt
fits_input (inputs.Refusal status) h = h
fits_input inputs.TimedOut h = tt
fits_input inputs.Ack h = tt
fits_input inputs.Cancel h = tt
fits_input (inputs.Bye end) h = tt
fits_input inputs.Limit h = tt
fits_input inputs.Repeat h = tt
fits_input inputs.Wait h = tt
fits_input inputs.Lifetime h = tt

same_offer : (input : Input) → lines.is_offer_input input ≡ true → is_offer_input input ≡ true
same_offer (inputs.Offer end method offer) e = refl
same_offer (inputs.Provisional status) e = absurd (false≢true e)
same_offer (inputs.Answer answer) e = absurd (false≢true e)
same_offer (inputs.Refusal status) e = absurd (false≢true e)
same_offer inputs.TimedOut e = absurd (false≢true e)
same_offer inputs.Ack e = absurd (false≢true e)
same_offer inputs.Cancel e = absurd (false≢true e)
same_offer (inputs.Bye end) e = absurd (false≢true e)
same_offer inputs.Limit e = absurd (false≢true e)
same_offer inputs.Repeat e = absurd (false≢true e)
same_offer inputs.Wait e = absurd (false≢true e)
same_offer inputs.Lifetime e = absurd (false≢true e)

-- ---- what is borrowed

lent_answer : (a : Option AskerValue) → CanSayTo a → CanSayIf (option_map lent_asker a)
lent_answer None h = tt
lent_answer (Some a) h = record { repeats = h.repeats; from = h.from; token = h.token }

lent_okay : (a : Option AskerValue) → CanOkayTo a → CanOkay (option_map lent_asker a)
lent_okay None h = tt
lent_okay (Some a) h = (record { repeats = h.0.repeats; from = h.0.from; token = h.0.token }, h.1)

lent_reads : (d : Option Description) → ReadsBackIf d → ReadsBackIf (option_copied (option_map lent d))
lent_reads None h = h
lent_reads (Some d) h = h

lent_short : (d : Option Description) → IsShortIf d → IsShortIf (option_copied (option_map lent d))
lent_short None h = h
lent_short (Some d) h = h

-- ---- descriptions

back_if : SentIsRead → (ip : List ℕ) (d : Option Description) → IsServerAddress ip → IsOfReadIf ip d → ReadsBackIf d
back_if law ip None server h = tt
back_if law ip (Some d) server h = reads_back law ip d server h

short_if : (ip : List ℕ) (d : Option Description) → IsOfReadIf ip d → IsShortIf d
short_if ip None h = tt
short_if ip (Some d) h = written_short ip d h

-- ---- dialogs, where one comes with the event

put_in : (end at_end : End) (d : Dialog) (c : Call) → CanAskIn d → ((x : End) → CanAskInIf (dialog_of x c)) → CanAskInIf (dialog_of end (with_dialog at_end d c))
put_in Caller Caller d c can own = can
put_in Callee Caller d c can own = own Callee
put_in Caller Callee d c can own = own Caller
put_in Callee Callee d c can own = can

coming_can : (end : End) (leg : Option LegDialog) (c : Call) → CanAskPut leg → ((x : End) → CanAskInIf (dialog_of x c)) → CanAskInIf (dialog_in end leg c)
coming_can end None c can own = own end
coming_can end (Some leg) c can own = put_in end leg.end leg.dialog c can own

-- of a live call
pub own_can : (s : Office) (place : ℕ) (c : StandingCall) → KnowsScenes s → slice_get s.calls.calls place ≡ Some c → (end : End) → CanAskInIf (dialog_of end c.call)
own_can s place c k there end =
    can_ask_in (dialog_of end c.call) (dialog_sound c end (all_at HasSoundLegs s.calls.calls place c k.dialogs.calls there)) (dialog_low c end (all_at HasLowNumbers s.calls.calls place c k.clients.calls there))

-- ---- the offer that a call answers

asker_can : (c : StandingCall) (t : Option Transaction) → IsSource c.asked.source → IsTokenRun (offerer_tag c.call) → ((x : Transaction) → t ≡ Some x → CanBeRepeated x.parts) → CanSayTo (asker_by c t)
asker_can c None from token h = tt
asker_can c (Some t) from token h = record { repeats = h t refl; from = from; token = token }

waiting_can : (s : Office) (place : ℕ) (c : StandingCall) → KnowsScenes s → slice_get s.calls.calls place ≡ Some c → waits_for c ≡ true → CanSayTo (asker_by c (at s.table.slots c.asked.id))
waiting_can s place c k there waits =
    let a = at_place (IsServed s.table.slots) s.calls.calls place c k.askers.offers.served there waits in
    asker_can c (at s.table.slots c.asked.id) (at_place CameFromSource s.calls.calls place c k.askers.offers.sources there)
    (tag_run s.tokens c (offerer_of c.call.standing) k.few (at_place (HasMadeTags s.tokens) s.calls.calls place c k.tokens.calls.tags there))
    (λ x is. subst (λ (t : Transaction). CanBeRepeated t.parts) (same_Some a.transaction x (sym a.stands ∙ is))
    (served_asked s.table.slots c.asked.id k.askers.slots a (unanswered_server a.transaction.state a.unanswered) (unanswered_server a.transaction.state a.unanswered)))

asker_in_can : (offer : Option AskerValue) (c : StandingCall) (t : Option Transaction) → CanSayTo offer → (is_some offer ≡ false → CanSayTo (asker_by c t)) → CanSayTo (asker_in offer c t)
asker_in_can None c t can own = own refl
asker_in_can (Some a) c t can own = can

-- ---- a live call

module _ (law : SentIsRead) (s : Office) (e : Setting) (place : ℕ) (c : StandingCall) (input : Input) (w : ComingValue) (k : KnowsScenes s) (there : slice_get s.calls.calls place ≡ Some c) (can : CanCome input w) where
  abbrev step : Step
  step = call_row c.call input s.calls.pool e.now

  abbrev value : SceneValue
  value = scene s.table (occasion s e) w c step.description

  known : KnowsStep s.range.ip step
  known = call_known s.range.ip k.descriptions.address c.call (call_at s.range.ip s.calls.calls place c k.descriptions.calls.calls there) s.calls.pool k.descriptions.calls.pairs e.now input can.read

  speaks : CallSpeaks c.call (lines.is_offer_input input) step
  speaks = call_speaks c.call input s.calls.pool e.now (fits_input input can.status)

  asked_can : answer_offer step.actions ≡ true → CanSayTo value.offer
  asked_can answers = elim (speaks.answers (sym (same_answer_offer step.actions) ∙ answers)) [
    | inl offers ↦ asker_in_can w.offer c (at s.table.slots c.asked.id) can.offer (λ none. absurd (false≢true (sym none ∙ can.asked (same_offer input offers))))
    | inr waits ↦ asker_in_can w.offer c (at s.table.slots c.asked.id) can.offer (λ none. waiting_can s place c k there waits)
  ]

  pub step_scene : IsSoundScene (lent_scene value) (answer_offer step.actions)
  step_scene = record {
    asks = lent_asks value k.clients.server (coming_can Caller w.leg c.call can.leg (own_can s place c k there)) (coming_can Callee w.leg c.call can.leg (own_can s place c k there))
        (passed_sound s.table.slots _ (passed_id s.table c) k.clients.slots refl);
    hops = can.hops;
    offer = λ answers. lent_answer value.offer (asked_can answers);
    request = lent_okay w.request can.request;
    reads = lent_reads step.description (back_if law s.range.ip step.description k.descriptions.address known.sent);
    short = lent_short step.description (short_if s.range.ip step.description known.sent);
  }

  pub step_fits : HaveFitStatuses step.actions
  step_fits = fit_statuses step.actions speaks.fit

  pub step_says : BodiesDescribe → SaysActions (lent_scene value) s.tokens step.actions (messages_of s.table (occasion s e) w c step).dressed.sends
  unfolding messages
  step_says describes = actions_said describes (lent_scene value) s.tokens step.actions step_scene step_fits

-- ---- a call that begins

hops_of : (text : List ℕ) (b : Bool) (hops : ℕ) → cond b (number_upto 255 text) None ≡ Some hops → hops ≤ 255
hops_of text true hops h = number_is 255 hops text h
hops_of text false hops h = absurd (none-some hops h)

hops_by : (values : List (List ℕ)) (hops : ℕ) → SaysHops values hops → hops ≤ 255
hops_by [] hops h = omega (arith, h)
hops_by (text ∷ []) hops h = hops_of text (is_run_of is_ascii_digit text) hops h
hops_by (one ∷ two ∷ more) hops h = absurd h

-- the hops of a request that was read
pub hops_low : Reading → (text : List ℕ) (r : Request) → message_of text ≡ Ok (Kinds.Request r) → r.max_forwards ≤ 255
hops_low reading text r read =
    let reads = reading.message text (Kinds.Request r) read in
    hops_by (values_named (codes "Max-Forwards") reads.fields) r.max_forwards reads.says.says_hops

module _ (law : SentIsRead) (describes : BodiesDescribe) (reading : Reading) (s : Office) (e : Setting) (text : List ℕ) (r : Request) (id : ℕ) (contact to : Uri) (offer : Description) (k : KnowsScenes s) (from : IsSource e.source) (read : message_of text ≡ Ok (Kinds.Request r)) (reached : reached_at (contacts_of r.headers) ≡ Some contact) (bound : target s r e.now ≡ Some to) (said : described r.headers r.body ≡ Some offer) where
  abbrev o : Occasion
  o = occasion s e

  abbrev begun : StandingCall
  begun = first_standing (s.calls.begun + 1) o r id e.source contact

  abbrev first_step : Step
  first_step = first_call_row begun.call offer s.calls.pool e.now

  abbrev first_value : SceneValue
  first_value = first_scene o (first_asker o r id e.source) r.max_forwards (first_leg o r to) first_step.description

  first_sent : IsOfReadIf s.range.ip first_step.description
  first_sent =
      (first_known s.range.ip k.descriptions.address begun.call (record { address = refl; offer = tt; session = tt }) s.calls.pool k.descriptions.calls.pairs e.now offer
      (body_read describes text (Kinds.Request r) offer read said)).sent

  first_fit : HaveFitStatuses first_step.actions
  unfolding first_call_row
  first_fit = (tt, (tt, tt))

  first_sound : IsSoundScene (lent_scene first_value) (answer_offer first_step.actions)
  first_sound = record {
    asks = first_scene_asks o (first_asker o r id e.source) r.max_forwards r to first_step.description k.clients.server (known_leg reading s e text r contact to k.dialogs k.few read reached bound);
    hops = hops_low reading text r read;
    offer = λ answers. record { repeats = read_repeats text (Kinds.Request r) read; from = from; token = any_token_run e.salt (s.tokens + 1) };
    request = tt;
    reads = lent_reads first_step.description (back_if law s.range.ip first_step.description k.descriptions.address first_sent);
    short = lent_short first_step.description (short_if s.range.ip first_step.description first_sent);
  }

  pub first_says : SaysActions (lent_scene first_value) (s.tokens + 3) first_step.actions (first_messages o r id e.source to first_step).dressed.sends
  unfolding messages
  first_says = actions_said describes (lent_scene first_value) (s.tokens + 3) first_step.actions first_sound first_fit

-- ---- a dialog of no call

alone_scene : (s : Office) (e : Setting) (leg : Dialog) (answers : Bool) → KnowsScenes s → CanAskIn leg → IsSoundScene (lent_scene (fork_scene (occasion s e) leg)) answers
alone_scene s e leg answers k can = record {
  asks = fork_scene_asks (occasion s e) leg k.clients.server can;
  hops = omega arith;
  offer = λ h. tt;
  request = tt;
  reads = tt;
  short = tt;
}

pub alone_says : BodiesDescribe → (s : Office) (e : Setting) (leg : Dialog) (list : List Action) → KnowsScenes s → CanAskIn leg → HaveFitStatuses list
    → SaysActions (lent_scene (fork_scene (occasion s e) leg)) s.tokens list (messages (fork_scene (occasion s e) leg) None list).dressed.sends
unfolding messages
alone_says describes s e leg list k can fit = actions_said describes (lent_scene (fork_scene (occasion s e) leg)) s.tokens list (alone_scene s e leg (answer_offer list) k can) fit

-- ---- the same calls and transactions, where a timer of a call is due

pub stopped_scenes : (s : Office) (timer : _) → KnowsScenes s → KnowsScenes (without_call_timer timer s)
stopped_scenes s timer k = record {
  dialogs = record { server = k.dialogs.server; bindings = k.dialogs.bindings; requests = k.dialogs.requests; calls = k.dialogs.calls };
  clients = record { server = k.clients.server; slots = k.clients.slots; calls = k.clients.calls };
  descriptions = record { address = k.descriptions.address; calls = record { pairs = k.descriptions.calls.pairs; calls = k.descriptions.calls.calls } };
  askers = record { slots = k.askers.slots; offers = k.askers.offers; server = k.askers.server; least = k.askers.least };
  tokens = record { slots = k.tokens.slots; calls = k.tokens.calls };
  few = k.few;
}
