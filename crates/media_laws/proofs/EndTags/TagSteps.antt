-- What a step of a call says, as the agent's rows take it, is not a 200 to a BYE but the one to the BYE that comes.
use Rattle.std.proofs.Common.{◌≡◌, ◌∙◌, ℕ, ◌+◌, true, false, List, [], ◌∷◌, Option, Some, None, Ok, option_map, refl, ap, sym, subst, inl, inr}
use Rattle.std.specs.Prelude.{slice_get}
use Rattle.std.specs.Option.{option_copied}
use Rattle.std.proofs.lemmas.Bool.{false≢true}
use Rattle.std.proofs.lemmas.Option.{none-some, same_Some}
use Rattle.events.specs.declared.sent.Sent.{Sent}
use Rattle.sip_uri.specs.declared.uri.Uri.{Uri}
use Rattle.sip_message.specs.Contact.{contacts_of}
use Rattle.sip_message.specs.Read.{message_of}
use Rattle.sip_message.specs.Words.{tag_text}
use Rattle.sip_message.specs.declared.message.Message.TheVariants as Kinds
use Rattle.sip_message.specs.declared.message.Parts.{Parts}
use Rattle.sip_message.specs.declared.message.Request.{Request}
use Rattle.sip_message.specs.declared.message.Response.{Response}
use Rattle.sdp.specs.declared.description.Description.{Description}
use Rattle.dialogs.specs.Making.{callers_dialog, reached_at}
use Rattle.dialogs.specs.declared.state.Dialog.{Dialog}
use Rattle.transaction_machines.specs.Machines.{is_server}
use Rattle.transactions.specs.Slots.{at}
use Rattle.transactions.specs.declared.transaction.Transaction.{Transaction}
use Rattle.call_media.specs.declared.end.End.{End}
use Rattle.call_media.specs.declared.end.End.TheVariants.{Callee, Caller}
use Rattle.call_core.specs.CallRows.{call_row, first_call_row}
use Rattle.call_core.specs.declared.action.Action.{Action}
use Rattle.call_core.specs.declared.action.Action.TheVariants.{Ack, Bye}
use Rattle.call_core.specs.declared.input.Input.{Input}
use Rattle.call_core.specs.declared.input.Input.TheVariants as inputs
use Rattle.call_core.specs.declared.signal.OfferMethod.{OfferMethod}
use Rattle.call_rules.specs.Content.{described}
use Rattle.call_rules.specs.Requests.{dialog_rule}
use Rattle.call_rules.specs.Speaking.{is_bye}
use Rattle.call_rules.specs.DialogRule as dialogrules
use Rattle.call_steps.specs.Rows.{begins_by, counts, first_asker, first_leg, first_messages, first_row, first_standing, fork_by, fork_row, late_by, late_row, later_dialog, messages_of, offer_coming, offers_by, offers_row, takes_by, takes_row}
use Rattle.call_steps.specs.Messages.{messages}
use Rattle.call_steps.specs.Scenes.{asker_by, asker_in, first_scene, fork_scene, scene, tag_to}
use Rattle.call_steps.specs.Values.{AskerValue, ComingValue, lent, lent_asker, lent_scene, without_offer}
use Rattle.calls.specs.declared.change.LegDialog.{LegDialog}
use Rattle.calls.specs.declared.standing_call.StandingCall.{StandingCall}
use Rattle.plans.specs.CallRows.{asker, occasion}
use Rattle.event_rows.specs.Rules.{target}
use Rattle.plans.specs.Office.{Office}
use Rattle.plans.specs.declared.setting.Setting.{Setting}
use Rattle.responses.specs.Responding.{stateless}
use Rattle.call_trace.specs.declared.call.Call.{Call as TraceCall}
use Rattle.call_trace.specs.declared.datagram.Datagram.{Datagram}
use Rattle.call_trace.specs.declared.datagram.Message.{Message}
use Rattle.call_trace.specs.Listed.{AllOf}
use Rattle.message_laws.specs.Addresses.{IsSource}
use Rattle.message_laws.specs.Askers.{waits_for}
use Rattle.message_laws.specs.Knowing.{HasMadeTags}
use Rattle.message_laws.specs.Seeing.{response_tag}
use Rattle.message_laws.specs.Sending.{AnswerWasSent, CallWasSent, WasSent}
use Rattle.message_laws.specs.Tokens.{IsMade}
use Rattle.message_laws.proofs.AwaitedOffers.Awaiting.{all_at}
use Rattle.message_laws.proofs.TokenUse.Calls.{call_at}
use Rattle.message_laws.proofs.QuietEvents.Describing.{BodiesDescribe}
use Rattle.message_laws.proofs.StandingCalls.Reaching.{offers_may_offer}
use Rattle.message_laws.proofs.Messages.ReadBack.{SentIsRead}
use Rattle.message_laws.proofs.StandingCalls.Reading.{Reading as ReadsNames}
use Rattle.message_laws.proofs.Askers.Speaking.{answer_offer}
use Rattle.message_laws.proofs.Askers.SpokenLines.{FitsInput, call_speaks, is_offer_input}
use Rattle.message_laws.specs.Comings.{CanCome}
use Rattle.message_laws.specs.SoundScenes.{CanAskIn, HaveFitStatuses}
use Rattle.message_laws.proofs.Traces.Comings.{forked_can, later_can, offer_comes}
use Rattle.message_laws.proofs.Traces.Scenes.{alone_says, first_says, step_fits, step_says}
use Rattle.message_laws.specs.Asked.{HasAskerIf, KnowsAsked}
use Rattle.message_laws.specs.Messages.{AreMessages, IsMessage}
use Rattle.media_laws.proofs.Scenes.Reading.{Reading}
use Rattle.media_laws.specs.Ties.{AreTied}
use Rattle.media_laws.proofs.Scenes.QuietSends.{went_before}
use Rattle.media_laws.proofs.Scenes.Leaving.{rule_fits}
use Rattle.media_laws.proofs.OtherCalls.AnswersKnown.{dialog_tag}
use Rattle.media_laws.proofs.RisingNumbers.DialogRules.{counts_by_rule}
use Rattle.media_laws.proofs.EndTags.ByeTags.{IsTagged, was_sent}
use Rattle.media_laws.proofs.EndTags.SaidTags.{HasOwnTag, IsOfNoBye, actions_tagged, offers_no_bye, repeats_made}

-- ---- the laws below

pub record Laws : Type 0 where
  pub reads : Reading
  pub names : ReadsNames
  pub describes : BodiesDescribe
  pub sent : SentIsRead

-- a scene's request and offer, borrowed
lent_no_bye : (a : Option AskerValue) → ((x : AskerValue) → a ≡ Some x → is_bye x.parts ≡ false) → IsOfNoBye (option_map lent_asker a)
lent_no_bye None h = tt
lent_no_bye (Some a) h = h a refl

abbrev pub IsRequestTagged : ℕ → Option AskerValue → Type 0
IsRequestTagged made None = Unit {0}
IsRequestTagged made (Some a) = is_bye a.parts ≡ true → IsMade made (response_tag 200 a.parts a.tag)

lent_tag : (made : ℕ) (a : Option AskerValue) → IsRequestTagged made a → HasOwnTag made (option_map lent_asker a)
lent_tag made None h = tt
lent_tag made (Some a) h = h

end_made : (made : ℕ) (c : StandingCall) (end : End) → HasMadeTags made c → IsMade made (tag_to end c)
end_made made c Caller tags = tags.caller
end_made made c Callee tags = tags.callee

module _ (laws : Laws) (s : Office) (begun : List Transaction) (sent : List Sent) (t : List Datagram) (ds : List TraceCall) (k : AreTied s begun sent t ds) (asked : KnowsAsked s) (e : Setting) where
  abbrev Tagged : List Message → Type 0
  Tagged ms = AllOf (IsTagged t s.tokens) ms

  pub silent : (ms : List Message) → AreMessages [] ms → Tagged ms
  silent [] are = tt
  silent (m ∷ ms) are = absurd are

  pub before_tagged : (bytes : List ℕ) (m : Message) → WasSent sent bytes → IsMessage bytes m → IsTagged t s.tokens m
  before_tagged bytes m was is = let w = went_before laws.reads t sent bytes m k.trace.read k.trace.sent was is in was_sent w.place w.before w.there w.sent w.same

  -- the 200 that is sent again
  answer_before : (again : Option Sent) → AnswerWasSent sent again → (x : Sent) → option_copied (option_map lent again) ≡ Some x → (n : Message) → IsMessage x.bytes n → IsTagged t s.tokens n
  answer_before None was x is n message = absurd (none-some x is)
  answer_before (Some own) was x is n message = before_tagged x.bytes n (subst (λ (y : Sent). WasSent sent y.bytes) (same_Some own x is) was) message

  -- ---- a current call

  -- its own offer waits, or the one that comes came in no BYE
  own_offer : (c : StandingCall) (o : Option Transaction) → HasAskerIf s.table.slots c → at s.table.slots c.asked.id ≡ o → waits_for c ≡ true → (x : AskerValue) → asker_by c o ≡ Some x → is_bye x.parts ≡ false
  own_offer c None known there waits x is = absurd (none-some x is)
  own_offer c (Some y) known there waits x is =
      let a = known waits in
      let same : a.transaction ≡ y = same_Some a.transaction y (sym a.stands ∙ there) in
      subst (λ (p : Parts). is_bye p ≡ false) (ap (λ (v : Transaction). v.parts) same ∙ ap (λ (v : AskerValue). v.parts) (same_Some _ x is)) (offers_no_bye a.transaction.parts a.offers)

  coming_offer : (w : Option AskerValue) (c : StandingCall) (o : Option Transaction) → ((x : AskerValue) → w ≡ Some x → is_bye x.parts ≡ false) → (w ≡ None → (x : AskerValue) → asker_by c o ≡ Some x → is_bye x.parts ≡ false) → (x : AskerValue)
      → asker_in w c o ≡ Some x → is_bye x.parts ≡ false
  coming_offer None c o comes own x is = own refl x is
  coming_offer (Some a) c o comes own x is = comes x is

  -- what comes with the input
  pub record ComesTagged (c : StandingCall) (input : Input) (w : ComingValue) : Type 0 where
    pub fits : FitsInput input
    pub request : IsRequestTagged s.tokens w.request
    pub offer : (x : AskerValue) → w.offer ≡ Some x → is_bye x.parts ≡ false
    pub waits : answer_offer (call_row c.call input s.calls.pool e.now).actions ≡ true → w.offer ≡ None → waits_for c ≡ true

  call_tagged : (place : ℕ) (c : StandingCall) (input : Input) (w : ComingValue) → slice_get s.calls.calls place ≡ Some c → CanCome input w → ComesTagged c input w → (ms : List Message)
      → AreMessages (messages_of s.table (occasion s e) w c (call_row c.call input s.calls.pool e.now)).dressed.sends ms → Tagged ms
  call_tagged place c input w there can comes ms are =
      let step = call_row c.call input s.calls.pool e.now in
      let value = scene s.table (occasion s e) w c step.description in
      actions_tagged laws.reads (lent_scene value) t s.tokens (lent_tag s.tokens w.request comes.request) (answer_before c.answer (all_at (CallWasSent sent) s.calls.calls place c k.again.calls there)) s.tokens step.actions
      (messages_of s.table (occasion s e) w c step).dressed.sends ms
      (λ answers. lent_no_bye value.offer (coming_offer w.offer c (at s.table.slots c.asked.id) comes.offer
      (λ none. own_offer c (at s.table.slots c.asked.id) (all_at (HasAskerIf s.table.slots) s.calls.calls place c asked there) refl (comes.waits answers none))))
      (step_fits laws.sent s e place c input w k.scenes there can) are (step_says laws.sent s e place c input w k.scenes there can laws.describes)

  -- an input that is no offer
  alone_waits : (c : StandingCall) (input : Input) → FitsInput input → is_offer_input input ≡ false → answer_offer (call_row c.call input s.calls.pool e.now).actions ≡ true → waits_for c ≡ true
  alone_waits c input fits none answers = elim ((call_speaks c.call input s.calls.pool e.now fits).answers answers) [
    | inl offers ↦ absurd (false≢true (sym none ∙ offers))
    | inr waits ↦ waits
  ]

  takes_by_tagged : (place : ℕ) (input : Input) (leg : Option LegDialog) (request : Option AskerValue) (c : Option StandingCall) → slice_get s.calls.calls place ≡ c → FitsInput input → is_offer_input input ≡ false
      → CanCome input (without_offer leg request) → IsRequestTagged s.tokens request → (ms : List Message) → AreMessages (takes_by s.calls s.table (occasion s e) place input leg request c).dressed.sends ms → Tagged ms
  takes_by_tagged place input leg request None there fits none can tag ms are = silent ms are
  takes_by_tagged place input leg request (Some c) there fits none can tag ms are =
      call_tagged place c input (without_offer leg request) there can
      (record { fits = fits; request = tag; offer = λ x is. absurd (none-some x is); waits = λ answers is. alone_waits c input fits none answers }) ms are

  pub takes_tagged : (place : ℕ) (input : Input) (leg : Option LegDialog) (request : Option AskerValue) → FitsInput input → is_offer_input input ≡ false → CanCome input (without_offer leg request) → IsRequestTagged s.tokens request
      → (ms : List Message) → AreMessages (takes_row s.calls s.table (occasion s e) place input leg request).dressed.sends ms → Tagged ms
  unfolding takes_row
  takes_tagged place input leg request fits none can tag ms are = takes_by_tagged place input leg request (slice_get s.calls.calls place) refl fits none can tag ms are

  -- the BYE that comes has the tag of the dialog that it ends
  bye_made : (r : Request) (place : ℕ) (end : End) (c : StandingCall) → slice_get s.calls.calls place ≡ Some c → dialog_rule s.calls.calls r ≡ dialogrules.Leaves place end → IsMade s.tokens (tag_text r.parts.to.params)
  bye_made r place end c there rule =
      let named = (rule_fits s.calls.calls r (dialogrules.Leaves place end) rule).0 c there in
      let tags = call_at s.tokens s.calls.calls place c k.tokens.calls there in
      subst (IsMade s.tokens) (dialog_tag s.tokens c end named.dialog tags named.has ∙ sym named.ours) (end_made s.tokens c end tags)

  pub bye_tagged : (r : Request) (id place : ℕ) (end : End) → dialog_rule s.calls.calls r ≡ dialogrules.Leaves place end → IsRequestTagged s.tokens (Some (asker r e id stateless))
  bye_tagged r id place end rule is =
      let h = counts_by_rule s.calls.calls r (dialogrules.Leaves place end) rule in
      repeats_made s.tokens r.parts stateless (bye_made r place end h.call h.there rule)

  -- ---- an offer inside a call

  offers_by_tagged : (text : List ℕ) (r : Request) (id place : ℕ) (end : End) (method : OfferMethod) (offer : Description) (c : Option StandingCall) → IsSource e.source → message_of text ≡ Ok (Kinds.Request r)
      → described r.headers r.body ≡ Some offer → slice_get s.calls.calls place ≡ c → dialog_rule s.calls.calls r ≡ dialogrules.Offers place end → (ms : List Message)
      → AreMessages (offers_by s.calls s.table (occasion s e) place (inputs.Offer end method (Some offer)) end r id e.source (counts s.calls.calls place end r.parts.cseq.number) c).dressed.sends ms → Tagged ms
  offers_by_tagged text r id place end method offer None from read said there rule ms are = silent ms are
  offers_by_tagged text r id place end method offer (Some c) from read said there rule ms are =
      call_tagged place c (inputs.Offer end method (Some offer)) (offer_coming (counts s.calls.calls place end r.parts.cseq.number) end r id e.source c) there
      (offer_comes laws.describes laws.names s e text r id place end c method offer k.scenes from read there said)
      (record {
        fits = tt;
        request = tt;
        offer = λ x is. subst (λ (p : Parts). is_bye p ≡ false) (ap (λ (v : AskerValue). v.parts) (same_Some _ x is)) (offers_no_bye r.parts (offers_may_offer s.calls.calls r place end rule));
        waits = λ answers is. absurd (none-some _ (sym is));
      }) ms are

  pub offers_tagged : (text : List ℕ) (r : Request) (id place : ℕ) (end : End) (method : OfferMethod) (offer : Description) → IsSource e.source → message_of text ≡ Ok (Kinds.Request r) → described r.headers r.body ≡ Some offer
      → dialog_rule s.calls.calls r ≡ dialogrules.Offers place end → (ms : List Message)
      → AreMessages (offers_row s.calls s.table (occasion s e) place (inputs.Offer end method (Some offer)) end r id e.source).dressed.sends ms → Tagged ms
  unfolding offers_row
  offers_tagged text r id place end method offer from read said rule ms are = offers_by_tagged text r id place end method offer (slice_get s.calls.calls place) from read said refl rule ms are

  -- ---- a call that begins

  first_fit : (offer : Description) (r : Request) (id : ℕ) (contact : Uri) → HaveFitStatuses (first_call_row (first_standing (s.calls.begun + 1) (occasion s e) r id e.source contact).call offer s.calls.pool e.now).actions
  unfolding first_call_row
  first_fit offer r id contact = (tt, (tt, tt))

  begins_by_tagged : (text : List ℕ) (r : Request) (id : ℕ) (to : Uri) (offer : Description) (contact : Option Uri) → IsSource e.source → message_of text ≡ Ok (Kinds.Request r) → target s r e.now ≡ Some to
      → described r.headers r.body ≡ Some offer → reached_at (contacts_of r.headers) ≡ contact → is_bye r.parts ≡ false → (ms : List Message)
      → AreMessages (begins_by s.calls (occasion s e) r id e.source to offer contact).dressed.sends ms → Tagged ms
  begins_by_tagged text r id to offer None from read bound said at_contact no_bye ms are = silent ms are
  begins_by_tagged text r id to offer (Some contact) from read bound said at_contact no_bye ms are =
      let o = occasion s e in
      let step = first_call_row (first_standing (s.calls.begun + 1) o r id e.source contact).call offer s.calls.pool e.now in
      actions_tagged laws.reads (lent_scene (first_scene o (first_asker o r id e.source) r.max_forwards (first_leg o r to) step.description)) t s.tokens tt (λ x is. absurd (none-some x is)) (s.tokens + 3) step.actions
      (first_messages o r id e.source to step).dressed.sends ms (λ answers. no_bye) (first_fit offer r id contact) are
      (first_says laws.sent laws.describes laws.names s e text r id contact to offer k.scenes from read at_contact bound said)

  pub first_tagged : (text : List ℕ) (r : Request) (id : ℕ) (to : Uri) (offer : Description) → IsSource e.source → message_of text ≡ Ok (Kinds.Request r) → target s r e.now ≡ Some to → described r.headers r.body ≡ Some offer
      → is_bye r.parts ≡ false → (ms : List Message) → AreMessages (first_row s.calls (occasion s e) r id e.source to offer).dressed.sends ms → Tagged ms
  unfolding first_row
  first_tagged text r id to offer from read bound said no_bye ms are = begins_by_tagged text r id to offer (reached_at (contacts_of r.headers)) from read bound said refl no_bye ms are

  -- ---- a 2xx that no call takes

  leg_tagged : (leg : Dialog) (list : List Action) → CanAskIn leg → HaveFitStatuses list → (ms : List Message) → AreMessages (messages (fork_scene (occasion s e) leg) None list).dressed.sends ms → Tagged ms
  leg_tagged leg list can fit ms are =
      actions_tagged laws.reads (lent_scene (fork_scene (occasion s e) leg)) t s.tokens tt (λ x is. absurd (none-some x is)) s.tokens list (messages (fork_scene (occasion s e) leg) None list).dressed.sends ms (λ answers. tt) fit are
      (alone_says laws.describes s e leg list k.scenes can fit)

  fork_by_tagged : (asked_parts : Parts) (r : Response) (contact : Option Uri) → ((to : Uri) → contact ≡ Some to → CanAskIn (callers_dialog asked_parts r to)) → (ms : List Message)
      → AreMessages (fork_by s.calls (occasion s e) asked_parts r contact).dressed.sends ms → Tagged ms
  fork_by_tagged asked_parts r None can ms are = silent ms are
  fork_by_tagged asked_parts r (Some to) can ms are = leg_tagged (callers_dialog asked_parts r to) (Ack Callee ∷ Bye Callee ∷ []) (can to refl) (tt, (tt, tt)) ms are

  pub fork_tagged : (text : List ℕ) (r : Response) (id : ℕ) (y : Transaction) → message_of text ≡ Ok (Kinds.Response r) → at s.table.slots id ≡ Some y → is_server y.state ≡ false → (ms : List Message)
      → AreMessages (fork_row s.calls (occasion s e) y.parts r).dressed.sends ms → Tagged ms
  unfolding fork_row
  fork_tagged text r id y read there client ms are =
      fork_by_tagged y.parts r (reached_at (contacts_of r.headers)) (λ to at_to. forked_can laws.names s text r id y to k.scenes read there client at_to) ms are

  late_by_tagged : (asked_parts : Parts) (r : Response) (contact : Option Uri) → ((to : Uri) → contact ≡ Some to → CanAskIn (later_dialog asked_parts r to)) → (ms : List Message)
      → AreMessages (late_by s.calls (occasion s e) asked_parts r contact).dressed.sends ms → Tagged ms
  late_by_tagged asked_parts r None can ms are = silent ms are
  late_by_tagged asked_parts r (Some to) can ms are = leg_tagged (later_dialog asked_parts r to) (Ack Callee ∷ []) (can to refl) (tt, tt) ms are

  pub late_tagged : (text : List ℕ) (r : Response) (id : ℕ) (y : Transaction) → message_of text ≡ Ok (Kinds.Response r) → at s.table.slots id ≡ Some y → is_server y.state ≡ false → (ms : List Message)
      → AreMessages (late_row s.calls (occasion s e) y.parts r).dressed.sends ms → Tagged ms
  unfolding late_row
  late_tagged text r id y read there client ms are =
      late_by_tagged y.parts r (reached_at (contacts_of r.headers)) (λ to at_to. later_can laws.names s text r id y to k.scenes read there client at_to) ms are
