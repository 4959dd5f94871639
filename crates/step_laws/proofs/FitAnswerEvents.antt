-- The event of a 2xx with an answer that fits the open offer of a call that an agent waits for.
use Rattle.std.proofs.Common.{◌≡◌, ◌∙◌, ℕ, true, cond, is_some, List, [], ◌∷◌, ◌++◌, Option, Some, None, ap, sym, subst}
use Rattle.std.specs.List.{All}
use Rattle.std.specs.Prelude.{remove, slice_get, slice_set}
use Rattle.std.proofs.lemmas.Option.{same_Some}
use Rattle.sip_uri.specs.declared.uri.Addr.{Addr}
use Rattle.sip_message.specs.Words.{class_of}
use Rattle.sip_message.specs.declared.message.Message.TheVariants as Kinds
use Rattle.sip_message.specs.declared.message.Response.{Response}
use Rattle.sip_message.specs.declared.words.Class.TheVariants.{Success}
use Rattle.sdp.specs.declared.description.Description.{Description}
use Rattle.offer_answer.specs.Alike.{Alike}
use Rattle.transactions.specs.Changes.{change_of}
use Rattle.transactions.specs.Contents.{reception_of}
use Rattle.transactions.specs.declared.change.Entry.{Entry}
use Rattle.transactions.specs.declared.outcome.Outgoing.{Outgoing}
use Rattle.transactions.specs.declared.transaction.Transaction.{Transaction}
use Rattle.events.specs.declared.event.Event.{Event}
use Rattle.events.specs.declared.sent.Sent.{Sent}
use Rattle.call_media.specs.Answers.{answer_sent}
use Rattle.call_core.specs.CallRows.{call_row, is_fit}
use Rattle.call_core.specs.Plans.{Step}
use Rattle.call_core.specs.declared.input.Input.{Input}
use Rattle.call_core.specs.declared.input.Input.TheVariants as inputs
use Rattle.call_core.specs.declared.stage.Standing.{Standing}
use Rattle.call_rules.specs.Content.{described}
use Rattle.call_rules.specs.declared.responses.ResponseRule.TheVariants as rule
use Rattle.call_steps.specs.Effects as steps
use Rattle.call_steps.specs.Rows.{answers_leg, does, messages_of, takes_by, takes_row}
use Rattle.call_steps.specs.Values.{ComingValue, without_offer}
use Rattle.call_steps.specs.declared.messages.StepMessages.{StepMessages}
use Rattle.calls.specs.declared.standing_call.StandingCall.{StandingCall}
use Rattle.plans.specs.CallRows.{occasion, responds_by, takes}
use Rattle.plans.specs.Effect.{Effect}
use Rattle.plans.specs.Plan.{goes}
use Rattle.plans.specs.declared.setting.Setting.{Setting}
use Rattle.event_rows.specs.Rows.{after, row}
use Rattle.event_rows.specs.State.{Contents, after_event, office}
use Rattle.call_trace.specs.declared.call.Call.{Call}
use Rattle.call_trace.specs.declared.datagram.Datagram.{Datagram}
use Rattle.call_trace.specs.declared.datagram.Message.{Message}
use Rattle.call_trace.specs.Lives.{Stands}
use Rattle.call_trace.specs.Messages.{offering}
use Rattle.message_laws.specs.OpenRequests.{HasAsked}
use Rattle.message_laws.proofs.StandingCalls.Asking.{all_asked}
use Rattle.message_laws.proofs.QuietEvents.Describing.{BodiesDescribe}
use Rattle.message_laws.proofs.TokenUse.Events.{few_tokens}
use Rattle.message_laws.proofs.Messages.ReadBack.{SentIsRead}
use Rattle.message_laws.specs.Serving.{KnowsServing}
use Rattle.message_laws.specs.Messages.{AreMessages}
use Rattle.media_laws.specs.FitSteps.{IsFitStep}
use Rattle.media_laws.specs.Going.{put_as}
use Rattle.media_laws.specs.Responding.{RespondsToOffer}
use Rattle.media_laws.specs.Standing.{AgentStands}
use Rattle.media_laws.specs.Taking.{KnowsLegs}
use Rattle.media_laws.specs.Ties.{AreTied}
use Rattle.media_laws.proofs.OfferPairs.FirstAnswers.{ReadingLaws}
use Rattle.media_laws.proofs.Scenes.FitSteps.{fit_row, fit_talks}
use Rattle.media_laws.proofs.Scenes.GoingOn.{stands_by}
use Rattle.media_laws.proofs.CallLines.LineSteps.{got_set}
use Rattle.media_laws.proofs.Scenes.Reading.{Reading}
use Rattle.media_laws.proofs.LateResponses.RuleReasons.{Reason, rule_reason}
use Rattle.media_laws.proofs.Scenes.Silence.{success_silent}
use Rattle.step_laws.specs.Answers.{IsAnsweredTo, IsAwaited, IsFitAnswer, PassesAnswer}
use Rattle.step_laws.specs.Coming.{GoesUp}
use Rattle.step_laws.proofs.AlikeOffers.{Serves, answer_alike}
use Rattle.step_laws.proofs.ComingRows.{setting_of, up_row}
use Rattle.step_laws.proofs.FitAnswerRows.{answer_passes}
use Rattle.step_laws.proofs.GoingUp.{answered_up}
use Rattle.step_laws.proofs.Known.{tied_of}

module _ (reads : Reading) (laws : ReadingLaws) (describes : BodiesDescribe) (law : SentIsRead) (serves : Serves) (s : Contents) (event : Event) (begun : List Transaction) (sent : List Sent) (t : List Datagram) (old : List Call) (k : ℕ) (serving : KnowsServing (office s)) (tied : AreTied (office s) begun sent t old) (requests : All (HasAsked begun) s.calls.calls) (trace_stands : Stands offering old k t) (knows : KnowsLegs (office s)) (source : Addr) (bytes : List ℕ) (r : Response) (id : ℕ) (asked : Transaction) (up : GoesUp s event source bytes r id asked) (place : ℕ) (c : StandingCall) (offered : Transaction) (h : IsAwaited s asked r (rule.Answer place) place c offered) (answer : Description) (f : IsFitAnswer c r answer) (to : RespondsToOffer (office s) r id asked c) (class : class_of r.status ≡ Success) where
  abbrev e : Setting
  e = setting_of s event source

  abbrev begins : List Entry
  begins = change_of s.table (Kinds.Response r) source ∷ []

  fit : is_fit c.call c.call.media.offer (described r.headers r.body) ≡ true
  fit = ap (is_fit c.call c.call.media.offer) f.described ∙ f.fit

  abbrev input : Input
  input = inputs.Answer (described r.headers r.body)

  abbrev step : Step
  step = call_row c.call input s.calls.pool e.now

  abbrev fits : IsFitStep c.call h.standing (described r.headers r.body) step
  fits = fit_row c.call h.standing s.calls.pool e.now (described r.headers r.body) h.stands h.waits fit

  abbrev w : ComingValue
  w = without_offer (answers_leg s.calls.calls place asked.parts r) None

  abbrev said : StepMessages
  said = messages_of s.table (occasion (office s) e) w c step

  abbrev new : StandingCall
  new = put_as w said step.call c

  abbrev Does : steps.Effect
  Does = does s.calls s.table (occasion (office s) e) place w c step

  -- ---- the row

  abbrev Takes : Effect
  Takes = takes (office s) e begins (reception_of s.table (Kinds.Response r)).send (Some id) place input w.leg

  is_row : row s event ≡ Takes
  is_row = up_row s event source bytes r id asked up ∙ ap (responds_by (office s) e r begins (reception_of s.table (Kinds.Response r)).send id asked) h.rule_is

  takes_is : takes_row s.calls s.table (occasion (office s) e) place input w.leg None ≡ Does
  unfolding takes_row
  takes_is = ap (takes_by s.calls s.table (occasion (office s) e) place input w.leg None) h.there

  -- ---- the call afterwards

  goes_on : (m : Standing) × (step.call.standing ≡ Some m)
  goes_on = let talks = fit_talks h.standing h.waits in (talks.standing, fits.next ∙ talks.is)

  calls_are : (after s event).calls.calls ≡ slice_set s.calls.calls place new
  unfolding after_event
  calls_are =
      ap (λ (y : Effect). y.calls.standing.calls) is_row ∙ (ap (λ (y : steps.Effect). y.outcome.standing.calls) takes_is
      ∙ ap (λ (o : Option Standing). cond (is_some o) (slice_set s.calls.calls place new) (remove s.calls.calls place)) goes_on.1)

  alike : Alike fits.answer (answer_sent c.call.media fits.offer fits.answer)
  alike =
      answer_alike (office (after s event)) (serves s event serving) place new (subst (λ l. slice_get l place ≡ Some new) (sym calls_are) (got_set s.calls.calls place c new h.there)) _
      ((stands_by w said step.call c).session ∙ fits.session)

  -- ---- what goes

  sent_are : (ms : List Message) → AreMessages (row s event).plan.sends ms → AreMessages said.dressed.sends ms
  sent_are ms are =
      let silent = success_silent s.table r class in
      let whole = subst (λ (y : Effect). AreMessages y.plan.sends ms) is_row are in
      let step_sends = (takes_row s.calls s.table (occasion (office s) e) place input w.leg None).dressed.sends in
      let own = subst (λ (o : Option Outgoing). AreMessages (goes o ++ step_sends) ms) silent whole in
      subst (λ (y : steps.Effect). AreMessages y.dressed.sends ms) takes_is own

  pub answered_to : IsAnsweredTo asked offered answer (row s event)
  answered_to =
      let same : fits.answer ≡ answer = same_Some fits.answer answer (sym fits.said ∙ f.described) in
      record {
        taken = ap (λ (y : Effect). y.plan.taken) is_row;
        sends = λ ms are.
            subst (λ x. PassesAnswer asked offered x ms) same
            (answer_passes reads laws describes law (office s) begun sent t old k tied requests trace_stands knows e place c h.standing h.there h.stands h.waits bytes r up.comes.read id asked to up.reached class offered h.came fit alike ms (sent_are ms are));
      }

-- why a call waits for it
pub responds_of : (s : Contents) (event : Event) (source : Addr) (bytes : List ℕ) (r : Response) (id : ℕ) (asked : Transaction) → GoesUp s event source bytes r id asked → (place : ℕ) (c : StandingCall)
    → slice_get s.calls.calls place ≡ Some c → Reason s.calls.calls asked.parts r (rule.Answer place) → RespondsToOffer (office s) r id asked c
responds_of s event source bytes r id asked up place c there why =
    let same : why.call ≡ c = same_Some why.call c (sym why.there ∙ there) in
    subst (RespondsToOffer (office s) r id asked) same
    (record { there = up.stands; answers = answered_up s.table r id asked up.up up.stands; offers = why.waits.offers; tag = why.waits.tag; opens = why.waits.waits })

pub fit_answers : Reading → ReadingLaws → BodiesDescribe → SentIsRead → Serves → (s : Contents) (event : Event) (t : List Datagram) (k : ℕ) → AgentStands s t k → (source : Addr) (bytes : List ℕ) (r : Response) (id : ℕ) (asked : Transaction)
    → GoesUp s event source bytes r id asked → (place : ℕ) (c : StandingCall) (offered : Transaction) → IsAwaited s asked r (rule.Answer place) place c offered → (answer : Description) → IsFitAnswer c r answer → IsAnsweredTo asked offered answer (row s event)
fit_answers reads laws describes law serves s event t k stands source bytes r id asked up place c offered h answer f =
    let held = stands.2.1 in
    let known = held.known in
    let tied = tied_of s stands.0 stands.1 t stands.2.0 k held (few_tokens s event up.comes.counts) in
    let why = subst (Reason s.calls.calls asked.parts r) h.rule_is (rule_reason s.calls.calls asked.parts r) in
    answered_to reads laws describes law serves s event stands.0 stands.1 t stands.2.0 k known.serving tied (all_asked s stands.0 known.callees known.requests) held.stands
    (record { dialogs = known.dialogs; callees = known.callees; left = known.left }) source bytes r id asked up place c offered h answer f (responds_of s event source bytes r id asked up place c h.there why) why.is
