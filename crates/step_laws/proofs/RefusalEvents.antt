-- The event of a refusal for which a call of an agent waits.
use Rattle.std.proofs.Common.{◌≡◌, ◌∙◌, ℕ, List, [], ◌∷◌, None, nat_lt, refl, ap, sym, subst}
use Rattle.std.proofs.lemmas.Bool.{ltb-false}
use Rattle.sip_uri.specs.declared.uri.Addr.{Addr}
use Rattle.sip_message.specs.Words.{class_of}
use Rattle.sip_message.specs.declared.message.Message.TheVariants as Kinds
use Rattle.sip_message.specs.declared.message.Response.{Response}
use Rattle.sip_message.specs.declared.words.Class.TheVariants.{Failure}
use Rattle.transactions.specs.Changes.{change_of}
use Rattle.transactions.specs.Contents.{reception_of}
use Rattle.transactions.specs.declared.change.Entry.{Entry}
use Rattle.transactions.specs.declared.transaction.Transaction.{Transaction}
use Rattle.events.specs.declared.event.Event.{Event}
use Rattle.call_core.specs.CallRows.{call_row}
use Rattle.call_core.specs.Plans.{Step}
use Rattle.call_core.specs.Table.{row_of}
use Rattle.call_core.specs.declared.input.Input.TheVariants as inputs
use Rattle.call_core.specs.declared.signal.Signal.TheVariants as signals
use Rattle.call_rules.specs.declared.responses.ResponseRule.TheVariants as rule
use Rattle.call_steps.specs.Rows.{messages_of, takes_by, takes_row}
use Rattle.call_steps.specs.Values.{ComingValue, without_offer}
use Rattle.calls.specs.declared.standing_call.StandingCall.{StandingCall}
use Rattle.call_messages.specs.declared.scene.Scene.{Scene}
use Rattle.plans.specs.CallRows.{occasion, responds_by, takes}
use Rattle.plans.specs.Effect.{Effect}
use Rattle.plans.specs.Plan.{goes}
use Rattle.plans.specs.declared.setting.Setting.{Setting}
use Rattle.event_rows.specs.Rows.{row}
use Rattle.event_rows.specs.State.{Contents, office}
use Rattle.call_trace.specs.declared.datagram.Datagram.{Datagram}
use Rattle.call_trace.specs.declared.datagram.Message.{Message}
use Rattle.message_laws.proofs.Askers.AskerRows.{failure_by}
use Rattle.message_laws.proofs.QuietEvents.Describing.{BodiesDescribe}
use Rattle.message_laws.proofs.TokenUse.Events.{few_tokens}
use Rattle.message_laws.proofs.Messages.ReadBack.{SentIsRead}
use Rattle.message_laws.proofs.Messages.ReadParts.{response_status}
use Rattle.message_laws.specs.Comings.{CanCome, KnowsScenes}
use Rattle.message_laws.proofs.Traces.Comings.{alone_comes}
use Rattle.message_laws.specs.Messages.{AreMessages}
use Rattle.media_laws.specs.Coming.{scene_at}
use Rattle.media_laws.specs.Heard.{HearsActions}
use Rattle.media_laws.specs.Standing.{AgentStands}
use Rattle.media_laws.proofs.Scenes.HeardActions.{split}
use Rattle.media_laws.proofs.EndTags.HeardSteps.{step_heard}
use Rattle.media_laws.proofs.Scenes.Reading.{Reading}
use Rattle.media_laws.proofs.LateResponses.RuleReasons.{Reason, rule_reason}
use Rattle.media_laws.proofs.CallLines.SignalSteps.{signal_row}
use Rattle.step_laws.specs.Answers.{IsAwaited, IsRefusedTo, PassesRefusal}
use Rattle.step_laws.specs.Coming.{GoesUp}
use Rattle.step_laws.proofs.ComingRows.{setting_of, up_row}
use Rattle.step_laws.proofs.FitAnswers.{asker_there}
use Rattle.step_laws.proofs.Known.{scenes_known}
use Rattle.step_laws.proofs.RefusalLines.{refused_behind, stage_refuses}

module _ (reads : Reading) (describes : BodiesDescribe) (law : SentIsRead) (s : Contents) (event : Event) (scenes : KnowsScenes (office s)) (source : Addr) (bytes : List ℕ) (r : Response) (id : ℕ) (asked : Transaction) (up : GoesUp s event source bytes r id asked) (place status : ℕ) (c : StandingCall) (offered : Transaction) (h : IsAwaited s asked r (rule.Refusal place status) place c offered) (is : status ≡ r.status) (class : class_of r.status ≡ Failure) where
  abbrev e : Setting
  e = setting_of s event source

  abbrev begins : List Entry
  begins = change_of s.table (Kinds.Response r) source ∷ []

  abbrev step : Step
  step = call_row c.call (inputs.Refusal status) s.calls.pool e.now

  abbrev w : ComingValue
  w = without_offer None None

  abbrev scene : Scene
  scene = scene_at (office s) e w c step.description

  is_row : row s event ≡ takes (office s) e begins (reception_of s.table (Kinds.Response r)).send None place (inputs.Refusal status) None
  is_row = up_row s event source bytes r id asked up ∙ ap (responds_by (office s) e r begins (reception_of s.table (Kinds.Response r)).send id asked) h.rule_is

  can_come : CanCome (inputs.Refusal status) w
  can_come =
      subst (λ n. CanCome (inputs.Refusal n) w) (sym is)
      (alone_comes (inputs.Refusal r.status) (ltb-false r.status 300 (failure_by (nat_lt r.status 200) (nat_lt r.status 300) class), (response_status bytes r up.comes.read).high) refl tt)

  -- what the step of the call says
  step_refuses : (ms : List Message) → AreMessages (messages_of s.table (occasion (office s) e) w c step).dressed.sends ms → PassesRefusal status offered ms
  unfolding row_of
  step_refuses ms are =
      let heard = step_heard reads describes law (office s) e place c (inputs.Refusal status) w scenes h.there can_come ms are in
      let line = signal_row c.call h.standing (inputs.Refusal status) (signals.Refusal status) s.calls.pool e.now h.stands refl in
      stage_refuses scene c offered (asker_there (office s) e w c step.description offered refl h.came) s.tokens status h.standing.stage h.standing.offerer h.waits ms (subst (λ actions. HearsActions scene s.tokens actions ms) line.actions heard)

  row_refuses : (ms : List Message) → AreMessages (takes_row s.calls s.table (occasion (office s) e) place (inputs.Refusal status) None None).dressed.sends ms → PassesRefusal status offered ms
  unfolding takes_row
  row_refuses ms are = step_refuses ms (subst (λ o. AreMessages (takes_by s.calls s.table (occasion (office s) e) place (inputs.Refusal status) None None o).dressed.sends ms) h.there are)

  pub refused_to : IsRefusedTo r.status offered (row s event)
  refused_to = record {
    taken = ap (λ (y : Effect). y.plan.taken) is_row;
    sends = λ ms are.
        let sends = (takes_row s.calls s.table (occasion (office s) e) place (inputs.Refusal status) None None).dressed.sends in
        let p = split (goes (reception_of s.table (Kinds.Response r)).send) sends ms (subst (λ (y : Effect). AreMessages y.plan.sends ms) is_row are) in
        subst (λ l. PassesRefusal r.status offered l) (sym p.whole) (refused_behind r.status offered p.first p.rest (subst (λ n. PassesRefusal n offered p.rest) is (row_refuses p.rest p.of_rest)));
  }

pub refusals : Reading → BodiesDescribe → SentIsRead → (s : Contents) (event : Event) (t : List Datagram) (k : ℕ) → AgentStands s t k → (source : Addr) (bytes : List ℕ) (r : Response) (id : ℕ) (asked : Transaction) → GoesUp s event source bytes r id asked
    → (place status : ℕ) (c : StandingCall) (offered : Transaction) → IsAwaited s asked r (rule.Refusal place status) place c offered → IsRefusedTo r.status offered (row s event)
refusals reads describes law s event t k stands source bytes r id asked up place status c offered h =
    let scenes = scenes_known (office s) stands.0 stands.1 t stands.2.1.known (few_tokens s event up.comes.counts) in
    let why = subst (Reason s.calls.calls asked.parts r) h.rule_is (rule_reason s.calls.calls asked.parts r) in
    refused_to reads describes law s event scenes source bytes r id asked up place status c offered h why.1 why.0.is
