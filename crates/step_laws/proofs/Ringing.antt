-- A provisional response to the INVITE that carries a call's open offer: what the step sends.
use Rattle.std.proofs.Common.{◌≡◌, ◌∙◌, ◌++◌, ◌==◌, ℕ, Bool, true, false, cond, nat_lt, List, [], ◌∷◌, Option, Some, None, position, refl, ap, sym, subst}
use Rattle.std.proofs.lemmas.Bool.{false≢true, ltb-true}
use Rattle.std.proofs.lemmas.List.Quantifiers.{position-Some}
use Rattle.sip_uri.specs.declared.uri.Addr.{Addr}
use Rattle.sip_message.specs.Words.{class_of}
use Rattle.sip_message.specs.declared.message.Message.TheVariants as Kinds
use Rattle.sip_message.specs.declared.message.Response.{Response}
use Rattle.sip_message.specs.declared.words.Class.TheVariants as classes
use Rattle.sdp.specs.declared.description.Description.{Description}
use Rattle.transaction_machines.specs.InviteClient.{invite_client_row}
use Rattle.transaction_machines.specs.Machines.{is_server, row_of}
use Rattle.transaction_machines.specs.OtherClient.{other_client_row}
use Rattle.transaction_machines.specs.declared.input.Input.{Input}
use Rattle.transaction_machines.specs.declared.input.Input.TheVariants as machine_inputs
use Rattle.transaction_machines.specs.declared.invite_client.InviteClient.{InviteClient}
use Rattle.transaction_machines.specs.declared.invite_client.InviteClient.TheVariants as invites
use Rattle.transaction_machines.specs.declared.other_client.OtherClient.{OtherClient}
use Rattle.transaction_machines.specs.declared.other_client.OtherClient.TheVariants as others
use Rattle.transaction_machines.specs.declared.state.State.{State}
use Rattle.transaction_machines.specs.declared.state.State.TheVariants as machine
use Rattle.transaction_machines.specs.declared.step.Sending.TheVariants.{Nothing}
use Rattle.transaction_machines.specs.declared.step.Step.{Step as MachineStep}
use Rattle.transactions.specs.Changes.{change_of}
use Rattle.transactions.specs.Contents.{Contents as Table, ack_at, reception_at, reception_by, reception_of, response_input, response_reception}
use Rattle.transactions.specs.Slots.{at, is_answered}
use Rattle.transactions.specs.Transactions.{sent}
use Rattle.transactions.specs.declared.change.Entry.{Entry}
use Rattle.transactions.specs.declared.transaction.Transaction.{Transaction}
use Rattle.events.specs.declared.event.Event.{Event}
use Rattle.call_media.specs.Ends.{other}
use Rattle.call_media.specs.declared.end.End.{End}
use Rattle.call_core.specs.Asked.{asked_row, rings}
use Rattle.call_core.specs.CallRows.{call_row}
use Rattle.call_core.specs.Calls.{awaits_answer}
use Rattle.call_core.specs.Cancelling.{cancelling_row}
use Rattle.call_core.specs.Reasked.{reasked_row}
use Rattle.call_core.specs.Rows.{ringing_time, short_time}
use Rattle.call_core.specs.Table.{row_in}
use Rattle.call_core.specs.declared.action.Action.{Action}
use Rattle.call_core.specs.declared.action.Action.TheVariants.{Provisional, Set}
use Rattle.call_core.specs.declared.action.CallTimer.TheVariants as timers
use Rattle.call_core.specs.declared.input.Input.TheVariants as inputs
use Rattle.call_core.specs.declared.signal.Signal.TheVariants as signals
use Rattle.call_core.specs.declared.stage.Cancelled.TheVariants.{Never, PassedOn, Waits}
use Rattle.call_core.specs.declared.stage.Stage.{Stage}
use Rattle.call_core.specs.declared.stage.Stage.TheVariants as stages
use Rattle.call_core.specs.declared.stage.Standing.{Standing}
use Rattle.call_messages.specs.declared.scene.Asker.{Asker}
use Rattle.call_messages.specs.declared.scene.Scene.{Scene}
use Rattle.call_rules.specs.Responses.{response_rule}
use Rattle.call_rules.specs.declared.responses.ResponseRule.TheVariants as rule
use Rattle.call_steps.specs.Rows.{takes_row}
use Rattle.call_steps.specs.Values.{ComingValue, without_offer}
use Rattle.calls.specs.Finding.{is_cancellable}
use Rattle.calls.specs.declared.standing_call.StandingCall.{StandingCall}
use Rattle.call_trace.specs.declared.datagram.Datagram.{Datagram}
use Rattle.plans.specs.CallRows.{occasion, responds_by}
use Rattle.plans.specs.declared.setting.Setting.{Setting}
use Rattle.event_rows.specs.Rows.{row}
use Rattle.event_rows.specs.State.{Contents, office}
use Rattle.message_laws.specs.Comings.{CanCome, KnowsScenes}
use Rattle.message_laws.proofs.Traces.Comings.{alone_comes}
use Rattle.message_laws.proofs.QuietEvents.Describing.{BodiesDescribe}
use Rattle.message_laws.proofs.TokenUse.Events.{few_tokens}
use Rattle.message_laws.proofs.Messages.ReadBack.{SentIsRead}
use Rattle.message_laws.proofs.Messages.ReadParts.{response_status}
use Rattle.message_laws.proofs.TokenUse.Rows.{answered_client}
use Rattle.media_laws.specs.Coming.{scene_at}
use Rattle.media_laws.specs.Lines.{actions_in}
use Rattle.media_laws.specs.Standing.{AgentStands}
use Rattle.media_laws.proofs.Scenes.Reading.{Reading}
use Rattle.media_laws.proofs.LateResponses.RuleReasons.{Reason, rule_reason}
use Rattle.media_laws.proofs.OfferPairs.Taking.{sets_none}
use Rattle.step_laws.specs.Coming.{GoesUp}
use Rattle.step_laws.specs.Leaving.{IsGoingOn, StandsAt, WithOffer}
use Rattle.step_laws.specs.Ringing.{keeps_cancel, provisional_to}
use Rattle.step_laws.specs.Sending.{Going, Sends, cancels, responds}
use Rattle.step_laws.proofs.Cancels.{CanCancel, can_cancel, cancels_then}
use Rattle.step_laws.proofs.ComingRows.{setting_of, up_row}
use Rattle.step_laws.proofs.FitAnswers.{asker_for, asker_there}
use Rattle.step_laws.proofs.Known.{scenes_known}
use Rattle.step_laws.proofs.StepSends.{offer_came, row_sends, takes_sends}
use Rattle.step_laws.proofs.Telling.{Tells, tells_nothing, then_provisional, then_silent}

-- ---- its transaction sends nothing

abbrev IsSilent : Option MachineStep → Type 0
IsSilent None = Unit {0}
IsSilent (Some step) = step.send ≡ Nothing

invite_silent : (state : InviteClient) → IsSilent (invite_client_row state (machine_inputs.Response classes.Provisional))
unfolding invite_client_row
invite_silent (invites.Calling interval abandoned) = refl
invite_silent invites.Proceeding = refl
invite_silent invites.Completed = tt
invite_silent invites.Accepted = tt

other_silent : (state : OtherClient) → IsSilent (other_client_row state (machine_inputs.Response classes.Provisional))
unfolding other_client_row
other_silent (others.Trying interval) = refl
other_silent others.Proceeding = refl
other_silent others.Completed = tt

machine_silent : (state : State) → is_server state ≡ false → IsSilent (row_of state (machine_inputs.Response classes.Provisional))
unfolding row_of
machine_silent (machine.InviteClient state) client = invite_silent state
machine_silent (machine.InviteServer state) client = absurd (false≢true (sym client))
machine_silent (machine.OtherClient state) client = other_silent state
machine_silent (machine.OtherServer state) client = absurd (false≢true (sym client))

step_silent : (id : ℕ) (x : Transaction) (input : Input) (fresh : Option (List ℕ)) (step : Option MachineStep) → IsSilent step → (reception_by id x input fresh step).send ≡ None
step_silent id x input fresh None h = refl
step_silent id x input fresh (Some step) h = ap (sent x fresh) h

at_silent : (r : Response) (id : ℕ) (o : Option Transaction) → class_of r.status ≡ classes.Provisional → is_answered r.parts o ≡ true → (reception_at id o (response_input r) (ack_at o r)).send ≡ None
at_silent r id None class answers = refl
at_silent r id (Some x) class answers =
    step_silent id x (response_input r) (ack_at (Some x) r) (row_of x.state (response_input r))
    (subst (λ kind. IsSilent (row_of x.state (machine_inputs.Response kind))) (sym class) (machine_silent x.state (answered_client r.parts x answers)))

in_silent : (table : Table) (r : Response) (id : Option ℕ) → position (is_answered r.parts) table.slots ≡ id → class_of r.status ≡ classes.Provisional → (response_reception table r id).send ≡ None
in_silent table r None found class = refl
in_silent table r (Some id) found class = at_silent r id (at table.slots id) class (position-Some (is_answered r.parts) table.slots id None found).1

pub provisional_silent : (table : Table) (r : Response) → class_of r.status ≡ classes.Provisional → (reception_of table (Kinds.Response r)).send ≡ None
unfolding reception_of
provisional_silent table r class = in_silent table r (position (is_answered r.parts) table.slots) refl class

-- ---- the lines

module _ (s : Scene) (o : Asker) (asked : s.offer ≡ Some o) where
  abbrev pub passed : ℕ → List Going
  passed status = cond (status == 100) [] (responds o.parts.now o.source status ∷ [])

  by_hundred : {later : List Action} {what : List Going} (b : Bool) (x : End) (status : ℕ) → Tells s later what → Tells s (cond b [] (Provisional x status ∷ []) ++ later) (cond b [] (responds o.parts.now o.source status ∷ []) ++ what)
  by_hundred true x status next = next
  by_hundred false x status next = then_provisional s o x status asked next

  -- the first one sets the limit
  by_hundred_set : (b : Bool) (x : End) (status limit : ℕ) → Tells s (cond b (Set timers.Limit limit ∷ []) (Provisional x status ∷ Set timers.Limit limit ∷ [])) (cond b [] (responds o.parts.now o.source status ∷ []))
  by_hundred_set true x status limit = then_silent s (Set timers.Limit limit) (λ tokens. sets_none s tokens timers.Limit limit) (tells_nothing s)
  by_hundred_set false x status limit = then_provisional s o x status asked (then_silent s (Set timers.Limit limit) (λ tokens. sets_none s tokens timers.Limit limit) (tells_nothing s))

  by_hundred_alone : (b : Bool) (x : End) (status : ℕ) → Tells s (cond b [] (Provisional x status ∷ [])) (cond b [] (responds o.parts.now o.source status ∷ []))
  by_hundred_alone true x status = tells_nothing s
  by_hundred_alone false x status = then_provisional s o x status asked (tells_nothing s)

  rings_passed : (rung : Bool) (limit : ℕ) (x : End) (status : ℕ) → Tells s (rings rung limit x status) (passed status)
  rings_passed true limit x status = by_hundred_alone (status == 100) x status
  rings_passed false limit x status = by_hundred_set (status == 100) x status limit

  pub stage_passes : (stage : Stage) (x : End) (status : ℕ) → is_cancellable stage ≡ true → keeps_cancel stage ≡ false → Tells s (actions_in (row_in stage x (signals.Provisional status))) (passed status)
  unfolding asked_row reasked_row
  stage_passes (stages.Asked rung) x status can keeps = rings_passed rung ringing_time x status
  stage_passes (stages.Cancelling sent) x status can keeps = absurd (false≢true can)
  stage_passes (stages.Answered interval) x status can keeps = absurd (false≢true can)
  stage_passes stages.Settled x status can keeps = absurd (false≢true can)
  stage_passes (stages.Reasked rung Never) x status can keeps = rings_passed rung short_time x status
  stage_passes (stages.Reasked rung Waits) x status can keeps = absurd (false≢true (sym keeps))
  stage_passes (stages.Reasked rung PassedOn) x status can keeps = rings_passed rung short_time x status
  stage_passes (stages.Reanswered interval) x status can keeps = absurd (false≢true can)
  stage_passes stages.Updating x status can keeps = absurd (false≢true can)
  stage_passes (stages.Ending interval) x status can keeps = absurd (false≢true can)

  pub inside_passes : (went : Transaction) → CanCancel s went → (rung : Bool) (x : End) (status : ℕ)
      → Tells s (actions_in (row_in (stages.Reasked rung Waits) x (signals.Provisional status))) (passed status ++ cancels went ∷ [])
  unfolding reasked_row
  inside_passes went can rung x status = by_hundred (status == 100) x status (cancels_then s went can (other x))

pub given_up_cancels : (s : Scene) (went : Transaction) → CanCancel s went → (x : End) (status : ℕ) → Tells s (actions_in (row_in (stages.Cancelling false) x (signals.Provisional status))) (cancels went ∷ [])
unfolding cancelling_row
given_up_cancels s went can x status = cancels_then s went can (other x)

-- ---- the event

early_by : (a b : Bool) → cond a classes.Provisional (cond b classes.Success classes.Failure) ≡ classes.Provisional → a ≡ true
early_by true b e = refl
early_by false true e = absurd cc
early_by false false e = absurd cc

module _ (reads : Reading) (describes : BodiesDescribe) (law : SentIsRead) (s : Contents) (event : Event) (t : List Datagram) (k : ℕ) (stands : AgentStands s t k) (source : Addr) (bytes : List ℕ) (r : Response) (id : ℕ) (asked : Transaction) (up : GoesUp s event source bytes r id asked) (place : ℕ) (c : StandingCall) (n : Standing) (at_place : StandsAt s place c n) (rule_is : response_rule s.calls.calls asked.parts r ≡ rule.Provisional place r.status) where
  scenes : KnowsScenes (office s)
  scenes = scenes_known (office s) stands.0 stands.1 t stands.2.1.known (few_tokens s event up.comes.counts)

  pub provisional_class : class_of r.status ≡ classes.Provisional
  provisional_class = (subst (Reason s.calls.calls asked.parts r) rule_is (rule_reason s.calls.calls asked.parts r)).0.is

  abbrev e : Setting
  e = setting_of s event source

  abbrev w : ComingValue
  w = without_offer None None

  abbrev begins : List Entry
  begins = change_of s.table (Kinds.Response r) source ∷ []

  abbrev scene : Scene
  scene = scene_at (office s) e w c (call_row c.call (inputs.Provisional r.status) s.calls.pool e.now).description

  pub provisional_can : CanCome (inputs.Provisional r.status) (without_offer None None)
  provisional_can = alone_comes (inputs.Provisional r.status) ((response_status bytes r up.comes.read).low, ltb-true r.status 200 (early_by (nat_lt r.status 200) (nat_lt r.status 300) provisional_class)) refl tt

  sends : (what : List Going) (stage : Stage) → n.stage ≡ stage → Tells scene (actions_in (row_in stage n.offerer (signals.Provisional r.status))) what → Sends what (row s event)
  sends what stage is tells =
      row_sends (row s event) s.acks begins (reception_of s.table (Kinds.Response r)).send None (takes_row s.calls s.table (occasion (office s) e) place (inputs.Provisional r.status) None None) what
      (up_row s event source bytes r id asked up ∙ ap (responds_by (office s) e r begins (reception_of s.table (Kinds.Response r)).send id asked) rule_is) (provisional_silent s.table r provisional_class)
      (takes_sends reads describes law (office s) scenes e place c n at_place.there at_place.stands (inputs.Provisional r.status) (signals.Provisional r.status) refl None None provisional_can what
      (subst (λ x. Tells scene (actions_in (row_in x n.offerer (signals.Provisional r.status))) what) (sym is) tells))

  cancellable_waits : (stage : Stage) → is_cancellable stage ≡ true → awaits_answer stage ≡ true
  cancellable_waits (stages.Asked rung) h = refl
  cancellable_waits (stages.Cancelling sent) h = absurd (false≢true h)
  cancellable_waits (stages.Answered interval) h = absurd (false≢true h)
  cancellable_waits stages.Settled h = absurd (false≢true h)
  cancellable_waits (stages.Reasked rung cancelled) h = refl
  cancellable_waits (stages.Reanswered interval) h = absurd (false≢true h)
  cancellable_waits stages.Updating h = absurd (false≢true h)
  cancellable_waits (stages.Ending interval) h = absurd (false≢true h)

  abbrev description : Option Description
  description = (call_row c.call (inputs.Provisional r.status) s.calls.pool e.now).description

  pub passes : is_cancellable n.stage ≡ true → keeps_cancel n.stage ≡ false → WithOffer s c (λ offered. Sends (provisional_to c offered r.status) (row s event))
  passes waits keeps =
      let o = offer_came (office s) scenes place c n at_place.there at_place.stands (cancellable_waits n.stage waits) in
      (o.0, o.1, sends _ n.stage refl (stage_passes scene (asker_for c o.0) (asker_there (office s) e w c description o.0 refl o.1) n.stage n.offerer r.status waits keeps))

  pub cancels_inside : (rung : Bool) → n.stage ≡ stages.Reasked rung Waits → (went : Transaction) → IsGoingOn s c went → WithOffer s c (λ offered. Sends (provisional_to c offered r.status ++ cancels went ∷ []) (row s event))
  cancels_inside rung is went on =
      let o = offer_came (office s) scenes place c n at_place.there at_place.stands (ap awaits_answer is) in (
        o.0,
        o.1,
        sends _ (stages.Reasked rung Waits) is
            (inside_passes scene (asker_for c o.0) (asker_there (office s) e w c description o.0 refl o.1) went (can_cancel s scenes c went on e w description) rung n.offerer r.status),
      )

  pub cancels_first : n.stage ≡ stages.Cancelling false → (went : Transaction) → IsGoingOn s c went → Sends (cancels went ∷ []) (row s event)
  cancels_first is went on = sends _ (stages.Cancelling false) is (given_up_cancels scene went (can_cancel s scenes c went on e w description) n.offerer r.status)
