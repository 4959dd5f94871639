-- An offer inside a call that is passed on, as the agent's row has it: what the call does, its standing then, and the
-- transactions that begin.
use Rattle.std.proofs.Common.{◌≡◌, ◌∙◌, ℕ, Bool, true, false, cond, ◌||◌, is_some, List, ◌++◌, codes, Option, Some, None, Ok, refl, sym, ap, subst}
use Rattle.std.specs.Prelude.{nat_eq}
use Rattle.std.specs.Cmp.Lexicographic.{bytes_decides, pointwise}
use Rattle.std.proofs.lemmas.Bool.{false≢true}
use Rattle.events.specs.declared.sent.Sent.{Sent}
use Rattle.sip_message.specs.Read.{message_of}
use Rattle.sip_message.specs.declared.message.Message.TheVariants as Kinds
use Rattle.sip_message.specs.declared.message.Request.{Request}
use Rattle.sdp.specs.declared.description.Description.{Description}
use Rattle.dialogs.specs.declared.state.Dialog.{Dialog}
use Rattle.transaction_machines.specs.Machines.{is_server}
use Rattle.transactions.specs.declared.transaction.Transaction.{Transaction}
use Rattle.call_media.specs.Ends.{other}
use Rattle.call_media.specs.declared.end.End.{End}
use Rattle.call_media.specs.declared.end.End.TheVariants.{Callee, Caller}
use Rattle.call_core.specs.CallRows.{call_row}
use Rattle.call_core.specs.Calls.{dialog_of, holds_in}
use Rattle.call_core.specs.Plans.{Step}
use Rattle.call_core.specs.declared.input.Input.{Input}
use Rattle.call_core.specs.declared.input.Input.TheVariants as inputs
use Rattle.call_core.specs.declared.signal.OfferMethod.{OfferMethod}
use Rattle.call_core.specs.declared.signal.OfferMethod.TheVariants.{Invite, Update}
use Rattle.call_core.specs.declared.stage.Stage.TheVariants as stages
use Rattle.call_core.specs.declared.stage.Standing.{Standing}
use Rattle.calls.specs.declared.standing_call.StandingCall.{StandingCall}
use Rattle.call_rules.specs.Offers.{is_settled}
use Rattle.call_rules.specs.Responses.{awaits_final}
use Rattle.call_rules.specs.Speaking.{is_invite, is_update, may_offer}
use Rattle.call_steps.specs.Effects as steps
use Rattle.call_steps.specs.Rows.{counts, does, messages_of, offer_coming, offers_by, offers_row}
use Rattle.call_steps.specs.Scenes.{passed_id, scene}
use Rattle.call_steps.specs.Values.{ComingValue}
use Rattle.call_steps.specs.declared.messages.StepMessages.{StepMessages}
use Rattle.plans.specs.CallRows.{occasion, offer_method}
use Rattle.plans.specs.Office.{Office}
use Rattle.plans.specs.declared.setting.Setting.{Setting}
use Rattle.responses.specs.Words.{is_method}
use Rattle.call_trace.specs.declared.call.Call.{Call}
use Rattle.call_trace.specs.declared.datagram.Datagram.{Datagram}
use Rattle.call_trace.specs.Messages.{invite, update}
use Rattle.message_laws.specs.CalleeDialogs.{HasCallee, is_unanswered}
use Rattle.message_laws.specs.Carried.{has_leg}
use Rattle.message_laws.specs.Numbers.{begun_of}
use Rattle.message_laws.specs.OpenRequests.{IsAmong, IsOpenRequest}
use Rattle.message_laws.specs.Sound.{HasSoundLegs}
use Rattle.message_laws.proofs.AwaitedOffers.Awaiting.{all_at}
use Rattle.message_laws.proofs.AwaitedOffers.Coming.{OpensIn}
use Rattle.message_laws.proofs.QuietEvents.Describing.{BodiesDescribe}
use Rattle.message_laws.proofs.StandingCalls.OpenRequests.{opens_among, opens_right}
use Rattle.message_laws.proofs.Messages.ReadBodies.{body_read}
use Rattle.message_laws.proofs.Messages.ReadParts.{method_is, same_method}
use Rattle.message_laws.proofs.StandingCalls.Reading.{Reading}
use Rattle.message_laws.proofs.StandingCalls.SoundCalls.{counts_sound}
use Rattle.message_laws.proofs.AwaitedOffers.WaitPassed.{passes_settled, settled_stage}
use Rattle.message_laws.proofs.StandingCalls.LowCalls.{counts_low}
use Rattle.message_laws.specs.Kinds.{AreBegun}
use Rattle.message_laws.proofs.Traces.Effects.{ground, is_ready, says_step}
use Rattle.message_laws.proofs.AwaitedOffers.OwnOpens.{step_own}
use Rattle.message_laws.proofs.Traces.Receptions.{message_begins_none, message_keeps, opens_of}
use Rattle.message_laws.proofs.Traces.SentKinds.{known}
use Rattle.message_laws.proofs.Traces.StepSays.{hops_low, offers_says}
use Rattle.media_laws.specs.Coming.{FitsComing}
use Rattle.media_laws.specs.Going.{KeepsDialogs, id_of, put_as}
use Rattle.media_laws.proofs.Scenes.Fitting.{counts_fits}
use Rattle.media_laws.proofs.Scenes.GoingOn.{dialogs_go_on, stands_by}
use Rattle.media_laws.specs.Taking.{KnowsLegs}
use Rattle.media_laws.proofs.Scenes.ListedStages.{dialog_there}
use Rattle.media_laws.specs.Ties.{AreTied}
use Rattle.media_laws.specs.Beginning.{entries_of}
use Rattle.media_laws.specs.Offering.{IsLaterOffer}
use Rattle.media_laws.proofs.OfferPairs.OfferSteps.{IsOfferStep, offer_row, offer_stage}
use Rattle.media_laws.proofs.OfferPairs.Opening.{call_opens}

-- ---- its method

abbrev pub offer_name : OfferMethod → List ℕ
offer_name Invite = invite
offer_name Update = update

update_by : (a b : Bool) → a ≡ false → (a || b) ≡ true → b ≡ true
update_by true b none h = absurd (false≢true (sym none))
update_by false b none h = h

pub named_by : (bytes : List ℕ) (r : Request) → message_of bytes ≡ Ok (Kinds.Request r) → may_offer r.parts ≡ true → (b : Bool) → is_method (codes "INVITE") r ≡ b → r.parts.cseq.method ≡ offer_name (cond b Invite Update)
named_by bytes r read may true is = method_is bytes r (codes "INVITE") read is
named_by bytes r read may false is =
    let none : is_invite r.parts ≡ false = subst (λ (name : List ℕ). pointwise nat_eq name (codes "INVITE") ≡ false) (sym (same_method bytes r read)) is in
    (bytes_decides r.parts.cseq.method update).0 (update_by (is_invite r.parts) (is_update r.parts) none may)

-- ---- the standing of a settled call

pub stands_settled : (o : Option Standing) → holds_in is_settled o ≡ true → (n : Standing) × (o ≡ Some n) × (n.stage ≡ stages.Settled)
stands_settled None h = absurd (false≢true h)
stands_settled (Some n) h = (n, refl, settled_stage n.stage h)

waits_then : (method : OfferMethod) → awaits_final (offer_stage method) ≡ true
waits_then Invite = refl
waits_then Update = refl

leg_by : (a b : Option Dialog) (old : Dialog) (standing : Option Standing) → id_of b ≡ id_of a → a ≡ Some old → has_leg b standing ≡ true
leg_by None b old standing same is = absurd cc
leg_by (Some a) None old standing same is = absurd cc
leg_by (Some a) (Some b) old standing same is = refl

leg_after : (c new : StandingCall) (end : End) (old : Dialog) (standing : Option Standing) → KeepsDialogs c new → dialog_of end c.call ≡ Some old → has_leg (dialog_of end new.call) standing ≡ true
leg_after c new Caller old standing keeps is = refl
leg_after c new Callee old standing keeps is = leg_by c.call.callee new.call.callee old standing keeps.callee is

module _ (names : Reading) (describes : BodiesDescribe) (s : Office) (begun : List Transaction) (sent : List Sent) (t : List Datagram) (calls : List Call) (tied : AreTied s begun sent t calls) (knows : KnowsLegs s) (e : Setting) (bytes : List ℕ) (r : Request) (id : ℕ) (read : message_of bytes ≡ Ok (Kinds.Request r)) (place : ℕ) (end : End) (c : StandingCall) (offer : Description) (p : IsLaterOffer s r place end c offer) where
  abbrev pub coming : ComingValue
  coming = offer_coming (counts s.calls.calls place end r.parts.cseq.number) end r id e.source c

  abbrev pub offered : Input
  offered = inputs.Offer end (offer_method r) (Some offer)

  abbrev pub later_step : Step
  later_step = call_row c.call offered s.calls.pool e.now

  abbrev pub later_said : StepMessages
  later_said = messages_of s.table (occasion s e) coming c later_step

  abbrev pub later_call : StandingCall
  later_call = put_as coming later_said later_step.call c

  pub later_settled : holds_in is_settled c.call.standing ≡ true
  later_settled = passes_settled r end c.call p.passes

  pub later_line : IsOfferStep c.call end (offer_method r) offer s.calls.pool e.now later_step
  later_line = offer_row c.call end (offer_method r) offer s.calls.pool e.now later_settled

  later_sound : HasSoundLegs c
  later_sound = all_at HasSoundLegs s.calls.calls place c knows.dialogs.calls p.there

  pub later_fits : FitsComing c coming.leg
  later_fits = counts_fits s.calls.calls place end r.parts.cseq.number c p.there later_sound

  pub later_stands : later_call.call.standing ≡ Some (record { offerer = end; stage = offer_stage (offer_method r) })
  later_stands = (stands_by coming later_said later_step.call c).standing ∙ later_line.next

  -- the dialog with each end
  pub later_dialog : (x : End) → (old : Dialog) × (dialog_of x c.call ≡ Some old)
  later_dialog x =
      let n = stands_settled c.call.standing later_settled in
      dialog_there c n.0 x (all_at HasCallee s.calls.calls place c knows.callees.calls p.there) n.1 (ap is_unanswered n.2)

  -- the row of the agent
  pub later_row : offers_row s.calls s.table (occasion s e) place offered end r id e.source ≡ does s.calls s.table (occasion s e) place coming c later_step
  unfolding offers_row
  later_row = ap (offers_by s.calls s.table (occasion s e) place offered end r id e.source (counts s.calls.calls place end r.parts.cseq.number)) p.there

  -- ---- what begins

  pub later_begun : AreBegun (entries_of s e r ++ later_said.dressed.changes) later_said.dressed.sends
  later_begun =
      let ready = is_ready sent s (known sent s tied.tokens tied.again tied.scenes.askers tied.scenes.dialogs tied.scenes.descriptions tied.scenes.clients) tied.scenes.few in
      let says = offers_says sent s.calls s.table (occasion s e) place offered end r id e.source (ground sent s ready e)
      (record { sound = counts_sound s.calls.calls place end r.parts.cseq.number tied.scenes.dialogs.calls; low = counts_low s.calls.calls place end r.parts.cseq.number tied.scenes.clients.calls })
      (hops_low bytes r (names.message bytes (Kinds.Request r) read)) (body_read describes bytes (Kinds.Request r) offer read p.described) in
      let whole = says_step sent s.tokens (entries_of s e r) None (offers_row s.calls s.table (occasion s e) place offered end r id e.source) tt (message_begins_none s e (Kinds.Request r)) (message_keeps s e (Kinds.Request r)) says in
      subst (λ (y : steps.Effect). AreBegun (entries_of s e r ++ y.dressed.changes) y.dressed.sends) later_row whole.begun

  pub later_own : (u : Transaction) → IsAmong (begun_of later_said.dressed.changes) u → is_server u.state ≡ false
  later_own u among = step_own (scene s.table (occasion s e) coming c later_step.description) (passed_id s.table c) later_step.actions u (opens_of later_said.dressed.changes u among)

  -- one of them is its open offer
  pub later_request : (more : List Transaction) → more ≡ begun_of (entries_of s e r ++ later_said.dressed.changes) → (u : Transaction) × IsAmong more u × IsOpenRequest later_call u
  later_request more is =
      let among : (u : Transaction) → OpensIn u later_said.dressed.changes → IsAmong more u = λ u opens.
      subst (λ l. IsAmong l u) (sym is) (opens_among (entries_of s e r ++ later_said.dressed.changes) u (opens_right u (entries_of s e r) later_said.dressed.changes opens)) in
      let old = later_dialog (other end) in
      let has = call_opens s.calls s.table (occasion s e) place end (offer_method r) offer r id e.source c p.there later_settled tied.tokens.calls later_sound p.numbered (ap is_some later_line.next) more among in
      has (record { offerer = end; stage = offer_stage (offer_method r) }) later_stands (waits_then (offer_method r))
      (leg_after c later_call (other end) old.0 (Some (record { offerer = end; stage = offer_stage (offer_method r) })) (dialogs_go_on coming later_said c offered s.calls.pool e.now later_fits) old.1)
