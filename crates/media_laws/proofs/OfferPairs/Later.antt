-- An offer inside a call that is passed on: it is a move, and the trace's calls show the server's afterwards.
use Rattle.std.proofs.Common.{◌≡◌, ◌∙◌, ℕ, ◌+◌, ◌≤◌, ◌<◌, ◌^◌, Bool, true, false, cond, not, is_some, List, ◌++◌, Option, Some, None, Ok, refl, sym, ap, subst, arith, codes}
use Rattle.std.specs.Prelude.{remove, slice_get, slice_set}
use Rattle.std.specs.Option.{option_copied}
use Rattle.events.specs.declared.sent.Sent.{Sent}
use Rattle.sip_message.specs.Read.{message_of}
use Rattle.sip_message.specs.declared.message.Message.TheVariants as Kinds
use Rattle.sip_message.specs.declared.message.Request.{Request}
use Rattle.sdp.specs.declared.description.Description.{Description}
use Rattle.transactions.specs.Changes.{entered_all}
use Rattle.transactions.specs.declared.transaction.Transaction.{Transaction}
use Rattle.call_media.specs.Ends.{other}
use Rattle.call_media.specs.Offers.{opened}
use Rattle.call_media.specs.declared.end.End.{End}
use Rattle.call_media.specs.declared.end.End.TheVariants.{Callee, Caller}
use Rattle.call_media.specs.declared.session.OpenOffer.{OpenOffer}
use Rattle.call_core.specs.Calls.{awaits_answer, holds_in}
use Rattle.call_core.specs.Settled.{settled_row}
use Rattle.call_core.specs.declared.signal.OfferMethod.{OfferMethod}
use Rattle.call_core.specs.declared.signal.OfferMethod.TheVariants.{Invite, Update}
use Rattle.call_core.specs.declared.signal.Signal.TheVariants as signals
use Rattle.call_core.specs.declared.stage.Stage.TheVariants as stages
use Rattle.call_core.specs.declared.stage.Standing.{Standing}
use Rattle.calls.specs.declared.standing_call.OfferRequest.{OfferRequest}
use Rattle.calls.specs.declared.standing_call.StandingCall.{StandingCall}
use Rattle.call_steps.specs.Rows.{does, taken_offer}
use Rattle.call_messages.specs.declared.scene.Scene.{Scene}
use Rattle.plans.specs.CallRows.{occasion, offer_method, passes, with_step}
use Rattle.plans.specs.Effect.{Effect}
use Rattle.plans.specs.Office.{Office}
use Rattle.plans.specs.declared.setting.Setting.{Setting}
use Rattle.responses.specs.Words.{is_method}
use Rattle.call_trace.specs.declared.call.Call.{Call}
use Rattle.call_trace.specs.declared.call.Offer.{Offer}
use Rattle.call_trace.specs.declared.call.Settled.{Settled}
use Rattle.call_trace.specs.declared.call.Stage.TheVariants as traces
use Rattle.call_trace.specs.declared.datagram.Dialog.{Dialog}
use Rattle.dialogs.specs.Counting.{IsAbove}
use Rattle.call_core.specs.Plans.{Step}
use Rattle.call_steps.specs.Values.{ComingValue}
use Rattle.call_steps.specs.declared.messages.StepMessages.{StepMessages}
use Rattle.call_trace.specs.declared.datagram.Datagram.{Datagram}
use Rattle.call_trace.specs.declared.datagram.Message.{Message}
use Rattle.call_trace.specs.Events.{passed}
use Rattle.call_trace.specs.Lives.{Stands}
use Rattle.call_trace.specs.Messages.{offering}
use Rattle.call_trace.specs.Moves.{Move, reoffered}
use Rattle.call_trace.specs.Stands.{AllApart, leg}
use Rattle.trace_reading.specs.Message.{trace_message}
use Rattle.message_laws.specs.Addresses.{IsSource}
use Rattle.message_laws.specs.Askers.{IsServed, IsUnanswered as WaitsAt}
use Rattle.message_laws.specs.Numbers.{begun_of}
use Rattle.message_laws.specs.OpenRequests.{IsAmong}
use Rattle.message_laws.proofs.Askers.AskedCalls.{at_place}
use Rattle.message_laws.proofs.AwaitedOffers.Carrying.{lent_text}
use Rattle.message_laws.proofs.QuietEvents.Describing.{BodiesDescribe}
use Rattle.message_laws.proofs.Messages.ReadBack.{SentIsRead}
use Rattle.message_laws.proofs.StandingCalls.Reaching.{offers_may_offer}
use Rattle.message_laws.proofs.StandingCalls.Reading.{Reading as ReadsNames}
use Rattle.message_laws.proofs.AwaitedOffers.Awaiting.{all_at}
use Rattle.message_laws.specs.Sound.{HasSoundLegs}
use Rattle.message_laws.proofs.Traces.Comings.{offer_comes}
use Rattle.message_laws.specs.Messages.{AreMessages, IsRequestOf, IsTakenOf}
use Rattle.media_laws.specs.Coming.{scene_at}
use Rattle.media_laws.proofs.Scenes.GoingOn.{asked_new, legs_go_on, stands_by}
use Rattle.media_laws.proofs.Scenes.Leaving.{request_of}
use Rattle.media_laws.proofs.Scenes.Legs.{asked_in, leg_shown}
use Rattle.media_laws.proofs.Scenes.OfferRequests.{offers_in, offers_to}
use Rattle.media_laws.specs.Taking.{KnowsLegs}
use Rattle.media_laws.proofs.Scenes.ListedStages.{is_at, stage_shown}
use Rattle.media_laws.specs.Afterwards.{HasSpot, IsLeftOr}
use Rattle.media_laws.specs.Heard.{HearsActions}
use Rattle.media_laws.specs.Lines.{Answered, IsAt, actions_in}
use Rattle.media_laws.specs.Listing.{Listed, is_listed_stage, listing}
use Rattle.media_laws.specs.Said.{OfferHeard, Offers}
use Rattle.media_laws.specs.Scenes.{AreOwn, AskedLeg}
use Rattle.media_laws.specs.Shows.{Came, IsUnanswered, Went, ShowsCall, ShowsListing, ShowsOpen, ShowsSettled, ShowsStage, ShowsStanding, is_caller}
use Rattle.media_laws.proofs.OtherCalls.Afterwards.{one_listed}
use Rattle.media_laws.proofs.OfferPairs.FitLines.{invite_passed, update_passed}
use Rattle.media_laws.proofs.Scenes.Reading.{Reading}
use Rattle.media_laws.proofs.OtherCalls.Spots.{has_spot}
use Rattle.media_laws.proofs.OtherCalls.Unanswered.{leg_tag, stays_unanswered}
use Rattle.media_laws.specs.Ties.{AreTied}
use Rattle.media_laws.proofs.Scenes.ReadTexts.{taken_is}
use Rattle.media_laws.specs.Steps.{GoOn, IsAfter, StandsShown}
use Rattle.media_laws.proofs.EndTags.HeardSteps.{step_heard}
use Rattle.media_laws.proofs.CallLines.LineSteps.{got_set}
use Rattle.media_laws.specs.Answers.{KnowsAnswers}
use Rattle.media_laws.specs.Beginning.{BeginsAt, StandsFor, entries_of}
use Rattle.media_laws.specs.Offering.{IsLaterOffer}
use Rattle.media_laws.proofs.OfferPairs.Above.{none_answers, offers_above}
use Rattle.media_laws.proofs.OfferPairs.Begun.{went_alone, went_of}
use Rattle.media_laws.proofs.OfferPairs.LaterSteps.{coming, later_begun, later_call, later_dialog, later_fits, later_line, later_own, later_request, later_row, later_said, later_settled, later_stands, later_step, named_by, offer_name, offered, stands_settled}
use Rattle.media_laws.proofs.Scenes.NewRequests.{request_stands}
use Rattle.media_laws.proofs.OfferPairs.OfferSteps.{IsOfferStep, offer_stage}
use Rattle.message_laws.specs.Knowing.{HasMadeTags}
use Rattle.message_laws.proofs.AwaitedOffers.Tagged.{leg_tag as own_leg_tag}

across : (end : End) → is_caller (other end) ≡ not (is_caller end)
across Caller = refl
across Callee = refl

same_leg : (d : Call) (b x : Bool) (came went : Message) → leg (reoffered d b came went) x ≡ leg d x
same_leg d b true came went = refl
same_leg d b false came went = refl

stage_waits : (method : OfferMethod) → awaits_answer (offer_stage method) ≡ true
stage_waits Invite = refl
stage_waits Update = refl

stage_listed : (method : OfferMethod) → is_listed_stage (offer_stage method) ≡ true
stage_listed Invite = refl
stage_listed Update = refl

put_some : (o : Option Standing) (n : Standing) (put gone : List StandingCall) → o ≡ Some n → cond (is_some o) put gone ≡ put
put_some None n put gone is = absurd cc
put_some (Some x) n put gone is = refl

-- the open offer as a trace lists it
listed_as : (slots : List (Option Transaction)) (begun : List Transaction) (t : List Datagram) (c : StandingCall) (end : End) (method : OfferMethod) (d : Call) → ShowsSettled c.call.media.session d.stage
    → ShowsOpen slots begun t (offer_name method) c end c.call.media.offer d → ShowsListing slots begun t c end (listing (offer_stage method)) d
listed_as slots begun t c end Invite d settled opens = (settled, opens)
listed_as slots begun t c end Update d settled opens = (settled, opens)

-- what is heard of the line is a move
offer_moves : (method : OfferMethod) (made : ℕ) (t : List Datagram) → AreOwn made t → (ds : List Call) (k : ℕ) (d : Call) → slice_get ds k ≡ Some d → (s : Scene) (tokens : ℕ) → made ≤ tokens → tokens + 2 < 2 ^ 64 → (y : Settled)
    → d.stage ≡ traces.Answered y → d.offer ≡ None → (b : Bool) (taken sent : Description) (came : Message) → Offers (leg d b) taken came → came.to_tag ≡ (leg d b).ours → option_copied s.description ≡ Some sent → (x : End)
    → came.method ≡ offer_name method → AskedLeg s (other x) method (leg d (not b)) → (ms : List Message) → HearsActions s tokens (actions_in (settled_row (signals.Offer x method))) ms
    → (h : OfferHeard t (leg d (not b)) (offer_name method) sent ms) × Move offering t ds (Some came) ms (slice_set ds k (reoffered d b came h.went))
offer_moves Invite = invite_passed
offer_moves Update = update_passed

module _ (reads : Reading) (names : ReadsNames) (describes : BodiesDescribe) (law : SentIsRead) (keep : (k : ℕ) (t : List Datagram) (old new : List Call) (taken : Option Message) (sent : List Message) → Move offering t old taken sent new → Stands offering old k t → AllApart new) (s after : Office) (begun more : List Transaction) (sent : List Sent) (t : List Datagram) (old : List Call) (k : ℕ) (before : StandsShown s begun t old k) (later : IsAfter s after (begun ++ more)) (tied : AreTied s begun sent t old) (knows : KnowsLegs s) (answers : KnowsAnswers s t) (e : Setting) (from : IsSource e.source) (bytes : List ℕ) (r : Request) (id : ℕ) (taken : Option Message) (read : message_of bytes ≡ Ok (Kinds.Request r)) (took : IsTakenOf bytes taken) (place : ℕ) (end : End) (c : StandingCall) (offer : Description) (p : IsLaterOffer s r place end c offer) where
  abbrev w : ComingValue
  w = coming names describes s begun sent t old tied knows e bytes r id read place end c offer p

  abbrev step : Step
  step = later_step names describes s begun sent t old tied knows e bytes r id read place end c offer p

  abbrev said : StepMessages
  said = later_said names describes s begun sent t old tied knows e bytes r id read place end c offer p

  abbrev new : StandingCall
  new = later_call names describes s begun sent t old tied knows e bytes r id read place end c offer p

  abbrev came : Message
  came = trace_message bytes (Kinds.Request r)

  abbrev scene : Scene
  scene = scene_at s e w c step.description

  abbrev o : OpenOffer
  o = opened c.call.media s.calls.pool end offer e.now

  abbrev line : IsOfferStep c.call end (offer_method r) offer s.calls.pool e.now step
  line = later_line names describes s begun sent t old tied knows e bytes r id read place end c offer p

  -- the call's standing before, in the server and in the trace
  stood : (n : Standing) × (c.call.standing ≡ Some n) × (n.stage ≡ stages.Settled)
  stood = stands_settled c.call.standing (later_settled names describes s begun sent t old tied knows e bytes r id read place end c offer p)

  spot : HasSpot s.table.slots begun t s.calls.calls old place c
  spot = has_spot s.table.slots begun t s.calls.calls old place c before.listed before.asked p.there (ap (holds_in is_listed_stage) stood.1 ∙ ap is_listed_stage stood.2)

  abbrev d : Call
  d = spot.call

  talks : ShowsSettled c.call.media.session d.stage × (d.offer ≡ None)
  talks = subst (λ st. ShowsStage s.table.slots begun t c stood.0 st d) stood.2 (stage_shown s.table.slots begun t c stood.0 d stood.1 spot.shows)

  answered : Answered d
  answered = subst (λ st. IsAt stood.0.offerer st d) stood.2 (is_at s.table.slots begun t c stood.0 d stood.1 spot.shows)

  -- ---- the move

  asked_leg : AskedLeg scene (other end) (offer_method r) (leg d (not (is_caller end)))
  asked_leg =
      let there = later_dialog names describes s begun sent t old tied knows e bytes r id read place end c offer p (other end) in
      subst (λ x. AskedLeg scene (other end) (offer_method r) (leg d x)) (across end)
      (asked_in s e w c step.description d (other end) (offer_method r) there.0 (all_at HasSoundLegs s.calls.calls place c knows.dialogs.calls p.there) spot.shows.legs (later_fits names describes s begun sent t old tied knows e bytes r id read place end c offer p) there.1 p.numbered)

  moved : (ms : List Message) → AreMessages said.dressed.sends ms
      → (h : OfferHeard t (leg d (not (is_caller end))) (offer_name (offer_method r)) o.offer_sent ms) × Move offering t old (Some came) ms (slice_set old spot.place_there (reoffered d (is_caller end) came h.went))
  moved ms are =
      let can = offer_comes describes names s e bytes r id place end c (offer_method r) offer before.scenes from read p.there p.described in
      let hears = subst (λ actions. HearsActions scene s.tokens actions ms) line.actions (step_heard reads describes law s e place c (offered names describes s begun sent t old tied knows e bytes r id read place end c offer p) w before.scenes p.there can ms are) in
      offer_moves (offer_method r) s.tokens t tied.trace.tokens old spot.place_there d spot.there scene s.tokens (omega arith) (omega (arith, tied.scenes.few)) answered.settled answered.stage talks.1 (is_caller end) offer o.offer_sent came
      (offers_in s.calls.calls r place end c d offer bytes p.rule p.there spot.shows.legs p.described) (offers_to s.calls.calls r place end c d bytes p.rule p.there spot.shows.legs) (lent_text step.description ∙ line.says) end
      ((request_of bytes r).method ∙ named_by bytes r read (offers_may_offer s.calls.calls r place end p.rule) (is_method (codes "INVITE") r) refl) asked_leg ms hears

  module _ (moment : ℕ) (x : Effect) (is : x ≡ passes s e r (entries_of s e r) id place end offer) (begins : BeginsAt s after more moment r id x) (ms : List Message) (are : AreMessages x.plan.sends ms) (calls : after.calls.calls ≡ x.calls.standing.calls) where
    whole : x ≡ with_step s.acks (entries_of s e r) None None (does s.calls s.table (occasion s e) place w c step)
    whole = is ∙ ap (with_step s.acks (entries_of s e r) None None) (later_row names describes s begun sent t old tied knows e bytes r id read place end c offer p)

    changes_are : x.plan.changes ≡ entries_of s e r ++ said.dressed.changes
    changes_are = ap (λ (y : Effect). y.plan.changes) whole

    said_are : AreMessages said.dressed.sends ms
    said_are = subst (λ (y : Effect). AreMessages y.plan.sends ms) whole are

    calls_are : after.calls.calls ≡ slice_set s.calls.calls place new
    calls_are = calls ∙ (ap (λ (y : Effect). y.calls.standing.calls) whole ∙ put_some step.call.standing _ (slice_set s.calls.calls place new) (remove s.calls.calls place) line.next)

    new_there : slice_get after.calls.calls place ≡ Some new
    new_there = subst (λ l. slice_get l place ≡ Some new) (sym calls_are) (got_set s.calls.calls place c new p.there)

    heard : OfferHeard t (leg d (not (is_caller end))) (offer_name (offer_method r)) o.offer_sent ms
    heard = (moved ms said_are).0

    abbrev opens : Offer
    opens = record { by_caller = is_caller end; came = came; went = heard.went }

    abbrev now : Call
    now = reoffered d (is_caller end) came heard.went

    move : Move offering t old taken ms (slice_set old spot.place_there now)
    unfolding heard
    move = subst (λ y. Move offering t old y ms (slice_set old spot.place_there now)) (sym (taken_is bytes (Kinds.Request r) taken read took)) (moved ms said_are).1

    -- ---- the transactions of the offer

    asked_is : new.asked.id ≡ id
    asked_is = ap (λ (q : OfferRequest). q.id) (asked_new w said step.call c (taken_offer r id e.source) refl)

    stands_for : StandsFor after.table.slots id r.parts
    stands_for =
        let slots = begins.table ∙ ap (λ l. (entered_all moment s.table l).slots) changes_are in
        let served : WaitsAt after.table.slots id =
        subst (WaitsAt after.table.slots) asked_is (at_place (IsServed after.table.slots) after.calls.calls place new begins.askers.offers.served new_there (ap (holds_in awaits_answer) (later_stands names describes s begun sent t old tied knows e bytes r id read place end c offer p) ∙ stage_waits (offer_method r))) in
        subst (λ l. StandsFor l id r.parts) (sym slots) (request_stands s e r id said.dressed.changes moment begins.verdict (later_own names describes s begun sent t old tied knows e bytes r id read place end c offer p) (subst (λ l. WaitsAt l id) slots served))

    came_there : Came after.table.slots new.asked.id opens
    came_there =
        subst (λ n. Came after.table.slots n opens) (sym asked_is)
        (record { transaction = stands_for.transaction; stands = stands_for.stands; request = subst (λ q. IsRequestOf q came) (sym stands_for.same) (request_of bytes r) })

    went_there : Went (begun ++ more) new opens
    went_there =
        let more_is = begins.begun ∙ ap begun_of changes_are in
        let u = later_request names describes s begun sent t old tied knows e bytes r id read place end c offer p more more_is in
        went_of after begun more later.numbers place new new_there u.0 opens u.1 u.2
        (λ v among offers. went_alone reads.back said.dressed.sends (entries_of s e r ++ said.dressed.changes) ms heard.before heard.went said_are (later_begun names describes s begun sent t old tied knows e bytes r id read place end c offer p) heard.whole heard.plain v
        (subst (λ l. IsAmong l v) more_is among) offers)

    -- ---- nothing answers it

    new_number : IsUnanswered t (leg now (is_caller end)).ours came.number
    new_number =
        let mine = later_dialog names describes s begun sent t old tied knows e bytes r id read place end c offer p end in
        let tag = sym (own_leg_tag s.tokens end c mine.0 (all_at (HasMadeTags s.tokens) s.calls.calls place c tied.tokens.calls.tags p.there) mine.1)
        ∙ (ap (λ (y : Dialog). y.ours) (sym (leg_shown c d end mine.0 spot.shows.legs mine.1)) ∙ ap (λ (y : Dialog). y.ours) (sym (same_leg d (is_caller end) (is_caller end) came heard.went))) in
        none_answers s t answers place c p.there end mine.0 mine.1 (leg now (is_caller end)).ours came.number tag
        (subst (IsAbove mine.0.remote_number) (sym (request_of bytes r).number) (offers_above s.calls.calls r place end p.rule c p.there mine.0 mine.1))

    unanswered : IsUnanswered (t ++ passed k taken ms) (leg now (is_caller end)).ours came.number
    unanswered =
        stays_unanswered k t old taken ms (slice_set old spot.place_there now) move (keep k t old (slice_set old spot.place_there now) taken ms move before.stands) spot.place_there now opens (got_set old spot.place_there d now spot.there) refl
        (leg now (is_caller end)).ours came.number (leg_tag now (is_caller end) (leg now (is_caller end)).ours refl) new_number

    -- ---- what the trace shows

    abbrev longer : List Datagram
    longer = t ++ passed k taken ms

    opened_shows : ShowsOpen after.table.slots (begun ++ more) longer (offer_name (offer_method r)) new end new.call.media.offer now
    opened_shows =
        subst (λ y. ShowsOpen after.table.slots (begun ++ more) longer (offer_name (offer_method r)) new end y now) (sym ((stands_by w said step.call c).offer ∙ line.kept)) (
          opens,
          record {
            open_is = refl;
            by = refl;
            same = refl;
            came = came_there;
            went = went_there;
            method = heard.asks.seen.method;
            taken = (offers_in s.calls.calls r place end c d offer bytes p.rule p.there spot.shows.legs p.described).said;
            sent = heard.asks.seen.description;
            unanswered = unanswered;
          },
        )

    own : ShowsCall after.table.slots (begun ++ more) longer new now
    own =
        let legs = legs_go_on w said c (offered names describes s begun sent t old tied knows e bytes r id read place end c offer p) s.calls.pool e.now d (later_fits names describes s begun sent t old tied knows e bytes r id read place end c offer p) spot.shows.legs in
        record {
          legs = record { caller = legs.caller; callee = legs.callee };
          standing = subst (λ y. ShowsStanding after.table.slots (begun ++ more) longer new y now) (sym (later_stands names describes s begun sent t old tied knows e bytes r id read place end c offer p))
              (listed_as after.table.slots (begun ++ more) longer new end (offer_method r) now (subst (λ y. ShowsSettled y d.stage) (sym ((stands_by w said step.call c).session ∙ line.session)) talks.0) opened_shows);
        }

    pub later_goes_on : GoOn (ShowsCall after.table.slots (begun ++ more) longer) after.calls.calls t old taken ms
    later_goes_on = (
      slice_set old spot.place_there now,
      move,
      one_listed s.table.slots after begun more k t old taken ms (slice_set old spot.place_there now) move (keep k t old (slice_set old spot.place_there now) taken ms move before.stands) later.numbers later.keeps new now own
          (subst (λ l. Listed (IsLeftOr s.table.slots begun t new now) l (slice_set old spot.place_there now)) (sym calls_are)
          (spot.goes_on new now (ap (holds_in is_listed_stage) (later_stands names describes s begun sent t old tied knows e bytes r id read place end c offer p) ∙ stage_listed (offer_method r)))),
    )
