-- A first offer that is passed on: it is a move, and the trace's calls show the server's afterwards.
use Rattle.std.proofs.Common.{◌≡◌, ◌∙◌, ℕ, ◌+◌, Bool, true, false, cond, length, List, [], ◌∷◌, ◌++◌, Option, Some, None, Ok, refl, sym, ap, subst, arith, codes}
use Rattle.std.specs.Prelude.{IsTrue, slice_get}
use Rattle.std.proofs.lemmas.Bool.{false≢true}
use Rattle.events.specs.declared.sent.Sent.{Sent}
use Rattle.sip_uri.specs.declared.uri.Uri.{Uri}
use Rattle.sip_message.specs.Contact.{contacts_of}
use Rattle.sip_message.specs.Read.{message_of}
use Rattle.sip_message.specs.declared.message.Message.TheVariants as Kinds
use Rattle.sip_message.specs.declared.message.Request.{Request}
use Rattle.sdp.specs.declared.description.Description.{Description}
use Rattle.dialogs.specs.Making.{callees_dialog, reached_at}
use Rattle.dialogs.specs.declared.method.Method.TheVariants as methods
use Rattle.dialogs.specs.Counting.{method_text}
use Rattle.transactions.specs.Changes.{entered_all}
use Rattle.transactions.specs.declared.transaction.Transaction.{Transaction}
use Rattle.call_media.specs.Offers.{opened}
use Rattle.call_media.specs.declared.end.End.TheVariants.{Callee, Caller}
use Rattle.call_media.specs.declared.session.OpenOffer.{OpenOffer}
use Rattle.call_core.specs.CallRows.{first_call_row}
use Rattle.calls.specs.declared.standing_call.StandingCall.{StandingCall}
use Rattle.call_steps.specs.Rows.{begins_as, first_asker, first_leg, first_row}
use Rattle.call_steps.specs.Scenes.{fresh}
use Rattle.call_steps.specs.Values.{lent_scene}
use Rattle.call_steps.specs.declared.messages.StepMessages.{StepMessages}
use Rattle.call_messages.specs.Messages.{new_leg}
use Rattle.plans.specs.CallRows.{occasion, with_step}
use Rattle.plans.specs.Effect.{Effect}
use Rattle.plans.specs.Office.{Office}
use Rattle.plans.specs.declared.setting.Setting.{Setting}
use Rattle.call_trace.specs.declared.call.Call.{Call}
use Rattle.call_trace.specs.declared.call.Offer.{Offer}
use Rattle.call_trace.specs.declared.datagram.Datagram.{Datagram}
use Rattle.call_trace.specs.declared.datagram.Dialog.{Dialog}
use Rattle.call_trace.specs.declared.datagram.Message.{Message}
use Rattle.call_trace.specs.Events.{passed}
use Rattle.call_trace.specs.Lives.{Stands}
use Rattle.call_trace.specs.Messages.{invite, is_method, offering}
use Rattle.call_trace.specs.Moves.{IsNewCall, Move, new_call}
use Rattle.call_trace.specs.Stands.{AllApart}
use Rattle.trace_reading.specs.Message.{dialog_named, trace_message}
use Rattle.message_laws.specs.Addresses.{IsSource}
use Rattle.message_laws.specs.Askers.{IsServed, IsUnanswered as WaitsAt}
use Rattle.message_laws.specs.Numbers.{begun_of}
use Rattle.message_laws.specs.OpenRequests.{IsAmong}
use Rattle.message_laws.proofs.TokenUse.Apartness.{old_and_new}
use Rattle.message_laws.proofs.Askers.AskedCalls.{at_place}
use Rattle.message_laws.proofs.QuietEvents.Describing.{BodiesDescribe}
use Rattle.message_laws.proofs.Messages.ReadBack.{SentIsRead}
use Rattle.message_laws.proofs.Messages.ReadParts.{method_is}
use Rattle.message_laws.proofs.StandingCalls.Reading.{Reading as ReadsNames}
use Rattle.message_laws.proofs.StandingCalls.SoundRows.{callee_target}
use Rattle.message_laws.specs.Messages.{AreMessages, IsRequestOf, IsTakenOf}
use Rattle.media_laws.proofs.Scenes.Leaving.{request_of}
use Rattle.media_laws.proofs.Scenes.Legs.{first_asked}
use Rattle.media_laws.proofs.Scenes.OfferRequests.{first_offers, first_untagged}
use Rattle.media_laws.specs.Afterwards.{IsLeftOr}
use Rattle.media_laws.specs.Listing.{Listed}
use Rattle.media_laws.specs.Said.{Asks, OfferHeard, Offers}
use Rattle.media_laws.specs.Shows.{Came, IsUnanswered, ShowsCall, ShowsLegs, Went}
use Rattle.media_laws.proofs.OtherCalls.Afterwards.{one_listed}
use Rattle.media_laws.proofs.OfferPairs.OfferMoves.{asks_callee}
use Rattle.media_laws.proofs.Scenes.Reading.{Reading}
use Rattle.media_laws.proofs.OfferPairs.Settling.{invite_offered}
use Rattle.media_laws.proofs.OtherCalls.Spots.{one_begins}
use Rattle.media_laws.proofs.OtherCalls.Unanswered.{leg_tag, stays_unanswered}
use Rattle.media_laws.specs.Ties.{AreTied}
use Rattle.media_laws.proofs.Scenes.ReadTexts.{taken_is}
use Rattle.media_laws.specs.Steps.{GoOn, IsAfter, StandsShown}
use Rattle.media_laws.specs.Answers.{KnowsAnswers}
use Rattle.media_laws.specs.NextTags.{AreNextTagsNew}
use Rattle.media_laws.specs.Beginning.{BeginsAt, StandsFor, entries_of}
use Rattle.media_laws.specs.Offering.{IsFirstOffer}
use Rattle.media_laws.proofs.OfferPairs.Begun.{went_alone, went_of}
use Rattle.media_laws.proofs.OfferPairs.FirstSteps.{first_before, first_begun, first_heard, first_is, first_listed, first_own, first_request, first_tags, first_call, first_said, first_step, first_value}
use Rattle.media_laws.proofs.Scenes.NewRequests.{request_stands}
use Rattle.media_laws.proofs.OfferPairs.NewTags.{MakesTags, all_apart, callee_new, caller_new, has_tags}

got_last : {X : Type 0} (xs : List X) (x : X) → slice_get (xs ++ x ∷ []) (length xs) ≡ Some x
got_last [] x = refl
got_last (y ∷ xs) x = got_last xs x

pushed_if : (b : Bool) (calls : List StandingCall) (c : StandingCall) → b ≡ true → cond b (calls ++ c ∷ []) calls ≡ calls ++ c ∷ []
pushed_if true calls c is = refl
pushed_if false calls c is = absurd (false≢true is)

module _ (reads : Reading) (names : ReadsNames) (describes : BodiesDescribe) (law : SentIsRead) (keep : (k : ℕ) (t : List Datagram) (old new : List Call) (taken : Option Message) (sent : List Message) → Move offering t old taken sent new → Stands offering old k t → AllApart new) (s after : Office) (begun more : List Transaction) (sent : List Sent) (t : List Datagram) (old : List Call) (k : ℕ) (before : StandsShown s begun t old k) (later : IsAfter s after (begun ++ more)) (tied : AreTied s begun sent t old) (answers : KnowsAnswers s t) (tags : AreNextTagsNew s t) (e : Setting) (from : IsSource e.source) (bytes : List ℕ) (r : Request) (id : ℕ) (taken : Option Message) (read : message_of bytes ≡ Ok (Kinds.Request r)) (took : IsTakenOf bytes taken) (to contact : Uri) (offer : Description) (p : IsFirstOffer s e.now r to offer) (reached : reached_at (contacts_of r.headers) ≡ Some contact) where
  abbrev new : StandingCall
  new = first_call names describes law s begun sent t old tied e from bytes r id read to contact offer p reached

  abbrev said : StepMessages
  said = first_said names describes law s begun sent t old tied e from bytes r id read to contact offer p reached

  abbrev came : Message
  came = trace_message bytes (Kinds.Request r)

  abbrev o : OpenOffer
  o = opened (first_before names describes law s begun sent t old tied e from bytes r id read to contact offer p reached).call.media s.calls.pool Caller offer e.now

  -- the dialogs of the call as it begins
  abbrev caller : Dialog
  caller = dialog_named (callees_dialog r (fresh (occasion s e) 1) contact).id

  abbrev callee : Dialog
  callee = dialog_named (first_leg (occasion s e) r to).id

  abbrev call_with : Message → Call
  call_with went = new_call caller callee came went

  method : came.method ≡ invite
  method = (request_of bytes r).method ∙ method_is bytes r (codes "INVITE") read p.invite

  offers : Offers caller offer came
  offers = first_offers r (fresh (occasion s e) 1) contact offer bytes bytes read p.invite p.described

  -- ---- the legs

  legs : (went : Message) → ShowsLegs new (call_with went)
  unfolding first_call_row new_leg
  legs went = record { caller = refl; callee = (refl, refl) }

  new_tags : (went : Message) → MakesTags s.tokens (call_with went)
  unfolding legs
  new_tags went =
      let h = first_tags names describes law s begun sent t old tied e from bytes r id read to contact offer p reached in
      let shown = legs went in
      record {
        salt = h.salt;
        first = h.first;
        second = h.second;
        new = h.new_first;
        in_order = h.in_order;
        few = h.few;
        caller = ap (λ (x : Dialog). x.ours) shown.caller ∙ h.caller;
        callee = shown.callee.0 ∙ h.callee;
      }

  -- ---- the move

  heard : (ms : List Message) → AreMessages said.dressed.sends ms → OfferHeard t callee (method_text methods.Invite) o.offer_sent ms
  unfolding first_call_row
  heard ms are =
      invite_offered s.tokens t tied.trace.tokens (lent_scene (first_value names describes law s begun sent t old tied e from bytes r id read to contact offer p reached)) (s.tokens + 3) (omega arith) (omega (arith, tied.scenes.few)) callee o.offer_sent refl Caller Callee ms
      (first_asked (occasion s e) (first_asker (occasion s e) r id e.source) r.max_forwards (first_step names describes law s begun sent t old tied e from bytes r id read to contact offer p reached).description r to (callee_target s tied.scenes.dialogs r e.now to p.bound)) (first_heard names describes law s begun sent t old tied e from bytes r id read to contact offer p reached reads ms are)

  new_call_is : (went : Message) → IsNewCall t old came (call_with went)
  unfolding new_leg
  new_call_is went = record {
    invite = subst (λ name. IsTrue (is_method invite name)) (sym method) refl;
    no_tag = first_untagged r bytes p.no_tag;
    callee = refl;
    tags = has_tags s.tokens (call_with went) (new_tags went);
    apart = all_apart s.tokens s.table.slots begun t s.calls.calls old (call_with went) tied.tokens.calls.tags before.listed (new_tags went);
    caller_new = caller_new s begun sent t (call_with went) tied.trace tags (new_tags went);
    callee_new = callee_new s begun sent t (call_with went) tied.trace tags (new_tags went);
  }

  moved : (ms : List Message) (h : OfferHeard t callee (method_text methods.Invite) o.offer_sent ms) → Move offering t old (Some came) ms (old ++ call_with h.went ∷ [])
  moved ms h =
      subst (λ l. Move offering t old (Some came) l (old ++ call_with h.went ∷ [])) (sym h.whole)
      (asks_callee t old caller callee offer o.offer_sent came h.before h.went offers (subst (λ name. Asks t callee name o.offer_sent h.went) (sym method) h.asks) h.plain (new_call_is h.went))

  module _ (moment : ℕ) (x : Effect) (is : x ≡ with_step s.acks (entries_of s e r) None None (first_row s.calls (occasion s e) r id e.source to offer)) (begins : BeginsAt s after more moment r id x) (ms : List Message) (are : AreMessages x.plan.sends ms) (calls : after.calls.calls ≡ x.calls.standing.calls) where
    whole : x ≡ with_step s.acks (entries_of s e r) None None (begins_as s.calls (occasion s e) r id e.source to offer (first_before names describes law s begun sent t old tied e from bytes r id read to contact offer p reached))
    whole = is ∙ ap (with_step s.acks (entries_of s e r) None None) (first_is names describes law s begun sent t old tied e from bytes r id read to contact offer p reached)

    changes_are : x.plan.changes ≡ entries_of s e r ++ said.dressed.changes
    changes_are = ap (λ (y : Effect). y.plan.changes) whole

    said_are : AreMessages said.dressed.sends ms
    said_are = subst (λ (y : Effect). AreMessages y.plan.sends ms) whole are

    calls_are : after.calls.calls ≡ s.calls.calls ++ new ∷ []
    calls_are = calls ∙ (ap (λ (y : Effect). y.calls.standing.calls) whole ∙ pushed_if _ s.calls.calls new (first_listed names describes law s begun sent t old tied e from bytes r id read to contact offer p reached))

    new_there : slice_get after.calls.calls (length s.calls.calls) ≡ Some new
    new_there = subst (λ l. slice_get l (length s.calls.calls) ≡ Some new) (sym calls_are) (got_last s.calls.calls new)

    asked : OfferHeard t callee (method_text methods.Invite) o.offer_sent ms
    asked = heard ms said_are

    abbrev now : Call
    now = call_with asked.went

    abbrev opens : Offer
    opens = record { by_caller = true; came = came; went = asked.went }

    move : Move offering t old taken ms (old ++ now ∷ [])
    move = subst (λ y. Move offering t old y ms (old ++ now ∷ [])) (sym (taken_is bytes (Kinds.Request r) taken read took)) (moved ms asked)

    apart : AllApart (old ++ now ∷ [])
    apart = keep k t old (old ++ now ∷ []) taken ms move before.stands

    -- ---- the transactions of the offer

    waits : WaitsAt after.table.slots id
    unfolding first_call_row
    waits = at_place (IsServed after.table.slots) after.calls.calls (length s.calls.calls) new begins.askers.offers.served new_there refl

    stands_for : StandsFor after.table.slots id r.parts
    stands_for =
        let slots = begins.table ∙ ap (λ l. (entered_all moment s.table l).slots) changes_are in
        subst (λ l. StandsFor l id r.parts) (sym slots) (request_stands s e r id said.dressed.changes moment begins.verdict (first_own names describes law s begun sent t old tied e from bytes r id read to contact offer p reached) (subst (λ l. WaitsAt l id) slots waits))

    came_there : Came after.table.slots id opens
    came_there = record { transaction = stands_for.transaction; stands = stands_for.stands; request = subst (λ q. IsRequestOf q came) (sym stands_for.same) (request_of bytes r) }

    went_there : Went (begun ++ more) new opens
    went_there =
        let more_is = begins.begun ∙ ap begun_of changes_are in
        let u = first_request names describes law s begun sent t old tied e from bytes r id read to contact offer p reached more more_is in
        went_of after begun more later.numbers (length s.calls.calls) new new_there u.0 opens u.1 u.2
        (λ v among offers. went_alone reads.back said.dressed.sends (entries_of s e r ++ said.dressed.changes) ms asked.before asked.went said_are (first_begun names describes law s begun sent t old tied e from bytes r id read to contact offer p reached) asked.whole asked.plain v (subst (λ l. IsAmong l v) more_is among) offers)

    -- ---- nothing answers it

    new_number : IsUnanswered t caller.ours came.number
    new_number i q at out answer listed to_tag =
        let h = new_tags asked.went in
        absurd (old_and_new s.tokens h.salt h.first q.message.to_tag (answers.tag i q at (record { sent = out; answer = answer; method = listed })) h.new (omega (arith, h.in_order, h.few)) (to_tag ∙ h.caller))

    unanswered : IsUnanswered (t ++ passed k taken ms) caller.ours came.number
    unanswered =
        stays_unanswered k t old taken ms (old ++ now ∷ []) move apart (length old) now opens (got_last old now) refl caller.ours came.number (leg_tag now true caller.ours refl) new_number

    -- ---- what the trace shows

    abbrev longer : List Datagram
    longer = t ++ passed k taken ms

    own : ShowsCall after.table.slots (begun ++ more) longer new now
    unfolding first_call_row
    own = record {
      legs = legs asked.went;
      standing = (
        refl,
        refl,
        refl,
        (
          opens,
          record {
            open_is = refl;
            by = refl;
            same = refl;
            came = came_there;
            went = went_there;
            method = asked.asks.seen.method;
            taken = offers.said;
            sent = asked.asks.seen.description;
            unanswered = unanswered;
          },
        ),
      );
    }

    listed : Listed (IsLeftOr s.table.slots begun t new now) (s.calls.calls ++ new ∷ []) (old ++ now ∷ [])
    unfolding first_call_row
    listed = one_begins s.table.slots begun t s.calls.calls old new now before.listed before.asked refl

    pub first_goes_on : GoOn (ShowsCall after.table.slots (begun ++ more) longer) after.calls.calls t old taken ms
    first_goes_on = (
      old ++ now ∷ [],
      move,
      one_listed s.table.slots after begun more k t old taken ms (old ++ now ∷ []) move apart later.numbers later.keeps new now own (subst (λ l. Listed (IsLeftOr s.table.slots begun t new now) l (old ++ now ∷ [])) (sym calls_are) listed),
    )
