-- A step of a call sends messages of the server's own alone, and keeps what is known of the offers.
use Rattle.std.proofs.Common.{◌≡◌, ◌≢◌, ◌∙◌, ℕ, ◌<◌, ◌^◌, Bool, true, false, cond, ◌||◌, List, [], ◌∷◌, ◌++◌, find, is_some, Option, Some, None, option_map, refl, ap, sym, subst, inl, inr, arith}
use Rattle.std.specs.Prelude.{slice_get, slice_set}
use Rattle.std.specs.List.{All, remove}
use Rattle.std.specs.Option.{option_copied}
use Rattle.std.proofs.lemmas.Bool.{false_from_ne_true, false≢true, or_left}
use Rattle.std.proofs.lemmas.List.Elements.{All-set, All-weaker}
use Rattle.std.proofs.lemmas.Option.{none-some, same_Some}
use Rattle.events.specs.declared.sent.Sent.{Sent}
use Rattle.sip_message.specs.Repeatable.{CanBeRepeated}
use Rattle.sdp.specs.declared.description.Description.{Description}
use Rattle.dialogs.specs.declared.state.Dialog.{Dialog}
use Rattle.transactions.specs.declared.change.Entry.{Entry}
use Rattle.transactions.specs.declared.transaction.Transaction.{Transaction}
use Rattle.transactions.specs.Changes.{entered, entered_all}
use Rattle.transactions.specs.Contents as transactions
use Rattle.transactions.specs.Slots.{at}
use Rattle.call_media.specs.declared.end.End.{End}
use Rattle.call_media.specs.declared.end.End.TheVariants.{Callee, Caller}
use Rattle.call_core.specs.declared.action.Action.{Action}
use Rattle.call_core.specs.declared.action.Action.TheVariants.{Abandon, Ack, Answer, AnswerAgain, Bye, Cancel, Offer, Okay, Provisional, PutRows, Refusal, Release, RemoveRows, Set, Stop, Trying}
use Rattle.call_core.specs.Calls.{awaits_answer, holds_in}
use Rattle.call_core.specs.Plans.{Step}
use Rattle.calls.specs.Carrying.{offerer_of, with_step}
use Rattle.calls.specs.Changes.{beside}
use Rattle.calls.specs.State.{Standing}
use Rattle.calls.specs.declared.change.LegDialog.{LegDialog}
use Rattle.calls.specs.declared.standing_call.OfferRequest.{OfferRequest}
use Rattle.calls.specs.declared.standing_call.StandingCall.{StandingCall}
use Rattle.call_steps.specs.declared.occasion.Occasion.{Occasion}
use Rattle.call_steps.specs.Effects as steps
use Rattle.call_steps.specs.Messages as said
use Rattle.call_steps.specs.Messages.{given_up, is_abandon}
use Rattle.call_steps.specs.Rows.{does, messages_of, put_with}
use Rattle.call_steps.specs.Scenes.{asker_by, offerer_tag, passed_id, scene, tag_or, tag_with}
use Rattle.call_steps.specs.Values.{AskerValue, ComingValue, SceneValue, dressed_in, lent, lent_asker, lent_scene, without_offer}
use Rattle.message_laws.specs.Addresses.{IsReached, IsSource}
use Rattle.message_laws.specs.Askers.{AskedApart, CameFromSource, IsAskedIf, IsServed, IsUnanswered, KeepsAsked, KeepsRequest, KnowsOffers, waits_for}
use Rattle.message_laws.specs.Knowing.{HasLegTag, HasMadeTags}
use Rattle.message_laws.specs.Datagrams.{IsOwnDatagram}
use Rattle.message_laws.proofs.Askers.AskedCalls.{ApartFromAll, GoesOn, SameOffer, all_removed, all_removed_besides, all_set_besides, apart_removed, at_place, besides_apart, beside_same, set_new, set_on}
use Rattle.message_laws.proofs.Messages.ReadParts.{IsTokenRun}
use Rattle.message_laws.proofs.Askers.ServedRequests.{SpareAll, all_stand, all_waits, served_asked, spare_joined, stands_as, unanswered_server}
use Rattle.message_laws.proofs.Askers.Sparing.{SparedBy, dressed_spares, given_up_spares}
use Rattle.message_laws.proofs.Askers.Speaking.{AgainIsOwn, CanOkay, CanSayIf, EnterAsked, FitActions, IsOwnScene, IsShortIf, all_speak, answer_offer, answers_offer, asked_joined}
use Rattle.message_laws.proofs.Askers.SpokenLines.{CallSpeaks, is_final, says_final, waits_in}
use Rattle.message_laws.proofs.TokenUse.TokenRuns.{made_run}

-- ---- what the transactions do first

-- they wait on, and what begins was read
pub record IsBegun (begun : List Entry) : Type 0 where
  pub spares : (id : ℕ) → SpareAll id begun
  pub asked : EnterAsked begun

-- a transaction of this number begins, which was free
pub record IsBegunAs (table : transactions.Contents) (begun : List Entry) (id : ℕ) : Type 0 where
  pub free : at table.slots id ≡ None
  pub opened : (now : ℕ) → IsUnanswered (entered_all now table begun).slots id

entered_joined : (now : ℕ) (table : transactions.Contents) (xs ys : List Entry) → entered_all now table (xs ++ ys) ≡ entered_all now (entered_all now table xs) ys
entered_joined now table [] ys = refl
entered_joined now table (x ∷ xs) ys = entered_joined now (entered now table x) xs ys

-- ---- a step

pub record SpokenStep (table : transactions.Contents) (begun : List Entry) (x : steps.Effect) : Type 0 where
  pub sends : All IsOwnDatagram x.dressed.sends
  pub entries : EnterAsked x.dressed.changes
  pub offers : (now : ℕ) → KnowsOffers (entered_all now table (begun ++ x.dressed.changes)).slots x.outcome.standing.calls
  pub keeps : (now : ℕ) → All (KeepsAsked table.slots (entered_all now table (begun ++ x.dressed.changes)).slots) x.outcome.standing.calls

-- what is known before it: of the transactions, the calls, the tags and what is sent again
pub record IsOccasion (table : transactions.Contents) (calls : List StandingCall) (o : Occasion) : Type 0 where
  pub slots : All IsAskedIf table.slots
  pub offers : KnowsOffers table.slots calls
  pub tags : All (HasMadeTags o.tokens) calls
  pub few : o.tokens < 2 ^ 63
  pub again : All (λ (c : StandingCall). AgainIsOwn c.answer) calls
  pub server : IsReached o.server

-- ---- a call that waits goes on to wait, whatever spares its transaction

pub waits_through : (table : transactions.Contents) (begun later : List Entry) (id : ℕ) (now : ℕ) → IsBegun begun → SpareAll id later → IsUnanswered table.slots id
    → IsUnanswered (entered_all now table (begun ++ later)).slots id
waits_through table begun later id now b spares a = all_waits now table (begun ++ later) id (spare_joined id begun later (b.spares id) spares) a

-- of the same request
pub keeps_all : (table : transactions.Contents) (changes : List Entry) (id : ℕ) (now : ℕ) → SpareAll id changes → IsUnanswered table.slots id → KeepsRequest table.slots (entered_all now table changes).slots id
keeps_all table changes id now spares a = λ x there.
    let kept = all_stand a.transaction.parts now table changes id spares (stands_as table.slots id a) in
    (kept.transaction, kept.stands, kept.same ∙ ap (λ (t : Transaction). t.parts) (same_Some a.transaction x (sym a.stands ∙ there)))

pub keeps_through : (table : transactions.Contents) (begun later : List Entry) (id : ℕ) (now : ℕ) → IsBegun begun → SpareAll id later → IsUnanswered table.slots id
    → KeepsRequest table.slots (entered_all now table (begun ++ later)).slots id
keeps_through table begun later id now b spares a = keeps_all table (begun ++ later) id now (spare_joined id begun later (b.spares id) spares) a

-- where there was none
pub free_keeps : (before after : List (Option Transaction)) (id : ℕ) → at before id ≡ None → KeepsRequest before after id
free_keeps before after id free = λ x there. absurd (none-some x (sym free ∙ there))

-- of all calls, where no request of one that waits is answered
pub same_kept : (before after : List (Option Transaction)) (calls : List StandingCall) → ((id : ℕ) → IsUnanswered before id → KeepsRequest before after id) → KnowsOffers before calls
    → All (KeepsAsked before after) calls
same_kept before after calls keeps k = All-weaker (IsServed before) (KeepsAsked before after) (λ x served waits. keeps x.asked.id (served waits)) calls k.served

-- one that began now
pub opens_through : (table : transactions.Contents) (begun later : List Entry) (id : ℕ) (now : ℕ) → IsBegunAs table begun id → SpareAll id later → IsUnanswered (entered_all now table (begun ++ later)).slots id
opens_through table begun later id now opens spares =
    subst (λ (t : transactions.Contents). IsUnanswered t.slots id) (sym (entered_joined now table begun later)) (all_waits now (entered_all now table begun) later id spares (opens.opened now))

-- the transaction of one that waits is not one that was free
pub differs : (slots : List (Option Transaction)) (id other : ℕ) → at slots other ≡ None → IsUnanswered slots id → id ≢ other
differs slots id other free a same = none-some a.transaction (sym free ∙ ap (at slots) (sym same) ∙ a.stands)

-- ---- the scene of a live call

tag_made_or : (made : ℕ) (tag other : List ℕ) (d : Option Dialog) → IsTokenRun tag → IsTokenRun other → HasLegTag other d → IsTokenRun (tag_or tag d)
tag_made_or made tag other None h k leg = h
tag_made_or made tag other (Some d) h k leg = subst IsTokenRun (sym leg) k

pub tag_run : (made : ℕ) (c : StandingCall) (end : End) → made < 2 ^ 63 → HasMadeTags made c → IsTokenRun (tag_with end c.call)
tag_run made c Caller few h = made_run made c.call.caller.id.ours (omega (arith, few)) h.caller
tag_run made c Callee few h =
    tag_made_or made c.call.caller.id.ours c.callee_tag c.call.callee (made_run made c.call.caller.id.ours (omega (arith, few)) h.caller) (made_run made c.callee_tag (omega (arith, few)) h.callee) h.leg

can_say_by : (c : StandingCall) (t : Option Transaction) → IsSource c.asked.source → IsTokenRun (offerer_tag c.call) → ((x : Transaction) → t ≡ Some x → CanBeRepeated x.parts)
    → CanSayIf (option_map lent_asker (asker_by c t))
can_say_by c None from token h = tt
can_say_by c (Some t) from token h = record { repeats = h t refl; from = from; token = token }

-- the offer of a call that waits
can_say : (table : transactions.Contents) (calls : List StandingCall) (o : Occasion) (place : ℕ) (c : StandingCall) → IsOccasion table calls o → slice_get calls place ≡ Some c → waits_for c ≡ true
    → CanSayIf (option_map lent_asker (asker_by c (at table.slots c.asked.id)))
can_say table calls o place c k there waits =
    let a = at_place (IsServed table.slots) calls place c k.offers.served there waits in
    can_say_by c (at table.slots c.asked.id) (at_place CameFromSource calls place c k.offers.sources there) (tag_run o.tokens c (offerer_of c.call.standing) k.few (at_place (HasMadeTags o.tokens) calls place c k.tags there))
    (λ x is. subst (λ (t : Transaction). CanBeRepeated t.parts) (same_Some a.transaction x (sym a.stands ∙ is))
    (served_asked table.slots c.asked.id k.slots a (unanswered_server a.transaction.state a.unanswered) (unanswered_server a.transaction.state a.unanswered)))

pub again_copied : (answer : Option Sent) → AgainIsOwn answer → AgainIsOwn (option_copied (option_map lent answer))
again_copied None h = h
again_copied (Some answer) h = h

pub short_copied : (description : Option Description) → IsShortIf description → IsShortIf (option_copied (option_map lent description))
short_copied None h = h
short_copied (Some description) h = h

-- ---- the messages of a step

given_up_asked : (passed : Option ℕ) (action : Option Action) → EnterAsked (given_up passed action)
given_up_asked None action = tt
given_up_asked (Some id) None = tt
given_up_asked (Some id) (Some action) = (tt, tt)

pub record SaysStep (x : _) (s : SceneValue) (actions : List Action) : Type 0 where
  pub sends : All IsOwnDatagram (said.messages s x actions).dressed.sends
  pub entries : EnterAsked (said.messages s x actions).dressed.changes
  pub spares : (id : ℕ) → SparedBy id (lent_scene s).offer (says_final actions) → SparedBy id (lent_scene s).request true → SpareAll id (said.messages s x actions).dressed.changes

pub says_step : (s : SceneValue) (passed : Option ℕ) (actions : List Action) → IsOwnScene (lent_scene s) (answer_offer actions) → FitActions actions → SaysStep passed s actions
unfolding said.messages
says_step s passed actions h f =
    let own = all_speak (lent_scene s) s.tokens actions h f in
    let late = given_up passed (find is_abandon actions) in
    record {
      sends = own.sends;
      entries = asked_joined (dressed_in s actions).changes late own.entries (given_up_asked passed (find is_abandon actions));
      spares = λ id one two. spare_joined id (dressed_in s actions).changes late (dressed_spares id (lent_scene s) s.tokens actions one two f) (given_up_spares id passed (find is_abandon actions));
    }

-- ---- the call afterwards, in its place or gone

final_answers : (actions : List Action) → says_final actions ≡ true → answer_offer actions ≡ true
final_answers [] e = absurd (false≢true e)
final_answers (action ∷ later) e = first_or (is_final action) (says_final later) (answers_offer action) (answer_offer later) e (final_is action) (final_answers later)
  where
    first_or : (a b c d : Bool) → (a || b) ≡ true → (a ≡ true → c ≡ true) → (b ≡ true → d ≡ true) → (c || d) ≡ true
    first_or true b c d e one two = or_left c d (one refl)
    first_or false b true d e one two = refl
    first_or false b false d e one two = two e

    final_is : (action : Action) → is_final action ≡ true → answers_offer action ≡ true
    final_is (Answer end) e = refl
    final_is (Refusal end status) e = refl
    final_is (Trying end) e = absurd (false≢true e)
    final_is (Offer end method) e = absurd (false≢true e)
    final_is (Provisional end status) e = absurd (false≢true e)
    final_is (Ack end) e = absurd (false≢true e)
    final_is (AnswerAgain end) e = absurd (false≢true e)
    final_is (Okay end) e = absurd (false≢true e)
    final_is (Cancel end) e = absurd (false≢true e)
    final_is (Bye end) e = absurd (false≢true e)
    final_is PutRows e = absurd (false≢true e)
    final_is Release e = absurd (false≢true e)
    final_is RemoveRows e = absurd (false≢true e)
    final_is (Set timer after) e = absurd (false≢true e)
    final_is (Stop timer) e = absurd (false≢true e)
    final_is (Abandon end) e = absurd (false≢true e)

-- it waits for what it waited for
pub goes_on_by : (b : Bool) (before after : List (Option Transaction)) (calls : List StandingCall) (place : ℕ) (c d : StandingCall) → slice_get calls place ≡ Some c → KnowsOffers before calls → GoesOn c d → CameFromSource d
    → IsServed after d → ((x : StandingCall) → IsServed before x → AskedApart c x → IsServed after x) → KnowsOffers after (cond b (slice_set calls place d) (remove calls place))
goes_on_by true before after calls place c d there k on from served others = record {
  sources = All-set CameFromSource calls place d from k.sources;
  served = all_set_besides (IsServed before) (AskedApart c) (IsServed after) d calls place others served k.served (besides_apart c calls place there k.apart);
  apart = set_on c d calls place there on k.apart;
}
goes_on_by false before after calls place c d there k on from served others = record {
  sources = all_removed CameFromSource calls place k.sources;
  served = all_removed_besides (IsServed before) (AskedApart c) (IsServed after) calls place others k.served (besides_apart c calls place there k.apart);
  apart = apart_removed calls place k.apart;
}

pub kept_on : (b : Bool) (before after : List (Option Transaction)) (calls : List StandingCall) (place : ℕ) (c d : StandingCall) → slice_get calls place ≡ Some c → KnowsOffers before calls → KeepsAsked before after d
    → ((x : StandingCall) → IsServed before x → AskedApart c x → KeepsAsked before after x) → All (KeepsAsked before after) (cond b (slice_set calls place d) (remove calls place))
kept_on true before after calls place c d there k own others =
    all_set_besides (IsServed before) (AskedApart c) (KeepsAsked before after) d calls place others own k.served (besides_apart c calls place there k.apart)
kept_on false before after calls place c d there k own others =
    all_removed_besides (IsServed before) (AskedApart c) (KeepsAsked before after) calls place others k.served (besides_apart c calls place there k.apart)

pub kept_new : (b : Bool) (before after : List (Option Transaction)) (calls : List StandingCall) (place : ℕ) (d : StandingCall) → KnowsOffers before calls → KeepsAsked before after d
    → ((x : StandingCall) → IsServed before x → KeepsAsked before after x) → All (KeepsAsked before after) (cond b (slice_set calls place d) (remove calls place))
kept_new true before after calls place d k own others = All-set (KeepsAsked before after) calls place d own (All-weaker (IsServed before) (KeepsAsked before after) others calls k.served)
kept_new false before after calls place d k own others = all_removed (KeepsAsked before after) calls place (All-weaker (IsServed before) (KeepsAsked before after) others calls k.served)

-- it waits for an offer that no other call waits for
pub is_new_by : (b : Bool) (before after : List (Option Transaction)) (calls : List StandingCall) (place : ℕ) (d : StandingCall) → KnowsOffers before calls → ApartFromAll d calls → CameFromSource d
    → IsServed after d → ((x : StandingCall) → IsServed before x → IsServed after x) → KnowsOffers after (cond b (slice_set calls place d) (remove calls place))
is_new_by true before after calls place d k new from served others = record {
  sources = All-set CameFromSource calls place d from k.sources;
  served = All-set (IsServed after) calls place d served (All-weaker (IsServed before) (IsServed after) others calls k.served);
  apart = set_new d calls place new k.apart;
}
is_new_by false before after calls place d k new from served others = record {
  sources = all_removed CameFromSource calls place k.sources;
  served = all_removed (IsServed after) calls place (All-weaker (IsServed before) (IsServed after) others calls k.served);
  apart = apart_removed calls place k.apart;
}

-- ---- a step that takes no offer

-- the request that gets a 200 now came with the event
abbrev pub IsComing : transactions.Contents → Option AskerValue → Type 0
IsComing table None = Unit {0}
IsComing table (Some a) = at table.slots a.id ≡ None

coming_spared : (table : transactions.Contents) (request : Option AskerValue) (id : ℕ) → IsComing table request → IsUnanswered table.slots id → SparedBy id (option_map lent_asker request) true
coming_spared table None id free a = tt
coming_spared table (Some r) id free a = λ same. absurd (differs table.slots id r.id free a same)

-- the offer of this call, if it is not said a final response, or is not this one
asker_spared : (id : ℕ) (c : StandingCall) (t : Option Transaction) (final : Bool) → (id ≡ c.asked.id → final ≡ false) → SparedBy id (option_map lent_asker (asker_by c t)) final
asker_spared id c None final h = tt
asker_spared id c (Some t) final h = h

module _ (table : transactions.Contents) (begun : List Entry) (calls : Standing) (o : Occasion) (place : ℕ) (leg : Option LegDialog) (request : Option AskerValue) (c : StandingCall) (step : Step) (k : IsOccasion table calls.calls o) (b : IsBegun begun) (there : slice_get calls.calls place ≡ Some c) (speaks : CallSpeaks c.call false step) (okay : CanOkay (option_map lent_asker request)) (coming : IsComing table request) (short : IsShortIf step.description) where
  abbrev w : ComingValue
  w = without_offer leg request

  abbrev s : SceneValue
  s = scene table o w c step.description

  own_scene : IsOwnScene (lent_scene s) (answer_offer step.actions)
  own_scene = record {
    server = k.server;
    offer = λ e. elim (speaks.answers e) [ inl h ↦ absurd (false≢true h) | inr waits ↦ can_say table calls.calls o place c k there waits ];
    request = okay;
    again = again_copied c.answer (at_place (λ (x : StandingCall). AgainIsOwn x.answer) calls.calls place c k.again there);
    short = short_copied step.description short;
  }

  said_own : SaysStep (passed_id table c) s step.actions
  said_own = says_step s (passed_id table c) step.actions own_scene speaks.fit

  abbrev x : steps.Effect
  x = does calls table o place w c step

  abbrev after : ℕ → List (Option Transaction)
  after now = (entered_all now table (begun ++ x.dressed.changes)).slots

  spares : (id : ℕ) → (id ≡ c.asked.id → says_final step.actions ≡ false) → IsUnanswered table.slots id → SpareAll id x.dressed.changes
  spares id open_id a = said_own.spares id (asker_spared id c (at table.slots c.asked.id) (says_final step.actions) open_id) (coming_spared table request id coming a)

  through : (now : ℕ) (id : ℕ) → (id ≡ c.asked.id → says_final step.actions ≡ false) → IsUnanswered table.slots id → IsUnanswered (after now) id
  through now id open_id a = waits_through table begun x.dressed.changes id now b (spares id open_id a) a

  kept : (now : ℕ) (id : ℕ) → (id ≡ c.asked.id → says_final step.actions ≡ false) → IsUnanswered table.slots id → KeepsRequest table.slots (after now) id
  kept now id open_id a = keeps_through table begun x.dressed.changes id now b (spares id open_id a) a

  abbrev next : StandingCall
  next = beside (put_with w (messages_of table o w c step)) (with_step c step)

  same : SameOffer (with_step c step) next
  same = beside_same (put_with w (messages_of table o w c step)) (with_step c step) refl

  next_waits : waits_for next ≡ true → waits_in step.call.standing ≡ true
  next_waits h = subst (λ y. holds_in awaits_answer y ≡ true) same.1 h

  waited : waits_for next ≡ true → waits_for c ≡ true
  waited h = elim (speaks.comes (next_waits h)) [ inl n ↦ absurd (false≢true n) | inr waits ↦ waits ]

  apart_final : (y : StandingCall) → AskedApart c y → waits_for y ≡ true → y.asked.id ≡ c.asked.id → says_final step.actions ≡ false
  apart_final y apart waits is =
      false_from_ne_true (says_final step.actions) (λ final. elim (speaks.answers (final_answers step.actions final)) [ inl n ↦ false≢true n | inr own ↦ apart own waits (sym is) ])

  others_served : (now : ℕ) (y : StandingCall) → IsServed table.slots y → AskedApart c y → IsServed (after now) y
  others_served now y served apart waits = through now y.asked.id (apart_final y apart waits) (served waits)

  others_kept : (now : ℕ) (y : StandingCall) → IsServed table.slots y → AskedApart c y → KeepsAsked table.slots (after now) y
  others_kept now y served apart waits = kept now y.asked.id (apart_final y apart waits) (served waits)

  next_served : (now : ℕ) → IsServed (after now) next
  next_served now waits =
      subst (IsUnanswered (after now)) (ap (λ (y : OfferRequest). y.id) (sym same.0))
      (through now c.asked.id (λ is. speaks.waits_on (next_waits waits)) (at_place (IsServed table.slots) calls.calls place c k.offers.served there (waited waits)))

  next_kept : (now : ℕ) → KeepsAsked table.slots (after now) next
  next_kept now waits =
      subst (KeepsRequest table.slots (after now)) (ap (λ (y : OfferRequest). y.id) (sym same.0))
      (kept now c.asked.id (λ is. speaks.waits_on (next_waits waits)) (at_place (IsServed table.slots) calls.calls place c k.offers.served there (waited waits)))

  next_from : CameFromSource next
  next_from = subst (λ (y : OfferRequest). IsSource y.source) (sym same.0) (at_place CameFromSource calls.calls place c k.offers.sources there)

  pub does_speak : SpokenStep table begun x
  does_speak = record {
    sends = said_own.sends;
    entries = said_own.entries;
    offers = λ now. goes_on_by (is_some step.call.standing) table.slots (after now) calls.calls place c next there k.offers
        (record { waits = waited; id = ap (λ (y : OfferRequest). y.id) same.0 }) next_from (next_served now) (others_served now);
    keeps = λ now. kept_on (is_some step.call.standing) table.slots (after now) calls.calls place c next there k.offers (next_kept now) (others_kept now);
  }
