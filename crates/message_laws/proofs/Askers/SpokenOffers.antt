-- Offers that a call takes, calls that begin, and a 2xx that no call takes: their messages are the server's own, and
-- offers are known still.
use Rattle.std.proofs.Common.{◌≡◌, ◌∙◌, ℕ, ◌+◌, Bool, true, false, cond, List, [], ◌∷◌, ◌++◌, is_some, Option, Some, None, option_map, refl, ap, sym, subst, arith}
use Rattle.std.specs.Prelude.{slice_get}
use Rattle.std.specs.List.{All}
use Rattle.std.proofs.lemmas.List.Elements.{All-nil, All-push, All-weaker}
use Rattle.sip_uri.specs.declared.uri.Addr.{Addr}
use Rattle.sip_uri.specs.declared.uri.Uri.{Uri}
use Rattle.sip_message.specs.declared.message.Parts.{Parts}
use Rattle.sip_message.specs.declared.message.Request.{Request}
use Rattle.sip_message.specs.declared.message.Response.{Response}
use Rattle.sip_message.specs.Contact.{contacts_of}
use Rattle.sip_message.specs.Repeatable.{CanBeRepeated}
use Rattle.sdp.specs.declared.description.Description.{Description}
use Rattle.dialogs.specs.declared.state.Dialog.{Dialog}
use Rattle.dialogs.specs.Making.{callers_dialog, reached_at}
use Rattle.transactions.specs.declared.change.Entry.{Entry}
use Rattle.transactions.specs.declared.transaction.Transaction.{Transaction}
use Rattle.transactions.specs.Changes.{entered_all}
use Rattle.transactions.specs.Contents as transactions
use Rattle.transactions.specs.Slots.{at}
use Rattle.call_media.specs.declared.end.End.{End}
use Rattle.call_media.specs.declared.end.End.TheVariants.{Callee}
use Rattle.call_core.specs.declared.action.Action.{Action}
use Rattle.call_core.specs.declared.action.Action.TheVariants.{Ack, Bye}
use Rattle.call_core.specs.declared.input.Input.{Input}
use Rattle.call_core.specs.CallRows.{call_row, first_call_row}
use Rattle.call_core.specs.Calls.{awaits_answer, holds_in}
use Rattle.call_core.specs.Plans.{Step}
use Rattle.calls.specs.Carrying.{with_step}
use Rattle.calls.specs.Changes.{beside}
use Rattle.calls.specs.State.{Standing}
use Rattle.calls.specs.declared.change.LegDialog.{LegDialog}
use Rattle.calls.specs.declared.standing_call.OfferRequest.{OfferRequest}
use Rattle.calls.specs.declared.standing_call.StandingCall.{StandingCall}
use Rattle.call_steps.specs.declared.occasion.Occasion.{Occasion}
use Rattle.call_steps.specs.Effects as steps
use Rattle.call_steps.specs.Effects.{no_effect}
use Rattle.call_steps.specs.Messages as said
use Rattle.call_steps.specs.Rows.{begins_by, counts, does, first_asker, first_leg, first_row, first_standing, fork_by, fork_row, forked, late_by, late_row, later_dialog, messages_of, offer_coming, offer_request, offers_by, offers_row, put_with, taken_offer, takes_by, takes_row}
use Rattle.call_steps.specs.Scenes.{first_scene, fork_scene, passed_id, scene}
use Rattle.call_steps.specs.Values.{AskerValue, ComingValue, SceneValue, lent_asker, lent_scene}
use Rattle.message_laws.specs.Addresses.{IsServerAddress, IsSource}
use Rattle.message_laws.specs.Bodies.{IsOfReadIf, KnowsStanding, WasRead, WasReadIn}
use Rattle.message_laws.proofs.Messages.BodyCalls.{call_known, first_known}
use Rattle.message_laws.proofs.Messages.BodySteps.{call_at}
use Rattle.message_laws.proofs.Messages.WrittenLengths.{written_short}
use Rattle.message_laws.specs.Askers.{AskedApart, CameFromSource, IsServed, IsUnanswered, KnowsOffers, KeepsAsked, KeepsRequest}
use Rattle.message_laws.specs.Knowing.{HasMadeTags}
use Rattle.message_laws.specs.Datagrams.{IsOwnDatagram}
use Rattle.message_laws.proofs.Askers.AskedCalls.{ApartFromAll, at_place, beside_taken, push_new}
use Rattle.message_laws.proofs.Askers.Speaking.{AgainIsOwn, CanOkay, FitActions, IsOwnScene, IsShortIf, answer_offer}
use Rattle.message_laws.proofs.Askers.SpokenLines.{CallSpeaks, FitsInput, call_speaks, is_offer_input, says_final, waits_in}
use Rattle.message_laws.proofs.Askers.SpokenSteps.{short_copied, IsBegun, IsBegunAs, IsComing, IsOccasion, SaysStep, SpokenStep, again_copied, differs, does_speak, is_new_by, opens_through, says_step, tag_run, waits_through, free_keeps, keeps_through, kept_new, same_kept}
use Rattle.message_laws.proofs.TokenUse.TokenRuns.{token_run}

-- what is sent in place of a description that was read is short
short_of : (ip : List ℕ) (description : Option Description) → IsOfReadIf ip description → IsShortIf description
short_of ip None h = tt
short_of ip (Some d) h = written_short ip d h

call_short : (ip : List ℕ) → IsServerAddress ip → (calls : Standing) (place : ℕ) (c : StandingCall) (input : Input) (now : ℕ) → KnowsStanding ip calls → slice_get calls.calls place ≡ Some c → WasReadIn input
    → IsShortIf (call_row c.call input calls.pool now).description
call_short ip server calls place c input now k there read =
    short_of ip (call_row c.call input calls.pool now).description (call_known ip server c.call (call_at ip calls.calls place c k.calls there) calls.pool k.pairs now input read).sent

-- ---- nothing is said

-- the offers that are known stay so, where these changes spare what waits
pub same_offers : (before after : List (Option Transaction)) (calls : List StandingCall) → ((id : ℕ) → IsUnanswered before id → IsUnanswered after id) → KnowsOffers before calls → KnowsOffers after calls
same_offers before after calls more k = record {
  sources = k.sources;
  served = All-weaker (IsServed before) (IsServed after) (λ x served waits. more x.asked.id (served waits)) calls k.served;
  apart = k.apart;
}

none_spoken : (table : transactions.Contents) (begun : List Entry) (calls : Standing) (o : Occasion) → IsOccasion table calls.calls o → IsBegun begun → SpokenStep table begun (no_effect calls)
none_spoken table begun calls o k b = record {
  sends = All-nil IsOwnDatagram;
  entries = tt;
  offers = λ now. same_offers table.slots _ calls.calls (λ id a. waits_through table begun [] id now b tt a) k.offers;
  keeps = λ now. same_kept table.slots (entered_all now table (begun ++ [])).slots calls.calls (λ id a. keeps_through table begun [] id now b tt a) k.offers;
}

-- ---- a call takes an input that is no offer

takes_by_speaks : (table : transactions.Contents) (begun : List Entry) (calls : Standing) (o : Occasion) (place : ℕ) (input : Input) (leg : Option LegDialog) (request : Option AskerValue) (c : Option StandingCall)
    → IsOccasion table calls.calls o → IsBegun begun → slice_get calls.calls place ≡ c → FitsInput input → is_offer_input input ≡ false → CanOkay (option_map lent_asker request) → IsComing table request
    → (ip : List ℕ) → IsServerAddress ip → KnowsStanding ip calls → WasReadIn input → SpokenStep table begun (takes_by calls table o place input leg request c)
takes_by_speaks table begun calls o place input leg request None k b there f n okay coming ip server media read = none_spoken table begun calls o k b
takes_by_speaks table begun calls o place input leg request (Some c) k b there f n okay coming ip server media read =
    does_speak table begun calls o place leg request c (call_row c.call input calls.pool o.now) k b there
    (subst (λ offer. CallSpeaks c.call offer (call_row c.call input calls.pool o.now)) n (call_speaks c.call input calls.pool o.now f)) okay coming
    (call_short ip server calls place c input o.now media there read)

pub takes_speak : (table : transactions.Contents) (begun : List Entry) (calls : Standing) (o : Occasion) (place : ℕ) (input : Input) (leg : Option LegDialog) (request : Option AskerValue) → IsOccasion table calls.calls o
    → IsBegun begun → FitsInput input → is_offer_input input ≡ false → CanOkay (option_map lent_asker request) → IsComing table request → (ip : List ℕ) → IsServerAddress ip → KnowsStanding ip calls → WasReadIn input → SpokenStep table begun (takes_row calls table o place input leg request)
unfolding takes_row
takes_speak table begun calls o place input leg request k b f n okay coming ip server media read =
    takes_by_speaks table begun calls o place input leg request (slice_get calls.calls place) k b refl f n okay coming ip server media read

-- ---- an offer, whose request began this transaction

-- what is put beside a call that waits for it
new_apart : (slots : List (Option Transaction)) (calls : List StandingCall) (id : ℕ) (d : StandingCall) → at slots id ≡ None → All (IsServed slots) calls → d.asked.id ≡ id → ApartFromAll d calls
new_apart slots calls id d free served is =
    All-weaker (IsServed slots) (AskedApart d) (λ x own w v e. differs slots x.asked.id id free (own v) (sym e ∙ is)) calls served

module _ (table : transactions.Contents) (begun : List Entry) (calls : Standing) (o : Occasion) (place : ℕ) (leg : Option LegDialog) (end : End) (r : Request) (id : ℕ) (source : Addr) (c : StandingCall) (step : Step) (k : IsOccasion table calls.calls o) (b : IsBegun begun) (opens : IsBegunAs table begun id) (there : slice_get calls.calls place ≡ Some c) (fit : FitActions step.actions) (waits_on : waits_in step.call.standing ≡ true → says_final step.actions ≡ false) (from : IsSource source) (repeats : CanBeRepeated r.parts) (short : IsShortIf step.description) where
  abbrev w : ComingValue
  w = offer_coming leg end r id source c

  abbrev s : SceneValue
  s = scene table o w c step.description

  own_scene : IsOwnScene (lent_scene s) (answer_offer step.actions)
  own_scene = record {
    server = k.server;
    offer = λ e. record { repeats = repeats; from = from; token = tag_run o.tokens c end k.few (at_place (HasMadeTags o.tokens) calls.calls place c k.tags there) };
    request = tt;
    again = again_copied c.answer (at_place (λ (x : StandingCall). AgainIsOwn x.answer) calls.calls place c k.again there);
    short = short_copied step.description short;
  }

  said_own : SaysStep (passed_id table c) s step.actions
  said_own = says_step s (passed_id table c) step.actions own_scene fit

  abbrev x : steps.Effect
  x = does calls table o place w c step

  abbrev after : ℕ → List (Option Transaction)
  after now = (entered_all now table (begun ++ x.dressed.changes)).slots

  abbrev next : StandingCall
  next = beside (put_with w (messages_of table o w c step)) (with_step c step)

  taken : (next.asked ≡ offer_request r id source) × (next.call.standing ≡ step.call.standing)
  taken = beside_taken (put_with w (messages_of table o w c step)) (taken_offer r id source) (with_step c step) refl

  id_is : next.asked.id ≡ id
  id_is = ap (λ (y : OfferRequest). y.id) taken.0

  next_served : (now : ℕ) → IsServed (after now) next
  next_served now waits =
      subst (IsUnanswered (after now)) (sym id_is)
      (opens_through table begun x.dressed.changes id now opens
      (said_own.spares id (λ same. waits_on (subst (λ y. holds_in awaits_answer y ≡ true) taken.1 waits)) tt))

  others_served : (now : ℕ) (y : StandingCall) → IsServed table.slots y → IsServed (after now) y
  others_served now y served waits =
      waits_through table begun x.dressed.changes y.asked.id now b
      (said_own.spares y.asked.id (λ same. absurd (differs table.slots y.asked.id id opens.free (served waits) same)) tt) (served waits)

  others_kept : (now : ℕ) (y : StandingCall) → IsServed table.slots y → KeepsAsked table.slots (after now) y
  others_kept now y served waits =
      keeps_through table begun x.dressed.changes y.asked.id now b
      (said_own.spares y.asked.id (λ same. absurd (differs table.slots y.asked.id id opens.free (served waits) same)) tt) (served waits)

  next_kept : (now : ℕ) → KeepsAsked table.slots (after now) next
  next_kept now waits = subst (KeepsRequest table.slots (after now)) (sym id_is) (free_keeps table.slots (after now) id opens.free)

  offer_speaks : SpokenStep table begun x
  offer_speaks = record {
    sends = said_own.sends;
    entries = said_own.entries;
    offers = λ now. is_new_by (is_some step.call.standing) table.slots (after now) calls.calls place next k.offers (new_apart table.slots calls.calls id next opens.free k.offers.served id_is)
        (subst (λ (y : OfferRequest). IsSource y.source) (sym taken.0) from) (next_served now) (others_served now);
    keeps = λ now. kept_new (is_some step.call.standing) table.slots (after now) calls.calls place next k.offers (next_kept now) (others_kept now);
  }

offers_by_speaks : (table : transactions.Contents) (begun : List Entry) (calls : Standing) (o : Occasion) (place : ℕ) (input : Input) (end : End) (r : Request) (id : ℕ) (source : Addr) (leg : Option LegDialog) (c : Option StandingCall)
    → IsOccasion table calls.calls o → IsBegun begun → IsBegunAs table begun id → slice_get calls.calls place ≡ c → FitsInput input → IsSource source → CanBeRepeated r.parts
    → (ip : List ℕ) → IsServerAddress ip → KnowsStanding ip calls → WasReadIn input → SpokenStep table begun (offers_by calls table o place input end r id source leg c)
offers_by_speaks table begun calls o place input end r id source leg None k b opens there f from repeats ip server media read = none_spoken table begun calls o k b
offers_by_speaks table begun calls o place input end r id source leg (Some c) k b opens there f from repeats ip server media read =
    let speaks = call_speaks c.call input calls.pool o.now f in
    offer_speaks table begun calls o place leg end r id source c (call_row c.call input calls.pool o.now) k b opens there speaks.fit speaks.waits_on from repeats
    (call_short ip server calls place c input o.now media there read)

pub offers_speak : (table : transactions.Contents) (begun : List Entry) (calls : Standing) (o : Occasion) (place : ℕ) (input : Input) (end : End) (r : Request) (id : ℕ) (source : Addr) → IsOccasion table calls.calls o → IsBegun begun
    → IsBegunAs table begun id → FitsInput input → IsSource source → CanBeRepeated r.parts → (ip : List ℕ) → IsServerAddress ip → KnowsStanding ip calls → WasReadIn input → SpokenStep table begun (offers_row calls table o place input end r id source)
unfolding offers_row
offers_speak table begun calls o place input end r id source k b opens f from repeats ip server media read =
    offers_by_speaks table begun calls o place input end r id source (counts calls.calls place end r.parts.cseq.number) (slice_get calls.calls place) k b opens refl f from repeats ip server media read

-- ---- a call that begins

pushed_offers : (b : Bool) (before after : List (Option Transaction)) (calls : List StandingCall) (d : StandingCall) → KnowsOffers before calls → ApartFromAll d calls → CameFromSource d → IsServed after d
    → ((x : StandingCall) → IsServed before x → IsServed after x) → KnowsOffers after (cond b (calls ++ d ∷ []) calls)
pushed_offers true before after calls d k new from served others = record {
  sources = All-push CameFromSource calls d k.sources from;
  served = All-push (IsServed after) calls d (All-weaker (IsServed before) (IsServed after) others calls k.served) served;
  apart = push_new d calls new k.apart;
}
pushed_offers false before after calls d k new from served others = record {
  sources = k.sources;
  served = All-weaker (IsServed before) (IsServed after) others calls k.served;
  apart = k.apart;
}

kept_pushed : (b : Bool) (before after : List (Option Transaction)) (calls : List StandingCall) (d : StandingCall) → KnowsOffers before calls → KeepsAsked before after d
    → ((x : StandingCall) → IsServed before x → KeepsAsked before after x) → All (KeepsAsked before after) (cond b (calls ++ d ∷ []) calls)
kept_pushed true before after calls d k own others = All-push (KeepsAsked before after) calls d (All-weaker (IsServed before) (KeepsAsked before after) others calls k.served) own
kept_pushed false before after calls d k own others = All-weaker (IsServed before) (KeepsAsked before after) others calls k.served

module _ (table : transactions.Contents) (begun : List Entry) (calls : Standing) (o : Occasion) (r : Request) (id : ℕ) (source : Addr) (target : Uri) (offer : Description) (contact : Uri) (k : IsOccasion table calls.calls o) (b : IsBegun begun) (opens : IsBegunAs table begun id) (from : IsSource source) (repeats : CanBeRepeated r.parts) (ip : List ℕ) (server : IsServerAddress ip) (range : o.range.ip ≡ ip) (media : KnowsStanding ip calls) (read : WasRead offer) where
  abbrev first : StandingCall
  first = first_standing (calls.begun + 1) o r id source contact

  abbrev first_step : Step
  first_step = first_call_row first.call offer calls.pool o.now

  abbrev first_said : SceneValue
  first_said = first_scene o (first_asker o r id source) r.max_forwards (first_leg o r target) first_step.description

  first_fit : FitActions first_step.actions
  unfolding first_call_row
  first_fit = (tt, (tt, tt))

  first_final : says_final first_step.actions ≡ false
  unfolding first_call_row
  first_final = refl

  first_short : IsShortIf first_step.description
  first_short = short_of ip first_step.description (first_known ip server first.call (record { address = range; offer = tt; session = tt }) calls.pool media.pairs o.now offer read).sent

  first_own : SaysStep None first_said first_step.actions
  first_own =
      says_step first_said None first_step.actions
      (record { server = k.server; offer = λ e. record { repeats = repeats; from = from; token = token_run o.salt (o.tokens + 1) (omega (arith, k.few)) }; request = tt; again = tt; short = short_copied first_step.description first_short }) first_fit

  abbrev first_effect : steps.Effect
  first_effect = begins_by calls o r id source target offer (Some contact)

  abbrev first_after : ℕ → List (Option Transaction)
  first_after now = (entered_all now table (begun ++ first_effect.dressed.changes)).slots

  first_served : (now : ℕ) → IsServed (first_after now) (with_step first first_step)
  first_served now waits = opens_through table begun first_effect.dressed.changes id now opens (first_own.spares id (λ same. first_final) tt)

  first_others : (now : ℕ) (y : StandingCall) → IsServed table.slots y → IsServed (first_after now) y
  first_others now y served waits =
      waits_through table begun first_effect.dressed.changes y.asked.id now b
      (first_own.spares y.asked.id (λ same. absurd (differs table.slots y.asked.id id opens.free (served waits) same)) tt) (served waits)

  first_kept : (now : ℕ) (y : StandingCall) → IsServed table.slots y → KeepsAsked table.slots (first_after now) y
  first_kept now y served waits =
      keeps_through table begun first_effect.dressed.changes y.asked.id now b
      (first_own.spares y.asked.id (λ same. absurd (differs table.slots y.asked.id id opens.free (served waits) same)) tt) (served waits)

  first_speaks_with : SpokenStep table begun first_effect
  first_speaks_with = record {
    sends = first_own.sends;
    entries = first_own.entries;
    offers = λ now. pushed_offers (is_some first_step.call.standing) table.slots (first_after now) calls.calls (with_step first first_step) k.offers
        (new_apart table.slots calls.calls id (with_step first first_step) opens.free k.offers.served refl) from (first_served now) (first_others now);
    keeps = λ now. kept_pushed (is_some first_step.call.standing) table.slots (first_after now) calls.calls (with_step first first_step) k.offers
        (λ waits. free_keeps table.slots (first_after now) id opens.free) (first_kept now);
  }

begins_by_speaks : (table : transactions.Contents) (begun : List Entry) (calls : Standing) (o : Occasion) (r : Request) (id : ℕ) (source : Addr) (target : Uri) (offer : Description) (contact : Option Uri)
    → IsOccasion table calls.calls o → IsBegun begun → IsBegunAs table begun id → IsSource source → CanBeRepeated r.parts → (ip : List ℕ) → IsServerAddress ip → o.range.ip ≡ ip → KnowsStanding ip calls → WasRead offer → SpokenStep table begun (begins_by calls o r id source target offer contact)
begins_by_speaks table begun calls o r id source target offer None k b opens from repeats ip server range media read = none_spoken table begun calls o k b
begins_by_speaks table begun calls o r id source target offer (Some contact) k b opens from repeats ip server range media read = first_speaks_with table begun calls o r id source target offer contact k b opens from repeats ip server range media read

pub first_speaks : (table : transactions.Contents) (begun : List Entry) (calls : Standing) (o : Occasion) (r : Request) (id : ℕ) (source : Addr) (target : Uri) (offer : Description) → IsOccasion table calls.calls o → IsBegun begun
    → IsBegunAs table begun id → IsSource source → CanBeRepeated r.parts → (ip : List ℕ) → IsServerAddress ip → o.range.ip ≡ ip → KnowsStanding ip calls → WasRead offer → SpokenStep table begun (first_row calls o r id source target offer)
unfolding first_row
first_speaks table begun calls o r id source target offer k b opens from repeats ip server range media read = begins_by_speaks table begun calls o r id source target offer (reached_at (contacts_of r.headers)) k b opens from repeats ip server range media read

-- ---- a 2xx that no call takes

alone_speaks : (table : transactions.Contents) (begun : List Entry) (calls : Standing) (o : Occasion) (leg : Dialog) (actions : List Action) → IsOccasion table calls.calls o → IsBegun begun → FitActions actions
    → SpokenStep table begun (forked calls (said.messages (fork_scene o leg) None actions))
alone_speaks table begun calls o leg actions k b f =
    let own = says_step (fork_scene o leg) None actions (record { server = k.server; offer = λ e. tt; request = tt; again = tt; short = tt }) f in
    let later = (said.messages (fork_scene o leg) None actions).dressed.changes in
    record {
      sends = own.sends;
      entries = own.entries;
      offers = λ now. same_offers table.slots _ calls.calls (λ id a. waits_through table begun later id now b (own.spares id tt tt) a) k.offers;
      keeps = λ now. same_kept table.slots (entered_all now table (begun ++ later)).slots calls.calls (λ id a. keeps_through table begun later id now b (own.spares id tt tt) a) k.offers;
    }

fork_by_speaks : (table : transactions.Contents) (begun : List Entry) (calls : Standing) (o : Occasion) (asked : Parts) (response : Response) (contact : Option Uri) → IsOccasion table calls.calls o → IsBegun begun
    → SpokenStep table begun (fork_by calls o asked response contact)
fork_by_speaks table begun calls o asked response None k b = none_spoken table begun calls o k b
fork_by_speaks table begun calls o asked response (Some target) k b = alone_speaks table begun calls o (callers_dialog asked response target) (Ack Callee ∷ Bye Callee ∷ []) k b (tt, (tt, tt))

pub fork_speaks : (table : transactions.Contents) (begun : List Entry) (calls : Standing) (o : Occasion) (asked : Parts) (response : Response) → IsOccasion table calls.calls o → IsBegun begun
    → SpokenStep table begun (fork_row calls o asked response)
unfolding fork_row
fork_speaks table begun calls o asked response k b = fork_by_speaks table begun calls o asked response (reached_at (contacts_of response.headers)) k b

late_by_speaks : (table : transactions.Contents) (begun : List Entry) (calls : Standing) (o : Occasion) (asked : Parts) (response : Response) (contact : Option Uri) → IsOccasion table calls.calls o → IsBegun begun
    → SpokenStep table begun (late_by calls o asked response contact)
late_by_speaks table begun calls o asked response None k b = none_spoken table begun calls o k b
late_by_speaks table begun calls o asked response (Some target) k b = alone_speaks table begun calls o (later_dialog asked response target) (Ack Callee ∷ []) k b (tt, tt)

pub late_speaks : (table : transactions.Contents) (begun : List Entry) (calls : Standing) (o : Occasion) (asked : Parts) (response : Response) → IsOccasion table calls.calls o → IsBegun begun
    → SpokenStep table begun (late_row calls o asked response)
unfolding late_row
late_speaks table begun calls o asked response k b = late_by_speaks table begun calls o asked response (reached_at (contacts_of response.headers)) k b
