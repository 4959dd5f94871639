-- What an event sends is the server's own, and what is known of the requests that wait for its responses: of each kind
-- of effect.
use Rattle.std.proofs.Common.{◌≡◌, ℕ, ◌<◌, ◌^◌, Bool, true, false, cond, List, [], ◌∷◌, find, Option, Some, None, option_map, refl, sym, subst, inl, inr}
use Rattle.std.specs.Prelude.{slice_get, ◌==◌}
use Rattle.std.specs.List.{All}
use Rattle.std.proofs.lemmas.List.Elements.{All-append, All-head, All-nil, All-set, All-tail, All-weaker}
use Rattle.events.specs.declared.sent.Sent.{Sent}
use Rattle.sip_message.specs.declared.message.Request.{Request}
use Rattle.transactions.specs.declared.change.Entry.{Entry}
use Rattle.transactions.specs.declared.outcome.Outgoing.{Outgoing}
use Rattle.transactions.specs.declared.transaction.Transaction.{Transaction}
use Rattle.transactions.specs.Changes.{answer_of, entered_all}
use Rattle.transactions.specs.Slots.{at}
use Rattle.call_core.specs.declared.input.Input.{Input}
use Rattle.calls.specs.Changes.{unchanged}
use Rattle.calls.specs.declared.change.LegDialog.{LegDialog}
use Rattle.calls.specs.declared.standing_call.StandingCall.{StandingCall}
use Rattle.calls.specs.Carrying.{changed_at, with_dialog_at}
use Rattle.call_steps.specs.Effects as steps
use Rattle.call_steps.specs.Values.{lent_asker}
use Rattle.plans.specs.declared.acks.KeptAck.{KeptAck}
use Rattle.plans.specs.Office.{Office}
use Rattle.plans.specs.declared.setting.Setting.{Setting}
use Rattle.plans.specs.CallRows.{acks_again, again, asker, occasion, of_plan, puts_if, takes, takes_request, with_step}
use Rattle.plans.specs.Effect.{Effect}
use Rattle.plans.specs.Plan.{Plan, goes, moves, nothing}
use Rattle.message_laws.specs.Bodies.{KnowsDescriptions, WasReadIn}
use Rattle.message_laws.specs.Askers.{CameFromSource, IsServed, IsUnanswered, KeepsAsked, KeepsRequest, KnowsAskers, KnowsOffers}
use Rattle.message_laws.specs.Knowing.{HasMadeTags, KnowsTokens}
use Rattle.message_laws.specs.Datagrams.{IsOwnDatagram, IsOwnMessage}
use Rattle.message_laws.specs.Sending.{AckWasSent, AnswerWasSent, CallWasSent, KnowsSent, LastWasSent, WasSent, WasSentIf}
use Rattle.message_laws.proofs.Askers.AskedCalls.{at_place, dialog_same, same_on}
use Rattle.message_laws.proofs.Messages.Repeats.{one_own}
use Rattle.message_laws.proofs.Messages.Replying.{IsReply}
use Rattle.message_laws.proofs.Askers.ServedRequests.{SpareAll, all_waits, spare_joined}
use Rattle.message_laws.proofs.Askers.Speaking.{AgainIsOwn, CanOkay, EnterAsked, asked_joined}
use Rattle.message_laws.proofs.Askers.SpokenLines.{FitsInput, is_offer_input}
use Rattle.message_laws.proofs.Askers.SpokenOffers.{same_offers, takes_speak}
use Rattle.message_laws.proofs.Askers.SpokenSteps.{IsBegun, IsOccasion, SpokenStep, differs, goes_on_by, keeps_all, same_kept}

-- ---- what is known before an event

abbrev pub OwnIf : Option (List ℕ) → Type 0
OwnIf None = Unit {0}
OwnIf (Some bytes) = IsOwnMessage bytes

abbrev pub LastIsOwn : Option Transaction → Type 0
LastIsOwn None = Unit {0}
LastIsOwn (Some t) = OwnIf t.last

abbrev pub AckIsOwn : KeptAck → Type 0
AckIsOwn ack = IsOwnDatagram ack.sent

abbrev pub AnswerIsOwn : StandingCall → Type 0
AnswerIsOwn c = AgainIsOwn c.answer

-- of the requests, the tags, and of what would be sent again
pub record IsReady (s : Office) : Type 0 where
  pub askers : KnowsAskers s
  pub tags : All (HasMadeTags s.tokens) s.calls.calls
  pub few : s.tokens < 2 ^ 63
  pub last : All LastIsOwn s.table.slots
  pub acks : All AckIsOwn s.acks
  pub again : All AnswerIsOwn s.calls.calls
  pub media : KnowsDescriptions s

sent_is_own : (sent : List Sent) (bytes : List ℕ) → All IsOwnDatagram sent → WasSent sent bytes → IsOwnMessage bytes
sent_is_own [] bytes all h = absurd h
sent_is_own (d ∷ sent) bytes all (inl same) = subst IsOwnMessage same (All-head IsOwnDatagram d sent all)
sent_is_own (d ∷ sent) bytes all (inr h) = sent_is_own sent bytes (All-tail IsOwnDatagram d sent all) h

sent_if_own : (sent : List Sent) (bytes : Option (List ℕ)) → All IsOwnDatagram sent → WasSentIf sent bytes → OwnIf bytes
sent_if_own sent None all h = tt
sent_if_own sent (Some bytes) all h = sent_is_own sent bytes all h

last_is_own : (sent : List Sent) → All IsOwnDatagram sent → (t : Option Transaction) → LastWasSent sent t → LastIsOwn t
last_is_own sent all None h = tt
last_is_own sent all (Some t) h = sent_if_own sent t.last all h

answer_is_own : (sent : List Sent) → All IsOwnDatagram sent → (answer : Option Sent) → AnswerWasSent sent answer → AgainIsOwn answer
answer_is_own sent all None h = tt
answer_is_own sent all (Some answer) h = sent_is_own sent answer.bytes all h

pub is_ready : (s : Office) (sent : List Sent) → KnowsAskers s → KnowsTokens s → s.tokens < 2 ^ 63 → KnowsSent s sent → All IsOwnDatagram sent → KnowsDescriptions s → IsReady s
is_ready s sent k tokens few was all media = record {
  media = media;
  askers = k;
  tags = tokens.calls.tags;
  few = few;
  last = All-weaker (LastWasSent sent) LastIsOwn (last_is_own sent all) s.table.slots was.slots;
  acks = All-weaker (AckWasSent sent) AckIsOwn (λ a h. sent_is_own sent a.sent.bytes all h) s.acks was.acks;
  again = All-weaker (CallWasSent sent) AnswerIsOwn (λ c h. answer_is_own sent all c.answer h) s.calls.calls was.calls;
}

pub occasion_known : (s : Office) (e : Setting) → IsReady s → IsOccasion s.table s.calls.calls (occasion s e)
occasion_known s e k = record { slots = k.askers.slots; offers = k.askers.offers; tags = k.tags; few = k.few; again = k.again; server = k.askers.server }

-- ---- an effect

pub record AskedEffect (s : Office) (x : Effect) : Type 0 where
  pub sends : All IsOwnDatagram x.plan.sends
  pub entries : EnterAsked x.plan.changes
  pub offers : (now : ℕ) → KnowsOffers (entered_all now s.table x.plan.changes).slots x.calls.standing.calls
  pub keeps : (now : ℕ) → All (KeepsAsked s.table.slots (entered_all now s.table x.plan.changes).slots) x.calls.standing.calls

-- changes that spare what waits
abbrev pub SpareOpen : Office → List Entry → Type 0
SpareOpen s changes = (id : ℕ) → IsUnanswered s.table.slots id → SpareAll id changes

offers_after : (s : Office) (changes : List Entry) (now : ℕ) → IsReady s → SpareOpen s changes → KnowsOffers (entered_all now s.table changes).slots s.calls.calls
offers_after s changes now k spares = same_offers s.table.slots _ s.calls.calls (λ id a. all_waits now s.table changes id (spares id a) a) k.askers.offers

kept_after : (s : Office) (changes : List Entry) (now : ℕ) → IsReady s → SpareOpen s changes → All (KeepsAsked s.table.slots (entered_all now s.table changes).slots) s.calls.calls
kept_after s changes now k spares = same_kept s.table.slots (entered_all now s.table changes).slots s.calls.calls (λ id a. keeps_all s.table changes id now (spares id a) a) k.askers.offers

pub plan_asks : (s : Office) → IsReady s → (p : Plan) → All IsOwnDatagram p.sends → EnterAsked p.changes → SpareOpen s p.changes → AskedEffect s (of_plan s p)
plan_asks s k p sends entries spares = record { sends = sends; entries = entries; offers = λ now. offers_after s p.changes now k spares; keeps = λ now. kept_after s p.changes now k spares }

pub nothing_asks : (s : Office) → IsReady s → (taken : _) → AskedEffect s (of_plan s (nothing taken))
nothing_asks s k taken = plan_asks s k (nothing taken) (All-nil IsOwnDatagram) tt (λ id a. tt)

-- ---- what the transactions send

abbrev pub GoesOwn : Option Outgoing → Type 0
GoesOwn send = All IsOwnDatagram (goes send)

pub moves_ask : (s : Office) → IsReady s → (begun : List Entry) (send : Option Outgoing) → IsBegun begun → GoesOwn send → AskedEffect s (of_plan s (moves begun send))
moves_ask s k begun send b own = plan_asks s k (moves begun send) own b.asked (λ id a. b.spares id)

again_own : (id : ℕ) (acks : List KeptAck) → All AckIsOwn acks → All IsOwnDatagram (again (find (λ (a : KeptAck). a.id == id) acks))
again_own id [] all = All-nil IsOwnDatagram
again_own id (ack ∷ acks) all = found_own (ack.id == id) (All-head AckIsOwn ack acks all) (again_own id acks (All-tail AckIsOwn ack acks all))
  where
    found_own : (b : Bool) → AckIsOwn ack → All IsOwnDatagram (again (find (λ (a : KeptAck). a.id == id) acks)) → All IsOwnDatagram (again (cond b (Some ack) (find (λ (a : KeptAck). a.id == id) acks)))
    found_own true own rest = one_own ack.sent own
    found_own false own rest = rest

pub acks_ask : (s : Office) → IsReady s → (begun : List Entry) (id : ℕ) → IsBegun begun → AskedEffect s (of_plan s (acks_again s begun id))
acks_ask s k begun id b = plan_asks s k (acks_again s begun id) (again_own id s.acks k.acks) b.asked (λ i a. b.spares i)

-- ---- a step of a call

pub step_asks : (s : Office) (acks : List KeptAck) (begun : List Entry) (send : Option Outgoing) (id : Option ℕ) (x : steps.Effect) → IsBegun begun → GoesOwn send → SpokenStep s.table begun x
    → AskedEffect s (with_step acks begun send id x)
step_asks s acks begun send id x b own said = record {
  sends = All-append IsOwnDatagram (goes send) x.dressed.sends own said.sends;
  entries = asked_joined begun x.dressed.changes b.asked said.entries;
  offers = said.offers;
  keeps = said.keeps;
}

pub takes_ask : (s : Office) → IsReady s → (e : Setting) (begun : List Entry) (send : Option Outgoing) (id : Option ℕ) (place : ℕ) (input : Input) (leg : Option LegDialog) → IsBegun begun → GoesOwn send → FitsInput input
    → is_offer_input input ≡ false → WasReadIn input → AskedEffect s (takes s e begun send id place input leg)
takes_ask s k e begun send id place input leg b own f n read =
    step_asks s s.acks begun send id _ b own (takes_speak s.table begun s.calls (occasion s e) place input leg None (occasion_known s e k) b f n tt tt s.range.ip k.media.address k.media.calls read)

pub request_asks : (s : Office) → IsReady s → (e : Setting) (r : Request) (begun : List Entry) (id place : ℕ) (input : Input) (leg : Option LegDialog) (tag : List ℕ) → IsBegun begun → FitsInput input
    → is_offer_input input ≡ false → CanOkay (option_map lent_asker (Some (asker r e id tag))) → at s.table.slots id ≡ None → WasReadIn input → AskedEffect s (takes_request s e r begun id place input leg tag)
request_asks s k e r begun id place input leg tag b f n okay free read =
    step_asks s s.acks begun None None _ b (All-nil IsOwnDatagram) (takes_speak s.table begun s.calls (occasion s e) place input leg _ (occasion_known s e k) b f n okay free s.range.ip k.media.address k.media.calls read)

-- ---- a reply

reply_spares : (s : Office) (begun : List Entry) (id : ℕ) (p : Plan) → IsReply begun id p → IsBegun begun → at s.table.slots id ≡ None → SpareOpen s p.changes
reply_spares s begun id p is b free =
    λ other a. subst (SpareAll other) (sym is.changes) (spare_joined other begun (answer_of id is.response ∷ []) (b.spares other) (λ same. absurd (differs s.table.slots other id free a same), tt))

reply_entries : (begun : List Entry) (id : ℕ) (p : Plan) → IsReply begun id p → IsBegun begun → EnterAsked p.changes
reply_entries begun id p is b = subst EnterAsked (sym is.changes) (asked_joined begun (answer_of id is.response ∷ []) b.asked (tt, tt))

pub reply_asks : (s : Office) → IsReady s → (begun : List Entry) (id : ℕ) (p : Plan) → IsReply begun id p → IsBegun begun → at s.table.slots id ≡ None → All IsOwnDatagram p.sends → AskedEffect s (of_plan s p)
reply_asks s k begun id p is b free own = plan_asks s k p own (reply_entries begun id p is b) (reply_spares s begun id p is b free)

-- ---- a dialog alone is put

put_offers : (slots : List (Option Transaction)) (calls : List StandingCall) (place : ℕ) (leg : LegDialog) (c : Option StandingCall) → slice_get calls place ≡ c → KnowsOffers slots calls
    → KnowsOffers slots (changed_at (with_dialog_at leg.end leg.dialog) place calls c)
put_offers slots calls place leg None there k = k
put_offers slots calls place leg (Some c) there k =
    let d = with_dialog_at leg.end leg.dialog c in
    let on = same_on c d (dialog_same leg c) in
    goes_on_by true slots slots calls place c d there k on (at_place CameFromSource calls place c k.sources there)
    (λ waits. at_place (IsServed slots) calls place c k.served there (on.waits waits)) (λ x own apart. own)

puts_offers : (slots : List (Option Transaction)) (s : Office) (place : ℕ) (leg : Option LegDialog) → KnowsOffers slots s.calls.calls → KnowsOffers slots (puts_if s.calls place leg).calls
puts_offers slots s place None k = k
puts_offers slots s place (Some leg) k = put_offers slots s.calls.calls place leg (slice_get s.calls.calls place) refl k

put_kept : (before after : List (Option Transaction)) (calls : List StandingCall) (place : ℕ) (leg : LegDialog) (c : Option StandingCall) → slice_get calls place ≡ c → All (KeepsAsked before after) calls
    → All (KeepsAsked before after) (changed_at (with_dialog_at leg.end leg.dialog) place calls c)
put_kept before after calls place leg None there all = all
put_kept before after calls place leg (Some c) there all =
    let d = with_dialog_at leg.end leg.dialog c in
    let on = same_on c d (dialog_same leg c) in
    All-set (KeepsAsked before after) calls place d (λ waits. subst (KeepsRequest before after) (sym on.id) (at_place (KeepsAsked before after) calls place c all there (on.waits waits))) all

puts_kept : (before after : List (Option Transaction)) (s : Office) (place : ℕ) (leg : Option LegDialog) → All (KeepsAsked before after) s.calls.calls → All (KeepsAsked before after) (puts_if s.calls place leg).calls
puts_kept before after s place None all = all
puts_kept before after s place (Some leg) all = put_kept before after s.calls.calls place leg (slice_get s.calls.calls place) refl all

-- a reply in a dialog
pub put_asks : (s : Office) → IsReady s → (begun : List Entry) (id place : ℕ) (leg : Option LegDialog) (p : Plan) → IsReply begun id p → IsBegun begun → at s.table.slots id ≡ None → All IsOwnDatagram p.sends
    → AskedEffect s (record { plan = p; calls = unchanged (puts_if s.calls place leg); acks = s.acks })
put_asks s k begun id place leg p is b free own = record {
  sends = own;
  entries = reply_entries begun id p is b;
  offers = λ now. puts_offers _ s place leg (offers_after s p.changes now k (reply_spares s begun id p is b free));
  keeps = λ now. puts_kept s.table.slots (entered_all now s.table p.changes).slots s place leg (kept_after s p.changes now k (reply_spares s begun id p is b free));
}
