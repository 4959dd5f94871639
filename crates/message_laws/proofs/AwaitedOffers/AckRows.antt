-- What each event results in: an ACK is kept for a transaction that had its 2xx, until that ends.
use Rattle.std.proofs.Common.{◌≡◌, ◌≢◌, ◌∙◌, ℕ, ◌==◌, Bool, true, false, cond, not, List, [], ◌∷◌, ◌++◌, codes, Option, Some, None, is_some, position, refl, ap, sym, subst, inl, inr}
use Rattle.std.specs.Prelude.{◌⊎◌, slice_get}
use Rattle.std.specs.List.{All}
use Rattle.std.proofs.lemmas.Bool.{cases_eq, eq-eqb, eqb-true, false≢true}
use Rattle.std.proofs.lemmas.List.Elements.{All-cons, All-head, All-nil, All-push, All-tail, All-weaker}
use Rattle.sip_uri.specs.declared.uri.Addr.{Addr}
use Rattle.sip_uri.specs.declared.uri.Uri.{Uri}
use Rattle.sip_message.specs.declared.message.Message.{Message}
use Rattle.sip_message.specs.declared.message.Message.TheVariants as Kinds
use Rattle.sip_message.specs.declared.message.Parts.{Parts}
use Rattle.sip_message.specs.declared.message.Request.{Request}
use Rattle.sip_message.specs.declared.message.Response.{Response}
use Rattle.sip_message.specs.Contact.{contacts_of}
use Rattle.sip_message.specs.Words.{is_method}
use Rattle.sdp.specs.declared.description.Description.{Description}
use Rattle.dialogs.specs.Making.{reached_at}
use Rattle.events.specs.declared.event.What.{What}
use Rattle.events.specs.declared.sent.Sent.{Sent}
use Rattle.transaction_machines.specs.declared.input.Input.TheVariants as machine_inputs
use Rattle.transaction_machines.specs.declared.step.Starts.TheVariants.{NoTimer}
use Rattle.transaction_machines.specs.Machines.{row_of}
use Rattle.transactions.specs.declared.change.Entry.{Entry}
use Rattle.transactions.specs.declared.change.Entry.TheVariants.{Leaves, Opens}
use Rattle.transactions.specs.declared.outcome.Fired.{Fired}
use Rattle.transactions.specs.declared.outcome.Fired.TheVariants as fires
use Rattle.transactions.specs.declared.outcome.Outgoing.{Outgoing}
use Rattle.transactions.specs.declared.outcome.Verdict.TheVariants as verdicts
use Rattle.transactions.specs.declared.transaction.TimerId.{TimerId}
use Rattle.transactions.specs.declared.transaction.Transaction.{Transaction}
use Rattle.transactions.specs.Changes.{answer_of, change_of, entered_all, fire_of, request_change, response_change}
use Rattle.transactions.specs.Contents as transactions
use Rattle.transactions.specs.Contents.{ack_at, fired_of, response_input}
use Rattle.transactions.specs.Slots.{at, is_answered, is_asked}
use Rattle.transactions.specs.Transactions.{served}
use Rattle.call_media.specs.declared.end.End.{End}
use Rattle.call_core.specs.declared.input.Input.{Input}
use Rattle.call_core.specs.declared.input.Input.TheVariants as inputs
use Rattle.calls.specs.State.{Standing}
use Rattle.calls.specs.declared.change.LegDialog.{LegDialog}
use Rattle.calls.specs.declared.standing_call.StandingCall.{StandingCall}
use Rattle.call_steps.specs.declared.occasion.Occasion.{Occasion}
use Rattle.call_steps.specs.Effects as steps
use Rattle.call_rules.specs.Content.{described}
use Rattle.call_steps.specs.Rows.{answers_leg, begins_by, counts, first_row, fork_by, fork_row, late_by, late_row, offers_by, offers_row, takes_by, takes_row}
use Rattle.call_steps.specs.Values.{AskerValue}
use Rattle.plans.specs.Office.{Office}
use Rattle.plans.specs.declared.acks.KeptAck.{KeptAck}
use Rattle.plans.specs.declared.setting.Setting.{Setting}
use Rattle.plans.specs.CallRows.{acks_with, occasion, with_step}
use Rattle.plans.specs.Effect.{Effect, without_ack}
use Rattle.plans.specs.Plan.{Plan}
use Rattle.event_rows.specs.Rows.{ends, no_source, setting, what_row}
use Rattle.message_laws.specs.Acks.{HasAck, IsAnswered, IsKept, KnowsAcks, had_final}
use Rattle.message_laws.proofs.AwaitedOffers.Ending.{ended_answered, ended_gone, fired_answered, fires_other, is_end, response_line, success_answered}
use Rattle.message_laws.proofs.AwaitedOffers.Firing.{NoneFires, all_answered, fires_append, is_fires, said_tells}
use Rattle.message_laws.proofs.Messages.MessageViews.{IsResponseTo, MessageRow, acknowledged, begun_by, dropped, moved, requested, responded}
use Rattle.message_laws.proofs.Messages.Replying.{IsReply, okay_reply, refuses_reply, row_reply}
use Rattle.message_laws.proofs.Messages.RequestViews.{RequestRow, asks_callee, cancelled, counted_alone, left, passed_on, refreshed, replied, unfit}
use Rattle.message_laws.proofs.Messages.ResponseViews.{ResponseRow, ack_alone, again, answered, fork, provisional, refused, silent}
use Rattle.message_laws.proofs.TokenUse.Rows.{answered_client}
use Rattle.message_laws.proofs.AwaitedOffers.WaitRows.{response_told, told_response}
use Rattle.message_laws.proofs.Messages.Views.{DatagramRow, DueRow, WhatRow, call_fired, came, due, ended, fired_alone, idle, listed, ignored, sent_again, stopped, timed, unfit_branched, unreadable, was_received, what_view}

-- ---- an effect

abbrev Gone : Office → Effect → ℕ → ℕ → Type 0
Gone s x now id = at (entered_all now s.table x.plan.changes).slots id ≡ None

pub record Acks (s : Office) (x : Effect) : Type 0 where
  pub kept : (now : ℕ) → All (IsKept (entered_all now s.table x.plan.changes).slots) x.acks
  pub lasts : (now id : ℕ) → HasAck s.acks id → HasAck x.acks id ⊎ Gone s x now id

-- what has these changes and the ACKs as they were
pub quiet : (s : Office) → KnowsAcks s → (x : Effect) → x.acks ≡ s.acks → NoneFires x.plan.changes → Acks s x
quiet s k x same none = record {
  kept = λ now. subst (All (IsKept (entered_all now s.table x.plan.changes).slots)) (sym same)
      (All-weaker (IsKept s.table.slots) (IsKept (entered_all now s.table x.plan.changes).slots) (λ ack. all_answered now s.table x.plan.changes ack.id none) s.acks k);
  lasts = λ now id has. inl (subst (λ acks. HasAck acks id) (sym same) has);
}

-- ---- lists of ACKs

has_left : (xs ys : List KeptAck) (id : ℕ) → HasAck xs id → HasAck (xs ++ ys) id
has_left [] ys id h = absurd h
has_left (x ∷ xs) ys id (inl is) = inl is
has_left (x ∷ xs) ys id (inr h) = inr (has_left xs ys id h)

has_last : (xs : List KeptAck) (x : KeptAck) → HasAck (xs ++ x ∷ []) x.id
has_last [] x = inl refl
has_last (y ∷ xs) x = inr (has_last xs x)

filtered_by : (x : KeptAck) (xs : List KeptAck) (id gone : ℕ) (b : Bool) → (x.id == gone) ≡ b → id ≢ gone → (x.id ≡ id) ⊎ HasAck xs id → HasAck (cond (not b) (x ∷ xs) xs) id
filtered_by x xs id gone true is differ (inl same) = absurd (differ (sym same ∙ eqb-true x.id gone is))
filtered_by x xs id gone true is differ (inr h) = h
filtered_by x xs id gone false is differ h = h

has_filtered : (acks : List KeptAck) (id gone : ℕ) → id ≢ gone → HasAck acks id → HasAck (without_ack gone acks) id
has_filtered [] id gone differ h = h
has_filtered (x ∷ acks) id gone differ (inl same) = filtered_by x (without_ack gone acks) id gone (x.id == gone) refl differ (inl same)
has_filtered (x ∷ acks) id gone differ (inr h) = filtered_by x (without_ack gone acks) id gone (x.id == gone) refl differ (inr (has_filtered acks id gone differ h))

answered_of : (slots : List (Option Transaction)) (acks : List KeptAck) (id : ℕ) → All (IsKept slots) acks → HasAck acks id → IsAnswered slots id
answered_of slots [] id k h = absurd h
answered_of slots (x ∷ acks) id k (inl same) = subst (IsAnswered slots) same (All-head (IsKept slots) x acks k)
answered_of slots (x ∷ acks) id k (inr h) = answered_of slots acks id (All-tail (IsKept slots) x acks k) h

-- those of other transactions
others_by : (slots : List (Option Transaction)) (x : KeptAck) (xs : List KeptAck) (gone : ℕ) (b : Bool) → (x.id == gone) ≡ b → (x.id ≢ gone → IsKept slots x) → All (IsKept slots) xs
    → All (IsKept slots) (cond (not b) (x ∷ xs) xs)
others_by slots x xs gone true is h each = each
others_by slots x xs gone false is h each = All-cons (IsKept slots) x xs (h (λ same. false≢true (sym is ∙ eq-eqb x.id gone same))) each

others_kept : (before slots : List (Option Transaction)) (acks : List KeptAck) (gone : ℕ) → ((id : ℕ) → id ≢ gone → IsAnswered before id → IsAnswered slots id) → All (IsKept before) acks
    → All (IsKept slots) (without_ack gone acks)
others_kept before slots [] gone f k = All-nil (IsKept slots)
others_kept before slots (x ∷ acks) gone f k =
    others_by slots x (without_ack gone acks) gone (x.id == gone) refl (λ differ. f x.id differ (All-head (IsKept before) x acks k)) (others_kept before slots acks gone f (All-tail (IsKept before) x acks k))

-- ---- steps of calls

takes_by_tells : (calls : Standing) (table : transactions.Contents) (o : Occasion) (place : ℕ) (input : Input) (leg : Option LegDialog) (request : Option AskerValue) (c : Option StandingCall)
    → NoneFires (takes_by calls table o place input leg request c).dressed.changes
takes_by_tells calls table o place input leg request None = tt
takes_by_tells calls table o place input leg request (Some c) = said_tells _ _ _

takes_tells : (calls : Standing) (table : transactions.Contents) (o : Occasion) (place : ℕ) (input : Input) (leg : Option LegDialog) (request : Option AskerValue)
    → NoneFires (takes_row calls table o place input leg request).dressed.changes
unfolding takes_row
takes_tells calls table o place input leg request = takes_by_tells calls table o place input leg request (slice_get calls.calls place)

offers_by_tells : (calls : Standing) (table : transactions.Contents) (o : Occasion) (place : ℕ) (input : Input) (end : End) (r : Request) (id : ℕ) (source : Addr) (leg : Option LegDialog) (c : Option StandingCall)
    → NoneFires (offers_by calls table o place input end r id source leg c).dressed.changes
offers_by_tells calls table o place input end r id source leg None = tt
offers_by_tells calls table o place input end r id source leg (Some c) = said_tells _ _ _

offers_tells : (calls : Standing) (table : transactions.Contents) (o : Occasion) (place : ℕ) (input : Input) (end : End) (r : Request) (id : ℕ) (source : Addr)
    → NoneFires (offers_row calls table o place input end r id source).dressed.changes
unfolding offers_row
offers_tells calls table o place input end r id source = offers_by_tells calls table o place input end r id source (counts calls.calls place end r.parts.cseq.number) (slice_get calls.calls place)

begins_tells : (calls : Standing) (o : Occasion) (r : Request) (id : ℕ) (source : Addr) (target : Uri) (offer : Description) (contact : Option Uri)
    → NoneFires (begins_by calls o r id source target offer contact).dressed.changes
begins_tells calls o r id source target offer None = tt
begins_tells calls o r id source target offer (Some contact) = said_tells _ _ _

first_tells : (calls : Standing) (o : Occasion) (r : Request) (id : ℕ) (source : Addr) (target : Uri) (offer : Description) → NoneFires (first_row calls o r id source target offer).dressed.changes
unfolding first_row
first_tells calls o r id source target offer = begins_tells calls o r id source target offer (reached_at (contacts_of r.headers))

fork_by_tells : (calls : Standing) (o : Occasion) (asked : Parts) (response : Response) (contact : Option Uri) → NoneFires (fork_by calls o asked response contact).dressed.changes
fork_by_tells calls o asked response None = tt
fork_by_tells calls o asked response (Some target) = said_tells _ _ _

fork_tells : (calls : Standing) (o : Occasion) (asked : Parts) (response : Response) → NoneFires (fork_row calls o asked response).dressed.changes
unfolding fork_row
fork_tells calls o asked response = fork_by_tells calls o asked response (reached_at (contacts_of response.headers))

late_by_tells : (calls : Standing) (o : Occasion) (asked : Parts) (response : Response) (contact : Option Uri) → NoneFires (late_by calls o asked response contact).dressed.changes
late_by_tells calls o asked response None = tt
late_by_tells calls o asked response (Some target) = said_tells _ _ _

late_tells : (calls : Standing) (o : Occasion) (asked : Parts) (response : Response) → NoneFires (late_row calls o asked response).dressed.changes
unfolding late_row
late_tells calls o asked response = late_by_tells calls o asked response (reached_at (contacts_of response.headers))

-- ---- replies

reply_tells : (begun : List Entry) (id : ℕ) (p : Plan) → IsReply begun id p → NoneFires begun → NoneFires p.changes
reply_tells begun id p is none = subst (λ changes. NoneFires changes) (sym is.changes) (fires_append begun (answer_of id is.response ∷ []) none tt)

-- ---- the rows

request_acks : (s : Office) → KnowsAcks s → (e : Setting) (r : Request) (begun : List Entry) (id : ℕ) (x : Effect) → NoneFires begun → RequestRow s e r begun id x → Acks s x
request_acks s k e r begun id x none (replied reply why is) = subst (Acks s) (sym is) (quiet s k _ refl (reply_tells begun id _ (row_reply s e r begun id reply) none))
request_acks s k e r begun id x none (unfit reason is) = subst (Acks s) (sym is) (quiet s k _ refl (reply_tells begun id _ (refuses_reply s e r begun id reason) none))
request_acks s k e r begun id x none (asks_callee to offer why is) = subst (Acks s) (sym is) (quiet s k _ refl (fires_append begun _ none (first_tells s.calls _ r id e.source to offer)))
request_acks s k e r begun id x none (cancelled other place named_is found is) = subst (Acks s) (sym is) (quiet s k _ refl (fires_append begun _ none (takes_tells s.calls s.table _ place _ _ _)))
request_acks s k e r begun id x none (left place end rule_is is) = subst (Acks s) (sym is) (quiet s k _ refl (fires_append begun _ none (takes_tells s.calls s.table _ place _ _ _)))
request_acks s k e r begun id x none (counted_alone place end reason why is) = subst (Acks s) (sym is) (quiet s k _ refl (reply_tells begun id _ (refuses_reply s e r begun id reason) none))
request_acks s k e r begun id x none (passed_on place end c offer rule_is why is) =
    subst (Acks s) (sym is) (quiet s k _ refl (fires_append begun _ none (offers_tells s.calls s.table _ place _ end r id e.source)))
request_acks s k e r begun id x none (refreshed place end rule_is is) = subst (Acks s) (sym is) (quiet s k _ refl (reply_tells begun id _ (okay_reply s e r begun id) none))

-- an ACK is kept for the transaction of a 2xx
with_ack : (s : Office) → KnowsAcks s → (begun : List Entry) (send : Option Outgoing) (id : ℕ) (x : steps.Effect) → NoneFires (begun ++ x.dressed.changes)
    → ((now : ℕ) → IsAnswered (entered_all now s.table (begun ++ x.dressed.changes)).slots id) → (ack : Option Sent) → x.ack ≡ ack → Acks s (with_step s.acks begun send (Some id) x)
with_ack s k begun send id x none final None is = quiet s k (with_step s.acks begun send (Some id) x) (ap (acks_with s.acks (Some id)) is) none
with_ack s k begun send id x none final (Some ack) is = record {
  kept = λ now.
      let slots = (entered_all now s.table (begun ++ x.dressed.changes)).slots in
      subst (λ y. All (IsKept slots) (acks_with s.acks (Some id) y)) (sym is)
      (All-push (IsKept slots) (without_ack id s.acks) (record { id = id; sent = ack })
      (others_kept s.table.slots slots s.acks id (λ other differ. all_answered now s.table (begun ++ x.dressed.changes) other none) k) (final now));
  lasts = λ now other has. inl (subst (λ y. HasAck (acks_with s.acks (Some id) y) other) (sym is) (has_with s.acks id ack other (cases_eq other id) has));
}
  where
    has_with : (acks : List KeptAck) (id : ℕ) (ack : Sent) (other : ℕ) → (other ≡ id) ⊎ (other ≢ id) → HasAck acks other → HasAck (without_ack id acks ++ record { id = id; sent = ack } ∷ []) other
    has_with acks id ack other (inl same) has = subst (HasAck (without_ack id acks ++ record { id = id; sent = ack } ∷ [])) (sym same) (has_last (without_ack id acks) (record { id = id; sent = ack }))
    has_with acks id ack other (inr differ) has = has_left (without_ack id acks) (record { id = id; sent = ack } ∷ []) other (has_filtered acks other id differ has)

response_acks : (s : Office) → KnowsAcks s → (e : Setting) (r : Response) (send : Option Outgoing) (id : ℕ) (t : Transaction) (x : Effect) → IsResponseTo s r id t
    → is_some (row_of t.state (response_input r)) ≡ true → ResponseRow s e r (told_response s r id) send id t x → Acks s x
response_acks s k e r send id t x to line (silent is) = subst (Acks s) (sym is) (quiet s k _ refl (refl, tt))
response_acks s k e r send id t x to line (provisional place status c there asked class at_status is) = subst (Acks s) (sym is) (quiet s k _ refl (refl, takes_tells s.calls s.table _ place _ _ _))
response_acks s k e r send id t x to line (answered place c there asked class is) =
    subst (Acks s) (sym is) (
    let input = inputs.Answer (described r.headers r.body) in
    let leg = answers_leg s.calls.calls place t.parts r in
    let step = takes_row s.calls s.table (occasion s e) place input leg None in
    let tells = takes_tells s.calls s.table (occasion s e) place input leg None in
    with_ack s k (told_response s r id) send id step (refl, tells)
    (λ now. success_answered now s.table r id t (ack_at (at s.table.slots id) r) step.dressed.changes to.there (answered_client r.parts t to.answers) class line tells) step.ack refl
    )
response_acks s k e r send id t x to line (again place acked is) = subst (Acks s) (sym is) (quiet s k _ refl (refl, tt))
response_acks s k e r send id t x to line (fork why is) = subst (Acks s) (sym is) (quiet s k _ refl (refl, fork_tells s.calls _ t.parts r))
response_acks s k e r send id t x to line (ack_alone is) = subst (Acks s) (sym is) (quiet s k _ refl (refl, late_tells s.calls _ t.parts r))
response_acks s k e r send id t x to line (refused place status c there asked class at_status is) = subst (Acks s) (sym is) (quiet s k _ refl (refl, takes_tells s.calls s.table _ place _ _ _))

-- ---- what the transactions do with a message

input_tells : (b : Bool) → is_fires (cond b machine_inputs.Ack machine_inputs.Repeat) ≡ false
input_tells true = refl
input_tells false = refl

served_tells : (r : Request) (source : Addr) (b : Bool) → NoneFires (cond b Leaves (Opens (served r source) NoTimer) ∷ [])
served_tells r source true = tt
served_tells r source false = tt

request_tells : (r : Request) (source : Addr) (id : Option ℕ) → NoneFires (request_change r source id ∷ [])
request_tells r source None = served_tells r source (is_method (codes "ACK") r.parts)
request_tells r source (Some id) = (input_tells (is_method (codes "ACK") r.parts), tt)

response_tells : (s : Office) (r : Response) (id : Option ℕ) → NoneFires (response_change s.table r id ∷ [])
response_tells s r None = tt
response_tells s r (Some id) = (refl, tt)

change_tells : (s : Office) (m : Message) (source : Addr) → NoneFires (change_of s.table m source ∷ [])
unfolding change_of
change_tells s (Kinds.Request r) source = request_tells r source (position (is_asked r.parts) s.table.slots)
change_tells s (Kinds.Response r) source = response_tells s r (position (is_answered r.parts) s.table.slots)

responded_acks : (s : Office) → KnowsAcks s → (e : Setting) (r : Response) (begun : List Entry) (send : Option Outgoing) (id : ℕ) (t : Transaction) (x : Effect) → IsResponseTo s r id t
    → is_some (row_of t.state (response_input r)) ≡ true → begun ≡ told_response s r id → ResponseRow s e r begun send id t x → Acks s x
responded_acks s k e r begun send id t x to line told row = response_acks s k e r send id t x to line (subst (λ b. ResponseRow s e r b send id t x) told row)

message_acks : (s : Office) → KnowsAcks s → (e : Setting) (m : Message) (send : Option Outgoing) (x : Effect) → MessageRow s e m (begun_by s e m) send x → Acks s x
message_acks s k e m send x (dropped taken is) = subst (Acks s) (sym is) (quiet s k _ refl tt)
message_acks s k e m send x (moved is) = subst (Acks s) (sym is) (quiet s k _ refl (change_tells s m e.source))
message_acks s k e m send x (requested r id is new row) = request_acks s k e r (begun_by s e m) id x (change_tells s m e.source) row
message_acks s k e m send x (acknowledged r place is found row_is) =
    subst (Acks s) (sym row_is) (quiet s k _ refl (fires_append (begun_by s e m) _ (change_tells s m e.source) (takes_tells s.calls s.table _ place _ _ _)))
message_acks s k e m send x (responded r id t is up to row) =
    responded_acks s k e r (begun_by s e m) send id t x to
    (response_line s.table r id t to.position to.there (subst (λ y. (transactions.reception_of s.table y).verdict ≡ verdicts.Up id) is up))
    (subst (λ y. begun_by s e y ≡ told_response s r id) (sym is) (response_told s e r id to.position)) row

datagram_acks : (s : Office) → KnowsAcks s → (e : Setting) (bytes : List ℕ) (x : Effect) → DatagramRow s e bytes x → Acks s x
datagram_acks s k e bytes x (ignored taken is) = subst (Acks s) (sym is) (quiet s k _ refl tt)
datagram_acks s k e bytes x (unreadable fault parts unread can is) = subst (Acks s) (sym is) (quiet s k _ refl tt)
datagram_acks s k e bytes x (unfit_branched r read is) = subst (Acks s) (sym is) (quiet s k _ refl tt)
datagram_acks s k e bytes x (was_received m read branch reached row) = message_acks s k e m _ x row

-- ---- what is due

-- a timer that is not the end of its transaction
timed_acks : (s : Office) → KnowsAcks s → (x : Effect) (timer : TimerId) (fired : Fired) (changes : List Entry) → x.acks ≡ s.acks → x.plan.changes ≡ fire_of timer ∷ changes → NoneFires changes
    → fired_of (at s.table.slots timer.id) timer.kind ≡ Some fired → is_end (Some fired) ≡ false → Acks s x
timed_acks s k x timer fired changes same is none did other = record {
  kept = λ now. subst (λ acks. All (IsKept (entered_all now s.table x.plan.changes).slots) acks) (sym same)
      (subst (λ ys. All (IsKept (entered_all now s.table ys).slots) s.acks) (sym is)
      (All-weaker (IsKept s.table.slots) (IsKept (entered_all now s.table (fire_of timer ∷ changes)).slots) (λ ack. fired_answered now s.table timer changes ack.id none none_final) s.acks k));
  lasts = λ now id has. inl (subst (λ acks. HasAck acks id) (sym same) has);
}
  where
    none_final : (t : Transaction) → at s.table.slots timer.id ≡ Some t → had_final t.state ≡ true → ⊥
    none_final t there final = fires_other t timer.kind fired final (subst (λ o. fired_of o timer.kind ≡ Some fired) there did) other

ended_acks : (s : Office) → KnowsAcks s → (timer : TimerId) → fired_of (at s.table.slots timer.id) timer.kind ≡ Some fires.Ended → Acks s (ends s timer)
ended_acks s k timer fired = record {
  kept = λ now. others_kept s.table.slots (entered_all now s.table (fire_of timer ∷ [])).slots s.acks timer.id (λ id differ. ended_answered now s.table timer id differ) k;
  lasts = λ now id has. elim (cases_eq id timer.id) [
    | inl same ↦ inr (subst (λ n. at (entered_all now s.table (fire_of timer ∷ [])).slots n ≡ None) (sym same)
        (ended_gone now s.table timer fired (subst (IsAnswered s.table.slots) same (answered_of s.table.slots s.acks id k has))))
    | inr differ ↦ inl (has_filtered s.acks id timer.id differ has)
  ];
}

due_acks : (s : Office) → KnowsAcks s → (e : Setting) (x : Effect) → DueRow s e x → Acks s x
due_acks s k e x (idle is) = subst (Acks s) (sym is) (quiet s k _ refl tt)
due_acks s k e x (listed users is) = subst (Acks s) (sym is) (quiet s k _ refl tt)
due_acks s k e x (sent_again timer out fired is) = subst (Acks s) (sym is) (timed_acks s k _ timer (fires.Send out) [] refl refl tt fired refl)
due_acks s k e x (fired_alone timer fired is) = subst (Acks s) (sym is) (timed_acks s k _ timer fires.TimedOut [] refl refl tt fired refl)
due_acks s k e x (timed timer t place fired times there found is) =
    subst (Acks s) (sym is) (timed_acks s k _ timer fires.TimedOut _ refl refl (takes_tells s.calls s.table _ place _ _ _) fired refl)
due_acks s k e x (ended timer fired is) = subst (Acks s) (sym is) (ended_acks s k timer fired)
due_acks s k e x (stopped timer is) = subst (Acks s) (sym is) (quiet s k _ refl tt)
due_acks s k e x (call_fired timer place found is) = subst (Acks s) (sym is) (quiet s k _ refl (takes_tells _ s.table _ place _ _ _))

what_acks_by : (s : Office) → KnowsAcks s → (now salt : ℕ) (what : What) (x : Effect) → WhatRow s now salt what x → Acks s x
what_acks_by s k now salt what x (came source bytes is row) = datagram_acks s k (setting now salt source) bytes x row
what_acks_by s k now salt what x (due is row) = due_acks s k (setting now salt no_source) x row

pub what_acks : (s : Office) → KnowsAcks s → (now salt : ℕ) (what : What) → Acks s (what_row s now salt what)
what_acks s k now salt what = what_acks_by s k now salt what (what_row s now salt what) (what_view s now salt what)
