-- What a step of a call begins is of the server's own: so a live server transaction stays one of a request.
use Rattle.std.proofs.Common.{◌≡◌, ◌∙◌, ℕ, ◌+◌, ◌<◌, Bool, true, false, cond, List, [], ◌∷◌, ◌++◌, codes, find, length, nat_lt, Option, Some, None, sym, ap, subst, inl, inr, arith}
use Rattle.std.specs.Option.{option_copied}
use Rattle.std.proofs.lemmas.Bool.{false≢true}
use Rattle.std.proofs.lemmas.Option.{none-some, same_Some}
use Rattle.sip_uri.specs.declared.uri.Addr.{Addr}
use Rattle.sip_uri.specs.Address.{address_of}
use Rattle.sip_uri.specs.declared.uri.Uri.{Uri}
use Rattle.std.specs.Prelude.{slice_get}
use Rattle.sip_message.specs.Contact.{contacts_of}
use Rattle.sip_message.specs.declared.message.Parts.{Parts}
use Rattle.sip_message.specs.declared.message.Response.{Response}
use Rattle.dialogs.specs.Making.{callers_dialog, reached_at}
use Rattle.sip_message.specs.declared.message.Message.TheVariants as Kinds
use Rattle.sip_message.specs.declared.message.Request.{Request}
use Rattle.sip_message.specs.Words.{is_method}
use Rattle.sip_writing.specs.Writing.{message_text}
use Rattle.sdp.specs.declared.description.Description.{Description}
use Rattle.dialogs.specs.declared.state.Dialog.{Dialog}
use Rattle.transaction_machines.specs.Machines.{is_server}
use Rattle.transactions.specs.Changes.{entered, entered_all}
use Rattle.transactions.specs.Contents.{Contents}
use Rattle.transactions.specs.SameBranch.{cancel_of}
use Rattle.transactions.specs.Slots.{at, free_number}
use Rattle.transactions.specs.Transactions.{asking, asking_timers}
use Rattle.transactions.specs.declared.change.Entry.{Entry}
use Rattle.transactions.specs.declared.change.Entry.TheVariants.{Answers, Leaves, Opens, Tells}
use Rattle.transactions.specs.declared.transaction.Transaction.{Transaction}
use Rattle.call_core.specs.declared.action.Action.{Action}
use Rattle.call_core.specs.declared.action.Action.TheVariants.{Abandon, Ack, Answer, AnswerAgain, Bye, Cancel, Offer, Okay, Provisional, PutRows, Refusal, Release, RemoveRows, Set, Stop, Trying}
use Rattle.call_core.specs.declared.signal.OfferMethod.{OfferMethod}
use Rattle.call_core.specs.CallRows.{call_row, first_call_row}
use Rattle.call_core.specs.declared.input.Input.{Input}
use Rattle.call_media.specs.declared.end.End.{End}
use Rattle.call_media.specs.declared.end.End.TheVariants.{Callee}
use Rattle.calls.specs.State.{Standing}
use Rattle.calls.specs.declared.change.LegDialog.{LegDialog}
use Rattle.calls.specs.declared.standing_call.StandingCall.{StandingCall}
use Rattle.call_steps.specs.Rows.{begins_by, counts, first_asker, first_leg, first_row, first_standing, fork_by, fork_row, late_by, late_row, later_dialog, offer_coming, offers_by, offers_row, takes_by, takes_row}
use Rattle.call_steps.specs.Scenes.{first_scene, fork_scene, passed_id, scene}
use Rattle.call_steps.specs.declared.occasion.Occasion.{Occasion}
use Rattle.call_messages.specs.declared.scene.Scene.{Scene}
use Rattle.call_messages.specs.Dressed.{asks, asks_at}
use Rattle.call_messages.specs.Dressing.{asks_if, branch, dialog_with, dress_one, dressed, method_of, says_ack, says_bye, says_cancel, says_offer}
use Rattle.call_messages.specs.Messages.{ack, bye, offer}
use Rattle.call_steps.specs.Messages.{given_up, is_abandon, messages}
use Rattle.call_steps.specs.Values.{AskerValue, SceneValue, lent_scene, without_offer}
use Rattle.message_laws.proofs.AwaitedOffers.Coming.{CameFrom, OpensIn, Placed, all_came, before, began, here, inside, one_came, opened_at, spot, stayed}
use Rattle.message_laws.proofs.AwaitedOffers.Firing.{free_differs}
use Rattle.message_laws.proofs.AwaitedOffers.Offering.{again_none, answer_none, given_up_none, okay_none, opens_split, provisional_none, refusal_none, trying_none}
use Rattle.message_laws.proofs.Traces.Saying.{asking_client}

-- each transaction that begins is a client transaction
abbrev pub AllOwn : List Entry → Type 0
AllOwn changes = (t : Transaction) → OpensIn t changes → is_server t.state ≡ false

asks_by : (r : Request) (to : Addr) (b : Bool) → AllOwn (cond b Leaves (Opens (asking r to (message_text (Kinds.Request r))) (asking_timers r.parts)) ∷ [])
asks_by r to true t opens = absurd opens
asks_by r to false t (inl e) = subst (λ (x : Transaction). is_server x.state ≡ false) e (asking_client r to (message_text (Kinds.Request r)))
asks_by r to false t (inr opens) = absurd opens

asks_at_own : (to : Option Addr) (r : Request) (made : ℕ) → AllOwn (asks_at to r made).changes
asks_at_own None r made t opens = absurd opens
asks_at_own (Some to) r made t opens = asks_by r to (is_method (codes "ACK") r.parts) t opens

asks_own : (r : Request) (made : ℕ) → AllOwn (asks r made).changes
asks_own r made t opens = asks_at_own (address_of r.uri) r made t opens

asks_if_own : (r : Option Request) (made : ℕ) → AllOwn (asks_if r made).changes
asks_if_own None made t opens = absurd opens
asks_if_own (Some r) made t opens = asks_own r made t opens

offer_own : (s : Scene) (n : ℕ) (d : Option Dialog) (method : OfferMethod) (description : Option Description) → AllOwn (says_offer s n d method description).changes
offer_own s n None method description t opens = absurd opens
offer_own s n (Some d) method None t opens = absurd opens
offer_own s n (Some d) method (Some description) t opens = asks_if_own (offer s.server d (method_of method) s.hops description (branch s n)) 1 t opens

ack_own : (s : Scene) (n : ℕ) (d : Option Dialog) → AllOwn (says_ack s n d).changes
ack_own s n None t opens = absurd opens
ack_own s n (Some d) t opens = asks_own (ack s.server d (branch s n)) 1 t opens

bye_own : (s : Scene) (n : ℕ) (d : Option Dialog) → AllOwn (says_bye s n d).changes
bye_own s n None t opens = absurd opens
bye_own s n (Some d) t opens = asks_if_own (bye s.server d (branch s n)) 1 t opens

cancel_own : (invite : Option Transaction) → AllOwn (says_cancel invite).changes
cancel_own None t opens = absurd opens
cancel_own (Some invite) t opens = asks_if_own (cancel_of invite) 0 t opens

one_own : (s : Scene) (n : ℕ) (action : Action) → AllOwn (dress_one s n action).changes
unfolding dress_one
one_own s n (Trying end) t opens = absurd (trying_none s.offer t opens)
one_own s n (Offer end method) t opens = offer_own s n (dialog_with end s) method (option_copied s.description) t opens
one_own s n (Provisional end status) t opens = absurd (provisional_none s.server s.offer status t opens)
one_own s n (Ack end) t opens = ack_own s n (dialog_with end s) t opens
one_own s n (Answer end) t opens = absurd (answer_none s.server s.offer (option_copied s.description) t opens)
one_own s n (AnswerAgain end) t opens = absurd (again_none (option_copied s.again) t opens)
one_own s n (Refusal end status) t opens = absurd (refusal_none s.offer status t opens)
one_own s n (Okay end) t opens = absurd (okay_none s.server s.request t opens)
one_own s n (Cancel end) t opens = cancel_own (option_copied s.passed) t opens
one_own s n (Bye end) t opens = bye_own s n (dialog_with end s) t opens
one_own s n PutRows t opens = absurd opens
one_own s n Release t opens = absurd opens
one_own s n RemoveRows t opens = absurd opens
one_own s n (Set timer after) t opens = absurd opens
one_own s n (Stop timer) t opens = absurd opens
one_own s n (Abandon end) t opens = absurd opens

dressed_own : (s : Scene) (n : ℕ) (actions : List Action) → AllOwn (dressed s n actions).changes
dressed_own s n [] t opens = absurd opens
dressed_own s n (action ∷ later) t opens =
    let one = dress_one s n action in
    elim (opens_split t one.changes (dressed s (n + one.made) later).changes opens) [ inl k ↦ one_own s n action t k | inr k ↦ dressed_own s (n + one.made) later t k ]

pub step_own : (s : SceneValue) (passed : Option ℕ) (actions : List Action) → AllOwn (messages s passed actions).dressed.changes
unfolding messages
step_own s passed actions t opens = elim (opens_split t (dressed (lent_scene s) s.tokens actions).changes (given_up passed (find is_abandon actions)) opens) [
  | inl k ↦ dressed_own (lent_scene s) s.tokens actions t k
  | inr k ↦ absurd (given_up_none passed (find is_abandon actions) t k)
]

-- ---- steps

takes_by_own : (calls : Standing) (table : Contents) (o : Occasion) (place : ℕ) (input : Input) (leg : Option LegDialog) (request : Option AskerValue) (c : Option StandingCall) → AllOwn (takes_by calls table o place input leg request c).dressed.changes
takes_by_own calls table o place input leg request None t opens = absurd opens
takes_by_own calls table o place input leg request (Some c) t opens = step_own (scene table o (without_offer leg request) c (call_row c.call input calls.pool o.now).description) (passed_id table c) (call_row c.call input calls.pool o.now).actions t opens

pub takes_own : (calls : Standing) (table : Contents) (o : Occasion) (place : ℕ) (input : Input) (leg : Option LegDialog) (request : Option AskerValue) → AllOwn (takes_row calls table o place input leg request).dressed.changes
unfolding takes_row
takes_own calls table o place input leg request t opens = takes_by_own calls table o place input leg request (slice_get calls.calls place) t opens

offers_by_own : (calls : Standing) (table : Contents) (o : Occasion) (place : ℕ) (input : Input) (end : End) (r : Request) (id : ℕ) (source : Addr) (leg : Option LegDialog) (c : Option StandingCall)
    → AllOwn (offers_by calls table o place input end r id source leg c).dressed.changes
offers_by_own calls table o place input end r id source leg None t opens = absurd opens
offers_by_own calls table o place input end r id source leg (Some c) t opens =
    step_own (scene table o (offer_coming leg end r id source c) c (call_row c.call input calls.pool o.now).description) (passed_id table c) (call_row c.call input calls.pool o.now).actions t opens

pub offers_own : (calls : Standing) (table : Contents) (o : Occasion) (place : ℕ) (input : Input) (end : End) (r : Request) (id : ℕ) (source : Addr) → AllOwn (offers_row calls table o place input end r id source).dressed.changes
unfolding offers_row
offers_own calls table o place input end r id source t opens = offers_by_own calls table o place input end r id source (counts calls.calls place end r.parts.cseq.number) (slice_get calls.calls place) t opens

first_by_own : (calls : Standing) (o : Occasion) (r : Request) (id : ℕ) (source : Addr) (target : Uri) (offer : Description) (contact : Option Uri) → AllOwn (begins_by calls o r id source target offer contact).dressed.changes
first_by_own calls o r id source target offer None t opens = absurd opens
first_by_own calls o r id source target offer (Some contact) t opens =
    let step = first_call_row (first_standing (calls.begun + 1) o r id source contact).call offer calls.pool o.now in
    step_own (first_scene o (first_asker o r id source) r.max_forwards (first_leg o r target) step.description) None step.actions t opens

pub first_own : (calls : Standing) (o : Occasion) (r : Request) (id : ℕ) (source : Addr) (target : Uri) (offer : Description) → AllOwn (first_row calls o r id source target offer).dressed.changes
unfolding first_row
first_own calls o r id source target offer t opens = first_by_own calls o r id source target offer (reached_at (contacts_of r.headers)) t opens

fork_by_own : (calls : Standing) (o : Occasion) (asked : Parts) (r : Response) (contact : Option Uri) → AllOwn (fork_by calls o asked r contact).dressed.changes
fork_by_own calls o asked r None t opens = absurd opens
fork_by_own calls o asked r (Some target) t opens = step_own (fork_scene o (callers_dialog asked r target)) None (Ack Callee ∷ Bye Callee ∷ []) t opens

pub fork_own : (calls : Standing) (o : Occasion) (asked : Parts) (r : Response) → AllOwn (fork_row calls o asked r).dressed.changes
unfolding fork_row
fork_own calls o asked r t opens = fork_by_own calls o asked r (reached_at (contacts_of r.headers)) t opens

late_by_own : (calls : Standing) (o : Occasion) (asked : Parts) (r : Response) (contact : Option Uri) → AllOwn (late_by calls o asked r contact).dressed.changes
late_by_own calls o asked r None t opens = absurd opens
late_by_own calls o asked r (Some target) t opens = step_own (fork_scene o (later_dialog asked r target)) None (Ack Callee ∷ []) t opens

pub late_own : (calls : Standing) (o : Occasion) (asked : Parts) (r : Response) → AllOwn (late_row calls o asked r).dressed.changes
unfolding late_row
late_own calls o asked r t opens = late_by_own calls o asked r (reached_at (contacts_of r.headers)) t opens

-- ---- a live transaction

-- what is put elsewhere leaves it
spot_differs : (slots : List (Option Transaction)) (id : ℕ) (t : Transaction) (b : Bool) → at slots id ≡ Some t → id ≡ cond b (free_number slots) (length slots) → ⊥
spot_differs slots id t true there same = free_differs slots id t there same
spot_differs slots id t false there same = let within : id < length slots = inside slots id t there in omega arith

placed_same : (slots : List (Option Transaction)) (t u v : Transaction) (id : ℕ) → at slots id ≡ Some t → Placed slots v (spot slots) id u → u.parts ≡ t.parts
placed_same slots t u v id there (before e) = ap (λ (x : Transaction). x.parts) (same_Some u t (sym e ∙ there))
placed_same slots t u v id there (here same at_put) = absurd (spot_differs slots id t (nat_lt (free_number slots) (length slots)) there at_put)

came_same : (slots : List (Option Transaction)) (changes : List Entry) (t u : Transaction) (id : ℕ) → ((v : Transaction) → OpensIn v changes → ⊥) → at slots id ≡ Some t → CameFrom slots changes id u → u.parts ≡ t.parts
came_same slots changes t u id none there (stayed v at_v later) = later.parts ∙ ap (λ (x : Transaction). x.parts) (same_Some v t (sym at_v ∙ there))
came_same slots changes t u id none there (began v opens later) = absurd (none v opens)

-- one change leaves its request
pub one_same : (now : ℕ) (table : Contents) (change : Entry) (t u : Transaction) (id : ℕ) → at table.slots id ≡ Some t → at (entered now table change).slots id ≡ Some u → u.parts ≡ t.parts
one_same now table (Opens v starts) t u id there e = placed_same table.slots t u v id there (opened_at now table v u starts id e)
one_same now table (Tells other input fresh) t u id there e = came_same table.slots (Tells other input fresh ∷ []) t u id (λ v opens. opens) there (one_came now table (Tells other input fresh) [] id u e)
one_same now table (Answers other class bytes) t u id there e = came_same table.slots (Answers other class bytes ∷ []) t u id (λ v opens. opens) there (one_came now table (Answers other class bytes) [] id u e)
one_same now table Leaves t u id there e = ap (λ (x : Transaction). x.parts) (same_Some u t (sym e ∙ there))

-- where it was one of a server transaction, and what begins is of the server's own
stays_by : (slots : List (Option Transaction)) (rest : List Entry) (t u : Transaction) (id : ℕ) → AllOwn rest → is_server u.state ≡ true → ((v : Transaction) → at slots id ≡ Some v → v.parts ≡ t.parts) → CameFrom slots rest id u → u.parts ≡ t.parts
stays_by slots rest t u id own server same (stayed v at_v later) = later.parts ∙ same v at_v
stays_by slots rest t u id own server same (began v opens later) = absurd (false≢true (sym (later.side ∙ own v opens) ∙ server))

-- one change, which may begin another's, and such changes
abbrev pub IsOne : List Entry → Type 0
IsOne [] = Unit {0}
IsOne (change ∷ []) = Unit {0}
IsOne (change ∷ other ∷ changes) = ⊥

pub same_server : (now : ℕ) (table : Contents) (begun rest : List Entry) (t u : Transaction) (id : ℕ) → IsOne begun → AllOwn rest → at table.slots id ≡ Some t → at (entered_all now table (begun ++ rest)).slots id ≡ Some u
    → is_server u.state ≡ true → u.parts ≡ t.parts
same_server now table [] rest t u id one own there e server = stays_by table.slots rest t u id own server (λ v at_v. ap (λ (x : Transaction). x.parts) (same_Some v t (sym at_v ∙ there))) (all_came now table rest id u e)
same_server now table (change ∷ []) rest t u id one own there e server =
    stays_by (entered now table change).slots rest t u id own server (λ v at_v. one_same now table change t v id there at_v) (all_came now (entered now table change) rest id u e)
same_server now table (change ∷ other ∷ changes) rest t u id one own there e server = absurd one

-- one that began now, where there was none
pub new_server : (now : ℕ) (table : Contents) (begun rest : List Entry) (u : Transaction) (id : ℕ) → AllOwn rest → at table.slots id ≡ None → at (entered_all now table (begun ++ rest)).slots id ≡ Some u → is_server u.state ≡ true
    → (t : Transaction) × OpensIn t begun × (u.parts ≡ t.parts)
new_server now table begun rest u id own free e server = by_came (all_came now table (begun ++ rest) id u e)
  where
    by_came : CameFrom table.slots (begun ++ rest) id u → (t : Transaction) × OpensIn t begun × (u.parts ≡ t.parts)
    by_came (stayed v at_v later) = absurd (none-some v (sym free ∙ at_v))
    by_came (began v opens later) = elim (opens_split v begun rest opens) [ inl k ↦ (v, k, later.parts) | inr k ↦ absurd (false≢true (sym (later.side ∙ own v k) ∙ server)) ]
