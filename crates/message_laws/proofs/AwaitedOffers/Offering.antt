-- The requests that may carry an offer and begin in a step are those that its actions offer.
use Rattle.std.proofs.Common.{◌≡◌, ◌∙◌, ℕ, ◌+◌, Bool, true, false, cond, List, [], ◌∷◌, ◌++◌, codes, find, nat_lt, Option, Some, None, refl, ap, sym, inl, inr}
use Rattle.std.specs.Prelude.{◌⊎◌}
use Rattle.std.specs.Option.{option_copied}
use Rattle.std.proofs.lemmas.Bool.{false≢true}
use Rattle.std.proofs.lemmas.Option.{none-some, same_Some}
use Rattle.sip_uri.specs.declared.uri.Addr.{Addr}
use Rattle.sip_uri.specs.Address.{address_of}
use Rattle.sip_message.specs.declared.headers.Header.{Header}
use Rattle.sip_message.specs.declared.message.Message.TheVariants as Kinds
use Rattle.sip_message.specs.declared.message.Parts.{Parts}
use Rattle.sip_message.specs.declared.message.Request.{Request}
use Rattle.sip_message.specs.declared.via.Via.{Via}
use Rattle.sip_message.specs.Words.{is_method, tag_text}
use Rattle.sip_writing.specs.Requests.{server_via}
use Rattle.sip_writing.specs.Writing.{message_text}
use Rattle.sdp.specs.declared.description.Description.{Description}
use Rattle.dialogs.specs.declared.method.Method.TheVariants.{Bye as ByeMethod}
use Rattle.dialogs.specs.declared.state.Dialog.{Dialog}
use Rattle.dialogs.specs.Counting.{following, max_for, last_number, method_text}
use Rattle.dialogs.specs.Requests.{parts_in, request_in}
use Rattle.transaction_machines.specs.declared.state.State.{State}
use Rattle.transaction_machines.specs.declared.state.State.TheVariants as machine
use Rattle.transactions.specs.declared.change.Entry.{Entry}
use Rattle.transactions.specs.declared.change.Entry.TheVariants.{Opens, Tells, Answers, Leaves}
use Rattle.transactions.specs.declared.transaction.Transaction.{Transaction}
use Rattle.transactions.specs.SameBranch.{cancel_by, cancel_with, parts_like, request_like}
use Rattle.transactions.specs.Transactions.{asking, asking_timers}
use Rattle.call_core.specs.declared.action.Action.{Action}
use Rattle.call_core.specs.declared.action.Action.TheVariants.{Trying, Offer, Provisional, Ack, Answer, AnswerAgain, Refusal, Okay, Cancel, Bye, PutRows, Release, RemoveRows, Set, Stop, Abandon}
use Rattle.call_messages.specs.declared.scene.Asker.{Asker}
use Rattle.call_messages.specs.declared.scene.Scene.{Scene}
use Rattle.call_messages.specs.Dressed.{asks, asks_at}
use Rattle.call_messages.specs.Dressing.{asks_if, branch, dialog_with, dress_one, dressed, method_of, says_ack, says_again, says_answer, says_bye, says_cancel, says_offer, says_okay, says_provisional, says_refusal, says_trying}
use Rattle.call_messages.specs.Messages.{ack, bye}
use Rattle.call_rules.specs.Speaking.{may_offer}
use Rattle.call_steps.specs.Messages.{given_up, is_abandon, messages}
use Rattle.call_steps.specs.Values.{SceneValue, lent_scene}
use Rattle.message_laws.specs.Waiting.{IsOffering, from_tag}
use Rattle.message_laws.proofs.AwaitedOffers.Coming.{OpensIn}
use Rattle.message_laws.proofs.QuietEvents.Dressings.{tag_said}
use Rattle.message_laws.proofs.AwaitedOffers.Tables.{has_offer}

-- it has the tag of this dialog, and the number that follows
pub record IsOfferIn (d : Dialog) (t : Transaction) : Type 0 where
  pub tag : from_tag t ≡ d.id.ours
  pub number : t.parts.cseq.number ≡ following d

abbrev pub IsOfferTo : Option Dialog → Transaction → Type 0
IsOfferTo None t = ⊥
IsOfferTo (Some d) t = IsOfferIn d t

abbrev pub OfferedIn : Scene → List Action → Transaction → Type 0
OfferedIn s [] t = ⊥
OfferedIn s (Offer end method ∷ later) t = IsOfferTo (dialog_with end s) t ⊎ OfferedIn s later t
OfferedIn s (action ∷ later) t = OfferedIn s later t

-- ---- what a request begins

asked_parts_by : (r : Request) (to : Addr) (b : Bool) (t : Transaction) → OpensIn t (cond b Leaves (Opens (asking r to (message_text (Kinds.Request r))) (asking_timers r.parts)) ∷ []) → t.parts ≡ r.parts
asked_parts_by r to true t h = absurd h
asked_parts_by r to false t (inl e) = ap (λ (x : Transaction). x.parts) (sym e)
asked_parts_by r to false t (inr h) = absurd h

asked_parts_at : (to : Option Addr) (r : Request) (made : ℕ) (t : Transaction) → OpensIn t (asks_at to r made).changes → t.parts ≡ r.parts
asked_parts_at None r made t h = absurd h
asked_parts_at (Some to) r made t h = asked_parts_by r to (is_method (codes "ACK") r.parts) t h

pub asked_parts : (r : Request) (made : ℕ) (t : Transaction) → OpensIn t (asks r made).changes → t.parts ≡ r.parts
asked_parts r made t h = asked_parts_at (address_of r.uri) r made t h

-- a request that carries no offer
no_offer : (r : Request) (made : ℕ) (t : Transaction) → may_offer r.parts ≡ false → OpensIn t (asks r made).changes → IsOffering t → ⊥
no_offer r made t none h offers = false≢true (sym none ∙ ap may_offer (sym (asked_parts r made t h)) ∙ offers.offers)

no_offer_if : (r : Option Request) (made : ℕ) (t : Transaction) → ((q : Request) → r ≡ Some q → may_offer q.parts ≡ false) → OpensIn t (asks_if r made).changes → IsOffering t → ⊥
no_offer_if None made t none h offers = h
no_offer_if (Some r) made t none h offers = no_offer r made t (none r refl) h offers

-- ---- offers

offered_by : (d : Dialog) (via : Via) (method : List ℕ) (hops : ℕ) (further : List Header) (body : List ℕ) (made : ℕ) (b : Bool) (t : Transaction)
    → OpensIn t (asks_if (cond b (Some (request_in d via method (following d) hops further body)) None) made).changes → IsOfferIn d t
unfolding request_in parts_in
offered_by d via method hops further body made false t h = absurd h
offered_by d via method hops further body made true t h =
    let same = asked_parts (request_in d via method (following d) hops further body) made t h in
    record {
      tag = ap (λ (x : Parts). tag_text x.from.params) same ∙ tag_said d.id.ours;
      number = ap (λ (x : Parts). x.cseq.number) same;
    }

offered : (s : Scene) (n : ℕ) (d : Option Dialog) (method : _) (description : Option Description) (t : Transaction) → OpensIn t (says_offer s n d method description).changes → IsOfferTo d t
offered s n None method description t h = h
offered s n (Some d) method None t h = absurd h
offered s n (Some d) method (Some description) t h =
    offered_by d (server_via s.server (branch s n)) (method_text (method_of method)) _ _ _ 1 (nat_lt (last_number d) (max_for (method_of method))) t h

-- ---- ACK, BYE, CANCEL

ack_none : (s : Scene) (n : ℕ) (d : Option Dialog) (t : Transaction) → OpensIn t (says_ack s n d).changes → IsOffering t → ⊥
unfolding request_in parts_in
ack_none s n None t h offers = h
ack_none s n (Some d) t h offers = no_offer (ack s.server d (branch s n)) 1 t refl h offers

bye_by : (d : Dialog) (via : Via) (b : Bool) (q : Request) → cond b (Some (request_in d via (method_text ByeMethod) (following d) 70 [] [])) None ≡ Some q → may_offer q.parts ≡ false
unfolding request_in parts_in
bye_by d via false q e = absurd (none-some q e)
bye_by d via true q e = ap (λ (x : Request). may_offer x.parts) (sym (same_Some (request_in d via (method_text ByeMethod) (following d) 70 [] []) q e))

bye_none : (s : Scene) (n : ℕ) (d : Option Dialog) (t : Transaction) → OpensIn t (says_bye s n d).changes → IsOffering t → ⊥
bye_none s n None t h offers = h
bye_none s n (Some d) t h offers =
    no_offer_if (bye s.server d (branch s n)) 1 t (λ q e. bye_by d (server_via s.server (branch s n)) (nat_lt (last_number d) (max_for ByeMethod)) q e) h offers

cancel_none_with : (t : Transaction) (vias : List Via) (made : ℕ) (u : Transaction) → OpensIn u (asks_if (cancel_with t.uri t.parts vias) made).changes → IsOffering u → ⊥
unfolding request_like parts_like
cancel_none_with t [] made u h offers = h
cancel_none_with t (via ∷ vias) made u h offers = no_offer (request_like t.uri via t.parts t.parts.to (codes "CANCEL")) made u refl h offers

cancel_none_by : (t : Transaction) (state : State) (made : ℕ) (u : Transaction) → OpensIn u (asks_if (cancel_by state t.uri t.parts) made).changes → IsOffering u → ⊥
cancel_none_by t (machine.InviteClient state) made u h offers = cancel_none_with t t.parts.vias made u h offers
cancel_none_by t (machine.InviteServer state) made u h offers = h
cancel_none_by t (machine.OtherClient state) made u h offers = h
cancel_none_by t (machine.OtherServer state) made u h offers = h

cancel_none : (o : Option Transaction) (u : Transaction) → OpensIn u (says_cancel o).changes → IsOffering u → ⊥
cancel_none None u h offers = h
cancel_none (Some t) u h offers = cancel_none_by t t.state 0 u h offers

-- ---- responses

pub trying_none : (a : Option Asker) (t : Transaction) → OpensIn t (says_trying a).changes → ⊥
trying_none None t h = h
trying_none (Some a) t h = h

pub provisional_none : (server : Addr) (a : Option Asker) (status : ℕ) (t : Transaction) → OpensIn t (says_provisional server a status).changes → ⊥
provisional_none server None status t h = h
provisional_none server (Some a) status t h = h

pub answer_none : (server : Addr) (a : Option Asker) (description : Option Description) (t : Transaction) → OpensIn t (says_answer server a description).changes → ⊥
answer_none server None description t h = h
answer_none server (Some a) None t h = h
answer_none server (Some a) (Some description) t h = h

pub refusal_none : (a : Option Asker) (status : ℕ) (t : Transaction) → OpensIn t (says_refusal a status).changes → ⊥
refusal_none None status t h = h
refusal_none (Some a) status t h = h

pub okay_none : (server : Addr) (a : Option Asker) (t : Transaction) → OpensIn t (says_okay server a).changes → ⊥
okay_none server None t h = h
okay_none server (Some a) t h = h

pub again_none : (o : Option _) (t : Transaction) → OpensIn t (says_again o).changes → ⊥
again_none None t h = h
again_none (Some sent) t h = h

-- ---- actions

abbrev pub OneOffered : Scene → Action → Transaction → Type 0
OneOffered s (Offer end method) t = IsOfferTo (dialog_with end s) t
OneOffered s action t = ⊥

pub one_offered : (s : Scene) (n : ℕ) (action : Action) (t : Transaction) → OpensIn t (dress_one s n action).changes → IsOffering t → OneOffered s action t
unfolding dress_one
one_offered s n (Trying end) t h offers = trying_none s.offer t h
one_offered s n (Offer end method) t h offers = offered s n (dialog_with end s) method (option_copied s.description) t h
one_offered s n (Provisional end status) t h offers = provisional_none s.server s.offer status t h
one_offered s n (Ack end) t h offers = ack_none s n (dialog_with end s) t h offers
one_offered s n (Answer end) t h offers = answer_none s.server s.offer (option_copied s.description) t h
one_offered s n (AnswerAgain end) t h offers = again_none (option_copied s.again) t h
one_offered s n (Refusal end status) t h offers = refusal_none s.offer status t h
one_offered s n (Okay end) t h offers = okay_none s.server s.request t h
one_offered s n (Cancel end) t h offers = cancel_none (option_copied s.passed) t h offers
one_offered s n (Bye end) t h offers = bye_none s n (dialog_with end s) t h offers
one_offered s n PutRows t h offers = h
one_offered s n Release t h offers = h
one_offered s n RemoveRows t h offers = h
one_offered s n (Set timer after) t h offers = h
one_offered s n (Stop timer) t h offers = h
one_offered s n (Abandon end) t h offers = h

pub opens_split : (t : Transaction) (xs ys : List Entry) → OpensIn t (xs ++ ys) → OpensIn t xs ⊎ OpensIn t ys
opens_split t [] ys h = inr h
opens_split t (Opens v starts ∷ xs) ys (inl e) = inl (inl e)
opens_split t (Opens v starts ∷ xs) ys (inr h) = elim (opens_split t xs ys h) [ inl k ↦ inl (inr k) | inr k ↦ inr k ]
opens_split t (Tells id input fresh ∷ xs) ys h = opens_split t xs ys h
opens_split t (Answers id class bytes ∷ xs) ys h = opens_split t xs ys h
opens_split t (Leaves ∷ xs) ys h = opens_split t xs ys h

first_offered : (s : Scene) (action : Action) (later : List Action) (t : Transaction) → OneOffered s action t → OfferedIn s (action ∷ later) t
first_offered s (Offer end method) later t h = inl h
first_offered s (Trying end) later t h = absurd h
first_offered s (Provisional end status) later t h = absurd h
first_offered s (Ack end) later t h = absurd h
first_offered s (Answer end) later t h = absurd h
first_offered s (AnswerAgain end) later t h = absurd h
first_offered s (Refusal end status) later t h = absurd h
first_offered s (Okay end) later t h = absurd h
first_offered s (Cancel end) later t h = absurd h
first_offered s (Bye end) later t h = absurd h
first_offered s PutRows later t h = absurd h
first_offered s Release later t h = absurd h
first_offered s RemoveRows later t h = absurd h
first_offered s (Set timer after) later t h = absurd h
first_offered s (Stop timer) later t h = absurd h
first_offered s (Abandon end) later t h = absurd h

later_offered : (s : Scene) (action : Action) (later : List Action) (t : Transaction) → OfferedIn s later t → OfferedIn s (action ∷ later) t
later_offered s (Offer end method) later t h = inr h
later_offered s (Trying end) later t h = h
later_offered s (Provisional end status) later t h = h
later_offered s (Ack end) later t h = h
later_offered s (Answer end) later t h = h
later_offered s (AnswerAgain end) later t h = h
later_offered s (Refusal end status) later t h = h
later_offered s (Okay end) later t h = h
later_offered s (Cancel end) later t h = h
later_offered s (Bye end) later t h = h
later_offered s PutRows later t h = h
later_offered s Release later t h = h
later_offered s RemoveRows later t h = h
later_offered s (Set timer after) later t h = h
later_offered s (Stop timer) later t h = h
later_offered s (Abandon end) later t h = h

pub dressed_offered : (s : Scene) (n : ℕ) (actions : List Action) (t : Transaction) → OpensIn t (dressed s n actions).changes → IsOffering t → OfferedIn s actions t
dressed_offered s n [] t h offers = h
dressed_offered s n (action ∷ later) t h offers =
    let one = dress_one s n action in
    elim (opens_split t one.changes (dressed s (n + one.made) later).changes h) [
      | inl k ↦ first_offered s action later t (one_offered s n action t k offers)
      | inr k ↦ later_offered s action later t (dressed_offered s (n + one.made) later t k offers)
    ]

pub given_up_none : (id : Option ℕ) (action : Option Action) (t : Transaction) → OpensIn t (given_up id action) → ⊥
given_up_none None action t h = h
given_up_none (Some id) None t h = h
given_up_none (Some id) (Some action) t h = h

-- ---- the messages of a step

pub said_offered : (s : SceneValue) (passed : Option ℕ) (actions : List Action) (t : Transaction) → OpensIn t (messages s passed actions).dressed.changes → IsOffering t → OfferedIn (lent_scene s) actions t
unfolding messages
said_offered s passed actions t h offers = elim (opens_split t (dressed (lent_scene s) s.tokens actions).changes (given_up passed (find is_abandon actions)) h) [
  | inl k ↦ dressed_offered (lent_scene s) s.tokens actions t k offers
  | inr k ↦ absurd (given_up_none passed (find is_abandon actions) t k)
]

pub none_offered : (s : Scene) (actions : List Action) (t : Transaction) → has_offer actions ≡ false → OfferedIn s actions t → ⊥
none_offered s [] t none h = h
none_offered s (Offer end method ∷ later) t none h = false≢true (sym none)
none_offered s (Trying end ∷ later) t none h = none_offered s later t none h
none_offered s (Provisional end status ∷ later) t none h = none_offered s later t none h
none_offered s (Ack end ∷ later) t none h = none_offered s later t none h
none_offered s (Answer end ∷ later) t none h = none_offered s later t none h
none_offered s (AnswerAgain end ∷ later) t none h = none_offered s later t none h
none_offered s (Refusal end status ∷ later) t none h = none_offered s later t none h
none_offered s (Okay end ∷ later) t none h = none_offered s later t none h
none_offered s (Cancel end ∷ later) t none h = none_offered s later t none h
none_offered s (Bye end ∷ later) t none h = none_offered s later t none h
none_offered s (PutRows ∷ later) t none h = none_offered s later t none h
none_offered s (Release ∷ later) t none h = none_offered s later t none h
none_offered s (RemoveRows ∷ later) t none h = none_offered s later t none h
none_offered s (Set timer after ∷ later) t none h = none_offered s later t none h
none_offered s (Stop timer ∷ later) t none h = none_offered s later t none h
none_offered s (Abandon end ∷ later) t none h = none_offered s later t none h
