-- The INVITEs and UPDATEs that begin in a step carry the description of its scene.
use Rattle.std.proofs.Common.{◌≡◌, ℕ, ◌+◌, Bool, true, false, cond, List, [], ◌∷◌, codes, find, nat_lt, Option, Some, None, option_map, refl, ap, sym, subst, inl, inr}
use Rattle.std.specs.Option.{option_copied}
use Rattle.sip_uri.specs.declared.uri.Addr.{Addr}
use Rattle.sip_uri.specs.Address.{address_of}
use Rattle.sip_message.specs.declared.headers.Header.{Header}
use Rattle.sip_message.specs.declared.message.Message.TheVariants as Kinds
use Rattle.sip_message.specs.declared.message.Request.{Request}
use Rattle.sip_message.specs.declared.via.Via.{Via}
use Rattle.sip_message.specs.Words.{is_method}
use Rattle.sip_writing.specs.Requests.{server_via}
use Rattle.sip_writing.specs.Writing.{message_text}
use Rattle.sdp.specs.declared.description.Description.{Description}
use Rattle.sdp.specs.Writing.{description_text}
use Rattle.dialogs.specs.declared.state.Dialog.{Dialog}
use Rattle.dialogs.specs.Counting.{following, max_for, last_number, method_text}
use Rattle.dialogs.specs.Requests.{request_in}
use Rattle.transactions.specs.declared.change.Entry.TheVariants.{Opens, Leaves}
use Rattle.transactions.specs.declared.transaction.Transaction.{Transaction}
use Rattle.transactions.specs.Transactions.{asking, asking_timers}
use Rattle.call_core.specs.declared.action.Action.{Action}
use Rattle.call_core.specs.declared.action.Action.TheVariants.{Trying, Offer, Provisional, Ack, Answer, AnswerAgain, Refusal, Okay, Cancel, Bye, PutRows, Release, RemoveRows, Set, Stop, Abandon}
use Rattle.call_core.specs.declared.signal.OfferMethod.{OfferMethod}
use Rattle.call_messages.specs.declared.scene.Scene.{Scene}
use Rattle.call_messages.specs.Dressed.{asks, asks_at}
use Rattle.call_messages.specs.Dressing.{asks_if, branch, dialog_with, dress_one, dressed, method_of, says_offer}
use Rattle.call_steps.specs.Messages.{given_up, is_abandon, messages}
use Rattle.call_steps.specs.Values.{SceneValue, lent, lent_scene}
use Rattle.message_laws.specs.Carried.{Carries}
use Rattle.message_laws.specs.Waiting.{IsOffering}
use Rattle.message_laws.proofs.AwaitedOffers.Coming.{OpensIn}
use Rattle.message_laws.proofs.AwaitedOffers.Offering.{given_up_none, one_offered, opens_split}

-- ---- what a request begins

record IsAskedBy (r : Request) (t : Transaction) : Type 0 where
  sent : t.last ≡ Some (message_text (Kinds.Request r))
  parts : r.parts ≡ t.parts

asked_by : (r : Request) (to : Addr) (b : Bool) (t : Transaction) → OpensIn t (cond b Leaves (Opens (asking r to (message_text (Kinds.Request r))) (asking_timers r.parts)) ∷ []) → IsAskedBy r t
asked_by r to true t h = absurd h
asked_by r to false t (inl e) = record { sent = ap (λ (x : Transaction). x.last) (sym e); parts = ap (λ (x : Transaction). x.parts) e }
asked_by r to false t (inr h) = absurd h

asked_at : (to : Option Addr) (r : Request) (made : ℕ) (t : Transaction) → OpensIn t (asks_at to r made).changes → IsAskedBy r t
asked_at None r made t h = absurd h
asked_at (Some to) r made t h = asked_by r to (is_method (codes "ACK") r.parts) t h

asked : (r : Request) (made : ℕ) (t : Transaction) → OpensIn t (asks r made).changes → IsAskedBy r t
asked r made t h = asked_at (address_of r.uri) r made t h

-- ---- offers

abbrev pub CarriesText : Option Description → Transaction → Type 0
CarriesText None t = ⊥
CarriesText (Some description) t = Carries t description

carried_by : (d : Dialog) (via : Via) (method : List ℕ) (hops : ℕ) (further : List Header) (description : Description) (made : ℕ) (b : Bool) (t : Transaction)
    → OpensIn t (asks_if (cond b (Some (request_in d via method (following d) hops further (description_text description))) None) made).changes → Carries t description
unfolding request_in
carried_by d via method hops further description made false t h = absurd h
carried_by d via method hops further description made true t h =
    let r = request_in d via method (following d) hops further (description_text description) in
    let is : IsAskedBy r t = asked r made t h in
    record { request = r; sent = is.sent; parts = is.parts; body = refl }

offer_carries : (s : Scene) (n : ℕ) (d : Option Dialog) (method : OfferMethod) (description : Option Description) (t : Transaction) → OpensIn t (says_offer s n d method description).changes → CarriesText description t
offer_carries s n None method description t h = absurd h
offer_carries s n (Some d) method None t h = h
offer_carries s n (Some d) method (Some description) t h =
    carried_by d (server_via s.server (branch s n)) (method_text (method_of method)) _ _ description 1 (nat_lt (last_number d) (max_for (method_of method))) t h

one_carries : (s : Scene) (n : ℕ) (action : Action) (t : Transaction) → OpensIn t (dress_one s n action).changes → IsOffering t → CarriesText (option_copied s.description) t
unfolding dress_one
one_carries s n (Offer end method) t h offers = offer_carries s n (dialog_with end s) method (option_copied s.description) t h
one_carries s n (Trying end) t h offers = absurd (one_offered s n (Trying end) t h offers)
one_carries s n (Provisional end status) t h offers = absurd (one_offered s n (Provisional end status) t h offers)
one_carries s n (Ack end) t h offers = absurd (one_offered s n (Ack end) t h offers)
one_carries s n (Answer end) t h offers = absurd (one_offered s n (Answer end) t h offers)
one_carries s n (AnswerAgain end) t h offers = absurd (one_offered s n (AnswerAgain end) t h offers)
one_carries s n (Refusal end status) t h offers = absurd (one_offered s n (Refusal end status) t h offers)
one_carries s n (Okay end) t h offers = absurd (one_offered s n (Okay end) t h offers)
one_carries s n (Cancel end) t h offers = absurd (one_offered s n (Cancel end) t h offers)
one_carries s n (Bye end) t h offers = absurd (one_offered s n (Bye end) t h offers)
one_carries s n PutRows t h offers = absurd h
one_carries s n Release t h offers = absurd h
one_carries s n RemoveRows t h offers = absurd h
one_carries s n (Set timer after) t h offers = absurd h
one_carries s n (Stop timer) t h offers = absurd h
one_carries s n (Abandon end) t h offers = absurd h

dressed_carries : (s : Scene) (n : ℕ) (actions : List Action) (t : Transaction) → OpensIn t (dressed s n actions).changes → IsOffering t → CarriesText (option_copied s.description) t
dressed_carries s n [] t h offers = absurd h
dressed_carries s n (action ∷ later) t h offers =
    let one = dress_one s n action in
    elim (opens_split t one.changes (dressed s (n + one.made) later).changes h) [
      | inl k ↦ one_carries s n action t k offers
      | inr k ↦ dressed_carries s (n + one.made) later t k offers
    ]

pub lent_text : (d : Option Description) → option_copied (option_map lent d) ≡ d
lent_text None = refl
lent_text (Some d) = refl

pub said_carries : (s : SceneValue) (passed : Option ℕ) (actions : List Action) (t : Transaction) → OpensIn t (messages s passed actions).dressed.changes → IsOffering t → CarriesText s.description t
unfolding messages
said_carries s passed actions t h offers = elim (opens_split t (dressed (lent_scene s) s.tokens actions).changes (given_up passed (find is_abandon actions)) h) [
  | inl k ↦ subst (λ d. CarriesText d t) (lent_text s.description) (dressed_carries (lent_scene s) s.tokens actions t k offers)
  | inr k ↦ absurd (given_up_none passed (find is_abandon actions) t k)
]
