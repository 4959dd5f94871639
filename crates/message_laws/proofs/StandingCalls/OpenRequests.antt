-- A call that waits on waits for the response to the same request; and an offer that goes out begins one.
use Rattle.std.proofs.Common.{◌≡◌, ◌∙◌, ℕ, ◌+◌, Bool, true, false, cond, List, [], ◌∷◌, ◌++◌, codes, find, nat_lt, Option, Some, None, is_some, refl, ap, sym, subst, inl, inr}
use Rattle.std.specs.List.{All}
use Rattle.std.specs.Option.{option_copied}
use Rattle.std.proofs.lemmas.Bool.{false≢true}
use Rattle.std.proofs.lemmas.List.Elements.{All-weaker}
use Rattle.std.proofs.lemmas.Option.{same_Some}
use Rattle.sip_uri.specs.Address.{address_of}
use Rattle.sip_uri.specs.declared.uri.Addr.{Addr}
use Rattle.sip_message.specs.Words.{is_method}
use Rattle.sip_message.specs.declared.message.Message.TheVariants as Kinds
use Rattle.sip_message.specs.declared.headers.Header.{Header}
use Rattle.sip_message.specs.declared.message.Request.{Request}
use Rattle.sip_message.specs.declared.via.Via.{Via}
use Rattle.sip_writing.specs.Requests.{server_via}
use Rattle.sip_writing.specs.Writing.{message_text}
use Rattle.sdp.specs.declared.description.Description.{Description}
use Rattle.dialogs.specs.Counting.{following, max_for, last_number, method_text}
use Rattle.dialogs.specs.Requests.{parts_in, request_in}
use Rattle.dialogs.specs.declared.state.Dialog.{Dialog}
use Rattle.transaction_machines.specs.Machines.{is_server}
use Rattle.transaction_machines.specs.Steps.{t1}
use Rattle.transaction_machines.specs.declared.invite_client.InviteClient.TheVariants.{Calling}
use Rattle.transaction_machines.specs.declared.other_client.OtherClient.TheVariants as others
use Rattle.transaction_machines.specs.declared.state.State.TheVariants as machine
use Rattle.transactions.specs.Transactions.{asking, asking_timers}
use Rattle.transactions.specs.declared.change.Entry.{Entry}
use Rattle.transactions.specs.declared.change.Entry.TheVariants.{Answers, Leaves, Opens, Tells}
use Rattle.transactions.specs.declared.transaction.Transaction.{Transaction}
use Rattle.call_media.specs.Ends.{other}
use Rattle.call_media.specs.declared.end.End.{End}
use Rattle.call_core.specs.Calls.{dialog_of}
use Rattle.call_core.specs.declared.action.Action.{Action}
use Rattle.call_core.specs.declared.action.Action.TheVariants.{Offer}
use Rattle.call_core.specs.declared.signal.OfferMethod.{OfferMethod}
use Rattle.call_core.specs.declared.signal.OfferMethod.TheVariants.{Invite, Update}
use Rattle.call_core.specs.declared.stage.Standing as stage
use Rattle.calls.specs.declared.standing_call.StandingCall.{StandingCall}
use Rattle.call_rules.specs.Responses.{awaits_final}
use Rattle.call_rules.specs.Speaking.{may_offer}
use Rattle.call_messages.specs.Dressed.{asks, asks_at}
use Rattle.call_messages.specs.Dressing.{asks_if, branch, dialog_with, dress_one, dressed, method_of, says_offer}
use Rattle.call_messages.specs.declared.scene.Scene.{Scene}
use Rattle.call_steps.specs.Messages.{given_up, is_abandon, messages}
use Rattle.call_steps.specs.Values.{SceneValue, lent_scene}
use Rattle.message_laws.specs.Carried.{has_leg}
use Rattle.message_laws.specs.Numbers.{begun_of}
use Rattle.message_laws.specs.OpenRequests.{HasRequest, IsAmong, IsOpenRequest}
use Rattle.message_laws.specs.Waiting.{IsOffering, from_tag, waits}
use Rattle.message_laws.proofs.AwaitedOffers.Awaiting.{keeps_at, opened, opens_on, same_tag}
use Rattle.message_laws.proofs.AwaitedOffers.Coming.{OpensIn}
use Rattle.message_laws.proofs.AwaitedOffers.Keeping.{CameFrom, StillOpen, leg_back, offer_after}

-- ---- lists of transactions

pub among_left : (xs ys : List Transaction) (t : Transaction) → IsAmong xs t → IsAmong (xs ++ ys) t
among_left [] ys t h = absurd h
among_left (x ∷ xs) ys t (inl h) = inl h
among_left (x ∷ xs) ys t (inr h) = inr (among_left xs ys t h)

pub among_right : (xs ys : List Transaction) (t : Transaction) → IsAmong ys t → IsAmong (xs ++ ys) t
among_right [] ys t h = h
among_right (x ∷ xs) ys t h = inr (among_right xs ys t h)

pub opens_among : (changes : List Entry) (t : Transaction) → OpensIn t changes → IsAmong (begun_of changes) t
opens_among [] t h = h
opens_among (Opens v starts ∷ changes) t (inl h) = inl h
opens_among (Opens v starts ∷ changes) t (inr h) = inr (opens_among changes t h)
opens_among (Tells id input fresh ∷ changes) t h = opens_among changes t h
opens_among (Answers id class bytes ∷ changes) t h = opens_among changes t h
opens_among (Leaves ∷ changes) t h = opens_among changes t h

-- all of the one are among the other
abbrev pub Within : List Transaction → List Transaction → Type 0
Within xs ys = (t : Transaction) → IsAmong xs t → IsAmong ys t

pub request_within : (xs ys : List Transaction) (c : StandingCall) → Within xs ys → HasRequest xs c → HasRequest ys c
request_within xs ys c w h n stands awaits leg =
    let found = h n stands awaits leg in
    (found.0, w found.0 found.1, found.2)

pub requests_within : (xs ys : List Transaction) (calls : List StandingCall) → Within xs ys → All (HasRequest xs) calls → All (HasRequest ys) calls
requests_within xs ys calls w each = All-weaker (HasRequest xs) (HasRequest ys) (λ c. request_within xs ys c w) calls each

-- ---- a call whose open offer is the earlier one

request_on : (c d : StandingCall) (n : stage.Standing) (t : Transaction) → StillOpen c d → CameFrom c d n → d.call.standing ≡ Some n → awaits_final n.stage ≡ true → IsOpenRequest c t → IsOpenRequest d t
request_on c d n t still came stands awaits r =
    let before = opened t.parts c r.opens in
    let same : came.before ≡ before.0 = same_Some came.before before.0 (sym came.stands ∙ before.1.stands) in
    record {
      offers = r.offers;
      tag = same_tag (from_tag t) c d still.same ∙ r.tag;
      opens = opens_on t.parts c d before.0 n still.same came.keeps before.1 stands awaits (came.offerer ∙ ap (λ (s : stage.Standing). s.offerer) same);
      carries = offer_after t c.call d.call still.offer r.carries;
    }

pub still_request : (begun : List Transaction) (c d : StandingCall) → StillOpen c d → HasRequest begun c → HasRequest begun d
still_request begun c d still h n stands awaits leg =
    let came = still.came n stands awaits in
    let end = other n.offerer in
    let before : has_leg (dialog_of end c.call) (Some came.before) ≡ true =
    leg_back (dialog_of end c.call) (dialog_of end d.call) came.before n (keeps_at c.call d.call end came.keeps) came.asked leg in
    let found = h came.before came.stands came.awaits (subst (λ x. has_leg (dialog_of (other x) c.call) (Some came.before) ≡ true) came.offerer before) in
    (found.0, found.1, request_on c d n found.0 still came stands awaits found.2)

-- ---- an offer that goes out

-- one that may carry an offer begins, and waits for its final response
pub record BeginsOne (changes : List Entry) : Type 0 where
  pub request : Transaction
  pub opens : OpensIn request changes
  pub offers : IsOffering request
  pub waits : waits request.state ≡ true

opens_left : (t : Transaction) (xs ys : List Entry) → OpensIn t xs → OpensIn t (xs ++ ys)
opens_left t [] ys h = absurd h
opens_left t (Opens v starts ∷ xs) ys (inl h) = inl h
opens_left t (Opens v starts ∷ xs) ys (inr h) = inr (opens_left t xs ys h)
opens_left t (Tells id input fresh ∷ xs) ys h = opens_left t xs ys h
opens_left t (Answers id class bytes ∷ xs) ys h = opens_left t xs ys h
opens_left t (Leaves ∷ xs) ys h = opens_left t xs ys h

pub opens_right : (t : Transaction) (xs ys : List Entry) → OpensIn t ys → OpensIn t (xs ++ ys)
opens_right t [] ys h = h
opens_right t (Opens v starts ∷ xs) ys h = inr (opens_right t xs ys h)
opens_right t (Tells id input fresh ∷ xs) ys h = opens_right t xs ys h
opens_right t (Answers id class bytes ∷ xs) ys h = opens_right t xs ys h
opens_right t (Leaves ∷ xs) ys h = opens_right t xs ys h

one_left : (xs ys : List Entry) → BeginsOne xs → BeginsOne (xs ++ ys)
one_left xs ys h = record { request = h.request; opens = opens_left h.request xs ys h.opens; offers = h.offers; waits = h.waits }

one_right : (xs ys : List Entry) → BeginsOne ys → BeginsOne (xs ++ ys)
one_right xs ys h = record { request = h.request; opens = opens_right h.request xs ys h.opens; offers = h.offers; waits = h.waits }

client_by : (b : Bool) → is_server (cond b (machine.InviteClient (Calling t1 false)) (machine.OtherClient (others.Trying t1))) ≡ false
client_by true = refl
client_by false = refl

waits_by : (b : Bool) → waits (cond b (machine.InviteClient (Calling t1 false)) (machine.OtherClient (others.Trying t1))) ≡ true
waits_by true = refl
waits_by false = refl

starts_one : (r : Request) (to : Addr) (b : Bool) → b ≡ false → may_offer r.parts ≡ true → BeginsOne (cond b Leaves (Opens (asking r to (message_text (Kinds.Request r))) (asking_timers r.parts)) ∷ [])
starts_one r to true no_ack offers = absurd (false≢true (sym no_ack))
starts_one r to false no_ack offers = record {
  request = asking r to (message_text (Kinds.Request r));
  opens = inl refl;
  offers = record { client = client_by (is_method (codes "INVITE") r.parts); offers = offers };
  waits = waits_by (is_method (codes "INVITE") r.parts);
}

asks_one : (r : Request) (to : Option Addr) (made : ℕ) → is_some to ≡ true → is_method (codes "ACK") r.parts ≡ false → may_offer r.parts ≡ true → BeginsOne (asks_at to r made).changes
asks_one r None made reached no_ack offers = absurd (false≢true reached)
asks_one r (Some to) made reached no_ack offers = starts_one r to (is_method (codes "ACK") r.parts) no_ack offers

in_one : (d : Dialog) (via : Via) (method : OfferMethod) (hops : ℕ) (further : List Header) (body : List ℕ) → is_some (address_of d.target) ≡ true
    → BeginsOne (asks (request_in d via (method_text (method_of method)) (following d) hops further body) 1).changes
unfolding request_in parts_in
in_one d via Invite hops further body reached = asks_one (request_in d via (method_text (method_of Invite)) (following d) hops further body) (address_of d.target) 1 reached refl refl
in_one d via Update hops further body reached = asks_one (request_in d via (method_text (method_of Update)) (following d) hops further body) (address_of d.target) 1 reached refl refl

numbered_one : (r : Request) (b : Bool) → b ≡ true → BeginsOne (asks r 1).changes → BeginsOne (asks_if (cond b (Some r) None) 1).changes
numbered_one r true is h = h
numbered_one r false is h = absurd (false≢true is)

number_left : (method : OfferMethod) (d : Dialog) → nat_lt (last_number d) (max_for (method_of Invite)) ≡ true → nat_lt (last_number d) (max_for (method_of method)) ≡ true
number_left Invite d h = h
number_left Update d h = h

-- a scene in which an offer can be said to this end
pub record CanOffer (s : Scene) (y : End) : Type 0 where
  pub leg : Dialog
  pub description : Description
  pub there : dialog_with y s ≡ Some leg
  pub says : option_copied s.description ≡ Some description
  pub leads : is_some (address_of leg.target) ≡ true
  pub numbered : nat_lt (last_number leg) (max_for (method_of Invite)) ≡ true

says_one : (s : Scene) (n : ℕ) (y : End) (method : OfferMethod) → CanOffer s y → BeginsOne (says_offer s n (dialog_with y s) method (option_copied s.description)).changes
says_one s n y method can =
    let d = can.leg in
    let one : BeginsOne (says_offer s n (Some d) method (Some can.description)).changes =
    numbered_one _ (nat_lt (last_number d) (max_for (method_of method))) (number_left method d can.numbered) (in_one d (server_via s.server (branch s n)) method _ _ _ can.leads) in
    subst (λ o. BeginsOne (says_offer s n o method (option_copied s.description)).changes) (sym can.there)
    (subst (λ e. BeginsOne (says_offer s n (Some d) method e).changes) (sym can.says) one)

pub offer_begins : (s : Scene) (n : ℕ) (y : End) (method : OfferMethod) (later : List Action) → CanOffer s y → BeginsOne (dressed s n (Offer y method ∷ later)).changes
unfolding dress_one
offer_begins s n y method later can = one_left (says_offer s n (dialog_with y s) method (option_copied s.description)).changes _ (says_one s n y method can)

pub behind_begins : (s : Scene) (n : ℕ) (action : Action) (later : List Action) → BeginsOne (dressed s (n + (dress_one s n action).made) later).changes → BeginsOne (dressed s n (action ∷ later)).changes
behind_begins s n action later h = one_right (dress_one s n action).changes _ h

pub said_begins : (s : SceneValue) (passed : Option ℕ) (actions : List Action) → BeginsOne (dressed (lent_scene s) s.tokens actions).changes → BeginsOne (messages s passed actions).dressed.changes
unfolding messages
said_begins s passed actions h = one_left (dressed (lent_scene s) s.tokens actions).changes (given_up passed (find is_abandon actions)) h
