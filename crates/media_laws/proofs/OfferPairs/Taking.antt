-- What a trace hears of actions, taken one by one: an action that says nothing, and one that says one message.
use Rattle.std.proofs.Common.{◌≡◌, ◌∙◌, ℕ, ◌+◌, ◌≤◌, nat_lt, Bool, true, false, cond, is_some, List, [], ◌∷◌, ◌++◌, Option, Some, None, refl, ap, sym, subst, arith}
use Rattle.std.specs.Option.{option_copied}
use Rattle.events.specs.declared.sent.Sent.{Sent}
use Rattle.sip_uri.specs.Address.{address_of}
use Rattle.sip_uri.specs.declared.uri.Addr.{Addr}
use Rattle.sip_message.specs.declared.message.Request.{Request}
use Rattle.sdp.specs.Writing.{description_text}
use Rattle.sdp.specs.declared.description.Description.{Description}
use Rattle.dialogs.specs.declared.method.Method.{Method}
use Rattle.dialogs.specs.declared.method.Method.TheVariants as methods
use Rattle.dialogs.specs.declared.state.Dialog.{Dialog}
use Rattle.dialogs.specs.Counting.{following, max_for, last_number, method_text}
use Rattle.dialogs.specs.Requests.{request_in}
use Rattle.sip_message.specs.declared.headers.Header.{Header}
use Rattle.sip_message.specs.declared.via.Via.{Via}
use Rattle.transactions.specs.declared.transaction.Transaction.{Transaction}
use Rattle.transactions.specs.SameBranch.{cancel_of}
use Rattle.call_media.specs.declared.end.End.{End}
use Rattle.call_core.specs.declared.action.Action.{Action}
use Rattle.call_core.specs.declared.action.Action.TheVariants.{Trying, Offer, Provisional, Ack, Answer, AnswerAgain, Refusal, Okay, Cancel, Bye, PutRows, Release, RemoveRows, Set, Stop, Abandon}
use Rattle.call_core.specs.declared.signal.OfferMethod.{OfferMethod}
use Rattle.call_messages.specs.declared.scene.Asker.{Asker}
use Rattle.call_messages.specs.declared.scene.Scene.{Scene}
use Rattle.call_messages.specs.Dressed.{asks, asks_at}
use Rattle.call_messages.specs.Dressing.{asks_if, branch, dialog_with, dress_one, method_of, says_ack, says_answer, says_bye, says_cancel, says_offer, says_okay, says_provisional, says_refusal, says_again, says_trying}
use Rattle.call_messages.specs.Messages as messages
use Rattle.sip_writing.specs.Requests.{server_via}
use Rattle.call_trace.specs.declared.datagram.Message.{Message}
use Rattle.message_laws.specs.Messages.{IsMessage}
use Rattle.media_laws.specs.Heard.{HearsAction, HearsActions, HearsOne}

-- ---- one action

pub skip : (s : Scene) (tokens : ℕ) (action : Action) (later : List Action) (ms : List Message) → (dress_one s tokens action).sends ≡ [] → HearsActions s tokens (action ∷ later) ms
    → HearsActions s (tokens + (dress_one s tokens action).made) later ms
skip s tokens action later ms none h =
    let first : h.0 ≡ [] = subst (λ l. HearsOne (HearsAction s tokens action) l h.0) none h.3 in
    subst (HearsActions s (tokens + (dress_one s tokens action).made) later) (sym (h.2 ∙ ap (λ l. l ++ h.1) first)) h.4

-- the message that it says
pub record OneSaid (s : Scene) (tokens : ℕ) (action : Action) (later : List Action) (ms : List Message) (bytes : List ℕ) : Type 0 where
  pub message : Message
  pub rest : List Message
  pub whole : ms ≡ message ∷ rest
  pub is : IsMessage bytes message
  pub heard : HearsAction s tokens action message
  pub more : HearsActions s (tokens + (dress_one s tokens action).made) later rest

pub take_one : (s : Scene) (tokens : ℕ) (action : Action) (later : List Action) (ms : List Message) (x : Sent) → (dress_one s tokens action).sends ≡ x ∷ [] → HearsActions s tokens (action ∷ later) ms
    → OneSaid s tokens action later ms x.bytes
take_one s tokens action later ms x one h =
    let first : HearsOne (HearsAction s tokens action) (x ∷ []) h.0 = subst (λ l. HearsOne (HearsAction s tokens action) l h.0) one h.3 in
    record { message = first.0; rest = h.1; whole = h.2 ∙ ap (λ l. l ++ h.1) first.1; is = first.2; heard = first.3; more = h.4 }

-- ---- how many it says, and how many tokens it makes

-- one datagram
abbrev pub SaysOne : Scene → ℕ → Action → Type 0
SaysOne s tokens action = (x : Sent) × ((dress_one s tokens action).sends ≡ x ∷ [])

asks_one : (request : Request) (made : ℕ) → is_some (address_of request.uri) ≡ true → (x : Sent) × ((asks request made).sends ≡ x ∷ [])
asks_one request made leads = by_address (address_of request.uri) leads
  where
    by_address : (to : Option Addr) → is_some to ≡ true → (x : Sent) × ((asks_at to request made).sends ≡ x ∷ [])
    by_address None e = absurd (cc)
    by_address (Some to) e = (_, refl)

pub ack_one : (s : Scene) (tokens : ℕ) (end : End) (l : Dialog) → dialog_with end s ≡ Some l → is_some (address_of l.target) ≡ true → SaysOne s tokens (Ack end)
unfolding dress_one request_in
ack_one s tokens end l is leads =
    subst (λ (o : Option Dialog). (x : Sent) × ((says_ack s tokens o).sends ≡ x ∷ [])) (sym is) (asks_one (messages.ack s.server l (branch s tokens)) 1 leads)

-- a request with a number that is left
numbered_one : (l : Dialog) (via : Via) (method : Method) (hops : ℕ) (further : List Header) (body : List ℕ) (made : ℕ) → nat_lt (last_number l) (max_for method) ≡ true → is_some (address_of l.target) ≡ true
    → (x : Sent) × ((asks_if (messages.next_request l method via hops further body) made).sends ≡ x ∷ [])
unfolding request_in
numbered_one l via method hops further body made numbered leads =
    by_number (nat_lt (last_number l) (max_for method)) numbered
  where
    by_number : (b : Bool) → b ≡ true → (x : Sent) × ((asks_if (cond b (Some (request_in l via (method_text method) (following l) hops further body)) None) made).sends ≡ x ∷ [])
    by_number true e = asks_one (request_in l via (method_text method) (following l) hops further body) made leads
    by_number false e = absurd (cc)

pub bye_one : (s : Scene) (tokens : ℕ) (end : End) (l : Dialog) → dialog_with end s ≡ Some l → nat_lt (last_number l) (max_for methods.Bye) ≡ true → is_some (address_of l.target) ≡ true → SaysOne s tokens (Bye end)
unfolding dress_one
bye_one s tokens end l is numbered leads =
    subst (λ (o : Option Dialog). (x : Sent) × ((says_bye s tokens o).sends ≡ x ∷ [])) (sym is) (numbered_one l (server_via s.server (branch s tokens)) methods.Bye 70 [] [] 1 numbered leads)

pub trying_one : (s : Scene) (tokens : ℕ) (end : End) (a : Asker) → s.offer ≡ Some a → SaysOne s tokens (Trying end)
unfolding dress_one
trying_one s tokens end a is = subst (λ (o : Option Asker). (x : Sent) × ((says_trying o).sends ≡ x ∷ [])) (sym is) (_, refl)

pub refusal_one : (s : Scene) (tokens : ℕ) (end : End) (status : ℕ) (a : Asker) → s.offer ≡ Some a → SaysOne s tokens (Refusal end status)
unfolding dress_one
refusal_one s tokens end status a is = subst (λ (o : Option Asker). (x : Sent) × ((says_refusal o status).sends ≡ x ∷ [])) (sym is) (_, refl)

pub okay_one : (s : Scene) (tokens : ℕ) (end : End) (a : Asker) → s.request ≡ Some a → SaysOne s tokens (Okay end)
unfolding dress_one
okay_one s tokens end a is = subst (λ (o : Option Asker). (x : Sent) × ((says_okay s.server o).sends ≡ x ∷ [])) (sym is) (_, refl)

pub answer_one : (s : Scene) (tokens : ℕ) (end : End) (a : Asker) (d : Description) → s.offer ≡ Some a → option_copied s.description ≡ Some d → SaysOne s tokens (Answer end)
unfolding dress_one
answer_one s tokens end a d is said =
    subst (λ (o : Option Asker). (x : Sent) × ((says_answer s.server o (option_copied s.description)).sends ≡ x ∷ [])) (sym is)
    (subst (λ (o : Option Description). (x : Sent) × ((says_answer s.server (Some a) o).sends ≡ x ∷ [])) (sym said) (_, refl))

pub offer_one : (s : Scene) (tokens : ℕ) (end : End) (method : OfferMethod) (l : Dialog) (d : Description) → dialog_with end s ≡ Some l → option_copied s.description ≡ Some d
    → nat_lt (last_number l) (max_for (method_of method)) ≡ true → is_some (address_of l.target) ≡ true → SaysOne s tokens (Offer end method)
unfolding dress_one
offer_one s tokens end method l d is said numbered leads =
    subst (λ (o : Option Dialog). (x : Sent) × ((says_offer s tokens o method (option_copied s.description)).sends ≡ x ∷ [])) (sym is)
    (subst (λ (o : Option Description). (x : Sent) × ((says_offer s tokens (Some l) method o).sends ≡ x ∷ [])) (sym said)
    (numbered_one l (server_via s.server (branch s tokens)) (method_of method) (messages.one_hop_less s.hops) (messages.description_headers s.server) (description_text d) 1 numbered leads))

-- ---- what says nothing

pub puts_none : (s : Scene) (tokens : ℕ) → (dress_one s tokens PutRows).sends ≡ []
unfolding dress_one
puts_none s tokens = refl

pub releases_none : (s : Scene) (tokens : ℕ) → (dress_one s tokens Release).sends ≡ []
unfolding dress_one
releases_none s tokens = refl

pub removes_none : (s : Scene) (tokens : ℕ) → (dress_one s tokens RemoveRows).sends ≡ []
unfolding dress_one
removes_none s tokens = refl

pub sets_none : (s : Scene) (tokens : ℕ) (timer : _) (after : ℕ) → (dress_one s tokens (Set timer after)).sends ≡ []
unfolding dress_one
sets_none s tokens timer after = refl

pub stops_none : (s : Scene) (tokens : ℕ) (timer : _) → (dress_one s tokens (Stop timer)).sends ≡ []
unfolding dress_one
stops_none s tokens timer = refl

pub abandons_none : (s : Scene) (tokens : ℕ) (end : End) → (dress_one s tokens (Abandon end)).sends ≡ []
unfolding dress_one
abandons_none s tokens end = refl

-- ---- tokens

asks_made : (o : Option Addr) (request : Request) (made : ℕ) → (asks_at o request made).made ≤ made
asks_made None request made = omega arith
asks_made (Some to) request made = omega arith

asks_if_made : (o : Option Request) (made : ℕ) → (asks_if o made).made ≤ made
asks_if_made None made = omega arith
asks_if_made (Some request) made = asks_made (address_of request.uri) request made

offer_made : (s : Scene) (tokens : ℕ) (l : Option Dialog) (method : OfferMethod) (d : Option Description) → (says_offer s tokens l method d).made ≤ 1
offer_made s tokens None method d = omega arith
offer_made s tokens (Some l) method None = omega arith
offer_made s tokens (Some l) method (Some d) = asks_if_made (messages.offer s.server l (method_of method) s.hops d (branch s tokens)) 1

ack_made : (s : Scene) (tokens : ℕ) (l : Option Dialog) → (says_ack s tokens l).made ≤ 1
ack_made s tokens None = omega arith
ack_made s tokens (Some l) = asks_made (address_of (messages.ack s.server l (branch s tokens)).uri) (messages.ack s.server l (branch s tokens)) 1

bye_made : (s : Scene) (tokens : ℕ) (l : Option Dialog) → (says_bye s tokens l).made ≤ 1
bye_made s tokens None = omega arith
bye_made s tokens (Some l) = asks_if_made (messages.bye s.server l (branch s tokens)) 1

trying_made : (o : Option Asker) → (says_trying o).made ≤ 1
trying_made None = omega arith
trying_made (Some a) = omega arith

provisional_made : (server : Addr) (o : Option Asker) (status : ℕ) → (says_provisional server o status).made ≤ 1
provisional_made server None status = omega arith
provisional_made server (Some a) status = omega arith

answer_made : (server : Addr) (o : Option Asker) (d : Option Description) → (says_answer server o d).made ≤ 1
answer_made server None d = omega arith
answer_made server (Some a) None = omega arith
answer_made server (Some a) (Some d) = omega arith

refusal_made : (o : Option Asker) (status : ℕ) → (says_refusal o status).made ≤ 1
refusal_made None status = omega arith
refusal_made (Some a) status = omega arith

okay_made : (server : Addr) (o : Option Asker) → (says_okay server o).made ≤ 1
okay_made server None = omega arith
okay_made server (Some a) = omega arith

again_made : (o : Option Sent) → (says_again o).made ≤ 1
again_made None = omega arith
again_made (Some x) = omega arith

cancel_made : (o : Option Transaction) → (says_cancel o).made ≤ 1
cancel_made None = omega arith
cancel_made (Some x) = let h = asks_if_made (cancel_of x) 0 in omega (arith, h)

pub made_small : (s : Scene) (tokens : ℕ) (action : Action) → (dress_one s tokens action).made ≤ 1
unfolding dress_one
made_small s tokens (Trying end) = trying_made s.offer
made_small s tokens (Offer end method) = offer_made s tokens (dialog_with end s) method (option_copied s.description)
made_small s tokens (Provisional end status) = provisional_made s.server s.offer status
made_small s tokens (Ack end) = ack_made s tokens (dialog_with end s)
made_small s tokens (Answer end) = answer_made s.server s.offer (option_copied s.description)
made_small s tokens (AnswerAgain end) = again_made (option_copied s.again)
made_small s tokens (Refusal end status) = refusal_made s.offer status
made_small s tokens (Okay end) = okay_made s.server s.request
made_small s tokens (Cancel end) = cancel_made (option_copied s.passed)
made_small s tokens (Bye end) = bye_made s tokens (dialog_with end s)
made_small s tokens PutRows = omega arith
made_small s tokens Release = omega arith
made_small s tokens RemoveRows = omega arith
made_small s tokens (Set timer after) = omega arith
made_small s tokens (Stop timer) = omega arith
made_small s tokens (Abandon end) = omega arith
