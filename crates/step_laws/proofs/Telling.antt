-- What the actions of a call send, and to whom: each action with what goes by it, one after another.
use Rattle.std.proofs.Common.{◌≡◌, ℕ, nat_lt, true, Bool, false, cond, is_some, codes, List, [], ◌∷◌, ◌++◌, ◌+◌, Option, Some, None, refl, ap, sym, subst}
use Rattle.std.specs.Option.{option_copied}
use Rattle.std.proofs.lemmas.Bool.{false≢true}
use Rattle.sip_uri.specs.Address.{address_of}
use Rattle.sip_uri.specs.declared.uri.Addr.{Addr}
use Rattle.sip_message.specs.declared.message.Request.{Request as SipRequest}
use Rattle.sip_writing.specs.Reply.{response_address}
use Rattle.sip_writing.specs.Requests.{server_via}
use Rattle.sdp.specs.declared.description.Description.{Description}
use Rattle.dialogs.specs.Counting.{following, max_for, last_number, method_text}
use Rattle.dialogs.specs.Requests.{request_in}
use Rattle.dialogs.specs.declared.method.Method.TheVariants as methods
use Rattle.dialogs.specs.declared.state.Dialog.{Dialog}
use Rattle.events.specs.declared.sent.Sent.{Sent}
use Rattle.transactions.specs.SameBranch.{cancel_of}
use Rattle.transactions.specs.declared.transaction.Transaction.{Transaction}
use Rattle.call_media.specs.declared.end.End.{End}
use Rattle.call_core.specs.declared.action.Action.{Action}
use Rattle.call_core.specs.declared.action.Action.TheVariants.{Answer, AnswerAgain, Offer, Trying, Provisional, Ack, Refusal, Okay, Cancel, Bye}
use Rattle.call_core.specs.declared.row.Row.{Row}
use Rattle.call_core.specs.declared.signal.OfferMethod.{OfferMethod}
use Rattle.sdp.specs.Writing.{description_text}
use Rattle.call_messages.specs.Dressed.{asks_at, sent_request}
use Rattle.call_messages.specs.Dressing.{asks_if, branch, dialog_with, dress_one, dressed, says_ack, says_again, says_answer, says_bye, says_offer, method_of, says_cancel, says_okay, says_provisional, says_refusal, says_trying}
use Rattle.call_messages.specs.Messages as messages
use Rattle.call_messages.specs.declared.scene.Asker.{Asker}
use Rattle.call_messages.specs.declared.scene.Scene.{Scene}
use Rattle.call_trace.specs.declared.datagram.Message.{Message}
use Rattle.media_laws.specs.Lines.{actions_in}
use Rattle.media_laws.specs.Heard.{HearsAction, HearsActions, HearsAgain}
use Rattle.media_laws.proofs.OfferPairs.SeenWords.{response_replies}
use Rattle.media_laws.proofs.OfferPairs.Taking.{skip, take_one}
use Rattle.message_laws.specs.Saying.{SeesCancel, SeesIn, SeesTo}
use Rattle.message_laws.specs.Seeing.{SeesRequest, SeesResponse}
use Rattle.step_laws.specs.Sending.{AllGo, AsksIn, Goes, Going, RespondsTo}
use Rattle.step_laws.specs.Sending.{again, asks, cancels, responds}
use Rattle.step_laws.proofs.RefusalLines.{any_reply_tag}

-- these actions send just that, whatever tokens were made before
pub record Tells (s : Scene) (actions : List Action) (what : List Going) : Type 0 where
  pub each : (tokens : ℕ) (ms : List Message) → HearsActions s tokens actions ms → AllGo what (dressed s tokens actions).sends ms

-- this action sends one datagram to this address
abbrev SendsTo : Scene → ℕ → Action → (Addr → Type 0) → Type 0
SendsTo s tokens action to = (x : Sent) × ((dress_one s tokens action).sends ≡ x ∷ []) × to x.to

-- ---- one after another

pub tells_nothing : (s : Scene) → Tells s [] []
tells_nothing s = record { each = λ tokens ms h. (refl, h) }

-- an action that sends nothing
pub then_silent : {later : List Action} {what : List Going} (s : Scene) (action : Action) → ((tokens : ℕ) → (dress_one s tokens action).sends ≡ []) → Tells s later what → Tells s (action ∷ later) what
then_silent {later = later} {what = what} s action none next = record {
  each = λ tokens ms h.
      let count = tokens + (dress_one s tokens action).made in
      subst (λ l. AllGo what (l ++ (dressed s count later).sends) ms) (sym (none tokens)) (next.each count ms (skip s tokens action later ms (none tokens) h));
}

-- one that sends one datagram
then_one : (s : Scene) (action : Action) (later : List Action) (g : Going) (what : List Going) (to : Addr → Type 0) → ((tokens : ℕ) → SendsTo s tokens action to)
    → ((tokens : ℕ) (a : Addr) (m : Message) → to a → HearsAction s tokens action m → Goes g a m) → Tells s later what → Tells s (action ∷ later) (g ∷ what)
then_one s action later g what to one goes next = record {
  each = λ tokens ms h.
      let x = one tokens in
      let went = take_one s tokens action later ms x.0 x.1 h in
      let count = tokens + (dress_one s tokens action).made in
      subst (λ l. AllGo (g ∷ what) (l ++ (dressed s count later).sends) ms) (sym x.1)
      (subst (AllGo (g ∷ what) (x.0 ∷ (dressed s count later).sends)) (sym went.whole) (goes tokens x.0.to went.message x.2 went.heard, next.each count went.rest went.more));
}

-- by one of two rows
pub tells_first : {what : List Going} (s : Scene) (b : Bool) (one other : Option Row) → b ≡ true → Tells s (actions_in one) what → Tells s (actions_in (cond b one other)) what
tells_first s true one other is h = h
tells_first s false one other is h = absurd (false≢true is)

pub tells_other : {what : List Going} (s : Scene) (b : Bool) (one other : Option Row) → b ≡ false → Tells s (actions_in other) what → Tells s (actions_in (cond b one other)) what
tells_other s false one other is h = h
tells_other s true one other is h = absurd (false≢true (sym is))

-- ---- responses

pub responds_seen : (a : Asker) (status : ℕ) (body : Option Description) (to : Addr) (m : Message) → to ≡ response_address a.parts.now.vias a.source → SeesResponse a.parts.now status a.tag.now body m → RespondsTo a.parts.now a.source status to m
responds_seen a status body to m there seen = record {
  address = there;
  kind = seen.kind;
  replies = λ came is. response_replies a.parts.now status a.tag.now body m came is seen (any_reply_tag a.parts.now status a.tag.now);
}

module _ (s : Scene) (a : Asker) where
  abbrev To : Addr → Type 0
  To to = to ≡ response_address a.parts.now.vias a.source

  pub then_trying : {later : List Action} {what : List Going} (end : End) → s.offer ≡ Some a → Tells s later what → Tells s (Trying end ∷ later) (responds a.parts.now a.source 100 ∷ what)
  unfolding dress_one
  then_trying end has next =
      then_one s (Trying end) _ (responds a.parts.now a.source 100) _ To (λ tokens. subst (λ (o : Option Asker). (x : Sent) × ((says_trying o).sends ≡ x ∷ []) × To x.to) (sym has) (_, refl, refl))
      (λ tokens to m there h. responds_seen a 100 None to m there (subst (λ (o : Option Asker). SeesTo o 100 None m) has h)) next

  pub then_provisional : {later : List Action} {what : List Going} (end : End) (status : ℕ) → s.offer ≡ Some a → Tells s later what → Tells s (Provisional end status ∷ later) (responds a.parts.now a.source status ∷ what)
  unfolding dress_one
  then_provisional end status has next =
      then_one s (Provisional end status) _ (responds a.parts.now a.source status) _ To
      (λ tokens. subst (λ (o : Option Asker). (x : Sent) × ((says_provisional s.server o status).sends ≡ x ∷ []) × To x.to) (sym has) (_, refl, refl))
      (λ tokens to m there h. responds_seen a status None to m there (subst (λ (o : Option Asker). SeesTo o status None m) has h)) next

  pub then_refusal : {later : List Action} {what : List Going} (end : End) (status : ℕ) → s.offer ≡ Some a → Tells s later what → Tells s (Refusal end status ∷ later) (responds a.parts.now a.source status ∷ what)
  unfolding dress_one
  then_refusal end status has next =
      then_one s (Refusal end status) _ (responds a.parts.now a.source status) _ To (λ tokens. subst (λ (o : Option Asker). (x : Sent) × ((says_refusal o status).sends ≡ x ∷ []) × To x.to) (sym has) (_, refl, refl))
      (λ tokens to m there h. responds_seen a status None to m there (subst (λ (o : Option Asker). SeesTo o status None m) has h)) next

  pub then_okay : {later : List Action} {what : List Going} (end : End) → s.request ≡ Some a → Tells s later what → Tells s (Okay end ∷ later) (responds a.parts.now a.source 200 ∷ what)
  unfolding dress_one
  then_okay end has next =
      then_one s (Okay end) _ (responds a.parts.now a.source 200) _ To (λ tokens. subst (λ (o : Option Asker). (x : Sent) × ((says_okay s.server o).sends ≡ x ∷ []) × To x.to) (sym has) (_, refl, refl))
      (λ tokens to m there h. responds_seen a 200 None to m there (subst (λ (o : Option Asker). SeesTo o 200 None m) has h)) next

  -- the 200 with the answer
  pub then_answer : {later : List Action} {what : List Going} (end : End) (given : Description) → s.offer ≡ Some a → option_copied s.description ≡ Some given → Tells s later what
      → Tells s (Answer end ∷ later) (responds a.parts.now a.source 200 ∷ what)
  unfolding dress_one
  then_answer end given has says next =
      then_one s (Answer end) _ (responds a.parts.now a.source 200) _ To
      (λ tokens. subst (λ (o : Option Asker). (x : Sent) × ((says_answer s.server o (option_copied s.description)).sends ≡ x ∷ []) × To x.to) (sym has)
      (subst (λ (o : Option Description). (x : Sent) × ((says_answer s.server (Some a) o).sends ≡ x ∷ []) × To x.to) (sym says) (_, refl, refl)))
      (λ tokens to m there h. responds_seen a 200 (option_copied s.description) to m there (subst (λ (o : Option Asker). SeesTo o 200 (option_copied s.description) m) has h)) next

-- ---- the 200 that went before

pub then_again : {later : List Action} {what : List Going} (s : Scene) (end : End) (x : Sent) → option_copied s.again ≡ Some x → Tells s later what → Tells s (AnswerAgain end ∷ later) (again x ∷ what)
unfolding dress_one
then_again s end x has next =
    then_one s (AnswerAgain end) _ (again x) _ (λ to. to ≡ x.to) (λ tokens. subst (λ (o : Option Sent). (y : Sent) × ((says_again o).sends ≡ y ∷ []) × (y.to ≡ x.to)) (sym has) (x, refl, refl))
    (λ tokens to m there h. record { address = there; is = subst (λ o. HearsAgain o m) has h }) next

pub then_none_again : {later : List Action} {what : List Going} (s : Scene) (end : End) → option_copied s.again ≡ None → Tells s later what → Tells s (AnswerAgain end ∷ later) what
unfolding dress_one
then_none_again s end has next = then_silent s (AnswerAgain end) (λ tokens. subst (λ (o : Option Sent). (says_again o).sends ≡ []) (sym has) refl) next

-- ---- requests in a dialog

pub asks_seen : (d : Dialog) (token : List ℕ) (n : ℕ) (name : List ℕ) (body : Option Description) (to : Addr) (m : Message) → address_of d.target ≡ Some to → SeesRequest d token n name body m → AsksIn d name to m
asks_seen d token n name body to m leads seen =
    record { address = leads; kind = seen.kind; method = seen.method; call_id = seen.call_id; from_tag = seen.from_tag; to_tag = seen.to_tag }

-- it goes to the address of its Request-URI
asks_there : (o : Option Addr) (request : SipRequest) (made : ℕ) → is_some o ≡ true → (x : Sent) × ((asks_at o request made).sends ≡ x ∷ []) × (o ≡ Some x.to)
asks_there None request made leads = absurd cc
asks_there (Some to) request made leads = (sent_request to request, refl, refl)

numbered_there : (b : Bool) (o : Option Addr) (request : SipRequest) (made : ℕ) → b ≡ true → address_of request.uri ≡ o → is_some o ≡ true
    → (x : Sent) × ((asks_if (cond b (Some request) None) made).sends ≡ x ∷ []) × (o ≡ Some x.to)
numbered_there false o request made numbered is leads = absurd cc
numbered_there true o request made numbered is leads = subst (λ (a : Option Addr). (x : Sent) × ((asks_at a request made).sends ≡ x ∷ []) × (o ≡ Some x.to)) (sym is) (asks_there o request made leads)

module _ (s : Scene) (end : End) (d : Dialog) (has : dialog_with end s ≡ Some d) (leads : is_some (address_of d.target) ≡ true) where
  abbrev At : Addr → Type 0
  At to = address_of d.target ≡ Some to

  pub then_ack : {later : List Action} {what : List Going} → Tells s later what → Tells s (Ack end ∷ later) (asks d (codes "ACK") ∷ what)
  unfolding dress_one request_in
  then_ack next =
      then_one s (Ack end) _ (asks d (codes "ACK")) _ At
      (λ tokens. subst (λ (o : Option Dialog). (x : Sent) × ((says_ack s tokens o).sends ≡ x ∷ []) × At x.to) (sym has) (asks_there (address_of d.target) (messages.ack s.server d (branch s tokens)) 1 leads))
      (λ tokens to m there h. asks_seen d (branch s tokens) (last_number d) (codes "ACK") None to m there (subst (λ (o : Option Dialog). SeesIn o (branch s tokens) last_number (codes "ACK") None m) has h)) next

  pub then_bye : {later : List Action} {what : List Going} → nat_lt (last_number d) (max_for methods.Bye) ≡ true → Tells s later what → Tells s (Bye end ∷ later) (asks d (codes "BYE") ∷ what)
  unfolding dress_one request_in
  then_bye numbered next =
      then_one s (Bye end) _ (asks d (codes "BYE")) _ At
      (λ tokens. subst (λ (o : Option Dialog). (x : Sent) × ((says_bye s tokens o).sends ≡ x ∷ []) × At x.to) (sym has)
      (numbered_there (nat_lt (last_number d) (max_for methods.Bye)) (address_of d.target) (request_in d (server_via s.server (branch s tokens)) (method_text methods.Bye) (following d) 70 [] []) 1 numbered refl leads))
      (λ tokens to m there h. asks_seen d (branch s tokens) (following d) (codes "BYE") None to m there (subst (λ (o : Option Dialog). SeesIn o (branch s tokens) following (codes "BYE") None m) has h)) next

  pub then_offer : {later : List Action} {what : List Going} (method : OfferMethod) (given : Description) → option_copied s.description ≡ Some given → nat_lt (last_number d) (max_for (method_of method)) ≡ true → Tells s later what
      → Tells s (Offer end method ∷ later) (asks d (method_text (method_of method)) ∷ what)
  unfolding dress_one request_in
  then_offer method given says numbered next =
      let name = method_text (method_of method) in
      then_one s (Offer end method) _ (asks d name) _ At
      (λ tokens. subst (λ (o : Option Dialog). (x : Sent) × ((says_offer s tokens o method (option_copied s.description)).sends ≡ x ∷ []) × At x.to) (sym has)
      (subst (λ (o : Option Description). (x : Sent) × ((says_offer s tokens (Some d) method o).sends ≡ x ∷ []) × At x.to) (sym says)
      (numbered_there (nat_lt (last_number d) (max_for (method_of method))) (address_of d.target)
      (request_in d (server_via s.server (branch s tokens)) name (following d) (messages.one_hop_less s.hops) (messages.description_headers s.server) (description_text given)) 1 numbered refl leads)))
      (λ tokens to m there h. asks_seen d (branch s tokens) (following d) name (option_copied s.description) to m there
      (subst (λ (o : Option Dialog). SeesIn o (branch s tokens) following name (option_copied s.description) m) has h)) next

-- ---- CANCEL

pub then_cancel : {later : List Action} {what : List Going} (s : Scene) (end : End) (invite : Transaction) (request : SipRequest) → option_copied s.passed ≡ Some invite → cancel_of invite ≡ Some request → request.uri ≡ invite.uri → is_some (address_of invite.uri) ≡ true
    → Tells s later what → Tells s (Cancel end ∷ later) (cancels invite ∷ what)
unfolding dress_one
then_cancel s end invite request has of same leads next =
    let At : Addr → Type 0 = λ to. address_of invite.uri ≡ Some to in
    then_one s (Cancel end) _ (cancels invite) _ At
    (λ tokens. subst (λ (o : Option Transaction). (x : Sent) × ((says_cancel o).sends ≡ x ∷ []) × At x.to) (sym has)
    (subst (λ (o : Option SipRequest). (x : Sent) × ((asks_if o 0).sends ≡ x ∷ []) × At x.to) (sym of)
    (numbered_there true (address_of invite.uri) request 0 refl (ap address_of same) leads)))
    (λ tokens to m there h. record { address = there; like = subst (λ (o : Option Transaction). SeesCancel o m) has h }) next
