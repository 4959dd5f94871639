-- Whatever the line: each message that a step of a call sends is to one of its ends.
use Rattle.std.proofs.Common.{◌≡◌, ◌∙◌, ◌++◌, ◌+◌, ℕ, Bool, true, false, cond, nat_lt, codes, List, [], ◌∷◌, Option, Some, None, inl, inr, ◌⊎◌, refl, ap, sym, subst}
use Rattle.std.specs.Option.{option_copied}
use Rattle.sip_uri.specs.Address.{address_of}
use Rattle.sip_uri.specs.declared.uri.Addr.{Addr}
use Rattle.sip_message.specs.declared.message.Request.{Request as SipRequest}
use Rattle.sip_message.specs.declared.via.Via.{Via}
use Rattle.sdp.specs.Writing.{description_text}
use Rattle.sdp.specs.declared.description.Description.{Description}
use Rattle.dialogs.specs.Counting.{following, max_for, last_number, method_text}
use Rattle.dialogs.specs.Requests.{request_in}
use Rattle.dialogs.specs.declared.method.Method.TheVariants as methods
use Rattle.dialogs.specs.declared.state.Dialog.{Dialog}
use Rattle.events.specs.declared.sent.Sent.{Sent}
use Rattle.sip_writing.specs.Reply.{response_address}
use Rattle.sip_writing.specs.Requests.{server_via}
use Rattle.transaction_machines.specs.declared.state.State.{State}
use Rattle.transaction_machines.specs.declared.state.State.TheVariants.{InviteClient, InviteServer, OtherClient, OtherServer}
use Rattle.transactions.specs.SameBranch.{cancel_by, cancel_of, cancel_with, request_like}
use Rattle.transactions.specs.declared.transaction.Transaction.{Transaction}
use Rattle.call_media.specs.declared.end.End.{End}
use Rattle.call_core.specs.declared.action.Action.{Action}
use Rattle.call_core.specs.declared.action.Action.TheVariants.{Trying, Offer, Provisional, Ack, Answer, AnswerAgain, Refusal, Okay, Cancel, Bye, PutRows, Release, RemoveRows, Set, Stop, Abandon}
use Rattle.call_core.specs.declared.signal.OfferMethod.{OfferMethod}
use Rattle.call_messages.specs.Dressed.{asks_at}
use Rattle.call_messages.specs.Dressing.{asks_if, branch, dialog_with, dress_one, dressed, method_of, says_ack, says_again, says_answer, says_bye, says_cancel, says_offer, says_okay, says_provisional, says_refusal, says_trying}
use Rattle.call_messages.specs.Messages as messages
use Rattle.call_messages.specs.declared.scene.Asker.{Asker}
use Rattle.call_messages.specs.declared.scene.Scene.{Scene}
use Rattle.call_trace.specs.declared.datagram.Message.{Message}
use Rattle.media_laws.specs.Heard.{HearsAction, HearsActions}
use Rattle.media_laws.proofs.OfferPairs.Taking.{skip, take_one}
use Rattle.message_laws.specs.Messages.{IsMessage}
use Rattle.message_laws.specs.Saying.{SeesCancel, SeesIn, SeesTo}
use Rattle.step_laws.specs.Sending.{AsksIn, CancelsThe, EachGoes, RespondsTo}
use Rattle.step_laws.proofs.Telling.{asks_seen, responds_seen}

-- the CANCEL of an INVITE has its Request-URI
with_uri : (t : Transaction) (vias : List Via) (r : SipRequest) → cancel_with t.uri t.parts vias ≡ Some r → r.uri ≡ t.uri
unfolding request_like
with_uri t [] r is = absurd cc
with_uri t (via ∷ vias) r is = cc

by_uri : (t : Transaction) (state : State) (r : SipRequest) → cancel_by state t.uri t.parts ≡ Some r → r.uri ≡ t.uri
by_uri t (InviteClient x) r is = with_uri t t.parts.vias r is
by_uri t (InviteServer x) r is = absurd cc
by_uri t (OtherClient x) r is = absurd cc
by_uri t (OtherServer x) r is = absurd cc

module _ (s : Scene) (P : Addr → Message → Type 0) (to_offer : (a : Asker) → s.offer ≡ Some a → (status : ℕ) (to : Addr) (m : Message) → RespondsTo a.parts.now a.source status to m → P to m)
    (to_request : (a : Asker) → s.request ≡ Some a → (to : Addr) (m : Message) → RespondsTo a.parts.now a.source 200 to m → P to m)
    (in_dialog : (end : End) (d : Dialog) → dialog_with end s ≡ Some d → (name : List ℕ) (to : Addr) (m : Message) → AsksIn d name to m → P to m)
    (to_cancel : (t : Transaction) → option_copied s.passed ≡ Some t → (to : Addr) (m : Message) → CancelsThe t to m → P to m)
    (goes_again : (x : Sent) → option_copied s.again ≡ Some x → (m : Message) → IsMessage x.bytes m → P x.to m) where
  -- nothing goes, or one datagram to whom it may
  abbrev Speaks : ℕ → Action → List Sent → Type 0
  Speaks tokens action sends = (sends ≡ []) ⊎ ((x : Sent) × (sends ≡ x ∷ []) × ((m : Message) → IsMessage x.bytes m → HearsAction s tokens action m → P x.to m))

  by_offer : (tokens : ℕ) (action : Action) (status : ℕ) (body : Option Description) (x : Sent) (a : Asker) → s.offer ≡ Some a → ((m : Message) → HearsAction s tokens action m → SeesTo s.offer status body m) → x.to ≡ response_address a.parts.now.vias a.source
      → (m : Message) → IsMessage x.bytes m → HearsAction s tokens action m → P x.to m
  by_offer tokens action status body x a has sees there m is h = to_offer a has status x.to m (responds_seen a status body x.to m there (subst (λ (o : Option Asker). SeesTo o status body m) has (sees m h)))

  trying : (tokens : ℕ) (end : End) (o : Option Asker) → s.offer ≡ o → Speaks tokens (Trying end) (says_trying o).sends
  trying tokens end None has = inl refl
  trying tokens end (Some a) has = inr (_, refl, by_offer tokens (Trying end) 100 None _ a has (λ m h. h) refl)

  provisional : (tokens : ℕ) (end : End) (status : ℕ) (o : Option Asker) → s.offer ≡ o → Speaks tokens (Provisional end status) (says_provisional s.server o status).sends
  provisional tokens end status None has = inl refl
  provisional tokens end status (Some a) has = inr (_, refl, by_offer tokens (Provisional end status) status None _ a has (λ m h. h) refl)

  refusal : (tokens : ℕ) (end : End) (status : ℕ) (o : Option Asker) → s.offer ≡ o → Speaks tokens (Refusal end status) (says_refusal o status).sends
  refusal tokens end status None has = inl refl
  refusal tokens end status (Some a) has = inr (_, refl, by_offer tokens (Refusal end status) status None _ a has (λ m h. h) refl)

  answer : (tokens : ℕ) (end : End) (o : Option Asker) (d : Option Description) → s.offer ≡ o → Speaks tokens (Answer end) (says_answer s.server o d).sends
  answer tokens end None d has = inl refl
  answer tokens end (Some a) None has = inl refl
  answer tokens end (Some a) (Some d) has = inr (_, refl, by_offer tokens (Answer end) 200 (option_copied s.description) _ a has (λ m h. h) refl)

  okay : (tokens : ℕ) (end : End) (o : Option Asker) → s.request ≡ o → Speaks tokens (Okay end) (says_okay s.server o).sends
  okay tokens end None has = inl refl
  okay tokens end (Some a) has = inr (_, refl, λ m is h. to_request a has _ m (responds_seen a 200 None _ m refl (subst (λ (o : Option Asker). SeesTo o 200 None m) has h)))

  answer_again : (tokens : ℕ) (end : End) (o : Option Sent) → option_copied s.again ≡ o → Speaks tokens (AnswerAgain end) (says_again o).sends
  answer_again tokens end None has = inl refl
  answer_again tokens end (Some x) has = inr (x, refl, λ m is h. goes_again x has m is)

  -- ---- requests

  asks_somewhere : (tokens : ℕ) (action : Action) (o : Option Addr) (request : SipRequest) (made : ℕ) → ((to : Addr) → o ≡ Some to → (m : Message) → HearsAction s tokens action m → P to m) → Speaks tokens action (asks_at o request made).sends
  asks_somewhere tokens action None request made each = inl refl
  asks_somewhere tokens action (Some to) request made each = inr (_, refl, λ m is h. each to refl m h)

  asks_numbered : (tokens : ℕ) (action : Action) (b : Bool) (request : SipRequest) (made : ℕ) → ((to : Addr) → address_of request.uri ≡ Some to → (m : Message) → HearsAction s tokens action m → P to m)
      → Speaks tokens action (asks_if (cond b (Some request) None) made).sends
  asks_numbered tokens action false request made each = inl refl
  asks_numbered tokens action true request made each = asks_somewhere tokens action (address_of request.uri) request made each

  ack : (tokens : ℕ) (end : End) (o : Option Dialog) → dialog_with end s ≡ o → Speaks tokens (Ack end) (says_ack s tokens o).sends
  unfolding request_in
  ack tokens end None has = inl refl
  ack tokens end (Some d) has =
      asks_somewhere tokens (Ack end) (address_of d.target) (messages.ack s.server d (branch s tokens)) 1
      (λ to there m h. in_dialog end d has (codes "ACK") to m (asks_seen d (branch s tokens) (last_number d) (codes "ACK") None to m there (subst (λ (o : Option Dialog). SeesIn o (branch s tokens) last_number (codes "ACK") None m) has h)))

  bye : (tokens : ℕ) (end : End) (o : Option Dialog) → dialog_with end s ≡ o → Speaks tokens (Bye end) (says_bye s tokens o).sends
  unfolding request_in
  bye tokens end None has = inl refl
  bye tokens end (Some d) has =
      asks_numbered tokens (Bye end) (nat_lt (last_number d) (max_for methods.Bye)) (request_in d (server_via s.server (branch s tokens)) (method_text methods.Bye) (following d) 70 [] []) 1
      (λ to there m h. in_dialog end d has (codes "BYE") to m (asks_seen d (branch s tokens) (following d) (codes "BYE") None to m there (subst (λ (o : Option Dialog). SeesIn o (branch s tokens) following (codes "BYE") None m) has h)))

  offer : (tokens : ℕ) (end : End) (method : OfferMethod) (o : Option Dialog) (given : Option Description) → dialog_with end s ≡ o → Speaks tokens (Offer end method) (says_offer s tokens o method given).sends
  unfolding request_in
  offer tokens end method None given has = inl refl
  offer tokens end method (Some d) None has = inl refl
  offer tokens end method (Some d) (Some given) has =
      let name = method_text (method_of method) in
      asks_numbered tokens (Offer end method) (nat_lt (last_number d) (max_for (method_of method)))
      (request_in d (server_via s.server (branch s tokens)) name (following d) (messages.one_hop_less s.hops) (messages.description_headers s.server) (description_text given)) 1
      (λ to there m h. in_dialog end d has name to m (asks_seen d (branch s tokens) (following d) name (option_copied s.description) to m there
      (subst (λ (o : Option Dialog). SeesIn o (branch s tokens) following name (option_copied s.description) m) has h)))

  cancel_by_request : (tokens : ℕ) (end : End) (t : Transaction) → option_copied s.passed ≡ Some t → (o : Option SipRequest) → cancel_of t ≡ o → Speaks tokens (Cancel end) (asks_if o 0).sends
  cancel_by_request tokens end t has None of = inl refl
  cancel_by_request tokens end t has (Some r) of =
      asks_somewhere tokens (Cancel end) (address_of r.uri) r 0
      (λ to there m h. to_cancel t has to m (record { address = sym (ap address_of (by_uri t t.state r of)) ∙ there; like = subst (λ (o : Option Transaction). SeesCancel o m) has h }))

  cancel : (tokens : ℕ) (end : End) (o : Option Transaction) → option_copied s.passed ≡ o → Speaks tokens (Cancel end) (says_cancel o).sends
  cancel tokens end None has = inl refl
  cancel tokens end (Some t) has = cancel_by_request tokens end t has (cancel_of t) refl

  -- ---- all

  speaks : (tokens : ℕ) (action : Action) → Speaks tokens action (dress_one s tokens action).sends
  unfolding dress_one
  speaks tokens (Trying end) = trying tokens end s.offer refl
  speaks tokens (Offer end method) = offer tokens end method (dialog_with end s) (option_copied s.description) refl
  speaks tokens (Provisional end status) = provisional tokens end status s.offer refl
  speaks tokens (Ack end) = ack tokens end (dialog_with end s) refl
  speaks tokens (Answer end) = answer tokens end s.offer (option_copied s.description) refl
  speaks tokens (AnswerAgain end) = answer_again tokens end (option_copied s.again) refl
  speaks tokens (Refusal end status) = refusal tokens end status s.offer refl
  speaks tokens (Okay end) = okay tokens end s.request refl
  speaks tokens (Cancel end) = cancel tokens end (option_copied s.passed) refl
  speaks tokens (Bye end) = bye tokens end (dialog_with end s) refl
  speaks tokens PutRows = inl refl
  speaks tokens Release = inl refl
  speaks tokens RemoveRows = inl refl
  speaks tokens (Set timer after) = inl refl
  speaks tokens (Stop timer) = inl refl
  speaks tokens (Abandon end) = inl refl

  then_all : (tokens : ℕ) (action : Action) (later : List Action) (ms : List Message) → Speaks tokens action (dress_one s tokens action).sends → HearsActions s tokens (action ∷ later) ms
      → ((rest : List Message) → HearsActions s (tokens + (dress_one s tokens action).made) later rest → EachGoes P (dressed s (tokens + (dress_one s tokens action).made) later).sends rest)
      → EachGoes P ((dress_one s tokens action).sends ++ (dressed s (tokens + (dress_one s tokens action).made) later).sends) ms
  then_all tokens action later ms (inl none) h next =
      let count = tokens + (dress_one s tokens action).made in
      subst (λ l. EachGoes P (l ++ (dressed s count later).sends) ms) (sym none) (next ms (skip s tokens action later ms none h))
  then_all tokens action later ms (inr x) h next =
      let count = tokens + (dress_one s tokens action).made in
      let went = take_one s tokens action later ms x.0 x.1 h in
      subst (λ l. EachGoes P (l ++ (dressed s count later).sends) ms) (sym x.1)
      (subst (EachGoes P (x.0 ∷ (dressed s count later).sends)) (sym went.whole) (x.2 went.message went.is went.heard, next went.rest went.more))

  pub each_goes : (actions : List Action) (tokens : ℕ) (ms : List Message) → HearsActions s tokens actions ms → EachGoes P (dressed s tokens actions).sends ms
  each_goes [] tokens ms h = h
  each_goes (action ∷ later) tokens ms h = then_all tokens action later ms (speaks tokens action) h (each_goes later (tokens + (dress_one s tokens action).made))
