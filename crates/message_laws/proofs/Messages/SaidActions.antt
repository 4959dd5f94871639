-- What the actions of a call say in a sound scene is of the form that is written and read again.
use Rattle.std.proofs.Common.{◌≡◌, ℕ, ◌+◌, ◌<◌, ◌≤◌, Bool, true, false, cond, List, [], ◌∷◌, codes, Option, Some, None, refl, arith}
use Rattle.std.specs.Prelude.{nat_eq}
use Rattle.std.specs.Cmp.Lexicographic.{pointwise}
use Rattle.std.specs.Option.{option_copied}
use Rattle.std.proofs.lemmas.Bool.{or_left, or_right}
use Rattle.events.specs.declared.sent.Sent.{Sent}
use Rattle.sip_uri.specs.declared.uri.Addr.{Addr}
use Rattle.sip_uri.specs.Address.{address_of}
use Rattle.sip_message.specs.declared.headers.Header.{Header}
use Rattle.sip_message.specs.declared.message.Message.TheVariants as Kinds
use Rattle.sip_message.specs.declared.message.Request.{Request}
use Rattle.sip_writing.specs.Writing.{message_text}
use Rattle.sip_writing.specs.WritingMessage.{IsWrittenMessage}
use Rattle.sdp.specs.declared.description.Description.{Description}
use Rattle.sdp.specs.Writing.{description_text}
use Rattle.dialogs.specs.declared.method.Method.TheVariants as methods
use Rattle.dialogs.specs.declared.state.Dialog.{Dialog}
use Rattle.dialogs.specs.Counting.{following, last_number, method_text}
use Rattle.dialogs.specs.Requests.{ack_text}
use Rattle.transactions.specs.declared.transaction.Transaction.{Transaction}
use Rattle.transactions.specs.SameBranch.{cancel_of}
use Rattle.call_media.specs.declared.end.End.{End}
use Rattle.call_media.specs.declared.end.End.TheVariants.{Callee, Caller}
use Rattle.call_core.specs.declared.action.Action.{Action}
use Rattle.call_core.specs.declared.action.Action.TheVariants.{Trying, Offer, Provisional, Ack, Answer, AnswerAgain, Refusal, Okay, Cancel, Bye, PutRows, Release, RemoveRows, Set, Stop, Abandon}
use Rattle.call_core.specs.declared.signal.OfferMethod.{OfferMethod}
use Rattle.call_messages.specs.declared.scene.Asker.{Asker}
use Rattle.call_messages.specs.declared.scene.Scene.{Scene}
use Rattle.call_messages.specs.Dressed.{asks_at}
use Rattle.call_messages.specs.Dressing.{asks_if, branch, dialog_with, dress_one, dressed, method_of, says_ack, says_again, says_answer, says_bye, says_cancel, says_offer, says_okay, says_provisional, says_refusal, says_trying}
use Rattle.call_messages.specs.Messages.{ack, answer, bye, contact, description_headers, offer, okay, okay_headers, provisional, refusal, response_to, trying}
use Rattle.responses.specs.Responding.{responds}
use Rattle.sip_writing.specs.Reply.{replied, reply_of}
use Rattle.call_trace.specs.declared.datagram.Message.{Message}
use Rattle.trace_reading.specs.Message.{trace_message}
use Rattle.message_laws.specs.Addresses.{IsReached}
use Rattle.message_laws.specs.Saying.{OneIf, ReadsBackIf, SeesAgain, SeesCancel, SeesIn, SeesTo}
use Rattle.message_laws.proofs.QuietEvents.Describing.{BodiesDescribe}
use Rattle.message_laws.proofs.TokenUse.Further.{FollowsIn, contact_follows, description_follows, none_follows, other_needs_none, refusal_needs_none}
use Rattle.message_laws.proofs.Messages.ReadParts.{IsStatus}
use Rattle.message_laws.proofs.Messages.Repeats.{responds_written}
use Rattle.message_laws.proofs.QuietEvents.SeenMessages.{ack_sees, answer_sees, bye_sees, cancel_sees, offer_sees, response_sees}
use Rattle.message_laws.proofs.TokenUse.WrittenRequests.{ack_stands, bye_stands, cancel_stands, offer_stands}
use Rattle.message_laws.specs.Said.{IsSaid, SaysAction, SaysActions}
use Rattle.message_laws.specs.SoundScenes.{CanSayIf, CanAskFrom, CanAskInIf, CanOkay, HasFitStatus, HaveFitStatuses, IsShortIf, IsSoundScene, IsSoundRequestIf, answer_offer, answers_offer}
use Rattle.message_laws.proofs.Messages.AnyToken.{any_token_run}

-- ---- requests, where there is an address to send them to

-- it is written, and a trace sees this
abbrev IsAsked : (Message → Type 0) → Request → Type 0
IsAsked sees r = IsWrittenMessage (Kinds.Request r) × sees (trace_message (message_text (Kinds.Request r)) (Kinds.Request r))

asked_at : (sees : Message → Type 0) (to : Option Addr) (r : Request) (made : ℕ) → IsAsked sees r → OneIf (IsSaid sees) (asks_at to r made).sends
asked_at sees None r made h = tt
asked_at sees (Some to) r made h = (Kinds.Request r, refl, h.0, h.1)

asked_if : (sees : Message → Type 0) (o : Option Request) (made : ℕ) → ((r : Request) → o ≡ Some r → IsAsked sees r) → OneIf (IsSaid sees) (asks_if o made).sends
asked_if sees None made h = tt
asked_if sees (Some r) made h = asked_at sees (address_of r.uri) r made (h r refl)

offer_said : BodiesDescribe → (s : Scene) (tokens : ℕ) (d : Option Dialog) (method : OfferMethod) (description : Option Description) → IsReached s.server → s.hops ≤ 255 → CanAskInIf d → ReadsBackIf description
    → IsShortIf description → OneIf (IsSaid (SeesIn d (branch s tokens) following (method_text (method_of method)) description)) (says_offer s tokens d method description).sends
offer_said describes s tokens None method description reached low can reads short = tt
offer_said describes s tokens (Some d) method None reached low can reads short = tt
offer_said describes s tokens (Some d) method (Some description) reached low can reads short =
    asked_if (SeesIn (Some d) (branch s tokens) following (method_text (method_of method)) (Some description)) (offer s.server d (method_of method) s.hops description (branch s tokens)) 1
    (λ r is. (
      offer_stands s.server d (method_of method) s.hops description (branch s tokens) r reached can.sound (any_token_run s.salt (tokens + 1)) low short is,
      offer_sees describes (message_text (Kinds.Request r)) s.server d (method_of method) s.hops description (branch s tokens) r reads is,
    ))

ack_said : (s : Scene) (tokens : ℕ) (d : Option Dialog) → IsReached s.server → CanAskInIf d → OneIf (IsSaid (SeesIn d (branch s tokens) last_number ack_text None)) (says_ack s tokens d).sends
ack_said s tokens None reached can = tt
ack_said s tokens (Some d) reached can =
    let r = ack s.server d (branch s tokens) in
    asked_at (SeesIn (Some d) (branch s tokens) last_number ack_text None) (address_of r.uri) r 1
    (ack_stands s.server d (branch s tokens) reached can.sound (any_token_run s.salt (tokens + 1)) can.low, ack_sees (message_text (Kinds.Request r)) s.server d (branch s tokens))

bye_said : (s : Scene) (tokens : ℕ) (d : Option Dialog) → IsReached s.server → CanAskInIf d → OneIf (IsSaid (SeesIn d (branch s tokens) following (method_text methods.Bye) None)) (says_bye s tokens d).sends
bye_said s tokens None reached can = tt
bye_said s tokens (Some d) reached can =
    asked_if (SeesIn (Some d) (branch s tokens) following (method_text methods.Bye) None) (bye s.server d (branch s tokens)) 1
    (λ r is. (
      bye_stands s.server d (branch s tokens) r reached can.sound (any_token_run s.salt (tokens + 1)) is,
      bye_sees (message_text (Kinds.Request r)) s.server d (branch s tokens) r is,
    ))

cancel_said : (t : Option Transaction) → IsSoundRequestIf t → OneIf (IsSaid (SeesCancel t)) (says_cancel t).sends
cancel_said None h = tt
cancel_said (Some t) h = asked_if (SeesCancel (Some t)) (cancel_of t) 0 (λ r is. (cancel_stands t r h.values h.via h.to is, cancel_sees (message_text (Kinds.Request r)) t r is))

-- ---- responses

-- one without a body
plain_written : (a : Asker) (status : ℕ) (further : List Header) → CanSayIf (Some a) → IsStatus status → FollowsIn status a.parts.now.cseq.method further
    → IsWrittenMessage (Kinds.Response (response_to a status further))
unfolding responds reply_of replied
plain_written a status further can is follows = responds_written a.parts.now a.source status a.tag.now further [] can.from can.repeats can.token is follows (omega arith)

trying_said : (a : Option Asker) → CanSayIf a → OneIf (IsSaid (SeesTo a 100 None)) (says_trying a).sends
trying_said None can = tt
trying_said (Some a) can = (
  Kinds.Response (trying a),
  refl,
  plain_written a 100 [] can (record { low = omega arith; high = omega arith }) (none_follows 100 a.parts.now.cseq.method tt),
  response_sees _ a.parts.now a.source 100 a.tag.now [],
)

provisional_said : (server : Addr) (a : Option Asker) (status : ℕ) → IsReached server → (100 ≤ status) × (status < 200) → CanSayIf a → OneIf (IsSaid (SeesTo a status None)) (says_provisional server a status).sends
provisional_said server None status reached is can = tt
provisional_said server (Some a) status reached is can = (
  Kinds.Response (provisional server a status),
  refl,
  plain_written a status (contact server ∷ []) can (record { low = is.0; high = omega (arith, is.1) }) (contact_follows server status a.parts.now.cseq.method reached),
  response_sees _ a.parts.now a.source status a.tag.now (contact server ∷ []),
)

answer_said : BodiesDescribe → (server : Addr) (a : Option Asker) (description : Option Description) → IsReached server → CanSayIf a → ReadsBackIf description → IsShortIf description
    → OneIf (IsSaid (SeesTo a 200 description)) (says_answer server a description).sends
answer_said describes server None description reached can reads short = tt
answer_said describes server (Some a) None reached can reads short = tt
answer_said describes server (Some a) (Some description) reached can reads short = (
  Kinds.Response (answer server a description),
  refl,
  responds_written a.parts.now a.source 200 a.tag.now (description_headers server) (description_text description) can.from can.repeats can.token (record { low = omega arith; high = omega arith })
      (description_follows server 200 a.parts.now.cseq.method reached) short,
  answer_sees describes (message_text (Kinds.Response (answer server a description))) server a description reads,
)

refusal_said : (a : Option Asker) (status : ℕ) → (300 ≤ status) × (status ≤ 699) → CanSayIf a → OneIf (IsSaid (SeesTo a status None)) (says_refusal a status).sends
refusal_said None status is can = tt
refusal_said (Some a) status is can = (
  Kinds.Response (refusal a status),
  refl,
  plain_written a status [] can (record { low = omega (arith, is.0); high = is.1 }) (none_follows status a.parts.now.cseq.method (refusal_needs_none status a.parts.now.cseq.method is.0)),
  response_sees _ a.parts.now a.source status a.tag.now [],
)

okay_follows_by : (server : Addr) (method : List ℕ) (b : Bool) → IsReached server → pointwise nat_eq method (codes "INVITE") ≡ false → pointwise nat_eq method (codes "UPDATE") ≡ b
    → FollowsIn 200 method (cond b (contact server ∷ []) [])
okay_follows_by server method true reached invite update = contact_follows server 200 method reached
okay_follows_by server method false reached invite update = none_follows 200 method (other_needs_none 200 method invite update)

okay_said : (server : Addr) (a : Option Asker) → IsReached server → CanOkay a → OneIf (IsSaid (SeesTo a 200 None)) (says_okay server a).sends
okay_said server None reached can = tt
okay_said server (Some a) reached can =
    let method = a.parts.now.cseq.method in (
      Kinds.Response (okay server a),
      refl,
      plain_written a 200 (okay_headers server a) can.0 (record { low = omega arith; high = omega arith }) (okay_follows_by server method (pointwise nat_eq method (codes "UPDATE")) reached can.1 refl),
      response_sees _ a.parts.now a.source 200 a.tag.now (okay_headers server a),
    )

again_said : (sent : Option Sent) → OneIf (SeesAgain sent) (says_again sent).sends
again_said None = tt
again_said (Some sent) = refl

-- ---- actions

can_ask : (s : Scene) (end : End) → CanAskFrom s → CanAskInIf (dialog_with end s)
can_ask s Caller h = h.caller
can_ask s Callee h = h.callee

pub action_said : BodiesDescribe → (s : Scene) (tokens : ℕ) (action : Action) → IsSoundScene s (answers_offer action) → HasFitStatus action → OneIf (SaysAction s tokens action) (dress_one s tokens action).sends
unfolding dress_one
action_said describes s tokens (Trying end) h f = trying_said s.offer (h.offer refl)
action_said describes s tokens (Offer end method) h f =
    offer_said describes s tokens (dialog_with end s) method (option_copied s.description) h.asks.server h.hops (can_ask s end h.asks) h.reads h.short
action_said describes s tokens (Provisional end status) h f = provisional_said s.server s.offer status h.asks.server f (h.offer refl)
action_said describes s tokens (Ack end) h f = ack_said s tokens (dialog_with end s) h.asks.server (can_ask s end h.asks)
action_said describes s tokens (Answer end) h f = answer_said describes s.server s.offer (option_copied s.description) h.asks.server (h.offer refl) h.reads h.short
action_said describes s tokens (AnswerAgain end) h f = again_said (option_copied s.again)
action_said describes s tokens (Refusal end status) h f = refusal_said s.offer status f (h.offer refl)
action_said describes s tokens (Okay end) h f = okay_said s.server s.request h.asks.server h.request
action_said describes s tokens (Cancel end) h f = cancel_said (option_copied s.passed) h.asks.passed
action_said describes s tokens (Bye end) h f = bye_said s tokens (dialog_with end s) h.asks.server (can_ask s end h.asks)
action_said describes s tokens PutRows h f = tt
action_said describes s tokens Release h f = tt
action_said describes s tokens RemoveRows h f = tt
action_said describes s tokens (Set timer after) h f = tt
action_said describes s tokens (Stop timer) h f = tt
action_said describes s tokens (Abandon end) h f = tt

-- a scene is sound for fewer answers too
less_answers : (s : Scene) (a b : Bool) → (b ≡ true → a ≡ true) → IsSoundScene s a → IsSoundScene s b
less_answers s a b more h = record { asks = h.asks; hops = h.hops; offer = λ e. h.offer (more e); request = h.request; reads = h.reads; short = h.short }

pub actions_said : BodiesDescribe → (s : Scene) (tokens : ℕ) (actions : List Action) → IsSoundScene s (answer_offer actions) → HaveFitStatuses actions → SaysActions s tokens actions (dressed s tokens actions).sends
actions_said describes s tokens [] h f = refl
actions_said describes s tokens (action ∷ later) h f =
    let made = (dress_one s tokens action).made in
    let one = less_answers s _ _ (or_left (answers_offer action) (answer_offer later)) h in
    let rest = less_answers s _ _ (or_right (answers_offer action) (answer_offer later)) h in
    ((dress_one s tokens action).sends, (dressed s (tokens + made) later).sends, refl, action_said describes s tokens action one f.0, actions_said describes s (tokens + made) later rest f.1)
