-- What a trace sees of what the actions of a call say.
use Rattle.std.proofs.Common.{◌≡◌, ℕ, ◌+◌, List, [], ◌∷◌, Option, Some, None, option_map, refl}
use Rattle.std.specs.Option.{option_copied}
use Rattle.events.specs.declared.sent.Sent.{Sent}
use Rattle.sip_uri.specs.declared.uri.Addr.{Addr}
use Rattle.sip_uri.specs.declared.uri.Uri.{Uri}
use Rattle.sip_uri.specs.Address.{address_of}
use Rattle.sip_message.specs.declared.message.Message.TheVariants as Kinds
use Rattle.sip_message.specs.declared.message.Request.{Request}
use Rattle.sip_writing.specs.Writing.{message_text}
use Rattle.sdp.specs.declared.description.Description.{Description}
use Rattle.dialogs.specs.declared.method.Method.TheVariants as methods
use Rattle.dialogs.specs.declared.state.Dialog.{Dialog}
use Rattle.dialogs.specs.Counting.{following, last_number, method_text}
use Rattle.dialogs.specs.Requests.{ack_text}
use Rattle.transactions.specs.declared.transaction.Transaction.{Transaction}
use Rattle.transactions.specs.Contents as transactions
use Rattle.transactions.specs.SameBranch.{cancel_of}
use Rattle.call_core.specs.declared.action.Action.{Action}
use Rattle.call_core.specs.declared.action.Action.TheVariants.{Trying, Offer, Provisional, Ack, Answer, AnswerAgain, Refusal, Okay, Cancel, Bye, PutRows, Release, RemoveRows, Set, Stop, Abandon}
use Rattle.call_core.specs.declared.signal.OfferMethod.{OfferMethod}
use Rattle.call_core.specs.Plans.{Step}
use Rattle.calls.specs.declared.standing_call.StandingCall.{StandingCall}
use Rattle.call_steps.specs.declared.occasion.Occasion.{Occasion}
use Rattle.call_steps.specs.Messages.{messages}
use Rattle.call_steps.specs.Rows.{first_asker, first_leg, first_messages, messages_of}
use Rattle.call_steps.specs.Scenes.{first_scene, fork_scene, passed_id, scene}
use Rattle.call_steps.specs.Values.{ComingValue, SceneValue, lent, lent_scene}
use Rattle.call_messages.specs.declared.scene.Asker.{Asker}
use Rattle.call_messages.specs.declared.scene.Scene.{Scene}
use Rattle.call_messages.specs.Dressed.{asks_at}
use Rattle.call_messages.specs.Dressing.{asks_if, branch, dialog_with, dress_one, dressed, method_of, says_ack, says_again, says_answer, says_bye, says_cancel, says_offer, says_okay, says_provisional, says_refusal, says_trying}
use Rattle.call_messages.specs.Messages.{ack, answer, bye, offer}
use Rattle.call_trace.specs.declared.datagram.Message.{Message}
use Rattle.trace_reading.specs.Message.{trace_message}
use Rattle.message_laws.specs.Addresses.{IsServerAddress}
use Rattle.message_laws.specs.Bodies.{IsOfReadIf, KnowsStep}
use Rattle.message_laws.specs.Saying.{IsSeen, OneIf, ReadsBackIf, SeesAction, SeesActions, SeesAgain, SeesCancel, SeesIn, SeesTo}
use Rattle.message_laws.proofs.QuietEvents.Describing.{BodiesDescribe}
use Rattle.message_laws.proofs.Messages.ReadBack.{SentIsRead, reads_back}
use Rattle.message_laws.proofs.QuietEvents.SeenMessages.{ack_sees, answer_sees, bye_sees, cancel_sees, offer_sees, response_sees}

-- ---- requests, where there is an address to send them to

asked_at : (sees : Message → Type 0) (to : Option Addr) (r : Request) (made : ℕ) → sees (trace_message (message_text (Kinds.Request r)) (Kinds.Request r)) → OneIf (IsSeen sees) (asks_at to r made).sends
asked_at sees None r made h = tt
asked_at sees (Some to) r made h = (Kinds.Request r, refl, h)

asked_if : (sees : Message → Type 0) (o : Option Request) (made : ℕ) → ((r : Request) → o ≡ Some r → sees (trace_message (message_text (Kinds.Request r)) (Kinds.Request r)))
    → OneIf (IsSeen sees) (asks_if o made).sends
asked_if sees None made h = tt
asked_if sees (Some r) made h = asked_at sees (address_of r.uri) r made (h r refl)

offer_said : BodiesDescribe → (s : Scene) (tokens : ℕ) (d : Option Dialog) (method : OfferMethod) (description : Option Description) → ReadsBackIf description
    → OneIf (IsSeen (SeesIn d (branch s tokens) following (method_text (method_of method)) description)) (says_offer s tokens d method description).sends
offer_said describes s tokens None method description reads = tt
offer_said describes s tokens (Some d) method None reads = tt
offer_said describes s tokens (Some d) method (Some description) reads =
    asked_if (SeesIn (Some d) (branch s tokens) following (method_text (method_of method)) (Some description)) (offer s.server d (method_of method) s.hops description (branch s tokens)) 1
    (λ r is. offer_sees describes (message_text (Kinds.Request r)) s.server d (method_of method) s.hops description (branch s tokens) r reads is)

ack_said : (s : Scene) (tokens : ℕ) (d : Option Dialog) → OneIf (IsSeen (SeesIn d (branch s tokens) last_number ack_text None)) (says_ack s tokens d).sends
ack_said s tokens None = tt
ack_said s tokens (Some d) =
    let r = ack s.server d (branch s tokens) in
    asked_at (SeesIn (Some d) (branch s tokens) last_number ack_text None) (address_of r.uri) r 1 (ack_sees (message_text (Kinds.Request r)) s.server d (branch s tokens))

bye_said : (s : Scene) (tokens : ℕ) (d : Option Dialog) → OneIf (IsSeen (SeesIn d (branch s tokens) following (method_text methods.Bye) None)) (says_bye s tokens d).sends
bye_said s tokens None = tt
bye_said s tokens (Some d) =
    asked_if (SeesIn (Some d) (branch s tokens) following (method_text methods.Bye) None) (bye s.server d (branch s tokens)) 1
    (λ r is. bye_sees (message_text (Kinds.Request r)) s.server d (branch s tokens) r is)

cancel_said : (t : Option Transaction) → OneIf (IsSeen (SeesCancel t)) (says_cancel t).sends
cancel_said None = tt
cancel_said (Some t) = asked_if (SeesCancel (Some t)) (cancel_of t) 0 (λ r is. cancel_sees (message_text (Kinds.Request r)) t r is)

-- ---- responses

trying_said : (a : Option Asker) → OneIf (IsSeen (SeesTo a 100 None)) (says_trying a).sends
trying_said None = tt
trying_said (Some a) = (_, refl, response_sees _ a.parts.now a.source 100 a.tag.now _)

provisional_said : (server : Addr) (a : Option Asker) (status : ℕ) → OneIf (IsSeen (SeesTo a status None)) (says_provisional server a status).sends
provisional_said server None status = tt
provisional_said server (Some a) status = (_, refl, response_sees _ a.parts.now a.source status a.tag.now _)

answer_said : BodiesDescribe → (server : Addr) (a : Option Asker) (description : Option Description) → ReadsBackIf description → OneIf (IsSeen (SeesTo a 200 description)) (says_answer server a description).sends
answer_said describes server None description reads = tt
answer_said describes server (Some a) None reads = tt
answer_said describes server (Some a) (Some description) reads = (Kinds.Response (answer server a description), refl, answer_sees describes (message_text (Kinds.Response (answer server a description))) server a description reads)

refusal_said : (a : Option Asker) (status : ℕ) → OneIf (IsSeen (SeesTo a status None)) (says_refusal a status).sends
refusal_said None status = tt
refusal_said (Some a) status = (_, refl, response_sees _ a.parts.now a.source status a.tag.now _)

okay_said : (server : Addr) (a : Option Asker) → OneIf (IsSeen (SeesTo a 200 None)) (says_okay server a).sends
okay_said server None = tt
okay_said server (Some a) = (_, refl, response_sees _ a.parts.now a.source 200 a.tag.now _)

again_said : (sent : Option Sent) → OneIf (SeesAgain sent) (says_again sent).sends
again_said None = tt
again_said (Some sent) = refl

-- ---- actions

pub action_said : BodiesDescribe → (s : Scene) (tokens : ℕ) (action : Action) → ReadsBackIf (option_copied s.description) → OneIf (SeesAction s tokens action) (dress_one s tokens action).sends
unfolding dress_one
action_said describes s tokens (Trying end) reads = trying_said s.offer
action_said describes s tokens (Offer end method) reads = offer_said describes s tokens (dialog_with end s) method (option_copied s.description) reads
action_said describes s tokens (Provisional end status) reads = provisional_said s.server s.offer status
action_said describes s tokens (Ack end) reads = ack_said s tokens (dialog_with end s)
action_said describes s tokens (Answer end) reads = answer_said describes s.server s.offer (option_copied s.description) reads
action_said describes s tokens (AnswerAgain end) reads = again_said (option_copied s.again)
action_said describes s tokens (Refusal end status) reads = refusal_said s.offer status
action_said describes s tokens (Okay end) reads = okay_said s.server s.request
action_said describes s tokens (Cancel end) reads = cancel_said (option_copied s.passed)
action_said describes s tokens (Bye end) reads = bye_said s tokens (dialog_with end s)
action_said describes s tokens PutRows reads = tt
action_said describes s tokens Release reads = tt
action_said describes s tokens RemoveRows reads = tt
action_said describes s tokens (Set timer after) reads = tt
action_said describes s tokens (Stop timer) reads = tt
action_said describes s tokens (Abandon end) reads = tt

pub actions_said : BodiesDescribe → (s : Scene) (tokens : ℕ) (actions : List Action) → ReadsBackIf (option_copied s.description) → SeesActions s tokens actions (dressed s tokens actions).sends
actions_said describes s tokens [] reads = refl
actions_said describes s tokens (action ∷ later) reads =
    let made = (dress_one s tokens action).made in
    ((dress_one s tokens action).sends, (dressed s (tokens + made) later).sends, refl, action_said describes s tokens action reads, actions_said describes s (tokens + made) later reads)

-- ---- steps

lent_back : (d : Option Description) → ReadsBackIf d → ReadsBackIf (option_copied (option_map lent d))
lent_back None h = h
lent_back (Some d) h = h

scene_said : BodiesDescribe → (s : SceneValue) (passed : Option ℕ) (actions : List Action) → ReadsBackIf s.description → SeesActions (lent_scene s) s.tokens actions (messages s passed actions).dressed.sends
unfolding messages
scene_said describes s passed actions reads = actions_said describes (lent_scene s) s.tokens actions (lent_back s.description reads)

sent_back : SentIsRead → (ip : List ℕ) (d : Option Description) → IsServerAddress ip → IsOfReadIf ip d → ReadsBackIf d
sent_back law ip None server h = tt
sent_back law ip (Some d) server h = reads_back law ip d server h

pub step_said : BodiesDescribe → SentIsRead → (ip : List ℕ) (table : transactions.Contents) (o : Occasion) (w : ComingValue) (c : StandingCall) (step : Step) → IsServerAddress ip → KnowsStep ip step
    → SeesActions (lent_scene (scene table o w c step.description)) o.tokens step.actions (messages_of table o w c step).dressed.sends
step_said describes law ip table o w c step server k = scene_said describes (scene table o w c step.description) (passed_id table c) step.actions (sent_back law ip step.description server k.sent)

pub first_said : BodiesDescribe → SentIsRead → (ip : List ℕ) (o : Occasion) (request : Request) (id : ℕ) (source : Addr) (target : Uri) (step : Step) → IsServerAddress ip → KnowsStep ip step
    → SeesActions (lent_scene (first_scene o (first_asker o request id source) request.max_forwards (first_leg o request target) step.description)) (o.tokens + 3) step.actions
    (first_messages o request id source target step).dressed.sends
first_said describes law ip o request id source target step server k =
    scene_said describes (first_scene o (first_asker o request id source) request.max_forwards (first_leg o request target) step.description) None step.actions (sent_back law ip step.description server k.sent)

pub alone_said : BodiesDescribe → (o : Occasion) (leg : Dialog) (actions : List Action) → SeesActions (lent_scene (fork_scene o leg)) o.tokens actions (messages (fork_scene o leg) None actions).dressed.sends
alone_said describes o leg actions = scene_said describes (fork_scene o leg) None actions tt
