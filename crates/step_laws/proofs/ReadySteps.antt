-- The changes of each step of a call are ready.
use Rattle.std.proofs.Common.{◌+◌, ℕ, All, find, List, [], ◌∷◌, Option, Some, None, refl}
use Rattle.std.specs.Prelude.{slice_get}
use Rattle.std.specs.Option.{option_copied}
use Rattle.std.proofs.lemmas.List.Elements.{All-append, All-cons, All-nil}
use Rattle.sip_uri.specs.Address.{address_of}
use Rattle.sip_uri.specs.declared.uri.Addr.{Addr}
use Rattle.sip_uri.specs.declared.uri.Uri.{Uri}
use Rattle.sip_message.specs.Contact.{contacts_of}
use Rattle.sip_message.specs.declared.message.Parts.{Parts}
use Rattle.sip_message.specs.declared.message.Request.{Request}
use Rattle.sip_message.specs.declared.message.Response.{Response}
use Rattle.sdp.specs.declared.description.Description.{Description}
use Rattle.dialogs.specs.Making.{callers_dialog, reached_at}
use Rattle.dialogs.specs.declared.state.Dialog.{Dialog}
use Rattle.transaction_machines.specs.declared.input.Input.TheVariants as inputs
use Rattle.transactions.specs.Changes.{IsReady, answer_of, start_of}
use Rattle.transactions.specs.Contents as transactions
use Rattle.transactions.specs.SameBranch.{cancel_of}
use Rattle.transactions.specs.declared.change.Entry.{Entry}
use Rattle.transactions.specs.declared.change.Entry.TheVariants.{Tells}
use Rattle.transactions.specs.declared.transaction.Transaction.{Transaction}
use Rattle.call_core.specs.declared.action.Action.{Action}
use Rattle.call_core.specs.declared.action.Action.TheVariants.{Abandon, Ack, Answer, AnswerAgain, Bye, Cancel, Offer, Okay, Provisional, PutRows, Refusal, Release, RemoveRows, Set, Stop, Trying}
use Rattle.call_core.specs.declared.input.Input.{Input}
use Rattle.call_core.specs.declared.signal.OfferMethod.{OfferMethod}
use Rattle.call_core.specs.CallRows.{call_row, first_call_row}
use Rattle.call_core.specs.Plans.{Step}
use Rattle.call_media.specs.declared.end.End.{End}
use Rattle.call_media.specs.declared.end.End.TheVariants.{Callee}
use Rattle.calls.specs.State.{Standing}
use Rattle.calls.specs.declared.change.LegDialog.{LegDialog}
use Rattle.calls.specs.declared.standing_call.StandingCall.{StandingCall}
use Rattle.events.specs.declared.sent.Sent.{Sent}
use Rattle.call_messages.specs.Dressed.{asks, asks_at, responds_through}
use Rattle.call_messages.specs.Dressing.{asks_if, branch, dialog_with, dress_one, dressed, method_of, says_ack, says_again, says_answer, says_bye, says_cancel, says_offer, says_okay, says_provisional, says_refusal, says_trying}
use Rattle.call_messages.specs.Messages.{ack, answer, bye, offer, okay, provisional, refusal, trying}
use Rattle.call_messages.specs.declared.scene.Asker.{Asker}
use Rattle.call_messages.specs.declared.scene.Scene.{Scene}
use Rattle.call_steps.specs.Effects.{Effect}
use Rattle.call_steps.specs.Messages.{given_up, is_abandon, messages}
use Rattle.call_steps.specs.Rows.{begins_by, counts, first_asker, first_leg, first_row, first_standing, fork_by, fork_row, late_by, late_row, later_dialog, messages_of, offer_coming, offers_by, offers_row, takes_by, takes_row}
use Rattle.call_steps.specs.Scenes.{first_scene, fork_scene, passed_id, scene}
use Rattle.call_steps.specs.Values.{AskerValue, ComingValue, SceneValue, dressed_in, lent_scene, without_offer}
use Rattle.call_steps.specs.declared.occasion.Occasion.{Occasion}
use Rattle.step_laws.proofs.Ready.{start_ready}

abbrev pub AllReady : List Entry → Type 0
AllReady changes = All IsReady changes

pub none_ready : AllReady []
none_ready = All-nil IsReady

pub one_ready : (change : Entry) → IsReady change → AllReady (change ∷ [])
one_ready change ready = All-cons IsReady change [] ready none_ready

-- ---- messages

responds_ready : (a : Asker) (response : Response) → AllReady (responds_through a response).changes
responds_ready a response = one_ready (answer_of a.id response) tt

asks_at_ready : (to : Option Addr) (request : Request) (made : ℕ) → AllReady (asks_at to request made).changes
asks_at_ready None request made = none_ready
asks_at_ready (Some to) request made = one_ready (start_of request to) (start_ready request to)

asks_ready : (request : Request) (made : ℕ) → AllReady (asks request made).changes
asks_ready request made = asks_at_ready (address_of request.uri) request made

asks_if_ready : (request : Option Request) (made : ℕ) → AllReady (asks_if request made).changes
asks_if_ready None made = none_ready
asks_if_ready (Some request) made = asks_ready request made

trying_ready : (a : Option Asker) → AllReady (says_trying a).changes
trying_ready None = none_ready
trying_ready (Some a) = responds_ready a (trying a)

provisional_ready : (server : Addr) (a : Option Asker) (status : ℕ) → AllReady (says_provisional server a status).changes
provisional_ready server None status = none_ready
provisional_ready server (Some a) status = responds_ready a (provisional server a status)

answer_ready : (server : Addr) (a : Option Asker) (description : Option Description) → AllReady (says_answer server a description).changes
answer_ready server None description = none_ready
answer_ready server (Some a) None = none_ready
answer_ready server (Some a) (Some description) = responds_ready a (answer server a description)

refusal_ready : (a : Option Asker) (status : ℕ) → AllReady (says_refusal a status).changes
refusal_ready None status = none_ready
refusal_ready (Some a) status = responds_ready a (refusal a status)

okay_ready : (server : Addr) (a : Option Asker) → AllReady (says_okay server a).changes
okay_ready server None = none_ready
okay_ready server (Some a) = responds_ready a (okay server a)

again_ready : (sent : Option Sent) → AllReady (says_again sent).changes
again_ready None = none_ready
again_ready (Some sent) = none_ready

offer_ready : (s : Scene) (tokens : ℕ) (d : Option Dialog) (method : OfferMethod) (description : Option Description) → AllReady (says_offer s tokens d method description).changes
offer_ready s tokens None method description = none_ready
offer_ready s tokens (Some d) method None = none_ready
offer_ready s tokens (Some d) method (Some description) = asks_if_ready (offer s.server d (method_of method) s.hops description (branch s tokens)) 1

ack_ready : (s : Scene) (tokens : ℕ) (d : Option Dialog) → AllReady (says_ack s tokens d).changes
ack_ready s tokens None = none_ready
ack_ready s tokens (Some d) = asks_ready (ack s.server d (branch s tokens)) 1

bye_ready : (s : Scene) (tokens : ℕ) (d : Option Dialog) → AllReady (says_bye s tokens d).changes
bye_ready s tokens None = none_ready
bye_ready s tokens (Some d) = asks_if_ready (bye s.server d (branch s tokens)) 1

cancel_ready : (invite : Option Transaction) → AllReady (says_cancel invite).changes
cancel_ready None = none_ready
cancel_ready (Some invite) = asks_if_ready (cancel_of invite) 0

action_ready : (s : Scene) (tokens : ℕ) (action : Action) → AllReady (dress_one s tokens action).changes
unfolding dress_one
action_ready s tokens (Trying end) = trying_ready s.offer
action_ready s tokens (Offer end method) = offer_ready s tokens (dialog_with end s) method (option_copied s.description)
action_ready s tokens (Provisional end status) = provisional_ready s.server s.offer status
action_ready s tokens (Ack end) = ack_ready s tokens (dialog_with end s)
action_ready s tokens (Answer end) = answer_ready s.server s.offer (option_copied s.description)
action_ready s tokens (AnswerAgain end) = again_ready (option_copied s.again)
action_ready s tokens (Refusal end status) = refusal_ready s.offer status
action_ready s tokens (Okay end) = okay_ready s.server s.request
action_ready s tokens (Cancel end) = cancel_ready (option_copied s.passed)
action_ready s tokens (Bye end) = bye_ready s tokens (dialog_with end s)
action_ready s tokens PutRows = none_ready
action_ready s tokens Release = none_ready
action_ready s tokens RemoveRows = none_ready
action_ready s tokens (Set timer after) = none_ready
action_ready s tokens (Stop timer) = none_ready
action_ready s tokens (Abandon end) = none_ready

actions_ready : (s : Scene) (actions : List Action) (tokens : ℕ) → AllReady (dressed s tokens actions).changes
actions_ready s [] tokens = none_ready
actions_ready s (action ∷ later) tokens =
    let next = tokens + (dress_one s tokens action).made in
    All-append IsReady (dress_one s tokens action).changes (dressed s next later).changes (action_ready s tokens action) (actions_ready s later next)

given_up_ready : (passed : Option ℕ) (action : Option Action) → AllReady (given_up passed action)
given_up_ready None action = none_ready
given_up_ready (Some id) None = none_ready
given_up_ready (Some id) (Some abandon) = one_ready (Tells id inputs.Abandon None) refl

said_ready : (s : SceneValue) (passed : Option ℕ) (actions : List Action) → AllReady (messages s passed actions).dressed.changes
unfolding messages
said_ready s passed actions =
    All-append IsReady (dressed_in s actions).changes (given_up passed (find is_abandon actions)) (actions_ready (lent_scene s) actions s.tokens) (given_up_ready passed (find is_abandon actions))

-- ---- steps

abbrev pub IsReadyStep : Effect → Type 0
IsReadyStep step = AllReady step.dressed.changes

does_ready : (table : transactions.Contents) (o : Occasion) (w : ComingValue) (c : StandingCall) (step : Step) → AllReady (messages_of table o w c step).dressed.changes
does_ready table o w c step = said_ready (scene table o w c step.description) (passed_id table c) step.actions

takes_by_ready : (calls : Standing) (table : transactions.Contents) (o : Occasion) (place : ℕ) (input : Input) (leg : Option LegDialog) (request : Option AskerValue) (c : Option StandingCall)
    → IsReadyStep (takes_by calls table o place input leg request c)
takes_by_ready calls table o place input leg request None = none_ready
takes_by_ready calls table o place input leg request (Some c) = does_ready table o (without_offer leg request) c (call_row c.call input calls.pool o.now)

pub takes_ready : (calls : Standing) (table : transactions.Contents) (o : Occasion) (place : ℕ) (input : Input) (leg : Option LegDialog) (request : Option AskerValue)
    → IsReadyStep (takes_row calls table o place input leg request)
unfolding takes_row
takes_ready calls table o place input leg request = takes_by_ready calls table o place input leg request (slice_get calls.calls place)

offers_by_ready : (calls : Standing) (table : transactions.Contents) (o : Occasion) (place : ℕ) (input : Input) (end : End) (r : Request) (id : ℕ) (source : Addr) (leg : Option LegDialog) (c : Option StandingCall)
    → IsReadyStep (offers_by calls table o place input end r id source leg c)
offers_by_ready calls table o place input end r id source leg None = none_ready
offers_by_ready calls table o place input end r id source leg (Some c) = does_ready table o (offer_coming leg end r id source c) c (call_row c.call input calls.pool o.now)

pub offers_ready : (calls : Standing) (table : transactions.Contents) (o : Occasion) (place : ℕ) (input : Input) (end : End) (r : Request) (id : ℕ) (source : Addr)
    → IsReadyStep (offers_row calls table o place input end r id source)
unfolding offers_row
offers_ready calls table o place input end r id source =
    offers_by_ready calls table o place input end r id source (counts calls.calls place end r.parts.cseq.number) (slice_get calls.calls place)

begins_by_ready : (calls : Standing) (o : Occasion) (r : Request) (id : ℕ) (source : Addr) (to : Uri) (description : Description) (contact : Option Uri) → IsReadyStep (begins_by calls o r id source to description contact)
begins_by_ready calls o r id source to description None = none_ready
begins_by_ready calls o r id source to description (Some contact) =
    let c = first_standing (calls.begun + 1) o r id source contact in
    let step = first_call_row c.call description calls.pool o.now in
    said_ready (first_scene o (first_asker o r id source) r.max_forwards (first_leg o r to) step.description) None step.actions

pub first_ready : (calls : Standing) (o : Occasion) (r : Request) (id : ℕ) (source : Addr) (to : Uri) (description : Description) → IsReadyStep (first_row calls o r id source to description)
unfolding first_row
first_ready calls o r id source to description = begins_by_ready calls o r id source to description (reached_at (contacts_of r.headers))

fork_by_ready : (calls : Standing) (o : Occasion) (parts : Parts) (r : Response) (to : Option Uri) → IsReadyStep (fork_by calls o parts r to)
fork_by_ready calls o parts r None = none_ready
fork_by_ready calls o parts r (Some to) = said_ready (fork_scene o (callers_dialog parts r to)) None (Ack Callee ∷ Bye Callee ∷ [])

pub fork_ready : (calls : Standing) (o : Occasion) (parts : Parts) (r : Response) → IsReadyStep (fork_row calls o parts r)
unfolding fork_row
fork_ready calls o parts r = fork_by_ready calls o parts r (reached_at (contacts_of r.headers))

late_by_ready : (calls : Standing) (o : Occasion) (parts : Parts) (r : Response) (to : Option Uri) → IsReadyStep (late_by calls o parts r to)
late_by_ready calls o parts r None = none_ready
late_by_ready calls o parts r (Some to) = said_ready (fork_scene o (later_dialog parts r to)) None (Ack Callee ∷ [])

pub late_ready : (calls : Standing) (o : Occasion) (parts : Parts) (r : Response) → IsReadyStep (late_row calls o parts r)
unfolding late_row
late_ready calls o parts r = late_by_ready calls o parts r (reached_at (contacts_of r.headers))
