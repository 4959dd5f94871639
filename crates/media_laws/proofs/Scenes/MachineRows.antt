-- Each transaction that an event begins has the machine of its request.
use Rattle.std.proofs.Common.{◌≡◌, ℕ, ◌+◌, Bool, true, false, cond, codes, List, [], ◌∷◌, ◌++◌, Option, Some, None, find, refl, subst, inl, inr}
use Rattle.std.specs.Option.{option_copied}
use Rattle.std.specs.Prelude.{slice_get}
use Rattle.events.specs.declared.sent.Sent.{Sent}
use Rattle.sdp.specs.declared.description.Description.{Description}
use Rattle.sip_uri.specs.Address.{address_of}
use Rattle.sip_uri.specs.declared.uri.Addr.{Addr}
use Rattle.sip_uri.specs.declared.uri.Uri.{Uri}
use Rattle.sip_message.specs.Contact.{contacts_of}
use Rattle.sip_message.specs.Words.{is_method}
use Rattle.sip_message.specs.declared.message.Parts.{Parts}
use Rattle.sip_message.specs.declared.message.Request.{Request}
use Rattle.sip_message.specs.declared.message.Response.{Response}
use Rattle.dialogs.specs.Making.{reached_at}
use Rattle.dialogs.specs.declared.state.Dialog.{Dialog}
use Rattle.transaction_machines.specs.declared.invite_client.InviteClient.TheVariants as invites
use Rattle.transaction_machines.specs.declared.other_client.OtherClient.TheVariants as others
use Rattle.transaction_machines.specs.declared.state.State.TheVariants as machine
use Rattle.transaction_machines.specs.declared.step.Starts.{Starts}
use Rattle.transactions.specs.Contents as transactions
use Rattle.transactions.specs.SameBranch.{cancel_of}
use Rattle.transactions.specs.Transactions.{asking}
use Rattle.transactions.specs.declared.change.Entry.{Entry}
use Rattle.transactions.specs.declared.change.Entry.TheVariants.{Leaves, Opens}
use Rattle.transactions.specs.declared.transaction.Transaction.{Transaction}
use Rattle.call_core.specs.CallRows.{call_row}
use Rattle.call_core.specs.declared.action.Action.{Action}
use Rattle.call_core.specs.declared.action.Action.TheVariants as act
use Rattle.call_core.specs.declared.input.Input.{Input}
use Rattle.call_core.specs.declared.signal.OfferMethod.{OfferMethod}
use Rattle.call_media.specs.declared.end.End.{End}
use Rattle.call_rules.specs.Speaking.{is_invite}
use Rattle.call_steps.specs.Messages.{is_abandon, messages}
use Rattle.call_steps.specs.Rows.{begins_by, fork_by, fork_row, first_row, late_by, late_row, offers_by, offers_row, takes_by, takes_row}
use Rattle.call_steps.specs.Values.{AskerValue, SceneValue, lent_scene}
use Rattle.call_steps.specs.declared.occasion.Occasion.{Occasion}
use Rattle.calls.specs.State.{Standing}
use Rattle.calls.specs.declared.change.LegDialog.{LegDialog}
use Rattle.calls.specs.declared.standing_call.StandingCall.{StandingCall}
use Rattle.call_messages.specs.Dressed.{asks, asks_at}
use Rattle.call_messages.specs.Dressing.{asks_if, branch, dialog_with, dress_one, dressed, method_of, says_ack, says_again, says_answer, says_bye, says_cancel, says_offer, says_okay, says_provisional, says_refusal, says_trying}
use Rattle.call_messages.specs.Messages as leg_messages
use Rattle.call_messages.specs.declared.scene.Asker.{Asker}
use Rattle.call_messages.specs.declared.scene.Scene.{Scene}
use Rattle.event_rows.specs.Rows.{after}
use Rattle.message_laws.proofs.AwaitedOffers.Offering.{given_up_none, opens_split}
use Rattle.media_laws.specs.Machines.{FitsMachine}
use Rattle.media_laws.proofs.Scenes.MachineSlots.{OpensFit}

-- ---- a request of the server's own

asking_fits : (parts : Parts) (b : Bool) → is_invite parts ≡ b → FitsMachine (cond b (machine.InviteClient (invites.Calling 500 false)) (machine.OtherClient (others.Trying 500))) parts
asking_fits parts true is = is
asking_fits parts false is = tt

begins_fit : (r : Request) (to : Addr) (bytes : List ℕ) (starts : Starts) (b : Bool) → OpensFit (cond b Leaves (Opens (asking r to bytes) starts) ∷ [])
begins_fit r to bytes starts true = λ x opens. absurd opens
begins_fit r to bytes starts false = λ x opens. elim opens [ inl e ↦ subst (λ (y : Transaction). FitsMachine y.state y.parts) e (asking_fits r.parts (is_invite r.parts) refl) | inr h ↦ absurd h ]

pub none_fit : OpensFit []
none_fit = λ x opens. absurd opens

asks_fit_at : (o : Option Addr) (r : Request) (made : ℕ) → OpensFit (asks_at o r made).changes
asks_fit_at None r made = none_fit
asks_fit_at (Some to) r made = begins_fit r to _ _ (is_method (codes "ACK") r.parts)

asks_fit : (r : Request) (made : ℕ) → OpensFit (asks r made).changes
asks_fit r made = asks_fit_at (address_of r.uri) r made

asks_if_fit : (o : Option Request) (made : ℕ) → OpensFit (asks_if o made).changes
asks_if_fit None made = none_fit
asks_if_fit (Some r) made = asks_fit r made

-- ---- an action

offer_fit : (s : Scene) (tokens : ℕ) (o : Option Dialog) (method : OfferMethod) (d : Option Description) → OpensFit (says_offer s tokens o method d).changes
offer_fit s tokens None method d = none_fit
offer_fit s tokens (Some l) method None = none_fit
offer_fit s tokens (Some l) method (Some d) = asks_if_fit (leg_messages.offer s.server l (method_of method) s.hops d (branch s tokens)) 1

ack_fit : (s : Scene) (tokens : ℕ) (o : Option Dialog) → OpensFit (says_ack s tokens o).changes
ack_fit s tokens None = none_fit
ack_fit s tokens (Some l) = asks_fit (leg_messages.ack s.server l (branch s tokens)) 1

bye_fit : (s : Scene) (tokens : ℕ) (o : Option Dialog) → OpensFit (says_bye s tokens o).changes
bye_fit s tokens None = none_fit
bye_fit s tokens (Some l) = asks_if_fit (leg_messages.bye s.server l (branch s tokens)) 1

cancel_fit : (o : Option Transaction) → OpensFit (says_cancel o).changes
cancel_fit None = none_fit
cancel_fit (Some x) = asks_if_fit (cancel_of x) 0

trying_fit : (o : Option Asker) → OpensFit (says_trying o).changes
trying_fit None = none_fit
trying_fit (Some a) = λ x opens. absurd opens

provisional_fit : (server : Addr) (o : Option Asker) (status : ℕ) → OpensFit (says_provisional server o status).changes
provisional_fit server None status = none_fit
provisional_fit server (Some a) status = λ x opens. absurd opens

answer_fit : (server : Addr) (o : Option Asker) (d : Option Description) → OpensFit (says_answer server o d).changes
answer_fit server None d = none_fit
answer_fit server (Some a) None = none_fit
answer_fit server (Some a) (Some d) = λ x opens. absurd opens

refusal_fit : (o : Option Asker) (status : ℕ) → OpensFit (says_refusal o status).changes
refusal_fit None status = none_fit
refusal_fit (Some a) status = λ x opens. absurd opens

okay_fit : (server : Addr) (o : Option Asker) → OpensFit (says_okay server o).changes
okay_fit server None = none_fit
okay_fit server (Some a) = λ x opens. absurd opens

again_fit : (o : Option Sent) → OpensFit (says_again o).changes
again_fit None = none_fit
again_fit (Some d) = none_fit

one_fit : (s : Scene) (tokens : ℕ) (action : Action) → OpensFit (dress_one s tokens action).changes
unfolding dress_one
one_fit s tokens (act.Trying end) = trying_fit s.offer
one_fit s tokens (act.Offer end method) = offer_fit s tokens (dialog_with end s) method (option_copied s.description)
one_fit s tokens (act.Provisional end status) = provisional_fit s.server s.offer status
one_fit s tokens (act.Ack end) = ack_fit s tokens (dialog_with end s)
one_fit s tokens (act.Answer end) = answer_fit s.server s.offer (option_copied s.description)
one_fit s tokens (act.AnswerAgain end) = again_fit (option_copied s.again)
one_fit s tokens (act.Refusal end status) = refusal_fit s.offer status
one_fit s tokens (act.Okay end) = okay_fit s.server s.request
one_fit s tokens (act.Cancel end) = cancel_fit (option_copied s.passed)
one_fit s tokens (act.Bye end) = bye_fit s tokens (dialog_with end s)
one_fit s tokens act.PutRows = none_fit
one_fit s tokens act.Release = none_fit
one_fit s tokens act.RemoveRows = none_fit
one_fit s tokens (act.Set timer after) = none_fit
one_fit s tokens (act.Stop timer) = none_fit
one_fit s tokens (act.Abandon end) = none_fit

pub both_fit : (xs ys : List Entry) → OpensFit xs → OpensFit ys → OpensFit (xs ++ ys)
both_fit xs ys h k = λ x opens. elim (opens_split x xs ys opens) [ inl a ↦ h x a | inr b ↦ k x b ]

dressed_fit : (s : Scene) (tokens : ℕ) (actions : List Action) → OpensFit (dressed s tokens actions).changes
dressed_fit s tokens [] = none_fit
dressed_fit s tokens (action ∷ later) =
    both_fit (dress_one s tokens action).changes (dressed s (tokens + (dress_one s tokens action).made) later).changes (one_fit s tokens action) (dressed_fit s (tokens + (dress_one s tokens action).made) later)

messages_fit : (v : SceneValue) (passed : Option ℕ) (actions : List Action) → OpensFit (messages v passed actions).dressed.changes
unfolding messages
messages_fit v passed actions =
    both_fit (dressed (lent_scene v) v.tokens actions).changes _ (dressed_fit (lent_scene v) v.tokens actions) (λ x opens. absurd (given_up_none passed (find is_abandon actions) x opens))

-- ---- a step

takes_by_fit : (calls : Standing) (table : transactions.Contents) (o : Occasion) (place : ℕ) (input : Input) (leg : Option LegDialog) (request : Option AskerValue) (c : Option StandingCall)
    → OpensFit (takes_by calls table o place input leg request c).dressed.changes
takes_by_fit calls table o place input leg request None = none_fit
takes_by_fit calls table o place input leg request (Some c) = messages_fit _ _ (call_row c.call input calls.pool o.now).actions

pub takes_fit : (calls : Standing) (table : transactions.Contents) (o : Occasion) (place : ℕ) (input : Input) (leg : Option LegDialog) (request : Option AskerValue)
    → OpensFit (takes_row calls table o place input leg request).dressed.changes
unfolding takes_row
takes_fit calls table o place input leg request = takes_by_fit calls table o place input leg request (slice_get calls.calls place)

offers_by_fit : (calls : Standing) (table : transactions.Contents) (o : Occasion) (place : ℕ) (input : Input) (end : End) (r : Request) (id : ℕ) (source : Addr) (leg : Option LegDialog) (c : Option StandingCall)
    → OpensFit (offers_by calls table o place input end r id source leg c).dressed.changes
offers_by_fit calls table o place input end r id source leg None = none_fit
offers_by_fit calls table o place input end r id source leg (Some c) = messages_fit _ _ (call_row c.call input calls.pool o.now).actions

pub offers_fit : (calls : Standing) (table : transactions.Contents) (o : Occasion) (place : ℕ) (input : Input) (end : End) (r : Request) (id : ℕ) (source : Addr)
    → OpensFit (offers_row calls table o place input end r id source).dressed.changes
unfolding offers_row
offers_fit calls table o place input end r id source = offers_by_fit calls table o place input end r id source _ (slice_get calls.calls place)

begins_by_fit : (calls : Standing) (o : Occasion) (r : Request) (id : ℕ) (source : Addr) (to : Uri) (offer : Description) (contact : Option Uri) → OpensFit (begins_by calls o r id source to offer contact).dressed.changes
begins_by_fit calls o r id source to offer None = none_fit
begins_by_fit calls o r id source to offer (Some contact) = messages_fit _ _ _

pub first_fit : (calls : Standing) (o : Occasion) (r : Request) (id : ℕ) (source : Addr) (to : Uri) (offer : Description) → OpensFit (first_row calls o r id source to offer).dressed.changes
unfolding first_row
first_fit calls o r id source to offer = begins_by_fit calls o r id source to offer (reached_at (contacts_of r.headers))

fork_by_fit : (calls : Standing) (o : Occasion) (asked : Parts) (r : Response) (to : Option Uri) → OpensFit (fork_by calls o asked r to).dressed.changes
fork_by_fit calls o asked r None = none_fit
fork_by_fit calls o asked r (Some to) = messages_fit _ _ _

pub fork_fit : (calls : Standing) (o : Occasion) (asked : Parts) (r : Response) → OpensFit (fork_row calls o asked r).dressed.changes
unfolding fork_row
fork_fit calls o asked r = fork_by_fit calls o asked r (reached_at (contacts_of r.headers))

late_by_fit : (calls : Standing) (o : Occasion) (asked : Parts) (r : Response) (to : Option Uri) → OpensFit (late_by calls o asked r to).dressed.changes
late_by_fit calls o asked r None = none_fit
late_by_fit calls o asked r (Some to) = messages_fit _ _ _

pub late_fit : (calls : Standing) (o : Occasion) (asked : Parts) (r : Response) → OpensFit (late_row calls o asked r).dressed.changes
unfolding late_row
late_fit calls o asked r = late_by_fit calls o asked r (reached_at (contacts_of r.headers))
