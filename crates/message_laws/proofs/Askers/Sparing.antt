-- The responses that a step says are final for the transactions that it answers alone, and for the open offer where the
-- call no longer waits.
use Rattle.std.proofs.Common.{◌≡◌, ℕ, ◌+◌, Bool, true, false, cond, ◌||◌, List, [], ◌∷◌, codes, Option, Some, None, refl, sym}
use Rattle.std.specs.Option.{option_copied}
use Rattle.std.proofs.lemmas.Bool.{false≢true, lt-ltb}
use Rattle.sip_uri.specs.declared.uri.Addr.{Addr}
use Rattle.sip_uri.specs.Address.{address_of}
use Rattle.sip_message.specs.declared.message.Message.TheVariants as Kinds
use Rattle.sip_message.specs.declared.message.Request.{Request}
use Rattle.sip_message.specs.declared.words.Class.TheVariants as classes
use Rattle.sip_message.specs.Words.{class_of, is_method}
use Rattle.sip_writing.specs.Reply.{reply_of}
use Rattle.sip_writing.specs.Writing.{message_text}
use Rattle.sdp.specs.declared.description.Description.{Description}
use Rattle.dialogs.specs.declared.state.Dialog.{Dialog}
use Rattle.events.specs.declared.sent.Sent.{Sent}
use Rattle.responses.specs.Responding.{responds}
use Rattle.transactions.specs.declared.change.Entry.TheVariants.{Leaves, Opens}
use Rattle.transactions.specs.declared.transaction.Transaction.{Transaction}
use Rattle.transactions.specs.SameBranch.{cancel_of}
use Rattle.transactions.specs.Transactions.{asking, asking_timers}
use Rattle.call_core.specs.declared.action.Action.{Action}
use Rattle.call_core.specs.declared.action.Action.TheVariants.{Trying, Offer, Provisional, Ack, Answer, AnswerAgain, Refusal, Okay, Cancel, Bye, PutRows, Release, RemoveRows, Set, Stop, Abandon}
use Rattle.call_messages.specs.declared.scene.Asker.{Asker}
use Rattle.call_messages.specs.declared.scene.Scene.{Scene}
use Rattle.call_messages.specs.Dressed.{asks, asks_at}
use Rattle.call_messages.specs.Dressing.{asks_if, branch, dialog_with, dress_one, dressed, method_of, says_ack, says_again, says_answer, says_bye, says_cancel, says_offer, says_okay, says_provisional, says_refusal, says_trying}
use Rattle.call_messages.specs.Messages.{ack, bye, offer}
use Rattle.call_steps.specs.Messages.{given_up}
use Rattle.message_laws.proofs.Askers.ServedRequests.{SpareAll, spare_joined}
use Rattle.message_laws.proofs.Askers.Speaking.{FitActions, FitsAction, IsEarly}
use Rattle.message_laws.proofs.Askers.SpokenLines.{is_final, says_final}

-- where this is the request's transaction, no final response is sent to it
abbrev pub SparedBy : ℕ → Option Asker → Bool → Type 0
SparedBy id None final = Unit {0}
SparedBy id (Some a) final = id ≡ a.id → final ≡ false

starts_spares : (id : ℕ) (r : Request) (to : Addr) (b : Bool) → SpareAll id (cond b Leaves (Opens (asking r to (message_text (Kinds.Request r))) (asking_timers r.parts)) ∷ [])
starts_spares id r to true = (tt, tt)
starts_spares id r to false = (tt, tt)

asks_at_spares : (id : ℕ) (to : Option Addr) (r : Request) (made : ℕ) → SpareAll id (asks_at to r made).changes
asks_at_spares id None r made = tt
asks_at_spares id (Some to) r made = starts_spares id r to (is_method (codes "ACK") r.parts)

asks_spares : (id : ℕ) (r : Request) (made : ℕ) → SpareAll id (asks r made).changes
asks_spares id r made = asks_at_spares id (address_of r.uri) r made

asks_if_spares : (id : ℕ) (r : Option Request) (made : ℕ) → SpareAll id (asks_if r made).changes
asks_if_spares id None made = tt
asks_if_spares id (Some r) made = asks_spares id r made

offer_spares : (id : ℕ) (s : Scene) (n : ℕ) (d : Option Dialog) (method : _) (description : Option Description) → SpareAll id (says_offer s n d method description).changes
offer_spares id s n None method description = tt
offer_spares id s n (Some d) method None = tt
offer_spares id s n (Some d) method (Some description) = asks_if_spares id (offer s.server d (method_of method) s.hops description (branch s n)) 1

ack_spares : (id : ℕ) (s : Scene) (n : ℕ) (d : Option Dialog) → SpareAll id (says_ack s n d).changes
ack_spares id s n None = tt
ack_spares id s n (Some d) = asks_spares id (ack s.server d (branch s n)) 1

bye_spares : (id : ℕ) (s : Scene) (n : ℕ) (d : Option Dialog) → SpareAll id (says_bye s n d).changes
bye_spares id s n None = tt
bye_spares id s n (Some d) = asks_if_spares id (bye s.server d (branch s n)) 1

cancel_spares : (id : ℕ) (t : Option Transaction) → SpareAll id (says_cancel t).changes
cancel_spares id None = tt
cancel_spares id (Some t) = asks_if_spares id (cancel_of t) 0

-- ---- responses

early_class : (status : ℕ) → IsEarly status → class_of status ≡ classes.Provisional
early_class status is = rw (lt-ltb status 200 is.1) refl

trying_spares : (id : ℕ) (a : Option Asker) → SpareAll id (says_trying a).changes
unfolding responds reply_of
trying_spares id None = tt
trying_spares id (Some a) = (λ same. refl, tt)

provisional_spares : (id : ℕ) (server : Addr) (a : Option Asker) (status : ℕ) → IsEarly status → SpareAll id (says_provisional server a status).changes
unfolding responds reply_of
provisional_spares id server None status is = tt
provisional_spares id server (Some a) status is = (λ same. early_class status is, tt)

answer_spares : (id : ℕ) (server : Addr) (a : Option Asker) (description : Option Description) → SparedBy id a true → SpareAll id (says_answer server a description).changes
answer_spares id server None description h = tt
answer_spares id server (Some a) None h = tt
answer_spares id server (Some a) (Some description) h = (λ same. absurd (false≢true (sym (h same))), tt)

refusal_spares : (id : ℕ) (a : Option Asker) (status : ℕ) → SparedBy id a true → SpareAll id (says_refusal a status).changes
refusal_spares id None status h = tt
refusal_spares id (Some a) status h = (λ same. absurd (false≢true (sym (h same))), tt)

okay_spares : (id : ℕ) (server : Addr) (a : Option Asker) → SparedBy id a true → SpareAll id (says_okay server a).changes
okay_spares id server None h = tt
okay_spares id server (Some a) h = (λ same. absurd (false≢true (sym (h same))), tt)

again_spares : (id : ℕ) (sent : Option Sent) → SpareAll id (says_again sent).changes
again_spares id None = tt
again_spares id (Some sent) = tt

-- ---- actions

one_spares : (id : ℕ) (s : Scene) (n : ℕ) (action : Action) → SparedBy id s.offer (is_final action) → SparedBy id s.request true → FitsAction action → SpareAll id (dress_one s n action).changes
unfolding dress_one
one_spares id s n (Trying end) h k f = trying_spares id s.offer
one_spares id s n (Offer end method) h k f = offer_spares id s n (dialog_with end s) method (option_copied s.description)
one_spares id s n (Provisional end status) h k f = provisional_spares id s.server s.offer status f
one_spares id s n (Ack end) h k f = ack_spares id s n (dialog_with end s)
one_spares id s n (Answer end) h k f = answer_spares id s.server s.offer (option_copied s.description) h
one_spares id s n (AnswerAgain end) h k f = again_spares id (option_copied s.again)
one_spares id s n (Refusal end status) h k f = refusal_spares id s.offer status h
one_spares id s n (Okay end) h k f = okay_spares id s.server s.request k
one_spares id s n (Cancel end) h k f = cancel_spares id (option_copied s.passed)
one_spares id s n (Bye end) h k f = bye_spares id s n (dialog_with end s)
one_spares id s n PutRows h k f = tt
one_spares id s n Release h k f = tt
one_spares id s n RemoveRows h k f = tt
one_spares id s n (Set timer after) h k f = tt
one_spares id s n (Stop timer) h k f = tt
one_spares id s n (Abandon end) h k f = tt

or_first : (a b : Bool) → (a || b) ≡ false → a ≡ false
or_first true b e = absurd (false≢true (sym e))
or_first false b e = refl

or_later : (a b : Bool) → (a || b) ≡ false → b ≡ false
or_later true b e = absurd (false≢true (sym e))
or_later false b e = e

spared_less : (id : ℕ) (a : Option Asker) (one other : Bool) → (one ≡ false → other ≡ false) → SparedBy id a one → SparedBy id a other
spared_less id None one other less h = tt
spared_less id (Some a) one other less h = λ same. less (h same)

pub dressed_spares : (id : ℕ) (s : Scene) (n : ℕ) (actions : List Action) → SparedBy id s.offer (says_final actions) → SparedBy id s.request true → FitActions actions → SpareAll id (dressed s n actions).changes
dressed_spares id s n [] h k f = tt
dressed_spares id s n (action ∷ later) h k f =
    let one = dress_one s n action in
    spare_joined id one.changes (dressed s (n + one.made) later).changes
    (one_spares id s n action (spared_less id s.offer _ _ (or_first (is_final action) (says_final later)) h) k f.0)
    (dressed_spares id s (n + one.made) later (spared_less id s.offer _ _ (or_later (is_final action) (says_final later)) h) k f.1)

pub given_up_spares : (id : ℕ) (passed : Option ℕ) (action : Option Action) → SpareAll id (given_up passed action)
given_up_spares id None action = tt
given_up_spares id (Some other) None = tt
given_up_spares id (Some other) (Some action) = (tt, tt)
