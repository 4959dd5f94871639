-- Actions with one offer at most begin one request at most that may carry one.
use Rattle.std.proofs.Common.{◌≡◌, ℕ, ◌+◌, Bool, true, false, cond, List, [], ◌∷◌, ◌++◌, codes, find, Option, Some, None}
use Rattle.std.specs.Option.{option_copied}
use Rattle.sip_uri.specs.declared.uri.Addr.{Addr}
use Rattle.sip_message.specs.declared.message.Message.TheVariants as Kinds
use Rattle.sip_message.specs.declared.message.Request.{Request}
use Rattle.sip_message.specs.Words.{is_method}
use Rattle.sip_uri.specs.Address.{address_of}
use Rattle.sip_writing.specs.Writing.{message_text}
use Rattle.sdp.specs.declared.description.Description.{Description}
use Rattle.dialogs.specs.declared.state.Dialog.{Dialog}
use Rattle.transactions.specs.declared.change.Entry.TheVariants.{Leaves, Opens}
use Rattle.transactions.specs.declared.transaction.Transaction.{Transaction}
use Rattle.transactions.specs.Transactions.{asking, asking_timers}
use Rattle.call_core.specs.declared.action.Action.{Action}
use Rattle.call_core.specs.declared.action.Action.TheVariants.{Trying, Offer, Provisional, Ack, Answer, AnswerAgain, Refusal, Okay, Cancel, Bye, PutRows, Release, RemoveRows, Set, Stop, Abandon}
use Rattle.call_messages.specs.declared.scene.Scene.{Scene}
use Rattle.call_messages.specs.Dressed.{asks_at}
use Rattle.call_messages.specs.Dressing.{asks_if, branch, dialog_with, dress_one, dressed, method_of, says_offer}
use Rattle.call_messages.specs.Messages.{offer}
use Rattle.call_steps.specs.Messages.{given_up, is_abandon, messages}
use Rattle.call_steps.specs.Values.{SceneValue, lent_scene}
use Rattle.message_laws.proofs.AwaitedOffers.Offering.{OneOffered, dressed_offered, given_up_none, none_offered, one_offered}
use Rattle.message_laws.proofs.AwaitedOffers.Once.{NoneOffers, OneOffers, none_before, one_then}
use Rattle.message_laws.proofs.AwaitedOffers.Tables.{has_offer}

abbrev pub HasOne : List Action → Type 0
HasOne [] = Unit {0}
HasOne (Offer end method ∷ later) = has_offer later ≡ false
HasOne (action ∷ later) = HasOne later

start_one : (r : Request) (to : Addr) (b : Bool) → OneOffers (cond b Leaves (Opens (asking r to (message_text (Kinds.Request r))) (asking_timers r.parts)) ∷ [])
start_one r to true = tt
start_one r to false = (λ offers t opens more. opens, tt)

asks_at_one : (to : Option Addr) (r : Request) (made : ℕ) → OneOffers (asks_at to r made).changes
asks_at_one None r made = tt
asks_at_one (Some to) r made = start_one r to (is_method (codes "ACK") r.parts)

asks_if_one : (r : Option Request) (made : ℕ) → OneOffers (asks_if r made).changes
asks_if_one None made = tt
asks_if_one (Some r) made = asks_at_one (address_of r.uri) r made

offer_one : (s : Scene) (n : ℕ) (d : Option Dialog) (method : _) (description : Option Description) → OneOffers (says_offer s n d method description).changes
offer_one s n None method description = tt
offer_one s n (Some d) method None = tt
offer_one s n (Some d) method (Some description) = asks_if_one (offer s.server d (method_of method) s.hops description (branch s n)) 1

none_of : (s : Scene) (n : ℕ) (actions : List Action) → has_offer actions ≡ false → NoneOffers (dressed s n actions).changes
none_of s n actions none t opens offers = none_offered s actions t none (dressed_offered s n actions t opens offers)

-- an action that is no offer, before others
plain_one : (s : Scene) (n : ℕ) (action : Action) (later : List Action) → ((t : Transaction) → OneOffered s action t → ⊥) → OneOffers (dressed s (n + (dress_one s n action).made) later).changes
    → OneOffers ((dress_one s n action).changes ++ (dressed s (n + (dress_one s n action).made) later).changes)
plain_one s n action later none one = none_before (dress_one s n action).changes (dressed s (n + (dress_one s n action).made) later).changes (λ t opens offers. none t (one_offered s n action t opens offers)) one

dressed_one : (s : Scene) (n : ℕ) (actions : List Action) → HasOne actions → OneOffers (dressed s n actions).changes
unfolding dress_one
dressed_one s n [] h = tt
dressed_one s n (Offer end method ∷ later) h =
    one_then (dress_one s n (Offer end method)).changes (dressed s (n + (dress_one s n (Offer end method)).made) later).changes (offer_one s n (dialog_with end s) method (option_copied s.description))
    (none_of s (n + (dress_one s n (Offer end method)).made) later h)
dressed_one s n (Trying end ∷ later) h = plain_one s n (Trying end) later (λ t k. k) (dressed_one s (n + (dress_one s n (Trying end)).made) later h)
dressed_one s n (Provisional end status ∷ later) h = plain_one s n (Provisional end status) later (λ t k. k) (dressed_one s (n + (dress_one s n (Provisional end status)).made) later h)
dressed_one s n (Ack end ∷ later) h = plain_one s n (Ack end) later (λ t k. k) (dressed_one s (n + (dress_one s n (Ack end)).made) later h)
dressed_one s n (Answer end ∷ later) h = plain_one s n (Answer end) later (λ t k. k) (dressed_one s (n + (dress_one s n (Answer end)).made) later h)
dressed_one s n (AnswerAgain end ∷ later) h = plain_one s n (AnswerAgain end) later (λ t k. k) (dressed_one s (n + (dress_one s n (AnswerAgain end)).made) later h)
dressed_one s n (Refusal end status ∷ later) h = plain_one s n (Refusal end status) later (λ t k. k) (dressed_one s (n + (dress_one s n (Refusal end status)).made) later h)
dressed_one s n (Okay end ∷ later) h = plain_one s n (Okay end) later (λ t k. k) (dressed_one s (n + (dress_one s n (Okay end)).made) later h)
dressed_one s n (Cancel end ∷ later) h = plain_one s n (Cancel end) later (λ t k. k) (dressed_one s (n + (dress_one s n (Cancel end)).made) later h)
dressed_one s n (Bye end ∷ later) h = plain_one s n (Bye end) later (λ t k. k) (dressed_one s (n + (dress_one s n (Bye end)).made) later h)
dressed_one s n (PutRows ∷ later) h = plain_one s n PutRows later (λ t k. k) (dressed_one s (n + (dress_one s n PutRows).made) later h)
dressed_one s n (Release ∷ later) h = plain_one s n Release later (λ t k. k) (dressed_one s (n + (dress_one s n Release).made) later h)
dressed_one s n (RemoveRows ∷ later) h = plain_one s n RemoveRows later (λ t k. k) (dressed_one s (n + (dress_one s n RemoveRows).made) later h)
dressed_one s n (Set timer after ∷ later) h = plain_one s n (Set timer after) later (λ t k. k) (dressed_one s (n + (dress_one s n (Set timer after)).made) later h)
dressed_one s n (Stop timer ∷ later) h = plain_one s n (Stop timer) later (λ t k. k) (dressed_one s (n + (dress_one s n (Stop timer)).made) later h)
dressed_one s n (Abandon end ∷ later) h = plain_one s n (Abandon end) later (λ t k. k) (dressed_one s (n + (dress_one s n (Abandon end)).made) later h)

pub said_one : (s : SceneValue) (passed : Option ℕ) (actions : List Action) → HasOne actions → OneOffers (messages s passed actions).dressed.changes
unfolding messages
said_one s passed actions h =
    one_then (dressed (lent_scene s) s.tokens actions).changes (given_up passed (find is_abandon actions)) (dressed_one (lent_scene s) s.tokens actions h)
    (λ t opens offers. given_up_none passed (find is_abandon actions) t opens)
