-- Whether the offer that was passed on is still open says nothing about actions that don't end it.
use Rattle.std.proofs.Common.{◌≡◌, ℕ, ◌+◌, Bool, true, false, cond, List, [], ◌∷◌, find, Option, Some, None, option_copied, refl, ap, sym, ◌∙◌}
use Rattle.std.specs.Prelude.{if◌then◌else◌}
use Rattle.std.specs.List.{list_any}
use Rattle.std.proofs.lemmas.Bool.{or_parts}
use Rattle.sdp.specs.declared.description.Description.{Description}
use Rattle.dialogs.specs.declared.state.Dialog.{Dialog}
use Rattle.events.specs.declared.sent.Sent.{Sent}
use Rattle.transactions.specs.declared.change.Entry.{Entry}
use Rattle.transactions.specs.declared.transaction.Transaction.{Transaction}
use Rattle.call_media.specs.declared.end.End.TheVariants.{Caller, Callee}
use Rattle.call_core.specs.declared.signal.OfferMethod.{OfferMethod}
use Rattle.call_core.specs.declared.action.Action.{Action}
use Rattle.call_core.specs.declared.action.Action.TheVariants.{Trying, Offer, Provisional, Ack, Answer, AnswerAgain, Refusal, Okay, Cancel, Bye, PutRows, Release, RemoveRows, Set, Stop, Abandon}
use Rattle.calls.specs.declared.standing_call.StandingCall.{StandingCall}
use Rattle.call_core.specs.Plans.{Step}
use Rattle.transactions.specs.Contents.{Contents}
use Rattle.call_messages.specs.Dressed.{Dressed, behind}
use Rattle.call_messages.specs.Dressing.{dialog_with, dress_one, dressed, says_ack, says_bye, says_offer}
use Rattle.call_steps.specs.Messages.{ack_kept, answer_kept, ends_offer, first_sent, given_up, is_abandon, is_answer, messages, sent_alone, with_changes}
use Rattle.call_steps.specs.declared.occasion.Occasion.{Occasion}
use Rattle.call_steps.specs.Rows.{messages_of}
use Rattle.call_steps.specs.Scenes.{at_id, passed_id, scene}
use Rattle.call_steps.specs.Values.{ComingValue, SceneValue, dressed_in, lent_scene}

abbrev passing : Option Transaction → SceneValue → SceneValue
passing p s = record s { passed = p }

offer_so : (s : SceneValue) (p : Option Transaction) (tokens : ℕ) (d : Option Dialog) (method : OfferMethod) (description : Option Description)
    → says_offer (lent_scene s) tokens d method description ≡ says_offer (lent_scene (passing p s)) tokens d method description
offer_so s p tokens None method description = refl
offer_so s p tokens (Some d) method None = refl
offer_so s p tokens (Some d) method (Some description) = refl

ack_so : (s : SceneValue) (p : Option Transaction) (tokens : ℕ) (d : Option Dialog) → says_ack (lent_scene s) tokens d ≡ says_ack (lent_scene (passing p s)) tokens d
ack_so s p tokens None = refl
ack_so s p tokens (Some d) = refl

bye_so : (s : SceneValue) (p : Option Transaction) (tokens : ℕ) (d : Option Dialog) → says_bye (lent_scene s) tokens d ≡ says_bye (lent_scene (passing p s)) tokens d
bye_so s p tokens None = refl
bye_so s p tokens (Some d) = refl

one_so : (s : SceneValue) (p : Option Transaction) (tokens : ℕ) (action : Action) → ends_offer action ≡ false
    → dress_one (lent_scene s) tokens action ≡ dress_one (lent_scene (passing p s)) tokens action
unfolding dress_one
one_so s p tokens (Trying end) is = refl
one_so s p tokens (Offer Caller method) is = offer_so s p tokens (dialog_with Caller (lent_scene s)) method (option_copied (lent_scene s).description)
one_so s p tokens (Offer Callee method) is = offer_so s p tokens (dialog_with Callee (lent_scene s)) method (option_copied (lent_scene s).description)
one_so s p tokens (Provisional end status) is = refl
one_so s p tokens (Ack Caller) is = ack_so s p tokens (dialog_with Caller (lent_scene s))
one_so s p tokens (Ack Callee) is = ack_so s p tokens (dialog_with Callee (lent_scene s))
one_so s p tokens (Answer end) is = refl
one_so s p tokens (AnswerAgain end) is = refl
one_so s p tokens (Refusal end status) is = refl
one_so s p tokens (Okay end) is = refl
one_so s p tokens (Cancel end) is = absurd cc
one_so s p tokens (Bye Caller) is = bye_so s p tokens (dialog_with Caller (lent_scene s))
one_so s p tokens (Bye Callee) is = bye_so s p tokens (dialog_with Callee (lent_scene s))
one_so s p tokens PutRows is = refl
one_so s p tokens Release is = refl
one_so s p tokens RemoveRows is = refl
one_so s p tokens (Set timer after) is = refl
one_so s p tokens (Stop timer) is = refl
one_so s p tokens (Abandon end) is = absurd cc

all_so : (s : SceneValue) (p : Option Transaction) (tokens : ℕ) (actions : List Action) → list_any ends_offer actions ≡ false
    → dressed (lent_scene s) tokens actions ≡ dressed (lent_scene (passing p s)) tokens actions
all_so s p tokens [] none = refl
all_so s p tokens (action ∷ later) none =
    let parts = or_parts (ends_offer action) (list_any ends_offer later) none in
    ap (λ (d : Dressed). behind d (dressed (lent_scene s) (tokens + d.made) later)) (one_so s p tokens action parts.0)
    ∙ ap (λ (d : Dressed). behind (dress_one (lent_scene (passing p s)) tokens action) d) (all_so s p (tokens + (dress_one (lent_scene (passing p s)) tokens action).made) later parts.1)

alone_so : (s : SceneValue) (p : Option Transaction) (action : Action) → ends_offer action ≡ false → sent_alone s action ≡ sent_alone (passing p s) action
alone_so s p action is = ap (λ (d : Dressed). first_sent (behind d (dressed (lent_scene s) 0 [])).sends) (one_so s p s.tokens action is)

answer_so : (s : SceneValue) (p : Option Transaction) (actions : List Action) → list_any ends_offer actions ≡ false
    → answer_kept s (find is_answer actions) ≡ answer_kept (passing p s) (find is_answer actions)
answer_so s p [] none = refl
answer_so s p (action ∷ later) none =
    let parts = or_parts (ends_offer action) (list_any ends_offer later) none in
    elim (is_answer action) as (λ b. answer_kept s (cond b (Some action) (find is_answer later)) ≡ answer_kept (passing p s) (cond b (Some action) (find is_answer later))) [
      | true ↦ alone_so s p action parts.0
      | false ↦ answer_so s p later parts.1
    ]

first_so : (s : SceneValue) (p : Option Transaction) (actions : List Action) → list_any ends_offer actions ≡ false → ack_kept s actions ≡ ack_kept (passing p s) actions
first_so s p [] none = refl
first_so s p (Trying end ∷ later) none = refl
first_so s p (Offer end method ∷ later) none = refl
first_so s p (Provisional end status ∷ later) none = refl
first_so s p (Ack end ∷ later) none = alone_so s p (Ack end) refl
first_so s p (Answer end ∷ later) none = refl
first_so s p (AnswerAgain end ∷ later) none = refl
first_so s p (Refusal end status ∷ later) none = refl
first_so s p (Okay end ∷ later) none = refl
first_so s p (Cancel end ∷ later) none = refl
first_so s p (Bye end ∷ later) none = refl
first_so s p (PutRows ∷ later) none = refl
first_so s p (Release ∷ later) none = refl
first_so s p (RemoveRows ∷ later) none = refl
first_so s p (Set timer after ∷ later) none = refl
first_so s p (Stop timer ∷ later) none = refl
first_so s p (Abandon end ∷ later) none = refl

abandons : (action : Action) → ends_offer action ≡ false → is_abandon action ≡ false
abandons (Trying end) is = refl
abandons (Offer end method) is = refl
abandons (Provisional end status) is = refl
abandons (Ack end) is = refl
abandons (Answer end) is = refl
abandons (AnswerAgain end) is = refl
abandons (Refusal end status) is = refl
abandons (Okay end) is = refl
abandons (Cancel end) is = refl
abandons (Bye end) is = refl
abandons PutRows is = refl
abandons Release is = refl
abandons RemoveRows is = refl
abandons (Set timer after) is = refl
abandons (Stop timer) is = refl
abandons (Abandon end) is = absurd cc

no_abandon : (actions : List Action) → list_any ends_offer actions ≡ false → find is_abandon actions ≡ None
no_abandon [] none = refl
no_abandon (action ∷ later) none =
    let parts = or_parts (ends_offer action) (list_any ends_offer later) none in
    ap (λ (b : Bool). cond b (Some action) (find is_abandon later)) (abandons action parts.0) ∙ no_abandon later parts.1

none_given_up : (passed : Option ℕ) → given_up passed None ≡ []
none_given_up None = refl
none_given_up (Some id) = refl

pub messages_so : (s : SceneValue) (p : Option Transaction) (passed other : Option ℕ) (actions : List Action) → list_any ends_offer actions ≡ false
    → messages s passed actions ≡ messages (passing p s) other actions
unfolding messages
messages_so s p passed other actions none =
    let abandon = no_abandon actions none in
    let changes : given_up passed (find is_abandon actions) ≡ given_up other (find is_abandon actions) = rw abandon (none_given_up passed ∙ sym (none_given_up other)) in
    ap (λ (e : List Entry). record { dressed = with_changes e (dressed_in s actions); answer = answer_kept s (find is_answer actions); ack = ack_kept s actions }) changes
    ∙ ap (λ (d : Dressed). record { dressed = with_changes (given_up other (find is_abandon actions)) d; answer = answer_kept s (find is_answer actions); ack = ack_kept s actions }) (all_so s p s.tokens actions none)
    ∙ ap (λ (a : Option Sent). record { dressed = with_changes (given_up other (find is_abandon actions)) (dressed_in (passing p s) actions); answer = a; ack = ack_kept s actions }) (answer_so s p actions none)
    ∙ ap (λ (a : Option Sent). record { dressed = with_changes (given_up other (find is_abandon actions)) (dressed_in (passing p s) actions); answer = answer_kept (passing p s) (find is_answer actions); ack = a }) (first_so s p actions none)

-- the messages of a step, where the offer that was passed on is looked up only for an action that ends it
pub so_told : (table : Contents) (o : Occasion) (w : ComingValue) (c : StandingCall) (step : Step) (s : SceneValue) (passed : Option ℕ)
    → s ≡ record (scene table o w c step.description) { passed = at_id table.slots passed }
    → passed ≡ (if list_any ends_offer step.actions then passed_id table c else None)
    → messages s passed step.actions ≡ messages_of table o w c step
so_told table o w c step s passed is looked =
    rw is (rw looked (elim (list_any ends_offer step.actions) as (λ b. list_any ends_offer step.actions ≡ b
    → messages (record (scene table o w c step.description) { passed = at_id table.slots (cond b (passed_id table c) None) }) (cond b (passed_id table c) None) step.actions ≡ messages_of table o w c step) [
      | true ↦ λ some. refl
      | false ↦ λ none. messages_so (record (scene table o w c step.description) { passed = None }) (at_id table.slots (passed_id table c)) None (passed_id table c) step.actions none
    ] refl))
