-- Actions result in the same whatever references they are dressed with, where these show the same values.
use Rattle.std.proofs.Common.{◌≡◌, ℕ, ◌+◌, List, [], ◌∷◌, Option, Some, None, refl, ap, sym, ◌∙◌}
use Rattle.std.specs.Option.{option_copied}
use Rattle.std.specs.Prelude.{option_map}
use Rattle.sip_uri.specs.declared.uri.Addr.{Addr}
use Rattle.sdp.specs.declared.description.Description.{Description}
use Rattle.dialogs.specs.declared.state.Dialog.{Dialog}
use Rattle.call_messages.specs.declared.scene.Asker.{Asker}
use Rattle.call_messages.specs.declared.scene.Scene.{Scene}
use Rattle.call_media.specs.declared.end.End.{End}
use Rattle.call_media.specs.declared.end.End.TheVariants.{Caller, Callee}
use Rattle.call_core.specs.declared.signal.OfferMethod.{OfferMethod}
use Rattle.call_core.specs.declared.action.Action.{Action}
use Rattle.call_core.specs.declared.action.Action.TheVariants.{Trying, Offer, Provisional, Ack, Answer, AnswerAgain, Refusal, Okay, Cancel, Bye, PutRows, Release, RemoveRows, Set, Stop, Abandon}
use Rattle.call_messages.specs.Dressed.{Dressed, behind}
use Rattle.call_messages.specs.Dressing.{dialog_with, dress_one, dressed, says_ack, says_again, says_answer, says_bye, says_cancel, says_offer, says_okay, says_provisional, says_refusal, says_trying}
use Rattle.call_steps.specs.Values.{asker_value, dressed_in, lent, lent_asker, lent_scene, scene_value}

-- the scene of the same values
abbrev pub same : Scene → Scene
same s = lent_scene (scene_value s)

abbrev same_asker : Option Asker → Option Asker
same_asker a = option_map lent_asker (option_map asker_value a)

shown : {X : Type 0} (o : Option X) → option_copied (option_map lent o) ≡ o
shown None = refl
shown (Some x) = refl

trying : (a : Option Asker) → says_trying a ≡ says_trying (same_asker a)
trying None = refl
trying (Some a) = refl

provisional : (server : Addr) (a : Option Asker) (status : ℕ) → says_provisional server a status ≡ says_provisional server (same_asker a) status
provisional server None status = refl
provisional server (Some a) status = refl

answer : (server : Addr) (a : Option Asker) (d : Option Description) → says_answer server a d ≡ says_answer server (same_asker a) d
answer server None d = refl
answer server (Some a) None = refl
answer server (Some a) (Some d) = refl

refusal : (a : Option Asker) (status : ℕ) → says_refusal a status ≡ says_refusal (same_asker a) status
refusal None status = refl
refusal (Some a) status = refl

okay : (server : Addr) (a : Option Asker) → says_okay server a ≡ says_okay server (same_asker a)
okay server None = refl
okay server (Some a) = refl

dialog : (end : End) (s : Scene) → dialog_with end s ≡ dialog_with end (same s)
dialog Caller s = sym (shown (option_copied s.caller))
dialog Callee s = sym (shown (option_copied s.callee))

offer_in : (s : Scene) (tokens : ℕ) (d : Option Dialog) (method : OfferMethod) (description : Option Description) → says_offer s tokens d method description ≡ says_offer (same s) tokens d method description
offer_in s tokens None method description = refl
offer_in s tokens (Some d) method None = refl
offer_in s tokens (Some d) method (Some description) = refl

ack_in : (s : Scene) (tokens : ℕ) (d : Option Dialog) → says_ack s tokens d ≡ says_ack (same s) tokens d
ack_in s tokens None = refl
ack_in s tokens (Some d) = refl

bye_in : (s : Scene) (tokens : ℕ) (d : Option Dialog) → says_bye s tokens d ≡ says_bye (same s) tokens d
bye_in s tokens None = refl
bye_in s tokens (Some d) = refl

pub one_lent : (s : Scene) (tokens : ℕ) (action : Action) → dress_one s tokens action ≡ dress_one (same s) tokens action
unfolding dress_one
one_lent s tokens (Trying end) = trying s.offer
one_lent s tokens (Offer end method) =
    offer_in s tokens (dialog_with end s) method (option_copied s.description)
    ∙ ap (λ d. says_offer (same s) tokens d method (option_copied s.description)) (dialog end s)
    ∙ ap (λ d. says_offer (same s) tokens (dialog_with end (same s)) method d) (sym (shown (option_copied s.description)))
one_lent s tokens (Provisional end status) = provisional s.server s.offer status
one_lent s tokens (Ack end) = ack_in s tokens (dialog_with end s) ∙ ap (λ d. says_ack (same s) tokens d) (dialog end s)
one_lent s tokens (Answer end) =
    answer s.server s.offer (option_copied s.description)
    ∙ ap (λ d. says_answer s.server (same_asker s.offer) d) (sym (shown (option_copied s.description)))
one_lent s tokens (AnswerAgain end) = ap says_again (sym (shown (option_copied s.again)))
one_lent s tokens (Refusal end status) = refusal s.offer status
one_lent s tokens (Okay end) = okay s.server s.request
one_lent s tokens (Cancel end) = ap says_cancel (sym (shown (option_copied s.passed)))
one_lent s tokens (Bye end) = bye_in s tokens (dialog_with end s) ∙ ap (λ d. says_bye (same s) tokens d) (dialog end s)
one_lent s tokens PutRows = refl
one_lent s tokens Release = refl
one_lent s tokens RemoveRows = refl
one_lent s tokens (Set timer after) = refl
one_lent s tokens (Stop timer) = refl
one_lent s tokens (Abandon end) = refl

all_lent : (s : Scene) (tokens : ℕ) (actions : List Action) → dressed s tokens actions ≡ dressed (same s) tokens actions
all_lent s tokens [] = refl
all_lent s tokens (action ∷ later) =
    ap (λ (d : Dressed). behind d (dressed s (tokens + d.made) later)) (one_lent s tokens action)
    ∙ ap (λ (d : Dressed). behind (dress_one (same s) tokens action) d) (all_lent s (tokens + (dress_one (same s) tokens action).made) later)

pub dressed_lent : (s : Scene) (actions : List Action) → dressed s s.tokens actions ≡ dressed_in (scene_value s) actions
dressed_lent s actions = all_lent s s.tokens actions
