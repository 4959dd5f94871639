-- What a call says in a step is not a 200 to a BYE but the one to the BYE that comes, whose tag was made.
use Rattle.std.proofs.Common.{◌≡◌, ◌≢◌, ◌∙◌, ℕ, ◌+◌, ◌||◌, Bool, true, false, List, [], ◌∷◌, codes, Option, Some, None, refl, ap, sym, subst, arith}
use Rattle.std.specs.Prelude.{nat_eq}
use Rattle.std.specs.Cmp.Lexicographic.{bytes_decides, pointwise}
use Rattle.std.specs.Option.{option_copied}
use Rattle.std.proofs.lemmas.Bool.{eqb-true, false≢true, or_left, or_right}
use Rattle.hex.specs.Hex.{encode_with}
use Rattle.events.specs.declared.sent.Sent.{Sent}
use Rattle.sip_message.specs.Words.{tag_text}
use Rattle.sip_message.specs.declared.message.Parts.{Parts}
use Rattle.sdp.specs.declared.description.Description.{Description}
use Rattle.dialogs.specs.Counting.{following, last_number, method_text}
use Rattle.dialogs.specs.Requests.{ack_text}
use Rattle.dialogs.specs.declared.method.Method.TheVariants as methods
use Rattle.dialogs.specs.declared.state.Dialog.{Dialog}
use Rattle.transactions.specs.declared.transaction.Transaction.{Transaction}
use Rattle.call_core.specs.declared.action.Action.{Action}
use Rattle.call_core.specs.declared.action.Action.TheVariants.{Trying, Offer, Provisional, Ack, Answer, AnswerAgain, Refusal, Okay, Cancel, Bye, PutRows, Release, RemoveRows, Set, Stop, Abandon}
use Rattle.call_rules.specs.Speaking.{is_bye, is_invite, is_update, may_offer}
use Rattle.call_messages.specs.Dressing.{branch, dialog_with, dress_one, method_of}
use Rattle.call_messages.specs.declared.scene.Asker.{Asker}
use Rattle.call_messages.specs.declared.scene.Scene.{Scene}
use Rattle.responses.specs.Tokens.{token}
use Rattle.call_trace.specs.declared.datagram.Datagram.{Datagram}
use Rattle.call_trace.specs.declared.datagram.Message.{Message}
use Rattle.call_trace.specs.Listed.{AllOf}
use Rattle.call_trace.specs.Messages.{bye, is_method, is_ok, is_request}
use Rattle.call_trace.proofs.Members.{all_append}
use Rattle.message_laws.specs.Saying.{OneIf, SeesAgain, SeesCancel, SeesIn, SeesTo}
use Rattle.message_laws.specs.Seeing.{response_tag}
use Rattle.message_laws.specs.Tokens.{IsMade}
use Rattle.message_laws.proofs.Askers.Speaking.{answer_offer, answers_offer}
use Rattle.message_laws.specs.Said.{IsSaid, SaysAction, SaysActions}
use Rattle.message_laws.specs.SoundScenes.{HasFitStatus, HaveFitStatuses}
use Rattle.message_laws.specs.Messages.{AreMessages, IsMessage}
use Rattle.media_laws.proofs.Scenes.HeardActions.{split}
use Rattle.media_laws.proofs.Scenes.Reading.{Reading, message_is}
use Rattle.media_laws.proofs.Scenes.Tags.{kept_tag}
use Rattle.media_laws.proofs.EndTags.ByeTags.{IsTagged, method_tagged, other_tagged, own, request_tagged}

-- ---- what the responses of a scene answer

-- an offer came in no BYE
abbrev pub IsOfNoBye : Option Asker → Type 0
IsOfNoBye None = Unit {0}
IsOfNoBye (Some a) = is_bye a.parts.now ≡ false

-- the tag of a 200 to a BYE was made
abbrev pub HasOwnTag : ℕ → Option Asker → Type 0
HasOwnTag made None = Unit {0}
HasOwnTag made (Some a) = is_bye a.parts.now ≡ true → IsMade made (response_tag 200 a.parts.now a.tag.now)

-- a method that may carry an offer is not BYE
either_method : (parts : Parts) (invite update : Bool) → is_invite parts ≡ invite → is_update parts ≡ update → (invite || update) ≡ true → is_bye parts ≡ false
either_method parts true update i u h = ap (λ name. pointwise nat_eq name (codes "BYE")) ((bytes_decides parts.cseq.method (codes "INVITE")).0 i)
either_method parts false true i u h = ap (λ name. pointwise nat_eq name (codes "BYE")) ((bytes_decides parts.cseq.method (codes "UPDATE")).0 u)
either_method parts false false i u h = absurd (false≢true h)

pub offers_no_bye : (parts : Parts) → may_offer parts ≡ true → is_bye parts ≡ false
offers_no_bye parts h = either_method parts (is_invite parts) (is_update parts) refl refl h

-- ---- tags that were made

token_some : (salt count : ℕ) → token salt count ≢ []
unfolding token encode_with
token_some salt count e = absurd cc

made_some : (made : ℕ) (tag : List ℕ) → IsMade made tag → tag ≢ []
made_some made tag h e = token_some h.salt h.count (sym h.said ∙ e)

-- the response repeats the tag of its request
pub repeats_made : (made : ℕ) (parts : Parts) (tag : List ℕ) → IsMade made (tag_text parts.to.params) → IsMade made (response_tag 200 parts tag)
repeats_made made parts tag h = subst (IsMade made) (sym (kept_tag parts tag (made_some made (tag_text parts.to.params) h))) h

-- ---- one message

heard : Reading → (sees : Message → Type 0) (d : Sent) (m : Message) → IsMessage d.bytes m → IsSaid sees d → sees m
heard r sees d m is said = subst sees (sym (message_is r d.bytes m said.0 is said.1 said.2)) said.3

module _ (reads : Reading) (s : Scene) (t : List Datagram) (made : ℕ) where
  seen_tagged : (d : Option Dialog) (name : List ℕ) (number : Dialog → ℕ) (method : List ℕ) (body : Option Description) (m : Message) → SeesIn d name number method body m → IsTagged t made m
  seen_tagged None name number method body m h = absurd h
  seen_tagged (Some d) name number method body m h = request_tagged t made m (ap is_request h.kind)

  in_tagged : (d : Option Dialog) (name : List ℕ) (number : Dialog → ℕ) (method : List ℕ) (body : Option Description) (x : Sent) (m : Message) → IsMessage x.bytes m → IsSaid (SeesIn d name number method body) x → IsTagged t made m
  in_tagged d name number method body x m is h = seen_tagged d name number method body m (heard reads (SeesIn d name number method body) x m is h)

  cancel_tagged : (x : Option Transaction) (m : Message) → SeesCancel x m → IsTagged t made m
  cancel_tagged None m h = absurd h
  cancel_tagged (Some x) m h = request_tagged t made m (ap is_request h.kind)

  -- a response of another status
  status_tagged : (a : Option Asker) (status : ℕ) (body : Option Description) (m : Message) → (status ≡ 200 → ⊥) → SeesTo a status body m → IsTagged t made m
  status_tagged None status body m other h = absurd h
  status_tagged (Some a) status body m other h = other_tagged t made m (λ ok. other (eqb-true status 200 (sym (ap is_ok h.kind) ∙ ok)))

  answer_tagged : (a : Option Asker) (body : Option Description) (m : Message) → IsOfNoBye a → SeesTo a 200 body m → IsTagged t made m
  answer_tagged None body m none h = absurd h
  answer_tagged (Some a) body m none h = method_tagged t made m (λ by. false≢true (sym none ∙ (ap (λ name. is_method bye name) (sym h.method) ∙ by)))

  okay_tagged : (a : Option Asker) (m : Message) → HasOwnTag made a → SeesTo a 200 None m → IsTagged t made m
  okay_tagged None m tag h = absurd h
  okay_tagged (Some a) m tag h = own (λ ok by. subst (IsMade made) (sym h.to_tag) (tag (ap (λ name. is_method bye name) (sym h.method) ∙ by)))

  -- what was sent before is in the trace
  again_tagged : (again : Option Sent) (d : Sent) (m : Message) → ((sent : Sent) → again ≡ Some sent → (n : Message) → IsMessage sent.bytes n → IsTagged t made n) → IsMessage d.bytes m → SeesAgain again d → IsTagged t made m
  again_tagged None d m was is h = absurd h
  again_tagged (Some sent) d m was is h = was sent refl m (subst (λ (x : Sent). IsMessage x.bytes m) h is)

  module _ (request : HasOwnTag made s.request) (was : (sent : Sent) → option_copied s.again ≡ Some sent → (n : Message) → IsMessage sent.bytes n → IsTagged t made n) where
    action_tagged : (tokens : ℕ) (action : Action) (d : Sent) (m : Message) → (answers_offer action ≡ true → IsOfNoBye s.offer) → HasFitStatus action → IsMessage d.bytes m → SaysAction s tokens action d → IsTagged t made m
    action_tagged tokens (Trying end) d m none fit is h = status_tagged s.offer 100 None m (λ e. omega (arith, e)) (heard reads (SeesTo s.offer 100 None) d m is h)
    action_tagged tokens (Offer end method) d m none fit is h = in_tagged (dialog_with end s) (branch s tokens) following (method_text (method_of method)) (option_copied s.description) d m is h
    action_tagged tokens (Provisional end status) d m none fit is h = status_tagged s.offer status None m (λ e. omega (arith, e, fit.1)) (heard reads (SeesTo s.offer status None) d m is h)
    action_tagged tokens (Ack end) d m none fit is h = in_tagged (dialog_with end s) (branch s tokens) last_number ack_text None d m is h
    action_tagged tokens (Answer end) d m none fit is h = answer_tagged s.offer (option_copied s.description) m (none refl) (heard reads (SeesTo s.offer 200 (option_copied s.description)) d m is h)
    action_tagged tokens (AnswerAgain end) d m none fit is h = again_tagged (option_copied s.again) d m was is h
    action_tagged tokens (Refusal end status) d m none fit is h = status_tagged s.offer status None m (λ e. omega (arith, e, fit.0)) (heard reads (SeesTo s.offer status None) d m is h)
    action_tagged tokens (Okay end) d m none fit is h = okay_tagged s.request m request (heard reads (SeesTo s.request 200 None) d m is h)
    action_tagged tokens (Cancel end) d m none fit is h = cancel_tagged (option_copied s.passed) m (heard reads (SeesCancel (option_copied s.passed)) d m is h)
    action_tagged tokens (Bye end) d m none fit is h = in_tagged (dialog_with end s) (branch s tokens) following (method_text methods.Bye) None d m is h
    action_tagged tokens PutRows d m none fit is h = absurd h
    action_tagged tokens Release d m none fit is h = absurd h
    action_tagged tokens RemoveRows d m none fit is h = absurd h
    action_tagged tokens (Set timer after) d m none fit is h = absurd h
    action_tagged tokens (Stop timer) d m none fit is h = absurd h
    action_tagged tokens (Abandon end) d m none fit is h = absurd h

    one_tagged : (tokens : ℕ) (action : Action) (sends : List Sent) (ms : List Message) → (answers_offer action ≡ true → IsOfNoBye s.offer) → HasFitStatus action → AreMessages sends ms → OneIf (SaysAction s tokens action) sends
        → AllOf (IsTagged t made) ms
    one_tagged tokens action [] [] none fit are h = tt
    one_tagged tokens action [] (m ∷ ms) none fit are h = absurd are
    one_tagged tokens action (d ∷ []) [] none fit are h = absurd are
    one_tagged tokens action (d ∷ []) (m ∷ []) none fit are h = (action_tagged tokens action d m none fit are.0 h, tt)
    one_tagged tokens action (d ∷ []) (m ∷ n ∷ ms) none fit are h = absurd are.1
    one_tagged tokens action (d ∷ e ∷ sends) ms none fit are h = absurd h

    pub actions_tagged : (tokens : ℕ) (actions : List Action) (sends : List Sent) (ms : List Message) → (answer_offer actions ≡ true → IsOfNoBye s.offer) → HaveFitStatuses actions → AreMessages sends ms
        → SaysActions s tokens actions sends → AllOf (IsTagged t made) ms
    actions_tagged tokens [] sends ms none fit are h = silent ms (subst (λ xs. AreMessages xs ms) h are)
      where
        silent : (xs : List Message) → AreMessages [] xs → AllOf (IsTagged t made) xs
        silent [] a = tt
        silent (x ∷ xs) a = absurd a
    actions_tagged tokens (action ∷ later) sends ms none fit are h =
        let x = split h.0 h.1 ms (subst (λ xs. AreMessages xs ms) h.2 are) in
        subst (AllOf (IsTagged t made)) (sym x.whole)
        (all_append (IsTagged t made) x.first x.rest
        (one_tagged tokens action h.0 x.first (λ e. none (or_left (answers_offer action) (answer_offer later) e)) fit.0 x.of_first h.3)
        (actions_tagged (tokens + (dress_one s tokens action).made) later h.1 x.rest (λ e. none (or_right (answers_offer action) (answer_offer later) e)) fit.1 x.of_rest h.4))
