-- The BYEs that begin in a step are in the dialogs of its scene, with the number that follows.
use Rattle.std.proofs.Common.{◌≡◌, ◌∙◌, ℕ, ◌+◌, Bool, true, false, cond, List, [], ◌∷◌, codes, find, nat_lt, Option, Some, None, refl, ap, sym, inl, inr}
use Rattle.std.specs.Prelude.{◌⊎◌}
use Rattle.std.specs.Option.{option_copied}
use Rattle.std.proofs.lemmas.Bool.{false≢true}
use Rattle.sip_message.specs.declared.headers.Header.{Header}
use Rattle.sip_message.specs.declared.message.Parts.{Parts}
use Rattle.sip_message.specs.declared.message.Request.{Request}
use Rattle.sip_message.specs.declared.via.Via.{Via}
use Rattle.sip_message.specs.Words.{tag_text}
use Rattle.sip_writing.specs.Requests.{server_via}
use Rattle.sdp.specs.declared.description.Description.{Description}
use Rattle.dialogs.specs.declared.method.Method.TheVariants.{Bye as ByeMethod}
use Rattle.dialogs.specs.declared.state.Dialog.{Dialog}
use Rattle.dialogs.specs.Counting.{following, max_for, last_number, method_text}
use Rattle.dialogs.specs.Requests.{parts_in, request_in}
use Rattle.transaction_machines.specs.declared.state.State.{State}
use Rattle.transaction_machines.specs.declared.state.State.TheVariants as machine
use Rattle.transactions.specs.declared.transaction.Transaction.{Transaction}
use Rattle.transactions.specs.SameBranch.{cancel_by, cancel_with, parts_like, request_like}
use Rattle.call_media.specs.declared.end.End.{End}
use Rattle.call_media.specs.declared.end.End.TheVariants.{Caller, Callee}
use Rattle.call_core.specs.declared.action.Action.{Action}
use Rattle.call_core.specs.declared.action.Action.TheVariants.{Trying, Offer, Provisional, Ack, Answer, AnswerAgain, Refusal, Okay, Cancel, Bye, PutRows, Release, RemoveRows, Set, Stop, Abandon}
use Rattle.call_core.specs.declared.signal.OfferMethod.{OfferMethod}
use Rattle.call_core.specs.declared.signal.OfferMethod.TheVariants.{Invite, Update}
use Rattle.call_rules.specs.Speaking.{is_bye}
use Rattle.call_messages.specs.declared.scene.Scene.{Scene}
use Rattle.call_messages.specs.Dressing.{asks_if, branch, dialog_with, dress_one, dressed, method_of, says_ack, says_bye, says_cancel, says_offer}
use Rattle.call_messages.specs.Dressed.{asks}
use Rattle.call_messages.specs.Messages.{ack}
use Rattle.call_steps.specs.Messages.{given_up, is_abandon, messages}
use Rattle.call_steps.specs.Values.{SceneValue, lent_scene}
use Rattle.message_laws.specs.Numbers.{IsBye}
use Rattle.message_laws.specs.Waiting.{from_tag}
use Rattle.message_laws.proofs.AwaitedOffers.Coming.{OpensIn}
use Rattle.message_laws.proofs.QuietEvents.Dressings.{tag_said}
use Rattle.message_laws.proofs.AwaitedOffers.Offering.{again_none, answer_none, asked_parts, given_up_none, okay_none, opens_split, provisional_none, refusal_none, trying_none}

-- it has the tags of this dialog, and the number that follows
pub record IsByeIn (d : Dialog) (t : Transaction) : Type 0 where
  pub ours : from_tag t ≡ d.id.ours
  pub theirs : tag_text t.parts.to.params ≡ d.id.theirs
  pub number : t.parts.cseq.number ≡ following d

abbrev pub IsByeTo : Option Dialog → Transaction → Type 0
IsByeTo None t = ⊥
IsByeTo (Some d) t = IsByeIn d t

-- to one of the two ends
abbrev pub IsByeFrom : Scene → Transaction → Type 0
IsByeFrom s t = IsByeTo (dialog_with Caller s) t ⊎ IsByeTo (dialog_with Callee s) t

-- ---- requests that are no BYE

no_bye : (r : Request) (made : ℕ) (t : Transaction) → is_bye r.parts ≡ false → OpensIn t (asks r made).changes → IsBye t → ⊥
no_bye r made t none opens bye = false≢true (sym none ∙ ap is_bye (sym (asked_parts r made t opens)) ∙ bye.leaves)

offer_no_bye_by : (d : Dialog) (via : Via) (method : OfferMethod) (hops : ℕ) (further : List Header) (body : List ℕ) (made : ℕ) (b : Bool) (t : Transaction)
    → OpensIn t (asks_if (cond b (Some (request_in d via (method_text (method_of method)) (following d) hops further body)) None) made).changes → IsBye t → ⊥
unfolding request_in parts_in
offer_no_bye_by d via method hops further body made false t opens bye = opens
offer_no_bye_by d via Invite hops further body made true t opens bye = no_bye (request_in d via (method_text (method_of Invite)) (following d) hops further body) made t refl opens bye
offer_no_bye_by d via Update hops further body made true t opens bye = no_bye (request_in d via (method_text (method_of Update)) (following d) hops further body) made t refl opens bye

offer_no_bye : (s : Scene) (n : ℕ) (d : Option Dialog) (method : OfferMethod) (description : Option Description) (t : Transaction) → OpensIn t (says_offer s n d method description).changes → IsBye t → ⊥
offer_no_bye s n None method description t opens bye = opens
offer_no_bye s n (Some d) method None t opens bye = opens
offer_no_bye s n (Some d) method (Some description) t opens bye =
    offer_no_bye_by d (server_via s.server (branch s n)) method _ _ _ 1 (nat_lt (last_number d) (max_for (method_of method))) t opens bye

ack_no_bye : (s : Scene) (n : ℕ) (d : Option Dialog) (t : Transaction) → OpensIn t (says_ack s n d).changes → IsBye t → ⊥
unfolding request_in parts_in
ack_no_bye s n None t opens bye = opens
ack_no_bye s n (Some d) t opens bye = no_bye (ack s.server d (branch s n)) 1 t refl opens bye

cancel_no_bye_with : (t : Transaction) (vias : List Via) (made : ℕ) (u : Transaction) → OpensIn u (asks_if (cancel_with t.uri t.parts vias) made).changes → IsBye u → ⊥
unfolding request_like parts_like
cancel_no_bye_with t [] made u opens bye = opens
cancel_no_bye_with t (via ∷ vias) made u opens bye = no_bye (request_like t.uri via t.parts t.parts.to (codes "CANCEL")) made u refl opens bye

cancel_no_bye_by : (t : Transaction) (state : State) (made : ℕ) (u : Transaction) → OpensIn u (asks_if (cancel_by state t.uri t.parts) made).changes → IsBye u → ⊥
cancel_no_bye_by t (machine.InviteClient state) made u opens bye = cancel_no_bye_with t t.parts.vias made u opens bye
cancel_no_bye_by t (machine.InviteServer state) made u opens bye = opens
cancel_no_bye_by t (machine.OtherClient state) made u opens bye = opens
cancel_no_bye_by t (machine.OtherServer state) made u opens bye = opens

cancel_no_bye : (o : Option Transaction) (u : Transaction) → OpensIn u (says_cancel o).changes → IsBye u → ⊥
cancel_no_bye None u opens bye = opens
cancel_no_bye (Some t) u opens bye = cancel_no_bye_by t t.state 0 u opens bye

-- ---- BYE

left_by : (d : Dialog) (via : Via) (made : ℕ) (b : Bool) (t : Transaction)
    → OpensIn t (asks_if (cond b (Some (request_in d via (method_text ByeMethod) (following d) 70 [] [])) None) made).changes → IsByeIn d t
unfolding request_in parts_in
left_by d via made false t opens = absurd opens
left_by d via made true t opens =
    let same = asked_parts (request_in d via (method_text ByeMethod) (following d) 70 [] []) made t opens in
    record {
      ours = ap (λ (x : Parts). tag_text x.from.params) same ∙ tag_said d.id.ours;
      theirs = ap (λ (x : Parts). tag_text x.to.params) same ∙ tag_said d.id.theirs;
      number = ap (λ (x : Parts). x.cseq.number) same;
    }

left : (s : Scene) (n : ℕ) (d : Option Dialog) (t : Transaction) → OpensIn t (says_bye s n d).changes → IsByeTo d t
left s n None t opens = opens
left s n (Some d) t opens = left_by d (server_via s.server (branch s n)) 1 (nat_lt (last_number d) (max_for ByeMethod)) t opens

left_to : (s : Scene) (n : ℕ) (end : End) (t : Transaction) → OpensIn t (says_bye s n (dialog_with end s)).changes → IsByeFrom s t
left_to s n Caller t opens = inl (left s n (dialog_with Caller s) t opens)
left_to s n Callee t opens = inr (left s n (dialog_with Callee s) t opens)

-- ---- actions

one_left : (s : Scene) (n : ℕ) (action : Action) (t : Transaction) → OpensIn t (dress_one s n action).changes → IsBye t → IsByeFrom s t
unfolding dress_one
one_left s n (Trying end) t opens bye = absurd (trying_none s.offer t opens)
one_left s n (Offer end method) t opens bye = absurd (offer_no_bye s n (dialog_with end s) method (option_copied s.description) t opens bye)
one_left s n (Provisional end status) t opens bye = absurd (provisional_none s.server s.offer status t opens)
one_left s n (Ack end) t opens bye = absurd (ack_no_bye s n (dialog_with end s) t opens bye)
one_left s n (Answer end) t opens bye = absurd (answer_none s.server s.offer (option_copied s.description) t opens)
one_left s n (AnswerAgain end) t opens bye = absurd (again_none (option_copied s.again) t opens)
one_left s n (Refusal end status) t opens bye = absurd (refusal_none s.offer status t opens)
one_left s n (Okay end) t opens bye = absurd (okay_none s.server s.request t opens)
one_left s n (Cancel end) t opens bye = absurd (cancel_no_bye (option_copied s.passed) t opens bye)
one_left s n (Bye end) t opens bye = left_to s n end t opens
one_left s n PutRows t opens bye = absurd opens
one_left s n Release t opens bye = absurd opens
one_left s n RemoveRows t opens bye = absurd opens
one_left s n (Set timer after) t opens bye = absurd opens
one_left s n (Stop timer) t opens bye = absurd opens
one_left s n (Abandon end) t opens bye = absurd opens

dressed_left : (s : Scene) (n : ℕ) (actions : List Action) (t : Transaction) → OpensIn t (dressed s n actions).changes → IsBye t → IsByeFrom s t
dressed_left s n [] t opens bye = absurd opens
dressed_left s n (action ∷ later) t opens bye =
    let one = dress_one s n action in
    elim (opens_split t one.changes (dressed s (n + one.made) later).changes opens) [
      | inl h ↦ one_left s n action t h bye
      | inr h ↦ dressed_left s (n + one.made) later t h bye
    ]

-- ---- the messages of a step

pub said_left : (s : SceneValue) (passed : Option ℕ) (actions : List Action) (t : Transaction) → OpensIn t (messages s passed actions).dressed.changes → IsBye t → IsByeFrom (lent_scene s) t
unfolding messages
said_left s passed actions t opens bye = elim (opens_split t (dressed (lent_scene s) s.tokens actions).changes (given_up passed (find is_abandon actions)) opens) [
  | inl h ↦ dressed_left (lent_scene s) s.tokens actions t h bye
  | inr h ↦ absurd (given_up_none passed (find is_abandon actions) t h)
]

-- an ACK alone begins none
pub ack_alone_none : (s : SceneValue) (end : End) (t : Transaction) → OpensIn t (messages s None (Ack end ∷ [])).dressed.changes → IsBye t → ⊥
unfolding messages dress_one
ack_alone_none s end t opens bye = elim (opens_split t (dressed (lent_scene s) s.tokens (Ack end ∷ [])).changes (given_up None (find is_abandon (Ack end ∷ []))) opens) [
  | inl h ↦ elim (opens_split t (dress_one (lent_scene s) s.tokens (Ack end)).changes [] h) [
    | inl k ↦ ack_no_bye (lent_scene s) s.tokens (dialog_with end (lent_scene s)) t k bye
    | inr k ↦ k
  ]
  | inr h ↦ h
]
