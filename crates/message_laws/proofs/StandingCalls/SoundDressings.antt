-- The requests that a step begins say the dialogs in which they are sent.
use Rattle.std.proofs.Common.{ℕ, ◌+◌, Bool, true, false, cond, List, [], ◌∷◌, find, nat_lt, Option, Some, None, option_map, sym, subst, inl, inr}
use Rattle.std.specs.Prelude.{IsTrue}
use Rattle.std.specs.Option.{option_copied}
use Rattle.text.specs.Class.{is_run_of, is_token_byte}
use Rattle.sip_message.specs.CallId.{is_call_id}
use Rattle.sip_message.specs.Repeatable.{IsValue}
use Rattle.sip_message.specs.declared.headers.Header.{Header}
use Rattle.sip_message.specs.declared.message.Request.{Request}
use Rattle.sip_message.specs.declared.via.Via.{Via}
use Rattle.sip_writing.specs.Requests.{server_via}
use Rattle.sdp.specs.declared.description.Description.{Description}
use Rattle.dialogs.specs.Counting.{following, max_for, last_number, method_text}
use Rattle.dialogs.specs.Requests.{parts_in, request_in}
use Rattle.dialogs.specs.Sound.{IsReadParty}
use Rattle.dialogs.specs.declared.method.Method.TheVariants.{Bye as ByeMethod}
use Rattle.dialogs.specs.declared.state.Dialog.{Dialog}
use Rattle.transaction_machines.specs.declared.state.State.{State}
use Rattle.transaction_machines.specs.declared.state.State.TheVariants as machine
use Rattle.transactions.specs.SameBranch.{cancel_by, cancel_of, cancel_with, parts_like, request_like}
use Rattle.transactions.specs.declared.change.Entry.{Entry}
use Rattle.transactions.specs.declared.transaction.Transaction.{Transaction}
use Rattle.call_media.specs.declared.end.End.{End}
use Rattle.call_media.specs.declared.end.End.TheVariants.{Callee, Caller}
use Rattle.call_core.specs.declared.action.Action.{Action}
use Rattle.call_core.specs.declared.action.Action.TheVariants.{Abandon, Ack, Answer, AnswerAgain, Bye, Cancel, Offer, Okay, Provisional, PutRows, Refusal, Release, RemoveRows, Set, Stop, Trying}
use Rattle.call_messages.specs.Dressed.{asks}
use Rattle.call_messages.specs.Dressing.{asks_if, branch, dialog_with, dress_one, dressed, method_of, says_ack, says_bye, says_cancel, says_offer}
use Rattle.call_messages.specs.Messages.{ack, bye, offer}
use Rattle.call_messages.specs.declared.scene.Scene.{Scene}
use Rattle.call_steps.specs.Messages.{given_up, is_abandon, messages}
use Rattle.call_steps.specs.Values.{SceneValue, lent, lent_scene}
use Rattle.message_laws.specs.Sound.{IsSoundLeg, SaysDialog}
use Rattle.message_laws.proofs.AwaitedOffers.Coming.{OpensIn}
use Rattle.message_laws.proofs.QuietEvents.Dressings.{tag_said}
use Rattle.message_laws.proofs.AwaitedOffers.Offering.{again_none, answer_none, asked_parts, given_up_none, okay_none, opens_split, provisional_none, refusal_none, trying_none}

-- what each request in a dialog says of it
pub record SaysEnds (d : Dialog) : Type 0 where
  pub call_id : IsTrue (is_call_id d.id.call_id)
  pub call_id_value : IsValue d.id.call_id
  pub our_tag : IsTrue (is_run_of is_token_byte d.id.ours)
  pub ours : IsReadParty d.ours
  pub theirs : IsReadParty d.theirs

abbrev pub SaysEndsIf : Option Dialog → Type 0
SaysEndsIf None = Unit {0}
SaysEndsIf (Some d) = SaysEnds d

pub sound_ends : (d : Dialog) → IsSoundLeg d → SaysEnds d
sound_ends d h = record { call_id = h.sound.call_id; call_id_value = h.sound.call_id_value; our_tag = h.sound.our_tag; ours = h.sound.ours; theirs = h.sound.theirs }

-- each request that begins says a dialog
abbrev pub AllSay : List Entry → Type 0
AllSay changes = (t : Transaction) → OpensIn t changes → SaysDialog t.parts

-- ---- a request in a dialog

in_says : (d : Dialog) (via : Via) (method : List ℕ) (number hops : ℕ) (further : List Header) (body : List ℕ) → SaysEnds d → SaysDialog (request_in d via method number hops further body).parts
unfolding request_in parts_in
in_says d via method number hops further body h = record {
  call_id = h.call_id;
  call_id_value = h.call_id_value;
  tag = subst (λ tag. IsTrue (is_run_of is_token_byte tag)) (sym (tag_said d.id.ours)) h.our_tag;
  from = h.ours;
  to = h.theirs;
}

asks_say : (r : Request) (made : ℕ) → SaysDialog r.parts → AllSay (asks r made).changes
asks_say r made h t opens = subst SaysDialog (sym (asked_parts r made t opens)) h

abbrev IfSays : Option Request → Type 0
IfSays None = Unit {0}
IfSays (Some r) = SaysDialog r.parts

asks_if_say : (r : Option Request) (made : ℕ) → IfSays r → AllSay (asks_if r made).changes
asks_if_say None made h t opens = absurd opens
asks_if_say (Some r) made h t opens = asks_say r made h t opens

next_says : (d : Dialog) (via : Via) (method : List ℕ) (hops : ℕ) (further : List Header) (body : List ℕ) (b : Bool) → SaysEnds d → IfSays (cond b (Some (request_in d via method (following d) hops further body)) None)
next_says d via method hops further body true h = in_says d via method (following d) hops further body h
next_says d via method hops further body false h = tt

-- ---- offers, ACK, BYE, CANCEL

offer_says : (s : Scene) (n : ℕ) (d : Option Dialog) (method : _) (description : Option Description) → SaysEndsIf d → AllSay (says_offer s n d method description).changes
offer_says s n None method description h t opens = absurd opens
offer_says s n (Some d) method None h t opens = absurd opens
offer_says s n (Some d) method (Some description) h t opens =
    asks_if_say (offer s.server d (method_of method) s.hops description (branch s n)) 1
    (next_says d (server_via s.server (branch s n)) (method_text (method_of method)) _ _ _ (nat_lt (last_number d) (max_for (method_of method))) h) t opens

ack_says : (s : Scene) (n : ℕ) (d : Option Dialog) → SaysEndsIf d → AllSay (says_ack s n d).changes
ack_says s n None h t opens = absurd opens
ack_says s n (Some d) h t opens = asks_say (ack s.server d (branch s n)) 1 (in_says d (server_via s.server (branch s n)) _ _ _ _ _ h) t opens

bye_says : (s : Scene) (n : ℕ) (d : Option Dialog) → SaysEndsIf d → AllSay (says_bye s n d).changes
bye_says s n None h t opens = absurd opens
bye_says s n (Some d) h t opens =
    asks_if_say (bye s.server d (branch s n)) 1 (next_says d (server_via s.server (branch s n)) (method_text ByeMethod) 70 [] [] (nat_lt (last_number d) (max_for ByeMethod)) h) t opens

-- an INVITE of the server's own that was passed on, if there is one
abbrev pub SaysIfInvite : Option Transaction → Type 0
SaysIfInvite None = Unit {0}
SaysIfInvite (Some t) = SaysDialog t.parts

cancel_says_with : (t : Transaction) (vias : List Via) → SaysDialog t.parts → IfSays (cancel_with t.uri t.parts vias)
unfolding request_like parts_like
cancel_says_with t [] h = tt
cancel_says_with t (via ∷ vias) h = record { call_id = h.call_id; call_id_value = h.call_id_value; tag = h.tag; from = h.from; to = h.to }

cancel_says_by : (t : Transaction) (state : State) → SaysDialog t.parts → IfSays (cancel_by state t.uri t.parts)
cancel_says_by t (machine.InviteClient state) h = cancel_says_with t t.parts.vias h
cancel_says_by t (machine.InviteServer state) h = tt
cancel_says_by t (machine.OtherClient state) h = tt
cancel_says_by t (machine.OtherServer state) h = tt

cancel_says : (t : Option Transaction) → SaysIfInvite t → AllSay (says_cancel t).changes
cancel_says None h u opens = absurd opens
cancel_says (Some t) h u opens = asks_if_say (cancel_of t) 0 (cancel_says_by t t.state h) u opens

-- ---- actions

-- what they are dressed with
record SaysScene (s : Scene) : Type 0 where
  caller : SaysEndsIf (option_copied s.caller)
  callee : SaysEndsIf (option_copied s.callee)
  passed : SaysIfInvite (option_copied s.passed)

says_with : (s : Scene) (end : End) → SaysScene s → SaysEndsIf (dialog_with end s)
says_with s Caller h = h.caller
says_with s Callee h = h.callee

one_says : (s : Scene) (n : ℕ) (action : Action) → SaysScene s → AllSay (dress_one s n action).changes
unfolding dress_one
one_says s n (Trying end) h t opens = absurd (trying_none s.offer t opens)
one_says s n (Offer end method) h t opens = offer_says s n (dialog_with end s) method (option_copied s.description) (says_with s end h) t opens
one_says s n (Provisional end status) h t opens = absurd (provisional_none s.server s.offer status t opens)
one_says s n (Ack end) h t opens = ack_says s n (dialog_with end s) (says_with s end h) t opens
one_says s n (Answer end) h t opens = absurd (answer_none s.server s.offer (option_copied s.description) t opens)
one_says s n (AnswerAgain end) h t opens = absurd (again_none (option_copied s.again) t opens)
one_says s n (Refusal end status) h t opens = absurd (refusal_none s.offer status t opens)
one_says s n (Okay end) h t opens = absurd (okay_none s.server s.request t opens)
one_says s n (Cancel end) h t opens = cancel_says (option_copied s.passed) h.passed t opens
one_says s n (Bye end) h t opens = bye_says s n (dialog_with end s) (says_with s end h) t opens
one_says s n PutRows h t opens = absurd opens
one_says s n Release h t opens = absurd opens
one_says s n RemoveRows h t opens = absurd opens
one_says s n (Set timer after) h t opens = absurd opens
one_says s n (Stop timer) h t opens = absurd opens
one_says s n (Abandon end) h t opens = absurd opens

dressed_says : (s : Scene) (n : ℕ) (actions : List Action) → SaysScene s → AllSay (dressed s n actions).changes
dressed_says s n [] h t opens = absurd opens
dressed_says s n (action ∷ later) h t opens =
    let one = dress_one s n action in
    elim (opens_split t one.changes (dressed s (n + one.made) later).changes opens) [
      | inl k ↦ one_says s n action h t k
      | inr k ↦ dressed_says s (n + one.made) later h t k
    ]

-- ---- the messages of a step

-- the same of values
pub record SaysValue (s : SceneValue) : Type 0 where
  pub caller : SaysEndsIf s.caller
  pub callee : SaysEndsIf s.callee
  pub passed : SaysIfInvite s.passed

lent_ends : (d : Option Dialog) → SaysEndsIf d → SaysEndsIf (option_copied (option_map lent d))
lent_ends None h = h
lent_ends (Some d) h = h

lent_invite : (t : Option Transaction) → SaysIfInvite t → SaysIfInvite (option_copied (option_map lent t))
lent_invite None h = h
lent_invite (Some t) h = h

lent_says : (s : SceneValue) → SaysValue s → SaysScene (lent_scene s)
lent_says s h = record { caller = lent_ends s.caller h.caller; callee = lent_ends s.callee h.callee; passed = lent_invite s.passed h.passed }

pub said_says : (s : SceneValue) (passed : Option ℕ) (actions : List Action) → SaysValue s → AllSay (messages s passed actions).dressed.changes
unfolding messages
said_says s passed actions h t opens = elim (opens_split t (dressed (lent_scene s) s.tokens actions).changes (given_up passed (find is_abandon actions)) opens) [
  | inl k ↦ dressed_says (lent_scene s) s.tokens actions (lent_says s h) t k
  | inr k ↦ absurd (given_up_none passed (find is_abandon actions) t k)
]
