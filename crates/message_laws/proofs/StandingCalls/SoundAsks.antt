-- The requests that a step begins are of values that were read.
use Rattle.std.proofs.Common.{◌≡◌, ℕ, ◌+◌, ◌≤◌, Bool, true, false, cond, List, [], ◌∷◌, find, nat_lt, Option, Some, None, option_map, refl, subst, inl, inr}
use Rattle.std.specs.List.{list_all}
use Rattle.std.specs.Option.{option_copied}
use Rattle.std.proofs.lemmas.Bool.{ltb-true}
use Rattle.text.specs.Class.{is_token_byte}
use Rattle.sip_uri.specs.declared.uri.Addr.{Addr}
use Rattle.sip_uri.specs.Address.{address_of}
use Rattle.sip_message.specs.CSeq.{max_cseq}
use Rattle.sip_message.specs.Words.{is_method}
use Rattle.sip_message.specs.declared.headers.Header.{Header}
use Rattle.sip_message.specs.declared.message.Message.TheVariants as Kinds
use Rattle.sip_message.specs.declared.message.Request.{Request}
use Rattle.sip_message.specs.declared.via.Via.{Via}
use Rattle.sip_writing.specs.Requests.{name_with_tag, server_via, IsEnd, IsReadVia}
use Rattle.sip_writing.specs.Writing.{message_text}
use Rattle.sip_writing.proofs.TagTrip.{run_is, tag_stands}
use Rattle.sdp.specs.declared.description.Description.{Description}
use Rattle.dialogs.specs.Counting.{following, max_for, last_number, method_text}
use Rattle.dialogs.specs.Requests.{ack_text, parts_in, request_in}
use Rattle.dialogs.specs.Sound.{IsReadParty, IsSound}
use Rattle.dialogs.specs.declared.method.Method.{Method}
use Rattle.dialogs.specs.declared.method.Method.TheVariants.{Bye as ByeMethod}
use Rattle.dialogs.specs.declared.state.Dialog.{Dialog}
use Rattle.dialogs.specs.declared.state.Party.{Party}
use Rattle.transaction_machines.specs.declared.state.State.{State}
use Rattle.transaction_machines.specs.declared.state.State.TheVariants as machine
use Rattle.transactions.specs.SameBranch.{cancel_by, cancel_of, cancel_with, parts_like, request_like, HasReadVia}
use Rattle.transactions.specs.Transactions.{asking, asking_timers}
use Rattle.transactions.specs.declared.change.Entry.{Entry}
use Rattle.transactions.specs.declared.change.Entry.TheVariants.{Leaves, Opens}
use Rattle.transactions.specs.declared.transaction.Transaction.{Transaction}
use Rattle.call_media.specs.declared.end.End.{End}
use Rattle.call_media.specs.declared.end.End.TheVariants.{Callee, Caller}
use Rattle.call_core.specs.declared.action.Action.{Action}
use Rattle.call_core.specs.declared.action.Action.TheVariants.{Abandon, Ack, Answer, AnswerAgain, Bye, Cancel, Offer, Okay, Provisional, PutRows, Refusal, Release, RemoveRows, Set, Stop, Trying}
use Rattle.call_core.specs.declared.signal.OfferMethod.{OfferMethod}
use Rattle.call_messages.specs.Dressed.{asks, asks_at}
use Rattle.call_messages.specs.Dressing.{asks_if, branch, dialog_with, dress_one, dressed, method_of, says_ack, says_bye, says_cancel, says_offer}
use Rattle.call_messages.specs.Messages.{ack, bye, next_request, offer}
use Rattle.call_messages.specs.declared.scene.Scene.{Scene}
use Rattle.call_steps.specs.Messages.{given_up, is_abandon, messages}
use Rattle.call_steps.specs.Values.{SceneValue, lent, lent_scene}
use Rattle.message_laws.specs.Addresses.{IsReached}
use Rattle.message_laws.proofs.AwaitedOffers.Coming.{OpensIn}
use Rattle.message_laws.proofs.TokenUse.Drafts.{via_stands}
use Rattle.message_laws.proofs.AwaitedOffers.Offering.{again_none, answer_none, given_up_none, okay_none, opens_split, provisional_none, refusal_none, trying_none}
use Rattle.message_laws.specs.SoundScenes.{CanAskFrom, CanAskInIf, IsSoundRequest, IsSoundRequestIf}
use Rattle.message_laws.proofs.Messages.AnyToken.{any_token_run}
use Rattle.message_laws.proofs.StandingCalls.LowNumbers.{number_low}

-- each request that begins is sound
abbrev pub AllSound : List Entry → Type 0
AllSound changes = (t : Transaction) → OpensIn t changes → IsSoundRequest t.uri t.parts

abbrev IfSound : Option Request → Type 0
IfSound None = Unit {0}
IfSound (Some r) = IsSoundRequest r.uri r.parts

-- ---- a request begins a transaction that keeps it

asked_by : (r : Request) (to : Addr) (b : Bool) → IsSoundRequest r.uri r.parts → AllSound (cond b Leaves (Opens (asking r to (message_text (Kinds.Request r))) (asking_timers r.parts)) ∷ [])
asked_by r to true h t opens = absurd opens
asked_by r to false h t (inl e) = subst (λ (x : Transaction). IsSoundRequest x.uri x.parts) e h
asked_by r to false h t (inr opens) = absurd opens

asked_at : (to : Option Addr) (r : Request) (made : ℕ) → IsSoundRequest r.uri r.parts → AllSound (asks_at to r made).changes
asked_at None r made h t opens = absurd opens
asked_at (Some to) r made h t opens = asked_by r to (is_method ack_text r.parts) h t opens

asks_sound : (r : Request) (made : ℕ) → IsSoundRequest r.uri r.parts → AllSound (asks r made).changes
asks_sound r made h t opens = asked_at (address_of r.uri) r made h t opens

asks_if_sound : (r : Option Request) (made : ℕ) → IfSound r → AllSound (asks_if r made).changes
asks_if_sound None made h t opens = absurd opens
asks_if_sound (Some r) made h t opens = asks_sound r made h t opens

-- ---- a request in a dialog

end_is : (party : Party) (tag : List ℕ) → IsReadParty party → list_all is_token_byte tag ≡ true → IsEnd (name_with_tag party.display party.uri tag)
end_is party tag h token = record {
  read = record { text = h.text; params = h.params; reads = h.reads; clean = h.clean };
  tag = tag;
  token = token;
  tagged = refl;
}

in_sound : (d : Dialog) (via : Via) (method : List ℕ) (number hops : ℕ) (further : List Header) (body : List ℕ) → IsSound d → IsReadVia via → number ≤ max_cseq
    → IfSound (Some (request_in d via method number hops further body))
unfolding request_in parts_in
in_sound d via method number hops further body h reads low = record {
  values = record {
    uri_text = h.target.text;
    reads = h.target.reads;
    from = end_is d.ours d.id.ours h.ours (run_is d.id.ours h.our_tag);
    from_tag = tag_stands d.id.ours h.our_tag;
    call_id = h.call_id;
    call_id_value = h.call_id_value;
    number = low;
  };
  via = reads;
  to = end_is d.theirs d.id.theirs h.theirs h.their_tag;
}

next_sound : (d : Dialog) (method : Method) (via : Via) (hops : ℕ) (further : List Header) (body : List ℕ) → IsSound d → IsReadVia via → IfSound (next_request d method via hops further body)
next_sound d method via hops further body h reads = by_left (nat_lt (last_number d) (max_for method)) refl
  where
    by_left : (b : Bool) → nat_lt (last_number d) (max_for method) ≡ b → IfSound (cond b (Some (request_in d via (method_text method) (following d) hops further body)) None)
    by_left true e = in_sound d via (method_text method) (following d) hops further body h reads (number_low (last_number d) method (ltb-true (last_number d) (max_for method) e))
    by_left false e = tt

branch_reads : (s : Scene) (tokens : ℕ) → IsReached s.server → IsReadVia (server_via s.server (branch s tokens))
branch_reads s tokens reached =
    via_stands s.server (branch s tokens) reached.source.octets reached.four reached.port reached.source.port (any_token_run s.salt (tokens + 1))

-- ---- offers, ACK, BYE, CANCEL

offer_sound : (s : Scene) (n : ℕ) (d : Option Dialog) (method : OfferMethod) (description : Option Description) → IsReached s.server → CanAskInIf d → AllSound (says_offer s n d method description).changes
offer_sound s n None method description reached can t opens = absurd opens
offer_sound s n (Some d) method None reached can t opens = absurd opens
offer_sound s n (Some d) method (Some description) reached can t opens =
    asks_if_sound (offer s.server d (method_of method) s.hops description (branch s n)) 1 (next_sound d (method_of method) _ _ _ _ can.sound (branch_reads s n reached)) t opens

ack_sound : (s : Scene) (n : ℕ) (d : Option Dialog) → IsReached s.server → CanAskInIf d → AllSound (says_ack s n d).changes
ack_sound s n None reached can t opens = absurd opens
ack_sound s n (Some d) reached can t opens =
    asks_sound (ack s.server d (branch s n)) 1 (in_sound d (server_via s.server (branch s n)) ack_text (last_number d) 70 [] [] can.sound (branch_reads s n reached) can.low) t opens

bye_sound : (s : Scene) (n : ℕ) (d : Option Dialog) → IsReached s.server → CanAskInIf d → AllSound (says_bye s n d).changes
bye_sound s n None reached can t opens = absurd opens
bye_sound s n (Some d) reached can t opens =
    asks_if_sound (bye s.server d (branch s n)) 1 (next_sound d ByeMethod (server_via s.server (branch s n)) 70 [] [] can.sound (branch_reads s n reached)) t opens

cancel_with_sound : (t : Transaction) (vias : List Via) → IsSoundRequest t.uri t.parts → HasReadVia vias → IfSound (cancel_with t.uri t.parts vias)
unfolding request_like parts_like
cancel_with_sound t [] h reads = tt
cancel_with_sound t (via ∷ vias) h reads = record {
  values = record {
    uri_text = h.values.uri_text;
    reads = h.values.reads;
    from = h.values.from;
    from_tag = h.values.from_tag;
    call_id = h.values.call_id;
    call_id_value = h.values.call_id_value;
    number = h.values.number;
  };
  via = reads;
  to = h.to;
}

cancel_by_sound : (t : Transaction) (state : State) → IsSoundRequest t.uri t.parts → IfSound (cancel_by state t.uri t.parts)
cancel_by_sound t (machine.InviteClient state) h = cancel_with_sound t t.parts.vias h h.via
cancel_by_sound t (machine.InviteServer state) h = tt
cancel_by_sound t (machine.OtherClient state) h = tt
cancel_by_sound t (machine.OtherServer state) h = tt

cancel_sound : (t : Option Transaction) → IsSoundRequestIf t → AllSound (says_cancel t).changes
cancel_sound None h u opens = absurd opens
cancel_sound (Some t) h u opens = asks_if_sound (cancel_of t) 0 (cancel_by_sound t t.state h) u opens

-- ---- actions

can_ask : (s : Scene) (end : End) → CanAskFrom s → CanAskInIf (dialog_with end s)
can_ask s Caller h = h.caller
can_ask s Callee h = h.callee

one_sound : (s : Scene) (n : ℕ) (action : Action) → CanAskFrom s → AllSound (dress_one s n action).changes
unfolding dress_one
one_sound s n (Trying end) h t opens = absurd (trying_none s.offer t opens)
one_sound s n (Offer end method) h t opens = offer_sound s n (dialog_with end s) method (option_copied s.description) h.server (can_ask s end h) t opens
one_sound s n (Provisional end status) h t opens = absurd (provisional_none s.server s.offer status t opens)
one_sound s n (Ack end) h t opens = ack_sound s n (dialog_with end s) h.server (can_ask s end h) t opens
one_sound s n (Answer end) h t opens = absurd (answer_none s.server s.offer (option_copied s.description) t opens)
one_sound s n (AnswerAgain end) h t opens = absurd (again_none (option_copied s.again) t opens)
one_sound s n (Refusal end status) h t opens = absurd (refusal_none s.offer status t opens)
one_sound s n (Okay end) h t opens = absurd (okay_none s.server s.request t opens)
one_sound s n (Cancel end) h t opens = cancel_sound (option_copied s.passed) h.passed t opens
one_sound s n (Bye end) h t opens = bye_sound s n (dialog_with end s) h.server (can_ask s end h) t opens
one_sound s n PutRows h t opens = absurd opens
one_sound s n Release h t opens = absurd opens
one_sound s n RemoveRows h t opens = absurd opens
one_sound s n (Set timer after) h t opens = absurd opens
one_sound s n (Stop timer) h t opens = absurd opens
one_sound s n (Abandon end) h t opens = absurd opens

dressed_sound : (s : Scene) (n : ℕ) (actions : List Action) → CanAskFrom s → AllSound (dressed s n actions).changes
dressed_sound s n [] h t opens = absurd opens
dressed_sound s n (action ∷ later) h t opens =
    let one = dress_one s n action in
    elim (opens_split t one.changes (dressed s (n + one.made) later).changes opens) [
      | inl k ↦ one_sound s n action h t k
      | inr k ↦ dressed_sound s (n + one.made) later h t k
    ]

-- ---- the messages of a step

lent_can : (d : Option Dialog) → CanAskInIf d → CanAskInIf (option_copied (option_map lent d))
lent_can None h = h
lent_can (Some d) h = h

lent_passed : (t : Option Transaction) → IsSoundRequestIf t → IsSoundRequestIf (option_copied (option_map lent t))
lent_passed None h = h
lent_passed (Some t) h = h

pub lent_asks : (s : SceneValue) → IsReached s.server → CanAskInIf s.caller → CanAskInIf s.callee → IsSoundRequestIf s.passed → CanAskFrom (lent_scene s)
lent_asks s reached caller callee passed = record { server = reached; caller = lent_can s.caller caller; callee = lent_can s.callee callee; passed = lent_passed s.passed passed }

pub messages_sound : (s : SceneValue) (passed : Option ℕ) (actions : List Action) → CanAskFrom (lent_scene s) → AllSound (messages s passed actions).dressed.changes
unfolding messages
messages_sound s passed actions h t opens = elim (opens_split t (dressed (lent_scene s) s.tokens actions).changes (given_up passed (find is_abandon actions)) opens) [
  | inl k ↦ dressed_sound (lent_scene s) s.tokens actions h t k
  | inr k ↦ absurd (given_up_none passed (find is_abandon actions) t k)
]
