-- What actions say, dressed with dialogs and requests of values that were read.
use Rattle.std.proofs.Common.{◌≡◌, ℕ, ◌+◌, ◌≤◌, Bool, true, false, cond, List, [], ◌∷◌, ◌++◌, codes, find, nat_lt, Option, Some, None, option_map, refl, sym, ap, subst, inl, inr, arith}
use Rattle.std.specs.Option.{option_copied}
use Rattle.std.proofs.lemmas.Option.{none-some, same_Some}
use Rattle.events.specs.declared.sent.Sent.{Sent}
use Rattle.sip_uri.specs.declared.uri.Addr.{Addr}
use Rattle.sip_uri.specs.Address.{address_of}
use Rattle.sip_message.specs.declared.headers.Header.{Header}
use Rattle.sip_message.specs.declared.message.Message.TheVariants as Kinds
use Rattle.sip_message.specs.declared.message.Request.{Request}
use Rattle.sip_message.specs.declared.message.Response.{Response}
use Rattle.sip_message.specs.declared.via.Via.{Via}
use Rattle.sip_message.specs.Words.{is_method, top_branch}
use Rattle.sip_writing.specs.Requests.{branch_text, server_via}
use Rattle.sip_writing.specs.WritingMessage.{IsWrittenMessage}
use Rattle.sdp.specs.declared.description.Description.{Description}
use Rattle.dialogs.specs.declared.method.Method.{Method}
use Rattle.dialogs.specs.declared.method.Method.TheVariants as methods
use Rattle.dialogs.specs.Counting.{following, max_for, last_number, method_text}
use Rattle.dialogs.specs.Requests.{parts_in, request_in}
use Rattle.dialogs.specs.Sound.{IsSound}
use Rattle.dialogs.specs.declared.state.Dialog.{Dialog}
use Rattle.transaction_machines.specs.declared.state.State.{State}
use Rattle.transaction_machines.specs.declared.state.State.TheVariants as machine
use Rattle.transactions.specs.declared.transaction.Transaction.{Transaction}
use Rattle.transactions.specs.SameBranch.{cancel_by, cancel_of, cancel_with, parts_like, request_like}
use Rattle.responses.specs.Tokens.{token}
use Rattle.call_media.specs.declared.end.End.{End}
use Rattle.call_media.specs.declared.end.End.TheVariants.{Caller, Callee}
use Rattle.call_core.specs.declared.action.Action.{Action}
use Rattle.call_core.specs.declared.action.Action.TheVariants.{Trying, Offer, Provisional, Ack, Answer, AnswerAgain, Refusal, Okay, Cancel, Bye, PutRows, Release, RemoveRows, Set, Stop, Abandon}
use Rattle.call_core.specs.declared.signal.OfferMethod.{OfferMethod}
use Rattle.call_messages.specs.declared.scene.Asker.{Asker}
use Rattle.call_messages.specs.declared.scene.Scene.{Scene}
use Rattle.call_messages.specs.Dressed.{asks_at, responds_through}
use Rattle.call_messages.specs.Dressing.{branch, dialog_with, dress_one, dressed, method_of, says_ack, says_again, says_answer, says_bye, says_cancel, says_offer, says_okay, says_provisional, says_refusal, says_trying}
use Rattle.call_messages.specs.Messages.{ack, bye, next_request, offer}
use Rattle.call_steps.specs.Messages.{given_up, is_abandon, messages}
use Rattle.call_steps.specs.Values.{SceneValue, lent, lent_scene}
use Rattle.call_trace.specs.Listed.{AllOf}
use Rattle.call_trace.proofs.Members.{all_append, all_weaker}
use Rattle.message_laws.specs.Addresses.{IsReached}
use Rattle.message_laws.specs.Numbers.{begun_of}
use Rattle.message_laws.specs.OpenRequests.{IsAmong}
use Rattle.message_laws.specs.Sending.{AnswerWasSent}
use Rattle.message_laws.specs.Tokens.{IsMadeBranch}
use Rattle.message_laws.proofs.Askers.Speaking.{IsShortIf}
use Rattle.message_laws.proofs.Askers.SpokenSteps.{short_copied}
use Rattle.message_laws.proofs.TokenUse.WrittenRequests.{ack_stands, bye_stands, cancel_stands, offer_stands}
use Rattle.message_laws.specs.Kinds.{IsOfKind, again, responds}
use Rattle.message_laws.specs.SoundScenes.{CountsLow, IsSoundRequestIf}
use Rattle.message_laws.proofs.Messages.AnyToken.{any_token_run}
use Rattle.message_laws.proofs.Traces.Saying.{EntryIsCalm, EntryKeeps, Says, asks_at_says, asks_if_says, begun_first, begun_split, kind_among, says_behind, silent}

-- ---- what actions are dressed with

-- a dialog in which each request can be written
pub record IsLeg (d : Dialog) : Type 0 where
  pub sound : IsSound d
  pub low : CountsLow d

abbrev pub IsLegIf : Option Dialog → Type 0
IsLegIf None = Unit {0}
IsLegIf (Some d) = IsLeg d

pub record IsWritable (before : List Sent) (s : Scene) : Type 0 where
  pub server : IsReached s.server
  pub caller : IsLegIf (option_copied s.caller)
  pub callee : IsLegIf (option_copied s.callee)
  pub passed : IsSoundRequestIf (option_copied s.passed)
  pub again : AnswerWasSent before (option_copied s.again)
  pub hops : s.hops ≤ 255
  pub short : IsShortIf (option_copied s.description)

-- ---- requests in a dialog

top_is : (server : Addr) (text : List ℕ) → top_branch (server_via server text ∷ []) ≡ Some (branch_text text)
unfolding server_via
top_is server text = refl

-- the branch of one
in_branch : (made : ℕ) (server : Addr) (salt tokens : ℕ) (d : Dialog) (method : List ℕ) (number hops : ℕ) (further : List Header) (body : List ℕ) → tokens + 1 ≤ made
    → IsMadeBranch made (top_branch (request_in d (server_via server (token salt (tokens + 1))) method number hops further body).parts.vias)
unfolding request_in parts_in
in_branch made server salt tokens d method number hops further body le = record { salt = salt; count = tokens + 1; early = le; said = top_is server (token salt (tokens + 1)) }

method_no_ack : (d : Dialog) (via : Via) (method : Method) (number hops : ℕ) (further : List Header) (body : List ℕ) → is_method (codes "ACK") (request_in d via (method_text method) number hops further body).parts ≡ false
unfolding request_in parts_in
method_no_ack d via methods.Invite number hops further body = refl
method_no_ack d via methods.Update number hops further body = refl
method_no_ack d via methods.Bye number hops further body = refl

next_no_ack : (d : Dialog) (method : Method) (via : Via) (hops : ℕ) (further : List Header) (body : List ℕ) (q : Request) → next_request d method via hops further body ≡ Some q → is_method (codes "ACK") q.parts ≡ false
next_no_ack d method via hops further body q is = by_left (nat_lt (last_number d) (max_for method)) is
  where
    by_left : (b : Bool) → cond b (Some (request_in d via (method_text method) (following d) hops further body)) None ≡ Some q → is_method (codes "ACK") q.parts ≡ false
    by_left true e = subst (λ (x : Request). is_method (codes "ACK") x.parts ≡ false) (same_Some _ q e) (method_no_ack d via method (following d) hops further body)
    by_left false e = absurd (none-some q e)

module _ (before : List Sent) (made : ℕ) (s : Scene) where
  offer_says : (n : ℕ) (d : Option Dialog) (method : OfferMethod) (description : Option Description) → IsReached s.server → s.hops ≤ 255 → IsLegIf d → IsShortIf description → Says before made (says_offer s n d method description)
  offer_says n None method description reached hops leg short = silent
  offer_says n (Some d) method None reached hops leg short = silent
  offer_says n (Some d) method (Some description) reached hops leg short =
      asks_if_says before made 1 (offer s.server d (method_of method) s.hops description (branch s n))
      (λ q is. (offer_stands s.server d (method_of method) s.hops description (branch s n) q reached leg.sound (any_token_run s.salt (n + 1)) hops short is, next_no_ack d (method_of method) _ _ _ _ q is))

  bye_says : (n : ℕ) (d : Option Dialog) → IsReached s.server → IsLegIf d → Says before made (says_bye s n d)
  bye_says n None reached leg = silent
  bye_says n (Some d) reached leg =
      asks_if_says before made 1 (bye s.server d (branch s n)) (λ q is. (bye_stands s.server d (branch s n) q reached leg.sound (any_token_run s.salt (n + 1)) is, next_no_ack d methods.Bye _ _ _ _ q is))

-- ---- a CANCEL

like_no_ack : (t : Transaction) (vias : List Via) (q : Request) → cancel_with t.uri t.parts vias ≡ Some q → is_method (codes "ACK") q.parts ≡ false
unfolding request_like parts_like
like_no_ack t [] q is = absurd (none-some q is)
like_no_ack t (via ∷ vias) q is = ap (λ (x : Request). is_method (codes "ACK") x.parts) (sym (same_Some (request_like t.uri via t.parts t.parts.to (codes "CANCEL")) q is))

cancel_no_ack : (t : Transaction) (state : State) (q : Request) → cancel_by state t.uri t.parts ≡ Some q → is_method (codes "ACK") q.parts ≡ false
cancel_no_ack t (machine.InviteClient state) q is = like_no_ack t t.parts.vias q is
cancel_no_ack t (machine.InviteServer state) q is = absurd (none-some q is)
cancel_no_ack t (machine.OtherClient state) q is = absurd (none-some q is)
cancel_no_ack t (machine.OtherServer state) q is = absurd (none-some q is)

cancel_says : (before : List Sent) (made : ℕ) (t : Option Transaction) → IsSoundRequestIf t → Says before made (says_cancel t)
cancel_says before made None h = silent
cancel_says before made (Some t) h = asks_if_says before made 0 (cancel_of t) (λ q is. (cancel_stands t q h.values h.via h.to is, cancel_no_ack t t.state q is))

-- ---- responses

responds_says : (before : List Sent) (made : ℕ) (a : Asker) (r : Response) → Says before made (responds_through a r)
responds_says before made a r = record { sends = (responds r refl, tt); begun = λ t opens client. absurd opens; keeps = (record { response = r; said = refl }, tt); calm = (tt, tt) }

trying_says : (before : List Sent) (made : ℕ) (a : Option Asker) → Says before made (says_trying a)
trying_says before made None = silent
trying_says before made (Some a) = responds_says before made a _

provisional_says : (before : List Sent) (made : ℕ) (server : Addr) (a : Option Asker) (status : ℕ) → Says before made (says_provisional server a status)
provisional_says before made server None status = silent
provisional_says before made server (Some a) status = responds_says before made a _

answer_says : (before : List Sent) (made : ℕ) (server : Addr) (a : Option Asker) (description : Option Description) → Says before made (says_answer server a description)
answer_says before made server None description = silent
answer_says before made server (Some a) None = silent
answer_says before made server (Some a) (Some description) = responds_says before made a _

refusal_says : (before : List Sent) (made : ℕ) (a : Option Asker) (status : ℕ) → Says before made (says_refusal a status)
refusal_says before made None status = silent
refusal_says before made (Some a) status = responds_says before made a _

okay_says : (before : List Sent) (made : ℕ) (server : Addr) (a : Option Asker) → Says before made (says_okay server a)
okay_says before made server None = silent
okay_says before made server (Some a) = responds_says before made a _

again_says : (before : List Sent) (made : ℕ) (sent : Option Sent) → AnswerWasSent before sent → Says before made (says_again sent)
again_says before made None h = silent
again_says before made (Some sent) h = record { sends = (again h, tt); begun = λ t opens client. absurd opens; keeps = tt; calm = tt }

-- ---- actions

leg_with : (before : List Sent) (s : Scene) (end : End) → IsWritable before s → IsLegIf (dialog_with end s)
leg_with before s Caller h = h.caller
leg_with before s Callee h = h.callee

-- an ACK makes a token, where it is sent
ack_at : (before : List Sent) (made : ℕ) (n : ℕ) (to : Option Addr) (r : Request) → IsWrittenMessage (Kinds.Request r) → (n + 1 ≤ made → IsMadeBranch made (top_branch r.parts.vias)) → n + (asks_at to r 1).made ≤ made
    → Says before made (asks_at to r 1)
ack_at before made n None r written branch le = silent
ack_at before made n (Some to) r written branch le = asks_at_says before made 1 (Some to) r written (λ is. branch le)

ack_says : (before : List Sent) (made : ℕ) (s : Scene) (n : ℕ) (d : Option Dialog) → IsReached s.server → IsLegIf d → n + (says_ack s n d).made ≤ made → Says before made (says_ack s n d)
ack_says before made s n None reached leg le = silent
ack_says before made s n (Some d) reached leg le =
    let r = ack s.server d (branch s n) in
    ack_at before made n (address_of r.uri) r (ack_stands s.server d (branch s n) reached leg.sound (any_token_run s.salt (n + 1)) leg.low) (λ low. in_branch made s.server s.salt n d _ _ _ _ _ low) le

one_says : (before : List Sent) (made : ℕ) (s : Scene) (n : ℕ) (action : Action) → IsWritable before s → n + (dress_one s n action).made ≤ made → Says before made (dress_one s n action)
unfolding dress_one
one_says before made s n (Trying end) h le = trying_says before made s.offer
one_says before made s n (Offer end method) h le = offer_says before made s n (dialog_with end s) method (option_copied s.description) h.server h.hops (leg_with before s end h) h.short
one_says before made s n (Provisional end status) h le = provisional_says before made s.server s.offer status
one_says before made s n (Ack end) h le = ack_says before made s n (dialog_with end s) h.server (leg_with before s end h) le
one_says before made s n (Answer end) h le = answer_says before made s.server s.offer (option_copied s.description)
one_says before made s n (AnswerAgain end) h le = again_says before made (option_copied s.again) h.again
one_says before made s n (Refusal end status) h le = refusal_says before made s.offer status
one_says before made s n (Okay end) h le = okay_says before made s.server s.request
one_says before made s n (Cancel end) h le = cancel_says before made (option_copied s.passed) h.passed
one_says before made s n (Bye end) h le = bye_says before made s n (dialog_with end s) h.server (leg_with before s end h)
one_says before made s n PutRows h le = silent
one_says before made s n Release h le = silent
one_says before made s n RemoveRows h le = silent
one_says before made s n (Set timer after) h le = silent
one_says before made s n (Stop timer) h le = silent
one_says before made s n (Abandon end) h le = silent

all_say : (before : List Sent) (made : ℕ) (s : Scene) (n : ℕ) (actions : List Action) → IsWritable before s → n + (dressed s n actions).made ≤ made → Says before made (dressed s n actions)
all_say before made s n [] h le = silent
all_say before made s n (action ∷ later) h le =
    let one = dress_one s n action in
    let rest = dressed s (n + one.made) later in
    let first : n + one.made ≤ made = omega (arith, le) in
    let whole : (n + one.made) + rest.made ≤ made = omega (arith, le) in
    says_behind before made one rest (one_says before made s n action h first) (all_say before made s (n + one.made) later h whole)

-- ---- the messages of a step

given_up_keeps : (passed : Option ℕ) (action : Option Action) → AllOf EntryKeeps (given_up passed action)
given_up_keeps None action = tt
given_up_keeps (Some id) None = tt
given_up_keeps (Some id) (Some action) = (tt, tt)

given_up_calm : (passed : Option ℕ) (action : Option Action) → AllOf EntryIsCalm (given_up passed action)
given_up_calm None action = tt
given_up_calm (Some id) None = tt
given_up_calm (Some id) (Some action) = (refl, tt)

given_up_begins : (passed : Option ℕ) (action : Option Action) (t : Transaction) → IsAmong (begun_of (given_up passed action)) t → ⊥
given_up_begins None action t h = h
given_up_begins (Some id) None t h = h
given_up_begins (Some id) (Some action) t h = h

pub step_says : (before : List Sent) (made : ℕ) (s : SceneValue) (passed : Option ℕ) (actions : List Action) → IsWritable before (lent_scene s) → s.tokens + (messages s passed actions).dressed.made ≤ made
    → Says before made (messages s passed actions).dressed
unfolding messages
step_says before made s passed actions h le =
    let d = dressed (lent_scene s) s.tokens actions in
    let last = given_up passed (find is_abandon actions) in
    let own = all_say before made (lent_scene s) s.tokens actions h le in
    record {
      sends = all_weaker (IsOfKind before made d.changes) (IsOfKind before made (d.changes ++ last)) (λ x. kind_among before made d.changes (d.changes ++ last) x (begun_first d.changes last)) d.sends own.sends;
      begun = λ t opens client. elim (begun_split d.changes last t opens) [
        | inl a ↦ own.begun t a client
        | inr a ↦ absurd (given_up_begins passed (find is_abandon actions) t a)
      ];
      keeps = all_append EntryKeeps d.changes last own.keeps (given_up_keeps passed (find is_abandon actions));
      calm = all_append EntryIsCalm d.changes last own.calm (given_up_calm passed (find is_abandon actions));
    }

-- ---- values in their place

lent_leg : (d : Option Dialog) → IsLegIf d → IsLegIf (option_copied (option_map lent d))
lent_leg None h = h
lent_leg (Some d) h = h

lent_values : (t : Option Transaction) → IsSoundRequestIf t → IsSoundRequestIf (option_copied (option_map lent t))
lent_values None h = h
lent_values (Some t) h = h

lent_again : (before : List Sent) (answer : Option Sent) → AnswerWasSent before answer → AnswerWasSent before (option_copied (option_map lent answer))
lent_again before None h = h
lent_again before (Some answer) h = h

pub record IsWritableValue (before : List Sent) (s : SceneValue) : Type 0 where
  pub server : IsReached s.server
  pub caller : IsLegIf s.caller
  pub callee : IsLegIf s.callee
  pub passed : IsSoundRequestIf s.passed
  pub again : AnswerWasSent before s.again
  pub hops : s.hops ≤ 255
  pub short : IsShortIf s.description

pub lent_writable : (before : List Sent) (s : SceneValue) → IsWritableValue before s → IsWritable before (lent_scene s)
lent_writable before s h = record {
  server = h.server;
  caller = lent_leg s.caller h.caller;
  callee = lent_leg s.callee h.callee;
  passed = lent_values s.passed h.passed;
  again = lent_again before s.again h.again;
  hops = h.hops;
  short = short_copied s.description h.short;
}
