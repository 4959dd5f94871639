-- The messages of a call are requests of the server's own, with tokens that were made.
use Rattle.std.proofs.Common.{◌≡◌, ◌∙◌, ℕ, ◌+◌, ◌≤◌, ◌==◌, Bool, true, false, cond, List, [], ◌∷◌, length, Option, Some, None, codes, nat_lt, refl, sym, arith}
use Rattle.std.specs.Option.{option_copied}
use Rattle.std.proofs.lemmas.Bool.{eqb-true}
use Rattle.std.proofs.lemmas.List.{nil_from_length}
use Rattle.sip_uri.specs.declared.uri.Addr.{Addr}
use Rattle.sip_uri.specs.Address.{address_of}
use Rattle.sip_message.specs.declared.headers.Header.{Header}
use Rattle.sip_message.specs.declared.message.Message.TheVariants as Kinds
use Rattle.sip_message.specs.declared.message.Request.{Request}
use Rattle.sip_message.specs.declared.via.Via.{Via}
use Rattle.sip_message.specs.Words.{is_method, tag_text, top_branch}
use Rattle.sip_writing.specs.Requests.{branch_text, server_via, tag_params}
use Rattle.sip_writing.specs.Writing.{message_text}
use Rattle.sdp.specs.declared.description.Description.{Description}
use Rattle.dialogs.specs.declared.method.Method.{Method}
use Rattle.dialogs.specs.declared.method.Method.TheVariants.{Bye as ByeMethod}
use Rattle.dialogs.specs.declared.state.Dialog.{Dialog}
use Rattle.dialogs.specs.Counting.{following, max_for, last_number, method_text}
use Rattle.dialogs.specs.Requests.{parts_in, request_in}
use Rattle.events.specs.declared.sent.Sent.{Sent}
use Rattle.transactions.specs.declared.change.Entry.TheVariants.{Opens, Leaves}
use Rattle.transactions.specs.declared.transaction.Transaction.{Transaction}
use Rattle.transactions.specs.Changes.{start_of}
use Rattle.transactions.specs.SameBranch.{cancel_by, cancel_of, cancel_with, parts_like, request_like}
use Rattle.transactions.specs.Transactions.{asking, asking_timers}
use Rattle.transaction_machines.specs.declared.state.State.{State}
use Rattle.transaction_machines.specs.declared.state.State.TheVariants as machine
use Rattle.responses.specs.Tokens.{token}
use Rattle.call_core.specs.declared.action.Action.{Action}
use Rattle.call_core.specs.declared.action.Action.TheVariants.{Trying, Offer, Provisional, Ack, Answer, AnswerAgain, Refusal, Okay, Cancel, Bye, PutRows, Release, RemoveRows, Set, Stop, Abandon}
use Rattle.call_media.specs.declared.end.End.{End}
use Rattle.call_media.specs.declared.end.End.TheVariants.{Caller, Callee}
use Rattle.call_messages.specs.declared.scene.Asker.{Asker}
use Rattle.call_messages.specs.declared.scene.Scene.{Scene}
use Rattle.call_messages.specs.Dressed.{Dressed, asks, asks_at}
use Rattle.call_messages.specs.Dressing.{asks_if, branch, dialog_with, dress_one, dressed, method_of, says_ack, says_again, says_answer, says_bye, says_cancel, says_offer, says_okay, says_provisional, says_refusal, says_trying}
use Rattle.call_messages.specs.Messages.{ack, bye, next_request, offer}
use Rattle.message_laws.specs.Entries.{EnterOwn, EntersOwn}
use Rattle.message_laws.specs.Tokens.{IsMade, IsMadeBranch, IsOwnRequest}
use Rattle.message_laws.proofs.QuietEvents.Growing.{made_more, request_more, entries_more, entries_append}

-- ---- a request in a dialog

tag_said_by : (tag : List ℕ) (b : Bool) → (length tag == 0) ≡ b → tag_text (tag_params tag) ≡ tag
tag_said_by tag true e = rw e (sym (nil_from_length tag (eqb-true (length tag) 0 e)))
tag_said_by tag false e = rw e refl

-- the tag of From is that of the dialog
pub tag_said : (tag : List ℕ) → tag_text (tag_params tag) ≡ tag
tag_said tag = tag_said_by tag (length tag == 0) refl

branch_said : (server : Addr) (text : List ℕ) → top_branch (server_via server text ∷ []) ≡ Some (branch_text text)
unfolding server_via
branch_said server text = refl

-- a token that is made next
own_in : (made : ℕ) (server : Addr) (salt tokens : ℕ) (d : Dialog) (method : List ℕ) (number hops : ℕ) (further : List Header) (body : List ℕ)
    → tokens + 1 ≤ made → IsMade made d.id.ours → IsOwnRequest made (request_in d (server_via server (token salt (tokens + 1))) method number hops further body).parts
unfolding request_in parts_in
own_in made server salt tokens d method number hops further body le tag = record {
  branch = record { salt = salt; count = tokens + 1; early = le; said = branch_said server (token salt (tokens + 1)) };
  tag = record { salt = tag.salt; count = tag.count; early = tag.early; said = tag_said d.id.ours ∙ tag.said };
}

-- ---- a request begins a transaction

starts_own_by : (made : ℕ) (r : Request) (to : Addr) (b : Bool) → IsOwnRequest made r.parts
    → EntersOwn made (cond b Leaves (Opens (asking r to (message_text (Kinds.Request r))) (asking_timers r.parts)))
starts_own_by made r to true own = tt
starts_own_by made r to false own = λ client. own

starts_own : (made : ℕ) (r : Request) (to : Addr) → IsOwnRequest made r.parts → EntersOwn made (start_of r to)
starts_own made r to own = starts_own_by made r to (is_method (codes "ACK") r.parts) own

-- what is dressed begins only own requests, where this many tokens were made before it
abbrev pub OwnMade : ℕ → Dressed → Type 0
OwnMade n d = EnterOwn (n + d.made) d.changes

asks_at_own : (n made : ℕ) (to : Option Addr) (r : Request) → IsOwnRequest (n + made) r.parts → OwnMade n (asks_at to r made)
asks_at_own n made None r own = tt
asks_at_own n made (Some to) r own = (starts_own (n + made) r to own, tt)

asks_own : (n made : ℕ) (r : Request) → IsOwnRequest (n + made) r.parts → OwnMade n (asks r made)
asks_own n made r own = asks_at_own n made (address_of r.uri) r own

abbrev IfOwn : ℕ → Option Request → Type 0
IfOwn made None = Unit {0}
IfOwn made (Some r) = IsOwnRequest made r.parts

asks_if_own : (n made : ℕ) (r : Option Request) → IfOwn (n + made) r → OwnMade n (asks_if r made)
asks_if_own n made None own = tt
asks_if_own n made (Some r) own = asks_own n made r own

-- ---- offers, ACK, BYE, CANCEL

-- the server's tag in this dialog, if there is one
abbrev pub HasMadeTag : ℕ → Option Dialog → Type 0
HasMadeTag made None = Unit {0}
HasMadeTag made (Some d) = IsMade made d.id.ours

next_own_by : (made : ℕ) (server : Addr) (salt tokens : ℕ) (d : Dialog) (method : Method) (hops : ℕ) (further : List Header) (body : List ℕ) (b : Bool)
    → tokens + 1 ≤ made → IsMade made d.id.ours
    → IfOwn made (cond b (Some (request_in d (server_via server (token salt (tokens + 1))) (method_text method) (following d) hops further body)) None)
next_own_by made server salt tokens d method hops further body true le tag = own_in made server salt tokens d (method_text method) (following d) hops further body le tag
next_own_by made server salt tokens d method hops further body false le tag = tt

next_own : (made : ℕ) (server : Addr) (salt tokens : ℕ) (d : Dialog) (method : Method) (hops : ℕ) (further : List Header) (body : List ℕ)
    → tokens + 1 ≤ made → IsMade made d.id.ours → IfOwn made (next_request d method (server_via server (token salt (tokens + 1))) hops further body)
next_own made server salt tokens d method hops further body le tag =
    next_own_by made server salt tokens d method hops further body (nat_lt (last_number d) (max_for method)) le tag

offer_own : (s : Scene) (n : ℕ) (d : Option Dialog) (method : _) (description : Option Description) → HasMadeTag n d → OwnMade n (says_offer s n d method description)
offer_own s n None method description tag = tt
offer_own s n (Some d) method None tag = tt
offer_own s n (Some d) method (Some description) tag =
    asks_if_own n 1 (offer s.server d (method_of method) s.hops description (branch s n))
    (next_own (n + 1) s.server s.salt n d (method_of method) _ _ _ (omega arith) (made_more n (n + 1) d.id.ours (omega arith) tag))

ack_own : (s : Scene) (n : ℕ) (d : Option Dialog) → HasMadeTag n d → OwnMade n (says_ack s n d)
ack_own s n None tag = tt
ack_own s n (Some d) tag =
    asks_own n 1 (ack s.server d (branch s n))
    (own_in (n + 1) s.server s.salt n d _ _ _ _ _ (omega arith) (made_more n (n + 1) d.id.ours (omega arith) tag))

bye_own : (s : Scene) (n : ℕ) (d : Option Dialog) → HasMadeTag n d → OwnMade n (says_bye s n d)
bye_own s n None tag = tt
bye_own s n (Some d) tag =
    asks_if_own n 1 (bye s.server d (branch s n))
    (next_own (n + 1) s.server s.salt n d ByeMethod 70 [] [] (omega arith) (made_more n (n + 1) d.id.ours (omega arith) tag))

-- an INVITE of the server's own that was passed on, if there is one
abbrev pub IfOwnInvite : ℕ → Option Transaction → Type 0
IfOwnInvite made None = Unit {0}
IfOwnInvite made (Some t) = IsOwnRequest made t.parts

cancel_own_with : (made : ℕ) (t : Transaction) (vias : List Via) → IsMadeBranch made (top_branch vias) → IsMade made (tag_text t.parts.from.params)
    → IfOwn made (cancel_with t.uri t.parts vias)
unfolding request_like parts_like
cancel_own_with made t [] branch tag = tt
cancel_own_with made t (via ∷ vias) branch tag = record { branch = record { salt = branch.salt; count = branch.count; early = branch.early; said = branch.said }; tag = tag }

cancel_own_by : (made : ℕ) (t : Transaction) (state : State) → IsOwnRequest made t.parts → IfOwn made (cancel_by state t.uri t.parts)
cancel_own_by made t (machine.InviteClient state) own = cancel_own_with made t t.parts.vias own.branch own.tag
cancel_own_by made t (machine.InviteServer state) own = tt
cancel_own_by made t (machine.OtherClient state) own = tt
cancel_own_by made t (machine.OtherServer state) own = tt

cancel_own : (n : ℕ) (t : Option Transaction) → IfOwnInvite n t → OwnMade n (says_cancel t)
cancel_own n None own = tt
cancel_own n (Some t) own = asks_if_own n 0 (cancel_of t) (cancel_own_by (n + 0) t t.state (request_more n (n + 0) t.parts (omega arith) own))

-- ---- responses

trying_own : (n : ℕ) (a : Option Asker) → OwnMade n (says_trying a)
trying_own n None = tt
trying_own n (Some a) = (tt, tt)

provisional_own : (n : ℕ) (server : Addr) (a : Option Asker) (status : ℕ) → OwnMade n (says_provisional server a status)
provisional_own n server None status = tt
provisional_own n server (Some a) status = (tt, tt)

answer_own : (n : ℕ) (server : Addr) (a : Option Asker) (description : Option Description) → OwnMade n (says_answer server a description)
answer_own n server None description = tt
answer_own n server (Some a) None = tt
answer_own n server (Some a) (Some description) = (tt, tt)

refusal_own : (n : ℕ) (a : Option Asker) (status : ℕ) → OwnMade n (says_refusal a status)
refusal_own n None status = tt
refusal_own n (Some a) status = (tt, tt)

okay_own : (n : ℕ) (server : Addr) (a : Option Asker) → OwnMade n (says_okay server a)
okay_own n server None = tt
okay_own n server (Some a) = (tt, tt)

again_own : (n : ℕ) (sent : Option Sent) → OwnMade n (says_again sent)
again_own n None = tt
again_own n (Some sent) = tt

-- ---- actions

-- what they are dressed with
pub record IsOwnScene (made : ℕ) (s : Scene) : Type 0 where
  pub caller : HasMadeTag made (option_copied s.caller)
  pub callee : HasMadeTag made (option_copied s.callee)
  pub passed : IfOwnInvite made (option_copied s.passed)

tag_more : (n m : ℕ) (d : Option Dialog) → n ≤ m → HasMadeTag n d → HasMadeTag m d
tag_more n m None le h = h
tag_more n m (Some d) le h = made_more n m d.id.ours le h

invite_more : (n m : ℕ) (t : Option Transaction) → n ≤ m → IfOwnInvite n t → IfOwnInvite m t
invite_more n m None le h = h
invite_more n m (Some t) le h = request_more n m t.parts le h

scene_more : (n m : ℕ) (s : Scene) → n ≤ m → IsOwnScene n s → IsOwnScene m s
scene_more n m s le h = record { caller = tag_more n m _ le h.caller; callee = tag_more n m _ le h.callee; passed = invite_more n m _ le h.passed }

tag_with : (made : ℕ) (s : Scene) (end : End) → IsOwnScene made s → HasMadeTag made (dialog_with end s)
tag_with made s Caller h = h.caller
tag_with made s Callee h = h.callee

one_own : (n : ℕ) (s : Scene) (action : Action) → IsOwnScene n s → OwnMade n (dress_one s n action)
unfolding dress_one
one_own n s (Trying end) h = trying_own n s.offer
one_own n s (Offer end method) h = offer_own s n (dialog_with end s) method (option_copied s.description) (tag_with n s end h)
one_own n s (Provisional end status) h = provisional_own n s.server s.offer status
one_own n s (Ack end) h = ack_own s n (dialog_with end s) (tag_with n s end h)
one_own n s (Answer end) h = answer_own n s.server s.offer (option_copied s.description)
one_own n s (AnswerAgain end) h = again_own n (option_copied s.again)
one_own n s (Refusal end status) h = refusal_own n s.offer status
one_own n s (Okay end) h = okay_own n s.server s.request
one_own n s (Cancel end) h = cancel_own n (option_copied s.passed) h.passed
one_own n s (Bye end) h = bye_own s n (dialog_with end s) (tag_with n s end h)
one_own n s PutRows h = tt
one_own n s Release h = tt
one_own n s RemoveRows h = tt
one_own n s (Set timer after) h = tt
one_own n s (Stop timer) h = tt
one_own n s (Abandon end) h = tt

pub dressed_own : (n : ℕ) (s : Scene) (actions : List Action) → IsOwnScene n s → OwnMade n (dressed s n actions)
dressed_own n s [] h = tt
dressed_own n s (action ∷ later) h =
    let one = dress_one s n action in
    let rest = dressed s (n + one.made) later in
    entries_append (n + (one.made + rest.made)) one.changes rest.changes
    (entries_more (n + one.made) (n + (one.made + rest.made)) one.changes (omega arith) (one_own n s action h))
    (entries_more (n + one.made + rest.made) (n + (one.made + rest.made)) rest.changes (omega arith)
    (dressed_own (n + one.made) s later (scene_more n (n + one.made) s (omega arith) h)))
