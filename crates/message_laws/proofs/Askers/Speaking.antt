-- What a call says is of the server's own: requests, and responses that read back.
use Rattle.std.proofs.Common.{◌≡◌, ◌∙◌, ℕ, ◌+◌, ◌<◌, ◌≤◌, Bool, true, false, cond, ◌||◌, List, [], ◌∷◌, ◌++◌, codes, Option, Some, None, refl, sym, inl, inr, arith, length}
use Rattle.std.specs.Prelude.{nat_eq}
use Rattle.std.specs.Cmp.Lexicographic.{pointwise}
use Rattle.std.specs.List.{All}
use Rattle.std.specs.Option.{option_copied}
use Rattle.std.proofs.lemmas.Bool.{false≢true}
use Rattle.std.proofs.lemmas.List.Elements.{All-append, All-nil}
use Rattle.events.specs.declared.sent.Sent.{Sent}
use Rattle.sip_uri.specs.declared.uri.Addr.{Addr}
use Rattle.sip_uri.specs.Address.{address_of}
use Rattle.sip_message.specs.declared.message.Message.TheVariants as Kinds
use Rattle.sip_message.specs.declared.message.Parts.{Parts}
use Rattle.sip_message.specs.declared.message.Request.{Request}
use Rattle.sip_message.specs.ContentLength.{max_content_length}
use Rattle.sip_message.specs.Repeatable.{CanBeRepeated}
use Rattle.sip_message.specs.Words.{is_method}
use Rattle.sip_writing.specs.Writing.{message_text}
use Rattle.sdp.specs.declared.description.Description.{Description}
use Rattle.sdp.specs.Writing.{description_text}
use Rattle.dialogs.specs.declared.state.Dialog.{Dialog}
use Rattle.transaction_machines.specs.declared.invite_client.InviteClient.TheVariants as invites
use Rattle.transaction_machines.specs.declared.other_client.OtherClient.TheVariants as others
use Rattle.transaction_machines.specs.declared.state.State.TheVariants as machine
use Rattle.transaction_machines.specs.Machines.{is_server}
use Rattle.transaction_machines.specs.Steps.{t1}
use Rattle.transactions.specs.declared.change.Entry.{Entry}
use Rattle.transactions.specs.declared.change.Entry.TheVariants.{Opens, Tells, Answers, Leaves}
use Rattle.transactions.specs.declared.transaction.Transaction.{Transaction}
use Rattle.transactions.specs.SameBranch.{cancel_of}
use Rattle.transactions.specs.Transactions.{asking, asking_timers}
use Rattle.call_core.specs.declared.action.Action.{Action}
use Rattle.call_core.specs.declared.action.Action.TheVariants.{Trying, Offer, Provisional, Ack, Answer, AnswerAgain, Refusal, Okay, Cancel, Bye, PutRows, Release, RemoveRows, Set, Stop, Abandon}
use Rattle.call_messages.specs.declared.scene.Asker.{Asker}
use Rattle.call_messages.specs.declared.scene.Scene.{Scene}
use Rattle.call_messages.specs.Dressed.{Dressed, asks, asks_at, responds_through}
use Rattle.call_messages.specs.Dressing.{asks_if, branch, dialog_with, dress_one, dressed, method_of, says_ack, says_again, says_answer, says_bye, says_cancel, says_offer, says_okay, says_provisional, says_refusal, says_trying}
use Rattle.call_messages.specs.Messages.{ack, bye, contact, description_headers, offer, okay_headers}
use Rattle.message_laws.specs.Addresses.{IsReached, IsSource}
use Rattle.message_laws.specs.Askers.{IsAsked}
use Rattle.message_laws.specs.Datagrams.{IsOwnDatagram, IsReadResponse}
use Rattle.message_laws.proofs.TokenUse.Further.{FollowsIn, contact_follows, description_follows, none_follows, other_needs_none, refusal_needs_none}
use Rattle.message_laws.proofs.Messages.ReadParts.{IsTokenRun}
use Rattle.message_laws.proofs.Messages.Repeats.{body_read, one_own, responds_read}

-- ---- changes of the transactions: those of others' requests that begin can be answered

abbrev pub EntersAsked : Entry → Type 0
EntersAsked (Opens t starts) = IsAsked t
EntersAsked (Tells id input fresh) = Unit {0}
EntersAsked (Answers id class bytes) = Unit {0}
EntersAsked Leaves = Unit {0}

abbrev pub EnterAsked : List Entry → Type 0
EnterAsked [] = Unit {0}
EnterAsked (change ∷ changes) = EntersAsked change × EnterAsked changes

pub asked_joined : (xs ys : List Entry) → EnterAsked xs → EnterAsked ys → EnterAsked (xs ++ ys)
asked_joined [] ys h k = k
asked_joined (x ∷ xs) ys h k = (h.0, asked_joined xs ys h.1 k)

-- the 200 that is sent again
abbrev pub AgainIsOwn : Option Sent → Type 0
AgainIsOwn None = Unit {0}
AgainIsOwn (Some sent) = IsOwnDatagram sent

-- ---- dressed messages

pub record SaysOwn (d : Dressed) : Type 0 where
  pub sends : All IsOwnDatagram d.sends
  pub entries : EnterAsked d.changes

pub silent : {made : ℕ} → SaysOwn (record { changes = []; sends = []; made = made })
silent = record { sends = All-nil IsOwnDatagram; entries = tt }

client_by : (b : Bool) → is_server (cond b (machine.InviteClient (invites.Calling t1 false)) (machine.OtherClient (others.Trying t1))) ≡ false
client_by true = refl
client_by false = refl

asking_client : (r : Request) (to : Addr) (bytes : List ℕ) → is_server (asking r to bytes).state ≡ false
asking_client r to bytes = client_by (is_method (codes "INVITE") r.parts)

starts_asked : (r : Request) (to : Addr) (b : Bool) → EntersAsked (cond b Leaves (Opens (asking r to (message_text (Kinds.Request r))) (asking_timers r.parts)))
starts_asked r to true = tt
starts_asked r to false = λ server. absurd (false≢true (sym (asking_client r to (message_text (Kinds.Request r))) ∙ server))

asks_at_own : (to : Option Addr) (r : Request) (made : ℕ) → SaysOwn (asks_at to r made)
asks_at_own None r made = silent
asks_at_own (Some to) r made = record {
  sends = one_own _ (inr (inr (record { request = r; said = refl })));
  entries = (starts_asked r to (is_method (codes "ACK") r.parts), tt);
}

asks_own : (r : Request) (made : ℕ) → SaysOwn (asks r made)
asks_own r made = asks_at_own (address_of r.uri) r made

asks_if_own : (r : Option Request) (made : ℕ) → SaysOwn (asks_if r made)
asks_if_own None made = silent
asks_if_own (Some r) made = asks_own r made

offer_own : (s : Scene) (n : ℕ) (d : Option Dialog) (method : _) (description : Option Description) → SaysOwn (says_offer s n d method description)
offer_own s n None method description = silent
offer_own s n (Some d) method None = silent
offer_own s n (Some d) method (Some description) = asks_if_own (offer s.server d (method_of method) s.hops description (branch s n)) 1

ack_own : (s : Scene) (n : ℕ) (d : Option Dialog) → SaysOwn (says_ack s n d)
ack_own s n None = silent
ack_own s n (Some d) = asks_own (ack s.server d (branch s n)) 1

bye_own : (s : Scene) (n : ℕ) (d : Option Dialog) → SaysOwn (says_bye s n d)
bye_own s n None = silent
bye_own s n (Some d) = asks_if_own (bye s.server d (branch s n)) 1

cancel_own : (t : Option Transaction) → SaysOwn (says_cancel t)
cancel_own None = silent
cancel_own (Some t) = asks_if_own (cancel_of t) 0

-- ---- responses

-- a request that a response can be said to
pub record CanSay (parts : Parts) (source : Addr) (tag : List ℕ) : Type 0 where
  pub repeats : CanBeRepeated parts
  pub from : IsSource source
  pub token : IsTokenRun tag

abbrev pub CanSayTo : Asker → Type 0
CanSayTo a = CanSay a.parts.now a.source a.tag.now

abbrev pub CanSayIf : Option Asker → Type 0
CanSayIf None = Unit {0}
CanSayIf (Some a) = CanSayTo a

-- one that gets a 200 without a description is not an INVITE
abbrev pub CanOkay : Option Asker → Type 0
CanOkay None = Unit {0}
CanOkay (Some a) = CanSayTo a × (pointwise nat_eq a.parts.now.cseq.method (codes "INVITE") ≡ false)

says_one : (a : Asker) (r : _) → IsReadResponse (message_text (Kinds.Response r)) → SaysOwn (responds_through a r)
says_one a r h = record { sends = one_own _ (inl h); entries = (tt, tt) }

trying_own : (a : Option Asker) → CanSayIf a → SaysOwn (says_trying a)
trying_own None h = silent
trying_own (Some a) h =
    says_one a _ (responds_read a.parts.now a.source 100 a.tag.now [] h.from h.repeats h.token (record { low = omega arith; high = omega arith }) (none_follows 100 a.parts.now.cseq.method tt))

-- a provisional status
abbrev pub IsEarly : ℕ → Type 0
IsEarly status = (100 ≤ status) × (status < 200)

provisional_own : (server : Addr) (a : Option Asker) (status : ℕ) → IsReached server → IsEarly status → CanSayIf a → SaysOwn (says_provisional server a status)
provisional_own server None status reached is h = silent
provisional_own server (Some a) status reached is h =
    says_one a _ (responds_read a.parts.now a.source status a.tag.now (contact server ∷ []) h.from h.repeats h.token (record { low = is.0; high = omega (arith, is.1) }) (contact_follows server status a.parts.now.cseq.method reached))

-- no longer than Content-Length can say
abbrev pub IsShortIf : Option Description → Type 0
IsShortIf None = Unit {0}
IsShortIf (Some description) = length (description_text description) ≤ max_content_length

answer_own : (server : Addr) (a : Option Asker) (description : Option Description) → IsReached server → CanSayIf a → IsShortIf description → SaysOwn (says_answer server a description)
answer_own server None description reached h short = silent
answer_own server (Some a) None reached h short = silent
answer_own server (Some a) (Some description) reached h short =
    says_one a _ (body_read a.parts.now a.source 200 a.tag.now (description_headers server) (description_text description) h.from h.repeats h.token (record { low = omega arith; high = omega arith })
    (description_follows server 200 a.parts.now.cseq.method reached) short)

-- a refusal
abbrev pub IsRefused : ℕ → Type 0
IsRefused status = (300 ≤ status) × (status ≤ 699)

refusal_own : (a : Option Asker) (status : ℕ) → IsRefused status → CanSayIf a → SaysOwn (says_refusal a status)
refusal_own None status is h = silent
refusal_own (Some a) status is h =
    says_one a _ (responds_read a.parts.now a.source status a.tag.now [] h.from h.repeats h.token (record { low = omega (arith, is.0); high = is.1 })
    (none_follows status a.parts.now.cseq.method (refusal_needs_none status a.parts.now.cseq.method is.0)))

okay_follows_by : (server : Addr) (method : List ℕ) (b : Bool) → IsReached server → pointwise nat_eq method (codes "INVITE") ≡ false → pointwise nat_eq method (codes "UPDATE") ≡ b
    → FollowsIn 200 method (cond b (contact server ∷ []) [])
okay_follows_by server method true reached invite update = contact_follows server 200 method reached
okay_follows_by server method false reached invite update = none_follows 200 method (other_needs_none 200 method invite update)

okay_own : (server : Addr) (a : Option Asker) → IsReached server → CanOkay a → SaysOwn (says_okay server a)
okay_own server None reached h = silent
okay_own server (Some a) reached h =
    let method = a.parts.now.cseq.method in
    says_one a _ (responds_read a.parts.now a.source 200 a.tag.now (okay_headers server a) h.0.from h.0.repeats h.0.token (record { low = omega arith; high = omega arith })
    (okay_follows_by server method (pointwise nat_eq method (codes "UPDATE")) reached h.1 refl))

again_own : (sent : Option Sent) → AgainIsOwn sent → SaysOwn (says_again sent)
again_own None h = silent
again_own (Some sent) h = record { sends = one_own sent h; entries = tt }

-- ---- actions

-- the statuses of responses that are passed on
abbrev pub FitsAction : Action → Type 0
FitsAction (Provisional end status) = IsEarly status
FitsAction (Refusal end status) = IsRefused status
FitsAction action = Unit {0}

abbrev pub FitActions : List Action → Type 0
FitActions [] = Unit {0}
FitActions (action ∷ later) = FitsAction action × FitActions later

-- it is a response to the offer
abbrev pub answers_offer : Action → Bool
answers_offer (Trying end) = true
answers_offer (Provisional end status) = true
answers_offer (Answer end) = true
answers_offer (Refusal end status) = true
answers_offer action = false

abbrev pub answer_offer : List Action → Bool
answer_offer [] = false
answer_offer (action ∷ later) = answers_offer action || answer_offer later

-- what they are dressed with; the offer where they answer it
pub record IsOwnScene (s : Scene) (answers : Bool) : Type 0 where
  pub server : IsReached s.server
  pub offer : answers ≡ true → CanSayIf s.offer
  pub request : CanOkay s.request
  pub again : AgainIsOwn (option_copied s.again)
  pub short : IsShortIf (option_copied s.description)

one_speaks : (s : Scene) (n : ℕ) (action : Action) → IsOwnScene s (answers_offer action) → FitsAction action → SaysOwn (dress_one s n action)
unfolding dress_one
one_speaks s n (Trying end) h f = trying_own s.offer (h.offer refl)
one_speaks s n (Offer end method) h f = offer_own s n (dialog_with end s) method (option_copied s.description)
one_speaks s n (Provisional end status) h f = provisional_own s.server s.offer status h.server f (h.offer refl)
one_speaks s n (Ack end) h f = ack_own s n (dialog_with end s)
one_speaks s n (Answer end) h f = answer_own s.server s.offer (option_copied s.description) h.server (h.offer refl) h.short
one_speaks s n (AnswerAgain end) h f = again_own (option_copied s.again) h.again
one_speaks s n (Refusal end status) h f = refusal_own s.offer status f (h.offer refl)
one_speaks s n (Okay end) h f = okay_own s.server s.request h.server h.request
one_speaks s n (Cancel end) h f = cancel_own (option_copied s.passed)
one_speaks s n (Bye end) h f = bye_own s n (dialog_with end s)
one_speaks s n PutRows h f = silent
one_speaks s n Release h f = silent
one_speaks s n RemoveRows h f = silent
one_speaks s n (Set timer after) h f = silent
one_speaks s n (Stop timer) h f = silent
one_speaks s n (Abandon end) h f = silent

either_first : (a b : Bool) → a ≡ true → (a || b) ≡ true
either_first true b e = refl
either_first false b e = absurd (false≢true e)

either_later : (a b : Bool) → b ≡ true → (a || b) ≡ true
either_later true b e = refl
either_later false b e = e

less_answers : (s : Scene) (a b : Bool) → (b ≡ true → a ≡ true) → IsOwnScene s a → IsOwnScene s b
less_answers s a b more h = record { server = h.server; offer = λ e. h.offer (more e); request = h.request; again = h.again; short = h.short }

pub all_speak : (s : Scene) (n : ℕ) (actions : List Action) → IsOwnScene s (answer_offer actions) → FitActions actions → SaysOwn (dressed s n actions)
all_speak s n [] h f = silent
all_speak s n (action ∷ later) h f =
    let one = dress_one s n action in
    let first = one_speaks s n action (less_answers s _ _ (either_first (answers_offer action) (answer_offer later)) h) f.0 in
    let rest = all_speak s (n + one.made) later (less_answers s _ _ (either_later (answers_offer action) (answer_offer later)) h) f.1 in
    record {
      sends = All-append IsOwnDatagram one.sends (dressed s (n + one.made) later).sends first.sends rest.sends;
      entries = asked_joined one.changes (dressed s (n + one.made) later).changes first.entries rest.entries;
    }
