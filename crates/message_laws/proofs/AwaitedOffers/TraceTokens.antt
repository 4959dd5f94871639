-- What is in a longer trace: messages, and texts of the server's own.
use Rattle.std.proofs.Common.{◌≡◌, ◌∙◌, ℕ, ◌≤◌, true, false, List, [], ◌∷◌, ◌++◌, codes, Option, Some, None, refl, sym, ap, subst, inl, inr}
use Rattle.std.specs.Prelude.{IsTrue, unwrap_or}
use Rattle.std.proofs.lemmas.Bool.{false≢true}
use Rattle.std.proofs.lemmas.Option.{none-some, same_Some}
use Rattle.events.specs.declared.event.What.{What}
use Rattle.events.specs.declared.event.What.TheVariants as whats
use Rattle.events.specs.declared.sent.Sent.{Sent}
use Rattle.sip_uri.specs.declared.uri.Addr.{Addr}
use Rattle.sip_message.specs.declared.message.Message.TheVariants as Kinds
use Rattle.sip_message.specs.declared.message.Message.{Message}
use Rattle.sip_message.specs.declared.message.Parts.{Parts}
use Rattle.sip_message.specs.declared.message.Response.{Response}
use Rattle.sip_message.specs.Grammar.{ReadsMessage}
use Rattle.sip_message.specs.Words.{top_branch}
use Rattle.sip_message.specs.Words as words
use Rattle.transactions.specs.declared.change.Entry.{Entry}
use Rattle.transactions.specs.declared.change.Entry.TheVariants.{Opens, Tells, Answers, Leaves}
use Rattle.transactions.specs.declared.transaction.Transaction.{Transaction}
use Rattle.plans.specs.declared.taken.Taken.{Taken}
use Rattle.plans.specs.declared.taken.Taken.TheVariants.{Done, Dropped, Idle, Shed}
use Rattle.call_trace.specs.declared.datagram.Datagram.{Datagram}
use Rattle.call_trace.specs.declared.datagram.Direction.{Direction}
use Rattle.call_trace.specs.declared.datagram.Direction.TheVariants as directions
use Rattle.call_trace.specs.declared.datagram.Kind.{Kind}
use Rattle.call_trace.specs.declared.datagram.Kind.TheVariants as kinds
use Rattle.call_trace.specs.declared.datagram.Message.{Message as TraceMessage}
use Rattle.call_trace.specs.Dialogs.{is_ours_in_from}
use Rattle.call_trace.specs.Events.{passed, sent_at, taken_at}
use Rattle.call_trace.specs.Exchanges.{At}
use Rattle.call_trace.specs.Listed.{AllOf}
use Rattle.call_trace.specs.Messages.{ack, bye, is_method, is_request, is_request_of}
use Rattle.call_trace.proofs.AtLaws.{at_split}
use Rattle.call_trace.proofs.OneEvent.{Part, came, part_of, went}
use Rattle.call_trace.proofs.Words.{ack_is_not_bye, and_left, and_right}
use Rattle.trace_reading.specs.Message.{branch_text, trace_message}
use Rattle.message_laws.specs.Entries.{EnterOwn}
use Rattle.message_laws.specs.Numbers.{begun_of}
use Rattle.message_laws.specs.OpenRequests.{IsAmong}
use Rattle.message_laws.specs.Sending.{WasSent}
use Rattle.message_laws.specs.Tokens.{IsMade, IsMadeBranch, IsOwn, IsOwnRequest}
use Rattle.message_laws.proofs.QuietEvents.Growing.{branch_more, made_more}
use Rattle.message_laws.specs.Kinds.{IsOfKind, acknowledges, again, begins, responds}
use Rattle.message_laws.specs.KnownTrace.{HasBytes, HasTokens}
use Rattle.message_laws.specs.Messages.{AreMessages, IsMessage, IsRequestOf}
use Rattle.message_laws.specs.Traces.{IsTaken}
use Rattle.message_laws.proofs.Traces.Places.{datagram_at, was_place}
use Rattle.message_laws.proofs.Traces.ReadTexts.{WrittenReads, request_of, request_seen, response_seen, same_message, self_message, written_as}
use Rattle.std.specs.List.{All}

-- ---- what was taken

-- of a datagram that was taken up
pub record Took (what : What) (answer : Taken) (m : TraceMessage) : Type 0 where
  pub source : Addr
  pub bytes : List ℕ
  pub what_is : what ≡ whats.Datagram source bytes
  pub answer_is : answer ≡ Done
  pub message : IsMessage bytes m

pub took_of : (what : What) (answer : Taken) (taken : Option TraceMessage) (m : TraceMessage) → IsTaken what answer taken → taken ≡ Some m → Took what answer m
took_of (whats.Datagram source bytes) Done None m h e = absurd (none-some m e)
took_of (whats.Datagram source bytes) Done (Some x) m h e = record { source = source; bytes = bytes; what_is = refl; answer_is = refl; message = subst (IsMessage bytes) (same_Some x m e) h }
took_of (whats.Datagram source bytes) (Dropped why) taken m h e = absurd (none-some m (sym h ∙ e))
took_of (whats.Datagram source bytes) Shed taken m h e = absurd (none-some m (sym h ∙ e))
took_of (whats.Datagram source bytes) Idle taken m h e = absurd (none-some m (sym h ∙ e))
took_of whats.Due answer taken m h e = absurd (none-some m (sym h ∙ e))
took_of (whats.Silent number) answer taken m h e = absurd (none-some m (sym h ∙ e))
took_of (whats.Users users) answer taken m h e = absurd (none-some m (sym h ∙ e))

-- ---- messages

abbrev pub AreReadIn : List Datagram → Type 0
AreReadIn t = (i : ℕ) (p : Datagram) → At t i p → IsMessage p.message.bytes p.message

all_true : (sends : List Sent) → AllOf (λ (d : Sent). Unit {0}) sends
all_true [] = tt
all_true (d ∷ sends) = (tt, all_true sends)

as_message : (p q : Datagram) (m : TraceMessage) → p ≡ q → q.message ≡ m → IsMessage m.bytes m → IsMessage p.message.bytes p.message
as_message p q m is same h = subst (λ (x : TraceMessage). IsMessage x.bytes x) (sym (ap (λ (x : Datagram). x.message) is ∙ same)) h

part_reads : (what : What) (answer : Taken) (sends : List Sent) (n : ℕ) (taken : Option TraceMessage) (ms : List TraceMessage) (k : ℕ) (p : Datagram) → IsTaken what answer taken → AreMessages sends ms → Part n taken ms k p
    → IsMessage p.message.bytes p.message
part_reads what answer sends n taken ms k p took are (came m h place is) = let x = took_of what answer taken m took h in as_message p (taken_at n m) m is refl (self_message x.bytes m x.message)
part_reads what answer sends n taken ms k p took are (went i m h place is) =
    let x = datagram_at (λ (d : Sent). Unit {0}) sends ms i m (all_true sends) are h in as_message p (sent_at n m) m is refl (self_message x.0.bytes m x.2)

pub read_more : (what : What) (answer : Taken) (sends : List Sent) (t : List Datagram) (n : ℕ) (taken : Option TraceMessage) (ms : List TraceMessage) → IsTaken what answer taken → AreMessages sends ms → AreReadIn t → AreReadIn (t ++ passed n taken ms)
read_more what answer sends t n taken ms took are k i p e = elim (at_split t (passed n taken ms) i p e) [
  | inl old ↦ k i p old
  | inr new ↦ part_reads what answer sends n taken ms new.0 p took are (part_of n taken ms new.0 p new.2)
]

-- ---- tokens

tokens_more : (n m : ℕ) (p : Datagram) → n ≤ m → HasTokens n p → HasTokens m p
tokens_more n m p le h = record { branch = λ ours. branch_more n m _ le (h.branch ours); bye_sent = λ sent leaves. made_more n m _ le (h.bye_sent sent leaves) }

-- the same direction and message
tokens_as : (made : ℕ) (p q : Datagram) → p.direction ≡ q.direction → p.message ≡ q.message → HasTokens made p → HasTokens made q
tokens_as made p q way same h = record {
  branch = λ ours. subst (λ (m : TraceMessage). IsMadeBranch made (Some m.branch)) same
      (h.branch (subst (λ (d : Direction). IsTrue (is_ours_in_from d p.message.kind)) (sym way) (subst (λ (m : TraceMessage). IsTrue (is_ours_in_from q.direction m.kind)) (sym same) ours)));
  bye_sent = λ sent leaves. subst (λ (m : TraceMessage). IsMade made m.from_tag) same (h.bye_sent (way ∙ sent) (subst (λ (m : TraceMessage). IsTrue (is_request_of bye m)) (sym same) leaves));
}

own_branch : (made : ℕ) (parts : Parts) (m : TraceMessage) → m.branch ≡ branch_text parts.vias → IsMadeBranch made (top_branch parts.vias) → IsMadeBranch made (Some m.branch)
own_branch made parts m is h = record { salt = h.salt; count = h.count; early = h.early; said = ap Some (is ∙ ap (λ (b : Option (List ℕ)). unwrap_or b []) h.said) }

begun_own : (made : ℕ) (changes : List Entry) (t : Transaction) → EnterOwn made changes → IsAmong (begun_of changes) t → IsOwn made t
begun_own made [] t own h = absurd h
begun_own made (Opens v starts ∷ changes) t own (inl e) = subst (IsOwn made) e own.0
begun_own made (Opens v starts ∷ changes) t own (inr h) = begun_own made changes t own.1 h
begun_own made (Tells id input fresh ∷ changes) t own h = begun_own made changes t own.1 h
begun_own made (Answers id class bytes ∷ changes) t own h = begun_own made changes t own.1 h
begun_own made (Leaves ∷ changes) t own h = begun_own made changes t own.1 h

request_tokens : (made n : ℕ) (m : TraceMessage) (parts : Parts) → IsRequestOf parts m → IsOwnRequest made parts → HasTokens made (sent_at n m)
request_tokens made n m parts h own = record {
  branch = λ ours. own_branch made parts m h.branch own.branch;
  bye_sent = λ sent leaves. record { salt = own.tag.salt; count = own.tag.count; early = own.tag.early; said = h.from_tag ∙ own.tag.said };
}

ack_tokens : (made n : ℕ) (m : TraceMessage) (parts : Parts) → IsRequestOf parts m → words.is_method (codes "ACK") parts ≡ true → IsMadeBranch made (top_branch parts.vias) → HasTokens made (sent_at n m)
ack_tokens made n m parts h is branch = record {
  branch = λ ours. own_branch made parts m h.branch branch;
  bye_sent = λ sent leaves. absurd (ack_is_not_bye m.method (subst (λ (name : List ℕ). IsTrue (is_method ack name)) (sym h.method) is) (and_right (is_request m.kind) (is_method bye m.method) leaves));
}

no_request_ours : (k : Kind) → is_request k ≡ false → IsTrue (is_ours_in_from directions.Sent k) → ⊥
no_request_ours kinds.Request none h = false≢true (sym none)
no_request_ours (kinds.Response status) none h = false≢true h

response_tokens : (made n : ℕ) (m : TraceMessage) → is_request m.kind ≡ false → HasTokens made (sent_at n m)
response_tokens made n m none = record {
  branch = λ ours. absurd (no_request_ours m.kind none ours);
  bye_sent = λ sent leaves. absurd (false≢true (sym none ∙ and_left (is_request m.kind) (is_method bye m.method) leaves));
}

-- what is known of the trace
abbrev pub AreTokens : ℕ → List Datagram → Type 0
AreTokens made t = (i : ℕ) (p : Datagram) → At t i p → HasTokens made p

module _ (law : WrittenReads) (before : List Sent) (t : List Datagram) (reads : AreReadIn t) (was : All (HasBytes t) before) where
  -- what went before is in the trace
  again_tokens : (old made n : ℕ) (d : Sent) (m : TraceMessage) → old ≤ made → AreTokens old t → IsMessage d.bytes m → WasSent before d.bytes → HasTokens made (sent_at n m)
  again_tokens old made n d m le k h sent =
      let w = was_place t before d.bytes was sent in
      let there : IsMessage d.bytes w.1.message = subst (λ (text : List ℕ). IsMessage text w.1.message) w.4 (reads w.0 w.1 w.2) in
      tokens_as made w.1 (sent_at n m) w.3 (same_message d.bytes w.1.message m there h) (tokens_more old made w.1 le (k w.0 w.1 w.2))

  pub kind_tokens : (old made n : ℕ) (changes : List Entry) (d : Sent) (m : TraceMessage) → old ≤ made → AreTokens old t → EnterOwn made changes → IsMessage d.bytes m → IsOfKind before made changes d → HasTokens made (sent_at n m)
  kind_tokens old made n changes d m le k own h (again sent) = again_tokens old made n d m le k h sent
  kind_tokens old made n changes d m le k own h (begins r u opens client parts said written) =
      request_tokens made n m u.parts (request_of m (trace_message d.bytes (Kinds.Request r)) u.parts (written_as law d.bytes m (Kinds.Request r) h said written) (request_seen d.bytes r u.parts parts)) (begun_own made changes u own opens client)
  kind_tokens old made n changes d m le k own h (acknowledges r is branch said written) =
      ack_tokens made n m r.parts (request_of m (trace_message d.bytes (Kinds.Request r)) r.parts (written_as law d.bytes m (Kinds.Request r) h said written) (request_seen d.bytes r r.parts refl)) is branch
  kind_tokens old made n changes d m le k own h (responds r said) = response_tokens made n m (response_seen d.bytes m r h said)

-- what was taken
taken_kind : (bytes : List ℕ) (n made : ℕ) (x : Message) → ReadsMessage bytes x → ((r : Response) → ReadsMessage bytes (Kinds.Response r) → IsMadeBranch made (top_branch r.parts.vias)) → HasTokens made (taken_at n (trace_message bytes x))
unfolding trace_message
taken_kind bytes n made (Kinds.Request r) reads own = record { branch = λ ours. absurd (false≢true ours); bye_sent = λ sent leaves. absurd (cc) }
taken_kind bytes n made (Kinds.Response r) reads own = record { branch = λ ours. own_branch made r.parts (trace_message bytes (Kinds.Response r)) refl (own r reads); bye_sent = λ sent leaves. absurd (cc) }

pub taken_tokens : (bytes : List ℕ) (n made : ℕ) (m : TraceMessage) → IsMessage bytes m → ((r : Response) → ReadsMessage bytes (Kinds.Response r) → IsMadeBranch made (top_branch r.parts.vias)) → HasTokens made (taken_at n m)
taken_tokens bytes n made m h own = subst (λ (x : TraceMessage). HasTokens made (taken_at n x)) (sym h.seen) (taken_kind bytes n made h.message h.reads own)

pub tokens_grow : (old made : ℕ) (t : List Datagram) → old ≤ made → AreTokens old t → AreTokens made t
tokens_grow old made t le k i p e = tokens_more old made p le (k i p e)
