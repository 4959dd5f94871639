-- What the actions of a call say: requests that can be written and read again, what went before, and responses.
use Rattle.std.proofs.Common.{◌≡◌, ◌∙◌, ℕ, Bool, true, false, cond, List, [], ◌∷◌, ◌++◌, codes, Option, Some, None, refl, sym, subst, inl, inr}
use Rattle.std.specs.Prelude.{◌⊎◌}
use Rattle.std.proofs.lemmas.Bool.{false≢true}
use Rattle.std.proofs.lemmas.Option.{same_Some}
use Rattle.events.specs.declared.sent.Sent.{Sent}
use Rattle.sip_uri.specs.declared.uri.Addr.{Addr}
use Rattle.sip_uri.specs.Address.{address_of}
use Rattle.sip_message.specs.declared.message.Message.TheVariants as Kinds
use Rattle.sip_message.specs.declared.message.Request.{Request}
use Rattle.sip_message.specs.Words.{is_method, top_branch}
use Rattle.sip_writing.specs.Writing.{message_text}
use Rattle.sip_writing.specs.WritingMessage.{IsWrittenMessage}
use Rattle.transaction_machines.specs.declared.input.Input.{Input}
use Rattle.transaction_machines.specs.declared.input.Input.TheVariants as inputs
use Rattle.transaction_machines.specs.declared.invite_client.InviteClient.TheVariants as invites
use Rattle.transaction_machines.specs.declared.other_client.OtherClient.TheVariants as others
use Rattle.transaction_machines.specs.declared.state.State.TheVariants as machine
use Rattle.transaction_machines.specs.Machines.{is_server}
use Rattle.transaction_machines.specs.Steps.{t1}
use Rattle.sip_message.specs.declared.words.Class.TheVariants.{Provisional as Early, Success, Failure}
use Rattle.transactions.specs.declared.change.Entry.{Entry}
use Rattle.transactions.specs.declared.change.Entry.TheVariants.{Opens, Tells, Answers, Leaves}
use Rattle.transactions.specs.declared.transaction.Transaction.{Transaction}
use Rattle.transactions.specs.Transactions.{asking, asking_timers}
use Rattle.call_messages.specs.Dressed.{Dressed, asks, asks_at, behind}
use Rattle.call_messages.specs.Dressing.{asks_if, branch}
use Rattle.call_trace.specs.Listed.{AllOf}
use Rattle.call_trace.proofs.Members.{all_append, all_weaker}
use Rattle.message_laws.specs.Numbers.{begun_of}
use Rattle.message_laws.specs.OpenRequests.{IsAmong}
use Rattle.message_laws.specs.Sending.{WasSent}
use Rattle.message_laws.specs.Tokens.{IsMadeBranch}
use Rattle.message_laws.specs.Waiting.{waits}
use Rattle.message_laws.proofs.Messages.KeptSends.{sent_left, sent_right}
use Rattle.message_laws.specs.Kinds.{AreBegun, IsBegun, IsOfKind, acknowledges, again, begins, responds}
use Rattle.message_laws.specs.Datagrams.{IsRequestText}
use Rattle.message_laws.specs.KnownTrace.{IsResponseText, KeepsOwnKind}

-- ---- changes of the transactions: what they keep to send again, and that they report no final response

abbrev pub is_of_response : Input → Bool
is_of_response (inputs.Response class) = true
is_of_response input = false

abbrev pub is_final_input : Input → Bool
is_final_input (inputs.Response Early) = false
is_final_input (inputs.Response Success) = true
is_final_input (inputs.Response Failure) = true
is_final_input input = false

-- what a client transaction is given to keep
abbrev pub KeepsFresh : Input → Option (List ℕ) → Type 0
KeepsFresh input None = Unit {0}
KeepsFresh input (Some bytes) = (is_of_response input ≡ true) × IsRequestText bytes

abbrev pub EntryKeeps : Entry → Type 0
EntryKeeps (Opens t starts) = KeepsOwnKind t
EntryKeeps (Tells id input fresh) = KeepsFresh input fresh
EntryKeeps (Answers id class bytes) = IsResponseText bytes
EntryKeeps Leaves = Unit {0}

abbrev pub EntryIsCalm : Entry → Type 0
EntryIsCalm (Opens t starts) = Unit {0}
EntryIsCalm (Tells id input fresh) = is_final_input input ≡ false
EntryIsCalm (Answers id class bytes) = Unit {0}
EntryIsCalm Leaves = Unit {0}

-- ---- what is dressed

pub record Says (before : List Sent) (made : ℕ) (d : Dressed) : Type 0 where
  pub sends : AllOf (IsOfKind before made d.changes) d.sends
  pub begun : AreBegun d.changes d.sends
  pub keeps : AllOf EntryKeeps d.changes
  pub calm : AllOf EntryIsCalm d.changes

pub silent : {before : List Sent} {made n : ℕ} → Says before made (record { changes = []; sends = []; made = n })
silent = record { sends = tt; begun = λ t opens client. absurd opens; keeps = tt; calm = tt }

-- ---- changes one after another

pub begun_first : (xs ys : List Entry) (t : Transaction) → IsAmong (begun_of xs) t → IsAmong (begun_of (xs ++ ys)) t
begun_first [] ys t h = absurd h
begun_first (Opens v starts ∷ xs) ys t (inl e) = inl e
begun_first (Opens v starts ∷ xs) ys t (inr h) = inr (begun_first xs ys t h)
begun_first (Tells id input fresh ∷ xs) ys t h = begun_first xs ys t h
begun_first (Answers id class bytes ∷ xs) ys t h = begun_first xs ys t h
begun_first (Leaves ∷ xs) ys t h = begun_first xs ys t h

pub begun_behind : (xs ys : List Entry) (t : Transaction) → IsAmong (begun_of ys) t → IsAmong (begun_of (xs ++ ys)) t
begun_behind [] ys t h = h
begun_behind (Opens v starts ∷ xs) ys t h = inr (begun_behind xs ys t h)
begun_behind (Tells id input fresh ∷ xs) ys t h = begun_behind xs ys t h
begun_behind (Answers id class bytes ∷ xs) ys t h = begun_behind xs ys t h
begun_behind (Leaves ∷ xs) ys t h = begun_behind xs ys t h

pub begun_split : (xs ys : List Entry) (t : Transaction) → IsAmong (begun_of (xs ++ ys)) t → IsAmong (begun_of xs) t ⊎ IsAmong (begun_of ys) t
begun_split [] ys t h = inr h
begun_split (Opens v starts ∷ xs) ys t (inl e) = inl (inl e)
begun_split (Opens v starts ∷ xs) ys t (inr h) = elim (begun_split xs ys t h) [ inl k ↦ inl (inr k) | inr k ↦ inr k ]
begun_split (Tells id input fresh ∷ xs) ys t h = begun_split xs ys t h
begun_split (Answers id class bytes ∷ xs) ys t h = begun_split xs ys t h
begun_split (Leaves ∷ xs) ys t h = begun_split xs ys t h

pub kind_among : (before : List Sent) (made : ℕ) (xs ys : List Entry) (d : Sent) → ((t : Transaction) → IsAmong (begun_of xs) t → IsAmong (begun_of ys) t) → IsOfKind before made xs d → IsOfKind before made ys d
kind_among before made xs ys d more (again h) = again h
kind_among before made xs ys d more (begins r t opens client parts said written) = begins r t (more t opens) client parts said written
kind_among before made xs ys d more (acknowledges r is branch said written) = acknowledges r is branch said written
kind_among before made xs ys d more (responds r said) = responds r said

pub begun_within : (xs ys : List Sent) (t : Transaction) → ((bytes : List ℕ) → WasSent xs bytes → WasSent ys bytes) → IsBegun xs t → IsBegun ys t
begun_within xs ys t within h = record { request = h.request; last = h.last; parts = h.parts; waits = h.waits; written = h.written; sent = within _ h.sent }

pub joined_begun : (xs ys : List Entry) (sends later : List Sent) → AreBegun xs sends → AreBegun ys later → AreBegun (xs ++ ys) (sends ++ later)
joined_begun xs ys sends later h k t opens client = elim (begun_split xs ys t opens) [
  | inl a ↦ begun_within sends (sends ++ later) t (sent_left sends later) (h t a client)
  | inr a ↦ begun_within later (sends ++ later) t (sent_right sends later) (k t a client)
]

pub says_behind : (before : List Sent) (made : ℕ) (one rest : Dressed) → Says before made one → Says before made rest → Says before made (behind one rest)
says_behind before made one rest h k = record {
  sends = all_append (IsOfKind before made (one.changes ++ rest.changes)) one.sends rest.sends
      (all_weaker (IsOfKind before made one.changes) (IsOfKind before made (one.changes ++ rest.changes)) (λ d. kind_among before made one.changes (one.changes ++ rest.changes) d (begun_first one.changes rest.changes)) one.sends h.sends)
      (all_weaker (IsOfKind before made rest.changes) (IsOfKind before made (one.changes ++ rest.changes)) (λ d. kind_among before made rest.changes (one.changes ++ rest.changes) d (begun_behind one.changes rest.changes)) rest.sends k.sends);
  begun = joined_begun one.changes rest.changes one.sends rest.sends h.begun k.begun;
  keeps = all_append EntryKeeps one.changes rest.changes h.keeps k.keeps;
  calm = all_append EntryIsCalm one.changes rest.changes h.calm k.calm;
}

-- ---- a request

client_by : (b : Bool) → is_server (cond b (machine.InviteClient (invites.Calling t1 false)) (machine.OtherClient (others.Trying t1))) ≡ false
client_by true = refl
client_by false = refl

pub asking_client : (r : Request) (to : Addr) (bytes : List ℕ) → is_server (asking r to bytes).state ≡ false
asking_client r to bytes = client_by (is_method (codes "INVITE") r.parts)

waits_by : (b : Bool) → waits (cond b (machine.InviteClient (invites.Calling t1 false)) (machine.OtherClient (others.Trying t1))) ≡ true
waits_by true = refl
waits_by false = refl

asking_waits : (r : Request) (to : Addr) (bytes : List ℕ) → waits (asking r to bytes).state ≡ true
asking_waits r to bytes = waits_by (is_method (codes "INVITE") r.parts)

asking_keeps : (r : Request) (to : Addr) → KeepsOwnKind (asking r to (message_text (Kinds.Request r)))
asking_keeps r to = record {
  server = λ bytes server last. absurd (false≢true (sym (asking_client r to (message_text (Kinds.Request r))) ∙ server));
  client = λ bytes client last. record { request = r; said = sym (same_Some (message_text (Kinds.Request r)) bytes last) };
}

asking_begun : (r : Request) (to : Addr) (more : List Sent) → IsWrittenMessage (Kinds.Request r) → IsBegun (record { to = to; bytes = message_text (Kinds.Request r) } ∷ more) (asking r to (message_text (Kinds.Request r)))
asking_begun r to more written = record { request = r; last = refl; parts = refl; waits = asking_waits r to (message_text (Kinds.Request r)); written = written; sent = inl refl }

asks_by : (before : List Sent) (made n : ℕ) (r : Request) (to : Addr) (b : Bool) → is_method (codes "ACK") r.parts ≡ b → IsWrittenMessage (Kinds.Request r) → (b ≡ true → IsMadeBranch made (top_branch r.parts.vias))
    → Says before made (record { changes = cond b Leaves (Opens (asking r to (message_text (Kinds.Request r))) (asking_timers r.parts)) ∷ []; sends = record { to = to; bytes = message_text (Kinds.Request r) } ∷ []; made = n })
asks_by before made n r to true is written branch = record {
  sends = (acknowledges r is (branch refl) refl written, tt);
  begun = λ t opens client. absurd opens;
  keeps = (tt, tt);
  calm = (tt, tt);
}
asks_by before made n r to false is written branch = record {
  sends = (begins r (asking r to (message_text (Kinds.Request r))) (inl refl) (asking_client r to (message_text (Kinds.Request r))) refl refl written, tt);
  begun = λ t opens client. elim opens [
    | inl e ↦ subst (IsBegun (record { to = to; bytes = message_text (Kinds.Request r) } ∷ [])) e (asking_begun r to [] written)
    | inr none ↦ absurd none
  ];
  keeps = (asking_keeps r to, tt);
  calm = (tt, tt);
}

pub asks_at_says : (before : List Sent) (made n : ℕ) (to : Option Addr) (r : Request) → IsWrittenMessage (Kinds.Request r) → (is_method (codes "ACK") r.parts ≡ true → IsMadeBranch made (top_branch r.parts.vias)) → Says before made (asks_at to r n)
asks_at_says before made n None r written branch = silent
asks_at_says before made n (Some to) r written branch = asks_by before made n r to (is_method (codes "ACK") r.parts) refl written branch

pub asks_says : (before : List Sent) (made n : ℕ) (r : Request) → IsWrittenMessage (Kinds.Request r) → (is_method (codes "ACK") r.parts ≡ true → IsMadeBranch made (top_branch r.parts.vias)) → Says before made (asks r n)
asks_says before made n r written branch = asks_at_says before made n (address_of r.uri) r written branch

pub asks_if_says : (before : List Sent) (made n : ℕ) (r : Option Request)
    → ((q : Request) → r ≡ Some q → IsWrittenMessage (Kinds.Request q) × (is_method (codes "ACK") q.parts ≡ false)) → Says before made (asks_if r n)
asks_if_says before made n None h = silent
asks_if_says before made n (Some r) h = asks_says before made n r (h r refl).0 (λ is. absurd (false≢true (sym (h r refl).1 ∙ is)))
