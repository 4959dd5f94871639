-- What an event results in: the kinds of what is sent, and what begins and is kept.
use Rattle.std.proofs.Common.{◌≡◌, ◌∙◌, ℕ, ◌+◌, ◌<◌, ◌≤◌, ◌^◌, ◌==◌, Bool, true, false, cond, List, [], ◌∷◌, ◌++◌, find, Option, Some, Ok, refl, sym, ap, subst, inl, inr, arith}
use Rattle.std.specs.List.{All}
use Rattle.std.proofs.lemmas.List.Elements.{All-head, All-tail}
use Rattle.events.specs.declared.event.What.{What}
use Rattle.events.specs.declared.event.What.TheVariants as whats
use Rattle.events.specs.declared.sent.Sent.{Sent}
use Rattle.sip_uri.specs.declared.uri.Addr.{Addr}
use Rattle.sip_message.specs.Read.{message_of}
use Rattle.sip_message.specs.declared.message.Message.{Message}
use Rattle.sip_message.specs.declared.message.Message.TheVariants as Kinds
use Rattle.sip_message.specs.declared.message.Response.{Response}
use Rattle.transaction_machines.specs.Machines.{is_server}
use Rattle.transactions.specs.Changes.{answer_of, fire_of}
use Rattle.transactions.specs.Contents.{response_input}
use Rattle.transactions.specs.Slots.{at, is_answered}
use Rattle.transactions.specs.declared.change.Entry.{Entry}
use Rattle.transactions.specs.declared.change.Entry.TheVariants.{Tells}
use Rattle.transactions.specs.declared.outcome.Outgoing.{Outgoing}
use Rattle.transactions.specs.declared.transaction.TimerId.{TimerId}
use Rattle.transactions.specs.declared.transaction.Transaction.{Transaction}
use Rattle.calls.specs.declared.timer_id.CallTimerId.{CallTimerId}
use Rattle.call_steps.specs.Effects as steps
use Rattle.plans.specs.CallRows.{again as ack_again, occasion, without_call_timer}
use Rattle.plans.specs.Effect.{Effect}
use Rattle.plans.specs.Office.{Office}
use Rattle.plans.specs.Plan.{Plan, goes, sent_response}
use Rattle.plans.specs.declared.acks.KeptAck.{KeptAck}
use Rattle.plans.specs.declared.setting.Setting.{Setting}
use Rattle.plans.specs.declared.taken.Taken.{Taken}
use Rattle.plans.specs.declared.taken.Taken.TheVariants.{Done}
use Rattle.call_trace.specs.Listed.{AllOf}
use Rattle.call_trace.proofs.Members.{all_append, all_weaker}
use Rattle.message_laws.specs.Addresses.{IsReached}
use Rattle.message_laws.specs.Bodies.{KnowsDescriptions}
use Rattle.message_laws.specs.Knowing.{KnowsTokens}
use Rattle.message_laws.specs.Numbers.{begun_of}
use Rattle.message_laws.specs.OpenRequests.{IsAmong}
use Rattle.message_laws.specs.Sending.{AckWasSent, KnowsSent}
use Rattle.message_laws.specs.Sound.{KnowsDialogs}
use Rattle.message_laws.proofs.QuietEvents.Growing.{branch_more}
use Rattle.message_laws.proofs.Messages.Replying.{IsReply}
use Rattle.message_laws.proofs.Messages.KeptSends.{sent_right}
use Rattle.message_laws.specs.Kinds.{AreBegun, IsOfKind, acknowledges, again, begins, responds}
use Rattle.message_laws.specs.SoundClients.{KnowsClients}
use Rattle.message_laws.proofs.Traces.Legs.{clients_read}
use Rattle.message_laws.proofs.Traces.Receptions.{GoesWell, IsTold, answers, calm}
use Rattle.message_laws.proofs.Traces.Saying.{EntryIsCalm, EntryKeeps, Says, begun_behind, begun_split, begun_within}
use Rattle.message_laws.proofs.Traces.StepSays.{IsGround}

-- ---- what is known where an event comes

pub record IsReady (before : List Sent) (s : Office) : Type 0 where
  pub tokens : KnowsTokens s
  pub dialogs : KnowsDialogs s
  pub values : KnowsClients s
  pub was : KnowsSent s before
  pub media : KnowsDescriptions s
  pub server : IsReached s.server
  pub few : s.tokens < 2 ^ 63

-- at any event
pub record IsKnown (before : List Sent) (s : Office) : Type 0 where
  pub tokens : KnowsTokens s
  pub dialogs : KnowsDialogs s
  pub values : KnowsClients s
  pub was : KnowsSent s before
  pub media : KnowsDescriptions s
  pub server : IsReached s.server

pub is_ready : (before : List Sent) (s : Office) → IsKnown before s → s.tokens < 2 ^ 63 → IsReady before s
is_ready before s k few = record { tokens = k.tokens; dialogs = k.dialogs; values = k.values; was = k.was; media = k.media; server = k.server; few = few }

pub ground : (before : List Sent) (s : Office) → IsReady before s → (e : Setting) → IsGround before s.calls s.table (occasion s e)
ground before s k e = record {
  server = k.server;
  read = clients_read s k.values;
  sound = k.dialogs.calls;
  low = k.values.calls;
  again = k.was.calls;
  address = k.media.address;
  media = k.media.calls;
}

-- the same calls, a timer of which is no longer set
pub stopped_ready : (before : List Sent) (s : Office) → IsReady before s → (timer : CallTimerId) → IsReady before (without_call_timer timer s)
stopped_ready before s k timer = record {
  tokens = record { slots = k.tokens.slots; calls = k.tokens.calls };
  dialogs = record { server = k.dialogs.server; bindings = k.dialogs.bindings; requests = k.dialogs.requests; calls = k.dialogs.calls };
  values = record { server = k.values.server; slots = k.values.slots; calls = k.values.calls };
  was = record { slots = k.was.slots; acks = k.was.acks; calls = k.was.calls };
  media = record { address = k.media.address; calls = record { pairs = k.media.calls.pairs; calls = k.media.calls.calls } };
  server = k.server;
  few = k.few;
}

-- ---- what it results in

-- where this many tokens were made before it
pub record SaysPlan (before : List Sent) (tokens : ℕ) (changes : List Entry) (sends : List Sent) (made : ℕ) : Type 0 where
  pub kinds : AllOf (IsOfKind before (tokens + made) changes) sends
  pub begun : AreBegun changes sends
  pub keeps : AllOf EntryKeeps changes

-- changes that report no final response; or a response to a transaction's request came, and they report it first
pub data Tidings (slots : List (Option Transaction)) (what : What) (taken : Taken) (changes : List Entry) : Type 0 where
  none : AllOf EntryIsCalm changes → Tidings slots what taken changes
  response : (source : Addr) (bytes : List ℕ) (r : Response) (id : ℕ) (t : Transaction) (fresh : Option (List ℕ)) (rest : List Entry) → what ≡ whats.Datagram source bytes → message_of bytes ≡ Ok (Kinds.Response r)
      → at slots id ≡ Some t → is_answered r.parts (Some t) ≡ true → taken ≡ Done → changes ≡ Tells id (response_input r) fresh ∷ rest → AllOf EntryIsCalm rest → Tidings slots what taken changes

pub record SaysEffect (before : List Sent) (s : Office) (what : What) (x : Effect) : Type 0 where
  pub says : SaysPlan before s.tokens x.plan.changes x.plan.sends x.plan.made
  pub told : Tidings s.table.slots what x.plan.taken x.plan.changes

pub told_response : (s : Office) (source : Addr) (bytes : List ℕ) (m : Message) (changes : List Entry) → message_of bytes ≡ Ok m → IsTold s m changes → Tidings s.table.slots (whats.Datagram source bytes) Done changes
told_response s source bytes m changes read (calm h) = none h
told_response s source bytes m changes read (answers r id t fresh rest is there h whole later) =
    response source bytes r id t fresh rest refl (read ∙ ap (λ (x : Message). Ok x) is) there h refl whole later

-- ---- kinds, where more tokens were made and more begins

kind_more : (before : List Sent) (n m : ℕ) (xs ys : List Entry) (d : Sent) → n ≤ m → ((t : Transaction) → IsAmong (begun_of xs) t → IsAmong (begun_of ys) t) → IsOfKind before n xs d → IsOfKind before m ys d
kind_more before n m xs ys d le more (again h) = again h
kind_more before n m xs ys d le more (begins r t opens client parts said written) = begins r t (more t opens) client parts said written
kind_more before n m xs ys d le more (acknowledges r is branch said written) = acknowledges r is (branch_more n m _ le branch) said written
kind_more before n m xs ys d le more (responds r said) = responds r said

pub goes_more : (before : List Sent) (n m : ℕ) (ys : List Entry) (send : Option Outgoing) → n ≤ m → GoesWell before n send → AllOf (IsOfKind before m ys) (goes send)
goes_more before n m ys send le h = all_weaker (IsOfKind before n []) (IsOfKind before m ys) (λ d. kind_more before n m [] ys d le (λ t none. absurd none)) (goes send) h

-- ---- plans

-- none of the server's own begins
abbrev pub BeginsNone : List Entry → Type 0
BeginsNone changes = (t : Transaction) → IsAmong (begun_of changes) t → is_server t.state ≡ false → ⊥

pub says_nothing : (before : List Sent) (tokens : ℕ) → SaysPlan before tokens [] [] 0
says_nothing before tokens = record { kinds = tt; begun = λ t opens client. absurd opens; keeps = tt }

pub says_moves : (before : List Sent) (tokens : ℕ) (begun : List Entry) (send : Option Outgoing) → GoesWell before tokens send → BeginsNone begun → AllOf EntryKeeps begun → SaysPlan before tokens begun (goes send) 0
says_moves before tokens begun send well new keeps = record {
  kinds = goes_more before tokens (tokens + 0) begun send (omega arith) well;
  begun = λ t opens client. absurd (new t opens client);
  keeps = keeps;
}

pub says_response : (before : List Sent) (tokens : ℕ) (to : Addr) (r : Response) → SaysPlan before tokens [] (sent_response to r ∷ []) 0
says_response before tokens to r = record { kinds = (responds r refl, tt); begun = λ t opens client. absurd opens; keeps = tt }

answered_begins : (begun : List Entry) (id : ℕ) (r : Response) → BeginsNone begun → BeginsNone (begun ++ answer_of id r ∷ [])
answered_begins begun id r new t opens client = elim (begun_split begun (answer_of id r ∷ []) t opens) [ inl h ↦ new t h client | inr h ↦ h ]

pub says_answers : (before : List Sent) (tokens : ℕ) (begun : List Entry) (id : ℕ) (to : Addr) (r : Response) (made : ℕ) → BeginsNone begun → AllOf EntryKeeps begun
    → SaysPlan before tokens (begun ++ answer_of id r ∷ []) (sent_response to r ∷ []) made
says_answers before tokens begun id to r made new keeps = record {
  kinds = (responds r refl, tt);
  begun = λ t opens client. absurd (answered_begins begun id r new t opens client);
  keeps = all_append EntryKeeps begun (answer_of id r ∷ []) keeps (record { response = r; said = refl }, tt);
}

pub says_reply : (before : List Sent) (tokens : ℕ) (begun : List Entry) (id : ℕ) (p : Plan) → IsReply begun id p → BeginsNone begun → AllOf EntryKeeps begun → SaysPlan before tokens p.changes p.sends p.made
says_reply before tokens begun id p is new keeps =
    subst (λ changes. SaysPlan before tokens changes p.sends p.made) (sym is.changes)
    (subst (λ sends. SaysPlan before tokens (begun ++ answer_of id is.response ∷ []) sends p.made) (sym is.sends) (says_answers before tokens begun id is.to is.response p.made new keeps))

pub reply_calm : (begun : List Entry) (id : ℕ) (p : Plan) → IsReply begun id p → AllOf EntryIsCalm begun → AllOf EntryIsCalm p.changes
reply_calm begun id p is h = subst (AllOf EntryIsCalm) (sym is.changes) (all_append EntryIsCalm begun (answer_of id is.response ∷ []) h (tt, tt))

-- the ACK that is kept
acks_go : (before : List Sent) (n : ℕ) (changes : List Entry) (id : ℕ) (acks : List KeptAck) → All (AckWasSent before) acks → AllOf (IsOfKind before n changes) (ack_again (find (λ (a : KeptAck). a.id == id) acks))
acks_go before n changes id [] all = tt
acks_go before n changes id (ack ∷ acks) all = found (ack.id == id) (All-head (AckWasSent before) ack acks all) (acks_go before n changes id acks (All-tail (AckWasSent before) ack acks all))
  where
    found : (b : Bool) → AckWasSent before ack → AllOf (IsOfKind before n changes) (ack_again (find (λ (a : KeptAck). a.id == id) acks))
        → AllOf (IsOfKind before n changes) (ack_again (cond b (Some ack) (find (λ (a : KeptAck). a.id == id) acks)))
    found true own rest = (again own, tt)
    found false own rest = rest

pub says_acks : (before : List Sent) (s : Office) → KnowsSent s before → (begun : List Entry) (id : ℕ) → BeginsNone begun → AllOf EntryKeeps begun
    → SaysPlan before s.tokens begun (ack_again (find (λ (a : KeptAck). a.id == id) s.acks)) 0
says_acks before s was begun id new keeps = record {
  kinds = acks_go before (s.tokens + 0) begun id s.acks was.acks;
  begun = λ t opens client. absurd (new t opens client);
  keeps = keeps;
}

pub says_step : (before : List Sent) (tokens : ℕ) (begun : List Entry) (send : Option Outgoing) (x : steps.Effect) → GoesWell before tokens send → BeginsNone begun → AllOf EntryKeeps begun
    → Says before (tokens + x.dressed.made) x.dressed → SaysPlan before tokens (begun ++ x.dressed.changes) (goes send ++ x.dressed.sends) x.dressed.made
says_step before tokens begun send x well new keeps h =
    let n = tokens + x.dressed.made in
    let all = begun ++ x.dressed.changes in
    record {
      kinds = all_append (IsOfKind before n all) (goes send) x.dressed.sends (goes_more before tokens n all send (omega arith) well)
          (all_weaker (IsOfKind before n x.dressed.changes) (IsOfKind before n all) (λ d. kind_more before n n x.dressed.changes all d (omega arith) (begun_behind begun x.dressed.changes)) x.dressed.sends h.sends);
      begun = λ t opens client. elim (begun_split begun x.dressed.changes t opens) [
        | inl a ↦ absurd (new t a client)
        | inr a ↦ begun_within x.dressed.sends (goes send ++ x.dressed.sends) t (sent_right (goes send) x.dressed.sends) (h.begun t a client)
      ];
      keeps = all_append EntryKeeps begun x.dressed.changes keeps h.keeps;
    }

-- ---- timers

pub fire_begins : (timer : TimerId) → BeginsNone (fire_of timer ∷ [])
fire_begins timer t opens client = opens

pub fire_keeps : (timer : TimerId) → AllOf EntryKeeps (fire_of timer ∷ [])
fire_keeps timer = (tt, tt)

pub fire_calm : (timer : TimerId) → AllOf EntryIsCalm (fire_of timer ∷ [])
fire_calm timer = (refl, tt)
