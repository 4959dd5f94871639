-- What the transactions do by themselves moves no call of the trace: what is sent again was sent before, and the ACK
-- to a refusal is of an INVITE that was sent.
use Rattle.std.proofs.Common.{◌≡◌, ◌∙◌, ℕ, ◌==◌, Bool, true, false, cond, find, ◌&&◌, not, List, [], ◌∷◌, Option, Some, None, Ok, refl, ap, sym, subst, inl, inr}
use Rattle.std.specs.Prelude.{IsTrue}
use Rattle.std.specs.List.{All}
use Rattle.std.proofs.lemmas.List.Elements.{All-head, All-tail}
use Rattle.std.proofs.lemmas.Option.{none-some, same_Some}
use Rattle.events.specs.declared.sent.Sent.{Sent}
use Rattle.sip_message.specs.Read.{message_of}
use Rattle.sip_message.specs.declared.message.Message.{Message as Read}
use Rattle.sip_message.specs.declared.message.Message.TheVariants as Kinds
use Rattle.sip_message.specs.declared.message.Request.{Request}
use Rattle.sip_message.specs.declared.message.Response.{Response}
use Rattle.transactions.specs.Changes.{fire_of}
use Rattle.transactions.specs.Contents.{fired_of, reception_of}
use Rattle.transactions.specs.Slots.{at, is_answered}
use Rattle.transactions.specs.declared.change.Entry.{Entry}
use Rattle.transactions.specs.declared.outcome.Fired.TheVariants as fires
use Rattle.transactions.specs.declared.outcome.Outgoing.{Outgoing}
use Rattle.transactions.specs.declared.transaction.TimerId.{TimerId}
use Rattle.transactions.specs.declared.transaction.Transaction.{Transaction}
use Rattle.call_rules.specs.Speaking.{may_offer}
use Rattle.call_trace.specs.declared.call.Call.{Call}
use Rattle.call_trace.specs.declared.datagram.Datagram.{Datagram}
use Rattle.call_trace.specs.declared.datagram.Message.{Message}
use Rattle.call_trace.specs.Events.{IsIdle, IsIdleTaken, IsPartingTaken, NoneAsked, calm, due, unmoved}
use Rattle.call_trace.specs.Listed.{AllOf}
use Rattle.call_trace.specs.Messages.{asks, is_listed, is_request, offering}
use Rattle.call_trace.specs.Moves.{Move}
use Rattle.trace_reading.specs.Message.{trace_message}
use Rattle.plans.specs.CallRows.{acks_again, again}
use Rattle.plans.specs.Office.{Office}
use Rattle.plans.specs.Plan.{goes, moves}
use Rattle.plans.specs.declared.acks.KeptAck.{KeptAck}
use Rattle.message_laws.specs.Sending.{AckWasSent, KnowsSent, WasSent, WasSentIf}
use Rattle.message_laws.specs.Waiting.{waits}
use Rattle.message_laws.proofs.StandingCalls.Reading.{Reading as ReadsNames}
use Rattle.message_laws.proofs.TokenUse.Rows.{answered_client}
use Rattle.message_laws.specs.Comings.{KnowsScenes}
use Rattle.message_laws.specs.KnownTrace.{KnowsTrace}
use Rattle.message_laws.specs.Messages.{AreMessages, IsMessage, IsTakenOf}
use Rattle.media_laws.proofs.Scenes.Reading.{Reading}
use Rattle.media_laws.specs.Machines.{KnowsMachines}
use Rattle.media_laws.specs.Verdicts.{IsTransactions}
use Rattle.media_laws.proofs.Scenes.QuietSends.{WentBefore, before_idle, idle_move, request_parts, silent_move, went_before}
use Rattle.message_laws.proofs.Traces.ReadTexts.{response_seen}
use Rattle.media_laws.proofs.Scenes.ReadTexts.{request_taken, taken_is}
use Rattle.media_laws.proofs.Copies.Receptions.{LastGoes, fired_goes, last_sent, request_goes, response_goes}
use Rattle.media_laws.proofs.Copies.RefusalAcks.{ack_idle}
use Rattle.media_laws.proofs.Copies.SeenResponses.{other_calm, same_branch, sees_kind}
use Rattle.media_laws.proofs.Copies.Swallowed.{swallowed_by}
use Rattle.media_laws.proofs.Copies.Taken.{waits_no_more}

-- ---- one datagram at most

goes_all : (P : Message → Type 0) (send : Option Outgoing) (ms : List Message) → ((out : Outgoing) → send ≡ Some out → (m : Message) → IsMessage out.bytes m → P m) → AreMessages (goes send) ms → AllOf P ms
goes_all P None [] h are = tt
goes_all P None (m ∷ ms) h are = absurd are
goes_all P (Some out) [] h are = absurd are
goes_all P (Some out) (m ∷ []) h are = (h out refl m are.0, tt)
goes_all P (Some out) (m ∷ n ∷ ms) h are = absurd are.1

asks_none : (m : Message) → is_request m.kind ≡ false → IsTrue (not (asks offering m))
asks_none m e = ap (λ b. not (b && is_listed offering m.method)) e

-- the ACK that is found is one that is kept
found_sent : (sent : List Sent) (id : ℕ) (acks : List KeptAck) (ack : KeptAck) → All (AckWasSent sent) acks → find (λ (a : KeptAck). a.id == id) acks ≡ Some ack → WasSent sent ack.sent.bytes
found_sent sent id [] ack all e = absurd (none-some ack e)
found_sent sent id (a ∷ acks) ack all e =
    found_head (a.id == id) (find (λ (x : KeptAck). x.id == id) acks) e (All-head (AckWasSent sent) a acks all) (found_sent sent id acks ack (All-tail (AckWasSent sent) a acks all))
  where
    found_head : (b : Bool) (o : Option KeptAck) → cond b (Some a) o ≡ Some ack → AckWasSent sent a → (o ≡ Some ack → WasSent sent ack.sent.bytes) → WasSent sent ack.sent.bytes
    found_head true o is own rest = subst (AckWasSent sent) (same_Some a ack is) own
    found_head false o is own rest = rest is

-- what was taken, of a message that was read
pub as_taken : (t : List Datagram) (ds : List Call) (ms : List Message) (text : List ℕ) (m : Read) (taken : Option Message) → message_of text ≡ Ok m → IsTakenOf text taken
    → Move offering t ds (Some (trace_message text m)) ms ds → Move offering t ds taken ms ds
as_taken t ds ms text m taken read took h = subst (λ o. Move offering t ds o ms ds) (sym (taken_is text m taken read took)) h

-- nothing was taken, and nothing goes
pub nothing_move : (t : List Datagram) (ds : List Call) (ms : List Message) → AreMessages [] ms → Move offering t ds None ms ds
nothing_move t ds ms are = silent_move t ds None ms (unmoved (due refl)) are

module _ (r : Reading) (s : Office) (begun : List Transaction) (sent : List Sent) (t : List Datagram) (ds : List Call) (known : KnowsTrace s begun sent t) (was : KnowsSent s sent) where
  last_before : (out : Outgoing) (m : Message) → LastGoes s.table.slots out → IsMessage out.bytes m → WentBefore t m
  last_before out m h is =
      went_before r t sent out.bytes m known.read known.sent (subst (WasSentIf sent) h.kept (last_sent sent s.table.slots h.id h.transaction was.slots h.stands)) is

  -- ---- a timer

  pub timer_move : (timer : TimerId) (out : Outgoing) (ms : List Message) → fired_of (at s.table.slots timer.id) timer.kind ≡ Some (fires.Send out) → AreMessages (moves (fire_of timer ∷ []) (Some out)).sends ms
      → Move offering t ds None ms ds
  timer_move timer out ms fired are =
      idle_move t ds None ms (unmoved (due refl))
      (goes_all (IsIdle offering t None) (Some out) ms
      (λ o same m is. before_idle t None m (last_before o m (subst (LastGoes s.table.slots) (same_Some out o same) (fired_goes s.table.slots timer out fired)) is) (inr (λ n e. absurd (none-some n e)))) are)

  -- ---- a request that belongs to a transaction

  request_idle : (taken : Option Message) (q : Request) (out : Outgoing) → (reception_of s.table (Kinds.Request q)).send ≡ Some out → (m : Message) → IsMessage out.bytes m → IsIdle offering t taken m
  request_idle taken q out e m is =
      let g = request_goes s.table q out e in
      let kept = (known.served g.goes.id g.goes.transaction g.goes.stands).server out.bytes g.server g.goes.kept in
      before_idle t taken m (last_before out m g.goes is) (inl (asks_none m (response_seen out.bytes m kept.response is kept.said)))

  pub repeated_move : (text : List ℕ) (q : Request) (taken : Option Message) (changes : List Entry) (ms : List Message) → message_of text ≡ Ok (Kinds.Request q) → IsTakenOf text taken
      → AreMessages (moves changes (reception_of s.table (Kinds.Request q)).send).sends ms → Move offering t ds taken ms ds
  repeated_move text q taken changes ms read took are =
      idle_move t ds taken ms (request_parts t ds taken (request_taken text q taken read took))
      (goes_all (IsIdle offering t taken) (reception_of s.table (Kinds.Request q)).send ms (request_idle taken q) are)

  -- ---- a response

  module _ (names : ReadsNames) (machines : KnowsMachines s) (scenes : KnowsScenes s) (text : List ℕ) (q : Response) (read : message_of text ≡ Ok (Kinds.Response q)) where
    response_asks_none : NoneAsked offering (Some (trace_message text (Kinds.Response q)))
    response_asks_none m e = asks_none m (ap (λ (x : Message). is_request x.kind) (sym (same_Some (trace_message text (Kinds.Response q)) m e)) ∙ ap is_request (sees_kind text q))

    response_idle : (out : Outgoing) → (reception_of s.table (Kinds.Response q)).send ≡ Some out → (m : Message) → IsMessage out.bytes m → IsIdle offering t (Some (trace_message text (Kinds.Response q))) m
    response_idle out e m is = elim (response_goes s.table q out e) [
      | inl last ↦ before_idle t (Some (trace_message text (Kinds.Response q))) m (last_before out m last is) (inr response_asks_none)
      | inr acked ↦ ack_idle r names s begun sent t known machines scenes (Some (trace_message text (Kinds.Response q))) text q read out m acked is
    ]

    -- what the transactions send of it
    pub response_sends : (ms : List Message) → AreMessages (goes (reception_of s.table (Kinds.Response q)).send) ms → AllOf (IsIdle offering t (Some (trace_message text (Kinds.Response q)))) ms
    response_sends ms are = goes_all (IsIdle offering t (Some (trace_message text (Kinds.Response q)))) (reception_of s.table (Kinds.Response q)).send ms response_idle are

    swallowed_taken : IsTransactions (reception_of s.table (Kinds.Response q)).verdict → IsIdleTaken offering t (Some (trace_message text (Kinds.Response q)))
    swallowed_taken h =
        let w = swallowed_by s.table q h in
        by_offer w.id w.transaction w.stands w.answers w.over (may_offer w.transaction.parts) refl
      where
        by_offer : (id : ℕ) (x : Transaction) → at s.table.slots id ≡ Some x → is_answered q.parts (Some x) ≡ true → waits x.state ≡ false → (b : Bool) → may_offer x.parts ≡ b → IsIdleTaken offering t (Some (trace_message text (Kinds.Response q)))
        by_offer id x there answers over true offers =
            waits_no_more s begun sent t ds known id x (trace_message text (Kinds.Response q)) there (record { client = answered_client q.parts x answers; offers = offers }) over (same_branch text q x answers)
        by_offer id x there answers over false none = calm (trace_message text (Kinds.Response q)) refl (other_calm text q x answers none)

    pub swallowed_move : (changes : List Entry) (ms : List Message) → IsTransactions (reception_of s.table (Kinds.Response q)).verdict → AreMessages (moves changes (reception_of s.table (Kinds.Response q)).send).sends ms
        → Move offering t ds (Some (trace_message text (Kinds.Response q))) ms ds
    swallowed_move changes ms h are = idle_move t ds (Some (trace_message text (Kinds.Response q))) ms (unmoved (swallowed_taken h)) (response_sends ms are)

    -- one that no call takes
    pub silent_response : (changes : List Entry) (ms : List Message) → IsPartingTaken offering t (Some (trace_message text (Kinds.Response q))) ds
        → AreMessages (moves changes (reception_of s.table (Kinds.Response q)).send).sends ms → Move offering t ds (Some (trace_message text (Kinds.Response q))) ms ds
    silent_response changes ms took are = idle_move t ds (Some (trace_message text (Kinds.Response q))) ms took (response_sends ms are)

    -- the ACK of a 2xx is sent again
    again_all : (ms : List Message) (o : Option KeptAck) → ((ack : KeptAck) → o ≡ Some ack → WasSent sent ack.sent.bytes) → AreMessages (again o) ms
        → AllOf (IsIdle offering t (Some (trace_message text (Kinds.Response q)))) ms
    again_all [] None h are = tt
    again_all (m ∷ ms) None h are = absurd are
    again_all [] (Some ack) h are = absurd are
    again_all (m ∷ []) (Some ack) h are =
        (before_idle t (Some (trace_message text (Kinds.Response q))) m (went_before r t sent ack.sent.bytes m known.read known.sent (h ack refl) are.0) (inr response_asks_none), tt)
    again_all (m ∷ n ∷ ms) (Some ack) h are = absurd are.1

    pub again_move : (changes : List Entry) (id : ℕ) (ms : List Message) → IsPartingTaken offering t (Some (trace_message text (Kinds.Response q))) ds → AreMessages (acks_again s changes id).sends ms
        → Move offering t ds (Some (trace_message text (Kinds.Response q))) ms ds
    again_move changes id ms took are =
        idle_move t ds (Some (trace_message text (Kinds.Response q))) ms took (again_all ms (find (λ (ack : KeptAck). ack.id == id) s.acks) (λ ack. found_sent sent id s.acks ack was.acks) are)
