-- The moves of an event that no call takes, from what is known before it.
use Rattle.std.proofs.Common.{◌≡◌, ℕ, true, List, [], ◌∷◌, Option, Some, None, Ok, subst, sym}
use Rattle.events.specs.declared.sent.Sent.{Sent}
use Rattle.sip_message.specs.Read.{message_of}
use Rattle.sip_message.specs.declared.message.Message.TheVariants as Kinds
use Rattle.sip_message.specs.declared.message.Request.{Request}
use Rattle.sip_message.specs.declared.message.Response.{Response}
use Rattle.transactions.specs.Changes.{fire_of}
use Rattle.transactions.specs.Contents.{fired_of, reception_of}
use Rattle.transactions.specs.Slots.{at, is_answered}
use Rattle.transactions.specs.declared.change.Entry.{Entry}
use Rattle.transactions.specs.declared.outcome.Fired.TheVariants as fires
use Rattle.transactions.specs.declared.outcome.Outgoing.{Outgoing}
use Rattle.transactions.specs.declared.transaction.TimerId.{TimerId}
use Rattle.transactions.specs.declared.transaction.Transaction.{Transaction}
use Rattle.call_rules.specs.Responses.{response_rule}
use Rattle.call_trace.specs.declared.call.Call.{Call}
use Rattle.call_trace.specs.declared.datagram.Datagram.{Datagram}
use Rattle.call_trace.specs.declared.datagram.Message.{Message}
use Rattle.call_trace.specs.Events.{IsIdle}
use Rattle.call_trace.specs.Listed.{AllOf}
use Rattle.call_trace.specs.Messages.{offering}
use Rattle.call_trace.specs.Moves.{Move}
use Rattle.plans.specs.CallRows.{acks_again}
use Rattle.plans.specs.Office.{Office}
use Rattle.plans.specs.Plan.{goes, moves}
use Rattle.message_laws.proofs.StandingCalls.Reading.{Reading as ReadsNames}
use Rattle.message_laws.specs.Messages.{AreMessages, IsTakenOf}
use Rattle.media_laws.proofs.Scenes.Reading.{Reading}
use Rattle.media_laws.specs.Lateness.{IsPassedOver}
use Rattle.media_laws.specs.Ties.{AreTied}
use Rattle.media_laws.specs.Verdicts.{IsTransactions}
use Rattle.media_laws.proofs.Scenes.ReadTexts.{taken_is}
use Rattle.media_laws.proofs.Copies.Taken.{passed_over}
use Rattle.media_laws.proofs.Copies.TransactionMoves.{again_move, as_taken, repeated_move, response_sends, silent_response, swallowed_move, timer_move}

module _ (reads : Reading) (names : ReadsNames) (s : Office) (begun : List Transaction) (sent : List Sent) (t : List Datagram) (ds : List Call) (k : AreTied s begun sent t ds) where
  pub timer_is_quiet : (timer : TimerId) (out : Outgoing) (ms : List Message) → fired_of (at s.table.slots timer.id) timer.kind ≡ Some (fires.Send out) → AreMessages (moves (fire_of timer ∷ []) (Some out)).sends ms
      → Move offering t ds None ms ds
  timer_is_quiet = timer_move reads s begun sent t ds k.trace k.again

  module _ (bytes : List ℕ) where
    pub repeat_is_quiet : (q : Request) (taken : Option Message) (changes : List Entry) (ms : List Message) → message_of bytes ≡ Ok (Kinds.Request q) → IsTakenOf bytes taken
        → AreMessages (moves changes (reception_of s.table (Kinds.Request q)).send).sends ms → Move offering t ds taken ms ds
    repeat_is_quiet = repeated_move reads s begun sent t ds k.trace k.again bytes

    pub swallowed_is_quiet : (r : Response) (taken : Option Message) (changes : List Entry) (ms : List Message) → message_of bytes ≡ Ok (Kinds.Response r) → IsTakenOf bytes taken
        → IsTransactions (reception_of s.table (Kinds.Response r)).verdict → AreMessages (moves changes (reception_of s.table (Kinds.Response r)).send).sends ms → Move offering t ds taken ms ds
    swallowed_is_quiet r taken changes ms read took by are =
        as_taken t ds ms bytes (Kinds.Response r) taken read took (swallowed_move reads s begun sent t ds k.trace k.again names k.machines k.scenes bytes r read changes ms by are)

    pub sends_are_idle : (r : Response) (taken : Option Message) (ms : List Message) → message_of bytes ≡ Ok (Kinds.Response r) → IsTakenOf bytes taken → AreMessages (goes (reception_of s.table (Kinds.Response r)).send) ms
        → AllOf (IsIdle offering t taken) ms
    sends_are_idle r taken ms read took are =
        subst (λ o. AllOf (IsIdle offering t o) ms) (sym (taken_is bytes (Kinds.Response r) taken read took)) (response_sends reads s begun sent t ds k.trace k.again names k.machines k.scenes bytes r read ms are)

    pub silent_is_quiet : (r : Response) (taken : Option Message) (id : ℕ) (x : Transaction) (changes : List Entry) (ms : List Message) → message_of bytes ≡ Ok (Kinds.Response r) → IsTakenOf bytes taken
        → at s.table.slots id ≡ Some x → is_answered r.parts (Some x) ≡ true → IsPassedOver (response_rule s.calls.calls x.parts r)
        → AreMessages (moves changes (reception_of s.table (Kinds.Response r)).send).sends ms → Move offering t ds taken ms ds
    silent_is_quiet r taken id x changes ms read took there answers passed are =
        as_taken t ds ms bytes (Kinds.Response r) taken read took (silent_response reads s begun sent t ds k.trace k.again names k.machines k.scenes bytes r read changes ms
        (passed_over s begun sent t ds k.trace k.listed k.tokens k.waiting bytes r id x there answers passed) are)

    pub again_is_quiet : (r : Response) (taken : Option Message) (id : ℕ) (x : Transaction) (changes : List Entry) (ms : List Message) → message_of bytes ≡ Ok (Kinds.Response r) → IsTakenOf bytes taken
        → at s.table.slots id ≡ Some x → is_answered r.parts (Some x) ≡ true → IsPassedOver (response_rule s.calls.calls x.parts r) → AreMessages (acks_again s changes id).sends ms → Move offering t ds taken ms ds
    again_is_quiet r taken id x changes ms read took there answers passed are =
        as_taken t ds ms bytes (Kinds.Response r) taken read took (again_move reads s begun sent t ds k.trace k.again names k.machines k.scenes bytes r read changes id ms
        (passed_over s begun sent t ds k.trace k.listed k.tokens k.waiting bytes r id x there answers passed) are)
