-- The calls that are kept after any entries keep the whole media promise.
use Rattle.std.proofs.Common.{◌≡◌, ◌∙◌, ℕ, suc, ◌+◌, true, false, List, [], ◌∷◌, ◌++◌, length, Option, Some, ap, sym, subst, arith}
use Rattle.std.proofs.lemmas.List.{append_cancel_left}
use Rattle.std.specs.List.{All}
use Rattle.event_rows.specs.State.{Contents, IsNew, office}
use Rattle.event_rows.specs.Trace.{AreEntries, Entry, Ran, after_entries}
use Rattle.call_trace.specs.declared.call.Call.{Call}
use Rattle.call_trace.specs.declared.datagram.Datagram.{Datagram}
use Rattle.call_trace.specs.declared.datagram.Dialog.{Dialog}
use Rattle.call_trace.specs.Lives.{Stands}
use Rattle.call_trace.specs.Messages.{offering}
use Rattle.call_trace.specs.Listed.{AllOf}
use Rattle.call_trace.specs.Promised.{AreServed, Promised}
use Rattle.call_trace.specs.Serving.{Hop}
use Rattle.configuration.specs.declared.config.Config.{Config}
use Rattle.events.specs.declared.sent.Sent.{Sent}
use Rattle.call_core.specs.Calls.{awaits_answer, holds_in}
use Rattle.call_media.specs.Sessions.{pairs_listed}
use Rattle.port_pool.specs.Holdings.{even_of, is_among}
use Rattle.calls.specs.declared.standing_call.StandingCall.{StandingCall}
use Rattle.plans.specs.Office.{Office}
use Rattle.message_laws.specs.Addresses.{IsConfigured}
use Rattle.message_laws.specs.Datagrams.{EntersFromSource}
use Rattle.message_laws.specs.Knowledge.{sends_of}
use Rattle.message_laws.proofs.StandingCalls.CallLists.{all_weaker}
use Rattle.message_laws.specs.Serving.{AreHeldByCalls, HoldNoOthers, KnowsServing, holder_in, trace_table}
use Rattle.message_laws.specs.Traced.{AreTraced, holder_by}
use Rattle.message_laws.specs.Traces.{AreTrace}
use Rattle.transactions.specs.declared.transaction.Transaction.{Transaction}
use Rattle.media_laws.specs.Standing.{IsUpheld}
use Rattle.media_laws.proofs.WholePromise.Invariant.{EventsAreMoves}
use Rattle.media_laws.specs.Keeping.{HasPromisedCalls, HoldsFor, IsQuiet, KeepsPromise, RelaysLive, dialog_with_caller}
use Rattle.media_laws.proofs.EntryTraces.Traces.{trace_of}
use Rattle.media_laws.proofs.WholePromise.AllEntries.{entries_upheld, one_event}
use Rattle.media_laws.specs.Standing.{AgentStands, PutsFromSource, StandsOn, StandsThrough}
use Rattle.plans.specs.declared.taken.Taken.{Taken}
use Rattle.message_laws.specs.Messages.{AreMessages}
use Rattle.media_laws.proofs.WholePromise.Invariant.{new_upheld}
use Rattle.event_rows.specs.Rows.{after, row}
use Rattle.events.specs.declared.event.Event.{Event}
use Rattle.call_trace.specs.declared.datagram.Message.{Message}
use Rattle.call_trace.specs.Events.{passed}
use Rattle.message_laws.specs.Numbers.{begun_in, begun_of}
use Rattle.message_laws.specs.Datagrams.{ComesFromSource}
use Rattle.message_laws.specs.Traces.{IsPassed, IsTaken}
use Rattle.media_laws.proofs.WholePromise.Knowing.{Laws}
use Rattle.media_laws.proofs.WholePromise.LiveCalls.{live_listed}
use Rattle.media_laws.specs.Living.{ListsLive}
use Rattle.media_laws.proofs.WholePromise.QuietCalls.{each_settles}
use Rattle.media_laws.proofs.WholePromise.Sessions.{are_traced}

-- what stands after the trace and is served is promised
pub record PromiseLaws : Type 0 where
  pub served : (s : Office) (calls : List Call) → KnowsServing s → AreTraced dialog_with_caller s.calls.calls calls → AreServed s.range.ip (trace_table s.calls.pool) (holder_by dialog_with_caller s) calls
  pub promised : (server : List ℕ) (table : ℕ → Option Hop) (holder : ℕ → Option Dialog) (calls : List Call) (n : ℕ) (t : List Datagram) → Stands offering calls n t → AreServed server table holder calls
      → Promised offering server table holder calls t

promise_kept : Laws → PromiseLaws → (s : Office) (begun : List Transaction) (sent : List Sent) (t : List Datagram) (calls : List Call) (k : ℕ) → IsUpheld s begun sent t calls k → KeepsPromise s begun t calls k
promise_kept laws promises s begun sent t calls k h = record {
  stands = h.stands;
  shown = h.listed;
  promised = promises.promised s.range.ip (trace_table s.calls.pool) (holder_by dialog_with_caller s) calls k t h.stands
      (promises.served s calls h.known.serving (are_traced s begun t calls (laws.staged s h.known.serving) h.listed));
}

-- ---- an agent that stands after a trace

pub stands_new : Laws → (c : Config) (s : Contents) → IsConfigured c → IsNew c s → AgentStands s [] 0
stands_new laws c s is new = ([], [], ([], new_upheld laws c s is new))

pub stands_on : Laws → EventsAreMoves → (s : Contents) (event : Event) (t : List Datagram) (k : ℕ) → AgentStands s t k → ComesFromSource event.what → (taken : Option Message) (ms : List Message)
    → IsPassed event.what (row s event).plan.taken (row s event).plan.sends taken ms → AgentStands (after s event) (t ++ passed k taken ms) (suc k)
stands_on laws law s event t k h from taken ms shows =
    (h.0 ++ begun_of (row s event).plan.changes, h.1 ++ (row s event).plan.sends, one_event laws law s event h.0 h.1 t h.2.0 k h.2.1 from taken ms shows)

pub stands_through : Laws → EventsAreMoves → (s : Contents) (xs : List Entry) (t rest : List Datagram) (k : ℕ) → AgentStands s t k → AreEntries s xs → All EntersFromSource xs → AreTrace k xs rest → AgentStands (after_entries s xs) (t ++ rest) (k + length xs)
stands_through laws law s xs t rest k h are from trace = (h.0 ++ begun_in s xs, h.1 ++ sends_of xs, entries_upheld laws law s xs h.0 h.1 t rest h.2.0 k are from trace h.2.1)

pub standing_promised : Laws → PromiseLaws → (s : Contents) (t : List Datagram) (k : ℕ) → AgentStands s t k → HasPromisedCalls (office s) t k
standing_promised laws promises s t k h = (h.0, h.2.0, promise_kept laws promises (office s) h.0 h.1 t h.2.0 k h.2.1)

-- the calls that were answered, and that no end has left, are the live ones
pub standing_live : Laws → PromiseLaws → (s : Contents) (t : List Datagram) (k : ℕ) → AgentStands s t k → ListsLive s.calls.calls t
standing_live laws promises s t k h =
    live_listed (office s) h.0 t h.2.0 k (laws.staged (office s) h.2.1.known.serving) h.2.1.known.callees h.2.1.listed (promise_kept laws promises (office s) h.0 h.1 t h.2.0 k h.2.1).promised.lives h.2.1.stands

-- the table, and who holds the pairs
pub standing_relays : Laws → PromiseLaws → (s : Contents) (t : List Datagram) (k : ℕ) → AgentStands s t k → RelaysLive s.range.ip s.calls.pool.rows t
standing_relays laws promises s t k h = let kept = (promise_kept laws promises (office s) h.0 h.1 t h.2.0 k h.2.1).promised in record { media = kept.media; each = kept.each; rows = kept.rows }

-- a port that the call holds is of a pair of its session
abbrev InSession : Contents → ℕ → StandingCall → Type 0
InSession s port c = holder_in s.calls.pool port ≡ Some c.call.number → is_among (pairs_listed c.call.media.session) (even_of port) ≡ true

both_of : (P Q R : StandingCall → Type 0) → ((c : StandingCall) → P c → Q c → R c) → (cs : List StandingCall) → AllOf P cs → AllOf Q cs → AllOf R cs
both_of P Q R f [] ps qs = tt
both_of P Q R f (c ∷ cs) ps qs = (f c ps.0 qs.0, both_of P Q R f cs ps.1 qs.1)

pub standing_holds : Laws → PromiseLaws → ((s : Office) → KnowsServing s → AreHeldByCalls s) → ((s : Office) → KnowsServing s → HoldNoOthers s) → (s : Contents) (t : List Datagram) (k port : ℕ) → AgentStands s t k → HoldsFor s.calls.calls t port (holder_in s.calls.pool port)
standing_holds laws promises holders exact s t k port h = record {
  listed = λ n is. holders (office s) h.2.1.known.serving port n is;
  pairs = λ caller callee session live pair. (promise_kept laws promises (office s) h.0 h.1 t h.2.0 k h.2.1).promised.ports.held caller callee session port live pair;
  alone = alone;
  quiet =
      both_of (λ c. IsQuiet t c → holds_in awaits_answer c.call.standing ≡ false) (λ c. holds_in awaits_answer c.call.standing ≡ false → InSession s port c) (λ c. IsQuiet t c → InSession s port c) (λ c settles each quiet. each (settles quiet)) s.calls.calls
      (each_settles s.table.slots h.0 t s.calls.calls h.2.0 h.2.1.listed h.2.1.stands.sessions.stand) alone;
} where
  alone : AllOf (λ c. holds_in awaits_answer c.call.standing ≡ false → InSession s port c) s.calls.calls
  alone =
      all_weaker (λ c. holds_in awaits_answer c.call.standing ≡ false → (n : ℕ) → holder_in s.calls.pool n ≡ Some c.call.number → is_among (pairs_listed c.call.media.session) (even_of n) ≡ true)
      (λ c. holds_in awaits_answer c.call.standing ≡ false → InSession s port c) (λ c each settled. each settled port) s.calls.calls (exact (office s) h.2.1.known.serving)

pub standing_exact : ((s : Office) → KnowsServing s → HoldNoOthers s) → (s : Contents) (t : List Datagram) (k : ℕ) → AgentStands s t k → HoldNoOthers (office s)
standing_exact exact s t k h = exact (office s) h.2.1.known.serving

-- ---- what is answered, and what is put after what was sent

pub answers_on : Laws → EventsAreMoves → (s : Contents) (event : Event) (answer : Taken) (before now : List Sent) (later : Contents) → ComesFromSource event.what → answer ≡ (row s event).plan.taken → now ≡ before ++ (row s event).plan.sends → later ≡ after s event
    → StandsOn s event.what answer before now later
answers_on laws law s event answer before now later from answered sent left = λ t k h sends whole taken ms shows.
    let same : sends ≡ (row s event).plan.sends = append_cancel_left before sends (row s event).plan.sends (sym whole ∙ sent) in
    subst (λ (x : Contents). AgentStands x (t ++ passed k taken ms) (suc k)) (sym left)
    (stands_on laws law s event t k h from taken ms (record { took = subst (λ a. IsTaken event.what a taken) answered shows.took; went = subst (λ l. AreMessages l ms) same shows.went }))

pub runs_through : Laws → EventsAreMoves → (s : Contents) (before now : List Entry) (events : List Event) (later : Contents) → Ran s before events later now → PutsFromSource before now → StandsThrough s before now later
runs_through laws law s before now events later ran puts = λ t k h more whole.
    let same : ran.more ≡ more = append_cancel_left before ran.more more (sym ran.grown ∙ whole) in
    let are : AreEntries s more = subst (AreEntries s) same ran.entries in
    let from : All EntersFromSource more = puts more whole in
    record {
      trace = trace_of laws law s more t k h are from;
      stands = λ rest trace. subst (λ (x : Contents). AgentStands x (t ++ rest) (k + length more)) (sym (ran.agent ∙ ap (λ (l : List Entry). after_entries s l) same))
          (stands_through laws law s more t rest k h are from trace);
    }

pub counted_from : (s : Contents) (t : List Datagram) (n : ℕ) → AgentStands s t (0 + n) → AgentStands s t n
counted_from s t n h = let count : 0 + n ≡ n = omega arith in subst (AgentStands s t) count h
