-- The descriptions that the calls keep after an event.
use Rattle.std.proofs.Common.{◌≡◌, ℕ, List, [], ◌∷◌, Option, Some, None, Ok, refl, sym, subst}
use Rattle.std.specs.Prelude.{slice_get}
use Rattle.std.specs.List.{All}
use Rattle.std.proofs.lemmas.List.Elements.{All-nil}
use Rattle.configuration.specs.declared.config.Config.{Config}
use Rattle.configuration.specs.Rules.{KeepsRules}
use Rattle.port_pool.specs.Pool.{new_pool}
use Rattle.offer_answer.specs.declared.range.OwnRange.{OwnRange}
use Rattle.events.specs.declared.event.Event.{Event}
use Rattle.events.specs.declared.event.What.{What}
use Rattle.sip_message.specs.declared.message.Message.{Message}
use Rattle.sip_message.specs.declared.message.Message.TheVariants as Kinds
use Rattle.sip_message.specs.declared.message.Request.{Request}
use Rattle.sip_message.specs.declared.message.Response.{Response}
use Rattle.sip_message.specs.Read.{message_of}
use Rattle.transactions.specs.declared.change.Entry.{Entry}
use Rattle.transactions.specs.declared.outcome.Outgoing.{Outgoing}
use Rattle.transactions.specs.declared.transaction.Transaction.{Transaction}
use Rattle.call_core.specs.declared.action.CallTimer.{CallTimer}
use Rattle.call_core.specs.declared.action.CallTimer.TheVariants as timers
use Rattle.call_core.specs.declared.input.Input.TheVariants as inputs
use Rattle.calls.specs.State.{Standing}
use Rattle.calls.specs.declared.change.LegDialog.{LegDialog}
use Rattle.calls.specs.declared.timer_id.CallTimerId.{CallTimerId}
use Rattle.call_rules.specs.Content.{described}
use Rattle.call_steps.specs.Rows.{counts, refreshes, takes_row}
use Rattle.plans.specs.Office.{Office}
use Rattle.plans.specs.declared.setting.Setting.{Setting}
use Rattle.plans.specs.declared.taken.Taken.{Taken}
use Rattle.plans.specs.CallRows.{occasion, puts_if, timer_input, without_call_timer}
use Rattle.plans.specs.Effect.{Effect}
use Rattle.event_rows.specs.Rows.{after, moment_after, no_source, only_counts, row, row_by, setting, what_row}
use Rattle.event_rows.specs.State.{Contents, IsNew, after_event, moment_at, office}
use Rattle.event_rows.specs.Trace as traces
use Rattle.event_rows.specs.Trace.{AreEntries, after_answer, after_entries, after_entry}
use Rattle.message_laws.specs.Addresses.{HasFourOctets, IsServerAddress}
use Rattle.message_laws.specs.Bodies.{HavePorts, KnowsCall, KnowsDescriptions, KnowsStanding, WasReadIn}
use Rattle.message_laws.proofs.Messages.BodySteps.{changed_knows, first_knows, fork_knows, late_knows, offers_knows, takes_knows}
use Rattle.message_laws.proofs.QuietEvents.Describing.{BodiesDescribe}
use Rattle.message_laws.proofs.Messages.Ports.{pairs_new}
use Rattle.message_laws.proofs.Messages.ReadBodies.{body_read, body_read_if}
use Rattle.message_laws.proofs.Messages.RequestViews.{RequestRow, asks_callee, cancelled, counted_alone, left, passed_on, refreshed, replied, unfit}
use Rattle.message_laws.proofs.Messages.ResponseViews.{ResponseRow, ack_alone, again, answered, fork, provisional, refused, silent}
use Rattle.message_laws.proofs.Messages.MessageViews.{ReceivedRow, acknowledged, begun_by, dropped, moved, requested, responded}
use Rattle.message_laws.proofs.Messages.Views.{DatagramRow, DueRow, WhatRow, call_fired, came, due, ended, fired_alone, idle, listed, ignored, sent_again, stopped, timed, unfit_branched, unreadable, was_received, what_view}

-- what the calls keep after this
abbrev Knows : Office → Effect → Type 0
Knows s x = KnowsStanding s.range.ip x.calls.standing

puts_knows : (ip : List ℕ) (calls : Standing) (place : ℕ) (leg : Option LegDialog) → KnowsStanding ip calls → KnowsStanding ip (puts_if calls place leg)
puts_knows ip calls place None k = k
puts_knows ip calls place (Some leg) k = record { pairs = k.pairs; calls = changed_knows ip leg place calls.calls (slice_get calls.calls place) refl k.calls }

stopped_knows : (s : Office) (timer : CallTimerId) → KnowsDescriptions s → KnowsDescriptions (without_call_timer timer s)
stopped_knows s timer k = record { address = k.address; calls = record { pairs = k.calls.pairs; calls = k.calls.calls } }

timer_read : (timer : CallTimer) → WasReadIn (timer_input timer)
timer_read timers.Limit = tt
timer_read timers.Repeat = tt
timer_read timers.Wait = tt
timer_read timers.Lifetime = tt

takes_by : (s : Office) → KnowsDescriptions s → (e : Setting) (place : ℕ) (input : _) (leg : Option LegDialog) (request : _) → WasReadIn input
    → KnowsStanding s.range.ip (takes_row s.calls s.table (occasion s e) place input leg request).outcome.standing
takes_by s k e place input leg request read = takes_knows s.range.ip s.calls s.table (occasion s e) place input leg request k.address k.calls read

read_as : (bytes : List ℕ) (m n : Message) → message_of bytes ≡ Ok m → m ≡ n → message_of bytes ≡ Ok n
read_as bytes m n read is = subst (λ x. message_of bytes ≡ Ok x) is read

-- ---- a message

module _ (describes : BodiesDescribe) (s : Office) (k : KnowsDescriptions s) (e : Setting) (bytes : List ℕ) where
  request_knows : (r : Request) (begun : List Entry) (id : ℕ) (x : Effect) → message_of bytes ≡ Ok (Kinds.Request r) → RequestRow s e r begun id x → Knows s x
  request_knows r begun id x read (replied reply why is) = subst (Knows s) (sym is) k.calls
  request_knows r begun id x read (unfit reason is) = subst (Knows s) (sym is) k.calls
  request_knows r begun id x read (asks_callee to offer why is) =
      subst (Knows s) (sym is) (first_knows s.range.ip s.calls (occasion s e) r id e.source to offer k.address refl k.calls (body_read describes bytes (Kinds.Request r) offer read why.described))
  request_knows r begun id x read (cancelled other place named_is found is) = subst (Knows s) (sym is) (takes_by s k e place inputs.Cancel _ _ tt)
  request_knows r begun id x read (left place end rule_is is) = subst (Knows s) (sym is) (takes_by s k e place (inputs.Bye end) _ _ tt)
  request_knows r begun id x read (counted_alone place end reason why is) = subst (Knows s) (sym is) (puts_knows s.range.ip s.calls place (counts s.calls.calls place end r.parts.cseq.number) k.calls)
  request_knows r begun id x read (passed_on place end c offer rule_is why is) =
      subst (Knows s) (sym is)
      (offers_knows s.range.ip s.calls s.table (occasion s e) place _ end r id e.source k.address k.calls (body_read describes bytes (Kinds.Request r) offer read why.described))
  request_knows r begun id x read (refreshed place end rule_is is) = subst (Knows s) (sym is) (puts_knows s.range.ip s.calls place (refreshes s.calls.calls place end r) k.calls)

  response_knows : (r : Response) (begun : List Entry) (send : Option Outgoing) (id : ℕ) (t : Transaction) (x : Effect) → message_of bytes ≡ Ok (Kinds.Response r) → ResponseRow s e r begun send id t x
      → Knows s x
  response_knows r begun send id t x read (silent is) = subst (Knows s) (sym is) k.calls
  response_knows r begun send id t x read (provisional place status c there opens class at_status is) = subst (Knows s) (sym is) (takes_by s k e place (inputs.Provisional status) _ _ tt)
  response_knows r begun send id t x read (answered place c there opens class is) =
      subst (Knows s) (sym is) (takes_by s k e place (inputs.Answer (described r.headers r.body)) _ _ (body_read_if describes bytes (Kinds.Response r) (described r.headers r.body) read refl))
  response_knows r begun send id t x read (again place acked is) = subst (Knows s) (sym is) k.calls
  response_knows r begun send id t x read (fork why is) = subst (Knows s) (sym is) (fork_knows s.range.ip s.calls (occasion s e) t.parts r k.calls)
  response_knows r begun send id t x read (ack_alone is) = subst (Knows s) (sym is) (late_knows s.range.ip s.calls (occasion s e) t.parts r k.calls)
  response_knows r begun send id t x read (refused place status c there opens class at_status is) = subst (Knows s) (sym is) (takes_by s k e place (inputs.Refusal status) _ _ tt)

  message_knows : (m : Message) (x : Effect) → message_of bytes ≡ Ok m → ReceivedRow s e m x → Knows s x
  message_knows m x read (dropped taken is) = subst (Knows s) (sym is) k.calls
  message_knows m x read (moved is) = subst (Knows s) (sym is) k.calls
  message_knows m x read (requested r id is new row) = request_knows r (begun_by s e m) id x (read_as bytes m (Kinds.Request r) read is) row
  message_knows m x read (acknowledged r place is found row_is) = subst (Knows s) (sym row_is) (takes_by s k e place inputs.Ack _ _ tt)
  message_knows m x read (responded r id t is up to row) = response_knows r (begun_by s e m) _ id t x (read_as bytes m (Kinds.Response r) read is) row

  datagram_knows : (x : Effect) → DatagramRow s e bytes x → Knows s x
  datagram_knows x (ignored taken is) = subst (Knows s) (sym is) k.calls
  datagram_knows x (unreadable fault parts unread can is) = subst (Knows s) (sym is) k.calls
  datagram_knows x (unfit_branched r read is) = subst (Knows s) (sym is) k.calls
  datagram_knows x (was_received m read branch reached row) = message_knows m x read row

-- ---- what is due

due_knows : (s : Office) → KnowsDescriptions s → (e : Setting) (x : Effect) → DueRow s e x → Knows s x
due_knows s k e x (idle is) = subst (Knows s) (sym is) k.calls
due_knows s k e x (listed users is) = subst (Knows s) (sym is) k.calls
due_knows s k e x (sent_again timer out fired is) = subst (Knows s) (sym is) k.calls
due_knows s k e x (fired_alone timer fired is) = subst (Knows s) (sym is) k.calls
due_knows s k e x (timed timer t place fired times there found is) = subst (Knows s) (sym is) (takes_by s k e place inputs.TimedOut _ _ tt)
due_knows s k e x (ended timer fired is) = subst (Knows s) (sym is) k.calls
due_knows s k e x (stopped timer is) = subst (Knows s) (sym is) (stopped_knows s timer k).calls
due_knows s k e x (call_fired timer place found is) =
    subst (Knows s) (sym is) (takes_by (without_call_timer timer s) (stopped_knows s timer k) e place (timer_input timer.timer) _ _ (timer_read timer.timer))

what_knows : BodiesDescribe → (s : Office) → KnowsDescriptions s → (now salt : ℕ) (what : What) (x : Effect) → WhatRow s now salt what x → Knows s x
what_knows describes s k now salt what x (came source bytes is row) = datagram_knows describes s k (setting now salt source) bytes x row
what_knows describes s k now salt what x (due is row) = due_knows s k (setting now salt no_source) x row

-- ---- an event

event_knows : BodiesDescribe → (s : Contents) → KnowsDescriptions (office s) → (e : Event) (taken : Option Taken) → Knows (office s) (row_by s e taken)
event_knows describes s k e (Some taken) = k.calls
event_knows describes s k e None =
    what_knows describes (office s) k (moment_at s e.now) e.salt e.what (what_row (office s) (moment_at s e.now) e.salt e.what) (what_view (office s) (moment_at s e.now) e.salt e.what)

row_knows : BodiesDescribe → (s : Contents) → KnowsDescriptions (office s) → (e : Event) → Knows (office s) (row s e)
unfolding row
row_knows describes s k e = event_knows describes s k e (only_counts s e)

known_by : (s : Contents) → KnowsDescriptions (office s) → (now : ℕ) (x : Effect) → Knows (office s) x → KnowsDescriptions (office (after_event s now x))
unfolding after_event
known_by s k now x h = record { address = k.address; calls = record { pairs = h.pairs; calls = h.calls } }

pub after_bodies : BodiesDescribe → (s : Contents) (e : Event) → KnowsDescriptions (office s) → KnowsDescriptions (office (after s e))
after_bodies describes s e k = known_by s k (moment_after s e) (row s e) (row_knows describes s k e)

-- ---- a new agent

-- of a configuration that keeps the rules, and whose address is of the size of its type
pub new_bodies : (c : Config) (s : Contents) → KeepsRules c → HasFourOctets c.ip → IsNew c s → KnowsDescriptions (office s)
new_bodies c s rules octets new =
    let address : IsServerAddress c.ip = record { sizes = octets; rules = rules.address } in
    let pairs : HavePorts (new_pool c.relay_first c.relay_pairs) = pairs_new c.relay_first c.relay_pairs rules.last in
    record {
      address = subst (λ (range : OwnRange). IsServerAddress range.ip) (sym new.range) address;
      calls = record {
        pairs = subst HavePorts (sym new.pool) pairs;
        calls = subst (All (KnowsCall s.range.ip)) (sym new.calls) (All-nil (KnowsCall s.range.ip));
      };
    }

-- ---- a list of events

answer_bodies : BodiesDescribe → (s : Contents) (e : Event) (taken : Option Taken) → KnowsDescriptions (office s) → KnowsDescriptions (office (after_answer s e taken))
answer_bodies describes s e None k = k
answer_bodies describes s e (Some taken) k = after_bodies describes s e k

list_bodies : BodiesDescribe → (s : Contents) (xs : List traces.Entry) → KnowsDescriptions (office s) → KnowsDescriptions (office (after_entries s xs))
list_bodies describes s [] k = k
list_bodies describes s (x ∷ xs) k = list_bodies describes (after_entry s x) xs (answer_bodies describes s x.event x.answer k)

pub known_bodies : BodiesDescribe → (c : Config) (s : Contents) (xs : List traces.Entry) → KeepsRules c → HasFourOctets c.ip → IsNew c s → AreEntries s xs → KnowsDescriptions (office (after_entries s xs))
known_bodies describes c s xs rules octets new are = list_bodies describes s xs (new_bodies c s rules octets new)
