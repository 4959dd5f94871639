-- What an agent knows of the requests that wait for its responses after events, and that all it sends in them is its
-- own.
use Rattle.std.proofs.Common.{◌≡◌, ◌∙◌, ℕ, ◌<◌, ◌^◌, List, [], ◌∷◌, ◌++◌, codes, Option, Some, None, Result, Ok, Err, refl, ap, sym, subst, inl, arith}
use Rattle.std.specs.List.{All}
use Rattle.std.proofs.lemmas.List.{append-nil, append_assoc}
use Rattle.std.proofs.lemmas.List.Elements.{All-append, All-head, All-nil, All-tail}
use Rattle.configuration.specs.declared.config.Config.{Config}
use Rattle.events.specs.declared.event.Event.{Event}
use Rattle.events.specs.declared.event.What.{What}
use Rattle.events.specs.declared.event.What.TheVariants as whats
use Rattle.events.specs.declared.sent.Sent.{Sent}
use Rattle.sip_uri.specs.declared.uri.Addr.{Addr}
use Rattle.sip_message.specs.declared.error.MessageError.{MessageError}
use Rattle.sip_message.specs.declared.error.MessageError.TheVariants as faults
use Rattle.sip_message.specs.declared.message.Message.{Message}
use Rattle.sip_message.specs.declared.message.Message.TheVariants as Kinds
use Rattle.sip_message.specs.declared.message.Parts.{Parts}
use Rattle.sip_message.specs.declared.message.Request.{Request}
use Rattle.sip_message.specs.declared.message.Response.{Response}
use Rattle.sip_message.specs.AnswerableParts.{answerable_of}
use Rattle.sip_message.specs.Read.{message_of}
use Rattle.sip_message.specs.Repeatable.{CanBeRepeated}
use Rattle.responses.specs.Responding.{stateless}
use Rattle.responses.specs.Words.{has_fit_branch, is_method as request_method}
use Rattle.transactions.specs.declared.change.Entry.{Entry as TableEntry}
use Rattle.transactions.specs.declared.outcome.Outgoing.{Outgoing}
use Rattle.transactions.specs.declared.outcome.Verdict.{Verdict}
use Rattle.transactions.specs.declared.outcome.Verdict.TheVariants as verdicts
use Rattle.transactions.specs.declared.transaction.TimerId.{TimerId}
use Rattle.transactions.specs.declared.transaction.Transaction.{Transaction}
use Rattle.transactions.specs.Changes.{fire_of}
use Rattle.transactions.specs.Contents.{reception_of}
use Rattle.transactions.specs.Transactions.{sent}
use Rattle.call_core.specs.declared.action.CallTimer.{CallTimer}
use Rattle.call_core.specs.declared.action.CallTimer.TheVariants as timers
use Rattle.call_core.specs.declared.input.Input.TheVariants as inputs
use Rattle.calls.specs.declared.timer_id.CallTimerId.{CallTimerId}
use Rattle.calls.specs.Finding.{place_by_ack}
use Rattle.plans.specs.Office.{Office}
use Rattle.plans.specs.declared.setting.Setting.{Setting}
use Rattle.plans.specs.declared.taken.Taken.{Taken}
use Rattle.plans.specs.declared.taken.Taken.TheVariants as takens
use Rattle.plans.specs.declared.taken.Why.TheVariants as whys
use Rattle.plans.specs.CallRows as rows
use Rattle.plans.specs.CallRows.{of_plan, takes, timer_input, without_call_timer}
use Rattle.plans.specs.Effect.{Effect}
use Rattle.plans.specs.Plan.{nothing}
use Rattle.plans.specs.Reasons.{status}
use Rattle.plans.specs.declared.reason.Reason.{Reason}
use Rattle.plans.specs.declared.reason.Reason.TheVariants as reasons
use Rattle.event_rows.specs.Rows.{after, by_reading, datagram_row, fit_row, is_full, is_unreachable_message, moment_after, no_source, only_counts, parts_of, read_row, received, received_by, refuses_alone, request_by, row, row_by, setting, unfit_branch, unread_by, unread_row, what_row}
use Rattle.event_rows.specs.State.{Contents, IsNew, after_event, moment_at, office}
use Rattle.event_rows.specs.Trace.{AreEntries, Entry, IsEntryWith, after_answer, after_entries, after_entry}
use Rattle.sdp.specs.declared.description.Description.{Description}
use Rattle.call_rules.specs.Content.{described}
use Rattle.message_laws.specs.Addresses.{IsConfigured, IsReached, IsSource}
use Rattle.message_laws.specs.Bodies.{KnowsDescriptions, WasRead}
use Rattle.message_laws.proofs.Messages.Answerable.{can_answer}
use Rattle.message_laws.proofs.Messages.BodyRows.{after_bodies, new_bodies}
use Rattle.message_laws.proofs.QuietEvents.Describing.{BodiesDescribe}
use Rattle.message_laws.proofs.Messages.ReadBodies.{body_read, body_read_if}
use Rattle.message_laws.specs.Askers.{CameFromSource, IsAskedIf, IsServed, KeepsAsked, KnowsAskers, KnowsOffers}
use Rattle.message_laws.specs.Knowing.{KnowsTokens}
use Rattle.message_laws.specs.Knowledge.{KnowsMessages, sends_of}
use Rattle.message_laws.specs.Datagrams.{ComesFromSource, EntersFromSource, IsOwnDatagram}
use Rattle.message_laws.specs.Sending.{KnowsSent}
use Rattle.message_laws.proofs.Askers.AskerEffects.{AskedEffect, GoesOwn, IsReady, is_ready, moves_ask, nothing_asks, plan_asks, takes_ask}
use Rattle.message_laws.proofs.Askers.AskerEvents.{fired_goes, message_begun, message_goes, new_begun}
use Rattle.message_laws.proofs.Askers.AskerRows.{new_asks, response_asks}
use Rattle.message_laws.proofs.TokenUse.Events.{few_tokens}
use Rattle.message_laws.proofs.TokenUse.Further.{none_follows}
use Rattle.message_laws.proofs.TokenUse.Grounds.{answerable_repeats, read_repeats}
use Rattle.message_laws.proofs.AwaitedOffers.Lists.{answer_messages, new_messages}
use Rattle.message_laws.proofs.Messages.MessageViews.{ReceivedRow, acknowledged, begun_by, dropped, moved, received_view, requested, responded}
use Rattle.message_laws.proofs.Messages.ReadParts.{response_status}
use Rattle.message_laws.proofs.Messages.Repeats.{CanAnswer, one_own, refusal_needs, refusal_status, responds_read, stateless_token}
use Rattle.message_laws.proofs.Messages.RequestViews.{by_if}
use Rattle.message_laws.proofs.Askers.ServedRequests.{all_entered_asked}
use Rattle.message_laws.proofs.Askers.SpokenSteps.{IsBegun, IsBegunAs, same_kept}
use Rattle.message_laws.proofs.Messages.Views.{DueRow, call_fired, due_what_view, ended, fired_alone, idle, listed, sent_again, stopped, timed}

-- ---- a request

ack_asks : (s : Office) → IsReady s → (e : Setting) (begun : List TableEntry) (place : Option ℕ) → IsBegun begun → AskedEffect s (rows.ack_by s e begun place)
ack_asks s k e begun None b = nothing_asks s k (takens.Dropped whys.Ack)
ack_asks s k e begun (Some place) b = takes_ask s k e begun None None place inputs.Ack None b (All-nil IsOwnDatagram) tt refl tt

ack_row_asks : (s : Office) → IsReady s → (e : Setting) (r : Request) (begun : List TableEntry) → IsBegun begun → AskedEffect s (rows.ack_row s e r begun)
unfolding rows.ack_row
ack_row_asks s k e r begun b = ack_asks s k e begun (place_by_ack r.parts s.calls.calls) b

request_asks : (s : Office) → IsReady s → (e : Setting) (r : Request) (begun : List TableEntry) (verdict : Verdict) (send : Option Outgoing) → CanAnswer s e r → IsBegun begun → GoesOwn send
    → ((id : ℕ) → verdict ≡ verdicts.New id → IsBegunAs s.table begun id) → ((offer : Description) → described r.headers r.body ≡ Some offer → WasRead offer) → AskedEffect s (request_by s e r begun verdict send)
unfolding request_by
request_asks s k e r begun (verdicts.New id) send can b own new read = new_asks s k e r begun id (record { can = can; begins = b; opens = new id refl; read = read })
request_asks s k e r begun verdicts.Repeat send can b own new read = moves_ask s k begun send b own
request_asks s k e r begun verdicts.Swallowed send can b own new read = moves_ask s k begun send b own
request_asks s k e r begun (verdicts.Up id) send can b own new read = ack_row_asks s k e r begun b
request_asks s k e r begun verdicts.Stray send can b own new read = ack_row_asks s k e r begun b

-- ---- a message

request_received : BodiesDescribe → (bytes : List ℕ) (s : Office) → IsReady s → (e : Setting) (r : Request) → message_of bytes ≡ Ok (Kinds.Request r) → IsSource e.source → AskedEffect s (received s e (Kinds.Request r))
unfolding received
request_received describes bytes s k e r read from =
    let m = Kinds.Request r in
    by_if (AskedEffect s) (is_full s e (reception_of s.table m)) (of_plan s (nothing takens.Shed)) (received_by s e m (begun_by s e m) (reception_of s.table m).verdict (reception_of s.table m).send)
    (λ full. nothing_asks s k takens.Shed)
    (λ room. request_asks s k e r (begun_by s e m) (reception_of s.table m).verdict (reception_of s.table m).send (can_answer bytes s e r read from k.few) (message_begun bytes s e m read) (message_goes s k m)
    (λ id new. new_begun s e r id new) (λ offer said. body_read describes bytes (Kinds.Request r) offer read said))

response_received : BodiesDescribe → (bytes : List ℕ) (s : Office) → IsReady s → (e : Setting) (r : Response) (x : Effect) → message_of bytes ≡ Ok (Kinds.Response r) → ReceivedRow s e (Kinds.Response r) x → AskedEffect s x
response_received describes bytes s k e r x read (dropped taken is) = subst (AskedEffect s) (sym is) (nothing_asks s k taken)
response_received describes bytes s k e r x read (moved is) =
    subst (AskedEffect s) (sym is) (moves_ask s k (begun_by s e (Kinds.Response r)) _ (message_begun bytes s e (Kinds.Response r) read) (message_goes s k (Kinds.Response r)))
response_received describes bytes s k e r x read (requested other id is new view) = absurd cc
response_received describes bytes s k e r x read (acknowledged other place is found view) = absurd cc
response_received describes bytes s k e r x read (responded other id t is up to view) =
    response_asks s k e other (begun_by s e (Kinds.Response r)) _ id t x (body_read_if describes bytes (Kinds.Response other) (described other.headers other.body) (read ∙ ap (λ (m : Message). Ok m) is) refl) (response_status bytes other (read ∙ ap (λ (m : Message). Ok m) is)) (message_begun bytes s e (Kinds.Response r) read) (message_goes s k (Kinds.Response r)) view

message_asks : BodiesDescribe → (bytes : List ℕ) (s : Office) → IsReady s → (e : Setting) (m : Message) → message_of bytes ≡ Ok m → IsSource e.source → AskedEffect s (received s e m)
message_asks describes bytes s k e (Kinds.Request r) read from = request_received describes bytes s k e r read from
message_asks describes bytes s k e (Kinds.Response r) read from = response_received describes bytes s k e r (received s e (Kinds.Response r)) read (received_view s e (Kinds.Response r))

-- ---- a datagram

-- a response that no transaction sends
stateless_asks : (s : Office) → IsReady s → (e : Setting) (parts : Parts) (reason : Reason) → IsSource e.source → CanBeRepeated parts → AskedEffect s (of_plan s (refuses_alone e parts reason))
stateless_asks s k e parts reason from repeats =
    plan_asks s k (refuses_alone e parts reason)
    (one_own _ (inl (responds_read parts e.source (status reason) stateless [] from repeats stateless_token (refusal_status reason) (none_follows (status reason) parts.cseq.method (refusal_needs reason parts.cseq.method))))) tt (λ id a. tt)

unfit_asks : (bytes : List ℕ) (s : Office) → IsReady s → (e : Setting) (m : Message) → message_of bytes ≡ Ok m → IsSource e.source → AskedEffect s (of_plan s (unfit_branch e m))
unfit_asks bytes s k e (Kinds.Request r) read from =
    by_if (λ p. AskedEffect s (of_plan s p)) (request_method (codes "ACK") r) (nothing (takens.Dropped whys.NoBranch)) (refuses_alone e r.parts reasons.NoBranch)
    (λ b. nothing_asks s k (takens.Dropped whys.NoBranch)) (λ b. stateless_asks s k e r.parts reasons.NoBranch from (read_repeats bytes (Kinds.Request r) read))
unfit_asks bytes s k e (Kinds.Response r) read from = nothing_asks s k (takens.Dropped whys.NoBranch)

unread_by_asks : (bytes : List ℕ) (s : Office) → IsReady s → (e : Setting) (fault : MessageError) (parts : Option Parts) → answerable_of bytes ≡ parts → IsSource e.source → AskedEffect s (of_plan s (unread_by e fault parts))
unread_by_asks bytes s k e fault None can from = nothing_asks s k (takens.Dropped (whys.Unread fault))
unread_by_asks bytes s k e fault (Some parts) can from = stateless_asks s k e parts (reasons.Unread fault) from (answerable_repeats bytes parts can)

unread_asks : (bytes : List ℕ) (s : Office) → IsReady s → (e : Setting) (fault : MessageError) → IsSource e.source → AskedEffect s (of_plan s (unread_row e bytes fault))
unfolding unread_row
unread_asks bytes s k e faults.TooLong from = nothing_asks s k (takens.Dropped (whys.Unread faults.TooLong))
unread_asks bytes s k e fault from = unread_by_asks bytes s k e fault (answerable_of bytes) refl from

fit_asks : BodiesDescribe → (bytes : List ℕ) (s : Office) → IsReady s → (e : Setting) (m : Message) → message_of bytes ≡ Ok m → IsSource e.source → AskedEffect s (fit_row s e m)
fit_asks describes bytes s k e m read from =
    by_if (AskedEffect s) (is_unreachable_message m) (of_plan s (nothing (takens.Dropped whys.Stray))) (received s e m) (λ b. nothing_asks s k (takens.Dropped whys.Stray)) (λ b. message_asks describes bytes s k e m read from)

read_asks : BodiesDescribe → (bytes : List ℕ) (s : Office) → IsReady s → (e : Setting) (m : Message) → message_of bytes ≡ Ok m → IsSource e.source → AskedEffect s (read_row s e m)
unfolding read_row
read_asks describes bytes s k e m read from =
    by_if (AskedEffect s) (has_fit_branch (parts_of m).vias) (fit_row s e m) (of_plan s (unfit_branch e m)) (λ b. fit_asks describes bytes s k e m read from) (λ b. unfit_asks bytes s k e m read from)

reading_asks : BodiesDescribe → (bytes : List ℕ) (s : Office) → IsReady s → (e : Setting) (m : Result Message MessageError) → message_of bytes ≡ m → IsSource e.source → AskedEffect s (by_reading s e bytes m)
reading_asks describes bytes s k e (Ok m) read from = read_asks describes bytes s k e m read from
reading_asks describes bytes s k e (Err fault) read from = unread_asks bytes s k e fault from

datagram_asks : BodiesDescribe → (s : Office) → IsReady s → (e : Setting) (bytes : List ℕ) → IsSource e.source → AskedEffect s (datagram_row s e bytes)
unfolding datagram_row
datagram_asks describes s k e bytes from = reading_asks describes bytes s k e (message_of bytes) refl from

-- ---- what is due

fire_begun : (timer : TimerId) → IsBegun (fire_of timer ∷ [])
fire_begun timer = record { spares = λ id. (tt, tt); asked = (tt, tt) }

none_begun : IsBegun []
none_begun = record { spares = λ id. tt; asked = tt }

stopped_ready : (s : Office) → IsReady s → (timer : CallTimerId) → IsReady (without_call_timer timer s)
stopped_ready s k timer = record {
  askers = record { slots = k.askers.slots; offers = k.askers.offers; server = k.askers.server; least = k.askers.least };
  tags = k.tags;
  few = k.few;
  last = k.last;
  acks = k.acks;
  again = k.again;
  media = record { address = k.media.address; calls = record { pairs = k.media.calls.pairs; calls = k.media.calls.calls } };
}

-- the calls without a timer are these calls
stopped_effect : (s : Office) (timer : CallTimerId) (x : Effect) → AskedEffect (without_call_timer timer s) x → AskedEffect s x
stopped_effect s timer x h = record { sends = h.sends; entries = h.entries; offers = h.offers; keeps = h.keeps }

timer_asks : (s : Office) → IsReady s → (e : Setting) (timer : CallTimer) (place : ℕ) → AskedEffect s (takes s e [] None None place (timer_input timer) None)
timer_asks s k e timers.Limit place = takes_ask s k e [] None None place inputs.Limit None none_begun (All-nil IsOwnDatagram) tt refl tt
timer_asks s k e timers.Repeat place = takes_ask s k e [] None None place inputs.Repeat None none_begun (All-nil IsOwnDatagram) tt refl tt
timer_asks s k e timers.Wait place = takes_ask s k e [] None None place inputs.Wait None none_begun (All-nil IsOwnDatagram) tt refl tt
timer_asks s k e timers.Lifetime place = takes_ask s k e [] None None place inputs.Lifetime None none_begun (All-nil IsOwnDatagram) tt refl tt

due_asks : (s : Office) → IsReady s → (e : Setting) (x : Effect) → DueRow s e x → AskedEffect s x
due_asks s k e x (idle is) = subst (AskedEffect s) (sym is) (nothing_asks s k takens.Idle)
due_asks s k e x (listed users is) =
    let h = nothing_asks s k takens.Idle in
    subst (AskedEffect s) (sym is) (record { sends = h.sends; entries = h.entries; offers = h.offers; keeps = h.keeps })
due_asks s k e x (sent_again timer out fired is) =
    subst (AskedEffect s) (sym is) (moves_ask s k (fire_of timer ∷ []) (Some out) (fire_begun timer) (fired_goes s k timer out fired))
due_asks s k e x (fired_alone timer fired is) = subst (AskedEffect s) (sym is) (moves_ask s k (fire_of timer ∷ []) None (fire_begun timer) (All-nil IsOwnDatagram))
due_asks s k e x (timed timer t place fired times there found is) =
    subst (AskedEffect s) (sym is) (takes_ask s k e (fire_of timer ∷ []) None None place inputs.TimedOut None (fire_begun timer) (All-nil IsOwnDatagram) tt refl tt)
due_asks s k e x (ended timer fired is) =
    let h = moves_ask s k (fire_of timer ∷ []) None (fire_begun timer) (All-nil IsOwnDatagram) in
    subst (AskedEffect s) (sym is) (record { sends = h.sends; entries = h.entries; offers = h.offers; keeps = h.keeps })
due_asks s k e x (stopped timer is) =
    let h = moves_ask (without_call_timer timer s) (stopped_ready s k timer) [] None none_begun (All-nil IsOwnDatagram) in
    subst (AskedEffect s) (sym is) (stopped_effect s timer _ h)
due_asks s k e x (call_fired timer place found is) =
    subst (AskedEffect s) (sym is) (stopped_effect s timer _ (timer_asks (without_call_timer timer s) (stopped_ready s k timer) e timer.timer place))

-- ---- an event

came_asks : BodiesDescribe → (s : Office) → IsReady s → (now salt : ℕ) (source : Addr) (bytes : List ℕ) → IsSource source → AskedEffect s (what_row s now salt (whats.Datagram source bytes))
unfolding what_row
came_asks describes s k now salt source bytes from = datagram_asks describes s k (setting now salt source) bytes from

what_asks : BodiesDescribe → (s : Office) → IsReady s → (now salt : ℕ) (what : What) → ComesFromSource what → AskedEffect s (what_row s now salt what)
what_asks describes s k now salt (whats.Datagram source bytes) from = came_asks describes s k now salt source bytes from
what_asks describes s k now salt whats.Due from = due_asks s k (setting now salt no_source) (what_row s now salt whats.Due) (due_what_view s now salt whats.Due tt)
what_asks describes s k now salt (whats.Silent number) from = due_asks s k (setting now salt no_source) (what_row s now salt (whats.Silent number)) (due_what_view s now salt (whats.Silent number) tt)
what_asks describes s k now salt (whats.Users users) from = due_asks s k (setting now salt no_source) (what_row s now salt (whats.Users users)) (due_what_view s now salt (whats.Users users) tt)

pub record EventSends (s : Contents) (x : Effect) : Type 0 where
  pub sends : All IsOwnDatagram x.plan.sends
  pub askers : (now : ℕ) → KnowsAskers (office (after_event s now x))
  pub keeps : (now : ℕ) → All (KeepsAsked s.table.slots (office (after_event s now x)).table.slots) (office (after_event s now x)).calls.calls

entered_knows : (s : Contents) → KnowsAskers (office s) → (x : Effect) → AskedEffect (office s) x → EventSends s x
unfolding after_event
entered_knows s k x h = record {
  sends = h.sends;
  askers = λ now. record { slots = all_entered_asked now s.table x.plan.changes h.entries k.slots; offers = h.offers now; server = k.server; least = k.least };
  keeps = h.keeps;
}

counted_asks : (s : Contents) → KnowsAskers (office s) → (taken : Taken) → AskedEffect (office s) (of_plan (office s) (nothing taken))
counted_asks s k taken = record {
  sends = All-nil IsOwnDatagram;
  entries = tt;
  offers = λ now. k.offers;
  keeps = λ now. same_kept s.table.slots s.table.slots s.calls.calls (λ id a x there. (x, there, refl)) k.offers;
}

event_asks : BodiesDescribe → (s : Contents) (sent : List Sent) → KnowsAskers (office s) → KnowsTokens (office s) → KnowsSent (office s) sent → All IsOwnDatagram sent → KnowsDescriptions (office s) → (e : Event) (taken : Option Taken) → only_counts s e ≡ taken
    → ComesFromSource e.what → AskedEffect (office s) (row_by s e taken)
event_asks describes s sent k tokens was own media e (Some taken) is from = counted_asks s k taken
event_asks describes s sent k tokens was own media e None is from = what_asks describes (office s) (is_ready (office s) sent k tokens (few_tokens s e is) was own media) (moment_at s e.now) e.salt e.what from

row_asks : BodiesDescribe → (s : Contents) (sent : List Sent) → KnowsAskers (office s) → KnowsTokens (office s) → KnowsSent (office s) sent → All IsOwnDatagram sent → KnowsDescriptions (office s) → (e : Event) → ComesFromSource e.what → AskedEffect (office s) (row s e)
unfolding row
row_asks describes s sent k tokens was own media e from = event_asks describes s sent k tokens was own media e (only_counts s e) refl from

pub after_askers : BodiesDescribe → (s : Contents) (e : Event) (sent : List Sent) → ComesFromSource e.what → KnowsTokens (office s) → KnowsSent (office s) sent → KnowsDescriptions (office s) → KnowsAskers (office s) → All IsOwnDatagram sent → KnowsAskers (office (after s e))
after_askers describes s e sent from tokens was media k own = (entered_knows s k (row s e) (row_asks describes s sent k tokens was own media e from)).askers (moment_after s e)

pub after_kept : BodiesDescribe → (s : Contents) (e : Event) (sent : List Sent) → ComesFromSource e.what → KnowsTokens (office s) → KnowsSent (office s) sent → KnowsDescriptions (office s) → KnowsAskers (office s) → All IsOwnDatagram sent
    → All (KeepsAsked (office s).table.slots (office (after s e)).table.slots) (office (after s e)).calls.calls
after_kept describes s e sent from tokens was media k own = (entered_knows s k (row s e) (row_asks describes s sent k tokens was own media e from)).keeps (moment_after s e)

pub after_own : BodiesDescribe → (s : Contents) (e : Event) (sent : List Sent) → ComesFromSource e.what → KnowsTokens (office s) → KnowsSent (office s) sent → KnowsDescriptions (office s) → KnowsAskers (office s) → All IsOwnDatagram sent
    → All IsOwnDatagram (sent ++ (row s e).plan.sends)
after_own describes s e sent from tokens was media k own = All-append IsOwnDatagram sent (row s e).plan.sends own (row_asks describes s sent k tokens was own media e from).sends

-- ---- a new agent

new_offers : (slots : List (Option Transaction)) → KnowsOffers slots []
new_offers slots = record { sources = All-nil CameFromSource; served = All-nil (IsServed slots); apart = tt }

pub new_askers : (c : Config) (s : Contents) → IsConfigured c → IsNew c s → KnowsAskers (office s)
new_askers c s is new = record {
  slots = subst (All IsAskedIf) (sym new.slots) (All-nil IsAskedIf);
  offers = subst (KnowsOffers s.table.slots) (sym new.calls) (new_offers s.table.slots);
  server = subst IsReached (sym new.server) (record { source = is.source; four = is.four; port = is.rules.port });
  least = subst (λ n. n < 2 ^ 64) (sym new.least) (omega (arith, is.rules.bounded_lifetime));
}

-- ---- after any events

pub record KnowsOwn (s : Office) (sent : List Sent) : Type 0 where
  pub messages : KnowsMessages s sent
  pub askers : KnowsAskers s
  pub own : All IsOwnDatagram sent
  pub media : KnowsDescriptions s

answer_own : BodiesDescribe → (s : Contents) (x : Entry) (sent : List Sent) (taken : Option Taken) → IsEntryWith s x taken → EntersFromSource x → KnowsOwn (office s) sent → KnowsOwn (office (after_answer s x.event taken)) (sent ++ x.sends)
answer_own describes s x sent None lost from k = record {
  messages = answer_messages s x sent None lost k.messages;
  askers = k.askers;
  media = k.media;
  own = subst (λ ys. All IsOwnDatagram (sent ++ ys)) (sym lost.sends) (All-append IsOwnDatagram sent [] k.own (All-nil IsOwnDatagram));
}
answer_own describes s x sent (Some taken) is from k = record {
  messages = answer_messages s x sent (Some taken) is k.messages;
  media = after_bodies describes s x.event k.media;
  askers = after_askers describes s x.event sent from k.messages.tokens k.messages.again k.media k.askers k.own;
  own = subst (λ ys. All IsOwnDatagram (sent ++ ys)) (sym is.sends) (after_own describes s x.event sent from k.messages.tokens k.messages.again k.media k.askers k.own);
}

list_own : BodiesDescribe → (s : Contents) (xs : List Entry) (sent : List Sent) → AreEntries s xs → All EntersFromSource xs → KnowsOwn (office s) sent → KnowsOwn (office (after_entries s xs)) (sent ++ sends_of xs)
list_own describes s [] sent are from k = subst (KnowsOwn (office s)) (sym (append-nil sent)) k
list_own describes s (x ∷ xs) sent are from k =
    subst (KnowsOwn (office (after_entries (after_entry s x) xs))) (append_assoc sent x.sends (sends_of xs))
    (list_own describes (after_entry s x) xs (sent ++ x.sends) are.1 (All-tail EntersFromSource x xs from) (answer_own describes s x sent x.answer are.0 (All-head EntersFromSource x xs from) k))

new_list_own : BodiesDescribe → (c : Config) (s : Contents) (xs : List Entry) → IsConfigured c → IsNew c s → AreEntries s xs → All EntersFromSource xs → KnowsOwn (office (after_entries s xs)) (sends_of xs)
new_list_own describes c s xs is new are from = list_own describes s xs [] are from (record { messages = new_messages c s new; askers = new_askers c s is new; own = All-nil IsOwnDatagram; media = new_bodies c s is.rules (record { four = is.four; octets = is.source.octets }) new })

pub new_list_askers : BodiesDescribe → (c : Config) (s : Contents) (xs : List Entry) → IsConfigured c → IsNew c s → AreEntries s xs → All EntersFromSource xs → KnowsAskers (office (after_entries s xs))
new_list_askers describes c s xs is new are from = (new_list_own describes c s xs is new are from).askers

pub new_list_sends : BodiesDescribe → (c : Config) (s : Contents) (xs : List Entry) → IsConfigured c → IsNew c s → AreEntries s xs → All EntersFromSource xs → All IsOwnDatagram (sends_of xs)
new_list_sends describes c s xs is new are from = (new_list_own describes c s xs is new are from).own
