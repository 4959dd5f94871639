-- Each event sends what reads back, and so do any events of a new agent.
use Rattle.std.proofs.Common.{◌≡◌, ℕ, ◌<◌, ◌^◌, List, [], ◌∷◌, ◌++◌, codes, Option, Some, None, Ok, refl, sym, subst}
use Rattle.std.specs.List.{All}
use Rattle.std.proofs.lemmas.List.Elements.{All-append, All-nil}
use Rattle.events.specs.declared.event.Event.{Event}
use Rattle.events.specs.declared.event.What.{What}
use Rattle.events.specs.declared.event.What.TheVariants as whats
use Rattle.events.specs.declared.sent.Sent.{Sent}
use Rattle.sip_uri.specs.declared.uri.Addr.{Addr}
use Rattle.sip_message.specs.declared.error.MessageError.{MessageError}
use Rattle.sip_message.specs.declared.error.MessageError.TheVariants as faults
use Rattle.sip_message.specs.declared.message.Message.{Message}
use Rattle.sip_message.specs.declared.message.Message.TheVariants as Kinds
use Rattle.sip_message.specs.declared.message.Parts.{Parts}
use Rattle.sip_message.specs.declared.message.Request.{Request}
use Rattle.sip_message.specs.AnswerableParts.{answerable_of}
use Rattle.sip_message.specs.Read.{message_of}
use Rattle.responses.specs.Words.{has_fit_branch, is_method as request_method}
use Rattle.std.specs.Prelude.{Result, Err}
use Rattle.transactions.specs.Changes.{fire_of}
use Rattle.call_core.specs.declared.action.CallTimer.{CallTimer}
use Rattle.call_core.specs.declared.action.CallTimer.TheVariants as timers
use Rattle.call_core.specs.declared.input.Input.TheVariants as inputs
use Rattle.calls.specs.declared.timer_id.CallTimerId.{CallTimerId}
use Rattle.plans.specs.Office.{Office}
use Rattle.plans.specs.declared.setting.Setting.{Setting}
use Rattle.plans.specs.declared.taken.Taken.{Taken}
use Rattle.plans.specs.declared.taken.Taken.TheVariants as takens
use Rattle.plans.specs.declared.taken.Why.TheVariants as whys
use Rattle.plans.specs.CallRows.{of_plan, takes, timer_input, without_call_timer}
use Rattle.plans.specs.Effect.{Effect}
use Rattle.plans.specs.Plan.{nothing}
use Rattle.plans.specs.declared.reason.Reason.TheVariants as reasons
use Rattle.event_rows.specs.Rows.{by_reading, datagram_row, fit_row, is_unreachable_message, no_source, only_counts, parts_of, read_row, received, refuses_alone, row, row_by, setting, unfit_branch, unread_by, unread_row, what_row}
use Rattle.event_rows.specs.State.{Contents, moment_at, office}
use Rattle.message_laws.specs.Addresses.{IsSource}
use Rattle.message_laws.specs.Askers.{KnowsAskers}
use Rattle.message_laws.specs.Bodies.{KnowsDescriptions}
use Rattle.message_laws.specs.Datagrams.{ComesFromSource}
use Rattle.message_laws.specs.Knowing.{KnowsTokens}
use Rattle.message_laws.specs.Sending.{KnowsSent}
use Rattle.message_laws.specs.Sound.{KnowsDialogs}
use Rattle.message_laws.proofs.Messages.Answerable.{can_answer}
use Rattle.message_laws.proofs.TokenUse.Events.{few_tokens}
use Rattle.message_laws.proofs.TokenUse.Grounds.{answerable_repeats, read_repeats}
use Rattle.message_laws.proofs.Messages.RequestViews.{by_if}
use Rattle.message_laws.proofs.Messages.Views.{DueRow, call_fired, due_what_view, ended, fired_alone, idle, listed, sent_again, stopped, timed}
use Rattle.message_laws.specs.ReadDatagrams.{IsReadDatagram}
use Rattle.message_laws.specs.SoundClients.{KnowsClients}
use Rattle.message_laws.proofs.Traces.Comings.{alone_comes}
use Rattle.message_laws.proofs.SentTexts.ReadReplies.{stateless_read}
use Rattle.message_laws.proofs.SentTexts.ReadRows.{SendsRead, request_received, response_received, takes_alone}
use Rattle.message_laws.proofs.SentTexts.ReadSends.{IsReady, fired_goes, is_ready}
use Rattle.message_laws.proofs.SentTexts.ReadSteps.{Laws}
use Rattle.message_laws.proofs.Traces.Scenes.{stopped_scenes}

-- ---- a datagram

message_reads : (laws : Laws) (s : Office) (e : Setting) → IsReady s → (text : List ℕ) (m : Message) → message_of text ≡ Ok m → IsSource e.source → SendsRead (received s e m)
message_reads laws s e k text (Kinds.Request r) read from = request_received laws s e k text r read from (can_answer text s e r read from k.scenes.few)
message_reads laws s e k text (Kinds.Response r) read from = response_received laws s e k text r read

unfit_reads : (s : Office) (e : Setting) (text : List ℕ) (m : Message) → message_of text ≡ Ok m → IsSource e.source → SendsRead (of_plan s (unfit_branch e m))
unfit_reads s e text (Kinds.Request r) read from =
    by_if (λ p. SendsRead (of_plan s p)) (request_method (codes "ACK") r) (nothing (takens.Dropped whys.NoBranch)) (refuses_alone e r.parts reasons.NoBranch)
    (λ b. All-nil IsReadDatagram) (λ b. stateless_read r.parts e reasons.NoBranch from (read_repeats text (Kinds.Request r) read))
unfit_reads s e text (Kinds.Response r) read from = All-nil IsReadDatagram

unread_by_reads : (s : Office) (e : Setting) (text : List ℕ) (fault : MessageError) (parts : Option Parts) → answerable_of text ≡ parts → IsSource e.source → SendsRead (of_plan s (unread_by e fault parts))
unread_by_reads s e text fault None can from = All-nil IsReadDatagram
unread_by_reads s e text fault (Some parts) can from = stateless_read parts e (reasons.Unread fault) from (answerable_repeats text parts can)

unread_reads : (s : Office) (e : Setting) (text : List ℕ) (fault : MessageError) → IsSource e.source → SendsRead (of_plan s (unread_row e text fault))
unfolding unread_row
unread_reads s e text faults.TooLong from = All-nil IsReadDatagram
unread_reads s e text fault from = unread_by_reads s e text fault (answerable_of text) refl from

fit_reads : (laws : Laws) (s : Office) (e : Setting) → IsReady s → (text : List ℕ) (m : Message) → message_of text ≡ Ok m → IsSource e.source → SendsRead (fit_row s e m)
fit_reads laws s e k text m read from =
    by_if SendsRead (is_unreachable_message m) (of_plan s (nothing (takens.Dropped whys.Stray))) (received s e m) (λ b. All-nil IsReadDatagram) (λ b. message_reads laws s e k text m read from)

read_reads : (laws : Laws) (s : Office) (e : Setting) → IsReady s → (text : List ℕ) (m : Message) → message_of text ≡ Ok m → IsSource e.source → SendsRead (read_row s e m)
unfolding read_row
read_reads laws s e k text m read from =
    by_if SendsRead (has_fit_branch (parts_of m).vias) (fit_row s e m) (of_plan s (unfit_branch e m)) (λ b. fit_reads laws s e k text m read from) (λ b. unfit_reads s e text m read from)

reading_reads : (laws : Laws) (s : Office) (e : Setting) → IsReady s → (text : List ℕ) (m : Result Message MessageError) → message_of text ≡ m → IsSource e.source → SendsRead (by_reading s e text m)
reading_reads laws s e k text (Ok m) read from = read_reads laws s e k text m read from
reading_reads laws s e k text (Err fault) read from = unread_reads s e text fault from

datagram_reads : (laws : Laws) (s : Office) (e : Setting) → IsReady s → (text : List ℕ) → IsSource e.source → SendsRead (datagram_row s e text)
unfolding datagram_row
datagram_reads laws s e k text from = reading_reads laws s e k text (message_of text) refl from

-- ---- what is due

stopped_ready : (s : Office) → IsReady s → (timer : CallTimerId) → IsReady (without_call_timer timer s)
stopped_ready s k timer = record { scenes = stopped_scenes s timer k.scenes; last = k.last; acks = k.acks; again = k.again }

timer_reads : (laws : Laws) (s : Office) (e : Setting) → IsReady s → (timer : CallTimer) (place : ℕ) → SendsRead (takes s e [] None None place (timer_input timer) None)
timer_reads laws s e k timers.Limit place = takes_alone laws s e k [] None None place inputs.Limit (All-nil IsReadDatagram) (alone_comes inputs.Limit tt refl tt)
timer_reads laws s e k timers.Repeat place = takes_alone laws s e k [] None None place inputs.Repeat (All-nil IsReadDatagram) (alone_comes inputs.Repeat tt refl tt)
timer_reads laws s e k timers.Wait place = takes_alone laws s e k [] None None place inputs.Wait (All-nil IsReadDatagram) (alone_comes inputs.Wait tt refl tt)
timer_reads laws s e k timers.Lifetime place = takes_alone laws s e k [] None None place inputs.Lifetime (All-nil IsReadDatagram) (alone_comes inputs.Lifetime tt refl tt)

due_reads : (laws : Laws) (s : Office) (e : Setting) → IsReady s → (x : Effect) → DueRow s e x → SendsRead x
due_reads laws s e k x (idle is) = subst SendsRead (sym is) (All-nil IsReadDatagram)
due_reads laws s e k x (listed users is) = subst SendsRead (sym is) (All-nil IsReadDatagram)
due_reads laws s e k x (sent_again timer out fired is) = subst SendsRead (sym is) (fired_goes s k timer out fired)
due_reads laws s e k x (fired_alone timer fired is) = subst SendsRead (sym is) (All-nil IsReadDatagram)
due_reads laws s e k x (timed timer t place fired times there found is) =
    subst SendsRead (sym is) (takes_alone laws s e k (fire_of timer ∷ []) None None place inputs.TimedOut (All-nil IsReadDatagram) (alone_comes inputs.TimedOut tt refl tt))
due_reads laws s e k x (ended timer fired is) = subst SendsRead (sym is) (All-nil IsReadDatagram)
due_reads laws s e k x (stopped timer is) = subst SendsRead (sym is) (All-nil IsReadDatagram)
due_reads laws s e k x (call_fired timer place found is) = subst SendsRead (sym is) (timer_reads laws (without_call_timer timer s) e (stopped_ready s k timer) timer.timer place)

-- ---- an event

came_reads : (laws : Laws) (s : Office) (now salt : ℕ) → IsReady s → (source : Addr) (bytes : List ℕ) → IsSource source → SendsRead (what_row s now salt (whats.Datagram source bytes))
unfolding what_row
came_reads laws s now salt k source bytes from = datagram_reads laws s (setting now salt source) k bytes from

what_reads : (laws : Laws) (s : Office) (now salt : ℕ) → IsReady s → (what : What) → ComesFromSource what → SendsRead (what_row s now salt what)
what_reads laws s now salt k (whats.Datagram source bytes) from = came_reads laws s now salt k source bytes from
what_reads laws s now salt k whats.Due from = due_reads laws s (setting now salt no_source) k (what_row s now salt whats.Due) (due_what_view s now salt whats.Due tt)
what_reads laws s now salt k (whats.Silent number) from = due_reads laws s (setting now salt no_source) k (what_row s now salt (whats.Silent number)) (due_what_view s now salt (whats.Silent number) tt)
what_reads laws s now salt k (whats.Users users) from = due_reads laws s (setting now salt no_source) k (what_row s now salt (whats.Users users)) (due_what_view s now salt (whats.Users users) tt)

-- what is known of an agent, where this was sent
pub record KnowsReads (s : Office) (before : List Sent) : Type 0 where
  pub dialogs : KnowsDialogs s
  pub clients : KnowsClients s
  pub descriptions : KnowsDescriptions s
  pub askers : KnowsAskers s
  pub tokens : KnowsTokens s
  pub again : KnowsSent s before
  pub reads : All IsReadDatagram before

ready_by : (s : Office) (before : List Sent) → KnowsReads s before → s.tokens < 2 ^ 63 → IsReady s
ready_by s before k few =
    is_ready s before (record { dialogs = k.dialogs; clients = k.clients; descriptions = k.descriptions; askers = k.askers; tokens = k.tokens; few = few }) k.again k.reads

event_reads : (laws : Laws) (s : Contents) (before : List Sent) → KnowsReads (office s) before → (e : Event) (taken : Option Taken) → only_counts s e ≡ taken → ComesFromSource e.what → SendsRead (row_by s e taken)
event_reads laws s before k e (Some taken) is from = All-nil IsReadDatagram
event_reads laws s before k e None is from = what_reads laws (office s) (moment_at s e.now) e.salt (ready_by (office s) before k (few_tokens s e is)) e.what from

row_reads : (laws : Laws) (s : Contents) (before : List Sent) → KnowsReads (office s) before → (e : Event) → ComesFromSource e.what → SendsRead (row s e)
unfolding row
row_reads laws s before k e from = event_reads laws s before k e (only_counts s e) refl from

pub after_reads : (laws : Laws) (s : Contents) (e : Event) (before : List Sent) → ComesFromSource e.what → KnowsDialogs (office s) → KnowsClients (office s) → KnowsDescriptions (office s) → KnowsAskers (office s)
    → KnowsTokens (office s) → KnowsSent (office s) before → All IsReadDatagram before → All IsReadDatagram (before ++ (row s e).plan.sends)
after_reads laws s e before from dialogs clients descriptions askers tokens again reads =
    All-append IsReadDatagram before (row s e).plan.sends reads
    (row_reads laws s before (record { dialogs = dialogs; clients = clients; descriptions = descriptions; askers = askers; tokens = tokens; again = again; reads = reads }) e from)
