-- What each event results in: one row for each answer of the transactions and each rule.
use Rattle.std.specs.Prelude.{ℕ, ◌+◌, ◌&&◌, ◌||◌, Bool, true, false, nat_le, nat_lt, List, [], ◌∷◌, length, map, min, codes, Option, Some, None, is_some, option_map, option_and_then, unwrap_or, Result, Ok, Err, if◌then◌else◌}
use Rattle.sip_uri.specs.declared.uri.Addr.{Addr}
use Rattle.sip_message.specs.declared.error.MessageError.{MessageError}
use Rattle.sip_message.specs.declared.error.MessageError.TheVariants as faults
use Rattle.sip_message.specs.declared.headers.Header.{Header}
use Rattle.sip_message.specs.declared.message.Message.{Message}
use Rattle.sip_message.specs.declared.message.Message.TheVariants as Kinds
use Rattle.sip_message.specs.declared.message.Parts.{Parts}
use Rattle.sip_message.specs.declared.message.Request.{Request}
use Rattle.sip_message.specs.AnswerableParts.{answerable_of}
use Rattle.sip_message.specs.Lookup.{named}
use Rattle.sip_message.specs.Party.{has_tag}
use Rattle.sip_message.specs.Read.{max_datagram, message_of}
use Rattle.sip_message.specs.Words.{tag_value}
use Rattle.sip_writing.specs.Reply.{response_address}
use Rattle.registrar.specs.declared.binding.Binding.{Binding}
use Rattle.registrar.specs.declared.refusal.Refusal.{Refusal}
use Rattle.registrar.specs.Registrar.{answer_of, PlanContents, plan_of, rules_of}
use Rattle.timers.specs.declared.timers.Timer.{Timer}
use Rattle.timers.specs.Queue.{first, first_due}
use Rattle.transactions.specs.declared.change.Entry.{Entry}
use Rattle.transactions.specs.declared.outcome.Fired.{Fired}
use Rattle.transactions.specs.declared.outcome.Fired.TheVariants as fires
use Rattle.transactions.specs.declared.outcome.Outgoing.{Outgoing}
use Rattle.transactions.specs.declared.outcome.Reception.{Reception}
use Rattle.transactions.specs.declared.outcome.Verdict.{Verdict}
use Rattle.transactions.specs.declared.outcome.Verdict.TheVariants as verdicts
use Rattle.transactions.specs.declared.transaction.TimerId.{TimerId}
use Rattle.transactions.specs.declared.transaction.Transaction.{Transaction}
use Rattle.transactions.specs.Changes.{change_of, fire_of}
use Rattle.transactions.specs.Contents.{reception_of, fired_of}
use Rattle.transactions.specs.Shares.{has_no_room}
use Rattle.transactions.specs.Slots.{at}
use Rattle.events.specs.declared.event.Event.{Event}
use Rattle.events.specs.declared.event.What.{What}
use Rattle.events.specs.declared.event.What.TheVariants as whats
use Rattle.plans.specs.declared.reason.Reason.{Reason}
use Rattle.plans.specs.declared.reason.Reason.TheVariants as reasons
use Rattle.plans.specs.declared.setting.Setting.{Setting}
use Rattle.event_rows.specs.Rule as rules
use Rattle.event_rows.specs.Rule.{Rule}
use Rattle.plans.specs.declared.taken.Taken.{Taken}
use Rattle.plans.specs.declared.taken.Taken.TheVariants.{Dropped, Shed, Idle}
use Rattle.plans.specs.declared.taken.Why.TheVariants.{Unread, Stray, Ack, NoBranch, Clock, Spent}
use Rattle.configuration.specs.Rules.{is_user_list}
use Rattle.registrar.specs.Changes.{listing_of}
use Rattle.plans.specs.Plan.{Plan, lists, nothing, moves, replies, answers}
use Rattle.responses.specs.Registering.{register_of}
use Rattle.responses.specs.Responding.{allow, contact_header, refusal_headers, status_of, responds, stateless}
use Rattle.event_rows.specs.Rules.{request_rule}
use Rattle.plans.specs.Office.{Office}
use Rattle.event_rows.specs.State.{Contents, after_event, moment_at, moments_end, max_tokens, office}
use Rattle.responses.specs.Tags.{joined_tags, required_tags}
use Rattle.responses.specs.Tokens.{token}
use Rattle.responses.specs.Words.{has_fit_branch, is_method}
use Rattle.sip_message.specs.declared.message.Response.{Response}
use Rattle.calls.specs.Changes.{unchanged}
use Rattle.call_core.specs.declared.action.CallTimer.TheVariants.{Lifetime}
use Rattle.calls.specs.declared.timer_id.CallTimerId.{CallTimerId}
use Rattle.calls.specs.Settled.{has_settled}
use Rattle.calls.specs.Timing.{id}
use Rattle.call_rules.specs.Reach.{is_unreachable}
use Rattle.plans.specs.Effect.{Effect, alone, without_ack}
use Rattle.plans.specs.Reasons.{status}
use Rattle.plans.specs.Replies.{reply_row}
use Rattle.plans.specs.CallRows.{ack_row, call_row, call_timer_row, of_plan, response_row, timeout_row}

-- ---- what the transactions make of a message

-- a request or an ACK, by what the transactions say of it
abbrev pub rule_row : Office → Setting → Request → List Entry → ℕ → Rule → Effect
rule_row s e r begun id (rules.Alone reply) = of_plan s (reply_row s e r begun id reply)
rule_row s e r begun id (rules.Call rule) = call_row s e r begun id rule

unfoldable pub request_by : Office → Setting → Request → List Entry → Verdict → Option Outgoing → Effect
request_by s e r begun (verdicts.New id) send = rule_row s e r begun id (request_rule s r e.now)
request_by s e r begun verdicts.Repeat send = of_plan s (moves begun send)
request_by s e r begun verdicts.Swallowed send = of_plan s (moves begun send)
request_by s e r begun (verdicts.Up id) send = ack_row s e r begun
request_by s e r begun verdicts.Stray send = ack_row s e r begun

unfoldable pub response_by : Office → Setting → Response → List Entry → Verdict → Option Outgoing → Effect
response_by s e r begun (verdicts.New id) send = of_plan s (nothing (Dropped Stray))
response_by s e r begun verdicts.Repeat send = of_plan s (moves begun send)
response_by s e r begun verdicts.Swallowed send = of_plan s (moves begun send)
response_by s e r begun (verdicts.Up id) send = response_row s e r begun send id
response_by s e r begun verdicts.Stray send = of_plan s (nothing (Dropped Stray))

abbrev pub received_by : Office → Setting → Message → List Entry → Verdict → Option Outgoing → Effect
received_by s e (Kinds.Request r) begun verdict send = request_by s e r begun verdict send
received_by s e (Kinds.Response r) begun verdict send = response_by s e r begun verdict send

abbrev pub begins : Verdict → Bool
begins (verdicts.New id) = true
begins verdicts.Repeat = false
begins verdicts.Swallowed = false
begins (verdicts.Up id) = false
begins verdicts.Stray = false

-- a request would begin a server transaction, and there is no room for one from its source
abbrev pub is_full : Office → Setting → Reception → Bool
is_full s e reception = begins reception.verdict && has_no_room s.table e.source

unfoldable pub received : Office → Setting → Message → Effect
received s e message =
    if is_full s e (reception_of s.table message) then of_plan s (nothing Shed)
    else received_by s e message (change_of s.table message e.source ∷ []) (reception_of s.table message).verdict (reception_of s.table message).send

-- ---- a branch that does not begin as it has to

-- a refusal that no transaction sends
abbrev pub refuses_alone : Setting → Parts → Reason → Plan
refuses_alone e parts reason = replies (response_address parts.vias e.source) (responds parts e.source (status reason) stateless []) reason

abbrev pub unfit_request : Setting → Request → Plan
unfit_request e r =
    if is_method (codes "ACK") r then nothing (Dropped NoBranch)
    else refuses_alone e r.parts reasons.NoBranch

abbrev pub unfit_branch : Setting → Message → Plan
unfit_branch e (Kinds.Request r) = unfit_request e r
unfit_branch e (Kinds.Response r) = nothing (Dropped NoBranch)

abbrev pub parts_of : Message → Parts
parts_of (Kinds.Request r) = r.parts
parts_of (Kinds.Response r) = r.parts

-- a 2xx that says no address to go on with is no one's (the server's own)
abbrev pub is_unreachable_message : Message → Bool
is_unreachable_message (Kinds.Request r) = false
is_unreachable_message (Kinds.Response r) = is_unreachable r

abbrev pub fit_row : Office → Setting → Message → Effect
fit_row s e message = if is_unreachable_message message then of_plan s (nothing (Dropped Stray)) else received s e message

unfoldable pub read_row : Office → Setting → Message → Effect
read_row s e message = if has_fit_branch (parts_of message).vias then fit_row s e message else of_plan s (unfit_branch e message)

-- ---- a datagram that can't be read

abbrev pub unread_by : Setting → MessageError → Option Parts → Plan
unread_by e fault None = nothing (Dropped (Unread fault))
unread_by e fault (Some parts) = refuses_alone e parts (reasons.Unread fault)

-- nothing for what is too long, and a refusal for each other fault, where something can be answered
unfoldable pub unread_row : Setting → List ℕ → MessageError → Plan
unread_row e bytes faults.TooLong = nothing (Dropped (Unread faults.TooLong))
unread_row e bytes fault = unread_by e fault (answerable_of bytes)

abbrev pub by_reading : Office → Setting → List ℕ → Result Message MessageError → Effect
by_reading s e bytes (Ok message) = read_row s e message
by_reading s e bytes (Err fault) = of_plan s (unread_row e bytes fault)

unfoldable pub datagram_row : Office → Setting → List ℕ → Effect
datagram_row s e bytes = by_reading s e bytes (message_of bytes)

-- ---- a timer of a transaction

-- the ACK of an INVITE whose transaction ends is no longer sent
abbrev pub ends : Office → TimerId → Effect
ends s timer = record { plan = moves (fire_of timer ∷ []) None; calls = unchanged s.calls; acks = without_ack timer.id s.acks }

abbrev pub fires_by : Office → Setting → TimerId → Option Fired → Effect
fires_by s e timer None = of_plan s (nothing Idle)
fires_by s e timer (Some (fires.Send out)) = of_plan s (moves (fire_of timer ∷ []) (Some out))
fires_by s e timer (Some fires.TimedOut) = timeout_row s e timer
fires_by s e timer (Some fires.Ended) = ends s timer

unfoldable pub timer_row : Office → Setting → TimerId → Effect
timer_row s e timer = fires_by s e timer (fired_of (at s.table.slots timer.id) timer.kind)

-- the one that is due first; at equal moments that of a transaction
abbrev pub due_row : Office → Setting → Option (Timer TimerId) → Option (Timer CallTimerId) → Effect
due_row s e None None = of_plan s (nothing Idle)
due_row s e (Some timer) None = timer_row s e timer.key
due_row s e None (Some other) = call_timer_row s e other.key
due_row s e (Some timer) (Some other) = if nat_le timer.at other.at then timer_row s e timer.key else call_timer_row s e other.key

-- ---- an event

-- whether a datagram has more bytes than are read, no timer is due, no call of the number is settled, or a
-- configuration may not list such users: nothing is looked at further
abbrev pub what_counts : Contents → ℕ → What → Option Taken
what_counts s now (whats.Datagram source bytes) =
    if nat_lt max_datagram (length bytes) then Some (Dropped (Unread faults.TooLong)) else None
what_counts s now whats.Due = if is_some (first_due s.table.timers now) || is_some (first_due s.calls.timers now) then None else Some Idle
what_counts s now (whats.Silent number) = if has_settled number s.calls.calls then None else Some Idle
what_counts s now (whats.Users users) = if is_user_list users then None else Some Idle

-- an event that is only counted takes no memory
unfoldable pub only_counts : Contents → Event → Option Taken
only_counts s e =
    if nat_le moments_end e.now then Some (Dropped Clock)
    else if nat_le max_tokens s.tokens then Some (Dropped Spent)
    else what_counts s (moment_at s e.now) e.what

-- a Clock event leaves the moment as it was
abbrev pub moment_after : Contents → Event → ℕ
moment_after s e = if nat_le moments_end e.now then s.moment else moment_at s e.now

abbrev pub setting : ℕ → ℕ → Addr → Setting
setting now salt source = record { now = now; salt = salt; source = source }

-- a timer has no source
abbrev pub no_source : Addr
no_source = record { ip = 0 ∷ 0 ∷ 0 ∷ 0 ∷ []; port = 0 }

unfoldable pub what_row : Office → ℕ → ℕ → What → Effect
what_row s now salt (whats.Datagram source bytes) = datagram_row s (setting now salt source) bytes
what_row s now salt whats.Due = due_row s (setting now salt no_source) (first_due s.table.timers now) (first_due s.calls.timers now)
-- media have stopped: the call's lifetime ends now
what_row s now salt (whats.Silent number) = call_timer_row s (setting now salt no_source) (id number Lifetime)
-- one who is a user already keeps its bindings
what_row s now salt (whats.Users users) = of_plan s (lists (listing_of s.registrar users))

abbrev pub row_by : Contents → Event → Option Taken → Effect
row_by s e (Some taken) = of_plan (office s) (nothing taken)
row_by s e None = what_row (office s) (moment_at s e.now) e.salt e.what

-- what an event results in
unfoldable pub row : Contents → Event → Effect
row s e = row_by s e (only_counts s e)

-- the agent after it
abbrev pub after : Contents → Event → Contents
after s e = after_event s (moment_after s e) (row s e)

-- ---- when something is due

abbrev pub earlier : Option ℕ → Option ℕ → Option ℕ
earlier None other = other
earlier (Some one) None = Some one
earlier (Some one) (Some other) = Some (min one other)

abbrev pub moment_of_first : {K : Type 0} → List (Timer K) → Option ℕ
moment_of_first timers = option_map (λ t. t.at) (first timers)

-- the least moment at which something is due
abbrev pub next_due : Contents → Option ℕ
next_due s = earlier (moment_of_first s.table.timers) (moment_of_first s.calls.timers)
