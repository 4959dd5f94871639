-- Each event keeps this: a transaction has the machine of its request.
use Rattle.std.proofs.Common.{◌≡◌, ◌++◌, ℕ, List, [], ◌∷◌, Option, Some, None, refl, sym, subst}
use Rattle.std.specs.List.{All}
use Rattle.std.proofs.lemmas.List.Elements.{All-nil}
use Rattle.configuration.specs.declared.config.Config.{Config}
use Rattle.events.specs.declared.event.Event.{Event}
use Rattle.events.specs.declared.event.What.{What}
use Rattle.sip_message.specs.declared.message.Message.{Message}
use Rattle.sip_message.specs.declared.message.Request.{Request}
use Rattle.sip_message.specs.declared.message.Response.{Response}
use Rattle.transactions.specs.Changes.{fire_of}
use Rattle.transactions.specs.declared.change.Entry.{Entry}
use Rattle.transactions.specs.declared.outcome.Outgoing.{Outgoing}
use Rattle.transactions.specs.declared.transaction.Transaction.{Transaction}
use Rattle.call_core.specs.declared.input.Input.TheVariants as inputs
use Rattle.call_messages.specs.Dressing.{branch}
use Rattle.event_rows.specs.Rows.{after, moment_after, no_source, only_counts, row, row_by, setting, what_row}
use Rattle.event_rows.specs.State.{Contents, IsNew, after_event, moment_at, office}
use Rattle.event_rows.specs.Trace.{Entry as TraceEntry, after_answer, after_entries, after_entry}
use Rattle.plans.specs.CallRows.{occasion, okay_plan, timer_input, without_call_timer}
use Rattle.plans.specs.Replies.{refuses_for, reply_row}
use Rattle.plans.specs.Effect.{Effect}
use Rattle.plans.specs.Office.{Office}
use Rattle.plans.specs.declared.setting.Setting.{Setting}
use Rattle.plans.specs.declared.taken.Taken.{Taken}
use Rattle.message_laws.proofs.Messages.MessageViews.{MessageRow, acknowledged, begun_by, dropped, moved, requested, responded}
use Rattle.message_laws.proofs.AwaitedOffers.Once.{NoneOwn}
use Rattle.message_laws.proofs.Messages.Replying.{okay_reply, refuses_reply, row_reply}
use Rattle.message_laws.proofs.Messages.RequestViews.{RequestRow, asks_callee, cancelled, counted_alone, left, passed_on, refreshed, replied, unfit}
use Rattle.message_laws.proofs.Messages.ResponseViews.{ResponseRow, ack_alone, again, answered, fork, provisional, refused, silent}
use Rattle.message_laws.proofs.Messages.Views.{DatagramRow, DueRow, WhatRow, call_fired, came, due, ended, fired_alone, idle, listed, ignored, sent_again, stopped, timed, unfit_branched, unreadable, was_received, what_view}
use Rattle.message_laws.proofs.AwaitedOffers.WaitEffects.{reply_none}
use Rattle.message_laws.proofs.AwaitedOffers.WaitRows.{change_none}
use Rattle.call_steps.specs.Rows.{takes_row}
use Rattle.media_laws.specs.Machines.{FitsMachineIf, KnowsMachines}
use Rattle.media_laws.proofs.Scenes.MachineSlots.{OpensFit, entered_fit, server_fits}
use Rattle.media_laws.proofs.Scenes.MachineRows.{both_fit, first_fit, fork_fit, late_fit, none_fit, offers_fit, takes_fit}

abbrev RowFits : Effect → Type 0
RowFits x = OpensFit x.plan.changes

own_fit : (changes : List Entry) → NoneOwn changes → OpensFit changes
own_fit changes none = λ x opens. server_fits x.state x.parts (none x opens)

-- after what the transactions do first
behind_fit : (begun changes : List Entry) → NoneOwn begun → OpensFit changes → OpensFit (begun ++ changes)
behind_fit begun changes none h = both_fit begun changes (own_fit begun none) h

timer_fit : (timer : _) → OpensFit (fire_of timer ∷ [])
timer_fit timer = λ x opens. absurd opens

-- ---- rows

request_fit : (s : Office) (e : Setting) (r : Request) (begun : List Entry) (id : ℕ) (x : Effect) → NoneOwn begun → RequestRow s e r begun id x → RowFits x
request_fit s e r begun id x none (replied reply why is) = subst RowFits (sym is) (own_fit (reply_row s e r begun id reply).changes (reply_none begun id _ (row_reply s e r begun id reply) none))
request_fit s e r begun id x none (unfit reason is) =
    subst RowFits (sym is) (own_fit (refuses_for s e r begun id reason).changes (reply_none begun id _ (refuses_reply s e r begun id reason) none))
request_fit s e r begun id x none (asks_callee to offer why is) = subst RowFits (sym is) (behind_fit begun _ none (first_fit s.calls (occasion s e) r id e.source to offer))
request_fit s e r begun id x none (cancelled other place named found is) = subst RowFits (sym is) (behind_fit begun _ none (takes_fit s.calls s.table (occasion s e) place inputs.Cancel None _))
request_fit s e r begun id x none (left place end rule is) = subst RowFits (sym is) (behind_fit begun _ none (takes_fit s.calls s.table (occasion s e) place (inputs.Bye end) _ _))
request_fit s e r begun id x none (counted_alone place end reason why is) = subst RowFits (sym is) (own_fit (refuses_for s e r begun id reason).changes (reply_none begun id _ (refuses_reply s e r begun id reason) none))
request_fit s e r begun id x none (passed_on place end c offer rule why is) = subst RowFits (sym is) (behind_fit begun _ none (offers_fit s.calls s.table (occasion s e) place _ end r id e.source))
request_fit s e r begun id x none (refreshed place end why is) = subst RowFits (sym is) (own_fit (okay_plan s e r begun id).changes (reply_none begun id _ (okay_reply s e r begun id) none))

response_fit : (s : Office) (e : Setting) (r : Response) (begun : List Entry) (send : Option Outgoing) (id : ℕ) (t : Transaction) (x : Effect) → NoneOwn begun → ResponseRow s e r begun send id t x → RowFits x
response_fit s e r begun send id t x none (silent is) = subst RowFits (sym is) (own_fit begun none)
response_fit s e r begun send id t x none (provisional place status c there asked class same is) = subst RowFits (sym is) (behind_fit begun _ none (takes_fit s.calls s.table (occasion s e) place (inputs.Provisional status) None None))
response_fit s e r begun send id t x none (answered place c there asked class is) = subst RowFits (sym is) (behind_fit begun _ none (takes_fit s.calls s.table (occasion s e) place (inputs.Answer _) _ None))
response_fit s e r begun send id t x none (again place acked is) = subst RowFits (sym is) (own_fit begun none)
response_fit s e r begun send id t x none (fork why is) = subst RowFits (sym is) (behind_fit begun _ none (fork_fit s.calls (occasion s e) t.parts r))
response_fit s e r begun send id t x none (ack_alone is) = subst RowFits (sym is) (behind_fit begun _ none (late_fit s.calls (occasion s e) t.parts r))
response_fit s e r begun send id t x none (refused place status c there asked class same is) = subst RowFits (sym is) (behind_fit begun _ none (takes_fit s.calls s.table (occasion s e) place (inputs.Refusal status) None None))

message_fit : (s : Office) (e : Setting) (m : Message) (send : Option Outgoing) (x : Effect) → MessageRow s e m (begun_by s e m) send x → RowFits x
message_fit s e m send x (dropped taken is) = subst RowFits (sym is) none_fit
message_fit s e m send x (moved is) = subst RowFits (sym is) (own_fit (begun_by s e m) (change_none s m e.source))
message_fit s e m send x (requested r id same new row) = request_fit s e r (begun_by s e m) id x (change_none s m e.source) row
message_fit s e m send x (acknowledged r place same found is) =
    subst RowFits (sym is) (behind_fit (begun_by s e m) _ (change_none s m e.source) (takes_fit s.calls s.table (occasion s e) place inputs.Ack None None))
message_fit s e m send x (responded r id t same up to row) = response_fit s e r (begun_by s e m) send id t x (change_none s m e.source) row

datagram_fit : (s : Office) (e : Setting) (bytes : List ℕ) (x : Effect) → DatagramRow s e bytes x → RowFits x
datagram_fit s e bytes x (ignored taken is) = subst RowFits (sym is) none_fit
datagram_fit s e bytes x (unreadable fault parts unread can is) = subst RowFits (sym is) none_fit
datagram_fit s e bytes x (unfit_branched r read is) = subst RowFits (sym is) none_fit
datagram_fit s e bytes x (was_received m read branch reached row) = message_fit s e m _ x row

due_fit : (s : Office) (e : Setting) (x : Effect) → DueRow s e x → RowFits x
due_fit s e x (idle is) = subst RowFits (sym is) none_fit
due_fit s e x (listed users is) = subst RowFits (sym is) none_fit
due_fit s e x (sent_again timer out fired is) = subst RowFits (sym is) (timer_fit timer)
due_fit s e x (fired_alone timer fired is) = subst RowFits (sym is) (timer_fit timer)
due_fit s e x (timed timer t place fired times there found is) =
    subst RowFits (sym is) (behind_fit (fire_of timer ∷ []) (takes_row s.calls s.table (occasion s e) place inputs.TimedOut None None).dressed.changes (λ y opens client. opens) (takes_fit s.calls s.table (occasion s e) place inputs.TimedOut None None))
due_fit s e x (ended timer fired is) = subst RowFits (sym is) (timer_fit timer)
due_fit s e x (stopped timer is) = subst RowFits (sym is) none_fit
due_fit s e x (call_fired timer place found is) =
    let later = without_call_timer timer s in
    subst RowFits (sym is) (behind_fit [] (takes_row later.calls later.table (occasion later e) place (timer_input timer.timer) None None).dressed.changes (λ y opens client. opens) (takes_fit later.calls later.table (occasion later e) place (timer_input timer.timer) None None))

what_fit : (s : Office) (now salt : ℕ) (what : What) (x : Effect) → WhatRow s now salt what x → RowFits x
what_fit s now salt what x (came source bytes is row) = datagram_fit s (setting now salt source) bytes x row
what_fit s now salt what x (due is row) = due_fit s (setting now salt no_source) x row

-- ---- events

event_fit : (s : Contents) (e : Event) (taken : Option Taken) → only_counts s e ≡ taken → RowFits (row_by s e taken)
event_fit s e (Some taken) is = none_fit
event_fit s e None is = what_fit (office s) (moment_at s e.now) e.salt e.what (what_row (office s) (moment_at s e.now) e.salt e.what) (what_view (office s) (moment_at s e.now) e.salt e.what)

row_fit : (s : Contents) (e : Event) → RowFits (row s e)
unfolding row
row_fit s e = event_fit s e (only_counts s e) refl

knows_by : (s : Contents) → KnowsMachines (office s) → (now : ℕ) (x : Effect) → RowFits x → KnowsMachines (office (after_event s now x))
unfolding after_event
knows_by s k now x h = entered_fit now s.table x.plan.changes h k

pub after_machines : (s : Contents) (e : Event) → KnowsMachines (office s) → KnowsMachines (office (after s e))
after_machines s e k = knows_by s k (moment_after s e) (row s e) (row_fit s e)

pub new_machines : (c : Config) (s : Contents) → IsNew c s → KnowsMachines (office s)
new_machines c s new = subst (All FitsMachineIf) (sym new.slots) (All-nil FitsMachineIf)

answer_machines : (s : Contents) (e : Event) (taken : Option Taken) → KnowsMachines (office s) → KnowsMachines (office (after_answer s e taken))
answer_machines s e None k = k
answer_machines s e (Some taken) k = after_machines s e k

list_machines : (s : Contents) (xs : List TraceEntry) → KnowsMachines (office s) → KnowsMachines (office (after_entries s xs))
list_machines s [] k = k
list_machines s (x ∷ xs) k = list_machines (after_entry s x) xs (answer_machines s x.event x.answer k)

pub known_machines : (c : Config) (s : Contents) (xs : List TraceEntry) → IsNew c s → KnowsMachines (office (after_entries s xs))
known_machines c s xs new = list_machines s xs (new_machines c s new)
