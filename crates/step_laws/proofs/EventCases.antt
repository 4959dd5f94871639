-- An event, as a list of cases: it counts as not come, for a reason; or it is done, and leaves the registrar; or it
-- brings a REGISTER. The changes of all of them are ready.
use Rattle.std.proofs.Common.{◌≡◌, ℕ, true, false, nat_le, nat_lt, List, [], ◌∷◌, codes, length, Option, Some, None, Result, Ok, Err, inl, inr, is_some, refl, subst, sym}
use Rattle.std.specs.Prelude.{◌||◌, ◌&&◌, cond, slice_get}
use Rattle.std.proofs.lemmas.Bool.{and_parts, cond_both, false≢true, leb-true, ltb-true}
use Rattle.sip_uri.specs.declared.uri.Addr.{Addr}
use Rattle.sip_message.specs.AnswerableParts.{answerable_of}
use Rattle.sip_message.specs.Read.{max_datagram, message_of}
use Rattle.sip_message.specs.Words.{is_method}
use Rattle.sip_message.specs.declared.error.MessageError.{MessageError}
use Rattle.sip_message.specs.declared.error.MessageError.TheVariants as faults
use Rattle.sip_message.specs.declared.message.Message.{Message}
use Rattle.sip_message.specs.declared.message.Message.TheVariants as Kinds
use Rattle.sip_message.specs.declared.message.Parts.{Parts}
use Rattle.sip_message.specs.declared.message.Request.{Request}
use Rattle.sip_message.specs.declared.message.Response.{Response}
use Rattle.timers.specs.Queue.{first_due}
use Rattle.timers.specs.declared.timers.Timer.{Timer}
use Rattle.transactions.specs.declared.change.Entry.{Entry}
use Rattle.transactions.specs.declared.outcome.Fired.{Fired}
use Rattle.transactions.specs.declared.outcome.Fired.TheVariants as fires
use Rattle.transactions.specs.declared.outcome.Outgoing.{Outgoing}
use Rattle.transactions.specs.declared.outcome.Verdict.{Verdict}
use Rattle.transactions.specs.declared.outcome.Verdict.TheVariants as verdicts
use Rattle.transactions.specs.declared.transaction.TimerId.{TimerId}
use Rattle.transactions.specs.Changes.{change_of, fire_of}
use Rattle.transactions.specs.Contents.{fired_of, reception_of}
use Rattle.transactions.specs.Shares.{has_no_room}
use Rattle.transactions.specs.Slots.{at}
use Rattle.call_core.specs.declared.input.Input.TheVariants as inputs
use Rattle.call_steps.specs.Rows.{counts as number_counts}
use Rattle.call_core.specs.declared.action.CallTimer.TheVariants.{Lifetime}
use Rattle.calls.specs.Finding.{place_by_ack}
use Rattle.calls.specs.Settled.{has_settled}
use Rattle.calls.specs.Timing.{id}
use Rattle.calls.specs.declared.timer_id.CallTimerId.{CallTimerId}
use Rattle.call_rules.specs.Reach.{is_unreachable}
use Rattle.responses.specs.Responding.{stateless}
use Rattle.responses.specs.Words.{has_fit_branch, is_method as request_method}
use Rattle.events.specs.declared.event.Event.{Event}
use Rattle.events.specs.declared.event.What.{What}
use Rattle.events.specs.declared.event.What.TheVariants as whats
use Rattle.plans.specs.CallRows.{ack_by, ack_row, call_timer_row, of_plan, tag_at}
use Rattle.plans.specs.Effect.{Effect}
use Rattle.plans.specs.Plan.{lists, nothing}
use Rattle.plans.specs.declared.reason.Reason.TheVariants as reasons
use Rattle.plans.specs.Replies.{registers, reply_row}
use Rattle.plans.specs.declared.rule.Reply.{Reply}
use Rattle.plans.specs.declared.rule.Reply.TheVariants as replies
use Rattle.plans.specs.declared.setting.Setting.{Setting}
use Rattle.plans.specs.declared.taken.Taken.{Taken}
use Rattle.plans.specs.declared.taken.Taken.TheVariants.{Dropped, Idle, Shed}
use Rattle.plans.specs.declared.taken.Why.TheVariants.{Ack, Clock, NoBranch, Spent, Stray, Unread}
use Rattle.event_rows.specs.Rows.{begins, by_reading, datagram_row, due_row, fires_by, fit_row, is_full, no_source, only_counts, parts_of, read_row, received, received_by, refuses_alone, request_by, response_by, row, row_by, rule_row, setting, timer_row, unfit_branch, unread_by, unread_row, what_counts, what_row}
use Rattle.event_rows.specs.Rules.{request_rule}
use Rattle.event_rows.specs.State.{Contents, moment_at, moments_end, max_tokens, office}
use Rattle.event_rows.specs.Rule as rules
use Rattle.message_laws.proofs.Messages.RequestViews as requests
use Rattle.step_laws.specs.Dropping.{NoneTakes, IsAnsweredFor, IsBranched, IsRead}
use Rattle.step_laws.specs.Registering.{BringsUsers, Registers}
use Rattle.configuration.specs.Rules.{is_user_list}
use Rattle.registrar.specs.Changes.{listing_of}
use Rattle.step_laws.proofs.CallRows.{IsDoneBy, call_timer_done, fire_ready, first_done, moves_done, okay_done, passes_done, refuses_done, reply_done, request_done, response_done, takes_done, timeout_done}
use Rattle.step_laws.proofs.Ready.{change_ready}
use Rattle.step_laws.proofs.ReadySteps.{AllReady, none_ready, one_ready}
use Rattle.event_rows.proofs.AckRequests.{IsAckIf, up_is_ack}
use Rattle.step_laws.proofs.Receptions.{IsNotNew, own_method, response_not_new}

pub data EventCase (s : Contents) (event : Event) (x : Effect) : Type 0 where
  ignored : (taken : Taken) → IsAnsweredFor s event taken → x ≡ of_plan (office s) (nothing taken) → EventCase s event x
  -- a timer is due that does nothing, which no table has
  unfired : (timer : Timer TimerId) → first_due s.table.timers (moment_at s event.now) ≡ Some timer → fired_of (at s.table.slots timer.key.id) timer.key.kind ≡ None → x ≡ of_plan (office s) (nothing Idle) → EventCase s event x
  went : IsDoneBy x → EventCase s event x
  registered : (source : Addr) (r : Request) (id : ℕ) → Registers s event source r id
      → x ≡ of_plan (office s) (registers (office s) (setting (moment_at s event.now) event.salt source) r (change_of s.table (Kinds.Request r) source ∷ []) id) → EventCase s event x
  listed : (users : List (List ℕ)) → BringsUsers s event users → x ≡ of_plan (office s) (lists (listing_of s.registrar users)) → EventCase s event x

-- ---- an event that is only counted

abbrev IsCounted : Contents → Event → Option Taken → Type 0
IsCounted s event None = Unit {0}
IsCounted s event (Some taken) = IsAnsweredFor s event taken

due_counts : (s : Contents) (event : Event) (one : Option (Timer TimerId)) (other : Option (Timer CallTimerId)) → event.what ≡ whats.Due
    → first_due s.table.timers (moment_at s event.now) ≡ one → first_due s.calls.timers (moment_at s event.now) ≡ other → IsCounted s event (cond (is_some one || is_some other) None (Some Idle))
due_counts s event None None is none nor = inl (record { due = is; of_transactions = none; of_calls = nor })
due_counts s event (Some timer) other is none nor = tt
due_counts s event None (Some timer) is none nor = tt

what_counts_for : (s : Contents) (event : Event) (what : What) → event.what ≡ what → IsCounted s event (what_counts s (moment_at s event.now) what)
what_counts_for s event (whats.Datagram source bytes) is =
    cond_both (nat_lt max_datagram (length bytes)) (Some (Dropped (Unread faults.TooLong))) None (IsCounted s event)
    (λ long. record { source = source; bytes = bytes; datagram = is; why = inl (refl, ltb-true max_datagram (length bytes) long) }) (λ fits. tt)
what_counts_for s event whats.Due is =
    due_counts s event (first_due s.table.timers (moment_at s event.now)) (first_due s.calls.timers (moment_at s event.now)) is refl refl
what_counts_for s event (whats.Silent number) is =
    cond_both (has_settled number s.calls.calls) None (Some Idle) (IsCounted s event) (λ settled. tt) (λ none. inr (inl (record { number = number; silent = is; none = none })))
what_counts_for s event (whats.Users users) is =
    cond_both (is_user_list users) None (Some Idle) (IsCounted s event) (λ may. tt) (λ amiss. inr (inr (record { users = users; what = is; amiss = amiss })))

counts_for : (s : Contents) (event : Event) → IsCounted s event (only_counts s event)
unfolding only_counts
counts_for s event =
    let counts = what_counts s (moment_at s event.now) event.what in
    let unless_spent = cond (nat_le max_tokens s.tokens) (Some (Dropped Spent)) counts in
    cond_both (nat_le moments_end event.now) (Some (Dropped Clock)) unless_spent (IsCounted s event) (λ late. leb-true moments_end event.now late)
    (λ early. cond_both (nat_le max_tokens s.tokens) (Some (Dropped Spent)) counts (IsCounted s event) (λ spent. leb-true max_tokens s.tokens spent) (λ left. what_counts_for s event event.what refl))

-- ---- a datagram that is looked at

new_id : (verdict : Verdict) → begins verdict ≡ true → (id : ℕ) × (verdict ≡ verdicts.New id)
new_id (verdicts.New id) is = (id, refl)
new_id verdicts.Repeat is = absurd (false≢true is)
new_id verdicts.Swallowed is = absurd (false≢true is)
new_id (verdicts.Up id) is = absurd (false≢true is)
new_id verdicts.Stray is = absurd (false≢true is)

module _ (s : Contents) (event : Event) (source : Addr) (bytes : List ℕ) (datagram : event.what ≡ whats.Datagram source bytes) (counts : only_counts s event ≡ None) where
  abbrev e : Setting
  e = setting (moment_at s event.now) event.salt source

  abbrev Case : Effect → Type 0
  Case = EventCase s event

  abbrev nothing_for : Taken → Effect
  nothing_for taken = of_plan (office s) (nothing taken)

  read_as : (m : Message) → message_of bytes ≡ Ok m → IsRead event m
  read_as m read = record { source = source; bytes = bytes; datagram = datagram; read = read }

  branched_as : (m : Message) → message_of bytes ≡ Ok m → has_fit_branch (parts_of m).vias ≡ true → IsBranched event m
  branched_as m read fit = record { is_read = read_as m read; branch = fit }

  -- ---- a request

  module _ (r : Request) (read : message_of bytes ≡ Ok (Kinds.Request r)) (fit : has_fit_branch r.parts.vias ≡ true) where
    abbrev entries : List Entry
    entries = change_of s.table (Kinds.Request r) source ∷ []

    entries_ready : AllReady entries
    entries_ready = one_ready (change_of s.table (Kinds.Request r) source) (change_ready s.table (Kinds.Request r) source)

    -- a reply of the rules
    replied_case : (id : ℕ) (reply : Reply) → (reception_of s.table (Kinds.Request r)).verdict ≡ verdicts.New id → has_no_room s.table source ≡ false → request_rule (office s) r (moment_at s event.now) ≡ rules.Alone reply
        → Case (of_plan (office s) (reply_row (office s) e r entries id reply))
    unfolding reply_row
    replied_case id (replies.CancelOf other) new room is = went (reply_done (office s) e r entries id entries_ready (replies.CancelOf other) tt)
    replied_case id (replies.Refusal reason) new room is = went (reply_done (office s) e r entries id entries_ready (replies.Refusal reason) tt)
    replied_case id replies.MethodsListed new room is = went (reply_done (office s) e r entries id entries_ready replies.MethodsListed tt)
    replied_case id replies.Registration new room is =
        registered source r id (record { bytes = bytes; begins = record { comes = record { datagram = datagram; counts = counts; read = read; branch = fit }; new = new; room = room }; rule = is }) refl

    row_case : (id : ℕ) (x : Effect) → (reception_of s.table (Kinds.Request r)).verdict ≡ verdicts.New id → has_no_room s.table source ≡ false → requests.RequestRow (office s) e r entries id x → Case x
    row_case id x new room (requests.replied reply rule is) = subst Case (sym is) (replied_case id reply new room rule)
    row_case id x new room (requests.unfit reason is) = subst Case (sym is) (went (refuses_done (office s) e r entries id entries_ready reason))
    row_case id x new room (requests.asks_callee to offer why is) = subst Case (sym is) (went (first_done (office s) e r entries id entries_ready to offer))
    row_case id x new room (requests.cancelled other place why found is) = subst Case (sym is) (went (request_done (office s) e r entries id entries_ready place inputs.Cancel None (tag_at (slice_get s.calls.calls place))))
    row_case id x new room (requests.left place end rule is) =
        subst Case (sym is) (went (request_done (office s) e r entries id entries_ready place (inputs.Bye end) (number_counts s.calls.calls place end r.parts.cseq.number) stateless))
    row_case id x new room (requests.counted_alone place end reason why is) = subst Case (sym is) (went (refuses_done (office s) e r entries id entries_ready reason))
    row_case id x new room (requests.passed_on place end c offer rule why is) = subst Case (sym is) (went (passes_done (office s) e r entries id entries_ready place end offer))
    row_case id x new room (requests.refreshed place end why is) = subst Case (sym is) (went (okay_done (office s) e r entries id entries_ready))

    ack_by_case : (place : Option ℕ) → is_method (codes "ACK") r.parts ≡ true → NoneTakes (reception_of s.table (Kinds.Request r)).verdict → place_by_ack r.parts s.calls.calls ≡ place → Case (ack_by (office s) e entries place)
    ack_by_case None is up there =
        ignored (Dropped Ack) (record { request = r; comes = branched_as (Kinds.Request r) read fit; method = own_method bytes r (codes "ACK") read is; up = up; place = there }) refl
    ack_by_case (Some place) is up there = went (takes_done (office s) e entries None None place inputs.Ack None entries_ready)

    ack_case : is_method (codes "ACK") r.parts ≡ true → NoneTakes (reception_of s.table (Kinds.Request r)).verdict → Case (ack_row (office s) e r entries)
    unfolding ack_row
    ack_case is up = ack_by_case (place_by_ack r.parts s.calls.calls) is up refl

    request_case : (verdict : Verdict) (send : Option Outgoing) → (reception_of s.table (Kinds.Request r)).verdict ≡ verdict → IsAckIf r verdict → (begins verdict && has_no_room s.table source) ≡ false
        → Case (request_by (office s) e r entries verdict send)
    unfolding request_by
    request_case (verdicts.New id) send is ack free =
        row_case id (rule_row (office s) e r entries id (request_rule (office s) r (moment_at s event.now))) is free (requests.request_view (office s) e r entries id)
    request_case verdicts.Repeat send is ack free = went (moves_done entries send entries_ready)
    request_case verdicts.Swallowed send is ack free = went (moves_done entries send entries_ready)
    request_case (verdicts.Up id) send is ack free = ack_case ack (subst NoneTakes (sym is) tt)
    request_case verdicts.Stray send is ack free = ack_case ack (subst NoneTakes (sym is) tt)

  -- ---- a response

  response_case : (r : Response) (begun : List Entry) (verdict : Verdict) (send : Option Outgoing) → AllReady begun → message_of bytes ≡ Ok (Kinds.Response r) → has_fit_branch r.parts.vias ≡ true
      → (reception_of s.table (Kinds.Response r)).verdict ≡ verdict → IsNotNew verdict → Case (response_by (office s) e r begun verdict send)
  unfolding response_by
  response_case r begun (verdicts.New id) send ready read fit is old = absurd old
  response_case r begun verdicts.Repeat send ready read fit is old = went (moves_done begun send ready)
  response_case r begun verdicts.Swallowed send ready read fit is old = went (moves_done begun send ready)
  response_case r begun (verdicts.Up id) send ready read fit is old = went (response_done (office s) e r begun send id ready)
  response_case r begun verdicts.Stray send ready read fit is old =
      ignored (Dropped Stray) (record { response = r; comes = branched_as (Kinds.Response r) read fit; why = inr is }) refl

  -- ---- a message

  received_by_case : (m : Message) → message_of bytes ≡ Ok m → has_fit_branch (parts_of m).vias ≡ true → is_full (office s) e (reception_of s.table m) ≡ false
      → Case (received_by (office s) e m (change_of s.table m source ∷ []) (reception_of s.table m).verdict (reception_of s.table m).send)
  received_by_case (Kinds.Request r) read fit free =
      request_case r read fit (reception_of s.table (Kinds.Request r)).verdict (reception_of s.table (Kinds.Request r)).send refl (up_is_ack s.table r) free
  received_by_case (Kinds.Response r) read fit free =
      let change = change_of s.table (Kinds.Response r) source in
      let ready = one_ready change (change_ready s.table (Kinds.Response r) source) in
      response_case r (change ∷ []) (reception_of s.table (Kinds.Response r)).verdict (reception_of s.table (Kinds.Response r)).send ready read fit refl (response_not_new s.table r)

  shed_case : (m : Message) → message_of bytes ≡ Ok m → has_fit_branch (parts_of m).vias ≡ true → is_full (office s) e (reception_of s.table m) ≡ true → Case (nothing_for Shed)
  unfolding branched_as read_as
  shed_case (Kinds.Request r) read fit full =
      let verdict = (reception_of s.table (Kinds.Request r)).verdict in
      let both = and_parts (begins verdict) (has_no_room s.table source) full in
      let new = new_id verdict both.0 in
      ignored Shed (record { request = r; comes = branched_as (Kinds.Request r) read fit; id = new.0; new = new.1; full = both.1 }) refl
  shed_case (Kinds.Response r) read fit full =
      let verdict = (reception_of s.table (Kinds.Response r)).verdict in
      let new = new_id verdict (and_parts (begins verdict) (has_no_room s.table source) full).0 in
      absurd (subst IsNotNew new.1 (response_not_new s.table r))

  received_case : (m : Message) → message_of bytes ≡ Ok m → has_fit_branch (parts_of m).vias ≡ true → Case (received (office s) e m)
  unfolding received
  received_case m read fit =
      cond_both (is_full (office s) e (reception_of s.table m)) (nothing_for Shed)
      (received_by (office s) e m (change_of s.table m source ∷ []) (reception_of s.table m).verdict (reception_of s.table m).send) Case
      (λ full. shed_case m read fit full) (λ free. received_by_case m read fit free)

  fit_case : (m : Message) → message_of bytes ≡ Ok m → has_fit_branch (parts_of m).vias ≡ true → Case (fit_row (office s) e m)
  fit_case (Kinds.Request r) read fit = received_case (Kinds.Request r) read fit
  fit_case (Kinds.Response r) read fit =
      cond_both (is_unreachable r) (nothing_for (Dropped Stray)) (received (office s) e (Kinds.Response r)) Case
      (λ none. ignored (Dropped Stray) (record { response = r; comes = branched_as (Kinds.Response r) read fit; why = inl none }) refl)
      (λ reached. received_case (Kinds.Response r) read fit)

  unfit_case : (m : Message) → message_of bytes ≡ Ok m → has_fit_branch (parts_of m).vias ≡ false → Case (of_plan (office s) (unfit_branch e m))
  unfit_case (Kinds.Request r) read unfit =
      cond_both (request_method (codes "ACK") r) (nothing (Dropped NoBranch)) (refuses_alone e r.parts reasons.NoBranch) (λ p. Case (of_plan (office s) p))
      (λ ack. ignored (Dropped NoBranch) (record { message = Kinds.Request r; is_read = read_as (Kinds.Request r) read; branch = unfit; kind = ack }) refl)
      (λ other. went (record { taken = refl; registration = refl; changes = none_ready }))
  unfit_case (Kinds.Response r) read unfit =
      ignored (Dropped NoBranch) (record { message = Kinds.Response r; is_read = read_as (Kinds.Response r) read; branch = unfit; kind = tt }) refl

  read_case : (m : Message) → message_of bytes ≡ Ok m → Case (read_row (office s) e m)
  unfolding read_row
  read_case m read =
      cond_both (has_fit_branch (parts_of m).vias) (fit_row (office s) e m) (of_plan (office s) (unfit_branch e m)) Case (λ fit. fit_case m read fit) (λ unfit. unfit_case m read unfit)

  -- ---- bytes that can't be read

  unread_by_case : (fault : MessageError) (parts : Option Parts) → message_of bytes ≡ Err fault → answerable_of bytes ≡ parts → Case (of_plan (office s) (unread_by e fault parts))
  unread_by_case fault None unread can =
      ignored (Dropped (Unread fault)) (record { source = source; bytes = bytes; datagram = datagram; why = inr (unread, inr can) }) refl
  unread_by_case fault (Some parts) unread can = went (record { taken = refl; registration = refl; changes = none_ready })

  unread_case : (fault : MessageError) → message_of bytes ≡ Err fault → Case (of_plan (office s) (unread_row e bytes fault))
  unfolding unread_row
  unread_case faults.TooLong unread =
      ignored (Dropped (Unread faults.TooLong)) (record { source = source; bytes = bytes; datagram = datagram; why = inr (unread, inl refl) }) refl
  unread_case fault unread = unread_by_case fault (answerable_of bytes) unread refl

  reading_case : (m : Result Message MessageError) → message_of bytes ≡ m → Case (by_reading (office s) e bytes m)
  reading_case (Ok m) read = read_case m read
  reading_case (Err fault) unread = unread_case fault unread

  datagram_case : Case (datagram_row (office s) e bytes)
  unfolding datagram_row
  datagram_case = reading_case (message_of bytes) refl

-- ---- what is due

module _ (s : Contents) (event : Event) (is : event.what ≡ whats.Due) (e : Setting) where
  fires_case : (timer : Timer TimerId) (fired : Option Fired) → first_due s.table.timers (moment_at s event.now) ≡ Some timer → fired_of (at s.table.slots timer.key.id) timer.key.kind ≡ fired
      → EventCase s event (fires_by (office s) e timer.key fired)
  fires_case timer None due none = unfired timer due none refl
  fires_case timer (Some (fires.Send out)) due did = went (moves_done (fire_of timer.key ∷ []) (Some out) (fire_ready timer.key))
  fires_case timer (Some fires.TimedOut) due did = went (timeout_done (office s) e timer.key)
  fires_case timer (Some fires.Ended) due did = went (moves_done (fire_of timer.key ∷ []) None (fire_ready timer.key))

  timer_case : (timer : Timer TimerId) → first_due s.table.timers (moment_at s event.now) ≡ Some timer → EventCase s event (timer_row (office s) e timer.key)
  unfolding timer_row
  timer_case timer due = fires_case timer (fired_of (at s.table.slots timer.key.id) timer.key.kind) due refl

  due_case : (one : Option (Timer TimerId)) (other : Option (Timer CallTimerId)) → first_due s.table.timers (moment_at s event.now) ≡ one → first_due s.calls.timers (moment_at s event.now) ≡ other
      → EventCase s event (due_row (office s) e one other)
  due_case None None none nor = ignored Idle (inl (record { due = is; of_transactions = none; of_calls = nor })) refl
  due_case (Some timer) None due nor = timer_case timer due
  due_case None (Some timer) none due = went (call_timer_done (office s) e timer.key)
  due_case (Some timer) (Some other) due too =
      cond_both (nat_le timer.at other.at) (timer_row (office s) e timer.key) (call_timer_row (office s) e other.key) (EventCase s event)
      (λ first. timer_case timer due) (λ later. went (call_timer_done (office s) e other.key))

-- ---- an event

what_case : (s : Contents) (event : Event) (what : What) → event.what ≡ what → only_counts s event ≡ None → EventCase s event (what_row (office s) (moment_at s event.now) event.salt what)
unfolding what_row
what_case s event (whats.Datagram source bytes) is counts = datagram_case s event source bytes is counts
what_case s event whats.Due is counts =
    due_case s event is (setting (moment_at s event.now) event.salt no_source) (first_due s.table.timers (moment_at s event.now)) (first_due s.calls.timers (moment_at s event.now)) refl refl
what_case s event (whats.Silent number) is counts = went (call_timer_done (office s) (setting (moment_at s event.now) event.salt no_source) (id number Lifetime))
what_case s event (whats.Users users) is counts = listed users (record { what = is; counts = counts }) refl

counted_case : (s : Contents) (event : Event) (counts : Option Taken) → only_counts s event ≡ counts → IsCounted s event counts → EventCase s event (row_by s event counts)
counted_case s event None is h = what_case s event event.what refl is
counted_case s event (Some taken) is h = ignored taken h refl

pub event_case : (s : Contents) (event : Event) → EventCase s event (row s event)
unfolding row
event_case s event = counted_case s event (only_counts s event) refl (counts_for s event)
