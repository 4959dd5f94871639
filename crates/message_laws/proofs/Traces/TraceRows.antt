-- What each event results in, row by row.
use Rattle.std.proofs.Common.{◌≡◌, ℕ, false, List, [], ◌∷◌, ◌++◌, Option, Some, None, Ok, refl, sym, subst}
use Rattle.events.specs.declared.event.Event.{Event}
use Rattle.events.specs.declared.event.What.{What}
use Rattle.events.specs.declared.event.What.TheVariants as whats
use Rattle.events.specs.declared.sent.Sent.{Sent}
use Rattle.sip_uri.specs.declared.uri.Addr.{Addr}
use Rattle.sip_message.specs.Contact.{contacts_of}
use Rattle.sip_message.specs.Read.{message_of}
use Rattle.sip_message.specs.declared.message.Message.{Message}
use Rattle.sip_message.specs.declared.message.Message.TheVariants as Kinds
use Rattle.sip_message.specs.declared.message.Request.{Request}
use Rattle.sip_message.specs.declared.message.Response.{Response}
use Rattle.dialogs.specs.Making.{reached_at}
use Rattle.transactions.specs.Changes.{fire_of}
use Rattle.transactions.specs.Contents.{reception_of}
use Rattle.transactions.specs.declared.change.Entry.{Entry}
use Rattle.transactions.specs.declared.outcome.Outgoing.{Outgoing}
use Rattle.transactions.specs.declared.transaction.Transaction.{Transaction}
use Rattle.call_core.specs.declared.action.CallTimer.{CallTimer}
use Rattle.call_core.specs.declared.action.CallTimer.TheVariants as timers
use Rattle.call_core.specs.declared.input.Input.{Input}
use Rattle.call_core.specs.declared.input.Input.TheVariants as inputs
use Rattle.calls.specs.declared.change.LegDialog.{LegDialog}
use Rattle.call_rules.specs.Content.{described}
use Rattle.call_steps.specs.Effects as steps
use Rattle.call_steps.specs.Rows.{answers_leg, counts, first_row, fork_row, late_row, offers_row, takes_row}
use Rattle.call_steps.specs.Values.{AskerValue}
use Rattle.plans.specs.CallRows.{occasion, of_plan, offer_method, takes, takes_request, timer_input, with_step, without_call_timer}
use Rattle.plans.specs.Effect.{Effect}
use Rattle.plans.specs.Office.{Office}
use Rattle.plans.specs.Plan.{Plan, goes, moves, nothing}
use Rattle.plans.specs.Replies.{refuses_for, reply_row}
use Rattle.plans.specs.declared.setting.Setting.{Setting}
use Rattle.plans.specs.declared.taken.Taken.{Taken}
use Rattle.event_rows.specs.Rows.{is_unreachable_message, no_source, only_counts, row, row_by, setting, what_row}
use Rattle.event_rows.specs.State.{Contents, moment_at, office}
use Rattle.call_trace.specs.Listed.{AllOf}
use Rattle.call_trace.proofs.Members.{all_append}
use Rattle.message_laws.specs.Bodies.{WasReadIn}
use Rattle.message_laws.specs.Sound.{IsTargetIf, SaysDialog}
use Rattle.message_laws.proofs.QuietEvents.Describing.{BodiesDescribe}
use Rattle.message_laws.proofs.TokenUse.Events.{few_tokens}
use Rattle.message_laws.proofs.Messages.MessageViews.{IsResponseTo, MessageRow, acknowledged, begun_by, dropped, moved, requested, responded}
use Rattle.message_laws.proofs.Messages.ReadBodies.{body_read, body_read_if}
use Rattle.message_laws.proofs.StandingCalls.Reaching.{response_may_offer, response_reached}
use Rattle.message_laws.proofs.StandingCalls.Reading.{Reading, reached_target}
use Rattle.message_laws.proofs.Messages.Replying.{okay_reply, refuses_reply, row_reply}
use Rattle.message_laws.proofs.Messages.RequestViews.{RequestRow, asks_callee, cancelled, counted_alone, left, passed_on, refreshed, replied, unfit}
use Rattle.message_laws.proofs.Messages.ResponseViews.{ResponseRow, ack_alone, again, answered, fork, provisional, refused, silent}
use Rattle.message_laws.proofs.TokenUse.Rows.{answered_client}
use Rattle.message_laws.proofs.StandingCalls.SoundCalls.{counts_sound}
use Rattle.message_laws.proofs.StandingCalls.SoundRows.{known_leg}
use Rattle.message_laws.proofs.StandingCalls.SoundSteps.{answers_sound}
use Rattle.message_laws.proofs.Messages.Views.{DatagramRow, DueRow, WhatRow, call_fired, came, due, ended, fired_alone, idle, listed, ignored, sent_again, stopped, timed, unfit_branched, unreadable, was_received, what_view}
use Rattle.message_laws.proofs.Traces.Effects.{BeginsNone, IsKnown, IsReady, SaysEffect, SaysPlan, fire_begins, fire_calm, fire_keeps, ground, is_ready, none, reply_calm, says_acks, says_moves, says_nothing, says_reply, says_response, says_step, stopped_ready, told_response}
use Rattle.message_laws.proofs.StandingCalls.LowCalls.{answers_low, counts_low}
use Rattle.message_laws.proofs.Traces.Legs.{IsPut, clients_read}
use Rattle.message_laws.proofs.Traces.Receptions.{GoesWell, message_begins_none, message_goes, message_keeps, message_told, request_is_calm, timer_goes}
use Rattle.message_laws.proofs.Traces.Saying.{EntryIsCalm, EntryKeeps}
use Rattle.message_laws.proofs.Traces.StepSays.{SaysStep, fork_says, first_says, hops_low, late_says, offers_says, takes_says}

-- ---- effects

calm_plan : (before : List Sent) (s : Office) (what : What) (p : Plan) → SaysPlan before s.tokens p.changes p.sends p.made → AllOf EntryIsCalm p.changes → SaysEffect before s what (of_plan s p)
calm_plan before s what p says calm = record { says = says; told = none calm }

none_put : IsPut None
none_put = record { sound = tt; low = tt }

timer_read : (timer : CallTimer) → WasReadIn (timer_input timer)
timer_read timers.Limit = tt
timer_read timers.Repeat = tt
timer_read timers.Wait = tt
timer_read timers.Lifetime = tt

counts_put : (before : List Sent) (s : Office) → IsReady before s → (place : ℕ) (end : _) (number : ℕ) → IsPut (counts s.calls.calls place end number)
counts_put before s k place end number = record { sound = counts_sound s.calls.calls place end number k.dialogs.calls; low = counts_low s.calls.calls place end number k.values.calls }

module _ (reading : Reading) (describes : BodiesDescribe) (before : List Sent) (s : Office) (k : IsReady before s) (e : Setting) where
  -- a call takes an input, after what the transactions did
  takes_plan : (begun : List Entry) (send : Option Outgoing) (place : ℕ) (input : Input) (leg : Option LegDialog) (request : Option AskerValue) → GoesWell before s.tokens send → BeginsNone begun → AllOf EntryKeeps begun → IsPut leg
      → WasReadIn input → SaysPlan before s.tokens (begun ++ (takes_row s.calls s.table (occasion s e) place input leg request).dressed.changes) (goes send ++ (takes_row s.calls s.table (occasion s e) place input leg request).dressed.sends)
      (takes_row s.calls s.table (occasion s e) place input leg request).dressed.made
  takes_plan begun send place input leg request well new keeps put read =
      says_step before s.tokens begun send (takes_row s.calls s.table (occasion s e) place input leg request) well new keeps
      (takes_says before s.calls s.table (occasion s e) place input leg request (ground before s k e) put read)

  takes_calm : (place : ℕ) (input : Input) (leg : Option LegDialog) (request : Option AskerValue) → IsPut leg → WasReadIn input → AllOf EntryIsCalm (takes_row s.calls s.table (occasion s e) place input leg request).dressed.changes
  takes_calm place input leg request put read = (takes_says before s.calls s.table (occasion s e) place input leg request (ground before s k e) put read).calm

  -- where the transactions report no final response
  takes_quietly : (what : What) (begun : List Entry) (id : Option ℕ) (place : ℕ) (input : Input) (leg : Option LegDialog) → BeginsNone begun → AllOf EntryKeeps begun → AllOf EntryIsCalm begun → IsPut leg → WasReadIn input
      → SaysEffect before s what (takes s e begun None id place input leg)
  takes_quietly what begun id place input leg new keeps calm put read =
      let x = takes_row s.calls s.table (occasion s e) place input leg None in
      record {
        says = takes_plan begun None place input leg None tt new keeps put read;
        told = none (all_append EntryIsCalm begun x.dressed.changes calm (takes_calm place input leg None put read));
      }

  asked_quietly : (what : What) (r : Request) (begun : List Entry) (id place : ℕ) (input : Input) (leg : Option LegDialog) (tag : List ℕ) → BeginsNone begun → AllOf EntryKeeps begun → AllOf EntryIsCalm begun → IsPut leg → WasReadIn input
      → SaysEffect before s what (takes_request s e r begun id place input leg tag)
  asked_quietly what r begun id place input leg tag new keeps calm put read = record {
    says = takes_plan begun None place input leg _ tt new keeps put read;
    told = none (all_append EntryIsCalm begun _ calm (takes_calm place input leg _ put read));
  }

  step_quietly : (what : What) (begun : List Entry) (id : Option ℕ) (x : steps.Effect) → BeginsNone begun → AllOf EntryKeeps begun → AllOf EntryIsCalm begun → SaysStep before (occasion s e) x → SaysEffect before s what (with_step s.acks begun None id x)
  step_quietly what begun id x new keeps calm said = record {
    says = says_step before s.tokens begun None x tt new keeps said;
    told = none (all_append EntryIsCalm begun x.dressed.changes calm said.calm);
  }

  -- ---- a request

  request_says : (what : What) (text : List ℕ) (r : Request) (begun : List Entry) (id : ℕ) (x : Effect) → message_of text ≡ Ok (Kinds.Request r) → BeginsNone begun → AllOf EntryKeeps begun → AllOf EntryIsCalm begun → RequestRow s e r begun id x
      → SaysEffect before s what x
  request_says what text r begun id x read new keeps calm (replied reply why is) =
      let reply_is = row_reply s e r begun id reply in
      subst (SaysEffect before s what) (sym is) (calm_plan before s what (reply_row s e r begun id reply) (says_reply before s.tokens begun id _ reply_is new keeps) (reply_calm begun id _ reply_is calm))
  request_says what text r begun id x read new keeps calm (unfit reason is) =
      let reply_is = refuses_reply s e r begun id reason in
      subst (SaysEffect before s what) (sym is) (calm_plan before s what (refuses_for s e r begun id reason) (says_reply before s.tokens begun id _ reply_is new keeps) (reply_calm begun id _ reply_is calm))
  request_says what text r begun id x read new keeps calm (asks_callee to offer why is) =
      subst (SaysEffect before s what) (sym is)
      (step_quietly what begun None (first_row s.calls (occasion s e) r id e.source to offer) new keeps calm
      (first_says before s.calls s.table (occasion s e) r id e.source to offer (ground before s k e)
      (λ contact at_contact. known_leg reading s e text r contact to k.dialogs k.few read at_contact why.bound) (hops_low text r (reading.message text (Kinds.Request r) read))
      (body_read describes text (Kinds.Request r) offer read why.described)))
  request_says what text r begun id x read new keeps calm (cancelled other place named_is found is) = subst (SaysEffect before s what) (sym is) (asked_quietly what r begun id place inputs.Cancel None _ new keeps calm none_put tt)
  request_says what text r begun id x read new keeps calm (left place end rule_is is) =
      subst (SaysEffect before s what) (sym is) (asked_quietly what r begun id place (inputs.Bye end) _ _ new keeps calm (counts_put before s k place end r.parts.cseq.number) tt)
  request_says what text r begun id x read new keeps calm (counted_alone place end reason why is) =
      let reply_is = refuses_reply s e r begun id reason in
      subst (SaysEffect before s what) (sym is) (record { says = says_reply before s.tokens begun id _ reply_is new keeps; told = none (reply_calm begun id _ reply_is calm) })
  request_says what text r begun id x read new keeps calm (passed_on place end c offer rule_is why is) =
      subst (SaysEffect before s what) (sym is)
      (step_quietly what begun None (offers_row s.calls s.table (occasion s e) place (inputs.Offer end (offer_method r) (Some offer)) end r id e.source) new keeps calm
      (offers_says before s.calls s.table (occasion s e) place (inputs.Offer end (offer_method r) (Some offer)) end r id e.source (ground before s k e) (counts_put before s k place end r.parts.cseq.number) (hops_low text r (reading.message text (Kinds.Request r) read))
      (body_read describes text (Kinds.Request r) offer read why.described)))
  request_says what text r begun id x read new keeps calm (refreshed place end why is) =
      let reply_is = okay_reply s e r begun id in
      subst (SaysEffect before s what) (sym is) (record { says = says_reply before s.tokens begun id _ reply_is new keeps; told = none (reply_calm begun id _ reply_is calm) })

  -- ---- a response: what is reported first is of it

  takes_told : (source : Addr) (bytes : List ℕ) (m : Message) (id : Option ℕ) (place : ℕ) (input : Input) (leg : Option LegDialog) → message_of bytes ≡ Ok m → IsPut leg → WasReadIn input
      → SaysEffect before s (whats.Datagram source bytes) (takes s e (begun_by s e m) (reception_of s.table m).send id place input leg)
  takes_told source bytes m id place input leg read put read_in = record {
    says = takes_plan (begun_by s e m) (reception_of s.table m).send place input leg None (message_goes reading before s k.tokens k.dialogs k.values k.was bytes m read) (message_begins_none s e m) (message_keeps s e m) put read_in;
    told = told_response s source bytes m _ read (message_told s e m _ (takes_calm place input leg None put read_in));
  }

  step_told : (source : Addr) (bytes : List ℕ) (m : Message) (id : Option ℕ) (x : steps.Effect) → message_of bytes ≡ Ok m → SaysStep before (occasion s e) x
      → SaysEffect before s (whats.Datagram source bytes) (with_step s.acks (begun_by s e m) (reception_of s.table m).send id x)
  step_told source bytes m id x read said = record {
    says = says_step before s.tokens (begun_by s e m) (reception_of s.table m).send x (message_goes reading before s k.tokens k.dialogs k.values k.was bytes m read) (message_begins_none s e m) (message_keeps s e m) said;
    told = told_response s source bytes m _ read (message_told s e m _ said.calm);
  }

  moves_told : (source : Addr) (bytes : List ℕ) (m : Message) → message_of bytes ≡ Ok m → SaysEffect before s (whats.Datagram source bytes) (of_plan s (moves (begun_by s e m) (reception_of s.table m).send))
  moves_told source bytes m read = record {
    says = says_moves before s.tokens (begun_by s e m) (reception_of s.table m).send (message_goes reading before s k.tokens k.dialogs k.values k.was bytes m read) (message_begins_none s e m) (message_keeps s e m);
    told = told_response s source bytes m _ read (message_told s e m [] tt);
  }

  response_says : (source : Addr) (bytes : List ℕ) (r : Response) (id : ℕ) (t : Transaction) (x : Effect) → message_of bytes ≡ Ok (Kinds.Response r) → is_unreachable_message (Kinds.Response r) ≡ false → IsResponseTo s r id t
      → ResponseRow s e r (begun_by s e (Kinds.Response r)) (reception_of s.table (Kinds.Response r)).send id t x → SaysEffect before s (whats.Datagram source bytes) x
  response_says source bytes r id t x read reached to (silent is) = subst (SaysEffect before s _) (sym is) (moves_told source bytes (Kinds.Response r) read)
  response_says source bytes r id t x read reached to (provisional place status c there asked class at_status is) =
      subst (SaysEffect before s _) (sym is) (takes_told source bytes (Kinds.Response r) None place (inputs.Provisional status) None read none_put tt)
  response_says source bytes r id t x read reached to (answered place c there asked class is) =
      let client = answered_client r.parts t to.answers in
      let says : SaysDialog t.parts = k.dialogs.requests id t to.there client in
      let target : IsTargetIf (reached_at (contacts_of r.headers)) = reached_target reading r.parts r.headers (response_may_offer r.parts t to.answers asked.offers) (response_reached r reached class) in
      subst (SaysEffect before s _) (sym is)
      (takes_told source bytes (Kinds.Response r) (Some id) place (inputs.Answer (described r.headers r.body)) (answers_leg s.calls.calls place t.parts r) read
      (record {
        sound = answers_sound reading bytes t.parts r s.calls.calls place read says target k.dialogs.calls;
        low = answers_low t.parts r s.calls.calls place (clients_read s k.values id t to.there client).values.number k.values.calls;
      }) (body_read_if describes bytes (Kinds.Response r) (described r.headers r.body) read refl))
  response_says source bytes r id t x read reached to (again place acked is) =
      subst (SaysEffect before s _) (sym is) (record {
        says = says_acks before s k.was (begun_by s e (Kinds.Response r)) id (message_begins_none s e (Kinds.Response r)) (message_keeps s e (Kinds.Response r));
        told = told_response s source bytes (Kinds.Response r) _ read (message_told s e (Kinds.Response r) [] tt);
      })
  response_says source bytes r id t x read reached to (fork why is) =
      let client = answered_client r.parts t to.answers in
      subst (SaysEffect before s _) (sym is)
      (step_told source bytes (Kinds.Response r) None (fork_row s.calls (occasion s e) t.parts r) read (fork_says reading before s.calls (occasion s e) bytes t r read k.server (k.dialogs.requests id t to.there client) (clients_read s k.values id t to.there client)))
  response_says source bytes r id t x read reached to (ack_alone is) =
      let client = answered_client r.parts t to.answers in
      subst (SaysEffect before s _) (sym is)
      (step_told source bytes (Kinds.Response r) None (late_row s.calls (occasion s e) t.parts r) read (late_says reading before s.calls (occasion s e) bytes t r read k.server (k.dialogs.requests id t to.there client) (clients_read s k.values id t to.there client)))
  response_says source bytes r id t x read reached to (refused place status c there asked class at_status is) =
      subst (SaysEffect before s _) (sym is) (takes_told source bytes (Kinds.Response r) None place (inputs.Refusal status) None read none_put tt)

  -- ---- a message, and a datagram

  silent_says : (what : What) (taken : Taken) → SaysEffect before s what (of_plan s (nothing taken))
  silent_says what taken = calm_plan before s what (nothing taken) (says_nothing before s.tokens) tt

  message_says : (source : Addr) (bytes : List ℕ) (m : Message) (x : Effect) → message_of bytes ≡ Ok m → is_unreachable_message m ≡ false → MessageRow s e m (begun_by s e m) (reception_of s.table m).send x
      → SaysEffect before s (whats.Datagram source bytes) x
  message_says source bytes m x read reached (dropped taken is) = subst (SaysEffect before s _) (sym is) (silent_says _ taken)
  message_says source bytes m x read reached (moved is) = subst (SaysEffect before s _) (sym is) (moves_told source bytes m read)
  message_says source bytes m x read reached (requested r id is new row) =
      request_says _ bytes r (begun_by s e m) id x (subst (λ y. message_of bytes ≡ Ok y) is read) (message_begins_none s e m) (message_keeps s e m)
      (subst (λ y. AllOf EntryIsCalm (begun_by s e y)) (sym is) (request_is_calm s e r)) row
  message_says source bytes m x read reached (acknowledged r place is found row_is) =
      subst (SaysEffect before s _) (sym row_is) (takes_quietly _ (begun_by s e m) None place inputs.Ack None (message_begins_none s e m) (message_keeps s e m)
      (subst (λ y. AllOf EntryIsCalm (begun_by s e y)) (sym is) (request_is_calm s e r)) none_put tt)
  message_says source bytes m x read reached (responded r id t is up to row) =
      response_says source bytes r id t x (subst (λ y. message_of bytes ≡ Ok y) is read) (subst (λ y. is_unreachable_message y ≡ false) is reached) to
      (subst (λ y. ResponseRow s e r (begun_by s e y) (reception_of s.table y).send id t x) is row)

  datagram_says : (source : Addr) (bytes : List ℕ) (x : Effect) → DatagramRow s e bytes x → SaysEffect before s (whats.Datagram source bytes) x
  datagram_says source bytes x (ignored taken is) = subst (SaysEffect before s _) (sym is) (silent_says _ taken)
  datagram_says source bytes x (unreadable fault parts unread can is) = subst (SaysEffect before s _) (sym is) (calm_plan before s _ _ (says_response before s.tokens _ _) tt)
  datagram_says source bytes x (unfit_branched r read is) = subst (SaysEffect before s _) (sym is) (calm_plan before s _ _ (says_response before s.tokens _ _) tt)
  datagram_says source bytes x (was_received m read branch reached row) = message_says source bytes m x read reached row

-- ---- what is due

module _ (reading : Reading) (describes : BodiesDescribe) (before : List Sent) (s : Office) (k : IsReady before s) (e : Setting) where
  due_says : (what : What) (x : Effect) → DueRow s e x → SaysEffect before s what x
  due_says what x (idle is) = subst (SaysEffect before s what) (sym is) (silent_says reading describes before s k e what _)
  due_says what x (listed users is) = subst (SaysEffect before s what) (sym is) (record { says = says_nothing before s.tokens; told = none tt })
  due_says what x (sent_again timer out fired is) =
      subst (SaysEffect before s what) (sym is) (calm_plan before s what (moves (fire_of timer ∷ []) (Some out)) (says_moves before s.tokens (fire_of timer ∷ []) (Some out) (timer_goes before s k.was timer out fired) (fire_begins timer) (fire_keeps timer)) (fire_calm timer))
  due_says what x (fired_alone timer fired is) =
      subst (SaysEffect before s what) (sym is) (calm_plan before s what (moves (fire_of timer ∷ []) None) (says_moves before s.tokens (fire_of timer ∷ []) None tt (fire_begins timer) (fire_keeps timer)) (fire_calm timer))
  due_says what x (timed timer t place fired times there found is) =
      subst (SaysEffect before s what) (sym is) (takes_quietly reading describes before s k e what (fire_of timer ∷ []) None place inputs.TimedOut None (fire_begins timer) (fire_keeps timer) (fire_calm timer) none_put tt)
  due_says what x (ended timer fired is) =
      subst (SaysEffect before s what) (sym is) (record { says = says_moves before s.tokens (fire_of timer ∷ []) None tt (fire_begins timer) (fire_keeps timer); told = none (fire_calm timer) })
  due_says what x (stopped timer is) =
      subst (SaysEffect before s what) (sym is) (record { says = says_nothing before s.tokens; told = none tt })
  due_says what x (call_fired timer place found is) =
      let own = takes_quietly reading describes before (without_call_timer timer s) (stopped_ready before s k timer) e what [] None place (timer_input timer.timer) None (λ t opens client. opens) tt tt none_put (timer_read timer.timer) in
      subst (SaysEffect before s what) (sym is) (record { says = own.says; told = own.told })

-- ---- an event

what_says : Reading → BodiesDescribe → (before : List Sent) (s : Office) → IsReady before s → (now salt : ℕ) (what : What) (x : Effect) → WhatRow s now salt what x → SaysEffect before s what x
what_says reading describes before s k now salt what x (came source bytes is row) =
    subst (λ w. SaysEffect before s w x) (sym is) (datagram_says reading describes before s k (setting now salt source) source bytes x row)
what_says reading describes before s k now salt what x (due is row) = due_says reading describes before s k (setting now salt no_source) what x row

event_says : Reading → BodiesDescribe → (before : List Sent) (s : Contents) → IsKnown before (office s) → (e : Event) (taken : Option Taken) → only_counts s e ≡ taken → SaysEffect before (office s) e.what (row_by s e taken)
event_says reading describes before s k e (Some taken) is = calm_plan before (office s) e.what (nothing taken) (says_nothing before s.tokens) tt
event_says reading describes before s k e None is =
    what_says reading describes before (office s) (is_ready before (office s) k (few_tokens s e is)) (moment_at s e.now) e.salt e.what (what_row (office s) (moment_at s e.now) e.salt e.what)
    (what_view (office s) (moment_at s e.now) e.salt e.what)

pub row_says : Reading → BodiesDescribe → (before : List Sent) (s : Contents) → IsKnown before (office s) → (e : Event) → SaysEffect before (office s) e.what (row s e)
unfolding row
row_says reading describes before s k e = event_says reading describes before s k e (only_counts s e) refl
