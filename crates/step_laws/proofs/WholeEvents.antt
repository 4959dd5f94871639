-- Each event has a reason for all that it sends.
use Rattle.std.proofs.Common.{◌≡◌, ◌∙◌, ℕ, List, [], Option, Some, None, Ok, refl, ap, sym, subst}
use Rattle.std.specs.Prelude.{slice_get}
use Rattle.sip_uri.specs.declared.uri.Addr.{Addr}
use Rattle.sip_message.specs.Read.{message_of}
use Rattle.sip_message.specs.declared.message.Message.{Message}
use Rattle.sip_message.specs.declared.message.Message.TheVariants as Kinds
use Rattle.sip_message.specs.declared.message.Request.{Request}
use Rattle.sip_message.specs.declared.message.Response.{Response}
use Rattle.transactions.specs.Contents.{reception_of}
use Rattle.transactions.specs.declared.change.Entry.{Entry}
use Rattle.transactions.specs.declared.outcome.Outgoing.{Outgoing}
use Rattle.transactions.specs.declared.transaction.Transaction.{Transaction}
use Rattle.events.specs.declared.event.Event.{Event}
use Rattle.events.specs.declared.event.What.TheVariants as whats
use Rattle.events.specs.declared.sent.Sent.{Sent}
use Rattle.call_core.specs.declared.input.Input.TheVariants as inputs
use Rattle.call_messages.specs.Dressed.{Dressed}
use Rattle.call_rules.specs.Content.{described}
use Rattle.call_steps.specs.Rows.{answers_leg, counts}
use Rattle.plans.specs.CallRows.{asker, offer_method, tag_at, timer_input}
use Rattle.plans.specs.Effect.{Effect}
use Rattle.plans.specs.Plan.{goes}
use Rattle.plans.specs.declared.setting.Setting.{Setting}
use Rattle.plans.specs.declared.taken.Taken.{Taken}
use Rattle.responses.specs.Responding.{stateless}
use Rattle.event_rows.specs.Rows.{no_source, only_counts, row, row_by, setting}
use Rattle.event_rows.specs.State.{Contents, moment_at, office}
use Rattle.message_laws.proofs.Messages.MessageViews as messages
use Rattle.message_laws.proofs.Messages.RequestViews as requests
use Rattle.message_laws.proofs.Messages.ResponseViews as responses
use Rattle.message_laws.proofs.Messages.Views as views
use Rattle.step_laws.specs.Replies.{RespondsOnce}
use Rattle.step_laws.specs.Whole.{GoesByItself, HasReason, by_itself, for_message, for_timer, kept, nothing, response, unread}
use Rattle.step_laws.proofs.Expiry.{same_dressed}
use Rattle.step_laws.proofs.RepeatEvents.{slot_last}
use Rattle.step_laws.proofs.ReplyRows.{reply_once}
use Rattle.step_laws.proofs.WholeRows.{call_sends, first_sends, fork_sends, late_sends, offer_sends}

module _ (s : Contents) (event : Event) where
  abbrev R : Effect → Type 0
  R = HasReason s event

  quiet : (x : Effect) → x.plan.sends ≡ [] → R x
  quiet x none = by_itself [] (nothing refl) none

  sends_of : Effect → List Sent
  sends_of x = x.plan.sends

  module _ (source : Addr) (bytes : List ℕ) (is : event.what ≡ whats.Datagram source bytes) (e : Setting) (from : e.source ≡ source) where
    once : (r : Request) → message_of bytes ≡ Ok (Kinds.Request r) → (x y : Effect) → x ≡ y → RespondsOnce r.parts e.source y → R x
    once r read x y same h = response source bytes r is read (subst (λ a. RespondsOnce r.parts a x) from (subst (RespondsOnce r.parts e.source) (sym same) h))

    request_reason : (r : Request) → message_of bytes ≡ Ok (Kinds.Request r) → (begun : List Entry) (id : ℕ) (x : Effect) → requests.RequestRow (office s) e r begun id x → R x
    request_reason r read begun id x (requests.replied reply rule same) = once r read x _ same (reply_once (office s) e r begun id reply)
    request_reason r read begun id x (requests.unfit reason same) = once r read x _ same (record { taken = refl; status = _; tag = _; further = _; sends = refl })
    request_reason r read begun id x (requests.asks_callee to offer h same) = first_sends s event e x r id to offer (ap (λ (y : Effect). y.plan.sends) same)
    request_reason r read begun id x (requests.cancelled other place h found same) =
        call_sends s event e x [] (nothing refl) place inputs.Cancel None (Some (asker r e id (tag_at (slice_get s.calls.calls place)))) (ap (λ (y : Effect). y.plan.sends) same)
    request_reason r read begun id x (requests.left place end rule same) =
        call_sends s event e x [] (nothing refl) place (inputs.Bye end) (counts s.calls.calls place end r.parts.cseq.number) (Some (asker r e id stateless)) (ap (λ (y : Effect). y.plan.sends) same)
    request_reason r read begun id x (requests.counted_alone place end reason alone same) = once r read x _ same (record { taken = refl; status = _; tag = _; further = _; sends = refl })
    request_reason r read begun id x (requests.passed_on place end c offer rule h same) =
        offer_sends s event e x place (inputs.Offer end (offer_method r) (Some offer)) end r id (ap (λ (y : Effect). y.plan.sends) same)
    request_reason r read begun id x (requests.refreshed place end h same) = once r read x _ same (record { taken = refl; status = 200; tag = _; further = _; sends = refl })

    response_reason : (r : Response) (begun : List Entry) (send : Option Outgoing) → GoesByItself s event (goes send) → (id : ℕ) (t : Transaction) (x : Effect) → responses.ResponseRow (office s) e r begun send id t x → R x
    response_reason r begun send first id t x (responses.silent same) = by_itself (goes send) first (ap (λ (y : Effect). y.plan.sends) same)
    response_reason r begun send first id t x (responses.provisional place status c there asked class number same) =
        call_sends s event e x (goes send) first place (inputs.Provisional status) None None (ap (λ (y : Effect). y.plan.sends) same)
    response_reason r begun send first id t x (responses.answered place c there asked class same) =
        call_sends s event e x (goes send) first place (inputs.Answer (described r.headers r.body)) (answers_leg s.calls.calls place t.parts r) None (ap (λ (y : Effect). y.plan.sends) same)
    response_reason r begun send first id t x (responses.again place acknowledges same) = by_itself _ (kept id refl) (ap (λ (y : Effect). y.plan.sends) same)
    response_reason r begun send first id t x (responses.fork forked same) = fork_sends s event e x (goes send) first r t.parts (ap (λ (y : Effect). y.plan.sends) same)
    response_reason r begun send first id t x (responses.ack_alone same) = late_sends s event e x (goes send) first r t.parts (ap (λ (y : Effect). y.plan.sends) same)
    response_reason r begun send first id t x (responses.refused place status c there asked class number same) =
        call_sends s event e x (goes send) first place (inputs.Refusal status) None None (ap (λ (y : Effect). y.plan.sends) same)

    message_reason : (m : Message) → message_of bytes ≡ Ok m → (begun : List Entry) (x : Effect) → messages.MessageRow (office s) e m begun (reception_of s.table m).send x → R x
    message_reason m read begun x (messages.dropped taken same) = quiet x (ap (λ (y : Effect). y.plan.sends) same)
    message_reason m read begun x (messages.moved same) = by_itself _ (for_message source bytes m is read refl) (ap (λ (y : Effect). y.plan.sends) same)
    message_reason m read begun x (messages.requested r id kind verdict h) = request_reason r (read ∙ ap Ok kind) begun id x h
    message_reason m read begun x (messages.acknowledged r place kind found same) = call_sends s event e x [] (nothing refl) place inputs.Ack None None (ap (λ (y : Effect). y.plan.sends) same)
    message_reason m read begun x (messages.responded r id t kind verdict to h) = response_reason r begun (reception_of s.table m).send (for_message source bytes m is read refl) id t x h

    datagram_reason : (x : Effect) → views.DatagramRow (office s) e bytes x → R x
    datagram_reason x (views.ignored taken same) = quiet x (ap (λ (y : Effect). y.plan.sends) same)
    datagram_reason x (views.unreadable fault parts bad answerable same) =
        unread source bytes parts is answerable (subst (λ a. RespondsOnce parts a x) from (subst (RespondsOnce parts e.source) (sym same) (record { taken = refl; status = _; tag = stateless; further = []; sends = refl })))
    datagram_reason x (views.unfit_branched r read same) = once r read x _ same (record { taken = refl; status = 400; tag = stateless; further = []; sends = refl })
    datagram_reason x (views.was_received m read branch reached h) = message_reason m read _ x h

  -- ---- what is due

  due_reason : (e : Setting) (x : Effect) → views.DueRow (office s) e x → R x
  due_reason e x (views.idle same) = quiet x (ap (λ (y : Effect). y.plan.sends) same)
  due_reason e x (views.listed users same) = quiet x (ap (λ (y : Effect). y.plan.sends) same)
  due_reason e x (views.sent_again timer out fired same) =
      let t = slot_last s timer out fired in
      by_itself _ (for_timer timer.id t.0 t.1 (sym t.2)) (ap (λ (y : Effect). y.plan.sends) same)
  due_reason e x (views.fired_alone timer fired same) = quiet x (ap (λ (y : Effect). y.plan.sends) same)
  due_reason e x (views.timed timer t place fired times there found same) = call_sends s event e x [] (nothing refl) place inputs.TimedOut None None (ap (λ (y : Effect). y.plan.sends) same)
  due_reason e x (views.ended timer fired same) = quiet x (ap (λ (y : Effect). y.plan.sends) same)
  due_reason e x (views.stopped timer same) = quiet x (ap (λ (y : Effect). y.plan.sends) same)
  due_reason e x (views.call_fired timer place found same) =
      call_sends s event e x [] (nothing refl) place (timer_input timer.timer) None None
      (ap (λ (y : Effect). y.plan.sends) same ∙ ap (λ (d : Dressed). d.sends) (same_dressed (office s) timer e place (timer_input timer.timer)))

  what_reason : (now salt : ℕ) (x : Effect) → views.WhatRow (office s) now salt event.what x → R x
  what_reason now salt x (views.came source bytes is h) = datagram_reason source bytes is (setting now salt source) refl x h
  what_reason now salt x (views.due is h) = due_reason (setting now salt no_source) x h

  by_count : (o : Option Taken) → R (row_by s event o)
  by_count None = what_reason (moment_at s event.now) event.salt _ (views.what_view (office s) (moment_at s event.now) event.salt event.what)
  by_count (Some taken) = quiet _ refl

  pub reason : R (row s event)
  unfolding row
  reason = by_count (only_counts s event)
