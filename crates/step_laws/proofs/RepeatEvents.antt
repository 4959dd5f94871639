-- The events that no call takes: what was sent before is sent again, or nothing.
use Rattle.std.proofs.Common.{◌≡◌, ◌∙◌, ◌⊎◌, ℕ, Bool, true, false, cond, List, [], ◌∷◌, Option, Some, None, inl, inr, refl, ap, sym, subst}
use Rattle.sip_uri.specs.declared.uri.Addr.{Addr}
use Rattle.sip_message.specs.declared.message.Message.TheVariants as Kinds
use Rattle.sip_message.specs.declared.message.Request.{Request}
use Rattle.sip_message.specs.declared.message.Response.{Response}
use Rattle.timers.specs.declared.timers.Timer.{Timer}
use Rattle.transaction_machines.specs.declared.input.Input.TheVariants as inputs
use Rattle.transaction_machines.specs.declared.step.Sending.{Sending}
use Rattle.transaction_machines.specs.declared.step.Sending.TheVariants.{Again, Fresh, Nothing}
use Rattle.transaction_machines.specs.declared.step.Step.{Step}
use Rattle.transaction_machines.specs.declared.step.Told.{Told}
use Rattle.transaction_machines.specs.declared.step.Told.TheVariants as tellings
use Rattle.transaction_machines.specs.Machines.{row_of}
use Rattle.transactions.specs.Changes.{change_of, fire_of}
use Rattle.transactions.specs.Contents.{fired_by, fired_of, fired_step, reception_of}
use Rattle.transactions.specs.Slots.{at}
use Rattle.transactions.specs.Transactions.{sent}
use Rattle.transactions.specs.declared.change.Entry.{Entry}
use Rattle.transactions.specs.declared.outcome.Fired.TheVariants as fires
use Rattle.transactions.specs.declared.outcome.Outgoing.{Outgoing}
use Rattle.transactions.specs.declared.outcome.Verdict.TheVariants as verdicts
use Rattle.transactions.specs.declared.transaction.TimerId.{TimerId}
use Rattle.transactions.specs.declared.transaction.Transaction.{Transaction}
use Rattle.events.specs.declared.event.Event.{Event}
use Rattle.call_rules.specs.Reach.{is_unreachable}
use Rattle.call_rules.specs.Responses.{response_rule, timeout_rule}
use Rattle.call_rules.specs.declared.responses.ResponseRule.TheVariants as rule
use Rattle.plans.specs.CallRows.{of_plan, responds_by, timed_out, timed_out_at, timeout_row, times_responses}
use Rattle.plans.specs.Effect.{Effect}
use Rattle.plans.specs.Plan.{goes, moves}
use Rattle.plans.specs.declared.setting.Setting.{Setting}
use Rattle.event_rows.specs.Rows.{fires_by, row, timer_row}
use Rattle.event_rows.specs.State.{Contents, office}
use Rattle.step_laws.specs.Coming.{GoesUp}
use Rattle.step_laws.specs.Repeats.{FiresAgain, Finds, GoesAgainOrNothing, RespondsAgain, SendsJust, TimerIsDue, ack_kept, last_of}
use Rattle.step_laws.proofs.ComingRows.{IsStill, setting_of, still_row, up_row}
use Rattle.step_laws.proofs.Expiry.{due_at, table_timer_is}
use Rattle.step_laws.proofs.RepeatRows.{last_sent, repeat_goes_back, swallowed_again, swallowed_quietly}

-- what the transactions move
pub moves_just : (s : Contents) (begun : List Entry) (send out : Option Outgoing) (x : Effect) → x ≡ of_plan (office s) (moves begun send) → send ≡ out → SendsJust (goes out) x
moves_just s begun send out x is same = subst (SendsJust (goes out)) (sym is) (record { taken = refl; sends = ap goes same })

-- ---- what a timer sends

sends_last : (t : Transaction) (send : Sending) (out : Outgoing) → sent t None send ≡ Some out → last_sent t ≡ Some out
sends_last t Nothing out is = absurd cc
sends_last t Again out is = is
sends_last t Fresh out is = absurd cc

told_send : (told : Told) (send : Option Outgoing) (out : Outgoing) → fired_by told send ≡ Some (fires.Send out) → send ≡ Some out
told_send tellings.TimedOut send out e = absurd cc
told_send tellings.Ended send out e = absurd cc
told_send tellings.Silent None out e = absurd cc
told_send tellings.Silent (Some o) out e = cc
told_send tellings.Up None out e = absurd cc
told_send tellings.Up (Some o) out e = cc

step_last : (t : Transaction) (step : Option Step) (out : Outgoing) → fired_step t step ≡ Some (fires.Send out) → last_sent t ≡ Some out
step_last t None out is = absurd cc
step_last t (Some step) out is = sends_last t step.send out (told_send step.told (sent t None step.send) out is)

-- ---- the events

module _ (s : Contents) (event : Event) where
  module _ (source : Addr) (bytes : List ℕ) (r : Request) where
    moved : (comes : Finds s event source bytes (Kinds.Request r) verdicts.Repeat ⊎ Finds s event source bytes (Kinds.Request r) verdicts.Swallowed)
        → row s event ≡ of_plan (office s) (moves (change_of s.table (Kinds.Request r) source ∷ []) (reception_of s.table (Kinds.Request r)).send)
    moved (inl h) = still_row s event source bytes (Kinds.Request r) h.comes refl (subst IsStill (sym h.says) tt)
    moved (inr h) = still_row s event source bytes (Kinds.Request r) h.comes refl (subst IsStill (sym h.says) tt)

    pub request : Finds s event source bytes (Kinds.Request r) verdicts.Repeat → RespondsAgain s r (row s event)
    request h =
        let x = repeat_goes_back s.table r h.says in
        record { id = x.id; first = x.first; stands = x.stands; copies = x.copies; again = moves_just s _ _ (last_sent x.first) (row s event) (moved (inl h)) x.again }

    pub absorbed : Finds s event source bytes (Kinds.Request r) verdicts.Swallowed → SendsJust [] (row s event)
    absorbed h = moves_just s _ _ None (row s event) (moved (inr h)) (swallowed_quietly s.table r h.says)

  module _ (source : Addr) (bytes : List ℕ) (r : Response) where
    either_goes : (begun : List Entry) (send : Option Outgoing) (t : Transaction) → row s event ≡ of_plan (office s) (moves begun send) → (send ≡ None) ⊎ (send ≡ last_sent t)
        → SendsJust [] (row s event) ⊎ SendsJust (last_of t) (row s event)
    either_goes begun send t is (inl none) = inl (moves_just s begun send None (row s event) is none)
    either_goes begun send t is (inr last) = inr (moves_just s begun send (last_sent t) (row s event) is last)

    pub response : Finds s event source bytes (Kinds.Response r) verdicts.Swallowed → is_unreachable r ≡ false → GoesAgainOrNothing s r (row s event)
    response h reached =
        let x = swallowed_again s.table r h.says in
        record {
          id = x.id;
          asked = x.asked;
          stands = x.stands;
          responds = x.responds;
          again = either_goes _ _ x.asked (still_row s event source bytes (Kinds.Response r) h.comes reached (subst IsStill (sym h.says) tt)) x.again;
        }

    pub success : (id : ℕ) (asked : Transaction) → GoesUp s event source bytes r id asked → (place : ℕ) → response_rule s.calls.calls asked.parts r ≡ rule.Again place → SendsJust (ack_kept s id) (row s event)
    success id asked up place is =
        subst (SendsJust (ack_kept s id))
        (sym (up_row s event source bytes r id asked up
        ∙ ap (responds_by (office s) (setting_of s event source) r (change_of s.table (Kinds.Response r) source ∷ []) (reception_of s.table (Kinds.Response r)).send id asked) is)) (record { taken = refl; sends = refl })

  -- ---- a timer

  module _ (timer : Timer TimerId) (h : TimerIsDue s event timer) where
    abbrev e : Setting
    e = due_at s event

    fired_row : (o : Option _) → fired_of (at s.table.slots timer.key.id) timer.key.kind ≡ o → row s event ≡ fires_by (office s) e timer.key o
    unfolding timer_row
    fired_row o is = table_timer_is s event timer h ∙ ap (fires_by (office s) e timer.key) is

    slot_fires : (o : Option Transaction) → at s.table.slots timer.key.id ≡ o → (out : Outgoing) → fired_of o timer.key.kind ≡ Some (fires.Send out) → row s event ≡ fires_by (office s) e timer.key (Some (fires.Send out))
        → FiresAgain s timer (row s event)
    slot_fires None there out fired is = absurd cc
    slot_fires (Some t) there out fired is =
        record { asked = t; stands = there; again = moves_just s (fire_of timer.key ∷ []) (Some out) (last_sent t) (row s event) is (sym (step_last t (row_of t.state (inputs.Fires timer.key.kind)) out fired)) }

    pub fired : (out : Outgoing) → fired_of (at s.table.slots timer.key.id) timer.key.kind ≡ Some (fires.Send out) → FiresAgain s timer (row s event)
    fired out is = slot_fires (at s.table.slots timer.key.id) refl out is (fired_row (Some (fires.Send out)) is)

    pub ended : fired_of (at s.table.slots timer.key.id) timer.key.kind ≡ Some fires.Ended → SendsJust [] (row s event)
    ended is = subst (SendsJust []) (sym (fired_row (Some fires.Ended) is)) (record { taken = refl; sends = refl })

    timed : (b : Bool) → times_responses timer.key.kind ≡ b → fired_of (at s.table.slots timer.key.id) timer.key.kind ≡ Some fires.TimedOut
        → row s event ≡ cond b (timed_out (office s) e (fire_of timer.key ∷ []) (at s.table.slots timer.key.id)) (of_plan (office s) (moves (fire_of timer.key ∷ []) None))
    unfolding timeout_row
    timed b times is = fired_row (Some fires.TimedOut) is ∙ ap (λ x. cond x (timed_out (office s) e (fire_of timer.key ∷ []) (at s.table.slots timer.key.id)) (of_plan (office s) (moves (fire_of timer.key ∷ []) None))) times

    pub unheard : fired_of (at s.table.slots timer.key.id) timer.key.kind ≡ Some fires.TimedOut → times_responses timer.key.kind ≡ false → SendsJust [] (row s event)
    unheard is times = moves_just s (fire_of timer.key ∷ []) None None (row s event) (timed false times is) refl

    pub unclaimed : (asked : Transaction) → at s.table.slots timer.key.id ≡ Some asked → fired_of (at s.table.slots timer.key.id) timer.key.kind ≡ Some fires.TimedOut → times_responses timer.key.kind ≡ true
        → timeout_rule s.calls.calls asked.parts ≡ None → SendsJust [] (row s event)
    unclaimed asked there is times none =
        moves_just s (fire_of timer.key ∷ []) None None (row s event)
        (timed true times is ∙ (ap (timed_out (office s) e (fire_of timer.key ∷ [])) there ∙ ap (timed_out_at (office s) e (fire_of timer.key ∷ [])) none)) refl

-- what a timer sends is what its transaction sent last
pub slot_last : (s : Contents) (timer : TimerId) (out : Outgoing) → fired_of (at s.table.slots timer.id) timer.kind ≡ Some (fires.Send out) → (t : Transaction) × (at s.table.slots timer.id ≡ Some t) × (last_of t ≡ goes (Some out))
slot_last s timer out fired = by_slot (at s.table.slots timer.id) refl fired
  where
    by_slot : (o : Option Transaction) → at s.table.slots timer.id ≡ o → fired_of o timer.kind ≡ Some (fires.Send out) → (t : Transaction) × (at s.table.slots timer.id ≡ Some t) × (last_of t ≡ goes (Some out))
    by_slot None there is = absurd cc
    by_slot (Some t) there is = (t, there, ap goes (step_last t (row_of t.state (inputs.Fires timer.kind)) out is))
