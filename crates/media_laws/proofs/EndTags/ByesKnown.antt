-- What is known of the 200s to BYEs in a trace stays known, event by event.
use Rattle.std.proofs.Common.{◌≡◌, ℕ, ◌+◌, ◌<◌, ◌^◌, List, [], ◌∷◌, ◌++◌, codes, Option, Some, None, Result, Ok, Err, refl, ap, sym, subst, inl, inr, arith}
use Rattle.std.specs.Prelude.{IsTrue}
use Rattle.std.proofs.lemmas.Option.{same_Some}
use Rattle.configuration.specs.declared.config.Config.{Config}
use Rattle.events.specs.declared.event.Event.{Event}
use Rattle.events.specs.declared.event.What.{What}
use Rattle.events.specs.declared.event.What.TheVariants as whats
use Rattle.events.specs.declared.sent.Sent.{Sent}
use Rattle.sip_message.specs.AnswerableParts.{answerable_of}
use Rattle.sip_message.specs.Read.{message_of}
use Rattle.sip_message.specs.Repeatable.{CanBeRepeated}
use Rattle.sip_message.specs.declared.error.MessageError.{MessageError}
use Rattle.sip_message.specs.declared.error.MessageError.TheVariants as faults
use Rattle.sip_message.specs.declared.message.Message.{Message as ReadMessage}
use Rattle.sip_message.specs.declared.message.Message.TheVariants as Kinds
use Rattle.sip_message.specs.declared.message.Parts.{Parts}
use Rattle.transactions.specs.Changes.{fire_of}
use Rattle.transactions.specs.declared.transaction.Transaction.{Transaction}
use Rattle.call_core.specs.declared.action.CallTimer.{CallTimer}
use Rattle.call_core.specs.declared.action.CallTimer.TheVariants as timers
use Rattle.call_core.specs.declared.input.Input.TheVariants as inputs
use Rattle.calls.specs.declared.timer_id.CallTimerId.{CallTimerId}
use Rattle.plans.specs.CallRows.{of_plan, takes, timer_input, without_call_timer}
use Rattle.plans.specs.Effect.{Effect}
use Rattle.plans.specs.Office.{Office}
use Rattle.plans.specs.Plan.{nothing}
use Rattle.plans.specs.declared.reason.Reason.{Reason}
use Rattle.plans.specs.declared.reason.Reason.TheVariants as reasons
use Rattle.plans.specs.declared.setting.Setting.{Setting}
use Rattle.plans.specs.declared.taken.Taken.{Taken}
use Rattle.plans.specs.declared.taken.Taken.TheVariants as takens
use Rattle.plans.specs.declared.taken.Why.TheVariants as whys
use Rattle.responses.specs.Tokens.{token}
use Rattle.responses.specs.Words.{has_fit_branch, is_method as request_method}
use Rattle.event_rows.specs.Rows.{after, by_reading, datagram_row, fit_row, is_unreachable_message, moment_after, no_source, only_counts, parts_of, read_row, received, refuses_alone, row, row_by, setting, unfit_branch, unread_by, unread_row, what_row}
use Rattle.event_rows.specs.State.{Contents, IsNew, after_event, moment_at, office}
use Rattle.call_trace.specs.declared.call.Call.{Call}
use Rattle.call_trace.specs.declared.datagram.Datagram.{Datagram}
use Rattle.call_trace.specs.declared.datagram.Message.{Message}
use Rattle.call_trace.specs.Events.{IsNewTag, passed}
use Rattle.call_trace.specs.Exchanges.{At}
use Rattle.call_trace.specs.Listed.{AllOf}
use Rattle.call_trace.specs.Messages.{bye, is_method, is_ok}
use Rattle.call_trace.proofs.AtLaws.{at_split}
use Rattle.call_trace.proofs.Members.{all_at}
use Rattle.call_trace.proofs.OneEvent.{sent_part}
use Rattle.message_laws.specs.Addresses.{IsSource}
use Rattle.message_laws.specs.Datagrams.{ComesFromSource}
use Rattle.message_laws.specs.Tokens.{IsMade}
use Rattle.message_laws.proofs.TokenUse.Apartness.{old_and_new}
use Rattle.message_laws.proofs.TokenUse.Grounds.{answerable_repeats, read_repeats}
use Rattle.message_laws.proofs.QuietEvents.Growing.{made_more}
use Rattle.message_laws.proofs.Messages.RequestViews.{by_if}
use Rattle.message_laws.proofs.Messages.Views.{DueRow, call_fired, due_what_view, ended, fired_alone, idle, listed, sent_again, stopped, timed}
use Rattle.message_laws.proofs.Traces.Comings.{alone_comes}
use Rattle.message_laws.proofs.Traces.Scenes.{stopped_scenes}
use Rattle.message_laws.specs.Asked.{KnowsAsked}
use Rattle.message_laws.specs.KnownTrace.{KnowsTrace}
use Rattle.message_laws.specs.Messages.{AreMessages}
use Rattle.message_laws.proofs.TokenUse.UnusedTokens.{unused_tag}
use Rattle.media_laws.specs.Ties.{AreTied}
use Rattle.media_laws.proofs.Copies.Receptions.{LastGoes, fired_goes}
use Rattle.media_laws.proofs.Scenes.Replies.{stateless_says}
use Rattle.media_laws.specs.Byes.{KnowsByes}
use Rattle.media_laws.proofs.EndTags.ByeTags.{IsTagged, own, was_sent}
use Rattle.media_laws.proofs.EndTags.TagRows.{Sends, goes_tagged, last_tagged, none_sent, plain_sent, request_received, response_received, takes_sent}
use Rattle.media_laws.proofs.EndTags.TagSteps.{Laws}

module _ (laws : Laws) (s : Office) (begun : List Transaction) (sent : List Sent) (t : List Datagram) (ds : List Call) (k : AreTied s begun sent t ds) (asked : KnowsAsked s) (e : Setting) where
  abbrev P : Effect → Type 0
  P = Sends laws s begun sent t ds k asked e

  nothing_sent : (ms : List Message) → AreMessages [] ms → AllOf (IsTagged t s.tokens) ms
  nothing_sent = none_sent laws s begun sent t ds k asked e

  -- ---- a datagram

  module _ (from : IsSource e.source) where
    stateless_sent : (parts : Parts) (reason : Reason) → CanBeRepeated parts → P (of_plan s (refuses_alone e parts reason))
    stateless_sent parts reason repeats = plain_sent laws s begun sent t ds k asked e (refuses_alone e parts reason).sends (stateless_says e parts reason from repeats)

    message_sent : (text : List ℕ) (m : ReadMessage) → message_of text ≡ Ok m → P (received s e m)
    message_sent text (Kinds.Request r) read = request_received laws s begun sent t ds k asked e from text r read
    message_sent text (Kinds.Response r) read = response_received laws s begun sent t ds k asked e text r read

    unfit_sent : (text : List ℕ) (m : ReadMessage) → message_of text ≡ Ok m → P (of_plan s (unfit_branch e m))
    unfit_sent text (Kinds.Request r) read =
        by_if (λ p. P (of_plan s p)) (request_method (codes "ACK") r) (nothing (takens.Dropped whys.NoBranch)) (refuses_alone e r.parts reasons.NoBranch) (λ b. nothing_sent)
        (λ b. stateless_sent r.parts reasons.NoBranch (read_repeats text (Kinds.Request r) read))
    unfit_sent text (Kinds.Response r) read = nothing_sent

    unread_by_sent : (text : List ℕ) (fault : MessageError) (parts : Option Parts) → answerable_of text ≡ parts → P (of_plan s (unread_by e fault parts))
    unread_by_sent text fault None can = nothing_sent
    unread_by_sent text fault (Some parts) can = stateless_sent parts (reasons.Unread fault) (answerable_repeats text parts can)

    unread_sent : (text : List ℕ) (fault : MessageError) → P (of_plan s (unread_row e text fault))
    unfolding unread_row
    unread_sent text faults.TooLong = nothing_sent
    unread_sent text fault = unread_by_sent text fault (answerable_of text) refl

    fit_sent : (text : List ℕ) (m : ReadMessage) → message_of text ≡ Ok m → P (fit_row s e m)
    fit_sent text m read = by_if P (is_unreachable_message m) (of_plan s (nothing (takens.Dropped whys.Stray))) (received s e m) (λ b. nothing_sent) (λ b. message_sent text m read)

    read_sent : (text : List ℕ) (m : ReadMessage) → message_of text ≡ Ok m → P (read_row s e m)
    unfolding read_row
    read_sent text m read = by_if P (has_fit_branch (parts_of m).vias) (fit_row s e m) (of_plan s (unfit_branch e m)) (λ b. fit_sent text m read) (λ b. unfit_sent text m read)

    reading_sent : (text : List ℕ) (m : Result ReadMessage MessageError) → message_of text ≡ m → P (by_reading s e text m)
    reading_sent text (Ok m) read = read_sent text m read
    reading_sent text (Err fault) read = unread_sent text fault

    datagram_sent : (text : List ℕ) → P (datagram_row s e text)
    unfolding datagram_row
    datagram_sent text = reading_sent text (message_of text) refl

  -- ---- what is due

  timer_sent : (timer : CallTimer) (place : ℕ) → P (takes s e [] None None place (timer_input timer) None)
  timer_sent timers.Limit place = takes_sent laws s begun sent t ds k asked e [] None None place inputs.Limit None nothing_sent tt refl (alone_comes inputs.Limit tt refl tt)
  timer_sent timers.Repeat place = takes_sent laws s begun sent t ds k asked e [] None None place inputs.Repeat None nothing_sent tt refl (alone_comes inputs.Repeat tt refl tt)
  timer_sent timers.Wait place = takes_sent laws s begun sent t ds k asked e [] None None place inputs.Wait None nothing_sent tt refl (alone_comes inputs.Wait tt refl tt)
  timer_sent timers.Lifetime place = takes_sent laws s begun sent t ds k asked e [] None None place inputs.Lifetime None nothing_sent tt refl (alone_comes inputs.Lifetime tt refl tt)

-- the same calls and transactions, where a timer of a call is due
stopped_tied : (s : Office) (begun : List Transaction) (sent : List Sent) (t : List Datagram) (ds : List Call) (timer : CallTimerId) → AreTied s begun sent t ds → AreTied (without_call_timer timer s) begun sent t ds
stopped_tied s begun sent t ds timer k = record {
  trace = record { read = k.trace.read; sent = k.trace.sent; tokens = k.trace.tokens; asked = k.trace.asked; stands = k.trace.stands; answered = k.trace.answered; served = k.trace.served };
  listed = k.listed;
  tokens = record { slots = k.tokens.slots; calls = k.tokens.calls };
  waiting = record { awaited = k.waiting.awaited; once = k.waiting.once };
  again = record { slots = k.again.slots; acks = k.again.acks; calls = k.again.calls };
  machines = k.machines;
  scenes = stopped_scenes s timer k.scenes;
}

module _ (laws : Laws) (s : Office) (begun : List Transaction) (sent : List Sent) (t : List Datagram) (ds : List Call) (k : AreTied s begun sent t ds) (asked : KnowsAsked s) where
  abbrev Tags : Effect → Type 0
  Tags x = (ms : List Message) → AreMessages x.plan.sends ms → AllOf (IsTagged t s.tokens) ms

  due_sent : (e : Setting) (x : Effect) → DueRow s e x → Tags x
  due_sent e x (idle is) = subst Tags (sym is) (nothing_sent laws s begun sent t ds k asked e)
  due_sent e x (listed users is) = subst Tags (sym is) (nothing_sent laws s begun sent t ds k asked e)
  due_sent e x (sent_again timer out fired is) =
      subst Tags (sym is) (goes_tagged laws s begun sent t ds k asked e (Some out) (λ o same m message. last_tagged laws s begun sent t ds k asked e o m (subst (LastGoes s.table.slots) (same_Some out o same) (fired_goes s.table.slots timer out fired)) message))
  due_sent e x (fired_alone timer fired is) = subst Tags (sym is) (nothing_sent laws s begun sent t ds k asked e)
  due_sent e x (timed timer y place fired times there found is) =
      subst Tags (sym is) (takes_sent laws s begun sent t ds k asked e (fire_of timer ∷ []) None None place inputs.TimedOut None (nothing_sent laws s begun sent t ds k asked e) tt refl (alone_comes inputs.TimedOut tt refl tt))
  due_sent e x (ended timer fired is) = subst Tags (sym is) (nothing_sent laws s begun sent t ds k asked e)
  due_sent e x (stopped timer is) = subst Tags (sym is) (nothing_sent laws s begun sent t ds k asked e)
  due_sent e x (call_fired timer place found is) =
      subst Tags (sym is) (timer_sent laws (without_call_timer timer s) begun sent t ds (stopped_tied s begun sent t ds timer k) asked e timer.timer place)

  what_sent : (now salt : ℕ) (what : What) → ComesFromSource what → Tags (what_row s now salt what)
  unfolding what_row
  what_sent now salt (whats.Datagram source bytes) from = datagram_sent laws s begun sent t ds k asked (setting now salt source) from bytes
  what_sent now salt whats.Due from = due_sent (setting now salt no_source) (what_row s now salt whats.Due) (due_what_view s now salt whats.Due tt)
  what_sent now salt (whats.Silent number) from = due_sent (setting now salt no_source) (what_row s now salt (whats.Silent number)) (due_what_view s now salt (whats.Silent number) tt)
  what_sent now salt (whats.Users users) from = due_sent (setting now salt no_source) (what_row s now salt (whats.Users users)) (due_what_view s now salt (whats.Users users) tt)

-- ---- an event

module _ (laws : Laws) (s : Contents) (e : Event) (begun : List Transaction) (sent : List Sent) (t : List Datagram) (ds : List Call) (k : AreTied (office s) begun sent t ds) (asked : KnowsAsked (office s)) (from : ComesFromSource e.what) where
  event_sent : (taken : Option Taken) → (ms : List Message) → AreMessages (row_by s e taken).plan.sends ms → AllOf (IsTagged t s.tokens) ms
  event_sent (Some taken) [] are = tt
  event_sent (Some taken) (m ∷ ms) are = absurd are
  event_sent None ms are = what_sent laws (office s) begun sent t ds k asked (moment_at s e.now) e.salt e.what from ms are

  row_sent : (ms : List Message) → AreMessages (row s e).plan.sends ms → AllOf (IsTagged t s.tokens) ms
  unfolding row
  row_sent ms are = event_sent (only_counts s e) ms are

tokens_grow : (s : Contents) (now : ℕ) (x : Effect) (tag : List ℕ) → IsMade s.tokens tag → IsMade (office (after_event s now x)).tokens tag
unfolding after_event
tokens_grow s now x tag h = made_more s.tokens (s.tokens + x.plan.made) tag (omega arith) h

tagged_made : (s : Office) (t : List Datagram) (m : Message) → KnowsByes s t → IsTagged t s.tokens m → IsTrue (is_ok m.kind) → IsTrue (is_method bye m.method) → IsMade s.tokens m.to_tag
tagged_made s t m known (was_sent i q there out same) ok by =
    subst (λ (x : Message). IsMade s.tokens x.to_tag) same
    (known i q there out (subst (λ (x : Message). IsTrue (is_ok x.kind)) (sym same) ok) (subst (λ (x : Message). IsTrue (is_method bye x.method)) (sym same) by))
tagged_made s t m known (own made) ok by = made ok by

byes_there : (s : Office) (t : List Datagram) (n : ℕ) (taken : Option Message) (ms : List Message) → KnowsByes s t → AllOf (IsTagged t s.tokens) ms → KnowsByes s (t ++ passed n taken ms)
byes_there s t n taken ms known all i p there out ok by = elim (at_split t (passed n taken ms) i p there) [
  | inl old ↦ known i p old out ok by
  | inr b ↦ (let went = sent_part n taken ms b.0 p b.2 out in
      let same : p.message ≡ went.1 = ap (λ (v : Datagram). v.message) went.4 in
      subst (λ (x : Message). IsMade s.tokens x.to_tag) (sym same)
      (tagged_made s t went.1 known (all_at (IsTagged t s.tokens) ms went.0 went.1 all went.2) (subst (λ (x : Message). IsTrue (is_ok x.kind)) same ok) (subst (λ (x : Message). IsTrue (is_method bye x.method)) same by)))
]

pub byes_after : Laws → (s : Contents) (e : Event) (begun : List Transaction) (sent : List Sent) (t : List Datagram) (ds : List Call) (n : ℕ) (taken : Option Message) (ms : List Message) → AreTied (office s) begun sent t ds
    → KnowsAsked (office s) → ComesFromSource e.what → AreMessages (row s e).plan.sends ms → KnowsByes (office s) t → KnowsByes (office (after s e)) (t ++ passed n taken ms)
byes_after laws s e begun sent t ds n taken ms k asked from are known = λ i p there out ok by.
    tokens_grow s (moment_after s e) (row s e) p.message.to_tag (byes_there (office s) t n taken ms known (row_sent laws s e begun sent t ds k asked from ms are) i p there out ok by)

pub new_byes : (c : Config) (s : Contents) → IsNew c s → KnowsByes (office s) []
unfolding At
new_byes c s new = λ i p e out ok by. absurd (cc)

-- ---- a tag that is made next

pub next_tag : (s : Office) (begun : List Transaction) (sent : List Sent) (t : List Datagram) (salt count : ℕ) → KnowsTrace s begun sent t → KnowsByes s t → s.tokens < count → count < 2 ^ 64 → IsNewTag t (token salt count)
next_tag s begun sent t salt count k known lt few = record {
  from = unused_tag s begun sent t salt count k lt few;
  to = λ i p there out ok by is. old_and_new s.tokens salt count p.message.to_tag (known i p there out ok by) lt few is;
}
