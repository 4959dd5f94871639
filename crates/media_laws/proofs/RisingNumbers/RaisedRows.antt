-- What each event makes of the calls: their dialogs have taken what they had, and the number of each open offer.
use Rattle.std.proofs.Common.{◌≡◌, ◌∙◌, ℕ, ◌<◌, ◌^◌, true, List, [], ◌∷◌, Option, Some, None, Result, Ok, Err, refl, sym, subst}
use Rattle.std.specs.Prelude.{slice_get}
use Rattle.std.specs.List.{All}
use Rattle.std.proofs.lemmas.List.Elements.{All-nil}
use Rattle.std.proofs.lemmas.Option.{same_Some}
use Rattle.configuration.specs.declared.config.Config.{Config}
use Rattle.events.specs.declared.event.Event.{Event}
use Rattle.events.specs.declared.event.What.{What}
use Rattle.events.specs.declared.event.What.TheVariants as whats
use Rattle.sip_message.specs.Read.{message_of}
use Rattle.sip_message.specs.Words.{tag_text, tag_value}
use Rattle.sip_message.specs.declared.error.MessageError.{MessageError}
use Rattle.sip_message.specs.declared.message.Message.{Message}
use Rattle.sip_message.specs.declared.message.Message.TheVariants as Kinds
use Rattle.sip_message.specs.declared.message.Parts.{Parts}
use Rattle.sip_message.specs.declared.message.Request.{Request}
use Rattle.sip_message.specs.declared.message.Response.{Response}
use Rattle.transactions.specs.Changes.{fire_of}
use Rattle.transactions.specs.Contents.{reception_of}
use Rattle.transactions.specs.declared.change.Entry.{Entry}
use Rattle.transactions.specs.declared.outcome.Outgoing.{Outgoing}
use Rattle.transactions.specs.declared.outcome.Verdict.{Verdict}
use Rattle.transactions.specs.declared.outcome.Verdict.TheVariants as verdicts
use Rattle.transactions.specs.declared.transaction.Transaction.{Transaction}
use Rattle.call_media.specs.declared.end.End.{End}
use Rattle.call_core.specs.declared.action.CallTimer.{CallTimer}
use Rattle.call_core.specs.declared.action.CallTimer.TheVariants as timers
use Rattle.call_core.specs.declared.input.Input.{Input}
use Rattle.call_core.specs.declared.input.Input.TheVariants as inputs
use Rattle.call_rules.specs.Content.{described}
use Rattle.call_rules.specs.Responses.{is_open}
use Rattle.call_rules.specs.DialogRule as dialogrules
use Rattle.call_steps.specs.Rows.{answers_leg, counts, refreshes}
use Rattle.calls.specs.Finding.{place_by_ack}
use Rattle.calls.specs.declared.change.LegDialog.{LegDialog}
use Rattle.calls.specs.declared.standing_call.StandingCall.{StandingCall}
use Rattle.calls.specs.declared.timer_id.CallTimerId.{CallTimerId}
use Rattle.plans.specs.CallRows as rows
use Rattle.plans.specs.CallRows.{occasion, of_plan, offer_method, puts_if, takes, timer_input, without_call_timer}
use Rattle.plans.specs.Effect.{Effect}
use Rattle.plans.specs.Office.{Office}
use Rattle.plans.specs.Plan.{nothing}
use Rattle.plans.specs.declared.setting.Setting.{Setting}
use Rattle.plans.specs.declared.taken.Taken.{Taken}
use Rattle.plans.specs.declared.taken.Taken.TheVariants as takens
use Rattle.plans.specs.declared.taken.Why.TheVariants as whys
use Rattle.responses.specs.Words.{has_fit_branch}
use Rattle.event_rows.specs.Rows.{after, by_reading, datagram_row, fit_row, is_full, is_unreachable_message, moment_after, no_source, only_counts, parts_of, read_row, received, received_by, request_by, row, row_by, rule_row, setting, unfit_branch, what_row}
use Rattle.event_rows.specs.Rules.{request_rule}
use Rattle.event_rows.specs.State.{Contents, IsNew, after_event, moment_at, office}
use Rattle.event_rows.specs.Trace.{Entry as TraceEntry, after_answer, after_entries, after_entry}
use Rattle.message_laws.specs.Knowing.{KnowsTokens}
use Rattle.message_laws.proofs.TokenUse.Events.{after_knows, few_tokens, new_knows}
use Rattle.message_laws.proofs.Messages.MessageViews.{ReceivedRow, acknowledged, begun_by, dropped, moved, received_view, requested, responded}
use Rattle.message_laws.proofs.Messages.RequestViews.{RequestRow, asks_callee, by_if, cancelled, counted_alone, left, passed_on, refreshed, replied, request_view, unfit}
use Rattle.message_laws.proofs.Messages.ResponseViews.{ResponseRow, ack_alone, again, answered, fork, provisional, refused, silent}
use Rattle.message_laws.proofs.TokenUse.TaggedSteps.{answers_fits, counts_fits, refreshes_fits}
use Rattle.message_laws.proofs.AwaitedOffers.Tables.{IsNoOfferInput}
use Rattle.message_laws.proofs.Messages.Views.{DueRow, call_fired, due_what_view, ended, fired_alone, idle, listed, sent_again, stopped, timed}
use Rattle.message_laws.proofs.AwaitedOffers.WaitPassed.{passes_settled}
use Rattle.media_laws.specs.Rising.{RisesFrom}
use Rattle.media_laws.specs.Taken.{HasTakenOffer, KnowsTaken}
use Rattle.media_laws.proofs.RisingNumbers.DialogRules.{CountsIn, counts_alone, counts_by_rule}
use Rattle.media_laws.proofs.RisingNumbers.RaisedCalls.{AllGo, CanPut, answers_raises, counts_raises, first_goes, fork_goes, kept_all, late_goes, offers_go, puts_go, refreshes_raises, takes_go}

-- what is known where an event comes
pub record IsReady (s : Office) : Type 0 where
  pub tokens : KnowsTokens s
  pub taken : KnowsTaken s
  pub few : s.tokens < 2 ^ 63

abbrev pub Rises : Office → Effect → Type 0
Rises s x = AllGo s.tokens s.calls.calls x.calls.standing.calls

stopped_ready : (s : Office) → IsReady s → (timer : CallTimerId) → IsReady (without_call_timer timer s)
stopped_ready s k timer = record { tokens = record { slots = k.tokens.slots; calls = k.tokens.calls }; taken = k.taken; few = k.few }

module _ (s : Office) (k : IsReady s) (e : Setting) where
  abbrev P : Effect → Type 0
  P = Rises s

  same_calls : AllGo s.tokens s.calls.calls s.calls.calls
  same_calls = kept_all s.tokens s.calls.calls k.taken

  -- no dialog comes
  no_leg : (place : ℕ) (d : StandingCall) → slice_get s.calls.calls place ≡ Some d → CanPut s.tokens d None
  no_leg place d there = record { fits = tt; raises = tt }

  counts_put : (place : ℕ) (end : End) (number : ℕ) → CountsIn s.calls.calls place end number → (d : StandingCall) → slice_get s.calls.calls place ≡ Some d → CanPut s.tokens d (counts s.calls.calls place end number)
  counts_put place end number h d there = record {
    fits = counts_fits s.tokens s.calls.calls place end number d k.tokens.calls there;
    raises = counts_raises s.calls.calls place end number d d.call h there refl;
  }

  takes_rise : (begun : List Entry) (send : Option Outgoing) (id : Option ℕ) (place : ℕ) (input : Input) (leg : Option LegDialog) → IsNoOfferInput input → ((d : StandingCall) → slice_get s.calls.calls place ≡ Some d → CanPut s.tokens d leg)
      → P (takes s e begun send id place input leg)
  takes_rise begun send id place input leg n can = takes_go s.tokens s.calls s.table (occasion s e) place input leg None n k.taken can

  -- ---- a request that begins transaction id

  no_tag_text : (parts : Parts) → tag_value parts.to.params ≡ None → tag_text parts.to.params ≡ []
  no_tag_text parts none = rw none refl

  counted_rises : (place : ℕ) (end : End) (number : ℕ) → CountsIn s.calls.calls place end number → AllGo s.tokens s.calls.calls (puts_if s.calls place (counts s.calls.calls place end number)).calls
  counted_rises place end number h = puts_go s.tokens s.calls place (counts s.calls.calls place end number) (counts_put place end number h) k.taken

  case_rises : (r : Request) (begun : List Entry) (id : ℕ) (x : Effect) → RequestRow s e r begun id x → P x
  case_rises r begun id x (replied reply rule is) = subst P (sym is) same_calls
  case_rises r begun id x (unfit reason is) = subst P (sym is) same_calls
  case_rises r begun id x (asks_callee to offer why is) = subst P (sym is) (first_goes s.calls (occasion s e) r id e.source to offer (no_tag_text r.parts why.no_tag) k.few k.taken)
  case_rises r begun id x (cancelled other place why found is) = subst P (sym is) (takes_go s.tokens s.calls s.table (occasion s e) place inputs.Cancel None _ tt k.taken (no_leg place))
  case_rises r begun id x (left place end rule is) =
      subst P (sym is) (takes_go s.tokens s.calls s.table (occasion s e) place (inputs.Bye end) (counts s.calls.calls place end r.parts.cseq.number) _ tt k.taken
      (counts_put place end r.parts.cseq.number (counts_by_rule s.calls.calls r (dialogrules.Leaves place end) rule)))
  case_rises r begun id x (counted_alone place end reason why is) = subst P (sym is) (counted_rises place end r.parts.cseq.number (counts_alone s.calls.calls r place end why))
  case_rises r begun id x (passed_on place end c offer rule why is) =
      subst P (sym is)
      (offers_go s.tokens s.calls s.table (occasion s e) place end (offer_method r) offer r id e.source c k.tokens.calls k.taken why.there (passes_settled r end c.call why.passes)
      (counts_by_rule s.calls.calls r (dialogrules.Offers place end) rule))
  case_rises r begun id x (refreshed place end why is) =
      let h = counts_by_rule s.calls.calls r (dialogrules.Plain place end) why.rule in
      subst P (sym is)
      (puts_go s.tokens s.calls place (refreshes s.calls.calls place end r)
      (λ d there. record { fits = refreshes_fits s.tokens s.calls.calls place end r d k.tokens.calls there; raises = refreshes_raises s.calls.calls place end r d h there }) k.taken)

  -- ---- any request

  ack_by_rises : (begun : List Entry) (place : Option ℕ) → P (rows.ack_by s e begun place)
  ack_by_rises begun None = same_calls
  ack_by_rises begun (Some place) = takes_rise begun None None place inputs.Ack None tt (no_leg place)

  ack_rises : (r : Request) (begun : List Entry) → P (rows.ack_row s e r begun)
  unfolding rows.ack_row
  ack_rises r begun = ack_by_rises begun (place_by_ack r.parts s.calls.calls)

  request_by_rises : (r : Request) (begun : List Entry) (verdict : Verdict) (send : Option Outgoing) → P (request_by s e r begun verdict send)
  unfolding request_by
  request_by_rises r begun (verdicts.New id) send = case_rises r begun id (rule_row s e r begun id (request_rule s r e.now)) (request_view s e r begun id)
  request_by_rises r begun verdicts.Repeat send = same_calls
  request_by_rises r begun verdicts.Swallowed send = same_calls
  request_by_rises r begun (verdicts.Up id) send = ack_rises r begun
  request_by_rises r begun verdicts.Stray send = ack_rises r begun

  request_received : (r : Request) → P (received s e (Kinds.Request r))
  unfolding received
  request_received r =
      let m = Kinds.Request r in
      by_if P (is_full s e (reception_of s.table m)) (of_plan s (nothing takens.Shed)) (received_by s e m (begun_by s e m) (reception_of s.table m).verdict (reception_of s.table m).send) (λ full. same_calls)
      (λ room. request_by_rises r (begun_by s e m) (reception_of s.table m).verdict (reception_of s.table m).send)

  -- ---- a response to a request of the server's own

  response_rises : (r : Response) (begun : List Entry) (send : Option Outgoing) (id : ℕ) (t : Transaction) (x : Effect) → ResponseRow s e r begun send id t x → P x
  response_rises r begun send id t x (silent is) = subst P (sym is) same_calls
  response_rises r begun send id t x (provisional place status c there asked class at_status is) = subst P (sym is) (takes_rise begun send None place (inputs.Provisional status) None tt (no_leg place))
  response_rises r begun send id t x (answered place c there asked class is) =
      subst P (sym is)
      (takes_rise begun send (Some id) place (inputs.Answer (described r.headers r.body)) (answers_leg s.calls.calls place t.parts r) tt
      (λ d at_d. record {
        fits = answers_fits s.tokens s.calls.calls place t.parts r d k.tokens.calls at_d (subst (λ y. is_open t.parts y ≡ true) (same_Some c d (sym there ∙ at_d)) asked.waits);
        raises = answers_raises s.calls.calls place t.parts r d at_d;
      }))
  response_rises r begun send id t x (again place acked is) = subst P (sym is) same_calls
  response_rises r begun send id t x (fork why is) = subst P (sym is) (fork_goes s.tokens s.calls (occasion s e) t.parts r k.taken)
  response_rises r begun send id t x (ack_alone is) = subst P (sym is) (late_goes s.tokens s.calls (occasion s e) t.parts r k.taken)
  response_rises r begun send id t x (refused place status c there asked class at_status is) = subst P (sym is) (takes_rise begun send None place (inputs.Refusal status) None tt (no_leg place))

  response_view_rises : (r : Response) (x : Effect) → ReceivedRow s e (Kinds.Response r) x → P x
  response_view_rises r x (dropped taken is) = subst P (sym is) same_calls
  response_view_rises r x (moved is) = subst P (sym is) same_calls
  response_view_rises r x (requested asked id is new view) = absurd cc
  response_view_rises r x (acknowledged asked place is found view) = absurd cc
  response_view_rises r x (responded own id t is up to view) = response_rises own (begun_by s e (Kinds.Response r)) _ id t x view

  -- ---- what came

  message_rises : (m : Message) → P (received s e m)
  message_rises (Kinds.Request r) = request_received r
  message_rises (Kinds.Response r) = response_view_rises r (received s e (Kinds.Response r)) (received_view s e (Kinds.Response r))

  fit_rises : (m : Message) → P (fit_row s e m)
  fit_rises m = by_if P (is_unreachable_message m) (of_plan s (nothing (takens.Dropped whys.Stray))) (received s e m) (λ b. same_calls) (λ b. message_rises m)

  read_rises : (m : Message) → P (read_row s e m)
  unfolding read_row
  read_rises m = by_if P (has_fit_branch (parts_of m).vias) (fit_row s e m) (of_plan s (unfit_branch e m)) (λ b. fit_rises m) (λ b. same_calls)

  reading_rises : (bytes : List ℕ) (m : Result Message MessageError) → P (by_reading s e bytes m)
  reading_rises bytes (Ok m) = read_rises m
  reading_rises bytes (Err fault) = same_calls

  datagram_rises : (bytes : List ℕ) → P (datagram_row s e bytes)
  unfolding datagram_row
  datagram_rises bytes = reading_rises bytes (message_of bytes)

-- ---- what is due

timer_rises : (s : Office) → IsReady s → (e : Setting) (place : ℕ) (timer : CallTimer) → Rises s (takes s e [] None None place (timer_input timer) None)
timer_rises s k e place timers.Limit = takes_rise s k e [] None None place inputs.Limit None tt (no_leg s k e place)
timer_rises s k e place timers.Repeat = takes_rise s k e [] None None place inputs.Repeat None tt (no_leg s k e place)
timer_rises s k e place timers.Wait = takes_rise s k e [] None None place inputs.Wait None tt (no_leg s k e place)
timer_rises s k e place timers.Lifetime = takes_rise s k e [] None None place inputs.Lifetime None tt (no_leg s k e place)

due_rises : (s : Office) → IsReady s → (e : Setting) (x : Effect) → DueRow s e x → Rises s x
due_rises s k e x (idle is) = subst (Rises s) (sym is) (same_calls s k e)
due_rises s k e x (listed users is) = subst (Rises s) (sym is) (same_calls s k e)
due_rises s k e x (sent_again timer out fired is) = subst (Rises s) (sym is) (same_calls s k e)
due_rises s k e x (fired_alone timer fired is) = subst (Rises s) (sym is) (same_calls s k e)
due_rises s k e x (timed timer t place fired times there found is) = subst (Rises s) (sym is) (takes_rise s k e (fire_of timer ∷ []) None None place inputs.TimedOut None tt (no_leg s k e place))
due_rises s k e x (ended timer fired is) = subst (Rises s) (sym is) (same_calls s k e)
due_rises s k e x (stopped timer is) = subst (Rises s) (sym is) (same_calls s k e)
due_rises s k e x (call_fired timer place found is) = subst (Rises s) (sym is) (timer_rises (without_call_timer timer s) (stopped_ready s k timer) e place timer.timer)

what_rises : (s : Office) → IsReady s → (now salt : ℕ) (what : What) → Rises s (what_row s now salt what)
unfolding what_row
what_rises s k now salt (whats.Datagram source bytes) = datagram_rises s k (setting now salt source) bytes
what_rises s k now salt whats.Due = due_rises s k (setting now salt no_source) (what_row s now salt whats.Due) (due_what_view s now salt whats.Due tt)
what_rises s k now salt (whats.Silent number) = due_rises s k (setting now salt no_source) (what_row s now salt (whats.Silent number)) (due_what_view s now salt (whats.Silent number) tt)
what_rises s k now salt (whats.Users users) = due_rises s k (setting now salt no_source) (what_row s now salt (whats.Users users)) (due_what_view s now salt (whats.Users users) tt)

-- ---- an event

event_rises : (s : Contents) → KnowsTokens (office s) → KnowsTaken (office s) → (e : Event) (taken : Option Taken) → only_counts s e ≡ taken → Rises (office s) (row_by s e taken)
event_rises s tokens known e (Some taken) is = kept_all s.tokens s.calls.calls known
event_rises s tokens known e None is = what_rises (office s) (record { tokens = tokens; taken = known; few = few_tokens s e is }) (moment_at s e.now) e.salt e.what

row_rises : (s : Contents) → KnowsTokens (office s) → KnowsTaken (office s) → (e : Event) → Rises (office s) (row s e)
unfolding row
row_rises s tokens known e = event_rises s tokens known e (only_counts s e) refl

rises_by : (s : Contents) (now : ℕ) (x : Effect) → Rises (office s) x → AllGo s.tokens s.calls.calls (office (after_event s now x)).calls.calls
unfolding after_event
rises_by s now x h = h

pub after_rises : (s : Contents) (e : Event) → KnowsTokens (office s) → KnowsTaken (office s) → AllGo s.tokens s.calls.calls (office (after s e)).calls.calls
after_rises s e tokens known = rises_by s (moment_after s e) (row s e) (row_rises s tokens known e)

pub after_taken : (s : Contents) (e : Event) → KnowsTokens (office s) → KnowsTaken (office s) → KnowsTaken (office (after s e))
after_taken s e tokens known i d lt = (after_rises s e tokens known i d lt).offer

pub after_raised : (s : Contents) (e : Event) → KnowsTokens (office s) → KnowsTaken (office s) → All (RisesFrom s.tokens s.calls.calls) (office (after s e)).calls.calls
after_raised s e tokens known i d lt = (after_rises s e tokens known i d lt).from

pub new_taken : (c : Config) (s : Contents) → IsNew c s → KnowsTaken (office s)
new_taken c s new = subst (All HasTakenOffer) (sym new.calls) (All-nil HasTakenOffer)

-- ---- any events

answer_taken : (s : Contents) (e : Event) (taken : Option Taken) → KnowsTokens (office s) → KnowsTaken (office s) → KnowsTaken (office (after_answer s e taken))
answer_taken s e None tokens known = known
answer_taken s e (Some taken) tokens known = after_taken s e tokens known

answer_tokens : (s : Contents) (e : Event) (taken : Option Taken) → KnowsTokens (office s) → KnowsTokens (office (after_answer s e taken))
answer_tokens s e None tokens = tokens
answer_tokens s e (Some taken) tokens = after_knows s e tokens

list_taken : (s : Contents) (xs : List TraceEntry) → KnowsTokens (office s) → KnowsTaken (office s) → KnowsTaken (office (after_entries s xs))
list_taken s [] tokens known = known
list_taken s (x ∷ xs) tokens known = list_taken (after_entry s x) xs (answer_tokens s x.event x.answer tokens) (answer_taken s x.event x.answer tokens known)

pub known_taken : (c : Config) (s : Contents) (xs : List TraceEntry) → IsNew c s → KnowsTaken (office (after_entries s xs))
known_taken c s xs new = list_taken s xs (new_knows c s new) (new_taken c s new)
