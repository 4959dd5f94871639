-- The live calls are served after an event.
use Rattle.std.proofs.Common.{◌≡◌, ◌≢◌, ◌∙◌, ◌+◌, ℕ, Bool, true, false, cond, List, [], ◌∷◌, map, Option, Some, None, refl, sym, ap, subst, arith}
use Rattle.std.specs.Prelude.{find, option_and_then, slice_get}
use Rattle.std.specs.List.{range_with_len}
use Rattle.std.proofs.lemmas.Bool.{false≢true, leb-true}
use Rattle.configuration.specs.declared.config.Config.{Config}
use Rattle.configuration.specs.Rules.{KeepsRules}
use Rattle.port_pool.specs.declared.holdings.Holding.{Holding}
use Rattle.port_pool.specs.Holdings.{even_of, has_even, holder_at, unheld}
use Rattle.port_pool.specs.Pool.{Contents as PoolContents, IsPool, new_pool}
use Rattle.sip_uri.specs.declared.uri.Addr.{Addr}
use Rattle.sip_uri.specs.declared.uri.Uri.{Uri}
use Rattle.sip_message.specs.declared.message.Message.{Message}
use Rattle.sip_message.specs.declared.message.Parts.{Parts}
use Rattle.sip_message.specs.declared.message.Request.{Request}
use Rattle.sip_message.specs.declared.message.Response.{Response}
use Rattle.sip_message.specs.Contact.{contacts_of}
use Rattle.sdp.specs.declared.description.Description.{Description}
use Rattle.dialogs.specs.Making.{reached_at}
use Rattle.events.specs.declared.event.Event.{Event}
use Rattle.events.specs.declared.event.What.{What}
use Rattle.transactions.specs.declared.change.Entry.{Entry}
use Rattle.transactions.specs.declared.outcome.Outgoing.{Outgoing}
use Rattle.transactions.specs.declared.transaction.Transaction.{Transaction}
use Rattle.transactions.specs.Contents as transactions
use Rattle.offer_answer.specs.declared.range.OwnRange.{OwnRange}
use Rattle.offer_answer.specs.Direct.{hold_address}
use Rattle.call_media.specs.declared.end.End.{End}
use Rattle.call_media.specs.declared.end.End.TheVariants.{Caller}
use Rattle.call_media.specs.Offers.{HasPairs}
use Rattle.call_core.specs.declared.action.CallTimer.{CallTimer}
use Rattle.call_core.specs.declared.action.CallTimer.TheVariants as timers
use Rattle.call_core.specs.declared.input.Input.{Input}
use Rattle.call_core.specs.declared.input.Input.TheVariants as inputs
use Rattle.call_core.specs.CallRows.{call_row, first_call_row}
use Rattle.call_core.specs.Calls.{new_media}
use Rattle.call_core.specs.Plans.{Step}
use Rattle.calls.specs.State.{AreKept, Standing}
use Rattle.calls.specs.declared.change.LegDialog.{LegDialog}
use Rattle.calls.specs.declared.standing_call.StandingCall.{StandingCall}
use Rattle.calls.specs.declared.timer_id.CallTimerId.{CallTimerId}
use Rattle.call_rules.specs.Content.{described}
use Rattle.call_steps.specs.declared.occasion.Occasion.{Occasion}
use Rattle.call_steps.specs.Effects as steps
use Rattle.call_steps.specs.Rows.{begins_by, counts, does, first_row, first_standing, fork_by, fork_row, late_by, late_row, messages_of, offer_coming, offers_by, offers_row, put_with, refreshes, takes_by, takes_row}
use Rattle.call_steps.specs.Values.{AskerValue, ComingValue, without_offer}
use Rattle.plans.specs.Office.{Office}
use Rattle.plans.specs.declared.setting.Setting.{Setting}
use Rattle.plans.specs.declared.taken.Taken.{Taken}
use Rattle.plans.specs.CallRows.{has_pairs_for, occasion, offer_method, puts_if, timer_input, without_call_timer}
use Rattle.plans.specs.Effect.{Effect}
use Rattle.event_rows.specs.Rows.{after, moment_after, no_source, only_counts, row, row_by, setting, what_row}
use Rattle.event_rows.specs.State.{Contents, IsNew, after_event, moment_at, office}
use Rattle.event_rows.specs.Trace as traces
use Rattle.event_rows.specs.Trace.{AreEntries, after_answer, after_entries, after_entry}
use Rattle.message_laws.proofs.Messages.ResponseViews.{ResponseRow, ack_alone, again, answered, fork, provisional, refused, silent}
use Rattle.call_trace.specs.Listed.{AllOf}
use Rattle.message_laws.specs.Serving.{IsServedAsAsked, IsServing, KnowsServing}
use Rattle.message_laws.proofs.Messages.RequestViews.{RequestRow, asks_callee, cancelled, counted_alone, left, passed_on, refreshed, replied, unfit}
use Rattle.message_laws.proofs.Messages.MessageViews.{ReceivedRow, acknowledged, begun_by, dropped, moved, requested, responded}
use Rattle.message_laws.proofs.Messages.Views.{DatagramRow, DueRow, WhatRow, call_fired, came, due, ended, fired_alone, idle, listed, ignored, sent_again, stopped, timed, unfit_branched, unreadable, was_received, what_view}
use Rattle.call_media.proofs.ServeLaws.{Owns}
use Rattle.calls.proofs.KeptLaws.{Spared, kept_none, same_read}
use Rattle.port_pool.proofs.PoolLaws.{IsPool-new_pool}
use Rattle.message_laws.proofs.StandingCalls.CallSteps.{GoesOn, HasPairsFor, IsAsked, call_goes, first_goes}
use Rattle.message_laws.proofs.StandingCalls.MediaSteps.{HaveRows, Once}
use Rattle.message_laws.proofs.StandingCalls.StandingSteps.{first_serves, known_at, leg_serves, step_serves}

module _ (own : Owns) (once : Once) (have : HaveRows) (law : Spared) where
  -- ---- steps

  abbrev StepServes : OwnRange → steps.Effect → Type 0
  StepServes server x = IsServing server x.outcome.standing

  does_serves : (server : OwnRange) (calls : Standing) (table : transactions.Contents) (o : Occasion) (place : ℕ) (w : ComingValue) (c : StandingCall) (x : Step) → IsServing server calls
      → slice_get calls.calls place ≡ Some c → GoesOn server c.call calls.pool x → StepServes server (does calls table o place w c x)
  does_serves server calls table o place w c x k there h = step_serves own law server calls k place o.now (put_with w (messages_of table o w c x)) c there x h

  call_serves : (server : OwnRange) (calls : Standing) (place now : ℕ) (input : Input) (c : StandingCall) → IsServing server calls → slice_get calls.calls place ≡ Some c
      → HasPairsFor c.call calls.pool now input → GoesOn server c.call calls.pool (call_row c.call input calls.pool now)
  call_serves server calls place now input c k there enough = call_goes own once have server c.call calls.pool k.pool (known_at own law server calls place c k there) now input enough

  -- with enough pairs free for the call at this place
  abbrev HasPairsAt : Standing → ℕ → ℕ → Input → Type 0
  HasPairsAt calls place now input = (c : StandingCall) → slice_get calls.calls place ≡ Some c → HasPairsFor c.call calls.pool now input

  takes_by_serves : (server : OwnRange) (calls : Standing) (table : transactions.Contents) (o : Occasion) (place : ℕ) (input : Input) (leg : Option LegDialog) (request : Option AskerValue)
      (c : Option StandingCall) → IsServing server calls → HasPairsAt calls place o.now input → slice_get calls.calls place ≡ c → StepServes server (takes_by calls table o place input leg request c)
  takes_by_serves server calls table o place input leg request None k enough there = k
  takes_by_serves server calls table o place input leg request (Some c) k enough there =
      does_serves server calls table o place (without_offer leg request) c (call_row c.call input calls.pool o.now) k there (call_serves server calls place o.now input c k there (enough c there))

  takes_serves : (server : OwnRange) (calls : Standing) (table : transactions.Contents) (o : Occasion) (place : ℕ) (input : Input) (leg : Option LegDialog) (request : Option AskerValue)
      → IsServing server calls → HasPairsAt calls place o.now input → StepServes server (takes_row calls table o place input leg request)
  unfolding takes_row
  takes_serves server calls table o place input leg request k enough = takes_by_serves server calls table o place input leg request (slice_get calls.calls place) k enough refl

  offers_by_serves : (server : OwnRange) (calls : Standing) (table : transactions.Contents) (o : Occasion) (place : ℕ) (input : Input) (end : End) (r : Request) (id : ℕ) (source : Addr)
      (leg : Option LegDialog) (c : Option StandingCall) → IsServing server calls → HasPairsAt calls place o.now input → slice_get calls.calls place ≡ c
      → StepServes server (offers_by calls table o place input end r id source leg c)
  offers_by_serves server calls table o place input end r id source leg None k enough there = k
  offers_by_serves server calls table o place input end r id source leg (Some c) k enough there =
      does_serves server calls table o place (offer_coming leg end r id source c) c (call_row c.call input calls.pool o.now) k there (call_serves server calls place o.now input c k there (enough c there))

  offers_serves : (server : OwnRange) (calls : Standing) (table : transactions.Contents) (o : Occasion) (place : ℕ) (input : Input) (end : End) (r : Request) (id : ℕ) (source : Addr)
      → IsServing server calls → HasPairsAt calls place o.now input → StepServes server (offers_row calls table o place input end r id source)
  unfolding offers_row
  offers_serves server calls table o place input end r id source k enough =
      offers_by_serves server calls table o place input end r id source (counts calls.calls place end r.parts.cseq.number) (slice_get calls.calls place) k enough refl

  -- ---- a call that begins, in the server's range

  begins_by_serves : (server : OwnRange) (calls : Standing) (o : Occasion) (r : Request) (id : ℕ) (source : Addr) (target : Uri) (offer : Description) (contact : Option Uri)
      → server.ip ≢ hold_address → o.range ≡ server → IsServing server calls → HasPairs (new_media (calls.begun + 1) o.range) calls.pool Caller offer o.now
      → StepServes server (begins_by calls o r id source target offer contact)
  begins_by_serves server calls o r id source target offer None address same k enough = k
  begins_by_serves server calls o r id source target offer (Some contact) address same k enough =
      let c = first_standing (calls.begun + 1) o r id source contact in
      let none = k.kept.none in
      let known : IsAsked server c.call calls.pool = record {
        served = record {
          number = refl;
          media = record { server = subst (λ (range : OwnRange). range.ip ≢ hold_address) (sym same) address; session = tt; offer = tt; bare = λ port mine out. absurd (false≢true (sym (none (calls.begun + 1) port (omega arith)) ∙ mine)) };
          offer = refl;
          session = refl;
        };
        asked = record { range = same; leads = tt; exact = λ settled port mine. sym (none (calls.begun + 1) port (omega arith)) ∙ mine };
      } in
      first_serves own law server calls k o.now c refl known (first_call_row c.call offer calls.pool o.now) (first_goes own once have server c.call calls.pool k.pool known o.now offer refl refl enough)

  first_row_serves : (server : OwnRange) (calls : Standing) (o : Occasion) (r : Request) (id : ℕ) (source : Addr) (target : Uri) (offer : Description)
      → server.ip ≢ hold_address → o.range ≡ server → IsServing server calls → HasPairs (new_media (calls.begun + 1) o.range) calls.pool Caller offer o.now
      → StepServes server (first_row calls o r id source target offer)
  unfolding first_row
  first_row_serves server calls o r id source target offer address same k enough =
      begins_by_serves server calls o r id source target offer (reached_at (contacts_of r.headers)) address same k enough

  -- ---- a 2xx that no call takes

  fork_by_serves : (server : OwnRange) (calls : Standing) (o : Occasion) (asked : Parts) (response : Response) (contact : Option Uri) → IsServing server calls
      → StepServes server (fork_by calls o asked response contact)
  fork_by_serves server calls o asked response None k = k
  fork_by_serves server calls o asked response (Some target) k = k

  fork_serves : (server : OwnRange) (calls : Standing) (o : Occasion) (asked : Parts) (response : Response) → IsServing server calls → StepServes server (fork_row calls o asked response)
  unfolding fork_row
  fork_serves server calls o asked response k = fork_by_serves server calls o asked response (reached_at (contacts_of response.headers)) k

  late_by_serves : (server : OwnRange) (calls : Standing) (o : Occasion) (asked : Parts) (response : Response) (contact : Option Uri) → IsServing server calls
      → StepServes server (late_by calls o asked response contact)
  late_by_serves server calls o asked response None k = k
  late_by_serves server calls o asked response (Some target) k = k

  late_serves : (server : OwnRange) (calls : Standing) (o : Occasion) (asked : Parts) (response : Response) → IsServing server calls → StepServes server (late_row calls o asked response)
  unfolding late_row
  late_serves server calls o asked response k = late_by_serves server calls o asked response (reached_at (contacts_of response.headers)) k

  -- ---- rows

  -- what holds after this
  abbrev LeavesServed : Office → Effect → Type 0
  LeavesServed s x = IsServing s.range x.calls.standing

  puts_serves : (server : OwnRange) (calls : Standing) (place : ℕ) (leg : Option LegDialog) → IsServing server calls → IsServing server (puts_if calls place leg)
  puts_serves server calls place None k = k
  puts_serves server calls place (Some leg) k = leg_serves own law server calls k place leg

  stopped_serves : (s : Office) (timer : CallTimerId) → KnowsServing s → KnowsServing (without_call_timer timer s)
  stopped_serves s timer k = record { address = k.address; calls = record { pool = k.calls.pool; kept = k.calls.kept; calls = k.calls.calls; holders = k.calls.holders } }

  timer_pairs : (calls : Standing) (place now : ℕ) (timer : CallTimer) → HasPairsAt calls place now (timer_input timer)
  timer_pairs calls place now timers.Limit c there = tt
  timer_pairs calls place now timers.Repeat c there = tt
  timer_pairs calls place now timers.Wait c there = tt
  timer_pairs calls place now timers.Lifetime c there = tt

  taken_serves : (s : Office) → KnowsServing s → (e : Setting) (place : ℕ) (input : _) (leg : Option LegDialog) (request : _) → HasPairsAt s.calls place e.now input
      → IsServing s.range (takes_row s.calls s.table (occasion s e) place input leg request).outcome.standing
  taken_serves s k e place input leg request enough = takes_serves s.range s.calls s.table (occasion s e) place input leg request k.calls enough

  -- the place has one call
  one_there : (s : Office) (now place : ℕ) (end : End) (method : _) (c : StandingCall) (offer : Description) → slice_get s.calls.calls place ≡ Some c → has_pairs_for s now c.call end offer ≡ true
      → HasPairsAt s.calls place now (inputs.Offer end method (Some offer))
  one_there s now place end method c offer there enough d at_place =
      let same : c ≡ d = same_read c d (slice_get s.calls.calls place) there at_place in subst (λ (x : StandingCall). HasPairs x.call.media s.calls.pool end offer now) same (leb-true _ _ enough)

  module _ (s : Office) (k : KnowsServing s) (e : Setting) where
    request_serves : (r : Request) (begun : List Entry) (id : ℕ) (x : Effect) → RequestRow s e r begun id x → LeavesServed s x
    request_serves r begun id x (replied reply why is) = subst (LeavesServed s) (sym is) k.calls
    request_serves r begun id x (unfit reason is) = subst (LeavesServed s) (sym is) k.calls
    request_serves r begun id x (asks_callee to offer why is) =
        subst (LeavesServed s) (sym is) (first_row_serves s.range s.calls (occasion s e) r id e.source to offer k.address refl k.calls (leb-true _ _ why.paired))
    request_serves r begun id x (cancelled other place named_is found is) = subst (LeavesServed s) (sym is) (taken_serves s k e place inputs.Cancel _ _ (λ c there. tt))
    request_serves r begun id x (left place end rule_is is) = subst (LeavesServed s) (sym is) (taken_serves s k e place (inputs.Bye end) _ _ (λ c there. tt))
    request_serves r begun id x (counted_alone place end reason why is) = subst (LeavesServed s) (sym is) (puts_serves s.range s.calls place (counts s.calls.calls place end r.parts.cseq.number) k.calls)
    request_serves r begun id x (passed_on place end c offer rule_is why is) =
        subst (LeavesServed s) (sym is)
        (offers_serves s.range s.calls s.table (occasion s e) place _ end r id e.source k.calls (one_there s e.now place end (offer_method r) c offer why.there why.paired))
    request_serves r begun id x (refreshed place end rule_is is) = subst (LeavesServed s) (sym is) (puts_serves s.range s.calls place (refreshes s.calls.calls place end r) k.calls)

    response_serves : (r : Response) (begun : List Entry) (send : Option Outgoing) (id : ℕ) (t : Transaction) (x : Effect) → ResponseRow s e r begun send id t x → LeavesServed s x
    response_serves r begun send id t x (silent is) = subst (LeavesServed s) (sym is) k.calls
    response_serves r begun send id t x (provisional place status c there opens class at_status is) = subst (LeavesServed s) (sym is) (taken_serves s k e place (inputs.Provisional status) _ _ (λ c there. tt))
    response_serves r begun send id t x (answered place c there opens class is) =
        subst (LeavesServed s) (sym is) (taken_serves s k e place (inputs.Answer (described r.headers r.body)) _ _ (λ c there. tt))
    response_serves r begun send id t x (again place acked is) = subst (LeavesServed s) (sym is) k.calls
    response_serves r begun send id t x (fork why is) = subst (LeavesServed s) (sym is) (fork_serves s.range s.calls (occasion s e) t.parts r k.calls)
    response_serves r begun send id t x (ack_alone is) = subst (LeavesServed s) (sym is) (late_serves s.range s.calls (occasion s e) t.parts r k.calls)
    response_serves r begun send id t x (refused place status c there opens class at_status is) = subst (LeavesServed s) (sym is) (taken_serves s k e place (inputs.Refusal status) _ _ (λ c there. tt))

    message_serves : (m : Message) (x : Effect) → ReceivedRow s e m x → LeavesServed s x
    message_serves m x (dropped taken is) = subst (LeavesServed s) (sym is) k.calls
    message_serves m x (moved is) = subst (LeavesServed s) (sym is) k.calls
    message_serves m x (requested r id is new row) = request_serves r (begun_by s e m) id x row
    message_serves m x (acknowledged r place is found row_is) = subst (LeavesServed s) (sym row_is) (taken_serves s k e place inputs.Ack _ _ (λ c there. tt))
    message_serves m x (responded r id t is up to row) = response_serves r (begun_by s e m) _ id t x row

    datagram_serves : (bytes : List ℕ) (x : Effect) → DatagramRow s e bytes x → LeavesServed s x
    datagram_serves bytes x (ignored taken is) = subst (LeavesServed s) (sym is) k.calls
    datagram_serves bytes x (unreadable fault parts unread can is) = subst (LeavesServed s) (sym is) k.calls
    datagram_serves bytes x (unfit_branched r read is) = subst (LeavesServed s) (sym is) k.calls
    datagram_serves bytes x (was_received m read branch reached row) = message_serves m x row

    due_serves : (x : Effect) → DueRow s e x → LeavesServed s x
    due_serves x (idle is) = subst (LeavesServed s) (sym is) k.calls
    due_serves x (listed users is) = subst (LeavesServed s) (sym is) k.calls
    due_serves x (sent_again timer out fired is) = subst (LeavesServed s) (sym is) k.calls
    due_serves x (fired_alone timer fired is) = subst (LeavesServed s) (sym is) k.calls
    due_serves x (timed timer t place fired times there found is) = subst (LeavesServed s) (sym is) (taken_serves s k e place inputs.TimedOut _ _ (λ c there. tt))
    due_serves x (ended timer fired is) = subst (LeavesServed s) (sym is) k.calls
    due_serves x (stopped timer is) = subst (LeavesServed s) (sym is) (stopped_serves s timer k).calls
    due_serves x (call_fired timer place found is) =
        subst (LeavesServed s) (sym is)
        (taken_serves (without_call_timer timer s) (stopped_serves s timer k) e place (timer_input timer.timer) _ _ (timer_pairs (without_call_timer timer s).calls place e.now timer.timer))

  what_serves : (s : Office) → KnowsServing s → (now salt : ℕ) (what : What) (x : Effect) → WhatRow s now salt what x → LeavesServed s x
  what_serves s k now salt what x (came source bytes is row) = datagram_serves s k (setting now salt source) bytes x row
  what_serves s k now salt what x (due is row) = due_serves s k (setting now salt no_source) x row

  -- ---- an event

  event_serves : (s : Contents) → KnowsServing (office s) → (e : Event) (taken : Option Taken) → LeavesServed (office s) (row_by s e taken)
  event_serves s k e (Some taken) = k.calls
  event_serves s k e None =
      what_serves (office s) k (moment_at s e.now) e.salt e.what (what_row (office s) (moment_at s e.now) e.salt e.what) (what_view (office s) (moment_at s e.now) e.salt e.what)

  row_serves : (s : Contents) → KnowsServing (office s) → (e : Event) → LeavesServed (office s) (row s e)
  unfolding row
  row_serves s k e = event_serves s k e (only_counts s e)

  known_by : (s : Contents) → KnowsServing (office s) → (now : ℕ) (x : Effect) → LeavesServed (office s) x → KnowsServing (office (after_event s now x))
  unfolding after_event
  known_by s k now x h = record { address = k.address; calls = record { pool = h.pool; kept = h.kept; calls = h.calls; holders = h.holders } }

  pub after_serves : (s : Contents) (e : Event) → KnowsServing (office s) → KnowsServing (office (after s e))
  after_serves s e k = known_by s k (moment_after s e) (row s e) (row_serves s k e)

  -- ---- a list of events

  answer_serves : (s : Contents) (e : Event) (taken : Option Taken) → KnowsServing (office s) → KnowsServing (office (after_answer s e taken))
  answer_serves s e None k = k
  answer_serves s e (Some taken) k = after_serves s e k

  pub list_serves : (s : Contents) (xs : List traces.Entry) → KnowsServing (office s) → KnowsServing (office (after_entries s xs))
  list_serves s [] k = k
  list_serves s (x ∷ xs) k = list_serves (after_entry s x) xs (answer_serves s x.event x.answer k)

-- ---- a new agent

not_picked : (b : Bool) (first k : ℕ) (rest : Option Holding) → option_and_then (λ (h : Holding). h.holder) rest ≡ None
    → option_and_then (λ (h : Holding). h.holder) (cond b (Some (unheld first k)) rest) ≡ None
not_picked true first k rest none = refl
not_picked false first k rest none = none

none_found : (p : Holding → Bool) (first : ℕ) (ks : List ℕ) → option_and_then (λ (h : Holding). h.holder) (find p (map (unheld first) ks)) ≡ None
none_found p first [] = refl
none_found p first (k ∷ ks) = not_picked (p (unheld first k)) first k (find p (map (unheld first) ks)) (none_found p first ks)

none_held : (first pairs port : ℕ) → holder_at (new_pool first pairs).holdings port ≡ None
none_held first pairs port = none_found (has_even (even_of port)) first (range_with_len 0 pairs)

new_kept : (first pairs : ℕ) (cs : List StandingCall) (pool : PoolContents) (begun : ℕ) → cs ≡ [] → pool ≡ new_pool first pairs → begun ≡ 0 → AreKept cs pool begun
new_kept first pairs cs pool begun no_calls new none =
    subst (λ calls. AreKept calls pool begun) (sym no_calls) (subst (λ p. AreKept [] p begun) (sym new) (subst (AreKept [] (new_pool first pairs)) (sym none) (kept_none first pairs)))

-- of a configuration that keeps the rules
pub new_serves : (c : Config) (s : Contents) → KeepsRules c → IsNew c s → KnowsServing (office s)
new_serves c s rules new = record {
  address = subst (λ (range : OwnRange). range.ip ≢ hold_address) (sym new.range) rules.real;
  calls = record {
    pool = subst IsPool (sym new.pool) (IsPool-new_pool c.relay_first c.relay_pairs rules.even rules.least (let last = rules.last in omega (arith, last)));
    kept = new_kept c.relay_first c.relay_pairs s.calls.calls s.calls.pool s.calls.begun new.calls new.pool new.begun;
    calls = subst (AllOf (λ x. IsServedAsAsked s.range s.calls.pool x.call.media)) (sym new.calls) tt;
    holders = λ port n held. let none : holder_at s.calls.pool.holdings port ≡ None = ap (λ (pool : PoolContents). holder_at pool.holdings port) new.pool ∙ none_held c.relay_first c.relay_pairs port in
        absurd (cc (sym none ∙ held));
  };
}
