-- A call that the trace no longer lists takes an input that is a signal: no call of the trace moves, and the trace's
-- calls show the server's afterwards.
use Rattle.std.proofs.Common.{◌≡◌, ◌∙◌, ℕ, false, cond, is_some, List, [], ◌++◌, Option, Some, None, ap, sym, subst, refl}
use Rattle.std.specs.Prelude.{remove, slice_get, slice_set}
use Rattle.transactions.specs.declared.transaction.Transaction.{Transaction}
use Rattle.port_pool.specs.Pool.{Contents}
use Rattle.call_core.specs.CallRows.{call_row, step_in, unchanged}
use Rattle.call_core.specs.declared.call.Call.{Call as ServerCall}
use Rattle.call_core.specs.Plans.{Step}
use Rattle.call_core.specs.Table.{row_of}
use Rattle.call_core.specs.declared.input.Input.{Input}
use Rattle.call_core.specs.declared.signal.Signal.{Signal}
use Rattle.call_core.specs.declared.stage.Standing.{Standing}
use Rattle.call_steps.specs.Rows.{messages_of, takes_by, takes_row}
use Rattle.call_steps.specs.Values.{AskerValue, ComingValue, without_offer}
use Rattle.calls.specs.declared.change.LegDialog.{LegDialog}
use Rattle.calls.specs.declared.standing_call.StandingCall.{StandingCall}
use Rattle.plans.specs.CallRows.{occasion}
use Rattle.plans.specs.Office.{Office}
use Rattle.plans.specs.declared.setting.Setting.{Setting}
use Rattle.call_trace.specs.declared.call.Call.{Call}
use Rattle.call_trace.specs.declared.datagram.Datagram.{Datagram}
use Rattle.call_trace.specs.declared.datagram.Message.{Message}
use Rattle.call_trace.specs.Events.{passed}
use Rattle.call_trace.specs.Lives.{Stands}
use Rattle.call_trace.specs.Messages.{offering}
use Rattle.call_trace.specs.Moves.{Move}
use Rattle.call_trace.specs.Stands.{AllApart}
use Rattle.message_laws.proofs.QuietEvents.Describing.{BodiesDescribe}
use Rattle.message_laws.proofs.Messages.ReadBack.{SentIsRead}
use Rattle.message_laws.specs.Comings.{CanCome}
use Rattle.media_laws.specs.Coming.{scene_at}
use Rattle.media_laws.specs.Going.{put_as}
use Rattle.message_laws.specs.Messages.{AreMessages}
use Rattle.media_laws.specs.Heard.{HearsActions}
use Rattle.media_laws.specs.Shows.{ShowsCall}
use Rattle.media_laws.proofs.Scenes.Reading.{Reading}
use Rattle.call_core.specs.Calls.{holds_in}
use Rattle.media_laws.specs.Afterwards.{IsLeft}
use Rattle.media_laws.specs.Lines.{HiddenMove, actions_in, next_in}
use Rattle.media_laws.specs.Listing.{Listed, is_listed, is_listed_stage}
use Rattle.media_laws.proofs.OtherCalls.Afterwards.{left_listed}
use Rattle.media_laws.proofs.OtherCalls.Spots.{hidden_goes, stays_hidden}
use Rattle.media_laws.proofs.Scenes.GoingOn.{stands_by}
use Rattle.media_laws.specs.Steps.{GoOn, IsAfter, IsSignalOf, StandsShown, calls_after}
use Rattle.media_laws.proofs.EndTags.HeardSteps.{step_heard}
use Rattle.media_laws.proofs.CallLines.OwnCall.{is_shown, stage_listed}
use Rattle.media_laws.proofs.CallLines.SignalSteps.{signal_row}
use Rattle.media_laws.proofs.EndTags.Takes.{list_after}

module _ (reads : Reading) (describes : BodiesDescribe) (law : SentIsRead) (keep : (k : ℕ) (t : List Datagram) (old new : List Call) (taken : Option Message) (sent : List Message) → Move offering t old taken sent new → Stands offering old k t → AllApart new) (s after : Office) (begun more : List Transaction) (t : List Datagram) (old : List Call) (k : ℕ) (before : StandsShown s begun t old k) (later : IsAfter s after (begun ++ more)) (e : Setting) (place : ℕ) (c : StandingCall) (n : Standing) (input : Input) (signal : Signal) (leg : Option LegDialog) (request : Option AskerValue) (there : slice_get s.calls.calls place ≡ Some c) (stands : c.call.standing ≡ Some n) (unlisted : is_listed c ≡ false) (is_signal : IsSignalOf c.call input signal) (can : CanCome input (without_offer leg request)) where
  abbrev w : ComingValue
  w = without_offer leg request

  abbrev step : Step
  step = call_row c.call input s.calls.pool e.now

  abbrev new : StandingCall
  new = put_as w (messages_of s.table (occasion s e) w c step) step.call c

  abbrev next : Option Standing
  next = next_in n (row_of n signal)

  abbrev Shows : List Datagram → StandingCall → Call → Type 0
  Shows sent = ShowsCall after.table.slots (begun ++ more) (t ++ sent)

  module _ (taken : Option Message) (sent : List Message) (move : HiddenMove t old taken sent next) where
    -- the trace's calls are the earlier ones
    stay : Listed (IsLeft s.table.slots begun t) after.calls.calls old → GoOn (Shows (passed k taken sent)) after.calls.calls t old taken sent
    stay listed = (
      old,
      move.move,
      left_listed s.table.slots after begun more k t old taken sent old move.move (keep k t old old taken sent move.move before.stands) later.numbers later.keeps listed,
    )

    goes_or_stays : (m : Option Standing) → next ≡ m → after.calls.calls ≡ calls_after s.calls.calls place new next → GoOn (Shows (passed k taken sent)) after.calls.calls t old taken sent
    goes_or_stays None is calls =
        stay (subst (λ l. Listed (IsLeft s.table.slots begun t) l old) (sym (calls ∙ ap (calls_after s.calls.calls place new) is)) (hidden_goes s.table.slots begun t s.calls.calls old place c before.listed before.asked there unlisted))
    goes_or_stays (Some m) is calls =
        let line = signal_row c.call n input signal s.calls.pool e.now stands is_signal in
        let at_new : new.call.standing ≡ Some m = (stands_by w (messages_of s.table (occasion s e) w c step) step.call c).standing ∙ (line.next ∙ is) in
        let stays : is_listed new ≡ false = ap (holds_in is_listed_stage) at_new ∙ (stage_listed m.stage ∙ ap is_shown (move.hides m is)) in
        stay (subst (λ l. Listed (IsLeft s.table.slots begun t) l old) (sym (calls ∙ ap (calls_after s.calls.calls place new) is))
        (stays_hidden s.table.slots begun t s.calls.calls old place c new before.listed before.asked there unlisted stays))

  module _ (taken : Option Message) (first ms : List Message) (moves : HearsActions (scene_at s e w c step.description) s.tokens (actions_in (row_of n signal)) ms → HiddenMove t old taken (first ++ ms) next) where
    by_step : AreMessages (messages_of s.table (occasion s e) w c step).dressed.sends ms → after.calls.calls ≡ cond (is_some step.call.standing) (slice_set s.calls.calls place new) (remove s.calls.calls place)
        → GoOn (Shows (passed k taken (first ++ ms))) after.calls.calls t old taken (first ++ ms)
    by_step are calls =
        let line = signal_row c.call n input signal s.calls.pool e.now stands is_signal in
        let hears = subst (λ actions. HearsActions (scene_at s e w c step.description) s.tokens actions ms) line.actions (step_heard reads describes law s e place c input w before.scenes there can ms are) in
        goes_or_stays taken (first ++ ms) (moves hears) next refl (calls ∙ list_after s.calls.calls place new step.call.standing next line.next)

    pub hidden_takes : AreMessages (takes_row s.calls s.table (occasion s e) place input leg request).dressed.sends ms → after.calls.calls ≡ (takes_row s.calls s.table (occasion s e) place input leg request).outcome.standing.calls
        → GoOn (Shows (passed k taken (first ++ ms))) after.calls.calls t old taken (first ++ ms)
    unfolding takes_row
    hidden_takes are calls =
        by_step (subst (λ o. AreMessages (takes_by s.calls s.table (occasion s e) place input leg request o).dressed.sends ms) there are)
        (calls ∙ ap (λ o. (takes_by s.calls s.table (occasion s e) place input leg request o).outcome.standing.calls) there)

-- ---- a call without a standing

nowhere_step : (c : ServerCall) (input : Input) (pool : Contents) (now : ℕ) → c.standing ≡ None → call_row c input pool now ≡ unchanged c pool
unfolding call_row
nowhere_step c input pool now nowhere = ap (λ o. step_in c o input pool now) nowhere

module _ (reads : Reading) (describes : BodiesDescribe) (law : SentIsRead) (keep : (k : ℕ) (t : List Datagram) (old new : List Call) (taken : Option Message) (sent : List Message) → Move offering t old taken sent new → Stands offering old k t → AllApart new) (s after : Office) (begun more : List Transaction) (t : List Datagram) (old : List Call) (k : ℕ) (before : StandsShown s begun t old k) (later : IsAfter s after (begun ++ more)) (e : Setting) (place : ℕ) (c : StandingCall) (input : Input) (leg : Option LegDialog) (request : Option AskerValue) (there : slice_get s.calls.calls place ≡ Some c) (nowhere : c.call.standing ≡ None) (can : CanCome input (without_offer leg request)) (taken : Option Message) (ms : List Message) (move : Move offering t old taken [] old) where
  abbrev coming : ComingValue
  coming = without_offer leg request

  abbrev done : Step
  done = call_row c.call input s.calls.pool e.now

  abbrev put : StandingCall
  put = put_as coming (messages_of s.table (occasion s e) coming c done) done.call c

  abbrev Goes : Type 0
  Goes = GoOn (ShowsCall after.table.slots (begun ++ more) (t ++ passed k taken ms)) after.calls.calls t old taken ms

  goes_silently : AreMessages (messages_of s.table (occasion s e) coming c done).dressed.sends ms → after.calls.calls ≡ cond (is_some done.call.standing) (slice_set s.calls.calls place put) (remove s.calls.calls place) → Goes
  goes_silently are calls =
      let same = nowhere_step c.call input s.calls.pool e.now nowhere in
      let none : ms ≡ [] =
      subst (λ (y : Step). HearsActions (scene_at s e coming c done.description) s.tokens y.actions ms) same (step_heard reads describes law s e place c input coming before.scenes there can ms are) in
      let gone : done.call.standing ≡ None = ap (λ (y : Step). y.call.standing) same ∙ nowhere in
      let moves = subst (λ l. Move offering t old taken l old) (sym none) move in (
        old,
        moves,
        left_listed s.table.slots after begun more k t old taken ms old moves (keep k t old old taken ms moves before.stands) later.numbers later.keeps
            (subst (λ l. Listed (IsLeft s.table.slots begun t) l old) (sym (calls ∙ list_after s.calls.calls place put done.call.standing None gone))
            (hidden_goes s.table.slots begun t s.calls.calls old place c before.listed before.asked there (ap (holds_in is_listed_stage) nowhere))),
      )

  pub nowhere_takes : AreMessages (takes_row s.calls s.table (occasion s e) place input leg request).dressed.sends ms → after.calls.calls ≡ (takes_row s.calls s.table (occasion s e) place input leg request).outcome.standing.calls → Goes
  unfolding takes_row
  nowhere_takes are calls =
      goes_silently (subst (λ o. AreMessages (takes_by s.calls s.table (occasion s e) place input leg request o).dressed.sends ms) there are)
      (calls ∙ ap (λ o. (takes_by s.calls s.table (occasion s e) place input leg request o).outcome.standing.calls) there)
