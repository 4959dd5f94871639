-- A call that takes an input: it is listed by the trace, or no longer, or has no standing, or there is none.
use Rattle.std.proofs.Common.{◌∷◌, Bool, List, None, Option, Some, [], ap, false, refl, subst, sym, true, ℕ, ◌++◌, ◌∙◌, ◌≡◌}
use Rattle.std.specs.Prelude.{slice_get}
use Rattle.events.specs.declared.sent.Sent.{Sent}
use Rattle.transactions.specs.declared.transaction.Transaction.{Transaction}
use Rattle.call_steps.specs.Values.{AskerValue, without_offer}
use Rattle.call_core.specs.declared.input.Input.{Input}
use Rattle.call_core.specs.declared.stage.Standing.{Standing}
use Rattle.call_steps.specs.Rows.{takes_by, takes_row}
use Rattle.calls.specs.declared.change.LegDialog.{LegDialog}
use Rattle.calls.specs.declared.standing_call.StandingCall.{StandingCall}
use Rattle.plans.specs.CallRows.{occasion}
use Rattle.plans.specs.Office.{Office}
use Rattle.plans.specs.declared.setting.Setting.{Setting}
use Rattle.call_trace.specs.declared.call.Call.{Call}
use Rattle.call_trace.specs.declared.datagram.Datagram.{Datagram}
use Rattle.call_trace.specs.declared.datagram.Message.{Message}
use Rattle.call_trace.specs.Events.{passed}
use Rattle.call_trace.specs.Messages.{offering}
use Rattle.call_trace.specs.Moves.{Move}
use Rattle.message_laws.specs.Comings.{CanCome}
use Rattle.message_laws.specs.Messages.{AreMessages}
use Rattle.media_laws.specs.Listing.{is_listed as is_listed_call}
use Rattle.media_laws.specs.Shows.{ShowsCall}
use Rattle.media_laws.specs.Ties.{AreTied}
use Rattle.media_laws.specs.Steps.{GoOn, IsAfter, StandsShown}
use Rattle.media_laws.specs.Known.{IsTied}
use Rattle.media_laws.proofs.EventKinds.Laws.{Laws}
use Rattle.media_laws.proofs.EventKinds.Puts.{none_goes_on}
use Rattle.media_laws.proofs.EventKinds.UnlistedCalls.{nowhere_takes}
use Rattle.call_steps.specs.Rows.{takes_by}

module _ (laws : Laws) (s after : Office) (begun more : List Transaction) (sent : List Sent) (t : List Datagram) (old : List Call) (k : ℕ) (tied : IsTied s begun sent t old k) (later : IsAfter s after (begun ++ more)) (taken : Option Message) (ms : List Message) where
  pub shown : StandsShown s begun t old k
  shown = record { listed = tied.listed; asked = tied.known.asked; stands = tied.stands; staged = tied.known.staged; scenes = tied.known.scenes }

  pub ties : AreTied s begun sent t old
  ties = record { trace = tied.known.trace; listed = tied.listed; tokens = tied.known.tokens; waiting = tied.known.waiting; again = tied.known.again; machines = tied.known.machines; scenes = tied.known.scenes }

  abbrev pub Goes : Type 0
  Goes = GoOn (ShowsCall after.table.slots (begun ++ more) (t ++ passed k taken ms)) after.calls.calls t old taken ms

  -- no call takes it
  nobody_takes : (e : Setting) (place : ℕ) (input : Input) (leg : Option LegDialog) (request : Option AskerValue) → slice_get s.calls.calls place ≡ None → Move offering t old taken [] old
      → AreMessages (takes_row s.calls s.table (occasion s e) place input leg request).dressed.sends ms → after.calls.calls ≡ (takes_row s.calls s.table (occasion s e) place input leg request).outcome.standing.calls → Goes
  unfolding takes_row
  nobody_takes e place input leg request none move are calls =
      let nothing : ms ≡ [] = no_messages ms (subst (λ o. AreMessages (takes_by s.calls s.table (occasion s e) place input leg request o).dressed.sends ms) none are) in
      none_goes_on laws.keep s after begun more t old k shown later taken ms (subst (λ l. Move offering t old taken l old) (sym nothing) move)
      (calls ∙ ap (λ o. (takes_by s.calls s.table (occasion s e) place input leg request o).outcome.standing.calls) none)
    where
      no_messages : (l : List Message) → AreMessages [] l → l ≡ []
      no_messages [] h = refl
      no_messages (m ∷ l) h = absurd h

  -- what an input results in, by the standing of its call
  module _ (e : Setting) (place : ℕ) (input : Input) (leg : Option LegDialog) (request : Option AskerValue) (can : (c : StandingCall) → slice_get s.calls.calls place ≡ Some c → CanCome input (without_offer leg request)) (move : Move offering t old taken [] old) (at_listed : (c : StandingCall) (n : Standing) → slice_get s.calls.calls place ≡ Some c → c.call.standing ≡ Some n → is_listed_call c ≡ true → Goes) (at_hidden : (c : StandingCall) (n : Standing) → slice_get s.calls.calls place ≡ Some c → c.call.standing ≡ Some n → is_listed_call c ≡ false → Goes) (are : AreMessages (takes_row s.calls s.table (occasion s e) place input leg request).dressed.sends ms) (calls : after.calls.calls ≡ (takes_row s.calls s.table (occasion s e) place input leg request).outcome.standing.calls) where
    by_listing : (c : StandingCall) (n : Standing) → slice_get s.calls.calls place ≡ Some c → c.call.standing ≡ Some n → (listed : Bool) → is_listed_call c ≡ listed → Goes
    by_listing c n there stands true is = at_listed c n there stands is
    by_listing c n there stands false is = at_hidden c n there stands is

    by_standing : (c : StandingCall) → slice_get s.calls.calls place ≡ Some c → (o : Option Standing) → c.call.standing ≡ o → Goes
    by_standing c there None nowhere = nowhere_takes laws.reads laws.describes laws.sent laws.keep s after begun more t old k shown later e place c input leg request there nowhere (can c there) taken ms move are calls
    by_standing c there (Some n) stands = by_listing c n there stands (is_listed_call c) refl

    by_call : (o : Option StandingCall) → slice_get s.calls.calls place ≡ o → Goes
    by_call None none = nobody_takes e place input leg request none move are calls
    by_call (Some c) there = by_standing c there c.call.standing refl

    pub takes_goes : Goes
    takes_goes = by_call (slice_get s.calls.calls place) refl
