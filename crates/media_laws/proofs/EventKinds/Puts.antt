-- A dialog alone is put in place of one of a call's, by an event that moves no call: the trace's calls show the
-- server's afterwards.
use Rattle.std.proofs.Common.{◌≡◌, ◌∙◌, ℕ, Bool, true, false, List, ◌++◌, Option, Some, None, ap, sym, subst, refl, inl}
use Rattle.std.specs.Prelude.{slice_get, slice_set}
use Rattle.transactions.specs.declared.transaction.Transaction.{Transaction}
use Rattle.call_core.specs.declared.stage.Standing.{Standing}
use Rattle.calls.specs.declared.change.LegDialog.{LegDialog}
use Rattle.calls.specs.declared.standing_call.StandingCall.{StandingCall}
use Rattle.plans.specs.Office.{Office}
use Rattle.call_trace.specs.declared.call.Call.{Call}
use Rattle.call_trace.specs.declared.datagram.Datagram.{Datagram}
use Rattle.call_trace.specs.declared.datagram.Message.{Message}
use Rattle.call_trace.specs.Events.{passed}
use Rattle.call_trace.specs.Lives.{Stands}
use Rattle.call_trace.specs.Messages.{offering}
use Rattle.call_trace.specs.Moves.{Move}
use Rattle.call_trace.specs.Stands.{AllApart}
use Rattle.message_laws.specs.OpenRequests.{HasAsked}
use Rattle.message_laws.proofs.Askers.AskedCalls.{at_place}
use Rattle.media_laws.specs.Coming.{FitsComing}
use Rattle.media_laws.specs.Shows.{ShowsCall}
use Rattle.call_core.specs.Calls.{holds_in}
use Rattle.media_laws.specs.Afterwards.{IsLeft}
use Rattle.media_laws.specs.Listing.{Listed, is_listed, is_listed_stage}
use Rattle.media_laws.proofs.OtherCalls.Afterwards.{left_listed}
use Rattle.media_laws.proofs.OtherCalls.Spots.{stays_hidden}
use Rattle.media_laws.specs.Steps.{GoOn, IsAfter, StandsShown}
use Rattle.call_core.specs.Calls.{with_dialog}
use Rattle.calls.specs.Carrying.{changed_at, with_dialog_at}
use Rattle.plans.specs.CallRows.{puts_if}
use Rattle.media_laws.specs.Lines.{waits_on}
use Rattle.media_laws.proofs.OtherCalls.Spots.{all_left, has_spot}
use Rattle.call_trace.proofs.Members.{all_at}
use Rattle.message_laws.specs.Serving.{IsStaged}
use Rattle.media_laws.proofs.Scenes.GoingOn.{leg_ids}
use Rattle.media_laws.specs.Steps.{GoesOnAt}
use Rattle.media_laws.proofs.CallLines.LineSteps.{got_set, line_goes_on}
use Rattle.media_laws.proofs.CallLines.OwnNumbers.{leg_numbers, open_in}
use Rattle.call_media.specs.declared.end.End.{End}
use Rattle.call_media.specs.declared.end.End.TheVariants.{Callee, Caller}
use Rattle.dialogs.specs.declared.state.Dialog.{Dialog}
use Rattle.call_core.specs.declared.call.Call.{Call as ServerCall}
use Rattle.call_media.specs.declared.state.CallMedia.{CallMedia}

dialog_media : (end : End) (d : Dialog) (c : ServerCall) → (with_dialog end d c).media ≡ c.media
dialog_media Caller d c = refl
dialog_media Callee d c = refl

dialog_standing : (end : End) (d : Dialog) (c : ServerCall) → (with_dialog end d c).standing ≡ c.standing
dialog_standing Caller d c = refl
dialog_standing Callee d c = refl

module _ (keep : (k : ℕ) (t : List Datagram) (old new : List Call) (taken : Option Message) (sent : List Message) → Move offering t old taken sent new → Stands offering old k t → AllApart new) (s after : Office) (begun more : List Transaction) (t : List Datagram) (old : List Call) (k : ℕ) (before : StandsShown s begun t old k) (later : IsAfter s after (begun ++ more)) (taken : Option Message) (ms : List Message) (move : Move offering t old taken ms old) where
  abbrev Goes : Type 0
  Goes = GoOn (ShowsCall after.table.slots (begun ++ more) (t ++ passed k taken ms)) after.calls.calls t old taken ms

  apart : (calls : List Call) → Move offering t old taken ms calls → AllApart calls
  apart calls m = keep k t old calls taken ms m before.stands

  stay : Listed (IsLeft s.table.slots begun t) after.calls.calls old → Goes
  stay listed = (old, move, left_listed s.table.slots after begun more k t old taken ms old move (apart old move) later.numbers later.keeps listed)

  -- no call changes
  pub none_goes_on : after.calls.calls ≡ s.calls.calls → Goes
  none_goes_on same = stay (subst (λ l. Listed (IsLeft s.table.slots begun t) l old) (sym same) (all_left s.table.slots begun t s.calls.calls old before.listed before.asked))

  -- ---- one dialog of one call does

  module _ (place : ℕ) (leg : LegDialog) (c : StandingCall) (there : slice_get s.calls.calls place ≡ Some c) (fits : FitsComing c (Some leg)) where
    abbrev new : StandingCall
    new = with_dialog_at leg.end leg.dialog c

    stands_as : new.call.standing ≡ c.call.standing
    stands_as = dialog_standing leg.end leg.dialog c.call

    on : (n : Standing) → c.call.standing ≡ Some n → GoesOnAt c new (Some n)
    on n stands =
        let ids = leg_ids c c.call (Some leg) (record { caller = refl; callee = refl }) fits in
        let media = dialog_media leg.end leg.dialog c.call in
        record {
          standing = stands_as ∙ stands;
          dialogs = record { caller = ids.caller; callee = ids.callee; tag = refl };
          media = record { session = inl (ap (λ (m : CallMedia). m.session) media); offer = inl (ap (λ (m : CallMedia). m.offer) media) };
          asked = refl;
          opens = λ a m is_a next_m offerer waits_a waits_m parts.
              open_in parts c new a m c.call.standing new.call.standing is_a ((stands_as ∙ stands) ∙ next_m) refl (leg_numbers c c.call (Some leg) (record { caller = refl; callee = refl }) fits) offerer waits_a waits_m;
        }

    module _ (calls : after.calls.calls ≡ slice_set s.calls.calls place new) where
      staged_new : IsStaged new.call
      staged_new = all_at (λ (x : StandingCall). IsStaged x.call) after.calls.calls place new later.staged (subst (λ l. slice_get l place ≡ Some new) (sym calls) (got_set s.calls.calls place c new there))

      put_on : (n : Standing) → c.call.standing ≡ Some n → (listed : Bool) → is_listed c ≡ listed → Goes
      put_on n stands true listed =
          let spot = has_spot s.table.slots begun t s.calls.calls old place c before.listed before.asked there listed in
          line_goes_on s.table.slots begun t s.calls.calls old place c n stands there spot (at_place (HasAsked begun) s.calls.calls place c before.asked there)
          (all_at (λ (x : StandingCall). IsStaged x.call) s.calls.calls place c before.staged there) new (Some n) (on n stands) after more k taken ms
          apart later.numbers later.keeps calls (λ m is. staged_new) (waits_on n refl refl refl move)
      put_on n stands false unlisted = stay (subst (λ l. Listed (IsLeft s.table.slots begun t) l old) (sym calls) (stays_hidden s.table.slots begun t s.calls.calls old place c new before.listed before.asked there unlisted (ap (holds_in is_listed_stage) stands_as ∙ unlisted)))

      -- a call without a standing is listed by no trace
      put_at : (o : Option Standing) → c.call.standing ≡ o → Goes
      put_at None nowhere = stay (subst (λ l. Listed (IsLeft s.table.slots begun t) l old) (sym calls) (stays_hidden s.table.slots begun t s.calls.calls old place c new before.listed before.asked there (ap (holds_in is_listed_stage) nowhere)
          (ap (holds_in is_listed_stage) (stands_as ∙ nowhere))))
      put_at (Some n) stands = put_on n stands (is_listed c) refl

  put_in : (place : ℕ) (leg : LegDialog) (o : Option StandingCall) → slice_get s.calls.calls place ≡ o → ((c : StandingCall) → slice_get s.calls.calls place ≡ Some c → FitsComing c (Some leg))
      → after.calls.calls ≡ changed_at (with_dialog_at leg.end leg.dialog) place s.calls.calls o → Goes
  put_in place leg None there fits calls = none_goes_on calls
  put_in place leg (Some c) there fits calls = put_at place leg c there (fits c there) calls c.call.standing refl

  pub put_goes_on : (place : ℕ) (leg : Option LegDialog) → ((c : StandingCall) → slice_get s.calls.calls place ≡ Some c → FitsComing c leg) → after.calls.calls ≡ (puts_if s.calls place leg).calls → Goes
  put_goes_on place None fits calls = none_goes_on calls
  put_goes_on place (Some leg) fits calls = put_in place leg (slice_get s.calls.calls place) refl fits calls
