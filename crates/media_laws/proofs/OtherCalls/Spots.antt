-- Where the trace has a call that it lists, and both lists as that call changes.
use Rattle.std.proofs.Common.{◌≡◌, ℕ, zero, suc, true, false, List, [], ◌∷◌, ◌++◌, Option, Some, refl, inl, inr}
use Rattle.std.specs.Prelude.{remove, slice_get, slice_set}
use Rattle.std.specs.List.{All}
use Rattle.std.proofs.lemmas.List.Elements.{All-head, All-tail}
use Rattle.transactions.specs.declared.transaction.Transaction.{Transaction}
use Rattle.calls.specs.declared.standing_call.StandingCall.{StandingCall}
use Rattle.call_trace.specs.declared.call.Call.{Call}
use Rattle.call_trace.specs.declared.datagram.Datagram.{Datagram}
use Rattle.message_laws.specs.OpenRequests.{HasAsked}
use Rattle.message_laws.proofs.Askers.AskedCalls.{Besides}
use Rattle.media_laws.specs.Afterwards.{HasSpot, IsLeft, IsLeftOr}
use Rattle.media_laws.specs.Listing.{Listed, is_listed}
use Rattle.media_laws.specs.Shows.{ShowsCall}
use Rattle.media_laws.proofs.OtherCalls.Listing.{listed_all, listed_gone, listed_hidden, listed_pushed, listed_set, spot, spot_at, unlisted_gone, unlisted_set}

all_besides : (R : StandingCall → Type 0) (cs : List StandingCall) (place : ℕ) → All R cs → Besides cs place R
all_besides R [] place all = tt
all_besides R (x ∷ cs) zero all = All-tail R x cs all
all_besides R (x ∷ cs) (suc place) all = (All-head R x cs all, all_besides R cs place (All-tail R x cs all))

module _ (slots : List (Option Transaction)) (begun : List Transaction) (t : List Datagram) where
  abbrev Shows : StandingCall → Call → Type 0
  Shows = ShowsCall slots begun t

  abbrev Left : StandingCall → Call → Type 0
  Left = IsLeft slots begun t

  left : (x : StandingCall) (y : Call) → Shows x y → HasAsked begun x → Left x y
  left x y shows asked = (shows, asked)

  or_left : (c : StandingCall) (d : Call) (x : StandingCall) (y : Call) → Shows x y → HasAsked begun x → IsLeftOr slots begun t c d x y
  or_left c d x y shows asked = inl (shows, asked)

  pub all_left : (cs : List StandingCall) (old : List Call) → Listed Shows cs old → All (HasAsked begun) cs → Listed Left cs old
  all_left cs old h all = listed_all Shows Left (HasAsked begun) left cs old all h

  pub has_spot : (cs : List StandingCall) (old : List Call) (place : ℕ) (c : StandingCall) → Listed Shows cs old → All (HasAsked begun) cs → slice_get cs place ≡ Some c → is_listed c ≡ true
      → HasSpot slots begun t cs old place c
  has_spot cs old place c h all there listed =
      let k = spot Shows cs old h place in
      let at = spot_at Shows cs old h place c there listed in
      let beside = all_besides (HasAsked begun) cs place all in
      record {
        place_there = k;
        call = at.0;
        there = at.1;
        shows = at.2;
        goes_on = λ new d is. listed_set Shows (IsLeftOr slots begun t new d) (HasAsked begun) (or_left new d) cs old h place c new d there listed is (inr (refl, refl)) beside;
        hides = λ new is. listed_hidden Shows Left (HasAsked begun) left cs old h place c new there listed is beside;
        goes = listed_gone Shows Left (HasAsked begun) left cs old h place c there listed beside;
      }

  pub stays_hidden : (cs : List StandingCall) (old : List Call) (place : ℕ) (c new : StandingCall) → Listed Shows cs old → All (HasAsked begun) cs → slice_get cs place ≡ Some c → is_listed c ≡ false → is_listed new ≡ false
      → Listed Left (slice_set cs place new) old
  stays_hidden cs old place c new h all there was is = unlisted_set Shows Left (HasAsked begun) left cs old place c new h there was is (all_besides (HasAsked begun) cs place all)

  pub hidden_goes : (cs : List StandingCall) (old : List Call) (place : ℕ) (c : StandingCall) → Listed Shows cs old → All (HasAsked begun) cs → slice_get cs place ≡ Some c → is_listed c ≡ false → Listed Left (remove cs place) old
  hidden_goes cs old place c h all there was = unlisted_gone Shows Left (HasAsked begun) left cs old place c h there was (all_besides (HasAsked begun) cs place all)

  pub one_begins : (cs : List StandingCall) (old : List Call) (new : StandingCall) (d : Call) → Listed Shows cs old → All (HasAsked begun) cs → is_listed new ≡ true
      → Listed (IsLeftOr slots begun t new d) (cs ++ new ∷ []) (old ++ d ∷ [])
  one_begins cs old new d h all is = listed_pushed Shows (IsLeftOr slots begun t new d) (HasAsked begun) (or_left new d) cs old new d h is (inr (refl, refl)) all
