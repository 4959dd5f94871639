-- The list of calls after an event: those that it left are shown as before, and the one that it changed as it shows
-- itself.
use Rattle.std.proofs.Common.{◌≡◌, ℕ, suc, true, List, [], ◌∷◌, ◌++◌, Option, Some, subst, sym, refl, inl, inr}
use Rattle.std.specs.Prelude.{slice_get}
use Rattle.std.specs.List.{All}
use Rattle.transactions.specs.declared.transaction.Transaction.{Transaction}
use Rattle.calls.specs.declared.standing_call.StandingCall.{StandingCall}
use Rattle.plans.specs.Office.{Office}
use Rattle.call_trace.specs.declared.call.Call.{Call}
use Rattle.call_trace.specs.declared.datagram.Datagram.{Datagram}
use Rattle.call_trace.specs.declared.datagram.Message.{Message}
use Rattle.call_trace.specs.Events.{passed}
use Rattle.call_trace.specs.Messages.{offering}
use Rattle.call_trace.specs.Moves.{Move}
use Rattle.call_trace.specs.Stands.{AllApart}
use Rattle.call_core.specs.Calls.{awaits_answer, holds_in}
use Rattle.message_laws.specs.Askers.{KeepsAsked}
use Rattle.message_laws.specs.Numbers.{KnowsNumbers}
use Rattle.message_laws.proofs.Askers.AskedCalls.{at_place}
use Rattle.media_laws.specs.Afterwards.{IsLeft, IsLeftOr}
use Rattle.media_laws.specs.Listing.{Listed}
use Rattle.media_laws.specs.Shows.{ShowsCall}
use Rattle.media_laws.proofs.OtherCalls.Untouched.{stays_shown}

-- each that is listed, at its places in both lists
pub listed_where : (P Q : StandingCall → Call → Type 0) (cs : List StandingCall) (ds : List Call)
    → ((c : StandingCall) (d : Call) → P c d → (place : ℕ) → slice_get cs place ≡ Some c → (j : ℕ) → slice_get ds j ≡ Some d → Q c d) → Listed P cs ds → Listed Q cs ds
listed_where P Q [] ds f h = h
listed_where P Q (x ∷ cs) ds f (inl h) = inl (h.0, listed_where P Q cs ds (λ c d p place there j at. f c d p (suc place) there j at) h.1)
listed_where P Q (x ∷ cs) ds f (inr h) =
    inr (
      h.0,
      h.1,
      h.2,
      h.3,
      f x h.1 h.4 0 refl 0 (subst (λ l. slice_get l 0 ≡ Some h.1) (sym h.3) refl),
      listed_where P Q cs h.2 (λ c d p place there j at. f c d p (suc place) there (suc j) (subst (λ l. slice_get l (suc j) ≡ Some d) (sym h.3) at)) h.5,
    )

module _ (slots : List (Option Transaction)) (s : Office) (begun more : List Transaction) (n : ℕ) (t : List Datagram) (old : List Call) (taken : Option Message) (sent : List Message) (new : List Call) (move : Move offering t old taken sent new) (apart : AllApart new) (k : KnowsNumbers s (begun ++ more)) (keeps : All (KeepsAsked slots s.table.slots) s.calls.calls) where
  abbrev Shows : StandingCall → Call → Type 0
  Shows = ShowsCall s.table.slots (begun ++ more) (t ++ passed n taken sent)

  left_shown : (c : StandingCall) (d : Call) → IsLeft slots begun t c d → (place : ℕ) → slice_get s.calls.calls place ≡ Some c → (j : ℕ) → slice_get new j ≡ Some d → Shows c d
  left_shown c d left place at_c j at_d =
      stays_shown slots s begun more n t old taken sent new move apart k place c at_c left.1
      (λ m stands waits. at_place (KeepsAsked slots s.table.slots) s.calls.calls place c keeps at_c (subst (λ x. holds_in awaits_answer x ≡ true) (sym stands) waits)) j d at_d left.0

  -- none changed
  pub left_listed : Listed (IsLeft slots begun t) s.calls.calls new → Listed Shows s.calls.calls new
  left_listed h = listed_where (IsLeft slots begun t) Shows s.calls.calls new left_shown h

  or_shown : (c : StandingCall) (d : Call) → Shows c d → (x : StandingCall) (y : Call) → IsLeftOr slots begun t c d x y → (place : ℕ) → slice_get s.calls.calls place ≡ Some x → (j : ℕ) → slice_get new j ≡ Some y → Shows x y
  or_shown c d own x y (inl left) place at_x j at_y = left_shown x y left place at_x j at_y
  or_shown c d own x y (inr same) place at_x j at_y = subst (λ z. Shows z y) (sym same.0) (subst (Shows c) (sym same.1) own)

  -- one changed, and shows itself
  pub one_listed : (c : StandingCall) (d : Call) → Shows c d → Listed (IsLeftOr slots begun t c d) s.calls.calls new → Listed Shows s.calls.calls new
  one_listed c d own h = listed_where (IsLeftOr slots begun t c d) Shows s.calls.calls new (or_shown c d own) h
