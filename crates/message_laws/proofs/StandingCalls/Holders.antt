-- The call that holds a port is the live call with the number that the pool has for it.
use Rattle.std.proofs.Common.{◌≡◌, ◌∙◌, ◌==◌, ◌<◌, ◌≤◌, ℕ, Bool, true, false, cond, List, [], ◌∷◌, Option, Some, None, find, refl, ap, arith, inl, inr}
use Rattle.std.proofs.lemmas.Bool.{eq-eqb, eqb-true}
use Rattle.std.proofs.Math.Nat.{ne_of_lt}
use Rattle.call_media.specs.declared.session.Session.{Session}
use Rattle.calls.specs.Finding.{has_number}
use Rattle.calls.specs.State.{RiseTo}
use Rattle.calls.specs.declared.standing_call.StandingCall.{StandingCall}
use Rattle.plans.specs.Office.{Office}
use Rattle.call_trace.specs.Listed.{AllOf, AnyOf}
use Rattle.call_trace.specs.Serving.{IsPairOf}
use Rattle.message_laws.specs.Serving.{HeldByTheirCalls, HoldersStand, IsSessionOf, KnowsServing, call_numbered, holder_in, trace_session}
use Rattle.message_laws.proofs.StandingCalls.CallLists.{all_weaker}
use Rattle.message_laws.proofs.StandingCalls.ToldSessions.{hold_their_pairs}

-- ---- each is found by its number

above_each : (n last begun : ℕ) (cs : List StandingCall) → n ≤ last → RiseTo last begun cs → AllOf (λ c. n < c.call.number) cs
above_each n last begun [] le rise = tt
above_each n last begun (x ∷ xs) le rise =
    let above : n < x.call.number = omega (arith, le, rise.0) in (above, above_each n x.call.number begun xs (omega (arith, above)) rise.1)

both : {X : Type 0} (P Q : X → Type 0) (xs : List X) → AllOf P xs → AllOf Q xs → AllOf (λ x. P x × Q x) xs
both P Q [] p q = tt
both P Q (x ∷ xs) p q = ((p.0, q.0), both P Q xs p.1 q.1)

passed : (x c : StandingCall) (xs : List StandingCall) → x.call.number < c.call.number → find (has_number c.call.number) xs ≡ Some c → find (has_number c.call.number) (x ∷ xs) ≡ Some c
passed x c xs below found = step (x.call.number == c.call.number) refl where
  step : (b : Bool) → (x.call.number == c.call.number) ≡ b → cond b (Some x) (find (has_number c.call.number) xs) ≡ Some c
  step true e = absurd (ne_of_lt below (eqb-true x.call.number c.call.number e))
  step false e = found

first : (x : StandingCall) (xs : List StandingCall) → find (has_number x.call.number) (x ∷ xs) ≡ Some x
first x xs = ap (λ b. cond b (Some x) (find (has_number x.call.number) xs)) (eq-eqb x.call.number x.call.number refl)

found_each : (last begun : ℕ) (cs : List StandingCall) → RiseTo last begun cs → AllOf (λ c. find (has_number c.call.number) cs ≡ Some c) cs
found_each last begun [] rise = tt
found_each last begun (x ∷ xs) rise = (
  first x xs,
  all_weaker (λ c. (x.call.number < c.call.number) × (find (has_number c.call.number) xs ≡ Some c)) (λ c. find (has_number c.call.number) (x ∷ xs) ≡ Some c)
      (λ c h. passed x c xs h.0 h.1) xs
      (both (λ c. x.call.number < c.call.number) (λ c. find (has_number c.call.number) xs ≡ Some c) xs (above_each x.call.number x.call.number begun xs (omega arith) rise.1)
      (found_each x.call.number begun xs rise.1)),
)

-- ---- what is found is listed

listed : (p : StandingCall → Bool) (cs : List StandingCall) (c : StandingCall) → find p cs ≡ Some c → AnyOf (λ x. x ≡ c) cs
listed p [] c found = absurd cc
listed p (x ∷ xs) c found = step (p x) (listed p xs c) found where
  step : (b : Bool) → (find p xs ≡ Some c → AnyOf (λ y. y ≡ c) xs) → cond b (Some x) (find p xs) ≡ Some c → AnyOf (λ y. y ≡ c) (x ∷ xs)
  step true later e = let same : x ≡ c = cc in inl same
  step false later e = inr (later e)

-- ---- of the agent

pub held_by_their_calls : (s : Office) → KnowsServing s → HeldByTheirCalls s
held_by_their_calls s k =
    let Holds : StandingCall → Type 0 = λ c. (x : Session) → IsSessionOf x c → (port : ℕ) → IsPairOf port (trace_session x) → holder_in s.calls.pool port ≡ Some c.call.number in
    let Found : StandingCall → Type 0 = λ c. find (has_number c.call.number) s.calls.calls ≡ Some c in
    all_weaker (λ c. Holds c × Found c) (λ c. (x : Session) → IsSessionOf x c → (port : ℕ) → IsPairOf port (trace_session x) → call_numbered s.calls.calls (holder_in s.calls.pool port) ≡ Some c)
    (λ c h x is port pair. ap (call_numbered s.calls.calls) (h.0 x is port pair) ∙ h.1) s.calls.calls
    (both Holds Found s.calls.calls (hold_their_pairs s k) (found_each 0 s.calls.begun s.calls.calls k.calls.kept.numbers))

found_listed : (calls : List StandingCall) (n : Option ℕ) (c : StandingCall) → call_numbered calls n ≡ Some c → AnyOf (λ x. x ≡ c) calls
found_listed calls None c found = absurd cc
found_listed calls (Some n) c found = listed (has_number n) calls c found

pub holders_stand : (s : Office) → KnowsServing s → HoldersStand s
holders_stand s k port c found = found_listed s.calls.calls (holder_in s.calls.pool port) c found
