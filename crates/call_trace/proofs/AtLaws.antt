-- What proofs know of a trace: where a datagram is in it, and in a longer one.
use Rattle.std.proofs.Common.{◌≡◌, ℕ, zero, suc, ◌+◌, ◌<◌, List, [], ◌∷◌, ◌++◌, length, Some, ◌⊎◌, inl, inr, sym, arith, zero-add}
use Rattle.std.specs.Prelude.{slice_get}
use Rattle.call_trace.specs.declared.datagram.Datagram.{Datagram}
use Rattle.call_trace.specs.Exchanges.{At}
use Rattle.call_trace.proofs.PlaceTests.{place_within}

pub at_place : (t : List Datagram) (i : ℕ) (p : Datagram) → slice_get t i ≡ Some p → At t i p
unfolding At
at_place t i p e = e

pub place_at : (t : List Datagram) (i : ℕ) (p : Datagram) → At t i p → slice_get t i ≡ Some p
unfolding At
place_at t i p e = e

-- ---- the laws

pub at_within : (t : List Datagram) (i : ℕ) (p : Datagram) → At t i p → i < length t
at_within t i p e = place_within t i p (place_at t i p e)

-- one datagram is at a place
pub at_same : (t : List Datagram) (i : ℕ) (p q : Datagram) → At t i p → At t i q → p ≡ q
at_same t i p q e f = let e' : slice_get t i ≡ Some p = place_at t i p e in let f' : slice_get t i ≡ Some q = place_at t i q f in cc

-- what is at a place stays there when the trace grows
pub at_left : (t s : List Datagram) (i : ℕ) (p : Datagram) → At t i p → At (t ++ s) i p
unfolding At
at_left [] s i p e = absurd (cc)
at_left (x ∷ t) s zero p e = e
at_left (x ∷ t) s (suc i) p e = at_left t s i p e

-- and was there before, at an old place
pub at_back : (t s : List Datagram) (i : ℕ) (p : Datagram) → i < length t → At (t ++ s) i p → At t i p
unfolding At
at_back [] s i p h e = absurd (omega arith)
at_back (x ∷ t) s zero p h e = e
at_back (x ∷ t) s (suc i) p h e = let h' : i < length t = omega arith in at_back t s i p h' e

-- what is new comes after what is old
pub at_right : (t s : List Datagram) (i : ℕ) (p : Datagram) → At s i p → At (t ++ s) (length t + i) p
unfolding At
at_right [] s i p e = rw zero-add e
at_right (x ∷ t) s i p e =
    let n : length (x ∷ t) + i ≡ suc (length t + i) = omega arith in
    rw n (at_right t s i p e)

-- a place of the longer trace is an old one or one of the new part
pub at_split : (t s : List Datagram) (i : ℕ) (p : Datagram) → At (t ++ s) i p → At t i p ⊎ ((k : ℕ) × (i ≡ length t + k) × At s k p)
unfolding At
at_split [] s i p e = inr (i, sym (zero-add i), e)
at_split (x ∷ t) s zero p e = inl e
at_split (x ∷ t) s (suc i) p e =
    elim (at_split t s i p e) [
      | inl h ↦ inl h
      | inr h ↦ inr (h.0, (let q : i ≡ length t + h.0 = h.1 in omega arith), h.2)
    ]
