-- Which ports are a call's, and which pairs are in a list.
use Rattle.std.proofs.Common.{◌≡◌, ◌≢◌, ◌==◌, ◌||◌, ◌∙◌, ◌%◌, ◌≤◌, ℕ, Bool, true, false, not, List, [], ◌∷◌, Option, Some, None, refl, sym, ap, arith}
use Rattle.std.specs.Prelude.{is_some}
use Rattle.std.specs.List.{list_all}
use Rattle.std.proofs.lemmas.Bool.{and_parts, and_from, eqb-true, eq-eqb}
use Rattle.port_pool.specs.Limits.{min_port}
use Rattle.port_pool.specs.declared.hop.Hop.{Hop}
use Rattle.port_pool.specs.declared.pair.Pair.{Pair}
use Rattle.port_pool.specs.Holdings.{LeadsPair, even_of, holder_at, holder_of, is_among, is_call}
use Rattle.port_pool.specs.Pool.{Contents, is_port_of}
use Rattle.offer_answer.specs.Rows.{is_even}
use Rattle.call_media.specs.Seats.{evens, stands_in}
use Rattle.call_media.specs.Offers.{is_own_or_fresh, is_port}
use Rattle.call_media.specs.Serving.{is_held}
use Rattle.call_media.proofs.SeatLaws.{imply}

-- ---- even ports

pub even_itself : (n : ℕ) → is_even n ≡ true → even_of n ≡ n
even_itself n h = let even : n % 2 ≡ 0 = eqb-true (n % 2) 0 h in omega (arith, even)

pub not_zero : (n : ℕ) → min_port ≤ n → is_port n ≡ true
not_zero n h = step (n == 0) refl where
  step : (b : Bool) → (n == 0) ≡ b → not b ≡ true
  step true e = let zero : n ≡ 0 = eqb-true n 0 e in absurd (omega (arith, zero, h))
  step false e = refl

-- ---- whose they are

pub holder_of_own : (number : ℕ) (holder : Option ℕ) → is_call number holder ≡ true → holder ≡ Some number
holder_of_own number None h = absurd cc
holder_of_own number (Some other) h = ap Some (eqb-true other number h)

pub own_holder : (number : ℕ) → is_call number (Some number) ≡ true
own_holder number = eq-eqb number number refl

pub other_holder : (number call : ℕ) → call ≢ number → is_call call (Some number) ≡ false
other_holder number call differ = step (number == call) refl where
  step : (b : Bool) → (number == call) ≡ b → b ≡ false
  step true e = absurd (differ (sym (eqb-true number call e)))
  step false e = refl

-- a pair that is held is led by a port that leads a pair
pub held_leads : (pool : Contents) (number n : ℕ) → ((even call : ℕ) → holder_of pool.holdings even ≡ Some call → LeadsPair even) → is_held number pool n ≡ true → LeadsPair n
held_leads pool number n leads h =
    let parts = and_parts (is_even n) (is_port_of pool number n) h in
    let holder = holder_of_own number (holder_at pool.holdings n) parts.1 in
    leads n number (ap (holder_of pool.holdings) (sym (even_itself n parts.0)) ∙ holder)

pub held_is_port : (pool : Contents) (number n : ℕ) → ((even call : ℕ) → holder_of pool.holdings even ≡ Some call → LeadsPair even) → is_held number pool n ≡ true → is_port n ≡ true
held_is_port pool number n leads h = not_zero n (held_leads pool number n leads h).0

pub held_own : (pool : Contents) (number : ℕ) (fresh : List Pair) (n : ℕ) → is_held number pool n ≡ true → is_own_or_fresh number pool fresh n ≡ true
held_own pool number fresh n h =
    let parts = and_parts (is_even n) (is_port_of pool number n) h in
    rw (parts.0, parts.1) refl

-- ---- which are in a list

pub among : (ps : List Pair) (n : ℕ) → is_among ps n ≡ stands_in (evens ps) n
among [] n = refl
among (p ∷ ps) n = ap (λ b. p.even == n || b) (among ps n)

or_later : (a b : Bool) → b ≡ true → (a || b) ≡ true
or_later true b h = refl
or_later false b h = h

-- each of them is among them
pub stand : (ns : List ℕ) → list_all (stands_in ns) ns ≡ true
stand [] = refl
stand (n ∷ ns) =
    and_from _ _ (rw (eq-eqb n n refl) refl)
    (imply (stands_in ns) (stands_in (n ∷ ns)) (λ m h. or_later (n == m) (stands_in ns m) h) ns (stand ns))

-- a port without a row
pub no_row : (row : Option Hop) (held : Bool) → (is_some row ≡ true → held ≡ true) → held ≡ false → row ≡ None
no_row None held rows h = refl
no_row (Some hop) held rows h = absurd (cc (sym (rows refl) ∙ h))
