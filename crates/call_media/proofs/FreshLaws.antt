-- The fresh pairs of an offer: they differ, none is of port 0, and none is the call's yet.
use Rattle.std.proofs.Common.{◌≡◌, ◌==◌, ◌||◌, ◌&&◌, ◌∙◌, ◌+◌, ◌<◌, ℕ, Bool, true, false, not, List, [], ◌∷◌, length, Option, Some, None, refl, sym, suc, arith}
use Rattle.std.specs.List.{list_all, All}
use Rattle.std.proofs.lemmas.Bool.{and_parts, and_from, eqb-true}
use Rattle.std.proofs.lemmas.List.Elements.{All-head, All-tail}
use Rattle.port_pool.specs.declared.pair.Pair.{Pair}
use Rattle.port_pool.specs.Holdings.{AreRising, LeadsPair, even_of, holder_at, holder_of, is_among}
use Rattle.port_pool.specs.Pool.{Contents, is_port_of}
use Rattle.sdp.specs.declared.description.Media.{Media}
use Rattle.offer_answer.specs.Rows.{are_distinct, is_even}
use Rattle.call_media.specs.declared.end.End.{End}
use Rattle.call_media.specs.declared.seat.Seat.{Seat}
use Rattle.call_media.specs.declared.session.Session.{Session}
use Rattle.call_media.specs.declared.state.CallMedia.{CallMedia}
use Rattle.call_media.specs.Seats.{are_apart, evens, pairs_needed, pairs_of, seated, stands_in}
use Rattle.call_media.specs.Sessions.{seats_kept}
use Rattle.call_media.specs.Offers.{DoFor, is_own_or_fresh, is_port}
use Rattle.call_media.specs.Serving.{Serves, StandsIfAny, are_held, is_held}
use Rattle.call_media.proofs.SeatLaws.{imply, seats_differ, seats_pass}
use Rattle.call_media.proofs.KeptLaws.{seen_differ, seen_pass}
use Rattle.call_media.proofs.HeldLaws.{among, even_itself, held_is_port, held_own, holder_of_own, not_zero, stand}

-- ---- the media in use

pub kept_held : (m : CallMedia) (pool : Contents) (e : End) → Serves m pool → are_held m.number pool (pairs_of (seats_kept e m.session)) ≡ true
kept_held m pool e serves = step m.session serves.session where
  step : (session : Option Session) → StandsIfAny m.range.ip m.number pool session → are_held m.number pool (pairs_of (seats_kept e session)) ≡ true
  step None h = refl
  step (Some s) h = seen_pass (is_held m.number pool) e s h.held

pub kept_differ : (m : CallMedia) (pool : Contents) (e : End) → Serves m pool → are_distinct (pairs_of (seats_kept e m.session)) ≡ true
kept_differ m pool e serves = step m.session serves.session where
  step : (session : Option Session) → StandsIfAny m.range.ip m.number pool session → are_distinct (pairs_of (seats_kept e session)) ≡ true
  step None h = refl
  step (Some s) h = seen_differ e s h.distinct

-- ---- fresh pairs

leads : (fs : List Pair) → All (λ p. LeadsPair p.even) fs → list_all is_port (evens fs) ≡ true
leads [] h = refl
leads (f ∷ fs) h = and_from _ _ (not_zero f.even (All-head (λ p. LeadsPair p.even) f fs h).0) (leads fs (All-tail (λ p. LeadsPair p.even) f fs h))

are_even : (fs : List Pair) → All (λ p. LeadsPair p.even) fs → list_all is_even (evens fs) ≡ true
are_even [] h = refl
are_even (f ∷ fs) h =
    let here = (All-head (λ p. LeadsPair p.even) f fs h).1 in
    and_from _ _ (rw here refl) (are_even fs (All-tail (λ p. LeadsPair p.even) f fs h))

both : (p q : ℕ → Bool) (ns : List ℕ) → list_all p ns ≡ true → list_all q ns ≡ true → list_all (λ n. p n && q n) ns ≡ true
both p q [] h k = refl
both p q (n ∷ ns) h k =
    let a = and_parts (p n) (list_all p ns) h in
    let b = and_parts (q n) (list_all q ns) k in
    and_from _ _ (and_from _ _ a.0 b.0) (both p q ns a.1 b.1)

or_second : (a b : Bool) → b ≡ true → (a || b) ≡ true
or_second true b h = refl
or_second false b h = h

fresh_own : (pool : Contents) (number : ℕ) (fresh : List Pair) → All (λ p. LeadsPair p.even) fresh → list_all (is_own_or_fresh number pool fresh) (evens fresh) ≡ true
fresh_own pool number fresh lead =
    imply (λ n. is_even n && stands_in (evens fresh) n) (is_own_or_fresh number pool fresh) weaker (evens fresh)
    (both is_even (stands_in (evens fresh)) (evens fresh) (are_even fresh lead) (stand (evens fresh))) where
      weaker : (n : ℕ) → (is_even n && stands_in (evens fresh) n) ≡ true → is_own_or_fresh number pool fresh n ≡ true
      weaker n h =
          let parts = and_parts (is_even n) (stands_in (evens fresh) n) h in
          and_from _ _ parts.0 (or_second (is_port_of pool number n) (is_among fresh n) (among fresh n ∙ parts.1))

-- none of them is the first one
later : (n : ℕ) (fs : List Pair) → All (λ q. n + 1 < q.even) fs → stands_in (evens fs) n ≡ false
later n [] h = refl
later n (f ∷ fs) h = rw (differs (f.even == n) refl, later n fs (All-tail (λ q. n + 1 < q.even) f fs h)) refl where
  differs : (b : Bool) → (f.even == n) ≡ b → b ≡ false
  differs true e = let same : f.even ≡ n = eqb-true f.even n e in let above = All-head (λ q. n + 1 < q.even) f fs h in absurd (omega (arith, same, above))
  differs false e = refl

rise_differ : (fs : List Pair) → AreRising fs → are_distinct (evens fs) ≡ true
rise_differ [] h = refl
rise_differ (f ∷ fs) h =
    let front : All (λ q. f.even + 1 < q.even) fs = λ k d within. h 0 (suc k) d (omega arith) (omega arith) in
    let back : AreRising fs = λ i j d below within. h (suc i) (suc j) d (omega arith) (omega arith) in
    rw (later f.even fs front) (rise_differ fs back)

-- none of them is the call's
apart : (pool : Contents) (number : ℕ) (kept : List ℕ) (fresh : List Pair) → ((port : ℕ) → is_among fresh (even_of port) ≡ true → holder_at pool.holdings port ≡ None)
    → are_held number pool kept ≡ true → are_apart kept (evens fresh) ≡ true
apart pool number kept fresh unheld held = imply (is_held number pool) (λ n. not (stands_in (evens fresh) n)) weaker kept held where
  weaker : (n : ℕ) → is_held number pool n ≡ true → not (stands_in (evens fresh) n) ≡ true
  weaker n h = step (stands_in (evens fresh) n) refl where
    parts : (is_even n ≡ true) × (is_port_of pool number n ≡ true)
    parts = and_parts (is_even n) (is_port_of pool number n) h

    step : (b : Bool) → stands_in (evens fresh) n ≡ b → not b ≡ true
    step true e =
        let stands : is_among fresh (even_of n) ≡ true = rw (even_itself n parts.0) (among fresh n ∙ e) in
        let holder = holder_of_own number (holder_at pool.holdings n) parts.1 in
        let none = unheld n stands in
        absurd (cc (sym holder ∙ none))
    step false e = refl

-- ---- together

-- What is known of the pairs of an offer: they do for its media, and each is the call's or fresh.
pub record Suit (m : CallMedia) (pool : Contents) (caller : Bool) (media : List Media) (kept : List (Option Seat)) (fresh : List Pair) : Type 0 where
  pub do_for : DoFor caller media kept fresh
  pub own : list_all (is_own_or_fresh m.number pool fresh) (pairs_of (seated caller media kept fresh)) ≡ true

pub suit : (m : CallMedia) (pool : Contents) (e : End) (caller : Bool) (media : List Media) (fresh : List Pair) → Serves m pool
    → ((even call : ℕ) → holder_of pool.holdings even ≡ Some call → LeadsPair even)
    → length fresh ≡ pairs_needed media (seats_kept e m.session)
    → ((port : ℕ) → is_among fresh (even_of port) ≡ true → holder_at pool.holdings port ≡ None)
    → All (λ p. LeadsPair p.even) fresh → AreRising fresh → Suit m pool caller media (seats_kept e m.session) fresh
suit m pool e caller media fresh serves never count unheld lead rising =
    let kept = seats_kept e m.session in
    let held = kept_held m pool e serves in
    record {
      do_for = record {
        enough = omega (arith, count);
        ports = seats_pass caller media kept fresh is_port (imply (is_held m.number pool) is_port (λ n h. held_is_port pool m.number n never h) (pairs_of kept) held) (leads fresh lead);
        distinct = seats_differ caller media kept fresh (kept_differ m pool e serves) (rise_differ fresh rising) (apart pool m.number (pairs_of kept) fresh unheld held);
      };
      own = seats_pass caller media kept fresh (is_own_or_fresh m.number pool fresh) (imply (is_held m.number pool) (is_own_or_fresh m.number pool fresh) (held_own pool m.number fresh) (pairs_of kept) held)
          (fresh_own pool m.number fresh lead);
    }
