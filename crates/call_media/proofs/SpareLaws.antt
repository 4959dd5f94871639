-- What a call keeps when pairs change hands: its session, its open offer, and that no other port of it has a row.
use Rattle.std.proofs.Common.{◌≡◌, ◌||◌, ◌&&◌, ◌∙◌, ℕ, Bool, true, false, not, cond, List, [], ◌∷◌, Option, Some, None, refl, sym, ap}
use Rattle.std.specs.Prelude.{is_some}
use Rattle.std.specs.List.{list_all}
use Rattle.std.specs.FinMap.{get}
use Rattle.std.proofs.lemmas.Bool.{and_parts, and_from}
use Rattle.port_pool.specs.declared.pair.Pair.{Pair}
use Rattle.port_pool.specs.Holdings.{even_of, holder_at, holder_of, is_among, is_call}
use Rattle.port_pool.specs.Pool.{AreBareBut, Contents, RowsAreHeld, is_port_of}
use Rattle.offer_answer.specs.Rows.{is_even}
use Rattle.call_media.specs.declared.session.Session.{Session}
use Rattle.call_media.specs.Seats.{evens, stands_in}
use Rattle.call_media.specs.Sessions.{pairs_listed, pairs_of_session}
use Rattle.call_media.specs.Offers.{is_own_or_fresh}
use Rattle.call_media.specs.Serving.{SparesOthers, Stands, StandsIfAny, are_held, is_held}
use Rattle.call_media.proofs.SeatLaws.{imply}
use Rattle.call_media.proofs.HeldLaws.{among, even_itself, holder_of_own, no_row, other_holder, own_holder, stand}

-- ---- more pairs for the call

-- the pairs of a call after it took these
abbrev pub Taken : ℕ → List Pair → Contents → Contents → Type 0
Taken number fresh pool after = (port : ℕ) → holder_at after.holdings port ≡ cond (is_among fresh (even_of port)) (Some number) (holder_at pool.holdings port)

still_own : (number : ℕ) (b : Bool) (holder : Option ℕ) → is_call number holder ≡ true → is_call number (cond b (Some number) holder) ≡ true
still_own number true holder h = own_holder number
still_own number false holder h = h

pub taken_held : (number : ℕ) (fresh : List Pair) (pool after : Contents) → Taken number fresh pool after → (n : ℕ) → is_held number pool n ≡ true → is_held number after n ≡ true
taken_held number fresh pool after taken n h =
    let parts = and_parts (is_even n) (is_port_of pool number n) h in
    and_from _ _ parts.0 (rw (taken n) (still_own number (is_among fresh (even_of n)) (holder_at pool.holdings n) parts.1))

pub taken_fresh : (number : ℕ) (fresh : List Pair) (pool after : Contents) → Taken number fresh pool after → (n : ℕ) → is_own_or_fresh number pool fresh n ≡ true → is_held number after n ≡ true
taken_fresh number fresh pool after taken n h =
    let parts = and_parts (is_even n) (is_port_of pool number n || is_among fresh n) h in
    let own = rw (even_itself n parts.0) at parts.1 in
    and_from _ _ parts.0 (rw (taken n, even_itself n parts.0) (step (is_among fresh n) (holder_of pool.holdings n) own)) where
      step : (b : Bool) (holder : Option ℕ) → (is_call number holder || b) ≡ true → is_call number (cond b (Some number) holder) ≡ true
      step true holder k = own_holder number
      step false holder k = or_false (is_call number holder) k where
        or_false : (a : Bool) → (a || false) ≡ true → a ≡ true
        or_false true e = refl
        or_false false e = e

-- a port that it has now was its own, or nobody's
pub taken_bare : (number : ℕ) (fresh kept : List Pair) (pool after : Contents) → Taken number fresh pool after → after.rows ≡ pool.rows
    → ((port : ℕ) → is_among fresh (even_of port) ≡ true → holder_at pool.holdings port ≡ None) → RowsAreHeld pool → AreBareBut pool number kept → AreBareBut after number kept
taken_bare number fresh kept pool after taken same unheld rows bare port own out =
    rw same (step (is_among fresh (even_of port)) refl (rw (taken port) at own)) where
      step : (b : Bool) → is_among fresh (even_of port) ≡ b → is_call number (cond b (Some number) (holder_at pool.holdings port)) ≡ true → get pool.rows port ≡ None
      step true e k = no_row (get pool.rows port) (is_some (holder_at pool.holdings port)) (rows port) (ap is_some (unheld port e))
      step false e k = bare port k out

pub taken_spares : (number : ℕ) (fresh : List Pair) (pool after : Contents) → Taken number fresh pool after → after.rows ≡ pool.rows
    → ((port : ℕ) → is_among fresh (even_of port) ≡ true → holder_at pool.holdings port ≡ None) → SparesOthers number pool after
taken_spares number fresh pool after taken same unheld call differ = record {
  ports = λ port. rw (taken port) (step port (is_among fresh (even_of port)) refl);
  rows = λ port own. ap (λ r. get r port) same;
} where
  step : (port : ℕ) (b : Bool) → is_among fresh (even_of port) ≡ b → is_call call (cond b (Some number) (holder_at pool.holdings port)) ≡ is_call call (holder_at pool.holdings port)
  step port true e = rw (unheld port e) (other_holder number call differ)
  step port false e = refl

-- ---- fewer pairs for the call

-- the pairs of a call after all but these were freed
abbrev pub Left : ℕ → List Pair → Contents → Contents → Type 0
Left number kept pool after = (port : ℕ) → holder_at after.holdings port ≡ cond (is_port_of pool number port && not (is_among kept (even_of port))) None (holder_at pool.holdings port)

pub left_held : (number : ℕ) (kept : List Pair) (pool after : Contents) → Left number kept pool after → (n : ℕ) → is_held number pool n ≡ true → stands_in (evens kept) n ≡ true
    → is_held number after n ≡ true
left_held number kept pool after left n h stands =
    let parts = and_parts (is_even n) (is_port_of pool number n) h in
    let own = rw (even_itself n parts.0) at parts.1 in
    and_from _ _ parts.0 (rw (left n, even_itself n parts.0, among kept n ∙ stands) (step (is_call number (holder_of pool.holdings n)) own)) where
      step : (b : Bool) → is_call number (holder_of pool.holdings n) ≡ true → is_call number (cond (b && false) None (holder_of pool.holdings n)) ≡ true
      step true k = k
      step false k = k

pub left_all_held : (number : ℕ) (kept : List Pair) (ns : List ℕ) (pool after : Contents) → Left number kept pool after → evens kept ≡ ns → are_held number pool ns ≡ true
    → are_held number after ns ≡ true
left_all_held number kept ns pool after left listed held = together ns held (rw (sym listed) (stand (evens kept))) where
  together : (ms : List ℕ) → are_held number pool ms ≡ true → list_all (stands_in (evens kept)) ms ≡ true → are_held number after ms ≡ true
  together [] h k = refl
  together (m ∷ ms) h k =
      let a = and_parts (is_held number pool m) (are_held number pool ms) h in
      let b = and_parts (stands_in (evens kept) m) (list_all (stands_in (evens kept)) ms) k in
      and_from _ _ (left_held number kept pool after left m a.0 b.0) (together ms a.1 b.1)

-- a port that it has now was its own
left_own : (number : ℕ) (kept : List Pair) (pool after : Contents) → Left number kept pool after → (port : ℕ) → is_port_of after number port ≡ true → is_port_of pool number port ≡ true
left_own number kept pool after left port own = step (is_port_of pool number port && not (is_among kept (even_of port))) (rw (left port) at own) where
  step : (b : Bool) → is_call number (cond b None (holder_at pool.holdings port)) ≡ true → is_port_of pool number port ≡ true
  step true k = absurd cc
  step false k = k

pub left_bare : (number : ℕ) (kept : List Pair) (pool after : Contents) → Left number kept pool after → after.rows ≡ pool.rows → AreBareBut pool number kept → AreBareBut after number kept
left_bare number kept pool after left same bare port own out = rw same (bare port (left_own number kept pool after left port own) out)

pub left_spares : (number : ℕ) (kept : List Pair) (pool after : Contents) → Left number kept pool after → after.rows ≡ pool.rows → SparesOthers number pool after
left_spares number kept pool after left same call differ = record {
  ports = λ port. rw (left port) (step port (is_port_of pool number port) refl);
  rows = λ port own. ap (λ r. get r port) same;
} where
  none_of : (port : ℕ) (b : Bool) → is_call call (holder_at pool.holdings port) ≡ false → is_call call (cond b None (holder_at pool.holdings port)) ≡ is_call call (holder_at pool.holdings port)
  none_of port true e = sym e
  none_of port false e = refl

  step : (port : ℕ) (b : Bool) → is_port_of pool number port ≡ b
      → is_call call (cond (b && not (is_among kept (even_of port))) None (holder_at pool.holdings port)) ≡ is_call call (holder_at pool.holdings port)
  step port true e =
      let holder = holder_of_own number (holder_at pool.holdings port) e in
      none_of port (not (is_among kept (even_of port))) (rw holder (other_holder number call differ))
  step port false e = refl

-- ---- what holds over the same rows

pub stands_over : (ip : List ℕ) (number : ℕ) (pool after : Contents) (s : Session) → after.rows ≡ pool.rows → are_held number after (pairs_of_session s) ≡ true → Stands ip number pool s
    → Stands ip number after s
stands_over ip number pool after s same held h = record {
  held = held;
  distinct = h.distinct;
  listed = h.listed;
  media = h.media;
  offers = h.offers;
  answers = h.answers;
  offer_sent = h.offer_sent;
  answer_sent = h.answer_sent;
  rows = rw same h.rows;
}

pub taken_stands : (ip : List ℕ) (number : ℕ) (fresh : List Pair) (pool after : Contents) (session : Option Session) → Taken number fresh pool after → after.rows ≡ pool.rows
    → StandsIfAny ip number pool session → StandsIfAny ip number after session
taken_stands ip number fresh pool after None taken same h = h
taken_stands ip number fresh pool after (Some s) taken same h =
    stands_over ip number pool after s same (imply (is_held number pool) (is_held number after) (taken_held number fresh pool after taken) (pairs_of_session s) h.held) h

pub left_stands : (ip : List ℕ) (number : ℕ) (pool after : Contents) (session : Option Session) → Left number (pairs_listed session) pool after → after.rows ≡ pool.rows
    → StandsIfAny ip number pool session → StandsIfAny ip number after session
left_stands ip number pool after None left same h = h
left_stands ip number pool after (Some s) left same h =
    stands_over ip number pool after s same (left_all_held number s.pairs (pairs_of_session s) pool after left h.listed h.held) h
