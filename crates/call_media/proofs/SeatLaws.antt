-- The pairs of an offer: whose they are, that each serves one medium and one end, and that each medium has them.
use Rattle.std.proofs.Common.{◌≡◌, ◌+◌, ◌==◌, ◌||◌, ◌&&◌, ◌≤◌, ◌∙◌, ℕ, Bool, true, false, not, cond, List, [], ◌∷◌, length, Option, Some, None, refl, sym, arith}
use Rattle.std.specs.Prelude.{is_some, is_none}
use Rattle.std.specs.List.{list_all, list_any}
use Rattle.std.proofs.lemmas.Bool.{and_parts, and_from, eqb-true, eq-eqb}
use Rattle.port_pool.specs.declared.pair.Pair.{Pair}
use Rattle.sdp.specs.declared.description.Media.{Media}
use Rattle.offer_answer.specs.Rows.{are_distinct}
use Rattle.call_media.specs.declared.seat.Seat.{Seat}
use Rattle.call_media.specs.Seats.{first, rest, needs_pairs, pairs_needed, fresh_seat, seat_of, behind_two, pairs_left, seated, pairs_of_seat, pairs_of, evens, stands_in, are_apart, are_seated}

-- ---- of the first medium, and of those after it

-- both passes, of which the front and the back do
pub record Both (p : ℕ → Bool) (s : Option Seat) (ss : List (Option Seat)) : Type 0 where
  pub front : list_all p (pairs_of_seat s) ≡ true
  pub back : list_all p (pairs_of ss) ≡ true

pub both : (p : ℕ → Bool) (s : Option Seat) (ss : List (Option Seat)) → list_all p (pairs_of (s ∷ ss)) ≡ true → Both p s ss
both p None ss h = record { front = refl; back = h }
both p (Some s) ss h =
    let a = and_parts (p s.offerer) (p s.answerer && list_all p (pairs_of ss)) h in
    let b = and_parts (p s.answerer) (list_all p (pairs_of ss)) a.1 in
    record { front = and_from _ _ a.0 (and_from _ _ b.0 refl); back = b.1 }

pub joined : (p : ℕ → Bool) (s : Option Seat) (ss : List (Option Seat)) → list_all p (pairs_of_seat s) ≡ true → list_all p (pairs_of ss) ≡ true → list_all p (pairs_of (s ∷ ss)) ≡ true
joined p None ss h k = k
joined p (Some s) ss h k =
    let a = and_parts (p s.offerer) (p s.answerer && true) h in
    let b = and_parts (p s.answerer) true a.1 in
    and_from _ _ a.0 (and_from _ _ b.0 k)

first_passes : (p : ℕ → Bool) (kept : List (Option Seat)) → list_all p (pairs_of kept) ≡ true → list_all p (pairs_of_seat (first kept)) ≡ true
first_passes p [] h = refl
first_passes p (s ∷ ss) h = (both p s ss h).front

rest_passes : (p : ℕ → Bool) (kept : List (Option Seat)) → list_all p (pairs_of kept) ≡ true → list_all p (pairs_of (rest kept)) ≡ true
rest_passes p [] h = refl
rest_passes p (s ∷ ss) h = (both p s ss h).back

-- ---- fresh pairs

fresh_passes : (p : ℕ → Bool) (caller : Bool) (fresh : List Pair) → list_all p (evens fresh) ≡ true → list_all p (pairs_of_seat (fresh_seat caller fresh)) ≡ true
fresh_passes p true [] h = refl
fresh_passes p false [] h = refl
fresh_passes p true (a ∷ []) h = refl
fresh_passes p false (a ∷ []) h = refl
fresh_passes p true (a ∷ b ∷ more) h =
    let x = and_parts (p a.even) (p b.even && list_all p (evens more)) h in
    let y = and_parts (p b.even) (list_all p (evens more)) x.1 in
    and_from _ _ x.0 (and_from _ _ y.0 refl)
fresh_passes p false (a ∷ b ∷ more) h =
    let x = and_parts (p a.even) (p b.even && list_all p (evens more)) h in
    let y = and_parts (p b.even) (list_all p (evens more)) x.1 in
    and_from _ _ y.0 (and_from _ _ x.0 refl)

behind_passes : (p : ℕ → Bool) (fresh : List Pair) → list_all p (evens fresh) ≡ true → list_all p (evens (behind_two fresh)) ≡ true
behind_passes p [] h = refl
behind_passes p (a ∷ []) h = refl
behind_passes p (a ∷ b ∷ more) h = (and_parts (p b.even) (list_all p (evens more)) (and_parts (p a.even) (p b.even && list_all p (evens more)) h).1).1

-- ---- whose they are

seat_passes : (p : ℕ → Bool) (caller : Bool) (m : Media) (kept : Option Seat) (fresh : List Pair) → list_all p (pairs_of_seat kept) ≡ true → list_all p (evens fresh) ≡ true
    → list_all p (pairs_of_seat (seat_of caller m kept fresh)) ≡ true
seat_passes p caller m kept fresh h k = step (m.port == 0) (needs_pairs m kept) where
  step : (a b : Bool) → list_all p (pairs_of_seat (cond a None (cond b (fresh_seat caller fresh) kept))) ≡ true
  step true b = refl
  step false true = fresh_passes p caller fresh k
  step false false = h

left_passes : (p : ℕ → Bool) (m : Media) (kept : Option Seat) (fresh : List Pair) → list_all p (evens fresh) ≡ true → list_all p (evens (pairs_left m kept fresh)) ≡ true
left_passes p m kept fresh h = step (needs_pairs m kept) where
  step : (b : Bool) → list_all p (evens (cond b (behind_two fresh) fresh)) ≡ true
  step true = behind_passes p fresh h
  step false = h

pub seats_pass : (caller : Bool) (ms : List Media) (kept : List (Option Seat)) (fresh : List Pair) (p : ℕ → Bool) → list_all p (pairs_of kept) ≡ true → list_all p (evens fresh) ≡ true
    → list_all p (pairs_of (seated caller ms kept fresh)) ≡ true
seats_pass caller [] kept fresh p h k = refl
seats_pass caller (m ∷ ms) kept fresh p h k =
    joined p (seat_of caller m (first kept) fresh) (seated caller ms (rest kept) (pairs_left m (first kept) fresh))
    (seat_passes p caller m (first kept) fresh (first_passes p kept h) k)
    (seats_pass caller ms (rest kept) (pairs_left m (first kept) fresh) p (rest_passes p kept h) (left_passes p m (first kept) fresh k))

-- ---- each medium has them

two_more : (a b : Pair) (more : List Pair) (n : ℕ) → 2 + n ≤ length (a ∷ b ∷ more) → n ≤ length more
two_more a b more n h = omega (arith, h)

fresh_stands : (caller : Bool) (fresh : List Pair) (n : ℕ) → 2 + n ≤ length fresh → is_some (fresh_seat caller fresh) ≡ true
fresh_stands caller [] n h = absurd (omega (arith, h))
fresh_stands caller (a ∷ []) n h = absurd (omega (arith, h))
fresh_stands true (a ∷ b ∷ more) n h = refl
fresh_stands false (a ∷ b ∷ more) n h = refl

behind_enough : (fresh : List Pair) (n : ℕ) → 2 + n ≤ length fresh → n ≤ length (behind_two fresh)
behind_enough [] n h = absurd (omega (arith, h))
behind_enough (a ∷ []) n h = absurd (omega (arith, h))
behind_enough (a ∷ b ∷ more) n h = two_more a b more n h

pub each_seated : (caller : Bool) (ms : List Media) (kept : List (Option Seat)) (fresh : List Pair) → pairs_needed ms kept ≤ length fresh → are_seated ms (seated caller ms kept fresh) ≡ true
each_seated caller [] kept fresh h = refl
each_seated caller (m ∷ ms) kept fresh h = step (m.port == 0) (first kept) (each_seated caller ms (rest kept)) h where
  more : ℕ
  more = pairs_needed ms (rest kept)

  step : (zero : Bool) (s : Option Seat) → ((left : List Pair) → more ≤ length left → are_seated ms (seated caller ms (rest kept) left) ≡ true)
      → cond (not zero && is_none s) 2 0 + more ≤ length fresh
      → (cond zero (is_none (cond zero None (cond (not zero && is_none s) (fresh_seat caller fresh) s))) (is_some (cond zero None (cond (not zero && is_none s) (fresh_seat caller fresh) s)))
      && are_seated ms (seated caller ms (rest kept) (cond (not zero && is_none s) (behind_two fresh) fresh))) ≡ true
  step true s rec k = rec fresh (omega (arith, k))
  step false None rec k = and_from _ _ (fresh_stands caller fresh more k) (rec (behind_two fresh) (behind_enough fresh more k))
  step false (Some s) rec k = rec fresh (omega (arith, k))

-- ---- each serves one medium and one end

pub not_true : (b : Bool) → not b ≡ true → b ≡ false
not_true true h = absurd cc
not_true false h = refl

none_in : (ns : List ℕ) (n : ℕ) → list_all (λ q. not (q == n)) ns ≡ true → list_any (λ q. q == n) ns ≡ false
none_in [] n h = refl
none_in (m ∷ ms) n h =
    let parts = and_parts (not (m == n)) (list_all (λ q. not (q == n)) ms) h in
    rw (not_true (m == n) parts.0) (none_in ms n parts.1)

pub false_or : (a b : Bool) → (a || b) ≡ false → (a ≡ false) × (b ≡ false)
false_or true b h = absurd cc
false_or false b h = (refl, h)

all_out : (ns : List ℕ) (n : ℕ) → list_any (λ q. q == n) ns ≡ false → list_all (λ q. not (q == n)) ns ≡ true
all_out [] n h = refl
all_out (m ∷ ms) n h =
    let parts = false_or (m == n) (list_any (λ q. q == n) ms) h in
    rw parts.0 (all_out ms n parts.1)

pub turned : (a b : ℕ) → (a == b) ≡ false → (b == a) ≡ false
turned a b h = step (b == a) refl where
  step : (c : Bool) → (b == a) ≡ c → c ≡ false
  step true e = let wrong : (a == b) ≡ true = eq-eqb a b (sym (eqb-true b a e)) in cc (sym wrong ∙ h)
  step false e = refl

pub imply : (p q : ℕ → Bool) → ((n : ℕ) → p n ≡ true → q n ≡ true) → (ns : List ℕ) → list_all p ns ≡ true → list_all q ns ≡ true
imply p q weaker [] h = refl
imply p q weaker (n ∷ ns) h = let parts = and_parts (p n) (list_all p ns) h in and_from _ _ (weaker n parts.0) (imply p q weaker ns parts.1)

-- none of the others is the first of these
not_first : (x : ℕ) (xs : List ℕ) (n : ℕ) → not (stands_in (x ∷ xs) n) ≡ true → not (n == x) ≡ true
not_first x xs n h = rw (turned x n (false_or (x == n) (stands_in xs n) (not_true (stands_in (x ∷ xs) n) h)).0) refl

not_later : (x : ℕ) (xs : List ℕ) (n : ℕ) → not (stands_in (x ∷ xs) n) ≡ true → not (stands_in xs n) ≡ true
not_later x xs n h = rw (false_or (x == n) (stands_in xs n) (not_true (stands_in (x ∷ xs) n) h)).1 refl

pub rest_distinct : (kept : List (Option Seat)) → are_distinct (pairs_of kept) ≡ true → are_distinct (pairs_of (rest kept)) ≡ true
rest_distinct [] h = refl
rest_distinct (None ∷ ss) h = h
rest_distinct (Some s ∷ ss) h =
    let ps = pairs_of ss in
    let a = and_parts (not (stands_in (s.answerer ∷ ps) s.offerer)) (not (stands_in ps s.answerer) && are_distinct ps) h in
    (and_parts (not (stands_in ps s.answerer)) (are_distinct ps) a.1).1

-- a seat whose ports differ, and neither of which is among those after it
pub seat_joins : (s : Seat) (ss : List (Option Seat)) → (s.answerer == s.offerer) ≡ false → list_all (λ q. not (q == s.offerer)) (pairs_of ss) ≡ true
    → list_all (λ q. not (q == s.answerer)) (pairs_of ss) ≡ true → are_distinct (pairs_of ss) ≡ true → are_distinct (pairs_of (Some s ∷ ss)) ≡ true
seat_joins s ss differ offerer answerer h = rw (differ, none_in (pairs_of ss) s.offerer offerer, none_in (pairs_of ss) s.answerer answerer) h

pub record Kept (s : Seat) (ss : List (Option Seat)) (fs : List ℕ) : Type 0 where
  pub differ : (s.answerer == s.offerer) ≡ false
  pub offerer : list_all (λ q. not (q == s.offerer)) (pairs_of ss) ≡ true
  pub answerer : list_all (λ q. not (q == s.answerer)) (pairs_of ss) ≡ true
  pub fresh_offerer : list_all (λ q. not (q == s.offerer)) fs ≡ true
  pub fresh_answerer : list_all (λ q. not (q == s.answerer)) fs ≡ true

pub kept_is : (s : Seat) (ss : List (Option Seat)) (fs : List ℕ) → are_distinct (pairs_of (Some s ∷ ss)) ≡ true → are_apart (pairs_of (Some s ∷ ss)) fs ≡ true → Kept s ss fs
kept_is s ss fs h k =
    let ps = pairs_of ss in
    let out = λ (n : ℕ). not (stands_in fs n) in
    let a = and_parts (not (stands_in (s.answerer ∷ ps) s.offerer)) (not (stands_in ps s.answerer) && are_distinct ps) h in
    let b = and_parts (not (stands_in ps s.answerer)) (are_distinct ps) a.1 in
    let c = false_or (s.answerer == s.offerer) (stands_in ps s.offerer) (not_true (stands_in (s.answerer ∷ ps) s.offerer) a.0) in
    let d = and_parts (out s.offerer) (out s.answerer && list_all out ps) k in
    let e = and_parts (out s.answerer) (list_all out ps) d.1 in
    record {
      differ = c.0;
      offerer = all_out ps s.offerer c.1;
      answerer = all_out ps s.answerer (not_true (stands_in ps s.answerer) b.0);
      fresh_offerer = all_out fs s.offerer (not_true (stands_in fs s.offerer) d.0);
      fresh_answerer = all_out fs s.answerer (not_true (stands_in fs s.answerer) e.0);
    }

pub record Fresh (a b : Pair) (more : List Pair) (ps : List ℕ) : Type 0 where
  differ : (b.even == a.even) ≡ false
  first_kept : list_all (λ q. not (q == a.even)) ps ≡ true
  second_kept : list_all (λ q. not (q == b.even)) ps ≡ true
  first_later : list_all (λ q. not (q == a.even)) (evens more) ≡ true
  second_later : list_all (λ q. not (q == b.even)) (evens more) ≡ true
  distinct : are_distinct (evens more) ≡ true
  apart : are_apart ps (evens more) ≡ true

fresh_is : (a b : Pair) (more : List Pair) (ps : List ℕ) → are_distinct (evens (a ∷ b ∷ more)) ≡ true → are_apart ps (evens (a ∷ b ∷ more)) ≡ true → Fresh a b more ps
fresh_is a b more ps h k =
    let later = evens more in
    let x = and_parts (not (stands_in (b.even ∷ later) a.even)) (not (stands_in later b.even) && are_distinct later) h in
    let y = and_parts (not (stands_in later b.even)) (are_distinct later) x.1 in
    let z = false_or (b.even == a.even) (stands_in later a.even) (not_true (stands_in (b.even ∷ later) a.even) x.0) in
    let without_a = imply (λ n. not (stands_in (a.even ∷ b.even ∷ later) n)) (λ n. not (stands_in (b.even ∷ later) n)) (not_later a.even (b.even ∷ later)) ps k in
    record {
      differ = z.0;
      first_kept = imply (λ n. not (stands_in (a.even ∷ b.even ∷ later) n)) (λ n. not (n == a.even)) (not_first a.even (b.even ∷ later)) ps k;
      second_kept = imply (λ n. not (stands_in (b.even ∷ later) n)) (λ n. not (n == b.even)) (not_first b.even later) ps without_a;
      first_later = all_out later a.even z.1;
      second_later = all_out later b.even (not_true (stands_in later b.even) y.0);
      distinct = y.1;
      apart = imply (λ n. not (stands_in (b.even ∷ later) n)) (λ n. not (stands_in later n)) (not_later b.even later) ps without_a;
    }

pub none_left : (caller : Bool) (ms : List Media) (kept : List (Option Seat)) → are_apart (pairs_of kept) [] ≡ true
none_left caller ms kept = all_true (pairs_of kept) where
  all_true : (ns : List ℕ) → list_all (λ p. not (stands_in [] p)) ns ≡ true
  all_true [] = refl
  all_true (n ∷ ns) = all_true ns

-- the pairs of the media after the first one
abbrev Behind : Bool → List Media → Type 0
Behind caller ms = (kept : List (Option Seat)) (fresh : List Pair) → are_distinct (pairs_of kept) ≡ true → are_distinct (evens fresh) ≡ true
    → are_apart (pairs_of kept) (evens fresh) ≡ true → are_distinct (pairs_of (seated caller ms kept fresh)) ≡ true

-- the pairs of a medium in use
in_use : (caller : Bool) (ms : List Media) (s : Seat) (ss : List (Option Seat)) (fresh : List Pair) → Behind caller ms → are_distinct (pairs_of (Some s ∷ ss)) ≡ true
    → are_distinct (evens fresh) ≡ true → are_apart (pairs_of (Some s ∷ ss)) (evens fresh) ≡ true → are_distinct (pairs_of (Some s ∷ seated caller ms ss fresh)) ≡ true
in_use caller ms s ss fresh behind h k l =
    let is = kept_is s ss (evens fresh) h l in
    seat_joins s (seated caller ms ss fresh) is.differ
    (seats_pass caller ms ss fresh (λ q. not (q == s.offerer)) is.offerer is.fresh_offerer)
    (seats_pass caller ms ss fresh (λ q. not (q == s.answerer)) is.answerer is.fresh_answerer)
    (behind ss fresh (rest_distinct (Some s ∷ ss) h) k (rest_passes (λ p. not (stands_in (evens fresh) p)) (Some s ∷ ss) l))

-- fresh ones
taken : (caller first_faces : Bool) (ms : List Media) (ss : List (Option Seat)) (fresh : List Pair) → Behind caller ms → are_distinct (pairs_of ss) ≡ true
    → are_distinct (evens fresh) ≡ true → are_apart (pairs_of ss) (evens fresh) ≡ true
    → are_distinct (pairs_of (fresh_seat first_faces fresh ∷ seated caller ms ss (behind_two fresh))) ≡ true
taken caller true ms ss [] behind h k l = behind ss [] h refl (none_left caller ms ss)
taken caller false ms ss [] behind h k l = behind ss [] h refl (none_left caller ms ss)
taken caller true ms ss (a ∷ []) behind h k l = behind ss [] h refl (none_left caller ms ss)
taken caller false ms ss (a ∷ []) behind h k l = behind ss [] h refl (none_left caller ms ss)
taken caller true ms ss (a ∷ b ∷ more) behind h k l =
    let is = fresh_is a b more (pairs_of ss) k l in
    seat_joins (record { offerer = a.even; answerer = b.even }) (seated caller ms ss more) is.differ
    (seats_pass caller ms ss more (λ q. not (q == a.even)) is.first_kept is.first_later)
    (seats_pass caller ms ss more (λ q. not (q == b.even)) is.second_kept is.second_later)
    (behind ss more h is.distinct is.apart)
taken caller false ms ss (a ∷ b ∷ more) behind h k l =
    let is = fresh_is a b more (pairs_of ss) k l in
    seat_joins (record { offerer = b.even; answerer = a.even }) (seated caller ms ss more) (turned b.even a.even is.differ)
    (seats_pass caller ms ss more (λ q. not (q == b.even)) is.second_kept is.second_later)
    (seats_pass caller ms ss more (λ q. not (q == a.even)) is.first_kept is.first_later)
    (behind ss more h is.distinct is.apart)

with_first : (caller zero : Bool) (ms : List Media) (kept : List (Option Seat)) (fresh : List Pair) → Behind caller ms → are_distinct (pairs_of kept) ≡ true
    → are_distinct (evens fresh) ≡ true → are_apart (pairs_of kept) (evens fresh) ≡ true
    → are_distinct (pairs_of (cond zero None (cond (not zero && is_none (first kept)) (fresh_seat caller fresh) (first kept))
    ∷ seated caller ms (rest kept) (cond (not zero && is_none (first kept)) (behind_two fresh) fresh))) ≡ true
with_first caller true ms kept fresh behind h k l =
    behind (rest kept) fresh (rest_distinct kept h) k (rest_passes (λ p. not (stands_in (evens fresh) p)) kept l)
with_first caller false ms [] fresh behind h k l = taken caller caller ms [] fresh behind h k l
with_first caller false ms (None ∷ ss) fresh behind h k l = taken caller caller ms ss fresh behind h k l
with_first caller false ms (Some s ∷ ss) fresh behind h k l = in_use caller ms s ss fresh behind h k l

pub seats_differ : (caller : Bool) (ms : List Media) (kept : List (Option Seat)) (fresh : List Pair) → are_distinct (pairs_of kept) ≡ true → are_distinct (evens fresh) ≡ true
    → are_apart (pairs_of kept) (evens fresh) ≡ true → are_distinct (pairs_of (seated caller ms kept fresh)) ≡ true
seats_differ caller [] kept fresh h k l = refl
seats_differ caller (m ∷ ms) kept fresh h k l = with_first caller (m.port == 0) ms kept fresh (seats_differ caller ms) h k l
