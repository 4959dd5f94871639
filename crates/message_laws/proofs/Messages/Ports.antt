-- The ports of pairs, seats and media are ports.
use Rattle.std.proofs.Common.{ℕ, ◌+◌, ◌*◌, ◌<◌, ◌≤◌, ◌==◌, Bool, true, false, cond, List, [], ◌∷◌, map, length, Option, Some, None, option_map, sym, subst, inl, inr, arith}
use Rattle.std.specs.Prelude.{slice_index, ◌||◌, filter}
use Rattle.std.specs.List.{All, range_with_len}
use Rattle.std.proofs.lemmas.Bool.{cases_lt}
use Rattle.std.proofs.lemmas.List.{get_or_past}
use Rattle.std.proofs.lemmas.List.FromFn.{get_or-range_with_len, length-range_with_len}
use Rattle.std.proofs.lemmas.List.Elements.{All-cons, All-filter, All-from_get_or, All-head, All-map, All-nil, All-tail, All-take, All-weaker}
use Rattle.port_pool.specs.declared.holdings.Holding.{Holding}
use Rattle.port_pool.specs.declared.pair.Pair.{Pair}
use Rattle.port_pool.specs.Holdings.{HasOdd, freed_at, free_pairs, held_by, holding_after_drop, holding_after_freeing_others, holding_after_taking, holds, is_among, is_free, is_other, pair_of, taken, unheld}
use Rattle.port_pool.specs.Pool.{Contents, lowest_free, new_pool, with_pairs, without_call, without_others}
use Rattle.sdp.specs.declared.description.Description.{Description}
use Rattle.sdp.specs.declared.description.Media.{Media}
use Rattle.offer_answer.specs.declared.sent_description.ServerOrigin.{ServerOrigin}
use Rattle.offer_answer.specs.Readdressing.{readdressed_description, readdressed_media, readdressed_medium}
use Rattle.call_media.specs.declared.end.End.{End}
use Rattle.call_media.specs.declared.seat.Seat.{Seat}
use Rattle.call_media.specs.declared.session.Session.{Session}
use Rattle.call_media.specs.Ends.{is_same}
use Rattle.call_media.specs.Seats.{across, behind_two, first, fresh_seat, media_in_use, needs_pairs, pairs_left, port_to_answerer, port_to_offerer, rest, seat_in_use, seat_of, seated}
use Rattle.call_media.specs.Sessions.{seats_kept, seats_of, seats_seen_by}
use Rattle.message_laws.specs.Bodies.{HasPortsIf, HavePorts, IsReaddressed, KnowsSession, KnowsSessionIf}

-- ---- the pool

taking_keeps : (call : ℕ) (pairs : List Pair) (h : Holding) → HasOdd h → HasOdd (holding_after_taking call pairs h)
taking_keeps call pairs h odd = by (is_among pairs h.even)
  where
    by : (b : Bool) → HasOdd (cond b (held_by call h) h)
    by true = odd
    by false = odd

freeing_keeps : (call : ℕ) (kept : List Pair) (now : ℕ) (h : Holding) → HasOdd h → HasOdd (holding_after_freeing_others call kept now h)
freeing_keeps call kept now h odd = by (is_other call kept h)
  where
    by : (b : Bool) → HasOdd (cond b (freed_at now h) h)
    by true = odd
    by false = odd

drop_keeps : (call now : ℕ) (h : Holding) → HasOdd h → HasOdd (holding_after_drop call now h)
drop_keeps call now h odd = by (holds call h)
  where
    by : (b : Bool) → HasOdd (cond b (freed_at now h) h)
    by true = odd
    by false = odd

map_keeps : (f : Holding → Holding) (holdings : List Holding) → ((h : Holding) → HasOdd h → HasOdd (f h)) → All HasOdd holdings → All HasOdd (map f holdings)
map_keeps f holdings keeps each = All-map HasOdd f holdings (All-weaker HasOdd (λ h. HasOdd (f h)) keeps holdings each)

pub pairs_taken : (pool : Contents) (call : ℕ) (pairs : List Pair) → HavePorts pool → HavePorts (with_pairs pool call pairs)
pairs_taken pool call pairs each = map_keeps (holding_after_taking call pairs) pool.holdings (taking_keeps call pairs) each

pub pairs_left_to : (pool : Contents) (call : ℕ) (kept : List Pair) (now : ℕ) → HavePorts pool → HavePorts (without_others pool call kept now)
pairs_left_to pool call kept now each = map_keeps (holding_after_freeing_others call kept now) pool.holdings (freeing_keeps call kept now) each

pub pairs_dropped : (pool : Contents) (call now : ℕ) → HavePorts pool → HavePorts (without_call pool call now)
pairs_dropped pool call now each = map_keeps (holding_after_drop call now) pool.holdings (drop_keeps call now) each

range_below : (start n : ℕ) → All (λ k. k < start + n) (range_with_len start n)
range_below start n = All-from_get_or (λ k. k < start + n) (range_with_len start n) 0 (λ i lt. subst (λ k. k < start + n) (sym (get_or-range_with_len start n i 0 (within i lt))) (omega (arith, within i lt)))
  where
    within : (i : ℕ) → i < length (range_with_len start n) → i < n
    within i lt = omega (arith, length-range_with_len start n, lt)

pub pairs_new : (least pairs : ℕ) → least + 2 * pairs ≤ 65536 → HavePorts (new_pool least pairs)
pairs_new least pairs fits =
    All-map HasOdd (unheld least) (range_with_len 0 pairs) (All-weaker (λ k. k < 0 + pairs) (λ k. HasOdd (unheld least k)) (λ k lt. omega arith) (range_with_len 0 pairs) (range_below 0 pairs))

-- ---- pairs that are free

abbrev IsPair : Pair → Type 0
IsPair p = p.even ≤ 65535

free_ports : (pool : Contents) (now n : ℕ) → HavePorts pool → All IsPair (lowest_free pool now n)
free_ports pool now n each =
    let free = filter (is_free now) pool.holdings in
    All-take IsPair n (free_pairs now pool.holdings)
    (All-map IsPair pair_of free (All-weaker HasOdd (λ h. IsPair (pair_of h)) (λ h odd. omega (arith, odd)) free (All-filter (is_free now) HasOdd pool.holdings each)))

-- ---- seats

first_ports : (kept : List (Option Seat)) → All HasPortsIf kept → HasPortsIf (first kept)
first_ports [] each = tt
first_ports (s ∷ ss) each = All-head HasPortsIf s ss each

rest_ports : (kept : List (Option Seat)) → All HasPortsIf kept → All HasPortsIf (rest kept)
rest_ports [] each = each
rest_ports (s ∷ ss) each = All-tail HasPortsIf s ss each

fresh_ports : (b : Bool) (fresh : List Pair) → All IsPair fresh → HasPortsIf (fresh_seat b fresh)
fresh_ports true [] each = tt
fresh_ports false [] each = tt
fresh_ports true (p ∷ []) each = tt
fresh_ports false (p ∷ []) each = tt
fresh_ports true (p ∷ q ∷ more) each = record { offerer = All-head IsPair p (q ∷ more) each; answerer = All-head IsPair q more (All-tail IsPair p (q ∷ more) each) }
fresh_ports false (p ∷ q ∷ more) each = record { offerer = All-head IsPair q more (All-tail IsPair p (q ∷ more) each); answerer = All-head IsPair p (q ∷ more) each }

seat_ports : (caller_offers : Bool) (m : Media) (kept : Option Seat) (fresh : List Pair) → HasPortsIf kept → All IsPair fresh → HasPortsIf (seat_of caller_offers m kept fresh)
seat_ports caller_offers m kept fresh h each = by (m.port == 0) (needs_pairs m kept)
  where
    by : (b c : Bool) → HasPortsIf (cond b None (cond c (fresh_seat caller_offers fresh) kept))
    by true c = tt
    by false true = fresh_ports caller_offers fresh each
    by false false = h

behind_ports : (fresh : List Pair) → All IsPair fresh → All IsPair (behind_two fresh)
behind_ports [] each = each
behind_ports (p ∷ []) each = All-nil IsPair
behind_ports (p ∷ q ∷ more) each = All-tail IsPair q more (All-tail IsPair p (q ∷ more) each)

left_ports : (m : Media) (kept : Option Seat) (fresh : List Pair) → All IsPair fresh → All IsPair (pairs_left m kept fresh)
left_ports m kept fresh each = by (needs_pairs m kept)
  where
    by : (b : Bool) → All IsPair (cond b (behind_two fresh) fresh)
    by true = behind_ports fresh each
    by false = each

seated_ports : (caller_offers : Bool) (media : List Media) (kept : List (Option Seat)) (fresh : List Pair) → All HasPortsIf kept → All IsPair fresh → All HasPortsIf (seated caller_offers media kept fresh)
seated_ports caller_offers [] kept fresh h each = All-nil HasPortsIf
seated_ports caller_offers (m ∷ ms) kept fresh h each =
    All-cons HasPortsIf (seat_of caller_offers m (first kept) fresh) (seated caller_offers ms (rest kept) (pairs_left m (first kept) fresh))
    (seat_ports caller_offers m (first kept) fresh (first_ports kept h) each)
    (seated_ports caller_offers ms (rest kept) (pairs_left m (first kept) fresh) (rest_ports kept h) (left_ports m (first kept) fresh each))

-- ---- ports that are given

told_at : (f : Option Seat → ℕ) (seats : List (Option Seat)) → All (λ s. f s ≤ 65535) seats → (i : ℕ) → slice_index (map f seats) i ≤ 65535
told_at f seats each i = elim (cases_lt i (length (map f seats))) [
  | inl lt ↦ All-map (λ n. n ≤ 65535) f seats each i 0 lt
  | inr le ↦ subst (λ n. n ≤ 65535) (sym (get_or_past (map f seats) i 0 le)) (omega arith)
]

pub to_answerer : (seats : List (Option Seat)) → All HasPortsIf seats → (i : ℕ) → slice_index (map port_to_answerer seats) i ≤ 65535
to_answerer seats each = told_at port_to_answerer seats (All-weaker HasPortsIf (λ s. port_to_answerer s ≤ 65535) one seats each)
  where
    one : (s : Option Seat) → HasPortsIf s → port_to_answerer s ≤ 65535
    one None h = omega arith
    one (Some s) h = h.answerer

pub to_offerer : (seats : List (Option Seat)) → All HasPortsIf seats → (i : ℕ) → slice_index (map port_to_offerer seats) i ≤ 65535
to_offerer seats each = told_at port_to_offerer seats (All-weaker HasPortsIf (λ s. port_to_offerer s ≤ 65535) one seats each)
  where
    one : (s : Option Seat) → HasPortsIf s → port_to_offerer s ≤ 65535
    one None h = omega arith
    one (Some s) h = h.offerer

-- ---- the seats of a session

abbrev IsTold : Media → Type 0
IsTold m = m.port ≤ 65535

medium_told : (ip : List ℕ) (port : ℕ) (m : Media) → port ≤ 65535 → IsTold (readdressed_medium ip port m)
unfolding readdressed_medium
medium_told ip port m le = by (m.port == 0)
  where
    by : (b : Bool) → cond b 0 port ≤ 65535
    by true = omega arith
    by false = le

media_told : (ip ports : List ℕ) (media : List Media) → All (λ n. n ≤ 65535) ports → All IsTold (readdressed_media ip ports media)
media_told ip [] media each = All-nil IsTold
media_told ip (port ∷ ports) [] each = All-nil IsTold
media_told ip (port ∷ ports) (m ∷ ms) each =
    All-cons IsTold (readdressed_medium ip port m) (readdressed_media ip ports ms) (medium_told ip port m (All-head (λ n. n ≤ 65535) port ports each))
    (media_told ip ports ms (All-tail (λ n. n ≤ 65535) port ports each))

description_told : (origin : ServerOrigin) (ports : List ℕ) (d : Description) → ((i : ℕ) → slice_index ports i ≤ 65535) → All IsTold (readdressed_description origin ports d).media
unfolding readdressed_description
description_told origin ports d each = media_told origin.ip ports d.media (All-from_get_or (λ n. n ≤ 65535) ports 0 (λ i lt. each i))

readdressed_told : (ip : List ℕ) (taken sent : Description) → IsReaddressed ip taken sent → All IsTold sent.media
readdressed_told ip taken sent h = subst (λ (d : Description). All IsTold d.media) (sym h.whole) (description_told h.origin h.ports taken h.sizes.each_port)

use_ports : (ox : Media) (to_offerer to_answerer : ℕ) (sy : Media) → to_offerer ≤ 65535 → to_answerer ≤ 65535 → HasPortsIf (seat_in_use ox to_offerer to_answerer sy)
use_ports ox to_offerer to_answerer sy one two = by (ox.port == 0 || sy.port == 0)
  where
    by : (b : Bool) → HasPortsIf (cond b None (Some (record { offerer = to_offerer; answerer = to_answerer })))
    by true = tt
    by false = record { offerer = one; answerer = two }

media_ports : (oxs sxs oys sys : List Media) → All IsTold sxs → All IsTold oys → All HasPortsIf (media_in_use oxs sxs oys sys)
media_ports [] sxs oys sys s o = All-nil HasPortsIf
media_ports (ox ∷ oxs) [] oys sys s o = All-nil HasPortsIf
media_ports (ox ∷ oxs) (sx ∷ sxs) [] sys s o = All-nil HasPortsIf
media_ports (ox ∷ oxs) (sx ∷ sxs) (oy ∷ oys) [] s o = All-nil HasPortsIf
media_ports (ox ∷ oxs) (sx ∷ sxs) (oy ∷ oys) (sy ∷ sys) s o =
    All-cons HasPortsIf (seat_in_use ox sx.port oy.port sy) (media_in_use oxs sxs oys sys) (use_ports ox sx.port oy.port sy (All-head IsTold sx sxs s) (All-head IsTold oy oys o))
    (media_ports oxs sxs oys sys (All-tail IsTold sx sxs s) (All-tail IsTold oy oys o))

across_ports : (s : Option Seat) → HasPortsIf s → HasPortsIf (option_map across s)
across_ports None h = tt
across_ports (Some s) h = record { offerer = h.answerer; answerer = h.offerer }

seen_ports : (ip : List ℕ) (e : End) (s : Session) → KnowsSession ip s → All HasPortsIf (seats_seen_by e s)
seen_ports ip e s h = by (is_same e s.offerer)
  where
    all : All HasPortsIf (seats_of s)
    all = media_ports s.offer_taken.media s.answer_sent.media s.offer_sent.media s.answer_taken.media (readdressed_told ip s.answer_taken s.answer_sent h.answer_sent) (readdressed_told ip s.offer_taken s.offer_sent h.offer_sent)

    by : (b : Bool) → All HasPortsIf (cond b (seats_of s) (map (option_map across) (seats_of s)))
    by true = all
    by false = All-map HasPortsIf (option_map across) (seats_of s) (All-weaker HasPortsIf (λ s. HasPortsIf (option_map across s)) across_ports (seats_of s) all)

kept_ports : (ip : List ℕ) (e : End) (session : Option Session) → KnowsSessionIf ip session → All HasPortsIf (seats_kept e session)
kept_ports ip e None h = All-nil HasPortsIf
kept_ports ip e (Some s) h = seen_ports ip e s h

-- the seats of an offer, over those of the session and the lowest pairs that are free
pub offered_ports : (ip : List ℕ) (caller_offers : Bool) (media : List Media) (e : End) (session : Option Session) (pool : Contents) (now n : ℕ) → KnowsSessionIf ip session → HavePorts pool
    → All HasPortsIf (seated caller_offers media (seats_kept e session) (lowest_free pool now n))
offered_ports ip caller_offers media e session pool now n h each =
    seated_ports caller_offers media (seats_kept e session) (lowest_free pool now n) (kept_ports ip e session h) (free_ports pool now n each)
