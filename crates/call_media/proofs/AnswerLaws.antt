-- The session that an answer makes: its ports, its pairs, and at which ports it has rows.
use Rattle.std.proofs.Common.{◌≡◌, ◌==◌, ◌||◌, ◌&&◌, ◌∙◌, ℕ, Bool, true, false, not, cond, List, [], ◌∷◌, length, map, Option, Some, None, refl, sym, ap, subst, suc, arith}
use Rattle.std.specs.Prelude.{find, is_some, is_none, option_and_then}
use Rattle.std.specs.List.{list_all, All}
use Rattle.std.specs.Option.{option_or}
use Rattle.std.specs.FinMap.{empty}
use Rattle.std.proofs.lemmas.Bool.{and_parts, and_from, eqb-true, eq-eqb}
use Rattle.std.proofs.lemmas.List.Elements.{All-cons, All-nil, All-head, All-tail}
use Rattle.port_pool.specs.declared.holdings.Holding.{Holding}
use Rattle.port_pool.specs.declared.relay_line.RelayLine.{RelayLine}
use Rattle.port_pool.specs.Holdings.{even_of, has_even, holder_at, holder_of}
use Rattle.port_pool.specs.Pool.{AreOwn, Contents, hop_of, is_port_of}
use Rattle.sdp.specs.declared.description.Description.{Description}
use Rattle.sdp.specs.declared.description.Media.{Media}
use Rattle.offer_answer.specs.declared.range.OwnRange.{OwnRange}
use Rattle.offer_answer.specs.Checks.{accepted_fault, answer_fault, answered_fault, first_answered_fault, is_good_place, is_same_media}
use Rattle.offer_answer.specs.declared.fault.AnswerFault.{AnswerFault}
use Rattle.offer_answer.specs.declared.fault.AnswerFault.TheVariants.{NumberOfMedia, OtherMedia, UnwantedPort, BadPlace}
use Rattle.offer_answer.specs.Readdressing.{has_ports, told_port, told_ports}
use Rattle.offer_answer.specs.Rows.{are_distinct, is_even, pairs_named}
use Rattle.offer_answer.specs.Session.{HoldsPairs, session_lines}
use Rattle.call_media.specs.declared.seat.Seat.{Seat}
use Rattle.call_media.specs.declared.session.OpenOffer.{OpenOffer}
use Rattle.call_media.specs.declared.session.SessionRows.{SessionRows}
use Rattle.call_media.specs.Seats.{are_seated, evens, media_in_use, pairs_at, pairs_of, pairs_of_seat, port_to_answerer, port_to_offerer, stands_in}
use Rattle.call_media.specs.Offers.{is_port}
use Rattle.call_media.specs.Answers.{FitsRows, session_over}
use Rattle.call_media.specs.Serving.{are_held, is_held}
use Rattle.call_media.proofs.SeatLaws.{both, imply, joined, kept_is, none_left, rest_distinct, seat_joins}
use Rattle.call_media.proofs.KeptLaws.{named}
use Rattle.call_media.proofs.HeldLaws.{even_itself, holder_of_own, stand}

-- ---- what comes before, and after

abbrev front : List ℕ → ℕ
front [] = 0
front (n ∷ ns) = n

abbrev behind : List ℕ → List ℕ
behind [] = []
behind (n ∷ ns) = ns

-- ---- the ports of the answer

some_port : (s : Option Seat) (ss : List (Option Seat)) → is_some s ≡ true → list_all is_port (pairs_of (s ∷ ss)) ≡ true → not (port_to_offerer s == 0) ≡ true
some_port None ss h k = absurd cc
some_port (Some s) ss h k = (and_parts (is_port s.offerer) (is_port s.answerer && list_all is_port (pairs_of ss)) k).0

-- an answered medium was offered
offered : (range : OwnRange) (o : Media) (S : Description) (s : Media) → accepted_fault range o S s ≡ None → (o.port == 0) ≡ false
unfolding accepted_fault
offered range o S s h = step (not (is_same_media o s)) (o.port == 0) (not (is_good_place range S s)) h where
  step : (a b c : Bool) → cond a (Some OtherMedia) (cond b (Some UnwantedPort) (cond c (Some BadPlace) None)) ≡ None → b ≡ false
  step true b c k = absurd cc
  step false true c k = absurd cc
  step false false c k = refl

or_none : (a b : Option AnswerFault) → option_or a b ≡ None → (a ≡ None) × (b ≡ None)
or_none None b h = (refl, h)
or_none (Some fault) b h = absurd cc

-- a medium that is offered on has a seat
has_seat : (ox oy : Media) (s : Option Seat) → oy.port ≡ told_port (port_to_answerer s) ox → cond (ox.port == 0) (is_none s) (is_some s) ≡ true → (oy.port == 0) ≡ false → is_some s ≡ true
has_seat ox oy s told seated there = step (ox.port == 0) told seated where
  step : (z : Bool) → oy.port ≡ cond z 0 (port_to_answerer s) → cond z (is_none s) (is_some s) ≡ true → is_some s ≡ true
  step true e g = absurd (cc (sym (eq-eqb oy.port 0 e) ∙ there))
  step false e g = g

pub ports_fit : (range : OwnRange) (S : Description) (oxs oys sys : List Media) (ss : List (Option Seat)) → map (λ m. m.port) oys ≡ told_ports (map port_to_answerer ss) oxs
    → are_seated oxs ss ≡ true → list_all is_port (pairs_of ss) ≡ true → first_answered_fault range oys S sys ≡ None → has_ports (map port_to_offerer ss) sys ≡ true
ports_fit range S oxs oys sys [] told seated ports fits = refl
ports_fit range S oxs oys [] (s ∷ ss) told seated ports fits = refl
ports_fit range S [] oys (sy ∷ sys) (s ∷ ss) told seated ports fits = absurd cc
ports_fit range S (ox ∷ oxs) [] (sy ∷ sys) (s ∷ ss) told seated ports fits = absurd cc
ports_fit range S (ox ∷ oxs) (oy ∷ oys) (sy ∷ sys) (s ∷ ss) told seated ports fits =
    let fit = or_none (answered_fault range oy S sy) (first_answered_fault range oys S sys) fits in
    let seat = and_parts (cond (ox.port == 0) (is_none s) (is_some s)) (are_seated oxs ss) seated in
    and_from _ _ (step (sy.port == 0) (ap front told) seat.0 fit.0)
    (ports_fit range S oxs oys sys ss (ap behind told) seat.1 (both is_port s ss ports).back fit.1) where
      step : (b : Bool) → oy.port ≡ told_port (port_to_answerer s) ox → cond (ox.port == 0) (is_none s) (is_some s) ≡ true → cond b None (accepted_fault range oy S sy) ≡ None
          → (b || not (port_to_offerer s == 0)) ≡ true
      step true e g k = refl
      step false e g k = some_port s ss (has_seat ox oy s e g (offered range oy S sy k)) ports

-- ---- as many ports as media

pub seats_there : (ms : List Media) (ss : List (Option Seat)) → are_seated ms ss ≡ true → length ss ≡ length ms
seats_there [] [] h = refl
seats_there [] (s ∷ ss) h = absurd cc
seats_there (m ∷ ms) [] h = absurd cc
seats_there (m ∷ ms) (s ∷ ss) h = ap suc (seats_there ms ss (and_parts (cond (m.port == 0) (is_none s) (is_some s)) (are_seated ms ss) h).1)

pub told_there : (ps : List ℕ) (ms ns : List Media) → length ps ≡ length ms → map (λ m. m.port) ns ≡ told_ports ps ms → length ns ≡ length ms
told_there [] [] [] h k = refl
told_there [] [] (n ∷ ns) h k = absurd cc
told_there [] (m ∷ ms) ns h k = absurd (omega (arith, h))
told_there (p ∷ ps) [] ns h k = absurd (omega (arith, h))
told_there (p ∷ ps) (m ∷ ms) [] h k = absurd cc
told_there (p ∷ ps) (m ∷ ms) (n ∷ ns) h k = ap suc (told_there ps ms ns (omega (arith, h)) (ap behind k))

pub as_many : (range : OwnRange) (o s : Description) → answer_fault range o s ≡ None → (length s.media ≡ length o.media) × (first_answered_fault range o.media s s.media ≡ None)
as_many range o s h = step (length s.media == length o.media) refl h where
  step : (b : Bool) → (length s.media == length o.media) ≡ b → cond (not b) (Some NumberOfMedia) (first_answered_fault range o.media s s.media) ≡ None
      → (length s.media ≡ length o.media) × (first_answered_fault range o.media s s.media ≡ None)
  step true e k = (eqb-true (length s.media) (length o.media) e, k)
  step false e k = absurd cc

-- ---- the pairs that the session names

-- those of the media that neither end rejects
abbrev used : List Media → List Media → List (Option Seat) → List (Option Seat)
used (ox ∷ oxs) (sy ∷ sys) (s ∷ ss) = cond (ox.port == 0 || sy.port == 0) None s ∷ used oxs sys ss
used _ _ _ = []

one_used : (a b : Bool) (s : Option Seat) (x y : ℕ) → cond a (is_none s) (is_some s) ≡ true → x ≡ cond b 0 (port_to_offerer s) → y ≡ cond a 0 (port_to_answerer s)
    → cond (a || b) None (Some (record { offerer = x; answerer = y })) ≡ cond (a || b) None s
one_used true b s x y h e f = refl
one_used false true s x y h e f = refl
one_used false false None x y h e f = absurd cc
one_used false false (Some s) x y h e f = rw (e, f) refl

are_used : (oxs sxs oys sys : List Media) (ss : List (Option Seat)) → map (λ m. m.port) oys ≡ told_ports (map port_to_answerer ss) oxs
    → map (λ m. m.port) sxs ≡ told_ports (map port_to_offerer ss) sys → are_seated oxs ss ≡ true → media_in_use oxs sxs oys sys ≡ used oxs sys ss
are_used [] sxs oys sys ss offers answers seated = refl
are_used (ox ∷ oxs) sxs oys sys [] offers answers seated = absurd cc
are_used (ox ∷ oxs) [] oys [] (s ∷ ss) offers answers seated = refl
are_used (ox ∷ oxs) (sx ∷ sxs) oys [] (s ∷ ss) offers answers seated = absurd cc
are_used (ox ∷ oxs) [] oys (sy ∷ sys) (s ∷ ss) offers answers seated = absurd cc
are_used (ox ∷ oxs) (sx ∷ sxs) [] (sy ∷ sys) (s ∷ ss) offers answers seated = absurd cc
are_used (ox ∷ oxs) (sx ∷ sxs) (oy ∷ oys) (sy ∷ sys) (s ∷ ss) offers answers seated =
    let seat = and_parts (cond (ox.port == 0) (is_none s) (is_some s)) (are_seated oxs ss) seated in
    ap (λ x. x ∷ media_in_use oxs sxs oys sys) (one_used (ox.port == 0) (sy.port == 0) s sx.port oy.port seat.0 (ap front answers) (ap front offers))
    ∙ ap (λ xs. cond (ox.port == 0 || sy.port == 0) None s ∷ xs) (are_used oxs sxs oys sys ss (ap behind offers) (ap behind answers) seat.1)

used_pass : (p : ℕ → Bool) (oxs sys : List Media) (ss : List (Option Seat)) → list_all p (pairs_of ss) ≡ true → list_all p (pairs_of (used oxs sys ss)) ≡ true
used_pass p [] sys ss h = refl
used_pass p (ox ∷ oxs) [] ss h = refl
used_pass p (ox ∷ oxs) (sy ∷ sys) [] h = refl
used_pass p (ox ∷ oxs) (sy ∷ sys) (s ∷ ss) h =
    let parts = both p s ss h in
    joined p (cond (ox.port == 0 || sy.port == 0) None s) (used oxs sys ss) (step (ox.port == 0 || sy.port == 0) parts.front) (used_pass p oxs sys ss parts.back) where
      step : (b : Bool) → list_all p (pairs_of_seat s) ≡ true → list_all p (pairs_of_seat (cond b None s)) ≡ true
      step true k = refl
      step false k = k

used_differ : (oxs sys : List Media) (ss : List (Option Seat)) → are_distinct (pairs_of ss) ≡ true → are_distinct (pairs_of (used oxs sys ss)) ≡ true
used_differ [] sys ss h = refl
used_differ (ox ∷ oxs) [] ss h = refl
used_differ (ox ∷ oxs) (sy ∷ sys) [] h = refl
used_differ (ox ∷ oxs) (sy ∷ sys) (None ∷ ss) h = step (ox.port == 0 || sy.port == 0) (used_differ oxs sys ss h) where
  step : (b : Bool) → are_distinct (pairs_of (used oxs sys ss)) ≡ true → are_distinct (pairs_of (cond b None None ∷ used oxs sys ss)) ≡ true
  step true k = k
  step false k = k
used_differ (ox ∷ oxs) (sy ∷ sys) (Some s ∷ ss) h =
    let is = kept_is s ss [] h (none_left true [] (Some s ∷ ss)) in
    let rest = used oxs sys ss in
    step (ox.port == 0 || sy.port == 0) (used_differ oxs sys ss (rest_distinct (Some s ∷ ss) h))
    (seat_joins s rest is.differ (used_pass (λ q. not (q == s.offerer)) oxs sys ss is.offerer) (used_pass (λ q. not (q == s.answerer)) oxs sys ss is.answerer)) where
      step : (b : Bool) → are_distinct (pairs_of (used oxs sys ss)) ≡ true → (are_distinct (pairs_of (used oxs sys ss)) ≡ true → are_distinct (pairs_of (Some s ∷ used oxs sys ss)) ≡ true)
          → are_distinct (pairs_of (cond b None (Some s) ∷ used oxs sys ss)) ≡ true
      step true k join = k
      step false k join = join k

-- what each description says of the seats
pub record Tell (o : OpenOffer) (sent answer : Description) : Type 0 where
  pub offers : map (λ m. m.port) o.offer_sent.media ≡ told_ports (map port_to_answerer o.seats) o.offer_taken.media
  pub answers : map (λ m. m.port) sent.media ≡ told_ports (map port_to_offerer o.seats) answer.media
  pub seated : are_seated o.offer_taken.media o.seats ≡ true

are_named : (o : OpenOffer) (sent answer : Description) → Tell o sent answer → pairs_of (used o.offer_taken.media answer.media o.seats) ≡ pairs_named o.offer_taken sent o.offer_sent answer
are_named o sent answer tell =
    sym (ap pairs_of (are_used o.offer_taken.media sent.media o.offer_sent.media answer.media o.seats tell.offers tell.answers tell.seated))
    ∙ named o.offer_taken.media sent.media o.offer_sent.media answer.media

pub named_pass : (p : ℕ → Bool) (o : OpenOffer) (sent answer : Description) → Tell o sent answer → list_all p (pairs_of o.seats) ≡ true
    → list_all p (pairs_named o.offer_taken sent o.offer_sent answer) ≡ true
named_pass p o sent answer tell h = ap (list_all p) (sym (are_named o sent answer tell)) ∙ used_pass p o.offer_taken.media answer.media o.seats h

pub named_differ : (o : OpenOffer) (sent answer : Description) → Tell o sent answer → are_distinct (pairs_of o.seats) ≡ true
    → are_distinct (pairs_named o.offer_taken sent o.offer_sent answer) ≡ true
named_differ o sent answer tell h = ap are_distinct (sym (are_named o sent answer tell)) ∙ used_differ o.offer_taken.media answer.media o.seats h

-- ---- pairs that are held

pub all_held : (pool : Contents) (number : ℕ) (ns : List ℕ) → are_held number pool ns ≡ true → All (λ e. holder_of pool.holdings e ≡ Some number) ns
all_held pool number [] h = All-nil (λ e. holder_of pool.holdings e ≡ Some number)
all_held pool number (n ∷ ns) h =
    let parts = and_parts (is_held number pool n) (are_held number pool ns) h in
    let here = and_parts (is_even n) (is_port_of pool number n) parts.0 in
    let holder = holder_of_own number (holder_at pool.holdings n) here.1 in
    All-cons (λ e. holder_of pool.holdings e ≡ Some number) n ns (ap (holder_of pool.holdings) (sym (even_itself n here.0)) ∙ holder) (all_held pool number ns parts.1)

pub held_even : (pool : Contents) (number : ℕ) (ns : List ℕ) → are_held number pool ns ≡ true → list_all is_even ns ≡ true
held_even pool number ns h = imply (is_held number pool) is_even (λ n k. (and_parts (is_even n) (is_port_of pool number n) k).0) ns h

pub listed : (ns : List ℕ) → evens (pairs_at ns) ≡ ns
listed [] = refl
listed (n ∷ ns) = ap (λ ms. n ∷ ms) (listed ns)

-- ---- no row but at these pairs

-- these pairs, all of one call
abbrev holding : ℕ → ℕ → Holding
holding number even = record { even = even; holder = Some number; freed = None }

abbrev held_alone : ℕ → List ℕ → Contents
held_alone number ns = record { holdings = map (holding number) ns; rows = empty }

alone : (number : ℕ) (ns : List ℕ) (n : ℕ) → holder_of (map (holding number) ns) n ≡ cond (stands_in ns n) (Some number) None
alone number [] n = refl
alone number (m ∷ ms) n = step (m == n) (alone number ms n) where
  step : (b : Bool) → holder_of (map (holding number) ms) n ≡ cond (stands_in ms n) (Some number) None
      → option_and_then (λ s. s.holder) (cond b (Some (holding number m)) (find (has_even n) (map (holding number) ms))) ≡ cond (b || stands_in ms n) (Some number) None
  step true k = refl
  step false k = k

all_alone : (number : ℕ) (ns ms : List ℕ) → list_all (stands_in ns) ms ≡ true → All (λ e. holder_of (map (holding number) ns) e ≡ Some number) ms
all_alone number ns [] h = All-nil (λ e. holder_of (map (holding number) ns) e ≡ Some number)
all_alone number ns (m ∷ ms) h =
    let parts = and_parts (stands_in ns m) (list_all (stands_in ns) ms) h in
    All-cons (λ e. holder_of (map (holding number) ns) e ≡ Some number) m ms (alone number ns m ∙ rw parts.0 refl) (all_alone number ns ms parts.1)

no_line : (P : ℕ → Type 0) (port : ℕ) (ls : List RelayLine) → All (λ l. P l.port) ls → (P port → ⊥) → hop_of ls port ≡ None
no_line P port [] all not_it = refl
no_line P port (l ∷ ls) all not_it = step (l.port == port) refl (no_line P port ls (All-tail (λ x. P x.port) l ls all) not_it) where
  step : (b : Bool) → (l.port == port) ≡ b → hop_of ls port ≡ None → option_and_then (λ x. x.hop) (cond b (Some l) (find (λ x. x.port == port) ls)) ≡ None
  step true e k = absurd (not_it (subst P (eqb-true l.port port e) (All-head (λ x. P x.port) l ls all)))
  step false e k = k

-- by the law that a session's lines are of ports of the call that holds its pairs
pub no_hop : ((pool : Contents) (call : ℕ) (OX SX OY SY : Description) → list_all is_even (pairs_named OX SX OY SY) ≡ true → HoldsPairs pool call OX SX OY SY → AreOwn pool call (session_lines OX SX OY SY))
    → (OX SX OY SY : Description) (port : ℕ) → list_all is_even (pairs_named OX SX OY SY) ≡ true → stands_in (pairs_named OX SX OY SY) (even_of port) ≡ false
    → hop_of (session_lines OX SX OY SY) port ≡ None
no_hop own OX SX OY SY port evens out =
    let ns = pairs_named OX SX OY SY in
    no_line (λ q. holder_at (map (holding 0) ns) q ≡ Some 0) port (session_lines OX SX OY SY)
    (own (held_alone 0 ns) 0 OX SX OY SY evens (all_alone 0 ns ns (stand ns)))
    (λ h. let none : holder_of (map (holding 0) ns) (even_of port) ≡ None = alone 0 ns (even_of port) ∙ ap (λ b. cond b (Some 0) None) out in absurd (cc (sym h ∙ none)))

-- ---- descriptions that are kept apart

-- the rows of a session fit it, whichever equal descriptions they were made of
pub fits_as_kept : (number : ℕ) (pool : Contents) (o : OpenOffer) (sent answer : Description) (rows : SessionRows) (taken given : Description) → taken ≡ o.offer_taken → given ≡ o.offer_sent
    → FitsRows number pool (session_over (record o { offer_taken = taken; offer_sent = given }) sent answer) rows → FitsRows number pool (session_over o sent answer) rows
fits_as_kept number pool o sent answer rows taken given same_taken same_given fits =
    subst (λ (g : Description). FitsRows number pool (session_over (record o { offer_sent = g }) sent answer) rows) same_given
    (subst (λ (t : Description). FitsRows number pool (session_over (record o { offer_taken = t; offer_sent = given }) sent answer) rows) same_taken fits)
