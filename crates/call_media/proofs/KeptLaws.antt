-- The pairs of a session's media in use, as its offerer sees them and as the end across does.
use Rattle.std.proofs.Common.{◌≡◌, ◌==◌, ◌||◌, ◌&&◌, ◌++◌, ℕ, Bool, true, false, not, cond, List, [], ◌∷◌, map, Option, Some, None, option_map, refl, ap}
use Rattle.std.specs.List.{list_all}
use Rattle.std.proofs.lemmas.Bool.{and_parts, and_from}
use Rattle.sdp.specs.declared.description.Media.{Media}
use Rattle.offer_answer.specs.Rows.{are_distinct, media_pairs}
use Rattle.call_media.specs.declared.end.End.{End}
use Rattle.call_media.specs.declared.seat.Seat.{Seat}
use Rattle.call_media.specs.declared.session.Session.{Session}
use Rattle.call_media.specs.Ends.{is_same}
use Rattle.call_media.specs.Seats.{across, media_in_use, pairs_of}
use Rattle.call_media.specs.Sessions.{pairs_of_session, seats_of, seats_seen_by}
use Rattle.call_media.proofs.SeatLaws.{kept_is, none_left, rest_distinct, seat_joins, turned}

-- they are the pairs that the session names
pub named : (oxs sxs oys sys : List Media) → pairs_of (media_in_use oxs sxs oys sys) ≡ media_pairs oxs sxs oys sys
named [] sxs oys sys = refl
named (ox ∷ oxs) [] oys sys = refl
named (ox ∷ oxs) (sx ∷ sxs) [] sys = refl
named (ox ∷ oxs) (sx ∷ sxs) (oy ∷ oys) [] = refl
named (ox ∷ oxs) (sx ∷ sxs) (oy ∷ oys) (sy ∷ sys) = step (ox.port == 0 || sy.port == 0) (named oxs sxs oys sys) where
  step : (b : Bool) → pairs_of (media_in_use oxs sxs oys sys) ≡ media_pairs oxs sxs oys sys
      → pairs_of (cond b None (Some (record { offerer = sx.port; answerer = oy.port })) ∷ media_in_use oxs sxs oys sys) ≡ cond b [] (sx.port ∷ oy.port ∷ []) ++ media_pairs oxs sxs oys sys
  step true k = k
  step false k = ap (λ ps. sx.port ∷ oy.port ∷ ps) k

pub of_session : (s : Session) → pairs_of (seats_of s) ≡ pairs_of_session s
of_session s = named s.offer_taken.media s.answer_sent.media s.offer_sent.media s.answer_taken.media

across_pass : (p : ℕ → Bool) (ss : List (Option Seat)) → list_all p (pairs_of ss) ≡ true → list_all p (pairs_of (map (option_map across) ss)) ≡ true
across_pass p [] h = refl
across_pass p (None ∷ ss) h = across_pass p ss h
across_pass p (Some s ∷ ss) h =
    let a = and_parts (p s.offerer) (p s.answerer && list_all p (pairs_of ss)) h in
    let b = and_parts (p s.answerer) (list_all p (pairs_of ss)) a.1 in
    and_from _ _ b.0 (and_from _ _ a.0 (across_pass p ss b.1))

across_differ : (ss : List (Option Seat)) → are_distinct (pairs_of ss) ≡ true → are_distinct (pairs_of (map (option_map across) ss)) ≡ true
across_differ [] h = refl
across_differ (None ∷ ss) h = across_differ ss h
across_differ (Some s ∷ ss) h =
    let is = kept_is s ss [] h (none_left true [] (Some s ∷ ss)) in
    seat_joins (across s) (map (option_map across) ss) (turned s.answerer s.offerer is.differ)
    (across_pass (λ q. not (q == s.answerer)) ss is.answerer) (across_pass (λ q. not (q == s.offerer)) ss is.offerer)
    (across_differ ss (rest_distinct (Some s ∷ ss) h))

-- what passes of the session's pairs passes of those that an end sees
pub seen_pass : (p : ℕ → Bool) (e : End) (s : Session) → list_all p (pairs_of_session s) ≡ true → list_all p (pairs_of (seats_seen_by e s)) ≡ true
seen_pass p e s h = step (is_same e s.offerer) (rw (of_session s) h) where
  step : (b : Bool) → list_all p (pairs_of (seats_of s)) ≡ true → list_all p (pairs_of (cond b (seats_of s) (map (option_map across) (seats_of s)))) ≡ true
  step true here = here
  step false here = across_pass p (seats_of s) here

pub seen_differ : (e : End) (s : Session) → are_distinct (pairs_of_session s) ≡ true → are_distinct (pairs_of (seats_seen_by e s)) ≡ true
seen_differ e s h = step (is_same e s.offerer) (rw (of_session s) h) where
  step : (b : Bool) → are_distinct (pairs_of (seats_of s)) ≡ true → are_distinct (pairs_of (cond b (seats_of s) (map (option_map across) (seats_of s)))) ≡ true
  step true here = here
  step false here = across_differ (seats_of s) here
