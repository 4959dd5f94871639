-- That the media of a call are served after each change of them.
use Rattle.std.proofs.Common.{◌≡◌, ◌==◌, ◌||◌, ◌&&◌, ◌∙◌, ℕ, Bool, true, false, not, cond, List, [], ◌∷◌, length, map, Option, Some, None, option_map, refl, sym, ap, subst}
use Rattle.std.specs.Prelude.{is_some, is_none}
use Rattle.std.specs.List.{list_all, All}
use Rattle.std.proofs.lemmas.Bool.{and_parts, and_from}
use Rattle.std.proofs.lemmas.List.{length-map}
use Rattle.std.proofs.lemmas.List.Elements.{All-cons, All-head, All-nil, All-tail}
use Rattle.port_pool.specs.Holdings.{LeadsPair, holder_at, holder_of}
use Rattle.port_pool.specs.Pool.{AreOwn, Contents, RowsAreHeld}
use Rattle.sdp.specs.declared.description.Description.{Description}
use Rattle.sdp.specs.declared.description.Media.{Media}
use Rattle.offer_answer.specs.Alike.{Alike}
use Rattle.offer_answer.specs.Checks.{answer_fault}
use Rattle.offer_answer.specs.Joined.{is_at_server}
use Rattle.offer_answer.specs.Readdressing.{has_ports, told_ports}
use Rattle.offer_answer.specs.Rows.{LeadsAll, Named, are_distinct, is_even, pairs_named, ports_named}
use Rattle.offer_answer.specs.Session.{HoldsPairs, leads_by, line_of, session_lines}
use Rattle.call_media.specs.declared.seat.Seat.{Seat}
use Rattle.call_media.specs.declared.session.OpenOffer.{OpenOffer}
use Rattle.call_media.specs.declared.session.Session.{Session}
use Rattle.call_media.specs.declared.state.CallMedia.{CallMedia}
use Rattle.call_media.specs.declared.offer_plan.PlannedOffer.{PlannedOffer}
use Rattle.call_media.specs.Seats.{are_seated, pairs_of, port_to_answerer, port_to_offerer}
use Rattle.call_media.specs.Sessions.{pairs_listed, pairs_of_session}
use Rattle.call_media.specs.Offers.{IsPassedOn, IsReady, is_own_or_fresh, is_port, with_offer, without_offer}
use Rattle.call_media.specs.Serving.{IsOpen, OpenIfAny, SameFor, Serves, Stands, StandsIfAny, are_held, is_held}
use Rattle.call_media.proofs.SeatLaws.{both, imply}
use Rattle.call_media.proofs.HeldLaws.{held_is_port, own_holder}
use Rattle.call_media.proofs.SpareLaws.{Left, Taken, left_bare, left_stands, taken_bare, taken_fresh, taken_stands}
use Rattle.call_media.proofs.AnswerLaws.{Tell, all_held, as_many, held_even, named_differ, named_pass, ports_fit, seats_there, told_there}

-- ---- the ports of an offer

answerer_port : (s : Option Seat) (ss : List (Option Seat)) → is_some s ≡ true → list_all is_port (pairs_of (s ∷ ss)) ≡ true → not (port_to_answerer s == 0) ≡ true
answerer_port None ss h k = absurd cc
answerer_port (Some s) ss h k =
    let later = and_parts (is_port s.offerer) (is_port s.answerer && list_all is_port (pairs_of ss)) k in
    (and_parts (is_port s.answerer) (list_all is_port (pairs_of ss)) later.1).0

pub offer_ports : (ms : List Media) (ss : List (Option Seat)) → are_seated ms ss ≡ true → list_all is_port (pairs_of ss) ≡ true → has_ports (map port_to_answerer ss) ms ≡ true
offer_ports [] [] h k = refl
offer_ports [] (s ∷ ss) h k = absurd cc
offer_ports (m ∷ ms) [] h k = refl
offer_ports (m ∷ ms) (s ∷ ss) h k =
    let seat = and_parts (cond (m.port == 0) (is_none s) (is_some s)) (are_seated ms ss) h in
    and_from _ _ (step (m.port == 0) seat.0) (offer_ports ms ss seat.1 (both is_port s ss k).back) where
      step : (b : Bool) → cond b (is_none s) (is_some s) ≡ true → (b || not (port_to_answerer s == 0)) ≡ true
      step true g = refl
      step false g = answerer_port s ss g k

pub offer_ports_there : (ms : List Media) (ss : List (Option Seat)) → are_seated ms ss ≡ true → length (map port_to_answerer ss) ≡ length ms
offer_ports_there ms ss h = length-map ss port_to_answerer ∙ seats_there ms ss h

-- ---- an offer that is passed on, and one that is given up

pub serves_with_offer : (m : CallMedia) (pool after : Contents) (now : ℕ) (p : PlannedOffer) → Serves m pool → IsReady m pool now p → Taken m.number p.fresh.items pool after
    → after.rows ≡ pool.rows → RowsAreHeld pool → Serves (with_offer m p.offer) after
serves_with_offer m pool after now p serves ready taken same rows = record {
  server = serves.server;
  session = taken_stands m.range.ip m.number p.fresh.items pool after m.session taken same serves.session;
  offer = record {
    offer = ready.offer;
    held = imply (is_own_or_fresh m.number pool p.fresh.items) (is_held m.number after) (taken_fresh m.number p.fresh.items pool after taken) (pairs_of p.offer.seats) ready.own;
  };
  bare = taken_bare m.number p.fresh.items (pairs_listed m.session) pool after taken same ready.unheld rows serves.bare;
}

pub serves_without_offer : (m : CallMedia) (pool after : Contents) → Serves m pool → Left m.number (pairs_listed m.session) pool after → after.rows ≡ pool.rows
    → Serves (without_offer m) after
serves_without_offer m pool after serves left same = record {
  server = serves.server;
  session = left_stands m.range.ip m.number pool after m.session left same serves.session;
  offer = tt;
  bare = left_bare m.number (pairs_listed m.session) pool after left same serves.bare;
}

-- ---- the session that an answer makes

pub open_offer : (m : CallMedia) (pool : Contents) (o : OpenOffer) → Serves m pool → m.offer ≡ Some o → IsOpen m.range.ip m.number pool o
open_offer m pool o serves is = subst (OpenIfAny m.range.ip m.number pool) is serves.offer

-- what is known of the answer as it is sent on
pub record Sent (ip : List ℕ) (o : OpenOffer) (sent answer : Description) : Type 0 where
  pub alike : Alike answer sent
  pub at_server : is_at_server ip sent ≡ true
  pub told : map (λ m. m.port) sent.media ≡ told_ports (map port_to_offerer o.seats) answer.media

tells : (ip : List ℕ) (o : OpenOffer) (sent answer : Description) → IsPassedOn ip o → Sent ip o sent answer → Tell o sent answer
tells ip o sent answer passed is = record { offers = passed.told; answers = is.told; seated = passed.each_seated }

pub holds_named : (m : CallMedia) (pool : Contents) (o : OpenOffer) (sent answer : Description) → IsOpen m.range.ip m.number pool o → Sent m.range.ip o sent answer
    → are_held m.number pool (pairs_named o.offer_taken sent o.offer_sent answer) ≡ true
holds_named m pool o sent answer is sends = named_pass (is_held m.number pool) o sent answer (tells m.range.ip o sent answer is.offer sends) is.held

pub differ_named : (m : CallMedia) (pool : Contents) (o : OpenOffer) (sent answer : Description) → IsOpen m.range.ip m.number pool o → Sent m.range.ip o sent answer
    → are_distinct (pairs_named o.offer_taken sent o.offer_sent answer) ≡ true
differ_named m pool o sent answer is sends = named_differ o sent answer (tells m.range.ip o sent answer is.offer sends) is.offer.distinct

pub answer_ports : (m : CallMedia) (pool : Contents) (o : OpenOffer) (answer : Description) → IsOpen m.range.ip m.number pool o → answer_fault m.range o.offer_sent answer ≡ None
    → ((even call : ℕ) → holder_of pool.holdings even ≡ Some call → LeadsPair even) → has_ports (map port_to_offerer o.seats) answer.media ≡ true
answer_ports m pool o answer is fits never =
    let ports = imply (is_held m.number pool) is_port (λ n h. held_is_port pool m.number n never h) (pairs_of o.seats) is.held in
    ports_fit m.range answer o.offer_taken.media o.offer_sent.media answer.media o.seats is.offer.told is.offer.each_seated ports (as_many m.range o.offer_sent answer fits).1

pub answer_ports_there : (m : CallMedia) (pool : Contents) (o : OpenOffer) (answer : Description) → IsOpen m.range.ip m.number pool o → answer_fault m.range o.offer_sent answer ≡ None
    → length (map port_to_offerer o.seats) ≡ length answer.media
answer_ports_there m pool o answer is fits =
    let seats = seats_there o.offer_taken.media o.seats is.offer.each_seated in
    let offered = told_there (map port_to_answerer o.seats) o.offer_taken.media o.offer_sent.media (length-map o.seats port_to_answerer ∙ seats) is.offer.told in
    length-map o.seats port_to_offerer ∙ seats ∙ sym offered ∙ sym (as_many m.range o.offer_sent answer fits).0

-- ---- the same pairs, and the same rows at them

abbrev pub Owns : Type 0
Owns = (pool : Contents) (call : ℕ) (OX SX OY SY : Description) → list_all is_even (pairs_named OX SX OY SY) ≡ true → HoldsPairs pool call OX SX OY SY → AreOwn pool call (session_lines OX SX OY SY)

same_leads : (number : ℕ) (pool after : Contents) → SameFor number pool after → (ns : List Named) → All (λ l. holder_at pool.holdings l.port ≡ Some number) (map line_of ns)
    → LeadsAll (leads_by pool.rows) ns → LeadsAll (leads_by after.rows) ns
same_leads number pool after same [] own leads = All-nil (λ m. leads_by after.rows m.port ≡ m.to)
same_leads number pool after same (n ∷ ns) own leads =
    let mine = All-head (λ l. holder_at pool.holdings l.port ≡ Some number) (line_of n) (map line_of ns) own in
    let here = All-head (λ m. leads_by pool.rows m.port ≡ m.to) n ns leads in
    All-cons (λ m. leads_by after.rows m.port ≡ m.to) n ns (ap (option_map (λ h. h.to)) (same.rows n.port (rw mine (own_holder number))) ∙ here)
    (same_leads number pool after same ns (All-tail (λ l. holder_at pool.holdings l.port ≡ Some number) (line_of n) (map line_of ns) own)
    (All-tail (λ m. leads_by pool.rows m.port ≡ m.to) n ns leads))

same_held : (number : ℕ) (pool after : Contents) → SameFor number pool after → (n : ℕ) → is_held number pool n ≡ true → is_held number after n ≡ true
same_held number pool after same n h = ap (λ b. is_even n && b) (same.ports n) ∙ h

same_session : (own : Owns) (ip : List ℕ) (number : ℕ) (pool after : Contents) (session : Option Session) → SameFor number pool after → StandsIfAny ip number pool session
    → StandsIfAny ip number after session
same_session own ip number pool after None same h = h
same_session own ip number pool after (Some s) same h =
    let ns = pairs_of_session s in
    record {
      held = imply (is_held number pool) (is_held number after) (same_held number pool after same) ns h.held;
      distinct = h.distinct;
      listed = h.listed;
      media = h.media;
      offers = h.offers;
      answers = h.answers;
      offer_sent = h.offer_sent;
      answer_sent = h.answer_sent;
      rows = same_leads number pool after same (ports_named s.offer_taken s.answer_sent s.offer_sent s.answer_taken)
          (own pool number s.offer_taken s.answer_sent s.offer_sent s.answer_taken (held_even pool number ns h.held) (all_held pool number ns h.held)) h.rows;
    }

same_offer : (ip : List ℕ) (number : ℕ) (pool after : Contents) (offer : Option OpenOffer) → SameFor number pool after → OpenIfAny ip number pool offer → OpenIfAny ip number after offer
same_offer ip number pool after None same h = h
same_offer ip number pool after (Some o) same h = record {
  offer = h.offer;
  held = imply (is_held number pool) (is_held number after) (same_held number pool after same) (pairs_of o.seats) h.held;
}

pub spared_serves : Owns → (m : CallMedia) (pool after : Contents) → Serves m pool → SameFor m.number pool after → Serves m after
spared_serves own m pool after serves same = record {
  server = serves.server;
  session = same_session own m.range.ip m.number pool after m.session same serves.session;
  offer = same_offer m.range.ip m.number pool after m.offer same serves.offer;
  bare = λ port mine out. let was = sym (same.ports port) ∙ mine in same.rows port was ∙ serves.bare port was out;
}

pub standing : (m : CallMedia) (pool : Contents) (s : Session) → Serves m pool → m.session ≡ Some s → Stands m.range.ip m.number pool s
standing m pool s serves is = subst (StandsIfAny m.range.ip m.number pool) is serves.session
