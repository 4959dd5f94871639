-- What each change of a call's media leaves served.
use Rattle.std.proofs.Common.{◌≡◌, ◌≢◌, ◌&&◌, ◌∙◌, ℕ, Bool, true, false, not, cond, List, [], ◌∷◌, length, map, Option, Some, None, option_map, refl, sym, ap, subst, arith}
use Rattle.std.specs.Prelude.{IfSome}
use Rattle.std.specs.List.{All, list_all}
use Rattle.std.proofs.lemmas.Bool.{false≢true}
use Rattle.std.proofs.lemmas.List.{length-take-le}
use Rattle.std.specs.FinMap.{get}
use Rattle.sip_uri.specs.declared.uri.Addr.{Addr}
use Rattle.std.proofs.lemmas.List.Elements.{All-cons, All-head, All-nil, All-tail}
use Rattle.port_pool.specs.Limits.{min_port}
use Rattle.port_pool.specs.declared.pair.Pair.{Pair}
use Rattle.port_pool.specs.Holdings.{even_of, free_pairs, holder_at, is_among, is_call}
use Rattle.port_pool.specs.RelayTable.{Rows}
use Rattle.port_pool.specs.declared.relay_line.RelayLine.{RelayLine}
use Rattle.port_pool.specs.Pool.{AreBareBut, Contents, StandOnce, IsPool, is_port_of, lowest_free, with_changes, with_pairs, without_call, without_others}
use Rattle.sdp.specs.declared.description.Description.{Description}
use Rattle.offer_answer.specs.declared.range.OwnRange.{OwnRange}
use Rattle.offer_answer.specs.Checks.{answer_fault}
use Rattle.offer_answer.specs.Rows.{HasRows, Named, are_distinct, is_even, pairs_named, ports_named}
use Rattle.offer_answer.specs.Session.{leads_by, line_of, session_lines}
use Rattle.call_media.specs.declared.end.End.{End}
use Rattle.call_media.specs.declared.end.End.TheVariants.{Caller}
use Rattle.call_media.specs.declared.session.OpenOffer.{OpenOffer}
use Rattle.call_media.specs.declared.session.Session.{Session}
use Rattle.call_media.specs.declared.state.CallMedia.{CallMedia}
use Rattle.call_media.specs.Answers.{answer_sent, changes_to, session_over, with_session}
use Rattle.call_media.specs.Ends.{is_same, other}
use Rattle.call_media.specs.Offers.{HasPairs, IsPassedOn, is_own_or_fresh, ended, fresh_needed, opened, seats_offered, with_offer, without_offer}
use Rattle.call_media.specs.Seats.{evens, pairs_of, port_to_answerer, port_to_offerer, stands_in}
use Rattle.call_media.specs.Sessions.{pairs_listed, pairs_of_session, seats_kept}
use Rattle.call_media.specs.Serving.{IsOpen, SameFor, Serves, SparesOthers, StandsIfAny, are_held, is_held}
use Rattle.call_media.specs.Versions.{origin}
use Rattle.call_trace.specs.Serving.{LeadsSession, hop_of}
use Rattle.message_laws.specs.Serving.{IsServedAsAsked, trace_session, trace_table}
use Rattle.port_pool.proofs.HoldingLaws.{free_given, given_unheld, held_leads, holder_of-dropped, holder_of-held, holder_of-others, leads_given, rising_given}
use Rattle.port_pool.proofs.PoolLaws.{IsPool-committed, IsPool-others, IsPool-with_pairs, IsPool-without_call, lines-committed, row-committed}
use Rattle.offer_answer.proofs.ReaddressLaws.{readdressed_alike, readdressed_at_server, readdressed_ports}
use Rattle.call_media.proofs.SeatLaws.{each_seated, imply}
use Rattle.call_media.proofs.HeldLaws.{among, holder_of_own, other_holder, own_holder}
use Rattle.call_media.proofs.FreshLaws.{Suit, suit}
use Rattle.call_media.proofs.AnswerLaws.{all_held, as_many, held_even, listed, no_hop}
use Rattle.call_media.proofs.SpareLaws.{Left, left_all_held, left_bare, left_spares, taken_bare, taken_fresh, taken_spares, taken_stands}
use Rattle.call_media.proofs.ServeLaws.{Owns, Sent, answer_ports, answer_ports_there, differ_named, holds_named, offer_ports, offer_ports_there, open_offer, serves_without_offer}
use Rattle.call_media.proofs.SessionLaws.{none_kept, serves_ended, spares_ended}

-- the laws of a session's lines: they are of the ports of the call that holds its pairs, none occurs twice, and with
-- them the session's rows hold
abbrev pub Once : Type 0
Once = (OX SX OY SY : Description) → list_all is_even (pairs_named OX SX OY SY) ≡ true → are_distinct (pairs_named OX SX OY SY) ≡ true → StandOnce (session_lines OX SX OY SY)

abbrev pub HaveRows : Type 0
HaveRows = (rows : Rows) (OX SX OY SY : Description) → All (λ l. get rows l.port ≡ l.hop) (session_lines OX SX OY SY) → HasRows (leads_by rows) OX SX OY SY

-- ---- where the table leads

hops_same : (n : Named) → option_map (λ h. record { to = h.to; from = h.from }) (line_of n).hop ≡ hop_of n
hops_same n = step n.to where
  step : (to : Option Addr) → option_map (λ h. record { to = h.to; from = h.from }) (line_of (record { port = n.port; to = to; from = n.from })).hop ≡ hop_of (record { port = n.port; to = to; from = n.from })
  step None = refl
  step (Some a) = refl

line_leads : (pool : Contents) (ns : List Named) → All (λ l. get pool.rows l.port ≡ l.hop) (map line_of ns) → All (λ n. trace_table pool n.port ≡ hop_of n) ns
line_leads pool [] all = All-nil (λ n. trace_table pool n.port ≡ hop_of n)
line_leads pool (n ∷ ns) all =
    All-cons (λ m. trace_table pool m.port ≡ hop_of m) n ns
    (ap (option_map (λ h. record { to = h.to; from = h.from })) (All-head (λ l. get pool.rows l.port ≡ l.hop) (line_of n) (map line_of ns) all) ∙ hops_same n)
    (line_leads pool ns (All-tail (λ l. get pool.rows l.port ≡ l.hop) (line_of n) (map line_of ns) all))

-- the same rows at the ports of the call that holds them
same_named : (number : ℕ) (pool after : Contents) → SameFor number pool after → (ns : List Named) → All (λ l. holder_at pool.holdings l.port ≡ Some number) (map line_of ns)
    → All (λ n. trace_table pool n.port ≡ hop_of n) ns → All (λ n. trace_table after n.port ≡ hop_of n) ns
same_named number pool after same [] own leads = All-nil (λ m. trace_table after m.port ≡ hop_of m)
same_named number pool after same (n ∷ ns) own leads =
    let mine = All-head (λ l. holder_at pool.holdings l.port ≡ Some number) (line_of n) (map line_of ns) own in
    let here = All-head (λ m. trace_table pool m.port ≡ hop_of m) n ns leads in
    All-cons (λ m. trace_table after m.port ≡ hop_of m) n ns (ap (option_map (λ h. record { to = h.to; from = h.from })) (same.rows n.port (rw mine (own_holder number))) ∙ here)
    (same_named number pool after same ns (All-tail (λ l. holder_at pool.holdings l.port ≡ Some number) (line_of n) (map line_of ns) own)
    (All-tail (λ m. trace_table pool m.port ≡ hop_of m) n ns leads))

abbrev pub LeadsIf : Contents → Option Session → Type 0
LeadsIf pool session = IfSome session (λ x. LeadsSession (trace_table pool) (trace_session x))

same_leads : Owns → (ip : List ℕ) (number : ℕ) (pool after : Contents) (session : Option Session) → SameFor number pool after → StandsIfAny ip number pool session → LeadsIf pool session
    → LeadsIf after session
same_leads own ip number pool after None same stands leads = tt
same_leads own ip number pool after (Some s) same stands leads =
    let ns = pairs_of_session s in
    same_named number pool after same (ports_named s.offer_taken s.answer_sent s.offer_sent s.answer_taken)
    (own pool number s.offer_taken s.answer_sent s.offer_sent s.answer_taken (held_even pool number ns stands.held) (all_held pool number ns stands.held)) leads

-- the same rows
kept_leads : (pool after : Contents) (session : Option Session) → after.rows ≡ pool.rows → LeadsIf pool session → LeadsIf after session
kept_leads pool after session same leads = subst (λ (rows : Rows). IfSome session (λ x. LeadsSession (λ port. option_map (λ h. record { to = h.to; from = h.from }) (get rows port)) (trace_session x))) (sym same) leads

-- ---- another call's pool

pub asked_spared : Owns → (server : OwnRange) (m : CallMedia) (pool after : Contents) → Serves m pool → IsServedAsAsked server pool m → SameFor m.number pool after → IsServedAsAsked server after m
asked_spared own server m pool after serves asked same = record {
  range = asked.range;
  leads = same_leads own m.range.ip m.number pool after m.session same serves.session asked.leads;
  exact = λ none port mine. asked.exact none port (sym (same.ports port) ∙ mine);
}

-- ---- other calls

together : (number : ℕ) (a b c : Contents) → SparesOthers number a b → SparesOthers number b c → SparesOthers number a c
together number a b c first second call differ =
    let one = first call differ in
    let two = second call differ in
    record {
      ports = λ port. two.ports port ∙ one.ports port;
      rows = λ port own. two.rows port (one.ports port ∙ own) ∙ one.rows port own;
    }

not_mine : (number call : ℕ) → call ≢ number → (holder : Option ℕ) → is_call call holder ≡ true → is_call number holder ≡ false
not_mine number call differ holder own = rw (holder_of_own call holder own) (other_holder call number (λ e. differ (sym e)))

-- ---- a change of the call's own media

-- the media and the pool after it
pub record Goes (server : OwnRange) (m : CallMedia) (before : Contents) (new : CallMedia) (after : Contents) : Type 0 where
  pub pool : IsPool after
  pub serves : Serves new after
  pub asked : IsServedAsAsked server after new
  pub spares : SparesOthers m.number before after

module _ (own : Owns) (once : Once) (have : HaveRows) (server : OwnRange) (m : CallMedia) (pool : Contents) (is : IsPool pool) (serves : Serves m pool) (asked : IsServedAsAsked server pool m) where
  same_pool : SparesOthers m.number pool pool
  same_pool call differ = record { ports = λ port. refl; rows = λ port mine. refl }

  pub kept : Goes server m pool m pool
  kept = record { pool = is; serves = serves; asked = asked; spares = same_pool }

  -- ---- pairs that are left

  left_by : (others : Contents) (kept : List Pair) (now : ℕ) → Left m.number kept others (without_others others m.number kept now)
  left_by others kept now port = holder_of-others m.number kept now others.holdings (even_of port)

  left_exact : (others : Contents) (kept : List Pair) (now port : ℕ) → is_port_of (without_others others m.number kept now) m.number port ≡ true → is_among kept (even_of port) ≡ true
  left_exact others kept now port mine = step (holder_at others.holdings port) (is_among kept (even_of port)) (rw (left_by others kept now port) at mine) where
    by : (holder : Option ℕ) (own : Bool) → is_call m.number holder ≡ own → is_call m.number (cond (own && true) None holder) ≡ true → false ≡ true
    by holder true e h = h
    by holder false e h = sym e ∙ h

    step : (holder : Option ℕ) (d : Bool) → is_call m.number (cond (is_call m.number holder && not d) None holder) ≡ true → d ≡ true
    step holder true h = refl
    step holder false h = by holder (is_call m.number holder) refl h

  pub released : (now : ℕ) → Goes server m pool (without_offer m) (without_others pool m.number (pairs_listed m.session) now)
  released now =
      let after = without_others pool m.number (pairs_listed m.session) now in
      let left = left_by pool (pairs_listed m.session) now in
      record {
        pool = IsPool-others pool m.number (pairs_listed m.session) now is serves.bare;
        serves = serves_without_offer m pool after serves left refl;
        asked = record { range = asked.range; leads = asked.leads; exact = λ none port mine. left_exact pool (pairs_listed m.session) now port mine };
        spares = left_spares m.number (pairs_listed m.session) pool after left refl;
      }

  -- ---- none that is left

  pub over : (now : ℕ) → Goes server m pool (ended m) (without_call pool m.number now)
  over now =
      let after = without_call pool m.number now in
      let dropped = λ (port : ℕ). holder_of-dropped m.number now pool.holdings (even_of port) in
      record {
        pool = IsPool-without_call pool m.number now is;
        serves = serves_ended m pool after serves dropped;
        asked = record { range = asked.range; leads = tt; exact = λ none port mine. absurd (false≢true (sym (none_kept m.number pool after dropped port) ∙ mine)) };
        spares = spares_ended m.number pool after dropped (λ port. row-committed pool m.number [] port is);
      }

  -- ---- an offer that is passed on

  module _ (x : End) (offer : Description) (now : ℕ) (settled : m.offer ≡ None) (enough : HasPairs m pool x offer now) where
    abbrev fresh : List Pair
    fresh = lowest_free pool now (fresh_needed m x offer)

    count : length fresh ≡ fresh_needed m x offer
    count = length-take-le (fresh_needed m x offer) (free_pairs now pool.holdings) enough

    unheld : (port : ℕ) → is_among fresh (even_of port) ≡ true → holder_at pool.holdings port ≡ None
    unheld port among = given_unheld now (fresh_needed m x offer) min_port pool.holdings (even_of port) is.pairs among

    suits : Suit m pool (is_same x Caller) offer.media (seats_kept x m.session) fresh
    suits =
        suit m pool x (is_same x Caller) offer.media fresh serves (λ even call. held_leads min_port pool.holdings even call (omega arith) is.pairs) count unheld
        (leads_given now (fresh_needed m x offer) min_port pool.holdings (omega arith) is.pairs) (rising_given now (fresh_needed m x offer) min_port pool.holdings is.pairs)

    passed : IsPassedOn m.range.ip (opened m pool x offer now)
    passed =
        let seats = seats_offered m pool x offer now in
        let seated_each = each_seated (is_same x Caller) offer.media (seats_kept x m.session) fresh suits.do_for.enough in
        let from = origin m.number m.range.ip (other x) m.versions in
        let ports = map port_to_answerer seats in
        record {
          alike = readdressed_alike from ports offer (offer_ports_there offer.media seats seated_each) (offer_ports offer.media seats seated_each suits.do_for.ports) serves.server;
          at_server = readdressed_at_server from ports offer;
          told = readdressed_ports from ports offer;
          each_seated = seated_each;
          distinct = suits.do_for.distinct;
        }

    pub offered : Goes server m pool (with_offer m (opened m pool x offer now)) (with_pairs pool m.number fresh)
    offered =
        let after = with_pairs pool m.number fresh in
        let free = free_given now (fresh_needed m x offer) pool.holdings in
        let taken = λ (port : ℕ). holder_of-held now m.number fresh pool.holdings (even_of port) free in
        let o = opened m pool x offer now in
        record {
          pool = IsPool-with_pairs pool m.number fresh now is free;
          serves = record {
            server = serves.server;
            session = taken_stands m.range.ip m.number fresh pool after m.session taken refl serves.session;
            offer = record { offer = passed; held = imply (is_own_or_fresh m.number pool fresh) (is_held m.number after) (taken_fresh m.number fresh pool after taken) (pairs_of o.seats) suits.own };
            bare = taken_bare m.number fresh (pairs_listed m.session) pool after taken refl unheld is.held serves.bare;
          };
          asked = record { range = asked.range; leads = asked.leads; exact = λ none. absurd cc };
          spares = taken_spares m.number fresh pool after taken refl unheld;
        }

  -- ---- an answer that is passed on

  module _ (o : OpenOffer) (answer : Description) (now : ℕ) (there : m.offer ≡ Some o) (fits : answer_fault m.range o.offer_sent answer ≡ None) where
    abbrev sent : Description
    sent = answer_sent m o answer

    abbrev made : Session
    made = session_over o (answer_sent m o answer) answer

    abbrev lines : List RelayLine
    lines = session_lines o.offer_taken (answer_sent m o answer) o.offer_sent answer

    abbrev named : List ℕ
    named = pairs_named o.offer_taken (answer_sent m o answer) o.offer_sent answer

    abbrev rows : Contents
    rows = with_changes pool (changes_to m.number pool (session_over o (answer_sent m o answer) answer))

    abbrev left_pool : Contents
    left_pool = without_others rows m.number made.pairs now

    opening : IsOpen m.range.ip m.number pool o
    opening = open_offer m pool o serves there

    sends : Sent m.range.ip o (answer_sent m o answer) answer
    sends =
        let from = origin m.number m.range.ip o.offerer m.versions in
        let ports = map port_to_offerer o.seats in
        let leads = λ (even call : ℕ). held_leads min_port pool.holdings even call (omega arith) is.pairs in
        record {
          alike = readdressed_alike from ports answer (answer_ports_there m pool o answer opening fits) (answer_ports m pool o answer opening fits leads) serves.server;
          at_server = readdressed_at_server from ports answer;
          told = readdressed_ports from ports answer;
        }

    holds : are_held m.number pool named ≡ true
    holds = holds_named m pool o sent answer opening sends

    differ : are_distinct named ≡ true
    differ = differ_named m pool o sent answer opening sends

    even : list_all is_even named ≡ true
    even = held_even pool m.number named holds

    each_line : All (λ l. get rows.rows l.port ≡ l.hop) lines
    each_line =
        lines-committed pool m.number lines is (own pool m.number o.offer_taken sent o.offer_sent answer even (all_held pool m.number named holds)) (once o.offer_taken sent o.offer_sent answer even differ)

    listed_same : evens made.pairs ≡ pairs_of_session made
    listed_same = listed (pairs_of_session made)

    bare_rows : AreBareBut rows m.number made.pairs
    bare_rows port mine out =
        let nowhere : stands_in named (even_of port) ≡ false =
        ap (λ xs. stands_in xs (even_of port)) (sym listed_same) ∙ sym (among made.pairs (even_of port)) ∙ out in
        row-committed pool m.number lines port is ∙ rw mine (no_hop own o.offer_taken sent o.offer_sent answer port even nowhere)

    rows_spare : SparesOthers m.number pool rows
    rows_spare call differs = record {
      ports = λ port. refl;
      rows = λ port mine. row-committed pool m.number lines port is ∙ rw (not_mine m.number call differs (holder_at pool.holdings port) mine) refl;
    }

    pub answered : Goes server m pool (with_session m made) left_pool
    answered =
        let left = left_by rows made.pairs now in
        record {
          pool = IsPool-others rows m.number made.pairs now (IsPool-committed pool m.number lines is) bare_rows;
          serves = record {
            server = serves.server;
            session = record {
              held = left_all_held m.number made.pairs (pairs_of_session made) rows left_pool left listed_same holds;
              distinct = differ;
              listed = listed_same;
              media = (as_many m.range o.offer_sent answer fits).0;
              offers = opening.offer.alike;
              answers = sends.alike;
              offer_sent = opening.offer.at_server;
              answer_sent = sends.at_server;
              rows = have rows.rows o.offer_taken sent o.offer_sent answer each_line;
            };
            offer = tt;
            bare = left_bare m.number made.pairs rows left_pool left refl bare_rows;
          };
          asked = record { range = asked.range; leads = line_leads left_pool (ports_named o.offer_taken sent o.offer_sent answer) each_line; exact = λ none port mine. left_exact rows made.pairs now port mine };
          spares = together m.number pool rows left_pool rows_spare (left_spares m.number made.pairs rows left_pool left refl);
        }
