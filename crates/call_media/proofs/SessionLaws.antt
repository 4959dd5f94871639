-- That the media of a call are served after an answer was passed on, and after the call ended.
use Rattle.std.proofs.Common.{◌≡◌, ◌≢◌, ◌∙◌, ℕ, Bool, true, false, cond, Option, Some, None, refl, sym, ap}
use Rattle.std.specs.FinMap.{get}
use Rattle.port_pool.specs.Holdings.{even_of, holder_at, is_call}
use Rattle.port_pool.specs.Pool.{AreBareBut, Contents, is_port_of, with_changes}
use Rattle.call_media.specs.declared.session.OpenOffer.{OpenOffer}
use Rattle.call_media.specs.declared.state.CallMedia.{CallMedia}
use Rattle.call_media.specs.declared.answer_plan.PlannedAnswer.{PlannedAnswer}
use Rattle.call_media.specs.Answers.{IsFit, session_planned, with_session}
use Rattle.call_media.specs.Offers.{ended}
use Rattle.call_media.specs.Seats.{evens, stands_in}
use Rattle.call_media.specs.Sessions.{pairs_of_session}
use Rattle.call_media.specs.Serving.{Serves, SparesOthers}
use Rattle.call_media.proofs.HeldLaws.{among, holder_of_own, other_holder}
use Rattle.call_media.proofs.AnswerLaws.{held_even, listed, no_hop}
use Rattle.call_media.proofs.SpareLaws.{Left, left_all_held, left_bare, left_spares}
use Rattle.call_media.proofs.ServeLaws.{Owns, open_offer}

-- ---- the rows of the session that an answer makes

abbrev with_rows : Contents → PlannedAnswer → Contents
with_rows pool p = with_changes pool p.rows.changes.items

pairs_of_plan : (m : CallMedia) (pool : Contents) (o : OpenOffer) (p : PlannedAnswer) → IsFit m pool o p → evens p.rows.pairs ≡ pairs_of_session (session_planned o p)
pairs_of_plan m pool o p fit = ap evens fit.rows.pairs ∙ listed (pairs_of_session (session_planned o p))

-- the call has rows at the pairs of the session alone
pub bare_with_rows : Owns → (m : CallMedia) (pool : Contents) (o : OpenOffer) (p : PlannedAnswer) → IsFit m pool o p → AreBareBut (with_rows pool p) m.number p.rows.pairs
bare_with_rows own m pool o p fit port mine out =
    let ns = pairs_of_session (session_planned o p) in
    let nowhere : stands_in ns (even_of port) ≡ false =
    ap (λ xs. stands_in xs (even_of port)) (sym (pairs_of_plan m pool o p fit)) ∙ sym (among p.rows.pairs (even_of port)) ∙ out in
    fit.rows.ports port ∙ rw mine (no_hop own o.offer_taken p.sent o.offer_sent p.taken port (held_even pool m.number ns fit.held) nowhere)

pub serves_with_session : Owns → (m : CallMedia) (pool after : Contents) (o : OpenOffer) (p : PlannedAnswer) → Serves m pool → m.offer ≡ Some o → IsFit m pool o p
    → Left m.number p.rows.pairs (with_rows pool p) after → after.rows ≡ (with_rows pool p).rows → Serves (with_session m (session_planned o p)) after
serves_with_session own m pool after o p serves is fit left same =
    let passed = (open_offer m pool o serves is).offer in
    let even = pairs_of_plan m pool o p fit in
    record {
      server = serves.server;
      session = record {
        held = left_all_held m.number p.rows.pairs (pairs_of_session (session_planned o p)) (with_rows pool p) after left even fit.held;
        distinct = fit.distinct;
        listed = even;
        media = fit.media;
        offers = passed.alike;
        answers = fit.alike;
        offer_sent = passed.at_server;
        answer_sent = fit.at_server;
        rows = rw same fit.rows.rows;
      };
      offer = tt;
      bare = left_bare m.number p.rows.pairs (with_rows pool p) after left same (bare_with_rows own m pool o p fit);
    }

-- ---- other calls

together : (number : ℕ) (a b c : Contents) → SparesOthers number a b → SparesOthers number b c → SparesOthers number a c
together number a b c first second call differ =
    let one = first call differ in
    let two = second call differ in
    record {
      ports = λ port. two.ports port ∙ one.ports port;
      rows = λ port own. two.rows port (one.ports port ∙ own) ∙ one.rows port own;
    }

not_mine : (number call : ℕ) → call ≢ number → (holder : Option ℕ) → is_call call holder ≡ true → is_call number holder ≡ false
not_mine number call differ holder own = rw (holder_of_own call holder own) (other_holder call number (λ e. differ (sym e)))

rows_spare : (m : CallMedia) (pool : Contents) (o : OpenOffer) (p : PlannedAnswer) → IsFit m pool o p → SparesOthers m.number pool (with_rows pool p)
rows_spare m pool o p fit call differ = record {
  ports = λ port. refl;
  rows = λ port own. fit.rows.ports port ∙ rw (not_mine m.number call differ (holder_at pool.holdings port) own) refl;
}

pub spares_with_session : (m : CallMedia) (pool after : Contents) (o : OpenOffer) (p : PlannedAnswer) → IsFit m pool o p → Left m.number p.rows.pairs (with_rows pool p) after
    → after.rows ≡ (with_rows pool p).rows → SparesOthers m.number pool after
spares_with_session m pool after o p fit left same =
    together m.number pool (with_rows pool p) after (rows_spare m pool o p fit) (left_spares m.number p.rows.pairs (with_rows pool p) after left same)

-- ---- a call that ended

abbrev pub Dropped : ℕ → Contents → Contents → Type 0
Dropped number pool after = (port : ℕ) → holder_at after.holdings port ≡ cond (is_port_of pool number port) None (holder_at pool.holdings port)

pub none_kept : (number : ℕ) (pool after : Contents) → Dropped number pool after → (port : ℕ) → is_port_of after number port ≡ false
none_kept number pool after dropped port = rw (dropped port) (step (is_port_of pool number port) refl) where
  step : (b : Bool) → is_port_of pool number port ≡ b → is_call number (cond b None (holder_at pool.holdings port)) ≡ false
  step true e = refl
  step false e = e

pub serves_ended : (m : CallMedia) (pool after : Contents) → Serves m pool → Dropped m.number pool after → Serves (ended m) after
serves_ended m pool after serves dropped = record {
  server = serves.server;
  session = tt;
  offer = tt;
  bare = λ port own out. absurd (cc (sym (none_kept m.number pool after dropped port) ∙ own));
}

pub spares_ended : (number : ℕ) (pool after : Contents) → Dropped number pool after → ((port : ℕ) → get after.rows port ≡ cond (is_port_of pool number port) None (get pool.rows port))
    → SparesOthers number pool after
spares_ended number pool after dropped rows call differ = record {
  ports = λ port. rw (dropped port) (step port (is_port_of pool number port) refl);
  rows = λ port own. rows port ∙ rw (not_mine number call differ (holder_at pool.holdings port) own) refl;
} where
  step : (port : ℕ) (b : Bool) → is_port_of pool number port ≡ b → is_call call (cond b None (holder_at pool.holdings port)) ≡ is_call call (holder_at pool.holdings port)
  step port true e = sym (rw (holder_of_own number (holder_at pool.holdings port) e) (other_holder number call differ))
  step port false e = refl
