-- What gives the media promise.
use Rattle.std.proofs.Common.{◌≡◌, ◌∙◌, ℕ, List, length, Option, inl, inr, sym, ap}
use Rattle.std.specs.Prelude.{IsTrue}
use Rattle.std.proofs.lemmas.List.{length-map}
use Rattle.sip_uri.specs.declared.uri.Addr.{Addr}
use Rattle.sdp.specs.declared.description.Description.{Description}
use Rattle.offer_answer.specs.Alike.{Alike, Bare, bare_media}
use Rattle.offer_answer.specs.Direct.{direct}
use Rattle.offer_answer.specs.Joined.{is_at_server, joined}
use Rattle.offer_answer.specs.Rows.{HasRows}
use Rattle.call_trace.specs.declared.datagram.Datagram.{Datagram}
use Rattle.call_trace.specs.declared.datagram.Dialog.{Dialog}
use Rattle.call_trace.specs.declared.call.Session.{Session}
use Rattle.call_trace.specs.Promise.{IsRelayed, Meets, Relays, MediaPromise, AllRelayed}

-- the law of offer_answer
abbrev pub JoinedIsDirect : Type 0
JoinedIsDirect =
    (server : List ℕ) (table : ℕ → Option Addr) (OX SX OY SY : Description) → Alike OX OY → Alike SY SX → IsTrue (is_at_server server SX) → IsTrue (is_at_server server OY)
    → HasRows table OX SX OY SY → joined server table OX SX OY SY ≡ direct OX SY

-- as many media
as_many : (a b : Description) → Alike a b → length a.media ≡ length b.media
as_many a b same = sym (length-map a.media bare_media) ∙ ap (λ (x : Bare). length x.media) same ∙ length-map b.media bare_media

pub relayed_meets : JoinedIsDirect → (methods : List (List ℕ)) (server : List ℕ) (table : ℕ → Option Addr) (t : List Datagram) (dx dy : Dialog)
    → Relays methods server table t dx dy → Meets methods server table t dx dy
relayed_meets law methods server table t dx dy r =
    let s : Session = r.2 in let relayed : IsRelayed server table s = r.5 in (
      r.0,
      r.1,
      s,
      r.3,
      r.4,
      record {
        joined = law server table s.offer_taken s.answer_sent s.offer_sent s.answer_taken relayed.told.offers relayed.told.answers relayed.told.answer_place relayed.told.offer_place relayed.rows;
        offers = relayed.told.offers;
        answers = relayed.told.answers;
        media = relayed.told.media ∙ sym (as_many s.offer_taken s.offer_sent relayed.told.offers);
      },
    )

pub promised : JoinedIsDirect → (methods : List (List ℕ)) (server : List ℕ) (table : ℕ → Option Addr) (t : List Datagram) → AllRelayed methods server table t → MediaPromise methods server table t
promised law methods server table t all dx dy call live_x live_y closed_x closed_y =
    elim (all dx dy call live_x live_y closed_x closed_y) [
      | inl r ↦ inl (relayed_meets law methods server table t dx dy r)
      | inr r ↦ inr (relayed_meets law methods server table t dy dx r)
    ]
