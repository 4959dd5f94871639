-- The media promise, of a trace and a relay table.
use Rattle.std.specs.Prelude.{◌≡◌, ℕ, List, length, Option, Some, ◌⊎◌, IsTrue}
use Rattle.sip_uri.specs.declared.uri.Addr.{Addr}
use Rattle.offer_answer.specs.Alike.{Alike}
use Rattle.offer_answer.specs.Direct.{direct}
use Rattle.offer_answer.specs.Joined.{is_at_server, joined}
use Rattle.offer_answer.specs.Rows.{HasRows}
use Rattle.call_trace.specs.declared.datagram.Datagram.{Datagram}
use Rattle.call_trace.specs.declared.datagram.Dialog.{Dialog}
use Rattle.call_trace.specs.declared.call.Session.{Session}
use Rattle.call_trace.specs.Exchanges.{Exchange, IsLast}
use Rattle.call_trace.specs.Passing.{IsPassedOn, PassedTogether}
use Rattle.call_trace.specs.Calls.{CallOf, Live, Open}

-- one of the last exchanges of dx was passed on as one of the last of dy, and no other two of these were passed
-- together
pub record AreLast (methods : List (List ℕ)) (t : List Datagram) (dx dy : Dialog) (x y : Exchange) : Type 0 where
  pub last_x : IsLast methods t dx x
  pub last_y : IsLast methods t dy y
  pub passed_on : IsPassedOn x y
  pub alone : (e f : Exchange) → IsLast methods t dx e → IsLast methods t dy f → PassedTogether e f → (e ≡ x) × (f ≡ y)

-- what was said in the two exchanges
pub record AreSaid (x y : Exchange) (s : Session) : Type 0 where
  pub offer_taken : x.asked.message.description ≡ Some s.offer_taken
  pub answer_sent : x.answered.message.description ≡ Some s.answer_sent
  pub offer_sent : y.asked.message.description ≡ Some s.offer_sent
  pub answer_taken : y.answered.message.description ≡ Some s.answer_taken

-- Joined by the table, the two legs mean what the offer of the one end and the answer of the other mean directly; and
-- each end was asked what the other offered, and sent what the other answered; the answer has as many media as the
-- offer (RFC 3264 sections 5 to 8).
pub record IsDirect (server : List ℕ) (table : ℕ → Option Addr) (s : Session) : Type 0 where
  pub joined : joined server table s.offer_taken s.answer_sent s.offer_sent s.answer_taken ≡ direct s.offer_taken s.answer_taken
  pub offers : Alike s.offer_taken s.offer_sent
  pub answers : Alike s.answer_taken s.answer_sent
  pub media : length s.answer_taken.media ≡ length s.offer_taken.media

-- the promise for two dialogs, of which the first is the last offerer's
abbrev pub Meets : List (List ℕ) → List ℕ → (ℕ → Option Addr) → List Datagram → Dialog → Dialog → Type 0
Meets methods server table t dx dy = (x : Exchange) × (y : Exchange) × (s : Session) × AreLast methods t dx dy x y × AreSaid x y s × IsDirect server table s

-- For every call whose two dialogs are live and in which no offer is open.
abbrev pub MediaPromise : List (List ℕ) → List ℕ → (ℕ → Option Addr) → List Datagram → Type 0
MediaPromise methods server table t =
    (dx dy : Dialog) → CallOf methods t dx dy → Live t dx → Live t dy → ¬ Open methods t dx → ¬ Open methods t dy
    → Meets methods server table t dx dy ⊎ Meets methods server table t dy dx

-- and for every call whose two dialogs are live, also while an offer is open
abbrev pub EachMeets : List (List ℕ) → List ℕ → (ℕ → Option Addr) → List Datagram → Type 0
EachMeets methods server table t =
    (dx dy : Dialog) → CallOf methods t dx dy → Live t dx → Live t dy → Meets methods server table t dx dy ⊎ Meets methods server table t dy dx

-- ---- what gives it

-- what each end was sent matches what the other said, with places at the server, and the answer has as many media as
-- the offer that its end got (RFC 3264 section 6)
pub record IsReaddressed (server : List ℕ) (s : Session) : Type 0 where
  pub offers : Alike s.offer_taken s.offer_sent
  pub answers : Alike s.answer_taken s.answer_sent
  pub answer_place : IsTrue (is_at_server server s.answer_sent)
  pub offer_place : IsTrue (is_at_server server s.offer_sent)
  pub media : length s.answer_taken.media ≡ length s.offer_sent.media

-- and the table has the session's rows
pub record IsRelayed (server : List ℕ) (table : ℕ → Option Addr) (s : Session) : Type 0 where
  pub told : IsReaddressed server s
  pub rows : HasRows table s.offer_taken s.answer_sent s.offer_sent s.answer_taken

-- the last exchanges of two dialogs are a session that the table relays
abbrev pub Relays : List (List ℕ) → List ℕ → (ℕ → Option Addr) → List Datagram → Dialog → Dialog → Type 0
Relays methods server table t dx dy = (x : Exchange) × (y : Exchange) × (s : Session) × AreLast methods t dx dy x y × AreSaid x y s × IsRelayed server table s

-- of every call whose two dialogs are live and in which no offer is open
abbrev pub AllRelayed : List (List ℕ) → List ℕ → (ℕ → Option Addr) → List Datagram → Type 0
AllRelayed methods server table t =
    (dx dy : Dialog) → CallOf methods t dx dy → Live t dx → Live t dy → ¬ Open methods t dx → ¬ Open methods t dy
    → Relays methods server table t dx dy ⊎ Relays methods server table t dy dx
