-- The promise about the relay table and its ports, of a trace: the table is the union of the live calls' rows, and no
-- port serves two calls.
use Rattle.std.specs.Prelude.{◌≡◌, ℕ, List, All, Option, Some, option_map, ◌⊎◌}
use Rattle.sip_uri.specs.declared.uri.Addr.{Addr}
use Rattle.offer_answer.specs.Rows.{Named, Row, ports_named, rows_of, pairs_named}
use Rattle.call_trace.specs.declared.datagram.Datagram.{Datagram}
use Rattle.call_trace.specs.declared.datagram.Dialog.{Dialog}
use Rattle.call_trace.specs.declared.call.Session.{Session}
use Rattle.call_trace.specs.declared.call.Settled.{Settled}
use Rattle.call_trace.specs.declared.call.Stage.TheVariants.{Answered}
use Rattle.call_trace.specs.declared.call.Call.{Call}
use Rattle.call_trace.specs.Exchanges.{Exchange}
use Rattle.call_trace.specs.Calls.{CallFrom, Live}
use Rattle.call_trace.specs.Promise.{AreLast, AreSaid}
use Rattle.call_trace.specs.Listed.{AllOf, AnyOf}

-- where what comes in at a port goes, and the port from which it is sent on
pub record Hop : Type 0 where
  pub to : Addr
  pub from : ℕ

-- where the table leads
abbrev pub places_of : (ℕ → Option Hop) → ℕ → Option Addr
places_of table port = option_map (λ h. h.to) (table port)

-- ---- sessions

-- the row is one of the session: of a port for media or of the port above it, with the port from which it is sent
abbrev pub IsRowOf : Row → Session → Type 0
IsRowOf r s = AnyOf (λ q. q ≡ r) (rows_of s.offer_taken s.answer_sent s.offer_sent s.answer_taken)

-- the port is the even one of a pair that the session names
abbrev pub IsPairOf : ℕ → Session → Type 0
IsPairOf port s = AnyOf (λ q. q ≡ port) (pairs_named s.offer_taken s.answer_sent s.offer_sent s.answer_taken)

-- this was said last in the two dialogs, the first of which offered
abbrev pub LastSaid : List (List ℕ) → List Datagram → Dialog → Dialog → Session → Type 0
LastSaid methods t dx dy s = (x : Exchange) × (y : Exchange) × AreLast methods t dx dy x y × AreSaid x y s

-- and whichever of the two offered
abbrev pub LastBetween : List (List ℕ) → List Datagram → Dialog → Dialog → Session → Type 0
LastBetween methods t dx dy s = LastSaid methods t dx dy s ⊎ LastSaid methods t dy dx s

-- the two dialogs are a live call, the caller's and the callee's, and this was said last in it, whether or not an offer
-- is open
pub record IsLiveSession (methods : List (List ℕ)) (t : List Datagram) (caller callee : Dialog) (s : Session) : Type 0 where
  pub call : CallFrom methods t caller callee
  pub caller_lives : Live t caller
  pub callee_lives : Live t callee
  pub said : LastBetween methods t caller callee s

-- ---- the promise

abbrev pub IsLiveRow : List (List ℕ) → List Datagram → Row → Type 0
IsLiveRow methods t r = (caller : Dialog) × (callee : Dialog) × (s : Session) × IsLiveSession methods t caller callee s × IsRowOf r s

-- the table has each row of a live call, and no row outlives its call
pub record TablePromise (methods : List (List ℕ)) (table : ℕ → Option Hop) (t : List Datagram) : Type 0 where
  pub had : (port : ℕ) (hop : Hop) → table port ≡ Some hop → IsLiveRow methods t (record { port = port; to = hop.to; from = hop.from })
  pub all : (r : Row) → IsLiveRow methods t r → table r.port ≡ Some (record { to = r.to; from = r.from })

-- Each pair of a live call is held by it, by the name of its caller's dialog; so no port serves two calls.
pub record PortsPromise (methods : List (List ℕ)) (holder : ℕ → Option Dialog) (t : List Datagram) : Type 0 where
  pub held : (caller callee : Dialog) (s : Session) (port : ℕ) → IsLiveSession methods t caller callee s → IsPairOf port s → holder port ≡ Some caller
  pub one_call : (a b c d : Dialog) (s r : Session) (port : ℕ) → IsLiveSession methods t a b s → IsLiveSession methods t c d r → IsPairOf port s → IsPairOf port r → (a ≡ c) × (b ≡ d)

-- A port is held by a listed call alone, by the name of its caller's dialog; so no port is kept for a call that is
-- gone.
abbrev pub HoldersPromise : (ℕ → Option Dialog) → List Call → Type 0
HoldersPromise holder calls = (port : ℕ) (d : Dialog) → holder port ≡ Some d → AnyOf (λ c. c.caller ≡ d) calls

-- ---- what gives it

-- where a port is asked to lead, from the port that is asked; or nowhere
abbrev pub hop_of : Named → Option Hop
hop_of n = option_map (λ a. record { to = a; from = n.from }) n.to

-- the table leads each port that the session names as the session asks
abbrev pub LeadsSession : (ℕ → Option Hop) → Session → Type 0
LeadsSession table s = All (λ n. table n.port ≡ hop_of n) (ports_named s.offer_taken s.answer_sent s.offer_sent s.answer_taken)

-- the table leads the ports of the answered calls' sessions as they ask, and each of its rows is a row of theirs
pub record IsTableOf (table : ℕ → Option Hop) (calls : List Call) : Type 0 where
  pub had : (port : ℕ) (hop : Hop) → table port ≡ Some hop → AnyOf (λ c. (z : Settled) × (c.stage ≡ Answered z) × IsRowOf (record { port = port; to = hop.to; from = hop.from }) z.session) calls
  pub leads : AllOf (λ c. (z : Settled) → c.stage ≡ Answered z → LeadsSession table z.session) calls

-- each pair that an answered call's session names is held by the call, and no port by what is no call
pub record AreHeld (holder : ℕ → Option Dialog) (calls : List Call) : Type 0 where
  pub pairs : AllOf (λ c. (z : Settled) → c.stage ≡ Answered z → (port : ℕ) → IsPairOf port z.session → holder port ≡ Some c.caller) calls
  pub holders : HoldersPromise holder calls
