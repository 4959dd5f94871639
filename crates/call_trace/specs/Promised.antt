-- The whole promise, of a trace, the relay table, the holders of its ports and the calls that are listed; and what
-- gives it.
use Rattle.std.specs.Prelude.{◌≡◌, ℕ, not, List, Option}
use Rattle.sip_uri.specs.declared.uri.Addr.{Addr}
use Rattle.call_trace.specs.declared.datagram.Datagram.{Datagram}
use Rattle.call_trace.specs.declared.datagram.Dialog.{Dialog}
use Rattle.call_trace.specs.declared.call.Settled.{Settled}
use Rattle.call_trace.specs.declared.call.Stage.TheVariants.{Answered}
use Rattle.call_trace.specs.declared.call.Call.{Call}
use Rattle.call_trace.specs.Promise.{IsReaddressed, IsRelayed, Meets, MediaPromise, EachMeets}
use Rattle.call_trace.specs.Serving.{Hop, places_of, TablePromise, PortsPromise, HoldersPromise, IsTableOf, AreHeld}
use Rattle.call_trace.specs.Lives.{LivesExactly}
use Rattle.call_trace.specs.Listed.{AllOf}
use Rattle.call_trace.specs.Stands.{leg}

-- The calls meet the media promise, and each of them also while an offer is open; the table is the union of their rows;
-- no port serves two of them, and each that is held is held by a listed one; and those listed are exactly the live
-- ones.
pub record Promised (methods : List (List ℕ)) (server : List ℕ) (table : ℕ → Option Hop) (holder : ℕ → Option Dialog) (calls : List Call) (t : List Datagram) : Type 0 where
  pub media : MediaPromise methods server (places_of table) t
  pub each : EachMeets methods server (places_of table) t
  pub rows : TablePromise methods table t
  pub ports : PortsPromise methods holder t
  pub holders : HoldersPromise holder calls
  pub lives : LivesExactly methods calls t

-- ---- what gives it

-- the sessions of the answered calls are relayed: what each end was sent matches what the other said, and the table
-- has their rows
abbrev pub AreRelayed : List ℕ → (ℕ → Option Addr) → List Call → Type 0
AreRelayed server table calls = AllOf (λ c. (z : Settled) → c.stage ≡ Answered z → IsRelayed server table z.session) calls

-- in each answered call what each end was sent matches what the other said, with places at the server
abbrev pub AreReaddressed : List ℕ → List Call → Type 0
AreReaddressed server calls = AllOf (λ c. (z : Settled) → c.stage ≡ Answered z → IsReaddressed server z.session) calls

-- what a server owes for it besides the moves: what it sent each end, the table as the sessions ask, and who holds
-- their pairs
pub record AreServed (server : List ℕ) (table : ℕ → Option Hop) (holder : ℕ → Option Dialog) (calls : List Call) : Type 0 where
  pub told : AreReaddressed server calls
  pub rows : IsTableOf table calls
  pub held : AreHeld holder calls

-- each answered call meets what is promised, whether or not an offer is open in it
abbrev pub AllMeet : List (List ℕ) → List ℕ → (ℕ → Option Addr) → List Datagram → List Call → Type 0
AllMeet methods server table t calls = AllOf (λ c. (z : Settled) → c.stage ≡ Answered z → Meets methods server table t (leg c z.by_caller) (leg c (not z.by_caller))) calls
