-- The relay table is the union of the live calls' rows, and no port serves two calls.
use Rattle.std.proofs.Common.{◌≡◌, ℕ, List, [], ◌∷◌, Bool, true, false, not, Option, Some, None, inl, inr, refl, sym, ◌∙◌, ap, subst}
use Rattle.std.specs.Prelude.{slice_get, option_map, All}
use Rattle.std.specs.List.{filter_map}
use Rattle.std.proofs.lemmas.List.Elements.{All-weaker, All-head, All-tail}
use Rattle.sip_uri.specs.declared.uri.Addr.{Addr}
use Rattle.sdp.specs.declared.description.Description.{Description}
use Rattle.offer_answer.specs.Rows.{Named, Row, ports_named, row_to, HasRows}
use Rattle.call_trace.specs.declared.datagram.Direction.TheVariants.{Taken, Sent}
use Rattle.call_trace.specs.declared.datagram.Datagram.{Datagram}
use Rattle.call_trace.specs.declared.datagram.Dialog.{Dialog}
use Rattle.call_trace.specs.declared.call.Session.{Session}
use Rattle.call_trace.specs.declared.call.Settled.{Settled}
use Rattle.call_trace.specs.declared.call.Stage.TheVariants.{Answered}
use Rattle.call_trace.specs.declared.call.Call.{Call}
use Rattle.call_trace.specs.Exchanges.{Exchange}
use Rattle.call_trace.specs.Calls.{CallOf, CallFrom, Live}
use Rattle.call_trace.specs.Listed.{AllOf, AnyOf}
use Rattle.call_trace.specs.Promise.{AreSaid}
use Rattle.call_trace.specs.Promised.{AreReaddressed, AreRelayed}
use Rattle.call_trace.specs.Serving.{Hop, places_of, IsRowOf, IsPairOf, LastSaid, LastBetween, IsLiveSession, TablePromise, PortsPromise, hop_of, LeadsSession, IsTableOf, AreHeld}
use Rattle.call_trace.specs.Stands.{leg}
use Rattle.call_trace.specs.Lives.{Stands, IsOneCall, IsAnsweredCall, LivesExactly}
use Rattle.call_trace.proofs.Growing.{call_of_called}
use Rattle.call_trace.proofs.Members.{all_at, any_at}
use Rattle.call_trace.proofs.Standing.{call_last, listed_call, lives_exactly}

-- ---- one session

abbrev session_by : Description → Description → Description → Description → Session
session_by a b c d = record { offer_taken = a; answer_sent = b; offer_sent = c; answer_taken = d }

said_same : (x y : Exchange) (s r : Session) → AreSaid x y s → AreSaid x y r → s ≡ r
said_same x y s r h k =
    let a' : Some s.offer_taken ≡ Some r.offer_taken = sym h.offer_taken ∙ k.offer_taken in
    let b' : Some s.answer_sent ≡ Some r.answer_sent = sym h.answer_sent ∙ k.answer_sent in
    let c' : Some s.offer_sent ≡ Some r.offer_sent = sym h.offer_sent ∙ k.offer_sent in
    let d' : Some s.answer_taken ≡ Some r.answer_taken = sym h.answer_taken ∙ k.answer_taken in
    let a : s.offer_taken ≡ r.offer_taken = cc in
    let b : s.answer_sent ≡ r.answer_sent = cc in
    let c : s.offer_sent ≡ r.offer_sent = cc in
    let d : s.answer_taken ≡ r.answer_taken = cc in
    let q : session_by s.offer_taken s.answer_sent s.offer_sent s.answer_taken ≡ session_by r.offer_taken r.answer_sent r.offer_sent r.answer_taken = cc in q

last_same : (methods : List (List ℕ)) (t : List Datagram) (dx dy : Dialog) (s r : Session) → LastSaid methods t dx dy s → LastSaid methods t dx dy r → s ≡ r
last_same methods t dx dy s r h k =
    let is = h.2.alone k.0 k.1 k.2.last_x k.2.last_y (inl k.2.passed_on) in
    let P : Exchange → Type 0 = λ v. AreSaid v k.1 r in
    let Q : Exchange → Type 0 = λ v. AreSaid h.0 v r in
    said_same h.0 h.1 s r h.3 (subst Q is.1 (subst P is.0 k.3))

-- the last exchanges were passed on one way alone
one_way : (methods : List (List ℕ)) (t : List Datagram) (dx dy : Dialog) (s r : Session) → LastSaid methods t dx dy s → LastSaid methods t dy dx r → ⊥
one_way methods t dx dy s r h k =
    let is = h.2.alone k.1 k.0 k.2.last_y k.2.last_x (inr k.2.passed_on) in
    let a : h.0.asked.direction ≡ Taken = h.2.passed_on.offer.taken in
    let b : k.1.asked.direction ≡ Sent = k.2.passed_on.offer.sent in
    let c : k.1.asked.direction ≡ h.0.asked.direction = ap (λ (v : Exchange). v.asked.direction) is.0 in
    cc

between_same : (methods : List (List ℕ)) (t : List Datagram) (dx dy : Dialog) (s r : Session) → LastBetween methods t dx dy s → LastBetween methods t dx dy r → s ≡ r
between_same methods t dx dy s r h k =
    elim h [
      | inl a ↦ elim k [ inl b ↦ last_same methods t dx dy s r a b | inr b ↦ absurd (one_way methods t dx dy s r a b) ]
      | inr a ↦ elim k [ inl b ↦ absurd (one_way methods t dx dy r s b a) | inr b ↦ last_same methods t dy dx s r a b ]
    ]

between : (methods : List (List ℕ)) (t : List Datagram) (c : Call) (b : Bool) (s : Session) → LastSaid methods t (leg c b) (leg c (not b)) s → LastBetween methods t c.caller c.callee s
between methods t c true s h = inl h
between methods t c false s h = inr h

-- ---- live calls and listed ones

-- the session of a listed call is that of a live call
listed_session : (methods : List (List ℕ)) (calls : List Call) (n : ℕ) (t : List Datagram) (k : ℕ) (c : Call) (z : Settled) → Stands methods calls n t → slice_get calls k ≡ Some c → c.stage ≡ Answered z → IsLiveSession methods t c.caller c.callee z.session
listed_session methods calls n t k c z h at stage =
    let l : LivesExactly methods calls t = lives_exactly methods calls n t h in
    let a = all_at (λ d. (r : Settled) → d.stage ≡ Answered r → CallFrom methods t d.caller d.callee × Live t d.caller × Live t d.callee) calls k c l.answered at z stage in
    record { call = a.0; caller_lives = a.1; callee_lives = a.2; said = between methods t c z.by_caller z.session (call_last methods calls n t k c z h.sessions at stage) }

-- and the other way round
live_session : (methods : List (List ℕ)) (calls : List Call) (n : ℕ) (t : List Datagram) (caller callee : Dialog) (s : Session) → Stands methods calls n t → IsLiveSession methods t caller callee s
    → (k : ℕ) × (c : Call) × (z : Settled) × (slice_get calls k ≡ Some c) × (c.stage ≡ Answered z) × (s ≡ z.session) × (c.caller ≡ caller)
live_session methods calls n t caller callee s h live =
    let l = listed_call methods calls n t caller callee h live.call live.caller_lives live.callee_lives in
    let c : Call = l.1 in
    let is : IsAnsweredCall caller callee c = l.3 in
    let z : Settled = is.answered.0 in
    let mine : LastBetween methods t c.caller c.callee z.session = between methods t c z.by_caller z.session (call_last methods calls n t l.0 c z h.sessions l.2 is.answered.1) in
    let P : Dialog → Type 0 = λ v. LastBetween methods t v c.callee z.session in
    let Q : Dialog → Type 0 = λ v. LastBetween methods t caller v z.session in
    (l.0, c, z, l.2, is.answered.1, between_same methods t caller callee s z.session live.said (subst Q is.callee (subst P is.caller mine)), is.caller)

-- ---- a session that the table leads

place_led : (table : ℕ → Option Hop) (n : Named) → table n.port ≡ hop_of n → places_of table n.port ≡ n.to
place_led table n e = ap (λ (o : Option Hop). option_map (λ h. h.to) o) e ∙ back n.to where
  back : (o : Option Addr) → option_map (λ (h : Hop). h.to) (option_map (λ (a : Addr). record { to = a; from = n.from }) o) ≡ o
  back None = refl
  back (Some a) = refl

rows_led : (table : ℕ → Option Hop) (s : Session) → LeadsSession table s → HasRows (places_of table) s.offer_taken s.answer_sent s.offer_sent s.answer_taken
rows_led table s leads = All-weaker (λ n. table n.port ≡ hop_of n) (λ n. places_of table n.port ≡ n.to) (place_led table) (ports_named s.offer_taken s.answer_sent s.offer_sent s.answer_taken) leads

-- what a server owes has the rows of each session
pub served_relayed : (server : List ℕ) (table : ℕ → Option Hop) (calls : List Call) → AreReaddressed server calls → IsTableOf table calls → AreRelayed server (places_of table) calls
served_relayed server table calls told rows = both calls told rows.leads where
  both : (cs : List Call) → AreReaddressed server cs → AllOf (λ c. (z : Settled) → c.stage ≡ Answered z → LeadsSession table z.session) cs → AreRelayed server (places_of table) cs
  both [] a b = tt
  both (c ∷ cs) a b = (λ z stage. record { told = a.0 z stage; rows = rows_led table z.session (b.0 z stage) }, both cs a.1 b.1)

abbrev rows_at : List Named → List Row
rows_at ns = filter_map (λ n. row_to n.port n.to n.from) ns

row_led : (table : ℕ → Option Hop) (ns : List Named) (r : Row) → All (λ n. table n.port ≡ hop_of n) ns → AnyOf (λ q. q ≡ r) (rows_at ns) → table r.port ≡ Some (record { to = r.to; from = r.from })
row_led table [] r all any = absurd any
row_led table (n ∷ ns) r all any =
    step n.to (All-head (λ m. table m.port ≡ hop_of m) n ns all) (row_led table ns r (All-tail (λ m. table m.port ≡ hop_of m) n ns all)) any where
      step : (to : Option Addr) → table n.port ≡ option_map (λ (a : Addr). record { to = a; from = n.from }) to → (AnyOf (λ q. q ≡ r) (rows_at ns) → table r.port ≡ Some (record { to = r.to; from = r.from }))
          → AnyOf (λ q. q ≡ r) (rows_at (record { port = n.port; to = to; from = n.from } ∷ ns)) → table r.port ≡ Some (record { to = r.to; from = r.from })
      step None e more here = more here
      step (Some a) e more here = elim here [
        | inl same ↦ subst (λ (q : Row). table q.port ≡ Some (record { to = q.to; from = q.from })) same e
        | inr rest ↦ more rest
      ]

-- ---- the promise

pub table_promised : (methods : List (List ℕ)) (table : ℕ → Option Hop) (calls : List Call) (n : ℕ) (t : List Datagram) → Stands methods calls n t → IsTableOf table calls → TablePromise methods table t
table_promised methods table calls n t h rows = record {
  had = λ port hop e. (let row : Row = record { port = port; to = hop.to; from = hop.from } in
      let f = any_at (λ c. (z : Settled) × (c.stage ≡ Answered z) × IsRowOf row z.session) calls (rows.had port hop e) in
      (f.1.caller, f.1.callee, f.3.0.session, listed_session methods calls n t f.0 f.1 f.3.0 h f.2 f.3.1, f.3.2));
  all = λ r live. (let f = live_session methods calls n t live.0 live.1 live.2 h live.3 in
      let z : Settled = f.2 in
      let P : Session → Type 0 = λ v. IsRowOf r v in
      let leads : LeadsSession table z.session = all_at (λ c. (y : Settled) → c.stage ≡ Answered y → LeadsSession table y.session) calls f.0 f.1 rows.leads f.3 z f.4 in
      row_led table (ports_named z.session.offer_taken z.session.answer_sent z.session.offer_sent z.session.answer_taken) r leads (subst P f.5 live.4));
}

pub ports_promised : (methods : List (List ℕ)) (holder : ℕ → Option Dialog) (calls : List Call) (n : ℕ) (t : List Datagram) → Stands methods calls n t → AreHeld holder calls → PortsPromise methods holder t
ports_promised methods holder calls n t h held = record {
  held = holds;
  one_call = λ a b c d s r port live live' pair pair'.
      (let e : Some a ≡ Some c = sym (holds a b s port live pair) ∙ holds c d r port live' pair' in
      let same : a ≡ c = cc in
      let one : IsOneCall methods t a = (lives_exactly methods calls n t h).one_call a live.caller_lives in
      let P : Dialog → Type 0 = λ v. CallOf methods t v d in
      (same, one.2 b (call_of_called methods t a b live.call) ∙ sym (one.2 d (subst P (sym same) (call_of_called methods t c d live'.call)))));
}
  where
    holds : (caller callee : Dialog) (s : Session) (port : ℕ) → IsLiveSession methods t caller callee s → IsPairOf port s → holder port ≡ Some caller
    holds caller callee s port live pair =
        let f = live_session methods calls n t caller callee s h live in
        let P : Session → Type 0 = λ v. IsPairOf port v in
        all_at (λ c. (z : Settled) → c.stage ≡ Answered z → (q : ℕ) → IsPairOf q z.session → holder q ≡ Some c.caller) calls f.0 f.1 held.pairs f.3 f.2 f.4 port (subst P f.5 pair) ∙ ap (λ v. Some v) f.6
