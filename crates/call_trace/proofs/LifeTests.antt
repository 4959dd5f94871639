-- What the tests of dialogs decide: begun, ended, live, open.
use Rattle.std.proofs.Common.{◌≡◌, ℕ, ◌<◌, ◌≤◌, not, List, length, Some, inl, inr, sym, ◌∙◌, ap, arith}
use Rattle.std.specs.Prelude.{slice_get, IsTrue}
use Rattle.std.specs.Bool.{Decides}
use Rattle.std.specs.List.{list_any}
use Rattle.std.specs.Cmp.Lexicographic.{bytes_decides}
use Rattle.std.proofs.lemmas.Bool.{cases_order}
use Rattle.std.proofs.lemmas.Bool.Decides.{Decides-and, Decides-or, Decides-not, Decides-like}
use Rattle.call_trace.specs.declared.datagram.Direction.TheVariants.{Taken, Sent}
use Rattle.call_trace.specs.declared.datagram.Datagram.{Datagram}
use Rattle.call_trace.specs.declared.datagram.Dialog.{Dialog}
use Rattle.call_trace.specs.Messages.{invite, ack, bye, is_ok, is_request_of, asks, accepts, Replies}
use Rattle.call_trace.specs.Dialogs.{dialog_of}
use Rattle.call_trace.specs.Exchanges.{TakesFinal}
use Rattle.call_trace.specs.Calls.{IsSentIn, IsOwnBranch, Begun, Ended, Live, Open}
use Rattle.call_trace.specs.Computed.{takes_final, is_sent_in, is_accepted, invites_with, is_invited_with, is_acknowledged, some_accepted, some_acknowledged, begun, is_bye_sent, is_bye_served, bye_before, serves_bye, serves_bye_at, some_bye_sent, some_bye_served, ended, live, final_from, is_unanswered, unanswered_at, open_in}
use Rattle.call_trace.proofs.PlaceTests.{SomeBefore, SomeFrom, decides_some, decides_before, decides_from}
use Rattle.call_trace.proofs.MessageTests.{decides_itself, decides_taken, decides_sent, decides_replies, decides_names, decides_takes_final}
use Rattle.call_trace.proofs.AtLaws.{at_place, place_at, at_within}
use Rattle.call_trace.proofs.ExchangeTests.{decides_on, decides_below}

-- a datagram was sent, and names the dialog
abbrev SentIn : Dialog → Datagram → Type 0
SentIn d p = (p.direction ≡ Sent) × (dialog_of p ≡ d)

decides_sent_in : (d : Dialog) (p : Datagram) → Decides (is_sent_in p d) (SentIn d p)
unfolding is_sent_in
decides_sent_in d p = Decides-and _ _ (decides_sent p.direction) (decides_names p d)

sent_in : (t : List Datagram) (d : Dialog) (i : ℕ) (p : Datagram) → slice_get t i ≡ Some p → SentIn d p → IsSentIn t d i p
sent_in t d i p at h = record { at = at_place t i p at; sent = h.0; named = h.1 }

-- ---- begun

decides_accepted : (d : Dialog) (p : Datagram) → Decides (is_accepted p d) (SentIn d p × IsTrue (accepts p.message))
unfolding is_accepted
decides_accepted d p = Decides-and _ _ (decides_sent_in d p) (decides_itself (accepts p.message))

decides_invites : (branch : List ℕ) (q : Datagram) → Decides (invites_with q branch) ((q.direction ≡ Sent) × (IsTrue (is_request_of invite q.message) × (q.message.branch ≡ branch)))
unfolding invites_with
decides_invites branch q = Decides-and _ _ (decides_sent q.direction) (Decides-and _ _ (decides_itself (is_request_of invite q.message)) (bytes_decides q.message.branch branch))

decides_own_branch : (t : List Datagram) (branch : List ℕ) → Decides (not (list_any (λ q. invites_with q branch) t)) (IsOwnBranch t branch)
decides_own_branch t branch =
    Decides-like (not (list_any (λ q. invites_with q branch) t))
    (λ h k q at sent is same. h (k, q, place_at t k q at, (sent, (is, same))))
    (λ h s. h s.0 s.1 (at_place t s.0 s.1 s.2) s.3.0 s.3.1.0 s.3.1.1)
    (Decides-not (list_any (λ q. invites_with q branch) t)
    (decides_some (λ q. invites_with q branch) (λ q. (q.direction ≡ Sent) × (IsTrue (is_request_of invite q.message) × (q.message.branch ≡ branch))) (decides_invites branch) t))

decides_acknowledged : (t : List Datagram) (d : Dialog) (p : Datagram) → Decides (is_acknowledged t p d) (SentIn d p × (IsTrue (is_request_of ack p.message) × IsOwnBranch t p.message.branch))
unfolding is_acknowledged is_invited_with
decides_acknowledged t d p = Decides-and _ _ (decides_sent_in d p) (Decides-and _ _ (decides_itself (is_request_of ack p.message)) (decides_own_branch t p.message.branch))

pub decides_begun : (t : List Datagram) (d : Dialog) → Decides (begun t d) (Begun t d)
unfolding begun some_accepted some_acknowledged
decides_begun t d =
    Decides-like (begun t d)
    (λ h. elim h [
      | inl a ↦ inl (a.0, a.1, record { sent = sent_in t d a.0 a.1 a.2 a.3.0; accepts = a.3.1 })
      | inr a ↦ inr (a.0, a.1, record { sent = sent_in t d a.0 a.1 a.2 a.3.0; acknowledges = a.3.1.0; own_branch = a.3.1.1 })
    ])
    (λ h. elim h [
      | inl a ↦ inl (a.0, a.1, place_at t a.0 a.1 a.2.sent.at, ((a.2.sent.sent, a.2.sent.named), a.2.accepts))
      | inr a ↦ inr (a.0, a.1, place_at t a.0 a.1 a.2.sent.at, ((a.2.sent.sent, a.2.sent.named), (a.2.acknowledges, a.2.own_branch)))
    ])
    (Decides-or _ _
    (decides_some (λ p. is_accepted p d) (λ p. SentIn d p × IsTrue (accepts p.message)) (decides_accepted d) t)
    (decides_some (λ p. is_acknowledged t p d) (λ p. SentIn d p × (IsTrue (is_request_of ack p.message) × IsOwnBranch t p.message.branch)) (decides_acknowledged t d) t))

-- ---- ended

decides_bye_sent : (d : Dialog) (p : Datagram) → Decides (is_bye_sent p d) (SentIn d p × IsTrue (is_request_of bye p.message))
unfolding is_bye_sent
decides_bye_sent d p = Decides-and _ _ (decides_sent_in d p) (decides_itself (is_request_of bye p.message))

abbrev ByeServed : Dialog → Datagram → Datagram → Type 0
ByeServed d r p = (p.direction ≡ Taken) × (IsTrue (is_request_of bye p.message) × ((dialog_of p ≡ d) × Replies r.message p.message))

decides_bye_served : (d : Dialog) (r p : Datagram) → Decides (is_bye_served p r d) (ByeServed d r p)
unfolding is_bye_served
decides_bye_served d r p =
    Decides-and _ _ (decides_taken p.direction)
    (Decides-and _ _ (decides_itself (is_request_of bye p.message))
    (Decides-and _ _ (decides_names p d) (decides_replies r.message p.message)))

abbrev ServesBye : List Datagram → Dialog → ℕ → Datagram → Type 0
ServesBye t d j r = (r.direction ≡ Sent) × (IsTrue (is_ok r.message.kind) × SomeBefore t j (λ p. ByeServed d r p))

decides_serves : (t : List Datagram) (d : Dialog) (j : ℕ) (r : Datagram) → Decides (serves_bye t d j r) (ServesBye t d j r)
unfolding serves_bye bye_before
decides_serves t d j r =
    Decides-and _ _ (decides_sent r.direction)
    (Decides-and _ _ (decides_itself (is_ok r.message.kind)) (decides_before (λ p. is_bye_served p r d) (λ p. ByeServed d r p) (decides_bye_served d r) j t))

decides_serves_at : (t : List Datagram) (d : Dialog) (j : ℕ) → Decides (serves_bye_at t d j) ((r : Datagram) × (slice_get t j ≡ Some r) × ServesBye t d j r)
unfolding serves_bye_at
decides_serves_at t d j = decides_on (λ r. serves_bye t d j r) (λ r. ServesBye t d j r) (decides_serves t d j) (slice_get t j)

pub decides_ended : (t : List Datagram) (d : Dialog) → Decides (ended t d) (Ended t d)
unfolding ended some_bye_sent some_bye_served
decides_ended t d =
    Decides-like (ended t d)
    (λ h. elim h [
      | inl a ↦ inl (a.0, a.1, record { sent = sent_in t d a.0 a.1 a.2 a.3.0; ends = a.3.1 })
      | inr a ↦ (let r = a.2.0 in let s = a.2.2 in let b = s.1.1 in inr (
        b.0,
        a.0,
        b.1,
        r,
        record {
          at_asked = at_place t b.0 b.1 b.3;
          at_answered = at_place t a.0 r a.2.1;
          later = b.2;
          taken = b.4.0;
          ends = b.4.1.0;
          named = b.4.1.1.0;
          sent = s.0;
          ok = s.1.0;
          replies = b.4.1.1.1;
        },
      ))
    ])
    (λ h. elim h [
      | inl a ↦ inl (a.0, a.1, place_at t a.0 a.1 a.2.sent.at, ((a.2.sent.sent, a.2.sent.named), a.2.ends))
      | inr a ↦ inr (
        a.1,
        at_within t a.1 a.3 a.4.at_answered,
        (
          a.3,
          place_at t a.1 a.3 a.4.at_answered,
          (a.4.sent, (a.4.ok, (a.0, a.2, a.4.later, place_at t a.0 a.2 a.4.at_asked, (a.4.taken, (a.4.ends, (a.4.named, a.4.replies)))))),
        ),
      )
    ])
    (Decides-or _ _
    (decides_some (λ p. is_bye_sent p d) (λ p. SentIn d p × IsTrue (is_request_of bye p.message)) (decides_bye_sent d) t)
    (decides_below (λ j. serves_bye_at t d j) (λ j. (r : Datagram) × (slice_get t j ≡ Some r) × ServesBye t d j r) (decides_serves_at t d) (length t)))

pub decides_live : (t : List Datagram) (d : Dialog) → Decides (live t d) (Live t d)
unfolding live
decides_live t d = Decides-and _ _ (decides_begun t d) (Decides-not _ (decides_ended t d))

-- ---- open

abbrev Unanswered : List (List ℕ) → List Datagram → Dialog → ℕ → Datagram → Type 0
Unanswered methods t d i p = SentIn d p × (IsTrue (asks methods p.message) × ¬ SomeFrom t i (λ r. TakesFinal r p.message))

decides_unanswered : (methods : List (List ℕ)) (t : List Datagram) (d : Dialog) (i : ℕ) (p : Datagram) → Decides (is_unanswered methods t d i p) (Unanswered methods t d i p)
unfolding is_unanswered final_from
decides_unanswered methods t d i p =
    Decides-and _ _ (decides_sent_in d p)
    (Decides-and _ _ (decides_itself (asks methods p.message))
    (Decides-not _ (decides_from (λ r. takes_final r p.message) (λ r. TakesFinal r p.message) (decides_takes_final p.message) i t)))

-- what was sent is no response that was taken
not_at_own_place : (t : List Datagram) (i k : ℕ) (p r : Datagram) → slice_get t i ≡ Some p → p.direction ≡ Sent → slice_get t k ≡ Some r → r.direction ≡ Taken → i ≤ k → i < k
not_at_own_place t i k p r at sent at_r taken le =
    elim (cases_order i k) [
      | inl e ↦ absurd (let same : Some p ≡ Some r = sym at ∙ ap (λ n. slice_get t n) e ∙ at_r in let one : p ≡ r = cc in let d : p.direction ≡ r.direction = ap (λ v. v.direction) one in cc)
      | inr o ↦ elim o [ inl lt ↦ lt | inr gt ↦ omega arith ]
    ]

pub decides_open : (methods : List (List ℕ)) (t : List Datagram) (d : Dialog) → Decides (open_in methods t d) (Open methods t d)
unfolding open_in unanswered_at
decides_open methods t d =
    Decides-like (open_in methods t d)
    (λ h. (let p = h.2.0 in (
      h.0,
      p,
      record {
        sent = sent_in t d h.0 p h.2.1 h.2.2.0;
        asks = h.2.2.1.0;
        unanswered = λ k r lt at f. h.2.2.1.1 (k, r, omega (arith, lt), place_at t k r at, f);
      },
    )))
    (λ h. (let at = place_at t h.0 h.1 h.2.sent.at in (
      h.0,
      at_within t h.0 h.1 h.2.sent.at,
      (
        h.1,
        at,
        (
          (h.2.sent.sent, h.2.sent.named),
          (
            h.2.asks,
            λ s. h.2.unanswered s.0 s.1 (not_at_own_place t h.0 s.0 h.1 s.1 at h.2.sent.sent s.3 s.4.taken s.2) (at_place t s.0 s.1 s.3) s.4,
          ),
        ),
      ),
    )))
    (decides_below (λ i. unanswered_at methods t d i) (λ i. (p : Datagram) × (slice_get t i ≡ Some p) × Unanswered methods t d i p)
    (λ i. decides_on (λ p. is_unanswered methods t d i p) (λ p. Unanswered methods t d i p) (decides_unanswered methods t d i) (slice_get t i)) (length t))
