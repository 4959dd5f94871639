-- What one more event does to the places and to the requests of a trace.
use Rattle.std.proofs.Common.{◌≡◌, ℕ, zero, suc, ◌+◌, ◌<◌, List, [], ◌∷◌, ◌++◌, map, length, Option, Some, None, ◌⊎◌, inl, inr, refl, sym, ◌∙◌, ap, subst, arith}
use Rattle.std.specs.Prelude.{slice_get, IsTrue}
use Rattle.call_trace.specs.declared.datagram.Direction.{Direction}
use Rattle.call_trace.specs.declared.datagram.Direction.TheVariants.{Taken, Sent}
use Rattle.call_trace.specs.declared.datagram.Kind.{Kind}
use Rattle.call_trace.specs.declared.datagram.Kind.TheVariants.{Request, Response}
use Rattle.call_trace.specs.declared.datagram.Message.{Message}
use Rattle.call_trace.specs.declared.datagram.Datagram.{Datagram}
use Rattle.call_trace.specs.Messages.{is_request, asks}
use Rattle.call_trace.specs.Dialogs.{is_ours_in_from}
use Rattle.call_trace.specs.Exchanges.{At}
use Rattle.call_trace.specs.Stands.{AsksAt, AskedAt}
use Rattle.call_trace.specs.Events.{taken_at, sent_at, passed, NoneAsked, IsUnused}
use Rattle.call_trace.proofs.AtLaws.{at_left, at_split}
use Rattle.call_trace.proofs.Words.{not_both, request_asks}

-- ---- the datagrams of the event

abbrev pub offset : Option Message → ℕ
offset None = 0
offset (Some m) = 1

-- each datagram of an event: the one taken, or one of those sent
pub data Part (n : ℕ) (taken : Option Message) (sent : List Message) (k : ℕ) (p : Datagram) : Type 0 where
  came : (m : Message) → taken ≡ Some m → k ≡ 0 → p ≡ taken_at n m → Part n taken sent k p
  went : (i : ℕ) (m : Message) → slice_get sent i ≡ Some m → k ≡ offset taken + i → p ≡ sent_at n m → Part n taken sent k p

at_map : (n : ℕ) (sent : List Message) (k : ℕ) (p : Datagram) → At (map (λ m. sent_at n m) sent) k p → (m : Message) × (slice_get sent k ≡ Some m) × (p ≡ sent_at n m)
unfolding At
at_map n [] k p e = absurd (cc)
at_map n (x ∷ xs) zero p e = (x, refl, cc)
at_map n (x ∷ xs) (suc k) p e = at_map n xs k p e

map_at : (n : ℕ) (sent : List Message) (k : ℕ) (m : Message) → slice_get sent k ≡ Some m → At (map (λ m. sent_at n m) sent) k (sent_at n m)
unfolding At
map_at n [] k m e = absurd (cc)
map_at n (x ∷ xs) zero m e = cc
map_at n (x ∷ xs) (suc k) m e = map_at n xs k m e

pub part_of : (n : ℕ) (taken : Option Message) (sent : List Message) (k : ℕ) (p : Datagram) → At (passed n taken sent) k p → Part n taken sent k p
unfolding At
part_of n None sent k p e = let r = at_map n sent k p e in went k r.0 r.1 (omega arith) r.2
part_of n (Some m) sent zero p e = came m refl refl (cc)
part_of n (Some m) sent (suc k) p e = let r = at_map n sent k p e in went k r.0 r.1 (omega arith) r.2

-- the one that was taken is first, and those that were sent come after it
pub taken_stands : (n : ℕ) (taken : Option Message) (sent : List Message) (m : Message) → taken ≡ Some m → At (passed n taken sent) 0 (taken_at n m)
unfolding At
taken_stands n None sent m e = absurd (cc)
taken_stands n (Some x) sent m e = cc

pub sent_stands : (n : ℕ) (taken : Option Message) (sent : List Message) (i : ℕ) (m : Message) → slice_get sent i ≡ Some m → At (passed n taken sent) (offset taken + i) (sent_at n m)
unfolding At
sent_stands n None sent i m e =
    let P : ℕ → Type 0 = λ v. slice_get (map (λ m. sent_at n m) sent) v ≡ Some (sent_at n m) in
    let q : i ≡ 0 + i = omega arith in
    subst P q (map_at n sent i m e)
sent_stands n (Some x) sent i m e =
    let P : ℕ → Type 0 = λ v. slice_get (taken_at n x ∷ map (λ m. sent_at n m) sent) v ≡ Some (sent_at n m) in
    let q : suc i ≡ 1 + i = omega arith in
    subst P q (map_at n sent i m e)

pub event_of : (n : ℕ) (taken : Option Message) (sent : List Message) (k : ℕ) (p : Datagram) → At (passed n taken sent) k p → p.event ≡ n
event_of n taken sent k p e = elim (part_of n taken sent k p e) [ came m h z q ↦ ap (λ v. v.event) q | went i m h z q ↦ ap (λ v. v.event) q ]

pub taken_first : (n : ℕ) (taken : Option Message) (sent : List Message) (k : ℕ) (p : Datagram) → At (passed n taken sent) k p → p.direction ≡ Taken → (k ≡ 0) × (taken ≡ Some p.message)
taken_first n taken sent k p e f =
    elim (part_of n taken sent k p e) [
      | came m h z q ↦ (z, h ∙ ap (λ v. Some v.message) (sym q))
      | went i m h z q ↦ (let g : p.direction ≡ Sent = ap (λ v. v.direction) q in absurd (cc))
    ]

pub sent_part : (n : ℕ) (taken : Option Message) (sent : List Message) (k : ℕ) (p : Datagram) → At (passed n taken sent) k p → p.direction ≡ Sent
    → (i : ℕ) × (m : Message) × (slice_get sent i ≡ Some m) × (k ≡ offset taken + i) × (p ≡ sent_at n m)
sent_part n taken sent k p e f =
    elim (part_of n taken sent k p e) [
      | came m h z q ↦ (let g : p.direction ≡ Taken = ap (λ v. v.direction) q in absurd (cc))
      | went i m h z q ↦ (i, m, h, z, q)
    ]

-- ---- events

abbrev pub Events : ℕ → List Datagram → Type 0
Events n t = (i : ℕ) (p : Datagram) → At t i p → p.event < n

pub events_more : (n : ℕ) (t : List Datagram) (taken : Option Message) (sent : List Message) → Events n t → Events (suc n) (t ++ passed n taken sent)
events_more n t taken sent h i p e =
    elim (at_split t (passed n taken sent) i p e) [
      | inl x ↦ (let l : p.event < n = h i p x in omega arith)
      | inr x ↦ (let q : p.event ≡ n = event_of n taken sent x.0 p x.2 in omega arith)
    ]

-- of two datagrams of one event, one that is in the old trace has the other with it
pub same_old : (n : ℕ) (t : List Datagram) (taken : Option Message) (sent : List Message) (i k : ℕ) (p q : Datagram) → Events n t → At t i p → At (t ++ passed n taken sent) k q → q.event ≡ p.event → At t k q
same_old n t taken sent i k p q h e f same =
    elim (at_split t (passed n taken sent) k q f) [
      | inl x ↦ x
      | inr x ↦ (let l : p.event < n = h i p e in let g : q.event ≡ n = event_of n taken sent x.0 q x.2 in absurd (omega arith))
    ]

abbrev pub OneTaken : List Datagram → Type 0
OneTaken t = (i k : ℕ) (p q : Datagram) → At t i p → At t k q → p.direction ≡ Taken → q.direction ≡ Taken → p.event ≡ q.event → i ≡ k

pub one_taken_more : (n : ℕ) (t : List Datagram) (taken : Option Message) (sent : List Message) → Events n t → OneTaken t → OneTaken (t ++ passed n taken sent)
one_taken_more n t taken sent ev h i k p q ep eq tp tq same =
    elim (at_split t (passed n taken sent) i p ep) [
      | inl x ↦ h i k p q x (same_old n t taken sent i k p q ev x eq (sym same)) tp tq same
      | inr x ↦ elim (at_split t (passed n taken sent) k q eq) [
        | inl y ↦ h i k p q (same_old n t taken sent k i q p ev y ep same) y tp tq same
        | inr y ↦ (let f : x.0 ≡ 0 = (taken_first n taken sent x.0 p x.2 tp).0 in let g : y.0 ≡ 0 = (taken_first n taken sent y.0 q y.2 tq).0 in
            let u : i ≡ length t + x.0 = x.1 in let v : k ≡ length t + y.0 = y.1 in omega arith)
      ]
    ]

-- ---- requests that may carry an offer

ours_request : (d : Direction) (k : Kind) → d ≡ Sent → IsTrue (is_request k) → IsTrue (is_ours_in_from d k)
ours_request Taken k e h = absurd (cc)
ours_request Sent Request e h = refl
ours_request Sent (Response s) e h = absurd (cc)

pub used_by_request : (t : List Datagram) (i : ℕ) (p : Datagram) (branch : List ℕ) → IsUnused t branch → At t i p → p.direction ≡ Sent → IsTrue (is_request p.message.kind) → p.message.branch ≡ branch → ⊥
used_by_request t i p branch unused at sent request e = unused i p at (ours_request p.direction p.message.kind sent request) e

-- What the event owes for the requests that it sends: one with a branch of its own, or copies where none was taken.
abbrev pub IsCopy : List (List ℕ) → List Datagram → Option Message → Message → Type 0
IsCopy methods t taken m = (k : ℕ) × (q : Datagram) × AsksAt methods t k q × (q.message ≡ m) × NoneAsked methods taken

pub record FineAsks (methods : List (List ℕ)) (t : List Datagram) (taken : Option Message) (sent : List Message) : Type 0 where
  pub each : (i : ℕ) (m : Message) → slice_get sent i ≡ Some m → IsTrue (asks methods m) → IsUnused t m.branch ⊎ IsCopy methods t taken m
  pub one : (i k : ℕ) (m l : Message) → slice_get sent i ≡ Some m → slice_get sent k ≡ Some l → IsTrue (asks methods m) → IsTrue (asks methods l) → IsUnused t m.branch → IsUnused t l.branch → i ≡ k

pub asks_left : (methods : List (List ℕ)) (t s : List Datagram) (i : ℕ) (p : Datagram) → AsksAt methods t i p → AsksAt methods (t ++ s) i p
asks_left methods t s i p h = record { at = at_left t s i p h.at; sent = h.sent; asks = h.asks }

-- a request of the longer trace: an old one or its copy, or the one with a branch of its own
pub data Root (methods : List (List ℕ)) (t : List Datagram) (taken : Option Message) (sent : List Message) (i : ℕ) (p : Datagram) : Type 0 where
  rooted : (k : ℕ) (q : Datagram) → AsksAt methods t k q → q.message ≡ p.message → Root methods t taken sent i p
  born : (j : ℕ) (m : Message) → slice_get sent j ≡ Some m → p.message ≡ m → i ≡ length t + (offset taken + j) → IsUnused t m.branch → IsTrue (asks methods m) → Root methods t taken sent i p

pub root_of : (methods : List (List ℕ)) (n : ℕ) (t : List Datagram) (taken : Option Message) (sent : List Message) (i : ℕ) (p : Datagram) → FineAsks methods t taken sent → AsksAt methods (t ++ passed n taken sent) i p → Root methods t taken sent i p
root_of methods n t taken sent i p fine h =
    elim (at_split t (passed n taken sent) i p h.at) [
      | inl x ↦ rooted i p (record { at = x; sent = h.sent; asks = h.asks }) refl
      | inr x ↦ (let y = sent_part n taken sent x.0 p x.2 h.sent in
          let me : p.message ≡ y.1 = ap (λ v. v.message) y.4 in
          let a : IsTrue (asks methods y.1) = (let P : Message → Type 0 = λ v. IsTrue (asks methods v) in subst P me h.asks) in
          elim (fine.each y.0 y.1 y.2 a) [
            | inl u ↦ born y.0 y.1 y.2 me (let u' : i ≡ length t + x.0 = x.1 in let v' : x.0 ≡ offset taken + y.0 = y.3 in omega arith) u a
            | inr u ↦ rooted u.0 u.1 u.2 (u.3 ∙ sym me)
          ])
    ]

pub root_differs : (methods : List (List ℕ)) (t : List Datagram) (k : ℕ) (q : Datagram) (m : Message) → AsksAt methods t k q → IsUnused t m.branch → q.message.branch ≡ m.branch → ⊥
root_differs methods t k q m h unused e = used_by_request t k q m.branch unused h.at h.sent (request_asks methods q.message h.asks) e

abbrev pub Copies : List (List ℕ) → List Datagram → Type 0
Copies methods t = (i k : ℕ) (p q : Datagram) → AsksAt methods t i p → AsksAt methods t k q → p.message.branch ≡ q.message.branch → p.message ≡ q.message

pub copies_more : (methods : List (List ℕ)) (n : ℕ) (t : List Datagram) (taken : Option Message) (sent : List Message) → FineAsks methods t taken sent → Copies methods t → Copies methods (t ++ passed n taken sent)
copies_more methods n t taken sent fine h i k p q hp hq same =
    elim (root_of methods n t taken sent i p fine hp) [
      | rooted a u hu eu ↦ elim (root_of methods n t taken sent k q fine hq) [
        | rooted b v hv ev ↦ sym eu ∙ h a b u v hu hv (ap (λ w. w.branch) eu ∙ same ∙ ap (λ w. w.branch) (sym ev)) ∙ ev
        | born j m at me place unused am ↦ absurd (root_differs methods t a u m hu unused (ap (λ w. w.branch) eu ∙ same ∙ ap (λ w. w.branch) me))
      ]
      | born j m at me place unused am ↦ elim (root_of methods n t taken sent k q fine hq) [
        | rooted b v hv ev ↦ absurd (root_differs methods t b v m hv unused (ap (λ w. w.branch) ev ∙ sym same ∙ ap (λ w. w.branch) me))
        | born j' m' at' me' place' unused' am' ↦ (let x : j ≡ j' = fine.one j j' m m' at at' am am' unused unused' in
            let P : ℕ → Type 0 = λ v. slice_get sent v ≡ Some m in
            let f : slice_get sent j' ≡ Some m = subst P x at in
            let g : m ≡ m' = cc in me ∙ g ∙ sym me')
      ]
    ]

abbrev pub OneBirth : List (List ℕ) → List Datagram → Type 0
OneBirth methods t = (i k i' k' : ℕ) (p q p' q' : Datagram) → AsksAt methods t i p → AsksAt methods t k q → AskedAt methods t i' p' → AskedAt methods t k' q'
    → p'.event ≡ p.event → q'.event ≡ q.event → p.message.branch ≡ q.message.branch → i ≡ k

-- a request that was sent in an event that took one: both are old, or it has a branch of its own
data Birth (methods : List (List ℕ)) (t : List Datagram) (taken : Option Message) (sent : List Message) (i i' : ℕ) (p p' : Datagram) : Type 0 where
  old : AsksAt methods t i p → AskedAt methods t i' p' → Birth methods t taken sent i i' p p'
  new : (j : ℕ) (m : Message) → slice_get sent j ≡ Some m → p.message ≡ m → i ≡ length t + (offset taken + j) → IsUnused t m.branch → IsTrue (asks methods m) → Birth methods t taken sent i i' p p'

birth_of : (methods : List (List ℕ)) (n : ℕ) (t : List Datagram) (taken : Option Message) (sent : List Message) (i i' : ℕ) (p p' : Datagram) → FineAsks methods t taken sent → Events n t
    → AsksAt methods (t ++ passed n taken sent) i p → AskedAt methods (t ++ passed n taken sent) i' p' → p'.event ≡ p.event → Birth methods t taken sent i i' p p'
birth_of methods n t taken sent i i' p p' fine ev h h' same =
    elim (at_split t (passed n taken sent) i p h.at) [
      | inl x ↦ old (record { at = x; sent = h.sent; asks = h.asks }) (record { at = same_old n t taken sent i i' p p' ev x h'.at same; taken = h'.taken; asks = h'.asks })
      | inr x ↦ (let y = sent_part n taken sent x.0 p x.2 h.sent in
          let me : p.message ≡ y.1 = ap (λ v. v.message) y.4 in
          let a : IsTrue (asks methods y.1) = (let P : Message → Type 0 = λ v. IsTrue (asks methods v) in subst P me h.asks) in
          elim (fine.each y.0 y.1 y.2 a) [
            | inl u ↦ new y.0 y.1 y.2 me (let u' : i ≡ length t + x.0 = x.1 in let v' : x.0 ≡ offset taken + y.0 = y.3 in omega arith) u a
            | inr u ↦ elim (at_split t (passed n taken sent) i' p' h'.at) [
              | inl z ↦ (let l : p'.event < n = ev i' p' z in let g : p.event ≡ n = event_of n taken sent x.0 p x.2 in absurd (omega arith))
              | inr z ↦ absurd (not_both (asks methods p'.message) (u.4 p'.message (taken_first n taken sent z.0 p' z.2 h'.taken).1) h'.asks)
            ]
          ])
    ]

pub one_birth_more : (methods : List (List ℕ)) (n : ℕ) (t : List Datagram) (taken : Option Message) (sent : List Message) → FineAsks methods t taken sent → Events n t → OneBirth methods t → OneBirth methods (t ++ passed n taken sent)
one_birth_more methods n t taken sent fine ev h i k i' k' p q p' q' hp hq hp' hq' sp sq same =
    elim (birth_of methods n t taken sent i i' p p' fine ev hp hp' sp) [
      | old op op' ↦ elim (birth_of methods n t taken sent k k' q q' fine ev hq hq' sq) [
        | old oq oq' ↦ h i k i' k' p q p' q' op oq op' oq' sp sq same
        | new j m at me place unused am ↦ absurd (root_differs methods t i p m op unused (same ∙ ap (λ w. w.branch) me))
      ]
      | new j m at me place unused am ↦ elim (birth_of methods n t taken sent k k' q q' fine ev hq hq' sq) [
        | old oq oq' ↦ absurd (root_differs methods t k q m oq unused (sym same ∙ ap (λ w. w.branch) me))
        | new j' m' at' me' place' unused' am' ↦ (let x : j ≡ j' = fine.one j j' m m' at at' am am' unused unused' in omega arith)
      ]
    ]
