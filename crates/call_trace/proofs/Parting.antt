-- A call ends, or an answer is of no call: and the refusal of a later offer.
use Rattle.std.proofs.Common.{◌≡◌, ℕ, suc, ◌+◌, ◌<◌, ◌≤◌, List, [], ◌∷◌, ◌++◌, length, Bool, true, false, not, Option, Some, ◌⊎◌, inl, inr, refl, sym, ◌∙◌, ap, subst, arith}
use Rattle.std.specs.Prelude.{slice_get, slice_set, remove, IsTrue}
use Rattle.call_trace.specs.declared.datagram.Direction.TheVariants.{Taken}
use Rattle.call_trace.specs.declared.datagram.Message.{Message}
use Rattle.call_trace.specs.declared.datagram.Datagram.{Datagram}
use Rattle.call_trace.specs.declared.datagram.Dialog.{Dialog}
use Rattle.call_trace.specs.declared.call.Settled.{Settled}
use Rattle.call_trace.specs.declared.call.Stage.TheVariants.{Asked, Answered}
use Rattle.call_trace.specs.declared.call.Offer.{Offer}
use Rattle.call_trace.specs.declared.call.Call.{Call}
use Rattle.call_trace.specs.Messages.{ack, bye, is_request, is_success, is_listed, asks, Replies}
use Rattle.call_trace.specs.Dialogs.{our_tag}
use Rattle.call_trace.specs.Exchanges.{At, TakesFinal, Exchange, IsExchange}
use Rattle.call_trace.specs.Calls.{Ended}
use Rattle.call_trace.specs.Stands.{leg, CallStands, IsTagOf, AllApart, HasTags, IsCallOf, StandsAfter}
use Rattle.call_trace.specs.Events.{taken_at, sent_at, passed, IsIdle, IsIdleTaken, EndsNow, before, left, served, IsParting, idle, bye_sent, bye_answered, acknowledged, IsPartingTaken, unmoved, answered}
use Rattle.call_trace.specs.Moves.{without_offer, ending, Leaves}
use Rattle.call_trace.specs.Lives.{LegsStand}
use Rattle.call_trace.specs.Listed.{AllOf}
use Rattle.call_trace.proofs.AtLaws.{at_right}
use Rattle.call_trace.proofs.Growing.{ended_left}
use Rattle.call_trace.proofs.Members.{all_at, all_set, all_remove, any_set, any_remove}
use Rattle.call_trace.proofs.Apart.{leg_tag, leg_some, set_others, apart_set, apart_remove}
use Rattle.call_trace.proofs.Words.{not_both, request_of, request_asks, other_asks, request_is_no_success, ok_is_success, method_is, answer_succeeds}
use Rattle.call_trace.proofs.OneEvent.{offset, came, went, taken_stands, sent_stands, taken_first, FineAsks, Copies, copies_more, root_differs}
use Rattle.call_trace.proofs.NewExchanges.{tag_response_taken, exchange_tag, exchange_new, answer_listed, idle_no_answer, idle_taken_no_answer}
use Rattle.call_trace.proofs.Keeps.{Foreign, NoServed, Keeps, stand_left, known_more, assembled, idle_asks, fine_idle, idle_answers_none}
use Rattle.call_trace.proofs.Offering.{request_no_answer, settled_same, listed_same}

pub all_from_at : {X : Type 0} (P : X → Type 0) (t : List X) → ((i : ℕ) (x : X) → slice_get t i ≡ Some x → P x) → AllOf P t
all_from_at P [] h = tt
all_from_at P (x ∷ t) h = (h 0 x refl, all_from_at P t (λ i y e. h (suc i) y e))

-- a dialog that ends by this event has ended after it
pub ends_now : (n : ℕ) (t : List Datagram) (taken : Option Message) (sent : List Message) (d : Dialog) → EndsNow t taken sent d → Ended (t ++ passed n taken sent) d
ends_now n t taken sent d h =
    elim h [
      | before e ↦ ended_left t (passed n taken sent) d e
      | left i m at out named ↦ inl (
        length t + (offset taken + i),
        sent_at n m,
        record { sent = record { at = at_right t (passed n taken sent) (offset taken + i) (sent_at n m) (sent_stands n taken sent i m at); sent = refl; named = named }; ends = out },
      )
      | served i m r tk ends named at ok replies ↦ (let one : offset taken ≡ 1 = ap offset tk in
          inr (
            length t + 0,
            length t + (offset taken + i),
            taken_at n m,
            sent_at n r,
            record {
              at_asked = at_right t (passed n taken sent) 0 (taken_at n m) (taken_stands n taken sent m tk);
              at_answered = at_right t (passed n taken sent) (offset taken + i) (sent_at n r) (sent_stands n taken sent i r at);
              later = omega arith;
              taken = refl;
              ends = ends;
              named = named;
              sent = refl;
              ok = ok;
              replies = replies;
            },
          ))
    ]

-- ---- what is sent

pub parting_asks : (methods : List (List ℕ)) (t : List Datagram) (taken : Option Message) (sent : List Message) (rest : List Call) (m : Message) → IsTrue (not (is_listed methods ack)) → IsTrue (not (is_listed methods bye))
    → IsParting methods t taken sent rest m → IsTrue (asks methods m) → IsIdle methods t taken m
parting_asks methods t taken sent rest m acks byes h a =
    elim h [
      | idle g ↦ g
      | bye_sent g s ↦ absurd (other_asks methods bye m byes g a)
      | bye_answered g b s ↦ absurd (request_is_no_success m.kind (request_asks methods m a) (ok_is_success m.kind g))
      | acknowledged g e ↦ absurd (other_asks methods ack m acks g a)
    ]

pub fine_parting : (methods : List (List ℕ)) (t : List Datagram) (taken : Option Message) (sent : List Message) (rest : List Call) → IsTrue (not (is_listed methods ack)) → IsTrue (not (is_listed methods bye))
    → AllOf (IsParting methods t taken sent rest) sent → FineAsks methods t taken sent
fine_parting methods t taken sent rest acks byes h = record {
  each = λ i m at a. inr (idle_asks methods t taken m acks (parting_asks methods t taken sent rest m acks byes (all_at (IsParting methods t taken sent rest) sent i m h at) a) a);
  one = λ i k m l at at' a a' unused unused'.
      (let c = idle_asks methods t taken m acks (parting_asks methods t taken sent rest m acks byes (all_at (IsParting methods t taken sent rest) sent i m h at) a) a in
      absurd (root_differs methods t c.0 c.1 m c.2 unused (ap (λ v. v.branch) c.3)));
}

parting_no_answer : (methods : List (List ℕ)) (t s : List Datagram) (d : Dialog) (e : Exchange) (n : ℕ) (taken : Option Message) (sent : List Message) (rest : List Call) (m : Message) → IsTrue (not (is_listed methods bye)) → IsExchange methods (t ++ s) d e
    → length t ≤ e.answered_at → e.answered ≡ sent_at n m → IsParting methods t taken sent rest m → ⊥
parting_no_answer methods t s d e n taken sent rest m byes x behind is h =
    elim h [
      | idle g ↦ idle_no_answer methods t s d e n taken m x behind is g
      | bye_sent g o ↦ request_no_answer methods (t ++ s) d e m x (ap (λ v. v.message) is) (request_of bye m g)
      | bye_answered g b o ↦ (let listed : IsTrue (is_listed methods e.answered.message.method) = answer_listed methods (t ++ s) d e x in
          let same : e.answered.message.method ≡ bye = ap (λ v. v.message.method) is ∙ method_is bye m.method b in
          not_both (is_listed methods bye) byes (let P : List ℕ → Type 0 = λ v. IsTrue (is_listed methods v) in subst P same listed))
      | acknowledged g o ↦ request_no_answer methods (t ++ s) d e m x (ap (λ v. v.message) is) (request_of ack m g)
    ]

-- none of the 2xx that are sent is an answer
pub parting_serves_none : (methods : List (List ℕ)) (n : ℕ) (t : List Datagram) (taken : Option Message) (sent : List Message) (rest : List Call) → IsTrue (not (is_listed methods bye)) → AllOf (IsParting methods t taken sent rest) sent
    → NoServed methods t (passed n taken sent)
parting_serves_none methods n t taken sent rest byes h d e x out =
    elim (exchange_new methods n t taken sent d e x) [
      | inl q ↦ q.0
      | inr q ↦ (let place : e.answered_at ≡ length t + q.0 = q.1 in
          let behind : length t ≤ e.answered_at = omega arith in
          elim q.3 [
            | came m tk z is ↦ (let f : e.answered.direction ≡ Taken = ap (λ v. v.direction) is in absurd (cc))
            | went i m at z is ↦ absurd (parting_no_answer methods t (passed n taken sent) d e n taken sent rest m byes x behind is (all_at (IsParting methods t taken sent rest) sent i m h at))
          ])
    ]

-- ---- what is taken

pub parting_for : (methods : List (List ℕ)) (t : List Datagram) (taken : Option Message) (rest : List Call) (i : ℕ) (c : Call) → IsPartingTaken methods t taken rest → slice_get rest i ≡ Some c → IsPartingTaken methods t taken (c ∷ [])
parting_for methods t taken rest i c h at =
    elim h [
      | unmoved g ↦ unmoved g
      | answered m tk final none ↦ answered m tk final (all_at (λ d. ¬ IsTagOf d m.from_tag) rest i c none at, tt)
    ]

parting_foreign : (methods : List (List ℕ)) (n : ℕ) (t : List Datagram) (taken : Option Message) (sent : List Message) (rest : List Call) (c : Call) → IsTrue (not (is_listed methods bye)) → Copies methods t → Copies methods (t ++ passed n taken sent)
    → AllOf (IsParting methods t taken sent rest) sent → IsPartingTaken methods t taken (c ∷ []) → HasTags c → CallStands methods t c → Foreign methods t (passed n taken sent) c
parting_foreign methods n t taken sent rest c byes copies more h tk tags stand = record { legs = legs; answered = none }
  where
    legs : (b : Bool) (e : Exchange) → IsExchange methods (t ++ passed n taken sent) (leg c b) e → e.answered_at < length t
    legs b e x =
        elim (exchange_new methods n t taken sent (leg c b) e x) [
          | inl q ↦ q.0
          | inr q ↦ (let place : e.answered_at ≡ length t + q.0 = q.1 in
              let behind : length t ≤ e.answered_at = omega arith in
              elim q.3 [
                | came m tm z is ↦ elim tk [
                  | unmoved g ↦ absurd (idle_taken_no_answer methods t (passed n taken sent) (leg c b) e n taken m more x behind tm is g)
                  | answered l tl final spares ↦ (let same : l ≡ m = cc in
                      let response : IsTrue (not (is_request m.kind)) = (let P : Datagram → Type 0 = λ v. IsTrue (not (is_request v.message.kind)) in subst P is x.replies.response_kind) in
                      let tag : our_tag e.answered ≡ (leg c b).ours = exchange_tag methods (t ++ passed n taken sent) (leg c b) e x (leg_some c b tags) in
                      let of : our_tag (taken_at n m) ≡ m.from_tag = tag_response_taken (taken_at n m) refl response in
                      let one : (leg c b).ours ≡ l.from_tag = sym tag ∙ ap our_tag is ∙ of ∙ ap (λ v. v.from_tag) (sym same) in
                      absurd (spares.0 (let P : List ℕ → Type 0 = λ v. IsTagOf c v in subst P one (leg_tag c b))))
                ]
                | went i m at z is ↦ absurd (parting_no_answer methods t (passed n taken sent) (leg c b) e n taken sent rest m byes x behind is (all_at (IsParting methods t taken sent rest) sent i m h at))
              ])
        ]

    none : (p : Offer) → c.offer ≡ Some p → (k : ℕ) (r : Datagram) → At (passed n taken sent) k r → ¬ TakesFinal r p.went
    none p e k r at f =
        elim tk [
          | unmoved g ↦ idle_answers_none methods n t taken sent (leg c p.by_caller) (leg c (not p.by_caller)) p copies g (stand.offer p e) k r at f
          | answered l tl final spares ↦ (let tm : taken ≡ Some r.message = (taken_first n taken sent k r at f.taken).1 in
              let same : l ≡ r.message = cc in
              let one : l.from_tag ≡ (leg c (not p.by_caller)).ours = ap (λ v. v.from_tag) same ∙ f.replies.from_tag ∙ (stand.offer p e).4.went_from in
              spares.0 (let P : List ℕ → Type 0 = λ v. IsTagOf c v in subst P (sym one) (leg_tag c (not p.by_caller))))
        ]

-- ---- the calls that are left

pub parted_stands : (methods : List (List ℕ)) (old rest : List Call) (n : ℕ) (t : List Datagram) (taken : Option Message) (sent : List Message) → StandsAfter methods old n t → AllOf HasTags rest → AllApart rest → AllOf (CallStands methods t) rest
    → IsPartingTaken methods t taken rest → AllOf (IsParting methods t taken sent rest) sent → Keeps (t ++ passed n taken sent) old rest → StandsAfter methods rest (suc n) (t ++ passed n taken sent)
parted_stands methods old rest n t taken sent st tags apart stand tk h keep =
    let fine : FineAsks methods t taken sent = fine_parting methods t taken sent rest st.offering.acks st.offering.byes h in
    let more : Copies methods (t ++ passed n taken sent) = copies_more methods n t taken sent fine st.copies in
    assembled methods old rest n t taken sent st fine tags apart
    (all_from_at (CallStands methods (t ++ passed n taken sent)) rest (λ i c at.
    stand_left methods t (passed n taken sent) c
    (parting_foreign methods n t taken sent rest c st.offering.byes st.copies more h (parting_for methods t taken rest i c tk at) (all_at HasTags rest i c tags at) (all_at (CallStands methods t) rest i c stand at))
    (all_at (CallStands methods t) rest i c stand at)))
    (known_more methods n t taken sent old rest st.events (parting_serves_none methods n t taken sent rest st.offering.byes h) keep st.known)

pub quiet_stands : (methods : List (List ℕ)) (old : List Call) (n : ℕ) (t : List Datagram) (taken : Option Message) (sent : List Message) → IsPartingTaken methods t taken old → AllOf (IsParting methods t taken sent old) sent → StandsAfter methods old n t
    → StandsAfter methods old (suc n) (t ++ passed n taken sent)
quiet_stands methods old n t taken sent tk h st = parted_stands methods old old n t taken sent st st.tags st.apart st.stand tk h (λ dx dy l. inl l)

pub ending_stands : (methods : List (List ℕ)) (t : List Datagram) (c : Call) (z : Settled) (b : Bool) → c.stage ≡ Answered z → CallStands methods t c → CallStands methods t (ending c b)
ending_stands methods t c z b stage h = record {
  session = λ r e. absurd (cc);
  offer = λ p e. absurd (cc);
  first = λ e. absurd (cc);
  later = λ r e. absurd (cc);
  begun = λ e. h.begun (λ f. (let g : Answered z ≡ Asked = sym stage ∙ f in cc));
}

pub part_stands : (methods : List (List ℕ)) (old : List Call) (n : ℕ) (t : List Datagram) (taken : Option Message) (sent : List Message) (k : ℕ) (c : Call) (z : Settled) (b : Bool) → slice_get old k ≡ Some c → c.stage ≡ Answered z
    → IsIdleTaken methods t taken → AllOf (IsParting methods t taken sent (slice_set old k (ending c b))) sent → StandsAfter methods old n t
    → StandsAfter methods (slice_set old k (ending c b)) (suc n) (t ++ passed n taken sent)
part_stands methods old n t taken sent k c z b at stage tk h st =
    let tags : HasTags c = all_at HasTags old k c st.tags at in
    parted_stands methods old (slice_set old k (ending c b)) n t taken sent st
    (all_set HasTags old k (ending c b) st.tags (record { caller = tags.caller; callee = tags.callee; differ = tags.differ }))
    (apart_set old k c (ending c b) at (λ v q. q) st.apart)
    (all_set (CallStands methods t) old k (ending c b) st.stand (ending_stands methods t c z b stage (all_at (CallStands methods t) old k c st.stand at)))
    (unmoved tk) h
    (λ dx dy l. inl (any_set (IsCallOf dx dy) old k c (ending c b) at (λ r. record { answered = λ e. absurd (cc); caller = r.caller; callee = r.callee }) l))

-- a leg that leaves by this event has ended after it
pub leaves_now : (n : ℕ) (t : List Datagram) (taken : Option Message) (sent : List Message) (c : Call) (b : Bool) → LegsStand t c → Leaves t taken sent c b → Ended (t ++ passed n taken sent) (leg c b)
leaves_now n t taken sent c b h l = elim l [ inl e ↦ ends_now n t taken sent (leg c b) e | inr e ↦ ended_left t (passed n taken sent) (leg c b) (h.ending b e) ]

pub go_stands : (methods : List (List ℕ)) (old : List Call) (n : ℕ) (t : List Datagram) (taken : Option Message) (sent : List Message) (k : ℕ) (c : Call) → slice_get old k ≡ Some c
    → (c.stage ≡ Asked) ⊎ (Leaves t taken sent c true × Leaves t taken sent c false) → LegsStand t c
    → IsPartingTaken methods t taken (remove old k) → AllOf (IsParting methods t taken sent (remove old k)) sent → StandsAfter methods old n t → StandsAfter methods (remove old k) (suc n) (t ++ passed n taken sent)
go_stands methods old n t taken sent k c at over legs tk h st =
    let P : Dialog → Type 0 = λ v. Ended (t ++ passed n taken sent) v in
    parted_stands methods old (remove old k) n t taken sent st (all_remove HasTags old k st.tags) (apart_remove old k st.apart) (all_remove (CallStands methods t) old k st.stand) tk h
    (λ dx dy l. elim (any_remove (IsCallOf dx dy) old k c at l) [
      | inl g ↦ inl g
      | inr g ↦ elim over [
        | inl stage ↦ absurd (g.answered stage)
        | inr both ↦ inr (subst P g.caller (leaves_now n t taken sent c true legs both.0), subst P g.callee (leaves_now n t taken sent c false legs both.1))
      ]
    ])

-- ---- the refusal of a later offer

pub release_stands : (methods : List (List ℕ)) (old : List Call) (n : ℕ) (t : List Datagram) (taken : Option Message) (sent : List Message) (k : ℕ) (c : Call) (z : Settled) (p : Offer) (m : Message) → slice_get old k ≡ Some c → c.stage ≡ Answered z → c.offer ≡ Some p
    → IsTrue (not (is_success m.kind)) → Replies m p.went → taken ≡ Some m → AllOf (IsIdle methods t taken) sent → StandsAfter methods old n t
    → StandsAfter methods (slice_set old k (without_offer c)) (suc n) (t ++ passed n taken sent)
release_stands methods old n t taken sent k c z p m at stage pe refused re tk h st =
    let s : List Datagram = passed n taken sent in
    let c' : Call = without_offer c in
    let here : CallStands methods t c = all_at (CallStands methods t) old k c st.stand at in
    let tags : HasTags c = all_at HasTags old k c st.tags at in
    let o = here.offer p pe in
    let from_y : m.from_tag ≡ (leg c (not p.by_caller)).ours = re.from_tag ∙ o.4.went_from in
    let mine : IsTagOf c m.from_tag = (let P : List ℕ → Type 0 = λ v. IsTagOf c v in subst P (sym from_y) (leg_tag c (not p.by_caller))) in
    let none : (d : Dialog) (e : Exchange) → IsExchange methods (t ++ s) d e → e.answered_at < length t = λ d e x. makes_none d e x in
    let kept : CallStands methods t c' = record { session = λ r e. settled_same methods t c c' r refl refl (here.session r e); offer = λ q e. absurd (cc); first = λ e q f. absurd (cc); later = λ r e q f. absurd (cc); begun = here.begun } in
    assembled methods old (slice_set old k c') n t taken sent st (fine_idle methods t taken sent st.offering.acks h)
    (all_set HasTags old k c' st.tags (record { caller = tags.caller; callee = tags.callee; differ = tags.differ }))
    (apart_set old k c c' at (λ v q. q) st.apart)
    (set_others (CallStands methods t) (CallStands methods (t ++ s)) old k c c' st.apart at st.stand
    (λ d apart g. stand_left methods t s d (record {
      legs = λ b. none (leg d b);
      answered = λ q e j r at' f. (let tm : taken ≡ Some r.message = (taken_first n taken sent j r at' f.taken).1 in
          let same : m ≡ r.message = cc in
          let one : m.from_tag ≡ (leg d (not q.by_caller)).ours = ap (λ v. v.from_tag) same ∙ f.replies.from_tag ∙ (g.offer q e).4.went_from in
          apart (leg d (not q.by_caller)).ours (leg_tag d (not q.by_caller)) (let P : List ℕ → Type 0 = λ v. IsTagOf c v in subst P one mine));
    }) g)
    (stand_left methods t s c' (record { legs = λ b. none (leg c' b); answered = λ q e. absurd (cc) }) kept))
    (known_more methods n t taken sent old (slice_set old k c') st.events (λ d e x out. makes_none d e x) (λ dx dy l. inl (any_set (IsCallOf dx dy) old k c c' at (λ q. listed_same c c' dx dy refl refl refl q) l)) st.known)
  where
    makes_none : (d : Dialog) (e : Exchange) → IsExchange methods (t ++ passed n taken sent) d e → e.answered_at < length t
    makes_none d e x =
        elim (exchange_new methods n t taken sent d e x) [
          | inl q ↦ q.0
          | inr q ↦ (let place : e.answered_at ≡ length t + q.0 = q.1 in
              let behind : length t ≤ e.answered_at = omega arith in
              elim q.3 [
                | came l tl y is ↦ (let same : m ≡ l = cc in
                    absurd (not_both (is_success m.kind) refused (let P : Message → Type 0 = λ v. IsTrue (is_success v.kind) in subst P (ap (λ v. v.message) is ∙ sym same) (answer_succeeds e.answered.message x.answer))))
                | went i l get y is ↦ absurd (idle_no_answer methods t (passed n taken sent) d e n taken l x behind is (all_at (IsIdle methods t taken) sent i l h get))
              ])
        ]
