-- An offer is passed on: the callee is asked, or either end offers again.
use Rattle.std.proofs.Common.{◌≡◌, ℕ, zero, suc, ◌+◌, ◌≤◌, List, [], ◌∷◌, ◌++◌, length, Bool, true, false, not, Some, ◌⊎◌, inl, inr, refl, sym, ◌∙◌, ap, subst, arith}
use Rattle.std.specs.Prelude.{slice_get, slice_set, IsTrue}
use Rattle.call_trace.specs.declared.datagram.Message.{Message}
use Rattle.call_trace.specs.declared.datagram.Datagram.{Datagram}
use Rattle.call_trace.specs.declared.datagram.Dialog.{Dialog}
use Rattle.call_trace.specs.declared.call.Settled.{Settled}
use Rattle.call_trace.specs.declared.call.Stage.TheVariants.{Answered}
use Rattle.call_trace.specs.declared.call.Offer.{Offer}
use Rattle.call_trace.specs.declared.call.Call.{Call}
use Rattle.call_trace.specs.Messages.{is_request, is_success, asks, is_offer}
use Rattle.call_trace.specs.Exchanges.{At, TakesFinal, Exchange, IsExchange}
use Rattle.call_trace.specs.Stands.{leg, Offered, SettledIn, IsFirstOffer, CallStands, HasTags, IsCallOf, StandsAfter}
use Rattle.call_trace.specs.Events.{taken_at, sent_at, passed, is_plain, IsUnused, plain}
use Rattle.call_trace.specs.Moves.{PassesOffer, IsNewCall, new_call, reoffered}
use Rattle.call_trace.specs.Listed.{AllOf}
use Rattle.call_trace.proofs.AtLaws.{at_right, at_split}
use Rattle.call_trace.proofs.Members.{all_at, all_append, all_weaker, all_set, any_left, any_set}
use Rattle.call_trace.proofs.Apart.{apart_set, apart_push}
use Rattle.call_trace.proofs.Words.{request_is_no_final, request_is_no_success, request_asks, offer_asks, answer_succeeds, plain_asks}
use Rattle.call_trace.proofs.OneEvent.{came, went, taken_stands, sent_stands, taken_first, FineAsks, IsCopy}
use Rattle.call_trace.proofs.NewExchanges.{from_response, exchange_new, NoNew, idle_no_answer}
use Rattle.call_trace.proofs.Keeps.{Foreign, no_new_serves_none, stand_left, known_more, assembled}

-- of a list with one message after it: one of the list, or the last
pub last_or : (bs : List Message) (w m : Message) (i : ℕ) → slice_get (bs ++ w ∷ []) i ≡ Some m → (slice_get bs i ≡ Some m) ⊎ ((i ≡ length bs) × (w ≡ m))
last_or [] w m zero e = inr (refl, cc)
last_or [] w m (suc i) e = absurd (cc)
last_or (b ∷ bs) w m zero e = inl e
last_or (b ∷ bs) w m (suc i) e = elim (last_or bs w m i e) [ inl q ↦ inl q | inr q ↦ inr (ap suc q.0, q.1) ]

pub last_of : (bs : List Message) (w : Message) → slice_get (bs ++ w ∷ []) (length bs) ≡ Some w
last_of [] w = refl
last_of (b ∷ bs) w = last_of bs w

-- a request is no answer
pub request_no_answer : (methods : List (List ℕ)) (t : List Datagram) (d : Dialog) (e : Exchange) (m : Message) → IsExchange methods t d e → e.answered.message ≡ m → IsTrue (is_request m.kind) → ⊥
request_no_answer methods t d e m x is h =
    request_is_no_success m.kind h (let P : Message → Type 0 = λ v. IsTrue (is_success v.kind) in subst P is (answer_succeeds e.answered.message x.answer))

pub offer_request : (methods : List (List ℕ)) (m : Message) → IsTrue (is_offer methods m) → IsTrue (is_request m.kind)
offer_request methods m h = request_asks methods m (offer_asks methods m h)

-- an event that takes an offer, and sends one after what is plain, makes no exchange
pub asking_makes_none : (methods : List (List ℕ)) (n : ℕ) (t : List Datagram) (x y d : Dialog) (m : Message) (g : List Message) (w : Message) → PassesOffer methods t x y m g w → NoNew methods t (passed n (Some m) (g ++ w ∷ [])) d
asking_makes_none methods n t x y d m g w h e ex =
    let s : List Datagram = passed n (Some m) (g ++ w ∷ []) in
    elim (exchange_new methods n t (Some m) (g ++ w ∷ []) d e ex) [
      | inl o ↦ o.0
      | inr o ↦ (let place : e.answered_at ≡ length t + o.0 = o.1 in
          let behind : length t ≤ e.answered_at = omega arith in
          elim o.3 [
            | came l tk z is ↦ (let same : m ≡ l = cc in absurd (request_no_answer methods (t ++ s) d e m ex (ap (λ v. v.message) is ∙ sym same) (offer_request methods m h.offer_came)))
            | went i l at z is ↦ elim (last_or g w l i at) [
              | inl q ↦ absurd (idle_no_answer methods t s d e n (Some m) l ex behind is (plain (all_at (λ v. IsTrue (is_plain methods v)) g i l h.plain q)))
              | inr q ↦ absurd (request_no_answer methods (t ++ s) d e w ex (ap (λ v. v.message) is ∙ sym q.1) (offer_request methods w h.offer_went))
            ]
          ])
    ]

pub asking_answers_none : (methods : List (List ℕ)) (n : ℕ) (t : List Datagram) (x y : Dialog) (m : Message) (g : List Message) (w a : Message) → PassesOffer methods t x y m g w → (k : ℕ) (r : Datagram) → At (passed n (Some m) (g ++ w ∷ [])) k r → ¬ TakesFinal r a
asking_answers_none methods n t x y m g w a h k r at f =
    let tk : Some m ≡ Some r.message = (taken_first n (Some m) (g ++ w ∷ []) k r at f.taken).1 in
    let same : m ≡ r.message = cc in
    request_is_no_final r.message.kind (let P : Message → Type 0 = λ v. IsTrue (is_request v.kind) in subst P same (offer_request methods m h.offer_came)) f.final

pub asking_foreign : (methods : List (List ℕ)) (n : ℕ) (t : List Datagram) (x y : Dialog) (m : Message) (g : List Message) (w : Message) (c : Call) → PassesOffer methods t x y m g w → Foreign methods t (passed n (Some m) (g ++ w ∷ [])) c
asking_foreign methods n t x y m g w c h = record {
  legs = λ b. asking_makes_none methods n t x y (leg c b) m g w h;
  answered = λ p e k r at f. asking_answers_none methods n t x y m g w p.went h k r at f;
}

pub fine_asking : (methods : List (List ℕ)) (t : List Datagram) (x y : Dialog) (m : Message) (g : List Message) (w : Message) → PassesOffer methods t x y m g w → FineAsks methods t (Some m) (g ++ w ∷ [])
fine_asking methods t x y m g w h = record { each = each; one = one }
  where
    is_last : (i : ℕ) (l : Message) → slice_get (g ++ w ∷ []) i ≡ Some l → IsTrue (asks methods l) → (i ≡ length g) × (w ≡ l)
    is_last i l e a =
        elim (last_or g w l i e) [
          | inl q ↦ absurd (plain_asks methods l (all_at (λ v. IsTrue (is_plain methods v)) g i l h.plain q) a)
          | inr q ↦ q
        ]

    each : (i : ℕ) (l : Message) → slice_get (g ++ w ∷ []) i ≡ Some l → IsTrue (asks methods l) → IsUnused t l.branch ⊎ IsCopy methods t (Some m) l
    each i l e a = inl (let P : Message → Type 0 = λ v. IsUnused t v.branch in subst P (is_last i l e a).1 h.unused)

    one : (i k : ℕ) (l l' : Message) → slice_get (g ++ w ∷ []) i ≡ Some l → slice_get (g ++ w ∷ []) k ≡ Some l' → IsTrue (asks methods l) → IsTrue (asks methods l') → IsUnused t l.branch → IsUnused t l'.branch → i ≡ k
    one i k l l' e e' a a' u u' = (is_last i l e a).0 ∙ sym (is_last k l' e' a').0

-- the offer is open in this event
pub now_offered : (methods : List (List ℕ)) (n : ℕ) (t : List Datagram) (x y : Dialog) (b : Bool) (m : Message) (g : List Message) (w : Message) → PassesOffer methods t x y m g w → (m.to_tag ≡ []) ⊎ (m.to_tag ≡ x.ours)
    → Offered methods (t ++ passed n (Some m) (g ++ w ∷ [])) x y (record { by_caller = b; came = m; went = w })
now_offered methods n t x y b m g w h to =
    let s : List Datagram = passed n (Some m) (g ++ w ∷ []) in (
      length t + 0,
      length t + (1 + length g),
      taken_at n m,
      sent_at n w,
      record {
        at_came = at_right t s 0 (taken_at n m) (taken_stands n (Some m) (g ++ w ∷ []) m refl);
        at_went = at_right t s (1 + length g) (sent_at n w) (sent_stands n (Some m) (g ++ w ∷ []) (length g) w (last_of g w));
        taken = refl;
        sent = refl;
        event = refl;
        came_is = refl;
        went_is = refl;
        offer_came = h.offer_came;
        offer_went = h.offer_went;
        method = h.method;
        came_call = h.came_call;
        came_from = h.came_from;
        came_to = to;
        went_call = h.went_call;
        went_from = h.went_from;
        went_to = h.went_to;
        unanswered = λ i r at f. elim (at_split t s i r at) [
          | inl q ↦ h.unused i r q (from_response r.direction r.message.kind f.taken f.replies.response_kind) f.replies.branch
          | inr q ↦ asking_answers_none methods n t x y m g w w h q.0 r q.2 f
        ];
      },
    )

-- a call with the same dialogs has the same legs
pub legs_same : (c d : Call) → c.caller ≡ d.caller → c.callee ≡ d.callee → (b : Bool) → leg c b ≡ leg d b
legs_same c d e f true = e
legs_same c d e f false = f

pub settled_same : (methods : List (List ℕ)) (t : List Datagram) (c d : Call) (z : Settled) → c.caller ≡ d.caller → c.callee ≡ d.callee → SettledIn methods t (leg c z.by_caller) (leg c (not z.by_caller)) z.session
    → SettledIn methods t (leg d z.by_caller) (leg d (not z.by_caller)) z.session
settled_same methods t c d z e f h =
    let P : Dialog → Type 0 = λ v. SettledIn methods t v (leg c (not z.by_caller)) z.session in
    let Q : Dialog → Type 0 = λ v. SettledIn methods t (leg d z.by_caller) v z.session in
    subst Q (legs_same c d e f (not z.by_caller)) (subst P (legs_same c d e f z.by_caller) h)

pub offered_same : (methods : List (List ℕ)) (t : List Datagram) (c d : Call) (p : Offer) → c.caller ≡ d.caller → c.callee ≡ d.callee → Offered methods t (leg c p.by_caller) (leg c (not p.by_caller)) p
    → Offered methods t (leg d p.by_caller) (leg d (not p.by_caller)) p
offered_same methods t c d p e f h =
    let P : Dialog → Type 0 = λ v. Offered methods t v (leg c (not p.by_caller)) p in
    let Q : Dialog → Type 0 = λ v. Offered methods t (leg d p.by_caller) v p in
    subst Q (legs_same c d e f (not p.by_caller)) (subst P (legs_same c d e f p.by_caller) h)

-- ---- the two moves

pub ask_stands : (methods : List (List ℕ)) (old : List Call) (n : ℕ) (t : List Datagram) (x y : Dialog) (m : Message) (g : List Message) (w : Message) → PassesOffer methods t x y m g w → IsNewCall t old m (new_call x y m w) → StandsAfter methods old n t
    → StandsAfter methods (old ++ new_call x y m w ∷ []) (suc n) (t ++ passed n (Some m) (g ++ w ∷ []))
ask_stands methods old n t x y m g w asks fresh h =
    let c : Call = new_call x y m w in
    let p : Offer = record { by_caller = true; came = m; went = w } in
    let s : List Datagram = passed n (Some m) (g ++ w ∷ []) in
    let offered : Offered methods (t ++ s) x y p = now_offered methods n t x y true m g w asks (inl fresh.no_tag) in
    let first : IsFirstOffer c p = record { by_caller = refl; invite = fresh.invite; no_tag = fresh.no_tag; callee = fresh.callee } in
    assembled methods old (old ++ c ∷ []) n t (Some m) (g ++ w ∷ []) h (fine_asking methods t x y m g w asks)
    (all_append HasTags old (c ∷ []) h.tags (fresh.tags, tt))
    (apart_push old c h.apart fresh.apart)
    (all_append (CallStands methods (t ++ s)) old (c ∷ [])
    (all_weaker (CallStands methods t) (CallStands methods (t ++ s)) (λ d k. stand_left methods t s d (asking_foreign methods n t x y m g w d asks) k) old h.stand) (
      record {
        session = λ z e. absurd (cc);
        offer = λ q e. (let pq : p ≡ q = cc in let P : Offer → Type 0 = λ v. Offered methods (t ++ s) (leg c v.by_caller) (leg c (not v.by_caller)) v in subst P pq offered);
        first = λ e q f. (let pq : p ≡ q = cc in let P : Offer → Type 0 = λ v. IsFirstOffer c v in subst P pq first);
        later = λ z e. absurd (cc);
        begun = λ e. absurd (e refl);
      },
      tt,
    ))
    (known_more methods n t (Some m) (g ++ w ∷ []) old (old ++ c ∷ []) h.events (no_new_serves_none methods t s (λ d. asking_makes_none methods n t x y d m g w asks)) (λ dx dy l. inl (any_left (IsCallOf dx dy) old (c ∷ []) l)) h.known)

-- a call that is changed in its offer alone is a call of the same dialogs
pub listed_same : (c c' : Call) (dx dy : Dialog) → c.stage ≡ c'.stage → c.caller ≡ c'.caller → c.callee ≡ c'.callee → IsCallOf dx dy c → IsCallOf dx dy c'
listed_same c c' dx dy e f g h = record {
  answered = λ a. h.answered (e ∙ a);
  caller = sym f ∙ h.caller;
  callee = sym g ∙ h.callee;
}

pub reoffer_stands : (methods : List (List ℕ)) (old : List Call) (n : ℕ) (t : List Datagram) (k : ℕ) (c : Call) (z : Settled) (b : Bool) (m : Message) (g : List Message) (w : Message) → slice_get old k ≡ Some c → c.stage ≡ Answered z
    → PassesOffer methods t (leg c b) (leg c (not b)) m g w → m.to_tag ≡ (leg c b).ours → StandsAfter methods old n t
    → StandsAfter methods (slice_set old k (reoffered c b m w)) (suc n) (t ++ passed n (Some m) (g ++ w ∷ []))
reoffer_stands methods old n t k c z b m g w at stage asks to h =
    let c' : Call = reoffered c b m w in
    let p : Offer = record { by_caller = b; came = m; went = w } in
    let s : List Datagram = passed n (Some m) (g ++ w ∷ []) in
    let x : Dialog = leg c b in let y : Dialog = leg c (not b) in
    let offered : Offered methods (t ++ s) (leg c' b) (leg c' (not b)) p = offered_same methods (t ++ s) c c' p refl refl (now_offered methods n t x y b m g w asks (inr to)) in
    let stood : AllOf (CallStands methods (t ++ s)) old = all_weaker (CallStands methods t) (CallStands methods (t ++ s)) (λ d l. stand_left methods t s d (asking_foreign methods n t x y m g w d asks) l) old h.stand in
    let here : CallStands methods (t ++ s) c = all_at (CallStands methods (t ++ s)) old k c stood at in
    let tags : HasTags c = all_at HasTags old k c h.tags at in
    assembled methods old (slice_set old k c') n t (Some m) (g ++ w ∷ []) h (fine_asking methods t x y m g w asks)
    (all_set HasTags old k c' h.tags (record { caller = tags.caller; callee = tags.callee; differ = tags.differ }))
    (apart_set old k c c' at (λ v q. q) h.apart)
    (all_set (CallStands methods (t ++ s)) old k c' stood (record {
      session = λ r e. settled_same methods (t ++ s) c c' r refl refl (here.session r e);
      offer = λ q e. (let pq : p ≡ q = cc in let P : Offer → Type 0 = λ v. Offered methods (t ++ s) (leg c' v.by_caller) (leg c' (not v.by_caller)) v in subst P pq offered);
      first = λ e. absurd (cc);
      later = λ r e q f. (let pq : p ≡ q = cc in let P : Offer → Type 0 = λ v. v.came.to_tag ≡ (leg c' v.by_caller).ours in subst P pq (to ∙ ap (λ v. v.ours) (legs_same c c' refl refl b)));
      begun = here.begun;
    }))
    (known_more methods n t (Some m) (g ++ w ∷ []) old (slice_set old k c') h.events (no_new_serves_none methods t s (λ d. asking_makes_none methods n t x y d m g w asks))
    (λ dx dy l. inl (any_set (IsCallOf dx dy) old k c c' at (λ q. listed_same c c' dx dy refl refl refl q) l)) h.known)
