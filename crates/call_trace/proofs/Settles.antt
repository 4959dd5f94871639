-- An answer is passed on: the first one of a call, or a later one.
use Rattle.std.proofs.Common.{◌≡◌, ℕ, suc, ◌<◌, ◌≤◌, List, [], ◌∷◌, ◌++◌, length, Bool, true, not, Some, inl, inr, refl, sym, ◌∙◌, ap, subst, arith}
use Rattle.std.specs.Prelude.{slice_get, slice_set, IsTrue}
use Rattle.call_trace.specs.declared.datagram.Direction.TheVariants.{Taken, Sent}
use Rattle.call_trace.specs.declared.datagram.Message.{Message}
use Rattle.call_trace.specs.declared.datagram.Datagram.{Datagram}
use Rattle.call_trace.specs.declared.datagram.Dialog.{Dialog}
use Rattle.call_trace.specs.declared.call.Session.{Session}
use Rattle.call_trace.specs.declared.call.Settled.{Settled}
use Rattle.call_trace.specs.declared.call.Stage.TheVariants.{Asked, Answered}
use Rattle.call_trace.specs.declared.call.Offer.{Offer}
use Rattle.call_trace.specs.declared.call.Call.{Call}
use Rattle.call_trace.specs.Messages.{invite, ack, is_request, is_method, is_listed, asks}
use Rattle.call_trace.specs.Dialogs.{our_tag, dialog_of}
use Rattle.call_trace.specs.Exchanges.{At, TakesFinal, Exchange, IsExchange}
use Rattle.call_trace.specs.Passing.{IsPassedOn}
use Rattle.call_trace.specs.Calls.{IsFirst, CallFrom}
use Rattle.call_trace.specs.Stands.{leg, IsOffered, Offered, IsSettled, SettledIn, IsFirstOffer, CallStands, IsTagOf, Apart, HasTags, IsCallOf, AsksAt, AskedAt, StandsAfter}
use Rattle.call_trace.specs.Events.{taken_at, sent_at}
use Rattle.call_trace.specs.Moves.{IsAckIn, PassesAnswer, tagged, settled_first, settled_later}
use Rattle.call_trace.proofs.AtLaws.{at_within, at_same, at_left, at_split}
use Rattle.call_trace.proofs.Growing.{called_left, ended_left}
use Rattle.call_trace.proofs.Members.{all_at, all_both, all_set, any_set, any_new}
use Rattle.call_trace.proofs.Apart.{leg_tag, leg_some, legs_differ, set_others, apart_set}
use Rattle.call_trace.proofs.Words.{not_both, request_of, request_asks, offer_asks, other_asks}
use Rattle.call_trace.proofs.OneEvent.{Events, event_of, came, went, part_of, sent_part, taken_first, OneTaken, one_taken_more, FineAsks, OneBirth, one_birth_more}
use Rattle.call_trace.proofs.NewExchanges.{tag_response_taken, tag_response_sent, exchange_tag, exchange_new}
use Rattle.call_trace.proofs.Keeps.{Foreign, call_split, stand_left, assembled}
use Rattle.call_trace.proofs.Offering.{last_or, request_no_answer, legs_same}
use Rattle.call_trace.proofs.Settling.{settling, served, made, dialog_served, dialog_made, settled_now}

-- neither the ACK nor the 2xx may carry an offer
pub fine_settling : (methods : List (List ℕ)) (t : List Datagram) (x y : Dialog) (p : Offer) (s : Session) (m : Message) (a : List Message) (u : Message) → IsTrue (not (is_listed methods ack)) → PassesAnswer t x y p s m a u → FineAsks methods t (Some m) (a ++ u ∷ [])
fine_settling methods t x y p s m a u acks h = record { each = λ i l e f. absurd (none i l e f); one = λ i k l l' e e' f f' g g'. absurd (none i l e f) }
  where
    none : (i : ℕ) (l : Message) → slice_get (a ++ u ∷ []) i ≡ Some l → IsTrue (asks methods l) → ⊥
    none i l e f =
        elim (last_or a u l i e) [
          | inl q ↦ other_asks methods ack l acks (all_at (IsAckIn t y u) a i l h.acknowledged q).ack f
          | inr q ↦ not_both (is_request u.kind) h.replies_went.response_kind (request_asks methods u (let P : Message → Type 0 = λ v. IsTrue (asks methods v) in subst P (sym q.1) f))
        ]

-- calls that share no tag with x and y are left alone
settling_foreign : (methods : List (List ℕ)) (t : List Datagram) (n : ℕ) (x y y' : Dialog) (p : Offer) (s : Session) (i k : ℕ) (ca we : Datagram) (m : Message) (a : List Message) (u : Message) (c d : Call) → IsOffered methods t x y p i k ca we → PassesAnswer t x y' p s m a u
    → CallStands methods t d → HasTags d → Apart d c → IsTagOf c x.ours → IsTagOf c y.ours → Foreign methods t (settling n m a u) d
settling_foreign methods t n x y y' p s i k ca we m a u c d o h stand tags apart tag_x tag_y = record { legs = legs; answered = answered }
  where
    from_y : m.from_tag ≡ y.ours
    from_y = h.replies_came.from_tag ∙ o.went_from

    here : IsTagOf c m.from_tag
    here = let P : List ℕ → Type 0 = λ v. IsTagOf c v in subst P (sym from_y) tag_y

    legs : (b : Bool) (e : Exchange) → IsExchange methods (t ++ settling n m a u) (leg d b) e → e.answered_at < length t
    legs b e ex =
        elim (exchange_new methods n t (Some m) (a ++ u ∷ []) (leg d b) e ex) [
          | inl q ↦ q.0
          | inr q ↦ (let tag : our_tag e.answered ≡ (leg d b).ours = exchange_tag methods (t ++ settling n m a u) (leg d b) e ex (leg_some d b tags) in
              elim q.3 [
                | came l tk z is ↦ (let same : m ≡ l = cc in
                    let eq : e.answered ≡ taken_at n m = is ∙ ap (λ v. taken_at n v) (sym same) in
                    let of : our_tag (taken_at n m) ≡ m.from_tag = tag_response_taken (taken_at n m) refl h.replies_came.response_kind in
                    let at : (leg d b).ours ≡ m.from_tag = sym tag ∙ ap our_tag eq ∙ of in
                    absurd (apart (leg d b).ours (leg_tag d b) (let P : List ℕ → Type 0 = λ v. IsTagOf c v in subst P (sym at) here)))
                | went j l get z is ↦ elim (last_or a u l j get) [
                  | inl r ↦ absurd (request_no_answer methods (t ++ settling n m a u) (leg d b) e l ex (ap (λ v. v.message) is) (request_of ack l (all_at (IsAckIn t y' u) a j l h.acknowledged r).ack))
                  | inr r ↦ (let eq : e.answered ≡ sent_at n u = is ∙ ap (λ v. sent_at n v) (sym r.1) in
                      let of : our_tag (sent_at n u) ≡ u.to_tag = tag_response_sent (sent_at n u) refl h.replies_went.response_kind in
                      let at : (leg d b).ours ≡ x.ours = sym tag ∙ ap our_tag eq ∙ of ∙ h.to_tag in
                      absurd (apart (leg d b).ours (leg_tag d b) (let P : List ℕ → Type 0 = λ v. IsTagOf c v in subst P (sym at) tag_x)))
                ]
              ])
        ]

    answered : (q : Offer) → d.offer ≡ Some q → (j : ℕ) (r : Datagram) → At (settling n m a u) j r → ¬ TakesFinal r q.went
    answered q e j r at f =
        let g : Offered methods t (leg d q.by_caller) (leg d (not q.by_caller)) q = stand.offer q e in
        let tk : Some m ≡ Some r.message = (taken_first n (Some m) (a ++ u ∷ []) j r at f.taken).1 in
        let same : m ≡ r.message = cc in
        let one : m.from_tag ≡ (leg d (not q.by_caller)).ours = ap (λ v. v.from_tag) same ∙ f.replies.from_tag ∙ g.4.went_from in
        apart (leg d (not q.by_caller)).ours (leg_tag d (not q.by_caller)) (let P : List ℕ → Type 0 = λ v. IsTagOf c v in subst P one here)

-- of a new pair that was passed on, the 2xx that was sent and the one that was taken are those of this event
new_pair : (methods : List (List ℕ)) (t : List Datagram) (n : ℕ) (x y : Dialog) (p : Offer) (s : Session) (m : Message) (a : List Message) (u : Message) (dx dy : Dialog) (e f : Exchange) → Events n t → PassesAnswer t x y p s m a u → length t ≤ e.answered_at
    → IsPassedOn e f → IsExchange methods (t ++ settling n m a u) dx e → IsExchange methods (t ++ settling n m a u) dy f → (e.answered ≡ sent_at n u) × (f.answered ≡ taken_at n m)
new_pair methods t n x y p s m a u dx dy e f ev h behind on ex ey =
    elim (at_split t (settling n m a u) e.answered_at e.answered ex.at_answered) [
      | inl q ↦ (let lt : e.answered_at < length t = at_within t e.answered_at e.answered q in absurd (omega arith))
      | inr q ↦ (let w = sent_part n (Some m) (a ++ u ∷ []) q.0 e.answered q.2 on.answer.sent in
          let en : e.answered.event ≡ n = event_of n (Some m) (a ++ u ∷ []) q.0 e.answered q.2 in
          let one : e.answered ≡ sent_at n u = elim (last_or a u w.1 w.0 w.2) [
            | inl r ↦ absurd (request_no_answer methods (t ++ settling n m a u) dx e w.1 ex (ap (λ v. v.message) w.4) (request_of ack w.1 (all_at (IsAckIn t y u) a w.0 w.1 h.acknowledged r).ack))
            | inr r ↦ w.4 ∙ ap (λ v. sent_at n v) (sym r.1)
          ] in
          let two : f.answered ≡ taken_at n m = elim (at_split t (settling n m a u) f.answered_at f.answered ey.at_answered) [
            | inl r ↦ (let l : f.answered.event < n = ev f.answered_at f.answered r in let g : f.answered.event ≡ e.answered.event = on.answer.event in absurd (omega arith))
            | inr r ↦ elim (part_of n (Some m) (a ++ u ∷ []) r.0 f.answered r.2) [
              | came l tk z is ↦ (let same : m ≡ l = cc in is ∙ ap (λ v. taken_at n v) (sym same))
              | went j l get z is ↦ (let g : f.answered.direction ≡ Taken = on.answer.taken in let g' : f.answered.direction ≡ Sent = ap (λ v. v.direction) is in absurd (cc))
            ]
          ] in
          (one, two))
    ]

-- what one event asked: a request of ours with a branch determines the request in whose event it was sent
pub asked_same : (methods : List (List ℕ)) (t : List Datagram) (i k i' k' : ℕ) (p q p' q' : Datagram) → OneBirth methods t → OneTaken t → AskedAt methods t i p → AsksAt methods t k q → AskedAt methods t i' p' → AsksAt methods t k' q'
    → p.event ≡ q.event → p'.event ≡ q'.event → q.message.branch ≡ q'.message.branch → (i ≡ i') × (k ≡ k')
asked_same methods t i k i' k' p q p' q' birth one hp hq hp' hq' e e' same =
    let kk : k ≡ k' = birth k k' i i' q q' p p' hq hq' hp hp' e e' same in
    let P : ℕ → Type 0 = λ v. At t v q in
    let qq : q ≡ q' = at_same t k' q q' (subst P kk hq.at) hq'.at in
    (one i i' p p' hp.at hp'.at hp.taken hp'.taken (e ∙ ap (λ v. v.event) qq ∙ sym e'), kk)

pub settle_first_stands : (methods : List (List ℕ)) (old : List Call) (n : ℕ) (t : List Datagram) (j : ℕ) (c : Call) (p : Offer) (s : Session) (m : Message) (a : List Message) (u : Message) → slice_get old j ≡ Some c → c.stage ≡ Asked → c.offer ≡ Some p
    → PassesAnswer t c.caller (tagged c.callee m.to_tag) p s m a u → StandsAfter methods old n t
    → StandsAfter methods (slice_set old j (settled_first c m.to_tag s)) (suc n) (t ++ settling n m a u)
settle_first_stands methods old n t j c p s m a u at stage pe h st =
    let x : Dialog = c.caller in let y : Dialog = c.callee in let y' : Dialog = tagged c.callee m.to_tag in
    let c' : Call = settled_first c m.to_tag s in
    let here : CallStands methods t c = all_at (CallStands methods t) old j c st.stand at in
    let tags : HasTags c = all_at HasTags old j c st.tags at in
    let first : IsFirstOffer c p = here.first stage p pe in
    let off : Offered methods t x y p = (let P : Bool → Type 0 = λ b. Offered methods t (leg c b) (leg c (not b)) p in subst P first.by_caller (here.offer p pe)) in
    let i : ℕ = off.0 in let k : ℕ = off.1 in let ca : Datagram = off.2 in let we : Datagram = off.3 in
    let o : IsOffered methods t x y p i k ca we = off.4 in
    let named : dialog_of (taken_at n m) ≡ y' = dialog_made t n x y y' p s i k ca we m a u methods o h in
    let sets : IsSettled methods (t ++ settling n m a u) x y' s (served t n i ca a u) (made t n k we m) = settled_now methods t n x y y' p s i k ca we m a u o h (inr named) tags.callee tags.differ in
    let first_x : IsFirst methods (t ++ settling n m a u) x (served t n i ca a u) = record {
      exchange = sets.last_x.exchange;
      invite = (let P : Message → Type 0 = λ v. IsTrue (is_method invite v.method) in subst P (sym o.came_is) first.invite);
      no_tag = ap (λ v. v.to_tag) o.came_is ∙ first.no_tag;
      named = dialog_served t n x y y' p s i k ca we m a u methods o h;
    } in
    let first_y : IsFirst methods (t ++ settling n m a u) y' (made t n k we m) = record {
      exchange = sets.last_y.exchange;
      invite = (let P : List ℕ → Type 0 = λ v. IsTrue (is_method invite v) in subst P (o.method ∙ ap (λ v. v.method) (sym o.went_is)) first.invite);
      no_tag = ap (λ v. v.to_tag) o.went_is ∙ o.went_to ∙ first.callee;
      named = named;
    } in
    let call : CallFrom methods (t ++ settling n m a u) x y' = (served t n i ca a u, made t n k we m, record { first_x = first_x; first_y = first_y; passed_on = sets.passed_on }) in
    assembled methods old (slice_set old j c') n t (Some m) (a ++ u ∷ []) st (fine_settling methods t x y' p s m a u st.offering.acks h)
    (all_set HasTags old j c' st.tags (record { caller = tags.caller; callee = tags.callee; differ = tags.differ }))
    (apart_set old j c c' at (λ v q. q) st.apart)
    (set_others (λ d. HasTags d × CallStands methods t d) (CallStands methods (t ++ settling n m a u)) old j c c' st.apart at (all_both HasTags (CallStands methods t) old st.tags st.stand)
    (λ d apart g. stand_left methods t (settling n m a u) d (settling_foreign methods t n x y y' p s i k ca we m a u c d o h g.1 g.0 apart (inl refl) (inr refl)) g.1)
    (record {
      session = λ z e. (let zz : Settled = record { by_caller = true; session = s } in let same : zz ≡ z = cc in
          let P : Settled → Type 0 = λ v. SettledIn methods (t ++ settling n m a u) (leg c' v.by_caller) (leg c' (not v.by_caller)) v.session in
          subst P same (served t n i ca a u, made t n k we m, sets));
      offer = λ q e. absurd (cc);
      first = λ e. absurd (cc);
      later = λ z e q f. absurd (cc);
      begun = λ e. call;
    }))
    (λ dx dy g. elim (call_split methods n t (Some m) (a ++ u ∷ []) dx dy st.events g) [
      | inl q ↦ elim (st.known dx dy q) [
        | inl l ↦ inl (any_set (IsCallOf dx dy) old j c c' at (λ r. absurd (r.answered stage)) l)
        | inr r ↦ inr (ended_left t (settling n m a u) dx r.0, ended_left t (settling n m a u) dy r.1)
      ]
      | inr q ↦ inl (any_new (IsCallOf dx dy) old j c c' at (record {
        answered = λ e. absurd (cc);
        caller = sym first_x.named ∙ ap dialog_of (sym (new_pair methods t n x y' p s m a u dx dy q.0 q.1 st.events h q.2 q.3 q.4.exchange q.5.exchange).0) ∙ q.4.named;
        callee = sym named ∙ ap dialog_of (sym (new_pair methods t n x y' p s m a u dx dy q.0 q.1 st.events h q.2 q.3 q.4.exchange q.5.exchange).1) ∙ q.5.named;
      }))
    ])

pub settle_later_stands : (methods : List (List ℕ)) (old : List Call) (n : ℕ) (t : List Datagram) (j : ℕ) (c : Call) (z : Settled) (p : Offer) (s : Session) (m : Message) (a : List Message) (u : Message) → slice_get old j ≡ Some c → c.stage ≡ Answered z → c.offer ≡ Some p
    → PassesAnswer t (leg c p.by_caller) (leg c (not p.by_caller)) p s m a u → StandsAfter methods old n t
    → StandsAfter methods (slice_set old j (settled_later c p.by_caller s)) (suc n) (t ++ settling n m a u)
settle_later_stands methods old n t j c z p s m a u at stage pe h st =
    let x : Dialog = leg c p.by_caller in let y : Dialog = leg c (not p.by_caller) in
    let c' : Call = settled_later c p.by_caller s in
    let here : CallStands methods t c = all_at (CallStands methods t) old j c st.stand at in
    let tags : HasTags c = all_at HasTags old j c st.tags at in
    let off : Offered methods t x y p = here.offer p pe in
    let i : ℕ = off.0 in let k : ℕ = off.1 in let ca : Datagram = off.2 in let we : Datagram = off.3 in
    let o : IsOffered methods t x y p i k ca we = off.4 in
    let tt' : List Datagram = t ++ settling n m a u in
    let sets : IsSettled methods tt' x y s (served t n i ca a u) (made t n k we m) = settled_now methods t n x y y p s i k ca we m a u o h (inl refl) (leg_some c (not p.by_caller) tags) (legs_differ c p.by_caller tags) in
    let sets' : SettledIn methods tt' (leg c' p.by_caller) (leg c' (not p.by_caller)) s =
    (let P : Dialog → Type 0 = λ v. SettledIn methods tt' v y s in let Q : Dialog → Type 0 = λ v. SettledIn methods tt' (leg c' p.by_caller) v s in
    subst Q (legs_same c c' refl refl (not p.by_caller)) (subst P (legs_same c c' refl refl p.by_caller) (served t n i ca a u, made t n k we m, sets))) in
    let fine : FineAsks methods t (Some m) (a ++ u ∷ []) = fine_settling methods t x y p s m a u st.offering.acks h in
    let asked : AskedAt methods tt' i ca = record { at = at_left t (settling n m a u) i ca o.at_came; taken = o.taken; asks = (let P : Message → Type 0 = λ v. IsTrue (asks methods v) in subst P (sym o.came_is) (offer_asks methods p.came o.offer_came)) } in
    let asks_y : AsksAt methods tt' k we = record { at = at_left t (settling n m a u) k we o.at_went; sent = o.sent; asks = (let P : Message → Type 0 = λ v. IsTrue (asks methods v) in subst P (sym o.went_is) (offer_asks methods p.went o.offer_went)) } in
    assembled methods old (slice_set old j c') n t (Some m) (a ++ u ∷ []) st fine
    (all_set HasTags old j c' st.tags (record { caller = tags.caller; callee = tags.callee; differ = tags.differ }))
    (apart_set old j c c' at (λ v q. q) st.apart)
    (set_others (λ d. HasTags d × CallStands methods t d) (CallStands methods tt') old j c c' st.apart at (all_both HasTags (CallStands methods t) old st.tags st.stand)
    (λ d apart g. stand_left methods t (settling n m a u) d (settling_foreign methods t n x y y p s i k ca we m a u c d o h g.1 g.0 apart (leg_tag c p.by_caller) (leg_tag c (not p.by_caller))) g.1)
    (record {
      session = λ r e. (let zz : Settled = record { by_caller = p.by_caller; session = s } in let same : zz ≡ r = cc in
          let P : Settled → Type 0 = λ v. SettledIn methods tt' (leg c' v.by_caller) (leg c' (not v.by_caller)) v.session in
          subst P same sets');
      offer = λ q e. absurd (cc);
      first = λ e. absurd (cc);
      later = λ r e q f. absurd (cc);
      begun = λ e. called_left methods t (settling n m a u) c.caller c.callee (here.begun (λ f. (let g : Answered z ≡ Asked = sym stage ∙ f in cc)));
    }))
    (λ dx dy g. elim (call_split methods n t (Some m) (a ++ u ∷ []) dx dy st.events g) [
      | inl q ↦ elim (st.known dx dy q) [
        | inl l ↦ inl (any_set (IsCallOf dx dy) old j c c' at (λ r. record { answered = λ e. absurd (cc); caller = r.caller; callee = r.callee }) l)
        | inr r ↦ inr (ended_left t (settling n m a u) dx r.0, ended_left t (settling n m a u) dy r.1)
      ]
      | inr q ↦ absurd (no_pair dx dy q.0 q.1 q.2 q.3 q.4 q.5 i k ca we o asked asks_y tags fine here)
    ])
  where
    -- a later offer has a To tag, so what is passed on now begins no call
    no_pair : (dx dy : Dialog) (e f : Exchange) → length t ≤ e.answered_at → IsPassedOn e f → IsFirst methods (t ++ settling n m a u) dx e → IsFirst methods (t ++ settling n m a u) dy f
        → (i k : ℕ) (ca we : Datagram) → IsOffered methods t (leg c p.by_caller) (leg c (not p.by_caller)) p i k ca we → AskedAt methods (t ++ settling n m a u) i ca → AsksAt methods (t ++ settling n m a u) k we → HasTags c
        → FineAsks methods t (Some m) (a ++ u ∷ []) → CallStands methods t c → ⊥
    no_pair dx dy e f behind on fe ff i k ca we o asked asks_y tags fine here =
        let tt' : List Datagram = t ++ settling n m a u in
        let is = new_pair methods t n (leg c p.by_caller) (leg c (not p.by_caller)) p s m a u dx dy e f st.events h behind on fe.exchange ff.exchange in
        let birth : OneBirth methods tt' = one_birth_more methods n t (Some m) (a ++ u ∷ []) fine st.events st.one_birth in
        let one : OneTaken tt' = one_taken_more n t (Some m) (a ++ u ∷ []) st.events st.one_taken in
        let branch : f.asked.message.branch ≡ we.message.branch = sym ff.exchange.replies.branch ∙ ap (λ v. v.message.branch) is.1 ∙ h.replies_came.branch ∙ ap (λ v. v.branch) (sym o.went_is) in
        let mine : AskedAt methods tt' e.asked_at e.asked = record { at = fe.exchange.at_asked; taken = on.offer.taken; asks = offer_asks methods e.asked.message fe.exchange.offer } in
        let theirs : AsksAt methods tt' f.asked_at f.asked = record { at = ff.exchange.at_asked; sent = on.offer.sent; asks = offer_asks methods f.asked.message ff.exchange.offer } in
        let same = asked_same methods tt' e.asked_at f.asked_at i k e.asked f.asked ca we birth one mine theirs asked asks_y on.offer.event o.event branch in
        let P : ℕ → Type 0 = λ v. At tt' v e.asked in
        let eq : e.asked ≡ ca = at_same tt' i e.asked ca (subst P same.0 fe.exchange.at_asked) asked.at in
        let to : p.came.to_tag ≡ (leg c p.by_caller).ours = here.later z stage p pe in
        leg_some c p.by_caller tags (sym to ∙ ap (λ v. v.to_tag) (sym o.came_is) ∙ ap (λ v. v.message.to_tag) (sym eq) ∙ fe.no_tag)
