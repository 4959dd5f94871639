-- Each move keeps which dialogs are live.
use Rattle.std.proofs.Common.{◌≡◌, ◌≢◌, ℕ, ◌+◌, List, [], ◌∷◌, ◌++◌, length, Bool, true, false, not, Option, Some, ◌⊎◌, inl, inr, refl, sym, ◌∙◌, ap, subst}
use Rattle.std.specs.Prelude.{slice_get, slice_set, remove, IsTrue}
use Rattle.call_trace.specs.declared.datagram.Direction.TheVariants.{Sent}
use Rattle.call_trace.specs.declared.datagram.Message.{Message}
use Rattle.call_trace.specs.declared.datagram.Datagram.{Datagram}
use Rattle.call_trace.specs.declared.datagram.Dialog.{Dialog}
use Rattle.call_trace.specs.declared.call.Session.{Session}
use Rattle.call_trace.specs.declared.call.Settled.{Settled}
use Rattle.call_trace.specs.declared.call.Stage.TheVariants.{Asked, Answered}
use Rattle.call_trace.specs.declared.call.Offer.{Offer}
use Rattle.call_trace.specs.declared.call.Call.{Call}
use Rattle.call_trace.specs.Messages.{invite, ack, bye, is_request, is_success, is_method, is_request_of, is_listed, asks, accepts}
use Rattle.call_trace.specs.Dialogs.{dialog_of}
use Rattle.call_trace.specs.Calls.{IsOwnBranch, Begun, Ended}
use Rattle.call_trace.specs.Stands.{leg, Offered, IsFirstOffer, CallStands, AreOffering, StandsAfter}
use Rattle.call_trace.specs.Lives.{IsEnding, IsLegOf, SparesCall, NoBye, LegsStand, LivesAfter}
use Rattle.call_trace.specs.Events.{sent_at, passed, dialog_sent, is_plain, IsIdle, plain, EndsNow, IsParting, idle}
use Rattle.call_trace.specs.Moves.{PassesOffer, IsNewCall, new_call, reoffered, without_offer, IsAckIn, PassesAnswer, tagged, settled_first, settled_later, ending, Leaves}
use Rattle.call_trace.specs.Listed.{AllOf, AnyOf}
use Rattle.call_trace.proofs.AtLaws.{at_right, at_split}
use Rattle.call_trace.proofs.Members.{all_at, all_append, all_weaker, all_set, all_remove, any_left, any_set, any_new, any_remove}
use Rattle.call_trace.proofs.Words.{not_both, and_both, and_right, request_of, request_is_no_success, answer_succeeds, ok_is_success, offer_asks, reply_is_listed, method_is, ack_is_not_bye, ack_is_not_invite}
use Rattle.call_trace.proofs.OneEvent.{sent_part, sent_stands, used_by_request, FineAsks}
use Rattle.call_trace.proofs.NewExchanges.{tag_request_sent}
use Rattle.call_trace.proofs.Keeps.{fine_idle}
use Rattle.call_trace.proofs.Offering.{last_or, fine_asking, legs_same}
use Rattle.call_trace.proofs.Settling.{settling, dialog_served}
use Rattle.call_trace.proofs.Settles.{fine_settling}
use Rattle.call_trace.proofs.Parting.{fine_parting, ends_now, leaves_now}
use Rattle.call_trace.proofs.Living.{IsFine, parting, asking, begins, BegunLegs, Grown, grown, lives_more}

-- ---- a call with the same dialogs

spares_same : (p : Datagram) (c c' : Call) → c.caller ≡ c'.caller → c.callee ≡ c'.callee → (¬ IsEnding c'.stage → ¬ IsEnding c.stage) → (c'.stage ≡ Asked → c.stage ≡ Asked) → SparesCall p c → SparesCall p c'
spares_same p c c' e f g h q = record {
  caller = λ x y. q.caller (g x) (y ∙ sym e);
  callee = λ x y. q.callee (g x) (y ∙ sym f);
  first = λ x y. q.first (h x) (y ∙ ap (λ v. v.ours) (sym f));
}

no_bye_same : (t : List Datagram) (c c' : Call) → c.caller ≡ c'.caller → c.callee ≡ c'.callee → (¬ IsEnding c'.stage → ¬ IsEnding c.stage) → (c'.stage ≡ Asked → c.stage ≡ Asked) → NoBye t c → NoBye t c'
no_bye_same t c c' e f g h n = record {
  sent = λ i p at out b. spares_same p c c' e f g h (n.sent i p at out b);
  answered = λ x i p at out k b tag. n.answered (g x) i p at out k b (elim tag [ inl q ↦ inl (q ∙ ap (λ v. v.ours) (sym e)) | inr q ↦ inr (q ∙ ap (λ v. v.ours) (sym f)) ]);
}

leg_kept : (d : Dialog) (c c' : Call) → c.caller ≡ c'.caller → c.callee ≡ c'.callee → (c'.stage ≡ Asked → c.stage ≡ Asked) → IsLegOf d c → IsLegOf d c'
leg_kept d c c' e f h l = record { answered = λ x. l.answered (h x); leg = elim l.leg [ inl q ↦ inl (sym e ∙ q) | inr q ↦ inr (sym f ∙ q) ] }

all_grown : (methods : List (List ℕ)) (n : ℕ) (t : List Datagram) (taken : Option Message) (sent : List Message) (cs : List Call) → AreOffering methods → FineAsks methods t taken sent → AllOf (LegsStand t) cs → AllOf (Grown t (passed n taken sent)) cs
all_grown methods n t taken sent cs off fine h = all_weaker (LegsStand t) (Grown t (passed n taken sent)) (λ c g. grown methods n t taken sent c off fine g) cs h

all_idle : (methods : List (List ℕ)) (t : List Datagram) (taken : Option Message) (sent : List Message) (new : List Call) → AllOf (IsIdle methods t taken) sent → AllOf (IsFine methods t taken sent new) sent
all_idle methods t taken sent new h = all_weaker (IsIdle methods t taken) (IsFine methods t taken sent new) (λ m g. parting (idle g)) sent h

all_parting : (methods : List (List ℕ)) (t : List Datagram) (taken : Option Message) (sent : List Message) (new : List Call) → AllOf (IsParting methods t taken sent new) sent → AllOf (IsFine methods t taken sent new) sent
all_parting methods t taken sent new h = all_weaker (IsParting methods t taken sent new) (IsFine methods t taken sent new) (λ m g. parting g) sent h

-- ---- the moves

asking_fine : (methods : List (List ℕ)) (t : List Datagram) (new : List Call) (x y : Dialog) (m : Message) (g : List Message) (w : Message) → PassesOffer methods t x y m g w → AllOf (IsFine methods t (Some m) (g ++ w ∷ []) new) (g ++ w ∷ [])
asking_fine methods t new x y m g w h =
    let P : Message → Type 0 = λ v. IsFine methods t (Some m) (g ++ w ∷ []) new v in
    all_append P g (w ∷ []) (all_weaker (λ v. IsTrue (is_plain methods v)) P (λ v e. parting (idle (plain e))) g h.plain) (asking (offer_asks methods w h.offer_went), tt)

-- a BYE of ours names a dialog by its From tag
bye_tag : (p : Datagram) (d : Dialog) → p.direction ≡ Sent → IsTrue (is_request_of bye p.message) → dialog_of p ≡ d → p.message.from_tag ≡ d.ours
bye_tag p d out b e = sym (tag_request_sent p out (request_of bye p.message b)) ∙ ap (λ v. v.ours) e

pub ask_lives : (methods : List (List ℕ)) (old : List Call) (n : ℕ) (t : List Datagram) (x y : Dialog) (m : Message) (g : List Message) (w : Message) → AreOffering methods → PassesOffer methods t x y m g w → IsNewCall t old m (new_call x y m w) → LivesAfter old t
    → LivesAfter (old ++ new_call x y m w ∷ []) (t ++ passed n (Some m) (g ++ w ∷ []))
ask_lives methods old n t x y m g w off h fresh l =
    let c : Call = new_call x y m w in
    let quiet : NoBye t c = record {
      sent = λ i p at out b. record {
        caller = λ e f. fresh.caller_new.from i p at out b (bye_tag p x out b f);
        callee = λ e f. fresh.callee_new.from i p at out b (bye_tag p y out b f);
        first = λ e f. fresh.callee_new.from i p at out b f;
      };
      answered = λ e i p at out k b tag. elim tag [ inl q ↦ fresh.caller_new.to i p at out k b q | inr q ↦ fresh.callee_new.to i p at out k b q ];
    } in
    lives_more methods n t (Some m) (g ++ w ∷ []) old (old ++ c ∷ []) off (asking_fine methods t (old ++ c ∷ []) x y m g w h)
    (all_append (Grown t (passed n (Some m) (g ++ w ∷ []))) old (c ∷ []) (all_grown methods n t (Some m) (g ++ w ∷ []) old off (fine_asking methods t x y m g w h) l.legs)
    ((quiet, record { caller = λ e. absurd (e refl); callee = λ e. absurd (e refl); ending = λ b e. absurd (cc) }), tt))
    (λ d k. inl (any_left (IsLegOf d) old (c ∷ []) k)) l

-- one call is changed in its offer alone
offer_changed : (methods : List (List ℕ)) (old : List Call) (n : ℕ) (t : List Datagram) (taken : Option Message) (sent : List Message) (k : ℕ) (c c' : Call) → AreOffering methods → FineAsks methods t taken sent → AllOf (IsFine methods t taken sent (slice_set old k c')) sent
    → slice_get old k ≡ Some c → c.caller ≡ c'.caller → c.callee ≡ c'.callee → c.stage ≡ c'.stage → LivesAfter old t → LivesAfter (slice_set old k c') (t ++ passed n taken sent)
offer_changed methods old n t taken sent k c c' off fine h at e f g l =
    let s : List Datagram = passed n taken sent in
    let all : AllOf (Grown t s) old = all_grown methods n t taken sent old off fine l.legs in
    let here : Grown t s c = all_at (Grown t s) old k c all at in
    let P : Dialog → Type 0 = λ v. Begun (t ++ s) v in let Q : Dialog → Type 0 = λ v. Ended (t ++ s) v in
    lives_more methods n t taken sent old (slice_set old k c') off h
    (all_set (Grown t s) old k c' all (
      no_bye_same t c c' e f (λ a b. a (subst (λ v. IsEnding v) g b)) (λ a. g ∙ a) here.0,
      record {
        caller = λ a. subst P e (here.1.caller (λ b. a (sym g ∙ b)));
        callee = λ a. subst P f (here.1.callee (λ b. a (sym g ∙ b)));
        ending = λ b a. subst Q (legs_same c c' e f b) (here.1.ending b (g ∙ a));
      },
    ))
    (λ d q. inl (any_set (IsLegOf d) old k c c' at (λ r. leg_kept d c c' e f (λ a. g ∙ a) r) q)) l

pub reoffer_lives : (methods : List (List ℕ)) (old : List Call) (n : ℕ) (t : List Datagram) (k : ℕ) (c : Call) (b : Bool) (x y : Dialog) (m : Message) (g : List Message) (w : Message) → AreOffering methods → slice_get old k ≡ Some c → PassesOffer methods t x y m g w → LivesAfter old t
    → LivesAfter (slice_set old k (reoffered c b m w)) (t ++ passed n (Some m) (g ++ w ∷ []))
reoffer_lives methods old n t k c b x y m g w off at h l =
    offer_changed methods old n t (Some m) (g ++ w ∷ []) k c (reoffered c b m w) off (fine_asking methods t x y m g w h) (asking_fine methods t (slice_set old k (reoffered c b m w)) x y m g w h) at refl refl refl l

pub release_lives : (methods : List (List ℕ)) (old : List Call) (n : ℕ) (t : List Datagram) (taken : Option Message) (sent : List Message) (k : ℕ) (c : Call) → AreOffering methods → slice_get old k ≡ Some c → AllOf (IsIdle methods t taken) sent → LivesAfter old t
    → LivesAfter (slice_set old k (without_offer c)) (t ++ passed n taken sent)
release_lives methods old n t taken sent k c off at h l =
    offer_changed methods old n t taken sent k c (without_offer c) off (fine_idle methods t taken sent off.acks h) (all_idle methods t taken sent (slice_set old k (without_offer c)) h) at refl refl refl l

-- ---- an answer

-- the ACK and the 2xx begin the two legs
settling_fine : (methods : List (List ℕ)) (t : List Datagram) (x y : Dialog) (p : Offer) (s : Session) (m : Message) (a : List Message) (u : Message) (new : List Call) → AreOffering methods → IsTrue (asks methods p.came) → PassesAnswer t x y p s m a u → dialog_sent u ≡ x
    → ((d : Dialog) → (d ≡ x) ⊎ (d ≡ y) → AnyOf (IsLegOf d) new) → AllOf (IsFine methods t (Some m) (a ++ u ∷ []) new) (a ++ u ∷ [])
settling_fine methods t x y p s m a u new off asked h named legs =
    let F : Message → Type 0 = λ v. IsFine methods t (Some m) (a ++ u ∷ []) new v in
    all_append F a (u ∷ [])
    (all_weaker (IsAckIn t y u) F
    (λ v k. begins
    (λ b. ack_is_not_bye v.method (and_right (is_request v.kind) (is_method ack v.method) k.ack) (and_right (is_request v.kind) (is_method bye v.method) b))
    (λ o b. request_is_no_success v.kind (request_of ack v k.ack) (ok_is_success v.kind o))
    (legs (dialog_sent v) (inr k.in_dialog)))
    a h.acknowledged) (
      begins
          (λ b. not_both (is_request u.kind) h.replies_went.response_kind (request_of bye u b))
          (λ k b. (let listed : IsTrue (is_listed methods u.method) = reply_is_listed methods u p.came h.replies_went asked in
          let same : u.method ≡ bye = method_is bye u.method b in
          not_both (is_listed methods bye) off.byes (let P : List ℕ → Type 0 = λ v. IsTrue (is_listed methods v) in subst P same listed)))
          (legs (dialog_sent u) (inl named)),
      tt,
    )

-- the ACK has a branch of its own also after the event
ack_own : (t : List Datagram) (n : ℕ) (x y : Dialog) (p : Offer) (s : Session) (m b u : Message) → PassesAnswer t x y p s m (b ∷ []) u → IsOwnBranch (t ++ settling n m (b ∷ []) u) b.branch
ack_own t n x y p s m b u h k q at out inv same =
    elim (at_split t (settling n m (b ∷ []) u) k q at) [
      | inl e ↦ used_by_request t k q b.branch h.acknowledged.0.unused e out (request_of invite q.message inv) same
      | inr e ↦ (let w = sent_part n (Some m) (b ∷ u ∷ []) e.0 q e.2 out in
          let me : q.message ≡ w.1 = ap (λ v. v.message) w.4 in
          elim (last_or (b ∷ []) u w.1 w.0 w.2) [
            | inl r ↦ (let l : Message = w.1 in
                let inv' : IsTrue (is_request_of invite l) = (let P : Message → Type 0 = λ v. IsTrue (is_request_of invite v) in subst P me inv) in
                ack_is_not_invite l.method (and_right (is_request l.kind) (is_method ack l.method) (all_at (IsAckIn t y u) (b ∷ []) w.0 l h.acknowledged r).ack) (and_right (is_request l.kind) (is_method invite l.method) inv'))
            | inr r ↦ (let inv' : IsTrue (is_request_of invite u) = (let P : Message → Type 0 = λ v. IsTrue (is_request_of invite v) in subst P (me ∙ sym r.1) inv) in
                not_both (is_request u.kind) h.replies_went.response_kind (request_of invite u inv'))
          ])
    ]

pub settle_first_lives : (methods : List (List ℕ)) (old : List Call) (n : ℕ) (t : List Datagram) (j : ℕ) (c : Call) (p : Offer) (s : Session) (m b u : Message) → slice_get old j ≡ Some c → c.stage ≡ Asked → c.offer ≡ Some p
    → PassesAnswer t c.caller (tagged c.callee m.to_tag) p s m (b ∷ []) u → StandsAfter methods old n t → LivesAfter old t → LivesAfter (slice_set old j (settled_first c m.to_tag s)) (t ++ settling n m (b ∷ []) u)
settle_first_lives methods old n t j c p s m b u at stage pe h st l =
    let a : List Message = b ∷ [] in
    let x : Dialog = c.caller in let y : Dialog = c.callee in let y' : Dialog = tagged c.callee m.to_tag in
    let c' : Call = settled_first c m.to_tag s in
    let new : List Datagram = settling n m a u in
    let here : CallStands methods t c = all_at (CallStands methods t) old j c st.stand at in
    let first : IsFirstOffer c p = here.first stage p pe in
    let off : Offered methods t x y p = (let P : Bool → Type 0 = λ b. Offered methods t (leg c b) (leg c (not b)) p in subst P first.by_caller (here.offer p pe)) in
    let named : dialog_sent u ≡ x = dialog_served t n x y y' p s off.0 off.1 off.2 off.3 m a u methods off.4 h in
    let legs : LegsStand t c = all_at (LegsStand t) old j c l.legs at in
    let leg_of : (d : Dialog) → (d ≡ x) ⊎ (d ≡ y') → AnyOf (IsLegOf d) (slice_set old j c') =
    (λ d q. any_new (IsLegOf d) old j c c' at (record { answered = λ e. absurd (cc); leg = elim q [ inl r ↦ inl (sym r) | inr r ↦ inr (sym r) ] })) in
    let fine : FineAsks methods t (Some m) (a ++ u ∷ []) = fine_settling methods t x y' p s m a u st.offering.acks h in
    let never : ¬ IsEnding c.stage = (λ e. subst IsEnding stage e) in
    let quiet : NoBye t c' = record {
      sent = λ i q at' out b. (let r = legs.quiet.sent i q at' out b in record {
        caller = λ e f. r.caller never f;
        callee = λ e f. r.first stage (bye_tag q y' out b f);
        first = λ e. absurd (cc);
      });
      answered = λ e i q at' out k b tag. legs.quiet.answered never i q at' out k b tag;
    } in
    let accepted : IsTrue (accepts u) = and_both (is_success u.kind) (is_method invite u.method) (answer_succeeds u h.answer_went)
    (let P : List ℕ → Type 0 = λ v. IsTrue (is_method invite v) in subst P (sym h.replies_went.method) first.invite) in
    let begun : BegunLegs (t ++ new) c' = record {
      caller = λ e. inl (length t + 2, sent_at n u, record { sent = record { at = at_right t new 2 (sent_at n u) (sent_stands n (Some m) (a ++ u ∷ []) 1 u refl); sent = refl; named = named }; accepts = accepted });
      callee = λ e. inr (
        length t + 1,
        sent_at n b,
        record {
          sent = record { at = at_right t new 1 (sent_at n b) (sent_stands n (Some m) (a ++ u ∷ []) 0 b refl); sent = refl; named = h.acknowledged.0.in_dialog };
          acknowledges = h.acknowledged.0.ack;
          own_branch = ack_own t n x y' p s m b u h;
        },
      );
      ending = λ b e. absurd (cc);
    } in
    lives_more methods n t (Some m) (a ++ u ∷ []) old (slice_set old j c') st.offering
    (settling_fine methods t x y' p s m a u (slice_set old j c') st.offering (offer_asks methods p.came off.4.offer_came) h named leg_of)
    (all_set (Grown t new) old j c' (all_grown methods n t (Some m) (a ++ u ∷ []) old st.offering fine l.legs) (quiet, begun))
    (λ d q. inl (any_set (IsLegOf d) old j c c' at (λ r. absurd (r.answered stage)) q)) l

pub settle_later_lives : (methods : List (List ℕ)) (old : List Call) (n : ℕ) (t : List Datagram) (j : ℕ) (c : Call) (z : Settled) (p : Offer) (s : Session) (m : Message) (a : List Message) (u : Message) → slice_get old j ≡ Some c → c.stage ≡ Answered z → c.offer ≡ Some p
    → PassesAnswer t (leg c p.by_caller) (leg c (not p.by_caller)) p s m a u → StandsAfter methods old n t → LivesAfter old t → LivesAfter (slice_set old j (settled_later c p.by_caller s)) (t ++ settling n m a u)
settle_later_lives methods old n t j c z p s m a u at stage pe h st l =
    let x : Dialog = leg c p.by_caller in let y : Dialog = leg c (not p.by_caller) in
    let c' : Call = settled_later c p.by_caller s in
    let new : List Datagram = settling n m a u in
    let here : CallStands methods t c = all_at (CallStands methods t) old j c st.stand at in
    let off : Offered methods t x y p = here.offer p pe in
    let named : dialog_sent u ≡ x = dialog_served t n x y y p s off.0 off.1 off.2 off.3 m a u methods off.4 h in
    let leg_of : (d : Dialog) → (d ≡ x) ⊎ (d ≡ y) → AnyOf (IsLegOf d) (slice_set old j c') = (λ d q. any_new (IsLegOf d) old j c c' at (record { answered = λ e. absurd (cc); leg = elim q [ inl r ↦ either d p.by_caller r | inr r ↦ either d (not p.by_caller) r ] })) in
    let fine : FineAsks methods t (Some m) (a ++ u ∷ []) = fine_settling methods t x y p s m a u st.offering.acks h in
    let all : AllOf (Grown t new) old = all_grown methods n t (Some m) (a ++ u ∷ []) old st.offering fine l.legs in
    let mine : Grown t new c = all_at (Grown t new) old j c all at in
    let never : ¬ IsEnding c.stage = (λ e. subst IsEnding stage e) in
    let answered : c.stage ≢ Asked = (λ e. (let g : Answered z ≡ Asked = sym stage ∙ e in cc)) in
    lives_more methods n t (Some m) (a ++ u ∷ []) old (slice_set old j c') st.offering
    (settling_fine methods t x y p s m a u (slice_set old j c') st.offering (offer_asks methods p.came off.4.offer_came) h named leg_of)
    (all_set (Grown t new) old j c' all (
      no_bye_same t c c' refl refl (λ e. never) (λ e. absurd (cc)) mine.0,
      record { caller = λ e. mine.1.caller answered; callee = λ e. mine.1.callee answered; ending = λ b e. absurd (cc) },
    ))
    (λ d q. inl (any_set (IsLegOf d) old j c c' at (λ r. leg_kept d c c' refl refl (λ e. absurd (cc)) r) q)) l
  where
    either : (d : Dialog) (b : Bool) → d ≡ leg c b → (c.caller ≡ d) ⊎ (c.callee ≡ d)
    either d true e = inl (sym e)
    either d false e = inr (sym e)

-- ---- an end

pub quiet_lives : (methods : List (List ℕ)) (old : List Call) (n : ℕ) (t : List Datagram) (taken : Option Message) (sent : List Message) → AreOffering methods → AllOf (IsParting methods t taken sent old) sent → LivesAfter old t → LivesAfter old (t ++ passed n taken sent)
quiet_lives methods old n t taken sent off h l =
    lives_more methods n t taken sent old old off (all_parting methods t taken sent old h) (all_grown methods n t taken sent old off (fine_parting methods t taken sent old off.acks off.byes h) l.legs) (λ d g. inl g) l

pub part_lives : (methods : List (List ℕ)) (old : List Call) (n : ℕ) (t : List Datagram) (taken : Option Message) (sent : List Message) (k : ℕ) (c : Call) (z : Settled) (b : Bool) → AreOffering methods → slice_get old k ≡ Some c → c.stage ≡ Answered z
    → EndsNow t taken sent (leg c b) → AllOf (IsParting methods t taken sent (slice_set old k (ending c b))) sent → LivesAfter old t → LivesAfter (slice_set old k (ending c b)) (t ++ passed n taken sent)
part_lives methods old n t taken sent k c z b off at stage ends h l =
    let c' : Call = ending c b in
    let s : List Datagram = passed n taken sent in
    let all : AllOf (Grown t s) old = all_grown methods n t taken sent old off (fine_parting methods t taken sent (slice_set old k c') off.acks off.byes h) l.legs in
    let mine : Grown t s c = all_at (Grown t s) old k c all at in
    let answered : c.stage ≢ Asked = (λ e. (let g : Answered z ≡ Asked = sym stage ∙ e in cc)) in
    lives_more methods n t taken sent old (slice_set old k c') off (all_parting methods t taken sent (slice_set old k c') h)
    (all_set (Grown t s) old k c' all (
      no_bye_same t c c' refl refl (λ e. absurd (e tt)) (λ e. absurd (cc)) mine.0,
      record {
        caller = λ e. mine.1.caller answered;
        callee = λ e. mine.1.callee answered;
        ending = λ d e. (let same : b ≡ d = cc in let P : Bool → Type 0 = λ v. Ended (t ++ s) (leg c' v) in let Q : Dialog → Type 0 = λ v. Ended (t ++ s) v in subst P same (subst Q (legs_same c c' refl refl b) (ends_now n t taken sent (leg c b) ends)));
      },
    ))
    (λ d q. inl (any_set (IsLegOf d) old k c c' at (λ r. leg_kept d c c' refl refl (λ e. absurd (cc)) r) q)) l

removed_lives : (methods : List (List ℕ)) (old : List Call) (n : ℕ) (t : List Datagram) (taken : Option Message) (sent : List Message) (k : ℕ) (c : Call) → AreOffering methods → slice_get old k ≡ Some c
    → ((d : Dialog) → IsLegOf d c → Ended (t ++ passed n taken sent) d) → AllOf (IsParting methods t taken sent (remove old k)) sent → LivesAfter old t → LivesAfter (remove old k) (t ++ passed n taken sent)
removed_lives methods old n t taken sent k c off at ends h l =
    lives_more methods n t taken sent old (remove old k) off (all_parting methods t taken sent (remove old k) h)
    (all_remove (Grown t (passed n taken sent)) old k (all_grown methods n t taken sent old off (fine_parting methods t taken sent (remove old k) off.acks off.byes h) l.legs))
    (λ d q. elim (any_remove (IsLegOf d) old k c at q) [ inl g ↦ inl g | inr g ↦ inr (ends d g) ]) l

pub go_lives : (methods : List (List ℕ)) (old : List Call) (n : ℕ) (t : List Datagram) (taken : Option Message) (sent : List Message) (k : ℕ) (c : Call) → AreOffering methods → slice_get old k ≡ Some c
    → (c.stage ≡ Asked) ⊎ (Leaves t taken sent c true × Leaves t taken sent c false) → AllOf (IsParting methods t taken sent (remove old k)) sent → LivesAfter old t → LivesAfter (remove old k) (t ++ passed n taken sent)
go_lives methods old n t taken sent k c off at over h l =
    let legs : LegsStand t c = all_at (LegsStand t) old k c l.legs at in
    let P : Dialog → Type 0 = λ v. Ended (t ++ passed n taken sent) v in
    removed_lives methods old n t taken sent k c off at
    (λ d g. elim over [
      | inl stage ↦ absurd (g.answered stage)
      | inr both ↦ elim g.leg [ inl q ↦ subst P q (leaves_now n t taken sent c true legs both.0) | inr q ↦ subst P q (leaves_now n t taken sent c false legs both.1) ]
    ]) h l
