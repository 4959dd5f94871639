-- What the relation gives: the media promise, which dialogs are live, and of which one call each is.
use Rattle.std.proofs.Common.{◌≡◌, ◌≢◌, ℕ, ◌≤◌, List, [], Bool, true, false, not, Option, Some, ◌⊎◌, inl, inr, refl, sym, ◌∙◌, ap, subst, arith}
use Rattle.std.specs.Prelude.{slice_get, IsTrue}
use Rattle.sip_uri.specs.declared.uri.Addr.{Addr}
use Rattle.call_trace.specs.declared.datagram.Direction.TheVariants.{Taken, Sent}
use Rattle.call_trace.specs.declared.datagram.Datagram.{Datagram}
use Rattle.call_trace.specs.declared.datagram.Dialog.{Dialog}
use Rattle.call_trace.specs.declared.call.Settled.{Settled}
use Rattle.call_trace.specs.declared.call.Stage.{Stage}
use Rattle.call_trace.specs.declared.call.Stage.TheVariants.{Asked, Answered, Ending}
use Rattle.call_trace.specs.declared.call.Call.{Call}
use Rattle.call_trace.specs.Messages.{offering, bye, is_request, is_method}
use Rattle.call_trace.specs.Exchanges.{At, Exchange, IsLast}
use Rattle.call_trace.specs.Passing.{IsPassedOn, PassedTogether}
use Rattle.call_trace.specs.Calls.{CallOf, CallFrom, Ended, Live}
use Rattle.call_trace.specs.Promise.{IsRelayed, Meets, EachMeets, Relays, AllRelayed}
use Rattle.call_trace.specs.Serving.{LastSaid}
use Rattle.call_trace.specs.Stands.{leg, IsSettled, CallStands, IsTagOf, HasTags, IsCallOf, AreOffering, StandsAfter}
use Rattle.call_trace.specs.Lives.{IsEnding, IsLegOf, NoBye, LegsStand, Stands, IsOneCall, IsAnsweredCall, LivesExactly}
use Rattle.call_trace.specs.Promised.{AreRelayed, AllMeet}
use Rattle.call_trace.specs.Listed.{AnyOf}
use Rattle.call_trace.proofs.AtLaws.{at_same}
use Rattle.call_trace.proofs.Growing.{call_turned, call_of_called, called_of_call}
use Rattle.call_trace.proofs.Members.{all_at, all_weaker, any_at, at_any}
use Rattle.call_trace.proofs.Apart.{apart_same}
use Rattle.call_trace.proofs.Words.{and_right, offer_asks, request_of}
use Rattle.call_trace.proofs.NewExchanges.{tag_request_taken}
use Rattle.call_trace.proofs.Settles.{asked_same}
use Rattle.call_trace.proofs.Parting.{all_from_at}
use Rattle.call_trace.proofs.Promised.{JoinedIsDirect, relayed_meets}

-- ---- the last exchanges

abbrev exchange_by : ℕ → ℕ → Datagram → Datagram → Exchange
exchange_by i j p q = record { asked_at = i; answered_at = j; asked = p; answered = q }

same_exchange : (e f : Exchange) → e.asked_at ≡ f.asked_at → e.answered_at ≡ f.answered_at → e.asked ≡ f.asked → e.answered ≡ f.answered → e ≡ f
same_exchange e f a b c d =
    let q : exchange_by e.asked_at e.answered_at e.asked e.answered ≡ exchange_by f.asked_at f.answered_at f.asked f.answered = cc in q

-- two last exchanges of one dialog have one 2xx
last_answer : (methods : List (List ℕ)) (t : List Datagram) (d : Dialog) (e f : Exchange) → IsLast methods t d e → IsLast methods t d f → (e.answered_at ≡ f.answered_at) × (e.answered ≡ f.answered)
last_answer methods t d e f he hf =
    let a : e.answered_at ≤ f.answered_at = hf.greatest e he.exchange in
    let b : f.answered_at ≤ e.answered_at = he.greatest f hf.exchange in
    let same : e.answered_at ≡ f.answered_at = omega arith in
    let P : ℕ → Type 0 = λ v. At t v e.answered in
    (same, at_same t f.answered_at e.answered f.answered (subst P same he.exchange.at_answered) hf.exchange.at_answered)

-- of the last exchanges of x and y, no two others were passed together than those that were passed on
lone_pair : (methods : List (List ℕ)) (calls : List Call) (n : ℕ) (t : List Datagram) (dx dy : Dialog) (x y : Exchange) → StandsAfter methods calls n t → IsLast methods t dx x → IsLast methods t dy y → IsPassedOn x y
    → (e f : Exchange) → IsLast methods t dx e → IsLast methods t dy f → PassedTogether e f → (e ≡ x) × (f ≡ y)
lone_pair methods calls n t dx dy x y h lx ly on e f le lf together =
    let ex = last_answer methods t dx e x le lx in
    let fy = last_answer methods t dy f y lf ly in
    elim together [
      | inl g ↦ (
          let branch : f.asked.message.branch ≡ y.asked.message.branch = sym lf.exchange.replies.branch ∙ ap (λ v. v.message.branch) fy.1 ∙ ly.exchange.replies.branch in
          let same = asked_same methods t e.asked_at f.asked_at x.asked_at y.asked_at e.asked f.asked x.asked y.asked h.one_birth h.one_taken
          (record { at = le.exchange.at_asked; taken = g.offer.taken; asks = offer_asks methods e.asked.message le.exchange.offer })
          (record { at = lf.exchange.at_asked; sent = g.offer.sent; asks = offer_asks methods f.asked.message lf.exchange.offer })
          (record { at = lx.exchange.at_asked; taken = on.offer.taken; asks = offer_asks methods x.asked.message lx.exchange.offer })
          (record { at = ly.exchange.at_asked; sent = on.offer.sent; asks = offer_asks methods y.asked.message ly.exchange.offer })
          g.offer.event on.offer.event branch in
          let P : ℕ → Type 0 = λ v. At t v e.asked in let Q : ℕ → Type 0 = λ v. At t v f.asked in
          let ea : e.asked ≡ x.asked = at_same t x.asked_at e.asked x.asked (subst P same.0 le.exchange.at_asked) lx.exchange.at_asked in
          let fa : f.asked ≡ y.asked = at_same t y.asked_at f.asked y.asked (subst Q same.1 lf.exchange.at_asked) ly.exchange.at_asked in
          (same_exchange e x same.0 ex.0 ea ex.1, same_exchange f y same.1 fy.0 fa fy.1))
      | inr g ↦ (let a : e.answered.direction ≡ Taken = g.answer.taken in
          let b : x.answered.direction ≡ Sent = on.answer.sent in
          let c : e.answered.direction ≡ x.answered.direction = ap (λ v. v.direction) ex.1 in absurd (cc))
    ]

-- what was said last in an answered call, also while an offer is open
pub call_last : (methods : List (List ℕ)) (calls : List Call) (n : ℕ) (t : List Datagram) (k : ℕ) (c : Call) (z : Settled) → StandsAfter methods calls n t → slice_get calls k ≡ Some c
    → c.stage ≡ Answered z → LastSaid methods t (leg c z.by_caller) (leg c (not z.by_caller)) z.session
call_last methods calls n t k c z h at stage =
    let s = (all_at (CallStands methods t) calls k c h.stand at).session z stage in
    let is : IsSettled methods t (leg c z.by_caller) (leg c (not z.by_caller)) z.session s.0 s.1 = s.2 in (
      s.0,
      s.1,
      record {
        last_x = is.last_x;
        last_y = is.last_y;
        passed_on = is.passed_on;
        alone = lone_pair methods calls n t (leg c z.by_caller) (leg c (not z.by_caller)) s.0 s.1 h is.last_x is.last_y is.passed_on;
      },
      is.said,
    )

-- an answered call is relayed
pub call_meets : (methods : List (List ℕ)) (server : List ℕ) (table : ℕ → Option Addr) (calls : List Call) (n : ℕ) (t : List Datagram) (k : ℕ) (c : Call) (z : Settled) → StandsAfter methods calls n t → AreRelayed server table calls → slice_get calls k ≡ Some c
    → c.stage ≡ Answered z → Relays methods server table t (leg c z.by_caller) (leg c (not z.by_caller))
call_meets methods server table calls n t k c z h relayed at stage =
    let l : LastSaid methods t (leg c z.by_caller) (leg c (not z.by_caller)) z.session = call_last methods calls n t k c z h at stage in
    (l.0, l.1, z.session, l.2, l.3, all_at (λ d. (r : Settled) → d.stage ≡ Answered r → IsRelayed server table r.session) calls k c relayed at z stage)

-- of two dialogs that are a call and live, one called the other, and they are the legs of a listed call
pub listed_call : (methods : List (List ℕ)) (calls : List Call) (n : ℕ) (t : List Datagram) (dx dy : Dialog) → Stands methods calls n t → CallFrom methods t dx dy → Live t dx → Live t dy
    → (k : ℕ) × (c : Call) × (slice_get calls k ≡ Some c) × IsAnsweredCall dx dy c
listed_call methods calls n t dx dy h call live_x live_y =
    elim (h.sessions.known dx dy call) [
      | inr e ↦ absurd (live_x.1 e.0)
      | inl l ↦ (let f = any_at (IsCallOf dx dy) calls l in
          let c : Call = f.1 in
          let is : IsCallOf dx dy c = f.3 in
          elim (stage_of c.stage) [
            | inl s ↦ absurd (is.answered s)
            | inr s ↦ elim s [
              | inl z ↦ (f.0, c, f.2, record { answered = z; caller = is.caller; callee = is.callee })
              | inr s ↦ (let P : Dialog → Type 0 = λ v. Ended t v in
                  let e : Ended t (leg c s.0) = (all_at (LegsStand t) calls f.0 c h.lives.legs f.2).ending s.0 s.1 in
                  absurd (leg_lives c s.0 is.caller is.callee e))
            ]
          ])
    ]
  where
    stage_of : (s : Stage) → (s ≡ Asked) ⊎ (((z : Settled) × (s ≡ Answered z)) ⊎ ((b : Bool) × (s ≡ Ending b)))
    stage_of Asked = inl refl
    stage_of (Answered z) = inr (inl (z, refl))
    stage_of (Ending b) = inr (inr (b, refl))

    leg_lives : (c : Call) (b : Bool) → c.caller ≡ dx → c.callee ≡ dy → Ended t (leg c b) → ⊥
    leg_lives c true e f g = live_x.1 (subst (λ v. Ended t v) e g)
    leg_lives c false e f g = live_y.1 (subst (λ v. Ended t v) f g)

relays_same : (methods : List (List ℕ)) (server : List ℕ) (table : ℕ → Option Addr) (t : List Datagram) (x x' y y' : Dialog) → x ≡ x' → y ≡ y' → Relays methods server table t x y → Relays methods server table t x' y'
relays_same methods server table t x x' y y' e f g = let P : Dialog → Type 0 = λ v. Relays methods server table t v y in let Q : Dialog → Type 0 = λ v. Relays methods server table t x' v in subst Q f (subst P e g)

either_way : (methods : List (List ℕ)) (server : List ℕ) (table : ℕ → Option Addr) (t : List Datagram) (c : Call) (b : Bool) (dx dy : Dialog) → c.caller ≡ dx → c.callee ≡ dy
    → Relays methods server table t (leg c b) (leg c (not b)) → Relays methods server table t dx dy ⊎ Relays methods server table t dy dx
either_way methods server table t c true dx dy e f m = inl (relays_same methods server table t c.caller dx c.callee dy e f m)
either_way methods server table t c false dx dy e f m = inr (relays_same methods server table t c.callee dy c.caller dx f e m)

called_relayed : (methods : List (List ℕ)) (server : List ℕ) (table : ℕ → Option Addr) (calls : List Call) (n : ℕ) (t : List Datagram) (dx dy : Dialog) → Stands methods calls n t → AreRelayed server table calls
    → CallFrom methods t dx dy → Live t dx → Live t dy → Relays methods server table t dx dy ⊎ Relays methods server table t dy dx
called_relayed methods server table calls n t dx dy h relayed call live_x live_y =
    let l = listed_call methods calls n t dx dy h call live_x live_y in
    let c : Call = l.1 in
    let is : IsAnsweredCall dx dy c = l.3 in
    either_way methods server table t c is.answered.0.by_caller dx dy is.caller is.callee (call_meets methods server table calls n t l.0 c is.answered.0 h.sessions relayed l.2 is.answered.1)

pub each_relayed : (methods : List (List ℕ)) (server : List ℕ) (table : ℕ → Option Addr) (calls : List Call) (n : ℕ) (t : List Datagram) → Stands methods calls n t → AreRelayed server table calls
    → (dx dy : Dialog) → CallOf methods t dx dy → Live t dx → Live t dy → Relays methods server table t dx dy ⊎ Relays methods server table t dy dx
each_relayed methods server table calls n t h relayed dx dy call live_x live_y =
    elim (called_of_call methods t dx dy call) [
      | inl q ↦ called_relayed methods server table calls n t dx dy h relayed q live_x live_y
      | inr q ↦ elim (called_relayed methods server table calls n t dy dx h relayed q live_y live_x) [ inl r ↦ inr r | inr r ↦ inl r ]
    ]

pub all_relayed : (methods : List (List ℕ)) (server : List ℕ) (table : ℕ → Option Addr) (calls : List Call) (n : ℕ) (t : List Datagram) → Stands methods calls n t → AreRelayed server table calls → AllRelayed methods server table t
all_relayed methods server table calls n t h relayed dx dy call live_x live_y closed_x closed_y = each_relayed methods server table calls n t h relayed dx dy call live_x live_y

pub each_meets : JoinedIsDirect → (methods : List (List ℕ)) (server : List ℕ) (table : ℕ → Option Addr) (calls : List Call) (n : ℕ) (t : List Datagram) → Stands methods calls n t → AreRelayed server table calls → EachMeets methods server table t
each_meets law methods server table calls n t h relayed dx dy call live_x live_y =
    elim (each_relayed methods server table calls n t h relayed dx dy call live_x live_y) [
      | inl r ↦ inl (relayed_meets law methods server table t dx dy r)
      | inr r ↦ inr (relayed_meets law methods server table t dy dx r)
    ]

pub all_meet : JoinedIsDirect → (methods : List (List ℕ)) (server : List ℕ) (table : ℕ → Option Addr) (calls : List Call) (n : ℕ) (t : List Datagram) → Stands methods calls n t → AreRelayed server table calls → AllMeet methods server table t calls
all_meet law methods server table calls n t h relayed =
    all_from_at (λ c. (z : Settled) → c.stage ≡ Answered z → Meets methods server table t (leg c z.by_caller) (leg c (not z.by_caller))) calls
    (λ k c at z stage. relayed_meets law methods server table t (leg c z.by_caller) (leg c (not z.by_caller)) (call_meets methods server table calls n t k c z h.sessions relayed at stage))

-- ---- the live dialogs

-- a dialog with a tag of a call that is not ending, in which no BYE was sent, has not ended
pub not_ended : (t : List Datagram) (c : Call) (d : Dialog) → NoBye t c → ¬ IsEnding c.stage → (d ≡ c.caller) ⊎ (d ≡ c.callee) → d.ours ≢ [] → Ended t d → ⊥
not_ended t c d h stays is some e =
    elim e [
      | inl x ↦ (let q = h.sent x.0 x.1 x.2.sent.at x.2.sent.sent x.2.ends in
          elim is [ inl r ↦ q.caller stays (x.2.sent.named ∙ r) | inr r ↦ q.callee stays (x.2.sent.named ∙ r) ])
      | inr x ↦ (let b = x.4 in
          let p : Datagram = x.2 in let r : Datagram = x.3 in
          let tag : p.message.to_tag ≡ d.ours = sym (tag_request_taken p b.taken (request_of bye p.message b.ends)) ∙ ap (λ v. v.ours) b.named in
          elim b.replies.to_tag [
            | inl z ↦ some (sym tag ∙ z)
            | inr z ↦ (let P : List ℕ → Type 0 = λ v. IsTrue (is_method bye v) in
                h.answered stays x.1 r b.at_answered b.sent b.ok (subst P (sym b.replies.method) (and_right (is_request p.message.kind) _ b.ends))
                (elim is [ inl w ↦ inl (z ∙ tag ∙ ap (λ v. v.ours) w) | inr w ↦ inr (z ∙ tag ∙ ap (λ v. v.ours) w) ]))
          ])
    ]

legs_live : (t : List Datagram) (c : Call) (z : Settled) → HasTags c → LegsStand t c → c.stage ≡ Answered z → Live t c.caller × Live t c.callee
legs_live t c z tags h stage =
    let answered : c.stage ≢ Asked = (λ e. (let g : Answered z ≡ Asked = sym stage ∙ e in cc)) in
    let stays : ¬ IsEnding c.stage = (λ e. subst IsEnding stage e) in (
      (h.caller answered, λ e. not_ended t c c.caller h.quiet stays (inl refl) tags.caller e),
      (h.callee answered, λ e. not_ended t c c.callee h.quiet stays (inr refl) tags.callee e),
    )

-- the other dialog of a call, and that it is the only one
one_call : (methods : List (List ℕ)) (calls : List Call) (n : ℕ) (t : List Datagram) (d : Dialog) → StandsAfter methods calls n t → ¬ Ended t d → AnyOf (IsLegOf d) calls → IsOneCall methods t d
one_call methods calls n t d h alive l =
    let f = any_at (IsLegOf d) calls l in
    let c : Call = f.1 in
    let of : IsLegOf d c = f.3 in
    let tags : HasTags c = all_at HasTags calls f.0 c h.tags f.2 in
    let begun : CallOf methods t c.caller c.callee = call_of_called methods t c.caller c.callee ((all_at (CallStands methods t) calls f.0 c h.stand f.2).begun of.answered) in
    let P : Dialog → Type 0 = λ v. CallOf methods t v c.callee in
    let Q : Dialog → Type 0 = λ v. CallOf methods t v c.caller in
    elim of.leg [
      | inl q ↦ (c.callee, subst P q begun, λ g call. other_of f.0 c true f.2 tags g q call)
      | inr q ↦ (c.caller, subst Q q (call_turned methods t c.caller c.callee begun), λ g call. other_of f.0 c false f.2 tags g q call)
    ]
  where
    leg_here : (c : Call) (b : Bool) → leg c b ≡ d → IsTagOf c d.ours
    leg_here c true e = inl (ap (λ v. v.ours) (sym e))
    leg_here c false e = inr (ap (λ v. v.ours) (sym e))

    as_caller : (c : Call) (b : Bool) (g : Dialog) → HasTags c → leg c b ≡ d → c.caller ≡ d → c.callee ≡ g → g ≡ leg c (not b)
    as_caller c true g tags e x y = sym y
    as_caller c false g tags e x y = absurd (tags.differ (ap (λ v. v.ours) (x ∙ sym e)))

    as_callee : (c : Call) (b : Bool) (g : Dialog) → HasTags c → leg c b ≡ d → c.callee ≡ d → c.caller ≡ g → g ≡ leg c (not b)
    as_callee c true g tags e x y = absurd (tags.differ (ap (λ v. v.ours) (e ∙ sym x)))
    as_callee c false g tags e x y = sym y

    other_of : (i : ℕ) (c : Call) (b : Bool) → slice_get calls i ≡ Some c → HasTags c → (g : Dialog) → leg c b ≡ d → CallOf methods t d g → g ≡ leg c (not b)
    other_of i c b at tags g e call =
        elim (called_of_call methods t d g call) [
          | inl q ↦ elim (h.known d g q) [
            | inr r ↦ absurd (alive r.0)
            | inl l ↦ (let f = any_at (IsCallOf d g) calls l in
                let same : f.1 ≡ c = apart_same calls f.0 i f.1 c d.ours h.apart f.2 at (inl (ap (λ v. v.ours) (sym f.3.caller))) (leg_here c b e) in
                let R : Call → Type 0 = λ v. IsCallOf d g v in
                let is : IsCallOf d g c = subst R same f.3 in
                as_caller c b g tags e is.caller is.callee)
          ]
          | inr q ↦ elim (h.known g d q) [
            | inr r ↦ absurd (alive r.1)
            | inl l ↦ (let f = any_at (IsCallOf g d) calls l in
                let same : f.1 ≡ c = apart_same calls f.0 i f.1 c d.ours h.apart f.2 at (inr (ap (λ v. v.ours) (sym f.3.callee))) (leg_here c b e) in
                let R : Call → Type 0 = λ v. IsCallOf g d v in
                let is : IsCallOf g d c = subst R same f.3 in
                as_callee c b g tags e is.callee is.caller)
          ]
        ]

pub lives_exactly : (methods : List (List ℕ)) (calls : List Call) (n : ℕ) (t : List Datagram) → Stands methods calls n t → LivesExactly methods calls t
lives_exactly methods calls n t h = record {
  answered = all_from_at (λ c. (z : Settled) → c.stage ≡ Answered z → CallFrom methods t c.caller c.callee × Live t c.caller × Live t c.callee) calls
      (λ k c at z e.
      (let legs = legs_live t c z (all_at HasTags calls k c h.sessions.tags at) (all_at (LegsStand t) calls k c h.lives.legs at) e in
      ((all_at (CallStands methods t) calls k c h.sessions.stand at).begun (λ f. (let g : Answered z ≡ Asked = sym e ∙ f in cc)), legs.0, legs.1)));
  listed = λ dx dy call live_x live_y. (let l = listed_call methods calls n t dx dy h call live_x live_y in at_any (IsAnsweredCall dx dy) calls l.0 l.1 l.2 l.3);
  once = h.sessions.apart;
  ending = all_weaker (LegsStand t) (λ c. (b : Bool) → c.stage ≡ Ending b → Ended t (leg c b)) (λ c g b e. g.ending b e) calls h.lives.legs;
  legs = λ d l. legs_of d l;
  one_call = λ d l. one_call methods calls n t d h.sessions l.1 (legs_of d l);
}
  where
    legs_of : (d : Dialog) → Live t d → AnyOf (IsLegOf d) calls
    legs_of d l = elim (h.lives.begun d l.0) [ inl x ↦ x | inr x ↦ absurd (l.1 x) ]

-- ---- no event

at_none : (i : ℕ) (p : Datagram) → At [] i p → ⊥
unfolding At
at_none i p e = absurd (cc)

pub offering_fits : AreOffering offering
offering_fits = record { invites = refl; acks = refl; byes = refl; cancels = refl }

pub none_stand : (methods : List (List ℕ)) → AreOffering methods → Stands methods [] 0 []
none_stand methods off = record {
  sessions = record {
    offering = off;
    events = λ i p e. absurd (at_none i p e);
    one_taken = λ i k p q e. absurd (at_none i p e);
    copies = λ i k p q e. absurd (at_none i p e.at);
    one_birth = λ i k i' k' p q p' q' e. absurd (at_none i p e.at);
    tags = tt;
    apart = tt;
    stand = tt;
    known = λ dx dy c. absurd (at_none c.0.asked_at c.0.asked c.2.first_x.exchange.at_asked);
  };
  lives = record {
    legs = tt;
    begun = λ d b. elim b [ inl x ↦ absurd (at_none x.0 x.1 x.2.sent.at) | inr x ↦ absurd (at_none x.0 x.1 x.2.sent.at) ];
  };
}
