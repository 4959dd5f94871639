-- What the test of the last exchanges of two dialogs decides.
use Rattle.std.proofs.Common.{◌≡◌, ℕ, Bool, ◌&&◌, List, length, inl, inr, sym, ◌∙◌, ap, subst}
use Rattle.std.specs.Bool.{Decides}
use Rattle.std.proofs.lemmas.Bool.{cases_Bool}
use Rattle.std.proofs.lemmas.Bool.Decides.{Decides-and, Decides-not, Decides-like, Decides-eqb, not_from_Decides}
use Rattle.call_trace.specs.declared.datagram.Datagram.{Datagram}
use Rattle.call_trace.specs.declared.datagram.Dialog.{Dialog}
use Rattle.call_trace.specs.declared.exchange.Places.{Places}
use Rattle.call_trace.specs.Exchanges.{Exchange, IsExchange, IsLast}
use Rattle.call_trace.specs.Passing.{IsPassedOn, PassedTogether}
use Rattle.call_trace.specs.Promise.{AreLast}
use Rattle.call_trace.specs.Places.{IsAtPlaces, HoldsAt, HoldTogether}
use Rattle.call_trace.specs.Computed.{places, same_places, rival_at, has_rival_for, has_rival_at, has_rival, last_together}
use Rattle.call_trace.proofs.AtLaws.{at_within}
use Rattle.call_trace.proofs.ExchangeTests.{same_exchange, SomePlaces, decides_places, own_places, decides_last}
use Rattle.call_trace.proofs.CallTests.{decides_passed_on_at, decides_together}

abbrev SamePlaces : Places → Places → Type 0
SamePlaces x y = (x.asked ≡ y.asked) × (x.answered ≡ y.answered)

decides_same : (x y : Places) → Decides (same_places x y) (SamePlaces x y)
decides_same x y = Decides-and _ _ (Decides-eqb x.asked y.asked) (Decides-eqb x.answered y.answered)

-- a test of two facts that isn't refuted
both_hold : {P Q : Type 0} (a b : Bool) → Decides a P → Decides b Q → ¬ ¬ (P × Q) → P × Q
both_hold a b p q h = elim (cases_Bool (a && b)) [
  | inl t ↦ (Decides-and a b p q).0 t
  | inr f ↦ absurd (h (not_from_Decides (a && b) (Decides-and a b p q) f))
]

-- last exchanges at e and f that were passed together, one of which is elsewhere than at x and y
abbrev Rival : List (List ℕ) → List Datagram → Dialog → Places → Places → Places → Places → Type 0
Rival methods t dy x y e f = HoldsAt t f (λ v. IsLast methods t dy v) × (HoldTogether t e f PassedTogether × ¬ (SamePlaces e x × SamePlaces f y))

decides_rival : (methods : List (List ℕ)) (t : List Datagram) (x y e : Places) (dy : Dialog) (f : Places) → Decides (rival_at methods t x y e dy f) (Rival methods t dy x y e f)
unfolding rival_at
decides_rival methods t x y e dy f =
    Decides-and _ _ (decides_last methods t dy f) (Decides-and _ _ (decides_together t e f) (Decides-not _ (Decides-and _ _ (decides_same e x) (decides_same f y))))

decides_rival_for : (methods : List (List ℕ)) (t : List Datagram) (x y e : Places) (dy : Dialog) → Decides (has_rival_for methods t x y e dy) (SomePlaces (length t) (λ f. Rival methods t dy x y e f))
unfolding has_rival_for
decides_rival_for methods t x y e dy = decides_places (λ f. rival_at methods t x y e dy f) (λ f. Rival methods t dy x y e f) (decides_rival methods t x y e dy) (length t)

abbrev HasRival : List (List ℕ) → List Datagram → Dialog → Dialog → Places → Places → Places → Type 0
HasRival methods t dx dy x y e = HoldsAt t e (λ v. IsLast methods t dx v) × SomePlaces (length t) (λ f. Rival methods t dy x y e f)

decides_rival_at : (methods : List (List ℕ)) (t : List Datagram) (dx dy : Dialog) (x y e : Places) → Decides (has_rival_at methods t dx dy x y e) (HasRival methods t dx dy x y e)
unfolding has_rival_at
decides_rival_at methods t dx dy x y e = Decides-and _ _ (decides_last methods t dx e) (decides_rival_for methods t x y e dy)

decides_has_rival : (methods : List (List ℕ)) (t : List Datagram) (dx dy : Dialog) (x y : Places) → Decides (has_rival methods t dx dy x y) (SomePlaces (length t) (λ e. HasRival methods t dx dy x y e))
unfolding has_rival
decides_has_rival methods t dx dy x y = decides_places (λ e. has_rival_at methods t dx dy x y e) (λ e. HasRival methods t dx dy x y e) (decides_rival_at methods t dx dy x y) (length t)

-- no two others: where there is no rival, every two that were passed together are the two
alone_from : (methods : List (List ℕ)) (t : List Datagram) (dx dy : Dialog) (x y : Places) (u v : Exchange) → IsAtPlaces t x u → IsAtPlaces t y v
    → ¬ SomePlaces (length t) (λ e. HasRival methods t dx dy x y e)
    → (e f : Exchange) → IsLast methods t dx e → IsLast methods t dy f → PassedTogether e f → (e ≡ u) × (f ≡ v)
alone_from methods t dx dy x y u v at_u at_v none e f last_e last_f together =
    let ex : IsExchange methods t dx e = last_e.exchange in
    let fx : IsExchange methods t dy f = last_f.exchange in
    let pe : Places = places e.asked_at e.answered_at in
    let pf : Places = places f.asked_at f.answered_at in
    let own_e : IsAtPlaces t pe e = own_places methods t dx e ex in
    let own_f : IsAtPlaces t pf f = own_places methods t dy f fx in
    let same : SamePlaces pe x × SamePlaces pf y = both_hold (same_places pe x) (same_places pf y) (decides_same pe x) (decides_same pf y)
    (λ other. none (
      pe,
      ex.later,
      at_within t e.answered_at e.answered ex.at_answered,
      (
        (e, own_e, last_e),
        (pf, fx.later, at_within t f.answered_at f.answered fx.at_answered, ((f, own_f, last_f), ((e, own_e, (f, own_f, together)), other))),
      ),
    )) in (
      same_exchange t x e u (record { asked_at = same.0.0; answered_at = same.0.1; at_asked = ex.at_asked; at_answered = ex.at_answered }) at_u,
      same_exchange t y f v (record { asked_at = same.1.0; answered_at = same.1.1; at_asked = fx.at_asked; at_answered = fx.at_answered }) at_v,
    )

-- and the other way round
none_from : (methods : List (List ℕ)) (t : List Datagram) (dx dy : Dialog) (x y : Places) (u v : Exchange) → IsAtPlaces t x u → IsAtPlaces t y v → AreLast methods t dx dy u v
    → ¬ SomePlaces (length t) (λ e. HasRival methods t dx dy x y e)
none_from methods t dx dy x y u v at_u at_v are h =
    let e = h.3.0 in let f = h.3.1.3.0 in let both = h.3.1.3.1.0 in
    let e' : both.0 ≡ e.0 = same_exchange t h.0 both.0 e.0 both.1 e.1 in
    let f' : both.2.0 ≡ f.0 = same_exchange t h.3.1.0 both.2.0 f.0 both.2.1 f.1 in
    let together : PassedTogether e.0 f.0 = subst (λ (w : Exchange). PassedTogether w f.0) e' (subst (λ (w : Exchange). PassedTogether both.0 w) f' both.2.2) in
    let same : (e.0 ≡ u) × (f.0 ≡ v) = are.alone e.0 f.0 e.2 f.2 together in
    h.3.1.3.1.1 (
      (sym e.1.asked_at ∙ ap (λ w. w.asked_at) same.0 ∙ at_u.asked_at, sym e.1.answered_at ∙ ap (λ w. w.answered_at) same.0 ∙ at_u.answered_at),
      (sym f.1.asked_at ∙ ap (λ w. w.asked_at) same.1 ∙ at_v.asked_at, sym f.1.answered_at ∙ ap (λ w. w.answered_at) same.1 ∙ at_v.answered_at),
    )

pub decides_are_last : (methods : List (List ℕ)) (t : List Datagram) (dx dy : Dialog) (x y : Places)
    → Decides (last_together methods t dx dy x y) (HoldTogether t x y (λ e f. AreLast methods t dx dy e f))
unfolding last_together
decides_are_last methods t dx dy x y =
    Decides-like (last_together methods t dx dy x y) (λ h. to h.0 h.1.0 h.1.1.0 h.1.1.1)
    (λ h. (let u : Exchange = h.0 in let v : Exchange = h.2.0 in let are : AreLast methods t dx dy u v = h.2.2 in
    ((u, h.1, are.last_x), ((v, h.2.1, are.last_y), ((u, h.1, (v, h.2.1, are.passed_on)), none_from methods t dx dy x y u v h.1 h.2.1 are)))))
    (Decides-and _ _ (decides_last methods t dx x)
    (Decides-and _ _ (decides_last methods t dy y)
    (Decides-and _ _ (decides_passed_on_at t x y) (Decides-not _ (decides_has_rival methods t dx dy x y)))))
  where
    to : HoldsAt t x (λ e. IsLast methods t dx e) → HoldsAt t y (λ f. IsLast methods t dy f) → HoldTogether t x y IsPassedOn → ¬ SomePlaces (length t) (λ e. HasRival methods t dx dy x y e)
        → HoldTogether t x y (λ e f. AreLast methods t dx dy e f)
    to a b on none =
        let e : on.0 ≡ a.0 = same_exchange t x on.0 a.0 on.1 a.1 in
        let f : on.2.0 ≡ b.0 = same_exchange t y on.2.0 b.0 on.2.1 b.1 in
        let passed : IsPassedOn a.0 b.0 = subst (λ (w : Exchange). IsPassedOn w b.0) e (subst (λ (w : Exchange). IsPassedOn on.0 w) f on.2.2) in
        (a.0, a.1, (b.0, b.1, record { last_x = a.2; last_y = b.2; passed_on = passed; alone = alone_from methods t dx dy x y a.0 b.0 a.1 b.1 none }))
