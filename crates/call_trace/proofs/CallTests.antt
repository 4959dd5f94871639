-- What the tests of calls decide, and of what was passed on.
use Rattle.std.proofs.Common.{◌≡◌, ℕ, List, [], length, inl, inr, subst}
use Rattle.std.specs.Prelude.{IsTrue}
use Rattle.std.specs.Bool.{Decides}
use Rattle.std.proofs.lemmas.Bool.Decides.{Decides-and, Decides-or, Decides-like}
use Rattle.call_trace.specs.declared.datagram.Datagram.{Datagram}
use Rattle.call_trace.specs.declared.datagram.Dialog.{Dialog}
use Rattle.call_trace.specs.declared.exchange.Places.{Places}
use Rattle.call_trace.specs.Messages.{invite, is_method}
use Rattle.call_trace.specs.Dialogs.{dialog_of}
use Rattle.call_trace.specs.Exchanges.{Exchange}
use Rattle.call_trace.specs.Passing.{IsPassedOn, PassedTogether}
use Rattle.call_trace.specs.Calls.{IsFirst, CallOf}
use Rattle.call_trace.specs.Places.{exchange, HoldsAt, HoldTogether}
use Rattle.call_trace.specs.Computed.{on_both, places, is_passed_on, passed_on_at, together_at, is_first, first_at, partner_at, has_partner, begins_call, call_of}
use Rattle.call_trace.proofs.MessageTests.{decides_itself, decides_absent, decides_names, decides_handed_on}
use Rattle.call_trace.proofs.AtLaws.{at_within}
use Rattle.call_trace.proofs.ExchangeTests.{same_exchange, decides_both, SomePlaces, decides_places, Fits, decides_fits, exchange_fits, fits_exchange, own_places}

-- ---- passing

pub decides_passed_on : (e : Exchange) (at : Places) (r s : Datagram) → Decides (is_passed_on e.asked e.answered r s) (IsPassedOn e (exchange at r s))
unfolding is_passed_on
decides_passed_on e at r s =
    Decides-like (is_passed_on e.asked e.answered r s)
    (λ h. record { offer = h.0; answer = h.1 })
    (λ h. (h.offer, h.answer))
    (Decides-and _ _ (decides_handed_on e.asked r) (decides_handed_on s e.answered))

pub decides_passed_on_at : (t : List Datagram) (x y : Places) → Decides (passed_on_at t x y) (HoldTogether t x y IsPassedOn)
unfolding passed_on_at
decides_passed_on_at t x y =
    decides_both t x (λ p q. on_both (λ r s. is_passed_on p q r s) t y) (λ e. HoldsAt t y (λ f. IsPassedOn e f))
    (λ p q. decides_both t y (λ r s. is_passed_on p q r s) (λ f. IsPassedOn (exchange x p q) f) (λ r s. decides_passed_on (exchange x p q) y r s))

pub decides_together : (t : List Datagram) (x y : Places) → Decides (together_at t x y) (HoldTogether t x y PassedTogether)
unfolding together_at
decides_together t x y =
    Decides-like (together_at t x y)
    (λ h. elim h [ inl a ↦ (a.0, a.1, (a.2.0, a.2.1, inl a.2.2)) | inr a ↦ (a.2.0, a.2.1, (a.0, a.1, inr a.2.2)) ])
    (λ h. elim h.2.2 [ inl a ↦ inl (h.0, h.1, (h.2.0, h.2.1, a)) | inr a ↦ inr (h.2.0, h.2.1, (h.0, h.1, a)) ])
    (Decides-or _ _ (decides_passed_on_at t x y) (decides_passed_on_at t y x))

-- ---- first exchanges

pub record FitsFirst (methods : List (List ℕ)) (t : List Datagram) (d : Dialog) (e : Exchange) : Type 0 where
  pub fits : Fits methods t d e
  pub invite : IsTrue (is_method invite e.asked.message.method)
  pub no_tag : e.asked.message.to_tag ≡ []
  pub named : dialog_of e.answered ≡ d

pub decides_fits_first : (methods : List (List ℕ)) (t : List Datagram) (d : Dialog) (at : Places) (p q : Datagram) → Decides (is_first methods t d at p q) (FitsFirst methods t d (exchange at p q))
unfolding is_first
decides_fits_first methods t d at p q =
    Decides-like (is_first methods t d at p q)
    (λ h. record { fits = h.0; invite = h.1.0; no_tag = h.1.1.0; named = h.1.1.1 })
    (λ h. (h.fits, (h.invite, (h.no_tag, h.named))))
    (Decides-and _ _ (decides_fits methods t d at p q)
    (Decides-and _ _ (decides_itself (is_method invite p.message.method))
    (Decides-and _ _ (decides_absent p.message.to_tag) (decides_names q d))))

pub decides_first : (methods : List (List ℕ)) (t : List Datagram) (d : Dialog) (at : Places) → Decides (first_at methods t d at) (HoldsAt t at (λ e. IsFirst methods t d e))
unfolding first_at
decides_first methods t d at =
    Decides-like (first_at methods t d at)
    (λ h. (h.0, h.1, record { exchange = exchange_fits methods t d at h.0 h.1 h.2.fits; invite = h.2.invite; no_tag = h.2.no_tag; named = h.2.named }))
    (λ h. (h.0, h.1, record { fits = fits_exchange methods t d h.0 h.2.exchange; invite = h.2.invite; no_tag = h.2.no_tag; named = h.2.named }))
    (decides_both t at (λ p q. is_first methods t d at p q) (λ e. FitsFirst methods t d e) (λ p q. decides_fits_first methods t d at p q))

-- ---- calls

-- the exchange at x was passed together with one that began the dialog
abbrev HasPartner : List (List ℕ) → List Datagram → Dialog → Exchange → Type 0
HasPartner methods t dy e = (f : Exchange) × IsFirst methods t dy f × PassedTogether e f

decides_partner : (methods : List (List ℕ)) (t : List Datagram) (x : Places) (dy : Dialog) (y : Places)
    → Decides (partner_at methods t x dy y) (HoldsAt t y (λ f. IsFirst methods t dy f) × HoldTogether t x y PassedTogether)
unfolding partner_at
decides_partner methods t x dy y = Decides-and _ _ (decides_first methods t dy y) (decides_together t x y)

decides_has_partner : (methods : List (List ℕ)) (t : List Datagram) (x : Places) (dy : Dialog) → Decides (has_partner methods t x dy) (HoldsAt t x (λ e. HasPartner methods t dy e))
unfolding has_partner
decides_has_partner methods t x dy =
    Decides-like (has_partner methods t x dy) to from
    (decides_places (λ y. partner_at methods t x dy y) (λ y. HoldsAt t y (λ f. IsFirst methods t dy f) × HoldTogether t x y PassedTogether) (λ y. decides_partner methods t x dy y) (length t))
  where
    to : SomePlaces (length t) (λ y. HoldsAt t y (λ f. IsFirst methods t dy f) × HoldTogether t x y PassedTogether) → HoldsAt t x (λ e. HasPartner methods t dy e)
    to h =
        let first = h.3.0 in let both = h.3.1 in
        let same : both.2.0 ≡ first.0 = same_exchange t h.0 both.2.0 first.0 both.2.1 first.1 in
        (both.0, both.1, (first.0, first.2, subst (λ (f : Exchange). PassedTogether both.0 f) same both.2.2))

    from : HoldsAt t x (λ e. HasPartner methods t dy e) → SomePlaces (length t) (λ y. HoldsAt t y (λ f. IsFirst methods t dy f) × HoldTogether t x y PassedTogether)
    from h =
        let f : Exchange = h.2.0 in let first : IsFirst methods t dy f = h.2.1 in
        let own = own_places methods t dy f first.exchange in
        (places f.asked_at f.answered_at, first.exchange.later, at_within t f.answered_at f.answered first.exchange.at_answered, ((f, own, first), (h.0, h.1, (f, own, h.2.2))))

decides_begins : (methods : List (List ℕ)) (t : List Datagram) (dx dy : Dialog) (x : Places)
    → Decides (begins_call methods t dx dy x) (HoldsAt t x (λ e. IsFirst methods t dx e) × HoldsAt t x (λ e. HasPartner methods t dy e))
unfolding begins_call
decides_begins methods t dx dy x = Decides-and _ _ (decides_first methods t dx x) (decides_has_partner methods t x dy)

pub decides_call : (methods : List (List ℕ)) (t : List Datagram) (dx dy : Dialog) → Decides (call_of methods t dx dy) (CallOf methods t dx dy)
unfolding call_of
decides_call methods t dx dy =
    Decides-like (call_of methods t dx dy) to from
    (decides_places (λ x. begins_call methods t dx dy x) (λ x. HoldsAt t x (λ e. IsFirst methods t dx e) × HoldsAt t x (λ e. HasPartner methods t dy e)) (λ x. decides_begins methods t dx dy x) (length t))
  where
    to : SomePlaces (length t) (λ x. HoldsAt t x (λ e. IsFirst methods t dx e) × HoldsAt t x (λ e. HasPartner methods t dy e)) → CallOf methods t dx dy
    to h =
        let first = h.3.0 in let has = h.3.1 in
        let same : has.0 ≡ first.0 = same_exchange t h.0 has.0 first.0 has.1 first.1 in
        (first.0, has.2.0, record { first_x = first.2; first_y = has.2.1; together = subst (λ (e : Exchange). PassedTogether e has.2.0) same has.2.2 })

    from : CallOf methods t dx dy → SomePlaces (length t) (λ x. HoldsAt t x (λ e. IsFirst methods t dx e) × HoldsAt t x (λ e. HasPartner methods t dy e))
    from h =
        let e : Exchange = h.0 in let first : IsFirst methods t dx e = h.2.first_x in
        let own = own_places methods t dx e first.exchange in
        (places e.asked_at e.answered_at, first.exchange.later, at_within t e.answered_at e.answered first.exchange.at_answered, ((e, own, first), (e, own, (h.1, h.2.first_y, h.2.together))))
