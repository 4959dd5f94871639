-- What the tests of exchanges decide.
use Rattle.std.proofs.Common.{◌≡◌, ℕ, ◌<◌, ◌≤◌, Bool, ◌&&◌, List, length, take, Option, Some, None, ◌⊎◌, inl, inr, refl, sym, ◌∙◌, ap, subst, arith}
use Rattle.std.specs.Prelude.{nat_lt, slice_get, IsTrue}
use Rattle.std.specs.Bool.{Decides}
use Rattle.std.specs.List.{list_any}
use Rattle.std.proofs.lemmas.Bool.{cases_lt}
use Rattle.std.proofs.lemmas.Bool.Decides.{Decides-and, Decides-or, Decides-not, Decides-like, Decides-ltb}
use Rattle.call_trace.specs.declared.datagram.Direction.TheVariants.{Sent}
use Rattle.call_trace.specs.declared.datagram.Datagram.{Datagram}
use Rattle.call_trace.specs.declared.datagram.Dialog.{Dialog}
use Rattle.call_trace.specs.declared.exchange.Places.{Places}
use Rattle.call_trace.specs.Messages.{is_offer, is_answer, Replies}
use Rattle.call_trace.specs.Dialogs.{dialog_of}
use Rattle.call_trace.specs.Exchanges.{TakesFinal, Exchange, IsServed, IsMade, IsExchange, IsLast}
use Rattle.call_trace.specs.Places.{exchange, IsAtPlaces, HoldsAt}
use Rattle.call_trace.specs.Computed.{takes_final, sends_bytes, sent_before, final_before, is_served, is_made, is_exchange, on, on_both, some_below, places, some_places, exchange_at, answered_at, answered_behind, later_exchange, last_at}
use Rattle.call_trace.proofs.PlaceTests.{decides_before, decides_range}
use Rattle.call_trace.proofs.AtLaws.{at_place, place_at, at_within}
use Rattle.call_trace.proofs.MessageTests.{decides_itself, decides_taken, decides_sent, decides_replies, decides_names, decides_takes_final, decides_sends_bytes}

-- ---- places

abbrev pub four : ℕ → ℕ → Datagram → Datagram → Exchange
four i j p q = record { asked_at = i; answered_at = j; asked = p; answered = q }

-- what is at the same places is the same
pub same_exchange : (t : List Datagram) (at : Places) (e f : Exchange) → IsAtPlaces t at e → IsAtPlaces t at f → e ≡ f
same_exchange t at e f a b =
    let i : e.asked_at ≡ f.asked_at = a.asked_at ∙ sym b.asked_at in
    let j : e.answered_at ≡ f.answered_at = a.answered_at ∙ sym b.answered_at in
    let p : slice_get t e.asked_at ≡ Some e.asked = place_at t e.asked_at e.asked a.at_asked in
    let p' : slice_get t f.asked_at ≡ Some f.asked = place_at t f.asked_at f.asked b.at_asked in
    let q : slice_get t e.answered_at ≡ Some e.answered = place_at t e.answered_at e.answered a.at_answered in
    let q' : slice_get t f.answered_at ≡ Some f.answered = place_at t f.answered_at f.answered b.at_answered in
    let same : four e.asked_at e.answered_at e.asked e.answered ≡ four f.asked_at f.answered_at f.asked f.answered = cc in
    same

pub decides_on : (q : Datagram → Bool) (Q : Datagram → Type 0) → ((p : Datagram) → Decides (q p) (Q p)) → (o : Option Datagram) → Decides (on q o) ((p : Datagram) × (o ≡ Some p) × Q p)
decides_on q Q each None = (λ h. absurd (cc), λ h. absurd (let e : None ≡ Some h.0 = h.1 in cc))
decides_on q Q each (Some p) =
    Decides-like (q p) (λ h. (p, refl, h)) (λ h. (let e : Some p ≡ Some h.0 = h.1 in let same : h.0 ≡ p = cc in subst Q same h.2)) (each p)

pub decides_both : (t : List Datagram) (at : Places) (q : Datagram → Datagram → Bool) (Q : Exchange → Type 0) → ((p r : Datagram) → Decides (q p r) (Q (exchange at p r)))
    → Decides (on_both q t at) (HoldsAt t at Q)
decides_both t at q Q each =
    Decides-like (on_both q t at)
    (λ h. (exchange at h.0 h.2.0, record { asked_at = refl; answered_at = refl; at_asked = at_place t at.asked h.0 h.1; at_answered = at_place t at.answered h.2.0 h.2.1 }, h.2.2))
    (λ h. (let e : exchange at h.0.asked h.0.answered ≡ h.0 = (let i : h.0.asked_at ≡ at.asked = h.1.asked_at in let j : h.0.answered_at ≡ at.answered = h.1.answered_at in
    let same : four at.asked at.answered h.0.asked h.0.answered ≡ four h.0.asked_at h.0.answered_at h.0.asked h.0.answered = cc in same) in (
      h.0.asked,
      ap (λ k. slice_get t k) (sym h.1.asked_at) ∙ place_at t h.0.asked_at h.0.asked h.1.at_asked,
      (h.0.answered, ap (λ k. slice_get t k) (sym h.1.answered_at) ∙ place_at t h.0.answered_at h.0.answered h.1.at_answered, subst Q (sym e) h.2),
    )))
    (decides_on (λ p. on (λ r. q p r) (slice_get t at.answered)) (λ p. (r : Datagram) × (slice_get t at.answered ≡ Some r) × Q (exchange at p r))
    (λ p. decides_on (λ r. q p r) (λ r. Q (exchange at p r)) (each p) (slice_get t at.answered)) (slice_get t at.asked))

pub decides_below : (q : ℕ → Bool) (Q : ℕ → Type 0) → ((k : ℕ) → Decides (q k) (Q k)) → (n : ℕ) → Decides (some_below q n) ((k : ℕ) × (k < n) × Q k)
decides_below q Q each n =
    Decides-like (some_below q n) (λ h. (h.0, omega (arith, h.2), h.3)) (λ h. (h.0, omega arith, omega (arith, h.1), h.2)) (decides_range q Q each 0 n)

-- some places, the request before the response
abbrev pub SomePlaces : ℕ → (Places → Type 0) → Type 0
SomePlaces n Q = (at : Places) × (at.asked < at.answered) × (at.answered < n) × Q at

pub decides_places : (q : Places → Bool) (Q : Places → Type 0) → ((at : Places) → Decides (q at) (Q at)) → (n : ℕ) → Decides (some_places q n) (SomePlaces n Q)
decides_places q Q each n =
    Decides-like (some_places q n)
    (λ h. (places h.2.0 h.0, h.2.1, h.1, h.2.2))
    (λ h. (h.0.answered, h.2, (h.0.asked, h.1, h.3)))
    (decides_below (λ j. some_below (λ i. q (places i j)) j) (λ j. (i : ℕ) × (i < j) × Q (places i j)) (λ j. decides_below (λ i. q (places i j)) (λ i. Q (places i j)) (λ i. each (places i j)) j) n)

-- ---- exchanges

pub decides_served : (t : List Datagram) (at : Places) (p q : Datagram) → Decides (is_served t p at.answered q) (IsServed t (exchange at p q))
unfolding is_served sent_before
decides_served t at p q =
    Decides-like (is_served t p at.answered q)
    (λ h. record { asked = h.0; answered = h.1.0; fresh = λ k r lt st sent same. h.1.1 (k, r, lt, place_at t k r st, (sent, same)) })
    (λ h. (h.asked, (h.answered, λ s. h.fresh s.0 s.1 s.2 (at_place t s.0 s.1 s.3) s.4.0 s.4.1)))
    (Decides-and _ _ (decides_taken p.direction)
    (Decides-and _ _ (decides_sent q.direction)
    (Decides-not (list_any (λ r. sends_bytes r q.message.bytes) (take at.answered t))
    (decides_before (λ r. sends_bytes r q.message.bytes) (λ r. (r.direction ≡ Sent) × (r.message.bytes ≡ q.message.bytes)) (decides_sends_bytes q.message.bytes) at.answered t))))

pub decides_made : (t : List Datagram) (at : Places) (p q : Datagram) → Decides (is_made t p at.answered q) (IsMade t (exchange at p q))
unfolding is_made final_before
decides_made t at p q =
    Decides-like (is_made t p at.answered q)
    (λ h. record { asked = h.0; answered = h.1.0; first = λ k r lt st f. h.1.1 (k, r, lt, place_at t k r st, f) })
    (λ h. (h.asked, (h.answered, λ s. h.first s.0 s.1 s.2 (at_place t s.0 s.1 s.3) s.4)))
    (Decides-and _ _ (decides_sent p.direction)
    (Decides-and _ _ (decides_taken q.direction)
    (Decides-not (list_any (λ r. takes_final r p.message) (take at.answered t))
    (decides_before (λ r. takes_final r p.message) (λ r. TakesFinal r p.message) (decides_takes_final p.message) at.answered t))))

-- the facts of an exchange that are not said by its places
pub record Fits (methods : List (List ℕ)) (t : List Datagram) (d : Dialog) (e : Exchange) : Type 0 where
  pub later : e.asked_at < e.answered_at
  pub offer : IsTrue (is_offer methods e.asked.message)
  pub answer : IsTrue (is_answer e.answered.message)
  pub replies : Replies e.answered.message e.asked.message
  pub in_dialog : (dialog_of e.asked ≡ d) ⊎ (dialog_of e.answered ≡ d)
  pub crossed : IsServed t e ⊎ IsMade t e

pub decides_fits : (methods : List (List ℕ)) (t : List Datagram) (d : Dialog) (at : Places) (p q : Datagram) → Decides (is_exchange methods t d at p q) (Fits methods t d (exchange at p q))
unfolding is_exchange
decides_fits methods t d at p q =
    Decides-like (is_exchange methods t d at p q)
    (λ h. record { later = h.0; offer = h.1.0; answer = h.1.1.0; replies = h.1.1.1.0; in_dialog = h.1.1.1.1.0; crossed = h.1.1.1.1.1 })
    (λ h. (h.later, (h.offer, (h.answer, (h.replies, (h.in_dialog, h.crossed))))))
    (Decides-and _ _ (Decides-ltb at.asked at.answered)
    (Decides-and _ _ (decides_itself (is_offer methods p.message))
    (Decides-and _ _ (decides_itself (is_answer q.message))
    (Decides-and _ _ (decides_replies q.message p.message)
    (Decides-and _ _ (Decides-or _ _ (decides_names p d) (decides_names q d))
    (Decides-or _ _ (decides_served t at p q) (decides_made t at p q)))))))

pub exchange_fits : (methods : List (List ℕ)) (t : List Datagram) (d : Dialog) (at : Places) (e : Exchange) → IsAtPlaces t at e → Fits methods t d e → IsExchange methods t d e
exchange_fits methods t d at e s f = record {
  at_asked = s.at_asked;
  at_answered = s.at_answered;
  later = f.later;
  offer = f.offer;
  answer = f.answer;
  replies = f.replies;
  in_dialog = f.in_dialog;
  crossed = f.crossed;
}

pub fits_exchange : (methods : List (List ℕ)) (t : List Datagram) (d : Dialog) (e : Exchange) → IsExchange methods t d e → Fits methods t d e
fits_exchange methods t d e x = record { later = x.later; offer = x.offer; answer = x.answer; replies = x.replies; in_dialog = x.in_dialog; crossed = x.crossed }

pub decides_exchange : (methods : List (List ℕ)) (t : List Datagram) (d : Dialog) (at : Places) → Decides (exchange_at methods t d at) (HoldsAt t at (λ e. IsExchange methods t d e))
unfolding exchange_at
decides_exchange methods t d at =
    Decides-like (exchange_at methods t d at)
    (λ h. (h.0, h.1, exchange_fits methods t d at h.0 h.1 h.2))
    (λ h. (h.0, h.1, fits_exchange methods t d h.0 h.2))
    (decides_both t at (λ p q. is_exchange methods t d at p q) (λ e. Fits methods t d e) (λ p q. decides_fits methods t d at p q))

-- an exchange is at its places
pub own_places : (methods : List (List ℕ)) (t : List Datagram) (d : Dialog) (e : Exchange) → IsExchange methods t d e → IsAtPlaces t (places e.asked_at e.answered_at) e
own_places methods t d e x = record { asked_at = refl; answered_at = refl; at_asked = x.at_asked; at_answered = x.at_answered }

-- ---- the last

pub decides_answered : (methods : List (List ℕ)) (t : List Datagram) (d : Dialog) (j : ℕ) → Decides (answered_at methods t d j) ((e : Exchange) × (e.answered_at ≡ j) × IsExchange methods t d e)
unfolding answered_at
decides_answered methods t d j =
    Decides-like (answered_at methods t d j)
    (λ h. (h.2.0, h.2.1.answered_at, h.2.2))
    (λ h. (let later : h.0.asked_at < h.0.answered_at = h.2.later in let at : h.0.answered_at ≡ j = h.1 in
    (h.0.asked_at, omega arith, (h.0, record { asked_at = refl; answered_at = at; at_asked = h.2.at_asked; at_answered = h.2.at_answered }, h.2))))
    (decides_below (λ i. exchange_at methods t d (places i j)) (λ i. HoldsAt t (places i j) (λ e. IsExchange methods t d e)) (λ i. decides_exchange methods t d (places i j)) j)

pub decides_later : (methods : List (List ℕ)) (t : List Datagram) (d : Dialog) (j : ℕ) → Decides (later_exchange methods t d j) ((e : Exchange) × (j < e.answered_at) × IsExchange methods t d e)
unfolding later_exchange answered_behind
decides_later methods t d j =
    Decides-like (later_exchange methods t d j)
    (λ h. (let lt : j < h.0 = h.2.0 in let at : h.2.1.0.answered_at ≡ h.0 = h.2.1.1 in (h.2.1.0, omega arith, h.2.1.2)))
    (λ h. (h.0.answered_at, at_within t h.0.answered_at h.0.answered h.2.at_answered, (h.1, (h.0, refl, h.2))))
    (decides_below (λ l. nat_lt j l && answered_at methods t d l) (λ l. (j < l) × ((e : Exchange) × (e.answered_at ≡ l) × IsExchange methods t d e))
    (λ l. Decides-and _ _ (Decides-ltb j l) (decides_answered methods t d l)) (length t))

pub decides_last : (methods : List (List ℕ)) (t : List Datagram) (d : Dialog) (at : Places) → Decides (last_at methods t d at) (HoldsAt t at (λ e. IsLast methods t d e))
unfolding last_at
decides_last methods t d at =
    Decides-like (last_at methods t d at)
    (λ h. (
      h.0.0,
      h.0.1,
      record {
        exchange = h.0.2;
        greatest = λ f x. elim (cases_lt at.answered f.answered_at) [
          | inl lt ↦ absurd (h.1 (f, lt, x))
          | inr le ↦ (let same : h.0.0.answered_at ≡ at.answered = h.0.1.answered_at in omega arith)
        ];
      },
    ))
    (λ h. (
      (h.0, h.1, h.2.exchange),
      λ l. (let le : l.0.answered_at ≤ h.0.answered_at = h.2.greatest l.0 l.2 in
          let lt : at.answered < l.0.answered_at = l.1 in let same : h.0.answered_at ≡ at.answered = h.1.answered_at in omega arith),
    ))
    (Decides-and _ _ (decides_exchange methods t d at) (Decides-not _ (decides_later methods t d at.answered)))
