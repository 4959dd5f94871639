-- In no leg a number is given twice: changes that begin one request with an offer at most, whose number is new in its
-- leg, keep that.
use Rattle.std.proofs.Common.{◌≡◌, ◌∙◌, ℕ, true, false, List, [], ◌∷◌, ◌++◌, Option, Some, refl, ap, sym, subst, inl, inr}
use Rattle.sip_message.specs.declared.message.Parts.{Parts}
use Rattle.sip_message.specs.Words.{tag_text}
use Rattle.call_rules.specs.Speaking.{may_offer}
use Rattle.transaction_machines.specs.declared.step.Starts.{Starts}
use Rattle.transaction_machines.specs.Machines.{is_server}
use Rattle.transactions.specs.declared.change.Entry.{Entry}
use Rattle.transactions.specs.declared.change.Entry.TheVariants.{Opens, Tells, Answers, Leaves}
use Rattle.transactions.specs.declared.transaction.Transaction.{Transaction}
use Rattle.transactions.specs.Changes.{entered, entered_all}
use Rattle.transactions.specs.Contents.{Contents}
use Rattle.transactions.specs.Slots.{at}
use Rattle.message_laws.specs.Waiting.{IsOffering, from_tag}
use Rattle.message_laws.proofs.AwaitedOffers.Coming.{CameFrom, IsLater, OpensIn, Placed, before, began, here, one_came, opened_at, spot, stayed}
use Rattle.message_laws.proofs.AwaitedOffers.Offering.{opens_split}

-- two requests of one leg with one number
pub record IsSameNumber (t u : Transaction) : Type 0 where
  pub tag : from_tag t ≡ from_tag u
  pub number : t.parts.cseq.number ≡ u.parts.cseq.number

abbrev pub AreOnce : List (Option Transaction) → Type 0
AreOnce slots = (i j : ℕ) (t u : Transaction) → at slots i ≡ Some t → at slots j ≡ Some u → IsOffering t → IsOffering u → IsSameNumber t u → i ≡ j

-- what changes begin has a number that no live one has
abbrev pub AreFresh : List (Option Transaction) → List Entry → Type 0
AreFresh slots changes = (t : Transaction) → OpensIn t changes → IsOffering t → (id : ℕ) (v : Transaction) → at slots id ≡ Some v → IsOffering v → IsSameNumber v t → ⊥

abbrev pub NoneOffers : List Entry → Type 0
NoneOffers changes = (t : Transaction) → OpensIn t changes → IsOffering t → ⊥

-- nor any of the server's own
abbrev pub NoneOwn : List Entry → Type 0
NoneOwn changes = (t : Transaction) → OpensIn t changes → is_server t.state ≡ false → ⊥

-- one at most begins a request that may carry an offer
abbrev pub OneOffers : List Entry → Type 0
OneOffers [] = Unit {0}
OneOffers (Opens t starts ∷ changes) = (IsOffering t → NoneOffers changes) × OneOffers changes
OneOffers (Tells id input fresh ∷ changes) = OneOffers changes
OneOffers (Answers id class bytes ∷ changes) = OneOffers changes
OneOffers (Leaves ∷ changes) = OneOffers changes

same_turned : (t u : Transaction) → IsSameNumber t u → IsSameNumber u t
same_turned t u same = record { tag = sym same.tag; number = sym same.number }

-- ---- the same request, further on

pub offering_before : (t u : Transaction) → IsLater t u → IsOffering u → IsOffering t
offering_before t u later offers = record { client = sym later.side ∙ offers.client; offers = subst (λ p. may_offer p ≡ true) later.parts offers.offers }

same_left : (t u v : Transaction) → IsLater t u → IsSameNumber u v → IsSameNumber t v
same_left t u v later same = record {
  tag = ap (λ (p : Parts). tag_text p.from.params) (sym later.parts) ∙ same.tag;
  number = ap (λ (p : Parts). p.cseq.number) (sym later.parts) ∙ same.number;
}

same_both : (t u v w : Transaction) → IsLater t u → IsLater v w → IsSameNumber u w → IsSameNumber t v
same_both t u v w one two same = same_turned v t (same_left v w t two (same_turned t w (same_left t u w one same)))

-- ---- a change that begins none

-- all that is live was live before
abbrev Stays : List (Option Transaction) → List (Option Transaction) → Type 0
Stays slots next = (j : ℕ) (u : Transaction) → at next j ≡ Some u → (t : Transaction) × (at slots j ≡ Some t) × IsLater t u

stays_once : (slots next : List (Option Transaction)) → Stays slots next → AreOnce slots → AreOnce next
stays_once slots next stays once i j t u at_t at_u offers_t offers_u same =
    let one = stays i t at_t in
    let two = stays j u at_u in
    once i j one.0 two.0 one.1 two.1 (offering_before one.0 t one.2 offers_t) (offering_before two.0 u two.2 offers_u) (same_both one.0 t two.0 u one.2 two.2 same)

stays_fresh : (slots next : List (Option Transaction)) (changes : List Entry) → Stays slots next → AreFresh slots changes → AreFresh next changes
stays_fresh slots next changes stays fresh t opens offers id v at_v offers_v same =
    let one = stays id v at_v in
    fresh t opens offers id one.0 one.1 (offering_before one.0 v one.2 offers_v) (same_left one.0 v t one.2 same)

came_stays : (slots : List (Option Transaction)) (change : Entry) (j : ℕ) (u : Transaction) → ((t : Transaction) → OpensIn t (change ∷ []) → ⊥) → CameFrom slots (change ∷ []) j u
    → (t : Transaction) × (at slots j ≡ Some t) × IsLater t u
came_stays slots change j u none (stayed t there later) = (t, there, later)
came_stays slots change j u none (began t opens later) = absurd (none t opens)

one_stays : (now : ℕ) (table : Contents) (change : Entry) → ((t : Transaction) → OpensIn t (change ∷ []) → ⊥) → Stays table.slots (entered now table change).slots
one_stays now table change none j u e = came_stays table.slots change j u none (one_came now table change [] j u e)

-- ---- a transaction begins

both_placed : (slots : List (Option Transaction)) (v : Transaction) (put i j : ℕ) (t u : Transaction) → AreOnce slots
    → ((id : ℕ) (w : Transaction) → at slots id ≡ Some w → IsOffering w → IsOffering v → IsSameNumber w v → ⊥) → IsOffering t → IsOffering u → IsSameNumber t u → Placed slots v put i t
    → Placed slots v put j u → i ≡ j
both_placed slots v put i j t u once fresh offers_t offers_u same (before at_t) (before at_u) = once i j t u at_t at_u offers_t offers_u same
both_placed slots v put i j t u once fresh offers_t offers_u same (before at_t) (here is at_j) =
    absurd (fresh i t at_t offers_t (subst IsOffering (sym is) offers_u) (subst (IsSameNumber t) (sym is) same))
both_placed slots v put i j t u once fresh offers_t offers_u same (here is at_i) (before at_u) =
    absurd (fresh j u at_u offers_u (subst IsOffering (sym is) offers_t) (subst (IsSameNumber u) (sym is) (same_turned t u same)))
both_placed slots v put i j t u once fresh offers_t offers_u same (here is_t at_i) (here is_u at_j) = at_i ∙ sym at_j

later_fresh : (slots : List (Option Transaction)) (v : Transaction) (put id : ℕ) (w t : Transaction) (changes : List Entry) (starts : Starts) → AreFresh slots (Opens v starts ∷ changes)
    → (IsOffering v → NoneOffers changes) → OpensIn t changes → IsOffering t → IsOffering w → IsSameNumber w t → Placed slots v put id w → ⊥
later_fresh slots v put id w t changes starts fresh one opens offers offers_w same (before at_w) = fresh t (inr opens) offers id w at_w offers_w same
later_fresh slots v put id w t changes starts fresh one opens offers offers_w same (here is at_id) = one (subst IsOffering (sym is) offers_w) t opens offers

-- ---- all changes

pub once_kept : (now : ℕ) (table : Contents) (changes : List Entry) → OneOffers changes → AreFresh table.slots changes → AreOnce table.slots → AreOnce (entered_all now table changes).slots
once_kept now table [] one fresh once = once
once_kept now table (Opens v starts ∷ changes) one fresh once =
    once_kept now (entered now table (Opens v starts)) changes one.1
    (λ t opens offers id w at_w offers_w same. later_fresh table.slots v (spot table.slots) id w t changes starts fresh one.0 opens offers offers_w same (opened_at now table v w starts id at_w))
    (λ i j t u at_t at_u offers_t offers_u same.
    both_placed table.slots v (spot table.slots) i j t u once (λ id w at_w offers_w offers_v same_w. fresh v (inl refl) offers_v id w at_w offers_w same_w) offers_t offers_u same
    (opened_at now table v t starts i at_t) (opened_at now table v u starts j at_u))
once_kept now table (Tells id input bytes ∷ changes) one fresh once =
    let stays = one_stays now table (Tells id input bytes) (λ t h. h) in
    let next = (entered now table (Tells id input bytes)) in
    once_kept now next changes one (stays_fresh table.slots next.slots changes stays fresh) (stays_once table.slots next.slots stays once)
once_kept now table (Answers id class bytes ∷ changes) one fresh once =
    let stays = one_stays now table (Answers id class bytes) (λ t h. h) in
    let next = (entered now table (Answers id class bytes)) in
    once_kept now next changes one (stays_fresh table.slots next.slots changes stays fresh) (stays_once table.slots next.slots stays once)
once_kept now table (Leaves ∷ changes) one fresh once = once_kept now (entered now table Leaves) changes one fresh once

-- ---- lists of changes

pub none_one : (changes : List Entry) → NoneOffers changes → OneOffers changes
none_one [] none = tt
none_one (Opens t starts ∷ changes) none = (λ offers. absurd (none t (inl refl) offers), none_one changes (λ u opens. none u (inr opens)))
none_one (Tells id input bytes ∷ changes) none = none_one changes none
none_one (Answers id class bytes ∷ changes) none = none_one changes none
none_one (Leaves ∷ changes) none = none_one changes none

pub none_then : (xs ys : List Entry) → NoneOffers xs → NoneOffers ys → NoneOffers (xs ++ ys)
none_then xs ys none then t opens offers = elim (opens_split t xs ys opens) [ inl h ↦ none t h offers | inr h ↦ then t h offers ]

pub own_offers : (changes : List Entry) → NoneOwn changes → NoneOffers changes
own_offers changes none t opens offers = none t opens offers.client

pub own_then : (xs ys : List Entry) → NoneOwn xs → NoneOwn ys → NoneOwn (xs ++ ys)
own_then xs ys none then t opens client = elim (opens_split t xs ys opens) [ inl h ↦ none t h client | inr h ↦ then t h client ]

pub one_then : (xs ys : List Entry) → OneOffers xs → NoneOffers ys → OneOffers (xs ++ ys)
one_then [] ys one none = none_one ys none
one_then (Opens t starts ∷ xs) ys one none = (λ offers. none_then xs ys (one.0 offers) none, one_then xs ys one.1 none)
one_then (Tells id input bytes ∷ xs) ys one none = one_then xs ys one none
one_then (Answers id class bytes ∷ xs) ys one none = one_then xs ys one none
one_then (Leaves ∷ xs) ys one none = one_then xs ys one none

pub none_before : (xs ys : List Entry) → NoneOffers xs → OneOffers ys → OneOffers (xs ++ ys)
none_before [] ys none one = one
none_before (Opens t starts ∷ xs) ys none one = (λ offers. absurd (none t (inl refl) offers), none_before xs ys (λ u opens. none u (inr opens)) one)
none_before (Tells id input bytes ∷ xs) ys none one = none_before xs ys none one
none_before (Answers id class bytes ∷ xs) ys none one = none_before xs ys none one
none_before (Leaves ∷ xs) ys none one = none_before xs ys none one
