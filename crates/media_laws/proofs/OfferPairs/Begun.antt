-- The request that begins at an event and is the open offer of a call there is the one that goes.
use Rattle.std.proofs.Common.{◌≡◌, ◌∙◌, ℕ, zero, suc, true, List, [], ◌∷◌, ◌++◌, Some, None, ◌⊎◌, sym, ap, subst, arith, inl, inr}
use Rattle.std.specs.Prelude.{IsTrue, slice_get}
use Rattle.std.specs.List.{All, AllPairs}
use Rattle.std.proofs.lemmas.List.Elements.{All-head, All-tail}
use Rattle.std.proofs.lemmas.Option.{none-some, same_Some}
use Rattle.events.specs.declared.sent.Sent.{Sent}
use Rattle.calls.specs.Finding.{has_tag}
use Rattle.calls.specs.declared.standing_call.StandingCall.{StandingCall}
use Rattle.call_rules.specs.Responses.{is_open}
use Rattle.plans.specs.Office.{Office}
use Rattle.transactions.specs.declared.change.Entry.{Entry}
use Rattle.transactions.specs.declared.transaction.Transaction.{Transaction}
use Rattle.call_trace.specs.declared.call.Offer.{Offer}
use Rattle.call_trace.specs.declared.datagram.Datagram.{Datagram}
use Rattle.call_trace.specs.declared.datagram.Message.{Message}
use Rattle.call_trace.specs.Events.{is_plain}
use Rattle.call_trace.specs.Listed.{AllOf}
use Rattle.call_trace.specs.Messages.{asks, offering}
use Rattle.call_trace.proofs.OneEvent.{sent_part}
use Rattle.call_trace.proofs.Words.{plain_asks}
use Rattle.message_laws.specs.Numbers.{IsBelow, IsNumberedIf, KnowsNumbers, WasCounted, begun_of}
use Rattle.message_laws.specs.OpenRequests.{IsAmong, IsOpenRequest}
use Rattle.message_laws.specs.Waiting.{FitsCall, IsOffering, from_tag}
use Rattle.message_laws.proofs.Askers.AskedCalls.{at_place}
use Rattle.message_laws.proofs.StandingCalls.OpenRequests.{among_right}
use Rattle.message_laws.proofs.AwaitedOffers.Rising.{pairs_head, pairs_tail}
use Rattle.message_laws.proofs.AwaitedOffers.WaitTakes.{same_number}
use Rattle.message_laws.specs.Kinds.{AreBegun}
use Rattle.message_laws.specs.Messages.{AreMessages, IsRequestOf}
use Rattle.message_laws.proofs.Traces.ReadTexts.{WrittenReads}
use Rattle.message_laws.proofs.Traces.TraceRequests.{asked_more}
use Rattle.media_laws.specs.Shows.{Went}

-- ---- what asks among what is sent

-- after what is plain, only one asks
only_last : (before : List Message) (went m : Message) (i : ℕ) → AllOf (λ m. IsTrue (is_plain offering m)) before → slice_get (before ++ went ∷ []) i ≡ Some m → IsTrue (asks offering m) → m ≡ went
only_last [] went m zero plain there asks = sym (same_Some went m there)
only_last [] went m (suc i) plain there asks = absurd (none-some m there)
only_last (x ∷ before) went m zero plain there asks = absurd (plain_asks offering m (subst (λ (y : Message). IsTrue (is_plain offering y)) (same_Some x m there) plain.0) asks)
only_last (x ∷ before) went m (suc i) plain there asks = only_last before went m i plain.1 there asks

-- so it is the request of what begins and may carry an offer
pub went_alone : WrittenReads → (sends : List Sent) (changes : List Entry) (ms before : List Message) (went : Message) → AreMessages sends ms → AreBegun changes sends → ms ≡ before ++ went ∷ []
    → AllOf (λ m. IsTrue (is_plain offering m)) before → (u : Transaction) → IsAmong (begun_of changes) u → IsOffering u → IsRequestOf u.parts went
went_alone law sends changes ms before went are begun whole plain u among offers =
    let asked = asked_more law [] 0 None ms sends [] changes are begun (λ v none. absurd none) u among offers in
    let part = sent_part 0 None ms asked.0 asked.1 asked.2.at asked.2.sent in
    let is : asked.1.message ≡ part.1 = ap (λ (v : Datagram). v.message) part.4 in
    let last : part.1 ≡ went = only_last before went part.1 part.0 plain (subst (λ l. slice_get l part.0 ≡ Some part.1) whole part.2) (subst (λ (m : Message). IsTrue (asks offering m)) is asked.2.asks) in
    subst (IsRequestOf u.parts) (is ∙ last) asked.3

-- ---- an earlier one is not the open offer

all_among : (P : Transaction → Type 0) (xs : List Transaction) (t : Transaction) → All P xs → IsAmong xs t → P t
all_among P [] t all among = absurd among
all_among P (x ∷ xs) t all (inl same) = subst P same (All-head P x xs all)
all_among P (x ∷ xs) t all (inr among) = all_among P xs t (All-tail P x xs all) among

among_split : (xs ys : List Transaction) (t : Transaction) → IsAmong (xs ++ ys) t → IsAmong xs t ⊎ IsAmong ys t
among_split [] ys t among = inr among
among_split (x ∷ xs) ys t (inl same) = inl (inl same)
among_split (x ∷ xs) ys t (inr among) = elim (among_split xs ys t among) [ inl one ↦ inl (inr one) | inr two ↦ inr two ]

below_across : (xs ys : List Transaction) (t u : Transaction) → AllPairs IsBelow (xs ++ ys) → IsAmong xs t → IsAmong ys u → IsBelow t u
below_across [] ys t u rise among later = absurd among
below_across (x ∷ xs) ys t u rise (inl same) later = subst (λ v. IsBelow v u) same (all_among (IsBelow x) (xs ++ ys) u (pairs_head x (xs ++ ys) rise) (among_right xs ys u later))
below_across (x ∷ xs) ys t u rise (inr among) later = below_across xs ys t u (pairs_tail x (xs ++ ys) rise) among later

module _ (s : Office) (begun more : List Transaction) (k : KnowsNumbers s (begun ++ more)) (place : ℕ) (c : StandingCall) (there : slice_get s.calls.calls place ≡ Some c) where
  fits : (u : Transaction) → IsAmong (begun ++ more) u → IsOffering u → is_open u.parts c ≡ true → FitsCall u c
  fits u among offers opens = λ has. record {
    counted = at_place (WasCounted u) s.calls.calls place c (all_among (IsNumberedIf s) (begun ++ more) u k.numbered among offers).counted there has;
    opens = λ waits. opens;
  }

  -- where one that begins is open, each that is open begins
  later_open : (t u : Transaction) → IsAmong more t → IsOpenRequest c t → IsAmong (begun ++ more) u → IsOffering u → has_tag (from_tag u) c ≡ true → is_open u.parts c ≡ true → IsAmong more u
  later_open t u new open_t among offers tag open_u = elim (among_split begun more u among) [
    | inr late ↦ late
    | inl old ↦ (let last : IsAmong (begun ++ more) t = among_right begun more t new in
        let same = same_number u t c tag open_t.tag open_u open_t.opens (fits u among offers open_u) (fits t last open_t.offers open_t.opens) in
        let below = below_across begun more u t k.rise old new offers open_t.offers same.tag in
        absurd (omega (arith, below, same.number)))
  ]

  pub went_of : (t : Transaction) (p : Offer) → IsAmong more t → IsOpenRequest c t → ((u : Transaction) → IsAmong more u → IsOffering u → IsRequestOf u.parts p.went) → Went (begun ++ more) c p
  went_of t p new open_t goes = λ u among offers tag opens. goes u (later_open t u new open_t among offers tag opens) offers
