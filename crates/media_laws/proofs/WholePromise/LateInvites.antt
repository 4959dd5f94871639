-- After a move each INVITE and UPDATE that was sent is of a transaction that began; and of the later INVITEs that begin
-- at its event, the dialog is a leg of a call that was answered.
use Rattle.std.proofs.Common.{true≢false, ◌≡◌, ◌∙◌, ℕ, Bool, true, false, ◌==◌, ◌&&◌, List, [], ◌∷◌, ◌++◌, Option, Some, ap, refl, sym, subst, inl, inr, length, ◌⊎◌, arith}
use Rattle.std.specs.Prelude.{slice_get}
use Rattle.std.specs.List.{All, AllPairs}
use Rattle.std.proofs.lemmas.Bool.{or_left}
use Rattle.std.proofs.lemmas.List.Elements.{All-head, All-tail}
use Rattle.call_rules.specs.Speaking.{is_invite, is_update}
use Rattle.call_trace.specs.declared.call.Call.{Call}
use Rattle.call_trace.specs.declared.datagram.Datagram.{Datagram}
use Rattle.call_trace.specs.declared.datagram.Message.{Message}
use Rattle.call_trace.specs.Events.{passed}
use Rattle.call_trace.specs.Exchanges.{At}
use Rattle.call_trace.specs.Listed.{AnyOf}
use Rattle.call_trace.specs.Lives.{IsLegOf}
use Rattle.call_trace.specs.Messages.{offering}
use Rattle.call_trace.specs.Moves.{Move}
use Rattle.call_trace.specs.Stands.{leg}
use Rattle.call_trace.proofs.Members.{any_at, at_any}
use Rattle.calls.specs.declared.standing_call.StandingCall.{StandingCall}
use Rattle.media_laws.specs.Standing.{AreOfBegun, IsOfBegun}
use Rattle.media_laws.proofs.OtherCalls.OffersOpen.{listed_at}
use Rattle.plans.specs.Office.{Office}
use Rattle.message_laws.specs.Numbers.{IsBelow, IsNumberedIf, KnowsNumbers, WasCounted}
use Rattle.message_laws.specs.OpenRequests.{HasAsked, IsAmong}
use Rattle.message_laws.specs.Waiting.{IsOffering}
use Rattle.message_laws.proofs.AwaitedOffers.Awaiting.{all_at}
use Rattle.message_laws.proofs.StandingCalls.OpenRequests.{among_left, among_right}
use Rattle.message_laws.proofs.AwaitedOffers.Rising.{pairs_head, pairs_tail}
use Rattle.media_laws.specs.Late.{IsAnsweredOrEnded, IsLater, dialog_asked}
use Rattle.sip_message.specs.declared.message.Parts.{Parts}
use Rattle.sip_message.specs.Words.{tag_text}
use Rattle.media_laws.specs.Listing.{Listed}
use Rattle.media_laws.specs.Shows.{ShowsCall}
use Rattle.message_laws.specs.KnownTrace.{IsRequested}
use Rattle.message_laws.specs.Messages.{IsRequestOf}
use Rattle.transactions.specs.declared.transaction.Transaction.{Transaction}
use Rattle.media_laws.proofs.WholePromise.BegunRequests.{AsksOne, WentFor, IsAskedIn, asks_one, went_for, dialog_asked_in, first, later, same_dialog, was_asked}
use Rattle.media_laws.proofs.WholePromise.Openings.{HasOpenRequest, has_open_request}

pub new_of_begun : AreOfBegun [] []
unfolding At
new_of_begun i q h = absurd cc

-- ---- of what began before and what begins

all_among : (P : Transaction → Type 0) (xs : List Transaction) (t : Transaction) → All P xs → IsAmong xs t → P t
all_among P [] t all among = absurd among
all_among P (x ∷ xs) t all (inl same) = subst P same (All-head P x xs all)
all_among P (x ∷ xs) t all (inr among) = all_among P xs t (All-tail P x xs all) among

pub among_split : (xs ys : List Transaction) (t : Transaction) → IsAmong (xs ++ ys) t → IsAmong xs t ⊎ IsAmong ys t
among_split [] ys t among = inr among
among_split (x ∷ xs) ys t (inl same) = inl (inl same)
among_split (x ∷ xs) ys t (inr among) = elim (among_split xs ys t among) [ inl one ↦ inl (inr one) | inr two ↦ inr two ]

below_across : (xs ys : List Transaction) (t u : Transaction) → AllPairs IsBelow (xs ++ ys) → IsAmong xs t → IsAmong ys u → IsBelow t u
below_across [] ys t u rise among begins = absurd among
below_across (x ∷ xs) ys t u rise (inl same) begins = subst (λ v. IsBelow v u) same (all_among (IsBelow x) (xs ++ ys) u (pairs_head x (xs ++ ys) rise) (among_right xs ys u begins))
below_across (x ∷ xs) ys t u rise (inr among) begins = below_across xs ys t u (pairs_tail x (xs ++ ys) rise) among begins

of_more : (begun more : List Transaction) (m : Message) → IsOfBegun begun m → IsOfBegun (begun ++ more) m
of_more begun more m h = (h.0, among_left begun more h.0 h.1, h.2, h.3)

-- no request that begins now went before
not_before : (begun more : List Transaction) (m : Message) (u : Transaction) → AllPairs IsBelow (begun ++ more) → IsOfBegun begun m → IsAmong more u → IsOffering u → IsRequestOf u.parts m → ⊥
not_before begun more m u rise old among offers request =
    let lt = below_across begun more old.0 u rise old.1 among old.2 offers (sym old.3.from_tag ∙ request.from_tag) in
    let same : old.0.parts.cseq.number ≡ u.parts.cseq.number = sym old.3.number ∙ request.number in
    omega (arith, lt, same)

-- ---- what is shown afterwards

-- the call that a request opens, with the transaction of its open offer
pub record HasOpening (s : Office) (begun : List Transaction) (new : List Call) (m : Message) : Type 0 where
  pub place : ℕ
  pub call : Call
  pub standing : StandingCall
  pub there : slice_get new place ≡ Some call
  pub went_for : WentFor m call
  pub request : HasOpenRequest begun standing call went_for.offer
  pub counted : (u : Transaction) → IsAmong begun u → IsOffering u → WasCounted u standing

module _ (s : Office) (begun : List Transaction) (t : List Datagram) (new : List Call) (asked : All (HasAsked begun) s.calls.calls) (numbers : KnowsNumbers s begun) (listed : Listed (ShowsCall s.table.slots begun t) s.calls.calls new) (m : Message) where
  pub opening : AnyOf (WentFor m) new → HasOpening s begun new m
  opening any =
      let found = any_at (WentFor m) new any in
      let shown = listed_at _ s.calls.calls new listed found.0 found.1 found.2 in
      record {
        place = found.0;
        call = found.1;
        standing = shown.1;
        there = found.2;
        went_for = found.3;
        request = has_open_request s.table.slots begun t shown.1 found.1 found.3.offer found.3.open_is (all_at (HasAsked begun) s.calls.calls shown.0 shown.1 asked shown.2) shown.3;
        counted = λ u among offers. all_at (WasCounted u) s.calls.calls shown.0 shown.1 (all_among (IsNumberedIf s) begun u numbers.numbered among offers).counted shown.2;
      }

opening_began : (s : Office) (begun : List Transaction) (new : List Call) (m : Message) → HasOpening s begun new m → IsOfBegun begun m
opening_began s begun new m h =
    (h.request.transaction, h.request.began, h.request.opens.offers, subst (IsRequestOf h.request.transaction.parts) h.went_for.went h.request.request)

-- ---- a later INVITE

first_by : (tag : List ℕ) (number : ℕ) → tag ≡ [] → number ≡ 1 → (length tag == 0 && number == 1) ≡ true
first_by tag number none one = rw none (rw one refl)

dialog_is : (parts : Parts) (m : Message) → IsRequestOf parts m → dialog_asked_in m ≡ dialog_asked parts
dialog_is parts m r = same_dialog m.call_id m.from_tag m.to_tag parts.call_id (tag_text parts.from.params) (tag_text parts.to.params) r.call_id r.from_tag r.to_tag

leg_is : (c : Call) (b : Bool) → (c.caller ≡ leg c b) ⊎ (c.callee ≡ leg c b)
leg_is c true = inl refl
leg_is c false = inr refl

is_answered : (s : Office) (begun : List Transaction) (t : List Datagram) (new : List Call) (m : Message) (u : Transaction) → (h : HasOpening s begun new m) → IsAskedIn h.call m → IsLater u → IsRequestOf u.parts m → IsAnsweredOrEnded t new (dialog_asked u.parts)
is_answered s begun t new m u h (first asked none) is request =
    let v = h.request.transaction in
    let one = h.request.first asked (h.counted v h.request.began h.request.opens.offers) in
    let same : u.parts.cseq.number ≡ 1 = sym request.number ∙ ap (λ (x : Message). x.number) (sym h.went_for.went) ∙ h.request.request.number ∙ one in
    absurd (true≢false (sym (first_by (tag_text u.parts.to.params) u.parts.cseq.number (sym request.to_tag ∙ none) same) ∙ is.later))
is_answered s begun t new m u h (later b answered same) is request =
    inl (at_any (IsLegOf (dialog_asked u.parts)) new h.place h.call h.there
    (subst (λ x. IsLegOf x h.call) (sym same ∙ dialog_is u.parts m request) (record { answered = answered; leg = leg_is h.call b })))

-- ---- both, after a move

module _ (s : Office) (begun more : List Transaction) (t : List Datagram) (old new : List Call) (n : ℕ) (taken : Option Message) (ms : List Message) (move : Move offering t old taken ms new) (were : AreOfBegun begun t) where
  abbrev longer : List Datagram
  longer = t ++ passed n taken ms

  module _ (asked : All (HasAsked (begun ++ more)) s.calls.calls) (numbers : KnowsNumbers s (begun ++ more)) (listed : Listed (ShowsCall s.table.slots (begun ++ more) longer) s.calls.calls new) where
    of_begun_by : (m : Message) → AsksOne t new m → IsOfBegun (begun ++ more) m
    of_begun_by m (was_asked i q h same) = subst (IsOfBegun (begun ++ more)) same (of_more begun more q.message (were i q h))
    of_begun_by m (went_for any) = opening_began s (begun ++ more) new m (opening s (begun ++ more) longer new asked numbers listed m any)

    pub of_begun_after : AreOfBegun (begun ++ more) longer
    of_begun_after i q h = of_begun_by q.message (asks_one n t old taken ms new move i q h)

    later_by : (u : Transaction) → IsAmong more u → IsLater u → IsOffering u → (m : Message) → IsRequestOf u.parts m → AsksOne t new m → IsAnsweredOrEnded longer new (dialog_asked u.parts)
    later_by u among is offers m request (was_asked i q h same) = absurd (not_before begun more m u numbers.rise (subst (IsOfBegun begun) same (were i q h)) among offers request)
    later_by u among is offers m request (went_for any) = (
        let h = opening s (begun ++ more) longer new asked numbers listed m any in is_answered s (begun ++ more) longer new m u h h.went_for.place is request)

    pub later_after : ((u : Transaction) → IsAmong (begun ++ more) u → IsOffering u → IsRequested longer u) → (u : Transaction) → IsAmong more u → IsLater u → IsAnsweredOrEnded longer new (dialog_asked u.parts)
    later_after stand u among is =
        let offers : IsOffering u = record { client = is.client; offers = or_left (is_invite u.parts) (is_update u.parts) is.invite } in
        let q = stand u (among_right begun more u among) offers in
        later_by u among is offers q.1.message q.3 (asks_one n t old taken ms new move q.0 q.1 q.2)
