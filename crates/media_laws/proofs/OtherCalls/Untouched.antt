-- A call that an event leaves as it was is shown by the longer trace as it was by the shorter one.
use Rattle.std.proofs.Common.{◌≡◌, ℕ, true, List, [], ◌∷◌, ◌++◌, Option, Some, None, ◌⊎◌, sym, subst, refl, arith, inl, inr}
use Rattle.std.specs.Prelude.{slice_get}
use Rattle.std.specs.List.{All, AllPairs}
use Rattle.std.proofs.lemmas.List.Elements.{All-head, All-tail}
use Rattle.transactions.specs.declared.transaction.Transaction.{Transaction}
use Rattle.call_core.specs.declared.stage.Stage.{Stage}
use Rattle.call_core.specs.declared.stage.Stage.TheVariants.{Answered, Asked, Cancelling, Ending, Reanswered, Reasked, Settled, Updating}
use Rattle.call_core.specs.declared.stage.Standing.{Standing}
use Rattle.call_core.specs.Calls.{awaits_answer}
use Rattle.calls.specs.Finding.{has_tag}
use Rattle.calls.specs.declared.standing_call.StandingCall.{StandingCall}
use Rattle.call_rules.specs.Responses.{is_open}
use Rattle.plans.specs.Office.{Office}
use Rattle.call_trace.specs.declared.call.Call.{Call}
use Rattle.call_trace.specs.declared.call.Offer.{Offer}
use Rattle.call_trace.specs.declared.datagram.Datagram.{Datagram}
use Rattle.call_trace.specs.declared.datagram.Message.{Message}
use Rattle.call_trace.specs.Events.{passed}
use Rattle.call_trace.specs.Messages.{invite, offering, update}
use Rattle.call_trace.specs.Moves.{Move}
use Rattle.call_trace.specs.Stands.{AllApart, leg}
use Rattle.message_laws.specs.Numbers.{IsBelow, IsNumberedIf, KnowsNumbers, WasCounted}
use Rattle.message_laws.specs.OpenRequests.{HasAsked, IsAmong, IsOpenRequest}
use Rattle.message_laws.specs.Waiting.{FitsCall, IsOffering, from_tag}
use Rattle.message_laws.proofs.Askers.AskedCalls.{at_place}
use Rattle.message_laws.proofs.StandingCalls.OpenRequests.{among_left, among_right}
use Rattle.message_laws.proofs.AwaitedOffers.Rising.{pairs_head, pairs_tail}
use Rattle.message_laws.proofs.AwaitedOffers.WaitTakes.{same_number}
use Rattle.message_laws.specs.Messages.{IsRequestOf}
use Rattle.media_laws.specs.Shows.{Came, ShowsCall, ShowsStage, ShowsStanding}
use Rattle.message_laws.specs.Askers.{KeepsRequest}
use Rattle.media_laws.proofs.Scenes.Showing.{OfferOn, open_on}
use Rattle.media_laws.proofs.OtherCalls.Unanswered.{leg_tag, stays_unanswered}

-- ---- no other request is its open offer

all_among : (P : Transaction → Type 0) (xs : List Transaction) (t : Transaction) → All P xs → IsAmong xs t → P t
all_among P [] t all among = absurd among
all_among P (x ∷ xs) t all (inl same) = subst P same (All-head P x xs all)
all_among P (x ∷ xs) t all (inr among) = all_among P xs t (All-tail P x xs all) among

among_split : (xs ys : List Transaction) (t : Transaction) → IsAmong (xs ++ ys) t → IsAmong xs t ⊎ IsAmong ys t
among_split [] ys t among = inr among
among_split (x ∷ xs) ys t (inl same) = inl (inl same)
among_split (x ∷ xs) ys t (inr among) = elim (among_split xs ys t among) [ inl one ↦ inl (inr one) | inr two ↦ inr two ]

below_across : (xs ys : List Transaction) (t u : Transaction) → AllPairs IsBelow (xs ++ ys) → IsAmong xs t → IsAmong ys u → IsBelow t u
below_across [] ys t u rise among later = absurd among
below_across (x ∷ xs) ys t u rise (inl same) later = subst (λ v. IsBelow v u) same (all_among (IsBelow x) (xs ++ ys) u (pairs_head x (xs ++ ys) rise) (among_right xs ys u later))
below_across (x ∷ xs) ys t u rise (inr among) later = below_across xs ys t u (pairs_tail x (xs ++ ys) rise) among later

fits : (t : Transaction) (c : StandingCall) → WasCounted t c → is_open t.parts c ≡ true → FitsCall t c
fits t c counted opens = λ has. record { counted = counted has; opens = λ waits. opens }

counts : (s : Office) (begun : List Transaction) → KnowsNumbers s begun → (place : ℕ) (c : StandingCall) → slice_get s.calls.calls place ≡ Some c → (t : Transaction) → IsAmong begun t → IsOffering t → WasCounted t c
counts s begun k place c there t among offers = at_place (WasCounted t) s.calls.calls place c (all_among (IsNumberedIf s) begun t k.numbered among offers).counted there

-- one that begins has a greater number in its leg
pub older : (s : Office) (begun more : List Transaction) → KnowsNumbers s (begun ++ more) → (place : ℕ) (c : StandingCall) → slice_get s.calls.calls place ≡ Some c → (t : Transaction) → IsAmong begun t → IsOpenRequest c t
    → (u : Transaction) → IsAmong (begun ++ more) u → IsOffering u → has_tag (from_tag u) c ≡ true → is_open u.parts c ≡ true → IsAmong begun u
older s begun more k place c there t among opens u later offers tag open_u = elim (among_split begun more u later) [
  | inl old ↦ old
  | inr new ↦ (let first : IsAmong (begun ++ more) t = among_left begun more t among in
      let same = same_number t u c opens.tag tag opens.opens open_u (fits t c (counts s (begun ++ more) k place c there t first opens.offers) opens.opens) (fits u c (counts s (begun ++ more) k place c there u later offers) open_u) in
      let below = below_across begun more t u k.rise among new opens.offers offers same.tag in
      absurd (omega (arith, below, same.number)))
]

-- ---- the call

pub came_stays : (slots later : List (Option Transaction)) (id : ℕ) (p : Offer) → KeepsRequest slots later id → Came slots id p → Came later id p
came_stays slots later id p keeps a =
    let b = keeps a.transaction a.stands in
    record { transaction = b.0; stands = b.1; request = subst (λ x. IsRequestOf x p.came) (sym b.2) a.request }

module _ (slots later : List (Option Transaction)) (begun more : List Transaction) (t longer : List Datagram) (c : StandingCall) (d : Call) where
  stage_on : (n : Standing) (stage : Stage) → (awaits_answer stage ≡ true → (p : Offer) → d.offer ≡ Some p → OfferOn slots later begun more t longer c c d p) → ShowsStage slots begun t c n stage d
      → ShowsStage later more longer c n stage d
  stage_on n (Asked rung) on h = (h.0, h.1, h.2, open_on slots later begun more t longer invite c c n.offerer c.call.media.offer d (on refl) h.3)
  stage_on n (Cancelling sent) on h = h
  stage_on n (Answered interval) on h = h
  stage_on n Settled on h = h
  stage_on n (Reasked rung cancelled) on h = (h.0, open_on slots later begun more t longer invite c c n.offerer c.call.media.offer d (on refl) h.1)
  stage_on n (Reanswered interval) on h = h
  stage_on n Updating on h = (h.0, open_on slots later begun more t longer update c c n.offerer c.call.media.offer d (on refl) h.1)
  stage_on n (Ending interval) on h = h

  standing_on : (standing : Option Standing) → ((n : Standing) → standing ≡ Some n → awaits_answer n.stage ≡ true → (p : Offer) → d.offer ≡ Some p → OfferOn slots later begun more t longer c c d p)
      → ShowsStanding slots begun t c standing d → ShowsStanding later more longer c standing d
  standing_on None on h = h
  standing_on (Some n) on h = stage_on n n.stage (on n refl) h

  pub call_on : ((n : Standing) → c.call.standing ≡ Some n → awaits_answer n.stage ≡ true → (p : Offer) → d.offer ≡ Some p → OfferOn slots later begun more t longer c c d p) → ShowsCall slots begun t c d
      → ShowsCall later more longer c d
  call_on on h = record { legs = h.legs; standing = standing_on c.call.standing on h.standing }

pub stays_shown : (slots : List (Option Transaction)) (s : Office) (begun more : List Transaction) (n : ℕ) (t : List Datagram) (old : List Call) (taken : Option Message) (sent : List Message) (new : List Call)
    → Move offering t old taken sent new → AllApart new → KnowsNumbers s (begun ++ more) → (place : ℕ) (c : StandingCall) → slice_get s.calls.calls place ≡ Some c → HasAsked begun c
    → ((m : Standing) → c.call.standing ≡ Some m → awaits_answer m.stage ≡ true → KeepsRequest slots s.table.slots c.asked.id) → (j : ℕ) (d : Call) → slice_get new j ≡ Some d
    → ShowsCall slots begun t c d → ShowsCall s.table.slots (begun ++ more) (t ++ passed n taken sent) c d
stays_shown slots s begun more n t old taken sent new move apart k place c at_c asked keeps j d at_d h =
    call_on slots s.table.slots begun (begun ++ more) t (t ++ passed n taken sent) c d on h
  where
    on : (m : Standing) → c.call.standing ≡ Some m → awaits_answer m.stage ≡ true → (p : Offer) → d.offer ≡ Some p → OfferOn slots s.table.slots begun (begun ++ more) t (t ++ passed n taken sent) c c d p
    on m stands waits p open_is =
        let request = asked m stands waits in
        record {
          stands = came_stays slots s.table.slots c.asked.id p (keeps m stands waits);
          older = λ u among offers tag opens. (older s begun more k place c at_c request.0 request.1 request.2 u among offers tag opens, tag, opens);
          none = stays_unanswered n t old taken sent new move apart j d p at_d open_is (leg d p.by_caller).ours p.came.number (leg_tag d p.by_caller (leg d p.by_caller).ours refl);
        }
