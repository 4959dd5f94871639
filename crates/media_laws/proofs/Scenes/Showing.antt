-- What a call of the trace shows of the server's call goes on to be so where that call changes in nothing that it
-- shows.
use Rattle.std.proofs.Common.{◌≡◌, ◌∙◌, ℕ, true, List, ◌++◌, Option, Some, None, ap, sym, subst, inl, inr}
use Rattle.dialogs.specs.declared.state.Dialog.{Dialog as LegDialog}
use Rattle.transactions.specs.declared.transaction.Transaction.{Transaction}
use Rattle.call_media.specs.declared.end.End.{End}
use Rattle.call_media.specs.declared.session.OpenOffer.{OpenOffer}
use Rattle.calls.specs.declared.standing_call.StandingCall.{StandingCall}
use Rattle.calls.specs.Finding.{has_tag}
use Rattle.call_rules.specs.Responses.{is_open}
use Rattle.call_trace.specs.declared.call.Call.{Call}
use Rattle.call_trace.specs.declared.call.Offer.{Offer}
use Rattle.call_trace.specs.declared.datagram.Datagram.{Datagram}
use Rattle.call_trace.specs.declared.datagram.Dialog.{Dialog}
use Rattle.call_trace.specs.Stands.{leg}
use Rattle.call_trace.proofs.AtLaws.{at_split}
use Rattle.trace_reading.specs.Message.{dialog_named}
use Rattle.message_laws.specs.OpenRequests.{IsAmong}
use Rattle.message_laws.specs.Waiting.{IsOffering, from_tag}
use Rattle.message_laws.proofs.TokenUse.Calls.{KeepsLeg}
use Rattle.message_laws.proofs.Askers.ServedRequests.{StandsAs}
use Rattle.message_laws.specs.Messages.{IsRequestOf}
use Rattle.media_laws.specs.Shows.{Came, IsUnanswered, ShowsCallee, ShowsLegs, ShowsOffer, ShowsOpen}

-- ---- dialogs

-- identifiers stay
pub record SameLegs (c d : StandingCall) : Type 0 where
  pub caller : d.call.caller.id ≡ c.call.caller.id
  pub callee : KeepsLeg c.call.callee d.call.callee
  pub tag : d.callee_tag ≡ c.callee_tag

callee_on : (one two : List ℕ) (a b : Option LegDialog) (d : Dialog) → two ≡ one → KeepsLeg a b → ShowsCallee one a d → ShowsCallee two b d
callee_on one two None None d tag keeps h = (h.0 ∙ sym tag, h.1)
callee_on one two None (Some b) d tag keeps h = absurd keeps
callee_on one two (Some a) None d tag keeps h = absurd keeps
callee_on one two (Some a) (Some b) d tag keeps h = h ∙ ap dialog_named (sym keeps)

pub legs_on : (c new : StandingCall) (d : Call) → SameLegs c new → ShowsLegs c d → ShowsLegs new d
legs_on c new d same h = record {
  caller = h.caller ∙ ap dialog_named (sym same.caller);
  callee = callee_on c.callee_tag new.callee_tag c.call.callee new.call.callee d.callee same.tag same.callee h.callee;
}

-- ---- an open offer

-- what an event leaves of it: the transaction of its request is live, nothing was begun in its place, and nothing
-- answered it
pub record OfferOn (slots later : List (Option Transaction)) (begun more : List Transaction) (t longer : List Datagram) (c new : StandingCall) (d : Call) (p : Offer) : Type 0 where
  pub stands : Came slots c.asked.id p → Came later new.asked.id p
  pub older : (u : Transaction) → IsAmong more u → IsOffering u → has_tag (from_tag u) new ≡ true → is_open u.parts new ≡ true → IsAmong begun u × (has_tag (from_tag u) c ≡ true) × (is_open u.parts c ≡ true)
  pub none : IsUnanswered t (leg d p.by_caller).ours p.came.number → IsUnanswered longer (leg d p.by_caller).ours p.came.number

pub offer_on : (slots later : List (Option Transaction)) (begun more : List Transaction) (t longer : List Datagram) (name : List ℕ) (c new : StandingCall) (x : End) (o : OpenOffer) (d : Call) (p : Offer)
    → OfferOn slots later begun more t longer c new d p → ShowsOffer slots begun t name c x o d p → ShowsOffer later more longer name new x o d p
offer_on slots later begun more t longer name c new x o d p on h = record {
  open_is = h.open_is;
  by = h.by;
  same = h.same;
  came = on.stands h.came;
  went = λ u among offers tag opens. let old = on.older u among offers tag opens in h.went u old.0 offers old.1 old.2;
  method = h.method;
  taken = h.taken;
  sent = h.sent;
  unanswered = on.none h.unanswered;
}

pub open_on : (slots later : List (Option Transaction)) (begun more : List Transaction) (t longer : List Datagram) (name : List ℕ) (c new : StandingCall) (x : End) (o : Option OpenOffer) (d : Call)
    → ((p : Offer) → d.offer ≡ Some p → OfferOn slots later begun more t longer c new d p) → ShowsOpen slots begun t name c x o d → ShowsOpen later more longer name new x o d
open_on slots later begun more t longer name c new x None d on h = h
open_on slots later begun more t longer name c new x (Some o) d on h = (h.0, offer_on slots later begun more t longer name c new x o d h.0 (on h.0 h.1.open_is) h.1)

-- the transaction is live with the same parts
pub came_on : (later : List (Option Transaction)) (slots : List (Option Transaction)) (id new : ℕ) (p : Offer) → new ≡ id → ((a : Came slots id p) → StandsAs a.transaction.parts later id) → Came slots id p → Came later new p
came_on later slots id new p same on a =
    let b = on a in
    subst (λ k. Came later k p) (sym same) (record { transaction = b.transaction; stands = b.stands; request = subst (λ x. IsRequestOf x p.came) (sym b.same) a.request })

-- ---- what was answered

-- nothing that was said now answers it
pub unanswered_on : (t more : List Datagram) (tag : List ℕ) (number : ℕ) → IsUnanswered t tag number → IsUnanswered more tag number → IsUnanswered (t ++ more) tag number
unanswered_on t more tag number one two = λ i p at sent success listed to_tag. elim (at_split t more i p at) [
  | inl a ↦ one i p a sent success listed to_tag
  | inr b ↦ two b.0 p b.2 sent success listed to_tag
]
