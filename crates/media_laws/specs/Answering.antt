-- Which of the messages that an event sends answer an offer.
use Rattle.std.specs.Prelude.{◌≡◌, ℕ, List, Some, slice_get, ◌⊎◌}
use Rattle.call_trace.specs.declared.call.Call.{Call}
use Rattle.call_trace.specs.declared.call.Offer.{Offer}
use Rattle.call_trace.specs.declared.call.Stage.TheVariants.{Asked}
use Rattle.call_trace.specs.declared.datagram.Datagram.{Datagram}
use Rattle.call_trace.specs.declared.datagram.Direction.TheVariants.{Sent}
use Rattle.call_trace.specs.declared.datagram.Message.{Message}
use Rattle.call_trace.specs.Exchanges.{At}
use Rattle.call_trace.specs.Messages.{Replies}
use Rattle.call_trace.specs.Stands.{leg}

-- the tag is the server's in the dialog with the offerer, who is the caller where the call was not answered before
abbrev pub IsOfferersTag : Call → Offer → List ℕ → Type 0
IsOfferersTag d p tag = (tag ≡ (leg d p.by_caller).ours) ⊎ ((d.stage ≡ Asked) × (tag ≡ d.caller.ours))

-- the offer is open in one of the calls; the message replies to it, with this tag
pub record IsReplyTo (calls : List Call) (m : Message) (place : ℕ) (d : Call) (p : Offer) : Type 0 where
  pub there : slice_get calls place ≡ Some d
  pub opens : d.offer ≡ Some p
  pub replies : Replies m p.came
  pub tag : IsOfferersTag d p m.to_tag

-- it was sent before, or is one to an offer that is open
pub data AnswersOffer (t : List Datagram) (calls : List Call) (m : Message) : Type 0 where
  was_sent : (k : ℕ) (q : Datagram) → At t k q → q.direction ≡ Sent → q.message ≡ m → AnswersOffer t calls m
  answers : (place : ℕ) (d : Call) (p : Offer) → IsReplyTo calls m place d p → AnswersOffer t calls m
