-- An offer that is passed on is a move.
use Rattle.std.proofs.Common.{◌≡◌, ◌∙◌, ℕ, Bool, not, List, [], ◌∷◌, ◌++◌, Some, None, refl, ap, sym}
use Rattle.std.specs.Prelude.{IsTrue, slice_get, slice_set}
use Rattle.sdp.specs.declared.description.Description.{Description}
use Rattle.call_trace.specs.declared.call.Call.{Call}
use Rattle.call_trace.specs.declared.call.Settled.{Settled}
use Rattle.call_trace.specs.declared.call.Stage.TheVariants.{Answered}
use Rattle.call_trace.specs.declared.datagram.Datagram.{Datagram}
use Rattle.call_trace.specs.declared.datagram.Dialog.{Dialog}
use Rattle.call_trace.specs.declared.datagram.Message.{Message}
use Rattle.call_trace.specs.Events.{is_plain}
use Rattle.call_trace.specs.Listed.{AllOf}
use Rattle.call_trace.specs.Messages.{offering}
use Rattle.call_trace.specs.Moves.{IsNewCall, Move, PassesOffer, ask, new_call, reoffer, reoffered}
use Rattle.call_trace.specs.Stands.{leg}
use Rattle.media_laws.specs.Said.{Asks, Offers}
use Rattle.media_laws.proofs.OfferPairs.SeenWords.{offer_of}

pub passes_offer : (t : List Datagram) (x y : Dialog) (taken sent : Description) (came : Message) (before : List Message) (went : Message) → Offers x taken came → Asks t y came.method sent went
    → AllOf (λ m. IsTrue (is_plain offering m)) before → PassesOffer offering t x y came before went
passes_offer t x y taken sent came before went c h plain = record {
  plain = plain;
  offer_came = offer_of came taken came.method c.request.kind refl c.said c.listed;
  offer_went = offer_of went sent came.method h.seen.kind h.seen.method h.seen.description c.listed;
  method = sym h.seen.method;
  came_call = c.request.call_id ∙ c.call_id;
  came_from = c.request.from_tag ∙ c.theirs;
  went_call = h.seen.call_id ∙ ap (λ (d : Dialog). d.call_id) h.in_leg;
  went_from = h.seen.from_tag ∙ ap (λ (d : Dialog). d.ours) h.in_leg;
  went_to = h.seen.to_tag ∙ ap (λ (d : Dialog). d.theirs) h.in_leg;
  unused = h.unused;
}

pub asks_callee : (t : List Datagram) (old : List Call) (caller callee : Dialog) (taken sent : Description) (came : Message) (before : List Message) (went : Message) → Offers caller taken came
    → Asks t callee came.method sent went → AllOf (λ m. IsTrue (is_plain offering m)) before → IsNewCall t old came (new_call caller callee came went)
    → Move offering t old (Some came) (before ++ went ∷ []) (old ++ new_call caller callee came went ∷ [])
asks_callee t old caller callee taken sent came before went c h plain new =
    ask caller callee came before went (passes_offer t caller callee taken sent came before went c h plain) new refl refl refl

pub asks_again : (t : List Datagram) (old : List Call) (k : ℕ) (d : Call) (z : Settled) (b : Bool) (taken sent : Description) (came : Message) (before : List Message) (went : Message) → slice_get old k ≡ Some d
    → d.stage ≡ Answered z → d.offer ≡ None → Offers (leg d b) taken came → came.to_tag ≡ (leg d b).ours → Asks t (leg d (not b)) came.method sent went → AllOf (λ m. IsTrue (is_plain offering m)) before
    → Move offering t old (Some came) (before ++ went ∷ []) (slice_set old k (reoffered d b came went))
asks_again t old k d z b taken sent came before went there stage none c tag h plain =
    reoffer k d z b came before went there stage none (passes_offer t (leg d b) (leg d (not b)) taken sent came before went c h plain) tag refl refl refl
