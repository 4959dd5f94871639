-- Where a call passes an offer on, a request that begins then is its open offer.
use Rattle.std.proofs.Common.{◌≡◌, ◌∙◌, ℕ, Bool, true, false, cond, is_some, List, [], ◌∷◌, Option, Some, refl, sym, ap, subst}
use Rattle.std.specs.Prelude.{remove, slice_get, slice_set}
use Rattle.std.specs.List.{All}
use Rattle.std.proofs.lemmas.Bool.{false≢true}
use Rattle.std.proofs.lemmas.List.Elements.{All-cons, All-head, All-nil}
use Rattle.sip_message.specs.declared.message.Request.{Request}
use Rattle.sdp.specs.declared.description.Description.{Description}
use Rattle.transactions.specs.declared.transaction.Transaction.{Transaction}
use Rattle.transactions.specs.Contents as transactions
use Rattle.call_media.specs.Ends.{other}
use Rattle.call_media.specs.declared.end.End.{End}
use Rattle.call_core.specs.CallRows.{call_row}
use Rattle.call_core.specs.Calls.{dialog_of, has_number_left, holds_in}
use Rattle.call_core.specs.Plans.{Step}
use Rattle.call_core.specs.declared.input.Input.TheVariants as inputs
use Rattle.call_core.specs.declared.signal.OfferMethod.{OfferMethod}
use Rattle.call_core.specs.declared.stage.Stage.TheVariants as stages
use Rattle.calls.specs.State.{Standing}
use Rattle.calls.specs.declared.change.LegDialog.{LegDialog}
use Rattle.calls.specs.declared.standing_call.StandingCall.{StandingCall}
use Rattle.call_rules.specs.Offers.{is_settled}
use Rattle.call_rules.specs.Responses.{awaits_final}
use Rattle.call_steps.specs.Rows.{counts, counts_by, messages_of, offer_coming, offers_row}
use Rattle.call_steps.specs.declared.occasion.Occasion.{Occasion}
use Rattle.sip_uri.specs.declared.uri.Addr.{Addr}
use Rattle.message_laws.specs.Knowing.{HasMadeTags, KnowsCalls}
use Rattle.message_laws.specs.OpenRequests.{HasRequest, IsAmong}
use Rattle.message_laws.specs.Sound.{HasSoundLegs}
use Rattle.message_laws.proofs.Askers.AskedCalls.{at_place}
use Rattle.message_laws.proofs.AwaitedOffers.Coming.{OpensIn}
use Rattle.message_laws.proofs.StandingCalls.OpenSteps.{offers_open}
use Rattle.message_laws.proofs.AwaitedOffers.Tagged.{differs_at}
use Rattle.message_laws.proofs.AwaitedOffers.WaitPassed.{settled_stage}
use Rattle.media_laws.specs.Going.{put_as}

-- ---- the call alone

alone_counts : (calls : List StandingCall) (place : ℕ) (end : End) (number : ℕ) (c : StandingCall) → slice_get calls place ≡ Some c → counts (c ∷ []) 0 end number ≡ counts calls place end number
unfolding counts
alone_counts calls place end number c there = ap (counts_by end number) (sym there)

alone_known : (made : ℕ) (calls : List StandingCall) (place : ℕ) (c : StandingCall) → slice_get calls place ≡ Some c → KnowsCalls made calls → KnowsCalls made (c ∷ [])
alone_known made calls place c there k = record {
  tags = All-cons (HasMadeTags made) c [] (at_place (HasMadeTags made) calls place c k.tags there) (All-nil (HasMadeTags made));
  apart = (differs_at calls place c k.apart there, tt, tt);
}

-- it waits for none before
none_waits : (c : StandingCall) → holds_in is_settled c.call.standing ≡ true → HasRequest [] c
none_waits c settled n stands awaits leg =
    let stage : n.stage ≡ stages.Settled = settled_stage n.stage (sym (ap (holds_in is_settled) stands) ∙ settled) in
    absurd (false≢true (ap awaits_final (sym stage) ∙ awaits))

only_put : (P : StandingCall → Type 0) (b : Bool) (c d : StandingCall) → b ≡ true → All P (cond b (slice_set (c ∷ []) 0 d) (remove (c ∷ []) 0)) → P d
only_put P true c d is each = All-head P d [] each
only_put P false c d is each = absurd (false≢true is)

module _ (calls : Standing) (table : transactions.Contents) (o : Occasion) (place : ℕ) (end : End) (method : OfferMethod) (offer : Description) (r : Request) (id : ℕ) (source : Addr) (c : StandingCall) (there : slice_get calls.calls place ≡ Some c) (settled : holds_in is_settled c.call.standing ≡ true) (knows : KnowsCalls o.tokens calls.calls) (sound : HasSoundLegs c) (numbered : has_number_left (dialog_of (other end) c.call) ≡ true) (stands : is_some (call_row c.call (inputs.Offer end method (Some offer)) calls.pool o.now).call.standing ≡ true) (more : List Transaction) where
  abbrev step : Step
  step = call_row c.call (inputs.Offer end method (Some offer)) calls.pool o.now

  abbrev alone : Standing
  alone = record { calls = c ∷ []; pool = calls.pool; begun = calls.begun; timers = calls.timers }

  -- with this dialog of its offerer beside it
  abbrev Opens : Option LegDialog → Type 0
  Opens leg =
      let w = offer_coming leg end r id source c in
      ((t : Transaction) → OpensIn t (messages_of table o w c step).dressed.changes → IsAmong more t) → HasRequest more (put_as w (messages_of table o w c step) step.call c)

  alone_opens : Opens (counts (c ∷ []) 0 end r.parts.cseq.number)
  unfolding offers_row
  alone_opens new =
      let w = offer_coming (counts (c ∷ []) 0 end r.parts.cseq.number) end r id source c in
      let one = offers_open alone table o 0 end method offer r id source c refl settled (alone_known o.tokens calls.calls place c there knows) sound numbered in
      only_put (HasRequest more) (is_some step.call.standing) c (put_as w (messages_of table o w c step) step.call c) stands
      (one.kept [] more (λ t none. absurd none) new (All-cons (HasRequest []) c [] (none_waits c settled) (All-nil (HasRequest []))))

  pub call_opens : Opens (counts calls.calls place end r.parts.cseq.number)
  call_opens = subst Opens (alone_counts calls.calls place end r.parts.cseq.number c there) alone_opens
