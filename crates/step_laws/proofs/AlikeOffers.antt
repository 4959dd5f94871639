-- What an end is sent matches what the other said: of the offer that is open in a call, and of the answer of its
-- session.
use Rattle.std.proofs.Common.{◌≡◌, ℕ, zero, suc, List, [], ◌∷◌, Some, subst}
use Rattle.std.specs.Prelude.{slice_get}
use Rattle.std.proofs.lemmas.Option.{none-some, same_Some}
use Rattle.offer_answer.specs.Alike.{Alike}
use Rattle.port_pool.specs.Pool as pools
use Rattle.call_media.specs.Serving.{OpenIfAny, StandsIfAny}
use Rattle.call_media.specs.declared.session.OpenOffer.{OpenOffer}
use Rattle.call_media.specs.declared.session.Session.{Session}
use Rattle.call_core.specs.Calls.{IsServed}
use Rattle.calls.specs.State.{AreServed}
use Rattle.calls.specs.declared.standing_call.StandingCall.{StandingCall}
use Rattle.event_rows.specs.Rows.{after}
use Rattle.event_rows.specs.State.{Contents, office}
use Rattle.events.specs.declared.event.Event.{Event}
use Rattle.plans.specs.Office.{Office}
use Rattle.message_laws.specs.Serving.{KnowsServing}

-- what is served before an event is served after it
abbrev pub Serves : Type 0
Serves = (s : Contents) (e : Event) → KnowsServing (office s) → KnowsServing (office (after s e))

served_at : (pool : pools.Contents) (cs : List StandingCall) (place : ℕ) (c : StandingCall) → AreServed pool cs → slice_get cs place ≡ Some c → IsServed c.call pool
served_at pool [] place c h there = absurd (none-some c there)
served_at pool (x ∷ cs) zero c h there = subst (λ (y : StandingCall). IsServed y.call pool) (same_Some x c there) h.0
served_at pool (x ∷ cs) (suc place) c h there = served_at pool cs place c h.1 there

module _ (s : Office) (serves : KnowsServing s) (place : ℕ) (c : StandingCall) (there : slice_get s.calls.calls place ≡ Some c) where
  pub served : IsServed c.call s.calls.pool
  served = served_at s.calls.pool s.calls.calls place c serves.calls.kept.served there

  pub offer_alike : (o : OpenOffer) → c.call.media.offer ≡ Some o → Alike o.offer_taken o.offer_sent
  offer_alike o is = (subst (OpenIfAny c.call.media.range.ip c.call.media.number s.calls.pool) is served.media.offer).offer.alike

  pub answer_alike : (x : Session) → c.call.media.session ≡ Some x → Alike x.answer_taken x.answer_sent
  answer_alike x is = (subst (StandsIfAny c.call.media.range.ip c.call.media.number s.calls.pool) is served.media.session).answers
