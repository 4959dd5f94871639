-- Requests that came, as a scene has them (RFC 3261 sections 8.2.6.2, 9.2 and 12.2.2).
use Rattle.std.specs.Prelude.{◌≡◌, ◌≢◌, ◌⊎◌, [], true, Some}
use Rattle.call_messages.specs.declared.scene.Asker.{Asker}
use Rattle.call_messages.specs.declared.scene.Scene.{Scene}
use Rattle.call_trace.specs.declared.call.Call.{Call}
use Rattle.call_trace.specs.declared.call.Offer.{Offer}
use Rattle.call_trace.specs.Messages.{cancel}
use Rattle.call_trace.specs.Stands.{leg}

-- the request that offered has no To tag, and is the caller's first; or it names the dialog of its end by the server's
-- tag
abbrev pub BeginsDialog : Offer → Type 0
BeginsDialog p = (p.came.to_tag ≡ []) × (p.by_caller ≡ true)

abbrev pub StandsInDialog : Call → Offer → Type 0
StandsInDialog d p = (p.came.to_tag ≡ (leg d p.by_caller).ours) × ((leg d p.by_caller).ours ≢ [])

abbrev pub NamesDialog : Call → Offer → Type 0
NamesDialog d p = BeginsDialog p ⊎ StandsInDialog d p

-- the request that gets a 200 is a CANCEL
pub record CancelIn (s : Scene) : Type 0 where
  pub asker : Asker
  pub has : s.request ≡ Some asker
  pub method : asker.parts.now.cseq.method ≡ cancel
