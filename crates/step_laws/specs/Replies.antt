-- What a step sends for a request that the server answers by itself.
use Rattle.std.specs.Prelude.{◌≡◌, ℕ, List, [], ◌∷◌}
use Rattle.sip_uri.specs.declared.uri.Addr.{Addr}
use Rattle.sip_message.specs.declared.headers.Header.{Header}
use Rattle.sip_message.specs.declared.message.Parts.{Parts}
use Rattle.sip_writing.specs.Reply.{response_address}
use Rattle.plans.specs.Effect.{Effect}
use Rattle.plans.specs.Plan.{sent_response}
use Rattle.plans.specs.declared.taken.Taken.TheVariants.{Done}
use Rattle.responses.specs.Responding.{responds}

-- one response to the request of these parts, which goes back to where that came from, and nothing else (RFC 3261
-- sections 8.2.6 and 18.2.2)
pub record RespondsOnce (request : Parts) (source : Addr) (x : Effect) : Type 0 where
  pub taken : x.plan.taken ≡ Done
  pub status : ℕ
  pub tag : List ℕ
  pub further : List Header
  pub sends : x.plan.sends ≡ sent_response (response_address request.vias source) (responds request source status tag further) ∷ []
