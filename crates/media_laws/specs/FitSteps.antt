-- What a fit answer to the open offer of a call results in.
use Rattle.std.specs.Prelude.{◌≡◌, Option, Some}
use Rattle.sdp.specs.declared.description.Description.{Description}
use Rattle.call_core.specs.Plans.{Step}
use Rattle.call_core.specs.Table.{row_of}
use Rattle.call_core.specs.declared.call.Call.{Call}
use Rattle.call_core.specs.declared.signal.Signal.TheVariants.{FitAnswer}
use Rattle.call_core.specs.declared.stage.Standing.{Standing}
use Rattle.call_media.specs.Answers.{answer_sent, session_over}
use Rattle.call_media.specs.declared.session.OpenOffer.{OpenOffer}
use Rattle.call_media.specs.declared.session.Session.{Session}
use Rattle.media_laws.specs.Lines.{actions_in, next_in}
use Rattle.media_laws.specs.Listing.{listing, talking}

-- the session of an exchange: the offer as it was taken and sent, and the answer
abbrev pub session_with : Call → OpenOffer → Description → Session
session_with c offer answer = session_over offer (answer_sent c.media offer answer) answer

-- the step: what the line of the signal says and leads to, with the answer as the offerer is sent it, and the session
-- of the exchange
pub record IsFitStep (c : Call) (n : Standing) (given : Option Description) (step : Step) : Type 0 where
  pub offer : OpenOffer
  pub answer : Description
  pub open_is : c.media.offer ≡ Some offer
  pub said : given ≡ Some answer
  pub description : step.description ≡ Some (answer_sent c.media offer answer)
  pub session : step.call.media.session ≡ Some (session_with c offer answer)
  pub actions : step.actions ≡ actions_in (row_of n FitAnswer)
  pub next : step.call.standing ≡ next_in n (row_of n FitAnswer)

-- where it leads: both ends talk, in the session that was settled last
pub record Talks (next : Option Standing) : Type 0 where
  pub standing : Standing
  pub is : next ≡ Some standing
  pub listed : listing standing.stage ≡ talking
