-- The dialog after a 2xx, by where its sender is reached.
use Rattle.std.proofs.Common.{◌≡◌, Option, Some, None, refl}
use Rattle.std.specs.Prelude.{option_map}
use Rattle.sip_uri.specs.declared.uri.Uri.{Uri}
use Rattle.sip_message.specs.declared.message.Parts.{Parts}
use Rattle.sip_message.specs.declared.message.Response.{Response}
use Rattle.call_media.specs.Ends.{other}
use Rattle.calls.specs.Carrying.{offerer_of}
use Rattle.calls.specs.declared.standing_call.StandingCall.{StandingCall}
use Rattle.call_steps.specs.Rows.{leg_after, leg_by}

-- where there is no call, and where there is one
pub leg_of_none : (asked : Parts) (response : Response) (target : Option Uri) → leg_by asked response target None ≡ None
leg_of_none asked response None = refl
leg_of_none asked response (Some target) = refl

pub leg_of_some : (asked : Parts) (response : Response) (target : Option Uri) (c : StandingCall)
    → option_map (λ (t : Uri). leg_after asked response t (other (offerer_of c.call.standing)) c.call) target ≡ leg_by asked response target (Some c)
leg_of_some asked response None c = refl
leg_of_some asked response (Some target) c = refl
