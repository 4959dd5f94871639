use Rattle.std.proofs.Common.{◌∙◌, List, Option, ap}
use Rattle.sip_uri.specs.declared.uri.Uri.{Uri}
use Rattle.sip_message.specs.declared.headers.Header.{Header}
use Rattle.sip_message.specs.Contact.{contacts_of}
use Rattle.dialogs.specs.Making.{reached_at}
use Rattle.call_steps.specs.Rows.{leg_at}
use Rattle.call_steps.proofs.StepLaws.{refreshes_there}
use Rattle.call_steps.proofs.numbers.refreshes.Goals as goal

pub returns : goal.returns
returns c = λ calls place there.
    c.leg_at.ensures ∙ ap (λ (t : Option Uri). leg_at t c.in_ok-leg.leg) (c.in_ok-target.ensures ∙ ap (λ (hs : List Header). reached_at (contacts_of hs)) c.as_slice.ensures)
    ∙ refreshes_there calls place c.args.end c.args.request.now c.in_ok-leg.leg (c.in_ok-leg.ensures calls place there)
