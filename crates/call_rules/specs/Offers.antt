-- What an offer inside a call meets, and an UPDATE without one, before the call takes it (RFC 3261 sections 8.2.3, 14.2
-- and 16.3, RFC 3311 section 5.2). The first line that applies decides.
use Rattle.std.specs.Prelude.{ℕ, ◌==◌, Bool, true, false, Option, Some, None, option_map, if◌then◌else◌}
use Rattle.sip_message.specs.declared.message.Request.{Request}
use Rattle.sip_message.specs.Contact.{contacts_of}
use Rattle.call_media.specs.declared.end.End.{End}
use Rattle.call_core.specs.declared.call.Call.{Call}
use Rattle.call_core.specs.declared.clash.Clash.{Clash}
use Rattle.call_core.specs.declared.stage.Stage.{Stage}
use Rattle.call_core.specs.declared.stage.Stage.TheVariants.{Asked, Cancelling, Answered, Settled, Reasked, Reanswered, Updating, Ending}
use Rattle.call_core.specs.Calls.{clash_in, clash_without_offer_in, holds_in}
use Rattle.call_rules.specs.declared.offers.OfferRule.{OfferRule}
use Rattle.call_rules.specs.declared.offers.OfferRule.TheVariants.{NoDialog, Crosses, NoHops, Unreached, Content, Passes}
use Rattle.call_rules.specs.Content.{content_rule}
use Rattle.call_rules.specs.Reach.{leaves_unreached}

abbrev pub when : Bool → OfferRule → Option OfferRule
when true rule = Some rule
when false rule = None

abbrev pub otherwise : Option OfferRule → OfferRule → OfferRule
otherwise (Some rule) next = rule
otherwise None next = next

-- ---- the lines

-- no offer is open, and each was answered
abbrev pub is_settled : Stage → Bool
is_settled (Asked rung) = false
is_settled (Cancelling sent) = false
is_settled (Answered interval) = false
is_settled Settled = true
is_settled (Reasked rung cancelled) = false
is_settled (Reanswered interval) = false
is_settled Updating = false
is_settled (Ending interval) = false

-- K2 and K1 come before all others; where neither applies and the call is not settled, no offer can be there
abbrev pub clash_by : Call → Option Clash → Option OfferRule
clash_by c (Some clash) = Some (Crosses clash)
clash_by c None = if holds_in is_settled c.standing then None else Some NoDialog

abbrev pub clash_line : Call → End → Option OfferRule
clash_line c end = clash_by c (clash_in c.standing end)

-- K2, where the same end's UPDATE is open
abbrev pub plain_clash_line : Call → End → Option OfferRule
plain_clash_line c end = option_map Crosses (clash_without_offer_in c.standing end)

abbrev pub hops_line : Request → Option OfferRule
hops_line r = when (r.max_forwards == 0) NoHops

-- an INVITE says where its sender is reached, an UPDATE may
abbrev pub reach_line : Request → Option OfferRule
reach_line r = when (leaves_unreached r.parts (contacts_of r.headers)) Unreached

abbrev pub content_line : Request → Option OfferRule
content_line r = option_map Content (content_rule r.headers)

-- ---- an offer

-- of this end of the call
unfoldable pub offer_rule : Request → End → Call → OfferRule
offer_rule r end c = otherwise (clash_line c end) (otherwise (hops_line r) (otherwise (reach_line r) (otherwise (content_line r) Passes)))

-- ---- an UPDATE without an offer

unfoldable pub plain_rule : Request → End → Call → OfferRule
plain_rule r end c = otherwise (plain_clash_line c end) (otherwise (hops_line r) (otherwise (reach_line r) Passes))
