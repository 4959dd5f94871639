-- Which offers a call passes on: the first INVITE of a caller, and an INVITE or UPDATE of either end of a call that was
-- answered.
use Rattle.std.specs.Prelude.{◌≡◌, ℕ, true, codes, slice_get, Some, None}
use Rattle.call_core.specs.Calls.{dialog_of, has_number_left}
use Rattle.call_media.specs.Ends.{other}
use Rattle.call_media.specs.declared.end.End.{End}
use Rattle.call_rules.specs.Content.{described}
use Rattle.call_rules.specs.Offers.{offer_rule}
use Rattle.call_rules.specs.Requests.{dialog_rule}
use Rattle.call_rules.specs.DialogRule.{Offers}
use Rattle.calls.specs.declared.standing_call.StandingCall.{StandingCall}
use Rattle.plans.specs.CallRows.{reason_of_rule}
use Rattle.event_rows.specs.Rules.{target}
use Rattle.plans.specs.Office.{Office}
use Rattle.responses.specs.Words.{is_method}
use Rattle.sdp.specs.declared.description.Description.{Description}
use Rattle.sip_message.specs.Words.{tag_value}
use Rattle.sip_message.specs.declared.message.Request.{Request}
use Rattle.sip_uri.specs.declared.uri.Uri.{Uri}

-- an INVITE without To tag and with an offer, to a user who is bound at this target (RFC 3261 sections 12.1 and 16.5)
pub record IsFirstOffer (s : Office) (now : ℕ) (r : Request) (to : Uri) (offer : Description) : Type 0 where
  pub invite : is_method (codes "INVITE") r ≡ true
  pub no_tag : tag_value r.parts.to.params ≡ None
  pub bound : target s r now ≡ Some to
  pub described : described r.headers r.body ≡ Some offer

-- a request with an offer in this end's dialog of the call at this place, which no rule of offers refuses; and a number
-- is left for the request to the other end (RFC 3261 sections 12.2.2 and 14.2, RFC 3311 section 5.2)
pub record IsLaterOffer (s : Office) (r : Request) (place : ℕ) (end : End) (c : StandingCall) (offer : Description) : Type 0 where
  pub there : slice_get s.calls.calls place ≡ Some c
  pub rule : dialog_rule s.calls.calls r ≡ Offers place end
  pub passes : reason_of_rule (offer_rule r end c.call) ≡ None
  pub described : described r.headers r.body ≡ Some offer
  pub numbered : has_number_left (dialog_of (other end) c.call) ≡ true
