-- The cases of the agent's rows in which a call passes an offer on are those of the law, and the agent after such an
-- event is as it asks.
use Rattle.std.proofs.Common.{◌≡◌, ℕ, refl, ap}
use Rattle.sip_message.specs.declared.message.Message.TheVariants as Kinds
use Rattle.sip_message.specs.declared.message.Request.{Request}
use Rattle.sip_uri.specs.declared.uri.Uri.{Uri}
use Rattle.sdp.specs.declared.description.Description.{Description}
use Rattle.events.specs.declared.event.Event.{Event}
use Rattle.transactions.specs.Changes.{entered_all}
use Rattle.transactions.specs.Contents.{reception_of}
use Rattle.transactions.specs.declared.outcome.Verdict.TheVariants as verdicts
use Rattle.call_media.specs.declared.end.End.{End}
use Rattle.call_rules.specs.Requests.{dialog_rule}
use Rattle.call_rules.specs.DialogRule.{Offers}
use Rattle.calls.specs.declared.standing_call.StandingCall.{StandingCall}
use Rattle.plans.specs.Effect.{Effect}
use Rattle.plans.specs.Office.{Office}
use Rattle.event_rows.specs.Rows.{after, moment_after, row}
use Rattle.event_rows.specs.State.{Contents, after_event, office}
use Rattle.message_laws.specs.Askers.{KnowsAskers}
use Rattle.message_laws.specs.Numbers.{begun_of}
use Rattle.message_laws.proofs.Messages.RequestViews.{IsFirstInvite, IsPassedOffer}
use Rattle.media_laws.specs.Beginning.{BeginsAt}
use Rattle.media_laws.specs.Offering.{IsFirstOffer, IsLaterOffer}

pub first_case : (s : Office) (now : ℕ) (r : Request) (to : Uri) (offer : Description) → IsFirstInvite s now r to offer → IsFirstOffer s now r to offer
first_case s now r to offer h = record { invite = h.invite; no_tag = h.no_tag; bound = h.bound; described = h.described }

pub later_case : (s : Office) (now : ℕ) (r : Request) (place : ℕ) (end : End) (c : StandingCall) (offer : Description) → dialog_rule s.calls.calls r ≡ Offers place end → IsPassedOffer s now r place end c offer
    → IsLaterOffer s r place end c offer
later_case s now r place end c offer rule h = record { there = h.there; rule = rule; passes = h.passes; described = h.described; numbered = h.numbered }

pub begins_at : (s : Contents) (event : Event) (r : Request) (id : ℕ) (x : Effect) → row s event ≡ x → (reception_of s.table (Kinds.Request r)).verdict ≡ verdicts.New id → KnowsAskers (office (after s event))
    → BeginsAt (office s) (office (after s event)) (begun_of x.plan.changes) (moment_after s event) r id x
unfolding after_event
begins_at s event r id x is new askers =
    record { verdict = new; table = ap (λ (y : Effect). (entered_all (moment_after s event) s.table y.plan.changes).slots) is; begun = refl; askers = askers }
