-- Which rule a message falls under, by what it says and by what the server knows of its calls and users, in the terms
-- of RFC 3261.
use Rattle.std.specs.Prelude.{◌≡◌, ◌≤◌, ◌<◌, ℕ, true, false, codes, List, Option, Some, None, slice_get}
use Rattle.std.specs.List.{All}
use Rattle.sip_uri.specs.declared.uri.Addr.{Addr}
use Rattle.sip_uri.specs.declared.uri.Uri.{Uri}
use Rattle.sip_message.specs.Contact.{contacts_of}
use Rattle.sip_message.specs.Content.{has_description_type, is_uncoded}
use Rattle.sip_message.specs.Lookup.{value_named}
use Rattle.sip_message.specs.Words.{tag_value}
use Rattle.sip_message.specs.declared.message.Parts.{Parts}
use Rattle.sip_message.specs.declared.message.Request.{Request}
use Rattle.sip_message.specs.declared.message.Response.{Response}
use Rattle.dialogs.specs.Counting.{IsAbove}
use Rattle.call_core.specs.declared.stage.Stage.{Stage}
use Rattle.call_core.specs.declared.stage.Stage.TheVariants.{Asked, Cancelling, Answered, Settled, Reasked, Reanswered, Updating, Ending}
use Rattle.call_core.specs.declared.stage.Standing.{Standing}
use Rattle.call_media.specs.declared.end.End.{End}
use Rattle.calls.specs.Finding.{has_tag}
use Rattle.calls.specs.declared.standing_call.StandingCall.{StandingCall}
use Rattle.call_rules.specs.Reach.{contact_address}
use Rattle.call_rules.specs.Responses.{response_rule}
use Rattle.call_rules.specs.declared.responses.ResponseRule.{ResponseRule}
use Rattle.call_rules.specs.declared.responses.ResponseRule.TheVariants.{Provisional, Answer, Refusal}
use Rattle.registrar.specs.Bound.{target_of}
use Rattle.registrar.specs.Registering.{is_known, user_of}
use Rattle.registrar.specs.Registrar.{bindings_at, rules_of}
use Rattle.transaction_machines.specs.Machines.{is_server}
use Rattle.transactions.specs.Matching.{is_same_call}
use Rattle.transactions.specs.declared.transaction.Transaction.{Transaction}
use Rattle.message_laws.specs.Waiting.{IsOffering, from_tag, waits}
use Rattle.event_rows.specs.State.{Contents}
use Rattle.step_laws.specs.Leaving.{IsOfDialog}

-- ---- a response (sections 7.2, 13.2.2 and 14.1, RFC 3311 section 5.1)

-- an INVITE or UPDATE of the server's own that has no final response, in a dialog of the call at this place or the
-- first to its callee: its From has the server's tag there
pub record IsAsked (s : Contents) (asked : Transaction) (place : ℕ) : Type 0 where
  pub offers : IsOffering asked
  pub lacks_final : waits asked.state ≡ true
  pub call : StandingCall
  pub there : slice_get s.calls.calls place ≡ Some call
  pub tag : has_tag (from_tag asked) call ≡ true

-- a response below 200 is provisional, a 2xx answers, and any other refuses
pub record IsByStatus (place status : ℕ) (rule : ResponseRule) : Type 0 where
  pub early : status < 200 → rule ≡ Provisional place status
  pub success : 200 ≤ status → status < 300 → rule ≡ Answer place
  pub failure : 300 ≤ status → rule ≡ Refusal place status

-- it is one for which such a call waits
pub record GoesByStatus (s : Contents) (asked : Transaction) (r : Response) : Type 0 where
  pub place : ℕ
  pub is_asked : IsAsked s asked place
  pub rule : IsByStatus place r.status (response_rule s.calls.calls asked.parts r)

-- ---- a BYE inside a call (sections 12.2.2 and 15.1.2)

-- this end's dialog goes on: no BYE ended it, and its first INVITE was not refused
abbrev pub GoesOn : Stage → End → End → Type 0
GoesOn (Asked rung) offerer end = Unit {0}
GoesOn (Cancelling sent) offerer end = ⊥
GoesOn (Answered interval) offerer end = Unit {0}
GoesOn Settled offerer end = Unit {0}
GoesOn (Reasked rung cancelled) offerer end = Unit {0}
GoesOn (Reanswered interval) offerer end = Unit {0}
GoesOn Updating offerer end = Unit {0}
GoesOn (Ending interval) offerer end = end ≡ offerer

-- a BYE in the dialog with this end of the call at this place, and with no other end, whose number is above that of the
-- end's last request; it requires no extension, and no proxy recorded a route (sections 8.2.2.3 and 16.6)
pub record IsPlainBye (s : Contents) (r : Request) (place : ℕ) (end : End) : Type 0 where
  pub method : r.method ≡ codes "BYE"
  pub counted : r.parts.cseq.method ≡ codes "BYE"
  pub tag : List ℕ
  pub tagged : tag_value r.parts.to.params ≡ Some tag
  pub requires : value_named (codes "Require") r.headers ≡ None
  pub records : value_named (codes "Record-Route") r.headers ≡ None
  pub call : StandingCall
  pub there : slice_get s.calls.calls place ≡ Some call
  pub standing : Standing
  pub stands : call.call.standing ≡ Some standing
  pub goes_on : GoesOn standing.stage standing.offerer end
  pub came : IsOfDialog r.parts call end
  pub only : (other : ℕ) (c : StandingCall) (one : End) → slice_get s.calls.calls other ≡ Some c → IsOfDialog r.parts c one → (other ≡ place) × (one ≡ end)
  pub above : IsAbove came.dialog.remote_number r.parts.cseq.number

-- ---- a first INVITE (sections 8.2, 13.3.1, 16.3 and 16.5)

-- it is no server transaction's request that came on another way: From tag, Call-ID and CSeq differ (section 8.2.2.2)
abbrev pub IsOther : Parts → Option Transaction → Type 0
IsOther parts None = Unit {0}
IsOther parts (Some t) = is_server t.state ≡ true → is_same_call parts t.parts ≡ false

-- an INVITE without a To tag, which came on no other way, requires no extension, came past no proxy and may go one hop
-- further; its Contact has an IPv4 address, its Request-URI names a user of the office who is bound to this target, and
-- its body is a description without a coding
pub record IsPlainInvite (s : Contents) (now : ℕ) (r : Request) (to : Uri) : Type 0 where
  pub method : r.method ≡ codes "INVITE"
  pub untagged : tag_value r.parts.to.params ≡ None
  pub others : All (IsOther r.parts) s.table.slots
  pub requires : value_named (codes "Require") r.headers ≡ None
  pub records : value_named (codes "Record-Route") r.headers ≡ None
  pub hops : 0 < r.max_forwards
  pub contact : Addr
  pub reached : contact_address (contacts_of r.headers) ≡ Some contact
  pub user : List ℕ
  pub named : user_of (rules_of s.registrar) r.uri ≡ Some user
  pub known : is_known (rules_of s.registrar) user ≡ true
  pub bound : target_of (bindings_at s.registrar user now) ≡ Some to
  pub typed : has_description_type r.headers ≡ true
  pub uncoded : is_uncoded r.headers ≡ true
