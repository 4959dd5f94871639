-- What a step does for an offer: it asks the other end what was offered, or answers the request finally.
use Rattle.std.specs.Prelude.{◌≡◌, ◌≤◌, ◌<◌, ◌⊎◌, ℕ, true, codes, length, map, List, [], ◌∷◌, ◌++◌, Option, Some, None, IsTrue, slice_get, if◌then◌else◌}
use Rattle.sip_uri.specs.declared.uri.Addr.{Addr}
use Rattle.sip_uri.specs.declared.uri.Uri.{Uri}
use Rattle.sip_uri.specs.Address.{address_of}
use Rattle.sip_message.specs.Words.{tag_value}
use Rattle.sip_message.specs.declared.message.Message.TheVariants as Kinds
use Rattle.sip_message.specs.declared.message.Request.{Request as SipRequest}
use Rattle.sip_writing.specs.Reply.{response_address}
use Rattle.sdp.specs.declared.description.Description.{Description}
use Rattle.offer_answer.specs.Alike.{Alike}
use Rattle.offer_answer.specs.Checks.{offer_fault}
use Rattle.dialogs.specs.declared.state.Dialog.{Dialog}
use Rattle.events.specs.declared.sent.Sent.{Sent}
use Rattle.call_core.specs.Calls.{dialog_of}
use Rattle.call_media.specs.Ends.{other}
use Rattle.call_media.specs.declared.end.End.{End}
use Rattle.calls.specs.declared.standing_call.StandingCall.{StandingCall}
use Rattle.registrar.specs.Bound.{Event as RegistrarEvent, bound, target_of}
use Rattle.registrar.specs.Registering.{Rules, user_of}
use Rattle.responses.specs.Words.{is_method}
use Rattle.step_laws.specs.Leaving.{IsOfDialog}
use Rattle.step_laws.specs.Sending.{Going, Sends, asks, responds}
use Rattle.call_rules.specs.Content.{described}
use Rattle.call_trace.specs.declared.datagram.Kind.TheVariants.{Request, Response}
use Rattle.call_trace.specs.declared.datagram.Message.{Message}
use Rattle.call_trace.specs.Listed.{AnyOf}
use Rattle.call_trace.specs.Messages.{Replies, is_final}
use Rattle.call_rules.specs.Speaking.{may_offer}
use Rattle.plans.specs.CallRows.{has_pairs, max_calls}
use Rattle.plans.specs.Effect.{Effect}
use Rattle.plans.specs.CallRule as calls
use Rattle.plans.specs.declared.taken.Taken.TheVariants.{Done}
use Rattle.event_rows.specs.Rules.{request_rule}
use Rattle.event_rows.specs.State.{Contents, office}
use Rattle.event_rows.specs.Rule.{Call}
use Rattle.trace_reading.specs.Message.{trace_message}
use Rattle.message_laws.specs.Messages.{AreMessages}

-- the other end is asked what was offered, by a request of the same method (RFC 3264 section 5)
pub record AsksAlike (came : Message) (offer : Description) (went : Message) : Type 0 where
  pub request : went.kind ≡ Request
  pub method : went.method ≡ came.method
  pub given : Description
  pub said : went.description ≡ Some given
  pub alike : Alike offer given

-- ---- a first INVITE

-- one by whose rule a call begins to this target, with this offer, which the relay carries; fewer calls are live than
-- the limit, and enough pairs are free (RFC 3261 sections 8.2, 13.3.1 and 16.5)
pub record IsFirstCall (s : Contents) (now : ℕ) (r : SipRequest) (to : Uri) (offer : Description) : Type 0 where
  pub rule : request_rule (office s) r now ≡ Call (calls.Begins to)
  pub described : described r.headers r.body ≡ Some offer
  pub fit : offer_fault s.range offer None ≡ None
  pub few : length s.calls.calls < max_calls
  pub pairs : has_pairs (office s) now offer ≡ true

-- 100 to the caller, and one INVITE without a To tag, to where the callee is bound (RFC 3261 sections 8.2.6.1 and 16.6)
pub record CallsOut (came : Message) (offer : Description) (ms : List Message) : Type 0 where
  pub trying : Message
  pub went : Message
  pub whole : ms ≡ trying ∷ went ∷ []
  pub tries : trying.kind ≡ Response 100
  pub replies : Replies trying came
  pub asks : AsksAlike came offer went
  pub no_tag : went.to_tag ≡ []

pub record BeginsCall (source : Addr) (bytes : List ℕ) (r : SipRequest) (to : Uri) (offer : Description) (x : Effect) : Type 0 where
  pub taken : x.plan.taken ≡ Done
  pub callee : Addr
  pub leads : address_of to ≡ Some callee
  pub addresses : map (λ (d : Sent). d.to) x.plan.sends ≡ response_address r.parts.vias source ∷ callee ∷ []
  pub sends : (ms : List Message) → AreMessages x.plan.sends ms → CallsOut (trace_message bytes (Kinds.Request r)) offer ms

-- ---- an INVITE or UPDATE inside a dialog

pub record IsLaterRequest (r : SipRequest) : Type 0 where
  pub method : may_offer r.parts ≡ true
  pub tag : List ℕ
  pub has_tag : tag_value r.parts.to.params ≡ Some tag

-- it is passed on to the other end, as it was offered
pub record PassesOn (came : Message) (offer : Description) (ms : List Message) : Type 0 where
  pub before : List Message
  pub went : Message
  pub whole : ms ≡ before ++ went ∷ []
  pub asks : AsksAlike came offer went

-- it gets its final response (RFC 3261 section 14.2, RFC 3311 section 5.2)
abbrev pub IsFinalTo : Message → Message → Type 0
IsFinalTo came m = IsTrue (is_final m.kind) × Replies m came

abbrev pub PassedOrAnswered : Message → Option Description → List Message → Type 0
PassedOrAnswered came None ms = AnyOf (IsFinalTo came) ms
PassedOrAnswered came (Some offer) ms = PassesOn came offer ms ⊎ AnyOf (IsFinalTo came) ms

pub record IsServed (bytes : List ℕ) (r : SipRequest) (x : Effect) : Type 0 where
  pub taken : x.plan.taken ≡ Done
  pub sends : (ms : List Message) → AreMessages x.plan.sends ms → PassedOrAnswered (trace_message bytes (Kinds.Request r)) (described r.headers r.body) ms

-- ---- to whom (RFC 3261 sections 12.2 and 18.2.2)

-- to an INVITE goes 100 at once (section 8.2.6.1)
abbrev pub trying_first : SipRequest → Addr → List Going
trying_first r source = if is_method (codes "INVITE") r then responds r.parts source 100 ∷ [] else []

-- it came in the dialog with an end of a live call, and goes, by its method, in the dialog with the other end of that
-- call
pub record GoesAcross (calls : List StandingCall) (r : SipRequest) (source : Addr) (x : Effect) : Type 0 where
  pub place : ℕ
  pub call : StandingCall
  pub there : slice_get calls place ≡ Some call
  pub end : End
  pub came : IsOfDialog r.parts call end
  pub across : Dialog
  pub with_other : dialog_of (other end) call.call ≡ Some across
  pub sends : Sends (trying_first r source ++ asks across r.parts.cseq.method ∷ []) x

-- its final response goes back to where it came from, and nothing else is sent
pub record GoesBack (r : SipRequest) (source : Addr) (x : Effect) : Type 0 where
  pub status : ℕ
  pub final : 200 ≤ status
  pub sends : Sends (responds r.parts source status ∷ []) x

-- the last contact that the user whom the Request-URI names is bound to, by these REGISTERs (sections 10.3 and 16.5)
pub record IsBoundTo (rules : Rules) (history : List RegistrarEvent) (r : SipRequest) (now : ℕ) (to : Uri) : Type 0 where
  pub user : List ℕ
  pub named : user_of rules r.uri ≡ Some user
  pub last : target_of (bound rules user history now) ≡ Some to
