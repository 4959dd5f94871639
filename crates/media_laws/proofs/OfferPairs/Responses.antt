-- Responses to the request that carried the open offer of a call: provisional ones, refusals, and 2xx.
use Rattle.std.proofs.Common.{◌≡◌, ◌∙◌, ℕ, ◌≤◌, ◌<◌, Bool, true, false, cond, nat_le, nat_lt, List, [], Option, Some, None, Ok, refl, sym, ap, subst, arith}
use Rattle.std.specs.Prelude.{IsTrue, unwrap_or}
use Rattle.std.proofs.lemmas.Bool.{and_from, le-leb, ltb-false, ltb-true}
use Rattle.std.proofs.lemmas.Option.{same_Some}
use Rattle.sdp.specs.declared.description.Description.{Description}
use Rattle.sip_message.specs.Read.{message_of}
use Rattle.sip_message.specs.Words.{class_of, tag_text}
use Rattle.sip_message.specs.declared.message.Message.TheVariants as Kinds
use Rattle.sip_message.specs.declared.message.Parts.{Parts}
use Rattle.sip_message.specs.declared.message.Response.{Response}
use Rattle.sip_message.specs.declared.words.Class.TheVariants.{Failure, Provisional, Success}
use Rattle.transactions.specs.Matching.{RepliesTo}
use Rattle.transactions.specs.declared.transaction.Transaction.{Transaction}
use Rattle.call_core.specs.Calls.{awaits_answer}
use Rattle.call_core.specs.declared.signal.Signal.TheVariants as signals
use Rattle.call_core.specs.declared.stage.Standing.{Standing}
use Rattle.calls.specs.Finding.{has_tag}
use Rattle.calls.specs.declared.standing_call.StandingCall.{StandingCall}
use Rattle.call_rules.specs.Responses.{awaits_final, is_open}
use Rattle.call_steps.specs.Values.{without_offer}
use Rattle.events.specs.declared.sent.Sent.{Sent}
use Rattle.plans.specs.Office.{Office}
use Rattle.plans.specs.declared.setting.Setting.{Setting}
use Rattle.call_trace.specs.declared.call.Call.{Call}
use Rattle.call_trace.specs.declared.call.Offer.{Offer}
use Rattle.call_trace.specs.declared.datagram.Datagram.{Datagram}
use Rattle.call_trace.specs.declared.datagram.Kind.TheVariants as kinds
use Rattle.call_trace.specs.declared.datagram.Message.{Message as TraceMessage}
use Rattle.call_trace.specs.Messages.{is_success}
use Rattle.call_trace.specs.Stands.{IsTagOf}
use Rattle.trace_reading.specs.Message.{trace_message}
use Rattle.message_laws.specs.Knowing.{HasMadeTags, KnowsTokens}
use Rattle.message_laws.specs.Waiting.{IsOffering, from_tag}
use Rattle.message_laws.proofs.AwaitedOffers.Awaiting.{all_at, opened}
use Rattle.message_laws.proofs.Messages.MessageViews.{IsResponseTo}
use Rattle.message_laws.proofs.Messages.ResponseViews.{IsAsked}
use Rattle.message_laws.proofs.TokenUse.Rows.{answered_client}
use Rattle.message_laws.specs.KnownTrace.{KnowsTrace}
use Rattle.message_laws.specs.Messages.{IsRequestOf, IsTakenOf}
use Rattle.message_laws.proofs.Traces.Taking.{ReplyLaw, answers_to}
use Rattle.message_laws.proofs.Traces.TraceRequests.{response_replies, same_request}
use Rattle.media_laws.specs.Inputs.{TookFinal, TookRefusal, TookRinging, TookSuccess}
use Rattle.media_laws.specs.Coming.{scene_at}
use Rattle.media_laws.specs.Responding.{RespondsToOffer}
use Rattle.media_laws.specs.Taking.{IsShownAt, KnowsLegs, TakesSignal}
use Rattle.media_laws.proofs.Scenes.Comings.{taken_as, takes_signal}
use Rattle.media_laws.proofs.Scenes.ListedStages.{stage_shown}
use Rattle.media_laws.proofs.OfferPairs.OpenOffers.{stage_awaits, staged_went, tag_shown}

-- ---- status codes

early_by : (status : ℕ) (low high : Bool) → nat_lt status 200 ≡ low → cond low Provisional (cond high Success Failure) ≡ Provisional → status < 200
early_by status true high l is = ltb-true status 200 l
early_by status false true l is = absurd cc
early_by status false false l is = absurd cc

failure_by : (status : ℕ) (low high : Bool) → nat_lt status 300 ≡ high → cond low Provisional (cond high Success Failure) ≡ Failure → 300 ≤ status
failure_by status true high h is = absurd cc
failure_by status false true h is = absurd cc
failure_by status false false h is = ltb-false status 300 h

success_by : (status : ℕ) (low high : Bool) → nat_lt status 200 ≡ low → nat_lt status 300 ≡ high → cond low Provisional (cond high Success Failure) ≡ Success → (200 ≤ status) × IsTrue (is_success (kinds.Response status))
success_by status true high l h is = absurd cc
success_by status false true l h is = let least = ltb-false status 200 l in (least, and_from (nat_le 200 status) (nat_lt status 300) (le-leb 200 status least) h)
success_by status false false l h is = absurd cc

pub early_is : (status : ℕ) → class_of status ≡ Provisional → status < 200
early_is status is = early_by status (nat_lt status 200) (nat_lt status 300) refl is

pub failure_is : (status : ℕ) → class_of status ≡ Failure → 300 ≤ status
failure_is status is = failure_by status (nat_lt status 200) (nat_lt status 300) refl is

pub success_late : (status : ℕ) → class_of status ≡ Success → (200 ≤ status) × IsTrue (is_success (kinds.Response status))
success_late status is = success_by status (nat_lt status 200) (nat_lt status 300) refl refl is

-- ---- what a trace sees of a response

pub kind_is : (bytes : List ℕ) (r : Response) → (trace_message bytes (Kinds.Response r)).kind ≡ kinds.Response r.status
unfolding trace_message
kind_is bytes r = refl

from_is : (bytes : List ℕ) (r : Response) (parts : Parts) → RepliesTo r.parts parts → (trace_message bytes (Kinds.Response r)).from_tag ≡ tag_text parts.from.params
unfolding trace_message
from_is bytes r parts h = ap (λ (o : Option (List ℕ)). unwrap_or o []) h.from_tag

pub ringing_taken : (bytes : List ℕ) (r : Response) (taken : Option TraceMessage) → message_of bytes ≡ Ok (Kinds.Response r) → IsTakenOf bytes taken → class_of r.status ≡ Provisional → TookRinging taken r.status
ringing_taken bytes r taken read took class = record { message = trace_message bytes (Kinds.Response r); is = taken_as bytes (Kinds.Response r) taken read took; kind = kind_is bytes r; early = early_is r.status class }

-- ---- one that the call waits for

-- as the rows of responses say it
pub responds_to : (s : Office) (r : Response) (id : ℕ) (x : Transaction) (c : StandingCall) → IsResponseTo s r id x → IsAsked x.parts c → RespondsToOffer s r id x c
responds_to s r id x c to asked = record { there = to.there; answers = to.answers; offers = asked.offers; tag = asked.tag; opens = asked.waits }

module _ (law : ReplyLaw) (s : Office) (place : ℕ) (c : StandingCall) (begun : List Transaction) (sent : List Sent) (t : List Datagram) (n : Standing) (d : Call) (r : Response) (id : ℕ) (x : Transaction) (bytes : List ℕ) (taken : Option TraceMessage)
    (tokens : KnowsTokens s) (trace : KnowsTrace s begun sent t) (h : IsShownAt s begun t place c n d) (to : RespondsToOffer s r id x c) (read : message_of bytes ≡ Ok (Kinds.Response r)) (took : IsTakenOf bytes taken) where
  pub offering_there : IsOffering x
  offering_there = record { client = answered_client r.parts x to.answers; offers = to.offers }

  -- its request is that of the offer in the trace
  pub went_is : (p : Offer) → d.offer ≡ Some p → IsRequestOf x.parts p.went
  went_is p opened_is =
      let b = trace.stands id x to.there offering_there in
      same_request b.0.parts x.parts p.went b.3 (
      staged_went s.table.slots begun t c d p opened_is b.0 b.1 b.2 (subst (λ (parts : Parts). has_tag (tag_text parts.from.params) c ≡ true) (sym b.3) to.tag) (subst (λ (parts : Parts). is_open parts c ≡ true) (sym b.3) to.opens) n n.stage
      (stage_shown s.table.slots begun t c n d h.stands h.shows)
      )

  pub awaited_there : awaits_answer n.stage ≡ true
  awaited_there =
      let o = opened x.parts c to.opens in
      stage_awaits s.table.slots begun t c d n n.stage (subst (λ (m : Standing). awaits_final m.stage ≡ true) (same_Some o.0 n (sym o.1.stands ∙ h.stands)) o.1.awaits) (stage_shown s.table.slots begun t c n d h.stands h.shows)

  pub final_taken : 200 ≤ r.status → TookFinal taken d r.status
  final_taken late =
      let m = trace_message bytes (Kinds.Response r) in
      let replies = answers_to law r.parts x to.answers in
      record {
        message = m;
        is = taken_as bytes (Kinds.Response r) taken read took;
        kind = kind_is bytes r;
        late = late;
        tag = subst (IsTagOf d) (sym (from_is bytes r x.parts replies)) (tag_shown s.tokens c d (from_tag x) (all_at (HasMadeTags s.tokens) s.calls.calls place c tokens.calls.tags h.there) h.shows.legs to.tag);
        replies = λ p opened_is. response_replies bytes r x.parts p.went replies (went_is p opened_is);
      }

  pub refusal_taken : class_of r.status ≡ Failure → TookRefusal taken d r.status
  refusal_taken class = let refuses = failure_is r.status class in record { final = final_taken (omega (arith, refuses)); refuses = refuses }

  pub success_taken : class_of r.status ≡ Success → TookSuccess taken d
  success_taken class = let late = success_late r.status class in record { status = r.status; final = final_taken late.0; success = late.1 }

-- ---- signals

pub ringing_signals : (s : Office) (e : Setting) (place : ℕ) (c : StandingCall) (description : Option Description) (begun : List Transaction) (t : List Datagram) (n : Standing) (d : Call) (r : Response) (bytes : List ℕ) (taken : Option TraceMessage)
    → KnowsLegs s → IsShownAt s begun t place c n d → message_of bytes ≡ Ok (Kinds.Response r) → IsTakenOf bytes taken → class_of r.status ≡ Provisional
    → TakesSignal n (scene_at s e (without_offer None None) c description) d taken (signals.Provisional r.status)
ringing_signals s e place c description begun t n d r bytes taken knows h read took class =
    takes_signal s e (without_offer None None) place c description begun t n d taken (signals.Provisional r.status) knows h tt (λ is. cc) (ringing_taken bytes r taken read took class) tt

pub refusal_signals : ReplyLaw → (s : Office) (e : Setting) (place : ℕ) (c : StandingCall) (description : Option Description) (begun : List Transaction) (sent : List Sent) (t : List Datagram) (n : Standing) (d : Call) (r : Response) (id : ℕ) (x : Transaction)
    (bytes : List ℕ) (taken : Option TraceMessage) → KnowsLegs s → KnowsTokens s → KnowsTrace s begun sent t → IsShownAt s begun t place c n d → RespondsToOffer s r id x c → message_of bytes ≡ Ok (Kinds.Response r) → IsTakenOf bytes taken
    → class_of r.status ≡ Failure → TakesSignal n (scene_at s e (without_offer None None) c description) d taken (signals.Refusal r.status)
refusal_signals law s e place c description begun sent t n d r id x bytes taken knows tokens trace h to read took class =
    takes_signal s e (without_offer None None) place c description begun t n d taken (signals.Refusal r.status) knows h tt (λ is. cc)
    (refusal_taken law s place c begun sent t n d r id x bytes taken tokens trace h to read took class) (awaited_there law s place c begun sent t n d r id x bytes taken tokens trace h to read took)
