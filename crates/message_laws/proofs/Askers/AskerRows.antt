-- Each row of the agent sends the server's own alone, and knows the requests that wait for its responses.
use Rattle.std.proofs.Common.{◌≡◌, ◌∙◌, ℕ, Bool, true, false, cond, List, codes, nat_lt, Option, Some, None, refl, sym, subst, arith}
use Rattle.std.specs.Prelude.{nat_eq, slice_get}
use Rattle.std.specs.Cmp.Lexicographic.{pointwise}
use Rattle.std.proofs.lemmas.Bool.{ltb-false, ltb-true}
use Rattle.std.proofs.lemmas.List.Elements.{All-nil}
use Rattle.std.proofs.lemmas.Slice.Eq.{bytes_eq-Decides}
use Rattle.sip_message.specs.declared.message.Request.{Request}
use Rattle.sip_message.specs.declared.message.Response.{Response}
use Rattle.sip_message.specs.Words.{is_method}
use Rattle.sip_message.specs.declared.words.Class.TheVariants as classes
use Rattle.sdp.specs.declared.description.Description.{Description}
use Rattle.responses.specs.Responding.{stateless}
use Rattle.transactions.specs.declared.change.Entry.{Entry}
use Rattle.transactions.specs.declared.outcome.Outgoing.{Outgoing}
use Rattle.transactions.specs.declared.transaction.Transaction.{Transaction}
use Rattle.call_media.specs.declared.end.End.{End}
use Rattle.call_core.specs.declared.input.Input.TheVariants as inputs
use Rattle.calls.specs.declared.standing_call.StandingCall.{StandingCall}
use Rattle.calls.specs.Carrying.{offerer_of}
use Rattle.call_rules.specs.Content.{described}
use Rattle.call_steps.specs.Rows.{answers_leg, counts, refreshes}
use Rattle.plans.specs.Office.{Office}
use Rattle.plans.specs.declared.reason.Reason.{Reason}
use Rattle.plans.specs.declared.setting.Setting.{Setting}
use Rattle.plans.specs.CallRows.{occasion, offer_method, refuses, refuses_first, tag_at, takes_request}
use Rattle.plans.specs.Effect.{Effect}
use Rattle.event_rows.specs.Rules.{request_rule}
use Rattle.event_rows.specs.Rows.{rule_row}
use Rattle.message_laws.specs.Bodies.{WasRead, WasReadIf}
use Rattle.message_laws.specs.Datagrams.{IsOwnDatagram}
use Rattle.message_laws.specs.Knowing.{HasMadeTags}
use Rattle.message_laws.proofs.Askers.AskedCalls.{at_place}
use Rattle.message_laws.proofs.Askers.AskerEffects.{AskedEffect, GoesOwn, IsReady, acks_ask, moves_ask, occasion_known, put_asks, reply_asks, request_asks, step_asks, takes_ask}
use Rattle.message_laws.proofs.Askers.LeavingRules.{leaves_by_bye}
use Rattle.message_laws.proofs.Messages.ReadParts.{IsStatus, IsTokenRun}
use Rattle.message_laws.proofs.Messages.Repeats.{CanAnswer, okay_own, refuses_own, reply_own, stateless_token}
use Rattle.message_laws.proofs.Messages.Replying.{okay_reply, refuses_reply, row_reply}
use Rattle.message_laws.proofs.Messages.RequestViews.{RequestRow, alone_fits, asks_callee, cancelled, counted_alone, left, passed_on, refreshed, replied, request_view, unfit}
use Rattle.message_laws.proofs.Messages.ResponseViews.{ResponseRow, ack_alone, again, answered, fork, provisional, refused, silent}
use Rattle.message_laws.proofs.Askers.SpokenOffers.{first_speaks, fork_speaks, late_speaks, offers_speak}
use Rattle.message_laws.proofs.Askers.SpokenSteps.{IsBegun, IsBegunAs, tag_run}

-- ---- a request that begins transaction id

-- what the transactions did with it, and that it can be answered
pub record IsNewRequest (s : Office) (e : Setting) (r : Request) (begun : List Entry) (id : ℕ) : Type 0 where
  pub can : CanAnswer s e r
  pub begins : IsBegun begun
  pub opens : IsBegunAs s.table begun id
  pub read : (offer : Description) → described r.headers r.body ≡ Some offer → WasRead offer

-- it is refused, and counts where it is in a dialog
refuses_ask : (s : Office) → IsReady s → (e : Setting) (r : Request) (begun : List Entry) (id : ℕ) (reason : Reason) → IsNewRequest s e r begun id → AskedEffect s (refuses_first s e r begun id reason)
refuses_ask s k e r begun id reason n = reply_asks s k begun id _ (refuses_reply s e r begun id reason) n.begins n.opens.free (refuses_own s e r begun id reason n.can k.askers.least)

counted_asks : (s : Office) → IsReady s → (e : Setting) (r : Request) (begun : List Entry) (id place : ℕ) (end : End) (reason : Reason) → IsNewRequest s e r begun id → AskedEffect s (refuses s e r begun id place end reason)
counted_asks s k e r begun id place end reason n =
    put_asks s k begun id place (counts s.calls.calls place end r.parts.cseq.number) _ (refuses_reply s e r begun id reason) n.begins n.opens.free (refuses_own s e r begun id reason n.can k.askers.least)

-- ---- CANCEL and BYE

tag_at_run : (s : Office) → IsReady s → (place : ℕ) (c : Option StandingCall) → slice_get s.calls.calls place ≡ c → IsTokenRun (tag_at c)
tag_at_run s k place None there = stateless_token
tag_at_run s k place (Some c) there =
    tag_run s.tokens c (offerer_of c.call.standing) k.few (at_place (HasMadeTags s.tokens) s.calls.calls place c k.tags there)

no_invite : (method name : List ℕ) → method ≡ name → pointwise nat_eq name (codes "INVITE") ≡ false → pointwise nat_eq method (codes "INVITE") ≡ false
no_invite method name is e = subst (λ (m : List ℕ). pointwise nat_eq m (codes "INVITE") ≡ false) (sym is) e

cancels_ask : (s : Office) → IsReady s → (e : Setting) (r : Request) (begun : List Entry) (id place : ℕ) → IsNewRequest s e r begun id → r.method ≡ codes "CANCEL"
    → AskedEffect s (takes_request s e r begun id place inputs.Cancel None (tag_at (slice_get s.calls.calls place)))
cancels_ask s k e r begun id place n is =
    request_asks s k e r begun id place inputs.Cancel None _ n.begins tt refl
    (record { repeats = n.can.repeats; from = n.can.from; token = tag_at_run s k place (slice_get s.calls.calls place) refl }, no_invite r.parts.cseq.method (codes "CANCEL") (n.can.method ∙ is) refl) n.opens.free tt

leaves_ask : (s : Office) → IsReady s → (e : Setting) (r : Request) (begun : List Entry) (id place : ℕ) (end : End) → IsNewRequest s e r begun id → is_method (codes "BYE") r.parts ≡ true
    → AskedEffect s (takes_request s e r begun id place (inputs.Bye end) (counts s.calls.calls place end r.parts.cseq.number) stateless)
leaves_ask s k e r begun id place end n is =
    request_asks s k e r begun id place (inputs.Bye end) _ _ n.begins tt refl
    (record { repeats = n.can.repeats; from = n.can.from; token = stateless_token }, no_invite r.parts.cseq.method (codes "BYE") ((bytes_eq-Decides r.parts.cseq.method (codes "BYE")).0 is) refl) n.opens.free tt

-- ---- by its case

row_asks : (s : Office) → IsReady s → (e : Setting) (r : Request) (begun : List Entry) (id : ℕ) (x : Effect) → IsNewRequest s e r begun id → RequestRow s e r begun id x → AskedEffect s x
row_asks s k e r begun id x n (replied reply rule is) =
    subst (AskedEffect s) (sym is) (reply_asks s k begun id _ (row_reply s e r begun id reply) n.begins n.opens.free (reply_own s e r begun id reply n.can k.askers.least (alone_fits s r e.now reply rule)))
row_asks s k e r begun id x n (unfit reason is) = subst (AskedEffect s) (sym is) (refuses_ask s k e r begun id reason n)
row_asks s k e r begun id x n (asks_callee to offer why is) =
    subst (AskedEffect s) (sym is)
    (step_asks s s.acks begun None None _ n.begins (All-nil IsOwnDatagram)
    (first_speaks s.table begun s.calls (occasion s e) r id e.source to offer (occasion_known s e k) n.begins n.opens n.can.from n.can.repeats s.range.ip k.media.address refl k.media.calls (n.read offer why.described)))
row_asks s k e r begun id x n (cancelled other place why found is) = subst (AskedEffect s) (sym is) (cancels_ask s k e r begun id place n ((bytes_eq-Decides r.method (codes "CANCEL")).0 why.method))
row_asks s k e r begun id x n (left place end rule is) = subst (AskedEffect s) (sym is) (leaves_ask s k e r begun id place end n (leaves_by_bye s.calls.calls r place end rule))
row_asks s k e r begun id x n (counted_alone place end reason why is) = subst (AskedEffect s) (sym is) (counted_asks s k e r begun id place end reason n)
row_asks s k e r begun id x n (passed_on place end c offer rule why is) =
    subst (AskedEffect s) (sym is)
    (step_asks s s.acks begun None None _ n.begins (All-nil IsOwnDatagram)
    (offers_speak s.table begun s.calls (occasion s e) place (inputs.Offer end (offer_method r) (Some offer)) end r id e.source (occasion_known s e k) n.begins n.opens tt n.can.from n.can.repeats s.range.ip k.media.address k.media.calls
    (n.read offer why.described)))
row_asks s k e r begun id x n (refreshed place end why is) =
    subst (AskedEffect s) (sym is)
    (put_asks s k begun id place (refreshes s.calls.calls place end r) _ (okay_reply s e r begun id) n.begins n.opens.free (okay_own s e r begun id n.can k.askers.server))

pub new_asks : (s : Office) → IsReady s → (e : Setting) (r : Request) (begun : List Entry) (id : ℕ) → IsNewRequest s e r begun id → AskedEffect s (rule_row s e r begun id (request_rule s r e.now))
new_asks s k e r begun id n = row_asks s k e r begun id (rule_row s e r begun id (request_rule s r e.now)) n (request_view s e r begun id)

-- ---- a response to a request of the server's own

pub class_by : (a b : Bool) → cond a classes.Provisional (cond b classes.Success classes.Failure) ≡ classes.Provisional → a ≡ true
class_by true b e = refl
class_by false true e = absurd cc
class_by false false e = absurd cc

pub failure_by : (a b : Bool) → cond a classes.Provisional (cond b classes.Success classes.Failure) ≡ classes.Failure → b ≡ false
failure_by true b e = absurd cc
failure_by false true e = absurd cc
failure_by false false e = refl

pub response_asks : (s : Office) → IsReady s → (e : Setting) (r : Response) (begun : List Entry) (send : Option Outgoing) (id : ℕ) (t : Transaction) (x : Effect) → WasReadIf (described r.headers r.body) → IsStatus r.status → IsBegun begun → GoesOwn send
    → ResponseRow s e r begun send id t x → AskedEffect s x
response_asks s k e r begun send id t x read is b own (silent eq) = subst (AskedEffect s) (sym eq) (moves_ask s k begun send b own)
response_asks s k e r begun send id t x read is b own (provisional place status c there opens class at_status eq) =
    subst (AskedEffect s) (sym eq) (takes_ask s k e begun send None place (inputs.Provisional status) None b own
    (omega (arith, is.low, at_status), omega (arith, at_status, ltb-true r.status 200 (class_by (nat_lt r.status 200) (nat_lt r.status 300) class))) refl tt)
response_asks s k e r begun send id t x read is b own (answered place c there opens class eq) =
    subst (AskedEffect s) (sym eq) (takes_ask s k e begun send (Some id) place (inputs.Answer (described r.headers r.body)) (answers_leg s.calls.calls place t.parts r) b own tt refl read)
response_asks s k e r begun send id t x read is b own (again place acked eq) = subst (AskedEffect s) (sym eq) (acks_ask s k begun id b)
response_asks s k e r begun send id t x read is b own (fork why eq) =
    subst (AskedEffect s) (sym eq) (step_asks s s.acks begun send None _ b own (fork_speaks s.table begun s.calls (occasion s e) t.parts r (occasion_known s e k) b))
response_asks s k e r begun send id t x read is b own (ack_alone eq) =
    subst (AskedEffect s) (sym eq) (step_asks s s.acks begun send None _ b own (late_speaks s.table begun s.calls (occasion s e) t.parts r (occasion_known s e k) b))
response_asks s k e r begun send id t x read is b own (refused place status c there opens class at_status eq) =
    subst (AskedEffect s) (sym eq) (takes_ask s k e begun send None place (inputs.Refusal status) None b own
    (omega (arith, at_status, ltb-false r.status 300 (failure_by (nat_lt r.status 200) (nat_lt r.status 300) class)), omega (arith, is.high, at_status)) refl tt)
