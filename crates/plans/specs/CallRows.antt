-- What an event that concerns calls results in: one row for each rule of calls, for ACK, for responses and for
-- timers.
use Rattle.std.specs.Prelude.{ℕ, ◌+◌, ◌==◌, Bool, true, false, nat_le, List, [], ◌∷◌, ◌++◌, codes, find, length, is_some, slice_get, Option, Some, None, option_map, if◌then◌else◌}
use Rattle.sip_uri.specs.declared.uri.Addr.{Addr}
use Rattle.sip_uri.specs.declared.uri.Uri.{Uri}
use Rattle.sip_message.specs.declared.message.Request.{Request}
use Rattle.sip_message.specs.declared.message.Response.{Response}
use Rattle.sip_writing.specs.Reply.{response_address}
use Rattle.sdp.specs.declared.description.Description.{Description}
use Rattle.port_pool.specs.Holdings.{free_pairs}
use Rattle.offer_answer.specs.Checks.{offer_fault}
use Rattle.events.specs.declared.sent.Sent.{Sent}
use Rattle.transaction_machines.specs.declared.input.TimerKind.{TimerKind}
use Rattle.transaction_machines.specs.declared.input.TimerKind.TheVariants as kinds
use Rattle.transactions.specs.declared.change.Entry.{Entry}
use Rattle.transactions.specs.declared.outcome.Outgoing.{Outgoing}
use Rattle.transactions.specs.declared.transaction.TimerId.{TimerId}
use Rattle.transactions.specs.declared.transaction.Transaction.{Transaction}
use Rattle.transactions.specs.Changes.{fire_of}
use Rattle.transactions.specs.Slots.{at}
use Rattle.call_media.specs.declared.end.End.{End}
use Rattle.call_media.specs.declared.end.End.TheVariants.{Caller}
use Rattle.call_media.specs.Ends.{other}
use Rattle.call_media.specs.Offers.{fresh_needed}
use Rattle.call_media.specs.Sessions.{previous}
use Rattle.call_core.specs.declared.call.Call.{Call}
use Rattle.call_core.specs.declared.clash.Clash.{Clash}
use Rattle.call_core.specs.declared.clash.Clash.TheVariants.{Glare, SecondOffer}
use Rattle.call_core.specs.declared.refusal.CallRefusal.{CallRefusal}
use Rattle.call_core.specs.declared.refusal.CallRefusal.TheVariants as refusals
use Rattle.call_core.specs.declared.signal.OfferMethod.{OfferMethod}
use Rattle.call_core.specs.declared.signal.OfferMethod.TheVariants.{Invite, Update}
use Rattle.call_core.specs.Calls.{dialog_of, has_number_left, new_media}
use Rattle.call_core.specs.declared.action.CallTimer.{CallTimer}
use Rattle.call_core.specs.declared.action.CallTimer.TheVariants as timers
use Rattle.call_core.specs.declared.input.Input.{Input}
use Rattle.call_core.specs.declared.input.Input.TheVariants as inputs
use Rattle.calls.specs.Changes.{puts, unchanged, without_timer}
use Rattle.calls.specs.Finding.{place_by_ack, place_by_number}
use Rattle.calls.specs.State.{Standing}
use Rattle.calls.specs.declared.change.LegDialog.{LegDialog}
use Rattle.calls.specs.declared.standing_call.StandingCall.{StandingCall}
use Rattle.calls.specs.declared.timer_id.CallTimerId.{CallTimerId}
use Rattle.call_messages.specs.Messages.{contact}
use Rattle.responses.specs.Responding.{responds, stateless}
use Rattle.call_rules.specs.Content.{described}
use Rattle.call_rules.specs.declared.content.ContentRule.{ContentRule}
use Rattle.call_rules.specs.declared.content.ContentRule.TheVariants as content
use Rattle.call_rules.specs.declared.offers.OfferRule.{OfferRule}
use Rattle.call_rules.specs.declared.offers.OfferRule.TheVariants as asked
use Rattle.call_rules.specs.Offers.{offer_rule, plain_rule}
use Rattle.call_rules.specs.Responses.{response_rule, timeout_rule}
use Rattle.call_rules.specs.declared.responses.ResponseRule.{ResponseRule}
use Rattle.call_rules.specs.declared.responses.ResponseRule.TheVariants as rule
use Rattle.call_steps.specs.declared.occasion.Occasion.{Occasion}
use Rattle.call_steps.specs.Effects as steps
use Rattle.call_steps.specs.Rows.{answers_leg, counts, first_row, fork_row, late_row, offers_row, refreshes, takes_row}
use Rattle.call_steps.specs.Scenes.{offerer_tag}
use Rattle.call_steps.specs.Values.{AskerValue}
use Rattle.plans.specs.declared.acks.KeptAck.{KeptAck}
use Rattle.plans.specs.CallRule as calls
use Rattle.plans.specs.CallRule.{CallRule}
use Rattle.plans.specs.declared.note.Note.TheVariants.{Quiet}
use Rattle.plans.specs.declared.setting.Setting.{Setting}
use Rattle.plans.specs.declared.taken.Taken.TheVariants.{Done, Dropped}
use Rattle.plans.specs.declared.taken.Why.TheVariants.{Ack}
use Rattle.plans.specs.Effect.{Effect, alone, without_ack}
use Rattle.plans.specs.Note.{note_of_call}
use Rattle.plans.specs.Plan.{Plan, answers, goes, moves, nothing}
use Rattle.plans.specs.Replies.{refuses_for, responds_in}
use Rattle.plans.specs.declared.reason.Reason.{Reason}
use Rattle.plans.specs.declared.reason.Reason.TheVariants as reasons
use Rattle.responses.specs.Words.{is_method}
use Rattle.plans.specs.Office.{Office}

-- what no call has to do with
abbrev pub of_plan : Office → Plan → Effect
of_plan s p = alone s.calls s.acks p

abbrev pub occasion : Office → Setting → Occasion
occasion s e = record { server = s.server; range = s.range; now = e.now; salt = e.salt; tokens = s.tokens }

-- ---- a step of a call, after what the transactions do

-- the ACK of a 2xx is kept by the number of its INVITE's transaction
abbrev pub acks_with : List KeptAck → Option ℕ → Option Sent → List KeptAck
acks_with acks None ack = acks
acks_with acks (Some id) None = acks
acks_with acks (Some id) (Some ack) = without_ack id acks ++ record { id = id; sent = ack } ∷ []

abbrev pub step_plan : List Entry → Option Outgoing → steps.Effect → Plan
step_plan begun send step = record {
  taken = Done;
  changes = begun ++ step.dressed.changes;
  sends = goes send ++ step.dressed.sends;
  registration = None;
  made = step.dressed.made;
  note = note_of_call step.note;
}

abbrev pub with_step : List KeptAck → List Entry → Option Outgoing → Option ℕ → steps.Effect → Effect
with_step acks begun send id step = record {
  plan = step_plan begun send step;
  calls = step.outcome;
  acks = acks_with acks id step.ack;
}

-- the call at this place takes an input that no request waits for
abbrev pub takes : Office → Setting → List Entry → Option Outgoing → Option ℕ → ℕ → Input → Option LegDialog → Effect
takes s e begun send id place input leg =
    with_step s.acks begun send id (takes_row s.calls s.table (occasion s e) place input leg None)

-- the call at this place takes an input, whose request began transaction `id` and is answered with this tag
abbrev pub asker : Request → Setting → ℕ → List ℕ → AskerValue
asker r e id tag = record { id = id; parts = r.parts; source = e.source; tag = tag }

abbrev pub takes_request : Office → Setting → Request → List Entry → ℕ → ℕ → Input → Option LegDialog → List ℕ → Effect
takes_request s e r begun id place input leg tag =
    with_step s.acks begun None None (takes_row s.calls s.table (occasion s e) place input leg (Some (asker r e id tag)))

-- ---- a first INVITE

-- the most live calls (the server's own)
abbrev pub max_calls : ℕ
max_calls = 256

abbrev pub are_full : Office → Bool
are_full s = nat_le max_calls (length s.calls.calls)

-- enough pairs are free for its media
abbrev pub has_pairs : Office → ℕ → Description → Bool
has_pairs s now offer =
    nat_le (fresh_needed (new_media (s.calls.begun + 1) s.range) Caller offer) (length (free_pairs now s.calls.pool.holdings))

-- it is refused before there is a call
abbrev pub refuses_first : Office → Setting → Request → List Entry → ℕ → Reason → Effect
refuses_first s e r begun id reason = of_plan s (refuses_for s e r begun id reason)

abbrev pub unless_full : Office → Setting → Request → List Entry → ℕ → steps.Effect → Effect
unless_full s e r begun id step =
    if are_full s then refuses_first s e r begun id reasons.TooManyCalls
    else with_step s.acks begun None None step

-- the relay doesn't carry the offer (RFC 3264 section 6), too few pairs are free, or the limit of live calls is
-- reached
abbrev pub first_by : Office → Setting → Request → List Entry → ℕ → Uri → Description → Effect
first_by s e r begun id target offer =
    if is_some (offer_fault s.range offer None) then refuses_first s e r begun id reasons.UnfitOffer
    else (if has_pairs s e.now offer
    then unless_full s e r begun id (first_row s.calls (occasion s e) r id e.source target offer)
    else refuses_first s e r begun id reasons.NoPorts)

-- an offer that can't be read
abbrev pub begins : Office → Setting → Request → List Entry → ℕ → Uri → Option Description → Effect
begins s e r begun id to None = refuses_first s e r begun id reasons.Undescribed
begins s e r begun id to (Some offer) = first_by s e r begun id to offer

-- ---- a request in a dialog

-- the server's tag in the responses to the call's offer
abbrev pub tag_at : Option StandingCall → List ℕ
tag_at None = stateless
tag_at (Some c) = offerer_tag c.call

-- the dialog of this request counts its number, whatever it is answered (section 12.2.2)
abbrev pub puts_if : Standing → ℕ → Option LegDialog → Standing
puts_if calls place None = calls
puts_if calls place (Some leg) = (puts calls place leg).standing

abbrev pub counted : Office → Request → ℕ → End → Plan → Effect
counted s r place end plan =
    record { plan = plan; calls = unchanged (puts_if s.calls place (counts s.calls.calls place end r.parts.cseq.number)); acks = s.acks }

-- the server itself refuses it
abbrev pub refuses : Office → Setting → Request → List Entry → ℕ → ℕ → End → Reason → Effect
refuses s e r begun id place end reason = counted s r place end (refuses_for s e r begun id reason)

-- ---- an offer inside a call

abbrev pub reason_of_clash : Clash → Reason
reason_of_clash SecondOffer = reasons.SecondOffer
reason_of_clash Glare = reasons.Glare

abbrev pub reason_of_content : ContentRule → Reason
reason_of_content content.Type = reasons.BodyType
reason_of_content content.Encoding = reasons.BodyEncoding

-- None: the call takes it
abbrev pub reason_of_rule : OfferRule → Option Reason
reason_of_rule asked.NoDialog = Some reasons.NoDialog
reason_of_rule (asked.Crosses clash) = Some (reason_of_clash clash)
reason_of_rule asked.NoHops = Some reasons.NoHops
reason_of_rule asked.Unreached = Some reasons.Unreached
reason_of_rule (asked.Content rule) = Some (reason_of_content rule)
reason_of_rule asked.Passes = None

-- why the call itself refuses it, unless memory ran out
abbrev pub reason_of_refusal : CallRefusal → Option Reason
reason_of_refusal refusals.OutOfMemory = None
reason_of_refusal (refusals.Crosses clash) = Some (reason_of_clash clash)
reason_of_refusal refusals.Undescribed = Some reasons.Undescribed
reason_of_refusal (refusals.Unfit fault) = Some reasons.UnfitOffer
reason_of_refusal refusals.NoPorts = Some reasons.NoPorts
reason_of_refusal refusals.NumberAtItsEnd = Some reasons.NumberAtItsEnd

-- INVITE or UPDATE
abbrev pub offer_method : Request → OfferMethod
offer_method r = if is_method (codes "INVITE") r then Invite else Update

-- the call at this place passes it on
abbrev pub passes : Office → Setting → Request → List Entry → ℕ → ℕ → End → Description → Effect
passes s e r begun id place end offer =
    with_step s.acks begun None None
    (offers_row s.calls s.table (occasion s e) place (inputs.Offer end (offer_method r) (Some offer)) end r id e.source)

abbrev pub is_unfit : Call → End → Description → Bool
is_unfit c end offer = is_some (offer_fault c.media.range offer (previous end c.media.session))

abbrev pub has_pairs_for : Office → ℕ → Call → End → Description → Bool
has_pairs_for s now c end offer = nat_le (fresh_needed c.media end offer) (length (free_pairs now s.calls.pool.holdings))

-- it is none that the end may make or the relay carries (RFC 3264 section 8), too few pairs are free, or no number is
-- left for a request to the end across
abbrev pub passes_if : Office → Setting → Request → List Entry → ℕ → ℕ → End → Call → Description → Effect
passes_if s e r begun id place end c offer =
    if is_unfit c end offer then refuses s e r begun id place end reasons.UnfitOffer
    else if has_pairs_for s e.now c end offer
    then (if has_number_left (dialog_of (other end) c) then passes s e r begun id place end offer
    else refuses s e r begun id place end reasons.NumberAtItsEnd)
    else refuses s e r begun id place end reasons.NoPorts

-- an offer without a description that can be read
abbrev pub passes_in : Office → Setting → Request → List Entry → ℕ → ℕ → End → Call → Option Description → Effect
passes_in s e r begun id place end c None = refuses s e r begun id place end reasons.Undescribed
passes_in s e r begun id place end c (Some offer) = passes_if s e r begun id place end c offer

abbrev pub offers_by : Office → Setting → Request → List Entry → ℕ → ℕ → End → Call → Option Reason → Effect
offers_by s e r begun id place end c (Some reason) = refuses s e r begun id place end reason
offers_by s e r begun id place end c None = passes_in s e r begun id place end c (described r.headers r.body)

unfoldable pub offers : Office → Setting → Request → List Entry → ℕ → ℕ → End → Call → Effect
offers s e r begun id place end c = offers_by s e r begun id place end c (reason_of_rule (offer_rule r end c))

-- ---- an UPDATE without an offer: 200, which says where the server is reached (RFC 3311 section 5.2)

abbrev pub okay_plan : Office → Setting → Request → List Entry → ℕ → Plan
okay_plan s e r begun id = responds_in s e r begun id 200 (contact s.server ∷ []) None

abbrev pub refreshes_by : Office → Setting → Request → List Entry → ℕ → ℕ → End → Option Reason → Effect
refreshes_by s e r begun id place end (Some reason) = refuses s e r begun id place end reason
refreshes_by s e r begun id place end None = record {
  plan = okay_plan s e r begun id;
  calls = unchanged (puts_if s.calls place (refreshes s.calls.calls place end r));
  acks = s.acks;
}

unfoldable pub refreshes_at : Office → Setting → Request → List Entry → ℕ → ℕ → End → Call → Effect
refreshes_at s e r begun id place end c = refreshes_by s e r begun id place end (reason_of_rule (plain_rule r end c))

-- ---- a request that a call has to do with. BYE: section 15.1.2
unfoldable pub call_row : Office → Setting → Request → List Entry → ℕ → CallRule → Effect
call_row s e r begun id (calls.Begins to) = begins s e r begun id to (described r.headers r.body)
call_row s e r begun id (calls.Cancels place) =
    takes_request s e r begun id place inputs.Cancel None (tag_at (slice_get s.calls.calls place))
call_row s e r begun id (calls.Leaves place end) =
    takes_request s e r begun id place (inputs.Bye end) (counts s.calls.calls place end r.parts.cseq.number) stateless
call_row s e r begun id (calls.Offers place end c) = offers s e r begun id place end c.call
call_row s e r begun id (calls.Refreshes place end c) = refreshes_at s e r begun id place end c.call

-- ---- ACK (section 13.3.1.4)

abbrev pub ack_by : Office → Setting → List Entry → Option ℕ → Effect
ack_by s e begun None = of_plan s (nothing (Dropped Ack))
ack_by s e begun (Some place) = takes s e begun None None place inputs.Ack None

-- to the call that waits for it; else it is dropped
unfoldable pub ack_row : Office → Setting → Request → List Entry → Effect
ack_row s e r begun = ack_by s e begun (place_by_ack r.parts s.calls.calls)

-- ---- a response to the request of transaction `id`

-- the ACK of a 2xx is sent again, where it is kept
abbrev pub again : Option KeptAck → List Sent
again None = []
again (Some ack) = ack.sent ∷ []

abbrev pub acks_again : Office → List Entry → ℕ → Plan
acks_again s begun id = record {
  taken = Done;
  changes = begun;
  sends = again (find (λ (ack : KeptAck). ack.id == id) s.acks);
  registration = None;
  made = 0;
  note = Quiet;
}

abbrev pub responds_by : Office → Setting → Response → List Entry → Option Outgoing → ℕ → Transaction → ResponseRule → Effect
responds_by s e r begun send id asked rule.Silent = of_plan s (moves begun send)
responds_by s e r begun send id asked (rule.Provisional place status) = takes s e begun send None place (inputs.Provisional status) None
responds_by s e r begun send id asked (rule.Answer place) =
    takes s e begun send (Some id) place (inputs.Answer (described r.headers r.body)) (answers_leg s.calls.calls place asked.parts r)
responds_by s e r begun send id asked (rule.Again place) = of_plan s (acks_again s begun id)
responds_by s e r begun send id asked rule.Fork = with_step s.acks begun send None (fork_row s.calls (occasion s e) asked.parts r)
responds_by s e r begun send id asked rule.AckAlone = with_step s.acks begun send None (late_row s.calls (occasion s e) asked.parts r)
responds_by s e r begun send id asked (rule.Refusal place status) = takes s e begun send None place (inputs.Refusal status) None

abbrev pub response_by_asked : Office → Setting → Response → List Entry → Option Outgoing → ℕ → Option Transaction → Effect
response_by_asked s e r begun send id None = of_plan s (moves begun send)
response_by_asked s e r begun send id (Some asked) = responds_by s e r begun send id asked (response_rule s.calls.calls asked.parts r)

unfoldable pub response_row : Office → Setting → Response → List Entry → Option Outgoing → ℕ → Effect
response_row s e r begun send id = response_by_asked s e r begun send id (at s.table.slots id)

-- ---- timers

abbrev pub timed_out_at : Office → Setting → List Entry → Option ℕ → Effect
timed_out_at s e begun None = of_plan s (moves begun None)
timed_out_at s e begun (Some place) = takes s e begun None None place inputs.TimedOut None

abbrev pub timed_out : Office → Setting → List Entry → Option Transaction → Effect
timed_out s e begun None = of_plan s (moves begun None)
timed_out s e begun (Some asked) = timed_out_at s e begun (timeout_rule s.calls.calls asked.parts)

-- B and F time the responses to a request of the server's own; H times an ACK, which no call waits for (sections 17.1
-- and 17.2.1)
abbrev pub times_responses : TimerKind → Bool
times_responses kinds.B = true
times_responses kinds.F = true
times_responses kind = false

-- no final response came in time to a request of the server's own (section 17.1)
unfoldable pub timeout_row : Office → Setting → TimerId → Effect
timeout_row s e timer =
    if times_responses timer.kind then timed_out s e (fire_of timer ∷ []) (at s.table.slots timer.id)
    else of_plan s (moves (fire_of timer ∷ []) None)

abbrev pub timer_input : CallTimer → Input
timer_input timers.Limit = inputs.Limit
timer_input timers.Repeat = inputs.Repeat
timer_input timers.Wait = inputs.Wait
timer_input timers.Lifetime = inputs.Lifetime

-- the calls once the timer is no longer set
abbrev pub without_call_timer : CallTimerId → Office → Office
without_call_timer timer s = record s { calls = without_timer timer s.calls }

abbrev pub call_timer_at : Office → Setting → CallTimer → Option ℕ → Effect
call_timer_at s e timer None = of_plan s (moves [] None)
call_timer_at s e timer (Some place) = takes s e [] None None place (timer_input timer) None

unfoldable pub call_timer_row : Office → Setting → CallTimerId → Effect
call_timer_row s e timer =
    call_timer_at (without_call_timer timer s) e timer.timer (place_by_number timer.number s.calls.calls)
