-- What was planned for a call results in its row.
use Rattle.std.proofs.Common.{◌≡◌, ℕ, ◌+◌, List, Option, Some, None, unwrap_or, refl, ap, sym, ◌∙◌, subst, rules}
use Rattle.std.specs.Prelude.{slice_get}
use Rattle.sip_uri.specs.declared.uri.Addr.{Addr}
use Rattle.sip_uri.specs.declared.uri.Uri.{Uri}
use Rattle.sip_message.specs.declared.message.Request.{Request}
use Rattle.sip_message.specs.Contact.{contacts_of}
use Rattle.sdp.specs.declared.description.Description.{Description}
use Rattle.dialogs.specs.Making.{callees_dialog, reached_at}
use Rattle.transactions.specs.Contents as transactions
use Rattle.call_media.specs.declared.end.End.{End}
use Rattle.call_core.specs.declared.call.Call.{Call}
use Rattle.call_core.specs.declared.input.Input.{Input}
use Rattle.call_core.specs.declared.input.Input.TheVariants as inputs
use Rattle.call_core.specs.declared.plan.Plan.{Plan}
use Rattle.call_core.specs.declared.refusal.CallRefusal.TheVariants.{OutOfMemory}
use Rattle.call_core.specs.Refusals.{RefusesInput}
use Rattle.port_pool.specs.Pool.{Contents}
use Rattle.call_core.specs.CallRows.{call_row, first_call_row}
use Rattle.call_core.specs.Calls.{dialog_of, new_call}
use Rattle.call_core.specs.Plans.{IsPlanned, Step, carried}
use Rattle.calls.specs.State.{Standing}
use Rattle.calls.specs.Changes.{carries}
use Rattle.calls.specs.declared.change.LegDialog.{LegDialog}
use Rattle.calls.specs.declared.standing_call.StandingCall.{StandingCall}
use Rattle.call_core.specs.declared.note.NoteOfCall.{NoteOfCall}
use Rattle.call_steps.specs.declared.messages.StepMessages.{StepMessages}
use Rattle.call_steps.specs.declared.occasion.Occasion.{Occasion}
use Rattle.call_steps.specs.Effects.{no_effect, with_messages}
use Rattle.call_steps.specs.Rows.{begins_as, begins_with, begun, counts, counts_in, does, first_messages, first_row, leg_at, messages_of, offer_coming, offer_request, offers_row, put_with, refreshes, standing_as, step_note, takes_by, takes_row}
use Rattle.call_steps.specs.Scenes.{fresh}
use Rattle.call_steps.specs.Values.{AskerValue, ComingValue, without_offer}

-- ---- a live call

pub does_as_planned : (calls : Standing) (table : transactions.Contents) (o : Occasion) (place : ℕ) (input : Input) (w : ComingValue)
    (c : StandingCall) (plan : Plan) (said : StepMessages) (told : Option NoteOfCall) → slice_get calls.calls place ≡ Some c
    → carried c.call calls.pool o.now plan ≡ call_row c.call input calls.pool o.now
    → said ≡ messages_of table o w c (carried c.call calls.pool o.now plan) → told ≡ step_note c (carried c.call calls.pool o.now plan)
    → with_messages (carries calls o.now place (put_with w said) plan (slice_get calls.calls place)) said told
    ≡ does calls table o place w c (call_row c.call input calls.pool o.now)
does_as_planned calls table o place input w c plan said told at row says notes =
    rw (at, says, notes) (ap (λ (step : Step). does calls table o place w c step) row)

pub takes_there : (calls : Standing) (table : transactions.Contents) (o : Occasion) (place : ℕ) (input : Input) (leg : Option LegDialog) (request : Option AskerValue)
    (c : StandingCall) → slice_get calls.calls place ≡ Some c
    → does calls table o place (without_offer leg request) c (call_row c.call input calls.pool o.now) ≡ takes_row calls table o place input leg request
unfolding takes_row
takes_there calls table o place input leg request c at = rw at refl

pub takes_nothing : (calls : Standing) (table : transactions.Contents) (o : Occasion) (place : ℕ) (input : Input) (leg : Option LegDialog) (request : Option AskerValue)
    → slice_get calls.calls place ≡ None → takes_by calls table o place input leg request None ≡ takes_row calls table o place input leg request
unfolding takes_row
takes_nothing calls table o place input leg request none = rw none refl

-- ---- an offer inside a call

pub offers_there : (calls : Standing) (table : transactions.Contents) (o : Occasion) (place : ℕ) (input : Input) (end : End) (request : Request) (id : ℕ) (source : Addr)
    (c : StandingCall) → slice_get calls.calls place ≡ Some c
    → does calls table o place (offer_coming (counts calls.calls place end request.parts.cseq.number) end request id source c) c (call_row c.call input calls.pool o.now)
    ≡ offers_row calls table o place input end request id source
unfolding offers_row
offers_there calls table o place input end request id source c at = rw at refl

-- ---- the number of a request

pub counts_there : (calls : List StandingCall) (place : ℕ) (end : End) (number : ℕ) (c : StandingCall) → slice_get calls place ≡ Some c
    → counts_in end number (dialog_of end c.call) ≡ counts calls place end number
unfolding counts
counts_there calls place end number c at = rw at refl

pub counts_nothing : (calls : List StandingCall) (place : ℕ) (end : End) (number : ℕ) → slice_get calls place ≡ None → None ≡ counts calls place end number
unfolding counts
counts_nothing calls place end number none = rw none refl

pub refreshes_there : (calls : List StandingCall) (place : ℕ) (end : End) (r : Request) (leg : Option LegDialog) → leg ≡ counts calls place end r.parts.cseq.number
    → leg_at (reached_at (contacts_of r.headers)) leg ≡ refreshes calls place end r
unfolding refreshes
refreshes_there calls place end r leg is = ap (leg_at (reached_at (contacts_of r.headers))) is

-- a plan for the call at a place is one for any call there
pub planned_there : (calls : Standing) (place now : ℕ) (c : StandingCall) (plan : Plan) → slice_get calls.calls place ≡ Some c → IsPlanned c.call calls.pool now plan
    → (d : StandingCall) → slice_get calls.calls place ≡ Some d → IsPlanned d.call calls.pool now plan
planned_there calls place now c plan at planned d at_d =
    subst (λ (e : StandingCall). IsPlanned e.call calls.pool now plan) (ap (λ (o : Option StandingCall). unwrap_or o c) (sym at ∙ at_d)) planned

-- ---- a call that begins

abbrev pub asked_with : Request → ℕ → Addr → List ℕ → AskerValue
asked_with request id source tag = record { id = id; parts = request.parts; source = source; tag = tag }

abbrev pub standing_with : Call → List ℕ → Request → ℕ → Addr → StandingCall
standing_with call tag request id source = record { call = call; callee_tag = tag; asked = offer_request request id source; target = None; answer = None }

pub begins_as_planned : (calls : Standing) (o : Occasion) (request : Request) (id : ℕ) (source : Addr) (target : Uri) (offer : Description) (call : Call) (plan : Plan) (said : StepMessages)
    → reached_at (contacts_of request.headers) ≡ Some call.caller.target
    → call ≡ new_call (calls.begun + 1) o.range (callees_dialog request (fresh o 1) call.caller.target)
    → carried call calls.pool o.now plan ≡ first_call_row call offer calls.pool o.now
    → said ≡ first_messages o request id source target (carried call calls.pool o.now plan)
    → begun calls o (standing_as call o request id source) (carried call calls.pool o.now plan) said ≡ first_row calls o request id source target offer
unfolding first_row
begins_as_planned calls o request id source target offer call plan said reached is row says =
    rw (reached, says) (ap (λ (step : Step). begins_with calls o request id source target (standing_as call o request id source) step) row
    ∙ ap (λ (c : Call). begins_as calls o request id source target offer (standing_as c o request id source)) is)

pub begins_nothing : (calls : Standing) (o : Occasion) (request : Request) (id : ℕ) (source : Addr) (target : Uri) (offer : Description)
    → reached_at (contacts_of request.headers) ≡ None → no_effect calls ≡ first_row calls o request id source target offer
unfolding first_row
begins_nothing calls o request id source target offer none = rw none refl

-- ---- any input may be refused because memory ran out

pub lacks_memory : (c : Call) (pool : Contents) (input : Input) (now : ℕ) → RefusesInput c pool input now OutOfMemory
lacks_memory c pool (inputs.Offer x method offer) now = search rules
lacks_memory c pool (inputs.Provisional status) now = search rules
lacks_memory c pool (inputs.Answer answer) now = search rules
lacks_memory c pool (inputs.Refusal status) now = search rules
lacks_memory c pool inputs.TimedOut now = search rules
lacks_memory c pool inputs.Ack now = search rules
lacks_memory c pool inputs.Cancel now = search rules
lacks_memory c pool (inputs.Bye end) now = search rules
lacks_memory c pool inputs.Limit now = search rules
lacks_memory c pool inputs.Repeat now = search rules
lacks_memory c pool inputs.Wait now = search rules
lacks_memory c pool inputs.Lifetime now = search rules
