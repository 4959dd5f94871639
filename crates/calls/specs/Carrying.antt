-- What carrying a plan out does to the live calls, and what is put beside a call.
use Rattle.std.specs.Prelude.{◌≡◌, ℕ, List, [], ◌∷◌, ◌++◌, is_some, slice_get, slice_set, Option, Some, None, if◌then◌else◌}
use Rattle.std.specs.List.{remove}
use Rattle.port_pool.specs.Pool as pools
use Rattle.port_pool.specs.declared.changes.Change.{Change}
use Rattle.call_core.specs.declared.plan.Plan.{Plan}
use Rattle.call_core.specs.Plans.{IsPlanned, Step, carried}
use Rattle.call_core.specs.declared.call.Call.{Call}
use Rattle.call_core.specs.Calls.{IsServed, with_dialog, with_target}
use Rattle.call_core.specs.declared.stage.Standing.{Standing}
use Rattle.call_media.specs.Serving.{SparesOthers}
use Rattle.call_media.specs.declared.end.End.{End}
use Rattle.call_media.specs.declared.end.End.TheVariants.{Caller}
use Rattle.sip_uri.specs.declared.uri.Uri.{Uri}
use Rattle.dialogs.specs.declared.state.Dialog.{Dialog}
use Rattle.events.specs.declared.sent.Sent.{Sent}
use Rattle.calls.specs.declared.standing_call.TakenOffer.{TakenOffer}
use Rattle.calls.specs.declared.standing_call.StandingCall.{StandingCall}

-- ---- a call

abbrev pub with_call : Call → StandingCall → StandingCall
with_call call c = record { call = call; callee_tag = c.callee_tag; asked = c.asked; target = c.target; answer = c.answer }

abbrev pub with_step : StandingCall → Step → StandingCall
with_step c step = with_call step.call c

abbrev pub with_taken : TakenOffer → StandingCall → StandingCall
with_taken o c = record { call = c.call; callee_tag = c.callee_tag; asked = o.asked; target = o.target; answer = c.answer }

abbrev pub with_answer : Option Sent → StandingCall → StandingCall
with_answer answer c = record { call = c.call; callee_tag = c.callee_tag; asked = c.asked; target = c.target; answer = answer }

abbrev pub with_dialog_at : End → Dialog → StandingCall → StandingCall
with_dialog_at end d c = with_call (with_dialog end d c.call) c

-- the end whose offer was taken last; the caller's before the first
abbrev pub offerer_of : Option Standing → End
offerer_of None = Caller
offerer_of (Some s) = s.offerer

-- an offer that is answered with 2xx says where its sender is reached from then on (RFC 3261 section 12.2.2)
abbrev pub reached_call : Option Uri → Call → Call
reached_call None call = call
reached_call (Some target) call = with_target (offerer_of call.standing) target call

abbrev pub with_answered : StandingCall → StandingCall
with_answered c = record { call = reached_call c.target c.call; callee_tag = c.callee_tag; asked = c.asked; target = None; answer = c.answer }

-- ---- the list of calls

-- the call at this place, changed, where there is one
abbrev pub changed_at : (StandingCall → StandingCall) → ℕ → List StandingCall → Option StandingCall → List StandingCall
changed_at change place calls None = calls
changed_at change place calls (Some c) = slice_set calls place (change c)

-- a call that begins is put after the others, where it has a standing
abbrev pub pushed : StandingCall → List StandingCall → List StandingCall
pushed c calls = if is_some c.call.standing then calls ++ c ∷ [] else calls

-- the call at this place is taken off, where it no longer has a standing
abbrev pub without_gone : List StandingCall → ℕ → Option StandingCall → List StandingCall
without_gone calls place None = calls
without_gone calls place (Some c) = if is_some c.call.standing then calls else remove calls place

-- ---- a plan

-- a plan was made for the call at this place
abbrev pub IsPlannedAt : List StandingCall → pools.Contents → ℕ → ℕ → Plan → Type 0
IsPlannedAt calls pool place now plan = (c : StandingCall) → slice_get calls place ≡ Some c → IsPlanned c.call pool now plan

-- the call at this place did what was planned for it, and is still there, as `new`
pub record Did (before : List StandingCall) (pool : pools.Contents) (place now : ℕ) (plan : Plan) (c new : StandingCall)
    (after : List StandingCall) (pool_after : pools.Contents) (made : List Change) : Type 0 where
  pub calls : after ≡ slice_set before place new
  pub pool_there : pool_after ≡ (carried c.call pool now plan).pool
  pub changes : made ≡ (carried c.call pool now plan).changes
  pub spares : SparesOthers c.call.number pool pool_after
  pub serves : IsServed new.call pool_after
