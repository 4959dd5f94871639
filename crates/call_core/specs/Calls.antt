-- A call: its two dialogs, its standing, and its media.
use Rattle.std.specs.Prelude.{◌≡◌, ℕ, Bool, true, false, nat_lt, is_some, Option, Some, None, option_map}
use Rattle.port_pool.specs.Pool.{Contents}
use Rattle.sip_uri.specs.declared.uri.Uri.{Uri}
use Rattle.offer_answer.specs.declared.range.OwnRange.{OwnRange}
use Rattle.call_media.specs.declared.end.End.{End}
use Rattle.call_media.specs.declared.end.End.TheVariants.{Caller, Callee}
use Rattle.call_media.specs.declared.state.CallMedia.{CallMedia}
use Rattle.call_media.specs.Serving.{Serves}
use Rattle.call_media.specs.Versions.{none_sent}
use Rattle.dialogs.specs.declared.method.Method.TheVariants.{Invite}
use Rattle.dialogs.specs.declared.state.Dialog.{Dialog}
use Rattle.dialogs.specs.Counting.{following, max_for, last_number}
use Rattle.call_core.specs.declared.call.Call.{Call}
use Rattle.call_core.specs.declared.clash.Clash.{Clash}
use Rattle.call_core.specs.declared.plan.Numbers.{Numbers}
use Rattle.call_core.specs.declared.stage.Phase.{Phase}
use Rattle.call_core.specs.declared.stage.Stage.{Stage}
use Rattle.call_core.specs.declared.stage.Stage.TheVariants.{Asked, Cancelling, Answered, Settled, Reasked, Reanswered, Updating, Ending}
use Rattle.call_core.specs.declared.stage.Standing.{Standing}
use Rattle.call_core.specs.Clashes as clashes
use Rattle.call_core.specs.Stages.{phase_of}

-- ---- its standing; none before the first offer, and once it is gone

abbrev pub phase_in : Option Standing → Option Phase
phase_in standing = option_map (λ s. phase_of s.stage) standing

-- what an offer of this end meets
abbrev pub clash_in : Option Standing → End → Option Clash
clash_in None end = None
clash_in (Some s) end = clashes.clash_of s.stage s.offerer end

abbrev pub clash_without_offer_in : Option Standing → End → Option Clash
clash_without_offer_in None end = None
clash_without_offer_in (Some s) end = clashes.clash_without_offer s.stage s.offerer end

-- an offer was passed on, and has no answer
abbrev pub awaits_answer : Stage → Bool
awaits_answer (Asked rung) = true
awaits_answer (Cancelling sent) = false
awaits_answer (Answered interval) = false
awaits_answer Settled = false
awaits_answer (Reasked rung cancelled) = true
awaits_answer (Reanswered interval) = false
awaits_answer Updating = true
awaits_answer (Ending interval) = false

-- an offer was answered with a fit 2xx, and neither end has left
abbrev pub has_session : Stage → Bool
has_session (Asked rung) = false
has_session (Cancelling sent) = false
has_session (Answered interval) = true
has_session Settled = true
has_session (Reasked rung cancelled) = true
has_session (Reanswered interval) = true
has_session Updating = true
has_session (Ending interval) = false

abbrev pub holds_in : (Stage → Bool) → Option Standing → Bool
holds_in p None = false
holds_in p (Some s) = p s.stage

-- ---- its dialogs

-- with this end, where there is one
abbrev pub dialog_of : End → Call → Option Dialog
dialog_of Caller c = Some c.caller
dialog_of Callee c = c.callee

abbrev pub with_dialog : End → Dialog → Call → Call
with_dialog Caller d c = record { number = c.number; standing = c.standing; media = c.media; caller = d; callee = c.callee }
with_dialog Callee d c = record { number = c.number; standing = c.standing; media = c.media; caller = c.caller; callee = Some d }

-- an end that is reached elsewhere (RFC 3261 section 12.2.2)
abbrev pub to_target : Uri → Dialog → Dialog
to_target target d = record d { target = target }

abbrev pub with_target : End → Uri → Call → Call
with_target Caller target c = record { number = c.number; standing = c.standing; media = c.media; caller = to_target target c.caller; callee = c.callee }
with_target Callee target c = record { number = c.number; standing = c.standing; media = c.media; caller = c.caller; callee = option_map (to_target target) c.callee }

-- the number of an INVITE or UPDATE that is sent to this end
abbrev pub number_to : End → Call → Option ℕ
number_to end c = option_map following (dialog_of end c)

-- the last number of all is left for a BYE (RFC 3261 section 8.1.1.5)
abbrev pub has_number_left : Option Dialog → Bool
has_number_left None = true
has_number_left (Some d) = nat_lt (last_number d) (max_for Invite)

abbrev pub numbers_to : End → Option ℕ → Numbers
numbers_to Caller number = record { to_caller = number; to_callee = None }
numbers_to Callee number = record { to_caller = None; to_callee = number }

abbrev pub none_counted : Numbers
none_counted = record { to_caller = None; to_callee = None }

-- the dialog after a request with this number was sent in it, if one was
abbrev pub with_number : Option ℕ → Dialog → Dialog
with_number None d = d
with_number (Some number) d = record d { local_number = Some number }

abbrev pub with_number_if : Option ℕ → Option Dialog → Option Dialog
with_number_if None d = d
with_number_if (Some number) None = None
with_number_if (Some number) (Some d) = Some (record d { local_number = Some number })

-- the call with these numbers counted, at this place and with these media
abbrev pub after : Call → Numbers → Option Standing → CallMedia → Call
after c numbers next media = record {
  number = c.number;
  standing = next;
  media = media;
  caller = with_number numbers.to_caller c.caller;
  callee = with_number_if numbers.to_callee c.callee;
}

abbrev pub moved : Call → Option Standing → CallMedia → Call
moved c next media = after c none_counted next media

-- a call before its first offer
abbrev pub new_media : ℕ → OwnRange → CallMedia
new_media number range = record { number = number; range = range; versions = none_sent; offer = None; session = None }

abbrev pub new_call : ℕ → OwnRange → Dialog → Call
new_call number range caller = record { number = number; standing = None; media = new_media number range; caller = caller; callee = None }

-- ---- what holds of a call with the pool that serves it

-- The pool serves its media; an offer is open exactly while the call waits for its answer, and a session is live
-- exactly from the first fit 2xx until an end leaves.
pub record IsServed (c : Call) (pool : Contents) : Type 0 where
  pub number : c.media.number ≡ c.number
  pub media : Serves c.media pool
  pub offer : is_some c.media.offer ≡ holds_in awaits_answer c.standing
  pub session : is_some c.media.session ≡ holds_in has_session c.standing
