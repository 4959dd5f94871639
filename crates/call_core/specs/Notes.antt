-- What a line of the table is about, for observers of the calls. Like its effects, it is derived from its actions.
use Rattle.std.specs.Prelude.{◌≡◌, ℕ, ◌==◌, ◌||◌, Bool, true, false, is_none, is_some, List, find, Option, Some, None, option_and_then, option_map, if◌then◌else◌}
use Rattle.std.specs.Option.{option_or}
use Rattle.call_media.specs.declared.end.End.{End}
use Rattle.call_media.specs.Ends.{other}
use Rattle.call_core.specs.declared.action.Action.{Action}
use Rattle.call_core.specs.declared.action.Action.TheVariants.{Answer, Bye, Offer, Okay, Provisional, Refusal}
use Rattle.call_core.specs.declared.call.Call.{Call}
use Rattle.call_core.specs.declared.note.CallNote.{CallNote}
use Rattle.call_core.specs.declared.note.NoteOfCall.{NoteOfCall}
use Rattle.call_core.specs.declared.note.CallNote.TheVariants as notes
use Rattle.call_core.specs.declared.row.Row.{Row}
use Rattle.call_core.specs.declared.signal.OfferMethod.{OfferMethod}
use Rattle.call_core.specs.declared.signal.Signal.{Signal}
use Rattle.call_core.specs.declared.signal.Signal.TheVariants as signals
use Rattle.call_core.specs.declared.stage.Cancelled.TheVariants.{Never}
use Rattle.call_core.specs.declared.stage.Stage.{Stage}
use Rattle.call_core.specs.declared.stage.Stage.TheVariants as stages
use Rattle.call_core.specs.declared.stage.Standing.{Standing}
use Rattle.call_core.specs.Calls.{holds_in}
use Rattle.call_core.specs.Passing.{status_passed_on}
use Rattle.call_core.specs.Reasked.{has_lost_the_call}

-- ---- stages

abbrev pub is_asked : Stage → Bool
is_asked (stages.Asked rung) = true
is_asked stage = false

-- the offerer of an offer inside the call may still give it up
abbrev pub may_give_up : Stage → Bool
may_give_up (stages.Reasked rung Never) = true
may_give_up stage = false

abbrev pub waits_for_ack : Stage → Bool
waits_for_ack (stages.Answered interval) = true
waits_for_ack (stages.Reanswered interval) = true
waits_for_ack stage = false

abbrev pub is_settled : Stage → Bool
is_settled stages.Settled = true
is_settled stage = false

abbrev pub is_ending : Stage → Bool
is_ending (stages.Ending interval) = true
is_ending stage = false

-- ---- actions

abbrev pub is_okay : Action → Bool
is_okay (Okay end) = true
is_okay action = false

-- an offer, or a response to one, that is passed on or given
abbrev pub is_said : Action → Bool
is_said (Offer end method) = true
is_said (Provisional end status) = true
is_said (Answer end) = true
is_said (Refusal end status) = true
is_said action = false

abbrev pub is_bye : Action → Bool
is_bye (Bye end) = true
is_bye action = false

-- the action that says what a line is about: the 200 to an end that leaves or gives up, otherwise what is said of an
-- offer, otherwise a BYE
abbrev pub telling : List Action → Option Action
telling actions = option_or (find is_okay actions) (option_or (find is_said actions) (find is_bye actions))

-- ---- notes

abbrev pub offer_note : Option Standing → End → OfferMethod → CallNote
offer_note None end method = notes.Begun
offer_note (Some standing) end method = notes.Offered (other end) method

-- an end leaves the call, or the offerer gives its offer up
abbrev pub okay_note : Option Standing → Option Standing → End → Option CallNote
okay_note before next end =
    if holds_in is_asked before then Some notes.GivenUp
    else if holds_in is_ending before then None
    else if is_none next || holds_in is_ending next then Some (notes.Left end)
    else if holds_in may_give_up before then Some notes.OfferGivenUp
    else None

-- a refusal ends a call that was never answered; inside a call it ends the call with both ends notified, or only the
-- offer
abbrev pub refusal_note : Option Standing → Option Standing → ℕ → CallNote
refusal_note before next status =
    if holds_in is_asked before then notes.Refused status
    else if is_some next then notes.OfferRefused status
    else notes.Failed status

-- only the first INVITE rings
abbrev pub provisional_note : Option Standing → ℕ → Option CallNote
provisional_note before status = if holds_in is_asked before then Some (notes.Ringing status) else None

abbrev pub answer_note : Option Standing → CallNote
answer_note before = if holds_in is_asked before then notes.Answered else notes.Reanswered

-- both ends get BYE where the ACK of a 200 doesn't come, and where the call has lasted long enough
abbrev pub bye_note : Option Standing → Option CallNote
bye_note before =
    if holds_in waits_for_ack before then Some notes.Unacknowledged
    else if holds_in is_settled before then Some notes.Expired
    else None

abbrev pub note_by : Option Standing → Option Standing → Action → Option CallNote
note_by before next (Okay end) = okay_note before next end
note_by before next (Offer end method) = Some (offer_note before end method)
note_by before next (Provisional end status) = provisional_note before status
note_by before next (Answer end) = Some (answer_note before)
note_by before next (Refusal end status) = Some (refusal_note before next status)
note_by before next (Bye end) = bye_note before
note_by before next action = None

-- what it is about when a call with this standing before does this and has that standing next
unfoldable pub note_of : Option Standing → List Action → Option Standing → Option CallNote
note_of before actions next = option_and_then (note_by before next) (telling actions)

-- of a call, with its number
abbrev pub call_note : Call → List Action → Option Standing → Option NoteOfCall
call_note c actions next = option_map (λ note. record { number = c.number; note = note }) (note_of c.standing actions next)

-- ---- the notes of the lines

abbrev pub asked_note : Signal → Option CallNote
asked_note (signals.Provisional status) = if status == 100 then None else Some (notes.Ringing status)
asked_note signals.FitAnswer = Some notes.Answered
asked_note signals.UnfitAnswer = Some (notes.Refused 500)
asked_note (signals.Refusal status) = Some (notes.Refused (status_passed_on status))
asked_note signals.TimedOut = Some (notes.Refused 408)
asked_note signals.Limit = Some (notes.Refused 480)
asked_note signals.Cancel = Some notes.GivenUp
asked_note (signals.Bye end) = Some notes.GivenUp
asked_note signal = None

abbrev pub answered_note : Signal → Option CallNote
answered_note signals.Wait = Some notes.Unacknowledged
answered_note (signals.Bye end) = Some (notes.Left end)
answered_note signal = None

abbrev pub settled_note : Signal → Option CallNote
settled_note (signals.Offer end method) = Some (notes.Offered end method)
settled_note (signals.Bye end) = Some (notes.Left end)
settled_note signals.Lifetime = Some notes.Expired
settled_note signal = None

-- 408 and 481 end the call (RFC 3261 section 12.2.1.2)
abbrev pub inside_refusal_note : ℕ → CallNote
inside_refusal_note status = if has_lost_the_call status then notes.Failed status else notes.OfferRefused (status_passed_on status)

-- an offer inside the call is open
abbrev pub inside_note : Bool → Signal → Option CallNote
inside_note gives_up signals.FitAnswer = Some notes.Reanswered
inside_note gives_up signals.UnfitAnswer = Some (notes.Failed 500)
inside_note gives_up (signals.Refusal status) = Some (inside_refusal_note status)
inside_note gives_up signals.TimedOut = Some (notes.Failed 408)
inside_note gives_up signals.Limit = Some (notes.Failed 408)
inside_note gives_up signals.Cancel = if gives_up then Some notes.OfferGivenUp else None
inside_note gives_up (signals.Bye end) = Some (notes.Left end)
inside_note gives_up signal = None

-- of the line of this signal, where the call is at this stage
abbrev pub line_note : Stage → Signal → Option CallNote
line_note (stages.Asked rung) signal = asked_note signal
line_note (stages.Cancelling sent) signal = None
line_note (stages.Answered interval) signal = answered_note signal
line_note stages.Settled signal = settled_note signal
line_note (stages.Reasked rung cancelled) signal = inside_note (may_give_up (stages.Reasked rung cancelled)) signal
line_note (stages.Reanswered interval) signal = answered_note signal
line_note stages.Updating signal = inside_note false signal
line_note (stages.Ending interval) signal = None

-- the actions of each line are noted as the line is
abbrev pub HasNote : Standing → Signal → Row → Type 0
HasNote standing signal row = note_of (Some standing) row.actions row.next ≡ line_note standing.stage signal
