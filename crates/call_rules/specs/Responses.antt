-- Which rule a response to a request of the server's own falls under, and the end of its time (RFC 3261 sections 9.1,
-- 13.2.2 and 17.1, RFC 3311).
use Rattle.std.specs.Prelude.{ℕ, ◌==◌, ◌&&◌, ◌||◌, Bool, true, false, List, length, slice_get, Option, Some, None, if◌then◌else◌}
use Rattle.sip_message.specs.declared.message.Parts.{Parts}
use Rattle.sip_message.specs.declared.message.Response.{Response}
use Rattle.sip_message.specs.declared.words.Class.{Class}
use Rattle.sip_message.specs.declared.words.Class.TheVariants.{Provisional as Early, Success, Failure}
use Rattle.sip_message.specs.Words.{class_of, tag_text}
use Rattle.call_media.specs.declared.end.End.{End}
use Rattle.call_media.specs.declared.end.End.TheVariants.{Caller, Callee}
use Rattle.call_media.specs.Ends.{is_same, other}
use Rattle.call_core.specs.Calls.{awaits_answer, dialog_of}
use Rattle.call_core.specs.declared.stage.Stage.{Stage}
use Rattle.call_core.specs.declared.stage.Stage.TheVariants.{Asked, Cancelling, Answered, Settled, Reasked, Reanswered, Updating, Ending}
use Rattle.call_core.specs.declared.stage.Standing.{Standing}
use Rattle.dialogs.specs.Counting.{last_number}
use Rattle.dialogs.specs.declared.state.Dialog.{Dialog}
use Rattle.calls.specs.declared.standing_call.StandingCall.{StandingCall}
use Rattle.calls.specs.Finding.{is_text, place_by_tag}
use Rattle.call_rules.specs.declared.responses.ResponseRule.{ResponseRule}
use Rattle.call_rules.specs.declared.responses.ResponseRule.TheVariants.{Silent, Provisional, Answer, Again, Fork, AckAlone, Refusal}
use Rattle.call_rules.specs.Places.{StandsAt}
use Rattle.call_rules.specs.Speaking.{is_acknowledged, may_offer}

-- ---- whether a call waits for the final response to a request of the server's

-- a first INVITE that was given up has no final response yet (section 9.1)
abbrev pub is_cancelling : Stage → Bool
is_cancelling (Asked rung) = false
is_cancelling (Cancelling sent) = true
is_cancelling (Answered interval) = false
is_cancelling Settled = false
is_cancelling (Reasked rung cancelled) = false
is_cancelling (Reanswered interval) = false
is_cancelling Updating = false
is_cancelling (Ending interval) = false

abbrev pub awaits_final : Stage → Bool
awaits_final stage = awaits_answer stage || is_cancelling stage

-- the end to which it went, by the server's tag in its From
abbrev pub asked_end : Parts → StandingCall → End
asked_end asked c = if is_text c.callee_tag (tag_text asked.from.params) then Callee else Caller

-- it is the last that was counted in its dialog; before the callee's first 2xx there is none, and one INVITE alone
abbrev pub is_last_in : ℕ → Option Dialog → Bool
is_last_in number None = true
is_last_in number (Some d) = last_number d == number

abbrev pub is_open_at : Parts → StandingCall → Standing → Bool
is_open_at asked c s =
    awaits_final s.stage && is_same (asked_end asked c) (other s.offerer)
    && is_last_in asked.cseq.number (dialog_of (asked_end asked c) c.call)

-- it carried the offer that is open
abbrev pub is_open_in : Parts → StandingCall → Option Standing → Bool
is_open_in asked c None = false
is_open_in asked c (Some s) = is_open_at asked c s

abbrev pub is_open : Parts → StandingCall → Bool
is_open asked c = is_open_in asked c c.call.standing

-- ---- a response that a call waits for; what a 100 does there is the call's

abbrev pub open_rule : ℕ → ℕ → Class → ResponseRule
open_rule place status Early = Provisional place status
open_rule place status Success = Answer place
open_rule place status Failure = Refusal place status

-- ---- one that no call waits for: a 2xx to an INVITE gets its ACK each time (section 13.2.2.4)

-- the server's numbers begin at 1, so that the first INVITE of a call has it, in the leg to the callee
abbrev pub is_first_to : End → ℕ → Bool
is_first_to Caller number = false
is_first_to Callee number = number == 1

abbrev pub has_their_tag : Response → Option Dialog → Bool
has_their_tag r None = false
has_their_tag r (Some d) = is_text d.id.theirs (tag_text r.parts.to.params)

-- the dialog that the call has: that of a later INVITE, or the one that its first INVITE made
abbrev pub is_of_known_dialog : Parts → Response → StandingCall → End → Bool
is_of_known_dialog asked r c end =
    if is_first_to end asked.cseq.number then has_their_tag r (dialog_of end c.call) else true

abbrev pub further_rule : Parts → Response → ℕ → StandingCall → ResponseRule
further_rule asked r place c = if is_of_known_dialog asked r c (asked_end asked c) then Again place else Fork

abbrev pub late_rule : Parts → Response → ℕ → StandingCall → ResponseRule
late_rule asked r place c = if is_acknowledged asked r then further_rule asked r place c else Silent

-- the call is gone: the dialog of its first INVITE, which has no tag in To and the first number, is ended too; that of
-- a later one has ended with the call
abbrev pub is_first : Parts → Bool
is_first asked = length (tag_text asked.to.params) == 0 && asked.cseq.number == 1

abbrev pub gone_rule : Parts → ResponseRule
gone_rule asked = if is_first asked then Fork else AckAlone

abbrev pub callless_rule : Parts → Response → ResponseRule
callless_rule asked r = if is_acknowledged asked r then gone_rule asked else Silent

-- ---- the rule

-- the call that sent the request, by the server's tag in its From
unfoldable pub asked_place : List StandingCall → Parts → Option ℕ
asked_place standing asked = place_by_tag (tag_text asked.from.params) standing

abbrev pub in_call : Parts → Response → ℕ → Option StandingCall → ResponseRule
in_call asked r place None = callless_rule asked r
in_call asked r place (Some c) = if is_open asked c then open_rule place r.status (class_of r.status) else late_rule asked r place c

unfoldable pub at_place : List StandingCall → Parts → Response → Option ℕ → ResponseRule
at_place standing asked r None = callless_rule asked r
at_place standing asked r (Some place) = in_call asked r place (slice_get standing place)

-- a response to a BYE or a CANCEL changes no call
unfoldable pub response_rule : List StandingCall → Parts → Response → ResponseRule
response_rule standing asked r =
    if may_offer asked then at_place standing asked r (asked_place standing asked) else Silent

-- a call is at the place that the rule names
abbrev pub NamesCall : List StandingCall → ResponseRule → Type 0
NamesCall standing Silent = Unit {0}
NamesCall standing (Provisional place status) = StandsAt standing place
NamesCall standing (Answer place) = StandsAt standing place
NamesCall standing (Again place) = StandsAt standing place
NamesCall standing Fork = Unit {0}
NamesCall standing AckAlone = Unit {0}
NamesCall standing (Refusal place status) = StandsAt standing place

-- ---- no final response came in time (sections 17.1.1.2 and 17.1.2.2): the call that waits for it

abbrev pub place_if_open : Parts → ℕ → Option StandingCall → Option ℕ
place_if_open asked place None = None
place_if_open asked place (Some c) = if is_open asked c then Some place else None

unfoldable pub open_at : List StandingCall → Parts → Option ℕ → Option ℕ
open_at standing asked None = None
open_at standing asked (Some place) = place_if_open asked place (slice_get standing place)

unfoldable pub timeout_rule : List StandingCall → Parts → Option ℕ
timeout_rule standing asked =
    if may_offer asked then open_at standing asked (asked_place standing asked) else None
