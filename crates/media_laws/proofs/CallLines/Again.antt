-- A call's own 200 that is sent again was sent before, so that it moves no call.
use Rattle.std.proofs.Common.{◌≡◌, ℕ, List, Option, Some, None, option_map, inr}
use Rattle.std.specs.Option.{option_copied}
use Rattle.std.specs.Prelude.{slice_get}
use Rattle.sdp.specs.declared.description.Description.{Description}
use Rattle.events.specs.declared.sent.Sent.{Sent}
use Rattle.transactions.specs.declared.transaction.Transaction.{Transaction}
use Rattle.call_core.specs.declared.action.Action.TheVariants.{AnswerAgain}
use Rattle.call_media.specs.declared.end.End.{End}
use Rattle.call_steps.specs.Values.{ComingValue, lent}
use Rattle.calls.specs.declared.standing_call.StandingCall.{StandingCall}
use Rattle.plans.specs.Office.{Office}
use Rattle.plans.specs.declared.setting.Setting.{Setting}
use Rattle.call_trace.specs.declared.datagram.Datagram.{Datagram}
use Rattle.call_trace.specs.declared.datagram.Message.{Message}
use Rattle.call_trace.specs.Events.{IsIdle, NoneAsked}
use Rattle.call_trace.specs.Messages.{offering}
use Rattle.message_laws.specs.Sending.{AnswerWasSent, KnowsSent}
use Rattle.message_laws.proofs.Askers.AskedCalls.{at_place}
use Rattle.message_laws.specs.KnownTrace.{KnowsTrace}
use Rattle.media_laws.specs.Heard.{HearsAgain}
use Rattle.media_laws.specs.Lines.{SaysNone}
use Rattle.media_laws.proofs.Scenes.Reading.{Reading}
use Rattle.media_laws.specs.Coming.{scene_at}
use Rattle.media_laws.proofs.Scenes.QuietSends.{before_idle, went_before}

-- ---- the 200 that is sent again

again_by : Reading → (s : Office) (begun : List Transaction) (sent : List Sent) (t : List Datagram) (taken : Option Message) → KnowsTrace s begun sent t → NoneAsked offering taken → (o : Option Sent) → AnswerWasSent sent o
    → (m : Message) → HearsAgain (option_copied (option_map lent o)) m → IsIdle offering t taken m
again_by r s begun sent t taken known none None was m h = absurd h
again_by r s begun sent t taken known none (Some a) was m h = before_idle t taken m (went_before r t sent a.bytes m known.read known.sent was h) (inr none)

pub again_none : Reading → (s : Office) (begun : List Transaction) (sent : List Sent) (t : List Datagram) (taken : Option Message) → KnowsTrace s begun sent t → KnowsSent s sent → NoneAsked offering taken → (e : Setting) (w : ComingValue)
    (place : ℕ) (c : StandingCall) (description : Option Description) (x : End) → slice_get s.calls.calls place ≡ Some c → SaysNone t taken (scene_at s e w c description) (AnswerAgain x)
again_none r s begun sent t taken known was none e w place c description x there = λ count m h.
    again_by r s begun sent t taken known none c.answer (at_place (λ (y : StandingCall). AnswerWasSent sent y.answer) s.calls.calls place c was.calls there) m h
