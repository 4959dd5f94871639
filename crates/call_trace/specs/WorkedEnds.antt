-- Calls written out as events, with any descriptions, whose ends are not plain: cancelled and then refused, given up,
-- left while they are asked for, answered too late, and left by the caller before the callee has acknowledged.
use Rattle.std.specs.Prelude.{List, [], ◌∷◌, ◌++◌, codes, Some, None}
use Rattle.call_trace.specs.declared.datagram.Kind.TheVariants.{Request, Response}
use Rattle.call_trace.specs.declared.datagram.Message.{Message}
use Rattle.call_trace.specs.declared.call.Session.{Session}
use Rattle.call_trace.specs.Messages.{invite, ack, bye}
use Rattle.call_trace.specs.Runs.{Event}
use Rattle.call_trace.specs.Worked.{of_caller, to_callee, asked, trying, asked_on, acknowledged, beginning, cancelled, cancelled_well, terminated, cancelled_on}
use Rattle.call_trace.specs.WorkedOffers.{of_callee, again_offered, trying_again, again_on, agreed, agreed_ack, agreed_on}

-- ---- a timer sends the INVITE again, the caller cancels, and the callee refuses

abbrev pub refused_late : Message
refused_late = to_callee (Response 487) (codes "2.5") (codes "tb") 1 invite None (codes "487 of the callee")

abbrev pub refused_late_ack : Message
refused_late_ack = to_callee Request (codes "2.5") (codes "tb") 1 ack None (codes "ACK to the 487")

abbrev pub refused_cancelling : Session → List Event
refused_cancelling s =
    record { taken = Some (asked s); sent = trying ∷ asked_on s ∷ [] }
    ∷ record { taken = None; sent = asked_on s ∷ [] }
    ∷ record { taken = Some cancelled; sent = cancelled_well ∷ terminated ∷ cancelled_on ∷ [] }
    ∷ record { taken = Some refused_late; sent = refused_late_ack ∷ [] } ∷ []

-- ---- the callee rings until the limit

abbrev pub ringing : Message
ringing = to_callee (Response 180) (codes "2.5") (codes "tb") 1 invite None (codes "180 of the callee")

abbrev pub ringing_on : Message
ringing_on = of_caller (Response 180) (codes "a1") (codes "2.2") 1 invite None (codes "180 to the caller")

abbrev pub unanswered : Message
unanswered = of_caller (Response 480) (codes "a1") (codes "2.2") 1 invite None (codes "480 to the caller")

abbrev pub given_up : Session → List Event
given_up s =
    record { taken = Some (asked s); sent = trying ∷ asked_on s ∷ [] }
    ∷ record { taken = Some ringing; sent = ringing_on ∷ [] }
    ∷ record { taken = None; sent = unanswered ∷ cancelled_on ∷ [] } ∷ []

-- ---- the caller leaves by BYE what it has asked for

abbrev pub leaving : Message
leaving = of_caller Request (codes "a3") (codes "2.2") 3 bye None (codes "BYE of the caller that leaves")

abbrev pub leaving_served : Message
leaving_served = of_caller (Response 200) (codes "a3") (codes "2.2") 3 bye None (codes "200 to the caller that leaves")

abbrev pub left_asking : Session → List Event
left_asking s =
    record { taken = Some (asked s); sent = trying ∷ asked_on s ∷ [] }
    ∷ record { taken = Some leaving; sent = leaving_served ∷ terminated ∷ cancelled_on ∷ [] } ∷ []

-- ---- the callee's 2xx to a later offer comes when the call is gone: its ACK has the To of the re-INVITE

abbrev pub reasked : Session → Message
reasked r = of_caller Request (codes "h1") (codes "2.2") 2 invite (Some r.offer_taken) (codes "re-INVITE of the caller")

abbrev pub retrying : Message
retrying = of_caller (Response 100) (codes "h1") (codes "2.2") 2 invite None (codes "100 to the re-INVITE")

abbrev pub reasked_on : Session → Message
reasked_on r = to_callee Request (codes "6.7") (codes "tb") 2 invite (Some r.offer_sent) (codes "re-INVITE to the callee")

abbrev pub reasked_terminated : Message
reasked_terminated = of_caller (Response 487) (codes "h1") (codes "2.2") 2 invite None (codes "487 to the re-INVITE")

abbrev pub leaving_on : Message
leaving_on = to_callee Request (codes "7.8") (codes "tb") 3 bye None (codes "BYE to the callee that was left")

abbrev pub late : Session → Message
late r = to_callee (Response 200) (codes "6.7") (codes "tz") 2 invite (Some r.answer_taken) (codes "200 to the re-INVITE, too late")

abbrev pub late_ack : Message
late_ack = to_callee Request (codes "9.9") (codes "tb") 2 ack None (codes "ACK to the late 200")

abbrev pub answered_late : Session → Session → List Event
answered_late s r =
    beginning s ++ record { taken = Some acknowledged; sent = [] }
    ∷ record { taken = Some (reasked r); sent = retrying ∷ reasked_on r ∷ [] }
    ∷ record { taken = Some leaving; sent = leaving_served ∷ reasked_terminated ∷ leaving_on ∷ [] }
    ∷ record { taken = Some (late r); sent = late_ack ∷ [] }
    ∷ record { taken = Some (late r); sent = late_ack ∷ [] } ∷ []

-- ---- the callee's later offer was answered, and the caller leaves before the callee's ACK has come

abbrev pub agreed_acknowledged : Message
agreed_acknowledged = of_callee Request (codes "b5") 2 ack None (codes "ACK of the callee")

abbrev pub caller_leaves : Session → Session → List Event
caller_leaves s r =
    beginning s ++ record { taken = Some acknowledged; sent = [] }
    ∷ record { taken = Some (again_offered r); sent = trying_again ∷ again_on r ∷ [] }
    ∷ record { taken = Some (agreed r); sent = agreed_ack ∷ agreed_on r ∷ [] }
    ∷ record { taken = Some leaving; sent = leaving_served ∷ [] }
    ∷ record { taken = Some agreed_acknowledged; sent = leaving_on ∷ [] } ∷ []
