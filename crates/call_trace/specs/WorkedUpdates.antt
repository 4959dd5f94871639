-- A call written out as events, with any descriptions: its caller offers by UPDATE (RFC 3311) and is refused, while the
-- callee's UPDATE crosses it and another one without a description is answered; it offers once more, a timer sends that
-- again, and it is answered.
use Rattle.std.specs.Prelude.{List, [], ◌∷◌, ◌++◌, codes, Some, None}
use Rattle.call_trace.specs.declared.datagram.Kind.TheVariants.{Request, Response}
use Rattle.call_trace.specs.declared.datagram.Message.{Message}
use Rattle.call_trace.specs.declared.call.Session.{Session}
use Rattle.call_trace.specs.Messages.{update, bye}
use Rattle.call_trace.specs.Runs.{Event}
use Rattle.call_trace.specs.Worked.{of_caller, to_callee, acknowledged, beginning}
use Rattle.call_trace.specs.WorkedOffers.{of_callee}

-- ---- an offer that is refused

abbrev pub updated : Session → Message
updated r = of_caller Request (codes "u1") (codes "2.2") 2 update (Some r.offer_taken) (codes "UPDATE of the caller")

abbrev pub updated_on : Session → Message
updated_on r = to_callee Request (codes "6.7") (codes "tb") 2 update (Some r.offer_sent) (codes "UPDATE to the callee")

abbrev pub crossing : Session → Message
crossing r = of_callee Request (codes "u2") 1 update (Some r.answer_taken) (codes "UPDATE of the callee")

abbrev pub crossing_refused : Message
crossing_refused = of_callee (Response 491) (codes "u2") 1 update None (codes "491 to the callee")

abbrev pub silent : Message
silent = of_callee Request (codes "u3") 2 update None (codes "UPDATE of the callee without a description")

abbrev pub silent_answered : Message
silent_answered = of_callee (Response 200) (codes "u3") 2 update None (codes "200 to the UPDATE without a description")

abbrev pub update_refused : Message
update_refused = to_callee (Response 488) (codes "6.7") (codes "tb") 2 update None (codes "488 of the callee")

abbrev pub update_refused_on : Message
update_refused_on = of_caller (Response 488) (codes "u1") (codes "2.2") 2 update None (codes "488 to the caller")

-- ---- and one that is answered

abbrev pub again_updated : Session → Message
again_updated r = of_caller Request (codes "u4") (codes "2.2") 3 update (Some r.offer_taken) (codes "second UPDATE of the caller")

abbrev pub again_updated_on : Session → Message
again_updated_on r = to_callee Request (codes "8.9") (codes "tb") 3 update (Some r.offer_sent) (codes "second UPDATE to the callee")

abbrev pub update_answered : Session → Message
update_answered r = to_callee (Response 200) (codes "8.9") (codes "tb") 3 update (Some r.answer_taken) (codes "200 to the UPDATE")

abbrev pub update_answered_on : Session → Message
update_answered_on r = of_caller (Response 200) (codes "u4") (codes "2.2") 3 update (Some r.answer_sent) (codes "200 to the caller's UPDATE")

-- ---- and the end

abbrev pub caller_ends : Message
caller_ends = of_caller Request (codes "a5") (codes "2.2") 4 bye None (codes "last BYE of the caller")

abbrev pub caller_served : Message
caller_served = of_caller (Response 200) (codes "a5") (codes "2.2") 4 bye None (codes "200 to the caller's last BYE")

abbrev pub callee_told : Message
callee_told = to_callee Request (codes "9.10") (codes "tb") 4 bye None (codes "last BYE to the callee")

abbrev pub updates : Session → Session → List Event
updates s r =
    beginning s ++ record { taken = Some acknowledged; sent = [] }
    ∷ record { taken = Some (updated r); sent = updated_on r ∷ [] }
    ∷ record { taken = Some (crossing r); sent = crossing_refused ∷ [] }
    ∷ record { taken = Some silent; sent = silent_answered ∷ [] }
    ∷ record { taken = Some update_refused; sent = update_refused_on ∷ [] }
    ∷ record { taken = Some (again_updated r); sent = again_updated_on r ∷ [] }
    ∷ record { taken = None; sent = again_updated_on r ∷ [] }
    ∷ record { taken = Some (update_answered r); sent = update_answered_on r ∷ [] }
    ∷ record { taken = Some caller_ends; sent = caller_served ∷ callee_told ∷ [] } ∷ []
