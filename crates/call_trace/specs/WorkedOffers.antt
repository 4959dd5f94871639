-- A call written out as events, with any descriptions: its callee offers again and is refused, offers once more and is
-- answered, a second telephone answers the first INVITE late, a 2xx is sent again, and the callee ends the call.
use Rattle.std.specs.Prelude.{ℕ, List, [], ◌∷◌, ◌++◌, codes, Option, Some, None}
use Rattle.sdp.specs.declared.description.Description.{Description}
use Rattle.call_trace.specs.declared.datagram.Kind.{Kind}
use Rattle.call_trace.specs.declared.datagram.Kind.TheVariants.{Request, Response}
use Rattle.call_trace.specs.declared.datagram.Message.{Message}
use Rattle.call_trace.specs.declared.call.Session.{Session}
use Rattle.call_trace.specs.Messages.{invite, ack, bye}
use Rattle.call_trace.specs.Runs.{Event}
use Rattle.call_trace.specs.Worked.{to_callee, beginning}

-- a message of the callee's own transactions, and one of ours in the caller's leg
abbrev pub of_callee : Kind → List ℕ → ℕ → List ℕ → Option Description → List ℕ → Message
of_callee kind branch number method description bytes = record {
  kind = kind;
  branch = branch;
  call_id = codes "2.3";
  from_tag = codes "tb";
  to_tag = codes "2.4";
  number = number;
  method = method;
  description = description;
  bytes = bytes;
}

abbrev pub to_caller : Kind → List ℕ → ℕ → List ℕ → Option Description → List ℕ → Message
to_caller kind branch number method description bytes = record {
  kind = kind;
  branch = branch;
  call_id = codes "c1";
  from_tag = codes "2.2";
  to_tag = codes "fa";
  number = number;
  method = method;
  description = description;
  bytes = bytes;
}

-- ---- an offer that is refused

abbrev pub offered : Session → Message
offered r = of_callee Request (codes "b2") 1 invite (Some r.offer_taken) (codes "INVITE of the callee")

abbrev pub trying_offer : Message
trying_offer = of_callee (Response 100) (codes "b2") 1 invite None (codes "100 to the callee")

abbrev pub offered_on : Session → Message
offered_on r = to_caller Request (codes "7.9") 1 invite (Some r.offer_sent) (codes "INVITE to the caller")

abbrev pub refused : Message
refused = to_caller (Response 488) (codes "7.9") 1 invite None (codes "488 of the caller")

abbrev pub refusal_ack : Message
refusal_ack = to_caller Request (codes "7.9") 1 ack None (codes "ACK to the 488")

abbrev pub refused_on : Message
refused_on = of_callee (Response 488) (codes "b2") 1 invite None (codes "488 to the callee")

-- ---- and one that is answered

abbrev pub again_offered : Session → Message
again_offered r = of_callee Request (codes "b3") 2 invite (Some r.offer_taken) (codes "second INVITE of the callee")

abbrev pub trying_again : Message
trying_again = of_callee (Response 100) (codes "b3") 2 invite None (codes "second 100 to the callee")

abbrev pub again_on : Session → Message
again_on r = to_caller Request (codes "8.10") 2 invite (Some r.offer_sent) (codes "second INVITE to the caller")

abbrev pub agreed : Session → Message
agreed r = to_caller (Response 200) (codes "8.10") 2 invite (Some r.answer_taken) (codes "200 of the caller")

abbrev pub agreed_ack : Message
agreed_ack = to_caller Request (codes "9.11") 2 ack None (codes "ACK to the caller")

abbrev pub agreed_on : Session → Message
agreed_on r = of_callee (Response 200) (codes "b3") 2 invite (Some r.answer_sent) (codes "200 to the callee")

-- ---- a second telephone, and the end

abbrev pub second_answer : Message
second_answer = to_callee (Response 200) (codes "2.5") (codes "tc") 1 invite None (codes "200 of a second telephone")

abbrev pub second_ack : Message
second_ack = to_callee Request (codes "10.12") (codes "tc") 1 ack None (codes "ACK to a second telephone")

abbrev pub second_bye : Message
second_bye = to_callee Request (codes "10.13") (codes "tc") 2 bye None (codes "BYE to a second telephone")

abbrev pub callee_ends : Message
callee_ends = of_callee Request (codes "b4") 3 bye None (codes "last BYE of the callee")

abbrev pub callee_served : Message
callee_served = of_callee (Response 200) (codes "b4") 3 bye None (codes "200 to the last BYE")

abbrev pub caller_told : Message
caller_told = to_caller Request (codes "12.14") 3 bye None (codes "BYE to the caller")

abbrev pub offers_again : Session → Session → List Event
offers_again s r =
    beginning s ++ record { taken = Some (offered r); sent = trying_offer ∷ offered_on r ∷ [] }
    ∷ record { taken = Some refused; sent = refusal_ack ∷ refused_on ∷ [] }
    ∷ record { taken = Some (again_offered r); sent = trying_again ∷ again_on r ∷ [] }
    ∷ record { taken = Some (agreed r); sent = agreed_ack ∷ agreed_on r ∷ [] }
    ∷ record { taken = Some second_answer; sent = second_ack ∷ second_bye ∷ [] }
    ∷ record { taken = None; sent = agreed_on r ∷ [] }
    ∷ record { taken = Some callee_ends; sent = callee_served ∷ caller_told ∷ [] } ∷ []
