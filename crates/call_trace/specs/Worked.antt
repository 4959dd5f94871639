-- Calls written out as events, with any four descriptions: one that the caller ends, one that the callee leaves before
-- the caller's ACK has come, and one that is cancelled while the callee accepts it.
use Rattle.std.specs.Prelude.{ℕ, List, [], ◌∷◌, ◌++◌, codes, Option, Some, None}
use Rattle.sdp.specs.declared.description.Description.{Description}
use Rattle.call_trace.specs.declared.datagram.Kind.{Kind}
use Rattle.call_trace.specs.declared.datagram.Kind.TheVariants.{Request, Response}
use Rattle.call_trace.specs.declared.datagram.Message.{Message}
use Rattle.call_trace.specs.declared.call.Session.{Session}
use Rattle.call_trace.specs.Messages.{invite, ack, bye, cancel}
use Rattle.call_trace.specs.Runs.{Event}

-- what a message of the caller's leg, and one of the callee's, has in common with the others
abbrev pub of_caller : Kind → List ℕ → List ℕ → ℕ → List ℕ → Option Description → List ℕ → Message
of_caller kind branch to_tag number method description bytes = record {
  kind = kind;
  branch = branch;
  call_id = codes "c1";
  from_tag = codes "fa";
  to_tag = to_tag;
  number = number;
  method = method;
  description = description;
  bytes = bytes;
}

abbrev pub to_callee : Kind → List ℕ → List ℕ → ℕ → List ℕ → Option Description → List ℕ → Message
to_callee kind branch to_tag number method description bytes = record {
  kind = kind;
  branch = branch;
  call_id = codes "2.3";
  from_tag = codes "2.4";
  to_tag = to_tag;
  number = number;
  method = method;
  description = description;
  bytes = bytes;
}

-- ---- the call is asked for and answered

abbrev pub asked : Session → Message
asked s = of_caller Request (codes "a1") [] 1 invite (Some s.offer_taken) (codes "INVITE of the caller")

abbrev pub trying : Message
trying = of_caller (Response 100) (codes "a1") [] 1 invite None (codes "100")

abbrev pub asked_on : Session → Message
asked_on s = to_callee Request (codes "2.5") [] 1 invite (Some s.offer_sent) (codes "INVITE of ours")

abbrev pub accepted : Session → Message
accepted s = to_callee (Response 200) (codes "2.5") (codes "tb") 1 invite (Some s.answer_taken) (codes "200 of the callee")

abbrev pub acknowledged_on : Message
acknowledged_on = to_callee Request (codes "4.6") (codes "tb") 1 ack None (codes "ACK of ours")

abbrev pub accepted_on : Session → Message
accepted_on s = of_caller (Response 200) (codes "a1") (codes "2.2") 1 invite (Some s.answer_sent) (codes "200 of ours")

abbrev pub acknowledged : Message
acknowledged = of_caller Request (codes "a2") (codes "2.2") 1 ack None (codes "ACK of the caller")

abbrev pub beginning : Session → List Event
beginning s =
    record { taken = Some (asked s); sent = trying ∷ asked_on s ∷ [] }
    ∷ record { taken = Some (accepted s); sent = acknowledged_on ∷ accepted_on s ∷ [] } ∷ []

-- ---- and the caller ends it

abbrev pub ended : Message
ended = of_caller Request (codes "a3") (codes "2.2") 2 bye None (codes "BYE of the caller")

abbrev pub ended_well : Message
ended_well = of_caller (Response 200) (codes "a3") (codes "2.2") 2 bye None (codes "200 to the caller's BYE")

abbrev pub ended_on : Message
ended_on = to_callee Request (codes "6.7") (codes "tb") 2 bye None (codes "BYE to the callee")

abbrev pub plain_call : Session → List Event
plain_call s =
    beginning s ++ record { taken = Some acknowledged; sent = [] }
    ∷ record { taken = Some ended; sent = ended_well ∷ ended_on ∷ [] } ∷ []

-- ---- or the callee leaves it, and the caller is notified when its ACK has come

abbrev pub leaves : Kind → List ℕ → Message
leaves kind bytes = record {
  kind = kind;
  branch = codes "b1";
  call_id = codes "2.3";
  from_tag = codes "tb";
  to_tag = codes "2.4";
  number = 1;
  method = bye;
  description = None;
  bytes = bytes;
}

abbrev pub told : Message
told = record {
  kind = Request;
  branch = codes "6.8";
  call_id = codes "c1";
  from_tag = codes "2.2";
  to_tag = codes "fa";
  number = 1;
  method = bye;
  description = None;
  bytes = codes "BYE to the caller";
}

abbrev pub left_before_ack : Session → List Event
left_before_ack s =
    beginning s ++ record { taken = Some (leaves Request (codes "BYE of the callee")); sent = leaves (Response 200) (codes "200 to the callee's BYE") ∷ [] }
    ∷ record { taken = Some acknowledged; sent = told ∷ [] } ∷ []

-- ---- or it is cancelled, and the CANCEL crosses the callee's 2xx (RFC 3261 section 9)

abbrev pub cancelled : Message
cancelled = of_caller Request (codes "a1") [] 1 cancel None (codes "CANCEL of the caller")

abbrev pub cancelled_well : Message
cancelled_well = of_caller (Response 200) (codes "a1") (codes "2.2") 1 cancel None (codes "200 to the CANCEL")

abbrev pub terminated : Message
terminated = of_caller (Response 487) (codes "a1") (codes "2.2") 1 invite None (codes "487 to the caller")

abbrev pub cancelled_on : Message
cancelled_on = to_callee Request (codes "2.5") [] 1 cancel None (codes "CANCEL to the callee")

abbrev pub cancelled_call : Session → List Event
cancelled_call s =
    record { taken = Some (asked s); sent = trying ∷ asked_on s ∷ [] }
    ∷ record { taken = Some cancelled; sent = cancelled_well ∷ terminated ∷ cancelled_on ∷ [] }
    ∷ record { taken = Some (accepted s); sent = acknowledged_on ∷ ended_on ∷ [] } ∷ []
