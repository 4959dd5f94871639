-- The messages of a step, and those of them that are kept.
use Rattle.std.specs.Prelude.{ℕ, ◌+◌, Bool, true, false, List, [], ◌∷◌, ◌++◌, find, Option, Some, None}
use Rattle.events.specs.declared.sent.Sent.{Sent}
use Rattle.transaction_machines.specs.declared.input.Input.TheVariants as inputs
use Rattle.transactions.specs.declared.change.Entry.{Entry}
use Rattle.transactions.specs.declared.change.Entry.TheVariants.{Tells}
use Rattle.call_core.specs.declared.action.Action.{Action}
use Rattle.call_core.specs.declared.action.Action.TheVariants.{Abandon, Ack, Answer, Cancel}
use Rattle.call_messages.specs.Dressed.{Dressed}
use Rattle.call_steps.specs.declared.messages.StepMessages.{StepMessages}
use Rattle.call_steps.specs.Values.{SceneValue, dressed_in}

abbrev pub is_answer : Action → Bool
is_answer (Answer end) = true
is_answer action = false

abbrev pub is_ack : Action → Bool
is_ack (Ack end) = true
is_ack action = false

abbrev pub is_abandon : Action → Bool
is_abandon (Abandon end) = true
is_abandon action = false

-- an action that has to do with the offer that was passed on, once it has been
abbrev pub ends_offer : Action → Bool
ends_offer (Cancel end) = true
ends_offer (Abandon end) = true
ends_offer action = false

-- ---- what is kept

abbrev pub first_sent : List Sent → Option Sent
first_sent [] = None
first_sent (sent ∷ more) = Some sent

-- what this action sends, as the first of its step
abbrev pub sent_alone : SceneValue → Action → Option Sent
sent_alone s action = first_sent (dressed_in s (action ∷ [])).sends

-- the 200 with the answer is sent again until its ACK comes (RFC 3261 section 13.3.1.4)
abbrev pub answer_kept : SceneValue → Option Action → Option Sent
answer_kept s None = None
answer_kept s (Some answer) = sent_alone s answer

-- the ACK of a 2xx, which is the first that a step sends, is sent again where the 2xx comes again (section 13.2.2.4)
abbrev pub ack_kept : SceneValue → List Action → Option Sent
ack_kept s (Ack end ∷ later) = sent_alone s (Ack end)
ack_kept s actions = None

-- ---- transactions

-- the INVITE that was passed on is given up, where it still waits for a final response
abbrev pub given_up : Option ℕ → Option Action → List Entry
given_up None action = []
given_up (Some id) None = []
given_up (Some id) (Some abandon) = Tells id inputs.Abandon None ∷ []

abbrev pub with_changes : List Entry → Dressed → Dressed
with_changes later d = record { changes = d.changes ++ later; sends = d.sends; made = d.made }

-- tokens that were made before the messages
abbrev pub with_made : ℕ → Dressed → Dressed
with_made before d = record { changes = d.changes; sends = d.sends; made = before + d.made }

-- ---- these actions, where this INVITE was passed on

unfoldable pub messages : SceneValue → Option ℕ → List Action → StepMessages
messages s passed actions = record {
  dressed = with_changes (given_up passed (find is_abandon actions)) (dressed_in s actions);
  answer = answer_kept s (find is_answer actions);
  ack = ack_kept s actions;
}
