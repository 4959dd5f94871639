-- What the transactions say of a message: a response begins none; and of what method a request is.
use Rattle.std.proofs.Common.{◌≡◌, ℕ, true, List, Option, Some, None, Ok, position, subst}
use Rattle.std.specs.Prelude.{nat_eq}
use Rattle.std.specs.Cmp.Lexicographic.{pointwise}
use Rattle.std.proofs.lemmas.Slice.Eq.{bytes_eq-Decides}
use Rattle.sip_message.specs.declared.message.Message.TheVariants as Kinds
use Rattle.sip_message.specs.declared.message.Request.{Request}
use Rattle.sip_message.specs.declared.message.Response.{Response}
use Rattle.sip_message.specs.Read.{message_of}
use Rattle.sip_message.specs.Words.{is_method}
use Rattle.sip_message.proofs.MessageLaws.{found_at}
use Rattle.responses.specs.Words.{is_method as request_method}
use Rattle.transaction_machines.specs.declared.step.Step.{Step}
use Rattle.transaction_machines.specs.declared.step.Told.{Told}
use Rattle.transaction_machines.specs.declared.step.Told.TheVariants.{Silent, Up, TimedOut, Ended}
use Rattle.transaction_machines.specs.Machines.{row_of}
use Rattle.transactions.specs.declared.outcome.Verdict.{Verdict}
use Rattle.transactions.specs.declared.outcome.Verdict.TheVariants as verdicts
use Rattle.transactions.specs.declared.transaction.Transaction.{Transaction}
use Rattle.transactions.specs.Contents.{Contents, ack_at, reception_at, reception_by, reception_of, response_input, response_reception, upward}
use Rattle.transactions.specs.Slots.{at, is_answered}

-- the method of CSeq is the request's own (section 8.1.1.5)
pub own_method : (bytes : List ℕ) (r : Request) (name : List ℕ) → message_of bytes ≡ Ok (Kinds.Request r) → is_method name r.parts ≡ true → request_method name r ≡ true
own_method bytes r name read is =
    subst (λ method. pointwise nat_eq method name ≡ true)
    ((bytes_eq-Decides r.parts.cseq.method r.method).0 (found_at bytes (Ok (Kinds.Request r)) read).0.says.says_parts.cseq_method) is

-- ---- a response

abbrev pub IsNotNew : Verdict → Type 0
IsNotNew (verdicts.New id) = ⊥
IsNotNew verdicts.Repeat = Unit {0}
IsNotNew verdicts.Swallowed = Unit {0}
IsNotNew (verdicts.Up id) = Unit {0}
IsNotNew verdicts.Stray = Unit {0}

told_no_new : (id : ℕ) (told : Told) → IsNotNew (upward id told verdicts.Swallowed)
told_no_new id Up = tt
told_no_new id Silent = tt
told_no_new id TimedOut = tt
told_no_new id Ended = tt

step_no_new : (r : Response) (id : ℕ) (t : Transaction) (fresh : Option (List ℕ)) (step : Option Step) → IsNotNew (reception_by id t (response_input r) fresh step).verdict
step_no_new r id t fresh None = tt
step_no_new r id t fresh (Some step) = told_no_new id step.told

at_no_new : (r : Response) (id : ℕ) (o : Option Transaction) → IsNotNew (reception_at id o (response_input r) (ack_at o r)).verdict
at_no_new r id None = tt
at_no_new r id (Some t) = step_no_new r id t (ack_at (Some t) r) (row_of t.state (response_input r))

in_no_new : (table : Contents) (r : Response) (id : Option ℕ) → IsNotNew (response_reception table r id).verdict
in_no_new table r None = tt
in_no_new table r (Some id) = at_no_new r id (at table.slots id)

pub response_not_new : (table : Contents) (r : Response) → IsNotNew (reception_of table (Kinds.Response r)).verdict
unfolding reception_of
response_not_new table r = in_no_new table r (position (is_answered r.parts) table.slots)
