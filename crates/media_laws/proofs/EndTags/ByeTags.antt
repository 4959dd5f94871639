-- A message that is sent is not a 200 to a BYE that is new, or has a tag that was made.
use Rattle.std.proofs.Common.{◌≡◌, ℕ, List, Option, None}
use Rattle.std.specs.Prelude.{IsTrue}
use Rattle.call_trace.specs.declared.datagram.Datagram.{Datagram}
use Rattle.call_trace.specs.declared.datagram.Direction.TheVariants.{Sent}
use Rattle.call_trace.specs.declared.datagram.Message.{Message}
use Rattle.call_trace.specs.Events.{IsIdle, again, branch_acknowledged, is_plain, plain}
use Rattle.call_trace.specs.Exchanges.{At}
use Rattle.call_trace.specs.Listed.{AllOf}
use Rattle.call_trace.specs.Messages.{ack, bye, is_method, is_ok, is_request, offering}
use Rattle.call_trace.proofs.Members.{all_weaker}
use Rattle.call_trace.proofs.Words.{ok_is_success, plain_ok, request_is_no_success, request_of}
use Rattle.message_laws.specs.Tokens.{IsMade}

-- it was sent before, or has a tag that was made where it is a 200 to a BYE
pub data IsTagged (t : List Datagram) (made : ℕ) (m : Message) : Type 0 where
  was_sent : (k : ℕ) (q : Datagram) → At t k q → q.direction ≡ Sent → q.message ≡ m → IsTagged t made m
  own : (IsTrue (is_ok m.kind) → IsTrue (is_method bye m.method) → IsMade made m.to_tag) → IsTagged t made m

module _ (t : List Datagram) (made : ℕ) where
  pub request_tagged : (m : Message) → IsTrue (is_request m.kind) → IsTagged t made m
  request_tagged m is = own (λ ok by. absurd (request_is_no_success m.kind is (ok_is_success m.kind ok)))

  -- a response of another status
  pub other_tagged : (m : Message) → (IsTrue (is_ok m.kind) → ⊥) → IsTagged t made m
  other_tagged m none = own (λ ok by. absurd (none ok))

  -- one to a request of another method
  pub method_tagged : (m : Message) → (IsTrue (is_method bye m.method) → ⊥) → IsTagged t made m
  method_tagged m none = own (λ ok by. absurd (none by))

  pub idle_tagged : (taken : Option Message) (m : Message) → IsIdle offering t taken m → IsTagged t made m
  idle_tagged taken m (plain h) = own (λ ok by. absurd (plain_ok offering m h ok by))
  idle_tagged taken m (branch_acknowledged k q h at out inv same) = request_tagged m (request_of ack m h)
  idle_tagged taken m (again k q at out same h) = was_sent k q at out same

  pub all_idle : (taken : Option Message) (ms : List Message) → AllOf (IsIdle offering t taken) ms → AllOf (IsTagged t made) ms
  all_idle taken ms all = all_weaker (IsIdle offering t taken) (IsTagged t made) (λ m. idle_tagged taken m) ms all

  pub all_plain : (ms : List Message) → AllOf (λ m. IsTrue (is_plain offering m)) ms → AllOf (IsTagged t made) ms
  all_plain ms all = all_weaker (λ m. IsTrue (is_plain offering m)) (IsTagged t made) (λ m h. idle_tagged None m (plain h)) ms all
