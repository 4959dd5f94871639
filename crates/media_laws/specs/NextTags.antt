-- Tags that are made next, and the BYEs that were answered (RFC 3261 section 15.1.2).
use Rattle.std.specs.Prelude.{◌≡◌, ◌≢◌, ℕ, ◌<◌, ◌^◌, IsTrue, List}
use Rattle.call_trace.specs.declared.datagram.Datagram.{Datagram}
use Rattle.call_trace.specs.declared.datagram.Direction.TheVariants.{Sent}
use Rattle.call_trace.specs.Exchanges.{At}
use Rattle.call_trace.specs.Messages.{bye, is_method, is_ok}
use Rattle.plans.specs.Office.{Office}
use Rattle.responses.specs.Tokens.{token}

-- no 200 to a BYE was sent with a token in To that is made next
abbrev pub AreNextTagsNew : Office → List Datagram → Type 0
AreNextTagsNew s t =
    (salt count : ℕ) → s.tokens < count → count < 2 ^ 64 → (i : ℕ) (p : Datagram) → At t i p → p.direction ≡ Sent → IsTrue (is_ok p.message.kind) → IsTrue (is_method bye p.message.method)
    → p.message.to_tag ≢ token salt count
