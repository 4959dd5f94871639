-- What is known of the 200s to BYEs that the server sent (RFC 3261 section 15.1.2).
use Rattle.std.specs.Prelude.{◌≡◌, ℕ, List, IsTrue}
use Rattle.call_trace.specs.declared.datagram.Datagram.{Datagram}
use Rattle.call_trace.specs.declared.datagram.Direction.TheVariants.{Sent}
use Rattle.call_trace.specs.Exchanges.{At}
use Rattle.call_trace.specs.Messages.{bye, is_method, is_ok}
use Rattle.plans.specs.Office.{Office}
use Rattle.message_laws.specs.Tokens.{IsMade}

-- The tag of To in each was made: it is the server's in the dialog that the BYE ends.
abbrev pub KnowsByes : Office → List Datagram → Type 0
KnowsByes s t =
    (i : ℕ) (p : Datagram) → At t i p → p.direction ≡ Sent → IsTrue (is_ok p.message.kind) → IsTrue (is_method bye p.message.method) → IsMade s.tokens p.message.to_tag
