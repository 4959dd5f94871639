use Rattle.std.proofs.Common.{ap, sym, ◌∙◌}
use Rattle.std.specs.Option.{option_copied}
use Rattle.sip_message.proofs.ViaLaws.{joined_text, same_bytes}
use Rattle.sip_message.proofs.via.is_joined.Goals as goal

pub returns-then-are_same : goal.returns-then-are_same
returns-then-are_same c = λ same.
    joined_text c.args.bytes.now c.args.host.now c.args.port.now c.cut.result.0.now c.in-Some.behind.now c.cut.ensures.front (ap option_copied (sym c.in-Some.is) ∙ c.cut.ensures.back)
    (same_bytes _ _ (sym c.if-are_same.ensures)) (same_bytes c.in-Some.behind.now c.args.port.now (sym c.are_same-then-are_same.ensures ∙ same))
