use Rattle.std.proofs.Common.{◌∙◌, ap}
use Rattle.sip_message.specs.Words.{tag_text}
use Rattle.calls.specs.Finding.{place_by_tag}
use Rattle.call_rules.specs.Responses.{asked_place}
use Rattle.call_rules.proofs.responses.asked_place.Goals as goal

pub returns : goal.returns
unfolding asked_place
returns c =
    c.place_by_tag.ensures
    ∙ ap (λ tag. place_by_tag tag c.args.calls.now.calls) (c.tag_text.ensures.tag ∙ ap tag_text c.as_slice.ensures)
