-- What a body describes whose type and coding are taken.
use Rattle.std.proofs.Common.{◌≡◌, ℕ, List, Option, None, ap}
use Rattle.sdp.specs.Reading.{description_of}
use Rattle.sip_message.specs.declared.headers.Header.{Header}
use Rattle.call_rules.specs.declared.content.ContentRule.{ContentRule}
use Rattle.call_rules.specs.Content.{content_rule, described, described_by, if_read}

pub taken_is_described : (headers : List Header) (body : List ℕ) → content_rule headers ≡ None → described headers body ≡ if_read (description_of body)
unfolding described
taken_is_described headers body taken = ap (λ (rule : Option ContentRule). described_by rule body) taken
