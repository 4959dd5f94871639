-- Why a body is not taken, and what it describes (RFC 3261 sections 7.4, 8.2.3, 20.12 and 20.15).
use Rattle.std.specs.Prelude.{ℕ, List, Option, Some, None, Result, Ok, Err, if◌then◌else◌}
use Rattle.sdp.specs.declared.description.Description.{Description}
use Rattle.sdp.specs.declared.error.DescriptionError.{DescriptionError}
use Rattle.sdp.specs.Reading.{description_of}
use Rattle.sip_message.specs.declared.headers.Header.{Header}
use Rattle.sip_message.specs.Content.{has_description_type, is_uncoded}
use Rattle.call_rules.specs.declared.content.ContentRule.{ContentRule}
use Rattle.call_rules.specs.declared.content.ContentRule.TheVariants.{«Type», Encoding}

-- ---- why a body is not taken: its type first (section 8.2.3)

abbrev pub coding_rule : List Header → Option ContentRule
coding_rule headers = if is_uncoded headers then None else Some Encoding

unfoldable pub content_rule : List Header → Option ContentRule
content_rule headers = if has_description_type headers then coding_rule headers else Some «Type»

-- ---- what it describes

abbrev pub if_read : Result Description DescriptionError → Option Description
if_read (Ok d) = Some d
if_read (Err e) = None

-- no body is no description
abbrev pub described_by : Option ContentRule → List ℕ → Option Description
described_by None body = if_read (description_of body)
described_by (Some rule) body = None

unfoldable pub described : List Header → List ℕ → Option Description
described headers body = described_by (content_rule headers) body
