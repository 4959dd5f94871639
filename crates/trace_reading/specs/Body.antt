-- Which bodies are descriptions (RFC 3261 sections 7.4, 20.12 and 20.15).
use Rattle.std.specs.Prelude.{ℕ, Bool, ◌&&◌, List, Option, Some, None, Result, Ok, Err, if◌then◌else◌}
use Rattle.sdp.specs.declared.description.Description.{Description}
use Rattle.sdp.specs.declared.error.DescriptionError.{DescriptionError}
use Rattle.sdp.specs.Reading.{description_of}
use Rattle.sip_message.specs.declared.headers.Header.{Header}
use Rattle.sip_message.specs.Content.{has_description_type, is_uncoded}

-- by its header fields the body is a description as it is
unfoldable pub may_describe : List Header → Bool
may_describe headers = has_description_type headers && is_uncoded headers

abbrev pub if_read : Result Description DescriptionError → Option Description
if_read (Ok d) = Some d
if_read (Err e) = None

-- the description that the body is, if it is one
unfoldable pub description_in : List Header → List ℕ → Option Description
description_in headers body = if may_describe headers then if_read (description_of body) else None
