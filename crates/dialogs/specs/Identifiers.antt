-- The identifiers of a dialog (RFC 3261 section 12).
use Rattle.std.specs.Prelude.{Bool, ◌&&◌, nat_eq}
use Rattle.std.specs.Cmp.Lexicographic.{pointwise}
use Rattle.sip_message.specs.declared.message.Parts.{Parts}
use Rattle.sip_message.specs.Words.{tag_text}
use Rattle.dialogs.specs.declared.identifiers.DialogId.{DialogId}

-- in a request that was taken our tag is in To; an absent tag is the empty text
abbrev pub id_of_request : Parts → DialogId
id_of_request parts = record { call_id = parts.call_id; ours = tag_text parts.to.params; theirs = tag_text parts.from.params }

-- in a response that was taken our tag is in From
abbrev pub id_of_response : Parts → DialogId
id_of_response parts = record { call_id = parts.call_id; ours = tag_text parts.from.params; theirs = tag_text parts.to.params }

-- the three texts agree, each byte for byte
abbrev pub same_id : DialogId → DialogId → Bool
same_id a b = pointwise nat_eq a.call_id b.call_id && pointwise nat_eq a.ours b.ours && pointwise nat_eq a.theirs b.theirs
