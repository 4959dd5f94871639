-- When a response belongs to a request (RFC 3261 sections 8.2.6.2 and 17.1.3): by the branch of the top Via, Call-ID,
-- the tags, and number and method of CSeq.
use Rattle.std.specs.Prelude.{◌≡◌, ℕ, ◌==◌, List, [], ◌∷◌, codes, Option, Some, None, if◌then◌else◌}
use Rattle.sip_uri.specs.declared.uri.Param.{Param}
use Rattle.sip_uri.specs.Binding.{param_named}
use Rattle.sip_message.specs.declared.message.Parts.{Parts}
use Rattle.sip_message.specs.declared.via.Via.{Via}
use Rattle.sip_writing.specs.Reply.{tag_param}

-- the branch of the top Via
abbrev pub top_branch : List Via → Option Param
top_branch [] = None
top_branch (via ∷ vias) = param_named (codes "branch") via.params

abbrev pub tag_of : List Param → Option Param
tag_of params = param_named (codes "tag") params

-- the tag of a response's To: the request's, or if that has none the server's, except in a 100
abbrev pub answered_tag : ℕ → Option Param → List ℕ → Option Param
answered_tag status (Some own) tag = Some own
answered_tag status None tag = if status == 100 then None else Some (tag_param tag)

-- a response with this status and this tag of the server's belongs to the request
pub record Replies (response request : Parts) (status : ℕ) (tag : List ℕ) : Type 0 where
  pub branch : top_branch response.vias ≡ top_branch request.vias
  pub call_id : response.call_id ≡ request.call_id
  pub from_tag : tag_of response.from.params ≡ tag_of request.from.params
  pub to_tag : tag_of response.to.params ≡ answered_tag status (tag_of request.to.params) tag
  pub cseq : response.cseq ≡ request.cseq
