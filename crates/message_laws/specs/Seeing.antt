-- What a trace sees of the messages that the server makes (RFC 3261 sections 8.1.1, 8.2.6, 9.1, 12.2.1.1 and 17.1.1.3).
use Rattle.std.specs.Prelude.{◌≡◌, ℕ, List, [], Option, None, unwrap_or}
use Rattle.sip_uri.specs.declared.uri.NameAddr.{NameAddr}
use Rattle.sip_message.specs.declared.message.Parts.{Parts}
use Rattle.sip_message.specs.Words.{tag_text, value_found}
use Rattle.sip_writing.specs.Replies.{answered_tag, tag_of}
use Rattle.sip_writing.specs.Requests as writing
use Rattle.sdp.specs.declared.description.Description.{Description}
use Rattle.dialogs.specs.declared.state.Dialog.{Dialog}
use Rattle.call_trace.specs.declared.datagram.Kind.TheVariants.{Request, Response}
use Rattle.call_trace.specs.declared.datagram.Message.{Message}
use Rattle.trace_reading.specs.Message.{branch_text}

-- a request in this dialog, with this token in its branch, this number, method and description (section 12.2.1.1)
pub record SeesRequest (d : Dialog) (token : List ℕ) (n : ℕ) (name : List ℕ) (body : Option Description) (m : Message) : Type 0 where
  pub kind : m.kind ≡ Request
  pub branch : m.branch ≡ writing.branch_text token
  pub call_id : m.call_id ≡ d.id.call_id
  pub from_tag : m.from_tag ≡ d.id.ours
  pub to_tag : m.to_tag ≡ d.id.theirs
  pub number : m.number ≡ n
  pub method : m.method ≡ name
  pub description : m.description ≡ body

-- a request without a body that has branch, Call-ID, From tag and number of an INVITE, and this tag in its To: its
-- CANCEL, or the ACK of a refusal (sections 9.1 and 17.1.1.3)
pub record SeesLike (invite : Parts) (to : NameAddr) (name : List ℕ) (m : Message) : Type 0 where
  pub kind : m.kind ≡ Request
  pub branch : m.branch ≡ branch_text invite.vias
  pub call_id : m.call_id ≡ invite.call_id
  pub from_tag : m.from_tag ≡ tag_text invite.from.params
  pub to_tag : m.to_tag ≡ tag_text to.params
  pub number : m.number ≡ invite.cseq.number
  pub method : m.method ≡ name
  pub description : m.description ≡ None

-- the tag of To in a response: the request's, or where that has none the given one, except for a 100 (section
-- 8.2.6.2)
abbrev pub response_tag : ℕ → Parts → List ℕ → List ℕ
response_tag status request tag = unwrap_or (value_found (answered_tag status (tag_of request.to.params) tag)) []

-- a response to the request of these parts, with this description (section 8.2.6)
pub record SeesResponse (request : Parts) (status : ℕ) (tag : List ℕ) (body : Option Description) (m : Message) : Type 0 where
  pub kind : m.kind ≡ Response status
  pub branch : m.branch ≡ branch_text request.vias
  pub call_id : m.call_id ≡ request.call_id
  pub from_tag : m.from_tag ≡ tag_text request.from.params
  pub to_tag : m.to_tag ≡ response_tag status request tag
  pub number : m.number ≡ request.cseq.number
  pub method : m.method ≡ request.cseq.method
  pub description : m.description ≡ body
