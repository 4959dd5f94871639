-- What a trace sees of a message and of the bytes that it was read from.
use Rattle.std.specs.Prelude.{ℕ, List, [], unwrap_or}
use Rattle.call_trace.specs.declared.datagram.Dialog.{Dialog}
use Rattle.call_trace.specs.declared.datagram.Kind.{Kind}
use Rattle.call_trace.specs.declared.datagram.Kind.TheVariants.{Request, Response}
use Rattle.call_trace.specs.declared.datagram.Message.{Message as TraceMessage}
use Rattle.dialogs.specs.declared.identifiers.DialogId.{DialogId}
use Rattle.sip_message.specs.declared.message.Message.{Message}
use Rattle.sip_message.specs.declared.message.Message.TheVariants as Kinds
use Rattle.sip_message.specs.declared.via.Via.{Via}
use Rattle.sip_message.specs.Contact.{headers_in}
use Rattle.sip_message.specs.Repeatable.{parts_in}
use Rattle.sip_message.specs.Words.{top_branch, tag_text}
use Rattle.trace_reading.specs.Body.{description_in}

-- section 7 of RFC 3261
abbrev pub kind_of : Message → Kind
kind_of (Kinds.Request request) = Request
kind_of (Kinds.Response response) = Response response.status

abbrev pub body_in : Message → List ℕ
body_in (Kinds.Request request) = request.body
body_in (Kinds.Response response) = response.body

-- the branch of the top Via; an absent one is the empty text, as an absent tag is
abbrev pub branch_text : List Via → List ℕ
branch_text vias = unwrap_or (top_branch vias) []

-- kind, top branch, Call-ID, tags, number and method, what the body describes, and the whole datagram
unfoldable pub trace_message : List ℕ → Message → TraceMessage
trace_message bytes m = record {
  kind = kind_of m;
  branch = branch_text (parts_in m).vias;
  call_id = (parts_in m).call_id;
  from_tag = tag_text (parts_in m).from.params;
  to_tag = tag_text (parts_in m).to.params;
  number = (parts_in m).cseq.number;
  method = (parts_in m).cseq.method;
  description = description_in (headers_in m) (body_in m);
  bytes = bytes;
}

-- the dialog with these identifiers (section 12)
abbrev pub dialog_named : DialogId → Dialog
dialog_named id = record { call_id = id.call_id; ours = id.ours; theirs = id.theirs }
