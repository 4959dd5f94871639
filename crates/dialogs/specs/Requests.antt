-- Requests in a dialog (RFC 3261 section 12.2.1.1).
use Rattle.std.specs.Prelude.{◌≡◌, ◌≤◌, ℕ, List, ◌++◌, ◌∷◌, [], length, codes, IsTrue}
use Rattle.std.specs.List.{list_all}
use Rattle.sip_uri.specs.declared.uri.NameAddr.{NameAddr}
use Rattle.sip_uri.specs.NameAddr.{name_addr_text}
use Rattle.sip_message.specs.declared.headers.Header.{Header}
use Rattle.sip_message.specs.declared.message.Parts.{Parts}
use Rattle.sip_message.specs.declared.message.Request.{Request}
use Rattle.sip_message.specs.declared.start.Start.TheVariants.{Asking}
use Rattle.sip_message.specs.declared.via.Via.{Via}
use Rattle.sip_message.specs.Contact.{contacts_of, contact_need}
use Rattle.sip_message.specs.CSeq.{max_cseq}
use Rattle.sip_message.specs.Grammar.{SaysContact, SaysType}
use Rattle.sip_message.specs.Lookup.{values_named}
use Rattle.sip_message.specs.ContentLength.{max_content_length}
use Rattle.sip_message.specs.Written.{is_written}
use Rattle.sip_writing.specs.Requests.{name_with_tag, cseq_text, headers_with, IsReadVia, is_further}
use Rattle.dialogs.specs.declared.state.Dialog.{Dialog}

-- From and To: display and URI of the end, with its tag, which is left out where it is absent
abbrev pub our_name : Dialog → NameAddr
our_name d = name_with_tag d.ours.display d.ours.uri d.id.ours

abbrev pub their_name : Dialog → NameAddr
their_name d = name_with_tag d.theirs.display d.theirs.uri d.id.theirs

unfoldable pub parts_in : Dialog → Via → List ℕ → ℕ → Parts
parts_in d via method number = record {
  vias = via ∷ [];
  from = our_name d;
  to = their_name d;
  call_id = d.id.call_id;
  cseq = record { number = number; method = method };
  from_text = name_addr_text (our_name d);
  to_text = name_addr_text (their_name d);
  cseq_text = cseq_text number method;
}

-- a request to the target, with this many hops, and with further header fields and a body
unfoldable pub request_in : Dialog → Via → List ℕ → ℕ → ℕ → List Header → List ℕ → Request
request_in d via method number hops further body = record {
  method = method;
  uri = d.target;
  parts = parts_in d via method number;
  max_forwards = hops;
  headers = headers_with hops (parts_in d via method number) ++ further;
  body = body;
}

-- an ACK is written so, and has the number of its INVITE (section 13.2.2.4)
abbrev pub ack_text : List ℕ
ack_text = codes "ACK"

-- what a request of this method and number may have besides what the dialog says, so that it is read again
pub record MayHave (d : Dialog) (via : Via) (method : List ℕ) (number : ℕ) (further : List Header) (body : List ℕ) : Type 0 where
  pub low : number ≤ max_cseq
  pub read_via : IsReadVia via
  pub all_written : IsTrue (list_all is_written further)
  pub all_further : IsTrue (list_all is_further further)
  -- an INVITE needs a Contact, and an UPDATE may have one (section 8.1.1.8, RFC 3311 section 4)
  pub contact : SaysContact (contact_need (Asking (record { method = method; uri = d.target })) method) (contacts_of further)
  pub content_type : SaysType (values_named (codes "Content-Type") further)
  pub small : length body ≤ max_content_length
