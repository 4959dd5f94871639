-- A request with the branch of an INVITE is of the form that is written and read again, and so is the Via of the
-- server's own: by the words of the specs alone.
use Rattle.std.proofs.Common.{◌≡◌, ℕ, ◌≤◌, List, [], length, Ok, refl, subst, arith}
use Rattle.std.specs.Prelude.{IsTrue, slice_index}
use denote.Ref.{Bor}
use Rattle.text.specs.Class.{is_run_of, is_token_byte}
use Rattle.sip_uri.specs.declared.uri.Addr.{Addr}
use Rattle.sip_uri.specs.declared.uri.NameAddr.{NameAddr}
use Rattle.sip_uri.specs.declared.uri.Uri.{Uri}
use Rattle.sip_message.specs.declared.error.MessageError.{MessageError}
use Rattle.sip_message.specs.declared.headers.Header.{Header}
use Rattle.sip_message.specs.declared.message.Message.TheVariants as Kinds
use Rattle.sip_message.specs.declared.message.Parts.{Parts}
use Rattle.sip_message.specs.declared.message.Request.{Request}
use Rattle.sip_message.specs.declared.start.Start.TheVariants.{Asking}
use Rattle.sip_message.specs.declared.via.Via.{Via}
use Rattle.sip_message.specs.Contact.{contact_need}
use Rattle.sip_message.specs.Grammar.{SaysContact}
use Rattle.sip_writing.specs.declared.requests.Draft.{Draft}
use Rattle.sip_writing.specs.Requests.{parts_of, request_of, server_via, IsEnd, IsReadVia}
use Rattle.sip_writing.specs.WritingMessage.{IsWrittenMessage}
use Rattle.sip_writing.proofs.RequestTrip.{written_at}
use Rattle.sip_writing.proofs.ServerViaTrip.{read_at}
use Rattle.transactions.specs.SameBranch.{parts_like, request_like, IsSoundInvite}

lent : {X : Type 0} → X → Bor X
lent x = record { ref_ptr = (0, 0); now = x }

-- ---- the draft of a request with the branch of an INVITE

module _ (uri : Uri) (via : Via) (invite : Parts) (to : NameAddr) (method : List ℕ) where
  abbrev branch_draft : Draft
  branch_draft = record {
    method = lent method;
    uri = lent uri;
    via = lent via;
    max_forwards = 70;
    from = lent invite.from;
    to = lent to;
    call_id = lent invite.call_id;
    number = invite.cseq.number;
    further = lent [];
    body = lent [];
  }

  branch_says : request_of branch_draft ≡ request_like uri via invite to method
  unfolding lent request_of parts_of request_like parts_like
  branch_says = refl

  pub like_stands : IsTrue (is_run_of is_token_byte method) → SaysContact (contact_need (Asking (record { method = method; uri = uri })) method) [] → IsSoundInvite uri invite → IsReadVia via
      → IsEnd to → IsWrittenMessage (Kinds.Request (request_like uri via invite to method))
  unfolding lent
  like_stands token contact sound reads end =
      subst (λ (r : Request). IsWrittenMessage (Kinds.Request r)) branch_says
      (written_at {E = MessageError} (Ok (request_of branch_draft)) branch_draft (omega arith) refl
      (record {
        method = token;
        uri_text = sound.uri_text;
        uri = sound.reads;
        via = reads;
        from = sound.from;
        from_tag = sound.from_tag;
        to = end;
        call_id = sound.call_id;
        call_id_value = sound.call_id_value;
        number = sound.number;
        further_written = refl;
        further = refl;
        contact = contact;
        content_type = tt;
        body = omega arith;
      }))

-- ---- the Via of the server's own

pub via_stands : (server : Addr) (token : List ℕ) → ((i : ℕ) → slice_index server.ip i ≤ 255) → length server.ip ≡ 4 → 1 ≤ server.port → server.port ≤ 65535
    → IsTrue (is_run_of is_token_byte token) → IsReadVia (server_via server token)
via_stands server token octets four low high run =
    read_at {E = MessageError} (Ok (server_via server token)) server token (record { octets = octets; port = high }) four refl run low
