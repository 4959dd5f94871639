-- A request with the branch of a sound INVITE is of the form that is written and read again.
use Rattle.std.proofs.Common.{◌≡◌, ℕ, List, [], Result, Ok, Err, refl, sym, subst, arith}
use Rattle.std.specs.Prelude.{IfOk, IsTrue}
use Rattle.text.specs.Class.{is_run_of, is_token_byte}
use Rattle.sip_uri.specs.declared.uri.NameAddr.{NameAddr}
use Rattle.sip_uri.specs.declared.uri.Uri.{Uri}
use Rattle.sip_message.specs.declared.message.Message.TheVariants as Kinds
use Rattle.sip_message.specs.declared.message.Parts.{Parts}
use Rattle.sip_message.specs.declared.message.Request.{Request}
use Rattle.sip_message.specs.declared.start.Start.TheVariants.{Asking}
use Rattle.sip_message.specs.declared.via.Via.{Via}
use Rattle.sip_message.specs.Contact.{contact_need}
use Rattle.sip_message.specs.Grammar.{SaysContact}
use Rattle.sip_writing.specs.declared.requests.Draft.{Draft}
use Rattle.sip_writing.specs.Requests as writing
use Rattle.sip_writing.specs.Requests.{IsReadVia, IsEnd}
use Rattle.sip_writing.specs.WritingMessage.{IsWrittenMessage}
use Rattle.transactions.specs.SameBranch.{IsSoundInvite}

-- a draft that says what the INVITE says
pub record Says (draft : Draft) (uri : Uri) (via : Via) (invite : Parts) (to : NameAddr) (method : List ℕ) : Type 0 where
  pub same_method : draft.method.now ≡ method
  pub same_uri : draft.uri.now ≡ uri
  pub same_via : draft.via.now ≡ via
  pub same_from : draft.from.now ≡ invite.from
  pub same_to : draft.to.now ≡ to
  pub same_call_id : draft.call_id.now ≡ invite.call_id
  pub same_number : draft.number ≡ invite.cseq.number
  pub same_further : draft.further.now ≡ []
  pub same_body : draft.body.now ≡ []

-- a request of this method needs no Contact
abbrev pub NeedsNone : Uri → List ℕ → Type 0
NeedsNone uri method = SaysContact (contact_need (Asking (record { method = method; uri = uri })) method) []

sound_draft : (draft : Draft) (uri : Uri) (via : Via) (invite : Parts) (to : NameAddr) (method : List ℕ) → Says draft uri via invite to method
    → IsTrue (is_run_of is_token_byte method) → NeedsNone uri method → IsSoundInvite uri invite → IsReadVia via → IsEnd to → writing.IsSound draft
sound_draft draft uri via invite to method e token none sound read end = record {
  method = rw e.same_method token;
  uri_text = sound.uri_text;
  uri = rw e.same_uri sound.reads;
  via = rw e.same_via read;
  from = rw e.same_from sound.from;
  from_tag = rw e.same_from sound.from_tag;
  to = rw e.same_to end;
  call_id = rw e.same_call_id sound.call_id;
  call_id_value = rw e.same_call_id sound.call_id_value;
  number = rw e.same_number sound.number;
  further_written = rw e.same_further refl;
  further = rw e.same_further refl;
  contact = rw (e.same_method, e.same_further) none;
  content_type = rw e.same_further tt;
  body = rw e.same_body (omega arith);
}

pub written_from : {E : Type 0} (r : Result Request E) (draft : Draft) (uri : Uri) (via : Via) (invite : Parts) (to : NameAddr) (method : List ℕ)
    → Says draft uri via invite to method → IfOk r (λ x. writing.IsSound draft → IsWrittenMessage (Kinds.Request x))
    → IfOk r (λ x. IsTrue (is_run_of is_token_byte method) → NeedsNone uri method → IsSoundInvite uri invite → IsReadVia via → IsEnd to → IsWrittenMessage (Kinds.Request x))
written_from (Ok x) draft uri via invite to method e h = λ token none sound read end. h (sound_draft draft uri via invite to method e token none sound read end)
written_from (Err x) draft uri via invite to method e h = tt

-- the same, of a method that needs no Contact
pub written_of : {E : Type 0} (r : Result Request E) (uri : Uri) (via : Via) (invite : Parts) (given to : NameAddr) (method : List ℕ)
    → IsTrue (is_run_of is_token_byte method) → NeedsNone uri method → given ≡ to
    → IfOk r (λ x. IsTrue (is_run_of is_token_byte method) → NeedsNone uri method → IsSoundInvite uri invite → IsReadVia via → IsEnd given → IsWrittenMessage (Kinds.Request x))
    → IfOk r (λ x. IsSoundInvite uri invite → IsReadVia via → IsEnd to → IsWrittenMessage (Kinds.Request x))
written_of (Ok x) uri via invite given to method token none e h = λ sound read end. h token none sound read (subst (λ n. IsEnd n) (sym e) end)
written_of (Err x) uri via invite given to method token none e h = tt
