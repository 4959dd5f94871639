-- A request in a sound dialog is of the form that is written and read again.
use Rattle.std.proofs.Common.{◌≡◌, ◌≤◌, ℕ, true, List, Result, Ok, Err, refl, sym, subst}
use Rattle.std.specs.Prelude.{IfOk, IsTrue}
use Rattle.std.specs.List.{list_all}
use Rattle.text.specs.Class.{is_run_of, is_token_byte}
use Rattle.sip_message.specs.declared.headers.Header.{Header}
use Rattle.sip_message.specs.declared.message.Message.TheVariants as Kinds
use Rattle.sip_message.specs.declared.message.Request.{Request}
use Rattle.sip_message.specs.declared.via.Via.{Via}
use Rattle.sip_writing.specs.declared.requests.Draft.{Draft}
use Rattle.sip_writing.specs.Requests as writing
use Rattle.sip_writing.specs.Requests.{name_with_tag, IsEnd}
use Rattle.sip_writing.specs.WritingMessage.{IsWrittenMessage}
use Rattle.sip_writing.proofs.TagTrip.{run_is, tag_stands}
use Rattle.dialogs.specs.declared.state.Dialog.{Dialog}
use Rattle.dialogs.specs.declared.state.Party.{Party}
use Rattle.dialogs.specs.Requests.{our_name, their_name, MayHave}
use Rattle.dialogs.specs.Sound.{IsReadParty, IsSound}

end_is : (party : Party) (tag : List ℕ) → IsReadParty party → list_all is_token_byte tag ≡ true → IsEnd (name_with_tag party.display party.uri tag)
end_is party tag h token = record {
  read = record { text = h.text; params = h.params; reads = h.reads; clean = h.clean };
  tag = tag;
  token = token;
  tagged = refl;
}

-- a draft that says what the dialog and its extras say
pub record Says (draft : Draft) (d : Dialog) (via : Via) (method : List ℕ) (number : ℕ) (further : List Header) (body : List ℕ) : Type 0 where
  pub same_method : draft.method.now ≡ method
  pub same_uri : draft.uri.now ≡ d.target
  pub same_via : draft.via.now ≡ via
  pub same_from : draft.from.now ≡ our_name d
  pub same_to : draft.to.now ≡ their_name d
  pub same_call_id : draft.call_id.now ≡ d.id.call_id
  pub same_number : draft.number ≡ number
  pub same_further : draft.further.now ≡ further
  pub same_body : draft.body.now ≡ body

sound_draft : (draft : Draft) (d : Dialog) (via : Via) (method : List ℕ) (number : ℕ) (further : List Header) (body : List ℕ) → Says draft d via method number further body
    → IsTrue (is_run_of is_token_byte method) → IsSound d → MayHave d via method number further body → writing.IsSound draft
sound_draft draft d via method number further body e token sound has = record {
  method = rw e.same_method token;
  uri_text = sound.target.text;
  uri = rw e.same_uri sound.target.reads;
  via = rw e.same_via has.read_via;
  from = rw e.same_from (end_is d.ours d.id.ours sound.ours (run_is d.id.ours sound.our_tag));
  from_tag = rw e.same_from (tag_stands d.id.ours sound.our_tag);
  to = rw e.same_to (end_is d.theirs d.id.theirs sound.theirs sound.their_tag);
  call_id = rw e.same_call_id sound.call_id;
  call_id_value = rw e.same_call_id sound.call_id_value;
  number = rw e.same_number has.low;
  further_written = rw e.same_further has.all_written;
  further = rw e.same_further has.all_further;
  contact = rw (e.same_method, e.same_further) has.contact;
  content_type = rw e.same_further has.content_type;
  body = rw e.same_body has.small;
}

pub written_from : {E : Type 0} (r : Result Request E) (draft : Draft) (d : Dialog) (via : Via) (method : List ℕ) (number : ℕ) (further : List Header) (body : List ℕ)
    → Says draft d via method number further body → IfOk r (λ x. writing.IsSound draft → IsWrittenMessage (Kinds.Request x))
    → IfOk r (λ x. IsTrue (is_run_of is_token_byte method) → IsSound d → MayHave d via method number further body → IsWrittenMessage (Kinds.Request x))
written_from (Ok x) draft d via method number further body e h = λ token sound has. h (sound_draft draft d via method number further body e token sound has)
written_from (Err x) draft d via method number further body e h = tt
