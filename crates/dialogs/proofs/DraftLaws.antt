-- A request in a sound dialog is of the form that is written and read again, by the words of the specs alone.
use Rattle.std.proofs.Common.{◌≡◌, ℕ, ◌≤◌, List, Ok, refl, subst}
use Rattle.std.specs.Prelude.{IsTrue}
use denote.Ref.{Bor}
use Rattle.text.specs.Class.{is_run_of, is_token_byte}
use Rattle.sip_message.specs.declared.error.MessageError.{MessageError}
use Rattle.sip_message.specs.declared.headers.Header.{Header}
use Rattle.sip_message.specs.declared.message.Message.TheVariants as Kinds
use Rattle.sip_message.specs.declared.message.Request.{Request}
use Rattle.sip_message.specs.declared.via.Via.{Via}
use Rattle.sip_writing.specs.declared.requests.Draft.{Draft}
use Rattle.sip_writing.specs.Requests.{parts_of, request_of}
use Rattle.sip_writing.specs.WritingMessage.{IsWrittenMessage}
use Rattle.sip_writing.proofs.RequestTrip.{written_at}
use Rattle.dialogs.specs.declared.state.Dialog.{Dialog}
use Rattle.dialogs.specs.Requests.{our_name, parts_in, request_in, their_name, MayHave}
use Rattle.dialogs.specs.Sound.{IsSound}
use Rattle.dialogs.proofs.SendLaws.{written_from}

lent : {X : Type 0} → X → Bor X
lent x = record { ref_ptr = (0, 0); now = x }

module _ (d : Dialog) (via : Via) (method : List ℕ) (number hops : ℕ) (further : List Header) (body : List ℕ) where
  abbrev draft : Draft
  draft = record {
    method = lent method;
    uri = lent d.target;
    via = lent via;
    max_forwards = hops;
    from = lent (our_name d);
    to = lent (their_name d);
    call_id = lent d.id.call_id;
    number = number;
    further = lent further;
    body = lent body;
  }

  draft_says : request_of draft ≡ request_in d via method number hops further body
  unfolding lent request_of parts_of request_in parts_in
  draft_says = refl

  pub request_stands : hops ≤ 255 → IsTrue (is_run_of is_token_byte method) → IsSound d → MayHave d via method number further body
      → IsWrittenMessage (Kinds.Request (request_in d via method number hops further body))
  unfolding lent
  request_stands low token sound has =
      subst (λ (r : Request). IsWrittenMessage (Kinds.Request r)) draft_says
      (written_from {E = MessageError} (Ok (request_of draft)) draft d via method number further body
      (record { same_method = refl; same_uri = refl; same_via = refl; same_from = refl; same_to = refl; same_call_id = refl; same_number = refl; same_further = refl; same_body = refl })
      (written_at {E = MessageError} (Ok (request_of draft)) draft low refl) token sound has)
