-- What a trace sees of the messages that a call says, in the words of its moves.
use Rattle.std.proofs.Common.{◌≡◌, ◌∙◌, ℕ, true, false, not, ◌&&◌, List, Option, Some, if◌then◌else◌, is_some, refl, ap, sym, subst}
use Rattle.std.specs.Prelude.{IsTrue}
use Rattle.sip_message.specs.declared.message.Parts.{Parts}
use Rattle.sip_message.specs.Words.{tag_text}
use Rattle.sdp.specs.declared.description.Description.{Description}
use Rattle.dialogs.specs.declared.state.Dialog.{Dialog as LegDialog}
use Rattle.call_trace.specs.declared.datagram.Dialog.{Dialog}
use Rattle.call_trace.specs.declared.datagram.Direction.TheVariants.{Sent, Taken}
use Rattle.call_trace.specs.declared.datagram.Kind.{Kind}
use Rattle.call_trace.specs.declared.datagram.Kind.TheVariants.{Request, Response}
use Rattle.call_trace.specs.declared.datagram.Message.{Message}
use Rattle.call_trace.specs.Dialogs.{dialog_of, is_ours_in_from}
use Rattle.call_trace.specs.Events.{dialog_sent, is_plain, taken_at}
use Rattle.call_trace.specs.Messages.{Replies, cancel, is_answer, is_listed, is_method, is_offer, is_ok, is_request, is_request_of, is_success, offering}
use Rattle.trace_reading.specs.Message.{dialog_named}
use Rattle.message_laws.specs.Seeing.{SeesRequest, SeesResponse, response_tag}
use Rattle.message_laws.specs.Messages.{IsRequestOf}
use Rattle.media_laws.specs.Said.{IsReplyTag}

-- ---- requests that are sent

abbrev named_by : Kind → Message → Dialog
named_by k m = record { call_id = m.call_id; ours = if is_ours_in_from Sent k then m.from_tag else m.to_tag; theirs = if is_ours_in_from Sent k then m.to_tag else m.from_tag }

abbrev named_taken : Kind → Message → Dialog
named_taken k m = record { call_id = m.call_id; ours = if is_ours_in_from Taken k then m.from_tag else m.to_tag; theirs = if is_ours_in_from Taken k then m.to_tag else m.from_tag }

abbrev pub dialog : List ℕ → List ℕ → List ℕ → Dialog
dialog call_id ours theirs = record { call_id = call_id; ours = ours; theirs = theirs }

pub same_dialog : (a b c x y z : List ℕ) → a ≡ x → b ≡ y → c ≡ z → dialog a b c ≡ dialog x y z
same_dialog a b c x y z e f g = ap (λ v. dialog v b c) e ∙ (ap (λ v. dialog x v c) f ∙ ap (λ v. dialog x y v) g)

pub request_dialog : (d : LegDialog) (token : List ℕ) (n : ℕ) (name : List ℕ) (body : Option Description) (m : Message) → SeesRequest d token n name body m → dialog_sent m ≡ dialog_named d.id
request_dialog d token n name body m h = ap (λ k. named_by k m) h.kind ∙ same_dialog m.call_id m.from_tag m.to_tag d.id.call_id d.id.ours d.id.theirs h.call_id h.from_tag h.to_tag

pub request_of : (name : List ℕ) (m : Message) → m.kind ≡ Request → m.method ≡ name → IsTrue (is_method name name) → IsTrue (is_request_of name m)
request_of name m kind method same =
    let P : Kind → List ℕ → Type 0 = λ k v. IsTrue (is_request k && is_method name v) in
    subst (λ k. P k m.method) (sym kind) (subst (λ v. P Request v) (sym method) same)

-- a request with a description, of a method that may carry one
pub offer_of : (m : Message) (d : Description) (name : List ℕ) → m.kind ≡ Request → m.method ≡ name → m.description ≡ Some d → IsTrue (is_listed offering name) → IsTrue (is_offer offering m)
offer_of m d name kind method said listed =
    let P : Kind → List ℕ → Option Description → Type 0 = λ k v x. IsTrue ((is_request k && is_listed offering v) && is_some x) in
    subst (λ k. P k m.method m.description) (sym kind) (subst (λ v. P Request v m.description) (sym method) (subst (λ x. P Request name x) (sym said) (with_some (is_listed offering name) listed)))
  where
    with_some : (b : _) → IsTrue b → IsTrue (b && true)
    with_some true h = refl
    with_some false h = h

-- a CANCEL, and the 200 to one
pub cancel_plain : (m : Message) → m.kind ≡ Request → m.method ≡ cancel → IsTrue (is_plain offering m)
cancel_plain m kind method =
    let P : Kind → List ℕ → Type 0 = λ k v. IsTrue (is_plain offering (record m { kind = k; method = v })) in
    subst (λ k. P k m.method) (sym kind) (subst (λ v. P Request v) (sym method) refl)

pub okay_plain : (m : Message) (status : ℕ) → m.kind ≡ Response status → m.method ≡ cancel → IsTrue (is_plain offering m)
okay_plain m status kind method =
    let P : Kind → List ℕ → Type 0 = λ k v. IsTrue (is_plain offering (record m { kind = k; method = v })) in
    subst (λ k. P k m.method) (sym kind) (subst (λ v. P (Response status) v) (sym method) (no_success (is_success (Response status))))
  where
    no_success : (b : _) → IsTrue (not (b && false))
    no_success true = refl
    no_success false = refl

-- ---- responses that are sent

-- a response to the request with these parts replies to it
pub response_replies : (parts : Parts) (status : ℕ) (tag : List ℕ) (body : Option Description) (m q : Message) → IsRequestOf parts q → SeesResponse parts status tag body m → IsReplyTag (tag_text parts.to.params) (response_tag status parts tag)
    → Replies m q
response_replies parts status tag body m q asked h to_tag = record {
  response_kind = subst (λ k. IsTrue (not (is_request k))) (sym h.kind) refl;
  request_kind = subst (λ k. IsTrue (is_request k)) (sym asked.kind) refl;
  branch = h.branch ∙ sym asked.branch;
  call_id = h.call_id ∙ sym asked.call_id;
  from_tag = h.from_tag ∙ sym asked.from_tag;
  number = h.number ∙ sym asked.number;
  method = h.method ∙ sym asked.method;
  to_tag = subst (λ v. IsReplyTag v m.to_tag) (sym asked.to_tag) (subst (λ v. IsReplyTag (tag_text parts.to.params) v) (sym h.to_tag) to_tag);
}

pub answer_of : (m : Message) (d : Description) → m.kind ≡ Response 200 → m.description ≡ Some d → IsTrue (is_answer m)
answer_of m d kind said =
    let P : Kind → Option Description → Type 0 = λ k x. IsTrue (is_success k && is_some x) in
    subst (λ k. P k m.description) (sym kind) (subst (λ x. P (Response 200) x) (sym said) refl)

pub ok_of : (m : Message) → m.kind ≡ Response 200 → IsTrue (is_ok m.kind)
ok_of m kind = subst (λ k. IsTrue (is_ok k)) (sym kind) refl

-- ---- what is taken

-- a request with these parts names this dialog
pub taken_dialog : (parts : Parts) (m : Message) → IsRequestOf parts m → dialog_of (taken_at 0 m) ≡ dialog parts.call_id (tag_text parts.to.params) (tag_text parts.from.params)
taken_dialog parts m h =
    ap (λ k. named_taken k m) h.kind ∙ same_dialog m.call_id m.to_tag m.from_tag parts.call_id (tag_text parts.to.params) (tag_text parts.from.params) h.call_id h.to_tag h.from_tag
