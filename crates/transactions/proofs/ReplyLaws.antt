-- An response that is taken replies to a request.
use Rattle.std.proofs.Common.{◌≡◌, ◌↔◌, ℕ, true, false, not, List, [], ◌∷◌, Option, Some, None, position, refl, ap, sym, subst, ◌∙◌}
use Rattle.std.specs.Prelude.{IsSome}
use Rattle.std.specs.Cmp.Lexicographic.{bytes_decides}
use Rattle.std.proofs.lemmas.Bool.{false≢true, and_parts, and_from, not-true, eqb-true, eq-eqb}
use Rattle.std.proofs.lemmas.List.Quantifiers.{position-Some}
use Rattle.sip_uri.specs.Binding.{same_text}
use Rattle.sip_message.specs.declared.message.Message.TheVariants as Kinds
use Rattle.sip_message.specs.declared.message.Parts.{Parts}
use Rattle.sip_message.specs.declared.message.Response.{Response}
use Rattle.sip_message.specs.declared.words.Class.{Class}
use Rattle.transaction_machines.specs.declared.input.Input.TheVariants as inputs
use Rattle.transactions.specs.declared.outcome.Verdict.TheVariants as verdicts
use Rattle.transaction_machines.specs.declared.step.Sending.{Sending}
use Rattle.transaction_machines.specs.declared.step.Told.{Told}
use Rattle.transaction_machines.specs.declared.step.Told.TheVariants.{Silent, Up, TimedOut, Ended}
use Rattle.transaction_machines.specs.declared.step.Step.{Step}
use Rattle.transactions.specs.declared.transaction.Transaction.{Transaction}
use Rattle.sip_message.specs.declared.via.Via.{Via}
use Rattle.sip_message.specs.Words.{class_of, top_branch, tag_value, value_found}
use Rattle.sip_writing.specs.Replies as writing
use Rattle.sip_uri.specs.declared.uri.Param.{Param}
use Rattle.transaction_machines.specs.Machines.{row_of, is_server}
use Rattle.transactions.specs.Matching.{keeps_tag, is_reply, RepliesTo}
use Rattle.transactions.specs.Slots.{at, is_answered}
use Rattle.transactions.specs.Contents.{Contents, reception_at, reception_by, reception_of, response_reception, response_input, verdict_by, ack_at}
use Rattle.transactions.specs.Replies.{RepliesWhereTaken}
use Rattle.transactions.proofs.OnceLaws.{own_text, own_bytes}

-- ---- the test is the relation

pub text_is : (a b : Option (List ℕ)) → same_text a b ≡ true → a ≡ b
text_is None None h = refl
text_is (Some a) (Some b) h = ap Some ((bytes_decides a b).0 h)
text_is None (Some b) h = absurd (false≢true h)
text_is (Some a) None h = absurd (false≢true h)

tag_is : (response request : Option (List ℕ)) → keeps_tag response request ≡ true → IsSome request → response ≡ request
tag_is response None h some = absurd (false≢true some)
tag_is response (Some tag) h some = text_is response (Some tag) h

tag_kept : (response request : Option (List ℕ)) → (IsSome request → response ≡ request) → keeps_tag response request ≡ true
tag_kept response None h = refl
tag_kept response (Some tag) h = subst (λ a. same_text a (Some tag) ≡ true) (sym (h refl)) (own_bytes tag)

reply_is : (response request : Parts) → is_reply response request ≡ true → RepliesTo response request
unfolding is_reply
reply_is response request h =
    let ends = and_parts _ _ h in
    let starts = and_parts _ _ ends.0 in
    let methods = and_parts _ _ starts.1 in
    let numbers = and_parts _ _ methods.0 in
    let calls = and_parts _ _ numbers.0 in
    record {
      branch = text_is (top_branch response.vias) (top_branch request.vias) starts.0;
      call_id = (bytes_decides response.call_id request.call_id).0 calls.0;
      from_tag = text_is (tag_value response.from.params) (tag_value request.from.params) calls.1;
      number = eqb-true response.cseq.number request.cseq.number numbers.1;
      method = (bytes_decides response.cseq.method request.cseq.method).0 methods.1;
      to_tag = tag_is (tag_value response.to.params) (tag_value request.to.params) ends.1;
    }

same_text_from : (a b : Option (List ℕ)) → a ≡ b → same_text a b ≡ true
same_text_from a b e = subst (λ c. same_text a c ≡ true) e (own_text a)

reply_from : (response request : Parts) → RepliesTo response request → is_reply response request ≡ true
unfolding is_reply
reply_from response request h =
    and_from _ _
    (and_from _ _ (same_text_from (top_branch response.vias) (top_branch request.vias) h.branch)
    (and_from _ _
    (and_from _ _
    (and_from _ _ ((bytes_decides response.call_id request.call_id).1 h.call_id) (same_text_from (tag_value response.from.params) (tag_value request.from.params) h.from_tag))
    (eq-eqb response.cseq.number request.cseq.number h.number))
    ((bytes_decides response.cseq.method request.cseq.method).1 h.method)))
    (tag_kept (tag_value response.to.params) (tag_value request.to.params) h.to_tag)

pub reply_decides : (response request : Parts) → (is_reply response request ≡ true) ↔ RepliesTo response request
reply_decides response request = (reply_is response request, reply_from response request)

-- ---- what is written in response to a request replies to it

branch_value : (vias : List Via) → top_branch vias ≡ value_found (writing.top_branch vias)
branch_value [] = refl
branch_value (via ∷ vias) = refl

to_value : (status : ℕ) (tag : List ℕ) (response request : Option Param) → response ≡ writing.answered_tag status request tag → IsSome (value_found request) → value_found response ≡ value_found request
to_value status tag response None e some = absurd (false≢true some)
to_value status tag response (Some own) e some = ap value_found e

pub written_replies : (response request : Parts) (status : ℕ) (tag : List ℕ) → writing.Replies response request status tag → RepliesTo response request
written_replies response request status tag h = record {
  branch = branch_value response.vias ∙ ap value_found h.branch ∙ sym (branch_value request.vias);
  call_id = h.call_id;
  from_tag = ap value_found h.from_tag;
  number = ap (λ c. c.number) h.cseq;
  method = ap (λ c. c.method) h.cseq;
  to_tag = to_value status tag (writing.tag_of response.to.params) (writing.tag_of request.to.params) h.to_tag;
}

-- ---- who is taken

before_by : (id : ℕ) (t : Transaction) (class : Class) (ack : Option (List ℕ)) (line : Option Step)
    → (reception_by id t (inputs.Response class) ack line).before ≡ Some t.state
before_by id t class ack None = refl
before_by id t class ack (Some step) = refl

up_told : (id up : ℕ) (class : Class) (sending : Sending) (told : Told) → verdict_by id (inputs.Response class) sending told ≡ verdicts.Up up → up ≡ id
up_told id up class sending Up e = cc
up_told id up class sending Silent e = absurd (cc)
up_told id up class sending TimedOut e = absurd (cc)
up_told id up class sending Ended e = absurd (cc)

up_by : (id : ℕ) (t : Transaction) (class : Class) (ack : Option (List ℕ)) (line : Option Step) (up : ℕ)
    → (reception_by id t (inputs.Response class) ack line).verdict ≡ verdicts.Up up → up ≡ id
up_by id t class ack None up e = absurd (cc)
up_by id t class ack (Some step) up e = up_told id up class step.send step.told e

answered_parts : (response : Parts) (t : Transaction) → is_answered response (Some t) ≡ true → (is_server t.state ≡ false) × (is_reply response t.parts ≡ true)
unfolding is_answered
answered_parts response t h =
    let both = and_parts (not (is_server t.state)) (is_reply response t.parts) h in
    (not-true (is_server t.state) both.0, both.1)

abbrev Finds : Contents → Response → Option ℕ → Type 0
Finds table r number = RepliesWhereTaken table r.parts (response_reception table r number)

taken_at : (table : Contents) (r : Response) (id : ℕ) (o : Option Transaction) → at table.slots id ≡ o → is_answered r.parts o ≡ true
    → RepliesWhereTaken table r.parts (reception_at id o (response_input r) (ack_at o r))
taken_at table r id None there h taken = absurd taken
taken_at table r id (Some t) there h taken =
    let own = answered_parts r.parts t h in
    let line = row_of t.state (response_input r) in
    let ack = ack_at (Some t) r in (
      id,
      t,
      record {
        stands = there;
        client = own.0;
        request = reply_is r.parts t.parts own.1;
        before = before_by id t (class_of r.status) ack line;
        number = up_by id t (class_of r.status) ack line;
      },
    )

taken_by : (table : Contents) (r : Response) (number : Option ℕ) → position (is_answered r.parts) table.slots ≡ number → Finds table r number
taken_by table r None e taken = absurd taken
taken_by table r (Some id) e taken =
    taken_at table r id (at table.slots id) refl (position-Some (is_answered r.parts) table.slots id None e).1 taken

pub replies_where_taken : (table : Contents) (r : Response) → RepliesWhereTaken table r.parts (reception_of table (Kinds.Response r))
unfolding reception_of
replies_where_taken table r = taken_by table r (position (is_answered r.parts) table.slots) refl
