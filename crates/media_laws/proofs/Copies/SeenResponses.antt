-- What a trace sees of a response that was read, next to the request that it answers (RFC 3261 section 17.1.3).
use Rattle.std.proofs.Common.{◌≡◌, ◌∙◌, ℕ, ◌&&◌, Bool, true, false, not, ◌||◌, List, [], codes, nat_le, nat_lt, cond, ltb-true, Option, None, refl, ap, sym, Some, unwrap_or}
use Rattle.std.specs.Prelude.{IsTrue, nat_eq}
use Rattle.std.specs.Cmp.Lexicographic.{bytes_decides, pointwise}
use Rattle.std.proofs.lemmas.Bool.{and_parts, false_from_ne_true, false≢true, lt-leb, or_parts}
use Rattle.sip_uri.specs.Binding.{same_text}
use Rattle.sip_message.specs.declared.message.Message.TheVariants as Kinds
use Rattle.sip_message.specs.declared.message.Parts.{Parts}
use Rattle.sip_message.specs.declared.message.Response.{Response}
use Rattle.sip_message.specs.declared.words.Class.TheVariants.{Failure, Provisional, Success}
use Rattle.sip_message.specs.Words.{class_of, tag_text, tag_value, top_branch}
use Rattle.transaction_machines.specs.Machines.{is_server}
use Rattle.transactions.specs.declared.transaction.Transaction.{Transaction}
use Rattle.transactions.specs.Matching.{is_reply, is_same_call, keeps_to_tag}
use Rattle.transactions.specs.Slots.{is_answered}
use Rattle.call_rules.specs.Speaking.{may_offer}
use Rattle.call_trace.specs.declared.datagram.Kind.TheVariants as kinds
use Rattle.call_trace.specs.declared.datagram.Message.{Message}
use Rattle.call_trace.specs.Events.{is_calm}
use Rattle.call_trace.specs.Messages.{is_final, is_listed, offering}
use Rattle.trace_reading.specs.Message.{branch_text, trace_message}
use Rattle.message_laws.proofs.StandingCalls.Reaching.{response_method}

-- ---- a response that was read

pub sees_kind : (bytes : List ℕ) (r : Response) → (trace_message bytes (Kinds.Response r)).kind ≡ kinds.Response r.status
unfolding trace_message
sees_kind bytes r = refl

pub sees_method : (bytes : List ℕ) (r : Response) → (trace_message bytes (Kinds.Response r)).method ≡ r.parts.cseq.method
unfolding trace_message
sees_method bytes r = refl

pub sees_branch : (bytes : List ℕ) (r : Response) → (trace_message bytes (Kinds.Response r)).branch ≡ branch_text r.parts.vias
unfolding trace_message
sees_branch bytes r = refl

pub sees_from : (bytes : List ℕ) (r : Response) → (trace_message bytes (Kinds.Response r)).from_tag ≡ tag_text r.parts.from.params
unfolding trace_message
sees_from bytes r = refl

-- ---- the request of which it is one

text_is : (a b : Option (List ℕ)) → same_text a b ≡ true → a ≡ b
text_is None None h = refl
text_is (Some a) (Some b) h = ap Some ((bytes_decides a b).0 h)
text_is None (Some b) h = absurd (false≢true h)
text_is (Some a) None h = absurd (false≢true h)

own_reply : (parts : Parts) (t : Transaction) → is_answered parts (Some t) ≡ true → is_reply parts t.parts ≡ true
unfolding is_answered
own_reply parts t h = (and_parts (not (is_server t.state)) (is_reply parts t.parts) h).1

agree : (a b : Parts) → is_reply a b ≡ true → (same_text (top_branch a.vias) (top_branch b.vias) ≡ true) × (is_same_call a b ≡ true)
unfolding is_reply
agree a b h = and_parts _ _ (and_parts _ (keeps_to_tag a b) h).0

branch_is : (parts : Parts) (t : Transaction) → is_answered parts (Some t) ≡ true → top_branch parts.vias ≡ top_branch t.parts.vias
branch_is parts t h = text_is (top_branch parts.vias) (top_branch t.parts.vias) (agree parts t.parts (own_reply parts t h)).0

from_is : (parts : Parts) (t : Transaction) → is_answered parts (Some t) ≡ true → tag_value parts.from.params ≡ tag_value t.parts.from.params
from_is parts t h =
    text_is (tag_value parts.from.params) (tag_value t.parts.from.params) (and_parts _ _ (and_parts _ _ (and_parts _ _ (agree parts t.parts (own_reply parts t h)).1).0).0).1

-- its branch, and the tag of its From
pub same_branch : (bytes : List ℕ) (r : Response) (t : Transaction) → is_answered r.parts (Some t) ≡ true → (trace_message bytes (Kinds.Response r)).branch ≡ branch_text t.parts.vias
same_branch bytes r t h = sees_branch bytes r ∙ ap (λ o. unwrap_or o []) (branch_is r.parts t h)

pub same_from : (bytes : List ℕ) (r : Response) (t : Transaction) → is_answered r.parts (Some t) ≡ true → (trace_message bytes (Kinds.Response r)).from_tag ≡ tag_text t.parts.from.params
same_from bytes r t h = sees_from bytes r ∙ ap (λ o. unwrap_or o []) (from_is r.parts t h)

-- ---- what is calm

calm_by : (final listed : Bool) → (final ≡ false) → not (final && listed) ≡ true
calm_by true listed e = absurd (false≢true (sym e))
calm_by false listed e = refl

unlisted_by : (final listed : Bool) → listed ≡ false → not (final && listed) ≡ true
unlisted_by true true e = absurd (false≢true (sym e))
unlisted_by true false e = refl
unlisted_by false listed e = refl

-- one that is not final
pub early_calm : (m : Message) → is_final m.kind ≡ false → IsTrue (is_calm offering m)
early_calm m e = calm_by (is_final m.kind) (is_listed offering m.method) e

early_by : (status : ℕ) (a b : Bool) → nat_lt status 200 ≡ a → cond a Provisional (cond b Success Failure) ≡ Provisional → nat_le 200 status ≡ false
early_by status true b is e = lt-leb 200 status (ltb-true status 200 is)
early_by status false true is e = absurd cc
early_by status false false is e = absurd cc

pub provisional_calm : (bytes : List ℕ) (r : Response) → class_of r.status ≡ Provisional → IsTrue (is_calm offering (trace_message bytes (Kinds.Response r)))
provisional_calm bytes r e =
    early_calm (trace_message bytes (Kinds.Response r)) (ap is_final (sees_kind bytes r) ∙ early_by r.status (nat_lt r.status 200) (nat_lt r.status 300) refl e)

-- one to a request that offers nothing
other_name : (name method : List ℕ) → pointwise nat_eq method name ≡ false → pointwise nat_eq name method ≡ false
other_name name method e =
    false_from_ne_true (pointwise nat_eq name method) (λ same. false≢true (sym e ∙ (bytes_decides method name).1 (sym ((bytes_decides name method).0 same))))

unlisted : (method : List ℕ) → (pointwise nat_eq method (codes "INVITE") || pointwise nat_eq method (codes "UPDATE")) ≡ false → is_listed offering method ≡ false
unlisted method e =
    let both = or_parts (pointwise nat_eq method (codes "INVITE")) (pointwise nat_eq method (codes "UPDATE")) e in
    rw (other_name (codes "INVITE") method both.0, other_name (codes "UPDATE") method both.1) refl

pub unoffered : (parts : Parts) → may_offer parts ≡ false → is_listed offering parts.cseq.method ≡ false
unoffered parts e = unlisted parts.cseq.method e

pub other_calm : (bytes : List ℕ) (r : Response) (t : Transaction) → is_answered r.parts (Some t) ≡ true → may_offer t.parts ≡ false → IsTrue (is_calm offering (trace_message bytes (Kinds.Response r)))
other_calm bytes r t h none =
    let m = trace_message bytes (Kinds.Response r) in
    unlisted_by (is_final m.kind) (is_listed offering m.method) (ap (is_listed offering) (sees_method bytes r ∙ response_method r.parts t h) ∙ unoffered t.parts none)
