-- A reply is one response, through the transaction that its request began.
use Rattle.std.proofs.Common.{◌≡◌, ℕ, List, [], ◌∷◌, ◌++◌, map, Option, None, option_map, Result, Ok, Err, refl}
use Rattle.sip_uri.specs.declared.uri.Addr.{Addr}
use Rattle.sip_message.specs.declared.headers.Header.{Header}
use Rattle.sip_message.specs.declared.message.Request.{Request}
use Rattle.sip_message.specs.declared.message.Response.{Response}
use Rattle.sip_writing.specs.Reply.{response_address}
use Rattle.registrar.specs.declared.binding.Binding.{Binding}
use Rattle.registrar.specs.declared.refusal.Refusal.{Refusal}
use Rattle.registrar.specs.Registrar.{PlanContents, answer_of as answer_of_register, plan_of, rules_of}
use Rattle.transactions.specs.declared.change.Entry.{Entry}
use Rattle.transactions.specs.Changes.{answer_of}
use Rattle.call_messages.specs.Messages.{contact}
use Rattle.responses.specs.Registering.{register_of}
use Rattle.responses.specs.Responding.{allow, contact_header, responds}
use Rattle.plans.specs.Office.{Office}
use Rattle.plans.specs.declared.rule.Reply.{Reply}
use Rattle.plans.specs.declared.rule.Reply.TheVariants as replies
use Rattle.plans.specs.declared.setting.Setting.{Setting}
use Rattle.plans.specs.CallRows.{okay_plan}
use Rattle.plans.specs.Plan.{Plan, sent_response}
use Rattle.plans.specs.Reasons.{status}
use Rattle.plans.specs.Replies.{fresh_tag, headers_of, refuses_for, registers, registers_by, reply_row, responds_in, response_tag_in}
use Rattle.plans.specs.declared.reason.Reason.{Reason}
use Rattle.plans.specs.declared.reason.Reason.TheVariants as reasons

pub record IsReply (begun : List Entry) (id : ℕ) (p : Plan) : Type 0 where
  pub to : Addr
  pub response : Response
  pub changes : p.changes ≡ begun ++ answer_of id response ∷ []
  pub sends : p.sends ≡ sent_response to response ∷ []

pub responds_reply : (s : Office) (e : Setting) (r : Request) (begun : List Entry) (id status : ℕ) (further : List Header) (registration : Option PlanContents)
    → IsReply begun id (responds_in s e r begun id status further registration)
responds_reply s e r begun id status further registration = record {
  to = response_address r.parts.vias e.source;
  response = responds r.parts e.source status (fresh_tag s e) further;
  changes = refl;
  sends = refl;
}

pub refuses_reply : (s : Office) (e : Setting) (r : Request) (begun : List Entry) (id : ℕ) (reason : Reason) → IsReply begun id (refuses_for s e r begun id reason)
refuses_reply s e r begun id reason = record {
  to = response_address r.parts.vias e.source;
  response = responds r.parts e.source (status reason) (fresh_tag s e) (headers_of s r reason);
  changes = refl;
  sends = refl;
}

-- the 200 to an UPDATE without an offer
pub okay_reply : (s : Office) (e : Setting) (r : Request) (begun : List Entry) (id : ℕ) → IsReply begun id (okay_plan s e r begun id)
okay_reply s e r begun id = responds_reply s e r begun id 200 (contact s.server ∷ []) None

registers_reply : (s : Office) (e : Setting) (r : Request) (begun : List Entry) (id : ℕ) (user : Option (List ℕ)) (answer : Result (List Binding) Refusal)
    → IsReply begun id (registers_by s e r begun id user answer)
registers_reply s e r begun id user (Ok bindings) =
    responds_reply s e r begun id 200 (map (contact_header e.now) bindings) (option_map (λ u. plan_of u bindings) user)
registers_reply s e r begun id user (Err refusal) = refuses_reply s e r begun id (reasons.Register refusal)

pub row_reply : (s : Office) (e : Setting) (r : Request) (begun : List Entry) (id : ℕ) (reply : Reply) → IsReply begun id (reply_row s e r begun id reply)
unfolding reply_row registers
row_reply s e r begun id (replies.CancelOf other) = record {
  to = response_address r.parts.vias e.source;
  response = responds r.parts e.source 200 (response_tag_in s other) [];
  changes = refl;
  sends = refl;
}
row_reply s e r begun id (replies.Refusal reason) = refuses_reply s e r begun id reason
row_reply s e r begun id replies.MethodsListed = responds_reply s e r begun id 200 (allow ∷ []) None
row_reply s e r begun id replies.Registration =
    registers_reply s e r begun id (register_of (rules_of s.registrar) r).user (answer_of_register s.registrar (register_of (rules_of s.registrar) r) e.now)
