-- A response replies to a request in a trace where a transaction takes it so.
use Rattle.std.proofs.Common.{◌≡◌, ◌↔◌, ◌⊎◌, inl, inr, ℕ, List, [], ◌∷◌, codes, Option, Some, None, refl, sym, ap, ◌∙◌}
use Rattle.std.specs.Prelude.{unwrap_or, IsSome}
use Rattle.sip_uri.specs.declared.uri.Param.{Param}
use Rattle.sip_uri.specs.Binding.{param_named}
use Rattle.sip_message.specs.declared.message.Message.TheVariants as Kinds
use Rattle.sip_message.specs.declared.message.Parts.{Parts}
use Rattle.sip_message.specs.declared.message.Request.{Request}
use Rattle.sip_message.specs.declared.message.Response.{Response}
use Rattle.sip_message.specs.declared.start.Start.{Start}
use Rattle.sip_message.specs.declared.headers.Header.{Header}
use Rattle.sip_message.specs.declared.via.Via.{Via}
use Rattle.sip_message.specs.Grammar.{ReadsMessage, SaysParts}
use Rattle.sip_message.specs.Via.{via_texts}
use Rattle.sip_message.specs.Words.{value_found, top_branch, tag_value}
use Rattle.sip_writing.specs.Replies as writing
use Rattle.sip_writing.specs.Replies.{answered_tag}
use Rattle.transactions.specs.Matching.{RepliesTo}
use Rattle.call_trace.specs.Messages.{Replies}
use Rattle.trace_reading.specs.Message.{trace_message}
use Rattle.trace_reading.proofs.ReadTexts.{IsThere, one_text, tag_there, branch_there}

-- ---- what was read

record AreThere (parts : Parts) : Type 0 where
  pub branch : IsThere (top_branch parts.vias)
  pub from_tag : IsThere (tag_value parts.from.params)
  pub to_tag : IsThere (tag_value parts.to.params)

said_there : (start : Start) (fields : List Header) (parts : Parts) → SaysParts start fields parts → AreThere parts
said_there start fields parts h = record {
  branch = branch_there (via_texts fields) parts.vias h.each_via;
  from_tag = tag_there parts.from_text parts.from h.from;
  to_tag = tag_there parts.to_text parts.to h.to;
}

-- ---- both ways

kept_tag : (asked answered : Option (List ℕ)) → (IsSome asked → answered ≡ asked) → (unwrap_or asked [] ≡ []) ⊎ (unwrap_or answered [] ≡ unwrap_or asked [])
kept_tag None answered h = inl refl
kept_tag (Some tag) answered h = inr (ap (λ (o : Option (List ℕ)). unwrap_or o []) (h refl))

tag_kept : (asked answered : Option (List ℕ)) → IsThere asked → IsThere answered → (unwrap_or asked [] ≡ []) ⊎ (unwrap_or answered [] ≡ unwrap_or asked []) → IsSome asked → answered ≡ asked
tag_kept None answered there both h some = absurd cc
tag_kept (Some tag) answered there both (inl e) some = absurd (there e)
tag_kept (Some tag) answered there both (inr e) some = one_text answered (Some tag) both there e

reply_of : (asked answered : List ℕ) (request : Request) (response : Response) → RepliesTo response.parts request.parts
    → Replies (trace_message answered (Kinds.Response response)) (trace_message asked (Kinds.Request request))
unfolding trace_message
reply_of asked answered request response h =
    let text : Option (List ℕ) → List ℕ = λ o. unwrap_or o [] in
    record {
      response_kind = refl;
      request_kind = refl;
      branch = ap text h.branch;
      call_id = h.call_id;
      from_tag = ap text h.from_tag;
      number = h.number;
      method = h.method;
      to_tag = kept_tag (tag_value request.parts.to.params) (tag_value response.parts.to.params) h.to_tag;
    }

reply_by : (asked answered : List ℕ) (request : Request) (response : Response) → AreThere request.parts → AreThere response.parts
    → Replies (trace_message answered (Kinds.Response response)) (trace_message asked (Kinds.Request request)) → RepliesTo response.parts request.parts
unfolding trace_message
reply_by asked answered request response there both h =
    let one_branch : top_branch response.parts.vias ≡ top_branch request.parts.vias = one_text (top_branch response.parts.vias) (top_branch request.parts.vias) both.branch there.branch h.branch in
    let one_tag : tag_value response.parts.from.params ≡ tag_value request.parts.from.params = one_text (tag_value response.parts.from.params) (tag_value request.parts.from.params) both.from_tag there.from_tag h.from_tag in
    record {
      branch = one_branch;
      call_id = h.call_id;
      from_tag = one_tag;
      number = h.number;
      method = h.method;
      to_tag = tag_kept (tag_value request.parts.to.params) (tag_value response.parts.to.params) there.to_tag both.to_tag h.to_tag;
    }

pub replies_both : (asked answered : List ℕ) (request : Request) (response : Response) → ReadsMessage asked (Kinds.Request request) → ReadsMessage answered (Kinds.Response response)
    → Replies (trace_message answered (Kinds.Response response)) (trace_message asked (Kinds.Request request)) ↔ RepliesTo response.parts request.parts
replies_both asked answered request response reads answers =
    let there : AreThere request.parts = said_there _ reads.fields request.parts reads.says.says_parts in
    let both : AreThere response.parts = said_there _ answers.fields response.parts answers.says.says_parts in
    (reply_by asked answered request response there both, reply_of asked answered request response)

-- ---- what is written

written_tag : (asked answered : Option Param) (status : ℕ) (tag : List ℕ) → answered ≡ answered_tag status asked tag → IsSome (value_found asked) → value_found answered ≡ value_found asked
written_tag None answered status tag e some = absurd cc
written_tag (Some own) answered status tag e some = ap value_found e

written_branch : (a b : List Via) → writing.top_branch a ≡ writing.top_branch b → top_branch a ≡ top_branch b
written_branch a b e = at a ∙ ap value_found e ∙ sym (at b) where
  at : (vias : List Via) → top_branch vias ≡ value_found (writing.top_branch vias)
  at [] = refl
  at (via ∷ vias) = refl

pub written_replies : (asked answered : List ℕ) (request : Request) (response : Response) (status : ℕ) (tag : List ℕ) → writing.Replies response.parts request.parts status tag
    → Replies (trace_message answered (Kinds.Response response)) (trace_message asked (Kinds.Request request))
written_replies asked answered request response status tag h =
    reply_of asked answered request response (record {
      branch = written_branch response.parts.vias request.parts.vias h.branch;
      call_id = h.call_id;
      from_tag = ap value_found h.from_tag;
      number = ap (λ c. c.number) h.cseq;
      method = ap (λ c. c.method) h.cseq;
      to_tag = written_tag (param_named (codes "tag") request.parts.to.params) (param_named (codes "tag") response.parts.to.params) status tag h.to_tag;
    })
