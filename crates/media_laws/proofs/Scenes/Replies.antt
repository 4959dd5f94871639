-- What the server answers by itself is plain, and reads back as the response that it was dressed as.
use Rattle.std.proofs.Common.{◌≡◌, ℕ, ◌∙◌, ◌<◌, ◌^◌, List, [], ◌∷◌, codes, map, option_map, Option, None, Result, Ok, Err, refl, sym, subst, inr, arith}
use Rattle.sip_uri.specs.declared.uri.Addr.{Addr}
use Rattle.sip_message.specs.declared.headers.Header.{Header}
use Rattle.sip_message.specs.declared.message.Message.TheVariants as Kinds
use Rattle.sip_message.specs.declared.message.Parts.{Parts}
use Rattle.sip_message.specs.declared.message.Request.{Request}
use Rattle.sip_message.specs.Repeatable.{CanBeRepeated}
use Rattle.sip_writing.specs.Reply.{response_address, replied, reply_of}
use Rattle.sip_writing.specs.Writing.{message_text}
use Rattle.sip_writing.specs.WritingMessage.{IsWrittenMessage}
use Rattle.registrar.specs.declared.binding.Binding.{Binding}
use Rattle.registrar.specs.declared.refusal.Refusal.{Refusal}
use Rattle.registrar.specs.Registrar.{PlanContents, answer_of, plan_of, rules_of}
use Rattle.responses.specs.Registering.{register_of}
use Rattle.responses.specs.Responding.{allow, contact_header, responds, stateless}
use Rattle.call_messages.specs.Messages.{contact}
use Rattle.transactions.specs.declared.change.Entry.{Entry}
use Rattle.plans.specs.Office.{Office}
use Rattle.plans.specs.CallRows.{okay_plan}
use Rattle.plans.specs.Plan.{sent_response}
use Rattle.plans.specs.Reasons.{status as status_for}
use Rattle.plans.specs.Replies.{fresh_tag, headers_of, refuses_for, registers, registers_by, reply_row, responds_in, response_tag_in}
use Rattle.plans.specs.declared.reason.Reason.{Reason}
use Rattle.plans.specs.declared.reason.Reason.TheVariants as reasons
use Rattle.plans.specs.declared.rule.Reply.{Reply}
use Rattle.plans.specs.declared.rule.Reply.TheVariants as replies
use Rattle.plans.specs.declared.setting.Setting.{Setting}
use Rattle.event_rows.specs.Rows.{refuses_alone}
use Rattle.call_trace.specs.Messages.{offering}
use Rattle.message_laws.specs.Addresses.{IsReached, IsSource}
use Rattle.message_laws.specs.Quiet.{IsQuietReply, IsQuietStatus, MovesNone}
use Rattle.message_laws.proofs.QuietEvents.QuietRules.{refusal_quiet}
use Rattle.message_laws.proofs.TokenUse.Further.{FollowsIn, allow_plain, contact_follows, none_follows, plain_follows}
use Rattle.message_laws.proofs.QuietEvents.QuietReplies.{responds_plain}
use Rattle.message_laws.proofs.Messages.ReadParts.{IsStatus, IsTokenRun}
use Rattle.message_laws.proofs.Messages.Repeats.{CanAnswer, FitsReply, fresh_token, headers_follow, method_needs_none, okay_status, refusal_needs, refusal_status, responds_written, stateless_token, response_tag_token}
use Rattle.message_laws.proofs.SentTexts.Listing.{listing_follows}
use Rattle.message_laws.proofs.SentTexts.ReadReplies.{AreBound}
use Rattle.media_laws.proofs.Scenes.QuietSends.{SaysPlain}

-- ---- one response

responds_stands : (parts : Parts) (source : Addr) (status : ℕ) (tag : List ℕ) (further : List Header) → IsSource source → CanBeRepeated parts → IsTokenRun tag → IsStatus status
    → FollowsIn status parts.cseq.method further → IsWrittenMessage (Kinds.Response (responds parts source status tag further))
unfolding responds reply_of replied
responds_stands parts source status tag further from repeats token is follows = responds_written parts source status tag further [] from repeats token is follows (omega arith)

one_says : (to : Addr) (parts : Parts) (source : Addr) (status : ℕ) (tag : List ℕ) (further : List Header) → IsSource source → CanBeRepeated parts → IsTokenRun tag → IsStatus status
    → FollowsIn status parts.cseq.method further → IsQuietStatus parts status → SaysPlain (sent_response to (responds parts source status tag further) ∷ [])
one_says to parts source status tag further from repeats token is follows quiet =
    let response = Kinds.Response (responds parts source status tag further) in
    ((response, refl, responds_stands parts source status tag further from repeats token is follows, responds_plain offering (message_text response) parts source status tag further quiet), tt)

in_says : (s : Office) (e : Setting) (r : Request) (begun : List Entry) (id status : ℕ) (further : List Header) (registration : Option PlanContents) → CanAnswer s e r → IsStatus status
    → FollowsIn status r.parts.cseq.method further → IsQuietStatus r.parts status → SaysPlain (responds_in s e r begun id status further registration).sends
in_says s e r begun id status further registration can is follows quiet =
    one_says (response_address r.parts.vias e.source) r.parts e.source status (fresh_tag s e) further can.from can.repeats (fresh_token s e can.few) is follows quiet

-- ---- refusals

pub refuses_says : (s : Office) (e : Setting) (r : Request) (begun : List Entry) (id : ℕ) (reason : Reason) → CanAnswer s e r → s.least < 2 ^ 64 → SaysPlain (refuses_for s e r begun id reason).sends
refuses_says s e r begun id reason can small =
    in_says s e r begun id (status_for reason) (headers_of s r reason) None can (refusal_status reason) (headers_follow s r reason can.refused small) (refusal_quiet r.parts reason)

-- one that no transaction sends
pub stateless_says : (e : Setting) (parts : Parts) (reason : Reason) → IsSource e.source → CanBeRepeated parts → SaysPlain (refuses_alone e parts reason).sends
stateless_says e parts reason from repeats =
    one_says (response_address parts.vias e.source) parts e.source (status_for reason) stateless [] from repeats stateless_token (refusal_status reason)
    (none_follows (status_for reason) parts.cseq.method (refusal_needs reason parts.cseq.method)) (refusal_quiet parts reason)

-- the 200 to an UPDATE without an offer
pub okay_says : (s : Office) (e : Setting) (r : Request) (begun : List Entry) (id : ℕ) → CanAnswer s e r → IsReached s.server → MovesNone r.parts → SaysPlain (okay_plan s e r begun id).sends
okay_says s e r begun id can reached none = in_says s e r begun id 200 (contact s.server ∷ []) None can okay_status (contact_follows s.server 200 r.parts.cseq.method reached) (inr none)

-- ---- each reply

registers_says : (s : Office) (e : Setting) (r : Request) (begun : List Entry) (id : ℕ) (user : Option (List ℕ)) (answer : Result (List Binding) Refusal) → CanAnswer s e r → s.least < 2 ^ 64
    → r.method ≡ codes "REGISTER" → AreBound answer → MovesNone r.parts → SaysPlain (registers_by s e r begun id user answer).sends
registers_says s e r begun id user (Ok bindings) can small is bound none =
    in_says s e r begun id 200 (map (contact_header e.now) bindings) (option_map (λ u. plan_of u bindings) user) can okay_status
    (subst (λ (m : List ℕ). FollowsIn 200 m (map (contact_header e.now) bindings)) (sym (can.method ∙ is)) (listing_follows e.now bindings bound)) (inr none)
registers_says s e r begun id user (Err refusal) can small is bound none = refuses_says s e r begun id (reasons.Register refusal) can small

pub reply_says : (s : Office) (e : Setting) (r : Request) (begun : List Entry) (id : ℕ) (reply : Reply) → CanAnswer s e r → s.least < 2 ^ 64
    → AreBound (answer_of s.registrar (register_of (rules_of s.registrar) r) e.now) → FitsReply r reply → IsQuietReply r reply → SaysPlain (reply_row s e r begun id reply).sends
unfolding reply_row registers
reply_says s e r begun id (replies.CancelOf other) can small bound fits quiet =
    one_says (response_address r.parts.vias e.source) r.parts e.source 200 (response_tag_in s other) [] can.from can.repeats (response_tag_token s other) okay_status
    (none_follows 200 r.parts.cseq.method (method_needs_none s e r 200 (codes "CANCEL") can fits refl refl)) (inr quiet)
reply_says s e r begun id (replies.Refusal reason) can small bound fits quiet = refuses_says s e r begun id reason can small
reply_says s e r begun id replies.MethodsListed can small bound fits quiet =
    in_says s e r begun id 200 (allow ∷ []) None can okay_status
    (plain_follows 200 r.parts.cseq.method allow (method_needs_none s e r 200 (codes "OPTIONS") can fits refl refl) allow_plain) (inr quiet)
reply_says s e r begun id replies.Registration can small bound fits quiet =
    registers_says s e r begun id (register_of (rules_of s.registrar) r).user (answer_of s.registrar (register_of (rules_of s.registrar) r) e.now) can small fits bound quiet
