-- The replies of the rules, and the responses that no transaction sends, read back.
use Rattle.std.proofs.Common.{◌≡◌, ℕ, ◌∙◌, ◌<◌, ◌^◌, List, [], ◌∷◌, codes, map, option_map, Option, None, Result, Ok, Err, refl, sym, subst}
use Rattle.std.specs.List.{All}
use Rattle.std.proofs.lemmas.List.Elements.{All-cons, All-nil}
use Rattle.events.specs.declared.sent.Sent.{Sent}
use Rattle.sip_uri.specs.declared.uri.Addr.{Addr}
use Rattle.sip_message.specs.declared.headers.Header.{Header}
use Rattle.sip_message.specs.declared.message.Message.TheVariants as Kinds
use Rattle.sip_message.specs.declared.message.Parts.{Parts}
use Rattle.sip_message.specs.declared.message.Request.{Request}
use Rattle.sip_message.specs.Repeatable.{CanBeRepeated}
use Rattle.sip_writing.specs.Reply.{response_address}
use Rattle.registrar.specs.declared.binding.Binding.{Binding}
use Rattle.registrar.specs.declared.refusal.Refusal.{Refusal}
use Rattle.registrar.specs.Registrar.{PlanContents, answer_of, plan_of, rules_of}
use Rattle.responses.specs.Registering.{register_of}
use Rattle.responses.specs.Responding.{allow, contact_header, stateless}
use Rattle.call_messages.specs.Messages.{contact}
use Rattle.transactions.specs.declared.change.Entry.{Entry}
use Rattle.plans.specs.Office.{Office}
use Rattle.plans.specs.CallRows.{okay_plan}
use Rattle.plans.specs.Reasons.{status as status_for}
use Rattle.plans.specs.Replies.{fresh_tag, headers_of, refuses_for, registers, registers_by, reply_row, responds_in, response_tag_in}
use Rattle.plans.specs.declared.reason.Reason.{Reason}
use Rattle.plans.specs.declared.reason.Reason.TheVariants as reasons
use Rattle.plans.specs.declared.rule.Reply.{Reply}
use Rattle.plans.specs.declared.rule.Reply.TheVariants as replies
use Rattle.plans.specs.declared.setting.Setting.{Setting}
use Rattle.event_rows.specs.Rows.{refuses_alone}
use Rattle.message_laws.specs.Addresses.{IsReached, IsSource}
use Rattle.message_laws.specs.Datagrams.{IsReadResponse}
use Rattle.message_laws.specs.Sound.{IsBound}
use Rattle.message_laws.proofs.TokenUse.Further.{FollowsIn, allow_plain, contact_follows, none_follows, plain_follows}
use Rattle.message_laws.proofs.Messages.ReadParts.{IsStatus}
use Rattle.message_laws.proofs.Messages.Repeats.{CanAnswer, FitsReply, fresh_token, headers_follow, method_needs_none, okay_status, refusal_needs, refusal_status, responds_read, stateless_token, response_tag_token}
use Rattle.message_laws.specs.ReadDatagrams.{IsReadDatagram}
use Rattle.message_laws.proofs.SentTexts.Listing.{listing_follows}

pub one_read : (d : Sent) → IsReadDatagram d → All IsReadDatagram (d ∷ [])
one_read d h = All-cons IsReadDatagram d [] h (All-nil IsReadDatagram)

-- a response that reads back
response_read : (to : Addr) (bytes : List ℕ) → IsReadResponse bytes → All IsReadDatagram (record { to = to; bytes = bytes } ∷ [])
response_read to bytes h = one_read (record { to = to; bytes = bytes }) (Kinds.Response h.response, h.said, h.written)

responds_in_read : (s : Office) (e : Setting) (r : Request) (begun : List Entry) (id status : ℕ) (further : List Header) (registration : Option PlanContents) → CanAnswer s e r → IsStatus status
    → FollowsIn status r.parts.cseq.method further → All IsReadDatagram (responds_in s e r begun id status further registration).sends
responds_in_read s e r begun id status further registration can is follows =
    response_read (response_address r.parts.vias e.source) _ (responds_read r.parts e.source status (fresh_tag s e) further can.from can.repeats (fresh_token s e can.few) is follows)

pub refuses_read : (s : Office) (e : Setting) (r : Request) (begun : List Entry) (id : ℕ) (reason : Reason) → CanAnswer s e r → s.least < 2 ^ 64 → All IsReadDatagram (refuses_for s e r begun id reason).sends
refuses_read s e r begun id reason can small =
    responds_in_read s e r begun id (status_for reason) (headers_of s r reason) None can (refusal_status reason) (headers_follow s r reason can.refused small)

-- the 200 to an UPDATE without an offer
pub okay_read : (s : Office) (e : Setting) (r : Request) (begun : List Entry) (id : ℕ) → CanAnswer s e r → IsReached s.server → All IsReadDatagram (okay_plan s e r begun id).sends
okay_read s e r begun id can reached = responds_in_read s e r begun id 200 (contact s.server ∷ []) None can okay_status (contact_follows s.server 200 r.parts.cseq.method reached)

-- ---- each reply

-- of a REGISTER: its bindings lead to addresses
abbrev pub AreBound : Result (List Binding) Refusal → Type 0
AreBound (Ok bindings) = All IsBound bindings
AreBound (Err refusal) = Unit {0}

registers_read : (s : Office) (e : Setting) (r : Request) (begun : List Entry) (id : ℕ) (user : Option (List ℕ)) (answer : Result (List Binding) Refusal) → CanAnswer s e r → s.least < 2 ^ 64
    → r.method ≡ codes "REGISTER" → AreBound answer → All IsReadDatagram (registers_by s e r begun id user answer).sends
registers_read s e r begun id user (Ok bindings) can small is bound =
    responds_in_read s e r begun id 200 (map (contact_header e.now) bindings) (option_map (λ u. plan_of u bindings) user) can okay_status
    (subst (λ (m : List ℕ). FollowsIn 200 m (map (contact_header e.now) bindings)) (sym (can.method ∙ is)) (listing_follows e.now bindings bound))
registers_read s e r begun id user (Err refusal) can small is bound = refuses_read s e r begun id (reasons.Register refusal) can small

pub reply_read : (s : Office) (e : Setting) (r : Request) (begun : List Entry) (id : ℕ) (reply : Reply) → CanAnswer s e r → s.least < 2 ^ 64
    → AreBound (answer_of s.registrar (register_of (rules_of s.registrar) r) e.now) → FitsReply r reply → All IsReadDatagram (reply_row s e r begun id reply).sends
unfolding reply_row registers
reply_read s e r begun id (replies.CancelOf other) can small bound fits =
    response_read (response_address r.parts.vias e.source) _ (responds_read r.parts e.source 200 (response_tag_in s other) [] can.from can.repeats (response_tag_token s other) okay_status
    (none_follows 200 r.parts.cseq.method (method_needs_none s e r 200 (codes "CANCEL") can fits refl refl)))
reply_read s e r begun id (replies.Refusal reason) can small bound fits = refuses_read s e r begun id reason can small
reply_read s e r begun id replies.MethodsListed can small bound fits =
    responds_in_read s e r begun id 200 (allow ∷ []) None can okay_status
    (plain_follows 200 r.parts.cseq.method allow (method_needs_none s e r 200 (codes "OPTIONS") can fits refl refl) allow_plain)
reply_read s e r begun id replies.Registration can small bound fits =
    registers_read s e r begun id (register_of (rules_of s.registrar) r).user (answer_of s.registrar (register_of (rules_of s.registrar) r) e.now) can small fits bound

-- ---- a response that no transaction sends

pub stateless_read : (parts : Parts) (e : Setting) (reason : Reason) → IsSource e.source → CanBeRepeated parts → All IsReadDatagram (refuses_alone e parts reason).sends
stateless_read parts e reason from repeats =
    response_read (response_address parts.vias e.source) _ (responds_read parts e.source (status_for reason) stateless [] from repeats stateless_token (refusal_status reason)
    (none_follows (status_for reason) parts.cseq.method (refusal_needs reason parts.cseq.method)))
