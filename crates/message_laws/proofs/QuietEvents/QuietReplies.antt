-- What the server answers by itself moves no call.
use Rattle.std.proofs.Common.{◌≡◌, ◌∙◌, ℕ, Bool, true, false, not, ◌&&◌, ◌||◌, List, [], ◌∷◌, map, Option, None, is_some, option_map, Result, Ok, Err, refl, ap, sym, inl, inr}
use Rattle.std.specs.Prelude.{IsTrue}
use Rattle.std.proofs.lemmas.Bool.{false≢true}
use Rattle.sip_uri.specs.declared.uri.Addr.{Addr}
use Rattle.sip_message.specs.declared.headers.Header.{Header}
use Rattle.sip_message.specs.declared.message.Message.TheVariants as Kinds
use Rattle.sip_message.specs.declared.message.Parts.{Parts}
use Rattle.sip_message.specs.declared.message.Request.{Request}
use Rattle.sip_writing.specs.Reply.{response_address}
use Rattle.sip_writing.specs.Writing.{message_text}
use Rattle.sdp.specs.declared.description.Description.{Description}
use Rattle.registrar.specs.declared.binding.Binding.{Binding}
use Rattle.registrar.specs.declared.refusal.Refusal.{Refusal}
use Rattle.registrar.specs.Registrar.{PlanContents, answer_of as answer_of_register, plan_of, rules_of}
use Rattle.transactions.specs.declared.change.Entry.{Entry}
use Rattle.call_messages.specs.Messages.{contact}
use Rattle.responses.specs.Registering.{register_of}
use Rattle.responses.specs.Responding.{allow, contact_header, responds}
use Rattle.plans.specs.Office.{Office}
use Rattle.plans.specs.declared.rule.Reply.{Reply}
use Rattle.plans.specs.declared.rule.Reply.TheVariants as replies
use Rattle.plans.specs.declared.setting.Setting.{Setting}
use Rattle.plans.specs.CallRows.{okay_plan}
use Rattle.plans.specs.Plan.{sent_response}
use Rattle.plans.specs.Reasons.{status as status_for}
use Rattle.plans.specs.Replies.{fresh_tag, headers_of, refuses_for, registers, registers_by, reply_row, responds_in, response_tag_in}
use Rattle.plans.specs.declared.reason.Reason.{Reason}
use Rattle.plans.specs.declared.reason.Reason.TheVariants as reasons
use Rattle.call_trace.specs.declared.datagram.Kind.{Kind}
use Rattle.call_trace.specs.declared.datagram.Kind.TheVariants as kinds
use Rattle.call_trace.specs.declared.datagram.Message.{Message}
use Rattle.call_trace.specs.Events.{is_calm, is_plain}
use Rattle.call_trace.specs.Messages.{ack, bye, invite, is_final, is_listed, is_method, is_request, is_success}
use Rattle.trace_reading.specs.Message.{trace_message}
use Rattle.message_laws.specs.Quiet.{IsQuietReply, IsQuietStatus, MovesNone, SayPlain}
use Rattle.message_laws.specs.Seeing.{SeesResponse}
use Rattle.message_laws.proofs.QuietEvents.QuietRules.{refusal_quiet}
use Rattle.message_laws.proofs.QuietEvents.SeenMessages.{response_sees}

-- ---- a response without a description

-- by what a trace sees of it
abbrev is_plain_by : List (List ℕ) → Kind → List ℕ → Option Description → Bool
is_plain_by methods kind name description =
    not (is_request kind && is_listed methods name) && (not (is_request kind && is_method ack name) && (not (is_request kind && is_method bye name)
    && not (is_success kind && (is_method invite name || (is_method bye name || (is_listed methods name && is_some description))))))

refused_is_plain : (success moves : Bool) → success ≡ false → not (success && moves) ≡ true
refused_is_plain true moves h = absurd (false≢true (sym h))
refused_is_plain false moves h = refl

other_is_plain : (success invites byes listed : Bool) → invites ≡ false → byes ≡ false → not (success && (invites || (byes || (listed && false)))) ≡ true
other_is_plain success true byes listed i b = absurd (false≢true (sym i))
other_is_plain success false true listed i b = absurd (false≢true (sym b))
other_is_plain false false false listed i b = refl
other_is_plain true false false true i b = refl
other_is_plain true false false false i b = refl

plain_response : (methods : List (List ℕ)) (parts : Parts) (status : ℕ) → IsQuietStatus parts status → is_plain_by methods (kinds.Response status) parts.cseq.method None ≡ true
plain_response methods parts status (inl refused) = refused_is_plain (is_success (kinds.Response status)) _ refused
plain_response methods parts status (inr other) =
    other_is_plain (is_success (kinds.Response status)) (is_method invite parts.cseq.method) (is_method bye parts.cseq.method) (is_listed methods parts.cseq.method) other.no_invite other.no_bye

seen_plain : (methods : List (List ℕ)) (parts : Parts) (status : ℕ) (tag : List ℕ) (m : Message) → IsQuietStatus parts status → SeesResponse parts status tag None m → is_plain methods m ≡ true
seen_plain methods parts status tag m quiet h =
    ap (λ k. is_plain_by methods k m.method m.description) h.kind
    ∙ (ap (λ name. is_plain_by methods (kinds.Response status) name m.description) h.method
    ∙ (ap (λ d. is_plain_by methods (kinds.Response status) parts.cseq.method d) h.description
    ∙ plain_response methods parts status quiet))

pub responds_plain : (methods : List (List ℕ)) (bytes : List ℕ) (parts : Parts) (source : Addr) (status : ℕ) (tag : List ℕ) (further : List Header) → IsQuietStatus parts status
    → IsTrue (is_plain methods (trace_message bytes (Kinds.Response (responds parts source status tag further))))
responds_plain methods bytes parts source status tag further quiet = seen_plain methods parts status tag _ quiet (response_sees bytes parts source status tag further)

pub one_plain : (methods : List (List ℕ)) (to : Addr) (parts : Parts) (source : Addr) (status : ℕ) (tag : List ℕ) (further : List Header) → IsQuietStatus parts status
    → SayPlain methods (sent_response to (responds parts source status tag further) ∷ [])
one_plain methods to parts source status tag further quiet =
    let response = Kinds.Response (responds parts source status tag further) in
    ((response, refl, responds_plain methods (message_text response) parts source status tag further quiet), tt)

-- ---- through a transaction

pub in_plain : (methods : List (List ℕ)) (s : Office) (e : Setting) (r : Request) (begun : List Entry) (id status : ℕ) (further : List Header) (registration : Option PlanContents) → IsQuietStatus r.parts status
    → SayPlain methods (responds_in s e r begun id status further registration).sends
in_plain methods s e r begun id status further registration quiet = one_plain methods (response_address r.parts.vias e.source) r.parts e.source status (fresh_tag s e) further quiet

-- the 200 to an UPDATE without an offer
pub okay_plain : (methods : List (List ℕ)) (s : Office) (e : Setting) (r : Request) (begun : List Entry) (id : ℕ) → MovesNone r.parts → SayPlain methods (okay_plan s e r begun id).sends
okay_plain methods s e r begun id none = in_plain methods s e r begun id 200 (contact s.server ∷ []) None (inr none)

pub refuses_plain : (methods : List (List ℕ)) (s : Office) (e : Setting) (r : Request) (begun : List Entry) (id : ℕ) (reason : Reason) → SayPlain methods (refuses_for s e r begun id reason).sends
refuses_plain methods s e r begun id reason = in_plain methods s e r begun id (status_for reason) (headers_of s r reason) None (refusal_quiet r.parts reason)

registers_plain : (methods : List (List ℕ)) (s : Office) (e : Setting) (r : Request) (begun : List Entry) (id : ℕ) (user : Option (List ℕ)) (answer : Result (List Binding) Refusal) → MovesNone r.parts
    → SayPlain methods (registers_by s e r begun id user answer).sends
registers_plain methods s e r begun id user (Ok bindings) none =
    in_plain methods s e r begun id 200 (map (contact_header e.now) bindings) (option_map (λ u. plan_of u bindings) user) (inr none)
registers_plain methods s e r begun id user (Err refusal) none = refuses_plain methods s e r begun id (reasons.Register refusal)

pub reply_plain : (methods : List (List ℕ)) (s : Office) (e : Setting) (r : Request) (begun : List Entry) (id : ℕ) (reply : Reply) → IsQuietReply r reply
    → SayPlain methods (reply_row s e r begun id reply).sends
unfolding reply_row registers
reply_plain methods s e r begun id (replies.CancelOf other) quiet =
    one_plain methods (response_address r.parts.vias e.source) r.parts e.source 200 (response_tag_in s other) [] (inr quiet)
reply_plain methods s e r begun id (replies.Refusal reason) quiet = refuses_plain methods s e r begun id reason
reply_plain methods s e r begun id replies.MethodsListed quiet = in_plain methods s e r begun id 200 (allow ∷ []) None (inr quiet)
reply_plain methods s e r begun id replies.Registration quiet =
    registers_plain methods s e r begun id (register_of (rules_of s.registrar) r).user (answer_of_register s.registrar (register_of (rules_of s.registrar) r) e.now) quiet

-- ---- a request that was taken

pub calm_by : (methods : List (List ℕ)) (m : Message) → m.kind ≡ kinds.Request → is_calm methods m ≡ true
calm_by methods m is = ap (λ k. not (is_final k && is_listed methods m.method)) is

pub request_calm : (methods : List (List ℕ)) (bytes : List ℕ) (r : Request) → IsTrue (is_calm methods (trace_message bytes (Kinds.Request r)))
unfolding trace_message
request_calm methods bytes r = refl
