-- The responses of the server's own that no call says read back as what they were dressed as.
use Rattle.std.proofs.Common.{◌≡◌, ℕ, ◌+◌, ◌<◌, ◌≤◌, ◌^◌, Bool, true, false, cond, List, [], ◌∷◌, ◌∙◌, codes, length, Option, Some, None, Result, Ok, Err, refl, sym, subst, inl, inr, arith}
use Rattle.std.specs.Prelude.{nat_eq, option_and_then}
use Rattle.std.specs.Cmp.Lexicographic.{pointwise}
use Rattle.std.specs.List.{All}
use Rattle.std.proofs.lemmas.List.Elements.{All-cons, All-nil}
use Rattle.text.specs.Class.{is_run_of, is_token_byte}
use Rattle.events.specs.declared.sent.Sent.{Sent}
use Rattle.sip_uri.specs.declared.uri.Addr.{Addr}
use Rattle.sip_message.specs.declared.headers.Header.{Header}
use Rattle.sip_message.specs.declared.message.Message.TheVariants as Kinds
use Rattle.sip_message.specs.declared.message.Parts.{Parts}
use Rattle.sip_message.specs.declared.message.Request.{Request}
use Rattle.sip_message.specs.ContentLength.{max_content_length}
use Rattle.sip_message.specs.Repeatable.{CanBeRepeated}
use Rattle.sip_message.specs.Words.{tag_value}
use Rattle.sip_writing.specs.Reply.{replied, reply_of}
use Rattle.sip_writing.specs.Writing.{message_text}
use Rattle.sip_writing.specs.WritingMessage.{IsWrittenMessage}
use Rattle.registrar.specs.declared.binding.Binding.{Binding}
use Rattle.registrar.specs.declared.refusal.Refusal.{Refusal}
use Rattle.registrar.specs.Registrar.{PlanContents, answer_of, rules_of}
use Rattle.responses.specs.Registering.{register_of}
use Rattle.responses.specs.Responding.{allow, responds, stateless, status_of}
use Rattle.call_messages.specs.Messages.{contact, retry_after, with_body}
use Rattle.transactions.specs.declared.change.Entry.{Entry}
use Rattle.transactions.specs.declared.transaction.Transaction.{Transaction}
use Rattle.transactions.specs.Slots.{at}
use Rattle.plans.specs.Office.{Office}
use Rattle.plans.specs.CallRows.{okay_plan}
use Rattle.plans.specs.Reasons.{status as status_for}
use Rattle.plans.specs.Replies.{accept, accept_encoding, fresh_tag, headers_of, refuses_for, registers, registers_by, reply_row, responds_in, tag_in, response_tag, response_tag_in, token_or_sent, unsupported}
use Rattle.plans.specs.declared.reason.Reason.{Reason}
use Rattle.plans.specs.declared.reason.Reason.TheVariants as reasons
use Rattle.plans.specs.declared.rule.Reply.{Reply}
use Rattle.plans.specs.declared.rule.Reply.TheVariants as replies
use Rattle.plans.specs.declared.setting.Setting.{Setting}
use Rattle.plans.proofs.ReasonLaws.{reason_refuses}
use Rattle.message_laws.specs.Addresses.{IsReached, IsSource}
use Rattle.message_laws.specs.Datagrams.{IsOwnDatagram, IsReadResponse}
use Rattle.message_laws.proofs.TokenUse.Further.{FollowsIn, NeedsNoContact, accept_encoding_plain, accept_plain, allow_plain, contact_follows, none_follows, other_needs_none, plain_follows, refusal_follows, refusal_needs_none, retry_after_plain, IsPlain}
use Rattle.message_laws.proofs.TokenUse.Grounds.{reply_is_read}
use Rattle.message_laws.proofs.Messages.ReadParts.{IsStatus, IsTokenRun, IsTokenIf, sent_tag, token_or}
use Rattle.message_laws.proofs.TokenUse.TokenRuns.{token_run}

-- ---- one response

pub responds_written : (parts : Parts) (source : Addr) (status : ℕ) (tag : List ℕ) (further : List Header) (body : List ℕ) → IsSource source → CanBeRepeated parts → IsTokenRun tag → IsStatus status
    → FollowsIn status parts.cseq.method further → length body ≤ max_content_length → IsWrittenMessage (Kinds.Response (with_body body (responds parts source status tag further)))
unfolding responds reply_of replied
responds_written parts source status tag further body from repeats token is follows small = reply_is_read parts source status tag from repeats token is.low is.high further body follows small

pub responds_read : (parts : Parts) (source : Addr) (status : ℕ) (tag : List ℕ) (further : List Header) → IsSource source → CanBeRepeated parts → IsTokenRun tag → IsStatus status
    → FollowsIn status parts.cseq.method further → IsReadResponse (message_text (Kinds.Response (responds parts source status tag further)))
unfolding responds reply_of replied
responds_read parts source status tag further from repeats token is follows = record {
  response = responds parts source status tag further;
  said = refl;
  written = responds_written parts source status tag further [] from repeats token is follows (omega arith);
}

-- with a body
pub body_read : (parts : Parts) (source : Addr) (status : ℕ) (tag : List ℕ) (further : List Header) (body : List ℕ) → IsSource source → CanBeRepeated parts → IsTokenRun tag → IsStatus status
    → FollowsIn status parts.cseq.method further → length body ≤ max_content_length → IsReadResponse (message_text (Kinds.Response (with_body body (responds parts source status tag further))))
body_read parts source status tag further body from repeats token is follows small = record {
  response = with_body body (responds parts source status tag further);
  said = refl;
  written = responds_written parts source status tag further body from repeats token is follows small;
}

pub stateless_token : IsTokenRun stateless
stateless_token = refl

pub one_own : (d : Sent) → IsOwnDatagram d → All IsOwnDatagram (d ∷ [])
one_own d h = All-cons IsOwnDatagram d [] h (All-nil IsOwnDatagram)

-- ---- a request that can be answered

pub record CanAnswer (s : Office) (e : Setting) (r : Request) : Type 0 where
  pub repeats : CanBeRepeated r.parts
  pub method : r.parts.cseq.method ≡ r.method
  pub refused : IsPlain (unsupported r)
  pub from : IsSource e.source
  pub few : s.tokens < 2 ^ 63

pub fresh_token : (s : Office) (e : Setting) → s.tokens < 2 ^ 63 → IsTokenRun (fresh_tag s e)
fresh_token s e few = token_run e.salt (s.tokens + 1) (omega (arith, few))

responds_in_own : (s : Office) (e : Setting) (r : Request) (begun : List Entry) (id status : ℕ) (further : List Header) (registration : Option PlanContents) → CanAnswer s e r → IsStatus status
    → FollowsIn status r.parts.cseq.method further → All IsOwnDatagram (responds_in s e r begun id status further registration).sends
responds_in_own s e r begun id status further registration can is follows =
    one_own _ (inl (responds_read r.parts e.source status (fresh_tag s e) further can.from can.repeats (fresh_token s e can.few) is follows))

-- ---- a refusal

pub refusal_status : (reason : Reason) → IsStatus (status_for reason)
refusal_status reason = record { low = omega (arith, (reason_refuses reason).0); high = (reason_refuses reason).1 }

pub refusal_needs : (reason : Reason) (method : List ℕ) → NeedsNoContact (status_for reason) method
refusal_needs reason method = refusal_needs_none (status_for reason) method (reason_refuses reason).0

one_follows : (r : Request) (reason : Reason) (h : Header) → IsPlain h → FollowsIn (status_for reason) r.parts.cseq.method (h ∷ [])
one_follows r reason h plain = plain_follows (status_for reason) r.parts.cseq.method h (refusal_needs reason r.parts.cseq.method) plain

-- the header fields that say more of it
pub headers_follow : (s : Office) (r : Request) (reason : Reason) → IsPlain (unsupported r) → s.least < 2 ^ 64 → FollowsIn (status_for reason) r.parts.cseq.method (headers_of s r reason)
headers_follow s r reasons.SecondOffer plain small = one_follows r reasons.SecondOffer retry_after retry_after_plain
headers_follow s r reasons.MethodNotOffered plain small = one_follows r reasons.MethodNotOffered allow allow_plain
headers_follow s r reasons.ExtensionRequired plain small = one_follows r reasons.ExtensionRequired (unsupported r) plain
headers_follow s r reasons.BodyType plain small = one_follows r reasons.BodyType accept accept_plain
headers_follow s r reasons.BodyEncoding plain small = one_follows r reasons.BodyEncoding accept_encoding accept_encoding_plain
headers_follow s r (reasons.Register refusal) plain small = refusal_follows s.least (status_of refusal) r.parts.cseq.method refusal small (refusal_needs (reasons.Register refusal) r.parts.cseq.method)
headers_follow s r reason plain small = none_follows (status_for reason) r.parts.cseq.method (refusal_needs reason r.parts.cseq.method)

pub refuses_own : (s : Office) (e : Setting) (r : Request) (begun : List Entry) (id : ℕ) (reason : Reason) → CanAnswer s e r → s.least < 2 ^ 64 → All IsOwnDatagram (refuses_for s e r begun id reason).sends
refuses_own s e r begun id reason can small =
    responds_in_own s e r begun id (status_for reason) (headers_of s r reason) None can (refusal_status reason) (headers_follow s r reason can.refused small)

pub okay_status : IsStatus 200
okay_status = record { low = omega arith; high = omega arith }

-- the 200 to an UPDATE without an offer
pub okay_own : (s : Office) (e : Setting) (r : Request) (begun : List Entry) (id : ℕ) → CanAnswer s e r → IsReached s.server → All IsOwnDatagram (okay_plan s e r begun id).sends
okay_own s e r begun id can reached = responds_in_own s e r begun id 200 (contact s.server ∷ []) None can okay_status (contact_follows s.server 200 r.parts.cseq.method reached)

-- ---- each reply

-- why a reply is one that can be written
abbrev pub FitsReply : Request → Reply → Type 0
FitsReply r (replies.CancelOf other) = r.method ≡ codes "CANCEL"
FitsReply r replies.MethodsListed = r.method ≡ codes "OPTIONS"
FitsReply r replies.Registration = r.method ≡ codes "REGISTER"
FitsReply r reply = Unit {0}

pub method_needs_none : (s : Office) (e : Setting) (r : Request) (status : ℕ) (method : List ℕ) → CanAnswer s e r → r.method ≡ method → pointwise nat_eq method (codes "INVITE") ≡ false
    → pointwise nat_eq method (codes "UPDATE") ≡ false → NeedsNoContact status r.parts.cseq.method
method_needs_none s e r status method can is invite update =
    subst (λ (m : List ℕ). NeedsNoContact status m) (sym (can.method ∙ is)) (other_needs_none status method invite update)

pub response_tag_token : (s : Office) (other : ℕ) → IsTokenRun (response_tag_in s other)
response_tag_token s other = token_or _ stateless (last_tag (at s.table.slots other)) stateless_token
  where
    token_kept : (tag : Option (List ℕ)) (sent : Option (List ℕ)) → IsTokenIf sent → IsTokenIf (token_or_sent tag sent)
    token_kept None sent h = h
    token_kept (Some tag) sent h = by (is_run_of is_token_byte tag) refl
      where
        by : (b : Bool) → is_run_of is_token_byte tag ≡ b → IsTokenIf (cond b (Some tag) sent)
        by true is = is
        by false is = h

    last_tag : (t : Option Transaction) → IsTokenIf (option_and_then response_tag t)
    last_tag None = tt
    last_tag (Some t) = token_kept (tag_value t.parts.to.params) (tag_in t.last) (sent_tag t.last)

registers_own : (s : Office) (e : Setting) (r : Request) (begun : List Entry) (id : ℕ) (user : Option (List ℕ)) (answer : Result (List Binding) Refusal) → CanAnswer s e r → s.least < 2 ^ 64
    → All IsOwnDatagram (registers_by s e r begun id user answer).sends
registers_own s e r begun id user (Ok bindings) can small =
    one_own _ (inr (inl (record { parts = r.parts; source = e.source; tag = fresh_tag s e; now = e.now; bindings = bindings; said = refl })))
registers_own s e r begun id user (Err refusal) can small = refuses_own s e r begun id (reasons.Register refusal) can small

pub reply_own : (s : Office) (e : Setting) (r : Request) (begun : List Entry) (id : ℕ) (reply : Reply) → CanAnswer s e r → s.least < 2 ^ 64 → FitsReply r reply → All IsOwnDatagram (reply_row s e r begun id reply).sends
unfolding reply_row registers
reply_own s e r begun id (replies.CancelOf other) can small fits =
    one_own _ (inl (responds_read r.parts e.source 200 (response_tag_in s other) [] can.from can.repeats (response_tag_token s other) okay_status
    (none_follows 200 r.parts.cseq.method (method_needs_none s e r 200 (codes "CANCEL") can fits refl refl))))
reply_own s e r begun id (replies.Refusal reason) can small fits = refuses_own s e r begun id reason can small
reply_own s e r begun id replies.MethodsListed can small fits =
    responds_in_own s e r begun id 200 (allow ∷ []) None can okay_status
    (plain_follows 200 r.parts.cseq.method allow (method_needs_none s e r 200 (codes "OPTIONS") can fits refl refl) allow_plain)
reply_own s e r begun id replies.Registration can small fits =
    registers_own s e r begun id (register_of (rules_of s.registrar) r).user (answer_of s.registrar (register_of (rules_of s.registrar) r) e.now) can small
