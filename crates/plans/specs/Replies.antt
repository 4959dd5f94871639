-- What requests are answered that no call has to do with: one row for each reply.
use Rattle.std.specs.Prelude.{ℕ, ◌+◌, List, [], ◌∷◌, map, codes, Option, Some, None, option_map, option_and_then, unwrap_or, Result, Ok, Err, if◌then◌else◌}
use Rattle.text.specs.Class.{is_run_of, is_token_byte}
use Rattle.sip_message.specs.declared.error.MessageError.{MessageError}
use Rattle.sip_message.specs.declared.headers.Header.{Header}
use Rattle.sip_message.specs.declared.message.Message.{Message}
use Rattle.sip_message.specs.declared.message.Message.TheVariants as Kinds
use Rattle.sip_message.specs.declared.message.Request.{Request}
use Rattle.sip_message.specs.Lookup.{named}
use Rattle.sip_message.specs.Party.{has_tag}
use Rattle.sip_message.specs.Read.{message_of}
use Rattle.sip_message.specs.Words.{tag_value}
use Rattle.sip_writing.specs.Reply.{response_address}
use Rattle.registrar.specs.declared.binding.Binding.{Binding}
use Rattle.registrar.specs.declared.refusal.Refusal.{Refusal}
use Rattle.registrar.specs.Registrar.{answer_of, PlanContents, plan_of, rules_of}
use Rattle.transactions.specs.declared.change.Entry.{Entry}
use Rattle.transactions.specs.declared.transaction.Transaction.{Transaction}
use Rattle.transactions.specs.Slots.{at}
use Rattle.plans.specs.declared.setting.Setting.{Setting}
use Rattle.plans.specs.declared.rule.Reply.{Reply}
use Rattle.plans.specs.declared.rule.Reply.TheVariants as reply
use Rattle.plans.specs.declared.reason.Reason.{Reason}
use Rattle.plans.specs.declared.reason.Reason.TheVariants as reasons
use Rattle.plans.specs.Plan.{Plan, answers, as_refusal}
use Rattle.plans.specs.Reasons.{status}
use Rattle.plans.specs.Office.{Office}
use Rattle.responses.specs.Registering.{register_of}
use Rattle.responses.specs.Responding.{allow, contact_header, refusal_headers, responds, stateless}
use Rattle.responses.specs.Tags.{joined_tags, required_tags}
use Rattle.responses.specs.Tokens.{token}
use Rattle.call_messages.specs.Messages.{retry_after}

-- ---- a request that begins a transaction

-- the one token that a response makes, where To has no tag
abbrev pub fresh_tag : Office → Setting → List ℕ
fresh_tag s e = token e.salt (s.tokens + 1)

abbrev pub tags_made : Request → ℕ
tags_made r = if has_tag r.parts.to.params then 0 else 1

-- a response to request r in transaction id, with its tag
abbrev pub responds_in : Office → Setting → Request → List Entry → ℕ → ℕ → List Header → Option PlanContents → Plan
responds_in s e r begun id status further registration =
    answers begun id (response_address r.parts.vias e.source)
    (responds r.parts e.source status (fresh_tag s e) further) registration (tags_made r)

-- the tag that the responses to a request have
abbrev pub tag_of : Result Message MessageError → Option (List ℕ)
tag_of (Ok (Kinds.Request r)) = None
tag_of (Ok (Kinds.Response r)) = tag_value r.parts.to.params
tag_of (Err fault) = None

abbrev pub tag_in : Option (List ℕ) → Option (List ℕ)
tag_in sent = option_and_then (λ bytes. tag_of (message_of bytes)) sent

-- a tag that is a token, as each that was read is, else the one in what was sent
abbrev pub token_or_sent : Option (List ℕ) → Option (List ℕ) → Option (List ℕ)
token_or_sent None sent = sent
token_or_sent (Some tag) sent = if is_run_of is_token_byte tag then Some tag else sent

-- the tag of the responses to a request (section 8.2.6.2): that of its To, or, where its To has none, the one in what
-- its transaction sent last
abbrev pub response_tag : Transaction → Option (List ℕ)
response_tag t = token_or_sent (tag_value t.parts.to.params) (tag_in t.last)

abbrev pub response_tag_in : Office → ℕ → List ℕ
response_tag_in s id = unwrap_or (option_and_then response_tag (at s.table.slots id)) stateless

-- 200 to a CANCEL, with the tag of the responses to the request that it names (RFC 3261 section 9.2)
abbrev pub cancels : Office → Setting → Request → List Entry → ℕ → ℕ → Plan
cancels s e r begun id other =
    answers begun id (response_address r.parts.vias e.source)
    (responds r.parts e.source 200 (response_tag_in s other) []) None 0

-- what is taken in a body (sections 20.1 and 20.2)
abbrev pub accept : Header
accept = named (codes "Accept") (codes "application/sdp")

abbrev pub accept_encoding : Header
accept_encoding = named (codes "Accept-Encoding") (codes "identity")

abbrev pub unsupported : Request → Header
unsupported r = named (codes "Unsupported") (joined_tags (required_tags r.headers))

-- the header fields that say more of a reason: when the request may come again (RFC 3261 section 14.2), the methods
-- that are offered (8.2.1), what is required and not there (8.2.2.3), what is taken in a body (8.2.3), and how long a
-- binding lasts at least (10.3)
abbrev pub headers_of : Office → Request → Reason → List Header
headers_of s r reasons.SecondOffer = retry_after ∷ []
headers_of s r reasons.MethodNotOffered = allow ∷ []
headers_of s r reasons.ExtensionRequired = unsupported r ∷ []
headers_of s r reasons.BodyType = accept ∷ []
headers_of s r reasons.BodyEncoding = accept_encoding ∷ []
headers_of s r (reasons.Register refusal) = refusal_headers s.least refusal
headers_of s r reason = []

-- a refusal of request r in transaction id
abbrev pub refuses_for : Office → Setting → Request → List Entry → ℕ → Reason → Plan
refuses_for s e r begun id reason = as_refusal reason (responds_in s e r begun id (status reason) (headers_of s r reason) None)

-- a REGISTER: all the bindings that its user then has, or why it is refused
abbrev pub registers_by : Office → Setting → Request → List Entry → ℕ → Option (List ℕ) → Result (List Binding) Refusal → Plan
registers_by s e r begun id user (Ok bindings) =
    responds_in s e r begun id 200 (map (contact_header e.now) bindings) (option_map (λ u. plan_of u bindings) user)
registers_by s e r begun id user (Err refusal) = refuses_for s e r begun id (reasons.Register refusal)

unfoldable pub registers : Office → Setting → Request → List Entry → ℕ → Plan
registers s e r begun id =
    let register = register_of (rules_of s.registrar) r in
    registers_by s e r begun id register.user (answer_of s.registrar register e.now)

unfoldable pub reply_row : Office → Setting → Request → List Entry → ℕ → Reply → Plan
reply_row s e r begun id (reply.CancelOf other) = cancels s e r begun id other
reply_row s e r begun id (reply.Refusal reason) = refuses_for s e r begun id reason
reply_row s e r begun id reply.MethodsListed = responds_in s e r begun id 200 (allow ∷ []) None
reply_row s e r begun id reply.Registration = registers s e r begun id
