-- Which rule a request falls under that begins a transaction: the order of checks. The first line that applies decides.
use Rattle.std.specs.Prelude.{ℕ, ◌==◌, ◌||◌, Bool, true, false, not, List, [], ◌∷◌, codes, slice_get, Option, Some, None, is_some}
use Rattle.sip_uri.specs.declared.uri.Uri.{Uri}
use Rattle.sip_message.specs.declared.message.Request.{Request}
use Rattle.sip_message.specs.Contact.{contacts_of}
use Rattle.sip_message.specs.Words.{tag_value}
use Rattle.registrar.specs.Bound.{target_of}
use Rattle.registrar.specs.Registering.{user_of, is_known}
use Rattle.registrar.specs.Registrar.{rules_of, bindings_at}
use Rattle.transactions.specs.Contents.{merged}
use Rattle.transactions.specs.Slots.{named}
use Rattle.event_rows.specs.Rule.{Rule, Alone, Call}
use Rattle.plans.specs.declared.reason.Reason.{Reason}
use Rattle.plans.specs.declared.reason.Reason.TheVariants as reasons
use Rattle.plans.specs.declared.rule.Reply.TheVariants.{CancelOf, Refusal, MethodsListed, Registration}
use Rattle.plans.specs.CallRule as calls
use Rattle.plans.specs.CallRule.{CallRule}
use Rattle.calls.specs.declared.standing_call.StandingCall.{StandingCall}
use Rattle.calls.specs.Finding.{place_by_offer}
use Rattle.call_rules.specs.DialogRule.{DialogRule}
use Rattle.call_rules.specs.DialogRule as dialog
use Rattle.call_rules.specs.declared.content.ContentRule.{ContentRule}
use Rattle.call_rules.specs.Requests.{dialog_rule}
use Rattle.call_rules.specs.Content.{content_rule}
use Rattle.call_rules.specs.Reach.{contact_address}
use Rattle.plans.specs.CallRows.{reason_of_content}
use Rattle.plans.specs.Office.{Office}
use Rattle.responses.specs.Words.{is_method, has_header, is_declined_method, is_offered_method}

-- None: the line does not apply
abbrev pub when : Bool → Rule → Option Rule
when true rule = Some rule
when false rule = None

abbrev pub otherwise : Option Rule → Rule → Rule
otherwise (Some rule) next = rule
otherwise None next = next

abbrev pub refused : Reason → Rule
refused reason = Alone (Refusal reason)

-- ---- the lines

-- the call whose offer it cancels takes it
abbrev pub cancels : ℕ → Option ℕ → Rule
cancels id None = Alone (CancelOf id)
cancels id (Some place) = Call (calls.Cancels place)

abbrev pub cancel_rule : List StandingCall → Option ℕ → Rule
cancel_rule standing None = refused reasons.NothingToCancel
cancel_rule standing (Some id) = cancels id (place_by_offer id standing)

-- a CANCEL gets 200 where a request has its branch and sent-by (RFC 3261 section 9.2)
abbrev pub cancel_line : Office → Request → Option Rule
cancel_line s r = when (is_method (codes "CANCEL") r) (cancel_rule s.calls.calls (named s.table.slots r.parts))

-- a request that came on another way too (section 8.2.2.2)
abbrev pub merged_line : Office → Request → Option Rule
merged_line s r = when (merged s.table r.parts) (refused reasons.Merged)

-- a method that is known and not offered (section 8.2.1)
abbrev pub declined_line : Request → Option Rule
declined_line r = when (is_declined_method r) (refused reasons.MethodNotOffered)

-- a method that is not known
abbrev pub unknown_line : Request → Option Rule
unknown_line r = when (not (is_offered_method r)) (refused reasons.UnknownMethod)

-- an extension is required (section 8.2.2.3)
abbrev pub extension_line : Request → Option Rule
extension_line r = when (has_header (codes "Require") r.headers) (refused reasons.ExtensionRequired)

-- a proxy is in between, which is not served
abbrev pub route_line : Request → Option Rule
route_line r = when (has_header (codes "Record-Route") r.headers) (refused reasons.ProxyBetween)

abbrev pub options_line : Request → Option Rule
options_line r = when (is_method (codes "OPTIONS") r) (Alone MethodsListed)

abbrev pub register_line : Request → Option Rule
register_line r = when (is_method (codes "REGISTER") r) (Alone Registration)

-- ---- dialogs (section 12.2.2)

-- the call at the place takes it
abbrev pub with_call : (StandingCall → CallRule) → Option StandingCall → Rule
with_call rule None = refused reasons.NoDialog
with_call rule (Some call) = Call (rule call)

abbrev pub of_dialog : List StandingCall → DialogRule → Rule
of_dialog standing dialog.NoDialog = refused reasons.NoDialog
of_dialog standing (dialog.OldNumber place end) = refused reasons.OldNumber
of_dialog standing (dialog.Leaves place end) = Call (calls.Leaves place end)
of_dialog standing (dialog.Offers place end) = with_call (calls.Offers place end) (slice_get standing place)
of_dialog standing (dialog.Plain place end) = with_call (calls.Refreshes place end) (slice_get standing place)

-- a request that is not an INVITE, or whose To has a tag, is in a dialog
abbrev pub dialog_line : Office → Request → Option Rule
dialog_line s r =
    when (not (is_method (codes "INVITE") r) || is_some (tag_value r.parts.to.params)) (of_dialog s.calls.calls (dialog_rule s.calls.calls r))

-- ---- a first call

-- no further hop is left (section 16.3)
abbrev pub hops_line : Request → Option Rule
hops_line r = when (r.max_forwards == 0) (refused reasons.NoHops)

abbrev pub contact_line : Request → Option Rule
contact_line r = when (not (is_some (contact_address (contacts_of r.headers)))) (refused reasons.Unreached)

-- the Request-URI names a user of the office
abbrev pub is_user : Office → Option (List ℕ) → Bool
is_user s None = false
is_user s (Some user) = is_known (rules_of s.registrar) user

abbrev pub user_line_by : Office → Option (List ℕ) → Option Rule
user_line_by s user = when (not (is_user s user)) (refused reasons.UnknownUser)

abbrev pub user_line : Office → Request → Option Rule
user_line s r = user_line_by s (user_of (rules_of s.registrar) r.uri)

-- where that user is bound (section 16.5)
abbrev pub target_by : Office → ℕ → Option (List ℕ) → Option Uri
target_by s now None = None
target_by s now (Some user) = target_of (bindings_at s.registrar user now)

abbrev pub target : Office → Request → ℕ → Option Uri
target s r now = target_by s now (user_of (rules_of s.registrar) r.uri)

-- whether its body is taken (section 8.2.3)
abbrev pub taken_rule : Uri → Option ContentRule → Rule
taken_rule to (Some rule) = refused (reason_of_content rule)
taken_rule to None = Call (calls.Begins to)

abbrev pub bound_rule : Request → Option Uri → Rule
bound_rule r None = refused reasons.Unbound
bound_rule r (Some to) = taken_rule to (content_rule r.headers)

abbrev pub callee_by : Office → Request → ℕ → Option (List ℕ) → Rule
callee_by s r now user = otherwise (user_line_by s user) (bound_rule r (target_by s now user))

abbrev pub callee_rule : Office → Request → ℕ → Rule
callee_rule s r now = callee_by s r now (user_of (rules_of s.registrar) r.uri)

abbrev pub first_call_rule : Office → Request → ℕ → Rule
first_call_rule s r now = otherwise (hops_line r) (otherwise (contact_line r) (callee_rule s r now))

-- ---- all, in their order

unfoldable pub invite_rule : Office → Request → ℕ → Rule
invite_rule s r now = otherwise (dialog_line s r) (first_call_rule s r now)

unfoldable pub offered_rule : Office → Request → ℕ → Rule
offered_rule s r now =
    otherwise (extension_line r)
    (otherwise (route_line r)
    (otherwise (options_line r)
    (otherwise (register_line r)
    (invite_rule s r now))))

unfoldable pub request_rule : Office → Request → ℕ → Rule
request_rule s r now =
    otherwise (cancel_line s r)
    (otherwise (merged_line s r)
    (otherwise (declined_line r)
    (otherwise (unknown_line r)
    (offered_rule s r now))))
