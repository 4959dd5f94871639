-- What a rule was found by that hands on what was found.
use Rattle.std.proofs.Common.{◌≡◌, ℕ, ◌==◌, ◌||◌, Bool, true, false, not, List, codes, Option, Some, None, is_some, refl}
use Rattle.std.specs.Prelude.{slice_get}
use Rattle.sip_uri.specs.declared.uri.Uri.{Uri}
use Rattle.sip_message.specs.Contact.{contacts_of}
use Rattle.sip_message.specs.Words.{tag_value}
use Rattle.sip_message.specs.declared.message.Request.{Request}
use Rattle.registrar.specs.Registering.{user_of}
use Rattle.registrar.specs.Registrar.{rules_of}
use Rattle.transactions.specs.Contents.{merged}
use Rattle.transactions.specs.Slots.{named}
use Rattle.call_rules.specs.Content.{content_rule}
use Rattle.call_rules.specs.Reach.{contact_address}
use Rattle.call_rules.specs.Requests.{dialog_rule}
use Rattle.call_rules.specs.declared.content.ContentRule.{ContentRule}
use Rattle.call_rules.specs.DialogRule.{DialogRule}
use Rattle.call_rules.specs.DialogRule as dialog
use Rattle.calls.specs.Finding.{place_by_offer}
use Rattle.calls.specs.declared.standing_call.StandingCall.{StandingCall}
use Rattle.plans.specs.CallRule as calls
use Rattle.plans.specs.CallRule.{CallRule}
use Rattle.plans.specs.Office.{Office}
use Rattle.plans.specs.declared.reason.Reason.TheVariants as reasons
use Rattle.plans.specs.declared.rule.Reply.TheVariants as replies
use Rattle.responses.specs.Words.{has_header, is_declined_method, is_method, is_offered_method}
use Rattle.event_rows.specs.Rule.{Rule, Alone, Call, HandsOn}
use Rattle.event_rows.specs.Rules as checks
use Rattle.event_rows.specs.Rules.{request_rule, target}

module _ (s : Office) (r : Request) (now : ℕ) where
  -- a call begins to the target at which the callee is bound, with a body that is taken; a call that is handed on is
  -- the one at its place
  abbrev pub WasFound : Rule → Type 0
  WasFound (Alone reply) = Unit {0}
  WasFound (Call (calls.Begins to)) = (target s r now ≡ Some to) × (content_rule r.headers ≡ None)
  WasFound (Call (calls.Cancels place)) = Unit {0}
  WasFound (Call (calls.Leaves place end)) = Unit {0}
  WasFound (Call (calls.Offers place end c)) = slice_get s.calls.calls place ≡ Some c
  WasFound (Call (calls.Refreshes place end c)) = slice_get s.calls.calls place ≡ Some c

  abbrev WasFoundIf : Option Rule → Type 0
  WasFoundIf None = Unit {0}
  WasFoundIf (Some rule) = WasFound rule

  behind : (line : Option Rule) (next : Rule) → WasFoundIf line → WasFound next → WasFound (checks.otherwise line next)
  behind None next h n = n
  behind (Some rule) next h n = h

  when_found : (b : Bool) (rule : Rule) → WasFound rule → WasFoundIf (checks.when b rule)
  when_found true rule h = h
  when_found false rule h = tt

  cancels_found : (id : ℕ) (place : Option ℕ) → WasFound (checks.cancels id place)
  cancels_found id None = tt
  cancels_found id (Some place) = tt

  cancel_found : (id : Option ℕ) → WasFound (checks.cancel_rule s.calls.calls id)
  cancel_found None = tt
  cancel_found (Some id) = cancels_found id (place_by_offer id s.calls.calls)

  called_found : (rule : StandingCall → CallRule) (c : Option StandingCall) → ((x : StandingCall) → c ≡ Some x → WasFound (Call (rule x))) → WasFound (checks.with_call rule c)
  called_found rule None h = tt
  called_found rule (Some x) h = h x refl

  dialog_found : (rule : DialogRule) → WasFound (checks.of_dialog s.calls.calls rule)
  dialog_found dialog.NoDialog = tt
  dialog_found (dialog.OldNumber place end) = tt
  dialog_found (dialog.Leaves place end) = tt
  dialog_found (dialog.Offers place end) = called_found (calls.Offers place end) (slice_get s.calls.calls place) (λ x there. there)
  dialog_found (dialog.Plain place end) = called_found (calls.Refreshes place end) (slice_get s.calls.calls place) (λ x there. there)

  taken_found : (to : Uri) (rule : Option ContentRule) → target s r now ≡ Some to → content_rule r.headers ≡ rule → WasFound (checks.taken_rule to rule)
  taken_found to (Some rule) bound is = tt
  taken_found to None bound is = (bound, is)

  bound_found : (to : Option Uri) → target s r now ≡ to → WasFound (checks.bound_rule r to)
  bound_found None bound = tt
  bound_found (Some to) bound = taken_found to (content_rule r.headers) bound refl

  first_found : WasFound (checks.first_call_rule s r now)
  first_found =
      behind (checks.hops_line r) (checks.otherwise (checks.contact_line r) (checks.callee_rule s r now)) (when_found (r.max_forwards == 0) (checks.refused reasons.NoHops) tt)
      (behind (checks.contact_line r) (checks.callee_rule s r now) (when_found (not (is_some (contact_address (contacts_of r.headers)))) (checks.refused reasons.Unreached) tt)
      (behind (checks.user_line s r) (checks.bound_rule r (target s r now)) (when_found (not (checks.is_user s (user_of (rules_of s.registrar) r.uri))) (checks.refused reasons.UnknownUser) tt)
      (bound_found (target s r now) refl)))

  invite_found : WasFound (checks.invite_rule s r now)
  unfolding checks.invite_rule
  invite_found =
      behind (checks.dialog_line s r) (checks.first_call_rule s r now)
      (when_found (not (is_method (codes "INVITE") r) || is_some (tag_value r.parts.to.params)) (checks.of_dialog s.calls.calls (dialog_rule s.calls.calls r)) (dialog_found (dialog_rule s.calls.calls r)))
      first_found

  offered_found : WasFound (checks.offered_rule s r now)
  unfolding checks.offered_rule
  offered_found =
      let invite = checks.invite_rule s r now in
      let register = checks.otherwise (checks.register_line r) invite in
      let options = checks.otherwise (checks.options_line r) register in
      behind (checks.extension_line r) (checks.otherwise (checks.route_line r) options) (when_found (has_header (codes "Require") r.headers) (checks.refused reasons.ExtensionRequired) tt)
      (behind (checks.route_line r) options (when_found (has_header (codes "Record-Route") r.headers) (checks.refused reasons.ProxyBetween) tt)
      (behind (checks.options_line r) register (when_found (is_method (codes "OPTIONS") r) (Alone replies.MethodsListed) tt)
      (behind (checks.register_line r) invite (when_found (is_method (codes "REGISTER") r) (Alone replies.Registration) tt) invite_found)))

  pub request_found : WasFound (request_rule s r now)
  unfolding request_rule
  request_found =
      let offered = checks.offered_rule s r now in
      let known = checks.otherwise (checks.unknown_line r) offered in
      let declined = checks.otherwise (checks.declined_line r) known in
      let asked = named s.table.slots r.parts in
      behind (checks.cancel_line s r) (checks.otherwise (checks.merged_line s r) declined)
      (when_found (is_method (codes "CANCEL") r) (checks.cancel_rule s.calls.calls asked) (cancel_found asked))
      (behind (checks.merged_line s r) declined (when_found (merged s.table r.parts) (checks.refused reasons.Merged) tt)
      (behind (checks.declined_line r) known (when_found (is_declined_method r) (checks.refused reasons.MethodNotOffered) tt)
      (behind (checks.unknown_line r) offered (when_found (not (is_offered_method r)) (checks.refused reasons.UnknownMethod) tt) offered_found)))

  hands_on : (rule : Rule) → WasFound rule → HandsOn s.calls.calls r rule
  hands_on (Alone reply) h = tt
  hands_on (Call (calls.Begins to)) h = h.1
  hands_on (Call (calls.Cancels place)) h = tt
  hands_on (Call (calls.Leaves place end)) h = tt
  hands_on (Call (calls.Offers place end c)) h = h
  hands_on (Call (calls.Refreshes place end c)) h = h

  pub request_hands_on : HandsOn s.calls.calls r (request_rule s r now)
  request_hands_on = hands_on (request_rule s r now) request_found
