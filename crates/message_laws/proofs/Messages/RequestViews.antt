-- A request, as a list of cases: each row of the agent for it, with why it is that one.
use Rattle.std.proofs.Common.{◌≡◌, ℕ, ◌==◌, Bool, true, false, cond, not, ◌||◌, ◌⊎◌, inl, inr, List, codes, Option, Some, None, is_some, refl, subst, sym}
use Rattle.std.specs.Prelude.{slice_get}
use Rattle.std.proofs.lemmas.Bool.{false≢true}
use Rattle.std.proofs.lemmas.Slice.Eq.{bytes_eq-Decides}
use Rattle.sip_uri.specs.declared.uri.Uri.{Uri}
use Rattle.sip_message.specs.declared.message.Request.{Request}
use Rattle.sip_message.specs.Contact.{contacts_of}
use Rattle.sip_message.specs.Words.{tag_value}
use Rattle.sdp.specs.declared.description.Description.{Description}
use Rattle.registrar.specs.Registering.{user_of}
use Rattle.registrar.specs.Registrar.{rules_of}
use Rattle.offer_answer.specs.Checks.{offer_fault}
use Rattle.transactions.specs.declared.change.Entry.{Entry}
use Rattle.transactions.specs.Contents.{merged}
use Rattle.transactions.specs.Slots.{named}
use Rattle.call_media.specs.declared.end.End.{End}
use Rattle.call_media.specs.Ends.{other}
use Rattle.call_core.specs.declared.input.Input.TheVariants as inputs
use Rattle.call_core.specs.Calls.{dialog_of, has_number_left}
use Rattle.calls.specs.Changes.{unchanged}
use Rattle.calls.specs.Finding.{place_by_offer}
use Rattle.calls.specs.declared.standing_call.StandingCall.{StandingCall}
use Rattle.call_rules.specs.Content.{described}
use Rattle.call_rules.specs.Offers.{offer_rule, plain_rule}
use Rattle.call_rules.specs.Reach.{contact_address}
use Rattle.call_rules.specs.Requests.{dialog_rule}
use Rattle.call_rules.specs.declared.content.ContentRule.{ContentRule}
use Rattle.call_rules.specs.DialogRule.{DialogRule}
use Rattle.call_rules.specs.DialogRule as dialogrules
use Rattle.call_steps.specs.Rows.{counts, first_row, refreshes}
use Rattle.plans.specs.Office.{Office}
use Rattle.plans.specs.CallRule as callrules
use Rattle.plans.specs.declared.reason.Reason.{Reason}
use Rattle.plans.specs.declared.reason.Reason.TheVariants as reasons
use Rattle.plans.specs.declared.rule.Reply.{Reply}
use Rattle.plans.specs.declared.rule.Reply.TheVariants as replies
use Rattle.plans.specs.declared.setting.Setting.{Setting}
use Rattle.plans.specs.CallRows.{are_full, begins, call_row, first_by, has_pairs, has_pairs_for, is_unfit, occasion, of_plan, offers, offers_by, okay_plan, passes, passes_if, passes_in, puts_if, reason_of_rule, refreshes_at, refreshes_by, refuses, refuses_first, tag_at, takes_request, unless_full, with_step}
use Rattle.plans.specs.Effect.{Effect}
use Rattle.plans.specs.Replies.{reply_row}
use Rattle.event_rows.specs.Rule.{Rule}
use Rattle.event_rows.specs.Rule as rules
use Rattle.event_rows.specs.Rows.{rule_row}
use Rattle.event_rows.specs.Rules as checks
use Rattle.event_rows.specs.Rules.{request_rule, target}
use Rattle.event_rows.proofs.RuleLaws.{WasFound, request_found}
use Rattle.responses.specs.Responding.{stateless}
use Rattle.responses.specs.Words.{has_header, is_declined_method, is_offered_method, is_method as request_method}
use Rattle.message_laws.proofs.Messages.Repeats.{FitsReply}

-- ---- why

-- a first INVITE, which is in no dialog
abbrev pub IsFirst : Request → Type 0
IsFirst r = (request_method (codes "INVITE") r ≡ true) × (tag_value r.parts.to.params ≡ None) × (is_some (contact_address (contacts_of r.headers)) ≡ true)

-- an INVITE without To tag, whose Contact has an address, to a user who is bound there, with an offer that the relay
-- carries and has pairs for
pub record IsFirstInvite (s : Office) (now : ℕ) (r : Request) (to : Uri) (offer : Description) : Type 0 where
  pub invite : request_method (codes "INVITE") r ≡ true
  pub no_tag : tag_value r.parts.to.params ≡ None
  pub reached : is_some (contact_address (contacts_of r.headers)) ≡ true
  pub bound : target s r now ≡ Some to
  pub described : described r.headers r.body ≡ Some offer
  pub fit : is_some (offer_fault s.range offer None) ≡ false
  pub paired : has_pairs s now offer ≡ true

-- an offer that the end may make there, and that the relay carries and has pairs for
pub record IsPassedOffer (s : Office) (now : ℕ) (r : Request) (place : ℕ) (end : End) (c : StandingCall) (offer : Description) : Type 0 where
  pub there : slice_get s.calls.calls place ≡ Some c
  pub passes : reason_of_rule (offer_rule r end c.call) ≡ None
  pub described : described r.headers r.body ≡ Some offer
  pub fit : is_unfit c.call end offer ≡ false
  pub paired : has_pairs_for s now c.call end offer ≡ true
  pub numbered : has_number_left (dialog_of (other end) c.call) ≡ true

-- a request that may be in a dialog: its method is offered, and is none that no dialog has
pub record IsInside (r : Request) : Type 0 where
  pub offered : is_offered_method r ≡ true
  pub no_options : request_method (codes "OPTIONS") r ≡ false
  pub no_register : request_method (codes "REGISTER") r ≡ false

-- a CANCEL that names the transaction of this number
pub record IsCancel (s : Office) (r : Request) (other : ℕ) : Type 0 where
  pub method : request_method (codes "CANCEL") r ≡ true
  pub named : named s.table.slots r.parts ≡ Some other

-- one without an offer, which the end may send there
pub record IsRefresh (s : Office) (r : Request) (place : ℕ) (end : End) : Type 0 where
  pub rule : dialog_rule s.calls.calls r ≡ dialogrules.Plain place end
  pub call : StandingCall
  pub passes : reason_of_rule (plain_rule r end call.call) ≡ None
  pub inside : IsInside r

-- a request that counts in the dialog of the call there with the end, be it an offer or not
abbrev pub IsCounted : Office → Request → ℕ → End → Type 0
IsCounted s r place end = (dialog_rule s.calls.calls r ≡ dialogrules.Offers place end) ⊎ (dialog_rule s.calls.calls r ≡ dialogrules.Plain place end)

pub by_if : {X : Type 0} (P : X → Type 0) (b : Bool) (x y : X) → (b ≡ true → P x) → (b ≡ false → P y) → P (cond b x y)
by_if P true x y p q = p refl
by_if P false x y p q = q refl

-- ---- a request that begins transaction id, after what the transactions do

pub data RequestRow (s : Office) (e : Setting) (r : Request) (begun : List Entry) (id : ℕ) (x : Effect) : Type 0 where
  -- no call has to do with it
  replied : (reply : Reply) → request_rule s r e.now ≡ rules.Alone reply → x ≡ of_plan s (reply_row s e r begun id reply) → RequestRow s e r begun id x
  -- a first INVITE that is refused, and one that is passed on
  unfit : (reason : Reason) → x ≡ refuses_first s e r begun id reason → RequestRow s e r begun id x
  asks_callee : (to : Uri) (offer : Description) → IsFirstInvite s e.now r to offer → x ≡ with_step s.acks begun None None (first_row s.calls (occasion s e) r id e.source to offer)
      → RequestRow s e r begun id x
  -- a call takes a CANCEL, or a BYE
  cancelled : (other place : ℕ) → IsCancel s r other → place_by_offer other s.calls.calls ≡ Some place
      → x ≡ takes_request s e r begun id place inputs.Cancel None (tag_at (slice_get s.calls.calls place)) → RequestRow s e r begun id x
  left : (place : ℕ) (end : End) → dialog_rule s.calls.calls r ≡ dialogrules.Leaves place end
      → x ≡ takes_request s e r begun id place (inputs.Bye end) (counts s.calls.calls place end r.parts.cseq.number) stateless → RequestRow s e r begun id x
  -- a request in a dialog that the server refuses
  counted_alone : (place : ℕ) (end : End) (reason : Reason) → IsCounted s r place end → x ≡ refuses s e r begun id place end reason → RequestRow s e r begun id x
  -- an offer inside a call that is passed on
  passed_on : (place : ℕ) (end : End) (c : StandingCall) (offer : Description) → dialog_rule s.calls.calls r ≡ dialogrules.Offers place end → IsPassedOffer s e.now r place end c offer
      → x ≡ passes s e r begun id place end offer → RequestRow s e r begun id x
  refreshed : (place : ℕ) (end : End) → IsRefresh s r place end
      → x ≡ record { plan = okay_plan s e r begun id; calls = unchanged (puts_if s.calls place (refreshes s.calls.calls place end r)); acks = s.acks } → RequestRow s e r begun id x

-- ---- the rules of requests

module _ (s : Office) (r : Request) where
  -- why a rule is that one
  abbrev pub FitsRule : Rule → Type 0
  FitsRule (rules.Alone reply) = FitsReply r reply
  FitsRule (rules.Call (callrules.Begins to)) = IsFirst r
  FitsRule (rules.Call (callrules.Cancels place)) = (other : ℕ) × IsCancel s r other × (place_by_offer other s.calls.calls ≡ Some place)
  FitsRule (rules.Call (callrules.Leaves place end)) = dialog_rule s.calls.calls r ≡ dialogrules.Leaves place end
  FitsRule (rules.Call (callrules.Offers place end c)) = (dialog_rule s.calls.calls r ≡ dialogrules.Offers place end) × (slice_get s.calls.calls place ≡ Some c)
  FitsRule (rules.Call (callrules.Refreshes place end c)) = (dialog_rule s.calls.calls r ≡ dialogrules.Plain place end) × IsInside r

  -- a line, and what comes after it
  unless : (b : Bool) (rule next : Rule) → (b ≡ true → FitsRule rule) → (b ≡ false → FitsRule next) → FitsRule (checks.otherwise (checks.when b rule) next)
  unless true rule next h n = h refl
  unless false rule next h n = n refl

  is_the_method : (name : List ℕ) → request_method name r ≡ true → r.method ≡ name
  is_the_method name is = (bytes_eq-Decides r.method name).0 is

  -- ---- CANCEL

  cancels_fit : (id : ℕ) (place : Option ℕ) → IsCancel s r id → place_by_offer id s.calls.calls ≡ place → FitsRule (checks.cancels id place)
  cancels_fit id None why at_place = is_the_method (codes "CANCEL") why.method
  cancels_fit id (Some place) why at_place = (id, why, at_place)

  cancel_fits : (id : Option ℕ) → request_method (codes "CANCEL") r ≡ true → named s.table.slots r.parts ≡ id → FitsRule (checks.cancel_rule s.calls.calls id)
  cancel_fits None method there = tt
  cancel_fits (Some id) method there = cancels_fit id (place_by_offer id s.calls.calls) (record { method = method; named = there }) refl

  -- ---- a first INVITE

  taken_fits : (to : Uri) (rule : Option ContentRule) → IsFirst r → FitsRule (checks.taken_rule to rule)
  taken_fits to (Some rule) first = tt
  taken_fits to None first = first

  bound_fits : (to : Option Uri) → IsFirst r → FitsRule (checks.bound_rule r to)
  bound_fits None first = tt
  bound_fits (Some to) first = taken_fits to _ first

  callee_fits : (now : ℕ) → IsFirst r → FitsRule (checks.callee_rule s r now)
  callee_fits now first =
      unless (not (checks.is_user s (user_of (rules_of s.registrar) r.uri))) (checks.refused reasons.UnknownUser) (checks.bound_rule r (target s r now)) (λ b. tt) (λ known. bound_fits (target s r now) first)

  first_of : (invite : Bool) (tag : Option (List ℕ)) → (not invite || is_some tag) ≡ false → (invite ≡ true) × (tag ≡ None)
  first_of true None e = (refl, refl)
  first_of true (Some tag) e = absurd (false≢true (sym e))
  first_of false None e = absurd (false≢true (sym e))
  first_of false (Some tag) e = absurd (false≢true (sym e))

  not_false : (b : Bool) → not b ≡ false → b ≡ true
  not_false true e = refl
  not_false false e = absurd (false≢true (sym e))

  first_fits : (now : ℕ) → (request_method (codes "INVITE") r ≡ true) × (tag_value r.parts.to.params ≡ None) → FitsRule (checks.first_call_rule s r now)
  first_fits now first =
      unless (r.max_forwards == 0) (checks.refused reasons.NoHops) (checks.otherwise (checks.contact_line r) (checks.callee_rule s r now)) (λ b. tt)
      (λ hops. unless (not (is_some (contact_address (contacts_of r.headers)))) (checks.refused reasons.Unreached) (checks.callee_rule s r now) (λ b. tt)
      (λ e. callee_fits now (first.0, first.1, not_false (is_some (contact_address (contacts_of r.headers))) e)))

  -- ---- in a dialog

  offers_fit : (place : ℕ) (end : End) (c : Option StandingCall) → dialog_rule s.calls.calls r ≡ dialogrules.Offers place end → slice_get s.calls.calls place ≡ c → FitsRule (checks.with_call (callrules.Offers place end) c)
  offers_fit place end None e there = tt
  offers_fit place end (Some c) e there = (e, there)

  refreshes_fit : (place : ℕ) (end : End) (c : Option StandingCall) → dialog_rule s.calls.calls r ≡ dialogrules.Plain place end → IsInside r → FitsRule (checks.with_call (callrules.Refreshes place end) c)
  refreshes_fit place end None e inside = tt
  refreshes_fit place end (Some c) e inside = (e, inside)

  dialog_fits : (rule : DialogRule) → IsInside r → dialog_rule s.calls.calls r ≡ rule → FitsRule (checks.of_dialog s.calls.calls rule)
  dialog_fits dialogrules.NoDialog inside e = tt
  dialog_fits (dialogrules.OldNumber place end) inside e = tt
  dialog_fits (dialogrules.Leaves place end) inside e = e
  dialog_fits (dialogrules.Offers place end) inside e = offers_fit place end (slice_get s.calls.calls place) e refl
  dialog_fits (dialogrules.Plain place end) inside e = refreshes_fit place end (slice_get s.calls.calls place) e inside

  invite_fits : (now : ℕ) → IsInside r → FitsRule (checks.invite_rule s r now)
  unfolding checks.invite_rule
  invite_fits now inside =
      unless (not (request_method (codes "INVITE") r) || is_some (tag_value r.parts.to.params)) (checks.of_dialog s.calls.calls (dialog_rule s.calls.calls r)) (checks.first_call_rule s r now)
      (λ b. dialog_fits (dialog_rule s.calls.calls r) inside refl) (λ e. first_fits now (first_of (request_method (codes "INVITE") r) (tag_value r.parts.to.params) e))

  -- ---- in their order

  offered_fits : (now : ℕ) → is_offered_method r ≡ true → FitsRule (checks.offered_rule s r now)
  unfolding checks.offered_rule
  offered_fits now offered =
      let invite = checks.invite_rule s r now in
      let register = checks.otherwise (checks.register_line r) invite in
      let options = checks.otherwise (checks.options_line r) register in
      unless (has_header (codes "Require") r.headers) (checks.refused reasons.ExtensionRequired) (checks.otherwise (checks.route_line r) options) (λ b. tt)
      (λ a. unless (has_header (codes "Record-Route") r.headers) (checks.refused reasons.ProxyBetween) options (λ b. tt)
      (λ b. unless (request_method (codes "OPTIONS") r) (rules.Alone replies.MethodsListed) register (is_the_method (codes "OPTIONS"))
      (λ no_options. unless (request_method (codes "REGISTER") r) (rules.Alone replies.Registration) invite (is_the_method (codes "REGISTER"))
      (λ no_register. invite_fits now (record { offered = offered; no_options = no_options; no_register = no_register })))))

  pub request_fits : (now : ℕ) → FitsRule (request_rule s r now)
  unfolding request_rule
  request_fits now =
      let offered = checks.offered_rule s r now in
      let known = checks.otherwise (checks.unknown_line r) offered in
      let declined = checks.otherwise (checks.declined_line r) known in
      let cancelled = named s.table.slots r.parts in
      unless (request_method (codes "CANCEL") r) (checks.cancel_rule s.calls.calls cancelled) (checks.otherwise (checks.merged_line s r) declined) (λ method. cancel_fits cancelled method refl)
      (λ a. unless (merged s.table r.parts) (checks.refused reasons.Merged) declined (λ b. tt)
      (λ b. unless (is_declined_method r) (checks.refused reasons.MethodNotOffered) known (λ c. tt)
      (λ c. unless (not (is_offered_method r)) (checks.refused reasons.UnknownMethod) offered (λ d. tt) (λ e. offered_fits now (not_false (is_offered_method r) e)))))

  pub alone_fits : (now : ℕ) (reply : Reply) → request_rule s r now ≡ rules.Alone reply → FitsReply r reply
  alone_fits now reply is = subst FitsRule is (request_fits now)

-- ---- the rows of requests

module _ (s : Office) (e : Setting) (r : Request) (begun : List Entry) (id : ℕ) where
  abbrev Row : Effect → Type 0
  Row = RequestRow s e r begun id

  -- ---- a first INVITE

  first_view : (to : Uri) (offer : Description) → IsFirst r → target s r e.now ≡ Some to → described r.headers r.body ≡ Some offer → Row (first_by s e r begun id to offer)
  first_view to offer first bound said =
      let step = first_row s.calls (occasion s e) r id e.source to offer in
      let refusal : Reason → Effect = λ reason. refuses_first s e r begun id reason in
      let full = unless_full s e r begun id step in
      by_if Row (is_some (offer_fault s.range offer None)) (refusal reasons.UnfitOffer) (cond (has_pairs s e.now offer) full (refusal reasons.NoPorts)) (λ b. unfit reasons.UnfitOffer refl)
      (λ fit. by_if Row (has_pairs s e.now offer) full (refusal reasons.NoPorts)
      (λ paired. by_if Row (are_full s) (refusal reasons.TooManyCalls) (with_step s.acks begun None None step) (λ b. unfit reasons.TooManyCalls refl)
      (λ room. asks_callee to offer (record { invite = first.0; no_tag = first.1; reached = first.2; bound = bound; described = said; fit = fit; paired = paired }) refl))
      (λ b. unfit reasons.NoPorts refl))

  begins_view : (to : Uri) (offer : Option Description) → IsFirst r → target s r e.now ≡ Some to → described r.headers r.body ≡ offer → Row (begins s e r begun id to offer)
  begins_view to None first bound said = unfit reasons.Undescribed refl
  begins_view to (Some offer) first bound said = first_view to offer first bound said

  -- ---- in a dialog

  module _ (place : ℕ) (end : End) where
    refused_view : (reason : Reason) → IsCounted s r place end → Row (refuses s e r begun id place end reason)
    refused_view reason counted = counted_alone place end reason counted refl

    module _ (c : StandingCall) (rule : dialog_rule s.calls.calls r ≡ dialogrules.Offers place end) (there : slice_get s.calls.calls place ≡ Some c) where
      passes_if_view : (offer : Description) → reason_of_rule (offer_rule r end c.call) ≡ None → described r.headers r.body ≡ Some offer → Row (passes_if s e r begun id place end c.call offer)
      passes_if_view offer passing said =
          let refusal : Reason → Effect = λ reason. refuses s e r begun id place end reason in
          let asks = passes s e r begun id place end offer in
          let numbered = cond (has_number_left (dialog_of (other end) c.call)) asks (refusal reasons.NumberAtItsEnd) in
          by_if Row (is_unfit c.call end offer) (refusal reasons.UnfitOffer) (cond (has_pairs_for s e.now c.call end offer) numbered (refusal reasons.NoPorts)) (λ b. refused_view reasons.UnfitOffer (inl rule))
          (λ fit. by_if Row (has_pairs_for s e.now c.call end offer) numbered (refusal reasons.NoPorts)
          (λ paired. by_if Row (has_number_left (dialog_of (other end) c.call)) asks (refusal reasons.NumberAtItsEnd)
          (λ numbers. passed_on place end c offer rule (record { there = there; passes = passing; described = said; fit = fit; paired = paired; numbered = numbers }) refl)
          (λ b. refused_view reasons.NumberAtItsEnd (inl rule))) (λ b. refused_view reasons.NoPorts (inl rule)))

      passes_in_view : (offer : Option Description) → reason_of_rule (offer_rule r end c.call) ≡ None → described r.headers r.body ≡ offer → Row (passes_in s e r begun id place end c.call offer)
      passes_in_view None passing said = refused_view reasons.Undescribed (inl rule)
      passes_in_view (Some offer) passing said = passes_if_view offer passing said

      offers_by_view : (reason : Option Reason) → reason_of_rule (offer_rule r end c.call) ≡ reason → Row (offers_by s e r begun id place end c.call reason)
      offers_by_view (Some reason) is = refused_view reason (inl rule)
      offers_by_view None passing = passes_in_view (described r.headers r.body) passing refl

      offers_view : Row (offers s e r begun id place end c.call)
      unfolding offers
      offers_view = offers_by_view (reason_of_rule (offer_rule r end c.call)) refl

    module _ (c : StandingCall) (rule : dialog_rule s.calls.calls r ≡ dialogrules.Plain place end) (inside : IsInside r) where
      refreshes_by_view : (reason : Option Reason) → reason_of_rule (plain_rule r end c.call) ≡ reason → Row (refreshes_by s e r begun id place end reason)
      refreshes_by_view (Some reason) is = refused_view reason (inr rule)
      refreshes_by_view None passing = refreshed place end (record { rule = rule; call = c; passes = passing; inside = inside }) refl

      refreshes_view : Row (refreshes_at s e r begun id place end c.call)
      unfolding refreshes_at
      refreshes_view = refreshes_by_view (reason_of_rule (plain_rule r end c.call)) refl

  -- ---- by its rule

  rule_view : (rule : Rule) → request_rule s r e.now ≡ rule → FitsRule s r rule → Row (rule_row s e r begun id rule)
  unfolding call_row
  rule_view (rules.Alone reply) is fits = replied reply is refl
  rule_view (rules.Call (callrules.Begins to)) is fits = begins_view to (described r.headers r.body) fits (subst (WasFound s r e.now) is (request_found s r e.now)).0 refl
  rule_view (rules.Call (callrules.Cancels place)) is fits = cancelled fits.0 place fits.1 fits.2 refl
  rule_view (rules.Call (callrules.Leaves place end)) is fits = left place end fits refl
  rule_view (rules.Call (callrules.Offers place end c)) is fits = offers_view place end c fits.0 fits.1
  rule_view (rules.Call (callrules.Refreshes place end c)) is fits = refreshes_view place end c fits.0 fits.1

  pub request_view : Row (rule_row s e r begun id (request_rule s r e.now))
  request_view = rule_view (request_rule s r e.now) refl (request_fits s r e.now)
