-- A response to a request of the server's own, as a list of cases: each row of the agent for it, with why it is that
-- one.
use Rattle.std.proofs.Common.{◌≡◌, ◌∙◌, ℕ, Bool, true, false, cond, List, Option, Some, None, refl, ap, sym, subst}
use Rattle.std.specs.Prelude.{slice_get}
use Rattle.std.proofs.lemmas.List.Quantifiers.{position-Some}
use Rattle.std.proofs.lemmas.Option.{get_or_from_slice_get, none-some, same_Some}
use Rattle.sip_message.specs.declared.message.Response.{Response}
use Rattle.sip_message.specs.declared.message.Parts.{Parts}
use Rattle.sip_message.specs.Words.{class_of, tag_text}
use Rattle.sip_message.specs.declared.words.Class.{Class}
use Rattle.sip_message.specs.declared.words.Class.TheVariants.{Provisional as Early, Success, Failure}
use Rattle.transactions.specs.declared.change.Entry.{Entry}
use Rattle.transactions.specs.declared.outcome.Outgoing.{Outgoing}
use Rattle.transactions.specs.declared.transaction.Transaction.{Transaction}
use Rattle.call_core.specs.declared.input.Input.TheVariants as inputs
use Rattle.calls.specs.Finding.{has_tag}
use Rattle.calls.specs.declared.standing_call.StandingCall.{StandingCall}
use Rattle.call_rules.specs.Content.{described}
use Rattle.call_rules.specs.Responses.{asked_place, at_place, callless_rule, further_rule, gone_rule, in_call, is_first, is_of_known_dialog, asked_end, is_open, late_rule, open_rule, response_rule}
use Rattle.call_rules.specs.Speaking.{is_acknowledged, may_offer}
use Rattle.call_rules.specs.declared.responses.ResponseRule.{ResponseRule}
use Rattle.call_rules.specs.declared.responses.ResponseRule.TheVariants as rule
use Rattle.call_steps.specs.Rows.{answers_leg, fork_row, late_row}
use Rattle.plans.specs.Office.{Office}
use Rattle.plans.specs.declared.setting.Setting.{Setting}
use Rattle.plans.specs.CallRows.{acks_again, occasion, of_plan, responds_by, takes, with_step}
use Rattle.plans.specs.Effect.{Effect}
use Rattle.plans.specs.Plan.{moves}

-- a request with these parts is the open offer of this call, which its tag names
pub record IsAsked (asked : Parts) (c : StandingCall) : Type 0 where
  pub offers : may_offer asked ≡ true
  pub tag : has_tag (tag_text asked.from.params) c ≡ true
  pub waits : is_open asked c ≡ true

-- the call that sent the request, if one is live, has a dialog other than that of this 2xx, or none yet
abbrev pub IsForked : List StandingCall → Parts → Response → Type 0
IsForked calls asked r = (place : ℕ) (c : StandingCall) → asked_place calls asked ≡ Some place → slice_get calls place ≡ Some c → is_of_known_dialog asked r c (asked_end asked c) ≡ false

-- ---- a response to the request of the client transaction `id`, after what the transactions do

pub data ResponseRow (s : Office) (e : Setting) (r : Response) (begun : List Entry) (send : Option Outgoing) (id : ℕ) (asked : Transaction) (x : Effect) : Type 0 where
  silent : x ≡ of_plan s (moves begun send) → ResponseRow s e r begun send id asked x
  provisional : (place status : ℕ) (c : StandingCall) → slice_get s.calls.calls place ≡ Some c → IsAsked asked.parts c → class_of r.status ≡ Early → status ≡ r.status
      → x ≡ takes s e begun send None place (inputs.Provisional status) None → ResponseRow s e r begun send id asked x
  answered : (place : ℕ) (c : StandingCall) → slice_get s.calls.calls place ≡ Some c → IsAsked asked.parts c → class_of r.status ≡ Success
      → x ≡ takes s e begun send (Some id) place (inputs.Answer (described r.headers r.body)) (answers_leg s.calls.calls place asked.parts r) → ResponseRow s e r begun send id asked x
  again : (place : ℕ) → is_acknowledged asked.parts r ≡ true → x ≡ of_plan s (acks_again s begun id) → ResponseRow s e r begun send id asked x
  fork : IsForked s.calls.calls asked.parts r → x ≡ with_step s.acks begun send None (fork_row s.calls (occasion s e) asked.parts r) → ResponseRow s e r begun send id asked x
  ack_alone : x ≡ with_step s.acks begun send None (late_row s.calls (occasion s e) asked.parts r) → ResponseRow s e r begun send id asked x
  refused : (place status : ℕ) (c : StandingCall) → slice_get s.calls.calls place ≡ Some c → IsAsked asked.parts c → class_of r.status ≡ Failure → status ≡ r.status
      → x ≡ takes s e begun send None place (inputs.Refusal status) None → ResponseRow s e r begun send id asked x

pub tag_at : (calls : List StandingCall) (asked : Parts) (place : ℕ) (c : StandingCall) → asked_place calls asked ≡ Some place → slice_get calls place ≡ Some c → has_tag (tag_text asked.from.params) c ≡ true
unfolding asked_place
tag_at calls asked place c named there =
    subst (λ x. has_tag (tag_text asked.from.params) x ≡ true) (get_or_from_slice_get calls place c c there) (position-Some (has_tag (tag_text asked.from.params)) calls place c named).1

open_view : (s : Office) (e : Setting) (r : Response) (begun : List Entry) (send : Option Outgoing) (id : ℕ) (asked : Transaction) (place : ℕ) (class : Class) (c : StandingCall)
    → slice_get s.calls.calls place ≡ Some c → IsAsked asked.parts c → class_of r.status ≡ class
    → ResponseRow s e r begun send id asked (responds_by s e r begun send id asked (open_rule place r.status class))
open_view s e r begun send id asked place Early c there h k = provisional place r.status c there h k refl refl
open_view s e r begun send id asked place Success c there h k = answered place c there h k refl
open_view s e r begun send id asked place Failure c there h k = refused place r.status c there h k refl refl

rule_if : (s : Office) (e : Setting) (r : Response) (begun : List Entry) (send : Option Outgoing) (id : ℕ) (asked : Transaction) (b : Bool) (x y : ResponseRule)
    → (b ≡ true → ResponseRow s e r begun send id asked (responds_by s e r begun send id asked x)) → (b ≡ false → ResponseRow s e r begun send id asked (responds_by s e r begun send id asked y))
    → ResponseRow s e r begun send id asked (responds_by s e r begun send id asked (cond b x y))
rule_if s e r begun send id asked true x y h n = h refl
rule_if s e r begun send id asked false x y h n = n refl

gone_view : (s : Office) (e : Setting) (r : Response) (begun : List Entry) (send : Option Outgoing) (id : ℕ) (asked : Transaction) → IsForked s.calls.calls asked.parts r
    → ResponseRow s e r begun send id asked (responds_by s e r begun send id asked (callless_rule asked.parts r))
gone_view s e r begun send id asked none =
    rule_if s e r begun send id asked (is_acknowledged asked.parts r) (gone_rule asked.parts) rule.Silent
    (λ b. rule_if s e r begun send id asked (is_first asked.parts) rule.Fork rule.AckAlone (λ f. fork none refl) (λ n. ack_alone refl)) (λ n. silent refl)

-- the call at the place that the request's tag names
known_not : (calls : List StandingCall) (asked : Parts) (r : Response) (place : ℕ) (c : StandingCall) → slice_get calls place ≡ Some c → asked_place calls asked ≡ Some place
    → is_of_known_dialog asked r c (asked_end asked c) ≡ false → IsForked calls asked r
known_not calls asked r place c there named unknown = λ i d at_i at_d.
    let place_is : i ≡ place = same_Some i place (sym at_i ∙ named) in
    let call_is : c ≡ d = same_Some c d (sym there ∙ ap (slice_get calls) (sym place_is) ∙ at_d) in
    subst (λ y. is_of_known_dialog asked r y (asked_end asked y) ≡ false) call_is unknown

none_known : (calls : List StandingCall) (asked : Parts) (r : Response) (place : ℕ) → slice_get calls place ≡ None → asked_place calls asked ≡ Some place → IsForked calls asked r
none_known calls asked r place there named = λ i d at_i at_d.
    let place_is : i ≡ place = same_Some i place (sym at_i ∙ named) in
    absurd (none-some d (sym there ∙ ap (slice_get calls) (sym place_is) ∙ at_d))

late_view : (s : Office) (e : Setting) (r : Response) (begun : List Entry) (send : Option Outgoing) (id : ℕ) (asked : Transaction) (place : ℕ) (c : StandingCall)
    → slice_get s.calls.calls place ≡ Some c → asked_place s.calls.calls asked.parts ≡ Some place → ResponseRow s e r begun send id asked (responds_by s e r begun send id asked (late_rule asked.parts r place c))
late_view s e r begun send id asked place c there named =
    rule_if s e r begun send id asked (is_acknowledged asked.parts r) (further_rule asked.parts r place c) rule.Silent
    (λ b. rule_if s e r begun send id asked (is_of_known_dialog asked.parts r c (asked_end asked.parts c)) (rule.Again place) rule.Fork (λ f. again place b refl) (λ f. fork (known_not s.calls.calls asked.parts r place c there named f) refl)) (λ n. silent refl)

in_call_view : (s : Office) (e : Setting) (r : Response) (begun : List Entry) (send : Option Outgoing) (id : ℕ) (asked : Transaction) (place : ℕ) (c : Option StandingCall)
    → slice_get s.calls.calls place ≡ c → asked_place s.calls.calls asked.parts ≡ Some place → may_offer asked.parts ≡ true → ResponseRow s e r begun send id asked (responds_by s e r begun send id asked (in_call asked.parts r place c))
in_call_view s e r begun send id asked place None there named offers = gone_view s e r begun send id asked (none_known s.calls.calls asked.parts r place there named)
in_call_view s e r begun send id asked place (Some c) there named offers =
    rule_if s e r begun send id asked (is_open asked.parts c) (open_rule place r.status (class_of r.status)) (late_rule asked.parts r place c)
    (λ h. open_view s e r begun send id asked place (class_of r.status) c there (record { offers = offers; tag = tag_at s.calls.calls asked.parts place c named there; waits = h }) refl) (λ n. late_view s e r begun send id asked place c there named)

at_place_view : (s : Office) (e : Setting) (r : Response) (begun : List Entry) (send : Option Outgoing) (id : ℕ) (asked : Transaction) (place : Option ℕ)
    → asked_place s.calls.calls asked.parts ≡ place → may_offer asked.parts ≡ true → ResponseRow s e r begun send id asked (responds_by s e r begun send id asked (at_place s.calls.calls asked.parts r place))
unfolding at_place
at_place_view s e r begun send id asked None named offers = gone_view s e r begun send id asked (λ place c at_place. absurd (none-some place (sym named ∙ at_place)))
at_place_view s e r begun send id asked (Some place) named offers = in_call_view s e r begun send id asked place (slice_get s.calls.calls place) refl named offers

pub response_rule_view : (s : Office) (e : Setting) (r : Response) (begun : List Entry) (send : Option Outgoing) (id : ℕ) (asked : Transaction)
    → ResponseRow s e r begun send id asked (responds_by s e r begun send id asked (response_rule s.calls.calls asked.parts r))
unfolding response_rule
response_rule_view s e r begun send id asked =
    rule_if s e r begun send id asked (may_offer asked.parts) (at_place s.calls.calls asked.parts r (asked_place s.calls.calls asked.parts)) rule.Silent
    (λ b. at_place_view s e r begun send id asked (asked_place s.calls.calls asked.parts) refl b) (λ n. silent refl)
