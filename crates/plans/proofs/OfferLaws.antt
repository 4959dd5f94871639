-- Which response an offer inside a call gets, by why it is refused or that it may pass.
use Rattle.std.proofs.Common.{◌≡◌, ◌≢◌, ◌∙◌, ℕ, ◌<◌, ◌≤◌, ◌==◌, Bool, true, false, cond, is_some, length, List, Option, Some, None, refl, ap, sym, subst}
use Rattle.std.specs.Prelude.{option_map}
use Rattle.std.proofs.lemmas.Bool.{lt-leb, le-leb}
use Rattle.port_pool.specs.Holdings.{free_pairs}
use Rattle.sip_message.specs.Contact.{contacts_of}
use Rattle.sip_message.specs.declared.message.Request.{Request}
use Rattle.sdp.specs.declared.description.Description.{Description}
use Rattle.offer_answer.specs.declared.fault.OfferFault.{OfferFault}
use Rattle.offer_answer.specs.Checks.{offer_fault}
use Rattle.transactions.specs.declared.change.Entry.{Entry}
use Rattle.call_media.specs.declared.end.End.{End}
use Rattle.call_media.specs.Ends.{other}
use Rattle.call_media.specs.Offers.{fresh_needed}
use Rattle.call_media.specs.Sessions.{previous}
use Rattle.call_core.specs.declared.call.Call.{Call}
use Rattle.call_core.specs.declared.clash.Clash.{Clash}
use Rattle.call_core.specs.declared.input.Input.TheVariants as inputs
use Rattle.call_core.specs.declared.refusal.CallRefusal.{CallRefusal}
use Rattle.call_core.specs.declared.refusal.CallRefusal.TheVariants as refusals
use Rattle.call_core.specs.declared.row.Row.{Row}
use Rattle.call_core.specs.declared.signal.OfferMethod.{OfferMethod}
use Rattle.call_core.specs.declared.signal.OfferMethod.TheVariants.{Invite, Update}
use Rattle.call_core.specs.declared.signal.Signal.TheVariants as signals
use Rattle.call_core.specs.declared.stage.Stage.{Stage}
use Rattle.call_core.specs.declared.stage.Stage.TheVariants.{Asked, Cancelling, Answered, Settled, Reasked, Reanswered, Updating, Ending}
use Rattle.call_core.specs.declared.stage.Standing.{Standing}
use Rattle.call_core.specs.Calls.{clash_in, dialog_of, has_number_left, holds_in}
use Rattle.call_core.specs.Refusals.{IsPassable, MayTakeIn, RefusesLater}
use Rattle.call_core.specs.Settled.{settled_row}
use Rattle.call_core.specs.Table.{row_in, row_of}
use Rattle.call_core.specs.Plans.{IfLine}
use Rattle.port_pool.specs.Pool as pools
use Rattle.call_rules.specs.declared.content.ContentRule.{ContentRule}
use Rattle.call_rules.specs.Content.{content_rule}
use Rattle.call_rules.specs.Reach.{leaves_unreached}
use Rattle.call_rules.specs.declared.offers.OfferRule.{OfferRule}
use Rattle.call_rules.specs.declared.offers.OfferRule.TheVariants as asked
use Rattle.call_rules.specs.Offers.{clash_by, content_line, hops_line, is_settled, offer_rule, otherwise, reach_line, when}
use Rattle.plans.specs.declared.reason.Reason.{Reason}
use Rattle.plans.specs.declared.reason.Reason.TheVariants.{NoPorts, NumberAtItsEnd, UnfitOffer}
use Rattle.plans.specs.declared.setting.Setting.{Setting}
use Rattle.plans.specs.CallRows.{has_pairs_for, is_unfit, offer_method, passes, passes_if, reason_of_refusal, reason_of_rule, refuses}
use Rattle.plans.specs.Effect.{Effect}
use Rattle.plans.specs.Office.{Office}

-- ---- only a settled call, with no offer that crosses, takes an offer

pub only_passes : (rule : OfferRule) → reason_of_rule rule ≡ None → rule ≡ asked.Passes
only_passes asked.NoDialog h = absurd cc
only_passes (asked.Crosses clash) h = absurd cc
only_passes asked.NoHops h = absurd cc
only_passes asked.Unreached h = absurd cc
only_passes (asked.Content rule) h = absurd cc
only_passes asked.Passes h = refl

clear_by : (c : Call) (clash : Option Clash) (next : OfferRule)
    → otherwise (clash_by c clash) next ≡ asked.Passes → (clash ≡ None) × (holds_in is_settled c.standing ≡ true)
clear_by c (Some clash) next h = absurd cc
clear_by c None next h = step (holds_in is_settled c.standing) h where
  step : (settled : Bool) → otherwise (cond settled None (Some asked.NoDialog)) next ≡ asked.Passes → (Path (Option Clash) None None) × (settled ≡ true)
  step true is = (refl, refl)
  step false is = absurd cc

pub clear : (r : Request) (end : End) (c : Call) → offer_rule r end c ≡ asked.Passes → (clash_in c.standing end ≡ None) × (holds_in is_settled c.standing ≡ true)
unfolding offer_rule
clear r end c h =
    clear_by c (clash_in c.standing end) (otherwise (hops_line r) (otherwise (reach_line r) (otherwise (content_line r) asked.Passes))) h

-- ---- the body of one that passes is taken

when_passes : (b : Bool) (rule next : OfferRule) → otherwise (when b rule) next ≡ asked.Passes → rule ≢ asked.Passes → next ≡ asked.Passes
when_passes true rule next h other = absurd (other h)
when_passes false rule next h other = h

content_passes : (rule : Option ContentRule) → otherwise (option_map asked.Content rule) asked.Passes ≡ asked.Passes → rule ≡ None
content_passes None h = refl
content_passes (Some rule) h = absurd cc

behind_clash : (c : Call) (clash : Option Clash) (next : OfferRule) → otherwise (clash_by c clash) next ≡ asked.Passes → next ≡ asked.Passes
behind_clash c (Some clash) next h = absurd cc
behind_clash c None next h = step (holds_in is_settled c.standing) h where
  step : (settled : Bool) → otherwise (cond settled None (Some asked.NoDialog)) next ≡ asked.Passes → next ≡ asked.Passes
  step true is = is
  step false is = absurd cc

pub taken : (r : Request) (end : End) (c : Call) → offer_rule r end c ≡ asked.Passes → content_rule r.headers ≡ None
unfolding offer_rule
taken r end c h =
    let content = otherwise (content_line r) asked.Passes in
    let reach = otherwise (reach_line r) content in
    let hops = behind_clash c (clash_in c.standing end) (otherwise (hops_line r) reach) h in
    content_passes (content_rule r.headers)
    (when_passes (leaves_unreached r.parts (contacts_of r.headers)) asked.Unreached content
    (when_passes (r.max_forwards == 0) asked.NoHops reach hops (λ same. cc)) (λ same. cc))

-- ---- why the call refuses it

abbrev by : Bool → Bool → Bool → Effect → Effect → Effect → Effect → Effect
by unfit pairs left fault passing numberless full = cond unfit fault (cond pairs (cond left passing numberless) full)

abbrev told : Office → Setting → Request → List Entry → ℕ → ℕ → End → Call → Description → Bool → Bool → Bool → Effect
told s e r begun id place end c offer unfit pairs left =
    by unfit pairs left (refuses s e r begun id place end UnfitOffer) (passes s e r begun id place end offer)
    (refuses s e r begun id place end NumberAtItsEnd) (refuses s e r begun id place end NoPorts)

abbrev needed : Call → End → Description → ℕ
needed c end offer = fresh_needed c.media end offer

abbrev free : Office → ℕ → ℕ
free s now = length (free_pairs now s.calls.pool.holdings)

replied : (s : Office) (e : Setting) (r : Request) (begun : List Entry) (id place : ℕ) (end : End) (reason is : Reason)
    → Some is ≡ Some reason → refuses s e r begun id place end reason ≡ refuses s e r begun id place end is
replied s e r begun id place end reason is h = let same : is ≡ reason = cc in ap (refuses s e r begun id place end) (sym same)

pub refused_as : (s : Office) (e : Setting) (r : Request) (begun : List Entry) (id place : ℕ) (end : End) (c : Call) (offer : Description) (refusal : CallRefusal) (reason : Reason)
    → clash_in c.standing end ≡ None → RefusesLater c s.calls.pool end (Some offer) e.now refusal → reason_of_refusal refusal ≡ Some reason
    → refuses s e r begun id place end reason ≡ passes_if s e r begun id place end c offer
refused_as s e r begun id place end c offer refusals.OutOfMemory reason uncrossed why is = absurd cc
refused_as s e r begun id place end c offer (refusals.Crosses clash) reason uncrossed why is = absurd cc
refused_as s e r begun id place end c offer refusals.Undescribed reason uncrossed why is = let none = why.1 in absurd cc
refused_as s e r begun id place end c offer (refusals.Unfit fault) reason uncrossed why is =
    replied s e r begun id place end reason UnfitOffer is
    ∙ sym (ap (λ (f : Option OfferFault). told s e r begun id place end c offer (is_some f) (has_pairs_for s e.now c end offer) (has_number_left (dialog_of (other end) c))) why.1)
refused_as s e r begun id place end c offer refusals.NoPorts reason uncrossed why is =
    replied s e r begun id place end reason NoPorts is
    ∙ sym (ap (λ (f : Option OfferFault). told s e r begun id place end c offer (is_some f) (has_pairs_for s e.now c end offer) (has_number_left (dialog_of (other end) c))) why.1.0
    ∙ ap (λ (b : Bool). told s e r begun id place end c offer false b (has_number_left (dialog_of (other end) c))) (lt-leb (needed c end offer) (free s e.now) why.1.1))
refused_as s e r begun id place end c offer refusals.NumberAtItsEnd reason uncrossed why is =
    replied s e r begun id place end reason NumberAtItsEnd is
    ∙ sym (ap (λ (f : Option OfferFault). told s e r begun id place end c offer (is_some f) (has_pairs_for s e.now c end offer) (has_number_left (dialog_of (other end) c))) why.1.0
    ∙ ap (λ (b : Bool). told s e r begun id place end c offer false b (has_number_left (dialog_of (other end) c))) (le-leb (needed c end offer) (free s e.now) why.1.1)
    ∙ ap (λ (b : Bool). told s e r begun id place end c offer false true b) why.2)

-- ---- the call takes it

settled_at : (stage : Stage) → is_settled stage ≡ true → stage ≡ Settled
settled_at (Asked rung) h = absurd cc
settled_at (Cancelling sent) h = absurd cc
settled_at (Answered interval) h = absurd cc
settled_at Settled h = refl
settled_at (Reasked rung cancelled) h = absurd cc
settled_at (Reanswered interval) h = absurd cc
settled_at Updating h = absurd cc
settled_at (Ending interval) h = absurd cc

line_settled : (p : Row → Type 0) (q : Type 0) → ((row : Row) → p row → q) → (x : End) (method : OfferMethod) → IfLine p (settled_row (signals.Offer x method)) → q
unfolding settled_row
line_settled p q gives x Invite h = gives _ h
line_settled p q gives x Update h = gives _ h

line_of : (p : Row → Type 0) (q : Type 0) → ((row : Row) → p row → q) → (st : Standing) (x : End) (method : OfferMethod) → st.stage ≡ Settled → IfLine p (row_of st (signals.Offer x method)) → q
unfolding row_of
line_of p q gives st x method settled h =
    line_settled p q gives x method (subst (λ (stage : Stage). IfLine p (row_in stage st.offerer (signals.Offer x method))) settled h)

passable_in : (c : Call) (pool : pools.Contents) (x : End) (method : OfferMethod) (offer : Description) (now : ℕ) (standing : Option Standing)
    → holds_in is_settled standing ≡ true → MayTakeIn c standing pool (inputs.Offer x method (Some offer)) now → IsPassable c pool x (Some offer) now
passable_in c pool x method offer now None settled may = absurd cc
passable_in c pool x method offer now (Some st) settled may =
    line_of (λ row. IsPassable c pool x (Some offer) now) (IsPassable c pool x (Some offer) now) (λ row h. h) st x method (settled_at st.stage settled) may.1

pub passed_as : (s : Office) (e : Setting) (r : Request) (begun : List Entry) (id place : ℕ) (end : End) (c : Call) (offer : Description)
    → holds_in is_settled c.standing ≡ true → MayTakeIn c c.standing s.calls.pool (inputs.Offer end (offer_method r) (Some offer)) e.now
    → passes s e r begun id place end offer ≡ passes_if s e r begun id place end c offer
passed_as s e r begun id place end c offer settled may =
    let can = passable_in c s.calls.pool end (offer_method r) offer e.now c.standing settled may in
    sym (ap (λ (f : Option OfferFault). told s e r begun id place end c offer (is_some f) (has_pairs_for s e.now c end offer) (has_number_left (dialog_of (other end) c))) can.0.0
    ∙ ap (λ (b : Bool). told s e r begun id place end c offer false b (has_number_left (dialog_of (other end) c))) (le-leb (needed c end offer) (free s e.now) can.0.1)
    ∙ ap (λ (b : Bool). told s e r begun id place end c offer false true b) can.1)
