-- The outcome of an event that begins no offer: what waits afterwards, what was counted, and what open offers carry.
use Rattle.std.proofs.Common.{◌≡◌, ◌∙◌, ◌<◌, ◌≤◌, ℕ, Bool, true, false, List, [], ◌∷◌, ◌++◌, Option, Some, None, refl, ap, sym, subst, inl, inr, arith}
use Rattle.std.specs.Prelude.{slice_get}
use Rattle.std.specs.List.{All}
use Rattle.std.proofs.lemmas.Bool.{false≢true}
use Rattle.std.proofs.lemmas.List.Elements.{All-set}
use Rattle.sip_uri.specs.declared.uri.Uri.{Uri}
use Rattle.sip_message.specs.declared.message.Parts.{Parts}
use Rattle.sip_message.specs.declared.message.Response.{Response}
use Rattle.sip_message.specs.Contact.{contacts_of}
use Rattle.std.proofs.lemmas.Option.{none-some}
use Rattle.dialogs.specs.declared.state.Dialog.{Dialog}
use Rattle.dialogs.specs.Making.{callers_dialog, reached_at}
use Rattle.transactions.specs.declared.change.Entry.{Entry}
use Rattle.transactions.specs.declared.outcome.Outgoing.{Outgoing}
use Rattle.transactions.specs.declared.transaction.Transaction.{Transaction}
use Rattle.transactions.specs.Changes.{answer_of, entered_all}
use Rattle.transactions.specs.Slots.{at}
use Rattle.call_media.specs.Ends.{other}
use Rattle.call_core.specs.declared.action.Action.{Action}
use Rattle.call_core.specs.declared.action.Action.TheVariants.{Ack, Bye}
use Rattle.call_core.specs.declared.stage.Standing as stage
use Rattle.call_core.specs.Calls.{dialog_of}
use Rattle.call_media.specs.declared.end.End.TheVariants.{Callee}
use Rattle.calls.specs.State.{Standing}
use Rattle.calls.specs.Carrying.{changed_at, offerer_of, with_dialog_at}
use Rattle.calls.specs.Changes.{unchanged}
use Rattle.calls.specs.declared.change.Beside.{Beside}
use Rattle.calls.specs.declared.change.LegDialog.{LegDialog}
use Rattle.calls.specs.declared.standing_call.StandingCall.{StandingCall}
use Rattle.call_rules.specs.Responses.{asked_end, is_open}
use Rattle.call_steps.specs.declared.occasion.Occasion.{Occasion}
use Rattle.call_steps.specs.Effects as steps
use Rattle.call_steps.specs.Messages.{messages}
use Rattle.call_steps.specs.Rows.{answers_leg, dialog_after, fork_by, fork_row, forked, late_by, late_row, later_dialog, leg_by}
use Rattle.call_steps.specs.Scenes.{fork_scene}
use Rattle.call_steps.specs.Values.{lent_scene}
use Rattle.plans.specs.Office.{Office}
use Rattle.plans.specs.CallRows.{of_plan, puts_if, with_step}
use Rattle.plans.specs.Effect.{Effect}
use Rattle.plans.specs.Plan.{Plan, goes}
use Rattle.message_laws.specs.Carried.{CarriesOpen}
use Rattle.message_laws.specs.Knowing.{KnowsCalls}
use Rattle.message_laws.specs.Numbers.{WasCounted}
use Rattle.message_laws.specs.Tokens.{IsMade}
use Rattle.message_laws.specs.Waiting.{FitsCall, IsCounted, IsOffering, KnowsWaiting, from_tag, waits}
use Rattle.message_laws.proofs.AwaitedOffers.Awaiting.{all_at, CallKeeps, Grows, IsOpen, LegGrows, LegKeeps, beside_keeps, beside_standing, call_kept, fits_after, later_all, opened, opens_on, fits_at}
use Rattle.message_laws.proofs.AwaitedOffers.Byes.{ByesAbove, ack_byes, fork_byes}
use Rattle.message_laws.proofs.TokenUse.Calls.{FitsLeg, same_leg_put}
use Rattle.message_laws.proofs.AwaitedOffers.Coming.{IsLater, OpensIn, later_self}
use Rattle.message_laws.proofs.AwaitedOffers.InOrder.{AreSent, behind_none, messages_sent, none_sent}
use Rattle.message_laws.proofs.AwaitedOffers.Keeping.{carries_after, put_open}
use Rattle.message_laws.proofs.AwaitedOffers.Offering.{none_offered, opens_split, said_offered}
use Rattle.message_laws.proofs.AwaitedOffers.Once.{NoneOffers, NoneOwn, OneOffers, none_one, none_then, own_offers, own_then}
use Rattle.message_laws.proofs.Messages.Replying.{IsReply}
use Rattle.message_laws.proofs.Messages.ResponseViews.{IsAsked, IsForked}
use Rattle.message_laws.proofs.AwaitedOffers.Tables.{has_offer}
use Rattle.message_laws.proofs.AwaitedOffers.WaitTakes.{IsLost, StepWaits, same_is}

pub record Waits (s : Office) (x : Effect) : Type 0 where
  pub stayed : (now id : ℕ) (t u : Transaction) → at s.table.slots id ≡ Some t → at (entered_all now s.table x.plan.changes).slots id ≡ Some u → IsLater t u → IsOffering t
      → All (FitsCall u) x.calls.standing.calls
  pub began : (t : Transaction) → OpensIn t x.plan.changes → IsOffering t → All (FitsCall t) x.calls.standing.calls
  pub one : OneOffers x.plan.changes
  -- one whose wait is over stays counted, and what begins has a greater number than the earlier ones in its leg
  pub counted : (t : Transaction) → waits t.state ≡ false → IsMade s.tokens (from_tag t) → All (FitsCall t) s.calls.calls → All (FitsCall t) x.calls.standing.calls
  pub above : (t : Transaction) → OpensIn t x.plan.changes → IsOffering t → (v : Transaction) → IsMade s.tokens (from_tag v) → All (FitsCall v) s.calls.calls → from_tag v ≡ from_tag t
      → v.parts.cseq.number < t.parts.cseq.number
  pub byes : KnowsCalls s.tokens s.calls.calls → ByesAbove s.tokens s.calls.calls x.plan.changes
  -- what is open carries the offer that its call keeps
  pub keeps : (t : Transaction) → IsMade s.tokens (from_tag t) → All (WasCounted t) s.calls.calls → All (CarriesOpen t) s.calls.calls → All (CarriesOpen t) x.calls.standing.calls
  pub carries : (t : Transaction) → OpensIn t x.plan.changes → IsOffering t → All (CarriesOpen t) x.calls.standing.calls
  pub sent : AreSent x.plan.changes x.plan.sends

-- where no offer begins
pub calm : (s : Office) (x : Effect) → NoneOffers x.plan.changes
    → ((now id : ℕ) (t u : Transaction) → at s.table.slots id ≡ Some t → at (entered_all now s.table x.plan.changes).slots id ≡ Some u → IsLater t u → IsOffering t → All (FitsCall u) x.calls.standing.calls)
    → ((t : Transaction) → waits t.state ≡ false → All (FitsCall t) s.calls.calls → All (FitsCall t) x.calls.standing.calls) → (KnowsCalls s.tokens s.calls.calls → ByesAbove s.tokens s.calls.calls x.plan.changes)
    → ((t : Transaction) → All (CarriesOpen t) s.calls.calls → All (CarriesOpen t) x.calls.standing.calls) → AreSent x.plan.changes x.plan.sends → Waits s x
calm s x none stayed counted byes keeps sent = record {
  stayed = stayed;
  began = λ t opens offers. absurd (none t opens offers);
  one = none_one x.plan.changes none;
  counted = λ t over tag each. counted t over each;
  above = λ t opens offers v tag each same. absurd (none t opens offers);
  byes = byes;
  keeps = λ t tag was each. keeps t each;
  carries = λ t opens offers. absurd (none t opens offers);
  sent = sent;
}

none_byes : (made : ℕ) (calls : List StandingCall) (changes : List Entry) → NoneOwn changes → ByesAbove made calls changes
none_byes made calls changes none t opens place c there bye = absurd (none t opens bye.bye.client)

pub plan_waits : (s : Office) → KnowsWaiting s → (p : Plan) → NoneOwn p.changes → Waits s (of_plan s p)
plan_waits s k p none =
    calm s (of_plan s p) (own_offers p.changes none) (λ now id t u there e later offers. later_all t u s.calls.calls later (k.awaited id t there offers)) (λ t over each. each)
    (λ knows. none_byes s.tokens s.calls.calls p.changes none) (λ t each. each) (none_sent p.changes p.sends none)

-- ---- replies

pub reply_none : (begun : List Entry) (id : ℕ) (p : Plan) → IsReply begun id p → NoneOwn begun → NoneOwn p.changes
reply_none begun id p is none = subst (λ changes. NoneOwn changes) (sym is.changes) (own_then begun (answer_of id is.response ∷ []) none (λ t opens offers. opens))

-- ---- a call takes an input

pub step_waits : (s : Office) → KnowsWaiting s → (begun : List Entry) (send : Option Outgoing) (id : Option ℕ) (final : Bool) (place : ℕ) (x : steps.Effect) → NoneOwn begun
    → StepWaits final place s.calls.calls x
    → (final ≡ true → (now at_id : ℕ) (t u : Transaction) → at s.table.slots at_id ≡ Some t → at (entered_all now s.table (begun ++ x.dressed.changes)).slots at_id ≡ Some u → IsLater t u → IsOffering t
    → IsLost s.calls.calls place t u) → Waits s (with_step s.acks begun send id x)
step_waits s k begun send id final place x none w lost =
    calm s (with_step s.acks begun send id x) (none_then begun x.dressed.changes (own_offers begun none) w.none)
    (λ now at_id t u there e later offers. w.fits t u later (k.awaited at_id t there offers) (λ is. lost is now at_id t u there e later offers))
    (λ t over each. w.fits t t (later_self t) each (λ is c there tag waiting opens. false≢true (sym over ∙ waiting)))
    (λ knows t opens at_place c there bye. elim (opens_split t begun x.dressed.changes opens) [ inl h ↦ absurd (none t h bye.bye.client) | inr h ↦ w.byes s.tokens knows t h at_place c there bye ]) w.keeps
    (behind_none begun x.dressed.changes (goes send) x.dressed.sends none w.sent)

-- ---- a dialog is put

abbrev alone : LegDialog → Beside
alone leg = record { leg = Some leg; taken = None; answer = None }

put_fits : (t u : Transaction) (made : ℕ) (c : StandingCall) (leg : LegDialog) → FitsLeg made c (Some leg) → LegKeeps c.call (Some leg) → IsLater t u → FitsCall t c
    → FitsCall u (with_dialog_at leg.end leg.dialog c)
put_fits t u made c leg tags keeps later h =
    let d = with_dialog_at leg.end leg.dialog c in
    let same = same_leg_put made c (Some leg) tags in
    let kept : CallKeeps c.call d.call = beside_keeps c (alone leg) keeps in
    fits_after t u c d same (call_kept c.call d.call kept) later (λ tag w opens. stays_open (opened t.parts c opens)) h
  where
    stays_open : (s : stage.Standing) × IsOpen t.parts c s → is_open t.parts (with_dialog_at leg.end leg.dialog c) ≡ true
    stays_open o = opens_on t.parts c (with_dialog_at leg.end leg.dialog c) o.0 o.0 (same_leg_put made c (Some leg) tags) (beside_keeps c (alone leg) keeps) o.1 (beside_standing c (alone leg) ∙ o.1.stands) o.1.awaits refl

changed_fits : (t u : Transaction) (made place : ℕ) (leg : LegDialog) (calls : List StandingCall) (c : Option StandingCall) → slice_get calls place ≡ c → IsLater t u
    → ((d : StandingCall) → slice_get calls place ≡ Some d → FitsLeg made d (Some leg) × LegKeeps d.call (Some leg)) → All (FitsCall t) calls
    → All (FitsCall u) (changed_at (with_dialog_at leg.end leg.dialog) place calls c)
changed_fits t u made place leg calls None there later fits each = later_all t u calls later each
changed_fits t u made place leg calls (Some c) there later fits each =
    All-set (FitsCall u) calls place (with_dialog_at leg.end leg.dialog c) (put_fits t u made c leg (fits c there).0 (fits c there).1 later (fits_at t calls place c each there)) (later_all t u calls later each)

puts_fits : (t u : Transaction) (made place : ℕ) (leg : Option LegDialog) (calls : Standing) → IsLater t u
    → ((d : StandingCall) → slice_get calls.calls place ≡ Some d → FitsLeg made d leg × LegKeeps d.call leg) → All (FitsCall t) calls.calls → All (FitsCall u) (puts_if calls place leg).calls
puts_fits t u made place None calls later fits each = later_all t u calls.calls later each
puts_fits t u made place (Some leg) calls later fits each = changed_fits t u made place leg calls.calls (slice_get calls.calls place) refl later fits each

changed_carries : (t : Transaction) (made place : ℕ) (leg : LegDialog) (calls : List StandingCall) (c : Option StandingCall) → slice_get calls place ≡ c
    → ((d : StandingCall) → slice_get calls place ≡ Some d → FitsLeg made d (Some leg) × LegKeeps d.call (Some leg)) → All (CarriesOpen t) calls
    → All (CarriesOpen t) (changed_at (with_dialog_at leg.end leg.dialog) place calls c)
changed_carries t made place leg calls None there fits each = each
changed_carries t made place leg calls (Some c) there fits each =
    let d = with_dialog_at leg.end leg.dialog c in
    All-set (CarriesOpen t) calls place d (carries_after t c d (put_open made c leg (fits c there).0 (fits c there).1) (all_at (CarriesOpen t) calls place c each there)) each

puts_carries : (t : Transaction) (made place : ℕ) (leg : Option LegDialog) (calls : Standing) → ((d : StandingCall) → slice_get calls.calls place ≡ Some d → FitsLeg made d leg × LegKeeps d.call leg)
    → All (CarriesOpen t) calls.calls → All (CarriesOpen t) (puts_if calls place leg).calls
puts_carries t made place None calls fits each = each
puts_carries t made place (Some leg) calls fits each = changed_carries t made place leg calls.calls (slice_get calls.calls place) refl fits each

pub puts_waits : (s : Office) → KnowsWaiting s → (made place : ℕ) (leg : Option LegDialog) (p : Plan) → NoneOwn p.changes
    → ((d : StandingCall) → slice_get s.calls.calls place ≡ Some d → FitsLeg made d leg × LegKeeps d.call leg)
    → Waits s (record { plan = p; calls = unchanged (puts_if s.calls place leg); acks = s.acks })
puts_waits s k made place leg p none fits =
    calm s (record { plan = p; calls = unchanged (puts_if s.calls place leg); acks = s.acks }) (own_offers p.changes none)
    (λ now id t u there e later offers. puts_fits t u made place leg s.calls later fits (k.awaited id t there offers))
    (λ t over each. puts_fits t t made place leg s.calls (later_self t) fits each) (λ knows. none_byes s.tokens s.calls.calls p.changes none)
    (λ t each. puts_carries t made place leg s.calls fits each) (none_sent p.changes p.sends none)

-- ---- a 2xx that no call takes

alone_waits : (calls : Standing) (o : Occasion) (leg : Dialog) (actions : List Action) → has_offer actions ≡ false
    → ((made : ℕ) → KnowsCalls made calls.calls → ByesAbove made calls.calls (messages (fork_scene o leg) None actions).dressed.changes) → StepWaits false 0 calls.calls (forked calls (messages (fork_scene o leg) None actions))
alone_waits calls o leg actions none byes = record {
  none = λ t opens offers. none_offered (lent_scene (fork_scene o leg)) actions t none (said_offered (fork_scene o leg) None actions t opens offers);
  fits = λ t u later each lost. later_all t u calls.calls later each;
  byes = byes;
  keeps = λ t each. each;
  sent = messages_sent (fork_scene o leg) None actions;
}

nothing_alone : (calls : Standing) → StepWaits false 0 calls.calls (steps.no_effect calls)
nothing_alone calls = record { none = λ t opens offers. opens; fits = λ t u later each lost. later_all t u calls.calls later each; byes = λ made knows t opens. absurd opens; keeps = λ t each. each; sent = tt }

fork_by_waits : (calls : Standing) (o : Occasion) (asked : Parts) (response : Response) (contact : Option Uri) → IsForked calls.calls asked response → StepWaits false 0 calls.calls (fork_by calls o asked response contact)
fork_by_waits calls o asked response None why = nothing_alone calls
fork_by_waits calls o asked response (Some target) why =
    alone_waits calls o (callers_dialog asked response target) (Ack Callee ∷ Bye Callee ∷ []) refl (λ made knows. fork_byes made calls.calls o asked response target knows why)

pub fork_waits : (calls : Standing) (o : Occasion) (asked : Parts) (response : Response) → IsForked calls.calls asked response → StepWaits false 0 calls.calls (fork_row calls o asked response)
unfolding fork_row
fork_waits calls o asked response why = fork_by_waits calls o asked response (reached_at (contacts_of response.headers)) why

late_by_waits : (calls : Standing) (o : Occasion) (asked : Parts) (response : Response) (contact : Option Uri) → StepWaits false 0 calls.calls (late_by calls o asked response contact)
late_by_waits calls o asked response None = nothing_alone calls
late_by_waits calls o asked response (Some target) = alone_waits calls o (later_dialog asked response target) (Ack Callee ∷ []) refl (λ made knows. ack_byes made calls.calls o (later_dialog asked response target))

pub late_waits : (calls : Standing) (o : Occasion) (asked : Parts) (response : Response) → StepWaits false 0 calls.calls (late_row calls o asked response)
unfolding late_row
late_waits calls o asked response = late_by_waits calls o asked response (reached_at (contacts_of response.headers))

-- ---- the dialog of a 2xx that a call takes counts what was asked

grows_after : (asked : Parts) (response : Response) (target : Uri) (o : Option Dialog) → (o ≡ None → 1 ≤ asked.cseq.number) → Grows o (Some (dialog_after asked response target o))
grows_after asked response target None h = h refl
grows_after asked response target (Some d) h = omega arith

first_number : (number : ℕ) (o : Option Dialog) → IsCounted number o → o ≡ None → 1 ≤ number
first_number number None counted e = omega (arith, counted)
first_number number (Some d) counted e = absurd (none-some d (sym e))

asked_is : (asked : Parts) (c : StandingCall) → is_open asked c ≡ true → asked_end asked c ≡ other (offerer_of c.call.standing)
asked_is asked c h =
    let o = opened asked c h in
    same_is (asked_end asked c) (other o.0.offerer) o.1.end ∙ ap (λ s. other (offerer_of s)) (sym o.1.stands)

leg_by_grows : (t : Transaction) (response : Response) (target : Option Uri) (c : StandingCall) → IsAsked t.parts c → FitsCall t c → LegGrows c.call (leg_by t.parts response target (Some c))
leg_by_grows t response None c asked h = tt
leg_by_grows t response (Some target) c asked h =
    let end = other (offerer_of c.call.standing) in
    let counted = subst (λ x. IsCounted t.parts.cseq.number (dialog_of x c.call)) (asked_is t.parts c asked.waits) (h asked.tag).counted in
    grows_after t.parts response target (dialog_of end c.call) (first_number t.parts.cseq.number (dialog_of end c.call) counted)

pub answers_grows : (t : Transaction) (calls : List StandingCall) (place : ℕ) (response : Response) (c : StandingCall) → slice_get calls place ≡ Some c → IsAsked t.parts c → FitsCall t c
    → LegGrows c.call (answers_leg calls place t.parts response)
unfolding answers_leg
answers_grows t calls place response c there asked h =
    subst (λ x. LegGrows c.call (leg_by t.parts response (reached_at (contacts_of response.headers)) x)) (sym there)
    (leg_by_grows t response (reached_at (contacts_of response.headers)) c asked h)
