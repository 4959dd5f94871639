-- A final response, or the end of its time: the request that it is for no longer waits.
use Rattle.std.proofs.Common.{◌≡◌, ◌∙◌, ℕ, Bool, true, false, cond, not, ◌||◌, List, ◌∷◌, Option, Some, None, option_map, is_none, refl, ap, sym, subst}
use Rattle.std.specs.Prelude.{slice_get}
use Rattle.std.proofs.lemmas.Bool.{false≢true}
use Rattle.std.proofs.lemmas.List.{get_or-set_same}
use Rattle.std.proofs.lemmas.Option.{none-some, same_Some}
use Rattle.sip_message.specs.declared.message.Parts.{Parts}
use Rattle.transaction_machines.specs.declared.input.Input.{Input}
use Rattle.transaction_machines.specs.declared.input.Input.TheVariants as inputs
use Rattle.transaction_machines.specs.declared.input.TimerKind.{TimerKind}
use Rattle.transaction_machines.specs.declared.input.TimerKind.TheVariants.{A, B, D, E, F, G, H, I, J, K, L, M, N}
use Rattle.transaction_machines.specs.declared.invite_server.InviteServer.{InviteServer}
use Rattle.transaction_machines.specs.declared.invite_server.InviteServer.TheVariants as servers
use Rattle.transaction_machines.specs.declared.other_server.OtherServer.{OtherServer}
use Rattle.transaction_machines.specs.declared.other_server.OtherServer.TheVariants as served
use Rattle.transaction_machines.specs.declared.state.State.{State}
use Rattle.transaction_machines.specs.declared.state.State.TheVariants as machine
use Rattle.transaction_machines.specs.declared.step.Step.{Step}
use Rattle.transaction_machines.specs.declared.step.Told.{Told}
use Rattle.transaction_machines.specs.declared.step.Told.TheVariants.{Silent, Up, TimedOut, Ended}
use Rattle.transaction_machines.specs.InviteServer.{invite_server_row}
use Rattle.transaction_machines.specs.OtherServer.{other_server_row}
use Rattle.transaction_machines.specs.Machines.{is_server, row_of}
use Rattle.transactions.specs.declared.change.Entry.{Entry}
use Rattle.transactions.specs.declared.change.Entry.TheVariants.{Tells}
use Rattle.transactions.specs.declared.outcome.Fired.{Fired}
use Rattle.transactions.specs.declared.outcome.Fired.TheVariants as fires
use Rattle.transactions.specs.declared.outcome.Outgoing.{Outgoing}
use Rattle.transactions.specs.declared.transaction.Transaction.{Transaction}
use Rattle.transactions.specs.Changes.{entered, entered_all}
use Rattle.transactions.specs.Contents.{Contents, fired_by, fired_step, stepped_by, table_at}
use Rattle.transactions.specs.Slots.{at}
use Rattle.transactions.specs.Transactions.{went}
use Rattle.calls.specs.Finding.{has_tag}
use Rattle.calls.specs.declared.standing_call.StandingCall.{StandingCall}
use Rattle.call_rules.specs.Responses.{asked_place, is_open, open_at, place_if_open, timeout_rule}
use Rattle.call_rules.specs.Speaking.{may_offer}
use Rattle.plans.specs.Office.{Office}
use Rattle.plans.specs.CallRows.{times_responses}
use Rattle.message_laws.specs.Waiting.{IsOffering, KnowsWaiting, from_tag, waits}
use Rattle.message_laws.proofs.AwaitedOffers.Awaiting.{fits_at}
use Rattle.message_laws.proofs.AwaitedOffers.Coming.{CameFrom, IsLater, all_came, began, inside, stayed}
use Rattle.message_laws.proofs.AwaitedOffers.Lines.{goes_on, is_timed_out, GoesOnIf, waits_after, waits_next}
use Rattle.message_laws.proofs.AwaitedOffers.Once.{NoneOffers, offering_before}
use Rattle.message_laws.proofs.Messages.ResponseViews.{IsAsked, tag_at}
use Rattle.message_laws.proofs.AwaitedOffers.WaitTakes.{IsLost, same_number}

-- ---- what a transaction that was given this is afterwards

went_waits : (t v : Transaction) (fresh : Option (List ℕ)) (next : Option State) → option_map (went t fresh) next ≡ Some v → waits v.state ≡ true → waits_next next ≡ true
went_waits t v fresh None e w = absurd (none-some v e)
went_waits t v fresh (Some next) e w = ap (λ (x : Transaction). waits x.state) (same_Some (went t fresh next) v e) ∙ w

line_waits : (table : Contents) (id : ℕ) (t v : Transaction) (fresh : Option (List ℕ)) (now : ℕ) (line : Option Step) → at table.slots id ≡ Some t
    → at (stepped_by table id t fresh now line).slots id ≡ Some v → waits v.state ≡ true → waits_after t.state line ≡ true
line_waits table id t v fresh now None there e w = ap (λ (x : Transaction). waits x.state) (same_Some t v (sym there ∙ e)) ∙ w
line_waits table id t v fresh now (Some step) there e w =
    went_waits t v fresh step.next (sym (get_or-set_same table.slots id (option_map (went t fresh) step.next) None (inside table.slots id t there)) ∙ e) w

told_by : (table : Contents) (id : ℕ) (t v : Transaction) (input : Input) (fresh : Option (List ℕ)) (now : ℕ) (o : Option Transaction) → o ≡ Some t → at table.slots id ≡ Some t
    → at (table_at table id o input fresh now).slots id ≡ Some v → waits v.state ≡ true → waits_after t.state (row_of t.state input) ≡ true
told_by table id t v input fresh now None is there e w = absurd (none-some t is)
told_by table id t v input fresh now (Some x) is there e w =
    subst (λ (y : Transaction). waits_after y.state (row_of y.state input) ≡ true) (same_Some x t is)
    (line_waits table id x v fresh now (row_of x.state input) (there ∙ sym is) e w)

later_waits : (now : ℕ) (table : Contents) (id : ℕ) (t u : Transaction) (input : Input) (fresh : Option (List ℕ)) (changes : List Entry) → at table.slots id ≡ Some t → NoneOffers changes → IsOffering u
    → waits u.state ≡ true → CameFrom (entered now table (Tells id input fresh)).slots changes id u → waits_after t.state (row_of t.state input) ≡ true
later_waits now table id t u input fresh changes there none offers w (stayed v at_v later) = told_by table id t v input fresh now (at table.slots id) there there at_v (later.waited w)
later_waits now table id t u input fresh changes there none offers w (began v opens later) = absurd (none v opens (offering_before v u later offers))

told_lost : (now : ℕ) (table : Contents) (id : ℕ) (t u : Transaction) (input : Input) (fresh : Option (List ℕ)) (changes : List Entry) → at table.slots id ≡ Some t
    → waits_after t.state (row_of t.state input) ≡ false → NoneOffers changes → IsOffering u → at (entered_all now table (Tells id input fresh ∷ changes)).slots id ≡ Some u → waits u.state ≡ true → ⊥
told_lost now table id t u input fresh changes there ends none offers e w =
    false≢true (sym ends ∙ later_waits now table id t u input fresh changes there none offers w (all_came now (entered now table (Tells id input fresh)) changes id u e))

-- ---- the request is the open offer of the call at this place

later_offering : (t u : Transaction) → IsLater t u → IsOffering t → IsOffering u
later_offering t u later offers = record { client = later.side ∙ offers.client; offers = subst (λ p. may_offer p ≡ true) (sym later.parts) offers.offers }

-- this request is given something, after which it no longer waits
pub record IsFinal (s : Office) (id : ℕ) (t : Transaction) (input : Input) (place : ℕ) (c : StandingCall) : Type 0 where
  pub there : at s.table.slots id ≡ Some t
  pub client : is_server t.state ≡ false
  pub at_place : slice_get s.calls.calls place ≡ Some c
  pub asked : IsAsked t.parts c
  pub ends : waits_after t.state (row_of t.state input) ≡ false

pub final_lost : (s : Office) (k : KnowsWaiting s) (place first : ℕ) (asked : Transaction) (c : StandingCall) (input : Input) (fresh : Option (List ℕ)) (changes : List Entry)
    → IsFinal s first asked input place c → NoneOffers changes → (now id : ℕ) (t u : Transaction) → at s.table.slots id ≡ Some t
    → at (entered_all now s.table (Tells first input fresh ∷ changes)).slots id ≡ Some u → IsLater t u → IsOffering t → IsLost s.calls.calls place t u
final_lost s k place first asked c input fresh changes final none now id t u there e later offers d at_d tag w opens =
    let is_c : d ≡ c = same_Some d c (sym at_d ∙ final.at_place) in
    let asking : IsOffering asked = record { client = final.client; offers = final.asked.offers } in
    let tag_c = subst (λ x. has_tag (from_tag t) x ≡ true) is_c tag in
    let open_c = subst (λ x. is_open t.parts x ≡ true) is_c opens in
    let same = same_number t asked c tag_c final.asked.tag open_c final.asked.waits (fits_at t s.calls.calls place c (k.awaited id t there offers) final.at_place)
    (fits_at asked s.calls.calls place c (k.awaited first asked final.there asking) final.at_place) in
    let one : id ≡ first = k.once id first t asked there final.there offers asking same.tag same.number in
    told_lost now s.table first asked u input fresh changes final.there final.ends none (later_offering t u later offers)
    (subst (λ x. at (entered_all now s.table (Tells first input fresh ∷ changes)).slots x ≡ Some u) one e) w

-- ---- the end of its time

timed_server : (state : InviteServer) (kind : TimerKind) → times_responses kind ≡ true → invite_server_row state (inputs.Fires kind) ≡ None
unfolding invite_server_row
timed_server servers.Proceeding B e = refl
timed_server (servers.Completed interval) B e = refl
timed_server servers.Confirmed B e = refl
timed_server servers.Accepted B e = refl
timed_server servers.Proceeding F e = refl
timed_server (servers.Completed interval) F e = refl
timed_server servers.Confirmed F e = refl
timed_server servers.Accepted F e = refl
timed_server state A e = absurd (false≢true e)
timed_server state D e = absurd (false≢true e)
timed_server state E e = absurd (false≢true e)
timed_server state G e = absurd (false≢true e)
timed_server state H e = absurd (false≢true e)
timed_server state I e = absurd (false≢true e)
timed_server state J e = absurd (false≢true e)
timed_server state K e = absurd (false≢true e)
timed_server state L e = absurd (false≢true e)
timed_server state M e = absurd (false≢true e)
timed_server state N e = absurd (false≢true e)

timed_served : (state : OtherServer) (kind : TimerKind) → times_responses kind ≡ true → other_server_row state (inputs.Fires kind) ≡ None
unfolding other_server_row
timed_served served.Trying B e = refl
timed_served served.Proceeding B e = refl
timed_served served.Completed B e = refl
timed_served served.Trying F e = refl
timed_served served.Proceeding F e = refl
timed_served served.Completed F e = refl
timed_served state A e = absurd (false≢true e)
timed_served state D e = absurd (false≢true e)
timed_served state E e = absurd (false≢true e)
timed_served state G e = absurd (false≢true e)
timed_served state H e = absurd (false≢true e)
timed_served state I e = absurd (false≢true e)
timed_served state J e = absurd (false≢true e)
timed_served state K e = absurd (false≢true e)
timed_served state L e = absurd (false≢true e)
timed_served state M e = absurd (false≢true e)
timed_served state N e = absurd (false≢true e)

none_fires : (t : Transaction) (line : Option Step) → line ≡ None → fired_step t line ≡ Some fires.TimedOut → ⊥
none_fires t None is e = none-some _ e
none_fires t (Some step) is e = none-some step (sym is)

pub timed_client : (t : Transaction) (state : State) (kind : TimerKind) → times_responses kind ≡ true → fired_step t (row_of state (inputs.Fires kind)) ≡ Some fires.TimedOut → is_server state ≡ false
unfolding row_of
timed_client t (machine.InviteClient state) kind times e = refl
timed_client t (machine.InviteServer state) kind times e = absurd (none_fires t (invite_server_row state (inputs.Fires kind)) (timed_server state kind times) e)
timed_client t (machine.OtherClient state) kind times e = refl
timed_client t (machine.OtherServer state) kind times e = absurd (none_fires t (other_server_row state (inputs.Fires kind)) (timed_served state kind times) e)

silent_fires : (send : Option Outgoing) → option_map fires.Send send ≡ Some fires.TimedOut → ⊥
silent_fires None e = none-some _ e
silent_fires (Some out) e = differ out e
  where
    is_out : Option Fired → Bool
    is_out None = false
    is_out (Some (fires.Send out)) = true
    is_out (Some fires.TimedOut) = false
    is_out (Some fires.Ended) = false

    differ : (out : Outgoing) → Some (fires.Send out) ≡ Some fires.TimedOut → ⊥
    differ out e = false≢true (sym (ap is_out e))

timed_told : (told : Told) (send : Option Outgoing) → fired_by told send ≡ Some fires.TimedOut → is_timed_out told ≡ true
timed_told Silent send e = absurd (silent_fires send e)
timed_told Up send e = absurd (silent_fires send e)
timed_told TimedOut send e = refl
timed_told Ended send e = absurd (ended_fires e)
  where
    is_end : Option Fired → Bool
    is_end None = false
    is_end (Some (fires.Send out)) = false
    is_end (Some fires.TimedOut) = false
    is_end (Some fires.Ended) = true

    ended_fires : Some fires.Ended ≡ Some fires.TimedOut → ⊥
    ended_fires e = false≢true (sym (ap is_end e))

none_next : (next : Option State) → is_none next ≡ true → waits_next next ≡ false
none_next None e = refl
none_next (Some state) e = absurd (false≢true e)

ends_by : (told next : Bool) → (not told || next) ≡ true → told ≡ true → next ≡ true
ends_by true next h e = h
ends_by false next h e = absurd (false≢true e)

timed_line : (t : Transaction) (line : Option Step) → GoesOnIf t.state line → fired_step t line ≡ Some fires.TimedOut → waits_after t.state line ≡ false
timed_line t None on e = absurd (none-some _ e)
timed_line t (Some step) on e = none_next step.next (ends_by (is_timed_out step.told) (is_none step.next) on.ends (timed_told step.told _ e))

pub timed_ends : (t : Transaction) (kind : TimerKind) → fired_step t (row_of t.state (inputs.Fires kind)) ≡ Some fires.TimedOut → waits_after t.state (row_of t.state (inputs.Fires kind)) ≡ false
timed_ends t kind e = timed_line t (row_of t.state (inputs.Fires kind)) (goes_on t.state (inputs.Fires kind)) e

-- ---- the call that waits for it

pub record WaitsAt (calls : List StandingCall) (asked : Parts) (place : ℕ) : Type 0 where
  pub call : StandingCall
  pub there : slice_get calls place ≡ Some call
  pub is_asked : IsAsked asked call

waits_if : (calls : List StandingCall) (asked : Parts) (place at_place : ℕ) (c : StandingCall) (b : Bool) → may_offer asked ≡ true → asked_place calls asked ≡ Some at_place → slice_get calls at_place ≡ Some c
    → is_open asked c ≡ b → cond b (Some at_place) None ≡ Some place → WaitsAt calls asked place
waits_if calls asked place at_place c false offers named there is e = absurd (none-some place e)
waits_if calls asked place at_place c true offers named there is e =
    subst (WaitsAt calls asked) (same_Some at_place place e) (record { call = c; there = there; is_asked = record { offers = offers; tag = tag_at calls asked at_place c named there; waits = is } })

waits_in : (calls : List StandingCall) (asked : Parts) (place at_place : ℕ) (c : Option StandingCall) → may_offer asked ≡ true → asked_place calls asked ≡ Some at_place → slice_get calls at_place ≡ c
    → place_if_open asked at_place c ≡ Some place → WaitsAt calls asked place
waits_in calls asked place at_place None offers named there e = absurd (none-some place e)
waits_in calls asked place at_place (Some c) offers named there e = waits_if calls asked place at_place c (is_open asked c) offers named there refl e

waits_open : (calls : List StandingCall) (asked : Parts) (place : ℕ) (found : Option ℕ) → may_offer asked ≡ true → asked_place calls asked ≡ found → open_at calls asked found ≡ Some place → WaitsAt calls asked place
unfolding open_at
waits_open calls asked place None offers named e = absurd (none-some place e)
waits_open calls asked place (Some at_place) offers named e = waits_in calls asked place at_place (slice_get calls at_place) offers named refl e

waits_by : (calls : List StandingCall) (asked : Parts) (place : ℕ) (b : Bool) → may_offer asked ≡ b → cond b (open_at calls asked (asked_place calls asked)) None ≡ Some place → WaitsAt calls asked place
waits_by calls asked place false offers e = absurd (none-some place e)
waits_by calls asked place true offers e = waits_open calls asked place (asked_place calls asked) offers refl e

pub timeout_waits : (calls : List StandingCall) (asked : Parts) (place : ℕ) → timeout_rule calls asked ≡ Some place → WaitsAt calls asked place
unfolding timeout_rule
timeout_waits calls asked place e = waits_by calls asked place (may_offer asked) refl e
