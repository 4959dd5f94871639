-- The row of an event with a message that counts: what the agent does for it.
use Rattle.std.proofs.Common.{◌≡◌, ◌∙◌, ℕ, false, cond, ◌&&◌, List, [], ◌∷◌, Option, refl, ap}
use Rattle.std.proofs.lemmas.Bool.{and_right}
use Rattle.sip_uri.specs.declared.uri.Addr.{Addr}
use Rattle.sip_message.specs.declared.message.Message.{Message}
use Rattle.sip_message.specs.declared.message.Message.TheVariants as Kinds
use Rattle.sip_message.specs.declared.message.Request.{Request}
use Rattle.sip_message.specs.declared.message.Response.{Response}
use Rattle.transactions.specs.Contents.{reception_of}
use Rattle.transactions.specs.Shares.{has_no_room}
use Rattle.transactions.specs.Changes.{change_of}
use Rattle.transactions.specs.declared.change.Entry.{Entry}
use Rattle.transactions.specs.declared.outcome.Outgoing.{Outgoing}
use Rattle.transactions.specs.declared.outcome.Verdict.{Verdict}
use Rattle.transactions.specs.declared.outcome.Verdict.TheVariants as verdicts
use Rattle.transactions.specs.declared.transaction.Transaction.{Transaction}
use Rattle.events.specs.declared.event.Event.{Event}
use Rattle.call_rules.specs.Responses.{response_rule}
use Rattle.plans.specs.CallRows.{ack_row, of_plan, responds_by, response_by_asked, response_row}
use Rattle.plans.specs.Plan.{moves, nothing}
use Rattle.plans.specs.declared.setting.Setting.{Setting}
use Rattle.plans.specs.declared.taken.Taken.TheVariants.{Dropped, Shed}
use Rattle.plans.specs.declared.taken.Why.TheVariants.{Stray}
use Rattle.event_rows.specs.Rows.{begins, by_reading, datagram_row, fit_row, is_full, is_unreachable_message, read_row, received, received_by, request_by, response_by, row, row_by, rule_row, setting, unfit_branch, what_row}
use Rattle.event_rows.specs.Rules.{request_rule}
use Rattle.event_rows.specs.State.{Contents, moment_at, office}
use Rattle.step_laws.specs.Coming.{BeginsTransaction, Comes, GoesUp}
use Rattle.step_laws.specs.Dropping.{NoneTakes}

-- the setting of an event with a datagram from this source
abbrev pub setting_of : Contents → Event → Addr → Setting
setting_of s event source = setting (moment_at s event.now) event.salt source

abbrev pub IsStill : Verdict → Type 0
IsStill (verdicts.New id) = ⊥
IsStill verdicts.Repeat = Unit {0}
IsStill verdicts.Swallowed = Unit {0}
IsStill (verdicts.Up id) = ⊥
IsStill verdicts.Stray = ⊥

module _ (s : Contents) (event : Event) (source : Addr) (bytes : List ℕ) where
  abbrev e : Setting
  e = setting_of s event source

  came_row : (m : Message) → Comes s event source bytes m → row s event ≡ read_row (office s) e m
  unfolding row what_row datagram_row
  came_row m h = ap (row_by s event) h.counts ∙ (ap (what_row (office s) (moment_at s event.now) event.salt) h.datagram ∙ ap (by_reading (office s) e bytes) h.read)

  received_row : (m : Message) → Comes s event source bytes m → is_unreachable_message m ≡ false → row s event ≡ received (office s) e m
  unfolding read_row
  received_row m h reached =
      came_row m h
      ∙ (ap (λ b. cond b (fit_row (office s) e m) (of_plan (office s) (unfit_branch e m))) h.branch
      ∙ ap (λ b. cond b (of_plan (office s) (nothing (Dropped Stray))) (received (office s) e m)) reached)

  not_full : (m : Message) → is_full (office s) e (reception_of s.table m) ≡ false
      → received (office s) e m ≡ received_by (office s) e m (change_of s.table m source ∷ []) (reception_of s.table m).verdict (reception_of s.table m).send
  unfolding received
  not_full m full =
      ap (λ b. cond b (of_plan (office s) (nothing Shed)) (received_by (office s) e m (change_of s.table m source ∷ []) (reception_of s.table m).verdict (reception_of s.table m).send)) full

  -- a request that begins a transaction
  pub begun_row : (r : Request) (id : ℕ) → BeginsTransaction s event source bytes r id → row s event ≡ rule_row (office s) e r (change_of s.table (Kinds.Request r) source ∷ []) id (request_rule (office s) r e.now)
  unfolding request_by
  begun_row r id h =
      let x = reception_of s.table (Kinds.Request r) in
      received_row (Kinds.Request r) h.comes refl
      ∙ (not_full (Kinds.Request r) (and_right (begins x.verdict) (has_no_room s.table source) h.room)
      ∙ ap (λ v. request_by (office s) e r (change_of s.table (Kinds.Request r) source ∷ []) v x.send) h.new)

  -- a message that its transaction keeps for itself
  still_begins : (v : Verdict) → IsStill v → begins v ≡ false
  still_begins (verdicts.New id) h = absurd h
  still_begins verdicts.Repeat h = refl
  still_begins verdicts.Swallowed h = refl
  still_begins (verdicts.Up id) h = absurd h
  still_begins verdicts.Stray h = absurd h

  still_by : (m : Message) (begun : List Entry) (send : Option Outgoing) (v : Verdict) → IsStill v → received_by (office s) e m begun v send ≡ of_plan (office s) (moves begun send)
  unfolding request_by response_by
  still_by m begun send (verdicts.New id) h = absurd h
  still_by (Kinds.Request r) begun send verdicts.Repeat h = refl
  still_by (Kinds.Response r) begun send verdicts.Repeat h = refl
  still_by (Kinds.Request r) begun send verdicts.Swallowed h = refl
  still_by (Kinds.Response r) begun send verdicts.Swallowed h = refl
  still_by m begun send (verdicts.Up id) h = absurd h
  still_by m begun send verdicts.Stray h = absurd h

  pub still_row : (m : Message) → Comes s event source bytes m → is_unreachable_message m ≡ false → IsStill (reception_of s.table m).verdict
      → row s event ≡ of_plan (office s) (moves (change_of s.table m source ∷ []) (reception_of s.table m).send)
  still_row m comes reached still =
      let x = reception_of s.table m in
      received_row m comes reached
      ∙ (not_full m (ap (λ b. b && has_no_room s.table source) (still_begins x.verdict still)) ∙ still_by m (change_of s.table m source ∷ []) x.send x.verdict still)

  none_begins : (v : Verdict) → NoneTakes v → begins v ≡ false
  none_begins (verdicts.New id) h = absurd h
  none_begins verdicts.Repeat h = absurd h
  none_begins verdicts.Swallowed h = absurd h
  none_begins (verdicts.Up id) h = refl
  none_begins verdicts.Stray h = refl

  none_row : (r : Request) (begun : List Entry) (send : Option Outgoing) (v : Verdict) → NoneTakes v → request_by (office s) e r begun v send ≡ ack_row (office s) e r begun
  unfolding request_by
  none_row r begun send (verdicts.New id) h = absurd h
  none_row r begun send verdicts.Repeat h = absurd h
  none_row r begun send verdicts.Swallowed h = absurd h
  none_row r begun send (verdicts.Up id) h = refl
  none_row r begun send verdicts.Stray h = refl

  -- a request that no transaction takes
  pub passed_row : (r : Request) → Comes s event source bytes (Kinds.Request r) → NoneTakes (reception_of s.table (Kinds.Request r)).verdict → row s event ≡ ack_row (office s) e r (change_of s.table (Kinds.Request r) source ∷ [])
  passed_row r comes none =
      let x = reception_of s.table (Kinds.Request r) in
      received_row (Kinds.Request r) comes refl
      ∙ (not_full (Kinds.Request r) (ap (λ b. b && has_no_room s.table source) (none_begins x.verdict none)) ∙ none_row r (change_of s.table (Kinds.Request r) source ∷ []) x.send x.verdict none)

  -- a response that goes up, by the rule of the request that it responds to
  pub up_row : (r : Response) (id : ℕ) (asked : Transaction) → GoesUp s event source bytes r id asked
      → row s event ≡ responds_by (office s) e r (change_of s.table (Kinds.Response r) source ∷ []) (reception_of s.table (Kinds.Response r)).send id asked (response_rule s.calls.calls asked.parts r)
  unfolding response_by response_row
  up_row r id asked h =
      let x = reception_of s.table (Kinds.Response r) in
      let begun = change_of s.table (Kinds.Response r) source ∷ [] in
      received_row (Kinds.Response r) h.comes h.reached
      ∙ (not_full (Kinds.Response r) (ap (λ v. begins v && has_no_room s.table source) h.up)
      ∙ (ap (λ v. response_by (office s) e r begun v x.send) h.up ∙ ap (response_by_asked (office s) e r begun x.send id) h.stands))
