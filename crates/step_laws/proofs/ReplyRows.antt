-- The rows of the requests that the server answers by itself.
use Rattle.std.proofs.Common.{◌≡◌, ◌∙◌, ℕ, false, cond, codes, List, [], ◌∷◌, Option, Some, None, Result, Ok, Err, refl, ap, sym, subst}
use Rattle.sip_uri.specs.declared.uri.Addr.{Addr}
use Rattle.sip_message.specs.AnswerableParts.{answerable_of}
use Rattle.sip_message.specs.Read.{message_of}
use Rattle.sip_message.specs.declared.error.MessageError.{MessageError}
use Rattle.sip_message.specs.declared.error.MessageError.TheVariants as faults
use Rattle.sip_message.specs.declared.message.Message.TheVariants as Kinds
use Rattle.sip_message.specs.declared.message.Parts.{Parts}
use Rattle.sip_message.specs.declared.message.Request.{Request}
use Rattle.registrar.specs.declared.binding.Binding.{Binding}
use Rattle.registrar.specs.declared.refusal.Refusal.{Refusal}
use Rattle.registrar.specs.Registrar.{answer_of, rules_of}
use Rattle.transactions.specs.Changes.{change_of}
use Rattle.transactions.specs.declared.change.Entry.{Entry}
use Rattle.events.specs.declared.event.Event.{Event}
use Rattle.events.specs.declared.event.What.TheVariants as whats
use Rattle.plans.specs.CallRows.{of_plan}
use Rattle.plans.specs.Effect.{Effect}
use Rattle.plans.specs.Office.{Office}
use Rattle.plans.specs.Plan.{nothing}
use Rattle.plans.specs.Reasons.{status as status_for}
use Rattle.plans.specs.declared.reason.Reason.TheVariants as reasons
use Rattle.plans.specs.Replies.{registers, registers_by, reply_row}
use Rattle.plans.specs.declared.rule.Reply.{Reply}
use Rattle.plans.specs.declared.rule.Reply.TheVariants as reply
use Rattle.plans.specs.declared.setting.Setting.{Setting}
use Rattle.plans.specs.declared.taken.Taken.TheVariants.{Done, Dropped}
use Rattle.plans.specs.declared.taken.Why.TheVariants.{NoBranch}
use Rattle.responses.specs.Registering.{register_of}
use Rattle.responses.specs.Responding.{stateless}
use Rattle.responses.specs.Words.{has_fit_branch, is_method}
use Rattle.event_rows.specs.Rows.{by_reading, datagram_row, fit_row, only_counts, read_row, refuses_alone, row, row_by, rule_row, unfit_branch, unread_by, unread_row, what_row}
use Rattle.event_rows.specs.Rules.{request_rule}
use Rattle.event_rows.specs.State.{Contents, moment_at, office}
use Rattle.event_rows.specs.Rule.{Alone}
use Rattle.step_laws.specs.Coming.{BeginsTransaction}
use Rattle.step_laws.specs.Replies.{RespondsOnce}
use Rattle.step_laws.proofs.CallRows.{registers_taken}
use Rattle.step_laws.proofs.ComingRows.{begun_row, setting_of}
use Rattle.step_laws.proofs.EventCases.{EventCase, event_case, ignored, listed, registered, unfired, went}

-- ---- a request that begins a transaction

module _ (s : Office) (e : Setting) (r : Request) (begun : List Entry) (id : ℕ) where
  abbrev Once : Effect → Type 0
  Once = RespondsOnce r.parts e.source

  registers_once : (user : Option (List ℕ)) (answer : Result (List Binding) Refusal) → Once (of_plan s (registers_by s e r begun id user answer))
  registers_once user (Ok bindings) = record { taken = refl; status = _; tag = _; further = _; sends = refl }
  registers_once user (Err refusal) = record { taken = refl; status = _; tag = _; further = _; sends = refl }

  pub reply_once : (x : Reply) → Once (of_plan s (reply_row s e r begun id x))
  unfolding reply_row registers
  reply_once (reply.CancelOf other) = record { taken = refl; status = _; tag = _; further = _; sends = refl }
  reply_once (reply.Refusal reason) = record { taken = refl; status = _; tag = _; further = _; sends = refl }
  reply_once reply.MethodsListed = record { taken = refl; status = _; tag = _; further = _; sends = refl }
  reply_once reply.Registration = registers_once (register_of (rules_of s.registrar) r).user (answer_of s.registrar (register_of (rules_of s.registrar) r) e.now)

module _ (s : Contents) (event : Event) (source : Addr) (bytes : List ℕ) where
  abbrev e : Setting
  e = setting_of s event source

  pub alone : (r : Request) (id : ℕ) → BeginsTransaction s event source bytes r id → (x : Reply) → request_rule (office s) r (moment_at s event.now) ≡ Alone x → RespondsOnce r.parts source (row s event)
  alone r id begins x is =
      let begun = change_of s.table (Kinds.Request r) source ∷ [] in
      subst (RespondsOnce r.parts source) (sym (begun_row s event source bytes r id begins ∙ ap (rule_row (office s) e r begun id) is)) (reply_once (office s) e r begun id x)

  -- ---- a datagram that is not taken as a message

  module _ (datagram : event.what ≡ whats.Datagram source bytes) (counts : only_counts s event ≡ None) where
    came : row s event ≡ by_reading (office s) e bytes (message_of bytes)
    unfolding row what_row datagram_row
    came = ap (row_by s event) counts ∙ ap (what_row (office s) (moment_at s event.now) event.salt) datagram

    pub unfit : (r : Request) → message_of bytes ≡ Ok (Kinds.Request r) → has_fit_branch r.parts.vias ≡ false → is_method (codes "ACK") r ≡ false → RespondsOnce r.parts source (row s event)
    unfolding read_row
    unfit r read branch no_ack =
        subst (RespondsOnce r.parts source)
        (sym (came
        ∙ (ap (by_reading (office s) e bytes) read
        ∙ (ap (λ b. cond b (fit_row (office s) e (Kinds.Request r)) (of_plan (office s) (unfit_branch e (Kinds.Request r)))) branch
        ∙ ap (λ b. of_plan (office s) (cond b (nothing (Dropped NoBranch)) (refuses_alone e r.parts reasons.NoBranch))) no_ack))))
        (record { taken = refl; status = 400; tag = stateless; further = []; sends = refl })

    unread_once : (fault : MessageError) (o : Option Parts) (parts : Parts) → o ≡ Some parts → RespondsOnce parts source (of_plan (office s) (unread_by e fault o))
    unread_once fault o parts is =
        subst (λ x. RespondsOnce parts source (of_plan (office s) (unread_by e fault x))) (sym is) (record { taken = refl; status = status_for (reasons.Unread fault); tag = stateless; further = []; sends = refl })

    faulty : (fault : MessageError) (parts : Parts) → (fault ≡ faults.TooLong → ⊥) → answerable_of bytes ≡ Some parts → RespondsOnce parts source (of_plan (office s) (unread_row e bytes fault))
    unfolding unread_row
    faulty faults.TooLong parts short answerable = absurd (short refl)
    faulty fault parts short answerable = unread_once fault (answerable_of bytes) parts answerable

    pub unread : (fault : MessageError) → message_of bytes ≡ Err fault → (fault ≡ faults.TooLong → ⊥) → (parts : Parts) → answerable_of bytes ≡ Some parts → RespondsOnce parts source (row s event)
    unread fault is short parts answerable =
        subst (RespondsOnce parts source) (sym (came ∙ ap (by_reading (office s) e bytes) is)) (faulty fault parts short answerable)

-- ---- an event that counts as not come

case_silent : (s : Contents) (event : Event) (x : Effect) → EventCase s event x → (x.plan.taken ≡ Done → ⊥) → x.plan.sends ≡ []
case_silent s event x (ignored taken why is) undone = ap (λ (y : Effect). y.plan.sends) is
case_silent s event x (listed users brings is) undone = ap (λ (y : Effect). y.plan.sends) is
case_silent s event x (unfired timer due none is) undone = ap (λ (y : Effect). y.plan.sends) is
case_silent s event x (went is) undone = absurd (undone is.taken)
case_silent s event x (registered source r id registers is) undone = absurd (undone (ap (λ (y : Effect). y.plan.taken) is ∙ registers_taken _ _ r _ id))

pub uncounted : (s : Contents) (event : Event) → ((row s event).plan.taken ≡ Done → ⊥) → (row s event).plan.sends ≡ []
uncounted s event = case_silent s event (row s event) (event_case s event)
