-- An event that brings a REGISTER: its row, what that is answered, and the registrar afterwards.
use Rattle.std.proofs.Common.{◌≡◌, ◌∙◌, ◌++◌, ℕ, List, [], ◌∷◌, Option, Some, None, Result, Ok, Err, ap, refl, subst, sym}
use Rattle.sip_uri.specs.declared.uri.Addr.{Addr}
use Rattle.sip_message.specs.declared.message.Message.TheVariants as Kinds
use Rattle.sip_message.specs.declared.message.Request.{Request}
use Rattle.registrar.specs.Bound.{Event as RegistrarEvent, Listed, answer_after, bound, rules_after}
use Rattle.registrar.specs.Registering.{Rules}
use Rattle.registrar.specs.Registrar.{StandsAfter, answer_of, event as registration, registered, registered_for, rules_of}
use Rattle.registrar.specs.declared.binding.Binding.{Binding}
use Rattle.registrar.specs.declared.refusal.Refusal.{Refusal}
use Rattle.registrar.specs.declared.register.Register.{Register}
use Rattle.registrar.proofs.FoldLaws.{same_user}
use Rattle.registrar.proofs.Standing.{stands_listed, stands_more}
use Rattle.transactions.specs.declared.change.Entry.{Entry}
use Rattle.transactions.specs.Changes.{change_of}
use Rattle.events.specs.declared.event.Event.{Event}
use Rattle.plans.specs.CallRows.{of_plan}
use Rattle.plans.specs.Effect.{Effect}
use Rattle.plans.specs.Office.{Office}
use Rattle.plans.specs.Replies.{fresh_tag, registers, registers_by, reply_row}
use Rattle.plans.specs.declared.setting.Setting.{Setting}
use Rattle.responses.specs.Registering.{register_of}
use Rattle.plans.specs.Plan.{lists}
use Rattle.registrar.specs.Changes.{listing_of}
use Rattle.event_rows.specs.Rows.{after, row, row_by, rule_row, setting, what_row}
use Rattle.event_rows.specs.State.{Contents, after_event, moment_at, office, registered_by}
use Rattle.step_laws.specs.Registering.{BringsUsers, Lists, ListsBound, Refuses, Registers, TakesUsers, registration_at}
use Rattle.step_laws.proofs.Bound.{answer_same, bound_is}
use Rattle.step_laws.proofs.ComingRows.{begun_row}

-- whom a REGISTER names does not depend on who the users are
same_register : (rules : Rules) (history : List RegistrarEvent) (r : Request) → register_of (rules_after rules history) r ≡ register_of rules r
unfolding register_of
same_register rules history r = ap (λ (user : Option (List ℕ)). record (register_of rules r) { user = user }) (same_user rules history r.parts.to.uri)

module _ (s : Contents) (event : Event) (source : Addr) (r : Request) (id : ℕ) (h : Registers s event source r id) where
  abbrev e : Setting
  e = setting (moment_at s event.now) event.salt source

  abbrev entries : List Entry
  entries = change_of s.table (Kinds.Request r) source ∷ []

  pub register_row : row s event ≡ of_plan (office s) (registers (office s) e r entries id)
  unfolding reply_row
  register_row = begun_row s event source h.bytes r id h.begins ∙ ap (rule_row (office s) e r entries id) h.rule

  -- ---- by the list of REGISTERs before

  module _ (rules : Rules) (history : List RegistrarEvent) (stands : StandsAfter s.registrar rules history) where
    answers : registers (office s) e r entries id ≡ registers_by (office s) e r entries id (register_of rules r).user (answer_after rules history (register_of rules r) (moment_at s event.now))
    unfolding registers
    answers =
        ap (λ g. registers_by (office s) e r entries id g.user (answer_of s.registrar g (moment_at s event.now))) (ap (λ rs. register_of rs r) stands.rules_are ∙ same_register rules history r)
        ∙ ap (registers_by (office s) e r entries id (register_of rules r).user) (answer_same s.registrar (register_of rules r) (moment_at s event.now) rules history stands)

    answers_by : (answer : Result (List Binding) Refusal) → answer_after rules history (register_of rules r) (moment_at s event.now) ≡ answer
        → row s event ≡ of_plan (office s) (registers_by (office s) e r entries id (register_of rules r).user answer)
    answers_by answer is = register_row ∙ ap (of_plan (office s)) (answers ∙ ap (registers_by (office s) e r entries id (register_of rules r).user) is)

    pub lists_bound : (user : List ℕ) → (register_of rules r).user ≡ Some user → (bindings : List Binding) → answer_after rules history (register_of rules r) (moment_at s event.now) ≡ Ok bindings
        → ListsBound rules history (registration_at rules s event r) (moment_at s event.now) source r user (row s event)
    lists_bound user named bindings is =
        let lists_then : (bs : List Binding) → bs ≡ bindings → Lists source r (moment_at s event.now) bs (row s event) = λ bs same.
        subst (λ x. Lists source r (moment_at s event.now) bs x) (sym (answers_by (Ok bs) (is ∙ ap Ok (sym same)))) (record { taken = refl; tag = fresh_tag (office s) e; sends = refl }) in
        record { lists = lists_then (bound rules user (history ++ registration_at rules s event r ∷ []) (moment_at s event.now)) (bound_is rules history (register_of rules r) (moment_at s event.now) user bindings named is) }

    pub refuses : (refusal : Refusal) → answer_after rules history (register_of rules r) (moment_at s event.now) ≡ Err refusal → Refuses source r s.least refusal (row s event)
    refuses refusal is =
        subst (λ x. Refuses source r s.least refusal x) (sym (answers_by (Err refusal) is)) (record { taken = refl; tag = fresh_tag (office s) e; sends = refl; registration = refl })

-- ---- the registrar afterwards

left_by : (s : Office) (e : Setting) (r : Request) (begun : List Entry) (id : ℕ) (user : Option (List ℕ)) (answer : Result (List Binding) Refusal)
    → registered_by s.registrar (registers_by s e r begun id user answer).registration ≡ registered_for s.registrar user answer
left_by s e r begun id None (Ok bindings) = refl
left_by s e r begun id (Some user) (Ok bindings) = refl
left_by s e r begun id None (Err refusal) = refl
left_by s e r begun id (Some user) (Err refusal) = refl

leaves : (s : Office) (e : Setting) (r : Request) (begun : List Entry) (id : ℕ) (register : Register) → register ≡ register_of (rules_of s.registrar) r
    → registered_by s.registrar (registers s e r begun id).registration ≡ registered s.registrar register (answer_of s.registrar register e.now)
unfolding registers registered
leaves s e r begun id register is =
    subst (λ g. registered_by s.registrar (registers s e r begun id).registration ≡ registered s.registrar g (answer_of s.registrar g e.now)) (sym is)
    (left_by s e r begun id (register_of (rules_of s.registrar) r).user (answer_of s.registrar (register_of (rules_of s.registrar) r) e.now))

pub registrar_after : (s : Contents) (event : Event) → (after s event).registrar ≡ registered_by s.registrar (row s event).plan.registration
unfolding after_event
registrar_after s event = refl

pub stands_after : (s : Contents) (event : Event) (source : Addr) (r : Request) (id : ℕ) → Registers s event source r id → (rules : Rules) (history : List RegistrarEvent) → StandsAfter s.registrar rules history
    → StandsAfter (after s event).registrar rules (history ++ registration_at rules s event r ∷ [])
stands_after s event source r id h rules history stands =
    let now = moment_at s event.now in
    let e = setting now event.salt source in
    let register = register_of rules r in
    let own : register ≡ register_of (rules_of s.registrar) r = sym (ap (λ rs. register_of rs r) stands.rules_are ∙ same_register rules history r) in
    subst (λ x. StandsAfter x rules (history ++ registration register now ∷ []))
    (sym (registrar_after s event ∙ ap (λ (x : Effect). registered_by s.registrar x.plan.registration) (register_row s event source r id h) ∙ leaves (office s) e r (change_of s.table (Kinds.Request r) source ∷ []) id register own))
    (stands_more s.registrar register now rules history stands)

-- ---- a list of users

module _ (s : Contents) (event : Event) (users : List (List ℕ)) (h : BringsUsers s event users) where
  pub list_row : row s event ≡ of_plan (office s) (lists (listing_of s.registrar users))
  unfolding row what_row
  list_row = ap (row_by s event) h.counts ∙ ap (what_row (office s) (moment_at s event.now) event.salt) h.what

  pub takes_users : (rules : Rules) (history : List RegistrarEvent) → StandsAfter s.registrar rules history → TakesUsers rules history users s event
  takes_users rules history stands = record {
    taken = ap (λ (x : Effect). x.plan.taken) list_row;
    sends = ap (λ (x : Effect). x.plan.sends) list_row;
    calls = ap (λ (x : Effect). x.calls.standing) list_row;
    stands = subst (λ r. StandsAfter r rules (history ++ Listed users ∷ []))
        (sym (registrar_after s event ∙ ap (λ (x : Effect). registered_by s.registrar x.plan.registration) list_row))
        (stands_listed s.registrar users rules history stands);
  }
