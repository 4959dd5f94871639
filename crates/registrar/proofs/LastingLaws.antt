-- No binding is past its lifetime.
use Rattle.std.proofs.Common.{◌≡◌, ◌==◌, ◌&&◌, not, ℕ, ◌+◌, ◌*◌, ◌≤◌, Bool, true, false, cond, List, [], ◌∷◌, find, position, All, Option, Some, None, Result, Ok, Err, nat_lt, refl, ap, ◌∙◌, subst, arith}
use Rattle.std.specs.List.{list_all}
use Rattle.std.proofs.lemmas.Bool.{ltb-false}
use Rattle.std.proofs.lemmas.List.Elements.{All-head, All-tail, All-nil, All-push, All-set, All-map, All-filter}
use Rattle.sip_uri.specs.declared.uri.Uri.{Uri}
use Rattle.registrar.specs.declared.binding.Binding.{Binding}
use Rattle.registrar.specs.declared.binding_rules.BindingRules.{BindingRules}
use Rattle.registrar.specs.declared.register.Contact.{Contact}
use Rattle.registrar.specs.declared.register.Register.{Register}
use Rattle.registrar.specs.declared.refusal.Refusal.{Refusal}
use Rattle.registrar.specs.declared.refusal.Refusal.TheVariants.{StarMisused, BadContact, OutOfOrder}
use Rattle.registrar.specs.BindingLaws.{NoneOutlasts, IsPast}
use Rattle.registrar.specs.BindingRules.{granted, standing}
use Rattle.registrar.specs.Registering.{Rules, bindings_after_one, whole_refusal, unless_refused, present, first_number, rank, with_number, lifetime, is_of, is_too_brief, is_stale, binding_by, put, put_at, without, with_contact, with_contact_at, with_contacts, and_then, within_limit, is_star_misused, is_star_stale, is_bindable, is_known, with_users}
use Rattle.registrar.specs.Bound.{Event, Registered, Listed, Registration, names, or_as_before, registers, step, rules_with, fold_from, bindings_after, bound}
use Rattle.registrar.proofs.FoldLaws.{same_rules}
use Rattle.registrar.proofs.RecentLaws.{standing_all}
use Rattle.registrar.proofs.RefreshLaws.{one_of_three, by_limit}

abbrev Until : ℕ → Binding → Type 0
Until t b = b.expires_at ≤ t

granted_most : (rules : BindingRules) (most seconds : ℕ) → rules.max_expires ≡ Some most → granted rules seconds ≤ most
granted_most rules most seconds is = rw is (by_most (nat_lt most seconds) refl)
  where
    by_most : (v : Bool) → nat_lt most seconds ≡ v → cond v most seconds ≤ most
    by_most true e = omega arith
    by_most false e = let le = ltb-false most seconds e in omega arith

-- ---- one contact, and all of them

until_put : (t : ℕ) (bs : List Binding) (new : Binding) (o : Option ℕ) → Until t new → All (Until t) bs → All (Until t) (put_at bs new o)
until_put t bs new None h all = All-push (Until t) bs new all h
until_put t bs new (Some place) h all = All-set (Until t) bs place new h all

-- whatever is granted at a moment is over by this one
abbrev Short : BindingRules → ℕ → ℕ → Type 0
Short rules now t = (seconds : ℕ) → now + granted rules seconds * 1000 ≤ t

until_contact : (rules : BindingRules) (g : Register) (now t : ℕ) (bs : List Binding) (n : ℕ) (c : Contact) (o : Option Uri) (after : List Binding) → Short rules now t
    → All (Until t) bs → with_contact_at rules g now bs n c o ≡ Ok after → All (Until t) after
until_contact rules g now t bs n c None after short all e = cc
until_contact rules g now t bs n c (Some uri) after short all e =
    let new = binding_by g uri (granted rules (lifetime g c)) n now in
    one_of_three (is_too_brief rules.min_expires (lifetime g c)) (is_stale g (find (is_of uri) bs)) (granted rules (lifetime g c) == 0) (without bs uri) (put bs new) after (All (Until t)) e
    (All-filter (λ b. not (is_of uri b)) (Until t) bs all)
    (until_put t bs new (position (is_of uri) bs) (short (lifetime g c)) all)

until_contacts : (rules : BindingRules) (g : Register) (now t n : ℕ) (cs : List Contact) (bs after : List Binding) → Short rules now t
    → All (Until t) bs → with_contacts rules g now n cs bs ≡ Ok after → All (Until t) after
until_contacts rules g now t n [] bs after short all e = let same : bs ≡ after = cc in subst (All (Until t)) same all
until_contacts rules g now t n (c ∷ cs) bs after short all e =
    elim (with_contact rules g now bs n c) as (λ r. with_contact rules g now bs n c ≡ r → and_then r (λ kept. with_contacts rules g now (n + 1) cs kept) ≡ Ok after → All (Until t) after) [
      | Ok kept ↦ λ is e'. until_contacts rules g now t (n + 1) cs kept after short (until_contact rules g now t bs n c c.uri kept short all is) e'
      | Err refusal ↦ λ is e'. cc
    ] refl e

-- ---- a REGISTER, and all of them

until_by : (rules : BindingRules) (t : ℕ) (misused bindable star stale : Bool) (r : Result (List Binding) Refusal) (after : List Binding) → ((kept : List Binding) → r ≡ Ok kept → All (Until t) kept)
    → unless_refused (cond misused (Some StarMisused) (cond (not bindable) (Some BadContact) (cond stale (Some OutOfOrder) None))) (cond star (Ok []) (and_then r (λ kept. within_limit (standing rules kept)))) ≡ Ok after → All (Until t) after
until_by rules t true bindable star stale r after each e = cc
until_by rules t false false star stale r after each e = cc
until_by rules t false true star true r after each e = cc
until_by rules t false true true false r after each e = let same : [] ≡ after = cc in subst (All (Until t)) same (All-nil (Until t))
until_by rules t false true false false r after each e =
    let steps = by_limit rules r after e in
    let stand = standing rules steps.kept in
    subst (All (Until t)) steps.limited.ranked
    (All-map (Until t) (λ b. with_number (rank stand b) b) stand (standing_all (Until t) rules steps.kept (each steps.kept steps.gives)))

until_one : (rules : Rules) (g : Register) (now t : ℕ) (bs after : List Binding) → Short rules.binding_rules now t → All (Until t) bs → bindings_after_one rules g now bs ≡ Ok after → All (Until t) after
unfolding bindings_after_one whole_refusal
until_one rules g now t bs after short all e =
    until_by rules.binding_rules t (is_star_misused g) (list_all (is_bindable rules.ip rules.sip_port) g.contacts) g.star (is_star_stale g (present now bs))
    (with_contacts rules.binding_rules g now (first_number bs) g.contacts (present now bs)) after
    (λ kept is. until_contacts rules.binding_rules g now t (first_number bs) g.contacts (present now bs) kept short (All-filter (λ b. nat_lt now b.expires_at) (Until t) bs all) is) e

until_or_before : (t : ℕ) (bs : List Binding) (r : Result (List Binding) Refusal) → All (Until t) bs → ((after : List Binding) → r ≡ Ok after → All (Until t) after) → All (Until t) (or_as_before bs r)
until_or_before t bs (Ok after) all each = each after refl
until_or_before t bs (Err refusal) all each = all

until_registers : (rules : Rules) (user : List ℕ) (t : ℕ) (bs : List Binding) (e : Registration) → Short rules.binding_rules e.now t → All (Until t) bs → All (Until t) (registers rules user bs e)
until_registers rules user t bs e short all =
    elim (names e.register.user user && is_known rules user) as (λ v. All (Until t) (cond v (or_as_before bs (bindings_after_one rules e.register e.now bs)) bs)) [
      | true ↦ until_or_before t bs (bindings_after_one rules e.register e.now bs) all (λ after is. until_one rules e.register e.now t bs after short all is)
      | false ↦ all
    ]

until_listed : (t : ℕ) (bs : List Binding) (known : Bool) → All (Until t) bs → All (Until t) (cond known bs [])
until_listed t bs true all = all
until_listed t bs false all = All-nil (Until t)

until_step : (rules : Rules) (user : List ℕ) (now most : ℕ) (bs : List Binding) (e : Event) → rules.binding_rules.max_expires ≡ Some most → IsPast now e
    → All (Until (now + most * 1000)) bs → All (Until (now + most * 1000)) (step rules user bs e)
until_step rules user now most bs (Registered e) is past all =
    let short : Short rules.binding_rules e.now (now + most * 1000) = λ seconds. let le = granted_most rules.binding_rules most seconds is in omega arith in
    until_registers rules user (now + most * 1000) bs e short all
until_step rules user now most bs (Listed users) is past all = until_listed (now + most * 1000) bs (is_known (with_users rules users) user) all

until_from : (rules : Rules) (user : List ℕ) (now most : ℕ) (bs : List Binding) (es : List Event) → rules.binding_rules.max_expires ≡ Some most → All (IsPast now) es
    → All (Until (now + most * 1000)) bs → All (Until (now + most * 1000)) (fold_from rules user bs es)
until_from rules user now most bs [] is past all = all
until_from rules user now most bs (e ∷ es) is past all =
    until_from (rules_with rules e) user now most (step rules user bs e) es (ap (λ (b : BindingRules). b.max_expires) (same_rules rules e) ∙ is) (All-tail (IsPast now) e es past)
    (until_step rules user now most bs e is (All-head (IsPast now) e es past) all)

pub none_outlasts : NoneOutlasts
unfolding bound
none_outlasts rules history user now most is past =
    All-filter (λ b. nat_lt now b.expires_at) (Until (now + most * 1000)) (bindings_after rules user history)
    (until_from rules user now most [] history is past (All-nil (Until (now + most * 1000))))
