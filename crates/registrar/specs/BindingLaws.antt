-- What the rules of bindings lead to.
use Rattle.std.specs.Prelude.{All, ◌≡◌, ◌≢◌, ℕ, ◌+◌, ◌*◌, ◌≤◌, true, false, List, [], ◌∷◌, length, Some, Err}
use Rattle.registrar.specs.Limits.{max_bindings}
use Rattle.registrar.specs.declared.binding.Binding.{Binding}
use Rattle.registrar.specs.declared.register.Register.{Register}
use Rattle.registrar.specs.declared.refusal.Refusal.TheVariants.{TooManyBindings}
use Rattle.registrar.specs.BindingRules.{is_recent, recent, standing}
use Rattle.registrar.specs.Registering.{Rules}
use Rattle.registrar.specs.Bound.{Event, Registered, Listed, bound, answer_after}

-- a REGISTER came at this moment at the latest; a list of users has no moment
abbrev pub IsPast : ℕ → Event → Type 0
IsPast now (Registered r) = r.now ≤ now
IsPast now (Listed users) = Unit {0}

-- no binding is past its lifetime: it is over at the latest when the greatest has passed from now on
abbrev pub NoneOutlasts : Type 0
NoneOutlasts = (rules : Rules) (history : List Event) (user : List ℕ) (now most : ℕ) → rules.binding_rules.max_expires ≡ Some most
    → All (IsPast now) history → All (λ b. b.expires_at ≤ now + most * 1000) (bound rules user history now)

-- no two were refreshed under one number
abbrev pub AreApart : List Binding → Type 0
AreApart [] = Unit {0}
AreApart (b ∷ bs) = All (λ c. c.refreshed ≢ b.refreshed) bs × AreApart bs

-- where there are enough, as many remain as a user may have
abbrev pub EightStand : Type 0
EightStand = (bindings : List Binding) → AreApart bindings → max_bindings ≤ length bindings → length (recent bindings) ≡ max_bindings

-- none that leaves was refreshed after one that stays
abbrev pub OldestLeave : Type 0
OldestLeave = (bindings : List Binding) (stays leaves : Binding) → is_recent bindings stays ≡ true → is_recent bindings leaves ≡ false
    → leaves.refreshed ≤ stays.refreshed

-- where there is room for all, none leaves
abbrev pub NoneLeaves : Type 0
NoneLeaves = (rules : Rules) (bindings : List Binding) → length bindings ≤ max_bindings → standing rules.binding_rules bindings ≡ bindings

-- where the oldest leave, no REGISTER is refused for the number of its bindings
abbrev pub NeverTooMany : Type 0
NeverTooMany = (rules : Rules) (history : List Event) (register : Register) (now : ℕ) → rules.binding_rules.oldest_leaves ≡ true
    → answer_after rules history register now ≢ Err TooManyBindings
