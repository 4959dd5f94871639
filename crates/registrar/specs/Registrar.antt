-- The registrar, and what it means that it is as a list of REGISTERs and lists of users leave it.
use Rattle.std.specs.Prelude.{◌≡◌, ℕ, Bool, List, [], ◌∷◌, find, map, nat_eq, Option, Some, None, option_map, unwrap_or, Result, Ok, Err, if◌then◌else◌}
use Rattle.std.specs.Cmp.Lexicographic.{pointwise}
use Rattle.std.specs.declared.vec.Vec.{Vec}
use Rattle.std.specs.declared.alloc.Global.{Global}
use Rattle.index.specs.declared.print.PrintKey.{PrintKey}
use Rattle.registrar.specs.declared.binding.Binding.{Binding}
use Rattle.registrar.specs.declared.binding_rules.BindingRules.{BindingRules}
use Rattle.registrar.specs.declared.register.Register.{Register}
use Rattle.registrar.specs.declared.user_bindings.UserBindings.{UserBindings}
use Rattle.registrar.specs.declared.refusal.Refusal.{Refusal}
use Rattle.registrar.specs.declared.refusal.Refusal.TheVariants.{OutOfMemory}
use Rattle.registrar.specs.Registering.{Rules, answer_by, early_refusal, present}
use Rattle.registrar.specs.Bound.{Event, Registered, bindings_after, rules_after}

-- each user with its bindings, the configuration, and the key of the prints under which users are looked up
pub record Contents : Type 0 where
  pub entries : List UserBindings
  pub ip : List ℕ
  pub sip_port : ℕ
  pub domain : List ℕ
  pub binding_rules : BindingRules
  pub key : PrintKey

abbrev pub rules_of : Contents → Rules
rules_of r = record { users = map (λ l. l.user) r.entries; ip = r.ip; sip_port = r.sip_port; domain = r.domain; binding_rules = r.binding_rules }

-- the rules of a registrar that was made with these
abbrev pub rules_given : List (List ℕ) → List ℕ → ℕ → List ℕ → BindingRules → Rules
rules_given users ip sip_port domain binding_rules = record { users = users; ip = ip; sip_port = sip_port; domain = domain; binding_rules = binding_rules }

abbrev pub is_for : List ℕ → UserBindings → Bool
is_for user entry = pointwise nat_eq entry.user user

abbrev pub bindings_of : List UserBindings → List ℕ → List Binding
bindings_of entries user = unwrap_or (option_map (λ l. l.bindings) (find (is_for user) entries)) []

-- the bindings that a user has at a moment
unfoldable pub bindings_at : Contents → List ℕ → ℕ → List Binding
bindings_at r user now = present now (bindings_of r.entries user)

-- its users are those of the last list, and for each user it has what these events leave
pub record StandsAfter (r : Contents) (rules : Rules) (history : List Event) : Type 0 where
  pub rules_are : rules_of r ≡ rules_after rules history
  pub each : (user : List ℕ) → bindings_of r.entries user ≡ bindings_after rules user history

abbrev pub event : Register → ℕ → Event
event register now = Registered (record { register = register; now = now })

-- ---- the answer to a REGISTER

-- what a REGISTER is answered
unfoldable pub answer_of : Contents → Register → ℕ → Result (List Binding) Refusal
answer_of r register now = answer_by (rules_of r) (bindings_of r.entries) register now

-- why it is refused without a request for memory
unfoldable pub refusal_of : Contents → Register → ℕ → Option Refusal
refusal_of r register now = early_refusal (rules_of r) (bindings_of r.entries) register now

-- the refusal is the answer, unless memory ran out
abbrev pub Fails : Refusal → Result (List Binding) Refusal → Type 0
Fails OutOfMemory answer = Unit {0}
Fails refusal answer = answer ≡ Err refusal

-- this is the answer, unless memory ran out
abbrev pub Gives : Result (Vec Binding Global) Refusal → Result (List Binding) Refusal → Type 0
Gives (Ok bindings) answer = answer ≡ Ok bindings.items
Gives (Err refusal) answer = Fails refusal answer

-- a call that was refused because memory ran out counts as not made
abbrev pub Counts : Result (Vec Binding Global) Refusal → Type 0
Counts (Ok bindings) = Unit {0}
Counts (Err OutOfMemory) = ⊥
Counts (Err refusal) = Unit {0}

-- ---- what is kept

abbrev pub with_bindings : List Binding → UserBindings → UserBindings
with_bindings bindings entry = record { user = entry.user; bindings = bindings }

abbrev pub without_bindings : List ℕ → UserBindings
without_bindings user = record { user = user; bindings = [] }

-- a registrar without bindings
abbrev pub made_of : List (List ℕ) → List ℕ → ℕ → List ℕ → BindingRules → PrintKey → Contents
made_of users ip sip_port domain binding_rules key =
    record { entries = map without_bindings users; ip = ip; sip_port = sip_port; domain = domain; binding_rules = binding_rules; key = key }

-- the first entry of this user has these bindings, the others as before
abbrev pub entries_with : List ℕ → List Binding → List UserBindings → List UserBindings
entries_with user bindings [] = []
entries_with user bindings (l ∷ ls) =
    if is_for user l then with_bindings bindings l ∷ ls else l ∷ entries_with user bindings ls

-- the user has these bindings, and all others what they had
abbrev pub with_user : Contents → List ℕ → List Binding → Contents
with_user r user bindings =
    record { entries = entries_with user bindings r.entries; ip = r.ip; sip_port = r.sip_port; domain = r.domain; binding_rules = r.binding_rules; key = r.key }

abbrev pub registered_at : Contents → List ℕ → Result (List Binding) Refusal → Contents
registered_at r user (Ok bindings) = with_user r user bindings
registered_at r user (Err refusal) = r

abbrev pub registered_for : Contents → Option (List ℕ) → Result (List Binding) Refusal → Contents
registered_for r None answer = r
registered_for r (Some user) answer = registered_at r user answer

-- the registrar after a REGISTER that was answered so
unfoldable pub registered : Contents → Register → Result (List Binding) Refusal → Contents
registered r register answer = registered_for r register.user answer

-- ---- a listing

-- users, each with its bindings, and the key of the prints under which they are looked up
pub record ListingContents : Type 0 where
  pub entries : List UserBindings
  pub key : PrintKey

-- ---- a plan

-- the bindings that a user is to have
pub record PlanContents : Type 0 where
  pub user : List ℕ
  pub bindings : List Binding

abbrev pub plan_of : List ℕ → List Binding → PlanContents
plan_of user bindings = record { user = user; bindings = bindings }

-- the registrar once a plan is carried out
abbrev pub after_plan : Contents → PlanContents → Contents
after_plan r plan = with_user r plan.user plan.bindings

-- the plan is of the user that the REGISTER names, and leaves it what the answer says; it fails where the answer is a
-- refusal, or memory ran out
abbrev pub Plans : Result PlanContents Refusal → Option (List ℕ) → Result (List Binding) Refusal → Type 0
Plans (Ok plan) user answer = (user ≡ Some plan.user) × (answer ≡ Ok plan.bindings)
Plans (Err refusal) user answer = Fails refusal answer
