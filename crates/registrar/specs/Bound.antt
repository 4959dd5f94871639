-- Which contacts a user is bound to (RFC 3261 section 10.3), from the plain list of all REGISTERs and lists of users so
-- far.
use Rattle.std.specs.Prelude.{◌&&◌, ℕ, Bool, true, false, List, [], ◌∷◌, find, nat_eq, nat_le, Option, Some, None, option_map, Result, Ok, Err, if◌then◌else◌, ◌≡◌, ◌≢◌, ◌≤◌, length, ◌++◌}
use Rattle.std.specs.List.{list_all}
use Rattle.std.specs.Cmp.Lexicographic.{pointwise}
use Rattle.sip_uri.specs.declared.uri.Uri.{Uri}
use Rattle.registrar.specs.Registering.{Rules, is_known, with_users, bindings_after_one, answer_by, present, lifetime}
use Rattle.registrar.specs.BindingRules.{granted}
use Rattle.registrar.specs.Limits.{max_bindings}
use Rattle.registrar.specs.declared.register.Contact.{Contact}
use Rattle.registrar.specs.declared.binding.Binding.{Binding}
use Rattle.registrar.specs.declared.register.Register.{Register}
use Rattle.registrar.specs.declared.refusal.Refusal.{Refusal}

-- a REGISTER and its moment
pub record Registration : Type 0 where
  pub register : Register
  pub now : ℕ

-- what the bindings follow from
pub data Event : Type 0 where
  Registered : Registration → Event
  -- these are the office's users from now on
  Listed : List (List ℕ) → Event

-- the REGISTER names this user
abbrev pub names : Option (List ℕ) → List ℕ → Bool
names None user = false
names (Some named) user = pointwise nat_eq named user

abbrev pub or_as_before : List Binding → Result (List Binding) Refusal → List Binding
or_as_before before (Ok after) = after
or_as_before before (Err refusal) = before

-- one more REGISTER: all of it counts, or nothing (section 10.3, step 7)
abbrev pub registers : Rules → List ℕ → List Binding → Registration → List Binding
registers rules user bindings r =
    if names r.register.user user && is_known rules user then or_as_before bindings (bindings_after_one rules r.register r.now bindings) else bindings

-- one who is no longer a user loses all bindings
abbrev pub step : Rules → List ℕ → List Binding → Event → List Binding
step rules user bindings (Registered r) = registers rules user bindings r
step rules user bindings (Listed users) = if is_known (with_users rules users) user then bindings else []

abbrev pub rules_with : Rules → Event → Rules
rules_with rules (Registered r) = rules
rules_with rules (Listed users) = with_users rules users

-- the rules after these: the users are those of the last list
abbrev pub rules_after : Rules → List Event → Rules
rules_after rules [] = rules
rules_after rules (e ∷ es) = rules_after (rules_with rules e) es

-- one after the other
abbrev pub fold_from : Rules → List ℕ → List Binding → List Event → List Binding
fold_from rules user bindings [] = bindings
fold_from rules user bindings (e ∷ es) = fold_from (rules_with rules e) user (step rules user bindings e) es

-- what a user was bound to at any time since the last event that counts
abbrev pub bindings_after : Rules → List ℕ → List Event → List Binding
bindings_after rules user history = fold_from rules user [] history

-- what a REGISTER is answered after these
unfoldable pub answer_after : Rules → List Event → Register → ℕ → Result (List Binding) Refusal
answer_after rules history register now = answer_by (rules_after rules history) (λ user. bindings_after rules user history) register now

-- what a user is bound to at a moment, oldest first
unfoldable pub bound : Rules → List ℕ → List Event → ℕ → List Binding
bound rules user history now = present now (bindings_after rules user history)

-- none of these was refreshed after it
abbrev pub is_latest : List Binding → Binding → Bool
is_latest bindings b = list_all (λ c. nat_le c.refreshed b.refreshed) bindings

-- the binding that was refreshed last
abbrev pub latest : List Binding → Option Binding
latest bindings = find (is_latest bindings) bindings

-- where a call to a user with these bindings goes
unfoldable pub target_of : List Binding → Option Uri
target_of bindings = option_map (λ b. b.uri) (latest bindings)

-- ---- what follows

-- a user has at most as many bindings as the limit at any moment
abbrev pub FewBound : Type 0
FewBound = (rules : Rules) (history : List Event) (user : List ℕ) (now : ℕ) → length (bound rules user history now) ≤ max_bindings

-- where the last contact of a REGISTER is bound by it, that is where calls go then
abbrev pub LastContactIsTarget : Type 0
LastContactIsTarget = (rules : Rules) (history : List Event) (register : Register) (now : ℕ) (others : List Contact) (contact : Contact) (uri : Uri) (after : List Binding)
    → register.contacts ≡ others ++ contact ∷ [] → contact.uri ≡ Some uri → granted rules.binding_rules (lifetime register contact) ≢ 0
    → answer_after rules history register now ≡ Ok after → target_of after ≡ Some uri

-- a REGISTER without contacts leaves the target as it was
abbrev pub QueryKeepsTarget : Type 0
QueryKeepsTarget = (rules : Rules) (history : List Event) (register : Register) (now : ℕ) (user : List ℕ) (after : List Binding)
    → register.user ≡ Some user → register.contacts ≡ [] → register.star ≡ false
    → answer_after rules history register now ≡ Ok after → target_of after ≡ target_of (bound rules user history now)

-- one who is not on the last list is bound to nothing
abbrev pub GoneIsUnbound : Type 0
GoneIsUnbound = (rules : Rules) (history : List Event) (users : List (List ℕ)) (user : List ℕ) (now : ℕ) → is_known (with_users rules users) user ≡ false
    → bound rules user (history ++ Listed users ∷ []) now ≡ []

-- a user on it is bound to what it was bound to
abbrev pub KnownKeepsBindings : Type 0
KnownKeepsBindings = (rules : Rules) (history : List Event) (users : List (List ℕ)) (user : List ℕ) (now : ℕ) → is_known (with_users rules users) user ≡ true
    → bound rules user (history ++ Listed users ∷ []) now ≡ bound rules user history now
