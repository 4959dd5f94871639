-- The rules and the bindings after one more event.
use Rattle.std.proofs.Common.{◌≡◌, ◌∙◌, ℕ, Bool, cond, List, [], ◌∷◌, ◌++◌, None, refl, ap}
use Rattle.registrar.specs.declared.binding.Binding.{Binding}
use Rattle.sip_uri.specs.declared.uri.Uri.{Uri}
use Rattle.sip_uri.specs.declared.uri.Host.{Host}
use Rattle.sip_uri.specs.declared.uri.Host.TheVariants.{Ip4, Name}
use Rattle.registrar.specs.Registering.{Rules, is_own_host, present, user_of, with_users}
use Rattle.registrar.specs.Bound.{Event, Registered, Listed, bindings_after, bound, fold_from, rules_after, rules_with, step, GoneIsUnbound, KnownKeepsBindings}

-- ---- the rules of bindings stay

pub same_rules : (rules : Rules) (e : Event) → (rules_with rules e).binding_rules ≡ rules.binding_rules
same_rules rules (Registered r) = refl
same_rules rules (Listed users) = refl

pub same_after : (rules : Rules) (es : List Event) → (rules_after rules es).binding_rules ≡ rules.binding_rules
same_after rules [] = refl
same_after rules (e ∷ es) = same_after (rules_with rules e) es ∙ same_rules rules e

-- ---- whom a To names does not depend on who the users are

same_user_with : (rules : Rules) (e : Event) (to : Uri) → user_of (rules_with rules e) to ≡ user_of rules to
unfolding user_of
same_user_with rules (Registered r) to = refl
same_user_with rules (Listed users) to = same_named rules users to to.host
  where
    same_named : (rules : Rules) (users : List (List ℕ)) (to : Uri) (host : Host) → cond (is_own_host (with_users rules users) host) to.user None ≡ cond (is_own_host rules host) to.user None
    same_named rules users to (Ip4 octets) = refl
    same_named rules users to (Name name) = refl

pub same_user : (rules : Rules) (es : List Event) (to : Uri) → user_of (rules_after rules es) to ≡ user_of rules to
same_user rules [] to = refl
same_user rules (e ∷ es) to = same_user (rules_with rules e) es to ∙ same_user_with rules e to

-- ---- one event more

pub rules_after-append : (rules : Rules) (es : List Event) (e : Event) → rules_after rules (es ++ e ∷ []) ≡ rules_with (rules_after rules es) e
rules_after-append rules [] e = refl
rules_after-append rules (x ∷ es) e = rules_after-append (rules_with rules x) es e

pub fold_from-append : (rules : Rules) (user : List ℕ) (bs : List Binding) (es : List Event) (e : Event)
    → fold_from rules user bs (es ++ e ∷ []) ≡ step (rules_after rules es) user (fold_from rules user bs es) e
fold_from-append rules user bs [] e = refl
fold_from-append rules user bs (x ∷ es) e = fold_from-append (rules_with rules x) user (step rules user bs x) es e

-- ---- a list of users

pub gone_is_unbound : GoneIsUnbound
unfolding bound
gone_is_unbound rules history users user now gone =
    ap (present now) (fold_from-append rules user [] history (Listed users) ∙ ap (λ (v : Bool). cond v (bindings_after rules user history) []) gone)

pub known_keeps_bindings : KnownKeepsBindings
unfolding bound
known_keeps_bindings rules history users user now known =
    ap (present now) (fold_from-append rules user [] history (Listed users) ∙ ap (λ (v : Bool). cond v (bindings_after rules user history) []) known)
