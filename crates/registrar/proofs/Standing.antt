-- A registrar that is as some events leave it is also as one more leaves it.
use Rattle.std.proofs.Common.{◌≡◌, ◌&&◌, ◌||◌, ◌∙◌, find, map, option_map, unwrap_or, ℕ, Bool, true, false, cond, List, [], ◌∷◌, ◌++◌, filter, Option, Some, None, Result, Ok, Err, IfOk, All, nat_eq, nat_lt, refl, sym, ap, subst, rules}
use Rattle.std.specs.Cmp.Lexicographic.{pointwise, bytes_decides}
use Rattle.std.specs.List.{list_any}
use Rattle.std.specs.declared.vec.Vec.{Vec}
use Rattle.std.specs.declared.alloc.Global.{Global}
use Rattle.std.proofs.lemmas.List.Elements.{All-head, All-tail}
use Rattle.text.proofs.Lists.{is_some-position}
use Rattle.index.specs.declared.print.PrintKey.{PrintKey}
use Rattle.registrar.specs.declared.binding.Binding.{Binding}
use Rattle.registrar.specs.declared.binding_rules.BindingRules.{BindingRules}
use Rattle.registrar.specs.declared.register.Register.{Register}
use Rattle.registrar.specs.declared.refusal.Refusal.{Refusal}
use Rattle.registrar.specs.declared.refusal.Refusal.TheVariants.{UnknownUser}
use Rattle.registrar.specs.Registering.{Rules, is_known, with_users, answer_for, answer_by, bindings_after_one, present, AllLast}
use Rattle.registrar.specs.Bound.{Event, Listed, bindings_after, bound, step, names, or_as_before, answer_after, rules_after}
use Rattle.registrar.specs.Changes.{kept_entry, kept_entries, listed}
use Rattle.registrar.specs.declared.user_bindings.UserBindings.{UserBindings}
use Rattle.registrar.specs.Registrar.{Contents, StandsAfter, rules_of, rules_given, is_for, bindings_of, event, answer_of, registered, registered_for, registered_at, Gives, made_of}
use Rattle.registrar.proofs.FoldLaws.{rules_after-append, fold_from-append}
use Rattle.registrar.proofs.EntryLaws.{known, own_entry, other_entry, same_users, users-without_bindings, none-without_bindings}

-- a new registrar is as no REGISTER leaves it
pub stands_new : (users : List (List ℕ)) (ip : List ℕ) (sip_port : ℕ) (domain : List ℕ) (binding_rules : BindingRules) (key : PrintKey)
    → StandsAfter (made_of users ip sip_port domain binding_rules key) (rules_given users ip sip_port domain binding_rules) []
stands_new users ip sip_port domain binding_rules key = record {
  rules_are = ap (λ us. rules_given us ip sip_port domain binding_rules) (users-without_bindings users);
  each = λ user. none-without_bindings users user;
}

-- ---- the entry of the user that registers, and every other

has_entry : (r : Contents) (user : List ℕ) → is_known (rules_of r) user ≡ true → list_any (is_for user) r.entries ≡ true
has_entry r user is = sym (is_some-position (is_for user) r.entries) ∙ sym (known r user) ∙ is

own_step : (r : Contents) (user : List ℕ) (answer : Result (List Binding) Refusal) → is_known (rules_of r) user ≡ true
    → bindings_of (registered_at r user answer).entries user ≡ or_as_before (bindings_of r.entries user) answer
own_step r user (Ok bs) is = own_entry r.entries user bs (has_entry r user is)
own_step r user (Err refusal) is = refl

other_step : (r : Contents) (user other : List ℕ) (answer : Result (List Binding) Refusal) → pointwise nat_eq user other ≡ false
    → bindings_of (registered_at r user answer).entries other ≡ bindings_of r.entries other
other_step r user other (Ok bs) differ = other_entry r.entries user other bs differ
other_step r user other (Err refusal) differ = refl

unknown_user : (r : Contents) (user v : List ℕ) (answer : Result (List Binding) Refusal) → is_known (rules_of r) user ≡ false
    → bindings_of r.entries v ≡ cond (pointwise nat_eq user v && is_known (rules_of r) v) (or_as_before (bindings_of r.entries v) answer) (bindings_of r.entries v)
unknown_user r user v answer is =
    elim (pointwise nat_eq user v) as (λ b. pointwise nat_eq user v ≡ b → bindings_of r.entries v ≡ cond (b && is_known (rules_of r) v) (or_as_before (bindings_of r.entries v) answer) (bindings_of r.entries v)) [
      | true ↦ λ e.
          let unknown : is_known (rules_of r) v ≡ false = subst (λ w. is_known (rules_of r) w ≡ false) ((bytes_decides user v).0 e) is in
          ap (λ b. cond b (or_as_before (bindings_of r.entries v) answer) (bindings_of r.entries v)) (sym unknown)
      | false ↦ λ e. refl
    ] refl

-- what the REGISTER of this user leaves another or the same
own_or_other : (r : Contents) (g : Register) (now : ℕ) (user v : List ℕ) (known : Bool) → is_known (rules_of r) user ≡ known
    → bindings_of (registered_at r user (cond known (bindings_after_one (rules_of r) g now (bindings_of r.entries user)) (Err UnknownUser))).entries v
    ≡ cond (pointwise nat_eq user v && is_known (rules_of r) v) (or_as_before (bindings_of r.entries v) (bindings_after_one (rules_of r) g now (bindings_of r.entries v))) (bindings_of r.entries v)
own_or_other r g now user v false is = unknown_user r user v (bindings_after_one (rules_of r) g now (bindings_of r.entries v)) is
own_or_other r g now user v true is =
    elim (pointwise nat_eq user v) as (λ b. pointwise nat_eq user v ≡ b → bindings_of (registered_at r user (bindings_after_one (rules_of r) g now (bindings_of r.entries user))).entries v ≡ cond (b && is_known (rules_of r) v) (or_as_before (bindings_of r.entries v) (bindings_after_one (rules_of r) g now (bindings_of r.entries v))) (bindings_of r.entries v)) [
      | true ↦ λ e. subst (λ w. bindings_of (registered_at r user (bindings_after_one (rules_of r) g now (bindings_of r.entries user))).entries w ≡ cond (is_known (rules_of r) w) (or_as_before (bindings_of r.entries w) (bindings_after_one (rules_of r) g now (bindings_of r.entries w))) (bindings_of r.entries w)) ((bytes_decides user v).0 e)
          (own_step r user (bindings_after_one (rules_of r) g now (bindings_of r.entries user)) is
          ∙ ap (λ b. cond b (or_as_before (bindings_of r.entries user) (bindings_after_one (rules_of r) g now (bindings_of r.entries user))) (bindings_of r.entries user)) (sym is))
      | false ↦ λ e. other_step r user v (bindings_after_one (rules_of r) g now (bindings_of r.entries user)) e
    ] refl

each_for : (r : Contents) (g : Register) (now : ℕ) (v : List ℕ) (named : Option (List ℕ))
    → bindings_of (registered_for r named (answer_for (rules_of r) (bindings_of r.entries) g now named)).entries v
    ≡ cond (names named v && is_known (rules_of r) v) (or_as_before (bindings_of r.entries v) (bindings_after_one (rules_of r) g now (bindings_of r.entries v))) (bindings_of r.entries v)
each_for r g now v None = refl
each_for r g now v (Some user) = own_or_other r g now user v (is_known (rules_of r) user) refl

-- ---- the rules stay

rules_at : (r : Contents) (user : List ℕ) (answer : Result (List Binding) Refusal) → rules_of (registered_at r user answer) ≡ rules_of r
rules_at r user (Ok bs) = ap (λ us. rules_given us r.ip r.sip_port r.domain r.binding_rules) (same_users r.entries user bs)
rules_at r user (Err refusal) = refl

rules_for : (r : Contents) (named : Option (List ℕ)) (answer : Result (List Binding) Refusal) → rules_of (registered_for r named answer) ≡ rules_of r
rules_for r None answer = refl
rules_for r (Some user) answer = rules_at r user answer

-- one more REGISTER
pub stands_more : (r : Contents) (g : Register) (now : ℕ) (rules : Rules) (history : List Event) → StandsAfter r rules history → StandsAfter (registered r g (answer_of r g now)) rules (history ++ event g now ∷ [])
unfolding answer_of answer_by registered
stands_more r g now rules history s = record {
  rules_are = rules_for r g.user (answer_of r g now) ∙ s.rules_are ∙ sym (rules_after-append rules history (event g now));
  each = λ v.
      each_for r g now v g.user
      ∙ ap (λ bs. step (rules_of r) v bs (event g now)) (s.each v)
      ∙ ap (λ rs. step rs v (bindings_after rules v history) (event g now)) s.rules_are
      ∙ sym (fold_from-append rules v [] history (event g now));
}

-- ---- a list of users

kept-users : (es : List UserBindings) (users : List (List ℕ)) → map (λ l. l.user) (kept_entries es users) ≡ users
kept-users es [] = refl
kept-users es (u ∷ us) = ap (λ vs. u ∷ vs) (kept-users es us)

-- a user on the list has what it had, and nobody else has anything
pub kept-bindings : (es : List UserBindings) (users : List (List ℕ)) (user : List ℕ)
    → bindings_of (kept_entries es users) user ≡ cond (list_any (λ u. pointwise nat_eq u user) users) (bindings_of es user) []
kept-bindings es [] user = refl
kept-bindings es (u ∷ us) user =
    elim (pointwise nat_eq u user) as (λ v. pointwise nat_eq u user ≡ v → unwrap_or (option_map (λ l. l.bindings) (cond v (Some (kept_entry es u)) (find (is_for user) (kept_entries es us)))) []
    ≡ cond (v || list_any (λ w. pointwise nat_eq w user) us) (bindings_of es user) []) [
      | true ↦ λ e. ap (bindings_of es) ((bytes_decides u user).0 e)
      | false ↦ λ e. kept-bindings es us user
    ] refl

pub stands_listed : (r : Contents) (users : List (List ℕ)) (rules : Rules) (history : List Event) → StandsAfter r rules history → StandsAfter (listed r users) rules (history ++ Listed users ∷ [])
stands_listed r users rules history s = record {
  rules_are =
      ap (λ us. rules_given us r.ip r.sip_port r.domain r.binding_rules) (kept-users r.entries users)
      ∙ ap (λ rs. with_users rs users) s.rules_are
      ∙ sym (rules_after-append rules history (Listed users));
  each = λ v.
      kept-bindings r.entries users v
      ∙ ap (λ bs. cond (list_any (λ u. pointwise nat_eq u v) users) bs []) (s.each v)
      ∙ sym (fold_from-append rules v [] history (Listed users));
}

-- ---- the answer

answer_standing : (r : Contents) (g : Register) (now : ℕ) (rules : Rules) (history : List Event) → StandsAfter r rules history → (named : Option (List ℕ))
    → answer_for (rules_of r) (bindings_of r.entries) g now named ≡ answer_for (rules_after rules history) (λ user. bindings_after rules user history) g now named
answer_standing r g now rules history s None = refl
answer_standing r g now rules history s (Some user) =
    ap (λ bs. cond (is_known (rules_of r) user) (bindings_after_one (rules_of r) g now bs) (Err UnknownUser)) (s.each user)
    ∙ ap (λ rs. cond (is_known rs user) (bindings_after_one rs g now (bindings_after rules user history)) (Err UnknownUser)) s.rules_are

-- the answer is the one that these REGISTERs lead to
pub answer_stands : (r : Contents) (g : Register) (now : ℕ) (result : Result (Vec Binding Global) Refusal) → Gives result (answer_of r g now)
    → (rules : Rules) (history : List Event) → StandsAfter r rules history → Gives result (answer_after rules history g now)
unfolding answer_of answer_after answer_by
answer_stands r g now result gives rules history s = subst (λ a. Gives result a) (answer_standing r g now rules history s g.user) gives

answered_at : (r : Contents) (g : Register) (now : ℕ) (user : List ℕ) (bs : List Binding) (known : Bool) → is_known (rules_of r) user ≡ known
    → cond known (bindings_after_one (rules_of r) g now (bindings_of r.entries user)) (Err UnknownUser) ≡ Ok bs
    → bindings_of (registered_at r user (cond known (bindings_after_one (rules_of r) g now (bindings_of r.entries user)) (Err UnknownUser))).entries user ≡ bs
answered_at r g now user bs false is e = cc
answered_at r g now user bs true is e = rw e (own_entry r.entries user bs (has_entry r user is))

-- a user who is answered has the bindings of the answer
answered_for : (r : Contents) (g : Register) (now : ℕ) (user : List ℕ) (bs : List Binding) (named : Option (List ℕ)) → named ≡ Some user → answer_for (rules_of r) (bindings_of r.entries) g now named ≡ Ok bs
    → bindings_of (registered_for r named (answer_for (rules_of r) (bindings_of r.entries) g now named)).entries user ≡ bs
answered_for r g now user bs None is e = cc
answered_for r g now user bs (Some u) is e =
    let same : u ≡ user = cc in
    subst (λ v. bindings_of (registered_at r u (answer_for (rules_of r) (bindings_of r.entries) g now (Some u))).entries v ≡ bs) same (answered_at r g now u bs (is_known (rules_of r) u) refl e)

filter_all : {X : Type 0} (p : X → Bool) (xs : List X) → All (λ x. p x ≡ true) xs → filter p xs ≡ xs
filter_all p [] h = refl
filter_all p (x ∷ xs) h = rw (All-head (λ y. p y ≡ true) x xs h) (ap (λ ys. x ∷ ys) (filter_all p xs (All-tail (λ y. p y ≡ true) x xs h)))

-- what is answered is what the user is bound to
pub answer_bound : (r : Contents) (g : Register) (now : ℕ) (result : Result (Vec Binding Global) Refusal) → Gives result (answer_of r g now) → IfOk result (λ bs. AllLast now bs.items)
    → IfOk result (λ bs. (user : List ℕ) (rules : Rules) (history : List Event) → g.user ≡ Some user → StandsAfter r rules history → bs.items ≡ bound rules user (history ++ event g now ∷ []) now)
unfolding answer_of answer_by registered bound
answer_bound r g now (Err refusal) gives last = search rules
answer_bound r g now (Ok bs) gives last = λ user rules history is s.
    sym (ap (present now) (sym ((stands_more r g now rules history s).each user) ∙ answered_for r g now user bs.items g.user is gives)
    ∙ filter_all (λ b. nat_lt now b.expires_at) bs.items last)
