-- What is kept: an entry for each user.
use Rattle.std.proofs.Common.{◌≡◌, ◌||◌, ◌∙◌, ℕ, ◌<◌, Bool, true, false, cond, List, [], ◌∷◌, length, get_or, set, find, map, position, Some, option_map, unwrap_or, is_some, nat_eq, refl, sym, ap, subst, arith}
use Prim.Native.Nat.{zero, suc}
use Rattle.std.specs.List.{list_any}
use Rattle.std.specs.Cmp.Lexicographic.{pointwise, bytes_decides}
use Rattle.std.proofs.lemmas.List.Quantifiers.{position-Some}
use Rattle.text.proofs.Lists.{is_some-position}
use Rattle.registrar.specs.declared.binding.Binding.{Binding}
use Rattle.registrar.specs.declared.user_bindings.UserBindings.{UserBindings}
use Rattle.registrar.specs.Registering.{is_known}
use Rattle.registrar.specs.Registrar.{Contents, rules_of, is_for, bindings_of, entries_with, with_bindings, without_bindings}

pub own_text : (a : List ℕ) → pointwise nat_eq a a ≡ true
own_text a = (bytes_decides a a).1 refl

-- ---- a look-up by place, and a test of any

pub list_any-map : {X Y : Type 0} (p : Y → Bool) (f : X → Y) (xs : List X) → list_any p (map f xs) ≡ list_any (λ x. p (f x)) xs
list_any-map p f [] = refl
list_any-map p f (x ∷ xs) = ap (λ b. p (f x) || b) (list_any-map p f xs)

-- who has an entry is one of the users
pub one_of_entries : (entries : List UserBindings) (user : List ℕ) → list_any (λ u. pointwise nat_eq u user) (map (λ l. l.user) entries) ≡ is_some (position (is_for user) entries)
one_of_entries entries user = list_any-map (λ u. pointwise nat_eq u user) (λ l. l.user) entries ∙ sym (is_some-position (is_for user) entries)

pub known : (r : Contents) (user : List ℕ) → is_known (rules_of r) user ≡ is_some (position (is_for user) r.entries)
known r user = one_of_entries r.entries user

-- ---- a change of one entry

-- a write at the place of a user's first entry
set_entry : (user : List ℕ) (bs : List Binding) (entries : List UserBindings) (i : ℕ) (d : UserBindings) → i < length entries → is_for user (get_or entries i d) ≡ true
    → ((k : ℕ) → k < i → is_for user (get_or entries k d) ≡ false) → set entries i (with_bindings bs (get_or entries i d)) ≡ entries_with user bs entries
set_entry user bs [] i d within is none_before = absurd (omega arith)
set_entry user bs (l ∷ ls) zero d within is none_before = rw is refl
set_entry user bs (l ∷ ls) (suc i) d within is none_before =
    let other : is_for user l ≡ false = none_before 0 (omega arith) in
    rw other (ap (λ rest. l ∷ rest) (set_entry user bs ls i d (omega arith) is (λ k below. none_before (suc k) (omega arith))))

pub set_at_position : (user : List ℕ) (bs : List Binding) (entries : List UserBindings) (i : ℕ) (d : UserBindings) → position (is_for user) entries ≡ Some i
    → set entries i (with_bindings bs (get_or entries i d)) ≡ entries_with user bs entries
set_at_position user bs entries i d found =
    let at = position-Some (is_for user) entries i d found in
    set_entry user bs entries i d at.0 at.1 at.2

pub own_entry : (entries : List UserBindings) (user : List ℕ) (bs : List Binding) → list_any (is_for user) entries ≡ true → bindings_of (entries_with user bs entries) user ≡ bs
own_entry [] user bs some = cc
own_entry (l ∷ ls) user bs some =
    elim (is_for user l) as (λ b. is_for user l ≡ b → bindings_of (entries_with user bs (l ∷ ls)) user ≡ bs) [
      | true ↦ λ e. simp e
      | false ↦ λ e. simp e (own_entry ls user bs (rw e at some))
    ] refl

pub other_entry : (entries : List UserBindings) (user other : List ℕ) (bs : List Binding) → pointwise nat_eq user other ≡ false
    → bindings_of (entries_with user bs entries) other ≡ bindings_of entries other
other_entry [] user other bs differ = refl
other_entry (l ∷ ls) user other bs differ =
    elim (is_for user l) as (λ b. is_for user l ≡ b → bindings_of (entries_with user bs (l ∷ ls)) other ≡ bindings_of (l ∷ ls) other) [
      | true ↦ λ e.
          let not_other : is_for other l ≡ false = subst (λ u. pointwise nat_eq u other ≡ false) (sym ((bytes_decides l.user user).0 e)) differ in
          simp (e, not_other)
      | false ↦ λ e. rw e (elim (is_for other l) as (λ b. unwrap_or (option_map (λ x. x.bindings) (cond b (Some l) (find (is_for other) (entries_with user bs ls)))) [] ≡ unwrap_or (option_map (λ x. x.bindings) (cond b (Some l) (find (is_for other) ls))) []) [
        | true ↦ refl
        | false ↦ other_entry ls user other bs differ
      ])
    ] refl

pub same_users : (entries : List UserBindings) (user : List ℕ) (bs : List Binding) → map (λ l. l.user) (entries_with user bs entries) ≡ map (λ l. l.user) entries
same_users [] user bs = refl
same_users (l ∷ ls) user bs =
    elim (is_for user l) as (λ b. map (λ x. x.user) (cond b (with_bindings bs l ∷ ls) (l ∷ entries_with user bs ls)) ≡ l.user ∷ map (λ x. x.user) ls) [
      | true ↦ refl
      | false ↦ ap (λ us. l.user ∷ us) (same_users ls user bs)
    ]

-- ---- entries without bindings

pub users-without_bindings : (users : List (List ℕ)) → map (λ l. l.user) (map without_bindings users) ≡ users
users-without_bindings [] = refl
users-without_bindings (u ∷ us) = ap (λ vs. u ∷ vs) (users-without_bindings us)

pub none-without_bindings : (users : List (List ℕ)) (user : List ℕ) → bindings_of (map without_bindings users) user ≡ []
none-without_bindings [] user = refl
none-without_bindings (u ∷ us) user =
    elim (pointwise nat_eq u user) as (λ b. unwrap_or (option_map (λ x. x.bindings) (cond b (Some (without_bindings u)) (find (is_for user) (map without_bindings us)))) [] ≡ []) [
      | true ↦ refl
      | false ↦ none-without_bindings us user
    ]

-- ---- one who is not a user

pub none_changed : (entries : List UserBindings) (user : List ℕ) (bs : List Binding) → list_any (is_for user) entries ≡ false → entries_with user bs entries ≡ entries
none_changed [] user bs none = refl
none_changed (l ∷ ls) user bs none =
    elim (is_for user l) as (λ b. is_for user l ≡ b → entries_with user bs (l ∷ ls) ≡ l ∷ ls) [
      | true ↦ λ e. let both : (is_for user l || list_any (is_for user) ls) ≡ false = none in cc (e, both, rw e at both)
      | false ↦ λ e. rw e (ap (λ rest. l ∷ rest) (none_changed ls user bs (rw e at none)))
    ] refl
