-- What a REGISTER is answered lasts beyond its moment: so it is what its user is bound to then.
use Rattle.std.proofs.Common.{◌≡◌, ◌+◌, ◌*◌, ◌<◌, ℕ, Bool, true, false, List, [], ◌∷◌, Option, Some, None, Result, Ok, Err, cond, map, position, nat_lt, ap, arith, refl, subst}
use Prim.Native.Nat.{zero, suc}
use Rattle.std.specs.Prelude.{◌==◌, not}
use Rattle.std.proofs.lemmas.Bool.{cond_both, eqb-false, lt-ltb}
use Rattle.std.proofs.lemmas.List.Elements.{All-append, All-cons, All-filter, All-head, All-map, All-nil, All-set, All-tail, filter_passes}
use Rattle.sip_uri.specs.declared.uri.Uri.{Uri}
use Rattle.registrar.specs.BindingRules.{granted, standing}
use Rattle.registrar.specs.declared.binding_rules.BindingRules.{BindingRules}
use Rattle.registrar.proofs.RecentLaws.{standing_all}
use Rattle.registrar.specs.Registering.{AllLast, Rules, and_then, binding_by, bindings_after_one, bindings_by, first_number, is_of, lifetime, present, put, put_at, rank, unless_refused, uri_refusal, whole_refusal, with_contact, with_contact_at, with_contacts, with_number, with_uri, within_limit, without}
use Rattle.registrar.specs.declared.binding.Binding.{Binding}
use Rattle.registrar.specs.declared.refusal.Refusal.{Refusal}
use Rattle.registrar.specs.declared.register.Contact.{Contact}
use Rattle.registrar.specs.declared.register.Register.{Register}

abbrev Lasts : ℕ → Binding → Type 0
Lasts now b = nat_lt now b.expires_at ≡ true

-- ---- a result that is no refusal

abbrev no_refusal : List Binding → Result (List Binding) Refusal
no_refusal bs = Ok bs

same_Ok : (x y : List Binding) → no_refusal x ≡ Ok y → x ≡ y
same_Ok x y is = cc

unless_none : (o : Option Refusal) (r : Result (List Binding) Refusal) (after : List Binding) → unless_refused o r ≡ Ok after → r ≡ Ok after
unless_none None r after is = is
unless_none (Some refusal) r after is = cc

record IsThen (r : Result (List Binding) Refusal) (next : List Binding → Result (List Binding) Refusal) (after : List Binding) : Type 0 where
  kept : List Binding
  first : r ≡ Ok kept
  then : next kept ≡ Ok after

then_by : (r : Result (List Binding) Refusal) (next : List Binding → Result (List Binding) Refusal) (after : List Binding) → and_then r next ≡ Ok after → IsThen r next after
then_by (Ok kept) next after is = record { kept = kept; first = refl; then = is }
then_by (Err refusal) next after is = cc

-- ---- one contact

later : (now seconds : ℕ) → (seconds ≡ 0 → ⊥) → now < now + seconds * 1000
later now zero some = absurd (some refl)
later now (suc n) some = omega arith

put_lasts : (now : ℕ) (bs : List Binding) (new : Binding) (place : Option ℕ) → AllLast now bs → Lasts now new → AllLast now (put_at bs new place)
put_lasts now bs new None h last = All-append (Lasts now) bs (new ∷ []) h (All-cons (Lasts now) new [] last (All-nil (Lasts now)))
put_lasts now bs new (Some place) h last = All-set (Lasts now) bs place new last h

uri_lasts : (register : Register) (now : ℕ) (bs : List Binding) (number : ℕ) (uri : Uri) (seconds : ℕ) → AllLast now bs → AllLast now (with_uri register now bs number uri seconds)
uri_lasts register now bs number uri seconds h =
    let new = binding_by register uri seconds number now in
    cond_both (seconds == 0) (without bs uri) (put bs new) (AllLast now) (λ zero. All-filter (λ b. not (is_of uri b)) (Lasts now) bs h)
    (λ some. put_lasts now bs new (position (is_of uri) bs) h (lt-ltb now (now + seconds * 1000) (later now seconds (eqb-false seconds 0 some))))

contact_lasts : (rules : BindingRules) (register : Register) (now : ℕ) (bs : List Binding) (number : ℕ) (contact : Contact) (uri : Option Uri) (after : List Binding) → AllLast now bs
    → with_contact_at rules register now bs number contact uri ≡ Ok after → AllLast now after
contact_lasts rules register now bs number contact None after h is = cc
contact_lasts rules register now bs number contact (Some uri) after h is =
    let new = with_uri register now bs number uri (granted rules (lifetime register contact)) in
    subst (AllLast now) (same_Ok new after (unless_none (uri_refusal rules.min_expires register bs uri (lifetime register contact)) (Ok new) after is))
    (uri_lasts register now bs number uri (granted rules (lifetime register contact)) h)

-- ---- all of them

contacts_last : (rules : BindingRules) (register : Register) (now number : ℕ) (contacts : List Contact) (bs after : List Binding) → AllLast now bs → with_contacts rules register now number contacts bs ≡ Ok after → AllLast now after
contacts_last rules register now number [] bs after h is = subst (AllLast now) (same_Ok bs after is) h
contacts_last rules register now number (c ∷ cs) bs after h is =
    let both = then_by (with_contact rules register now bs number c) (λ kept. with_contacts rules register now (number + 1) cs kept) after is in
    contacts_last rules register now (number + 1) cs both.kept after (contact_lasts rules register now bs number c c.uri both.kept h both.first) both.then

limit_by : (now : ℕ) (bs after : List Binding) (many : Bool) (refusal : Refusal) → AllLast now bs → cond many (Err refusal) (Ok (map (λ b. with_number (rank bs b) b) bs)) ≡ Ok after → AllLast now after
limit_by now bs after true refusal h is = cc
limit_by now bs after false refusal h is =
    subst (AllLast now) (same_Ok (map (λ b. with_number (rank bs b) b) bs) after is) (All-map (Lasts now) (λ b. with_number (rank bs b) b) bs h)

limit_lasts : (now : ℕ) (bs after : List Binding) → AllLast now bs → within_limit bs ≡ Ok after → AllLast now after
limit_lasts now bs after h is = limit_by now bs after _ _ h is

by_star : (rules : Rules) (register : Register) (now : ℕ) (bs after : List Binding) (star : Bool)
    → cond star (Ok []) (and_then (with_contacts rules.binding_rules register now (first_number bs) register.contacts (present now bs)) (λ kept. within_limit (standing rules.binding_rules kept))) ≡ Ok after → AllLast now after
by_star rules register now bs after true is = subst (AllLast now) (same_Ok [] after is) (All-nil (Lasts now))
by_star rules register now bs after false is =
    let contacts = with_contacts rules.binding_rules register now (first_number bs) register.contacts (present now bs) in
    let both = then_by contacts (λ kept. within_limit (standing rules.binding_rules kept)) after is in
    limit_lasts now (standing rules.binding_rules both.kept) after
    (standing_all (Lasts now) rules.binding_rules both.kept
    (contacts_last rules.binding_rules register now (first_number bs) register.contacts (present now bs) both.kept (filter_passes (λ b. nat_lt now b.expires_at) bs) both.first)) both.then

pub answer_lasts : (rules : Rules) (register : Register) (now : ℕ) (bs after : List Binding) → bindings_after_one rules register now bs ≡ Ok after → AllLast now after
unfolding bindings_after_one
answer_lasts rules register now bs after is =
    by_star rules register now bs after register.star (unless_none (whole_refusal rules register now bs) (bindings_by rules register now bs) after is)

pub lasting_present : (now : ℕ) (bs : List Binding) → AllLast now bs → present now bs ≡ bs
lasting_present now [] h = refl
lasting_present now (b ∷ bs) h = rw (All-head (Lasts now) b bs h) (ap (λ more. b ∷ more) (lasting_present now bs (All-tail (Lasts now) b bs h)))
