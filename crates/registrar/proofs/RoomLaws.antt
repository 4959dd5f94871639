-- Where the oldest leave, no REGISTER is refused for the number of its bindings.
use Rattle.std.proofs.Common.{◌≡◌, ◌≢◌, ◌==◌, ◌&&◌, ◌∙◌, not, ℕ, ◌+◌, ◌<◌, ◌≤◌, Bool, true, false, cond, List, [], ◌∷◌, ◌++◌, length, set, find, map, position, All, Option, Some, None, Result, Ok, Err, nat_lt, refl, sym, ap, subst, arith}
use Prim.Native.Nat.{zero, suc}
use Rattle.std.specs.List.{list_all}
use Rattle.std.proofs.lemmas.Bool.{le-leb, le-ltb, leb-true, ltb-true, ltb-false}
use Rattle.std.proofs.lemmas.List.Elements.{All-head, All-tail, All-nil, All-cons, All-push, All-set, All-map}
use Rattle.sip_uri.specs.declared.uri.Uri.{Uri}
use Rattle.registrar.specs.Limits.{max_bindings}
use Rattle.registrar.specs.declared.binding.Binding.{Binding}
use Rattle.registrar.specs.declared.binding_rules.BindingRules.{BindingRules}
use Rattle.registrar.specs.declared.register.Contact.{Contact}
use Rattle.registrar.specs.declared.register.Register.{Register}
use Rattle.registrar.specs.declared.refusal.Refusal.{Refusal}
use Rattle.registrar.specs.declared.refusal.Refusal.TheVariants.{UnknownUser, StarMisused, TooBrief, BadContact, OutOfOrder, TooManyBindings}
use Rattle.registrar.specs.BindingLaws.{AreApart, NeverTooMany}
use Rattle.registrar.specs.BindingRules.{granted, recent, standing}
use Rattle.registrar.specs.Registering.{Rules, bindings_after_one, whole_refusal, unless_refused, present, first_number, rank, with_number, lifetime, is_of, is_too_brief, is_stale, binding_by, put, put_at, without, with_contact, with_contact_at, with_contacts, and_then, within_limit, is_star_misused, is_star_stale, is_bindable, is_known, with_users, answer_for, answer_by}
use Rattle.registrar.specs.Bound.{Event, Registered, Listed, Registration, names, or_as_before, registers, step, rules_with, rules_after, fold_from, bindings_after, answer_after}
use Rattle.registrar.proofs.FoldLaws.{same_after}
use Rattle.registrar.proofs.OrderLaws.{IsIn, AllIn, in_itself, same_order}
use Rattle.registrar.proofs.CountLaws.{eight_stand}
use Rattle.registrar.proofs.RecentLaws.{apart_filter, apart-standing}
use Rattle.registrar.proofs.RefreshLaws.{AllBelow, below_filter, below_at, one_of_three, by_limit, Sound, sound_none, sound_after_one}

-- ---- numbers that come later are new

none_equal : (n : ℕ) (bs : List Binding) → AllBelow n bs → All (λ c. c.refreshed ≢ n) bs
none_equal n [] h = All-nil (λ c. c.refreshed ≢ n)
none_equal n (b ∷ bs) h =
    let less : b.refreshed < n = h.0 in
    All-cons (λ c. c.refreshed ≢ n) b bs (λ same. absurd (omega arith)) (none_equal n bs h.1)

apart_append : (bs : List Binding) (new : Binding) → AllBelow new.refreshed bs → AreApart bs → AreApart (bs ++ new ∷ [])
apart_append [] new h apart = (All-nil (λ c. c.refreshed ≢ new.refreshed), tt)
apart_append (b ∷ bs) new h apart =
    let less : b.refreshed < new.refreshed = h.0 in
    (All-push (λ c. c.refreshed ≢ b.refreshed) bs new apart.0 (λ same. absurd (omega arith)), apart_append bs new h.1 apart.1)

apart_set : (bs : List Binding) (i : ℕ) (new : Binding) → AllBelow new.refreshed bs → AreApart bs → AreApart (set bs i new)
apart_set [] i new h apart = tt
apart_set (b ∷ bs) zero new h apart = (none_equal new.refreshed bs h.1, apart.1)
apart_set (b ∷ bs) (suc i) new h apart =
    let less : b.refreshed < new.refreshed = h.0 in
    (All-set (λ c. c.refreshed ≢ b.refreshed) bs i new (λ same. absurd (omega arith)) apart.0, apart_set bs i new h.1 apart.1)

apart_put : (bs : List Binding) (new : Binding) (o : Option ℕ) → AllBelow new.refreshed bs → AreApart bs → AreApart (put_at bs new o)
apart_put bs new None h apart = apart_append bs new h apart
apart_put bs new (Some place) h apart = apart_set bs place new h apart

-- ---- one contact, and all of them

apart_contact : (rules : BindingRules) (g : Register) (now : ℕ) (bs : List Binding) (n : ℕ) (c : Contact) (o : Option Uri) (after : List Binding) → AllBelow n bs
    → AreApart bs → with_contact_at rules g now bs n c o ≡ Ok after → AreApart after
apart_contact rules g now bs n c None after h apart e = cc
apart_contact rules g now bs n c (Some uri) after h apart e =
    let new = binding_by g uri (granted rules (lifetime g c)) n now in
    one_of_three (is_too_brief rules.min_expires (lifetime g c)) (is_stale g (find (is_of uri) bs)) (granted rules (lifetime g c) == 0) (without bs uri) (put bs new) after AreApart e
    (apart_filter (λ b. not (is_of uri b)) bs apart)
    (apart_put bs new (position (is_of uri) bs) h apart)

apart_contacts : (rules : BindingRules) (g : Register) (now n : ℕ) (cs : List Contact) (bs after : List Binding) → AllBelow n bs → AreApart bs
    → with_contacts rules g now n cs bs ≡ Ok after → AreApart after
apart_contacts rules g now n [] bs after h apart e = let same : bs ≡ after = cc in subst AreApart same apart
apart_contacts rules g now n (c ∷ cs) bs after h apart e =
    elim (with_contact rules g now bs n c) as (λ r. with_contact rules g now bs n c ≡ r → and_then r (λ kept. with_contacts rules g now (n + 1) cs kept) ≡ Ok after → AreApart after) [
      | Ok kept ↦ λ is e'. apart_contacts rules g now (n + 1) cs kept after (below_at rules g now bs n c c.uri kept h is) (apart_contact rules g now bs n c c.uri kept h apart is) e'
      | Err refusal ↦ λ is e'. cc
    ] refl e

-- ---- the numbers anew

rank_differs : (bs : List Binding) (b c : Binding) → IsIn b bs → IsIn c bs → c.refreshed ≢ b.refreshed → rank bs c ≢ rank bs b
rank_differs bs b c b_in c_in differ same =
    let one = leb-true c.refreshed b.refreshed (sym (same_order bs b c b_in) ∙ le-leb (rank bs c) (rank bs b) (omega (arith, same))) in
    let two = leb-true b.refreshed c.refreshed (sym (same_order bs c b c_in) ∙ le-leb (rank bs b) (rank bs c) (omega (arith, same))) in
    absurd (differ (omega (arith, one, two)))

ranks_differ : (bs : List Binding) (b : Binding) (xs : List Binding) → IsIn b bs → AllIn bs xs → All (λ c. c.refreshed ≢ b.refreshed) xs → All (λ c. rank bs c ≢ rank bs b) xs
ranks_differ bs b [] here h apart = All-nil (λ c. rank bs c ≢ rank bs b)
ranks_differ bs b (x ∷ xs) here h apart =
    All-cons (λ c. rank bs c ≢ rank bs b) x xs
    (rank_differs bs b x here h.0 (All-head (λ c. c.refreshed ≢ b.refreshed) x xs apart))
    (ranks_differ bs b xs here h.1 (All-tail (λ c. c.refreshed ≢ b.refreshed) x xs apart))

apart_ranks : (bs xs : List Binding) → AllIn bs xs → AreApart xs → AreApart (map (λ b. with_number (rank bs b) b) xs)
apart_ranks bs [] h apart = tt
apart_ranks bs (x ∷ xs) h apart =
    (All-map (λ c. c.refreshed ≢ rank bs x) (λ b. with_number (rank bs b) b) xs (ranks_differ bs x xs h.0 h.1 apart.0), apart_ranks bs xs h.1 apart.1)

-- ---- a REGISTER

apart_by : (rules : BindingRules) (misused bindable star stale : Bool) (r : Result (List Binding) Refusal) (after : List Binding) → ((kept : List Binding) → r ≡ Ok kept → AreApart kept)
    → unless_refused (cond misused (Some StarMisused) (cond (not bindable) (Some BadContact) (cond stale (Some OutOfOrder) None))) (cond star (Ok []) (and_then r (λ kept. within_limit (standing rules kept)))) ≡ Ok after → AreApart after
apart_by rules true bindable star stale r after each e = cc
apart_by rules false false star stale r after each e = cc
apart_by rules false true star true r after each e = cc
apart_by rules false true true false r after each e = let same : [] ≡ after = cc in subst AreApart same tt
apart_by rules false true false false r after each e =
    let steps = by_limit rules r after e in
    let stand = standing rules steps.kept in
    subst AreApart steps.limited.ranked (apart_ranks stand stand (in_itself stand) (apart-standing rules steps.kept (each steps.kept steps.gives)))

-- what a user is bound to is few, numbered from 0, and each under a number of its own
record Fresh (bs : List Binding) : Type 0 where
  sound : Sound bs
  apart : AreApart bs

kept_apart : (rules : Rules) (g : Register) (now : ℕ) (bs kept : List Binding) → Fresh bs → with_contacts rules.binding_rules g now (first_number bs) g.contacts (present now bs) ≡ Ok kept → AreApart kept
kept_apart rules g now bs kept fresh is =
    apart_contacts rules.binding_rules g now (first_number bs) g.contacts (present now bs) kept
    (below_filter (λ b. nat_lt now b.expires_at) (first_number bs) bs fresh.sound.below) (apart_filter (λ b. nat_lt now b.expires_at) bs fresh.apart) is

fresh_one : (rules : Rules) (g : Register) (now : ℕ) (bs after : List Binding) → Fresh bs → bindings_after_one rules g now bs ≡ Ok after → Fresh after
unfolding bindings_after_one whole_refusal
fresh_one rules g now bs after fresh e = record {
  sound = sound_after_one rules g now bs after e;
  apart = apart_by rules.binding_rules (is_star_misused g) (list_all (is_bindable rules.ip rules.sip_port) g.contacts) g.star (is_star_stale g (present now bs))
      (with_contacts rules.binding_rules g now (first_number bs) g.contacts (present now bs)) after (λ kept is. kept_apart rules g now bs kept fresh is) e;
}

fresh_or_before : (bs : List Binding) (r : Result (List Binding) Refusal) → Fresh bs → ((after : List Binding) → r ≡ Ok after → Fresh after) → Fresh (or_as_before bs r)
fresh_or_before bs (Ok after) fresh each = each after refl
fresh_or_before bs (Err refusal) fresh each = fresh

fresh_none : Fresh []
fresh_none = record { sound = sound_none; apart = tt }

fresh_registers : (rules : Rules) (user : List ℕ) (bs : List Binding) (e : Registration) → Fresh bs → Fresh (registers rules user bs e)
fresh_registers rules user bs e fresh =
    elim (names e.register.user user && is_known rules user) as (λ v. Fresh (cond v (or_as_before bs (bindings_after_one rules e.register e.now bs)) bs)) [
      | true ↦ fresh_or_before bs (bindings_after_one rules e.register e.now bs) fresh (λ after is. fresh_one rules e.register e.now bs after fresh is)
      | false ↦ fresh
    ]

fresh_listed : (bs : List Binding) (known : Bool) → Fresh bs → Fresh (cond known bs [])
fresh_listed bs true fresh = fresh
fresh_listed bs false fresh = fresh_none

fresh_step : (rules : Rules) (user : List ℕ) (bs : List Binding) (e : Event) → Fresh bs → Fresh (step rules user bs e)
fresh_step rules user bs (Registered e) fresh = fresh_registers rules user bs e fresh
fresh_step rules user bs (Listed users) fresh = fresh_listed bs (is_known (with_users rules users) user) fresh

fresh_from : (rules : Rules) (user : List ℕ) (bs : List Binding) (es : List Event) → Fresh bs → Fresh (fold_from rules user bs es)
fresh_from rules user bs [] fresh = fresh
fresh_from rules user bs (e ∷ es) fresh = fresh_from (rules_with rules e) user (step rules user bs e) es (fresh_step rules user bs e fresh)

-- ---- there is room

few_standing : (rules : BindingRules) (kept : List Binding) → rules.oldest_leaves ≡ true → AreApart kept → length (standing rules kept) ≤ max_bindings
few_standing rules kept leave apart = rw leave (by_room (nat_lt max_bindings (length kept)) refl)
  where
    by_room : (v : Bool) → nat_lt max_bindings (length kept) ≡ v → length (cond v (recent kept) kept) ≤ max_bindings
    by_room true e =
        let many = ltb-true max_bindings (length kept) e in
        let eight = eight_stand kept apart (omega arith) in
        omega arith
    by_room false e = ltb-false max_bindings (length kept) e

-- the answer is not this refusal
abbrev HasRoom : Result (List Binding) Refusal → Type 0
HasRoom (Ok bs) = Unit {0}
HasRoom (Err TooManyBindings) = ⊥
HasRoom (Err refusal) = Unit {0}

room_of_three : (brief stale : Bool) (after : List Binding) → HasRoom (unless_refused (cond brief (Some TooBrief) (cond stale (Some OutOfOrder) None)) (Ok after))
room_of_three true stale after = tt
room_of_three false true after = tt
room_of_three false false after = tt

room_contact : (rules : BindingRules) (g : Register) (now : ℕ) (bs : List Binding) (n : ℕ) (c : Contact) (o : Option Uri) → HasRoom (with_contact_at rules g now bs n c o)
room_contact rules g now bs n c None = tt
room_contact rules g now bs n c (Some uri) =
    let new = binding_by g uri (granted rules (lifetime g c)) n now in
    room_of_three (is_too_brief rules.min_expires (lifetime g c)) (is_stale g (find (is_of uri) bs)) (cond (granted rules (lifetime g c) == 0) (without bs uri) (put bs new))

room_then : (r : Result (List Binding) Refusal) (next : List Binding → Result (List Binding) Refusal) → HasRoom r → ((kept : List Binding) → r ≡ Ok kept → HasRoom (next kept)) → HasRoom (and_then r next)
room_then (Ok kept) next room each = each kept refl
room_then (Err refusal) next room each = room

room_contacts : (rules : BindingRules) (g : Register) (now n : ℕ) (cs : List Contact) (bs : List Binding) → HasRoom (with_contacts rules g now n cs bs)
room_contacts rules g now n [] bs = tt
room_contacts rules g now n (c ∷ cs) bs =
    room_then (with_contact rules g now bs n c) (λ kept. with_contacts rules g now (n + 1) cs kept) (room_contact rules g now bs n c c.uri)
    (λ kept is. room_contacts rules g now (n + 1) cs kept)

room_limit : (bs : List Binding) → length bs ≤ max_bindings → HasRoom (within_limit bs)
room_limit bs few = rw (le-ltb max_bindings (length bs) few) tt

room_by : (misused bindable stale star : Bool) (r : Result (List Binding) Refusal) → HasRoom r
    → HasRoom (unless_refused (cond misused (Some StarMisused) (cond (not bindable) (Some BadContact) (cond stale (Some OutOfOrder) None))) (cond star (Ok []) r))
room_by true bindable stale star r room = tt
room_by false false stale star r room = tt
room_by false true true star r room = tt
room_by false true false true r room = tt
room_by false true false false r room = room

room_one : (rules : Rules) (g : Register) (now : ℕ) (bs : List Binding) → rules.binding_rules.oldest_leaves ≡ true → Fresh bs → HasRoom (bindings_after_one rules g now bs)
unfolding bindings_after_one whole_refusal
room_one rules g now bs leave fresh =
    let contacts = with_contacts rules.binding_rules g now (first_number bs) g.contacts (present now bs) in
    let limit : List Binding → Result (List Binding) Refusal = λ kept. within_limit (standing rules.binding_rules kept) in
    room_by (is_star_misused g) (list_all (is_bindable rules.ip rules.sip_port) g.contacts) (is_star_stale g (present now bs)) g.star (and_then contacts limit)
    (room_then contacts limit (room_contacts rules.binding_rules g now (first_number bs) g.contacts (present now bs))
    (λ kept is. room_limit (standing rules.binding_rules kept) (few_standing rules.binding_rules kept leave (kept_apart rules g now bs kept fresh is))))

room_known : (known : Bool) (r : Result (List Binding) Refusal) → HasRoom r → HasRoom (cond known r (Err UnknownUser))
room_known true r room = room
room_known false r room = tt

room_for : (given rules : Rules) (history : List Event) (g : Register) (now : ℕ) (o : Option (List ℕ)) → given.binding_rules.oldest_leaves ≡ true → HasRoom (answer_for given (λ user. bindings_after rules user history) g now o)
room_for given rules history g now None leave = tt
room_for given rules history g now (Some user) leave =
    room_known (is_known given user) (bindings_after_one given g now (bindings_after rules user history))
    (room_one given g now (bindings_after rules user history) leave (fresh_from rules user [] history fresh_none))

pub never_too_many : NeverTooMany
unfolding answer_after answer_by
never_too_many rules history g now leave many =
    subst HasRoom many (room_for (rules_after rules history) rules history g now g.user (ap (λ (b : BindingRules). b.oldest_leaves) (same_after rules history) ∙ leave))
