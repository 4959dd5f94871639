-- The contact that was bound last is where calls go.
use Rattle.std.proofs.Common.{◌≡◌, ◌==◌, ◌≢◌, ◌&&◌, ◌∙◌, ℕ, ◌+◌, ◌<◌, ◌≤◌, Bool, true, false, cond, not, List, [], ◌∷◌, ◌++◌, length, set, filter, find, map, position, Option, Some, None, option_map, Result, Ok, Err, nat_lt, nat_le, refl, sym, ap, subst, arith}
use Prim.Native.Nat.{zero, suc}
use Rattle.std.specs.List.{list_all}
use Rattle.std.proofs.lemmas.Bool.{lt-leb, le-leb, ltb-false}
use Rattle.std.proofs.lemmas.List.Sums.{count_by-le-length}
use Rattle.std.proofs.lemmas.List.Sums.{length-filter}
use Rattle.std.proofs.Math.Dec.{eqb-suc-zero}
use Rattle.std.proofs.lemmas.List.Quantifiers.{position-Some}
use Rattle.sip_uri.specs.declared.uri.Uri.{Uri}
use Rattle.registrar.specs.Limits.{max_bindings}
use Rattle.registrar.specs.BindingRules.{granted, standing}
use Rattle.registrar.specs.declared.binding.Binding.{Binding}
use Rattle.registrar.specs.declared.binding_rules.BindingRules.{BindingRules}
use Rattle.registrar.specs.declared.register.Contact.{Contact}
use Rattle.registrar.specs.declared.register.Register.{Register}
use Rattle.registrar.specs.declared.refusal.Refusal.{Refusal}
use Rattle.registrar.specs.declared.refusal.Refusal.TheVariants.{UnknownUser, StarMisused, TooBrief, OutOfOrder, TooManyBindings, BadContact}
use Rattle.registrar.specs.Registering.{Rules, bindings_after_one, whole_refusal, unless_refused, present, first_number, rank, with_number, with_ranks, lifetime, is_of, is_too_brief, is_stale, binding_by, put, put_at, without, with_contact, with_contact_at, with_contacts, and_then, within_limit, is_star_misused, is_star_stale, is_bindable, is_zero, is_known, with_users, answer_for, answer_by}
use Rattle.registrar.proofs.FoldLaws.{same_after}
use Rattle.registrar.specs.Bound.{Event, Registered, Listed, Registration, is_latest, latest, target_of, names, or_as_before, registers, step, rules_with, rules_after, fold_from, bindings_after, bound, answer_after, LastContactIsTarget, QueryKeepsTarget, FewBound}
use Rattle.registrar.proofs.OrderLaws.{target-with_ranks}
use Rattle.registrar.proofs.RecentLaws.{target-standing}

-- each was refreshed before this number
abbrev pub AllBelow : ℕ → List Binding → Type 0
AllBelow n [] = Unit {0}
AllBelow n (b ∷ bs) = (b.refreshed < n) × AllBelow n bs

pub below_filter : (p : Binding → Bool) (n : ℕ) (bs : List Binding) → AllBelow n bs → AllBelow n (filter p bs)
below_filter p n [] h = tt
below_filter p n (b ∷ bs) h =
    elim (p b) as (λ v. AllBelow n (cond v (b ∷ filter p bs) (filter p bs))) [
      | true ↦ (h.0, below_filter p n bs h.1)
      | false ↦ below_filter p n bs h.1
    ]

below_more : (n m : ℕ) (bs : List Binding) → n ≤ m → AllBelow n bs → AllBelow m bs
below_more n m [] le h = tt
below_more n m (b ∷ bs) le h = (omega (arith, h.0), below_more n m bs le h.1)

below_append : (n : ℕ) (bs : List Binding) (new : Binding) → AllBelow n bs → new.refreshed < n → AllBelow n (bs ++ new ∷ [])
below_append n [] new h new_below = (new_below, tt)
below_append n (b ∷ bs) new h new_below = (h.0, below_append n bs new h.1 new_below)

below_set : (n : ℕ) (bs : List Binding) (i : ℕ) (new : Binding) → AllBelow n bs → new.refreshed < n → AllBelow n (set bs i new)
below_set n [] i new h new_below = tt
below_set n (b ∷ bs) zero new h new_below = (new_below, h.1)
below_set n (b ∷ bs) (suc i) new h new_below = (h.0, below_set n bs i new h.1 new_below)

below_put_at : (n : ℕ) (bs : List Binding) (new : Binding) (o : Option ℕ) → AllBelow n bs → new.refreshed < n → AllBelow n (put_at bs new o)
below_put_at n bs new None h new_below = below_append n bs new h new_below
below_put_at n bs new (Some place) h new_below = below_set n bs place new h new_below

-- ---- the one with the greatest number is the latest

fails_append : (p : Binding → Bool) (bs : List Binding) (new : Binding) → p new ≡ false → list_all p (bs ++ new ∷ []) ≡ false
fails_append p [] new fails = rw fails refl
fails_append p (b ∷ bs) new fails = elim (p b) as (λ v. (v && list_all p (bs ++ new ∷ [])) ≡ false) [ true ↦ fails_append p bs new fails | false ↦ refl ]

fails_set : (p : Binding → Bool) (bs : List Binding) (i : ℕ) (new : Binding) → i < length bs → p new ≡ false → list_all p (set bs i new) ≡ false
fails_set p [] i new within fails = absurd (omega arith)
fails_set p (b ∷ bs) zero new within fails = rw fails refl
fails_set p (b ∷ bs) (suc i) new within fails = elim (p b) as (λ v. (v && list_all p (set bs i new)) ≡ false) [ true ↦ fails_set p bs i new (omega arith) fails | false ↦ refl ]

none_later : (n : ℕ) (bs : List Binding) → AllBelow (n + 1) bs → list_all (λ c. nat_le c.refreshed n) bs ≡ true
none_later n [] h = refl
none_later n (b ∷ bs) h = rw (le-leb b.refreshed n (omega (arith, h.0))) (none_later n bs h.1)

find_append : (q : Binding → Bool) (bs : List Binding) (new : Binding) (n : ℕ) → AllBelow n bs → ((b : Binding) → b.refreshed < n → q b ≡ false) → q new ≡ true → find q (bs ++ new ∷ []) ≡ Some new
find_append q [] new n h fails passes = rw passes refl
find_append q (b ∷ bs) new n h fails passes = rw (fails b h.0) (find_append q bs new n h.1 fails passes)

find_set : (q : Binding → Bool) (bs : List Binding) (i : ℕ) (new : Binding) (n : ℕ) → i < length bs → AllBelow n bs → ((b : Binding) → b.refreshed < n → q b ≡ false) → q new ≡ true → find q (set bs i new) ≡ Some new
find_set q [] i new n within h fails passes = absurd (omega arith)
find_set q (b ∷ bs) zero new n within h fails passes = rw passes refl
find_set q (b ∷ bs) (suc i) new n within h fails passes = rw (fails b h.0) (find_set q bs i new n (omega arith) h.1 fails passes)

latest_at : (bs : List Binding) (new : Binding) (p : Binding → Bool) (o : Option ℕ) → position p bs ≡ o → AllBelow new.refreshed bs → latest (put_at bs new o) ≡ Some new
latest_at bs new p None found h =
    find_append (is_latest (bs ++ new ∷ [])) bs new new.refreshed h
    (λ b less. fails_append (λ c. nat_le c.refreshed b.refreshed) bs new (lt-leb new.refreshed b.refreshed less))
    (none_later new.refreshed (bs ++ new ∷ []) (below_append (new.refreshed + 1) bs new (below_more new.refreshed (new.refreshed + 1) bs (omega arith) h) (omega arith)))
latest_at bs new p (Some place) found h =
    let within : place < length bs = (position-Some p bs place new found).0 in
    find_set (is_latest (set bs place new)) bs place new new.refreshed within h
    (λ b less. fails_set (λ c. nat_le c.refreshed b.refreshed) bs place new within (lt-leb new.refreshed b.refreshed less))
    (none_later new.refreshed (set bs place new) (below_set (new.refreshed + 1) bs place new (below_more new.refreshed (new.refreshed + 1) bs (omega arith) h) (omega arith)))

-- ---- one contact

pub one_of_three : (brief stale none : Bool) (gone kept after : List Binding) (P : List Binding → Type 0) → unless_refused (cond brief (Some TooBrief) (cond stale (Some OutOfOrder) None)) (Ok (cond none gone kept)) ≡ Ok after → P gone → P kept → P after
one_of_three true stale none gone kept after P e g k = cc
one_of_three false true none gone kept after P e g k = cc
one_of_three false false true gone kept after P e g k = let same : gone ≡ after = cc in subst P same g
one_of_three false false false gone kept after P e g k = let same : kept ≡ after = cc in subst P same k

is_kept : (brief stale none : Bool) (gone kept after : List Binding) → none ≡ false → unless_refused (cond brief (Some TooBrief) (cond stale (Some OutOfOrder) None)) (Ok (cond none gone kept)) ≡ Ok after → kept ≡ after
is_kept true stale none gone kept after z e = cc
is_kept false true none gone kept after z e = cc
is_kept false false true gone kept after z e = cc
is_kept false false false gone kept after z e = cc

pub below_at : (rules : BindingRules) (g : Register) (now : ℕ) (bs : List Binding) (n : ℕ) (c : Contact) (o : Option Uri) (after : List Binding) → AllBelow n bs → with_contact_at rules g now bs n c o ≡ Ok after → AllBelow (n + 1) after
below_at rules g now bs n c None after h e = cc
below_at rules g now bs n c (Some uri) after h e =
    let more : AllBelow (n + 1) bs = below_more n (n + 1) bs (omega arith) h in
    let new = binding_by g uri (granted rules (lifetime g c)) n now in
    one_of_three (is_too_brief rules.min_expires (lifetime g c)) (is_stale g (find (is_of uri) bs)) (granted rules (lifetime g c) == 0) (without bs uri) (put bs new) after (AllBelow (n + 1)) e
    (below_filter (λ b. not (is_of uri b)) (n + 1) bs more)
    (below_put_at (n + 1) bs new (position (is_of uri) bs) more (omega arith))

latest_at_last : (rules : BindingRules) (g : Register) (now : ℕ) (bs : List Binding) (n : ℕ) (c : Contact) (uri : Uri) (o : Option Uri) (after : List Binding) → o ≡ Some uri → granted rules (lifetime g c) == 0 ≡ false → AllBelow n bs → with_contact_at rules g now bs n c o ≡ Ok after → target_of after ≡ Some uri
unfolding target_of
latest_at_last rules g now bs n c uri None after is lasts h e = cc
latest_at_last rules g now bs n c uri (Some u) after is lasts h e =
    let new = binding_by g u (granted rules (lifetime g c)) n now in
    let same : u ≡ uri = cc in
    let kept : put bs new ≡ after = is_kept (is_too_brief rules.min_expires (lifetime g c)) (is_stale g (find (is_of u) bs)) (granted rules (lifetime g c) == 0) (without bs u) (put bs new) after lasts e in
    ap (λ l. option_map (λ b. b.uri) (latest l)) (sym kept) ∙ ap (option_map (λ b. b.uri)) (latest_at bs new (is_of u) (position (is_of u) bs) refl h) ∙ ap Some same

-- ---- all contacts

record LastStep (rules : BindingRules) (g : Register) (now : ℕ) (c : Contact) (after : List Binding) : Type 0 where
  bindings : List Binding
  number : ℕ
  below : AllBelow number bindings
  gives : with_contact rules g now bindings number c ≡ Ok after

to_last : (rules : BindingRules) (g : Register) (now : ℕ) (c : Contact) (after : List Binding) (others : List Contact) (n : ℕ) (bs : List Binding) → AllBelow n bs
    → with_contacts rules g now n (others ++ c ∷ []) bs ≡ Ok after → LastStep rules g now c after
to_last rules g now c after [] n bs h e =
    elim (with_contact rules g now bs n c) as (λ r. with_contact rules g now bs n c ≡ r → and_then r (λ kept. Ok kept) ≡ Ok after → LastStep rules g now c after) [
      | Ok kept ↦ λ is e'. record { bindings = bs; number = n; below = h; gives = is ∙ e' }
      | Err refusal ↦ λ is e'. cc
    ] refl e
to_last rules g now c after (o ∷ os) n bs h e =
    elim (with_contact rules g now bs n o) as (λ r. with_contact rules g now bs n o ≡ r → and_then r (λ kept. with_contacts rules g now (n + 1) (os ++ c ∷ []) kept) ≡ Ok after → LastStep rules g now c after) [
      | Ok kept ↦ λ is e'. to_last rules g now c after os (n + 1) kept (below_at rules g now bs n o o.uri kept h is) e'
      | Err refusal ↦ λ is e'. cc
    ] refl e

-- what a user is bound to is few, and numbered from 0
pub record Sound (bs : List Binding) : Type 0 where
  pub few : length bs ≤ max_bindings
  pub below : AllBelow (first_number bs) bs

below_ranks : (all bs : List Binding) → AllBelow (first_number all) (map (λ b. with_number (rank all b) b) bs)
below_ranks all [] = tt
below_ranks all (b ∷ bs) =
    let count = count_by-le-length (λ c. nat_lt c.refreshed b.refreshed) all in
    (omega arith, below_ranks all bs)

same_length : {X Y : Type 0} (f : X → Y) (xs : List X) → length (map f xs) ≡ length xs
same_length f [] = refl
same_length f (x ∷ xs) = ap suc (same_length f xs)

sound_ranks : (bs : List Binding) → length bs ≤ max_bindings → Sound (with_ranks bs)
sound_ranks bs few =
    let same = same_length (λ b. with_number (rank bs b) b) bs in
    record { few = rw same few; below = rw same (below_ranks bs bs) }

-- ---- a REGISTER

not_zero : (n : ℕ) → n ≢ 0 → (n == 0) ≡ false
not_zero zero some = absurd (some refl)
not_zero (suc n) some = eqb-suc-zero n

pub record Limited (bs after : List Binding) : Type 0 where
  pub few : length bs ≤ max_bindings
  pub ranked : with_ranks bs ≡ after

is_limited : (bs after : List Binding) → within_limit bs ≡ Ok after → Limited bs after
is_limited bs after e =
    elim (nat_lt max_bindings (length bs)) as (λ v. nat_lt max_bindings (length bs) ≡ v → cond v (Err TooManyBindings) (Ok (with_ranks bs)) ≡ Ok after → Limited bs after) [
      | true ↦ λ t f. cc
      | false ↦ λ t f. record { few = ltb-false max_bindings (length bs) t; ranked = cc }
    ] refl e

-- what the contacts of a REGISTER left
pub record ByContacts (rules : BindingRules) (r : Result (List Binding) Refusal) (after : List Binding) : Type 0 where
  pub kept : List Binding
  pub gives : r ≡ Ok kept
  pub limited : Limited (standing rules kept) after

pub by_limit : (rules : BindingRules) (r : Result (List Binding) Refusal) (after : List Binding) → and_then r (λ kept. within_limit (standing rules kept)) ≡ Ok after → ByContacts rules r after
by_limit rules (Ok bs) after e = record { kept = bs; gives = refl; limited = is_limited (standing rules bs) after e }
by_limit rules (Err refusal) after e = cc

by_contacts : (rules : BindingRules) (star empty zero_seconds bindable stale : Bool) (r : Result (List Binding) Refusal) (after : List Binding) → (star && empty) ≡ false
    → unless_refused (cond (star && not (empty && zero_seconds)) (Some StarMisused) (cond (not bindable) (Some BadContact) (cond stale (Some OutOfOrder) None))) (cond star (Ok []) (and_then r (λ kept. within_limit (standing rules kept)))) ≡ Ok after → ByContacts rules r after
by_contacts rules true true zero_seconds bindable stale r after some e = cc
by_contacts rules true false zero_seconds bindable stale r after some e = cc
by_contacts rules false empty zero_seconds false stale r after some e = cc
by_contacts rules false empty zero_seconds true true r after some e = cc
by_contacts rules false empty zero_seconds true false r after some e = by_limit rules r after e

is_some_contact : (others : List Contact) (c : Contact) → (length (others ++ c ∷ []) == 0) ≡ false
is_some_contact [] c = eqb-suc-zero 0
is_some_contact (o ∷ os) c = eqb-suc-zero (length (os ++ c ∷ []))

some_and : (a b : Bool) → b ≡ false → (a && b) ≡ false
some_and true b e = e
some_and false b e = refl

none_and : (a b : Bool) → a ≡ false → (a && b) ≡ false
none_and true b e = cc
none_and false b e = refl

-- what its contacts left, where it has some or no star
steps_of : (rules : Rules) (g : Register) (now : ℕ) (bs after : List Binding) → (g.star && (length g.contacts == 0)) ≡ false → bindings_after_one rules g now bs ≡ Ok after
    → ByContacts rules.binding_rules (with_contacts rules.binding_rules g now (first_number bs) g.contacts (present now bs)) after
unfolding bindings_after_one whole_refusal
steps_of rules g now bs after plain e =
    by_contacts rules.binding_rules g.star (length g.contacts == 0) (is_zero g.expires) (list_all (is_bindable rules.ip rules.sip_port) g.contacts) (is_star_stale g (present now bs)) (with_contacts rules.binding_rules g now (first_number bs) g.contacts (present now bs)) after plain e

-- a REGISTER that asks only, without contacts
query_keeps : (rules : Rules) (g : Register) (now : ℕ) (bs after : List Binding)
    → g.contacts ≡ [] → g.star ≡ false → bindings_after_one rules g now bs ≡ Ok after → target_of after ≡ target_of (present now bs)
query_keeps rules g now bs after none plain e =
    let steps = steps_of rules g now bs after (none_and g.star (length g.contacts == 0) plain) e in
    let begun : Ok (present now bs) ≡ Ok steps.kept = subst (λ cs. with_contacts rules.binding_rules g now (first_number bs) cs (present now bs) ≡ Ok steps.kept) none steps.gives in
    let same : present now bs ≡ steps.kept = cc in
    ap target_of (sym steps.limited.ranked) ∙ target-with_ranks (standing rules.binding_rules steps.kept) ∙ target-standing rules.binding_rules steps.kept ∙ ap target_of (sym same)

last_is_target : (rules : Rules) (g : Register) (now : ℕ) (bs : List Binding) (others : List Contact) (c : Contact) (uri : Uri) (after : List Binding) → Sound bs
    → g.contacts ≡ others ++ c ∷ [] → c.uri ≡ Some uri → granted rules.binding_rules (lifetime g c) ≢ 0 → bindings_after_one rules g now bs ≡ Ok after → target_of after ≡ Some uri
last_is_target rules g now bs others c uri after sound are is lasts e =
    let below : AllBelow (first_number bs) (present now bs) = below_filter (λ b. nat_lt now b.expires_at) (first_number bs) bs sound.below in
    let some : (length g.contacts == 0) ≡ false = subst (λ cs. (length cs == 0) ≡ false) (sym are) (is_some_contact others c) in
    let steps = steps_of rules g now bs after (some_and g.star (length g.contacts == 0) some) e in
    let s = to_last rules.binding_rules g now c steps.kept others (first_number bs) (present now bs) below (subst (λ cs. with_contacts rules.binding_rules g now (first_number bs) cs (present now bs) ≡ Ok steps.kept) are steps.gives) in
    ap target_of (sym steps.limited.ranked) ∙ target-with_ranks (standing rules.binding_rules steps.kept) ∙ target-standing rules.binding_rules steps.kept
    ∙ latest_at_last rules.binding_rules g now s.bindings s.number c uri c.uri steps.kept is (not_zero (granted rules.binding_rules (lifetime g c)) lasts) s.below s.gives

-- ---- few, and numbered from 0, at any time

pub sound_none : Sound []
sound_none = record { few = omega arith; below = tt }

sound_by : (rules : BindingRules) (misused bindable star stale : Bool) (r : Result (List Binding) Refusal) (after : List Binding)
    → unless_refused (cond misused (Some StarMisused) (cond (not bindable) (Some BadContact) (cond stale (Some OutOfOrder) None))) (cond star (Ok []) (and_then r (λ kept. within_limit (standing rules kept)))) ≡ Ok after → Sound after
sound_by rules true bindable star stale r after e = cc
sound_by rules false false star stale r after e = cc
sound_by rules false true star true r after e = cc
sound_by rules false true true false r after e = let same : [] ≡ after = cc in subst Sound same sound_none
sound_by rules false true false false r after e =
    let steps = by_limit rules r after e in
    subst Sound steps.limited.ranked (sound_ranks (standing rules steps.kept) steps.limited.few)

pub sound_after_one : (rules : Rules) (g : Register) (now : ℕ) (bs after : List Binding) → bindings_after_one rules g now bs ≡ Ok after → Sound after
unfolding bindings_after_one whole_refusal
sound_after_one rules g now bs after e =
    sound_by rules.binding_rules (is_star_misused g) (list_all (is_bindable rules.ip rules.sip_port) g.contacts) g.star (is_star_stale g (present now bs)) (with_contacts rules.binding_rules g now (first_number bs) g.contacts (present now bs)) after e

sound_or_before : (bs : List Binding) (r : Result (List Binding) Refusal) → Sound bs → ((after : List Binding) → r ≡ Ok after → Sound after) → Sound (or_as_before bs r)
sound_or_before bs (Ok after) sound each = each after refl
sound_or_before bs (Err refusal) sound each = sound

sound_registers : (rules : Rules) (user : List ℕ) (bs : List Binding) (e : Registration) → Sound bs → Sound (registers rules user bs e)
sound_registers rules user bs e sound =
    elim (names e.register.user user && is_known rules user) as (λ v. Sound (cond v (or_as_before bs (bindings_after_one rules e.register e.now bs)) bs)) [
      | true ↦ sound_or_before bs (bindings_after_one rules e.register e.now bs) sound (λ after is. sound_after_one rules e.register e.now bs after is)
      | false ↦ sound
    ]

sound_listed : (bs : List Binding) (known : Bool) → Sound bs → Sound (cond known bs [])
sound_listed bs true sound = sound
sound_listed bs false sound = sound_none

sound_step : (rules : Rules) (user : List ℕ) (bs : List Binding) (e : Event) → Sound bs → Sound (step rules user bs e)
sound_step rules user bs (Registered e) sound = sound_registers rules user bs e sound
sound_step rules user bs (Listed users) sound = sound_listed bs (is_known (with_users rules users) user) sound

sound_from : (rules : Rules) (user : List ℕ) (bs : List Binding) (es : List Event) → Sound bs → Sound (fold_from rules user bs es)
sound_from rules user bs [] sound = sound
sound_from rules user bs (e ∷ es) sound = sound_from (rules_with rules e) user (step rules user bs e) es (sound_step rules user bs e sound)

-- ---- over all REGISTERs

to_known : (known : Bool) (r : Result (List Binding) Refusal) (after : List Binding) → cond known r (Err UnknownUser) ≡ Ok after → r ≡ Ok after
to_known true r after e = e
to_known false r after e = cc

-- the bindings of each user after these REGISTERs
abbrev all_after : Rules → List Event → List ℕ → List Binding
all_after rules history user = bindings_after rules user history

last_to : (given rules : Rules) (history : List Event) (g : Register) (now : ℕ) (others : List Contact) (c : Contact) (uri : Uri) (after : List Binding) (o : Option (List ℕ))
    → g.contacts ≡ others ++ c ∷ [] → c.uri ≡ Some uri → granted given.binding_rules (lifetime g c) ≢ 0 → answer_for given (all_after rules history) g now o ≡ Ok after → target_of after ≡ Some uri
last_to given rules history g now others c uri after None are is lasts e = cc
last_to given rules history g now others c uri after (Some user) are is lasts e =
    last_is_target given g now (bindings_after rules user history) others c uri after (sound_from rules user [] history sound_none) are is lasts
    (to_known (is_known given user) (bindings_after_one given g now (bindings_after rules user history)) after e)

pub last_contact_is_target : LastContactIsTarget
unfolding answer_after answer_by
last_contact_is_target rules history g now others c uri after are is lasts e =
    last_to (rules_after rules history) rules history g now others c uri after g.user are is
    (subst (λ (b : BindingRules). granted b (lifetime g c) ≢ 0) (sym (same_after rules history)) lasts) e

query_to : (given rules : Rules) (history : List Event) (g : Register) (now : ℕ) (user : List ℕ) (after : List Binding) (o : Option (List ℕ)) → o ≡ Some user
    → g.contacts ≡ [] → g.star ≡ false → answer_for given (all_after rules history) g now o ≡ Ok after → target_of after ≡ target_of (present now (bindings_after rules user history))
query_to given rules history g now user after None is none plain e = cc
query_to given rules history g now user after (Some u) is none plain e =
    let same : u ≡ user = cc in
    query_keeps given g now (bindings_after rules u history) after none plain
    (to_known (is_known given u) (bindings_after_one given g now (bindings_after rules u history)) after e)
    ∙ ap (λ v. target_of (present now (bindings_after rules v history))) same

pub query_keeps_target : QueryKeepsTarget
unfolding answer_after answer_by bound
query_keeps_target rules history g now user after is none plain e = query_to (rules_after rules history) rules history g now user after g.user is none plain e

few_for : (rules : Rules) (history : List Event) (user : List ℕ) (now : ℕ) → length (bound rules user history now) ≤ max_bindings
unfolding bound
few_for rules history user now =
    let few = (sound_from rules user [] history sound_none).few in
    let count = length-filter (λ b. nat_lt now b.expires_at) (bindings_after rules user history) in
    let fewer = count_by-le-length (λ b. nat_lt now b.expires_at) (bindings_after rules user history) in
    omega arith

pub few_bound : FewBound
few_bound rules history user now = few_for rules history user now
