-- Each step keeps the rule.
use Rattle.std.proofs.Common.{◌≡◌, ◌≢◌, ℕ, ◌+◌, ◌%◌, ◌^◌, ◌<◌, List, [], ◌∷◌, ◌++◌, length, fold, set, refl, sym, ap, ◌∙◌, subst, ⊎_elim, append_assoc, arith}
use Rattle.std.specs.Prelude.{Result, Ok, Err, IsOk, MatchResult}
use Rattle.std.specs.declared.alloc.AllocError.{AllocError}
use Rattle.std.proofs.lemmas.List.{append-nil, nil_from_length, length-append}
use Rattle.std.proofs.lemmas.List.Sums.{fold-append}
use mathlib.Core.Option.{some, some-ne-none}
use Rattle.std.specs.FinMap.{empty}
use lib.ListN.{get_elem?}
use Rattle.left_right.specs.Register.{Admits, Turns, TurnsAt, Forks, Merges}
use Rattle.atomic_table.proofs.Lists.{at_set, at_snoc}
use Rattle.port_pool.specs.declared.changes.Change.{Change}
use Rattle.port_pool.specs.RelayTable.{Rows, changed_by}
use Rattle.relay.specs.declared.table_value.Published.{Published}
use Rattle.relay.specs.Published.{contents, after_list}
use Rattle.relay.specs.Rule.{Lists, StartsWith, table_after, IsAfter, Keeps, Reads, Adds}

starts_itself : (lists : Lists) → StartsWith lists lists
starts_itself lists = ([], sym (append-nil lists))

starts_longer : (lists known more : Lists) → StartsWith lists known → StartsWith (lists ++ more) known
starts_longer lists known more s = (s.0 ++ more, ap (λ (l : Lists). l ++ more) s.1 ∙ append_assoc known s.0 more)

-- a beginning that is as long as the whole is the whole
starts_whole : (lists known : Lists) → StartsWith lists known → length lists ≡ length known → lists ≡ known
starts_whole lists known s same =
    let none : s.0 ≡ [] = nil_from_length s.0 (omega (arith, ap length s.1, length-append known s.0, same)) in
    s.1 ∙ ap (λ (l : Lists). known ++ l) none ∙ append-nil known

-- one seat's knowledge becomes w, which begins the lists as all others' does
set_known : (lists w : Lists) (views : List Lists) (seat : ℕ) → ((j : ℕ) (u : Lists) → get_elem? views j ≡ some u → StartsWith lists u) → StartsWith lists w
    → (j : ℕ) (u : Lists) → get_elem? (set views seat w) j ≡ some u → StartsWith lists u
set_known lists w views seat h s j u e = ⊎_elim (λ (t : (j ≡ seat) × (w ≡ u)). subst (StartsWith lists) t.1 s) (λ (t : (j ≢ seat) × (get_elem? views j ≡ some u)). h j u t.1) (at_set views seat j w u e)

more_known : (lists w : Lists) (views : List Lists) → ((j : ℕ) (u : Lists) → get_elem? views j ≡ some u → StartsWith lists u) → StartsWith lists w
    → (j : ℕ) (u : Lists) → get_elem? (views ++ w ∷ []) j ≡ some u → StartsWith lists u
more_known lists w views h s j u e = ⊎_elim (h j u) (λ (same : w ≡ u). subst (StartsWith lists) same s) (at_snoc views w u j e)

pub admits : Admits Keeps []
admits x views h = (h.0, h.1, more_known h.0 [] views h.2 (h.0, refl))

pub looks : (seat : ℕ) (v : Lists) → Turns Keeps seat v (λ x. x) Reads
looks seat v x views h at = (h.0, (h.0, h.1, set_known h.0 h.0 views seat h.2 (starts_itself h.0)), (h.1, h.2 seat v at))

-- the table after one list more
table_after-snoc : (lists : Lists) (changes : List Change) → table_after (lists ++ changes ∷ []) ≡ changed_by (table_after lists) changes
table_after-snoc lists changes = fold-append changed_by _ lists (changes ∷ [])

pub is_after_list : (x y : Published) (v : Lists) (changes : List Change) → IsAfter x v → length v < 2 ^ 63 → contents y ≡ after_list (contents x) changes → IsAfter y (v ++ changes ∷ [])
is_after_list x y v changes is room e =
    let counted : y.count ≡ (x.count + 1) % 2 ^ 64 = ap (λ c. c.1) e in
    let tabled : y.table ≡ changed_by x.table changes = ap (λ c. c.0) e in (
      omega (arith, counted, is.0, length-append v (changes ∷ [])),
      tabled ∙ ap (λ (t : Rows). changed_by t changes) is.1 ∙ sym (table_after-snoc v changes),
    )

pub publishes : (seat : ℕ) (v : Lists) (x y : Published) (changes : List Change) → IsAfter x v → length v < 2 ^ 63 → contents y ≡ after_list (contents x) changes → TurnsAt Keeps seat v x y Adds
publishes seat v x y changes is room e views h at =
    let whole : h.0 ≡ v = starts_whole h.0 v (h.2 seat v at) (sym h.1.0 ∙ is.0) in
    let last : y.last.value ≡ changes = ap (λ c. c.2) e in
    let w : Lists = v ++ changes ∷ [] in
    let after : IsAfter y w = is_after_list x y v changes is room e in
    let others : (j : ℕ) (u : Lists) → get_elem? views j ≡ some u → StartsWith w u = λ j u a. starts_longer v u (changes ∷ []) (subst (λ (l : Lists). StartsWith l u) whole (h.2 j u a)) in
    (w, (w, after, set_known w w views seat others (starts_itself w)), (ap (λ (c : List Change). v ++ c ∷ []) (sym last), after))

pub forks : (seat : ℕ) (v : Lists) → Forks Keeps seat v v v
forks seat v x views h at = (h.0, h.1, more_known h.0 v (set views seat v) (set_known h.0 v views seat h.2 (h.2 seat v at)) (h.2 seat v at))

pub merges : (seat : ℕ) (v : Lists) (other : ℕ) (w : Lists) → Merges Keeps seat v other w w []
merges seat v other w x views h at apart there =
    let known : StartsWith h.0 w = ⊎_elim (λ (t : (other ≡ seat) × (w ≡ w)). absurd (apart t.0)) (λ (t : (other ≢ seat) × (get_elem? views other ≡ some w)). h.2 other w t.1) (at_set views seat other w w there) in
    (h.0, h.1, set_known h.0 [] (set views seat w) other (set_known h.0 w views seat h.2 known) (h.0, refl))

-- the same of a list of one list, as what is pending is
pub publishes_one : (seat : ℕ) (v : Lists) (x y : Published) (pending : Lists) → length pending ≡ 1 → IsAfter x v → length v < 2 ^ 63 → contents y ≡ fold after_list (contents x) pending → TurnsAt Keeps seat v x y Adds
publishes_one seat v x y [] one is room e = absurd (omega arith)
publishes_one seat v x y (changes ∷ []) one is room e = publishes seat v x y changes is room e
publishes_one seat v x y (changes ∷ (more ∷ rest)) one is room e = absurd (omega arith)

pub last_of_one : (x y : Published) (pending : Lists) → length pending ≡ 1 → contents y ≡ fold after_list (contents x) pending → y.last.value ∷ [] ≡ pending
last_of_one x y [] one e = absurd (omega arith)
last_of_one x y (changes ∷ []) one e = ap (λ c. c.2 ∷ []) e
last_of_one x y (changes ∷ (more ∷ rest)) one e = absurd (omega arith)

-- what is published is what was pending, if the call succeeds
pub lists_shown : (r : Result (Unit {0}) AllocError) (x y : Published) (v w pending : Lists) (Q Q' : Type 0) → length pending ≡ 1 → IsOk r
    → MatchResult r (λ _. (contents y ≡ fold after_list (contents x) pending) × Q') (λ _. Q) → MatchResult r (λ _. Adds v x y w) (λ _. w ≡ v) → w ≡ v ++ pending
lists_shown (Ok u) x y v w pending Q Q' one ok values rule = rule.0 ∙ ap (λ (l : Lists). v ++ l) (last_of_one x y pending one values.0)
lists_shown (Err e) x y v w pending Q Q' one ok values rule = cc

-- the empty table keeps the rule before any list is published
pub starts : (x : Published) → contents x ≡ (empty, 0, []) → Keeps x ([] ∷ [])
starts x e = ([], (ap (λ c. c.1) e, ap (λ c. c.0) e), more_known [] [] [] (λ j u none. absurd (some-ne-none u (sym none))) (starts_itself []))
