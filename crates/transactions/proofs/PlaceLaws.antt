-- The places of the table: what is found by the index, and the index after a change.
use Rattle.std.proofs.Common.{◌≡◌, ℕ, ◌+◌, ◌-◌, ◌<◌, ◌≤◌, Bool, true, false, ◌&&◌, cond, ltb, eqb, List, [], ◌∷◌, ◌++◌, drop, length, map, get_or, set, Option, Some, None, is_none, is_some, option_map, count_by, find, position, slice_get, unwrap_or, refl, sym, ap, ◌∙◌, inl, inr, arith}
use Rattle.std.specs.Prelude.{IsSome}
use Rattle.std.specs.List.{list_any}
use Rattle.std.proofs.lemmas.Bool.{cases_eq, false≢true, ne_eqb, eq-eqb, eqb-true, eqb-false}
use Rattle.std.proofs.lemmas.List.{get_or_default, length-map}
use Rattle.std.proofs.lemmas.List.Sums.{sum_by-cons, sum_by-set, get_or-le-sum_by}
use Rattle.index.specs.declared.index.Entry.{Entry}
use Rattle.index.specs.Buckets.{Bucketed, numbers_in}
use Rattle.index.specs.Numbers.{Indexed, put_number, remove_number}
use Rattle.index.specs.Passing.{numbers_from}
use Rattle.transaction_machines.specs.declared.state.State.{State}
use Rattle.transaction_machines.specs.Machines.{is_server}
use Rattle.transactions.specs.declared.transaction.Transaction.{Transaction}
use Rattle.transactions.specs.Contents.{placed}
use Rattle.transactions.specs.FreeNumbers.{Free}
use Rattle.transactions.specs.Places.{has_branch, has_call, has_tag, has_source, IsIndexed, HasRoom, KeepsSide}
use Rattle.index.specs.declared.print.PrintKey.{PrintKey}
use Rattle.index.specs.PrintKeys.{print_of}
use Rattle.transactions.specs.Prints.{branch_print, ip_print, prints_at, source_print, tag_print}
use Rattle.transactions.specs.Slots.{at, free_number, is_serving}
use Rattle.transactions.specs.Shares.{ip_number, serves, serving_from}
use Rattle.transactions.specs.Transactions.{went}
use Rattle.transactions.proofs.LastingLaws.{within}
use Rattle.index.proofs.NumberLaws as numbers
use Rattle.transactions.proofs.NumberLaws.{placed_put, placed_same, placed_remove, count_placed}

abbrev Slots : Type 0
Slots = List (Option Transaction)

-- ---- what is found

pub first_found : (f p : Option Transaction → Bool) → ((slot : Option Transaction) → f slot ≡ true → p slot ≡ true) → (slots seen : Slots) (es : List Entry)
    → seen ≡ slots → map (λ e. e.number) es ≡ numbers_from p 0 slots → option_map (λ e. e.number) (find (λ e. f (at seen e.number)) es) ≡ position f slots
first_found f p has slots seen es same is = numbers.first_found p f (λ n. f (at seen n)) has None slots es (λ i less. ap (λ l. f (at l i)) same) is

pub any_found : (f p : Option Transaction → Bool) → ((slot : Option Transaction) → f slot ≡ true → p slot ≡ true) → (slots seen : Slots) (es : List Entry)
    → seen ≡ slots → map (λ e. e.number) es ≡ numbers_from p 0 slots → list_any (λ e. f (at seen e.number)) es ≡ list_any f slots
any_found f p has slots seen es same is = numbers.any_found p f (λ n. f (at seen n)) has None slots es (λ i less. ap (λ l. f (at l i)) same) is

-- ---- the least free number

first_free : (slots : Slots) (n : ℕ) (ns : List ℕ) → n ∷ ns ≡ numbers_from is_none 0 slots → n ≡ free_number slots
first_free slots n ns is = numbers.first_is is_none slots 0 n ns (sym is) ∙ omega arith

pub least_or : (slots : Slots) (ns : List ℕ) (len : ℕ) → len ≡ length slots → ns ≡ numbers_from is_none 0 slots → unwrap_or (slice_get ns 0) len ≡ free_number slots
least_or slots [] len all is = all ∙ numbers.none_is is_none slots 0 (sym is)
least_or slots (n ∷ ns) len all is = first_free slots n ns is

-- the least free number is taken away, if there is one
least_taken : (slots : Slots) (ns : List ℕ) → ns ≡ numbers_from is_none 0 slots → drop 1 ns ≡ remove_number ns (free_number slots)
least_taken slots [] is = refl
least_taken slots (n ∷ ns) is = rw (← first_free slots n ns is, eq-eqb n n refl) refl

-- ---- a transaction goes on

pub server_is : (t : Transaction) → is_serving (Some t) ≡ is_server t.state
unfolding is_serving
server_is t = refl

none_serves : is_serving None ≡ false
unfolding is_serving
none_serves = refl

none_counts : cond {A = ℕ} (is_serving None) 1 0 ≡ 0
unfolding is_serving
none_counts = refl

pub stands : (slots : Slots) (id : ℕ) → IsSome (at slots id) → (t : Transaction) × (at slots id ≡ Some t)
stands slots id some =
    elim (at slots id) as (λ o. is_some o ≡ true → (t : Transaction) × (o ≡ Some t)) [
      | Some t ↦ λ _. (t, refl)
      | None ↦ λ h. absurd (false≢true h)
    ] some

pub counted : (slots : Slots) (id n was : ℕ) (d : Option Transaction) → id < length slots → n ≡ count_by is_serving slots → was ≡ cond (is_serving (get_or slots id d)) 1 0 → was ≤ n
counted slots id n was d less is e = (let le = get_or-le-sum_by (λ s. cond (is_serving s) 1 0) slots id d less in omega (arith, is, e, le))

module _ (has : ℕ → Option Transaction → Bool) (key : Transaction → ℕ) (none : (p : ℕ) → has p None ≡ false) (some : (p : ℕ) (t : Transaction) → has p (Some t) ≡ eqb (key t) p) where
  -- its numbers stay where a transaction goes on with the same key
  pub kept : (slots : Slots) (id : ℕ) (d new : Option Transaction) (t u : Transaction) → get_or slots id d ≡ Some t → new ≡ Some u → key u ≡ key t
      → (p : ℕ) → numbers_from (has p) 0 (set slots id new) ≡ numbers_from (has p) 0 slots
  kept slots id d new t u was is same p = numbers.set_same (has p) slots id 0 new d (rw (was, is, some p u, same) (sym (some p t)))

  -- at its end its number is removed
  pub ended : (slots : Slots) (id k : ℕ) (d : Option Transaction) (t : Transaction) (es es' : List Indexed) → id < length slots → get_or slots id d ≡ Some t → k ≡ key t
      → ((p : ℕ) → numbers_in es p ≡ numbers_from (has p) 0 slots) → ((p : ℕ) → numbers_in es' p ≡ cond (eqb p k) (remove_number (numbers_in es k) id) (numbers_in es p))
      → (p : ℕ) → numbers_in es' p ≡ numbers_from (has p) 0 (set slots id None)
  ended slots id k d t es es' less was is before removed p =
      elim (eqb p k) as (λ b. eqb p k ≡ b → cond b (remove_number (numbers_in es k) id) (numbers_in es p) ≡ numbers_from (has p) 0 (set slots id None) → numbers_in es' p ≡ numbers_from (has p) 0 (set slots id None)) [
        | true ↦ λ e h. removed p ∙ rw e h
        | false ↦ λ e h. removed p ∙ rw e h
      ] refl (
      elim (eqb p k) as (λ b. eqb p k ≡ b → cond b (remove_number (numbers_in es k) id) (numbers_in es p) ≡ numbers_from (has p) 0 (set slots id None)) [
        | true ↦ λ e.
            (let here : p ≡ k = eqb-true p k e in
            let passes : has p (get_or slots id d) ≡ true = rw (was, some p t) (eq-eqb (key t) p (sym is ∙ sym here)) in
            ap (λ ns. remove_number ns id) (ap (numbers_in es) (sym here) ∙ before p) ∙ sym (numbers.set_remove (has p) slots id 0 id None d (omega arith) less passes (none p)))
        | false ↦ λ e.
            (let fails : has p (get_or slots id d) ≡ false = rw (was, some p t) (ne_eqb (key t) p (λ same. eqb-false p k e (sym same ∙ sym is))) in
            before p ∙ sym (numbers.set_same (has p) slots id 0 None d (none p ∙ sym fails)))
      ] refl)

  -- at its beginning its number is put
  pub begun : (slots : Slots) (k : ℕ) (t : Transaction) (es es' : List Indexed) → k ≡ key t
      → ((p : ℕ) → numbers_in es p ≡ numbers_from (has p) 0 slots) → ((p : ℕ) → numbers_in es' p ≡ cond (eqb p k) (put_number (numbers_in es k) (free_number slots)) (numbers_in es p))
      → (p : ℕ) → numbers_in es' p ≡ numbers_from (has p) 0 (placed slots (free_number slots) t)
  begun slots k t es es' is before put p =
      put p ∙ (elim (eqb p k) as (λ b. eqb p k ≡ b → cond b (put_number (numbers_in es k) (free_number slots)) (numbers_in es p) ≡ numbers_from (has p) 0 (placed slots (free_number slots) t)) [
        | true ↦ λ e.
            (let here : p ≡ k = eqb-true p k e in
            let passes : has p (Some t) ≡ true = rw (some p t) (eq-eqb (key t) p (sym is ∙ sym here)) in
            ap (λ ns. put_number ns (free_number slots)) (ap (numbers_in es) (sym here) ∙ before p) ∙ sym (placed_put (has p) t (none p) passes slots 0 (free_number slots) (omega arith)))
        | false ↦ λ e.
            (let fails : has p (Some t) ≡ false = rw (some p t) (ne_eqb (key t) p (λ same. eqb-false p k e (sym same ∙ sym is))) in
            before p ∙ sym (placed_same (has p) t (none p) fails slots 0))
      ] refl)

branch_none : (k : PrintKey) (p : ℕ) → has_branch k p None ≡ false
branch_none k p = refl

branch_some : (k : PrintKey) (p : ℕ) (t : Transaction) → has_branch k p (Some t) ≡ eqb (branch_print k t.parts.vias) p
branch_some k p t = refl

call_none : (k : PrintKey) (p : ℕ) → has_call k p None ≡ false
call_none k p = refl

call_some : (k : PrintKey) (p : ℕ) (t : Transaction) → has_call k p (Some t) ≡ eqb (print_of k t.parts.call_id) p
call_some k p t = refl

tag_none : (k : PrintKey) (p : ℕ) → has_tag k p None ≡ false
tag_none k p = refl

tag_some : (k : PrintKey) (p : ℕ) (t : Transaction) → has_tag k p (Some t) ≡ eqb (tag_print k t.parts.from.params) p
tag_some k p t = refl

source_none : (p : ℕ) → has_source p None ≡ false
source_none p = refl

source_some : (p : ℕ) (t : Transaction) → has_source p (Some t) ≡ eqb (source_print t) p
source_some p t = refl

-- the side and the place of a transaction stay where it goes on, so its source does
source_stays : (t : Transaction) (fresh : Option (List ℕ)) (state : State) → is_server state ≡ is_server t.state → source_print (went t fresh state) ≡ source_print t
source_stays t fresh state side = ap (λ b. cond b (ip_print t.place.ip) 0) side

-- ---- how many of one address

side_counts : (server : Bool) (n m : ℕ) → (server && eqb n m) ≡ eqb (cond server (1 + n) 0) (1 + m)
side_counts true n m = elim (cases_eq n m) [
  | inl e ↦ eq-eqb n m e ∙ sym (eq-eqb (1 + n) (1 + m) (ap (λ k. 1 + k) e))
  | inr other ↦ ne_eqb n m other ∙ sym (ne_eqb (1 + n) (1 + m) (λ e. other (omega (arith, e))))
]
side_counts false n m = sym (ne_eqb 0 (1 + m) (λ e. omega (arith, e)))

of_address : (ip : List ℕ) (slot : Option Transaction) → serves ip slot ≡ has_source (ip_print ip) slot
unfolding serves
of_address ip None = refl
of_address ip (Some t) = side_counts (is_server t.state) (ip_number t.place.ip) (ip_number ip)

pub count_agree : (p q : Option Transaction → Bool) → ((slot : Option Transaction) → p slot ≡ q slot) → (slots : Slots) → count_by p slots ≡ count_by q slots
count_agree p q e [] = refl
count_agree p q e (x ∷ xs) =
    let rest = count_agree p q e xs in
    let one = ap (λ b. cond {A = ℕ} b 1 0) (e x) in
    omega (arith, sum_by-cons (λ s. cond (p s) 1 0) x xs, sum_by-cons (λ s. cond (q s) 1 0) x xs, rest, one)

pub counted_from : (ip : List ℕ) (slots : Slots) (print : ℕ) (es : List Entry) → print ≡ ip_print ip
    → map (λ e. e.number) es ≡ numbers_from (has_source print) 0 slots → length es ≡ serving_from ip slots
counted_from ip slots print es is found =
    sym (length-map es (λ e. e.number)) ∙ ap length found ∙ numbers.numbers_many (has_source print) slots 0
    ∙ ap (λ n. count_by (has_source n) slots) is ∙ sym (count_agree (serves ip) (has_source (ip_print ip)) (of_address ip) slots)

pub advanced : (key : PrintKey) (slots : Slots) (bs cs ts os : List Indexed) (fs : List ℕ) (n id : ℕ) (d new : Option Transaction) (fresh : Option (List ℕ)) (state : State)
    → IsIndexed key slots bs cs ts os fs n → IsSome (at slots id) → KeepsSide slots id state → new ≡ option_map (λ t. went t fresh state) (get_or slots id d)
    → IsIndexed key (set slots id new) bs cs ts os fs n
advanced key slots bs cs ts os fs n id d new fresh state h some keeps e =
    let one = stands slots id some in
    let t = one.0 in
    let less = within slots id t one.1 in
    let there : get_or slots id d ≡ Some t = get_or_default slots id d None less ∙ one.1 in
    let next : new ≡ Some (went t fresh state) = e ∙ ap (option_map (λ u. went u fresh state)) there in
    let side = keeps t one.1 in
    let count = sum_by-set (λ s. cond (is_serving s) 1 0) slots id new d less in
    let same : cond {A = ℕ} (is_serving new) 1 0 ≡ cond (is_serving (get_or slots id d)) 1 0 = rw (next, there, server_is (went t fresh state), server_is t, side) refl in
    record {
      by_branch = λ p. h.by_branch p ∙ sym (kept (has_branch key) (λ u. branch_print key u.parts.vias) (branch_none key) (branch_some key) slots id d new t (went t fresh state) there next refl p);
      by_call = λ p. h.by_call p ∙ sym (kept (has_call key) (λ u. print_of key u.parts.call_id) (call_none key) (call_some key) slots id d new t (went t fresh state) there next refl p);
      by_tag = λ p. h.by_tag p ∙ sym (kept (has_tag key) (λ u. tag_print key u.parts.from.params) (tag_none key) (tag_some key) slots id d new t (went t fresh state) there next refl p);
      by_source = λ p. h.by_source p ∙ sym (kept has_source source_print source_none source_some slots id d new t (went t fresh state) there next (source_stays t fresh state side) p);
      without = h.without ∙ sym (numbers.set_same is_none slots id 0 new d (rw (there, next) refl));
      servers = omega (arith, h.servers, count, same);
    }

pub ended_all : (key : PrintKey) (slots : Slots) (bs cs ts os : List Indexed) (fs : List ℕ) (bs' cs' ts' os' : List Indexed) (fs' : List ℕ) (n id was b c g o : ℕ) (d new : Option Transaction)
    → IsIndexed key slots bs cs ts os fs n → IsSome (at slots id) → new ≡ None → was ≡ cond (is_serving (get_or slots id d)) 1 0
    → b ≡ (prints_at key (get_or slots id d)).branch → c ≡ (prints_at key (get_or slots id d)).call → g ≡ (prints_at key (get_or slots id d)).tag → o ≡ (prints_at key (get_or slots id d)).source
    → ((p : ℕ) → numbers_in bs' p ≡ cond (eqb p b) (remove_number (numbers_in bs b) id) (numbers_in bs p))
    → ((p : ℕ) → numbers_in cs' p ≡ cond (eqb p c) (remove_number (numbers_in cs c) id) (numbers_in cs p))
    → ((p : ℕ) → numbers_in ts' p ≡ cond (eqb p g) (remove_number (numbers_in ts g) id) (numbers_in ts p))
    → ((p : ℕ) → numbers_in os' p ≡ cond (eqb p o) (remove_number (numbers_in os o) id) (numbers_in os p))
    → fs' ≡ put_number fs id
    → IsIndexed key (set slots id new) bs' cs' ts' os' fs' (n - was)
ended_all key slots bs cs ts os fs bs' cs' ts' os' fs' n id was b c g o d new h some is was_e b_e c_e g_e o_e bs_e cs_e ts_e os_e fs_e =
    let one = stands slots id some in
    let t = one.0 in
    let less = within slots id t one.1 in
    let there : get_or slots id d ≡ Some t = get_or_default slots id d None less ∙ one.1 in
    let count = sum_by-set (λ s. cond (is_serving s) 1 0) slots id None d less in
    let fewer = get_or-le-sum_by (λ s. cond (is_serving s) 1 0) slots id d less in
    let put = numbers.set_put is_none slots id 0 id None d (omega arith) less (rw there refl) refl in
    rw is (record {
      by_branch = ended (has_branch key) (λ u. branch_print key u.parts.vias) (branch_none key) (branch_some key) slots id b d t bs bs' less there (b_e ∙ ap (λ s. (prints_at key s).branch) there) h.by_branch bs_e;
      by_call = ended (has_call key) (λ u. print_of key u.parts.call_id) (call_none key) (call_some key) slots id c d t cs cs' less there (c_e ∙ ap (λ s. (prints_at key s).call) there) h.by_call cs_e;
      by_tag = ended (has_tag key) (λ u. tag_print key u.parts.from.params) (tag_none key) (tag_some key) slots id g d t ts ts' less there (g_e ∙ ap (λ s. (prints_at key s).tag) there) h.by_tag ts_e;
      by_source = ended has_source source_print source_none source_some slots id o d t os os' less there (o_e ∙ ap (λ s. (prints_at key s).source) there) h.by_source os_e;
      without = fs_e ∙ ap (λ ns. put_number ns id) h.without ∙ sym put;
      servers = omega (arith, h.servers, count, fewer, none_counts, was_e);
    })

pub begun_all : (key : PrintKey) (slots : Slots) (bs cs ts os : List Indexed) (fs : List ℕ) (bs' cs' ts' os' : List Indexed) (fs' : List ℕ) (n is b c g o id : ℕ) (t : Transaction) (slot : Option Transaction) (after : Slots)
    → IsIndexed key slots bs cs ts os fs n → id ≡ free_number slots → slot ≡ Some t → is ≡ cond (is_serving slot) 1 0 → b ≡ (prints_at key slot).branch → c ≡ (prints_at key slot).call → g ≡ (prints_at key slot).tag → o ≡ (prints_at key slot).source
    → after ≡ cond (ltb id (length slots)) (set slots id slot) (slots ++ slot ∷ [])
    → ((p : ℕ) → numbers_in bs' p ≡ cond (eqb p b) (put_number (numbers_in bs b) id) (numbers_in bs p))
    → ((p : ℕ) → numbers_in cs' p ≡ cond (eqb p c) (put_number (numbers_in cs c) id) (numbers_in cs p))
    → ((p : ℕ) → numbers_in ts' p ≡ cond (eqb p g) (put_number (numbers_in ts g) id) (numbers_in ts p))
    → ((p : ℕ) → numbers_in os' p ≡ cond (eqb p o) (put_number (numbers_in os o) id) (numbers_in os p))
    → fs' ≡ drop 1 fs
    → IsIndexed key after bs' cs' ts' os' fs' (n + is)
begun_all key slots bs cs ts os fs bs' cs' ts' os' fs' n is b c g o id t slot after h id_e slot_e is_e b_e c_e g_e o_e after_e bs_e cs_e ts_e os_e fs_e =
    let then : after ≡ placed slots (free_number slots) t = after_e ∙ rw (slot_e, id_e) refl in
    let counts : is ≡ cond (is_serving (Some t)) 1 0 = is_e ∙ rw slot_e refl in
    let count = count_placed is_serving none_serves t slots in
    rw then (record {
      by_branch = begun (has_branch key) (λ u. branch_print key u.parts.vias) (branch_none key) (branch_some key) slots b t bs bs' (b_e ∙ ap (λ s. (prints_at key s).branch) slot_e) h.by_branch (rw (← id_e) bs_e);
      by_call = begun (has_call key) (λ u. print_of key u.parts.call_id) (call_none key) (call_some key) slots c t cs cs' (c_e ∙ ap (λ s. (prints_at key s).call) slot_e) h.by_call (rw (← id_e) cs_e);
      by_tag = begun (has_tag key) (λ u. tag_print key u.parts.from.params) (tag_none key) (tag_some key) slots g t ts ts' (g_e ∙ ap (λ s. (prints_at key s).tag) slot_e) h.by_tag (rw (← id_e) ts_e);
      by_source = begun has_source source_print source_none source_some slots o t os os' (o_e ∙ ap (λ s. (prints_at key s).source) slot_e) h.by_source (rw (← id_e) os_e);
      without = fs_e ∙ least_taken slots fs h.without ∙ ap (λ ns. remove_number ns (free_number slots)) h.without ∙ sym (placed_remove t slots 0 (free_number slots) (omega arith));
      servers = omega (arith, h.servers, count, counts);
    })

-- ---- the room

-- an end takes room that there is
pub end_fits : (key : PrintKey) (slots : Slots) (bs cs ts os : List Indexed) (free : Free) (n id used capacity room : ℕ) (branches calls tags sources : Bucketed)
    → IsIndexed key slots bs cs ts os free.numbers n → HasRoom used capacity branches calls tags sources free room → used ≡ length slots → IsSome (at slots id) → 0 < free.room
end_fits key slots bs cs ts os free n id used capacity room branches calls tags sources h fits is some =
    let one = stands slots id some in
    let less = within slots id one.0 one.1 in
    let fewer = numbers.numbers_fewer is_none slots id 0 None less (rw one.1 refl) in
    let same = ap length h.without in
    omega (arith, fits.for_ends, is, fewer, same)

pub room_ended : (used capacity room id : ℕ) (branches calls tags sources branches' calls' tags' sources' : Bucketed) (free free' : Free) → HasRoom used capacity branches calls tags sources free room
    → free'.numbers ≡ put_number free.numbers id
    → branches.room ≤ branches'.room → calls.room ≤ calls'.room → tags.room ≤ tags'.room → sources.room ≤ sources'.room → free.room ≤ free'.room + 1
    → HasRoom used capacity branches' calls' tags' sources' free' room
room_ended used capacity room id branches calls tags sources branches' calls' tags' sources' free free' fits fs_e bs_r cs_r ts_r os_r fs_r =
    let fs_l = ap length fs_e ∙ numbers.put_length free.numbers id in
    record {
      for_slots = fits.for_slots;
      for_branches = omega (arith, fits.for_branches, bs_r);
      for_calls = omega (arith, fits.for_calls, cs_r);
      for_tags = omega (arith, fits.for_tags, ts_r);
      for_sources = omega (arith, fits.for_sources, os_r);
      for_ends = omega (arith, fits.for_ends, fs_l, fs_r);
    }

pub room_begun : (used used' capacity capacity' room : ℕ) (branches calls tags sources branches' calls' tags' sources' : Bucketed) (free free' : Free) → HasRoom used capacity branches calls tags sources free room → 0 < room
    → used' ≤ used + 1 → capacity ≤ capacity' → branches.room ≤ branches'.room + 1 → calls.room ≤ calls'.room + 1 → tags.room ≤ tags'.room + 1 → sources.room ≤ sources'.room + 1
    → length free.numbers + free.room ≤ length free'.numbers + free'.room
    → HasRoom used' capacity' branches' calls' tags' sources' free' (room - 1)
room_begun used used' capacity capacity' room branches calls tags sources branches' calls' tags' sources' free free' fits some more most bs_r cs_r ts_r os_r fs_r =
    record {
      for_slots = omega (arith, fits.for_slots, some, more, most);
      for_branches = omega (arith, fits.for_branches, bs_r);
      for_calls = omega (arith, fits.for_calls, cs_r);
      for_tags = omega (arith, fits.for_tags, ts_r);
      for_sources = omega (arith, fits.for_sources, os_r);
      for_ends = omega (arith, fits.for_ends, some, more, fs_r);
    }
