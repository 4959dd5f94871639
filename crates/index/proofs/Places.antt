-- What is done at the place of an entry.
use Rattle.std.proofs.Common.{◌≡◌, ℕ, ◌+◌, true, false, cond, List, [], ◌∷◌, refl, sym, ap, ◌∙◌, add-one, add_comm}
use Rattle.std.specs.List.{AllByRecursion, insert, remove, slice_get}
use Rattle.timers.proofs.Halving.{AllFail, IsParted}
use Rattle.timers.proofs.ByMoment.{insert_behind, get_behind}
use Rattle.index.specs.declared.index.Entry.{Entry}
use Rattle.index.specs.Entries.{is_before, EntriesRise, place_of, put_entry, same_entry, stands_in, remove_entry}
use Rattle.index.proofs.Order.{behind_behind, before_not}

abbrev AreBehind : Entry → List Entry → Type 0
AreBehind e es = AllByRecursion (λ other. is_before other e.print e.number ≡ false) es

all_behind : (e : Entry) (p n : ℕ) (es : List Entry) → is_before e p n ≡ false → AreBehind e es → AllFail (λ x. is_before x p n) es
all_behind e p n [] h rest = tt
all_behind e p n (x ∷ es) h rest = (behind_behind e.print e.number x.print x.number p n h rest.0, all_behind e p n es h rest.1)

pub parted : (p n : ℕ) (es : List Entry) → EntriesRise es → IsParted (λ e. is_before e p n) es
parted p n [] h = tt
parted p n (e ∷ es) h = (λ fails. all_behind e p n es fails h.0, parted p n es h.1)

-- ---- an entry is put

pub put_is : (es : List Entry) (entry : Entry) → insert es (place_of es entry.print entry.number) entry ≡ put_entry es entry
put_is [] entry = refl
put_is (e ∷ es) entry =
    let n = place_of es entry.print entry.number in
    elim (is_before e entry.print entry.number) as (λ b. insert (e ∷ es) (cond b (1 + n) 0) entry ≡ cond b (e ∷ put_entry es entry) (entry ∷ e ∷ es)) [
      | true ↦ insert_behind e entry es n ∙ ap (λ xs. e ∷ xs) (put_is es entry)
      | false ↦ refl
    ]

behind_put : (e : Entry) (es : List Entry) (entry : Entry) → AreBehind e es → is_before entry e.print e.number ≡ false → AreBehind e (put_entry es entry)
behind_put e [] entry h here = (here, tt)
behind_put e (x ∷ es) entry h here =
    elim (is_before x entry.print entry.number) as (λ b. AreBehind e (cond b (x ∷ put_entry es entry) (entry ∷ x ∷ es))) [
      | true ↦ (h.0, behind_put e es entry h.1 here)
      | false ↦ (here, h)
    ]

pub rise_put : (es : List Entry) (entry : Entry) → EntriesRise es → EntriesRise (put_entry es entry)
rise_put [] entry h = (tt, tt)
rise_put (e ∷ es) entry h =
    elim (is_before e entry.print entry.number) as (λ b. is_before e entry.print entry.number ≡ b → EntriesRise (cond b (e ∷ put_entry es entry) (entry ∷ e ∷ es))) [
      | true ↦ λ first. (behind_put e es entry h.0 (before_not e.print e.number entry.print entry.number first), rise_put es entry h.1)
      | false ↦ λ later. ((later, all_behind e entry.print entry.number es later h.0), h)
    ] refl

-- ---- an entry is removed

remove_behind : {X : Type 0} (x : X) (xs : List X) (n : ℕ) → remove (x ∷ xs) (1 + n) ≡ x ∷ remove xs n
remove_behind x xs n = rw add_comm (rw add-one refl)

pub remove_is : (es : List Entry) (entry : Entry) → stands_in (slice_get es (place_of es entry.print entry.number)) entry ≡ true
    → remove es (place_of es entry.print entry.number) ≡ remove_entry es entry
remove_is [] entry h = refl
remove_is (e ∷ es) entry h =
    let n = place_of es entry.print entry.number in
    elim (is_before e entry.print entry.number) as (λ b. stands_in (slice_get (e ∷ es) (cond b (1 + n) 0)) entry ≡ true
    → remove (e ∷ es) (cond b (1 + n) 0) ≡ cond b (e ∷ remove_entry es entry) (cond (same_entry e entry) es (e ∷ es))) [
      | true ↦ λ there. remove_behind e es n ∙ ap (λ xs. e ∷ xs) (remove_is es entry (sym (ap (λ o. stands_in o entry) (get_behind e es n)) ∙ there))
      | false ↦ λ here. rw here refl
    ] h

pub remove_none : (es : List Entry) (entry : Entry) → stands_in (slice_get es (place_of es entry.print entry.number)) entry ≡ false → es ≡ remove_entry es entry
remove_none [] entry h = refl
remove_none (e ∷ es) entry h =
    let n = place_of es entry.print entry.number in
    elim (is_before e entry.print entry.number) as (λ b. stands_in (slice_get (e ∷ es) (cond b (1 + n) 0)) entry ≡ false
    → e ∷ es ≡ cond b (e ∷ remove_entry es entry) (cond (same_entry e entry) es (e ∷ es))) [
      | true ↦ λ there. ap (λ xs. e ∷ xs) (remove_none es entry (sym (ap (λ o. stands_in o entry) (get_behind e es n)) ∙ there))
      | false ↦ λ here. rw here refl
    ] h

behind_removed : (e : Entry) (es : List Entry) (entry : Entry) → AreBehind e es → AreBehind e (remove_entry es entry)
behind_removed e [] entry h = tt
behind_removed e (x ∷ es) entry h =
    elim (is_before x entry.print entry.number) as (λ b. AreBehind e (cond b (x ∷ remove_entry es entry) (cond (same_entry x entry) es (x ∷ es)))) [
      | true ↦ (h.0, behind_removed e es entry h.1)
      | false ↦ elim (same_entry x entry) as (λ b. AreBehind e (cond b es (x ∷ es))) [
        | true ↦ h.1
        | false ↦ h
      ]
    ]

pub rise_remove : (es : List Entry) (entry : Entry) → EntriesRise es → EntriesRise (remove_entry es entry)
rise_remove [] entry h = tt
rise_remove (e ∷ es) entry h =
    elim (is_before e entry.print entry.number) as (λ b. EntriesRise (cond b (e ∷ remove_entry es entry) (cond (same_entry e entry) es (e ∷ es)))) [
      | true ↦ (behind_removed e es entry h.0, rise_remove es entry h.1)
      | false ↦ elim (same_entry e entry) as (λ b. EntriesRise (cond b es (e ∷ es))) [
        | true ↦ h.1
        | false ↦ h
      ]
    ]
