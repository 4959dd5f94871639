-- The numbers of a print.
use Rattle.std.proofs.Common.{◌≡◌, ℕ, ◌+◌, ◌<◌, true, false, ◌&&◌, cond, ltb, eqb, List, [], ◌∷◌, map, length, take, drop, inl, inr, refl, sym, ap, subst, ◌∙◌, true≢false, arith, add-one, add_comm}
use Prim.Native.Nat.{suc}
use Rattle.std.specs.List.{AllByRecursion, prefix_len, slice_get}
use Rattle.std.proofs.lemmas.Bool.{lt-ltb, le-ltb, ltb-false, eqb-true, eqb-false, eq-eqb, ne_eqb, and_parts}
use Rattle.timers.proofs.Halving.{AllFail, IsParted}
use Rattle.timers.proofs.ByMoment.{get_behind}
use Rattle.index.specs.declared.index.Entry.{Entry}
use Rattle.index.specs.Entries.{is_before, EntriesRise, place_of, of_print, numbers_of, put_entry, same_entry, stands_in, remove_entry}
use Rattle.index.specs.Numbers.{put_number, remove_number}
use Rattle.index.proofs.Order.{was_before, was_behind}

abbrev pub NotBelow : ℕ → List Entry → Type 0
NotBelow p es = AllByRecursion (λ e. ltb e.print p ≡ false) es

not_below_behind : (e : Entry) (p : ℕ) (es : List Entry) → ltb e.print p ≡ false → AllByRecursion (λ other. is_before other e.print e.number ≡ false) es → NotBelow p es
not_below_behind e p [] h rest = tt
not_below_behind e p (x ∷ es) h rest =
    let behind = was_behind x.print x.number e.print e.number rest.0 in (
      le-ltb x.print p (elim behind [
        | inl more ↦ (let at_least = ltb-false e.print p h in omega arith)
        | inr same ↦ (let at_least = ltb-false e.print p h in omega (arith, same.0))
      ]),
      not_below_behind e p es h rest.1,
    )

-- what is dropped in front of the place of a print and 0 is below it, and what is left is not
drop_behind : {X : Type 0} (x : X) (xs : List X) (n : ℕ) → drop (1 + n) (x ∷ xs) ≡ drop n xs
drop_behind x xs n = rw add_comm (rw add-one refl)

pub rest_rises : (es : List Entry) (p n : ℕ) → EntriesRise es → EntriesRise (drop (place_of es p n) es)
rest_rises [] p n h = tt
rest_rises (e ∷ es) p n h =
    let k = place_of es p n in
    elim (is_before e p n) as (λ b. EntriesRise (drop (cond b (1 + k) 0) (e ∷ es))) [
      | true ↦ subst EntriesRise (sym (drop_behind e es k)) (rest_rises es p n h.1)
      | false ↦ h
    ]

not_below : (e : Entry) (p : ℕ) → is_before e p 0 ≡ false → ltb e.print p ≡ false
not_below e p h =
    le-ltb e.print p (elim (was_behind e.print e.number p 0 h) [
      | inl more ↦ omega arith
      | inr same ↦ omega (arith, same.0)
    ])

pub rest_not_below : (es : List Entry) (p : ℕ) → EntriesRise es → NotBelow p (drop (place_of es p 0) es)
rest_not_below [] p h = tt
rest_not_below (e ∷ es) p h =
    let k = place_of es p 0 in
    elim (is_before e p 0) as (λ b. is_before e p 0 ≡ b → NotBelow p (drop (cond b (1 + k) 0) (e ∷ es))) [
      | true ↦ λ _. subst (NotBelow p) (sym (drop_behind e es k)) (rest_not_below es p h.1)
      | false ↦ λ here. let low = not_below e p here in (low, not_below_behind e p es low h.0)
    ] refl

other_print : (e : Entry) (p : ℕ) → is_before e p 0 ≡ true → eqb e.print p ≡ false
other_print e p h =
    ne_eqb e.print p (λ same. elim (was_before e.print e.number p 0 h) [
      | inl less ↦ omega (arith, same)
      | inr none ↦ omega (arith, none.1)
    ])

pub rest_of_print : (es : List Entry) (p : ℕ) → of_print (drop (place_of es p 0) es) p ≡ of_print es p
rest_of_print [] p = refl
rest_of_print (e ∷ es) p =
    let k = place_of es p 0 in
    elim (is_before e p 0) as (λ b. is_before e p 0 ≡ b → of_print (drop (cond b (1 + k) 0) (e ∷ es)) p ≡ of_print (e ∷ es) p) [
      | true ↦ λ first. rw (drop_behind e es k, other_print e p first) (rest_of_print es p)
      | false ↦ λ _. refl
    ] refl

-- ---- the run of a print

none_at_all : (e : Entry) (p : ℕ) (es : List Entry) → p < e.print → AllByRecursion (λ other. is_before other e.print e.number ≡ false) es
    → AllFail (λ x. eqb x.print p) es × (of_print es p ≡ [])
none_at_all e p [] less h = (tt, refl)
none_at_all e p (x ∷ es) less h =
    let other : eqb x.print p ≡ false =
    ne_eqb x.print p (λ same. elim (was_behind x.print x.number e.print e.number h.0) [
      | inl more ↦ omega (arith, same)
      | inr here ↦ omega (arith, same, here.0)
    ]) in
    let rest = none_at_all e p es less h.1 in
    ((other, rest.0), rw other rest.1)

above : (e : Entry) (p : ℕ) → ltb e.print p ≡ false → eqb e.print p ≡ false → p < e.print
above e p low other =
    let at_least = ltb-false e.print p low in
    let ne = eqb-false e.print p other in
    omega arith

pub run_parted : (p : ℕ) (es : List Entry) → EntriesRise es → NotBelow p es → IsParted (λ e. eqb e.print p) es
run_parted p [] h low = tt
run_parted p (e ∷ es) h low = (λ fails. (none_at_all e p es (above e p low.0 fails) h.0).0, run_parted p es h.1 low.1)

take_behind : {X : Type 0} (x : X) (xs : List X) (n : ℕ) → take (1 + n) (x ∷ xs) ≡ x ∷ take n xs
take_behind x xs n = rw add_comm (rw add-one refl)

pub run_is : (p : ℕ) (es : List Entry) → EntriesRise es → NotBelow p es → take (prefix_len (λ e. eqb e.print p) es) es ≡ of_print es p
run_is p [] h low = refl
run_is p (e ∷ es) h low =
    let k = prefix_len (λ x. eqb x.print p) es in
    elim (eqb e.print p) as (λ b. eqb e.print p ≡ b → take (cond b (1 + k) 0) (e ∷ es) ≡ cond b (e ∷ of_print es p) (of_print es p)) [
      | true ↦ λ _. take_behind e es k ∙ ap (λ xs. e ∷ xs) (run_is p es h.1 low.1)
      | false ↦ λ other. sym (none_at_all e p es (above e p low.0 other) h.0).1
    ] refl

-- ---- a number is put

-- the first of the numbers of a print in a list whose first entry does not come before that print and number
leads : (e : Entry) (es : List Entry) (p n : ℕ) → EntriesRise (e ∷ es) → is_before e p n ≡ false
    → n ∷ numbers_of (e ∷ es) p ≡ put_number (numbers_of (e ∷ es) p) n
leads e es p n h later =
    elim (was_behind e.print e.number p n later) [
      | inl more ↦
          (let none = (none_at_all e p es more h.0).1 in
          let other : eqb e.print p ≡ false = ne_eqb e.print p (λ same. omega (arith, same)) in
          rw (other, none) refl)
      | inr same ↦ rw (eq-eqb e.print p same.0, le-ltb e.number n same.1) refl
    ]

put_same : (es : List Entry) (entry : Entry) → EntriesRise es → numbers_of (put_entry es entry) entry.print ≡ put_number (numbers_of es entry.print) entry.number
put_same [] entry h = rw (eq-eqb entry.print entry.print refl) refl
put_same (e ∷ es) entry h =
    let p = entry.print in
    let n = entry.number in
    elim (is_before e p n) as (λ b. is_before e p n ≡ b → numbers_of (cond b (e ∷ put_entry es entry) (entry ∷ e ∷ es)) p ≡ put_number (numbers_of (e ∷ es) p) n) [
      | true ↦ λ first. elim (was_before e.print e.number p n first) [
        | inl less ↦
            (let other : eqb e.print p ≡ false = ne_eqb e.print p (λ same. omega (arith, same)) in
            rw other (put_same es entry h.1))
        | inr same ↦ rw (eq-eqb e.print p same.0, lt-ltb e.number n same.1) (ap (λ ns. e.number ∷ ns) (put_same es entry h.1))
      ]
      | false ↦ λ later. rw (eq-eqb p p refl) (leads e es p n h later)
    ] refl

put_other : (es : List Entry) (entry : Entry) (q : ℕ) → eqb entry.print q ≡ false → numbers_of (put_entry es entry) q ≡ numbers_of es q
put_other [] entry q other = rw other refl
put_other (e ∷ es) entry q other =
    elim (is_before e entry.print entry.number) as (λ b. numbers_of (cond b (e ∷ put_entry es entry) (entry ∷ e ∷ es)) q ≡ numbers_of (e ∷ es) q) [
      | true ↦ elim (eqb e.print q) as (λ b. map (λ x. x.number) (cond b (e ∷ of_print (put_entry es entry) q) (of_print (put_entry es entry) q)) ≡ map (λ x. x.number) (cond b (e ∷ of_print es q) (of_print es q))) [
        | true ↦ ap (λ ns. e.number ∷ ns) (put_other es entry q other)
        | false ↦ put_other es entry q other
      ]
      | false ↦ rw other refl
    ]

pub put_numbers : (es : List Entry) (entry : Entry) (q : ℕ) → EntriesRise es
    → numbers_of (put_entry es entry) q ≡ cond (eqb q entry.print) (put_number (numbers_of es entry.print) entry.number) (numbers_of es q)
put_numbers es entry q h =
    elim (eqb q entry.print) as (λ b. eqb q entry.print ≡ b → numbers_of (put_entry es entry) q ≡ cond b (put_number (numbers_of es entry.print) entry.number) (numbers_of es q)) [
      | true ↦ λ e. rw (eqb-true q entry.print e) (put_same es entry h)
      | false ↦ λ e. put_other es entry q (ne_eqb entry.print q (λ same. eqb-false q entry.print e (sym same)))
    ] refl

-- ---- a number is removed

-- after an entry of the print with a greater number, or of a greater print, the number is not there
absent_behind : (e : Entry) (es : List Entry) (p n : ℕ) → e.print ≡ p → n < e.number → AllByRecursion (λ other. is_before other e.print e.number ≡ false) es → EntriesRise es
    → remove_number (numbers_of es p) n ≡ numbers_of es p
absent_behind e [] p n same less h rise = refl
absent_behind e (x ∷ es) p n same less h rise =
    elim (was_behind x.print x.number e.print e.number h.0) [
      | inl more ↦
          (let above_it : p < x.print = omega (arith, same) in
          let none = (none_at_all x p es above_it rise.0).1 in
          let other : eqb x.print p ≡ false = ne_eqb x.print p (λ e. omega (arith, e)) in
          rw (other, none) refl)
      | inr here ↦
          (let other : eqb x.number n ≡ false = ne_eqb x.number n (λ e. omega (arith, e, here.1)) in
          rw (eq-eqb x.print p (here.0 ∙ same), other) (ap (λ ns. x.number ∷ ns) (absent_behind e es p n same less h.1 rise.1)))
    ]

absent : (e : Entry) (es : List Entry) (entry : Entry) → EntriesRise (e ∷ es) → is_before e entry.print entry.number ≡ false → same_entry e entry ≡ false
    → numbers_of (e ∷ es) entry.print ≡ remove_number (numbers_of (e ∷ es) entry.print) entry.number
absent e es entry h later differs =
    let p = entry.print in
    let n = entry.number in
    elim (was_behind e.print e.number p n later) [
      | inl more ↦
          (let none = (none_at_all e p es more h.0).1 in
          let other : eqb e.print p ≡ false = ne_eqb e.print p (λ same. omega (arith, same)) in
          rw (other, none) refl)
      | inr same ↦
          (let apart : eqb e.number n ≡ false = sym (ap (λ b. b && eqb e.number n) (eq-eqb e.print p same.0)) ∙ differs in
          let ne = eqb-false e.number n apart in
          let less : n < e.number = (let le = same.1 in omega (arith, ne, le)) in
          rw (eq-eqb e.print p same.0, apart) (ap (λ ns. e.number ∷ ns) (sym (absent_behind e es p n same.0 less h.0 h.1))))
    ]

remove_same : (es : List Entry) (entry : Entry) → EntriesRise es → numbers_of (remove_entry es entry) entry.print ≡ remove_number (numbers_of es entry.print) entry.number
remove_same [] entry h = refl
remove_same (e ∷ es) entry h =
    let p = entry.print in
    let n = entry.number in
    elim (is_before e p n) as (λ b. is_before e p n ≡ b → numbers_of (cond b (e ∷ remove_entry es entry) (cond (same_entry e entry) es (e ∷ es))) p ≡ remove_number (numbers_of (e ∷ es) p) n) [
      | true ↦ λ first. elim (was_before e.print e.number p n first) [
        | inl less ↦
            (let other : eqb e.print p ≡ false = ne_eqb e.print p (λ same. omega (arith, same)) in
            rw other (remove_same es entry h.1))
        | inr same ↦
            (let other : eqb e.number n ≡ false = ne_eqb e.number n (λ e. (let lt = same.1 in omega (arith, e, lt))) in
            rw (eq-eqb e.print p same.0, other) (ap (λ ns. e.number ∷ ns) (remove_same es entry h.1)))
      ]
      | false ↦ λ later. elim (same_entry e entry) as (λ b. same_entry e entry ≡ b → numbers_of (cond b es (e ∷ es)) p ≡ remove_number (numbers_of (e ∷ es) p) n) [
        | true ↦ λ is. (let both = and_parts (eqb e.print p) (eqb e.number n) is in rw (both.0, both.1) refl)
        | false ↦ λ differs. absent e es entry h later differs
      ] refl
    ] refl

remove_other : (es : List Entry) (entry : Entry) (q : ℕ) → eqb entry.print q ≡ false → numbers_of (remove_entry es entry) q ≡ numbers_of es q
remove_other [] entry q other = refl
remove_other (e ∷ es) entry q other =
    elim (is_before e entry.print entry.number) as (λ b. numbers_of (cond b (e ∷ remove_entry es entry) (cond (same_entry e entry) es (e ∷ es))) q ≡ numbers_of (e ∷ es) q) [
      | true ↦ elim (eqb e.print q) as (λ b. map (λ x. x.number) (cond b (e ∷ of_print (remove_entry es entry) q) (of_print (remove_entry es entry) q)) ≡ map (λ x. x.number) (cond b (e ∷ of_print es q) (of_print es q))) [
        | true ↦ ap (λ ns. e.number ∷ ns) (remove_other es entry q other)
        | false ↦ remove_other es entry q other
      ]
      | false ↦ elim (same_entry e entry) as (λ b. same_entry e entry ≡ b → numbers_of (cond b es (e ∷ es)) q ≡ numbers_of (e ∷ es) q) [
        | true ↦ λ is.
            (let both = and_parts (eqb e.print entry.print) (eqb e.number entry.number) is in
            let apart : eqb e.print q ≡ false = rw (eqb-true e.print entry.print both.0) other in
            rw apart refl)
        | false ↦ λ _. refl
      ] refl
    ]

pub remove_numbers : (es : List Entry) (entry : Entry) (q : ℕ) → EntriesRise es
    → numbers_of (remove_entry es entry) q ≡ cond (eqb q entry.print) (remove_number (numbers_of es entry.print) entry.number) (numbers_of es q)
remove_numbers es entry q h =
    elim (eqb q entry.print) as (λ b. eqb q entry.print ≡ b → numbers_of (remove_entry es entry) q ≡ cond b (remove_number (numbers_of es entry.print) entry.number) (numbers_of es q)) [
      | true ↦ λ e. rw (eqb-true q entry.print e) (remove_same es entry h)
      | false ↦ λ e. remove_other es entry q (ne_eqb entry.print q (λ same. eqb-false q entry.print e (sym same)))
    ] refl

-- without what was at its place there is one number less
pub one_less : (es : List Entry) (entry : Entry) → stands_in (slice_get es (place_of es entry.print entry.number)) entry ≡ true
    → length (numbers_of es entry.print) ≡ suc (length (numbers_of (remove_entry es entry) entry.print))
one_less [] entry h = absurd (true≢false (sym h))
one_less (e ∷ es) entry h =
    let p = entry.print in
    let k = place_of es p entry.number in
    elim (is_before e p entry.number) as (λ b. stands_in (slice_get (e ∷ es) (cond b (1 + k) 0)) entry ≡ true
    → length (numbers_of (e ∷ es) p) ≡ suc (length (numbers_of (cond b (e ∷ remove_entry es entry) (cond (same_entry e entry) es (e ∷ es))) p))) [
      | true ↦ λ there.
          (let rest = one_less es entry (sym (ap (λ o. stands_in o entry) (get_behind e es k)) ∙ there) in
          elim (eqb e.print p) as (λ b. length (map (λ x. x.number) (cond b (e ∷ of_print es p) (of_print es p))) ≡ suc (length (map (λ x. x.number) (cond b (e ∷ of_print (remove_entry es entry) p) (of_print (remove_entry es entry) p))))) [
            | true ↦ ap suc rest
            | false ↦ rest
          ])
      | false ↦ λ here. (let both = and_parts (eqb e.print p) (eqb e.number entry.number) here in rw (here, both.0) refl)
    ] h
