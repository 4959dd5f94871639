use Rattle.std.proofs.Common.{◌≡◌, ℕ, None, ◌==◌, ◌-◌, ◌<◌, ◌||◌, List, length, Some, true, false, le_refl, ap, sym, subst, ◌∙◌, rules, arith}
use Rattle.std.proofs.lemmas.Grind.{common_steps}
use Rattle.toml_parser.specs.Lexical.{first, skip_blank}
use Rattle.toml.specs.Data.{no_items, array, table}
use Rattle.toml.specs.Tables.{no_nodes}
use Rattle.toml.specs.Parse.{val, after_element}
use Rattle.toml.proofs.Turns.{val_atom, val_open_array, val_open_table, val_deep}
use Rattle.configuration.proofs.SkipLaws.{ReadsItems, ReadsMembers, for_memory, items_turn, items_last, members_turn, members_last, skips_err, one_read, skips_map}
use Rattle.configuration.proofs.skip.+value.Goals as goal

pub skip_items-items-init : goal.skip_items-items-init
skip_items-items-init c c' = (search rules, le_refl _, λ n h read some. (n, h, record { found = no_items; is = some }))

pub skip_items-returns-then-first-eq93-clause-value : goal.skip_items-returns-then-first-eq93-clause-value
skip_items-returns-then-first-eq93-clause-value c c' n h read some =
    let l = c'.items in
    let start_is = c'.skip_blank-start.ensures.rest in
    let closing : (first (skip_blank l.rest.now) == 93) ≡ true = grind (arith, common_steps) in
    let (m, room, reads) = l.invariant.2 n h read some in
    rw (c'.skip.ensures.rest, start_is) (items_last (val c'.args.depth) m l.rest.now read (omega arith) closing reads)

pub skip_items-returns-in_err-after-clause-value : goal.skip_items-returns-in_err-after-clause-value
skip_items-returns-in_err-after-clause-value c c' n h read some =
    let l = c'.items in
    let start_is = c'.skip_blank-start.ensures.rest in
    let other : (first (skip_blank l.rest.now) == 93) ≡ false = grind (arith, common_steps) in
    let (m, room, reads) = l.invariant.2 n h read some in
    let turn = items_turn (val c'.args.depth) m l.rest.now read (omega arith) other reads in
    skips_err c'.from_residual.result c'.in_err-after.field-0.0 _ read.1 c'.from_residual.ensures.1 (λ y p. p)
    (c'.in_err-after.ensures.value turn.item (ap (val c'.args.depth) start_is ∙ turn.value))

pub skip_items-returns-in_err-rest-clause-value : goal.skip_items-returns-in_err-rest-clause-value
skip_items-returns-in_err-rest-clause-value c c' n h read some =
    let l = c'.items in
    let start_is = c'.skip_blank-start.ensures.rest in
    let other : (first (skip_blank l.rest.now) == 93) ≡ false = grind (arith, common_steps) in
    let (m, room, reads) = l.invariant.2 n h read some in
    let turn = items_turn (val c'.args.depth) m l.rest.now read (omega arith) other reads in
    let same = c'.in_ok-after.ensures.value turn.item (ap (val c'.args.depth) start_is ∙ turn.value) in
    skips_err c'.from_residual-in_err-rest.result c'.in_err-rest.field-0.0 _ read.1 c'.from_residual-in_err-rest.ensures.1 (λ y p. p)
    (for_memory c'.in_err-rest.field-0.0 (after_element 93 c'.in_ok-after.after.now) turn.next c'.in_err-rest.ensures.value (ap (after_element 93) same ∙ turn.element))

pub skip_items-items-preserved : goal.skip_items-items-preserved
skip_items-items-preserved c c' =
    let l = c'.items in
    let start_is = c'.skip_blank-start.ensures.rest in
    let other : (first (skip_blank l.rest.now) == 93) ≡ false = grind (arith, common_steps) in
    let shorter = c'.in_ok-after.ensures.shorter in
    let within = c'.in_ok-rest.ensures.within in
    let before = c'.skip_blank-start.ensures.within in (
      search rules,
      omega (arith, l.invariant.1),
      λ n h read some.
          let (m, room, reads) = l.invariant.2 n h read some in
          let turn = items_turn (val c'.args.depth) m l.rest.now read (omega arith) other reads in
          let same = c'.in_ok-after.ensures.value turn.item (ap (val c'.args.depth) start_is ∙ turn.value) in
          let next = one_read (after_element 93 c'.in_ok-after.after.now) turn.next c'.in_ok-rest.rest.now (ap (after_element 93) same ∙ turn.element) c'.in_ok-rest.ensures.value in
          (m - 1, omega arith, subst (λ (t : List ℕ). ReadsItems (val c'.args.depth) (m - 1) t read) next turn.more),
    )

pub skip_members-members-init : goal.skip_members-members-init
skip_members-members-init c c' = (search rules, le_refl _, λ n h read some. (n, h, record { found = no_nodes; is = some }))

pub skip_members-returns-then-first-eq125-clause-value : goal.skip_members-returns-then-first-eq125-clause-value
skip_members-returns-then-first-eq125-clause-value c c' n h read some =
    let l = c'.members in
    let start_is = c'.skip_blank-start.ensures.rest in
    let closing : (first (skip_blank l.rest.now) == 125) ≡ true = grind (arith, common_steps) in
    let (m, room, reads) = l.invariant.2 n h read some in
    rw (c'.skip.ensures.rest, start_is) (members_last (val c'.args.depth) m l.rest.now read (omega arith) closing reads)

pub skip_members-returns-in_err-_key-clause-value : goal.skip_members-returns-in_err-_key-clause-value
skip_members-returns-in_err-_key-clause-value c c' n h read some =
    let l = c'.members in
    let start_is = c'.skip_blank-start.ensures.rest in
    let other : (first (skip_blank l.rest.now) == 125) ≡ false = grind (arith, common_steps) in
    let (m, room, reads) = l.invariant.2 n h read some in
    let turn = members_turn (val c'.args.depth) m l.rest.now read (omega arith) other reads in
    skips_err c'.from_residual.result c'.in_err-_key.field-0.0 _ read.1 c'.from_residual.ensures.1 (λ y p. p)
    (for_memory c'.in_err-_key.field-0.0 _ turn.key c'.in_err-_key.ensures.value (rw start_is turn.key_is))

pub skip_members-returns-in_err-after-clause-value : goal.skip_members-returns-in_err-after-clause-value
skip_members-returns-in_err-after-clause-value c c' n h read some =
    let l = c'.members in
    let start_is = c'.skip_blank-start.ensures.rest in
    let other : (first (skip_blank l.rest.now) == 125) ≡ false = grind (arith, common_steps) in
    let (m, room, reads) = l.invariant.2 n h read some in
    let turn = members_turn (val c'.args.depth) m l.rest.now read (omega arith) other reads in
    let key = one_read _ _ _ (rw start_is at c'.in_ok-_key.ensures.value) turn.key_is in
    skips_err c'.from_residual-in_err-after.result c'.in_err-after.field-0.0 _ read.1 c'.from_residual-in_err-after.ensures.1 (λ y p. p)
    (c'.in_err-after.ensures.value turn.item (ap (λ k. val c'.args.depth k.1) key ∙ turn.value))

pub skip_members-returns-in_err-rest-clause-value : goal.skip_members-returns-in_err-rest-clause-value
skip_members-returns-in_err-rest-clause-value c c' n h read some =
    let l = c'.members in
    let start_is = c'.skip_blank-start.ensures.rest in
    let other : (first (skip_blank l.rest.now) == 125) ≡ false = grind (arith, common_steps) in
    let (m, room, reads) = l.invariant.2 n h read some in
    let turn = members_turn (val c'.args.depth) m l.rest.now read (omega arith) other reads in
    let key = one_read _ _ _ (rw start_is at c'.in_ok-_key.ensures.value) turn.key_is in
    let same = c'.in_ok-after.ensures.value turn.item (ap (λ k. val c'.args.depth k.1) key ∙ turn.value) in
    skips_err c'.from_residual-in_err-rest.result c'.in_err-rest.field-0.0 _ read.1 c'.from_residual-in_err-rest.ensures.1 (λ y p. p)
    (for_memory c'.in_err-rest.field-0.0 (after_element 125 c'.in_ok-after.after.now) turn.next c'.in_err-rest.ensures.value (ap (after_element 125) same ∙ turn.element))

pub skip_members-members-preserved : goal.skip_members-members-preserved
skip_members-members-preserved c c' =
    let l = c'.members in
    let start_is = c'.skip_blank-start.ensures.rest in
    let other : (first (skip_blank l.rest.now) == 125) ≡ false = grind (arith, common_steps) in
    let shorter = c'.in_ok-_key.ensures.shorter in
    let shorter_again = c'.in_ok-after.ensures.shorter in
    let within = c'.in_ok-rest.ensures.within in
    let before = c'.skip_blank-start.ensures.within in (
      search rules,
      omega (arith, l.invariant.1),
      λ n h read some.
          let (m, room, reads) = l.invariant.2 n h read some in
          let turn = members_turn (val c'.args.depth) m l.rest.now read (omega arith) other reads in
          let key = one_read _ _ _ (rw start_is at c'.in_ok-_key.ensures.value) turn.key_is in
          let same = c'.in_ok-after.ensures.value turn.item (ap (λ k. val c'.args.depth k.1) key ∙ turn.value) in
          let next = one_read (after_element 125 c'.in_ok-after.after.now) turn.next c'.in_ok-rest.rest.now (ap (after_element 125) same ∙ turn.element) c'.in_ok-rest.ensures.value in
          (m - 1, omega arith, subst (λ (t : List ℕ). ReadsMembers (val c'.args.depth) (m - 1) t read) next turn.more),
    )

pub skip_value-returns-then-byte-ne123-clause-value : goal.skip_value-returns-then-byte-ne123-clause-value
skip_value-returns-then-byte-ne123-clause-value c c' =
    let s = c'.args.s.now in
    let a : (first s == 91) ≡ false = grind (arith, common_steps) in
    let b : (first s == 123) ≡ false = grind (arith, common_steps) in
    rw (val_atom c'.args.depth s a b) c'.skip_atom.ensures.value

pub skip_value-returns-then-depth-eq0-clause-value : goal.skip_value-returns-then-depth-eq0-clause-value
skip_value-returns-then-depth-eq0-clause-value c c' read some =
    let s = c'.args.s.now in
    let bracket : ((first s == 91) || (first s == 123)) ≡ true = grind (arith, common_steps) in
    let zero : c'.args.depth ≡ 0 = omega arith in
    let none : None ≡ Some read = sym (val_deep s bracket) ∙ ap (λ (n : ℕ). val n s) (sym zero) ∙ some in
    absurd cc

pub skip_value-returns-then-byte-eq91-clause-value : goal.skip_value-returns-then-byte-eq91-clause-value
skip_value-returns-then-byte-eq91-clause-value c c' read some =
    let s = c'.args.s.now in
    let deep : 0 < c'.args.depth = omega arith in
    let a : (first s == 91) ≡ true = grind (arith, common_steps) in
    let skips = rw c'.skip.ensures.rest at (c'.skip_items.ensures.value (length s) c'.skip.ensures.shorter) in
    skips_map array _ _ skips read (sym (val_open_array c'.args.depth s deep a) ∙ some)

pub skip_value-returns-else-byte-eq91-clause-value : goal.skip_value-returns-else-byte-eq91-clause-value
skip_value-returns-else-byte-eq91-clause-value c c' read some =
    let s = c'.args.s.now in
    let deep : 0 < c'.args.depth = omega arith in
    let a : (first s == 91) ≡ false = grind (arith, common_steps) in
    let b : (first s == 123) ≡ true = grind (arith, common_steps) in
    let skips = rw c'.skip-else-byte-eq91.ensures.rest at (c'.skip_members.ensures.value (length s) c'.skip-else-byte-eq91.ensures.shorter) in
    skips_map table _ _ skips read (sym (val_open_table c'.args.depth s deep a b) ∙ some)
