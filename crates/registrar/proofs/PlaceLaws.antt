-- What is found by the index of names, and the index after a change.
use Rattle.std.proofs.Common.{◌≡◌, ℕ, ◌+◌, ◌<◌, true, false, cond, eqb, List, [], ◌∷◌, length, map, drop, get_or, set, Option, Some, None, option_map, unwrap_or, find, position, slice_get, IfSome, refl, sym, ap, ◌∙◌, arith}
use Prim.Native.Nat.{suc}
use Rattle.std.specs.Cmp.Lexicographic.{bytes_decides}
use Rattle.std.proofs.lemmas.Bool.{eq-eqb, eqb-true, eqb-false, ne_eqb}
use Rattle.std.proofs.lemmas.List.Quantifiers.{position-Some}
use Rattle.std.proofs.lemmas.Option.{slice_get-get_or}
use Rattle.std.proofs.Math.Seq.{drop-cons}
use Rattle.index.specs.declared.index.Entry.{Entry}
use Rattle.index.specs.Entries.{numbers_of}
use Rattle.index.specs.Numbers.{put_number}
use Rattle.registrar.specs.declared.binding.Binding.{Binding}
use Rattle.registrar.specs.declared.user_bindings.UserBindings.{UserBindings}
use Rattle.registrar.specs.Registrar.{is_for, bindings_of, with_bindings}
use Rattle.index.specs.declared.print.PrintKey.{PrintKey}
use Rattle.index.specs.PrintKeys.{print_of}
use Rattle.registrar.specs.Entries.{has_print, places_of, IsIndexed, is_at}
use Rattle.index.proofs.NumberLaws as numbers

-- ---- the index

-- one entry more, before those that are under their prints
pub places_more : (key : PrintKey) (es : List UserBindings) (left i print : ℕ) (d : UserBindings) (names after : List Entry) → left ≡ suc i → i < length es → print ≡ print_of key (get_or es i d).user
    → ((p : ℕ) → numbers_of names p ≡ places_of key p left (drop left es))
    → ((p : ℕ) → numbers_of after p ≡ cond (eqb p print) (put_number (numbers_of names print) i) (numbers_of names p))
    → (p : ℕ) → numbers_of after p ≡ places_of key p i (drop i es)
places_more key es left i print d names after next less is before put p =
    let rest = drop (suc i) es in
    let others : (q : ℕ) → numbers_of names q ≡ places_of key q (1 + i) rest = λ q. before q ∙ ap (λ l. places_of key q l (drop l es)) next ∙ ap (λ n. places_of key q n rest) (omega arith) in
    put p ∙ (elim (eqb p print) as (λ b. eqb p print ≡ b → cond b (put_number (numbers_of names print) i) (numbers_of names p) ≡ places_of key p i (get_or es i d ∷ rest)) [
      | true ↦ λ e.
          let here : p ≡ print = eqb-true p print e in
          let has : has_print key p (get_or es i d) ≡ true = eq-eqb (print_of key (get_or es i d).user) p (sym is ∙ sym here) in
          rw has (ap (λ ns. put_number ns i) (ap (numbers_of names) (sym here) ∙ others p) ∙ numbers.put_lower (has_print key p) rest i (1 + i) (omega arith))
      | false ↦ λ e.
          let has : has_print key p (get_or es i d) ≡ false = ne_eqb (print_of key (get_or es i d).user) p (λ same. eqb-false p print e (sym same ∙ sym is)) in
          rw has (others p)
    ]) refl ∙ ap (λ l. places_of key p i l) (sym (drop-cons es i d less))

-- ---- what is found

-- equal names have equal prints, so the print decides nothing
has_own : (key : PrintKey) (user : List ℕ) (e : UserBindings) → is_for user e ≡ true → has_print key (print_of key user) e ≡ true
has_own key user e is = eq-eqb (print_of key e.user) (print_of key user) (ap (print_of key) ((bytes_decides e.user user).0 is))

abbrev nobody : UserBindings
nobody = record { user = []; bindings = [] }

-- who has the print of the name is the first of all
pub first_found : (key : PrintKey) (user : List ℕ) (es : List UserBindings) (ns : List Entry) → map (λ n. n.number) ns ≡ places_of key (print_of key user) 0 es
    → option_map (λ n. n.number) (find (λ n. is_at user (slice_get es n.number)) ns) ≡ position (is_for user) es
first_found key user es ns is =
    numbers.first_found (has_print key (print_of key user)) (is_for user) (λ n. is_at user (slice_get es n)) (has_own key user) nobody es ns (λ i less. ap (is_at user) (slice_get-get_or es i nobody less)) is

-- ---- a place that was found

pub place_within : (user : List ℕ) (es : List UserBindings) (place : Option ℕ) → place ≡ position (is_for user) es → IfSome place (λ i. i < length es)
place_within user es None is = tt
place_within user es (Some i) is = (position-Some (is_for user) es i nobody (sym is)).0

pub bindings_at_place : (user : List ℕ) (es : List UserBindings) (i : ℕ) (d : UserBindings) → position (is_for user) es ≡ Some i → (get_or es i d).bindings ≡ bindings_of es user
bindings_at_place user es i d is = ap (λ o. unwrap_or (option_map (λ e. e.bindings) o) []) (sym (numbers.find_placed (is_for user) es i d is))

pub no_bindings : (user : List ℕ) (es : List UserBindings) → position (is_for user) es ≡ None → [] ≡ bindings_of es user
no_bindings user es is = ap (λ o. unwrap_or (option_map (λ e. e.bindings) o) []) (sym (numbers.find_none (is_for user) es is))

-- ---- new bindings at a place

-- the index stays, since the name at the place stays
pub still_indexed : (key : PrintKey) (es : List UserBindings) (names : List Entry) (i : ℕ) (bs : List Binding) (d : UserBindings) → IsIndexed key es names → IsIndexed key (set es i (with_bindings bs (get_or es i d))) names
still_indexed key es names i bs d is = λ print. is print ∙ sym (numbers.set_same (has_print key print) es i 0 (with_bindings bs (get_or es i d)) d refl)
