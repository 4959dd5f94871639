use Rattle.std.proofs.Common.{◌≡◌, ◌||◌, Bool, List, length, Option, Some, refl, sym, ap, ◌∙◌, le_refl, option_map, rules, arith}
use Rattle.std.proofs.lemmas.Grind.{common_steps}
use Rattle.toml_parser.specs.Lexical.{skip_blank}
use Rattle.toml_parser.specs.Reading.{key_view}
use Rattle.toml.specs.Parse.{line}
use Rattle.configuration.specs.Entries.{Entry}
use Rattle.configuration.proofs.EntryLaws.{next_of, ended, same_test, left_at, entry_err}
use Rattle.configuration.proofs.entries.first_top.Goals as goal
use Rattle.configuration.proofs.entries.first_top.Goals.{then-under_header, else-under_header}

pub entries-init : goal.entries-init
entries-init c = (search rules, le_refl _, λ es are. record { entries = es; are = are; same = refl })

pub returns-then-is_empty-clause-found : goal.returns-then-is_empty-clause-found
returns-then-is_empty-clause-found c es are =
    let l = c.entries in
    let start_is = c.skip_blank-start.ensures.rest in
    let none : length (skip_blank l.rest.now) ≡ 0 = grind (arith, common_steps) in
    ap (λ (o : Option Entry). option_map (λ e. e.from) o) (ended _ _ _ _ (l.invariant.2 es are) none)

pub returns-in_err-name-clause-found : goal.returns-in_err-name-clause-found
returns-in_err-name-clause-found c es are =
    let l = c.entries in
    let start_is = c.skip_blank-start.ensures.rest in
    let some : length (skip_blank l.rest.now) ≡ 0 → ⊥ = λ none. absurd (grind (arith, common_steps)) in
    let next = next_of _ _ _ _ (l.invariant.2 es are) some in
    entry_err c.from_residual.result c.in_err-name.field-0.0 _ _ c.from_residual.ensures.1 (λ y p. p)
    (c.in_err-name.ensures.value _ (ap line start_is ∙ next.read))

pub returns-then-is_of-clause-found : goal.returns-then-is_of-clause-found
returns-then-is_of-clause-found c es are =
    let l = c.entries in
    let start_is = c.skip_blank-start.ensures.rest in
    let some : length (skip_blank l.rest.now) ≡ 0 → ⊥ = λ none. absurd (grind (arith, common_steps)) in
    let next = next_of _ _ _ _ (l.invariant.2 es are) some in
    let is = c.in_ok-name.ensures.value _ (ap line start_is ∙ next.read) in
    let test = same_test l.under_header c.in_ok-name.is_header (key_view c.in_ok-name.name) c.args.key.now next.entry is.0 is.1 in
    let here = next.here (sym test ∙ sym c.is_of.ensures ∙ c.if-is_of.true) in
    ap (λ (t : List _). Some t) (start_is ∙ sym next.from) ∙ ap (λ (o : Option Entry). option_map (λ e. e.from) o) here

pub entries-preserved : goal.entries-preserved
entries-preserved c =
    let l = c.entries in
    let start_is = c.skip_blank-start.ensures.rest in
    let shorter = c.in_ok-name.ensures.shorter in
    let before = c.skip_blank-start.ensures.within in
    let header = c.in_ok-name.is_header in
    let under : c.if-under_header.under_header ≡ (l.under_header || header) = elim c.if-under_header.branch [
      | then-under_header w ↦ w.under_header-is ∙ w.if-under_header.true ∙ sym (ap (λ (b : Bool). b || header) w.if-under_header.true)
      | else-under_header w ↦ w.under_header-is ∙ sym (ap (λ (b : Bool). b || header) w.if-under_header.false)
    ] in (
      search rules,
      omega (arith, l.invariant.1),
      λ es are.
          let some : length (skip_blank l.rest.now) ≡ 0 → ⊥ = λ none. absurd (grind (arith, common_steps)) in
          let next = next_of _ _ _ _ (l.invariant.2 es are) some in
          let is = c.in_ok-name.ensures.value _ (ap line start_is ∙ next.read) in
          let test = same_test l.under_header c.in_ok-name.is_header (key_view c.in_ok-name.name) c.args.key.now next.entry is.0 is.1 in
          let on = next.on (sym test ∙ sym c.is_of.ensures ∙ c.if-is_of.false) in
          left_at l.under_header c.if-under_header.under_header c.in_ok-name.is_header c.in_ok-name.behind.now next.entry on is.2 is.1 under,
    )
