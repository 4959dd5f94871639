use Rattle.std.proofs.Common.{◌≡◌, ◌==◌, ℕ, List, true, false, slice_index, ap, ◌∙◌, arith}
use Rattle.std.proofs.lemmas.Grind.{common_steps}
use Rattle.toml_parser.specs.Lexical.{first}
use Rattle.toml_parser.specs.Strings.{Key, recursion_limit}
use Rattle.toml.specs.Parse.{after_byte, key_equals, header_key, val}
use Rattle.configuration.proofs.SkipLaws.{for_memory, one_read}
use Rattle.configuration.proofs.EntryLaws.{line_of_pair, line_of_table, line_of_array, closed, unclosed, entry_err}
use Rattle.configuration.proofs.entries.read_entry.Goals as goal

pub returns-in_err-key-clause-value : goal.returns-in_err-key-clause-value
returns-in_err-key-clause-value c read some =
    let s = c.args.s.now in
    let other : (first s == 91) ≡ false = grind (arith, common_steps) in
    let pair = line_of_pair s read other some in
    entry_err c.from_residual.result c.in_err-key.field-0.0 _ _ c.from_residual.ensures.1 (λ y p. p)
    (for_memory c.in_err-key.field-0.0 (key_equals s) pair.key c.in_err-key.ensures.value pair.key_is)

pub returns-in_err-rest-clause-value : goal.returns-in_err-rest-clause-value
returns-in_err-rest-clause-value c read some =
    let s = c.args.s.now in
    let other : (first s == 91) ≡ false = grind (arith, common_steps) in
    let pair = line_of_pair s read other some in
    let key = one_read (key_equals s) _ pair.key c.in_ok-key.ensures.value pair.key_is in
    entry_err c.from_residual-in_err-rest.result c.in_err-rest.field-0.0 _ _ c.from_residual-in_err-rest.ensures.1 (λ y p. p)
    (c.in_err-rest.ensures.value pair.item (ap (λ (k : Key × List ℕ). val recursion_limit k.1) key ∙ pair.value))

pub returns-in_ok-rest-clause-value : goal.returns-in_ok-rest-clause-value
returns-in_ok-rest-clause-value c read some =
    let s = c.args.s.now in
    let other : (first s == 91) ≡ false = grind (arith, common_steps) in
    let pair = line_of_pair s read other some in
    let key = one_read (key_equals s) _ pair.key c.in_ok-key.ensures.value pair.key_is in
    let rest = c.in_ok-rest.ensures.value pair.item (ap (λ (k : Key × List ℕ). val recursion_limit k.1) key ∙ pair.value) in
    (ap (λ (k : Key × List ℕ). k.0) key ∙ pair.name, pair.kind, rest ∙ pair.behind)

pub returns-in_err-key-2-clause-value : goal.returns-in_err-key-2-clause-value
returns-in_err-key-2-clause-value c read some =
    let s = c.args.s.now in
    let opens : (first s == 91) ≡ true = grind (arith, common_steps) in
    let single : (slice_index s 1 == 91) ≡ false = grind (arith, common_steps) in
    let table = line_of_table s read opens single some in
    let key_is = ap header_key c.skip.ensures.rest ∙ table.key_is in
    entry_err c.from_residual-in_err-key-2.result c.in_err-key-2.field-0.0 _ _ c.from_residual-in_err-key-2.ensures.1 (λ y p. p)
    (for_memory c.in_err-key-2.field-0.0 (header_key c.skip.result.now) table.key c.in_err-key-2.ensures.value key_is)

pub returns-in_ok-key-2-clause-value : goal.returns-in_ok-key-2-clause-value
returns-in_ok-key-2-clause-value c read some =
    let s = c.args.s.now in
    let opens : (first s == 91) ≡ true = grind (arith, common_steps) in
    let single : (slice_index s 1 == 91) ≡ false = grind (arith, common_steps) in
    let table = line_of_table s read opens single some in
    let key_is = ap header_key c.skip.ensures.rest ∙ table.key_is in
    let key = one_read (header_key c.skip.result.now) _ table.key c.in_ok-key-2.ensures.value key_is in
    (ap (λ (k : Key × List ℕ). k.0) key ∙ table.name, table.kind, ap (λ (k : Key × List ℕ). k.1) key ∙ table.behind)

pub returns-in_err-key-3-clause-value : goal.returns-in_err-key-3-clause-value
returns-in_err-key-3-clause-value c read some =
    let s = c.args.s.now in
    let opens : (first s == 91) ≡ true = grind (arith, common_steps) in
    let double : (slice_index s 1 == 91) ≡ true = grind (arith, common_steps) in
    let header = line_of_array s read opens double some in
    let key_is = ap header_key c.skip-else-byte_at-ne91.ensures.rest ∙ header.key_is in
    entry_err c.from_residual-in_err-key-3.result c.in_err-key-3.field-0.0 _ _ c.from_residual-in_err-key-3.ensures.1 (λ y p. p)
    (for_memory c.in_err-key-3.field-0.0 (header_key c.skip-else-byte_at-ne91.result.now) header.key c.in_err-key-3.ensures.value key_is)

pub returns-then-first-ne93-clause-value : goal.returns-then-first-ne93-clause-value
returns-then-first-ne93-clause-value c read some =
    let s = c.args.s.now in
    let opens : (first s == 91) ≡ true = grind (arith, common_steps) in
    let double : (slice_index s 1 == 91) ≡ true = grind (arith, common_steps) in
    let header = line_of_array s read opens double some in
    let key_is = ap header_key c.skip-else-byte_at-ne91.ensures.rest ∙ header.key_is in
    let key = one_read (header_key c.skip-else-byte_at-ne91.result.now) _ header.key c.in_ok-key-3.ensures.value key_is in
    let other : (first c.in_ok-key-3.rest.now == 93) ≡ false = grind (arith, common_steps) in
    absurd (unclosed c.in_ok-key-3.rest.now read.1 (ap (λ (k : Key × List ℕ). after_byte 93 k.1) key ∙ header.closes) other)

pub returns-else-first-ne93-clause-value : goal.returns-else-first-ne93-clause-value
returns-else-first-ne93-clause-value c read some =
    let s = c.args.s.now in
    let opens : (first s == 91) ≡ true = grind (arith, common_steps) in
    let double : (slice_index s 1 == 91) ≡ true = grind (arith, common_steps) in
    let header = line_of_array s read opens double some in
    let key_is = ap header_key c.skip-else-byte_at-ne91.ensures.rest ∙ header.key_is in
    let key = one_read (header_key c.skip-else-byte_at-ne91.result.now) _ header.key c.in_ok-key-3.ensures.value key_is in
    let here : (first c.in_ok-key-3.rest.now == 93) ≡ true = grind (arith, common_steps) in
    let behind = closed c.in_ok-key-3.rest.now read.1 (ap (λ (k : Key × List ℕ). after_byte 93 k.1) key ∙ header.closes) here in
    (ap (λ (k : Key × List ℕ). k.0) key ∙ header.name, header.kind, c.skip-else-byte_at-ne91-2.ensures.rest ∙ behind)
