-- The line of a key.
use Rattle.std.proofs.Common.{◌≡◌, ◌≤◌, ◌<◌, ℕ, List, length, Option, Some, None, option_map, Result, Ok, Err, IfOk, IsUtf8, inl, inr, refl, sym, ap, ◌∙◌}
use Rattle.std.specs.declared.alloc.AllocError.{AllocError}
use Rattle.configuration.specs.Entries.{Entry, AreEntries, first_top}
use Rattle.configuration.specs.Lines.{max_looked, line_at, line_among, IsTold}
use Rattle.configuration.specs.FaultOf.{HasTable, HasKey, IsKeyLine}
use Rattle.configuration.proofs.EntryLaws.{entries_of}
use Rattle.configuration.proofs.TopLaws.{no_entry_no_key}
use Rattle.toml.specs.Parse.{skip_bom}
use Rattle.std.specs.Prelude.{IfNone, ◌⊎◌}
use Rattle.std.proofs.lemmas.Bool.{cases_lt, true≢false}

-- the line of the entry that was found
pub told_at : (text from : List ℕ) (line : ℕ) (found : Option Entry) → Some from ≡ option_map (λ entry. entry.from) found → line ≡ line_at text from
    → Some line ≡ option_map (λ entry. line_at text entry.from) found
told_at text from line None is at = absurd cc
told_at text from line (Some e) is at =
    let same : from ≡ e.from = cc in
    ap (λ (n : ℕ). Some n) at ∙ ap (λ (t : List ℕ). Some (line_at text t)) same

pub told_none : (text : List ℕ) (found : Option Entry) → None ≡ option_map (λ entry. entry.from) found → None ≡ option_map (λ entry. line_at text entry.from) found
told_none text None is = refl
told_none text (Some e) is = absurd cc

-- if no entry is of a key, the table has no such key
not_there : (bytes key : List ℕ) (es : List Entry) → AreEntries (skip_bom bytes) es → None ≡ line_among bytes key es → ¬ (HasKey bytes key)
not_there bytes key es are none (ms, text, there) = go (first_top key es) refl where
  go : (o : Option Entry) → first_top key es ≡ o → ⊥
  go None is = true≢false (sym there ∙ no_entry_no_key bytes key ms es text.1 are is)
  go (Some e) is = clash (none ∙ ap (option_map (λ entry. line_at bytes entry.from)) is) where
    clash : None ≡ Some (line_at bytes e.from) → ⊥
    clash h = cc

none_told : (bytes key : List ℕ) (es : List Entry) (line : Option ℕ) → AreEntries (skip_bom bytes) es → (length bytes ≤ max_looked → line ≡ line_among bytes key es)
    → IfNone line ((max_looked < length bytes) ⊎ ¬ (HasKey bytes key))
none_told bytes key es (Some n) are told = tt
none_told bytes key es None are told = elim (cases_lt max_looked (length bytes)) [
  | inl long ↦ inl long
  | inr short ↦ inr (not_there bytes key es are (told short))
]

-- of a text with a table
pub told_line : (bytes key : List ℕ) (r : Result (Option ℕ) AllocError) → HasTable bytes
    → (length bytes ≤ max_looked → IsUtf8 bytes → IfOk r (IsTold bytes key)) → (max_looked < length bytes → IfOk r (λ line. line ≡ None))
    → IfOk r (IsKeyLine bytes (Some key))
told_line bytes key (Err e) table told long = tt
told_line bytes key (Ok line) table told long =
    let (es, are) = entries_of bytes table.0 table.1.1 in
    record {
      first = λ short. (es, are, told short table.1.0 es are);
      long = long;
      none = none_told bytes key es line are (λ short. told short table.1.0 es are);
    }
