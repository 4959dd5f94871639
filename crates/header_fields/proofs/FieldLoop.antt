-- A step of the loop over lines that makes headers.
use Rattle.std.proofs.Common.{◌≡◌, ℕ, ◌+◌, ◌<◌, false, List, ◌∷◌, length, get_or, drop, refl, ◌∙◌}
use Rattle.std.specs.Borrow.{Bor}
use Rattle.std.proofs.lemmas.List.{at_drop_more}
use Rattle.header_fields.specs.Lines.{texts}
use Rattle.header_fields.specs.Fields.{RawField, begins_blank, continued, fields_of}

abbrev pub field_at : List (Bor (List ℕ)) → ℕ → Bor (List ℕ) → RawField
field_at lines at d = record { first = (get_or lines at d).now; more = continued (texts (drop (at + 1) lines)) }

pub fields_at : (lines : List (Bor (List ℕ))) (at : ℕ) (d : Bor (List ℕ)) → at < length lines → begins_blank (get_or lines at d).now ≡ false
    → fields_of (texts (drop at lines)) ≡ field_at lines at d ∷ fields_of (texts (drop (at + 1) lines))
fields_at lines at d lt some = at_drop_more (λ (ls : List (Bor (List ℕ))). fields_of (texts ls)) lines at d lt ∙ rw some refl
