-- Places that take turns.
use Rattle.std.proofs.Common.{◌≡◌, ℕ, List, [], ◌∷◌, ◌++◌, ◌∙◌, ap, append_assoc, reverse, sym}
use Rattle.std.proofs.lemmas.List.{reverse-append}

-- a place is read, and those that come next are left
pub turn : (reads places rest : List ℕ) (place : ℕ) → places ≡ rest ++ place ∷ [] → (reads ++ place ∷ []) ++ reverse rest ≡ reads ++ reverse places
turn reads places rest place e =
    append_assoc reads (place ∷ []) (reverse rest)
    ∙ sym (ap (λ r. reads ++ r) (reverse-append rest (place ∷ [])))
    ∙ sym (ap (λ ps. reads ++ reverse ps) e)
