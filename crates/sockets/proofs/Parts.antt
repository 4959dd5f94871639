-- One more part of a text.
use Rattle.std.proofs.Common.{◌≡◌, ℕ, ◌≤◌, List, [], ◌∷◌, ◌++◌, ◌∙◌, ap, arith, refl, length, take}
use Rattle.std.proofs.lemmas.List.{length-take}
use Rattle.sockets.specs.Logs.{Part}
use Rattle.sockets.specs.ErrorStreams.{Follow, IsPart, left_after, left_by, max_part, part_of}

pub left_after-more : (left : List ℕ) (parts : List Part) (part : Part) → left_after left (parts ++ part ∷ []) ≡ left_by part (left_after left parts)
left_after-more left [] part = refl
left_after-more left (first ∷ parts) part = left_after-more (left_by first left) parts part

pub follow-more : (left : List ℕ) (parts : List Part) (part : Part) → Follow left parts → IsPart (left_after left parts) part → Follow left (parts ++ part ∷ [])
follow-more left [] part follow is = (is, tt)
follow-more left (first ∷ parts) part follow is = (follow.0, follow-more (left_by first left) parts part follow.1 is)

-- the same, of a step of the loop
pub more : (text : List ℕ) (before parts after : List Part) (left : List ℕ) (count : ℕ)
    → Follow text before → left_after text before ≡ left → count ≤ length (take max_part left)
    → parts ≡ before → after ≡ parts ++ part_of left count ∷ []
    → Follow text after × (left_after text after ≡ left_by (part_of left count) left)
more text before parts after left count follow is few same one =
    rw one (rw same (
      follow-more text before (part_of left count) follow (rw is (record { bytes = refl; taken = few })),
      left_after-more text before (part_of left count) ∙ ap (λ l. left_by (part_of left count) l) is,
    ))

-- what the system took of a part is of the text
pub few_of : (left : List ℕ) (count : ℕ) → count ≤ length (take max_part left) → count ≤ length left
few_of left count few = omega (arith, length-take max_part left, few)
