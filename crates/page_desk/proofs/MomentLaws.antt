-- The last of the moments that were passed on.
use Rattle.std.proofs.Common.{◌≡◌, ◌+◌, ℕ, List, [], ◌∷◌, ◌++◌, length, Option, Some, refl, sym, ap, ◌∙◌}
use Rattle.std.specs.List.{last_or}
use Rattle.std.proofs.lemmas.List.{append_assoc, append-nil, length-append}
use Rattle.page_desk.specs.Rings.{IsAll, IsLastOf, room_of_moments}

last_of_more : (one : Option ℕ) (items : List ℕ) (item : ℕ) → last_or one (items ++ item ∷ []) ≡ Some item
last_of_more one [] item = refl
last_of_more one (first ∷ items) item = last_of_more (Some first) items item

-- so many were taken so far
pub record AreTaken (one : ℕ) (before after : List ℕ) (last count : ℕ) : Type 0 where
  pub items : List ℕ
  pub taken : after ≡ before ++ items
  pub is_last : Some last ≡ last_or (Some one) items
  pub counted : length items ≡ count

pub none_yet : (one : ℕ) (before : List ℕ) → AreTaken one before before one 0
none_yet one before = record { items = []; taken = sym (append-nil before); is_last = refl; counted = refl }

pub one_more : (one : ℕ) (before after later : List ℕ) (last moment count : ℕ) → AreTaken one before after last count → later ≡ after ++ moment ∷ []
    → AreTaken one before later moment (count + 1)
one_more one before after later last moment count are more = record {
  items = are.items ++ moment ∷ [];
  taken = more ∙ ap (λ xs. xs ++ moment ∷ []) are.taken ∙ append_assoc before are.items (moment ∷ []);
  is_last = sym (last_of_more (Some one) are.items moment);
  counted = length-append are.items (moment ∷ []) ∙ ap (λ n. n + 1) are.counted;
}

pub all_taken : (one : ℕ) (before after later left : List ℕ) (last count : ℕ) → AreTaken one before after last count → later ≡ after
    → ((items : List ℕ) → length items ≡ count → IsAll room_of_moments items left) → IsLastOf one before later left last
all_taken one before after later left last count are same all = record {
  items = are.items;
  taken = same ∙ are.taken;
  all = all are.items are.counted;
  is_last = are.is_last;
}
