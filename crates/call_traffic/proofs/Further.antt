-- Since when a flow has been still, after a further look.
use Rattle.std.proofs.Common.{◌≡◌, ◌≢◌, ℕ, true, false, cond, List, [], ◌∷◌, ◌&&◌, Some, refl, sym, ap, ◌∙◌}
use Rattle.std.proofs.Math.Dec.{eqb}
use Rattle.std.proofs.lemmas.Bool.{and_parts, and_left, and_right, eqb-true, eq-eqb, ne_eqb, false_from_ne_true, cond-true, cond-false}
use Rattle.std.proofs.lemmas.Option.{none-some}
use Rattle.call_traffic.specs.Looks.{Look, after_look, all_found}
use Rattle.call_traffic.specs.Stillness.{since_when}

-- looks that all found one count are still at no other
pub one_count : (count other moment : ℕ) (looks : List Look) → since_when count looks ≡ Some moment → all_found other looks ≡ true → other ≡ count
one_count count other moment [] since all = absurd (none-some moment since)
one_count count other moment (look ∷ looks) since all =
    let parts = and_parts (eqb look.count other) (all_found other looks) all in
    elim (all_found count (look ∷ looks)) as (λ b. all_found count (look ∷ looks) ≡ b → cond b (Some look.moment) (since_when count looks) ≡ Some moment → other ≡ count) [
      | true ↦ λ e s. sym (eqb-true look.count other parts.0) ∙ eqb-true look.count count (and_parts (eqb look.count count) (all_found count looks) e).0
      | false ↦ λ e s. one_count count other moment looks s parts.1
    ] refl since

-- a further look that found the count is one more of them
found_more : (count now : ℕ) (looks : List Look) → all_found count (after_look looks now count) ≡ all_found count looks
found_more count now [] = ap (λ b. b && true) (eq-eqb count count refl)
found_more count now (look ∷ looks) = ap (λ b. eqb look.count count && b) (found_more count now looks)

pub goes_on : (count moment now : ℕ) (looks : List Look) → since_when count looks ≡ Some moment → since_when count (after_look looks now count) ≡ Some moment
goes_on count moment now [] since = absurd (none-some moment since)
goes_on count moment now (look ∷ looks) since =
    ap (λ b. cond b (Some look.moment) (since_when count (after_look looks now count))) (found_more count now (look ∷ looks))
    ∙ elim (all_found count (look ∷ looks)) as (λ b. cond b (Some look.moment) (since_when count looks) ≡ Some moment → cond b (Some look.moment) (since_when count (after_look looks now count)) ≡ Some moment) [
      | true ↦ λ s. s
      | false ↦ λ s. goes_on count moment now looks s
    ] since

-- if not all looks found the count, the first of them is passed over
not_from_here : (count now : ℕ) (look : Look) (looks : List Look) → all_found count (look ∷ looks) ≡ false → since_when count (after_look (look ∷ looks) now count) ≡ since_when count (after_look looks now count)
not_from_here count now look looks none = cond-false (all_found count (after_look (look ∷ looks) now count)) _ _ (found_more count now (look ∷ looks) ∙ none)

first_found : (count now : ℕ) → since_when count (after_look [] now count) ≡ Some now
first_found count now = cond-true (all_found count (after_look [] now count)) _ _ (found_more count now [])

behind_others : (count other now : ℕ) (looks : List Look) → other ≢ count → all_found other looks ≡ true → since_when count (after_look looks now count) ≡ Some now
behind_others count other now [] apart all = first_found count now
behind_others count other now (look ∷ looks) apart all =
    let parts = and_parts (eqb look.count other) (all_found other looks) all in
    not_from_here count now look looks (and_left (eqb look.count count) (all_found count looks) (ne_eqb look.count count (λ e. apart (sym (eqb-true look.count other parts.0) ∙ e))))
    ∙ behind_others count other now looks apart parts.1

pub begins : (count other moment now : ℕ) (looks : List Look) → other ≢ count → since_when other looks ≡ Some moment → since_when count (after_look looks now count) ≡ Some now
begins count other moment now [] apart since = absurd (none-some moment since)
begins count other moment now (look ∷ looks) apart since =
    elim (all_found other (look ∷ looks)) as (λ b. all_found other (look ∷ looks) ≡ b → cond b (Some look.moment) (since_when other looks) ≡ Some moment → since_when count (after_look (look ∷ looks) now count) ≡ Some now) [
      | true ↦ λ e s. behind_others count other now (look ∷ looks) apart e
      | false ↦ λ e s.
          not_from_here count now look looks
          (and_right (eqb look.count count) (all_found count looks) (false_from_ne_true (all_found count looks) (λ all. apart (sym (one_count other count moment looks s all)))))
          ∙ begins count other moment now looks apart s
    ] refl since
