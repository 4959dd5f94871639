-- Since when a flow has been still, and whether it has been for this long.
use Rattle.std.proofs.Common.{◌≡◌, ℕ, ◌≤◌, ◌-◌, true, false, cond, List, [], ◌∷◌, ◌++◌, Some, refl, sym, ap, ◌∙◌, subst, arith, true≢false}
use Rattle.std.proofs.Math.Dec.{eqb}
use Rattle.std.proofs.Math.Nat.{le_refl}
use Rattle.std.proofs.lemmas.Bool.{and_parts, and_from, eqb-true, eq-eqb}
use Rattle.std.proofs.lemmas.Option.{none-some, same_Some}
use Rattle.std.specs.List.{AllByRecursion}
use Rattle.call_traffic.specs.Looks.{Look, all_found, MomentsRise}
use Rattle.call_traffic.specs.Stillness.{since_when, IsStill}
use Rattle.call_traffic.proofs.Further.{one_count}

pub stood : (count moment now limit : ℕ) (looks : List Look) → since_when count looks ≡ Some moment → limit ≤ now - moment → IsStill looks now limit
stood count moment now limit [] since long = absurd (none-some moment since)
stood count moment now limit (look ∷ looks) since long =
    elim (all_found count (look ∷ looks)) as (λ b. all_found count (look ∷ looks) ≡ b → cond b (Some look.moment) (since_when count looks) ≡ Some moment → IsStill (look ∷ looks) now limit) [
      | true ↦ λ e s.
          let parts = and_parts (eqb look.count count) (all_found count looks) e in
          record {
            before = [];
            first = look;
            behind = looks;
            parts = refl;
            long_ago = subst (λ m. limit ≤ now - m) (sym (same_Some look.moment moment s)) long;
            same = subst (λ c. all_found c looks ≡ true) (sym (eqb-true look.count count parts.0)) parts.1;
          }
      | false ↦ λ e s.
          let rest = stood count moment now limit looks s long in
          record {
            before = look ∷ rest.before;
            first = rest.first;
            behind = rest.behind;
            parts = ap (λ ls. look ∷ ls) rest.parts;
            long_ago = rest.long_ago;
            same = rest.same;
          }
    ] refl since

no_later : (moment : ℕ) (before behind : List Look) (first : Look) → AllByRecursion (λ other. moment ≤ other.moment) (before ++ first ∷ behind) → moment ≤ first.moment
no_later moment [] behind first all = all.0
no_later moment (look ∷ before) behind first all = no_later moment before behind first all.1

-- the earliest look of those at the end that found one count is no later than another of them
earliest : (count moment : ℕ) (before behind : List Look) (first : Look) → MomentsRise (before ++ first ∷ behind) → since_when count (before ++ first ∷ behind) ≡ Some moment → all_found first.count behind ≡ true → moment ≤ first.moment
earliest count moment [] behind first rise since same =
    elim (all_found count (first ∷ behind)) as (λ b. all_found count (first ∷ behind) ≡ b → cond b (Some first.moment) (since_when count behind) ≡ Some moment → moment ≤ first.moment) [
      | true ↦ λ e s. subst (λ m. m ≤ first.moment) (same_Some first.moment moment s) (le_refl first.moment)
      | false ↦ λ e s.
          let is = one_count count first.count moment behind s same in
          absurd (true≢false (sym (and_from (eqb first.count count) (all_found count behind) (eq-eqb first.count count is) (subst (λ c. all_found c behind ≡ true) is same)) ∙ e))
    ] refl since
earliest count moment (look ∷ before) behind first rise since same =
    elim (all_found count (look ∷ (before ++ first ∷ behind))) as (λ b. cond b (Some look.moment) (since_when count (before ++ first ∷ behind)) ≡ Some moment → moment ≤ first.moment) [
      | true ↦ λ s. subst (λ m. m ≤ first.moment) (same_Some look.moment moment s) (no_later look.moment before behind first rise.0)
      | false ↦ λ s. earliest count moment before behind first rise.1 s same
    ] since

pub told : (count moment now limit : ℕ) (looks : List Look) → since_when count looks ≡ Some moment → MomentsRise looks → IsStill looks now limit → limit ≤ now - moment
told count moment now limit looks since rise still =
    let le = earliest count moment still.before still.behind still.first (subst MomentsRise still.parts rise) (subst (λ ls. since_when count ls ≡ Some moment) still.parts since) still.same in
    omega (arith, le, still.long_ago)
