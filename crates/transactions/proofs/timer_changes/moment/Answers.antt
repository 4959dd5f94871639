use Rattle.std.proofs.Common.{◌≡◌, Bool, List, [], ◌∷◌, find, option_map, refl, ap, ◌∙◌, rules}
use Rattle.transactions.proofs.timer_changes.moment.Goals as goal

-- two tests that agree find the same
find_agree : {X : Type 0} (p q : X → Bool) → ((x : X) → p x ≡ q x) → (xs : List X) → find p xs ≡ find q xs
find_agree p q e [] = refl
find_agree p q e (x ∷ xs) = rw (e x, find_agree p q e xs) refl

pub returns : goal.returns
returns c = c.moment.ensures ∙ ap (option_map (λ t. t.at)) (find_agree _ _ (λ t. search rules) c.args.timers.now.timers)
