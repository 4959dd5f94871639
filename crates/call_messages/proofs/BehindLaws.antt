-- What actions result in, one after another.
use Rattle.std.proofs.Common.{◌≡◌, ◌∙◌, ◌+◌, ℕ, List, ◌∷◌, ◌++◌, ap, arith}
use Rattle.std.proofs.lemmas.List.{append_assoc, append-nil}
use Rattle.call_core.specs.declared.action.Action.{Action}
use Rattle.call_messages.specs.Dressed.{Dressed, behind, no_message}
use Rattle.call_messages.specs.Dressing.{dress_one, dressed}
use Rattle.call_messages.specs.declared.scene.Scene.{Scene}

pub behind_behind : (a b c : Dressed) → behind (behind a b) c ≡ behind a (behind b c)
behind_behind a b c =
    rw (append_assoc a.changes b.changes c.changes, append_assoc a.sends b.sends c.sends) (ap (λ (n : ℕ). record { changes = a.changes ++ (b.changes ++ c.changes); sends = a.sends ++ (b.sends ++ c.sends); made = n }) (omega arith))

pub nothing_behind : (a : Dressed) → behind a no_message ≡ a
nothing_behind a = rw (append-nil a.changes, append-nil a.sends) (ap (λ (n : ℕ). record { changes = a.changes; sends = a.sends; made = n }) (omega arith))

-- one action more
pub one_more : (s : Scene) (tokens : ℕ) (so_far next : Dressed) (action : Action) (rest : List Action) → next ≡ behind so_far (dress_one s (tokens + so_far.made) action)
    → behind next (dressed s (tokens + next.made) rest) ≡ behind so_far (dressed s (tokens + so_far.made) (action ∷ rest))
one_more s tokens so_far next action rest is =
    let said = dress_one s (tokens + so_far.made) action in
    let count : tokens + (so_far.made + said.made) ≡ tokens + so_far.made + said.made = omega arith in
    ap (λ (d : Dressed). behind d (dressed s (tokens + d.made) rest)) is
    ∙ behind_behind so_far said (dressed s (tokens + (so_far.made + said.made)) rest)
    ∙ ap (λ n. behind so_far (behind said (dressed s n rest))) count
