-- What an action sends is the same, whether it is dressed alone or among others: an ACK that is the first has the first
-- token, and an answer makes none.
use Rattle.std.proofs.Common.{◌≡◌, ◌<◌, ℕ, zero, suc, Bool, true, false, not, ◌&&◌, ◌||◌, cond, eqb, List, [], ◌∷◌, ◌++◌, length, take, slice_index_or, find, Option, Some, None, is_some, refl, ap, sym, ◌∙◌, arith}
use Rattle.std.specs.Option.{option_or}
use Rattle.std.proofs.lemmas.Bool.{and_parts, ne_eqb}
use Rattle.events.specs.declared.sent.Sent.{Sent}
use Rattle.call_messages.specs.declared.scene.Scene.{Scene}
use Rattle.call_media.specs.declared.end.End.{End}
use Rattle.call_core.specs.declared.action.Action.{Action}
use Rattle.call_core.specs.declared.action.Action.TheVariants.{Trying, Offer, Provisional, Ack, Answer, AnswerAgain, Refusal, Okay, Cancel, Bye, PutRows, Release, RemoveRows, Set, Stop, Abandon}
use Rattle.call_messages.specs.Dressed.{Dressed}
use Rattle.call_messages.specs.Dressing.{dress_one}
use Rattle.call_steps.specs.Messages.{ack_kept, answer_kept, first_sent, is_ack, is_answer, sent_alone}
use Rattle.call_steps.specs.Values.{SceneValue, scene_value}
use Rattle.call_steps.proofs.FirstFound.{as_before, find_more, is_first}
use Rattle.call_steps.proofs.SceneLaws.{one_lent}

first_of : (sends : List Sent) → first_sent sends ≡ first_sent (sends ++ [])
first_of [] = refl
first_of (sent ∷ more) = refl

ack_alone : (s : Scene) (end : End) → first_sent (dress_one s s.tokens (Ack end)).sends ≡ sent_alone (scene_value s) (Ack end)
ack_alone s end =
    first_of (dress_one s s.tokens (Ack end)).sends
    ∙ ap (λ (d : Dressed). first_sent (d.sends ++ [])) (one_lent s s.tokens (Ack end))

answer_of : (s : Scene) (tokens : ℕ) (end : End) → dress_one s tokens (Answer end) ≡ dress_one s s.tokens (Answer end)
unfolding dress_one
answer_of s tokens end = refl

an_answer : (s : Scene) (tokens : ℕ) (end : End) → first_sent (dress_one s tokens (Answer end)).sends ≡ sent_alone (scene_value s) (Answer end)
an_answer s tokens end =
    first_of (dress_one s tokens (Answer end)).sends
    ∙ ap (λ (d : Dressed). first_sent (d.sends ++ [])) (answer_of s tokens end ∙ one_lent s s.tokens (Answer end))

answer_alone : (s : Scene) (tokens : ℕ) (action : Action) → is_answer action ≡ true →
    first_sent (dress_one s tokens action).sends ≡ sent_alone (scene_value s) action
answer_alone s tokens (Answer end) is = an_answer s tokens end
answer_alone s tokens (Trying end) is = absurd cc
answer_alone s tokens (Offer end method) is = absurd cc
answer_alone s tokens (Provisional end status) is = absurd cc
answer_alone s tokens (Ack end) is = absurd cc
answer_alone s tokens (AnswerAgain end) is = absurd cc
answer_alone s tokens (Refusal end status) is = absurd cc
answer_alone s tokens (Okay end) is = absurd cc
answer_alone s tokens (Cancel end) is = absurd cc
answer_alone s tokens (Bye end) is = absurd cc
answer_alone s tokens PutRows is = absurd cc
answer_alone s tokens Release is = absurd cc
answer_alone s tokens RemoveRows is = absurd cc
answer_alone s tokens (Set timer after) is = absurd cc
answer_alone s tokens (Stop timer) is = absurd cc
answer_alone s tokens (Abandon end) is = absurd cc

-- ---- an ACK, which is kept where it is the first

an_ack_alone : (s : Scene) (action : Action) → is_ack action ≡ true →
    first_sent (dress_one s s.tokens action).sends ≡ sent_alone (scene_value s) action
an_ack_alone s (Trying end) is = absurd cc
an_ack_alone s (Offer end method) is = absurd cc
an_ack_alone s (Provisional end status) is = absurd cc
an_ack_alone s (Ack end) is = ack_alone s end
an_ack_alone s (Answer end) is = absurd cc
an_ack_alone s (AnswerAgain end) is = absurd cc
an_ack_alone s (Refusal end status) is = absurd cc
an_ack_alone s (Okay end) is = absurd cc
an_ack_alone s (Cancel end) is = absurd cc
an_ack_alone s (Bye end) is = absurd cc
an_ack_alone s PutRows is = absurd cc
an_ack_alone s Release is = absurd cc
an_ack_alone s RemoveRows is = absurd cc
an_ack_alone s (Set timer after) is = absurd cc
an_ack_alone s (Stop timer) is = absurd cc
an_ack_alone s (Abandon end) is = absurd cc

kept_by_kind : (s : SceneValue) (action : Action) (later : List Action) → ack_kept s (action ∷ later) ≡ cond (is_ack action) (sent_alone s action) None
kept_by_kind s (Trying end) later = refl
kept_by_kind s (Offer end method) later = refl
kept_by_kind s (Provisional end status) later = refl
kept_by_kind s (Ack end) later = refl
kept_by_kind s (Answer end) later = refl
kept_by_kind s (AnswerAgain end) later = refl
kept_by_kind s (Refusal end status) later = refl
kept_by_kind s (Okay end) later = refl
kept_by_kind s (Cancel end) later = refl
kept_by_kind s (Bye end) later = refl
kept_by_kind s PutRows later = refl
kept_by_kind s Release later = refl
kept_by_kind s RemoveRows later = refl
kept_by_kind s (Set timer after) later = refl
kept_by_kind s (Stop timer) later = refl
kept_by_kind s (Abandon end) later = refl

kept_if_ack : (s : SceneValue) (action : Action) (later : List Action) → is_ack action ≡ true → sent_alone s action ≡ ack_kept s (action ∷ later)
kept_if_ack s action later is = sym (kept_by_kind s action later ∙ ap (λ (b : Bool). cond b (sent_alone s action) None) is)

none_if_no_ack : (s : SceneValue) (action : Action) (later : List Action) → is_ack action ≡ false → None ≡ ack_kept s (action ∷ later)
none_if_no_ack s action later is = sym (kept_by_kind s action later ∙ ap (λ (b : Bool). cond b (sent_alone s action) None) is)

later_kept : (s : SceneValue) (actions : List Action) (n : ℕ) → ack_kept s (take (suc n) actions) ≡ ack_kept s (take (suc (suc n)) actions)
later_kept s [] n = refl
later_kept s (action ∷ later) n = kept_by_kind s action (take n later) ∙ sym (kept_by_kind s action (take (suc n) later))

first_kept : (s : Scene) (tokens : ℕ) (actions : List Action) (d : Action) → 0 < length actions → tokens ≡ s.tokens
    → cond (is_ack (slice_index_or actions 0 d)) (first_sent (dress_one s tokens (slice_index_or actions 0 d)).sends) None ≡ ack_kept (scene_value s) (take 1 actions)
first_kept s tokens [] d some first = absurd (omega arith)
first_kept s tokens (action ∷ later) d some first =
    elim (is_ack action) as (λ b. is_ack action ≡ b → cond b (first_sent (dress_one s tokens action).sends) None ≡ ack_kept (scene_value s) (action ∷ [])) [
      | true ↦ λ is. ap (λ (n : ℕ). first_sent (dress_one s n action).sends) first ∙ an_ack_alone s action is ∙ kept_if_ack (scene_value s) action [] is
      | false ↦ λ is. none_if_no_ack (scene_value s) action [] is
    ] refl

-- with one action more: an ACK is kept where it is the first
pub ack_step : (s : Scene) (tokens : ℕ) (actions : List Action) (at : ℕ) (d : Action) (kept : Option Sent) → at < length actions → (at ≡ 0 → tokens ≡ s.tokens)
    → kept ≡ ack_kept (scene_value s) (take at actions)
    → cond (eqb at 0 && is_ack (slice_index_or actions at d)) (first_sent (dress_one s tokens (slice_index_or actions at d)).sends) kept ≡ ack_kept (scene_value s) (take (suc at) actions)
ack_step s tokens actions zero d kept there first is =
    ap (λ (k : Option Sent). cond (is_ack (slice_index_or actions 0 d)) (first_sent (dress_one s tokens (slice_index_or actions 0 d)).sends) k) is
    ∙ first_kept s tokens actions d there (first refl)
ack_step s tokens actions (suc n) d kept there first is =
    ap (λ (b : Bool). cond (b && is_ack (slice_index_or actions (suc n) d)) (first_sent (dress_one s tokens (slice_index_or actions (suc n) d)).sends) kept) (ne_eqb (suc n) 0 (λ e. omega (arith, e)))
    ∙ is
    ∙ later_kept (scene_value s) actions n

-- and an answer where none is kept yet
pub answer_step : (s : Scene) (tokens : ℕ) (actions : List Action) (at : ℕ) (d : Action) (answered : Bool) (kept : Option Sent) → at < length actions
    → answered ≡ is_some (find is_answer (take at actions))
    → kept ≡ answer_kept (scene_value s) (find is_answer (take at actions))
    → cond (not answered && is_answer (slice_index_or actions at d)) (first_sent (dress_one s tokens (slice_index_or actions at d)).sends) kept
    ≡ answer_kept (scene_value s) (find is_answer (take (suc at) actions))
answer_step s tokens actions at d answered kept there so is =
    let action = slice_index_or actions at d in
    let found = find is_answer (take at actions) in
    let more = find_more is_answer actions at d there in
    rw so (elim (not (is_some found) && is_answer action) as (λ b. (not (is_some found) && is_answer action) ≡ b → cond b (first_sent (dress_one s tokens action).sends) kept ≡ answer_kept (scene_value s) (find is_answer (take (suc at) actions))) [
      | true ↦ λ e. answer_alone s tokens action (and_parts (not (is_some found)) (is_answer action) e).1 ∙ ap (λ (o : Option Action). answer_kept (scene_value s) o) (sym (more ∙ is_first is_answer found action e))
      | false ↦ λ e. is ∙ ap (λ (o : Option Action). answer_kept (scene_value s) o) (sym (more ∙ as_before is_answer found action e))
    ] refl)

pub answered_step : (actions : List Action) (at : ℕ) (d : Action) (answered : Bool) → at < length actions
    → answered ≡ is_some (find is_answer (take at actions))
    → (answered || (not answered && is_answer (slice_index_or actions at d))) ≡ is_some (find is_answer (take (suc at) actions))
answered_step actions at d answered there so =
    let action = slice_index_or actions at d in
    let found = find is_answer (take at actions) in
    rw so (so_far found action) ∙ ap (λ (o : Option Action). is_some o) (sym (find_more is_answer actions at d there)) where
      so_far : (found : Option Action) (action : Action) → (is_some found || (not (is_some found) && is_answer action)) ≡ is_some (option_or found (find is_answer (action ∷ [])))
      so_far (Some x) action = refl
      so_far None action = elim (is_answer action) as (λ b. b ≡ is_some (cond b (Some action) None)) [
        | true ↦ refl
        | false ↦ refl
      ]
