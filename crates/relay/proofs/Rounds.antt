-- Rounds that were made so far.
use Rattle.std.proofs.Common.{◌≡◌, ◌∙◌, ℕ, ◌<◌, ◌≤◌, Bool, List, [], ◌∷◌, refl, ap, subst}
use Rattle.std.specs.Prelude.{Result, Ok, Err, IfOk}
use Rattle.relay.specs.Limits.{most_failures}
use Rattle.relay.specs.Rounds.{GoOn, Leads, Made, Media, Ran, failures_after, failures_of}
use Rattle.relay.specs.declared.serve.End.TheVariants.{Stopped, Failed}

-- these rounds were made, none of them was the last, and `failures` failed in a row
pub record Going (a b : Media) (failures : ℕ) : Type 0 where
  pub rounds : List Bool
  pub made : Made a rounds b
  pub go_on : GoOn rounds
  pub counts : failures ≡ failures_of rounds

pub none_made : (a : Media) → Going a a 0
none_made a = record { rounds = []; made = refl; go_on = tt; counts = refl }

pub was_stopped : (a b : Media) (failures : ℕ) → Going a b failures → Ran a b Stopped
was_stopped a b failures h = record { rounds = h.rounds; made = h.made; ends = h.go_on }

-- the count after one more round
count_more : (rounds : List Bool) (well : Bool) (failures after : ℕ) → failures ≡ failures_of rounds → after ≡ failures_after failures well → after ≡ failures_of (well ∷ rounds)
count_more rounds well failures after counts next = next ∙ ap (λ (n : ℕ). failures_after n well) counts

pub one_more_made : (a b c : Media) (failures after : ℕ) (well : Bool) → Going a b failures → Leads b c well → after ≡ failures_after failures well → after < most_failures → Going a c after
one_more_made a b c failures after well h leads counted few =
    let counts = count_more h.rounds well failures after h.counts counted in
    record { rounds = well ∷ h.rounds; made = (b, h.made, leads); go_on = (subst (λ (n : ℕ). n < most_failures) counts few, h.go_on); counts = counts }

pub failed_too_often : (a b c : Media) (failures after : ℕ) (well : Bool) → Going a b failures → Leads b c well → after ≡ failures_after failures well → most_failures ≤ after → Ran a c Failed
failed_too_often a b c failures after well h leads counted many =
    let counts = count_more h.rounds well failures after h.counts counted in
    record { rounds = well ∷ h.rounds; made = (b, h.made, leads); ends = (subst (λ (n : ℕ). most_failures ≤ n) counts many, h.go_on) }

-- what follows from a result
pub if_ok : {A E : Type 0} (r : Result A E) (P Q : A → Type 0) → ((a : A) → P a → Q a) → IfOk r P → IfOk r Q
if_ok (Ok a) P Q f p = f a p
if_ok (Err e) P Q f p = tt
