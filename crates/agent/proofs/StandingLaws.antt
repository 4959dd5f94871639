-- An agent stands after what a step or a run made of it.
use Rattle.std.proofs.Common.{◌≡◌, ◌++◌, List, Result, Ok, Err, IfOk, OnErr, OnOk}
use Rattle.events.specs.declared.event.Event.{Event}
use Rattle.events.specs.declared.sent.Sent.{Sent}
use Rattle.plans.specs.declared.taken.Taken.{Taken}
use Rattle.media_laws.specs.Standing.{StandsOn}
use Rattle.event_rows.specs.Rows.{after, row}
use Rattle.event_rows.specs.State.{Contents}

-- a step that was done
pub step_stands : {E : Type 0} (r : Result Taken E) (s : Contents) (event : Event) (before now : List Sent) (later : Contents)
    → ((answer : Taken) → answer ≡ (row s event).plan.taken → now ≡ before ++ (row s event).plan.sends → later ≡ after s event → StandsOn s event.what answer before now later) → IfOk r (λ answer. answer ≡ (row s event).plan.taken)
    → OnOk r (now ≡ before ++ (row s event).plan.sends) → OnOk r (later ≡ after s event) → IfOk r (λ answer. StandsOn s event.what answer before now later)
step_stands (Ok answer) s event before now later law answered sent left = law answer answered sent left
step_stands (Err e) s event before now later law answered sent left = tt

pub if_done : {T E : Type 0} (r : Result T E) (P Q : Type 0) → (P → Q) → OnOk r P → OnOk r Q
if_done (Ok x) P Q f h = f h
if_done (Err e) P Q f h = tt

pub if_refused : {T E : Type 0} (r : Result T E) (P Q : Type 0) → (P → Q) → OnErr r P → OnErr r Q
if_refused (Ok x) P Q f h = tt
if_refused (Err e) P Q f h = f h
