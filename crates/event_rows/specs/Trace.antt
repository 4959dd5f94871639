-- Events one after another, each with its answer and what was sent.
use Rattle.std.specs.Prelude.{◌≡◌, List, [], ◌∷◌, ◌++◌, fold, map, Option, Some, None}
use Rattle.events.specs.declared.event.Event.{Event}
use Rattle.events.specs.declared.sent.Sent.{Sent}
use Rattle.plans.specs.declared.taken.Taken.{Taken}
use Rattle.event_rows.specs.Rows.{after, only_counts, row}
use Rattle.event_rows.specs.State.{Contents}

-- an event, its answer, or none where it was lost, and what was sent
pub record Entry : Type 0 where
  pub event : Event
  pub answer : Option Taken
  pub sends : List Sent

-- what a lost event leaves, which is never one that is only counted
pub record IsLost (s : Contents) (x : Entry) : Type 0 where
  pub sends : x.sends ≡ []
  pub looked_at : only_counts s x.event ≡ None

pub record IsAnswer (s : Contents) (x : Entry) (taken : Taken) : Type 0 where
  pub answer : taken ≡ (row s x.event).plan.taken
  pub sends : x.sends ≡ (row s x.event).plan.sends

abbrev pub IsEntryWith : Contents → Entry → Option Taken → Type 0
IsEntryWith s x None = IsLost s x
IsEntryWith s x (Some taken) = IsAnswer s x taken

-- what this agent makes of the event
abbrev pub IsEntry : Contents → Entry → Type 0
IsEntry s x = IsEntryWith s x x.answer

abbrev pub after_answer : Contents → Event → Option Taken → Contents
after_answer s e None = s
after_answer s e (Some taken) = after s e

-- a lost event counts as not come
abbrev pub after_entry : Contents → Entry → Contents
after_entry s x = after_answer s x.event x.answer

abbrev pub after_entries : Contents → List Entry → Contents
after_entries s xs = fold after_entry s xs

abbrev pub AreEntries : Contents → List Entry → Type 0
AreEntries s [] = Unit {0}
AreEntries s (x ∷ xs) = IsEntry s x × AreEntries (after_entry s x) xs

abbrev pub events_of : List Entry → List Event
events_of xs = map (λ (x : Entry). x.event) xs

-- these events were entered after what the trace had, and this is the agent afterwards
pub record Ran (s : Contents) (trace : List Entry) (events : List Event) (s_after : Contents) (trace_after : List Entry) : Type 0 where
  pub more : List Entry
  pub told : events_of more ≡ events
  pub grown : trace_after ≡ trace ++ more
  pub entries : AreEntries s more
  pub agent : s_after ≡ after_entries s more

-- the first of these events, as many as the trace could take
abbrev pub RanFirst : Contents → List Entry → List Event → Contents → List Entry → Type 0
RanFirst s trace events s_after trace_after =
    (done : List Event) × (rest : List Event) × (events ≡ done ++ rest) × Ran s trace done s_after trace_after
