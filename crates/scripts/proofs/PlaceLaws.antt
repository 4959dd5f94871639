-- The place of the first line that begins no event.
use Rattle.std.proofs.Common.{◌≡◌, ◌≢◌, ◌≤◌, ◌-◌, ℕ, List, [], ◌∷◌, ◌++◌, length, Some, None, refl, sym, subst, ◌∙◌, arith}
use Rattle.events.specs.declared.event.Event.{Event}
use Rattle.scripts.specs.Values.{Entry}
use Rattle.scripts.specs.Reading.{next_of}
use Rattle.scripts.specs.Grammar.{Begins, ReadsScript, LeadsTo, IsMalformedAt}
use Rattle.scripts.proofs.EntryLaws.{entry, again, begins_at}
use Rattle.scripts.proofs.ScriptLaws.{shorter}

-- events come before what is left
pub record Splits (text rest : List ℕ) : Type 0 where
  pub events : List Event
  pub leads : LeadsTo text events rest
  pub bound : length rest ≤ length text

pub nothing_before : (text : List ℕ) → Splits text text
nothing_before text = record { events = []; leads = refl; bound = omega arith }

pub one_more : (text : List ℕ) (es : List Event) (rest : List ℕ) (e : Event) (behind : List ℕ) → LeadsTo text es rest → Begins rest e behind → LeadsTo text (es ++ e ∷ []) behind
one_more text [] rest e behind same begins = (behind, subst (λ (t : List ℕ). Begins t e behind) (sym same) begins, refl)
one_more text (f ∷ fs) rest e behind (next, first, more) begins = (next, first, one_more next fs rest e behind more begins)

-- one event more
pub splits_on : (text rest : List ℕ) (n : Entry) → Splits text rest → next_of rest ≡ Some n → Splits text n.rest
splits_on text rest n splits next = record {
  events = splits.events ++ n.event ∷ [];
  leads = one_more text splits.events rest n.event n.rest splits.leads (begins_at rest n next);
  bound = omega (arith, splits.bound, shorter rest n next);
}

-- no event more
pub malformed : (text rest : List ℕ) → Splits text rest → rest ≢ [] → next_of rest ≡ None → IsMalformedAt text (length text - length rest)
malformed text rest splits more none = record {
  events = splits.events;
  rest = rest;
  leads = splits.leads;
  place = omega (arith, splits.bound);
  more = more;
  none = λ e behind begins. clash e behind (sym (again rest e behind begins) ∙ none);
} where
  clash : (e : Event) (behind : List ℕ) → Some (entry e behind) ≡ None → ⊥
  clash e behind h = cc

pub whole_read : (text : List ℕ) (es : List Event) (rest : List ℕ) → LeadsTo text es rest → rest ≡ [] → ReadsScript text es
whole_read text [] rest same none = same ∙ none
whole_read text (e ∷ es) rest (behind, begins, more) none = (behind, begins, whole_read behind es rest more none)

-- all was read
pub script_read : (text rest : List ℕ) → Splits text rest → rest ≡ [] → (es : List Event) × ReadsScript text es
script_read text rest splits none = (splits.events, whole_read text splits.events rest splits.leads none)
