-- A run, and one event more.
use Rattle.std.proofs.Common.{◌≡◌, ◌∙◌, ℕ, List, [], ◌∷◌, ◌++◌, take, drop, Result, Ok, Err, OnErr, refl, sym, ap, subst, append_assoc}
use Rattle.events.specs.declared.event.Event.{Event}
use Rattle.event_rows.specs.State.{Contents}
use Rattle.event_rows.specs.Trace.{AreEntries, Entry, IsEntry, Ran, RanFirst, after_entries, after_entry, events_of}
use Rattle.std.proofs.lemmas.List.{append-nil, take-append-drop}

pub entries_more : (s : Contents) (xs ys : List Entry) → AreEntries s xs → AreEntries (after_entries s xs) ys → AreEntries s (xs ++ ys)
entries_more s [] ys h k = k
entries_more s (x ∷ xs) ys h k = (h.0, entries_more (after_entry s x) xs ys h.1 k)

pub after_more : (s : Contents) (xs ys : List Entry) → after_entries s (xs ++ ys) ≡ after_entries (after_entries s xs) ys
after_more s [] ys = refl
after_more s (x ∷ xs) ys = after_more (after_entry s x) xs ys

pub events_more : (xs ys : List Entry) → events_of (xs ++ ys) ≡ events_of xs ++ events_of ys
events_more [] ys = refl
events_more (x ∷ xs) ys = ap (λ (es : List Event). x.event ∷ es) (events_more xs ys)

-- one run after another
pub ran_more : (s s1 s2 : Contents) (t t1 t2 : List Entry) (es fs : List Event) → Ran s t es s1 t1 → Ran s1 t1 fs s2 t2 → Ran s t (es ++ fs) s2 t2
ran_more s s1 s2 t t1 t2 es fs h k = record {
  more = h.more ++ k.more;
  told = events_more h.more k.more ∙ ap (λ (xs : List Event). xs ++ events_of k.more) h.told ∙ ap (λ (ys : List Event). es ++ ys) k.told;
  grown = k.grown ∙ ap (λ (xs : List Entry). xs ++ k.more) h.grown ∙ append_assoc t h.more k.more;
  entries = entries_more s h.more k.more h.entries (subst (λ (x : Contents). AreEntries x k.more) h.agent k.entries);
  agent = k.agent ∙ ap (λ (x : Contents). after_entries x k.more) h.agent ∙ sym (after_more s h.more k.more);
}

pub ran_none : (s : Contents) (t : List Entry) → Ran s t [] s t
ran_none s t = record { more = []; told = refl; grown = sym (append-nil t); entries = tt; agent = refl }

-- one event
pub ran_one : (s s1 : Contents) (t t1 : List Entry) (e : Event) (x : Entry) → x.event ≡ e → IsEntry s x → s1 ≡ after_entry s x → t1 ≡ t ++ x ∷ []
    → Ran s t (e ∷ []) s1 t1
ran_one s s1 t t1 e x event is agent trace = record { more = x ∷ []; told = ap (λ (y : Event). y ∷ []) event; grown = trace; entries = (is, tt); agent = agent }

-- the same agent and trace
pub ran_same : (s s1 s2 : Contents) (t t1 t2 : List Entry) (es : List Event) → s2 ≡ s1 → t2 ≡ t1 → Ran s t es s1 t1 → Ran s t es s2 t2
ran_same s s1 s2 t t1 t2 es s_is t_is h = record { more = h.more; told = h.told; grown = t_is ∙ h.grown; entries = h.entries; agent = s_is ∙ h.agent }

-- the trace could take nothing further
pub stopped : {T E : Type 0} (r : Result T E) (s s1 : Contents) (t t1 : List Entry) (i : ℕ) (es : List Event) → Ran s t (take i es) s1 t1 → OnErr r (RanFirst s t es s1 t1)
stopped (Ok x) s s1 t t1 i es h = tt
stopped (Err e) s s1 t t1 i es h = (take i es, drop i es, sym (take-append-drop i es), h)
