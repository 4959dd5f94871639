-- Events that are read one by one.
use Rattle.std.proofs.Common.{◌≡◌, ℕ, ◌<◌, true, false, eqb, List, [], ◌∷◌, ◌++◌, length, Some, None, inl, inr, refl, sym, ap, subst, ◌∙◌, arith, append_assoc}
use Rattle.std.specs.Prelude.{codes}
use Rattle.std.specs.List.{join_with_byte}
use Rattle.std.proofs.lemmas.Bool.{eqb-true, eqb-false}
use Rattle.std.proofs.lemmas.List.{append-nil, length-append, nil_from_length}
use Rattle.events.specs.declared.event.Event.{Event}
use Rattle.scripts.specs.Values.{Entry}
use Rattle.scripts.specs.Reading.{next_of}
use Rattle.scripts.specs.Grammar.{spaced, lined, Begins, ReadsScript}
use Rattle.scripts.proofs.EntryLaws.{entry, again, begins_at}

-- the events so far, and those of what is left, are the text's
pub record Leads (text : List ℕ) (so_far : List Event) (rest : List ℕ) : Type 0 where
  pub found : (es : List Event) → ReadsScript rest es → ReadsScript text (so_far ++ es)
  pub only : (es : List Event) → ReadsScript text es → (fs : List Event) × (es ≡ so_far ++ fs) × ReadsScript rest fs

pub leads_none : (text : List ℕ) → Leads text [] text
leads_none text = record {
  found = λ es h. h;
  only = λ es h. (es, refl, h);
}

nothing_begins : (e : Event) (rest : List ℕ) → Begins [] e rest → ⊥
unfolding next_of
nothing_begins e rest h = none (again [] e rest h) where
  none : next_of [] ≡ Some (entry e rest) → ⊥
  none h = cc

some_is : {X : Type 0} (x y : X) → Some x ≡ Some y → x ≡ y
some_is x y h = cc

-- one event more
pub leads_on : (text : List ℕ) (so_far : List Event) (rest : List ℕ) (n : Entry) → Leads text so_far rest → next_of rest ≡ Some n
    → Leads text (so_far ++ n.event ∷ []) n.rest
leads_on text so_far rest n leads next = record {
  found = λ es h. subst (λ (t : List Event). ReadsScript text t) (sym (append_assoc so_far (n.event ∷ []) es)) (leads.found (n.event ∷ es) (n.rest, begins_at rest n next, h));
  only = λ es h. let p = leads.only es h in split p.0 es p.1 p.2;
} where
  split : (fs es : List Event) → es ≡ so_far ++ fs → ReadsScript rest fs → (gs : List Event) × (es ≡ (so_far ++ n.event ∷ []) ++ gs) × ReadsScript n.rest gs
  split [] es same h = absurd (nothing_begins n.event n.rest (subst (λ (t : List ℕ). Begins t n.event n.rest) h (begins_at rest n next)))
  split (f ∷ gs) es same (behind, begins, more) =
      let one : n ≡ entry f behind = some_is n (entry f behind) (sym next ∙ again rest f behind begins) in (
        gs,
        same ∙ ap (λ (y : Entry). so_far ++ y.event ∷ gs) (sym one) ∙ sym (append_assoc so_far (n.event ∷ []) gs),
        subst (λ (y : Entry). ReadsScript y.rest gs) (sym one) more,
      )

pub nothing : (rest : List ℕ) → eqb (length rest) 0 ≡ true → rest ≡ []
nothing rest h = nil_from_length rest (eqb-true _ _ h)

pub something : (rest : List ℕ) → eqb (length rest) 0 ≡ false → rest ≡ [] → ⊥
something rest h none = eqb-false _ _ h (ap length none)

-- what is left is nothing
pub whole : (text : List ℕ) (so_far : List Event) (rest : List ℕ) → Leads text so_far rest → rest ≡ [] → ReadsScript text so_far
whole text so_far rest leads none = subst (λ (t : List Event). ReadsScript text t) (append-nil so_far) (leads.found [] none)

pub alone : (text : List ℕ) (so_far : List Event) (rest : List ℕ) → Leads text so_far rest → rest ≡ [] → (es : List Event) → ReadsScript text es → so_far ≡ es
alone text so_far rest leads none es h = let p = leads.only es h in end p.0 p.1 p.2 where
  end : (fs : List Event) → es ≡ so_far ++ fs → ReadsScript rest fs → so_far ≡ es
  end [] same h = sym (same ∙ append-nil so_far)
  end (f ∷ gs) same (behind, begins, more) = absurd (nothing_begins f behind (subst (λ (t : List ℕ). Begins t f behind) none begins))

-- nothing begins what is left
pub refused : (text : List ℕ) (so_far : List Event) (rest : List ℕ) → Leads text so_far rest → (rest ≡ [] → ⊥) → next_of rest ≡ None
    → (es : List Event) → ReadsScript text es → ⊥
refused text so_far rest leads some none es h = let p = leads.only es h in end p.0 p.2 where
  end : (fs : List Event) → ReadsScript rest fs → ⊥
  end [] h = some h
  end (f ∷ gs) (behind, begins, more) = clash (sym (again rest f behind begins) ∙ none) where
    clash : Some (entry f behind) ≡ None → ⊥
    clash h = cc

-- what comes after an event is shorter
pub shorter : (text : List ℕ) (n : Entry) → next_of text ≡ Some n → length n.rest < length text
shorter text n h = step (begins_at text n h) where
  step : Begins text n.event n.rest → length n.rest < length text
  step (inl b) =
      let line = spaced (codes "T") (spaced b.now_text b.salt_text) in
      let whole = ap length b.spelled in
      omega (arith, whole, length-append line (10 ∷ n.rest))
  step (inr (inl b)) =
      let line = spaced (codes "Q") (spaced b.now_text (spaced b.salt_text b.call_text)) in
      let whole = ap length b.spelled in
      omega (arith, whole, length-append line (10 ∷ n.rest))
  step (inr (inr (inl b))) =
      let line = spaced (codes "U") (spaced b.now_text (spaced b.salt_text (join_with_byte 44 b.users))) in
      let whole = ap length b.spelled in
      omega (arith, whole, length-append line (10 ∷ n.rest))
  step (inr (inr (inr b))) =
      let line = spaced (codes "D") (spaced b.now_text (spaced b.salt_text (spaced b.ip_text (spaced b.port_text b.length_text)))) in
      let whole = ap length b.spelled in
      omega (arith, whole, length-append line (10 ∷ lined b.bytes n.rest), length-append b.bytes (10 ∷ n.rest))
