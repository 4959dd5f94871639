-- What is put after a trace are entries of datagrams that came from addresses.
use Rattle.std.proofs.Common.{◌≡◌, ◌∙◌, List, [], ◌∷◌, ◌++◌, ap, sym, subst, append_assoc}
use Rattle.std.specs.List.{All}
use Rattle.std.proofs.lemmas.List.{append-nil, append_cancel_left}
use Rattle.std.proofs.lemmas.List.Elements.{All-append, All-cons, All-nil}
use Rattle.event_rows.specs.Trace.{Entry}
use Rattle.message_laws.specs.Datagrams.{EntersFromSource}
use Rattle.media_laws.specs.Standing.{PutsFromSource}

puts_these : (t now these : List Entry) → now ≡ t ++ these → All EntersFromSource these → PutsFromSource t now
puts_these t now these grown from = λ more whole. subst (All EntersFromSource) (append_cancel_left t these more (sym grown ∙ whole)) from

pub puts_none : (t : List Entry) → PutsFromSource t t
puts_none t = puts_these t t [] (sym (append-nil t)) (All-nil EntersFromSource)

pub puts_one : (t now : List Entry) (x : Entry) → now ≡ t ++ x ∷ [] → EntersFromSource x → PutsFromSource t now
puts_one t now x grown from = puts_these t now (x ∷ []) grown (All-cons EntersFromSource x [] from (All-nil EntersFromSource))

pub puts_more : (t mid now these those : List Entry) → mid ≡ t ++ these → now ≡ mid ++ those → PutsFromSource t mid → PutsFromSource mid now → PutsFromSource t now
puts_more t mid now these those first then h k =
    puts_these t now (these ++ those) (then ∙ ap (λ (l : List Entry). l ++ those) first ∙ append_assoc t these those) (All-append EntersFromSource these those (h these first) (k those then))

pub puts_same : (t mid now : List Entry) → now ≡ mid → PutsFromSource t mid → PutsFromSource t now
puts_same t mid now same h = λ more whole. h more (sym same ∙ whole)
