-- A name and an address with one more parameter after its text reads as the same with that parameter after its own.
use Rattle.std.proofs.Common.{◌≡◌, ℕ, Bool, true, false, ◌&&◌, eqb, inl, inr, List, [], ◌∷◌, ◌++◌, map, Option, Some, None, refl, sym, ap, ◌∙◌, append_assoc}
use Rattle.std.specs.Prelude.{IsTrue}
use Rattle.std.specs.List.{list_all, flat_map, onto_first, AllByRecursion}
use Rattle.std.proofs.lemmas.Bool.{and_parts, and_from, eqb-true}
use Rattle.std.proofs.lemmas.List.{append-nil, map-append}
use Rattle.std.proofs.lemmas.List.Folds.{list_all-append}
use Rattle.text.specs.Class.{passes_if_there}
use Rattle.text.specs.Cut.{led_by}
use Rattle.text.specs.Pieces.{next_within, is_outside, pieces}
use Rattle.text.specs.declared.split.Within.{Within}
use Rattle.text.specs.declared.split.Within.TheVariants.{Nothing}
use Rattle.sip_uri.specs.declared.uri.NameAddr.{NameAddr}
use Rattle.sip_uri.specs.declared.uri.Param.{Param}
use Rattle.sip_uri.specs.FieldParams.{is_field_param, is_field_params, field_param_of, field_params_of}
use Rattle.sip_uri.specs.NameAddr.{Closes, SpellsName, ReadsNameAddr}
use Rattle.sip_uri.specs.NameParts.{RawName, stands_well}
use Rattle.sip_uri.specs.Writing.{param_text}
use Rattle.sip_uri.proofs.Closed.{semicolon, IsClosed, piece_closed}
use Rattle.sip_uri.proofs.FieldTrip.{IsFieldParam, param_again, param_fits, param_closed}

-- ---- the pieces of a text with one more after it

-- pieces with semicolons in front of each
abbrev led : List (List ℕ) → List ℕ
led ps = flat_map (λ p. 59 ∷ p) ps

-- the first piece and the others make the text
pub record Pieces (within : Within) (t : List ℕ) : Type 0 where
  pub first : List ℕ
  pub others : List (List ℕ)
  pub cut : pieces 59 within t ≡ first ∷ others
  pub whole : t ≡ first ++ led others

pieces_of : (within : Within) (t : List ℕ) → Pieces within t
pieces_of within [] = record { first = []; others = []; cut = refl; whole = refl }
pieces_of within (b ∷ bs) = step (is_outside within && eqb b 59) refl (pieces_of (next_within within b) bs) where
  step : (e : Bool) → (is_outside within && eqb b 59) ≡ e → Pieces (next_within within b) bs → Pieces within (b ∷ bs)
  step true h more =
      let same : b ≡ 59 = eqb-true b 59 (and_parts (is_outside within) (eqb b 59) h).1 in
      record { first = []; others = more.first ∷ more.others; cut = rw h (ap (λ (ps : List (List ℕ)). [] ∷ ps) more.cut); whole = ap (λ (x : ℕ). x ∷ bs) same ∙ ap (λ (t : List ℕ). 59 ∷ t) more.whole }
  step false h more =
      record { first = b ∷ more.first; others = more.others; cut = rw h (ap (onto_first b) more.cut); whole = ap (λ (t : List ℕ). b ∷ t) more.whole }

closed_before : (p rest : List ℕ) → IsClosed 59 p → pieces 59 Nothing (p ++ 59 ∷ rest) ≡ p ∷ pieces 59 Nothing rest
closed_before p rest h = h (59 ∷ rest) ∙ ap (λ (t : List ℕ). t ∷ pieces 59 Nothing rest) (append-nil p)

pieces_before : (p : List ℕ) (ps : List (List ℕ)) (rest : List ℕ) → AllByRecursion (IsClosed 59) (p ∷ ps) → pieces 59 Nothing ((p ++ led ps) ++ 59 ∷ rest) ≡ (p ∷ ps) ++ pieces 59 Nothing rest
pieces_before p [] rest h = ap (λ (t : List ℕ). pieces 59 Nothing (t ++ 59 ∷ rest)) (append-nil p) ∙ closed_before p rest h.0
pieces_before p (q ∷ qs) rest h =
    ap (pieces 59 Nothing) (append_assoc p (led (q ∷ qs)) (59 ∷ rest)) ∙ closed_before p ((q ++ led qs) ++ 59 ∷ rest) h.0 ∙ ap (λ (ps : List (List ℕ)). p ∷ ps) (pieces_before q qs rest h.1)

all_closed : (ps : List (List ℕ)) → list_all is_field_param ps ≡ true → AllByRecursion (IsClosed 59) ps
all_closed [] h = tt
all_closed (p ∷ ps) h = let parts = and_parts (is_field_param p) (list_all is_field_param ps) h in (piece_closed 59 semicolon p parts.0, all_closed ps parts.1)

-- parameters that were read, with a semicolon and more after them
pieces_behind : (t rest : List ℕ) → list_all is_field_param (pieces 59 Nothing t) ≡ true → pieces 59 Nothing (t ++ 59 ∷ rest) ≡ pieces 59 Nothing t ++ pieces 59 Nothing rest
pieces_behind t rest h =
    let p = pieces_of Nothing t in
    let closed : AllByRecursion (IsClosed 59) (p.first ∷ p.others) = all_closed (p.first ∷ p.others) (ap (list_all is_field_param) (sym p.cut) ∙ h) in
    ap (λ (x : List ℕ). pieces 59 Nothing (x ++ 59 ∷ rest)) p.whole ∙ pieces_before p.first p.others rest closed ∙ ap (λ (ps : List (List ℕ)). ps ++ pieces 59 Nothing rest) (sym p.cut)

one_piece : (p : Param) → IsFieldParam p → pieces 59 Nothing (param_text p) ≡ param_text p ∷ []
one_piece p h =
    ap (pieces 59 Nothing) (sym (append-nil (param_text p))) ∙ param_closed 59 semicolon p h [] ∙ ap (λ (t : List ℕ). t ∷ []) (append-nil (param_text p))

-- ---- parameters with one more

-- the text of parameters with one more
abbrev behind : Option (List ℕ) → List ℕ → Option (List ℕ)
behind None x = Some x
behind (Some t) x = Some (t ++ 59 ∷ x)

led_behind : (o : Option (List ℕ)) (x : List ℕ) → led_by 59 o ++ 59 ∷ x ≡ led_by 59 (behind o x)
led_behind None x = refl
led_behind (Some t) x = refl

params_behind : (o : Option (List ℕ)) (p : Param) → IsFieldParam p → passes_if_there is_field_params o ≡ true
    → (passes_if_there is_field_params (behind o (param_text p)) ≡ true) × (field_params_of (behind o (param_text p)) ≡ field_params_of o ++ p ∷ [])
unfolding is_field_params field_params_of
params_behind None p h k =
    let one = one_piece p h in
    (ap (list_all is_field_param) one ∙ and_from _ _ (param_fits p h) refl, ap (map field_param_of) one ∙ ap (λ (q : Param). q ∷ []) (param_again p h))
params_behind (Some t) p h k =
    let cut : pieces 59 Nothing (t ++ 59 ∷ param_text p) ≡ pieces 59 Nothing t ++ param_text p ∷ [] = pieces_behind t (param_text p) k ∙ ap (λ (ps : List (List ℕ)). pieces 59 Nothing t ++ ps) (one_piece p h) in
    let fits : list_all is_field_param (pieces 59 Nothing t ++ param_text p ∷ []) ≡ true =
    list_all-append is_field_param (pieces 59 Nothing t) (param_text p ∷ []) ∙ and_from _ _ k (and_from _ _ (param_fits p h) refl) in
    let value : map field_param_of (pieces 59 Nothing t ++ param_text p ∷ []) ≡ map field_param_of (pieces 59 Nothing t) ++ p ∷ [] =
    map-append field_param_of (pieces 59 Nothing t) (param_text p ∷ []) ∙ ap (λ (q : Param). map field_param_of (pieces 59 Nothing t) ++ q ∷ []) (param_again p h) in
    (ap (list_all is_field_param) cut ∙ fits, ap (map field_param_of) cut ∙ value)

-- ---- names

closes_behind : (rest : List ℕ) (o : Option (List ℕ)) (x : List ℕ) → Closes rest o → Closes (rest ++ 59 ∷ x) (behind o x)
closes_behind rest o x h = record {
  gap = h.gap;
  blank = h.blank;
  whole = ap (λ (t : List ℕ). t ++ 59 ∷ x) h.whole ∙ append_assoc h.gap (led_by 59 o) (59 ∷ x) ∙ ap (λ (t : List ℕ). h.gap ++ t) (led_behind o x);
}

abbrev raw_behind : RawName → List ℕ → RawName
raw_behind r x = record r { params = behind r.params x }

quoted_behind : (lead inside gap uri rest y : List ℕ) → (lead ++ 34 ∷ (inside ++ 34 ∷ (gap ++ 60 ∷ (uri ++ 62 ∷ rest)))) ++ y ≡ lead ++ 34 ∷ (inside ++ 34 ∷ (gap ++ 60 ∷ (uri ++ 62 ∷ (rest ++ y))))
quoted_behind lead inside gap uri rest y = simp append_assoc

worded_behind : (front uri rest y : List ℕ) → (front ++ 60 ∷ (uri ++ 62 ∷ rest)) ++ y ≡ front ++ 60 ∷ (uri ++ 62 ∷ (rest ++ y))
worded_behind front uri rest y = simp append_assoc

spelled_behind : (text : List ℕ) (r : RawName) (x : List ℕ) → SpellsName text r → SpellsName (text ++ 59 ∷ x) (raw_behind r x)
spelled_behind text r x (inl h) = inl (record {
  lead = h.lead;
  inside = h.inside;
  gap = h.gap;
  rest = h.rest ++ 59 ∷ x;
  whole = ap (λ (t : List ℕ). t ++ 59 ∷ x) h.whole ∙ quoted_behind h.lead h.inside h.gap r.uri h.rest (59 ∷ x);
  lead_blank = h.lead_blank;
  gap_blank = h.gap_blank;
  fits = h.fits;
  closes = closes_behind h.rest r.params x h.closes;
  display = h.display;
  in_angles = h.in_angles;
})
spelled_behind text r x (inr (inl h)) = inr (inl (record {
  front = h.front;
  rest = h.rest ++ 59 ∷ x;
  whole = ap (λ (t : List ℕ). t ++ 59 ∷ x) h.whole ∙ worded_behind h.front r.uri h.rest (59 ∷ x);
  words = h.words;
  closes = closes_behind h.rest r.params x h.closes;
  display = h.display;
  in_angles = h.in_angles;
}))
spelled_behind text r x (inr (inr h)) = inr (inr (record {
  written = h.written;
  whole = ap (λ (t : List ℕ). t ++ 59 ∷ x) h.whole ∙ append_assoc h.written (led_by 59 r.params) (59 ∷ x) ∙ ap (λ (t : List ℕ). h.written ++ t) (led_behind r.params x);
  uri = h.uri;
  display = h.display;
  in_angles = h.in_angles;
}))

stands_behind : (r : RawName) (x : List ℕ) → IsTrue (stands_well r) → IsTrue (stands_well (raw_behind r x))
unfolding stands_well
stands_behind r x h = h

-- the name with one parameter more
abbrev pub with_param : NameAddr → Param → NameAddr
with_param n p = record n { params = n.params ++ p ∷ [] }

pub name_with_param : (text : List ℕ) (n : NameAddr) (p : Param) → ReadsNameAddr text n → IsFieldParam p → ReadsNameAddr (text ++ 59 ∷ param_text p) (with_param n p)
name_with_param text n p h is =
    let more = params_behind h.raw.params p is h.fits.form in
    record {
      raw = raw_behind h.raw (param_text p);
      fits = record { spelled = spelled_behind text h.raw (param_text p) h.fits.spelled; stands = stands_behind h.raw (param_text p) h.fits.stands; form = more.0 };
      uri = h.uri;
      display = h.display;
      params = ap (λ (ps : List Param). ps ++ p ∷ []) h.params ∙ sym more.1;
    }
