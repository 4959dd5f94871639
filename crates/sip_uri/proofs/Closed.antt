-- Texts that leave no quotation mark and no angle bracket open, wherever they are.
use Rattle.std.proofs.Common.{◌≡◌, ℕ, Bool, true, false, not, ◌&&◌, ◌||◌, cond, eqb, inl, inr, List, [], ◌∷◌, ◌++◌, length, Option, Some, None, refl, sym, ap, subst, ◌∙◌, append_assoc}
use Rattle.std.specs.List.{list_all, onto_first}
use Rattle.std.proofs.lemmas.Bool.{and_parts, or_cases, eqb-true}
use Rattle.std.proofs.lemmas.List.{nil_from_length}
use Rattle.text.specs.Class.{is_blank, is_token_byte, is_run_of, passes_if_there}
use Rattle.text.specs.Cut.{before, after, led_by}
use Rattle.text.specs.Pieces.{next_within, pieces}
use Rattle.text.specs.Trim.{trimmed, without_blanks}
use Rattle.text.specs.declared.split.Within.{Within}
use Rattle.text.specs.declared.split.Within.TheVariants.{Nothing, Quotes, Escape}
use Rattle.text.proofs.CutLaws.{Lacks, Lacks-from_class, differs, joined}
use Rattle.text.proofs.PieceLaws.{with_front, with_front-nil}
use Rattle.sip_uri.specs.Quoted.{quoted, may_stand, fits_quotes, ends_quoted, is_quoted}
use Rattle.sip_uri.specs.FieldParams.{is_bracket_byte, is_there_and_empty, is_bracketed, is_field_value, is_field_param}
use Rattle.sip_uri.proofs.BlankLaws.{lead_of, trail_of}
use Rattle.sip_uri.proofs.QuotedLaws.{quoted_is}

-- a byte that is between parts: none that a token, a host or blanks have, and none that begins or ends a quoted
-- string
pub record Separates (c : ℕ) : Type 0 where
  pub token : is_token_byte c ≡ false
  pub bracket : is_bracket_byte c ≡ false
  pub blank : is_blank c ≡ false
  pub quote : eqb 34 c ≡ false
  pub opening : eqb 91 c ≡ false
  pub closing : eqb 93 c ≡ false
  pub equals : eqb 61 c ≡ false

pub semicolon : Separates 59
semicolon = record { token = refl; bracket = refl; blank = refl; quote = refl; opening = refl; closing = refl; equals = refl }

pub comma : Separates 44
comma = record { token = refl; bracket = refl; blank = refl; quote = refl; opening = refl; closing = refl; equals = refl }

-- the text is in one piece, and what comes after it is cut as if it were alone
abbrev pub IsClosed : ℕ → List ℕ → Type 0
IsClosed c t = (rest : List ℕ) → pieces c Nothing (t ++ rest) ≡ with_front t (pieces c Nothing rest)

onto_front : (b : ℕ) (front : List ℕ) (ps : List (List ℕ)) → onto_first b (with_front front ps) ≡ with_front (b ∷ front) ps
onto_front b front [] = refl
onto_front b front (p ∷ ps) = refl

onto_one : (b : ℕ) (ps : List (List ℕ)) → onto_first b ps ≡ with_front (b ∷ []) ps
onto_one b [] = refl
onto_one b (p ∷ ps) = refl

two_fronts : (a b : List ℕ) (ps : List (List ℕ)) → with_front a (with_front b ps) ≡ with_front (a ++ b) ps
two_fronts a b [] = refl
two_fronts a b (p ∷ ps) = ap (λ (t : List ℕ). t ∷ ps) (sym (append_assoc a b p))

pub closed_append : (c : ℕ) (t u : List ℕ) → IsClosed c t → IsClosed c u → IsClosed c (t ++ u)
closed_append c t u h k = λ rest. ap (pieces c Nothing) (append_assoc t u rest) ∙ h (u ++ rest) ∙ ap (with_front t) (k rest) ∙ two_fronts t u (pieces c Nothing rest)

pub closed_plain : (c : ℕ) (t : List ℕ) → Lacks c t → Lacks 34 t → Lacks 60 t → IsClosed c t
closed_plain c [] h k m = λ rest. sym (with_front-nil c Nothing rest)
closed_plain c (b ∷ bs) h k m = λ rest.
    rw (h.0, k.0, m.0) (ap (onto_first b) (closed_plain c bs h.1 k.1 m.1 rest) ∙ onto_front b bs (pieces c Nothing rest))

pub closed_class : (c : ℕ) (p : ℕ → Bool) → p c ≡ false → p 34 ≡ false → p 60 ≡ false → (t : List ℕ) → list_all p t ≡ true → IsClosed c t
closed_class c p out quote angle t h = closed_plain c t (Lacks-from_class p c out t h) (Lacks-from_class p 34 quote t h) (Lacks-from_class p 60 angle t h)

abbrev in_quotes : Bool → Within
in_quotes true = Escape
in_quotes false = Quotes

next_in_quotes : (b : ℕ) → eqb b 34 ≡ false → next_within Quotes b ≡ in_quotes (eqb b 92)
next_in_quotes b h = rw h (step (eqb b 92)) where
  step : (e : Bool) → cond e Escape Quotes ≡ in_quotes e
  step true = refl
  step false = refl

closed_inside : (c : ℕ) (e : Bool) (x rest : List ℕ) → fits_quotes e x ≡ true → pieces c (in_quotes e) (x ++ 34 ∷ rest) ≡ with_front (x ++ 34 ∷ []) (pieces c Nothing rest)
closed_inside c true [] rest h = absurd cc
closed_inside c false [] rest h = onto_one 34 (pieces c Nothing rest)
closed_inside c true (b ∷ bs) rest h =
    let parts = and_parts (may_stand true b) (fits_quotes false bs) h in
    ap (onto_first b) (closed_inside c false bs rest parts.1) ∙ onto_front b (bs ++ 34 ∷ []) (pieces c Nothing rest)
closed_inside c false (b ∷ bs) rest h =
    let parts = and_parts (may_stand false b) (fits_quotes (eqb b 92) bs) h in
    let next = next_in_quotes b (differs (may_stand false) 34 b refl parts.0) in
    ap (λ (w : Within). onto_first b (pieces c w (bs ++ 34 ∷ rest))) next ∙ ap (onto_first b) (closed_inside c (eqb b 92) bs rest parts.1) ∙ onto_front b (bs ++ 34 ∷ []) (pieces c Nothing rest)

module _ (c : ℕ) (s : Separates c) where
  closed_quoted : (x : List ℕ) → fits_quotes false x ≡ true → IsClosed c (34 ∷ (x ++ 34 ∷ []))
  closed_quoted x h = λ rest.
      rw s.quote (ap (λ (t : List ℕ). onto_first 34 (pieces c Quotes t)) (append_assoc x (34 ∷ []) rest) ∙ ap (onto_first 34) (closed_inside c false x rest h) ∙ onto_front 34 (x ++ 34 ∷ []) (pieces c Nothing rest))

  -- ---- values

  quoted_closed : (t : List ℕ) → is_quoted t ≡ true → IsClosed c t
  unfolding is_quoted
  quoted_closed [] h = absurd cc
  quoted_closed (b ∷ bs) h =
      let parts = and_parts (eqb b 34) (ends_quoted (quoted bs)) h in
      let first : b ≡ 34 = eqb-true b 34 parts.0 in
      subst (λ (x : ℕ). IsClosed c (x ∷ bs)) (sym first) (step (quoted bs) (λ q e. quoted_is bs q e) parts.1) where
        step : (o : Option (List ℕ × List ℕ)) → ((q : List ℕ × List ℕ) → o ≡ Some q → bs ≡ q.0 ++ 34 ∷ q.1) → ends_quoted o ≡ true → IsClosed c (34 ∷ bs)
        step None is k = absurd cc
        step (Some q) is k =
            let fits = and_parts (fits_quotes false q.0) (eqb (length q.1) 0) k in
            let whole : bs ≡ q.0 ++ 34 ∷ [] = is q refl ∙ ap (λ (x : List ℕ). q.0 ++ 34 ∷ x) (nil_from_length q.1 (eqb-true _ _ fits.1)) in
            subst (λ (x : List ℕ). IsClosed c (34 ∷ x)) (sym whole) (closed_quoted q.0 fits.0)

  bracketed_closed : (t : List ℕ) → is_bracketed t ≡ true → IsClosed c t
  unfolding is_bracketed
  bracketed_closed [] h = absurd cc
  bracketed_closed (b ∷ bs) h =
      let ends = and_parts (eqb b 91 && is_run_of is_bracket_byte (before 93 bs)) (is_there_and_empty (after 93 bs)) h in
      let begins = and_parts (eqb b 91) (is_run_of is_bracket_byte (before 93 bs)) ends.0 in
      let inside = (and_parts (not (eqb (length (before 93 bs)) 0)) (list_all is_bracket_byte (before 93 bs)) begins.1).1 in
      let bracket : (d : ℕ) → IsClosed c (d ∷ []) → IsClosed c (d ∷ bs) = λ d one. closed_append c (d ∷ []) bs one (step (after 93 bs) refl ends.1 inside) in
      subst (λ (x : ℕ). IsClosed c (x ∷ bs)) (sym (eqb-true b 91 begins.0)) (bracket 91 (closed_plain c (91 ∷ []) (s.opening, tt) (refl, tt) (refl, tt))) where
        step : (o : Option (List ℕ)) → after 93 bs ≡ o → is_there_and_empty o ≡ true → list_all is_bracket_byte (before 93 bs) ≡ true → IsClosed c bs
        step None e k inside = absurd cc
        step (Some t) e k inside =
            let none : t ≡ [] = nil_from_length t (eqb-true _ _ k) in
            let whole : bs ≡ before 93 bs ++ 93 ∷ [] = sym (joined 93 bs) ∙ ap (λ (x : Option (List ℕ)). before 93 bs ++ led_by 93 x) (e ∙ ap (λ (x : List ℕ). Some x) none) in
            subst (λ (x : List ℕ). IsClosed c x) (sym whole) (closed_append c (before 93 bs) (93 ∷ []) (closed_class c is_bracket_byte s.bracket refl refl (before 93 bs) inside) (closed_plain c (93 ∷ []) (s.closing, tt) (refl, tt) (refl, tt)))

  pub token_closed : (t : List ℕ) → is_run_of is_token_byte t ≡ true → IsClosed c t
  token_closed t h = closed_class c is_token_byte s.token refl refl t (and_parts (not (eqb (length t) 0)) (list_all is_token_byte t) h).1

  pub value_closed : (t : List ℕ) → is_field_value t ≡ true → IsClosed c t
  unfolding is_field_value
  value_closed t h =
      elim (or_cases (is_run_of is_token_byte t || is_quoted t) (is_bracketed t) h) [
        | inl e ↦ elim (or_cases (is_run_of is_token_byte t) (is_quoted t) e) [ inl k ↦ token_closed t k | inr k ↦ quoted_closed t k ]
        | inr e ↦ bracketed_closed t e
      ]

  pub equals_closed : (t : List ℕ) → IsClosed c t → IsClosed c (61 ∷ t)
  equals_closed t h = closed_append c (61 ∷ []) t (closed_plain c (61 ∷ []) (s.equals, tt) (refl, tt) (refl, tt)) h

  -- ---- pieces as they are, with blanks

  blanks_closed : (t : List ℕ) → list_all is_blank t ≡ true → IsClosed c t
  blanks_closed t h = closed_class c is_blank s.blank refl refl t h

  closed_from_trimmed : (t : List ℕ) → IsClosed c (trimmed t) → IsClosed c t
  closed_from_trimmed t h =
      let lead = lead_of t in
      let trail = trail_of (without_blanks t) in
      let inner : IsClosed c (without_blanks t) = subst (λ (x : List ℕ). IsClosed c x) (sym trail.whole) (closed_append c (trimmed t) trail.trail h (blanks_closed trail.trail trail.blank)) in
      subst (λ (x : List ℕ). IsClosed c x) (sym lead.whole) (closed_append c lead.lead (without_blanks t) (blanks_closed lead.lead lead.blank) inner)

  pub piece_closed : (piece : List ℕ) → is_field_param piece ≡ true → IsClosed c piece
  unfolding is_field_param
  piece_closed piece h =
      let parts = and_parts (is_run_of is_token_byte (trimmed (before 61 piece))) (passes_if_there (λ v. is_field_value (trimmed v)) (after 61 piece)) h in
      let name : IsClosed c (before 61 piece) = closed_from_trimmed (before 61 piece) (token_closed (trimmed (before 61 piece)) parts.0) in
      subst (λ (x : List ℕ). IsClosed c x) (joined 61 piece) (closed_append c (before 61 piece) (led_by 61 (after 61 piece)) name (of_value (after 61 piece) parts.1)) where
        of_value : (o : Option (List ℕ)) → passes_if_there (λ v. is_field_value (trimmed v)) o ≡ true → IsClosed c (led_by 61 o)
        of_value None k = closed_plain c [] tt tt tt
        of_value (Some v) k = equals_closed v (closed_from_trimmed v (value_closed (trimmed v) k))
