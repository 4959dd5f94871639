-- Users in which nothing is escaped.
use Rattle.std.proofs.Common.{◌≡◌, ℕ, Bool, true, false, not, eqb, List, [], ◌∷◌, refl, sym, ap, ◌∙◌}
use Rattle.std.proofs.lemmas.Bool.{and_parts, eqb-false}
use Rattle.percent_encoding.specs.Percent.{percent_decode}
use Rattle.percent_encoding.proofs.PercentLemmas.{percent_decode-nil, percent_decode_not_percent}
use Rattle.sip_uri.specs.Reading.{is_plain}

other : (b : ℕ) → not (eqb b 37) ≡ true → b ≡ 37 → ⊥
other b h = step (eqb b 37) h (λ e. eqb-false b 37 e) where
  step : (e : Bool) → not e ≡ true → (e ≡ false → b ≡ 37 → ⊥) → b ≡ 37 → ⊥
  step true k on = absurd cc
  step false k on = on refl

-- such a user says what it is
pub plain : (text : List ℕ) → is_plain text ≡ true → text ≡ percent_decode text
plain [] h = sym percent_decode-nil
plain (b ∷ bs) h =
    let parts = and_parts (not (eqb b 37)) (is_plain bs) h in
    ap (λ (t : List ℕ). b ∷ t) (plain bs parts.1) ∙ sym (percent_decode_not_percent b bs (other b parts.0))
