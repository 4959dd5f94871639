-- A user that is written with escapes is read again.
use Rattle.std.proofs.Common.{◌≡◌, ℕ, ◌/◌, ◌%◌, ◌<◌, Bool, true, false, cond, eqb, List, [], ◌∷◌, ◌++◌, length, refl, ap, ◌∙◌, arith}
use Rattle.std.specs.List.{list_all, AllByRecursion}
use Rattle.std.specs.Fmt.{digit_glyph}
use Rattle.std.specs.Char.{is_ascii_hexdigit}
use Rattle.std.proofs.lemmas.Bool.{eqb-false, and_from, agree_below_at}
use Rattle.percent_encoding.specs.Percent.{percent_decode, percent_encode_byte}
use Rattle.percent_encoding.proofs.PercentLemmas.{percent_decode-nil, percent_decode_not_percent, percent_decode-percent_encode_byte}
use Rattle.sip_uri.specs.Classes.{is_plain_user, is_user_byte}
use Rattle.sip_uri.specs.RawUri.{escapes_well}
use Rattle.sip_uri.specs.Writing.{escaped_byte, escaped}
use Rattle.text.proofs.CutLaws.{differs}
use Rattle.std.proofs.lemmas.List.Folds.{list_all-append}

abbrev pub AreBytes : List ℕ → Type 0
AreBytes bs = AllByRecursion (λ b. b < 256) bs

not_percent : (b : ℕ) → is_plain_user b ≡ true → eqb b 37 ≡ false
not_percent b h = differs is_plain_user 37 b refl h

-- ---- the digits of an escape

glyph_hex : (d : ℕ) → d < 16 → is_ascii_hexdigit (digit_glyph true d) ≡ true
glyph_hex d small = agree_below_at (λ x. is_ascii_hexdigit (digit_glyph true x)) (λ x. true) 16 d refl small

glyph_user : (d : ℕ) → d < 16 → is_user_byte (digit_glyph true d) ≡ true
glyph_user d small = agree_below_at (λ x. is_user_byte (digit_glyph true x)) (λ x. true) 16 d refl small

glyph_apart : (d : ℕ) → d < 16 → eqb (digit_glyph true d) 37 ≡ false
glyph_apart d small = agree_below_at (λ x. eqb (digit_glyph true x) 37) (λ x. false) 16 d refl small

-- ---- one byte

decode_byte : (b : ℕ) (rest : List ℕ) → b < 256 → percent_decode (escaped_byte b ++ rest) ≡ b ∷ percent_decode rest
decode_byte b rest small = step (is_plain_user b) refl where
  step : (e : Bool) → is_plain_user b ≡ e → percent_decode (cond e (b ∷ []) (percent_encode_byte b) ++ rest) ≡ b ∷ percent_decode rest
  step true plain = percent_decode_not_percent b rest (eqb-false b 37 (not_percent b plain))
  step false plain = percent_decode-percent_encode_byte b rest small

user_byte : (b : ℕ) → list_all is_user_byte (escaped_byte b) ≡ true
unfolding percent_encode_byte
user_byte b = step (is_plain_user b) refl where
  step : (e : Bool) → is_plain_user b ≡ e → list_all is_user_byte (cond e (b ∷ []) (percent_encode_byte b)) ≡ true
  step true plain = rw plain refl
  step false plain = rw (glyph_user (b / 16 % 16) (omega arith), glyph_user (b % 16) (omega arith)) refl

well_byte : (b : ℕ) (rest : List ℕ) → escapes_well rest ≡ true → escapes_well (escaped_byte b ++ rest) ≡ true
unfolding percent_encode_byte
well_byte b rest h = step (is_plain_user b) refl where
  step : (e : Bool) → is_plain_user b ≡ e → escapes_well (cond e (b ∷ []) (percent_encode_byte b) ++ rest) ≡ true
  step true plain = rw (not_percent b plain) h
  step false plain =
      let high = b / 16 % 16 in
      let low = b % 16 in
      rw (glyph_hex high (omega arith), glyph_hex low (omega arith), glyph_apart high (omega arith), glyph_apart low (omega arith)) h

-- ---- all bytes

pub decode_escaped : (bs : List ℕ) → AreBytes bs → percent_decode (escaped bs) ≡ bs
unfolding escaped
decode_escaped [] h = percent_decode-nil
decode_escaped (b ∷ bs) h = decode_byte b (escaped bs) h.0 ∙ ap (λ (t : List ℕ). b ∷ t) (decode_escaped bs h.1)

pub escaped_user : (bs : List ℕ) → list_all is_user_byte (escaped bs) ≡ true
unfolding escaped
escaped_user [] = refl
escaped_user (b ∷ bs) = list_all-append is_user_byte (escaped_byte b) (escaped bs) ∙ and_from _ _ (user_byte b) (escaped_user bs)

pub escaped_well : (bs : List ℕ) → escapes_well (escaped bs) ≡ true
unfolding escaped
escaped_well [] = refl
escaped_well (b ∷ bs) = well_byte b (escaped bs) (escaped_well bs)

pub escaped_some : (bs : List ℕ) → 0 < length bs → 0 < length (escaped bs)
unfolding escaped percent_encode_byte
escaped_some [] h = absurd (omega arith)
escaped_some (b ∷ bs) h = step (is_plain_user b) where
  step : (e : Bool) → 0 < length (cond e (b ∷ []) (percent_encode_byte b) ++ escaped bs)
  step true = omega arith
  step false = omega arith
