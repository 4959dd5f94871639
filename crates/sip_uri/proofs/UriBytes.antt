-- Bytes that no URI has.
use Rattle.std.proofs.Common.{◌≡◌, ℕ, Bool, true, false, eqb, List, [], ◌∷◌, refl, sym, ap, subst, ◌∙◌, codes}
use Rattle.std.specs.Char.{to_ascii_lowercase}
use Rattle.std.specs.Str.{str_to_ascii_lowercase}
use Rattle.std.proofs.lemmas.Bool.{eqb-true, eq-eqb, true≢false}
use Rattle.text.proofs.CutLaws.{Lacks, Lacks-append}
use Rattle.sip_uri.specs.Classes.{is_user_byte}
use Rattle.sip_uri.specs.RawUri.{RawUri, raw_text}
use Rattle.sip_uri.specs.Grammar.{Spells}
use Rattle.sip_uri.proofs.RawLaws.{Foreign, raw_text_lacks}

small_lacks : (c : ℕ) → to_ascii_lowercase c ≡ c → (t : List ℕ) → Lacks c (str_to_ascii_lowercase t) → Lacks c t
small_lacks c small [] h = tt
small_lacks c small (b ∷ bs) h = (step (eqb b c) refl, small_lacks c small bs h.1) where
  step : (e : Bool) → eqb b c ≡ e → eqb b c ≡ false
  step false k = k
  step true k = absurd (true≢false (sym (eq-eqb _ c (ap to_ascii_lowercase (eqb-true b c k) ∙ small)) ∙ h.0))

spelled_lacks : (c : ℕ) → Foreign c → is_user_byte c ≡ false → eqb 64 c ≡ false → to_ascii_lowercase c ≡ c → Lacks c (codes "sip:") → (text : List ℕ) (raw : RawUri) → Spells text raw → Lacks c text
spelled_lacks c f out apart small scheme text raw h =
    let begins = h.begins in
    let front : Lacks c begins.scheme = small_lacks c small begins.scheme (subst (λ (t : List ℕ). Lacks c t) (sym begins.is_sip) scheme) in
    subst (λ (t : List ℕ). Lacks c t) (sym begins.whole) (Lacks-append c begins.scheme (raw_text raw) front (raw_text_lacks c f out apart raw h.form))

-- `"`, `<` and `>`
pub lacks_quote : (text : List ℕ) (raw : RawUri) → Spells text raw → Lacks 34 text
lacks_quote = spelled_lacks 34 (record { label = refl; digit = refl; param = refl; header = refl; dot = refl; colon = refl; semicolon = refl; equals = refl; question = refl; ampersand = refl }) refl refl refl (refl, (refl, (refl, (refl, tt))))

pub lacks_opening : (text : List ℕ) (raw : RawUri) → Spells text raw → Lacks 60 text
lacks_opening = spelled_lacks 60 (record { label = refl; digit = refl; param = refl; header = refl; dot = refl; colon = refl; semicolon = refl; equals = refl; question = refl; ampersand = refl }) refl refl refl (refl, (refl, (refl, (refl, tt))))

pub lacks_closing : (text : List ℕ) (raw : RawUri) → Spells text raw → Lacks 62 text
lacks_closing = spelled_lacks 62 (record { label = refl; digit = refl; param = refl; header = refl; dot = refl; colon = refl; semicolon = refl; equals = refl; question = refl; ampersand = refl }) refl refl refl (refl, (refl, (refl, (refl, tt))))

-- a space, CR, LF and NUL
pub lacks_space : (text : List ℕ) (raw : RawUri) → Spells text raw → Lacks 32 text
lacks_space = spelled_lacks 32 (record { label = refl; digit = refl; param = refl; header = refl; dot = refl; colon = refl; semicolon = refl; equals = refl; question = refl; ampersand = refl }) refl refl refl (refl, (refl, (refl, (refl, tt))))

pub lacks_return : (text : List ℕ) (raw : RawUri) → Spells text raw → Lacks 13 text
lacks_return = spelled_lacks 13 (record { label = refl; digit = refl; param = refl; header = refl; dot = refl; colon = refl; semicolon = refl; equals = refl; question = refl; ampersand = refl }) refl refl refl (refl, (refl, (refl, (refl, tt))))

pub lacks_feed : (text : List ℕ) (raw : RawUri) → Spells text raw → Lacks 10 text
lacks_feed = spelled_lacks 10 (record { label = refl; digit = refl; param = refl; header = refl; dot = refl; colon = refl; semicolon = refl; equals = refl; question = refl; ampersand = refl }) refl refl refl (refl, (refl, (refl, (refl, tt))))

pub lacks_nul : (text : List ℕ) (raw : RawUri) → Spells text raw → Lacks 0 text
lacks_nul = spelled_lacks 0 (record { label = refl; digit = refl; param = refl; header = refl; dot = refl; colon = refl; semicolon = refl; equals = refl; question = refl; ampersand = refl }) refl refl refl (refl, (refl, (refl, (refl, tt))))
