-- The places of salts in the stream.
use Rattle.std.proofs.Common.{◌≡◌, ◌≢◌, ◌<◌, ◌+◌, ◌*◌, ◌/◌, ◌%◌, ◌^◌, ◌∙◌, ℕ, List, zero, suc, ap, sym, refl, arith}
use Rattle.rand_chacha.specs.ChaCha.{ChaCha}
use Rattle.live.specs.Salts.{behind_salts, next_place}
use Rattle.live.specs.Starts.{begun_at, first_place}

two_more : (x : ℕ) → next_place (next_place x) ≡ (x + 2) % 2 ^ 68
two_more x = omega (arith)

two_behind : (x n : ℕ) → next_place (next_place ((x + 2 * n) % 2 ^ 68)) ≡ (x + 2 * suc n) % 2 ^ 68
two_behind x n = omega (arith)

place_behind : (g : ChaCha) (n : ℕ) → (behind_salts g (suc n)).word_pos ≡ (g.word_pos + 2 * suc n) % 2 ^ 68
place_behind g zero = two_more g.word_pos
place_behind g (suc n) = ap (λ (x : ℕ). next_place (next_place x)) (place_behind g n) ∙ two_behind g.word_pos (suc n)

apart : (x m n : ℕ) → m < n → n < 2 ^ 67 → (x + 2 * m) % 2 ^ 68 ≢ (x + 2 * n) % 2 ^ 68
apart x m n less few = λ same. omega (arith, less, few, same)

-- the first place is not reached again within 2^67 salts
first_apart : (x n : ℕ) → 0 < n → n < 2 ^ 67 → x ≢ (x + 2 * n) % 2 ^ 68
first_apart x n less few = λ same. omega (arith, less, few, same)

pub places_differ : (g : ChaCha) (m n : ℕ) → m < n → n < 2 ^ 67 → (behind_salts g m).word_pos ≢ (behind_salts g n).word_pos
places_differ g m zero less few = λ same. omega (arith, less)
places_differ g zero (suc n) less few = λ same. first_apart g.word_pos (suc n) less few (same ∙ place_behind g n)
places_differ g (suc m) (suc n) less few = λ same. apart g.word_pos (suc m) (suc n) less few (sym (place_behind g m) ∙ same ∙ place_behind g n)

-- no salt changes the stream
stream_behind : (g : ChaCha) (n : ℕ) → (behind_salts g n).stream ≡ g.stream
stream_behind g zero = refl
stream_behind g (suc n) = stream_behind g n

first_within : (nanos : ℕ) → first_place nanos ≡ (first_place nanos + 2 * zero) % 2 ^ 68
first_within nanos = omega (arith)

place_from : (key : List ℕ) (nanos n : ℕ) → (behind_salts (begun_at key nanos) n).word_pos ≡ (first_place nanos + 2 * n) % 2 ^ 68
place_from key nanos zero = first_within nanos
place_from key nanos (suc n) = place_behind (begun_at key nanos) n

starts_apart : (a b m n : ℕ) → a / 1_000 ≢ b / 1_000 → m < 2 ^ 47 → n < 2 ^ 47 → a / 1_000_000_000 ≡ b / 1_000_000_000
    → (first_place a + 2 * m) % 2 ^ 68 ≢ (first_place b + 2 * n) % 2 ^ 68
starts_apart a b m n other few few_there second = λ same. omega (arith, other, few, few_there, second, same)

pub starts_differ : (key : List ℕ) (a b m n : ℕ) → a / 1_000 ≢ b / 1_000 → m < 2 ^ 47 → n < 2 ^ 47
    → (behind_salts (begun_at key a) m).stream ≡ (behind_salts (begun_at key b) n).stream
    → (behind_salts (begun_at key a) m).word_pos ≢ (behind_salts (begun_at key b) n).word_pos
starts_differ key a b m n other few few_there same = λ met. starts_apart a b m n other few few_there
    (sym (stream_behind (begun_at key a) m) ∙ same ∙ stream_behind (begun_at key b) n) (sym (place_from key a m) ∙ met ∙ place_from key b n)
