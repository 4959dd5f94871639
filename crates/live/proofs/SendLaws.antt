-- Datagrams that are sent one after the other.
use Rattle.std.proofs.Common.{◌≡◌, ◌∙◌, ℕ, ◌+◌, true, false, List, [], ◌∷◌, ◌++◌, inl, inr, refl, sym, ap, subst, append_assoc, arith}
use Rattle.std.proofs.lemmas.List.{append-nil}
use Rattle.events.specs.declared.sent.Sent.{Sent}
use Rattle.live.specs.Sending.{Sends, Tried, Went, tried_one}
use Rattle.live.specs.States.{OnlySends, WireState}

-- some, and then others
pub went_more : (a b g h : List Sent) (m n : ℕ) → Went a g m → Went b h n → Went (a ++ b) (g ++ h) (m + n)
went_more [] b g h m n x y =
    let none : m ≡ 0 = x.1 in
    subst (λ (t : List Sent). Went b (t ++ h) (m + n)) (sym x.0) (subst (Went b h) (omega (arith, none)) y)
went_more (d ∷ ds) b g h m n (inl x) y = inl (x.0 ++ h, ap (λ (t : List Sent). t ++ h) x.1, went_more ds b x.0 h m n x.2 y)
went_more (d ∷ ds) b g h m n (inr x) y =
    let more : m ≡ 1 + x.0 = x.1 in
    inr (x.0 + n, omega (arith, more), went_more ds b g h x.0 n x.2 y)

pub sends_more : (s s1 s2 : Tried) (a b : List Sent) (m n : ℕ) → Sends s s1 a m → Sends s1 s2 b n → Sends s s2 (a ++ b) (m + n)
sends_more s s1 s2 a b m n x y = record {
  asked = y.asked ∙ ap (λ (t : List Sent). t ++ b) x.asked ∙ append_assoc s.asked a b;
  gone = x.gone ++ y.gone;
  sent = y.sent ∙ ap (λ (t : List Sent). t ++ y.gone) x.sent ∙ append_assoc s.sent x.gone y.gone;
  went = went_more a b x.gone y.gone m n x.went y.went;
}

pub sends_none : (s : Tried) → Sends s s [] 0
sends_none s = record { asked = sym (append-nil s.asked); gone = []; sent = sym (append-nil s.sent); went = (refl, refl) }

-- one that went, and one that failed
pub sends_one : (s after : Tried) (d : Sent) → after ≡ tried_one s d false → Sends s after (d ∷ []) 0
sends_one s after d is = record {
  asked = ap (λ (t : Tried). t.asked) is;
  gone = d ∷ [];
  sent = ap (λ (t : Tried). t.sent) is;
  went = inl ([], refl, (refl, refl));
}

pub fails_one : (s after : Tried) (d : Sent) → after ≡ tried_one s d true → Sends s after (d ∷ []) 1
fails_one s after d is = record {
  asked = ap (λ (t : Tried). t.asked) is;
  gone = [];
  sent = ap (λ (t : Tried). t.sent) is ∙ sym (append-nil s.sent);
  went = inr (0, refl, (refl, refl));
}

-- ---- nothing else

pub only_sends_more : (a b c : WireState) → OnlySends a b → OnlySends b c → OnlySends a c
only_sends_more a b c h k = record { taken = k.taken ∙ h.taken; rooms = k.rooms ∙ h.rooms; waited = k.waited ∙ h.waited }
