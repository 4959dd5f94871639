-- The list of the server's calls next to that of a trace, as one call of it changes.
use Rattle.std.proofs.Common.{◌≡◌, ◌∙◌, ℕ, zero, suc, true, false, List, [], ◌∷◌, ◌++◌, Some, refl, ap, sym, subst, inl, inr}
use Rattle.std.specs.Prelude.{slice_get, slice_set, remove}
use Rattle.std.specs.List.{All}
use Rattle.std.proofs.lemmas.Bool.{false≢true}
use Rattle.std.proofs.lemmas.List.Elements.{All-head, All-tail}
use Rattle.std.proofs.lemmas.Option.{none-some, same_Some}
use Rattle.calls.specs.declared.standing_call.StandingCall.{StandingCall}
use Rattle.call_trace.specs.declared.call.Call.{Call}
use Rattle.message_laws.proofs.Askers.AskedCalls.{Besides}
use Rattle.media_laws.specs.Listing.{Listed, is_listed}

-- where the trace has the call that the server has at a place
abbrev pub spot : (P : StandingCall → Call → Type 0) (cs : List StandingCall) (ds : List Call) → Listed P cs ds → ℕ → ℕ
spot P [] ds h k = 0
spot P (c ∷ cs) ds (inl h) zero = 0
spot P (c ∷ cs) ds (inl h) (suc k) = spot P cs ds h.1 k
spot P (c ∷ cs) ds (inr h) zero = 0
spot P (c ∷ cs) ds (inr h) (suc k) = suc (spot P cs h.2 h.5 k)

-- a call that both list
pub spot_at : (P : StandingCall → Call → Type 0) (cs : List StandingCall) (ds : List Call) (h : Listed P cs ds) (k : ℕ) (c : StandingCall) → slice_get cs k ≡ Some c → is_listed c ≡ true
    → (d : Call) × (slice_get ds (spot P cs ds h k) ≡ Some d) × P c d
spot_at P [] ds h k c there is = absurd (none-some c there)
spot_at P (x ∷ cs) ds (inl h) zero c there is = absurd (false≢true (sym h.0 ∙ (ap is_listed (same_Some x c there) ∙ is)))
spot_at P (x ∷ cs) ds (inl h) (suc k) c there is = spot_at P cs ds h.1 k c there is
spot_at P (x ∷ cs) ds (inr h) zero c there is = (h.1, subst (λ l. slice_get l 0 ≡ Some h.1) (sym h.3) refl, subst (λ z. P z h.1) (same_Some x c there) h.4)
spot_at P (x ∷ cs) ds (inr h) (suc k) c there is =
    let found = spot_at P cs h.2 h.5 k c there is in
    (found.0, subst (λ l. slice_get l (suc (spot P cs h.2 h.5 k)) ≡ Some found.0) (sym h.3) found.1, found.2)

-- ---- no call changes

pub listed_weaker : (P Q : StandingCall → Call → Type 0) → ((x : StandingCall) (y : Call) → P x y → Q x y) → (cs : List StandingCall) (ds : List Call) → Listed P cs ds → Listed Q cs ds
listed_weaker P Q f [] ds h = h
listed_weaker P Q f (x ∷ cs) ds (inl h) = inl (h.0, listed_weaker P Q f cs ds h.1)
listed_weaker P Q f (x ∷ cs) ds (inr h) = inr (h.0, h.1, h.2, h.3, f x h.1 h.4, listed_weaker P Q f cs h.2 h.5)

-- of all that are R
pub listed_all : (P Q : StandingCall → Call → Type 0) (R : StandingCall → Type 0) → ((x : StandingCall) (y : Call) → P x y → R x → Q x y) → (cs : List StandingCall) (ds : List Call) → All R cs → Listed P cs ds
    → Listed Q cs ds
listed_all P Q R f [] ds all h = h
listed_all P Q R f (x ∷ cs) ds all (inl h) = inl (h.0, listed_all P Q R f cs ds (All-tail R x cs all) h.1)
listed_all P Q R f (x ∷ cs) ds all (inr h) = inr (h.0, h.1, h.2, h.3, f x h.1 h.4 (All-head R x cs all), listed_all P Q R f cs h.2 (All-tail R x cs all) h.5)

-- ---- one call changes, and those beside it are R

module _ (P Q : StandingCall → Call → Type 0) (R : StandingCall → Type 0) (f : (x : StandingCall) (y : Call) → P x y → R x → Q x y) where
  -- it goes on in both
  pub listed_set : (cs : List StandingCall) (ds : List Call) (h : Listed P cs ds) (k : ℕ) (c new : StandingCall) (d : Call) → slice_get cs k ≡ Some c → is_listed c ≡ true → is_listed new ≡ true → Q new d → Besides cs k R
      → Listed Q (slice_set cs k new) (slice_set ds (spot P cs ds h k) d)
  listed_set [] ds h k c new d there was is q beside = absurd (none-some c there)
  listed_set (x ∷ cs) ds (inl h) zero c new d there was is q beside = absurd (false≢true (sym h.0 ∙ (ap is_listed (same_Some x c there) ∙ was)))
  listed_set (x ∷ cs) ds (inl h) (suc k) c new d there was is q beside = inl (h.0, listed_set cs ds h.1 k c new d there was is q beside.1)
  listed_set (x ∷ cs) ds (inr h) zero c new d there was is q beside =
      inr (is, d, h.2, ap (λ l. slice_set l 0 d) h.3, q, listed_all P Q R f cs h.2 beside h.5)
  listed_set (x ∷ cs) ds (inr h) (suc k) c new d there was is q beside =
      inr (
        h.0,
        h.1,
        slice_set h.2 (spot P cs h.2 h.5 k) d,
        ap (λ l. slice_set l (suc (spot P cs h.2 h.5 k)) d) h.3,
        f x h.1 h.4 beside.0,
        listed_set cs h.2 h.5 k c new d there was is q beside.1,
      )

  -- the trace no longer lists it
  pub listed_hidden : (cs : List StandingCall) (ds : List Call) (h : Listed P cs ds) (k : ℕ) (c new : StandingCall) → slice_get cs k ≡ Some c → is_listed c ≡ true → is_listed new ≡ false → Besides cs k R
      → Listed Q (slice_set cs k new) (remove ds (spot P cs ds h k))
  listed_hidden [] ds h k c new there was is beside = absurd (none-some c there)
  listed_hidden (x ∷ cs) ds (inl h) zero c new there was is beside = absurd (false≢true (sym h.0 ∙ (ap is_listed (same_Some x c there) ∙ was)))
  listed_hidden (x ∷ cs) ds (inl h) (suc k) c new there was is beside = inl (h.0, listed_hidden cs ds h.1 k c new there was is beside.1)
  listed_hidden (x ∷ cs) ds (inr h) zero c new there was is beside =
      inl (is, subst (Listed Q cs) (ap (λ l. remove l 0) (sym h.3)) (listed_all P Q R f cs h.2 beside h.5))
  listed_hidden (x ∷ cs) ds (inr h) (suc k) c new there was is beside =
      inr (
        h.0,
        h.1,
        remove h.2 (spot P cs h.2 h.5 k),
        ap (λ l. remove l (suc (spot P cs h.2 h.5 k))) h.3,
        f x h.1 h.4 beside.0,
        listed_hidden cs h.2 h.5 k c new there was is beside.1,
      )

  -- both no longer list it
  pub listed_gone : (cs : List StandingCall) (ds : List Call) (h : Listed P cs ds) (k : ℕ) (c : StandingCall) → slice_get cs k ≡ Some c → is_listed c ≡ true → Besides cs k R
      → Listed Q (remove cs k) (remove ds (spot P cs ds h k))
  listed_gone [] ds h k c there was beside = absurd (none-some c there)
  listed_gone (x ∷ cs) ds (inl h) zero c there was beside = absurd (false≢true (sym h.0 ∙ (ap is_listed (same_Some x c there) ∙ was)))
  listed_gone (x ∷ cs) ds (inl h) (suc k) c there was beside = inl (h.0, listed_gone cs ds h.1 k c there was beside.1)
  listed_gone (x ∷ cs) ds (inr h) zero c there was beside =
      subst (Listed Q cs) (ap (λ l. remove l 0) (sym h.3)) (listed_all P Q R f cs h.2 beside h.5)
  listed_gone (x ∷ cs) ds (inr h) (suc k) c there was beside =
      inr (
        h.0,
        h.1,
        remove h.2 (spot P cs h.2 h.5 k),
        ap (λ l. remove l (suc (spot P cs h.2 h.5 k))) h.3,
        f x h.1 h.4 beside.0,
        listed_gone cs h.2 h.5 k c there was beside.1,
      )

  -- a call that the trace does not list, as it goes on, and as it goes
  pub unlisted_set : (cs : List StandingCall) (ds : List Call) (k : ℕ) (c new : StandingCall) → Listed P cs ds → slice_get cs k ≡ Some c → is_listed c ≡ false → is_listed new ≡ false → Besides cs k R
      → Listed Q (slice_set cs k new) ds
  unlisted_set [] ds k c new h there was is beside = absurd (none-some c there)
  unlisted_set (x ∷ cs) ds zero c new (inl h) there was is beside = inl (is, listed_all P Q R f cs ds beside h.1)
  unlisted_set (x ∷ cs) ds zero c new (inr h) there was is beside = absurd (false≢true (sym was ∙ (ap is_listed (sym (same_Some x c there)) ∙ h.0)))
  unlisted_set (x ∷ cs) ds (suc k) c new (inl h) there was is beside = inl (h.0, unlisted_set cs ds k c new h.1 there was is beside.1)
  unlisted_set (x ∷ cs) ds (suc k) c new (inr h) there was is beside = inr (h.0, h.1, h.2, h.3, f x h.1 h.4 beside.0, unlisted_set cs h.2 k c new h.5 there was is beside.1)

  pub unlisted_gone : (cs : List StandingCall) (ds : List Call) (k : ℕ) (c : StandingCall) → Listed P cs ds → slice_get cs k ≡ Some c → is_listed c ≡ false → Besides cs k R → Listed Q (remove cs k) ds
  unlisted_gone [] ds k c h there was beside = absurd (none-some c there)
  unlisted_gone (x ∷ cs) ds zero c (inl h) there was beside = listed_all P Q R f cs ds beside h.1
  unlisted_gone (x ∷ cs) ds zero c (inr h) there was beside = absurd (false≢true (sym was ∙ (ap is_listed (sym (same_Some x c there)) ∙ h.0)))
  unlisted_gone (x ∷ cs) ds (suc k) c (inl h) there was beside = inl (h.0, unlisted_gone cs ds k c h.1 there was beside.1)
  unlisted_gone (x ∷ cs) ds (suc k) c (inr h) there was beside = inr (h.0, h.1, h.2, h.3, f x h.1 h.4 beside.0, unlisted_gone cs h.2 k c h.5 there was beside.1)

  -- a call begins in both
  pub listed_pushed : (cs : List StandingCall) (ds : List Call) (new : StandingCall) (d : Call) → Listed P cs ds → is_listed new ≡ true → Q new d → All R cs → Listed Q (cs ++ new ∷ []) (ds ++ d ∷ [])
  listed_pushed [] ds new d h is q all = inr (is, d, [], ap (λ l. l ++ d ∷ []) h, q, refl)
  listed_pushed (x ∷ cs) ds new d (inl h) is q all = inl (h.0, listed_pushed cs ds new d h.1 is q (All-tail R x cs all))
  listed_pushed (x ∷ cs) ds new d (inr h) is q all =
      inr (h.0, h.1, h.2 ++ d ∷ [], ap (λ l. l ++ d ∷ []) h.3, f x h.1 h.4 (All-head R x cs all), listed_pushed cs h.2 new d h.5 is q (All-tail R x cs all))
