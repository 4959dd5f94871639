-- Lists of the live calls: what one of them does leaves the others as they are.
use Rattle.std.proofs.Common.{◌≡◌, ◌≢◌, ◌∙◌, ◌<◌, ◌≤◌, ◌++◌, inl, inr, ℕ, zero, suc, List, [], ◌∷◌, set, Some, refl, sym, ap, subst, arith}
use Rattle.std.specs.Prelude.{slice_get}
use Rattle.std.specs.List.{remove}
use Rattle.std.proofs.Math.Nat.{ne_of_lt}
use Rattle.port_pool.specs.Pool.{Contents}
use Rattle.call_core.specs.declared.call.Call.{Call}
use Rattle.call_core.specs.Calls.{IsServed}
use Rattle.call_media.specs.Serving.{SameFor, SparesOthers}
use Rattle.calls.specs.State.{AreServed, RiseTo}
use Rattle.calls.specs.declared.standing_call.StandingCall.{StandingCall}
use Rattle.call_trace.specs.Listed.{AllOf, AnyOf}

-- ---- numbers

-- none of them has this number
abbrev pub Differ : ℕ → List StandingCall → Type 0
Differ n cs = AllOf (λ (c : StandingCall). c.call.number ≢ n) cs

above_differ : (n last begun : ℕ) (cs : List StandingCall) → n ≤ last → RiseTo last begun cs → Differ n cs
above_differ n last begun [] le rise = tt
above_differ n last begun (c ∷ cs) le rise =
    let above : n < c.call.number = omega (arith, le, rise.0) in
    (λ same. ne_of_lt above (sym same), above_differ n c.call.number begun cs (omega (arith, above)) rise.1)

there_above : (last begun : ℕ) (cs : List StandingCall) (place : ℕ) (c : StandingCall) → RiseTo last begun cs → slice_get cs place ≡ Some c → last < c.call.number
there_above last begun [] place c rise is = absurd cc
there_above last begun (x ∷ xs) zero c rise is = let same : x ≡ c = cc in subst (λ (y : StandingCall). last < y.call.number) same rise.0
there_above last begun (x ∷ xs) (suc k) c rise is =
    let later = there_above x.call.number begun xs k c rise.1 is in omega (arith, rise.0, later)

last_within : (last begun : ℕ) (cs : List StandingCall) → RiseTo last begun cs → last ≤ begun
last_within last begun [] rise = rise
last_within last begun (x ∷ xs) rise = let later = last_within x.call.number begun xs rise.1 in omega (arith, rise.0, later)

-- one that comes has another number than each
pub new_differs : (n last begun : ℕ) (cs : List StandingCall) → begun < n → RiseTo last begun cs → Differ n cs
new_differs n last begun [] above rise = tt
new_differs n last begun (x ∷ xs) above rise =
    let within = last_within x.call.number begun xs rise.1 in
    (ne_of_lt (omega (arith, within, above)), new_differs n x.call.number begun xs above rise.1)

-- ---- some call has a number

abbrev pub HasNumber : ℕ → List StandingCall → Type 0
HasNumber n cs = AnyOf (λ (c : StandingCall). c.call.number ≡ n) cs

pub number_there : (cs : List StandingCall) (place : ℕ) (c : StandingCall) → slice_get cs place ≡ Some c → HasNumber c.call.number cs
number_there [] place c is = absurd cc
number_there (x ∷ xs) zero c is = let same : x ≡ c = cc in inl (ap (λ (y : StandingCall). y.call.number) same)
number_there (x ∷ xs) (suc k) c is = inr (number_there xs k c is)

pub number_set : (n : ℕ) (cs : List StandingCall) (place : ℕ) (c new : StandingCall) → slice_get cs place ≡ Some c → new.call.number ≡ c.call.number → HasNumber n cs → HasNumber n (set cs place new)
number_set n [] place c new is number any = absurd any
number_set n (x ∷ xs) zero c new is number (inl e) = let same : x ≡ c = cc in inl (number ∙ sym (ap (λ (y : StandingCall). y.call.number) same) ∙ e)
number_set n (x ∷ xs) zero c new is number (inr later) = inr later
number_set n (x ∷ xs) (suc k) c new is number (inl e) = inl e
number_set n (x ∷ xs) (suc k) c new is number (inr later) = inr (number_set n xs k c new is number later)

pub number_left : (n : ℕ) (cs : List StandingCall) (place : ℕ) (c : StandingCall) → slice_get cs place ≡ Some c → (c.call.number ≡ n → ⊥) → HasNumber n cs → HasNumber n (remove cs place)
number_left n [] place c is differ any = absurd any
number_left n (x ∷ xs) zero c is differ (inl e) = let same : x ≡ c = cc in absurd (differ (sym (ap (λ (y : StandingCall). y.call.number) same) ∙ e))
number_left n (x ∷ xs) zero c is differ (inr later) = later
number_left n (x ∷ xs) (suc k) c is differ (inl e) = inl e
number_left n (x ∷ xs) (suc k) c is differ (inr later) = inr (number_left n xs k c is differ later)

pub number_pushed : (n : ℕ) (cs : List StandingCall) (new : StandingCall) → HasNumber n cs → HasNumber n (cs ++ new ∷ [])
number_pushed n [] new any = absurd any
number_pushed n (x ∷ xs) new (inl e) = inl e
number_pushed n (x ∷ xs) new (inr later) = inr (number_pushed n xs new later)

pub number_last : (cs : List StandingCall) (new : StandingCall) → HasNumber new.call.number (cs ++ new ∷ [])
number_last [] new = inl refl
number_last (x ∷ xs) new = inr (number_last xs new)

-- ---- lists of what holds of each

pub all_at : {X : Type 0} (P : X → Type 0) (xs : List X) (place : ℕ) (x : X) → AllOf P xs → slice_get xs place ≡ Some x → P x
all_at P [] place x all is = absurd cc
all_at P (y ∷ ys) zero x all is = let same : y ≡ x = cc in subst P same all.0
all_at P (y ∷ ys) (suc k) x all is = all_at P ys k x all.1 is

pub all_weaker : {X : Type 0} (P Q : X → Type 0) → ((x : X) → P x → Q x) → (xs : List X) → AllOf P xs → AllOf Q xs
all_weaker P Q weaker [] all = tt
all_weaker P Q weaker (x ∷ xs) all = (weaker x all.0, all_weaker P Q weaker xs all.1)

pub all_put : {X : Type 0} (P : X → Type 0) (xs : List X) (place : ℕ) (x : X) → P x → AllOf P xs → AllOf P (set xs place x)
all_put P [] place x here all = tt
all_put P (y ∷ ys) zero x here all = (here, all.1)
all_put P (y ∷ ys) (suc k) x here all = (all.0, all_put P ys k x here all.1)

pub all_with_served : (P : StandingCall → Type 0) (pool : Contents) (cs : List StandingCall) → AreServed pool cs → AllOf P cs → AllOf (λ c. IsServed c.call pool × P c) cs
all_with_served P pool [] served all = tt
all_with_served P pool (c ∷ cs) served all = ((served.0, all.0), all_with_served P pool cs served.1 all.1)

-- ---- what holds of each call with its pool, where a pool that is the same for the call will do as well

module _ (P : Contents → Call → Type 0) (spared : (c : Call) (pool after : Contents) → P pool c → SameFor c.number pool after → P after c) where
  pub all_spared : (n : ℕ) (pool after : Contents) → SparesOthers n pool after → (cs : List StandingCall) → Differ n cs → AllOf (λ c. P pool c.call) cs → AllOf (λ c. P after c.call) cs
  all_spared n pool after spares [] differ all = tt
  all_spared n pool after spares (x ∷ xs) differ all = (spared x.call pool after all.0 (spares x.call.number differ.0), all_spared n pool after spares xs differ.1 all.1)

  pub all_set : (last begun : ℕ) (cs : List StandingCall) (place : ℕ) (c new : StandingCall) (pool after : Contents) → RiseTo last begun cs → slice_get cs place ≡ Some c
      → SparesOthers c.call.number pool after → AllOf (λ c. P pool c.call) cs → P after new.call → AllOf (λ c. P after c.call) (set cs place new)
  all_set last begun [] place c new pool after rise is spares all here = absurd cc
  all_set last begun (x ∷ xs) zero c new pool after rise is spares all here =
      let same : x ≡ c = cc in
      let above : RiseTo c.call.number begun xs = subst (λ (y : StandingCall). RiseTo y.call.number begun xs) same rise.1 in
      (here, all_spared c.call.number pool after spares xs (above_differ c.call.number c.call.number begun xs (omega arith) above) all.1)
  all_set last begun (x ∷ xs) (suc k) c new pool after rise is spares all here =
      let later = there_above x.call.number begun xs k c rise.1 is in
      (spared x.call pool after all.0 (spares x.call.number (ne_of_lt later)), all_set x.call.number begun xs k c new pool after rise.1 is spares all.1 here)

  pub all_left : (last begun : ℕ) (cs : List StandingCall) (place : ℕ) (c : StandingCall) (pool after : Contents) → RiseTo last begun cs → slice_get cs place ≡ Some c
      → SparesOthers c.call.number pool after → AllOf (λ c. P pool c.call) cs → AllOf (λ c. P after c.call) (remove cs place)
  all_left last begun [] place c pool after rise is spares all = absurd cc
  all_left last begun (x ∷ xs) zero c pool after rise is spares all =
      let same : x ≡ c = cc in
      let above : RiseTo c.call.number begun xs = subst (λ (y : StandingCall). RiseTo y.call.number begun xs) same rise.1 in
      all_spared c.call.number pool after spares xs (above_differ c.call.number c.call.number begun xs (omega arith) above) all.1
  all_left last begun (x ∷ xs) (suc k) c pool after rise is spares all =
      let later = there_above x.call.number begun xs k c rise.1 is in
      (spared x.call pool after all.0 (spares x.call.number (ne_of_lt later)), all_left x.call.number begun xs k c pool after rise.1 is spares all.1)

  pub all_pushed : (pool : Contents) (cs : List StandingCall) (new : StandingCall) → AllOf (λ c. P pool c.call) cs → P pool new.call → AllOf (λ c. P pool c.call) (cs ++ new ∷ [])
  all_pushed pool [] new all here = (here, tt)
  all_pushed pool (x ∷ xs) new all here = (all.0, all_pushed pool xs new all.1 here)
