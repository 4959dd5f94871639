-- What one call does leaves all others served, and each number its call's.
use Rattle.std.proofs.Common.{◌≡◌, ◌≢◌, ◌∙◌, ◌<◌, ◌≤◌, ◌+◌, ◌++◌, ℕ, zero, suc, Bool, true, false, cond, is_some, List, [], ◌∷◌, length, get_or, set, Option, Some, None, refl, sym, ap, subst, arith}
use Rattle.std.specs.Prelude.{IfSome, map, option_and_then, option_map, slice_get}
use Rattle.std.specs.List.{find, range_with_len, remove}
use Rattle.std.proofs.Math.Nat.{ne_of_lt}
use Rattle.port_pool.specs.declared.holdings.Holding.{Holding}
use Rattle.port_pool.specs.Holdings.{even_of, has_even, is_call, unheld}
use Rattle.port_pool.specs.Pool as pools
use Rattle.call_core.specs.declared.call.Call.{Call}
use Rattle.call_core.specs.Calls.{IsServed, with_dialog, with_target}
use Rattle.call_media.specs.declared.end.End.{End}
use Rattle.call_media.specs.declared.end.End.TheVariants.{Caller, Callee}
use Rattle.dialogs.specs.declared.state.Dialog.{Dialog}
use Rattle.call_media.specs.Serving.{SameFor, SparesOthers}
use Rattle.calls.specs.declared.standing_call.StandingCall.{StandingCall}
use Rattle.calls.specs.declared.standing_call.TakenOffer.{TakenOffer}
use Rattle.sip_uri.specs.declared.uri.Uri.{Uri}
use Rattle.calls.specs.State.{AreKept, AreServed, HoldsNone, RiseTo}
use Rattle.calls.specs.declared.change.Beside.{Beside}
use Rattle.calls.specs.declared.change.LegDialog.{LegDialog}
use Rattle.calls.specs.Carrying.{offerer_of, pushed, reached_call, without_gone}
use Rattle.calls.specs.Changes.{beside, with_last, with_leg, with_taken_if}
use Rattle.events.specs.declared.sent.Sent.{Sent}

-- a call that has the same pairs and the same rows at them is served as before
abbrev pub Spared : Type 0
Spared = (call : Call) (pool after : pools.Contents) → IsServed call pool → SameFor call.number pool after → IsServed call after

-- ---- numbers

-- none of them has this number
abbrev Differ : ℕ → List StandingCall → Type 0
Differ n [] = Unit {0}
Differ n (c ∷ cs) = (c.call.number ≢ n) × Differ n cs

above_differ : (n last begun : ℕ) (cs : List StandingCall) → n ≤ last → RiseTo last begun cs → Differ n cs
above_differ n last begun [] le rise = tt
above_differ n last begun (c ∷ cs) le rise =
    let above : n < c.call.number = omega (arith, le, rise.0) in
    (λ same. ne_of_lt above (sym same), above_differ n c.call.number begun cs (omega (arith, above)) rise.1)

there_above : (last begun : ℕ) (cs : List StandingCall) (place : ℕ) (c : StandingCall) → RiseTo last begun cs → slice_get cs place ≡ Some c → last < c.call.number
there_above last begun [] place c rise is = absurd cc
there_above last begun (x ∷ xs) zero c rise is = let same : x ≡ c = cc in subst (λ (y : StandingCall). last < y.call.number) same rise.0
there_above last begun (x ∷ xs) (suc k) c rise is =
    let later = there_above x.call.number begun xs k c rise.1 is in omega (arith, rise.0, later)

last_within : (last begun : ℕ) (cs : List StandingCall) → RiseTo last begun cs → last ≤ begun
last_within last begun [] rise = rise
last_within last begun (x ∷ xs) rise = let later = last_within x.call.number begun xs rise.1 in omega (arith, rise.0, later)

there_within : (last begun : ℕ) (cs : List StandingCall) (place : ℕ) (c : StandingCall) → RiseTo last begun cs → slice_get cs place ≡ Some c → c.call.number ≤ begun
there_within last begun [] place c rise is = absurd cc
there_within last begun (x ∷ xs) zero c rise is =
    let same : x ≡ c = cc in subst (λ (y : StandingCall). y.call.number ≤ begun) same (last_within x.call.number begun xs rise.1)
there_within last begun (x ∷ xs) (suc k) c rise is = there_within x.call.number begun xs k c rise.1 is

rise_set : (last begun : ℕ) (cs : List StandingCall) (place : ℕ) (c new : StandingCall) → RiseTo last begun cs → slice_get cs place ≡ Some c
    → new.call.number ≡ c.call.number → RiseTo last begun (set cs place new)
rise_set last begun [] place c new rise is number = absurd cc
rise_set last begun (x ∷ xs) zero c new rise is number =
    let same : x ≡ c = cc in
    let as_before : x.call.number ≡ new.call.number = ap (λ (y : StandingCall). y.call.number) same ∙ sym number in
    subst (λ n. (last < n) × RiseTo n begun xs) as_before rise
rise_set last begun (x ∷ xs) (suc k) c new rise is number = (rise.0, rise_set x.call.number begun xs k c new rise.1 is number)

rise_from : (last less begun : ℕ) (cs : List StandingCall) → less ≤ last → RiseTo last begun cs → RiseTo less begun cs
rise_from last less begun [] le rise = omega (arith, le, rise)
rise_from last less begun (x ∷ xs) le rise = (omega (arith, le, rise.0), rise.1)

rise_remove : (last begun : ℕ) (cs : List StandingCall) (place : ℕ) → RiseTo last begun cs → RiseTo last begun (remove cs place)
rise_remove last begun [] zero rise = rise
rise_remove last begun [] (suc k) rise = rise
rise_remove last begun (x ∷ xs) zero rise = rise_from x.call.number last begun xs (omega (arith, rise.0)) rise.1
rise_remove last begun (x ∷ xs) (suc k) rise = (rise.0, rise_remove x.call.number begun xs k rise.1)

rise_push : (last begun : ℕ) (cs : List StandingCall) (new : StandingCall) → RiseTo last begun cs → new.call.number ≡ begun + 1
    → RiseTo last (begun + 1) (cs ++ new ∷ [])
rise_push last begun [] new rise number = (omega (arith, rise, number), omega (arith, number))
rise_push last begun (x ∷ xs) new rise number = (rise.0, rise_push x.call.number begun xs new rise.1 number)

rise_on : (last begun : ℕ) (cs : List StandingCall) → RiseTo last begun cs → RiseTo last (begun + 1) cs
rise_on last begun [] rise = omega (arith, rise)
rise_on last begun (x ∷ xs) rise = (rise.0, rise_on x.call.number begun xs rise.1)

-- ---- all are served

spared_all : Spared → (n : ℕ) (pool after : pools.Contents) → SparesOthers n pool after → (cs : List StandingCall) → Differ n cs
    → AreServed pool cs → AreServed after cs
spared_all law n pool after spares [] differ served = tt
spared_all law n pool after spares (x ∷ xs) differ served =
    (law x.call pool after served.0 (spares x.call.number differ.0), spared_all law n pool after spares xs differ.1 served.1)

served_set : Spared → (last begun : ℕ) (cs : List StandingCall) (place : ℕ) (c new : StandingCall) (pool after : pools.Contents)
    → RiseTo last begun cs → slice_get cs place ≡ Some c → SparesOthers c.call.number pool after → AreServed pool cs → IsServed new.call after
    → AreServed after (set cs place new)
served_set law last begun [] place c new pool after rise is spares served here = absurd cc
served_set law last begun (x ∷ xs) zero c new pool after rise is spares served here =
    let same : x ≡ c = cc in
    let above : RiseTo c.call.number begun xs = subst (λ (y : StandingCall). RiseTo y.call.number begun xs) same rise.1 in
    (here, spared_all law c.call.number pool after spares xs (above_differ c.call.number c.call.number begun xs (omega arith) above) served.1)
served_set law last begun (x ∷ xs) (suc k) c new pool after rise is spares served here =
    let later = there_above x.call.number begun xs k c rise.1 is in (
      law x.call pool after served.0 (spares x.call.number (ne_of_lt later)),
      served_set law x.call.number begun xs k c new pool after rise.1 is spares served.1 here,
    )

served_remove : (pool : pools.Contents) (cs : List StandingCall) (place : ℕ) → AreServed pool cs → AreServed pool (remove cs place)
served_remove pool [] zero served = served
served_remove pool [] (suc k) served = served
served_remove pool (x ∷ xs) zero served = served.1
served_remove pool (x ∷ xs) (suc k) served = (served.0, served_remove pool xs k served.1)

served_push : (pool : pools.Contents) (cs : List StandingCall) (new : StandingCall) → AreServed pool cs → IsServed new.call pool
    → AreServed pool (cs ++ new ∷ [])
served_push pool [] new served here = (here, tt)
served_push pool (x ∷ xs) new served here = (served.0, served_push pool xs new served.1 here)

pub served_at : (pool : pools.Contents) (cs : List StandingCall) (place : ℕ) (c : StandingCall) → AreServed pool cs → slice_get cs place ≡ Some c → IsServed c.call pool
served_at pool [] place c served is = absurd cc
served_at pool (x ∷ xs) zero c served is = let same : x ≡ c = cc in subst (λ (y : StandingCall). IsServed y.call pool) same served.0
served_at pool (x ∷ xs) (suc k) c served is = served_at pool xs k c served.1 is

none_after : (pool after : pools.Contents) (n begun : ℕ) → HoldsNone pool begun → SparesOthers n pool after → n ≤ begun → HoldsNone after begun
none_after pool after n begun none spares within = λ number port above.
    let other : number ≢ n = λ same. ne_of_lt (let up : n < number = omega (arith, within, above) in up) (sym same) in
    (spares number other).ports port ∙ none number port above

-- ---- together

pub kept_set : Spared → (cs : List StandingCall) (place : ℕ) (c new : StandingCall) (pool after : pools.Contents) (begun : ℕ) → AreKept cs pool begun
    → slice_get cs place ≡ Some c → new.call.number ≡ c.call.number → SparesOthers c.call.number pool after → IsServed new.call after
    → AreKept (set cs place new) after begun
kept_set law cs place c new pool after begun kept is number spares here = record {
  served = served_set law 0 begun cs place c new pool after kept.numbers is spares kept.served here;
  numbers = rise_set 0 begun cs place c new kept.numbers is number;
  none = none_after pool after c.call.number begun kept.none spares (there_within 0 begun cs place c kept.numbers is);
}

pub kept_remove : (cs : List StandingCall) (place : ℕ) (pool : pools.Contents) (begun : ℕ) → AreKept cs pool begun → AreKept (remove cs place) pool begun
kept_remove cs place pool begun kept = record {
  served = served_remove pool cs place kept.served;
  numbers = rise_remove 0 begun cs place kept.numbers;
  none = kept.none;
}

gone_by : (cs : List StandingCall) (place : ℕ) (pool : pools.Contents) (begun : ℕ) (stands : Bool) → AreKept cs pool begun
    → AreKept (cond stands cs (remove cs place)) pool begun
gone_by cs place pool begun true kept = kept
gone_by cs place pool begun false kept = kept_remove cs place pool begun kept

-- a call that is gone is taken off the list
pub kept_gone : (cs : List StandingCall) (place : ℕ) (pool : pools.Contents) (begun : ℕ) (c : Option StandingCall) → AreKept cs pool begun
    → AreKept (without_gone cs place c) pool begun
kept_gone cs place pool begun None kept = kept
kept_gone cs place pool begun (Some c) kept = gone_by cs place pool begun (is_some c.call.standing) kept

-- ---- a call that begins

differ_all : (n last begun : ℕ) (cs : List StandingCall) → begun < n → RiseTo last begun cs → Differ n cs
differ_all n last begun [] above rise = tt
differ_all n last begun (x ∷ xs) above rise =
    let within = last_within x.call.number begun xs rise.1 in
    (ne_of_lt (omega (arith, within, above)), differ_all n x.call.number begun xs above rise.1)

spared_calls : Spared → (cs : List StandingCall) (n : ℕ) (pool after : pools.Contents) (begun : ℕ) → AreKept cs pool begun → n ≡ begun + 1
    → SparesOthers n pool after → AreServed after cs
spared_calls law cs n pool after begun kept number spares =
    spared_all law n pool after spares cs (differ_all n 0 begun cs (omega (arith, number)) kept.numbers) kept.served

none_begun : (pool after : pools.Contents) (n begun : ℕ) → HoldsNone pool begun → SparesOthers n pool after → n ≡ begun + 1 → HoldsNone after (begun + 1)
none_begun pool after n begun none spares is = λ number port above.
    let other : number ≢ n = λ same. ne_of_lt (let up : n < number = omega (arith, is, above) in up) (sym same) in
    (spares number other).ports port ∙ none number port (omega (arith, above))

pushed_by : Spared → (cs : List StandingCall) (new : StandingCall) (pool after : pools.Contents) (begun : ℕ) (stands : Bool) → AreKept cs pool begun
    → new.call.number ≡ begun + 1 → SparesOthers new.call.number pool after → IsServed new.call after
    → AreKept (cond stands (cs ++ new ∷ []) cs) after (begun + 1)
pushed_by law cs new pool after begun true kept number spares here = record {
  served = served_push after cs new (spared_calls law cs new.call.number pool after begun kept number spares) here;
  numbers = rise_push 0 begun cs new kept.numbers number;
  none = none_begun pool after new.call.number begun kept.none spares number;
}
pushed_by law cs new pool after begun false kept number spares here = record {
  served = spared_calls law cs new.call.number pool after begun kept number spares;
  numbers = rise_on 0 begun cs kept.numbers;
  none = none_begun pool after new.call.number begun kept.none spares number;
}

pub kept_pushed : Spared → (cs : List StandingCall) (new : StandingCall) (pool after : pools.Contents) (begun : ℕ) → AreKept cs pool begun
    → new.call.number ≡ begun + 1 → SparesOthers new.call.number pool after → IsServed new.call after
    → AreKept (pushed new cs) after (begun + 1)
kept_pushed law cs new pool after begun kept number spares here =
    pushed_by law cs new pool after begun (is_some new.call.standing) kept number spares here

-- ---- no call yet

not_picked : (b : Bool) (first k : ℕ) (rest : Option Holding) → option_and_then (λ (h : Holding). h.holder) rest ≡ None
    → option_and_then (λ (h : Holding). h.holder) (cond b (Some (unheld first k)) rest) ≡ None
not_picked true first k rest none = refl
not_picked false first k rest none = none

none_found : (p : Holding → Bool) (first : ℕ) (ks : List ℕ) → option_and_then (λ (h : Holding). h.holder) (find p (map (unheld first) ks)) ≡ None
none_found p first [] = refl
none_found p first (k ∷ ks) = not_picked (p (unheld first k)) first k (find p (map (unheld first) ks)) (none_found p first ks)

none_held : (first pairs : ℕ) → HoldsNone (pools.new_pool first pairs) 0
none_held first pairs = λ number port above. ap (is_call number) (none_found (has_even (even_of port)) first (range_with_len 0 pairs))

pub kept_none : (first pairs : ℕ) → AreKept [] (pools.new_pool first pairs) 0
kept_none first pairs = record { served = tt; numbers = omega arith; none = none_held first pairs }

-- ---- what is at a place within the list

pub read_at : (cs : List StandingCall) (place : ℕ) (c : StandingCall) → place < length cs → c ≡ get_or cs place c → slice_get cs place ≡ Some c
read_at [] place c within read = absurd (omega (arith, within))
read_at (x ∷ xs) zero c within read = ap Some (sym read)
read_at (x ∷ xs) (suc k) c within read = read_at xs k c (omega (arith, within)) read

pub same_read : (a b : StandingCall) (read : Option StandingCall) → read ≡ Some a → read ≡ Some b → a ≡ b
same_read a b read is also = let same : Some a ≡ Some b = sym is ∙ also in cc

pub set_read : (cs : List StandingCall) (place : ℕ) (c : StandingCall) → place < length cs → slice_get (set cs place c) place ≡ Some c
set_read [] place c within = absurd (omega (arith, within))
set_read (x ∷ xs) zero c within = refl
set_read (x ∷ xs) (suc k) c within = set_read xs k c (omega (arith, within))

pub served_if : {R : Type 0} (now : R → StandingCall) (pool : pools.Contents) (cs : List StandingCall) (place : ℕ) (read : Option R) → AreServed pool cs
    → option_map now read ≡ slice_get cs place → IfSome read (λ r. IsServed (now r).call pool)
served_if now pool cs place None served is = tt
served_if now pool cs place (Some r) served is = served_at pool cs place (now r) served (sym is)

pub stands_at : (cs : List StandingCall) (place : ℕ) → place < length cs → (c : StandingCall) × (slice_get cs place ≡ Some c)
stands_at [] place within = absurd (omega (arith, within))
stands_at (x ∷ xs) zero within = (x, refl)
stands_at (x ∷ xs) (suc k) within = stands_at xs k (omega (arith, within))

-- ---- what is put beside a call

served_put : (pool : pools.Contents) (cs : List StandingCall) (place : ℕ) (new : StandingCall) → AreServed pool cs → IsServed new.call pool
    → AreServed pool (set cs place new)
served_put pool [] place new served here = tt
served_put pool (x ∷ xs) zero new served here = (here, served.1)
served_put pool (x ∷ xs) (suc k) new served here = (served.0, served_put pool xs k new served.1 here)

pub kept_put : (cs : List StandingCall) (place : ℕ) (c new : StandingCall) (pool : pools.Contents) (begun : ℕ) → AreKept cs pool begun
    → slice_get cs place ≡ Some c → new.call.number ≡ c.call.number → IsServed new.call pool → AreKept (set cs place new) pool begun
kept_put cs place c new pool begun kept is number here = record {
  served = served_put pool cs place new kept.served here;
  numbers = rise_set 0 begun cs place c new kept.numbers is number;
  none = kept.none;
}

-- ---- a call that is gone after its step

remove_set : (cs : List StandingCall) (place : ℕ) (new : StandingCall) → remove (set cs place new) place ≡ remove cs place
remove_set [] place new = refl
remove_set (x ∷ xs) zero new = refl
remove_set (x ∷ xs) (suc k) new = ap (λ (ys : List StandingCall). x ∷ ys) (remove_set xs k new)

either : (stands : Bool) (kept gone also : List StandingCall) → gone ≡ also → cond stands kept gone ≡ cond stands kept also
either true kept gone also same = refl
either false kept gone also same = same

pub put_there : (cs : List StandingCall) (place : ℕ) (new : StandingCall) → place < length cs
    → without_gone (set cs place new) place (slice_get (set cs place new) place) ≡ cond (is_some new.call.standing) (set cs place new) (remove cs place)
put_there cs place new within =
    ap (without_gone (set cs place new) place) (set_read cs place new within)
    ∙ either (is_some new.call.standing) (set cs place new) (remove (set cs place new) place) (remove cs place) (remove_set cs place new)

pub number_kept : (end : End) (d : Dialog) (c : Call) → (with_dialog end d c).number ≡ c.number
number_kept Caller d c = refl
number_kept Callee d c = refl

number_at : (end : End) (target : Uri) (c : Call) → (with_target end target c).number ≡ c.number
number_at Caller target c = refl
number_at Callee target c = refl

number_reached : (target : Option Uri) (c : Call) → (reached_call target c).number ≡ c.number
number_reached None c = refl
number_reached (Some target) c = number_at (offerer_of c.standing) target c

last_number : (answer : Option Sent) (c : StandingCall) → (with_last answer c).call.number ≡ c.call.number
last_number None c = refl
last_number (Some answer) c = number_reached c.target c.call

taken_kept : (taken : Option TakenOffer) (c : StandingCall) → (with_taken_if taken c).call ≡ c.call
taken_kept None c = refl
taken_kept (Some offer) c = refl

leg_number : (leg : Option LegDialog) (c : StandingCall) → (with_leg leg c).call.number ≡ c.call.number
leg_number None c = refl
leg_number (Some leg) c = number_kept leg.end leg.dialog c.call

pub number_beside : (put : Beside) (c : StandingCall) → (beside put c).call.number ≡ c.call.number
number_beside put c =
    last_number put.answer (with_taken_if put.taken (with_leg put.leg c))
    ∙ ap (λ (call : Call). call.number) (taken_kept put.taken (with_leg put.leg c)) ∙ leg_number put.leg c

standing_kept : (end : End) (d : Dialog) (c : Call) → (with_dialog end d c).standing ≡ c.standing
standing_kept Caller d c = refl
standing_kept Callee d c = refl

standing_at : (end : End) (target : Uri) (c : Call) → (with_target end target c).standing ≡ c.standing
standing_at Caller target c = refl
standing_at Callee target c = refl

standing_reached : (target : Option Uri) (c : Call) → (reached_call target c).standing ≡ c.standing
standing_reached None c = refl
standing_reached (Some target) c = standing_at (offerer_of c.standing) target c

last_standing : (answer : Option Sent) (c : StandingCall) → (with_last answer c).call.standing ≡ c.call.standing
last_standing None c = refl
last_standing (Some answer) c = standing_reached c.target c.call

leg_standing : (leg : Option LegDialog) (c : StandingCall) → (with_leg leg c).call.standing ≡ c.call.standing
leg_standing None c = refl
leg_standing (Some leg) c = standing_kept leg.end leg.dialog c.call

pub standing_beside : (put : Beside) (c : StandingCall) → (beside put c).call.standing ≡ c.call.standing
standing_beside put c =
    last_standing put.answer (with_taken_if put.taken (with_leg put.leg c))
    ∙ ap (λ (call : Call). call.standing) (taken_kept put.taken (with_leg put.leg c)) ∙ leg_standing put.leg c
