-- The timer of a lifetime is set by the event that begins it.
use Rattle.std.proofs.Common.{◌≡◌, ◌||◌, ℕ, Bool, true, false, cond, List, [], ◌∷◌, Option, Some, nat_lt, refl, subst, sym}
use Rattle.std.specs.Prelude.{not}
use Rattle.std.proofs.lemmas.Bool.{eq-eqb}
use Rattle.timers.specs.Queue.{moment, put, stands, without}
use Rattle.timers.specs.declared.timers.Timer.{Timer}
use Rattle.events.specs.declared.event.Event.{Event}
use Rattle.call_core.specs.declared.action.CallTimer.TheVariants.{Lifetime}
use Rattle.calls.specs.Timing.{id, same_timer}
use Rattle.calls.specs.Timing as timing
use Rattle.event_rows.specs.Lifetimes.{lifetime_begun, limited}
use Rattle.event_rows.specs.Rows.{after, moment_after, row}
use Rattle.event_rows.specs.State.{Contents, after_event}

none_of : (a b : Bool) → (a || b) ≡ false → (a ≡ false) × (b ≡ false)
none_of true b h = absurd cc
none_of false b h = (refl, h)

-- no other timer has the key
lacks : {K : Type 0} (eq : K → K → Bool) (key : K) (ts : List (Timer K)) → stands eq (without eq ts key) key ≡ false
lacks eq key [] = refl
lacks eq key (t ∷ ts) = step (eq t.key key) refl (lacks eq key ts)
  where
    step : (b : Bool) → eq t.key key ≡ b → stands eq (without eq ts key) key ≡ false → stands eq (cond (not b) (t ∷ without eq ts key) (without eq ts key)) key ≡ false
    step true e more = more
    step false e more = rw e more

put_there : {K : Type 0} (eq : K → K → Bool) (timer : Timer K) (ts : List (Timer K)) → stands eq ts timer.key ≡ false → eq timer.key timer.key ≡ true → moment eq (put ts timer) timer.key ≡ Some timer.at
put_there eq timer [] none same = rw same refl
put_there eq timer (t ∷ ts) none same =
    let parts = none_of (eq t.key timer.key) (stands eq ts timer.key) none in
    step (nat_lt timer.at t.at) parts.0 (put_there eq timer ts parts.1 same)
  where
    step : (b : Bool) → eq t.key timer.key ≡ false → moment eq (put ts timer) timer.key ≡ Some timer.at → moment eq (cond b (timer ∷ t ∷ ts) (t ∷ put ts timer)) timer.key ≡ Some timer.at
    step true other more = rw same refl
    step false other more = rw other more

pub begins : (s : Contents) (event : Event) (number longest : ℕ) → lifetime_begun (row s event).plan.note ≡ Some number → s.lifetime ≡ Some longest
    → moment same_timer (after s event).calls.timers (id number Lifetime) ≡ Some (timing.moment_after (moment_after s event) longest)
unfolding after_event
begins s event number longest begun is =
    let now = moment_after s event in
    let timers = (row s event).calls.standing.timers in
    let key = id number Lifetime in
    let at = timing.moment_after now longest in
    let same : same_timer key key ≡ true = rw (eq-eqb number number refl) refl in
    let set : moment same_timer (limited (Some longest) now (Some number) timers) key ≡ Some at =
    put_there same_timer (record { key = key; at = at }) (without same_timer timers key) (lacks same_timer key timers) same in
    subst (λ (lifetime : Option ℕ). moment same_timer (limited lifetime now (lifetime_begun (row s event).plan.note) timers) key ≡ Some at) (sym is)
    (subst (λ (of : Option ℕ). moment same_timer (limited (Some longest) now of timers) key ≡ Some at) (sym begun) set)
