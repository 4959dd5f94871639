-- Events that are only counted, and those that are looked at further.
use Rattle.std.proofs.Common.{◌≡◌, ℕ, ◌<◌, ◌^◌, Bool, true, false, cond, nat_le, List, [], ◌++◌, Option, Some, None, refl, sym, ap, ◌∙◌}
use Rattle.std.proofs.Math.Nat.{add-zero}
use Rattle.std.proofs.lemmas.Bool.{leb-false}
use Rattle.std.proofs.lemmas.List.{append-nil}
use Rattle.events.specs.declared.event.Event.{Event}
use Rattle.calls.specs.State.{Standing}
use Rattle.event_rows.specs.Lifetimes.{with_lifetime}
use Rattle.message_laws.proofs.Messages.Lifetimes.{same_calls}
use Rattle.plans.specs.declared.taken.Taken.{Taken}
use Rattle.events.specs.declared.sent.Sent.{Sent}
use Rattle.plans.specs.CallRows.{of_plan}
use Rattle.plans.specs.Effect.{Effect}
use Rattle.plans.specs.Note.{note_of_taken}
use Rattle.plans.specs.Plan.{nothing}
use Rattle.event_rows.specs.Rows.{after, moment_after, only_counts, row, row_by, what_row}
use Rattle.event_rows.specs.State.{Contents, after_count, after_event, moment_at, moments_end, max_tokens, office}
use Rattle.event_rows.specs.Tally.{counted}

looked_at : (a b : Bool) (x y : Taken) (w : Option Taken) → cond a (Some x) (cond b (Some y) w) ≡ None → (a ≡ false) × (b ≡ false)
looked_at true b x y w h = absurd cc
looked_at false true x y w h = absurd cc
looked_at false false x y w h = (refl, refl)

counts : (s : Contents) (e : Event) → only_counts s e ≡ None → (nat_le moments_end e.now ≡ false) × (nat_le max_tokens s.tokens ≡ false)
unfolding only_counts
counts s e h = looked_at (nat_le moments_end e.now) (nat_le max_tokens s.tokens) _ _ _ h

pub early : (s : Contents) (e : Event) → only_counts s e ≡ None → e.now < 2 ^ 60
early s e h = leb-false moments_end e.now (counts s e h).0

pub few : (s : Contents) (e : Event) → only_counts s e ≡ None → s.tokens < 2 ^ 63
few s e h = leb-false max_tokens s.tokens (counts s e h).1

pub looked : (s : Contents) (e : Event) → only_counts s e ≡ None → row s e ≡ what_row (office s) (moment_at s e.now) e.salt e.what
unfolding row
looked s e h = ap (row_by s e) h

moment_of : (s : Contents) (e : Event) → only_counts s e ≡ None → moment_after s e ≡ moment_at s e.now
moment_of s e h = ap (λ b. cond b s.moment (moment_at s e.now)) (counts s e h).0

pub after_looked : (s : Contents) (e : Event) → only_counts s e ≡ None →
    after s e ≡ after_event s (moment_at s e.now) (what_row (office s) (moment_at s e.now) e.salt e.what)
after_looked s e h = ap (λ m. after_event s m (row s e)) (moment_of s e h) ∙ ap (after_event s (moment_at s e.now)) (looked s e h)

only_counted : (s : Contents) (e : Event) (taken : Taken) → only_counts s e ≡ Some taken → row s e ≡ of_plan (office s) (nothing taken)
unfolding row
only_counted s e taken h = ap (row_by s e) h

pub answer_counted : (s : Contents) (e : Event) (taken : Taken) → only_counts s e ≡ Some taken → taken ≡ (row s e).plan.taken
answer_counted s e taken h = sym (ap (λ (x : Effect). x.plan.taken) (only_counted s e taken h))

pub sends_counted : (s : Contents) (e : Event) (taken : Taken) (sent : List Sent) → only_counts s e ≡ Some taken → sent ≡ sent ++ (row s e).plan.sends
sends_counted s e taken sent h =
    sym (append-nil sent) ∙ ap (λ (more : List Sent). sent ++ more) (sym (ap (λ (x : Effect). x.plan.sends) (only_counted s e taken h)))

counted_alone : (s : Contents) (m : ℕ) (taken : Taken) → after_event s m (of_plan (office s) (nothing taken)) ≡ after_count s m taken
unfolding after_event
counted_alone s m taken =
    let with_calls : Standing → ℕ → Contents = λ calls n. record s { calls = calls; changes = []; moment = m; tokens = n; tally = counted s.tally taken; note = note_of_taken taken; registered = None } in
    ap (with_calls (with_lifetime s.lifetime m (note_of_taken taken) s.calls)) (add-zero s.tokens) ∙ ap (λ (calls : Standing). with_calls calls s.tokens) (same_calls s.lifetime m taken s.calls)

pub after_counted : (s : Contents) (e : Event) (taken : Taken) → only_counts s e ≡ Some taken →
    after s e ≡ after_count s (moment_after s e) taken
after_counted s e taken h = ap (after_event s (moment_after s e)) (only_counted s e taken h) ∙ counted_alone s (moment_after s e) taken
