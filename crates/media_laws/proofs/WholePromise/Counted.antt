-- An event that is only counted is not taken up, and has no effect.
use Rattle.std.proofs.Common.{◌≡◌, ℕ, cond, ◌||◌, is_some, length, Option, Some, None, ap, subst}
use Rattle.std.specs.Prelude.{nat_le, nat_lt}
use Rattle.event_rows.specs.Rows.{only_counts, row, row_by, what_counts}
use Rattle.event_rows.specs.State.{Contents, moment_at, moments_end, max_tokens, office}
use Rattle.events.specs.declared.event.Event.{Event}
use Rattle.events.specs.declared.event.What.{What}
use Rattle.calls.specs.Settled.{has_settled}
use Rattle.configuration.specs.Rules.{is_user_list}
use Rattle.events.specs.declared.event.What.TheVariants as whats
use Rattle.plans.specs.CallRows.{of_plan}
use Rattle.plans.specs.Plan.{nothing}
use Rattle.plans.specs.declared.taken.Taken.{Taken}
use Rattle.plans.specs.declared.taken.Taken.TheVariants.{Done, Dropped, Idle}
use Rattle.plans.specs.declared.taken.Why.TheVariants.{Clock, Spent, Unread}
use Rattle.message_laws.proofs.Messages.RequestViews.{by_if}
use Rattle.sip_message.specs.Read.{max_datagram}
use Rattle.sip_message.specs.declared.error.MessageError.TheVariants as faults
use Rattle.timers.specs.Queue.{first_due}

abbrev NotDone : Option Taken → Type 0
NotDone None = Unit {0}
NotDone (Some taken) = taken ≡ Done → ⊥

what_none : (s : Contents) (now : ℕ) (what : What) → NotDone (what_counts s now what)
what_none s now (whats.Datagram source bytes) = by_if NotDone (nat_lt max_datagram (length bytes)) (Some (Dropped (Unread faults.TooLong))) None (λ b done. cc) (λ b. tt)
what_none s now whats.Due = by_if NotDone (is_some (first_due s.table.timers now) || is_some (first_due s.calls.timers now)) None (Some Idle) (λ b. tt) (λ b done. cc)
what_none s now (whats.Silent number) = by_if NotDone (has_settled number s.calls.calls) None (Some Idle) (λ b. tt) (λ b done. cc)
what_none s now (whats.Users users) = by_if NotDone (is_user_list users) None (Some Idle) (λ b. tt) (λ b done. cc)

none_done : (s : Contents) (e : Event) → NotDone (only_counts s e)
unfolding only_counts
none_done s e =
    by_if NotDone (nat_le moments_end e.now) (Some (Dropped Clock)) (cond (nat_le max_tokens s.tokens) (Some (Dropped Spent)) (what_counts s (moment_at s e.now) e.what)) (λ b done. cc)
    (λ b. by_if NotDone (nat_le max_tokens s.tokens) (Some (Dropped Spent)) (what_counts s (moment_at s e.now) e.what) (λ c done. cc) (λ c. what_none s (moment_at s e.now) e.what))

pub counted_done : (s : Contents) (e : Event) (taken : Taken) → only_counts s e ≡ Some taken → taken ≡ Done → ⊥
counted_done s e taken is = subst NotDone is (none_done s e)

pub counted_row : (s : Contents) (e : Event) (taken : Taken) → only_counts s e ≡ Some taken → row s e ≡ of_plan (office s) (nothing taken)
unfolding row
counted_row s e taken is = ap (row_by s e) is
