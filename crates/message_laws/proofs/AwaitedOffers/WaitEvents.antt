-- What waits of an agent's requests after an event.
use Rattle.std.proofs.Common.{◌≡◌, ℕ, zero, suc, List, [], Option, Some, None, refl, subst, arith}
use Rattle.std.specs.List.{All}
use Rattle.std.proofs.lemmas.Option.{none-some}
use Rattle.configuration.specs.declared.config.Config.{Config}
use Rattle.events.specs.declared.event.Event.{Event}
use Rattle.transactions.specs.declared.transaction.Transaction.{Transaction}
use Rattle.transactions.specs.Changes.{entered_all}
use Rattle.transactions.specs.Slots.{at}
use Rattle.plans.specs.declared.taken.Taken.{Taken}
use Rattle.plans.specs.Effect.{Effect}
use Rattle.plans.specs.Plan.{nothing}
use Rattle.event_rows.specs.Rows.{after, moment_after, only_counts, row, row_by}
use Rattle.event_rows.specs.State.{Contents, IsNew, after_event, moment_at, office}
use Rattle.message_laws.specs.Knowing.{KnowsTokens}
use Rattle.message_laws.specs.Waiting.{FitsCall, IsOffering, KnowsWaiting}
use Rattle.message_laws.proofs.AwaitedOffers.Awaiting.{later_all}
use Rattle.message_laws.proofs.AwaitedOffers.Coming.{CameFrom, all_came, began, stayed}
use Rattle.message_laws.proofs.TokenUse.Events.{few_tokens}
use Rattle.message_laws.proofs.AwaitedOffers.Once.{AreFresh, offering_before, once_kept}
use Rattle.message_laws.proofs.TokenUse.Slots.{own_at}
use Rattle.message_laws.proofs.AwaitedOffers.WaitEffects.{Waits, plan_waits}
use Rattle.message_laws.proofs.AwaitedOffers.WaitRows.{what_waits}

pub none_at : (slots : List (Option Transaction)) (id : ℕ) (t : Transaction) → slots ≡ [] → at slots id ≡ Some t → ⊥
none_at slots id t is there = none_in id (subst (λ xs. at xs id ≡ Some t) is there)
  where
    none_in : (id : ℕ) → at [] id ≡ Some t → ⊥
    none_in zero e = none-some t e
    none_in (suc id) e = none-some t e

pub new_waits : (c : Config) (s : Contents) → IsNew c s → KnowsWaiting (office s)
new_waits c s new = record {
  awaited = λ id t there offers. absurd (none_at s.table.slots id t new.slots there);
  once = λ i j t u at_t at_u offers_t offers_u tag number. absurd (none_at s.table.slots i t new.slots at_t);
}

event_waits : (s : Contents) → KnowsTokens (office s) → KnowsWaiting (office s) → (e : Event) (taken : Option Taken) → only_counts s e ≡ taken → Waits (office s) (row_by s e taken)
event_waits s tokens k e (Some taken) is =
    let w = plan_waits (office s) k (nothing taken) (λ t opens offers. opens) in
    record { stayed = w.stayed; began = w.began; one = w.one; counted = w.counted; above = w.above; byes = w.byes; keeps = w.keeps; carries = w.carries; sent = w.sent }
event_waits s tokens k e None is = what_waits (office s) tokens k (few_tokens s e is) (moment_at s e.now) e.salt e.what

pub row_waits : (s : Contents) → KnowsTokens (office s) → KnowsWaiting (office s) → (e : Event) → Waits (office s) (row s e)
unfolding row
row_waits s tokens k e = event_waits s tokens k e (only_counts s e) refl

awaited_by : (s : Contents) → KnowsWaiting (office s) → (now : ℕ) (x : Effect) → Waits (office s) x → (id : ℕ) (u : Transaction) → at (entered_all now s.table x.plan.changes).slots id ≡ Some u → IsOffering u
    → CameFrom s.table.slots x.plan.changes id u → All (FitsCall u) x.calls.standing.calls
awaited_by s k now x w id u e offers (stayed t there later) = w.stayed now id t u there e later (offering_before t u later offers)
awaited_by s k now x w id u e offers (began t opens later) = later_all t u x.calls.standing.calls later (w.began t opens (offering_before t u later offers))

-- a number that is greater than the earlier ones is none of them
fresh_after : (s : Contents) → KnowsTokens (office s) → KnowsWaiting (office s) → (x : Effect) → Waits (office s) x → AreFresh s.table.slots x.plan.changes
fresh_after s tokens k x w t opens offers id v there offers_v same =
    omega (arith, same.number, w.above t opens offers v (own_at s.tokens s.table.slots id v tokens.slots there offers_v.client).tag (k.awaited id v there offers_v) same.tag)

waits_after : (s : Contents) → KnowsTokens (office s) → KnowsWaiting (office s) → (now : ℕ) (x : Effect) → Waits (office s) x → KnowsWaiting (office (after_event s now x))
unfolding after_event
waits_after s tokens k now x w = record {
  awaited = λ id u e offers. awaited_by s k now x w id u e offers (all_came now s.table x.plan.changes id u e);
  once = λ i j t u at_t at_u offers_t offers_u tag number.
      once_kept now s.table x.plan.changes w.one (fresh_after s tokens k x w) (λ i j t u at_t at_u one two same. k.once i j t u at_t at_u one two same.tag same.number) i j t u at_t at_u offers_t offers_u
      (record { tag = tag; number = number });
}

pub after_waits : (s : Contents) (e : Event) → KnowsTokens (office s) → KnowsWaiting (office s) → KnowsWaiting (office (after s e))
after_waits s e tokens k = waits_after s tokens k (moment_after s e) (row s e) (row_waits s tokens k e)
