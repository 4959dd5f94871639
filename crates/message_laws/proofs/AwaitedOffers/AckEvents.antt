-- The ACKs that an agent keeps after an event.
use Rattle.std.proofs.Common.{◌≡◌, ℕ, Option, Some, None, refl, sym, subst}
use Rattle.std.specs.Prelude.{◌⊎◌}
use Rattle.std.specs.List.{All}
use Rattle.std.proofs.lemmas.List.Elements.{All-nil}
use Rattle.configuration.specs.declared.config.Config.{Config}
use Rattle.events.specs.declared.event.Event.{Event}
use Rattle.transactions.specs.Slots.{at}
use Rattle.plans.specs.declared.taken.Taken.{Taken}
use Rattle.plans.specs.Effect.{Effect}
use Rattle.event_rows.specs.Rows.{after, moment_after, only_counts, row, row_by}
use Rattle.event_rows.specs.State.{Contents, IsNew, after_event, moment_at, office}
use Rattle.message_laws.specs.Acks.{HasAck, IsKept, KnowsAcks}
use Rattle.message_laws.proofs.AwaitedOffers.AckRows.{Acks, quiet, what_acks}

pub new_acks : (c : Config) (s : Contents) → IsNew c s → KnowsAcks (office s)
new_acks c s new = subst (All (IsKept s.table.slots)) (sym new.acks) (All-nil (IsKept s.table.slots))

event_acks : (s : Contents) → KnowsAcks (office s) → (e : Event) (taken : Option Taken) → only_counts s e ≡ taken → Acks (office s) (row_by s e taken)
event_acks s k e (Some taken) is = quiet (office s) k (row_by s e (Some taken)) refl tt
event_acks s k e None is = what_acks (office s) k (moment_at s e.now) e.salt e.what

row_acks : (s : Contents) → KnowsAcks (office s) → (e : Event) → Acks (office s) (row s e)
unfolding row
row_acks s k e = event_acks s k e (only_counts s e) refl

kept_after : (s : Contents) (now : ℕ) (x : Effect) → Acks (office s) x → KnowsAcks (office (after_event s now x))
unfolding after_event
kept_after s now x a = a.kept now

lasts_after : (s : Contents) (now : ℕ) (x : Effect) (id : ℕ) → Acks (office s) x → HasAck s.acks id → HasAck (after_event s now x).acks id ⊎ (at (after_event s now x).table.slots id ≡ None)
unfolding after_event
lasts_after s now x id a has = a.lasts now id has

pub after_acks : (s : Contents) (e : Event) → KnowsAcks (office s) → KnowsAcks (office (after s e))
after_acks s e k = kept_after s (moment_after s e) (row s e) (row_acks s k e)

pub acks_last : (s : Contents) (e : Event) (id : ℕ) → KnowsAcks (office s) → HasAck s.acks id → HasAck (after s e).acks id ⊎ (at (after s e).table.slots id ≡ None)
acks_last s e id k has = lasts_after s (moment_after s e) (row s e) id (row_acks s k e) has
