use Rattle.std.proofs.Common.{◌≡◌, ◌*◌, ◌≤◌, length}
use Rattle.transactions.specs.Changes.{entered_all}
use Rattle.transactions.specs.Fireable.{IsFireable}
use Rattle.transactions.proofs.apply.enter_all.Given as goal

-- the changes that are left lead to the same table, and there is room for them
abbrev pub invariant-loop-change : goal.invariant-loop-change
invariant-loop-change l = record {
  table : entered_all l.fn.now (record { slots = l.places.slots; timers = l.timers.timers; rules = l.fn.rules; key = l.places.key }) l.change-iterator.rest.items ≡ entered_all l.fn.now (record { slots = l.fn.places.slots; timers = l.fn.timers.timers; rules = l.fn.rules; key = l.fn.places.key }) l.fn.changes.items;
  fireable : IsFireable l.places.slots l.timers.timers;
  places_room : length l.change-iterator.rest.items ≤ l.places.room;
  timers_room : 2 * length l.change-iterator.rest.items ≤ l.timers.room;
}
