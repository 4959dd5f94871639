use Rattle.std.proofs.Common.{rules, arith, ◌≡◌, ℕ, suc, List, ◌∷◌, length, sym, ap, ◌∙◌}
use Rattle.transactions.specs.declared.change.Entry.{Entry}
use Rattle.transactions.specs.Contents.{Contents}
use Rattle.transactions.specs.Changes.{entered_all}
use Rattle.transactions.proofs.apply.enter_all.Goals as goal

pub loop-change-preserved : goal.loop-change-preserved
loop-change-preserved c =
    let now : ℕ = c.args.now in
    let before : Contents = record { slots = c.loop-change.places.slots; timers = c.loop-change.timers.timers; rules = c.args.rules; key = c.loop-change.places.key } in
    let rest : List Entry = c.next.new.self.rest.items in
    let e : c.loop-change.change-iterator.rest.items ≡ c.in-Some.change ∷ rest = search rules in
    let n : length c.loop-change.change-iterator.rest.items ≡ suc (length rest) = ap length e in
    record {
      table = ap (λ t. entered_all now t rest) c.enter.ensures.table ∙ (sym (ap (λ l. entered_all now before l) e) ∙ c.loop-change.invariant.table);
      fireable = c.enter.ensures.fireable;
      places_room = omega arith;
      timers_room = omega arith;
    }
