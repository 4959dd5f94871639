use Rattle.std.proofs.Common.{◌≡◌, ◌∙◌, rules, true, false, slice_get, arith}
use Rattle.index.specs.Entries.{stands_in, place_of}
use Rattle.index.proofs.Places.{remove_is, remove_none}
use Rattle.index.proofs.Prints.{one_less}
use Rattle.index.proofs.entries.remove.Goals as goal

pub returns-then-stands_at : goal.returns-then-stands_at
returns-then-stands_at c =
    let es = c.args.entries.now.items in
    let entry = c.args.entry in
    let there : stands_in (slice_get es (place_of es entry.print entry.number)) entry ≡ true = search rules in
    let others = c.remove.ensures.items ∙ rw (c.place_of-place.ensures.place, c.deref.ensures.value) (remove_is es entry there) in
    let less = one_less es entry there in
    record {
      others = others;
      len = rw others (omega (arith, less, c.remove.ensures.len));
      capacity = c.remove.ensures.capacity;
    }

pub returns-else-stands_at-clause-others : goal.returns-else-stands_at-clause-others
returns-else-stands_at-clause-others c =
    let es = c.args.entries.now.items in
    let none : stands_in (slice_get es (place_of es c.args.entry.print c.args.entry.number)) c.args.entry ≡ false = search rules in
    remove_none es c.args.entry none
