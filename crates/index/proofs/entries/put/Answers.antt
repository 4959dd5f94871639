use Rattle.std.proofs.Common.{◌≡◌, ◌∙◌, rules}
use Rattle.std.specs.List.{insert}
use Rattle.index.proofs.Places.{put_is}
use Rattle.index.proofs.entries.put.Goals as goal

pub returns-clause-put : goal.returns-clause-put
returns-clause-put c =
    let es = c.args.entries.now.items in
    let inserted : c.insert.new.self.items ≡ insert es c.place_of-place.result c.args.entry = search rules in
    inserted ∙ rw (c.place_of-place.ensures.place, c.deref.ensures.value) (put_is es c.args.entry)
