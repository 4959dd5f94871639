use Rattle.std.proofs.Common.{◌≡◌, ◌∙◌, rules}
use Rattle.std.specs.List.{insert}
use Rattle.timers.proofs.ByKey.{insert_at}
use Rattle.timers.proofs.by_key.insert.Goals as goal

pub returns-clause-put : goal.returns-clause-put
returns-clause-put g c =
    let laws = g.met.K.Ord in
    let keys = c.args.keys.now.items in
    let inserted : c.insert.new.self.items ≡ insert keys c.args.place c.args.timer = search rules in
    inserted ∙ rw c.requires.place (insert_at g.K.PartialEq.eq g.K.Ord.cmp laws.total laws.matches_eq keys c.args.timer c.requires.none)
