use Rattle.std.proofs.Common.{◌<◌, length, arith}
use Rattle.timers.proofs.ByKey.{set_at, place_within}
use Rattle.timers.proofs.by_key.replace.Goals as goal

pub index_mut-requires : goal.index_mut-requires
index_mut-requires g c =
    let laws = g.met.K.Ord in
    let keys = c.args.keys.now.items in
    let within : c.args.place < length keys = rw c.requires.place (place_within g.K.PartialEq.eq g.K.Ord.cmp laws.total laws.matches_eq keys c.args.timer.key c.requires.rise c.requires.stands) in
    omega (arith, within, c.args.keys.now.ok.0)

pub returns-clause-put : goal.returns-clause-put
returns-clause-put g c =
    let laws = g.met.K.Ord in
    rw c.requires.place (set_at g.K.PartialEq.eq g.K.Ord.cmp laws.total laws.matches_eq c.args.keys.now.items c.args.timer c.requires.rise c.requires.stands)
