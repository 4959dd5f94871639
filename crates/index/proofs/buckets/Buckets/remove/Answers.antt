use Rattle.std.proofs.Common.{◌≡◌, ◌<◌, ◌≤◌, length, ap, sym, ◌∙◌, arith}
use Rattle.std.proofs.lemmas.List.{length-set, get_or_default}
use Rattle.index.specs.Buckets.{bucket_at, no_bucket}
use Rattle.index.specs.Numbers.{Indexed}
use Rattle.index.proofs.BucketLaws.{set_each, room_removed}
use Rattle.index.proofs.buckets.Buckets.remove.Goals as goal

pub invariant_of-self : goal.invariant_of-self
invariant_of-self c =
    let buckets = c.self.inside.buckets.items in
    let room = c.self.inside.room in
    let place = c.bucket_of-place.result in
    let less : place < length buckets = omega (arith, c.if-place-len.true, c.len.ensures, c.self.inside.buckets.ok.0) in
    let same : c.index_mut.result.now ≡ bucket_at buckets place =
    c.index_mut.ensures.value ∙ get_or_default buckets place c.index_mut.result.now no_bucket less in
    let more = room_removed c.index_mut.result.now c.remove.new.self c.args.print c.args.number c.remove.ensures.numbers c.remove.ensures.room in
    let had : room ≤ (bucket_at buckets place).room = c.self.invariant.2 place less in
    let len = length-set buckets place c.remove.new.self in
    let is = ap (λ (b : Indexed). b.room) same in (
      omega (arith, c.self.invariant.0, len),
      λ some. (let all = c.self.invariant.1 some in omega (arith, all, len)),
      λ at within. set_each (λ i b. i < length buckets → room ≤ b.room) buckets place c.remove.new.self less (λ _. omega (arith, more, had, is)) (λ i _. c.self.invariant.2 i) at (omega (arith, within, len)),
    )
