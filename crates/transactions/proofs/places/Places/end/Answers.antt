use Rattle.std.proofs.Common.{◌≡◌, ◌∙◌, ap, sym, subst, cond, get_or}
use Rattle.std.specs.Prelude.{IsSome}
use Rattle.transactions.specs.Places.{Placed}
use Rattle.transactions.specs.Prints.{prints_at}
use Rattle.transactions.specs.Slots.{at, is_serving}
use Rattle.transactions.proofs.LastingLaws.{within}
use Rattle.transactions.proofs.NotedLaws.{ended_noted, noted_at}
use Rattle.transactions.proofs.PlaceLaws.{counted, stands, ended_all, end_fits, room_ended}
use Rattle.transactions.proofs.places.Places.end.Goals as goal

pub overflow_sub-self : goal.overflow_sub-self
overflow_sub-self c =
    let slots = c.self.inside.slots.items in
    let some : IsSome (at slots c.args.id) = subst (λ (v : Placed). IsSome (at v.slots c.args.id)) (sym c.self.view_is) c.requires in
    let one = stands slots c.args.id some in
    let was : c.count_of.result ≡ cond (is_serving (get_or slots c.args.id c.index.result.now)) 1 0 =
    c.count_of.ensures ∙ ap (λ b. cond b 1 0) (c.is_serving.ensures ∙ ap is_serving c.index.ensures) in
    counted slots c.args.id c.self.inside.serving c.count_of.result c.index.result.now (within slots c.args.id one.0 one.1) c.self.invariant.0.servers was

pub put-requires : goal.put-requires
put-requires c =
    let slots = c.self.inside.slots.items in
    let some : IsSome (at slots c.args.id) = subst (λ (v : Placed). IsSome (at v.slots c.args.id)) (sym c.self.view_is) c.requires in
    let p = c.self.inside in
    end_fits p.key slots p.branches.buckets p.calls.buckets p.tags.buckets p.sources.buckets p.free p.serving c.args.id p.slots.len p.slots.cap p.room p.branches p.calls p.tags p.sources c.self.invariant.0 c.self.invariant.1 p.slots.ok.0 some

pub invariant_of-self : goal.invariant_of-self
invariant_of-self c =
    let slots = c.self.inside.slots.items in
    let some : IsSome (at slots c.args.id) = subst (λ (v : Placed). IsSome (at v.slots c.args.id)) (sym c.self.view_is) c.requires in
    let was : c.count_of.result ≡ cond (is_serving (get_or slots c.args.id c.index.result.now)) 1 0 =
    c.count_of.ensures ∙ ap (λ b. cond b 1 0) (c.is_serving.ensures ∙ ap is_serving c.index.ensures) in
    let p = c.self.inside in
    let one = stands slots c.args.id some in
    let print = noted_at p.key slots p.prints.items p.prints.len p.prints.cap p.room c.args.id c.index-prints.result.now c.index-prints.result.now c.index.result.now c.self.invariant.2 (within slots c.args.id one.0 one.1) c.index-prints.ensures in (
      ended_all p.key slots p.branches.buckets p.calls.buckets p.tags.buckets p.sources.buckets p.free.numbers c.remove.new.self.buckets c.remove-2.new.self.buckets c.remove-3.new.self.buckets c.remove-4.new.self.buckets c.put.new.self.numbers p.serving c.args.id c.count_of.result
          c.index-prints.result.now.branch c.index-prints.result.now.call c.index-prints.result.now.tag c.index-prints.result.now.source c.index.result.now c.free.result c.self.invariant.0 some c.free.ensures was
          (ap (λ q. q.branch) print) (ap (λ q. q.call) print) (ap (λ q. q.tag) print) (ap (λ q. q.source) print) c.remove.ensures.numbers c.remove-2.ensures.numbers c.remove-3.ensures.numbers c.remove-4.ensures.numbers c.put.ensures.numbers,
      room_ended p.slots.len p.slots.cap p.room c.args.id p.branches p.calls p.tags p.sources c.remove.new.self c.remove-2.new.self c.remove-3.new.self c.remove-4.new.self p.free c.put.new.self
          c.self.invariant.1 c.put.ensures.numbers c.remove.ensures.room c.remove-2.ensures.room c.remove-3.ensures.room c.remove-4.ensures.room c.put.ensures.room,
      ended_noted p.key slots p.prints.items p.prints.len p.prints.cap p.room c.args.id c.free.result c.none.result c.self.invariant.2 (c.none.ensures p.key ∙ ap (prints_at p.key) (sym c.free.ensures)),
    )
