use Rattle.std.proofs.Common.{Some, ◌≡◌, ◌∙◌, ap, sym, subst, cond, ◌<◌}
use Rattle.transactions.specs.declared.transaction.Transaction.{Transaction}
use Rattle.transactions.specs.Places.{Placed}
use Rattle.transactions.specs.Prints.{prints_at}
use Rattle.transactions.specs.Slots.{free_number}
use Rattle.transactions.proofs.NotedLaws.{begun_noted}
use Rattle.transactions.proofs.PlaceLaws.{begun_all, room_begun}
use Rattle.transactions.proofs.places.Places.open.Goals as goal

pub invariant_of-self : goal.invariant_of-self
invariant_of-self c =
    let p = c.self.inside in
    let number : c.free_number-number.result ≡ free_number p.slots.items = c.free_number-number.ensures ∙ ap (λ (v : Placed). free_number v.slots) (sym c.self.view_is) in
    let some : 0 < p.room = subst (λ (v : Placed). 0 < v.room) (sym c.self.view_is) c.requires.room in
    let slot = c.of-slot.result in
    let prints = c.of-prints.ensures ∙ ap (λ (t : Transaction). prints_at p.key (Some t)) c.get.ensures ∙ ap (prints_at p.key) (sym c.of-slot.ensures) in (
      begun_all p.key p.slots.items p.branches.buckets p.calls.buckets p.tags.buckets p.sources.buckets p.free.numbers c.put.new.self.buckets c.put-2.new.self.buckets c.put-3.new.self.buckets c.put-4.new.self.buckets c.take_least.new.self.numbers p.serving c.count_of.result
          c.of-prints.result.branch c.of-prints.result.call c.of-prints.result.tag c.of-prints.result.source c.free_number-number.result c.args.transaction slot c.place.new.slots.items c.self.invariant.0 number c.of-slot.ensures
          (c.count_of.ensures ∙ ap (λ b. cond b 1 0) c.is_serving.ensures) (ap (λ q. q.branch) prints) (ap (λ q. q.call) prints) (ap (λ q. q.tag) prints) (ap (λ q. q.source) prints)
          c.place.ensures.items c.put.ensures.numbers c.put-2.ensures.numbers c.put-3.ensures.numbers c.put-4.ensures.numbers c.take_least.ensures.numbers,
      room_begun p.slots.len c.place.new.slots.len p.slots.cap c.place.new.slots.cap p.room p.branches p.calls p.tags p.sources c.put.new.self c.put-2.new.self c.put-3.new.self c.put-4.new.self p.free c.take_least.new.self
          c.self.invariant.1 some c.place.ensures.len c.place.ensures.capacity c.put.ensures.room c.put-2.ensures.room c.put-3.ensures.room c.put-4.ensures.room c.take_least.ensures.room,
      begun_noted p.key p.slots.items c.place.new.slots.items p.prints.items c.note.new.prints.items p.prints.len c.note.new.prints.len p.prints.cap c.note.new.prints.cap p.room c.free_number-number.result slot c.of-prints.result
          c.self.invariant.2 some prints c.place.ensures.items c.note.ensures.items c.note.ensures.len c.note.ensures.capacity,
    )
