use Rattle.std.proofs.Common.{◌≡◌, ◌<◌, ◌∙◌, List, length, get_or, None, sym, ap, subst}
use Rattle.port_pool.specs.declared.holdings.Holding.{Holding}
use Rattle.port_pool.specs.Holdings.{held_by}
use Rattle.port_pool.specs.Places.{no_holding, IsIndexed, at_place}
use Rattle.port_pool.proofs.PlaceLaws.{written_at}
use Rattle.port_pool.proofs.CallLaws.{IsIndexed-occupied, room_for}
use Rattle.port_pool.proofs.places.Places.occupy.Goals as goal

pub put-requires : goal.put-requires
put-requires c =
    let less = rw (← c.self.view_is) at c.requires.bound in
    let unheld = rw (← c.self.view_is) at c.requires.unheld in
    room_for c.self.inside.holdings.items c.self.inside.calls c.args.place no_holding c.self.invariant less unheld

pub invariant_of-self : goal.invariant_of-self
invariant_of-self c =
    let holdings = c.self.inside.holdings.items in
    let found = c.index_mut.result.now in
    let less : c.args.place < length holdings = rw (← c.self.view_is) at c.requires.bound in
    let unheld : (get_or holdings c.args.place no_holding).holder ≡ None = rw (← c.self.view_is) at c.requires.unheld in
    subst (λ (hs : List Holding). IsIndexed hs c.put.new.self) (sym (written_at (held_by c.args.call) holdings c.args.place found found less c.index_mut.ensures.value))
    (IsIndexed-occupied holdings c.self.inside.calls c.put.new.self c.args.place c.args.call no_holding c.self.invariant less unheld c.put.ensures.numbers c.put.ensures.room)

pub returns : goal.returns
returns c =
    let less : c.args.place < length c.self.inside.holdings.items = rw (← c.self.view_is) at c.requires.bound in
    written_at (held_by c.args.call) c.self.inside.holdings.items c.args.place c.index_mut.result.now c.index_mut.result.now less c.index_mut.ensures.value
    ∙ ap (λ (hs : List Holding). at_place c.args.place (held_by c.args.call) hs) c.self.view_is
