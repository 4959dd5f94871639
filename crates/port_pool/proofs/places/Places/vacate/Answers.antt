use Rattle.std.proofs.Common.{◌≡◌, ◌<◌, ◌∙◌, List, length, get_or, Some, None, sym, ap, subst}
use Rattle.std.proofs.lemmas.List.{get_or_default}
use Rattle.port_pool.specs.declared.holdings.Holding.{Holding}
use Rattle.port_pool.specs.Places.{IsIndexed, at_place, vacated}
use Rattle.port_pool.proofs.PlaceLaws.{written_at, same_at, vacated_same}
use Rattle.port_pool.proofs.CallLaws.{IsIndexed-vacated}
use Rattle.port_pool.proofs.places.Places.vacate.Goals as goal

pub invariant_of-self : goal.invariant_of-self
invariant_of-self c =
    let holdings = c.self.inside.holdings.items in
    let place = c.args.place in
    let found = c.index_mut.result.now in
    let less : place < length holdings = rw (← c.self.view_is) at c.requires in
    let held : (get_or holdings place found).holder ≡ Some c.in-Some.call =
    ap (λ (s : Holding). s.holder) (get_or_default holdings place found c.index.result.now less ∙ sym c.index.ensures) ∙ c.in-Some.is in
    subst (λ (hs : List Holding). IsIndexed hs c.remove.new.self) (sym (written_at vacated holdings place found found less c.index_mut.ensures.value))
    (IsIndexed-vacated holdings c.self.inside.calls c.remove.new.self place c.in-Some.call found c.self.invariant less held c.remove.ensures.numbers c.remove.ensures.room)

pub returns-in-Some : goal.returns-in-Some
returns-in-Some c =
    let less : c.args.place < length c.self.inside.holdings.items = rw (← c.self.view_is) at c.requires in
    written_at vacated c.self.inside.holdings.items c.args.place c.index_mut.result.now c.index_mut.result.now less c.index_mut.ensures.value
    ∙ ap (λ (hs : List Holding). at_place c.args.place vacated hs) c.self.view_is

pub returns-in_default : goal.returns-in_default
returns-in_default c =
    let found = c.index.result.now in
    let none : (get_or c.self.inside.holdings.items c.args.place found).holder ≡ None = ap (λ (s : Holding). s.holder) (sym c.index.ensures) ∙ c.in_default.is in
    rw (← c.self.view_is) (sym (same_at vacated c.self.inside.holdings.items c.args.place found (vacated_same (get_or c.self.inside.holdings.items c.args.place found) none)))
