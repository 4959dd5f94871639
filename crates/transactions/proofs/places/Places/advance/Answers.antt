use Rattle.std.proofs.Common.{◌≡◌, ◌∙◌, ap, sym, subst, get_or, option_map}
use Rattle.std.specs.Prelude.{IfSome, IsSome}
use Rattle.std.proofs.lemmas.List.{get_or_default}
use Rattle.transaction_machines.specs.Machines.{is_server}
use Rattle.transactions.specs.Places.{KeepsSide, Placed}
use Rattle.transactions.specs.Slots.{at}
use Rattle.transactions.specs.Transactions.{went}
use Rattle.transactions.proofs.LastingLaws.{within}
use Rattle.transactions.proofs.NotedLaws.{advanced_noted}
use Rattle.transactions.proofs.PlaceLaws.{advanced, stands}
use Rattle.transactions.proofs.places.Places.advance.Goals as goal

pub invariant_of-self : goal.invariant_of-self
invariant_of-self c =
    let p = c.self.inside in
    let slots = p.slots.items in
    let id = c.args.id in
    let some : IsSome (at slots id) = subst (λ (v : Placed). IsSome (at v.slots id)) (sym c.self.view_is) c.requires.there in
    let side : KeepsSide slots id c.args.state = subst (λ (v : Placed). KeepsSide v.slots id c.args.state) (sym c.self.view_is) c.requires.side in
    let one = stands slots id some in
    let there = get_or_default slots id c.index_mut.result.now _ (within slots id one.0 one.1) ∙ one.1 in
    let next = c.advance.ensures ∙ ap (option_map (λ t. went t c.args.fresh c.args.state)) c.index_mut.ensures.value in (
      advanced p.key slots p.branches.buckets p.calls.buckets p.tags.buckets p.sources.buckets p.free.numbers p.serving id
          c.index_mut.result.now c.advance.new.self c.args.fresh c.args.state c.self.invariant.0 some side next,
      c.self.invariant.1,
      advanced_noted p.key slots p.prints.items p.prints.len p.prints.cap p.room id c.index_mut.result.now c.advance.new.self c.args.fresh c.args.state c.self.invariant.2
          (subst (λ o. IfSome o (λ t. is_server c.args.state ≡ is_server t.state)) (sym there) (side one.0 one.1)) next,
    )
