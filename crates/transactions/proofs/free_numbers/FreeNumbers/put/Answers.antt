use Rattle.std.proofs.Common.{◌≡◌, ◌∙◌, rules, ap, sym, subst}
use Rattle.std.specs.List.{insert}
use Rattle.index.specs.Numbers.{put_number}
use Rattle.transactions.specs.FreeNumbers.{Free, NumbersRise}
use Rattle.transactions.proofs.FreeLaws.{put_is, rise_put}
use Rattle.transactions.proofs.free_numbers.FreeNumbers.put.Goals as goal

pub invariant_of-self : goal.invariant_of-self
invariant_of-self c =
    let ns = c.self.inside.numbers.items in
    let inserted : c.insert.new.self.items ≡ insert ns c.place_of-place.result c.args.number = search rules in
    let put : c.insert.new.self.items ≡ put_number ns c.args.number = inserted ∙ rw c.place_of-place.ensures.place (put_is ns c.args.number) in
    subst NumbersRise (sym put) (rise_put ns c.args.number c.self.invariant)

pub returns-clause-numbers : goal.returns-clause-numbers
returns-clause-numbers c =
    let ns = c.self.inside.numbers.items in
    let inserted : c.insert.new.self.items ≡ insert ns c.place_of-place.result c.args.number = search rules in
    inserted ∙ rw c.place_of-place.ensures.place (put_is ns c.args.number) ∙ ap (λ (v : Free). put_number v.numbers c.args.number) c.self.view_is
