use Rattle.std.proofs.Common.{◌∙◌, ◌∷◌, ◌++◌, [], ap, subst, sym}
use Rattle.registrar.specs.Bound.{Listed}
use Rattle.registrar.specs.Changes.{with_listing}
use Rattle.registrar.specs.Registrar.{StandsAfter}
use Rattle.registrar.proofs.Standing.{stands_listed}
use Rattle.registrar.proofs.registrar.Registrar.put_users.Goals as goal

pub returns-clause-stands : goal.returns-clause-stands
returns-clause-stands c = λ rules history s.
    subst (λ r. StandsAfter r rules (history ++ Listed c.args.users.now ∷ []))
    (sym (c.make_change.ensures.table ∙ ap (with_listing c.args.self.now) c.in_ok-listing.ensures))
    (stands_listed c.args.self.now c.args.users.now rules history s)
