use Rattle.std.proofs.Common.{◌≡◌, ◌∙◌, nat_lt, true, sym, subst}
use Rattle.std.proofs.lemmas.List.Elements.{All-map}
use Rattle.registrar.specs.Registering.{AllLast, rank, with_number}
use Rattle.registrar.proofs.RecentLaws.{standing_all}
use Rattle.registrar.proofs.contact_rules.within_limit.Goals as goal

pub returns-clause-last : goal.returns-clause-last
returns-clause-last c = λ now last.
    let standing = c.deref.result.now in
    let same = c.deref.ensures.value ∙ c.in_ok-standing.ensures.bindings in
    subst (λ bs. AllLast now bs) (sym c.in_ok-with_ranks.ensures)
    (All-map (λ b. nat_lt now b.expires_at ≡ true) (λ b. with_number (rank standing b) b) standing
    (subst (λ bs. AllLast now bs) (sym same) (standing_all (λ b. nat_lt now b.expires_at ≡ true) c.args.rules c.args.kept.items last)))
