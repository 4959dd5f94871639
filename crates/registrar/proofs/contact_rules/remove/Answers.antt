use Rattle.std.proofs.Common.{◌≡◌, not, true, nat_lt, subst, sym, rules}
use Rattle.std.proofs.lemmas.Fn.{filter_same}
use Rattle.std.proofs.lemmas.List.Elements.{All-filter}
use Rattle.registrar.specs.Registering.{AllLast, is_of}
use Rattle.registrar.proofs.contact_rules.remove.Goals as goal

pub returns-clause-others : goal.returns-clause-others
returns-clause-others c = filter_same _ _ _ (λ x b f' k. search rules) _ _ c.retain.ensures.filtered

pub returns-clause-last : goal.returns-clause-last
returns-clause-last c = λ now h. subst (λ bs. AllLast now bs) (sym (returns-clause-others c)) (All-filter (λ b. not (is_of c.args.uri.now b)) (λ b. nat_lt now b.expires_at ≡ true) c.args.bindings.now.items h)
