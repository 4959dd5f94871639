use Rattle.std.proofs.Common.{rules, ◌≡◌, ◌∙◌, ℕ, Bool, [], cond, List, Some, slice_index_or, drop, ◌+◌, sym, ap}
use Rattle.configuration.specs.declared.flaw.Flaw.TheVariants.{UserTwice}
use Rattle.configuration.specs.Flaws.{user_twice}
use Rattle.configuration.proofs.FlawLaws.{any_default, twice_behind}
use Rattle.configuration.proofs.rule_flaws.user_twice.Goals as goal

pub returns-then-stands_again : goal.returns-then-stands_again
returns-then-stands_again c =
    let us = c.args.users.now in
    let at = c.loop-at.at in
    let on = twice_behind us at _ c.loop-at-test.true c.stands_again.ensures in
    let same : c.lent.result ≡ c.index-users-at.result = search rules in
    let user = same ∙ c.index-users-at.is ∙ any_default us at _ [] c.loop-at-test.true in
    ap (λ (t : List ℕ). Some (UserTwice t)) user
    ∙ sym (on ∙ ap (λ (b : Bool). cond b (Some (UserTwice (slice_index_or us at []))) (user_twice (drop (at + 1) us))) c.if-stands_again.true) ∙ c.loop-at.invariant

pub loop-at-preserved : goal.loop-at-preserved
loop-at-preserved c =
    let us = c.args.users.now in
    let at = c.loop-at.at in
    let on = twice_behind us at _ c.loop-at-test.true c.stands_again.ensures in
    sym (on ∙ ap (λ (b : Bool). cond b (Some (UserTwice (slice_index_or us at []))) (user_twice (drop (at + 1) us))) c.if-stands_again.false) ∙ c.loop-at.invariant
