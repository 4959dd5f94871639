use Rattle.std.proofs.Common.{◌<◌, List, ℕ, length, sym, subst, ◌∙◌}
use Rattle.scripts.proofs.ScriptLaws.{nothing, something, shorter}
use Rattle.scripts.proofs.PlaceLaws.{Splits, nothing_before, splits_on, malformed, script_read}
use Rattle.scripts.proofs.read.malformed_at.Goals as goal

pub loop-rest-init : goal.loop-rest-init
loop-rest-init c = nothing_before c.args.text.now

pub loop-rest-preserved : goal.loop-rest-preserved
loop-rest-preserved c =
    let next = sym c.next_of.ensures ∙ c.in-Some.is in
    subst (λ (rest : List ℕ). Splits c.args.text.now rest) (sym c.rest-rest.ensures) (splits_on c.args.text.now c.loop-rest.rest.now c.in-Some.entry c.loop-rest.invariant next)

pub loop-rest-smaller : goal.loop-rest-smaller
loop-rest-smaller c =
    subst (λ (rest : List ℕ). length rest < length c.loop-rest.rest.now) (sym c.rest-rest.ensures)
    (shorter c.loop-rest.rest.now c.in-Some.entry (sym c.next_of.ensures ∙ c.in-Some.is))

pub returns-in_default-clause-some : goal.returns-in_default-clause-some
returns-in_default-clause-some c =
    malformed c.args.text.now c.loop-rest.rest.now c.loop-rest.invariant
    (something c.loop-rest.rest.now (sym c.is_empty.ensures ∙ c.loop-rest-test.true)) (sym c.next_of.ensures ∙ c.in_default.is)

pub returns-clause-none : goal.returns-clause-none
returns-clause-none c =
    script_read c.args.text.now c.loop-rest.rest.now c.loop-rest.invariant
    (nothing c.loop-rest.rest.now (sym c.is_empty.ensures ∙ c.loop-rest-test.false))
