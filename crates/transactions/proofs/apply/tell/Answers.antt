use Rattle.std.proofs.Common.{Option, is_some, sym, ap, ◌∙◌}
use Rattle.transaction_machines.specs.declared.step.Step.{Step}
use Rattle.transaction_machines.specs.Lines.{is_answer}
use Rattle.transactions.specs.declared.transaction.Transaction.{Transaction}
use Rattle.transactions.specs.Contents.{Contents, stepped_by, table_at}
use Rattle.transactions.specs.Slots.{at}
use Rattle.transactions.proofs.FireLaws.{follows_by}
use Rattle.transactions.proofs.apply.tell.Goals as goal

pub carry_out-requires-clause-follows : goal.carry_out-requires-clause-follows
carry_out-requires-clause-follows c =
    follows_by c.args.places.now.slots c.args.id c.in-Some.transaction.now (is_answer c.args.input) (is_some c.args.fresh) c.in-Some-advance.step
    c.requires.given
    (c.in-Some.ensures ∙ ap (λ l. at l c.args.id) c.slots.ensures)
    c.in-Some-advance.ensures.follows

pub returns-clause-table : goal.returns-clause-table
returns-clause-table c = λ rules.
    let t = c.in-Some.transaction.now in
    let table : Contents = record { slots = c.args.places.now.slots; timers = c.args.timers.now.timers; rules = rules; key = c.args.places.now.key } in
    let there = c.in-Some.ensures ∙ ap (λ l. at l c.args.id) c.slots.ensures in
    c.carry_out.ensures.table rules t (sym there)
    ∙ ap (λ (line : Option Step). stepped_by table c.args.id t c.args.fresh c.args.now line) c.in-Some-advance.ensures.row
    ∙ ap (λ (found : Option Transaction). table_at table c.args.id found c.args.input c.args.fresh c.args.now) there
