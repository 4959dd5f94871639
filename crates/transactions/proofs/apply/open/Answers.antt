use Rattle.std.proofs.Common.{◌≡◌, ℕ, true, refl, ap, subst, sym, ◌∙◌}
use Rattle.index.specs.declared.print.PrintKey.{PrintKey}
use Rattle.transaction_machines.specs.declared.step.Starts.{Starts}
use Rattle.transaction_machines.specs.Lines.{starts_with_lines}
use Rattle.transactions.specs.declared.transaction.Transaction.{Transaction}
use Rattle.transactions.specs.Contents.{placed}
use Rattle.transactions.specs.Slots.{free_number}
use Rattle.transactions.specs.Timing.{started}
use Rattle.transactions.specs.Waiting.{starts_within}
use Rattle.transactions.proofs.FireLaws.{fireable_placed, lines_within}
use Rattle.transactions.proofs.apply.open.Goals as goal

pub returns-clause-fireable : goal.returns-clause-fireable
returns-clause-fireable c =
    let within = c.starts_within-within.ensures.starts ∙ ap (λ (t : Transaction). starts_within c.args.rules.first_wait t.parts c.args.starts) c.get.ensures in
    let lines = subst (λ (ss : Starts). starts_with_lines c.args.transaction.state ss ≡ true) (sym within)
    (lines_within c.args.rules.first_wait c.args.transaction.parts c.args.transaction.state c.args.starts c.requires.lines) in
    fireable_placed c.args.places.now.slots c.open-id.new.self.slots c.args.timers.now.timers c.args.timers.now.timers c.set_all.new.timers.timers
    c.open-id.result c.args.transaction c.starts_within-within.result c.args.now c.requires.fireable lines c.requires.sent
    c.open-id.ensures.number (c.open-id.ensures.slots ∙ ap (λ n. placed c.args.places.now.slots n c.args.transaction) (sym c.open-id.ensures.number)) refl c.set_all.ensures.timers

pub returns-clause-table : goal.returns-clause-table
returns-clause-table c =
    let slots = c.args.places.now.slots in
    let within = c.starts_within-within.ensures.starts ∙ ap (λ (t : Transaction). starts_within c.args.rules.first_wait t.parts c.args.starts) c.get.ensures in
    let timers = c.set_all.ensures.timers ∙ ap (λ (n : ℕ). started c.args.timers.now.timers n c.starts_within-within.result c.args.now) c.open-id.ensures.number
    ∙ ap (λ (ss : Starts). started c.args.timers.now.timers (free_number slots) ss c.args.now) within in
    ap (λ l. record { slots = l; timers = c.set_all.new.timers.timers; rules = c.args.rules; key = c.open-id.new.self.key }) c.open-id.ensures.slots
    ∙ ap (λ ts. record { slots = placed slots (free_number slots) c.args.transaction; timers = ts; rules = c.args.rules; key = c.open-id.new.self.key }) timers
    ∙ ap (λ (k : PrintKey). record {
      slots = placed slots (free_number slots) c.args.transaction;
      timers = started c.args.timers.now.timers (free_number slots) (starts_within c.args.rules.first_wait c.args.transaction.parts c.args.starts) c.args.now;
      rules = c.args.rules;
      key = k;
    }) c.open-id.ensures.key
