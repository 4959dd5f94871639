use Rattle.std.proofs.Common.{rules, ◌≡◌, ◌∙◌, [], true, false, refl, sym, ap}
use Rattle.std.proofs.lemmas.List.{append-nil}
use Rattle.operator.specs.declared.event_log.EventLog.{EventLog}
use Rattle.operator.proofs.DueLaws.{all_due, all_due_if, all_silent, none_silent}
use Rattle.operator.proofs.event_log.EventLog.put_all_due.Goals as goal

pub returns-then-not-logs_calls : goal.returns-then-not-logs_calls
returns-then-not-logs_calls c =
    let before = c.args.self.now in
    let mid = c.put_left_out.new.self in
    let after = c.put_counts.new.self in
    let off : c.logs_calls.result ≡ false = search rules in
    record {
      ok = all_due c.args.tally c.args.ways.now c.args.now before mid after c.args.out.now.items c.put_left_out.new.out.items c.put_counts.new.out.items c.put_counts.new.out.items []
          c.in_ok-put_left_out.ensures.ok c.put_left_out.ensures.limit c.in_ok-put_counts.ensures.ok c.put_counts.ensures.others (sym (append-nil c.put_counts.new.out.items))
          (none_silent after.level before.level c.logs_calls.result before.ledger c.args.ways.now c.logs_calls.ensures
          (ap (λ (l : EventLog). l.level) c.put_counts.ensures.others ∙ ap (λ (l : EventLog). l.level) c.put_left_out.ensures.limit) off);
    }

pub returns : goal.returns
returns c =
    let before = c.args.self.now in
    let mid = c.put_left_out.new.self in
    let after = c.put_counts.new.self in
    let on : c.logs_calls.result ≡ true = search rules in
    record {
      ok = all_due_if c.put_silent_ways.result c.args.tally c.args.ways.now c.args.now before mid after c.args.out.now.items c.put_left_out.new.out.items c.put_counts.new.out.items
          c.put_silent_ways.new.out.items _
          c.in_ok-put_left_out.ensures.ok c.put_left_out.ensures.limit c.in_ok-put_counts.ensures.ok c.put_counts.ensures.others c.put_silent_ways.ensures
          (all_silent after.level before.level c.logs_calls.result before.ledger after.ledger c.args.ways.now c.logs_calls.ensures
          (ap (λ (l : EventLog). l.level) c.put_counts.ensures.others ∙ ap (λ (l : EventLog). l.level) c.put_left_out.ensures.limit) on
          (ap (λ (l : EventLog). l.ledger) c.put_counts.ensures.others ∙ ap (λ (l : EventLog). l.ledger) c.put_left_out.ensures.limit));
    }
