use Rattle.std.proofs.Common.{◌≡◌, ◌+◌, ◌/◌, ◌∷◌, sym, subst}
use Rattle.log_rules.specs.NoteLimits.{Follows}
use Rattle.log_rules.proofs.LimitLaws.{follows}
use Rattle.log_rules.proofs.note_limit.NoteLimit.admits.Goals as goal

pub returns-then-logged-lt-MOST_LOGGED-clause-follows : goal.returns-then-logged-lt-MOST_LOGGED-clause-follows
returns-then-logged-lt-MOST_LOGGED-clause-follows c moments before below =
    subst (λ n. Follows (c.args.now ∷ moments) (record { second = c.args.now / 1000; logged = n + 1; left_out = c.self.inside.left_out }))
    (sym c.logged_in-logged.ensures) (follows moments c.args.self.now c.args.now c.self.inside.left_out before below)
