use Rattle.std.proofs.Common.{◌≡◌, ◌∙◌, true, [], map, ap, inl, sym, subst}
use Rattle.std.proofs.lemmas.Bool.{true≢false}
use Rattle.clap.specs.Takes.{takes}
use Rattle.clap.specs.Faults.{fault_of, is_simple_and_free}
use Rattle.clap.specs.Simple.{App, is_simple, subcommand_of}
use Rattle.clap.specs.Words.{subcommand_rows_of}
use Rattle.server.specs.Words.{entered_by, is_taken, passes}
use Rattle.server.proofs.WordLaws.{office_is_free, office_is_simple, on_ok, refused_by}
use Rattle.server.proofs.words.command.Goals as goal

pub returns-then-use_stderr-clause-refused : goal.returns-then-use_stderr-clause-refused
unfolding is_taken
returns-then-use_stderr-clause-refused c = inl (λ t.
    let is = c.in-Err.ensures.passes (subst (λ (a : App). takes a (map (λ w. w.now) c.args.words.now) ≡ true) (sym c.in_ok-office.ensures) t) in
    true≢false (sym (rw (c.kind.ensures ∙ is) at c.if-eq.ensures)))

pub returns-clause-refused : goal.returns-clause-refused
unfolding is_taken
returns-clause-refused c = λ t.
    let is = c.in-Err.ensures.passes (subst (λ (a : App). takes a (map (λ w. w.now) c.args.words.now) ≡ true) (sym c.in_ok-office.ensures) t) in
    true≢false (sym (rw (c.kind.ensures ∙ is) at c.if-eq.ensures))

pub returns-in-Ok-clause-passes : goal.returns-in-Ok-clause-passes
unfolding passes
returns-in-Ok-clause-passes c =
    on_ok c.ok_or.result _ (subst (λ (a : App). fault_of a (map (λ w. w.now) c.args.words.now) ≡ []) c.in_ok-office.ensures
    (c.in-Ok.ensures.kinds (ap is_simple_and_free c.in_ok-office.ensures ∙ office_is_free)))

pub returns-in-Ok-clause-refused : goal.returns-in-Ok-clause-refused
unfolding entered_by
returns-in-Ok-clause-refused c =
    let entered = (c.in-Ok.ensures.matches (ap is_simple c.in_ok-office.ensures ∙ office_is_simple)).1 in
    refused_by c.asked_by.result c.ok_or.result (map (λ w. w.now) c.args.words.now) (subcommand_rows_of c.in-Ok.matches) c.ok_or.ensures.value
    (entered ∙ ap (λ (a : App). subcommand_of a (map (λ w. w.now) c.args.words.now)) c.in_ok-office.ensures) c.asked_by.ensures.none
