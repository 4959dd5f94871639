use Rattle.std.proofs.Common.{rules, ap, ap₂, codes, ◌≡◌, ◌∙◌}
use Rattle.std.proofs.lemmas.Result.{IfOk-weaker}
use Rattle.clap.specs.Words.{App, app_of, new_app, rule_of, with_rule, with_subcommand}
use Rattle.server.specs.Words.{config_rule, notes_rule, follow_app}
use Rattle.server.proofs.words.follow_words.Goals as goal

pub returns : goal.returns
returns c =
    let config_is : rule_of c.long-config.result ≡ config_rule = search rules in
    let below_is : app_of c.about.result ≡ new_app (codes "follow") = search rules in
    let notes_is : rule_of c.action-notes.result ≡ notes_rule = search rules in
    IfOk-weaker c.arg-2.result _ _ (λ m h old new adds.
    let follow_is : app_of m ≡ follow_app = h.shape (search rules)
    ∙ ap₂ with_rule (c.in_ok-arg.ensures.shape (search rules) ∙ ap₂ with_rule below_is config_is) notes_is in
    adds.shape (search rules) ∙ ap (λ (a : App). with_subcommand (app_of old) a.top) follow_is) c.arg-2.ensures
