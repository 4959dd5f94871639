use Rattle.std.proofs.Common.{rules, ap, codes, ◌≡◌, ◌∙◌}
use Rattle.std.proofs.lemmas.Result.{IfOk-weaker}
use Rattle.clap.specs.Words.{App, app_of, new_app, with_subcommand}
use Rattle.clap.specs.Simple.{on_top}
use Rattle.server.specs.Words.{follow_app, replay_app, serve_app, once_app, requiring, versioned}
use Rattle.server.proofs.words.office.Goals as goal

pub returns : goal.returns
returns c =
    let top_is : app_of c.subcommand_required-office.result ≡ on_top requiring (on_top versioned (new_app (codes "office"))) = search rules in
    let first_is = c.once_words-once.ensures _ _ c.in_ok-subcommand.ensures ∙ ap (λ (a : App). with_subcommand a once_app.top) top_is in
    let second_is = c.in_ok-replay_words.ensures _ _ c.in_ok-subcommand-2.ensures ∙ ap (λ (a : App). with_subcommand a replay_app.top) first_is in
    let third_is = c.in_ok-follow_words.ensures _ _ c.in_ok-subcommand-3.ensures ∙ ap (λ (a : App). with_subcommand a follow_app.top) second_is in
    IfOk-weaker c.subcommand-4.result _ _
    (λ m h. c.in_ok-serve_words.ensures _ _ h ∙ ap (λ (a : App). with_subcommand a serve_app.top) third_is) c.subcommand-4.ensures
