use Rattle.std.proofs.Common.{rules, ap, ◌≡◌, ◌∙◌}
use Rattle.clap.specs.Words.{App, app_of, with_subcommand}
use Rattle.server.specs.Words.{once_app}
use Rattle.server.proofs.words.once_words.Goals as goal

pub returns : goal.returns
returns c = λ old new adds.
    let once_is : app_of c.about.result ≡ once_app = search rules in
    adds.shape (search rules) ∙ ap (λ (a : App). with_subcommand (app_of old) a.top) once_is
