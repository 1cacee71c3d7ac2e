use Rattle.std.proofs.Common.{◌≡◌, IfOk, subst}
use Rattle.clap.specs.Words.{App, app_of}
use Rattle.syn_cli.specs.App.{with_folder_values}
use Rattle.syn_cli.proofs.commands.with_serve_options.Goals as goal

pub returns-clause-app : goal.returns-clause-app
returns-clause-app c =
    let placed : App → Type 0 = λ app. IfOk c.with_folder_options.result
    (λ made. app_of made ≡ with_folder_values app) in
    subst placed c.in_ok-counting.ensures.app c.with_folder_options.ensures.app
