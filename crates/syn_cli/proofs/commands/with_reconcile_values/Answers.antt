use Rattle.std.proofs.Common.{◌≡◌, IfOk, codes, subst}
use Rattle.clap.specs.Words.{App, app_of, with_rule}
use Rattle.syn_cli.specs.App.{option_rule}
use Rattle.syn_cli.proofs.commands.with_reconcile_values.Goals as goal

pub returns-clause-app : goal.returns-clause-app
returns-clause-app c =
    let placed : App → Type 0 = λ app. IfOk c.with_option-2.result
    (λ made. app_of made ≡ with_rule app (option_rule (codes "ARCHIVE") (codes "archive"))) in
    subst placed c.in_ok-preferring.ensures.app c.with_option-2.ensures.app
