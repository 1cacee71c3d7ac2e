use Rattle.std.proofs.Common.{◌≡◌, take}
use Rattle.clap.specs.Words.{app_of}
use Rattle.syn_cli.specs.App.{top_app, with_verbs}
use Rattle.syn_cli.specs.Verbs.{verbs}
use Rattle.syn_cli.proofs.commands.clap_command.Given as goal

abbrev pub invariant-loop-verb : goal.invariant-loop-verb
invariant-loop-verb l = app_of l.top ≡ with_verbs top_app (take l.verb-index verbs)
