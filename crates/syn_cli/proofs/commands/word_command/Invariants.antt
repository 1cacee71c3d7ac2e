use Rattle.std.proofs.Common.{◌≡◌, take, false}
use Rattle.clap.specs.Words.{app_of}
use Rattle.clap.specs.declared.Command.TheViews.{out-Command}
use Rattle.syn_cli.specs.App.{named_app}
use Rattle.syn_cli.specs.Verbs.{word_of}
use Rattle.syn_cli.proofs.commands.word_command.Given as goal

abbrev pub invariant-loop-value : goal.invariant-loop-value
invariant-loop-value l = record {
  app : app_of l.command ≡ named_app (word_of l.verb) (take l.value-index l.values);
  globals : (out-Command l.command).has_globals ≡ false;
}
