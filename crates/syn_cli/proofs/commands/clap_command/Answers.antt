use Rattle.std.proofs.Common.{◌∙◌, ap, ap₂, sym}
use Rattle.std.proofs.lemmas.List.{take_all}
use Rattle.std.proofs.lemmas.List.Sums.{fold_more}
use Rattle.clap.specs.Words.{App, with_subcommand}
use Rattle.syn_cli.specs.App.{syn_app, top_app, verb_app, with_verbs}
use Rattle.syn_cli.specs.Verbs.{verbs}
use Rattle.syn_cli.specs.declared.verb.Verb.TheVariants.{Format}
use Rattle.syn_cli.proofs.commands.clap_command.Goals as goal

pub loop-verb-preserved : goal.loop-verb-preserved
loop-verb-preserved c =
    c.in_ok-top-2.ensures.shape c.in_ok-command.ensures.globals
    ∙ (ap₂ (λ (a : App) (b : App). with_subcommand a b.top) c.loop-verb.invariant
    c.in_ok-command.ensures.app
    ∙ sym (fold_more (λ (app : App) verb. with_subcommand app (verb_app verb).top) top_app verbs
    c.loop-verb.verb-index Format c.loop-verb-test.true))

pub returns : goal.returns
unfolding syn_app
returns c =
    c.loop-verb.invariant
    ∙ ap (with_verbs top_app) (take_all c.loop-verb.verb-index verbs c.loop-verb-test.false)
