use Rattle.std.proofs.Common.{rules, ◌≡◌, ◌∙◌, ◌||◌, ap₂, sym, take, get_or}
use Rattle.std.proofs.lemmas.List.Sums.{fold_more}
use Rattle.clap.specs.Words.{App, app_of, rule_of, with_rule, new_app}
use Rattle.syn_cli.specs.App.{named_app, required_rule}
use Rattle.syn_cli.specs.Verbs.{name_of, word_of}
use Rattle.syn_cli.specs.declared.value.ValueName.{ValueName}
use Rattle.syn_cli.specs.declared.value.ValueName.TheVariants.{Command}
use Rattle.syn_cli.proofs.commands.word_command.Goals as goal

pub loop-value-preserved : goal.loop-value-preserved
loop-value-preserved c =
    let values = c.values-values.result.now in
    let at = c.loop-value.value-index in
    let here : ValueName = get_or values at Command in
    let named : c.as_str-id.result.now ≡ name_of here = search rules in
    let rule_is : rule_of c.help.result ≡ required_rule (name_of here) = search rules in
    let added : app_of c.in_ok-command.command
    ≡ with_rule (named_app (word_of c.args.verb) (take at values)) (required_rule (name_of here)) =
    c.in_ok-command.ensures.shape (search rules)
    ∙ ap₂ with_rule c.loop-value.invariant.app rule_is in
    record {
      app =
          added
          ∙ sym (fold_more (λ (app : App) value. with_rule app (required_rule (name_of value)))
          (new_app (word_of c.args.verb)) values at Command c.loop-value-test.true);
      globals = c.in_ok-command.ensures.globals
          ∙ ap₂ (λ a b. a || b) c.loop-value.invariant.globals (search rules);
    }
