use Rattle.std.proofs.lemmas.Result.{err_from_is_err_and}
use Rattle.std.proofs.Common.{subst}
use Rattle.syn_simulate.proofs.RunLemmas.{AsPromised, no_lines, no_world, runs_script}
use Rattle.syn_simulate.proofs.runs.play.Goals as goal

pub returns-in-Ok-clause-run : goal.returns-in-Ok-clause-run
returns-in-Ok-clause-run c =
    let starts = c.in_ok-world.ensures.opened in
    runs_script c.args.script.now c.in_ok-lines.lines.items c.in_ok-world.world c.in-Ok.player
    c.in_ok-lines.ensures.ok starts
    (c.in-Ok.ensures _ (c.new.ensures.fresh starts.opens.model starts.opens.is))
    (subst AsPromised c.world.ensures c.promise.ensures.kept)

pub returns-in_err-lines-clause-refused : goal.returns-in_err-lines-clause-refused
returns-in_err-lines-clause-refused c =
    let p = err_from_is_err_and c.from_residual.result c.from_residual.ensures.1 in
    rw (p.1, p.2) (no_lines c.args.script.now _ c.in_err-lines.ensures.bad)

pub returns-in_err-world-clause-refused : goal.returns-in_err-world-clause-refused
returns-in_err-world-clause-refused c =
    let p = err_from_is_err_and c.from_residual-in_err-world.result
    c.from_residual-in_err-world.ensures.1 in
    rw (p.1, p.2) (no_world c.args.script.now _ c.in_err-world.ensures.refused)
