use Rattle.std.proofs.Common.{refl}
use Rattle.syn_session.proofs.ProgressLemmas.{progress_conflict, cursor_fits}
use Rattle.syn_session.proofs.plan_progress.PlanProgress.pass_conflict.Goals as goal

pub returns-clause-passes : goal.returns-clause-passes
returns-clause-passes c left right reached planned is at conflict =
    progress_conflict c.args.self.now _ left right reached is planned at refl
    (c.one_more-self.ensures (cursor_fits c.args.self.now left right reached is planned at))
    refl refl c.args.path conflict c.in_ok-push.ensures.items refl
