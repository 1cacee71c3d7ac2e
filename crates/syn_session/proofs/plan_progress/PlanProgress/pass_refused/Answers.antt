use Rattle.std.proofs.Common.{◌∷◌, ◌++◌, [], refl, sym, ap, ◌∙◌}
use Rattle.syn_session.proofs.ProgressLemmas.{progress_refused, cursor_fits}
use Rattle.syn_session.proofs.plan_progress.PlanProgress.pass_refused.Goals as goal

pub returns-clause-passes : goal.returns-clause-passes
returns-clause-passes c left right reached planned is at path none =
    progress_refused c.args.self.now _ left right reached is planned at refl
    (c.one_more-self.ensures (cursor_fits c.args.self.now left right reached is planned at))
    refl refl c.args.why none refl
    (c.in_ok-push.ensures.items
    ∙ ap (λ p. c.args.self.now.refused.items ++ (c.args.why, p) ∷ []) (sym path))
