use Rattle.std.proofs.Common.{inr, subst, sym, ◌∙◌}
use Rattle.syn_machine.specs.Side.{Begin, Refused}
use Rattle.syn_agent.proofs.BeginLemmas.{begun_answers, begun_refused, begun_takes}
use Rattle.syn_agent.proofs.CauseLemmas.{counts, none_of, refused_one}
use Rattle.syn_agent.proofs.agent.Agent.begin.Goals as goal
use Rattle.syn_agent.specs.Answers.{Answers}
use Rattle.syn_agent.specs.Causes.{CountsFailures}
use Rattle.syn_replica.specs.Replica.{disk_of}

pub returns-in-Ok-clause-answers : goal.returns-in-Ok-clause-answers
returns-in-Ok-clause-answers g c history stands =
    let told = c.in-Ok.ensures in
    begun_answers c.args.replica.now c.begin.new.self c.args.self.now history c.args.session
    c.args.pair stands c.in-Ok.position (told.acknowledged history stands)
    (none_of _ (λ why is. told.refused history why stands is)) told.machine told.world
    (told.any_moment history stands)

pub returns-in-Ok-clause-memory : goal.returns-in-Ok-clause-memory
returns-in-Ok-clause-memory g c history stands is = absurd (let k = is in cc)

pub returns-in-Ok-clause-failures : goal.returns-in-Ok-clause-failures
returns-in-Ok-clause-failures g c =
    inr ((λ is. let k = is in cc), c.in-Ok.ensures.machine.device.failures)

pub returns-in-Err-clause-answers : goal.returns-in-Err-clause-answers
returns-in-Err-clause-answers g c history stands =
    let told = c.in-Err.ensures in
    subst (λ r. Answers c.args.replica.now c.begin.new.self c.args.self.now c.args.self.now history
    c.args.session (Begin c.args.pair) (Refused r)) (sym c.refusal.ensures)
    (begun_refused c.args.replica.now c.begin.new.self c.args.self.now history c.args.session
    c.args.pair stands c.in-Err.error (told.cause history stands)
    (λ why is. told.refused history why stands is)
    (λ p s r. let k = (told.again p s r).0 in cc) told.machine told.world
    (told.any_moment history stands))

pub returns-in-Err-clause-memory : goal.returns-in-Err-clause-memory
returns-in-Err-clause-memory g c history stands is =
    let told = c.in-Err.ensures in
    begun_takes c.args.replica.now c.begin.new.self c.args.self.now history c.args.session
    c.args.pair stands c.in-Err.error (λ why is. told.refused history why stands is)
    (λ p s r. let k = (told.again p s r).0 in cc)
    (sym c.refusal.ensures ∙ refused_one _ _ is)

pub returns-in-Err-clause-failures : goal.returns-in-Err-clause-failures
returns-in-Err-clause-failures g c =
    subst (λ r. CountsFailures (Refused r) (g.D.Disk.failures (disk_of c.args.replica.now))
    (g.D.Disk.failures (disk_of c.begin.new.self))) (sym c.refusal.ensures)
    (counts c.in-Err.error _ _ c.in-Err.ensures.machine.device.failures)
