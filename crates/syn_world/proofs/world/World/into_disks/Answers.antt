use Rattle.std.proofs.Common.{◌∙◌, ap, option_map, subst, sym}
use Rattle.syn_world.specs.Failures.{disks_in}
use Rattle.syn_world.specs.Openings.{StopsDisks}
use Rattle.syn_promise.specs.Laws.{told_by}
use Rattle.syn_world.proofs.HeadlineLemmas.{holds_in, may_run, promised_before}
use Rattle.syn_world.proofs.RunLemmas.{machines_out, value_is}
use Rattle.syn_world.proofs.world.World.into_disks.Goals as goal

pub returns-clause-stopped : goal.returns-clause-stopped
returns-clause-stopped g c disks holds =
    let running = c.in-Some.running in
    let same = sym (ap (option_map disks_in) c.in-Some.is) ∙ holds in
    subst (λ d. StopsDisks g.D.Disk.may_leave g.D.Disk.failures d c.into_disks.result)
    (value_is (disks_in running) disks same) c.into_disks.ensures.stopped

pub returns-clause-left : goal.returns-clause-left
returns-clause-left g c model has =
    c.into_disks.ensures.left model
    (machines_out model c.args.self c.in-Some.running has (sym c.in-Some.is))

pub returns-clause-free : goal.returns-clause-free
returns-clause-free g c model has =
    c.into_disks.ensures.free model
    (machines_out model c.args.self c.in-Some.running has (sym c.in-Some.is))

pub returns-clause-promised : goal.returns-clause-promised
returns-clause-promised g c pair before steps told keeps =
    let disks = disks_in c.in-Some.running in
    let holds = ap (option_map disks_in) c.in-Some.is in
    promised_before g.D.Disk.may_leave disks c.into_disks.result
    (returns-clause-stopped g c disks holds).back pair before steps told (keeps.left disks holds)

pub returns-clause-again : goal.returns-clause-again
returns-clause-again g c pair disks before steps fits run =
    let later = disks_in run.is.running in
    let stopped = returns-clause-stopped g c later
    (holds_in c.args.self run.is.running run.is.there) in
    may_run g.D.Disk pair c.into_disks.result before steps (told_by run.new) fits
    (returns-clause-free g c run.new (record {
      running = run.is.running;
      there = run.is.there;
      are = run.is.is.machines;
    })) g.met.D.Disk.seen_may_stay
    (promised_before g.D.Disk.may_leave later c.into_disks.result stopped.back pair before steps
    (told_by run.new) run.run.promised)
