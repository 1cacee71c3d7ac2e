use Rattle.syn_world.proofs.CrashSafetyLemmas.{disks_are_start, runs_recover}
use Rattle.syn_world.proofs.FollowingLemmas.{unmarked_stand}
use Rattle.syn_world.proofs.PairLemmas.{run_keeps_pair}
use Rattle.syn_world.proofs.laws.disk_laws.Goals as goal

pub returns-clause-start : goal.returns-clause-start
returns-clause-start c = disks_are_start

pub returns-clause-recovered : goal.returns-clause-recovered
returns-clause-recovered c = runs_recover c.run_laws.ensures.stands c.run_laws.ensures.pair

pub returns-clause-pair : goal.returns-clause-pair
returns-clause-pair c old new steps runs = run_keeps_pair old steps new runs

pub returns-clause-unmarked : goal.returns-clause-unmarked
returns-clause-unmarked c = unmarked_stand c.run_laws.ensures.unmarked
