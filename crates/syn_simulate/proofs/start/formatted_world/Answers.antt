use Rattle.syn_runs.specs.Headline.{formatted}
use Rattle.syn_simulate.proofs.start.formatted_world.Goals as goal

pub returns-in-Ok-clause-opened : goal.returns-in-Ok-clause-opened
returns-in-Ok-clause-opened c = record {
  disks = c.in_ok-disks.disks;
  stand = c.in_ok-disks.ensures.stand;
  opens = c.in-Ok.ensures.opened 1 formatted c.in_ok-disks.ensures.stand;
}

pub returns-in-Err-clause-refused : goal.returns-in-Err-clause-refused
returns-in-Err-clause-refused c = c.in-Err.ensures.refused 1 formatted c.in_ok-disks.ensures.stand
