use Rattle.syn_daemon.proofs.sessions.drive.Goals as goal

pub returns-clause-drives : goal.returns-clause-drives
returns-clause-drives g c = λ pair machine stands.
    let driven = c.run.ensures.drives pair machine stands in record {
      states = _;
      heard = driven.0;
      from = _;
      to = _;
      drives = driven.1;
      begins = driven.2;
    }
