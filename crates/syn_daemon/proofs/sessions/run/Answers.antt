use Rattle.std.proofs.Common.{refl}
use Rattle.syn_daemon.proofs.SessionLemmas.{untouched}
use Rattle.syn_daemon.proofs.sessions.run.Goals as goal
use Rattle.syn_daemon.specs.Sessions.{no_port}
use Rattle.syn_refusal.specs.declared.refusal.Refusal.TheVariants.{Device}

pub returns-in_default-clause-drives : goal.returns-in_default-clause-drives
returns-in_default-clause-drives g c = λ pair machine stands.
    untouched c.args.coordinator pair machine Device stands

pub returns-in_default-clause-refused : goal.returns-in_default-clause-refused
returns-in_default-clause-refused g c = λ pair machine stands. no_port refl

pub returns-in_default-open_port-clause-drives : goal.returns-in_default-open_port-clause-drives
returns-in_default-open_port-clause-drives g c = λ pair machine stands.
    untouched c.args.coordinator pair machine Device stands

pub returns-in_default-open_port-clause-refused : goal.returns-in_default-open_port-clause-refused
returns-in_default-open_port-clause-refused g c = λ pair machine stands. no_port refl
