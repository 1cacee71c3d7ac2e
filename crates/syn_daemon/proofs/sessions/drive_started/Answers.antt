use Rattle.syn_daemon.proofs.SessionLemmas.{run_driven, untouched}
use Rattle.syn_daemon.proofs.sessions.drive_started.Goals as goal
use Rattle.syn_daemon.specs.Sessions.{no_thread}
use Rattle.syn_refusal.specs.declared.refusal.Refusal.TheVariants.{Memory}
use Rattle.std.proofs.Common.{refl}

pub returns-then-not-started : goal.returns-then-not-started
returns-then-not-started g c = record {
  drives = λ pair machine stands. untouched c.args.coordinator pair machine Memory stands;
  refused = λ pair machine stands. no_thread refl;
  ended = tt;
  goes = tt;
}

pub returns : goal.returns
returns g c = record {
  drives = c.drive-driven.ensures.drives;
  refused = λ pair machine stands.
      run_driven c.args.coordinator c.drive-driven.new.coordinator pair machine
      c.drive-driven.result (c.drive-driven.ensures.refused pair machine stands);
  ended = c.drive-driven.ensures.ended;
  goes = c.drive-driven.ensures.goes;
}
