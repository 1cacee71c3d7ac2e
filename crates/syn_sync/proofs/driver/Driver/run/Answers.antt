use Rattle.std.proofs.Common.{◌∙◌, subst, sym, option_map}
use Rattle.syn_session.specs.Sendings.{messages_of}
use Rattle.syn_sync.proofs.RunLemmas.{drives_down, drives_silent, drives_whole, stands_of}
use Rattle.syn_sync.proofs.StartLemmas.{on_ok, unended}
use Rattle.syn_sync.proofs.driver.Driver.run.Goals as goal
use Rattle.syn_sync.specs.Drivers.{states_of, outlets_of}
use Rattle.syn_sync.specs.Outlets.{Writes}
use Rattle.syn_sync.specs.Refusals.{stopped}
use Rattle.syn_sync.specs.Runs.{Begins, frames_to}
use Rattle.syn_path.specs.Sides.{which_of}

pub returns-in-Err-clause-drives : goal.returns-in-Err-clause-drives
returns-in-Err-clause-drives g c = λ pair machine stands.
    let outlets = outlets_of {R = g.row.R.Denot} {W = g.row.W.Denot} g.W.Write.contents in
    let states = states_of {R = g.row.R.Denot} {W = g.row.W.Denot} g.R.Read.remaining in (
      states c.args.self.now,
      drives_silent c.start.new.coordinator pair machine (states c.args.self.now)
          (outlets c.args.self.now) (c.in-Err.ensures pair machine stands).0,
      tt,
    )

pub returns-in-Err-clause-refused : goal.returns-in-Err-clause-refused
returns-in-Err-clause-refused g c = λ pair machine stands.
    (c.in-Err.ensures pair machine stands).1

pub returns-then-is_cut-clause-drives : goal.returns-then-is_cut-clause-drives
returns-then-is_cut-clause-drives g c = λ pair machine stands.
    let outlets = outlets_of {R = g.row.R.Denot} {W = g.row.W.Denot} g.W.Write.contents in
    let states = states_of {R = g.row.R.Denot} {W = g.row.W.Denot} g.R.Read.remaining in (
      states c.args.self.now,
      drives_down c.start.new.coordinator pair machine (messages_of c.in-Ok.sends.items)
          (states c.args.self.now) (outlets c.args.self.now)
          (c.in-Ok.ensures pair machine stands).0 (sym c.is_cut.ensures ∙ c.if-is_cut.true),
      tt,
    )

pub returns-then-is_cut-clause-refused : goal.returns-then-is_cut-clause-refused
returns-then-is_cut-clause-refused g c = λ pair machine stands.
    stopped (sym c.is_cut.ensures ∙ c.if-is_cut.true)

pub returns-clause-drives : goal.returns-clause-drives
returns-clause-drives g c = λ pair machine stands.
    let outlets = outlets_of {R = g.row.R.Denot} {W = g.row.W.Denot} g.W.Write.contents in
    let states = states_of {R = g.row.R.Denot} {W = g.row.W.Denot} g.R.Read.remaining in
    let calm = sym c.is_cut.ensures ∙ c.if-is_cut.false in
    let began = c.start.new.coordinator in
    let sent = c.send_all.new.self in
    let told = c.send_all.ensures in
    let begun = c.in-Ok.ensures pair machine stands in
    let now = (begun.0).reached in
    let went = c.go_on.ensures pair now (stands_of began pair now (begun.0).ends calm) in
    let whole = drives_whole (option_map which_of c.args.preference) began
    c.go_on.new.coordinator c.end_if_running.new.coordinator pair machine
    (messages_of c.in-Ok.sends.items) (states c.args.self.now) (states sent) went.0
    (outlets c.args.self.now) (outlets sent) (outlets c.go_on.new.self) begun calm told.states
    (λ side. subst (λ sends. Writes (outlets c.args.self.now side) (outlets sent side)
    (frames_to side (messages_of sends)) (outlets sent side).goes) c.deref.ensures.value
    (told.written side)) went.1 c.end_if_running.ensures.stopped
    (λ now here. c.end_if_running.ensures.calls pair now here) in (
      went.0,
      whole.0,
      on_ok (Begins (option_map which_of c.args.preference) (whole.0).acts)
          c.end_if_running.result whole.1,
    )

pub returns-clause-refused : goal.returns-clause-refused
returns-clause-refused g c = λ pair machine stands.
    unended c.args.coordinator.now c.end_if_running.new.coordinator pair machine
    c.end_if_running.result c.end_if_running.ensures.refused
