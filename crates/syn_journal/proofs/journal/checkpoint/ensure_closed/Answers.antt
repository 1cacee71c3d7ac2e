use Rattle.std.proofs.Common.{◌≡◌, ◌∙◌, ℕ, List, false, length, ap, sym, subst, arith}
use Rattle.std.proofs.lemmas.Result.{on_ok_weaker}
use Rattle.syn_disk.specs.Disk.{Only, overwritten}
use Rattle.syn_disk.specs.Stops.{LeavesOnly}
use Rattle.syn_disk.specs.declared.disk.TheConstants.{DISK_SIZE}
use Rattle.syn_journal.specs.inner.Commit.{IsClosing}
use Rattle.syn_journal.specs.Layout.{start_of, is_open}
use Rattle.syn_journal.proofs.Checkpoints.{closing_bytes, at_first, follows, seen_closing}
use Rattle.syn_journal.proofs.Checkpoints.{seen_closed}
use Rattle.syn_journal.proofs.Moments.{started, goes_on}
use Rattle.syn_journal.proofs.Calls.{fewer, one_breaks, one_made, one_up_to, then_up_to}
use Rattle.syn_journal.proofs.Calls.{up_to_of_exit}
use Rattle.syn_journal.proofs.journal.checkpoint.ensure_closed.Given.{Over}
use Rattle.syn_journal.proofs.journal.checkpoint.ensure_closed.Goals as goal
use Rattle.syn_journal.proofs.journal.checkpoint.ensure_closed.Goals.{After-sync, After-write}
use Rattle.syn_journal.proofs.journal.checkpoint.ensure_closed.Goals.{then-was_open, else-was_open}

gate_is : (g : Over) (c : After-write g) → c.if-was_open.gate.now ≡ closing_bytes c.args.was_open
gate_is g c = elim c.if-was_open.branch [
  | then-was_open w ↦ ap (λ slice. slice.now) w.gate-is ∙ ap closing_bytes (sym w.if-was_open.true)
  | else-was_open w ↦ ap (λ slice. slice.now) w.gate-is ∙ ap closing_bytes (sym w.if-was_open.false)
]

-- what a stop leaves after the write
closes : (g : Over) (c : After-write g) →
    Only (g.D.Disk.seen c.args.disk.now) (g.D.Disk.may_leave c.args.disk.now) →
    (bytes : List ℕ) → g.D.Disk.may_leave c.write.new.self bytes →
    IsClosing (g.D.Disk.seen c.args.disk.now) c.args.half bytes
closes g c only =
    follows (g.D.Disk.seen c.args.disk.now) c.args.half c.args.was_open _ c.requires (gate_is g c)
    _ _ only (rw c.start.ensures at c.write.ensures.stop)

after_write : (g : Over) (c : After-write g) →
    Only (g.D.Disk.seen c.args.disk.now) (g.D.Disk.may_leave c.args.disk.now) →
    LeavesOnly g.D.Disk.moment g.D.Disk.left_since c.args.disk.now c.write.new.self
    (IsClosing (g.D.Disk.seen c.args.disk.now) c.args.half)
after_write g c only =
    let disk = c.args.disk.now in
    goes_on g.D.Disk.moment g.D.Disk.left_since disk disk c.write.new.self _ _
    (started g.D.Disk.moment g.D.Disk.left_since disk _ (λ d left. at_first (g.D.Disk.seen disk)
    c.args.half c.args.was_open _ c.requires (gate_is g c) _ only d
    (g.met.D.Disk.only_now disk d left))) c.write.ensures.time (closes g c only)

pub returns-in_err-write-clause-any_moment : goal.returns-in_err-write-clause-any_moment
returns-in_err-write-clause-any_moment g c =
    after_write g (goal.at.returns-in_err-write-clause-any_moment g c).After-write

pub returns-clause-any_moment : goal.returns-clause-any_moment
returns-clause-any_moment g c only =
    let k = (goal.at.returns-clause-any_moment g c).After-write in
    goes_on g.D.Disk.moment g.D.Disk.left_since c.args.disk.now c.write.new.self c.sync.new.self
    _ _ (after_write g k only) c.sync.ensures.time
    (λ d now. closes g k only d (c.sync.ensures.stop d now))

-- the half is closed, and nothing else has changed
closed : (g : Over) (c : After-sync g) →
    IsClosing (g.D.Disk.seen c.args.disk.now) c.args.half (g.D.Disk.seen c.sync.new.self)
    × (is_open (g.D.Disk.seen c.sync.new.self) c.args.half ≡ false)
closed g c =
    let disk = c.args.disk.now in
    let start = g.D.Disk.seen disk in
    let half = c.args.half in
    let size : length start ≡ DISK_SIZE = g.met.D.Disk.whole disk _ _ (g.met.D.Disk.counts_now disk
    (g.D.Disk.moment disk) _ (omega arith) (g.met.D.Disk.seen_may_stay disk)) in
    let bytes = gate_is g (goal.at.After-sync g c).After-write in
    let seen : g.D.Disk.seen c.sync.new.self
    ≡ overwritten start (start_of half) c.if-was_open.gate.now = c.sync.ensures.seen
    ∙ (rw c.start.ensures at c.in_ok-write.ensures.written) in (
      subst (λ d. IsClosing start half d) (sym seen)
          (seen_closing start half c.args.was_open _ c.requires bytes size),
      ap (λ d. is_open d half) seen
          ∙ seen_closed start half c.args.was_open _ c.requires bytes size,
    )

pub returns-clause-same : goal.returns-clause-same
returns-clause-same g c =
    on_ok_weaker c.sync.result (λ _. (closed g (goal.at.returns-clause-same g c).After-sync).0)
    c.sync.ensures.durable

pub returns-clause-closed : goal.returns-clause-closed
returns-clause-closed g c =
    on_ok_weaker c.sync.result (λ _. (closed g (goal.at.returns-clause-closed g c).After-sync).1)
    c.sync.ensures.durable

pub returns-in_err-write-clause-calls : goal.returns-in_err-write-clause-calls
returns-in_err-write-clause-calls g c =
    let a = g.D.Disk.arms c.args.disk.now in
    let b = g.D.Disk.arms c.write.new.self in
    up_to_of_exit 2 c.from_residual.result _ a b c.from_residual.ensures.1
    (fewer 1 2 a b (omega arith) (one_breaks a b c.write.ensures.arms))

pub returns-clause-calls : goal.returns-clause-calls
returns-clause-calls g c =
    let a = g.D.Disk.arms c.args.disk.now in
    let b = g.D.Disk.arms c.write.new.self in
    let d = g.D.Disk.arms c.sync.new.self in
    then_up_to 1 1 c.sync.result a b d
    (one_made a b c.in_ok-write.ensures.allowed c.write.ensures.arms)
    (one_up_to c.sync.result b d c.sync.ensures.allowed c.sync.ensures.arms)
