use Rattle.std.proofs.Common.{◌≡◌, ◌∙◌, ◌+◌, ℕ, List, [], ◌∷◌, ap, sym, subst, arith}
use Rattle.std.specs.Prelude.{OnOk}
use Rattle.std.proofs.lemmas.Result.{on_ok_weaker}
use Rattle.syn_disk.specs.Disk.{Only, CountsFailure, overwritten}
use Rattle.syn_disk.specs.Stops.{LeavesOnly}
use Rattle.syn_journal.specs.inner.Commit.{IsStagedOrOpened}
use Rattle.syn_journal.specs.Layout.{open_gate}
use Rattle.syn_journal.proofs.Calls.{fewer, one_breaks, one_made, one_up_to, then_breaks, then_made}
use Rattle.syn_journal.proofs.Calls.{then_up_to, up_to_of_exit}
use Rattle.syn_journal.proofs.Commits.{at_first, staged, opened}
use Rattle.syn_journal.proofs.Moments.{started, goes_on}
use Rattle.syn_journal.proofs.commit.commit.Given.{Over}
use Rattle.syn_journal.proofs.commit.commit.Goals as goal
use Rattle.syn_journal.proofs.commit.commit.Goals.{After-sync, After-write, After-write-2}

-- what a stop leaves after each of the first three calls
after_write : (g : Over) (c : After-write g) →
    Only (g.D.Disk.seen c.args.disk.now) (g.D.Disk.may_leave c.args.disk.now) →
    LeavesOnly g.D.Disk.moment g.D.Disk.left_since c.args.disk.now c.write.new.self
    (IsStagedOrOpened (g.D.Disk.seen c.args.disk.now) c.args.gate c.args.body.now)
after_write g c only =
    let disk = c.args.disk.now in
    let start = g.D.Disk.seen disk in
    goes_on g.D.Disk.moment g.D.Disk.left_since disk disk c.write.new.self _ _
    (started g.D.Disk.moment g.D.Disk.left_since disk _ (λ d left. at_first start c.args.gate
    c.args.body.now _ only d (g.met.D.Disk.only_now disk d left))) c.write.ensures.time
    (staged start c.args.gate c.args.body.now _ _ only c.write.ensures.stop)

after_sync : (g : Over) (c : After-sync g) →
    Only (g.D.Disk.seen c.args.disk.now) (g.D.Disk.may_leave c.args.disk.now) →
    LeavesOnly g.D.Disk.moment g.D.Disk.left_since c.args.disk.now c.sync.new.self
    (IsStagedOrOpened (g.D.Disk.seen c.args.disk.now) c.args.gate c.args.body.now)
after_sync g c only =
    let disk = c.args.disk.now in
    goes_on g.D.Disk.moment g.D.Disk.left_since disk c.write.new.self c.sync.new.self _ _
    (after_write g (goal.at.After-sync g c).After-write only) c.sync.ensures.time
    (λ d now. staged (g.D.Disk.seen disk) c.args.gate c.args.body.now _ _ only
    c.write.ensures.stop d (c.sync.ensures.stop d now))

opens : (g : Over) (c : After-write-2 g) (bytes : List ℕ) →
    g.D.Disk.may_leave c.write-2.new.self bytes →
    IsStagedOrOpened (g.D.Disk.seen c.args.disk.now) c.args.gate c.args.body.now bytes
opens g c =
    let start = g.D.Disk.seen c.args.disk.now in
    let written : g.D.Disk.seen c.sync.new.self
    ≡ overwritten start (c.args.gate + 1) c.args.body.now =
    cc (c.sync.ensures.seen, c.in_ok-write.ensures.written) in
    let durable : Only (g.D.Disk.seen c.sync.new.self) (g.D.Disk.may_leave c.sync.new.self) =
    rw c.sync.ensures.seen c.in_ok-sync.ensures.durable in
    opened start c.args.gate c.args.body.now _ _ _ written durable c.write-2.ensures.stop

after_gate : (g : Over) (c : After-write-2 g) →
    Only (g.D.Disk.seen c.args.disk.now) (g.D.Disk.may_leave c.args.disk.now) →
    LeavesOnly g.D.Disk.moment g.D.Disk.left_since c.args.disk.now c.write-2.new.self
    (IsStagedOrOpened (g.D.Disk.seen c.args.disk.now) c.args.gate c.args.body.now)
after_gate g c only =
    goes_on g.D.Disk.moment g.D.Disk.left_since c.args.disk.now c.sync.new.self
    c.write-2.new.self _ _ (after_sync g (goal.at.After-write-2 g c).After-sync only)
    c.write-2.ensures.time (opens g c)

pub returns-in_err-write-clause-any_moment : goal.returns-in_err-write-clause-any_moment
returns-in_err-write-clause-any_moment g c =
    after_write g (goal.at.returns-in_err-write-clause-any_moment g c).After-write

pub returns-in_err-sync-clause-any_moment : goal.returns-in_err-sync-clause-any_moment
returns-in_err-sync-clause-any_moment g c =
    after_sync g (goal.at.returns-in_err-sync-clause-any_moment g c).After-sync

pub returns-in_err-write-2-clause-any_moment : goal.returns-in_err-write-2-clause-any_moment
returns-in_err-write-2-clause-any_moment g c =
    after_gate g (goal.at.returns-in_err-write-2-clause-any_moment g c).After-write-2

pub returns-clause-any_moment : goal.returns-clause-any_moment
returns-clause-any_moment g c only =
    let k = (goal.at.returns-clause-any_moment g c).After-write-2 in
    goes_on g.D.Disk.moment g.D.Disk.left_since c.args.disk.now c.write-2.new.self
    c.sync-2.new.self _ _ (after_gate g k only) c.sync-2.ensures.time
    (λ d now. opens g k d (c.sync-2.ensures.stop d now))

pub returns-in_err-write-clause-calls : goal.returns-in_err-write-clause-calls
returns-in_err-write-clause-calls g c =
    let a = g.D.Disk.arms c.args.disk.now in
    let b = g.D.Disk.arms c.write.new.self in
    up_to_of_exit 4 c.from_residual.result _ a b c.from_residual.ensures.1
    (fewer 1 4 a b (omega arith) (one_breaks a b c.write.ensures.arms))

pub returns-in_err-sync-clause-calls : goal.returns-in_err-sync-clause-calls
returns-in_err-sync-clause-calls g c =
    let a = g.D.Disk.arms c.args.disk.now in
    let b = g.D.Disk.arms c.write.new.self in
    let d = g.D.Disk.arms c.sync.new.self in
    let written = one_made a b c.in_ok-write.ensures.allowed c.write.ensures.arms in
    up_to_of_exit 4 c.from_residual-in_err-sync.result _ a d c.from_residual-in_err-sync.ensures.1
    (fewer 2 4 a d (omega arith)
    (then_breaks 1 1 a b d written (one_breaks b d c.sync.ensures.arms)))

pub returns-in_err-write-2-clause-calls : goal.returns-in_err-write-2-clause-calls
returns-in_err-write-2-clause-calls g c =
    let a = g.D.Disk.arms c.args.disk.now in
    let b = g.D.Disk.arms c.write.new.self in
    let d = g.D.Disk.arms c.sync.new.self in
    let e = g.D.Disk.arms c.write-2.new.self in
    let written = one_made a b c.in_ok-write.ensures.allowed c.write.ensures.arms in
    let synced = then_made 1 1 a b d written
    (one_made b d c.in_ok-sync.ensures.allowed c.sync.ensures.arms) in
    up_to_of_exit 4 c.from_residual-in_err-write-2.result _ a e
    c.from_residual-in_err-write-2.ensures.1 (fewer 3 4 a e (omega arith)
    (then_breaks 2 1 a d e synced (one_breaks d e c.write-2.ensures.arms)))

pub returns-clause-calls : goal.returns-clause-calls
returns-clause-calls g c =
    let a = g.D.Disk.arms c.args.disk.now in
    let b = g.D.Disk.arms c.write.new.self in
    let d = g.D.Disk.arms c.sync.new.self in
    let e = g.D.Disk.arms c.write-2.new.self in
    let f = g.D.Disk.arms c.sync-2.new.self in
    let written = one_made a b c.in_ok-write.ensures.allowed c.write.ensures.arms in
    let synced = then_made 1 1 a b d written
    (one_made b d c.in_ok-sync.ensures.allowed c.sync.ensures.arms) in
    let opened = then_made 2 1 a d e synced
    (one_made d e c.in_ok-write-2.ensures.allowed c.write-2.ensures.arms) in
    then_up_to 3 1 c.sync-2.result a e f opened
    (one_up_to c.sync-2.result e f c.sync-2.ensures.allowed c.sync-2.ensures.arms)

pub returns-clause-written : goal.returns-clause-written
returns-clause-written g c =
    let start = g.D.Disk.seen c.args.disk.now in
    let gate = c.args.gate in
    let staged = c.sync.ensures.seen ∙ c.in_ok-write.ensures.written in
    let opened = c.sync-2.ensures.seen ∙ c.in_ok-write-2.ensures.written
    ∙ ap (λ bytes. overwritten bytes gate (open_gate ∷ [])) staged in
    on_ok_weaker c.sync-2.result (λ _. opened) c.sync-2.ensures.allowed

pub returns-clause-durable : goal.returns-clause-durable
returns-clause-durable g c =
    let left = g.D.Disk.may_leave c.sync-2.new.self in
    subst (λ bytes. OnOk c.sync-2.result (Only bytes left))
    (sym c.sync-2.ensures.seen) c.sync-2.ensures.durable

pub returns-clause-count : goal.returns-clause-count
returns-clause-count g c =
    let none = c.in_ok-write-2.ensures.count ∙ c.in_ok-sync.ensures.count
    ∙ c.in_ok-write.ensures.count in
    subst (λ n. CountsFailure c.sync-2.result n (g.D.Disk.failures c.sync-2.new.self)) none
    c.sync-2.ensures.count
