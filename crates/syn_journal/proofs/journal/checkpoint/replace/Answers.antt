use Rattle.std.proofs.Common.{◌≡◌, ◌+◌, inl, true, length, subst, sym, arith}
use Rattle.std.proofs.lemmas.Result.{on_ok_weaker}
use Rattle.syn_journal.specs.inner.Commit.{IsClosing, IsStagedOrOpened}
use Rattle.syn_journal.specs.Layout.{start_of, other_half, is_open, image_alone, IsBeforeOrAfter}
use Rattle.syn_journal.specs.inner.Whole.{IsWhole}
use Rattle.syn_journal.proofs.Checkpoints.{while_closing, still_next, before_or_after, checkpointed}
use Rattle.syn_journal.proofs.Meanings.{has}
use Rattle.syn_journal.proofs.Moments.{weakened, in_turn}
use Rattle.syn_journal.proofs.Calls.{fewer, then_up_to, up_to_of_exit}
use Rattle.syn_journal.proofs.journal.checkpoint.replace.Goals as goal

pub returns-in_err-ensure_closed-clause-any_moment :
    goal.returns-in_err-ensure_closed-clause-any_moment
returns-in_err-ensure_closed-clause-any_moment g c generation gate value image next =
    let start = g.D.Disk.seen c.args.disk.now in
    let half = c.args.half in
    weakened g.D.Disk.moment g.D.Disk.left_since _ _ (IsClosing start half)
    (IsBeforeOrAfter value generation (image_alone image) (generation + 1))
    (λ d closing. inl (has d (other_half half) generation gate value
    (while_closing start half generation gate value next.whole d closing)))
    (c.ensure_closed.ensures.any_moment c.requires.durable)

pub returns-clause-any_moment : goal.returns-clause-any_moment
returns-clause-any_moment g c generation gate value image next =
    let start = g.D.Disk.seen c.args.disk.now in
    let mid = g.D.Disk.seen c.ensure_closed.new.disk in
    let half = c.args.half in
    let body = c.args.body.now in
    let P = IsBeforeOrAfter value generation (image_alone image) (generation + 1) in
    let next' = still_next start mid half generation gate value image body next
    c.in_ok-ensure_closed.ensures.same in
    let first = weakened g.D.Disk.moment g.D.Disk.left_since _ _ (IsClosing start half) P
    (λ d closing. inl (has d (other_half half) generation gate value
    (while_closing start half generation gate value next.whole d closing)))
    (c.ensure_closed.ensures.any_moment c.requires.durable) in
    let second = weakened g.D.Disk.moment g.D.Disk.left_since _ _
    (IsStagedOrOpened mid (start_of half) body) P
    (before_or_after mid half generation gate value image body next'
    c.in_ok-ensure_closed.ensures.closed)
    (rw c.start.ensures at (c.commit.ensures.any_moment c.in_ok-ensure_closed.ensures.durable)) in
    in_turn g.D.Disk.moment g.D.Disk.left_since c.args.disk.now c.ensure_closed.new.disk
    c.commit.new.disk P first second

pub returns-clause-written : goal.returns-clause-written
returns-clause-written g c generation gate value image next =
    let start = g.D.Disk.seen c.args.disk.now in
    let mid = g.D.Disk.seen c.ensure_closed.new.disk in
    let half = c.args.half in
    let next' = still_next start mid half generation gate value image c.args.body.now next
    c.in_ok-ensure_closed.ensures.same in
    on_ok_weaker c.commit.result
    (λ is. subst (λ d. IsWhole d half (generation + 1) (13 + length image) (image_alone image)
    × (is_open d (other_half half) ≡ true)) (sym is)
    (checkpointed mid half generation gate value image c.args.body.now next'
    c.in_ok-ensure_closed.ensures.closed))
    (rw c.start.ensures at c.commit.ensures.written)

pub returns-in_err-ensure_closed-clause-calls : goal.returns-in_err-ensure_closed-clause-calls
returns-in_err-ensure_closed-clause-calls g c =
    up_to_of_exit 6 c.from_residual.result _ (g.D.Disk.arms c.args.disk.now)
    (g.D.Disk.arms c.ensure_closed.new.disk) c.from_residual.ensures.1
    (fewer 2 6 (g.D.Disk.arms c.args.disk.now) (g.D.Disk.arms c.ensure_closed.new.disk)
    (omega arith) c.in_err-ensure_closed.ensures.calls)

pub returns-clause-calls : goal.returns-clause-calls
returns-clause-calls g c =
    then_up_to 2 4 c.commit.result (g.D.Disk.arms c.args.disk.now)
    (g.D.Disk.arms c.ensure_closed.new.disk)
    (g.D.Disk.arms c.commit.new.disk) c.in_ok-ensure_closed.ensures.calls c.commit.ensures.calls
