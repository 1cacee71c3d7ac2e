use Rattle.std.proofs.Common.{◌≡◌, ◌∙◌, ◌+◌, [], length, false, subst, sym, ap, arith}
use Rattle.std.proofs.lemmas.Result.{on_ok_weaker}
use Rattle.syn_disk.specs.Disk.{CountsFailure}
use Rattle.syn_disk.specs.declared.disk.TheConstants.{DISK_SIZE}
use Rattle.syn_journal.specs.declared.half.Half.TheVariants.{First, Second}
use Rattle.syn_journal.specs.Layout.{is_open}
use Rattle.syn_journal.proofs.Formats.{formatted, second_gate}
use Rattle.syn_journal.specs.inner.Whole.{IsWhole}
use Rattle.syn_journal.proofs.Calls.{fewer, one_breaks, one_made, then_breaks, then_made}
use Rattle.syn_journal.proofs.Calls.{then_up_to, up_to_of_exit}
use Rattle.syn_journal.proofs.journal.write_image.Goals as goal

pub returns-clause-written : goal.returns-clause-written
returns-clause-written g c image fits spells =
    let disk = c.sync.new.self in
    let start = g.D.Disk.seen disk in
    let body = c.args.body.now in
    let size : length start ≡ DISK_SIZE = g.met.D.Disk.whole disk _ _ (g.met.D.Disk.counts_now disk
    (g.D.Disk.moment disk) _ (omega arith) (g.met.D.Disk.seen_may_stay disk)) in
    let closed : is_open start Second ≡ false =
    ap (λ bytes. is_open bytes Second) c.sync.ensures.seen ∙ c.in_ok-close-2.ensures.closed in
    let whole = formatted start First 1 image body size closed (omega arith) spells fits in
    on_ok_weaker c.commit.result (λ is. subst (λ bytes. IsWhole bytes First 1 (13 + length image)
    (record { image = image; payloads = [] })) (sym is) whole)
    (rw c.start.ensures at c.commit.ensures.written)

pub returns-clause-other : goal.returns-clause-other
returns-clause-other g c =
    let disk = c.sync.new.self in
    let start = g.D.Disk.seen disk in
    let size : length start ≡ DISK_SIZE = g.met.D.Disk.whole disk _ _ (g.met.D.Disk.counts_now disk
    (g.D.Disk.moment disk) _ (omega arith) (g.met.D.Disk.seen_may_stay disk)) in
    let closed : is_open start Second ≡ false =
    ap (λ bytes. is_open bytes Second) c.sync.ensures.seen ∙ c.in_ok-close-2.ensures.closed in
    on_ok_weaker c.commit.result (λ is. ap (λ bytes. is_open bytes Second) is ∙ second_gate start
    c.args.body.now size c.requires ∙ closed) (rw c.start.ensures at c.commit.ensures.written)

pub returns-in_err-close-clause-calls : goal.returns-in_err-close-clause-calls
returns-in_err-close-clause-calls g c =
    up_to_of_exit 7 c.from_residual.result _ (g.D.Disk.arms c.args.disk.now)
    (g.D.Disk.arms c.close.new.disk) c.from_residual.ensures.1
    (fewer 1 7 (g.D.Disk.arms c.args.disk.now) (g.D.Disk.arms c.close.new.disk)
    (omega arith) c.in_err-close.ensures.calls)

pub returns-in_err-close-2-clause-calls : goal.returns-in_err-close-2-clause-calls
returns-in_err-close-2-clause-calls g c =
    let a = g.D.Disk.arms c.args.disk.now in
    let b = g.D.Disk.arms c.close.new.disk in
    let d = g.D.Disk.arms c.close-2.new.disk in
    up_to_of_exit 7 c.from_residual-in_err-close-2.result _ a d
    c.from_residual-in_err-close-2.ensures.1 (fewer 2 7 a d (omega arith)
    (then_breaks 1 1 a b d c.in_ok-close.ensures.calls c.in_err-close-2.ensures.calls))

pub returns-in_err-sync-clause-calls : goal.returns-in_err-sync-clause-calls
returns-in_err-sync-clause-calls g c =
    let a = g.D.Disk.arms c.args.disk.now in
    let b = g.D.Disk.arms c.close.new.disk in
    let d = g.D.Disk.arms c.close-2.new.disk in
    let e = g.D.Disk.arms c.sync.new.self in
    let closed = then_made 1 1 a b d c.in_ok-close.ensures.calls c.in_ok-close-2.ensures.calls in
    up_to_of_exit 7 c.from_residual-in_err-sync.result _ a e c.from_residual-in_err-sync.ensures.1
    (fewer 3 7 a e (omega arith)
    (then_breaks 2 1 a d e closed (one_breaks d e c.sync.ensures.arms)))

pub returns-clause-calls : goal.returns-clause-calls
returns-clause-calls g c =
    let a = g.D.Disk.arms c.args.disk.now in
    let b = g.D.Disk.arms c.close.new.disk in
    let d = g.D.Disk.arms c.close-2.new.disk in
    let e = g.D.Disk.arms c.sync.new.self in
    let closed = then_made 1 1 a b d c.in_ok-close.ensures.calls c.in_ok-close-2.ensures.calls in
    let synced = then_made 2 1 a d e closed
    (one_made d e c.in_ok-sync.ensures.allowed c.sync.ensures.arms) in
    then_up_to 3 4 c.commit.result a e
    (g.D.Disk.arms c.commit.new.disk) synced c.commit.ensures.calls

pub returns-clause-durable : goal.returns-clause-durable
returns-clause-durable g c = c.commit.ensures.durable

pub returns-clause-count : goal.returns-clause-count
returns-clause-count g c =
    let none = c.in_ok-sync.ensures.count ∙ c.in_ok-close-2.ensures.count
    ∙ c.in_ok-close.ensures.count in
    subst (λ n. CountsFailure c.commit.result n (g.D.Disk.failures c.commit.new.disk)) none
    c.commit.ensures.count
