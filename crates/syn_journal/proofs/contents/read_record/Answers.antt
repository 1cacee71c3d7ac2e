use Rattle.std.proofs.Common.{◌≡◌, ◌∙◌, ◌+◌, ◌≤◌, ap, subst, take, drop, length, arith}
use Rattle.std.specs.Prelude.{MatchResult}
use Rattle.std.specs.Int.{w32, to_be_bytes}
use Rattle.syn_disk.specs.declared.disk.TheConstants.{DISK_SIZE}
use Rattle.syn_journal.specs.Layout.{half_size, start_of}
use Rattle.syn_journal.specs.Refusals.{CountsFailures}
use Rattle.syn_journal.proofs.Meanings.{within_disk}
use Rattle.syn_journal.proofs.Openings.{if_ok_both, with_word, with_gate}
use Rattle.syn_model.proofs.ExitLemmas.{match_of_exit}
use Rattle.syn_journal.proofs.Calls.{no_reads, then_reads, reads_of_exit}
use Rattle.syn_journal.proofs.Moments.{no_call, and_then}
use Rattle.syn_journal.proofs.contents.read_record.Goals as goal

pub returns-clause-payload : goal.returns-clause-payload
returns-clause-payload g c =
    let disk = c.args.disk.now in
    let seen = g.D.Disk.seen disk in
    let whole : length seen ≡ DISK_SIZE = g.met.D.Disk.whole disk _ _ (g.met.D.Disk.counts_now disk
    (g.D.Disk.moment disk) _ (omega arith) (g.met.D.Disk.seen_may_stay disk)) in
    let room : start_of c.args.half + half_size ≤ length seen =
    within_disk c.args.half (length seen) whole in
    let gate = start_of c.args.half + c.args.gate in
    let size = c.in_ok-size.field-0 in
    let word : to_be_bytes w32 size ≡ take 4 (drop (gate + 1) seen) =
    rw c.start.ensures at c.in_ok-size.ensures.bytes in
    let there : gate + 5 ≡ gate + 1 + 4 = omega arith in
    if_ok_both c.read_bytes.result _ _ _
    (λ payload value long. with_gate seen gate payload.items c.requires.opened
    (omega (arith, room, c.requires.within))
    (with_word seen (gate + 1) size (to_be_bytes w32 (length payload.items)) payload.items
    (ap (to_be_bytes w32) long ∙ word)
    (value ∙ ap (λ bytes. take size (drop (c.start-2.result + c.args.gate + 5) bytes))
    c.in_ok-size.ensures.untouched.same
    ∙ ap (λ start. take size (drop (start + c.args.gate + 5) seen)) c.start-2.ensures
    ∙ ap (λ k. take size (drop k seen)) there)
    long))
    c.read_bytes.ensures.value c.read_bytes.ensures.size

pub returns-then-gate-lt-RECORD_OVERHEAD-clause-calls :
    goal.returns-then-gate-lt-RECORD_OVERHEAD-clause-calls
returns-then-gate-lt-RECORD_OVERHEAD-clause-calls g c = no_reads (g.D.Disk.arms c.args.disk.now)

pub returns-clause-calls : goal.returns-clause-calls
returns-clause-calls g c =
    then_reads 0 c.read_bytes.result (g.D.Disk.arms c.args.disk.now)
    (g.D.Disk.arms c.read_u32.new.disk)
    (g.D.Disk.arms c.read_bytes.new.disk) c.in_ok-size.ensures.calls c.read_bytes.ensures.calls

pub returns-then-size-gate-clause-calls : goal.returns-then-size-gate-clause-calls
returns-then-size-gate-clause-calls g c = c.in_ok-size.ensures.calls

pub returns-in_err-size-clause-count : goal.returns-in_err-size-clause-count
returns-in_err-size-clause-count g c =
    match_of_exit c.from_residual.result _ _ _ c.from_residual.ensures.1 c.in_err-size.ensures.count

pub returns-in_err-size-clause-calls : goal.returns-in_err-size-clause-calls
returns-in_err-size-clause-calls g c =
    reads_of_exit 0 c.from_residual.result _ (g.D.Disk.arms c.args.disk.now)
    (g.D.Disk.arms c.read_u32.new.disk) c.from_residual.ensures.1 c.in_err-size.ensures.calls

pub returns-in_err-size-clause-untouched : goal.returns-in_err-size-clause-untouched
returns-in_err-size-clause-untouched g c = c.in_err-size.ensures.untouched

pub returns-clause-count : goal.returns-clause-count
returns-clause-count g c =
    let new = g.D.Disk.failures c.read_bytes.new.disk in
    subst (λ n. MatchResult c.read_bytes.result (λ _. new ≡ n) (λ refusal.
    CountsFailures refusal n new)) c.in_ok-size.ensures.count c.read_bytes.ensures.count

pub returns-clause-untouched : goal.returns-clause-untouched
returns-clause-untouched g c =
    and_then c.args.disk.now c.read_u32.new.disk c.read_bytes.new.disk
    c.in_ok-size.ensures.untouched c.read_bytes.ensures.untouched

pub returns-then-size-gate-clause-count : goal.returns-then-size-gate-clause-count
returns-then-size-gate-clause-count g c = c.in_ok-size.ensures.count

pub returns-then-size-gate-clause-untouched : goal.returns-then-size-gate-clause-untouched
returns-then-size-gate-clause-untouched g c = c.in_ok-size.ensures.untouched

pub returns-then-gate-lt-RECORD_OVERHEAD-clause-untouched :
    goal.returns-then-gate-lt-RECORD_OVERHEAD-clause-untouched
returns-then-gate-lt-RECORD_OVERHEAD-clause-untouched g c =
    no_call g.met.D.Disk.only_now c.args.disk.now
