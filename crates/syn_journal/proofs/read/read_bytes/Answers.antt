use Rattle.std.proofs.Common.{◌≡◌, ◌∙◌, take, drop, length, refl, ap, subst, sym, arith}
use Rattle.std.proofs.lemmas.List.{take_at}
use Rattle.syn_model.proofs.ExitLemmas.{match_of_exit}
use Rattle.syn_journal.proofs.Calls.{no_reads, one_broke, one_read, reads_of_exit}
use Rattle.syn_journal.proofs.Moments.{no_call, one_call}
use Rattle.syn_journal.proofs.Openings.{if_err_by}
use Rattle.syn_journal.specs.inner.Reading.{IsReadRefusal}
use Rattle.syn_journal.proofs.read.read_bytes.Goals as goal

pub returns-in_err-bytes-clause-calls : goal.returns-in_err-bytes-clause-calls
returns-in_err-bytes-clause-calls g c =
    let arms = g.D.Disk.arms c.args.disk.now in
    reads_of_exit 0 c.from_residual.result _ arms arms c.from_residual.ensures.1 (no_reads arms)

pub returns-in_err-read-clause-calls : goal.returns-in_err-read-clause-calls
returns-in_err-read-clause-calls g c =
    let old = g.D.Disk.arms c.args.disk.now in
    let new = g.D.Disk.arms c.read.new.self in
    reads_of_exit 0 c.from_residual-in_err-read.result _ old new
    c.from_residual-in_err-read.ensures.1 (one_broke old new c.read.ensures.arms)

pub returns-clause-calls : goal.returns-clause-calls
returns-clause-calls g c =
    one_read 0 (g.D.Disk.arms c.args.disk.now) (g.D.Disk.arms c.read.new.self) (omega arith)
    c.in_ok-read.ensures.allowed c.read.ensures.arms

pub returns-in_err-bytes-clause-count : goal.returns-in_err-bytes-clause-count
returns-in_err-bytes-clause-count g c =
    match_of_exit c.from_residual.result _ _ _ c.from_residual.ensures.1 refl

pub returns-in_err-read-clause-count : goal.returns-in_err-read-clause-count
returns-in_err-read-clause-count g c =
    match_of_exit c.from_residual-in_err-read.result _ _ _ c.from_residual-in_err-read.ensures.1
    c.in_err-read.ensures.count

pub returns-in_err-bytes-clause-untouched : goal.returns-in_err-bytes-clause-untouched
returns-in_err-bytes-clause-untouched g c = no_call g.met.D.Disk.only_now c.args.disk.now

pub returns-in_err-read-clause-untouched : goal.returns-in_err-read-clause-untouched
returns-in_err-read-clause-untouched g c =
    one_call g.met.D.Disk.only_now c.args.disk.now c.read.new.self c.read.ensures.seen
    c.read.ensures.stop c.read.ensures.time

pub returns-clause-untouched : goal.returns-clause-untouched
returns-clause-untouched g c =
    one_call g.met.D.Disk.only_now c.args.disk.now c.read.new.self c.read.ensures.seen
    c.read.ensures.stop c.read.ensures.time

pub returns-in_err-bytes-clause-refusals : goal.returns-in_err-bytes-clause-refusals
returns-in_err-bytes-clause-refusals g c =
    if_err_by c.from_residual.result _ _ c.from_residual.ensures.1
    (λ e gives. subst (λ refusal. IsReadRefusal refusal ⊥) (sym gives) tt)

pub returns-in_err-read-clause-refusals : goal.returns-in_err-read-clause-refusals
returns-in_err-read-clause-refusals g c =
    if_err_by c.from_residual-in_err-read.result _ _ c.from_residual-in_err-read.ensures.1
    (λ e gives. subst (λ refusal. IsReadRefusal refusal ⊥) (sym gives) tt)

pub returns-clause-value : goal.returns-clause-value
returns-clause-value g c =
    let long : length c.read.new.into ≡ c.in_ok-bytes.bytes.len = c.read.auto.into
    ∙ ap length c.deref_mut.ensures.value ∙ sym c.in_ok-bytes.bytes.ok.0 in
    take_at c.read.new.into _ c.in_ok-bytes.bytes.len long ∙ c.in_ok-read.ensures.bytes
    ∙ ap (λ n. take n (drop c.args.at (g.D.Disk.seen c.args.disk.now)))
    (c.deref_mut.ensures.len ∙ c.in_ok-bytes.ensures.len)

pub returns-clause-size : goal.returns-clause-size
returns-clause-size g c =
    let long : length c.read.new.into ≡ c.in_ok-bytes.bytes.len = c.read.auto.into
    ∙ ap length c.deref_mut.ensures.value ∙ sym c.in_ok-bytes.bytes.ok.0 in
    ap length (take_at c.read.new.into _ c.in_ok-bytes.bytes.len long) ∙ c.read.auto.into
    ∙ c.deref_mut.ensures.len ∙ c.in_ok-bytes.ensures.len
