use Rattle.std.proofs.Common.{◌≡◌, ◌∙◌, ◌≢◌, ◌+◌, ◌-◌, ◌++◌, Ok, None, List, ℕ, take, drop, get_or}
use Rattle.std.proofs.Common.{length, subst, ap, sym, arith}
use Rattle.std.specs.Int.{w32, to_be_bytes}
use Rattle.std.specs.Prelude.{Err}
use Rattle.syn_journal.specs.Layout.{open_gate, start_of, damaged, current, generation_at, value_at}
use Rattle.syn_journal.specs.Layout.{meaning, bytes_from, records, records_of}
use Rattle.syn_journal.specs.Opened.{payloads_of}
use Rattle.syn_journal.specs.Refusals.{IsOpenRefusal}
use Rattle.syn_journal.specs.inner.Reading.{IsReadRefusal}
use Rattle.syn_journal.proofs.Openings.{if_err_by, refused_by_halves, refused_by_value}
use Rattle.syn_journal.proofs.Openings.{refused_by_records, front_read}
use Rattle.syn_model.proofs.ExitLemmas.{match_of_exit}
use Rattle.syn_journal.proofs.Calls.{one_broke, one_read, reads_of_exit, then_after, then_some}
use Rattle.syn_journal.proofs.Calls.{counts_of_exit}
use Rattle.syn_journal.proofs.Moments.{one_call, and_then}
use Rattle.syn_journal.proofs.contents.read_contents.Given.{Over}
use Rattle.syn_journal.proofs.contents.read_contents.Goals as goal
use Rattle.syn_journal.proofs.contents.read_contents.Goals.{In_ok-half, In_ok-image}

pub returns-in_err-half-clause-refusals : goal.returns-in_err-half-clause-refusals
returns-in_err-half-clause-refusals g c =
    let seen = g.D.Disk.seen c.args.disk.now in
    let e = c.in_err-half.field-0.0 in
    let cause : IsOpenRefusal e (current seen) = subst (λ bytes. IsOpenRefusal e (current bytes))
    c.in_ok-sync.ensures.seen c.in_err-half.ensures.refusals in
    if_err_by c.from_residual-in_err-half.result _ _ c.from_residual-in_err-half.ensures.1
    (λ e' gives. subst (λ refusal. IsOpenRefusal refusal (meaning seen)) (sym gives)
    (refused_by_halves seen e cause))

-- the half that was chosen is the current one, and the disk is as it was
chosen : (g : Over) (c : In_ok-half g) →
    (current (g.D.Disk.seen c.args.disk.now) ≡ Ok c.in_ok-half.half)
    × (g.D.Disk.seen c.read_current.new.disk ≡ g.D.Disk.seen c.args.disk.now)
chosen g c = (
  ap current (sym c.in_ok-sync.ensures.seen) ∙ c.in_ok-half.ensures.half,
  c.in_ok-half.ensures.untouched.same ∙ c.in_ok-sync.ensures.seen,
)

pub returns-in_err-image-clause-refusals : goal.returns-in_err-image-clause-refusals
returns-in_err-image-clause-refusals g c =
    let seen = g.D.Disk.seen c.args.disk.now in
    let half = c.in_ok-half.half in
    let e = c.in_err-image.field-0.0 in
    let found = chosen g (goal.at.returns-in_err-image-clause-refusals g c).In_ok-half in
    let cause : IsReadRefusal e (value_at seen half ≡ Err damaged) =
    subst (λ bytes. IsReadRefusal e (value_at bytes half ≡ Err damaged)) found.1
    c.in_err-image.ensures.refusals in
    if_err_by c.from_residual-in_err-image.result _ _ c.from_residual-in_err-image.ensures.1
    (λ e' gives. subst (λ refusal. IsOpenRefusal refusal (meaning seen)) (sym gives)
    (refused_by_value seen half e found.0 cause))

-- so it is when the image was read, which stands behind its length
imaged : (g : Over) (c : In_ok-image g) →
    (g.D.Disk.seen c.read_image.new.disk ≡ g.D.Disk.seen c.args.disk.now)
    × (take (4 + length c.in_ok-image.image.items)
    (drop (start_of c.in_ok-half.half + 9) (g.D.Disk.seen c.args.disk.now))
    ≡ to_be_bytes w32 (length c.in_ok-image.image.items) ++ c.in_ok-image.image.items)
imaged g c =
    let found = chosen g (goal.at.In_ok-image g c).In_ok-half in (
      c.in_ok-image.ensures.untouched.same ∙ found.1,
      ap (λ bytes. take (4 + length c.in_ok-image.image.items)
          (drop (start_of c.in_ok-half.half + 9) bytes)) (sym found.1)
          ∙ c.in_ok-image.ensures.image,
    )

pub returns-in_err-payloads-clause-refusals : goal.returns-in_err-payloads-clause-refusals
returns-in_err-payloads-clause-refusals g c =
    let seen = g.D.Disk.seen c.args.disk.now in
    let half = c.in_ok-half.half in
    let image = c.in_ok-image.image.items in
    let e = c.in_err-payloads.field-0.0 in
    let k = goal.at.returns-in_err-payloads-clause-refusals g c in
    let read = imaged g k.In_ok-image in
    let long : c.len.result ≡ length image = omega (arith, c.len.ensures, c.in_ok-image.image.ok) in
    let P : List ℕ → ℕ → Type 0 = λ bytes n. IsReadRefusal e
    (let after = bytes_from bytes half (13 + n) in records (length after) after ≡ None) in
    let cause : P seen (length image) = subst (λ n. P seen n) long
    (subst (λ bytes. P bytes c.len.result) read.0 c.in_err-payloads.ensures.refusals) in
    if_err_by c.from_residual-in_err-payloads.result _ _ c.from_residual-in_err-payloads.ensures.1
    (λ e' gives. subst (λ refusal. IsOpenRefusal refusal (meaning seen)) (sym gives)
    (refused_by_records seen half image c.in_ok-image.ensures.fits read.1 e
    (chosen g k.In_ok-half).0 cause))

pub returns-clause-whole : goal.returns-clause-whole
returns-clause-whole g c =
    let disk = c.args.disk.now in
    let seen = g.D.Disk.seen disk in
    let half = c.in_ok-half.half in
    let image = c.in_ok-image.image.items in
    let gate = c.in_ok-payloads.gate in
    let payloads = payloads_of c.in_ok-payloads.payloads in
    let k = goal.at.returns-clause-whole g c in
    let read = imaged g k.In_ok-image in
    let long : c.len.result ≡ length image = omega (arith, c.len.ensures, c.in_ok-image.image.ok) in
    let next : take (gate - (13 + length image)) (drop (start_of half + (13 + length image)) seen)
    ≡ records_of payloads =
    subst (λ n. take (gate - (13 + n)) (drop (start_of half + (13 + n)) seen) ≡ records_of payloads)
    long
    (ap (λ bytes. take (gate - (13 + c.len.result)) (drop (start_of half + (13 + c.len.result))
    bytes)) (sym read.0) ∙ c.in_ok-payloads.ensures.payloads) in
    record {
      size =
          g.met.D.Disk.whole disk _ _ (g.met.D.Disk.counts_now disk (g.D.Disk.moment disk) _
          (omega arith) (g.met.D.Disk.seen_may_stay disk));
      is_current = (chosen g k.In_ok-half).0;
      numbered =
          ap (λ bytes. generation_at bytes half) (sym c.in_ok-sync.ensures.seen)
          ∙ sym c.in_ok-half.ensures.generation;
      front =
          front_read seen half image c.in_ok-image.ensures.fits read.1 payloads gate
          (omega (arith, long, c.in_ok-payloads.ensures.ordered)) next;
      closed =
          subst (λ bytes. get_or bytes (start_of half + gate) 0 ≢ open_gate) read.0
          c.in_ok-payloads.ensures.closed;
      within = c.in_ok-payloads.ensures.within;
    }

pub returns-in_err-sync-clause-calls : goal.returns-in_err-sync-clause-calls
returns-in_err-sync-clause-calls g c =
    let old = g.D.Disk.arms c.args.disk.now in
    let new = g.D.Disk.arms c.sync.new.self in
    reads_of_exit 1 c.from_residual.result _ old new c.from_residual.ensures.1
    (one_broke old new c.sync.ensures.arms)

pub returns-in_err-half-clause-calls : goal.returns-in_err-half-clause-calls
returns-in_err-half-clause-calls g c =
    let old = g.D.Disk.arms c.args.disk.now in
    let synced = g.D.Disk.arms c.sync.new.self in
    let new = g.D.Disk.arms c.read_current.new.disk in
    let first = one_read 1 old synced
    (omega arith) c.in_ok-sync.ensures.allowed c.sync.ensures.arms in
    reads_of_exit 1 c.from_residual-in_err-half.result _ old new
    c.from_residual-in_err-half.ensures.1
    (then_after 1 old synced new first c.in_err-half.field-0.0 c.in_err-half.ensures.calls)

pub returns-in_err-image-clause-calls : goal.returns-in_err-image-clause-calls
returns-in_err-image-clause-calls g c =
    let old = g.D.Disk.arms c.args.disk.now in
    let synced = g.D.Disk.arms c.sync.new.self in
    let chosen = g.D.Disk.arms c.read_current.new.disk in
    let new = g.D.Disk.arms c.read_image.new.disk in
    let first = one_read 1 old synced
    (omega arith) c.in_ok-sync.ensures.allowed c.sync.ensures.arms in
    let second = then_some 1 old synced chosen first c.in_ok-half.ensures.calls in
    reads_of_exit 1 c.from_residual-in_err-image.result _ old new
    c.from_residual-in_err-image.ensures.1
    (then_after 1 old chosen new second c.in_err-image.field-0.0 c.in_err-image.ensures.calls)

pub returns-in_err-payloads-clause-calls : goal.returns-in_err-payloads-clause-calls
returns-in_err-payloads-clause-calls g c =
    let old = g.D.Disk.arms c.args.disk.now in
    let synced = g.D.Disk.arms c.sync.new.self in
    let chosen = g.D.Disk.arms c.read_current.new.disk in
    let image = g.D.Disk.arms c.read_image.new.disk in
    let new = g.D.Disk.arms c.read_payloads.new.disk in
    let first = one_read 1 old synced
    (omega arith) c.in_ok-sync.ensures.allowed c.sync.ensures.arms in
    let second = then_some 1 old synced chosen first c.in_ok-half.ensures.calls in
    let third = then_some 1 old chosen image second c.in_ok-image.ensures.calls in
    reads_of_exit 1 c.from_residual-in_err-payloads.result _ old new
    c.from_residual-in_err-payloads.ensures.1
    (then_after 1 old image new third c.in_err-payloads.field-0.0 c.in_err-payloads.ensures.calls)

pub returns-clause-calls : goal.returns-clause-calls
returns-clause-calls g c =
    let old = g.D.Disk.arms c.args.disk.now in
    let synced = g.D.Disk.arms c.sync.new.self in
    let chosen = g.D.Disk.arms c.read_current.new.disk in
    let image = g.D.Disk.arms c.read_image.new.disk in
    let first = one_read 1 old synced
    (omega arith) c.in_ok-sync.ensures.allowed c.sync.ensures.arms in
    let second = then_some 1 old synced chosen first c.in_ok-half.ensures.calls in
    let third = then_some 1 old chosen image second c.in_ok-image.ensures.calls in
    then_some 1 old image (g.D.Disk.arms c.read_payloads.new.disk) third
    c.in_ok-payloads.ensures.calls

pub returns-in_err-sync-clause-count : goal.returns-in_err-sync-clause-count
returns-in_err-sync-clause-count g c =
    match_of_exit c.from_residual.result _ _ _ c.from_residual.ensures.1 c.in_err-sync.ensures.count

pub returns-in_err-half-clause-count : goal.returns-in_err-half-clause-count
returns-in_err-half-clause-count g c =
    counts_of_exit c.from_residual-in_err-half.result _ (g.D.Disk.failures c.args.disk.now)
    (g.D.Disk.failures c.sync.new.self)
    (g.D.Disk.failures c.read_current.new.disk) c.from_residual-in_err-half.ensures.1
    c.in_ok-sync.ensures.count c.in_err-half.ensures.count

pub returns-in_err-image-clause-count : goal.returns-in_err-image-clause-count
returns-in_err-image-clause-count g c =
    counts_of_exit c.from_residual-in_err-image.result _ (g.D.Disk.failures c.args.disk.now)
    (g.D.Disk.failures c.read_current.new.disk)
    (g.D.Disk.failures c.read_image.new.disk) c.from_residual-in_err-image.ensures.1
    (c.in_ok-half.ensures.count ∙ c.in_ok-sync.ensures.count) c.in_err-image.ensures.count

pub returns-in_err-payloads-clause-count : goal.returns-in_err-payloads-clause-count
returns-in_err-payloads-clause-count g c =
    counts_of_exit c.from_residual-in_err-payloads.result _ (g.D.Disk.failures c.args.disk.now)
    (g.D.Disk.failures c.read_image.new.disk)
    (g.D.Disk.failures c.read_payloads.new.disk) c.from_residual-in_err-payloads.ensures.1
    (c.in_ok-image.ensures.count ∙ c.in_ok-half.ensures.count ∙ c.in_ok-sync.ensures.count)
    c.in_err-payloads.ensures.count

pub returns-clause-count : goal.returns-clause-count
returns-clause-count g c =
    c.in_ok-payloads.ensures.count ∙ c.in_ok-image.ensures.count ∙ c.in_ok-half.ensures.count
    ∙ c.in_ok-sync.ensures.count

pub returns-in_err-sync-clause-untouched : goal.returns-in_err-sync-clause-untouched
returns-in_err-sync-clause-untouched g c =
    one_call g.met.D.Disk.only_now c.args.disk.now c.sync.new.self c.sync.ensures.seen
    c.sync.ensures.stop c.sync.ensures.time

pub returns-in_err-half-clause-untouched : goal.returns-in_err-half-clause-untouched
returns-in_err-half-clause-untouched g c =
    let disk = c.args.disk.now in
    let synced = one_call g.met.D.Disk.only_now disk c.sync.new.self c.sync.ensures.seen
    c.sync.ensures.stop c.sync.ensures.time in
    and_then disk c.sync.new.self c.read_current.new.disk synced c.in_err-half.ensures.untouched

pub returns-in_err-image-clause-untouched : goal.returns-in_err-image-clause-untouched
returns-in_err-image-clause-untouched g c =
    let disk = c.args.disk.now in
    let synced = one_call g.met.D.Disk.only_now disk c.sync.new.self c.sync.ensures.seen
    c.sync.ensures.stop c.sync.ensures.time in
    let chosen =
    and_then disk c.sync.new.self c.read_current.new.disk synced c.in_ok-half.ensures.untouched in
    and_then disk c.read_current.new.disk c.read_image.new.disk chosen
    c.in_err-image.ensures.untouched

pub returns-in_err-payloads-clause-untouched : goal.returns-in_err-payloads-clause-untouched
returns-in_err-payloads-clause-untouched g c =
    let disk = c.args.disk.now in
    let synced = one_call g.met.D.Disk.only_now disk c.sync.new.self c.sync.ensures.seen
    c.sync.ensures.stop c.sync.ensures.time in
    let chosen =
    and_then disk c.sync.new.self c.read_current.new.disk synced c.in_ok-half.ensures.untouched in
    let imaged = and_then disk c.read_current.new.disk c.read_image.new.disk chosen
    c.in_ok-image.ensures.untouched in
    and_then disk c.read_image.new.disk c.read_payloads.new.disk imaged
    c.in_err-payloads.ensures.untouched

pub returns-clause-untouched : goal.returns-clause-untouched
returns-clause-untouched g c =
    let disk = c.args.disk.now in
    let synced = one_call g.met.D.Disk.only_now disk c.sync.new.self c.sync.ensures.seen
    c.sync.ensures.stop c.sync.ensures.time in
    let chosen =
    and_then disk c.sync.new.self c.read_current.new.disk synced c.in_ok-half.ensures.untouched in
    let imaged = and_then disk c.read_current.new.disk c.read_image.new.disk chosen
    c.in_ok-image.ensures.untouched in
    and_then disk c.read_image.new.disk c.read_payloads.new.disk imaged
    c.in_ok-payloads.ensures.untouched
