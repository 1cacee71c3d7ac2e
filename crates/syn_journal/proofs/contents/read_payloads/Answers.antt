use Rattle.std.proofs.Common.{◌≡◌, ◌∙◌, ◌+◌, ◌-◌, ◌<◌, [], ◌∷◌, ◌++◌, take, drop, length, map}
use Rattle.std.proofs.Common.{get_or, None, subst, ap, sym, arith, refl}
use Rattle.std.proofs.lemmas.List.{map-append}
use Rattle.std.specs.Int.{w32, from_be_bytes}
use Rattle.syn_disk.specs.declared.disk.TheConstants.{DISK_SIZE}
use Rattle.syn_journal.specs.Layout.{half_size, open_gate, start_of, bytes_from, records, record_of}
use Rattle.syn_journal.specs.Layout.{records_of}
use Rattle.syn_journal.specs.Opened.{payloads_of}
use Rattle.syn_journal.specs.inner.Reading.{IsReadRefusal}
use Rattle.syn_journal.proofs.Moments.{no_call, and_then}
use Rattle.syn_journal.proofs.Openings.{read_more, read_damaged, if_err_by, read_refusal_weaker}
use Rattle.syn_model.proofs.ExitLemmas.{match_of_exit}
use Rattle.syn_journal.proofs.Calls.{no_reads, reads_of_exit, then_after, then_broke, then_some}
use Rattle.syn_journal.proofs.Calls.{counts_of_exit}
use Rattle.syn_journal.proofs.contents.read_payloads.Goals as goal

pub loop-payloads-init : goal.loop-payloads-init
loop-payloads-init g c =
    let none : c.args.first - c.args.first ≡ 0 = omega arith in
    record {
      ordered = omega arith;
      within = c.requires;
      so_far =
          ap (λ k. take k
          (drop (start_of c.args.half + c.args.first) (g.D.Disk.seen c.args.disk.now))) none
          ∙ sym (ap (λ items. records_of (map (λ payload. payload.items) items))
          c.new-payloads.ensures.items);
      untouched = no_call g.met.D.Disk.only_now c.args.disk.now;
      count = refl;
      calls = no_reads (g.D.Disk.arms c.args.disk.now);
    }

pub loop-payloads-preserved : goal.loop-payloads-preserved
loop-payloads-preserved g c =
    let loop = c.loop-payloads in
    let seen = g.D.Disk.seen c.args.disk.now in
    let payload = c.in_ok-payload.payload.items in
    let same : g.D.Disk.seen c.read_u8.new.disk ≡ seen = c.in_ok-read_u8.ensures.untouched.same
    ∙ loop.invariant.untouched.same in
    let next : take (5 + length payload) (drop (start_of c.args.half + loop.gate) seen)
    ≡ record_of payload =
    ap (λ bytes. take (5 + length payload) (drop (start_of c.args.half + loop.gate) bytes))
    (sym same) ∙ c.in_ok-payload.ensures.payload in
    let long : c.len.result ≡ length payload =
    omega (arith, c.len.ensures, c.in_ok-payload.payload.ok) in
    let pushed : payloads_of c.push.new.self ≡ payloads_of loop.payloads ++ payload ∷ [] =
    ap (λ items. map (λ record'. record'.items) items) c.in_ok-push.ensures.items
    ∙ map-append _ loop.payloads.items _ in
    record {
      ordered = omega (arith, loop.invariant.ordered);
      within = omega (arith, long, c.in_ok-payload.ensures.fits);
      so_far =
          ap (λ k. take (loop.gate + (5 + k) - c.args.first)
          (drop (start_of c.args.half + c.args.first) seen)) long
          ∙ read_more seen c.args.half c.args.first loop.gate
          (payloads_of loop.payloads) loop.invariant.ordered loop.invariant.so_far payload next
          ∙ sym (ap records_of pushed);
      untouched = and_then c.args.disk.now loop.disk c.read_record.new.disk loop.invariant.untouched
          (and_then loop.disk c.read_u8.new.disk c.read_record.new.disk
          c.in_ok-read_u8.ensures.untouched c.in_ok-payload.ensures.untouched);
      count = c.in_ok-payload.ensures.count ∙ c.in_ok-read_u8.ensures.count ∙ loop.invariant.count;
      calls =
          let old = g.D.Disk.arms c.args.disk.now in
          let gate = g.D.Disk.arms c.read_u8.new.disk in
          then_some 0 old gate (g.D.Disk.arms c.read_record.new.disk)
          (then_some 0 old (g.D.Disk.arms loop.disk) gate loop.invariant.calls
          c.in_ok-read_u8.ensures.calls) c.in_ok-payload.ensures.calls;
    }

pub returns-in_err-payload-clause-refusals : goal.returns-in_err-payload-clause-refusals
returns-in_err-payload-clause-refusals g c =
    let loop = c.loop-payloads in
    let disk = c.args.disk.now in
    let seen = g.D.Disk.seen disk in
    let gate = start_of c.args.half + loop.gate in
    let whole : length seen ≡ DISK_SIZE = g.met.D.Disk.whole disk _ _ (g.met.D.Disk.counts_now disk
    (g.D.Disk.moment disk) _ (omega arith) (g.met.D.Disk.seen_may_stay disk)) in
    let same : g.D.Disk.seen c.read_u8.new.disk ≡ seen = c.in_ok-read_u8.ensures.untouched.same
    ∙ loop.invariant.untouched.same in
    let opened : get_or seen gate 0 ≡ open_gate =
    ap (λ bytes. get_or bytes gate 0) (sym loop.invariant.untouched.same)
    ∙ ap (λ start. get_or (g.D.Disk.seen loop.disk) (start + loop.gate) 0) (sym c.start.ensures)
    ∙ sym c.in_ok-read_u8.ensures.value ∙ c.if-branch.true in
    let cause : IsReadRefusal c.in_err-payload.field-0.0
    (half_size < loop.gate + 6 + from_be_bytes w32 (take 4 (drop (gate + 1) seen))) =
    subst (λ bytes. IsReadRefusal c.in_err-payload.field-0.0
    (half_size < loop.gate + 6 + from_be_bytes w32 (take 4 (drop (gate + 1) bytes)))) same
    c.in_err-payload.ensures.refusals in
    let bytes = bytes_from seen c.args.half c.args.first in
    let refused : IsReadRefusal c.in_err-payload.field-0.0 (records (length bytes) bytes ≡ None) =
    read_refusal_weaker c.in_err-payload.field-0.0 _ _
    (read_damaged seen c.args.half c.args.first loop.gate (payloads_of loop.payloads)
    loop.invariant.ordered loop.invariant.so_far whole loop.invariant.within opened) cause in
    if_err_by c.from_residual-in_err-payload.result _ _ c.from_residual-in_err-payload.ensures.1
    (λ e gives. subst (λ refusal. IsReadRefusal refusal (records (length bytes) bytes ≡ None))
    (sym gives) refused)

pub returns-in_err-read_u8-clause-calls : goal.returns-in_err-read_u8-clause-calls
returns-in_err-read_u8-clause-calls g c =
    let old = g.D.Disk.arms c.args.disk.now in
    let new = g.D.Disk.arms c.read_u8.new.disk in
    reads_of_exit 0 c.from_residual.result _ old new c.from_residual.ensures.1
    (then_broke 0 old (g.D.Disk.arms c.loop-payloads.disk) new c.loop-payloads.invariant.calls
    c.in_err-read_u8.ensures.calls)

pub returns-in_err-payload-clause-calls : goal.returns-in_err-payload-clause-calls
returns-in_err-payload-clause-calls g c =
    let old = g.D.Disk.arms c.args.disk.now in
    let gate = g.D.Disk.arms c.read_u8.new.disk in
    let new = g.D.Disk.arms c.read_record.new.disk in
    reads_of_exit 0 c.from_residual-in_err-payload.result _ old new
    c.from_residual-in_err-payload.ensures.1
    (then_after 0 old gate new
    (then_some 0 old (g.D.Disk.arms c.loop-payloads.disk) gate c.loop-payloads.invariant.calls
    c.in_ok-read_u8.ensures.calls) c.in_err-payload.field-0.0 c.in_err-payload.ensures.calls)

pub returns-in_err-push-clause-calls : goal.returns-in_err-push-clause-calls
returns-in_err-push-clause-calls g c =
    let old = g.D.Disk.arms c.args.disk.now in
    let gate = g.D.Disk.arms c.read_u8.new.disk in
    let new = g.D.Disk.arms c.read_record.new.disk in
    reads_of_exit 0 c.from_residual-in_err-push.result _ old new
    c.from_residual-in_err-push.ensures.1
    (then_some 0 old gate new (then_some 0 old (g.D.Disk.arms c.loop-payloads.disk) gate
    c.loop-payloads.invariant.calls c.in_ok-read_u8.ensures.calls) c.in_ok-payload.ensures.calls)

pub returns-clause-calls : goal.returns-clause-calls
returns-clause-calls g c =
    then_some 0 (g.D.Disk.arms c.args.disk.now) (g.D.Disk.arms c.loop-payloads.disk)
    (g.D.Disk.arms c.read_u8.new.disk) c.loop-payloads.invariant.calls
    c.in_ok-read_u8.ensures.calls

pub returns-in_err-read_u8-clause-count : goal.returns-in_err-read_u8-clause-count
returns-in_err-read_u8-clause-count g c =
    counts_of_exit c.from_residual.result _ (g.D.Disk.failures c.args.disk.now)
    (g.D.Disk.failures c.loop-payloads.disk)
    (g.D.Disk.failures c.read_u8.new.disk) c.from_residual.ensures.1
    c.loop-payloads.invariant.count c.in_err-read_u8.ensures.count

pub returns-in_err-payload-clause-count : goal.returns-in_err-payload-clause-count
returns-in_err-payload-clause-count g c =
    counts_of_exit c.from_residual-in_err-payload.result _ (g.D.Disk.failures c.args.disk.now)
    (g.D.Disk.failures c.read_u8.new.disk)
    (g.D.Disk.failures c.read_record.new.disk) c.from_residual-in_err-payload.ensures.1
    (c.in_ok-read_u8.ensures.count ∙ c.loop-payloads.invariant.count) c.in_err-payload.ensures.count

pub returns-in_err-push-clause-count : goal.returns-in_err-push-clause-count
returns-in_err-push-clause-count g c =
    match_of_exit c.from_residual-in_err-push.result _ _ _ c.from_residual-in_err-push.ensures.1
    (c.in_ok-payload.ensures.count ∙ c.in_ok-read_u8.ensures.count ∙
    c.loop-payloads.invariant.count)

pub returns-clause-count : goal.returns-clause-count
returns-clause-count g c = c.in_ok-read_u8.ensures.count ∙ c.loop-payloads.invariant.count

pub returns-in_err-read_u8-clause-untouched : goal.returns-in_err-read_u8-clause-untouched
returns-in_err-read_u8-clause-untouched g c =
    and_then c.args.disk.now c.loop-payloads.disk c.read_u8.new.disk
    c.loop-payloads.invariant.untouched c.in_err-read_u8.ensures.untouched

pub returns-in_err-payload-clause-untouched : goal.returns-in_err-payload-clause-untouched
returns-in_err-payload-clause-untouched g c =
    and_then c.args.disk.now c.read_u8.new.disk c.read_record.new.disk
    (and_then c.args.disk.now c.loop-payloads.disk c.read_u8.new.disk
    c.loop-payloads.invariant.untouched c.in_ok-read_u8.ensures.untouched)
    c.in_err-payload.ensures.untouched

pub returns-in_err-push-clause-untouched : goal.returns-in_err-push-clause-untouched
returns-in_err-push-clause-untouched g c =
    and_then c.args.disk.now c.read_u8.new.disk c.read_record.new.disk
    (and_then c.args.disk.now c.loop-payloads.disk c.read_u8.new.disk
    c.loop-payloads.invariant.untouched c.in_ok-read_u8.ensures.untouched)
    c.in_ok-payload.ensures.untouched

pub returns-clause-untouched : goal.returns-clause-untouched
returns-clause-untouched g c =
    and_then c.args.disk.now c.loop-payloads.disk c.read_u8.new.disk
    c.loop-payloads.invariant.untouched c.in_ok-read_u8.ensures.untouched
