use Rattle.std.proofs.Common.{arith, subst}
use Rattle.std.proofs.lemmas.Result.{err_from_is_err_and}
use Rattle.syn_mark.specs.Marks.{contents_in}
use Rattle.syn_scan.specs.Found.{IsFound}
use Rattle.syn_recon.proofs.ScanLemmas.{begins_counted, counts_one, is_in_tree, is_scan, is_whole}
use Rattle.syn_recon.proofs.ScanLemmas.{no_more_listings, one_more, refused_for_memory}
use Rattle.syn_recon.proofs.tree_scan.scan_tree.Goals as goal

pub loop-init : goal.loop-init
loop-init c = begins_counted c.args.tree.now c.in_ok-scanner.scanner c.in_ok-scanner.ensures.ok

pub finish-requires : goal.finish-requires
finish-requires c =
    is_whole c.args.tree.now c.loop.scanner c.next_request.new.self c.loop.invariant.so
    c.next_request.ensures.found (rw c.in_default.is at c.in_ok-path.ensures.none)

pub returns-in_default-clause-scan : goal.returns-in_default-clause-scan
returns-in_default-clause-scan c =
    is_scan c.args.tree.now c.loop.scanner c.next_request.new.self c.finish.result
    c.entries.ensures.tree c.loop.invariant.so c.next_request.ensures.found c.finish.ensures.scan

pub loop-preserved : goal.loop-preserved
loop-preserved c =
    let opens = rw c.in-Some.is at c.in_ok-path.ensures.some in
    record {
      so =
          one_more c.args.tree.now c.loop.scanner c.next_request.new.self c.take.new.self
          c.in-Some.path (contents_in c.in_ok-marks.marks.items) c.loop.invariant.so
          c.next_request.ensures.found (rw c.in-Some.is at c.in_ok-path.ensures.out)
          c.in_ok-marks.ensures.marks c.in_ok-take.ensures.found c.in_ok-take.ensures.out
          c.in_ok-take.ensures.only;
      count =
          counts_one c.loop.scanner.found c.next_request.new.self.found c.take.new.self.found
          c.in-Some.path (contents_in c.in_ok-marks.marks.items) c.loop.counter
          c.loop.invariant.count c.next_request.ensures.found opens.opened
          c.in_ok-take.ensures.found;
    }

pub returns-in_err-marks-clause-memory : goal.returns-in_err-marks-clause-memory
returns-in_err-marks-clause-memory c =
    let p = err_from_is_err_and c.from_residual-in_err-marks.result
    c.from_residual-in_err-marks.ensures.1 in
    let kept = subst IsFound c.scan.ensures.found c.tree.ensures.found in
    let opens = rw c.in-Some.is at c.in_ok-path.ensures.some in
    rw (p.1, p.2) (c.in_err-marks.ensures.memory
    (is_in_tree c.args.tree.now c.loop.scanner c.in-Some.path c.entries.ensures.tree kept
    c.loop.invariant.so opens.opened))

pub returns-in_err-take-clause-memory : goal.returns-in_err-take-clause-memory
returns-in_err-take-clause-memory c =
    let p = err_from_is_err_and c.from_residual-in_err-take.result
    c.from_residual-in_err-take.ensures.1 in
    let kept = subst IsFound c.scan.ensures.found c.tree.ensures.found in
    rw (p.1, p.2) (refused_for_memory c.args.tree.now c.entries.ensures.fits c.loop.scanner
    c.next_request.new.self c.in-Some.path (contents_in c.in_ok-marks.marks.items)
    c.entries.ensures.tree kept c.loop.invariant.so c.next_request.ensures.found
    (rw c.in-Some.is at c.in_ok-path.ensures.out) c.in_ok-marks.ensures.marks _
    c.in_err-take.ensures.too_large c.in_err-take.ensures.bad)

pub returns-clause-memory : goal.returns-clause-memory
returns-clause-memory c =
    let kept = subst IsFound c.scan-2.ensures.found c.tree-2.ensures.found in
    absurd (omega (
      arith,
      no_more_listings c.args.tree.now c.entries.ensures.fits c.loop.scanner c.loop.counter
          c.entries.ensures.tree kept c.loop.invariant,
      c.loop-test.false,
    ))
