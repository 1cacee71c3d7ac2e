use Rattle.std.proofs.Common.{arith, inr, refl, subst, sym}
use Rattle.std.proofs.lemmas.Result.{err_from_is_err_and}
use Rattle.syn_machine.specs.Network.{Left}
use Rattle.syn_command.proofs.AskedLemmas.{ended_so, endless_so, none_asked, one_asked, refused_so}
use Rattle.syn_command.proofs.AskedLemmas.{scanned}
use Rattle.syn_command.specs.Listings.{exchanges_of}
use Rattle.syn_scan.specs.Found.{Found}
use Rattle.syn_session.specs.Scanning.{IsFoundIn}
use Rattle.syn_user.specs.Sides.{side_state}
use Rattle.syn_command.proofs.preview.scan_side.Goals as goal

pub loop-init : goal.loop-init
loop-init g c =
    let state = side_state g.R.Read.remaining g.W.Write.contents in
    none_asked (state c.args.side.now) c.in-Ok.scan c.in-Ok.ensures.found c.in-Ok.ensures.out

pub loop-preserved : goal.loop-preserved
loop-preserved g c =
    let state = side_state g.R.Read.remaining g.W.Write.contents in
    let path = c.in-Ok-Some.path in
    let out = rw c.in-Ok-Some.field-0-is at c.in-Ok-Some.ensures.out in
    one_asked (state c.args.side.now) (state c.loop.side) (state c.list_side.new.side) c.loop.scan
    c.next.new.self c.take.new.self path _ c.loop.counter c.loop.invariant
    c.in-Ok-Some.ensures.found out c.in_ok-reply-in-Ok-Some.ensures.listed
    (λ side before waits found. (c.in_ok-take-in-Ok-Some.ensures.step side before 0 waits found).1)
    c.in_ok-take-in-Ok-Some.ensures.out

pub returns-in-Ok-None-clause-scanned : goal.returns-in-Ok-None-clause-scanned
returns-in-Ok-None-clause-scanned g c =
    let state = side_state g.R.Read.remaining g.W.Write.contents in
    scanned (state c.args.side.now) (state c.loop.side) c.loop.scan c.into_scan.result
    c.loop.invariant.asked (λ side taken found. c.into_scan.ensures.scan side taken
    (subst (λ (f : Found). IsFoundIn f side taken) (sym c.in-Ok-None.ensures.found) found))

pub returns-in_err-reply-in-Ok-Some-clause-cause : goal.returns-in_err-reply-in-Ok-Some-clause-cause
returns-in_err-reply-in-Ok-Some-clause-cause g c =
    let state = side_state g.R.Read.remaining g.W.Write.contents in
    let p = err_from_is_err_and c.from_residual.result c.from_residual.ensures.1 in
    rw (p.1, p.2) (inr (refused_so (state c.args.side.now) (state c.loop.side)
    (state c.list_side.new.side) c.loop.scan c.loop.counter c.loop.invariant _ c.in-Ok-Some.path
    c.in_err-reply-in-Ok-Some.ensures.refused))

pub returns-in_err-take-in-Ok-Some-clause-cause : goal.returns-in_err-take-in-Ok-Some-clause-cause
returns-in_err-take-in-Ok-Some-clause-cause g c =
    let state = side_state g.R.Read.remaining g.W.Write.contents in
    let p = err_from_is_err_and c.from_residual-in_err-take-in-Ok-Some.result
    c.from_residual-in_err-take-in-Ok-Some.ensures.1 in
    let out = rw c.in-Ok-Some.field-0-is at c.in-Ok-Some.ensures.out in
    let has = c.loop.invariant in
    rw (p.1, p.2) (ended_so (state c.args.side.now) (state c.loop.side) (state c.list_side.new.side)
    c.loop.scan c.loop.counter has _ c.next.new.self c.in-Ok-Some.path _
    c.in-Ok-Some.ensures.found out c.in_ok-reply-in-Ok-Some.ensures.listed
    (λ waits found. c.in_err-take-in-Ok-Some.ensures.step Left
    (exchanges_of Left has.asked.replies) 0 waits found))

pub returns-clause-cause : goal.returns-clause-cause
returns-clause-cause g c =
    let state = side_state g.R.Read.remaining g.W.Write.contents in
    inr (endless_so (state c.args.side.now) (state c.loop.side) (state c.loop.side) c.loop.scan
    c.loop.counter c.loop.invariant _ refl (omega (arith, c.loop-test.false)) refl)
