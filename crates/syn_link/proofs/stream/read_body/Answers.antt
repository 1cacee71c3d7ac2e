use Rattle.std.proofs.Common.{◌∙◌, Ok, Err, ap}
use Rattle.std.proofs.lemmas.Result.{err_from_is_err_and}
use Rattle.syn_link.proofs.ReadLemmas.{at_end, at_failure, at_fault}
use Rattle.syn_link.proofs.stream.read_body.Goals as goal

pub returns-in_err-body-clause-fault : goal.returns-in_err-body-clause-fault
returns-in_err-body-clause-fault g c =
    let p = err_from_is_err_and c.from_residual.result c.from_residual.ensures.1 in
    let (came, whole, consumed) = c.loop.invariant in
    let told = c.in_err-body.ensures in
    rw (p.1, p.2) (at_fault _ _ c.args.framer.now c.next.new.self c.loop.framer came whole _
    consumed told.unchanged (λ e. told.bad_frame.0 (ap Err e)) (λ e. told.too_large.0 (ap Err e)))

pub returns-in_err-read_some-clause-fault : goal.returns-in_err-read_some-clause-fault
returns-in_err-read_some-clause-fault g c =
    let p = err_from_is_err_and c.from_residual-in_err-read_some.result
    c.from_residual-in_err-read_some.ensures.1 in
    let (came, whole, consumed) = c.loop.invariant in
    let front = rw c.in_default.is at c.in_ok-body.ensures.front in
    let told = c.in_err-read_some.ensures in
    rw (p.1, p.2) (at_failure _ _ c.args.framer.now c.read_some.new.framer c.loop.framer came whole
    _ told.refusals (told.unchanged ∙ front.0))

pub returns-then-branch-eq0-clause-end : goal.returns-then-branch-eq0-clause-end
returns-then-branch-eq0-clause-end g c =
    let (came, whole, consumed) = c.loop.invariant in
    let (bytes, size, fed, more) = c.in_ok-read_some.ensures.fed in
    let zero = c.if-branch-eq0.true in
    at_end _ _ _ c.args.framer.now c.loop.framer c.next.new.self c.read_some.new.framer came bytes
    whole consumed (rw c.in_default.is at c.in_ok-body.ensures.front) (size ∙ zero) fed more
    (c.in_ok-read_some.ensures.end (ap Ok zero))
