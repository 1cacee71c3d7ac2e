use Rattle.std.proofs.Common.{Err, ap, refl, subst, sym, ◌∙◌}
use Rattle.std.proofs.lemmas.Result.{err_from_is_err_and}
use Rattle.syn_link.specs.Connections as link
use Rattle.syn_link.specs.Frames.{IsBody}
use Rattle.syn_serve.proofs.BodyLemmas.{is_body}
use Rattle.syn_serve.proofs.ServeLemmas.{breaks_off}
use Rattle.syn_serve.proofs.connection.ServerConnection.send.Goals as goal
use Rattle.syn_serve.specs.States.{BreaksOff, writer_of}
use Rattle.syn_serve.specs.Messages.{response_of}
use Rattle.syn_serve.specs.inner.Parts.{of_link}

pub returns-in_err-body-clause-broken : goal.returns-in_err-body-clause-broken
returns-in_err-body-clause-broken g c =
    let p = err_from_is_err_and c.from_residual.result c.from_residual.ensures.1 in
    rw (p.1, p.2) refl

pub returns-in_err-send-clause-broken : goal.returns-in_err-send-clause-broken
returns-in_err-send-clause-broken g c =
    let p = err_from_is_err_and c.from_residual-in_err-send.result
    c.from_residual-in_err-send.ensures.1 in
    let old = g.W.Write.contents (writer_of c.args.self.now) in
    let new = g.W.Write.contents (link.writer_of c.send.new.self) in
    let told = c.in_err-send.ensures in
    let error = c.in_err-send.field-0.0 in
    let spelled = c.deref.ensures.value ∙ c.in_ok-body.ensures in
    let lawful = is_body (response_of c.args.reply.now) c.requires in
    rw (p.1, p.2) (subst (λ b. BreaksOff (of_link error) old new b) spelled
    (breaks_off error old new _ (subst IsBody (sym spelled) lawful)
    (λ is. told.bad_frame.0 (ap Err is)) (λ is. told.too_large.0 (ap Err is)) told.memory
    told.beginning))
