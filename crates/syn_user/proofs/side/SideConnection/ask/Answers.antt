use Rattle.std.proofs.Common.{◌∙◌, ap, refl, subst, sym}
use Rattle.std.specs.Io.KnownBytes.{Appends}
use Rattle.std.specs.Prelude.{IfErr, IfOk}
use Rattle.syn_link.specs.Connections as link
use Rattle.syn_link.specs.Frames.{frame_of}
use Rattle.syn_message.specs.Replies.{reply_of}
use Rattle.syn_message.specs.Requests.{request_of}
use Rattle.syn_model.proofs.ExitLemmas.{if_err_of_exit}
use Rattle.syn_user.proofs.SideLemmas.{replied_so, sent_from, unanswered_so}
use Rattle.syn_user.proofs.side.SideConnection.ask.Goals as goal
use Rattle.syn_user.specs.Sides.{IsHeard, IsUnanswered, IsUnheard, side_state, unsent}

pub returns-clause-replied : goal.returns-clause-replied
returns-clause-replied g c =
    let state = side_state g.R.Read.remaining g.W.Write.contents in
    let old = g.W.Write.contents (link.writer_of c.args.self.now.connection) in
    let written = g.W.Write.contents (link.writer_of c.send.new.self) in
    let unread = c.send.ensures.unread in
    let from = sent_from (state c.args.self.now)
    (g.R.Read.remaining (link.reader_of c.send.new.self)) (link.held_by c.send.new.self) written
    (ap g.R.Read.remaining unread.0) unread.1 in
    replied_so (state c.args.self.now) (state c.hear.new.self) (request_of c.args.request) written
    c.in_ok-body.ensures.lawful
    (subst (λ b. Appends old written (frame_of b))
    (c.deref.ensures.value ∙ c.in_ok-body.ensures.body) c.in-Ok.ensures.written)
    (ap g.W.Write.contents c.hear.ensures.silent) c.hear.result
    (subst (λ l. IfOk c.hear.result (λ reply. IsHeard l (state c.hear.new.self) (reply_of reply)))
    from c.hear.ensures.heard)

pub returns-in_err-body-clause-unanswered : goal.returns-in_err-body-clause-unanswered
returns-in_err-body-clause-unanswered g c =
    let state = side_state g.R.Read.remaining g.W.Write.contents c.args.self.now in
    let request = request_of c.args.request in
    if_err_of_exit c.from_residual.result c.in_err-body.field-0.0 (IsUnanswered state state request)
    c.from_residual.ensures.1 (subst (IsUnanswered state state request)
    (sym c.in_err-body.ensures.memory) (unsent refl (refl, refl)))

pub returns-clause-unanswered : goal.returns-clause-unanswered
returns-clause-unanswered g c =
    let state = side_state g.R.Read.remaining g.W.Write.contents in
    let old = g.W.Write.contents (link.writer_of c.args.self.now.connection) in
    let written = g.W.Write.contents (link.writer_of c.send.new.self) in
    let unread = c.send.ensures.unread in
    let from = sent_from (state c.args.self.now)
    (g.R.Read.remaining (link.reader_of c.send.new.self)) (link.held_by c.send.new.self) written
    (ap g.R.Read.remaining unread.0) unread.1 in
    unanswered_so (state c.args.self.now) (state c.hear.new.self)
    (request_of c.args.request) written
    c.in_ok-body.ensures.lawful
    (subst (λ b. Appends old written (frame_of b))
    (c.deref.ensures.value ∙ c.in_ok-body.ensures.body) c.in-Ok.ensures.written)
    (ap g.W.Write.contents c.hear.ensures.silent) c.hear.result
    (subst (λ l. IfErr c.hear.result (IsUnheard l (state c.hear.new.self))) from
    c.hear.ensures.unheard)
