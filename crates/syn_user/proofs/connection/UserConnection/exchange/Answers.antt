use Rattle.std.proofs.Common.{subst, sym, ap, ◌∙◌}
use Rattle.std.specs.Io.KnownBytes.{Appends}
use Rattle.syn_link.specs.Connections as link
use Rattle.syn_link.specs.Frames.{AppendsSome, IsBody, frame_of}
use Rattle.syn_message.specs.UserReplies.{user_reply_of}
use Rattle.syn_message.specs.Users.{user_request_message_of}
use Rattle.syn_model.proofs.ExitLemmas.{if_err_of_exit}
use Rattle.syn_user.proofs.UserLemmas.{answered_so, no_body, sent_from, unanswered_so}
use Rattle.syn_user.proofs.connection.UserConnection.exchange.Goals as goal
use Rattle.std.specs.Prelude.{IfErr, IfOk}
use Rattle.syn_user.specs.Exchanges.{IsHeard, IsUnheard, number_after}
use Rattle.syn_user.specs.States.{state_of, writer_of}
use Rattle.syn_user.specs.declared.error.UserError.TheVariants.{Device}
use Rattle.syn_user.specs.inner.Parts.{unsent}

pub returns-in_err-body-clause-breaks : goal.returns-in_err-body-clause-breaks
returns-in_err-body-clause-breaks g c =
    if_err_of_exit c.from_residual.result _ _ c.from_residual.ensures.1
    (no_body _ _ _ c.in_err-body.ensures.refused)

pub returns-in-Err-clause-breaks : goal.returns-in-Err-clause-breaks
returns-in-Err-clause-breaks g c =
    let old = g.W.Write.contents (writer_of c.args.self.now) in
    let new = g.W.Write.contents (link.writer_of c.send.new.self) in
    unsent Device (
      subst IsBody c.in_ok-body.ensures.body c.in_ok-body.ensures.framed,
      subst (λ b. AppendsSome old new (frame_of b))
          (c.deref.ensures.value ∙ c.in_ok-body.ensures.body)
          c.in-Err.ensures.beginning,
    ) (ap g.R.Read.remaining c.send.ensures.unread.0, c.send.ensures.unread.1)

pub returns-clause-told : goal.returns-clause-told
returns-clause-told g c =
    let state = state_of g.R.Read.remaining g.W.Write.contents in
    let old = g.W.Write.contents (writer_of c.args.self.now) in
    let new = g.W.Write.contents (link.writer_of c.send.new.self) in
    let unread = c.send.ensures.unread in
    let from = sent_from (state c.args.self.now)
    (g.R.Read.remaining (link.reader_of c.send.new.self)) (link.held_by c.send.new.self) new
    c.number_after-self.result
    (ap g.R.Read.remaining unread.0) unread.1 in
    answered_so (state c.args.self.now) (state c.hear.new.self)
    (user_request_message_of c.args.asked.now) new
    c.number_after-self.result c.in_ok-body.ensures.lawful
    (subst (λ b. Appends old new (frame_of b)) (c.deref.ensures.value ∙ c.in_ok-body.ensures.body)
    c.in-Ok.ensures.written)
    (c.number_after-self.ensures ∙ ap number_after (sym c.requires))
    c.hear.ensures.silent c.hear.result
    (subst (λ l. IfOk c.hear.result (λ reply. IsHeard l (state c.hear.new.self)
    (user_request_message_of c.args.asked.now) (user_reply_of reply))) from c.hear.ensures.heard)

pub returns-clause-breaks : goal.returns-clause-breaks
returns-clause-breaks g c =
    let state = state_of g.R.Read.remaining g.W.Write.contents in
    let old = g.W.Write.contents (writer_of c.args.self.now) in
    let new = g.W.Write.contents (link.writer_of c.send.new.self) in
    let unread = c.send.ensures.unread in
    let from = sent_from (state c.args.self.now)
    (g.R.Read.remaining (link.reader_of c.send.new.self)) (link.held_by c.send.new.self) new
    c.number_after-self.result
    (ap g.R.Read.remaining unread.0) unread.1 in
    unanswered_so (state c.args.self.now) (state c.hear.new.self)
    (user_request_message_of c.args.asked.now) new
    c.number_after-self.result c.in_ok-body.ensures.lawful
    (subst (λ b. Appends old new (frame_of b)) (c.deref.ensures.value ∙ c.in_ok-body.ensures.body)
    c.in-Ok.ensures.written)
    (c.number_after-self.ensures ∙ ap number_after (sym c.requires))
    c.hear.ensures.silent c.hear.result
    (subst (λ l. IfErr c.hear.result (λ why. IsUnheard l (state c.hear.new.self)
    (user_request_message_of c.args.asked.now) why)) from c.hear.ensures.unheard)
