use Rattle.std.proofs.Common.{◌≡◌, ap, rules, sym, subst, ◌∙◌, ap₂, Some}
use Rattle.syn_machine.specs.Side as model
use Rattle.syn_link.specs.Connections.{held_by, reader_of}
use Rattle.syn_link.specs.Streams.{Comes}
use Rattle.syn_message.specs.Replies.{ReplyMessage, IsLawfulReplyMessage, IsLawfulReply}
use Rattle.syn_message.specs.Replies.{reply_message_of, reply_spelling, reply_of}
use Rattle.syn_user.specs.Sides.{side_state}
use Rattle.syn_user.specs.declared.side.TheConstants.{SESSION}
use Rattle.syn_user.proofs.side.SideConnection.hear.Goals as goal
use Rattle.syn_user.proofs.side.SideConnection.hear.Goals.{in_default-2-via-in-Some-2+then-branch-eq-SESSION+else-branch-number}
use Rattle.syn_user.proofs.side.SideConnection.hear.Goals.{in_default-2-via-in-Some-2+else-branch-eq-SESSION}
use Rattle.syn_user.proofs.side.SideConnection.hear.Goals.{in_default-2-via-in_default-2}

pub returns-in-Some-2-clause-heard : goal.returns-in-Some-2-clause-heard
returns-in-Some-2-clause-heard g c =
    let came = rw c.in-Some.is at c.in_ok-body.ensures.body in
    let read = rw c.in-Some-2.is at c.in_ok-answered.ensures in
    let old = side_state g.R.Read.remaining g.W.Write.contents c.args.self.now in
    let told = c.in-Some-2.answered in
    let session : told.session ≡ SESSION = c.if-branch-eq-SESSION.true in
    let number : told.number ≡ old.next = c.if-branch-number.true in
    let spelled : reply_spelling (reply_message_of told) ≡ reply_spelling
    (record { session = SESSION; number = old.next; reply = reply_of told.reply }) =
    ap₂ (λ s n. reply_spelling
    (record { session = s; number = n; reply = reply_of told.reply })) session number in
    record {
      lawful = read.0.reply;
      came = subst (λ b. Comes old.given (g.R.Read.remaining (reader_of c.receive.new.self))
          old.held (held_by c.receive.new.self) (Some b))
          (sym c.deref.ensures.value ∙ (read.1 ∙ spelled)) came;
      next = c.number_after-self.ensures;
    }

-- the body is no reply to the request, or one to another
pub returns-clause-unheard : goal.returns-clause-unheard
returns-clause-unheard g c =
    let next = c.args.self.now.next in
    let came = rw c.in-Some.is at c.in_ok-body.ensures.body in
    let told : model.Reply → ReplyMessage =
    λ reply. record { session = SESSION; number = next; reply = reply } in
    let lawful : (reply : model.Reply) → IsLawfulReply reply → IsLawfulReplyMessage (told reply) =
    λ reply fits. record {
      session = search rules;
      begun = search rules;
      number = c.is_short.ensures;
      reply = fits;
    } in (
      c.in-Some.body.items,
      came,
      λ reply fits is. elim c.in_default-2.branch [
        | in_default-2-via-in-Some-2+then-branch-eq-SESSION+else-branch-number w ↦
            let read = rw w.in-Some-2.is at c.in_ok-answered.ensures in
            w.if-branch-number.false (ap (λ (a : ReplyMessage). a.number)
            (c.message_laws.ensures.replies (reply_message_of w.in-Some-2.answered) (told reply)
            read.0 (lawful reply fits) (sym read.1 ∙ (c.deref.ensures.value ∙ is))))
        | in_default-2-via-in-Some-2+else-branch-eq-SESSION w ↦
            let read = rw w.in-Some-2.is at c.in_ok-answered.ensures in
            w.if-branch-eq-SESSION.false (ap (λ (a : ReplyMessage). a.session)
            (c.message_laws.ensures.replies (reply_message_of w.in-Some-2.answered) (told reply)
            read.0 (lawful reply fits) (sym read.1 ∙ (c.deref.ensures.value ∙ is))))
        | in_default-2-via-in_default-2 w ↦
            let none = rw w.in_default-2.is at c.in_ok-answered.ensures in
            none (told reply) (lawful reply fits) (c.deref.ensures.value ∙ is)
      ],
    )
