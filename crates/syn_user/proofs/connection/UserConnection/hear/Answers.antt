use Rattle.std.proofs.Common.{◌∙◌, Option, Some, None, subst, sym}
use Rattle.std.specs.Option.{ok_or}
use Rattle.std.specs.Prelude.{IfErr, IfNone}
use Rattle.syn_message.specs.Laws.{UserRepliesTell}
use Rattle.syn_message.specs.UserReplies.{IsLawfulUserReplyMessage, UserReplyMessage}
use Rattle.syn_message.specs.UserReplies.{user_reply_message_of, user_reply_spelling}
use Rattle.syn_message.specs.Users.{IsLawfulUserRequestMessage, UserRequestMessage}
use Rattle.syn_message.specs.Users.{user_request_message_of}
use Rattle.syn_user.proofs.connection.UserConnection.hear.Goals as goal
use Rattle.syn_user.specs.Exchanges.{IsNoReply, IsUnheard}
use Rattle.syn_user.specs.States.{state_of}
use Rattle.syn_user.specs.declared.error.UserError.TheVariants.{BadMessage}
use Rattle.syn_user.specs.inner.Parts.{IsForeign}

-- what an error in the place of nothing means
of_none : {T E : Type 0} (found : Option T) (error : E) (P : E → Type 0) (Q : Type 0)
    → IfNone found Q → (Q → P error) → IfErr (ok_or found error) P
of_none None error P Q none so = so none
of_none (Some value) error P Q none so = tt

-- the body of another message is that of no reply
foreign : UserRepliesTell → (asked : UserRequestMessage) (answered : UserReplyMessage)
    → IsLawfulUserRequestMessage asked → IsLawfulUserReplyMessage answered
    → IsForeign asked answered → IsNoReply asked (user_reply_spelling answered)
foreign tell asked answered right lawful none what answers fits is =
    none what (record {
      is = tell answered (record { number = asked.number; reply = what }) lawful
          (record { number = right.number; lawful = fits }) is;
      answers = answers;
    })

pub returns-in_default-2-clause-unheard : goal.returns-in_default-2-clause-unheard
returns-in_default-2-clause-unheard g c =
    let came = rw c.in-Some.is at c.in_ok-body.ensures.body in
    let none = rw c.in_default-2.is at c.in_ok-answered.ensures in (
      c.in-Some.body.items,
      came,
      λ what answers fits is.
          none (record { number = c.args.asked.now.number; reply = what })
          (record { number = c.requires.number; lawful = fits })
          (c.deref.ensures.value ∙ is),
    )

pub returns-clause-unheard : goal.returns-clause-unheard
returns-clause-unheard g c =
    let state = state_of g.R.Read.remaining g.W.Write.contents in
    let old = state c.args.self.now in
    let new = state (record c.args.self.now { connection = c.receive.new.self }) in
    let asked = user_request_message_of c.args.asked.now in
    let answered = user_reply_message_of c.in-Some-2.answered in
    let came = rw c.in-Some.is at c.in_ok-body.ensures.body in
    let read = rw c.in-Some-2.is at c.in_ok-answered.ensures in
    subst (λ r. IfErr r (IsUnheard old new asked)) (sym c.ok_or.ensures.value)
    (of_none c.reply_to.result BadMessage (IsUnheard old new asked) (IsForeign asked answered)
    c.reply_to.ensures.none
    (λ none. (
      c.in-Some.body.items,
      came,
      subst (IsNoReply asked) (sym (sym c.deref.ensures.value ∙ read.1))
          (foreign c.message_laws.ensures.user_replies asked answered c.requires read.0 none),
    )))
