use Rattle.std.proofs.Common.{◌∙◌, refl, subst}
use Rattle.std.proofs.lemmas.Result.{err_from_is_err_and}
use Rattle.syn_serve.proofs.ServeLemmas.{answered_so, declined_so}
use Rattle.syn_shared.proofs.HoldLemmas.{later_same}
use Rattle.syn_serve.proofs.connection.ServerConnection.serve_next.Goals as goal
use Rattle.syn_serve.specs.Exchanges.{answers, breaks, closes, ends}
use Rattle.syn_serve.specs.States.{BreaksOff, Sends, state_of}
use Rattle.syn_serve.specs.Messages.{message_of, response_of, response_spelling}

pub returns-in_err-request-clause-exchanges : goal.returns-in_err-request-clause-exchanges
returns-in_err-request-clause-exchanges g c =
    let p = err_from_is_err_and c.from_residual.result c.from_residual.ensures.1 in
    let told = c.in_err-request.ensures in
    rw (p.1, p.2) (closes _ told.closes told.silent refl)

pub returns-in_err-request-clause-later : goal.returns-in_err-request-clause-later
returns-in_err-request-clause-later g c = later_same _ _

pub returns-in_default-clause-exchanges : goal.returns-in_default-clause-exchanges
returns-in_default-clause-exchanges g c =
    let told = c.in_ok-request.ensures in
    ends (rw c.in_default.is at told.end) told.silent refl

pub returns-in_default-clause-later : goal.returns-in_default-clause-later
returns-in_default-clause-later g c = later_same _ _

pub returns-in_default-answered-clause-exchanges : goal.returns-in_default-answered-clause-exchanges
returns-in_default-answered-clause-exchanges g c =
    let state = state_of g.R.Read.remaining g.W.Write.contents in
    let told = c.in_ok-request.ensures in
    let answered = c.answer-answered.ensures in
    declined_so c.args.shared.now (state c.args.self.now) (state c.receive.new.self)
    c.answer-answered.new.agent c.args.pass.now c.answer-answered.new.pass
    (message_of c.in-Some.request) (rw c.in-Some.is at told.request) told.silent
    (rw c.in_default-answered.is at answered.held) (rw c.in_default-answered.is at answered.silent)

pub returns-in_err-send-clause-exchanges : goal.returns-in_err-send-clause-exchanges
returns-in_err-send-clause-exchanges g c =
    let p = err_from_is_err_and c.from_residual-in_err-send.result
    c.from_residual-in_err-send.ensures.1 in
    let state = state_of g.R.Read.remaining g.W.Write.contents in
    let told = c.in_ok-request.ensures in
    let received = rw c.in-Some.is at told.request in
    let message = message_of c.in-Some.request in
    let response = response_of c.in-Some-answered.reply in
    let held = rw c.in-Some-answered.is at c.answer-answered.ensures.held in
    let rest = c.send.ensures.rest in
    let error = c.in_err-send.field-0.0 in
    rw (p.1, p.2) (breaks message response error
    (answered_so c.args.shared.now (state c.args.self.now) (state c.receive.new.self)
    (state c.send.new.self) c.answer-answered.new.agent c.args.pass.now c.answer-answered.new.pass
    message response received told.silent held rest.0 rest.1 rest.2
    (rest.3 ∙ c.begun_by-self.ensures))
    (subst (λ w. BreaksOff error w (state c.send.new.self).written (response_spelling response))
    told.silent.1 c.in_err-send.ensures.broken))

pub returns-clause-exchanges : goal.returns-clause-exchanges
returns-clause-exchanges g c =
    let state = state_of g.R.Read.remaining g.W.Write.contents in
    let told = c.in_ok-request.ensures in
    let received = rw c.in-Some.is at told.request in
    let message = message_of c.in-Some.request in
    let response = response_of c.in-Some-answered.reply in
    let held = rw c.in-Some-answered.is at c.answer-answered.ensures.held in
    let rest = c.send.ensures.rest in
    answers message response
    (answered_so c.args.shared.now (state c.args.self.now) (state c.receive.new.self)
    (state c.send.new.self) c.answer-answered.new.agent c.args.pass.now c.answer-answered.new.pass
    message response received told.silent held rest.0 rest.1 rest.2
    (rest.3 ∙ c.begun_by-self.ensures))
    (subst (λ w. Sends w (state c.send.new.self).written (response_spelling response)) told.silent.1
    c.in_ok-send.ensures.sent)
