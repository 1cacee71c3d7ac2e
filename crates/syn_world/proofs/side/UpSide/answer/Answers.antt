use Rattle.std.proofs.Common.{◌≡◌, ◌∙◌, true, false}
use Rattle.syn_world.specs.Sides.{HasStopped}
use Rattle.syn_message.specs.Requests.{request_of}
use Rattle.syn_world.proofs.AnswerLemmas.{answer_cut, answer_goes}
use Rattle.syn_world.proofs.SideLemmas.{side_of}
use Rattle.syn_world.proofs.SideLemmas.{position_is}
use Rattle.syn_world.proofs.side.UpSide.answer.Goals as goal

pub returns-then-is_cut : goal.returns-then-is_cut
returns-then-is_cut g c pair machine runs =
    let new = c.answer-reply.new.replica in
    let after = c.answer-reply.new.self in
    let stopped : HasStopped (side_of new after) ≡ true = cc in
    answer_cut pair c.args.self.replica new c.args.self.agent after machine c.args.session
    (request_of c.args.request) c.answer-reply.result runs c.answer-reply.ensures.unchanged
    c.answer-reply.ensures.lawful
    (c.answer-reply.ensures.takes pair machine runs.is) _
    (c.position-position.ensures ∙ position_is pair c.args.self machine runs) c.settle.result
    c.settle.ensures stopped

pub returns : goal.returns
returns g c pair machine runs =
    let new = c.answer-reply.new.replica in
    let after = c.answer-reply.new.self in
    let goes : HasStopped (side_of new after) ≡ false = cc in
    answer_goes pair c.args.self.replica new c.args.self.agent after machine c.args.session
    (request_of c.args.request) c.answer-reply.result runs c.answer-reply.ensures.unchanged
    c.answer-reply.ensures.lawful
    (c.answer-reply.ensures.takes pair machine runs.is) _
    (c.position-position.ensures ∙ position_is pair c.args.self machine runs)
    c.settle_since.result c.settle_since.ensures.same c.settle_since.ensures.added goes
