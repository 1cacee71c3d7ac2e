use Rattle.std.proofs.Common.{subst, sym}
use Rattle.syn_message.specs.Requests.{request_of}
use Rattle.syn_session.specs.Answering.{IsAnswering}
use Rattle.syn_session.specs.Hearing.{Hears}
use Rattle.syn_message.specs.Replies.{reply_of}
use Rattle.syn_path.specs.Sides.{which_of}
use Rattle.syn_session.proofs.HearingLemmas.{none_other}
use Rattle.syn_session.proofs.session.Session.hear.Goals as goal

pub returns-in_default : goal.returns-in_default
returns-in_default c = record {
  step = λ archive before running number is answers scans.
      absurd (none_other archive before c.args.self.now running
      (which_of c.args.from) number c.args.request.now
      (reply_of c.args.reply) is answers scans c.in_default.not-Begin c.in_default.not-List);
}

pub returns-in-Begin : goal.returns-in-Begin
returns-in-Begin c =
    let side = which_of c.args.from in
    let reply = reply_of c.args.reply in
    record {
      step = λ archive before running number is answers scans.
          subst (λ r. Hears c.hear_begun.new.self running side number (request_of r) reply
          c.hear_begun.result) (sym c.in-Begin.is)
          (c.hear_begun.ensures.step archive before running number c.in-Begin.pair is
          (subst (λ r. IsAnswering before c.args.self.now side number (request_of r))
          c.in-Begin.is answers) scans);
    }
