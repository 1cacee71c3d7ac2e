use Rattle.std.proofs.Common.{refl}
use Rattle.syn_machine.specs.Network.{Which, Left, Right}
use Rattle.syn_session.specs.Stages.{peer_of}
use Rattle.syn_session.proofs.SessionLemmas.{SentAgain, resent_so}
use Rattle.syn_session.proofs.session.Session.count_resend.Goals as goal

pub returns : goal.returns
returns c archive running is = resent_so archive c.args.self.now _ running is refl refl refl
    again
  where
    again : (side : Which) → SentAgain (peer_of c.args.self.now side) (peer_of (record {
      number =
          c.args.self.now.number;
      preference = c.args.self.now.preference;
      left = c.count_resend.new.self;
      right = c.count_resend-2.new.self;
      progress = c.args.self.now.progress;
    }) side)
    again Left =
        record {
          waits = c.count_resend.ensures.waits;
          of_session = c.count_resend.ensures.of_session;
          number = c.count_resend.ensures.number;
          scan = c.count_resend.ensures.scan;
        }
    again Right =
        record {
          waits = c.count_resend-2.ensures.waits;
          of_session = c.count_resend-2.ensures.of_session;
          number = c.count_resend-2.ensures.number;
          scan = c.count_resend-2.ensures.scan;
        }
