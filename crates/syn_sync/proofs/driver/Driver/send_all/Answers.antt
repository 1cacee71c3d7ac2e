use Rattle.std.proofs.Common.{◌∙◌, subst, sym, take}
use Rattle.syn_session.specs.Sendings.{message_of, messages_of}
use Rattle.syn_sync.proofs.WriteLemmas.{frames_more, sends_twice}
use Rattle.syn_sync.proofs.driver.Driver.send_all.Goals as goal
use Rattle.syn_sync.specs.Drivers.{outlets_of}
use Rattle.syn_sync.specs.Outlets.{Writes}
use Rattle.syn_sync.specs.Runs.{frame_to, frames_to}

pub loop-sending-preserved : goal.loop-sending-preserved
loop-sending-preserved g c =
    let outlets = outlets_of {R = g.row.R.Denot} {W = g.row.W.Denot} g.W.Write.contents in
    let sends = c.args.sends.now in
    let i = c.loop-sending.sending-index in
    let sending = c.sending-item.result in
    record {
      written = λ side.
          subst (λ bytes. Writes (outlets c.args.self.now side) (outlets c.send.new.self side)
          bytes (outlets c.send.new.self side).goes)
          (sym (frames_more side sends i sending c.loop-sending-test.true c.sending-item.is))
          (sends_twice (outlets c.args.self.now side) (outlets c.loop-sending.self side)
          (outlets c.send.new.self side) (frames_to side (messages_of (take i sends)))
          (frame_to side (message_of sending)) (c.loop-sending.invariant.written side)
          (c.send.ensures.written side));
      states = λ side. c.send.ensures.states side ∙ c.loop-sending.invariant.states side;
    }
