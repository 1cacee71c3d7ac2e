use Rattle.std.proofs.Common.{◌≡◌, take}
use Rattle.syn_machine.specs.Network.{Which}
use Rattle.syn_session.specs.Sendings.{messages_of}
use Rattle.syn_sync.proofs.driver.Driver.send_all.Given as goal
use Rattle.syn_sync.specs.Drivers.{states_of, outlets_of}
use Rattle.syn_sync.specs.Outlets.{Writes}
use Rattle.syn_sync.specs.Runs.{frames_to}

-- what came so far was sent
abbrev pub invariant-loop-sending : goal.invariant-loop-sending
invariant-loop-sending g l =
    let outlets = outlets_of g.W.Write.contents in
    let states = states_of g.R.Read.remaining in record {
      written : (side : Which) → Writes (outlets l.fn.self side) (outlets l.self side)
          (frames_to side (messages_of (take l.sending-index l.sends)))
          (outlets l.self side).goes;
      states : (side : Which) → states l.self side ≡ states l.fn.self side;
    }
