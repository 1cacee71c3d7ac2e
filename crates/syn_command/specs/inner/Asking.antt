-- How far the scan of a side has come.
use Rattle.std.specs.Prelude.{◌≡◌, []}
use Rattle.syn_machine.specs.Network.{Which}
use Rattle.syn_command.specs.Listings.{GaveReplies, Replies, exchanges_of}
use Rattle.syn_session.specs.Scanning.{IsFoundIn, found_of, out_of}
use Rattle.syn_session.specs.declared.side_scan.SideScan.{SideScan}
use Rattle.syn_user.specs.Sides.{SideState}

-- each reply was taken, and none is waited for
pub record IsAsked (old : SideState) (scan : SideScan) (now : SideState) : Type 0 where
  pub replies : Replies
  pub gave : GaveReplies old replies now
  pub found : (side : Which) → IsFoundIn (found_of scan) side (exchanges_of side replies)
  pub none_out : out_of scan ≡ []
