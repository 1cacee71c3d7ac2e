use Rattle.std.proofs.Common.{ap, true≢false}
use Rattle.std.specs.Result.{is_ok}
use Rattle.syn_link.proofs.FrameLemmas.{no_front}
use Rattle.syn_link.proofs.frames.first_body.Goals as goal

pub returns-in_default-clause-none : goal.returns-in_default-clause-none
returns-in_default-clause-none c = no_front c.args.bytes.now c.in_default.ensures

pub returns-in_default-clause-bad_frame : goal.returns-in_default-clause-bad_frame
returns-in_default-clause-bad_frame c = (
  λ same. absurd (true≢false (ap is_ok same)),
  λ claim. absurd (c.in_default.ensures 0 claim.0 claim.1),
)
