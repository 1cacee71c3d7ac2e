use Rattle.std.proofs.Common.{arith}
use Rattle.syn_message.specs.UserReplies.{IsWithinFile}
use Rattle.syn_message.proofs.WholeLemmas.{failed_whole, no_value}
use Rattle.syn_message.proofs.user_reply_reading.read_whole_file.Goals as goal
use Rattle.syn_model.specs.Contents.{contents_spelling}
use Rattle.syn_model.specs.Version.{Two}
use Rattle.syn_wire.specs.Contents.{IsBriefFileIn}

pub returns-in_err-mode : goal.returns-in_err-mode
returns-in_err-mode c =
    failed_whole IsWithinFile _ _ _ c.from_residual.result _ c.from_residual.ensures.1
    (λ e same malformed file is. let brief = is.0 in
    no_value (IsBriefFileIn Two) contents_spelling c.args.reader.now
    (c.in_err-mode.ensures.read (rw (← same) malformed)) file (is.1, omega (arith, brief)))
