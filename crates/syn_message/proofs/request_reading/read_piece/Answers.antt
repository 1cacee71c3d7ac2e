use Rattle.std.proofs.Common.{arith}
use Rattle.syn_machine.specs.Side.{IsPieceBytes}
use Rattle.syn_message.proofs.WholeLemmas.{failed_whole, no_value}
use Rattle.syn_message.proofs.request_reading.read_piece.Goals as goal
use Rattle.syn_wire.specs.Events.{IsFile, file_spelling}

pub returns-in_err-piece : goal.returns-in_err-piece
returns-in_err-piece c =
    failed_whole IsPieceBytes _ _ _ c.from_residual.result _ c.from_residual.ensures.1
    (λ e same malformed piece is. no_value IsFile file_spelling c.args.reader.now
    (c.in_err-piece.ensures.read (rw (← same) malformed)) piece
    (record { bytes = is.2; brief = omega (arith, is.1) }))
