use Rattle.std.proofs.Common.{subst, sym}
use Rattle.syn_command.specs.Errors.{refusal_of}
use Rattle.syn_replica.specs.WithRoom.{IsUnmade}
use Rattle.syn_command.proofs.import.make_edits.Goals as goal

pub returns-clause-unmade : goal.returns-clause-unmade
returns-clause-unmade g c history stands =
    subst (λ e. IsUnmade c.args.replica history (refusal_of e) c.in-Err-edit_all_with_room.disk)
    (sym c.from-in-Err-edit_all_with_room.ensures)
    (c.in-Err-edit_all_with_room.ensures.unmade history stands)
