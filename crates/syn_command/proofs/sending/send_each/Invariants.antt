use Rattle.std.proofs.Common.{◌≡◌, ◌+◌, ◌++◌, length, map}
use Rattle.syn_command.specs.Sent.{AreMadeInTurn}
use Rattle.syn_tree.specs.Edits.{edit_of}
use Rattle.syn_user.specs.States.{state_of}
use Rattle.syn_command.proofs.sending.send_each.Given as goal

abbrev pub invariant-loop-edit : goal.invariant-loop-edit
invariant-loop-edit g l =
    let state = state_of g.R.Read.remaining g.W.Write.contents in
    record {
      whole : l.fn.edits.items ≡ l.yielded ++ l.edit-iterator.rest.items;
      count : l.last ≡ l.position + length l.yielded;
      made : AreMadeInTurn l.user (state l.initial.connection) l.position (map edit_of l.yielded)
          (state l.connection);
    }
