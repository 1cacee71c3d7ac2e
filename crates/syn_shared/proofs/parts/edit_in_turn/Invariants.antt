use Rattle.std.proofs.Common.{◌≡◌, ◌++◌, map}
use Rattle.syn_replica.specs.Edits.{event_by}
use Rattle.syn_replica.specs.Growth.{IsGrown}
use Rattle.syn_shared.specs.Parts.{AddsInTurn}
use Rattle.syn_shared.proofs.parts.edit_in_turn.Given as goal

abbrev pub invariant-loop-edit : goal.invariant-loop-edit
invariant-loop-edit g l = record {
  whole : l.fn.edits.items ≡ l.yielded ++ l.edit-iterator.rest.items;
  added : AddsInTurn l.initial.replica (map (event_by l.user) l.yielded) l.replica;
  grown : IsGrown l.initial.replica l.replica;
}
