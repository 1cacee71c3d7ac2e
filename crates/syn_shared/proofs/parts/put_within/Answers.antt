use Rattle.std.proofs.Common.{ℕ, List, Result, map, refl, subst, sym}
use Rattle.syn_model.proofs.ExitLemmas.{exit_is}
use Rattle.syn_model.specs.Event.{Event}
use Rattle.syn_replica.specs.Growing.{itself}
use Rattle.syn_replica.specs.declared.error.ReplicaError.{ReplicaError}
use Rattle.syn_tree.specs.Edits.{edit_of}
use Rattle.syn_tree.specs.Nodes.{part_of}
use Rattle.syn_shared.specs.Parts.{EndsWith, Puts}
use Rattle.syn_shared.specs.Parts as parts
use Rattle.syn_shared.proofs.PartLemmas.{as_edits, part_there}
use Rattle.syn_shared.proofs.parts.put_within.Goals as goal

pub returns-clause-puts : goal.returns-clause-puts
returns-clause-puts g c =
    let found = c.args.replica.now in
    let left = c.edit_in_turn.new.replica in
    let edits = map edit_of c.in_ok-edits.edits.items in
    let ends = subst (λ (es : List Event). EndsWith found es c.edit_in_turn.result left)
    (as_edits c.args.user c.in_ok-edits.edits.items) c.edit_in_turn.ensures.ends in
    record {
      way = parts.puts edits c.edit_in_turn.result left c.in_ok-edits.ensures.untouched
          c.in_ok-edits.ensures.changes ends;
      touched = λ history why stands some.
          absurd (c.in_ok-edits.ensures.touched history why stands some);
      acknowledged = λ history stands.
          part_there c.args.user c.args.path.now (part_of c.args.new) found edits
          c.in_ok-edits.ensures.changes history stands c.edit_in_turn.result left ends;
    }

pub returns-in_err-edits-clause-puts : goal.returns-in_err-edits-clause-puts
returns-in_err-edits-clause-puts g c =
    let found = c.args.replica.now in
    let e = c.in_err-edits.field-0.0 in
    subst (λ (r : Result ℕ ReplicaError). Puts c.args.user c.args.path.now c.args.since
    (part_of c.args.new) r found found)
    (sym (exit_is c.from_residual.result e c.from_residual.ensures.1)) (record {
      way = parts.keeps e;
      touched = λ history why stands some.
          (c.in_err-edits.ensures.touched history why stands some, refl);
      acknowledged = λ history stands. tt;
    })

pub returns-in_err-edits-clause-grown : goal.returns-in_err-edits-clause-grown
returns-in_err-edits-clause-grown g c = itself c.args.replica.now
