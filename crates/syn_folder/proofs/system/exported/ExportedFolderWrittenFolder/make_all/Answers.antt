use Rattle.std.proofs.Common.{refl, ◌≡◌, ◌++◌, ◌∷◌, [], map, sym, ap, ◌∙◌, append_assoc, append-nil}
use Rattle.std.proofs.Common.{arith}
use Rattle.std.proofs.lemmas.List.{map-append, nil_from_length}
use Rattle.std.proofs.lemmas.List.Sums.{fold_push}
use Rattle.syn_model.specs.Event.{after_edit}
use Rattle.syn_change.specs.Changes.{after_edits}
use Rattle.syn_tree.specs.Edits.{edit_of}
use Rattle.syn_folder.proofs.system.exported.ExportedFolderWrittenFolder.make_all.Goals as goal

pub loop-edit-init : goal.loop-edit-init
loop-edit-init g c = record {
  whole = sym c.into_iter-edit-iterator.ensures.into_iter_gives.0;
  made = refl;
}

pub loop-edit-preserved : goal.loop-edit-preserved
loop-edit-preserved g c =
    let made = c.loop-edit.yielded in
    let x = c.in-Some.edit in
    let first = c.make_missing.new.self.tree in
    record {
      whole =
          c.loop-edit.invariant.whole ∙ (ap (λ xs. made ++ xs) c.in-Some.ensures.steps.0
          ∙ sym (append_assoc made (x ∷ []) c.next.new.self.rest.items));
      made =
          c.in_ok-make.ensures.made
          ∙ (ap (λ t. after_edit t (edit_of x)) c.loop-edit.invariant.made
          ∙ (sym (fold_push after_edit first (map edit_of made) (edit_of x))
          ∙ ap (after_edits first) (sym (map-append edit_of made (x ∷ [])))));
    }

pub returns-clause-made : goal.returns-clause-made
returns-clause-made g c =
    let rest = c.loop-edit.edit-iterator.rest in
    let none : rest.items ≡ [] =
    nil_from_length rest.items (omega (arith, c.in-None.ensures.steps.0, rest.ok)) in
    let all = c.loop-edit.invariant.whole
    ∙ (ap (λ xs. c.loop-edit.yielded ++ xs) none ∙ append-nil c.loop-edit.yielded) in
    c.loop-edit.invariant.made
    ∙ (ap (λ t. after_edits t (map edit_of c.loop-edit.yielded)) c.in_ok-make_missing.ensures.tree
    ∙ ap (λ xs. after_edits c.args.self.now.folder.tree (map edit_of xs)) (sym all))
