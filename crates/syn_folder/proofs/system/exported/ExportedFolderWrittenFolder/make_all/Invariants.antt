use Rattle.std.proofs.Common.{◌≡◌, ◌++◌, map}
use Rattle.syn_change.specs.Changes.{after_edits}
use Rattle.syn_tree.specs.Edits.{edit_of}
use Rattle.syn_folder.proofs.system.exported.ExportedFolderWrittenFolder.make_all.Given as goal

abbrev pub invariant-loop-edit : goal.invariant-loop-edit
invariant-loop-edit g l = record {
  whole : l.fn.edits.items ≡ l.yielded ++ l.edit-iterator.rest.items;
  made : l.self.folder.tree
      ≡ after_edits (l.initial.self.folder.tree) (map edit_of l.yielded);
}
