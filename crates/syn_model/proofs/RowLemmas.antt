-- The worked examples hold.
use Rattle.std.proofs.Common.{arith, length, ◌≡◌, ◌≢◌, true, false, List, [], ◌∷◌, refl, sym, ap}
use Rattle.std.proofs.Common.{◌∙◌, Some, None}
use Rattle.std.proofs.lemmas.Bool.{false_from_ne_true}
use Rattle.std.specs.FinMap.{get, empty, get-empty, entries, put, entries-insert, len-entries}
use Rattle.std.specs.FinMap.{len-empty}
use Rattle.std.proofs.lemmas.Option.{none-some, same_Some}
use Rattle.syn_model.specs.Spelling.{spelling_within}
use Rattle.syn_model.specs.Path.{Bytes, root, path_cmp}
use Rattle.syn_model.specs.Contents.{contents_of}
use Rattle.syn_model.specs.Tree.{Tree, Pair, Content, File, Directory, at_root, file}
use Rattle.syn_model.specs.Tree.{empty_directory, absent, is_directory, is_directory_content}
use Rattle.syn_model.specs.Dirty.{is_same_tree}
use Rattle.syn_model.specs.Rows.{Spellings, ItemsOfOneNameHold, Floors, file_in, a_name}
use Rattle.syn_model.specs.Rows.{RefusedEditsHold}
use Rattle.syn_model.proofs.PathLemmas.{path_total}
use Rattle.syn_model.proofs.TreeLemmas.{subtree-root, within}
use Rattle.syn_model.proofs.DirtyLemmas.{same_tree_is, tree_itself}
use Rattle.syn_model.proofs.HistoryLemmas.{get-at_root, no_file, same_file}

-- trees with different roots differ
differ_at_root : (t u : Tree) → get t root ≢ get u root → is_same_tree t u ≡ false
differ_at_root t u h =
    false_from_ne_true (is_same_tree t u) (λ e. h (ap (λ w. get w root) (same_tree_is t u e)))

get-file : (f : Bytes) → get (file f) root ≡ Some (File (contents_of f))
get-file f = get-at_root (File (contents_of f)) root

get-directory : get empty_directory root ≡ Some Directory
get-directory = get-at_root Directory root

get-absent : get absent root ≡ None
get-absent = get-empty path_cmp root

files_differ : (f g : Bytes) → f ≢ g → is_same_tree (file f) (file g) ≡ false
files_differ f g h =
    differ_at_root (file f) (file g) (λ e. h (ap (λ c. c.bytes) (same_file (contents_of f)
    (contents_of g) (same_Some _ _ (sym (get-file f) ∙ (e ∙ get-file g))))))

file_differs : (f : Bytes) → is_same_tree (file f) absent ≡ false
file_differs f =
    differ_at_root (file f) absent (λ e. none-some _ (sym get-absent ∙ (sym e ∙ get-file f)))

absent_differs : (f : Bytes) → is_same_tree absent (file f) ≡ false
absent_differs f =
    differ_at_root absent (file f) (λ e. none-some _ (sym get-absent ∙ (e ∙ get-file f)))

directory_differs : (f : Bytes) → is_same_tree empty_directory (file f) ≡ false
directory_differs f =
    differ_at_root empty_directory (file f)
    (λ e. no_file (contents_of f) (same_Some _ _ (sym get-directory ∙ (e ∙ get-file f))))

directory_there : is_same_tree empty_directory absent ≡ false
directory_there =
    differ_at_root empty_directory absent
    (λ e. none-some _ (sym get-absent ∙ (sym e ∙ get-directory)))

file-no_directory : (f : Bytes) → is_directory (file f) root ≡ false
file-no_directory f = ap is_directory_content (get-file f)

directory-is : is_directory empty_directory root ≡ true
directory-is = ap is_directory_content get-directory

absent-no_directory : is_directory absent root ≡ false
absent-no_directory = ap is_directory_content get-absent

-- a directory with one file
get-file_in : (f : Bytes) → get (file_in f) (a_name ∷ []) ≡ Some (File (contents_of f))
get-file_in f = within empty_directory (a_name ∷ []) (file f) (a_name ∷ []) root refl ∙ get-file f

file_in-differs : (f g : Bytes) → f ≢ g → is_same_tree (file_in f) (file_in g) ≡ false
file_in-differs f g h =
    false_from_ne_true _
    (λ e. h (ap (λ c. c.bytes) (same_file (contents_of f) (contents_of g) (same_Some _ _
    (sym (get-file_in f) ∙ (ap (λ w. get w (a_name ∷ [])) (same_tree_is (file_in f) (file_in g) e)
    ∙ get-file_in g))))))

absent_differs_in : (f : Bytes) → is_same_tree absent (file_in f) ≡ false
absent_differs_in f =
    false_from_ne_true _ (λ e. none-some _ (sym (get-empty path_cmp (a_name ∷ []))
    ∙ (ap (λ w. get w (a_name ∷ [])) (same_tree_is absent (file_in f) e) ∙ get-file_in f)))

ruleset parts = (
  subtree-root,
  tree_itself,
  file_differs,
  absent_differs,
  directory_differs,
  directory_there,
  file-no_directory,
  directory-is,
  absent-no_directory,
)

pub items_of_one_name : ItemsOfOneNameHold
items_of_one_name f g h fg fh gh = record {
  same = simp parts;
  left_changed = simp (parts, files_differ g f (λ e. fg (sym e)));
  right_removed = simp parts;
  changed_alike = simp (parts, files_differ g f (λ e. fg (sym e)));
  both_removed = simp parts;
  both_changed =
      simp (
        parts,
        files_differ g f (λ e. fg (sym e)),
        files_differ h f (λ e. fh (sym e)),
        files_differ g h gh,
      );
  left_directory = simp parts;
  both_directory = simp parts;
  new_directory = simp parts;
  old_directory = simp parts;
  created = simp (parts, directory_there);
  removed = simp parts;
  removed_and_edited =
      simp (parts, file_in-differs g f (λ e. fg (sym e)), absent_differs_in g, absent_differs_in f);
}

pub floors : Floors
floors = record {
  three_of_two = refl;
  two_of_two = refl;
  with_session = refl;
  long = refl;
  touched = refl;
  quiet = refl;
}

pub refused_edits : RefusedEditsHold
refused_edits tree bytes has r a d z = record {
  below_file = simp a;
  onto_directory = simp (r, d);
  there_already = simp (r, a);
  not_there = simp (r, z);
  root_itself = refl;
}

no_length : (es : List Pair) → length es ≡ 0 → es ≡ []
no_length [] e = refl
no_length (x ∷ es) e = absurd (omega arith)

entries-absent : entries absent ≡ []
entries-absent = no_length (entries absent) (sym (len-entries absent) ∙ len-empty path_cmp Content)

pub entries-at_root : (x : Content) → entries (at_root x) ≡ (root, x) ∷ []
entries-at_root x = entries-insert path_total empty root x ∙ ap (put path_cmp root x) entries-absent

pub spellings : Spellings
unfolding spelling_within
spellings = record {
  nothing = rw get-absent;
  no_names = rw (get-directory, entries-at_root);
  hi = rw (get-file (104 ∷ 105 ∷ []));
  old = rw (get-file (104 ∷ 105 ∷ []));
}
