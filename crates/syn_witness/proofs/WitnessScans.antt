-- What the scans of the witness session find, and its plan.
use Rattle.std.specs.FinMap.{entries, empty, from_entries, keys, put, entries-insert, len-entries}
use Rattle.std.specs.FinMap.{len-empty, same_entries_map}
use Rattle.std.proofs.Common.{◌≡◌, ℕ, suc, true, false, List, [], ◌∷◌, ◌++◌, map, flat_map, length}
use Rattle.std.proofs.Common.{refl, sym, ap, ap₂, ◌∙◌, arith, Option}
use Rattle.syn_model.specs.Path.{Path, Name, root, child, name_cmp}
use Rattle.syn_model.specs.Tree.{Content, empty_directory, subtree, is_directory}
use Rattle.syn_model.specs.Event.{Edited, Began}
use Rattle.syn_model.specs.History.{History, tree_of}
use Rattle.syn_model.specs.Mark.{mark}
use Rattle.syn_model.specs.Dirty.{Scan, is_same_tree}
use Rattle.syn_model.specs.Decision.{Item, Do, GoOn, ToRight, decision}
use Rattle.syn_model.specs.Plan.{items_from, names_below, with_items_below, plan as items_of}
use Rattle.syn_model.specs.Rows.{a_name}
use Rattle.syn_model.proofs.PathLemmas.{name_total}
use Rattle.syn_machine.specs.Network.{Which}
use Rattle.syn_witness.specs.Witness.{a_path, put_one, one}
use Rattle.syn_witness.proofs.WitnessTrees.{mark-entries, same_by, part-entries, directory_by}
use Rattle.syn_witness.proofs.WitnessTrees.{children_by}
use Rattle.syn_witness.proofs.WitnessFiles.{alone, with_file, alone-entries, put_first, one_content}
use Rattle.syn_witness.proofs.WitnessFiles.{one_digest, with_one-entries, one_mark-entries}

-- what each side has as it is listed
abbrev pub left_history : History
left_history = Edited 1 put_one ∷ Began 1 ∷ []

abbrev pub right_history : History
right_history = Began 1 ∷ []

pub left-entries : entries (tree_of left_history) ≡ with_file one_content
unfolding tree_of
left-entries =
    ap entries put_first ∙ with_one-entries

pub right-entries : entries (tree_of right_history) ≡ alone
unfolding tree_of
right-entries = alone-entries

pub left_marks-entries : entries (mark (tree_of left_history)) ≡ with_file one_digest
left_marks-entries = mark-entries (tree_of left_history) (with_file one_content) left-entries

pub right_marks-entries : entries (mark (tree_of right_history)) ≡ alone
right_marks-entries = mark-entries (tree_of right_history) alone right-entries

pub left_root : is_directory (tree_of left_history) root ≡ true
left_root = directory_by (tree_of left_history) (with_file one_content) root left-entries

pub right_root : is_directory (tree_of right_history) root ≡ true
right_root = directory_by (tree_of right_history) alone root right-entries

-- The plan
abbrev pub left_scan : Scan
left_scan = record { marks = mark (tree_of left_history); unstable = [] }

abbrev pub right_scan : Scan
right_scan = record { marks = mark (tree_of right_history); unstable = [] }

pub left_part : subtree (mark (tree_of left_history)) a_path ≡ mark one
left_part =
    same_entries_map _ _ (part-entries (mark (tree_of left_history))
    (with_file one_digest) a_path left_marks-entries ∙ sym (one_mark-entries))

-- at the root both differ from a new archive or not, and the plan goes on
left_root_differs :
    is_same_tree (subtree left_scan.marks root) (subtree empty_directory root) ≡ false
left_root_differs =
    same_by _ _ (with_file one_digest) alone
    (part-entries _ (with_file one_digest) root left_marks-entries)
    (part-entries _ alone root alone-entries)

goes_on_at_root : (preference : Option Which) →
    decision preference left_scan right_scan empty_directory root ≡ GoOn
goes_on_at_root preference = rw (
  left_root_differs,
  directory_by left_scan.marks (with_file one_digest) root left_marks-entries,
  directory_by right_scan.marks alone root right_marks-entries,
  directory_by empty_directory alone root alone-entries,
) refl

left_differs : is_same_tree (subtree left_scan.marks a_path) (subtree empty_directory a_path)
    ≡ false
left_differs =
    same_by _ _ ((root, one_digest) ∷ [])
    [] (part-entries _ (with_file one_digest) a_path left_marks-entries)
    (part-entries _ alone a_path alone-entries)

right_same : is_same_tree (subtree right_scan.marks a_path) (subtree empty_directory a_path) ≡ true
right_same =
    same_by _ _ [] [] (part-entries _ alone a_path right_marks-entries)
    (part-entries _ alone a_path alone-entries)

sides_differ : is_same_tree (subtree left_scan.marks a_path) (subtree right_scan.marks a_path)
    ≡ false
sides_differ =
    same_by _ _ ((root, one_digest) ∷ [])
    [] (part-entries _ (with_file one_digest) a_path left_marks-entries)
    (part-entries _ alone a_path right_marks-entries)

carries_to_right : (preference : Option Which) →
    decision preference left_scan right_scan empty_directory a_path ≡ Do (ToRight a_path)
carries_to_right preference =
    rw (
      left_differs,
      right_same,
      sides_differ,
      directory_by left_scan.marks (with_file one_digest) a_path left_marks-entries,
    ) refl

no_entries : (es : List (Name × Content)) → length es ≡ 0 → es ≡ []
no_entries [] e = refl
no_entries (x ∷ es) e = absurd (omega arith)

abbrev pub names_of : List (Name × Content) → List Name
names_of es = keys (from_entries {X = Content} {R = name_cmp} es)

pub no_names : entries (empty {X = Content} {R = name_cmp}) ≡ []
no_names =
    no_entries (entries (empty {X = Content} {R = name_cmp}))
    (sym (len-entries (empty {X = Content} {R = name_cmp})) ∙ len-empty name_cmp Content)

pub one_name_of : (content : Content) → names_of ((a_name, content) ∷ []) ≡ a_name ∷ []
one_name_of content =
    ap (map (λ e. e.0))
    (entries-insert name_total empty a_name content ∙ ap (put name_cmp a_name content) no_names)

one_name : names_below left_scan right_scan empty_directory root ≡ a_name ∷ []
one_name =
    ap names_of (ap₂ (λ xs ys. xs ++ ys)
    (children_by left_scan.marks (with_file one_digest) left_marks-entries)
    (ap₂ (λ xs ys. xs ++ ys) (children_by right_scan.marks alone right_marks-entries)
    (children_by empty_directory alone alone-entries)))
    ∙ one_name_of one_digest

abbrev names_at : Path → List Name
names_at path = names_below left_scan right_scan empty_directory path

abbrev items_at : Option Which → ℕ → Path → List Item
items_at preference levels path =
    items_from (decision preference left_scan right_scan empty_directory) names_at levels path

from_root : (preference : Option Which) (levels : ℕ) →
    items_at preference (suc (suc levels)) root ≡ ToRight a_path ∷ []
from_root preference levels =
    let items = items_at preference in
    ap (λ o. with_items_below o
    (flat_map (λ name. items (suc levels) (child root name)) (names_at root)))
    (goes_on_at_root preference)
    ∙ (ap (flat_map (λ name. items (suc levels) (child root name))) one_name
    ∙ ap (λ o. with_items_below o (flat_map (λ name. items levels (child a_path name))
    (names_at a_path)) ++ []) (carries_to_right preference))

pub plan_is : (preference : Option Which) →
    items_of preference left_scan right_scan empty_directory ≡ ToRight a_path ∷ []
plan_is preference = from_root preference 15
