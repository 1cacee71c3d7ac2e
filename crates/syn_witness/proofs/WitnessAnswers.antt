-- What the requests and answers of the witness session owe, and the plan that it makes of them.
use Rattle.std.specs.Prelude.{Contains}
use Rattle.std.proofs.Common.{take, Some, None, ◌≡◌, ◌<◌, drop, length, refl, sym, ap, ◌∙◌, subst}
use Rattle.std.proofs.Common.{arith, [], Option}
use Rattle.std.proofs.lemmas.List.Elements.{All-nil, All-cons, All-from_recursion}
use Rattle.syn_model.specs.Path.{Path, root, IsName, IsPath}
use Rattle.syn_model.specs.Tree.{empty_directory, replace, subtree, IsTree}
use Rattle.syn_model.specs.Limits.{children}
use Rattle.syn_model.specs.Mark.{mark}
use Rattle.syn_model.specs.Event.{AreBytes, Edited}
use Rattle.syn_model.specs.Archive.{Recorded, CanKeep}
use Rattle.syn_model.specs.Dirty.{IsScanBy}
use Rattle.syn_model.specs.Spelling.{spelling}
use Rattle.syn_model.specs.History.{tree_of}
use Rattle.syn_model.proofs.TreeLemmas.{subtree-replace}
use Rattle.syn_model.proofs.HistoryLemmas.{event-is_tree, empty-is_tree}
use Rattle.syn_machine.specs.Side.{ListAt, Fetch, Replace, Listed, Piece, Done, NotDir, answer}
use Rattle.syn_machine.specs.Side.{serve}
use Rattle.syn_machine.specs.Network.{Which, Left, Right}
use Rattle.syn_machine.specs.Planning.{SeesBoth}
use Rattle.syn_machine.specs.Coordinator.{MakesPlan, WasTaken, BothBegun, fault_of, hearing}
use Rattle.syn_machine.specs.SideMachine.{has_room_for}
use Rattle.syn_witness.specs.Rows.{file_bytes}
use Rattle.syn_witness.specs.Witness.{a_path, one, put_one}
use Rattle.syn_witness.proofs.WitnessScans.{left_history, left_scan, right_scan}
use Rattle.syn_witness.proofs.WitnessScans.{right_marks-entries, left_marks-entries, left_part}
use Rattle.syn_witness.proofs.WitnessScans.{plan_is, right_history}
use Rattle.syn_witness.proofs.WitnessSteps.{took, machine_of}
use Rattle.syn_witness.proofs.WitnessTrees.{get_by, fits_archive_by, children_by}
use Rattle.syn_witness.proofs.WitnessFiles.{alone, with_file, alone-entries, root_only, root_alone}
use Rattle.syn_witness.proofs.WitnessFiles.{are_marks, put_first, one_digest, one_spelling}
use Rattle.syn_witness.proofs.WitnessFiles.{fits_with_one, with_mark-entries, a_is_path}
use Rattle.syn_witness.proofs.WitnessFiles.{marks_are_tree, edit_allowed}
use Rattle.syn_witness.proofs.WitnessPlan.{left_side, right_staged, right_done, transcript, planned}
use Rattle.syn_witness.proofs.WitnessPlan.{begun_archive, scans, listed_at, made, right_lists}

pub left_one : subtree (tree_of left_history) a_path ≡ one
unfolding tree_of
left_one =
    ap (λ t. subtree t a_path) put_first
    ∙ subtree-replace empty_directory a_path one

pub piece_is : answer left_side (Piece 8 file_bytes)
    ≡ serve 7 (has_room_for 7 (machine_of left_side)) None left_side 1 (Fetch a_path 2 0)
piece_is =
    ap (λ bytes. answer left_side (Piece (length bytes) (take 32768 (drop 0 bytes))))
    (sym (ap spelling left_one ∙ one_spelling))

pub done_is : answer right_done Done ≡ serve 7 (has_room_for 7 (machine_of right_staged))
    (Some one) right_staged 1 (Replace 0 a_path 1 8)
unfolding tree_of
done_is =
    rw (get_by empty_directory alone root alone-entries, fits_with_one, one_spelling) refl

pub root_lawful : IsPath root
root_lawful = record { names = All-nil IsName; not_deep = omega arith; not_long = omega arith }

-- what the listings show is within the limits
pub left_listing : fault_of (take 2 transcript) Left (ListAt root)
    (Listed 2 (children left_scan.marks root)) ≡ None
left_listing =
    ap (λ entries. fault_of (take 2 transcript) Left (ListAt root) (Listed 2 entries))
    (children_by left_scan.marks (with_file one_digest) left_marks-entries)

pub right_listing : fault_of (take 3 transcript) Right (ListAt root)
    (Listed 1 (children right_scan.marks root)) ≡ None
right_listing =
    ap (λ entries. fault_of (take 3 transcript) Right (ListAt root) (Listed 1 entries))
    (children_by right_scan.marks alone right_marks-entries)

pub two_begun : BothBegun (take 2 transcript)
two_begun Left = (7, 2, (0, (0, omega arith, refl)))
two_begun Right = (7, 1, (0, (1, omega arith, refl)))

pub can_record : CanKeep begun_archive (Recorded a_path (mark one))
can_record =
    record {
      lawful = (a_is_path, are_marks);
      not_refused =
          rw (
            get_by empty_directory alone root alone-entries,
            fits_archive_by
                (replace empty_directory a_path (mark one)) (with_file one_digest)
                with_mark-entries,
          ) refl;
    }

pub bytes_lawful : AreBytes file_bytes
bytes_lawful =
    All-from_recursion (λ byte. byte < 256) file_bytes (
      omega arith,
      (
        omega arith,
        (
          omega arith,
          (
            omega arith,
            (
              omega arith,
              (
                omega arith,
                (
                  omega arith,
                  (omega arith, tt),
                ),
              ),
            ),
          ),
        ),
      ),
    )

-- The plan is of what the sides listed
have_begun : BothBegun (take 4 transcript)
have_begun Left = (7, 2, (0, (0, omega arith, refl)))
have_begun Right = (7, 1, (0, (1, omega arith, refl)))

pub none_there : (path : Path) → ¬ Contains [] path
none_there path (k, less, e) = omega (arith, less)

left_tree : IsTree (tree_of left_history)
unfolding tree_of
left_tree = event-is_tree [] (Edited 1 put_one) empty-is_tree edit_allowed

right_tree : IsTree (tree_of right_history)
unfolding tree_of
right_tree = empty-is_tree

both_scanned : (side : Which) → IsScanBy (λ path position entries. WasTaken (take 4 transcript) side
    (ListAt path) (Listed position entries)) (λ path position. WasTaken (take 4 transcript) side
    (ListAt path) (NotDir position)) (scans side) (listed_at side)
both_scanned Left = record {
  tree = marks_are_tree (tree_of left_history) left_tree;
  fits = fits_archive_by left_scan.marks (with_file one_digest) left_marks-entries;
  listed =
      λ path there stable. subst (λ at. WasTaken (take 4 transcript) Left (ListAt at)
      (Listed 2 (children left_scan.marks at)))
      (sym (root_only left_scan.marks left_marks-entries path there))
      (1, (2, omega arith, refl));
  not_dir = λ path c. absurd (none_there path c);
  nothing_below = λ path c. absurd (none_there path c);
}
both_scanned Right = record {
  tree = marks_are_tree (tree_of right_history) right_tree;
  fits = fits_archive_by right_scan.marks alone right_marks-entries;
  listed =
      λ path there stable. subst (λ at. WasTaken (take 4 transcript) Right (ListAt at)
      (Listed 1 (children right_scan.marks at)))
      (sym (root_alone right_scan.marks right_marks-entries path there))
      (1, (3, omega arith, refl));
  not_dir = λ path c. absurd (none_there path c);
  nothing_below = λ path c. absurd (none_there path c);
}

sees : SeesBoth scans listed_at planned
sees Left = (sym left_part, refl)
sees Right = (refl, refl)

pub makes_plan : (preference : Option Which) → MakesPlan (hearing (right_lists preference)
    (took Right 1 (ListAt root) (Listed 1 (children right_scan.marks root)))) begun_archive
    (made preference)
makes_plan preference = record {
  of_session = refl;
  prefers = refl;
  archive_is = refl;
  begun = have_begun;
  scanned = both_scanned;
  items = sym (plan_is preference);
  seen = All-cons (SeesBoth scans listed_at) planned [] sees (All-nil (SeesBoth scans listed_at));
}
