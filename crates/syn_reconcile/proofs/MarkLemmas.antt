-- What a record leaves of an archive's marks.
use Rattle.std.proofs.Common.{◌≡◌, ◌∙◌, Bool, ℕ, List, true, false, ap, cond, inl, inr}
use Rattle.std.proofs.Common.{option_map}
use Rattle.std.proofs.Common.{refl, subst, sym}
use Rattle.syn_archive.proofs.MeaningLemmas.{keeps_stands}
use Rattle.syn_archive.proofs.StandLemmas.{keeps_now, not_written}
use Rattle.syn_archive.specs.Archive.{KeepsBeforeOrAfter, KeepsOrCompacts, Stands, disk_of}
use Rattle.syn_archive.specs.Archive.{marks_shown, pair_of}
use Rattle.syn_archive.specs.declared.archive.Archive.{Archive}
use Rattle.syn_disk.proofs.LeftLemmas.{leaves_weaker}
use Rattle.syn_disk.specs.Stops.{LeavesOnly}
use Rattle.syn_disk.specs.declared.disk.Disk.{Ghosts}
use Rattle.syn_journal.proofs.Moments.{in_turn}
use Rattle.syn_model.specs.Archive as model
use Rattle.syn_model.specs.Archive.{Kept, Recorded, RecordedDir, after_kept}
use Rattle.syn_model.specs.Mark.{mark, mark_of}
use Rattle.syn_model.specs.Path.{Path, path_cmp}
use Rattle.std.specs.FinMap.{get-empty}
use Rattle.syn_model.specs.Plan.{with_directory}
use Rattle.syn_model.specs.Tree.{Tree, absent, empty_directory, is_directory, replace}
use Rattle.syn_model.proofs.MarkLemmas.{get-mark}
use Rattle.syn_model.proofs.TreeLemmas.{same_tree}
use Rattle.syn_reconcile.specs.Settlings.{KeepsMarks}
use Rattle.syn_reconcile.specs.Stops.{HasEitherMarks}

marks_by : (b : Bool) (kept : model.Archive) (marks : Tree)
    → (cond b kept (record kept { marks = marks })).marks ≡ cond b kept.marks marks
marks_by true kept marks = refl
marks_by false kept marks = refl

pub dir_marks : (kept : model.Archive) (path : Path)
    → (after_kept kept (RecordedDir path)).marks ≡ with_directory kept.marks path
dir_marks kept path =
    marks_by (is_directory kept.marks path) kept (replace kept.marks path empty_directory)

module _ {A : Type 0} {disk : Ghosts A} where
  -- what a stop leaves from the one to the other
  abbrev pub Leaves : Archive A disk → Archive A disk → (List ℕ → Type 0) → Type 0
  Leaves old new P = LeavesOnly disk.moment disk.left_since (disk_of old) (disk_of new) P

  pub was : (old : Archive A disk) (kept : model.Archive) → Stands old kept
      → kept.marks ≡ marks_shown old
  was old kept stood = ap (λ (a : model.Archive). a.marks) (sym stood.remembers)

  -- it keeps what it shows
  pub keeps_shown : (now : Archive A disk) (kept : model.Archive) (marks : Tree)
      → kept.marks ≡ marks → Stands now kept → KeepsMarks marks now
  keeps_shown now kept marks are stands = record {
    kept = kept;
    keeps = stands;
    are = sym (was now kept stands) ∙ are;
  }

  pub recorded : (old new : Archive A disk) (kept : model.Archive) (path : Path) (marks : Tree)
      → Stands old kept → Stands new (after_kept kept (Recorded path marks))
      → KeepsMarks (replace (marks_shown old) path marks) new
  recorded old new kept path marks stood stands =
      keeps_shown new (after_kept kept (Recorded path marks)) (replace (marks_shown old) path marks)
      (ap (λ (m : Tree). replace m path marks) (was old kept stood)) stands

  pub recorded_dir : (old new : Archive A disk) (kept : model.Archive) (path : Path)
      → Stands old kept → Stands new (after_kept kept (RecordedDir path))
      → KeepsMarks (with_directory (marks_shown old) path) new
  recorded_dir old new kept path stood stands =
      keeps_shown new (after_kept kept (RecordedDir path)) (with_directory (marks_shown old) path)
      (dir_marks kept path ∙ ap (λ (m : Tree). with_directory m path) (was old kept stood)) stands

  -- nothing is written
  pub still : (only_now : (d : A) (c : List ℕ) → disk.left_since d (disk.moment d) c
      → disk.may_leave d c) (now : Archive A disk) (kept : model.Archive) (after : Tree)
      → Stands now kept → Leaves now now (HasEitherMarks (pair_of now) (marks_shown now) after)
  still only_now now kept after stands =
      not_written only_now now kept stands (HasEitherMarks (pair_of now) (marks_shown now) after)
      (inl (record {
        kept = kept;
        stands = keeps_stands (keeps_now now kept stands);
        are = was now kept stands;
      }))

  -- a checkpoint leaves the marks
  compacts : (old : Archive A disk) (kept : model.Archive) (after : Tree) (bytes : List ℕ)
      → Stands old kept → KeepsOrCompacts old kept bytes
      → HasEitherMarks (pair_of old) (marks_shown old) after bytes
  compacts old kept after bytes stood (inl keeps) =
      inl (record { kept = kept; stands = keeps_stands keeps; are = was old kept stood })
  compacts old kept after bytes stood (inr image) =
      inl (record {
        kept = kept;
        stands = record { value = _; means = image.journal.means; stands = image.stands };
        are = was old kept stood;
      })

  pub compacted : (old new : Archive A disk) (kept : model.Archive) (after : Tree)
      → Stands old kept → Leaves old new (KeepsOrCompacts old kept)
      → Leaves old new (HasEitherMarks (pair_of old) (marks_shown old) after)
  compacted old new kept after stood leaves =
      leaves_weaker disk.moment disk.left_since (disk_of old) (disk_of new)
      (KeepsOrCompacts old kept) (HasEitherMarks (pair_of old) (marks_shown old) after)
      (λ bytes. compacts old kept after bytes stood) leaves

  -- of what is kept a stop leaves the marks without it or with it
  keeps : (old : Archive A disk) (kept : model.Archive) (what : Kept) (after : Tree)
      (bytes : List ℕ) → Stands old kept → (after_kept kept what).marks ≡ after
      → KeepsBeforeOrAfter old kept what bytes
      → HasEitherMarks (pair_of old) (marks_shown old) after bytes
  keeps old kept what after bytes stood are (inl before) =
      inl (record { kept = kept; stands = keeps_stands before; are = was old kept stood })
  keeps old kept what after bytes stood are (inr kept_then) =
      inr (record { kept = after_kept kept what; stands = keeps_stands kept_then; are = are })

  -- the same marks in other words
  pub with_marks : (old new : Archive A disk) (path : Path) (marks same : Tree) → marks ≡ same
      → Leaves old new (HasEitherMarks (pair_of old) (marks_shown old)
      (replace (marks_shown old) path marks))
      → Leaves old new (HasEitherMarks (pair_of old) (marks_shown old)
      (replace (marks_shown old) path same))
  with_marks old new path marks same are leaves =
      subst (λ (m : Tree). Leaves old new (HasEitherMarks (pair_of old) (marks_shown old)
      (replace (marks_shown old) path m))) are leaves

  pub keeps_with : (old new : Archive A disk) (path : Path) (marks same : Tree) → marks ≡ same
      → KeepsMarks (replace (marks_shown old) path marks) new
      → KeepsMarks (replace (marks_shown old) path same) new
  keeps_with old new path marks same are keeps =
      subst (λ (m : Tree). KeepsMarks (replace (marks_shown old) path m) new) are keeps

  -- room is made, and then it is kept
  pub kept_in_turn : (old mid new : Archive A disk) (kept : model.Archive) (what : Kept)
      (after : Tree) → Stands old kept → Stands mid kept → pair_of mid ≡ pair_of old
      → (after_kept kept what).marks ≡ after
      → ((any : Tree) → Leaves old mid (HasEitherMarks (pair_of old) (marks_shown old) any))
      → Leaves mid new (KeepsBeforeOrAfter mid kept what)
      → Leaves old new (HasEitherMarks (pair_of old) (marks_shown old) after)
  kept_in_turn old mid new kept what after stood stands pair are room leaves =
      let P = HasEitherMarks (pair_of old) (marks_shown old) after in
      let same : marks_shown mid ≡ marks_shown old =
      sym (was mid kept stands) ∙ was old kept stood in
      in_turn disk.moment disk.left_since (disk_of old) (disk_of mid) (disk_of new) P (room after)
      (leaves_weaker disk.moment disk.left_since (disk_of mid) (disk_of new)
      (KeepsBeforeOrAfter mid kept what) P
      (λ bytes left. subst (λ (m : Tree). HasEitherMarks (pair_of old) m after bytes) same
      (subst (λ n. HasEitherMarks n (marks_shown mid) after bytes) pair
      (keeps mid kept what after bytes stands are left))) leaves)

-- nothing has no marks
pub mark_absent : mark absent ≡ absent
mark_absent =
    same_tree (mark absent) absent
    (λ q. get-mark absent q ∙ (ap (option_map mark_of) (get-empty path_cmp q) ∙ sym (get-empty
    path_cmp q)))
