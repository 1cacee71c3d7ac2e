-- The result that a plan has to leave at one path stays where what is there stays.
use Rattle.std.proofs.Common.{◌≡◌, true, ◌&&◌, ◌++◌, refl, sym, ap, ap₂, ◌∙◌, subst, Option}
use Rattle.std.proofs.Common.{option_map, Some, None, true≢false, append-nil, [], ◌∷◌, false}
use Rattle.std.proofs.Common.{if◌then◌else◌}
use Rattle.std.specs.FinMap.{get}
use Rattle.std.proofs.lemmas.Option.{none-some}
use Rattle.sha2.specs.Sha256.{sha256}
use Rattle.syn_model.specs.Path.{Path, Bytes, Name, child, root}
use Rattle.syn_model.specs.Contents.{Contents}
use Rattle.syn_model.specs.Tree.{Tree, Content, Directory, File, subtree}
use Rattle.syn_model.specs.Tree.{is_directory_content, HasParents, empty_directory, is_directory}
use Rattle.syn_model.specs.Tree.{replace}
use Rattle.syn_model.specs.Mark.{mark, mark_of, AreApart}
use Rattle.syn_model.specs.Dirty.{dirty}
use Rattle.syn_model.specs.Reconcile.{is_relevant, IsSyncedAt, IsReconciledAt, ConflictLeaves}
use Rattle.syn_model.specs.Decision.{MarkDir}
use Rattle.syn_model.specs.Plan.{Trees, after_item, scan_of, with_directory}
use Rattle.syn_model.proofs.TreeLemmas.{same_tree, get-subtree, subtree-replace}
use Rattle.syn_model.proofs.HistoryLemmas.{get-at_root}
use Rattle.syn_model.proofs.MarkLemmas.{get-mark, mark-subtree}
use Rattle.syn_model.proofs.DirectoryLemmas.{below_new_directory, moved-directory, root_content}
use Rattle.syn_model.proofs.CarryLemmas.{SameAt, same-deeper}
use Rattle.syn_model.specs.Which.{Which, Left, Right}
use Rattle.syn_model.proofs.ContentsLemmas.{same_contents}
use Rattle.std.specs.Prelude.{ℕ}

-- Marks of files that are apart

bytes_in : Option Content → Bytes
bytes_in None = []
bytes_in (Some Directory) = []
bytes_in (Some (File contents)) = contents.bytes

mode_in : Option Content → ℕ
mode_in None = 0
mode_in (Some Directory) = 0
mode_in (Some (File contents)) = contents.mode

unmarked : (x y : Option Content) → ((c d : Contents) → x ≡ Some (File c) → y ≡ Some (File d) →
    sha256 c.bytes ≡ sha256 d.bytes → c.bytes ≡ d.bytes) →
    option_map mark_of x ≡ option_map mark_of y → x ≡ y
unfolding bytes_in mode_in
unmarked None None h e = refl
unmarked None (Some d) h e = absurd (none-some _ e)
unmarked (Some c) None h e = absurd (none-some _ (sym e))
unmarked (Some Directory) (Some Directory) h e = refl
unmarked (Some Directory) (Some (File d)) h e = absurd (true≢false (ap is_directory_content e))
unmarked (Some (File c)) (Some Directory) h e =
    absurd (true≢false (sym (ap is_directory_content e)))
unmarked (Some (File c)) (Some (File d)) h e =
    ap (λ z. Some (File z))
    (same_contents c d (ap mode_in e) (h c d refl refl (ap bytes_in e)))

-- parts with one mark are one
pub same_by_mark : (a b : Tree) → AreApart a b → (p : Path) →
    subtree (mark a) p ≡ subtree (mark b) p → subtree a p ≡ subtree b p
same_by_mark a b apart p e = same_tree (subtree a p) (subtree b p) (λ q.
    let at = p ++ q in
    let marks : get (mark a) at ≡ get (mark b) at = sym (get-subtree (mark a) p q)
    ∙ (ap (λ w. get w q) e ∙ get-subtree (mark b) p q) in
    get-subtree a p q ∙ (unmarked (get a at) (get b at) (apart at)
    (sym (get-mark a at) ∙ (marks ∙ get-mark b at)) ∙ sym (get-subtree b p q)))

-- The result at one path

-- the sides where files are apart, and the archive in any case
pub record Result (preference : Option Which) (a b o : Tree) (s : Trees) (path : Path) : Type 0
  where
    pub sides : AreApart a b →
        IsSyncedAt preference a b (dirty (scan_of a) o) (dirty (scan_of b) o) s.left s.right path
    pub marks : IsReconciledAt preference a b (dirty (scan_of a) o)
        (dirty (scan_of b) o) s.left s.right o s.archive path

pub moved-mark : (t u : Tree) (p : Path) → subtree t p ≡ subtree u p →
    subtree (mark t) p ≡ subtree (mark u) p
moved-mark t u p e = sym (mark-subtree t p) ∙ (ap mark e ∙ mark-subtree u p)

moved_conflict : (preference : Option Which) (a b : Tree) (s' s : Trees) (p : Path) →
    SameAt s' s p → ConflictLeaves preference a b s.left s.right p →
    ConflictLeaves preference a b s'.left s'.right p
moved_conflict None a b s' s p h c = (h.left ∙ c.0, h.right ∙ c.1)
moved_conflict (Some Left) a b s' s p h c =
    record { left_has = h.left ∙ c.left_has; right_has = h.right ∙ c.right_has }
moved_conflict (Some Right) a b s' s p h c =
    record { left_has = h.left ∙ c.left_has; right_has = h.right ∙ c.right_has }

-- where both sides had one part at a path and still have it, this is what any preference leaves
pub equal_parts : (preference : Option Which) (a b c d : Tree) (p : Path) →
    subtree a p ≡ subtree b p → subtree c p ≡ subtree a p → subtree d p ≡ subtree b p →
    ConflictLeaves preference a b c d p
equal_parts None a b c d p same on_left on_right = (on_left, on_right)
equal_parts (Some Left) a b c d p same on_left on_right =
    record { left_has = on_left; right_has = on_right ∙ sym same }
equal_parts (Some Right) a b c d p same on_left on_right =
    record { left_has = on_left ∙ same; right_has = on_right }

-- a result at a path stays where what is there stays
moved-result : (preference : Option Which) (a b o : Tree) (s' s : Trees) (p : Path) →
    SameAt s' s p → Result preference a b o s p → Result preference a b o s' p
moved-result preference a b o s' s p h r = record {
  sides = λ apart.
      let was = r.sides apart in
      record {
        left_clean =
            λ x. record {
              left_has = h.left ∙ (was.left_clean x).left_has;
              right_has = h.right
                  ∙ (was.left_clean x).right_has;
            };
        right_clean =
            λ x. record {
              left_has = h.left ∙ (was.right_clean x).left_has;
              right_has = h.right
                  ∙ (was.right_clean x).right_has;
            };
        directory =
            λ z. ap₂ (λ u v. u && v) (moved-directory s'.left s.left p h.left)
            (moved-directory s'.right s.right p h.right) ∙ was.directory z;
        conflict = λ x y z. moved_conflict preference a b s' s p h (was.conflict x y z);
      };
  marks = record {
    settled = λ e. record {
      left_has =
          moved-mark s'.left s.left p h.left ∙ ((r.marks.settled e).left_has ∙ sym h.archive);
      right_has =
          moved-mark s'.right s.right p h.right ∙ ((r.marks.settled e).right_has ∙ sym h.archive);
    };
    directory = λ z. moved-directory s'.archive s.archive p h.archive ∙ r.marks.directory z;
    conflict = λ e z. h.archive ∙ r.marks.conflict e z;
  };
}

abbrev pub start : Tree → Tree → Tree → Trees
start a b o = record { left = a; right = b; archive = o }

module _ (a b o : Tree) where
  -- where the archive has no directory it has nothing below either, as after the directory is
  -- recorded
  pub recorded_directory : HasParents o → (s : Trees) (p : Path) (n : Name) →
      SameAt s (start a b o) p → is_directory o p ≡ false →
      SameAt (after_item s (MarkDir p)) (start a b o) (child p n)
  recorded_directory archive_parents s p n h none =
      let is : is_directory s.archive p ≡ false = moved-directory s.archive o p h.archive ∙ none in
      let deeper = same-deeper s (start a b o) p (n ∷ []) h in
      record {
        left = deeper.left;
        right = deeper.right;
        archive =
            ap (λ w. subtree (if w then s.archive else replace s.archive p empty_directory)
            (child p n)) is ∙ below_new_directory s.archive o p n [] archive_parents none;
      }

  pub recorded_here : (s : Trees) (p : Path) → SameAt s (start a b o) p → is_directory o p ≡ false →
      get (with_directory s.archive p) p ≡ Some Directory
  recorded_here s p h none =
      ap (λ w. get (if w then s.archive else replace s.archive p empty_directory) p)
      (moved-directory s.archive o p h.archive ∙ none)
      ∙ (sym (root_content (replace s.archive p empty_directory) p) ∙ (ap (λ w. get w root)
      (subtree-replace s.archive p empty_directory) ∙ get-at_root Directory root))

module _ (preference : Option Which) (a b o : Tree) where
  -- each relevant path at or below this one has its result
  abbrev pub Good : Trees → Path → Type 0
  Good s p = (q : Path) → is_relevant a b (p ++ q) ≡ true → Result preference a b o s (p ++ q)

  pub moved-good : (s' s : Trees) (p : Path) → SameAt s' s p → Good s p → Good s' p
  moved-good s' s p h g q r = moved-result preference a b o s' s (p ++ q) (same-deeper s' s p q h)
      (g q r)

  pub good-here : (s : Trees) (p : Path) → Good s p → is_relevant a b p ≡ true → Result preference a
      b o s p
  good-here s p g r =
      subst (Result preference a b o s) (append-nil p) (g [] (ap (is_relevant a b) (append-nil p) ∙
      r))
