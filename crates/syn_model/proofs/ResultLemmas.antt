-- What carrying out a plan gives, path by path.
use Rattle.std.proofs.Common.{◌≡◌, true, ◌&&◌, ◌++◌, refl, sym, ap, ap₂, ◌∙◌, subst, option_map}
use Rattle.std.proofs.Common.{Some, true≢false, append-nil, ℕ, zero, suc, Bool, false, not, Option}
use Rattle.std.proofs.Common.{◌||◌, List, ◌∷◌, append_assoc, [], None, is_some}
use Rattle.std.specs.FinMap.{get}
use Rattle.syn_model.specs.Path.{Path, Name, name_cmp, root, child, strip_prefix}
use Rattle.syn_model.specs.Tree.{Tree, Directory, subtree, is_directory_content, HasParents}
use Rattle.syn_model.specs.Tree.{is_directory}
use Rattle.syn_model.specs.Mark.{mark, mark_of, AreApart}
use Rattle.syn_model.specs.Dirty.{is_same_tree}
use Rattle.syn_model.specs.Reconcile.{is_relevant, IsSyncedAt, IsReconciledAt, is_directory_in_both}
use Rattle.syn_model.specs.Reconcile.{is_alike, is_resolved, ConflictLeaves}
use Rattle.syn_model.specs.Plan.{Trees, scan_of, names_below, with_items_below, items_from}
use Rattle.syn_model.specs.Plan.{most_names, after_item, carried_out, CanBePlanned, after_plan}
use Rattle.syn_model.specs.Plan.{PlanSynchronizes, PlanReconciles}
use Rattle.syn_model.proofs.TreeLemmas.{subtree-replace, subtree-append}
use Rattle.syn_model.proofs.MarkLemmas.{get-mark, mark-subtree}
use Rattle.syn_model.proofs.DirectoryLemmas.{moved-directory, same_content_at, from_names}
use Rattle.syn_model.proofs.DirectoryLemmas.{not_there, absent_below, mark_none}
use Rattle.syn_model.proofs.CarryLemmas.{SameAt, same-deeper, SameContent, same_itself, same-then}
use Rattle.syn_model.proofs.CarryLemmas.{untouched, beside_items}
use Rattle.syn_model.proofs.PlanOrder.{below, decision-fits, items-at, siblings}
use Rattle.syn_model.proofs.PlanOrder.{every-weaker, items-below, name_alike}
use native.Mathlib.Omega.{arith}
use Rattle.std.specs.Ordering.{eq_by_cmp}
use Rattle.std.specs.List.{list_any}
use Rattle.std.proofs.lemmas.Bool.{false_from_ne_true, and_parts, or_parts, or_right}
use Rattle.std.proofs.lemmas.List.Sums.{fold-append}
use Rattle.syn_model.specs.Decision.{Item, ToLeft, ToRight, MarkSame, MarkDir, Decision, decision}
use Rattle.syn_model.specs.Decision.{path_of, contested}
use Rattle.syn_model.proofs.PathLemmas.{name_itself, same_name, prefix-append}
use Rattle.syn_model.proofs.DirtyLemmas.{same_tree_is, tree_itself, dirty-closed, dirty-safe}
use Rattle.syn_model.proofs.SyncLemmas.{directory_is, child_relevant}
use Rattle.syn_model.proofs.QuietLemmas.{directory_of_mark}
use Rattle.syn_model.proofs.DecisionLemmas.{left_dirty, right_dirty, by_decision, clean_below}
use Rattle.syn_model.proofs.DecisionLemmas.{clean_nothing, nothing_relevant, IsShallow}
use Rattle.syn_model.proofs.DecisionLemmas.{shallow_below}
use Rattle.syn_model.proofs.PlanNames.{Apart, names_apart}
use Rattle.syn_model.proofs.PlaceLemmas.{same_by_mark, Result, moved-mark, start, Good, moved-good}
use Rattle.syn_model.proofs.PlaceLemmas.{equal_parts, good-here, recorded_directory, recorded_here}
use Rattle.syn_model.specs.Which.{Which, Left, Right}
use Rattle.syn_model.proofs.BaseLemmas.{none_of}

-- A plan from a path on, where both sides and the archive are still as they were
module _ (preference : Option Which) (a b o : Tree) (left_parents : HasParents a)
    (right_parents : HasParents b) (archive_parents : HasParents o) where
  clean_here : (s : Trees) (p : Path) → SameAt s (start a b o) p → left_dirty a b o p ≡ false →
      right_dirty a b o p ≡ false → Result preference a b o s p
  clean_here s p h x y =
      let left_mark : subtree (mark a) p ≡ subtree o p = dirty-safe (scan_of a) o p x in
      let right_mark : subtree (mark b) p ≡ subtree o p = dirty-safe (scan_of b) o p y in
      let same : AreApart a b → subtree a p ≡ subtree b p =
      λ apart. same_by_mark a b apart p (left_mark ∙ sym right_mark) in
      record {
        sides = λ apart. record {
          left_clean = λ _. record { left_has = h.left ∙ same apart; right_has = h.right };
          right_clean = λ _. record { left_has = h.left; right_has = h.right ∙ sym (same apart) };
          directory =
              λ z. ap₂ (λ u v. u && v) (moved-directory s.left a p h.left)
              (moved-directory s.right b p h.right) ∙ z;
          conflict = λ e _ _. absurd (true≢false (sym e ∙ x));
        };
        marks = record {
          settled = λ _. record {
            left_has = moved-mark s.left a p h.left ∙ (left_mark ∙ sym h.archive);
            right_has = moved-mark s.right b p h.right ∙ (right_mark ∙ sym h.archive);
          };
          directory =
              λ z. moved-directory s.archive o p h.archive
              ∙ (moved-directory o (mark a) p (sym left_mark)
              ∙ (directory_of_mark a p ∙ (and_parts (is_directory a p) (is_directory b p) z).0));
          conflict = λ _ _. h.archive;
        };
      }

  good_clean : (s : Trees) (p : Path) → SameAt s (start a b o) p → left_dirty a b o p ≡ false →
      right_dirty a b o p ≡ false → Good preference a b o s p
  good_clean s p h x y q _ =
      clean_here s (p ++ q) (same-deeper s (start a b o) p q h) (clean_below o a p q x)
      (clean_below o b p q y)

  only_here : (s : Trees) (p : Path) → is_directory_in_both a b p ≡ false →
      Result preference a b o s p → Good preference a b o s p
  only_here s p z r [] _ = subst (Result preference a b o s) (sym (append-nil p)) r
  only_here s p z r (n ∷ q) relevant =
      absurd (nothing_relevant a b left_parents right_parents p n q z relevant)

  -- both sides have one part
  one_part : (s : Trees) (p : Path) (part : Tree) → subtree s.left p ≡ part →
      subtree s.right p ≡ part → is_directory_in_both a b p ≡ false →
      (left_dirty a b o p ≡ false → part ≡ subtree b p) →
      (right_dirty a b o p ≡ false → part ≡ subtree a p) → (left_dirty a b o p ≡ true →
      right_dirty a b o p ≡ true → ConflictLeaves preference a b s.left s.right p) →
      IsSyncedAt preference a b (left_dirty a b o) (right_dirty a b o) s.left s.right p
  one_part s p part left_has right_has z on_left on_right on_both = record {
    left_clean = λ x. record { left_has = left_has ∙ on_left x; right_has = right_has ∙ on_left x };
    right_clean =
        λ y. record { left_has = left_has ∙ on_right y; right_has = right_has ∙ on_right y };
    directory = λ e. absurd (true≢false (sym e ∙ z));
    conflict = λ x y _. on_both x y;
  }

  -- and the archive has the mark of both
  one_mark : (s : Trees) (p : Path) → mark (subtree s.left p) ≡ subtree s.archive p →
      mark (subtree s.right p) ≡ subtree s.archive p → is_directory_in_both a b p ≡ false →
      is_resolved preference a b (left_dirty a b o) (right_dirty a b o) p ≡ true →
      IsReconciledAt preference a b (left_dirty a b o) (right_dirty a b o) s.left s.right o
      s.archive p
  one_mark s p left_has right_has z settled = record {
    settled =
        λ _. record {
          left_has = sym (mark-subtree s.left p) ∙ left_has;
          right_has = sym (mark-subtree s.right p) ∙ right_has;
        };
    directory = λ e. absurd (true≢false (sym e ∙ z));
    conflict = λ e _. absurd (true≢false (sym settled ∙ e));
  }

  settled_where : (p : Path) (x y v : Bool) → left_dirty a b o p ≡ x → right_dirty a b o p ≡ y →
      is_alike a b p ≡ v → (not (x && y) || v) ≡ true →
      is_resolved preference a b (left_dirty a b o) (right_dirty a b o) p ≡ true
  settled_where p x y v ex ey ev e =
      or_right (is_some preference) _
      (ap₂ (λ u w. u || w) (ap₂ (λ u w. not (u && w)) ex ey) ev ∙ e)

  to_right : (s : Trees) (p : Path) → SameAt s (start a b o) p →
      is_directory_in_both a b p ≡ false → left_dirty a b o p ≡ true → right_dirty a b o p ≡ false →
      Result preference a b o (after_item s (ToRight p)) p
  to_right s p h z x y =
      let put = subtree-replace s.right p (subtree s.left p) in
      let recorded = sym (subtree-replace s.archive p (mark (subtree s.left p))) in
      record {
        sides =
            λ _. one_part (after_item s (ToRight p)) p (subtree a p) h.left (put ∙ h.left) z
            (λ e. absurd (true≢false (sym x ∙ e))) (λ _. refl)
            (λ _ e. absurd (true≢false (sym e ∙ y)));
        marks =
            one_mark (after_item s (ToRight p)) p recorded (ap mark put ∙ recorded) z
            (settled_where p true false (is_alike a b p) x y refl refl);
      }

  to_left : (s : Trees) (p : Path) → SameAt s (start a b o) p → is_directory_in_both a b p ≡ false →
      left_dirty a b o p ≡ false → right_dirty a b o p ≡ true →
      Result preference a b o (after_item s (ToLeft p)) p
  to_left s p h z x y =
      let put = subtree-replace s.left p (subtree s.right p) in
      let recorded = sym (subtree-replace s.archive p (mark (subtree s.right p))) in
      record {
        sides =
            λ _. one_part (after_item s (ToLeft p)) p (subtree b p) (put ∙ h.right) h.right z
            (λ _. refl) (λ e. absurd (true≢false (sym y ∙ e)))
            (λ e _. absurd (true≢false (sym e ∙ x)));
        marks =
            one_mark (after_item s (ToLeft p)) p (ap mark put ∙ recorded) recorded z
            (settled_where p false true (is_alike a b p) x y refl refl);
      }

  mark_same : (s : Trees) (p : Path) → SameAt s (start a b o) p →
      is_directory_in_both a b p ≡ false → is_alike a b p ≡ true →
      Result preference a b o (after_item s (MarkSame p)) p
  mark_same s p h z v =
      let alike : subtree (mark a) p ≡ subtree (mark b) p =
      same_tree_is (subtree (mark a) p) (subtree (mark b) p) v in
      let same : AreApart a b → subtree a p ≡ subtree b p =
      λ apart. same_by_mark a b apart p alike in
      let recorded = sym (subtree-replace s.archive p (mark (subtree s.left p))) in
      record {
        sides =
            λ apart. one_part (after_item s (MarkSame p)) p (subtree a p) h.left (h.right
            ∙ sym (same apart)) z (λ _. same apart) (λ _. refl)
            (λ _ _. equal_parts preference a b s.left
            s.right p (same apart) h.left h.right);
        marks =
            one_mark (after_item s (MarkSame p)) p recorded (ap mark h.right ∙ (mark-subtree b p
            ∙ (sym alike ∙ (sym (mark-subtree a p) ∙ (ap mark (sym h.left) ∙ recorded))))) z
            (or_right (is_some preference) _
            (ap (λ w. not (left_dirty a b o p && right_dirty a b o p) || w) v
            ∙ or_right (not (left_dirty a b o p && right_dirty a b o p)) true refl));
      }

  conflict : preference ≡ None → (s : Trees) (p : Path) → SameAt s (start a b o) p →
      is_directory_in_both a b p ≡ false → is_alike a b p ≡ false → left_dirty a b o p ≡ true →
      right_dirty a b o p ≡ true → Result preference a b o s p
  conflict none s p h z v x y = record {
    sides = λ _. record {
      left_clean = λ e. absurd (true≢false (sym x ∙ e));
      right_clean = λ e. absurd (true≢false (sym y ∙ e));
      directory = λ e. absurd (true≢false (sym e ∙ z));
      conflict =
          λ _ _ _. subst (λ r. ConflictLeaves r a b s.left s.right p) (sym none) (h.left, h.right);
    };
    marks = record {
      settled =
          λ e. absurd (true≢false (sym e ∙ ap₂ (λ u w. u || w) (ap is_some none)
          (ap₂ (λ u w. u || w) (ap₂ (λ u w. not (u && w)) x y) v)));
      directory = λ e. absurd (true≢false (sym e ∙ z));
      conflict = λ _ _. h.archive;
    };
  }

  prefers_left : preference ≡ Some Left → (s : Trees) (p : Path) → SameAt s (start a b o) p →
      is_directory_in_both a b p ≡ false → left_dirty a b o p ≡ true → right_dirty a b o p ≡ true →
      Result preference a b o (after_item s (ToRight p)) p
  prefers_left some s p h z x y =
      let put = subtree-replace s.right p (subtree s.left p) in
      let recorded = sym (subtree-replace s.archive p (mark (subtree s.left p))) in
      let now = after_item s (ToRight p) in
      record {
        sides =
            λ _. one_part now p (subtree a p) h.left (put ∙ h.left) z
            (λ e. absurd (true≢false (sym x ∙ e))) (λ e. absurd (true≢false (sym y ∙ e)))
            (λ _ _. subst (λ r. ConflictLeaves r a b now.left now.right p) (sym some)
            (record { left_has = h.left; right_has = put ∙ h.left }));
        marks =
            one_mark now p recorded (ap mark put ∙ recorded) z
            (ap (λ r. is_some r || (not (left_dirty a b o p && right_dirty a b o p)
            || is_alike a b p)) some);
      }

  prefers_right : preference ≡ Some Right → (s : Trees) (p : Path) → SameAt s (start a b o) p →
      is_directory_in_both a b p ≡ false → left_dirty a b o p ≡ true → right_dirty a b o p ≡ true →
      Result preference a b o (after_item s (ToLeft p)) p
  prefers_right some s p h z x y =
      let put = subtree-replace s.left p (subtree s.right p) in
      let recorded = sym (subtree-replace s.archive p (mark (subtree s.right p))) in
      let now = after_item s (ToLeft p) in
      record {
        sides =
            λ _. one_part now p (subtree b p) (put ∙ h.right) h.right z
            (λ e. absurd (true≢false (sym x ∙ e))) (λ e. absurd (true≢false (sym y ∙ e)))
            (λ _ _. subst (λ r. ConflictLeaves r a b now.left now.right p) (sym some)
            (record { left_has = put ∙ h.right; right_has = h.right }));
        marks =
            one_mark now p (ap mark put ∙ recorded) recorded z
            (ap (λ r. is_some r || (not (left_dirty a b o p && right_dirty a b o p)
            || is_alike a b p)) some);
      }

  contested_result : (of : Option Which) → preference ≡ of → (s : Trees) (p : Path) →
      SameAt s (start a b o) p → is_directory_in_both a b p ≡ false → is_alike a b p ≡ false →
      left_dirty a b o p ≡ true → right_dirty a b o p ≡ true →
      Result preference a b o (after_item s (contested of false p)) p
  contested_result None is s p h z v x y = conflict is s p h z v x y
  contested_result (Some Left) is s p h z v x y = prefers_left is s p h z x y
  contested_result (Some Right) is s p h z v x y = prefers_right is s p h z x y

  -- a directory on both sides

  alike_below : (p q : Path) → is_alike a b p ≡ true → is_alike a b (p ++ q) ≡ true
  alike_below p q e =
      let same : subtree (mark a) (p ++ q) ≡ subtree (mark b) (p ++ q) =
      sym (subtree-append (mark a) p q) ∙ (ap (λ w. subtree w q)
      (same_tree_is (subtree (mark a) p) (subtree (mark b) p) e) ∙ subtree-append (mark b) p q) in
      ap (is_same_tree (subtree (mark a) (p ++ q))) (sym same)
      ∙ tree_itself (subtree (mark a) (p ++ q))

  alone_below : (p q : Path) →
      (not (left_dirty a b o p && right_dirty a b o p) || is_alike a b p) ≡ true →
      (not (left_dirty a b o (p ++ q) && right_dirty a b o (p ++ q)) || is_alike a b (p ++ q))
      ≡ true
  alone_below p q e =
      let w = p ++ q in
      elim (left_dirty a b o w)
      as (λ x. left_dirty a b o w ≡ x → (not (x && right_dirty a b o w) || is_alike a b w) ≡ true) [
        | false ↦ λ _. refl
        | true ↦ λ x. elim (right_dirty a b o w)
            as (λ y. right_dirty a b o w ≡ y → (not y || is_alike a b w) ≡ true) [
              | false ↦ λ _. refl
              | true ↦ λ y.
                  let on_left = dirty-closed (scan_of a) o p w (prefix-append p q) x in
                  let on_right = dirty-closed (scan_of b) o p w (prefix-append p q) y in
                  alike_below p q
                  (sym (ap₂ (λ u v. not (u && v) || is_alike a b p) on_left on_right) ∙ e)
            ] refl
      ] refl

  settled_below : (p q : Path) → is_resolved preference a b (left_dirty a b o) (right_dirty a b o) p
      ≡ true →
      is_resolved preference a b (left_dirty a b o) (right_dirty a b o) (p ++ q) ≡ true
  settled_below p q e =
      let w = p ++ q in
      let here : Path → Bool =
      λ p. not (left_dirty a b o p && right_dirty a b o p) || is_alike a b p in
      elim (is_some preference) as (λ u. (u || here p) ≡ true → (u || here w) ≡ true)
      [ true ↦ λ _. refl | false ↦ alone_below p q ] e

  -- both sides and the archive have a directory with each name as it should be
  directory_result : (s : Trees) (p : Path) → is_directory_in_both a b p ≡ true →
      get s.left p ≡ Some Directory → get s.right p ≡ Some Directory →
      get s.archive p ≡ Some Directory → ((n : Name) → Result preference a b o s (child p n)) →
      Result preference a b o s p
  directory_result s p z left_has right_has archive_has each =
      let directories = and_parts (is_directory a p) (is_directory b p) z in
      let a_has : get a p ≡ Some Directory = directory_is (get a p) directories.0 in
      let b_has : get b p ≡ Some Directory = directory_is (get b p) directories.1 in
      let marked : (t : Tree) → get t p ≡ Some Directory →
      get (mark t) p ≡ Some Directory = λ t e. get-mark t p ∙ ap (option_map mark_of) e in
      record {
        sides = λ apart. record {
          left_clean = λ x. record {
            left_has =
                from_names s.left b p (left_has ∙ sym b_has) (λ n.
                (((each n).sides apart).left_clean (clean_below o a p (n ∷ []) x)).left_has);
            right_has =
                from_names s.right b p (right_has ∙ sym b_has) (λ n.
                (((each n).sides apart).left_clean (clean_below o a p (n ∷ []) x)).right_has);
          };
          right_clean = λ y. record {
            left_has =
                from_names s.left a p (left_has ∙ sym a_has) (λ n.
                (((each n).sides apart).right_clean (clean_below o b p (n ∷ []) y)).left_has);
            right_has =
                from_names s.right a p (right_has ∙ sym a_has) (λ n.
                (((each n).sides apart).right_clean (clean_below o b p (n ∷ []) y)).right_has);
          };
          directory =
              λ _. ap₂ (λ u v. is_directory_content u && is_directory_content v) left_has right_has;
          conflict = λ _ _ e. absurd (true≢false (sym z ∙ e));
        };
        marks = record {
          settled = λ e. record {
            left_has =
                from_names (mark s.left) s.archive p (marked s.left left_has ∙ sym archive_has)
                (λ n. ((each n).marks.settled (settled_below p (n ∷ []) e)).left_has);
            right_has =
                from_names (mark s.right) s.archive p (marked s.right right_has ∙ sym archive_has)
                (λ n. ((each n).marks.settled (settled_below p (n ∷ []) e)).right_has);
          };
          directory = λ _. ap is_directory_content archive_has;
          conflict = λ _ e. absurd (true≢false (sym z ∙ e));
        };
      }

  directory_good : (s : Trees) (p : Path) → is_directory_in_both a b p ≡ true →
      get s.left p ≡ Some Directory → get s.right p ≡ Some Directory →
      get s.archive p ≡ Some Directory → ((n : Name) → Good preference a b o s (child p n)) → Good
      preference a b o s p
  directory_good s p z left_has right_has archive_has each [] _ =
      subst (Result preference a b o s) (sym (append-nil p))
      (directory_result s p z left_has right_has archive_has
      (λ n. good-here preference a b o s (child p n) (each n) (child_relevant a b p n z)))
  directory_good s p z left_has right_has archive_has each (n ∷ q) relevant =
      let path = append_assoc p (n ∷ []) q in
      subst (Result preference a b o s) path (each n q (ap (is_relevant a b) path ∙ relevant))

  -- the names below a directory, one after the other

  abbrev decided_at : Path → Decision
  decided_at p = decision preference (scan_of a) (scan_of b) o p

  abbrev names_at : Path → List Name
  names_at p = names_below (scan_of a) (scan_of b) o p

  abbrev items : ℕ → Path → List Item
  items levels p = items_from decided_at names_at levels p

  abbrev items_below : ℕ → Path → List Name → List Item
  items_below levels p names = below decided_at names_at levels p names

  one_then_more : (s : Trees) (levels : ℕ) (p : Path) (m : Name) (names : List Name) →
      carried_out s (items_below levels p (m ∷ names))
      ≡ carried_out (carried_out s (items levels (child p m))) (items_below levels p names)
  one_then_more s levels p m names =
      fold-append after_item s (items levels (child p m)) (items_below levels p names)

  beside_one : (s : Trees) (levels : ℕ) (p : Path) (m n : Name) → eq_by_cmp name_cmp m n ≡ false →
      SameAt (carried_out s (items levels (child p m))) s (child p n)
  beside_one s levels p m n h =
      beside_items s (items levels (child p m)) (child p m) (child p n)
      (items-at decided_at (decision-fits preference (scan_of a) (scan_of b) o) names_at levels
      (child p m))
      (siblings p m n h)

  -- the items below some names leave what is at another
  beside_names : (s : Trees) (levels : ℕ) (p : Path) (names : List Name) (n : Name) →
      list_any (eq_by_cmp name_cmp n) names ≡ false →
      SameAt (carried_out s (items_below levels p names)) s (child p n)
  beside_names s levels p [] n h = same_itself s (child p n)
  beside_names s levels p (m ∷ names) n h =
      let parts = or_parts (eq_by_cmp name_cmp n m) (list_any (eq_by_cmp name_cmp n) names) h in
      let s' = carried_out s (items levels (child p m)) in
      subst (λ t. SameAt t s (child p n)) (sym (one_then_more s levels p m names))
      (same-then (carried_out s' (items_below levels p names)) s' s (child p n) (beside_names s'
      levels p names n parts.1) (beside_one s levels p m n (name_alike m n ∙ parts.0)))

  -- of the names below a directory each is as it should be, if the items below it alone make it so
  each_name : (levels : ℕ) (p : Path) →
      ((n : Name) (s : Trees) → SameAt s (start a b o) (child p n) →
      Good preference a b o (carried_out s (items levels (child p n))) (child p n)) →
      (names : List Name) →
      Apart names → (s : Trees) → ((n : Name) → list_any (eq_by_cmp name_cmp n) names ≡ true →
      SameAt s (start a b o) (child p n)) → (n : Name) →
      list_any (eq_by_cmp name_cmp n) names ≡ true →
      Good preference a b o (carried_out s (items_below levels p names)) (child p n)
  each_name levels p one [] distinct s same n h = absurd (true≢false (sym h))
  each_name levels p one (m ∷ names) distinct s same n h =
      let s' = carried_out s (items levels (child p m)) in
      subst (λ t. Good preference a b o t (child p n)) (sym (one_then_more s levels p m names))
      (elim (eq_by_cmp name_cmp n m)
      as (λ e. eq_by_cmp name_cmp n m ≡ e → (e || list_any (eq_by_cmp name_cmp n) names) ≡ true →
      Good preference a b o (carried_out s' (items_below levels p names)) (child p n)) [
        | true ↦ λ e _.
            let is : m ≡ n = sym (same_name n m e) in
            let done : Good preference a b o s' (child p m) = one m s
            (same m (ap (λ u. u || list_any (eq_by_cmp name_cmp m) names) (name_itself m))) in
            subst (λ k. Good preference a b o (carried_out s' (items_below levels p names))
            (child p k)) is
            (moved-good preference a b o (carried_out s' (items_below levels p names)) s'
            (child p m)
            (beside_names s' levels p names m distinct.0) done)
        | false ↦ λ _ among. each_name levels p one names distinct.1 s' (λ k there.
            same-then s' s (start a b o) (child p k)
            (beside_one s levels p m k
            (false_from_ne_true (eq_by_cmp name_cmp m k) (λ e. true≢false (sym there ∙ (ap
            (λ w. list_any (eq_by_cmp name_cmp w) names) (sym (same_name m k e)) ∙ distinct.0)))))
            (same k (or_right (eq_by_cmp name_cmp k m)
            (list_any (eq_by_cmp name_cmp k) names) there))) n among
      ] refl h)

  -- the whole plan from a path on

  names_good : (levels : ℕ) (p : Path) (s : Trees) → is_directory_in_both a b p ≡ true →
      ((n : Name) (s : Trees) → SameAt s (start a b o) (child p n) →
      Good preference a b o (carried_out s (items levels (child p n))) (child p n)) →
      ((n : Name) → SameAt s (start a b o) (child p n)) → get s.left p ≡ Some Directory →
      get s.right p ≡ Some Directory → get s.archive p ≡ Some Directory →
      Good preference a b o (carried_out s (items_below levels p (names_at p))) p
  names_good levels p s z one same left_has right_has archive_has =
      let names = names_at p in
      let s' = carried_out s (items_below levels p names) in
      let here : SameContent s' s p = untouched s (items_below levels p names) p
      (every-weaker (λ item under. none_of (strip_prefix (path_of item) p) under.1)
      (items_below levels p names) (items-below decided_at
      (decision-fits preference (scan_of a) (scan_of b) o) names_at levels p names)) in
      directory_good s' p z (here.left ∙ left_has) (here.right ∙ right_has)
      (here.archive ∙ archive_has) (λ n.
      elim (list_any (eq_by_cmp name_cmp n) names)
      as (λ e. list_any (eq_by_cmp name_cmp n) names ≡ e → Good preference a b o s' (child p n)) [
        | true ↦ λ among. each_name levels p one names (names_apart (scan_of a) (scan_of b) o p) s
            (λ k _. same k) n among
        | false ↦ λ not_among.
            let nowhere = not_there (scan_of a) (scan_of b) o p n not_among in
            let in_archive = absent_below o (child p n) archive_parents nowhere.in_archive in
            good_clean s' (child p n) (same-then s' s (start a b o) (child p n)
            (beside_names s levels p names n not_among) (same n))
            (clean_nothing o a (child p n) (absent_below a (child p n) left_parents
            (mark_none a (child p n) nowhere.on_left)) in_archive)
            (clean_nothing o b (child p n) (absent_below b (child p n) right_parents
            (mark_none b (child p n) nowhere.on_right)) in_archive)
      ] refl)

  items_good : (levels : ℕ) (p : Path) (s : Trees) → SameAt s (start a b o) p →
      IsShallow levels p a → IsShallow levels p b → IsShallow levels p o →
      Good preference a b o (carried_out s (items levels p)) p
  items_good zero p s h shallow_left shallow_right shallow_archive = good_clean s p h
      (clean_nothing o a p (λ q. shallow_left q (omega arith))
      (λ q. shallow_archive q (omega arith)))
      (clean_nothing o b p (λ q. shallow_right q (omega arith))
      (λ q. shallow_archive q (omega arith)))
  items_good (suc levels) p s h shallow_left shallow_right shallow_archive =
      let under = items_below levels p (names_at p) in
      let one : (n : Name) (s' : Trees) → SameAt s' (start a b o) (child p n) →
      Good preference a b o (carried_out s' (items levels (child p n))) (child p n) =
      λ n s' same. items_good levels (child p n) s' same (shallow_below levels p n a shallow_left)
      (shallow_below levels p n b shallow_right) (shallow_below levels p n o shallow_archive) in
      let left_has : is_directory_in_both a b p ≡ true →
      get s.left p ≡ Some Directory = λ z. same_content_at s.left a p h.left
      ∙ directory_is (get a p) (and_parts (is_directory a p) (is_directory b p) z).0 in
      let right_has : is_directory_in_both a b p ≡ true →
      get s.right p ≡ Some Directory = λ z. same_content_at s.right b p h.right
      ∙ directory_is (get b p) (and_parts (is_directory a p) (is_directory b p) z).1 in
      by_decision a b o preference (λ d. Good preference a b o
      (carried_out s (with_items_below d under)) p) p (λ x y. good_clean s p h x y)
      (λ z w. names_good levels p s z one (λ n. same-deeper s (start a b o) p (n ∷ []) h) (left_has
      z) (right_has z) (same_content_at s.archive o p h.archive ∙ directory_is (get o p) w))
      (λ z w. names_good levels p (after_item s (MarkDir p)) z one
      (λ n. recorded_directory a b o archive_parents s p n h w) (left_has z) (right_has z)
      (recorded_here a b o s p h w))
      (λ z v. only_here (after_item s (MarkSame p)) p z (mark_same s p h z v))
      (λ z v x y. only_here (after_item s (ToRight p)) p z (to_right s p h z x y))
      (λ z v x y. only_here (after_item s (ToLeft p)) p z (to_left s p h z x y))
      (λ z v x y. only_here (after_item s (contested preference false p)) p z
      (contested_result preference refl s p h z v x y))

plan_good : (preference : Option Which) (found : Trees) → CanBePlanned found.left →
    CanBePlanned found.right → CanBePlanned found.archive →
    Good preference found.left found.right found.archive (after_plan preference found) root
plan_good preference found on_left on_right in_archive =
    items_good preference found.left found.right found.archive on_left.parents on_right.parents
    in_archive.parents (suc most_names) root found
    (same_itself found root) on_left.depth on_right.depth in_archive.depth

-- a plan that is carried out leaves a synchronization, where files are apart, and its archive
pub plan_synchronizes : PlanSynchronizes
plan_synchronizes preference found on_left on_right in_archive apart path relevant =
    (plan_good preference found on_left on_right in_archive path relevant).sides apart

pub plan_reconciles : PlanReconciles
plan_reconciles preference found on_left on_right in_archive path relevant =
    (plan_good preference found on_left on_right in_archive path relevant).marks
