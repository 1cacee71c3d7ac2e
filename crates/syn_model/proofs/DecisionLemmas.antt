-- What is decided at a path by what is dirty there, what is clean, and what is not relevant.
use Rattle.std.proofs.Common.{◌≡◌, ℕ, suc, ◌≤◌, Bool, true, false, not, if◌then◌else◌, ◌&&◌, ◌||◌}
use Rattle.std.proofs.Common.{[], ◌∷◌, ◌++◌, length, refl, sym, ap, ap₂, ◌∙◌, None, true≢false}
use Rattle.std.proofs.Common.{append_assoc, Option}
use native.Mathlib.Omega.{arith}
use Rattle.std.specs.FinMap.{get}
use Rattle.std.proofs.lemmas.Bool.{false_from_ne_true, and_parts}
use Rattle.syn_model.specs.Path.{Path, Name, is_root, child, parent}
use Rattle.syn_model.specs.Tree.{Tree, HasParents, subtree, is_directory, is_directory_content}
use Rattle.syn_model.specs.Mark.{mark}
use Rattle.syn_model.specs.Dirty.{Paths, dirty, is_same_tree}
use Rattle.syn_model.specs.Reconcile.{is_directory_in_both, is_relevant, is_alike}
use Rattle.syn_model.specs.Which.{Which}
use Rattle.syn_model.specs.Decision.{ToLeft, ToRight, MarkSame, MarkDir, Decision, Clean, Do}
use Rattle.syn_model.specs.Decision.{DoAndGoOn, GoOn, contested, decision}
use Rattle.syn_model.specs.Plan.{scan_of}
use Rattle.syn_model.proofs.PathLemmas.{parent-append, prefix-append}
use Rattle.syn_model.proofs.TreeLemmas.{same_tree, get-subtree, by_rest}
use Rattle.syn_model.proofs.DirtyLemmas.{tree_itself, dirty-closed}
use Rattle.syn_model.proofs.SyncLemmas.{directory_is}
use Rattle.syn_model.proofs.QuietLemmas.{directory_of_mark}
use Rattle.syn_model.proofs.DirectoryLemmas.{none_mark}

not_root : (p : Path) (n : Name) (q : Path) → is_root (p ++ n ∷ q) ≡ false
not_root [] n q = refl
not_root (x ∷ p) n q = refl

-- a decision, from what it asks of a path that is stable on both sides
abbrev pub decided_by : Option Which → Path → Bool → Bool → Bool → Bool → Bool → Decision
decided_by preference p x y z w v =
    if not (x || y) then Clean
    else if z then (if w then GoOn else DoAndGoOn (MarkDir p))
    else if v then Do (MarkSame p)
    else if not y then Do (ToRight p)
    else if not x then Do (ToLeft p)
    else Do (contested preference false p)

module _ (a b o : Tree) where
  abbrev pub left_dirty : Paths
  left_dirty = dirty (scan_of a) o

  abbrev pub right_dirty : Paths
  right_dirty = dirty (scan_of b) o

  pub by_decision : (preference : Option Which) (P : Decision → Type 0) (p : Path) →
      (left_dirty p ≡ false → right_dirty p ≡ false → P Clean) →
      (is_directory_in_both a b p ≡ true → is_directory o p ≡ true → P GoOn) →
      (is_directory_in_both a b p ≡ true → is_directory o p ≡ false → P (DoAndGoOn (MarkDir p))) →
      (is_directory_in_both a b p ≡ false → is_alike a b p ≡ true → P (Do (MarkSame p))) →
      (is_directory_in_both a b p ≡ false → is_alike a b p ≡ false → left_dirty p ≡ true →
      right_dirty p ≡ false → P (Do (ToRight p))) → (is_directory_in_both a b p ≡ false →
      is_alike a b p ≡ false → left_dirty p ≡ false → right_dirty p ≡ true → P (Do (ToLeft p))) →
      (is_directory_in_both a b p ≡ false → is_alike a b p ≡ false → left_dirty p ≡ true →
      right_dirty p ≡ true → P (Do (contested preference false p))) →
      P (decision preference (scan_of a) (scan_of b) o p)
  by_decision preference P p clean go_on mark_dir mark_same to_right to_left conflict =
      elim (left_dirty p) as (λ x. left_dirty p ≡ x → P (decided_by preference p x (right_dirty p)
      (is_directory_in_both (mark a) (mark b) p) (is_directory o p) (is_alike a b p))) [
        | true ↦ λ ex. elim (right_dirty p) as (λ y. right_dirty p ≡ y → P
            (decided_by preference p true y
            (is_directory_in_both (mark a) (mark b) p) (is_directory o p) (is_alike a b p))) [
              | true ↦ λ ey. busy (Do (contested preference false p)) (λ z v. conflict z v ex ey)
              | false ↦ λ ey. busy (Do (ToRight p)) (λ z v. to_right z v ex ey)
            ] refl
        | false ↦ λ ex. elim (right_dirty p) as (λ y. right_dirty p ≡ y → P
            (decided_by preference p false y
            (is_directory_in_both (mark a) (mark b) p) (is_directory o p) (is_alike a b p))) [
              | true ↦ λ ey. busy (Do (ToLeft p)) (λ z v. to_left z v ex ey)
              | false ↦ λ ey. clean ex ey
            ] refl
      ] refl
    where
      unmark : is_directory_in_both a b p ≡ is_directory_in_both (mark a) (mark b) p
      unmark = sym (ap₂ (λ u v. u && v) (directory_of_mark a p) (directory_of_mark b p))

      busy : (last : Decision) →
          (is_directory_in_both a b p ≡ false → is_alike a b p ≡ false → P last) →
          P (if is_directory_in_both (mark a) (mark b) p then (if is_directory o p then GoOn
          else DoAndGoOn (MarkDir p)) else if is_alike a b p then Do (MarkSame p) else last)
      busy last end =
          elim (is_directory_in_both (mark a) (mark b) p) as (λ z. is_directory_in_both (mark a)
          (mark b) p ≡ z → P (if z then (if is_directory o p then GoOn else DoAndGoOn (MarkDir p))
          else if is_alike a b p then Do (MarkSame p) else last)) [
            | true ↦ λ ez. elim (is_directory o p)
                as (λ w. is_directory o p ≡ w → P (if w then GoOn else DoAndGoOn (MarkDir p))) [
                  | true ↦ λ ew. go_on (unmark ∙ ez) ew
                  | false ↦ λ ew. mark_dir (unmark ∙ ez) ew
                ] refl
            | false ↦ λ ez. elim (is_alike a b p)
                as (λ v. is_alike a b p ≡ v → P (if v then Do (MarkSame p) else last)) [
                  | true ↦ λ ev. mark_same (unmark ∙ ez) ev
                  | false ↦ λ ev. end (unmark ∙ ez) ev
                ] refl
          ] refl

pub clean_below : (o t : Tree) (p q : Path) → dirty (scan_of t) o p ≡ false →
    dirty (scan_of t) o (p ++ q) ≡ false
clean_below o t p q h =
    false_from_ne_true (dirty (scan_of t) o (p ++ q))
    (λ e. true≢false (sym (dirty-closed (scan_of t) o p (p ++ q) (prefix-append p q) e) ∙ h))

clean_itself : (o t : Tree) (p : Path) → subtree (mark t) p ≡ subtree o p →
    dirty (scan_of t) o p ≡ false
clean_itself o t p e =
    ap (λ b. not b || false)
    (ap (λ w. is_same_tree (subtree (mark t) p) w) (sym e) ∙ tree_itself (subtree (mark t) p))

-- where there is nothing, nothing has changed
pub clean_nothing : (o t : Tree) (p : Path) → ((q : Path) → get t (p ++ q) ≡ None) →
    ((q : Path) → get o (p ++ q) ≡ None) → dirty (scan_of t) o p ≡ false
clean_nothing o t p h k = clean_itself o t p (same_tree (subtree (mark t) p) (subtree o p) (λ q.
    get-subtree (mark t) p q ∙ (none_mark t (p ++ q) (h q) ∙ sym (get-subtree o p q ∙ k q))))

-- below what is no directory on both sides no path is relevant
pub nothing_relevant : (a b : Tree) → HasParents a → HasParents b → (p : Path) (n : Name)
    (q : Path) → is_directory_in_both a b p ≡ false → is_relevant a b (p ++ n ∷ q) ≡ true → ⊥
nothing_relevant a b left_parents right_parents p n q z r =
    let parents : is_directory_in_both a b (p ++ parent (n ∷ q)) ≡ true =
    ap (is_directory_in_both a b) (sym (parent-append p n q))
    ∙ (sym (ap (λ u. u || is_directory_in_both a b (parent (p ++ n ∷ q))) (not_root p n q)) ∙ r)
    in
    let each = and_parts (is_directory a (p ++ parent (n ∷ q)))
    (is_directory b (p ++ parent (n ∷ q))) parents in
    let on_left = by_rest a p n q left_parents
    (directory_is (get a (p ++ parent (n ∷ q))) each.0) in
    let on_right = by_rest b p n q right_parents
    (directory_is (get b (p ++ parent (n ∷ q))) each.1) in
    true≢false (sym (ap₂ (λ u v. is_directory_content u && is_directory_content v) on_left on_right)
    ∙ z)

-- nothing is so many levels below the path
abbrev pub IsShallow : ℕ → Path → Tree → Type 0
IsShallow levels p t = (q : Path) → levels ≤ length q → get t (p ++ q) ≡ None

pub shallow_below : (levels : ℕ) (p : Path) (n : Name) (t : Tree) → IsShallow (suc levels) p t →
    IsShallow levels (child p n) t
shallow_below levels p n t h q enough =
    ap (get t) (append_assoc p (n ∷ []) q) ∙ h (n ∷ q) (omega arith)
