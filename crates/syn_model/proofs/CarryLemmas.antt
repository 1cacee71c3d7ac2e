-- What items change when they are carried out, and what they leave.
use Rattle.std.proofs.Common.{◌≡◌, true, false, if◌then◌else◌, List, [], ◌∷◌, ◌++◌, refl, sym, ap}
use Rattle.std.proofs.Common.{◌∙◌, Some, None, append_assoc}
use Rattle.std.specs.List.{AllByRecursion}
use Rattle.std.specs.FinMap.{get}
use Rattle.std.proofs.lemmas.Option.{none-some}
use Rattle.syn_model.specs.Path.{Path, is_prefix, strip_prefix, comparable}
use Rattle.syn_model.specs.Tree.{Tree, subtree, replace, is_directory, empty_directory}
use Rattle.syn_model.specs.Mark.{mark}
use Rattle.syn_model.specs.Decision.{Item, ToLeft, ToRight, MarkSame, MarkDir, Conflict, path_of}
use Rattle.syn_model.specs.Plan.{Trees, with_directory, after_item, carried_out}
use Rattle.syn_model.proofs.PathLemmas.{strip_prefix-append, strip_prefix-is, not_under}
use Rattle.syn_model.proofs.PathLemmas.{is_prefix-is}
use Rattle.syn_model.proofs.TreeLemmas.{same_tree, get-subtree, subtree-append, beside}
use Rattle.syn_model.proofs.PlanOrder.{IsAt, every-weaker}

-- the three trees have the same at and below a path
pub record SameAt (s t : Trees) (path : Path) : Type 0 where
  pub left : subtree s.left path ≡ subtree t.left path
  pub right : subtree s.right path ≡ subtree t.right path
  pub archive : subtree s.archive path ≡ subtree t.archive path

-- they have the same content there
pub record SameContent (s t : Trees) (path : Path) : Type 0 where
  pub left : get s.left path ≡ get t.left path
  pub right : get s.right path ≡ get t.right path
  pub archive : get s.archive path ≡ get t.archive path

pub same_itself : (s : Trees) (p : Path) → SameAt s s p
same_itself s p = record { left = refl; right = refl; archive = refl }

pub same-then : (s t u : Trees) (p : Path) → SameAt s t p → SameAt t u p → SameAt s u p
same-then s t u p a b =
    record { left = a.left ∙ b.left; right = a.right ∙ b.right; archive = a.archive ∙ b.archive }

pub same-deeper : (s t : Trees) (p q : Path) → SameAt s t p → SameAt s t (p ++ q)
same-deeper s t p q h = record {
  left =
      sym (subtree-append s.left p q) ∙ (ap (λ w. subtree w q) h.left ∙ subtree-append t.left p q);
  right =
      sym (subtree-append s.right p q)
      ∙ (ap (λ w. subtree w q) h.right ∙ subtree-append t.right p q);
  archive =
      sym (subtree-append s.archive p q)
      ∙ (ap (λ w. subtree w q) h.archive ∙ subtree-append t.archive p q);
}

from_contents : (s t : Trees) (p : Path) → ((q : Path) → SameContent s t (p ++ q)) → SameAt s t p
from_contents s t p h = record {
  left =
      same_tree (subtree s.left p) (subtree t.left p)
      (λ q. get-subtree s.left p q ∙ ((h q).left ∙ sym (get-subtree t.left p q)));
  right =
      same_tree (subtree s.right p) (subtree t.right p)
      (λ q. get-subtree s.right p q ∙ ((h q).right ∙ sym (get-subtree t.right p q)));
  archive =
      same_tree (subtree s.archive p) (subtree t.archive p)
      (λ q. get-subtree s.archive p q ∙ ((h q).archive ∙ sym (get-subtree t.archive p q)));
}

directory_elsewhere : (t : Tree) (p q : Path) → strip_prefix p q ≡ None →
    get (with_directory t p) q ≡ get t q
directory_elsewhere t p q h =
    elim (is_directory t p) as (λ b. get (if b then t else replace t p empty_directory) q ≡ get t q)
    [ true ↦ refl | false ↦ beside t p empty_directory q h ]

-- an item changes nothing that is not at or below its path
item_elsewhere : (s : Trees) (item : Item) (q : Path) → strip_prefix (path_of item) q ≡ None →
    SameContent (after_item s item) s q
item_elsewhere s (ToLeft p) q h =
    record {
      left = beside s.left p (subtree s.right p) q h;
      right = refl;
      archive = beside s.archive p (mark (subtree s.right p)) q h;
    }
item_elsewhere s (ToRight p) q h =
    record {
      left = refl;
      right = beside s.right p (subtree s.left p) q h;
      archive = beside s.archive p (mark (subtree s.left p)) q h;
    }
item_elsewhere s (MarkSame p) q h =
    record { left = refl; right = refl; archive = beside s.archive p (mark (subtree s.left p)) q h }
item_elsewhere s (MarkDir p) q h =
    record { left = refl; right = refl; archive = directory_elsewhere s.archive p q h }
item_elsewhere s (Conflict p) q h = record { left = refl; right = refl; archive = refl }

out_of : (p q x : Path) → strip_prefix p q ≡ None → is_prefix p x ≡ true → strip_prefix x q ≡ None
out_of p q x h px = elim (strip_prefix x q) as (λ o. strip_prefix x q ≡ o → o ≡ None) [
  | None ↦ λ _. refl
  | Some r ↦ λ y.
      let rest = is_prefix-is p x px in
      absurd (none-some _ (sym h ∙ (ap (strip_prefix p) (strip_prefix-is x q r y ∙ (ap
      (λ w. w ++ r) rest.1 ∙ append_assoc p rest.0 r)) ∙ strip_prefix-append p (rest.0 ++ r))))
] refl

-- nor do items whose paths it does not begin with
pub untouched : (s : Trees) (items : List Item) (q : Path) →
    AllByRecursion (λ item. strip_prefix (path_of item) q ≡ None) items →
    SameContent (carried_out s items) s q
untouched s [] q h = record { left = refl; right = refl; archive = refl }
untouched s (item ∷ items) q h =
    let rest = untouched (after_item s item) items q h.1 in
    let first = item_elsewhere s item q h.0 in
    record {
      left = rest.left ∙ first.left;
      right = rest.right ∙ first.right;
      archive = rest.archive
          ∙ first.archive;
    }

pub elsewhere : (s : Trees) (items : List Item) (p q : Path) → AllByRecursion (IsAt p) items →
    strip_prefix p q ≡ None → SameContent (carried_out s items) s q
elsewhere s items p q at h =
    untouched s items q (every-weaker (λ item under. out_of p q (path_of item) h under) items at)

pub beside_items : (s : Trees) (items : List Item) (p q : Path) → AllByRecursion (IsAt p) items →
    comparable p q ≡ false → SameAt (carried_out s items) s q
beside_items s items p q at h =
    from_contents (carried_out s items) s q
    (λ r. elsewhere s items p (q ++ r) at (not_under p q r h))
