-- What stands in a directory by its names, and what stands nowhere.
use Rattle.std.proofs.Common.{◌≡◌, false, ◌||◌, [], ◌∷◌, ◌++◌, refl, sym, ap, ◌∙◌, Option, is_some}
use Rattle.std.proofs.Common.{option_map, Some, None, true≢false, append_assoc, append-nil}
use Rattle.std.specs.Ordering.{eq_by_cmp}
use Rattle.std.specs.List.{list_any}
use Rattle.std.specs.FinMap.{get, find}
use Rattle.std.specs.FinMap.Entries.{is_some-find}
use Rattle.std.proofs.lemmas.Option.{none-some}
use Rattle.std.proofs.lemmas.Bool.{or_parts}
use Rattle.syn_model.specs.Path.{Path, Name, name_cmp, root, child}
use Rattle.syn_model.specs.Tree.{Tree, Content, Directory, HasParents, subtree, replace}
use Rattle.syn_model.specs.Tree.{empty_directory, is_directory, is_directory_content}
use Rattle.syn_model.specs.Limits.{children}
use Rattle.syn_model.specs.Mark.{mark, mark_of}
use Rattle.syn_model.specs.Dirty.{Scan}
use Rattle.syn_model.specs.Plan.{names_below, stands_among}
use Rattle.syn_model.proofs.PathLemmas.{strip_prefix-append}
use Rattle.syn_model.proofs.TreeLemmas.{same_tree, get-subtree, within}
use Rattle.syn_model.proofs.MarkLemmas.{get-mark}
use Rattle.syn_model.proofs.HistoryLemmas.{get-below_root}
use Rattle.syn_model.proofs.QuietLemmas.{get-children, nothing_below}
use Rattle.syn_model.proofs.PlanNames.{names_of_three}
use Rattle.syn_model.proofs.BaseLemmas.{none_of}

pub root_content : (t : Tree) (p : Path) → get (subtree t p) root ≡ get t p
root_content t p = get-subtree t p root ∙ ap (get t) (append-nil p)

pub same_content_at : (t u : Tree) (p : Path) → subtree t p ≡ subtree u p → get t p ≡ get u p
same_content_at t u p e = sym (root_content t p) ∙ (ap (λ w. get w root) e ∙ root_content u p)

pub moved-directory : (t u : Tree) (p : Path) → subtree t p ≡ subtree u p →
    is_directory t p ≡ is_directory u p
moved-directory t u p e = ap is_directory_content (same_content_at t u p e)

pub below_name : (t : Tree) (p : Path) (n : Name) (q : Path) →
    get (subtree t p) (n ∷ q) ≡ get (subtree t (child p n)) q
below_name t p n q =
    get-subtree t p (n ∷ q)
    ∙ (ap (get t) (sym (append_assoc p (n ∷ []) q)) ∙ sym (get-subtree t (child p n) q))

-- subtrees with one content at the root and one part at each name are one
pub from_names : (t u : Tree) (p : Path) → get t p ≡ get u p →
    ((n : Name) → subtree t (child p n) ≡ subtree u (child p n)) → subtree t p ≡ subtree u p
from_names t u p h each = same_tree (subtree t p) (subtree u p) (λ q. at q)
  where
    at : (q : Path) → get (subtree t p) q ≡ get (subtree u p) q
    at [] = root_content t p ∙ (h ∙ sym (root_content u p))
    at (n ∷ q) = below_name t p n q ∙ (ap (λ w. get w q) (each n) ∙ sym (below_name u p n q))

pub not_child : (t : Tree) (p : Path) (n : Name) →
    is_some (find name_cmp n (children t p)) ≡ false → get t (child p n) ≡ None
not_child t p n h = get-children t p n ∙ none_of (find name_cmp n (children t p)) h

-- a name that is not among those below a path stands there in neither scan nor in the archive
pub record NotThere (left right : Scan) (archive : Tree) (path : Path) : Type 0 where
  pub on_left : get left.marks path ≡ None
  pub on_right : get right.marks path ≡ None
  pub in_archive : get archive path ≡ None

pub not_there : (left right : Scan) (archive : Tree) (p : Path) (n : Name) →
    list_any (eq_by_cmp name_cmp n) (names_below left right archive p) ≡ false →
    NotThere left right archive (child p n)
not_there left right archive p n h =
    let one = or_parts (stands_among n (children left.marks p))
    (stands_among n (children right.marks p) || stands_among n (children archive p))
    (names_of_three left right archive p n ∙ h) in
    let two = or_parts (stands_among n (children right.marks p))
    (stands_among n (children archive p)) one.1 in
    let absent : (t : Tree) → stands_among n (children t p) ≡ false → get t (child p n) ≡ None =
    λ t none. not_child t p n (is_some-find name_cmp n (children t p) ∙ none) in
    record {
      on_left = absent left.marks one.0;
      on_right = absent right.marks two.0;
      in_archive = absent archive two.1;
    }

-- what is not there has nothing below it
pub absent_below : (t : Tree) (p : Path) → HasParents t → get t p ≡ None → (q : Path) →
    get t (p ++ q) ≡ None
absent_below t p parents h [] = ap (get t) (append-nil p) ∙ h
absent_below t p parents h (n ∷ q) =
    elim (get t (p ++ n ∷ q)) as (λ o. get t (p ++ n ∷ q) ≡ o → o ≡ None) [
      | None ↦ λ _. refl
      | Some c ↦ λ y. absurd (none-some _ (sym h ∙ parents p n q (ap is_some y)))
    ] refl

unmarked_none : (o : Option Content) → option_map mark_of o ≡ None → o ≡ None
unmarked_none None e = refl
unmarked_none (Some c) e = absurd (none-some _ (sym e))

pub mark_none : (t : Tree) (p : Path) → get (mark t) p ≡ None → get t p ≡ None
mark_none t p e = unmarked_none (get t p) (sym (get-mark t p) ∙ e)

pub none_mark : (t : Tree) (p : Path) → get t p ≡ None → get (mark t) p ≡ None
none_mark t p e = get-mark t p ∙ ap (option_map mark_of) e

-- an empty directory has nothing below it, as what was no directory
pub below_new_directory : (t u : Tree) (p : Path) (n : Name) (q : Path) → HasParents u →
    is_directory u p ≡ false →
    subtree (replace t p empty_directory) (p ++ n ∷ q) ≡ subtree u (p ++ n ∷ q)
below_new_directory t u p n q parents none =
    let new = replace t p empty_directory in
    same_tree (subtree new (p ++ n ∷ q)) (subtree u (p ++ n ∷ q)) (λ r.
    let at = append_assoc p (n ∷ q) r in
    get-subtree new (p ++ n ∷ q) r ∙ (ap (get new) at ∙ (within t p empty_directory
    (p ++ n ∷ (q ++ r)) (n ∷ (q ++ r)) (strip_prefix-append p (n ∷ (q ++ r)))
    ∙ (get-below_root Directory [] n (q ++ r) ∙ sym (get-subtree u (p ++ n ∷ q) r
    ∙ (ap (get u) at ∙ nothing_below u p n (q ++ r) parents none))))))
