-- A scan whose listings are all of one tree is that of the tree.
use Rattle.std.proofs.Common.{◌≡◌, ◌++◌, ◌∷◌, ◌&&◌, ◌||◌, [], ℕ, suc, List, true, false}
use Rattle.std.proofs.Common.{None, option_map, refl, sym, ap, ap₂, ◌∙◌, subst}
use Rattle.std.proofs.Common.{append_assoc, append-nil, arith, true≢false}
use Rattle.std.proofs.lemmas.Bool.{and_parts}
use Rattle.std.specs.FinMap.{get}
use Rattle.std.specs.List.{list_any}
use Rattle.std.specs.Prelude.{Contains}
use Rattle.syn_model.specs.Dirty.{IsScanBy, Scan, is_unstable}
use Rattle.syn_model.specs.Limits.{children}
use Rattle.syn_model.specs.Mark.{mark, mark_of}
use Rattle.syn_model.specs.Path.{Name, Path, child, is_prefix}
use Rattle.syn_model.specs.Plan.{scan_of as scan_of_tree}
use Rattle.syn_model.specs.Tree.{Content, IsTree, Tree, is_directory, is_directory_content}
use Rattle.syn_model.proofs.MarkLemmas.{get-mark}
use Rattle.syn_model.proofs.QuietLemmas.{directory_of_mark, nothing_below, same_child}
use Rattle.syn_model.proofs.TreeLemmas.{same_tree}
use Rattle.syn_model.proofs.BaseLemmas.{nothing_in}
use Rattle.syn_model.proofs.PathLemmas.{mutual_prefix}

-- a path that is unstable is one of those that were answered so
pub found_unstable : (p : Path) (us : List Path) →
    list_any (λ other. is_prefix p other && is_prefix other p) us ≡ true → Contains us p
found_unstable p [] e = absurd (true≢false (sym e))
found_unstable p (u ∷ us) e =
    elim (is_prefix p u && is_prefix u p) as (λ b. (is_prefix p u && is_prefix u p) ≡ b →
    (b || list_any (λ other. is_prefix p other && is_prefix other p) us) ≡ true →
    Contains (u ∷ us) p) [
      | true ↦ λ y _. let both = and_parts (is_prefix p u) (is_prefix u p) y in
          (0, omega arith, sym (mutual_prefix p u both.0 both.1))
      | false ↦ λ _ rest. let c = found_unstable p us rest in (suc c.0, omega (arith, c.1), c.2)
    ] refl e

-- A scan whose listings are all of one tree is that of the tree
module _ (WasListed : Path → ℕ → List (Name × Content) → Type 0)
    (WasNone : Path → ℕ → Type 0) (scan : Scan) (since : Path → ℕ)
    (by : IsScanBy WasListed WasNone scan since) (tree : Tree) (whole : IsTree tree)
    (listed : (path : Path) (position : ℕ) (entries : List (Name × Content))
    → WasListed path position entries → entries ≡ children (mark tree) path)
    (none : (path : Path) (position : ℕ) → WasNone path position
    → is_directory tree path ≡ false) where
  -- a directory that the tree has too was listed
  steady : (p : Path) → get scan.marks p ≡ get (mark tree) p → is_directory scan.marks p ≡ true
      → is_unstable scan p ≡ false
  steady p same d = elim (is_unstable scan p) as (λ b. is_unstable scan p ≡ b → b ≡ false) [
    | false ↦ λ _. refl
    | true ↦ λ u.
        let answer = by.not_dir p (found_unstable p scan.unstable u) in
        let there : is_directory tree p ≡ true =
        sym (directory_of_mark tree p) ∙ (ap is_directory_content (sym same) ∙ d) in
        absurd (true≢false (sym there ∙ none p (since p) answer.1))
  ] refl

  -- what is the same at a path is the same below it
  below : (p rest : Path) → get scan.marks p ≡ get (mark tree) p
      → get scan.marks (p ++ rest) ≡ get (mark tree) (p ++ rest)
  below p [] same =
      ap (get scan.marks) (append-nil p) ∙ (same ∙ ap (get (mark tree)) (sym (append-nil p)))
  below p (n ∷ rest) same =
      elim (is_directory scan.marks p)
      as (λ b. is_directory scan.marks p ≡ b
      → get scan.marks (p ++ n ∷ rest) ≡ get (mark tree) (p ++ n ∷ rest)) [
        | true ↦ λ d.
            let names = listed p (since p) (children scan.marks p)
            (by.listed p d (steady p same d)) in
            let here : get scan.marks (child p n) ≡ get (mark tree) (child p n) =
            same_child scan.marks (mark tree) p n names in
            let at : child p n ++ rest ≡ p ++ n ∷ rest = append_assoc p (n ∷ []) rest in
            subst (λ q. get scan.marks q ≡ get (mark tree) q) at (below (child p n) rest here)
        | false ↦ λ d.
            let there : is_directory tree p ≡ false =
            sym (directory_of_mark tree p) ∙ (ap is_directory_content (sym same) ∙ d) in
            let empty : get (mark tree) (p ++ n ∷ rest) ≡ None =
            get-mark tree (p ++ n ∷ rest)
            ∙ ap (option_map mark_of) (nothing_below tree p n rest whole.part.parents there) in
            nothing_below scan.marks p n rest by.tree.part.parents d ∙ sym empty
      ] refl

  root_same : get scan.marks [] ≡ get (mark tree) []
  root_same =
      by.tree.rooted ∙ sym (get-mark tree [] ∙ ap (option_map mark_of) whole.rooted)

  none_unstable : (p : Path) → Contains scan.unstable p → ⊥
  none_unstable p c =
      let answer = by.not_dir p c in
      let there : is_directory tree p ≡ true =
      sym (directory_of_mark tree p)
      ∙ (ap is_directory_content (sym (below [] p root_same)) ∙ answer.0) in
      true≢false (sym there ∙ none p (since p) answer.1)

  pub scan_is_tree : scan ≡ scan_of_tree tree
  scan_is_tree =
      ap₂ (λ m u. record { marks = m; unstable = u })
      (same_tree scan.marks (mark tree) (λ q. below [] q root_same))
      (nothing_in scan.unstable none_unstable)
