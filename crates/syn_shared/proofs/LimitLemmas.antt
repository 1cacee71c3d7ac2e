-- A file of a tree within its limits is within the limit of a file.
use Rattle.std.proofs.Common.{◌≡◌, ◌∙◌, ◌&&◌, Bool, true, false, List, [], ◌∷◌, Some, Result, Ok}
use Rattle.std.proofs.Common.{Err, ap₂, cond, nat_le, refl, sym}
use Rattle.std.proofs.Common.{length}
use Rattle.std.proofs.lemmas.Bool.{and_parts}
use Rattle.std.proofs.lemmas.Option.{none-some, same_Some}
use Rattle.std.specs.FinMap.{IsAntisymmetric, entries, find, get, get-entries}
use Rattle.std.specs.FinMap.{nat_cmp-IsAntisymmetric, slice_cmp-IsAntisymmetric}
use Rattle.std.specs.List.{list_all}
use Rattle.std.specs.Ordering.{eq_by_cmp}
use Rattle.std.specs.Prelude.{IfOk}
use Rattle.syn_model.specs.Limits.{children, fits_content, fits_part, fits_paths, fits_replica}
use Rattle.syn_model.specs.Limits.{greatest_spelling, tree_spelling_length}
use Rattle.syn_model.specs.Path.{Path, path_cmp}
use Rattle.syn_model.specs.Tree.{Content, Pair, Tree}
use Rattle.syn_replica.specs.declared.error.ReplicaError.{ReplicaError}
use Rattle.syn_shared.specs.Reads.{EachFits}
use Rattle.syn_tree.specs.Contents.{content_of}
use Rattle.syn_tree.specs.declared.content.Content.{Content as Found}
use Rattle.std.specs.FinMap.{len}
use Rattle.syn_model.proofs.BaseLemmas.{equal_of}

path_exact : IsAntisymmetric path_cmp
path_exact = slice_cmp-IsAntisymmetric (slice_cmp-IsAntisymmetric nat_cmp-IsAntisymmetric)

-- what each pair passes passes where a content is found
found_passes : (test : Pair → Bool) (at : Path) (content : Content) (pairs : List Pair)
    → find path_cmp at pairs ≡ Some content → list_all test pairs ≡ true
    → test (at, content) ≡ true
found_passes test at content [] is all = absurd (none-some _ is)
found_passes test at content (pair ∷ pairs) is all = by (eq_by_cmp path_cmp at pair.0) refl is
    (λ more. found_passes test at content pairs more both.1)
  where
    both : (test pair ≡ true) × (list_all test pairs ≡ true)
    both = and_parts (test pair) (list_all test pairs) all

    by : (b : Bool) → eq_by_cmp path_cmp at pair.0 ≡ b
        → cond b (Some pair.1) (find path_cmp at pairs) ≡ Some content
        → (find path_cmp at pairs ≡ Some content → test (at, content) ≡ true)
        → test (at, content) ≡ true
    by true same is more = ap₂ (λ p c. test (p, c))
        (path_exact at pair.0 (equal_of (path_cmp at pair.0) same)) (sym (same_Some _ _ is))
        ∙ both.0
    by false same is more = more is

pub each_fits : (tree : Tree) → fits_replica tree ≡ true → EachFits tree
each_fits tree fits path content is =
    let limits = and_parts (nat_le (len tree) 1024
    && nat_le (tree_spelling_length tree) greatest_spelling && fits_part tree) (fits_paths tree)
    fits in
    let each = and_parts (nat_le (len tree) 1024
    && nat_le (tree_spelling_length tree) greatest_spelling) (fits_part tree) limits.0 in
    let passes = found_passes (λ pair. fits_content pair.1
    && nat_le (length (children tree pair.0)) 256) path content (entries tree)
    (sym (get-entries tree path) ∙ is) each.1 in
    (and_parts (fits_content content) (nat_le (length (children tree path)) 256) passes).0

pub read_fits : (tree : Tree) (path : Path) (answer : Result Found ReplicaError)
    → IfOk answer (λ content. get tree path ≡ Some (content_of content)) → EachFits tree
    → IfOk answer (λ content. fits_content (content_of content) ≡ true)
read_fits tree path (Ok content) is each = each path (content_of content) is
read_fits tree path (Err error) is each = tt
