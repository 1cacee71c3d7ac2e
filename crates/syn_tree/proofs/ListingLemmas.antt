-- The names in a directory, one pair after the other.
use Rattle.std.proofs.Common.{List, ◌≡◌, ◌<◌, ◌+◌, ℕ, true, false, [], ◌∷◌, ◌++◌, length, take}
use Rattle.std.proofs.Common.{refl, sym, ap, ◌∙◌, Option, Some, None, is_some, slice_index_or}
use Rattle.std.proofs.Common.{true≢false, arith}
use Rattle.std.specs.Prelude.{option_map, option_and_then}
use Rattle.std.specs.List.{cons_option}
use Rattle.std.specs.FinMap.{entries}
use Rattle.std.proofs.lemmas.List.{take_more}
use Rattle.std.proofs.lemmas.List.Elements.{filter_map-append}
use Rattle.syn_model.specs.Path.{Name, Path, strip_prefix}
use Rattle.syn_model.specs.Tree.{Tree, Pair, is_directory_content}
use Rattle.syn_model.specs.Limits.{children, only_name}
use Rattle.syn_model.proofs.PathLemmas.{strip_prefix-append}
use Rattle.syn_placed.specs.Pairs.{Pairs, rooted, is_child}
use Rattle.syn_placed.proofs.CountLemmas.{child_is}
use Rattle.std.proofs.Common.{slice_get, ◌-◌, length-append}
use Rattle.std.proofs.lemmas.Option.{slice_get-get_or}
use Rattle.std.proofs.Math.Seq.{get_or-append_seam}
use Rattle.syn_tree.specs.Contents.{found_content}
use Rattle.syn_tree.specs.Lists.{child_contents, contents_at, kinds_of}
use Rattle.syn_tree.specs.declared.content.Found.{Found}

no_name : (o : Option Name) → is_some o ≡ false → o ≡ None
no_name None h = refl
no_name (Some n) h = absurd (true≢false h)

-- a path that is no child has no name there
pub not_named : (above path : Path) → is_child above path ≡ false →
    option_and_then only_name (strip_prefix above path) ≡ None
not_named above path h = no_name (option_and_then only_name (strip_prefix above path)) h

last_got : (above : Path) (name : Name) →
    slice_get (above ++ name ∷ []) (length (above ++ name ∷ []) - 1) ≡ Some name
last_got above name =
    let size : length (above ++ name ∷ []) - 1 ≡ length above =
    omega (arith, length-append above (name ∷ [])) in
    ap (slice_get (above ++ name ∷ [])) size
    ∙ (slice_get-get_or (above ++ name ∷ []) (length above) name
    (omega (arith, length-append above (name ∷ [])))
    ∙ ap (λ n. Some n) (get_or-append_seam above name [] name))

-- a child has its last name
pub named_last : (above path : Path) → is_child above path ≡ true →
    slice_get path (length path - 1) ≡ option_and_then only_name (strip_prefix above path)
named_last above path h =
    let child = child_is above path h in
    ap (λ q. slice_get q (length q - 1)) child.1
    ∙ (last_got above child.0
    ∙ sym (ap (λ q. option_and_then only_name (strip_prefix above q)) child.1
    ∙ ap (option_and_then only_name) (strip_prefix-append above (child.0 ∷ []))))

-- what one pair adds to the children
pub one_more : (above : Path) (x : Pair) (o : Option Name) →
    option_and_then only_name (strip_prefix above x.0) ≡ o →
    child_contents above (x ∷ []) ≡ cons_option (option_map (λ name. (name, x.1)) o) []
one_more above x o e = ap (λ o. cons_option (option_map (λ name. (name, x.1)) o) []) e

root_unlisted : (path : Path) (ds : Pairs) →
    child_contents path (rooted ds) ≡ child_contents path ds
root_unlisted [] ds = refl
root_unlisted (n ∷ path) ds = refl

pub children-entries : (t : Tree) (path : Path) (ds : Pairs) → entries t ≡ rooted ds →
    children t path ≡ child_contents path ds
children-entries t path ds e = ap (child_contents path) e ∙ root_unlisted path ds

-- one pair more
pub contents-more : (above : Path) (list : Pairs) (i : ℕ) (x : Pair) → i < length list →
    x ≡ slice_index_or list i x → child_contents above (take (i + 1) list)
    ≡ child_contents above (take i list) ++ child_contents above (x ∷ [])
contents-more above list i x l is =
    ap (child_contents above) (take_more list i x l ∙ ap (λ y. take i list ++ y ∷ []) (sym is))
    ∙ filter_map-append (λ pair. option_map (λ name. (name, pair.1))
    (option_and_then only_name (strip_prefix above pair.0))) (take i list) (x ∷ [])

-- one child more has one kind more
pub kinds-more : (xs : List (Name × Found)) (x : Name × Found) →
    kinds_of (contents_at (xs ++ x ∷ []))
    ≡ kinds_of (contents_at xs) ++ (x.0, is_directory_content (Some (found_content x.1))) ∷ []
kinds-more [] x = refl
kinds-more (y ∷ ys) x =
    ap (λ zs. (y.0, is_directory_content (Some (found_content y.1))) ∷ zs) (kinds-more ys x)
