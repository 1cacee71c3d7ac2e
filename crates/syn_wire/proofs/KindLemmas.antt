-- What trees of both kinds keep.
use Rattle.std.proofs.Common.{◌≡◌, ◌<◌, ◌^◌, true, ◌&&◌, nat_le, ◌∷◌, [], length, sym, ap, ◌∙◌}
use Rattle.std.proofs.Common.{Some, arith}
use Rattle.std.specs.List.{list_all}
use Rattle.std.specs.FinMap.{get}
use Rattle.std.proofs.lemmas.Bool.{and_parts, leb-true}
use Rattle.syn_model.specs.Path.{Name, root}
use Rattle.syn_model.specs.Contents.{Contents}
use Rattle.syn_model.specs.Tree.{Tree, Content, Pair, File, IsPart, is_present, subtree}
use Rattle.syn_model.specs.Limits.{children, fits_content, fits_part}
use Rattle.syn_model.specs.Spelling.{content_spelling}
use Rattle.syn_model.proofs.ToldSpellings.{contents_tell, digests_tell, marks_below}
use Rattle.syn_model.proofs.VersionLemmas.{part_now}
use Rattle.syn_model.proofs.SubtreeLemmas.{subtree-fits, subtree-is_part, subtree_smaller}
use Rattle.syn_wire.specs.inner.Kinds.{Kind, OfContents, OfMarks, spelling_of, file_spelling_of}
use Rattle.syn_wire.specs.inner.Kinds.{IsFileOf, IsPartOf}
use Rattle.syn_wire.specs.Reads.{NoneBeginsAnother}
use Rattle.syn_tree.proofs.RootedLemmas.{is_rooted}
use Rattle.syn_wire.proofs.MarkLemmas.{few_children, mark_unfolds}
use Rattle.syn_wire.proofs.WalkLemmas.{tree_unfolds}

-- what stands at the root keeps its limits
pub root_fits : (t : Tree) (c : Content) → fits_part t ≡ true → get t root ≡ Some c →
    (fits_content c ≡ true) × (nat_le (length (children t root)) 256 ≡ true)
root_fits t c h is =
    let rooted = is_rooted t c is in
    let fit : Pair → _ = λ pair. fits_content pair.1 && nat_le (length (children t pair.0)) 256 in
    and_parts (fits_content c) (nat_le (length (children t root)) 256) (and_parts (fit (root, c))
    (list_all fit rooted.below) (ap (list_all fit) (sym rooted.whole) ∙ h)).0

pub unfolds : (kind : Kind) (t : Tree) →
    spelling_of kind t ≡ content_spelling (file_spelling_of kind) (spelling_of kind) t (get t root)
unfolds (OfContents version) t = tree_unfolds version t
unfolds (OfMarks version) t = mark_unfolds version t

pub is_part : (kind : Kind) (t : Tree) → IsPartOf kind t → IsPart t
is_part (OfContents version) t h = part_now version t h.0
is_part (OfMarks version) t h = part_now version t h.0.part

pub is_file : (kind : Kind) (t : Tree) → IsPartOf kind t → (c : Contents) →
    get t root ≡ Some (File c) → IsFileOf kind c
is_file (OfContents version) t h c is =
    let short = leb-true (length c.bytes) 16384 (root_fits t (File c) h.1 is).0 in
    (h.0.lawful root c is, omega (arith, short))
is_file (OfMarks version) t h c is = (h.0.part.lawful root c is, h.0.digests root c is)

pub has_few : (kind : Kind) (t : Tree) → IsPartOf kind t → (c : Content) → get t root ≡ Some c →
    length (children t root) < 2 ^ 16
has_few (OfContents version) t h c is =
    let small = leb-true (length (children t root)) 256 (root_fits t c h.1 is).1 in
    omega (arith, small)
has_few (OfMarks version) t h c is = let small = few_children t root h.1 in omega (arith, small)

pub is_part_below : (kind : Kind) (t : Tree) (n : Name) → is_present t root ≡ true →
    IsPartOf kind t → IsPartOf kind (subtree t (n ∷ []))
is_part_below (OfContents version) t n is h = (
  subtree-is_part t (n ∷ []) h.0,
  subtree-fits t
      (n ∷ []) h.1,
)
is_part_below (OfMarks version) t n is h =
    let small = subtree_smaller t n [] is in
    let few = h.1 in
    (marks_below t (n ∷ []) h.0, omega (arith, small, few))

-- a spelling of a file tells it
pub files_tell : (kind : Kind) → NoneBeginsAnother (IsFileOf kind) (file_spelling_of kind)
files_tell (OfContents version) v w r s hv hw e =
    contents_tell version v w r s hv.0 hw.0 hv.1 hw.1 e
files_tell (OfMarks version) v w r s hv hw e = digests_tell version v w r s hv hw e
