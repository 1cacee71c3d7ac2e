-- The spelling of marks is made of what stands at the root and the spellings of the parts below.
use Rattle.std.proofs.Common.{◌≡◌, ◌≤◌, ◌<◌, ◌+◌, ℕ, true, [], ◌∷◌, ◌++◌, length}
use Rattle.std.proofs.Common.{take, flat_map, sym, ap, ap₂, ◌∙◌}
use Rattle.std.proofs.Common.{nat_le, slice_index_or, append-nil, arith}
use Rattle.std.specs.FinMap.{get, len, len-entries, entries, get-empty}
use Rattle.std.proofs.lemmas.Bool.{and_parts, leb-true}
use Rattle.std.proofs.lemmas.Grind.{flat_map-append}
use Rattle.std.proofs.lemmas.List.{length-append, take_more}
use Rattle.std.proofs.lemmas.List.Sums.{count_by-le-length}
use Rattle.syn_model.specs.Path.{Path, path_cmp, root}
use Rattle.syn_model.specs.Tree.{Tree, Pair, HasParents, absent, is_present}
use Rattle.syn_model.specs.Limits.{children, fits_archive, fits_paths}
use Rattle.syn_model.specs.MarkSpelling.{mark_spelling_in}
use Rattle.syn_model.specs.Spelling.{content_spelling}
use Rattle.syn_model.proofs.SpellingLemmas.{spelling_unfolds}
use Rattle.syn_placed.specs.Pairs.{Pairs, is_child}
use Rattle.syn_placed.proofs.CountLemmas.{length-children}
use Rattle.syn_model.specs.Version.{Version}
use Rattle.syn_model.specs.Contents.{digest_spelling, digest_spelling_in}
use Rattle.syn_wire.specs.Trees.{pair_by}
use Rattle.syn_wire.proofs.WalkLemmas.{walks_by}

pub mark_unfolds : (version : Version) (t : Tree) → mark_spelling_in version t
    ≡ content_spelling (digest_spelling_in version) (mark_spelling_in version) t (get t root)
mark_unfolds version t = spelling_unfolds (digest_spelling_in version) t

-- nothing is spelled as a zero
pub no_marks : (version : Version) → mark_spelling_in version absent ≡ 0 ∷ []
no_marks version =
    mark_unfolds version absent
    ∙ ap (content_spelling (digest_spelling_in version) (mark_spelling_in version) absent)
    (get-empty path_cmp root)

-- marks are spelled in one walk
pub marks_walk : (version : Version) (t : Tree) → HasParents t → is_present t root ≡ true →
    mark_spelling_in version t ≡ flat_map (pair_by (digest_spelling_in version) t) (entries t)
marks_walk version t h is =
    walks_by (digest_spelling_in version) (mark_spelling_in version) (mark_unfolds version) t h is

-- no directory has more names than there are nodes
pub few_children : (t : Tree) (p : Path) → len t ≤ 4096 → length (children t p) ≤ 4096
few_children t p few =
    omega (
      arith,
      few,
      length-children t p,
      count_by-le-length (λ e. is_child p e.0) (entries t),
      len-entries t,
    )

pub few_nodes : (t : Tree) → fits_archive t ≡ true → len t ≤ 4096
few_nodes t h = leb-true (len t) 4096 (and_parts (nat_le (len t) 4096) (fits_paths t) h).0

pub few_paths : (t : Tree) → fits_archive t ≡ true → fits_paths t ≡ true
few_paths t h = (and_parts (nat_le (len t) 4096) (fits_paths t) h).1

-- so that of marks two bytes count them
pub few_names : (t : Tree) (p : Path) → fits_archive t ≡ true → length (children t p) ≤ 4096
few_names t p h = few_children t p (few_nodes t h)

-- ---- lengths

-- one pair more is as much longer as it is long
pub measured_more : (t : Tree) (ds : Pairs) (i : ℕ) (x : Pair) (n old new : ℕ) → i < length ds →
    x ≡ slice_index_or ds i x → n ≡ length (pair_by digest_spelling t x) →
    old ≡ length (flat_map (pair_by digest_spelling t) (take i ds)) → new ≡ old + n →
    new ≡ length (flat_map (pair_by digest_spelling t) (take (i + 1) ds))
measured_more t ds i x n old new l is one so_far added =
    let f = pair_by digest_spelling t in
    let taken = ap (flat_map f) (take_more ds i x l ∙ ap (λ y. take i ds ++ y ∷ []) (sym is)) in
    let parts = flat_map-append f (take i ds) (x ∷ [])
    ∙ ap (λ b. flat_map f (take i ds) ++ b) (append-nil (f x)) in
    added ∙ (ap₂ (λ a b. a + b) so_far one
    ∙ (sym (length-append (flat_map f (take i ds)) (f x)) ∙ ap length (sym (taken ∙ parts))))
