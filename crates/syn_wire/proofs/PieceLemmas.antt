-- What is spelled at a path is what stands there, and the pairs below it, one after the other.
use Rattle.std.proofs.Common.{◌≡◌, ◌<◌, ◌^◌, ℕ, Bool, true, false, cond, ◌&&◌, nat_le, []}
use Rattle.std.proofs.Common.{◌∷◌, ◌++◌, length, filter, flat_map, refl, sym, ap, ap₂, ◌∙◌, subst}
use Rattle.std.proofs.Common.{Some, is_some, is_lt, append-nil, true≢false, arith}
use Rattle.std.specs.List.{list_all}
use Rattle.std.specs.Ordering.{eq_by_cmp}
use Rattle.std.specs.FinMap.{find, entries, get, get-entries}
use Rattle.std.proofs.lemmas.Bool.{and_parts, and_from, leb-true}
use Rattle.std.proofs.lemmas.List.Folds.{list_all-append}
use Rattle.std.proofs.lemmas.Option.{none-some, same_Some}
use Rattle.syn_model.specs.Path.{Bytes, Name, Path, path_cmp, root}
use Rattle.syn_model.specs.Tree.{Tree, Content, Pair, HasParents, subtree}
use Rattle.syn_model.specs.Limits.{children, fits_content, fits_part}
use Rattle.syn_model.specs.Spelling.{spelling}
use Rattle.syn_model.specs.Version.{current_version}
use Rattle.syn_model.proofs.PathLemmas.{same_path}
use Rattle.syn_model.proofs.SubtreeLemmas.{subtree_children}
use Rattle.syn_model.proofs.TreeLemmas.{get-subtree}
use Rattle.syn_placed.specs.Pairs.{Pairs, is_below, under}
use Rattle.syn_placed.proofs.RisingLemmas.{Rising, After}
use Rattle.syn_placed.proofs.TreeLemmas.{rising-entries}
use Rattle.syn_tree.proofs.PartLemmas.{subtree-parents}
use Rattle.syn_tree.proofs.RootedLemmas.{is_rooted, below_part}
use Rattle.syn_wire.specs.Trees.{last_name_spelling, standing_spelling, pair_spelling}
use Rattle.syn_wire.proofs.WalkLemmas.{spelling_walks}
use Rattle.syn_tree.proofs.FitLemmas.{all-find}

-- a longer path has the same last name
later_name : (at : Path) (n : Name) (p : Path) →
    last_name_spelling (at ++ n ∷ p) ≡ last_name_spelling (n ∷ p)
later_name [] n p = refl
later_name (m ∷ []) n p = refl
later_name (m ∷ k ∷ at) n p = later_name (k ∷ at) n p

-- the pairs below a place are spelled as in the part there
part_pairs : (t : Tree) (at : Path) (ds : Pairs) → After root ds →
    flat_map (pair_spelling t) (under at ds) ≡ flat_map (pair_spelling (subtree t at)) ds
part_pairs t at [] h = refl
part_pairs t at (([], c) ∷ ds) h = absurd (true≢false (sym (ap is_lt h.0)))
part_pairs t at ((n ∷ p, c) ∷ ds) h =
    ap₂ (λ (b ys : Bytes). b ++ ys)
    (ap₂ (λ (b : Bytes) (k : ℕ). b ++ standing_spelling k c) (later_name at n p)
    (ap length (sym (subtree_children t at (n ∷ p))))) (part_pairs t at ds h.1)

pub part_spelled : (t : Tree) (at : Path) (c : Content) → HasParents t → get t at ≡ Some c →
    spelling (subtree t at) ≡ standing_spelling (length (children t at)) c
    ++ flat_map (pair_spelling t) (filter (is_below at) (entries t))
part_spelled t at c h is =
    let s = subtree t at in
    let there : get s root ≡ Some c = get-subtree t at root ∙ (ap (get t) (append-nil at) ∙ is) in
    let r = is_rooted s c there in
    let after = (subst Rising r.whole (rising-entries s)).0 in
    let same : children s root ≡ children t at =
    subtree_children t at root ∙ ap (children t) (append-nil at) in
    spelling_walks current_version s (subtree-parents t at h) (ap is_some there)
    ∙ (ap (flat_map (pair_spelling s)) r.whole
    ∙ ap₂ (λ (k : ℕ) (ys : Bytes). standing_spelling k c ++ ys) (ap length same)
    (sym (part_pairs t at r.below after)
    ∙ ap (flat_map (pair_spelling t)) (sym (below_part t at c r))))

-- ---- limits

fit : Tree → Pair → Bool
fit t pair = fits_content pair.1 && nat_le (length (children t pair.0)) 256

all_filter : (p q : Pair → Bool) (es : Pairs) → list_all p es ≡ true →
    list_all p (filter q es) ≡ true
all_filter p q [] h = refl
all_filter p q (e ∷ es) h =
    let both = and_parts (p e) (list_all p es) h in
    let rest = all_filter p q es both.1 in
    elim (q e) as (λ b. list_all p (cond b (e ∷ filter q es) (filter q es)) ≡ true)
    [ true ↦ and_from (p e) (list_all p (filter q es)) both.0 rest | false ↦ rest ]

few : (n : ℕ) → nat_le n 256 ≡ true → n < 2 ^ 16
few n h = let small = leb-true n 256 h in omega (arith, small)

both_limits : (t : Tree) (x : Pair) → fit t x ≡ true →
    (fits_content x.1 ≡ true) × (length (children t x.0) < 2 ^ 16)
unfolding fit
both_limits t x h =
    let parts = and_parts (fits_content x.1) (nat_le (length (children t x.0)) 256) h in
    (parts.0, few (length (children t x.0)) parts.1)

-- what is found keeps the limits of a file and a directory
pub found_fits : (t : Tree) (at : Path) (c : Content) → fits_part t ≡ true → get t at ≡ Some c →
    (fits_content c ≡ true) × (length (children t at) < 2 ^ 16)
unfolding fit
found_fits t at c fits is =
    both_limits t (at, c)
    (all-find (fit t) at c (entries t) fits (sym (get-entries t at) ∙ is))

-- and so does each of the pairs below a place
pub below_fits : (t : Tree) (at : Path) (read : Pairs) (x : Pair) (left : Pairs) →
    fits_part t ≡ true → filter (is_below at) (entries t) ≡ read ++ x ∷ left →
    (fits_content x.1 ≡ true) × (length (children t x.0) < 2 ^ 16)
unfolding fit
below_fits t at read x left fits is =
    let all = all_filter (fit t) (is_below at) (entries t) fits in
    let whole = and_parts (list_all (fit t) read) (list_all (fit t) (x ∷ left))
    (sym (list_all-append (fit t) read (x ∷ left)) ∙ (ap (list_all (fit t)) (sym is) ∙ all)) in
    both_limits t x (and_parts (fit t x) (list_all (fit t) left) whole.1).0
