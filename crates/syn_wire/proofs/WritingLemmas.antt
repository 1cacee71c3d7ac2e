-- What is written of a tree, entry by entry.
use Rattle.std.proofs.Common.{◌≡◌, ◌<◌, ◌^◌, ◌+◌, ℕ, zero, suc, Bool, true, ◌&&◌, nat_le, []}
use Rattle.std.proofs.Common.{◌∷◌, ◌++◌, length, take, flat_map, slice_get, ◌-◌, Some, refl, sym}
use Rattle.std.proofs.Common.{None, ap, ap₂, ◌∙◌, slice_index_or, append_assoc, append-nil, is_some}
use Rattle.std.proofs.Common.{arith}
use Rattle.std.specs.List.{list_all}
use Rattle.std.specs.FinMap.{entries}
use Rattle.std.proofs.lemmas.Bool.{and_parts, leb-true}
use Rattle.std.proofs.lemmas.Grind.{flat_map-append}
use Rattle.std.proofs.lemmas.List.{take_more}
use Rattle.std.proofs.lemmas.List.Folds.{list_all-append}
use Rattle.syn_model.specs.Path.{Bytes, Name, Path, root}
use Rattle.syn_model.specs.Version.{current_version}
use Rattle.syn_model.specs.Contents.{Contents, contents_spelling}
use Rattle.syn_model.specs.Tree.{Tree, Pair, Directory, IsTree}
use Rattle.syn_model.specs.Limits.{children, fits_content, fits_part, fits_replica, fits_paths}
use Rattle.syn_model.specs.Limits.{tree_spelling_length, greatest_spelling}
use Rattle.std.specs.FinMap.{len}
use Rattle.std.proofs.lemmas.Option.{none-some, same_Some}
use Rattle.syn_model.specs.Spelling.{spelling}
use Rattle.syn_placed.specs.Pairs.{Pairs, rooted}
use Rattle.syn_wire.specs.Trees.{last_name_spelling, standing_by, standing_spelling, pair_by}
use Rattle.syn_wire.specs.Trees.{pair_spelling}
use Rattle.syn_wire.proofs.WalkLemmas.{walks_by, tree_unfolds}

pub whole_fits_part : (t : Tree) → fits_replica t ≡ true → fits_part t ≡ true
whole_fits_part t h =
    (and_parts (nat_le (len t) 1024 && nat_le (tree_spelling_length t) greatest_spelling)
    (fits_part t)
    (and_parts (nat_le (len t) 1024 && nat_le (tree_spelling_length t) greatest_spelling
    && fits_part t) (fits_paths t) h).0).1

module _ (t : Tree) (ds : Pairs) (all : rooted ds ≡ entries t) (fits : fits_part t ≡ true) where
  fit : Pair → Bool
  fit pair = fits_content pair.1 && nat_le (length (children t pair.0)) 256

  both : (fit (root, Directory) ≡ true) × (list_all fit ds ≡ true)
  unfolding fit
  both = and_parts (fit (root, Directory)) (list_all fit ds) (ap (list_all fit) all ∙ fits)

  few : (n : ℕ) → nat_le n 256 ≡ true → n < 2 ^ 16
  few n h = let small = leb-true n 256 h in omega (arith, small)

  pub root_few : length (children t root) < 2 ^ 16
  unfolding fit
  root_few =
      few (length (children t root))
      (and_parts true (nat_le (length (children t root)) 256) both.0).1

  -- and each of the pairs, what was walked before it, and what is left
  pub pair_fits : (read : Pairs) (x : Pair) (left : Pairs) → ds ≡ read ++ x ∷ left →
      (fits_content x.1 ≡ true) × (length (children t x.0) < 2 ^ 16)
  unfolding fit
  pair_fits read x left is =
      let whole = and_parts (list_all fit read) (list_all fit (x ∷ left))
      (sym (list_all-append fit read (x ∷ left)) ∙ (ap (list_all fit) (sym is) ∙ both.1)) in
      let one = and_parts (fit x) (list_all fit left) whole.1 in
      let parts = and_parts (fits_content x.1) (nat_le (length (children t x.0)) 256) one.0 in
      (parts.0, few (length (children t x.0)) parts.1)

-- one pair more
pub pair_more : (file : Contents → Bytes) (t : Tree) (read : Pairs) (x : Pair) (count : ℕ)
    (base old new : Bytes) →
    standing_by file count x.1 ≡ standing_by file (length (children t x.0)) x.1 →
    old ≡ base ++ flat_map (pair_by file t) read →
    new ≡ old ++ (last_name_spelling x.0 ++ standing_by file count x.1) →
    new ≡ base ++ flat_map (pair_by file t) (read ++ x ∷ [])
pair_more file t read x count base old new counted so_far added =
    added ∙ (ap₂ (λ b s. b ++ (last_name_spelling x.0 ++ s)) so_far counted
    ∙ (append_assoc base (flat_map (pair_by file t) read) (pair_by file t x)
    ∙ ap (λ b. base ++ b) (sym (flat_map-append (pair_by file t) read (x ∷ [])
    ∙ ap (λ b. flat_map (pair_by file t) read ++ b) (append-nil (pair_by file t x))))))

pub pairs_more : (file : Contents → Bytes) (t : Tree) (ds : Pairs) (i : ℕ) (x : Pair) (count : ℕ)
    (base old new : Bytes) → i < length ds → x ≡ slice_index_or ds i x →
    standing_by file count x.1 ≡ standing_by file (length (children t x.0)) x.1 →
    old ≡ base ++ flat_map (pair_by file t) (take i ds) →
    new ≡ old ++ (last_name_spelling x.0 ++ standing_by file count x.1) →
    new ≡ base ++ flat_map (pair_by file t) (take (i + 1) ds)
pairs_more file t ds i x count base old new l is counted so_far added =
    pair_more file t (take i ds) x count base old new counted so_far added
    ∙ ap (λ xs. base ++ flat_map (pair_by file t) xs)
    (sym (take_more ds i x l ∙ ap (λ y. take i ds ++ y ∷ []) (sym is)))

-- the root and what is below it are the whole
pub whole_written : (t : Tree) (ds : Pairs) (count : ℕ) (base first out : Bytes) → IsTree t →
    rooted ds ≡ entries t → count ≡ length (children t root) →
    first ≡ base ++ standing_spelling count Directory →
    out ≡ first ++ flat_map (pair_spelling t) ds → out ≡ base ++ spelling t
whole_written t ds count base first out h all counted begun written =
    let top = standing_spelling (length (children t root)) Directory in
    let walked : top ++ flat_map (pair_spelling t) ds ≡ spelling t =
    ap (flat_map (pair_spelling t)) all
    ∙ sym (walks_by contents_spelling spelling (tree_unfolds current_version) t h.part.parents
    (ap is_some h.rooted)) in
    written ∙ (ap (λ b. b ++ flat_map (pair_spelling t) ds)
    (begun ∙ ap (λ n. base ++ standing_spelling n Directory) counted)
    ∙ (append_assoc base top (flat_map (pair_spelling t) ds) ∙ ap (λ b. base ++ b) walked))

last_at : (path : Path) (name : Name) (k : ℕ) → k + 1 ≡ length path → slice_get path k ≡ Some name →
    last_name_spelling path ≡ length name ∷ name
last_at [] name k e is = absurd (omega (arith, e))
last_at (n ∷ []) name zero e is = ap (λ x. length x ∷ x) (same_Some _ _ is)
last_at (n ∷ []) name (suc k) e is = absurd (omega (arith, e))
last_at (n ∷ m ∷ path) name zero e is = absurd (omega (arith, e))
last_at (n ∷ m ∷ path) name (suc k) e is = last_at (m ∷ path) name k (omega (arith, e)) is

-- a path that has a last name
pub last_name : (path : Path) (name : Name) → slice_get path (length path - 1) ≡ Some name →
    last_name_spelling path ≡ length name ∷ name
last_name [] name is = absurd (none-some _ is)
last_name (n ∷ path) name is = last_at (n ∷ path) name (length (n ∷ path) - 1) (omega arith) is

none_at : (path : Path) (k : ℕ) → k < length path → slice_get path k ≡ None → ⊥
none_at [] k l is = omega (arith, l)
none_at (n ∷ path) zero l is = none-some n (sym is)
none_at (n ∷ path) (suc k) l is = none_at path k (omega (arith, l)) is

-- a path that has none is the root
pub no_last_name : (path : Path) → slice_get path (length path - 1) ≡ None →
    last_name_spelling path ≡ []
no_last_name [] is = refl
no_last_name (n ∷ path) is =
    absurd (none_at (n ∷ path) (length (n ∷ path) - 1) (omega arith) is)
