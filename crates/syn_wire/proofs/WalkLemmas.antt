-- The spelling of what is there is that of its pairs, one after the other.
use Rattle.std.proofs.Common.{◌≡◌, ◌<◌, ◌+◌, ℕ, zero, suc, true, false, cond, List, [], ◌∷◌, ◌++◌}
use Rattle.std.proofs.Common.{length, length-append, flat_map, refl, sym, ap, ap₂, ◌∙◌, subst}
use Rattle.std.proofs.Common.{Option, Some, None, is_some, is_lt, append_assoc, append-nil}
use Rattle.std.proofs.Common.{true≢false, arith}
use Rattle.std.specs.Prelude.{sum_by}
use Rattle.std.specs.Int.{to_be_bytes, w16}
use Rattle.std.specs.Ordering.{eq_by_cmp}
use Rattle.std.specs.List.{AllByRecursion}
use Rattle.std.specs.FinMap.{find, entries, get, len}
use Rattle.std.proofs.lemmas.Grind.{flat_map-append}
use Rattle.std.proofs.lemmas.List.Concat.{length-flat_map}
use Rattle.std.proofs.lemmas.Option.{same_Some}
use Rattle.syn_model.specs.Path.{Bytes, Name, Path, name_cmp, root}
use Rattle.syn_model.specs.Version.{Version, current_version}
use Rattle.syn_model.specs.Contents.{Contents, contents_spelling_in}
use Rattle.syn_model.specs.Tree.{Tree, Content, Pair, Directory, File, HasParents, is_present}
use Rattle.syn_model.specs.Tree.{subtree}
use Rattle.syn_model.specs.Limits.{children, last_name_spelling_length, content_spelling_length}
use Rattle.syn_model.specs.Spelling.{spelling_in, content_spelling}
use Rattle.syn_model.proofs.PathLemmas.{name_itself}
use Rattle.syn_model.proofs.TreeLemmas.{get-subtree}
use Rattle.syn_model.proofs.HistoryLemmas.{no_file}
use Rattle.syn_model.proofs.QuietLemmas.{get-children}
use Rattle.syn_model.proofs.SubtreeLemmas.{subtree_children, subtree_smaller}
use Rattle.syn_model.proofs.SpellingLemmas.{spelling_unfolds}
use Rattle.syn_placed.specs.Pairs.{Pairs, under}
use Rattle.syn_tree.proofs.PartLemmas.{subtree-parents}
use Rattle.syn_placed.proofs.RisingLemmas.{Rising, After}
use Rattle.syn_placed.proofs.TreeLemmas.{rising-entries}
use Rattle.syn_wire.specs.Trees.{last_name_spelling, standing_by, standing_spelling, pair_by}
use Rattle.syn_wire.specs.Trees.{pair_spelling, SpellingIsWalk, SpellingIsMeasured}
use Rattle.syn_tree.proofs.RootedLemmas.{IsRooted, is_rooted}
use Rattle.syn_wire.proofs.GroupLemmas.{file_alone, directory_grouped}
use Rattle.syn_model.proofs.BaseLemmas.{each_with}
use Rattle.syn_model.proofs.LengthLemmas.{found_each}

-- ---- the names in a directory

-- something stands at each name in a directory
pub children_present : (t : Tree) →
    AllByRecursion (λ x. is_present (subtree t (x.0 ∷ [])) root ≡ true) (children t root)
children_present t =
    each_with (λ x. is_some (find name_cmp x.0 (children t root)) ≡ true)
    (λ x. is_present (subtree t (x.0 ∷ [])) root ≡ true)
    (λ x h. ap is_some (get-subtree t (x.0 ∷ []) root ∙ get-children t root x.0) ∙ h)
    (children t root) (found_each (children t root))

pub some_rooted : (t : Tree) → is_present t root ≡ true → (c : Content) × IsRooted t c
some_rooted t is = by_content (get t root) refl
  where
    by_content : (o : Option Content) → get t root ≡ o → (c : Content) × IsRooted t c
    by_content None e = absurd (true≢false (sym is ∙ ap is_some e))
    by_content (Some c) e = (c, is_rooted t c e)

-- ---- walks

module _ (file : Contents → Bytes) (spell : Tree → Bytes)
    (unfolds : (t : Tree) → spell t ≡ content_spelling file spell t (get t root)) where
  abbrev pub Walked : Tree → Type 0
  Walked t = spell t ≡ flat_map (pair_by file t) (entries t)

  -- the pairs below a name are spelled as in the part there
  later_pairs : (t : Tree) (n : Name) (ds : Pairs) → After root ds → flat_map (pair_by file t)
      (under (n ∷ []) ds) ≡ flat_map (pair_by file (subtree t (n ∷ []))) ds
  later_pairs t n [] h = refl
  later_pairs t n (([], c) ∷ ds) h = absurd (true≢false (sym (ap is_lt h.0)))
  later_pairs t n ((m ∷ q, c) ∷ ds) h =
      ap₂ (λ k ys. (last_name_spelling (m ∷ q) ++ standing_by file k c) ++ ys)
      (ap length (sym (subtree_children t (n ∷ []) (m ∷ q)))) (later_pairs t n ds h.1)

  -- and the name stands before the part's root
  named_part : (t : Tree) (n : Name) → is_present (subtree t (n ∷ [])) root ≡ true →
      Walked (subtree t (n ∷ [])) → length n ∷ n ++ spell (subtree t (n ∷ []))
      ≡ flat_map (pair_by file t) (under (n ∷ []) (entries (subtree t (n ∷ []))))
  named_part t n is walked =
      let s = subtree t (n ∷ []) in
      let some = some_rooted s is in
      let c = some.0 in
      let r = some.1 in
      let after = (subst Rising r.whole (rising-entries s)).0 in
      ap (λ b. length n ∷ n ++ b) (walked ∙ ap (flat_map (pair_by file s)) r.whole)
      ∙ (sym (append_assoc (length n ∷ n) (standing_by file (length (children s root)) c)
      (flat_map (pair_by file s) r.below))
      ∙ (ap₂ (λ k ys. ((length n ∷ n) ++ standing_by file k c) ++ ys)
      (ap length (subtree_children t (n ∷ []) root)) (sym (later_pairs t n r.below after))
      ∙ sym (ap (λ es. flat_map (pair_by file t) (under (n ∷ []) es)) r.whole)))

  abbrev below_names : Tree → List (Name × Content) → Pairs
  below_names t names = flat_map (λ x. under (x.0 ∷ []) (entries (subtree t (x.0 ∷ [])))) names

  walked_names : (t : Tree) (names : List (Name × Content)) →
      AllByRecursion (λ x. length x.0 ∷ x.0 ++ spell (subtree t (x.0 ∷ []))
      ≡ flat_map (pair_by file t) (under (x.0 ∷ []) (entries (subtree t (x.0 ∷ []))))) names →
      flat_map (λ x. length x.0 ∷ x.0 ++ spell (subtree t (x.0 ∷ []))) names
      ≡ flat_map (pair_by file t) (below_names t names)
  walked_names t [] h = refl
  walked_names t (x ∷ names) h =
      ap₂ (λ a b. a ++ b) h.0 (walked_names t names h.1)
      ∙ sym (flat_map-append (pair_by file t) (under (x.0 ∷ []) (entries (subtree t (x.0 ∷ []))))
      (below_names t names))

  -- one level, where the parts at the names are walks
  one_level : (t : Tree) → HasParents t → is_present t root ≡ true →
      ((n : Name) → is_present (subtree t (n ∷ [])) root ≡ true → Walked (subtree t (n ∷ []))) →
      Walked t
  one_level t h is below = by_content (get t root) refl
    where
      by_content : (o : Option Content) → get t root ≡ o → Walked t
      by_content None e = absurd (true≢false (sym is ∙ ap is_some e))
      by_content (Some (File c)) e =
          unfolds t ∙ (ap (content_spelling file spell t) e
          ∙ sym (ap (flat_map (pair_by file t))
          (file_alone t (File c) h e (λ k. no_file c (same_Some _ _ (sym k ∙ e))))
          ∙ append-nil (standing_by file (length (children t root)) (File c))))
      by_content (Some Directory) e =
          unfolds t ∙ (ap (content_spelling file spell t) e
          ∙ (ap (λ b. 2 ∷ to_be_bytes w16 (length (children t root)) ++ b)
          (walked_names t (children t root)
          (each_with (λ x. is_present (subtree t (x.0 ∷ [])) root ≡ true)
          (λ x. length x.0 ∷ x.0 ++ spell (subtree t (x.0 ∷ []))
          ≡ flat_map (pair_by file t) (under (x.0 ∷ []) (entries (subtree t (x.0 ∷ [])))))
          (λ x there. named_part t x.0 there (below x.0 there)) (children t root)
          (children_present t)))
          ∙ sym (ap (flat_map (pair_by file t)) (directory_grouped t h e))))

  pub walked_within : (d : ℕ) (t : Tree) → len t < d → HasParents t → is_present t root ≡ true →
      Walked t
  walked_within zero t l h is = absurd (omega (arith, l))
  walked_within (suc d) t l h is = one_level t h is (λ n there.
      let small = subtree_smaller t n [] is in
      walked_within d (subtree t (n ∷ [])) (omega (arith, small, l))
      (subtree-parents t (n ∷ []) h) there)

pub walks_by : (file : Contents → Bytes) (spell : Tree → Bytes) →
    ((t : Tree) → spell t ≡ content_spelling file spell t (get t root)) → (t : Tree) →
    HasParents t →
    is_present t root ≡ true → spell t ≡ flat_map (pair_by file t) (entries t)
walks_by file spell unfolds t h is =
    walked_within file spell unfolds (suc (len t)) t (omega arith) h is

pub tree_unfolds : (version : Version) (t : Tree) → spelling_in version t
    ≡ content_spelling (contents_spelling_in version) (spelling_in version) t (get t root)
tree_unfolds version t = spelling_unfolds (contents_spelling_in version) t

pub spelling_walks : SpellingIsWalk
spelling_walks version t h is =
    walks_by (contents_spelling_in version) (spelling_in version) (tree_unfolds version) t h is

-- ---- lengths

name_length : (p : Path) → length (last_name_spelling p) ≡ last_name_spelling_length p
name_length [] = refl
name_length (n ∷ []) = omega arith
name_length (n ∷ m ∷ p) = name_length (m ∷ p)

standing_length : (k : ℕ) (c : Content) → length (standing_spelling k c) ≡ content_spelling_length c
standing_length k Directory = refl
standing_length k (File c) = omega arith

pair_length : (t : Tree) (e : Pair) →
    length (pair_spelling t e) ≡ last_name_spelling_length e.0 + content_spelling_length e.1
pair_length t e =
    length-append (last_name_spelling e.0) (standing_spelling (length (children t e.0)) e.1)
    ∙ ap₂ (λ a b. a + b) (name_length e.0) (standing_length (length (children t e.0)) e.1)

pub spelling_measured : SpellingIsMeasured
spelling_measured t h is =
    ap length (spelling_walks current_version t h is)
    ∙ (length-flat_map (pair_spelling t) (entries t) ∙ ap (λ f. sum_by f (entries t))
    (λ i e. pair_length t e i))
