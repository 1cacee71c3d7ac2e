-- Marks of trees, and what formatted disks stand for.
use Rattle.std.proofs.Common.{◌≡◌, true, false, cond, List, [], ◌∷◌, ◌++◌, map, length, refl, sym}
use Rattle.std.proofs.Common.{ap, ◌∙◌, subst, Option, Some, None, option_map, is_some, IsSome}
use Rattle.sha2.proofs.Facts256.{length-sha256}
use Rattle.std.proofs.lemmas.Option.{none-some, same_Some}
use Rattle.std.specs.Ordering.{eq_by_cmp}
use Rattle.std.specs.FinMap.{find, entries, get, get-entries, get-from_entries}
use Rattle.syn_model.specs.Path.{Path, path_cmp, root}
use Rattle.syn_model.specs.Contents.{Contents, AreLawfulContents, digest_of}
use Rattle.syn_model.specs.Tree.{Tree, Content, Directory, File, Pair, subtree}
use Rattle.syn_model.specs.Tree.{IsPart, empty_directory}
use Rattle.syn_model.specs.Mark.{mark, mark_of}
use Rattle.syn_model.specs.History.{tree_of}
use Rattle.syn_model.proofs.ContentsLemmas.{digest_is_bytes}
use Rattle.syn_model.proofs.PathLemmas.{path_total}
use Rattle.syn_model.proofs.TreeLemmas.{get-subtree, same_tree}
use Rattle.syn_model.proofs.HistoryLemmas.{get-at_root, same_file}

find-marked : (q : Path) (es : List Pair) →
    find path_cmp q (map (λ e. (e.0, mark_of e.1)) es) ≡ option_map mark_of (find path_cmp q es)
find-marked q [] = refl
find-marked q (e ∷ es) =
    elim (eq_by_cmp path_cmp q e.0)
    as (λ b. cond b (Some (mark_of e.1)) (find path_cmp q (map (λ e. (e.0, mark_of e.1)) es))
    ≡ option_map mark_of (cond b (Some e.1) (find path_cmp q es)))
    [ true ↦ refl | false ↦ find-marked q es ]

-- marks are taken path by path
pub get-mark : (t : Tree) (q : Path) → get (mark t) q ≡ option_map mark_of (get t q)
unfolding mark
get-mark t q =
    get-from_entries path_total (map (λ e. (e.0, mark_of e.1)) (entries t)) q
    ∙ (find-marked q (entries t) ∙ ap (option_map mark_of) (sym (get-entries t q)))

pub mark-subtree : (t : Tree) (p : Path) → mark (subtree t p) ≡ subtree (mark t) p
mark-subtree t p = same_tree (mark (subtree t p)) (subtree (mark t) p) (λ q.
    get-mark (subtree t p) q ∙ (ap (option_map mark_of) (get-subtree t p q)
    ∙ (sym (get-mark t (p ++ q)) ∙ sym (get-subtree (mark t) p q))))

-- a tree of directories is its own mark
pub marked_directory : (q : Path) → get (mark (tree_of [])) q ≡ get empty_directory q
unfolding tree_of
marked_directory q =
    get-mark empty_directory q
    ∙ (ap (option_map mark_of) (get-at_root Directory q) ∙ (elim (eq_by_cmp path_cmp q root)
    as (λ b. option_map mark_of (cond b (Some Directory) None) ≡ cond b (Some Directory) None)
    [ true ↦ refl | false ↦ refl ] ∙ sym (get-at_root Directory q)))

-- each file of a tree of marks is a digest
pub mark-digests : (tree : Tree) (path : Path) (contents : Contents) →
    get (mark tree) path ≡ Some (File contents) → length contents.bytes ≡ 32
mark-digests tree path contents e = by (get tree path) (sym (get-mark tree path) ∙ e)
  where
    by : (o : Option Content) → option_map mark_of o ≡ Some (File contents) →
        length contents.bytes ≡ 32
    by None e = absurd (none-some _ e)
    by (Some Directory) e = absurd (let x : Directory ≡ File contents = same_Some _ _ e in cc)
    by (Some (File was)) e =
        let x : File (digest_of was) ≡ File contents = same_Some _ _ e in
        let same : digest_of was ≡ contents = same_file (digest_of was) contents x in
        sym (ap (λ c. length c.bytes) same) ∙ length-sha256 was.bytes

-- marks of a part are a part

pub some_mapped : (o : Option Content) → is_some (option_map mark_of o) ≡ is_some o
some_mapped None = refl
some_mapped (Some c) = refl

pub there_of : (t : Tree) (q : Path) → IsSome (get (mark t) q) → IsSome (get t q)
there_of t q some = sym (some_mapped (get t q)) ∙ (ap is_some (sym (get-mark t q)) ∙ some)

lawful_mark : (o : Option Content) →
    ((was : Contents) → o ≡ Some (File was) → AreLawfulContents was) → (contents : Contents) →
    option_map mark_of o ≡ Some (File contents) → AreLawfulContents contents
lawful_mark None h contents e = absurd (none-some _ e)
lawful_mark (Some Directory) h contents e =
    absurd (let x : Directory ≡ File contents = same_Some _ _ e in cc)
lawful_mark (Some (File was)) h contents e =
    subst AreLawfulContents (same_file (digest_of was) contents (same_Some _ _ e))
    (record { mode = (h was refl).mode; bytes = digest_is_bytes was.bytes })

pub mark-is_part : (t : Tree) → IsPart t → IsPart (mark t)
mark-is_part t h = record {
  parents =
      λ p n r some. get-mark t p
      ∙ ap (option_map mark_of) (h.parents p n r (there_of t (p ++ n ∷ r) some));
  names = λ p some. h.names p (there_of t p some);
  lawful =
      λ p contents found. lawful_mark (get t p) (h.lawful p) contents
      (sym (get-mark t p) ∙ found);
}
