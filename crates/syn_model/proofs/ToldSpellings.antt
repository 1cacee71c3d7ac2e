-- What the spellings of trees and of marks tell.
use Rattle.std.proofs.Common.{◌≡◌, ◌≤◌, ◌<◌, ◌^◌, ℕ, true, ◌&&◌, nat_le, List, [], ◌∷◌, ◌++◌}
use Rattle.std.proofs.Common.{length, filter_map, refl, sym, ap, ap₂, ◌∙◌, Some, append_assoc}
use Rattle.std.proofs.Common.{arith, cond, false}
use Rattle.std.specs.Int.{from_be_bytes, to_be_bytes, w16, w32}
use Rattle.std.proofs.lemmas.Nat.{from_be_bytes-to_be_bytes_2, from_be_bytes-to_be_bytes_4}
use Rattle.std.proofs.lemmas.Bool.{leb-true, and_parts}
use Rattle.std.specs.Ordering.{eq_by_cmp}
use Rattle.std.specs.List.{list_all}
use Rattle.std.specs.FinMap.{entries, find, get, get-entries, len, len-entries}
use Rattle.std.proofs.lemmas.Option.{none-some, same_Some}
use Rattle.syn_model.specs.Path.{Bytes, Path, path_cmp, root}
use Rattle.syn_model.specs.Contents.{Contents, AreLawfulContentsIn, IsDigestIn, IsModeIn}
use Rattle.syn_model.specs.Contents.{contents_spelling_in, digest_spelling_in, mode_spelling_in}
use Rattle.syn_model.specs.Version.{Version, One, Two}
use Rattle.syn_model.specs.Tree.{Tree, Content, Directory, File, Pair, IsPartIn, subtree}
use Rattle.syn_model.specs.Mark.{IsMarksIn}
use Rattle.syn_model.specs.Limits.{children, fits_content, fits_part}
use Rattle.syn_model.specs.MarkSpelling.{NoMarkSpellingBeginsAnother}
use Rattle.syn_model.specs.Laws.{NoSpellingBeginsAnother}
use Rattle.syn_model.proofs.ContentsLemmas.{same_contents}
use Rattle.syn_model.proofs.LengthLemmas.{top}
use Rattle.syn_model.proofs.VersionLemmas.{part_now}
use Rattle.syn_model.proofs.PathLemmas.{same_path}
use Rattle.syn_model.proofs.SpellingLemmas.{IsTold, split, told_by}
use Rattle.syn_model.proofs.SubtreeLemmas.{subtree_smaller, subtree-is_part, subtree-fits}
use Rattle.syn_model.proofs.TreeLemmas.{get-subtree}

-- ---- what a file holds

-- bytes after their length
pub text_tells : (a b r s : Bytes) → length a < 2 ^ 32 → length b < 2 ^ 32 →
    (to_be_bytes w32 (length a) ++ a) ++ r ≡ (to_be_bytes w32 (length b) ++ b) ++ s →
    (a ≡ b) × (r ≡ s)
text_tells a b r s la lb e =
    let whole = sym (append_assoc (to_be_bytes w32 (length a)) a r)
    ∙ (e ∙ append_assoc (to_be_bytes w32 (length b)) b s) in
    let count = split (to_be_bytes w32 (length a)) (to_be_bytes w32 (length b)) _ _ refl whole in
    let long = sym (from_be_bytes-to_be_bytes_4 (length a) la)
    ∙ (ap (from_be_bytes w32) count.0 ∙ from_be_bytes-to_be_bytes_4 (length b) lb) in
    split a b r s long count.1

-- modes, which the first version does not spell
modes_tell : (version : Version) (m n : ℕ) (x y : Bytes) → IsModeIn version m →
    IsModeIn version n → mode_spelling_in version m ++ x ≡ mode_spelling_in version n ++ y →
    (m ≡ n) × (x ≡ y)
modes_tell One m n x y hm hn e = (hm ∙ sym hn, e)
modes_tell Two m n x y hm hn e =
    let both = split (to_be_bytes w16 m) (to_be_bytes w16 n) x y refl e in (
      sym (from_be_bytes-to_be_bytes_2 m (omega (arith, hm)))
          ∙ (ap (from_be_bytes w16) both.0 ∙ from_be_bytes-to_be_bytes_2 n (omega (arith, hn))),
      both.1,
    )

pub contents_tell : (version : Version) (c d : Contents) (r s : Bytes) →
    AreLawfulContentsIn version c → AreLawfulContentsIn version d →
    length c.bytes < 2 ^ 32 → length d.bytes < 2 ^ 32 →
    contents_spelling_in version c ++ r ≡ contents_spelling_in version d ++ s → (c ≡ d) × (r ≡ s)
contents_tell version c d r s hc hd lc ld e =
    let whole = sym (moved c r) ∙ (e ∙ moved d s) in
    let text = modes_tell version c.mode d.mode (after c r) (after d s) hc.mode hd.mode whole in
    let same = text_tells c.bytes d.bytes r s lc ld text.1 in
    (same_contents c d text.0 same.0, same.1)
  where
    after : Contents → Bytes → Bytes
    after c r = (to_be_bytes w32 (length c.bytes) ++ c.bytes) ++ r

    moved : (c : Contents) (r : Bytes) →
        contents_spelling_in version c ++ r ≡ mode_spelling_in version c.mode ++ after c r
    moved c r = ap (λ xs. xs ++ r) (append_assoc (mode_spelling_in version c.mode)
        (to_be_bytes w32 (length c.bytes)) c.bytes)
        ∙ append_assoc (mode_spelling_in version c.mode)
        (to_be_bytes w32 (length c.bytes) ++ c.bytes) r

pub digests_tell : (version : Version) (c d : Contents) (r s : Bytes) → IsDigestIn version c →
    IsDigestIn version d →
    digest_spelling_in version c ++ r ≡ digest_spelling_in version d ++ s → (c ≡ d) × (r ≡ s)
digests_tell version c d r s hc hd e =
    let whole = sym (append_assoc (mode_spelling_in version c.mode) c.bytes r)
    ∙ (e ∙ append_assoc (mode_spelling_in version d.mode) d.bytes s) in
    let digest = modes_tell version c.mode d.mode (c.bytes ++ r) (d.bytes ++ s) hc.0.mode hd.0.mode
    whole in
    let same = split c.bytes d.bytes r s (hc.1 ∙ sym hd.1) digest.1 in
    (same_contents c d digest.0 same.0, same.1)

-- ---- limits

module _ (t : Tree) (h : fits_part t ≡ true) where
  -- what holds of each pair holds of what is found
  found : (es : List (Path × Content)) (p : Path) (c : Content) →
      list_all (λ pair. fits_content pair.1 && nat_le (length (children t pair.0)) 256) es ≡ true →
      find path_cmp p es ≡ Some c → (fits_content c && nat_le (length (children t p)) 256) ≡ true
  found [] p c f e = absurd (none-some _ e)
  found (x ∷ es) p c f e =
      let two = and_parts (fits_content x.1 && nat_le (length (children t x.0)) 256) _ f in
      elim (eq_by_cmp path_cmp p x.0)
      as (λ b. eq_by_cmp path_cmp p x.0 ≡ b → cond b (Some x.1) (find path_cmp p es) ≡ Some c →
      (fits_content c && nat_le (length (children t p)) 256) ≡ true) [
        | true ↦ λ same k. ap₂ (λ q d. fits_content d && nat_le (length (children t q)) 256)
            (same_path p x.0 same) (sym (same_Some _ _ k)) ∙ two.0
        | false ↦ λ _ k. found es p c two.1 k
      ] refl e

  at : (p : Path) (c : Content) → get t p ≡ Some c →
      (fits_content c ≡ true) × (nat_le (length (children t p)) 256 ≡ true)
  at p c e =
      and_parts (fits_content c) (nat_le (length (children t p)) 256)
      (found (entries t) p c h (sym (get-entries t p) ∙ e))

  brief : (contents : Contents) → get t root ≡ Some (File contents) → length contents.bytes < 2 ^ 32
  brief contents e =
      let small = leb-true (length contents.bytes) 16384 (at root (File contents) e).0 in
      omega (arith, small)

  few : get t root ≡ Some Directory → length (children t root) < 2 ^ 16
  few e =
      let small = leb-true (length (children t root)) 256 (at root Directory e).1 in
      omega (arith, small)

-- ---- trees

abbrev IsSpelled : Version → Tree → Type 0
IsSpelled version t = IsPartIn version t × (fits_part t ≡ true)

trees_told : (version : Version) → IsTold (contents_spelling_in version) (IsSpelled version)
trees_told version = record {
  part = λ t h. part_now version t h.0;
  below = λ t n there h. (subtree-is_part t (n ∷ []) h.0, subtree-fits t (n ∷ []) h.1);
  few = λ t h. few t h.1;
  tells = λ t u c d r s ht hu a b. contents_tell version c d r s (ht.0.lawful root c a)
      (hu.0.lawful root d b) (brief t ht.1 c a) (brief u hu.1 d b);
}

-- no spelling begins another
pub spelling_tells : NoSpellingBeginsAnother
spelling_tells version t u r s ht hu ft fu e =
    told_by (contents_spelling_in version) (IsSpelled version) (trees_told version) t u r s
    (ht, ft) (hu, fu) e

-- ---- marks

-- what is below a path of marks are marks
pub marks_below : {version : Version} (t : Tree) (p : Path) → IsMarksIn version t →
    IsMarksIn version (subtree t p)
marks_below t p is = record {
  part = subtree-is_part t p is.part;
  digests = λ q contents e. is.digests (p ++ q) contents (sym (get-subtree t p q) ∙ e);
}

-- a directory has no more names than the tree has pairs
names_few : (es : List Pair) → length (filter_map top es) ≤ length es
names_few [] = omega arith
names_few (([], c) ∷ es) = let rest = names_few es in omega (arith, rest)
names_few ((n ∷ [], c) ∷ es) = let rest = names_few es in omega (arith, rest)
names_few ((n ∷ m ∷ q, c) ∷ es) = let rest = names_few es in omega (arith, rest)

abbrev AreMarks : Version → Tree → Type 0
AreMarks version t = IsMarksIn version t × (len t ≤ 4096)

marks_told : (version : Version) → IsTold (digest_spelling_in version) (AreMarks version)
marks_told version = record {
  part = λ t h. part_now version t h.0.part;
  below = λ t n there h. let small = subtree_smaller t n [] there in let most = h.1 in
      (marks_below t (n ∷ []) h.0, omega (arith, small, most));
  few = λ t h _. let names = names_few (entries t) in let count = len-entries t in
      let most = h.1 in omega (arith, names, count, most);
  tells = λ t u c d r s ht hu a b. digests_tell version c d r s
      (ht.0.part.lawful root c a, ht.0.digests root c a)
      (hu.0.part.lawful root d b, hu.0.digests root d b);
}

pub mark_spelling_tells : NoMarkSpellingBeginsAnother
mark_spelling_tells version t u r s ht hu ft fu e =
    told_by (digest_spelling_in version) (AreMarks version) (marks_told version) t u r s (ht, ft)
    (hu, fu) e
