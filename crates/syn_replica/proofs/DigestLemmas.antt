-- Digests that are looked up and kept.
use Rattle.std.proofs.Common.{◌≡◌, ◌≤◌, ◌+◌, ℕ, true, false, cond, List, [], ◌∷◌, refl, sym, ap}
use Rattle.std.proofs.Common.{◌∙◌, map, Some, IfSome, Ordering, Less, Equal, Greater, arith, length}
use Rattle.std.specs.List.{AllByRecursion}
use Rattle.std.specs.Map.{lookup}
use Rattle.std.specs.Ordering.{is_eq, nat_cmp, match_ordering}
use Rattle.std.specs.Str.{bytes_eq}
use Rattle.std.specs.Cmp.Lexicographic.{slice_cmp}
use Rattle.std.specs.BTreeMap.{insert_entry, is_at}
use Rattle.std.proofs.lemmas.List.Sums.{sum_by-cons}
use Rattle.std.proofs.lemmas.Map.Text.{is_eq-slice_cmp}
use Rattle.std.proofs.lemmas.Slice.Eq.{bytes_eq-Decides}
use Rattle.sha2.specs.Sha256.{sha256}
use Rattle.syn_replica.specs.inner.Digests.{Hashed, IsRight, digest_beside, size_of}

-- what stands beside the bytes is their digest
pub found_right : (bytes : List ℕ) (files : List Hashed) → AllByRecursion IsRight files →
    IfSome (digest_beside bytes files) (λ digest. digest ≡ sha256 bytes)
found_right bytes [] all = tt
found_right bytes (f ∷ fs) all =
    elim (bytes_eq bytes f.0)
    as (λ b. bytes_eq bytes f.0 ≡ b →
    IfSome (cond b (Some f.1) (digest_beside bytes fs)) (λ digest. digest ≡ sha256 bytes)) [
      | true ↦ λ same. all.0 ∙ ap sha256 (sym ((bytes_eq-Decides bytes f.0).0 same))
      | false ↦ λ _. found_right bytes fs all.1
    ] refl

same_bytes : (xs ys : List ℕ) → slice_cmp nat_cmp xs ys ≡ Equal → xs ≡ ys
same_bytes xs ys equal =
    (bytes_eq-Decides xs ys).0 (sym (is_eq-slice_cmp xs ys) ∙ ap is_eq equal)

-- ---- keys that are compared by their bytes

module _ {K : Type 0} (bytes_of : K → List ℕ) where
  abbrev pub files_of : List (K × List ℕ) → List Hashed
  files_of entries = map (λ entry. (bytes_of entry.0, entry.1)) entries

  abbrev pub compared : K → K → Ordering
  compared a b = slice_cmp nat_cmp (bytes_of a) (bytes_of b)

  -- what a look-up finds stands beside the bytes
  pub found_beside : (bytes : List ℕ) (es : List (K × List ℕ)) →
      lookup (is_at (λ k. slice_cmp nat_cmp bytes (bytes_of k))) es
      ≡ digest_beside bytes (files_of es)
  found_beside bytes [] = refl
  found_beside bytes (e ∷ es) =
      ap (λ rest. cond (is_eq (slice_cmp nat_cmp bytes (bytes_of e.0))) (Some e.1) rest)
      (found_beside bytes es)
      ∙ ap (λ b. cond b (Some e.1) (digest_beside bytes (files_of es)))
      (is_eq-slice_cmp bytes (bytes_of e.0))

  -- one more is right
  pub kept_right : (es : List (K × List ℕ)) (k : K) (digest : List ℕ) →
      AllByRecursion IsRight (files_of es) → digest ≡ sha256 (bytes_of k) →
      AllByRecursion IsRight (files_of (insert_entry compared es k digest))
  kept_right [] k digest all is = (is, tt)
  kept_right (e ∷ es) k digest all is =
      elim (compared k e.0)
      as (λ o. compared k e.0 ≡ o → AllByRecursion IsRight (files_of (match_ordering o
      ((k, digest) ∷ e ∷ es) ((e.0, digest) ∷ es)
      (e ∷ insert_entry compared es k digest)))) [
        | Less ↦ λ _. (is, all)
        | Equal ↦ λ equal. (is ∙ ap sha256 (same_bytes (bytes_of k) (bytes_of e.0) equal), all.1)
        | Greater ↦ λ _. (all.0, kept_right es k digest all.1 is)
      ] refl

  one_more : (e : K × List ℕ) (es : List (K × List ℕ)) →
      size_of (files_of (e ∷ es)) ≡ length (bytes_of e.0) + size_of (files_of es)
  one_more e es = sum_by-cons (λ (file : Hashed). length file.0) (bytes_of e.0, e.1) (files_of es)

  -- and takes no more than its bytes
  pub kept_size : (es : List (K × List ℕ)) (k : K) (digest : List ℕ) →
      size_of (files_of (insert_entry compared es k digest))
      ≤ size_of (files_of es) + length (bytes_of k)
  kept_size [] k digest = omega (arith, one_more (k, digest) [])
  kept_size (e ∷ es) k digest =
      elim (compared k e.0)
      as (λ o. size_of (files_of (match_ordering o
      ((k, digest) ∷ e ∷ es) ((e.0, digest) ∷ es)
      (e ∷ insert_entry compared es k digest)))
      ≤ size_of (files_of (e ∷ es)) + length (bytes_of k)) [
        | Less ↦ omega (arith, one_more (k, digest) (e ∷ es))
        | Equal ↦ omega (arith, one_more (e.0, digest) es, one_more e es)
        | Greater ↦
            omega (
              arith,
              one_more e (insert_entry compared es k digest),
              one_more e es,
              kept_size es k digest,
            )
      ]
