-- When a listing belongs, and what it leaves.
use Rattle.std.proofs.Common.{◌≡◌, ◌≤◌, ◌+◌, ℕ, suc, Bool, true, false, cond, not, ◌&&◌}
use Rattle.std.proofs.Common.{nat_le, nat_lt, List, [], ◌∷◌, ◌++◌, length, length-append, refl, sym}
use Rattle.std.proofs.Common.{ap, ap₂, ◌∙◌, Some, None, Less, Equal, Greater, is_eq, true≢false}
use Rattle.std.proofs.Common.{inl, inr, ◌⊎◌, arith, slice_index_or}
use Rattle.std.specs.Prelude.{All}
use Rattle.std.specs.Ordering.{eq_by_cmp, ordering_then}
use Rattle.std.specs.Cmp.{eq_by_cmp_equiv}
use Rattle.std.specs.List.{list_all}
use Rattle.std.specs.FinMap.{find, entries, get, insert, get-insert, len, len-entries}
use Rattle.std.proofs.lemmas.Bool.{and_parts}
use Rattle.std.proofs.lemmas.Bool.Decides.{nat_tests}
use Rattle.std.proofs.lemmas.List.Elements.{All-filter, filter_passes}
use Rattle.std.proofs.lemmas.List.Folds.{list_all-append}
use Rattle.std.proofs.lemmas.Option.{same_Some}
use Rattle.std.proofs.lemmas.List.{length-map}
use Rattle.syn_model.specs.Path.{Path, Name, path_cmp, name_cmp, root, child}
use Rattle.syn_model.specs.Tree.{Content, Pair, Directory, replace}
use Rattle.syn_model.specs.Limits.{children, fits_archive, fits_path, fits_paths}
use Rattle.syn_model.proofs.PathLemmas.{path_total, path_itself}
use Rattle.syn_placed.specs.Pairs.{Pairs, before, beyond, under}
use Rattle.syn_placed.proofs.RisingLemmas.{three_parts, rising_of}
use Rattle.syn_placed.proofs.TreeLemmas.{rising-entries, entries-replace, get-rising}
use Rattle.syn_mark.specs.Marks.{AreMarks}
use Rattle.syn_mark.specs.declared.mark.Mark.{Mark}
use Rattle.syn_scan.specs.Found.{Found, WasListedIn, is_open, IsFound}
use Rattle.syn_scan.specs.Asked.{named, listing_pairs, directory_with, contents_in, fit_below}
use Rattle.syn_scan.specs.Asked.{is_too_large, ListsOnly, without, with_listing}
use Rattle.syn_scan.specs.inner.Kept.{IsFlat, NoneNext}
use Rattle.syn_scan.proofs.FirstLemmas.{passed_after_listing}
use Rattle.syn_scan.proofs.ShownLemmas.{listing_entries, shows_listing, shows_others, only_itself}
use Rattle.syn_scan.proofs.ShownLemmas.{ShowsNothing}
use Rattle.syn_scan.proofs.FoundLemmas.{opened, alike_or}

abbrev Listing : Type 0
Listing = List (Name × Content)

-- ---- a listing is flat

find_deep : (n m : Name) (r : Path) (es : Listing) → find path_cmp (n ∷ m ∷ r) (named es) ≡ None
find_deep n m r [] = refl
find_deep n m r (e ∷ es) =
    elim (name_cmp n e.0) as (λ o. cond (is_eq (ordering_then o Greater)) (Some e.1)
    (find path_cmp (n ∷ m ∷ r) (named es)) ≡ None) [
      | Less ↦ find_deep n m r es
      | Equal ↦ find_deep n m r es
      | Greater ↦ find_deep n m r es
    ]

pub listing_is_flat : (es : Listing) → AreMarks (listing_pairs es) → IsFlat (directory_with es)
listing_is_flat es h = record {
  rooted = get-rising (listing_pairs es) root (rising_of (listing_pairs es) h.rising);
  nothing_below =
      λ n m r. get-rising (listing_pairs es) (n ∷ m ∷ r) (rising_of (listing_pairs es) h.rising)
      ∙ find_deep n m r es;
}

length_named : (es : Listing) → length (named es) ≡ length es
length_named [] = refl
length_named (e ∷ es) = ap suc (length_named es)

pub listing_len : (es : Listing) → AreMarks (listing_pairs es) →
    len (directory_with es) ≡ suc (length es)
listing_len es h =
    len-entries (directory_with es) ∙ (ap length (listing_entries es h) ∙ ap suc (length_named es))

pub length_contents : (es : List (Name × Mark)) → length (contents_in es) ≡ length es
length_contents [] = refl
length_contents (e ∷ es) = ap suc (length_contents es)

pub not_too_large : (found : Found) (es : Listing) → len found.marks + length es ≤ 4096 →
    is_too_large found es ≡ false
not_too_large found es h = few (len found.marks + length es) h
  where
    few : (n : ℕ) → n ≤ 4096 → nat_lt 4096 n ≡ false
    few n l = grind (arith, nat_tests)

-- ---- the limits

abbrev fit : Pairs → Bool
fit es = list_all (λ (pair : Pair). fits_path pair.0) es

fit_named : (p : Path) (es : Listing) → fit (under p (named es)) ≡ fit_below p es
fit_named p [] = refl
fit_named p (e ∷ es) = ap (λ b. fits_path (child p e.0) && b) (fit_named p es)

module _ (found : Found) (p : Path) (es : Listing) (f : IsFound found) (o : is_open found p ≡ true)
    (rising : AreMarks (listing_pairs es)) where
  abbrev front : Pairs
  front = before p (entries found.marks)

  abbrev back : Pairs
  back = beyond p (entries found.marks)

  shows_nothing : ShowsNothing found.marks p
  shows_nothing n = f.nothing_below p n (opened found p o).not_listed

  old_list : entries found.marks ≡ front ++ ((p ++ [], Directory) ∷ back)
  old_list =
      three_parts p (entries found.marks) (rising-entries found.marks)
      ∙ ap (λ us. front ++ (us ++ back))
      (only_itself found.marks p f.marks.part.parents (opened found p o).directory shows_nothing)

  new_list : entries (replace found.marks p (directory_with es))
      ≡ front ++ ((p ++ [], Directory) ∷ (under p (named es) ++ back))
  new_list =
      entries-replace found.marks p (directory_with es)
      ∙ ap (λ us. front ++ (under p us ++ back)) (listing_entries es rising)

  old_fit : fits_paths found.marks ≡ (fit front && (fits_path (p ++ []) && fit back))
  old_fit =
      ap fit old_list ∙ list_all-append (λ (pair : Pair). fits_path pair.0) front
      ((p ++ [], Directory) ∷ back)

  new_fit : fits_paths (replace found.marks p (directory_with es))
      ≡ (fit front && (fits_path (p ++ []) && (fit_below p es && fit back)))
  new_fit =
      ap fit new_list ∙ (list_all-append (λ (pair : Pair). fits_path pair.0) front
      ((p ++ [], Directory) ∷ (under p (named es) ++ back))
      ∙ ap (λ b. fit front && (fits_path (p ++ []) && b)) (list_all-append (λ (pair : Pair).
      fits_path pair.0) (under p (named es)) back ∙ ap (λ b. b && fit back) (fit_named p es)))

  pub new_len : len (replace found.marks p (directory_with es)) ≡ len found.marks + length es
  new_len =
      let a = len-entries (replace found.marks p (directory_with es)) ∙ ap length new_list in
      let b = len-entries found.marks ∙ ap length old_list in
      omega (
        arith,
        a,
        b,
        length-append front ((p ++ [], Directory) ∷ (under p (named es) ++ back)),
        length-append front ((p ++ [], Directory) ∷ back),
        length-append (under p (named es)) back,
        length_under p (named es),
        length_named es,
      )
    where
      length_under : (at : Path) (us : Pairs) → length (under at us) ≡ length us
      length_under at us = length-map us (λ (pair : Pair). (at ++ pair.0, pair.1))

  middle : (a b c d : Bool) → (a && (b && c)) ≡ true → (a && (b && (d && c))) ≡ d
  middle true true true true h = refl
  middle true true true false h = refl
  middle true true false d h = absurd (true≢false (sym h))
  middle true false c d h = absurd (true≢false (sym h))
  middle false b c d h = absurd (true≢false (sym h))

  -- the marks with the listing keep the limits exactly where the paths of the listing do
  pub fits_then : is_too_large found es ≡ false →
      fits_archive (replace found.marks p (directory_with es)) ≡ fit_below p es
  fits_then small =
      let both = and_parts (nat_le (len found.marks) 4096) (fits_paths found.marks) f.fits in
      ap₂ (λ a b. a && b) (few (len (replace found.marks p (directory_with es)))
      (len found.marks + length es) new_len small)
      (new_fit ∙ middle (fit front) (fits_path (p ++ [])) (fit back) (fit_below p es)
      (sym old_fit ∙ both.1))
    where
      few : (m n : ℕ) → m ≡ n → nat_lt 4096 n ≡ false → nat_le m 4096 ≡ true
      few m n e h = grind (arith, nat_tests)

  -- ---- what was listed

  pub listed_so : (k : ℕ) → WasListedIn (with_listing found p k es) p k es
  listed_so k = record {
    answered =
        get-insert path_total found.listed p k p
        ∙ ap (λ b. cond b (Some k) (get found.listed p)) (path_itself p);
    shows = shows_listing found.marks p es rising;
  }

  pub lists_only : (k : ℕ) → ListsOnly found p k es (with_listing found p k es)
  lists_only k at since shows was = by_place (alike_or at p)
    where
      by_place : (at ≡ p) ⊎ (eq_by_cmp path_cmp at p ≡ false) →
          ((at ≡ p) × (since ≡ k) × (shows ≡ es)) ⊎ WasListedIn found at since shows
      by_place (inl same) = inl (
        same,
        same_Some _ _
            (sym was.answered ∙ (ap (get (insert found.listed p k)) same ∙ (listed_so k).answered)),
        sym was.shows
            ∙ (ap (children (replace found.marks p (directory_with es))) same
            ∙ (listed_so k).shows),
      )
      by_place (inr other) = inr (record {
        answered =
            sym (get-insert path_total found.listed p k at
            ∙ ap (λ b. cond b (Some k) (get found.listed at)) other) ∙ was.answered;
        shows =
            sym (shows_others found.marks p es at f.marks.part.parents (opened found p o).directory
            shows_nothing rising ((eq_by_cmp_equiv path_total).symm p at ∙ other)) ∙ was.shows;
      })

-- ---- what was passed

pub passed_then : (found : Found) (out : List Path) (p : Path) (es : Listing) (k n : ℕ) →
    IsFound found → is_open found p ≡ true → AreMarks (listing_pairs es) →
    n ≤ length (before p (entries found.marks)) → NoneNext found out (entries found.marks) n →
    NoneNext (with_listing found p k es) (without out p)
    (entries (replace found.marks p (directory_with es))) n
passed_then found out p es k n f o rising few none =
    passed_after_listing found out p k n (directory_with es) (before p (entries found.marks))
    (beyond p (entries found.marks)) (under p (named es) ++ beyond p (entries found.marks))
    (p ++ [], Directory)
    (old_list found p es f o rising) (new_list found p es f o rising) few none

-- ---- what is out

other_out : (b : Bool) → not b ≡ true → b ≡ false
other_out true h = absurd (true≢false (sym h))
other_out false h = refl

pub out_then : (old new : Found) (out : List Path) (p : Path) →
    ((q : Path) → eq_by_cmp path_cmp q p ≡ false → is_open old q ≡ true → is_open new q ≡ true) →
    All (λ q. is_open old q ≡ true) out → All (λ q. is_open new q ≡ true) (without out p)
out_then old new out p stays all k d l =
    let q = slice_index_or (without out p) k d in
    stays q ((eq_by_cmp_equiv path_total).symm q p ∙ other_out (eq_by_cmp path_cmp p q)
    (filter_passes (λ other. not (eq_by_cmp path_cmp p other)) out k d l))
    (All-filter (λ other. not (eq_by_cmp path_cmp p other))
    (λ w. is_open old w ≡ true) out all k d l)
