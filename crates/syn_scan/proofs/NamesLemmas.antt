-- A listing whose names rise is the marks of a directory.
use Rattle.std.proofs.Common.{◌≡◌, ◌≤◌, ◌<◌, ◌∙◌, ◌&&◌, ℕ, suc, Bool, true, false, List, [], ◌∷◌}
use Rattle.std.proofs.Common.{length, refl, sym, ap, ap₂, Less, Equal, Greater, true≢false, is_lt}
use Rattle.std.proofs.Common.{arith}
use Rattle.std.specs.Ordering.{ordering_then}
use Rattle.std.specs.List.{list_all}
use Rattle.std.specs.FinMap.{find, entries, get-entries, len, len-entries}
use Rattle.std.specs.FinMap.Entries.{is_sorted, below_all}
use Rattle.std.specs.declared.cmp.Ordering.{Ordering}
use Rattle.syn_model.specs.Path.{Path, Name, path_cmp, name_cmp, root}
use Rattle.syn_model.specs.Tree.{Tree, Content, is_directory, is_directory_content}
use Rattle.syn_placed.specs.Pairs.{Pairs}
use Rattle.syn_mark.specs.Marks.{AreMarks, AreMarkPairs}
use Rattle.syn_mark.specs.Placings.{stands_in}
use Rattle.syn_mark.proofs.PlacingLemmas.{placed_marks}
use Rattle.syn_scan.specs.Asked.{named, names_rise, listing_pairs}

abbrev Listing : Type 0
Listing = List (Name × Content)

then_same : (o : Ordering) → ordering_then o Equal ≡ o
then_same Less = refl
then_same Equal = refl
then_same Greater = refl

below_named : (n : Name) (es : Listing) →
    below_all path_cmp (n ∷ []) (named es) ≡ below_all name_cmp n es
below_named n [] = refl
below_named n (e ∷ es) = ap₂ (λ o b. is_lt o && b) (then_same (name_cmp n e.0)) (below_named n es)

sorted_named : (es : Listing) → is_sorted path_cmp (named es) ≡ is_sorted name_cmp es
sorted_named [] = refl
sorted_named (e ∷ es) = ap₂ (λ a b. a && b) (below_named e.0 es) (sorted_named es)

root_below : (es : Listing) → below_all path_cmp root (named es) ≡ true
root_below [] = refl
root_below (e ∷ es) = root_below es

rising_pairs : (es : Listing) → is_sorted path_cmp (listing_pairs es) ≡ names_rise es
rising_pairs es = ap₂ (λ a b. a && b) (root_below es) (sorted_named es)

-- marks have rising names
pub rise_of : (es : Listing) → AreMarks (listing_pairs es) → names_rise es ≡ true
rise_of es h = sym (rising_pairs es) ∙ h.rising

stand_named : (below : Pairs) (es : Listing) → list_all (stands_in below) (named es) ≡ true
stand_named below [] = refl
stand_named below (e ∷ es) = stand_named below es

length_named : (es : Listing) → length (named es) ≡ length es
length_named [] = refl
length_named (e ∷ es) = ap suc (length_named es)

few : (n m : ℕ) → n ≡ m → m < 4096 → suc n ≤ 4096
few n m e h = omega (arith, e, h)

pub marks_of : (es : Listing) → names_rise es ≡ true → AreMarkPairs (named es) → length es < 4096 →
    AreMarks (listing_pairs es)
marks_of es rise lawful count =
    placed_marks (named es) (rising_pairs es ∙ rise) (stand_named (named es) es) lawful
    (few (length (named es)) (length es) (length_named es) count)

-- so names that are no marks do not rise
pub do_not_rise : (es : Listing) → AreMarkPairs (named es) → ¬ AreMarks (listing_pairs es) →
    length es < 4096 → names_rise es ≡ false
do_not_rise es lawful none count = by (names_rise es) refl
  where
    by : (b : Bool) → names_rise es ≡ b → names_rise es ≡ false
    by true h = absurd (none (marks_of es h lawful count))
    by false h = h

-- where a directory stands, there is a node
pub has_node : (t : Tree) (p : Path) → is_directory t p ≡ true → 1 ≤ len t
has_node t p h = by (entries t) refl
  where
    by : (es : Pairs) → entries t ≡ es → 1 ≤ len t
    by [] e =
        absurd
        (true≢false (sym h ∙ ap is_directory_content (get-entries t p ∙ ap (find path_cmp p) e)))
    by (x ∷ es) e = omega (arith, len-entries t ∙ ap length e)
