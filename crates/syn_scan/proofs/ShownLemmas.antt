-- What is shown once a directory that showed nothing was listed.
use Rattle.std.proofs.Common.{◌≡◌, Bool, true, false, cond, List, [], ◌∷◌, ◌++◌, filter_map, refl}
use Rattle.std.proofs.Common.{sym, ap, ◌∙◌, Option, Some, None, is_some, true≢false, append-nil}
use Rattle.std.proofs.Common.{append_assoc}
use Rattle.std.specs.Prelude.{option_map, option_and_then}
use Rattle.std.specs.List.{cons_option}
use Rattle.std.specs.Ordering.{eq_by_cmp}
use Rattle.std.specs.FinMap.{find, entries, get}
use Rattle.std.proofs.lemmas.Option.{none-some}
use Rattle.std.proofs.lemmas.List.Elements.{filter_map-append}
use Rattle.syn_model.specs.Path.{Path, Name, path_cmp, name_cmp, root, child, strip_prefix}
use Rattle.syn_model.specs.Tree.{Tree, Content, Pair, Directory, File, HasParents, subtree, replace}
use Rattle.syn_model.specs.Tree.{is_directory, is_directory_content, empty_directory}
use Rattle.syn_model.specs.Limits.{children, only_name}
use Rattle.syn_model.proofs.PathLemmas.{parent-append, path_itself, name_itself}
use Rattle.syn_model.proofs.TreeLemmas.{same_tree, get-subtree, subtree-replace}
use Rattle.syn_model.proofs.DirectoryLemmas.{absent_below}
use Rattle.syn_model.proofs.QuietLemmas.{get-children}
use Rattle.syn_model.proofs.SubtreeLemmas.{subtree_children}
use Rattle.syn_model.proofs.HistoryLemmas.{get-at_root}
use Rattle.syn_placed.specs.Pairs.{is_child, before, beyond, under}
use Rattle.syn_placed.specs.Pairs as pairs
use Rattle.syn_placed.proofs.RisingLemmas.{three_parts}
use Rattle.syn_placed.proofs.TreeLemmas.{rising-entries, entries-replace, entries-subtree}
use Rattle.syn_placed.proofs.TreeLemmas.{within-taken, entries-rising}
use Rattle.syn_placed.proofs.RisingLemmas.{rising_of}
use Rattle.syn_placed.proofs.CountLemmas.{child_parent}
use Rattle.syn_mark.specs.Marks.{AreMarks}
use Rattle.syn_scan.specs.Asked.{named, listing_pairs, directory_with}
use Rattle.syn_model.proofs.RowLemmas.{entries-at_root}

-- nothing is shown below the path
abbrev pub ShowsNothing : Tree → Path → Type 0
ShowsNothing t p = (n : Name) → get t (child p n) ≡ None

pub deeper : (t : Tree) (p : Path) (n : Name) (r : Path) → HasParents t → ShowsNothing t p →
    get t (p ++ n ∷ r) ≡ None
deeper t p n r parents nothing =
    ap (get t) (sym (append_assoc p (n ∷ []) r)) ∙ absent_below t (child p n) parents (nothing n) r

-- where nothing stands below, there are no children
pub no_children : (t : Tree) (p : Path) → ShowsNothing t p → children t p ≡ []
no_children t p nothing = empty_of (children t p) (λ n. sym (get-children t p n) ∙ nothing n)
  where
    empty_of : (es : List (Name × Content)) → ((n : Name) → find name_cmp n es ≡ None) → es ≡ []
    empty_of [] h = refl
    empty_of (e ∷ es) h =
        absurd (none-some _
        (sym (h e.0) ∙ ap (λ b. cond b (Some e.1) (find name_cmp e.0 es)) (name_itself e.0)))

-- ---- a listing as a tree

pub listing_entries : (es : List (Name × Content)) → AreMarks (listing_pairs es) →
    entries (directory_with es) ≡ listing_pairs es
listing_entries es h = entries-rising (listing_pairs es) (rising_of (listing_pairs es) h.rising)

abbrev child_of : Path → Pair → Option (Name × Content)
child_of q pair =
    option_map (λ name. (name, pair.1)) (option_and_then only_name (strip_prefix q pair.0))

kids_named : (es : List (Name × Content)) → filter_map (child_of root) (named es) ≡ es
kids_named [] = refl
kids_named (e ∷ es) = ap (λ xs. e ∷ xs) (kids_named es)

-- its children are the names of the listing
pub listing_children : (es : List (Name × Content)) → AreMarks (listing_pairs es) →
    children (directory_with es) root ≡ es
listing_children es h =
    ap (λ xs. filter_map (child_of root) xs) (listing_entries es h) ∙ kids_named es

-- what was listed is shown
pub shows_listing : (t : Tree) (p : Path) (es : List (Name × Content)) →
    AreMarks (listing_pairs es) → children (replace t p (directory_with es)) p ≡ es
shows_listing t p es h =
    let u = directory_with es in
    ap (children (replace t p u)) (sym (append-nil p))
    ∙ (sym (subtree_children (replace t p u) p root)
    ∙ (ap (λ w. children w root) (subtree-replace t p u) ∙ listing_children es h))

-- ---- and nothing else changes

-- a directory that shows nothing is an empty one
empty_part : (t : Tree) (p : Path) → HasParents t → is_directory t p ≡ true → ShowsNothing t p →
    subtree t p ≡ empty_directory
empty_part t p parents here nothing =
    same_tree (subtree t p) empty_directory
    (λ q. get-subtree t p q ∙ (at q ∙ sym (get-at_root Directory q)))
  where
    directory : (o : Option Content) → is_directory_content o ≡ true → o ≡ Some Directory
    directory None h = absurd (true≢false (sym h))
    directory (Some Directory) h = refl
    directory (Some (File c)) h = absurd (true≢false (sym h))

    at : (q : Path) → get t (p ++ q) ≡ cond (eq_by_cmp path_cmp q root) (Some Directory) None
    at [] = ap (get t) (append-nil p) ∙ directory (get t p) here
    at (n ∷ r) = deeper t p n r parents nothing

pub only_itself : (t : Tree) (p : Path) → HasParents t → is_directory t p ≡ true →
    ShowsNothing t p → pairs.within p (entries t) ≡ (p ++ [], Directory) ∷ []
only_itself t p parents here nothing =
    within-taken p (entries t) ∙ ap (under p) (sym (entries-subtree t p)
    ∙ (ap entries (empty_part t p parents here nothing) ∙ entries-at_root Directory))

no_name : (o : Option Name) → is_some o ≡ false → o ≡ None
no_name None h = refl
no_name (Some n) h = absurd (true≢false h)

-- a name in one directory is in no other
elsewhere : (q p : Path) (n : Name) → eq_by_cmp path_cmp p q ≡ false →
    option_and_then only_name (strip_prefix q (child p n)) ≡ None
elsewhere q p n other = no_name _ (by_case (is_child q (child p n)) refl)
  where
    by_case : (b : Bool) → is_child q (child p n) ≡ b → b ≡ false
    by_case true is =
        absurd (true≢false (sym (path_itself p) ∙ (ap (eq_by_cmp path_cmp p) (sym (ap (λ w. w)
        (sym (child_parent q (child p n) is) ∙ (parent-append p n [] ∙ append-nil p)))) ∙ other)))
    by_case false is = refl

kids_elsewhere : (q p : Path) (es : List (Name × Content)) → eq_by_cmp path_cmp p q ≡ false →
    filter_map (child_of q) (under p (named es)) ≡ []
kids_elsewhere q p [] other = refl
kids_elsewhere q p (e ∷ es) other =
    ap (λ o. cons_option (option_map (λ name. (name, e.1)) o)
    (filter_map (child_of q) (under p (named es)))) (elsewhere q p e.0 other)
    ∙ kids_elsewhere q p es other

-- the listing of one directory leaves what every other shows
pub shows_others : (t : Tree) (p : Path) (es : List (Name × Content)) (q : Path) → HasParents t →
    is_directory t p ≡ true → ShowsNothing t p → AreMarks (listing_pairs es) →
    eq_by_cmp path_cmp p q ≡ false → children (replace t p (directory_with es)) q ≡ children t q
shows_others t p es q parents here nothing rising other =
    let f = child_of q in
    let front = before p (entries t) in
    let back = beyond p (entries t) in
    let one : Pair = (p ++ [], Directory) in
    let new = ap (filter_map f) (entries-replace t p (directory_with es)
    ∙ ap (λ us. front ++ (under p us ++ back)) (listing_entries es rising)) in
    let old = ap (filter_map f) (three_parts p (entries t) (rising-entries t)
    ∙ ap (λ us. front ++ (us ++ back)) (only_itself t p parents here nothing)) in
    new ∙ (filter_map-append f front ((one ∷ under p (named es)) ++ back)
    ∙ (ap (λ xs. filter_map f front ++ xs)
    (filter_map-append f (one ∷ []) (under p (named es) ++ back)
    ∙ ap (λ xs. filter_map f (one ∷ []) ++ xs) (filter_map-append f (under p (named es)) back
    ∙ ap (λ xs. xs ++ filter_map f back) (kids_elsewhere q p es other)))
    ∙ (ap (λ xs. filter_map f front ++ xs) (sym (filter_map-append f (one ∷ []) back))
    ∙ sym (old ∙ filter_map-append f front (one ∷ back)))))
