-- What no event touched is as it was, also in what a scan listed.
use Rattle.std.proofs.Common.{◌≡◌, ◌≤◌, ℕ, zero, suc, Bool, true, false, cond, not, List, [], ◌∷◌}
use Rattle.std.proofs.Common.{◌++◌, length, take, drop, fold, refl, sym, ap, ◌∙◌, subst}
use Rattle.std.proofs.Common.{Option, Some, None, option_map, is_some, true≢false, append_assoc}
use Rattle.std.proofs.Common.{append-nil, arith}
use Rattle.std.proofs.lemmas.List.{take-append-drop, drop-append-le, take-append-le}
use Rattle.std.proofs.lemmas.Bool.{not-true, and_parts}
use Rattle.std.proofs.Math.Seq.{take-length}
use Rattle.std.proofs.lemmas.List.Folds.{list_all-append}
use Rattle.std.specs.List.{list_all, cons_option}
use Rattle.std.specs.Option.{option_map_or, option_and_then}
use Rattle.std.specs.Ordering.{eq_by_cmp}
use Rattle.std.specs.FinMap.{find, entries, get, get-entries}
use Rattle.syn_model.specs.Path.{Name, Path, name_cmp, path_cmp, strip_prefix, child}
use Rattle.syn_model.specs.Tree.{Tree, Content, Directory, File, Pair, IsTree, HasParents, subtree}
use Rattle.syn_model.specs.Tree.{is_directory, is_directory_content}
use Rattle.syn_model.specs.Limits.{children, only_name}
use Rattle.syn_model.specs.Event.{Event, Edited, Began, Replaced, Put, MakeDir, Remove, Chmod}
use Rattle.syn_model.specs.Event.{after_event, touches}
use Rattle.syn_model.specs.History.{History, tree_of, tree_at, is_quiet}
use Rattle.syn_model.specs.Mark.{mark, mark_of}
use Rattle.syn_model.specs.Dirty.{Scan, is_unstable}
use Rattle.syn_model.proofs.ChildrenLemmas.{rows}
use Rattle.syn_model.proofs.PathLemmas.{eq-under, then_rest}
use Rattle.syn_model.proofs.TreeLemmas.{subtree-replace_other, get-subtree, same_tree}
use Rattle.syn_model.proofs.HistoryLemmas.{tree_of-append}
use Rattle.syn_model.proofs.MarkLemmas.{get-mark}

-- none of the events touches the path
abbrev pub none_touches : List Event → Path → Bool
none_touches events path = list_all (λ event. not (touches event path)) events

event_leaves : (t : Tree) (event : Event) (p : Path) → touches event p ≡ false →
    subtree (after_event t event) p ≡ subtree t p
event_leaves t (Edited user (Put path bytes)) p h = subtree-replace_other t path _ p h
event_leaves t (Edited user (MakeDir path)) p h = subtree-replace_other t path _ p h
event_leaves t (Edited user (Remove path)) p h = subtree-replace_other t path _ p h
event_leaves t (Edited user (Chmod path mode)) p h = subtree-replace_other t path _ p h
event_leaves t (Began session) p h = refl
event_leaves t (Replaced token path since new) p h = subtree-replace_other t path new p h

events_leave : (t : Tree) (events : List Event) (p : Path) → none_touches events p ≡ true →
    subtree (fold after_event t events) p ≡ subtree t p
events_leave t [] p h = refl
events_leave t (event ∷ events) p h =
    let both = and_parts (not (touches event p)) (none_touches events p) h in
    events_leave (after_event t event) events p both.1 ∙ event_leaves t event p (not-true _ both.0)

-- events that do not touch a path leave what is there
pub untouched_stays : (history : History) (events : List Event) (p : Path) →
    none_touches events p ≡ true →
    subtree (tree_of (history ++ events)) p ≡ subtree (tree_of history) p
untouched_stays history events p h =
    ap (λ t. subtree t p) (tree_of-append history events)
    ∙ events_leave (tree_of history) events p h

-- being quiet up to the end is being touched by none of the rest
pub quiet_rest : (history : History) (since : ℕ) (p : Path) →
    is_quiet history since (length history) p ≡ none_touches (drop since history) p
quiet_rest history since p = ap (λ h. none_touches (drop since h) p) (take-length history)

-- what was quiet since a position is as it was there
pub quiet_same : (history : History) (since : ℕ) (p : Path) →
    is_quiet history since (length history) p ≡ true →
    subtree (tree_of history) p ≡ subtree (tree_at history since) p
quiet_same history since p h =
    ap (λ w. subtree (tree_of w) p) (sym (take-append-drop since history)) ∙ untouched_stays
    (take since history) (drop since history) p (sym (quiet_rest history since p) ∙ h)

drop_more : {A : Type 0} (n m : ℕ) (xs : List A) →
    n ≤ m → (front : List A) × (drop n xs ≡ front ++ drop m xs)
drop_more zero m xs h = (take m xs, sym (take-append-drop m xs))
drop_more (suc n) zero xs h = absurd (omega arith)
drop_more (suc n) (suc m) [] h = ([], refl)
drop_more (suc n) (suc m) (x ∷ xs) h = drop_more n m xs (omega arith)

-- what is quiet is quiet since later too
pub quiet_later : (history : History) (since later : ℕ) (p : Path) → since ≤ later →
    is_quiet history since (length history) p ≡ true →
    is_quiet history later (length history) p ≡ true
quiet_later history since later p h q =
    let split = drop_more since later history h in
    quiet_rest history later p
    ∙ (and_parts (none_touches split.0 p) (none_touches (drop later history) p)
    (sym (list_all-append (λ event. not (touches event p)) split.0 (drop later history))
    ∙ (ap (λ w. none_touches w p) (sym split.1) ∙ (sym (quiet_rest history since p) ∙ q)))).1

-- a history that goes on was quiet before, and the new events do not touch the path
pub quiet_before : (history events : List Event) (since : ℕ) (p : Path) → since ≤ length history →
    is_quiet (history ++ events) since (length (history ++ events)) p ≡ true →
    (is_quiet history since (length history) p ≡ true) × (none_touches events p ≡ true)
quiet_before history events since p h q =
    let both = and_parts (none_touches (drop since history) p) (none_touches events p)
    (sym (list_all-append (λ event. not (touches event p)) (drop since history) events)
    ∙ (ap (λ w. none_touches w p) (sym (drop-append-le since history events h))
    ∙ (sym (quiet_rest (history ++ events) since p) ∙ q))) in
    (quiet_rest history since p ∙ both.0, both.1)

-- a history that goes on has at its earlier positions what it had
pub tree_at-append : (history events : List Event) (k : ℕ) → k ≤ length history →
    tree_at (history ++ events) k ≡ tree_at history k
tree_at-append history events k h = ap tree_of (take-append-le k history events h)

-- The names in a directory tell what each is

by_name : (n : Name) (x : Content) (o : Option Path) (found : List (Name × Content)) → find name_cmp
    n (cons_option (option_map (λ name. (name, x)) (option_and_then only_name o)) found) ≡ cond
    (option_map_or (λ r. eq_by_cmp path_cmp (n ∷ []) r) o false) (Some x) (find name_cmp n found)
by_name n x None found = refl
by_name n x (Some []) found = refl
by_name n x (Some (m ∷ [])) found =
    elim (eq_by_cmp name_cmp n m) as (λ b. cond b (Some x) (find name_cmp n found)
    ≡ cond (cond b true false) (Some x) (find name_cmp n found)) [ true ↦ refl | false ↦ refl ]
    ∙ ap (λ b. cond b (Some x) (find name_cmp n found)) (sym (then_rest n m [] []))
by_name n x (Some (m ∷ k ∷ r)) found =
    elim (eq_by_cmp name_cmp n m)
    as (λ b. find name_cmp n found ≡ cond (cond b false false) (Some x) (find name_cmp n found))
    [ true ↦ refl | false ↦ refl ]
    ∙ ap (λ b. cond b (Some x) (find name_cmp n found)) (sym (then_rest n m [] (k ∷ r)))

find-rows : (p : Path) (n : Name) (es : List Pair) →
    find name_cmp n (rows p es) ≡ find path_cmp (p ++ n ∷ []) es
find-rows p n [] = refl
find-rows p n (e ∷ es) =
    by_name n e.1 (strip_prefix p e.0) (rows p es)
    ∙ (ap (cond (option_map_or (λ r. eq_by_cmp path_cmp (n ∷ []) r) (strip_prefix p e.0) false)
    (Some e.1)) (find-rows p n es)
    ∙ ap (λ b. cond b (Some e.1) (find path_cmp (p ++ n ∷ []) es)) (sym (eq-under p (n ∷ []) e.0)))

pub get-children : (t : Tree) (p : Path) (n : Name) →
    get t (child p n) ≡ find name_cmp n (children t p)
get-children t p n = get-entries t (p ++ n ∷ []) ∙ sym (find-rows p n (entries t))

-- trees with the same names in a directory have the same there
pub same_child : (t u : Tree) (p : Path) (n : Name) → children t p ≡ children u p →
    get t (child p n) ≡ get u (child p n)
same_child t u p n e = get-children t p n ∙ (ap (find name_cmp n) e ∙ sym (get-children u p n))

-- What a scan has at a path that nothing touched since its parent was listed

-- what is no directory has nothing below it
pub nothing_below : (t : Tree) (p : Path) (n : Name) (r : Path) → HasParents t →
    is_directory t p ≡ false → get t (p ++ n ∷ r) ≡ None
nothing_below t p n r h d = elim (get t (p ++ n ∷ r)) as (λ o. get t (p ++ n ∷ r) ≡ o → o ≡ None) [
  | None ↦ λ _. refl
  | Some x ↦ λ y. absurd (true≢false (sym (ap is_directory_content (h p n r (ap is_some y))) ∙ d))
] refl

marked_is_directory : (o : Option Content) →
    is_directory_content (option_map mark_of o) ≡ is_directory_content o
marked_is_directory None = refl
marked_is_directory (Some Directory) = refl
marked_is_directory (Some (File contents)) = refl

pub directory_of_mark : (t : Tree) (p : Path) → is_directory (mark t) p ≡ is_directory t p
directory_of_mark t p = ap is_directory_content (get-mark t p) ∙ marked_is_directory (get t p)

-- a mark has what the tree has, so equal parts of trees give equal marks
pub mark_within : (t u : Tree) (p q : Path) → subtree t p ≡ subtree u p →
    get (mark t) (p ++ q) ≡ get (mark u) (p ++ q)
mark_within t u p q e =
    get-mark t (p ++ q) ∙ (ap (option_map mark_of) (sym (get-subtree t p q)
    ∙ (ap (λ s. get s q) e ∙ get-subtree u p q)) ∙ sym (get-mark u (p ++ q)))

-- the listings that a scan was made of, with what the history has at their positions
pub record ScansHistory (scan : Scan) (since : Path → ℕ) (history : History) : Type 0 where
  pub tree : IsTree scan.marks
  pub history_tree : IsTree (tree_of history)
  pub listed : (path : Path) → is_directory scan.marks path ≡ true → is_unstable scan path ≡ false →
      children scan.marks path ≡ children (mark (tree_at history (since path))) path
  pub ordered : (path : Path) (name : Name) → is_directory scan.marks (child path name) ≡ true →
      since path ≤ since (child path name)
  pub not_dir : (path : Path) → is_unstable scan path ≡ true →
      is_directory (tree_at history (since path)) path ≡ false

module _ (scan : Scan) (since : Path → ℕ) (history : History)
    (scans : ScansHistory scan since history) (p : Path) (listed_at : ℕ)
    (quiet : is_quiet history listed_at (length history) p ≡ true) where
  -- a directory that stood there since its listing was listed itself
  steady : (s : Path) → listed_at ≤ since (p ++ s) →
      get scan.marks (p ++ s) ≡ get (mark (tree_of history)) (p ++ s) →
      is_directory scan.marks (p ++ s) ≡ true → is_unstable scan (p ++ s) ≡ false
  steady s late same d =
      elim (is_unstable scan (p ++ s)) as (λ b. is_unstable scan (p ++ s) ≡ b → b ≡ false) [
        | false ↦ λ _. refl
        | true ↦ λ u.
            let now : is_directory (tree_of history) (p ++ s) ≡ true =
            sym (directory_of_mark (tree_of history) (p ++ s))
            ∙ (sym (ap is_directory_content same) ∙ d) in
            let then = mark_within (tree_at history (since (p ++ s))) (tree_of history) p s
            (sym (quiet_same history (since (p ++ s)) p
            (quiet_later history listed_at (since (p ++ s)) p late quiet))) in
            absurd (true≢false (sym now ∙ (sym (directory_of_mark (tree_of history) (p ++ s))
            ∙ (sym (ap is_directory_content then) ∙ (directory_of_mark
            (tree_at history (since (p ++ s))) (p ++ s) ∙ scans.not_dir (p ++ s) u)))))
      ] refl

  -- from a listing below the path
  listed_below : (s : Path) (n : Name) (position : ℕ) → listed_at ≤ position →
      children scan.marks (p ++ s) ≡ children (mark (tree_at history position)) (p ++ s) →
      get scan.marks (p ++ (s ++ n ∷ [])) ≡ get (mark (tree_of history)) (p ++ (s ++ n ∷ []))
  listed_below s n position late same =
      let at : child (p ++ s) n ≡ p ++ (s ++ n ∷ []) = append_assoc p s (n ∷ []) in
      ap (get scan.marks) (sym at) ∙ (same_child scan.marks (mark (tree_at history position))
      (p ++ s) n same ∙ (ap (get (mark (tree_at history position))) at
      ∙ mark_within (tree_at history position) (tree_of history) p (s ++ n ∷ []) (sym
      (quiet_same history position p (quiet_later history listed_at position p late quiet)))))

  below : (r s : Path) → get scan.marks (p ++ s) ≡ get (mark (tree_of history)) (p ++ s) →
      (is_directory scan.marks (p ++ s) ≡ true → listed_at ≤ since (p ++ s)) →
      get scan.marks (p ++ (s ++ r)) ≡ get (mark (tree_of history)) (p ++ (s ++ r))
  below [] s same late =
      ap (λ w. get scan.marks (p ++ w)) (append-nil s)
      ∙ (same ∙ ap (λ w. get (mark (tree_of history)) (p ++ w)) (sym (append-nil s)))
  below (n ∷ r) s same late =
      elim (is_directory scan.marks (p ++ s)) as (λ b. is_directory scan.marks (p ++ s) ≡ b →
      get scan.marks (p ++ (s ++ n ∷ r)) ≡ get (mark (tree_of history)) (p ++ (s ++ n ∷ r))) [
        | true ↦ λ d.
            let next = listed_below s n (since (p ++ s)) (late d)
            (scans.listed (p ++ s) d (steady s (late d) same d)) in
            let at : child (p ++ s) n ≡ p ++ (s ++ n ∷ []) = append_assoc p s (n ∷ []) in
            let more : (is_directory scan.marks (p ++ (s ++ n ∷ [])) ≡ true →
            listed_at ≤ since (p ++ (s ++ n ∷ []))) = λ d'.
            let first : listed_at ≤ since (p ++ s) = late d in
            let second : since (p ++ s) ≤ since (child (p ++ s) n) =
            scans.ordered (p ++ s) n (ap (is_directory scan.marks) at ∙ d') in
            subst (λ w. listed_at ≤ since w) at (omega (arith, first, second)) in
            let rest = below r (s ++ n ∷ []) next more in
            let path : (s ++ n ∷ []) ++ r ≡ s ++ n ∷ r = append_assoc s (n ∷ []) r in
            subst (λ w. get scan.marks (p ++ w) ≡ get (mark (tree_of history)) (p ++ w)) path rest
        | false ↦ λ d.
            let at : (p ++ s) ++ n ∷ r ≡ p ++ (s ++ n ∷ r) = append_assoc p s (n ∷ r) in
            let d' : is_directory (tree_of history) (p ++ s) ≡ false =
            sym (directory_of_mark (tree_of history) (p ++ s))
            ∙ (sym (ap is_directory_content same) ∙ d) in
            ap (get scan.marks) (sym at)
            ∙ (nothing_below scan.marks (p ++ s) n r scans.tree.part.parents d
            ∙ (sym (ap (option_map mark_of) (nothing_below (tree_of history)
            (p ++ s) n r scans.history_tree.part.parents d')) ∙ (sym (get-mark (tree_of history)
            ((p ++ s) ++ n ∷ r)) ∙ ap (get (mark (tree_of history))) at)))
      ] refl

-- at a path that nothing touched since its parent was listed, a scan has the mark of what is there
pub scan_is : (scan : Scan) (since : Path → ℕ) (history : History) →
    ScansHistory scan since history → (a : Path) (n : Name) → is_directory scan.marks a ≡ true →
    is_unstable scan a ≡ false → is_quiet history (since a) (length history) (child a n) ≡ true →
    subtree scan.marks (child a n) ≡ subtree (mark (tree_of history)) (child a n)
scan_is scan since history scans a n d steady quiet =
    let p = child a n in
    let e = append-nil p in
    let here : get scan.marks p ≡ get (mark (tree_of history)) p =
    same_child scan.marks (mark (tree_at history (since a))) a n (scans.listed a d steady)
    ∙ (ap (get (mark (tree_at history (since a)))) (sym e)
    ∙ (mark_within (tree_at history (since a)) (tree_of history) p
    [] (sym (quiet_same history (since a) p quiet)) ∙ ap (get (mark (tree_of history))) e)) in
    same_tree (subtree scan.marks p) (subtree (mark (tree_of history)) p) (λ r.
    get-subtree scan.marks p r ∙ (below scan since history scans p (since a) quiet r
    [] (subst (λ w. get scan.marks w ≡ get (mark (tree_of history)) w) (sym e) here)
    (λ d'. subst (λ w. since a ≤ since w) (sym e)
    (scans.ordered a n (ap (is_directory scan.marks) (sym e) ∙ d')))
    ∙ sym (get-subtree (mark (tree_of history)) p r)))
