-- A tree that has what the looks show.
use Rattle.std.proofs.Common.{◌≡◌, ◌↔◌, ℕ, List, [], ◌∷◌, ◌++◌, length, map, inl, inr, sym}
use Rattle.std.proofs.Common.{subst}
use Rattle.std.proofs.Common.{ap, ◌∙◌, refl, Option, Some, None, Bool, true, false, cond, ◌&&◌}
use Rattle.std.proofs.Common.{◌⊎◌, Vec, Global, append-nil, if◌then◌else◌, option_map, ◌==◌}
use Rattle.std.proofs.Common.{Result, Ok, Err, IfOk}
use Rattle.std.specs.FinMap.{entries, get, get-entries, from_sorted}
use Rattle.std.specs.FinMap.Entries.{find}
use Rattle.std.specs.List.{Contains, cons_option, filter_map}
use Rattle.std.specs.Ordering.{eq_by_cmp}
use Rattle.std.proofs.lemmas.List.Elements.{Contains-append_cases, Contains-append_left}
use Rattle.std.proofs.lemmas.List.Elements.{Contains-append_right, Contains-push}
use Rattle.std.proofs.lemmas.List.Elements.{Contains-push_cases, filter_map-append}
use Rattle.syn_model.specs.Limits.{fits_paths, fits_part, fits_replica}
use Rattle.syn_model.specs.Path.{Path, is_root, path_cmp, root}
use Rattle.syn_model.specs.Tree.{Content, Directory, IsTree, Pair, Tree, empty_directory}
use Rattle.syn_model.proofs.PathLemmas.{path_itself, same_path, not_root}
use Rattle.syn_placed.specs.Pairs.{Pairs, rooted, tree_with}
use Rattle.syn_placed.proofs.FindLemmas.{find_after}
use Rattle.syn_placed.proofs.RisingLemmas.{Rising, are_rising}
use Rattle.syn_placed.proofs.TreeLemmas.{from_entries-same, rising-entries}
use Rattle.syn_tree.specs.Entries.{AreEntries}
use Rattle.syn_folder.specs.Looks.{AreShown, FitsNoReplica, IsSeenAt, IsStrangeName, IsToldOf}
use Rattle.syn_folder.specs.Looks.{IsPicture, ShowsStranger, Told, node_of, pieces, told, told_at}
use Rattle.syn_folder.specs.declared.error.FolderError.{FolderError}
use Rattle.syn_folder.specs.declared.stranger.Stranger.{Stranger}
use Rattle.syn_folder.specs.declared.stranger.Strangeness.{Strangeness}
use Rattle.syn_folder.specs.declared.system.picture.FolderRead.{FolderRead}
use Rattle.syn_folder.specs.declared.stranger.Strangeness.TheVariants as why
use Rattle.syn_folder.specs.declared.system.looks.Look.{Look}
use Rattle.syn_folder.specs.declared.system.looks.Seen.{Seen}
use Rattle.syn_folder.specs.declared.system.looks.Shown.{Shown}
use Rattle.syn_folder.specs.declared.system.looks.Shown.TheVariants as shown
use Rattle.syn_model.proofs.BaseLemmas.{contains_none}

first_or_later : {A : Type 0} (y : A) (xs : List A) (x : A) → Contains (y ∷ xs) x
    → (y ≡ x) ⊎ Contains xs x
first_or_later y xs x within =
    elim (Contains-append_cases (y ∷ []) xs x within) [
      | inl first ↦ elim (Contains-push_cases [] y x first)
          [ inl none ↦ absurd (contains_none x none) | inr is ↦ inl is ]
      | inr later ↦ inr later
    ]

first : {A : Type 0} (x : A) (xs : List A) → Contains (x ∷ xs) x
first x xs = Contains-append_left (x ∷ []) xs x (Contains-push [] x)

later : {A : Type 0} (y : A) (xs : List A) (x : A) → Contains xs x → Contains (y ∷ xs) x
later y xs x within = Contains-append_right (y ∷ []) xs x within

-- what is found at a path stands there
found_there : (es : Pairs) (path : Path) (content : Content) → find path_cmp path es ≡ Some content
    → Contains es (path, content)
found_there [] path content is = absurd cc
found_there (e ∷ es) path content is =
    by_test (eq_by_cmp path_cmp path e.0) refl is (λ there. found_there es path content there)
  where
    by_test : (b : Bool) → eq_by_cmp path_cmp path e.0 ≡ b
        → cond b (Some e.1) (find path_cmp path es) ≡ Some content
        → (find path_cmp path es ≡ Some content → Contains es (path, content))
        → Contains (e ∷ es) (path, content)
    by_test true same here rest =
        let p : path ≡ e.0 = same_path path e.0 same in
        let c : e.1 ≡ content = cc in
        subst (λ (x : Path). Contains (e ∷ es) (x, content)) (sym p)
        (subst (λ (x : Content). Contains (e ∷ es) (e.0, x)) c (first e es))
    by_test false other there rest = later e es (path, content) (rest there)

-- what stands at a path is found there, since no other does
there_found : (es : Pairs) (path : Path) (content : Content) → Rising es
    → Contains es (path, content) → find path_cmp path es ≡ Some content
there_found [] path content rising within = absurd (contains_none (path, content) within)
there_found (e ∷ es) path content rising within =
    elim (first_or_later e es (path, content) within) [
      | inl is ↦
          let here : eq_by_cmp path_cmp path e.0 ≡ true =
          subst (λ (p : Path). eq_by_cmp path_cmp path p ≡ true) (sym (ap (λ (x : Pair). x.0) is))
          (path_itself path) in
          ap (λ b. cond b (Some e.1) (find path_cmp path es)) here ∙ ap (λ (x : Pair). Some x.1) is
      | inr below ↦ by_test (eq_by_cmp path_cmp path e.0) refl
          (there_found es path content rising.1 below)
    ]
  where
    by_test : (b : Bool) → eq_by_cmp path_cmp path e.0 ≡ b → find path_cmp path es ≡ Some content
        → cond b (Some e.1) (find path_cmp path es) ≡ Some content
    by_test true same there =
        let none : find path_cmp path es ≡ None =
        subst (λ (p : Path). find path_cmp p es ≡ None) (sym (same_path path e.0 same))
        (find_after e.0 es rising.0) in
        absurd cc
    by_test false other there = there

cons_from : {B : Type 0} (o : Option B) (ys : List B) (y : B) → Contains (cons_option o ys) y
    → (o ≡ Some y) ⊎ Contains ys y
cons_from None ys y within = inr within
cons_from (Some z) ys y within =
    elim (first_or_later z ys y within) [ inl is ↦ inl (ap Some is) | inr rest ↦ inr rest ]

cons_to : {B : Type 0} (o : Option B) (ys : List B) (y : B) → (o ≡ Some y) ⊎ Contains ys y
    → Contains (cons_option o ys) y
cons_to None ys y (inl is) = absurd cc
cons_to None ys y (inr rest) = rest
cons_to (Some z) ys y (inl is) = let same : z ≡ y = cc in subst (Contains (z ∷ ys)) same (first z
    ys)
cons_to (Some z) ys y (inr rest) = later z ys y rest

-- what a filter gives of a list
filtered_from : {A B : Type 0} (f : A → Option B) (xs : List A) (y : B)
    → Contains (filter_map f xs) y → (x : A) × Contains xs x × (f x ≡ Some y)
filtered_from f [] y within = absurd (contains_none y within)
filtered_from f (x ∷ xs) y within =
    elim (cons_from (f x) (filter_map f xs) y within) [
      | inl is ↦ (x, first x xs, is)
      | inr rest ↦
          let found = filtered_from f xs y rest in
          (found.0, later x xs found.0 found.1, found.2)
    ]

filtered_to : {A B : Type 0} (f : A → Option B) (xs : List A) (y : B) (x : A) → Contains xs x
    → f x ≡ Some y → Contains (filter_map f xs) y
filtered_to f [] y x within is = absurd (contains_none x within)
filtered_to f (z ∷ xs) y x within is =
    cons_to (f z) (filter_map f xs) y (elim (first_or_later z xs x within) [
      | inl same ↦ inl (ap f same ∙ is)
      | inr rest ↦ inr (filtered_to f xs y x rest is)
    ])

-- one more of a list that is filtered
pub filtered_some : {A B : Type 0} (f : A → Option B) (xs : List A) (x : A) (y : B)
    (found : List B) → found ≡ filter_map f xs → f x ≡ Some y
    → found ++ y ∷ [] ≡ filter_map f (xs ++ x ∷ [])
filtered_some f xs x y found is here =
    ap (λ ys. ys ++ y ∷ []) is
    ∙ sym (filter_map-append f xs (x ∷ [])
    ∙ ap (λ o. filter_map f xs ++ cons_option o []) here)

pub filtered_none : {A B : Type 0} (f : A → Option B) (xs : List A) (x : A) (found : List B)
    → found ≡ filter_map f xs → f x ≡ None → found ≡ filter_map f (xs ++ x ∷ [])
filtered_none f xs x found is here =
    is
    ∙ sym (filter_map-append f xs (x ∷ [])
    ∙ (ap (λ o. filter_map f xs ++ cons_option o []) here ∙ append-nil (filter_map f xs)))

-- what stands below the root
pub below_root : {A : Type 0} (path : Path) (o : Option A) (x : A) → is_root path ≡ false
    → o ≡ Some x → let pair : A → Path × A = λ y. (path, y) in
    (if is_root path then None else option_map pair o) ≡ Some (pair x)
below_root {A} path o x below is =
    let pair : A → Path × A = λ y. (path, y) in
    ap (λ (b : Bool). if b then None else option_map pair o) below ∙ ap (option_map pair) is

-- the tree has at each path what the looks show there
pub by_path : (looks : List Seen) (tree : Tree) → entries tree ≡ rooted (filter_map node_of looks)
    → (path : Path) (content : Content)
    → (get tree path ≡ Some content) ↔ IsSeenAt looks path content
by_path looks tree has path content = (
  (λ there.
      let found = found_there (entries tree) path content (sym (get-entries tree path) ∙ there) in
      let within = subst (λ es. Contains es (path, content)) has found in
      elim (first_or_later (root, Directory) (filter_map node_of looks) (path, content) within) [
        | inl is ↦ inl (sym (ap (λ (x : Pair). x.0) is), sym (ap (λ (x : Pair). x.1) is))
        | inr below ↦ inr (filtered_from node_of looks (path, content) below)
      ]),
  (λ seen.
      let at_root : Pair = (root, Directory) in
      let within : Contains (rooted (filter_map node_of looks)) (path, content) =
      elim seen [
        | inl is ↦
            let all = at_root ∷ filter_map node_of looks in
            subst (λ (x : Path). Contains all (x, content)) (sym is.0)
            (subst (λ (x : Content). Contains all (root, x)) (sym is.1)
            (first at_root (filter_map node_of looks)))
        | inr there ↦ later at_root (filter_map node_of looks) (path, content)
            (filtered_to node_of looks (path, content) there.0 there.1 there.2)
      ] in
      get-entries tree path
      ∙ there_found (entries tree) path content (rising-entries tree)
      (subst (λ es. Contains es (path, content)) (sym has) within)),
)

-- a tree with these entries is the one that was made of them
same_entries : (tree other : Tree) (pairs : Pairs) → entries tree ≡ rooted pairs
    → rooted pairs ≡ entries other → tree ≡ other
same_entries tree other pairs has is =
    sym (from_entries-same tree) ∙ (ap from_sorted (has ∙ is) ∙ from_entries-same other)

pub refused_whole : (pairs : Pairs) (other : Tree) → rooted pairs ≡ entries other
    → fits_replica other ≡ false → FitsNoReplica pairs
refused_whole pairs other is over tree has lawful fits =
    let same = same_entries tree other pairs has is in
    let no : fits_replica tree ≡ false = ap fits_replica same ∙ over in
    absurd cc

pub both : (a b : Bool) → (a && b) ≡ true → (a ≡ true) × (b ≡ true)
both true b h = (refl, h)
both false b h = absurd cc

-- the entries of a replica's tree are lawful
pub refused_entries : (pairs : Pairs) → ¬ AreEntries pairs → FitsNoReplica pairs
refused_entries pairs unlawful tree has lawful fits =
    let is : tree_with pairs ≡ tree = ap from_sorted (sym has) ∙ from_entries-same tree in
    let three = (both _ (fits_paths tree) fits) in
    unlawful (record {
      rising = are_rising (rooted pairs) (subst Rising has (rising-entries tree));
      tree = subst IsTree (sym is) lawful;
      part = ap fits_part is ∙ (both _ (fits_part tree) three.0).1;
      paths = ap fits_paths is ∙ three.1;
    })

-- what a directory shows
pub of_directory : (at path : Path) (there : Shown) (look : Look) (listing : Vec ℕ Global)
    (bytes : List ℕ) (found : List Told) → there ≡ shown.Directory look listing
    → bytes ≡ listing.items → AreShown (IsStrangeName at path false) (pieces bytes) found
    → (one : Told) → Contains found one ↔ IsToldOf at path there one
of_directory at path there look listing bytes found is same shows =
    subst (λ s. (one : Told) → Contains found one ↔ IsToldOf at path s one) (sym is)
    (subst (λ b. AreShown (IsStrangeName at path false) (pieces b) found) same shows)

-- what a crowded directory shows
pub of_crowded : (at path : Path) (there : Shown) (listing : Vec ℕ Global) (bytes : List ℕ)
    (found all : List Told) → there ≡ shown.Crowded listing → bytes ≡ listing.items
    → AreShown (IsStrangeName at path true) (pieces bytes) found
    → all ≡ found ++ told_at path why.Names ∷ []
    → (one : Told) → Contains all one ↔ IsToldOf at path there one
of_crowded at path there listing bytes found all is same shows more =
    let itself = told_at path why.Names in
    let names = subst (λ b. AreShown (IsStrangeName at path true) (pieces b) found) same shows in
    subst (λ s. (one : Told) → Contains all one ↔ IsToldOf at path s one) (sym is)
    (subst (λ xs. (one : Told) → Contains xs one ↔ IsToldOf at path (shown.Crowded listing) one)
    (sym more) (λ one. (
      (λ within. elim (Contains-push_cases found itself one within)
          [ inl earlier ↦ inl ((names one).0 earlier) | inr e ↦ inr (sym e) ]),
      (λ shows. elim shows [
        | inl name ↦ Contains-append_left found (itself ∷ []) one ((names one).1 name)
        | inr e ↦ subst (Contains (found ++ itself ∷ [])) (sym e) (Contains-push found itself)
      ]),
    )))

-- a folder that has more than a replica may
pub over_picture : (at : Path) (looks : List Seen) (pending : List Path)
    (result : Result FolderRead FolderError) (strangers : List Stranger) (because : Strangeness)
    → (because ≡ why.Count) ⊎ ((because ≡ why.Room) × FitsNoReplica (filter_map node_of looks))
    → AreShown (ShowsStranger at) looks (map told strangers)
    → IfOk result (λ read. read.tree ≡ empty_directory)
    → IfOk result (λ read. map told read.strangers.items
    ≡ map told strangers ++ told_at root because ∷ [])
    → IfOk result (λ read. IsPicture at looks pending read.tree read.strangers.items)
over_picture at looks pending (Ok read) strangers because reason tells empty itself =
    inr (record {
      empty = empty;
      because = because;
      reason = reason;
      more = map told strangers;
      tells = tells;
      itself = itself;
    })
over_picture at looks pending (Err e) strangers because reason tells empty itself = tt
