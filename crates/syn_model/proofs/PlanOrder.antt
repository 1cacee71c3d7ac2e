-- The order of a plan's items.
use Rattle.std.proofs.Common.{◌≡◌, ◌⊎◌, ℕ, zero, suc, true, false, not, if◌then◌else◌, ◌||◌, List}
use Rattle.std.proofs.Common.{[], ◌∷◌, ◌++◌, AllPairs, flat_map, refl, sym, ap, ap₂, ◌∙◌, subst}
use Rattle.std.proofs.Common.{inl, inr, is_some, Some, None, true≢false, append_assoc, append-nil}
use Rattle.std.proofs.Common.{◌≢◌, Option, Bool}
use native.Mathlib.Omega.{arith}
use Rattle.std.specs.Ordering.{eq_by_cmp}
use Rattle.std.specs.Cmp.{eq_by_cmp_equiv}
use Rattle.std.specs.List.{list_any, AllByRecursion}
use Rattle.std.proofs.lemmas.Bool.{or_cases, false_from_ne_true, or_parts}
use Rattle.std.proofs.lemmas.List.Elements.{All-from_recursion, All-weaker}
use Rattle.std.proofs.lemmas.List.Kept.{AllPairs-cons}
use Rattle.syn_model.specs.Path.{Path, Name, name_cmp, root, is_root, child, is_prefix}
use Rattle.syn_model.specs.Path.{strip_prefix, comparable}
use Rattle.syn_model.specs.Tree.{Tree, is_directory}
use Rattle.syn_model.specs.Dirty.{Scan, dirty, is_same_tree, is_unstable}
use Rattle.syn_model.specs.Tree.{subtree}
use Rattle.syn_model.specs.Reconcile.{is_directory_in_both}
use Rattle.syn_model.specs.Decision.{Item, ToLeft, ToRight, MarkSame, MarkDir, Conflict, Decision}
use Rattle.syn_model.specs.Decision.{Clean, Do, DoAndGoOn, GoOn, decision, path_of, GoesOn}
use Rattle.syn_model.specs.Decision.{IsReached, contested}
use Rattle.syn_model.specs.Which.{Which, Left, Right}
use Rattle.syn_model.specs.Plan.{names_below, with_items_below, items_from, plan, most_names}
use Rattle.syn_model.specs.Plan.{StandsBefore, IsDecided, IsContested, OverwritesLawfully}
use Rattle.syn_model.specs.Plan.{PlanIsInOrder}
use Rattle.syn_model.specs.Plan.{PlanIsDecided, PlanOverwritesLawfully, is_mark_dir, PlanIsOrderly}
use Rattle.syn_model.proofs.PathLemmas.{first_or, rest_of, name_total, name_itself, prefix-append}
use Rattle.syn_model.proofs.PathLemmas.{prefixes_comparable, is_prefix-is, strip_prefix-append}
use Rattle.syn_model.proofs.DirtyLemmas.{prefix_chain}
use Rattle.syn_model.proofs.PlanNames.{Apart, names_apart}
use Rattle.syn_model.proofs.BaseLemmas.{each_append}
use Rattle.syn_model.proofs.PathLemmas.{prefix_itself}

-- ---- lists

pub every-weaker : {X : Type 0} {P Q : X → Type 0} → ((x : X) → P x → Q x) → (xs : List X) →
    AllByRecursion P xs → AllByRecursion Q xs
every-weaker f [] h = tt
every-weaker f (x ∷ xs) h = (f x h.0, every-weaker f xs h.1)

pub every-flat_map : {X Y : Type 0} (P : Y → Type 0) (f : X → List Y) (xs : List X) →
    ((x : X) → AllByRecursion P (f x)) → AllByRecursion P (flat_map f xs)
every-flat_map P f [] h = tt
every-flat_map P f (x ∷ xs) h = each_append P (f x) (flat_map f xs) (h x) (every-flat_map P f xs h)

-- each item stands well before each later one
abbrev pub Ordered : List Item → Type 0
Ordered [] = Unit {0}
Ordered (item ∷ items) = AllByRecursion (StandsBefore item) items × Ordered items

ordered-append : (xs ys : List Item) → Ordered xs → Ordered ys →
    AllByRecursion (λ x. AllByRecursion (StandsBefore x) ys) xs → Ordered (xs ++ ys)
ordered-append [] ys h k between = k
ordered-append (x ∷ xs) ys h k between =
    (each_append (StandsBefore x) xs ys h.0 between.0, ordered-append xs ys h.1 k between.1)

ordered_pairs : (xs : List Item) → Ordered xs → AllPairs StandsBefore xs
ordered_pairs [] h = λ i j d lt within. absurd (omega arith)
ordered_pairs (x ∷ xs) h =
    AllPairs-cons StandsBefore x xs (All-from_recursion (StandsBefore x) xs h.0)
    (ordered_pairs xs h.1)

-- ---- paths below two names of one directory

pub name_alike : (n m : Name) → eq_by_cmp name_cmp n m ≡ eq_by_cmp name_cmp m n
name_alike = (eq_by_cmp_equiv name_total).symm

pub siblings : (p : Path) (n m : Name) → eq_by_cmp name_cmp n m ≡ false →
    comparable (child p n) (child p m) ≡ false
siblings [] n m h =
    ap₂ (λ x y. is_some (if x then Some root else None) || is_some (if y then Some root else None))
    h (name_alike m n ∙ h)
siblings (x ∷ p) n m h =
    ap (λ b. is_some (if b then strip_prefix (child p n) (child p m) else None) || is_some
    (if b then strip_prefix (child p m) (child p n) else None)) (name_itself x) ∙ siblings p n m h

joined : (p q x : Path) → is_prefix p x ≡ true → is_prefix q x ≡ true → comparable p q ≡ true
joined p q x h k =
    let one = is_prefix-is p x h in
    let two = is_prefix-is q x k in
    prefixes_comparable p q one.0 two.0 (sym one.1 ∙ two.1)

-- what is below two paths that are not comparable is not either
pub apart_below : (p q x y : Path) → comparable p q ≡ false → is_prefix p x ≡ true →
    is_prefix q y ≡ true → comparable x y ≡ false
apart_below p q x y h px qy =
    false_from_ne_true (comparable x y)
    (λ both. elim (or_cases (is_prefix x y) (is_prefix y x) both) as (λ _. ⊥) [
      | inl xy ↦ true≢false (sym (joined p q y (prefix_chain p x y px xy) qy) ∙ h)
      | inr yx ↦ true≢false (sym (joined p q x px (prefix_chain q y x qy yx)) ∙ h)
    ])

-- a path does not begin with a longer one
pub not_longer : (p : Path) (n : Name) (q : Path) → is_prefix (p ++ n ∷ q) p ≡ false
not_longer [] n q = refl
not_longer (x ∷ p) n q =
    ap (λ b. is_some (if b then strip_prefix (p ++ n ∷ q) p else None)) (name_itself x)
    ∙ not_longer p n q

-- ---- the items of a plan

-- an item stands at its path, and one with items below it marks a directory
abbrev FitsAt : Path → Decision → Type 0
FitsAt path Clean = Unit {0}
FitsAt path (Do item) = path_of item ≡ path
FitsAt path (DoAndGoOn item) = item ≡ MarkDir path
FitsAt path GoOn = Unit {0}

-- what is contested is decided at its path
contested_at : (preference : Option Which) (unstable : Bool) (path : Path) →
    path_of (contested preference unstable path) ≡ path
contested_at None unstable path = refl
contested_at (Some side) true path = refl
contested_at (Some Left) false path = refl
contested_at (Some Right) false path = refl

pub decision-fits : (preference : Option Which) (left right : Scan) (archive : Tree) (path : Path) →
    FitsAt path (decision preference left right archive path)
decision-fits preference left right archive path =
    let d : Decision = if is_unstable left path || is_unstable right path then Do (Conflict path)
    else if is_directory archive path then GoOn else DoAndGoOn (MarkDir path) in
    let unstable = is_unstable left path || is_unstable right path in
    let last : Decision = Do (contested preference unstable path) in
    let e : Decision =
    if is_same_tree (subtree left.marks path) (subtree right.marks path) then Do (MarkSame path)
    else if not (dirty right archive path) then Do (ToRight path)
    else if not (dirty left archive path) then Do (ToLeft path)
    else last in
    elim (not (dirty left archive path || dirty right archive path)) as (λ b. FitsAt path
    (if b then Clean else if is_directory_in_both left.marks right.marks path then d else e)) [
      | true ↦ tt
      | false ↦ elim (is_directory_in_both left.marks right.marks path)
          as (λ b. FitsAt path (if b then d else e)) [
            | true ↦ elim (is_unstable left path || is_unstable right path)
                as (λ b. FitsAt path (if b then Do (Conflict path) else if is_directory archive path
                then GoOn else DoAndGoOn (MarkDir path))) [
                  | true ↦ refl
                  | false ↦ elim (is_directory archive path)
                      as (λ b. FitsAt path (if b then GoOn else DoAndGoOn (MarkDir path)))
                      [ true ↦ tt | false ↦ refl ]
                ]
            | false ↦ elim (is_same_tree (subtree left.marks path) (subtree right.marks path))
                as (λ b. FitsAt path
                (if b then Do (MarkSame path) else if not (dirty right archive path)
                then Do (ToRight path) else if not (dirty left archive path) then Do (ToLeft path)
                else last)) [
                  | true ↦ refl
                  | false ↦ elim (not (dirty right archive path))
                      as (λ b. FitsAt path
                      (if b then Do (ToRight path) else if not (dirty left archive path)
                      then Do (ToLeft path) else last)) [
                        | true ↦ refl
                        | false ↦ elim (not (dirty left archive path))
                            as (λ b. FitsAt path
                            (if b then Do (ToLeft path) else last))
                            [ true ↦ refl | false ↦ contested_at preference unstable path ]
                      ]
                ]
          ]
    ]

not_nil : (p : Path) (n : Name) (q : Path) → p ++ n ∷ q ≡ [] → ⊥
not_nil [] n q e = true≢false (sym (ap is_root e))
not_nil (x ∷ p) n q e = true≢false (sym (ap is_root e))

abbrev pub IsAt : Path → Item → Type 0
IsAt path item = is_prefix path (path_of item) ≡ true

-- below a path
abbrev pub IsBelow : Path → Item → Type 0
IsBelow path item = is_prefix path (path_of item) ≡ true × is_prefix (path_of item) path ≡ false

-- the items below some names
abbrev pub below : (Path → Decision) → (Path → List Name) → ℕ → Path → List Name → List Item
below decide names_of levels path names =
    flat_map (λ name. items_from decide names_of levels (child path name)) names

fitting-at : (path : Path) (d : Decision) (items : List Item) → FitsAt path d →
    AllByRecursion (IsAt path) items → AllByRecursion (IsAt path) (with_items_below d items)
fitting-at path Clean items fit h = tt
fitting-at path (Do item) items fit h =
    (ap (is_prefix path) (fit ∙ sym (append-nil path)) ∙ prefix-append path [], tt)
fitting-at path (DoAndGoOn item) items fit h = (
  ap (λ i. is_prefix path (path_of i)) fit
      ∙ (ap (is_prefix path) (sym (append-nil path)) ∙ prefix-append path []),
  h,
)
fitting-at path GoOn items fit h = h

at-is_below : (path : Path) (name : Name) (item : Item) → IsAt (child path name) item →
    IsBelow path item
at-is_below path name item at =
    let rest = is_prefix-is (child path name) (path_of item) at in (
      prefix_chain path (child path name) (path_of item) (prefix-append path (name ∷ [])) at,
      ap (λ w. is_prefix w path) (rest.1 ∙ append_assoc path (name ∷ []) rest.0)
          ∙ not_longer path name rest.0,
    )

fitting-ordered : (path : Path) (d : Decision) (items : List Item) → FitsAt path d →
    AllByRecursion (IsBelow path) items → Ordered items → Ordered (with_items_below d items)
fitting-ordered path Clean items fit h o = tt
fitting-ordered path (Do item) items fit h o = (tt, tt)
fitting-ordered path (DoAndGoOn item) items fit h o = (
  every-weaker
      (λ later under. record {
        not_above = ap (λ i. is_prefix (path_of later) (path_of i)) fit
            ∙ under.1;
        below_directory = λ _. fit ∙ ap (λ i. MarkDir (path_of i)) (sym fit);
      }) items h,
  o,
)
fitting-ordered path GoOn items fit h o = o

-- any decisions, each of what stands at its path
module _ (decide : Path → Decision) (fits : (path : Path) → FitsAt path (decide path))
    (names_of : Path → List Name) where
  abbrev from : ℕ → Path → List Item
  from levels path = items_from decide names_of levels path

  abbrev under : ℕ → Path → List Name → List Item
  under levels path names = below decide names_of levels path names

  -- all items from a path on are at or below it
  pub items-at : (levels : ℕ) (path : Path) → AllByRecursion (IsAt path) (from levels path)
  items-at zero path = tt
  items-at (suc levels) path =
      fitting-at path (decide path) (under levels path (names_of path)) (fits path)
      (every-flat_map (IsAt path) (λ name. from levels (child path name)) (names_of path)
      (λ name. every-weaker (λ item at. prefix_chain path (child path name) (path_of item)
      (prefix-append path (name ∷ [])) at) (from levels (child path name))
      (items-at levels (child path name))))

  pub items-below : (levels : ℕ) (path : Path) (names : List Name) →
      AllByRecursion (IsBelow path) (under levels path names)
  items-below levels path names =
      every-flat_map (IsBelow path) (λ name. from levels (child path name)) names
      (λ name. every-weaker (at-is_below path name) (from levels (child path name))
      (items-at levels (child path name)))

  beside_each : (path : Path) (name : Name) (item : Item) → IsAt (child path name) item →
      (levels : ℕ) (names : List Name) → list_any (eq_by_cmp name_cmp name) names ≡ false →
      AllByRecursion (StandsBefore item) (under levels path names)
  beside_each path name item at levels [] h = tt
  beside_each path name item at levels (other ∷ names) h =
      let parts = or_parts (eq_by_cmp name_cmp name other)
      (list_any (eq_by_cmp name_cmp name) names) h in
      each_append (StandsBefore item) (from levels (child path other)) (under levels path names)
      (every-weaker (λ later there.
      let apart = or_parts (is_prefix (path_of item) (path_of later))
      (is_prefix (path_of later) (path_of item)) (apart_below (child path name) (child path other)
      (path_of item) (path_of later) (siblings path name other parts.0) at there) in
      record { not_above = apart.1; below_directory = λ e. absurd (true≢false (sym e ∙ apart.0)) })
      (from levels (child path other)) (items-at levels (child path other)))
      (beside_each path name item at levels names parts.1)

  ordered-names : (levels : ℕ) (path : Path) (names : List Name) → Apart names →
      ((name : Name) → Ordered (from levels (child path name))) → Ordered (under levels path names)
  ordered-names levels path [] h each = tt
  ordered-names levels path (name ∷ names) h each =
      ordered-append (from levels (child path name)) (under levels path names) (each name)
      (ordered-names levels path names h.1 each)
      (every-weaker (λ item at. beside_each path name item at levels names h.0)
      (from levels (child path name)) (items-at levels (child path name)))

  -- where the names below each path differ
  items-ordered : ((path : Path) → Apart (names_of path)) → (levels : ℕ) (path : Path) →
      Ordered (from levels path)
  items-ordered distinct zero path = tt
  items-ordered distinct (suc levels) path =
      fitting-ordered path (decide path) (under levels path (names_of path)) (fits path)
      (items-below levels path (names_of path))
      (ordered-names levels path (names_of path) (distinct path)
      (λ name. items-ordered distinct levels (child path name)))

plan-ordered : (preference : Option Which) (left right : Scan) (archive : Tree) →
    Ordered (plan preference left right archive)
plan-ordered preference left right archive =
    items-ordered (decision preference left right archive) (decision-fits preference left right
    archive)
    (names_below left right archive) (names_apart left right archive) (suc most_names) root

-- ---- what is decided

above_last : (p above : Path) (n m : Name) (rest : Path) → child p n ≡ above ++ m ∷ rest →
    (above ≡ p) ⊎ ((k : Name) × (more : Path) × (p ≡ above ++ k ∷ more))
above_last [] [] n m rest e = inl refl
above_last [] (x ∷ above) n m rest e = absurd (not_nil above m rest (sym (ap rest_of e)))
above_last (y ∷ p) [] n m rest e = inr (y, p, refl)
above_last (y ∷ p) (x ∷ above) n m rest e =
    let heads : y ≡ x = ap (λ w. first_or w y) e in
    elim (above_last p above n m rest (ap rest_of e)) as (λ _. (x ∷ above ≡ y ∷ p)
    ⊎ ((k : Name) × (more : Path) × (y ∷ p ≡ x ∷ (above ++ k ∷ more)))) [
      | inl same ↦ inl (ap₂ (λ u v. u ∷ v) (sym heads) same)
      | inr longer ↦ inr (longer.0, longer.1, ap₂ (λ u v. u ∷ v) heads longer.2)
    ]

module _ (decide : Path → Decision) where
  pub reached_below : (p : Path) (n : Name) → IsReached decide p → GoesOn (decide p) →
      IsReached decide (child p n)
  reached_below p n reached on above m rest e =
      elim (above_last p above n m rest e) as (λ _. GoesOn (decide above)) [
        | inl same ↦ subst (λ w. GoesOn (decide w)) (sym same) on
        | inr longer ↦ reached above longer.0 longer.1 longer.2
      ]

  decided_here : (p : Path) (item : Item) → IsReached decide p → path_of item ≡ p →
      (decide p ≡ Do item) ⊎ (decide p ≡ DoAndGoOn item) → IsDecided decide item
  decided_here p item reached at decided = record {
    reached = subst (IsReached decide) (sym at) reached;
    decided = subst (λ w. (decide w ≡ Do item) ⊎ (decide w ≡ DoAndGoOn item)) (sym at) decided;
  }

  fitting-decided : (p : Path) (d : Decision) (items : List Item) → decide p ≡ d → FitsAt p d →
      IsReached decide p → (GoesOn d → AllByRecursion (IsDecided decide) items) →
      AllByRecursion (IsDecided decide) (with_items_below d items)
  fitting-decided p Clean items e fit reached rest = tt
  fitting-decided p (Do item) items e fit reached rest =
      (decided_here p item reached fit (inl e), tt)
  fitting-decided p (DoAndGoOn item) items e fit reached rest =
      (decided_here p item reached (ap path_of fit) (inr e), rest tt)
  fitting-decided p GoOn items e fit reached rest = rest tt

  items-decided : ((path : Path) → FitsAt path (decide path)) → (names_of : Path → List Name)
      (levels : ℕ) (p : Path) → IsReached decide p →
      AllByRecursion (IsDecided decide) (items_from decide names_of levels p)
  items-decided fits names_of zero p reached = tt
  items-decided fits names_of (suc levels) p reached =
      fitting-decided p (decide p)
      (below decide names_of levels p (names_of p)) refl (fits p) reached
      (λ on. every-flat_map (IsDecided decide)
      (λ name. items_from decide names_of levels (child p name)) (names_of p)
      (λ name. items-decided fits names_of levels (child p name) (reached_below p name reached on)))

nothing_above_root : (above : Path) (n : Name) (rest : Path) → root ≡ above ++ n ∷ rest → ⊥
nothing_above_root above n rest e = not_nil above n rest (sym e)

pub plan_is_decided : PlanIsDecided
plan_is_decided preference left right archive =
    let decide = decision preference left right archive in
    All-from_recursion (IsDecided decide) (plan preference left right archive)
    (items-decided decide (decision-fits preference left right archive)
    (names_below left right archive)
    (suc most_names) root (λ above n rest e. absurd (nothing_above_root above n rest e)))

-- ---- what is overwritten

pub contested_by : (left right : Scan) (archive : Tree) (path : Path) →
    dirty left archive path ≡ true → dirty right archive path ≡ true →
    (is_unstable left path || is_unstable right path) ≡ false →
    IsContested left right archive path
contested_by left right archive path x y e =
    let stable = or_parts (is_unstable left path) (is_unstable right path) e in
    record { left_dirty = x; right_dirty = y; left_stable = stable.0; right_stable = stable.1 }

contested_lawfully : (preference : Option Which) (left right : Scan) (archive : Tree)
    (path : Path) → dirty left archive path ≡ true → dirty right archive path ≡ true →
    (unstable : Bool) → (is_unstable left path || is_unstable right path) ≡ unstable →
    OverwritesLawfully preference left right archive (contested preference unstable path)
contested_lawfully None left right archive path x y unstable e = tt
contested_lawfully (Some side) left right archive path x y true e = tt
contested_lawfully (Some Left) left right archive path x y false e =
    inr (refl, contested_by left right archive path x y e)
contested_lawfully (Some Right) left right archive path x y false e =
    inr (refl, contested_by left right archive path x y e)

module _ (preference : Option Which) (left right : Scan) (archive : Tree) where
  abbrev ClearAt : Decision → Type 0
  ClearAt Clean = Unit {0}
  ClearAt (Do item) = OverwritesLawfully preference left right archive item
  ClearAt (DoAndGoOn item) = OverwritesLawfully preference left right archive item
  ClearAt GoOn = Unit {0}

  decision-clear : (path : Path) → ClearAt (decision preference left right archive path)
  decision-clear path =
      let d : Decision = if is_unstable left path || is_unstable right path then Do (Conflict path)
      else if is_directory archive path then GoOn else DoAndGoOn (MarkDir path) in
      let unstable = is_unstable left path || is_unstable right path in
      let last : Decision = Do (contested preference unstable path) in
      let f : Decision = if not (dirty left archive path) then Do (ToLeft path) else last in
      let e : Decision = if not (dirty right archive path) then Do (ToRight path) else f in
      let g : Decision = if is_same_tree (subtree left.marks path) (subtree right.marks path)
      then Do (MarkSame path) else e in
      elim (not (dirty left archive path || dirty right archive path)) as (λ b. ClearAt
      (if b then Clean else if is_directory_in_both left.marks right.marks path then d else g)) [
        | true ↦ tt
        | false ↦ elim (is_directory_in_both left.marks right.marks path)
            as (λ b. ClearAt (if b then d else g)) [
              | true ↦ elim (is_unstable left path || is_unstable right path)
                  as (λ b. ClearAt (if b then Do (Conflict path) else if is_directory archive path
                  then GoOn else DoAndGoOn (MarkDir path))) [
                    | true ↦ tt
                    | false ↦ elim (is_directory archive path)
                        as (λ b. ClearAt (if b then GoOn else DoAndGoOn (MarkDir path)))
                        [ true ↦ tt | false ↦ tt ]
                  ]
              | false ↦ elim (is_same_tree (subtree left.marks path) (subtree right.marks path))
                  as (λ b. ClearAt (if b then Do (MarkSame path) else e)) [
                    | true ↦ tt
                    | false ↦ elim (dirty right archive path)
                        as (λ y. dirty right archive path ≡ y →
                        ClearAt (if not y then Do (ToRight path) else f)) [
                          | false ↦ λ h. inl h
                          | true ↦ λ y. elim (dirty left archive path)
                              as (λ x. dirty left archive path ≡ x →
                              ClearAt (if not x then Do (ToLeft path) else last)) [
                                | false ↦ λ h. inl h
                                | true ↦ λ x. contested_lawfully preference left right archive path
                                    x y unstable refl
                              ] refl
                        ] refl
                  ]
            ]
      ]

  clear_item : (item : Item) → IsDecided (decision preference left right archive) item →
      OverwritesLawfully preference left right archive item
  clear_item item h =
      elim h.decided as (λ _. OverwritesLawfully preference left right archive item) [
        | inl e ↦ subst ClearAt e (decision-clear (path_of item))
        | inr e ↦ subst ClearAt e (decision-clear (path_of item))
      ]

pub plan_overwrites_lawfully : PlanOverwritesLawfully
plan_overwrites_lawfully preference left right archive =
    All-weaker (IsDecided (decision preference left right archive))
    (OverwritesLawfully preference left right archive)
    (clear_item preference left right archive) (plan preference left right archive)
    (plan_is_decided preference left right archive)

-- ---- the items before an item

every-split : {X : Type 0} (P : X → Type 0) (xs : List X) (y : X) (ys : List X) →
    AllByRecursion P (xs ++ y ∷ ys) → AllByRecursion P xs × P y
every-split P [] y ys h = (tt, h.0)
every-split P (x ∷ xs) y ys h =
    let rest = every-split P xs y ys h.1 in
    ((h.0, rest.0), rest.1)

pub ordered_before : (before : List Item) (item : Item) (after : List Item) →
    Ordered (before ++ item ∷ after) →
    Ordered before × AllByRecursion (λ earlier. StandsBefore earlier item) before
ordered_before [] item after h = (tt, tt)
ordered_before (x ∷ xs) item after h =
    let first = every-split (StandsBefore x) xs item after h.0 in
    let rest = ordered_before xs item after h.1 in
    ((first.0, rest.0), (first.1, rest.1))

pub plan_before : (preference : Option Which) (left right : Scan) (archive : Tree)
    (before after : List Item) (item : Item) →
    plan preference left right archive ≡ before ++ item ∷ after →
    Ordered before × AllByRecursion (λ earlier. StandsBefore earlier item) before
plan_before preference left right archive before after item e =
    ordered_before before item after (subst Ordered e (plan-ordered preference left right archive))

-- in a plan each item stands well before each later one
pub plan_in_order : PlanIsInOrder
plan_in_order preference left right archive =
    ordered_pairs (plan preference left right archive) (plan-ordered preference left right archive)

orderly : (earlier later : Item) → StandsBefore earlier later → (path_of earlier ≢ path_of later)
    × (is_mark_dir earlier ≡ false → comparable (path_of earlier) (path_of later) ≡ false)
orderly earlier later order = (
  λ same. true≢false (sym (ap (is_prefix (path_of later)) same ∙ prefix_itself (path_of later))
      ∙ order.not_above),
  λ other. ap₂ (λ x y. x || y) (false_from_ne_true (is_prefix (path_of earlier) (path_of later))
      (λ e. true≢false (sym (ap is_mark_dir (order.below_directory e)) ∙ other))) order.not_above,
)

pub plan_is_orderly : PlanIsOrderly
plan_is_orderly preference left right archive =
    let order = plan_in_order preference left right archive in
    record {
      named_once = λ i j d lt within. (orderly _ _ (order i j d lt within)).0;
      incomparable = λ i j d lt within. (orderly _ _ (order i j d lt within)).1;
      above_first = λ i j d lt within. (order i j d lt within).not_above;
    }
