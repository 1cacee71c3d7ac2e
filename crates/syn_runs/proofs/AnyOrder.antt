-- What the items of a plan leave, in whatever order they are carried out.
use Rattle.std.proofs.Common.{◌≡◌, Bool, true, false, not, ◌||◌, List, [], ◌∷◌, ◌++◌, refl, sym, ap}
use Rattle.std.proofs.Common.{ap₂, ◌∙◌, subst, Some, None, true≢false, append-nil, inl, inr, ◌⊎◌}
use Rattle.std.proofs.Common.{Option}
use Rattle.std.specs.Prelude.{Contains}
use Rattle.std.specs.FinMap.{get}
use Rattle.std.proofs.lemmas.List.Elements.{All-contains}
use Rattle.syn_model.specs.Path.{Path, strip_prefix}
use Rattle.syn_model.specs.Tree.{Tree, Directory, subtree, replace, is_directory}
use Rattle.syn_model.specs.Dirty.{Scan, dirty, is_same_tree, is_unstable}
use Rattle.syn_model.specs.Reconcile.{is_directory_in_both}
use Rattle.syn_model.specs.Decision.{Item, MarkDir, Do, DoAndGoOn, GoesOn, decision, path_of}
use Rattle.syn_model.specs.Plan.{plan, IsDecided as IsDecidedAt, is_mark_dir}
use Rattle.syn_model.proofs.PathLemmas.{strip_prefix-append, strip_prefix-is}
use Rattle.syn_model.proofs.TreeLemmas.{get-subtree, same_tree, within, beside}
use Rattle.syn_model.proofs.PlanOrder.{plan_is_decided}
use Rattle.syn_runs.proofs.PlanLemmas.{decided_by}
use Rattle.syn_runs.proofs.HarmlessLemmas.{same_item}
use Rattle.syn_model.specs.Which.{Which}

-- an item that marks no directory stands alone: no other stands at or below its path
abbrev pub StandAlone : List Item → Type 0
StandAlone items =
    (x y : Item) (rest : Path) → Contains items x → Contains items y → is_mark_dir x ≡ false →
    path_of y ≡ path_of x ++ rest → x ≡ y

goes_on_at_directory : (r : Option Which) (a b c d e f g : Bool) (p : Path) (x : Item) →
    decided_by r a b c d e f g p ≡ DoAndGoOn x → is_mark_dir x ≡ true
goes_on_at_directory r true b c d e f g p x h = cc
goes_on_at_directory r false true true d e f g p x h = cc
goes_on_at_directory r false true false true e f g p x h = cc
goes_on_at_directory r false true false false e f g p x h =
    let same : MarkDir p ≡ x = cc in
    ap is_mark_dir (sym same)
goes_on_at_directory r false false c d true f g p x h = cc
goes_on_at_directory r false false c d false true g p x h = cc
goes_on_at_directory r false false c d false false true p x h = cc
goes_on_at_directory r false false c d false false false p x h = cc

pub not_below : (preference : Option Which) (l r : Scan) (o : Tree) (x : Item) → IsDecidedAt
    (decision preference l r o) x →
    is_mark_dir x ≡ false → GoesOn (decision preference l r o (path_of x)) → ⊥
not_below preference l r o x d file on = elim d.decided as (λ _. ⊥) [
  | inl e ↦ subst GoesOn e on
  | inr e ↦
      let p = path_of x in
      true≢false (sym (goes_on_at_directory preference (not (dirty l o p || dirty r o p))
      (is_directory_in_both l.marks r.marks p) (is_unstable l p || is_unstable r p)
      (is_directory o p) (is_same_tree (subtree l.marks p) (subtree r.marks p))
      (not (dirty r o p)) (not (dirty l o p)) p x e) ∙ file)
]

pub plan_stands_alone : (preference : Option Which) (l r : Scan) (o : Tree) → StandAlone
    (plan preference l r o)
plan_stands_alone preference l r o x y rest in_x in_y file at = alone rest at
  where
    decided : (z : Item) → Contains (plan preference l r o) z → IsDecidedAt
        (decision preference l r o) z
    decided z c =
        All-contains (IsDecidedAt (decision preference l r o)) (plan preference l r o) z
        (plan_is_decided preference l r o) c

    alone : (rest : Path) → path_of y ≡ path_of x ++ rest → x ≡ y
    alone [] e = same_item (decision preference l r o (path_of x)) x y (decided x in_x).decided
        (subst (λ p. (decision preference l r o p ≡ Do y) ⊎ (decision preference l r o p ≡ DoAndGoOn
        y))
        (e ∙ append-nil (path_of x)) (decided y in_y).decided)
    alone (n ∷ r') e =
        absurd
        (not_below preference l r o x (decided x in_x) file ((decided y in_y).reached (path_of x) n
        r' e))

-- of two paths above one, one is above the other
pub two_above : (p q a b : Path) →
    p ++ a ≡ q ++ b → ((r : Path) × (q ≡ p ++ r)) ⊎ ((r : Path) × (p ≡ q ++ r))
two_above [] q a b e = inl (q, refl)
two_above (n ∷ p) [] a b e = inr (n ∷ p, refl)
two_above (n ∷ p) (m ∷ q) a b e =
    let h : n ≡ m = cc in
    let t : p ++ a ≡ q ++ b = cc in
    elim (two_above p q a b t)
    as (λ _. ((r : Path) × (m ∷ q ≡ n ∷ (p ++ r))) ⊎ ((r : Path) × (n ∷ p ≡ m ∷ (q ++ r)))) [
      | inl l ↦ inl (l.0, ap₂ (λ k w. k ∷ w) (sym h) l.1)
      | inr l ↦ inr (l.0, ap₂ (λ k w. k ∷ w) h l.1)
    ]

-- two that stand alone above one path are one
pub one_above : (items : List Item) → StandAlone items → (x y : Item) (a b : Path) →
    Contains items x → Contains items y → is_mark_dir x ≡ false → is_mark_dir y ≡ false →
    path_of x ++ a ≡ path_of y ++ b → x ≡ y
one_above items alone x y a b in_x in_y dir_x dir_y e =
    elim (two_above (path_of x) (path_of y) a b e) as (λ _. x ≡ y) [
      | inl l ↦ alone x y l.0 in_x in_y dir_x l.1
      | inr l ↦ sym (alone y x l.0 in_y in_x dir_y l.1)
    ]

-- the part of another tree put at a path
abbrev pub put : Tree → Path → Tree → Tree
put t p u = replace t p (subtree u p)

pub put_within : (t : Tree) (p : Path) (u : Tree) (rest : Path) →
    get (put t p u) (p ++ rest) ≡ get u (p ++ rest)
put_within t p u rest =
    within t p (subtree u p) (p ++ rest) rest (strip_prefix-append p rest) ∙ get-subtree u p rest

-- at each path it has what was put, or what it had
pub put_cases : (t : Tree) (p : Path) (u : Tree) (q : Path) →
    ((rest : Path) × (q ≡ p ++ rest) × (get (put t p u) q ≡ get u q))
    ⊎ (get (put t p u) q ≡ get t q)
put_cases t p u q =
    elim (strip_prefix p q) as (λ o. strip_prefix p q ≡ o → ((rest : Path) × (q ≡ p ++ rest)
    × (get (put t p u) q ≡ get u q)) ⊎ (get (put t p u) q ≡ get t q)) [
      | None ↦ λ none. inr (beside t p (subtree u p) q none)
      | Some rest ↦ λ some.
          let at = strip_prefix-is p q rest some in
          inl (rest, at, subst (λ w. get (put t p u) w ≡ get u w) (sym at) (put_within t p u rest))
    ] refl

-- a tree with a directory more
abbrev pub HasMore : Path → Tree → Tree → Type 0
HasMore p t t' = (q : Path) → ((q ≡ p) × (get t' q ≡ Some Directory)) ⊎ (get t' q ≡ get t q)

pub more_directory_stays : (t t' : Tree) (p q : Path) → HasMore p t t' → get t q ≡ Some Directory →
    get t' q ≡ Some Directory
more_directory_stays t t' p q more is =
    elim (more q) as (λ _. get t' q ≡ Some Directory) [ inl new ↦ new.1 | inr old ↦ old ∙ is ]

-- Items that put a part of a tree of theirs at their paths
module _ (items : List Item) (alone : StandAlone items) (on : Item → Bool)
    (no_directory : (x : Item) → on x ≡ true → is_mark_dir x ≡ false) (part : Item → Tree) where
  -- an item at or above the path put there what is there
  abbrev pub IsPut : Tree → Path → Type 0
  IsPut t q =
      (x : Item) × (rest : Path) × Contains items x × (on x ≡ true) × (q ≡ path_of x ++ rest)
      × (get t q ≡ get (part x) q)

  abbrev pub IsDone : Tree → Item → Type 0
  IsDone t x = (rest : Path) → get t (path_of x ++ rest) ≡ get (part x) (path_of x ++ rest)

  -- what was done stays, since what is put at the same path is the same
  pub done_stays : (t : Tree) (x y : Item) → Contains items x → on x ≡ true → Contains items y →
      on y ≡ true → IsDone t y → IsDone (put t (path_of x) (part x)) y
  done_stays t x y in_x on_x in_y on_y done rest =
      elim (put_cases t (path_of x) (part x) (path_of y ++ rest)) as (λ _. get
      (put t (path_of x) (part x)) (path_of y ++ rest) ≡ get (part y) (path_of y ++ rest)) [
        | inl new ↦ new.2 ∙ ap (λ z. get (part z) (path_of y ++ rest))
            (one_above items alone x y new.0
            rest in_x in_y (no_directory x on_x) (no_directory y on_y) (sym new.1))
        | inr old ↦ old ∙ done rest
      ]

  -- at each path the tree has what an item put there, or what it had
  abbrev pub IsCovered : Tree → Tree → Type 0
  IsCovered base t = (q : Path) → IsPut t q ⊎ (get t q ≡ get base q)

  pub put_covers : (base t : Tree) (x : Item) → Contains items x → on x ≡ true → IsCovered base t →
      IsCovered base (put t (path_of x) (part x))
  put_covers base t x in_x on_x covered q =
      elim (put_cases t (path_of x) (part x) q) as (λ _. IsPut (put t (path_of x) (part x)) q
      ⊎ (get (put t (path_of x) (part x)) q ≡ get base q)) [
        | inl new ↦ inl (x, new.0, in_x, on_x, new.1, new.2)
        | inr old ↦ elim (covered q) as (λ _. IsPut (put t (path_of x) (part x)) q
            ⊎ (get (put t (path_of x) (part x)) q ≡ get base q)) [
              | inl was ↦ inl (was.0, was.1, was.2, was.3, was.4, old ∙ was.5)
              | inr was ↦ inr (old ∙ was)
            ]
      ]

  pub put_at : (t u : Tree) (q : Path) →
      ((x : Item) → Contains items x → on x ≡ true → IsDone u x) → IsPut t q → get t q ≡ get u q
  put_at t u q done was =
      was.5 ∙ (ap (get (part was.0)) was.4
      ∙ (sym (done was.0 was.2 was.3 was.1) ∙ ap (get u) (sym was.4)))

  -- so where all is done the tree is one
  pub covered_same : (base t u : Tree) → IsCovered base t →
      IsCovered base u → ((x : Item) → Contains items x → on x ≡ true → IsDone t x) →
      ((x : Item) → Contains items x → on x ≡ true → IsDone u x) → t ≡ u
  covered_same base t u cover_t cover_u done_t done_u =
      same_tree t u (λ q. elim (cover_t q) as (λ _. get t q ≡ get u q) [
        | inl was ↦ put_at t u q done_u was
        | inr same ↦ elim (cover_u q) as (λ _. get t q ≡ get u q) [
          | inl was ↦ sym (put_at u t q done_t was)
          | inr too ↦ same ∙ sym too
        ]
      ])

  -- Items that mark directories too

  abbrev pub IsCoveredToo : Tree → Tree → Type 0
  IsCoveredToo base t =
      (q : Path) → IsPut t q
      ⊎ ((Contains items (MarkDir q) × (get t q ≡ Some Directory)) ⊎ (get t q ≡ get base q))

  pub put_covers_too : (base t : Tree) (x : Item) → Contains items x → on x ≡ true →
      IsCoveredToo base t → IsCoveredToo base (put t (path_of x) (part x))
  put_covers_too base t x in_x on_x covered q =
      let t' = put t (path_of x) (part x) in
      elim (put_cases t (path_of x) (part x) q) as (λ _. IsPut t' q
      ⊎ ((Contains items (MarkDir q) × (get t' q ≡ Some Directory)) ⊎ (get t' q ≡ get base q))) [
        | inl new ↦ inl (x, new.0, in_x, on_x, new.1, new.2)
        | inr old ↦ elim (covered q) as (λ _. IsPut t' q
            ⊎ ((Contains items (MarkDir q) × (get t' q ≡ Some Directory))
            ⊎ (get t' q ≡ get base q))) [
              | inl was ↦ inl (was.0, was.1, was.2, was.3, was.4, old ∙ was.5)
              | inr (inl was) ↦ inr (inl (was.0, old ∙ was.1))
              | inr (inr was) ↦ inr (inr (old ∙ was))
            ]
      ]

  -- what is marked as a directory is no part that was put
  above_directory : (x : Item) (p rest : Path) → Contains items x → on x ≡ true →
      Contains items (MarkDir p) → p ≡ path_of x ++ rest → ⊥
  above_directory x p rest in_x on_x marked e =
      true≢false (sym (ap is_mark_dir
      (alone x (MarkDir p) rest in_x marked (no_directory x on_x) e)) ∙ no_directory x on_x)

  pub directory_stays : (t : Tree) (x : Item) (p : Path) → Contains items x → on x ≡ true →
      Contains items (MarkDir p) → get t p ≡ Some Directory →
      get (put t (path_of x) (part x)) p ≡ Some Directory
  directory_stays t x p in_x on_x marked is =
      elim (put_cases t (path_of x) (part x) p)
      as (λ _. get (put t (path_of x) (part x)) p ≡ Some Directory) [
        | inl new ↦ absurd (above_directory x p new.0 in_x on_x marked new.1)
        | inr old ↦ old ∙ is
      ]

  pub more_covers : (base t t' : Tree) (p : Path) → Contains items (MarkDir p) → HasMore p t t' →
      IsCoveredToo base t → IsCoveredToo base t'
  more_covers base t t' p marked more covered q =
      elim (more q) as (λ _. IsPut t' q
      ⊎ ((Contains items (MarkDir q) × (get t' q ≡ Some Directory)) ⊎ (get t' q ≡ get base q))) [
        | inl new ↦ inr (inl (subst (λ w. Contains items (MarkDir w)) (sym new.0) marked, new.1))
        | inr old ↦ elim (covered q) as (λ _. IsPut t' q
            ⊎ ((Contains items (MarkDir q) × (get t' q ≡ Some Directory))
            ⊎ (get t' q ≡ get base q))) [
              | inl was ↦ inl (was.0, was.1, was.2, was.3, was.4, old ∙ was.5)
              | inr (inl was) ↦ inr (inl (was.0, old ∙ was.1))
              | inr (inr was) ↦ inr (inr (old ∙ was))
            ]
      ]

  pub more_stays : (t t' : Tree) (p : Path) (y : Item) → Contains items (MarkDir p) →
      HasMore p t t' → Contains items y → on y ≡ true → IsDone t y → IsDone t' y
  more_stays t t' p y marked more in_y on_y done rest =
      elim (more (path_of y ++ rest))
      as (λ _. get t' (path_of y ++ rest) ≡ get (part y) (path_of y ++ rest)) [
        | inl new ↦ absurd (above_directory y p rest in_y on_y marked (sym new.0))
        | inr old ↦ old ∙ done rest
      ]

  pub covered_same_too : (base t u : Tree) → IsCoveredToo base t →
      IsCoveredToo base u → ((x : Item) → Contains items x → on x ≡ true → IsDone t x) →
      ((x : Item) → Contains items x → on x ≡ true → IsDone u x) →
      ((p : Path) → Contains items (MarkDir p) → get t p ≡ Some Directory) →
      ((p : Path) → Contains items (MarkDir p) → get u p ≡ Some Directory) → t ≡ u
  covered_same_too base t u cover_t cover_u done_t done_u marked_t marked_u =
      same_tree t u (λ q. elim (cover_t q) as (λ _. get t q ≡ get u q) [
        | inl was ↦ put_at t u q done_u was
        | inr (inl was) ↦ was.1 ∙ sym (marked_u q was.0)
        | inr (inr same) ↦ elim (cover_u q) as (λ _. get t q ≡ get u q) [
          | inl was ↦ sym (put_at u t q done_t was)
          | inr (inl was) ↦ marked_t q was.0 ∙ sym was.1
          | inr (inr too) ↦ same ∙ sym too
        ]
      ])
