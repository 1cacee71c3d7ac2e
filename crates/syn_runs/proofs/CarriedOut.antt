-- What a plan leaves as it is carried out, path by path.
use Rattle.std.proofs.Common.{◌≡◌, Bool, true, false, if◌then◌else◌, List, [], ◌∷◌, ◌++◌, refl, sym}
use Rattle.std.proofs.Common.{ap, ap₂, ◌∙◌, subst, Some, None, true≢false, append_assoc, append-nil}
use Rattle.std.proofs.Common.{arith, inl, inr, ◌⊎◌, Option}
use Rattle.std.specs.Prelude.{Contains}
use Rattle.std.specs.FinMap.{get}
use Rattle.std.proofs.lemmas.List.Elements.{Contains-append_left, Contains-append_right}
use Rattle.std.proofs.lemmas.List.Elements.{Contains-append_cases}
use Rattle.std.proofs.lemmas.List.Sums.{fold-append}
use Rattle.syn_model.specs.Path.{Name, Path, strip_prefix}
use Rattle.syn_model.specs.Tree.{Tree, Directory, HasParents, subtree, replace, is_directory}
use Rattle.syn_model.specs.Tree.{empty_directory}
use Rattle.syn_model.specs.Mark.{mark}
use Rattle.syn_model.specs.Decision.{Item, ToLeft, ToRight, MarkSame, MarkDir, Conflict, path_of}
use Rattle.syn_model.specs.Plan.{plan, is_mark_dir, scan_of, Trees, with_directory, after_item}
use Rattle.syn_model.specs.Plan.{carried_out, IsRecordedForEach}
use Rattle.syn_model.proofs.TreeLemmas.{get-subtree, same_tree, within, beside}
use Rattle.syn_model.proofs.SyncLemmas.{directory_is}
use Rattle.syn_model.proofs.PathLemmas.{strip_prefix-append, strip_prefix-is}
use Rattle.syn_model.proofs.MarkLemmas.{mark-subtree}
use Rattle.syn_model.proofs.QuietLemmas.{nothing_below}
use Rattle.syn_model.proofs.HistoryLemmas.{get-at_root}
use Rattle.syn_model.proofs.PlanSteps.{item_finds_archive}
use Rattle.syn_model.proofs.DirectoryLemmas.{moved-directory}
use Rattle.syn_machine.specs.Network.{Which, Left, Right, other}
use Rattle.syn_runs.proofs.AnyOrder.{StandAlone, plan_stands_alone, one_above, put, put_within}
use Rattle.syn_runs.proofs.AnyOrder.{IsDone, done_stays, IsCovered, put_covers, IsCoveredToo}
use Rattle.syn_runs.proofs.AnyOrder.{put_covers_too, covered_same, covered_same_too}
use Rattle.syn_runs.proofs.AnyOrder.{directory_stays, HasMore, more_covers, more_stays}
use Rattle.syn_runs.proofs.AnyOrder.{more_directory_stays}
use Rattle.syn_model.proofs.BaseLemmas.{contains_one}

-- the item replaces on the side
abbrev pub is_to : Which → Item → Bool
is_to Left (ToLeft path) = true
is_to Right (ToRight path) = true
is_to side item = false

-- a part is recorded for the item
abbrev pub is_recorded : Item → Bool
is_recorded (ToLeft path) = true
is_recorded (ToRight path) = true
is_recorded (MarkSame path) = true
is_recorded (MarkDir path) = false
is_recorded (Conflict path) = false

-- of this tree of marks
abbrev pub recorded_of : (Which → Tree) → Item → Tree
recorded_of found (ToLeft path) = mark (found Right)
recorded_of found item = mark (found Left)

pub to_file : (side : Which) (x : Item) → is_to side x ≡ true → is_mark_dir x ≡ false
to_file Left (ToLeft path) e = refl
to_file Left (ToRight path) e = refl
to_file Left (MarkSame path) e = refl
to_file Left (MarkDir path) e = absurd (true≢false (sym e))
to_file Left (Conflict path) e = refl
to_file Right (ToLeft path) e = refl
to_file Right (ToRight path) e = refl
to_file Right (MarkSame path) e = refl
to_file Right (MarkDir path) e = absurd (true≢false (sym e))
to_file Right (Conflict path) e = refl

pub recorded_file : (x : Item) → is_recorded x ≡ true → is_mark_dir x ≡ false
recorded_file (ToLeft path) e = refl
recorded_file (ToRight path) e = refl
recorded_file (MarkSame path) e = refl
recorded_file (MarkDir path) e = absurd (true≢false (sym e))
recorded_file (Conflict path) e = refl

-- a directory more, where there is nothing below what is none
pub directory_more : (t : Tree) (p : Path) →
    ((n : Name) (r : Path) → is_directory t p ≡ false → get t (p ++ n ∷ r) ≡ None) →
    HasMore p t (with_directory t p) × (get (with_directory t p) p ≡ Some Directory)
directory_more t p empty =
    elim (is_directory t p)
    as (λ b. is_directory t p ≡ b → HasMore p t (if b then t else replace t p empty_directory)
    × (get (if b then t else replace t p empty_directory) p ≡ Some Directory)) [
      | true ↦ λ d. (λ q. inr refl, directory_is (get t p) d)
      | false ↦ λ d. (
        λ q. elim (strip_prefix p q) as (λ o. strip_prefix p q ≡ o →
            ((q ≡ p) × (get (replace t p empty_directory) q ≡ Some Directory))
            ⊎ (get (replace t p empty_directory) q ≡ get t q)) [
              | None ↦ λ none. inr (beside t p empty_directory q none)
              | Some rest ↦ λ some. below d q rest some (strip_prefix-is p q rest some)
            ] refl,
        within t p empty_directory p
            [] (ap (strip_prefix p) (sym (append-nil p)) ∙ strip_prefix-append p [])
            ∙ get-at_root Directory [],
      )
    ] refl
  where
    below : is_directory t p ≡ false → (q rest : Path) → strip_prefix p q ≡ Some rest →
        q ≡ p ++ rest → ((q ≡ p) × (get (replace t p empty_directory) q ≡ Some Directory))
        ⊎ (get (replace t p empty_directory) q ≡ get t q)
    below d q [] some at =
        inl (at ∙ append-nil p, within t p empty_directory q [] some ∙ get-at_root Directory [])
    below d q (n ∷ r) some at =
        inr (within t p empty_directory q (n ∷ r) some
        ∙ (get-at_root Directory (n ∷ r) ∙ sym (ap (get t) at ∙ empty n r d)))

abbrev pub tree_on : Trees → Which → Tree
tree_on trees Left = trees.left
tree_on trees Right = trees.right

-- what an item changes
pub record Changes (found : Which → Tree) (old new : Trees) (x : Item) : Type 0 where
  pub sides : (side : Which) → ((is_to side x ≡ true)
      × (tree_on new side ≡ put (tree_on old side) (path_of x) (found (other side))))
      ⊎ ((is_to side x ≡ false) × (tree_on new side ≡ tree_on old side))
  pub archive :
      ((is_recorded x ≡ true) × (new.archive ≡ put old.archive (path_of x) (recorded_of found x)))
      ⊎ ((is_recorded x ≡ false) × (((p : Path) × (x ≡ MarkDir p)
      × HasMore p old.archive new.archive × (get new.archive p ≡ Some Directory))
      ⊎ ((is_mark_dir x ≡ false) × (new.archive ≡ old.archive))))

module _ (found : Which → Tree) (o : Tree) (items : List Item) (alone : StandAlone items) where
  abbrev pub CoversSide : Which → Tree → Type 0
  CoversSide side t =
      IsCovered items alone (is_to side) (to_file side) (λ _. found (other side)) (found side) t

  abbrev pub CoversArchive : Tree → Type 0
  CoversArchive t = IsCoveredToo items alone is_recorded recorded_file (recorded_of found) o t

  abbrev pub IsDoneOn : Which → Tree → Item → Type 0
  IsDoneOn side t x = IsDone items alone (is_to side) (to_file side) (λ _. found (other side)) t x

  abbrev pub IsDoneIn : Tree → Item → Type 0
  IsDoneIn t x = IsDone items alone is_recorded recorded_file (recorded_of found) t x

  -- the first items are carried out
  pub record HasCarriedOut (first : List Item) (s : Trees) : Type 0 where
    pub sides : (side : Which) → CoversSide side (tree_on s side)
    pub archive : CoversArchive s.archive
    pub done : (side : Which) (x : Item) → Contains first x → is_to side x ≡ true →
        IsDoneOn side (tree_on s side) x
    pub recorded : (x : Item) → Contains first x → is_recorded x ≡ true → IsDoneIn s.archive x
    pub directories : (p : Path) → Contains first (MarkDir p) → get s.archive p ≡ Some Directory

  module _ (first : List Item) (old new : Trees) (x : Item)
      (known : (y : Item) → Contains first y → Contains items y) (in_x : Contains items x)
      (h : HasCarriedOut first old) (c : Changes found old new x) where
    sides_then : (side : Which) → CoversSide side (tree_on new side)
    sides_then side = elim (c.sides side) as (λ _. CoversSide side (tree_on new side)) [
      | inl is ↦ subst (CoversSide side) (sym is.1)
          (put_covers items alone (is_to side) (to_file side) (λ _. found (other side)) (found side)
          (tree_on old side) x in_x is.0 (h.sides side))
      | inr is ↦ subst (CoversSide side) (sym is.1) (h.sides side)
    ]

    done_then : (side : Which) (y : Item) → Contains (first ++ x ∷ []) y → is_to side y ≡ true →
        IsDoneOn side (tree_on new side) y
    done_then side y at on =
        elim (Contains-append_cases first (x ∷ []) y at)
        as (λ _. IsDoneOn side (tree_on new side) y) [
          | inl earlier ↦ elim (c.sides side) as (λ _. IsDoneOn side (tree_on new side) y) [
            | inl is ↦ subst (λ t. IsDoneOn side t y) (sym is.1)
                (done_stays items alone (is_to side) (to_file side) (λ _. found (other side))
                (tree_on old side) x y in_x is.0 (known y earlier) on (h.done side y earlier on))
            | inr is ↦ subst (λ t. IsDoneOn side t y) (sym is.1) (h.done side y earlier on)
          ]
          | inr last ↦
              let same = sym (contains_one x y last) in
              elim (c.sides side) as (λ _. IsDoneOn side (tree_on new side) y) [
                | inl is ↦ subst (λ z. IsDoneOn side (tree_on new side) z) (sym same)
                    (subst (λ t. IsDoneOn side t x) (sym is.1)
                    (put_within (tree_on old side) (path_of x) (found (other side))))
                | inr is ↦ absurd (true≢false (sym on ∙ (ap (is_to side) same ∙ is.0)))
              ]
        ]

    archive_then : CoversArchive new.archive
    archive_then = elim c.archive as (λ _. CoversArchive new.archive) [
      | inl is ↦ subst CoversArchive (sym is.1) (put_covers_too items alone is_recorded
          recorded_file (recorded_of found) o old.archive x in_x is.0 h.archive)
      | inr (_, inl is) ↦ more_covers items alone is_recorded recorded_file (recorded_of found) o
          old.archive new.archive is.0 (subst (Contains items) is.1 in_x) is.2 h.archive
      | inr (_, inr is) ↦ subst CoversArchive (sym is.1) h.archive
    ]

    recorded_before : (y : Item) → Contains first y → is_recorded y ≡ true → IsDoneIn new.archive y
    recorded_before y earlier on = elim c.archive as (λ _. IsDoneIn new.archive y) [
      | inl is ↦ subst (λ t. IsDoneIn t y) (sym is.1)
          (done_stays items alone is_recorded recorded_file (recorded_of found) old.archive x y in_x
          is.0 (known y earlier) on (h.recorded y earlier on))
      | inr (_, inl is) ↦ more_stays items alone is_recorded recorded_file
          (recorded_of found) old.archive new.archive is.0 y (subst (Contains items) is.1 in_x) is.2
          (known y earlier) on (h.recorded y earlier on)
      | inr (_, inr is) ↦ subst (λ t. IsDoneIn t y) (sym is.1) (h.recorded y earlier on)
    ]

    recorded_now : is_recorded x ≡ true → IsDoneIn new.archive x
    recorded_now on = elim c.archive as (λ _. IsDoneIn new.archive x) [
      | inl is ↦ subst (λ t. IsDoneIn t x) (sym is.1)
          (put_within old.archive (path_of x) (recorded_of found x))
      | inr (off, _) ↦ absurd (true≢false (sym on ∙ off))
    ]

    recorded_then : (y : Item) → Contains (first ++ x ∷ []) y → is_recorded y ≡ true →
        IsDoneIn new.archive y
    recorded_then y at on =
        elim (Contains-append_cases first (x ∷ []) y at) as (λ _. IsDoneIn new.archive y) [
          | inl earlier ↦ recorded_before y earlier on
          | inr last ↦ let same = sym (contains_one x y last) in
              subst (IsDoneIn new.archive) (sym same)
              (recorded_now (ap is_recorded (sym same) ∙ on))
        ]

    directory_before : (p : Path) → Contains first (MarkDir p) → get new.archive p ≡ Some Directory
    directory_before p earlier = elim c.archive as (λ _. get new.archive p ≡ Some Directory) [
      | inl is ↦ ap (λ t. get t p) is.1 ∙ directory_stays items alone is_recorded recorded_file
          (recorded_of found) old.archive x p in_x is.0 (known (MarkDir p) earlier)
          (h.directories p earlier)
      | inr (_, inl is) ↦ more_directory_stays old.archive new.archive is.0 p is.2
          (h.directories p earlier)
      | inr (_, inr is) ↦ ap (λ t. get t p) is.1 ∙ h.directories p earlier
    ]

    directory_now : (p : Path) → MarkDir p ≡ x → get new.archive p ≡ Some Directory
    directory_now p same = elim c.archive as (λ _. get new.archive p ≡ Some Directory) [
      | inl is ↦ absurd (true≢false (sym is.0 ∙ ap is_recorded (sym same)))
      | inr (_, inl is) ↦ ap (get new.archive) (ap path_of (same ∙ is.1)) ∙ is.3
      | inr (_, inr is) ↦ absurd (true≢false (ap is_mark_dir same ∙ is.0))
    ]

    directories_then : (p : Path) → Contains (first ++ x ∷ []) (MarkDir p) →
        get new.archive p ≡ Some Directory
    directories_then p at =
        elim (Contains-append_cases first (x ∷ []) (MarkDir p) at)
        as (λ _. get new.archive p ≡ Some Directory) [
          | inl earlier ↦ directory_before p earlier
          | inr last ↦ directory_now p (sym (contains_one x (MarkDir p) last))
        ]

    pub carries_one : HasCarriedOut (first ++ x ∷ []) new
    carries_one =
        record {
          sides = sides_then;
          archive = archive_then;
          done = done_then;
          recorded = recorded_then;
          directories = directories_then;
        }

  -- where all is carried out nothing else can have come of it
  pub carried_same : (s t : Trees) → HasCarriedOut items s → HasCarriedOut items t → s ≡ t
  carried_same s t h k = trees_same (same_side Left) (same_side Right)
      (covered_same_too items alone is_recorded recorded_file (recorded_of found) o s.archive
      t.archive h.archive k.archive h.recorded k.recorded h.directories k.directories)
    where
      same_side : (side : Which) → tree_on s side ≡ tree_on t side
      same_side side =
          covered_same items alone (is_to side) (to_file side) (λ _. found (other side))
          (found side) (tree_on s side) (tree_on t side) (h.sides side) (k.sides side)
          (h.done side) (k.done side)

      trees_same : s.left ≡ t.left → s.right ≡ t.right → s.archive ≡ t.archive → s ≡ t
      trees_same l r a =
          ap₂ (λ x y. record { left = x; right = y; archive = s.archive }) l r
          ∙ ap (λ x. record { left = t.left; right = t.right; archive = x }) a

-- The items in the plan's order
module _ (preference : Option Which) (found : Which → Tree) (o : Tree) (parents : HasParents o)
  where
    abbrev pub items_of : List Item
    items_of = plan preference (scan_of (found Left)) (scan_of (found Right)) o

    abbrev pub found_trees : Trees
    found_trees = record { left = found Left; right = found Right; archive = o }

    pub alone_of : StandAlone items_of
    alone_of = plan_stands_alone preference (scan_of (found Left)) (scan_of (found Right)) o

    abbrev HasCarried : List Item → Trees → Type 0
    HasCarried first s = HasCarriedOut found o items_of alone_of first s

    -- what an item takes from a side is what was found there
    source_stays : (side : Which) (t : Tree) (x : Item) →
        CoversSide found o items_of alone_of side t → Contains items_of x → is_to side x ≡ false →
        is_mark_dir x ≡ false → subtree t (path_of x) ≡ subtree (found side) (path_of x)
    source_stays side t x covered in_x off file =
        same_tree (subtree t (path_of x)) (subtree (found side) (path_of x)) (λ rest.
        get-subtree t (path_of x) rest ∙ (elim (covered (path_of x ++ rest))
        as (λ _. get t (path_of x ++ rest) ≡ get (found side) (path_of x ++ rest)) [
          | inl was ↦ absurd (true≢false (sym was.3 ∙ (ap (is_to side) (one_above items_of alone_of
              was.0 x was.1 rest was.2 in_x (to_file side was.0 was.3) file (sym was.4)) ∙ off)))
          | inr same ↦ same
        ] ∙ sym (get-subtree (found side) (path_of x) rest)))

    recorded_each : (items : List Item) (s : Trees) →
        IsRecordedForEach items s.archive (carried_out s items).archive
    recorded_each [] s = refl
    recorded_each (ToLeft p ∷ items) s =
        (_, inr (mark (subtree s.right p), refl), recorded_each items (after_item s (ToLeft p)))
    recorded_each (ToRight p ∷ items) s =
        (_, inr (mark (subtree s.left p), refl), recorded_each items (after_item s (ToRight p)))
    recorded_each (MarkSame p ∷ items) s =
        (_, inr (mark (subtree s.left p), refl), recorded_each items (after_item s (MarkSame p)))
    recorded_each (MarkDir p ∷ items) s =
        (_, inr refl, recorded_each items (after_item s (MarkDir p)))
    recorded_each (Conflict p ∷ items) s = (_, refl, recorded_each items s)

    module _ (first after : List Item) (x : Item) (split : items_of ≡ first ++ x ∷ after)
        (h : HasCarried first (carried_out found_trees first)) where
      in_items : Contains items_of x
      in_items =
          subst (λ w. Contains w x) (sym split)
          (Contains-append_right first (x ∷ after) x (0, omega arith, refl))

      abbrev now : Trees
      now = carried_out found_trees first

      -- a directory that is marked was none when its turn comes, and had nothing below it
      marks_directory : (p : Path) → x ≡ MarkDir p → HasMore p now.archive
          (with_directory now.archive p) × (get (with_directory now.archive p) p ≡ Some Directory)
      marks_directory p same = directory_more now.archive p (λ n r none.
          let at : subtree now.archive p ≡ subtree o p =
          item_finds_archive preference (scan_of (found Left)) (scan_of (found Right)) o first after
          (MarkDir p) now.archive parents (split ∙ ap (λ y. first ++ y ∷ after) same)
          (recorded_each first found_trees) in
          sym (get-subtree now.archive p (n ∷ r)) ∙ (ap (λ t. get t (n ∷ r)) at ∙
          (get-subtree o p (n
          ∷ r) ∙ nothing_below o p n r parents (sym (moved-directory now.archive o p at) ∙ none))))

      recorded_is : (t : Tree) (p : Path) (u v : Tree) → subtree u p ≡ subtree v p →
          replace t p (mark (subtree u p)) ≡ put t p (mark v)
      recorded_is t p u v e = ap (replace t p) (ap mark e ∙ mark-subtree v p)

      stays_on : (s : Trees) → s.left ≡ now.left → s.right ≡ now.right → (y : Item) →
          is_to Left y ≡ false → is_to Right y ≡ false → (side : Which) → ((is_to side y ≡ true)
          × (tree_on s side ≡ put (tree_on now side) (path_of y) (found (other side))))
          ⊎ ((is_to side y ≡ false) × (tree_on s side ≡ tree_on now side))
      stays_on s l r y off_left off_right Left = inr (off_left, l)
      stays_on s l r y off_left off_right Right = inr (off_right, r)

      changes_by : (y : Item) → x ≡ y → Changes found now (after_item now y) y
      changes_by (ToLeft p) same =
          let at = source_stays Right now.right (ToLeft p) (h.sides Right)
          (subst (Contains items_of) same in_items) refl refl in
          record {
            sides =
                λ side. elim side as (λ side. ((is_to side (ToLeft p) ≡ true) × (tree_on
                (after_item now (ToLeft p)) side ≡ put (tree_on now side) p (found (other side))))
                ⊎ ((is_to side (ToLeft p) ≡ false)
                × (tree_on (after_item now (ToLeft p)) side ≡ tree_on now side))) [
                  | Left ↦ inl (refl, ap (replace now.left p) at)
                  | Right ↦ inr (refl, refl)
                ];
            archive = inl (refl, recorded_is now.archive p now.right (found Right) at);
          }
      changes_by (ToRight p) same =
          let at = source_stays Left now.left (ToRight p) (h.sides Left)
          (subst (Contains items_of) same in_items) refl refl in
          record {
            sides =
                λ side. elim side as (λ side. ((is_to side (ToRight p) ≡ true) × (tree_on
                (after_item now (ToRight p)) side ≡ put (tree_on now side) p (found (other side))))
                ⊎ ((is_to side (ToRight p) ≡ false)
                × (tree_on (after_item now (ToRight p)) side ≡ tree_on now side))) [
                  | Left ↦ inr (refl, refl)
                  | Right ↦ inl (refl, ap (replace now.right p) at)
                ];
            archive = inl (refl, recorded_is now.archive p now.left (found Left) at);
          }
      changes_by (MarkSame p) same = record {
        sides = stays_on (after_item now (MarkSame p)) refl refl (MarkSame p) refl refl;
        archive =
            inl (
              refl,
              recorded_is now.archive p now.left (found Left) (source_stays Left now.left
                  (MarkSame p) (h.sides Left) (subst (Contains items_of) same in_items) refl refl),
            );
      }
      changes_by (MarkDir p) same = record {
        sides = stays_on (after_item now (MarkDir p)) refl refl (MarkDir p) refl refl;
        archive = let more = marks_directory p same in inr (refl, inl (p, refl, more.0, more.1));
      }
      changes_by (Conflict p) same = record {
        sides = stays_on (after_item now (Conflict p)) refl refl (Conflict p) refl refl;
        archive = inr (refl, inr (refl, refl));
      }

      one_more : HasCarried (first ++ x ∷ []) (carried_out found_trees (first ++ x ∷ []))
      one_more =
          subst (HasCarried (first ++ x ∷ []))
          (sym (fold-append after_item found_trees first (x ∷ [])))
          (carries_one found o items_of alone_of first now (after_item now x) x (λ y c. subst
          (λ w. Contains w y) (sym split) (Contains-append_left first (x ∷ after) y c)) in_items h
          (changes_by x refl))

    carried_from : (after first : List Item) → items_of ≡ first ++ after →
        HasCarried first (carried_out found_trees first) →
        HasCarried items_of (carried_out found_trees items_of)
    carried_from [] first split h =
        let e = split ∙ append-nil first in
        subst (λ w. HasCarried w (carried_out found_trees w)) (sym e) h
    carried_from (x ∷ after) first split h =
        carried_from after (first ++ x ∷ []) (split ∙ sym (append_assoc first (x ∷ []) after))
        (one_more first after x split h)

    none_first : {x : Item} → Contains [] x → ⊥
    none_first c = omega (arith, c.1)

    -- a plan that is carried out
    pub plan_is_carried :
        HasCarriedOut found o items_of alone_of items_of (carried_out found_trees items_of)
    plan_is_carried = carried_from items_of [] refl (record {
      sides =
          λ side q. inr (elim side as (λ side. get (tree_on found_trees side) q ≡ get (found side)
          q)
          [ Left ↦ refl | Right ↦ refl ]);
      archive = λ q. inr (inr refl);
      done = λ side x c. absurd (none_first c);
      recorded = λ x c. absurd (none_first c);
      directories = λ p c. absurd (none_first c);
    })
