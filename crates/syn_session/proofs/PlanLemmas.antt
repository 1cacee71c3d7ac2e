-- The plan of a session with what both scans have at each item.
use Rattle.std.proofs.Common.{◌≡◌, ◌≢◌, ◌<◌, ℕ, Bool, true, false, not, ◌||◌, if◌then◌else◌, List}
use Rattle.std.proofs.Common.{Option, Some, None, length, get_or, refl, sym, ap, ◌∙◌, subst, inl}
use Rattle.std.proofs.Common.{inr, arith}
use Rattle.std.specs.List.{slice_get, AllPairs, All}
use Rattle.std.specs.Prelude.{option_map}
use Rattle.std.proofs.lemmas.Bool.{false≢true}
use Rattle.std.proofs.lemmas.List.{get_or-map, length-map}
use Rattle.std.proofs.lemmas.Option.{none-some, same_Some, slice_get-map, slice_get_within}
use Rattle.std.proofs.lemmas.Option.{get_or_from_slice_get}
use Rattle.syn_machine.specs.Planning.{Planned}
use Rattle.syn_model.specs.Decision.{Item, Decision, Clean, Do, DoAndGoOn, GoOn, ToLeft, ToRight}
use Rattle.syn_model.specs.Decision.{MarkSame, MarkDir, Conflict, path_of, decision, contested}
use Rattle.syn_model.specs.Dirty.{Scan, dirty, is_same_tree, is_unstable}
use Rattle.syn_model.specs.Path.{Path}
use Rattle.syn_model.specs.Plan.{IsDecided, PlanIsOrderly, PlanIsDecided}
use Rattle.syn_model.specs.Plan as model
use Rattle.syn_model.specs.Reconcile.{is_directory_in_both}
use Rattle.syn_model.specs.Tree.{Tree, is_directory, subtree}
use Rattle.syn_model.proofs.DirtyLemmas.{same_tree_is}
use Rattle.syn_scan.specs.Found.{Found, scan_of}
use Rattle.syn_session.specs.Plans.{planned_all, planned_by}
use Rattle.syn_session.proofs.TallyLemmas.{NamedOnce}
use Rattle.syn_recon.specs.Items.{item_of, items_of}
use Rattle.syn_recon.specs.declared.item.Item.{Item as ReconItem}
use Rattle.syn_model.specs.Which.{Which, Left, Right}

-- an item of it stands at its place among the items
pub item_at : (left right : Found) (items : List Item) (at : ℕ) (planned : Planned) →
    slice_get (planned_all left right items) at ≡ Some planned →
    (slice_get items at ≡ Some planned.item) × (planned ≡ planned_by left right planned.item)
item_at left right items at planned e = by (slice_get items at) refl
  where
    by : (o : Option Item) → slice_get items at ≡ o →
        (slice_get items at ≡ Some planned.item) × (planned ≡ planned_by left right planned.item)
    by None none =
        absurd (none-some planned (ap (option_map (planned_by left right)) (sym none)
        ∙ (sym (slice_get-map (planned_by left right) items at) ∙ e)))
    by (Some item) some =
        let is : planned_by left right item ≡ planned =
        same_Some _ _ (ap (option_map (planned_by left right)) (sym some)
        ∙ (sym (slice_get-map (planned_by left right) items at) ∙ e)) in
        let same : item ≡ planned.item = ap (λ p. p.item) is in
        (some ∙ ap (λ i. Some i) same, sym is ∙ ap (planned_by left right) same)

-- the item that stands at a place of a plan
pub stands_at : (left right : Found) (items : List ReconItem) (at : ℕ) (planned : Planned) →
    slice_get (planned_all left right (items_of items)) at ≡ Some planned → (item : ReconItem) →
    at < length items → item ≡ get_or items at item → planned.item ≡ item_of item
stands_at left right items at planned there item less is =
    sym (get_or_from_slice_get (items_of items) at planned.item (item_of item)
    (item_at left right (items_of items) at planned there).0)
    ∙ (get_or-map item_of items at item (item_of item) less ∙ ap item_of (sym is))

-- what is decided is to mark both only where they are the same
abbrev chosen : Option Which → Path → Bool → Bool → Bool → Bool → Bool → Bool → Bool → Decision
chosen preference path clean both unstable recorded same right_clean left_clean =
    if clean then Clean
    else if both then (if unstable then Do (Conflict path) else if recorded then GoOn
    else DoAndGoOn (MarkDir path))
    else if same then Do (MarkSame path)
    else if right_clean then Do (ToRight path)
    else if left_clean then Do (ToLeft path)
    else Do (contested preference unstable path)

item_in : Decision → Option Item
item_in Clean = None
item_in (Do item) = Some item
item_in (DoAndGoOn item) = Some item
item_in GoOn = None

marks_same : Option Item → Bool
marks_same None = false
marks_same (Some (ToLeft path)) = false
marks_same (Some (ToRight path)) = false
marks_same (Some (MarkSame path)) = true
marks_same (Some (MarkDir path)) = false
marks_same (Some (Conflict path)) = false

-- what is contested is not only marked
no_mark : (preference : Option Which) (unstable : Bool) (path : Path) →
    marks_same (Some (contested preference unstable path)) ≡ false
unfolding marks_same
no_mark None unstable path = refl
no_mark (Some side) true path = refl
no_mark (Some Left) false path = refl
no_mark (Some Right) false path = refl

chosen_same : (preference : Option Which) (path : Path)
    (clean both unstable recorded same right_clean left_clean : Bool) →
    marks_same (item_in (chosen preference path clean both unstable recorded same right_clean
    left_clean))
    ≡ true → same ≡ true
unfolding marks_same item_in
chosen_same preference path true both unstable recorded same right_clean left_clean e = absurd
    (false≢true e)
chosen_same preference path false true true recorded same right_clean left_clean e = absurd
    (false≢true e)
chosen_same preference path false true false true same right_clean left_clean e = absurd
    (false≢true e)
chosen_same preference path false true false false same right_clean left_clean e = absurd
    (false≢true e)
chosen_same preference path false false unstable recorded true right_clean left_clean e = refl
chosen_same preference path false false unstable recorded false true left_clean e = absurd
    (false≢true e)
chosen_same preference path false false unstable recorded false false true e = absurd (false≢true e)
chosen_same preference path false false unstable recorded false false false e =
    absurd (false≢true (sym (no_mark preference unstable path) ∙ e))

decided_same : (preference : Option Which) (left right : Scan) (archive : Tree) (path : Path) →
    marks_same (item_in (decision preference left right archive path)) ≡ true →
    is_same_tree (subtree left.marks path) (subtree right.marks path) ≡ true
decided_same preference left right archive path e =
    chosen_same preference path (not (dirty left archive path || dirty right archive path))
    (is_directory_in_both left.marks right.marks path)
    (is_unstable left path || is_unstable right path) (is_directory archive path)
    (is_same_tree (subtree left.marks path) (subtree right.marks path))
    (not (dirty right archive path)) (not (dirty left archive path)) e

is_same_item : (decide : Path → Decision) (path : Path) → IsDecided decide (MarkSame path) →
    marks_same (item_in (decide path)) ≡ true
unfolding marks_same item_in
is_same_item decide path is = elim is.decided as (λ _. marks_same (item_in (decide path)) ≡ true) [
  | inl e ↦ ap (λ d. marks_same (item_in d)) e
  | inr e ↦ ap (λ d. marks_same (item_in d)) e
]

module _ (preference : Option Which) (left right : Found) (archive : Tree) (items : List Item)
    (is_plan : items ≡ model.plan preference (scan_of left) (scan_of right) archive) where
  -- no two of its items have one path
  pub named_once : PlanIsOrderly → NamedOnce (planned_all left right items)
  named_once orderly i j d less within =
      let count : j < length items =
      subst (λ n. j < n) (length-map items (planned_by left right)) within in
      let once = subst (λ l. AllPairs (λ earlier later. path_of earlier ≢ path_of later) l)
      (sym is_plan) (orderly preference (scan_of left) (scan_of right) archive).named_once in
      λ e. once i j d.item less count
      (sym (ap (λ p. path_of p.item)
      (get_or-map (planned_by left right) items i d.item d (omega (arith, less, count))))
      ∙ (e ∙ ap (λ p. path_of p.item) (get_or-map (planned_by left right) items j d.item d count)))

  -- an item that only marks has the same marks on both sides
  pub same_marks : PlanIsDecided → (at : ℕ) (planned : Planned) (path : Path) →
      slice_get (planned_all left right items) at ≡ Some planned → planned.item ≡ MarkSame path →
      planned.left.marks ≡ planned.right.marks
  same_marks decided at planned path there is =
      let here = item_at left right items at planned there in
      let each = subst (λ l. All (IsDecided (decision preference (scan_of left) (scan_of right)
      archive)) l)
      (sym is_plan) (decided preference (scan_of left) (scan_of right) archive) in
      let one = subst (λ item. IsDecided (decision preference (scan_of left) (scan_of right)
      archive) item)
      (get_or_from_slice_get items at planned.item (MarkSame path) here.0 ∙ is)
      (each at (MarkSame path) (slice_get_within items at planned.item here.0)) in
      let same = same_tree_is _ _ (decided_same preference (scan_of left) (scan_of right) archive
      path
      (is_same_item (decision preference (scan_of left) (scan_of right) archive) path one)) in
      let at_path = here.1 ∙ ap (planned_by left right) is in
      ap (λ p. p.left.marks) at_path ∙ (same ∙ sym (ap (λ p. p.right.marks) at_path))
