-- Which items a plan has.
use Rattle.std.proofs.Common.{◌≡◌, ◌⊎◌, ℕ, zero, suc, Bool, true, false, ◌&&◌, ◌||◌, List, [], ◌∷◌}
use Rattle.std.proofs.Common.{◌++◌, flat_map, Contains, refl, sym, ap, ap₂, ◌∙◌, subst, inl, inr}
use Rattle.std.proofs.Common.{true≢false, append_assoc, append-nil, Option, Some, None}
use native.Mathlib.Omega.{arith}
use Rattle.std.specs.Ordering.{eq_by_cmp}
use Rattle.std.specs.List.{list_any}
use Rattle.std.proofs.lemmas.List.Elements.{Contains-append_left, Contains-append_right}
use Rattle.std.proofs.lemmas.List.Elements.{All-contains}
use Rattle.syn_model.specs.Path.{Path, Name, name_cmp, root, child, is_prefix}
use Rattle.syn_model.specs.Tree.{Tree, HasParents, is_directory}
use Rattle.syn_model.specs.Mark.{mark}
use Rattle.syn_model.specs.Reconcile.{is_directory_in_both, is_relevant, is_alike}
use Rattle.syn_model.specs.Decision.{Item, ToLeft, ToRight, MarkSame, MarkDir, Conflict, Decision}
use Rattle.syn_model.specs.Decision.{Clean, Do, DoAndGoOn, GoOn, decision, path_of, GoesOn}
use Rattle.syn_model.specs.Decision.{IsReached, contested}
use Rattle.syn_model.specs.Plan.{plan, most_names, items_from, names_below, with_items_below}
use Rattle.syn_model.specs.Plan.{scan_of, IsDecided, IsConflict, PlanHasDecided}
use Rattle.syn_model.specs.Plan.{ConflictsArePlanned}
use Rattle.syn_model.proofs.PathLemmas.{same_name, prefix-append}
use Rattle.syn_model.proofs.DirtyLemmas.{dirty-closed}
use Rattle.syn_model.proofs.SyncLemmas.{child_relevant}
use Rattle.syn_model.proofs.PlanOrder.{below, plan_is_decided}
use Rattle.syn_model.proofs.QuietLemmas.{directory_of_mark}
use Rattle.syn_model.proofs.DirectoryLemmas.{not_there, absent_below, mark_none}
use Rattle.syn_model.proofs.DecisionLemmas.{left_dirty, right_dirty, by_decision, decided_by}
use Rattle.syn_model.proofs.DecisionLemmas.{clean_below, clean_nothing, nothing_relevant, IsShallow}
use Rattle.syn_model.proofs.DecisionLemmas.{shallow_below}
use Rattle.syn_model.specs.Which.{Which, Left, Right}

is_clean : Decision → Bool
is_clean Clean = true
is_clean (Do item) = false
is_clean (DoAndGoOn item) = false
is_clean GoOn = false

first_item : (d : Decision) (item : Item) (rest : List Item) →
    (d ≡ Do item) ⊎ (d ≡ DoAndGoOn item) → Contains (with_items_below d rest) item
first_item d item rest (inl e) =
    subst (λ d. Contains (with_items_below d rest) item) (sym e) (0, omega arith, refl)
first_item d item rest (inr e) =
    subst (λ d. Contains (with_items_below d rest) item) (sym e) (0, omega arith, refl)

later_item : (d : Decision) (item : Item) (rest : List Item) → GoesOn d → Contains rest item →
    Contains (with_items_below d rest) item
later_item Clean item rest on at = absurd on
later_item (Do other) item rest on at = absurd on
later_item (DoAndGoOn other) item rest on at =
    let enough = at.1 in
    (suc at.0, omega arith, at.2)
later_item GoOn item rest on at = at

-- what is clean has no item
pub not_clean : (d : Decision) (item : Item) → d ≡ Clean → (d ≡ Do item) ⊎ (d ≡ DoAndGoOn item) → ⊥
unfolding is_clean
not_clean d item clean (inl e) = true≢false (ap is_clean (sym clean ∙ e))
not_clean d item clean (inr e) = true≢false (ap is_clean (sym clean ∙ e))

in_flat_map : (f : Name → List Item) (names : List Name) (n : Name) (item : Item) →
    list_any (eq_by_cmp name_cmp n) names ≡ true → Contains (f n) item →
    Contains (flat_map f names) item
in_flat_map f [] n item h at = absurd (true≢false (sym h))
in_flat_map f (m ∷ names) n item h at =
    elim (eq_by_cmp name_cmp n m) as (λ e. eq_by_cmp name_cmp n m ≡ e →
    (e || list_any (eq_by_cmp name_cmp n) names) ≡ true → Contains (f m ++ flat_map f names) item) [
      | true ↦ λ e _. Contains-append_left (f m) (flat_map f names) item
          (subst (λ k. Contains (f k) item) (same_name n m e) at)
      | false ↦ λ _ among. Contains-append_right (f m) (flat_map f names) item
          (in_flat_map f names n item among at)
    ] refl h

last_name : (p : Path) → (p ≡ root) ⊎ ((above : Path) × (n : Name) × (p ≡ above ++ n ∷ []))
last_name [] = inl refl
last_name (x ∷ p) =
    elim (last_name p)
    as (λ _. (x ∷ p ≡ root) ⊎ ((above : Path) × (n : Name) × (x ∷ p ≡ above ++ n ∷ []))) [
      | inl e ↦ inr ([], x, ap (λ w. x ∷ w) e)
      | inr h ↦ inr (x ∷ h.0, h.1, ap (λ w. x ∷ w) h.2)
    ]

is_conflict_item : Item → Bool
is_conflict_item (ToLeft p) = false
is_conflict_item (ToRight p) = false
is_conflict_item (MarkSame p) = false
is_conflict_item (MarkDir p) = false
is_conflict_item (Conflict p) = true

is_conflict : Decision → Bool
is_conflict Clean = false
is_conflict (Do item) = is_conflict_item item
is_conflict (DoAndGoOn item) = is_conflict_item item
is_conflict GoOn = false

-- without a preference alone something contested is a conflict
none_contested : (preference : Option Which) (p : Path) →
    is_conflict (Do (contested preference false p)) ≡ true → preference ≡ None
unfolding is_conflict is_conflict_item
none_contested None p e = refl
none_contested (Some Left) p e = absurd (true≢false (sym e))
none_contested (Some Right) p e = absurd (true≢false (sym e))

module _ (preference : Option Which) (a b o : Tree) (left_parents : HasParents a)
    (right_parents : HasParents b)
    (archive_parents : HasParents o) where
  abbrev decided_at : Path → Decision
  decided_at p = decision preference (scan_of a) (scan_of b) o p

  abbrev names_at : Path → List Name
  names_at p = names_below (scan_of a) (scan_of b) o p

  decision_is_clean : (p : Path) → left_dirty a b o p ≡ false → right_dirty a b o p ≡ false →
      decided_at p ≡ Clean
  decision_is_clean p x y =
      ap₂ (λ x y. decided_by preference p x y (is_directory_in_both (mark a) (mark b) p)
      (is_directory o p)
      (is_alike a b p)) x y

  items_have : (levels : ℕ) (p q : Path) (item : Item) → IsShallow levels p a →
      IsShallow levels p b → IsShallow levels p o → ((above : Path) (n : Name) (rest : Path) →
      q ≡ above ++ n ∷ rest → GoesOn (decided_at (p ++ above))) →
      (decided_at (p ++ q) ≡ Do item) ⊎ (decided_at (p ++ q) ≡ DoAndGoOn item) →
      Contains (items_from decided_at names_at levels p) item
  items_have zero p q item shallow_left shallow_right shallow_archive reached decided =
      let on_left = clean_nothing o a p (λ r. shallow_left r (omega arith))
      (λ r. shallow_archive r (omega arith)) in
      let on_right = clean_nothing o b p (λ r. shallow_right r (omega arith))
      (λ r. shallow_archive r (omega arith)) in
      absurd (not_clean (decided_at (p ++ q)) item (decision_is_clean (p ++ q)
      (clean_below o a p q on_left) (clean_below o b p q on_right)) decided)
  items_have (suc levels) p [] item shallow_left shallow_right shallow_archive reached decided =
      first_item (decided_at p) item (below decided_at names_at levels p (names_at p))
      (subst (λ w. (decided_at w ≡ Do item) ⊎ (decided_at w ≡ DoAndGoOn item))
      (append-nil p) decided)
  items_have (suc levels) p
      (n ∷ q) item shallow_left shallow_right shallow_archive reached decided =
      let names = names_at p in
      let path = append_assoc p (n ∷ []) q in
      let decided' : (decided_at (child p n ++ q) ≡ Do item)
      ⊎ (decided_at (child p n ++ q) ≡ DoAndGoOn item) =
      subst (λ w. (decided_at w ≡ Do item) ⊎ (decided_at w ≡ DoAndGoOn item)) (sym path) decided in
      later_item (decided_at p) item (below decided_at names_at levels p names)
      (subst (λ w. GoesOn (decided_at w)) (append-nil p) (reached [] n q refl))
      (elim (list_any (eq_by_cmp name_cmp n) names) as (λ e. list_any (eq_by_cmp name_cmp n) names
      ≡ e → Contains (below decided_at names_at levels p names) item) [
        | true ↦ λ among. in_flat_map
            (λ name. items_from decided_at names_at levels (child p name)) names n item among
            (items_have levels (child p n) q item (shallow_below levels p n a shallow_left)
            (shallow_below levels p n b shallow_right)
            (shallow_below levels p n o shallow_archive)
            (λ above m rest e. subst (λ w. GoesOn (decided_at w)) (sym
            (append_assoc p (n ∷ []) above)) (reached (n ∷ above) m rest (ap (λ w. n ∷ w) e)))
            decided')
        | false ↦ λ not_among.
            let nowhere = not_there (scan_of a) (scan_of b) o p n not_among in
            let in_archive = absent_below o (child p n) archive_parents nowhere.in_archive in
            let on_left = clean_nothing o a (child p n) (absent_below a (child p n) left_parents
            (mark_none a (child p n) nowhere.on_left)) in_archive in
            let on_right = clean_nothing o b (child p n) (absent_below b (child p n) right_parents
            (mark_none b (child p n) nowhere.on_right)) in_archive in
            absurd (not_clean (decided_at (child p n ++ q)) item
            (decision_is_clean (child p n ++ q) (clean_below o a (child p n) q on_left)
            (clean_below o b (child p n) q on_right)) decided')
      ] refl)

  -- ---- conflicts

  directory_of : (p : Path) → GoesOn (decided_at p) → is_directory_in_both a b p ≡ true
  directory_of p = by_decision a b o preference (λ d. GoesOn d → is_directory_in_both a b p ≡ true)
      p
      (λ _ _ on. absurd on) (λ z _ _. z) (λ z _ _. z) (λ _ _ on. absurd on)
      (λ _ _ _ _ on. absurd on) (λ _ _ _ _ on. absurd on) (λ _ _ _ _ on. absurd on)

  goes_on : (p : Path) → is_directory_in_both a b p ≡ true → left_dirty a b o p ≡ true →
      GoesOn (decided_at p)
  goes_on p z x = by_decision a b o preference GoesOn p
      (λ e _. absurd (true≢false (sym x ∙ e))) (λ _ _. tt) (λ _ _. tt)
      (λ e _. absurd (true≢false (sym z ∙ e)))
      (λ e _ _ _. absurd (true≢false (sym z ∙ e))) (λ e _ _ _. absurd (true≢false (sym z ∙ e)))
      (λ e _ _ _. absurd (true≢false (sym z ∙ e)))

  reached_relevant : (p : Path) → IsReached decided_at p → is_relevant a b p ≡ true
  reached_relevant p reached = elim (last_name p) as (λ _. is_relevant a b p ≡ true) [
    | inl e ↦ ap (is_relevant a b) e
    | inr h ↦ ap (is_relevant a b) h.2
        ∙ child_relevant a b h.0 h.1 (directory_of h.0 (reached h.0 h.1 [] h.2))
  ]

  conflict_of : (p : Path) → is_relevant a b p ≡ true → is_conflict (decided_at p) ≡ true →
      IsConflict preference a b o p
  unfolding is_conflict is_conflict_item
  conflict_of p relevant = by_decision a b o preference (λ d. is_conflict d ≡ true → IsConflict
      preference a b o p) p
      (λ _ _ e. absurd (true≢false (sym e))) (λ _ _ e. absurd (true≢false (sym e)))
      (λ _ _ e. absurd (true≢false (sym e))) (λ _ _ e. absurd (true≢false (sym e)))
      (λ _ _ _ _ e. absurd (true≢false (sym e))) (λ _ _ _ _ e. absurd (true≢false (sym e)))
      (λ z v x y e. record {
        undecided = none_contested preference p e;
        relevant = relevant;
        left_dirty = x;
        right_dirty = y;
        no_directory = z;
        unlike = v;
      })

  planned_conflict : (p : Path) → IsDecided decided_at (Conflict p) → IsConflict preference a b o p
  unfolding is_conflict is_conflict_item
  planned_conflict p h =
      conflict_of p (reached_relevant p h.reached)
      (elim h.decided as (λ _. is_conflict (decided_at p) ≡ true)
      [ inl e ↦ ap is_conflict e | inr e ↦ ap is_conflict e ])

  conflict_decision : (p : Path) → IsConflict preference a b o p → decided_at p ≡ Do (Conflict p)
  conflict_decision p h =
      let unmarked : is_directory_in_both (mark a) (mark b) p ≡ false =
      ap₂ (λ u v. u && v) (directory_of_mark a p) (directory_of_mark b p) ∙ h.no_directory in
      ap₂ (λ x y. decided_by preference p x y (is_directory_in_both (mark a) (mark b) p)
      (is_directory o p)
      (is_alike a b p)) h.left_dirty h.right_dirty
      ∙ (ap₂ (λ z v. decided_by preference p true true z (is_directory o p) v) unmarked h.unlike
      ∙ ap (λ r. Do (contested r false p)) h.undecided)

  conflict_planned : (p : Path) → IsConflict preference a b o p → IsDecided decided_at (Conflict p)
  conflict_planned p h = record {
    reached = λ above n rest e.
        goes_on above
        (elim (is_directory_in_both a b above)
        as (λ z. is_directory_in_both a b above ≡ z → z ≡ true) [
          | true ↦ λ _. refl
          | false ↦ λ z. absurd (nothing_relevant a b left_parents right_parents above n rest z
              (ap (is_relevant a b) (sym e) ∙ h.relevant))
        ] refl)
        (dirty-closed (scan_of a) o above p
        (ap (λ w. is_prefix above w) e ∙ prefix-append above (n ∷ rest)) h.left_dirty);
    decided = inl (conflict_decision p h);
  }

pub plan_has_decided : PlanHasDecided
plan_has_decided preference left right archive on_left on_right in_archive item h =
    items_have preference left right archive on_left.parents on_right.parents in_archive.parents
    (suc most_names) root
    (path_of item) item on_left.depth on_right.depth in_archive.depth h.reached h.decided

pub conflicts_are_planned : ConflictsArePlanned
conflicts_are_planned preference left right archive on_left on_right in_archive path = (
  λ at. planned_conflict preference left right archive on_left.parents on_right.parents
      in_archive.parents path
      (All-contains (IsDecided (decision preference (scan_of left) (scan_of right) archive))
      (plan preference (scan_of left) (scan_of right) archive) (Conflict path)
      (plan_is_decided preference (scan_of left) (scan_of right) archive) at),
  λ h. plan_has_decided preference left right archive on_left on_right in_archive (Conflict path)
      (conflict_planned preference left right archive on_left.parents on_right.parents
      in_archive.parents path
      h),
)
