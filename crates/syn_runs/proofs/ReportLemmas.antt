-- What a complete session leaves and reports, where no user's event came since it began.
use Rattle.std.proofs.Common.{◌≡◌, ℕ, zero, suc, Bool, true, false, ◌&&◌, List, [], ◌∷◌, ◌++◌, map}
use Rattle.std.proofs.Common.{filter_map, length, refl, sym, ap, ◌∙◌, subst, Some, None, true≢false}
use Rattle.std.proofs.Common.{arith, inl, inr}
use Rattle.std.specs.Prelude.{Contains, All, Any, ◌↔◌}
use Rattle.std.specs.List.{cons_option, count_by}
use Rattle.std.proofs.lemmas.List.Elements.{All-contains, All-weaker}
use Rattle.std.proofs.lemmas.Option.{none-some, same_Some}
use Rattle.syn_model.specs.Path.{Path}
use Rattle.syn_model.specs.Tree.{IsTree, subtree}
use Rattle.syn_model.specs.Mark.{mark, AreApart}
use Rattle.syn_model.specs.Reconcile.{is_relevant}
use Rattle.syn_model.specs.Event.{Began}
use Rattle.syn_model.specs.History.{History, IsHistory, tree_of}
use Rattle.syn_model.specs.Archive.{Archive, Kept, Session, archive_of}
use Rattle.syn_model.specs.Decision.{Item, ToLeft, ToRight, MarkSame, MarkDir, Conflict}
use Rattle.syn_model.specs.Plan.{is_mark_dir, HasDepth, most_names, CanBePlanned, Trees}
use Rattle.syn_model.specs.Plan.{carried_out, after_plan, IsSynchronized, IsReconciled, IsConflict}
use Rattle.syn_machine.specs.Network.{Which, Left, Right, Sent}
use Rattle.syn_machine.specs.Planning.{Planned, Log}
use Rattle.syn_machine.specs.Report.{Report, is_kept, is_carrying, is_marking, conflict_at}
use Rattle.syn_runs.specs.Picture.{Counts, IsSettled, AllCanKeep}
use Rattle.syn_runs.specs.Headline.{IsNoEdit, HasCounts}
use Rattle.syn_runs.proofs.Invariant.{Plans, Histories, IsSound}
use Rattle.syn_model.proofs.FitsLemmas.{history_fits, replica_depth}
use Rattle.syn_model.proofs.HistoryLemmas.{history-is_tree}
use Rattle.syn_model.proofs.ResultLemmas.{plan_synchronizes, plan_reconciles}
use Rattle.syn_model.proofs.PlanCover.{conflicts_are_planned}
use Rattle.syn_runs.proofs.StagedLemmas.{all_front}
use Rattle.syn_runs.proofs.WorldLemmas.{archive-append}
use Rattle.syn_runs.proofs.CarriedOut.{is_recorded, plan_is_carried, tree_on}
use Rattle.syn_runs.proofs.CountLemmas.{kept_any, kept_directory, count_all}
use Rattle.syn_runs.proofs.AlikeLemmas.{alike_recorded, alike_stays as alike_on_both}
use Rattle.syn_runs.proofs.CompleteLemmas.{items, items_are, complete_carries_out}
use Rattle.syn_runs.proofs.QuietScans.{ShowsTree}
use Rattle.syn_runs.proofs.UnderwayLemmas.{IsQuietPlan, IsUnderway}
use Rattle.syn_runs.proofs.KeptLemmas.{can-parts, all_kept_tree, all_kept_depth}
use Rattle.syn_model.proofs.BaseLemmas.{from_map}

-- the conflicts of a plan's items
conflict_is : (item : Item) (path : Path) → conflict_at item ≡ Some path → item ≡ Conflict path
conflict_is (Conflict p) path e = ap Conflict (same_Some _ _ e)
conflict_is (ToLeft p) path e = absurd (none-some _ e)
conflict_is (ToRight p) path e = absurd (none-some _ e)
conflict_is (MarkSame p) path e = absurd (none-some _ e)
conflict_is (MarkDir p) path e = absurd (none-some _ e)

later_item : (item : Item) (items : List Item) (x : Item) → Contains items x →
    Contains (item ∷ items) x
later_item item items x c = let within = c.1 in (suc c.0, omega arith, c.2)

first_conflict : (item : Item) (items : List Item) (p path : Path) → conflict_at item ≡ Some p →
    (Contains (filter_map conflict_at items) path → Contains items (Conflict path)) →
    Contains (p ∷ filter_map conflict_at items) path → Contains (item ∷ items) (Conflict path)
first_conflict item items p path is rest (zero, h, e) =
    (0, omega arith, conflict_is item p is ∙ ap Conflict e)
first_conflict item items p path is rest (suc k, h, e) =
    later_item item items (Conflict path) (rest (k, omega (arith, h), e))

conflicts_from : (items : List Item) (path : Path) → Contains (filter_map conflict_at items) path →
    Contains items (Conflict path)
conflicts_from [] path c = absurd (omega (arith, c.1))
conflicts_from (item ∷ items) path c =
    elim (conflict_at item)
    as (λ o. conflict_at item ≡ o → Contains (cons_option o (filter_map conflict_at items)) path →
    Contains (item ∷ items) (Conflict path)) [
      | None ↦ λ _ c. later_item item items (Conflict path) (conflicts_from items path c)
      | Some p ↦ λ is c. first_conflict item items p path is (conflicts_from items path) c
    ] refl c

pub conflicts_to : (items : List Item) (path : Path) → Contains items (Conflict path) →
    Contains (filter_map conflict_at items) path
conflicts_to [] path c = absurd (omega (arith, c.1))
conflicts_to (item ∷ items) path (zero, h, e) =
    subst (λ x. Contains (filter_map conflict_at (x ∷ items)) path) (sym e) (0, omega arith, refl)
conflicts_to (item ∷ items) path (suc k, h, e) =
    let rest = conflicts_to items path (k, omega (arith, h), e) in
    elim (conflict_at item) as (λ o. Contains (cons_option o (filter_map conflict_at items)) path)
    [ None ↦ rest | Some p ↦ (suc rest.0, omega (arith, rest.1), rest.2) ]

pub filter_map-map : (plan : List Planned) → filter_map (λ planned. conflict_at planned.item) plan
    ≡ filter_map conflict_at (map (λ planned. planned.item) plan)
filter_map-map [] = refl
filter_map-map (planned ∷ plan) = ap (cons_option (conflict_at planned.item)) (filter_map-map plan)

-- what is settled and was not refused is recorded
none_refused : (report : Report) (path : Path) → report.refused ≡ [] →
    Any (λ refused. refused.1 ≡ path) report.refused → ⊥
none_refused report path e any =
    let none : length report.refused ≡ 0 = ap length e in
    omega (arith, any.2, none)

settled_kept : (of_kind : Item → Bool) → ((path : Path) → of_kind (Conflict path) ≡ false) →
    (kept : List Kept) (report : Report) (x : Item) → report.refused ≡ [] →
    IsSettled kept report x → of_kind x ≡ true → is_kept kept x ≡ true
settled_kept of_kind unlike kept report (ToLeft path) none (inl is) on = is
settled_kept of_kind unlike kept report (ToLeft path) none (inr refused) on =
    absurd (none_refused report path none refused)
settled_kept of_kind unlike kept report (ToRight path) none (inl is) on = is
settled_kept of_kind unlike kept report (ToRight path) none (inr refused) on =
    absurd (none_refused report path none refused)
settled_kept of_kind unlike kept report (MarkSame path) none (inl is) on = is
settled_kept of_kind unlike kept report (MarkSame path) none (inr refused) on =
    absurd (none_refused report path none refused)
settled_kept of_kind unlike kept report (MarkDir path) none (inl is) on = is
settled_kept of_kind unlike kept report (MarkDir path) none (inr refused) on =
    absurd (none_refused report path none refused)
settled_kept of_kind unlike kept report (Conflict path) none settled on =
    absurd (true≢false (sym on ∙ unlike path))

module _ (log : Log) (before : Archive) (whole : IsTree before.marks)
    (shallow : HasDepth most_names before.marks) (plans : Plans) (histories : Histories)
    (archive : Archive) (sent : Sent) (sound : IsSound plans histories archive sent)
    (kept : List Kept) (can : AllCanKeep before kept) (session : ℕ) (plan : List Planned)
    (h : IsUnderway log before histories sent kept session plan)
    (made : IsQuietPlan log sent histories session (archive_of before h.earlier).marks plan)
    (report : Report) (settled : All (λ planned. IsSettled h.records report planned.item) plan)
    (none : report.refused ≡ [])
    (conflicts : report.conflicts ≡ filter_map (λ planned. conflict_at planned.item) plan)
    (first later : Which → History) (split : (side : Which) → histories side ≡ first side
    ++ Began session ∷ later side) (quiet : (side : Which) → All IsNoEdit (later side)) where
  abbrev pub found : Archive
  found = archive_of before h.earlier

  -- what the session kept, and what was kept before
  parts : AllCanKeep before h.earlier × AllCanKeep found (Session session ∷ h.records)
  parts =
      can-parts before h.earlier (Session session ∷ h.records)
      (subst (AllCanKeep before) h.kept_is can)

  found_tree : IsTree found.marks
  found_tree = all_kept_tree before h.earlier whole parts.0

  abbrev begun : Archive
  begun = record found { last_session = session }

  final_archive : archive_of begun h.records ≡ archive_of before kept
  final_archive =
      sym (ap (archive_of before) h.kept_is
      ∙ archive-append before h.earlier (Session session ∷ h.records))

  shown : (side : Which) → ShowsTree (made.scans.scan side) (made.scans.since side) (first side)
  shown side = made.shows side (first side) (later side) (split side) (quiet side)

  abbrev items_of_plan : List Item
  items_of_plan =
      items first later found.marks found_tree.part.parents sent session made.scans plan made.is
      histories split shown

  plan_is : map (λ planned. planned.item) plan ≡ items_of_plan
  plan_is =
      items_are first later found.marks found_tree.part.parents sent session made.scans plan made.is
      histories split shown

  item_settled : (x : Item) → Contains items_of_plan x → IsSettled h.records report x
  item_settled x c =
      let p = from_map (λ planned. planned.item) plan x
      (subst (λ w. Contains w x) (sym plan_is) c) in
      subst (IsSettled h.records report) p.2
      (All-contains (λ planned. IsSettled h.records report planned.item) plan p.0 settled p.1)

  trees_are : record {
    left = tree_of (histories Left);
    right = tree_of (histories Right);
    archive =
        (archive_of begun h.records).marks;
  } ≡ carried_out (record {
    left = tree_of (first Left);
    right = tree_of (first Right);
    archive = found.marks;
  }) items_of_plan
  trees_are =
      complete_carries_out first later found.marks found_tree.part.parents sent session made.scans
      plan made.is histories split shown
      (λ side. h.events side (first side) (later side) (split side)) quiet h.records h.due begun
      refl found_tree parts.1.1
      (λ x c on. kept_any h.records x on
      (settled_kept is_recorded (λ p. refl) h.records report x none (item_settled x c) on))
      (λ p c. kept_directory h.records p (settled_kept is_mark_dir (λ p. refl) h.records report
      (MarkDir p) none (item_settled (MarkDir p) c) refl))

  first_lawful : (side : Which) → IsHistory (first side)
  first_lawful side =
      all_front [] (first side) (Began session ∷ later side)
      (subst IsHistory (split side) (sound.lawful side))

  plannable : (side : Which) → CanBePlanned (tree_of (first side))
  plannable side =
      record {
        parents = (history-is_tree (first side) (first_lawful side)).part.parents;
        depth =
            replica_depth (tree_of (first side)) (history_fits (first side) (first_lawful side));
      }

  archive_plannable : CanBePlanned found.marks
  archive_plannable =
      record {
        parents = found_tree.part.parents;
        depth = all_kept_depth before h.earlier shallow parts.0;
      }

  abbrev pub found_trees : Trees
  found_trees =
      record { left = tree_of (first Left); right = tree_of (first Right); archive = found.marks }

  left_trees : after_plan made.scans.preference found_trees ≡ record {
    left = tree_of (histories Left);
    right = tree_of (histories Right);
    archive = (archive_of before kept).marks;
  }
  left_trees =
      sym trees_are ∙ ap (λ a. record {
        left = tree_of (histories Left);
        right = tree_of (histories Right);
        archive = a.marks;
      }) final_archive

  -- the trees are a synchronization of what was found
  pub synchronized : AreApart (tree_of (first Left)) (tree_of (first Right)) →
      IsSynchronized made.scans.preference found_trees (record {
        left = tree_of (histories Left);
        right = tree_of (histories Right);
        archive = (archive_of before kept).marks;
      })
  synchronized apart =
      subst (IsSynchronized made.scans.preference found_trees) left_trees
      (plan_synchronizes made.scans.preference found_trees (plannable Left) (plannable Right)
      archive_plannable apart)

  -- and the archive is that of it
  pub reconciled : IsReconciled made.scans.preference found_trees (record {
    left = tree_of (histories Left);
    right = tree_of (histories Right);
    archive = (archive_of before kept).marks;
  })
  reconciled =
      subst (IsReconciled made.scans.preference found_trees) left_trees
      (plan_reconciles made.scans.preference found_trees (plannable Left) (plannable Right)
      archive_plannable)

  conflicts_planned : (path : Path) → Contains items_of_plan (Conflict path)
      ↔ IsConflict made.scans.preference (tree_of (first Left)) (tree_of (first Right)) found.marks
      path
  conflicts_planned path =
      conflicts_are_planned made.scans.preference (tree_of (first Left)) (tree_of (first Right))
      found.marks
      (plannable Left) (plannable Right) archive_plannable path

  conflicts_are : report.conflicts ≡ filter_map conflict_at items_of_plan
  conflicts_are = conflicts ∙ (filter_map-map plan ∙ ap (filter_map conflict_at) plan_is)

  -- and the report has its conflicts
  pub conflicts_reported : (path : Path) → Contains report.conflicts path
      ↔ IsConflict made.scans.preference (tree_of (first Left)) (tree_of (first Right)) found.marks
      path
  conflicts_reported path = (
    λ c. (conflicts_planned path).0
        (conflicts_from items_of_plan path (subst (λ w. Contains w path) conflicts_are c)),
    λ c. subst (λ w. Contains w path) (sym conflicts_are)
        (conflicts_to items_of_plan path ((conflicts_planned path).1 c)),
  )

  counted : (of_kind : Item → Bool) → ((path : Path) → of_kind (Conflict path) ≡ false) →
      count_by (λ planned. of_kind planned.item && is_kept h.records planned.item) plan
      ≡ count_by of_kind items_of_plan
  counted of_kind unlike =
      count_all of_kind (is_kept h.records) plan
      (All-weaker (λ planned. IsSettled h.records report planned.item)
      (λ planned. of_kind planned.item ≡ true → is_kept h.records planned.item ≡ true)
      (λ planned is. settled_kept of_kind unlike h.records report planned.item none is) plan
      settled) ∙ ap (count_by of_kind) plan_is

  -- each item of the plan is counted
  pub counts_reported : Counts plan h.records report →
      HasCounts made.scans.preference (record {
        left = first Left;
        right = first Right;
        archive =
            found;
      }) report
  counts_reported counts = (
    counts.done ∙ counted is_carrying (λ path. refl),
    counts.marked
        ∙ counted is_marking (λ path. refl),
  )

  -- a relevant path where both sides had the same is recorded so
  pub alike_marked : (path : Path) →
      is_relevant (tree_of (first Left)) (tree_of (first Right)) path ≡ true →
      subtree (tree_of (first Left)) path ≡ subtree (tree_of (first Right)) path →
      subtree (archive_of before kept).marks path ≡ mark (subtree (tree_of (first Left)) path)
  alike_marked path relevant same =
      let sides = λ (side : Which). tree_of (first side) in
      let now = carried_out (record {
        left = tree_of (first Left);
        right = tree_of (first Right);
        archive = found.marks;
      }) items_of_plan in
      ap (λ a. subtree a.marks path) (sym final_archive)
      ∙ (ap (λ t. subtree t.archive path) trees_are
      ∙ alike_recorded made.scans.preference sides found.marks plannable archive_plannable now
      (plan_is_carried made.scans.preference sides found.marks archive_plannable.parents) path
      relevant same)

  -- and stays so on both sides
  pub alike_stays : (side : Which) (path : Path) →
      subtree (tree_of (first Left)) path ≡ subtree (tree_of (first Right)) path →
      subtree (tree_of (histories side)) path ≡ subtree (tree_of (first Left)) path
  alike_stays side path same =
      now_is side
      ∙ alike_on_both made.scans.preference (λ (side : Which). tree_of (first side)) found.marks
      plannable archive_plannable (carried_out found_trees items_of_plan)
      (plan_is_carried made.scans.preference (λ (side : Which). tree_of (first side)) found.marks
      archive_plannable.parents) side path same
    where
      now_is : (side : Which) → subtree (tree_of (histories side)) path
          ≡ subtree (tree_on (carried_out found_trees items_of_plan) side) path
      now_is Left = ap (λ t. subtree t.left path) trees_are
      now_is Right = ap (λ t. subtree t.right path) trees_are
