-- What a complete session leaves, where no user's event came since it began: its plan carried out.
use Rattle.std.proofs.Common.{◌≡◌, ◌≤◌, ◌+◌, ℕ, true, false, List, [], ◌∷◌, ◌++◌, map, length, take}
use Rattle.std.proofs.Common.{drop, fold, refl, sym, ap, ap₂, ◌∙◌, subst, Some, true≢false}
use Rattle.std.proofs.Common.{append_assoc, inr, slice_get}
use Rattle.std.specs.Prelude.{Contains, All, Any}
use Rattle.std.specs.FinMap.{get}
use Rattle.std.proofs.lemmas.List.Elements.{All-head, All-tail, All-nil, All-cons, All-contains}
use Rattle.std.proofs.Math.Seq.{take-append_seam, drop-append_seam}
use Rattle.std.proofs.lemmas.List.{length-append}
use Rattle.syn_model.specs.Path.{Path}
use Rattle.syn_model.specs.Tree.{Tree, IsTree, HasParents, subtree, is_directory}
use Rattle.syn_model.specs.Mark.{mark}
use Rattle.syn_model.specs.Event.{Event, Edited, Began, Replaced, after_event}
use Rattle.syn_model.specs.History.{History, tree_of, tree_at, is_quiet}
use Rattle.syn_model.specs.Archive.{Archive, Kept, Recorded, RecordedDir, archive_of}
use Rattle.syn_model.specs.Decision.{Item, ToLeft, ToRight, MarkSame, MarkDir, Conflict, path_of}
use Rattle.syn_model.specs.Plan.{plan as items_by, is_mark_dir, scan_of, Trees, carried_out}
use Rattle.syn_machine.specs.Network.{Which, Left, Right, other, Sent}
use Rattle.syn_machine.specs.Planning.{Planned, seen_on, WritesTo}
use Rattle.syn_runs.proofs.CountLemmas.{IsRecordOf}
use Rattle.syn_runs.specs.Picture.{AllCanKeep}
use Rattle.syn_runs.specs.Headline.{IsNoEdit}
use Rattle.syn_runs.proofs.Invariant.{Scans, IsPlanFrom, Histories}
use Rattle.syn_model.proofs.HistoryLemmas.{tree_of-append}
use Rattle.syn_model.proofs.QuietLemmas.{none_touches, quiet_rest}
use Rattle.syn_runs.proofs.PlanLemmas.{planned_is, found_item, writes_at, writes_path}
use Rattle.syn_runs.proofs.AnyOrder.{StandAlone, one_above}
use Rattle.syn_runs.proofs.CarriedOut.{is_to, is_recorded, recorded_of, to_file, tree_on}
use Rattle.syn_runs.proofs.CarriedOut.{CoversSide, IsDoneOn, HasCarriedOut, carried_same}
use Rattle.syn_runs.proofs.CarriedOut.{items_of, found_trees, alone_of, plan_is_carried}
use Rattle.syn_runs.proofs.QuietScans.{IsPlannedEvent}
use Rattle.syn_runs.proofs.QuietResult.{IsCarry, IsRecord, events_cover, events_do}
use Rattle.syn_runs.proofs.QuietResult.{records_cover, records_do, records_mark}

-- what a session recorded: an item that was carried to a side, what both had alike, or a directory
-- of both
pub data IsRecordDue (plan : List Planned) (histories : Histories) : Kept → Type 0 where
  carried : (side : Which) (item : ℕ) (planned : Planned) (path : Path) →
      slice_get plan item ≡ Some planned → WritesTo planned.item side path →
      (seen_on planned side).since ≤ length (histories side) →
      is_quiet (histories side) (seen_on planned side).since (length (histories side)) path
      ≡ false → IsRecordDue plan histories (Recorded path (seen_on planned (other side)).marks)
  alike : (item : ℕ) (planned : Planned) (path : Path) → slice_get plan item ≡ Some planned →
      planned.item ≡ MarkSame path → IsRecordDue plan histories (Recorded path planned.left.marks)
  marked : (item : ℕ) (planned : Planned) (path : Path) → slice_get plan item ≡ Some planned →
      planned.item ≡ MarkDir path → IsRecordDue plan histories (RecordedDir path)

writes_to : (item : Item) (side : Which) (path : Path) → WritesTo item side path →
    (is_to side item ≡ true) × (is_recorded item ≡ true)
    × ((found : Which → Tree) → recorded_of found item ≡ mark (found (other side)))
writes_to (ToLeft at) Left path w = (refl, refl, λ found. refl)
writes_to (ToRight at) Right path w = (refl, refl, λ found. refl)
writes_to (ToLeft at) Right path w = absurd w
writes_to (ToRight at) Left path w = absurd w
writes_to (MarkSame at) side path w = absurd w
writes_to (MarkDir at) side path w = absurd w
writes_to (Conflict at) side path w = absurd w

to_recorded : (side : Which) (item : Item) → is_to side item ≡ true → is_recorded item ≡ true
to_recorded Left (ToLeft path) e = refl
to_recorded Right (ToRight path) e = refl
to_recorded Left (ToRight path) e = refl
to_recorded Right (ToLeft path) e = refl
to_recorded side (MarkSame path) e = refl
to_recorded Left (MarkDir path) e = absurd (true≢false (sym e))
to_recorded Right (MarkDir path) e = absurd (true≢false (sym e))
to_recorded Left (Conflict path) e = absurd (true≢false (sym e))
to_recorded Right (Conflict path) e = absurd (true≢false (sym e))

to_one : (side s : Which) (item : Item) → is_to side item ≡ true → is_to s item ≡ true → side ≡ s
to_one Left Left item e f = refl
to_one Right Right item e f = refl
to_one Left Right (ToLeft path) e f = absurd (true≢false (sym f))
to_one Left Right (ToRight path) e f = absurd (true≢false (sym e))
to_one Left Right (MarkSame path) e f = absurd (true≢false (sym f))
to_one Left Right (MarkDir path) e f = absurd (true≢false (sym f))
to_one Left Right (Conflict path) e f = absurd (true≢false (sym f))
to_one Right Left (ToLeft path) e f = absurd (true≢false (sym e))
to_one Right Left (ToRight path) e f = absurd (true≢false (sym f))
to_one Right Left (MarkSame path) e f = absurd (true≢false (sym f))
to_one Right Left (MarkDir path) e f = absurd (true≢false (sym f))
to_one Right Left (Conflict path) e f = absurd (true≢false (sym f))

not_same_to : (side : Which) (path : Path) → is_to side (MarkSame path) ≡ true → ⊥
not_same_to Left path e = true≢false (sym e)
not_same_to Right path e = true≢false (sym e)

module _ (first later : Which → History) (o : Tree) (parents : HasParents o) (sent : Sent)
    (session : ℕ) (both : Scans) (plan : List Planned) (is : IsPlanFrom sent session o both plan)
    (histories : Histories)
    (split : (side : Which) → histories side ≡ first side ++ Began session ∷ later side)
    (shown : (side : Which) → (both.scan side ≡ scan_of (tree_of (first side)))
    × ((path : Path) → is_directory (both.scan side).marks path ≡ true →
    both.since side path ≡ length (first side) + 1)) where
  abbrev pub found : Which → Tree
  found side = tree_of (first side)

  abbrev pub items : List Item
  items = items_of both.preference found o parents

  abbrev pub alone : StandAlone items
  alone = alone_of both.preference found o parents

  -- the plan is that of what was found
  pub items_are : map (λ planned. planned.item) plan ≡ items
  items_are = is.items ∙ ap₂ (λ l r. items_by both.preference l r o) (shown Left).0 (shown Right).0

  module _ (item : ℕ) (planned : Planned) (at : slice_get plan item ≡ Some planned) where
    in_items : Contains items planned.item
    in_items = found_item items plan item planned items_are at

    seen_marks : (side : Which) →
        (seen_on planned side).marks ≡ subtree (mark (found side)) (path_of planned.item)
    seen_marks side =
        ((planned_is sent session o both plan is item planned at).seen side).0
        ∙ ap (λ scan. subtree scan.marks (path_of planned.item)) (shown side).0

    seen_since : (side : Which) (path : Path) → WritesTo planned.item side path → (s : Which) →
        (seen_on planned s).since ≡ length (first s) + 1
    seen_since side path w s =
        let writes = writes_at both.preference both.scan both.since o planned side path
        (λ s. (is.scanned s).tree)
        (planned_is sent session o both plan is item planned at) w
        (writes_path planned.item side path w) in
        writes.since_is s ∙ (shown s).1 writes.above (writes.above_is s).0

  tree_then : (side : Which) → tree_at (histories side) (length (first side) + 1) ≡ found side
  tree_then side =
      let one = first side ++ Began session ∷ [] in
      let e : histories side ≡ one ++ later side = split side
      ∙ sym (append_assoc (first side) (Began session ∷ []) (later side)) in
      let long : length (first side) + 1 ≡ length one =
      sym (length-append (first side) (Began session ∷ [])) in
      ap₂ (λ k h. tree_of (take k h)) long e ∙ (ap tree_of (take-append_seam one (later side))
      ∙ tree_of-append (first side) (Began session ∷ []))

  rest_is : (side : Which) → drop (length (first side) + 1) (histories side) ≡ later side
  rest_is side =
      let one = first side ++ Began session ∷ [] in
      let e : histories side ≡ one ++ later side = split side
      ∙ sym (append_assoc (first side) (Began session ∷ []) (later side)) in
      let long : length (first side) + 1 ≡ length one =
      sym (length-append (first side) (Began session ∷ [])) in
      ap₂ drop long e ∙ drop-append_seam one (later side)

  carries : (side : Which) (event : Event) → IsPlannedEvent plan histories side event →
      IsNoEdit event → IsCarry found o items alone side event
  carries side (Edited user edit) planned quiet = quiet
  carries side (Began session) planned quiet = planned
  carries side (Replaced token path since new) p quiet =
      let to = writes_to p.planned.item side path p.writes in (
        p.planned.item,
        in_items token.item p.planned p.at,
        to.0,
        sym (writes_path p.planned.item side path p.writes),
        p.whole ∙ ap (λ t. subtree t (path_of p.planned.item))
            (ap (tree_at (histories (other side))) (seen_since token.item p.planned p.at side path
            p.writes (other side)) ∙ tree_then (other side)),
      )

  all_carry : (side : Which) (events : List Event) →
      All (IsPlannedEvent plan histories side) events → All IsNoEdit events →
      All (IsCarry found o items alone side) events
  all_carry side [] planned quiet = All-nil (IsCarry found o items alone side)
  all_carry side (event ∷ events) planned quiet =
      All-cons (IsCarry found o items alone side) event events
      (carries side event (All-head (IsPlannedEvent plan histories side) event events planned)
      (All-head IsNoEdit event events quiet))
      (all_carry side events (All-tail (IsPlannedEvent plan histories side) event events planned)
      (All-tail IsNoEdit event events quiet))

  record_of : (kept : Kept) → IsRecordDue plan histories kept → IsRecord found o items alone kept
  record_of _ (carried side item planned path at w reached touched) =
      let to = writes_to planned.item side path w in (
        planned.item,
        in_items item planned at,
        to.1,
        sym (writes_path planned.item side path w),
        seen_marks item planned at (other side)
            ∙ ap (λ t. subtree t (path_of planned.item)) (sym (to.2 found)),
      )
  record_of _ (alike item planned path at kind) = (
    planned.item,
    in_items item planned at,
    ap is_recorded kind,
    sym (ap path_of kind),
    seen_marks item planned at Left
        ∙ ap (λ t. subtree t (path_of planned.item)) (sym (ap (recorded_of found) kind)),
  )
  record_of _ (marked item planned path at kind) =
      subst (Contains items) kind (in_items item planned at)

  all_records : (records : List Kept) → All (IsRecordDue plan histories) records →
      All (IsRecord found o items alone) records
  all_records [] due = All-nil (IsRecord found o items alone)
  all_records (kept ∷ records) due = All-cons (IsRecord found o items alone) kept records
      (record_of kept (All-head (IsRecordDue plan histories) kept records due))
      (all_records records (All-tail (IsRecordDue plan histories) kept records due))

  -- a record of an item that is carried to a side comes after its replacement
  carried_touches : (side : Which) (x : Item) → Contains items x →
      is_to side x ≡ true → (kept : Kept) → IsRecordDue plan histories kept →
      IsRecordOf (path_of x) kept → none_touches (later side) (path_of x) ≡ false
  carried_touches side x in_x on _ (carried s item planned path at w reached touched) here =
      let to = writes_to planned.item s path w in
      let same : planned.item ≡ x = one_above items alone planned.item x []
      [] (in_items item planned at) in_x (to_file s planned.item to.0) (to_file side x on)
      (ap (λ p. p ++ []) (writes_path planned.item s path w ∙ here)) in
      let side_is : s ≡ side = to_one s side x (ap (is_to s) (sym same) ∙ to.0) on in
      let since_is : (seen_on planned s).since ≡ length (first s) + 1 =
      seen_since item planned at s path w s in
      let there : none_touches (later s) path ≡ false =
      sym (ap (λ events. none_touches events path)
      (ap (λ k. drop k (histories s)) since_is ∙ rest_is s))
      ∙ (sym (quiet_rest (histories s) (seen_on planned s).since path) ∙ touched) in
      subst (λ p. none_touches (later side) p ≡ false) here
      (subst (λ z. none_touches (later z) path ≡ false) side_is there)
  carried_touches side x in_x on _ (alike item planned path at kind) here =
      let same : planned.item ≡ x =
      one_above items alone planned.item x [] [] (in_items item planned at) in_x
      (ap is_mark_dir kind) (to_file side x on) (ap (λ p. p ++ []) (ap path_of kind ∙ here)) in
      absurd (not_same_to side path (ap (is_to side) (sym kind ∙ same) ∙ on))
  carried_touches side x in_x on _ (marked item planned path at kind) here = absurd here

  -- its replacements, records and items
  module _ (planned : (side : Which) → All (IsPlannedEvent plan histories side) (later side))
      (quiet : (side : Which) → All IsNoEdit (later side)) (records : List Kept)
      (due : All (IsRecordDue plan histories) records) (archive : Archive)
      (start : archive.marks ≡ o) (tree : IsTree archive.marks) (can : AllCanKeep archive records)
      (settled : (x : Item) → Contains items x → is_recorded x ≡ true →
      Any (IsRecordOf (path_of x)) records)
      (directories : (p : Path) → Contains items (MarkDir p) → Contains records (RecordedDir p))
    where
      abbrev left_trees : Trees
      left_trees =
          record {
            left = tree_of (histories Left);
            right = tree_of (histories Right);
            archive = (archive_of archive records).marks;
          }

      carry : (side : Which) → All (IsCarry found o items alone side) (later side)
      carry side = all_carry side (later side) (planned side) (quiet side)

      after : (side : Which) → tree_of (histories side) ≡ fold after_event (found side) (later side)
      after side =
          ap tree_of (split side) ∙ tree_of-append (first side) (Began session ∷ later side)

      touched : (side : Which) (x : Item) → Contains items x → is_to side x ≡ true →
          none_touches (later side) (path_of x) ≡ false
      touched side x in_x on =
          let any = settled x in_x (to_recorded side x on) in
          carried_touches side x in_x on any.1
          (All-contains (IsRecordDue plan histories) records any.1 due (any.0, any.2, any.3)) any.4

      done_on : (side : Which) (x : Item) → Contains items x → is_to side x ≡ true →
          IsDoneOn found o items alone side (tree_of (histories side)) x
      done_on side x in_x on =
          subst (λ t. IsDoneOn found o items alone side t x) (sym (after side))
          (events_do found o items alone side (later side) (found side) (carry side) x in_x on
          (touched side x in_x on))

      cover : (side : Which) → CoversSide found o items alone side (tree_of (histories side))
      cover side =
          subst (CoversSide found o items alone side) (sym (after side)) (events_cover found o items
          alone side (later side) (found side) (carry side) (λ q. inr refl))

      all_done : HasCarriedOut found o items alone items left_trees
      all_done =
          let is_record = all_records records due in
          record {
            sides =
                λ side. elim side
                as (λ side. CoversSide found o items alone side (tree_on left_trees side))
                [ Left ↦ cover Left | Right ↦ cover Right ];
            archive =
                records_cover found o items alone records archive tree can is_record
                (λ q. inr (inr (ap (λ t. get t q) start)));
            done =
                λ side. elim side as (λ side. (x : Item) → Contains items x → is_to side x ≡ true →
                IsDoneOn found o items alone side (tree_on left_trees side) x)
                [ Left ↦ done_on Left | Right ↦ done_on Right ];
            recorded =
                λ x in_x on. records_do found o items alone records archive tree can is_record x
                in_x
                on (settled x in_x on);
            directories =
                λ p marked. records_mark found o items alone records archive tree can is_record p
                marked (directories p marked);
          }

      -- a complete session leaves its plan carried out
      pub complete_carries_out : left_trees ≡ carried_out (found_trees both.preference found o
          parents) items
      complete_carries_out =
          carried_same found o items alone left_trees
          (carried_out (found_trees both.preference found o parents) items) all_done
          (plan_is_carried both.preference found o parents)
