-- What a progress tells after an item.
use Rattle.std.proofs.Common.{◌≡◌, ◌<◌, ◌^◌, ◌+◌, ℕ, suc, true, false, if◌then◌else◌, List, [], ◌∷◌}
use Rattle.std.proofs.Common.{◌++◌, Some, None, length, map, not, Bool, refl, sym, ap, ap₂, ◌∙◌}
use Rattle.std.proofs.Common.{subst, arith, Option}
use Rattle.std.specs.List.{slice_get}
use Rattle.std.proofs.lemmas.List.{length-map, map_push}
use Rattle.std.proofs.lemmas.Option.{none-some, slice_get_within}
use Rattle.syn_machine.specs.Planning.{Planned}
use Rattle.syn_machine.specs.Report.{conflict_at, is_carrying, is_marking, is_record_of}
use Rattle.syn_model.specs.Archive.{Kept}
use Rattle.syn_machine.specs.Session.{record_for}
use Rattle.syn_model.specs.Decision.{Item, ToLeft, ToRight, MarkSame, MarkDir, Conflict, path_of}
use Rattle.syn_model.specs.Path.{Path}
use Rattle.syn_model.specs.Plan.{PlanIsOrderly}
use Rattle.syn_recon.specs.Items.{item_of, items_of}
use Rattle.syn_refusal.specs.Refusals.{cause_of}
use Rattle.syn_refusal.specs.declared.refusal.Refusal.{Refusal}
use Rattle.syn_scan.specs.Found.{Found}
use Rattle.syn_session.specs.declared.plan_progress.PlanProgress.{PlanProgress}
use Rattle.syn_session.specs.Passing.{kept_at, past_at, refused_at}
use Rattle.syn_session.specs.Plans.{AreRecordedBefore, planned_all, planned_by, recorded_count}
use Rattle.syn_session.specs.Stages.{IsPlanProgress, Reached, plan_in}
use Rattle.syn_session.proofs.PlanLemmas.{named_once}
use Rattle.syn_session.proofs.TallyLemmas.{conflicts_to, conflict_past, counted_within, other_past}
use Rattle.syn_session.proofs.TallyLemmas.{record_counts, recorded_more, recorded_past}
use Rattle.syn_model.proofs.PathLemmas.{path_itself}

after_one : (n : ℕ) → suc n ≡ n + 1
after_one n = omega arith

module _ (old new : PlanProgress) (left right : Found) (reached : Reached)
    (is : IsPlanProgress old left right reached) (planned : Planned)
    (at : slice_get (plan_in old left right) old.cursor ≡ Some planned)
    (items : new.items ≡ old.items) (cursor : new.cursor ≡ old.cursor + 1) where
  same_plan : plan_in new left right ≡ plan_in old left right
  same_plan = ap (λ v. planned_all left right (items_of v.items)) items

  next : suc old.cursor ≡ new.cursor
  next = after_one old.cursor ∙ sym cursor

  plan_is : reached.plan ≡ Some (plan_in new left right)
  plan_is = is.plan ∙ ap (λ p. Some p) (sym same_plan)

  short_is : length new.items.items < 2 ^ 32
  short_is = subst (λ v. length v.items < 2 ^ 32) (sym items) is.short

  cursor_is : suc reached.cursor ≡ new.cursor
  cursor_is = ap suc is.cursor ∙ next

  at_new : (kept : List Kept) → AreRecordedBefore (plan_in old left right) (suc old.cursor) kept →
      AreRecordedBefore (plan_in new left right) new.cursor kept
  at_new kept before =
      subst (λ p. AreRecordedBefore p new.cursor kept) (sym same_plan)
      (subst (λ n. AreRecordedBefore (plan_in old left right) n kept) next before)

  count_is : (is_of : Item → Bool) (kept : List Kept) → recorded_count is_of
      (plan_in new left right) kept ≡ recorded_count is_of (plan_in old left right) kept
  count_is is_of kept = ap (λ p. recorded_count is_of p kept) same_plan

  conflicts_are : conflicts_to new.cursor (plan_in new left right)
      ≡ conflicts_to (suc old.cursor) (plan_in old left right)
  conflicts_are = ap₂ conflicts_to (sym next) same_plan

  -- its record is kept
  pub progress_recorded : PlanIsOrderly → (what : Kept) → is_record_of planned.item what ≡ true →
      conflict_at planned.item ≡ None →
      new.done ≡ old.done + (if is_carrying planned.item then 1 else 0) →
      new.marked ≡ old.marked + (if is_marking planned.item then 1 else 0) →
      new.conflicts ≡ old.conflicts → new.refused ≡ old.refused →
      IsPlanProgress new left right (kept_at reached what)
  progress_recorded orderly what of none done marked conflicts refused =
      let once = named_once is.made.0 left right is.made.1 (items_of old.items.items) is.made.2
      orderly in
      record {
        plan = plan_is;
        made = (is.made.0, is.made.1, ap (λ v. items_of v.items) items ∙ is.made.2);
        short = short_is;
        cursor = cursor_is;
        recorded =
            at_new (reached.kept ++ what ∷ []) (recorded_more
            (plan_in old left right) once old.cursor reached.kept is.recorded planned at what of);
        done =
            count_is is_carrying (reached.kept ++ what ∷ [])
            ∙ (record_counts (plan_in old left right) once old.cursor reached.kept is.recorded
            planned at what of is_carrying
            ∙ (ap (λ n. n + (if is_carrying planned.item then 1 else 0)) is.done ∙ sym done));
        marked =
            count_is is_marking (reached.kept ++ what ∷ [])
            ∙ (record_counts (plan_in old left right) once old.cursor reached.kept is.recorded
            planned at what of is_marking
            ∙ (ap (λ n. n + (if is_marking planned.item then 1 else 0)) is.marked ∙ sym marked));
        conflicts =
            conflicts_are ∙ (other_past (plan_in old left right) old.cursor planned at none
            ∙ (is.conflicts ∙ ap (λ v. v.items) (sym conflicts)));
        refused = is.refused ∙ ap (λ v. map (λ one. (cause_of one.0, one.1)) v.items) (sym refused);
      }

  module _ (done : new.done ≡ old.done) (marked : new.marked ≡ old.marked) where
    -- it is refused
    pub progress_refused : (why : Refusal) → conflict_at planned.item ≡ None →
        new.conflicts ≡ old.conflicts →
        new.refused.items ≡ old.refused.items ++ (why, path_of planned.item) ∷ [] →
        IsPlanProgress new left right (refused_at reached (cause_of why) planned)
    progress_refused why none conflicts refused = record {
      plan = plan_is;
      made = (is.made.0, is.made.1, ap (λ v. items_of v.items) items ∙ is.made.2);
      short = short_is;
      cursor = cursor_is;
      recorded =
          at_new reached.kept
          (recorded_past (plan_in old left right) old.cursor reached.kept is.recorded);
      done = count_is is_carrying reached.kept ∙ (is.done ∙ sym done);
      marked = count_is is_marking reached.kept ∙ (is.marked ∙ sym marked);
      conflicts =
          conflicts_are ∙ (other_past (plan_in old left right) old.cursor planned at none
          ∙ (is.conflicts ∙ ap (λ v. v.items) (sym conflicts)));
      refused =
          ap (λ l. l ++ (cause_of why, path_of planned.item) ∷ []) is.refused
          ∙ (sym (map_push (λ one. (cause_of one.0, one.1)) old.refused.items
          (why, path_of planned.item)) ∙ ap (map (λ one. (cause_of one.0, one.1))) (sym refused));
    }

    -- it is a conflict
    pub progress_conflict : (path : Path) → planned.item ≡ Conflict path →
        new.conflicts.items ≡ old.conflicts.items ++ path ∷ [] → new.refused ≡ old.refused →
        IsPlanProgress new left right (past_at reached)
    progress_conflict path conflict conflicts refused = record {
      plan = plan_is;
      made = (is.made.0, is.made.1, ap (λ v. items_of v.items) items ∙ is.made.2);
      short = short_is;
      cursor = cursor_is;
      recorded =
          at_new reached.kept
          (recorded_past (plan_in old left right) old.cursor reached.kept is.recorded);
      done = count_is is_carrying reached.kept ∙ (is.done ∙ sym done);
      marked = count_is is_marking reached.kept ∙ (is.marked ∙ sym marked);
      conflicts =
          conflicts_are ∙ (conflict_past (plan_in old left right) old.cursor planned at path
          conflict ∙ (ap (λ l. l ++ path ∷ []) is.conflicts ∙ sym conflicts));
      refused = is.refused ∙ ap (λ v. map (λ one. (cause_of one.0, one.1)) v.items) (sym refused);
    }

-- ---- which items have a record

-- no conflict has one, and what does not carry only marks
pub no_conflict : (planned : Planned) (item : Item) (what : Kept) →
    record_for planned item ≡ Some what → conflict_at item ≡ None
no_conflict planned (ToLeft path) what e = refl
no_conflict planned (ToRight path) what e = refl
no_conflict planned (MarkSame path) what e = refl
no_conflict planned (MarkDir path) what e = refl
no_conflict planned (Conflict path) what e = absurd (none-some _ e)

pub marks_else : (planned : Planned) (item : Item) (what : Kept) →
    record_for planned item ≡ Some what → is_marking item ≡ not (is_carrying item)
marks_else planned (ToLeft path) what e = refl
marks_else planned (ToRight path) what e = refl
marks_else planned (MarkSame path) what e = refl
marks_else planned (MarkDir path) what e = refl
marks_else planned (Conflict path) what e = absurd (none-some _ e)

-- what is recorded for an item is counted for its item
pub record_is : (planned : Planned) (item : Item) (kept : Kept) →
    record_for planned item ≡ Some kept → is_record_of item kept ≡ true
record_is planned item kept e = by item e
  where
    is_of : Item → Option Kept → Type 0
    is_of item None = Unit {0}
    is_of item (Some kept) = is_record_of item kept ≡ true

    by : (item : Item) → record_for planned item ≡ Some kept → is_record_of item kept ≡ true
    by (ToLeft path) e = subst (is_of (ToLeft path)) e (path_itself path)
    by (ToRight path) e = subst (is_of (ToRight path)) e (path_itself path)
    by (MarkSame path) e = subst (is_of (MarkSame path)) e (path_itself path)
    by (MarkDir path) e = subst (is_of (MarkDir path)) e (path_itself path)
    by (Conflict path) e = subst (is_of (Conflict path)) e tt

-- ---- what fits

module _ (progress : PlanProgress) (left right : Found) (reached : Reached)
    (is : IsPlanProgress progress left right reached) (planned : Planned)
    (at : slice_get (plan_in progress left right) progress.cursor ≡ Some planned) where
  plan_is_short : length (plan_in progress left right) < 2 ^ 32
  plan_is_short =
      omega (
        arith,
        is.short,
        length-map (items_of progress.items.items) (planned_by left right),
        length-map progress.items.items item_of,
      )

  pub cursor_fits : progress.cursor + 1 < 2 ^ 32
  cursor_fits =
      omega (
        arith,
        plan_is_short,
        slice_get_within (plan_in progress left right) progress.cursor planned at,
      )

  -- one more of its kind, where its record is kept
  pub count_fits : PlanIsOrderly → (what : Kept) →
      is_record_of planned.item what ≡ true → (is_of : Item → Bool) (count : ℕ) →
      recorded_count is_of (plan_in progress left right) reached.kept ≡ count →
      is_of planned.item ≡ true → count + 1 < 2 ^ 32
  count_fits orderly what of is_of count counted mine =
      let once = named_once is.made.0 left right is.made.1 (items_of progress.items.items) is.made.2
      orderly in
      let more = record_counts (plan_in progress left right) once progress.cursor reached.kept
      is.recorded planned at what of is_of in
      let one = ap (λ b. recorded_count is_of (plan_in progress left right) reached.kept
      + (if b then 1 else 0)) mine in
      omega (
        arith,
        plan_is_short,
        counted_within is_of (plan_in progress left right)
            (reached.kept ++ what ∷ []),
        more,
        one,
        counted,
      )

-- whether one is counted
pub counts_one : (n : ℕ) (b : Bool) → b ≡ true → n + 1 ≡ n + (if b then 1 else 0)
counts_one n b e = ap (λ b. n + (if b then 1 else 0)) (sym e)

pub counts_none : (n : ℕ) (b : Bool) → b ≡ false → n ≡ n + (if b then 1 else 0)
counts_none n b e = no_more n ∙ ap (λ b. n + (if b then 1 else 0)) (sym e)
  where
    no_more : (n : ℕ) → n ≡ n + 0
    no_more n = omega arith
