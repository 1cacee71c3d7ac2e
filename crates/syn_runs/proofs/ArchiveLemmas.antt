-- Each entry of the archive was held by both sides, whatever an opening then gives.
use Rattle.std.proofs.Common.{◌≡◌, ◌≢◌, ◌≤◌, arith, ◌++◌, [], ◌∷◌, sym, ◌∙◌, subst, Option, Some}
use Rattle.std.proofs.Common.{None, append-nil, inl, inr}
use Rattle.std.specs.Prelude.{IfSome}
use Rattle.syn_model.specs.Tree.{IsTree}
use Rattle.syn_model.specs.Event.{Event, Edited, Began, Replaced}
use Rattle.syn_model.specs.History.{History, IsHistory, last_session}
use Rattle.syn_model.specs.Archive.{Archive, Kept, CanKeep, Held}
use Rattle.syn_machine.specs.Network.{Which, Left, Right}
use Rattle.syn_runs.specs.Acknowledged.{Grown, ArchiveGrown, stores_after}
use Rattle.syn_runs.specs.Headline.{EachEntryWasHeld, LeavesPair}
use Rattle.syn_runs.specs.Picture.{stores_of, side_of}
use Rattle.syn_runs.proofs.PictureRuns.{OfEachRun}
use Rattle.syn_runs.proofs.Invariant.{Plans, Histories, IsSoundEvent, histories_of, IsHeld}
use Rattle.syn_runs.proofs.Invariant.{IsHeldRecord, IsHarmless}
use Rattle.syn_runs.proofs.GrownLemmas.{Extends, fold_one, held-grow}
use Rattle.syn_runs.proofs.SoundLemmas.{kept_held, kept_is_tree, kept_session}
use Rattle.syn_runs.proofs.WholeRuns.{no_plans, start_kept, start_stands, run_kept}
use Rattle.syn_machine.specs.Machine.{Up}
use Rattle.syn_runs.proofs.SideSteps.{if_some}
use Rattle.syn_model.proofs.HistoryLemmas.{allowed_goes_on}
use Rattle.syn_runs.proofs.WorldLemmas.{run_stands}

grown_extends : (writing : Option Event) (old new : History) → Grown writing old new →
    Extends old new
grown_extends None old new e = ([], e ∙ sym (append-nil old))
grown_extends (Some event) old new (inl e) = ([], e ∙ sym (append-nil old))
grown_extends (Some event) old new (inr more) = (event ∷ [], more.1)

archive_held : (histories : Histories) (writing : Option Kept) (old new : Archive) →
    IfSome writing (IsHeldRecord histories) → IsHeld histories old.marks →
    ArchiveGrown writing old new → IsHeld histories new.marks
archive_held histories None old new w h e = subst (λ a. IsHeld histories a.marks) (sym e) h
archive_held histories (Some kept) old new w h (inl e) =
    subst (λ a. IsHeld histories a.marks) (sym e) h
archive_held histories (Some kept) old new w h (inr more) =
    subst (λ a. IsHeld histories a.marks) (sym more.1) (kept_held histories old kept h w)

pub runs_hold_archive : OfEachRun EachEntryWasHeld
runs_hold_archive old new steps refusals start runs left right archive grown_left grown_right
    grown_archive path
    content e =
    let now = stores_after (stores_of old) new.acknowledged in
    let after = run_kept no_plans old new (start_kept old start) runs in
    let kept = after.1 in
    let stands = run_stands (stores_of old) old new runs (start_stands old start.nothing_yet.1) in
    let pending = if_some new.coordinator.writing
    (λ record_of. (new.coordinator.status ≢ Up) × (new.coordinator.running ≡ None)
    × CanKeep new.coordinator.archive record_of × IsHarmless after.0 (histories_of new) record_of)
    (IsHeldRecord (histories_of new)) kept.coordinator.writing (λ record_of _ h. h.3.held) in
    let held = archive_held (histories_of new) new.coordinator.writing new.coordinator.archive
    archive pending kept.sound.held (subst (λ a. ArchiveGrown new.coordinator.writing a archive)
    (sym stands.archive) grown_archive) path content e in (
      held-grow now.left left (grown_extends new.left.writing now.left left grown_left) path content
          (subst (λ h. Held h path content) stands.left (held Left)),
      held-grow now.right right (grown_extends new.right.writing now.right right grown_right) path
          content (subst (λ h. Held h path content) stands.right (held Right)),
    )

grown_lawful : (writing : Option Event) (old new : History) → IsHistory old →
    Grown writing old new → IsHistory new
grown_lawful None old new h e = subst IsHistory (sym e) h
grown_lawful (Some event) old new h (inl e) = subst IsHistory (sym e) h
grown_lawful (Some event) old new h (inr more) =
    subst IsHistory (sym more.1) (allowed_goes_on old event h more.0)

archive_is_tree : (writing : Option Kept) (old new : Archive) → IsTree old.marks →
    ArchiveGrown writing old new → IsTree new.marks
archive_is_tree None old new h e = subst (λ a. IsTree a.marks) (sym e) h
archive_is_tree (Some kept) old new h (inl e) = subst (λ a. IsTree a.marks) (sym e) h
archive_is_tree (Some kept) old new h (inr more) =
    subst (λ a. IsTree a.marks) (sym more.1) (kept_is_tree old kept h more.0)

archive_later : (writing : Option Kept) (old new : Archive) → ArchiveGrown writing old new →
    old.last_session ≤ new.last_session
archive_later None old new e = subst (λ a. old.last_session ≤ a.last_session) (sym e) (omega arith)
archive_later (Some kept) old new (inl e) =
    subst (λ a. old.last_session ≤ a.last_session) (sym e) (omega arith)
archive_later (Some kept) old new (inr more) =
    subst (λ a. old.last_session ≤ a.last_session) (sym more.1) (kept_session old kept more.0)

event_begun : (plans : Plans) (histories : Histories) (archive : Archive) (side : Which)
    (history : History) (event : Event) → IsSoundEvent plans histories archive side event →
    last_session history ≤ archive.last_session →
    last_session (history ++ event ∷ []) ≤ archive.last_session
event_begun plans histories archive side history (Edited user edit) s h =
    subst (λ n. n ≤ archive.last_session) (sym (fold_one 0 history (Edited user edit))) h
event_begun plans histories archive side history (Began session) s h =
    subst (λ n. n ≤ archive.last_session) (sym (fold_one 0 history (Began session))) s
event_begun plans histories archive side history (Replaced token path since u) s h =
    subst (λ n. n ≤ archive.last_session) (sym (fold_one 0 history (Replaced token path since u))) h

grown_begun : (plans : Plans) (histories : Histories) (archive : Archive) (side : Which)
    (writing : Option Event) (old new : History) →
    IfSome writing (λ event. IsSoundEvent plans histories archive side event) →
    last_session old ≤ archive.last_session → Grown writing old new →
    last_session new ≤ archive.last_session
grown_begun plans histories archive side None old new s h e =
    subst (λ w. last_session w ≤ archive.last_session) (sym e) h
grown_begun plans histories archive side (Some event) old new s h (inl e) =
    subst (λ w. last_session w ≤ archive.last_session) (sym e) h
grown_begun plans histories archive side (Some event) old new s h (inr more) =
    subst (λ w. last_session w ≤ archive.last_session) (sym more.1)
    (event_begun plans histories archive side old event s h)

-- what a run leaves is again a pair
pub runs_leave_pair : OfEachRun LeavesPair
runs_leave_pair old new steps refusals start runs left right archive grown_left grown_right
    grown_archive =
    let now = stores_after (stores_of old) new.acknowledged in
    let after = run_kept no_plans old new (start_kept old start) runs in
    let sound = after.1.sound in
    let stands = run_stands (stores_of old) old new runs (start_stands old start.nothing_yet.1) in
    let of_archive : new.coordinator.archive ≡ now.archive = stands.archive in
    let later : now.archive.last_session ≤ archive.last_session =
    archive_later new.coordinator.writing now.archive archive grown_archive in
    let written =
    λ (side : Which) (h : IfSome (side_of new side).writing (λ event. ((side_of new side).status
    ≢ Up) × IsSoundEvent after.0 (histories_of new) new.coordinator.archive side event)).
    if_some (side_of new side).writing _
    (λ event. IsSoundEvent after.0 (histories_of new) now.archive side event) h (λ event _ x.
    subst (λ a. IsSoundEvent after.0 (histories_of new) a side event) of_archive x.1) in
    let begun = λ (side : Which). subst
    (λ a. last_session (histories_of new side) ≤ a.last_session) of_archive (sound.begun side) in
    let left_begun : last_session left ≤ now.archive.last_session =
    grown_begun after.0 (histories_of new) now.archive Left new.left.writing now.left left
    (written Left (after.1.sides Left).writing) (subst
    (λ h. last_session h ≤ now.archive.last_session) stands.left (begun Left)) grown_left in
    let right_begun : last_session right ≤ now.archive.last_session =
    grown_begun after.0 (histories_of new) now.archive Right new.right.writing now.right right
    (written Right (after.1.sides Right).writing) (subst
    (λ h. last_session h ≤ now.archive.last_session) stands.right (begun Right)) grown_right in
    record {
      left =
          grown_lawful new.left.writing now.left left
          (subst IsHistory stands.left (sound.lawful Left)) grown_left;
      right =
          grown_lawful new.right.writing now.right right
          (subst IsHistory stands.right (sound.lawful Right)) grown_right;
      marks =
          archive_is_tree new.coordinator.writing now.archive archive
          (subst (λ a. IsTree a.marks) of_archive sound.marks) grown_archive;
      held =
          runs_hold_archive old new steps refusals start runs left right archive grown_left
          grown_right grown_archive;
      left_begun = omega (arith, left_begun, later);
      right_begun = omega (arith, right_begun, later);
    }
