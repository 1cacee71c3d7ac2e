-- Each refusal of a session has its cause, and one that ends 8, 9 or 10 has a record that was due.
use Rattle.std.proofs.Common.{◌≡◌, ◌≢◌, ◌∙◌, ℕ, List, [], ◌∷◌, ◌++◌, Some, ap, append-nil, subst}
use Rattle.std.proofs.Common.{append_assoc, slice_get, sym}
use Rattle.std.specs.Prelude.{All, Contains}
use Rattle.std.proofs.lemmas.List.Elements.{All-push, All-weaker, Contains-append_left}
use Rattle.syn_model.specs.Path.{Path}
use Rattle.syn_model.specs.Refusal.{Refusal, Full}
use Rattle.syn_model.specs.Archive.{Archive, Kept, archive_of, kept_refusal}
use Rattle.syn_model.specs.Decision.{path_of}
use Rattle.syn_machine.specs.Machine.{Up}
use Rattle.syn_machine.specs.Planning.{Planned, SessionPlan}
use Rattle.syn_machine.specs.Coordinator.{Exchange, Walk, Advances, past, refusing, making_room}
use Rattle.syn_machine.specs.Coordinator.{stands, conflicts, side_refuses, archive_refuses}
use Rattle.syn_machine.specs.Coordinator.{no_checkpoint, checkpoints, checkpoint_breaks, keeps}
use Rattle.syn_machine.specs.Coordinator.{record_breaks, IsDue}
use Rattle.syn_runs.specs.Reported.{IsRefusedFor, by_side, by_archive, by_journal}
use Rattle.syn_runs.specs.Reported.{archive_found}
use Rattle.syn_runs.proofs.Walks.{compacts_left, kept_both}
use Rattle.syn_runs.proofs.WorldLemmas.{archive-append}

-- a session that took more still has it
pub more_taken : (made : SessionPlan) (taken more : List Exchange) (kept : List Kept)
    (one : Refusal × Path) → IsRefusedFor made taken kept one →
    IsRefusedFor made (taken ++ more) kept one
more_taken made taken more kept _ (by_side item planned exchange why at was is for) =
    by_side item planned exchange why at (Contains-append_left taken more exchange was) is for
more_taken made taken more kept _
    (by_archive item planned what before later why at is front refused) =
    by_archive item planned what before later why at is front refused
more_taken made taken more kept _ (by_journal item planned exchange what at was due) =
    by_journal item planned exchange what at (Contains-append_left taken more exchange was) due

-- and one that recorded more
more_kept : (made : SessionPlan) (taken : List Exchange) (kept more : List Kept)
    (one : Refusal × Path) → IsRefusedFor made taken kept one →
    IsRefusedFor made taken (kept ++ more) one
more_kept made taken kept more _ (by_side item planned exchange why at was is for) =
    by_side item planned exchange why at was is for
more_kept made taken kept more _
    (by_archive item planned what before later why at is front refused) =
    by_archive item planned what before (later ++ more) why at is
    (ap (λ k. k ++ more) front ∙ append_assoc before later more) refused
more_kept made taken kept more _ (by_journal item planned exchange what at was due) =
    by_journal item planned exchange what at was due

module _ (pair : ℕ) (made : SessionPlan) (taken : Exchange) (all : List Exchange)
    (last : Contains all taken) where
  abbrev AllRefused : List Kept → List (Refusal × Path) → Type 0
  AllRefused had refused = All (IsRefusedFor made all had) refused

  -- the archive is what was found, with what was recorded
  abbrev StandsFor : List Kept → Archive → Type 0
  StandsFor had archive = archive ≡ archive_of (archive_found made) had

  still_refused : (had more : List Kept) (refused : List (Refusal × Path)) →
      AllRefused had refused → AllRefused (had ++ more) refused
  still_refused had more refused was =
      All-weaker (IsRefusedFor made all had) (IsRefusedFor made all (had ++ more))
      (more_kept made all had more) refused was

  refuse : (had : List Kept) (walk : Walk) (why : Refusal) (planned : Planned) →
      AllRefused had walk.refused → IsRefusedFor made all had (why, path_of planned.item) →
      AllRefused had (refusing walk why planned).refused
  refuse had walk why planned was one =
      All-push (IsRefusedFor made all had) walk.refused (why, path_of planned.item) was one

  -- with one record more
  stands_with : (had : List Kept) (before after : Archive) (what : Kept) →
      StandsFor had before → after ≡ archive_of before (what ∷ []) →
      StandsFor (had ++ what ∷ []) after
  stands_with had before after what at is =
      is ∙ (ap (λ a. archive_of a (what ∷ [])) at
      ∙ sym (archive-append (archive_found made) had (what ∷ [])))

  -- what a call refuses on its way has its cause
  pub advances_refused : (walk later : Walk) (had kept : List Kept) →
      StandsFor had walk.journal.value → AllRefused had walk.refused →
      Advances pair made.plan taken walk kept later → AllRefused (had ++ kept) later.refused
  advances_refused walk _ had _ at was (stands _) =
      subst (λ k. AllRefused k walk.refused) (sym (append-nil had)) was
  advances_refused walk later had kept at was (conflicts _ _ _ planned path first item is more) =
      advances_refused (past walk walk.journal) later had kept at was more
  advances_refused walk later had kept at was
      (side_refuses _ _ _ planned why first item is for more) =
      advances_refused (refusing walk why planned) later had kept at
      (refuse had walk why planned was
      (by_side walk.cursor planned taken why item last is for)) more
  advances_refused walk later had kept at was
      (archive_refuses _ _ _ planned what why first item is may refused more) =
      advances_refused (refusing walk why planned) later had kept at
      (refuse had walk why planned was
      (by_archive walk.cursor planned what had [] why item is (sym (append-nil had))
      (subst (λ a. kept_refusal a what ≡ Some why) at refused))) more
  advances_refused walk later had kept at was (no_checkpoint _ _ _ what first full greatest more) =
      advances_refused (refusing walk Full full.to_keep.planned) later had kept at
      (refuse had walk Full full.to_keep.planned was
      (by_journal walk.cursor full.to_keep.planned taken what full.to_keep.at last
      full.to_keep.due)) more
  advances_refused walk later had kept at was
      (checkpoints _ _ _ what journal first full smaller compacts up more) =
      advances_refused (making_room walk journal) later had kept
      ((compacts_left pair walk.journal journal compacts).0 ∙ at) was more
  advances_refused walk _ had _ at was
      (checkpoint_breaks _ what journal first full smaller compacts down) =
      subst (λ k. AllRefused k walk.refused) (sym (append-nil had)) was
  advances_refused walk later had _ at was
      (keeps _ _ what kept journal to_keep room kept_so up more) =
      subst (λ k. AllRefused k later.refused) (append_assoc had (what ∷ []) kept)
      (advances_refused (past walk journal) later (had ++ what ∷ []) kept
      (stands_with had walk.journal.value journal.value what at
      (kept_both pair walk.journal journal what (what ∷ []) kept_so up).0)
      (still_refused had (what ∷ []) walk.refused was) more)
  advances_refused walk _ had kept at was
      (record_breaks _ what _ journal to_keep room kept_so down) =
      still_refused had kept walk.refused was

-- the session has come to an item, whose record was due
pub record IsAtRecord (plan : List Planned) (taken : Exchange) (walk : Walk) : Type 0 where
  pub planned : Planned
  pub what : Kept
  pub at : slice_get plan walk.cursor ≡ Some planned
  pub due : IsDue walk.cursor planned taken what

-- so it has where the archive's device fails in a call
pub breaks_at_record : (pair : ℕ) (plan : List Planned) (taken : Exchange) (walk later : Walk)
    (kept : List Kept) → walk.journal.status ≡ Up → later.journal.status ≢ Up →
    Advances pair plan taken walk kept later → IsAtRecord plan taken later
breaks_at_record pair plan taken walk _ _ up down (stands _) = absurd (down up)
breaks_at_record pair plan taken walk later kept up down
    (conflicts _ _ _ planned path first item is more) =
    breaks_at_record pair plan taken (past walk walk.journal) later kept up down more
breaks_at_record pair plan taken walk later kept up down
    (side_refuses _ _ _ planned why first item is for more) =
    breaks_at_record pair plan taken (refusing walk why planned) later kept up down more
breaks_at_record pair plan taken walk later kept up down
    (archive_refuses _ _ _ planned what why first item is may refused more) =
    breaks_at_record pair plan taken (refusing walk why planned) later kept up down more
breaks_at_record pair plan taken walk later kept up down
    (no_checkpoint _ _ _ what first full greatest more) =
    breaks_at_record pair plan taken (refusing walk Full full.to_keep.planned) later kept up down
    more
breaks_at_record pair plan taken walk later kept up down
    (checkpoints _ _ _ what journal first full smaller compacts goes more) =
    breaks_at_record pair plan taken (making_room walk journal) later kept goes down more
breaks_at_record pair plan taken walk _ _ up down
    (checkpoint_breaks _ what journal first full smaller compacts broke) =
    record {
      planned = full.to_keep.planned;
      what = what;
      at = full.to_keep.at;
      due = full.to_keep.due;
    }
breaks_at_record pair plan taken walk later _ up down
    (keeps _ _ what kept journal to_keep room kept_so goes more) =
    breaks_at_record pair plan taken (past walk journal) later kept goes down more
breaks_at_record pair plan taken walk _ kept up down
    (record_breaks _ what _ journal to_keep room kept_so broke) =
    record { planned = to_keep.planned; what = what; at = to_keep.at; due = to_keep.due }
