-- How a call goes on through the plan: past an item, or to its end.
use Rattle.std.proofs.Common.{◌≡◌, ◌⊎◌, ℕ, true, List, [], ◌++◌, Option, Some, None, refl, sym}
use Rattle.std.proofs.Common.{ap, ◌∙◌, subst}
use Rattle.std.specs.List.{slice_get}
use Rattle.std.specs.Option.{option_map_or}
use Rattle.std.proofs.lemmas.List.{append-nil, append_assoc}
use Rattle.syn_archive.specs.declared.archive.Archive.{Archive}
use Rattle.syn_disk.specs.declared.disk.Disk.{Ghosts}
use Rattle.syn_machine.specs.Coordinator.{Advances, Exchange, EndsFor, IsFor, record_for}
use Rattle.syn_machine.specs.Coordinator as model
use Rattle.syn_machine.specs.Machine.{Up}
use Rattle.syn_machine.specs.Planning.{Planned}
use Rattle.syn_machine.specs.Report.{is_carrying}
use Rattle.syn_machine.specs.Side.{Refused}
use Rattle.syn_model.specs.Archive.{Kept, kept_refusal}
use Rattle.syn_model.specs.Decision.{Conflict}
use Rattle.syn_model.specs.Path.{Path}
use Rattle.syn_model.specs.Refusal.{Refusal}
use Rattle.syn_scan.specs.Found.{Found}
use Rattle.syn_coordinator.specs.Machines.{Journal}
use Rattle.syn_session.specs.declared.plan_progress.PlanProgress.{PlanProgress}
use Rattle.syn_coordinator.specs.declared.due.RecordOutcome.{RecordOutcome}
use Rattle.syn_coordinator.specs.declared.due.RecordOutcome.TheVariants as due
use Rattle.syn_coordinator.specs.declared.session_end.SessionEnd.{SessionEnd}
use Rattle.syn_coordinator.specs.declared.tried.TriedRecord.{TriedRecord}
use Rattle.syn_coordinator.specs.inner.Advancing.{Advanced, EndsAs, Remembers, ended, kept_by}
use Rattle.syn_coordinator.specs.inner.Advancing.{kept_it, refused_it, stopped}
use Rattle.syn_session.specs.Passing.{past_at, refused_at}
use Rattle.syn_session.specs.Stages.{IsPlanProgress, Reached}
use Rattle.syn_coordinator.specs.inner.Walking.{Comes, Ends, HasKept, Passes, ends, goes_down}
use Rattle.syn_coordinator.specs.inner.Walking.{plan_at, walk_at, ended_by}
use Rattle.syn_coordinator.proofs.AdvanceLemmas.{goes_further}

pub keeps_none : (reached : Reached) → HasKept reached reached []
keeps_none reached = record { plan = refl; kept_is = sym (append-nil reached.kept) }

pub keeps_more : (first middle last : Reached) (before onward : List Kept) →
    HasKept first middle before → HasKept middle last onward → HasKept first last (before ++ onward)
keeps_more first middle last before onward one two = record {
  plan = two.plan ∙ one.plan;
  kept_is =
      two.kept_is ∙ (ap (λ l. l ++ onward) one.kept_is ∙ append_assoc first.kept before onward);
}

module _ (pair : ℕ) (taken : Exchange) where
  same_plan : (before after : Reached) (kept : List Kept) → HasKept before after kept →
      plan_at after ≡ plan_at before
  same_plan before after kept has = ap (λ plan. option_map_or (λ plan. plan) plan []) has.plan

  -- ---- from item to item

  pub passes_none : (journal : Journal) (reached : Reached) →
      Passes pair taken journal reached journal reached []
  passes_none journal reached =
      record {
        status = refl;
        quiet = λ was. was;
        has = keeps_none reached;
        leads = λ later rest more. more;
      }

  module _ (old middle : Journal) (before between : Reached) (kept : List Kept)
      (first : Passes pair taken old before middle between kept) where
    -- what it does from there on it does from here on
    pub led : (later : model.Walk) (rest : List Kept) →
        Advances pair (plan_at between) taken (walk_at middle between) rest later →
        Advances pair (plan_at before) taken (walk_at old before) (kept ++ rest) later
    led later rest more =
        first.leads later rest (subst (λ p. Advances pair p taken
        (walk_at middle between) rest later) (same_plan before between kept first.has) more)

    pub passes_more : (new : Journal) (after : Reached) (more : List Kept) →
        Passes pair taken middle between new after more →
        Passes pair taken old before new after (kept ++ more)
    passes_more new after more second = record {
      status = second.status ∙ first.status;
      quiet = λ was. second.quiet (first.quiet was);
      has = keeps_more before between after kept more first.has second.has;
      leads =
          λ later rest further. subst
          (λ l. Advances pair (plan_at before) taken (walk_at old before) l later)
          (sym (append_assoc kept more rest))
          (led later (more ++ rest) (second.leads later rest
          (subst (λ p. Advances pair p taken (walk_at new after) rest later)
          (sym (same_plan before between kept first.has)) further)));
    }

    module _ {D : Type 0} {disk : Ghosts D} (new : Archive D disk) (more : List Kept)
        (progress : PlanProgress) (left right : Found) where
      pub comes_after : Comes new pair taken middle between more progress left right →
          Comes new pair taken old before (kept ++ more) progress left right
      comes_after comes =
          record {
            journal = comes.journal;
            after = comes.after;
            passes = passes_more comes.journal
                comes.after more comes.passes;
            is = comes.is;
            progress_is = comes.progress_is;
          }

      pub ends_after : (tried : Option TriedRecord) (how : SessionEnd) →
          Ends new tried pair taken middle between more progress left right how →
          Ends new tried pair taken old before (kept ++ more) progress left right how
      ends_after tried how (ends walk after advances cursor refused has why is progress_is tries) =
          ends walk after (led walk more advances) cursor refused
          (keeps_more before between after kept more first.has has)
          (λ running same. subst (λ s. EndsFor pair running taken s walk (ended_by how))
          first.status (why running (same ∙ sym first.has.plan))) is progress_is
          (subst (λ s. Remembers s tried walk.journal how) first.status tries)
      ends_after tried how (goes_down walk advances cut down leaves tries) =
          goes_down walk (led walk more advances) cut down leaves tries

  -- ---- one item

  module _ (old : Journal) (before : Reached) where
    pub passes_by : (new : Journal) (after : Reached) (kept : List Kept) → new.status ≡ old.status →
        (old.writing ≡ None → new.writing ≡ None) → HasKept before after kept →
        Advances pair (plan_at before) taken (walk_at old before) kept (walk_at new after) →
        Passes pair taken old before new after kept
    passes_by new after kept same quiet has advances = record {
      status = same;
      quiet = quiet;
      has = has;
      leads =
          λ later rest more. goes_further pair (plan_at before) taken (walk_at old before)
          (walk_at new after) later kept rest advances same more;
    }

    module _ (planned : Planned)
        (at : slice_get (plan_at before) before.cursor ≡ Some planned) where
      pub passes_conflict : (path : Path) → planned.item ≡ Conflict path →
          Passes pair taken old before old (past_at before) []
      passes_conflict path is =
          passes_by old (past_at before)
          [] refl (λ was. was) (record { plan = refl; kept_is = sym (append-nil before.kept) })
          (model.conflicts (walk_at old before) (walk_at old (past_at before))
          [] planned path refl at is (model.stands (walk_at old (past_at before))))

      -- a side refused what was asked for the item
      pub passes_refused : (why : Refusal) → taken.reply ≡ Refused why →
          IsFor before.cursor planned taken.request →
          Passes pair taken old before old (refused_at before why planned) []
      passes_refused why refused asked =
          passes_by old (refused_at before why planned)
          [] refl (λ was. was) (record { plan = refl; kept_is = sym (append-nil before.kept) })
          (model.side_refuses (walk_at old before) (walk_at old (refused_at before why planned))
          [] planned why refl at refused asked
          (model.stands (walk_at old (refused_at before why planned))))

      -- the archive refuses its record
      pub passes_unfit : (what : Kept) (why : Refusal) →
          record_for planned planned.item ≡ Some what →
          (is_carrying planned.item ≡ true) ⊎ (old.status ≡ Up) →
          kept_refusal old.value what ≡ Some why →
          Passes pair taken old before old (refused_at before why planned) []
      passes_unfit what why is up refused =
          passes_by old (refused_at before why planned)
          [] refl (λ was. was) (record { plan = refl; kept_is = sym (append-nil before.kept) })
          (model.archive_refuses (walk_at old before) (walk_at old (refused_at before why planned))
          [] planned what why refl at is up refused
          (model.stands (walk_at old (refused_at before why planned))))

    -- ---- what became of its record

    module _ {D : Type 0} {disk : Ghosts D} (new : Archive D disk) (tried : Option TriedRecord)
        (planned : Planned) (what : Kept) (progress : PlanProgress) (left right : Found) where
      -- where it ends the session nothing was kept, and it ends it in one way
      ends_one : (it : RecordOutcome) (how : SessionEnd) → EndsAs it how →
          (kept_by what it ≡ []) × ((other : SessionEnd) → EndsAs it other → other ≡ how)
      ends_one (due.Ends why) how is = (refl, λ other same. same ∙ sym is)
      ends_one due.Unsent how is = (refl, λ other same. same ∙ sym is)
      ends_one due.Tried how is = (refl, λ other same. same ∙ sym is)
      ends_one due.Recorded how is = absurd is
      ends_one (due.Refused why) how is = absurd is

      pub ends_at : (it : RecordOutcome) (how : SessionEnd) → EndsAs it how →
          IsPlanProgress progress left right before →
          Advanced new tried pair (plan_at before) taken (walk_at old before) planned what it →
          Ends new tried pair taken old before [] progress left right how
      ends_at it how so progress_is
          (ended _ other walk same advances cursor refused for is tries) =
          subst (Ends new tried pair taken old before [] progress left right)
          ((ends_one it how so).1 other same)
          (ends walk before advances cursor refused (keeps_none before) (λ running same. for running
          (ap (λ plan. option_map_or (λ plan. plan) plan []) same)) is progress_is tries)
      ends_at it how so progress_is (stopped _ walk advances down cut leaves tries) =
          goes_down walk
          (subst (λ k. Advances pair (plan_at before) taken (walk_at old before) k walk)
          (ends_one it how so).0 advances) cut down leaves tries
      ends_at it how so progress_is (kept_it journal advances up is) = absurd so
      ends_at it how so progress_is (refused_it why advances is) = absurd so
