-- What a record that is due for an item of a plan becomes, and where its session is then.
use Rattle.std.proofs.Common.{◌≡◌, ℕ, true, false, List, [], ◌∷◌, Option, Some, None, refl, sym, ap}
use Rattle.std.proofs.Common.{◌∙◌, subst}
use Rattle.std.specs.List.{slice_get}
use Rattle.std.specs.Option.{option_map_or}
use Rattle.std.proofs.lemmas.Bool.{false≢true}
use Rattle.std.proofs.lemmas.List.{append-nil}
use Rattle.syn_archive.specs.Archive.{disk_of}
use Rattle.syn_archive.specs.declared.archive.Archive.{Archive}
use Rattle.syn_disk.specs.Arms.{is_stopped}
use Rattle.syn_disk.specs.declared.disk.Disk.{Ghosts}
use Rattle.syn_machine.specs.Coordinator.{Exchange, IsDue, stands, no_memory}
use Rattle.syn_machine.specs.Machine.{Up}
use Rattle.syn_machine.specs.Planning.{Planned}
use Rattle.syn_model.specs.Archive as model
use Rattle.syn_model.specs.Archive.{Kept}
use Rattle.syn_model.specs.Plan.{PlanIsOrderly}
use Rattle.syn_propagate.specs.Carrying.{IsFresh}
use Rattle.syn_propagate.specs.Transfers.{spec_of}
use Rattle.syn_session.specs.declared.plan_progress.Carrying.{Carrying}
use Rattle.syn_coordinator.proofs.FreshLemmas.{is_fresh}
use Rattle.syn_recon.specs.Items.{items_of}
use Rattle.syn_refusal.specs.Refusals.{cause_of}
use Rattle.syn_refusal.specs.declared.refusal.Refusal.{Refusal}
use Rattle.syn_refusal.specs.declared.refusal.Refusal.TheVariants as refusal
use Rattle.syn_scan.specs.Found.{Found}
use Rattle.syn_coordinator.specs.Machines.{IsMachine, Journal}
use Rattle.syn_session.specs.declared.plan_progress.PlanProgress.{PlanProgress}
use Rattle.syn_coordinator.specs.declared.due.RecordOutcome.{RecordOutcome}
use Rattle.syn_coordinator.specs.declared.due.RecordOutcome.TheVariants as due
use Rattle.syn_coordinator.specs.declared.session_end.SessionEnd.{SessionEnd}
use Rattle.syn_coordinator.specs.declared.session_end.SessionEnd.TheVariants.{Early}
use Rattle.syn_coordinator.specs.declared.tried.TriedRecord.{TriedRecord}
use Rattle.syn_coordinator.proofs.TriedLemmas.{tries_none}
use Rattle.syn_coordinator.specs.inner.Advancing.{Advanced, EndsAs, ended, kept_by, kept_it}
use Rattle.syn_coordinator.specs.inner.Advancing.{refused_it, stopped}
use Rattle.syn_session.specs.Passing.{kept_at, refused_at}
use Rattle.syn_coordinator.specs.RecordOutcome.{Settles, TriesBy, recorded}
use Rattle.syn_session.specs.Stages.{AreAskedBefore, IsCarriedFor, IsPlanProgress, Reached, plan_in}
use Rattle.syn_coordinator.specs.inner.Walking.{Comes, Ends, ends, goes_down, plan_at, walk_at}
use Rattle.syn_coordinator.proofs.AdvanceLemmas.{advanced, remembers_still}
use Rattle.syn_coordinator.proofs.DueLemmas.{when_up}
use Rattle.syn_session.proofs.PlanLemmas.{named_once}
use Rattle.syn_coordinator.proofs.WalkLemmas.{ends_at, keeps_none, passes_by}

-- the item of the plan that the walk has come to
pub at_walk : (before : Reached) (progress : PlanProgress) (left right : Found) →
    IsPlanProgress progress left right before → (planned : Planned) →
    slice_get (plan_in progress left right) progress.cursor ≡ Some planned →
    slice_get (plan_at before) before.cursor ≡ Some planned
at_walk before progress left right is planned at =
    ap (λ p. slice_get (option_map_or (λ plan. plan) p []) before.cursor) is.plan
    ∙ (ap (slice_get (plan_in progress left right)) is.cursor ∙ at)

module _ {D : Type 0} {disk : Ghosts D} (new : Archive D disk) (tried : Option TriedRecord)
    (pair : ℕ)
    (taken : Exchange) (journal : Journal) (before : Reached) where
  -- lack of memory ends it where it is
  pub ends_for_memory : (progress : PlanProgress) (left right : Found) →
      IsMachine new pair journal →
      tried ≡ None → journal.writing ≡ None → IsPlanProgress progress left right before →
      Ends new tried pair taken journal before [] progress left right (Early refusal.Memory)
  ends_for_memory progress left right is untried quiet progress_is =
      ends (walk_at journal before) before
      (stands (walk_at journal before)) refl refl (keeps_none before)
      (λ running same. no_memory refl) is progress_is
      (remembers_still journal.status tried journal
      (tries_none tried journal untried quiet) _ refl)

  module _ (progress : PlanProgress) (left right : Found)
      (is : IsPlanProgress progress left right before) (planned : Planned)
      (at : slice_get (plan_in progress left right) progress.cursor ≡ Some planned) where
    module _ (what : Kept) (is_due : IsDue progress.cursor planned taken what)
        (quiet : journal.writing ≡ None) where
      pub became : (due : RecordOutcome) → Settles new pair journal what due →
          TriesBy new what None tried due →
          Advanced new tried pair (plan_at before) taken (walk_at journal before) planned what due
      became due settles tries =
          advanced new tried pair (plan_at before) taken (walk_at journal before) planned what refl
          (at_walk before progress left right is planned at)
          (subst (λ n. IsDue n planned taken what) (sym is.cursor) is_due) due settles quiet tries

      -- the same, where nothing was remembered before
      from_none : (was : Option TriedRecord) → was ≡ None → (due : RecordOutcome) →
          Settles new pair journal what due → TriesBy new what was tried due →
          Advanced new tried pair (plan_at before) taken (walk_at journal before) planned what due
      from_none was none due settles tries =
          became due settles (subst (λ o. TriesBy new what o tried due) none tries)

      -- the machine is down
      pub is_cut_off : (was : Option TriedRecord) → was ≡ None → (due : RecordOutcome) →
          Settles new pair journal what due → TriesBy new what was tried due →
          is_stopped (disk.arms (disk_of new)) ≡ true → (progress : PlanProgress)
          (how : SessionEnd) →
          Ends new tried pair taken journal before (kept_by what due) progress left right how
      is_cut_off was none due settles tries cut progress how =
          by due (from_none was none due settles tries)
        where
          by : (due : RecordOutcome) → Advanced new tried pair (plan_at before) taken
              (walk_at journal before) planned what due →
              Ends new tried pair taken journal before (kept_by what due) progress left right how
          by due (kept_it journal advances up is) = absurd (false≢true (sym is.goes ∙ cut))
          by due (refused_it why advances is) = absurd (false≢true (sym is.goes ∙ cut))
          by due (ended _ how later so advances cursor refused for is tries) =
              absurd (false≢true (sym is.goes ∙ cut))
          by due (stopped became later advances down cut leaves tries) =
              goes_down later advances cut down leaves tries

      was_up : Settles new pair journal what due.Recorded → journal.status ≡ Up
      was_up (recorded made between ready room has keeps) = ready.up

      -- it is kept, or refused, and the machine goes on
      module _ (goes : is_stopped (disk.arms (disk_of new)) ≡ false) where
        pub is_kept : Settles new pair journal what due.Recorded → tried ≡ None →
            (later : PlanProgress) →
            IsPlanProgress later left right (kept_at before what) →
            Comes new pair taken journal before (what ∷ []) later left right
        is_kept settles tries later progress_is = by (became due.Recorded settles tries)
          where
            by : Advanced new tried pair (plan_at before) taken (walk_at journal before) planned
                what due.Recorded → Comes new pair taken journal before (what ∷ []) later left right
            by (kept_it now advances up is) = record {
              journal = now;
              after = kept_at before what;
              passes =
                  passes_by pair taken journal before now (kept_at before what) (what ∷ [])
                  (up ∙ sym (was_up settles)) (λ _. (when_up new pair now is up).idle)
                  (record { plan = refl; kept_is = refl }) advances;
              is = is;
              progress_is = progress_is;
            }
            by (ended _ how later so advances cursor refused for is tries) = absurd so
            by (stopped became later advances down cut leaves tries) =
                absurd (false≢true (sym goes ∙ cut))

        module _ (why : Refusal) (settles : Settles new pair journal what (due.Refused why))
            (tries : tried ≡ None) where
          pub still_is : IsMachine new pair journal
          still_is = by (became (due.Refused why) settles tries)
            where
              by : Advanced new tried pair (plan_at before) taken (walk_at journal before) planned
                  what (due.Refused why) → IsMachine new pair journal
              by (refused_it why advances is) = is
              by (ended _ how later so advances cursor refused for is tries) = absurd so
              by (stopped became later advances down cut leaves tries) =
                  absurd (false≢true (sym goes ∙ cut))

          pub is_refused : (later : PlanProgress) →
              IsPlanProgress later left right (refused_at before (cause_of why) planned) →
              Comes new pair taken journal before [] later left right
          is_refused later progress_is = by (became (due.Refused why) settles tries)
            where
              by : Advanced new tried pair (plan_at before) taken (walk_at journal before) planned
                  what (due.Refused why) → Comes new pair taken journal before [] later left right
              by (refused_it why' advances is) = record {
                journal = journal;
                after = refused_at before (cause_of why) planned;
                passes =
                    passes_by pair taken journal before journal
                    (refused_at before (cause_of why) planned) [] refl (λ was. was)
                    (record { plan = refl; kept_is = sym (append-nil before.kept) }) advances;
                is = is;
                progress_is = progress_is;
              }
              by (ended _ how later so advances cursor refused for is tries) = absurd so
              by (stopped became later advances down cut leaves tries) =
                  absurd (false≢true (sym goes ∙ cut))

      pub is_ended : (was : Option TriedRecord) → was ≡ None → (it : RecordOutcome)
          (how : SessionEnd) →
          EndsAs it how → Settles new pair journal what it → TriesBy new what was tried it →
          Ends new tried pair taken journal before [] progress left right how
      is_ended was none it how so settles tries =
          ends_at pair taken journal before new tried planned what progress left right it how so is
          (from_none was none it settles tries)

-- ---- what is carried

-- nothing was asked yet for what is carried
pub fresh_for : PlanIsOrderly → (archive : model.Archive) (progress : PlanProgress)
    (left right : Found)
    (reached : Reached) (is : IsPlanProgress progress left right reached) (planned : Planned)
    (at : slice_get (plan_in progress left right) progress.cursor ≡ Some planned)
    (carrying : Carrying) →
    IsCarriedFor archive carrying planned progress.cursor → (all : List Exchange) →
    AreAskedBefore (plan_in progress left right) progress.cursor all →
    IsFresh (spec_of carrying.transfer) all
fresh_for orderly archive progress left right reached is planned at carrying carries all asked =
    is_fresh (plan_in progress left right) (named_once is.made.0 left right is.made.1
    (items_of progress.items.items) is.made.2 orderly) progress.cursor planned at
    (spec_of carrying.transfer) carries.spec.item_is carries.spec.path_is all asked
