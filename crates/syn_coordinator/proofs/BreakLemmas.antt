-- What breaks off in a call that goes through a plan.
use Rattle.std.proofs.Common.{◌≡◌, ◌∙◌, None, Ok, Err, inl, inr, ap, refl, subst, sym}
use Rattle.std.specs.Prelude.{IfErr, Result, true, ◌<◌}
use Rattle.syn_archive.specs.Archive.{disk_of}
use Rattle.syn_coordinator.specs.PlanRunners.{BreaksNothing, BreaksUnsent, in_doubt}
use Rattle.syn_coordinator.specs.PlanRunners.{FailsOrStops, TellsNone}
use Rattle.syn_coordinator.specs.declared.plan_runner.PlanRunner.{PlanRunner}
use Rattle.syn_coordinator.specs.declared.session_end.SessionEnd.{SessionEnd}
use Rattle.syn_coordinator.specs.declared.session_end.SessionEnd.TheVariants.{Early, Failed}
use Rattle.syn_coordinator.specs.declared.session_end.SessionEnd.TheVariants.{PlanDone}
use Rattle.syn_coordinator.specs.inner.Advancing.{Breaks, BreaksAs, BreaksBy}
use Rattle.syn_disk.specs.Arms.{is_stopped}
use Rattle.syn_disk.specs.declared.disk.Disk.{Ghosts}
use Rattle.syn_coordinator.specs.declared.due.RecordOutcome.{RecordOutcome}
use Rattle.syn_coordinator.specs.declared.due.RecordOutcome.TheVariants as due
use Rattle.syn_refusal.specs.declared.refusal.Refusal.TheVariants as refusal

module _ {D : Type 0} {disk : Ghosts D} where
  -- nothing was done
  pub none_breaks : (old : PlanRunner D disk) → BreaksNothing old old
  none_breaks old = record { in_doubt_is = refl; tried_is = refl; counted = refl }

  -- a call that forgot first what was told of the one before
  module _ (old middle new : PlanRunner D disk) (whole : in_doubt middle ≡ None)
      (tried : middle.tried ≡ old.tried) (archive : middle.archive ≡ old.archive) where
    same : disk.failures (disk_of middle.archive) ≡ disk.failures (disk_of old.archive)
    same = ap (λ a. disk.failures (disk_of a)) archive

    pub none_told : BreaksNothing middle new → TellsNone old new
    none_told nothing = record {
      in_doubt_is = nothing.in_doubt_is ∙ whole;
      tried_is = nothing.tried_is ∙ tried;
      counted = inl (nothing.counted ∙ same);
    }

  -- one call after another, of which the first breaks nothing
  module _ (old middle new : PlanRunner D disk) (first : BreaksNothing old middle) where
    counted_first : FailsOrStops middle new → FailsOrStops old new
    counted_first (inl grew) =
        inl (subst (λ n. n < disk.failures (disk_of new.archive)) first.counted grew)
    counted_first (inr stopped) = inr (stopped.0, stopped.1 ∙ first.counted)

    pub then_nothing : BreaksNothing middle new → BreaksNothing old new
    then_nothing second = record {
      in_doubt_is = second.in_doubt_is ∙ first.in_doubt_is;
      tried_is = second.tried_is ∙ first.tried_is;
      counted = second.counted ∙ first.counted;
    }

    pub then_ends : (how : SessionEnd) → BreaksAs middle new how → BreaksAs old new how
    then_ends PlanDone nothing = then_nothing nothing
    then_ends (Early why) nothing = then_nothing nothing
    then_ends Failed (inl unsent) = inl (record {
      in_doubt_is = unsent.in_doubt_is ∙ first.in_doubt_is;
      tried_is = unsent.tried_is ∙ first.tried_is;
      counted = counted_first unsent.counted;
    })
    then_ends Failed (inr off) = inr (record {
      in_doubt_is = off.in_doubt_is;
      is_told = off.is_told;
      counted = counted_first off.counted;
    })

    pub then_breaks : {A : Type 0} (result : Result A SessionEnd) → Breaks middle new result →
        Breaks old new result
    then_breaks (Ok went) nothing = then_nothing nothing
    then_breaks (Err how) breaks = then_ends how breaks

  -- what is told of it otherwise
  module _ (old new : PlanRunner D disk) where
    -- where lack of memory alone ends it
    pub nothing_breaks : {A : Type 0} (result : Result A SessionEnd) →
        IfErr result (λ how. how ≡ Early refusal.Memory) → BreaksNothing old new →
        Breaks old new result
    nothing_breaks (Ok went) memory nothing = nothing
    nothing_breaks (Err how) memory nothing = subst (BreaksAs old new) (sym memory) nothing

    -- of a record that is due, after which the machine was stopped
    stopped_short : is_stopped (disk.arms (disk_of new.archive)) ≡ true → BreaksNothing old new →
        BreaksUnsent old new
    stopped_short stopped nothing = record {
      in_doubt_is = nothing.in_doubt_is;
      tried_is = nothing.tried_is;
      counted = inr (stopped, nothing.counted);
    }

    pub cut_breaks : (it : RecordOutcome) → is_stopped (disk.arms (disk_of new.archive)) ≡ true →
        BreaksBy old new it → BreaksAs old new Failed
    cut_breaks due.Recorded stopped nothing = inl (stopped_short stopped nothing)
    cut_breaks (due.Refused why) stopped nothing = inl (stopped_short stopped nothing)
    cut_breaks (due.Ends why) stopped nothing = inl (stopped_short stopped nothing)
    cut_breaks due.Unsent stopped unsent = inl unsent
    cut_breaks due.Tried stopped off = inr off
