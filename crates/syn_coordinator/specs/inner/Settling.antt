-- What a call that carries out a plan has come to, with what it wrote.
use Rattle.std.specs.Prelude.{◌≡◌, ◌≤◌, ◌++◌, ℕ, suc, List, None}
use Rattle.syn_coordinator.specs.PlanRunners.{written}
use Rattle.syn_coordinator.specs.declared.plan_runner.PlanRunner.{PlanRunner}
use Rattle.syn_coordinator.specs.declared.session_end.SessionEnd.{SessionEnd}
use Rattle.syn_coordinator.specs.inner.Walking.{Comes, ComesToAsk, Ends}
use Rattle.syn_disk.specs.declared.disk.Disk.{Ghosts}
use Rattle.syn_machine.specs.Coordinator.{Exchange}
use Rattle.syn_coordinator.specs.Machines.{Journal}
use Rattle.syn_model.specs.Archive.{Kept}
use Rattle.syn_scan.specs.Found.{Found}
use Rattle.syn_session.specs.Stages.{AreAskedBefore, Reached, plan_in}
use Rattle.syn_session.specs.declared.plan_progress.PlanProgress.{PlanProgress}
use Rattle.syn_session.specs.declared.session.Asks.{Asks}

-- nothing is being written, and nothing is remembered that was
abbrev pub IsQuiet : {D : Type 0} → {disk : Ghosts D} → PlanRunner D disk → Journal → Type 0
IsQuiet runner journal = (runner.tried ≡ None) × (journal.writing ≡ None)

module _ {D : Type 0} {disk : Ghosts D} (old new : PlanRunner D disk) (pair : ℕ)
    (taken : Exchange) (journal : Journal) (before : Reached) (progress : PlanProgress)
    (left right : Found) where
  -- it is past this item
  abbrev pub IsPast : Type 0
  IsPast = (kept : List Kept) × (written new ≡ written old ++ kept)
      × (suc before.cursor ≡ progress.cursor)
      × Comes new.archive pair taken journal before kept progress left right
      × (new.tried ≡ None)

  -- the session ends so
  abbrev pub EndsSo : SessionEnd → Type 0
  EndsSo ended = (kept : List Kept) × (written new ≡ written old ++ kept)
      × Ends new.archive new.tried pair taken journal before kept progress left right
      ended

  -- it asks for this
  abbrev pub AsksSo : List Exchange → Asks → Type 0
  AsksSo all asks = (kept : List Kept) × (written new ≡ written old ++ kept)
      × ComesToAsk new.archive pair taken journal before kept progress left right all asks
      × (new.tried ≡ None)

  -- it is past this item, and nothing was asked for the next
  abbrev pub PassesOn : List Exchange → Type 0
  PassesOn all = IsPast × AreAskedBefore (plan_in progress left right) progress.cursor all

  -- it is past some items, and nothing was asked for the next
  abbrev pub HasCome : List Exchange → Type 0
  HasCome all = (kept : List Kept) × (written new ≡ written old ++ kept)
      × Comes new.archive pair taken journal before kept progress left right
      × (before.cursor ≤ progress.cursor)
      × AreAskedBefore (plan_in progress left right) progress.cursor all
      × (new.tried ≡ None)
