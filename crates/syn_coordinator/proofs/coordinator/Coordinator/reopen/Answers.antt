use Rattle.std.proofs.Common.{List, Some, subst, refl, sym}
use Rattle.syn_machine.specs.Machine.{Up}
use Rattle.std.specs.Prelude.{option_map}
use Rattle.syn_image.specs.Archives.{kept_of}
use Rattle.syn_model.specs.Archive.{Kept}
use Rattle.syn_machine.specs.MachineSteps.{no_memory_to_reopen, reopen_fails}
use Rattle.syn_model.proofs.ExitLemmas.{if_err_of_exit}
use Rattle.syn_coordinator.specs.Steps.{Moves}
use Rattle.syn_archive.specs.Archive.{disk_of}
use Rattle.syn_archive.specs.Disks.{IsReopenRefusal}
use Rattle.syn_archive.specs.Refusals.{refusal_of}
use Rattle.syn_archive.specs.Machines.{ReadsDisk}
use Rattle.syn_coordinator.proofs.RefusedLemmas.{reopen_does, not_reopened, halted_not_down}
use Rattle.syn_coordinator.proofs.RefusedLemmas.{halted_not_up, not_down, error_is}
use Rattle.syn_coordinator.proofs.ReopenLemmas.{reopen_ok, reopen_failed, reopen_stayed}
use Rattle.syn_coordinator.proofs.ReopenLemmas.{Reopened, only_memory, reopen_early}
use Rattle.syn_coordinator.proofs.coordinator.Coordinator.reopen.Goals as goal

pub returns-in-Ok-clause-ok : goal.returns-in-Ok-clause-ok
returns-in-Ok-clause-ok g c pair machine stands =
    reopen_does c.args.self.now _ pair machine stands refl
    (option_map kept_of c.recovered.result) c.recovered.ensures.goes c.recovered.ensures.stopped
    (subst (λ a. Moves a pair
    (λ journal. (kept : List Kept) × Reopened pair machine.journal journal kept) Up)
    (sym c.recovered.ensures.archive) (reopen_ok c.reopen.new.self pair machine.journal
    (c.in-Ok.ensures.world pair machine.journal stands.journal)))

pub returns-in-Err-clause-device : goal.returns-in-Err-clause-device
returns-in-Err-clause-device g c pair machine stands is_device =
    let device = error_is c.in-Err.error _ is_device in
    not_reopened c.args.self.now _ pair machine stands refl refl _ _ _ halted_not_down
    (λ _. halted_not_up) (λ calls arms failures meets. reopen_fails calls arms failures meets)
    (reopen_failed c.reopen.new.self pair machine.journal (subst
    (λ e. ReadsDisk c.reopen.new.self pair machine.journal (Some (refusal_of e))) device
    (c.in-Err.ensures.world pair machine.journal stands.journal)))

pub returns-in-Err-clause-memory : goal.returns-in-Err-clause-memory
returns-in-Err-clause-memory g c pair machine stands other =
    let is = stands.journal in
    let why = subst (λ p. IsReopenRefusal c.in-Err.error p
    (g.D.Disk.seen (disk_of c.args.self.now.plan_runner.archive))) is.pair_is
    c.in-Err.ensures.refusals
    in
    let memory = only_memory pair machine.journal (g.D.Disk.seen (disk_of
    c.args.self.now.plan_runner.archive))
    (is.leaves _ (g.met.D.Disk.seen_may_stay _)) c.in-Err.error other why in (
      memory,
      not_reopened c.args.self.now _ pair machine stands refl refl _ _ _
          (not_down c.args.self.now.plan_runner.archive machine.journal is.state) (λ up. up)
          (λ calls arms failures meets. no_memory_to_reopen calls arms failures meets)
          (reopen_stayed c.reopen.new.self pair machine.journal (subst
          (λ e. ReadsDisk c.reopen.new.self pair machine.journal (Some (refusal_of e))) memory
          (c.in-Err.ensures.world pair machine.journal is))),
    )

pub returns-in_err-copy-clause-memory : goal.returns-in_err-copy-clause-memory
returns-in_err-copy-clause-memory g c pair machine stands =
    if_err_of_exit c.from_residual.result _ _ c.from_residual.ensures.1
    (λ other. (
      refl,
      not_reopened c.args.self.now c.args.self.now pair machine stands refl refl _ _ _
          (not_down c.args.self.now.plan_runner.archive machine.journal stands.journal.state)
          (λ up. up)
          (λ calls arms failures meets. no_memory_to_reopen calls arms failures meets)
          (reopen_early c.args.self.now.plan_runner.archive pair machine.journal stands.journal),
    ))
