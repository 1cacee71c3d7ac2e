use Rattle.std.proofs.Common.{◌∷◌, ◌∙◌, ◌+◌, ◌<◌, [], Err, Ok, Result, Some, ap, inl, inr}
use Rattle.std.proofs.Common.{subst, sym}
use Rattle.syn_archive.specs.Refusals.{refusal_of}
use Rattle.syn_archive.specs.Machines.{KeepsRecord}
use Rattle.syn_machine.specs.Machine.{Halted, Up}
use Rattle.syn_journal.specs.Endings.{CountsFailures as Counts}
use Rattle.syn_coordinator.specs.Steps.{KeepsSo}
use Rattle.syn_coordinator.specs.Machines.{IsMachine}
use Rattle.syn_coordinator.proofs.DueLemmas.{stays as stays_so, was_in_doubt, was_kept}
use Rattle.syn_model.specs.Archive.{Session}
use Rattle.syn_coordinator.specs.Refusals.{CountsFailures}
use Rattle.syn_coordinator.specs.declared.error.StartError.TheVariants as error
use Rattle.syn_archive.specs.Archive.{disk_of, session_shown}
use Rattle.syn_archive.proofs.EndLemmas.{same_error}
use Rattle.syn_archive.specs.declared.error.ArchiveError.TheVariants as archive_error
use Rattle.syn_journal.proofs.Spent.{none_counted}
use Rattle.syn_coordinator.proofs.plan_runner.PlanRunner.keep_session.Goals as goal

pub returns-in-Ok-clause-ok : goal.returns-in-Ok-clause-ok
returns-in-Ok-clause-ok g c pair journal is =
    subst (λ n. KeepsSo c.next_session.new.self pair journal (Session n) (Session n ∷ []) Up)
    (sym c.requires.number) (was_kept c.next_session.new.self pair journal
    (Session (session_shown c.args.self.now.archive + 1)) (c.in-Ok.ensures.world pair journal is))

-- what a result refuses
abbrev refused : {T E : Type 0} → E → Result T E → E
refused none (Ok _) = none
refused none (Err e) = e

pub returns-in-Err-clause-device : goal.returns-in-Err-clause-device
returns-in-Err-clause-device g c pair journal is e =
    let device = (c.not_begun.ensures.device (ap (refused error.Device) e)).0 in
    let kept = Session (session_shown c.args.self.now.archive + 1) in
    subst (λ archive. KeepsSo archive pair journal (Session c.args.number) [] Halted)
    (sym c.not_begun.ensures.archive)
    (subst (λ n. KeepsSo c.next_session.new.self pair journal (Session n) [] Halted)
    (sym c.requires.number) (was_in_doubt c.next_session.new.self pair journal kept
    (subst (λ e. KeepsRecord c.next_session.new.self pair journal kept (Some (refusal_of e)))
    device (c.in-Err.ensures.world pair journal is))))

pub returns-in-Err-clause-failures : goal.returns-in-Err-clause-failures
returns-in-Err-clause-failures g c =
    let before = g.D.Disk.failures (disk_of c.args.self.now.archive) in
    let after = g.D.Disk.failures (disk_of c.not_begun.new.self.archive) in
    let archive = c.not_begun.ensures.archive in
    elim c.not_begun.ensures.other [
      | inl device ↦ subst (λ e. CountsFailures e before after) (sym device)
          (subst (λ a. before < g.D.Disk.failures (disk_of a)) (sym archive)
          (subst (λ e. Counts (Some (refusal_of e)) before
          (g.D.Disk.failures (disk_of c.next_session.new.self)))
          (c.not_begun.ensures.device device).0 c.in-Err.ensures.machine.device.failures))
      | inr stays ↦ subst (λ e. CountsFailures e before after) (sym stays.0)
          (ap (λ a. g.D.Disk.failures (disk_of a)) archive
          ∙ none_counted (refusal_of c.in-Err.error) _ _
          (λ is. stays.1 (same_error c.in-Err.error archive_error.Device is))
          c.in-Err.ensures.machine.device.failures)
    ]

pub returns-in-Err-clause-memory : goal.returns-in-Err-clause-memory
returns-in-Err-clause-memory g c pair journal is = elim c.not_begun.ensures.other [
  | inl device ↦ inl device
  | inr stays ↦ inr (
    stays.0,
    subst (λ archive. IsMachine archive pair journal) (sym c.not_begun.ensures.archive)
        (stays_so c.args.self.now.archive c.next_session.new.self pair journal is
        c.in-Err.error stays.1 c.in-Err.ensures.machine.unchanged
        c.in-Err.ensures.machine.readings),
  )
]
