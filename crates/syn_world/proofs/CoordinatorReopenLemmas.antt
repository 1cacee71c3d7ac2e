-- Another opening of a coordinator's archive is a step of its machine.
use Rattle.std.proofs.Common.{◌≡◌, ◌≢◌, ◌∙◌, ◌<◌, ◌≤◌, ◌∷◌, [], ℕ, List, Option, None, ap}
use Rattle.std.proofs.Common.{option_map, refl, subst, sym}
use Rattle.syn_disk.specs.declared.disk.Disk.{Ghosts}
use Rattle.syn_machine.specs.Coordinator.{Call, CoordinatorMachine, archive_layout}
use Rattle.syn_machine.specs.Coordinator.{coordinator_kind, no_call}
use Rattle.syn_machine.specs.Machine.{Down, Halted, Opens, Status, Up, opened, recovered, unarmed}
use Rattle.syn_machine.specs.MachineSteps.{Does as MachineDoes, Reopen, Reopens, is_done}
use Rattle.syn_machine.specs.MachineSteps.{no_memory_to_reopen, reopen_fails, reopen_is_cut}
use Rattle.syn_machine.specs.MachineSteps.{reopens}
use Rattle.syn_world.specs.CoordinatorOpenings.{OpeningIsStep, SettlesFound, gives_found}
use Rattle.syn_world.specs.Coordinators.{IsCoordinator, archive_disk}
use Rattle.syn_world.specs.Outcomes.{causes_in}
use Rattle.syn_world.specs.declared.coordinator.open.CoordinatorOpening.{CoordinatorOpening}
use Rattle.syn_model.specs.Archive.{CanKeep, Kept}
use Rattle.syn_model.specs.Refusal.{Device, Refusal}
use Rattle.syn_refusal.specs.declared.refusal.Refusal.{Refusal as Code}
use Rattle.syn_coordinator.specs.Coordinators.{Does, Stands, device_of, goes_down, goes_on, heard}
use Rattle.syn_coordinator.specs.Machines.{Journal}
use Rattle.syn_coordinator.specs.Tries.{listed}
use Rattle.syn_coordinator.specs.declared.coordinator.Coordinator.{Coordinator as Session}
use Rattle.syn_image.specs.Archives.{kept_of}
use Rattle.syn_image.specs.declared.kept.Kept.{Kept as Record}
use Rattle.syn_world.proofs.AnswerLemmas.{meets_down}
use Rattle.syn_world.proofs.CoordinatorHostLemmas.{is_not_down}
use Rattle.syn_world.proofs.CoordinatorOpenLemmas.{counts_by, not_nine, reopening_counts}
use Rattle.syn_world.proofs.SideLemmas.{halted_not_down, up_not_down}

-- what is heard of a machine that goes on is all that was said
pub still_heard : (status : Status) (refusals : List Refusal) → status ≢ Down
    → heard status refusals ≡ refusals
still_heard Up refusals goes = refl
still_heard Halted refusals goes = refl
still_heard Down refusals goes = absurd (goes refl)

-- an opening leaves the machine up
opens_up : (pair : ℕ) (machine journal : Journal) (calls : ℕ) (kept : List Kept)
    → Opens (archive_layout pair) CanKeep machine calls journal kept → journal.status ≡ Up
opens_up pair machine _ calls _ (opened room generation arms meets left) = refl
opens_up pair machine _ calls _ (recovered arms kept meets writing can) = refl

module _ (pair : ℕ) (machine : CoordinatorMachine) where
  abbrev ReopensSo : CoordinatorMachine → Call → List Refusal → Type 0
  ReopensSo = Reopens (coordinator_kind pair) machine

  -- it gives no more than what it kept
  only_kept : (next : CoordinatorMachine) (call : Call) (refusals : List Refusal)
      → ReopensSo next call refusals → call ≡ record no_call { kept = call.kept }
  only_kept _ _ _ (reopens calls journal kept least so) = refl
  only_kept _ _ _ (reopen_fails calls arms failed meets) = refl
  only_kept _ _ _ (reopen_is_cut calls arms failed meets) = refl
  only_kept _ _ _ (no_memory_to_reopen calls arms failed meets) = refl

  -- a machine that it left down was cut off
  pub record IsCutOff (next : CoordinatorMachine) (call : Call) (refusals : List Refusal)
      : Type 0 where
    pub unarmed_is : next.journal.arms ≡ unarmed
    pub idle : next.running ≡ None
    pub unrefused : refusals ≡ []
    pub nothing : call.kept ≡ []

  cut_off : machine.journal.status ≢ Down → (next : CoordinatorMachine) (call : Call)
      (refusals : List Refusal) → ReopensSo next call refusals → next.journal.status ≡ Down
      → IsCutOff next call refusals
  cut_off other _ _ _ (reopens calls journal kept least so) down =
      absurd (up_not_down (sym (opens_up pair machine.journal journal calls kept so) ∙ down))
  cut_off other _ _ _ (reopen_fails calls arms failed meets) down =
      absurd (halted_not_down down)
  cut_off other _ _ _ (reopen_is_cut calls arms failed meets) down = record {
    unarmed_is = meets_down machine.journal.arms arms calls failed Down meets refl;
    idle = refl;
    unrefused = refl;
    nothing = refl;
  }
  cut_off other _ _ _ (no_memory_to_reopen calls arms failed meets) down = absurd (other down)

module _ {D : Type 0} {disk : Ghosts D} (old new : Session D disk) (pair : ℕ)
    (machine : CoordinatorMachine) (stands : Stands old pair machine)
    (opening : CoordinatorOpening D disk) where
  abbrev other : machine.journal.status ≢ Down
  other = is_not_down pair old machine stands

  -- how many failed calls the disk had counted, and has counted now
  abbrev before : ℕ
  before = disk.failures (device_of old)

  abbrev after : ℕ
  after = disk.failures (device_of new)

  abbrev IsSo : Type 0
  IsSo = OpeningIsStep pair machine before (MachineDoes (coordinator_kind pair) machine Reopen)
      opening

  is_step : (next : CoordinatorMachine) (call : Call) (refusals : List Refusal)
      → Reopens (coordinator_kind pair) machine next call refusals
      → call.kept ≡ listed (option_map kept_of opening.found)
      → refusals ≡ causes_in opening.refused → IsCoordinator pair opening.coordinator next
      → before ≤ disk.failures (archive_disk opening.coordinator)
      → (refusals ≡ Device ∷ []
      → before < disk.failures (archive_disk opening.coordinator)) → IsSo
  is_step next call refusals step kept told is least grew = record {
    next = next;
    step = is_done _ _ _ other
        (subst (Reopens (coordinator_kind pair) machine next (gives_found opening.found)) told
        (subst (λ c. Reopens (coordinator_kind pair) machine next c refusals)
        (only_kept pair machine next call refusals step
        ∙ ap (λ (k : List Kept). record no_call { kept = k }) kept) step));
    is = is;
    counts = counts_by machine.journal.failures next.journal.failures before
        (disk.failures (archive_disk opening.coordinator)) refusals
        (reopening_counts pair machine next call refusals step) least grew;
  }

  -- the disk counts as its coordinator's
  module _ (found : Option Record) (refused : Option Code)
      (settles : SettlesFound new found refused opening) (told : Status → List Refusal)
      (told_is : (status : Status) → status ≢ Down → told status ≡ causes_in refused)
      (least : before ≤ after) (grew : causes_in refused ≡ Device ∷ [] → before < after) where
    pub reopened_so : Does old new pair
        (λ next call. Reopens (coordinator_kind pair) machine next call
        (told next.journal.status)) (listed (option_map kept_of found)) [] → IsSo
    reopened_so (goes_on next call step now kept messages reports) =
        let settling = settles.goes_on pair next now in
        let is_told = told_is next.journal.status (is_not_down pair new next now) in
        is_step next call (told next.journal.status) step
        (kept ∙ ap (λ f. listed (option_map kept_of f)) (sym settling.0))
        (is_told ∙ ap causes_in (sym settling.1)) settling.2
        (subst (λ n. before ≤ n) (sym settles.counted) least)
        (λ nine. subst (λ n. before < n) (sym settles.counted) (grew (sym is_told ∙ nine)))
    reopened_so (goes_down next call step stopped down leaves kept tries) =
        let cut = cut_off pair machine other next call (told next.journal.status) step down in
        let settling = settles.stops stopped pair next (record {
          down = down;
          unarmed_is = cut.unarmed_is;
          idle = cut.idle;
          leaves = leaves;
          tries = tries;
        }) in
        is_step next call (told next.journal.status) step
        (cut.nothing ∙ ap (λ f. listed (option_map kept_of f)) (sym settling.0))
        (cut.unrefused ∙ ap causes_in (sym settling.1)) settling.2
        (subst (λ n. before ≤ n) (sym settles.counted) least)
        (λ nine. absurd (not_nine (sym cut.unrefused ∙ nine)))
