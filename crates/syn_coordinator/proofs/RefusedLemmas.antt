-- Why a checkpoint is refused, and what one does to the coordinator.
use Rattle.std.proofs.Common.{◌≡◌, ◌≢◌, ◌⊎◌, ◌<◌, ◌^◌, ℕ, ◌+◌, Bool, true, false, not, nat_le}
use Rattle.std.proofs.Common.{if◌then◌else◌, List, [], ◌∷◌, Some, refl, sym, ap, ◌∙◌, inl, inr}
use Rattle.std.proofs.Common.{None, ap₂, subst, Option}
use Rattle.std.proofs.lemmas.Bool.{false≢true}
use Rattle.std.specs.Prelude.{◌↔◌, ◌&&◌, is_some}
use Rattle.syn_archive.specs.Archive.{Stands as ArchiveStands, IsHalted, generation_shown}
use Rattle.syn_archive.specs.Refusals.{refusal_of, IsOfCheckpoint}
use Rattle.syn_archive.specs.declared.archive.Archive.{Archive}
use Rattle.syn_archive.specs.declared.error.ArchiveError.{ArchiveError}
use Rattle.syn_archive.specs.declared.error.ArchiveError.TheVariants as error
use Rattle.syn_disk.specs.Arms.{is_stopped}
use Rattle.syn_disk.specs.declared.disk.Disk.{Ghosts}
use Rattle.syn_machine.specs.Coordinator.{CoordinatorMachine, Running, archive_layout}
use Rattle.syn_machine.specs.Coordinator.{coordinator_kind, no_call, running_after, with_archive}
use Rattle.syn_machine.specs.Machine.{Up, Halted, Down, Status, Arms, Meets, Compacts, Opens}
use Rattle.syn_machine.specs.Machine.{compacted, not_compacted, opened, recovered}
use Rattle.syn_machine.specs.MachineSteps.{Checkpoints, checkpoints, Reopens, is_halted, reopens}
use Rattle.syn_machine.specs.MachineSteps.{reopen_is_cut, with_device}
use Rattle.syn_model.specs.Archive as model
use Rattle.syn_model.specs.Limits.{greatest}
use Rattle.syn_model.specs.Refusal.{Refusal, first_cause}
use Rattle.syn_model.specs.Refusal as why
use Rattle.syn_model.specs.Archive.{CanKeep, Kept}
use Rattle.syn_coordinator.specs.Coordinators.{ReopensNot, Does, Stands, heard, checkpoint_causes}
use Rattle.syn_coordinator.specs.Coordinators.{checkpoint_refusals, device_of, ended_in, in_report}
use Rattle.syn_coordinator.specs.Coordinators.{report_shown, runs, goes_on, goes_down}
use Rattle.syn_coordinator.specs.Tries.{Tries, found_in, listed}
use Rattle.syn_coordinator.proofs.OpeningLemmas.{found_is}
use Rattle.syn_coordinator.specs.declared.tried.TriedRecord.{TriedRecord}
use Rattle.syn_coordinator.proofs.TriedLemmas.{tries_none, tries_still, untried_up}
use Rattle.syn_coordinator.proofs.ReopenLemmas.{Reopened, opened_again, cut_off, NotReopened}
use Rattle.syn_coordinator.proofs.ReopenLemmas.{stayed, went_down}
use Rattle.syn_coordinator.specs.Machines.{Journal, Runs, Fails, IsMachine}
use Rattle.syn_coordinator.specs.declared.coordinator.Coordinator.{Coordinator}
use Rattle.syn_session.specs.Sessions.{IsRunning, IsSession}
use Rattle.syn_session.specs.declared.session.Session.{Session}
use Rattle.std.proofs.lemmas.Option.{none-some}
use Rattle.syn_coordinator.specs.Steps.{CompactsSo, Moves, moves_on, moves_down}
use Rattle.syn_coordinator.proofs.OutcomeLemmas.{failed}
use Rattle.syn_coordinator.proofs.DueLemmas.{is_greatest, is_less}

-- by what each of the causes is
causes_with : (machine : CoordinatorMachine) (halted full : Bool) →
    is_halted machine.journal.status ≡ halted → nat_le greatest machine.journal.generation ≡ full →
    first_cause (checkpoint_causes machine)
    ≡ first_cause ((halted, why.Halted) ∷ (full, why.Full) ∷ (true, why.Memory) ∷ [])
causes_with machine halted full h f =
    ap (λ x. first_cause ((x, why.Halted) ∷ (nat_le greatest machine.journal.generation, why.Full)
    ∷ (true, why.Memory) ∷ [])) h
    ∙ ap (λ x. first_cause ((halted, why.Halted) ∷ (x, why.Full) ∷ (true, why.Memory) ∷ [])) f

pub up_not_down : Up ≢ Down
up_not_down e = cc

pub halted_not_up : Halted ≢ Up
halted_not_up e = cc

down_not_up : Down ≢ Up
down_not_up e = cc

pub halted_not_down : Halted ≢ Down
halted_not_down e = cc

-- a machine that an archive is, is not down
pub not_down : {D : Type 0} {disk : Ghosts D} (archive : Archive D disk) (machine : Journal) →
    Runs archive machine ⊎ Fails archive machine → machine.status ≢ Down
not_down archive machine (inl was) down = up_not_down (sym was.up ∙ down)
not_down archive machine (inr fails) down = halted_not_down (sym fails.halted ∙ down)

full_not_halted : Some why.Full ≡ Some why.Halted → ⊥
full_not_halted e = cc

memory_not_halted : Some why.Memory ≡ Some why.Halted → ⊥
memory_not_halted e = cc

memory_not_full : (T : Type 0) → failed T error.Memory ≡ failed T error.Full → ⊥
memory_not_full T e = cc

module _ {D : Type 0} {disk : Ghosts D} (archive : Archive D disk) (pair : ℕ)
    (machine : CoordinatorMachine) (is : IsMachine archive pair machine.journal)
    (fits : generation_shown archive < 2 ^ 64) where
  when_halted : IsHalted archive → is_halted machine.journal.status ≡ true
  when_halted halted = elim is.state as (λ _. is_halted machine.journal.status ≡ true) [
    | inl was ↦ absurd (false≢true (sym was.stands.runs.running ∙ halted))
    | inr fails ↦ ap is_halted fails.halted
  ]

  pub when_up : (IsHalted archive → ⊥) → Runs archive machine.journal
  when_up up =
      elim is.state as (λ _. Runs archive machine.journal)
      [ inl was ↦ was | inr fails ↦ absurd (up fails.is_halted) ]

  -- where it is neither halted nor at the greatest generation, no cause stands
  pub none_stands : (IsHalted archive → ⊥) → (generation_shown archive + 1 ≡ 2 ^ 64 → ⊥) →
      first_cause (checkpoint_refusals machine) ≡ None
  none_stands up less =
      let was = when_up up in
      ap₂ (λ h f. first_cause ((h, why.Halted) ∷ (f, why.Full) ∷ [])) (ap is_halted was.up)
      (ap (nat_le greatest) (sym was.generation) ∙ is_less (generation_shown archive) fits less)

  pub refused_for : (T : Type 0) (e : ArchiveError) → IsOfCheckpoint e → e ≢ error.Device →
      ((Some (refusal_of e) ≡ Some why.Halted) ↔ IsHalted archive) →
      ((kept : model.Archive) → ArchiveStands archive kept →
      (failed T e ≡ failed T error.Full) ↔ (generation_shown archive + 1 ≡ 2 ^ 64)) →
      first_cause (checkpoint_causes machine) ≡ Some (refusal_of e)
  refused_for T error.Halted of other halted full =
      causes_with machine true (nat_le greatest machine.journal.generation)
      (when_halted (halted.0 refl)) refl
  refused_for T error.Full of other halted full =
      let was = when_up (λ h. full_not_halted (halted.1 h)) in
      causes_with machine false true (ap is_halted was.up)
      (ap (nat_le greatest) (sym was.generation)
      ∙ is_greatest (generation_shown archive) ((full machine.journal.value was.stands).0 refl))
  refused_for T error.Memory of other halted full =
      let was = when_up (λ h. memory_not_halted (halted.1 h)) in
      causes_with machine false false (ap is_halted was.up)
      (ap (nat_le greatest) (sym was.generation) ∙ is_less (generation_shown archive) fits
      (λ e. memory_not_full T ((full machine.journal.value was.stands).1 e)))
  refused_for T error.Device of other halted full = absurd (other refl)
  refused_for T _ of other halted full = absurd of

-- a checkpoint keeps the value, and no record is written in it
compact_keeps : (pair : ℕ) (machine journal : Journal) →
    Compacts (archive_layout pair) machine journal →
    (journal.value ≡ machine.value) × (journal.writing ≡ machine.writing)
compact_keeps pair machine journal (compacted arms meets) = (refl, refl)
compact_keeps pair machine journal (not_compacted status arms failures is meets) = (refl, refl)

-- where no record was being written, an opening gives the value
open_keeps : (pair : ℕ) (machine journal : Journal) (kept : List Kept) → machine.writing ≡ None →
    Reopened pair machine journal kept → (journal.value ≡ machine.value) × (journal.writing ≡ None)
open_keeps pair machine journal kept quiet
    (opened_again calls new now some (opened room generation arms meets left)) =
    (refl, refl)
open_keeps pair machine journal kept quiet
    (opened_again calls new now some (recovered arms one meets writing can)) =
    absurd (none-some _ (sym quiet ∙ writing))
open_keeps pair machine journal kept quiet (cut_off calls arms failures meets) = (refl, quiet)

stay_keeps : (machine journal : Journal) (met left : Status) →
    NotReopened machine met left journal →
    (journal.value ≡ machine.value) × (journal.writing ≡ machine.writing)
stay_keeps machine journal met left (stayed calls arms failures meets) = (refl, refl)
stay_keeps machine journal met left (went_down calls arms failures meets) = (refl, refl)

-- an opening that is made leaves nothing being written, and one that was cut off what was
opened_quiet : (pair : ℕ) (machine journal : Journal) (kept : List Kept) →
    Reopened pair machine journal kept → journal.status ≡ Up → journal.writing ≡ None
opened_quiet pair machine journal kept
    (opened_again calls new now some (opened room generation arms meets left)) up =
    refl
opened_quiet pair machine journal kept
    (opened_again calls new now some (recovered arms one meets writing can)) up =
    refl
opened_quiet pair machine journal kept (cut_off calls arms failures meets) up =
    absurd (up_not_down (sym up))

opens_up : (pair : ℕ) (machine journal : Journal) (kept : List Kept) (calls : ℕ) →
    Opens (archive_layout pair) CanKeep machine calls journal kept → journal.status ≡ Up
opens_up pair machine journal kept calls (opened room generation arms meets left) = refl
opens_up pair machine journal kept calls (recovered arms one meets writing can) = refl

-- a machine that is up runs
runs_up : {D : Type 0} {disk : Ghosts D} (archive : Archive D disk) (pair : ℕ) (journal : Journal) →
    IsMachine archive pair journal → journal.status ≡ Up → Runs archive journal
runs_up archive pair journal is up =
    elim is.state as (λ _. Runs archive journal)
    [ inl runs ↦ runs | inr fails ↦ absurd (halted_not_up (sym fails.halted ∙ up)) ]

cut_tries : (pair : ℕ) (tried : Option TriedRecord) (machine journal : Journal) (kept : List Kept) →
    Reopened pair machine journal kept → journal.status ≡ Down → Tries tried machine →
    Tries tried journal
cut_tries pair tried machine journal kept
    (opened_again calls new now some (opened room generation arms meets left)) down tries =
    absurd (up_not_down down)
cut_tries pair tried machine journal kept
    (opened_again calls new now some (recovered arms one meets writing can)) down tries =
    absurd (up_not_down down)
cut_tries pair tried machine journal kept (cut_off calls arms failures meets) down tries =
    tries_still tried machine Down arms failures (λ _. down_not_up) tries

unopened_tries : (pair : ℕ) (tried : Option TriedRecord) (machine journal : Journal)
    (met left : Status) →
    (machine.status ≢ Up → left ≢ Up) → NotReopened machine met left journal →
    Tries tried machine → Tries tried journal
unopened_tries pair tried machine journal met left stops (stayed calls arms failures meets) tries =
    tries_still tried machine left arms failures stops tries
unopened_tries pair tried machine journal met left stops
    (went_down calls arms failures meets) tries =
    tries_still tried machine Down arms failures (λ _. down_not_up) tries

-- a session stays what it is where the archive of the machine does
pub runs_still : (a b : model.Archive) (session : Option Session) (running : Option Running) →
    (is_some running ≡ true → b ≡ a) → IsRunning a session running → IsRunning b session running
runs_still a b None None e is = tt
runs_still a b None (Some running) e is = absurd is
runs_still a b (Some session) None e is = absurd is
runs_still a b (Some session) (Some running) e is =
    subst (λ v. IsSession v session running) (sym (e refl)) is

module _ {D : Type 0} {disk : Ghosts D} (old new : Coordinator D disk) (pair : ℕ)
    (machine : CoordinatorMachine) (stands : Stands old pair machine)
    (same : new.running ≡ old.running) where
  -- a session that runs goes on, so that none ended
  goes_on_still : (b : Bool) → (if b && not b then in_report (report_shown new) else []) ≡ []
  goes_on_still true = refl
  goes_on_still false = refl

  pub none_ended : [] ≡ ended_in old new
  none_ended =
      sym (ap (λ r. if runs old && not (is_some r) then in_report (report_shown new) else []) same
      ∙ goes_on_still (runs old))

  still_running : (status : Status) → status ≢ Down → (journal : Journal) →
      journal.status ≡ status → running_after journal.status machine.running ≡ machine.running
  still_running status up journal is = ap (λ s. running_after s machine.running) is ∙ goes status up
    where
      goes : (s : Status) → s ≢ Down → running_after s machine.running ≡ machine.running
      goes Up _ = refl
      goes Halted _ = refl
      goes Down never = absurd (never refl)

  stands_with : (status : Status) → status ≢ Down → (journal : Journal) → journal.status ≡ status →
      IsMachine new.plan_runner.archive pair journal → (is_some machine.running ≡ true →
      (journal.value ≡ machine.journal.value) × (journal.writing ≡ None)) →
      (is_some machine.running ≡ true → new.plan_runner.tried ≡ None) →
      Tries new.plan_runner.tried journal →
      Stands new pair (with_archive machine journal)
  stands_with status up journal is_status is keeps untried tries =
      let running = still_running status up journal is_status in record {
        journal = is;
        running =
            subst (λ r. IsRunning journal.value new.running r) (sym running)
            (subst (λ s. IsRunning journal.value s machine.running) (sym same)
            (runs_still machine.journal.value journal.value old.running machine.running
            (λ some. (keeps some).0) stands.running));
        quiet = λ some. (keeps (sym (ap is_some running) ∙ some)).1;
        untried = λ some. untried (sym (ap is_some running) ∙ some);
        tries = tries;
      }

  -- nothing was tried at a machine that is up, and a checkpoint writes no record
  tries_none_up : Runs old.plan_runner.archive machine.journal →
      new.plan_runner.tried ≡ old.plan_runner.tried → (journal : Journal) →
      Compacts (archive_layout pair) machine.journal journal → Tries new.plan_runner.tried journal
  tries_none_up was same_tried journal compacts =
      tries_none new.plan_runner.tried journal
      (same_tried ∙ untried_up old.plan_runner.tried machine.journal stands.tries was.up)
      ((compact_keeps pair machine.journal journal compacts).1 ∙ was.idle)

  pub checkpoint_does : Runs old.plan_runner.archive machine.journal →
      new.plan_runner.tried ≡ old.plan_runner.tried →
      (status : Status) → status ≢ Down → CompactsSo new.plan_runner.archive pair machine.journal
      status →
      Does old new pair (Checkpoints (coordinator_kind pair) machine) [] []
  checkpoint_does was same_tried status up (moves_on journal compacts is_status is) =
      goes_on _ _ (checkpoints journal compacts)
      (stands_with status up journal is_status is (λ some. (
        (compact_keeps pair _ _ compacts).0,
        (compact_keeps pair _ _ compacts).1 ∙ stands.quiet some,
      )) (λ some. same_tried
      ∙ stands.untried some) (tries_none_up was same_tried journal compacts)) refl refl none_ended
  checkpoint_does was same_tried status up
      (moves_down journal compacts stopped down leaves) =
      goes_down _ _ (checkpoints journal compacts) stopped down leaves refl
      (tries_none_up was same_tried journal compacts)

  -- it forgets what was tried once it is opened again
  tries_again : (kept : List Kept) (journal : Journal) →
      Reopened pair machine.journal journal kept → journal.status ≡ Up → new.plan_runner.tried ≡
      None →
      Tries new.plan_runner.tried journal
  tries_again kept journal again up forgets =
      tries_none new.plan_runner.tried journal forgets
      (opened_quiet pair machine.journal journal kept again up)

  tries_cut : (kept : List Kept) (journal : Journal) → Reopened pair machine.journal journal kept →
      journal.status ≡ Down → new.plan_runner.tried ≡ old.plan_runner.tried →
      Tries new.plan_runner.tried journal
  tries_cut kept journal again down same_tried =
      subst (λ t. Tries t journal) (sym same_tried)
      (cut_tries pair old.plan_runner.tried machine.journal journal kept again down stands.tries)

  tries_unopened : (met left : Status) → (machine.journal.status ≢ Up → left ≢ Up) →
      (journal : Journal) → NotReopened machine.journal met left journal →
      new.plan_runner.tried ≡ old.plan_runner.tried →
      Tries new.plan_runner.tried journal
  tries_unopened met left stops journal not_opened same_tried =
      subst (λ t. Tries t journal) (sym same_tried) (unopened_tries pair old.plan_runner.tried
      machine.journal journal met left stops not_opened stands.tries)

  -- what it gave is what the archive shows
  gives : (found : Option Kept) (kept : List Kept) (journal : Journal) →
      Reopened pair machine.journal journal kept → journal.status ≡ Up →
      IsMachine new.plan_runner.archive pair journal → found ≡ found_in old.plan_runner.tried
      new.plan_runner.archive →
      kept ≡ listed found
  gives found kept journal (opened_again calls now some least opens) up is e =
      let runs = runs_up new.plan_runner.archive pair journal is up in
      found_is new.plan_runner.archive pair machine.journal old.plan_runner.tried calls journal kept
      stands.tries opens
      runs.room runs.generation ∙ ap listed (sym e)
  gives found kept journal (cut_off calls arms failures meets) up is e =
      absurd (up_not_down (sym up))

  gives_none : (found : Option Kept) (kept : List Kept) (journal : Journal) →
      Reopened pair machine.journal journal kept → journal.status ≡ Down → found ≡ None →
      kept ≡ listed found
  gives_none found kept journal (opened_again calls now some least opens) down none =
      absurd (up_not_down (sym (opens_up pair machine.journal journal kept calls opens) ∙ down))
  gives_none found kept journal (cut_off calls arms failures meets) down none = ap listed (sym none)

  reopened_step : (journal : Journal) (kept : List Kept) →
      Reopened pair machine.journal journal kept →
      Reopens (coordinator_kind pair) machine (with_archive machine journal)
      (record no_call { kept = kept }) []
  reopened_step _ _ (opened_again calls journal kept least opens) =
      reopens calls journal kept least opens
  reopened_step _ _ (cut_off calls arms failures meets) =
      reopen_is_cut calls arms failures meets

  still_heard : (status : Status) (refusals : List Refusal) → status ≢ Down →
      refusals ≡ heard status refusals
  still_heard Up refusals stays = refl
  still_heard Halted refusals stays = refl
  still_heard Down refusals stays = absurd (stays refl)

  -- nothing was opened, for this reason
  abbrev IsRefusedSo : Status → Status → Refusal → Type 0
  IsRefusedSo met left reason = (calls : ℕ) (arms : Arms) (failed : ℕ) →
      Meets machine.journal.arms calls met arms failed →
      Reopens (coordinator_kind pair) machine
      (with_device (coordinator_kind pair) machine left arms failed) no_call (reason ∷ [])

  unopened_step : (met left : Status) (reason : Refusal) → left ≢ Down →
      IsRefusedSo met left reason → (journal : Journal) →
      NotReopened machine.journal met left journal →
      ReopensNot pair machine reason (with_archive machine journal) no_call
  unopened_step met left reason stays so _ (stayed calls arms failures meets) =
      subst (Reopens (coordinator_kind pair) machine
      (with_device (coordinator_kind pair) machine left arms failures) no_call)
      (still_heard left (reason ∷ []) stays) (so calls arms failures meets)
  unopened_step met left reason stays so _ (went_down calls arms failures meets) =
      reopen_is_cut calls arms failures meets

  pub reopen_does : (found : Option Kept) → (is_stopped (disk.arms (device_of new)) ≡ false →
      (new.plan_runner.tried ≡ None) × (found ≡ found_in old.plan_runner.tried
      new.plan_runner.archive)) →
      (is_stopped (disk.arms (device_of new)) ≡ true →
      (new.plan_runner.tried ≡ old.plan_runner.tried) × (found ≡ None)) →
      Moves new.plan_runner.archive pair
      (λ journal. (kept : List Kept) × Reopened pair machine.journal journal kept) Up →
      Does old new pair (λ next call. Reopens (coordinator_kind pair) machine next call [])
      (listed found) []
  reopen_does found forgets stays (moves_on journal again is_status is) =
      goes_on _ _ (reopened_step journal again.0 again.1)
      (stands_with Up up_not_down journal is_status is
      (λ some. open_keeps pair _ _ _ (stands.quiet some) again.1) (λ some. (forgets is.goes).0)
      (tries_again again.0 journal again.1 is_status (forgets is.goes).0))
      (gives found again.0 journal again.1 is_status is (forgets is.goes).1) refl none_ended
  reopen_does found forgets stays (moves_down journal again stopped down leaves) =
      goes_down _ _ (reopened_step journal again.0 again.1) stopped down leaves
      (gives_none found again.0 journal again.1 down (stays stopped).1)
      (tries_cut again.0 journal again.1 down (stays stopped).0)

  pub not_reopened : new.plan_runner.tried ≡ old.plan_runner.tried →
      (met left : Status) (reason : Refusal) →
      left ≢ Down → (machine.journal.status ≢ Up → left ≢ Up) → IsRefusedSo met left reason →
      Moves new.plan_runner.archive pair (NotReopened machine.journal met left) left →
      Does old new pair (ReopensNot pair machine reason) [] []
  not_reopened same_tried met left reason up stops so
      (moves_on journal not_opened is_status is) =
      goes_on _ _ (unopened_step met left reason up so journal not_opened)
      (stands_with left up journal is_status is
      (λ some. (
        (stay_keeps _ _ _ _ not_opened).0,
        (stay_keeps _ _ _ _ not_opened).1
            ∙ stands.quiet some,
      )) (λ some. same_tried ∙ stands.untried some)
      (tries_unopened met left stops journal not_opened same_tried)) refl refl none_ended
  not_reopened same_tried met left reason up stops so
      (moves_down journal not_opened stopped down leaves) =
      goes_down _ _ (unopened_step met left reason up so journal not_opened) stopped down leaves
      refl
      (tries_unopened met left stops journal not_opened same_tried)

pub error_is : {T : Type 0} (a b : ArchiveError) → failed T a ≡ failed T b → a ≡ b
error_is a b e = cc
