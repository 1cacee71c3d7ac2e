-- A call of a coordinator that was made is a step of its machine, and what came of it is told.
use Rattle.std.proofs.Common.{◌≡◌, ◌≢◌, ◌∙◌, ℕ, List, [], None, Option, Some, IfSome, refl, sym, ap}
use Rattle.std.proofs.Common.{map, option_map, subst, ◌⊎◌, ◌≤◌, arith, inl, inr}
use Rattle.std.proofs.lemmas.Option.{none-some}
use Rattle.std.specs.Global.{Vec}
use Rattle.syn_disk.specs.declared.disk.Disk.{Ghosts}
use Rattle.syn_machine.specs.Coordinator.{Call, CoordinatorMachine, CoordinatorStarts}
use Rattle.syn_machine.specs.Coordinator.{CoordinatorTicks, Keeps, archive_layout, cut_after}
use Rattle.syn_machine.specs.Coordinator.{gives_up, no_call, no_session, resends, running_after}
use Rattle.syn_machine.specs.Coordinator.{Starts, coordinator_kind, start_breaks, start_causes}
use Rattle.syn_machine.specs.Coordinator.{writes}
use Rattle.syn_machine.specs.MachineSteps.{Checkpoint, Checkpoints, Does as MachineDoes, causes_at}
use Rattle.syn_machine.specs.MachineSteps.{checkpoints, full_generation, is_done, makes}
use Rattle.syn_machine.specs.MachineSteps.{refused_by}
use Rattle.syn_machine.specs.Coordinator as walk
use Rattle.syn_machine.specs.Machine.{Status, Up, Halted, Down, Compacts, compacted, not_compacted}
use Rattle.syn_machine.specs.Machine.{unarmed, Writes, idle, unwritten}
use Rattle.syn_machine.specs.Machine as kinds
use Rattle.syn_machine.specs.Network.{Message}
use Rattle.syn_machine.specs.Report.{Report}
use Rattle.syn_world.specs.Coordinators.{CoordinatorStep, IsCoordinator, archive_disk}
use Rattle.syn_world.specs.CoordinatorSteps.{CallIsStep, IsToTell, Settles, Unrefused}
use Rattle.syn_world.specs.CoordinatorSteps.{refuses_nothing}
use Rattle.syn_world.specs.Outcomes.{Tells, TellsRefused, causes_in}
use Rattle.syn_world.specs.declared.coordinator.CoordinatorCall.{CoordinatorCall}
use Rattle.syn_world.specs.declared.coordinator.CoordinatorHost.{CoordinatorHost}
use Rattle.syn_world.specs.declared.outcome.CoordinatorOutcome.{CoordinatorOutcome}
use Rattle.syn_model.specs.Archive.{Kept}
use Rattle.syn_model.specs.Refusal.{Cause, Refusal, first_cause}
use Rattle.syn_refusal.specs.declared.refusal.Refusal.{Refusal as Refused}
use Rattle.syn_coordinator.specs.Coordinators.{Does, HaltsByFailure, Stands, checkpoint_refusals}
use Rattle.syn_coordinator.specs.Coordinators.{device_of, ended_in, goes_down, goes_on, in_report}
use Rattle.syn_coordinator.specs.Coordinators.{refusals_of, written}
use Rattle.syn_coordinator.specs.Machines.{Journal}
use Rattle.syn_session.specs.Reports.{report_model}
use Rattle.syn_session.specs.Sendings.{messages_of}
use Rattle.syn_coordinator.specs.declared.coordinator.Coordinator.{Coordinator as Session}
use Rattle.syn_session.specs.declared.sending.Sending.{Sending}
use Rattle.syn_image.specs.Archives.{kept_of}
use Rattle.syn_image.specs.declared.kept.Kept.{Kept as Record}
use Rattle.syn_world.proofs.AnswerLemmas.{meets_down}
use Rattle.syn_world.proofs.CoordinatorHostLemmas.{is_not_down}
use Rattle.syn_world.proofs.CountLemmas.{checkpoint_once, counts_so, start_once, tick_once}
use Rattle.syn_world.proofs.SideLemmas.{up_not_down}
use Rattle.syn_model.specs.Which.{Which}
use Rattle.syn_journal.specs.Calls.{CountsNoMore}

-- a machine that a call left down: nothing is armed, no session runs, and nothing was said
pub record IsCut (next : CoordinatorMachine) (made : Call) : Type 0 where
  pub unarmed_is : next.journal.arms ≡ unarmed
  pub idle : next.running ≡ None
  pub silent : made.messages ≡ []
  pub reportless : made.reports ≡ []

-- a call that is cut wherever it leaves the machine down
abbrev pub IsCutSo : (CoordinatorMachine → Call → Type 0) → Type 0
IsCutSo Step = (next : CoordinatorMachine) (made : Call) → Step next made →
    next.journal.status ≡ Down → IsCut next made

-- what is told of one call is told of another that gives the same
retell : (outcome : Option CoordinatorOutcome) (told made : Call) (refused refusals : List Refusal)
    → told.kept ≡ made.kept → told.messages ≡ made.messages → told.reports ≡ made.reports
    → refused ≡ refusals → IfSome outcome (λ o. Tells o told refused)
    → IfSome outcome (λ o. Tells o made refusals)
retell None told made refused refusals kept messages reports same tells = tells
retell (Some o) told made refused refusals kept messages reports same tells = record {
  kept = tells.kept ∙ kept;
  sent = tells.sent ∙ messages;
  reports = tells.reports ∙ reports;
  refusals_are = tells.refusals_are ∙ same;
}

module _ {D : Type 0} {disk : Ghosts D} (old new : Session D disk) (pair : ℕ)
    (Step : CoordinatorMachine → Call → Type 0) (told : Call)
    (refusals_at : Status → List Refusal) (none : refusals_at Down ≡ [])
    (call : CoordinatorCall D disk) (settles : Settles new told refusals_at call)
    (cuts : IsCutSo Step)
    (same : (next : CoordinatorMachine) (made : Call) → Step next made
    → made.reports ≡ ended_in old new → made.reports ≡ told.reports)
    (Whole : CoordinatorStep)
    (lift : (next : CoordinatorMachine) (made : Call) → Step next made
    → Whole next made (refusals_at next.journal.status))
    (machine : CoordinatorMachine)
    (counts : (next : CoordinatorMachine) (made : Call) → Step next made
    → Stands new pair next ⊎ (next.journal.status ≡ Down)
    → CountsNoMore (disk.failures (device_of old)) (disk.failures (device_of new)) machine.journal
    next.journal) where
  -- its disk has counted as many failed calls as the coordinator's
  counts_on : (next : CoordinatorMachine) (made : Call) → Step next made
      → Stands new pair next ⊎ (next.journal.status ≡ Down)
      → CountsNoMore (disk.failures (device_of old)) (disk.failures (archive_disk call.coordinator))
      machine.journal next.journal
  counts_on next made step either =
      subst (λ after. CountsNoMore (disk.failures (device_of old)) after machine.journal
      next.journal) (sym settles.counted) (counts next made step either)

  pub does_call : Does old new pair Step told.kept told.messages
      → CallIsStep pair machine (disk.failures (device_of old)) Whole call
  does_call (goes_on next made step now kept messages reports) =
      let settling = settles.goes_on pair next now in
      record {
        made = made;
        refusals = refusals_at next.journal.status;
        goes = record {
          next = next;
          step = lift next made step;
          is = settling.1;
          counts = counts_on next made step (inl now);
        };
        tells = retell call.outcome told made _ _ (sym kept) (sym messages)
            (sym (same next made step reports)) refl settling.0;
      }
  does_call (goes_down next made step stopped down leaves kept tried) =
      let cut = cuts next made step down in
      let settling = settles.stops stopped pair next (record {
        down = down;
        unarmed_is = cut.unarmed_is;
        idle = cut.idle;
        leaves = leaves;
        tries = tried;
      }) in
      record {
        made = made;
        refusals = refusals_at next.journal.status;
        goes = record {
          next = next;
          step = lift next made step;
          is = settling.1;
          counts = counts_on next made step (inr down);
        };
        tells = retell call.outcome (record no_call { kept = told.kept }) made _ _ (sym kept)
            (sym cut.silent) (sym cut.reportless) (sym (ap refusals_at down ∙ none)) settling.0;
      }

-- Which calls are cut

-- the journal that a checkpoint left down has nothing armed
pub compacts_down : (pair : ℕ) (machine journal : Journal) → machine.status ≢ Down
    → Compacts (archive_layout pair) machine journal → journal.status ≡ Down
    → journal.arms ≡ unarmed
compacts_down pair machine _ other (compacted arms meets) down = absurd (other down)
compacts_down pair machine _ other (not_compacted status arms failed either meets) down =
    meets_down machine.arms arms 6 failed status meets down

-- and so has the one that a record left down
writes_down : (pair : ℕ) (machine journal : Journal) (kept : Kept) (told : List Kept)
    → machine.status ≢ Down → Writes (archive_layout pair) machine kept journal told
    → journal.status ≡ Down → journal.arms ≡ unarmed
writes_down pair machine _ kept _ other (idle is) down = absurd (other down)
writes_down pair machine _ kept _ other (kinds.written arms is meets) down = absurd (other down)
writes_down pair machine _ kept _ other (unwritten status arms failed is either meets) down =
    meets_down machine.arms arms 4 failed status meets down

pub keeps_down : (pair : ℕ) (machine journal : Journal) (kept : Kept) (told : List Kept)
    → machine.status ≢ Down → Keeps pair machine kept journal told
    → journal.status ≡ Down → journal.arms ≡ unarmed
keeps_down pair machine journal kept told other (writes _ _ done) down =
    writes_down pair machine journal kept told other done down
keeps_down pair machine _ kept _ other (cut_after fresh before stop) down = refl

module _ (pair : ℕ) (machine : CoordinatorMachine)
    (other : machine.journal.status ≢ Down) where
  pub checkpoint_is_cut : IsCutSo (Checkpoints (coordinator_kind pair) machine)
  checkpoint_is_cut _ _ (checkpoints journal compacts) down = record {
    unarmed_is = compacts_down pair machine.journal journal other compacts down;
    idle = ap (λ s. running_after s machine.running) down;
    silent = refl;
    reportless = refl;
  }

  pub start_is_cut : (preference : Option Which) → IsCutSo (CoordinatorStarts pair preference
      machine)
  start_is_cut preference _ _ (walk.CoordinatorStarts.starts session journal is lawful keeps up)
      down =
      absurd (up_not_down (sym up ∙ down))
  start_is_cut preference _ _ (start_breaks session journal kept is keeps broke) down = record {
    unarmed_is = keeps_down pair machine.journal journal _ kept other keeps down;
    idle = refl;
    silent = refl;
    reportless = refl;
  }

  -- a start reports nothing
  pub start_reports : (preference : Option Which) (next : CoordinatorMachine) (made : Call)
      → CoordinatorStarts pair preference machine next made → made.reports ≡ []
  start_reports preference _ _ (walk.CoordinatorStarts.starts session journal is lawful keeps up) =
      refl
  start_reports preference _ _ (start_breaks session journal kept is keeps broke) = refl

  pub tick_is_cut : IsCutSo (CoordinatorTicks machine)
  tick_is_cut _ _ (no_session none) down = absurd (other down)
  tick_is_cut _ _ (resends running is not) down = absurd (other down)
  tick_is_cut _ _ (gives_up running why is either) down = absurd (other down)

-- What is gathered of a call is what is to be told of it
pub gathered_tells : {D : Type 0} {disk : Ghosts D} (coordinator : Session D disk)
    (outcome : Option CoordinatorOutcome) (kept : List Record) (sent : Vec Sending)
    (ended : Option Report) (refused : Option Refused) (told : Call)
    (refusals_at : Status → List Refusal)
    → IfSome outcome (λ o. map kept_of o.kept.items ≡ map kept_of kept)
    → IfSome outcome (λ o. o.sent ≡ sent)
    → IfSome outcome (λ o. option_map report_model o.ended ≡ ended)
    → IfSome outcome (λ o. o.refused ≡ refused)
    → map kept_of kept ≡ told.kept → messages_of sent.items ≡ told.messages
    → in_report ended ≡ told.reports
    → ((pair : ℕ) (machine : CoordinatorMachine) → Stands coordinator pair machine
    → causes_in refused ≡ refusals_at machine.journal.status)
    → IfSome outcome (λ o. IsToTell coordinator o told refusals_at)
gathered_tells coordinator None kept sent ended refused told refusals_at keeps sends ends refuses k
    m r c = keeps
gathered_tells coordinator (Some o) kept sent ended refused told refusals_at keeps sends ends
    refuses k m r c = record {
      kept = keeps ∙ k;
      sent = ap (λ sends. messages_of sends.items) sends ∙ m;
      reports = ap in_report ends ∙ r;
      refusals = λ pair machine stands. ap causes_in refuses ∙ c pair machine stands;
    }

-- a machine that is not down and refuses nothing first is up
none_up : (status : Status) (causes : List Cause) → first_cause (causes_at status causes) ≡ None
    → status ≢ Down → status ≡ Up
none_up Up causes none other = refl
none_up Halted causes none other = absurd (none-some _ (sym none))
none_up Down causes none other = absurd (other refl)

-- The calls

module _ {D : Type 0} {disk : Ghosts D} (old new : Session D disk) (pair : ℕ)
    (machine : CoordinatorMachine) (stands : Stands old pair machine)
    (halts : HaltsByFailure old new)
    (grew : disk.failures (device_of old) ≤ disk.failures (device_of new))
    (call : CoordinatorCall D disk) where
  abbrev other : machine.journal.status ≢ Down
  other = is_not_down pair old machine stands

  pub checkpoint_call : Settles new no_call refused_by call
      → first_cause (checkpoint_refusals machine) ≡ None
      → Does old new pair (Checkpoints (coordinator_kind pair) machine) [] []
      → CallIsStep pair machine (disk.failures (device_of old))
      (MachineDoes (coordinator_kind pair) machine Checkpoint) call
  checkpoint_call settles none does =
      does_call old new pair (Checkpoints (coordinator_kind pair) machine) no_call refused_by refl
      call settles
      (checkpoint_is_cut pair machine other) same
      (MachineDoes (coordinator_kind pair) machine Checkpoint) lift machine
      (λ next made step. counts_so old new pair machine stands halts grew next
      (checkpoint_once pair machine (none_up machine.journal.status
      (full_generation machine.journal.generation) none other) next made step)) does
    where
      same : (next : CoordinatorMachine) (made : Call)
          → Checkpoints (coordinator_kind pair) machine next made
          → made.reports ≡ ended_in old new → made.reports ≡ []
      same _ _ (checkpoints journal compacts) is = refl

      lift : (next : CoordinatorMachine) (made : Call)
          → Checkpoints (coordinator_kind pair) machine next made
          → MachineDoes (coordinator_kind pair) machine Checkpoint next made
          (refused_by next.journal.status)
      lift next made step = is_done _ _ _ other (makes next made none step)

  pub start_call : (preference : Option Which) (messages : List Message)
      → Settles new (record no_call { kept = written new; messages = messages }) refused_by call
      → first_cause (refusals_of pair machine) ≡ None
      → Does old new pair (CoordinatorStarts pair preference machine) (written new) messages
      → CallIsStep pair machine (disk.failures (device_of old)) (Starts pair preference machine)
      call
  start_call preference messages settles none does =
      does_call old new pair (CoordinatorStarts pair preference machine)
      (record no_call { kept = written new; messages = messages }) refused_by refl call settles
      (start_is_cut pair machine other preference)
      (λ next made step is. start_reports pair machine other preference next made step)
      (Starts pair preference machine)
      (λ next made step. is_done _ _ _ other (makes next made none step)) machine
      (λ next made step. counts_so old new pair machine stands halts grew next
      (start_once pair machine (none_up machine.journal.status (start_causes pair machine) none
      other) preference next made step)) does

  pub tick_call : (messages : List Message)
      → Settles new (record no_call { messages = messages; reports = ended_in old new })
      refuses_nothing call
      → Does old new pair (CoordinatorTicks machine) [] messages
      → CallIsStep pair machine (disk.failures (device_of old))
      (Unrefused (CoordinatorTicks machine)) call
  tick_call messages settles does =
      does_call old new pair (CoordinatorTicks machine)
      (record no_call { messages = messages; reports = ended_in old new }) refuses_nothing refl
      call settles (tick_is_cut pair machine other) (λ next made step is. is)
      (Unrefused (CoordinatorTicks machine))
      (λ next made step. record { step = step; none = refl }) machine
      (λ next made step. counts_so old new pair machine stands halts grew next
      (tick_once machine next made step)) does

-- A call that was not made
pub refused_call : {D : Type 0} {disk : Ghosts D} (pair : ℕ) (machine : CoordinatorMachine)
    (was : CoordinatorHost D disk) (before : ℕ) → before ≤ disk.failures (archive_disk was)
    → (call : CoordinatorCall D disk) (refused : Option Refused)
    (refusals : List Refusal) (Whole : CoordinatorStep) → IsCoordinator pair was machine
    → call.coordinator ≡ was → IfSome call.outcome (λ told. TellsRefused told refused)
    → causes_in refused ≡ refusals → Whole machine no_call refusals
    → CallIsStep pair machine before Whole call
refused_call {D} {disk} pair machine was before grew call refused refusals Whole is same told causes
    step = record {
      made = no_call;
      refusals = refusals;
      goes = record {
        next = machine;
        step = step;
        is = subst (λ host. IsCoordinator pair host machine) (sym same) is;
        counts = subst (λ host. CountsNoMore before (disk.failures (archive_disk host))
            machine.journal machine.journal) (sym same) (omega (arith, grew));
      };
      tells = by call.outcome told;
    }
  where
    by : (outcome : Option CoordinatorOutcome) → IfSome outcome (λ o. TellsRefused o refused)
        → IfSome outcome (λ o. Tells o no_call refusals)
    by None tells = tells
    by (Some o) tells = record {
      kept = ap (map kept_of) tells.kept;
      sent = ap messages_of tells.sent;
      reports = ap (λ r. in_report (option_map report_model r)) tells.ended;
      refusals_are = ap causes_in tells.refused_is ∙ causes;
    }
