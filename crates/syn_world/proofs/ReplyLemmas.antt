-- A call of a coordinator that takes an answer, and leaves its machine down.
use Rattle.std.proofs.Common.{◌≡◌, ◌≢◌, ◌≤◌, ◌∙◌, ℕ, List, None, Option, Some, refl, sym}
use Rattle.syn_disk.specs.declared.disk.Disk.{Ghosts}
use Rattle.syn_machine.specs.Coordinator.{Advances, CoordinatorMachine, CoordinatorTakes, EndsFor}
use Rattle.syn_machine.specs.Coordinator.{Exchange, Takes, Walk, ignores, no_call, takes}
use Rattle.syn_machine.specs.Coordinator as walk
use Rattle.syn_machine.specs.Machine.{Status, Down, unarmed}
use Rattle.syn_machine.specs.Network.{Message, Which}
use Rattle.syn_machine.specs.Planning.{Planned}
use Rattle.syn_machine.specs.Session.{Running}
use Rattle.syn_machine.specs.Side.{Reply}
use Rattle.syn_world.specs.CoordinatorSteps.{CallIsStep, Settles, Unrefused, refuses_nothing}
use Rattle.syn_world.specs.declared.coordinator.CoordinatorCall.{CoordinatorCall}
use Rattle.syn_model.specs.Archive.{Kept}
use Rattle.syn_model.specs.Refusal.{Refusal}
use Rattle.syn_coordinator.specs.Coordinators.{Does, HaltsByFailure, Stands, device_of, ended_in}
use Rattle.syn_coordinator.specs.Coordinators.{written}
use Rattle.syn_coordinator.specs.declared.coordinator.Coordinator.{Coordinator as Session}
use Rattle.syn_world.proofs.CallLemmas.{IsCutSo, compacts_down, does_call, keeps_down}
use Rattle.syn_world.proofs.CoordinatorHostLemmas.{is_not_down}
use Rattle.syn_world.proofs.CountLemmas.{counts_so, reply_once}
use Rattle.syn_world.proofs.SideLemmas.{halted_not_down, up_not_down}

module _ (pair : ℕ) (plan : List Planned) (taken : Exchange) where
  -- a call that goes through the plan and leaves the machine down
  advances_down : (start end : Walk) (kept : List Kept)
      → Advances pair plan taken start kept end → start.journal.status ≢ Down
      → end.journal.status ≡ Down → end.journal.arms ≡ unarmed
  advances_down start _ _ (walk.stands _) other down = absurd (other down)
  advances_down start end kept (walk.conflicts _ _ _ planned path free at is more) other down =
      advances_down _ end kept more other down
  advances_down start end kept (walk.side_refuses _ _ _ planned why free at said for more) other
      down = advances_down _ end kept more other down
  advances_down start end kept
      (walk.archive_refuses _ _ _ planned what why free at is either because
      more) other down = advances_down _ end kept more other down
  advances_down start end kept (walk.no_checkpoint _ _ _ what free full greatest more) other down =
      advances_down _ end kept more other down
  advances_down start end kept (walk.checkpoints _ _ _ what journal free full less compacts up more)
      other down = advances_down _ end kept more (λ is. up_not_down (sym up ∙ is)) down
  advances_down start _ _
      (walk.checkpoint_breaks _ what journal free full less compacts broke) other
      down = compacts_down pair start.journal journal other compacts down
  advances_down start end _ (walk.keeps _ _ what kept journal due room keeps up more) other down =
      advances_down _ end kept more (λ is. up_not_down (sym up ∙ is)) down
  advances_down start _ kept (walk.record_breaks _ what _ journal due room keeps broke) other down =
      keeps_down pair start.journal journal what kept other keeps down

-- no session ends with its machine down
never_ends_down : (pair : ℕ) (running : Running) (taken : Exchange) (was : Status) (at : Walk)
    (why : Option Refusal) → EndsFor pair running taken was at why → was ≢ Down
    → at.journal.status ≢ Down
never_ends_down pair running taken was at _ (walk.settled some past same) other down =
    other (sym same ∙ down)
never_ends_down pair running taken was at _ (walk.fails up halted) other down =
    halted_not_down (sym halted ∙ down)
never_ends_down pair running taken was at _ (walk.failed_before planned kept is due before halted)
    other down = halted_not_down (sym halted ∙ down)
never_ends_down pair running taken was at _ (walk.no_room_left kept full made) other down =
    up_not_down (sym full.to_keep.up ∙ down)
never_ends_down pair running taken was at _ (walk.no_memory same) other down =
    other (sym same ∙ down)

module _ (pair : ℕ) (machine : CoordinatorMachine)
    (other : machine.journal.status ≢ Down) where
  takes_is_cut : (running : Running) (taken : Exchange) → IsCutSo (Takes pair machine running taken)
  takes_is_cut running taken _ _ (walk.ends_at_once why either) down = absurd (other down)
  takes_is_cut running taken _ _ (walk.Takes.stops plan logged at kept sound has through is) down =
      record {
        unarmed_is = advances_down pair _ taken _ at kept through other down;
        idle = refl;
        silent = refl;
        reportless = refl;
      }
  takes_is_cut running taken _ _ (walk.ends plan logged at kept why sound has through ends) down =
      absurd (never_ends_down pair _ taken machine.journal.status at why ends other down)
  takes_is_cut running taken _ _
      (walk.Takes.goes_on plan logged at kept left right sound has through
      room same past asks) down = absurd (other (sym same ∙ down))

  pub reply_is_cut : (from : Which) (session number : ℕ) (reply : Reply)
      → IsCutSo (CoordinatorTakes pair machine from session number reply)
  reply_is_cut from session number reply next made (takes running request _ _ expected taken)
      down = takes_is_cut running _ next made taken down
  reply_is_cut from session number reply _ _ (ignores none) down = absurd (other down)

-- a machine that runs no session takes no answer
pub takes_none : (pair : ℕ) (machine : CoordinatorMachine) (from : Which)
    (session number : ℕ) (reply : Reply) → machine.running ≡ None
    → CoordinatorTakes pair machine from session number reply machine no_call
takes_none pair machine from session number reply idle = ignores
    (λ running request expected. absurd (never running (sym idle ∙ expected.runs)))
  where
    never : (running : Running) → ◌≢◌ {A = Option Running} None (Some running)
    never running e = cc

pub reply_call : {D : Type 0} {disk : Ghosts D} (old new : Session D disk) (pair : ℕ)
    (machine : CoordinatorMachine) → Stands old pair machine → HaltsByFailure old new
    → disk.failures (device_of old) ≤ disk.failures (device_of new)
    → (call : CoordinatorCall D disk)
    (from : Which) (session number : ℕ) (reply : Reply) (messages : List Message)
    → Settles new (record no_call {
      kept = written new;
      messages = messages;
      reports = ended_in old new;
    }) refuses_nothing call
    → Does old new pair (CoordinatorTakes pair machine from session number reply) (written new)
    messages
    → CallIsStep pair machine (disk.failures (device_of old))
    (Unrefused (CoordinatorTakes pair machine from session number reply)) call
reply_call old new pair machine stands halts grew call from session number reply messages settles
    does =
    does_call old new pair (CoordinatorTakes pair machine from session number reply)
    (record no_call { kept = written new; messages = messages; reports = ended_in old new })
    refuses_nothing refl call settles
    (reply_is_cut pair machine (is_not_down pair old machine stands) from session number reply)
    (λ next made step is. is)
    (Unrefused (CoordinatorTakes pair machine from session number reply))
    (λ next made step. record { step = step; none = refl }) machine
    (λ next made step. counts_so old new pair machine stands halts grew next
    (reply_once pair machine from session number reply next made step)) does
