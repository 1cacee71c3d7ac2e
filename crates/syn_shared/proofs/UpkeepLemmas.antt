-- A checkpoint and another opening in a hold are those of the world's side, as the replica says
-- them of its machine.
use Rattle.std.proofs.Common.{◌≡◌, ◌≢◌, ℕ, refl, sym, subst, None, Some, Result, Ok, Err, inl, inr}
use Rattle.syn_agent.specs.Agents.{staging_of}
use Rattle.syn_agent.specs.Machines.{IsOf, goes_on, stops}
use Rattle.syn_agent.specs.declared.agent.Agent.{Agent}
use Rattle.syn_disk.specs.declared.disk.Disk.{Ghosts}
use Rattle.syn_machine.specs.Machine.{Status, Up, Halted, Down, after_device, compacted}
use Rattle.syn_machine.specs.Machine.{not_compacted, unarmed, with_image}
use Rattle.syn_machine.specs.MachineSteps.{full_generation}
use Rattle.syn_machine.specs.SideMachine.{SideMachine, side_layout, staging_after, with_journal}
use Rattle.syn_journal.specs.Endings.{ended}
use Rattle.syn_journal.specs.Machines.{compacting}
use Rattle.syn_model.specs.Refusal.{Refusal}
use Rattle.syn_model.specs.Refusal as why
use Rattle.syn_replica.specs.ErrorRefusals.{refusal_of}
use Rattle.syn_replica.specs.Machines.{IsMachine, Journal, ReadsDisk, StandsAs, WritesImage}
use Rattle.syn_replica.specs.Machines.{failed_reading, image_failed, image_refused, image_stopped}
use Rattle.syn_replica.specs.Machines.{image_written, read, stopped_after_image, stopped_reading}
use Rattle.syn_replica.specs.Machines.{unread}
use Rattle.syn_replica.specs.declared.error.ReplicaError.{ReplicaError}
use Rattle.syn_replica.specs.declared.replica.Replica.{Replica}
use Rattle.syn_shared.specs.Machines.{CompactsSide, IsMade, ReopensSide, Says, compacts, fails}
use Rattle.syn_shared.specs.Machines.{has_no_memory, opens, stops_within}

module _ {D : Type 0} {disk : Ghosts D} (pair : ℕ) (found left : Replica D disk) (agent : Agent)
    (machine : SideMachine) (is : IsOf pair found agent machine) where
  -- it goes on with its journal so, and what is staged stays
  pub on : (next : Journal) → IsMachine left pair next →
      IsOf pair left agent (with_journal machine next)
  on next now = record { keeps = now; staging = by next.status now.stands }
    where
      by : (status : Status) → StandsAs status left next.value →
          staging_after status machine.staging ≡ staging_of agent
      by Up stands = is.staging
      by Halted stands = is.staging
      by Down none = absurd none

  -- or its journal is as it was
  pub stays : IsMachine left pair machine.journal → IsOf pair left agent machine
  stays now = record { keeps = now; staging = is.staging }

  -- ---- a checkpoint

  pub compacts_ok : IsMade machine (full_generation machine.journal.generation) →
      WritesImage left pair machine.journal None → CompactsSide pair left agent machine (Ok tt)
  compacts_ok allowed (image_written arms up meets now) =
      let next = with_image (side_layout pair) machine.journal arms in
      compacts (Ok tt) next allowed (compacted arms meets)
      (subst (λ s. Says s tt (Ok tt)) (sym up) refl) (goes_on (on next now))
  compacts_ok allowed (stopped_after_image up meets now) =
      compacts (Ok tt) (compacting machine.journal Down unarmed 0) allowed
      (not_compacted Down unarmed 0 (inr refl) meets) tt (stops now)

  pub compacts_not : IsMade machine (full_generation machine.journal.generation) →
      (e : ReplicaError) → refusal_of e ≡ why.Device →
      WritesImage left pair machine.journal (Some why.Device) →
      CompactsSide pair left agent machine (Err e)
  compacts_not allowed e device (image_failed arms up meets now) =
      let next = compacting machine.journal Halted arms 1 in
      compacts (Err e) next allowed (not_compacted Halted arms 1 (inl refl) meets) device
      (goes_on (on next now))
  compacts_not allowed e device (image_stopped up meets now) =
      compacts (Err e) (compacting machine.journal Down unarmed 0) allowed
      (not_compacted Down unarmed 0 (inr refl) meets) tt (stops now)
  compacts_not allowed e device (image_refused refusal other now) = absurd (other refl)

  -- any other refusal leaves the machine
  pub keeps_on : (refusal : Refusal) → refusal ≢ why.Device →
      WritesImage left pair machine.journal (Some refusal) → IsOf pair left agent machine
  keeps_on refusal other (image_failed arms up meets now) = absurd (other refl)
  keeps_on refusal other (image_stopped up meets now) = absurd (other refl)
  keeps_on refusal other (image_refused same differs now) = stays now

  -- ---- another opening

  refused_so : (e : ReplicaError) (refusal : Refusal) → refusal_of e ≡ refusal →
      ReadsDisk left pair machine.journal (Some refusal) →
      ReopensSide pair left agent machine (Err e)
  refused_so e refusal so (stopped_reading ended calls meets now) =
      stops_within (Err e) calls 0 unarmed meets (stops now)
  refused_so e refusal so (failed_reading calls arms meets now) =
      fails e calls 1 arms so meets (on (after_device machine.journal Halted arms 1) now)
  refused_so e refusal so (unread calls arms some meets now) =
      has_no_memory e calls 0 arms so meets
      (on (after_device machine.journal machine.journal.status arms 0) now)

  pub reopen_world : (answer : Result Unit ReplicaError) →
      ReadsDisk left pair machine.journal (ended refusal_of answer) →
      ReopensSide pair left agent machine answer
  reopen_world (Ok x) (read calls next events some did opened now) =
      opens calls next events some did (on next now)
  reopen_world (Ok x) (stopped_reading refusal calls meets now) =
      stops_within (Ok tt) calls 0 unarmed meets (stops now)
  reopen_world (Err e) told = refused_so e (refusal_of e) refl told
