-- What an opening of a side's disk gives.
use Rattle.std.proofs.Common.{◌≡◌, ◌⊎◌, ◌∙◌, ◌-◌, ℕ, List, [], ◌∷◌, ◌++◌, Option, Some}
use Rattle.std.proofs.Common.{None, inl, inr, refl, sym, ap, subst, arith, length-append}
use Rattle.std.specs.Prelude.{length}
use Rattle.syn_agent.specs.Agents.{staging_of}
use Rattle.syn_agent.specs.declared.agent.Agent.{Agent}
use Rattle.syn_machine.specs.Machine.{Down, Opens}
use Rattle.syn_machine.specs.Machine.{Journaled, Layout, opened, recovered}
use Rattle.syn_machine.specs.MachineSteps.{OpensDown, no_memory_to_open, open_fails, opens}
use Rattle.syn_machine.specs.MachineSteps.{with_device}
use Rattle.syn_machine.specs.SideMachine.{SideMachine, side_kind, side_layout, with_journal}
use Rattle.syn_world.specs.Outcomes.{Acknowledges}
use Rattle.syn_world.specs.SideSteps.{Journal}
use Rattle.syn_world.specs.Sides.{CallIsStep, Gains, RestsAs, TriesWriting}
use Rattle.syn_world.specs.declared.outcome.SideOutcome.{SideOutcome}
use Rattle.syn_world.specs.declared.outcome.SideOutcome.TheVariants.{Refused}
use Rattle.syn_world.specs.declared.side.DownSide.{DownSide}
use Rattle.syn_world.specs.declared.side.SideHost.TheVariants as host
use Rattle.syn_journal.specs.Layout.{HasJournal, Value, bytes_left}
use Rattle.syn_disk.specs.declared.disk.Disk.{Ghosts}
use Rattle.syn_model.specs.Event.{Event}
use Rattle.syn_model.specs.History.{IsAllowed}
use Rattle.syn_model.specs.Path.{Bytes}
use Rattle.syn_model.specs.Refusal.{Refusal}
use Rattle.syn_model.specs.Spelling.{event_spelling}
use Rattle.syn_journal.specs.Endings.{CountsFailures}
use Rattle.syn_replica.specs.Keepings.{of_side}
use Rattle.syn_journal.specs.Machines.{RestsStill, device_failed, without_memory}
use Rattle.syn_refusal.specs.Refusals.{cause_of}
use Rattle.syn_refusal.specs.declared.refusal.Refusal.{Refusal as Code}
use Rattle.syn_replica.specs.Replica.{Stands, disk_of, generation_shown, left_shown}
use Rattle.syn_replica.specs.Replica.{position_shown}
use Rattle.syn_replica.specs.declared.replica.Replica.{Replica}
use Rattle.syn_world.proofs.SideLemmas.{failed_by, side_of}
use Rattle.syn_world.proofs.SideLemmas.{none_not_some, still_staged, up_not_down}
use Rattle.syn_replica.specs.Machines.{StandsAs, Starts}
use Rattle.syn_journal.specs.Meaning.{MeansAsKept}
use Rattle.syn_journal.proofs.DiskLemmas.{one_generation, one_value}

-- what an opening gives of the machine's events
pub gives : (pair : ℕ) (machine : Journal) (calls : ℕ) (new : Journal) (events : List Event)
    → Opens (side_layout pair) IsAllowed machine calls new events
    → ((events ≡ []) × (new.value ≡ machine.value))
    ⊎ ((event : Event) × (machine.writing ≡ Some event) × (events ≡ event ∷ [])
    × (new.value ≡ machine.value ++ event ∷ []))
gives pair machine calls _ _ (opened room generation arms meets left) = inl (refl, refl)
gives pair machine calls _ _ (recovered arms kept meets writing can) =
    inr (kept, writing, refl, refl)

-- no call of an opening that gives something failed
pub opens_counts : {V W : Type 0} (layout : Layout V W) (CanKeep : V → W → Type 0)
    (machine : Journaled V W) (calls : ℕ) (new : Journaled V W) (kept : List W)
    → Opens layout CanKeep machine calls new kept → new.failures ≡ machine.failures
opens_counts layout CanKeep machine calls _ _ (opened room generation arms meets left) = refl
opens_counts layout CanKeep machine calls _ _ (recovered arms kept meets writing can) = refl

-- and what is acknowledged of them
pub gained_so : (pair : ℕ) (machine : Journal) (calls : ℕ) (new : Journal) (events : List Event)
    (outcome : SideOutcome) (before now : ℕ) (tried : Option Bytes) → Gains outcome before now tried
    → ((event : Event) → machine.writing ≡ Some event → tried ≡ Some (event_spelling event))
    → before ≡ length machine.value → now ≡ length new.value
    → Opens (side_layout pair) IsAllowed machine calls new events → Acknowledges outcome events
gained_so pair machine calls new events outcome before now tried gains tries was is by_it =
    elim (gives pair machine calls new events by_it) as (λ _. Acknowledges outcome events) [
      | inl same ↦ subst (λ es. Acknowledges outcome es) (sym same.0) (gains.none
          (let k : now ≡ before = is ∙ (ap length same.1 ∙ sym was) in omega (arith, k)))
      | inr more ↦ subst (λ es. Acknowledges outcome es) (sym more.2) (gains.more more.0
          (let k : now ≡ length (machine.value ++ more.0 ∷ []) = is ∙ ap length more.3 in
          omega (arith, k, was, length-append machine.value (more.0 ∷ []))) (tries more.0 more.1))
    ]

-- A replica that was opened shows what the machine knows of its disk
pub knows : {D : Type 0} {disk : Ghosts D} (pair : ℕ) (replica : Replica D disk) (bytes : Bytes)
    (value : Value) (generation : ℕ) (new : Journal)
    → disk.seen (disk_of replica) ≡ bytes → HasJournal bytes value generation
    → MeansAsKept (of_side pair) new value generation → Stands replica new.value
    → (new.room ≡ left_shown replica) × (new.generation ≡ generation_shown replica)
knows {D} {disk} pair replica bytes value generation new same has means stands =
    let here = subst (λ b. HasJournal b stands.value (generation_shown replica)) same
    stands.runs.holds in
    let value_is = one_value bytes stands.value value (generation_shown replica) generation here
    has in (
      means.room ∙ (ap bytes_left (sym value_is)
          ∙ ap (λ n. 4194304 - 1 - n) (sym stands.runs.gate)),
      means.numbered ∙ sym (one_generation bytes stands.value value (generation_shown replica)
          generation here has),
    )

module _ {D : Type 0} (disk : Ghosts D) (pair : ℕ) (side : DownSide D) (machine : SideMachine)
    (rests : RestsAs disk.arms disk.may_leave pair side machine) where
  -- it is opened
  pub open_ok : (replica : Replica D disk) (agent : Agent) (outcome : SideOutcome)
      (tried : Option Bytes) → TriesWriting machine tried → Starts replica pair machine.journal →
      staging_of agent ≡ None → Gains outcome side.position (position_shown replica) tried →
      failed_by replica ≡ disk.failures side.disk →
      CallIsStep pair machine (disk.failures side.disk) (OpensDown (side_kind pair) machine)
      (record { side = host.Up (side_of replica agent); outcome = outcome })
  open_ok replica agent outcome tried tries starts is_new gains same =
      let next = with_journal machine starts.next in
      let stands : Stands replica starts.next.value =
      subst (λ s. StandsAs s replica starts.next.value) starts.opened.up starts.is.stands in
      record {
        next = next;
        events = starts.events;
        step = subst (λ r. OpensDown (side_kind pair) machine next starts.events r)
            (sym gains.refuses)
            (opens starts.calls starts.next starts.events rests.rests.down starts.opens);
        acknowledges = gained_so pair machine.journal starts.calls starts.next starts.events
            outcome side.position (position_shown replica) tried gains tries rests.position_is
            (ap (λ s. s.position) stands.remembers.standing) starts.opens;
        is = record {
          is = record {
            keeps = starts.is;
            staging = still_staged starts.next.status machine.staging
                (λ down. up_not_down (sym starts.opened.up ∙ down))
                ∙ (rests.unstaged ∙ sym is_new);
          };
          idle = λ _. starts.opened.idle;
          tries = λ told writing.
              absurd (none_not_some told (sym starts.opened.idle ∙ writing));
        };
        counts =
            omega (
              arith,
              same,
              opens_counts (side_layout pair) IsAllowed machine.journal starts.calls
                  starts.next starts.events starts.opens,
            );
      }

  -- it is not, and its disk comes back
  pub open_not : (back : D) (refusal : Code) (reason : Refusal) → cause_of refusal ≡ reason →
      CountsFailures (Some reason) (disk.failures side.disk) (disk.failures back) →
      RestsStill disk.arms disk.may_leave (of_side pair) back machine.journal reason →
      CallIsStep {D = D} {disk = disk} pair machine (disk.failures side.disk)
      (OpensDown (side_kind pair) machine) (record {
        side = host.Down (record { disk = back; position = side.position; tried = side.tried });
        outcome = Refused refusal;
      })
  open_not back refusal _ is_device more (device_failed calls now meets still) = record {
    next = with_device (side_kind pair) machine Down now 1;
    events = [];
    step = subst (λ r. OpensDown (side_kind pair) machine
        (with_device (side_kind pair) machine Down now 1) [] (r ∷ [])) (sym is_device)
        (open_fails calls now 1 rests.rests.down meets);
    acknowledges = refl;
    is = record {
      rests = still;
      unstaged = refl;
      position_is = rests.position_is;
      tries = rests.tries;
    };
    counts = omega (arith, more);
  }
  open_not back refusal _ is_memory same (without_memory still) = record {
    next = machine;
    events = [];
    step = subst (λ r. OpensDown (side_kind pair) machine machine [] (r ∷ [])) (sym is_memory)
        (no_memory_to_open rests.rests.down);
    acknowledges = refl;
    is = record {
      rests = still;
      unstaged = rests.unstaged;
      position_is = rests.position_is;
      tries = rests.tries;
    };
    counts = omega (arith, same);
  }
