-- What one machine does, a side or the coordinator: a call that may be refused, a checkpoint, an
-- opening, and what is armed at its device. It is said here once, and the world lifts it.
use Rattle.std.specs.Prelude.{ℕ, zero, suc, Bool, true, false, nat_le, ◌≤◌, ◌≡◌, ◌≢◌, List, [], ◌∷◌}
use Rattle.std.specs.Prelude.{◌++◌, Some, None}
use Rattle.syn_model.specs.Refusal.{Refusal, Device, Full, Memory, Cause, first_cause}
use Rattle.syn_model.specs.Refusal as why
use Rattle.syn_model.specs.Limits.{greatest}
use Rattle.syn_machine.specs.Machine.{Status, Up, Halted, Down, Arms, unarmed, Meets, Journaled}
use Rattle.syn_machine.specs.Machine.{Layout, after_device, Compacts, Opens}

-- A kind of machine: how its journal is written and what may be kept in it, its journal, what the
-- machine is once that is left so, and what a call gives that acknowledges these records
pub record Kind (M A V W : Type 0) : Type 1 where
  pub layout : Layout V W
  pub CanKeep : V → W → Type 0
  pub journal_of : M → Journaled V W
  pub with_journal : M → Journaled V W → M
  pub acknowledging : List W → A

-- what a call may leave of the machine, what it gives, and what it is refused with
abbrev pub Effect : Type 0 → Type 0 → Type 1
Effect M A = M → A → List Refusal → Type 0

pub data MachineCall : Type 0 where
  Checkpoint : MachineCall
  Fail : (call : ℕ) → MachineCall
  Stop : (calls : ℕ) → MachineCall
  Open : MachineCall
  Reopen : MachineCall

abbrev pub is_halted : Status → Bool
is_halted Halted = true
is_halted _ = false

-- a call that leaves the machine halted is refused so
abbrev pub refused_by : Status → List Refusal
refused_by Up = []
refused_by Halted = Device ∷ []
refused_by Down = []

-- a halted machine refuses a call first, and then the causes
abbrev pub causes_at : Status → List Cause → List Cause
causes_at status causes = (is_halted status, why.Halted) ∷ causes

-- why a checkpoint is refused
abbrev pub full_generation : ℕ → List Cause
full_generation generation = (nat_le greatest generation, Full) ∷ []

module _ {M A V W : Type 0} (kind : Kind M A V W) (machine : M) where
  abbrev journal : Journaled V W
  journal = kind.journal_of machine

  abbrev nothing : A
  nothing = kind.acknowledging []

  -- its device is left so, and so many of its calls failed
  abbrev pub with_device : Status → Arms → ℕ → M
  with_device status arms failed =
      kind.with_journal machine (after_device journal status arms failed)

  -- on a machine that is down nothing is done
  pub data UnlessDown (Done : Effect M A) : M → A → List Refusal → Type 0 where
    is_down : journal.status ≡ Down → UnlessDown Done machine nothing []
    is_done : (next : M) (given : A) (refusals : List Refusal) → journal.status ≢ Down →
        Done next given refusals → UnlessDown Done next given refusals

  -- a call is refused with the first of its causes, or for lack of memory where none stands, and
  -- changes nothing; or no cause stands, and it is made
  pub data Called (causes : List Cause) (Made : M → A → Type 0) : M → A → List Refusal →
      Type 0 where
    refuses : (reason : Refusal) →
        first_cause (causes_at journal.status causes ++ (true, Memory) ∷ []) ≡ Some reason →
        Called causes Made machine nothing (reason ∷ [])
    makes : (next : M) (given : A) → first_cause (causes_at journal.status causes) ≡ None →
        Made next given →
        Called causes Made next given (refused_by (kind.journal_of next).status)

  abbrev pub Calls : List Cause → (M → A → Type 0) → Effect M A
  Calls causes Made = UnlessDown (Called causes Made)

  -- a checkpoint that is made
  pub data Checkpoints : M → A → Type 0 where
    checkpoints : (new : Journaled V W) → Compacts kind.layout journal new →
        Checkpoints (kind.with_journal machine new) nothing

  -- a machine that is down is opened, and stays down where that fails
  pub data OpensDown : M → A → List Refusal → Type 0 where
    is_open : journal.status ≢ Down → OpensDown machine nothing []
    opens : (calls : ℕ) (new : Journaled V W) (kept : List W) → journal.status ≡ Down →
        Opens kind.layout kind.CanKeep journal calls new kept →
        OpensDown (kind.with_journal machine new) (kind.acknowledging kept) []
    open_fails : (calls : ℕ) (arms : Arms) (failed : ℕ) → journal.status ≡ Down →
        Meets journal.arms calls Halted arms failed →
        OpensDown (with_device Down arms failed) nothing (Device ∷ [])
    no_memory_to_open : journal.status ≡ Down → OpensDown machine nothing (Memory ∷ [])

  -- A machine that is not down opens its disk again by at least one device call. One that fails
  -- halts it, and one after which it stops leaves it down
  pub data Reopens : M → A → List Refusal → Type 0 where
    reopens : (calls : ℕ) (new : Journaled V W) (kept : List W) → 1 ≤ calls →
        Opens kind.layout kind.CanKeep journal calls new kept →
        Reopens (kind.with_journal machine new) (kind.acknowledging kept) []
    reopen_fails : (calls : ℕ) (arms : Arms) (failed : ℕ) →
        Meets journal.arms calls Halted arms failed →
        Reopens (with_device Halted arms failed) nothing (Device ∷ [])
    reopen_is_cut : (calls : ℕ) (arms : Arms) (failed : ℕ) →
        Meets journal.arms calls Down arms failed →
        Reopens (with_device Down arms failed) nothing []
    no_memory_to_reopen : (calls : ℕ) (arms : Arms) (failed : ℕ) →
        Meets journal.arms calls Up arms failed →
        Reopens (with_device journal.status arms failed) nothing (Memory ∷ [])

  -- no device call is made, and this is its status and what is armed at it then
  pub data Arming (status : Status) (arms : Arms) : M → A → List Refusal → Type 0 where
    arming : Arming status arms (with_device status arms 0) nothing []

  abbrev pub Does : MachineCall → Effect M A
  Does Checkpoint = Calls (full_generation journal.generation) Checkpoints
  Does (Fail call) = UnlessDown (Arming journal.status (record journal.arms { fail = call }))
  Does (Stop zero) = UnlessDown (Arming Down unarmed)
  Does (Stop (suc calls)) =
      UnlessDown (Arming journal.status (record journal.arms { stop = suc calls }))
  Does Open = OpensDown
  Does Reopen = UnlessDown Reopens
