-- What a machine's disk may mean: what the machine keeps, or that with the one change that it was
-- making.
use Rattle.std.specs.Prelude.{ℕ, suc, true, false, None, Some, ◌-◌, ◌≡◌, List}
use Rattle.syn_model.specs.Path.{Bytes}
use Rattle.syn_journal.specs.Layout.{Value, HasJournal, image_alone, bytes_left}
use Rattle.syn_machine.specs.Machine.{Journaled, Layout, Arms, Opens, Up, record_size}

-- How a kind of machine keeps its value: how its journal is written, what may be added to a value,
-- and which image and payloads stand for one
pub record Keeping (V W : Type 0) : Type 1 where
  pub layout : Layout V W
  pub CanAdd : V → W → Type 0
  pub Stands : Bytes → List Bytes → V → Type 0

-- the disk stands for the value, whatever room and generation its journal has
pub record IsDiskOf {V W : Type 0} (keeping : Keeping V W) (bytes : Bytes) (kept : V) : Type 0 where
  pub value : Value
  pub generation : ℕ
  pub journal : HasJournal bytes value generation
  pub stands : keeping.Stands value.image value.payloads kept

-- The journal stands for the value that the machine keeps, and has as much room and the generation
-- that the machine knows
pub record MeansAsKept {V W : Type 0} (keeping : Keeping V W) (machine : Journaled V W)
    (value : Value)
    (generation : ℕ) : Type 0 where
  pub stands : keeping.Stands value.image value.payloads machine.value
  pub room : machine.room ≡ bytes_left value
  pub numbered : machine.generation ≡ generation

-- The journal also has the record that was being written as the machine stopped or its device
-- failed
pub record MeansWithRecord {V W : Type 0} (keeping : Keeping V W) (machine : Journaled V W)
    (value : Value)
    (generation : ℕ) : Type 0 where
  pub added : W
  pub writing : machine.writing ≡ Some added
  pub can_add : keeping.CanAdd machine.value added
  pub stands : keeping.Stands value.image value.payloads (keeping.layout.after machine.value added)
  pub room : machine.room - record_size (keeping.layout.payload added) ≡ bytes_left value
  pub numbered : machine.generation ≡ generation

-- The journal has the image alone, as the checkpoint that was under way leaves it
pub record MeansCompacted {V W : Type 0} (keeping : Keeping V W) (machine : Journaled V W)
    (value : Value)
    (generation : ℕ) : Type 0 where
  pub compacting : machine.compacting ≡ true
  pub stands : keeping.Stands value.image value.payloads machine.value
  pub alone : value ≡ image_alone (keeping.layout.image machine.value)
  pub numbered : suc machine.generation ≡ generation

pub data MayMean {V W : Type 0} (keeping : Keeping V W) (machine : Journaled V W) (value : Value)
    (generation : ℕ) : Type 0 where
  as_kept : MeansAsKept keeping machine value generation → MayMean keeping machine value generation
  with_record : MeansWithRecord keeping machine value generation →
      MayMean keeping machine value generation
  compacted : MeansCompacted keeping machine value generation →
      MayMean keeping machine value generation

-- the bytes of a disk may be those of the machine
pub record MayBeOf {V W : Type 0} (keeping : Keeping V W) (machine : Journaled V W)
    (bytes : Bytes) :
    Type 0 where
  pub value : Value
  pub generation : ℕ
  pub journal : HasJournal bytes value generation
  pub means : MayMean keeping machine value generation

-- the bytes of a disk are those of the machine, with no change under way
pub record IsOf {V W : Type 0} (keeping : Keeping V W) (machine : Journaled V W)
    (bytes : Bytes) : Type 0 where
  pub value : Value
  pub generation : ℕ
  pub journal : HasJournal bytes value generation
  pub means : MeansAsKept keeping machine value generation

-- A machine that was just opened: it is up, and makes no change
pub record IsOpened {V W : Type 0} (machine : Journaled V W) : Type 0 where
  pub up : machine.status ≡ Up
  pub idle : machine.writing ≡ None
  pub settled : machine.compacting ≡ false

-- What an opening by so many device calls gives: the model's opening allows it, and the machine
-- that it gives knows what the journal on the disk has. These are the arms that are then still to
-- come
pub record OpensTo {V W : Type 0} (keeping : Keeping V W) (machine : Journaled V W) (calls : ℕ)
    (arms : Arms)
    (value : Value) (generation : ℕ) : Type 0 where
  pub new : Journaled V W
  pub added : List W
  pub opens : Opens keeping.layout keeping.CanAdd machine calls new added
  pub opened : IsOpened new
  pub armed : new.arms ≡ arms
  pub means : MeansAsKept keeping new value generation
