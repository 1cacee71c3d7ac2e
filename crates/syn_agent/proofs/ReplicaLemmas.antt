-- A replica whose journal and memory stay stands for what it stood for.
use Rattle.std.proofs.Common.{◌∙◌, refl, subst, sym}
use Rattle.syn_agent.specs.Answers.{IsUnchanged}
use Rattle.syn_disk.specs.declared.disk.Disk.{Ghosts}
use Rattle.syn_journal.specs.Journal as journal
use Rattle.syn_model.specs.History.{History}
use Rattle.syn_model.specs.Image.{StandsFor}
use Rattle.syn_replica.specs.Replica.{Stands}
use Rattle.syn_replica.specs.declared.replica.Replica.{Replica}

pub stays : {D : Type 0} {disk : Ghosts D} (old new : Replica D disk) (history : History)
    → Stands old history → IsUnchanged old new → Stands new history
stays old new history stands same = record {
  remembers = record {
    lawful = stands.remembers.lawful;
    standing = same.memory.standing ∙ stands.remembers.standing;
  };
  value = stands.value;
  runs = subst (λ j. journal.Stands j stands.value) (sym same.journal) stands.runs;
  means = subst (λ p. StandsFor p stands.value.image stands.value.payloads history)
      (sym same.memory.pair) stands.means;
}

-- one that nobody touches stays
pub as_was : {D : Type 0} {disk : Ghosts D} (replica : Replica D disk)
    → IsUnchanged replica replica
as_was replica =
    record { memory = record { pair = refl; standing = refl }; journal = refl; tried = refl }
