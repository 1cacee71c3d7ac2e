-- No machine counts more failures than its disk, step by step.
use Rattle.std.proofs.Common.{◌≡◌, arith, subst, sym}
use Rattle.syn_disk.specs.declared.disk.Disk.{Ghosts}
use Rattle.syn_machine.specs.Network.{Left, Right}
use Rattle.syn_runs.specs.World.{World as ModelWorld, At, Coordinator}
use Rattle.syn_journal.specs.Calls.{CountsNoMore}
use Rattle.syn_world.specs.Failures.{Counts, CountAlike, FailWithDisks, failures_on}
use Rattle.syn_world.specs.declared.world.Disks.{Disks}

-- nothing was done
pub counts_still : (model : ModelWorld) (counts : Counts) → FailWithDisks model model counts counts
counts_still model counts machine = omega arith

-- one after another
pub counts_more : (old middle new : ModelWorld) (before between now : Counts)
    → FailWithDisks old middle before between → FailWithDisks middle new between now
    → FailWithDisks old new before now
counts_more old middle new before between now first second machine =
    let one = first machine in
    let other = second machine in omega (arith, one, other)

-- from disks that have counted as many
pub counts_from : (old new : ModelWorld) (before was now then_ : Counts)
    → FailWithDisks old new was now → CountAlike was before → CountAlike then_ now
    → FailWithDisks old new before then_
counts_from old new before was now then_ counts first last machine =
    let one = counts machine in
    let same = first machine in
    let other = last machine in omega (arith, one, same, other)

module _ {D : Type 0} (disk : Ghosts D) (old new : ModelWorld) (was last : Disks D) where
  abbrev Goal : Disks D → Type 0
  Goal now = FailWithDisks old new (failures_on disk.failures was) (failures_on disk.failures now)

  -- one machine alone made calls
  pub left_counts : (left : D) → last ≡ record was { left = left }
      → CountsNoMore (disk.failures was.left) (disk.failures left) old.left.journal new.left.journal
      → new.right.journal.failures ≡ old.right.journal.failures
      → new.coordinator.journal.failures ≡ old.coordinator.journal.failures → Goal last
  left_counts left same counts right archive = subst Goal (sym same) by
    where
      by : Goal (record was { left = left })
      by (At Left) = counts
      by (At Right) = omega (arith, right)
      by Coordinator = omega (arith, archive)

  pub right_counts : (right : D) → last ≡ record was { right = right }
      → CountsNoMore (disk.failures was.right) (disk.failures right) old.right.journal
      new.right.journal
      → new.left.journal.failures ≡ old.left.journal.failures
      → new.coordinator.journal.failures ≡ old.coordinator.journal.failures → Goal last
  right_counts right same counts left archive = subst Goal (sym same) by
    where
      by : Goal (record was { right = right })
      by (At Left) = omega (arith, left)
      by (At Right) = counts
      by Coordinator = omega (arith, archive)

  pub archive_counts : (archive : D) → last ≡ record was { archive = archive }
      → CountsNoMore (disk.failures was.archive) (disk.failures archive) old.coordinator.journal
      new.coordinator.journal
      → new.left.journal.failures ≡ old.left.journal.failures
      → new.right.journal.failures ≡ old.right.journal.failures → Goal last
  archive_counts archive same counts left right = subst Goal (sym same) by
    where
      by : Goal (record was { archive = archive })
      by (At Left) = omega (arith, left)
      by (At Right) = omega (arith, right)
      by Coordinator = counts
