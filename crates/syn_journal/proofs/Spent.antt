-- What a device saw of a call that was refused.
use Rattle.std.proofs.Common.{◌≡◌, ◌≢◌, ◌<◌, ℕ, false, None, Some, refl, subst, sym}
use Rattle.syn_disk.specs.Calls.{Breaks, BreaksSometime, MakesAtLeast}
use Rattle.syn_disk.specs.declared.disk.Disk.{Ghosts}
use Rattle.syn_model.specs.Refusal.{Refusal, Device}
use Rattle.syn_journal.specs.Endings.{BreaksIf, BreaksOrReads, CountsFailures, Grows, Reads}
use Rattle.syn_journal.specs.Endings.{Spends, is_device}

pub not_device : (why : Refusal) → why ≢ Device → is_device why ≡ false
not_device Device other = absurd (other refl)
not_device why other = refl

-- a failed call was counted where 9 was answered, and none where anything else was
module _ (why : Refusal) (old new : ℕ) where
  pub counted : why ≡ Device → CountsFailures (Some why) old new → old < new
  counted is counts = subst (λ w. CountsFailures (Some w) old new) is counts

  pub none_counted : why ≢ Device → CountsFailures (Some why) old new → new ≡ old
  none_counted other counts = subst (λ b. Grows b old new) (not_device why other) counts

module _ {D : Type 0} {disk : Ghosts D} (why : Refusal) (old new : D) where
  -- no device call failed, and so none was made
  pub nothing_spent : (calls : ℕ) → why ≢ Device → Spends disk calls (Some why) old new →
      (disk.failures new ≡ disk.failures old) × (disk.arms new ≡ disk.arms old)
  nothing_spent calls other spends = (
    none_counted why _ _ other spends.failures,
    subst (λ b. BreaksIf b calls (disk.arms old) (disk.arms new)) (not_device why other)
        spends.arms,
  )

  -- the last of them failed
  pub broke_off : (calls : ℕ) → why ≡ Device → Spends disk calls (Some why) old new →
      (disk.failures old < disk.failures new) × Breaks calls (disk.arms old) (disk.arms new)
  broke_off calls is spends =
      let broke = subst (λ w. Spends disk calls (Some w) old new) is spends in
      (broke.failures, broke.arms)

  -- an opening read all, and was refused for something else
  pub read_all : why ≢ Device → Reads disk (Some why) old new →
      (disk.failures new ≡ disk.failures old) × MakesAtLeast 1 (disk.arms old) (disk.arms new)
  read_all other reads = (
    none_counted why _ _ other reads.failures,
    subst (λ b. BreaksOrReads b 1 (disk.arms old) (disk.arms new)) (not_device why other)
        reads.arms,
  )

  -- or the last of its reads failed
  pub read_broke : why ≡ Device → Reads disk (Some why) old new →
      (disk.failures old < disk.failures new) × BreaksSometime (disk.arms old) (disk.arms new)
  read_broke is reads =
      let broke = subst (λ w. Reads disk (Some w) old new) is reads in
      (broke.failures, broke.arms)

-- what was read is read too where anything but 9 is answered after it
pub read_on : {D : Type 0} {disk : Ghosts D} (why : Refusal) → is_device why ≡ false →
    (old new : D) → Reads disk None old new → Reads disk (Some why) old new
read_on {D} {disk} why other old new reads = record {
  untouched = reads.untouched;
  failures =
      subst (λ b. Grows b (disk.failures old) (disk.failures new)) (sym other) reads.failures;
  arms =
      subst (λ b. BreaksOrReads b 1 (disk.arms old) (disk.arms new)) (sym other) reads.arms;
}
