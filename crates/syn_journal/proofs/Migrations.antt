-- An opening and then a checkpoint, as one migration.
use Rattle.std.proofs.Common.{◌≡◌, ◌⊎◌, ◌≤◌, ◌+◌, ◌∙◌, ℕ, Bool, true, false, List, inl}
use Rattle.std.proofs.Common.{inr, ⊎_elim, sym, ap, subst, Option, Some, None, Result, Ok, arith}
use Rattle.std.proofs.Common.{true≢false}
use Rattle.std.specs.Result.{result_ok}
use Rattle.std.proofs.lemmas.Option.{same_Some}
use Rattle.syn_disk.proofs.LeftLemmas.{leaves_weaker}
use Rattle.syn_disk.specs.Arms.{Arms}
use Rattle.syn_disk.specs.Calls.{Makes, MakesAtLeast}
use Rattle.syn_disk.specs.Stops.{LeavesOnly, Untouched}
use Rattle.syn_disk.specs.declared.disk.Disk.{Ghosts}
use Rattle.syn_journal.proofs.Calls.{makes_more}
use Rattle.syn_journal.specs.Journal as journal
use Rattle.syn_journal.specs.Layout.{Fault, HasJournal, IsBeforeOrAfter, Value, generation_at}
use Rattle.syn_journal.specs.Layout.{image_alone}
use Rattle.syn_journal.specs.Refusals.{refusal_of}
use Rattle.syn_journal.specs.declared.error.JournalError.{JournalError}
use Rattle.syn_journal.specs.declared.error.JournalError.TheVariants as by_journal
use Rattle.syn_journal.specs.declared.journal.Journal.{Journal}
use Rattle.syn_model.specs.Refusal as why
use Rattle.syn_model.specs.Refusal.{Refusal}
use Rattle.syn_journal.specs.Endings.{BreaksIf, BreaksOrReads, CountsFailures, MakesOrBreaks}
use Rattle.syn_journal.specs.Endings.{Reads, is_device}
use Rattle.syn_journal.specs.Journaled.{Compacts, IsOfCheckpoint, Opened, disk_of, generation_of}
use Rattle.syn_journal.specs.Journaled.{journal_of, state_of}
use Rattle.syn_journal.specs.Migrations.{Holds, IsUnwritten, Migrates, MigratesOrBreaks}
use Rattle.syn_journal.specs.Migrations.{NotWritten}
use Rattle.syn_journal.specs.declared.journaled.Journaled.{Journaled}

-- ---- what stops leave, and device calls

module _ {D : Type 0} (moment : D → ℕ) (left_since : D → ℕ → List ℕ → Type 0) where
  -- one run, and then another
  then_leaves : (old mid new : D) (P Q : List ℕ → Type 0) →
      LeavesOnly moment left_since old mid P → LeavesOnly moment left_since mid new Q →
      LeavesOnly moment left_since old new (λ c. P c ⊎ Q c)
  then_leaves old mid new P Q first second = record {
    later = omega (arith, first.later, second.later);
    each =
        λ c left. ⊎_elim (λ was. inl (first.each c was)) (λ now. inr now)
        (second.before (moment old) c first.later left);
    before =
        λ t c le left. ⊎_elim
        (λ was. ⊎_elim (λ past. inl past) (λ now. inr (inl now)) (first.before t c le was))
        (λ now. inr (inr now)) (second.before t c (omega (arith, le, first.later)) left);
  }

  -- where nothing was written, nothing else is left
  pub only_read : (seen : D → List ℕ) (may_leave : D → List ℕ → Type 0) (old new : D)
      (P : List ℕ → Type 0) → Untouched seen may_leave moment left_since old new →
      LeavesOnly moment left_since old new (λ bytes. may_leave old bytes ⊎ P bytes)
  only_read seen may_leave old new P read =
      leaves_weaker moment left_since old new (may_leave old) _ (λ bytes was. inl was)
      read.any_moment

-- reads, and then the device calls of a checkpoint
all_made : (old mid new : Arms) → MakesAtLeast 1 old mid → Makes 6 mid new →
    MakesAtLeast 7 old new
all_made old mid new first second = record {
  calls = first.calls + 6;
  enough = omega (arith, first.enough);
  made = makes_more first.calls 6 old mid new first.made second;
}

one_broke : (device : Bool) (old mid new : Arms) → MakesAtLeast 1 old mid →
    BreaksIf device 6 mid new → BreaksOrReads device 1 old new
one_broke true old mid new first second = (
  first.calls + 6,
  record {
    made = first.calls + second.made;
    few = omega (arith, second.few);
    at = second.at;
    before = makes_more first.calls second.made old mid second.at first.made second.before;
    after = second.after;
  },
)
one_broke false old mid new first second =
    subst (λ arms. MakesAtLeast 1 old arms) (sym second) first

pub counted : (ended : Option Refusal) (old mid new : Arms) → MakesAtLeast 1 old mid →
    MakesOrBreaks 6 ended mid new → MigratesOrBreaks ended old new
counted None old mid new first second = all_made old mid new first second
counted (Some refusal) old mid new first second =
    one_broke (is_device refusal) old mid new first second

pub more_made : (m n k : ℕ) (old mid new : Arms) → MakesAtLeast m old mid → MakesAtLeast n mid new →
    k ≤ m + n → MakesAtLeast k old new
more_made m n k old mid new first second enough = record {
  calls = first.calls + second.calls;
  enough = omega (arith, first.enough, second.enough, enough);
  made = makes_more first.calls second.calls old mid new first.made second.made;
}

broken_after : (device : Bool) (old mid new : Arms) → MakesAtLeast 1 old mid →
    BreaksOrReads device 1 mid new → BreaksOrReads device 1 old new
broken_after true old mid new first second = (
  first.calls + second.0,
  record {
    made = first.calls + second.1.made;
    few = omega (arith, second.1.few);
    at = second.1.at;
    before = makes_more first.calls second.1.made old mid second.1.at first.made second.1.before;
    after = second.1.after;
  },
)
broken_after false old mid new first second =
    more_made 1 1 1 old mid new first second (omega arith)

-- reads, and then the device calls of a migration
counted_after : (ended : Option Refusal) (old mid new : Arms) → MakesAtLeast 1 old mid →
    MigratesOrBreaks ended mid new → MigratesOrBreaks ended old new
counted_after None old mid new first second =
    more_made 1 7 7 old mid new first second (omega arith)
counted_after (Some refusal) old mid new first second =
    broken_after (is_device refusal) old mid new first second

-- ---- one value and one generation

same_Ok : {X : Type 0} (r : Result X Fault) (a b : X) → r ≡ Ok a → r ≡ Ok b → a ≡ b
same_Ok r a b x y = same_Some a b (ap result_ok (sym x ∙ y))

pub one_journal : (bytes : List ℕ) (v w : Value) (m n : ℕ) → HasJournal bytes v m →
    HasJournal bytes w n → (v ≡ w) × (m ≡ n)
one_journal bytes v w m n h k =
    let half : h.half ≡ k.half = same_Ok _ h.half k.half h.is_current k.is_current in (
      same_Ok _ v w h.means k.means,
      sym h.numbered ∙ (ap (λ half. generation_at bytes half) half ∙ k.numbered),
    )

-- what holds of the three holds of equal ones
all_three : {S : Type 0} (Q : Value → ℕ → S → Type 0) (v w : Value) (m n : ℕ) (s t : S) → v ≡ w →
    m ≡ n → s ≡ t → Q w n t → Q v m s
all_three Q v w m n s t value number state q =
    subst (λ x. Q x m s) (sym value)
    (subst (λ x. Q w x s) (sym number) (subst (λ x. Q w n x) (sym state) q))

-- ---- a migration

module _ {D S : Type 0} {disk : Ghosts D} (pair : S → ℕ)
    (gives : List ℕ → List (List ℕ) → S → Type 0) (spelling : S → List ℕ) (old : D)
    (machine : Journaled D S disk) (opened : Opened pair gives (disk.seen old) machine)
    (read : Reads disk None old (disk_of machine)) where
  -- the journal on the disk is that of the machine
  pub held : Holds pair gives (disk.seen old) opened.value (generation_of machine)
      (state_of machine)
  held = record {
    journal = subst (λ bytes. HasJournal bytes opened.value (generation_of machine))
        read.untouched.same opened.runs.holds;
    fits = opened.fits;
    given = opened.given;
  }

  -- and so is all that it holds
  by_machine : (Q : Value → ℕ → S → Type 0) →
      Q opened.value (generation_of machine) (state_of machine) →
      (value : Value) (generation : ℕ) (state : S) →
      Holds pair gives (disk.seen old) value generation state → Q value generation state
  by_machine Q q value generation state h =
      let same = one_journal (disk.seen old) value opened.value generation (generation_of machine)
      h.journal held.journal in
      all_three Q value opened.value generation (generation_of machine) state (state_of machine)
      same.0 same.1 (opened.one state h.fits (record {
        value = value;
        means = h.journal.means;
        given = h.given;
      })) q

  pub running : ¬ journal.IsHalted (journal_of machine)
  running halted = true≢false (sym halted ∙ opened.runs.running)

  module _ (new : Journal D disk) (ended : Option Refusal)
      (compacts : Compacts (journal_of machine) new (spelling (state_of machine)) ended) where
    unchanged : (ended ≡ None) ⊎ ((ended ≡ Some why.Device) ⊎ Untouched disk.seen disk.may_leave
        disk.moment disk.left_since old (journal.disk_of new))
    unchanged = elim compacts.unchanged as (λ _. (ended ≡ None) ⊎ ((ended ≡ Some why.Device)
        ⊎ Untouched disk.seen disk.may_leave disk.moment disk.left_since old
        (journal.disk_of new))) [
          | inl none ↦ inl none
          | inr (inl device) ↦ inr (inl device)
          | inr (inr same) ↦ inr (inr (subst (λ j. Untouched disk.seen disk.may_leave disk.moment
              disk.left_since old (journal.disk_of j)) (sym same) read.untouched))
        ]

    pub migrates : ((d : D) → disk.may_leave d (disk.seen d)) →
        ((d : D) (t : ℕ) (c : List ℕ) → t ≤ disk.moment d → disk.may_leave d c →
        disk.left_since d t c) →
        Migrates disk pair gives spelling ended old (journal.disk_of new)
    migrates stays counts = record {
      any_moment = by_machine (λ value generation state. LeavesOnly disk.moment disk.left_since old
          (journal.disk_of new) (λ bytes. disk.may_leave old bytes
          ⊎ IsBeforeOrAfter value generation (image_alone (spelling state)) (generation + 1) bytes))
          (then_leaves disk.moment disk.left_since old (disk_of machine) (journal.disk_of new)
          (disk.may_leave old) after read.untouched.any_moment written);
      seen = by_machine (λ value generation state. IsBeforeOrAfter value generation
          (image_alone (spelling state)) (generation + 1) (disk.seen (journal.disk_of new)))
          (written.each (disk.seen (journal.disk_of new)) (counts (journal.disk_of new)
          (disk.moment (disk_of machine)) (disk.seen (journal.disk_of new)) written.later
          (stays (journal.disk_of new))));
      unchanged = unchanged;
      failures = subst (λ n. CountsFailures ended n (disk.failures (journal.disk_of new)))
          read.failures compacts.device.failures;
      arms = counted ended (disk.arms old) (disk.arms (disk_of machine))
          (disk.arms (journal.disk_of new)) read.arms compacts.device.arms;
    }
      where
        after : List ℕ → Type 0
        after bytes = IsBeforeOrAfter opened.value (generation_of machine)
            (image_alone (spelling (state_of machine))) (generation_of machine + 1) bytes

        written : LeavesOnly disk.moment disk.left_since (disk_of machine) (journal.disk_of new)
            after
        written = compacts.any_moment opened.value opened.runs

    pub unwritten : ended ≡ Some why.Full → IsUnwritten pair gives spelling (disk.seen old)
    unwritten full = record {
      value = opened.value;
      generation = generation_of machine;
      state = state_of machine;
      held = held;
      cause = compacts.full full;
    }

    pub not_written : (by : JournalError) → ended ≡ Some (refusal_of by) →
        NotWritten pair gives spelling by (disk.seen old)
    not_written by_journal.Full is = unwritten is
    not_written by_journal.Device is = tt
    not_written by_journal.Memory is = tt
    not_written by_journal.Halted is = absurd (running (compacts.halted.0 is))
    not_written by_journal.JournalFull is = absurd (subst IsOfCheckpoint is compacts.refusals)
    not_written by_journal.NoImage is = absurd (subst IsOfCheckpoint is compacts.refusals)
    not_written by_journal.Damaged is = absurd (subst IsOfCheckpoint is compacts.refusals)

-- reads of another opening before it are part of a migration
pub after_reads : {D S : Type 0} {disk : Ghosts D} (pair : S → ℕ)
    (gives : List ℕ → List (List ℕ) → S → Type 0) (spelling : S → List ℕ) (ended : Option Refusal)
    (old mid new : D) → Untouched disk.seen disk.may_leave disk.moment disk.left_since old mid →
    disk.failures mid ≡ disk.failures old → MakesAtLeast 1 (disk.arms old) (disk.arms mid) →
    Migrates disk pair gives spelling ended mid new →
    Migrates disk pair gives spelling ended old new
after_reads {disk = disk} pair gives spelling ended old mid new read same made migrates = record {
  any_moment = λ value generation state held.
      runs_on (IsBeforeOrAfter value generation (image_alone (spelling state)) (generation + 1))
      (migrates.any_moment value generation state (again value generation state held));
  seen = λ value generation state held.
      migrates.seen value generation state (again value generation state held);
  unchanged = elim migrates.unchanged as (λ _. (ended ≡ None) ⊎ ((ended ≡ Some why.Device)
      ⊎ Untouched disk.seen disk.may_leave disk.moment disk.left_since old new)) [
        | inl none ↦ inl none
        | inr (inl device) ↦ inr (inl device)
        | inr (inr more) ↦ inr (inr (record {
          same = more.same ∙ read.same;
          nothing_new = λ c left. read.nothing_new c (more.nothing_new c left);
          any_moment = leaves_weaker disk.moment disk.left_since old new _ (disk.may_leave old)
              (λ c left. ⊎_elim (λ was. was) (λ now. read.nothing_new c now) left)
              (then_leaves disk.moment disk.left_since old mid new (disk.may_leave old)
              (disk.may_leave mid) read.any_moment more.any_moment);
        }))
      ];
  failures = subst (λ n. CountsFailures ended n (disk.failures new)) same migrates.failures;
  arms = counted_after ended (disk.arms old) (disk.arms mid) (disk.arms new) made migrates.arms;
}
  where
    again : (value : Value) (generation : ℕ) (state : _) →
        Holds pair gives (disk.seen old) value generation state →
        Holds pair gives (disk.seen mid) value generation state
    again value generation state held =
        subst (λ bytes. Holds pair gives bytes value generation state) (sym read.same) held

    runs_on : (P : List ℕ → Type 0) →
        LeavesOnly disk.moment disk.left_since mid new (λ bytes. disk.may_leave mid bytes ⊎ P
        bytes) → LeavesOnly disk.moment disk.left_since old new (λ bytes. disk.may_leave old bytes
        ⊎ P bytes)
    runs_on P later = leaves_weaker disk.moment disk.left_since old new _ _
        (λ c left. ⊎_elim (λ was. inl was)
        (λ now. ⊎_elim (λ mid. inl (read.nothing_new c mid)) (λ p. inr p) now) left)
        (then_leaves disk.moment disk.left_since old mid new (disk.may_leave old)
        (λ bytes. disk.may_leave mid bytes ⊎ P bytes) read.any_moment later)
