-- How a replica goes on by its calls.
use Rattle.std.proofs.Common.{◌≡◌, ◌≤◌, ◌⊎◌, ◌+◌, ℕ, List, [], ◌∷◌, ◌++◌, Option, Some, sym, ◌∙◌}
use Rattle.std.proofs.Common.{subst, inl, inr, le_refl, arith}
use mathlib.Core.List.{append-nil}
use Rattle.syn_disk.specs.declared.disk.Disk.{Ghosts}
use Rattle.syn_model.specs.Event.{Event}
use Rattle.syn_model.specs.Standing.{Standing}
use Rattle.syn_model.specs.History.{History}
use Rattle.syn_model.specs.Image.{StandsFor}
use Rattle.syn_model.specs.Path.{Bytes}
use Rattle.syn_model.specs.Spelling.{event_spelling}
use Rattle.syn_replica.specs.Disks.{DiskStands}
use Rattle.syn_journal.specs.Journal as journal
use Rattle.syn_replica.specs.Replica.{pair_of, standing_shown, position_shown, journal_of, disk_of}
use Rattle.syn_replica.specs.Replica.{tried_shown, IsHalted, Remembers, Stands, KeepsBeforeOrAfter}
use Rattle.syn_replica.specs.Replica.{KeepsOrCompacts}
use Rattle.syn_replica.specs.Growth.{IsCutOff, KeepsUp, GoesOn, IsGrown, StandsOrTried}
use Rattle.syn_replica.specs.declared.replica.Replica.{Replica}
use Rattle.syn_replica.specs.Growing.{remembered, goes_on, stays, all_kept}
use Rattle.syn_replica.proofs.StandLemmas.{keeps_now, keeps_stands}

pub one_more : (n : ℕ) → n ≤ n + 1
one_more n = omega arith

module _ {D : Type 0} {disk : Ghosts D} where
  remembers_same : (old new : Replica D disk) (history : History) →
      standing_shown new ≡ standing_shown old → Remembers old history → Remembers new history
  remembers_same old new history same r = record { lawful = r.lawful; standing = same ∙ r.standing }

  same_position : (old new : Replica D disk) → standing_shown new ≡ standing_shown old →
      position_shown old ≤ position_shown new
  same_position old new same =
      subst (λ (s : Standing). position_shown old ≤ s.position) (sym same)
      (le_refl (position_shown old))

  disk_same : (old new : Replica D disk) (history : History) → pair_of new ≡ pair_of old →
      disk.seen (disk_of new) ≡ disk.seen (disk_of old) →
      DiskStands (pair_of old) (disk.seen (disk_of old)) history →
      DiskStands (pair_of new) (disk.seen (disk_of new)) history
  disk_same old new history pair seen d =
      subst (λ (n : ℕ). DiskStands n (disk.seen (disk_of new)) history) (sym pair)
      (subst (λ (bytes : List ℕ). DiskStands (pair_of old) bytes history) (sym seen) d)

  -- its disk stands for the history, or for that with the event that was tried
  pub disk_keeps : (replica : Replica D disk) (history : History) → KeepsUp replica history →
      StandsOrTried (pair_of replica) (tried_shown replica) (disk.seen (disk_of replica)) history
  disk_keeps replica history (inl s) = inl (keeps_stands (keeps_now replica history s))
  disk_keeps replica history (inr c) = c.keeps

  -- nothing was written
  pub unmoved : (old new : Replica D disk) → pair_of new ≡ pair_of old →
      standing_shown new ≡ standing_shown old → tried_shown new ≡ tried_shown old →
      disk.seen (disk_of new) ≡ disk.seen (disk_of old) → (IsHalted old → IsHalted new) →
      ((history : History) → Stands old history → IsHalted new ⊎ Stands new history) →
      IsGrown old new
  unmoved old new pair same tried seen halted stands =
      all_kept old new (record { pair = pair; position = same_position old new same; each = each })
    where
      keeps : (history : History) → KeepsUp old history →
          StandsOrTried (pair_of new) (tried_shown new) (disk.seen (disk_of new)) history
      keeps history k = elim (disk_keeps old history k) [
        | inl d ↦ inl (disk_same old new history pair seen d)
        | inr d ↦ inr (d.0, tried ∙ d.1, disk_same old new (history ++ d.0 ∷ []) pair seen d.2)
      ]

      cut : (history : History) → KeepsUp old history → IsHalted new → IsCutOff new history
      cut history k h =
          record {
            halted = h;
            remembers = remembers_same old new history same
                (remembered old history k);
            keeps = keeps history k;
          }

      each : (history : History) → KeepsUp old history → GoesOn new history
      each history (inr c) = stays new history (inr (cut history (inr c) (halted c.halted)))
      each history (inl s) = elim (stands history s) [
        | inl h ↦ stays new history (inr (cut history (inl s) h))
        | inr t ↦ stays new history (inl t)
      ]

  -- its journal is as it was
  pub stands_still : (old new : Replica D disk) → pair_of new ≡ pair_of old →
      standing_shown new ≡ standing_shown old → journal_of new ≡ journal_of old →
      (history : History) → Stands old history → Stands new history
  stands_still old new pair same e history s = record {
    remembers = remembers_same old new history same s.remembers;
    value = s.value;
    runs = subst (λ j. journal.Stands j s.value) (sym e) s.runs;
    means =
        subst (λ (n : ℕ). StandsFor n s.value.image s.value.payloads history) (sym pair) s.means;
  }

  -- a device call failed
  failed : (old new : Replica D disk) → pair_of new ≡ pair_of old →
      standing_shown new ≡ standing_shown old → (IsHalted old → ⊥) →
      IsHalted new → ((history : History) → Stands old history →
      StandsOrTried (pair_of old) (tried_shown new) (disk.seen (disk_of new)) history) →
      IsGrown old new
  failed old new pair same running halted keeps =
      all_kept old new (record { pair = pair; position = same_position old new same; each = each })
    where
      each : (history : History) → KeepsUp old history → GoesOn new history
      each history (inr c) = absurd (running c.halted)
      each history (inl s) = stays new history (inr (record {
        halted = halted;
        remembers = remembers_same old new history same s.remembers;
        keeps =
            subst (λ (n : ℕ). StandsOrTried n (tried_shown new) (disk.seen (disk_of new)) history)
            (sym pair) (keeps history s);
      }))

  -- events were added, or none
  pub added : (old new : Replica D disk) (more : List Event) → pair_of new ≡ pair_of old →
      position_shown old ≤ position_shown new → (IsHalted old → ⊥) →
      ((history : History) → Stands old history → Stands new (history ++ more)) → IsGrown old new
  added old new more pair position running stands =
      all_kept old new (record { pair = pair; position = position; each = each })
    where
      each : (history : History) → KeepsUp old history → GoesOn new history
      each history (inr c) = absurd (running c.halted)
      each history (inl s) = goes_on new history more (inl (stands history s))

  -- its disk was read anew
  pub reopened : (old new : Replica D disk) → pair_of new ≡ pair_of old →
      position_shown old ≤ position_shown new → ((history : History) →
      DiskStands (pair_of new) (disk.seen (disk_of old)) history → Stands new history) →
      IsGrown old new
  reopened old new pair position stands =
      all_kept old new (record { pair = pair; position = position; each = each })
    where
      of_new : (history : History) → DiskStands (pair_of old) (disk.seen (disk_of old)) history →
          Stands new history
      of_new history d =
          stands history
          (subst (λ (n : ℕ). DiskStands n (disk.seen (disk_of old)) history) (sym pair) d)

      each : (history : History) → KeepsUp old history → GoesOn new history
      each history k = elim (disk_keeps old history k) [
        | inl d ↦ stays new history (inl (of_new history d))
        | inr d ↦ goes_on new history (d.0 ∷ []) (inl (of_new (history ++ d.0 ∷ []) d.2))
      ]

  -- its history is as it was
  pub kept : (old new : Replica D disk) → pair_of new ≡ pair_of old →
      standing_shown new ≡ standing_shown old → (IsHalted old → ⊥) →
      ((history : History) → Stands old history → Stands new history) → IsGrown old new
  kept old new pair same running stands =
      added old new [] pair (same_position old new same) running (λ history s. subst
      (λ (h : History). Stands new h) (sym (append-nil history)) (stands history s))

  -- a device call failed, or its journal is as it was
  pub broken : (old new : Replica D disk) → pair_of new ≡ pair_of old →
      standing_shown new ≡ standing_shown old → (IsHalted old → ⊥) →
      IsHalted new ⊎ (journal_of new ≡ journal_of old) →
      (IsHalted new → (history : History) → Stands old history →
      StandsOrTried (pair_of old) (tried_shown new) (disk.seen (disk_of new)) history) →
      IsGrown old new
  broken old new pair same running (inl halted) keeps =
      failed old new pair same running halted (keeps halted)
  broken old new pair same running (inr e) keeps =
      kept old new pair same running (stands_still old new pair same e)

  -- its journal is as it was, though its disk was read, or is halted now
  pub not_read : (old new : Replica D disk) → pair_of new ≡ pair_of old →
      standing_shown new ≡ standing_shown old → tried_shown new ≡ tried_shown old →
      disk.seen (disk_of new) ≡ disk.seen (disk_of old) →
      IsHalted new ⊎ journal.IsAsBefore (journal_of old) (journal_of new) → IsGrown old new
  not_read old new pair same tried seen (inl halted) =
      unmoved old new pair same tried seen (λ h. halted) (λ history s. inl halted)
  not_read old new pair same tried seen (inr before) =
      unmoved old new pair same tried seen (λ h. before.readings.halted ∙ h)
      (λ history s. inr (record {
        remembers = remembers_same old new history same s.remembers;
        value = s.value;
        runs = before.stands s.value s.runs;
        means =
            subst (λ (n : ℕ). StandsFor n s.value.image s.value.payloads history)
            (sym pair) s.means;
      }))

  -- what a stop of a call may leave is kept
  pub of_write : (replica : Replica D disk) (history : History) (event : Event)
      (tried : Option Bytes) (bytes : List ℕ) → tried ≡ Some (event_spelling event) →
      KeepsBeforeOrAfter replica history event bytes →
      StandsOrTried (pair_of replica) tried bytes history
  of_write replica history event tried bytes is (inl k) = inl (keeps_stands k)
  of_write replica history event tried bytes is (inr k) = inr (event, is, keeps_stands k)

  pub of_checkpoint : (replica : Replica D disk) (history : History) (tried : Option Bytes)
      (bytes : List ℕ) → KeepsOrCompacts replica history bytes →
      StandsOrTried (pair_of replica) tried bytes history
  of_checkpoint replica history tried bytes (inl k) = inl (keeps_stands k)
  of_checkpoint replica history tried bytes (inr k) =
      inl (record { value = _; means = k.journal.means; stands = k.stands })
