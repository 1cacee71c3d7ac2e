-- An edit that is asked for. Of the input of a put at most one byte more is read than a file may
-- have.
use Rattle.std.proofs.Common.{◌≡◌, ◌⊎◌, inl, inr, ◌<◌, ◌≤◌, ◌-◌, ◌++◌, ◌∷◌, ◌∙◌, ℕ, Bool, true}
use Rattle.std.proofs.Common.{false, not, nat_le, [], List, length, take, sym, ap}
use Rattle.std.proofs.Common.{subst, refl, arith}
use Rattle.std.proofs.lemmas.Bool.{leb-true, leb-false}
use Rattle.std.proofs.lemmas.List.{take_all, length-take-le}
use Rattle.syn_model.specs.Event.{Edit, Event, Edited, Put, after_edit}
use Rattle.syn_model.specs.History.{History, IsHistory, tree_of, event_refusal}
use Rattle.syn_model.specs.Limits.{fits_replica}
use Rattle.syn_model.specs.Path.{Bytes, Path}
use Rattle.syn_model.specs.Refusal.{Refusal, Full, Cause, first_cause}
use Rattle.syn_model.specs.Standing.{edit_causes, full_position}
use Rattle.syn_model.specs.Laws.{HistoryFits, PutFits, StandingSteps}
use Rattle.syn_disk.specs.declared.disk.Disk.{Ghosts}
use Rattle.syn_disk.specs.Stops.{LeavesOnly}
use Rattle.syn_journal.specs.Layout.{half_size}
use Rattle.syn_replica.specs.Disks.{DiskKeeps, event_size}
use Rattle.syn_replica.specs.Replica.{KeepsBeforeOrAfter, Stands, pair_of, disk_of, left_shown}
use Rattle.syn_replica.specs.Replica.{generation_shown}
use Rattle.syn_replica.specs.Steps.{add_refusal, room_causes}
use Rattle.syn_replica.specs.declared.replica.Replica.{Replica}
use Rattle.syn_command.specs.Asked.{edit_asked}
use Rattle.syn_command.specs.declared.edit.TheConstants.{MOST_INPUT as most}
use Rattle.syn_cli.specs.declared.command.EditKind.{EditKind}
use Rattle.syn_cli.specs.declared.command.EditKind.TheVariants as kind

over : (n : ℕ) → n ≤ 16384 → 16384 < n → ⊥
over n a b = omega (arith, a, b)

cut_length : (left : Bytes) → most < length left → 16384 < length (take most left)
cut_length left long =
    subst (λ n. 16384 < n) (sym (length-take-le most left (omega (arith, long)))) (omega arith)

-- What was read is all that is left, or both are longer than a file may be.
longer : (bytes left : Bytes) → bytes ≡ take most left →
    (bytes ≡ left) ⊎ ((16384 < length bytes) × (16384 < length left))
longer bytes left e =
    elim (nat_le (length left) most) as (λ b. nat_le (length left) most ≡ b →
    (bytes ≡ left) ⊎ ((16384 < length bytes) × (16384 < length left))) [
      | true ↦ λ brief. inl (e ∙ take_all most left (leb-true (length left) most brief))
      | false ↦ λ no.
          let long : most < length left = leb-false (length left) most no in
          inr (subst (λ b. 16384 < length b) (sym e) (cut_length left long), omega (arith, long))
    ] refl

-- what is no longer than a file may be was read whole
whole : (bytes left : Bytes) → bytes ≡ take most left → length bytes ≤ 16384 → bytes ≡ left
whole bytes left e small =
    elim (longer bytes left e) as (λ _. bytes ≡ left)
    [ inl same ↦ same | inr both ↦ absurd (over (length bytes) small both.0) ]

-- what comes after a cause that holds does not count
first_until : (causes : List Cause) (why : Refusal) (others more rest : List Cause) →
    first_cause ((causes ++ (true, why) ∷ others) ++ more)
    ≡ first_cause ((causes ++ (true, why) ∷ others) ++ rest)
first_until [] why others more rest = refl
first_until ((true, other) ∷ causes) why others more rest = refl
first_until ((false, other) ∷ causes) why others more rest =
    first_until causes why others more rest

module _ (fits : HistoryFits) (put : PutFits) (steps : StandingSteps) where
  -- a put that came into a history has no more bytes than a file may have
  small : (history : History) (user : ℕ) (path : Path) (bytes : Bytes) →
      IsHistory (history ++ Edited user (Put path bytes) ∷ []) → length bytes ≤ 16384
  small history user path bytes h =
      put (tree_of history) path bytes
      (ap (λ s. fits_replica s.tree) (sym (steps history (Edited user (Put path bytes))))
      ∙ fits (history ++ Edited user (Put path bytes) ∷ []) h)

  -- so it is what is left of the input
  read_whole : (history : History) (user : ℕ) (path : Path) (bytes left : Bytes) →
      bytes ≡ take most left → IsHistory (history ++ Edited user (Put path bytes) ∷ []) →
      bytes ≡ left
  read_whole history user path bytes left e h = whole bytes left e (small history user path bytes h)

  too_long : (history : History) (path : Path) (bytes : Bytes) → 16384 < length bytes →
      fits_replica (after_edit (tree_of history) (Put path bytes)) ≡ false
  too_long history path bytes long =
      elim (fits_replica (after_edit (tree_of history) (Put path bytes)))
      as (λ b. fits_replica (after_edit (tree_of history) (Put path bytes)) ≡ b → b ≡ false) [
        | true ↦ λ yes. absurd (over (length bytes) (put (tree_of history) path bytes yes) long)
        | false ↦ λ _. refl
      ] refl

  -- and a longer input is refused as what was read of it is
  put_refusal : (history : History) (user : ℕ) (path : Path) (bytes left : Bytes) →
      bytes ≡ take most left → event_refusal history (Edited user (Put path bytes))
      ≡ event_refusal history (Edited user (Put path left))
  put_refusal history user path bytes left e =
      let causes = λ (b : Bool). first_cause (edit_causes (tree_of history) (Put path bytes)
      ++ ((not b, Full) ∷ full_position (length history))) in
      elim (longer bytes left e) as (λ _. event_refusal history (Edited user (Put path bytes))
      ≡ event_refusal history (Edited user (Put path left))) [
        | inl same ↦ ap (λ b. event_refusal history (Edited user (Put path b))) same
        | inr both ↦ ap causes
            (too_long history path bytes both.0 ∙ sym (too_long history path left both.1))
      ]

  -- whatever room the journal has
  put_addition : (room : ℕ) (history : History) (user : ℕ) (path : Path) (bytes left : Bytes) →
      bytes ≡ take most left → add_refusal room history (Edited user (Put path bytes))
      ≡ add_refusal room history (Edited user (Put path left))
  put_addition room history user path bytes left e =
      let causes = edit_causes (tree_of history) (Put path bytes) in
      let first = λ (b : Bool) (event : Event).
      first_cause ((causes ++ ((not b, Full) ∷ full_position (length history)))
      ++ room_causes room event) in
      let read = Edited user (Put path bytes) in
      let asked = Edited user (Put path left) in
      elim (longer bytes left e) as (λ _. add_refusal room history (Edited user (Put path bytes))
      ≡ add_refusal room history (Edited user (Put path left))) [
        | inl same ↦ ap (λ b. add_refusal room history (Edited user (Put path b))) same
        | inr both ↦ ap (λ b. first b read) (too_long history path bytes both.0)
            ∙ (first_until causes Full (full_position (length history)) (room_causes room read)
            (room_causes room asked)
            ∙ sym (ap (λ b. first b asked) (too_long history path left both.1)))
      ]

  -- an edit that came into a history is the one that was asked for
  pub same_edit : (history : History) (user : ℕ) (kind : EditKind) (path : Path) (left : Bytes)
      → IsHistory (history ++ Edited user (edit_asked kind path (take most left)) ∷ [])
      → edit_asked kind path (take most left) ≡ edit_asked kind path left
  same_edit history user kind.Put path left h =
      ap (Put path) (read_whole history user path (take most left) left refl h)
  same_edit history user kind.MakeDir path left h = refl
  same_edit history user kind.Remove path left h = refl
  same_edit history user (kind.Chmod mode) path left h = refl

  pub before_or_after : {D : Type 0} {disk : Ghosts D} (replica : Replica D disk)
      (history : History) (user : ℕ) (kind : EditKind) (path : Path) (left : Bytes) (edit : Edit) →
      edit ≡ edit_asked kind path (take most left) → (c : List ℕ) →
      KeepsBeforeOrAfter replica history (Edited user edit) c →
      KeepsBeforeOrAfter replica history (Edited user (edit_asked kind path left)) c
  before_or_after replica history user kind path left edit is c (inl before) = inl before
  before_or_after replica history user kind path left edit is c (inr after) =
      let Keeps : Edit → Type 0 = λ e. DiskKeeps (pair_of replica) (history ++ Edited user e ∷ [])
      (left_shown replica - event_size (Edited user e)) (generation_shown replica) c in
      let cut = subst Keeps is after in
      inr (subst Keeps (same_edit history user kind path left cut.stands.lawful) cut)

  -- what is asked for is refused as what was read of it is
  pub same_refusal : (history : History) (user : ℕ) (kind : EditKind) (path : Path) (left : Bytes)
      → event_refusal history (Edited user (edit_asked kind path (take most left)))
      ≡ event_refusal history (Edited user (edit_asked kind path left))
  same_refusal history user kind.Put path left =
      put_refusal history user path (take most left) left refl
  same_refusal history user kind.MakeDir path left = refl
  same_refusal history user kind.Remove path left = refl
  same_refusal history user (kind.Chmod mode) path left = refl

  -- and so it is whatever room the journal has
  pub same_addition : (room : ℕ) (history : History) (user : ℕ) (kind : EditKind) (path : Path)
      (left : Bytes) →
      add_refusal room history (Edited user (edit_asked kind path (take most left)))
      ≡ add_refusal room history (Edited user (edit_asked kind path left))
  same_addition room history user kind.Put path left =
      put_addition room history user path (take most left) left refl
  same_addition room history user kind.MakeDir path left = refl
  same_addition room history user kind.Remove path left = refl
  same_addition room history user (kind.Chmod mode) path left = refl

-- a stop of a replica to which nothing was done leaves what it keeps
pub not_written : {D : Type 0} {disk : Ghosts D} (only_now : (d : D) (c : List ℕ)
    → disk.left_since d (disk.moment d) c → disk.may_leave d c) (replica : Replica D disk)
    (history : History) (event : Event) → Stands replica history
    → LeavesOnly disk.moment disk.left_since (disk_of replica) (disk_of replica)
    (KeepsBeforeOrAfter replica history event)
not_written {disk} only_now replica history event stands =
    let runs = stands.runs in
    let keeps : DiskKeeps (pair_of replica) history (left_shown replica) (generation_shown replica)
    (disk.seen (disk_of replica)) = record {
      value = stands.value;
      journal = runs.holds;
      stands = stands.means;
      left_is = ap (λ gate. half_size - 1 - gate) (sym runs.gate);
    } in
    record {
      later = omega arith;
      each = λ c left. inl (subst (DiskKeeps (pair_of replica) history (left_shown replica)
          (generation_shown replica)) (sym (runs.durable c (only_now _ c left))) keeps);
      before = λ t c le left. inl left;
    }
