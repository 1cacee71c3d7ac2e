-- What the items of a run over a shared replica leave, one after the other.
use Rattle.std.proofs.Common.{◌≡◌, ◌∙◌, ◌++◌, ◌∷◌, [], ℕ, List, Option, Result, Ok, Err, ap, refl}
use Rattle.std.proofs.Common.{None, Some, inl, inr, subst, sym}
use Rattle.std.specs.Prelude.{IfErr, IfNone, IfOk}
use Rattle.syn_archive.specs.Archive.{Stands as Keeps, disk_of, marks_shown, pair_of}
use Rattle.syn_archive.specs.declared.archive.Archive.{Archive}
use Rattle.syn_disk.proofs.LeftLemmas.{leaves_weaker}
use Rattle.syn_disk.specs.Stops.{LeavesOnly}
use Rattle.syn_disk.specs.declared.disk.Disk.{Ghosts}
use Rattle.syn_folder.specs.declared.stranger.Stranger.{Stranger}
use Rattle.syn_journal.proofs.Moments.{in_turn}
use Rattle.syn_lock.specs.declared.own.Pass.{Pass}
use Rattle.syn_model.specs.Archive as model
use Rattle.syn_model.specs.Decision.{Item}
use Rattle.syn_model.specs.Plan.{Trees, after_item}
use Rattle.syn_model.specs.Tree.{Tree}
use Rattle.syn_recon.specs.Items.{item_of}
use Rattle.syn_recon.specs.declared.item.Item.{Item as Planned}
use Rattle.syn_refusal.specs.declared.refusal.Refusal.{Refusal}
use Rattle.syn_refusal.specs.declared.refusal.Refusal.TheVariants.{Memory}
use Rattle.syn_replica.specs.declared.replica.Replica.{Replica}
use Rattle.syn_shared.specs.declared.shared.SharedReplica.{SharedReplica}
use Rattle.syn_reconcile.proofs.CarryLemmas.{if_none}
use Rattle.syn_reconcile.proofs.MarkLemmas.{still}
use Rattle.syn_reconcile.proofs.RunLemmas.{part_then}
use Rattle.syn_reconcile.specs.Settlings.{IsCarried, IsLeft, KeepsMarks, here, items_in}
use Rattle.syn_reconcile.specs.Settlings as settlings
use Rattle.syn_reconcile.specs.Shared.{HasEitherHeld, HasSeenMarks, HoldInTurn, HoldsFor, IsBeside}
use Rattle.syn_reconcile.specs.Shared.{IsCutShort, IsForReplica, IsUnrecorded, LeaveAlone}
use Rattle.syn_reconcile.specs.Shared.{after_all_seen, after_seen}
use Rattle.syn_reconcile.specs.Shared as shared
use Rattle.syn_reconcile.specs.Stops.{HasEitherMarks, HasMarks}
use Rattle.syn_reconcile.specs.Strangers.{LeavesAlone}
use Rattle.syn_reconcile.specs.declared.error.ReconcileError.{ReconcileError}
use Rattle.syn_reconcile.specs.declared.report.Settled.{Settled}

-- one settled item more
pub after_more_seen : (found : Trees) (settled : List Settled) (one : Settled)
    → after_all_seen found (settled ++ one ∷ []) ≡ after_seen (after_all_seen found settled) one
after_more_seen found [] one = refl
after_more_seen found (first ∷ more) one = after_more_seen (after_seen found first) more one

-- what was seen of the replica stays
pub right_stays : (found : Trees) (settled : List Settled)
    → (after_all_seen found settled).right ≡ found.right
right_stays found [] = refl
right_stays found (first ∷ more) = right_stays (after_seen found first) more

pub alone_more : (strangers : List Stranger) (seen : Tree) (settled : List Settled) (one : Settled)
    → LeaveAlone strangers seen settled
    → IfNone one.refused (LeavesAlone strangers seen (item_of one.item))
    → LeaveAlone strangers seen (settled ++ one ∷ [])
alone_more strangers seen [] one alone this = (this, tt)
alone_more strangers seen (first ∷ more) one alone this =
    (alone.0, alone_more strangers seen more one alone.1 this)

module _ {A : Type 0} {on_archive : Ghosts A} (found : Trees) (settled : List Settled)
    (folder : Tree) (marks : Archive A on_archive)
    (on : IsBeside (after_all_seen found settled) folder marks) where
  -- the trees before the item are those that the items before it leave
  found_is : here folder found.right (marks_shown marks) ≡ after_all_seen found settled
  found_is =
      ap (λ (t : Tree). here t found.right (marks_shown marks)) on.folder
      ∙ (ap (λ (t : Tree). here (after_all_seen found settled).left t (marks_shown marks))
      (sym (right_stays found settled))
      ∙ ap (λ (t : Tree). here (after_all_seen found settled).left
      (after_all_seen found settled).right t) on.marks.are)

  pub beside_more : (one : Settled) (left : Tree) (marked : Archive A on_archive)
      → IsCarried (item_of one.item) one.refused (here folder found.right (marks_shown marks)) left
      marked → IsBeside (after_all_seen found (settled ++ one ∷ [])) left marked
  beside_more one left marked carried =
      let this = subst (λ (t : Trees). IsCarried (item_of one.item) one.refused t left marked)
      found_is carried in
      subst (λ (t : Trees). IsBeside t left marked) (sym (after_more_seen found settled one))
      (record { folder = this.left; marks = this.marks })

  module _ {R : Type 0} {disk : Ghosts R} (held : SharedReplica R disk) (user since : ℕ) where
    pub hold_more : (one : Settled) (old before new : Pass (Replica R disk))
        → HoldInTurn held user since found settled old before
        → HoldsFor held user since folder (item_of one.item) one.refused before new
        → HoldInTurn held user since found (settled ++ one ∷ []) old new
    hold_more one old before new holds this =
        shared.more settled one old before new holds
        (subst (λ (t : Tree). HoldsFor held user since t (item_of one.item) one.refused before new)
        on.folder this)

module _ {A : Type 0} {on_archive : Ghosts A} (item same : Item) (is : item ≡ same)
    (folder seen left : Tree) (was now : Archive A on_archive)
    (result : Result (Option Refusal) ReconcileError) where
  -- what comes of an item comes of the item that it is
  pub carried_as : (held : Tree) → held ≡ folder
      → IfOk result (λ refused. IsCarried same refused (here held seen (marks_shown was)) left now)
      → IfOk result (λ refused. IsCarried item refused (here folder seen (marks_shown was)) left
      now)
  carried_as held at carried =
      subst (λ (i : Item). IfOk result
      (λ refused. IsCarried i refused (here folder seen (marks_shown was)) left now)) (sym is)
      (subst (λ (t : Tree). IfOk result
      (λ refused. IsCarried same refused (here t seen (marks_shown was)) left now)) at carried)

  -- the same where the folder stays
  pub kept_as : (held : Tree) → held ≡ folder
      → IfOk result (λ refused. IsCarried same refused (here held seen (marks_shown was)) held now)
      → IfOk result (λ refused. IsCarried item refused (here folder seen (marks_shown was)) folder
      now)
  kept_as held at carried =
      subst (λ (i : Item). IfOk result
      (λ refused. IsCarried i refused (here folder seen (marks_shown was)) folder now)) (sym is)
      (subst (λ (t : Tree). IfOk result
      (λ refused. IsCarried same refused (here t seen (marks_shown was)) t now)) at carried)

-- an item that is not for the replica leaves the lock alone
pub rests_as : {R : Type 0} {disk : Ghosts R} (item same : Item) → item ≡ same
    → ¬ IsForReplica same → (folder : Tree) (result : Result (Option Refusal) ReconcileError)
    (held : SharedReplica R disk) (user since : ℕ) (pass : Pass (Replica R disk))
    → IfOk result (λ refused. HoldsFor held user since folder item refused pass pass)
rests_as item same is none folder (Ok refused) held user since pass =
    shared.rests item refused pass (if_none refused (¬ IsForReplica item)
    (λ it. none (subst IsForReplica is it)))
rests_as item same is none folder (Err e) held user since pass = tt

-- what leaves the strangers alone does so whatever comes of it
pub apart_as : (result : Result (Option Refusal) ReconcileError) (P : Type 0) → P
    → IfOk result (λ refused. IfNone refused P)
apart_as (Ok refused) P p = if_none refused P p
apart_as (Err e) P p = tt

-- what holds anyway holds of a refusal
pub if_err_any : {X E : Type 0} (r : Result X E) (P : Type 0) → P → IfErr r (λ _. P)
if_err_any (Ok x) P p = tt
if_err_any (Err e) P p = p

-- an item that is not for the replica is left without its record
pub left_as : {R A : Type 0} {disk : Ghosts R} {on_archive : Ghosts A} (item same : Item)
    → item ≡ same → ¬ IsForReplica same → (trees : Trees) (tree folder : Tree)
    (was now : Archive A on_archive) (result : Result (Option Refusal) ReconcileError)
    (held : SharedReplica R disk) (user since : ℕ) (pass : Pass (Replica R disk))
    → IfErr result (λ _. IsLeft same trees folder was now)
    → IfErr result (λ _. IsUnrecorded item trees folder was now
    (λ refused. HoldsFor held user since tree item refused pass pass))
left_as item same is none trees tree folder was now (Ok refused) held user since pass left = tt
left_as item same is none trees tree folder was now (Err e) held user since pass
    (settlings.IsLeft.before same_left same_now) =
    shared.IsUnrecorded.undone Memory same_left same_now (shared.rests item (Some Memory) pass tt)
left_as item same is none trees tree folder was now (Err e) held user since pass
    (settlings.IsLeft.done done_left) =
    shared.IsUnrecorded.done
    (subst (λ (i : Item). folder ≡ (after_item trees i).left) (sym is) done_left)
    (shared.rests item None pass (λ it. none (subst IsForReplica is it)))

-- and one that is for neither side, too
pub marked_as : {R A : Type 0} {disk : Ghosts R} {on_archive : Ghosts A} (item same : Item)
    → item ≡ same → ¬ IsForReplica same → (trees : Trees)
    → trees.left ≡ (after_item trees same).left → (was now : Archive A on_archive)
    (result : Result (Option Refusal) ReconcileError)
    (held : SharedReplica R disk) (user since : ℕ) (pass : Pass (Replica R disk))
    → IfErr result (λ _. IsUnrecorded item trees trees.left was now
    (λ refused. HoldsFor held user since trees.left item refused pass pass))
marked_as item same is none trees stays was now result held user since pass =
    left_as item same is none trees trees.left trees.left was now result held user since pass
    (if_err_any result _ (settlings.IsLeft.done stays))

-- ---- what a stop leaves of the marks

either_same : (P : List ℕ → Type 0) (bytes : List ℕ) (pair : ℕ) (marks : Tree)
    → (HasMarks pair marks bytes → P bytes) → HasEitherMarks pair marks marks bytes → P bytes
either_same P bytes pair marks f (inl has) = f has
either_same P bytes pair marks f (inr has) = f has

with_held : (pair : ℕ) (before after same : Tree) → after ≡ same → (held : Type 0) → held
    → (bytes : List ℕ) → HasEitherMarks pair before after bytes
    → HasEitherHeld pair before same held bytes
with_held pair before after same is held it bytes (inl has) = inl has
with_held pair before after same is held it bytes (inr has) =
    inr (subst (λ (m : Tree). HasMarks pair m bytes) is has, it)

module _ {A : Type 0} {on_archive : Ghosts A} where
  -- from the one to the other
  abbrev pub Leaves : Archive A on_archive → Archive A on_archive → (List ℕ → Type 0) → Type 0
  Leaves old new P =
      LeavesOnly on_archive.moment on_archive.left_since (disk_of old) (disk_of new) P

  -- nothing is written
  pub unwritten : (only_now : (d : A) (c : List ℕ) → on_archive.left_since d (on_archive.moment d) c
      → on_archive.may_leave d c) (marks : Archive A on_archive) (kept : model.Archive)
      → Keeps marks kept → (P : List ℕ → Type 0)
      → ((bytes : List ℕ) → HasMarks (pair_of marks) (marks_shown marks) bytes → P bytes)
      → Leaves marks marks P
  unwritten only_now marks kept keeps P f =
      leaves_weaker on_archive.moment on_archive.left_since (disk_of marks) (disk_of marks)
      (HasEitherMarks (pair_of marks) (marks_shown marks) (marks_shown marks)) P
      (λ bytes. either_same P bytes (pair_of marks) (marks_shown marks) (f bytes))
      (still only_now marks kept (marks_shown marks) keeps)

  -- the holds were made anyway
  pub marks_held : (old new : Archive A on_archive) (after same : Tree) → after ≡ same
      → (held : Type 0) → held
      → Leaves old new (HasEitherMarks (pair_of old) (marks_shown old) after)
      → Leaves old new (HasEitherHeld (pair_of old) (marks_shown old) same held)
  marks_held old new after same is held it leaves =
      leaves_weaker on_archive.moment on_archive.left_since (disk_of old) (disk_of new)
      (HasEitherMarks (pair_of old) (marks_shown old) after)
      (HasEitherHeld (pair_of old) (marks_shown old) same held)
      (with_held (pair_of old) (marks_shown old) after same is held it) leaves

-- ---- a run that is under way

module _ {R : Type 0} {disk : Ghosts R} (held : SharedReplica R disk)
    (user since : ℕ) (items : List Item) (found : Trees) (old : Pass (Replica R disk)) where
  -- before the first item
  pub seen_first : (pair : ℕ) (marks : Tree) (bytes : List ℕ) → marks ≡ found.archive
      → HasMarks pair marks bytes → HasSeenMarks held user since pair items found old bytes
  seen_first pair marks bytes are has = record {
    settled = [];
    part = record { others = items; are = refl };
    now = old;
    holds = shared.none old;
    has = subst (λ (m : Tree). HasMarks pair m bytes) are has;
  }

  -- an item is under way
  module _ {A : Type 0} {on_archive : Ghosts A} (settled : List Settled) (item : Planned)
      (others : List Item) (are : items ≡ items_in settled ++ item_of item ∷ others) (folder : Tree)
      (marks : Archive A on_archive)
      (on : IsBeside (after_all_seen found settled) folder marks)
      (mid new : Pass (Replica R disk)) (holds : HoldInTurn held user since found settled old mid)
      (pair : ℕ) (same : pair_of marks ≡ pair) where
    abbrev pub then : Tree
    then = (after_item (here folder found.right (marks_shown marks)) (item_of item)).archive

    abbrev pub reached : Trees
    reached = after_all_seen found settled

    then_is : then ≡ (after_item reached (item_of item)).archive
    then_is =
        ap (λ (t : Trees). (after_item t (item_of item)).archive)
        (found_is found settled folder marks on)

    abbrev pub Holds : Type 0
    Holds = HoldsFor held user since folder (item_of item) None mid new

    reaches : (bytes : List ℕ)
        → HasEitherHeld (pair_of marks) (marks_shown marks) then Holds bytes
        → HasSeenMarks held user since pair items found old bytes
    reaches bytes (inl has) = record {
      settled = settled;
      part = record { others = item_of item ∷ others; are = are };
      now = mid;
      holds = holds;
      has =
          subst (λ (m : Tree). HasMarks pair m bytes) on.marks.are
          (subst (λ n. HasMarks n (marks_shown marks) bytes) same has);
    }
    reaches bytes (inr has) =
        let one : Settled = record { item = item; refused = None } in
        record {
          settled = settled ++ one ∷ [];
          part = part_then items settled one others are;
          now = new;
          holds = hold_more found settled folder marks on held user since one old mid new holds
              has.1;
          has =
              subst (λ (t : Trees). HasMarks pair t.archive bytes)
              (sym (after_more_seen found settled one))
              (subst (λ (m : Tree). HasMarks pair m bytes) then_is
              (subst (λ n. HasMarks n then bytes) same has.0));
        }

    pub step_seen : (first after : A)
        → LeavesOnly on_archive.moment on_archive.left_since first (disk_of marks)
        (HasSeenMarks held user since pair items found old)
        → LeavesOnly on_archive.moment on_archive.left_since (disk_of marks) after
        (HasEitherHeld (pair_of marks) (marks_shown marks) then Holds)
        → LeavesOnly on_archive.moment on_archive.left_since first after
        (HasSeenMarks held user since pair items found old)
    step_seen first after before step =
        in_turn on_archive.moment on_archive.left_since first (disk_of marks) after
        (HasSeenMarks held user since pair items found old) before
        (leaves_weaker on_archive.moment on_archive.left_since (disk_of marks) after
        (HasEitherHeld (pair_of marks) (marks_shown marks) then Holds)
        (HasSeenMarks held user since pair items found old) reaches step)

    either_of : (bytes : List ℕ)
        → HasEitherHeld (pair_of marks) (marks_shown marks) then Holds bytes
        → HasEitherMarks pair reached.archive (after_item reached (item_of item)).archive bytes
    either_of bytes (inl has) =
        inl (subst (λ (m : Tree). HasMarks pair m bytes) on.marks.are
        (subst (λ n. HasMarks n (marks_shown marks) bytes) same has))
    either_of bytes (inr has) =
        inr (subst (λ (m : Tree). HasMarks pair m bytes) then_is
        (subst (λ n. HasMarks n then bytes) same has.0))

    pub cut_short : (left : Tree) (marked : Archive A on_archive)
        → ((bytes : List ℕ) → on_archive.may_leave (disk_of marked) bytes
        → HasEitherHeld (pair_of marks) (marks_shown marks) then Holds bytes)
        → IsUnrecorded (item_of item) (here folder found.right (marks_shown marks)) left marks
        marked (λ refused. HoldsFor held user since folder (item_of item) refused mid new)
        → IsCutShort held user since pair items found old new left marked
    cut_short left marked leaves (shared.IsUnrecorded.undone why same_left same_now this) =
        shared.IsCutShort.undone settled (item_of item) others why mid are
        (record {
          folder = same_left ∙ on.folder;
          marks = subst (KeepsMarks reached.archive) (sym same_now) on.marks;
        }) holds
        (subst (λ (t : Tree). HoldsFor held user since t (item_of item) (Some why) mid new)
        on.folder this)
    cut_short left marked leaves (shared.IsUnrecorded.done done_left this) =
        shared.IsCutShort.done settled (item_of item) others mid are
        (done_left ∙ ap (λ (t : Trees). (after_item t (item_of item)).left)
        (found_is found settled folder marks on))
        (λ bytes may. either_of bytes (leaves bytes may)) holds
        (subst (λ (t : Tree). HoldsFor held user since t (item_of item) None mid new)
        on.folder this)
